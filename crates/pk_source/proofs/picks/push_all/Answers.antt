use Rattle.std.proofs.Common.{◌≡◌, ◌==◌, ◌∷◌, ◌++◌, ◌+◌, ℕ, zero, suc, List, [], Some, length, sym, ap, ◌∙◌, subst, refl, length-append}
use Rattle.std.specs.List.{find}
use Rattle.pk_fields.specs.Fields.{row_of}
use Rattle.pk_source.specs.Found.{rows_told}
use Rattle.pk_source.specs.Picks.{IsPicked, pick_at, picked_told}
use Rattle.pk_source.specs.declared.picks.Picks.{Picks}
use Rattle.pk_source.specs.declared.picks.Table.{Table}
use Rattle.pk_source.proofs.picks.push_all.Goals as goal

pick_more : (P : Picks → Type 0) (places : List Picks) (x : Picks) (field : ℕ) → (field ≡ length places → P x) → P (pick_at places field) → P (pick_at (places ++ x ∷ []) field)
pick_more P [] x zero here old = here refl
pick_more P [] x (suc field) here old = old
pick_more P (p ∷ places) x zero here old = old
pick_more P (p ∷ places) x (suc field) here old = pick_more P places x field (λ is. here (ap suc is)) old

pub loop-number-preserved : goal.loop-number-preserved
loop-number-preserved c =
    let old = c.loop-number.all.items in
    let more = c.in_ok-push.ensures.items in
    record {
      count = ap length more ∙ length-append old (c.picks_in.result ∷ []) ∙ ap (λ n. n + 1) c.loop-number.invariant.count;
      picked = λ field table is span sizes.
          let own : field ≡ length old → picked_told span sizes field table.slots.now c.picks_in.result ≡ rows_told span sizes field table.slots.now = λ here.
          let same : c.field_of.result ≡ field = c.field_of.ensures ∙ sym c.loop-number.invariant.count ∙ sym here in
          subst (λ f. find (λ (t : Table). t.proto == (row_of f).proto) c.args.tables.now ≡ Some table → IsPicked f table.slots.now c.picks_in.result) same (c.picks_in.ensures table) is span sizes in
          rw more (pick_more (λ p. picked_told span sizes field table.slots.now p ≡ rows_told span sizes field table.slots.now) old c.picks_in.result field own (c.loop-number.invariant.picked field table is span sizes));
    }
