use Rattle.std.proofs.Common.{◌≡◌, ◌∙◌, ◌∷◌, ◌++◌, [], List, Some, sym, ap}
use Rattle.ip_join.specs.declared.fragment.Fragment.{Fragment}
use Rattle.ip_join.specs.declared.joined.Joined.{Joined}
use Rattle.ip_join.specs.declared.kept.Kept.TheVariants.{One}
use Rattle.ip_join.specs.KeyOrder.{key_of}
use Rattle.ip_join.specs.Forms.{place_of, lone_fragment}
use Rattle.ip_join.specs.Stands.{counted_for, left_after}
use Rattle.ip_join.proofs.StandsLemmas.{changed_by, lone_again, stands_more}
use Rattle.ip_join.proofs.Taking.{pending_is}
use Rattle.ip_join.proofs.joins.Joins.begin.Goals as goal

pub returns-then-waits_alone-clause-joined : goal.returns-then-waits_alone-clause-joined
returns-then-waits_alone-clause-joined c = λ past none.
    pending_is past (record { head = c.args.head.now; frame = c.args.frame; bytes = c.args.payload.now }) (sym c.waits_alone.ensures ∙ c.if-waits_alone.true) none

pub returns-then-waits_alone-clause-stands : goal.returns-then-waits_alone-clause-stands
returns-then-waits_alone-clause-stands c = λ past none stands.
    let new : Fragment = record { head = c.args.head.now; frame = c.args.frame; bytes = c.args.payload.now } in
    let kept = c.in_ok-new.field-0 in
    let lone : kept.value ≡ (place_of new.head new.frame, new.bytes) = c.in_ok-new.ensures.ok ∙ c.in_ok-lone.ensures in
    stands_more past c.args.self.now c.put.new.self new (Some (One kept)) stands
    (changed_by c.args.self.now c.put.new.self c.args.key (key_of new.head) (Some (One kept)) c.requires c.in_ok-put.ensures.kept)
    (λ g same.
    ap (λ l. lone_fragment g.head l ∷ []) lone ∙ ap (λ (f : Fragment). f ∷ []) (lone_again new g same)
    ∙ ap (λ (c : List Fragment). c ++ new ∷ []) (sym none)
    ∙ ap (λ (j : Joined). left_after j (counted_for new past ++ new ∷ [])) (pending_is past new (sym c.waits_alone.ensures ∙ c.if-waits_alone.true) none))
