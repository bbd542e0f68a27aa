-- The conversations over IPv4 have keys of their own.
use Rattle.std.proofs.Common.{◌≡◌, ℕ, List, ◌^◌, Bool, true, false, cond, Option, None, Some, is_some, unwrap_or, eqb, ltb, refl, sym, ap, ◌∙◌, inl, inr}
use Rattle.std.proofs.lemmas.Bool.{false≢true, cases_Bool, and_parts, eqb-true, eq-eqb}
use Rattle.std.specs.BTreeMap as tree
use Rattle.std.specs.Map.{lookup}
use Rattle.std.specs.Ordering.{is_eq}
use Rattle.tcp_streams.specs.declared.ends.End.{End}
use Rattle.tcp_streams.specs.declared.ends.Ends.{Ends}
use Rattle.tcp_streams.specs.declared.ends.FourEnds.{FourEnds}
use Rattle.tcp_streams.specs.declared.newest.Newest.{Newest}
use Rattle.tcp_streams.specs.Conversations.{narrow, four_at, four_of, same_ends, number_at, number_of}
use Rattle.tcp_streams.specs.KeyOrder.{four_cmp, ends_cmp}
use Rattle.tcp_streams.proofs.Keys.{ends_tied, four_tied, same_four}
use Rattle.tcp_streams.proofs.StandsLemmas.{same_ends_is}
use Rattle.tcp_streams.proofs.SideLemmas.{same_ends_itself}

abbrev wide : ℕ → ℕ → End
wide address port = record { six = false; address = address; port = port }

abbrev wide_ends : FourEnds → Ends
wide_ends four = record { lesser = wide four.lesser four.lesser_port; greater = wide four.greater four.greater_port }

narrow_is : (end : End) (address : ℕ) → narrow end ≡ Some address → end ≡ wide address end.port
narrow_is end address = elim (cases_Bool end.six) [
  | inl t ↦ rw t (λ e. absurd (false≢true (ap is_some e)))
  | inr f ↦ rw f (elim (cases_Bool (ltb end.address (2 ^ 32))) [
    | inl low ↦ rw low (λ e. let is : end.address ≡ address = ap (λ (o : Option ℕ). unwrap_or o 0) e in λ i. record { six = false; address = is i; port = end.port })
    | inr high ↦ rw high (λ e. absurd (false≢true (ap is_some e)))
  ])
]

four_is : (ends : Ends) (four : FourEnds) → four_of ends ≡ Some four → ends ≡ wide_ends four
four_is ends four =
    elim (narrow ends.lesser) as (λ (o : Option ℕ). narrow ends.lesser ≡ o → four_at o (narrow ends.greater) ends.lesser.port ends.greater.port ≡ Some four → ends ≡ wide_ends four) [
      | None ↦ λ a e. absurd (false≢true (ap is_some e))
      | Some low ↦ λ a.
          elim (narrow ends.greater) as (λ (o : Option ℕ). narrow ends.greater ≡ o → four_at (Some low) o ends.lesser.port ends.greater.port ≡ Some four → ends ≡ wide_ends four) [
            | None ↦ λ b e. absurd (false≢true (ap is_some e))
            | Some high ↦ λ b e.
                let made : FourEnds = record { lesser_port = ends.lesser.port; greater_port = ends.greater.port; lesser = low; greater = high } in
                let is : made ≡ four = ap (λ (o : Option FourEnds). unwrap_or o made) e in
                let first : ends.lesser ≡ wide low ends.lesser.port = narrow_is ends.lesser low a in
                let second : ends.greater ≡ wide high ends.greater.port = narrow_is ends.greater high b in
                let whole : ends ≡ wide_ends made = λ i. record { lesser = first i; greater = second i } in
                whole ∙ ap wide_ends is
          ] refl
    ] refl

same_four_is : (a b : FourEnds) → same_four a b ≡ true → a ≡ b
same_four_is a b e =
    let one = and_parts (eqb a.lesser_port b.lesser_port) _ e in
    let two = and_parts (eqb a.greater_port b.greater_port) _ one.1 in
    let three = and_parts (eqb a.lesser b.lesser) _ two.1 in
    let lesser_port = eqb-true a.lesser_port b.lesser_port one.0 in
    let greater_port = eqb-true a.greater_port b.greater_port two.0 in
    let lesser = eqb-true a.lesser b.lesser three.0 in
    let greater = eqb-true a.greater b.greater three.1 in
    λ i. record { lesser_port = lesser_port i; greater_port = greater_port i; lesser = lesser i; greater = greater i }

same_four_itself : (a : FourEnds) → same_four a a ≡ true
same_four_itself a = rw (eq-eqb a.lesser_port a.lesser_port refl, eq-eqb a.greater_port a.greater_port refl, eq-eqb a.lesser a.lesser refl, eq-eqb a.greater a.greater refl) refl

not_true : (b : Bool) → (b ≡ true → ⊥) → b ≡ false
not_true true never = absurd (never refl)
not_true false never = refl

-- one key stands for one conversation
same_keys : (ends other : Ends) (four key : FourEnds) → four_of ends ≡ Some four → four_of other ≡ Some key → same_four four key ≡ same_ends ends other
same_keys ends other four key is other_is = elim (cases_Bool (same_four four key)) [
  | inl t ↦
      let same : ends ≡ other = four_is ends four is ∙ ap wide_ends (same_four_is four key t) ∙ sym (four_is other key other_is) in
      t ∙ sym (ap (same_ends ends) (sym same) ∙ same_ends_itself ends)
  | inr f ↦ f ∙ sym (not_true (same_ends ends other) (λ e.
      let both : Some four ≡ Some key = sym is ∙ ap four_of (same_ends_is ends other e) ∙ other_is in
      let same : four ≡ key = ap (λ (o : Option FourEnds). unwrap_or o four) both in
      false≢true (sym f ∙ ap (same_four four) (sym same) ∙ same_four_itself four)))
]

apart_keys : (ends other : Ends) (is there : Option FourEnds) → four_of ends ≡ is → four_of other ≡ there → (is_some is ≡ is_some there → ⊥) → same_ends ends other ≡ false
apart_keys ends other is there a b apart = not_true (same_ends ends other) (λ e. apart (ap is_some (sym a ∙ ap four_of (same_ends_is ends other e) ∙ b)))

pub four_set : (old new : Newest) (ends : Ends) (four : FourEnds) (number : ℕ) → four_of ends ≡ Some four → new.others ≡ old.others
    → ((key : FourEnds) → tree.get four_cmp new.four key ≡ cond (is_eq (four_cmp four key)) (Some number) (tree.get four_cmp old.four key))
    → (other : Ends) → number_of new other ≡ cond (same_ends ends other) (Some number) (number_of old other)
four_set old new ends four number is others updates other =
    elim (four_of other) as (λ (o : Option FourEnds). four_of other ≡ o → number_at new o other ≡ cond (same_ends ends other) (Some number) (number_at old o other)) [
      | None ↦ λ e. let apart : same_ends ends other ≡ false = apart_keys ends other (Some four) None is e (λ x. false≢true (sym x)) in
          rw apart (ap (λ m. tree.get ends_cmp m other) others)
      | Some key ↦ λ e. updates key ∙ ap (λ (b : Bool). cond b (Some number) (tree.get four_cmp old.four key)) (four_tied four key ∙ same_keys ends other four key is e)
    ] refl

pub other_set : (old new : Newest) (ends : Ends) (number : ℕ) → four_of ends ≡ None → new.four ≡ old.four
    → ((key : Ends) → tree.get ends_cmp new.others key ≡ cond (is_eq (ends_cmp ends key)) (Some number) (tree.get ends_cmp old.others key))
    → (other : Ends) → number_of new other ≡ cond (same_ends ends other) (Some number) (number_of old other)
other_set old new ends number is four updates other =
    elim (four_of other) as (λ (o : Option FourEnds). four_of other ≡ o → number_at new o other ≡ cond (same_ends ends other) (Some number) (number_at old o other)) [
      | None ↦ λ e. updates other ∙ ap (λ (b : Bool). cond b (Some number) (tree.get ends_cmp old.others other)) (ends_tied ends other)
      | Some key ↦ λ e. let apart : same_ends ends other ≡ false = apart_keys ends other None (Some key) is e (λ x. false≢true x) in
          rw apart (ap (λ m. tree.get four_cmp m key) four)
    ] refl

pub number_kept : (old new : Newest) → new.four.entries ≡ old.four.entries → new.others.entries ≡ old.others.entries
    → (other : Ends) → number_of new other ≡ number_of old other
number_kept old new four others other =
    elim (four_of other) as (λ (o : Option FourEnds). number_at new o other ≡ number_at old o other) [
      | None ↦ ap (λ (es : List (Ends × ℕ)). lookup (tree.is_at (ends_cmp other)) es) others
      | Some key ↦ ap (λ (es : List (FourEnds × ℕ)). lookup (tree.is_at (four_cmp key)) es) four
    ]
