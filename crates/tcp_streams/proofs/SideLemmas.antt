-- The side of a segment, by which of its two ends comes first.
use Rattle.std.proofs.Common.{◌≡◌, Bool, true, false, not, cond, refl, sym, ap, ◌∙◌, inl, inr, arith}
use Rattle.std.proofs.lemmas.Bool.{false≢true, cases_Bool, eq-eqb}
use Rattle.std.proofs.lemmas.Bool.Decides.{leb_tells}
use Rattle.tcp_streams.specs.declared.ends.End.{End}
use Rattle.tcp_streams.specs.declared.ends.Ends.{Ends}
use Rattle.tcp_streams.specs.declared.segment.Segment.{Segment}
use Rattle.tcp_streams.specs.Conversations.{same_bool, same_end, same_ends, comes_first, end_of_endpoint, ends_between, ends_of}
use Rattle.tcp_streams.specs.Labels.{side_from}
use Rattle.tcp_streams.specs.PlacesKept.{is_turned}
use Rattle.tcp_streams.proofs.StandsLemmas.{same_end_is}

same_bool_itself : (b : Bool) → same_bool b b ≡ true
same_bool_itself true = refl
same_bool_itself false = refl

same_end_itself : (a : End) → same_end a a ≡ true
same_end_itself a = rw (same_bool_itself a.six, eq-eqb a.address a.address refl, eq-eqb a.port a.port refl) refl

pub same_ends_itself : (ends : Ends) → same_ends ends ends ≡ true
same_ends_itself ends = rw (same_end_itself ends.lesser, same_end_itself ends.greater) refl

comes_itself : (a : End) → comes_first a a ≡ true
comes_itself a = rw (same_bool_itself a.six, eq-eqb a.address a.address refl) (elim (leb_tells a.port a.port) [
  | inl w ↦ w.0
  | inr w ↦ absurd (omega (arith, w.1))
])

in_order : (a b : End) → comes_first a b ≡ true → ends_between a b ≡ record { lesser = a; greater = b }
unfolding ends_between
in_order a b e = rw e refl

turned_over : (a b : End) → comes_first a b ≡ false → ends_between a b ≡ record { lesser = b; greater = a }
unfolding ends_between
turned_over a b e = rw e refl

side_is : (a b c d : End) → ends_between a b ≡ ends_between c d → not (same_end a c) ≡ cond (not (comes_first c d)) (not (not (comes_first a b))) (not (comes_first a b))
side_is a b c d same = elim (cases_Bool (comes_first a b)) [
  | inl one ↦ elim (cases_Bool (comes_first c d)) [
    | inl other ↦
        let both = sym (in_order a b one) ∙ same ∙ in_order c d other in
        let is : a ≡ c = ap (λ (e : Ends). e.lesser) both in
        let yes : same_end a c ≡ true = ap (same_end a) (sym is) ∙ same_end_itself a in rw (one, other, yes) refl
    | inr other ↦
        let both = sym (in_order a b one) ∙ same ∙ turned_over c d other in
        let is : a ≡ d = ap (λ (e : Ends). e.lesser) both in
        let no : same_end a c ≡ false = elim (cases_Bool (same_end a c)) [
          | inl t ↦ absurd (false≢true (sym other ∙ ap (comes_first c) (sym is ∙ same_end_is a c t) ∙ comes_itself c))
          | inr f ↦ f
        ] in
        rw (one, other, no) refl
  ]
  | inr one ↦ elim (cases_Bool (comes_first c d)) [
    | inl other ↦
        let both = sym (turned_over a b one) ∙ same ∙ in_order c d other in
        let is : b ≡ c = ap (λ (e : Ends). e.lesser) both in
        let no : same_end a c ≡ false = elim (cases_Bool (same_end a c)) [
          | inl t ↦ absurd (false≢true (sym one ∙ ap (comes_first a) (is ∙ sym (same_end_is a c t)) ∙ comes_itself a))
          | inr f ↦ f
        ] in
        rw (one, other, no) refl
    | inr other ↦
        let both = sym (turned_over a b one) ∙ same ∙ turned_over c d other in
        let is : a ≡ c = ap (λ (e : Ends). e.greater) both in
        let yes : same_end a c ≡ true = ap (same_end a) (sym is) ∙ same_end_itself a in rw (one, other, yes) refl
  ]
]

pub turned_side : (s opening : Segment) → ends_of s ≡ ends_of opening → side_from opening.from s ≡ cond (is_turned opening) (not (is_turned s)) (is_turned s)
turned_side s opening same = side_is (end_of_endpoint s.from) (end_of_endpoint s.to) (end_of_endpoint opening.from) (end_of_endpoint opening.to) same
