use Rattle.std.proofs.Common.{◌≡◌, ◌∷◌, ◌++◌, ◌+◌, ◌-◌, ◌<◌, ℕ, zero, suc, List, [], Some, None, drop, length, slice_get, ap, sym, ◌∙◌, arith, append_assoc, append-nil, length-append, rules}
use Rattle.std.proofs.lemmas.List.{drop_all, drop_more}
use Rattle.std.proofs.lemmas.Option.{get_or_from_slice_get, slice_get_within}
use Rattle.pk_base.specs.declared.value.Value.{Value}
use Rattle.pk_tree.specs.FieldValues.{values_of}
use Rattle.pk_source.proofs.outline.push_all.Goals as goal

next_is : (all : List Value) (n : ℕ) (v : Value) → slice_get all n ≡ Some v → drop n all ≡ v ∷ drop (n + 1) all
next_is all n v is =
    drop_more all n v (slice_get_within all n v is) ∙ ap (λ x. x ∷ drop (n + 1) all) (get_or_from_slice_get all n v v is)

none_left : (all : List Value) (n : ℕ) → slice_get all n ≡ None → drop n all ≡ []
none_left [] n is = drop_all n [] (omega arith)
none_left (x ∷ xs) zero is = absurd (cc)
none_left (x ∷ xs) (suc n) is = none_left xs n is

one_more : (all old new : List Value) (v : Value) → slice_get all (length old) ≡ Some v → new ≡ old ++ v ∷ [] → old ++ drop (length old) all ≡ all → new ++ drop (length new) all ≡ all
one_more all old new v is more so_far =
    let count : length new ≡ length old + 1 = ap length more ∙ length-append old (v ∷ []) in
    rw (count, more, append_assoc old (v ∷ []) (drop (length old + 1) all), ← next_is all (length old) v is) so_far

fewer : (all old new : List Value) (v : Value) → slice_get all (length old) ≡ Some v → new ≡ old ++ v ∷ [] → length all - length new < length all - length old
fewer all old new v is more =
    let count : length new ≡ length old + 1 = ap length more ∙ length-append old (v ∷ []) in
    omega (arith, slice_get_within all (length old) v is)

pub values-preserved : goal.values-preserved
values-preserved c =
    let all = values_of c.args.outline.now c.args.field c.args.layers.now in
    let count : c.len.result ≡ length c.values.values.items = search rules in
    let found : slice_get all (length c.values.values.items) ≡ Some c.in-Some.value = sym (ap (slice_get all) count) ∙ sym c.in_ok-value.ensures ∙ c.in-Some.is in
    one_more all c.values.values.items _ c.in-Some.value found c.in_ok-push.ensures.items c.values.invariant

pub values-smaller : goal.values-smaller
values-smaller c =
    let all = values_of c.args.outline.now c.args.field c.args.layers.now in
    let count : c.len.result ≡ length c.values.values.items = search rules in
    let found : slice_get all (length c.values.values.items) ≡ Some c.in-Some.value = sym (ap (slice_get all) count) ∙ sym c.in_ok-value.ensures ∙ c.in-Some.is in
    fewer all c.values.values.items _ c.in-Some.value found c.in_ok-push.ensures.items

pub returns : goal.returns
returns c =
    let all = values_of c.args.outline.now c.args.field c.args.layers.now in
    let count : c.len.result ≡ length c.values.values.items = search rules in
    let none : slice_get all (length c.values.values.items) ≡ None = sym (ap (slice_get all) count) ∙ sym c.in_ok-value.ensures ∙ c.in_default.is in
    rw (none_left all (length c.values.values.items) none, append-nil) at c.values.invariant
