-- Pairs of two lists, decided by their ends.
use Rattle.std.proofs.Common.{◌≡◌, ◌⊎◌, inl, inr, ⊎_elim, Bool as Truth, true, false, List, [], ◌∷◌, refl, sym, ap, subst, ◌∙◌}
use Rattle.std.specs.Prelude.{◌&&◌, ◌||◌, not}
use Rattle.std.proofs.lemmas.Bool.{and_from, and_parts, both_ways, cond_both, not-true, or_cases, or_left, or_right, true_from_ne_false}
use Rattle.std.proofs.lemmas.Cmp.{alike_right, tied_itself, upto}
use Rattle.std.specs.Cmp.{IsTotalOrder}
use Rattle.std.specs.List.{list_any, list_all}
use Rattle.std.specs.Ordering.{is_eq, is_ne, is_lt, is_gt, is_le, is_ge, ordering_reverse}
use Rattle.std.specs.declared.cmp.Ordering.{Ordering}
use Rattle.std.specs.declared.cmp.Ordering.TheVariants as orders
use Rattle.flt_syntax.specs.declared.ast.Choice.{Choice}
use Rattle.flt_syntax.specs.declared.ast.Choice.TheVariants.{Any, All}
use Rattle.flt_typed.specs.declared.relation.Relation.{Relation}
use Rattle.flt_typed.specs.declared.relation.Relation.TheVariants.{Equal, Unequal, Greater, Less, AtLeast, AtMost, Contains}
use Rattle.flt_typed.specs.declared.arithmetic.Extreme.{Extreme}
use Rattle.flt_typed.specs.declared.arithmetic.Extreme.TheVariants.{Least, Greatest}
use Rattle.flt_typed.specs.Relations.{holds_in}
use Rattle.flt_lists.specs.Keys.{decisive, favoured, further, furthest, is_order, opposite, pairs_hold}

-- truths
same_truth : (a b : Truth) → (a ≡ true → b ≡ true) → (b ≡ true → a ≡ true) → a ≡ b
same_truth true b there back = sym (there refl)
same_truth false true there back = absurd (cc (back refl))
same_truth false false there back = refl

-- a value of a list
abbrev In : {K : Type 0} → K → List K → Type 0
In k [] = ⊥
In k (l ∷ ls) = (k ≡ l) ⊎ In k ls

any_found : {K : Type 0} (p : K → Truth) (ks : List K) → list_any p ks ≡ true → (k : K) × In k ks × (p k ≡ true)
any_found p [] e = absurd (cc e)
any_found p (k ∷ ks) e =
    ⊎_elim (λ h. (k, inl refl, h)) (λ h. let f = any_found p ks h in (f.0, inr f.1, f.2)) (or_cases (p k) (list_any p ks) e)

any_of : {K : Type 0} (p : K → Truth) (k : K) (ks : List K) → In k ks → p k ≡ true → list_any p ks ≡ true
any_of p k [] i e = absurd i
any_of p k (l ∷ ls) (inl same) e = or_left (p l) (list_any p ls) (subst (λ x. p x ≡ true) same e)
any_of p k (l ∷ ls) (inr i) e = or_right (p l) (list_any p ls) (any_of p k ls i e)

all_at : {K : Type 0} (p : K → Truth) (k : K) (ks : List K) → list_all p ks ≡ true → In k ks → p k ≡ true
all_at p k [] e i = absurd i
all_at p k (l ∷ ls) e (inl same) = subst (λ x. p x ≡ true) (sym same) (and_parts (p l) (list_all p ls) e).0
all_at p k (l ∷ ls) e (inr i) = all_at p k ls (and_parts (p l) (list_all p ls) e).1 i

all_of : {K : Type 0} (p : K → Truth) (ks : List K) → ((k : K) → In k ks → p k ≡ true) → list_all p ks ≡ true
all_of p [] each = refl
all_of p (k ∷ ks) each = and_from (p k) (list_all p ks) (each k (inl refl)) (all_of p ks (λ l i. each l (inr i)))

-- orders
lt_gt : (o : Ordering) → is_lt (ordering_reverse o) ≡ is_gt o
lt_gt orders.Less = refl
lt_gt orders.Equal = refl
lt_gt orders.Greater = refl

lt_not_gt : (o : Ordering) → is_lt o ≡ true → is_gt o ≡ false
lt_not_gt orders.Less e = refl
lt_not_gt orders.Equal e = absurd (cc e)
lt_not_gt orders.Greater e = absurd (cc e)

gt_not_lt : (o : Ordering) → is_gt o ≡ true → is_lt o ≡ false
gt_not_lt orders.Less e = absurd (cc e)
gt_not_lt orders.Equal e = absurd (cc e)
gt_not_lt orders.Greater e = refl

ge_not_lt : (o : Ordering) → is_ge o ≡ not (is_lt o)
ge_not_lt orders.Less = refl
ge_not_lt orders.Equal = refl
ge_not_lt orders.Greater = refl

le_not_gt : (o : Ordering) → is_le o ≡ not (is_gt o)
le_not_gt orders.Less = refl
le_not_gt orders.Equal = refl
le_not_gt orders.Greater = refl

eq_only : (o : Ordering) → is_eq o ≡ true → o ≡ orders.Equal
eq_only orders.Less e = absurd (cc e)
eq_only orders.Equal e = refl
eq_only orders.Greater e = absurd (cc e)

ne_is : (o : Ordering) → is_ne o ≡ not (is_eq o)
ne_is orders.Less = refl
ne_is orders.Equal = refl
ne_is orders.Greater = refl

or_not : (a b : Truth) → (not a || not b) ≡ not (a && b)
or_not true b = refl
or_not false b = refl

and_not : (a b : Truth) → (not a && not b) ≡ not (a || b)
and_not true b = refl
and_not false b = refl

module _ {K : Type 0} {R : K → K → Ordering} (o : IsTotalOrder R) where
  lt_turned : (k l : K) → is_lt (R k l) ≡ is_gt (R l k)
  lt_turned k l = ap is_lt (o.antisymm k l) ∙ lt_gt (R l k)

  -- no further than an end
  abbrev Bounds : Extreme → K → K → Type 0
  Bounds Least end k = is_gt (R end k) ≡ false
  Bounds Greatest end k = is_gt (R k end) ≡ false

  bounds_itself : (e : Extreme) (k : K) → Bounds e k k
  bounds_itself Least k = ap is_gt (tied_itself o k)
  bounds_itself Greatest k = ap is_gt (tied_itself o k)

  bounds_more : (e : Extreme) (a b c : K) → Bounds e a b → Bounds e b c → Bounds e a c
  bounds_more Least a b c p q = upto o a b c p q
  bounds_more Greatest a b c p q = upto o c b a q p

  bounds_turned : (e : Extreme) (a b : K) → Bounds e a b → Bounds (opposite e) b a
  bounds_turned Least a b p = p
  bounds_turned Greatest a b p = p

  further_bounds : (e : Extreme) (k l : K) → Bounds e (further R e k l) k × Bounds e (further R e k l) l
  further_bounds Least k l =
      cond_both (is_lt (R l k)) l k (λ m. Bounds Least m k × Bounds Least m l)
      (λ lower. (lt_not_gt (R l k) lower, bounds_itself Least l))
      (λ not_lower. (bounds_itself Least k, sym (lt_turned l k) ∙ not_lower))
  further_bounds Greatest k l =
      cond_both (is_gt (R l k)) l k (λ m. Bounds Greatest m k × Bounds Greatest m l)
      (λ higher. (sym (lt_turned l k) ∙ gt_not_lt (R l k) higher, bounds_itself Greatest l))
      (λ not_higher. (bounds_itself Greatest k, not_higher))

  further_one : (e : Extreme) (k l : K) → (further R e k l ≡ k) ⊎ (further R e k l ≡ l)
  further_one Least k l = cond_both (is_lt (R l k)) l k (λ m. (m ≡ k) ⊎ (m ≡ l)) (λ is. inr refl) (λ is. inl refl)
  further_one Greatest k l = cond_both (is_gt (R l k)) l k (λ m. (m ≡ k) ⊎ (m ≡ l)) (λ is. inr refl) (λ is. inl refl)

  furthest_first : (e : Extreme) (k : K) (ls : List K) → Bounds e (furthest R e k ls) k
  furthest_first e k [] = bounds_itself e k
  furthest_first e k (l ∷ ls) =
      bounds_more e (furthest R e (further R e k l) ls) (further R e k l) k (furthest_first e (further R e k l) ls) (further_bounds e k l).0

  furthest_bounds : (e : Extreme) (k : K) (ls : List K) (m : K) → In m ls → Bounds e (furthest R e k ls) m
  furthest_bounds e k [] m i = absurd i
  furthest_bounds e k (l ∷ ls) m (inl same) =
      subst (λ x. Bounds e (furthest R e (further R e k l) ls) x) (sym same)
      (bounds_more e (furthest R e (further R e k l) ls) (further R e k l) l (furthest_first e (further R e k l) ls) (further_bounds e k l).1)
  furthest_bounds e k (l ∷ ls) m (inr i) = furthest_bounds e (further R e k l) ls m i

  furthest_in : (e : Extreme) (k : K) (ls : List K) → (furthest R e k ls ≡ k) ⊎ In (furthest R e k ls) ls
  furthest_in e k [] = inl refl
  furthest_in e k (l ∷ ls) =
      ⊎_elim
      (λ same. ⊎_elim (λ first. inl (same ∙ first)) (λ other. inr (inl (same ∙ other))) (further_one e k l))
      (λ i. inr (inr i))
      (furthest_in e (further R e k l) ls)

  furthest_among : (e : Extreme) (k : K) (ks : List K) → In (furthest R e k (k ∷ ks)) (k ∷ ks)
  furthest_among e k ks = ⊎_elim (λ same. inl same) (λ i. i) (furthest_in e k (k ∷ ks))

  -- a relation that holds still holds further out
  strict_out : (a b c d : K) → is_gt (R a c) ≡ false → is_gt (R d b) ≡ false → is_gt (R a b) ≡ true → is_gt (R c d) ≡ true
  strict_out a b c d p q holds =
      true_from_ne_false (is_gt (R c d)) (λ no. both_ways (is_gt (R a b)) (upto o a c b p (upto o c d b no q)) holds)

  weak_out : (a b c d : K) → is_gt (R a c) ≡ false → is_gt (R d b) ≡ false → not (is_gt (R b a)) ≡ true → not (is_gt (R d c)) ≡ true
  weak_out a b c d p q holds =
      ap not (upto o d b c q (upto o b a c (not-true (is_gt (R b a)) holds) p))

  -- a relation by the greater of two
  less_is : (k l : K) → is_lt (R k l) ≡ is_gt (R l k)
  less_is k l = lt_turned k l

  at_least_is : (k l : K) → is_ge (R k l) ≡ not (is_gt (R l k))
  at_least_is k l = ge_not_lt (R k l) ∙ ap not (lt_turned k l)

  holds_further : (r : Relation) → is_order r ≡ true → (k l m n : K) → Bounds (favoured r) m k → Bounds (opposite (favoured r)) n l → holds_in r (R k l) ≡ true → holds_in r (R m n) ≡ true
  holds_further Greater is k l m n p q holds = strict_out k l m n p q holds
  holds_further AtLeast is k l m n p q holds = at_least_is m n ∙ weak_out k l m n p q (sym (at_least_is k l) ∙ holds)
  holds_further Less is k l m n p q holds = less_is m n ∙ strict_out l k n m q p (sym (less_is k l) ∙ holds)
  holds_further AtMost is k l m n p q holds = le_not_gt (R m n) ∙ weak_out l k n m q p (sym (le_not_gt (R k l)) ∙ holds)
  holds_further Equal is k l m n p q holds = absurd (cc is)
  holds_further Unequal is k l m n p q holds = absurd (cc is)
  holds_further Contains is k l m n p q holds = absurd (cc is)

  untwice : (e : Extreme) (m k : K) → Bounds (opposite (opposite e)) m k → Bounds e m k
  untwice Least m k p = p
  untwice Greatest m k p = p

  -- the ends decide
  abbrev left_end : Relation → Choice → K → List K → K
  left_end r c k ks = furthest R (decisive r c) k (k ∷ ks)

  abbrev right_end : Relation → Choice → K → List K → K
  right_end r c l ls = furthest R (opposite (decisive r c)) l (l ∷ ls)

  pub ends_decide : (r : Relation) (c : Choice) → is_order r ≡ true → (k : K) (ks : List K) (l : K) (ls : List K) →
      holds_in r (R (left_end r c k ks) (right_end r c l ls)) ≡ pairs_hold R r c (k ∷ ks) (l ∷ ls)
  ends_decide r Any is k ks l ls =
      let m = left_end r Any k ks in
      let n = right_end r Any l ls in
      same_truth (holds_in r (R m n)) (pairs_hold R r Any (k ∷ ks) (l ∷ ls))
      (λ holds. any_of (λ x. list_any (λ y. holds_in r (R x y)) (l ∷ ls)) m (k ∷ ks) (furthest_among (favoured r) k ks)
      (any_of (λ y. holds_in r (R m y)) n (l ∷ ls) (furthest_among (opposite (favoured r)) l ls) holds))
      (λ some.
      let x = any_found (λ x. list_any (λ y. holds_in r (R x y)) (l ∷ ls)) (k ∷ ks) some in
      let y = any_found (λ y. holds_in r (R x.0 y)) (l ∷ ls) x.2 in
      holds_further r is x.0 y.0 m n (furthest_bounds (favoured r) k (k ∷ ks) x.0 x.1) (furthest_bounds (opposite (favoured r)) l (l ∷ ls) y.0 y.1) y.2)
  ends_decide r All is k ks l ls =
      let m = left_end r All k ks in
      let n = right_end r All l ls in
      same_truth (holds_in r (R m n)) (pairs_hold R r All (k ∷ ks) (l ∷ ls))
      (λ holds. all_of (λ x. list_all (λ y. holds_in r (R x y)) (l ∷ ls)) (k ∷ ks)
      (λ x i. all_of (λ y. holds_in r (R x y)) (l ∷ ls)
      (λ y j. holds_further r is m n x y
      (untwice (favoured r) x m (bounds_turned (opposite (favoured r)) m x (furthest_bounds (opposite (favoured r)) k (k ∷ ks) x i)))
      (untwice (opposite (favoured r)) y n (bounds_turned (opposite (opposite (favoured r))) n y (furthest_bounds (opposite (opposite (favoured r))) l (l ∷ ls) y j)))
      holds)))
      (λ every. all_at (λ y. holds_in r (R m y)) n (l ∷ ls)
      (all_at (λ x. list_all (λ y. holds_in r (R x y)) (l ∷ ls)) m (k ∷ ks) every (furthest_among (opposite (favoured r)) k ks))
      (furthest_among (opposite (opposite (favoured r))) l ls))

  -- all pairs are equal where all values equal one
  tied_pair : (x y l : K) → is_eq (R x l) ≡ true → is_eq (R y l) ≡ true → is_eq (R x y) ≡ true
  tied_pair x y l p q = ap is_eq (alike_right o y l x (eq_only (R y l) q)) ∙ p

  tied_back_pair : (k y l : K) → is_eq (R k y) ≡ true → is_eq (R k l) ≡ true → is_eq (R y l) ≡ true
  tied_back_pair k y l p q = ap is_eq (sym (o.congr k y l (eq_only (R k y) p))) ∙ q

  pub tied_all : (k : K) (ks : List K) (l : K) (ls : List K) →
      (list_all (λ x. is_eq (R x l)) (k ∷ ks) && list_all (λ x. is_eq (R x l)) (l ∷ ls)) ≡ pairs_hold R Equal All (k ∷ ks) (l ∷ ls)
  tied_all k ks l ls =
      same_truth (list_all (λ x. is_eq (R x l)) (k ∷ ks) && list_all (λ x. is_eq (R x l)) (l ∷ ls)) (pairs_hold R Equal All (k ∷ ks) (l ∷ ls))
      (λ both.
      let parts = and_parts (list_all (λ x. is_eq (R x l)) (k ∷ ks)) (list_all (λ x. is_eq (R x l)) (l ∷ ls)) both in
      all_of (λ x. list_all (λ y. is_eq (R x y)) (l ∷ ls)) (k ∷ ks)
      (λ x i. all_of (λ y. is_eq (R x y)) (l ∷ ls)
      (λ y j. tied_pair x y l (all_at (λ x. is_eq (R x l)) x (k ∷ ks) parts.0 i) (all_at (λ x. is_eq (R x l)) y (l ∷ ls) parts.1 j))))
      (λ every.
      let at = λ (x : K) (i : In x (k ∷ ks)). all_at (λ x. list_all (λ y. is_eq (R x y)) (l ∷ ls)) x (k ∷ ks) every i in
      and_from (list_all (λ x. is_eq (R x l)) (k ∷ ks)) (list_all (λ x. is_eq (R x l)) (l ∷ ls))
      (all_of (λ x. is_eq (R x l)) (k ∷ ks) (λ x i. all_at (λ y. is_eq (R x y)) l (l ∷ ls) (at x i) (inl refl)))
      (all_of (λ x. is_eq (R x l)) (l ∷ ls)
      (λ y j. tied_back_pair k y l (all_at (λ y. is_eq (R k y)) y (l ∷ ls) (at k (inl refl)) j) (all_at (λ y. is_eq (R k y)) l (l ∷ ls) (at k (inl refl)) (inl refl)))))

-- the one relation is the other turned
any_not : {K : Type 0} (p q : K → Truth) → ((k : K) → q k ≡ not (p k)) → (ks : List K) → list_any q ks ≡ not (list_all p ks)
any_not p q turned [] = refl
any_not p q turned (k ∷ ks) = rw (turned k, any_not p q turned ks) (or_not (p k) (list_all p ks))

all_not : {K : Type 0} (p q : K → Truth) → ((k : K) → q k ≡ not (p k)) → (ks : List K) → list_all q ks ≡ not (list_any p ks)
all_not p q turned [] = refl
all_not p q turned (k ∷ ks) = rw (turned k, all_not p q turned ks) (and_not (p k) (list_any p ks))

pub any_unequal : {K : Type 0} (R : K → K → Ordering) (k : K) (ks : List K) (l : K) (ls : List K) →
    not (pairs_hold R Equal All (k ∷ ks) (l ∷ ls)) ≡ pairs_hold R Unequal Any (k ∷ ks) (l ∷ ls)
any_unequal {K} R k ks l ls =
    sym (any_not (λ (x : K). list_all (λ y. is_eq (R x y)) (l ∷ ls)) (λ (x : K). list_any (λ y. is_ne (R x y)) (l ∷ ls))
    (λ x. any_not (λ y. is_eq (R x y)) (λ y. is_ne (R x y)) (λ y. ne_is (R x y)) (l ∷ ls)) (k ∷ ks))

pub all_unequal : {K : Type 0} (R : K → K → Ordering) (k : K) (ks : List K) (l : K) (ls : List K) →
    not (pairs_hold R Equal Any (k ∷ ks) (l ∷ ls)) ≡ pairs_hold R Unequal All (k ∷ ks) (l ∷ ls)
all_unequal {K} R k ks l ls =
    sym (all_not (λ (x : K). list_any (λ y. is_eq (R x y)) (l ∷ ls)) (λ (x : K). list_all (λ y. is_ne (R x y)) (l ∷ ls))
    (λ x. all_not (λ y. is_eq (R x y)) (λ y. is_ne (R x y)) (λ y. ne_is (R x y)) (l ∷ ls)) (k ∷ ks))
