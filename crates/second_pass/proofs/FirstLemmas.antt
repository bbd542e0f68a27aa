-- The first element of a list that passes, where the elements' numbers rise.
use Rattle.std.proofs.Common.{◌≡◌, ◌<◌, ◌≤◌, ◌⊎◌, ℕ, Bool, true, false, cond, List, [], ◌∷◌, Option, Some, None, refl, sym, ap, ◌∙◌, subst, inl, inr, arith}
use Rattle.std.proofs.lemmas.Bool.{false≢true}
use Rattle.std.specs.List.{AllByRecursion as Each}
use Rattle.std.specs.Option.{option_or}
use Rattle.pk_tree.specs.declared.layer.Layer.{Layer}
use Rattle.second_pass.specs.Back.{AreInOrder, CameAfter, HasLater, IsLeast}
use Rattle.second_pass.specs.Named.{Noted, oldest}

pub each_same : {A : Type 0} (P Q : A → Type 0) → ((x : A) → P x → Q x) → (xs : List A) → Each P xs → Each Q xs
each_same P Q to [] each = tt
each_same P Q to (x ∷ xs) each = (to x each.0, each_same P Q to xs each.1)

pub came_each : {A : Type 0} (P : A → Type 0) (x : A) (earlier xs : List A) → Each P xs → CameAfter x earlier xs → P x
came_each P x earlier [] each came = absurd came
came_each P x earlier (y ∷ ys) each (inl same) = subst P same.0 each.0
came_each P x earlier (y ∷ ys) each (inr came) = came_each P x earlier ys each.1 came

-- two elements are the same, or one came before the other
pub came_order : {A : Type 0} (x : A) (before : List A) (y : A) (earlier xs : List A) → CameAfter x before xs → CameAfter y earlier xs
    → ((x ≡ y) × (before ≡ earlier)) ⊎ (CameAfter x before earlier ⊎ CameAfter y earlier before)
came_order x before y earlier [] came_x came_y = absurd came_x
came_order x before y earlier (z ∷ zs) (inl same) (inl also) = inl (sym same.0 ∙ also.0, sym same.1 ∙ also.1)
came_order {A} x before y earlier (z ∷ zs) (inl same) (inr came) = inr (inr (subst (λ (l : List A). CameAfter y earlier l) same.1 came))
came_order {A} x before y earlier (z ∷ zs) (inr came) (inl same) = inr (inl (subst (λ (l : List A). CameAfter x before l) same.1 came))
came_order x before y earlier (z ∷ zs) (inr came_x) (inr came_y) = came_order x before y earlier zs came_x came_y

-- the number of the oldest element that passes, with those before it
abbrev pub oldest_of : {A : Type 0} → (A → ℕ) → (List A → A → Bool) → List A → Option ℕ
oldest_of number test [] = None
oldest_of number test (x ∷ xs) = option_or (oldest_of number test xs) (cond (test xs x) (Some (number x)) None)

pub record Passes (A : Type 0) (number : A → ℕ) (test : List A → A → Bool) (xs : List A) (n : ℕ) : Type 0 where
  pub one : A
  pub earlier : List A
  pub came : CameAfter one earlier xs
  pub numbered : number one ≡ n
  pub passes : test earlier one ≡ true

abbrev pub AreRising : {A : Type 0} → (A → ℕ) → List A → Type 0
AreRising number [] = Unit {0}
AreRising {A} number (x ∷ xs) = Each (λ (e : A). number e ≤ number x) xs × AreRising number xs

pub oldest_least : {A : Type 0} (number : A → ℕ) (test : List A → A → Bool) (xs : List A) → AreRising number xs → IsLeast (Passes A number test xs) (oldest_of number test xs)
oldest_least number test [] rising = λ n p. p.came
oldest_least {A} number test (x ∷ xs) rising =
    by (oldest_of number test xs) (oldest_least number test xs rising.1) (test xs x) refl
  where
    older : (n : ℕ) → Passes A number test xs n → Passes A number test (x ∷ xs) n
    older n p = record { one = p.one; earlier = p.earlier; came = inr p.came; numbered = p.numbered; passes = p.passes }

    parts : (n : ℕ) (one : A) (earlier : List A) → number one ≡ n → test earlier one ≡ true → CameAfter one earlier (x ∷ xs)
        → ((number x ≡ n) × (test xs x ≡ true)) ⊎ Passes A number test xs n
    parts n one earlier numbered passes (inl same) = inl (ap number same.0 ∙ numbered, (λ i. test (same.1 i) (same.0 i)) ∙ passes)
    parts n one earlier numbered passes (inr came) = inr (record { one = one; earlier = earlier; came = came; numbered = numbered; passes = passes })

    last_or_older : (n : ℕ) → Passes A number test (x ∷ xs) n → ((number x ≡ n) × (test xs x ≡ true)) ⊎ Passes A number test xs n
    last_or_older n p = parts n p.one p.earlier p.numbered p.passes p.came

    below : (n : ℕ) → Passes A number test xs n → n ≤ number x
    below n p = subst (λ (m : ℕ). m ≤ number x) p.numbered (came_each (λ (e : A). number e ≤ number x) p.one p.earlier xs rising.0 p.came)

    by : (old : Option ℕ) → IsLeast (Passes A number test xs) old → (b : Bool) → test xs x ≡ b
        → IsLeast (Passes A number test (x ∷ xs)) (option_or old (cond b (Some (number x)) None))
    by (Some n) least b is = (
      older n least.0,
      λ m p. elim (last_or_older m p) [
        | inl last ↦ subst (λ (k : ℕ). n ≤ k) last.0 (below n least.0)
        | inr old ↦ least.1 m old
      ],
    )
    by None least true is = (
      record { one = x; earlier = xs; came = inl (refl, refl); numbered = refl; passes = is },
      λ m p. elim (last_or_older m p) [
        | inl last ↦ let same : number x ≡ m = last.0 in omega (arith, same)
        | inr old ↦ absurd (least m old)
      ],
    )
    by None least false is = λ m p. elim (last_or_older m p) [
      | inl last ↦ false≢true (sym is ∙ last.1)
      | inr old ↦ least m old
    ]

pub least_same : (P Q : ℕ → Type 0) → ((n : ℕ) → P n → Q n) → ((n : ℕ) → Q n → P n) → (o : Option ℕ) → IsLeast P o → IsLeast Q o
least_same P Q to back None none = λ n q. none n (back n q)
least_same P Q to back (Some n) least = (to n least.0, λ m q. least.1 m (back m q))

oldest_same : (test : Noted → Bool) (past : List Noted) → oldest test past ≡ oldest_of (λ (n : Noted). n.frame) (λ earlier n. test n) past
oldest_same test [] = refl
oldest_same test (noted ∷ past) = ap (λ (o : Option ℕ). option_or o (cond (test noted) (Some noted.frame) None)) (oldest_same test past)

rising : (past : List Noted) → AreInOrder past → AreRising (λ (n : Noted). n.frame) past
rising [] order = tt
rising (noted ∷ past) order = (
  each_same (λ (e : Noted). e.frame < noted.frame) (λ (e : Noted). e.frame ≤ noted.frame) (λ e less. omega (arith, less)) past order.0,
  rising past order.1,
)

-- the first later frame whose layers have a property
pub later_least : (past : List Noted) (frame : ℕ) (test : Noted → Bool) (Have : List Layer → Type 0) → AreInOrder past
    → ((n : Noted) → test n ≡ true → (frame < n.frame) × Have n.layers)
    → ((n : Noted) → frame < n.frame → Have n.layers → test n ≡ true)
    → IsLeast (HasLater past frame Have) (oldest test past)
later_least past frame test Have order to back =
    let number : Noted → ℕ = λ n. n.frame in
    let passes : List Noted → Noted → Bool = λ earlier n. test n in
    subst (λ (o : Option ℕ). IsLeast (HasLater past frame Have) o) (sym (oldest_same test past))
    (least_same (Passes Noted number passes past) (HasLater past frame Have)
    (λ n p. let has = to p.one p.passes in record {
      noted = p.one;
      earlier = p.earlier;
      came = p.came;
      number = p.numbered;
      behind = subst (λ (m : ℕ). frame < m) p.numbered has.0;
      have = has.1;
    })
    (λ n h. record {
      one = h.noted;
      earlier = h.earlier;
      came = h.came;
      numbered = h.number;
      passes = back h.noted (subst (λ (m : ℕ). frame < m) (sym h.number) h.behind) h.have;
    })
    (oldest_of number passes past) (oldest_least number passes past (rising past order)))
