-- Choices by a test.
use Rattle.std.proofs.Common.{◌≡◌, ◌<◌, ◌≤◌, ℕ, Bool, true, false, if◌then◌else◌, nat_lt, refl, arith}
use Rattle.std.proofs.lemmas.Bool.Decides.{nat_tests}

-- a choice, by its cases
pub by_case : {A : Type 0} (P : A → Type 0) (test : Bool) (x y : A) → (test ≡ true → P x) → (test ≡ false → P y) → P (if test then x else y)
by_case P true x y then_x else_y = then_x refl
by_case P false x y then_x else_y = else_y refl

-- a choice by one test between things that are the same where they are decided
pub choice_same : {A : Type 0} (Decided : A → Type 0) (test : Bool) (x x_other y y_other : A) → (Decided x → x_other ≡ x) → (Decided y → y_other ≡ y)
    → Decided (if test then x else y) → (if test then x_other else y_other) ≡ (if test then x else y)
choice_same Decided true x x_other y y_other first second decided = first decided
choice_same Decided false x x_other y y_other first second decided = second decided

-- a choice by one test between things that are the same
pub both_same : {A : Type 0} (test : Bool) (x x_other y y_other : A) → (test ≡ true → x_other ≡ x) → (test ≡ false → y_other ≡ y)
    → (if test then x_other else y_other) ≡ (if test then x else y)
both_same true x x_other y y_other first second = first refl
both_same false x x_other y y_other first second = second refl

pub is_less : (a b : ℕ) → nat_lt a b ≡ true → a < b
is_less a b h = grind (arith, nat_tests)

pub isn't_less : (a b : ℕ) → nat_lt a b ≡ false → b ≤ a
isn't_less a b h = grind (arith, nat_tests)

pub less : (a b : ℕ) → a < b → nat_lt a b ≡ true
less a b h = grind (arith, nat_tests)

pub not_less : (a b : ℕ) → b ≤ a → nat_lt a b ≡ false
not_less a b h = grind (arith, nat_tests)
