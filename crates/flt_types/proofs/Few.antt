-- The lists in a tree are as short as its text.
use Rattle.std.proofs.Common.{ℕ, ◌<◌, ◌≤◌, ◌^◌, List, [], ◌∷◌, ◌++◌, length, arith, length-append}
use Rattle.flt_syntax.specs.Grammar.{element, more_elements, more_ranges, range, ranges, set}
use Rattle.flt_syntax.specs.declared.ast.Element.{Element}
use Rattle.flt_syntax.specs.declared.ast.SliceRange.{SliceRange}

-- a list that a `Vec` can hold
abbrev pub IsFew : {A : Type 0} → List A → Type 0
IsFew xs = length xs < 2 ^ 63

pub few_left : {A : Type 0} (xs ys : List A) → IsFew (xs ++ ys) → IsFew xs
few_left xs ys h = omega (arith, length-append xs ys)

pub few_right : {A : Type 0} (xs ys : List A) → IsFew (xs ++ ys) → IsFew ys
few_right xs ys h = omega (arith, length-append xs ys)

pub few_rest : {A : Type 0} (x : A) (xs : List A) → IsFew (x ∷ xs) → IsFew xs
few_rest x xs h = omega arith

more_ranges_len : (rs : List SliceRange) → length rs ≤ length (more_ranges rs)
more_ranges_len [] = omega arith
more_ranges_len (r ∷ rs) = omega (arith, more_ranges_len rs, length-append (range r.part) (more_ranges rs))

pub few_ranges : (at : ℕ) (rs : List SliceRange) → IsFew (ranges at rs) → IsFew rs
few_ranges at [] h = omega arith
few_ranges at (r ∷ rs) h = omega (arith, more_ranges_len rs, length-append (range r.part) (more_ranges rs))

more_elements_len : (es : List Element) → length es ≤ length (more_elements es)
more_elements_len [] = omega arith
more_elements_len (e ∷ es) = omega (arith, more_elements_len es, length-append (element e) (more_elements es))

pub few_elements : (es : List Element) → IsFew (set es) → IsFew es
few_elements [] h = omega arith
few_elements (e ∷ es) h = omega (arith, more_elements_len es, length-append (element e) (more_elements es))
