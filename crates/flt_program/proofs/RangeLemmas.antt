-- Ranges of slices and of layers that are written alike are the same.
use Rattle.std.proofs.Common.{◌≡◌, ◌≤◌, ◌<◌, ◌^◌, ℕ, Bool as Truth, true, false, if◌then◌else◌, List, [], ◌∷◌, ◌++◌, append_assoc, codes, decimal, drop, get_or, length, length-append, Option, None, Some, ap, ap₂, sym, refl, subst, ◌∙◌, arith}
use Rattle.std.proofs.lemmas.Fmt.{decimal_injective, decimal_is_IsNumeral}
use Rattle.std.proofs.lemmas.Str.Parse.{digit_from_value}
use Rattle.std.specs.Char.{digit_value}
use Rattle.std.specs.List.{AllByRecursion as Each, flat_map, join_by}
use Rattle.std.specs.Str.Parse.{AllDigits}
use Rattle.flt_program.specs.Literals.{last_shown, layer_range_shown, place_shown, range_shown}
use Rattle.flt_program.specs.Parts.{IsLastShort, IsLayerRangeShort, IsPlaceShort, IsRangeShort, LayersAreTold, RangesAreTold}
use Rattle.flt_syntax.specs.declared.ast.Place.{Place}
use Rattle.flt_syntax.specs.declared.ast.RangePart.{RangePart}
use Rattle.flt_syntax.specs.declared.ast.RangePart.TheVariants as parts
use Rattle.pk_base.specs.declared.chosen.LayerRange.{LayerRange}
use Rattle.pk_base.specs.declared.chosen.Layers.TheVariants.{All, These}

-- what stands behind a run of some bytes begins with another, if at all
unfoldable pub Stops : (ℕ → Type 0) → List ℕ → Type 0
Stops In [] = Unit {0}
Stops In (c ∷ rest) = In c → ⊥

-- so the run ends where it ends
pub run_told : (In : ℕ → Type 0) (a b x y : List ℕ) → Each In a → Each In b → Stops In x → Stops In y → a ++ x ≡ b ++ y → (a ≡ b) × (x ≡ y)
unfolding Stops
run_told In [] [] x y one two here there same = (refl, same)
run_told In [] (d ∷ b) [] y one two here there same = cc
run_told In [] (d ∷ b) (c ∷ x) y one two here there same = let first : d ≡ c = cc in absurd (here (subst In first two.0))
run_told In (c ∷ a) [] x [] one two here there same = cc
run_told In (c ∷ a) [] x (d ∷ y) one two here there same = let first : c ≡ d = cc in absurd (there (subst In first one.0))
run_told In (c ∷ a) (d ∷ b) x y one two here there same =
    let first : c ≡ d = cc in
    let rest : a ++ x ≡ b ++ y = cc in
    let more = run_told In a b x y one.1 two.1 here there rest in
    (ap (λ n. n ∷ a) first ∙ ap (λ (t : List ℕ). d ∷ t) more.0, more.1)

pub each_both : (In : ℕ → Type 0) (a b : List ℕ) → Each In a → Each In b → Each In (a ++ b)
each_both In [] b one two = two
each_both In (c ∷ a) b one two = (one.0, each_both In a b one.1 two)

each_more : (In Out : ℕ → Type 0) (a : List ℕ) → ((c : ℕ) → In c → Out c) → Each In a → Each Out a
each_more In Out [] wider all = tt
each_more In Out (c ∷ a) wider all = (wider c all.0, each_more In Out a wider all.1)

append_none : (a : List ℕ) → a ++ [] ≡ a
append_none [] = refl
append_none (c ∷ a) = ap (λ (t : List ℕ). c ∷ t) (append_none a)

-- ---- numbers

Digit : ℕ → Type 0
Digit c = digit_value c < 10

no_minus : Digit 45 → ⊥
unfolding Digit
no_minus is = omega (arith, digit_from_value 45 is)

no_colon : Digit 58 → ⊥
unfolding Digit
no_colon is = omega (arith, digit_from_value 58 is)

all_digits : (bytes : List ℕ) → AllDigits 10 bytes → Each Digit bytes
unfolding Digit
all_digits [] all = tt
all_digits (c ∷ bytes) all = (all.0, all_digits bytes all.1)

digits_of : (n : ℕ) → n < 2 ^ 64 → Each Digit (decimal n)
digits_of n small = all_digits (decimal n) (decimal_is_IsNumeral n small).0.1

number_some : (n : ℕ) → n < 2 ^ 64 → decimal n ≡ [] → ⊥
number_some n small none = omega (arith, (decimal_is_IsNumeral n small).0.0, ap length none)

number_told : (n m : ℕ) (x y : List ℕ) → n < 2 ^ 64 → m < 2 ^ 64 → Stops Digit x → Stops Digit y → decimal n ++ x ≡ decimal m ++ y → (n ≡ m) × (x ≡ y)
number_told n m x y one two here there same =
    let cut = run_told Digit (decimal n) (decimal m) x y (digits_of n one) (digits_of m two) here there same in
    (decimal_injective n m one two cut.0, cut.1)

number_first : (c m : ℕ) (rest y : List ℕ) → m < 2 ^ 64 → (Digit c → ⊥) → Stops Digit y → c ∷ rest ≡ decimal m ++ y → ⊥
unfolding Stops
number_first c m rest y small none there same =
    number_some m small (sym (run_told Digit [] (decimal m) (c ∷ rest) y tt (digits_of m small) none there same).0)

-- ---- places

place_by : (a b : Truth) (n m : ℕ) (x y : List ℕ) → n < 2 ^ 64 → m < 2 ^ 64 → Stops Digit x → Stops Digit y
    → ((if a then codes "-" else []) ++ decimal n) ++ x ≡ ((if b then codes "-" else []) ++ decimal m) ++ y → (a ≡ b) × (n ≡ m) × (x ≡ y)
place_by true true n m x y one two here there same =
    let told = number_told n m x y one two here there (ap (λ (t : List ℕ). drop 1 t) same) in (refl, told.0, told.1)
place_by true false n m x y one two here there same = absurd (number_first 45 m (decimal n ++ x) y two no_minus there same)
place_by false true n m x y one two here there same = absurd (number_first 45 n (decimal m ++ y) x one no_minus here (sym same))
place_by false false n m x y one two here there same = let told = number_told n m x y one two here there same in (refl, told.0, told.1)

place_told : (p q : Place) (x y : List ℕ) → IsPlaceShort p → IsPlaceShort q → Stops Digit x → Stops Digit y → place_shown p ++ x ≡ place_shown q ++ y → (p ≡ q) × (x ≡ y)
place_told p q x y one two here there same =
    let told = place_by p.from_end q.from_end p.offset q.offset x y one two here there same in
    let place : p ≡ q = λ i. record { from_end = told.0 i; offset = told.1 i } in
    (place, told.2)

place_first : (from_end : Truth) (c n : ℕ) (rest y : List ℕ) → n < 2 ^ 64 → c ≡ 58 → Stops Digit y → c ∷ rest ≡ ((if from_end then codes "-" else []) ++ decimal n) ++ y → ⊥
place_first true c n rest y small colon there same = let first : c ≡ 45 = ap (λ (t : List ℕ). get_or t 0 0) same in omega (arith, first, colon)
place_first false c n rest y small colon there same = number_first c n rest y small (λ is. no_colon (subst Digit colon is)) there same

-- ---- ranges of slices

last_place : (p q : Place) → IsPlaceShort p → IsPlaceShort q → place_shown p ≡ place_shown q → p ≡ q
unfolding Stops
last_place p q one two same =
    (place_told p q [] [] one two tt tt (append_none (place_shown p) ∙ same ∙ sym (append_none (place_shown q)))).0

alone : (p q : Place) (y : List ℕ) → IsPlaceShort p → IsPlaceShort q → Stops Digit y → place_shown p ≡ place_shown q ++ y → [] ≡ y
unfolding Stops
alone p q y one two there same = (place_told p q [] y one two tt there (append_none (place_shown p) ∙ same)).1

colon_alone : (n : ℕ) (p : Place) (y : List ℕ) → IsPlaceShort p → Stops Digit y → 58 ∷ decimal n ≡ place_shown p ++ y → ⊥
colon_alone n p y small there same = place_first p.from_end 58 p.offset (decimal n) y small refl there same

range_told : (a b : RangePart) → IsRangeShort a → IsRangeShort b → range_shown a ≡ range_shown b → a ≡ b
unfolding Stops
range_told (parts.One p) (parts.One q) one two same = ap parts.One (last_place p q one two same)
range_told (parts.One p) (parts.Counted q m) one two same = let no = alone p q (58 ∷ decimal m) one two.0 no_colon same in cc
range_told (parts.One p) (parts.Between q v) one two same = let no = alone p q (45 ∷ place_shown v) one two.0 no_minus same in cc
range_told (parts.One p) (parts.Front m) one two same = absurd (colon_alone m p [] one tt (sym same ∙ sym (append_none (place_shown p))))
range_told (parts.One p) (parts.ToEnd q) one two same = let no = alone p q (58 ∷ []) one two no_colon same in cc
range_told (parts.Counted p n) (parts.One q) one two same = let no = alone q p (58 ∷ decimal n) two one.0 no_colon (sym same) in cc
range_told (parts.Counted p n) (parts.Counted q m) one two same =
    let told = place_told p q (58 ∷ decimal n) (58 ∷ decimal m) one.0 two.0 no_colon no_colon same in
    ap₂ parts.Counted told.0 (decimal_injective n m one.1 two.1 (ap (λ (t : List ℕ). drop 1 t) told.1))
range_told (parts.Counted p n) (parts.Between q v) one two same =
    let told = place_told p q (58 ∷ decimal n) (45 ∷ place_shown v) one.0 two.0 no_colon no_minus same in
    let no : 58 ≡ 45 = ap (λ (t : List ℕ). get_or t 0 0) told.1 in absurd (omega (arith, no))
range_told (parts.Counted p n) (parts.Front m) one two same = absurd (colon_alone m p (58 ∷ decimal n) one.0 no_colon (sym same))
range_told (parts.Counted p n) (parts.ToEnd q) one two same =
    let told = place_told p q (58 ∷ decimal n) (58 ∷ []) one.0 two no_colon no_colon same in absurd (number_some n one.1 (ap (λ (t : List ℕ). drop 1 t) told.1))
range_told (parts.Between p u) (parts.One q) one two same = let no = alone q p (45 ∷ place_shown u) two one.0 no_minus (sym same) in cc
range_told (parts.Between p u) (parts.Counted q m) one two same =
    let told = place_told p q (45 ∷ place_shown u) (58 ∷ decimal m) one.0 two.0 no_minus no_colon same in
    let no : 45 ≡ 58 = ap (λ (t : List ℕ). get_or t 0 0) told.1 in absurd (omega (arith, no))
range_told (parts.Between p u) (parts.Between q v) one two same =
    let told = place_told p q (45 ∷ place_shown u) (45 ∷ place_shown v) one.0 two.0 no_minus no_minus same in
    ap₂ parts.Between told.0 (last_place u v one.1 two.1 (ap (λ (t : List ℕ). drop 1 t) told.1))
range_told (parts.Between p u) (parts.Front m) one two same = absurd (colon_alone m p (45 ∷ place_shown u) one.0 no_minus (sym same))
range_told (parts.Between p u) (parts.ToEnd q) one two same =
    let told = place_told p q (45 ∷ place_shown u) (58 ∷ []) one.0 two no_minus no_colon same in
    let no : 45 ≡ 58 = ap (λ (t : List ℕ). get_or t 0 0) told.1 in absurd (omega (arith, no))
range_told (parts.Front n) (parts.One q) one two same = absurd (colon_alone n q [] two tt (same ∙ sym (append_none (place_shown q))))
range_told (parts.Front n) (parts.Counted q m) one two same = absurd (colon_alone n q (58 ∷ decimal m) two.0 no_colon same)
range_told (parts.Front n) (parts.Between q v) one two same = absurd (colon_alone n q (45 ∷ place_shown v) two.0 no_minus same)
range_told (parts.Front n) (parts.Front m) one two same = ap parts.Front (decimal_injective n m one two (ap (λ (t : List ℕ). drop 1 t) same))
range_told (parts.Front n) (parts.ToEnd q) one two same = absurd (colon_alone n q (58 ∷ []) two no_colon same)
range_told (parts.ToEnd p) (parts.One q) one two same = let no = alone q p (58 ∷ []) two one no_colon (sym same) in cc
range_told (parts.ToEnd p) (parts.Counted q m) one two same =
    let told = place_told p q (58 ∷ []) (58 ∷ decimal m) one two.0 no_colon no_colon same in absurd (number_some m two.1 (sym (ap (λ (t : List ℕ). drop 1 t) told.1)))
range_told (parts.ToEnd p) (parts.Between q v) one two same =
    let told = place_told p q (58 ∷ []) (45 ∷ place_shown v) one two.0 no_colon no_minus same in
    let no : 58 ≡ 45 = ap (λ (t : List ℕ). get_or t 0 0) told.1 in absurd (omega (arith, no))
range_told (parts.ToEnd p) (parts.Front m) one two same = absurd (colon_alone m p (58 ∷ []) one no_colon (sym same))
range_told (parts.ToEnd p) (parts.ToEnd q) one two same =
    ap parts.ToEnd (place_told p q (58 ∷ []) (58 ∷ []) one two no_colon no_colon same).0

-- ---- ranges of layers

no_digit : (last : Option ℕ) → Stops Digit (last_shown last)
unfolding Stops
no_digit None = tt
no_digit (Some n) = no_minus

last_told : (last other : Option ℕ) → IsLastShort last → IsLastShort other → last_shown last ≡ last_shown other → last ≡ other
last_told None None one two same = refl
last_told None (Some m) one two same = cc
last_told (Some n) None one two same = cc
last_told (Some n) (Some m) one two same = ap Some (decimal_injective n m one two (ap (λ (t : List ℕ). drop 1 t) same))

layer_range_told : (a b : LayerRange) → IsLayerRangeShort a → IsLayerRangeShort b → layer_range_shown a ≡ layer_range_shown b → a ≡ b
layer_range_told a b one two same =
    let told = number_told a.first b.first (last_shown a.last) (last_shown b.last) one.first two.first (no_digit a.last) (no_digit b.last) same in
    let last : a.last ≡ b.last = last_told a.last b.last one.last two.last told.1 in
    λ i. record { first = told.0 i; last = last i }

-- ---- lists of them: a range has digits, minus signs and colons, so it ends at a comma, 44, or a bracket, 93

Mark : ℕ → Type 0
Mark c = (45 ≤ c) × (c ≤ 58)

no_comma : Mark 44 → ⊥
unfolding Mark
no_comma is = omega (arith, is.0)

no_bracket : Mark 93 → ⊥
unfolding Mark
no_bracket is = omega (arith, is.1)

minus : Mark 45
unfolding Mark
minus = (omega arith, omega arith)

colon : Mark 58
unfolding Mark
colon = (omega arith, omega arith)

digit_marks : (c : ℕ) → Digit c → Mark c
unfolding Digit Mark
digit_marks c is = let range = digit_from_value c is in (omega (arith, range), omega (arith, range))

number_marks : (n : ℕ) → n < 2 ^ 64 → Each Mark (decimal n)
number_marks n small = each_more Digit Mark (decimal n) digit_marks (digits_of n small)

record IsShownWell {A : Type 0} (IsShort : A → Type 0) (shown : A → List ℕ) : Type 0 where
  told : (a b : A) → IsShort a → IsShort b → shown a ≡ shown b → a ≡ b
  marks : (a : A) → IsShort a → Each Mark (shown a)
  some : (a : A) → IsShort a → shown a ≡ [] → ⊥

behind : {A : Type 0} → (A → List ℕ) → List A → List ℕ
behind shown xs = flat_map (λ a. codes "," ++ shown a) xs ++ 93 ∷ []

behind_stops : {A : Type 0} (shown : A → List ℕ) (xs : List A) → Stops Mark (behind shown xs)
unfolding Stops behind
behind_stops shown [] = no_bracket
behind_stops shown (a ∷ xs) = no_comma

behind_told : {A : Type 0} (IsShort : A → Type 0) (shown : A → List ℕ) → IsShownWell IsShort shown → (xs ys : List A) → Each IsShort xs → Each IsShort ys → behind shown xs ≡ behind shown ys → xs ≡ ys
unfolding behind
behind_told IsShort shown well [] [] one two same = refl
behind_told IsShort shown well [] (b ∷ ys) one two same = let no : 93 ≡ 44 = ap (λ (t : List ℕ). get_or t 0 0) same in absurd (omega (arith, no))
behind_told IsShort shown well (a ∷ xs) [] one two same = let no : 44 ≡ 93 = ap (λ (t : List ℕ). get_or t 0 0) same in absurd (omega (arith, no))
behind_told IsShort shown well (a ∷ xs) (b ∷ ys) one two same =
    let rest : shown a ++ behind shown xs ≡ shown b ++ behind shown ys =
    sym (append_assoc (shown a) (flat_map (λ c. codes "," ++ shown c) xs) (93 ∷ [])) ∙ ap (λ (t : List ℕ). drop 1 t) same ∙ append_assoc (shown b) (flat_map (λ c. codes "," ++ shown c) ys) (93 ∷ []) in
    let cut = run_told Mark (shown a) (shown b) (behind shown xs) (behind shown ys) (well.marks a one.0) (well.marks b two.0) (behind_stops shown xs) (behind_stops shown ys) rest in
    ap₂ (λ (c : _) (cs : List _). c ∷ cs) (well.told a b one.0 two.0 cut.0) (behind_told IsShort shown well xs ys one.1 two.1 cut.1)

first_told : {A : Type 0} (IsShort : A → Type 0) (shown : A → List ℕ) → IsShownWell IsShort shown → (b : A) (ys : List A) → IsShort b → 93 ∷ [] ≡ (shown b ++ flat_map (λ c. codes "," ++ shown c) ys) ++ 93 ∷ [] → ⊥
unfolding Stops behind
first_told IsShort shown well b ys short same =
    well.some b short
    (sym (run_told Mark [] (shown b) (93 ∷ []) (behind shown ys) tt (well.marks b short) no_bracket (behind_stops shown ys) (same ∙ append_assoc (shown b) (flat_map (λ c. codes "," ++ shown c) ys) (93 ∷ []))).0)

list_told : {A : Type 0} (IsShort : A → Type 0) (shown : A → List ℕ) → IsShownWell IsShort shown → (xs ys : List A) → Each IsShort xs → Each IsShort ys
    → join_by shown (codes ",") xs ++ 93 ∷ [] ≡ join_by shown (codes ",") ys ++ 93 ∷ [] → xs ≡ ys
unfolding behind
list_told IsShort shown well [] [] one two same = refl
list_told IsShort shown well [] (b ∷ ys) one two same = absurd (first_told IsShort shown well b ys two.0 same)
list_told IsShort shown well (a ∷ xs) [] one two same = absurd (first_told IsShort shown well a xs one.0 (sym same))
list_told IsShort shown well (a ∷ xs) (b ∷ ys) one two same = behind_told IsShort shown well (a ∷ xs) (b ∷ ys) one two (ap (λ (t : List ℕ). 44 ∷ t) same)

place_marks : (from_end : Truth) (n : ℕ) → n < 2 ^ 64 → Each Mark ((if from_end then codes "-" else []) ++ decimal n)
place_marks true n small = (minus, number_marks n small)
place_marks false n small = number_marks n small

range_marks : (r : RangePart) → IsRangeShort r → Each Mark (range_shown r)
range_marks (parts.One p) short = place_marks p.from_end p.offset short
range_marks (parts.Counted p n) short = each_both Mark (place_shown p) (58 ∷ decimal n) (place_marks p.from_end p.offset short.0) (colon, number_marks n short.1)
range_marks (parts.Between p u) short = each_both Mark (place_shown p) (45 ∷ place_shown u) (place_marks p.from_end p.offset short.0) (minus, place_marks u.from_end u.offset short.1)
range_marks (parts.Front n) short = (colon, number_marks n short)
range_marks (parts.ToEnd p) short = each_both Mark (place_shown p) (58 ∷ []) (place_marks p.from_end p.offset short) (colon, tt)

place_some : (from_end : Truth) (n : ℕ) (rest : List ℕ) → n < 2 ^ 64 → ((if from_end then codes "-" else []) ++ decimal n) ++ rest ≡ [] → ⊥
place_some true n rest small none = omega (arith, ap length none)
place_some false n rest small none = omega (arith, ap length none, length-append (decimal n) rest, (decimal_is_IsNumeral n small).0.0)

range_some : (r : RangePart) → IsRangeShort r → range_shown r ≡ [] → ⊥
range_some (parts.One p) short none = place_some p.from_end p.offset [] short (append_none (place_shown p) ∙ none)
range_some (parts.Counted p n) short none = place_some p.from_end p.offset (58 ∷ decimal n) short.0 none
range_some (parts.Between p u) short none = place_some p.from_end p.offset (45 ∷ place_shown u) short.0 none
range_some (parts.Front n) short none = omega (arith, ap length none)
range_some (parts.ToEnd p) short none = place_some p.from_end p.offset (58 ∷ []) short none

pub ranges_told : RangesAreTold
ranges_told ranges others one two same =
    list_told IsRangeShort range_shown (record { told = range_told; marks = range_marks; some = range_some }) ranges others one two (ap (λ (t : List ℕ). drop 1 t) same)

last_marks : (last : Option ℕ) → IsLastShort last → Each Mark (last_shown last)
last_marks None short = tt
last_marks (Some n) short = (minus, number_marks n short)

layer_marks : (r : LayerRange) → IsLayerRangeShort r → Each Mark (layer_range_shown r)
layer_marks r short = each_both Mark (decimal r.first) (last_shown r.last) (number_marks r.first short.first) (last_marks r.last short.last)

layer_some : (r : LayerRange) → IsLayerRangeShort r → layer_range_shown r ≡ [] → ⊥
layer_some r short none =
    omega (arith, ap length none, length-append (decimal r.first) (last_shown r.last), (decimal_is_IsNumeral r.first short.first).0.0)

pub layers_told : LayersAreTold
layers_told All All one two same = refl
layers_told All (These others) one two same = cc
layers_told (These ranges) All one two same = cc
layers_told (These ranges) (These others) one two same =
    ap These (list_told IsLayerRangeShort layer_range_shown (record { told = layer_range_told; marks = layer_marks; some = layer_some }) ranges others one two (ap (λ (t : List ℕ). drop 2 t) same))
