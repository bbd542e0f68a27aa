-- What a listing tells of its program: all but how many registers it has and, of literals that are written alike, which of
-- them it is (as a string and bytes that are quoted).
use Rattle.std.specs.Prelude.{◌≡◌, ◌≤◌, ◌<◌, ◌^◌, ℕ, List, [], ◌∷◌, Some, slice_get}
use Rattle.flt_program.specs.Listing.{listing_of, pattern_at}
use Rattle.flt_program.specs.Literals.{constant_shown, field_shown, members_shown, ranges_shown, string_shown}
use Rattle.flt_program.specs.Programs.{Code, IsProgram, patterns_of}
use Rattle.flt_program.specs.declared.instr.Instr.{Instr}
use Rattle.flt_program.specs.declared.instr.Instr.TheVariants as instr
use Rattle.flt_typed.specs.declared.typed.Typed.{Typed}

-- two instructions are the same, with fields, ranges, literals and patterns that are written alike
abbrev pub AreAlike : List (List ℕ) → List (List ℕ) → Instr → Instr → Type 0
AreAlike ps qs (instr.Read r field layers) (instr.Read s other chosen) =
    (r ≡ s) × (field_shown field layers ≡ field_shown other chosen)
AreAlike ps qs (instr.Const r c) (instr.Const s d) =
    (r ≡ s) × (constant_shown c ≡ constant_shown d)
AreAlike ps qs (instr.Slice r p ranges) (instr.Slice s q others) =
    (r ≡ s) × (p ≡ q) × (ranges_shown ranges ≡ ranges_shown others)
AreAlike ps qs (instr.Mask r p mask) (instr.Mask s q other) = (r ≡ s) × (p ≡ q) × (mask ≡ other)
AreAlike ps qs (instr.Call r function p) (instr.Call s other q) =
    (r ≡ s) × (function ≡ other) × (p ≡ q)
AreAlike ps qs (instr.Count r field layers) (instr.Count s other chosen) =
    (r ≡ s) × (field_shown field layers ≡ field_shown other chosen)
AreAlike ps qs (instr.Compute r operation p q) (instr.Compute s other t u) =
    (operation ≡ other) × (r ≡ s) × (p ≡ t) × (q ≡ u)
AreAlike ps qs (instr.Choose r extreme p q) (instr.Choose s other t u) =
    (extreme ≡ other) × (r ≡ s) × (p ≡ t) × (q ≡ u)
AreAlike ps qs (instr.Save r) (instr.Save s) = r ≡ s
AreAlike ps qs (instr.Test choice relation p q) (instr.Test chosen other t u) =
    (choice ≡ chosen) × (relation ≡ other) × (p ≡ t) × (q ≡ u)
AreAlike ps qs (instr.In choice r ms) (instr.In chosen s ns) =
    (choice ≡ chosen) × (r ≡ s) × (members_shown ms ≡ members_shown ns)
AreAlike ps qs (instr.Match choice r n) (instr.Match chosen s m) =
    (choice ≡ chosen) × (r ≡ s)
    × (string_shown (pattern_at ps n) ≡ string_shown (pattern_at qs m))
AreAlike ps qs (instr.NonZero r) (instr.NonZero s) = r ≡ s
AreAlike ps qs instr.Not instr.Not = Unit {0}
AreAlike ps qs (instr.Differ r) (instr.Differ s) = r ≡ s
AreAlike ps qs (instr.JumpFalse n) (instr.JumpFalse m) = n ≡ m
AreAlike ps qs (instr.JumpTrue n) (instr.JumpTrue m) = n ≡ m
AreAlike ps qs instr.Return instr.Return = Unit {0}
AreAlike ps qs i j = ⊥

-- one after the other
abbrev pub AllAlike : List (List ℕ) → List (List ℕ) → List Instr → List Instr → Type 0
AllAlike ps qs [] [] = Unit {0}
AllAlike ps qs (i ∷ is) (j ∷ js) = AreAlike ps qs i j × AllAlike ps qs is js
AllAlike ps qs is js = ⊥

-- a mask fits 64 bits
abbrev pub IsMaskShort : Instr → Type 0
IsMaskShort (instr.Mask r q mask) = mask < 2 ^ 64
IsMaskShort i = Unit {0}

-- the numbers of a program's registers, and its masks, fit 64 bits
pub record IsShort (code : Code) : Type 0 where
  pub registers : code.registers ≤ 2 ^ 64
  pub masks : (at : ℕ) (i : Instr) → slice_get code.items at ≡ Some i → IsMaskShort i

-- programs with the same listing are as long, and their instructions are the same with parts that are written alike
abbrev pub ListingsTell : Type 0
ListingsTell = (code other : Code) (filter by : Typed) → IsProgram code → IsProgram other
    → IsShort code → IsShort other → listing_of code filter ≡ listing_of other by
    → AllAlike (patterns_of filter) (patterns_of by) code.items other.items
