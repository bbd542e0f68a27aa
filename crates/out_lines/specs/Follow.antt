-- The report of a followed TCP stream: what each side sent, stretch by stretch, in hexadecimal.
use Rattle.std.specs.Prelude.{ℕ, ◌+◌, ◌-◌, ◌^◌, ◌<◌, ◌≤◌, List, [], ◌∷◌, ◌++◌, length, codes, decimal, Option, Some, None}
use Rattle.pk_base.specs.declared.stretch.Stretch.{Stretch}
use Rattle.pk_text.specs.Digits.{hex_shown}
use Rattle.out_lines.specs.declared.follow.Fronts.{Fronts}

-- the position behind a stretch
abbrev pub end_of : Stretch → ℕ
end_of stretch = stretch.start + length stretch.bytes

-- a line of bytes, and one of a gap, behind the side's digit; 10 is a line feed
abbrev pub bytes_line : List ℕ → List ℕ → List ℕ
bytes_line side bytes = side ++ (codes " " ++ (hex_shown bytes ++ 10 ∷ []))

abbrev pub lost_line : List ℕ → ℕ → List ℕ
lost_line side count = side ++ (codes " lost " ++ (decimal count ++ 10 ∷ []))

-- stretches behind a position: each behind the gap that stands before it
abbrev pub lines_behind : List ℕ → ℕ → List Stretch → List ℕ
lines_behind side end [] = []
lines_behind side end (stretch ∷ stretches) =
    lost_line side (stretch.start - end)
    ++ (bytes_line side stretch.bytes ++ lines_behind side (end_of stretch) stretches)

-- a side; one without stretches has the line of no bytes
abbrev pub side_lines : List ℕ → List Stretch → List ℕ
side_lines side [] = bytes_line side []
side_lines side (stretch ∷ stretches) =
    bytes_line side stretch.bytes ++ lines_behind side (end_of stretch) stretches

abbrev pub fronts_lines : Option Fronts → List ℕ
fronts_lines None = codes " none\n"
fronts_lines (Some fronts) =
    10 ∷ (side_lines (codes "0") fronts.zero ++ side_lines (codes "1") fronts.one)

-- the report of the stream of a number, or that there is none
unfoldable pub follow_of : ℕ → Option Fronts → List ℕ
follow_of stream fronts = codes "follow tcp " ++ (decimal stream ++ fronts_lines fronts)

-- a stretch's end is a position
abbrev pub HasEnd : Stretch → Type 0
HasEnd stretch = end_of stretch ≤ 2 ^ 63

-- stretches behind a position, with a gap before each
abbrev pub AreBehind : ℕ → List Stretch → Type 0
AreBehind end [] = Unit {0}
AreBehind end (stretch ∷ stretches) =
    (end < stretch.start) × HasEnd stretch × AreBehind (end_of stretch) stretches

-- stretches with a gap between any two
abbrev pub AreApart : List Stretch → Type 0
AreApart [] = Unit {0}
AreApart (stretch ∷ stretches) = HasEnd stretch × AreBehind (end_of stretch) stretches

pub record AreFollowed (fronts : Fronts) : Type 0 where
  pub zero : AreApart fronts.zero
  pub one : AreApart fronts.one
