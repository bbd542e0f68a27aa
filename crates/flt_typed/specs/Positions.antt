-- How many places of a pattern a search may have to follow at once: one for each byte and class, for what matches
-- nothing, as `^` or an empty branch, for each group and each repeat, with what is in repeats written out.
use Rattle.std.specs.Prelude.{ℕ, ◌+◌, ◌*◌, ◌-◌, ◌^◌, min, max, List, [], ◌∷◌, length, Option, None, Some}
use Rattle.regex_hir.specs.declared.hir.Hir.{Hir, Hir-F, fold-Hir}

-- a number of places; what is more than a machine's number is its greatest
abbrev pub capped : ℕ → ℕ
capped n = min n (2 ^ 64 - 1)

-- how often a repeat is written out, at least once
abbrev pub copies_of : ℕ → Option ℕ → ℕ
copies_of least None = max 1 least
copies_of least (Some most) = max 1 (max least most)

abbrev pub all_positions : List ℕ → ℕ
all_positions [] = 0
all_positions (one ∷ others) = capped (all_positions others + one)

abbrev pub node_positions : Hir-F ℕ → ℕ
node_positions Hir-F.Empty = 1
node_positions (Hir-F.Literal bytes) = length bytes.items
node_positions (Hir-F.Bytes class) = 1
node_positions (Hir-F.Chars class) = 1
node_positions (Hir-F.Look l) = 1
node_positions (Hir-F.Repetition least most greedy sub) = capped (capped (sub.value * copies_of least most) + 1)
node_positions (Hir-F.Capture index sub) = capped (sub.value + 1)
node_positions (Hir-F.Concat subs) = all_positions subs.items
node_positions (Hir-F.Alternation subs) = all_positions subs.items

abbrev pub positions : Hir → ℕ
positions = fold-Hir ℕ node_positions
