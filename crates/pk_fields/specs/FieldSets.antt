-- Sets of fields: a bit for each number, 64 in a word.
use Rattle.std.specs.Prelude.{◌≡◌, ◌==◌, ℕ, ◌-◌, ◌/◌, ◌%◌, ◌^◌, Bool, true, List, [], ◌∷◌}
use Rattle.std.specs.List.{slice_index_or}
use Rattle.std.specs.Int.{bit_at}
use Rattle.pk_fields.specs.Fields.{row_of}

-- a field of a set; numbers beyond its words, which are no field's, are in each
unfoldable pub is_in : List ℕ → ℕ → Bool
is_in words f = bit_at (slice_index_or words (f / 64) (2 ^ 64 - 1)) (f % 64) == 1

-- with each field the set holds its protocol
unfoldable pub HasHomes : List ℕ → Type 0
HasHomes words = (f : ℕ) → is_in words f ≡ true → is_in words (row_of f).proto ≡ true

-- `frame` alone: it is the protocol of the row of each number that is no field's
abbrev pub least_fields : List ℕ
least_fields = 1 ∷ 0 ∷ 0 ∷ 0 ∷ 0 ∷ 0 ∷ 0 ∷ 0 ∷ []

abbrev pub every_word : ℕ
every_word = 2 ^ 64 - 1

abbrev pub every_field : List ℕ
every_field = every_word ∷ every_word ∷ every_word ∷ every_word ∷ every_word ∷ every_word ∷ every_word ∷ every_word ∷ []
