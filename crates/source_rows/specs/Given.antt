-- The headers and notes of one frame of 54 bytes.
use Rattle.std.specs.Prelude.{◌≡◌, ◌∷◌, [], ℕ, List, length}
use Rattle.std.specs.List.{All as ForAll}
use Rattle.pk_source.specs.Outlines.{AreNumbered, IsReadWhole, NoteFits, outlined}
use Rattle.pk_source.specs.declared.header.Header.{Header}
use Rattle.pk_source.specs.declared.header.Note.{Note}

-- each is read whole in any frame of these bytes, and is numbered
pub record AreGiven (headers : List Header) : Type 0 where
  pub whole : (bytes : List ℕ) → length bytes ≡ 54 → ForAll (IsReadWhole (bytes ∷ [])) headers
  pub numbered : (bytes wanted : List ℕ) (notes : List Note)
      → AreNumbered [] (outlined bytes wanted headers notes).layers
  pub few : length headers ≡ 3

abbrev pub NotesGiven : List Note → Type 0
NotesGiven notes = (buffers : List (List ℕ)) → ForAll (NoteFits buffers) notes
