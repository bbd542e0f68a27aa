-- Looking for a head's end, byte by byte.
use Rattle.std.proofs.Common.{◌≡◌, ℕ, ◌+◌, ◌<◌, List, [], ◌∷◌, ◌++◌, length, get_or, drop, refl, ap, ◌∙◌, Option, Some, None}
use Rattle.std.proofs.lemmas.List.{drop_more}
use Rattle.stream_messages.specs.declared.ends.Seek.{Seek}
use Rattle.stream_messages.specs.Ends.{seek_on, on_seek, behind_from, seek_or, seek_after}

pub seek_step : (bytes : List ℕ) (i : ℕ) (seek next : Seek) → i < length bytes → seek_on seek (get_or bytes i 0) ≡ Some next
    → behind_from seek (drop i bytes) ≡ behind_from next (drop (i + 1) bytes)
seek_step bytes i seek next inside e =
    ap (behind_from seek) (drop_more bytes i 0 inside)
    ∙ ap (λ (o : Option Seek). on_seek (λ n. behind_from n (drop (i + 1) bytes)) (drop (i + 1) bytes) o) e

pub seek_last : (bytes : List ℕ) (i : ℕ) (seek : Seek) → i < length bytes → seek_on seek (get_or bytes i 0) ≡ None
    → behind_from seek (drop i bytes) ≡ Some (drop (i + 1) bytes)
seek_last bytes i seek inside e =
    ap (behind_from seek) (drop_more bytes i 0 inside)
    ∙ ap (λ (o : Option Seek). on_seek (λ n. behind_from n (drop (i + 1) bytes)) (drop (i + 1) bytes) o) e

pub after_step : (bytes : List ℕ) (i : ℕ) (seek next : Seek) → i < length bytes → seek_on seek (get_or bytes i 0) ≡ Some next
    → seek_after seek (drop i bytes) ≡ seek_after next (drop (i + 1) bytes)
after_step bytes i seek next inside e =
    ap (seek_after seek) (drop_more bytes i 0 inside)
    ∙ ap (λ (o : Option Seek). seek_after (seek_or seek o) (drop (i + 1) bytes)) e

-- bytes in which no head ends, and more
pub behind_from-after : (seek : Seek) (xs more : List ℕ) → behind_from seek xs ≡ None → behind_from seek (xs ++ more) ≡ behind_from (seek_after seek xs) more
behind_from-after seek [] more e = refl
behind_from-after seek (b ∷ xs) more e = by (λ next. behind_from-after next xs more) (seek_on seek b) e
  where
    by : ((next : Seek) → behind_from next xs ≡ None → behind_from next (xs ++ more) ≡ behind_from (seek_after next xs) more) → (o : Option Seek)
        → on_seek (λ n. behind_from n xs) xs o ≡ None → on_seek (λ n. behind_from n (xs ++ more)) (xs ++ more) o ≡ behind_from (seek_after (seek_or seek o) xs) more
    by go None e = absurd (cc)
    by go (Some next) e = go next e

-- bytes in which a head ends, and more
pub behind_from-append : (seek : Seek) (xs more rest : List ℕ) → behind_from seek xs ≡ Some rest → behind_from seek (xs ++ more) ≡ Some (rest ++ more)
behind_from-append seek [] more rest e = absurd (cc)
behind_from-append seek (b ∷ xs) more rest e = by (λ next. behind_from-append next xs more rest) (seek_on seek b) e
  where
    by : ((next : Seek) → behind_from next xs ≡ Some rest → behind_from next (xs ++ more) ≡ Some (rest ++ more)) → (o : Option Seek)
        → on_seek (λ n. behind_from n xs) xs o ≡ Some rest → on_seek (λ n. behind_from n (xs ++ more)) (xs ++ more) o ≡ Some (rest ++ more)
    by go None e = let same : xs ≡ rest = cc in ap (λ (t : List ℕ). Some (t ++ more)) same
    by go (Some next) e = go next e
