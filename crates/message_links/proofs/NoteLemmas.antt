-- The notes of messages, one behind the other.
use Rattle.std.proofs.Common.{◌≡◌, ℕ, zero, suc, ◌+◌, ◌*◌, ◌<◌, ◌≤◌, if◌then◌else◌, List, [], ◌∷◌, ◌++◌, length, map, take, get_or, refl, sym, ap, ◌∙◌, subst, arith}
use Rattle.std.specs.Prelude.{nat_le}
use Rattle.std.specs.List.{slice_range}
use Rattle.stream_messages.specs.Tellings.{end_of}
use Rattle.tcp_messages.specs.declared.met.ShownMessage.{ShownMessage}
use Rattle.tcp_messages.specs.declared.met.Source.{Source}
use Rattle.tcp_messages.specs.declared.met.Source.TheVariants as sources
use Rattle.tcp_messages.specs.Shown.{IsMessage, IsWholeIn, bytes_from}
use Rattle.tcp_messages.proofs.MessageBytes.{segment_fits}
use Rattle.message_links.specs.declared.notes.Note.{Note}
use Rattle.message_links.specs.declared.notes.Note.TheVariants.{Query, Response, Other}
use Rattle.message_links.specs.Notes.{dns_note}

pub map_next : {A B : Type 0} (f : A → B) (xs : List A) (i : ℕ) (d : A) → i < length xs → map f (take (suc i) xs) ≡ map f (take i xs) ++ f (get_or xs i d) ∷ []
map_next f [] i d within = absurd (omega (arith, within))
map_next f (x ∷ xs) zero d within = refl
map_next f (x ∷ xs) (suc i) d within = ap (λ rest. f x ∷ rest) (map_next f xs i d (omega (arith, within)))

pub taken_all : {A : Type 0} (i : ℕ) (xs : List A) → length xs ≤ i → take i xs ≡ xs
taken_all zero [] past = refl
taken_all (suc i) [] past = refl
taken_all zero (x ∷ xs) past = absurd (omega (arith, past))
taken_all (suc i) (x ∷ xs) past = ap (λ rest. x ∷ rest) (taken_all i xs (omega (arith, past)))

-- a message that its segment brought
module _ (payload : List ℕ) (m : ShownMessage) (place len : ℕ) (source : m.source ≡ sources.Segment place) (whole : IsWholeIn payload m) (size : len ≡ end_of m.message.told) where
  part_is : IsMessage m.message.told (slice_range payload place (place + end_of m.message.told))
  part_is = subst (λ (s : Source). IsMessage m.message.told (bytes_from payload (end_of m.message.told) s)) source whole.is

  pub part_fits : place + len ≤ length payload
  part_fits = omega (arith, size, segment_fits payload m.message.told place part_is)

-- a message of DNS by its length
pub short_other : (bytes : List ℕ) → length bytes < 4 → dns_note bytes ≡ Other
short_other [] short = refl
short_other (high ∷ []) short = refl
short_other (high ∷ low ∷ []) short = refl
short_other (high ∷ low ∷ flags ∷ []) short = refl
short_other (high ∷ low ∷ flags ∷ more ∷ rest) short = absurd (omega (arith, short))

abbrev pub note_by : ℕ → ℕ → Note
note_by flags id = if nat_le 128 flags then Response id else Query id

pub long_note : (bytes : List ℕ) → 4 ≤ length bytes → dns_note bytes ≡ note_by (get_or bytes 2 0) (get_or bytes 0 0 * 256 + get_or bytes 1 0)
long_note [] long = absurd (omega (arith, long))
long_note (high ∷ []) long = absurd (omega (arith, long))
long_note (high ∷ low ∷ []) long = absurd (omega (arith, long))
long_note (high ∷ low ∷ flags ∷ []) long = absurd (omega (arith, long))
long_note (high ∷ low ∷ flags ∷ more ∷ rest) long = refl
