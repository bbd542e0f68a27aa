-- Lemmas on known bytes that grow by a front of a whole.
use Rattle.std.proofs.Common.{◌≡◌, ℕ, List, [], ◌++◌, refl, sym, ap, ◌∙◌, append_assoc, append-nil, subst}
use Rattle.std.proofs.KnownBytes.{Appends-nil, Appends-trans, Appends-kept}
use Rattle.std.specs.Io.KnownBytes.{Appends, Keeps}
use Rattle.std.specs.Prelude.{Option}
use Rattle.pk_outside.specs.Outside.{AppendsPart}

-- nothing written is a part
pub part_none : (a : Option (List ℕ)) (whole : List ℕ) → AppendsPart a a whole
part_none a whole = ([], whole, refl, Appends-nil a)

-- where the known bytes stay, nothing was written
pub part_kept : (a b : Option (List ℕ)) (whole : List ℕ) → Keeps a b → AppendsPart a b whole
part_kept a b whole kept = ([], whole, refl, Appends-kept a a b [] (Appends-nil a) kept)

-- a front is a part
pub part_front : (a b : Option (List ℕ)) (front rest whole : List ℕ) → Appends a b front → front ++ rest ≡ whole → AppendsPart a b whole
part_front a b front rest whole all joined = (front, rest, joined, all)

-- the whole is a part
pub part_whole : (a b : Option (List ℕ)) (whole : List ℕ) → Appends a b whole → AppendsPart a b whole
part_whole a b whole all = (whole, [], append-nil whole, all)

-- a part of the front is a part of the whole
pub part_more : (a b : Option (List ℕ)) (front rest : List ℕ) → AppendsPart a b front → AppendsPart a b (front ++ rest)
part_more a b front rest part =
    (part.0, part.1 ++ rest, sym (append_assoc part.0 part.1 rest) ∙ ap (λ l. l ++ rest) part.2, part.3)

-- a part that comes after a whole piece
pub part_after : (a b c : Option (List ℕ)) (piece rest : List ℕ) → Appends a b piece → AppendsPart b c rest → AppendsPart a c (piece ++ rest)
part_after a b c piece rest all part =
    (piece ++ part.0, part.1, append_assoc piece part.0 part.1 ∙ ap (λ l. piece ++ l) part.2, Appends-trans a b c piece part.0 all part.3)

-- the same where the two are the front of a whole
pub part_after_front : (a b c : Option (List ℕ)) (piece rest whole : List ℕ) → Appends a b piece → AppendsPart b c rest → piece ++ rest ≡ whole → AppendsPart a c whole
part_after_front a b c piece rest whole all part joined = subst (AppendsPart a c) joined (part_after a b c piece rest all part)
