-- Bytes that were read on.
use Rattle.std.proofs.Common.{◌≡◌, ◌<◌, ◌≤◌, ℕ, suc, subst, ◌+◌, ◌-◌, ◌^◌, List, [], ◌∷◌, ◌++◌, length, take, Option, Some, None, refl, sym, ap, ◌∙◌, arith}
use Rattle.std.specs.Io.KnownBytes.{Consumes}
use Rattle.std.proofs.KnownBytes.{Consumes-trans}
use Rattle.std.proofs.lemmas.List.{append_assoc, append-nil, length-append, length-take, length-take-le, nil_from_length, take-append-drop, take-take}
use Rattle.std.proofs.lemmas.Slice.{take-put_mid}
use Rattle.std.proofs.Math.Seq.{take-append-add}
use borrow.Rule.Slice.PartMut.{put_mid}
use Rattle.pk_outside.specs.Outside.{Moves}
use Rattle.capture_read.specs.Answers.{open_count}
use Rattle.capture_read.specs.Fill.{IsFilled, IsFilledTo, IsUnfilled}
use Rattle.capture_read.specs.Taken.{TookAtMost}
use Rattle.capture_read.specs.declared.kind.Seen.{Seen}
use Rattle.capture_read.specs.declared.kind.Seen.TheVariants as seen

-- what a read moved was left before
pub moves_consume : (old new : Option (List ℕ)) (to_old to_new : List ℕ) (n : ℕ) → Moves old new to_old to_new n
    → (got : List ℕ) × Consumes old new got × (length got ≤ n)
moves_consume None new to_old to_new n moved = ([], tt, omega arith)
moves_consume (Some bytes) new to_old to_new n moved =
    (take n bytes, rw moved.1 (sym (take-append-drop n bytes)), omega (arith, length-take n bytes))

-- no byte is left where a read moved none
pub moves_ended : (old new : Option (List ℕ)) (to_old to_new : List ℕ) → Moves old new to_old to_new 0
    → (beyond : List ℕ) × Consumes old new beyond × ((size : ℕ) → IsFilledTo seen.Ended beyond size size new) × (length beyond ≤ 1) × (open_count seen.Ended ≡ 0)
moves_ended None new to_old to_new moved = ([], tt, λ size. (refl, rw moved tt), omega arith, refl)
moves_ended (Some bytes) new to_old to_new moved = ([], rw moved.1 refl, λ size. (refl, rw moved.1 (moved.3.0 refl)), omega arith, refl)

-- one byte was read
pub moves_one : (old new : Option (List ℕ)) (to_old to_new : List ℕ) (n : ℕ) → n ≡ 1 → Moves old new to_old to_new n
    → (beyond : List ℕ) × Consumes old new beyond × ((size : ℕ) → IsFilledTo seen.Beyond beyond size size new) × (length beyond ≤ 1) × (open_count seen.Beyond ≡ 0)
moves_one None new to_old to_new n one moved = (0 ∷ [], tt, λ size. (refl, refl), omega arith, refl)
moves_one (Some bytes) new to_old to_new n one moved =
    let few : length (take n bytes) ≡ 1 = omega (arith, one, moved.0, length-take n bytes) in
    (take n bytes, rw moved.1 (sym (take-append-drop n bytes)), λ size. (few, refl), omega (arith, few), refl)

-- the front of a room of which a part was written
pub front_written : (at size count : ℕ) (room part : List ℕ) → at ≤ length room → count ≤ length part
    → take (at + count) (put_mid at size room part) ≡ take at room ++ take count part
front_written at size count room part inside few =
    let front : length (take at room) ≡ at = length-take-le at room inside in
    let all : take (at + length part) (put_mid at size room part) ≡ take at room ++ part = take-put_mid at size room part (at + length part) refl inside in
    let less : take (at + count) (put_mid at size room part) ≡ take (at + count) (take at room ++ part) =
    sym (take-take (at + count) (at + length part) (put_mid at size room part) (omega (arith, few))) ∙ ap (take (at + count)) all in
    let seam : take (length (take at room) + count) (take at room ++ part) ≡ take at room ++ take count part = take-append-add (take at room) part count in
    less ∙ ap (λ (n : ℕ). take (n + count) (take at room ++ part)) (sym front) ∙ seam

-- bytes read so far
abbrev pub ReadSoFar : List ℕ → List ℕ → Option (List ℕ) → Option (List ℕ) → Type 0
ReadSoFar held bytes old new = (got : List ℕ) × (bytes ≡ held ++ got) × Consumes old new got

-- one byte past those that are looked at was read, or none is left
pub next_beyond : (bytes filled : List ℕ) (told : Seen) (need most : ℕ) (old new : Option (List ℕ)) → need ≡ length bytes + 1 → filled ≡ bytes
    → ((beyond : List ℕ) × Consumes old new beyond × ((size : ℕ) → IsFilledTo told beyond size size new) × (length beyond ≤ 1) × (open_count told ≡ 0))
    → length bytes ≡ most → IsFilled bytes filled told need most old new
next_beyond bytes filled told need most old new one_more same behind full =
    let size : length filled ≡ most = ap length same ∙ full in
    record {
      got = [];
      beyond = behind.0;
      bytes = same ∙ sym (append-nil bytes);
      taken = behind.1;
      ends = subst (λ (m : ℕ). IsFilledTo told behind.0 (length filled) m new) size (behind.2 (length filled));
      few = omega (arith, one_more, size, full, behind.3);
      within = omega (arith, size);
      more = omega (arith, size, full, behind.4);
    }

-- none is left behind these
pub next_none : (bytes filled : List ℕ) (told : Seen) (need most : ℕ) (old new : Option (List ℕ)) → need ≡ length bytes + 1 → filled ≡ bytes
    → ((beyond : List ℕ) × Consumes old new beyond × ((size : ℕ) → IsFilledTo told beyond size size new) × (length beyond ≤ 1) × (open_count told ≡ 0))
    → told ≡ seen.Ended → length bytes ≤ most → IsFilled bytes filled told need most old new
next_none bytes filled told need most old new one_more same behind is within =
    let size : length filled ≡ length bytes = ap length same in
    let none : IsFilledTo seen.Ended behind.0 0 0 new = subst (λ (s : Seen). IsFilledTo s behind.0 0 0 new) is (behind.2 0) in
    record {
      got = [];
      beyond = behind.0;
      bytes = same ∙ sym (append-nil bytes);
      taken = behind.1;
      ends = subst (λ (s : Seen). IsFilledTo s behind.0 (length filled) most new) (sym is) none;
      few = omega (arith, one_more, size, behind.3);
      within = omega (arith, size, within);
      more = omega (arith, size, behind.4);
    }

-- bytes were read behind these
pub next_more : (bytes filled : List ℕ) (told : Seen) (need most : ℕ) (old new : Option (List ℕ)) → need ≡ length bytes + 1 → ReadSoFar bytes filled old new
    → told ≡ seen.Open → length bytes < length filled → length filled ≤ length bytes + 2 ^ 16 → length filled ≤ most
    → IsFilled bytes filled told need most old new
next_more bytes filled told need most old new one_more read is grown few within =
    let one : open_count told ≡ 1 = rw is refl in
    record {
      got = read.0;
      beyond = [];
      bytes = read.1;
      taken = subst (λ (got : List ℕ). Consumes old new got) (sym (append-nil read.0)) read.2;
      ends = subst (λ (s : Seen). IsFilledTo s [] (length filled) most new) (sym is) refl;
      few = omega (arith, one_more, few);
      within = within;
      more = omega (arith, grown, one);
    }

all_of : (held got more before after : List ℕ) → before ≡ held ++ got → after ≡ before ++ more → after ≡ held ++ (got ++ more)
all_of held got more before after first then = then ∙ ap (λ (front : List ℕ). front ++ more) first ∙ append_assoc held got more

-- bytes were read so far, and the last read told what is behind them
pub filled_next : (held filled : List ℕ) (told : Seen) (before : List ℕ) (next_need need most : ℕ) (a b c : Option (List ℕ)) → ReadSoFar held before a b
    → IsFilled before filled told next_need most b c → next_need ≤ need → IsFilled held filled told need most a c
filled_next held filled told before next_need need most a b c read next few =
    let size : length before ≡ length held + length read.0 = rw read.1 (length-append held read.0) in
    record {
      got = read.0 ++ next.got;
      beyond = next.beyond;
      bytes = all_of held read.0 next.got before filled read.1 next.bytes;
      taken = subst (λ (bytes : List ℕ). Consumes a c bytes) (sym (append_assoc read.0 next.got next.beyond)) (Consumes-trans a b c read.0 (next.got ++ next.beyond) read.2 next.taken);
      ends = next.ends;
      few = omega (arith, few, next.few);
      within = next.within;
      more = omega (arith, size, next.more);
    }

-- the same, where more may be behind them
pub read_on : (held filled : List ℕ) (told : Seen) (before : List ℕ) (need most : ℕ) (a b c : Option (List ℕ)) → ReadSoFar held before a b
    → IsFilled before filled told need most b c → told ≡ seen.Open → ReadSoFar held filled a c
read_on held filled told before need most a b c read next is =
    let none : length next.beyond ≡ 0 = subst (λ (s : Seen). IsFilledTo s next.beyond (length filled) most c) is next.ends in
    let taken : Consumes b c next.got = subst (λ (bytes : List ℕ). Consumes b c bytes) (ap (λ (rest : List ℕ). next.got ++ rest) (nil_from_length next.beyond none) ∙ append-nil next.got) next.taken in
    (read.0 ++ next.got, all_of held read.0 next.got before filled read.1 next.bytes, Consumes-trans a b c read.0 next.got read.2 taken)

pub grown_on : (before filled : List ℕ) (told : Seen) (need most : ℕ) (b c : Option (List ℕ)) → IsFilled before filled told need most b c → told ≡ seen.Open
    → length before < length filled
grown_on before filled told need most b c next is =
    let one : open_count told ≡ 1 = rw is refl in
    omega (arith, next.more, one)

-- as many as are needed were read
pub filled_open : (held filled : List ℕ) (told : Seen) (need most : ℕ) (a b : Option (List ℕ)) → ReadSoFar held filled a b → told ≡ seen.Open
    → length held < need → need ≤ length filled → length filled < need + 2 ^ 16 → length filled ≤ most → IsFilled held filled told need most a b
filled_open held filled told need most a b read is less enough few within =
    let one : open_count told ≡ 1 = rw is refl in
    record {
      got = read.0;
      beyond = [];
      bytes = read.1;
      taken = subst (λ (got : List ℕ). Consumes a b got) (sym (append-nil read.0)) read.2;
      ends = subst (λ (s : Seen). IsFilledTo s [] (length filled) most b) (sym is) refl;
      few = omega (arith, few);
      within = within;
      more = omega (arith, one, less, enough);
    }

-- bytes were read so far, and then a read failed
pub unfilled_by : (held bytes : List ℕ) (need most : ℕ) (a b c : Option (List ℕ)) → ReadSoFar held bytes a b → length bytes < need → length bytes ≤ most → c ≡ b
    → IsUnfilled held need most a c
unfilled_by held bytes need most a b c read few within same =
    let size : length bytes ≡ length held + length read.0 = rw read.1 (length-append held read.0) in
    record {
      got = read.0;
      taken = subst (λ (left : Option (List ℕ)). Consumes a left read.0) (sym same) read.2;
      few = omega (arith, size, few);
      within = omega (arith, size, within);
    }

-- bytes were read so far, and then some more
pub took_behind : (held bytes got : List ℕ) (first most : ℕ) (a b c : Option (List ℕ)) → length held ≡ first → ReadSoFar held bytes a b → Consumes b c got
    → length bytes + length got ≤ suc most → TookAtMost (suc most - first) a c
took_behind held bytes got first most a b c start read more few =
    let size : length bytes ≡ length held + length read.0 = rw read.1 (length-append held read.0) in
    (read.0 ++ got, Consumes-trans a b c read.0 got read.2 more, omega (arith, start, few, size, length-append read.0 got))

pub took_so_far : (held bytes : List ℕ) (first most : ℕ) (a b : Option (List ℕ)) → length held ≡ first → ReadSoFar held bytes a b → length bytes ≤ most
    → TookAtMost (suc most - first) a b
took_so_far held bytes first most a b start read few =
    let size : length bytes ≡ length held + length read.0 = rw read.1 (length-append held read.0) in
    (read.0, read.2, omega (arith, start, few, size))
