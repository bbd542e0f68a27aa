-- Reading one file after the other.
use Rattle.std.proofs.Common.{◌≡◌, ◌<◌, ◌≤◌, ℕ, suc, ◌+◌, Bool, true, false, List, [], ◌∷◌, ◌++◌, length, take, Option, Some, None, IfSome, refl, sym, ap, ◌∙◌, subst, append_assoc, append-nil, arith, get_or, inr, ⊎_elim}
use Rattle.std.specs.Prelude.{nat_lt}
use Rattle.std.proofs.lemmas.List.{take_more}
use Rattle.std.proofs.lemmas.Bool.{cases_eq}
use Rattle.std.proofs.lemmas.Bool.Decides.{nat_tests}
use Rattle.std.proofs.lemmas.Option.{slice_get_read}
use Rattle.pk_base.specs.Limits.{file_limit}
use Rattle.pk_outside.specs.Outside.{Rose, counted}
use Rattle.capture_read.specs.Capture.{capture_of}
use Rattle.capture_read.specs.FrameList.{captured_bytes}
use Rattle.capture_read.specs.Taken.{TookAtMost}
use Rattle.capture_read.specs.declared.ending.Ending.{Ending}
use Rattle.merge_caps.specs.declared.place.Entry.{Entry}
use Rattle.merge_caps.specs.declared.readings.Cause.{Cause}
use Rattle.merge_caps.specs.declared.readings.Cause.TheVariants as cause
use Rattle.merge_caps.specs.Causes.{IsLargeAt}
use Rattle.merge_caps.specs.Merged.{all_placed, placed_from}
use Rattle.merge_caps.specs.Reading.{ReadSoFar, with_file, files_of, endings_of, captured_of, is_too_much, is_too_much_of, are_too_large, with_reading, read_of, AreSmallUpTo, IsLeftOf, IsLeftOfOne}
use Rattle.merge_caps.specs.Stopped.{Seen, IsCause}

-- the files of names, and of one more
some_files : (one : Option (List ℕ)) (more : Option (List (List ℕ))) (P : List (List ℕ) → Type 0)
    → ((file : List ℕ) → one ≡ Some file → IfSome more (λ files. P (file ∷ files))) → IfSome (with_file one more) P
some_files None more P all = tt
some_files (Some file) None P all = tt
some_files (Some file) (Some files) P all = all file refl

one_file : (one : Option (List ℕ)) (P : List (List ℕ) → Type 0) → ((file : List ℕ) → one ≡ Some file → P (file ∷ [])) → IfSome (with_file one (Some [])) P
one_file None P all = tt
one_file (Some file) P all = all file refl

pub files_more : (tell : List ℕ → Option (List ℕ)) (names : List (List ℕ)) (name : List ℕ) (P : List (List ℕ) → Type 0)
    → ((files : List (List ℕ)) → files_of tell names ≡ Some files → (file : List ℕ) → tell name ≡ Some file → P (files ++ file ∷ []))
    → IfSome (files_of tell (names ++ name ∷ [])) P
files_more tell [] name P all = one_file (tell name) P (λ file is. all [] refl file is)
files_more tell (first ∷ names) name P all =
    some_files (tell first) (files_of tell (names ++ name ∷ [])) P (λ one told.
    files_more tell names name (λ files. P (one ∷ files)) (λ files are file is.
    all (one ∷ files) (ap (λ (o : Option (List ℕ)). with_file o (files_of tell names)) told ∙ ap (with_file (Some one)) are) file is))

-- all that is read of files, and of one more
placed_more : (place : ℕ) (files : List (List ℕ)) (file : List ℕ)
    → all_placed place (files ++ file ∷ []) ≡ all_placed place files ++ placed_from None (place + length files) (capture_of file).frames
placed_more place [] file =
    let same : place + 0 ≡ place = omega arith in
    append-nil (placed_from None place (capture_of file).frames) ∙ ap (λ (n : ℕ). placed_from None n (capture_of file).frames) (sym same)
placed_more place (first ∷ files) file =
    let same : suc place + length files ≡ place + suc (length files) = omega arith in
    ap (λ (es : List Entry). placed_from None place (capture_of first).frames ++ es) (placed_more (suc place) files file
    ∙ ap (λ (n : ℕ). all_placed (suc place) files ++ placed_from None n (capture_of file).frames) same)
    ∙ sym (append_assoc (placed_from None place (capture_of first).frames) (all_placed (suc place) files) (placed_from None (place + suc (length files)) (capture_of file).frames))

endings_more : (files : List (List ℕ)) (file : List ℕ) → endings_of (files ++ file ∷ []) ≡ endings_of files ++ (capture_of file).ending ∷ []
endings_more [] file = refl
endings_more (first ∷ files) file = ap (λ (es : List Ending). (capture_of first).ending ∷ es) (endings_more files file)

captured_more : (files : List (List ℕ)) (file : List ℕ) → captured_of (files ++ file ∷ []) ≡ captured_of files + captured_bytes (capture_of file).frames
captured_more [] file = omega arith
captured_more (first ∷ files) file = omega (arith, captured_more files file)

endings_length : (files : List (List ℕ)) → length (endings_of files) ≡ length files
endings_length [] = refl
endings_length (file ∷ files) = ap suc (endings_length files)

pub read_more : (files : List (List ℕ)) (file : List ℕ) → read_of (files ++ file ∷ []) ≡ with_reading (capture_of file) (read_of files)
read_more files file =
    let place : 0 + length files ≡ length (endings_of files) = omega (arith, endings_length files) in
    let entries : all_placed 0 (files ++ file ∷ []) ≡ all_placed 0 files ++ placed_from None (length (endings_of files)) (capture_of file).frames =
    placed_more 0 files file ∙ ap (λ (n : ℕ). all_placed 0 files ++ placed_from None n (capture_of file).frames) place in
    λ i. record { entries = entries i; endings = endings_more files file i; captured = captured_more files file i }

-- what was read is what the files of the first names come to
abbrev pub IsReadOf : (List ℕ → Option (List ℕ)) → List (List ℕ) → ReadSoFar → Type 0
IsReadOf tell names read = IfSome (files_of tell names) (λ files. read ≡ read_of files)

at_some : {A : Type 0} (o : Option A) (a : A) (P : A → Type 0) → o ≡ Some a → IfSome o P → P a
at_some o a P is h = subst (λ (x : Option _). IfSome x P) is h

pub reads_on : (tell : List ℕ → Option (List ℕ)) (names : List (List ℕ)) (name : List ℕ) (old new : ReadSoFar)
    → IsReadOf tell names old → IfSome (tell name) (λ file. new ≡ with_reading (capture_of file) old) → IsReadOf tell (names ++ name ∷ []) new
reads_on tell names name old new read more =
    files_more tell names name (λ files. new ≡ read_of files) (λ files are file is.
    at_some (tell name) file (λ f. new ≡ with_reading (capture_of f) old) is more
    ∙ ap (with_reading (capture_of file)) (at_some (files_of tell names) files (λ fs. old ≡ read_of fs) are read)
    ∙ sym (read_more files file))

-- whether these files are too large is told by what was read of them
pub judged : (tell : List ℕ → Option (List ℕ)) (names : List (List ℕ)) (read : ReadSoFar) (answer : Bool)
    → IsReadOf tell names read → is_too_much_of read ≡ answer → IfSome (files_of tell names) (λ files. are_too_large files ≡ answer)
unfolding are_too_large
judged tell names read answer is judges = by (files_of tell names) is
  where
    by : (o : Option (List (List ℕ))) → IfSome o (λ files. read ≡ read_of files) → IfSome o (λ files. are_too_large files ≡ answer)
    by None h = tt
    by (Some files) h = ap is_too_much_of (sym h) ∙ judges

pub small_first : (tell : List ℕ → Option (List ℕ)) (names : List (List ℕ)) → AreSmallUpTo tell names 0
unfolding are_too_large
small_first tell names = λ n few. let none : n ≡ 0 = omega (arith, few) in subst (λ (m : ℕ). IfSome (files_of tell (take m names)) (λ files. are_too_large files ≡ false)) (sym none) nothing
  where
    nothing : are_too_large [] ≡ false
    nothing = grind (arith, nat_tests)

pub small_more : (tell : List ℕ → Option (List ℕ)) (names : List (List ℕ)) (count : ℕ) → AreSmallUpTo tell names count
    → IfSome (files_of tell (take (count + 1) names)) (λ files. are_too_large files ≡ false) → AreSmallUpTo tell names (count + 1)
small_more tell names count small next = λ n few.
    ⊎_elim (λ (same : n ≡ count + 1). subst (λ (m : ℕ). IfSome (files_of tell (take m names)) (λ files. are_too_large files ≡ false)) (sym same) next)
    (λ other. small n (omega (arith, few, other))) (cases_eq n (count + 1))

none_below : nat_lt file_limit 0 ≡ false
none_below = grind (arith, nat_tests)

pub little_first : (read : ReadSoFar) → read.endings ≡ [] → read.captured ≡ 0 → is_too_much_of read ≡ false
little_first read none no_byte = by_parts read.endings read.captured none no_byte
  where
    by_parts : (endings : List Ending) (captured : ℕ) → endings ≡ [] → captured ≡ 0 → is_too_much endings captured ≡ false
    by_parts endings captured empty nothing =
        ap (λ (es : List Ending). is_too_much es captured) empty ∙ ap (λ (n : ℕ). is_too_much [] n) nothing ∙ none_below

-- the next file, by its name's place
pub reads_next : (tell here : List ℕ → Option (List ℕ)) (names : List (List ℕ)) (place : ℕ) (name : List ℕ) (old new : ReadSoFar)
    → place < length names → name ≡ get_or names place name → here name ≡ tell name
    → IsReadOf tell (take place names) old → IfSome (here name) (λ file. new ≡ with_reading (capture_of file) old) → IsReadOf tell (take (place + 1) names) new
reads_next tell here names place name old new within is same read more =
    subst (λ (front : List (List ℕ)). IsReadOf tell front new) (ap (λ (n : List ℕ). take place names ++ n ∷ []) is ∙ sym (take_more names place name within))
    (reads_on tell (take place names) name old new read (subst (λ (told : Option (List ℕ)). IfSome told (λ file. new ≡ with_reading (capture_of file) old)) same more))

-- the next file is too large
large_on : (tell : List ℕ → Option (List ℕ)) (names : List (List ℕ)) (name : List ℕ) (old : ReadSoFar)
    → IsReadOf tell names old → IfSome (tell name) (λ file. is_too_much_of (with_reading (capture_of file) old) ≡ true)
    → IfSome (files_of tell (names ++ name ∷ [])) (λ files. are_too_large files ≡ true)
unfolding are_too_large
large_on tell names name old read much =
    files_more tell names name (λ files. are_too_large files ≡ true) (λ files are file is.
    ap is_too_much_of (read_more files file ∙ ap (with_reading (capture_of file)) (sym (at_some (files_of tell names) files (λ fs. old ≡ read_of fs) are read)))
    ∙ at_some (tell name) file (λ f. is_too_much_of (with_reading (capture_of f) old) ≡ true) is much)

pub large_next : (tell here : List ℕ → Option (List ℕ)) (names : List (List ℕ)) (place : ℕ) (name : List ℕ) (old : ReadSoFar)
    → place < length names → name ≡ get_or names place name → here name ≡ tell name
    → IsReadOf tell (take place names) old → IfSome (here name) (λ file. is_too_much_of (with_reading (capture_of file) old) ≡ true) → IsLargeAt tell names place
large_next tell here names place name old within is same read much =
    let next : place + 1 ≡ suc place = omega arith in
    subst (λ (n : ℕ). IfSome (files_of tell (take n names)) (λ files. are_too_large files ≡ true)) next
    (subst (λ (front : List (List ℕ)). IfSome (files_of tell front) (λ files. are_too_large files ≡ true)) (ap (λ (n : List ℕ). take place names ++ n ∷ []) is ∙ sym (take_more names place name within))
    (large_on tell (take place names) name old read (subst (λ (told : Option (List ℕ)). IfSome told (λ file. is_too_much_of (with_reading (capture_of file) old) ≡ true)) same much)))

-- why the next file isn't read
pub cause_is : (c : Cause) (names : List (List ℕ)) (place : ℕ) (name : List ℕ) (old mid new : Seen) → place < length names → name ≡ get_or names place name
    → old.begun ≤ mid.begun → mid.begun ≤ old.begun + place → mid.missed ≡ old.missed → mid.faults ≡ old.faults
    → (c ≡ cause.CannotOpen → (new.missed ≡ counted mid.missed) × (new.begun ≡ mid.begun) × (new.refused ≡ true) × (new.asked ≡ name))
    → (c ≡ cause.ReadFault → Rose mid.faults new.faults × (new.begun ≡ counted mid.begun) × (new.missed ≡ mid.missed) × (new.asked ≡ name))
    → (c ≡ cause.TooLarge → IsLargeAt old.tell names place)
    → (c ≡ cause.NoMemory → (new.missed ≡ mid.missed) × (new.faults ≡ mid.faults))
    → IsCause c names place old new
cause_is cause.CannotOpen names place name old mid new within is begun few missed faults unopened unread large starved =
    let h = unopened refl in
    record {
      name = slice_get_read names (length names) place name refl within is ∙ ap Some (sym h.3);
      rose = omega (arith, h.0, missed);
      begun = omega (arith, h.1, few);
      last = h.2;
    }
cause_is cause.ReadFault names place name old mid new within is begun few missed faults unopened unread large starved =
    let h = unread refl in
    record {
      name = slice_get_read names (length names) place name refl within is ∙ ap Some (sym h.3);
      rose = omega (arith, h.0, faults);
      begun = omega (arith, h.1, begun);
      few = omega (arith, h.1, few);
      not_missed = h.2 ∙ missed;
    }
cause_is cause.TooLarge names place name old mid new within is begun few missed faults unopened unread large starved = large refl
cause_is cause.NoMemory names place name old mid new within is begun few missed faults unopened unread large starved =
    let h = starved refl in (h.0 ∙ missed, h.1 ∙ faults)

-- what is left behind the next file, and behind none
pub left_next : (tell here : List ℕ → Option (List ℕ)) (names : List (List ℕ)) (place : ℕ) (name : List ℕ) (a b c : Option (List ℕ)) → place < length names
    → name ≡ get_or names place name → here name ≡ tell name → IsLeftOfOne tell names a b → IsLeftOf here name b c → IsLeftOfOne tell names a c
left_next tell here names place name a b c within is same before next =
    ⊎_elim (λ (stays : c ≡ b). subst (λ (left : Option (List ℕ)). IsLeftOfOne tell names a left) (sym stays) before)
    (λ took. inr (place, name, slice_get_read names (length names) place name refl within is, subst (λ (file : Option (List ℕ)). TookAtMost (suc file_limit) file c) same took)) next

-- the file of a name was begun, and few bytes were taken of it
pub left_begun : (tell : List ℕ → Option (List ℕ)) (name : List ℕ) (a b c : Option (List ℕ)) → b ≡ tell name → TookAtMost (suc file_limit) b c → IsLeftOf tell name a c
left_begun tell name a b c begun took = inr (subst (λ (file : Option (List ℕ)). TookAtMost (suc file_limit) file c) begun took)
