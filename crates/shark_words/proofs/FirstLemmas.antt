-- The fault that is told is the first.
use Rattle.std.proofs.Common.{◌≡◌, ◌⊎◌, inl, inr, ⊎_elim, ◌<◌, ℕ, zero, suc, Bool, true, false, ◌||◌, max, List, [], ◌∷◌, ◌++◌, length, take, append-nil, append_assoc, Option, Some, None, Err, if◌then◌else◌, refl, sym, ap, subst, ◌∙◌, arith}
use Rattle.std.specs.Prelude.{option_map}
use Rattle.std.specs.Option.{option_or}
use Rattle.std.specs.List.{slice_get}
use Rattle.std.proofs.lemmas.Bool.{both_ways}
use Rattle.shark_words.proofs.SlotLemmas.{same_slot, slot_itself}
use Rattle.shark_words.specs.Asked.{clash_word, is_clashing, later, value_of, word_in, word_of}
use Rattle.shark_words.specs.Faults.{fault, fault_of, first_fault, is_given, slot_in, text_in, value_fault}
use Rattle.shark_words.specs.FirstFaults.{AreRight, FaultsAreFirst, HasNone, IsFaultOf, IsFirstOf, IsFirstWrong, IsTwice, IsValueWrong, IsWithoutFields, IsWrong, IsWrongInAll, IsWrongTogether, is_idle}
use Rattle.shark_words.specs.Letters.{has_value, is_same}
use Rattle.shark_words.specs.Options.{asked, clash_fault, fields_fault, judged, options_by, options_of, source_of, together_fault, unless, unused_fault}
use Rattle.shark_words.specs.Slots.{is_held, is_same_slot, is_taken, slot_of, with_slot}
use Rattle.shark_words.specs.Uses.{uses_of}
use Rattle.shark_words.specs.Values.{is_value, kind_asked}
use Rattle.shark_words.specs.declared.fault.WordFault.{WordFault}
use Rattle.shark_words.specs.declared.fault.WordReason.TheVariants.{BadValue, Clash, MissingValue, NoFields, NoFile, Repeated, StrayWord, UnknownOption, Unused}
use Rattle.shark_words.specs.declared.letter.Letter.{Letter}
use Rattle.shark_words.specs.declared.letter.Letter.TheVariants.{Kind, Name, Output}
use Rattle.shark_words.specs.declared.options.LineKind.{LineKind}
use Rattle.shark_words.specs.declared.options.LineKind.TheVariants.{Fields, Json, Text}
use Rattle.shark_words.specs.declared.options.Options.{Options}
use Rattle.shark_words.specs.declared.options.Source.{Source}
use Rattle.shark_words.specs.declared.slot.Slot.{Slot}
use Rattle.shark_words.specs.declared.uses.Given.{Given}
use Rattle.shark_words.specs.declared.uses.Use.{Use}
use Rattle.shark_words.specs.declared.uses.Use.TheVariants as use_
use Rattle.shark_words.specs.declared.uses.Value.{Value}

-- what uses give that may come once
abbrev slot_before : Option Slot → List Slot → List Slot
slot_before None held = held
slot_before (Some slot) held = slot ∷ held

abbrev all_slots : List Use → List Slot
all_slots [] = []
all_slots (used ∷ uses) = slot_before (slot_in used) (all_slots uses)

before_behind : (one other : Option Slot) (held : List Slot) → slot_before one (with_slot other held) ≡ with_slot other (slot_before one held)
before_behind None other held = refl
before_behind (Some slot) None held = refl
before_behind (Some slot) (Some more) held = refl

one_behind : (one : Option Slot) → slot_before one [] ≡ with_slot one []
one_behind None = refl
one_behind (Some slot) = refl

slots_behind : (front : List Use) (used : Use) → with_slot (slot_in used) (all_slots front) ≡ all_slots (front ++ used ∷ [])
slots_behind [] used = sym (one_behind (slot_in used))
slots_behind (u ∷ front) used = sym (before_behind (slot_in u) (slot_in used) (all_slots front)) ∙ ap (slot_before (slot_in u)) (slots_behind front used)

-- taken is given before
abbrev IsSlotOf : List Use → Slot → Type 0
IsSlotOf front slot = (n : ℕ) × (earlier : Use) × (slice_get front n ≡ Some earlier) × (slot_in earlier ≡ Some slot)

or_either : (a b : Bool) → (a || b) ≡ true → (a ≡ true) ⊎ (b ≡ true)
or_either true b is = inl refl
or_either false b is = inr is

or_one : (a b : Bool) → a ≡ true → (a || b) ≡ true
or_one a b is = ap (λ t. t || b) is

or_other : (a b : Bool) → b ≡ true → (a || b) ≡ true
or_other true b is = refl
or_other false b is = is

slot_later : (u : Use) (front : List Use) (slot : Slot) → IsSlotOf front slot → IsSlotOf (u ∷ front) slot
slot_later u front slot is = (suc is.0, is.1, is.2, is.3)

held_step : (slot : Slot) (u : Use) (front : List Use) (given : Option Slot) → slot_in u ≡ given → is_held slot (slot_before given (all_slots front)) ≡ true → (is_held slot (all_slots front) ≡ true → IsSlotOf front slot) →
    IsSlotOf (u ∷ front) slot
held_step slot u front None is held rest = slot_later u front slot (rest held)
held_step slot u front (Some other) is held rest =
    ⊎_elim (λ same. (zero, u, refl, is ∙ ap Some (sym (same_slot slot other same)))) (λ more. slot_later u front slot (rest more)) (or_either (is_same_slot slot other) (is_held slot (all_slots front)) held)

held_given : (slot : Slot) (front : List Use) → is_held slot (all_slots front) ≡ true → IsSlotOf front slot
held_given slot [] held = cc
held_given slot (u ∷ front) held = held_step slot u front (slot_in u) refl held (held_given slot front)

here_step : (slot : Slot) (given : Option Slot) (held : List Slot) → given ≡ Some slot → is_held slot (slot_before given held) ≡ true
here_step slot None held is = cc
here_step slot (Some other) held is =
    let same : other ≡ slot = cc in
    or_one (is_same_slot slot other) (is_held slot held) (ap (is_same_slot slot) same ∙ slot_itself slot)

there_step : (slot : Slot) (given : Option Slot) (held : List Slot) → is_held slot held ≡ true → is_held slot (slot_before given held) ≡ true
there_step slot None held is = is
there_step slot (Some other) held is = or_other (is_same_slot slot other) (is_held slot held) is

given_held : (slot : Slot) (front : List Use) (n : ℕ) (earlier : Use) → slice_get front n ≡ Some earlier → slot_in earlier ≡ Some slot → is_held slot (all_slots front) ≡ true
given_held slot [] n earlier there is = cc
given_held slot (u ∷ front) zero earlier there is = let same : u ≡ earlier = cc in here_step slot (slot_in u) (all_slots front) (ap slot_in same ∙ is)
given_held slot (u ∷ front) (suc n) earlier there is = there_step slot (slot_in u) (all_slots front) (given_held slot front n earlier there is)

abbrev IsTaken : List Use → Option Slot → Type 0
IsTaken front given = (n : ℕ) × (earlier : Use) × (slot : Slot) × (slice_get front n ≡ Some earlier) × (slot_in earlier ≡ Some slot) × (given ≡ Some slot)

taken_twice : (front : List Use) (given : Option Slot) → is_taken given (all_slots front) ≡ true → IsTaken front given
taken_twice front None is = cc
taken_twice front (Some slot) is = let g = held_given slot front is in (g.0, g.1, slot, g.2, g.3, refl)

twice_taken : (front : List Use) (given : Option Slot) → IsTaken front given → is_taken given (all_slots front) ≡ true
twice_taken front given is = subst (λ o. is_taken o (all_slots front) ≡ true) (sym is.5) (given_held is.2 front is.0 is.1 is.3 is.4)

-- what is wrong with a value
if_some : (test : Bool) (one f : WordFault) → (if test then Some one else None) ≡ Some f → (test ≡ true) × (f ≡ one)
if_some true one f is = let same : one ≡ f = cc in (refl, sym same)
if_some false one f is = cc

if_none : (test : Bool) (one f : WordFault) → (if test then None else Some one) ≡ Some f → (test ≡ false) × (f ≡ one)
if_none true one f is = cc
if_none false one f is = let same : one ≡ f = cc in (refl, sym same)

value_wrong : (word : ℕ) (letter : Letter) (value : Option Value) (f : WordFault) → value_fault word letter value ≡ Some f → IsValueWrong word letter value f
value_wrong word letter None f is = if_some (has_value letter) (fault word MissingValue) f is
value_wrong word letter (Some value) f is = if_none (is_value letter value.text) (fault value.word BadValue) f is

wrong_value : (word : ℕ) (letter : Letter) (value : Option Value) (f : WordFault) → IsValueWrong word letter value f → value_fault word letter value ≡ Some f
wrong_value word letter None f is = ap (λ test. if test then Some (fault word MissingValue) else None) is.0 ∙ ap Some (sym is.1)
wrong_value word letter (Some value) f is = ap (λ test. if test then None else Some (fault value.word BadValue)) is.0 ∙ ap Some (sym is.1)

-- what is wrong with a use
abbrev slot_of_given : Given → Option Slot
slot_of_given given = slot_of given.letter (text_in given.value)

given_wrong : (front : List Use) (given : Given) (f : WordFault) (taken : Bool) → is_taken (slot_of_given given) (all_slots front) ≡ taken →
    (if taken then Some (fault given.word Repeated) else value_fault given.word given.letter given.value) ≡ Some f → IsWrong front (use_.Given given) f
given_wrong front given f true is wrong = let same : fault given.word Repeated ≡ f = cc in inl (taken_twice front (slot_of_given given) is, sym same)
given_wrong front given f false is wrong =
    inr (λ twice. absurd (both_ways (is_taken (slot_of_given given) (all_slots front)) is (twice_taken front (slot_of_given given) twice)), value_wrong given.word given.letter given.value f wrong)

fault_wrong : (front : List Use) (used : Use) (f : WordFault) → fault_of (all_slots front) used ≡ Some f → IsWrong front used f
fault_wrong front (use_.Unknown word) f is = let same : fault word UnknownOption ≡ f = cc in sym same
fault_wrong front (use_.Stray word) f is = let same : fault word StrayWord ≡ f = cc in sym same
fault_wrong front (use_.Given given) f is = given_wrong front given f (is_taken (slot_of_given given) (all_slots front)) refl is

not_taken : (front : List Use) (given : Given) (taken : Bool) → is_taken (slot_of_given given) (all_slots front) ≡ taken → (IsTwice front (use_.Given given) → ⊥) → taken ≡ false
not_taken front given true is not_twice = absurd (not_twice (taken_twice front (slot_of_given given) is))
not_taken front given false is not_twice = refl

wrong_fault : (front : List Use) (used : Use) (f : WordFault) → IsWrong front used f → fault_of (all_slots front) used ≡ Some f
wrong_fault front (use_.Unknown word) f is = ap Some (sym is)
wrong_fault front (use_.Stray word) f is = ap Some (sym is)
wrong_fault front (use_.Given given) f (inl is) =
    ap (λ taken. if taken then Some (fault given.word Repeated) else value_fault given.word given.letter given.value) (twice_taken front (slot_of_given given) is.0) ∙ ap Some (sym is.1)
wrong_fault front (use_.Given given) f (inr is) =
    ap (λ taken. if taken then Some (fault given.word Repeated) else value_fault given.word given.letter given.value)
    (not_taken front given (is_taken (slot_of_given given) (all_slots front)) refl is.0) ∙ wrong_value given.word given.letter given.value f is.1

-- the first of them, behind others
abbrev RightBehind : List Use → List Use → Type 0
RightBehind front uses = (n : ℕ) (used : Use) (f : WordFault) → slice_get uses n ≡ Some used → IsWrong (front ++ take n uses) used f → ⊥

abbrev FirstBehind : List Use → List Use → WordFault → Type 0
FirstBehind front uses f = (n : ℕ) × (used : Use) × (slice_get uses n ≡ Some used) × IsWrong (front ++ take n uses) used f × RightBehind front (take n uses)

none_wrong : (front : List Use) (used : Use) (f : WordFault) → fault_of (all_slots front) used ≡ None → IsWrong front used f → ⊥
none_wrong front used f none is = let some = wrong_fault front used f is in let no : None ≡ Some f = sym none ∙ some in cc

right_more : (front : List Use) (u : Use) (uses : List Use) → fault_of (all_slots front) u ≡ None → RightBehind (front ++ u ∷ []) uses → RightBehind front (u ∷ uses)
right_more front u uses none right zero used f there wrong =
    let same : u ≡ used = cc in
    none_wrong front u f none (subst (λ x. IsWrong front x f) (sym same) (subst (λ (fs : List Use). IsWrong fs used f) (append-nil front) wrong))
right_more front u uses none right (suc n) used f there wrong =
    right n used f there (subst (λ (fs : List Use). IsWrong fs used f) (sym (append_assoc front (u ∷ []) (take n uses))) wrong)

right_less : (front : List Use) (u : Use) (uses : List Use) → RightBehind front (u ∷ uses) → RightBehind (front ++ u ∷ []) uses
right_less front u uses right n used f there wrong = right (suc n) used f there (subst (λ (fs : List Use). IsWrong fs used f) (append_assoc front (u ∷ []) (take n uses)) wrong)

first_more : (front : List Use) (u : Use) (uses : List Use) (f : WordFault) → fault_of (all_slots front) u ≡ None → FirstBehind (front ++ u ∷ []) uses f → FirstBehind front (u ∷ uses) f
first_more front u uses f none is =
    (suc is.0, is.1, is.2, subst (λ (fs : List Use). IsWrong fs is.1 f) (append_assoc front (u ∷ []) (take is.0 uses)) is.3, right_more front u (take is.0 uses) none is.4)

nothing_right : (front : List Use) → RightBehind front []
nothing_right front n used f there wrong = cc

first_step : (front : List Use) (u : Use) (uses : List Use) (f : WordFault) (found : Option WordFault) → fault_of (all_slots front) u ≡ found →
    option_or found (first_fault (with_slot (slot_in u) (all_slots front)) uses) ≡ Some f →
    (first_fault (all_slots (front ++ u ∷ [])) uses ≡ Some f → FirstBehind (front ++ u ∷ []) uses f) → FirstBehind front (u ∷ uses) f
first_step front u uses f (Some g) is first rest =
    let same : g ≡ f = cc in
    (zero, u, refl, subst (λ (fs : List Use). IsWrong fs u f) (sym (append-nil front)) (fault_wrong front u f (is ∙ ap Some same)), nothing_right front)
first_step front u uses f None is first rest =
    first_more front u uses f is (rest (ap (λ held. first_fault held uses) (sym (slots_behind front u)) ∙ first))

first_wrong : (front uses : List Use) (f : WordFault) → first_fault (all_slots front) uses ≡ Some f → FirstBehind front uses f
unfolding first_fault
first_wrong front [] f is = cc
first_wrong front (u ∷ uses) f is = first_step front u uses f (fault_of (all_slots front) u) refl is (first_wrong (front ++ u ∷ []) uses f)

no_fault : (front : List Use) (u : Use) (uses : List Use) (found : Option WordFault) → fault_of (all_slots front) u ≡ found → RightBehind front (u ∷ uses) → found ≡ None
no_fault front u uses None is right = refl
no_fault front u uses (Some g) is right = absurd (right zero u g refl (subst (λ (fs : List Use). IsWrong fs u g) (sym (append-nil front)) (fault_wrong front u g is)))

wrong_first : (front uses : List Use) (f : WordFault) (n : ℕ) (used : Use) → slice_get uses n ≡ Some used → IsWrong (front ++ take n uses) used f → RightBehind front (take n uses) → first_fault (all_slots front) uses ≡ Some f
unfolding first_fault
wrong_first front [] f n used there wrong right = cc
wrong_first front (u ∷ uses) f zero used there wrong right =
    let same : u ≡ used = cc in
    let here = subst (λ (fs : List Use). IsWrong fs used f) (append-nil front) wrong in
    ap (λ found. option_or found (first_fault (with_slot (slot_in u) (all_slots front)) uses)) (wrong_fault front u f (subst (λ x. IsWrong front x f) (sym same) here))
wrong_first front (u ∷ uses) f (suc n) used there wrong right =
    let none = no_fault front u (take n uses) (fault_of (all_slots front) u) refl right in
    ap (λ found. option_or found (first_fault (with_slot (slot_in u) (all_slots front)) uses)) none
    ∙ ap (λ held. first_fault held uses) (slots_behind front u)
    ∙ wrong_first (front ++ u ∷ []) uses f n used there (subst (λ (fs : List Use). IsWrong fs used f) (sym (append_assoc front (u ∷ []) (take n uses))) wrong) (right_less front u (take n uses) right)

none_step : (front : List Use) (u : Use) (uses : List Use) (found : Option WordFault) → fault_of (all_slots front) u ≡ found →
    option_or found (first_fault (with_slot (slot_in u) (all_slots front)) uses) ≡ None → (first_fault (all_slots (front ++ u ∷ [])) uses ≡ None → RightBehind (front ++ u ∷ []) uses) → RightBehind front (u ∷ uses)
none_step front u uses (Some g) is none rest = cc
none_step front u uses None is none rest = right_more front u uses is (rest (ap (λ held. first_fault held uses) (sym (slots_behind front u)) ∙ none))

none_right : (front uses : List Use) → first_fault (all_slots front) uses ≡ None → RightBehind front uses
unfolding first_fault
none_right front [] is = nothing_right front
none_right front (u ∷ uses) is = none_step front u uses (fault_of (all_slots front) u) refl is (none_right (front ++ u ∷ []) uses)

right_none : (uses : List Use) (found : Option WordFault) → first_fault [] uses ≡ found → AreRight uses → found ≡ None
right_none uses None is right = refl
right_none uses (Some g) is right = let first = first_wrong [] uses g is in absurd (right first.0 first.1 g first.2 first.3)

-- the first option whose letter passes a test
abbrev word_if : Bool → ℕ → Option ℕ
word_if test word = if test then Some word else None

none_before : (test : Letter → Bool) (uses : List Use) (n : ℕ) → Type 0
none_before test uses n = (m : ℕ) (other : Given) → m < n → slice_get uses m ≡ Some (use_.Given other) → test other.letter ≡ false

later_of : (test : Letter → Bool) (u : Use) (uses : List Use) (word : ℕ) → ((given : Given) → u ≡ use_.Given given → test given.letter ≡ false) → IsFirstOf test uses word → IsFirstOf test (u ∷ uses) word
later_of test u uses word not_u is = (suc is.0, is.1, is.2, is.3, is.4, before)
  where
    before : (m : ℕ) (other : Given) → m < suc is.0 → slice_get (u ∷ uses) m ≡ Some (use_.Given other) → test other.letter ≡ false
    before zero other less there = let same : u ≡ use_.Given other = cc in not_u other same
    before (suc m) other less there = is.5 m other (omega (arith, less)) there

given_step : (test : Letter → Bool) (given : Given) (uses : List Use) (word : ℕ) (passes : Bool) → test given.letter ≡ passes → option_or (word_if passes given.word) (word_of test uses) ≡ Some word →
    (word_of test uses ≡ Some word → IsFirstOf test uses word) → IsFirstOf test (use_.Given given ∷ uses) word
given_step test given uses word true is found rest =
    let same : given.word ≡ word = cc in
    (zero, given, refl, is, same, λ m other less there. let none : ⊥ = omega (arith, less) in absurd none)
given_step test given uses word false is found rest =
    later_of test (use_.Given given) uses word (λ g same. let one : given ≡ g = cc in ap (λ (x : Given). test x.letter) (sym one) ∙ is) (rest found)

word_first : (test : Letter → Bool) (uses : List Use) (word : ℕ) → word_of test uses ≡ Some word → IsFirstOf test uses word
word_first test [] word found = cc
word_first test (use_.Unknown w ∷ uses) word found = later_of test (use_.Unknown w) uses word (λ g same. cc) (word_first test uses word found)
word_first test (use_.Stray w ∷ uses) word found = later_of test (use_.Stray w) uses word (λ g same. cc) (word_first test uses word found)
word_first test (use_.Given given ∷ uses) word found = given_step test given uses word (test given.letter) refl found (word_first test uses word)

sooner : (test : Letter → Bool) (u : Use) (uses : List Use) (n : ℕ) → ((m : ℕ) (other : Given) → m < suc n → slice_get (u ∷ uses) m ≡ Some (use_.Given other) → test other.letter ≡ false) →
    (m : ℕ) (other : Given) → m < n → slice_get uses m ≡ Some (use_.Given other) → test other.letter ≡ false
sooner test u uses n before m other less at = before (suc m) other (omega (arith, less)) at

first_word : (test : Letter → Bool) (uses : List Use) (word n : ℕ) (given : Given) → slice_get uses n ≡ Some (use_.Given given) → test given.letter ≡ true → given.word ≡ word →
    ((m : ℕ) (other : Given) → m < n → slice_get uses m ≡ Some (use_.Given other) → test other.letter ≡ false) → word_of test uses ≡ Some word
first_word test [] word n given there passes is before = cc
first_word test (u ∷ uses) word zero given there passes is before =
    let same : u ≡ use_.Given given = cc in
    ap (λ x. option_or (word_in test x) (word_of test uses)) same ∙ ap (λ t. option_or (word_if t given.word) (word_of test uses)) passes ∙ ap Some is
first_word test (use_.Unknown w ∷ uses) word (suc n) given there passes is before = first_word test uses word n given there passes is (sooner test (use_.Unknown w) uses n before)
first_word test (use_.Stray w ∷ uses) word (suc n) given there passes is before = first_word test uses word n given there passes is (sooner test (use_.Stray w) uses n before)
first_word test (use_.Given g ∷ uses) word (suc n) given there passes is before =
    ap (λ t. option_or (word_if t g.word) (word_of test uses)) (before zero g (omega arith) refl) ∙ first_word test uses word n given there passes is (sooner test (use_.Given g) uses n before)

has_step : (test : Letter → Bool) (g : Given) (uses : List Use) (passes : Bool) → test g.letter ≡ passes → option_or (word_if passes g.word) (word_of test uses) ≡ None →
    (word_of test uses ≡ None → HasNone test uses) → HasNone test (use_.Given g ∷ uses)
has_step test g uses true passes found rest k given at = cc
has_step test g uses false passes found rest zero given at = let one : g ≡ given = cc in ap (λ (x : Given). test x.letter) (sym one) ∙ passes
has_step test g uses false passes found rest (suc k) given at = rest found k given at

has_none : (test : Letter → Bool) (uses : List Use) → word_of test uses ≡ None → HasNone test uses
has_none test [] none n given there = cc
has_none test (use_.Unknown w ∷ uses) none zero given there = cc
has_none test (use_.Unknown w ∷ uses) none (suc n) given there = has_none test uses none n given there
has_none test (use_.Stray w ∷ uses) none zero given there = cc
has_none test (use_.Stray w ∷ uses) none (suc n) given there = has_none test uses none n given there
has_none test (use_.Given g ∷ uses) none n given there = has_step test g uses (test g.letter) refl none (has_none test uses) n given there

none_has : (test : Letter → Bool) (uses : List Use) (found : Option ℕ) → word_of test uses ≡ found → HasNone test uses → found ≡ None
none_has test uses None is none = refl
none_has test uses (Some word) is none =
    let first = word_first test uses word is in
    absurd (both_ways (test first.1.letter) (none first.0 first.1 first.2) first.3)

-- what is wrong together
map_some : (reason : ℕ → WordFault) (found : Option ℕ) (f : WordFault) → option_map reason found ≡ Some f → (word : ℕ) × (found ≡ Some word) × (f ≡ reason word)
map_some reason None f is = cc
map_some reason (Some word) f is = let same : reason word ≡ f = cc in (word, refl, sym same)

map_none : (reason : ℕ → WordFault) (found : Option ℕ) → option_map reason found ≡ None → found ≡ None
map_none reason None is = refl
map_none reason (Some word) is = cc

later_some : (one other : Option ℕ) (word : ℕ) → later one other ≡ Some word → (a : ℕ) × (b : ℕ) × (one ≡ Some a) × (other ≡ Some b) × (word ≡ max a b)
later_some None other word is = cc
later_some (Some a) None word is = cc
later_some (Some a) (Some b) word is = let same : max a b ≡ word = cc in (a, b, refl, refl, sym same)

clash_first : (uses : List Use) (f : WordFault) → clash_fault uses ≡ Some f → (one : ℕ) × (other : ℕ) × IsFirstOf (is_same Output) uses one × IsFirstOf is_clashing uses other × (f ≡ fault (max one other) Clash)
clash_first uses f is =
    let found = map_some (λ word. fault word Clash) (clash_word uses) f is in
    let both = later_some (word_of (is_same Output) uses) (word_of is_clashing uses) found.0 found.1 in
    (both.0, both.1, word_first (is_same Output) uses both.0 both.2, word_first is_clashing uses both.1 both.3, found.2 ∙ ap (λ word. fault word Clash) both.4)

word_by : (test : Letter → Bool) (uses : List Use) (word : ℕ) → IsFirstOf test uses word → word_of test uses ≡ Some word
word_by test uses word is = first_word test uses word is.0 is.1 is.2 is.3 is.4 is.5

first_clash : (uses : List Use) (f : WordFault) (one other : ℕ) → IsFirstOf (is_same Output) uses one → IsFirstOf is_clashing uses other → f ≡ fault (max one other) Clash → clash_fault uses ≡ Some f
first_clash uses f one other a b is =
    ap (λ x. option_map (λ word. fault word Clash) (later x (word_of is_clashing uses))) (word_by (is_same Output) uses one a)
    ∙ ap (λ x. option_map (λ word. fault word Clash) (later (Some one) x)) (word_by is_clashing uses other b) ∙ ap Some (sym is)

fields_some : (behind : ℕ) (uses : List Use) (kind : LineKind) (f : WordFault) → fields_fault behind uses kind ≡ Some f → (kind ≡ Fields) × (is_given Name uses ≡ false) × (f ≡ fault behind NoFields)
fields_some behind uses Fields f is = let p = if_none (is_given Name uses) (fault behind NoFields) f is in (refl, p.0, p.1)
fields_some behind uses Text f is = cc
fields_some behind uses Json f is = cc

fields_by : (behind : ℕ) (uses : List Use) (kind : LineKind) → kind ≡ Fields → is_given Name uses ≡ false → fields_fault behind uses kind ≡ Some (fault behind NoFields)
fields_by behind uses kind is none = ap (fields_fault behind uses) is ∙ ap (λ given. if given then None else Some (fault behind NoFields)) none

fields_none : (behind : ℕ) (uses : List Use) (found : Option WordFault) → fields_fault behind uses (kind_asked (value_of Kind uses)) ≡ found → (IsWithoutFields uses → ⊥) → found ≡ None
fields_none behind uses None is fine = refl
fields_none behind uses (Some f) is fine = let some = fields_some behind uses (kind_asked (value_of Kind uses)) f is in absurd (fine (some.0, some.1))

no_fields : (behind : ℕ) (uses : List Use) → fields_fault behind uses (kind_asked (value_of Kind uses)) ≡ None → IsWithoutFields uses → ⊥
no_fields behind uses none is = let some = fields_by behind uses (kind_asked (value_of Kind uses)) is.0 is.1 in let no : None ≡ Some (fault behind NoFields) = sym none ∙ some in cc

abbrev unused_of : List Use → Option WordFault
unused_of uses = unused_fault uses (kind_asked (value_of Kind uses))

together_some : (behind : ℕ) (uses : List Use) (f : WordFault) (fields unused : Option WordFault) → fields_fault behind uses (kind_asked (value_of Kind uses)) ≡ fields → unused_of uses ≡ unused →
    option_or fields (option_or unused (clash_fault uses)) ≡ Some f → IsWrongTogether behind uses f
together_some behind uses f (Some g) unused fields_is unused_is is =
    let same : g ≡ f = cc in
    let some = fields_some behind uses (kind_asked (value_of Kind uses)) g fields_is in
    inl ((some.0, some.1), sym same ∙ some.2)
together_some behind uses f None (Some g) fields_is unused_is is =
    let same : g ≡ f = cc in
    let some = map_some (λ word. fault word Unused) (word_of (is_idle uses) uses) g unused_is in
    inr (no_fields behind uses fields_is, inl (some.0, word_first (is_idle uses) uses some.0 some.1, sym same ∙ some.2))
together_some behind uses f None None fields_is unused_is is =
    let clash = clash_first uses f is in
    inr (no_fields behind uses fields_is, inr (has_none (is_idle uses) uses (map_none (λ word. fault word Unused) (word_of (is_idle uses) uses) unused_is), clash))

by_parts : (fields unused clash : Option WordFault) (a b : Option WordFault) → fields ≡ a → unused ≡ b → option_or fields (option_or unused clash) ≡ option_or a (option_or b clash)
by_parts fields unused clash a b one two = ap (λ x. option_or x (option_or unused clash)) one ∙ ap (λ x. option_or a (option_or x clash)) two

some_together : (behind : ℕ) (uses : List Use) (f : WordFault) → IsWrongTogether behind uses f → option_or (fields_fault behind uses (kind_asked (value_of Kind uses))) (option_or (unused_of uses) (clash_fault uses)) ≡ Some f
some_together behind uses f (inl is) =
    ap (λ x. option_or x (option_or (unused_of uses) (clash_fault uses))) (fields_by behind uses (kind_asked (value_of Kind uses)) is.0.0 is.0.1) ∙ ap Some (sym is.1)
some_together behind uses f (inr (fine, inl is)) =
    by_parts (fields_fault behind uses (kind_asked (value_of Kind uses))) (unused_of uses) (clash_fault uses) None (Some (fault is.0 Unused))
    (fields_none behind uses (fields_fault behind uses (kind_asked (value_of Kind uses))) refl fine) (ap (option_map (λ word. fault word Unused)) (word_by (is_idle uses) uses is.0 is.1)) ∙ ap Some (sym is.2)
some_together behind uses f (inr (fine, inr is)) =
    by_parts (fields_fault behind uses (kind_asked (value_of Kind uses))) (unused_of uses) (clash_fault uses) None None
    (fields_none behind uses (fields_fault behind uses (kind_asked (value_of Kind uses))) refl fine) (ap (option_map (λ word. fault word Unused)) (none_has (is_idle uses) uses (word_of (is_idle uses) uses) refl is.0))
    ∙ first_clash uses f is.1.0 is.1.1 is.1.2 is.1.3 is.1.4

-- what is wrong in all
unless_err : (found : Option WordFault) (options : Options) (f : WordFault) → unless found options ≡ Err f → found ≡ Some f
unless_err None options f is = cc
unless_err (Some g) options f is = let same : g ≡ f = cc in ap Some same

asked_wrong : (behind : ℕ) (uses : List Use) (f : WordFault) (source : Option Source) → source_of uses ≡ source → asked behind uses source ≡ Err f → IsWrongInAll behind uses f
unfolding together_fault
asked_wrong behind uses f None is wrong = let same : fault behind NoFile ≡ f = cc in inl (is, sym same)
asked_wrong behind uses f (Some source) is wrong =
    let some = unless_err (together_fault behind uses (kind_asked (value_of Kind uses))) (options_by source uses) f wrong in
    inr (source, is, together_some behind uses f (fields_fault behind uses (kind_asked (value_of Kind uses))) (unused_of uses) refl refl some)

wrong_asked : (behind : ℕ) (uses : List Use) (f : WordFault) → IsWrongInAll behind uses f → asked behind uses (source_of uses) ≡ Err f
unfolding together_fault
wrong_asked behind uses f (inl is) = ap (asked behind uses) is.0 ∙ ap Err (sym is.1)
wrong_asked behind uses f (inr is) = ap (asked behind uses) is.1 ∙ ap (λ found. unless found (options_by is.0 uses)) (some_together behind uses f is.2)

judged_wrong : (behind : ℕ) (uses : List Use) (f : WordFault) (first : Option WordFault) → first_fault [] uses ≡ first → judged behind uses first ≡ Err f →
    IsFirstWrong uses f ⊎ (AreRight uses × IsWrongInAll behind uses f)
judged_wrong behind uses f (Some g) is wrong = let same : g ≡ f = cc in inl (first_wrong [] uses f (is ∙ ap Some same))
judged_wrong behind uses f None is wrong = inr (none_right [] uses is, asked_wrong behind uses f (source_of uses) refl wrong)

fault_told : (words : List (List ℕ)) (f : WordFault) → options_of words ≡ Err f → IsFaultOf words f
unfolding options_of
fault_told words f is = judged_wrong (suc (length words)) (uses_of words) f (first_fault [] (uses_of words)) refl is

told_fault : (words : List (List ℕ)) (f : WordFault) → IsFaultOf words f → options_of words ≡ Err f
unfolding options_of
told_fault words f (inl is) = ap (judged (suc (length words)) (uses_of words)) (wrong_first [] (uses_of words) f is.0 is.1 is.2 is.3 is.4)
told_fault words f (inr is) =
    ap (judged (suc (length words)) (uses_of words)) (right_none (uses_of words) (first_fault [] (uses_of words)) refl is.0) ∙ wrong_asked (suc (length words)) (uses_of words) f is.1

pub faults_first : FaultsAreFirst
faults_first words f = (fault_told words f, told_fault words f)
