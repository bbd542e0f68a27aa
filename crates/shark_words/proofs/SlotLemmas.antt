-- Letters, keys, ports and what may come once: tests of sameness tell them apart, and are those that a set goes by.
use Rattle.std.proofs.Common.{◌≡◌, ℕ, Bool, true, false, ◌||◌, ◌&&◌, ◌==◌, if◌then◌else◌, List, [], ◌∷◌, refl, ap, sym, subst, ◌∙◌, eq-eqb, eqb-true}
use Rattle.std.specs.List.{list_any}
use Rattle.std.proofs.lemmas.Bool.{both_ways, and_parts}
use Rattle.std.specs.Cmp.Derive.{both_true}
use mathlib.Core.Bool.{beq}
use Rattle.pk_fields.specs.Rules.{same_transport}
use denote.Enum.Bare.{same_true}
use Rattle.shark_words.specs.declared.letter.Letter.{Letter}
use Rattle.shark_words.specs.declared.letter.Letter.TheVariants.{Capture, Filter, Two, Kind, Name, Style, Most, Quiet, Decode, Report, Output, Format, SelfRun, FilterStats}
use Rattle.shark_words.specs.declared.slot.Slot.{Slot}
use Rattle.shark_words.specs.declared.slot.Slot.TheVariants as slots
use Rattle.shark_words.specs.declared.port.Port.{Port}
use Rattle.shark_words.specs.declared.key.Key.{Key}
use Rattle.shark_words.specs.declared.key.Key.TheVariants as keys
use Rattle.shark_words.specs.Keys.{is_same_key, key_number}
use Rattle.shark_words.specs.contracts.key.Key.{the_type as key_type}
use Rattle.shark_words.specs.contracts.key.KeyPartialEq.TheImpl.{eq-value as key_eq}
use Rattle.shark_words.specs.Letters.{is_same, letter_byte}
use Rattle.shark_words.specs.Ports.{is_same_port, port}
use Rattle.shark_words.specs.Slots.{is_held, is_same_slot}
use Rattle.shark_words.specs.contracts.letter.Letter.{the_type}
use Rattle.shark_words.specs.contracts.slot.SlotPartialEq.TheImpl.{eq-value}
use Rattle.shark_words.specs.contracts.letter.LetterPartialEq.TheImpl.{eq-value as letter_eq}

-- two tests that hold together
together : (one other : Bool) → (one ≡ true → other ≡ true) → (other ≡ true → one ≡ true) → one ≡ other
together true other there back = sym (there refl)
together false true there back = back refl
together false false there back = refl

letter_itself : (letter : Letter) → letter_eq.it letter letter ≡ true
letter_itself Capture = refl
letter_itself Filter = refl
letter_itself Two = refl
letter_itself Kind = refl
letter_itself Name = refl
letter_itself Style = refl
letter_itself Most = refl
letter_itself Quiet = refl
letter_itself Decode = refl
letter_itself Report = refl
letter_itself Output = refl
letter_itself Format = refl
letter_itself SelfRun = refl
letter_itself FilterStats = refl

pub is_same_itself : (letter : Letter) → is_same letter letter ≡ true
is_same_itself letter = eq-eqb (letter_byte letter) (letter_byte letter) refl

letter_at : ℕ → Letter
letter_at n =
    if n == 114 then Capture
    else if n == 89 then Filter
    else if n == 50 then Two
    else if n == 84 then Kind
    else if n == 101 then Name
    else if n == 69 then Style
    else if n == 99 then Most
    else if n == 113 then Quiet
    else if n == 100 then Decode
    else if n == 122 then Report
    else if n == 119 then Output
    else if n == 70 then Format
    else if n == 256 then SelfRun
    else FilterStats

letter_of_number : (letter : Letter) → letter_at (letter_byte letter) ≡ letter
unfolding letter_at
letter_of_number Capture = refl
letter_of_number Filter = refl
letter_of_number Two = refl
letter_of_number Kind = refl
letter_of_number Name = refl
letter_of_number Style = refl
letter_of_number Most = refl
letter_of_number Quiet = refl
letter_of_number Decode = refl
letter_of_number Report = refl
letter_of_number Output = refl
letter_of_number Format = refl
letter_of_number SelfRun = refl
letter_of_number FilterStats = refl

pub same_letter : (one other : Letter) → is_same one other ≡ true → one ≡ other
same_letter one other h =
    sym (letter_of_number one) ∙ ap letter_at (eqb-true (letter_byte one) (letter_byte other) h) ∙ letter_of_number other

same_letters : (one other : Letter) → letter_eq.it one other ≡ is_same one other
same_letters one other =
    together (letter_eq.it one other) (is_same one other)
    (λ h. subst (λ (letter : Letter). is_same one letter ≡ true) (same_true the_type tt one other h) (is_same_itself one))
    (λ h. subst (λ (letter : Letter). letter_eq.it one letter ≡ true) (same_letter one other h) (letter_itself one))

key_itself : (key : Key) → key_eq.it key key ≡ true
key_itself keys.Header = refl
key_itself keys.Separator = refl
key_itself keys.Aggregator = refl
key_itself keys.Occurrence = refl
key_itself keys.Quote = refl

key_at : ℕ → Key
key_at n =
    if n == 0 then keys.Header
    else if n == 1 then keys.Separator
    else if n == 2 then keys.Aggregator
    else if n == 3 then keys.Occurrence
    else keys.Quote

key_of_number : (key : Key) → key_at (key_number key) ≡ key
unfolding key_at
key_of_number keys.Header = refl
key_of_number keys.Separator = refl
key_of_number keys.Aggregator = refl
key_of_number keys.Occurrence = refl
key_of_number keys.Quote = refl

same_key : (one other : Key) → is_same_key one other ≡ true → one ≡ other
same_key one other h = sym (key_of_number one) ∙ ap key_at (eqb-true (key_number one) (key_number other) h) ∙ key_of_number other

same_keys : (one other : Key) → key_eq.it one other ≡ is_same_key one other
same_keys one other =
    together (key_eq.it one other) (is_same_key one other)
    (λ h. subst (λ (key : Key). is_same_key one key ≡ true) (same_true key_type tt one other h) (eq-eqb (key_number one) (key_number one) refl))
    (λ h. subst (λ (key : Key). key_eq.it one key ≡ true) (same_key one other h) (key_itself one))

same_bool : (one other : Bool) → beq one other ≡ same_transport one other
same_bool true true = refl
same_bool true false = refl
same_bool false true = refl
same_bool false false = refl

same_slots : (one other : Slot) → eq-value.it one other ≡ is_same_slot one other
same_slots (slots.Letter one) (slots.Letter other) = same_letters one other
same_slots (slots.Key one) (slots.Key other) = same_keys one other
same_slots (slots.Port one) (slots.Port other) = ap (λ (same : Bool). same && one.number == other.number) (same_bool one.tcp other.tcp)
same_slots (slots.Letter one) (slots.Key other) = refl
same_slots (slots.Letter one) (slots.Port other) = refl
same_slots (slots.Key one) (slots.Letter other) = refl
same_slots (slots.Key one) (slots.Port other) = refl
same_slots (slots.Port one) (slots.Letter other) = refl
same_slots (slots.Port one) (slots.Key other) = refl

pub held_by : (slot : Slot) (held : List Slot) → list_any (eq-value.it slot) held ≡ is_held slot held
held_by slot [] = refl
held_by slot (one ∷ held) =
    ap (λ (same : Bool). same || list_any (eq-value.it slot) held) (same_slots slot one)
    ∙ ap (λ (more : Bool). is_same_slot slot one || more) (held_by slot held)

-- what is the same is equal
same_port : (one other : Port) → is_same_port one other ≡ true → one ≡ other
same_port one other h =
    let both = and_parts (same_transport one.tcp other.tcp) (one.number == other.number) h in
    ap (λ (tcp : Bool). port tcp one.number) (equal_bool one.tcp other.tcp both.0) ∙ ap (port other.tcp) (eqb-true one.number other.number both.1)
  where
    equal_bool : (one other : Bool) → same_transport one other ≡ true → one ≡ other
    equal_bool true true h = refl
    equal_bool true false h = absurd (both_ways false refl h)
    equal_bool false true h = absurd (both_ways false refl h)
    equal_bool false false h = refl

port_itself : (one : Port) → is_same_port one one ≡ true
port_itself one = both_true (itself one.tcp) (eq-eqb one.number one.number refl)
  where
    itself : (tcp : Bool) → same_transport tcp tcp ≡ true
    itself true = refl
    itself false = refl

pub same_slot : (one other : Slot) → is_same_slot one other ≡ true → one ≡ other
same_slot (slots.Letter one) (slots.Letter other) h = ap slots.Letter (same_letter one other h)
same_slot (slots.Key one) (slots.Key other) h = ap slots.Key (same_key one other h)
same_slot (slots.Port one) (slots.Port other) h = ap slots.Port (same_port one other h)
same_slot (slots.Letter one) (slots.Key other) h = absurd (both_ways false refl h)
same_slot (slots.Letter one) (slots.Port other) h = absurd (both_ways false refl h)
same_slot (slots.Key one) (slots.Letter other) h = absurd (both_ways false refl h)
same_slot (slots.Key one) (slots.Port other) h = absurd (both_ways false refl h)
same_slot (slots.Port one) (slots.Letter other) h = absurd (both_ways false refl h)
same_slot (slots.Port one) (slots.Key other) h = absurd (both_ways false refl h)

pub slot_itself : (slot : Slot) → is_same_slot slot slot ≡ true
slot_itself (slots.Letter letter) = is_same_itself letter
slot_itself (slots.Key key) = eq-eqb (key_number key) (key_number key) refl
slot_itself (slots.Port one) = port_itself one
