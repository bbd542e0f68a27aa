-- What follows an option's letter in a word is a text.
use Rattle.std.proofs.Common.{◌≡◌, ◌<◌, ◌≤◌, ◌==◌, ◌++◌, ℕ, suc, Bool, true, false, List, [], ◌∷◌, length, Option, None, Some, Result, Ok, Err, String, refl, arith, eqb-true, subst, sym, ◌∙◌, ⊎_elim, if◌then◌else◌}
use Rattle.std.specs.Prelude.{◌||◌, IfSome, IfOk, All, option_and_then, take, drop}
use Rattle.std.specs.List.{AllByRecursion as Each}
use Rattle.std.specs.Str.{IsUtf8, bytes_eq}
use Rattle.std.proofs.lemmas.Bool.{both_ways, cases_lt}
use Rattle.std.proofs.lemmas.Bool.Decides.{nat_tests}
use Rattle.std.proofs.lemmas.List.Elements.{All-nil, All-cons}
use Rattle.std.proofs.lemmas.Str.{IsUtf8-nil, IsUtf8-string_bytes, IsUtf8-drop, IsCharBoundary-after_ascii}
use Rattle.shark_words.specs.declared.fault.WordFault.{WordFault}
use Rattle.shark_words.specs.declared.letter.Letter.{Letter}
use Rattle.shark_words.specs.declared.letter.Letter.TheVariants.{Capture, Filter, Kind, Name, SelfRun, FilterStats}
use Rattle.shark_words.specs.declared.options.Options.{Options}
use Rattle.shark_words.specs.declared.uses.Value.{Value}
use Rattle.shark_words.specs.declared.uses.Use.{Use}
use Rattle.shark_words.specs.declared.uses.Use.TheVariants as use_
use Rattle.shark_words.specs.declared.fault.WordsError.{WordsError}
use Rattle.shark_words.specs.declared.options.Source.{Source}
use Rattle.shark_words.specs.Faults.{first_fault}
use Rattle.shark_words.specs.Numbers.{comma_in, decimal_of, up_to}
use Rattle.shark_words.specs.Values.{generated, generated_at, generated_by, is_blank, kind_asked, most_generated, shown_filter}
use Rattle.shark_words.specs.Letters.{has_value, is_same, letter_of}
use Rattle.shark_words.specs.Asked.{head_of, value_in, value_of, value_text, values_of}
use Rattle.shark_words.specs.Options.{asked, judged, options_by, options_of, source_by, source_of, together_fault, unless, Gives}
use Rattle.shark_words.specs.Uses.{cluster_uses, is_cluster, is_known_before, letter_uses, letters_at, option_at, self_run_name, filter_stats_name, uses_at, uses_from, uses_of, value_uses, without_value}
use Rattle.shark_words.specs.Utf8.{AreUtf8, name_in}
use Rattle.shark_words.specs.Words.{texts}

-- the value of a use is a text
abbrev pub HasText : Use → Type 0
HasText (use_.Given given) = IfSome given.value (λ value. IsUtf8 value.text)
HasText (use_.Unknown word) = Unit {0}
HasText (use_.Stray word) = Unit {0}

letter_is_ascii : (b : ℕ) → 128 ≤ b → letter_of b ≡ None
letter_is_ascii b large = grind (arith, nat_tests)

abbrev IsNothing : Option Letter → Type 0
IsNothing None = Unit {0}
IsNothing (Some letter) = ⊥

ascii_of_letter : (b : ℕ) (letter : Letter) → letter_of b ≡ Some letter → b < 128
ascii_of_letter b letter is = ⊎_elim (λ less. less) (λ large. absurd (subst IsNothing (sym (letter_is_ascii b large) ∙ is) tt)) (cases_lt b 128)

behind_letter : (first : ℕ) (rest : List ℕ) → first < 128 → IsUtf8 (first ∷ rest) → IsUtf8 rest
behind_letter first rest small utf8 = IsUtf8-drop (first ∷ rest) 1 utf8 (IsCharBoundary-after_ascii (first ∷ rest) 0 utf8 (omega arith) small)

value_has_uses : (number : ℕ) (letter : Letter) (rest : List ℕ) (behind : Option Letter → List Use) → IsUtf8 rest
    → ((waiting : Option Letter) → Each HasText (behind waiting)) → Each HasText (value_uses number letter rest behind)
value_has_uses number letter [] behind utf8 others = others (Some letter)
value_has_uses number letter (b ∷ rest) behind utf8 others = (utf8, others None)

by_value : (some known : Bool) (number : ℕ) (letter : Letter) (rest : List ℕ) (behind : Option Letter → List Use) (more : List Use) → (some || known) ≡ true → IsUtf8 rest
    → ((waiting : Option Letter) → Each HasText (behind waiting)) → (known ≡ true → Each HasText more)
    → Each HasText (if some then value_uses number letter rest behind else without_value number letter ∷ more)
by_value true known number letter rest behind more is utf8 others further = value_has_uses number letter rest behind utf8 others
by_value false known number letter rest behind more is utf8 others further = (tt, further is)

letter_has_text : (number first : ℕ) (rest : List ℕ) (behind : Option Letter → List Use) (more : List Use) (letter : Option Letter) → letter_of first ≡ letter
    → is_known_before letter (is_cluster rest) ≡ true → IsUtf8 (first ∷ rest) → ((waiting : Option Letter) → Each HasText (behind waiting))
    → (IsUtf8 rest → is_cluster rest ≡ true → Each HasText more) → Each HasText (letter_uses number letter rest behind more)
letter_has_text number first rest behind more None is known utf8 others further = absurd (both_ways false refl known)
letter_has_text number first rest behind more (Some letter) is known utf8 others further =
    let behind_it = behind_letter first rest (ascii_of_letter first letter is) utf8 in
    by_value (has_value letter) (is_cluster rest) number letter rest behind more known behind_it others (λ known. further behind_it known)

cluster_has_text : (number : ℕ) (letters : List ℕ) (behind : Option Letter → List Use) → is_cluster letters ≡ true → IsUtf8 letters
    → ((waiting : Option Letter) → Each HasText (behind waiting)) → Each HasText (cluster_uses number letters behind)
cluster_has_text number [] behind known utf8 others = others None
cluster_has_text number (b ∷ rest) behind known utf8 others =
    letter_has_text number b rest behind (cluster_uses number rest behind) (letter_of b) refl known utf8 others
    (λ utf8 known. cluster_has_text number rest behind known utf8 others)

option_has_text : (self stats known : Bool) (number : ℕ) (letters : List ℕ) (behind : Option Letter → List Use) → is_cluster letters ≡ known → IsUtf8 letters
    → ((waiting : Option Letter) → Each HasText (behind waiting))
    → Each HasText (if self then behind (Some SelfRun) else if stats then without_value number FilterStats ∷ behind None else if known then cluster_uses number letters behind else use_.Unknown number ∷ behind None)
option_has_text true stats known number letters behind is utf8 others = others (Some SelfRun)
option_has_text false true known number letters behind is utf8 others = (tt, others None)
option_has_text false false true number letters behind is utf8 others = cluster_has_text number letters behind is utf8 others
option_has_text false false false number letters behind is utf8 others = (tt, others None)

dashed_has_text : (dash : Bool) (number first : ℕ) (letters : List ℕ) (behind : Option Letter → List Use) → (first == 45) ≡ dash
    → IsUtf8 (first ∷ letters) → ((waiting : Option Letter) → Each HasText (behind waiting))
    → Each HasText (if dash then option_at number letters behind else use_.Stray number ∷ behind None)
unfolding letters_at
dashed_has_text true number first letters behind is utf8 others =
    let small : first < 128 = omega (arith, eqb-true first 45 is) in
    option_has_text (bytes_eq letters self_run_name) (bytes_eq letters filter_stats_name) (is_cluster letters) number letters behind refl (behind_letter first letters small utf8) others
dashed_has_text false number first letters behind is utf8 others = (tt, others None)

word_has_text : (number : ℕ) (word : List ℕ) (behind : Option Letter → List Use) → IsUtf8 word → ((waiting : Option Letter) → Each HasText (behind waiting))
    → Each HasText (uses_at number word behind)
word_has_text number [] behind utf8 others = (tt, others None)
word_has_text number (first ∷ []) behind utf8 others = (tt, others None)
word_has_text number (first ∷ second ∷ rest) behind utf8 others = dashed_has_text (first == 45) number first (second ∷ rest) behind refl utf8 others

uses_have_texts : (before : ℕ) (waiting : Option Letter) (words : List (List ℕ)) → Each IsUtf8 words → Each HasText (uses_from before waiting words)
unfolding uses_from
uses_have_texts before None [] utf8 = tt
uses_have_texts before (Some letter) [] utf8 = (tt, tt)
uses_have_texts before (Some letter) (word ∷ words) utf8 = (utf8.0, uses_have_texts (suc before) None words utf8.1)
uses_have_texts before None (word ∷ words) utf8 =
    word_has_text (suc before) word (λ waiting. uses_from (suc before) waiting words) utf8.0 (λ waiting. uses_have_texts (suc before) waiting words utf8.1)

each_append : (xs ys : List (List ℕ)) → Each IsUtf8 xs → Each IsUtf8 ys → Each IsUtf8 (xs ++ ys)
each_append [] ys left right = right
each_append (x ∷ xs) ys left right = (left.0, each_append xs ys left.1 right)

value_has_text : (value : Option Value) → IfSome value (λ v. IsUtf8 v.text) → Each IsUtf8 (value_text value)
value_has_text None has = tt
value_has_text (Some value) has = (has, tt)

chosen_has_text : (same : Bool) (value : Option Value) → IfSome value (λ v. IsUtf8 v.text) → Each IsUtf8 (if same then value_text value else [])
chosen_has_text true value has = value_has_text value has
chosen_has_text false value has = tt

use_has_text : (letter : Letter) (used : Use) → HasText used → Each IsUtf8 (value_in letter used)
use_has_text letter (use_.Given given) has = chosen_has_text (is_same letter given.letter) given.value has
use_has_text letter (use_.Unknown word) has = tt
use_has_text letter (use_.Stray word) has = tt

values_are_texts : (letter : Letter) (uses : List Use) → Each HasText uses → Each IsUtf8 (values_of letter uses)
values_are_texts letter [] have = tt
values_are_texts letter (used ∷ uses) have =
    each_append (value_in letter used) (values_of letter uses) (use_has_text letter used have.0) (values_are_texts letter uses have.1)

head_is_text : (values : List (List ℕ)) → Each IsUtf8 values → IfSome (head_of values) IsUtf8
head_is_text [] are = tt
head_is_text (value ∷ values) are = are.0

shown_if : (blank : Bool) (text : List ℕ) → IsUtf8 text → IfSome (if blank then None else Some text) IsUtf8
shown_if true text is = tt
shown_if false text is = is

shown_is_text : (filter : Option (List ℕ)) → IfSome filter IsUtf8 → IfSome (shown_filter filter) IsUtf8
shown_is_text None is = tt
shown_is_text (Some text) is = shown_if (is_blank text) text is

all_from_each : (xs : List (List ℕ)) → Each IsUtf8 xs → All IsUtf8 xs
all_from_each [] each = All-nil IsUtf8
all_from_each (x ∷ xs) each = All-cons IsUtf8 x xs each.0 (all_from_each xs each.1)

unless_is_utf8 : (first : Option WordFault) (options : Options) → AreUtf8 options → IfOk (unless first options) AreUtf8
unless_is_utf8 None options are = are
unless_is_utf8 (Some first) options are = tt

-- a generated capture has no name
abbrev HasNameText : Source → Type 0
HasNameText source = IsUtf8 (name_in source)

made_is_text : (number frames : Option ℕ) → IfSome (generated number frames) HasNameText
made_is_text None frames = tt
made_is_text (Some number) None = tt
made_is_text (Some number) (Some frames) = IsUtf8-nil

made_at_is_text : (text : List ℕ) (comma : Option ℕ) → IfSome (generated_at text comma) HasNameText
made_at_is_text text None = tt
made_at_is_text text (Some comma) =
    made_is_text (decimal_of (take comma text)) (option_and_then (up_to most_generated) (decimal_of (drop (suc comma) text)))

generated_is_text : (numbers : Option (List ℕ)) → IfSome (option_and_then generated_by numbers) HasNameText
unfolding generated_by
generated_is_text None = tt
generated_is_text (Some text) = made_at_is_text text (comma_in text)

source_is_text : (name numbers : Option (List ℕ)) → IfSome name IsUtf8 → IfSome (source_by name numbers) HasNameText
source_is_text None numbers named = generated_is_text numbers
source_is_text (Some name) numbers named = named

asked_is_utf8 : (behind : ℕ) (uses : List Use) (source : Option Source) → Each HasText uses → IfSome source HasNameText → IfOk (asked behind uses source) AreUtf8
asked_is_utf8 behind uses None have named = tt
asked_is_utf8 behind uses (Some source) have named =
    unless_is_utf8 (together_fault behind uses (kind_asked (value_of Kind uses))) (options_by source uses) (record {
      source = named;
      filter = shown_is_text (value_of Filter uses) (head_is_text (values_of Filter uses) (values_are_texts Filter uses have));
      names = all_from_each (values_of Name uses) (values_are_texts Name uses have);
    })

judged_is_utf8 : (behind : ℕ) (uses : List Use) (first : Option WordFault) → Each HasText uses → IfOk (judged behind uses first) AreUtf8
unfolding source_of
judged_is_utf8 behind uses None have =
    asked_is_utf8 behind uses (source_of uses) have
    (source_is_text (value_of Capture uses) (value_of SelfRun uses) (head_is_text (values_of Capture uses) (values_are_texts Capture uses have)))
judged_is_utf8 behind uses (Some first) have = tt

words_are_utf8 : {A : Type 0} (words : List (String A)) → Each IsUtf8 (texts words)
words_are_utf8 [] = tt
words_are_utf8 (word ∷ words) = (IsUtf8-string_bytes word, words_are_utf8 words)

pub options_are_utf8 : {A : Type 0} (words : List (String A)) → IfOk (options_of (texts words)) AreUtf8
unfolding options_of
options_are_utf8 words =
    judged_is_utf8 (suc (length (texts words))) (uses_of (texts words)) (first_fault [] (uses_of (texts words)))
    (uses_have_texts 0 None (texts words) (words_are_utf8 words))

-- the options that are answered
pub answered_are_utf8 : {A : Type 0} (words : List (String A)) (answer : Result Options WordsError) → Gives answer (options_of (texts words)) → IfOk answer AreUtf8
answered_are_utf8 words (Ok options) gives = subst (λ (r : Result Options WordFault). IfOk r AreUtf8) gives (options_are_utf8 words)
answered_are_utf8 words (Err e) gives = tt
