-- What options ask for together is what was written.
use Rattle.std.proofs.Common.{◌≡◌, ℕ, length, suc, Bool, true, false, ◌||◌, List, [], ◌∷◌, ◌++◌, Option, Some, None, refl, sym, ap, subst, ◌∙◌, arith, if◌then◌else◌}
use Rattle.std.specs.Prelude.{is_some, option_and_then, option_map, option_to_list, Result, Ok, Err, IfOk}
use Rattle.std.specs.List.{list_all}
use Rattle.std.specs.Option.{option_or}
use Rattle.std.proofs.lemmas.Option.{none-some}
use Rattle.std.proofs.lemmas.Bool.{both_ways}
use Rattle.shark_words.specs.declared.letter.Letter.{Letter}
use Rattle.shark_words.specs.declared.letter.Letter.TheVariants.{Capture, Filter, Two, Kind, Name, Style, Most, Quiet, Decode, Report, Output, Format, SelfRun, FilterStats}
use Rattle.shark_words.specs.declared.uses.Value.{Value}
use Rattle.shark_words.specs.declared.uses.Use.{Use}
use Rattle.shark_words.specs.declared.uses.Use.TheVariants as use_
use Rattle.shark_words.specs.declared.fault.WordFault.{WordFault}
use Rattle.shark_words.specs.declared.fault.WordReason.TheVariants.{NoFields, Unused, Clash}
use Rattle.shark_words.specs.declared.fault.WordsError.{WordsError}
use Rattle.shark_words.specs.declared.options.LineKind.{LineKind}
use Rattle.shark_words.specs.declared.options.LineKind.TheVariants.{Text, Fields, Json}
use Rattle.shark_words.specs.declared.options.Options.{Options}
use Rattle.shark_words.specs.declared.options.Source.{Source}
use Rattle.shark_words.specs.Letters.{is_same}
use Rattle.shark_words.specs.Values.{count_of, kind_asked, shown_filter}
use Rattle.shark_words.specs.Ports.{rules_in}
use Rattle.shark_words.specs.Reports.{reports_in}
use Rattle.shark_words.specs.Uses.{uses_from}
use Rattle.shark_words.specs.Faults.{fault, first_fault, is_given}
use Rattle.shark_words.specs.Asked.{clash_word, head_of, is_clashing, is_unused, later, style_of, value_of, value_text, values_of, word_of}
use Rattle.shark_words.specs.Options.{asked, clash_fault, fields_fault, format_written, is_filtered, judged, options_by, options_of, source_by, source_of, together_fault, unless, unused_fault, Gives}
use Rattle.shark_words.specs.Spelled.{Spelled, spelled_words, is_spelled, Written, written_by, values_in, is_written, HasColumns, IsFiltered, HasOutput, IsCommand, asked_by, IsAsked}
use Rattle.shark_words.proofs.SlotLemmas.{is_same_itself, same_letter}
use Rattle.shark_words.proofs.Spelling.{all_written, faultless, sound, spelled_uses, words_spelled, IsSound}

-- the values looked up are those written
value_written : (value : Option Value) → value_text value ≡ option_to_list (option_map (λ (v : Value). v.text) value)
value_written None = refl
value_written (Some value) = refl

values_written : (letter : Letter) (uses : List Use) → values_of letter uses ≡ values_in letter (all_written uses)
values_written letter [] = refl
values_written letter (use_.Stray word ∷ uses) = values_written letter uses
values_written letter (use_.Unknown word ∷ uses) = values_written letter uses
values_written letter (use_.Given given ∷ uses) =
    ap (λ (ts : List (List ℕ)). (if is_same letter given.letter then ts else []) ++ values_of letter uses) (value_written given.value)
    ∙ ap (λ (ts : List (List ℕ)). (if is_same letter given.letter then option_to_list (option_map (λ (v : Value). v.text) given.value) else []) ++ ts) (values_written letter uses)

given_written : (letter : Letter) (uses : List Use) → is_given letter uses ≡ is_written letter (all_written uses)
given_written letter [] = refl
given_written letter (use_.Stray word ∷ uses) = given_written letter uses
given_written letter (use_.Unknown word ∷ uses) = given_written letter uses
given_written letter (use_.Given given ∷ uses) = ap (λ (b : Bool). is_same letter given.letter || b) (given_written letter uses)

-- no option passes a test
abbrev pub NoneOf : (Letter → Bool) → List Written → Type 0
NoneOf test all = (letter : Letter) → test letter ≡ true → is_written letter all ≡ false

either_false : (one other : Bool) → (one || other) ≡ false → (one ≡ false) × (other ≡ false)
either_false true other h = absurd (both_ways true h refl)
either_false false other h = (refl, h)

neither_true : (one other : Bool) → one ≡ false → other ≡ false → (one || other) ≡ false
neither_true one other e h = rw e h

by_same : (test : Letter → Bool) (same : Bool) (letter one : Letter) → is_same letter one ≡ same → test one ≡ false → test letter ≡ true → same ≡ false
by_same test true letter one is fails h = absurd (both_ways (test letter) (ap test (same_letter letter one is) ∙ fails) h)
by_same test false letter one is fails h = refl

-- an option that passes no test is none of those that pass
not_this : (test : Letter → Bool) (passes : Bool) (letter one : Letter) → test one ≡ passes → passes ≡ false → test letter ≡ true → is_same letter one ≡ false
not_this test passes letter one is fails h = by_same test (is_same letter one) letter one refl (is ∙ fails) h

none_passes : (test : Letter → Bool) (passes : Bool) (word : ℕ) (next : Option ℕ) → option_or (if passes then Some word else None) next ≡ None
    → (passes ≡ false) × (next ≡ None)
none_passes test true word next h = absurd (none-some word (sym h))
none_passes test false word next h = (refl, h)

where_none : (test : Letter → Bool) (uses : List Use) → word_of test uses ≡ None → NoneOf test (all_written uses)
where_none test [] h = λ letter is. refl
where_none test (use_.Stray word ∷ uses) h = where_none test uses h
where_none test (use_.Unknown word ∷ uses) h = where_none test uses h
where_none test (use_.Given given ∷ uses) h =
    let parts = none_passes test (test given.letter) given.word (word_of test uses) h in
    λ letter is.
    neither_true (is_same letter given.letter) (is_written letter (all_written uses))
    (not_this test (test given.letter) letter given.letter refl parts.0 is) (where_none test uses parts.1 letter is)

pass_none : (passes : Bool) (word : ℕ) (next : Option ℕ) → passes ≡ false → next ≡ None → option_or (if passes then Some word else None) next ≡ None
pass_none true word next fails h = absurd (both_ways true fails refl)
pass_none false word next fails h = h

fails_itself : (test : Letter → Bool) (passes : Bool) (one : Letter) (all : List Written) → test one ≡ passes
    → (test one ≡ true → (is_same one one || is_written one all) ≡ false) → passes ≡ false
fails_itself test true one all is none =
    absurd (both_ways true (ap (λ (same : Bool). same || is_written one all) (sym (is_same_itself one)) ∙ none is) refl)
fails_itself test false one all is none = refl

none_where : (test : Letter → Bool) (uses : List Use) → NoneOf test (all_written uses) → word_of test uses ≡ None
none_where test [] none = refl
none_where test (use_.Stray word ∷ uses) none = none_where test uses none
none_where test (use_.Unknown word ∷ uses) none = none_where test uses none
none_where test (use_.Given given ∷ uses) none =
    pass_none (test given.letter) given.word (word_of test uses)
    (fails_itself test (test given.letter) given.letter (all_written uses) refl (none given.letter))
    (none_where test uses (λ letter is. (either_false (is_same letter given.letter) (is_written letter (all_written uses)) (none letter is)).1))

-- options that have no effect
unused_none : (kind : LineKind) (written filtered : Bool) (all : List Written) → HasColumns kind all → HasOutput written all → IsFiltered filtered all
    → NoneOf (is_unused kind written filtered) all
unused_none Text written filtered all columns output filter Name h = columns.0
unused_none Json written filtered all columns output filter Name h = columns.0
unused_none Fields written filtered all columns output filter Name h = absurd (both_ways false refl h)
unused_none Text written filtered all columns output filter Style h = columns.1
unused_none Json written filtered all columns output filter Style h = columns.1
unused_none Fields written filtered all columns output filter Style h = absurd (both_ways false refl h)
unused_none kind false filtered all columns output filter Format h = output
unused_none kind true filtered all columns output filter Format h = absurd (both_ways false refl h)
unused_none kind written false all columns output filter FilterStats h = filter
unused_none kind written true all columns output filter FilterStats h = absurd (both_ways false refl h)
unused_none kind written filtered all columns output filter Capture h = absurd (both_ways false refl h)
unused_none kind written filtered all columns output filter Filter h = absurd (both_ways false refl h)
unused_none kind written filtered all columns output filter Two h = absurd (both_ways false refl h)
unused_none kind written filtered all columns output filter Kind h = absurd (both_ways false refl h)
unused_none kind written filtered all columns output filter Most h = absurd (both_ways false refl h)
unused_none kind written filtered all columns output filter Quiet h = absurd (both_ways false refl h)
unused_none kind written filtered all columns output filter Decode h = absurd (both_ways false refl h)
unused_none kind written filtered all columns output filter Report h = absurd (both_ways false refl h)
unused_none kind written filtered all columns output filter Output h = absurd (both_ways false refl h)
unused_none kind written filtered all columns output filter SelfRun h = absurd (both_ways false refl h)

columns_had : (kind : LineKind) (written filtered : Bool) (all : List Written) → (kind ≡ Fields → is_written Name all ≡ true)
    → NoneOf (is_unused kind written filtered) all → HasColumns kind all
columns_had Fields written filtered all named none = named refl
columns_had Text written filtered all named none = (none Name refl, none Style refl)
columns_had Json written filtered all named none = (none Name refl, none Style refl)

filter_had : (kind : LineKind) (written filtered : Bool) (all : List Written) → NoneOf (is_unused kind written filtered) all → IsFiltered filtered all
filter_had kind written true all none = tt
filter_had kind written false all none = none FilterStats refl

-- options that can't stand beside `-w`
clashing_none : (all : List Written) → HasOutput true all → NoneOf is_clashing all
clashing_none all output Kind h = output.0
clashing_none all output Quiet h = output.1
clashing_none all output Report h = output.2
clashing_none all output SelfRun h = output.3
clashing_none all output FilterStats h = output.4
clashing_none all output Capture h = absurd (both_ways false refl h)
clashing_none all output Filter h = absurd (both_ways false refl h)
clashing_none all output Two h = absurd (both_ways false refl h)
clashing_none all output Name h = absurd (both_ways false refl h)
clashing_none all output Style h = absurd (both_ways false refl h)
clashing_none all output Most h = absurd (both_ways false refl h)
clashing_none all output Decode h = absurd (both_ways false refl h)
clashing_none all output Output h = absurd (both_ways false refl h)
clashing_none all output Format h = absurd (both_ways false refl h)

output_had : (kind : LineKind) (written filtered : Bool) (all : List Written) → NoneOf (is_unused kind written filtered) all → (written ≡ true → NoneOf is_clashing all)
    → HasOutput written all
output_had kind false filtered all unused clashing = unused Format refl
output_had kind true filtered all unused clashing = let none = clashing refl in (none Kind refl, none Quiet refl, none Report refl, none SelfRun refl, none FilterStats refl)

-- the three faults of options together
no_fields : (given : Bool) (one : WordFault) → (if given then None else Some one) ≡ None → given ≡ true
no_fields true one h = refl
no_fields false one h = absurd (none-some one (sym h))

has_fields : (given : Bool) (one : WordFault) → given ≡ true → (if given then None else Some one) ≡ None
has_fields true one h = refl
has_fields false one h = absurd (both_ways false refl h)

fields_named : (behind : ℕ) (uses : List Use) (kind : LineKind) → fields_fault behind uses kind ≡ None → kind ≡ Fields → is_written Name (all_written uses) ≡ true
fields_named behind uses Fields h is = sym (given_written Name uses) ∙ no_fields (is_given Name uses) (fault behind NoFields) h
fields_named behind uses Text h is = absurd cc
fields_named behind uses Json h is = absurd cc

fields_fine : (behind : ℕ) (uses : List Use) (kind : LineKind) → HasColumns kind (all_written uses) → fields_fault behind uses kind ≡ None
fields_fine behind uses Fields columns = has_fields (is_given Name uses) (fault behind NoFields) (given_written Name uses ∙ columns)
fields_fine behind uses Text columns = refl
fields_fine behind uses Json columns = refl

no_word : (f : ℕ → WordFault) (word : Option ℕ) → option_map f word ≡ None → word ≡ None
no_word f None h = refl
no_word f (Some word) h = absurd (none-some (f word) (sym h))

not_later : (one other : Option ℕ) (word : ℕ) → later one other ≡ None → one ≡ Some word → other ≡ None
not_later None other word h is = absurd (none-some word is)
not_later (Some one) None word h is = refl
not_later (Some one) (Some other) word h is = absurd cc

none_later : (other : Option ℕ) → later None other ≡ None
none_later None = refl
none_later (Some other) = refl

later_none : (one : Option ℕ) → later one None ≡ None
later_none None = refl
later_none (Some one) = refl

-- the word of `-w`, where it is written
word_found : (found : Option ℕ) (uses : List Use) → word_of (is_same Output) uses ≡ found → is_written Output (all_written uses) ≡ true
    → (word : ℕ) × (found ≡ Some word)
word_found None uses is written =
    absurd (both_ways (is_written Output (all_written uses)) (where_none (is_same Output) uses is Output refl) written)
word_found (Some word) uses is written = (word, refl)

same_as_output : (all : List Written) → is_written Output all ≡ false → NoneOf (is_same Output) all
same_as_output all none letter is = subst (λ (one : Letter). is_written one all ≡ false) (same_letter Output letter is) none

clashes_none : (written : Bool) (uses : List Use) → is_written Output (all_written uses) ≡ written → HasOutput written (all_written uses) → clash_word uses ≡ None
clashes_none false uses is output =
    ap (λ (one : Option ℕ). later one (word_of is_clashing uses)) (none_where (is_same Output) uses (same_as_output (all_written uses) is))
    ∙ none_later (word_of is_clashing uses)
clashes_none true uses is output =
    ap (later (word_of (is_same Output) uses)) (none_where is_clashing uses (clashing_none (all_written uses) output))
    ∙ later_none (word_of (is_same Output) uses)

neither : (one other : Option WordFault) → option_or one other ≡ None → (one ≡ None) × (other ≡ None)
neither None other h = (refl, h)
neither (Some fault) other h = absurd (none-some fault (sym h))

both_none : (one other : Option WordFault) → one ≡ None → other ≡ None → option_or one other ≡ None
both_none one other e h = rw e h

-- columns, output and filter are as they may be exactly where options together have no fault
abbrev AreFine : LineKind → Bool → List Written → Type 0
AreFine kind filtered all = HasColumns kind all × HasOutput (is_written Output all) all × IsFiltered filtered all

together_had : (behind : ℕ) (uses : List Use) (kind : LineKind) → together_fault behind uses kind ≡ None → AreFine kind (is_filtered uses) (all_written uses)
unfolding together_fault
together_had behind uses kind h =
    let all = all_written uses in
    let filtered = is_filtered uses in
    let first = neither (fields_fault behind uses kind) _ h in
    let second = neither (unused_fault uses kind) (clash_fault uses) first.1 in
    let unused : NoneOf (is_unused kind (is_written Output all) filtered) all
    = subst (λ (written : Bool). NoneOf (is_unused kind written filtered) all) (given_written Output uses)
    (where_none (is_unused kind (is_given Output uses) filtered) uses (no_word (λ (word : ℕ). fault word Unused) _ second.0)) in
    let clash : clash_word uses ≡ None = no_word (λ (word : ℕ). fault word Clash) (clash_word uses) second.1 in (
      columns_had kind (is_written Output all) filtered all (fields_named behind uses kind first.0) unused,
      output_had kind (is_written Output all) filtered all unused (λ written.
          let found = word_found (word_of (is_same Output) uses) uses refl written in
          where_none is_clashing uses (not_later (word_of (is_same Output) uses) (word_of is_clashing uses) found.0 clash found.1)),
      filter_had kind (is_written Output all) filtered all unused,
    )

together_fine : (behind : ℕ) (uses : List Use) (kind : LineKind) → AreFine kind (is_filtered uses) (all_written uses) → together_fault behind uses kind ≡ None
unfolding together_fault
together_fine behind uses kind fine =
    let all = all_written uses in
    let filtered = is_filtered uses in
    let unused : word_of (is_unused kind (is_given Output uses) filtered) uses ≡ None
    = none_where (is_unused kind (is_given Output uses) filtered) uses
    (subst (λ (written : Bool). NoneOf (is_unused kind written filtered) all) (sym (given_written Output uses))
    (unused_none kind (is_written Output all) filtered all fine.0 fine.1 fine.2)) in
    both_none (fields_fault behind uses kind) _ (fields_fine behind uses kind fine.0)
    (both_none (unused_fault uses kind) (clash_fault uses) (ap (option_map (λ (word : ℕ). fault word Unused)) unused)
    (ap (option_map (λ (word : ℕ). fault word Clash)) (clashes_none (is_written Output all) uses refl fine.1)))

-- what written options ask for
abbrev asked_written : Source → List Written → Options
asked_written source all = record {
  source = source;
  filter = shown_filter (head_of (values_in Filter all));
  two = is_written Two all;
  kind = kind_asked (head_of (values_in Kind all));
  names = values_in Name all;
  style = style_of (values_in Style all);
  most = option_and_then count_of (head_of (values_in Most all));
  quiet = is_written Quiet all;
  decode = record { rules = rules_in (values_in Decode all) };
  reports = reports_in (values_in Report all);
  stats = is_written FilterStats all;
  written = format_written (is_written Output all) (head_of (values_in Format all));
}

options_written : (source : Source) (uses : List Use) → options_by source uses ≡ asked_written source (all_written uses)
options_written source uses =
    rw (values_written Filter uses) (rw (given_written Two uses) (rw (values_written Kind uses) (rw (values_written Name uses) (rw (values_written Style uses)
    (rw (values_written Most uses) (rw (given_written Quiet uses) (rw (values_written Decode uses) (rw (values_written Report uses) (rw (given_written FilterStats uses)
    (rw (given_written Output uses) (rw (values_written Format uses) refl)))))))))))

kind_written : (uses : List Use) → kind_asked (value_of Kind uses) ≡ kind_asked (head_of (values_in Kind (all_written uses)))
kind_written uses = ap (λ (texts : List (List ℕ)). kind_asked (head_of texts)) (values_written Kind uses)

abbrev source_written : List Written → Option Source
source_written all = source_by (head_of (values_in Capture all)) (head_of (values_in SelfRun all))

sources_written : (uses : List Use) → source_of uses ≡ source_written (all_written uses)
unfolding source_of
sources_written uses =
    ap (λ (texts : List (List ℕ)). source_by (head_of texts) (value_of SelfRun uses)) (values_written Capture uses)
    ∙ ap (λ (texts : List (List ℕ)). source_by (head_of (values_in Capture (all_written uses))) (head_of texts)) (values_written SelfRun uses)

unless_none : (first : Option WordFault) (options : Options) → first ≡ None → unless first options ≡ Ok options
unless_none first options h = rw h refl

unless_ok : (first : Option WordFault) (one options : Options) → unless first one ≡ Ok options → (first ≡ None) × (options ≡ one)
unless_ok None one options h = (refl, cc)
unless_ok (Some first) one options h = absurd cc

abbrev kind_in : List Written → LineKind
kind_in all = kind_asked (head_of (values_in Kind all))

abbrev filtered_in : List Written → Bool
filtered_in all = is_some (shown_filter (head_of (values_in Filter all)))

filter_written : (uses : List Use) → is_filtered uses ≡ filtered_in (all_written uses)
filter_written uses = ap (λ (texts : List (List ℕ)). is_some (shown_filter (head_of texts))) (values_written Filter uses)

abbrev AreFineIn : List Written → Type 0
AreFineIn all = AreFine (kind_in all) (filtered_in all) all

-- the kind of line and the filter are those written
fine_written : (uses : List Use) → AreFine (kind_asked (value_of Kind uses)) (is_filtered uses) (all_written uses) → AreFineIn (all_written uses)
fine_written uses fine =
    subst (λ (kind : LineKind). AreFine kind (filtered_in (all_written uses)) (all_written uses)) (kind_written uses)
    (subst (λ (filtered : Bool). AreFine (kind_asked (value_of Kind uses)) filtered (all_written uses)) (filter_written uses) fine)

fine_given : (uses : List Use) → AreFineIn (all_written uses) → AreFine (kind_asked (value_of Kind uses)) (is_filtered uses) (all_written uses)
fine_given uses fine =
    subst (λ (kind : LineKind). AreFine kind (is_filtered uses) (all_written uses)) (sym (kind_written uses))
    (subst (λ (filtered : Bool). AreFine (kind_in (all_written uses)) filtered (all_written uses)) (sym (filter_written uses)) fine)

asked_found : (behind : ℕ) (source : Source) (uses : List Use) → source_written (all_written uses) ≡ Some source
    → AreFineIn (all_written uses) → asked behind uses (source_of uses) ≡ Ok (asked_written source (all_written uses))
asked_found behind source uses captured fine =
    ap (asked behind uses) (sources_written uses ∙ captured)
    ∙ unless_none (together_fault behind uses (kind_asked (value_of Kind uses))) (options_by source uses)
    (together_fine behind uses (kind_asked (value_of Kind uses)) (fine_given uses fine))
    ∙ ap (λ (options : Options). Ok options) (options_written source uses)

-- what is spelled is read
pub options_found : (source : Source) (all : List Spelled) → IsCommand source all → options_of (spelled_words all) ≡ Ok (asked_by source all)
unfolding options_of
options_found source all command =
    let uses : List Use = uses_from 0 None (spelled_words all) in
    let behind : ℕ = suc (length (spelled_words all)) in
    let are = spelled_uses 0 all command.spelled in
    let fine : IsSound [] (all_written uses) = subst (IsSound []) (sym are.1) (command.values, λ slot. omega (arith, command.once slot)) in
    ap (judged behind uses) (faultless [] uses are.0 fine)
    ∙ asked_found behind source uses (ap source_written are.1 ∙ command.captured)
    (subst AreFineIn (sym are.1) (command.columns, command.output, command.filtered))
    ∙ ap (λ (ws : List Written). Ok (asked_written source ws)) are.1

judged_ok : (behind : ℕ) (uses : List Use) (first : Option WordFault) (options : Options) → judged behind uses first ≡ Ok options
    → (first ≡ None) × (asked behind uses (source_of uses) ≡ Ok options)
judged_ok behind uses (Some fault) options h = absurd cc
judged_ok behind uses None options h = (refl, h)

asked_ok : (behind : ℕ) (uses : List Use) (found : Option Source) (options : Options) → asked behind uses found ≡ Ok options
    → (source : Source) × (found ≡ Some source) × (together_fault behind uses (kind_asked (value_of Kind uses)) ≡ None) × (options ≡ options_by source uses)
asked_ok behind uses None options h = absurd cc
asked_ok behind uses (Some source) options h =
    let both = unless_ok (together_fault behind uses (kind_asked (value_of Kind uses))) (options_by source uses) options h in
    (source, refl, both.0, both.1)

only_spelled : (all : List Spelled) (options : Options) → list_all is_spelled all ≡ true → options_of (spelled_words all) ≡ Ok options
    → (source : Source) × IsCommand source all × (options ≡ asked_by source all)
unfolding options_of
only_spelled all options spelled h =
    let uses : List Use = uses_from 0 None (spelled_words all) in
    let behind : ℕ = suc (length (spelled_words all)) in
    let are = spelled_uses 0 all spelled in
    let judged = judged_ok behind uses (first_fault [] uses) options h in
    let command : IsSound [] (written_by all) = subst (IsSound []) are.1 (sound [] uses judged.0) in
    let asked = asked_ok behind uses (source_of uses) options judged.1 in
    let fine : AreFineIn (written_by all)
    = subst AreFineIn are.1 (fine_written uses (together_had behind uses (kind_asked (value_of Kind uses)) asked.2)) in (
      asked.0,
      record {
        spelled = spelled;
        values = command.0;
        once = λ slot. omega (arith, command.1 slot);
        captured = ap source_written (sym are.1) ∙ sym (sources_written uses) ∙ asked.1;
        columns = fine.0;
        output = fine.1;
        filtered = fine.2;
      },
      asked.3 ∙ options_written asked.0 uses ∙ ap (asked_written asked.0) are.1,
    )

-- what is read is spelled
pub options_only : (words : List (List ℕ)) (options : Options) → options_of words ≡ Ok options → IsAsked words options
unfolding options_of
options_only words options h =
    let judged = judged_ok (suc (length words)) (uses_from 0 None words) (first_fault [] (uses_from 0 None words)) options h in
    let spelled = words_spelled words judged.0 in
    let only = only_spelled spelled.0 options spelled.2 (subst (λ (ws : List (List ℕ)). options_of ws ≡ Ok options) spelled.1 h) in
    (spelled.0, only.0, spelled.1, only.1, only.2)

-- what is answered
pub answered_found : (words : List (List ℕ)) (answer : Result Options WordsError) → Gives answer (options_of words) → (source : Source) (all : List Spelled)
    → words ≡ spelled_words all → IsCommand source all → Gives answer (Ok (asked_by source all))
answered_found words answer gives source all is command =
    subst (λ (expected : Result Options WordFault). Gives answer expected) (ap options_of is ∙ options_found source all command) gives

pub answered_only : (words : List (List ℕ)) (answer : Result Options WordsError) → Gives answer (options_of words) → IfOk answer (λ options. IsAsked words options)
answered_only words (Ok options) gives = options_only words options gives
answered_only words (Err e) gives = tt
