-- What words ask for can be carried out.
use Rattle.std.proofs.Common.{◌≡◌, ◌≤◌, ℕ, suc, Bool, true, false, List, [], ◌∷◌, ◌++◌, Option, None, Some, refl, sym, ap, subst, ◌∙◌, arith, if◌then◌else◌}
use Rattle.std.specs.Prelude.{◌||◌, ◌&&◌, nat_lt, nat_le, IfSome, IfOk, Result, Ok, Err, IsSome, is_some, option_and_then, option_to_list, take, drop}
use Rattle.std.proofs.lemmas.Bool.{both_ways}
use Rattle.std.proofs.lemmas.Bool.Decides.{nat_tests}
use Rattle.std.proofs.lemmas.Option.{none-some, same_Some}
use Rattle.shark_words.specs.declared.letter.Letter.{Letter}
use Rattle.shark_words.specs.declared.letter.Letter.TheVariants.{Capture, Kind, Report, Output, Format, SelfRun, FilterStats}
use Rattle.shark_words.specs.declared.fault.WordsError.{WordsError}
use Rattle.shark_words.specs.declared.options.Options.{Options}
use Rattle.shark_words.specs.declared.options.Source.{Source}
use Rattle.shark_words.specs.declared.options.Source.TheVariants.{Named}
use Rattle.shark_words.specs.Letters.{is_same}
use Rattle.shark_words.specs.Asked.{head_of}
use Rattle.shark_words.specs.Options.{format_written, source_by}
use Rattle.shark_words.specs.Sound.{AreSound, HasFrames, IsNamed, IsWrittenAlone}
use Rattle.shark_words.specs.Spelled.{Spelled, Written, written_by, values_in, is_written, IsFiltered, HasOutput, IsCommand, filter_by, asked_by, IsAsked}
use Rattle.shark_words.specs.Numbers.{comma_in, decimal_of, up_to}
use Rattle.shark_words.specs.Reports.{reports_in}
use Rattle.shark_words.specs.Values.{generated, generated_at, generated_by, kind_asked, most_generated}
use Rattle.shark_words.proofs.RuleLemmas.{rules_written}

abbrev FromOne : ℕ → Type 0
FromOne frames = (1 ≤ frames) × (frames ≤ most_generated)

few_by : (some small : Bool) (frames : ℕ) → nat_lt 0 frames ≡ some → nat_le frames most_generated ≡ small
    → IfSome (if some && small then Some frames else None) FromOne
few_by true true frames some small = (grind (arith, nat_tests), grind (arith, nat_tests))
few_by true false frames some small = tt
few_by false small frames some h = tt

few : (frames : ℕ) → IfSome (up_to most_generated frames) FromOne
few frames = few_by (nat_lt 0 frames) (nat_le frames most_generated) frames refl refl

few_of : (frames : Option ℕ) → IfSome (option_and_then (up_to most_generated) frames) FromOne
few_of None = tt
few_of (Some frames) = few frames

made_frames : (number frames : Option ℕ) → IfSome frames FromOne → IfSome (generated number frames) HasFrames
made_frames None frames is = tt
made_frames (Some number) None is = tt
made_frames (Some number) (Some frames) is = is

made_at_frames : (text : List ℕ) (comma : Option ℕ) → IfSome (generated_at text comma) HasFrames
made_at_frames text None = tt
made_at_frames text (Some comma) =
    made_frames (decimal_of (take comma text)) (option_and_then (up_to most_generated) (decimal_of (drop (suc comma) text)))
    (few_of (decimal_of (drop (suc comma) text)))

generated_frames : (numbers : Option (List ℕ)) → IfSome (option_and_then generated_by numbers) HasFrames
unfolding generated_by
generated_frames None = tt
generated_frames (Some text) = made_at_frames text (comma_in text)

source_frames : (name numbers : Option (List ℕ)) → IfSome (source_by name numbers) HasFrames
source_frames None numbers = generated_frames numbers
source_frames (Some name) numbers = tt

-- an option that isn't written has no values
either_false : (one other : Bool) → (one || other) ≡ false → (one ≡ false) × (other ≡ false)
either_false true other h = absurd (both_ways true h refl)
either_false false other h = (refl, h)

no_value : (same : Bool) (text : Option (List ℕ)) (values : List (List ℕ)) → same ≡ false → values ≡ [] → ((if same then option_to_list text else []) ++ values) ≡ []
no_value true text values new none = absurd (both_ways true new refl)
no_value false text values new none = none

unwritten : (letter : Letter) (all : List Written) → is_written letter all ≡ false → values_in letter all ≡ []
unwritten letter [] h = refl
unwritten letter (one ∷ all) h =
    let parts = either_false (is_same letter one.letter) (is_written letter all) h in
    no_value (is_same letter one.letter) one.text (values_in letter all) parts.0 (unwritten letter all parts.1)

named_source : (name : Option (List ℕ)) (source : Source) → source_by name None ≡ Some source → IsNamed source
named_source None source h = absurd (none-some source h)
named_source (Some name) source h = subst IsNamed (same_Some (Named name) source h) tt

written_alone : (written : Bool) (format : Option (List ℕ)) (source : Source) (all : List Spelled) → IsCommand source all → HasOutput written (written_by all)
    → IfSome (format_written written format) (λ format. IsWrittenAlone (asked_by source all))
written_alone false format source all command output = tt
written_alone true format source all command output = record {
  source = named_source (head_of (values_in Capture (written_by all))) source
      (sym (ap (λ (texts : List (List ℕ)). source_by (head_of (values_in Capture (written_by all))) (head_of texts)) (unwritten SelfRun (written_by all) output.3)) ∙ command.captured);
  kind = ap (λ (texts : List (List ℕ)). kind_asked (head_of texts)) (unwritten Kind (written_by all) output.0);
  quiet = output.1;
  reports = ap reports_in (unwritten Report (written_by all) output.2);
  stats = output.4;
}

-- statistics are written beside a filter alone
filter_stated : (filter : Option (List ℕ)) (all : List Written) → IsFiltered (is_some filter) all → is_written FilterStats all ≡ true → IsSome filter
filter_stated None all has is = absurd (both_ways (is_written FilterStats all) has is)
filter_stated (Some text) all has is = refl

command_sound : (source : Source) (all : List Spelled) → IsCommand source all → AreSound (asked_by source all)
command_sound source all command = record {
  frames = subst (λ (s : Option Source). IfSome s HasFrames) command.captured
      (source_frames (head_of (values_in Capture (written_by all))) (head_of (values_in SelfRun (written_by all))));
  rules = rules_written (written_by all) command.once;
  stats = filter_stated (filter_by all) (written_by all) command.filtered;
  written = written_alone (is_written Output (written_by all)) (head_of (values_in Format (written_by all))) source all command command.output;
}

-- what is answered
pub answered_sound : (words : List (List ℕ)) (answer : Result Options WordsError) → IfOk answer (λ options. IsAsked words options) → IfOk answer AreSound
answered_sound words (Ok options) asked = subst AreSound (sym asked.4) (command_sound asked.1 asked.0 asked.3)
answered_sound words (Err e) asked = tt
