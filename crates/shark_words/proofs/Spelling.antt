-- Words without a fault are options as they are written.
use Rattle.std.proofs.Common.{◌≡◌, ℕ, ◌+◌, ◌≤◌, length, map, suc, Bool, true, false, not, ◌||◌, ◌&&◌, ◌==◌, List, [], ◌∷◌, ◌++◌, Option, Some, None, refl, sym, ap, subst, ◌∙◌, arith, eqb-true, if◌then◌else◌}
use Rattle.std.specs.Prelude.{nat_lt, option_map}
use Rattle.std.specs.List.{list_all}
use Rattle.std.specs.Option.{option_or}
use Rattle.std.specs.Str.{bytes_eq}
use Rattle.std.proofs.lemmas.Option.{none-some, same_Some}
use Rattle.std.proofs.lemmas.Bool.{both_ways, and_parts, lt-ltb}
use Rattle.std.specs.Cmp.Derive.{both_true}
use Rattle.std.proofs.lemmas.Bool.Decides.{nat_tests}
use Rattle.std.proofs.lemmas.List.Folds.{list_any-append}
use Rattle.std.proofs.lemmas.Slice.Eq.{bytes_eq-Decides}
use Rattle.shark_words.specs.declared.letter.Letter.{Letter}
use Rattle.shark_words.specs.declared.letter.Letter.TheVariants.{Capture, Filter, Two, Kind, Name, Style, Most, Quiet, Decode, Report, Output, Format, SelfRun, FilterStats}
use Rattle.shark_words.specs.declared.slot.Slot.{Slot}
use Rattle.shark_words.specs.declared.uses.Value.{Value}
use Rattle.shark_words.specs.declared.uses.Given.{Given}
use Rattle.shark_words.specs.declared.uses.Use.{Use}
use Rattle.shark_words.specs.declared.uses.Use.TheVariants as use_
use Rattle.shark_words.specs.declared.fault.WordFault.{WordFault}
use Rattle.shark_words.specs.Letters.{letter_of, letter_byte, has_letter, has_value}
use Rattle.shark_words.specs.Slots.{slot_of, is_slot, is_same_slot, is_taken, with_slot}
use Rattle.shark_words.specs.Values.{is_value}
use Rattle.shark_words.specs.Uses.{uses_from, uses_at, option_at, cluster_uses, value_uses, with_value, without_value, is_cluster as is_known, letters_at, self_run_name, filter_stats_name}
use Rattle.shark_words.specs.Faults.{fault, first_fault, fault_of, value_fault, slot_in, text_in}
use Rattle.shark_words.specs.Spelled.{End, Bare, Together, Apart, Cluster, Spelled, Clustered, Generate, Stats, spelled_words, end_letters, end_words, letters_of, is_flag, is_ended_by, is_end, is_cluster, is_spelled, Written, flag, valued, end_written, written_by, fits, fits_text, text_or_none, one_if, times}
use Rattle.shark_words.proofs.SlotLemmas.{same_slot, slot_itself}

same_bytes : (one other : List ℕ) → bytes_eq one other ≡ true → one ≡ other
same_bytes one other h = (bytes_eq-Decides one other).0 h

letter_of_byte : (letter : Letter) → has_letter letter ≡ true → letter_of (letter_byte letter) ≡ Some letter
letter_of_byte Capture h = refl
letter_of_byte Filter h = refl
letter_of_byte Two h = refl
letter_of_byte Kind h = refl
letter_of_byte Name h = refl
letter_of_byte Style h = refl
letter_of_byte Most h = refl
letter_of_byte Quiet h = refl
letter_of_byte Decode h = refl
letter_of_byte Report h = refl
letter_of_byte Output h = refl
letter_of_byte Format h = refl
letter_of_byte SelfRun h = absurd (both_ways false refl h)
letter_of_byte FilterStats h = absurd (both_ways false refl h)

byte_of_letter : (b : ℕ) (letter : Letter) → letter_of b ≡ Some letter → b ≡ letter_byte letter
byte_of_letter b letter h = grind (arith, nat_tests)

not_so : (b : Bool) → not b ≡ true → b ≡ false
not_so true h = absurd (both_ways false refl h)
not_so false h = refl

-- a letter that was read is one
lettered : (b : ℕ) (letter : Letter) → letter_of b ≡ Some letter → has_letter letter ≡ true
lettered b letter h = grind (arith, nat_tests)

flag_parts : (letter : Letter) → is_flag letter ≡ true → (letter_of (letter_byte letter) ≡ Some letter) × (has_value letter ≡ false)
flag_parts letter is =
    let both = and_parts (has_letter letter) (not (has_value letter)) is in (letter_of_byte letter both.0, not_so (has_value letter) both.1)

end_parts : (letter : Letter) → is_ended_by letter ≡ true → (letter_of (letter_byte letter) ≡ Some letter) × (has_value letter ≡ true)
end_parts letter is =
    let both = and_parts (has_letter letter) (has_value letter) is in (letter_of_byte letter both.0, both.1)

neither : (one other : Option WordFault) → option_or one other ≡ None → (one ≡ None) × (other ≡ None)
neither None other h = (refl, h)
neither (Some fault) other h = absurd (none-some fault (sym h))

first_of_none : (one other : Option WordFault) → one ≡ None → other ≡ None → option_or one other ≡ None
first_of_none one other e h = rw e h

so_not : (b : Bool) → b ≡ false → not b ≡ true
so_not true h = absurd (both_ways true h refl)
so_not false h = refl

-- the options that uses give, as they are written
text_of : Option Value → Option (List ℕ)
text_of value = option_map (λ v. v.text) value

abbrev pub use_written : Use → List Written
use_written (use_.Given given) = (record { letter = given.letter; text = option_map (λ (v : Value). v.text) given.value }) ∷ []
use_written other = []

abbrev pub all_written : List Use → List Written
all_written [] = []
all_written (used ∷ uses) = use_written used ++ all_written uses

abbrev pub is_option : Use → Bool
is_option (use_.Given given) = true
is_option other = false

abbrev pub IsWrittenAs : List Use → List Written → Type 0
IsWrittenAs uses all = (list_all is_option uses ≡ true) × (all_written uses ≡ all)

-- the uses of a cluster
letter_step : (word b : ℕ) (letter : Letter) (rest : List ℕ) (behind : Option Letter → List Use) → letter_of b ≡ Some letter → has_value letter ≡ false
    → cluster_uses word (b ∷ rest) behind ≡ without_value word letter ∷ cluster_uses word rest behind
letter_step word b letter rest behind is none = rw is (rw none refl)

value_step : (word b : ℕ) (letter : Letter) (rest : List ℕ) (behind : Option Letter → List Use) → letter_of b ≡ Some letter → has_value letter ≡ true
    → cluster_uses word (b ∷ rest) behind ≡ value_uses word letter rest behind
value_step word b letter rest behind is some = rw is (rw some refl)

known_letter : (b : ℕ) (letter : Letter) (rest : List ℕ) → letter_of b ≡ Some letter → has_value letter ≡ false → is_known (b ∷ rest) ≡ is_known rest
known_letter b letter rest is none = rw is (rw none refl)

unknown_letter : (b : ℕ) (rest : List ℕ) → letter_of b ≡ None → is_known (b ∷ rest) ≡ false
unknown_letter b rest is = rw is refl

known_value : (b : ℕ) (letter : Letter) (rest : List ℕ) → letter_of b ≡ Some letter → has_value letter ≡ true → is_known (b ∷ rest) ≡ true
known_value b letter rest is some = rw is (rw some refl)

abbrev are_flags : List Letter → Bool
are_flags flags = list_all is_flag flags

flags_known : (flags : List Letter) (tail : List ℕ) → are_flags flags ≡ true → is_known (map letter_byte flags ++ tail) ≡ is_known tail
flags_known [] tail are = refl
flags_known (letter ∷ flags) tail are =
    let both = and_parts (is_flag letter) (are_flags flags) are in
    let parts = flag_parts letter both.0 in
    known_letter (letter_byte letter) letter (map letter_byte flags ++ tail) parts.0 parts.1
    ∙ flags_known flags tail both.1

flags_uses : (word : ℕ) (flags : List Letter) (tail : List ℕ) (behind : Option Letter → List Use) → are_flags flags ≡ true
    → cluster_uses word (map letter_byte flags ++ tail) behind ≡ map (without_value word) flags ++ cluster_uses word tail behind
flags_uses word [] tail behind are = refl
flags_uses word (letter ∷ flags) tail behind are =
    let both = and_parts (is_flag letter) (are_flags flags) are in
    let parts = flag_parts letter both.0 in
    letter_step word (letter_byte letter) letter (map letter_byte flags ++ tail) behind parts.0 parts.1
    ∙ ap (λ (uses : List Use). without_value word letter ∷ uses) (flags_uses word flags tail behind both.1)

end_known : (end : End) → is_end end ≡ true → is_known (end_letters end) ≡ true
end_known Bare is = refl
end_known (Together letter first rest) is = let parts = end_parts letter is in known_value (letter_byte letter) letter (first ∷ rest) parts.0 parts.1
end_known (Apart letter text) is = let parts = end_parts letter is in known_value (letter_byte letter) letter [] parts.0 parts.1

-- the uses of a cluster's end, and of the words behind
abbrev end_uses : ℕ → End → List (List ℕ) → List Use
end_uses number Bare words = uses_from (suc number) None words
end_uses number (Together letter first rest) words = with_value (suc number) letter (suc number) (first ∷ rest) ∷ uses_from (suc number) None words
end_uses number (Apart letter text) words = with_value (suc number) letter (suc (suc number)) text ∷ uses_from (suc (suc number)) None words

end_used : (number : ℕ) (end : End) (words : List (List ℕ)) → is_end end ≡ true
    → cluster_uses (suc number) (end_letters end) (λ waiting. uses_from (suc number) waiting (end_words end ++ words)) ≡ end_uses number end words
unfolding uses_from
end_used number Bare words is = refl
end_used number (Together letter first rest) words is =
    let parts = end_parts letter is in
    value_step (suc number) (letter_byte letter) letter (first ∷ rest) (λ waiting. uses_from (suc number) waiting words) parts.0 parts.1
end_used number (Apart letter text) words is =
    let parts = end_parts letter is in
    value_step (suc number) (letter_byte letter) letter [] (λ waiting. uses_from (suc number) waiting (text ∷ words)) parts.0 parts.1

-- letters that are known are not those of a long name
no_name : (letters name : List ℕ) (same : Bool) → bytes_eq letters name ≡ same → is_known name ≡ false → is_known letters ≡ true → same ≡ false
no_name letters name false is unknown known = refl
no_name letters name true is unknown known =
    absurd (both_ways (is_known letters) (ap is_known (same_bytes letters name is) ∙ unknown) known)

dashed_uses : (word : ℕ) (letters : List ℕ) (behind : Option Letter → List Use) → nat_lt 0 (length letters) ≡ true → is_known letters ≡ true
    → uses_at word (45 ∷ letters) behind ≡ cluster_uses word letters behind
unfolding letters_at
dashed_uses word [] behind some known = absurd (both_ways false refl some)
dashed_uses word (b ∷ rest) behind some known =
    rw (no_name (b ∷ rest) self_run_name (bytes_eq (b ∷ rest) self_run_name) refl refl known)
    (rw (no_name (b ∷ rest) filter_stats_name (bytes_eq (b ∷ rest) filter_stats_name) refl refl known) (rw known refl))

cluster_used : (number : ℕ) (one : Cluster) (words : List (List ℕ)) → is_cluster one ≡ true
    → uses_from number None ((45 ∷ letters_of one) ∷ (end_words one.end ++ words)) ≡ map (without_value (suc number)) one.flags ++ end_uses number one.end words
unfolding uses_from
cluster_used number one words is =
    let flags = and_parts (are_flags one.flags) (is_end one.end && nat_lt 0 (length (letters_of one))) is in
    let end = and_parts (is_end one.end) (nat_lt 0 (length (letters_of one))) flags.1 in
    let known : is_known (letters_of one) ≡ true = flags_known one.flags (end_letters one.end) flags.0 ∙ end_known one.end end.0 in
    dashed_uses (suc number) (letters_of one) (λ waiting. uses_from (suc number) waiting (end_words one.end ++ words)) end.1 known
    ∙ flags_uses (suc number) one.flags (end_letters one.end) (λ waiting. uses_from (suc number) waiting (end_words one.end ++ words)) flags.0
    ∙ ap (λ (uses : List Use). map (without_value (suc number)) one.flags ++ uses) (end_used number one.end words end.0)

flags_written : (word : ℕ) (flags : List Letter) (uses : List Use) (all : List Written) → IsWrittenAs uses all
    → IsWrittenAs (map (without_value word) flags ++ uses) (map flag flags ++ all)
flags_written word [] uses all is = is
flags_written word (letter ∷ flags) uses all is =
    let more = flags_written word flags uses all is in (more.0, ap (λ (ws : List Written). flag letter ∷ ws) more.1)

end_as_written : (number : ℕ) (end : End) (words : List (List ℕ)) (all : List Written) → ((number : ℕ) → IsWrittenAs (uses_from number None words) all)
    → IsWrittenAs (end_uses number end words) (end_written end ++ all)
end_as_written number Bare words all is = is (suc number)
end_as_written number (Together letter first rest) words all is =
    let more = is (suc number) in (more.0, ap (λ (ws : List Written). valued letter (first ∷ rest) ∷ ws) more.1)
end_as_written number (Apart letter text) words all is =
    let more = is (suc (suc number)) in (more.0, ap (λ (ws : List Written). valued letter text ∷ ws) more.1)

-- the uses of clusters are what was written
pub spelled_uses : (number : ℕ) (all : List Spelled) → list_all is_spelled all ≡ true → IsWrittenAs (uses_from number None (spelled_words all)) (written_by all)
unfolding uses_from letters_at
spelled_uses number [] are = (refl, refl)
spelled_uses number (Generate text ∷ all) are =
    let more = spelled_uses (suc (suc number)) all are in (more.0, ap (λ (ws : List Written). valued SelfRun text ∷ ws) more.1)
spelled_uses number (Stats ∷ all) are =
    let more = spelled_uses (suc number) all are in (more.0, ap (λ (ws : List Written). flag FilterStats ∷ ws) more.1)
spelled_uses number (Clustered one ∷ all) are =
    let both = and_parts (is_cluster one) (list_all is_spelled all) are in
    subst (λ (uses : List Use). IsWrittenAs uses (written_by (Clustered one ∷ all))) (sym (cluster_used number one (spelled_words all) both.0))
    (flags_written (suc number) one.flags (end_uses number one.end (spelled_words all)) (end_written one.end ++ written_by all)
    (end_as_written number one.end (spelled_words all) (written_by all) (λ number. spelled_uses number all both.1)))

-- words behind others, of which the last may be an option that waits for its value
abbrev pub IsSpelled : List (List ℕ) → Type 0
IsSpelled words = (all : List Spelled) × (words ≡ spelled_words all) × (list_all is_spelled all ≡ true)

abbrev IsSpelledAfter : Option Letter → List (List ℕ) → Type 0
IsSpelledAfter None words = IsSpelled words
IsSpelledAfter (Some letter) words =
    (text : List ℕ) × (all : List Spelled) × (words ≡ text ∷ spelled_words all) × (list_all is_spelled all ≡ true)

-- the letters of a cluster and the words behind
pub record IsClusterThen (letters : List ℕ) (words : List (List ℕ)) : Type 0 where
  flags : List Letter
  end : End
  all : List Spelled
  are : are_flags flags ≡ true
  is : is_end end ≡ true
  spelled : list_all is_spelled all ≡ true
  letters_are : letters ≡ map letter_byte flags ++ end_letters end
  words_are : words ≡ end_words end ++ spelled_words all

abbrev Waits : Option Letter → Type 0
Waits None = Unit {0}
Waits (Some letter) = has_value letter ≡ true

abbrev Behind : ℕ → List (List ℕ) → Type 0
Behind word words = (waiting : Option Letter) (held : List Slot) → Waits waiting → first_fault held (uses_from word waiting words) ≡ None → IsSpelledAfter waiting words

value_spelled : (word b : ℕ) (letter : Letter) (rest : List ℕ) (words : List (List ℕ)) (held : List Slot) → letter_of b ≡ Some letter → has_value letter ≡ true
    → Behind word words → first_fault held (value_uses word letter rest (λ waiting. uses_from word waiting words)) ≡ None → IsClusterThen (b ∷ rest) words
unfolding first_fault
value_spelled word b letter [] words held is some behind h =
    let more = behind (Some letter) held some h in
    record {
      flags = [];
      end = Apart letter more.0;
      all = more.1;
      are = refl;
      is = both_true (lettered b letter is) some;
      spelled = more.3;
      letters_are = ap (λ (c : ℕ). c ∷ []) (byte_of_letter b letter is);
      words_are = more.2;
    }
value_spelled word b letter (c ∷ rest) words held is some behind h =
    let used = with_value word letter word (c ∷ rest) in
    let more = behind None (with_slot (slot_in used) held) tt (neither (fault_of held used) _ h).1 in
    record {
      flags = [];
      end = Together letter c rest;
      all = more.0;
      are = refl;
      is = both_true (lettered b letter is) some;
      spelled = more.2;
      letters_are = ap (λ (d : ℕ). d ∷ c ∷ rest) (byte_of_letter b letter is);
      words_are = more.1;
    }

one_more : (b : ℕ) (letter : Letter) (rest : List ℕ) (words : List (List ℕ)) → letter_of b ≡ Some letter → has_value letter ≡ false
    → IsClusterThen rest words → IsClusterThen (b ∷ rest) words
one_more b letter rest words is none more = record {
  flags = letter ∷ more.flags;
  end = more.end;
  all = more.all;
  are = both_true (both_true (lettered b letter is) (so_not (has_value letter) none)) more.are;
  is = more.is;
  spelled = more.spelled;
  letters_are = ap (λ (c : ℕ). c ∷ rest) (byte_of_letter b letter is) ∙ ap (λ (cs : List ℕ). letter_byte letter ∷ cs) more.letters_are;
  words_are = more.words_are;
}

letter_spelled : (word b : ℕ) (found : Option Letter) (some : Bool) (rest : List ℕ) (words : List (List ℕ)) (held : List Slot) → letter_of b ≡ found
    → ((letter : Letter) → found ≡ Some letter → has_value letter ≡ some) → is_known (b ∷ rest) ≡ true → Behind word words
    → ((held : List Slot) → is_known rest ≡ true → first_fault held (cluster_uses word rest (λ waiting. uses_from word waiting words)) ≡ None → IsClusterThen rest words)
    → first_fault held (cluster_uses word (b ∷ rest) (λ waiting. uses_from word waiting words)) ≡ None → IsClusterThen (b ∷ rest) words
unfolding first_fault
letter_spelled word b None some rest words held is has known behind further h = absurd (both_ways (is_known (b ∷ rest)) (unknown_letter b rest is) known)
letter_spelled word b (Some letter) true rest words held is has known behind further h =
    value_spelled word b letter rest words held is (has letter refl) behind
    (ap (first_fault held) (sym (value_step word b letter rest (λ waiting. uses_from word waiting words) is (has letter refl))) ∙ h)
letter_spelled word b (Some letter) false rest words held is has known behind further h =
    let none = has letter refl in
    let step : first_fault held (without_value word letter ∷ cluster_uses word rest (λ waiting. uses_from word waiting words)) ≡ None
    = ap (first_fault held) (sym (letter_step word b letter rest (λ waiting. uses_from word waiting words) is none)) ∙ h in
    one_more b letter rest words is none
    (further (with_slot (slot_in (without_value word letter)) held) (sym (known_letter b letter rest is none) ∙ known) (neither (fault_of held (without_value word letter)) _ step).1)

value_test : Option Letter → Bool
value_test None = false
value_test (Some letter) = has_value letter

value_tested : (found : Option Letter) (letter : Letter) → found ≡ Some letter → has_value letter ≡ value_test found
unfolding value_test
value_tested None letter is = absurd (none-some letter is)
value_tested (Some other) letter is = ap has_value (sym (same_Some other letter is))

cluster_spelled : (word : ℕ) (letters : List ℕ) (words : List (List ℕ)) (held : List Slot) → is_known letters ≡ true → Behind word words
    → first_fault held (cluster_uses word letters (λ waiting. uses_from word waiting words)) ≡ None → IsClusterThen letters words
cluster_spelled word [] words held known behind h =
    let more = behind None held tt h in
    record { flags = []; end = Bare; all = more.0; are = refl; is = refl; spelled = more.2; letters_are = refl; words_are = more.1 }
cluster_spelled word (b ∷ rest) words held known behind h =
    letter_spelled word b (letter_of b) (value_test (letter_of b)) rest words held refl (value_tested (letter_of b)) known behind
    (λ held known h. cluster_spelled word rest words held known behind h) h

first_some : (first : ℕ) (rest letters : List ℕ) → first ∷ rest ≡ letters → nat_lt 0 (length letters) ≡ true
first_some first rest letters is = subst (λ (cs : List ℕ). nat_lt 0 (length cs) ≡ true) is (lt-ltb 0 (length (first ∷ rest)) (omega arith))

then_spelled : (first : ℕ) (rest : List ℕ) (words : List (List ℕ)) → IsClusterThen (first ∷ rest) words → IsSpelled ((45 ∷ first ∷ rest) ∷ words)
then_spelled first rest words behind =
    let one : Cluster = record { flags = behind.flags; end = behind.end } in (
      Clustered one ∷ behind.all,
      ap (λ (cs : List ℕ). (45 ∷ cs) ∷ words) behind.letters_are ∙ ap (λ (ws : List (List ℕ)). (45 ∷ letters_of one) ∷ ws) behind.words_are,
      both_true (both_true behind.are (both_true behind.is (first_some first rest (letters_of one) behind.letters_are))) behind.spelled,
    )

abbrev option_uses : ℕ → Bool → Bool → Bool → List ℕ → List (List ℕ) → List Use
option_uses word self stats known letters words =
    if self then uses_from word (Some SelfRun) words
    else if stats then without_value word FilterStats ∷ uses_from word None words
    else if known then cluster_uses word letters (λ waiting. uses_from word waiting words)
    else use_.Unknown word ∷ uses_from word None words

option_spelled : (word first : ℕ) (self stats known : Bool) (rest : List ℕ) (words : List (List ℕ)) (held : List Slot) → bytes_eq (first ∷ rest) self_run_name ≡ self
    → bytes_eq (first ∷ rest) filter_stats_name ≡ stats → is_known (first ∷ rest) ≡ known → Behind word words → first_fault held (option_uses word self stats known (first ∷ rest) words) ≡ None
    → IsSpelled ((45 ∷ first ∷ rest) ∷ words)
unfolding first_fault
option_spelled word first true stats known rest words held same named is behind h =
    let more = behind (Some SelfRun) held refl h in (
      Generate more.0 ∷ more.1,
      ap (λ (letters : List ℕ). (45 ∷ letters) ∷ words) (same_bytes (first ∷ rest) self_run_name same)
          ∙ ap (λ (after : List (List ℕ)). (45 ∷ self_run_name) ∷ after) more.2,
      more.3,
    )
option_spelled word first false true known rest words held same named is behind h =
    let used = without_value word FilterStats in
    let more = behind None (with_slot (slot_in used) held) tt (neither (fault_of held used) _ h).1 in (
      Stats ∷ more.0,
      ap (λ (letters : List ℕ). (45 ∷ letters) ∷ words) (same_bytes (first ∷ rest) filter_stats_name named)
          ∙ ap (λ (after : List (List ℕ)). (45 ∷ filter_stats_name) ∷ after) more.1,
      more.2,
    )
option_spelled word first false false true rest words held same named is behind h = then_spelled first rest words (cluster_spelled word (first ∷ rest) words held is behind h)
option_spelled word first false false false rest words held same named is behind h = absurd (none-some _ (sym h))

word_spelled : (word first second : ℕ) (dash : Bool) (rest : List ℕ) (words : List (List ℕ)) (held : List Slot) → (first == 45) ≡ dash → Behind word words
    → first_fault held (if dash then option_at word (second ∷ rest) (λ waiting. uses_from word waiting words) else use_.Stray word ∷ uses_from word None words) ≡ None
    → IsSpelled ((first ∷ second ∷ rest) ∷ words)
unfolding first_fault letters_at
word_spelled word first second true rest words held is behind h =
    rw (eqb-true first 45 is)
    (option_spelled word second (bytes_eq (second ∷ rest) self_run_name) (bytes_eq (second ∷ rest) filter_stats_name) (is_known (second ∷ rest)) rest words held refl refl refl behind h)
word_spelled word first second false rest words held is behind h = absurd (none-some _ (sym h))

-- an option that waits for its value has one
missing : (taken some : Bool) (one other : WordFault) (next : Option WordFault)
    → option_or (if taken then Some one else if some then Some other else None) next ≡ None → some ≡ true → ⊥
missing true some one other next h is = none-some one (sym h)
missing false true one other next h is = none-some other (sym h)
missing false false one other next h is = absurd (both_ways false refl is)

spelled_after : (number : ℕ) (waiting : Option Letter) (words : List (List ℕ)) (held : List Slot) → Waits waiting
    → first_fault held (uses_from number waiting words) ≡ None → IsSpelledAfter waiting words
unfolding first_fault uses_from
spelled_after number None [] held waits h = ([], refl, refl)
spelled_after number (Some letter) [] held waits h = absurd (missing _ _ _ _ _ h waits)
spelled_after number (Some letter) (text ∷ words) held waits h =
    let used = with_value number letter (suc number) text in
    let more = spelled_after (suc number) None words (with_slot (slot_in used) held) tt (neither (fault_of held used) _ h).1 in
    (text, more.0, ap (λ (after : List (List ℕ)). text ∷ after) more.1, more.2)
spelled_after number None ([] ∷ words) held waits h = absurd (none-some _ (sym h))
spelled_after number None ((first ∷ []) ∷ words) held waits h = absurd (none-some _ (sym h))
spelled_after number None ((first ∷ second ∷ rest) ∷ words) held waits h =
    word_spelled (suc number) first second (first == 45) rest words held refl (λ waiting held waits h. spelled_after (suc number) waiting words held waits h) h

-- words without a fault are options as they are written
pub words_spelled : (words : List (List ℕ)) → first_fault [] (uses_from 0 None words) ≡ None → IsSpelled words
words_spelled words h = spelled_after 0 None words [] tt h

-- the values of these, behind such uses: each is one of its option's, and nothing comes again that may come once
abbrev pub IsSound : List Slot → List Written → Type 0
IsSound held all = (list_all fits all ≡ true) × ((slot : Slot) → one_if (is_taken (Some slot) held) + times slot all ≤ 1)

at_most_once : (given : Bool) → one_if given + 0 ≤ 1
at_most_once true = omega arith
at_most_once false = omega arith

taken_more : (given same : Bool) (n : ℕ) → (same ≡ true → given ≡ false) → one_if (given || same) + n ≤ 1 → one_if given + (one_if same + n) ≤ 1
taken_more true true n new h = absurd (both_ways true (new refl) refl)
taken_more false true n new h = omega (arith, h)
taken_more true false n new h = omega (arith, h)
taken_more false false n new h = omega (arith, h)

taken_less : (given same : Bool) (n : ℕ) → one_if given + (one_if same + n) ≤ 1 → one_if (given || same) + n ≤ 1
taken_less true same n h = omega (arith, h)
taken_less false true n h = omega (arith, h)
taken_less false false n h = omega (arith, h)

or_false : (b : Bool) → (b || false) ≡ b
or_false true = refl
or_false false = refl

given_more : (slot : Slot) (held : List Slot) (found : Option Slot) → is_taken (Some slot) (with_slot found held) ≡ (is_taken (Some slot) held || is_slot slot found)
given_more slot held None = sym (or_false (is_taken (Some slot) held))
given_more slot held (Some other) =
    list_any-append (is_same_slot slot) held (other ∷ [])
    ∙ ap (λ (b : Bool). is_taken (Some slot) held || b) (or_false (is_same_slot slot other))

not_taken : (taken : Bool) (one : WordFault) (other : Option WordFault) → (if taken then Some one else other) ≡ None → (taken ≡ false) × (other ≡ None)
not_taken true one other h = absurd (none-some one (sym h))
not_taken false one other h = (refl, h)

no_value : (some : Bool) (one : WordFault) → (if some then Some one else None) ≡ None → not some ≡ true
no_value true one h = absurd (none-some one (sym h))
no_value false one h = refl

good_value : (good : Bool) (one : WordFault) → (if good then None else Some one) ≡ None → good ≡ true
good_value true one h = refl
good_value false one h = absurd (none-some one (sym h))

value_fits : (word : ℕ) (letter : Letter) (value : Option Value) → value_fault word letter value ≡ None → fits_text letter (option_map (λ (v : Value). v.text) value) ≡ true
value_fits word letter None h = no_value (has_value letter) _ h
value_fits word letter (Some value) h = good_value (is_value letter value.text) _ h

no_fault : (some : Bool) (one : WordFault) → not some ≡ true → (if some then Some one else None) ≡ None
no_fault true one h = absurd (both_ways false refl h)
no_fault false one h = refl

fine_value : (good : Bool) (one : WordFault) → good ≡ true → (if good then None else Some one) ≡ None
fine_value true one h = refl
fine_value false one h = absurd (both_ways false refl h)

fits_value : (word : ℕ) (letter : Letter) (value : Option Value) → fits_text letter (option_map (λ (v : Value). v.text) value) ≡ true → value_fault word letter value ≡ None
fits_value word letter None h = no_fault (has_value letter) _ h
fits_value word letter (Some value) h = fine_value (is_value letter value.text) _ h

same_text : (value : Option Value) → text_in value ≡ text_or_none (option_map (λ (v : Value). v.text) value)
same_text None = refl
same_text (Some value) = refl

fresh : (slot : Slot) (found : Option Slot) (held : List Slot) → is_taken found held ≡ false → is_slot slot found ≡ true → is_taken (Some slot) held ≡ false
fresh slot None held new is = absurd (both_ways false refl is)
fresh slot (Some other) held new is = subst (λ (s : Slot). is_taken (Some s) held ≡ false) (sym (same_slot slot other is)) new

abbrev slot_written : Given → Option Slot
slot_written given = slot_of given.letter (text_or_none (option_map (λ (v : Value). v.text) given.value))

same_slot_written : (given : Given) → slot_of given.letter (text_in given.value) ≡ slot_written given
same_slot_written given = ap (slot_of given.letter) (same_text given.value)

given_sound : (held : List Slot) (given : Given) (uses : List Use) → fault_of held (use_.Given given) ≡ None → IsSound (with_slot (slot_in (use_.Given given)) held) (all_written uses)
    → IsSound held (all_written (use_.Given given ∷ uses))
given_sound held given uses here more =
    let parts = not_taken (is_taken (slot_of given.letter (text_in given.value)) held) _ _ here in (
      both_true (value_fits given.word given.letter given.value parts.1) more.0,
      λ slot.
          let counts : one_if (is_taken (Some slot) held || is_slot slot (slot_of given.letter (text_in given.value))) + times slot (all_written uses) ≤ 1
          = subst (λ (b : Bool). one_if b + times slot (all_written uses) ≤ 1) (given_more slot held (slot_of given.letter (text_in given.value))) (more.1 slot) in
          subst (λ (s : Option Slot). one_if (is_taken (Some slot) held) + (one_if (is_slot slot s) + times slot (all_written uses)) ≤ 1) (same_slot_written given)
          (taken_more (is_taken (Some slot) held) (is_slot slot (slot_of given.letter (text_in given.value))) (times slot (all_written uses))
          (fresh slot (slot_of given.letter (text_in given.value)) held parts.0) counts),
    )

pub sound : (held : List Slot) (uses : List Use) → first_fault held uses ≡ None → IsSound held (all_written uses)
unfolding first_fault
sound held [] h = (refl, λ slot. at_most_once (is_taken (Some slot) held))
sound held (use_.Stray word ∷ uses) h = absurd (none-some _ (sym h))
sound held (use_.Unknown word ∷ uses) h = absurd (none-some _ (sym h))
sound held (use_.Given given ∷ uses) h =
    let parts = neither (fault_of held (use_.Given given)) _ h in
    given_sound held given uses parts.0 (sound (with_slot (slot_in (use_.Given given)) held) uses parts.1)

once_fresh : (given same : Bool) (n : ℕ) → same ≡ true → one_if given + (one_if same + n) ≤ 1 → given ≡ false
once_fresh true true n is h = absurd (omega (arith, h))
once_fresh true false n is h = absurd (both_ways false refl is)
once_fresh false same n is h = refl

not_again : (found : Option Slot) (held : List Slot) (n : Slot → ℕ) → ((slot : Slot) → one_if (is_taken (Some slot) held) + (one_if (is_slot slot found) + n slot) ≤ 1)
    → is_taken found held ≡ false
not_again None held n once = refl
not_again (Some slot) held n once = once_fresh (is_taken (Some slot) held) (is_same_slot slot slot) (n slot) (slot_itself slot) (once slot)

clean : (taken : Bool) (one : WordFault) (other : Option WordFault) → taken ≡ false → other ≡ None → (if taken then Some one else other) ≡ None
clean true one other new none = absurd (both_ways true new refl)
clean false one other new none = none

pub faultless : (held : List Slot) (uses : List Use) → list_all is_option uses ≡ true → IsSound held (all_written uses) → first_fault held uses ≡ None
unfolding first_fault
faultless held [] are fine = refl
faultless held (use_.Stray word ∷ uses) are fine = absurd (both_ways false refl are)
faultless held (use_.Unknown word ∷ uses) are fine = absurd (both_ways false refl are)
faultless held (use_.Given given ∷ uses) are fine =
    let both = and_parts (fits_text given.letter (option_map (λ (v : Value). v.text) given.value)) (list_all fits (all_written uses)) fine.0 in
    let once : (slot : Slot) → one_if (is_taken (Some slot) held) + (one_if (is_slot slot (slot_of given.letter (text_in given.value))) + times slot (all_written uses)) ≤ 1
    = λ slot. subst (λ (s : Option Slot). one_if (is_taken (Some slot) held) + (one_if (is_slot slot s) + times slot (all_written uses)) ≤ 1) (sym (same_slot_written given)) (fine.1 slot) in
    let new = not_again (slot_of given.letter (text_in given.value)) held (λ slot. times slot (all_written uses)) once in
    first_of_none (fault_of held (use_.Given given)) _ (clean _ _ _ new (fits_value given.word given.letter given.value both.0))
    (faultless (with_slot (slot_in (use_.Given given)) held) uses are (
      both.1,
      λ slot.
          subst (λ (b : Bool). one_if b + times slot (all_written uses) ≤ 1) (sym (given_more slot held (slot_of given.letter (text_in given.value))))
          (taken_less (is_taken (Some slot) held) (is_slot slot (slot_of given.letter (text_in given.value))) (times slot (all_written uses)) (once slot)),
    ))
