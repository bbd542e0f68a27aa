-- What the values of an option ask for, one use after the other.
use Rattle.std.proofs.Common.{◌≡◌, ◌<◌, ◌≤◌, ◌+◌, ◌++◌, ℕ, List, [], ◌∷◌, length, Option, get_or, drop, refl, sym, ◌∙◌, ap, add-one, append_assoc, append-nil, drop-cons}
use Rattle.std.specs.Prelude.{option_to_list}
use Rattle.std.proofs.lemmas.List.{drop_all}
use Rattle.pk_fields.specs.declared.rules.PortRule.{PortRule}
use Rattle.shark_words.specs.declared.letter.Letter.{Letter}
use Rattle.shark_words.specs.declared.letter.Letter.TheVariants.{Decode, Report as ReportLetter}
use Rattle.shark_words.specs.declared.options.Report.{Report}
use Rattle.shark_words.specs.declared.uses.Use.{Use}
use Rattle.shark_words.specs.Asked.{value_in, values_of}
use Rattle.shark_words.specs.Ports.{rule_of, rules_in}
use Rattle.shark_words.specs.Reports.{report_of, reports_in}

pub rule_found : (text : List ℕ) (texts : List (List ℕ)) (found : Option PortRule) → text ∷ [] ≡ texts → found ≡ rule_of text → option_to_list found ≡ rules_in texts
rule_found text texts found are is = rw (← are) (rw is (sym (append-nil (option_to_list (rule_of text)))))

pub report_found : (text : List ℕ) (texts : List (List ℕ)) (found : Option Report) → text ∷ [] ≡ texts → found ≡ report_of text → option_to_list found ≡ reports_in texts
report_found text texts found are is = rw (← are) (rw is (sym (append-nil (option_to_list (report_of text)))))

rules_append : (xs ys : List (List ℕ)) → rules_in (xs ++ ys) ≡ rules_in xs ++ rules_in ys
rules_append [] ys = refl
rules_append (x ∷ xs) ys =
    ap (λ (more : List PortRule). option_to_list (rule_of x) ++ more) (rules_append xs ys)
    ∙ sym (append_assoc (option_to_list (rule_of x)) (rules_in xs) (rules_in ys))

reports_append : (xs ys : List (List ℕ)) → reports_in (xs ++ ys) ≡ reports_in xs ++ reports_in ys
reports_append [] ys = refl
reports_append (x ∷ xs) ys =
    ap (λ (more : List Report). option_to_list (report_of x) ++ more) (reports_append xs ys)
    ∙ sym (append_assoc (option_to_list (report_of x)) (reports_in xs) (reports_in ys))

-- one use more
next_found : {A : Type 0} (in_texts : List (List ℕ) → List A) (letter : Letter) (uses : List Use) (index : ℕ) (used : Use) (found : Option A) (old new : List A)
    → ((xs ys : List (List ℕ)) → in_texts (xs ++ ys) ≡ in_texts xs ++ in_texts ys)
    → index < length uses → used ≡ get_or uses index used → option_to_list found ≡ in_texts (value_in letter used) → new ≡ old ++ option_to_list found
    → old ++ in_texts (values_of letter (drop index uses)) ≡ in_texts (values_of letter uses)
    → new ++ in_texts (values_of letter (drop (index + 1) uses)) ≡ in_texts (values_of letter uses)
next_found {A} in_texts letter uses index used found old new appends inside is are pushed so =
    let rest : List (List ℕ) = values_of letter (drop (index + 1) uses) in
    let cut : drop index uses ≡ get_or uses index used ∷ drop (index + 1) uses = rw (add-one index) (drop-cons uses index used inside) in
    let front : drop index uses ≡ used ∷ drop (index + 1) uses = cut ∙ ap (λ (one : Use). one ∷ drop (index + 1) uses) (sym is) in
    ap (λ (all : List A). all ++ in_texts rest) pushed
    ∙ append_assoc old (option_to_list found) (in_texts rest)
    ∙ ap (λ (some : List A). old ++ (some ++ in_texts rest)) are
    ∙ ap (λ (some : List A). old ++ some) (sym (appends (value_in letter used) rest))
    ∙ ap (λ (left : List Use). old ++ in_texts (values_of letter left)) (sym front)
    ∙ so

-- behind the last use
last_found : {A : Type 0} (in_texts : List (List ℕ) → List A) (letter : Letter) (uses : List Use) (index : ℕ) (items : List A) → in_texts [] ≡ [] → length uses ≤ index
    → items ++ in_texts (values_of letter (drop index uses)) ≡ in_texts (values_of letter uses) → items ≡ in_texts (values_of letter uses)
last_found {A} in_texts letter uses index items none over so =
    sym (append-nil items)
    ∙ ap (λ (more : List A). items ++ more) (sym none)
    ∙ ap (λ (left : List Use). items ++ in_texts (values_of letter left)) (sym (drop_all index uses over))
    ∙ so

pub next_rule : (uses : List Use) (index : ℕ) (used : Use) (found : Option PortRule) (old new : List PortRule)
    → index < length uses → used ≡ get_or uses index used → option_to_list found ≡ rules_in (value_in Decode used) → new ≡ old ++ option_to_list found
    → old ++ rules_in (values_of Decode (drop index uses)) ≡ rules_in (values_of Decode uses)
    → new ++ rules_in (values_of Decode (drop (index + 1) uses)) ≡ rules_in (values_of Decode uses)
next_rule uses index used found old new = next_found rules_in Decode uses index used found old new rules_append

pub next_report : (uses : List Use) (index : ℕ) (used : Use) (found : Option Report) (old new : List Report)
    → index < length uses → used ≡ get_or uses index used → option_to_list found ≡ reports_in (value_in ReportLetter used) → new ≡ old ++ option_to_list found
    → old ++ reports_in (values_of ReportLetter (drop index uses)) ≡ reports_in (values_of ReportLetter uses)
    → new ++ reports_in (values_of ReportLetter (drop (index + 1) uses)) ≡ reports_in (values_of ReportLetter uses)
next_report uses index used found old new = next_found reports_in ReportLetter uses index used found old new reports_append

pub last_rule : (uses : List Use) (index : ℕ) (items : List PortRule) → length uses ≤ index
    → items ++ rules_in (values_of Decode (drop index uses)) ≡ rules_in (values_of Decode uses) → items ≡ rules_in (values_of Decode uses)
last_rule uses index items = last_found rules_in Decode uses index items refl

pub last_report : (uses : List Use) (index : ℕ) (items : List Report) → length uses ≤ index
    → items ++ reports_in (values_of ReportLetter (drop index uses)) ≡ reports_in (values_of ReportLetter uses) → items ≡ reports_in (values_of ReportLetter uses)
last_report uses index items = last_found reports_in ReportLetter uses index items refl
