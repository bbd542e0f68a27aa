-- The rules for ports that options without a fault give: each fits, and no port of a transport stands twice.
use Rattle.std.proofs.Common.{◌≡◌, ◌≤◌, ◌+◌, ℕ, suc, Bool, true, false, List, [], ◌∷◌, ◌++◌, Option, None, Some, refl, sym, ap, subst, arith, if◌then◌else◌}
use Rattle.std.specs.Prelude.{IfSome, IsTrue, All, option_and_then, option_map, option_to_list, take, drop}
use Rattle.std.specs.List.{AllByRecursion as Each, IsDistinct}
use Rattle.std.proofs.lemmas.Bool.{both_ways}
use Rattle.std.proofs.lemmas.Option.{none-some, same_Some}
use Rattle.std.proofs.lemmas.List.Elements.{All-nil, All-cons}
use Rattle.std.proofs.lemmas.Map.Keys.{IsDistinct-cons}
use Rattle.pk_fields.specs.declared.apps.App.{App}
use Rattle.pk_fields.specs.declared.rules.PortRule.{PortRule}
use Rattle.pk_fields.specs.Apps.{app_fits, app_named}
use Rattle.pk_fields.specs.Rules.{AreRules, same_port}
use Rattle.shark_words.specs.declared.letter.Letter.{Letter}
use Rattle.shark_words.specs.declared.letter.Letter.TheVariants.{Decode}
use Rattle.shark_words.specs.declared.port.Port.{Port}
use Rattle.shark_words.specs.declared.slot.Slot.{Slot}
use Rattle.shark_words.specs.declared.slot.Slot.TheVariants as slots
use Rattle.shark_words.specs.Letters.{is_same}
use Rattle.shark_words.specs.Numbers.{comma_in}
use Rattle.shark_words.specs.Ports.{app_of, carried, is_same_port, port, port_in, port_of, rule, rule_at, rule_by, rule_of, rules_in}
use Rattle.shark_words.specs.Slots.{is_slot, slot_of}
use Rattle.shark_words.specs.Spelled.{Written, one_if, text_or_none, times, values_in}
use Rattle.shark_words.proofs.SlotLemmas.{same_letter, slot_itself}

-- a rule's application fits its transport
abbrev Fits : PortRule → Type 0
Fits one = IsTrue (app_fits one.tcp one.app)

fit_by : (one : Port) (app : App) (fits : Bool) → app_fits one.tcp app ≡ fits → IfSome (option_map (rule one) (if fits then Some app else None)) Fits
fit_by one app true is = is
fit_by one app false is = tt

named_fits : (one : Port) (named : Option App) → IfSome (option_map (rule one) (option_and_then (carried one.tcp) named)) Fits
named_fits one None = tt
named_fits one (Some app) = fit_by one app (app_fits one.tcp app) refl

found_fits : (found : Option Port) (name : List ℕ) → IfSome (rule_by found name) Fits
found_fits None name = tt
found_fits (Some one) name = named_fits one (app_named name)

placed_fits : (text : List ℕ) (comma : Option ℕ) → IfSome (rule_at text comma) Fits
placed_fits text None = tt
placed_fits text (Some comma) = found_fits (port_of (take comma text)) (drop (suc comma) text)

rule_fits : (text : List ℕ) → IfSome (rule_of text) Fits
unfolding rule_of
rule_fits text = placed_fits text (comma_in text)

one_more_fits : (found : Option PortRule) (rules : List PortRule) → IfSome found Fits → All Fits rules → All Fits (option_to_list found ++ rules)
one_more_fits None rules fits all = all
one_more_fits (Some one) rules fits all = All-cons Fits one rules fits all

rules_fit : (texts : List (List ℕ)) → All Fits (rules_in texts)
rules_fit [] = All-nil Fits
rules_fit (text ∷ texts) = one_more_fits (rule_of text) (rules_in texts) (rule_fits text) (rules_fit texts)

-- a rule has the port that its text begins with
abbrev port_ruled : PortRule → Port
port_ruled one = port one.tcp one.port

named_port : (one : Port) (app : Option App) (found : PortRule) → option_map (rule one) app ≡ Some found → one ≡ port_ruled found
named_port one None found h = absurd (none-some found h)
named_port one (Some app) found h = ap port_ruled (same_Some (rule one app) found h)

found_port : (read : Option Port) (name : List ℕ) (found : PortRule) → rule_by read name ≡ Some found → read ≡ Some (port_ruled found)
found_port None name found h = absurd (none-some found h)
found_port (Some one) name found h = ap (λ (p : Port). Some p) (named_port one (app_of one.tcp name) found h)

placed_port : (text : List ℕ) (comma : Option ℕ) (found : PortRule) → comma_in text ≡ comma → rule_at text comma ≡ Some found → port_in text ≡ Some (port_ruled found)
unfolding port_in
placed_port text None found at h = absurd (none-some found h)
placed_port text (Some comma) found at h = rw at (found_port (port_of (take comma text)) (drop (suc comma) text) found h)

rule_port : (text : List ℕ) (found : PortRule) → rule_of text ≡ Some found → port_in text ≡ Some (port_ruled found)
unfolding rule_of
rule_port text found h = placed_port text (comma_in text) found refl h

-- rules for other ports
abbrev Differs : Port → PortRule → Type 0
Differs one other = is_same_port one (port_ruled other) ≡ false

none_counted : (same : Bool) → one_if same ≤ 0 → same ≡ false
none_counted true h = absurd (omega (arith, h))
none_counted false h = refl

differs_more : (one : Port) (text : List ℕ) (found : Option PortRule) (rules : List PortRule) → rule_of text ≡ found
    → one_if (is_slot (slots.Port one) (option_map slots.Port (port_in text))) ≤ 0 → Each (Differs one) rules → Each (Differs one) (option_to_list found ++ rules)
differs_more one text None rules is none others = others
differs_more one text (Some found) rules is none others = (
  none_counted (is_same_port one (port_ruled found))
      (subst (λ (p : Option Port). one_if (is_slot (slots.Port one) (option_map slots.Port p)) ≤ 0) (rule_port text found is) none),
  others,
)

differs_at : (one : Port) (same : Bool) (letter : Letter) (text : Option (List ℕ)) (texts : List (List ℕ)) → is_same Decode letter ≡ same
    → one_if (is_slot (slots.Port one) (slot_of letter (text_or_none text))) ≤ 0 → Each (Differs one) (rules_in texts)
    → Each (Differs one) (rules_in ((if same then option_to_list text else []) ++ texts))
differs_at one false letter text texts is none others = others
differs_at one true letter None texts is none others = others
differs_at one true letter (Some text) texts is none others =
    differs_more one text (rule_of text) (rules_in texts) refl
    (subst (λ (l : Letter). one_if (is_slot (slots.Port one) (slot_of l text)) ≤ 0) (sym (same_letter Decode letter is)) none) others

-- a port that doesn't come again
differs : (one : Port) (all : List Written) → times (slots.Port one) all ≤ 0 → Each (Differs one) (rules_in (values_in Decode all))
differs one [] none = tt
differs one (next ∷ all) none =
    differs_at one (is_same Decode next.letter) next.letter next.text (values_in Decode all) refl
    (omega (arith, none)) (differs one all (omega (arith, none)))

no_more : (same : Bool) (n : ℕ) → same ≡ true → one_if same + n ≤ 1 → n ≤ 0
no_more true n is h = omega (arith, h)
no_more false n is h = absurd (both_ways false refl is)

abbrev Once : Letter → Option (List ℕ) → List Written → Type 0
Once letter text all = (slot : Slot) → one_if (is_slot slot (slot_of letter (text_or_none text))) + times slot all ≤ 1

distinct_more : (text : List ℕ) (found : Option PortRule) (all : List Written) → rule_of text ≡ found → Once Decode (Some text) all
    → IsDistinct same_port (rules_in (values_in Decode all)) → IsDistinct same_port (option_to_list found ++ rules_in (values_in Decode all))
distinct_more text None all is once others = others
distinct_more text (Some found) all is once others =
    let slot : Slot = slots.Port (port_ruled found) in
    let counted : one_if (is_slot slot (Some slot)) + times slot all ≤ 1
    = subst (λ (p : Option Port). one_if (is_slot slot (option_map slots.Port p)) + times slot all ≤ 1) (rule_port text found is) (once slot) in
    IsDistinct-cons same_port found (rules_in (values_in Decode all))
    (differs (port_ruled found) all (no_more (is_slot slot (Some slot)) (times slot all) (slot_itself slot) counted)) others

distinct_at : (same : Bool) (letter : Letter) (text : Option (List ℕ)) (all : List Written) → is_same Decode letter ≡ same → Once letter text all
    → IsDistinct same_port (rules_in (values_in Decode all))
    → IsDistinct same_port (rules_in ((if same then option_to_list text else []) ++ values_in Decode all))
distinct_at false letter text all is once others = others
distinct_at true letter None all is once others = others
distinct_at true letter (Some text) all is once others =
    distinct_more text (rule_of text) all refl (subst (λ (l : Letter). Once l (Some text) all) (sym (same_letter Decode letter is)) once) others

rules_distinct : (all : List Written) → ((slot : Slot) → times slot all ≤ 1) → IsDistinct same_port (rules_in (values_in Decode all))
unfolding IsDistinct
rules_distinct [] once = tt
rules_distinct (one ∷ all) once =
    distinct_at (is_same Decode one.letter) one.letter one.text all refl once
    (rules_distinct all (λ slot. omega (arith, once slot)))

pub rules_written : (all : List Written) → ((slot : Slot) → times slot all ≤ 1) → AreRules (rules_in (values_in Decode all))
rules_written all once = record { fit = rules_fit (values_in Decode all); once = rules_distinct all once }
