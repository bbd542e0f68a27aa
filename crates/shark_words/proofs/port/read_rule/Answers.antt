use Rattle.std.proofs.Common.{◌≡◌, ◌+◌, ◌∙◌, ℕ, suc, List, Option, Some, ap, drop, length-drop, take, arith, rules}
use Rattle.std.proofs.lemmas.List.{take_all}
use Rattle.pk_fields.specs.declared.rules.PortRule.{PortRule}
use Rattle.shark_words.specs.declared.port.Port.{Port}
use Rattle.shark_words.specs.Numbers.{comma_in}
use Rattle.shark_words.specs.Ports.{port_of, rule_by, rule_of}
use Rattle.shark_words.proofs.port.read_rule.Goals as goal

ruled : (text name : List ℕ) (comma : ℕ) (port : Option Port) (found : Option PortRule) → comma_in text ≡ Some comma → port ≡ port_of (take comma text)
    → found ≡ rule_by port name → name ≡ drop (comma + 1) text → found ≡ rule_of text
unfolding rule_of
ruled text name comma port found at is by rest =
    let next : comma + 1 ≡ suc comma = omega arith in
    rw at (by ∙ ap (λ (p : Option Port). rule_by p name) is ∙ ap (rule_by (port_of (take comma text))) (rest ∙ ap (λ (n : ℕ). drop n text) next))

pub returns : goal.returns
returns c =
    ruled c.args.text.now _ c.in_ok-comma.comma c.read_port.result c.rule_by.result (search rules) c.read_port.ensures c.rule_by.ensures
    (take_all _ _ (omega (arith, length-drop (c.in_ok-comma.comma + 1) c.args.text.now)))
