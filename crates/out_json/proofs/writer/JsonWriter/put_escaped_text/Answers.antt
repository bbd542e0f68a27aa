use Rattle.std.proofs.Common.{◌≡◌, ℕ, ◌≤◌, rules, sym, subst}
use Rattle.std.specs.List.{All}
use Rattle.out_lines.specs.ValueText.{shown_value}
use Rattle.out_json.proofs.Shown.{shown_without_controls}
use Rattle.out_json.proofs.writer.JsonWriter.put_escaped_text.Goals as goal

pub put_string-requires : goal.put_string-requires
put_string-requires c =
    let shown : c.text.result.now ≡ shown_value c.args.field c.args.value.now = search rules in
    subst (λ text. All (λ (byte : ℕ). 32 ≤ byte) text) (sym shown) (shown_without_controls c.args.field c.args.value.now c.requires)
