use Rattle.std.proofs.Common.{◌≡◌, [], ◌∷◌, ◌++◌, arith, sym, ap, ◌∙◌}
use Rattle.std.proofs.lemmas.Grind.{common_steps}
use Rattle.out_lines.specs.ValueText.{shown_value}
use Rattle.out_json.proofs.Texts.{bare_string}
use Rattle.out_json.proofs.writer.put_bare_text.Goals as goal

pub returns : goal.returns
returns c =
    let written : c.put_byte-2.new.self ≡ c.args.line.now ++ (34 ∷ (shown_value c.args.field c.args.value.now ++ 34 ∷ [])) = grind (arith, common_steps) in
    written ∙ ap (λ s. c.args.line.now ++ s) (sym (bare_string c.args.field c.args.value.now c.requires))
