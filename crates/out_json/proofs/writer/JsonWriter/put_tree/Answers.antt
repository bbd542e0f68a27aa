use Rattle.std.proofs.Common.{◌≡◌, ◌++◌, ◌∙◌, codes, ap, sym, subst}
use Rattle.std.specs.Prelude.{OnOk}
use Rattle.out_json.proofs.Texts.{line_parts, line_text}
use Rattle.out_json.proofs.writer.JsonWriter.put_tree.Goals as goal

pub returns : goal.returns
returns c =
    let whole = line_parts c.args.self.now.line (codes "{\"buffers\":[") (codes ",\"layers\":[") (codes "}\n")
    c.in_ok-put_text.ensures c.buffers.ensures.buffers c.in_ok-put_buffers.ensures c.in_ok-put_text-2.ensures c.layers.ensures.layers c.in_ok-put_layers.ensures in
    subst (λ s. OnOk c.put_text-3.result (c.put_text-3.new.self ≡ s)) (whole ∙ ap (λ s. c.args.self.now.line ++ s) (sym (line_text c.args.tree.now))) c.put_text-3.ensures
