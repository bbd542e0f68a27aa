use Rattle.std.proofs.Common.{sym, ◌∙◌}
use Rattle.std.proofs.lemmas.Result.{on_ok_weaker}
use Rattle.out_lines.proofs.PlaceLemmas.{item_added}
use Rattle.out_lines.proofs.columns.add_item.Goals as goal

pub returns-clause-added : goal.returns-clause-added
returns-clause-added c =
    on_ok_weaker c.add_value.result (λ wrote. item_added c.args.style.now c.args.places.now c.args.columns.now c.args.item.now c.in-Some.place c.index-columns-place.result c.add_value.new.self
    c.requires.places (sym c.in-Some.ensures) c.index-columns-place.is (sym c.is_protocol.ensures ∙ c.if-is_protocol.false) wrote) c.add_value.ensures
