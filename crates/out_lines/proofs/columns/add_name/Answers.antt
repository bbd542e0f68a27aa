use Rattle.std.proofs.Common.{sym, ap}
use Rattle.pk_tree.specs.Values.{is_proto}
use Rattle.out_lines.proofs.PlaceLemmas.{name_added}
use Rattle.out_lines.proofs.columns.add_name.Goals as goal

pub returns-in_ok-add_text-clause-added : goal.returns-in_ok-add_text-clause-added
returns-in_ok-add_text-clause-added c = λ bytes.
    name_added c.args.style.now c.args.places.now c.args.columns.now c.args.protocol c.in-Some.place c.index-columns-place.result c.add_text.new.self c.name.result.now bytes
    c.requires.places (sym c.in-Some.ensures) c.index-columns-place.is (ap is_proto c.requires.proto) c.name.ensures.row c.in_ok-add_text.ensures
