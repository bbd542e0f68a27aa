use Rattle.std.proofs.Common.{ap, length, refl, sym, ◌∙◌}
use Rattle.std.proofs.lemmas.Option.{slice_get_read}
use Rattle.std.specs.List.{slice_get}
use Rattle.flt_program.proofs.ListingLemmas.{near_in_program}
use Rattle.flt_program.proofs.lines.listing.Goals as goal

pub put_line-requires : goal.put_line-requires
put_line-requires c =
    let code = c.code-code.result.now in
    let there = slice_get_read code (length code) c.loop-at.at c.index-code-at.result refl c.loop-at-test.true c.index-code-at.is in
    near_in_program c.args.program.now c.loop-at.at c.index-code-at.result c.code-code.ensures.program
    (ap (λ items. slice_get items c.loop-at.at) (sym c.code-code.ensures.code) ∙ there)
