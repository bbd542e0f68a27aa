use Rattle.std.proofs.Common.{◌++◌, sym, ap, append-nil, ◌∙◌}
use Rattle.std.proofs.lemmas.Slice.Zip.{either_empty_from_Zip}
use Rattle.std.specs.Iterator.Adapters.{zip_first, zip_second}
use Rattle.std.specs.List.{filter_map}
use Rattle.std.specs.Slice.Iter.{iter_rest}
use Rattle.flt_lists.proofs.PairLemmas.{zip_ends}
use Rattle.flt_typed.specs.Arithmetic.{calculated}
use Rattle.flt_lists.proofs.pairs.in_step.Goals as goal

pub returns : goal.returns
returns c =
    let ended = either_empty_from_Zip c.loop-first.first-iterator c.next.new.self c.next.result c.in-None.is c.next.ensures.steps in
    let none = zip_ends (iter_rest (zip_first c.loop-first.first-iterator)) (iter_rest (zip_second c.loop-first.first-iterator)) ended in
    sym (append-nil c.loop-first.answers.items) ∙ (ap (λ rest. c.loop-first.answers.items ++ filter_map (λ pair. calculated c.args.operation pair.0 pair.1) rest) (sym none)
    ∙ c.loop-first.invariant)
