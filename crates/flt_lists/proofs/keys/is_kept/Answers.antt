use Rattle.std.proofs.Common.{◌∙◌}
use Rattle.flt_lists.proofs.KeyLemmas.{key_found}
use Rattle.flt_lists.proofs.keys.is_kept.Goals as goal

pub returns : goal.returns
returns c =
    c.is_ok.ensures.value
    ∙ key_found c.args.keys.now c.args.key.now c.binary_search.result c.requires c.binary_search.ensures.bound c.binary_search.ensures.position
