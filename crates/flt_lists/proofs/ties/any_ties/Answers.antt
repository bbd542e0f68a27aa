use Rattle.std.proofs.Common.{ap, ◌∙◌}
use Rattle.std.specs.List.{list_any}
use Rattle.std.specs.Ordering.{is_eq}
use Rattle.flt_lists.proofs.KeyLemmas.{any_tied}
use Rattle.flt_lists.specs.Keys.{key_cmp, key_of, key_shown}
use Rattle.flt_lists.proofs.ties.any_ties.Goals as goal

pub returns : goal.returns
returns c =
    c.any_is_kept.ensures
    ∙ (ap (λ keys. list_any (λ v. list_any (λ k. is_eq (key_cmp (key_of c.args.prefix v) (key_shown k))) keys) c.args.left.now) c.deref.ensures.value
    ∙ any_tied c.args.prefix c.args.left.now c.args.right.now c.in_ok-keys.keys.items c.in_ok-keys.ensures.same)
