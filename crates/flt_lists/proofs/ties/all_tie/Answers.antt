use Rattle.std.proofs.Common.{sym, ap, ◌∙◌, refl}
use Rattle.std.specs.Prelude.{◌&&◌}
use Rattle.std.specs.List.{list_all}
use Rattle.std.specs.Ordering.{is_eq}
use Rattle.flt_lists.proofs.KeyLemmas.{tied_joined}
use Rattle.flt_lists.specs.Keys.{key_cmp, key_of, key_shown}
use Rattle.flt_lists.proofs.ties.all_tie.Goals as goal

pub returns-then-tie_with : goal.returns-then-tie_with
returns-then-tie_with c =
    ap (λ t. t && c.tie_with-then-tie_with.result) (sym c.if-tie_with.true)
    ∙ tied_joined c.args.prefix c.args.left.now c.args.right.now (key_shown c.key_of-key.result) c.index-right-0.result c.tie_with.result c.tie_with-then-tie_with.result
    c.key_of-key.ensures c.index-right-0.is c.tie_with.ensures c.tie_with-then-tie_with.ensures c.requires.some_left c.requires.some_right

pub returns-else-tie_with : goal.returns-else-tie_with
returns-else-tie_with c =
    let rest = list_all (λ v. is_eq (key_cmp (key_of c.args.prefix v) (key_shown c.key_of-key.result))) c.args.right.now in
    c.if-tie_with.false
    ∙ (ap (λ t. t && rest) (sym c.if-tie_with.false)
    ∙ tied_joined c.args.prefix c.args.left.now c.args.right.now (key_shown c.key_of-key.result) c.index-right-0.result c.tie_with.result rest
    c.key_of-key.ensures c.index-right-0.is c.tie_with.ensures refl c.requires.some_left c.requires.some_right)
