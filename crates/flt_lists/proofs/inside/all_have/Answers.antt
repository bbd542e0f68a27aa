use Rattle.std.proofs.Common.{subst, sym, ◌∙◌}
use Rattle.flt_lists.specs.Needles.{AreNeedles, texts_of}
use Rattle.flt_lists.proofs.InsideLemmas.{all_are}
use Rattle.flt_lists.proofs.inside.all_have.Goals as goal

pub returns : goal.returns
returns c =
    c.all_stand.ensures (texts_of c.args.right.now) (subst (AreNeedles (texts_of c.args.right.now)) (sym c.deref.ensures.value) c.in_ok-needles.ensures)
    ∙ all_are c.args.left.now c.args.right.now c.args.prefix c.requires.some_left c.requires.some_right (sym c.are_bytes.ensures ∙ c.if-not-are_bytes.false)
