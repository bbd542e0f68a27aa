use Rattle.std.proofs.Common.{subst, sym, ◌∙◌}
use Rattle.flt_lists.specs.Needles.{AreLengths, AreNeedles, texts_of}
use Rattle.flt_lists.proofs.InsideLemmas.{any_are}
use Rattle.flt_lists.proofs.inside.any_has.Goals as goal

pub returns : goal.returns
returns c =
    c.any_has_needle.ensures (texts_of c.args.right.now)
    (subst (AreNeedles (texts_of c.args.right.now)) (sym c.deref-3.ensures.value) c.in_ok-needles.ensures)
    (subst (AreLengths c.deref-3.result.now) (sym c.deref-2.ensures.value)
    (subst (λ keys. AreLengths keys c.in_ok-lengths.lengths.items) (c.deref.ensures.value ∙ sym c.deref-3.ensures.value) c.in_ok-lengths.ensures))
    ∙ any_are c.args.left.now c.args.right.now c.args.prefix
