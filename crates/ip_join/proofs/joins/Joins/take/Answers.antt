use Rattle.std.proofs.Common.{ℕ, refl, ap, ◌∙◌}
use Rattle.std.proofs.lemmas.Result.{IfOk-weaker}
use Rattle.ip_join.specs.declared.fragment.Fragment.{Fragment}
use Rattle.ip_join.specs.Renumbered.{answer_renumbered}
use Rattle.ip_join.proofs.StandsLemmas.{joined_by-of_key}
use Rattle.ip_join.proofs.RenumberedLemmas.{joined_by-renumbered}
use Rattle.ip_join.proofs.joins.Joins.take.Goals as goal

pub returns-clause-isolated : goal.returns-clause-isolated
returns-clause-isolated c =
    IfOk-weaker c.take_next.result _ _ (λ j is past others stands alike. is past stands ∙ joined_by-of_key past others (record { head = c.args.head.now; frame = c.args.frame; bytes = c.args.payload.now }) alike) c.take_next.ensures.joined

pub returns-clause-renumbered : goal.returns-clause-renumbered
returns-clause-renumbered c =
    IfOk-weaker c.take_next.result _ _ (λ j is past others one other number stands alike frames.
    ap (answer_renumbered one) (is past stands)
    ∙ joined_by-renumbered one other past others (record { head = c.args.head.now; frame = c.args.frame; bytes = c.args.payload.now }) (record { head = c.args.head.now; frame = number; bytes = c.args.payload.now })
    (ap (λ (n : ℕ). let g : Fragment = record { head = c.args.head.now; frame = n; bytes = c.args.payload.now } in g) frames) refl alike) c.take_next.ensures.joined
