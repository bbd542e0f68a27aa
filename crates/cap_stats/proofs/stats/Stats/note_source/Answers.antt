use Rattle.std.proofs.Common.{arith, suc}
use Rattle.cap_stats.specs.Stands.{Stands}
use Rattle.cap_stats.proofs.FewLemmas.{few_more, few_noted}
use Rattle.cap_stats.proofs.stats.Stats.note_source.Goals as goal

pub add-noted-requires : goal.add-noted-requires
unfolding Stands
add-noted-requires c = let all = c.requires.few c.if-self.false in (all.0, all.1.1, all.2)

pub returns-then-self-clause-few : goal.returns-then-self-clause-few
returns-then-self-clause-few c = λ most has. few_more most (suc most) c.args.self.now (omega arith) has

pub returns-clause-few : goal.returns-clause-few
returns-clause-few c = λ most has.
    few_noted c.add-noted.result most c.is_err-self.result c.args.self.now c.add-noted.new.self c.args.source.now c.is_err-self.ensures.value c.if-self.false c.add-noted.ensures.short
    c.add-noted.ensures.kind c.add-noted.ensures.notes has
