use Rattle.std.proofs.Common.{◌∙◌, ap, sym}
use Rattle.std.proofs.lemmas.Result.{on_ok_weaker, on_err_weaker}
use Rattle.tcp_streams.proofs.KeyLemmas.{four_set, number_kept, other_set}
use Rattle.tcp_streams.proofs.newest.Newest.set.Goals as goal

pub returns-in-Some-clause-number : goal.returns-in-Some-clause-number
returns-in-Some-clause-number c = on_ok_weaker c.set_four.result
    (λ updates. four_set c.args.self.now c.set_four.new.self c.args.ends c.in-Some.four c.args.number (sym c.four_of.ensures ∙ c.in-Some.is) c.set_four.ensures.others updates) c.set_four.ensures.four

pub returns-in-None-clause-number : goal.returns-in-None-clause-number
returns-in-None-clause-number c = on_ok_weaker c.set_other.result
    (λ updates. other_set c.args.self.now c.set_other.new.self c.args.ends c.args.number (sym c.four_of.ensures ∙ c.in-None.is) c.set_other.ensures.four updates) c.set_other.ensures.others

pub returns-in-Some-clause-err : goal.returns-in-Some-clause-err
returns-in-Some-clause-err c = on_err_weaker c.set_four.result
    (λ kept. number_kept c.args.self.now c.set_four.new.self kept (ap (λ m. m.entries) c.set_four.ensures.others)) c.set_four.ensures.err

pub returns-in-None-clause-err : goal.returns-in-None-clause-err
returns-in-None-clause-err c = on_err_weaker c.set_other.result
    (λ kept. number_kept c.args.self.now c.set_other.new.self (ap (λ m. m.entries) c.set_other.ensures.four) kept) c.set_other.ensures.err
