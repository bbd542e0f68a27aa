use Rattle.second_pass.proofs.MessageLemmas.{response_noted}
use Rattle.second_pass.proofs.exchanges.Exchanges.note_response.Goals as goal

pub returns : goal.returns
returns c = λ ms has.
    response_noted ms c.args.message c.args.link c.answered-request.result c.args.self.now c.raise.new.self c.note_answered.new.self
    c.requires (c.answered-request.ensures ms has) c.in_ok-raise.ensures.counts c.in_ok-note_answered.ensures has
