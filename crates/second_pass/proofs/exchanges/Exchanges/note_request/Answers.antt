use Rattle.std.proofs.Common.{refl}
use Rattle.second_pass.proofs.MessageLemmas.{both_ok, request_noted}
use Rattle.second_pass.proofs.exchanges.Exchanges.note_request.Goals as goal

pub returns : goal.returns
returns c =
    both_ok c.note.result c.note.ensures.asked c.note.ensures.places (λ asked places ms has.
    request_noted ms c.args.message c.find-number.result (record { place = c.in_ok-place.place; nth = c.args.message.nth }) c.args.self.now
    (record { requests_sent = c.raise.new.self; responses_sent = c.args.self.now.responses_sent; requests = c.note.new.self; replies = c.args.self.now.replies })
    c.requires c.find-number.ensures refl c.in_ok-place.ensures.place c.in_ok-place.ensures.stay asked places c.in_ok-place.ensures.counts refl refl has)
