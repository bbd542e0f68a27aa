use Rattle.std.proofs.Common.{◌≡◌, ◌∙◌, sym, length}
use Rattle.std.proofs.lemmas.Result.{IfOk-weaker, on_ok_weaker}
use Rattle.message_links.specs.Conversations.{number_in}
use Rattle.message_links.proofs.NumberedLemmas.{known_new, known_there, number_new, number_there, numbered_after}
use Rattle.message_links.proofs.conversations.number_among.Goals as goal

pub returns-in-Some-clause-number : goal.returns-in-Some-clause-number
returns-in-Some-clause-number c =
    number_there c.args.all.now.items c.args.numbers.now c.args.ends c.in-Some.number c.requires.numbered (sym c.in-Some.is ∙ c.find.ensures)

pub returns-in-Some-clause-known : goal.returns-in-Some-clause-known
returns-in-Some-clause-known c =
    known_there c.args.all.now.items c.args.numbers.now c.args.ends c.in-Some.number c.requires.numbered (sym c.in-Some.is ∙ c.find.ensures)

pub returns-in-None-clause-number : goal.returns-in-None-clause-number
returns-in-None-clause-number c =
    IfOk-weaker c.add.result (λ n. n ≡ length c.args.all.now.items) (λ n. n ≡ number_in c.args.all.now.items c.args.ends)
    (λ n is. is ∙ number_new c.args.all.now.items c.args.numbers.now c.args.ends c.requires.numbered (sym c.in-None.is ∙ c.find.ensures)) c.add.ensures.number

pub returns-in-None-clause-known : goal.returns-in-None-clause-known
returns-in-None-clause-known c =
    on_ok_weaker c.add.result (λ known. known ∙ known_new c.args.all.now.items c.args.numbers.now c.args.ends c.requires.numbered (sym c.in-None.is ∙ c.find.ensures)) c.add.ensures.known

pub returns-in-None-clause-numbered : goal.returns-in-None-clause-numbered
returns-in-None-clause-numbered c =
    numbered_after c.add.result c.args.all.now.items c.add.new.all.items c.args.numbers.now c.add.new.numbers c.args.ends c.requires.numbered (sym c.in-None.is ∙ c.find.ensures)
    c.add.ensures.known c.add.ensures.set c.add.ensures.err c.add.ensures.kept
