use Rattle.std.proofs.lemmas.Result.{on_ok_weaker}
use Rattle.message_links.proofs.LinkLemmas.{answer_kept}
use Rattle.message_links.proofs.links.Links.note.Goals as goal

pub returns-in-Answer : goal.returns-in-Answer
returns-in-Answer c =
    on_ok_weaker c.raise.result
    (λ raised ns stands. rw c.in-Answer.is (record {
      queries = stands.queries;
      requests = stands.requests;
      answers = λ at. answer_kept c.args.at at c.args.frame ns _ _ _ (stands.answers c.args.at) (stands.answers at) (raised at);
    }))
    c.raise.ensures
