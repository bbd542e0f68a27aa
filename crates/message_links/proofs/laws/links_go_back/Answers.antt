use Rattle.message_links.proofs.BackLemmas.{answers_belong, are_counted, links_by_place, others_stand_alone, responses_belong}
use Rattle.message_links.proofs.NoteBits.{notes_told}
use Rattle.message_links.proofs.ShownLemmas.{links_shown}
use Rattle.message_links.proofs.laws.links_go_back.Goals as goal

pub returns-clause-answers : goal.returns-clause-answers
returns-clause-answers c = answers_belong

pub returns-clause-responses : goal.returns-clause-responses
returns-clause-responses c = responses_belong

pub returns-clause-others : goal.returns-clause-others
returns-clause-others c = others_stand_alone

pub returns-clause-places : goal.returns-clause-places
returns-clause-places c = links_by_place

pub returns-clause-counted : goal.returns-clause-counted
returns-clause-counted c = are_counted

pub returns-clause-shown : goal.returns-clause-shown
returns-clause-shown c = links_shown

pub returns-clause-notes : goal.returns-clause-notes
returns-clause-notes c = notes_told
