use Rattle.shark_words.specs.Words.{texts}
use Rattle.shark_words.proofs.Commands.{answered_found, answered_only}
use Rattle.shark_words.proofs.SoundLemmas.{answered_sound}
use Rattle.shark_words.proofs.Utf8Lemmas.{answered_are_utf8}
use Rattle.shark_words.proofs.read.read_words.Goals as goal

pub returns-clause-computed : goal.returns-clause-computed
returns-clause-computed c = c.options_in.ensures

pub returns-clause-found : goal.returns-clause-found
returns-clause-found c = answered_found (texts c.args.words.now) c.options_in.result c.options_in.ensures

pub returns-clause-only : goal.returns-clause-only
returns-clause-only c = answered_only (texts c.args.words.now) c.options_in.result c.options_in.ensures

pub returns-clause-sound : goal.returns-clause-sound
returns-clause-sound c =
    answered_sound (texts c.args.words.now) c.options_in.result (answered_only (texts c.args.words.now) c.options_in.result c.options_in.ensures)

pub returns-clause-utf8 : goal.returns-clause-utf8
returns-clause-utf8 c = answered_are_utf8 c.args.words.now c.options_in.result c.options_in.ensures
