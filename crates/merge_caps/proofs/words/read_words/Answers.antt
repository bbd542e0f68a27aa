use Rattle.merge_caps.specs.Words.{heard, heard_from, nothing_heard}
use Rattle.shark_words.specs.Words.{texts}
use Rattle.merge_caps.proofs.WordSteps.{words_further, words_refused}
use Rattle.merge_caps.proofs.words.read_words.Goals as goal

pub returns-in-Err : goal.returns-in-Err
returns-in-Err c =
    words_refused c.args.words.now c.loop-before.before c.index-words-before.result (heard c.loop-before.heard) (heard c.take_word.new.heard) c.in-Err.error c.as_str.result.now
    c.loop-before-test.true c.index-words-before.is c.as_str.ensures.value c.loop-before.invariant c.in-Err.ensures

pub loop-before-preserved : goal.loop-before-preserved
loop-before-preserved c =
    words_further c.args.words.now c.loop-before.before c.index-words-before.result (heard c.loop-before.heard) (heard c.take_word.new.heard)
    (heard_from 0 nothing_heard (texts c.args.words.now)) c.as_str.result.now
    c.loop-before-test.true c.index-words-before.is c.as_str.ensures.value c.loop-before.invariant c.in-Ok.ensures
