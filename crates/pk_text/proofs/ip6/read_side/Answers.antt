use Rattle.std.proofs.Common.{rules, lit<}
use Rattle.std.proofs.lemmas.Iterator.Splits.{YieldsList-from_str_split}
use Rattle.std.proofs.lemmas.Iterator.Consumers.{YieldsList-turn, YieldsList-end}
use Rattle.std.proofs.lemmas.List.{length_push}
use Rattle.pk_text.proofs.Ip6Lemmas.{side_step, side_stop, side_done}
use Rattle.pk_text.proofs.ip6.read_side.Goals as goal

pub loop-word-preserved : goal.loop-word-preserved
loop-word-preserved c =
    let loop = c.loop-word in
    let turn = YieldsList-turn (YieldsList-from_str_split 58 c.args.text.now (lit< tt) (cc) (cc) (cc)) loop.yielded _ loop.yielded_by _ _ c.in-Some.word c.in-Some.is c.next.ensures.steps in
    record {
      count = c.in_ok-side.ensures.count;
      below = c.in_ok-side.ensures.below;
      front = side_step c.args.text.now (loop.side.count, loop.side.number) _ c.in-Some.word.now (c.in_ok-side.side.count, c.in_ok-side.side.number) _ loop.invariant.front turn c.in_ok-side.ensures.value (length_push loop.yielded c.in-Some.word);
    }

pub returns-in_err-side-clause-value : goal.returns-in_err-side-clause-value
returns-in_err-side-clause-value c =
    let loop = c.loop-word in
    let turn = YieldsList-turn (YieldsList-from_str_split 58 c.args.text.now (lit< tt) (cc) (cc) (cc)) loop.yielded _ loop.yielded_by _ _ c.in-Some.word c.in-Some.is c.next.ensures.steps in
    let none = side_stop c.args.text.now (loop.side.count, loop.side.number) _ c.in-Some.word.now loop.invariant.front turn (search rules) (search rules) in
    search rules

pub returns-clause-value : goal.returns-clause-value
returns-clause-value c =
    let loop = c.loop-word in
    let ends = YieldsList-end (YieldsList-from_str_split 58 c.args.text.now (lit< tt) (cc) (cc) (cc)) loop.yielded _ loop.yielded_by _ _ c.in-None.is c.next.ensures.steps in
    let done = side_done c.args.text.now (loop.side.count, loop.side.number) _ loop.invariant.front ends.1 (search rules) in
    search rules
