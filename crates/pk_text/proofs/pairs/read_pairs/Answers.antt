use Rattle.std.proofs.Common.{rules, arith}
use Rattle.pk_text.proofs.PairsLemmas.{pairs_step, pairs_stop, pairs_done, pairs_left}
use Rattle.pk_text.proofs.pairs.read_pairs.Goals as goal

pub returns-in_err-value-clause-none : goal.returns-in_err-value-clause-none
returns-in_err-value-clause-none c =
    let loop = c.loop-byte in
    let stop = pairs_stop _ loop.bytes _ loop.byte-index loop.before c.args.separator loop.rest.now loop.invariant (omega arith) (search rules) in
    search rules

pub loop-byte-preserved : goal.loop-byte-preserved
loop-byte-preserved c =
    let loop = c.loop-byte in
    pairs_step _ loop.bytes _ loop.byte-index loop.before c.args.separator loop.rest.now c.in_ok-value.after.now c.in_ok-value.value loop.invariant (omega arith) (omega arith) (search rules)

pub returns-then-is_empty-clause-read : goal.returns-then-is_empty-clause-read
returns-then-is_empty-clause-read c =
    let loop = c.loop-byte in
    pairs_done _ loop.bytes _ loop.byte-index loop.before c.args.separator loop.rest.now loop.invariant (omega arith) (omega arith) (search rules)

pub returns-else-is_empty-clause-none : goal.returns-else-is_empty-clause-none
returns-else-is_empty-clause-none c =
    let loop = c.loop-byte in
    pairs_left _ loop.bytes _ loop.byte-index loop.before c.args.separator loop.rest.now loop.invariant (omega arith) (search rules)
