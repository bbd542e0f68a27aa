use Rattle.shark_words.proofs.FoundLemmas.{last_report, next_report}
use Rattle.shark_words.proofs.asked.reports_of.Goals as goal

pub loop-used-preserved : goal.loop-used-preserved
loop-used-preserved c =
    next_report c.args.uses.now c.loop-used.used-index c.used-item.result c.report_in.result c.loop-used.reports.items c.push_found.new.all.items
    c.loop-used-test.true c.used-item.is c.report_in.ensures c.in_ok-push_found.ensures c.loop-used.invariant

pub returns : goal.returns
returns c = last_report c.args.uses.now c.loop-used.used-index c.loop-used.reports.items c.loop-used-test.false c.loop-used.invariant
