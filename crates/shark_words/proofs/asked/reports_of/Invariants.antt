use Rattle.std.proofs.Common.{◌≡◌, ◌++◌, drop}
use Rattle.shark_words.specs.declared.letter.Letter.TheVariants.{Report}
use Rattle.shark_words.specs.Asked.{values_of}
use Rattle.shark_words.specs.Reports.{reports_in}
use Rattle.shark_words.proofs.asked.reports_of.Given as goal

abbrev pub invariant-loop-used : goal.invariant-loop-used
invariant-loop-used l = l.reports.items ++ reports_in (values_of Report (drop l.used-index l.uses)) ≡ reports_in (values_of Report l.uses)
