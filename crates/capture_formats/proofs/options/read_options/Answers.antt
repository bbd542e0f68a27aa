use Rattle.std.proofs.Common.{sym, ◌∙◌, arith}
use Rattle.capture_formats.proofs.OptionList.{options-none, options-end, options-bad, options-sets}
use Rattle.capture_formats.proofs.options.read_options.Goals as goal

pub returns-in-End : goal.returns-in-End
returns-in-End c =
    sym (options-end c.args.little c.loop-rest.settings c.loop-rest.rest.now (grind arith) (sym c.in-End.ensures.value)) ∙ c.loop-rest.invariant

pub returns-in-Bad : goal.returns-in-Bad
returns-in-Bad c =
    sym (options-bad c.args.little c.loop-rest.settings c.loop-rest.rest.now (grind arith) (sym c.in-Bad.ensures.value)) ∙ c.loop-rest.invariant

pub loop-rest-preserved : goal.loop-rest-preserved
loop-rest-preserved c =
    rw (c.with-settings.ensures, c.bytes_from-rest.ensures)
    (sym (options-sets c.args.little c.loop-rest.settings c.loop-rest.rest.now c.in-Sets.setting c.in-Sets.size (sym c.in-Sets.ensures.value)
    c.in-Sets.ensures.within.0 c.in-Sets.ensures.within.1) ∙ c.loop-rest.invariant)

pub returns : goal.returns
returns c =
    sym (options-none c.args.little c.loop-rest.settings c.loop-rest.rest.now (grind arith)) ∙ c.loop-rest.invariant
