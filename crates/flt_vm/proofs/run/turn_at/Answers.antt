use Rattle.std.proofs.Common.{◌∙◌, length, refl, sym}
use Rattle.std.proofs.lemmas.Bool.{both_ways}
use Rattle.std.proofs.lemmas.Option.{slice_get_read}
use Rattle.flt_vm.proofs.GivenLemmas.{is_given}
use Rattle.flt_vm.proofs.RunLemmas.{return_ends, step_at, by_looks, there_at}
use Rattle.flt_vm.specs.Machine.{Job, Goes, Ends}
use Rattle.flt_vm.specs.Slots.{state_in}
use Rattle.flt_vm.proofs.run.turn_at.Goals as goal

pub step-requires-clause-fits : goal.step-requires-clause-fits
step-requires-clause-fits c =
    let code = c.args.code.now in
    let there = slice_get_read code (length code) c.args.at c.index-code-at.result refl c.requires.inside c.index-code-at.is in
    c.requires.program.fits c.args.at c.index-code-at.result there

pub step-requires-clause-given : goal.step-requires-clause-given
step-requires-clause-given c =
    let code = c.args.code.now in
    let tree = c.args.source.now in
    let job : Job = record { code = code; patterns = c.args.searches.now; tree = tree } in
    let there = slice_get_read code (length code) c.args.at c.index-code-at.result refl c.requires.inside c.index-code-at.is in
    let now = state_in tree c.args.at c.args.flag.now c.args.slots.now in
    by_looks c.args.looks _ (λ looks. c.in_ok-is_given.ensures.given c.if-not-branch.false looks c.args.searches.now refl)
    (λ known. is_given job tree c.args.at c.args.flag.now c.args.slots.now c.index-code-at.result (there_at job now c.index-code-at.result there (c.requires.there known)))

pub returns-then-is_return : goal.returns-then-is_return
returns-then-is_return c =
    let code = c.args.code.now in
    let tree = c.args.source.now in
    let job : Job = record { code = code; patterns = c.args.searches.now; tree = tree } in
    let there = slice_get_read code (length code) c.args.at c.index-code-at.result refl c.requires.inside c.index-code-at.is in
    let now = state_in tree c.args.at c.args.flag.now c.args.slots.now in
    record {
      turned = step_at job now c.index-code-at.result (Ends c.known.result) there
          (return_ends job now c.index-code-at.result c.known.result (sym c.is_return.ensures ∙ c.if-is_return.true) c.known.ensures);
      ahead = tt;
      made = λ there_is. tt;
      count = refl;
      searches = refl;
    }

pub returns : goal.returns
returns c =
    let code = c.args.code.now in
    let tree = c.args.source.now in
    let job : Job = record { code = code; patterns = c.args.searches.now; tree = tree } in
    let there = slice_get_read code (length code) c.args.at c.index-code-at.result refl c.requires.inside c.index-code-at.is in
    let now = state_in tree c.args.at c.args.flag.now c.args.slots.now in
    let next = state_in tree c.in_ok-place.place c.step.new.flag c.step.new.slots in
    record {
      turned = step_at job now c.index-code-at.result (Goes next) there (c.in_ok-place.ensures.moves job refl refl);
      ahead = c.in_ok-place.ensures.ahead;
      made = λ there_is. tt;
      count = c.step.ensures.count;
      searches = c.step.ensures.searches;
    }

pub returns-then-not-branch-clause-made : goal.returns-then-not-branch-clause-made
returns-then-not-branch-clause-made c = λ there_is.
    let code = c.args.code.now in
    let tree = c.args.source.now in
    let job : Job = record { code = code; patterns = c.args.searches.now; tree = tree } in
    let there = slice_get_read code (length code) c.args.at c.index-code-at.result refl c.requires.inside c.index-code-at.is in
    let now = state_in tree c.args.at c.args.flag.now c.args.slots.now in
    let given = is_given job tree c.args.at c.args.flag.now c.args.slots.now c.index-code-at.result (there_at job now c.index-code-at.result there there_is) in
    both_ways _ c.if-not-branch.true (c.in_ok-is_given.ensures.found c.args.searches.now refl given)
