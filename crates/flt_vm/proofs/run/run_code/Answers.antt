use Rattle.std.proofs.Common.{◌+◌, ◌∙◌, ℕ, List, false, arith, refl, subst, sym}
use Rattle.flt_vm.proofs.RunLemmas.{leads_both, run_ends, run_on, way_there}
use Rattle.flt_vm.specs.Machine.{Job, step}
use Rattle.flt_program.specs.Programs.{IsProgram}
use Rattle.flt_vm.specs.Slots.{IsThere, state_in}
use Rattle.flt_vm.specs.Turns.{IsMade, IsTurn}
use Rattle.flt_vm.specs.declared.slots.Flag.TheVariants.{Known}
use Rattle.flt_vm.proofs.run.run_code.Goals as goal

pub turn_at-requires-clause-program : goal.turn_at-requires-clause-program
turn_at-requires-clause-program c =
    subst (λ n. IsProgram (record { registers = n; items = c.args.code.now })) (sym (c.test_at.ensures.count ∙ c.steps.invariant.count)) c.requires.program

pub turn_at-requires-clause-there : goal.turn_at-requires-clause-there
turn_at-requires-clause-there c = λ known.
    let code = c.args.code.now in
    let tree = c.args.source.now in
    let job : Job = record { code = code; patterns = c.args.searches.now; tree = tree } in
    let first = state_in tree 0 (Known false) c.args.slots.now in
    let now = state_in tree (c.steps.at + c.in_ok-taken.taken) c.test_at.new.flag c.test_at.new.slots in
    let way = leads_both job first (state_in tree c.steps.at c.steps.flag c.steps.slots) now c.steps.steps c.in_ok-taken.taken (c.steps.steps + c.in_ok-taken.taken) c.steps.invariant.way (c.in_ok-taken.ensures.leads job refl refl) refl in
    subst (λ (ps : List (List ℕ)). IsThere (step (record { code = code; patterns = ps; tree = tree }) now)) (sym c.steps.invariant.searches)
    (way_there job first now (c.steps.steps + c.in_ok-taken.taken) (c.requires.run known) way)

pub steps-preserved : goal.steps-preserved
steps-preserved c =
    let code = c.args.code.now in
    let tree = c.args.source.now in
    let job : Job = record { code = code; patterns = c.args.searches.now; tree = tree } in
    let steps = c.steps.steps + c.in_ok-taken.taken in
    let first = state_in tree 0 (Known false) c.args.slots.now in
    let now = state_in tree (c.steps.at + c.in_ok-taken.taken) c.test_at.new.flag c.test_at.new.slots in
    let next = state_in tree c.in-Goes.place c.turn_at.new.flag c.turn_at.new.slots in
    let way = leads_both job first (state_in tree c.steps.at c.steps.flag c.steps.slots) now c.steps.steps c.in_ok-taken.taken steps c.steps.invariant.way (c.in_ok-taken.ensures.leads job refl refl) refl in
    let ahead = rw c.in-Goes.is at c.in_ok-turn.ensures.ahead in
    let there = λ (place : ℕ). state_in tree place c.turn_at.new.flag c.turn_at.new.slots in
    let turned : IsTurn (step job now) there c.in_ok-turn.turn = subst (λ (ps : List (List ℕ)). IsTurn (step (record { code = code; patterns = ps; tree = tree }) now) there c.in_ok-turn.turn) c.steps.invariant.searches c.in_ok-turn.ensures.turned in
    let does = rw c.in-Goes.is at turned in
    record {
      inside = ahead.1;
      few = omega (arith, c.steps.invariant.few, ahead.0);
      count = c.turn_at.ensures.count ∙ c.test_at.ensures.count ∙ c.steps.invariant.count;
      searches = c.turn_at.ensures.searches ∙ c.steps.invariant.searches;
      way = run_on job first now next steps (steps + 1) way does refl;
    }

pub returns-in-Ends : goal.returns-in-Ends
returns-in-Ends c =
    let code = c.args.code.now in
    let tree = c.args.source.now in
    let job : Job = record { code = code; patterns = c.args.searches.now; tree = tree } in
    let steps = c.steps.steps + c.in_ok-taken.taken in
    let first = state_in tree 0 (Known false) c.args.slots.now in
    let now = state_in tree (c.steps.at + c.in_ok-taken.taken) c.test_at.new.flag c.test_at.new.slots in
    let way = leads_both job first (state_in tree c.steps.at c.steps.flag c.steps.slots) now c.steps.steps c.in_ok-taken.taken steps c.steps.invariant.way (c.in_ok-taken.ensures.leads job refl refl) refl in
    let there = λ (place : ℕ). state_in tree place c.turn_at.new.flag c.turn_at.new.slots in
    let turned : IsTurn (step job now) there c.in_ok-turn.turn = subst (λ (ps : List (List ℕ)). IsTurn (step (record { code = code; patterns = ps; tree = tree }) now) there c.in_ok-turn.turn) c.steps.invariant.searches c.in_ok-turn.ensures.turned in
    let does = rw c.in-Ends.is at turned in
    record {
      verdict = run_ends job first now c.in-Ends.holds steps (steps + 1) way does refl;
      few = omega (arith, c.steps.invariant.few, c.in_ok-taken.ensures.inside);
      some = omega arith;
      answers = λ run. refl;
      count = c.turn_at.ensures.count ∙ c.test_at.ensures.count ∙ c.steps.invariant.count;
      searches = c.turn_at.ensures.searches ∙ c.steps.invariant.searches;
    }

pub returns-in-Stuck-clause-answers : goal.returns-in-Stuck-clause-answers
returns-in-Stuck-clause-answers c = λ run.
    let code = c.args.code.now in
    let tree = c.args.source.now in
    let job : Job = record { code = code; patterns = c.args.searches.now; tree = tree } in
    let first = state_in tree 0 (Known false) c.args.slots.now in
    let now = state_in tree (c.steps.at + c.in_ok-taken.taken) c.test_at.new.flag c.test_at.new.slots in
    let way = leads_both job first (state_in tree c.steps.at c.steps.flag c.steps.slots) now c.steps.steps c.in_ok-taken.taken (c.steps.steps + c.in_ok-taken.taken) c.steps.invariant.way (c.in_ok-taken.ensures.leads job refl refl) refl in
    let there = subst (λ (ps : List (List ℕ)). IsThere (step (record { code = code; patterns = ps; tree = tree }) now)) (sym c.steps.invariant.searches)
    (way_there job first now (c.steps.steps + c.in_ok-taken.taken) run way) in
    let made : IsMade c.in_ok-turn.turn = c.in_ok-turn.ensures.made there in
    absurd (subst (λ t. IsMade t) c.in-Stuck.is made)
