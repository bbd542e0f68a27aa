use Rattle.std.proofs.Common.{◌≡◌, ℕ, ◌+◌, List, [], refl, ap, ◌∙◌, arith, rules}
use Rattle.std.specs.Prelude.{slice_range}
use Rattle.std.proofs.Math.Facts.{Fits-lt-pow}
use Rattle.dis_dns.specs.declared.names.Turn.TheVariants.{Over}
use Rattle.dis_dns.specs.declared.names.NameEnd.{NameEnd}
use Rattle.dis_dns.specs.declared.names.Walk.{Walk}
use Rattle.dis_dns.specs.Names.{dotted, name_at, turn_of}
use Rattle.dis_dns.proofs.NameLemmas.{walked_on}
use Rattle.dis_dns.proofs.ChainLemmas.{ReadsOn, reads_label, reads_jump, target_listed}
use Rattle.dis_dns.proofs.names.read_name.Goals.{in-Label+in_ok-push_label-in-Label, in-Jump}
use Rattle.dis_dns.proofs.names.read_name.Goals as goal

pub loop-turn-init : goal.loop-turn-init
unfolding name_at
loop-turn-init c = (
  [],
  (record {
    goes = refl;
    fits = search rules;
    most = omega arith;
    fewer = λ _ _. omega arith;
  }),
  (λ _. c.requires.none),
)

pub at_chain_end-walk-requires : goal.at_chain_end-walk-requires
at_chain_end-walk-requires c =
    target_listed c.args.bytes.now c.args.chain_ends.now c.args.place c.loop-turn._turn c.loop-turn.walk c.in-Jump.next c.loop-turn.invariant.0 _ c.requires.chains (λ k. Fits-lt-pow (c.type_inv.bytes k)) c.loop-turn.invariant.1 c.in-Jump.ensures.turn

-- how the name ends, and the text of its labels
ended : (bytes : List ℕ) (first turn : ℕ) (w : Walk) (text : List ℕ) (end : NameEnd) (whole : NameEnd × List ℕ) → ReadsOn bytes first turn w text whole → Over end ≡ turn_of bytes w → (end, text) ≡ whole
ended bytes first turn w text end whole on is = walked_on bytes w text (Over end) whole on.fits.short is on.goes

pub returns-in-Over-clause-value : goal.returns-in-Over-clause-value
returns-in-Over-clause-value c =
    ap (λ (read : NameEnd × List ℕ). read.0) (ended c.args.bytes.now c.args.place c.loop-turn._turn c.loop-turn.walk c.loop-turn.invariant.0 c.in-Over.name _ c.loop-turn.invariant.1 c.in-Over.ensures.turn)

pub returns-in-Over-clause-text : goal.returns-in-Over-clause-text
returns-in-Over-clause-text c shown =
    c.loop-turn.invariant.2 shown ∙ ap (λ (read : NameEnd × List ℕ). read.1) (ended c.args.bytes.now c.args.place c.loop-turn._turn c.loop-turn.walk c.loop-turn.invariant.0 c.in-Over.name _ c.loop-turn.invariant.1 c.in-Over.ensures.turn)

pub loop-turn-preserved : goal.loop-turn-preserved
loop-turn-preserved c = elim c.match-next_turn.branch [
  | in-Label+in_ok-push_label-in-Label w ↦
      rw (w.walk-is, w.text-is) (
        dotted c.loop-turn.invariant.0 (slice_range c.args.bytes.now (c.loop-turn.walk.place + 1) (c.loop-turn.walk.place + 1 + w.in-Label.len)),
        reads_label c.args.bytes.now c.args.place c.loop-turn._turn c.loop-turn.walk w.in-Label.next w.in-Label.len c.loop-turn.invariant.0 _ _ c.loop-turn.invariant.1 w.in-Label.ensures.turn (w.in-Label.ensures.fits c.args.place c.loop-turn.invariant.1.fits) refl,
        λ shown. w.in_ok-push_label-in-Label.ensures shown ∙ ap (λ (t : List ℕ). dotted t (slice_range c.args.bytes.now (c.loop-turn.walk.place + 1) (c.loop-turn.walk.place + 1 + w.in-Label.len))) (c.loop-turn.invariant.2 shown),
      )
  | in-Jump w ↦
      rw (w.walk-is, w.text-is, w.at_chain_end-walk.ensures) (
        c.loop-turn.invariant.0,
        reads_jump c.args.bytes.now c.args.chain_ends.now c.args.place c.loop-turn._turn c.loop-turn.walk w.in-Jump.next c.loop-turn.invariant.0 _ c.requires.chains (λ k. Fits-lt-pow (c.type_inv.bytes k)) c.loop-turn.invariant.1 w.in-Jump.ensures.turn (w.in-Jump.ensures.fits c.args.place c.loop-turn.invariant.1.fits),
        c.loop-turn.invariant.2,
      )
]

pub returns-clause-value : goal.returns-clause-value
returns-clause-value c = absurd (omega (arith, c.loop-turn.invariant.1.most, c.loop-turn.invariant.1.fits.short, c.loop-turn-test.false))

pub returns-clause-text : goal.returns-clause-text
returns-clause-text c = absurd (omega (arith, c.loop-turn.invariant.1.most, c.loop-turn.invariant.1.fits.short, c.loop-turn-test.false))
