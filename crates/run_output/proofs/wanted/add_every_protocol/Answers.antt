use Rattle.std.proofs.Common.{◌≡◌, ℕ, true, subst, arith}
use borrow.Author.Count.{below_more}
use Rattle.pk_fields.specs.Fields.{row_of}
use Rattle.pk_fields.specs.FieldSets.{is_in}
use Rattle.pk_tree.specs.Values.{is_proto}
use Rattle.dissect.specs.Protocols.{IsOne}
use Rattle.run_output.proofs.wanted.add_every_protocol.Goals as goal

pub loop-number-preserved : goal.loop-number-preserved
loop-number-preserved c =
    let Is : ℕ → Type 0 = λ f. is_proto (row_of f).kind ≡ true → is_in c.add_protocol.new.wanted f ≡ true in
    record {
      kept = λ f is. c.add_protocol.ensures.kept f (c.loop-number.invariant.kept f is);
      there = below_more Is c.loop-number.number (λ f below is. c.add_protocol.ensures.kept f (c.loop-number.invariant.there f below is))
          (subst Is c.field_of.ensures c.add_protocol.ensures.protocol);
    }

pub returns-clause-all : goal.returns-clause-all
unfolding IsOne
returns-clause-all c = λ proto is. c.loop-number.invariant.there proto (omega (arith, is.0)) is.1
