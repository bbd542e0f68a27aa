use Rattle.std.proofs.Common.{◌<◌, arith, length}
use Rattle.std.proofs.lemmas.Option.{slice_get_within}
use Rattle.flt_program.proofs.AskedLemmas.{added_more, fields_more}
use Rattle.flt_program.proofs.fields.add_asked.Goals as goal

pub loop-instr-preserved : goal.loop-instr-preserved
loop-instr-preserved c = record {
  fields = fields_more c.loop-instr.set c.add_field.new.set c.args.code.now c.loop-instr.instr-index c.instr-item.result c.add_field.ensures.kept c.add_field.ensures.field c.instr-item.is
      c.loop-instr.invariant.fields;
  added = λ f.
      let inside : c.loop-instr.instr-index < length c.args.code.now = omega arith in
      added_more c.loop-instr.set c.add_field.new.set c.args.code.now c.loop-instr.instr-index c.instr-item.result f _ inside c.instr-item.is (c.add_field.ensures.added f)
      (c.loop-instr.invariant.added f);
  kept = λ f is. c.add_field.ensures.kept f (c.loop-instr.invariant.kept f is);
}

pub returns-clause-fields : goal.returns-clause-fields
returns-clause-fields c = λ at i found.
    let within = slice_get_within c.args.code.now at i found in
    c.loop-instr.invariant.fields at i (let less : at < c.loop-instr.instr-index = omega (arith, within) in less) found
