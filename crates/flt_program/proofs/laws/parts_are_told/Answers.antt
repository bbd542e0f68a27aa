use Rattle.flt_program.proofs.PartLemmas.{fields_told, literals_told, strings_told}
use Rattle.flt_program.proofs.PrefixLemmas.{prefixes_told}
use Rattle.flt_program.proofs.RangeLemmas.{layers_told, ranges_told}
use Rattle.flt_program.proofs.laws.parts_are_told.Goals as goal

pub returns-clause-fields : goal.returns-clause-fields
returns-clause-fields c = fields_told

pub returns-clause-layers : goal.returns-clause-layers
returns-clause-layers c = layers_told

pub returns-clause-ranges : goal.returns-clause-ranges
returns-clause-ranges c = ranges_told

pub returns-clause-strings : goal.returns-clause-strings
returns-clause-strings c = strings_told

pub returns-clause-literals : goal.returns-clause-literals
returns-clause-literals c = literals_told

pub returns-clause-prefixes : goal.returns-clause-prefixes
returns-clause-prefixes c = prefixes_told
