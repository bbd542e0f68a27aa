use Rattle.std.proofs.Common.{◌≡◌, true, drop}
use Rattle.pk_source.specs.Found.{is_alone}
use Rattle.pk_source.proofs.found.has_none.Given as goal

abbrev pub invariant-loop-header : goal.invariant-loop-header
invariant-loop-header l = is_alone true l.proto (drop l.header-index l.headers) ≡ is_alone true l.proto l.headers
