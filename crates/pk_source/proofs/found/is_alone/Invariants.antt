use Rattle.std.proofs.Common.{◌≡◌, false, drop}
use Rattle.pk_source.specs.Found.{is_alone}
use Rattle.pk_source.proofs.found.is_alone.Given as goal

abbrev pub invariant-loop-header : goal.invariant-loop-header
invariant-loop-header l = is_alone l.seen l.proto (drop l.header-index l.headers) ≡ is_alone false l.proto l.headers
