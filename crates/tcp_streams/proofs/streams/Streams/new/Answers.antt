use Rattle.std.proofs.Common.{[], rules}
use Rattle.tcp_streams.specs.Standing.{StandsFor}
use Rattle.tcp_streams.proofs.KeptStands.{stands_whole}
use Rattle.tcp_streams.proofs.streams.Streams.new.Goals as goal

pub returns-clause-stands : goal.returns-clause-stands
unfolding StandsFor
returns-clause-stands c = search rules

pub returns-clause-from : goal.returns-clause-from
returns-clause-from c = stands_whole [] _ (returns-clause-stands c)
