use Rattle.std.proofs.Common.{length}
use Rattle.flt_parse.proofs.joins.+has_room_around.Given as goal

abbrev pub decreases-has_room_around : goal.decreases-has_room_around
decreases-has_room_around l = length l.around.now
