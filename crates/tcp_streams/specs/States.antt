-- What a direction's fields say.
use Rattle.tcp_streams.specs.declared.way.Way.{Way}
use Rattle.tcp_streams.specs.Ways.{WayState}

abbrev pub state_of : Way → WayState
state_of way = record { origin = way.origin; held = way.held.held; earlier = way.earlier.items; start = way.held.start; front = way.held.front; acked = way.acked }
