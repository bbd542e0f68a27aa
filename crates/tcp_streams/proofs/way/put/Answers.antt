use Rattle.std.proofs.Common.{◌≡◌, ◌-◌, ℕ, subst, take, drop, arith}
use Rattle.tcp_streams.proofs.WayLemmas.{put_room}
use Rattle.tcp_streams.proofs.way.put.Goals as goal

pub insert-requires-clause-room : goal.insert-requires-clause-room
insert-requires-clause-room c =
    let cut = subst (λ (e : ℕ). c.in_ok-bytes.bytes ≡ take (e - c.place-from.result) (drop c.skipped.result c.args.s.now.payload)) c.window_end.ensures c.in_ok-bytes.ensures in
    put_room c.start-start.result c.end-front.result c.args.ahead c.place-from.result c.in_ok-bytes.bytes (drop c.skipped.result c.args.s.now.payload)
    c.place-from.ensures (omega (arith, c.start-start.ensures, c.end-front.ensures, c.requires.place.order)) (omega (arith, c.end-front.ensures, c.requires.room)) cut
