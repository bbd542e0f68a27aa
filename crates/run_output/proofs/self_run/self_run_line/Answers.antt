use Rattle.std.specs.Prelude.{string_bytes}
use Rattle.dissect.specs.Segments.{segments_of}
use Rattle.dissect.specs.Trees.{events_of}
use Rattle.run_output.proofs.ClosingLemmas.{line_counted}
use Rattle.run_output.proofs.self_run.self_run_line.Goals as goal

pub returns-in-Ok : goal.returns-in-Ok
returns-in-Ok c = λ job past stands same.
    line_counted job past c.args.totals c.count-tcp.result c.udp_count-udp.result (string_bytes c.in-Ok.line) c.in-Ok.ensures same
    (c.count-tcp.ensures.opened (segments_of (events_of past)) (c.streams.ensures.within c.requires.streams c.requires.whole past stands)) (c.udp_count-udp.ensures.within c.requires.whole past stands)
