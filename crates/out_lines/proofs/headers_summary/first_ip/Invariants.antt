use Rattle.std.proofs.Common.{◌≡◌, ◌+◌, drop}
use Rattle.std.specs.List.{position_or_len}
use Rattle.pk_source.specs.Outlines.{protocols_of}
use Rattle.out_lines.specs.Summary.{is_ip_proto}
use Rattle.out_lines.proofs.headers_summary.first_ip.Given as goal

abbrev pub invariant-loop-header : goal.invariant-loop-header
invariant-loop-header l =
    (l.place ≡ l.header-index)
    × (l.place + position_or_len is_ip_proto (protocols_of (drop l.header-index l.headers)) ≡ position_or_len is_ip_proto (protocols_of l.headers))
