use Rattle.std.proofs.Common.{◌≡◌, length, drop}
use Rattle.capture_read.specs.Pieces.{record_at, where_left, IsPieceWithin}
use Rattle.capture_read.proofs.FormatSteps.{reads_record}
use Rattle.capture_read.proofs.next_piece.next_piece.Goals as goal

pub returns-in-Pcap-clause-reads : goal.returns-in-Pcap-clause-reads
returns-in-Pcap-clause-reads c =
    let rest : c.bytes_from-rest.result.now ≡ drop c.args.at c.args.held.now = cc in
    let value : c.read_record.result ≡ where_left c.args.large (drop c.args.at c.args.held.now) (record_at c.args.large c.in-Pcap.head c.args.at (drop c.args.at c.args.held.now)) = cc in
    let within : IsPieceWithin c.read_record.result (length (drop c.args.at c.args.held.now)) = rw (← rest) c.read_record.ensures.within in
    rw (c.in-Pcap.is, value)
    (reads_record c.args.large c.args.held.now c.in-Pcap.head c.args.sections.now c.args.at (rw (← value) within))
