use Rattle.dis_http.proofs.HttpLemmas.{pieces_short}
use Rattle.dis_http.proofs.http.read_http.Goals as goal

pub read_chunked-requires-clause-short : goal.read_chunked-requires-clause-short
read_chunked-requires-clause-short c = pieces_short c.args.shape.now _ c.in-Chunked.pieces c.requires.shape c.in-Chunked.is
