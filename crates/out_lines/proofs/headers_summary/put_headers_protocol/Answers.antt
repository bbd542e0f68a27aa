use Rattle.std.proofs.Common.{◌++◌, List, ℕ, ap, ◌∙◌}
use Rattle.std.proofs.lemmas.Result.{on_ok_weaker}
use Rattle.pk_source.specs.Outlines.{protocols_of}
use Rattle.out_lines.proofs.HeadersLemmas.{protocol_is}
use Rattle.out_lines.proofs.headers_summary.put_headers_protocol.Goals as goal

pub returns : goal.returns
returns c =
    on_ok_weaker c.put_last.result (λ put.
    put ∙ ap (λ (text : List ℕ). c.args.line.now ++ text) (protocol_is c.args.outline.now (protocols_of c.headers.result.now) c.headers.ensures)) c.put_last.ensures
