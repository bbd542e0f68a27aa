use Rattle.std.proofs.Common.{◌+◌, ◌++◌, ℕ, List, ap, ◌∙◌, arith}
use Rattle.std.specs.List.{flat_map}
use Rattle.std.specs.BTreeMap.{keys}
use Rattle.cap_stats.specs.Stands.{talk_at}
use Rattle.cap_stats.specs.Tables.{stream_line}
use Rattle.cap_stats.proofs.TableLemmas.{streams_made}
use Rattle.cap_stats.proofs.streams.Streams.table.Goals as goal

pub returns : goal.returns
returns c = λ notes has.
    let streams = c.args.self.now in
    streams_made streams notes (c.len.result + c.len-2.result) c.in_ok-text.text.items c.put_rest.new.text.items
    (omega (arith, c.len.ensures, streams.first.ok.0, c.len-2.ensures.len)) c.in_ok-text.ensures
    (c.in_ok-put_rest.ensures
    ∙ ap (λ (text : List ℕ). text ++ flat_map (λ n. stream_line n (talk_at streams n)) (keys streams.rest)) c.in_ok-put_first.ensures) has
