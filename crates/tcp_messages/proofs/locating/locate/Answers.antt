use Rattle.std.proofs.Common.{◌≡◌, ◌+◌, eqb, subst, sym, ◌∙◌, arith}
use Rattle.tcp_streams.specs.Standing.{way_in}
use Rattle.stream_messages.specs.Messages.{end_at}
use Rattle.tcp_messages.specs.Shown.{IsMessageBy}
use Rattle.tcp_messages.proofs.Sources.{ends_within, is_short, part_by, part_is, gathered_whole, segment_framed, segment_whole}
use Rattle.tcp_messages.proofs.locating.locate.Goals as goal

pub len_of-len-requires : goal.len_of-len-requires
len_of-len-requires c = is_short c.args.streams.now c.args.taken.now.stream c.args.taken.now.side c.args.message.now c.requires.ready c.requires.whole

pub overflow_add-to : goal.overflow_add-to
overflow_add-to c =
    let side = eqb c.args.taken.now.side 1 in
    let v = way_in c.args.streams.now c.args.taken.now.stream c.args.taken.now.side in
    let ends = ends_within v c.args.message.now (c.requires.ready.ways c.args.taken.now.stream side) c.requires.whole in
    omega (arith, ends, c.requires.ready.room c.args.taken.now.stream side, c.from.ensures, c.len_of-len.ensures)

pub place_in-requires : goal.place_in-requires
place_in-requires c =
    let side = eqb c.args.taken.now.side 1 in
    let v = way_in c.args.streams.now c.args.taken.now.stream c.args.taken.now.side in
    let ends = ends_within v c.args.message.now (c.requires.ready.ways c.args.taken.now.stream side) c.requires.whole in
    omega (arith, ends, c.requires.ready.room c.args.taken.now.stream side)

pub returns-in-Some-clause-whole : goal.returns-in-Some-clause-whole
returns-in-Some-clause-whole c =
    let to : c.args.message.now.at + c.from.result ≡ end_at c.args.message.now = omega (arith, c.from.ensures, c.len_of-len.ensures) in
    segment_whole c.args.s.now.payload c.bytes.result.now c.args.message.now c.part-bytes.result.now _ c.in-Some.place c.bytes.ensures (sym c.place_in.ensures ∙ c.in-Some.is)
    (part_is _ c.args.message.now (c.args.message.now.at + c.from.result) c.part-bytes.result.now c.requires.whole to c.part-bytes.ensures.kept)
    (is_short c.args.streams.now c.args.taken.now.stream c.args.taken.now.side c.args.message.now c.requires.ready c.requires.whole)

pub returns-clause-whole : goal.returns-clause-whole
returns-clause-whole c =
    let to : c.args.message.now.at + c.from.result ≡ end_at c.args.message.now = omega (arith, c.from.ensures, c.len_of-len.ensures) in
    gathered_whole c.args.s.now.payload c.args.message.now _ c.part-bytes.result.now c.in_ok-bytes.ensures
    (part_is _ c.args.message.now (c.args.message.now.at + c.from.result) c.part-bytes.result.now c.requires.whole to c.part-bytes.ensures.kept)
    (is_short c.args.streams.now c.args.taken.now.stream c.args.taken.now.side c.args.message.now c.requires.ready c.requires.whole)

pub returns-in-Some-clause-framed : goal.returns-in-Some-clause-framed
returns-in-Some-clause-framed c = λ framer one.
    let to : c.args.message.now.at + c.from.result ≡ end_at c.args.message.now = omega (arith, c.from.ensures, c.len_of-len.ensures) in
    segment_framed framer c.args.s.now.payload c.bytes.result.now c.args.message.now c.part-bytes.result.now _ c.in-Some.place c.bytes.ensures (sym c.place_in.ensures ∙ c.in-Some.is)
    (part_by framer _ c.args.message.now (c.args.message.now.at + c.from.result) c.part-bytes.result.now one to c.part-bytes.ensures.kept)

pub returns-clause-framed : goal.returns-clause-framed
returns-clause-framed c = λ framer one.
    let to : c.args.message.now.at + c.from.result ≡ end_at c.args.message.now = omega (arith, c.from.ensures, c.len_of-len.ensures) in
    subst (IsMessageBy framer c.args.message.now.told) (sym c.in_ok-bytes.ensures)
    (part_by framer _ c.args.message.now (c.args.message.now.at + c.from.result) c.part-bytes.result.now one to c.part-bytes.ensures.kept).0
