use Rattle.std.proofs.Common.{refl, arith}
use Rattle.std.proofs.lemmas.Result.{IfOk-weaker}
use Rattle.tcp_streams.specs.Standing.{streams_of, way_in}
use Rattle.tcp_messages.specs.Reading.{side_of}
use Rattle.tcp_messages.proofs.Keeping.{are_opened, own_sound, read_few, read_sound, read_whole, step_by}
use Rattle.tcp_messages.proofs.Nexts.{next_reads}
use Rattle.tcp_messages.proofs.reading.read_next.Goals as goal

pub read_stream-requires-clause-stream : goal.read_stream-requires-clause-stream
read_stream-requires-clause-stream c = (step_by c.requires.sound.1 c.args.taken.now (streams_of c.requires.sound.0) (streams_of c.args.streams.now) c.requires.sound.4).within

pub read_stream-requires-clause-side : goal.read_stream-requires-clause-side
read_stream-requires-clause-side c = (step_by c.requires.sound.1 c.args.taken.now (streams_of c.requires.sound.0) (streams_of c.args.streams.now) c.requires.sound.4).low

pub read_stream-requires-clause-count : goal.read_stream-requires-clause-count
read_stream-requires-clause-count c =
    let step = step_by c.requires.sound.1 c.args.taken.now (streams_of c.requires.sound.0) (streams_of c.args.streams.now) c.requires.sound.4 in
    (are_opened c.args.framer c.requires.sound.1 c.args.taken.now (side_of c.args.taken.now) c.requires.sound.0 (streams_of c.args.streams.now) c.args.readers.now.items c.open.new.readers.items c.requires.sound.3 step c.in_ok-open.ensures).count

pub read_stream-requires-clause-sound : goal.read_stream-requires-clause-sound
read_stream-requires-clause-sound c r there none =
    let step = step_by c.requires.sound.1 c.args.taken.now (streams_of c.requires.sound.0) (streams_of c.args.streams.now) c.requires.sound.4 in
    let are = are_opened c.args.framer c.requires.sound.1 c.args.taken.now (side_of c.args.taken.now) c.requires.sound.0 (streams_of c.args.streams.now) c.args.readers.now.items c.open.new.readers.items c.requires.sound.3 step c.in_ok-open.ensures in
    own_sound c.requires.sound.1 c.args.taken.now (side_of c.args.taken.now) c.requires.sound.0 (streams_of c.args.streams.now) c.open.new.readers.items r c.requires.sound.2 are there none

pub returns-clause-sound : goal.returns-clause-sound
returns-clause-sound c =
    let step = step_by c.requires.sound.1 c.args.taken.now (streams_of c.requires.sound.0) (streams_of c.args.streams.now) c.requires.sound.4 in
    let are = are_opened c.args.framer c.requires.sound.1 c.args.taken.now (side_of c.args.taken.now) c.requires.sound.0 (streams_of c.args.streams.now) c.args.readers.now.items c.open.new.readers.items c.requires.sound.3 step c.in_ok-open.ensures in
    IfOk-weaker c.read_stream.result _ _
    (λ messages read. read_sound c.requires.sound.1 c.args.taken.now c.requires.sound.0 c.args.streams.now c.open.new.readers.items c.read_stream.new.readers.items messages c.requires.ready are read) c.read_stream.ensures

pub returns-clause-whole : goal.returns-clause-whole
returns-clause-whole c =
    let step = step_by c.requires.sound.1 c.args.taken.now (streams_of c.requires.sound.0) (streams_of c.args.streams.now) c.requires.sound.4 in
    let are = are_opened c.args.framer c.requires.sound.1 c.args.taken.now (side_of c.args.taken.now) c.requires.sound.0 (streams_of c.args.streams.now) c.args.readers.now.items c.open.new.readers.items c.requires.sound.3 step c.in_ok-open.ensures in
    IfOk-weaker c.read_stream.result _ _
    (λ messages read. read_whole (way_in c.args.streams.now c.args.taken.now.stream c.args.taken.now.side) c.args.taken.now c.open.new.readers.items c.read_stream.new.readers.items messages
    (omega (arith, step.within, are.count)) read) c.read_stream.ensures

pub returns-clause-read : goal.returns-clause-read
returns-clause-read c =
    let step = step_by c.requires.sound.1 c.args.taken.now (streams_of c.requires.sound.0) (streams_of c.args.streams.now) c.requires.sound.4 in
    let are = are_opened c.args.framer c.requires.sound.1 c.args.taken.now (side_of c.args.taken.now) c.requires.sound.0 (streams_of c.args.streams.now) c.args.readers.now.items c.open.new.readers.items c.requires.sound.3 step c.in_ok-open.ensures in
    IfOk-weaker c.read_stream.result _ _
    (λ messages read framer_of past s old before.
    (next_reads framer_of c.args.framer past s c.args.taken.now old c.args.streams.now c.args.readers.now.items c.open.new.readers.items c.read_stream.new.readers.items messages before
    (omega (arith, step.within, are.count)) c.in_ok-open.ensures read).0) c.read_stream.ensures

pub returns-clause-stands : goal.returns-clause-stands
returns-clause-stands c =
    let step = step_by c.requires.sound.1 c.args.taken.now (streams_of c.requires.sound.0) (streams_of c.args.streams.now) c.requires.sound.4 in
    let are = are_opened c.args.framer c.requires.sound.1 c.args.taken.now (side_of c.args.taken.now) c.requires.sound.0 (streams_of c.args.streams.now) c.args.readers.now.items c.open.new.readers.items c.requires.sound.3 step c.in_ok-open.ensures in
    IfOk-weaker c.read_stream.result _ _
    (λ messages read framer_of past s old before.
    (next_reads framer_of c.args.framer past s c.args.taken.now old c.args.streams.now c.args.readers.now.items c.open.new.readers.items c.read_stream.new.readers.items messages before
    (omega (arith, step.within, are.count)) c.in_ok-open.ensures read).1) c.read_stream.ensures

pub returns-clause-framed : goal.returns-clause-framed
returns-clause-framed c =
    let step = step_by c.requires.sound.1 c.args.taken.now (streams_of c.requires.sound.0) (streams_of c.args.streams.now) c.requires.sound.4 in
    let are = are_opened c.args.framer c.requires.sound.1 c.args.taken.now (side_of c.args.taken.now) c.requires.sound.0 (streams_of c.args.streams.now) c.args.readers.now.items c.open.new.readers.items c.requires.sound.3 step c.in_ok-open.ensures in
    IfOk-weaker c.read_stream.result _ _
    (λ messages read framer_of past s old before.
    (next_reads framer_of c.args.framer past s c.args.taken.now old c.args.streams.now c.args.readers.now.items c.open.new.readers.items c.read_stream.new.readers.items messages before
    (omega (arith, step.within, are.count)) c.in_ok-open.ensures read).2) c.read_stream.ensures

pub returns-clause-few : goal.returns-clause-few
returns-clause-few c =
    let step = step_by c.requires.sound.1 c.args.taken.now (streams_of c.requires.sound.0) (streams_of c.args.streams.now) c.requires.sound.4 in
    let are = are_opened c.args.framer c.requires.sound.1 c.args.taken.now (side_of c.args.taken.now) c.requires.sound.0 (streams_of c.args.streams.now) c.args.readers.now.items c.open.new.readers.items c.requires.sound.3 step c.in_ok-open.ensures in
    IfOk-weaker c.read_stream.result _ _
    (λ messages read. read_few c.requires.sound.1 c.args.taken.now (side_of c.args.taken.now) c.requires.sound.0 (streams_of c.args.streams.now) c.open.new.readers.items c.read_stream.new.readers.items messages
    c.requires.sound.2 refl are read) c.read_stream.ensures
