use Rattle.std.proofs.Common.{◌≡◌, ◌==◌, ◌<◌, length, slice_get, Some, refl, arith}
use Rattle.std.proofs.lemmas.Option.{slice_get_read}
use Rattle.std.proofs.lemmas.Result.{IfOk-weaker}
use Rattle.tcp_messages.proofs.LettingGo.{let_go_reads, let_go_sound}
use Rattle.tcp_messages.proofs.letting_go.let_go.Goals as goal

pub returns-clause-sound : goal.returns-clause-sound
returns-clause-sound c =
    let low : c.args.stream < length c.args.readers.now.items = omega (arith, c.requires.stream, c.requires.sound.count) in
    let there : slice_get c.args.readers.now.items c.args.stream ≡ Some c.index_mut.result.now =
    slice_get_read c.args.readers.now.items (length c.args.readers.now.items) c.args.stream c.index_mut.result.now refl low c.index_mut.ensures.value in
    IfOk-weaker c.let_go_of.result _ _
    (λ _ go. let_go_sound c.args.stream (c.args.side == 1) go.to c.args.streams.now c.let_go_of.new.streams c.args.readers.now.items c.index_mut.result.now c.let_go_of.new.readers there
    go.streams go.readers c.requires.sound) c.let_go_of.ensures.let_go

pub returns-clause-reads : goal.returns-clause-reads
returns-clause-reads c =
    let low : c.args.stream < length c.args.readers.now.items = omega (arith, c.requires.stream, c.requires.sound.count) in
    let there : slice_get c.args.readers.now.items c.args.stream ≡ Some c.index_mut.result.now =
    slice_get_read c.args.readers.now.items (length c.args.readers.now.items) c.args.stream c.index_mut.result.now refl low c.index_mut.ensures.value in
    IfOk-weaker c.let_go_of.result _ _
    (λ _ go framer_of past stands reads. let_go_reads framer_of past c.args.stream (c.args.side == 1) go.to c.args.streams.now c.let_go_of.new.streams c.args.readers.now.items c.index_mut.result.now
    c.let_go_of.new.readers there go.streams go.readers stands reads) c.let_go_of.ensures.let_go
