use Rattle.std.proofs.Common.{◌≡◌, Option, Some, None, length, slice_get, slice_set, ◌<◌, refl, ap, ◌∙◌, arith}
use Rattle.std.proofs.lemmas.List.{set-get_or}
use Rattle.std.proofs.lemmas.Result.{IfOk-weaker}
use Rattle.std.proofs.lemmas.Option.{slice_get_read}
use Rattle.tcp_messages.specs.declared.readers.Readers.{Readers}
use Rattle.tcp_messages.proofs.Keeping.{read_at_some, read_at_none}
use Rattle.tcp_messages.proofs.reading.read_stream.Goals as goal

pub returns-in-Some : goal.returns-in-Some
returns-in-Some c =
    let low : c.args.taken.now.stream < length c.args.readers.now.items = omega (arith, c.requires.stream, c.requires.count) in
    let there : slice_get c.args.readers.now.items c.args.taken.now.stream ≡ Some (Some c.in-Some.readers) =
    slice_get_read c.args.readers.now.items (length c.args.readers.now.items) c.args.taken.now.stream c.index_mut-kept.result.now refl low c.index_mut-kept.ensures.value
    ∙ ap (λ (o : Option Readers). Some o) c.in-Some.is in
    IfOk-weaker c.read.result _ _ (λ messages on. read_at_some _ c.args.taken.now c.args.readers.now.items _ c.in-Some.readers c.read.new.self messages there refl on) c.read.ensures

pub returns-in-None : goal.returns-in-None
returns-in-None c =
    let low : c.args.taken.now.stream < length c.args.readers.now.items = omega (arith, c.requires.stream, c.requires.count) in
    let there : slice_get c.args.readers.now.items c.args.taken.now.stream ≡ Some None =
    slice_get_read c.args.readers.now.items (length c.args.readers.now.items) c.args.taken.now.stream c.index_mut-kept.result.now refl low c.index_mut-kept.ensures.value
    ∙ ap (λ (o : Option Readers). Some o) c.in-None.is in
    let same : slice_set c.args.readers.now.items c.args.taken.now.stream c.index_mut-kept.result.now ≡ c.args.readers.now.items =
    ap (slice_set c.args.readers.now.items c.args.taken.now.stream) c.index_mut-kept.ensures.value ∙ set-get_or c.args.readers.now.items c.args.taken.now.stream c.index_mut-kept.result.now in
    read_at_none _ c.args.taken.now c.args.readers.now.items _ c.from_vec.result there same (c.from_vec.ensures ∙ c.new.ensures.items)
