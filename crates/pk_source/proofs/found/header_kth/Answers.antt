use Rattle.std.proofs.Common.{ap, sym, ◌∙◌}
use Rattle.pk_source.specs.Found.{kth, notes_told, or_then, rows_told}
use Rattle.pk_source.specs.Outlines.{sizes_of}
use Rattle.pk_source.proofs.FoundLemmas.{kth-append, slots_known}
use Rattle.pk_source.proofs.found.header_kth.Goals as goal

pub picked_kth-requires-clause-known : goal.picked_kth-requires-clause-known
picked_kth-requires-clause-known c =
    let h = c.args.header.now in
    slots_known h.span.len c.requires.whole.1.holds (sizes_of h) h.slots.now c.requires.whole.1.whole

pub returns-in-At : goal.returns-in-At
returns-in-At c =
    let h = c.args.header.now in
    let field = c.args.asked.now.field in
    let rows = rows_told h.span (sizes_of h) field h.slots.now in
    let notes = notes_told field c.args.notes.now in
    let found = c.in-At.ensures ∙ ap (λ all. kth all c.args.k) (c.requires.picked h.span (sizes_of h)) in
    ap (λ one. or_then one (kth notes)) found ∙ sym (kth-append rows notes c.args.k)

pub returns-in-Left : goal.returns-in-Left
returns-in-Left c =
    let h = c.args.header.now in
    let field = c.args.asked.now.field in
    let rows = rows_told h.span (sizes_of h) field h.slots.now in
    let notes = notes_told field c.args.notes.now in
    let found = c.in-Left.ensures ∙ ap (λ all. kth all c.args.k) (c.requires.picked h.span (sizes_of h)) in
    c.note_kth.ensures ∙ ap (λ one. or_then one (kth notes)) found ∙ sym (kth-append rows notes c.args.k)
