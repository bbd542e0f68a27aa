use Rattle.std.proofs.Common.{ap, sym, ◌∙◌}
use Rattle.pk_source.specs.Found.{kth, or_then, slot_told}
use Rattle.pk_source.specs.Outlines.{sizes_of}
use Rattle.pk_source.specs.Picks.{slot_at}
use Rattle.pk_source.proofs.FoundLemmas.{kth-append}
use Rattle.pk_source.proofs.found.picked_kth.Goals as goal

pub returns-in-At : goal.returns-in-At
returns-in-At c =
    let h = c.args.header.now in
    let first = slot_told h.span (sizes_of h) c.args.asked.now.field (slot_at h.slots.now c.in-Twice.first) in
    let second = slot_told h.span (sizes_of h) c.args.asked.now.field (slot_at h.slots.now c.in-Twice.second) in
    rw c.in-Twice.is (ap (λ one. or_then one (kth second)) c.in-At.ensures ∙ sym (kth-append first second c.args.k))

pub returns-in-Left : goal.returns-in-Left
returns-in-Left c =
    let h = c.args.header.now in
    let first = slot_told h.span (sizes_of h) c.args.asked.now.field (slot_at h.slots.now c.in-Twice.first) in
    let second = slot_told h.span (sizes_of h) c.args.asked.now.field (slot_at h.slots.now c.in-Twice.second) in
    rw c.in-Twice.is (c.slot_kth-in-Left.ensures ∙ ap (λ one. or_then one (kth second)) c.in-Left.ensures ∙ sym (kth-append first second c.args.k))
