-- What is met at the first header of a frame that has bytes.
use Rattle.std.proofs.Common.{◌≡◌, ◌==◌, ℕ, Bool, false, List, length, refl, ap, sym, ◌∙◌, inl, inr}
use Rattle.std.proofs.lemmas.Bool.{cases_Bool, cond-false, eqb-true}
use Rattle.pk_base.specs.declared.span.Span.{Span}
use Rattle.pk_tree.specs.Buffers.{bytes_of}
use Rattle.pk_base.specs.declared.heads.After.{After}
use Rattle.pk_base.specs.declared.heads.Mode.TheVariants.{Plain}
use Rattle.pk_base.specs.declared.heads.PacketHead.{PacketHead}
use Rattle.pk_tree.specs.Trees.{TreeShown}
use Rattle.dis_link.specs.Link.{link_of, link_read, link_after}
use Rattle.pk_fields.specs.declared.rules.PortRule.{PortRule}
use Rattle.capture_read.specs.declared.frame.Frame.{Frame}
use Rattle.app_layers.specs.FrameLayer.{frame_span, is_cut}
use Rattle.dissect.specs.Events.{Event}
use Rattle.dissect.specs.Walks.{followed, link_met, no_packet, stop}
use Rattle.dissect.proofs.Told.{followed_alike}

has_some : (n : ℕ) → (n ≡ 0 → ⊥) → (n == 0) ≡ false
has_some n some = elim (cases_Bool (n == 0)) [
  | inl none ↦ absurd (some (eqb-true n 0 none))
  | inr more ↦ more
]

pub link_followed : (rules : List PortRule) (frame : Frame) (packet : PacketHead) (span : Span) (cut : Bool) (t read : TreeShown) (after : After) → (length frame.bytes ≡ 0 → ⊥)
    → packet ≡ no_packet → span ≡ frame_span frame → cut ≡ is_cut frame → read ≡ link_read (link_of frame.link) frame.little t span cut
    → after ≡ link_after (link_of frame.link) frame.little span (bytes_of t.buffers span)
    → (es : List Event) → followed rules frame packet Plain read es after ≡ link_met rules frame t es
unfolding link_met
link_followed rules frame packet span cut t read after some packet_is span_is cut_is read_is after_is es =
    let link = link_of frame.link in
    let little = frame.little in
    let whole = frame_span frame in
    let tree = link_read link little t whole (is_cut frame) in
    let next = link_after link little whole (bytes_of t.buffers whole) in
    let tree_is : read ≡ tree = read_is ∙ ap (λ s. link_read link little t s cut) span_is ∙ ap (λ c. link_read link little t whole c) cut_is in
    let next_is : after ≡ next = after_is ∙ ap (λ s. link_after link little s (bytes_of t.buffers s)) span_is in
    ap (λ p. followed rules frame p Plain read es after) packet_is
    ∙ followed_alike rules frame no_packet Plain Plain read tree after next es refl tree_is next_is
    ∙ sym (cond-false (length frame.bytes == 0) (stop t es) (followed rules frame no_packet Plain tree es next) (has_some (length frame.bytes) some))
