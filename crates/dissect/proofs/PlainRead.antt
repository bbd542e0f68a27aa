-- What is read of a plain frame by its headers alone.
use Rattle.std.proofs.Common.{◌≡◌, ◌∙◌, ℕ, Bool, true, List, ◌∷◌, Option, refl, ap, sym, subst}
use Rattle.std.specs.Prelude.{OnOk, Result, Ok, Err}
use Rattle.pk_fields.specs.declared.rules.PortRule.{PortRule}
use Rattle.pk_source.proofs.FitLemmas.{outline_fits}
use Rattle.pk_source.specs.Outlines.{outlined}
use Rattle.pk_source.specs.declared.header.Header.{Header}
use Rattle.pk_source.specs.declared.header.Note.{Note}
use Rattle.pk_tree.specs.Trees.{TreeShown}
use Rattle.capture_read.specs.declared.frame.Frame.{Frame}
use Rattle.message_links.proofs.LinkedLemmas.{no_links}
use Rattle.message_links.specs.Linked.{linked}
use Rattle.app_layers.specs.declared.times.Times.{Times}
use Rattle.dissect.specs.Carried.{carried_by, frame_notes}
use Rattle.dissect.specs.Events.{Event, NewFrame}
use Rattle.dissect.specs.Heads.{HeadsShown, StandFor}
use Rattle.dissect.specs.Stands.{IsRead, IsWalked, StandsAt}
use Rattle.dissect.specs.Tells.{AsksNoDatagrams, Tells}
use Rattle.dissect.specs.Trees.{kept_walk}
use Rattle.dissect.specs.Walks.{Walk}
use Rattle.dissect.specs.Ways.{AsksNoOptions, Carries, Opens, carried_met}
use Rattle.dissect.specs.declared.carried.Carried.{Carried}
use Rattle.dissect.specs.declared.state.State.{State}
use Rattle.dissect.specs.declared.todo.Todo.TheVariants as todos
use Rattle.dissect.specs.declared.ways.Carried.{Carried as WayCarried}
use Rattle.dissect.proofs.PlainHeads.{buffers_of, carried_way}

pub both_ok : {A E : Type 0} (P Q : Type 0) (r : Result A E) → OnOk r P → OnOk r Q → OnOk r (P × Q)
both_ok P Q (Ok x) one other = (one, other)
both_ok P Q (Err e) one other = tt

wanted_of : (bytes wanted : List ℕ) (headers : List Header) (notes : List Note) → (outlined bytes wanted headers notes).wanted ≡ wanted
unfolding outlined
wanted_of bytes wanted headers notes = refl

-- the headers that stand for what its way makes read the frame
pub heads_read : (rules : List PortRule) (wanted : List ℕ) (before : Times) (es : List Event) (frame : Frame) (passes : Bool) (way : WayCarried) (c : Carried) (headers : List Header) (heads : HeadsShown) (old new : State)
    → AsksNoOptions wanted → (passes ≡ true → AsksNoDatagrams wanted) → Carries frame headers way → Opens frame headers
    → StandFor frame.bytes wanted heads (carried_by c (outlined frame.bytes wanted headers (frame_notes before frame)))
    → Tells rules frame passes way old new c → StandsAt rules es old
    → IsRead rules wanted (kept_walk rules wanted before es frame) new (outlined frame.bytes wanted heads.headers heads.notes)
heads_read rules wanted before es frame passes way c headers heads old new unasked messages carried opens stand tells stands =
    let bare : TreeShown = outlined frame.bytes wanted heads.headers heads.notes in
    let t : TreeShown = outlined frame.bytes wanted headers (frame_notes before frame) in
    let met : Walk = carried_met rules frame t (NewFrame ∷ es) way in
    let asks = λ (is : passes ≡ true). subst AsksNoDatagrams (sym (wanted_of frame.bytes wanted headers (frame_notes before frame))) (messages is) in
    record {
      bare = bare;
      fits = outline_fits frame.bytes wanted heads.headers heads.notes stand.outline;
      walked = subst (λ (w : Walk). IsWalked rules w new bare todos.Done) (sym (carried_way rules wanted before es frame headers way unasked carried opens))
          (subst (λ (u : TreeShown). IsWalked rules met new u todos.Done) (sym stand.tree)
          (tells.walked t es (buffers_of frame.bytes wanted headers (frame_notes before frame)) asks stands));
      with_links = sym (ap (λ (found : List (Option ℕ)). linked wanted found bare) tells.unlinked ∙ no_links wanted bare);
    }
