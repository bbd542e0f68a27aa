-- What a segment brings that a plain frame carries, where its stream is followed.
use Rattle.std.specs.Prelude.{◌≡◌, ◌==◌, ℕ, Bool, true, false, All, List, [], ◌∷◌, length, if◌then◌else◌, Option, Some, None}
use Rattle.pk_fields.specs.Ids.{TCP}
use Rattle.pk_fields.specs.declared.rules.PortRule.{PortRule}
use Rattle.pk_base.specs.declared.heads.Mode.TheVariants.{Plain}
use Rattle.pk_source.specs.Outlines.{IsOutline, outlined, sizes_of}
use Rattle.pk_source.specs.declared.header.Header.{Header}
use Rattle.pk_tree.specs.Layouts.{layer_read}
use Rattle.pk_tree.specs.Tables.{steps_of}
use Rattle.pk_tree.specs.Trees.{IsTree, TreeShown}
use Rattle.tcp_streams.specs.Labels.{PassesNear}
use Rattle.tcp_messages.specs.Shown.{IsWholeIn, frames_told as gathered_from}
use Rattle.capture_read.specs.declared.frame.Frame.{Frame}
use Rattle.app_layers.specs.FrameLayer.{is_cut}
use Rattle.app_layers.specs.MessageLayers.{application, carried_over}
use Rattle.app_layers.specs.Payloads.{segment_told}
use Rattle.app_layers.specs.declared.times.Times.{Times}
use Rattle.message_links.specs.Linked.{linked}
use Rattle.message_links.specs.Notes.{shown_notes, tcp_direction}
use Rattle.dissect.specs.Carried.{is_free, place_of}
use Rattle.dissect.specs.Events.{Event, NewFrame}
use Rattle.std.specs.List.{AllByRecursion as Each}
use Rattle.dissect.specs.Heads.{HeadsShown, IsHeaderLayer}
use Rattle.dissect.specs.Keeping.{keeps_all}
use Rattle.dissect.specs.Plain.{own}
use Rattle.dissect.specs.Stands.{IsLinked, IsRead, IsWalked, StandsAt}
use Rattle.dissect.specs.Tells.{Tells}
use Rattle.dissect.specs.Trees.{kept_walk}
use Rattle.dissect.specs.Ways.{Carries, Opens, carried_met, carrier_of, held_of, span_of}
use Rattle.dissect.specs.declared.carried.Carried.{Carried}
use Rattle.dissect.specs.declared.carried.Carrier.TheVariants as carriers
use Rattle.dissect.specs.declared.plain_trees.TakenBy.{TakenBy}
use Rattle.dissect.specs.declared.plain_trees.TakenBy.TheVariants as takens
use Rattle.dissect.specs.declared.feeding.Brought.{Brought}
use Rattle.dissect.specs.declared.feeding.Fed.{Fed}
use Rattle.dissect.specs.declared.feeding.Fed.TheVariants as feds
use Rattle.dissect.specs.declared.state.State.{State}
use Rattle.dissect.specs.declared.todo.Todo.TheVariants as todos
use Rattle.dissect.specs.declared.ways.Carried.{Carried as WayCarried}

-- the tree of a frame that brought messages, where this is the tree of its headers
abbrev pub brought_over : Frame → Brought → TreeShown → TreeShown
brought_over frame b t = carried_over b.app (is_cut frame) b.payload (segment_told t b.met.taken b.payload) b.met.messages

-- the messages that a segment brought can be shown
pub record AreShowable (frame : Frame) (b : Brought) : Type 0 where
  pub near : PassesNear b.met.taken
  pub frames : b.met.frames ≡ gathered_from b.met.messages
  pub whole : All (IsWholeIn (own frame b.payload)) b.met.messages

-- with the messages that its segment brought a frame is read, whatever tree its headers made
pub record Brings (rules : List PortRule) (frame : Frame) (way : WayCarried) (old new : State) (b : Brought) : Type 0 where
  pub payload : b.payload ≡ span_of way
  pub carrier : carrier_of way ≡ TCP
  pub showable : AreShowable frame b
  pub walked : (t : TreeShown) (es : List Event) → t.buffers ≡ frame.bytes ∷ [] → StandsAt rules es old
      → IsWalked rules (carried_met rules frame t (NewFrame ∷ es) way) new (brought_over frame b t) todos.Done

-- its frame is read by its headers, or by the tree that they make, or not yet
abbrev pub IsFed : List PortRule → Frame → Bool → WayCarried → State → State → Fed → Type 0
IsFed rules frame passes way old new feds.Left = new ≡ old
IsFed rules frame passes way old new (feds.Told c) = Tells rules frame passes way old new c
IsFed rules frame passes way old new (feds.Brought b) = Brings rules frame way old new b

-- what was taken as where no stream is followed
abbrev pub as_fed : Option Carried → Fed
as_fed None = feds.Left
as_fed (Some carried) = feds.Told carried

-- what a segment carries that brought no message, with its place
abbrev pub told_alone : Brought → Carried
told_alone b = record { carrier = carriers.Segment (Some (place_of b.met.taken)); payload = b.payload; free = is_free b.app }

-- by whether messages are shown
abbrev pub fed_of : Bool → Brought → Fed
fed_of none b = if none then feds.Told (told_alone b) else feds.Brought b

abbrev pub fed_by : Brought → Fed
fed_by b = fed_of (length b.met.messages == 0) b

-- the messages that a segment brought are linked; where it brought none, no link was found
pub record IsMet (frame : Frame) (b : Brought) (old new : State) : Type 0 where
  pub links : keeps_all old.keeps ≡ true → IsLinked frame.number (tcp_direction b.met.taken) (shown_notes (application b.app) (own frame b.payload) b.met.messages) old new
  pub none : b.met.messages ≡ [] → new.found.items ≡ []

-- the tree by which a frame was taken
abbrev pub taken_tree : List ℕ → List ℕ → HeadsShown → TakenBy → TreeShown
taken_tree bytes wanted heads takens.Headers = outlined bytes wanted heads.headers heads.notes
taken_tree bytes wanted heads (takens.Tree tree) = tree

-- where these are headers, they are an outline
abbrev pub HasOutline : List ℕ → List ℕ → HeadsShown → TakenBy → Type 0
HasOutline bytes wanted heads takens.Headers = IsOutline bytes wanted heads.headers heads.notes
HasOutline bytes wanted heads (takens.Tree tree) = Unit {0}

-- where these are headers, no layer is a message, and none names another frame
abbrev pub ShowsHeaders : List ℕ → List ℕ → HeadsShown → TakenBy → Type 0
ShowsHeaders bytes wanted heads takens.Headers = Each IsHeaderLayer (outlined bytes wanted heads.headers heads.notes).layers
ShowsHeaders bytes wanted heads (takens.Tree tree) = Unit {0}

-- ---- the tree of headers

-- one header more, which is read whole
abbrev pub header_over : TreeShown → Header → TreeShown
header_over t h = layer_read t h.proto h.span (steps_of (held_of h.proto) (sizes_of h) h.slots.now) Plain false

abbrev pub grown_by : TreeShown → List Header → TreeShown
grown_by t [] = t
grown_by t (h ∷ hs) = grown_by (header_over t h) hs

-- ---- what is taken of a frame

-- headers tell it, with what is told beside them
pub record IsToldBy (rules : List PortRule) (wanted : List ℕ) (before : Times) (frame : Frame) (old new : State) (heads : HeadsShown) : Type 0 where
  pub read : (es : List Event) → StandsAt rules es old → IsRead rules wanted (kept_walk rules wanted before es frame) new (outlined frame.bytes wanted heads.headers heads.notes)
  pub outline : IsOutline frame.bytes wanted heads.headers heads.notes
  pub alone : Each IsHeaderLayer (outlined frame.bytes wanted heads.headers heads.notes).layers

-- its segment brought messages, which are shown behind these headers
pub record IsBrought (rules : List PortRule) (frame : Frame) (old new : State) (headers : List Header) (b : Brought) : Type 0 where
  pub way : WayCarried
  pub carries : Carries frame headers way
  pub opens : Opens frame headers
  pub brings : Brings rules frame way old new b

abbrev pub HasFed : List PortRule → List ℕ → Times → Frame → State → State → HeadsShown → Fed → Type 0
HasFed rules wanted before frame old new heads feds.Left = new ≡ old
HasFed rules wanted before frame old new heads (feds.Told c) = IsToldBy rules wanted before frame old new heads
HasFed rules wanted before frame old new heads (feds.Brought b) = IsBrought rules frame old new heads.headers b

-- this tree was taken, with these links
abbrev pub IsTreeOf : List ℕ → List (Option ℕ) → TreeShown → TakenBy → Type 0
IsTreeOf wanted found t takens.Headers = ⊥
IsTreeOf wanted found t (takens.Tree tree) = (tree ≡ linked wanted found t) × IsTree t
