-- What is read by the headers of a plain frame alone: what its last header carries, where no message of it is asked.
use Rattle.std.specs.Prelude.{◌≡◌, ℕ, Bool, true, false, ◌&&◌, List, [], ◌∷◌, if◌then◌else◌, Option, Some, None}
use Rattle.pk_fields.specs.Fields.{row_of}
use Rattle.pk_fields.specs.FieldSets.{is_in}
use Rattle.pk_fields.specs.Ids.{WS_MALFORMED, WS_SHORT}
use Rattle.pk_fields.specs.declared.apps.App.{App}
use Rattle.pk_fields.specs.declared.rules.PortRule.{PortRule}
use Rattle.pk_tree.specs.Trees.{TreeShown}
use Rattle.app_layers.specs.Rows.{in_datagrams, is_passed, proto_of}
use Rattle.capture_read.specs.declared.frame.Frame.{Frame}
use Rattle.dissect.specs.Carried.{carried_by, carrier_proto}
use Rattle.dissect.specs.Events.{Event, NewFrame}
use Rattle.dissect.specs.Stands.{IsWalked, StandsAt}
use Rattle.dissect.specs.Ways.{carried_met, carrier_of, span_of}
use Rattle.dissect.specs.declared.carried.Carried.{Carried}
use Rattle.dissect.specs.declared.state.State.{State}
use Rattle.dissect.specs.declared.todo.Todo.TheVariants as todos
use Rattle.dissect.specs.declared.ways.Carried.{Carried as WayCarried}

-- those of a datagram where no application has messages in datagrams; some messages are passed over where nothing of them is asked
abbrev pub shown_app : Bool → App → Option Bool
shown_app passes app = if in_datagrams app then (if passes && is_passed app then Some false else None) else Some true

abbrev pub shown_of : Option App → Bool → Option Bool
shown_of None passes = Some true
shown_of (Some app) passes = shown_app passes app

-- nothing is asked of the messages that are passed over, nor of the faults behind them
pub record AsksNoDatagrams (wanted : List ℕ) : Type 0 where
  pub short : is_in wanted WS_SHORT ≡ false
  pub malformed : is_in wanted WS_MALFORMED ≡ false
  pub fields : (app : App) → is_passed app ≡ true → (f : ℕ) → (row_of f).proto ≡ proto_of app → is_in wanted f ≡ false

-- with what a last header carries its frame is read, whatever tree its headers made; it shows no message that has a link
pub record Tells (rules : List PortRule) (frame : Frame) (passes : Bool) (way : WayCarried) (old new : State) (c : Carried) : Type 0 where
  pub payload : c.payload ≡ span_of way
  pub carrier : carrier_proto c.carrier ≡ carrier_of way
  pub unlinked : new.found.items ≡ []
  pub walked : (t : TreeShown) (es : List Event) → t.buffers ≡ frame.bytes ∷ [] → (passes ≡ true → AsksNoDatagrams t.wanted) → StandsAt rules es old
      → IsWalked rules (carried_met rules frame t (NewFrame ∷ es) way) new (carried_by c t) todos.Done
