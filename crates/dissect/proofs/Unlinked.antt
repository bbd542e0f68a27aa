-- A frame that shows no message has no link, and none is kept for later frames.
use Rattle.std.proofs.Common.{◌≡◌, ◌==◌, ℕ, Bool, true, false, true≢false, Option, None, Some, List, [], ◌∷◌, length, map, refl, ap, sym, subst, ◌∙◌, arith}
use Rattle.std.proofs.lemmas.Bool.Decides.{nat_tests}
use Rattle.std.proofs.lemmas.Option.{none-some}
use Rattle.pk_fields.specs.declared.apps.App.{App}
use Rattle.pk_fields.specs.declared.apps.App.TheVariants.{Dns}
use Rattle.tcp_messages.specs.declared.met.ShownMessage.{ShownMessage}
use Rattle.app_layers.specs.Rows.{in_datagrams}
use Rattle.message_links.specs.LinkTables.{LinksStandFor}
use Rattle.message_links.specs.Notes.{datagram_notes, message_note, shown_notes}
use Rattle.message_links.specs.declared.notes.Direction.{Direction}
use Rattle.message_links.specs.declared.notes.Note.{Note}
use Rattle.dissect.specs.Stands.{IsLinked}
use Rattle.dissect.specs.Tells.{shown_of}
use Rattle.dissect.specs.declared.state.State.{State}

pub none_linked : (frame : ℕ) (at : Direction) (notes : List Note) (old new : State) → notes ≡ [] → new.found.items ≡ [] → new.links ≡ old.links → IsLinked frame at notes old new
none_linked frame at notes old new none unfound same =
    subst (λ (all : List Note). IsLinked frame at all old new) (sym none)
    (record { found = λ ns stands. unfound; links = λ ns stands. subst (LinksStandFor ns) (sym same) stands })

-- no message of a segment
pub nothing_shown : (ms : List ShownMessage) → (length ms == 0) ≡ true → ms ≡ []
nothing_shown [] empty = refl
nothing_shown (m ∷ ms) empty =
    let some : (length (m ∷ ms) == 0) ≡ false = grind (arith, nat_tests) in
    absurd (true≢false (sym empty ∙ some))

pub notes_none : (app : Option App) (payload : List ℕ) (ms : List ShownMessage) → (length ms == 0) ≡ true → shown_notes app payload ms ≡ []
notes_none None payload ms empty = refl
notes_none (Some app) payload ms empty = ap (map (message_note app payload)) (nothing_shown ms empty)

-- no message of a datagram, of which none is passed over
pub unnoted : (app : Option App) (free : Bool) (bytes : List ℕ) → shown_of app false ≡ Some free → datagram_notes app bytes ≡ []
unfolding in_datagrams
unnoted None free bytes shown = refl
unnoted (Some Dns) free bytes shown = absurd (none-some free shown)
unnoted (Some app) free bytes shown = refl
