-- What of a frame is told by the streams of TCP.
use Rattle.std.specs.Prelude.{◌≡◌, ◌==◌, ℕ, zero, suc, Bool, true, false, ◌&&◌, ◌||◌, List, [], ◌∷◌}
use Rattle.pk_fields.specs.Fields.{row_of}
use Rattle.pk_fields.specs.FieldSets.{is_in}
use Rattle.pk_fields.specs.Ids.{TCP_ACK, TCP_LOST, TCP_SEGMENT, TCP_SEQ, TCP_STREAM, WS_MALFORMED, WS_SHORT, field_count}
use Rattle.pk_base.specs.declared.chosen.Layers.{Layers}
use Rattle.pk_fields.specs.declared.apps.App.{App}
use Rattle.pk_tree.specs.FieldValues.{values_of}
use Rattle.pk_tree.specs.Trees.{TreeShown}
use Rattle.app_layers.specs.Rows.{framed_apps, proto_of}

-- a protocol or a field of it is asked, among the fields below a number
unfoldable pub asks_any : ℕ → ℕ → List ℕ → Bool
asks_any zero proto wanted = false
asks_any (suc n) proto wanted = ((row_of n).proto == proto && is_in wanted n) || asks_any n proto wanted

-- something is asked of the messages of one of these applications
abbrev pub asks_apps : List App → List ℕ → Bool
asks_apps [] wanted = false
asks_apps (app ∷ apps) wanted = asks_any field_count (proto_of app) wanted || asks_apps apps wanted

-- something is asked of the messages of streams: the frames that brought them, their layers, or the fault layers behind these
unfoldable pub asks_messages : List ℕ → Bool
asks_messages wanted =
    is_in wanted TCP_SEGMENT
    || is_in wanted WS_SHORT
    || is_in wanted WS_MALFORMED
    || asks_apps framed_apps wanted

-- something is asked of streams: a segment's place, or messages; a segment's length and its payload are its own
unfoldable pub asks_streams : List ℕ → Bool
asks_streams wanted =
    is_in wanted TCP_STREAM || is_in wanted TCP_SEQ || is_in wanted TCP_ACK || is_in wanted TCP_LOST || asks_messages wanted

-- a tree has the same values of the wanted fields as the whole tree
abbrev pub HasSameValues : List ℕ → TreeShown → TreeShown → Type 0
HasSameValues wanted whole t = (field : ℕ) (layers : Layers) → is_in wanted field ≡ true
    → values_of t field layers ≡ values_of whole field layers
