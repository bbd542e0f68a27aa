-- What the payload of a datagram is read as.
use Rattle.std.specs.Prelude.{◌==◌, Bool, false, if◌then◌else◌, Option, Some, None}
use Rattle.pk_base.specs.declared.span.Span.{Span}
use Rattle.pk_tree.specs.Buffers.{bytes_of}
use Rattle.pk_base.specs.declared.heads.After.{After}
use Rattle.pk_base.specs.declared.heads.After.TheVariants as afters
use Rattle.pk_base.specs.declared.heads.Mode.TheVariants.{Plain as PlainMode}
use Rattle.pk_tree.specs.Layouts.{layer_read}
use Rattle.pk_tree.specs.Trees.{TreeShown}
use Rattle.pk_fields.specs.declared.apps.App.{App}
use Rattle.app_layers.specs.DataLayer.{data_over}
use Rattle.app_layers.specs.Rows.{in_datagrams, layout_of, proto_of, rest_of}

-- the tree with what follows a layer, as data
abbrev pub data_behind : TreeShown → After → TreeShown
data_behind t (afters.Next which span) = data_over t span
data_behind t (afters.Packet which span packet) = t
data_behind t (afters.Fragment head span) = t
data_behind t (afters.Datagram head span) = t
data_behind t (afters.Segment head span) = t
data_behind t afters.End = t

-- the tree with a datagram's payload, read by its application, which is a single message
abbrev pub message_over : Option App → TreeShown → Bool → Span → TreeShown
message_over (Some app) t cut span =
    if in_datagrams app
    then data_behind (layer_read t (proto_of app) span (layout_of app false (bytes_of t.buffers span)) PlainMode cut) (rest_of app span (bytes_of t.buffers span))
    else data_over t span
message_over None t cut span = data_over t span

-- a payload of no bytes is no message
unfoldable pub payload_over : Option App → TreeShown → Bool → Span → TreeShown
payload_over app t cut span = if span.len == 0 then t else message_over app t cut span
