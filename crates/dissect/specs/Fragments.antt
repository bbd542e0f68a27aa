-- Fragments: those that were met, and where the way through a frame goes on in a datagram that is whole.
use Rattle.std.specs.Prelude.{ℕ, true, List, [], ◌∷◌}
use Rattle.pk_base.specs.declared.heads.After.{After}
use Rattle.pk_base.specs.declared.heads.After.TheVariants as afters
use Rattle.pk_base.specs.declared.heads.FragmentHead.{FragmentHead}
use Rattle.pk_base.specs.declared.heads.Mode.TheVariants.{Plain}
use Rattle.pk_base.specs.declared.heads.PacketHead.{PacketHead}
use Rattle.pk_tree.specs.Trees.{TreeShown}
use Rattle.dis_ip.specs.Protocols.{carried_by}
use Rattle.ip_join.specs.declared.fragment.Fragment.{Fragment}
use Rattle.ip_join.specs.declared.joined.Datagram.{Datagram}
use Rattle.app_layers.specs.Fragments.{joined_span}
use Rattle.dissect.specs.declared.todo.Todo.{Todo}
use Rattle.dissect.specs.declared.todo.Todo.TheVariants as todos
use Rattle.dissect.specs.Events.{Event, NewFrame, Piece, Udp, Tcp}

-- a fragment, as it is taken
abbrev pub fragment_from : ℕ → FragmentHead → List ℕ → Fragment
fragment_from frame head bytes = record { head = head; frame = frame; bytes = bytes }

-- the fragments among events
unfoldable pub fragments_of : List Event → List Fragment
fragments_of [] = []
fragments_of (NewFrame ∷ es) = fragments_of es
fragments_of (Piece frame head bytes ∷ es) = fragment_from frame head bytes ∷ fragments_of es
fragments_of (Udp frame packet head bytes ∷ es) = fragments_of es
fragments_of (Tcp frame packet head bytes ∷ es) = fragments_of es

-- what stands for the IP header of a datagram's packet: its fragments' addresses
abbrev pub joined_packet : FragmentHead → PacketHead
joined_packet head = record { source = head.source; target = head.target; whole = true }

-- the header that follows, if one does
abbrev pub todo_by : PacketHead → After → Todo
todo_by packet (afters.Next which span) = todos.Head (record { which = which; span = span; packet = packet; mode = Plain })
todo_by packet after = todos.Done

-- a datagram is read on from its first byte, by the number of what it carries; nothing follows in one of no bytes
abbrev pub joined_todo : TreeShown → FragmentHead → Datagram → Todo
joined_todo t head datagram =
    todo_by (joined_packet head) (carried_by head.six datagram.next (joined_span t datagram) 0)
