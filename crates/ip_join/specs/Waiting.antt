-- How many bytes of fragments wait for the rest of their datagrams.
use Rattle.std.specs.Prelude.{ℕ, Bool, ◌+◌, ◌&&◌, ◌||◌, length, nat_le, nat_lt, sum_by}
use Rattle.std.specs.BTreeMap as tree
use Rattle.ip_join.specs.declared.joined.Joined.{Joined}
use Rattle.ip_join.specs.declared.joined.Joined.TheVariants.{Pending, Whole, Conflict}
use Rattle.ip_join.specs.declared.joins.Joins.{Joins}
use Rattle.ip_join.specs.declared.fragment.Fragment.{Fragment}
use Rattle.ip_join.specs.Forms.{bytes_kept}
use Rattle.ip_join.specs.Fragments.{end_of}

-- the bytes of all fragments whose datagrams aren't whole yet
unfoldable pub bytes_waiting : Joins → ℕ
bytes_waiting joins =
    sum_by bytes_kept (tree.values joins.four) + sum_by bytes_kept (tree.values joins.wide)

-- the bytes of a datagram that is whole now
abbrev pub bytes_joined : Joined → ℕ
bytes_joined Pending = 0
bytes_joined (Whole datagram) = length datagram.bytes
bytes_joined (Conflict kind) = 0

-- the first fragment of a datagram, that neither ends too far nor makes it whole
abbrev pub waits_alone : Fragment → Bool
waits_alone f = nat_le (end_of f) 65535 && (f.head.more || nat_lt 0 f.head.offset)
