-- What a fragment makes of the fragments of its datagram that were taken before it.
use Rattle.std.specs.Prelude.{◌==◌, ◌&&◌, ◌||◌, not, ◌≤◌, ℕ, Bool, false, List, length, [], ◌∷◌, ◌++◌, map, if◌then◌else◌, Option, None, Some, nat_lt, find, unwrap_or, option_map}
use Rattle.std.specs.List.{list_any}
use Rattle.pk_base.specs.declared.heads.FragmentHead.{FragmentHead}
use Rattle.range_bytes.specs.Held.{bytes_at}
use Rattle.ip_join.specs.declared.joined.ConflictKind.TheVariants.{TooLong, MultipleTails, Overlap6}
use Rattle.ip_join.specs.declared.joined.ConflictKind.{ConflictKind}
use Rattle.ip_join.specs.declared.joined.Datagram.{Datagram}
use Rattle.ip_join.specs.declared.joined.Joined.{Joined}
use Rattle.ip_join.specs.declared.joined.Joined.TheVariants.{Pending, Whole, Conflict}
use Rattle.ip_join.specs.declared.fragment.Fragment.{Fragment}
use Rattle.ip_join.specs.Fragments.{end_of, overlaps, repeats, reaches_past, map_of, known_end, holds_below}

-- a datagram has at most 65,535 bytes (RFC 791, 3.1: the length field)
abbrev pub is_too_long : Fragment → Bool
is_too_long new = nat_lt 65535 (end_of new)

-- the end is known, and the fragment leaves it behind or gives another
abbrev pub misses_end : Option ℕ → Fragment → Bool
misses_end None new = false
misses_end (Some end) new =
    nat_lt end (end_of new) || (not new.head.more && not (end_of new == end))

-- or the fragment gives an end that held bytes stand at or past
abbrev pub has_two_ends : List Fragment → Fragment → Bool
has_two_ends counted new =
    misses_end (known_end counted) new
    || (not new.head.more && list_any (reaches_past (end_of new)) counted)

-- IPv6 fragments that overlap are an error (RFC 5722, 3), where one isn't the other once more
abbrev pub is_overlap_six : List Fragment → Fragment → Bool
is_overlap_six counted new =
    new.head.six && (list_any (overlaps new) counted && not (list_any (repeats new) counted))

-- the first of these that holds
abbrev pub conflict_of : List Fragment → Fragment → Option ConflictKind
conflict_of counted new = if is_too_long new then Some TooLong else
    (if has_two_ends counted new then Some MultipleTails else
    (if is_overlap_six counted new then Some Overlap6 else None))

-- the end, where all positions below it are held
abbrev pub end_if_held : List Fragment → Option ℕ → Option ℕ
end_if_held fragments None = None
end_if_held fragments (Some end) = if holds_below (map_of fragments) end then Some end else None

abbrev pub whole_end : List Fragment → Option ℕ
whole_end fragments = end_if_held fragments (known_end fragments)

-- what the datagram carries: under IPv6 the next header of the first fragment with offset 0 (RFC 8200, 4.5)
abbrev pub next_of : List Fragment → FragmentHead → ℕ
next_of fragments head =
    if head.six then unwrap_or
    (option_map (λ g. g.head.next) (find (λ g. g.head.offset == 0) fragments)) head.next
    else head.next

-- the datagram of fragments that hold all positions below an end, by the head of the last of them
abbrev pub datagram_of : List Fragment → FragmentHead → ℕ → Datagram
datagram_of fragments head end = record {
  next = next_of fragments head;
  bytes = bytes_at (map_of fragments) 0 end;
  frames = map (λ g. g.frame) fragments;
}

abbrev pub datagram_if_whole : List Fragment → FragmentHead → Option Datagram
datagram_if_whole fragments head = option_map (datagram_of fragments head) (whole_end fragments)

abbrev pub completed : Option Datagram → Joined
completed None = Pending
completed (Some datagram) = Whole datagram

abbrev pub joined_unless : Option ConflictKind → List Fragment → Fragment → Joined
joined_unless (Some kind) counted new = Conflict kind
joined_unless None counted new = completed (datagram_if_whole (counted ++ new ∷ []) new.head)

-- a conflict, or the datagram where it is whole now, or neither
unfoldable pub joined_of : List Fragment → Fragment → Joined
joined_of counted new = joined_unless (conflict_of counted new) counted new

-- a datagram has at most 65,535 bytes
abbrev pub IsShort : Joined → Type 0
IsShort Pending = Unit {0}
IsShort (Whole datagram) = length datagram.bytes ≤ 65535
IsShort (Conflict kind) = Unit {0}
