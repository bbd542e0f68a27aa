-- Fragments, and what several of one datagram hold together (RFC 791, 3.2; RFC 8200, 4.5). The fragments of one datagram
-- are listed in the order in which they were taken.
use Rattle.std.specs.Prelude.{◌==◌, ◌&&◌, ℕ, zero, suc, ◌+◌, min, max, Bool, true, List, [], ◌∷◌, length, if◌then◌else◌, Option, None, Some, is_some, nat_lt, bytes_eq}
use Rattle.std.specs.FinMap.{get, empty}
use Rattle.range_bytes.specs.Held.{Held, put_run}
use Rattle.ip_join.specs.declared.fragment.Fragment.{Fragment}

-- the position behind a fragment's bytes
abbrev pub end_of : Fragment → ℕ
end_of fragment = fragment.head.offset + length fragment.bytes

-- two fragments that have a position in common
abbrev pub overlaps : Fragment → Fragment → Bool
overlaps f g = nat_lt (max f.head.offset g.head.offset) (min (end_of f) (end_of g))

-- two fragments with the same bytes at the same positions
abbrev pub repeats : Fragment → Fragment → Bool
repeats f g = f.head.offset == g.head.offset && bytes_eq f.bytes g.bytes

-- a fragment that has a byte at or past a position
abbrev pub reaches_past : ℕ → Fragment → Bool
reaches_past end g = nat_lt (max end g.head.offset) (end_of g)

-- how many bytes fragments have
abbrev pub bytes_in : List Fragment → ℕ
bytes_in [] = 0
bytes_in (g ∷ gs) = length g.bytes + bytes_in gs

abbrev pub put_fragments : Held → List Fragment → Held
put_fragments held [] = held
put_fragments held (g ∷ gs) = put_fragments (put_run held g.head.offset g.bytes g.frame) gs

-- each position that a fragment covers, with the byte and the frame of the first that does
abbrev pub map_of : List Fragment → Held
map_of fragments = put_fragments empty fragments

abbrev pub end_after : Option ℕ → List Fragment → Option ℕ
end_after end [] = end
end_after end (g ∷ gs) = end_after (if g.head.more then end else Some (end_of g)) gs

-- where the datagram ends, if a fragment behind which no more follow says so
abbrev pub known_end : List Fragment → Option ℕ
known_end fragments = end_after None fragments

-- whether every position below one is held
abbrev pub holds_below : Held → ℕ → Bool
holds_below held zero = true
holds_below held (suc n) = is_some (get held n) && holds_below held n
