-- What is kept beside the fragments of one datagram, so that no later fragment walks them.
use Rattle.std.specs.Prelude.{◌≡◌, ◌==◌, ◌&&◌, ◌≤◌, ℕ, max, Bool, true, List, [], ◌∷◌, length, if◌then◌else◌, Option, None, Some, nat_lt}
use Rattle.std.specs.BTreeMap as tree
use Rattle.std.specs.Ordering.{nat_cmp}
use Rattle.range_bytes.specs.Held.{Held}
use Rattle.ip_join.specs.declared.fragment.Fragment.{Fragment}
use Rattle.ip_join.specs.Fragments.{end_of, map_of, known_end}

abbrev pub has_bytes : Fragment → Bool
has_bytes g = nat_lt 0 (length g.bytes)

-- the end of the fragment with bytes that ends last
abbrev pub last_end : ℕ → List Fragment → ℕ
last_end last [] = last
last_end last (g ∷ gs) = last_end (if has_bytes g then max last (end_of g) else last) gs

-- the bytes of the first IPv6 fragment with bytes at an offset
abbrev pub first_copy : ℕ → List Fragment → Option (List ℕ)
first_copy offset [] = None
first_copy offset (g ∷ gs) =
    if g.head.six && (g.head.offset == offset && has_bytes g) then Some g.bytes
    else first_copy offset gs

abbrev pub AreFirstIn : List Fragment → List Fragment → Type 0
AreFirstIn all [] = Unit {0}
AreFirstIn all (g ∷ gs) =
    (has_bytes g ≡ true → first_copy g.head.offset all ≡ Some g.bytes) × AreFirstIn all gs

-- at each offset all fragments with bytes are the first once more
abbrev pub AreFirst : List Fragment → Type 0
AreFirst gs = AreFirstIn gs gs

-- all end at or before position 65,535
abbrev pub AreShort : List Fragment → Type 0
AreShort [] = Unit {0}
AreShort (g ∷ gs) = (end_of g ≤ 65535) × AreShort gs

pub record IsKept (fragments : List Fragment) (held : Held) (end : Option ℕ) (last : ℕ)
    (firsts : tree.BTreeMap ℕ (List ℕ)) : Type 0 where
  pub held_is : held ≡ map_of fragments
  pub end_is : end ≡ known_end fragments
  pub last_is : last ≡ last_end 0 fragments
  pub firsts_are : (offset : ℕ) → tree.get nat_cmp firsts offset ≡ first_copy offset fragments
  pub short : AreShort fragments
