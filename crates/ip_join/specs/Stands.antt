-- The fragments taken, the newest first, and the joins that stand for them.
use Rattle.std.specs.Prelude.{◌≡◌, List, [], ◌∷◌, ◌++◌, if◌then◌else◌, filter, Option}
use Rattle.std.specs.BTreeMap as tree
use Rattle.pk_base.specs.declared.heads.FragmentHead.{FragmentHead}
use Rattle.ip_join.specs.declared.joined.Joined.{Joined}
use Rattle.ip_join.specs.declared.joined.Joined.TheVariants.{Pending, Whole, Conflict}
use Rattle.ip_join.specs.declared.joins.Joins.{Joins}
use Rattle.ip_join.specs.declared.fragment.Fragment.{Fragment}
use Rattle.ip_join.specs.declared.kept.Kept.{Kept}
use Rattle.ip_join.specs.declared.key.Key.{Key}
use Rattle.ip_join.specs.declared.key.Key.TheVariants.{Four, Wide}
use Rattle.ip_join.specs.Keys.{same_key}
use Rattle.ip_join.specs.Datagrams.{joined_of}
use Rattle.ip_join.specs.Forms.{fragments_in}
use Rattle.ip_join.specs.KeyOrder.{key_of, four_cmp, wide_cmp}

-- what is left of a datagram's fragments after an answer: a whole datagram and a conflict forget them
abbrev pub left_after : Joined → List Fragment → List Fragment
left_after Pending fragments = fragments
left_after (Whole datagram) fragments = []
left_after (Conflict kind) fragments = []

-- the fragments that count for a fragment's datagram: those since its last completion or conflict
abbrev pub counted_for : Fragment → List Fragment → List Fragment
counted_for f [] = []
counted_for f (g ∷ past) = if same_key g.head f.head
    then left_after (joined_of (counted_for f past) g) (counted_for f past ++ g ∷ [])
    else counted_for f past

-- what a fragment makes of all that were taken before it
unfoldable pub joined_by : List Fragment → Fragment → Joined
joined_by past new = joined_of (counted_for new past) new

-- the fragments of one datagram among those taken
abbrev pub of_key : FragmentHead → List Fragment → List Fragment
of_key head past = filter (λ g. same_key g.head head) past

-- what the joins keep by a key
abbrev pub kept_at : Joins → Key → Option Kept
kept_at joins (Four key) = tree.get four_cmp joins.four key
kept_at joins (Wide key) = tree.get wide_cmp joins.wide key

-- the joins keep, by keys, the fragments that count
unfoldable pub Stands : List Fragment → Joins → Type 0
Stands past joins = (f : Fragment)
    → fragments_in f.head (kept_at joins (key_of f.head)) ≡ counted_for f past

-- and the same but for one datagram's, of which none are kept
unfoldable pub StandsWithout : List Fragment → FragmentHead → Joins → Type 0
StandsWithout past head joins = (f : Fragment)
    → fragments_in f.head (kept_at joins (key_of f.head))
    ≡ (if same_key head f.head then [] else counted_for f past)
