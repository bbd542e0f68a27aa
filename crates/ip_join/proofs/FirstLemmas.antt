-- Among the IPv6 fragments that count for a datagram, those with bytes at an offset are the first once more.
use Rattle.std.proofs.Common.{◌≡◌, Bool, true, false, cond, not, ◌&&◌, List, [], ◌∷◌, ◌++◌, None, Some, refl}
use Rattle.std.specs.Bool.{beq}
use Rattle.std.specs.List.{list_any}
use Rattle.std.proofs.lemmas.Bool.{and_parts, false≢true}
use Rattle.ip_join.specs.declared.joined.ConflictKind.TheVariants.{TooLong, MultipleTails, Overlap6}
use Rattle.ip_join.specs.declared.joined.Joined.{Joined}
use Rattle.ip_join.specs.declared.joined.Joined.TheVariants.{Pending, Whole, Conflict}
use Rattle.ip_join.specs.declared.fragment.Fragment.{Fragment}
use Rattle.ip_join.specs.Keys.{same_key}
use Rattle.ip_join.specs.Fragments.{overlaps, repeats}
use Rattle.ip_join.specs.Datagrams.{is_too_long, has_two_ends, is_overlap_six, joined_unless, joined_of}
use Rattle.ip_join.specs.Stands.{left_after, counted_for}
use Rattle.ip_join.specs.Kept.{AreFirst}
use Rattle.ip_join.proofs.KeptLemmas.{first_push}

beq_true : (b c : Bool) → beq b c ≡ true → c ≡ true → b ≡ true
beq_true true c same is = refl
beq_true false true same is = absurd (false≢true same)
beq_true false false same is = is

left_any : (joined : Joined) (gs : List Fragment) → AreFirst gs → AreFirst (left_after joined gs)
left_any Pending gs first = first
left_any (Whole datagram) gs first = tt
left_any (Conflict kind) gs first = tt

clean : (six other : Bool) → six ≡ true → (six && other) ≡ false → other ≡ false
clean true other is none = none
clean false other is none = absurd (false≢true is)

left_by : (counted : List Fragment) (g : Fragment) (long ends overlap : Bool) → g.head.six ≡ true → is_overlap_six counted g ≡ overlap → AreFirst counted
    → AreFirst (left_after (joined_unless (cond long (Some TooLong) (cond ends (Some MultipleTails) (cond overlap (Some Overlap6) None))) counted g) (counted ++ g ∷ []))
left_by counted g true ends overlap six is first = tt
left_by counted g false true overlap six is first = tt
left_by counted g false false true six is first = tt
left_by counted g false false false six is first =
    left_any (joined_unless None counted g) (counted ++ g ∷ [])
    (first_push counted g first six (clean g.head.six (list_any (overlaps g) counted && not (list_any (repeats g) counted)) six is))

left_first : (counted : List Fragment) (g : Fragment) → g.head.six ≡ true → AreFirst counted → AreFirst (left_after (joined_of counted g) (counted ++ g ∷ []))
unfolding joined_of
left_first counted g six first = left_by counted g (is_too_long g) (has_two_ends counted g) (is_overlap_six counted g) six refl first

either_first : (b : Bool) (xs ys : List Fragment) → (b ≡ true → AreFirst xs) → AreFirst ys → AreFirst (cond b xs ys)
either_first true xs ys one other = one refl
either_first false xs ys one other = other

pub counted_first : (f : Fragment) (past : List Fragment) → f.head.six ≡ true → AreFirst (counted_for f past)
counted_first f [] six = tt
counted_first f (g ∷ past) six =
    let rest = counted_first f past six in
    either_first (same_key g.head f.head) (left_after (joined_of (counted_for f past) g) (counted_for f past ++ g ∷ [])) (counted_for f past)
    (λ same. left_first (counted_for f past) g (beq_true g.head.six f.head.six (and_parts (beq g.head.six f.head.six) _ same).0 six) rest) rest
