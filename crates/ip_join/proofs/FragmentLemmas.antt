-- What fragments hold together, as one more is taken.
use Rattle.std.proofs.Common.{◌≡◌, ℕ, zero, suc, ◌<◌, ◌≤◌, Bool, true, false, cond, ◌&&◌, List, [], ◌∷◌, ◌++◌, Option, Some, is_some, refl, ap, ◌∙◌, inl, inr, arith}
use Rattle.std.specs.FinMap.{get, empty}
use Rattle.std.proofs.lemmas.Bool.{cases_lt}
use Rattle.range_bytes.specs.Held.{Held, put_run, IsFront, HoldsAll}
use Rattle.ip_join.specs.declared.fragment.Fragment.{Fragment}
use Rattle.ip_join.specs.Fragments.{end_of, put_fragments, map_of, end_after, holds_below}

put_fragments-push : (held : Held) (gs : List Fragment) (f : Fragment) → put_fragments held (gs ++ f ∷ []) ≡ put_run (put_fragments held gs) f.head.offset f.bytes f.frame
put_fragments-push held [] f = refl
put_fragments-push held (g ∷ gs) f = put_fragments-push (put_run held g.head.offset g.bytes g.frame) gs f

pub map_of-push : (gs : List Fragment) (f : Fragment) → map_of (gs ++ f ∷ []) ≡ put_run (map_of gs) f.head.offset f.bytes f.frame
map_of-push gs f = put_fragments-push empty gs f

pub end_after-push : (end : Option ℕ) (gs : List Fragment) (f : Fragment) → end_after end (gs ++ f ∷ []) ≡ end_after (end_after end gs) (f ∷ [])
end_after-push end [] f = refl
end_after-push end (g ∷ gs) f = end_after-push (cond g.head.more end (Some (end_of g))) gs f

-- all below a position is held exactly where the front isn't before it
pub holds_below_front : (held : Held) (front end : ℕ) → IsFront held front → end ≤ front → holds_below held end ≡ true
holds_below_front held front zero is within = refl
holds_below_front held front (suc n) is within = rw (is.below n (omega arith)) (holds_below_front held front n is (omega arith))

pub not_held_past : (held : Held) (front end : ℕ) → IsFront held front → front < end → holds_below held end ≡ false
not_held_past held front zero is past = absurd (omega arith)
not_held_past held front (suc n) is past = elim (cases_lt front n) [
  | inl before ↦ elim (is_some (get held n)) as (λ (b : Bool). (b && holds_below held n) ≡ false) [ true ↦ not_held_past held front n is before | false ↦ refl ]
  | inr after ↦
      let same : n ≡ front = omega arith in
      let none : is_some (get held n) ≡ false = ap (λ (p : ℕ). is_some (get held p)) same ∙ ap is_some is.free in
      rw none refl
]

pub held_below : (held : Held) (front end : ℕ) → IsFront held front → end ≤ front → HoldsAll held 0 end
held_below held front end is within = λ position _ low. is.below position (omega arith)
