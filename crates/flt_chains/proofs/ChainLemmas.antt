-- Chains of signs and commas, one more or one less.
use Rattle.std.proofs.Common.{◌≡◌, ◌≤◌, ◌<◌, ℕ, Bor, List, [], ◌∷◌, ◌++◌, Option, Some, ap, sym, refl, ◌∙◌, subst, arith}
use Rattle.flt_chains.specs.Chains.{Reaches, Stands}

push : {A : Type 0} (left : A → Option A) (whole : A) (ns : List (Bor A)) (n : Bor A) (next : A) → Stands left whole ns n.now → left n.now ≡ Some next
    → Stands left whole (ns ++ n ∷ []) next
push left whole [] n next stands is = (stands, next, is, refl)
push left whole (m ∷ ns) n next stands is = (stands.0, stands.1, stands.2, push left stands.1 ns n next stands.3 is)

pub stands_push : {A : Type 0} (left : A → Option A) (whole : A) (ns new : List (Bor A)) (n : Bor A) (next : A) → Stands left whole ns n.now
    → left n.now ≡ Some next → new ≡ ns ++ n ∷ [] → Stands left whole new next
stands_push left whole ns new n next stands is more = subst (λ x. Stands left whole x next) (sym more) (push left whole ns n next stands is)

-- what stands above a part
pub record Above {A : Type 0} (left : A → Option A) (whole : A) (ns : List (Bor A)) (n : Bor A) (part : A) : Type 0 where
  pub stands : Stands left whole ns n.now
  pub left_is : left n.now ≡ Some part

pop : {A : Type 0} (left : A → Option A) (whole : A) (ns : List (Bor A)) (n : Bor A) (part : A) → Stands left whole (ns ++ n ∷ []) part → Above left whole ns n part
pop left whole [] n part s = record { stands = s.0; left_is = s.2 ∙ ap Some s.3 }
pop left whole (m ∷ ns) n part s =
    let rest = pop left s.1 ns n part s.3 in
    record { stands = (s.0, s.1, s.2, rest.stands); left_is = rest.left_is }

pub stands_pop : {A : Type 0} (left : A → Option A) (whole : A) (ns old : List (Bor A)) (n : Bor A) (part : A) → Stands left whole old part → old ≡ ns ++ n ∷ []
    → Above left whole ns n part
stands_pop left whole ns old n part s last = pop left whole ns n part (subst (λ x. Stands left whole x part) last s)

-- one up: what holds of a part makes something hold of what it is the left of
pub reaches_up : {A : Type 0} (left : A → Option A) (Claim New : A → Type 0) (whole : A) (ns old : List (Bor A)) (n : Bor A) → Reaches left Claim whole old
    → old ≡ ns ++ n ∷ [] → ((part : A) → left n.now ≡ Some part → Claim part → New n.now) → Reaches left New whole ns
reaches_up left Claim New whole ns old n at last up =
    let above = stands_pop left whole ns old n at.0 at.1 last in
    (n.now, above.stands, up at.0 above.left_is at.2)

-- at the top
pub reaches_whole : {A : Type 0} (left : A → Option A) (Claim : A → Type 0) (whole : A) (above : List (Bor A)) → above ≡ [] → Reaches left Claim whole above → Claim whole
reaches_whole left Claim whole above none at = subst Claim (sym (subst (λ x. Stands left whole x at.0) none at.1)) at.2

-- what rises from each left part holds of the whole
pub rises : {A : Type 0} (left : A → Option A) (Claim : A → Type 0) → ((whole part : A) → left whole ≡ Some part → Claim part → Claim whole)
    → (whole : A) (ns : List (Bor A)) (part : A) → Stands left whole ns part → Claim part → Claim whole
rises left Claim up whole [] part s h = subst Claim (sym s) h
rises left Claim up whole (n ∷ ns) part s h = subst Claim (sym s.0) (up n.now s.1 s.2 (rises left Claim up s.1 ns part s.3 h))

-- a part is no larger than the whole
pub part_size : {A : Type 0} (left : A → Option A) (size : A → ℕ) → ((a b : A) → left a ≡ Some b → size b < size a) → (whole : A) (ns : List (Bor A)) (part : A)
    → Stands left whole ns part → size part ≤ size whole
part_size left size smaller whole ns part s =
    rises left (λ x. size part ≤ size x) (λ above below is h. let down = smaller above below is in omega (arith, h, down)) whole ns part s (omega arith)
