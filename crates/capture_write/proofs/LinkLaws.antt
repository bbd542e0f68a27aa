-- The link types of the frames so far, as a set in order keeps them.
use Rattle.std.proofs.Common.{◌≡◌, ◌<◌, ◌≤◌, ◌^◌, ℕ, suc, Bool, true, false, cond, eqb, ltb, List, [], ◌∷◌, ◌++◌, length, Some, None, refl, sym, ap, ◌∙◌, true≢false, arith}
use Rattle.std.specs.Prelude.{not, ◌||◌, if◌then◌else◌, position}
use Rattle.std.specs.List.{list_any, position_or_len, IsDistinct}
use Rattle.std.specs.Option.{unwrap_or}
use Rattle.std.proofs.lemmas.Bool.Decides.{nat_tests}
use Rattle.std.proofs.lemmas.List.Recursion.{is_position_or_len}
use Rattle.std.proofs.lemmas.Map.Steps.{length-le_from_distinct_below}
use Rattle.indexmap.specs.IndexSet.{insert_key}
use Rattle.capture_write.specs.Pcapng.{place_of, is_new, links_with, AreLinkTypes}

pub is_new_by : (link : ℕ) (links : List ℕ) → not (list_any (eqb link) links) ≡ is_new link links
is_new_by link [] = refl
is_new_by link (l ∷ links) = by (eqb link l) (is_new_by link links)
  where
    by : (b : Bool) → not (list_any (eqb link) links) ≡ is_new link links
        → not (b || list_any (eqb link) links) ≡ (if b then false else is_new link links)
    by true before = refl
    by false before = before

pub place_most : (link : ℕ) (links : List ℕ) → place_of link links ≤ length links
place_most link [] = omega arith
place_most link (l ∷ links) = by (eqb link l) (place_most link links)
  where
    by : (b : Bool) → place_of link links ≤ length links → (if b then 0 else suc (place_of link links)) ≤ suc (length links)
    by true before = omega arith
    by false before = omega arith

place_is : (link : ℕ) (links : List ℕ) → place_of link links ≡ position_or_len (eqb link) links
place_is link links = is_position_or_len (place_of link) (eqb link) refl (λ x xs. ap (cond (eqb link x) 0) (omega arith)) links

-- the place that a look-up finds, or the next one
pub place_by : (link : ℕ) (links : List ℕ) → unwrap_or (position (eqb link) links) (length links) ≡ place_of link links
place_by link links =
    let most : position_or_len (eqb link) links ≤ length links = rw (← place_is link links) (place_most link links) in
    rw (place_is link links) (by (position_or_len (eqb link) links) (length links) most)
  where
    by : (place count : ℕ) → place ≤ count → unwrap_or (cond (ltb place count) (Some place) None) count ≡ place
    by place count h = grind (arith, nat_tests)

not_back : (b : Bool) → b ≡ true → not b ≡ false
not_back b h = rw h refl

-- there are at most as many as numbers of 16 bits
pub place_few : (link : ℕ) (links : List ℕ) → IsDistinct eqb links → AreLinkTypes links → place_of link links ≤ 2 ^ 16
place_few link links distinct are =
    let few : length links ≤ 2 ^ 16 = length-le_from_distinct_below links (2 ^ 16) distinct
    (λ q h. are q (sym (is_new_by q links) ∙ not_back (list_any (eqb q) links) h)) in
    omega (arith, place_most link links)

pub links_by : (link : ℕ) (links : List ℕ) → insert_key eqb links link ≡ links_with link links
links_by link links = rw (← is_new_by link links) (by (list_any (eqb link) links))
  where
    by : (b : Bool) → (if b then links else links ++ link ∷ []) ≡ (if not b then links ++ link ∷ [] else links)
    by true = refl
    by false = refl

is_new-push : (q link : ℕ) (links : List ℕ) → is_new q (links ++ link ∷ []) ≡ (if is_new q links then not (eqb q link) else false)
is_new-push q link [] = by (eqb q link)
  where
    by : (b : Bool) → (if b then false else true) ≡ not b
    by true = refl
    by false = refl
is_new-push q link (l ∷ links) = by (eqb q l) (is_new-push q link links)
  where
    by : (b : Bool) → is_new q (links ++ link ∷ []) ≡ (if is_new q links then not (eqb q link) else false)
        → (if b then false else is_new q (links ++ link ∷ [])) ≡ (if (if b then false else is_new q links) then not (eqb q link) else false)
    by true before = refl
    by false before = before

-- one more of them
pub are_more : (link : ℕ) (links : List ℕ) → link < 2 ^ 16 → AreLinkTypes links → AreLinkTypes (links_with link links)
are_more link links small are = by (is_new link links)
  where
    pushed : (q : ℕ) (b : Bool) → is_new q links ≡ b → is_new q (links ++ link ∷ []) ≡ false → q < 2 ^ 16
    pushed q true new h =
        let same : not (eqb q link) ≡ false = ap (λ (b : Bool). if b then not (eqb q link) else false) (sym new) ∙ sym (is_new-push q link links) ∙ h in
        grind (arith, nat_tests)
    pushed q false old h = are q old

    by : (b : Bool) → AreLinkTypes (if b then links ++ link ∷ [] else links)
    by true = λ q h. pushed q (is_new q links) refl h
    by false = are

pub are_none : AreLinkTypes []
are_none link h = absurd (true≢false h)
