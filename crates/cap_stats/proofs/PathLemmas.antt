-- Paths of protocols, after one more frame and for one more layer.
use Rattle.std.proofs.Common.{◌≡◌, ◌==◌, ◌+◌, ◌<◌, ◌≤◌, ◌⊎◌, ℕ, Bool, true, false, cond, List, [], ◌∷◌, ◌++◌, length, map, take, codes, Option, Some, None, IfSome, is_some, option_and_then, unwrap_or, slice_get, refl, sym, ap, subst, ◌∙◌, true≢false, inl, inr, String, Global, string_bytes, string_cmp, append-nil, append_assoc, add-one, get_or, min, zero, suc, arith, if◌then◌else◌}
use Rattle.std.proofs.lemmas.Bool.{eqb-true}
use Rattle.std.proofs.lemmas.Grind.{flat_map-append}
use Rattle.std.proofs.lemmas.List.{take_more, length-append, length-set, length-take, length-take-le, length-map}
use Rattle.std.proofs.lemmas.Option.{slice_get_within}
use Rattle.pk_tree.specs.Trees.{proto_at}
use Rattle.pk_tree.specs.declared.layer.Layer.{Layer}
use Rattle.std.proofs.lemmas.Map.Made.{is_some-lookup}
use Rattle.std.proofs.lemmas.Map.Text.{is_eq-slice_cmp, btree_map_updates_text}
use Rattle.std.proofs.lemmas.Slice.Eq.{bytes_eq-Decides}
use Rattle.std.specs.BTreeMap as tree
use Rattle.std.specs.Cmp.Lexicographic.{slice_cmp}
use Rattle.std.specs.List.{list_any, flat_map, join_by, slice_set}
use Rattle.std.specs.Map.{keys_of}
use Rattle.std.specs.Ordering.{nat_cmp, is_eq}
use Rattle.std.specs.Str.{bytes_eq}
use Rattle.cap_stats.specs.declared.counts.Tally.{Tally}
use Rattle.cap_stats.specs.declared.paths.Paths.{Paths}
use Rattle.cap_stats.specs.declared.paths.Step.{Step}
use Rattle.cap_stats.specs.Counts.{sizes_tally}
use Rattle.cap_stats.specs.Keys.{place as put_in, texts_in}
use Rattle.cap_stats.specs.Stands.{AreApart, AreRecent, HasPaths, recent_of, tally_at}
use Rattle.cap_stats.specs.Steps.{tally_after}
use Rattle.cap_stats.specs.Told.{length_of, path_of, paths_to, paths_in, protocols_in}
use Rattle.pk_fields.specs.Fields.{row_of}
use Rattle.cap_stats.proofs.CountLemmas.{sizes_more}
use Rattle.cap_stats.proofs.GotLemmas.{got_before, got_last, got_other, got_set}
use Rattle.cap_stats.proofs.KeyLemmas.{noted, placed}
use Rattle.cap_stats.proofs.MapLemmas.{keys_noted}

texts_equal : (k q : List ℕ) → bytes_eq k q ≡ true → k ≡ q
texts_equal k q e = (bytes_eq-Decides k q).0 e

-- a text is looked for as its bytes are among the keys' bytes
texts_there : {Y X : Type 0} (path : List ℕ) (es : List (String Y × X))
    → list_any (λ k. is_eq (slice_cmp nat_cmp path (string_bytes k))) (keys_of es) ≡ list_any (bytes_eq path) (map string_bytes (keys_of es))
texts_there path [] = refl
texts_there path (e ∷ es) = rw (is_eq-slice_cmp path (string_bytes e.0), texts_there path es) refl

is_there : {Y X : Type 0} (path : List ℕ) (m : tree.BTreeMap (String Y) X) (seen : Option X)
    → seen ≡ tree.get_by_text m path
    → is_some seen ≡ list_any (bytes_eq path) (map string_bytes (tree.keys m))
is_there {X = X} path m seen found =
    ap (λ (o : Option X). is_some o) found
    ∙ is_some-lookup (λ k. is_eq (slice_cmp nat_cmp path (string_bytes k))) m.entries ∙ texts_there path m.entries

pub place_there : (paths : Paths) (path : List ℕ) (place : ℕ) → AreApart paths → tree.get_by_text paths.all path ≡ Some place → place < length paths.tallies.items
place_there paths path place are is = subst (λ (o : Option ℕ). IfSome o (λ p. p < length paths.tallies.items)) is (are.within path)

-- paths and their places stay
places_same : (old new : Paths) → new.all ≡ old.all → new.tallies ≡ old.tallies → AreApart old → AreApart new
places_same old new all tallies are =
    let same : (q : List ℕ) → tree.get_by_text new.all q ≡ tree.get_by_text old.all q = λ q i. tree.get_by_text (all i) q in record {
      within = λ q.
          subst (λ (o : Option ℕ). IfSome o (λ p. p < length new.tallies.items)) (sym (same q))
          (subst (λ (n : ℕ). IfSome (tree.get_by_text old.all q) (λ p. p < n)) (sym (λ i. length (tallies i).items)) (are.within q));
      apart = λ one other at a b. are.apart one other at (sym (same one) ∙ a) (sym (same other) ∙ b);
    }

-- the layers that are remembered keep their places where paths do
recent_stays : (old new : Paths) → new.recent ≡ old.recent
    → ((path : List ℕ) (place : ℕ) → tree.get_by_text old.all path ≡ Some place → tree.get_by_text new.all path ≡ Some place)
    → AreRecent old → AreRecent new
recent_stays old new recent stays are at step e =
    let back : path_of (take (suc at) (recent_of new)) ≡ path_of (take (suc at) (recent_of old)) = λ i. path_of (take (suc at) (map (λ (s : Step). s.proto) (recent i).items)) in
    ap (λ (path : List ℕ). tree.get_by_text new.all path) back
    ∙ stays (path_of (take (suc at) (recent_of old))) step.place (are at step (sym (λ i. slice_get (recent i).items at) ∙ e))

-- a frame more of a path that is there: what is counted at each path
module _ (old new : Paths) (path : List ℕ) (place : ℕ) (tally : Tally) (are : AreApart old) (is : tree.get_by_text old.all path ≡ Some place)
    (all : new.all ≡ old.all) (changed : new.tallies.items ≡ slice_set old.tallies.items place tally) where
  same_place : (q : List ℕ) → tree.get_by_text new.all q ≡ tree.get_by_text old.all q
  same_place q = λ i. tree.get_by_text (all i) q

  tally_set : (q : List ℕ) → tally_at new q ≡ cond (bytes_eq path q) (Some tally) (tally_at old q)
  tally_set q = (λ i. option_and_then (slice_get (changed i)) (same_place q i)) ∙ by (bytes_eq path q) refl (tree.get_by_text old.all q) refl
    where
      by : (test : Bool) → bytes_eq path q ≡ test → (at : Option ℕ) → tree.get_by_text old.all q ≡ at
          → option_and_then (slice_get (slice_set old.tallies.items place tally)) (tree.get_by_text old.all q)
          ≡ cond test (Some tally) (option_and_then (slice_get old.tallies.items) (tree.get_by_text old.all q))
      by true e at found =
          ap (λ (p : List ℕ). option_and_then (slice_get (slice_set old.tallies.items place tally)) (tree.get_by_text old.all p)) (sym (texts_equal path q e))
          ∙ ap (λ (o : Option ℕ). option_and_then (slice_get (slice_set old.tallies.items place tally)) o) is
          ∙ got_set old.tallies.items place tally (place_there old path place are is)
      by false e None found = rw found refl
      by false e (Some other) found =
          rw found (got_other old.tallies.items place tally other
          (λ same. absurd (true≢false (sym ((bytes_eq-Decides path q).1 (are.apart path q place is (found ∙ ap (λ (p : ℕ). Some p) same))) ∙ e))))

  set_apart : AreApart new
  set_apart =
      let long : length new.tallies.items ≡ length old.tallies.items = ap (λ (xs : List Tally). length xs) changed ∙ length-set old.tallies.items place tally in record {
        within = λ q.
            subst (λ (o : Option ℕ). IfSome o (λ p. p < length new.tallies.items)) (sym (same_place q))
            (subst (λ (n : ℕ). IfSome (tree.get_by_text old.all q) (λ p. p < n)) (sym long) (are.within q));
        apart = λ one other at a b. are.apart one other at (sym (same_place one) ∙ a) (sym (same_place other) ∙ b);
      }

pub path_raised : (old new : Paths) (path : List ℕ) (place bytes : ℕ) (was tally : Tally) (notes : List (List ℕ × ℕ))
    → tree.get_by_text old.all path ≡ Some place
    → slice_get old.tallies.items place ≡ Some was
    → tally ≡ tally_after (Some was) bytes
    → new.all ≡ old.all
    → new.recent ≡ old.recent
    → new.tallies.items ≡ slice_set old.tallies.items place tally
    → HasPaths notes old → HasPaths ((path, bytes) ∷ notes) new
unfolding texts_in
path_raised old new path place bytes was tally notes some there is all recent changed has =
    let present : true ≡ list_any (bytes_eq path) (map string_bytes (tree.keys old.all)) = is_there path old.all (Some place) (sym some) in
    let was_at : tally_at old path ≡ Some was = ap (λ (o : Option ℕ). option_and_then (slice_get old.tallies.items) o) some ∙ there in
    record {
      keys_are = keys_noted bytes_eq (λ k ks. put_in (slice_cmp nat_cmp) k ks) path (map string_bytes (tree.keys old.all)) (map string_bytes (tree.keys new.all)) (texts_in notes)
          true has.keys_are present (λ e i. map string_bytes (tree.keys (all i))) (λ e. absurd (true≢false e));
      tallies = noted bytes_eq texts_equal sizes_tally tally_after sizes_more (λ q. tally_at old q) (λ q. tally_at new q) path bytes tally notes has.tallies
          (is ∙ ap (λ (o : Option Tally). tally_after o bytes) (sym was_at)) (tally_set old new path place tally has.places some all changed);
      places = set_apart old new path place tally has.places some all changed;
      recent = recent_stays old new recent (λ q p e. (λ i. tree.get_by_text (all i) q) ∙ e) has.recent;
    }

-- the first frame of a path
module _ (old new : Paths) (path : List ℕ) (tally : Tally) (are : AreApart old) (absent : tree.get_by_text old.all path ≡ None)
    (puts : (q : List ℕ) → tree.get_by_text new.all q ≡ cond (bytes_eq path q) (Some (length old.tallies.items)) (tree.get_by_text old.all q))
    (more : new.tallies.items ≡ old.tallies.items ++ tally ∷ []) where
  here : (q : List ℕ) → bytes_eq path q ≡ true → tree.get_by_text new.all q ≡ Some (length old.tallies.items)
  here q e = puts q ∙ ap (λ (b : Bool). cond b (Some (length old.tallies.items)) (tree.get_by_text old.all q)) e

  elsewhere : (q : List ℕ) → bytes_eq path q ≡ false → tree.get_by_text new.all q ≡ tree.get_by_text old.all q
  elsewhere q e = puts q ∙ ap (λ (b : Bool). cond b (Some (length old.tallies.items)) (tree.get_by_text old.all q)) e

  stays : (q : List ℕ) (place : ℕ) → tree.get_by_text old.all q ≡ Some place → tree.get_by_text new.all q ≡ Some place
  stays q place found = by (bytes_eq path q) refl
    where
      by : (test : Bool) → bytes_eq path q ≡ test → tree.get_by_text new.all q ≡ Some place
      by true e = absurd (true≢false (sym (ap (λ (o : Option ℕ). is_some o) (sym absent ∙ ap (λ (p : List ℕ). tree.get_by_text old.all p) (texts_equal path q e) ∙ found))))
      by false e = elsewhere q e ∙ found

  tally_put : (q : List ℕ) → tally_at new q ≡ cond (bytes_eq path q) (Some tally) (tally_at old q)
  tally_put q = by (bytes_eq path q) refl (tree.get_by_text old.all q) refl
    where
      by : (test : Bool) → bytes_eq path q ≡ test → (at : Option ℕ) → tree.get_by_text old.all q ≡ at → tally_at new q ≡ cond test (Some tally) (tally_at old q)
      by true e at found = (λ i. option_and_then (slice_get (more i)) (here q e i)) ∙ got_last old.tallies.items tally
      by false e None found = ap (λ (o : Option ℕ). option_and_then (slice_get new.tallies.items) o) (elsewhere q e ∙ found) ∙ rw found refl
      by false e (Some at) found =
          (λ i. option_and_then (slice_get (more i)) ((elsewhere q e ∙ found) i)) ∙ got_before old.tallies.items tally at (place_there old q at are found)
          ∙ ap (λ (o : Option ℕ). option_and_then (slice_get old.tallies.items) o) (sym found)

  put_apart : AreApart new
  put_apart =
      let long : length new.tallies.items ≡ length old.tallies.items + 1 = ap (λ (xs : List Tally). length xs) more ∙ length-append old.tallies.items (tally ∷ []) in record {
        within = λ q. within q long (bytes_eq path q) refl (tree.get_by_text old.all q) refl;
        apart = λ one other at a b. apart one other at a b (bytes_eq path one) (bytes_eq path other) refl refl;
      }
    where
      within : (q : List ℕ) → length new.tallies.items ≡ length old.tallies.items + 1 → (test : Bool) → bytes_eq path q ≡ test → (at : Option ℕ) → tree.get_by_text old.all q ≡ at
          → IfSome (tree.get_by_text new.all q) (λ p. p < length new.tallies.items)
      within q long true e at found = rw (here q e) (omega (arith, long))
      within q long false e None found = rw (elsewhere q e, found) tt
      within q long false e (Some at) found = rw (elsewhere q e, found) (omega (arith, long, place_there old q at are found))

      new_place : (q : List ℕ) (at : ℕ) → tree.get_by_text new.all q ≡ Some at → bytes_eq path q ≡ true → at ≡ length old.tallies.items
      new_place q at found e = ap (λ (o : Option ℕ). unwrap_or o 0) (sym found ∙ here q e)

      old_place : (q : List ℕ) (at : ℕ) → tree.get_by_text new.all q ≡ Some at → bytes_eq path q ≡ false → tree.get_by_text old.all q ≡ Some at
      old_place q at found e = sym (elsewhere q e) ∙ found

      apart : (one other : List ℕ) (at : ℕ) → tree.get_by_text new.all one ≡ Some at → tree.get_by_text new.all other ≡ Some at
          → (a b : Bool) → bytes_eq path one ≡ a → bytes_eq path other ≡ b → one ≡ other
      apart one other at x y true true p q = sym (texts_equal path one p) ∙ texts_equal path other q
      apart one other at x y true false p q = absurd (omega (arith, new_place one at x p, place_there old other at are (old_place other at y q)))
      apart one other at x y false true p q = absurd (omega (arith, new_place other at y q, place_there old one at are (old_place one at x p)))
      apart one other at x y false false p q = are.apart one other at (old_place one at x p) (old_place other at y q)

pub path_put : (old new : Paths) (key : String Global) (path : List ℕ) (place bytes : ℕ) (tally : Tally) (notes : List (List ℕ × ℕ))
    → string_bytes key ≡ path
    → tree.get_by_text old.all path ≡ None
    → place ≡ length old.tallies.items
    → tally ≡ tally_after None bytes
    → new.all.entries ≡ tree.insert_entry string_cmp old.all.entries key place
    → tree.Updates string_cmp old.all new.all key (Some place)
    → new.tallies.items ≡ old.tallies.items ++ tally ∷ []
    → new.recent ≡ old.recent
    → HasPaths notes old → HasPaths ((path, bytes) ∷ notes) new
unfolding texts_in
path_put old new key path place bytes tally notes same none last is entries updates more recent has =
    let absent : false ≡ list_any (bytes_eq path) (map string_bytes (tree.keys old.all)) = is_there path old.all None (sym none) in
    let goes : false ≡ false → map string_bytes (tree.keys new.all) ≡ put_in (slice_cmp nat_cmp) path (map string_bytes (tree.keys old.all)) =
    λ e. ap (λ (es : List (String Global × ℕ)). map string_bytes (keys_of es)) entries
    ∙ placed string_cmp string_bytes (slice_cmp nat_cmp) bytes_eq (λ k q. refl) is_eq-slice_cmp key place old.all.entries
    (ap (λ (bs : List ℕ). list_any (bytes_eq bs) (map string_bytes (tree.keys old.all))) same ∙ sym absent)
    ∙ ap (λ (bs : List ℕ). put_in (slice_cmp nat_cmp) bs (map string_bytes (tree.keys old.all))) same in
    let puts = λ (q : List ℕ).
    btree_map_updates_text path old.all new.all (Some place) (subst (λ (bs : List ℕ). tree.UpdatesBy string_cmp (λ k. slice_cmp nat_cmp bs (string_bytes k)) old.all new.all (Some place)) same updates) q
    ∙ ap (λ (p : ℕ). cond (bytes_eq path q) (Some p) (tree.get_by_text old.all q)) last in
    let nothing : tally_at old path ≡ None = ap (λ (o : Option ℕ). option_and_then (slice_get old.tallies.items) o) none in
    record {
      keys_are = keys_noted bytes_eq (λ k ks. put_in (slice_cmp nat_cmp) k ks) path (map string_bytes (tree.keys old.all)) (map string_bytes (tree.keys new.all)) (texts_in notes)
          false has.keys_are absent (λ e. absurd (true≢false (sym e))) goes;
      tallies = noted bytes_eq texts_equal sizes_tally tally_after sizes_more (λ q. tally_at old q) (λ q. tally_at new q) path bytes tally notes has.tallies
          (is ∙ ap (λ (o : Option Tally). tally_after o bytes) (sym nothing)) (tally_put old new path tally has.places none puts more);
      places = put_apart old new path tally has.places none puts more;
      recent = recent_stays old new recent (stays old new path tally has.places none puts more) has.recent;
    }

-- what is remembered of layers up to one of them
took : (steps : List Step) (at : ℕ) (step : Step) → slice_get steps at ≡ Some step
    → take (suc at) (map (λ (s : Step). s.proto) steps) ≡ take at (map (λ (s : Step). s.proto) steps) ++ step.proto ∷ []
took [] at step e = absurd (true≢false (sym (ap (λ (o : Option Step). is_some o) e)))
took (s ∷ steps) zero step e = ap (λ (o : Option Step). (unwrap_or o s).proto ∷ []) e
took (s ∷ steps) (suc at) step e = ap (λ (protocols : List ℕ). s.proto ∷ protocols) (took steps at step e)

-- a path that is found by what is remembered
module _ (paths : Paths) (protocols : List ℕ) (at proto place : ℕ) (within : at < length protocols) (is : proto ≡ get_or protocols at proto)
    (same : take at (recent_of paths) ≡ take at protocols) (there : slice_get paths.recent.items at ≡ Some (record { proto = proto; place = place })) where
  pub same_more : take (at + 1) (recent_of paths) ≡ take (at + 1) protocols
  same_more =
      ap (λ (n : ℕ). take n (recent_of paths)) (add-one at)
      ∙ took paths.recent.items at (record { proto = proto; place = place }) there
      ∙ ap (λ (front : List ℕ). front ++ proto ∷ []) same
      ∙ ap (λ (p : ℕ). take at protocols ++ p ∷ []) is ∙ sym (take_more protocols at proto within)

  pub long_more : at + 1 ≤ length (recent_of paths)
  long_more =
      let inside : at < length paths.recent.items = slice_get_within paths.recent.items at (record { proto = proto; place = place }) there in
      let long : length (recent_of paths) ≡ length paths.recent.items = length-map paths.recent.items (λ (s : Step). s.proto) in omega (arith, inside, long)

  pub place_known : AreRecent paths → tree.get_by_text paths.all (path_of (take (at + 1) protocols)) ≡ Some place
  place_known are =
      ap (λ (ps : List ℕ). tree.get_by_text paths.all (path_of ps)) (sym same_more ∙ ap (λ (n : ℕ). take n (recent_of paths)) (add-one at))
      ∙ are at (record { proto = proto; place = place }) there

-- layers are forgotten
pub protocols_cut : (count : ℕ) (steps : List Step) → map (λ (s : Step). s.proto) (take count steps) ≡ take count (map (λ (s : Step). s.proto) steps)
protocols_cut zero steps = refl
protocols_cut (suc count) [] = refl
protocols_cut (suc count) (s ∷ steps) = ap (λ (protocols : List ℕ). s.proto ∷ protocols) (protocols_cut count steps)

cut : (count : ℕ) (steps : List Step) (at : ℕ) (step : Step) → slice_get (take count steps) at ≡ Some step
    → (slice_get steps at ≡ Some step) × (take (suc at) (map (λ (s : Step). s.proto) (take count steps)) ≡ take (suc at) (map (λ (s : Step). s.proto) steps))
cut zero steps at step e = absurd (true≢false (sym (ap (λ (o : Option Step). is_some o) e)))
cut (suc count) [] at step e = absurd (true≢false (sym (ap (λ (o : Option Step). is_some o) e)))
cut (suc count) (s ∷ steps) zero step e = (e, refl)
cut (suc count) (s ∷ steps) (suc at) step e = let rest = cut count steps at step e in (rest.0, ap (λ (protocols : List ℕ). s.proto ∷ protocols) rest.1)

pub paths_forgot : (old new : Paths) (count : ℕ) (notes : List (List ℕ × ℕ)) → new.all ≡ old.all → new.tallies ≡ old.tallies → new.recent.items ≡ take count old.recent.items
    → HasPaths notes old → HasPaths notes new
paths_forgot old new count notes all tallies recent has = record {
  keys_are = (λ i. map string_bytes (tree.keys (all i))) ∙ has.keys_are;
  tallies = λ q. (λ i. option_and_then (slice_get (tallies i).items) (tree.get_by_text (all i) q)) ∙ has.tallies q;
  places = places_same old new all tallies has.places;
  recent = λ at step e.
      let kept = cut count old.recent.items at step (ap (λ (steps : List Step). slice_get steps at) (sym recent) ∙ e) in
      (λ i. tree.get_by_text (all i) (path_of (take (suc at) (map (λ (s : Step). s.proto) (recent i)))))
      ∙ ap (λ (protocols : List ℕ). tree.get_by_text old.all (path_of protocols)) kept.1 ∙ has.recent at step kept.0;
}

-- a layer more is remembered
grown : (steps : List Step) (last : Step) (at : ℕ) (step : Step) → slice_get (steps ++ last ∷ []) at ≡ Some step
    → ((slice_get steps at ≡ Some step) × (take (suc at) (map (λ (s : Step). s.proto) (steps ++ last ∷ [])) ≡ take (suc at) (map (λ (s : Step). s.proto) steps)))
    ⊎ ((last ≡ step) × (take (suc at) (map (λ (s : Step). s.proto) (steps ++ last ∷ [])) ≡ map (λ (s : Step). s.proto) steps ++ last.proto ∷ []))
grown [] last zero step e = inr (ap (λ (o : Option Step). unwrap_or o last) e, refl)
grown [] last (suc at) step e = absurd (true≢false (sym (ap (λ (o : Option Step). is_some o) e)))
grown (s ∷ steps) last zero step e = inl (e, refl)
grown (s ∷ steps) last (suc at) step e = elim (grown steps last at step e) [
  | inl old ↦ inl (old.0, ap (λ (protocols : List ℕ). s.proto ∷ protocols) old.1)
  | inr new ↦ inr (new.0, ap (λ (protocols : List ℕ). s.proto ∷ protocols) new.1)
]

pub paths_recalled : (old new : Paths) (last : Step) (path : List ℕ) (notes : List (List ℕ × ℕ)) → new.all ≡ old.all → new.tallies ≡ old.tallies
    → new.recent.items ≡ old.recent.items ++ last ∷ [] → path ≡ path_of (recent_of old ++ last.proto ∷ []) → tree.get_by_text old.all path ≡ Some last.place
    → HasPaths notes old → HasPaths notes new
paths_recalled old new last path notes all tallies recent ends found has = record {
  keys_are = (λ i. map string_bytes (tree.keys (all i))) ∙ has.keys_are;
  tallies = λ q. (λ i. option_and_then (slice_get (tallies i).items) (tree.get_by_text (all i) q)) ∙ has.tallies q;
  places = places_same old new all tallies has.places;
  recent = λ at step e.
      (λ i. tree.get_by_text (all i) (path_of (take (suc at) (map (λ (s : Step). s.proto) (recent i)))))
      ∙ by at step (grown old.recent.items last at step (ap (λ (steps : List Step). slice_get steps at) (sym recent) ∙ e));
}
  where
    steps : List Step
    steps = old.recent.items ++ last ∷ []

    by : (at : ℕ) (step : Step)
        → ((slice_get old.recent.items at ≡ Some step) × (take (suc at) (map (λ (s : Step). s.proto) steps) ≡ take (suc at) (recent_of old)))
        ⊎ ((last ≡ step) × (take (suc at) (map (λ (s : Step). s.proto) steps) ≡ recent_of old ++ last.proto ∷ []))
        → tree.get_by_text old.all (path_of (take (suc at) (map (λ (s : Step). s.proto) steps))) ≡ Some step.place
    by at step (inl here) = ap (λ (protocols : List ℕ). tree.get_by_text old.all (path_of protocols)) here.1 ∙ has.recent at step here.0
    by at step (inr here) =
        ap (λ (protocols : List ℕ). tree.get_by_text old.all (path_of protocols)) here.1
        ∙ ap (λ (text : List ℕ). tree.get_by_text old.all text) (sym ends) ∙ found ∙ ap (λ (s : Step). Some s.place) here.0

-- a path's text with one more name
join_more : (first : ℕ) (protocols : List ℕ) (proto : ℕ)
    → join_by (λ p. (row_of p).name) (codes ":") (first ∷ (protocols ++ proto ∷ []))
    ≡ join_by (λ p. (row_of p).name) (codes ":") (first ∷ protocols) ++ (codes ":" ++ (row_of proto).name)
join_more first protocols proto =
    ap (λ (rest : List ℕ). (row_of first).name ++ rest)
    (flat_map-append (λ p. codes ":" ++ (row_of p).name) protocols (proto ∷ [])
    ∙ ap (λ (rest : List ℕ). flat_map (λ p. codes ":" ++ (row_of p).name) protocols ++ rest) (append-nil (codes ":" ++ (row_of proto).name)))
    ∙ sym (append_assoc (row_of first).name (flat_map (λ p. codes ":" ++ (row_of p).name) protocols) (codes ":" ++ (row_of proto).name))

path_longer : (front : List ℕ) (proto place : ℕ) → length front ≡ place
    → path_of front ++ ((if place == 0 then [] else codes ":") ++ (row_of proto).name) ≡ path_of (front ++ proto ∷ [])
unfolding path_of
path_longer [] proto place is =
    subst (λ (p : ℕ). [] ++ (cond (p == 0) [] (codes ":") ++ (row_of proto).name) ≡ (row_of proto).name ++ []) is (sym (append-nil (row_of proto).name))
path_longer (first ∷ front) proto place is = by (place == 0) refl
  where
    by : (test : Bool) → (place == 0) ≡ test
        → join_by (λ p. (row_of p).name) (codes ":") (first ∷ front) ++ (cond (place == 0) [] (codes ":") ++ (row_of proto).name)
        ≡ join_by (λ p. (row_of p).name) (codes ":") (first ∷ (front ++ proto ∷ []))
    by true e = let none : place ≡ 0 = eqb-true place 0 e in absurd (omega arith)
    by false e =
        ap (λ (test : Bool). join_by (λ p. (row_of p).name) (codes ":") (first ∷ front) ++ (cond test [] (codes ":") ++ (row_of proto).name)) e
        ∙ sym (join_more first front proto)

pub path_more : (protocols : List ℕ) (place proto : ℕ) → place < length protocols → proto ≡ get_or protocols place proto
    → path_of (take place protocols) ++ ((if place == 0 then [] else codes ":") ++ (row_of proto).name) ≡ path_of (take (place + 1) protocols)
path_more protocols place proto within at =
    path_longer (take place protocols) proto place (length-take-le place protocols (omega arith))
    ∙ ap (λ (ps : List ℕ). path_of ps) (ap (λ (p : ℕ). take place protocols ++ p ∷ []) at ∙ sym (take_more protocols place proto within))

-- protocols with one more
pub protocols_more : (protocols recent : List ℕ) (place proto : ℕ) → place < length protocols → proto ≡ get_or protocols place proto
    → recent ≡ take place protocols → recent ++ proto ∷ [] ≡ take (place + 1) protocols
protocols_more protocols recent place proto within is same =
    ap (λ (front : List ℕ). front ++ proto ∷ []) same ∙ ap (λ (p : ℕ). take place protocols ++ p ∷ []) is ∙ sym (take_more protocols place proto within)

-- one path more before others
pub paths_step : (bytes : ℕ) (protocols : List ℕ) (place : ℕ) (path : List ℕ) (notes : List (List ℕ × ℕ)) → path ≡ path_of (take (place + 1) protocols)
    → (path, bytes) ∷ (paths_to bytes protocols place ++ notes) ≡ paths_to bytes protocols (place + 1) ++ notes
paths_step bytes protocols place path notes is =
    ap (λ (p : List ℕ). (p, bytes) ∷ (paths_to bytes protocols place ++ notes)) (is ∙ ap (λ (n : ℕ). path_of (take n protocols)) (add-one place))
    ∙ ap (λ (n : ℕ). paths_to bytes protocols n ++ notes) (sym (add-one place))

-- all paths that a tree shows
pub paths_shown : (layers : List Layer) (bytes count : ℕ) → bytes ≡ length_of layers → count ≡ min 32 (length layers)
    → paths_to bytes (protocols_in layers) count ≡ paths_in layers
unfolding paths_in protocols_in
paths_shown layers bytes count size all =
    (λ i. paths_to (size i) (map (λ (layer : Layer). layer.proto) (take 32 layers)) (all i))
    ∙ ap (λ (n : ℕ). paths_to (length_of layers) (map (λ (layer : Layer). layer.proto) (take 32 layers)) n)
    (sym (length-take 32 layers) ∙ sym (length-map (take 32 layers) (λ (layer : Layer). layer.proto)))

pub protocols_count : (layers : List Layer) → length (protocols_in layers) ≡ min 32 (length layers)
unfolding protocols_in
protocols_count layers = length-map (take 32 layers) (λ (layer : Layer). layer.proto) ∙ length-take 32 layers

-- the protocol of the layer at a place
proto_taken : (layers : List Layer) (most place : ℕ) → place < length (map (λ (layer : Layer). layer.proto) (take most layers))
    → proto_at layers place ≡ get_or (map (λ (layer : Layer). layer.proto) (take most layers)) place (proto_at layers place)
proto_taken layers zero place inside = absurd (omega (arith, inside))
proto_taken [] (suc most) place inside = absurd (omega (arith, inside))
proto_taken (layer ∷ layers) (suc most) zero inside = refl
proto_taken (layer ∷ layers) (suc most) (suc place) inside = proto_taken layers most place (omega (arith, inside))

pub proto_here : (layers : List Layer) (place proto : ℕ) → place < length (protocols_in layers) → proto ≡ proto_at layers place → proto ≡ get_or (protocols_in layers) place proto
unfolding protocols_in
proto_here layers place proto inside is = rw is (proto_taken layers 32 place inside)
