-- A map that holds the sums of notes, after one more note.
use Rattle.std.proofs.Common.{◌≡◌, ◌==◌, ◌+◌, ◌<◌, ℕ, Bool, true, false, cond, List, [], ◌∷◌, ◌++◌, length, Option, Some, None, is_some, option_and_then, slice_get, unwrap_or, refl, sym, ap, subst, ◌∙◌, true≢false, inl, inr, arith}
use Rattle.std.proofs.lemmas.Bool.{cases_Bool, eq-eqb, eqb-true}
use Rattle.std.proofs.lemmas.List.{length-append, length-set}
use Rattle.std.proofs.lemmas.Option.{slice_get_within}
use Rattle.std.specs.BTreeMap as tree
use Rattle.std.specs.List.{list_any, slice_set}
use Rattle.cap_stats.specs.declared.counts.Talk.{Talk}
use Rattle.cap_stats.specs.declared.pairs.Pairs.{Pairs}
use Rattle.cap_stats.specs.declared.party.Flight.{Flight}
use Rattle.cap_stats.specs.Counts.{of_key, talk_of}
use Rattle.cap_stats.specs.Keys.{same_pair, pair_cmp, pairs_in}
use Rattle.cap_stats.specs.Stands.{AreInOrder, HasPairs, pair_talk}
use Rattle.cap_stats.specs.Steps.{first_talk, talk_after, talk_with}
use Rattle.cap_stats.proofs.CountLemmas.{talk_more}
use Rattle.cap_stats.proofs.GotLemmas.{got_before, got_elsewhere, got_last, got_other, got_set}
use Rattle.cap_stats.proofs.KeyLemmas.{noted, pair_itself, pair_tied, pairs_equal, there}

-- the keys, which stay where the key is among them
pub keys_noted : {K : Type 0} (same : K → K → Bool) (put : K → List K → List K) (key : K) (old new keys : List K) (present : Bool)
    → old ≡ keys → present ≡ list_any (same key) old
    → (present ≡ true → new ≡ old) → (present ≡ false → new ≡ put key old)
    → new ≡ cond (list_any (same key) keys) keys (put key keys)
keys_noted {K} same put key old new keys present are is stays goes =
    subst (λ (ks : List K). new ≡ cond (list_any (same key) ks) ks (put key ks)) are (by present is stays goes)
  where
    by : (b : Bool) → b ≡ list_any (same key) old → (b ≡ true → new ≡ old) → (b ≡ false → new ≡ put key old)
        → new ≡ cond (list_any (same key) old) old (put key old)
    by true e here away = here refl ∙ ap (λ (b : Bool). cond b old (put key old)) e
    by false e here away = away refl ∙ ap (λ (b : Bool). cond b old (put key old)) e

-- two addresses are among those of the packets where there are packets between them
pair_there : (pair : ℕ × ℕ) (notes : List ((ℕ × ℕ) × Flight)) → is_some (talk_of (of_key same_pair pair notes)) ≡ list_any (same_pair pair) (pairs_in notes)
unfolding talk_of pairs_in
pair_there pair notes = there same_pair pairs_equal pair_itself talk_of refl (λ f fs. refl) pair notes

pairs_kept : (pair : ℕ × ℕ) (flight : Flight) (notes : List ((ℕ × ℕ) × Flight)) (any : Bool) → list_any (same_pair pair) (pairs_in notes) ≡ any
    → cond any (pairs_in notes) (pairs_in notes ++ pair ∷ []) ≡ pairs_in ((pair, flight) ∷ notes)
unfolding pairs_in
pairs_kept pair flight notes any is = ap (λ (b : Bool). cond b (pairs_in notes) (pairs_in notes ++ pair ∷ [])) (sym is)

talks_noted : (old new : Pairs) (pair : ℕ × ℕ) (flight : Flight) (talk : Talk) (notes : List ((ℕ × ℕ) × Flight))
    → ((q : ℕ × ℕ) → pair_talk old q ≡ talk_of (of_key same_pair q notes))
    → talk ≡ talk_after (pair_talk old pair) flight
    → ((q : ℕ × ℕ) → pair_talk new q ≡ cond (same_pair pair q) (Some talk) (pair_talk old q))
    → (q : ℕ × ℕ) → pair_talk new q ≡ talk_of (of_key same_pair q ((pair, flight) ∷ notes))
talks_noted old new pair flight talk notes held is changed =
    noted same_pair pairs_equal talk_of talk_after talk_more (pair_talk old) (pair_talk new) pair flight talk notes held is changed

-- a pair that is there
pub place_within : (pairs : Pairs) (pair : ℕ × ℕ) (place : ℕ) → AreInOrder pairs → tree.get pair_cmp pairs.all pair ≡ Some place → place < length pairs.talks.items
place_within pairs pair place are is =
    let inside : place < length pairs.order.items = slice_get_within pairs.order.items place pair (are.found pair place is) in
    omega (arith, inside, are.count)

-- a packet between two addresses that are there
module _ (old new : Pairs) (pair : ℕ × ℕ) (place : ℕ) (talk : Talk) (are : AreInOrder old) (is : tree.get pair_cmp old.all pair ≡ Some place)
    (order : new.order ≡ old.order) (all : new.all ≡ old.all) (changed : new.talks.items ≡ slice_set old.talks.items place talk) where
  same_place : (q : ℕ × ℕ) → tree.get pair_cmp new.all q ≡ tree.get pair_cmp old.all q
  same_place q = λ i. tree.get pair_cmp (all i) q

  talk_set : (q : ℕ × ℕ) → pair_talk new q ≡ cond (same_pair pair q) (Some talk) (pair_talk old q)
  talk_set q = (λ i. option_and_then (slice_get (changed i)) (same_place q i)) ∙ by (same_pair pair q) refl (tree.get pair_cmp old.all q) refl
    where
      by : (test : Bool) → same_pair pair q ≡ test → (at : Option ℕ) → tree.get pair_cmp old.all q ≡ at
          → option_and_then (slice_get (slice_set old.talks.items place talk)) (tree.get pair_cmp old.all q)
          ≡ cond test (Some talk) (option_and_then (slice_get old.talks.items) (tree.get pair_cmp old.all q))
      by true e at found =
          ap (λ (p : ℕ × ℕ). option_and_then (slice_get (slice_set old.talks.items place talk)) (tree.get pair_cmp old.all p)) (sym (pairs_equal pair q e))
          ∙ ap (λ (o : Option ℕ). option_and_then (slice_get (slice_set old.talks.items place talk)) o) is
          ∙ got_set old.talks.items place talk (place_within old pair place are is)
      by false e None found = rw found refl
      by false e (Some other) found = rw found (got_other old.talks.items place talk other (apart other found e))
        where
          apart : (other : ℕ) → tree.get pair_cmp old.all q ≡ Some other → same_pair pair q ≡ false → other ≡ place → ⊥
          apart other found e same =
              let twice : Some pair ≡ Some q =
              sym (are.found pair place is) ∙ ap (λ (n : ℕ). slice_get old.order.items n) (sym same) ∙ are.found q other found in
              let one : pair ≡ q = ap (λ (o : Option (ℕ × ℕ)). unwrap_or o pair) twice in
              true≢false (sym (pair_itself pair) ∙ ap (λ (p : ℕ × ℕ). same_pair pair p) one ∙ e)

  set_in_order : AreInOrder new
  set_in_order = record {
    found = λ q at e. (λ i. slice_get (order i).items at) ∙ are.found q at (sym (same_place q) ∙ e);
    known = λ q at e. same_place q ∙ are.known q at (sym (λ i. slice_get (order i).items at) ∙ e);
    count = ap (λ (ts : List Talk). length ts) changed ∙ length-set old.talks.items place talk ∙ are.count ∙ sym (λ i. length (order i).items);
  }

pub pair_raised : (old new : Pairs) (pair : ℕ × ℕ) (place : ℕ) (flight : Flight) (was talk : Talk) (notes : List ((ℕ × ℕ) × Flight))
    → tree.get pair_cmp old.all pair ≡ Some place
    → slice_get old.talks.items place ≡ Some was
    → talk ≡ talk_with was flight
    → new.order ≡ old.order
    → new.all ≡ old.all
    → new.talks.items ≡ slice_set old.talks.items place talk
    → HasPairs notes old → HasPairs ((pair, flight) ∷ notes) new
pair_raised old new pair place flight was talk notes some held is order all changed has =
    let was_there : pair_talk old pair ≡ Some was = ap (λ (o : Option ℕ). option_and_then (slice_get old.talks.items) o) some ∙ held in
    let present : list_any (same_pair pair) (pairs_in notes) ≡ true = sym (pair_there pair notes) ∙ ap is_some (sym (has.talks pair) ∙ was_there) in
    record {
      keys_are = (λ i. (order i).items) ∙ has.keys_are ∙ pairs_kept pair flight notes true present;
      talks = talks_noted old new pair flight talk notes has.talks (is ∙ ap (λ (o : Option Talk). talk_after o flight) (sym was_there))
          (talk_set old new pair place talk has.places some order all changed);
      places = set_in_order old new pair place talk has.places some order all changed;
    }

-- and between two that are new
module _ (old new : Pairs) (pair : ℕ × ℕ) (place : ℕ) (talk : Talk) (are : AreInOrder old) (none : tree.get pair_cmp old.all pair ≡ None)
    (last : place ≡ length old.talks.items) (order : new.order.items ≡ old.order.items ++ pair ∷ []) (more : new.talks.items ≡ old.talks.items ++ talk ∷ [])
    (updates : tree.Updates pair_cmp old.all new.all pair (Some place)) where
  puts : (q : ℕ × ℕ) → tree.get pair_cmp new.all q ≡ cond (same_pair pair q) (Some place) (tree.get pair_cmp old.all q)
  puts q = updates.0 q ∙ ap (λ (b : Bool). cond b (Some place) (tree.get pair_cmp old.all q)) (pair_tied pair q)

  here : (q : ℕ × ℕ) → same_pair pair q ≡ true → tree.get pair_cmp new.all q ≡ Some place
  here q e = puts q ∙ ap (λ (b : Bool). cond b (Some place) (tree.get pair_cmp old.all q)) e

  elsewhere : (q : ℕ × ℕ) → same_pair pair q ≡ false → tree.get pair_cmp new.all q ≡ tree.get pair_cmp old.all q
  elsewhere q e = puts q ∙ ap (λ (b : Bool). cond b (Some place) (tree.get pair_cmp old.all q)) e

  talk_put : (q : ℕ × ℕ) → pair_talk new q ≡ cond (same_pair pair q) (Some talk) (pair_talk old q)
  talk_put q = by (same_pair pair q) refl (tree.get pair_cmp old.all q) refl
    where
      by : (test : Bool) → same_pair pair q ≡ test → (at : Option ℕ) → tree.get pair_cmp old.all q ≡ at → pair_talk new q ≡ cond test (Some talk) (pair_talk old q)
      by true e at found =
          (λ i. option_and_then (slice_get (more i)) ((here q e ∙ ap (λ (n : ℕ). Some n) last) i)) ∙ got_last old.talks.items talk
      by false e None found = ap (λ (o : Option ℕ). option_and_then (slice_get new.talks.items) o) (elsewhere q e ∙ found) ∙ rw found refl
      by false e (Some at) found =
          (λ i. option_and_then (slice_get (more i)) ((elsewhere q e ∙ found) i)) ∙ got_before old.talks.items talk at (place_within old q at are found)
          ∙ ap (λ (o : Option ℕ). option_and_then (slice_get old.talks.items) o) (sym found)

  is_last : place ≡ length old.order.items
  is_last = last ∙ are.count

  put_in_order : AreInOrder new
  put_in_order = record {
    found = λ q at e. found q at e (same_pair pair q) refl;
    known = λ q at e. known q at e;
    count = ap (λ (ts : List Talk). length ts) more ∙ length-append old.talks.items (talk ∷ []) ∙ ap (λ (n : ℕ). n + 1) are.count
        ∙ sym (length-append old.order.items (pair ∷ [])) ∙ sym (ap (λ (ps : List (ℕ × ℕ)). length ps) order);
  }
    where
      found : (q : ℕ × ℕ) (at : ℕ) → tree.get pair_cmp new.all q ≡ Some at → (test : Bool) → same_pair pair q ≡ test → slice_get new.order.items at ≡ Some q
      found q at e true same =
          let is : at ≡ length old.order.items = ap (λ (o : Option ℕ). unwrap_or o at) (sym e ∙ here q same) ∙ is_last in
          (λ i. slice_get (order i) (is i)) ∙ got_last old.order.items pair ∙ ap (λ (p : ℕ × ℕ). Some p) (pairs_equal pair q same)
      found q at e false same =
          let was : slice_get old.order.items at ≡ Some q = are.found q at (sym (elsewhere q same) ∙ e) in
          ap (λ (ps : List (ℕ × ℕ)). slice_get ps at) order ∙ got_before old.order.items pair at (slice_get_within old.order.items at q was) ∙ was

      was_known : (q : ℕ × ℕ) (at : ℕ) → tree.get pair_cmp old.all q ≡ Some at → (test : Bool) → same_pair pair q ≡ test → tree.get pair_cmp new.all q ≡ Some at
      was_known q at e true same =
          absurd (true≢false (sym (ap is_some (sym none ∙ ap (λ (p : ℕ × ℕ). tree.get pair_cmp old.all p) (pairs_equal pair q same) ∙ e))))
      was_known q at e false same = elsewhere q same ∙ e

      known : (q : ℕ × ℕ) (at : ℕ) → slice_get new.order.items at ≡ Some q → tree.get pair_cmp new.all q ≡ Some at
      known q at e = elim (cases_Bool (at == length old.order.items)) [
        | inl is ↦
            let end : at ≡ length old.order.items = eqb-true at (length old.order.items) is in
            let one : pair ≡ q = ap (λ (o : Option (ℕ × ℕ)). unwrap_or o pair)
            (sym (got_last old.order.items pair) ∙ sym (λ i. slice_get (order i) (end i)) ∙ e) in
            here q (ap (λ (p : ℕ × ℕ). same_pair pair p) (sym one) ∙ pair_itself pair) ∙ ap (λ (n : ℕ). Some n) (is_last ∙ sym end)
        | inr apart ↦
            let was : slice_get old.order.items at ≡ Some q =
            sym (got_elsewhere old.order.items pair at (λ is. true≢false (sym (eq-eqb at (length old.order.items) is) ∙ apart)))
            ∙ sym (ap (λ (ps : List (ℕ × ℕ)). slice_get ps at) order) ∙ e in
            was_known q at (are.known q at was) (same_pair pair q) refl
      ]

pub pair_put : (old new : Pairs) (pair : ℕ × ℕ) (place : ℕ) (flight : Flight) (talk : Talk) (notes : List ((ℕ × ℕ) × Flight))
    → tree.get pair_cmp old.all pair ≡ None
    → place ≡ length old.talks.items
    → talk ≡ first_talk flight
    → new.order.items ≡ old.order.items ++ pair ∷ []
    → new.talks.items ≡ old.talks.items ++ talk ∷ []
    → tree.Updates pair_cmp old.all new.all pair (Some place)
    → HasPairs notes old → HasPairs ((pair, flight) ∷ notes) new
pair_put old new pair place flight talk notes none last is order more updates has =
    let nothing : pair_talk old pair ≡ None = ap (λ (o : Option ℕ). option_and_then (slice_get old.talks.items) o) none in
    let absent : list_any (same_pair pair) (pairs_in notes) ≡ false = sym (pair_there pair notes) ∙ ap is_some (sym (has.talks pair) ∙ nothing) in
    record {
      keys_are = order ∙ ap (λ (keys : List (ℕ × ℕ)). keys ++ pair ∷ []) has.keys_are ∙ pairs_kept pair flight notes false absent;
      talks = talks_noted old new pair flight talk notes has.talks (is ∙ ap (λ (o : Option Talk). talk_after o flight) (sym nothing))
          (talk_put old new pair place talk has.places none last order more updates);
      places = put_in_order old new pair place talk has.places none last order more updates;
    }

-- what is at hand tells nothing
pub pairs_same : (old new : Pairs) (notes : List ((ℕ × ℕ) × Flight)) → new.order ≡ old.order → new.talks ≡ old.talks → new.all ≡ old.all
    → HasPairs notes old → HasPairs notes new
pairs_same old new notes order talks all has =
    let same_talk : (q : ℕ × ℕ) → pair_talk new q ≡ pair_talk old q = λ q i. option_and_then (slice_get (talks i).items) (tree.get pair_cmp (all i) q) in
    record {
      keys_are = (λ i. (order i).items) ∙ has.keys_are;
      talks = λ q. same_talk q ∙ has.talks q;
      places = record {
        found = λ q at e. (λ i. slice_get (order i).items at) ∙ has.places.found q at (sym (λ i. tree.get pair_cmp (all i) q) ∙ e);
        known = λ q at e. (λ i. tree.get pair_cmp (all i) q) ∙ has.places.known q at (sym (λ i. slice_get (order i).items at) ∙ e);
        count = (λ i. length (talks i).items) ∙ has.places.count ∙ sym (λ i. length (order i).items);
      };
    }
