-- The streams that are kept, after one more segment.
use Rattle.std.proofs.Common.{◌≡◌, ◌||◌, ◌<◌, ◌≤◌, ℕ, zero, suc, Bool, true, false, cond, List, [], ◌∷◌, ◌++◌, get_or, length, map, Option, Some, None, is_some, slice_get, refl, sym, ap, ◌∙◌, true≢false, append_assoc, append-nil, inl, inr, arith}
use Rattle.std.proofs.lemmas.Bool.{cases_Bool, ltb-false, ltb-true}
use Rattle.std.proofs.lemmas.List.{length-append, length-set, map-id}
use Rattle.std.proofs.lemmas.List.Folds.{list_any-append}
use Rattle.std.proofs.lemmas.Map.Made.{is_some-lookup}
use Rattle.std.proofs.lemmas.Option.{slice_get_cases, slice_get_past, slice_get_read}
use Rattle.std.specs.BTreeMap as tree
use Rattle.std.specs.Cmp.{nat_cmp_is}
use Rattle.std.specs.List.{list_any, slice_set}
use Rattle.std.specs.Option.{option_or}
use Rattle.std.specs.Prelude.{nat_lt}
use Rattle.std.specs.Ordering.{is_eq, is_lt, nat_cmp}
use Rattle.std.specs.declared.cmp.Ordering.{Ordering}
use Rattle.std.specs.declared.cmp.Ordering.TheVariants.{Equal, Greater}
use Rattle.cap_stats.specs.declared.counts.Talk.{Talk}
use Rattle.cap_stats.specs.declared.party.Flight.{Flight}
use Rattle.cap_stats.specs.declared.streams.Streams.{Streams}
use Rattle.cap_stats.specs.Counts.{talk_of}
use Rattle.cap_stats.specs.Keys.{below, numbers_in, place, same_number}
use Rattle.cap_stats.specs.Stands.{HasStreams, numbers_of, talk_at}
use Rattle.cap_stats.specs.Steps.{first_talk, talk_after, talk_with}
use Rattle.cap_stats.proofs.CountLemmas.{talk_more}
use Rattle.cap_stats.proofs.GotLemmas.{got_elsewhere, got_last, got_other, got_set}
use Rattle.cap_stats.proofs.KeyLemmas.{noted, numbers_equal, placed}
use Rattle.cap_stats.proofs.MapLemmas.{keys_noted}

-- two numbers
above : (number count : ℕ) → count < number → Greater ≡ nat_cmp number count
above number count more = nat_cmp_is number count Greater more

itself : (number : ℕ) → same_number number number ≡ true
itself number = ap is_eq (sym (nat_cmp_is number number Equal refl))

-- the numbers below one
apart_below : (number count : ℕ) → count ≤ number → list_any (same_number number) (below count) ≡ false
apart_below number zero behind = refl
apart_below number (suc count) behind =
    list_any-append (same_number number) (below count) (count ∷ [])
    ∙ ap (λ (b : Bool). b || (same_number number count || false)) (apart_below number count (omega (arith, behind)))
    ∙ ap (λ (r : Ordering). is_eq r || false) (sym (above number count (omega (arith, behind))))

or_true : (b : Bool) → (b || true) ≡ true
or_true true = refl
or_true false = refl

among_below : (number count : ℕ) → number < count → list_any (same_number number) (below count) ≡ true
among_below number zero within = absurd (omega (arith, within))
among_below number (suc count) within = list_any-append (same_number number) (below count) (count ∷ []) ∙ elim (cases_Bool (nat_lt number count)) [
  | inl less ↦ ap (λ (b : Bool). b || (same_number number count || false)) (among_below number count (ltb-true number count less))
  | inr more ↦
      ap (λ (k : ℕ). list_any (same_number number) (below count) || (same_number number k || false)) (last more)
      ∙ ap (λ (b : Bool). list_any (same_number number) (below count) || (b || false)) (itself number)
      ∙ or_true (list_any (same_number number) (below count))
]
  where
    last : nat_lt number count ≡ false → count ≡ number
    last more = omega (arith, within, ltb-false number count more)

placed_behind : (number count : ℕ) (keys : List ℕ) → count ≤ number
    → place nat_cmp number (below count ++ keys) ≡ below count ++ place nat_cmp number keys
placed_behind number zero keys behind = refl
placed_behind number (suc count) keys behind =
    ap (λ (ks : List ℕ). place nat_cmp number ks) (append_assoc (below count) (count ∷ []) keys)
    ∙ placed_behind number count (count ∷ keys) (omega (arith, behind))
    ∙ ap (λ (r : Ordering). below count ++ cond (is_lt r) (number ∷ count ∷ keys) (count ∷ place nat_cmp number keys)) (sym (above number count (omega (arith, behind))))
    ∙ sym (append_assoc (below count) (count ∷ []) (place nat_cmp number keys))

pub length_below : (count : ℕ) → length (below count) ≡ count
length_below zero = refl
length_below (suc count) = length-append (below count) (count ∷ []) ∙ omega (arith, length_below count)

-- a stream is there exactly where its number is among those of all streams
either_there : (streams : Streams) (number : ℕ) → is_some (talk_at streams number)
    ≡ (list_any (same_number number) (below (length streams.first.items)) || list_any (same_number number) (tree.keys streams.rest))
either_there streams number = elim ((slice_get_cases streams.first.items number).1) [
  | inl here ↦
      ap (λ (o : Option Talk). is_some (option_or o (tree.get nat_cmp streams.rest number))) here.2
      ∙ sym (ap (λ (b : Bool). b || list_any (same_number number) (tree.keys streams.rest)) (among_below number (length streams.first.items) here.1))
  | inr past ↦
      ap (λ (o : Option Talk). is_some (option_or o (tree.get nat_cmp streams.rest number))) past.1
      ∙ is_some-lookup (same_number number) streams.rest.entries
      ∙ sym (ap (λ (b : Bool). b || list_any (same_number number) (tree.keys streams.rest)) (apart_below number (length streams.first.items) past.0))
]

there_at : (streams : Streams) (number : ℕ) → is_some (talk_at streams number) ≡ list_any (same_number number) (numbers_of streams)
there_at streams number =
    either_there streams number ∙ sym (list_any-append (same_number number) (below (length streams.first.items)) (tree.keys streams.rest))

stream_noted : (old new : Streams) (key : ℕ) (flight : Flight) (talk : Talk) (seen : Option Talk) (notes : List (ℕ × Flight))
    → seen ≡ talk_at old key
    → talk ≡ talk_after seen flight
    → (is_some seen ≡ true → numbers_of new ≡ numbers_of old)
    → (is_some seen ≡ false → numbers_of new ≡ place nat_cmp key (numbers_of old))
    → ((q : ℕ) → talk_at new q ≡ cond (same_number key q) (Some talk) (talk_at old q))
    → HasStreams notes old → HasStreams ((key, flight) ∷ notes) new
unfolding numbers_in
stream_noted old new key flight talk seen notes found is stays goes changed has =
    record {
      keys_are = keys_noted same_number (λ k ks. place nat_cmp k ks) key (numbers_of old) (numbers_of new) (numbers_in notes) (is_some seen) has.keys_are
          (ap (λ (o : Option Talk). is_some o) found ∙ there_at old key) stays goes;
      talks = noted same_number numbers_equal talk_of talk_after talk_more (talk_at old) (talk_at new) key flight talk notes has.talks
          (is ∙ ap (λ (o : Option Talk). talk_after o flight) found) changed;
    }

-- what was sent in a stream whose number came in turn
pub first_at : (streams : Streams) (key : ℕ) (was : Talk) → key < length streams.first.items → was ≡ get_or streams.first.items key was → talk_at streams key ≡ Some was
first_at streams key was within held =
    ap (λ (o : Option Talk). option_or o (tree.get nat_cmp streams.rest key))
    (slice_get_read streams.first.items (length streams.first.items) key was refl within held)

-- a segment of such a stream
module _ (old new : Streams) (key : ℕ) (flight : Flight) (was talk : Talk) (notes : List (ℕ × Flight))
    (within : key < length old.first.items) (held : was ≡ get_or old.first.items key was) (is : talk ≡ talk_with was flight)
    (changed : new.first.items ≡ slice_set old.first.items key talk) (rest : new.rest ≡ old.rest) where
  first_set : (q : ℕ) → talk_at new q ≡ cond (same_number key q) (Some talk) (talk_at old q)
  first_set q =
      (λ i. option_or (slice_get (changed i) q) (tree.get nat_cmp (rest i) q)) ∙ elim (cases_Bool (same_number key q)) [
        | inl same ↦
            ap (λ (k : ℕ). option_or (slice_get (slice_set old.first.items key talk) k) (tree.get nat_cmp old.rest q)) (sym (numbers_equal key q same))
            ∙ ap (λ (o : Option Talk). option_or o (tree.get nat_cmp old.rest q)) (got_set old.first.items key talk within)
            ∙ sym (ap (λ (b : Bool). cond b (Some talk) (talk_at old q)) same)
        | inr apart ↦
            ap (λ (o : Option Talk). option_or o (tree.get nat_cmp old.rest q)) (got_other old.first.items key talk q (other apart))
            ∙ sym (ap (λ (b : Bool). cond b (Some talk) (talk_at old q)) apart)
      ]
    where
      other : same_number key q ≡ false → q ≡ key → ⊥
      other apart e = true≢false (sym (itself key) ∙ ap (λ (k : ℕ). same_number key k) (sym e) ∙ apart)

  pub first_raised : HasStreams notes old → HasStreams ((key, flight) ∷ notes) new
  first_raised has =
      stream_noted old new key flight talk (Some was) notes (sym (first_at old key was within held)) is
      (λ e i. below ((ap (λ (xs : List Talk). length xs) changed ∙ length-set old.first.items key talk) i) ++ tree.keys (rest i))
      (λ e. absurd (true≢false e)) first_set has

-- and of one whose number did not
module _ (old new : Streams) (key : ℕ) (talk : Talk) (behind : length old.first.items ≤ key)
    (first : new.first ≡ old.first) (updates : tree.Updates nat_cmp old.rest new.rest key (Some talk)) where
  rest_set : (q : ℕ) → talk_at new q ≡ cond (same_number key q) (Some talk) (talk_at old q)
  rest_set q =
      (λ i. option_or (slice_get (first i).items q) (updates.0 q i)) ∙ elim (cases_Bool (same_number key q)) [
        | inl same ↦
            ap (λ (b : Bool). option_or (slice_get old.first.items q) (cond b (Some talk) (tree.get nat_cmp old.rest q))) same
            ∙ ap (λ (o : Option Talk). option_or o (Some talk)) (slice_get_past old.first.items q (past (numbers_equal key q same)))
            ∙ sym (ap (λ (b : Bool). cond b (Some talk) (talk_at old q)) same)
        | inr apart ↦
            ap (λ (b : Bool). option_or (slice_get old.first.items q) (cond b (Some talk) (tree.get nat_cmp old.rest q))) apart
            ∙ sym (ap (λ (b : Bool). cond b (Some talk) (talk_at old q)) apart)
      ]
    where
      past : key ≡ q → length old.first.items ≤ q
      past e = omega (arith, behind, e)

-- what is told of a number that is none of those in turn
pub rest_at : (streams : Streams) (key : ℕ) → length streams.first.items ≤ key → talk_at streams key ≡ tree.get nat_cmp streams.rest key
rest_at streams key behind = ap (λ (o : Option Talk). option_or o (tree.get nat_cmp streams.rest key)) (slice_get_past streams.first.items key behind)

pub rest_raised : (old new : Streams) (key : ℕ) (flight : Flight) (was talk : Talk) (notes : List (ℕ × Flight))
    → length old.first.items ≤ key
    → new.first ≡ old.first
    → tree.get nat_cmp old.rest key ≡ Some was
    → talk ≡ talk_with was flight
    → tree.keys new.rest ≡ tree.keys old.rest
    → tree.Updates nat_cmp old.rest new.rest key (Some talk)
    → HasStreams notes old → HasStreams ((key, flight) ∷ notes) new
rest_raised old new key flight was talk notes behind first some is keys updates has =
    stream_noted old new key flight talk (Some was) notes (sym (rest_at old key behind ∙ some)) is
    (λ e i. below (length (first i).items) ++ keys i)
    (λ e. absurd (true≢false e)) (rest_set old new key talk behind first updates) has

-- a segment of a new stream
absent_behind : (streams : Streams) (key : ℕ) → talk_at streams key ≡ None → length streams.first.items ≤ key
absent_behind streams key none = elim ((slice_get_cases streams.first.items key).1) [
  | inl here ↦
      absurd (true≢false (sym (ap (λ (o : Option Talk). is_some (option_or o (tree.get nat_cmp streams.rest key))) here.2) ∙ ap (λ (o : Option Talk). is_some o) none))
  | inr past ↦ past.0
]

pub rest_put : (old new : Streams) (key : ℕ) (flight : Flight) (talk : Talk) (notes : List (ℕ × Flight))
    → talk_at old key ≡ None
    → talk ≡ first_talk flight
    → new.first ≡ old.first
    → new.rest.entries ≡ tree.insert_entry nat_cmp old.rest.entries key talk
    → tree.Updates nat_cmp old.rest new.rest key (Some talk)
    → HasStreams notes old → HasStreams ((key, flight) ∷ notes) new
rest_put old new key flight talk notes none is first entries updates has =
    stream_noted old new key flight talk None notes (sym none) is (λ e. absurd (true≢false (sym e)))
    (λ e. (λ i. below (length (first i).items) ++ keys i) ∙ sym (placed_behind key (length old.first.items) (tree.keys old.rest) behind))
    (rest_set old new key talk behind first updates) has
  where
    behind : length old.first.items ≤ key
    behind = absent_behind old key none

    away : list_any (same_number key) (tree.keys old.rest) ≡ false
    away =
        sym (is_some-lookup (same_number key) old.rest.entries)
        ∙ ap (λ (o : Option Talk). is_some o) (sym (rest_at old key behind) ∙ none)

    keys : tree.keys new.rest ≡ place nat_cmp key (tree.keys old.rest)
    keys =
        ap (λ (es : List (ℕ × Talk)). map (λ (e : ℕ × Talk). e.0) es) entries
        ∙ sym (map-id (map (λ (e : ℕ × Talk). e.0) (tree.insert_entry nat_cmp old.rest.entries key talk)))
        ∙ placed nat_cmp (λ (k : ℕ). k) nat_cmp same_number (λ k q. refl) (λ a b. refl) key talk old.rest.entries
        (ap (λ (ks : List ℕ). list_any (same_number key) ks) (map-id (tree.keys old.rest)) ∙ away)
        ∙ ap (λ (ks : List ℕ). place nat_cmp key ks) (map-id (tree.keys old.rest))

nothing : {X : Type 0} (xs : List X) → length xs ≡ 0 → xs ≡ []
nothing [] none = refl
nothing (x ∷ xs) none = absurd (omega (arith, none))

-- where its number comes in turn
module _ (old new : Streams) (key : ℕ) (talk : Talk) (here : key ≡ length old.first.items) (none : length old.rest.entries ≡ 0)
    (changed : new.first.items ≡ old.first.items ++ talk ∷ []) (rest : new.rest ≡ old.rest) where
  next_set : (q : ℕ) → talk_at new q ≡ cond (same_number key q) (Some talk) (talk_at old q)
  next_set q =
      (λ i. option_or (slice_get (changed i) q) (tree.get nat_cmp (rest i) q)) ∙ elim (cases_Bool (same_number key q)) [
        | inl same ↦
            ap (λ (k : ℕ). option_or (slice_get (old.first.items ++ talk ∷ []) k) (tree.get nat_cmp old.rest q)) (sym (numbers_equal key q same) ∙ here)
            ∙ ap (λ (o : Option Talk). option_or o (tree.get nat_cmp old.rest q)) (got_last old.first.items talk)
            ∙ sym (ap (λ (b : Bool). cond b (Some talk) (talk_at old q)) same)
        | inr apart ↦
            ap (λ (o : Option Talk). option_or o (tree.get nat_cmp old.rest q)) (got_elsewhere old.first.items talk q (other apart))
            ∙ sym (ap (λ (b : Bool). cond b (Some talk) (talk_at old q)) apart)
      ]
    where
      other : same_number key q ≡ false → q ≡ length old.first.items → ⊥
      other apart e = true≢false (sym (itself key) ∙ ap (λ (k : ℕ). same_number key k) (here ∙ sym e) ∙ apart)

  next_numbers : numbers_of new ≡ place nat_cmp key (numbers_of old)
  next_numbers =
      let count = length old.first.items in
      let longer : length new.first.items ≡ suc count = ap (λ (xs : List Talk). length xs) changed ∙ length-append old.first.items (talk ∷ []) ∙ omega arith in
      let empty : tree.keys old.rest ≡ [] = ap (λ (es : List (ℕ × Talk)). map (λ (e : ℕ × Talk). e.0) es) (nothing old.rest.entries none) in
      (λ i. below (longer i) ++ tree.keys (rest i))
      ∙ ap (λ (ks : List ℕ). (below count ++ count ∷ []) ++ ks) empty
      ∙ append-nil (below count ++ count ∷ [])
      ∙ ap (λ (k : ℕ). below count ++ k ∷ []) (sym here)
      ∙ sym (placed_behind key count (tree.keys old.rest) (omega (arith, here)) ∙ ap (λ (ks : List ℕ). below count ++ place nat_cmp key ks) empty)

pub next_put : (old new : Streams) (key : ℕ) (flight : Flight) (talk : Talk) (notes : List (ℕ × Flight))
    → talk_at old key ≡ None
    → talk ≡ first_talk flight
    → key ≡ length old.first.items
    → length old.rest.entries ≡ 0
    → new.first.items ≡ old.first.items ++ talk ∷ []
    → new.rest ≡ old.rest
    → HasStreams notes old → HasStreams ((key, flight) ∷ notes) new
next_put old new key flight talk notes none is here empty changed rest has =
    stream_noted old new key flight talk None notes (sym none) is (λ e. absurd (true≢false (sym e)))
    (λ e. next_numbers old new key talk here empty changed rest) (next_set old new key talk here empty changed rest) has
