-- A name that goes on at the end of a chain of bare pointers reads the same as from the chain's beginning.
use Rattle.std.proofs.Common.{◌≡◌, ℕ, ◌+◌, ◌<◌, ◌≤◌, List, [], ◌∷◌, ◌++◌, length, Some, refl, sym, subst, inl, inr, ◌∙◌, arith}
use Rattle.std.proofs.lemmas.Bool.{cases_lt}
use Rattle.std.proofs.lemmas.List.{get_or_append_left, get_or_push}
use Rattle.std.specs.Prelude.{slice_index, slice_range}
use Rattle.dis_dns.specs.declared.names.NameEnd.{NameEnd}
use Rattle.dis_dns.specs.declared.names.Turn.TheVariants.{Label, Jump}
use Rattle.dis_dns.specs.declared.names.Walk.{Walk}
use Rattle.dis_dns.specs.Chains.{IsBare, Leads, arrived, onward, IsChainEnd, AreChainEnds, moved_to}
use Rattle.dis_dns.specs.Names.{after_or, target_at, turn_of, walked, turns_left, dotted, IsWalkIn, TurnFits}
use Rattle.dis_dns.proofs.NameLemmas.{TurnIs, turn_says, turn_pointer, fewer_target, step_label, step_jump}

-- the walk that a pointer led to a place
abbrev led_to : List ℕ → ℕ → ℕ → ℕ → Walk
led_to bytes size behind place = record { start = place; limit = length bytes; place = place; size = size; after = Some behind }

same_at_end : (bytes : List ℕ) (place end : ℕ) → Leads bytes place end → (size behind : ℕ) (text : List ℕ) → size + 1 ≤ 255 →
    walked (turns_left (led_to bytes size behind end)) bytes (led_to bytes size behind end) text ≡ walked (turns_left (led_to bytes size behind place)) bytes (led_to bytes size behind place) text
same_at_end bytes place _ (arrived _) size behind text short = refl
same_at_end bytes place end (onward _ _ bare on) size behind text short =
    let from : Walk = led_to bytes size behind place in
    let next : Walk = led_to bytes size behind (target_at bytes place) in
    same_at_end bytes (target_at bytes place) end on size behind text short
    ∙ step_jump bytes from next text (walked (turns_left from) bytes from text) short short (fewer_target bytes from bare.before) (sym (turn_pointer bytes from bare.room bare.high bare.before)) refl

-- what a name's reading has come to behind so many turns: what is left leads where all of it does, each label took two
-- bytes of the name's, and a pointer is taken only behind a label
pub record ReadsOn (bytes : List ℕ) (first turn : ℕ) (w : Walk) (text : List ℕ) (whole : NameEnd × List ℕ) : Type 0 where
  pub goes : walked (turns_left w) bytes w text ≡ whole
  pub fits : IsWalkIn (length bytes) first w
  pub most : turn ≤ w.size + 1
  pub fewer : (next : Walk) → Jump next ≡ turn_of bytes w → turn ≤ w.size

label_says : (bytes : List ℕ) (w next : Walk) (len : ℕ) → Label len next ≡ turn_of bytes w → TurnIs bytes w (Label len next)
label_says bytes w next len is = rw (← is) at (turn_says bytes w).is

jump_says : (bytes : List ℕ) (w next : Walk) → Jump next ≡ turn_of bytes w → TurnIs bytes w (Jump next)
jump_says bytes w next is = rw (← is) at (turn_says bytes w).is

pub reads_label : (bytes : List ℕ) (first turn : ℕ) (w next : Walk) (len : ℕ) (text more : List ℕ) (whole : NameEnd × List ℕ) → ReadsOn bytes first turn w text whole → Label len next ≡ turn_of bytes w → TurnFits bytes first w (Label len next) →
    more ≡ dotted text (slice_range bytes (w.place + 1) (w.place + 1 + len)) → ReadsOn bytes first (turn + 1) next more whole
reads_label bytes first turn w next len text more whole on is fits with =
    let says : TurnIs bytes w (Label len next) = label_says bytes w next len is in
    let size : next.size ≡ w.size + 1 + len = rw says.5 refl in
    record {
      goes = step_label bytes w next len text more whole on.fits.short fits.0.short fits.1 is on.goes with;
      fits = fits.0;
      most = omega (arith, size, on.most);
      fewer = λ _ _. omega (arith, size, says.0, on.most);
    }

-- at the end of a chain stands no pointer to follow
no_jump : (bytes : List ℕ) (w next : Walk) → w.start ≡ w.place → w.limit ≡ length bytes → Jump next ≡ turn_of bytes w → IsBare bytes w.place
no_jump bytes w next starts limit is =
    let says : TurnIs bytes w (Jump next) = jump_says bytes w next is in
    record { room = omega (arith, says.0, limit); high = says.1; before = omega (arith, says.2, starts) }

-- a pointer leads to a place that the table has
pub target_listed : (bytes ends : List ℕ) (first turn : ℕ) (w next : Walk) (text : List ℕ) (whole : NameEnd × List ℕ) → AreChainEnds bytes ends → ((k : ℕ) → slice_index bytes k < 256) → ReadsOn bytes first turn w text whole →
    Jump next ≡ turn_of bytes w → next.place < length ends
target_listed bytes ends first turn w next text whole chains are_bytes on is =
    let says : TurnIs bytes w (Jump next) = jump_says bytes w next is in
    let place : next.place ≡ target_at bytes w.place = rw says.3 refl in
    omega (arith, place, says.0, says.2, on.fits.begun, on.fits.limit, chains.size, are_bytes w.place, are_bytes (w.place + 1))

jumped : (bytes : List ℕ) (first turn place end size behind : ℕ) (text : List ℕ) (whole : NameEnd × List ℕ) → IsChainEnd bytes place end → walked (turns_left (led_to bytes size behind place)) bytes (led_to bytes size behind place) text ≡ whole → turn ≤ size →
    IsWalkIn (length bytes) first (led_to bytes size behind place) → ReadsOn bytes first (turn + 1) (led_to bytes size behind end) text whole
jumped bytes first turn place end size behind text whole chain goes few fits = record {
  goes = same_at_end bytes place end chain.leads size behind text fits.short ∙ goes;
  fits = record { limit = fits.limit; begun = omega arith; short = fits.short; ends = fits.ends };
  most = omega (arith, few);
  fewer = λ next is. absurd (chain.last (no_jump bytes (led_to bytes size behind end) next refl refl is));
}

pub reads_jump : (bytes ends : List ℕ) (first turn : ℕ) (w next : Walk) (text : List ℕ) (whole : NameEnd × List ℕ) → AreChainEnds bytes ends → ((k : ℕ) → slice_index bytes k < 256) → ReadsOn bytes first turn w text whole →
    Jump next ≡ turn_of bytes w → TurnFits bytes first w (Jump next) → ReadsOn bytes first (turn + 1) (moved_to next (slice_index ends next.place)) text whole
reads_jump bytes ends first turn w next text whole chains are_bytes on is fits =
    let says : TurnIs bytes w (Jump next) = jump_says bytes w next is in
    let chain : IsChainEnd bytes next.place (slice_index ends next.place) = chains.each next.place (target_listed bytes ends first turn w next text whole chains are_bytes on is) in
    let goes : walked (turns_left next) bytes next text ≡ whole = step_jump bytes w next text whole on.fits.short fits.0.short fits.1 is on.goes in
    rw says.3 (jumped bytes first turn (target_at bytes w.place) (slice_index ends (target_at bytes w.place)) w.size (after_or w.after (w.place + 2)) text whole (rw says.3 at chain) (rw says.3 at goes) (on.fewer next is) (rw says.3 at fits.0))

-- a chain of no pointers, and one with one more
pub ends_here : (bytes : List ℕ) (place : ℕ) → ¬ IsBare bytes place → IsChainEnd bytes place place
ends_here bytes place last = record { leads = arrived place; last = last }

pub ends_on : (bytes : List ℕ) (place target end : ℕ) → target ≡ target_at bytes place → place + 2 ≤ length bytes → 192 ≤ slice_index bytes place → target < place → IsChainEnd bytes target end → IsChainEnd bytes place end
ends_on bytes place target end is room high before chain =
    let bare : IsBare bytes place = record { room = room; high = high; before = rw is at before } in
    record { leads = onward place end bare (rw is at chain.leads); last = chain.last }

below_or_at : (P : ℕ → Type 0) (a i : ℕ) → a < i + 1 → (a < i → P a) → P i → P a
below_or_at P a i less below here =
    elim (cases_lt a i) [
      | inl earlier ↦ below earlier
      | inr later ↦ let same : i ≡ a = omega arith in subst P same here
    ]

-- the ends for the places before one, and the end for that one
pub ends_grow : (bytes ends : List ℕ) (place end : ℕ) → length ends ≡ place → ((before : ℕ) → before < place → IsChainEnd bytes before (slice_index ends before)) → IsChainEnd bytes place end →
    (before : ℕ) → before < place + 1 → IsChainEnd bytes before (slice_index (ends ++ end ∷ []) before)
ends_grow bytes ends place end size each here before less =
    below_or_at (λ b. IsChainEnd bytes b (slice_index (ends ++ end ∷ []) b)) before place less
    (λ below. rw (get_or_append_left ends (end ∷ []) 0 before (omega (arith, size, below))) (each before below))
    (rw (get_or_push ends end 0 place size) here)
