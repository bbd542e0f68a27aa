-- What the clients have sent, as the loop over the frames keeps it.
use Rattle.std.proofs.Common.{◌≡◌, ◌<◌, ◌≤◌, ℕ, zero, suc, ◌+◌, ◌*◌, ◌++◌, Bool, true, false, ◌==◌, ◌&&◌, if◌then◌else◌, List, length, slice_index, replicate, refl, arith, sym, ap, add-one}
use Rattle.std.proofs.lemmas.List.{append-nil, append_assoc, get_or-replicate}
use Rattle.capture_write.specs.Made.{client_of, frame_of, generator_after, kind_of, record_of, records, sent_before, sent_in, size_of, word_of}
use Rattle.rand_pcg.specs.Lcg.{Lcg}
use Rattle.rand_pcg.specs.Pcg.{pcg32}

pub record AreSent (start index : ℕ) (sent : List ℕ) : Type 0 where
  pub all : length sent ≡ 64
  pub each : (c : ℕ) → c < 64 → slice_index sent c ≡ sent_before start c index

pub sent_none : (start : ℕ) → AreSent start 0 (replicate 64 0)
unfolding sent_before
sent_none start = record { all = refl; each = λ c below. get_or-replicate 64 c 0 0 below }

pub sent_more : (start index : ℕ) (sent new : List ℕ) → AreSent start index sent → length new ≡ 64 →
    ((c : ℕ) → c < 64 → slice_index new c ≡ slice_index sent c + sent_in c (word_of start index)) → AreSent start (index + 1) new
unfolding sent_before
sent_more start index sent new before all each =
    rw (add-one index) (record { all = all; each = λ c below. rw (each c below, before.each c below) refl })

pub chosen_within : (b : Bool) (size : ℕ) → size ≤ 16 → (if b then size else 0) ≤ 16
chosen_within true size within = within
chosen_within false size within = omega arith

pub sent_within : (client word : ℕ) → sent_in client word ≤ 16
sent_within client word = chosen_within (kind_of word == 3 && client_of word == client) (size_of word) (omega arith)

pub sent_few : (start c index : ℕ) → sent_before start c index ≤ 16 * index
unfolding sent_before
sent_few start c zero = omega arith
sent_few start c (suc index) =
    let before : sent_before start c index ≤ 16 * index = sent_few start c index in
    let more : sent_in c (word_of start index) ≤ 16 = sent_within c (word_of start index) in
    omega arith

-- what the loop has written, the generator, and what the clients have sent, behind so many frames
pub record IsDrawn (start index : ℕ) (before out : List ℕ) (generator : Lcg) (sent : List ℕ) : Type 0 where
  pub written : out ≡ before ++ records start index
  pub state : generator ≡ generator_after start index
  pub clients : AreSent start index sent

pub drawn_none : (start : ℕ) (before : List ℕ) → IsDrawn start 0 before before (generator_after start 0) (replicate 64 0)
unfolding records
drawn_none start before = record { written = sym (append-nil before); state = refl; clients = sent_none start }

pub client_below : (word : ℕ) → client_of word < 64
client_below word = omega arith

pub drawn_more : (start index : ℕ) (before out new : List ℕ) (generator next : Lcg) (sent now : List ℕ) (word : ℕ) (frame : List ℕ) →
    IsDrawn start index before out generator sent → (word, next) ≡ pcg32 generator →
    frame ≡ frame_of word (slice_index sent (client_of word)) → new ≡ out ++ record_of index frame →
    length now ≡ 64 → ((c : ℕ) → c < 64 → slice_index now c ≡ slice_index sent c + sent_in c word) →
    IsDrawn start (index + 1) before new next now
unfolding records generator_after word_of
drawn_more start index before out new generator next sent now word frame drawn step made put all each =
    let drawn_word : word ≡ word_of start index = rw (← drawn.state) (ap (λ (pair : ℕ × Lcg). pair.0) step) in
    let state : next ≡ generator_after start (index + 1) = rw (add-one index, ← drawn.state) (ap (λ (pair : ℕ × Lcg). pair.1) step) in
    let count : slice_index sent (client_of word) ≡ sent_before start (client_of (word_of start index)) index =
    rw (← drawn_word) (drawn.clients.each (client_of word) (client_below word)) in
    let shape : frame ≡ frame_of (word_of start index) (sent_before start (client_of (word_of start index)) index) =
    rw (made, count, drawn_word) refl in
    record {
      written = rw (add-one index, put, drawn.written, ← shape) (append_assoc before (records start index) (record_of index frame));
      state = state;
      clients = sent_more start index sent now drawn.clients all (λ c below. rw (← drawn_word) (each c below));
    }
