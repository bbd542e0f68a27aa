-- What each turn of a name's reading says, and that there are turns enough.
use Rattle.std.proofs.Common.{◌≡◌, ℕ, zero, suc, ◌+◌, ◌<◌, ◌≤◌, Bool, true, false, if◌then◌else◌, List, length, Option, Some, None, refl, sym, ◌∙◌, arith}
use Rattle.std.proofs.lemmas.Bool.Decides.{nat_tests}
use Rattle.std.specs.Prelude.{◌==◌, nat_le, nat_lt, slice_index, slice_range}
use Rattle.dis_dns.specs.declared.names.NameEnd.{NameEnd}
use Rattle.dis_dns.specs.declared.names.NameEnd.TheVariants.{Name, Leaves, Fails}
use Rattle.dis_dns.specs.declared.names.Turn.{Turn}
use Rattle.dis_dns.specs.declared.names.Turn.TheVariants.{Label, Jump, Over}
use Rattle.dis_dns.specs.declared.names.Walk.{Walk}
use Rattle.dis_dns.specs.Names.{target_at, after_or, left_by, label_turn, pointer_turn, turn_of, on_turn, walked, turns_left, dotted}

-- the walk behind a label, and at a pointer's target
abbrev pub behind_label : Walk → ℕ → Walk
behind_label w len = record w { place = w.place + 1 + len; size = w.size + 1 + len }

abbrev pub at_target : List ℕ → Walk → Walk
at_target bytes w = record { start = target_at bytes w.place; limit = length bytes; place = target_at bytes w.place; size = w.size; after = Some (after_or w.after (w.place + 2)) }

abbrev pub TurnIs : List ℕ → Walk → Turn → Type 0
TurnIs bytes w (Label len next) =
    (0 < len) × (len < 64) × (len ≡ slice_index bytes w.place) × (w.place + 1 + len ≤ w.limit) × (w.size + 1 + len + 1 ≤ 255) × (next ≡ behind_label w len)
TurnIs bytes w (Jump next) =
    (w.place + 2 ≤ w.limit) × (192 ≤ slice_index bytes w.place) × (target_at bytes w.place < w.start) × (next ≡ at_target bytes w)
TurnIs bytes w (Over (Name after)) = (w.place < w.limit) × (slice_index bytes w.place ≡ 0) × (after ≡ after_or w.after (w.place + 1))
TurnIs bytes w (Over Leaves) = Unit {0}
TurnIs bytes w (Over Fails) = Unit {0}

pub record Says (bytes : List ℕ) (w : Walk) (t : Turn) : Type 0 where
  pub is : TurnIs bytes w t

says_if : (bytes : List ℕ) (w : Walk) (b : Bool) (x y : Turn) → (b ≡ true → Says bytes w x) → (b ≡ false → Says bytes w y) → Says bytes w (if b then x else y)
says_if bytes w true x y one other = one refl
says_if bytes w false x y one other = other refl

says_left : (bytes : List ℕ) (w : Walk) (after : Option ℕ) → Says bytes w (Over (left_by after))
says_left bytes w None = record { is = tt }
says_left bytes w (Some after) = record { is = tt }

says_fails : (bytes : List ℕ) (w : Walk) → Says bytes w (Over Fails)
says_fails bytes w = record { is = tt }

says_label : (bytes : List ℕ) (w : Walk) (len : ℕ) → 0 < len → len < 64 → len ≡ slice_index bytes w.place → Says bytes w (label_turn w len)
says_label bytes w len some most is =
    says_if bytes w (nat_lt w.limit (w.place + 1 + len)) (Over (left_by w.after)) _ (λ _. says_left bytes w w.after)
    (λ room. says_if bytes w (nat_lt 255 (w.size + 1 + len + 1)) (Over Fails) (Label len (behind_label w len)) (λ _. says_fails bytes w)
    (λ short. record { is = (some, most, is, grind (arith, nat_tests), grind (arith, nat_tests), refl) }))

says_pointer : (bytes : List ℕ) (w : Walk) → 192 ≤ slice_index bytes w.place → Says bytes w (pointer_turn bytes w)
says_pointer bytes w high =
    says_if bytes w (nat_lt w.limit (w.place + 2)) (Over (left_by w.after)) _ (λ _. says_left bytes w w.after)
    (λ room. says_if bytes w (nat_lt (target_at bytes w.place) w.start) (Jump (at_target bytes w)) (Over Fails)
    (λ before. record { is = (grind (arith, nat_tests), high, grind (arith, nat_tests), refl) })
    (λ _. says_fails bytes w))

pub turn_says : (bytes : List ℕ) (w : Walk) → Says bytes w (turn_of bytes w)
unfolding turn_of
turn_says bytes w =
    says_if bytes w (nat_le w.limit w.place) (Over (left_by w.after)) _ (λ _. says_left bytes w w.after)
    (λ inside. says_if bytes w (slice_index bytes w.place == 0) (Over (Name (after_or w.after (w.place + 1)))) _
    (λ none. record { is = (grind (arith, nat_tests), grind (arith, nat_tests), refl) })
    (λ some. says_if bytes w (nat_lt (slice_index bytes w.place) 64) (label_turn w (slice_index bytes w.place)) _
    (λ small. says_label bytes w (slice_index bytes w.place) (grind (arith, nat_tests)) (grind (arith, nat_tests)) refl)
    (λ large. says_if bytes w (nat_le 192 (slice_index bytes w.place)) (pointer_turn bytes w) (Over Fails)
    (λ high. says_pointer bytes w (grind (arith, nat_tests)))
    (λ _. says_fails bytes w))))

-- the turn at a pointer to an earlier run
pub turn_pointer : (bytes : List ℕ) (w : Walk) → w.place + 2 ≤ w.limit → 192 ≤ slice_index bytes w.place → target_at bytes w.place < w.start → turn_of bytes w ≡ Jump (at_target bytes w)
unfolding turn_of
turn_pointer bytes w room high before =
    let on : nat_le w.limit w.place ≡ false = grind (arith, nat_tests) in
    let more : (slice_index bytes w.place == 0) ≡ false = grind (arith, nat_tests) in
    let large : nat_lt (slice_index bytes w.place) 64 ≡ false = grind (arith, nat_tests) in
    let led : nat_le 192 (slice_index bytes w.place) ≡ true = grind (arith, nat_tests) in
    let fits : nat_lt w.limit (w.place + 2) ≡ false = grind (arith, nat_tests) in
    let early : nat_lt (target_at bytes w.place) w.start ≡ true = grind (arith, nat_tests) in
    rw (on, more, large, led, fits, early) refl

-- fewer turns are left behind each turn
pub fewer_label : (w : Walk) (len : ℕ) → w.size + 1 + len + 1 ≤ 255 → turns_left (behind_label w len) < turns_left w
fewer_label w len short = omega arith

pub fewer_target : (bytes : List ℕ) (w : Walk) → target_at bytes w.place < w.start → turns_left (at_target bytes w) < turns_left w
fewer_target bytes w before = omega arith

pub turn_taken : (turns : ℕ) (bytes : List ℕ) (w : Walk) (text : List ℕ) → walked (suc turns) bytes w text ≡ on_turn (walked turns bytes) bytes w text (turn_of bytes w)
unfolding walked
turn_taken turns bytes w text = refl

same_on : (n m : ℕ) (bytes : List ℕ) (w : Walk) (text : List ℕ) (t : Turn) → TurnIs bytes w t → turns_left w ≤ suc n → turns_left w ≤ suc m →
    ((next : Walk) (text : List ℕ) → next.size + 1 ≤ 255 → turns_left next ≤ n → turns_left next ≤ m → walked n bytes next text ≡ walked m bytes next text) → w.size + 1 ≤ 255 →
    on_turn (walked n bytes) bytes w text t ≡ on_turn (walked m bytes) bytes w text t
same_on n m bytes w text (Label len next) is one other same short =
    let fewer : turns_left (behind_label w len) < turns_left w = fewer_label w len is.4 in
    rw is.5 (same (behind_label w len) (dotted text (slice_range bytes (w.place + 1) (w.place + 1 + len))) (omega (arith, is.4)) (omega (arith, fewer)) (omega (arith, fewer)))
same_on n m bytes w text (Jump next) is one other same short =
    let fewer : turns_left (at_target bytes w) < turns_left w = fewer_target bytes w is.2 in
    rw is.3 (same (at_target bytes w) text short (omega (arith, fewer)) (omega (arith, fewer)))
same_on n m bytes w text (Over end) is one other same short = refl

-- any two numbers of turns that are enough read the same
pub same_turns : (n m : ℕ) (bytes : List ℕ) (w : Walk) (text : List ℕ) → w.size + 1 ≤ 255 → turns_left w ≤ n → turns_left w ≤ m → walked n bytes w text ≡ walked m bytes w text
same_turns zero m bytes w text short one other = absurd (omega arith)
same_turns (suc n) zero bytes w text short one other = absurd (omega arith)
same_turns (suc n) (suc m) bytes w text short one other =
    rw (turn_taken n bytes w text, turn_taken m bytes w text)
    (same_on n m bytes w text (turn_of bytes w) (turn_says bytes w).is one other (λ next more ok first second. same_turns n m bytes next more ok first second) short)

-- one turn of a walk that has as many as it needs
pub walked_on : (bytes : List ℕ) (w : Walk) (text : List ℕ) (t : Turn) (whole : NameEnd × List ℕ) → w.size + 1 ≤ 255 → t ≡ turn_of bytes w → walked (turns_left w) bytes w text ≡ whole →
    on_turn (walked (turns_left w) bytes) bytes w text t ≡ whole
walked_on bytes w text t whole short is goes =
    let more : walked (suc (turns_left w)) bytes w text ≡ walked (turns_left w) bytes w text = same_turns (suc (turns_left w)) (turns_left w) bytes w text short (omega arith) (omega arith) in
    rw is (sym (turn_taken (turns_left w) bytes w text) ∙ more ∙ goes)

pub step_label : (bytes : List ℕ) (w next : Walk) (len : ℕ) (text more : List ℕ) (whole : NameEnd × List ℕ) → w.size + 1 ≤ 255 → next.size + 1 ≤ 255 → turns_left next < turns_left w → Label len next ≡ turn_of bytes w →
    walked (turns_left w) bytes w text ≡ whole → more ≡ dotted text (slice_range bytes (w.place + 1) (w.place + 1 + len)) → walked (turns_left next) bytes next more ≡ whole
step_label bytes w next len text more whole short soon fewer is goes with =
    rw with (same_turns (turns_left next) (turns_left w) bytes next (dotted text (slice_range bytes (w.place + 1) (w.place + 1 + len))) soon (omega arith) (omega (arith, fewer)) ∙ walked_on bytes w text (Label len next) whole short is goes)

pub step_jump : (bytes : List ℕ) (w next : Walk) (text : List ℕ) (whole : NameEnd × List ℕ) → w.size + 1 ≤ 255 → next.size + 1 ≤ 255 → turns_left next < turns_left w → Jump next ≡ turn_of bytes w →
    walked (turns_left w) bytes w text ≡ whole → walked (turns_left next) bytes next text ≡ whole
step_jump bytes w next text whole short soon fewer is goes =
    same_turns (turns_left next) (turns_left w) bytes next text soon (omega arith) (omega (arith, fewer)) ∙ walked_on bytes w text (Jump next) whole short is goes
