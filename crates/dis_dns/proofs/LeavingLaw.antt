-- A name leaves exactly where its first run does.
use Rattle.std.proofs.Common.{◌≡◌, ℕ, zero, suc, ◌+◌, ◌-◌, ◌*◌, ◌<◌, ◌≤◌, Bool, true, false, if◌then◌else◌, List, [], Option, Some, None, refl, ap, ◌∙◌, arith}
use Rattle.std.proofs.lemmas.Bool.Decides.{nat_tests}
use Rattle.std.specs.Prelude.{◌==◌, nat_le, nat_lt, slice_index, slice_range}
use Rattle.dis_dns.specs.declared.names.NameEnd.{NameEnd}
use Rattle.dis_dns.specs.declared.names.NameEnd.TheVariants.{Name, Leaves, Fails}
use Rattle.dis_dns.specs.declared.names.Turn.{Turn}
use Rattle.dis_dns.specs.declared.names.Turn.TheVariants.{Label, Jump, Over}
use Rattle.dis_dns.specs.declared.names.Walk.{Walk}
use Rattle.dis_dns.specs.Names.{target_at, after_or, left_by, label_turn, pointer_turn, turn_of, on_turn, walked, turns_left, first_walk, name_at, dotted, IsLeaving, at_end, in_label, in_pointer, past_label, TellsLeaving}
use Rattle.dis_dns.proofs.NameLaw.{turn_label}
use Rattle.dis_dns.proofs.NameLemmas.{behind_label, at_target, TurnIs, turn_says, turn_taken}

abbrev LeavesFirst : List ℕ → Walk → Type 0
LeavesFirst bytes w = (w.after ≡ None) × IsLeaving bytes w.limit w.place w.size

record LeavesAt (bytes : List ℕ) (w : Walk) (t : Turn) : Type 0 where
  pub first : t ≡ Over Leaves → LeavesFirst bytes w

leave_if : (bytes : List ℕ) (w : Walk) (b : Bool) (x y : Turn) → (b ≡ true → LeavesAt bytes w x) → (b ≡ false → LeavesAt bytes w y) → LeavesAt bytes w (if b then x else y)
leave_if bytes w true x y one other = one refl
leave_if bytes w false x y one other = other refl

leave_left : (bytes : List ℕ) (w : Walk) (after : Option ℕ) → w.after ≡ after → IsLeaving bytes w.limit w.place w.size → LeavesAt bytes w (Over (left_by after))
leave_left bytes w None is leaving = record { first = λ _. (is, leaving) }
leave_left bytes w (Some after) is leaving = record { first = λ same. let over : Over Fails ≡ Over Leaves = same in absurd (cc) }

leave_fails : (bytes : List ℕ) (w : Walk) → LeavesAt bytes w (Over Fails)
leave_fails bytes w = record { first = λ same. absurd (cc) }

leave_name : (bytes : List ℕ) (w : Walk) (after : ℕ) → LeavesAt bytes w (Over (Name after))
leave_name bytes w after = record { first = λ same. absurd (cc) }

leave_label : (bytes : List ℕ) (w next : Walk) (len : ℕ) → LeavesAt bytes w (Label len next)
leave_label bytes w next len = record { first = λ same. absurd (cc) }

leave_jump : (bytes : List ℕ) (w next : Walk) → LeavesAt bytes w (Jump next)
leave_jump bytes w next = record { first = λ same. absurd (cc) }

leaves_label : (bytes : List ℕ) (w : Walk) (len : ℕ) → len ≡ slice_index bytes w.place → w.place < w.limit → 0 < len → len < 64 → LeavesAt bytes w (label_turn w len)
leaves_label bytes w len is inside some small =
    leave_if bytes w (nat_lt w.limit (w.place + 1 + len)) (Over (left_by w.after)) _
    (λ over. leave_left bytes w w.after refl (in_label w.place w.size inside (rw is at some) (rw is at small) (grind (arith, nat_tests))))
    (λ _. leave_if bytes w (nat_lt 255 (w.size + 1 + len + 1)) (Over Fails) (Label len (behind_label w len)) (λ _. leave_fails bytes w) (λ _. leave_label bytes w (behind_label w len) len))

leaves_pointer : (bytes : List ℕ) (w : Walk) → w.place < w.limit → 192 ≤ slice_index bytes w.place → LeavesAt bytes w (pointer_turn bytes w)
leaves_pointer bytes w inside high =
    leave_if bytes w (nat_lt w.limit (w.place + 2)) (Over (left_by w.after)) _
    (λ over. leave_left bytes w w.after refl (in_pointer w.place w.size inside high (grind (arith, nat_tests))))
    (λ _. leave_if bytes w (nat_lt (target_at bytes w.place) w.start) (Jump (at_target bytes w)) (Over Fails) (λ _. leave_jump bytes w (at_target bytes w)) (λ _. leave_fails bytes w))

turn_leaves : (bytes : List ℕ) (w : Walk) → LeavesAt bytes w (turn_of bytes w)
unfolding turn_of
turn_leaves bytes w =
    leave_if bytes w (nat_le w.limit w.place) (Over (left_by w.after)) _ (λ past. leave_left bytes w w.after refl (at_end w.place w.size (grind (arith, nat_tests))))
    (λ inside. leave_if bytes w (slice_index bytes w.place == 0) (Over (Name (after_or w.after (w.place + 1)))) _ (λ _. leave_name bytes w (after_or w.after (w.place + 1)))
    (λ some. leave_if bytes w (nat_lt (slice_index bytes w.place) 64) (label_turn w (slice_index bytes w.place)) _
    (λ small. leaves_label bytes w (slice_index bytes w.place) refl (grind (arith, nat_tests)) (grind (arith, nat_tests)) (grind (arith, nat_tests)))
    (λ large. leave_if bytes w (nat_le 192 (slice_index bytes w.place)) (pointer_turn bytes w) (Over Fails)
    (λ high. leaves_pointer bytes w (grind (arith, nat_tests)) (grind (arith, nat_tests)))
    (λ _. leave_fails bytes w))))

past : (bytes : List ℕ) (w : Walk) (len : ℕ) → len ≡ slice_index bytes w.place → w.place + 1 + len ≤ w.limit → 0 < len → len < 64 → w.size + 1 + len + 1 ≤ 255 →
    IsLeaving bytes w.limit (w.place + 1 + len) (w.size + 1 + len) → IsLeaving bytes w.limit w.place w.size
past bytes w len is room some small short leaving =
    past_label w.place w.size (rw is at room) (rw is at some) (rw is at small) (rw is at short) (rw is at leaving)

first_on : (turns : ℕ) (bytes : List ℕ) (w : Walk) (text : List ℕ) (t : Turn) → TurnIs bytes w t → LeavesAt bytes w t →
    ((next : Walk) (more : List ℕ) → (walked turns bytes next more).0 ≡ Leaves → LeavesFirst bytes next) →
    (on_turn (walked turns bytes) bytes w text t).0 ≡ Leaves → LeavesFirst bytes w
first_on turns bytes w text (Label len next) is at found goes =
    let on : (walked turns bytes (behind_label w len) (dotted text (slice_range bytes (w.place + 1) (w.place + 1 + len)))).0 ≡ Leaves = rw is.5 at goes in
    let rest : LeavesFirst bytes (behind_label w len) = found (behind_label w len) _ on in
    (rest.0, past bytes w len is.2 is.3 is.0 is.1 is.4 rest.1)
first_on turns bytes w text (Jump next) is at found goes =
    let on : (walked turns bytes (at_target bytes w) text).0 ≡ Leaves = rw is.3 at goes in
    let none : Some (after_or w.after (w.place + 2)) ≡ None = (found (at_target bytes w) text on).0 in
    absurd (cc)
first_on turns bytes w text (Over end) is at found goes = at.first (ap (λ (e : NameEnd). Over e) goes)

leaves_first : (turns : ℕ) (bytes : List ℕ) (w : Walk) (text : List ℕ) → (walked turns bytes w text).0 ≡ Leaves → LeavesFirst bytes w
unfolding walked
leaves_first zero bytes w text goes =
    let none : Fails ≡ Leaves = goes in
    absurd (cc)
leaves_first (suc turns) bytes w text goes =
    first_on turns bytes w text (turn_of bytes w) (turn_says bytes w).is (turn_leaves bytes w) (λ next more leaves. leaves_first turns bytes next more leaves) goes

-- the turns where the first run leaves
turn_at_end : (bytes : List ℕ) (w : Walk) → w.after ≡ None → w.limit ≤ w.place → turn_of bytes w ≡ Over Leaves
unfolding turn_of
turn_at_end bytes w none over =
    let end : nat_le w.limit w.place ≡ true = grind (arith, nat_tests) in
    rw (end, none) refl

turn_in_label : (bytes : List ℕ) (w : Walk) → w.after ≡ None → w.place < w.limit → 0 < slice_index bytes w.place → slice_index bytes w.place < 64 → w.limit < w.place + 1 + slice_index bytes w.place → turn_of bytes w ≡ Over Leaves
unfolding turn_of
turn_in_label bytes w none inside some small over =
    let on : nat_le w.limit w.place ≡ false = grind (arith, nat_tests) in
    let more : (slice_index bytes w.place == 0) ≡ false = grind (arith, nat_tests) in
    let plain : nat_lt (slice_index bytes w.place) 64 ≡ true = grind (arith, nat_tests) in
    let leaves : nat_lt w.limit (w.place + 1 + slice_index bytes w.place) ≡ true = grind (arith, nat_tests) in
    rw (on, more, plain, leaves, none) refl

turn_in_pointer : (bytes : List ℕ) (w : Walk) → w.after ≡ None → w.place < w.limit → 192 ≤ slice_index bytes w.place → w.limit < w.place + 2 → turn_of bytes w ≡ Over Leaves
unfolding turn_of
turn_in_pointer bytes w none inside high over =
    let on : nat_le w.limit w.place ≡ false = grind (arith, nat_tests) in
    let more : (slice_index bytes w.place == 0) ≡ false = grind (arith, nat_tests) in
    let large : nat_lt (slice_index bytes w.place) 64 ≡ false = grind (arith, nat_tests) in
    let led : nat_le 192 (slice_index bytes w.place) ≡ true = grind (arith, nat_tests) in
    let leaves : nat_lt w.limit (w.place + 2) ≡ true = grind (arith, nat_tests) in
    rw (on, more, large, led, leaves, none) refl

abbrev in_first : ℕ → ℕ → ℕ → ℕ → Walk
in_first start end place size = record { start = start; limit = end; place = place; size = size; after = None }

ended : (turns : ℕ) (bytes : List ℕ) (w : Walk) (text : List ℕ) → turn_of bytes w ≡ Over Leaves → (walked (suc turns) bytes w text).0 ≡ Leaves
ended turns bytes w text is =
    ap (λ (read : NameEnd × List ℕ). read.0) (turn_taken turns bytes w text ∙ ap (on_turn (walked turns bytes) bytes w text) is)

leads : (bytes : List ℕ) (end place size : ℕ) → IsLeaving bytes end place size → (turns start : ℕ) (text : List ℕ) → size + 1 ≤ 255 → start * 256 + (256 - size) ≤ turns →
    (walked turns bytes (in_first start end place size) text).0 ≡ Leaves
leads bytes end place size leaving zero start text short enough = absurd (omega arith)
leads bytes end place size (at_end _ _ over) (suc turns) start text short enough =
    ended turns bytes (in_first start end place size) text (turn_at_end bytes (in_first start end place size) refl over)
leads bytes end place size (in_label _ _ inside some small over) (suc turns) start text short enough =
    ended turns bytes (in_first start end place size) text (turn_in_label bytes (in_first start end place size) refl inside some small over)
leads bytes end place size (in_pointer _ _ inside high over) (suc turns) start text short enough =
    ended turns bytes (in_first start end place size) text (turn_in_pointer bytes (in_first start end place size) refl inside high over)
leads bytes end place size (past_label _ _ room some small fits leaving) (suc turns) start text short enough =
    let w : Walk = in_first start end place size in
    ap (λ (read : NameEnd × List ℕ). read.0) (turn_taken turns bytes w text ∙ ap (on_turn (walked turns bytes) bytes w text) (turn_label bytes w room some small fits))
    ∙ leads bytes end (place + 1 + slice_index bytes place) (size + 1 + slice_index bytes place) leaving turns start
    (dotted text (slice_range bytes (place + 1) (place + 1 + slice_index bytes place))) (omega (arith, fits)) (omega (arith, enough, some))

pub tells_leaving : TellsLeaving
unfolding name_at
tells_leaving bytes end place = (
  (λ leaves. (leaves_first (turns_left (first_walk end place)) bytes (first_walk end place) [] leaves).1),
  (λ leaving. leads bytes end place 0 leaving (turns_left (first_walk end place)) place [] (omega arith) (omega arith)),
)
