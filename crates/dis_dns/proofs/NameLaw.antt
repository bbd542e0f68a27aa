-- The reading of a name finds exactly the names that there are.
use Rattle.std.proofs.Common.{◌≡◌, ℕ, zero, suc, ◌+◌, ◌-◌, ◌*◌, ◌<◌, ◌≤◌, true, false, List, [], ◌∷◌, length, Option, Some, None, drop, length-take, length-drop, refl, sym, ap, ◌∙◌, arith}
use Rattle.std.proofs.lemmas.Bool.Decides.{nat_tests}
use Rattle.std.specs.Prelude.{◌==◌, nat_le, nat_lt, slice_index, slice_range}
use Rattle.dis_dns.specs.declared.names.NameEnd.{NameEnd}
use Rattle.dis_dns.specs.declared.names.NameEnd.TheVariants.{Name, Leaves, Fails}
use Rattle.dis_dns.specs.declared.names.Turn.{Turn}
use Rattle.dis_dns.specs.declared.names.Turn.TheVariants.{Label, Jump, Over}
use Rattle.dis_dns.specs.declared.names.Walk.{Walk}
use Rattle.dis_dns.specs.Names.{IsRun, root, labelled, pointed, size_of_labels, text_on, target_at, after_or, turn_of, on_turn, walked, turns_left, first_walk, name_at, dotted, ReadsNames}
use Rattle.dis_dns.proofs.NameLemmas.{behind_label, at_target, TurnIs, turn_says, turn_taken, turn_pointer}

-- the labels from a walk's place on, behind which its name ends
record Rest (bytes : List ℕ) (w : Walk) (text : List ℕ) (after : ℕ) (whole : List ℕ) : Type 0 where
  pub labels : List (List ℕ)
  pub here : ℕ
  pub run : IsRun bytes w.start w.limit w.place labels here
  pub short : w.size + size_of_labels labels + 1 ≤ 255
  pub after_is : after ≡ after_or w.after here
  pub text_is : whole ≡ text_on text labels

label_length : (bytes : List ℕ) (from len : ℕ) → from + len ≤ length bytes → length (slice_range bytes from (from + len)) ≡ len
label_length bytes from len inside = omega (arith, length-take (from + len - from) (drop from bytes), length-drop from bytes)

labelled_by : (bytes : List ℕ) (start limit place : ℕ) (labels : List (List ℕ)) (here len : ℕ) → len ≡ slice_index bytes place → place + 1 + len ≤ limit → 0 < len → len < 64 → IsRun bytes start limit (place + 1 + len) labels here →
    IsRun bytes start limit place (slice_range bytes (place + 1) (place + 1 + len) ∷ labels) here
labelled_by bytes start limit place labels here len is room some small run =
    rw is (labelled start limit place labels here (rw is at room) (rw is at some) (rw is at small) (rw is at run))

found_on : (turns : ℕ) (bytes : List ℕ) (w : Walk) (text : List ℕ) (t : Turn) (after : ℕ) (whole : List ℕ) → w.size + 1 ≤ 255 → w.limit ≤ length bytes → TurnIs bytes w t →
    ((next : Walk) (more : List ℕ) → next.size + 1 ≤ 255 → next.limit ≤ length bytes → walked turns bytes next more ≡ (Name after, whole) → Rest bytes next more after whole) →
    on_turn (walked turns bytes) bytes w text t ≡ (Name after, whole) → Rest bytes w text after whole
found_on turns bytes w text (Label len next) after whole short inside is found goes =
    let on : walked turns bytes (behind_label w len) (dotted text (slice_range bytes (w.place + 1) (w.place + 1 + len))) ≡ (Name after, whole) = rw is.5 at goes in
    let rest : Rest bytes (behind_label w len) (dotted text (slice_range bytes (w.place + 1) (w.place + 1 + len))) after whole = found (behind_label w len) _ (omega (arith, is.4)) inside on in
    record {
      labels = slice_range bytes (w.place + 1) (w.place + 1 + len) ∷ rest.labels;
      here = rest.here;
      run = labelled_by bytes w.start w.limit w.place rest.labels rest.here len is.2 is.3 is.0 is.1 rest.run;
      short = omega (arith, rest.short, label_length bytes (w.place + 1) len (omega (arith, is.3, inside)));
      after_is = rest.after_is;
      text_is = rest.text_is;
    }
found_on turns bytes w text (Jump next) after whole short inside is found goes =
    let on : walked turns bytes (at_target bytes w) text ≡ (Name after, whole) = rw is.3 at goes in
    let rest : Rest bytes (at_target bytes w) text after whole = found (at_target bytes w) text short (omega arith) on in
    record {
      labels = rest.labels;
      here = w.place + 2;
      run = pointed w.start w.limit w.place rest.labels rest.here is.0 is.1 is.2 rest.run;
      short = rest.short;
      after_is = rest.after_is;
      text_is = rest.text_is;
    }
found_on turns bytes w text (Over (Name end)) after whole short inside is found goes =
    let same : Name end ≡ Name after = ap (λ (p : NameEnd × List ℕ). p.0) goes in
    let same_end : end ≡ after = cc in
    record {
      labels = [];
      here = w.place + 1;
      run = root w.start w.limit w.place is.0 is.1;
      short = omega (arith, short);
      after_is = sym same_end ∙ is.2;
      text_is = sym (ap (λ (p : NameEnd × List ℕ). p.1) goes);
    }
found_on turns bytes w text (Over Leaves) after whole short inside is found goes =
    let end : Leaves ≡ Name after = ap (λ (p : NameEnd × List ℕ). p.0) goes in
    absurd (cc)
found_on turns bytes w text (Over Fails) after whole short inside is found goes =
    let end : Fails ≡ Name after = ap (λ (p : NameEnd × List ℕ). p.0) goes in
    absurd (cc)

found : (turns : ℕ) (bytes : List ℕ) (w : Walk) (text : List ℕ) (after : ℕ) (whole : List ℕ) → w.size + 1 ≤ 255 → w.limit ≤ length bytes → walked turns bytes w text ≡ (Name after, whole) → Rest bytes w text after whole
unfolding walked
found zero bytes w text after whole short inside goes =
    let end : Fails ≡ Name after = ap (λ (p : NameEnd × List ℕ). p.0) goes in
    absurd (cc)
found (suc turns) bytes w text after whole short inside goes =
    found_on turns bytes w text (turn_of bytes w) after whole short inside (turn_says bytes w).is (λ next more ok room on. found turns bytes next more after whole ok room on) goes

-- the turn at a place where a run is known
turn_root : (bytes : List ℕ) (w : Walk) → w.place < w.limit → slice_index bytes w.place ≡ 0 → turn_of bytes w ≡ Over (Name (after_or w.after (w.place + 1)))
unfolding turn_of
turn_root bytes w inside none =
    let on : nat_le w.limit w.place ≡ false = grind (arith, nat_tests) in
    let end : (slice_index bytes w.place == 0) ≡ true = grind (arith, nat_tests) in
    rw (on, end) refl

pub turn_label : (bytes : List ℕ) (w : Walk) → w.place + 1 + slice_index bytes w.place ≤ w.limit → 0 < slice_index bytes w.place → slice_index bytes w.place < 64 → w.size + 1 + slice_index bytes w.place + 1 ≤ 255 →
    turn_of bytes w ≡ Label (slice_index bytes w.place) (behind_label w (slice_index bytes w.place))
unfolding turn_of
turn_label bytes w room some small short =
    let on : nat_le w.limit w.place ≡ false = grind (arith, nat_tests) in
    let more : (slice_index bytes w.place == 0) ≡ false = grind (arith, nat_tests) in
    let plain : nat_lt (slice_index bytes w.place) 64 ≡ true = grind (arith, nat_tests) in
    let fits : nat_lt w.limit (w.place + 1 + slice_index bytes w.place) ≡ false = grind (arith, nat_tests) in
    let ends : nat_lt 255 (w.size + 1 + slice_index bytes w.place + 1) ≡ false = grind (arith, nat_tests) in
    rw (on, more, plain, fits, ends) refl

-- where labels are known, the reading finds them
finds : (bytes : List ℕ) (start limit place : ℕ) (labels : List (List ℕ)) (here : ℕ) → IsRun bytes start limit place labels here →
    (turns size : ℕ) (after : Option ℕ) (text : List ℕ) → limit ≤ length bytes → size + size_of_labels labels + 1 ≤ 255 → start * 256 + (256 - size) ≤ turns →
    walked turns bytes (record { start = start; limit = limit; place = place; size = size; after = after }) text ≡ (Name (after_or after here), text_on text labels)
finds bytes start limit place labels here run zero size after text inside short enough = absurd (omega arith)
finds bytes start limit place _ _ (root _ _ _ on none) (suc turns) size after text inside short enough =
    let w : Walk = record { start = start; limit = limit; place = place; size = size; after = after } in
    turn_taken turns bytes w text ∙ ap (on_turn (walked turns bytes) bytes w text) (turn_root bytes w on none)
finds bytes start limit place _ here (labelled _ _ _ labels _ room some small run) (suc turns) size after text inside short enough =
    let w : Walk = record { start = start; limit = limit; place = place; size = size; after = after } in
    let len : length (slice_range bytes (place + 1) (place + 1 + slice_index bytes place)) ≡ slice_index bytes place = label_length bytes (place + 1) (slice_index bytes place) (omega arith) in
    turn_taken turns bytes w text ∙ ap (on_turn (walked turns bytes) bytes w text) (turn_label bytes w room some small (omega (arith, short, len)))
    ∙ finds bytes start limit (place + 1 + slice_index bytes place) labels here run turns (size + 1 + slice_index bytes place) after
    (dotted text (slice_range bytes (place + 1) (place + 1 + slice_index bytes place))) inside (omega (arith, short, len)) (omega (arith, short, len, enough))
finds bytes start limit place labels _ (pointed _ _ _ _ later room high before run) (suc turns) size after text inside short enough =
    let w : Walk = record { start = start; limit = limit; place = place; size = size; after = after } in
    turn_taken turns bytes w text ∙ ap (on_turn (walked turns bytes) bytes w text) (turn_pointer bytes w room high before)
    ∙ finds bytes (target_at bytes place) (length bytes) (target_at bytes place) labels later run turns size (Some (after_or after (place + 2))) text (omega arith) short (omega (arith, before, enough))

pub reads_names : ReadsNames
unfolding name_at
reads_names bytes end place after text inside = (
  (λ goes.
      let rest = found (turns_left (first_walk end place)) bytes (first_walk end place) [] after text (omega arith) inside goes in
      (rest.labels, (record { run = rw (← rest.after_is) at rest.run; short = omega (arith, rest.short) }), rest.text_is)),
  (λ known. rw known.2 (finds bytes place end place known.0 after known.1.run (turns_left (first_walk end place)) 0 None [] inside (omega (arith, known.1.short)) (omega arith))),
)
