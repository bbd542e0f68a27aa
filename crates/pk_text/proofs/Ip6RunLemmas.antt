-- The best run of zero groups, found place by place.
use Rattle.std.proofs.Common.{◌≡◌, ℕ, ◌+◌, ◌-◌, ◌<◌, ◌≤◌, eqb, ltb, cond, List, length, length-drop, take, drop, codes, ◌++◌, subst, sym, ap, ◌∙◌, arith, inl, inr}
use Rattle.std.specs.List.{prefix_len}
use Rattle.std.proofs.lemmas.Bool.{eqb-true, eqb-false, cases_lt, cond_both, ltb-true, ltb-false}
use Rattle.std.proofs.lemmas.List.{get_or-drop, take_all}
use Rattle.std.proofs.lemmas.List.Sums.{prefix_len-le-length, prefix_len_passes, prefix_len_stops}
use Rattle.pk_text.specs.declared.ip6.Run.{Run}
use Rattle.pk_text.specs.Ip6.{IsRun, IsBestRun, IsIp6Text, groups_shown}

-- how many zeros stand from place a on
abbrev pub zeros_from : ℕ → List ℕ → ℕ
zeros_from a groups = prefix_len (λ group. eqb group 0) (drop a groups)

-- a slice from place a on is all that stands there
pub zeros_in_slice : (groups : List ℕ) (a count : ℕ) → count ≡ prefix_len (λ group. eqb group 0) (take (length groups - a) (drop a groups)) → count ≡ zeros_from a groups
zeros_in_slice groups a count e =
    e ∙ ap (prefix_len (λ group. eqb group 0)) (take_all (length groups - a) (drop a groups) (omega (arith, length-drop a groups)))

run_here : (groups : List ℕ) (a : ℕ) → a ≤ length groups → IsRun groups a (zeros_from a groups)
run_here groups a inside =
    let short = prefix_len-le-length (λ group. eqb group 0) (drop a groups) in
    record {
      inside = omega (arith, short, length-drop a groups);
      zeros = λ i less. sym (get_or-drop a groups i 0) ∙ eqb-true _ 0 (prefix_len_passes (λ group. eqb group 0) (drop a groups) i 0 less);
    }

run_most : (groups : List ℕ) (a n : ℕ) → IsRun groups a n → n ≤ zeros_from a groups
run_most groups a n run =
    elim (cases_lt (zeros_from a groups) n) [
      | inl less ↦
          let stops = prefix_len_stops (λ group. eqb group 0) (drop a groups) 0 (omega (arith, run.inside, length-drop a groups)) in
          absurd (eqb-false _ 0 stops (get_or-drop a groups (zeros_from a groups) 0 ∙ run.zeros (zeros_from a groups) less))
      | inr most ↦ most
    ]

-- the run is the best of those that begin before place i
pub record IsBestBefore (groups : List ℕ) (i at count : ℕ) : Type 0 where
  pub run : IsRun groups at count
  pub before : at ≤ i
  pub longest : (a n : ℕ) → a < i → IsRun groups a n → n ≤ count
  pub first : (a : ℕ) → a < i → IsRun groups a count → 0 < count → at ≤ a

pub best_none : (groups : List ℕ) → IsBestBefore groups 0 0 0
best_none groups = record {
  run = record { inside = omega arith; zeros = λ i less. absurd (omega arith) };
  before = omega arith;
  longest = λ a n less run. absurd (omega arith);
  first = λ a less run some. absurd (omega arith);
}

-- a place below i + 1 is below i, or is i
below_or_at : (P : ℕ → Type 0) (a i : ℕ) → a < i + 1 → (a < i → P a) → P i → P a
below_or_at P a i less below here =
    elim (cases_lt a i) [
      | inl earlier ↦ below earlier
      | inr later ↦ let same : i ≡ a = omega arith in subst P same here
    ]

pub best_taken : (groups : List ℕ) (i at count : ℕ) → i < length groups → IsBestBefore groups i at count → count < zeros_from i groups → IsBestBefore groups (i + 1) i (zeros_from i groups)
best_taken groups i at count inside best more = record {
  run = run_here groups i (omega arith);
  before = omega arith;
  longest = λ a n less.
      below_or_at (λ b. IsRun groups b n → n ≤ zeros_from i groups) a i less
      (λ earlier run. omega (arith, best.longest a n earlier run, more)) (λ run. run_most groups i n run);
  first = λ a less.
      below_or_at (λ b. IsRun groups b (zeros_from i groups) → 0 < zeros_from i groups → i ≤ b) a i less
      (λ earlier run some. absurd (omega (arith, best.longest a _ earlier run, more))) (λ run some. omega arith);
}

pub best_kept : (groups : List ℕ) (i at count : ℕ) → IsBestBefore groups i at count → zeros_from i groups ≤ count → IsBestBefore groups (i + 1) at count
best_kept groups i at count best most = record {
  run = best.run;
  before = omega (arith, best.before);
  longest = λ a n less.
      below_or_at (λ b. IsRun groups b n → n ≤ count) a i less
      (λ earlier run. best.longest a n earlier run) (λ run. omega (arith, run_most groups i n run, most));
  first = λ a less.
      below_or_at (λ b. IsRun groups b count → 0 < count → at ≤ b) a i less
      (λ earlier run some. best.first a earlier run some) (λ run some. best.before);
}

-- one more place
pub best_more : (groups : List ℕ) (i count : ℕ) (best more : Run) → i < length groups → IsBestBefore groups i best.start best.count → count ≡ zeros_from i groups → more ≡ cond (ltb best.count count) (record { start = i; count = count }) best → IsBestBefore groups (i + 1) more.start more.count
best_more groups i count best more inside so_far counted chosen =
    let IsBest : Run → Type 0 = λ run. IsBestBefore groups (i + 1) run.start run.count in
    subst IsBest (sym chosen)
    (cond_both (ltb best.count count) (record { start = i; count = count }) best IsBest
    (λ longer. subst (IsBestBefore groups (i + 1) i) (sym counted)
    (best_taken groups i best.start best.count inside so_far (omega (arith, ltb-true best.count count longer, counted))))
    (λ no_longer. best_kept groups i best.start best.count so_far (omega (arith, ltb-false best.count count no_longer, counted))))

-- every place is passed
pub best_done : (groups : List ℕ) (i at count : ℕ) → length groups ≤ i → IsBestBefore groups i at count → IsBestRun groups at count
best_done groups i at count all best = record {
  run = best.run;
  longest = λ a n run.
      elim (cases_lt a i) [
        | inl earlier ↦ best.longest a n earlier run
        | inr later ↦ omega (arith, run.inside)
      ];
  first = λ a run some.
      elim (cases_lt a i) [
        | inl earlier ↦ best.first a earlier run some
        | inr later ↦ absurd (omega (arith, run.inside))
      ];
}

-- a text with no `::`, and one with it
pub plain_text : (groups text : List ℕ) (at count : ℕ) → IsBestRun groups at count → count < 2 → text ≡ groups_shown groups → IsIp6Text groups text
plain_text groups text at count best few same = inr (λ a n run. omega (arith, best.longest a n run, few), same)

pub shortened_text : (groups text : List ℕ) (at count : ℕ) → IsBestRun groups at count → 2 ≤ count → text ≡ groups_shown (take at groups) ++ (codes "::" ++ groups_shown (drop (at + count) groups)) → IsIp6Text groups text
shortened_text groups text at count best many same = inl (at, count, best, many, same)
