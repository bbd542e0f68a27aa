-- Operands joined by signs, and arguments by commas.
use Rattle.std.proofs.Common.{◌≡◌, ℕ, ◌+◌, ◌<◌, ◌≤◌, max, Bool, true, false, List, [], ◌∷◌, ◌++◌, cond, leb, append_assoc, arith, sym, ap, ◌∙◌, refl, subst}
use Rattle.std.proofs.lemmas.Bool.{leb-true}
use Rattle.std.proofs.lemmas.Bool.Decides.{nat_tests}
use Rattle.flt_syntax.specs.Grammar.{IsOperand, arguments, binds_arithmetic, calls, least_in, operand, part, sum, takes_more, tightness}
use Rattle.flt_parse.specs.Parser.Reading.{Call, Waiting, WaitingFor, Link, Comma, Sign, all_linked, binds_link, linked, wait}
use Rattle.flt_syntax.specs.Written.{WrittenOperand}
use Rattle.flt_syntax.specs.declared.ast.Arithmetic.{Arithmetic}
use Rattle.flt_syntax.specs.declared.ast.Arithmetic.TheVariants as arithmetic
use Rattle.flt_syntax.specs.declared.ast.Function.{Function}
use Rattle.flt_syntax.specs.declared.token.Kind.{Kind}
use Rattle.flt_parse.proofs.Printed.{IsUnder, IsWaiting, least_of, link_kind, print_waiting}

pub false_less : (m n : ℕ) → leb m n ≡ false → n < m
false_less m n h = grind (arith, nat_tests)

-- what a choice by a test gives
pub chosen_by : {A : Type 0} (P : A → Type 0) (t : Bool) (x y : A) → (t ≡ true → P x) → (t ≡ false → P y) → P (cond t x y)
chosen_by P true x y f g = f refl
chosen_by P false x y f g = g refl

-- two operands, joined
pub linked_operand : (j : Link) (l r : WrittenOperand) → IsOperand l → IsOperand r → binds_link j ≤ tightness l → binds_link j < tightness r → IsOperand (linked j l r)
linked_operand Comma l r left right loose tight = (left, right, loose, tight)
linked_operand (Sign a at) l r left right loose tight = (left, right, loose, tight)

pub linked_tight : (j : Link) (l r : WrittenOperand) → tightness (linked j l r) ≡ binds_link j
linked_tight Comma l r = refl
linked_tight (Sign a at) l r = refl

pub linked_calls : (j : Link) (l r : WrittenOperand) → calls (linked j l r) ≡ max (calls l) (calls r)
linked_calls Comma l r = refl
linked_calls (Sign a at) l r = refl

pub linked_printed : (j : Link) (l r : WrittenOperand) → operand (linked j l r) ≡ operand l ++ link_kind j ∷ operand r
linked_printed Comma l r = refl
linked_printed (Sign a at) l r = refl

-- how tightly they bind
binds_more : (a : Arithmetic) → sum ≤ binds_arithmetic a
binds_more arithmetic.Sum = omega arith
binds_more arithmetic.Difference = omega arith
binds_more arithmetic.Product = omega arith

binds_below : (a : Arithmetic) → binds_arithmetic a < part
binds_below arithmetic.Sum = omega arith
binds_below arithmetic.Difference = omega arith
binds_below arithmetic.Product = omega arith

pub link_below : (j : Link) → binds_link j < part
link_below Comma = omega arith
link_below (Sign a at) = binds_below a

pub comma_least : (j : Link) → arguments ≤ binds_link j
comma_least Comma = omega arith
comma_least (Sign a at) = let more = binds_more a in omega arith

least_small : (f : Function) → least_in f ≤ sum
least_small f = chosen_by (λ n. n ≤ sum) (takes_more f) arguments sum (λ e. omega arith) (λ e. omega arith)

pub least_sum : (cs : List Call) → least_of cs ≤ sum
least_sum [] = omega arith
least_sum (call ∷ cs) = least_small call.function

pub least_sign : (cs : List Call) (a : Arithmetic) → least_of cs ≤ binds_arithmetic a
least_sign cs a = let less = least_sum cs in let more = binds_more a in omega arith

pub least_more : (f : Function) → takes_more f ≡ true → least_in f ≡ arguments
least_more f e = rw e refl

pub under_part : (ws : List Waiting) (n : ℕ) → part ≤ n → IsUnder ws n
under_part [] n h = tt
under_part (WaitingFor l i ∷ ws) n h = let less = link_below i in omega arith

-- all that waits, joined
pub record IsLinked (limit count least : ℕ) (front : List Kind) (o : WrittenOperand) : Type 0 where
  pub good : IsOperand o
  pub loose : least ≤ tightness o
  pub room : count + calls o ≤ limit
  pub spells : operand o ≡ front

pub all_linked_good : (limit count least : ℕ) (ws : List Waiting) (o : WrittenOperand) → IsWaiting limit count least ws → IsOperand o → least ≤ tightness o → IsUnder ws (tightness o) → count + calls o ≤ limit
    → IsLinked limit count least (print_waiting ws ++ operand o) (all_linked ws o)
all_linked_good limit count least [] o is good loose under room = record { good = good; loose = loose; room = room; spells = refl }
all_linked_good limit count least (WaitingFor l i ∷ ws) o is good loose under room =
    let left = is.2 in
    let lower = is.3 in
    let tight = linked_tight i l o in
    let depth = linked_calls i l o in
    let more = all_linked_good limit count least ws (linked i l o) is.5 (linked_operand i l o is.0 good is.1 under) (omega arith)
    (subst (IsUnder ws) (sym tight) is.4) (omega arith) in
    record {
      good = more.good;
      loose = more.loose;
      room = more.room;
      spells = more.spells ∙ ap (λ ks. print_waiting ws ++ ks) (linked_printed i l o)
          ∙ sym (append_assoc (print_waiting ws) (operand l ++ link_kind i ∷ []) (operand o)
          ∙ ap (λ ks. print_waiting ws ++ ks) (append_assoc (operand l) (link_kind i ∷ []) (operand o)));
    }

pub record IsAwaited (limit count least : ℕ) (front : List Kind) (all : List Waiting) : Type 0 where
  pub waiting : IsWaiting limit count least all
  pub spells : print_waiting all ≡ front

pub wait_good : (limit count least : ℕ) (j : Link) (ws : List Waiting) (o : WrittenOperand) → IsWaiting limit count least ws → IsOperand o → IsUnder ws (tightness o) → binds_link j ≤ tightness o → least ≤ binds_link j → count + calls o ≤ limit
    → IsAwaited limit count least (print_waiting ws ++ (operand o ++ link_kind j ∷ [])) (wait j ws o)
wait_good limit count least j [] o is good under tight loose room = record { waiting = (good, tight, room, loose, tt, tt); spells = refl }
wait_good limit count least j (WaitingFor l i ∷ ws) o is good under tight loose room =
    chosen_by (IsAwaited limit count least (print_waiting (WaitingFor l i ∷ ws) ++ (operand o ++ link_kind j ∷ []))) (leb (binds_link j) (binds_link i))
    (wait j ws (linked i l o)) (WaitingFor o j ∷ WaitingFor l i ∷ ws)
    (λ tighter.
    let left = is.2 in
    let least_is = leb-true _ _ tighter in
    let same = linked_tight i l o in
    let depth = linked_calls i l o in
    let more = wait_good limit count least j ws (linked i l o) is.5 (linked_operand i l o is.0 good is.1 under)
    (subst (IsUnder ws) (sym same) is.4) (omega arith) loose (omega arith) in
    record {
      waiting = more.waiting;
      spells = more.spells ∙ ap (λ ks. print_waiting ws ++ (ks ++ link_kind j ∷ [])) (linked_printed i l o) ∙ simp append_assoc;
    })
    (λ looser.
    let less : binds_link i < binds_link j = false_less _ _ looser in
    record { waiting = (good, tight, room, loose, less, is); spells = refl })

-- only where no more arguments are taken do operands bind more tightly than by commas
pub none_small : (f : Function) → takes_more f ≡ false → least_in f ≤ arguments → ⊥
none_small f e h = let same : least_in f ≡ sum = rw e refl in omega arith
