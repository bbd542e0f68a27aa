-- Lists whose last is the first, as the parser keeps what is open.
use Rattle.std.proofs.Common.{◌≡◌, ℕ, suc, ◌+◌, ◌-◌, ◌<◌, ◌≤◌, true, false, List, [], ◌∷◌, ◌++◌, take, drop, get_or, length, length-append, ltb, leb, arith, sym, ap, ◌∙◌, refl, subst}
use Rattle.std.proofs.Math.Seq.{take-length}
use Rattle.std.proofs.lemmas.Bool.Decides.{nat_tests}
use Rattle.flt_syntax.specs.Grammar.{binds}
use Rattle.flt_parse.specs.Parser.Reading as reading
use Rattle.flt_parse.specs.Parser.States.{around_of, frame_of, left_of, reversed, waiting_of}
use Rattle.flt_syntax.specs.Written.{Written, WrittenOperand, JoinedOf, operand_of, written}
use Rattle.flt_parse.specs.declared.state.Frame.{Frame}
use Rattle.flt_parse.specs.declared.state.Left.{Left}
use Rattle.flt_parse.specs.declared.state.Link.{Link}
use Rattle.flt_parse.specs.declared.state.Waiting.{Waiting}
use Rattle.flt_syntax.specs.declared.token.Join.{Join}

pub reversed_push : {A B : Type 0} (f : A → B) (xs : List A) (x : A) → reversed f (xs ++ x ∷ []) ≡ f x ∷ reversed f xs
reversed_push f [] x = refl
reversed_push f (y ∷ ys) x = ap (λ zs. zs ++ f y ∷ []) (reversed_push f ys x)

pub length_reversed : {A B : Type 0} (f : A → B) (xs : List A) → length (reversed f xs) ≡ length xs
length_reversed f [] = refl
length_reversed f (x ∷ xs) = let shorter = length_reversed f xs in omega (arith, length-append (reversed f xs) (f x ∷ []))

-- signs
looser_test : (m n : ℕ) → ltb n m ≡ true → leb m n ≡ false
looser_test m n h = grind (arith, nat_tests)

tighter_test : (m n : ℕ) → ltb n m ≡ false → leb m n ≡ true
tighter_test m n h = grind (arith, nat_tests)

looser_first : (j i : Join) (l t : Written) (lefts : List reading.Left) → ltb (binds i) (binds j) ≡ true
    → reading.settle j (reading.LeftOf l i ∷ lefts) t ≡ reading.LeftOf t j ∷ reading.LeftOf l i ∷ lefts
looser_first j i l t lefts h = let e : leb (binds j) (binds i) ≡ false = looser_test _ _ h in rw e refl

tighter_first : (j i : Join) (l t : Written) (lefts : List reading.Left) → ltb (binds i) (binds j) ≡ false
    → reading.settle j (reading.LeftOf l i ∷ lefts) t ≡ reading.settle j lefts (JoinedOf i l t)
tighter_first j i l t lefts h = let e : leb (binds j) (binds i) ≡ true = tighter_test _ _ h in rw e refl

pub settle_looser : (j : Join) (xs : List Left) (x : Left) (t : Written) → ltb (binds x.join) (binds j) ≡ true
    → reading.settle j (reversed left_of (xs ++ x ∷ [])) t ≡ reading.LeftOf t j ∷ reversed left_of (xs ++ x ∷ [])
settle_looser j xs x t h =
    ap (λ ls. reading.settle j ls t) (reversed_push left_of xs x)
    ∙ looser_first j x.join (written x.filter) t (reversed left_of xs) h
    ∙ ap (λ ls. reading.LeftOf t j ∷ ls) (sym (reversed_push left_of xs x))

pub settle_tighter : (j : Join) (xs : List Left) (x : Left) (t : Written) → ltb (binds x.join) (binds j) ≡ false
    → reading.settle j (reversed left_of (xs ++ x ∷ [])) t ≡ reading.settle j (reversed left_of xs) (JoinedOf x.join (written x.filter) t)
settle_tighter j xs x t h =
    ap (λ ls. reading.settle j ls t) (reversed_push left_of xs x) ∙ tighter_first j x.join (written x.filter) t (reversed left_of xs) h

-- signs and commas within an operand
wait_looser_first : (j i : Link) (l o : WrittenOperand) (ws : List reading.Waiting) → ltb (reading.binds_link i) (reading.binds_link j) ≡ true
    → reading.wait j (reading.WaitingFor l i ∷ ws) o ≡ reading.WaitingFor o j ∷ reading.WaitingFor l i ∷ ws
wait_looser_first j i l o ws h = let e : leb (reading.binds_link j) (reading.binds_link i) ≡ false = looser_test _ _ h in rw e refl

wait_tighter_first : (j i : Link) (l o : WrittenOperand) (ws : List reading.Waiting) → ltb (reading.binds_link i) (reading.binds_link j) ≡ false
    → reading.wait j (reading.WaitingFor l i ∷ ws) o ≡ reading.wait j ws (reading.linked i l o)
wait_tighter_first j i l o ws h = let e : leb (reading.binds_link j) (reading.binds_link i) ≡ true = tighter_test _ _ h in rw e refl

abbrev waiting_as : Waiting → reading.Waiting
waiting_as w = reading.WaitingFor (operand_of w.operand) w.link

pub wait_looser : (j : Link) (xs : List Waiting) (x : Waiting) (o : WrittenOperand) → ltb (reading.binds_link x.link) (reading.binds_link j) ≡ true
    → reading.wait j (waiting_of (xs ++ x ∷ [])) o ≡ reading.WaitingFor o j ∷ waiting_of (xs ++ x ∷ [])
wait_looser j xs x o h =
    ap (λ ws. reading.wait j ws o) (reversed_push waiting_as xs x)
    ∙ wait_looser_first j x.link (operand_of x.operand) o (waiting_of xs) h
    ∙ ap (λ ws. reading.WaitingFor o j ∷ ws) (sym (reversed_push waiting_as xs x))

pub wait_tighter : (j : Link) (xs : List Waiting) (x : Waiting) (o : WrittenOperand) → ltb (reading.binds_link x.link) (reading.binds_link j) ≡ false
    → reading.wait j (waiting_of (xs ++ x ∷ [])) o ≡ reading.wait j (waiting_of xs) (reading.linked x.link (operand_of x.operand) o)
wait_tighter j xs x o h =
    ap (λ ws. reading.wait j ws o) (reversed_push waiting_as xs x) ∙ wait_tighter_first j x.link (operand_of x.operand) o (waiting_of xs) h

-- what is open
around_last : (fs : List reading.Frame) (f : reading.Frame) → reading.open_around (fs ++ f ∷ []) ≡ reading.open_around fs + suc (length f.nots)
around_last [] f = omega arith
around_last (g ∷ fs) f = let shorter = around_last fs f in omega arith

around_first : (f : Frame) (fs : List Frame) → reading.open_around (around_of (f ∷ fs)) ≡ reading.open_around (around_of fs) + suc (length f.nots.items)
around_first f fs =
    let count : length (reversed (λ n. n) f.nots.items) ≡ length f.nots.items = length_reversed (λ n. n) f.nots.items in
    around_last (around_of fs) (frame_of f) ∙ ap (λ n. reading.open_around (around_of fs) + suc n) count

pub frame_within : (f : Frame) (fs : List Frame) (room : ℕ) → length f.nots.items < room
    → ltb (reading.open_around (around_of (f ∷ fs))) room ≡ ltb (reading.open_around (around_of fs)) (room - length f.nots.items - 1)
frame_within f fs room h = let first = around_first f fs in rw first (less_moved (reading.open_around (around_of fs)) (length f.nots.items) room h)
  where
    less_moved : (a n r : ℕ) → n < r → ltb (a + suc n) r ≡ ltb a (r - n - 1)
    less_moved a n r h = grind (arith, nat_tests)

-- of a list that isn't empty: its first frame, and those behind
pub frame_first : (fs : List Frame) (f : Frame) (room len : ℕ) → 1 ≤ length fs → f ≡ get_or fs 0 f → len ≡ length f.nots.items → len < room
    → ltb (reading.open_around (around_of (take (length fs - 1) (drop 1 fs)))) (room - len - 1) ≡ ltb (reading.open_around (around_of fs)) room
frame_first [] f room len some is e h = absurd (omega arith)
frame_first (g ∷ fs) f room len some is e h =
    let behind : length (g ∷ fs) - 1 ≡ length fs = omega arith in
    let rest : take (length (g ∷ fs) - 1) fs ≡ fs = rw behind (take-length fs) in
    let same : len ≡ length g.nots.items = e ∙ ap (λ x. length x.nots.items) is in
    ap (λ xs. ltb (reading.open_around (around_of xs)) (room - len - 1)) rest
    ∙ ap (λ n. ltb (reading.open_around (around_of fs)) (room - n - 1)) same
    ∙ sym (frame_within g fs room (subst (λ n. n < room) same h))

pub frame_beyond : (f : Frame) (fs : List Frame) (room : ℕ) → room ≤ length f.nots.items → ltb (reading.open_around (around_of (f ∷ fs))) room ≡ false
frame_beyond f fs room h = let first = around_first f fs in grind (arith, nat_tests)

pub room_within : (calls : ℕ) (f : Frame) (around : List reading.Frame) (limit used : ℕ) → used ≡ calls + length f.nots.items → used ≤ limit
    → ltb (calls + reading.open_at (frame_of f) around) limit ≡ ltb (reading.open_around around) (limit - used)
room_within calls f around limit used e h = let count = length_reversed (λ n. n) f.nots.items in grind (arith, nat_tests)

pub room_beyond : (calls : ℕ) (f : Frame) (around : List reading.Frame) (limit : ℕ) → limit < calls + length f.nots.items
    → ltb (calls + reading.open_at (frame_of f) around) limit ≡ false
room_beyond calls f around limit h = let count = length_reversed (λ n. n) f.nots.items in grind (arith, nat_tests)
