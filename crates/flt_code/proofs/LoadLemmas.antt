-- The code of a term, by that of its parts.
use Rattle.std.proofs.Common.{◌≡◌, ◌<◌, ◌≤◌, ℕ, Bool as Truth, true, false, Some, List, [], ◌∷◌, ◌++◌, append_assoc, ap, arith, refl, subst, sym, ◌∙◌}
use Rattle.std.specs.Global.{Box, Vec}
use Rattle.std.specs.Prelude.{IfOk, Result, Ok, Err}
use Rattle.flt_code.specs.Code.{Adds, Chooses, Joins, Loads, LoadsCall, LoadsExtreme, LoadsRight, Makes, Sets, Then, is_several}
use Rattle.flt_code.specs.Owners.{Grows, IsOwned, Owner, OfTerm, OfExtreme}
use Rattle.flt_chains.specs.Parts.{left_of_term}
use Rattle.flt_code.proofs.Growth.{get_more, loads_grow}
use Rattle.flt_syntax.specs.declared.ast.Arithmetic.{Arithmetic}
use Rattle.flt_syntax.specs.declared.ast.Function.{Function}
use Rattle.flt_syntax.specs.declared.ast.RangePart.{RangePart}
use Rattle.flt_typed.specs.declared.typed.Term.{Term}
use Rattle.flt_typed.specs.declared.typed.Term.TheVariants as terms
use Rattle.flt_typed.specs.declared.arithmetic.Extreme.{Extreme}
use Rattle.flt_program.specs.declared.instr.Instr.{Instr}
use Rattle.flt_program.specs.declared.instr.Instr.TheVariants as instr
use Rattle.flt_typed.specs.declared.constant.Constant.{Constant}
use Rattle.std.proofs.Common.{Bor}

pub some_same : {A : Type 0} (x y : A) → Some x ≡ Some y → x ≡ y
some_same x y is = cc

pub owned_on : (os new : List Owner) (r : ℕ) (o : Owner) → Grows os new → IsOwned os r o → IsOwned new r o
owned_on os new r o g own = subst (λ xs. IsOwned xs r o) (sym g.1) (get_more os g.0 r o own)

pub loads_on : (os new : List Owner) (e : Extreme) (term : Term) (r : ℕ) (code : List Instr) → Grows os new → Loads os e term r code → Loads new e term r code
loads_on os new e term r code g l = subst (λ xs. Loads xs e term r code) (sym g.1) (loads_grow os g.0 e term r code l)

-- one register made of another
pub makes : (os new : List Owner) (e : Extreme) (o : Owner) (inner term : Term) (next : ℕ → Instr) (r q : ℕ) (front code : List Instr) → inner ≡ term → Loads os e inner q front → Grows os new →
    IsOwned new r o → code ≡ front ++ next q ∷ [] → Makes new o r (Loads new e term) next code
makes os new e o inner term next r q front code same l g own joined = (own, (q, front, loads_on os new e term q front g (subst (λ t. Loads os e t q front) same l), joined))

-- what follows where a call succeeds
pub if_ok : {A E : Type 0} (P Q : A → Type 0) (r : Result A E) → ((x : A) → P x → Q x) → IfOk r P → IfOk r Q
if_ok P Q (Ok x) f p = f x p
if_ok P Q (Err e) f p = tt

-- what holds of a register once its instruction stands, where that is given
pub emitted : {E : Type 0} (P : ℕ → Type 0) (register : ℕ) (Stands : Type 0) (r : Result ℕ E) → (Stands → P register) → IfOk r (λ q. (q ≡ register) × Stands) → IfOk r P
emitted P register Stands (Ok q) f is = subst P (sym is.0) (f is.1)
emitted P register Stands (Err e) f is = tt

-- pieces of code, one behind the other
pub adds_on : (before middle after a b : List Instr) → middle ≡ before ++ a → after ≡ middle ++ b → after ≡ before ++ (a ++ b)
adds_on before middle after a b first second = second ∙ ap (λ xs. xs ++ b) first ∙ append_assoc before a b

-- a piece stays what it is where there are more owners
pub adds_grown : (os new : List Owner) (e : Extreme) (term : Term) (q : ℕ) (before after : List Instr) → Grows os new → Adds (Loads os e term q) before after → Adds (Loads new e term q) before after
adds_grown os new e term q before after g added = (added.0, loads_on os new e term q added.0 g added.1, added.2)

-- a piece that makes one register of another
pub makes_on : (os : List Owner) (e : Extreme) (o : Owner) (inner term : Term) (next : ℕ → Instr) (r q : ℕ) (before middle after : List Instr) → inner ≡ term → Adds (Loads os e inner q) before middle →
    IsOwned os r o → after ≡ middle ++ next q ∷ [] → Adds (Makes os o r (Loads os e term) next) before after
makes_on os e o inner term next r q before middle after same added own pushed =
    (added.0 ++ next q ∷ [], (own, (q, added.0, subst (λ t. Loads os e t q added.0) same added.1, refl)), adds_on before middle after added.0 (next q ∷ []) added.2 pushed)

-- the code of a whole term: that of its left part, and what stands behind it
then_joins : (Left Right : ℕ → List Instr → Type 0) (next : ℕ → ℕ → Instr) (l : ℕ) (front back : List Instr) → Left l front → Then Right (next l) back → Joins Left Right next (front ++ back)
then_joins Left Right next l front back first second = (l, second.0, front, second.1, first, second.2, ap (λ xs. front ++ xs) second.3)

right_joins : (new : List Owner) (o : Owner) (Left Right : ℕ → List Instr → Type 0) (next : ℕ → ℕ → Instr) (l r : ℕ) (front back : List Instr) → Left l front → Makes new o r Right (next l) back →
    IsOwned new r o × Joins Left Right next (front ++ back)
right_joins new o Left Right next l r front back first made = (made.0, then_joins Left Right next l front back first made.1)

right_loads : (os new : List Owner) (e : Extreme) (term part : Term) (l r : ℕ) (front back : List Instr) → left_of_term term ≡ Some part → Grows os new → Loads os e part l front → LoadsRight new e term l r back →
    Loads new e term r (front ++ back)
right_loads os new e (terms.Computed' a p left q right) part l r front back is g first second =
    let one = loads_on os new e left l front g (subst (λ t. Loads os e t l front) (sym (some_same left part is)) first) in
    right_joins new (OfTerm (terms.Computed' a p left q right)) (Loads new e left) (Loads new e right) (λ x y. instr.Compute r a x y) l r front back one second
right_loads os new e (terms.Arguments' p left q right) part l r front back is g first second =
    let one = loads_on os new e left l front g (subst (λ t. Loads os e t l front) (sym (some_same left part is)) first) in
    right_joins new (OfExtreme e (terms.Arguments' p left q right)) (Loads new e left) (Loads new e right) (λ x y. instr.Choose r e x y) l r front back one second
right_loads os new e term part l r front back is g first second = cc

pub adds_right : (os new : List Owner) (e : Extreme) (term part : Term) (l r : ℕ) (before middle after : List Instr) → left_of_term term ≡ Some part → Grows os new → Adds (Loads os e part l) before middle →
    Adds (LoadsRight new e term l r) middle after → Adds (Loads new e term r) before after
adds_right os new e term part l r before middle after is g first second =
    (first.0 ++ second.0, right_loads os new e term part l r first.0 second.0 is g first.1 second.1, adds_on before middle after first.0 second.0 first.2 second.2)

pub computed_right : (os : List Owner) (e : Extreme) (term other : Term) (a : Arithmetic) (p q : Box (Unit {0})) (left right : Term) (l r m : ℕ) (before middle after : List Instr) →
    term ≡ terms.Computed' a p left q right → other ≡ right → Adds (Loads os e other m) before middle → IsOwned os r (OfTerm term) → after ≡ middle ++ instr.Compute r a l m ∷ [] →
    Adds (LoadsRight os e term l r) before after
computed_right os e term other a p q left right l r m before middle after is same added own pushed =
    subst (λ t. Adds (LoadsRight os e t l r) before after) (sym is)
    (makes_on os e (OfTerm (terms.Computed' a p left q right)) other right (λ x. instr.Compute r a l x) r m before middle after same added (subst (λ t. IsOwned os r (OfTerm t)) is own) pushed)

pub arguments_right : (os : List Owner) (e : Extreme) (term other : Term) (p q : Box (Unit {0})) (left right : Term) (l r m : ℕ) (before middle after : List Instr) →
    term ≡ terms.Arguments' p left q right → other ≡ right → Adds (Loads os e other m) before middle → IsOwned os r (OfExtreme e term) → after ≡ middle ++ instr.Choose r e l m ∷ [] →
    Adds (LoadsRight os e term l r) before after
arguments_right os e term other p q left right l r m before middle after is same added own pushed =
    subst (λ t. Adds (LoadsRight os e t l r) before after) (sym is)
    (makes_on os e (OfExtreme e (terms.Arguments' p left q right)) other right (λ x. instr.Choose r e l x) r m before middle after same added (subst (λ t. IsOwned os r (OfExtreme e t)) is own) pushed)

-- the code of a part
pub adds_as : (os : List Owner) (e : Extreme) (term same : Term) (r : ℕ) (before after : List Instr) → term ≡ same → Adds (Loads os e same r) before after → Adds (Loads os e term r) before after
adds_as os e term same r before after is added = subst (λ t. Adds (Loads os e t r) before after) (sym is) added

pub constant_part : (os : List Owner) (e : Extreme) (term : Term) (c : Constant) (r : ℕ) (before after : List Instr) → term ≡ terms.Constant c → Sets os (OfTerm term) r (instr.Const r c) before after →
    Adds (Loads os e term r) before after
constant_part os e term c r before after is set =
    adds_as os e term (terms.Constant c) r before after is (instr.Const r c ∷ [], (subst (λ t. IsOwned os r (OfTerm t)) is set.0, refl), set.1)

pub slice_part : (os : List Owner) (e : Extreme) (term part other : Term) (p : Box (Unit {0})) (ranges : Vec RangePart) (shown : List RangePart) (r : ℕ) (before after : List Instr) →
    term ≡ terms.Slice' p part ranges → other ≡ part → shown ≡ ranges.items → Adds (Makes os (OfTerm term) r (Loads os e other) (λ q. instr.Slice r q shown)) before after → Adds (Loads os e term r) before after
slice_part os e term part other p ranges shown r before after is same copied added =
    adds_as os e term (terms.Slice' p part ranges) r before after is
    (subst (λ t. Adds (Makes os (OfTerm t) r (Loads os e part) (λ q. instr.Slice r q ranges.items)) before after) is
    (subst (λ t. Adds (Makes os (OfTerm term) r (Loads os e t) (λ q. instr.Slice r q ranges.items)) before after) same
    (subst (λ xs. Adds (Makes os (OfTerm term) r (Loads os e other) (λ q. instr.Slice r q xs)) before after) copied added)))

pub called_part : (os : List Owner) (e : Extreme) (term part other : Term) (p : Box (Unit {0})) (function : Function) (r : ℕ) (before after : List Instr) →
    term ≡ terms.Called' function p part → other ≡ part → Adds (LoadsCall os function (OfTerm term) other (λ x. Loads os x other) r) before after → Adds (Loads os e term r) before after
called_part os e term part other p function r before after is same added =
    adds_as os e term (terms.Called' function p part) r before after is
    (subst (λ t. Adds (LoadsCall os function (OfTerm t) part (λ x. Loads os x part) r) before after) is
    (subst (λ t. Adds (LoadsCall os function (OfTerm term) t (λ x. Loads os x t) r) before after) same added))

pub chooses_true : (b : Truth) (A B : Type 0) → b ≡ true → A → Chooses b A B
chooses_true true A B is a = a
chooses_true false A B is a = cc

pub chooses_false : (b : Truth) (A B : Type 0) → b ≡ false → B → Chooses b A B
chooses_false true A B is b = cc
chooses_false false A B is b = b

pub extreme_several : (os : List Owner) (e : Extreme) (o : Owner) (term : Term) (Inner : ℕ → List Instr → Type 0) (r : ℕ) (before after : List Instr) → is_several term ≡ true → Adds (Inner r) before after →
    Adds (LoadsExtreme os e o term Inner r) before after
extreme_several os e o term Inner r before after is added =
    (added.0, chooses_true (is_several term) (Inner r added.0) (Makes os o r Inner (λ q. instr.Choose r e q q) added.0) is added.1, added.2)

pub extreme_made : (os : List Owner) (e : Extreme) (o : Owner) (term : Term) (Inner : ℕ → List Instr → Type 0) (r : ℕ) (before after : List Instr) → is_several term ≡ false →
    Adds (Makes os o r Inner (λ q. instr.Choose r e q q)) before after → Adds (LoadsExtreme os e o term Inner r) before after
extreme_made os e o term Inner r before after not added =
    (added.0, chooses_false (is_several term) (Inner r added.0) (Makes os o r Inner (λ q. instr.Choose r e q q) added.0) not added.1, added.2)
