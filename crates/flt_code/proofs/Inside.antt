-- What is compiled is a program: its registers are there, and its jumps lead forward and inside.
use Rattle.std.proofs.Common.{◌≡◌, ◌<◌, ◌^◌, ℕ, zero, suc, ◌+◌, Bool as Truth, true, false, List, [], ◌∷◌, ◌++◌, length, Some, slice_get, ap, sym, refl, ◌∙◌, subst, arith, length-append}
use Rattle.std.proofs.lemmas.Option.{slice_get_within}
use Rattle.flt_code.specs.Code.{Chooses, CountsField, IsCode, Loads, LoadsCall, Makes, Then, is_several, turned}
use Rattle.flt_code.specs.Owners.{Owner, OfTerm, OfExtreme, OfPart}
use Rattle.flt_syntax.specs.declared.ast.Function.{Function}
use Rattle.flt_syntax.specs.declared.ast.Function.TheVariants.{Len, Count, Upper, Lower, Min, Max}
use Rattle.flt_typing.specs.Terms.{is_field}
use Rattle.flt_typed.specs.declared.typed.Term.{Term}
use Rattle.flt_typed.specs.declared.typed.Term.TheVariants as terms
use Rattle.flt_typed.specs.declared.typed.Typed.{Typed}
use Rattle.flt_typed.specs.declared.typed.Typed.TheVariants.{Either', Differ', Both', Not', Exists, AnyBit, Compare, Among, Matches}
use Rattle.flt_typed.specs.declared.arithmetic.Extreme.{Extreme}
use Rattle.flt_typed.specs.declared.arithmetic.Extreme.TheVariants.{Least, Greatest}
use Rattle.flt_program.specs.Programs.{Fits, IsProgram}
use Rattle.flt_program.specs.declared.instr.Instr.{Instr}
use Rattle.flt_program.specs.declared.instr.Instr.TheVariants as instr

abbrev pub AllFit : ℕ → ℕ → ℕ → List Instr → Type 0
AllFit count size at [] = Unit {0}
AllFit count size at (i ∷ code) = Fits count size at i × AllFit count size (at + 1) code

fit_both : (count size at : ℕ) (a b : List Instr) → AllFit count size at a → AllFit count size (at + length a) b → AllFit count size at (a ++ b)
fit_both count size at [] b left right = subst (λ (x : ℕ). AllFit count size x b) (let e : at + 0 ≡ at = omega arith in e) right
fit_both count size at (i ∷ a) b left right =
    (left.0, fit_both count size (at + 1) a b left.1 (subst (λ (x : ℕ). AllFit count size x b) (let e : at + suc (length a) ≡ (at + 1) + length a = omega arith in e) right))

fit_at : (count size at k : ℕ) (code : List Instr) (i : Instr) → AllFit count size at code → slice_get code k ≡ Some i → Fits count size (at + k) i
fit_at count size at k [] i fit is = absurd (let e : ⊥ = cc in e)
fit_at count size at zero (x ∷ code) i fit is =
    subst (λ (y : ℕ). Fits count size y i) (let e : at ≡ at + 0 = omega arith in e) (subst (Fits count size at) (let e : x ≡ i = cc in e) fit.0)
fit_at count size at (suc k) (x ∷ code) i fit is = subst (λ (y : ℕ). Fits count size y i) (let e : (at + 1) + k ≡ at + suc k = omega arith in e) (fit_at count size (at + 1) k code i fit.1 is)

-- one instruction behind others
fit_then : (count size at : ℕ) (code inner : List Instr) (i : Instr) → code ≡ inner ++ i ∷ [] → AllFit count size at inner → Fits count size (at + length inner) i → AllFit count size at code
fit_then count size at code inner i is fit one = subst (AllFit count size at) (sym is) (fit_both count size at inner (i ∷ []) fit (one, tt))

-- code stands at a place, and another instruction behind it
abbrev Within : ℕ → ℕ → List Instr → Type 0
Within size at code = at + length code < size

front_within : (size at : ℕ) (code a b : List Instr) → code ≡ a ++ b → Within size at code → Within size at a
front_within size at code a b is w = omega (arith, w, ap length is ∙ length-append a b)

back_within : (size at : ℕ) (code a b : List Instr) → code ≡ a ++ b → Within size at code → Within size (at + length a) b
back_within size at code a b is w = omega (arith, w, ap length is ∙ length-append a b)

-- the code of a term
record Sets (os : List Owner) (size at r : ℕ) (code : List Instr) : Type 0 where
  fit : AllFit (length os) size at code
  there : r < length os

makes_fit : (os : List Owner) (size at r : ℕ) (code : List Instr) (o : Owner) (A : ℕ → List Instr → Type 0) (next : ℕ → Instr) →
    ((q : ℕ) (inner : List Instr) → A q inner → Within size at inner → Sets os size at q inner) → ((q place : ℕ) → r < length os → q < length os → place + 1 < size → Fits (length os) size place (next q)) →
    Makes os o r A next code → Within size at code → Sets os size at r code
makes_fit os size at r code o A next inside fits m w =
    let own = slice_get_within os r o m.0 in
    let q = m.1.0 in
    let inner = m.1.1 in
    let first = inside q inner m.1.2 (front_within size at code inner (next q ∷ []) m.1.3 w) in
    record {
      fit = fit_then (length os) size at code inner (next q) m.1.3 first.fit (fits q (at + length inner) own first.there (back_within size at code inner (next q ∷ []) m.1.3 w));
      there = own;
    }

record SetsBoth (os : List Owner) (size at p q : ℕ) (code : List Instr) : Type 0 where
  fit : AllFit (length os) size at code
  left : p < length os
  right : q < length os

joins_fit : (os : List Owner) (size at p q : ℕ) (code a b : List Instr) (i : Instr) → code ≡ a ++ (b ++ i ∷ []) → Within size at code → (Within size at a → Sets os size at p a) →
    (Within size (at + length a) b → Sets os size (at + length a) q b) → ((place : ℕ) → p < length os → q < length os → place + 1 < size → Fits (length os) size place i) → SetsBoth os size at p q code
joins_fit os size at p q code a b i is w left right fits =
    let first = left (front_within size at code a (b ++ i ∷ []) is w) in
    let behind = back_within size at code a (b ++ i ∷ []) is w in
    let second = right (front_within size (at + length a) (b ++ i ∷ []) b (i ∷ []) refl behind) in
    record {
      fit = subst (AllFit (length os) size at) (sym is) (fit_both (length os) size at a (b ++ i ∷ []) first.fit
          (fit_then (length os) size (at + length a) (b ++ i ∷ []) b i refl second.fit
          (fits (at + length a + length b) first.there second.there (back_within size (at + length a) (b ++ i ∷ []) b (i ∷ []) refl behind))));
      left = first.there;
      right = second.there;
    }

one_fit : (os : List Owner) (size at r : ℕ) (code : List Instr) (i : Instr) → code ≡ i ∷ [] → Fits (length os) size at i → AllFit (length os) size at code
one_fit os size at r code i is fit = subst (AllFit (length os) size at) (sym is) (fit, tt)

one_within : (size at : ℕ) (code : List Instr) (i : Instr) → code ≡ i ∷ [] → Within size at code → at + 1 < size
one_within size at code i is w = omega (arith, w, ap length is)

extreme_fit : (os : List Owner) (size at r : ℕ) (code : List Instr) (e : Extreme) (o : Owner) (A : ℕ → List Instr → Type 0) (several : Truth) →
    ((q : ℕ) (inner : List Instr) → A q inner → Within size at inner → Sets os size at q inner) → Chooses several (A r code) (Makes os o r A (λ q. instr.Choose r e q q) code) → Within size at code → Sets os size at r code
extreme_fit os size at r code e o A true inside c w = inside r code c w
extreme_fit os size at r code e o A false inside c w = makes_fit os size at r code o A (λ q. instr.Choose r e q q) inside (λ q place own there room. (own, there, there, room)) c w

count_fit : (os : List Owner) (size at r : ℕ) (code : List Instr) (o : Owner) (term : Term) (A : ℕ → List Instr → Type 0) (field : Truth) →
    ((q : ℕ) (inner : List Instr) → A q inner → Within size at inner → Sets os size at q inner) → Chooses field (CountsField os o term r code) (Makes os o r A (λ q. instr.Call r Count q) code) → Within size at code → Sets os size at r code
count_fit os size at r code o term A true inside c w =
    let own = slice_get_within os r o c.3 in
    record { fit = one_fit os size at r code (instr.Count r c.0 c.1) c.4 (own, one_within size at code (instr.Count r c.0 c.1) c.4 w); there = own }
count_fit os size at r code o term A false inside c w = makes_fit os size at r code o A (λ q. instr.Call r Count q) inside (λ q place own there room. (own, there, room)) c w

call_fit : (os : List Owner) (size at r : ℕ) (code : List Instr) (f : Function) (o : Owner) (term : Term) (A : Extreme → ℕ → List Instr → Type 0) →
    ((e : Extreme) (q : ℕ) (inner : List Instr) → A e q inner → Within size at inner → Sets os size at q inner) → LoadsCall os f o term A r code → Within size at code → Sets os size at r code
call_fit os size at r code Count o term A inside c w = count_fit os size at r code o term (A Least) (is_field term) (inside Least) c w
call_fit os size at r code Min o term A inside c w = extreme_fit os size at r code Least o (A Least) (is_several term) (inside Least) c w
call_fit os size at r code Max o term A inside c w = extreme_fit os size at r code Greatest o (A Greatest) (is_several term) (inside Greatest) c w
call_fit os size at r code Len o term A inside c w = makes_fit os size at r code o (A Least) (λ q. instr.Call r Len q) (inside Least) (λ q place own there room. (own, there, room)) c w
call_fit os size at r code Upper o term A inside c w = makes_fit os size at r code o (A Least) (λ q. instr.Call r Upper q) (inside Least) (λ q place own there room. (own, there, room)) c w
call_fit os size at r code Lower o term A inside c w = makes_fit os size at r code o (A Least) (λ q. instr.Call r Lower q) (inside Least) (λ q place own there room. (own, there, room)) c w

loads_fit : (os : List Owner) (e : Extreme) (term : Term) (size at r : ℕ) (code : List Instr) → Loads os e term r code → Within size at code → Sets os size at r code
loads_fit os e (terms.Constant c) size at r code l w =
    let own = slice_get_within os r (OfTerm (terms.Constant c)) l.0 in
    record { fit = one_fit os size at r code (instr.Const r c) l.1 (own, one_within size at code (instr.Const r c) l.1 w); there = own }
loads_fit os e (terms.Field field layers) size at r code l w =
    let own = slice_get_within os r (OfTerm (terms.Field field layers)) l.0 in
    record { fit = one_fit os size at r code (instr.Read r field layers) l.1 (own, one_within size at code (instr.Read r field layers) l.1 w); there = own }
loads_fit os e (terms.Slice' p term ranges) size at r code l w =
    makes_fit os size at r code (OfTerm (terms.Slice' p term ranges)) (Loads os e term) (λ q. instr.Slice r q ranges.items) (λ q inner x v. loads_fit os e term size at q inner x v) (λ q place own there room. (own, there, room)) l w
loads_fit os e (terms.Mask' p term mask) size at r code l w =
    makes_fit os size at r code (OfTerm (terms.Mask' p term mask)) (Loads os e term) (λ q. instr.Mask r q mask) (λ q inner x v. loads_fit os e term size at q inner x v) (λ q place own there room. (own, there, room)) l w
loads_fit os e (terms.Called' f p term) size at r code l w =
    call_fit os size at r code f (OfTerm (terms.Called' f p term)) term (λ d. Loads os d term) (λ d q inner x v. loads_fit os d term size at q inner x v) l w
loads_fit os e (terms.Computed' a p left q right) size at r code l w =
    let own = slice_get_within os r (OfTerm (terms.Computed' a p left q right)) l.0 in
    let both = joins_fit os size at l.1.0 l.1.1 code l.1.2 l.1.3 (instr.Compute r a l.1.0 l.1.1) l.1.6 w (λ v. loads_fit os e left size at l.1.0 l.1.2 l.1.4 v) (λ v. loads_fit os e right size (at + length l.1.2) l.1.1 l.1.3 l.1.5 v)
    (λ place first second room. (own, first, second, room)) in
    record { fit = both.fit; there = own }
loads_fit os e (terms.Arguments' p left q right) size at r code l w =
    let own = slice_get_within os r (OfExtreme e (terms.Arguments' p left q right)) l.0 in
    let both = joins_fit os size at l.1.0 l.1.1 code l.1.2 l.1.3 (instr.Choose r e l.1.0 l.1.1) l.1.6 w (λ v. loads_fit os e left size at l.1.0 l.1.2 l.1.4 v) (λ v. loads_fit os e right size (at + length l.1.2) l.1.1 l.1.3 l.1.5 v)
    (λ place first second room. (own, first, second, room)) in
    record { fit = both.fit; there = own }

turned_fit : (count size at : ℕ) (negated : Truth) → Within size at (turned negated) → AllFit count size at (turned negated)
turned_fit count size at true w = (w, tt)
turned_fit count size at false w = tt

-- a test of one register
tests_fit : (os : List Owner) (size at : ℕ) (code : List Instr) (term : Term) (next : ℕ → Instr) → ((q place : ℕ) → q < length os → place + 1 < size → Fits (length os) size place (next q)) →
    Then (Loads os Least term) next code → Within size at code → AllFit (length os) size at code
tests_fit os size at code term next fits t w =
    let first = loads_fit os Least term size at t.0 t.1 t.2 (front_within size at code t.1 (next t.0 ∷ []) t.3 w) in
    fit_then (length os) size at code t.1 (next t.0) t.3 first.fit (fits t.0 (at + length t.1) first.there (back_within size at code t.1 (next t.0 ∷ []) t.3 w))

-- two parts, and an instruction between them
parts_fit : (count size at : ℕ) (code a b : List Instr) (i : Instr) → code ≡ a ++ i ∷ b → AllFit count size at a → Fits count size (at + length a) i → AllFit count size (at + length a + 1) b → AllFit count size at code
parts_fit count size at code a b i is left one right = subst (AllFit count size at) (sym is) (fit_both count size at a (i ∷ b) left (one, right))

right_within : (size at : ℕ) (code a b : List Instr) (i : Instr) → code ≡ a ++ i ∷ b → Within size at code → Within size (at + length a + 1) b
right_within size at code a b i is w = omega (arith, w, ap length is ∙ length-append a (i ∷ b))

code_fits : (os : List Owner) (ps : List (List ℕ)) (filter : Typed) (size at : ℕ) (code : List Instr) → IsCode os ps filter code → Within size at code → AllFit (length os) size at code
code_fits os ps (Either' p left q right) size at code c w =
    parts_fit (length os) size at code c.0 c.1 (instr.JumpTrue (length c.1)) c.4 (code_fits os ps left size at c.0 c.2 (front_within size at code c.0 (instr.JumpTrue (length c.1) ∷ c.1) c.4 w))
    (right_within size at code c.0 c.1 (instr.JumpTrue (length c.1)) c.4 w) (code_fits os ps right size (at + length c.0 + 1) c.1 c.3 (right_within size at code c.0 c.1 (instr.JumpTrue (length c.1)) c.4 w))
code_fits os ps (Both' p left q right) size at code c w =
    parts_fit (length os) size at code c.0 c.1 (instr.JumpFalse (length c.1)) c.4 (code_fits os ps left size at c.0 c.2 (front_within size at code c.0 (instr.JumpFalse (length c.1) ∷ c.1) c.4 w))
    (right_within size at code c.0 c.1 (instr.JumpFalse (length c.1)) c.4 w) (code_fits os ps right size (at + length c.0 + 1) c.1 c.3 (right_within size at code c.0 c.1 (instr.JumpFalse (length c.1)) c.4 w))
code_fits os ps (Differ' p left q right) size at code c w =
    let own = slice_get_within os c.0 (OfPart left) c.3 in
    let behind = right_within size at code c.1 (c.2 ++ instr.Differ c.0 ∷ []) (instr.Save c.0) c.6 w in
    let room = front_within size (at + length c.1 + 1) (c.2 ++ instr.Differ c.0 ∷ []) c.2 (instr.Differ c.0 ∷ []) refl behind in
    parts_fit (length os) size at code c.1 (c.2 ++ instr.Differ c.0 ∷ []) (instr.Save c.0) c.6
    (code_fits os ps left size at c.1 c.4 (front_within size at code c.1 (instr.Save c.0 ∷ (c.2 ++ instr.Differ c.0 ∷ [])) c.6 w))
    (own, omega (arith, room))
    (fit_then (length os) size (at + length c.1 + 1) (c.2 ++ instr.Differ c.0 ∷ []) c.2 (instr.Differ c.0) refl (code_fits os ps right size (at + length c.1 + 1) c.2 c.5 room)
    (own, back_within size (at + length c.1 + 1) (c.2 ++ instr.Differ c.0 ∷ []) c.2 (instr.Differ c.0 ∷ []) refl behind))
code_fits os ps (Not' p filter) size at code c w =
    fit_then (length os) size at code c.0 instr.Not c.2 (code_fits os ps filter size at c.0 c.1 (front_within size at code c.0 (instr.Not ∷ []) c.2 w)) (back_within size at code c.0 (instr.Not ∷ []) c.2 w)
code_fits os ps (Exists term) size at code c w = (loads_fit os Least term size at c.0 code c.1 w).fit
code_fits os ps (AnyBit term) size at code c w = tests_fit os size at code term (λ r. instr.NonZero r) (λ q place there room. (there, room)) c w
code_fits os ps (Compare relation choice left right) size at code c w =
    (joins_fit os size at c.0 c.1 code c.2 c.3 (instr.Test choice relation c.0 c.1) c.6 w (λ v. loads_fit os Least left size at c.0 c.2 c.4 v) (λ v. loads_fit os Least right size (at + length c.2) c.1 c.3 c.5 v)
    (λ place first second room. (first, second, room))).fit
code_fits os ps (Among negated choice term ms) size at code c w =
    let first = loads_fit os Least term size at c.0 c.1 c.2 (front_within size at code c.1 (instr.In choice c.0 ms.items ∷ turned negated) c.3 w) in
    let behind = right_within size at code c.1 (turned negated) (instr.In choice c.0 ms.items) c.3 w in
    parts_fit (length os) size at code c.1 (turned negated) (instr.In choice c.0 ms.items) c.3 first.fit (first.there, omega (arith, behind)) (turned_fit (length os) size (at + length c.1 + 1) negated behind)
code_fits os ps (Matches choice term pattern) size at code c w = tests_fit os size at code term (λ r. instr.Match choice r c.0) (λ q place there room. (there, room)) c.2 w

-- the whole, with RETURN at its end
pub whole_fits : (os : List Owner) (ps : List (List ℕ)) (filter : Typed) (code : List Instr) → IsCode os ps filter code → length (code ++ instr.Return ∷ []) < 2 ^ 32 →
    IsProgram (record { registers = length os; items = code ++ instr.Return ∷ [] })
whole_fits os ps filter code c few =
    let size = length-append code (instr.Return ∷ []) in
    let w : Within (length (code ++ instr.Return ∷ [])) 0 code = omega (arith, size) in
    let all = fit_then (length os) (length (code ++ instr.Return ∷ [])) 0 (code ++ instr.Return ∷ []) code instr.Return refl (code_fits os ps filter (length (code ++ instr.Return ∷ [])) 0 code c w) tt in
    record {
      some = omega (arith, size);
      few = few;
      fits = λ at i is. subst (λ (x : ℕ). Fits (length os) (length (code ++ instr.Return ∷ [])) x i) (let e : 0 + at ≡ at = omega arith in e) (fit_at (length os) (length (code ++ instr.Return ∷ [])) 0 at (code ++ instr.Return ∷ []) i all is);
    }
