-- Code stays the code of its filter where there are more registers and more patterns.
use Rattle.std.proofs.Common.{◌≡◌, ℕ, zero, suc, Bool as Truth, true, false, List, [], ◌∷◌, ◌++◌, Some, slice_get}
use Rattle.flt_code.specs.Code.{Chooses, CountsField, IsCode, Joins, Loads, LoadsCall, Makes, Then, is_several}
use Rattle.flt_code.specs.Owners.{Owner, OfTerm, OfExtreme, OfPart}
use Rattle.flt_syntax.specs.declared.ast.Function.{Function}
use Rattle.flt_syntax.specs.declared.ast.Function.TheVariants.{Len, Count, Upper, Lower, Min, Max}
use Rattle.flt_typing.specs.Terms.{is_field}
use Rattle.flt_typed.specs.declared.typed.Term.{Term}
use Rattle.flt_typed.specs.declared.typed.Term.TheVariants as terms
use Rattle.flt_typed.specs.declared.typed.Typed.{Typed}
use Rattle.flt_typed.specs.declared.typed.Typed.TheVariants.{Either', Differ', Both', Not', Exists, AnyBit, Compare, Among, Matches}
use Rattle.flt_typed.specs.declared.arithmetic.Extreme.{Extreme}
use Rattle.flt_typed.specs.declared.arithmetic.Extreme.TheVariants.{Least, Greatest}
use Rattle.flt_program.specs.declared.instr.Instr.{Instr}
use Rattle.flt_program.specs.declared.instr.Instr.TheVariants as instr

pub get_more : {A : Type 0} (xs more : List A) (i : ℕ) (x : A) → slice_get xs i ≡ Some x → slice_get (xs ++ more) i ≡ Some x
get_more [] more i x is = cc
get_more (y ∷ ys) more zero x is = is
get_more (y ∷ ys) more (suc i) x is = get_more ys more i x is

then_map : (A B : ℕ → List Instr → Type 0) (next : ℕ → Instr) (code : List Instr) → ((q : ℕ) (inner : List Instr) → A q inner → B q inner) → Then A next code → Then B next code
then_map A B next code f t = (t.0, t.1, f t.0 t.1 t.2, t.3)

joins_map : (A B C D : ℕ → List Instr → Type 0) (next : ℕ → ℕ → Instr) (code : List Instr) → ((q : ℕ) (inner : List Instr) → A q inner → B q inner) →
    ((q : ℕ) (inner : List Instr) → C q inner → D q inner) → Joins A C next code → Joins B D next code
joins_map A B C D next code f g t = (t.0, t.1, t.2, t.3, f t.0 t.2 t.4, g t.1 t.3 t.5, t.6)

makes_map : (os more : List Owner) (o : Owner) (r : ℕ) (A B : ℕ → List Instr → Type 0) (next : ℕ → Instr) (code : List Instr) → ((q : ℕ) (inner : List Instr) → A q inner → B q inner) →
    Makes os o r A next code → Makes (os ++ more) o r B next code
makes_map os more o r A B next code f t = (get_more os more r o t.0, then_map A B next code f t.1)

chooses_map : (b : Truth) (A B C D : Type 0) → (A → B) → (C → D) → Chooses b A C → Chooses b B D
chooses_map true A B C D f g t = f t
chooses_map false A B C D f g t = g t

call_map : (os more : List Owner) (function : Function) (o : Owner) (term : Term) (A B : Extreme → ℕ → List Instr → Type 0) (r : ℕ) (code : List Instr) →
    ((e : Extreme) (q : ℕ) (inner : List Instr) → A e q inner → B e q inner) → LoadsCall os function o term A r code → LoadsCall (os ++ more) function o term B r code
call_map os more Count o term A B r code f t = chooses_map (is_field term) (CountsField os o term r code) (CountsField (os ++ more) o term r code)
    (Makes os o r (A Least) (λ q. instr.Call r Count q) code) (Makes (os ++ more) o r (B Least) (λ q. instr.Call r Count q) code)
    (λ c. (c.0, c.1, c.2, get_more os more r o c.3, c.4)) (makes_map os more o r (A Least) (B Least) (λ q. instr.Call r Count q) code (f Least)) t
call_map os more Min o term A B r code f t = chooses_map (is_several term) (A Least r code) (B Least r code)
    (Makes os o r (A Least) (λ q. instr.Choose r Least q q) code) (Makes (os ++ more) o r (B Least) (λ q. instr.Choose r Least q q) code)
    (f Least r code) (makes_map os more o r (A Least) (B Least) (λ q. instr.Choose r Least q q) code (f Least)) t
call_map os more Max o term A B r code f t = chooses_map (is_several term) (A Greatest r code) (B Greatest r code)
    (Makes os o r (A Greatest) (λ q. instr.Choose r Greatest q q) code) (Makes (os ++ more) o r (B Greatest) (λ q. instr.Choose r Greatest q q) code)
    (f Greatest r code) (makes_map os more o r (A Greatest) (B Greatest) (λ q. instr.Choose r Greatest q q) code (f Greatest)) t
call_map os more Len o term A B r code f t = makes_map os more o r (A Least) (B Least) (λ q. instr.Call r Len q) code (f Least) t
call_map os more Upper o term A B r code f t = makes_map os more o r (A Least) (B Least) (λ q. instr.Call r Upper q) code (f Least) t
call_map os more Lower o term A B r code f t = makes_map os more o r (A Least) (B Least) (λ q. instr.Call r Lower q) code (f Least) t

pub loads_grow : (os more : List Owner) (e : Extreme) (term : Term) (r : ℕ) (code : List Instr) → Loads os e term r code → Loads (os ++ more) e term r code
loads_grow os more e (terms.Constant c) r code l = (get_more os more r (OfTerm (terms.Constant c)) l.0, l.1)
loads_grow os more e (terms.Field field layers) r code l = (get_more os more r (OfTerm (terms.Field field layers)) l.0, l.1)
loads_grow os more e (terms.Slice' p term ranges) r code l =
    makes_map os more (OfTerm (terms.Slice' p term ranges)) r (Loads os e term) (Loads (os ++ more) e term) (λ q. instr.Slice r q ranges.items) code (λ q inner x. loads_grow os more e term q inner x) l
loads_grow os more e (terms.Mask' p term mask) r code l =
    makes_map os more (OfTerm (terms.Mask' p term mask)) r (Loads os e term) (Loads (os ++ more) e term) (λ q. instr.Mask r q mask) code (λ q inner x. loads_grow os more e term q inner x) l
loads_grow os more e (terms.Called' function p term) r code l =
    call_map os more function (OfTerm (terms.Called' function p term)) term (λ f. Loads os f term) (λ f. Loads (os ++ more) f term) r code (λ f q inner x. loads_grow os more f term q inner x) l
loads_grow os more e (terms.Computed' a p left q right) r code l = (
  get_more os more r (OfTerm (terms.Computed' a p left q right)) l.0,
  joins_map (Loads os e left) (Loads (os ++ more) e left) (Loads os e right) (Loads (os ++ more) e right) (λ i j. instr.Compute r a i j) code
      (λ i inner x. loads_grow os more e left i inner x) (λ i inner x. loads_grow os more e right i inner x) l.1,
)
loads_grow os more e (terms.Arguments' p left q right) r code l = (
  get_more os more r (OfExtreme e (terms.Arguments' p left q right)) l.0,
  joins_map (Loads os e left) (Loads (os ++ more) e left) (Loads os e right) (Loads (os ++ more) e right) (λ i j. instr.Choose r e i j) code
      (λ i inner x. loads_grow os more e left i inner x) (λ i inner x. loads_grow os more e right i inner x) l.1,
)

pub code_grows : (os more : List Owner) (ps others : List (List ℕ)) (filter : Typed) (code : List Instr) → IsCode os ps filter code → IsCode (os ++ more) (ps ++ others) filter code
code_grows os more ps others (Either' p left q right) code t = (t.0, t.1, code_grows os more ps others left t.0 t.2, code_grows os more ps others right t.1 t.3, t.4)
code_grows os more ps others (Both' p left q right) code t = (t.0, t.1, code_grows os more ps others left t.0 t.2, code_grows os more ps others right t.1 t.3, t.4)
code_grows os more ps others (Differ' p left q right) code t =
    (t.0, t.1, t.2, get_more os more t.0 (OfPart left) t.3, code_grows os more ps others left t.1 t.4, code_grows os more ps others right t.2 t.5, t.6)
code_grows os more ps others (Not' p filter) code t = (t.0, code_grows os more ps others filter t.0 t.1, t.2)
code_grows os more ps others (Exists term) code t = (t.0, loads_grow os more Least term t.0 code t.1)
code_grows os more ps others (AnyBit term) code t = (t.0, t.1, loads_grow os more Least term t.0 t.1 t.2, t.3)
code_grows os more ps others (Compare relation choice left right) code t =
    (t.0, t.1, t.2, t.3, loads_grow os more Least left t.0 t.2 t.4, loads_grow os more Least right t.1 t.3 t.5, t.6)
code_grows os more ps others (Among negated choice term members) code t = (t.0, t.1, loads_grow os more Least term t.0 t.1 t.2, t.3)
code_grows os more ps others (Matches choice term pattern) code t =
    (t.0, get_more ps others t.0 pattern t.1, (t.2.0, t.2.1, loads_grow os more Least term t.2.0 t.2.1 t.2.2, t.2.3))
