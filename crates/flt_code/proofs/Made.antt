-- Each filter has code: what stands in it, part by part, with a register of its own for each use.
use Rattle.std.proofs.Common.{ℕ, List, [], ◌∷◌, ◌++◌, length, append_assoc, refl, subst, sym}
use Rattle.std.specs.Global.{Box}
use Rattle.flt_code.specs.Code.{IsCode, Loads, Makes, turned}
use Rattle.flt_code.specs.Owners.{Grows, IsOwned, Owner, OfTerm, OfExtreme, OfPart}
use Rattle.flt_code.proofs.Growth.{code_grows}
use Rattle.flt_code.proofs.LoadLemmas.{loads_on, makes, owned_on}
use Rattle.flt_code.proofs.OwnerLemmas.{get_last, grows_on}
use Rattle.flt_syntax.specs.declared.ast.Function.{Function}
use Rattle.flt_syntax.specs.declared.ast.Function.TheVariants.{Len, Count, Upper, Lower, Min, Max}
use Rattle.flt_typed.specs.declared.typed.Term.{Term}
use Rattle.flt_typed.specs.declared.typed.Term.TheVariants as terms
use Rattle.flt_typed.specs.declared.typed.Typed.{Typed}
use Rattle.flt_typed.specs.declared.typed.Typed.TheVariants.{Either', Differ', Both', Not', Exists, AnyBit, Compare, Among, Matches}
use Rattle.flt_typed.specs.declared.arithmetic.Extreme.{Extreme}
use Rattle.flt_typed.specs.declared.arithmetic.Extreme.TheVariants.{Least, Greatest}
use Rattle.flt_program.specs.Programs.{patterns_of}
use Rattle.flt_program.specs.declared.instr.Instr.{Instr}
use Rattle.flt_program.specs.declared.instr.Instr.TheVariants as instr

-- code that sets a register to the values of a term, where there are these owners before
record TermCode (os : List Owner) (e : Extreme) (term : Term) : Type 0 where
  owners : List Owner
  grows : Grows os owners
  register : ℕ
  code : List Instr
  loads : Loads owners e term register code

-- with one owner more
abbrev with_owner : List Owner → Owner → List Owner
with_owner os o = os ++ o ∷ []

one_more : (os : List Owner) (o : Owner) → Grows os (with_owner os o)
one_more os o = (o ∷ [], refl)

last_owned : (os : List Owner) (o : Owner) → IsOwned (with_owner os o) (length os) o
last_owned os o = get_last os o

made : (os : List Owner) (e : Extreme) (term : Term) (o : Owner) (next : ℕ → Instr) (inner : TermCode os e term) →
    Makes (with_owner inner.owners o) o (length inner.owners) (Loads (with_owner inner.owners o) e term) next (inner.code ++ next inner.register ∷ [])
made os e term o next inner =
    makes inner.owners (with_owner inner.owners o) e o term term next (length inner.owners) inner.register inner.code (inner.code ++ next inner.register ∷ []) refl inner.loads
    (one_more inner.owners o) (last_owned inner.owners o) refl

grown : (os : List Owner) (e : Extreme) (term : Term) (o : Owner) (inner : TermCode os e term) → Grows os (with_owner inner.owners o)
grown os e term o inner = grows_on os inner.owners (with_owner inner.owners o) inner.grows (one_more inner.owners o)

-- a call of one argument
called : (os : List Owner) (e d : Extreme) (function : Function) (p : Box (Unit {0})) (term : Term) (next : ℕ → ℕ → Instr) (inner : TermCode os d term) →
    (Makes (with_owner inner.owners (OfTerm (terms.Called' function p term))) (OfTerm (terms.Called' function p term)) (length inner.owners)
    (Loads (with_owner inner.owners (OfTerm (terms.Called' function p term))) d term) (next (length inner.owners)) (inner.code ++ next (length inner.owners) inner.register ∷ []) →
    Loads (with_owner inner.owners (OfTerm (terms.Called' function p term))) e (terms.Called' function p term) (length inner.owners) (inner.code ++ next (length inner.owners) inner.register ∷ [])) →
    TermCode os e (terms.Called' function p term)
called os e d function p term next inner is =
    let o = OfTerm (terms.Called' function p term) in
    record {
      owners = with_owner inner.owners o;
      grows = grown os d term o inner;
      register = length inner.owners;
      code = inner.code ++ next (length inner.owners) inner.register ∷ [];
      loads = is (made os d term o (next (length inner.owners)) inner);
    }

count_code : (os : List Owner) (e : Extreme) (p : Box (Unit {0})) (term : Term) → TermCode os Least term → TermCode os e (terms.Called' Count p term)
count_code os e p (terms.Field field layers) inner =
    let o = OfTerm (terms.Called' Count p (terms.Field field layers)) in
    record {
      owners = with_owner os o;
      grows = one_more os o;
      register = length os;
      code = instr.Count (length os) field layers ∷ [];
      loads = (field, layers, refl, last_owned os o, refl);
    }
count_code os e p term inner = called os e Least Count p term (λ r q. instr.Call r Count q) inner (λ is. is)

min_code : (os : List Owner) (e : Extreme) (p : Box (Unit {0})) (term : Term) → TermCode os Least term → TermCode os e (terms.Called' Min p term)
min_code os e p (terms.Arguments' a left b right) inner =
    record { owners = inner.owners; grows = inner.grows; register = inner.register; code = inner.code; loads = inner.loads }
min_code os e p term inner = called os e Least Min p term (λ r q. instr.Choose r Least q q) inner (λ is. is)

max_code : (os : List Owner) (e : Extreme) (p : Box (Unit {0})) (term : Term) → TermCode os Greatest term → TermCode os e (terms.Called' Max p term)
max_code os e p (terms.Arguments' a left b right) inner =
    record { owners = inner.owners; grows = inner.grows; register = inner.register; code = inner.code; loads = inner.loads }
max_code os e p term inner = called os e Greatest Max p term (λ r q. instr.Choose r Greatest q q) inner (λ is. is)

call_code : (os : List Owner) (e : Extreme) (function : Function) (p : Box (Unit {0})) (term : Term) → ((d : Extreme) → TermCode os d term) → TermCode os e (terms.Called' function p term)
call_code os e Count p term inner = count_code os e p term (inner Least)
call_code os e Min p term inner = min_code os e p term (inner Least)
call_code os e Max p term inner = max_code os e p term (inner Greatest)
call_code os e Len p term inner = called os e Least Len p term (λ r q. instr.Call r Len q) (inner Least) (λ is. is)
call_code os e Upper p term inner = called os e Least Upper p term (λ r q. instr.Call r Upper q) (inner Least) (λ is. is)
call_code os e Lower p term inner = called os e Least Lower p term (λ r q. instr.Call r Lower q) (inner Least) (λ is. is)

-- two terms, the second one with the owners that the first one has
record TermsCode (os : List Owner) (e : Extreme) (left right : Term) : Type 0 where
  owners : List Owner
  grows : Grows os owners
  l : ℕ
  r : ℕ
  front : List Instr
  back : List Instr
  first : Loads owners e left l front
  second : Loads owners e right r back

two_terms : (os : List Owner) (e : Extreme) (left right : Term) (a : TermCode os e left) → TermCode a.owners e right → TermsCode os e left right
two_terms os e left right a b = record {
  owners = b.owners;
  grows = grows_on os a.owners b.owners a.grows b.grows;
  l = a.register;
  r = b.register;
  front = a.code;
  back = b.code;
  first = loads_on a.owners b.owners e left a.register a.code b.grows a.loads;
  second = b.loads;
}

-- and one owner more
two_owned : (os : List Owner) (e : Extreme) (left right : Term) (o : Owner) → TermsCode os e left right → TermsCode os e left right
two_owned os e left right o t = record {
  owners = with_owner t.owners o;
  grows = grows_on os t.owners (with_owner t.owners o) t.grows (one_more t.owners o);
  l = t.l;
  r = t.r;
  front = t.front;
  back = t.back;
  first = loads_on t.owners (with_owner t.owners o) e left t.l t.front (one_more t.owners o) t.first;
  second = loads_on t.owners (with_owner t.owners o) e right t.r t.back (one_more t.owners o) t.second;
}

term_code : (os : List Owner) (e : Extreme) (term : Term) → TermCode os e term
unfolding two_owned
term_code os e (terms.Constant c) =
    let o = OfTerm (terms.Constant c) in
    record { owners = with_owner os o; grows = one_more os o; register = length os; code = instr.Const (length os) c ∷ []; loads = (last_owned os o, refl) }
term_code os e (terms.Field field layers) =
    let o = OfTerm (terms.Field field layers) in
    record { owners = with_owner os o; grows = one_more os o; register = length os; code = instr.Read (length os) field layers ∷ []; loads = (last_owned os o, refl) }
term_code os e (terms.Slice' p term ranges) =
    let inner = term_code os e term in
    let o = OfTerm (terms.Slice' p term ranges) in
    record {
      owners = with_owner inner.owners o;
      grows = grown os e term o inner;
      register = length inner.owners;
      code = inner.code ++ instr.Slice (length inner.owners) inner.register ranges.items ∷ [];
      loads = made os e term o (λ q. instr.Slice (length inner.owners) q ranges.items) inner;
    }
term_code os e (terms.Mask' p term mask) =
    let inner = term_code os e term in
    let o = OfTerm (terms.Mask' p term mask) in
    record {
      owners = with_owner inner.owners o;
      grows = grown os e term o inner;
      register = length inner.owners;
      code = inner.code ++ instr.Mask (length inner.owners) inner.register mask ∷ [];
      loads = made os e term o (λ q. instr.Mask (length inner.owners) q mask) inner;
    }
term_code os e (terms.Called' function p term) = call_code os e function p term (λ d. term_code os d term)
term_code os e (terms.Computed' a p left q right) =
    let first = term_code os e left in
    let o = OfTerm (terms.Computed' a p left q right) in
    let both = two_terms os e left right first (term_code first.owners e right) in
    let t = two_owned os e left right o both in
    record {
      owners = t.owners;
      grows = t.grows;
      register = length both.owners;
      code = t.front ++ (t.back ++ instr.Compute (length both.owners) a t.l t.r ∷ []);
      loads = (last_owned both.owners o, (t.l, t.r, t.front, t.back, t.first, t.second, refl));
    }
term_code os e (terms.Arguments' p left q right) =
    let first = term_code os e left in
    let o = OfExtreme e (terms.Arguments' p left q right) in
    let both = two_terms os e left right first (term_code first.owners e right) in
    let t = two_owned os e left right o both in
    record {
      owners = t.owners;
      grows = t.grows;
      register = length both.owners;
      code = t.front ++ (t.back ++ instr.Choose (length both.owners) e t.l t.r ∷ []);
      loads = (last_owned both.owners o, (t.l, t.r, t.front, t.back, t.first, t.second, refl));
    }

-- code that sets the flag to the truth of a filter, where there are these owners and patterns before
pub record FilterCode (os : List Owner) (ps : List (List ℕ)) (filter : Typed) : Type 0 where
  pub owners : List Owner
  pub grows : Grows os owners
  pub code : List Instr
  pub is : IsCode owners (ps ++ patterns_of filter) filter code

-- code stays with more owners, and with the patterns of another part behind its own
stays : (os new : List Owner) (ps own more : List (List ℕ)) (filter : Typed) (code : List Instr) → Grows os new → IsCode os (ps ++ own) filter code → IsCode new (ps ++ (own ++ more)) filter code
stays os new ps own more filter code grows is =
    let all = code_grows os grows.0 (ps ++ own) more filter code is in
    subst (λ (qs : List (List ℕ)). IsCode new qs filter code) (append_assoc ps own more)
    (subst (λ (xs : List Owner). IsCode xs ((ps ++ own) ++ more) filter code) (sym grows.1) all)

-- of two parts the second one, whose patterns stand behind the first one's
second_is : (os : List Owner) (ps own more : List (List ℕ)) (filter : Typed) (code : List Instr) → IsCode os ((ps ++ own) ++ more) filter code → IsCode os (ps ++ (own ++ more)) filter code
second_is os ps own more filter code is = subst (λ (qs : List (List ℕ)). IsCode os qs filter code) (append_assoc ps own more) is

pub filter_code : (os : List Owner) (ps : List (List ℕ)) (filter : Typed) → FilterCode os ps filter
filter_code os ps (Either' p left q right) =
    let a = filter_code os ps left in
    let b = filter_code a.owners (ps ++ patterns_of left) right in
    record {
      owners = b.owners;
      grows = grows_on os a.owners b.owners a.grows b.grows;
      code = a.code ++ instr.JumpTrue (length b.code) ∷ b.code;
      is = (
        a.code,
        b.code,
        stays a.owners b.owners ps (patterns_of left) (patterns_of right) left a.code b.grows a.is,
        second_is b.owners ps (patterns_of left) (patterns_of right) right b.code b.is,
        refl,
      );
    }
filter_code os ps (Both' p left q right) =
    let a = filter_code os ps left in
    let b = filter_code a.owners (ps ++ patterns_of left) right in
    record {
      owners = b.owners;
      grows = grows_on os a.owners b.owners a.grows b.grows;
      code = a.code ++ instr.JumpFalse (length b.code) ∷ b.code;
      is = (
        a.code,
        b.code,
        stays a.owners b.owners ps (patterns_of left) (patterns_of right) left a.code b.grows a.is,
        second_is b.owners ps (patterns_of left) (patterns_of right) right b.code b.is,
        refl,
      );
    }
filter_code os ps (Differ' p left q right) =
    let a = filter_code os ps left in
    let mid = with_owner a.owners (OfPart left) in
    let b = filter_code mid (ps ++ patterns_of left) right in
    let more = grows_on a.owners mid b.owners (one_more a.owners (OfPart left)) b.grows in
    record {
      owners = b.owners;
      grows = grows_on os a.owners b.owners a.grows more;
      code = a.code ++ instr.Save (length a.owners) ∷ (b.code ++ instr.Differ (length a.owners) ∷ []);
      is = (
        length a.owners,
        a.code,
        b.code,
        owned_on mid b.owners (length a.owners) (OfPart left) b.grows (last_owned a.owners (OfPart left)),
        stays a.owners b.owners ps (patterns_of left) (patterns_of right) left a.code more a.is,
        second_is b.owners ps (patterns_of left) (patterns_of right) right b.code b.is,
        refl,
      );
    }
filter_code os ps (Not' p filter) =
    let a = filter_code os ps filter in
    record { owners = a.owners; grows = a.grows; code = a.code ++ instr.Not ∷ []; is = (a.code, a.is, refl) }
filter_code os ps (Exists term) =
    let t = term_code os Least term in
    record { owners = t.owners; grows = t.grows; code = t.code; is = (t.register, t.loads) }
filter_code os ps (AnyBit term) =
    let t = term_code os Least term in
    record { owners = t.owners; grows = t.grows; code = t.code ++ instr.NonZero t.register ∷ []; is = (t.register, t.code, t.loads, refl) }
filter_code os ps (Compare relation choice left right) =
    let first = term_code os Least left in
    let t = two_terms os Least left right first (term_code first.owners Least right) in
    record {
      owners = t.owners;
      grows = t.grows;
      code = t.front ++ (t.back ++ instr.Test choice relation t.l t.r ∷ []);
      is = (t.l, t.r, t.front, t.back, t.first, t.second, refl);
    }
filter_code os ps (Among negated choice term members) =
    let t = term_code os Least term in
    record {
      owners = t.owners;
      grows = t.grows;
      code = t.code ++ instr.In choice t.register members.items ∷ turned negated;
      is = (t.register, t.code, t.loads, refl);
    }
filter_code os ps (Matches choice term pattern) =
    let t = term_code os Least term in
    record {
      owners = t.owners;
      grows = t.grows;
      code = t.code ++ instr.Match choice t.register (length ps) ∷ [];
      is = (length ps, get_last ps pattern, (t.register, t.code, t.loads, refl));
    }
