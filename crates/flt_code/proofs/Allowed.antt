-- A filter whose parts take the values that they meet in a tree, as the machine asks it of its instructions.
use Rattle.std.proofs.Common.{◌≡◌, Bool as Truth, true, false, cond}
use Rattle.flt_code.specs.Code.{is_several}
use Rattle.flt_code.specs.Owners.{Owner, OfTerm, OfExtreme, held}
use Rattle.flt_syntax.specs.declared.ast.Function.{Function}
use Rattle.flt_syntax.specs.declared.ast.Function.TheVariants.{Len, Count, Upper, Lower, Min, Max}
use Rattle.flt_typing.specs.Terms.{is_field}
use Rattle.flt_typed.specs.declared.typed.Term.{Term}
use Rattle.flt_typed.specs.declared.typed.Term.TheVariants as terms
use Rattle.flt_typed.specs.declared.typed.Typed.{Typed}
use Rattle.flt_typed.specs.declared.typed.Typed.TheVariants.{Either', Differ', Both', Not', Exists, AnyBit, Compare, Among, Matches}
use Rattle.flt_typed.specs.declared.arithmetic.Extreme.{Extreme}
use Rattle.flt_typed.specs.declared.arithmetic.Extreme.TheVariants.{Least, Greatest}
use Rattle.flt_vm.specs.Held.{Held, can_be_among, can_call, can_compare, can_compute, can_mask, can_search, can_slice}
use Rattle.pk_tree.specs.Trees.{TreeShown}

-- whose the register is that a term's code sets, and what it holds
abbrev pub owner_for : Extreme → Term → Owner
owner_for e term = cond (is_several term) (OfExtreme e term) (OfTerm term)

abbrev pub loaded : TreeShown → Extreme → Term → Held
loaded tree e term = held tree (owner_for e term)

abbrev pub has : TreeShown → Term → Held
has tree term = held tree (OfTerm term)

-- whether a term's code tells in the flag whether there is a value
abbrev pub tells : Term → Truth
tells (terms.Field field layers) = true
tells (terms.Slice' p term ranges) = true
tells term = false

-- two ways to speak of the machine's steps: that they are there, or what they do if they are there
pub data Way : Type 0 where
  There : Way
  IfThere : Way

-- an operation takes what it meets; or a step says so by being there
abbrev pub Taken : Way → Truth → Type 0
Taken There can = can ≡ true
Taken IfThere can = Unit {0}

abbrev pub MayCall : Way → TreeShown → Function → Term → (Extreme → Type 0) → Type 0
MayCall way tree Count term Inner = is_field term ≡ true
MayCall way tree Min term Inner = Inner Least × Taken way (can_compute (loaded tree Least term))
MayCall way tree Max term Inner = Inner Greatest × Taken way (can_compute (loaded tree Greatest term))
MayCall way tree function term Inner = Inner Least × (is_several term ≡ false) × Taken way (can_call function (has tree term))

abbrev pub MayTerm : Way → TreeShown → Extreme → Term → Type 0
MayTerm way tree e (terms.Constant c) = Unit {0}
MayTerm way tree e (terms.Field field layers) = Unit {0}
MayTerm way tree e (terms.Slice' p term ranges) = MayTerm way tree e term × (is_several term ≡ false) × Taken way (can_slice (has tree term))
MayTerm way tree e (terms.Mask' p term mask) = MayTerm way tree e term × (is_several term ≡ false) × Taken way (can_mask (has tree term))
MayTerm way tree e (terms.Called' function p term) = MayCall way tree function term (λ f. MayTerm way tree f term)
MayTerm way tree e (terms.Computed' a p left q right) = MayTerm way tree e left × MayTerm way tree e right × (is_several left ≡ false) × (is_several right ≡ false)
    × Taken way (can_compute (has tree left)) × Taken way (can_compute (has tree right))
MayTerm way tree e (terms.Arguments' p left q right) = MayTerm way tree e left × MayTerm way tree e right × (is_several right ≡ false)
    × Taken way (can_compute (loaded tree e left)) × Taken way (can_compute (has tree right))

abbrev pub May : Way → TreeShown → Typed → Type 0
May way tree (Either' p left q right) = May way tree left × May way tree right
May way tree (Differ' p left q right) = May way tree left × May way tree right
May way tree (Both' p left q right) = May way tree left × May way tree right
May way tree (Not' p filter) = May way tree filter
May way tree (Exists term) = MayTerm way tree Least term × (is_several term ≡ false) × (tells term ≡ true)
May way tree (AnyBit term) = MayTerm way tree Least term × (is_several term ≡ false) × Taken way (can_mask (has tree term))
May way tree (Compare relation choice left right) = MayTerm way tree Least left × MayTerm way tree Least right × (is_several left ≡ false) × (is_several right ≡ false)
    × Taken way (can_compare relation (has tree left) (has tree right))
May way tree (Among negated choice term members) = MayTerm way tree Least term × (is_several term ≡ false) × Taken way (can_be_among members.items (has tree term))
May way tree (Matches choice term pattern) = MayTerm way tree Least term × (is_several term ≡ false) × Taken way (can_search (has tree term))

-- in this tree each operation of a filter takes what it meets
abbrev pub AllowsCall : TreeShown → Function → Term → (Extreme → Type 0) → Type 0
AllowsCall tree function term Inner = MayCall There tree function term Inner

abbrev pub AllowsTerm : TreeShown → Extreme → Term → Type 0
AllowsTerm tree e term = MayTerm There tree e term

abbrev pub Allows : TreeShown → Typed → Type 0
Allows tree filter = May There tree filter

-- what is so of a filter's form in one tree is so in each
call_may : (t u : TreeShown) (function : Function) (term : Term) (Inner Other : Extreme → Type 0) → ((e : Extreme) → Inner e → Other e) → MayCall There t function term Inner → MayCall IfThere u function term Other
call_may t u Count term Inner Other f may = may
call_may t u Min term Inner Other f may = (f Least may.0, tt)
call_may t u Max term Inner Other f may = (f Greatest may.0, tt)
call_may t u Len term Inner Other f may = (f Least may.0, may.1, tt)
call_may t u Upper term Inner Other f may = (f Least may.0, may.1, tt)
call_may t u Lower term Inner Other f may = (f Least may.0, may.1, tt)

term_may : (t u : TreeShown) (e : Extreme) (term : Term) → MayTerm There t e term → MayTerm IfThere u e term
term_may t u e (terms.Constant c) may = tt
term_may t u e (terms.Field field layers) may = tt
term_may t u e (terms.Slice' p term ranges) may = (term_may t u e term may.0, may.1, tt)
term_may t u e (terms.Mask' p term mask) may = (term_may t u e term may.0, may.1, tt)
term_may t u e (terms.Called' function p term) may =
    call_may t u function term (λ f. MayTerm There t f term) (λ f. MayTerm IfThere u f term) (λ f inner. term_may t u f term inner) may
term_may t u e (terms.Computed' a p left q right) may = (term_may t u e left may.0, term_may t u e right may.1, may.2, may.3, tt, tt)
term_may t u e (terms.Arguments' p left q right) may = (term_may t u e left may.0, term_may t u e right may.1, may.2, tt, tt)

pub filter_may : (t u : TreeShown) (filter : Typed) → Allows t filter → May IfThere u filter
filter_may t u (Either' p left q right) may = (filter_may t u left may.0, filter_may t u right may.1)
filter_may t u (Differ' p left q right) may = (filter_may t u left may.0, filter_may t u right may.1)
filter_may t u (Both' p left q right) may = (filter_may t u left may.0, filter_may t u right may.1)
filter_may t u (Not' p filter) may = filter_may t u filter may
filter_may t u (Exists term) may = (term_may t u Least term may.0, may.1, may.2)
filter_may t u (AnyBit term) may = (term_may t u Least term may.0, may.1, tt)
filter_may t u (Compare relation choice left right) may = (term_may t u Least left may.0, term_may t u Least right may.1, may.2, may.3, tt)
filter_may t u (Among negated choice term members) may = (term_may t u Least term may.0, may.1, tt)
filter_may t u (Matches choice term pattern) may = (term_may t u Least term may.0, may.1, tt)
