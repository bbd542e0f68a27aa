-- The code of a filter, as a relation in which it is free which register is whose.
use Rattle.std.specs.Prelude.{◌≡◌, ℕ, Bool as Truth, true, false, List, [], ◌∷◌, ◌++◌, length, Some, slice_get}
use Rattle.flt_code.specs.Owners.{Owner, OfTerm, OfExtreme, OfPart, IsOwned}
use Rattle.flt_syntax.specs.declared.ast.Function.{Function}
use Rattle.flt_syntax.specs.declared.ast.Function.TheVariants.{Count, Min, Max}
use Rattle.flt_typing.specs.Terms.{is_field}
use Rattle.flt_syntax.specs.declared.ast.Choice.{Choice}
use Rattle.pk_base.specs.declared.chosen.Layers.{Layers}
use Rattle.flt_typed.specs.declared.typed.Member.{Member}
use Rattle.flt_typed.specs.declared.typed.Term.{Term}
use Rattle.flt_typed.specs.declared.typed.Term.TheVariants as terms
use Rattle.flt_typed.specs.declared.typed.Typed.{Typed}
use Rattle.flt_typed.specs.declared.typed.Typed.TheVariants.{Either', Differ', Both', Not', Exists, AnyBit, Compare, Among, Matches}
use Rattle.flt_typed.specs.declared.arithmetic.Extreme.{Extreme}
use Rattle.flt_typed.specs.declared.arithmetic.Extreme.TheVariants.{Least, Greatest}
use Rattle.flt_program.specs.Programs.{patterns_of}
use Rattle.flt_program.specs.declared.instr.Instr.{Instr}
use Rattle.flt_program.specs.declared.instr.Instr.TheVariants as instr

-- code that sets a register, and an instruction that makes another of it
abbrev pub Then : (ℕ → List Instr → Type 0) → (ℕ → Instr) → List Instr → Type 0
Then Inner next code =
    (q : ℕ) × (inner : List Instr) × Inner q inner × (code ≡ inner ++ next q ∷ [])

-- the same of two registers
abbrev pub Joins : (ℕ → List Instr → Type 0) → (ℕ → List Instr → Type 0) → (ℕ → ℕ → Instr)
    → List Instr → Type 0
Joins Left Right next code =
    (p q : ℕ) × (a b : List Instr) × Left p a × Right q b × (code ≡ a ++ (b ++ next p q ∷ []))

-- a piece of code behind what stood before
abbrev pub Adds : (List Instr → Type 0) → List Instr → List Instr → Type 0
Adds IsPiece before after = (piece : List Instr) × IsPiece piece × (after ≡ before ++ piece)

-- one instruction behind what stood before, for the register of an owner
abbrev pub Sets : List Owner → Owner → ℕ → Instr → List Instr → List Instr → Type 0
Sets owners owner r next before after = IsOwned owners r owner × (after ≡ before ++ next ∷ [])

-- one thing or another
abbrev pub Chooses : Truth → Type 0 → Type 0 → Type 0
Chooses true A B = A
Chooses false A B = B

abbrev pub is_several : Term → Truth
is_several (terms.Arguments' p left q right) = true
is_several term = false

-- a register for an owner, made of another
abbrev pub Makes : List Owner → Owner → ℕ → (ℕ → List Instr → Type 0) → (ℕ → Instr) → List Instr
    → Type 0
Makes owners owner r Inner next code = IsOwned owners r owner × Then Inner next code

-- the least or the greatest of a term's numbers; several arguments set the register by themselves
abbrev pub LoadsExtreme : List Owner → Extreme → Owner → Term → (ℕ → List Instr → Type 0) → ℕ
    → List Instr → Type 0
LoadsExtreme owners extreme owner term Inner r code = Chooses (is_several term) (Inner r code)
    (Makes owners owner r Inner (λ q. instr.Choose r extreme q q) code)

-- how many values a field has
abbrev pub CountsField : List Owner → Owner → Term → ℕ → List Instr → Type 0
CountsField owners owner term r code =
    (field : ℕ) × (layers : Layers) × (term ≡ terms.Field field layers)
    × IsOwned owners r owner × (code ≡ instr.Count r field layers ∷ [])

abbrev pub LoadsCall : List Owner → Function → Owner → Term
    → (Extreme → ℕ → List Instr → Type 0) → ℕ → List Instr → Type 0
LoadsCall owners Count owner term Inner r code =
    Chooses (is_field term) (CountsField owners owner term r code)
    (Makes owners owner r (Inner Least) (λ q. instr.Call r Count q) code)
LoadsCall owners Min owner term Inner r code =
    LoadsExtreme owners Least owner term (Inner Least) r code
LoadsCall owners Max owner term Inner r code =
    LoadsExtreme owners Greatest owner term (Inner Greatest) r code
LoadsCall owners function owner term Inner r code =
    Makes owners owner r (Inner Least) (λ q. instr.Call r function q) code

-- the code sets the register to the values of a term; of several arguments, to the extreme that is asked for
abbrev pub Loads : List Owner → Extreme → Term → ℕ → List Instr → Type 0
Loads owners extreme (terms.Constant c) r code =
    IsOwned owners r (OfTerm (terms.Constant c)) × (code ≡ instr.Const r c ∷ [])
Loads owners extreme (terms.Field field layers) r code =
    IsOwned owners r (OfTerm (terms.Field field layers)) × (code ≡ instr.Read r field layers ∷ [])
Loads owners extreme (terms.Slice' p term ranges) r code =
    Makes owners (OfTerm (terms.Slice' p term ranges)) r (Loads owners extreme term)
    (λ q. instr.Slice r q ranges.items) code
Loads owners extreme (terms.Mask' p term mask) r code =
    Makes owners (OfTerm (terms.Mask' p term mask)) r (Loads owners extreme term)
    (λ q. instr.Mask r q mask) code
Loads owners extreme (terms.Called' function p term) r code =
    LoadsCall owners function (OfTerm (terms.Called' function p term)) term
    (λ e. Loads owners e term) r code
Loads owners extreme (terms.Computed' a p left q right) r code =
    IsOwned owners r (OfTerm (terms.Computed' a p left q right))
    × Joins (Loads owners extreme left) (Loads owners extreme right)
    (λ l m. instr.Compute r a l m) code
Loads owners extreme (terms.Arguments' p left q right) r code =
    IsOwned owners r (OfExtreme extreme (terms.Arguments' p left q right))
    × Joins (Loads owners extreme left) (Loads owners extreme right)
    (λ l m. instr.Choose r extreme l m) code

-- what stands behind the code of a term's left part, which sets a register
abbrev pub LoadsRight : List Owner → Extreme → Term → ℕ → ℕ → List Instr → Type 0
LoadsRight owners extreme (terms.Computed' a p left q right) l r code =
    Makes owners (OfTerm (terms.Computed' a p left q right)) r (Loads owners extreme right)
    (λ m. instr.Compute r a l m) code
LoadsRight owners extreme (terms.Arguments' p left q right) l r code =
    Makes owners (OfExtreme extreme (terms.Arguments' p left q right)) r
    (Loads owners extreme right) (λ m. instr.Choose r extreme l m) code
LoadsRight owners extreme term l r code = Unit {0}

-- a term where it is no argument
abbrev pub LoadsTerm : List Owner → Term → ℕ → List Instr → Type 0
LoadsTerm owners term r code = Loads owners Least term r code

abbrev pub turned : Truth → List Instr
turned true = instr.Not ∷ []
turned false = []

-- the pattern of a number
abbrev pub IsPatternAt : List (List ℕ) → ℕ → List ℕ → Type 0
IsPatternAt patterns n pattern = slice_get patterns n ≡ Some pattern

-- a test of a set, and NOT behind it where it is negated
abbrev pub IsAmong : List Owner → Term → Choice → List Member → Truth → List Instr → Type 0
IsAmong owners term choice members negated code = (r : ℕ) × (a : List Instr)
    × LoadsTerm owners term r a × (code ≡ a ++ instr.In choice r members ∷ turned negated)

-- a search for a pattern
abbrev pub IsMatch : List Owner → List (List ℕ) → Term → Choice → List ℕ → List Instr → Type 0
IsMatch owners patterns term choice pattern code = (n : ℕ) × IsPatternAt patterns n pattern
    × Then (LoadsTerm owners term) (λ r. instr.Match choice r n) code

-- the code sets the flag to the truth of a filter
abbrev pub IsCode : List Owner → List (List ℕ) → Typed → List Instr → Type 0
IsCode owners patterns (Either' p left q right) code =
    (a b : List Instr) × IsCode owners patterns left a × IsCode owners patterns right b
    × (code ≡ a ++ instr.JumpTrue (length b) ∷ b)
IsCode owners patterns (Both' p left q right) code =
    (a b : List Instr) × IsCode owners patterns left a × IsCode owners patterns right b
    × (code ≡ a ++ instr.JumpFalse (length b) ∷ b)
IsCode owners patterns (Differ' p left q right) code =
    (r : ℕ) × (a b : List Instr) × IsOwned owners r (OfPart left)
    × IsCode owners patterns left a × IsCode owners patterns right b
    × (code ≡ a ++ instr.Save r ∷ (b ++ instr.Differ r ∷ []))
IsCode owners patterns (Not' p filter) code =
    (a : List Instr) × IsCode owners patterns filter a × (code ≡ a ++ instr.Not ∷ [])
IsCode owners patterns (Exists term) code = (r : ℕ) × LoadsTerm owners term r code
IsCode owners patterns (AnyBit term) code =
    Then (LoadsTerm owners term) (λ r. instr.NonZero r) code
IsCode owners patterns (Compare relation choice left right) code =
    Joins (LoadsTerm owners left) (LoadsTerm owners right)
    (λ l r. instr.Test choice relation l r) code
IsCode owners patterns (Among negated choice term members) code =
    (r : ℕ) × (a : List Instr) × LoadsTerm owners term r a
    × (code ≡ a ++ instr.In choice r members.items ∷ turned negated)
IsCode owners patterns (Matches choice term pattern) code =
    (n : ℕ) × IsPatternAt patterns n pattern
    × Then (LoadsTerm owners term) (λ r. instr.Match choice r n) code

-- what stands behind the code of a filter's left side
abbrev pub CodeRight : List Owner → List (List ℕ) → Typed → List Instr → Type 0
CodeRight owners patterns (Either' p left q right) code =
    (b : List Instr) × IsCode owners patterns right b × (code ≡ instr.JumpTrue (length b) ∷ b)
CodeRight owners patterns (Both' p left q right) code =
    (b : List Instr) × IsCode owners patterns right b × (code ≡ instr.JumpFalse (length b) ∷ b)
CodeRight owners patterns (Differ' p left q right) code =
    (r : ℕ) × (b : List Instr) × IsOwned owners r (OfPart left)
    × IsCode owners patterns right b × (code ≡ instr.Save r ∷ (b ++ instr.Differ r ∷ []))
CodeRight owners patterns filter code = Unit {0}

-- the code of a filter, and the end of its run behind it
abbrev pub IsWhole : List Owner → Typed → List Instr → Type 0
IsWhole owners filter code = (front : List Instr) × IsCode owners (patterns_of filter) filter front
    × (code ≡ front ++ instr.Return ∷ [])
