-- The fields and protocols that a filter asks for.
use Rattle.std.specs.Prelude.{◌≡◌, ◌==◌, ◌||◌, ℕ, Bool as Truth, true, false, List}
use Rattle.flt_typed.specs.declared.typed.Term.{Term}
use Rattle.flt_typed.specs.declared.typed.Term.TheVariants as terms
use Rattle.flt_typed.specs.declared.typed.Typed.{Typed}
use Rattle.flt_typed.specs.declared.typed.Typed.TheVariants.{Either', Differ', Both', Not', Exists, AnyBit, Compare, Among, Matches}
use Rattle.pk_fields.specs.Fields.{row_of}
use Rattle.pk_fields.specs.FieldSets.{is_in}

-- a field, and the protocol in whose layers it stands
abbrev pub asks_term : Term → ℕ → Truth
asks_term (terms.Constant constant) f = false
asks_term (terms.Field field layers) f = f == field || f == (row_of field).proto
asks_term (terms.Slice' p term ranges) f = asks_term term f
asks_term (terms.Mask' p term mask) f = asks_term term f
asks_term (terms.Called' function p term) f = asks_term term f
asks_term (terms.Computed' a p left q right) f = asks_term left f || asks_term right f
asks_term (terms.Arguments' p left q right) f = asks_term left f || asks_term right f

abbrev pub asks : Typed → ℕ → Truth
asks (Either' p left q right) f = asks left f || asks right f
asks (Differ' p left q right) f = asks left f || asks right f
asks (Both' p left q right) f = asks left f || asks right f
asks (Not' p filter) f = asks filter f
asks (Exists term) f = asks_term term f
asks (AnyBit term) f = asks_term term f
asks (Compare relation choice left right) f = asks_term left f || asks_term right f
asks (Among negated choice term members) f = asks_term term f
asks (Matches choice term pattern) f = asks_term term f

-- a set of fields has all that a filter asks for
abbrev pub HasFilter : List ℕ → Typed → Type 0
HasFilter set filter = (f : ℕ) → asks filter f ≡ true → is_in set f ≡ true
