-- Operands with their types: a relation between what is written, where it stands, and what it stands for.
use Rattle.std.specs.Prelude.{◌≡◌, ◌&&◌, ℕ, Bool as Truth, true, false, IsTrue, List, [], ◌∷◌, map, Some, None}
use Rattle.std.specs.List.{list_all}
use Rattle.flt_syntax.specs.Written.{WrittenOperand, NamedOf, OnLayerOf, OnLayersOf, SlicedOf, MaskedOf, CalledOf, ComputedOf, ArgumentsOf}
use Rattle.flt_syntax.specs.declared.ast.Function.{Function}
use Rattle.flt_syntax.specs.declared.ast.Function.TheVariants.{Count, Min, Max}
use Rattle.flt_syntax.specs.declared.word.Word.{Word}
use Rattle.flt_typing.specs.Layers.{is_layer, is_layers, layers_of, one_layer}
use Rattle.flt_typing.specs.Ranges.{is_range}
use Rattle.flt_typing.specs.Standing.{argument, in_slice, within}
use Rattle.flt_typing.specs.declared.standing.Standing.{Standing}
use Rattle.flt_typing.specs.declared.standing.Standing.TheVariants.{Free}
use Rattle.flt_typed.specs.declared.typed.Term.{Term}
use Rattle.flt_typed.specs.declared.typed.Term.TheVariants as terms
use Rattle.flt_typed.specs.Kinds.{is_masked, is_number, is_sliced, kind_of_call, kind_of_value, takes_call}
use Rattle.flt_typing.specs.Literals.{word_read}
use Rattle.flt_typed.specs.declared.constant.Constant.{Constant}
use Rattle.flt_typing.specs.declared.literal.Reading.TheVariants.{Reads}
use Rattle.pk_fields.specs.Fields.{field_named, row_of}
use Rattle.pk_fields.specs.declared.value_kind.ValueKind.{ValueKind}
use Rattle.pk_fields.specs.declared.value_kind.ValueKind.TheVariants as kinds
use Rattle.pk_base.specs.declared.chosen.Layers.TheVariants.{All, These}
use Rattle.pk_base.specs.declared.value.Value.TheVariants as values

-- what arithmetic gives, and the kind by which its numbers are read
abbrev pub number_kind : ValueKind
number_kind = kinds.Uint 64

-- the kind of a term's values; several arguments are numbers, as `are_numbers` asks
abbrev pub kind_of : Term → ValueKind
kind_of (terms.Constant constant) = kind_of_value constant.value
kind_of (terms.Field field layers) = (row_of field).kind
kind_of (terms.Slice' p term ranges) = kinds.Bytes
kind_of (terms.Mask' p term mask) = kind_of term
kind_of (terms.Called' f p term) = kind_of_call f
kind_of (terms.Computed' a p left q right) = number_kind
kind_of (terms.Arguments' p left q right) = number_kind

-- whether a term, or each of several arguments, has numbers
abbrev pub are_numbers : Term → Truth
are_numbers (terms.Arguments' p left q right) = are_numbers left && is_number (kind_of right)
are_numbers term = is_number (kind_of term)

-- `count` takes a field or protocol, `min` and `max` numbers, the other functions what their kinds are
abbrev pub is_field : Term → Truth
is_field (terms.Field field layers) = true
is_field term = false

abbrev pub takes_term : Function → Term → Truth
takes_term Count term = is_field term
takes_term Min term = are_numbers term
takes_term Max term = are_numbers term
takes_term function term = takes_call function (kind_of term)

-- the word writes the mask, which fits the kind's width
abbrev pub IsMask : ValueKind → List ℕ → ℕ → Type 0
IsMask kind text mask = (constant : Constant) × (word_read false kind text ≡ Reads constant)
    × (constant.value ≡ values.Uint mask)

-- a number in place of a name, where one may stand
abbrev pub IsNumber : Standing → Word → Constant → Type 0
IsNumber (Free before) w constant =
    (field_named w.text ≡ None) × (word_read false number_kind w.text ≡ Reads constant)
IsNumber s w constant = ⊥

-- the operand is this term: its names are fields or numbers, its layers are numbers from 1 that don't fall, its ranges
-- have a byte, its mask fits the width, and each part is of a kind that the part around it takes
abbrev pub IsTerm : Standing → WrittenOperand → Term → Type 0
IsTerm s (NamedOf w) (terms.Field field layers) = (field_named w.text ≡ Some field) × (layers ≡ All)
IsTerm s (NamedOf w) (terms.Constant constant) = IsNumber s w constant
IsTerm s (OnLayerOf w l) (terms.Field field layers) =
    (field_named w.text ≡ Some field) × IsTrue (is_layer l) × (layers ≡ These (one_layer l ∷ []))
IsTerm s (OnLayersOf w ls) (terms.Field field layers) =
    (field_named w.text ≡ Some field) × IsTrue (list_all is_layers ls)
    × (layers ≡ These (map layers_of ls))
IsTerm s (SlicedOf o at rs) (terms.Slice' p term ranges) =
    IsTerm (in_slice s) o term × IsTrue (is_sliced (kind_of term))
    × IsTrue (list_all (λ r. is_range r.part) rs)
    × (ranges.items ≡ map (λ r. r.part) rs)
IsTerm s (MaskedOf o at w) (terms.Mask' p term mask) =
    IsTerm (within at s) o term × IsTrue (is_masked (kind_of term))
    × IsMask (kind_of term) w.text mask
IsTerm s (CalledOf f at o) (terms.Called' g p term) =
    IsTerm (argument f at o s) o term × IsTrue (takes_term f term) × (f ≡ g)
IsTerm s (ComputedOf a at l r) (terms.Computed' b p left q right) =
    IsTerm s l left × IsTerm (Free (Some at)) r right × IsTrue (is_number (kind_of left))
    × IsTrue (is_number (kind_of right))
    × (a ≡ b)
IsTerm s (ArgumentsOf l r) (terms.Arguments' p left q right) =
    IsTerm s l left × IsTerm (Free None) r right
IsTerm s o term = ⊥
