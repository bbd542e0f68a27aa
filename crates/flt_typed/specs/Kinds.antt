-- What a filter may do with the values of a kind.
use Rattle.std.specs.Prelude.{Bool as Truth, true, false, not}
use Rattle.flt_syntax.specs.declared.ast.Function.{Function}
use Rattle.flt_syntax.specs.declared.ast.Function.TheVariants.{Len, Count, Upper, Lower, Min, Max}
use Rattle.flt_typed.specs.declared.kinds.Class.{Class}
use Rattle.flt_typed.specs.declared.kinds.Class.TheVariants as classes
use Rattle.flt_typed.specs.declared.relation.Relation.{Relation}
use Rattle.flt_typed.specs.declared.relation.Relation.TheVariants.{Equal, Unequal, Greater, Less, AtLeast, AtMost, Contains}
use Rattle.pk_fields.specs.declared.value_kind.ValueKind.{ValueKind}
use Rattle.pk_fields.specs.declared.value_kind.ValueKind.TheVariants as kinds
use Rattle.pk_base.specs.declared.value.Value.{Value}
use Rattle.pk_base.specs.declared.value.Value.TheVariants as values

-- what can be compared with each other: numbers, truths, bytes, addresses, times
abbrev pub class_of : ValueKind → Class
class_of (kinds.Uint width) = classes.Number
class_of kinds.Bool = classes.Truth
class_of kinds.Bytes = classes.Octets
class_of kinds.Text = classes.Octets
class_of kinds.Ether = classes.Octets
class_of kinds.Ip4 = classes.Ip4
class_of kinds.Ip6 = classes.Ip6
class_of kinds.Time = classes.Time
class_of kinds.Proto = classes.Octets

abbrev pub class_eq : Class → Class → Truth
class_eq classes.Number classes.Number = true
class_eq classes.Truth classes.Truth = true
class_eq classes.Octets classes.Octets = true
class_eq classes.Ip4 classes.Ip4 = true
class_eq classes.Ip6 classes.Ip6 = true
class_eq classes.Time classes.Time = true
class_eq c d = false

abbrev pub same_class : ValueKind → ValueKind → Truth
same_class k l = class_eq (class_of k) (class_of l)

-- the kind of a single value; a number has the widest
abbrev pub kind_of_value : Value → ValueKind
kind_of_value (values.Uint number) = kinds.Uint 64
kind_of_value (values.Bool truth) = kinds.Bool
kind_of_value (values.Bytes bytes) = kinds.Bytes
kind_of_value (values.Text bytes) = kinds.Text
kind_of_value (values.Ether address) = kinds.Ether
kind_of_value (values.Ip4 address) = kinds.Ip4
kind_of_value (values.Ip6 address) = kinds.Ip6
kind_of_value (values.Time time) = kinds.Time
kind_of_value (values.Proto bytes) = kinds.Proto

-- true or false, which have no order and no ranges
abbrev pub is_truth : ValueKind → Truth
is_truth kinds.Bool = true
is_truth kind = false

-- the kinds with a length are those of the class of bytes
abbrev pub is_measured : ValueKind → Truth
is_measured kind = class_eq (class_of kind) classes.Octets

-- the kinds whose bytes can be sliced
abbrev pub is_sliced : ValueKind → Truth
is_sliced kinds.Ip4 = true
is_sliced kinds.Ip6 = true
is_sliced kind = is_measured kind

-- the kinds of numbers, which can be computed with
abbrev pub is_number : ValueKind → Truth
is_number (kinds.Uint width) = true
is_number kind = false

-- the kinds whose bits can be masked
abbrev pub is_masked : ValueKind → Truth
is_masked kind = is_number kind

-- the kinds that `matches` searches
abbrev pub is_searched : ValueKind → Truth
is_searched kinds.Ether = false
is_searched kind = is_measured kind

-- the relations that a left operand of a kind can stand in
abbrev pub takes : Relation → ValueKind → Truth
takes Equal kind = true
takes Unequal kind = true
takes Greater kind = not (is_truth kind)
takes Less kind = not (is_truth kind)
takes AtLeast kind = not (is_truth kind)
takes AtMost kind = not (is_truth kind)
takes Contains kind = is_measured kind

-- the relations in which the literal of an address can have a prefix length
abbrev pub admits_prefix : Relation → Truth
admits_prefix Equal = true
admits_prefix Unequal = true
admits_prefix relation = false

-- the kind by which a literal is read to the right of a relation, where the left operand has this kind
abbrev pub kind_of_right : Relation → ValueKind → ValueKind
kind_of_right Contains kind = kinds.Bytes
kind_of_right relation kind = kind

-- the functions that an argument of a kind can have; that `count` asks for a field or protocol is no matter of kinds
abbrev pub takes_call : Function → ValueKind → Truth
takes_call Len kind = is_measured kind
takes_call Count kind = true
takes_call Min kind = is_number kind
takes_call Max kind = is_number kind
takes_call Upper kinds.Text = true
takes_call Lower kinds.Text = true
takes_call function kind = false

-- the kind of what a function gives
abbrev pub kind_of_call : Function → ValueKind
kind_of_call Len = kinds.Uint 32
kind_of_call Count = kinds.Uint 32
kind_of_call Upper = kinds.Text
kind_of_call Lower = kinds.Text
kind_of_call Min = kinds.Uint 64
kind_of_call Max = kinds.Uint 64
