-- What masks and functions give of single values.
use Rattle.std.specs.Prelude.{ℕ, ◌==◌, Bool as Truth, false, not, length, map, bit_and, Option, Some, None}
use Rattle.std.specs.Char.{to_ascii_uppercase, to_ascii_lowercase}
use Rattle.std.specs.Option.{option_map}
use Rattle.flt_syntax.specs.declared.ast.Function.{Function}
use Rattle.flt_syntax.specs.declared.ast.Function.TheVariants.{Len, Count, Upper, Lower, Min, Max}
use Rattle.flt_typed.specs.Relations.{octets_of}
use Rattle.pk_base.specs.declared.value.Value.{Value}
use Rattle.pk_base.specs.declared.value.Value.TheVariants as values

-- the bits of a number that a mask has, too
abbrev pub masked : ℕ → Value → Option Value
masked mask (values.Uint number) = Some (values.Uint (bit_and number mask))
masked mask value = None

-- a number that isn't 0
abbrev pub is_nonzero : Value → Truth
is_nonzero (values.Uint number) = not (number == 0)
is_nonzero value = false

-- how many bytes a value of their class has
abbrev pub len_of : Value → Option Value
len_of value = option_map (λ bytes. values.Uint (length bytes)) (octets_of value)

-- a text in upper or in lower case, of ASCII letters alone
abbrev pub uppered : Value → Option Value
uppered (values.Text bytes) = Some (values.Text (map to_ascii_uppercase bytes))
uppered value = None

abbrev pub lowered : Value → Option Value
lowered (values.Text bytes) = Some (values.Text (map to_ascii_lowercase bytes))
lowered value = None

-- what a function gives of a single value; `count`, `min` and `max` are of a whole list
abbrev pub called : Function → Value → Option Value
called Len value = len_of value
called Count value = None
called Min value = None
called Max value = None
called Upper value = uppered value
called Lower value = lowered value
