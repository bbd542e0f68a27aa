-- The options of a pcapng block: draft-ietf-opsawg-pcapng, section 3.5. Those of an interface that are read are
-- if_tsresol and if_tsoffset, section 4.2.
--
--   option   0      2        4
--            | code | length | value, padded to a multiple of 4 bytes |
use Rattle.std.specs.Prelude.{◌<◌, ◌≤◌, ℕ, zero, suc, ◌+◌, ◌-◌, ◌*◌, ◌/◌, ℤ, pos, Bool, nat_lt, ◌==◌, if◌then◌else◌, List, [], ◌∷◌, length, slice_index, Option, Some, None, option_map}
use Rattle.std.specs.Int.{w64, cast_signed}
use Rattle.pk_base.specs.Endian.{number_at}
use Rattle.capture_formats.specs.declared.options.Setting.{Setting}
use Rattle.capture_formats.specs.declared.options.Setting.TheVariants.{Resolution, Offset, Other}
use Rattle.capture_formats.specs.declared.options.OptionStep.{OptionStep}
use Rattle.capture_formats.specs.declared.options.OptionStep.TheVariants as step
use Rattle.capture_formats.specs.declared.options.Settings.{Settings}

-- opt_endofopt, behind which no option stands
abbrev pub end_code : ℕ
end_code = 0

-- if_tsresol, one byte
abbrev pub resolution_code : ℕ
resolution_code = 9

-- if_tsoffset, eight bytes
abbrev pub offset_code : ℕ
offset_code = 14

-- so many bytes with those that pad them
abbrev pub padded : ℕ → ℕ
padded n = (n + 3) / 4 * 4

-- what the bytes are from an option's first on
unfoldable pub option_of : Bool → List ℕ → OptionStep
option_of little bytes =
    if nat_lt (length bytes) 4 then step.Bad
    else if code == end_code then step.End
    else if nat_lt (length bytes) size then step.Bad
    else if code == resolution_code
    then (if value_length == 1 then step.Sets (Resolution (slice_index bytes 4)) size
    else step.Bad)
    else if code == offset_code
    then (if value_length == 8
    then step.Sets (Offset (cast_signed w64 (number_at little 8 4 bytes))) size
    else step.Bad)
    else step.Sets Other size
  where
    code : ℕ
    code = number_at little 2 0 bytes

    value_length : ℕ
    value_length = number_at little 2 2 bytes

    size : ℕ
    size = 4 + padded value_length

-- an option before the others
abbrev pub after_option : (ℕ → Option (List Setting)) → OptionStep → Option (List Setting)
after_option follows step.End = Some []
after_option follows step.Bad = None
after_option follows (step.Sets setting size) =
    option_map (λ settings. setting ∷ settings) (follows size)

-- what the options say, in their order, of which the first begins `skip` bytes further on; nothing where one of them
-- runs past the bytes or has another length than its code's
unfoldable pub options_of : Bool → ℕ → List ℕ → Option (List Setting)
options_of little (suc skip) [] = Some []
options_of little (suc skip) (b ∷ rest) = options_of little skip rest
options_of little zero [] = Some []
options_of little zero (b ∷ rest) =
    after_option (λ size. options_of little (size - 1) rest) (option_of little (b ∷ rest))

-- the last resolution, or the one given where there is none
abbrev pub last_resolution : ℕ → List Setting → ℕ
last_resolution given [] = given
last_resolution given (Resolution r ∷ later) = last_resolution r later
last_resolution given (Offset seconds ∷ later) = last_resolution given later
last_resolution given (Other ∷ later) = last_resolution given later

-- the last offset, or the one given where there is none
abbrev pub last_offset : ℤ → List Setting → ℤ
last_offset given [] = given
last_offset given (Resolution r ∷ later) = last_offset given later
last_offset given (Offset seconds ∷ later) = last_offset seconds later
last_offset given (Other ∷ later) = last_offset given later

-- what holds after these options, where the last of each code counts
abbrev pub after_all : Settings → List Setting → Settings
after_all given all = record {
  resolution = last_resolution given.resolution all;
  offset = last_offset given.offset all;
}

-- what holds after one option more
abbrev pub after_one : Settings → Setting → Settings
after_one given setting = after_all given (setting ∷ [])

-- microseconds since 1970, where no option says else
abbrev pub default : Settings
default = record { resolution = 6; offset = pos 0 }

-- what the options in the bytes say of an interface
abbrev pub settings_of : Bool → List ℕ → Option Settings
settings_of little bytes = option_map (after_all default) (options_of little 0 bytes)

-- an option ends within so many bytes
abbrev pub IsOptionWithin : OptionStep → ℕ → Type 0
IsOptionWithin step.End held = Unit {0}
IsOptionWithin step.Bad held = Unit {0}
IsOptionWithin (step.Sets setting size) held = (0 < size) × (size ≤ held)
