-- How the options of an interface are read, one after the other.
use Rattle.std.proofs.Common.{◌≡◌, ◌<◌, ◌≤◌, ℕ, zero, suc, ◌-◌, Bool, Option, Some, None, List, [], ◌∷◌, length, drop, refl, ◌∙◌, ap, arith}
use Rattle.std.specs.Option.{option_map}
use Rattle.capture_formats.specs.Options.{option_of, options_of, after_all, after_one}
use Rattle.capture_formats.specs.declared.options.Setting.{Setting}
use Rattle.capture_formats.specs.declared.options.Setting.TheVariants.{Resolution, Offset, Other}
use Rattle.capture_formats.specs.declared.options.Settings.{Settings}
use Rattle.capture_formats.specs.declared.options.OptionStep.TheVariants as step

-- bytes that are passed over
pub options-skip : (little : Bool) (n : ℕ) (bytes : List ℕ) → n ≤ length bytes
    → options_of little n bytes ≡ options_of little 0 (drop n bytes)
unfolding options_of
options-skip little zero bytes h = refl
options-skip little (suc n) [] h = absurd (omega arith)
options-skip little (suc n) (b ∷ rest) h = options-skip little n rest (omega arith)

-- bytes passed over from the second on
pub options-skip_after : (little : Bool) (n b : ℕ) (rest : List ℕ) → 0 < n → n ≤ suc (length rest)
    → options_of little (n - 1) rest ≡ options_of little 0 (drop n (b ∷ rest))
options-skip_after little zero b rest some within = absurd (omega arith)
options-skip_after little (suc n) b rest some within =
    ap (λ (k : ℕ). options_of little k rest) (omega arith) ∙ options-skip little n rest (omega arith)

-- one option, and then the others
pub all-after_one : (given : Settings) (setting : Setting) (later : Option (List Setting))
    → option_map (after_all given) (option_map (λ all. setting ∷ all) later) ≡ option_map (after_all (after_one given setting)) later
all-after_one given setting None = refl
all-after_one given (Resolution r) (Some later) = refl
all-after_one given (Offset seconds) (Some later) = refl
all-after_one given Other (Some later) = refl

-- no byte is left
pub options-none : (little : Bool) (given : Settings) (bytes : List ℕ) → length bytes ≡ 0
    → option_map (after_all given) (options_of little 0 bytes) ≡ Some given
unfolding options_of
options-none little given [] none = refl
options-none little given (b ∷ rest) none = absurd (omega arith)

-- the option that ends the list
pub options-end : (little : Bool) (given : Settings) (bytes : List ℕ) → 0 < length bytes → option_of little bytes ≡ step.End
    → option_map (after_all given) (options_of little 0 bytes) ≡ Some given
unfolding options_of
options-end little given [] some is = absurd (omega arith)
options-end little given (b ∷ rest) some is = rw is refl

-- an option that isn't read
pub options-bad : (little : Bool) (given : Settings) (bytes : List ℕ) → 0 < length bytes → option_of little bytes ≡ step.Bad
    → option_map (after_all given) (options_of little 0 bytes) ≡ None
unfolding options_of
options-bad little given [] some is = absurd (omega arith)
options-bad little given (b ∷ rest) some is = rw is refl

-- an option that is read
pub options-sets : (little : Bool) (given : Settings) (bytes : List ℕ) (setting : Setting) (size : ℕ)
    → option_of little bytes ≡ step.Sets setting size → 0 < size → size ≤ length bytes
    → option_map (after_all given) (options_of little 0 bytes)
    ≡ option_map (after_all (after_one given setting)) (options_of little 0 (drop size bytes))
unfolding options_of
options-sets little given [] setting size is some within = absurd (omega arith)
options-sets little given (b ∷ rest) setting size is some within =
    rw is (all-after_one given setting (options_of little (size - 1) rest)
    ∙ ap (λ (all : Option (List Setting)). option_map (after_all (after_one given setting)) all) (options-skip_after little size b rest some within))
