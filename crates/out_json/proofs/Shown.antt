-- What the texts of values have in them.
use Rattle.std.proofs.Common.{◌≡◌, ℕ, ◌+◌, ◌≤◌, ◌==◌, ◌&&◌, Bool, true, false, cond, ltb, leb, List, [], ◌∷◌, codes, ℤ, refl, arith, lit≤}
use Rattle.std.specs.List.{All, AllByRecursion as Each, flat_map}
use Rattle.std.specs.Fmt.{decimal, digits, sign_text}
use Rattle.std.specs.Int.{is_negative, w32, to_be_bytes}
use Rattle.std.proofs.lemmas.Bool.{and_parts, leb-true}
use Rattle.std.proofs.lemmas.List.Elements.{All-from_recursion}
use Rattle.std.proofs.ByRecursion.{All-append as Each-append}
use Rattle.json.specs.Print.{escape_byte}
use Rattle.pk_text.specs.Digits.{hex_pair}
use Rattle.pk_text.specs.Escape.{escape_byte as escape_text_byte, escaped}
use Rattle.pk_text.specs.Ether.{ether_shown}
use Rattle.pk_text.specs.Ip4.{ip4_shown}
use Rattle.pk_text.specs.Ip6.{ip6_shown, groups_of, groups_shown, groups_written, best_run_from}
use Rattle.pk_text.specs.Time.{time_shown, whole_seconds, nanoseconds_over}
use Rattle.pk_base.specs.declared.value.Value.{Value}
use Rattle.pk_base.specs.declared.value.Value.TheVariants as values
use Rattle.out_lines.specs.ValueText.{shown_value}
use Rattle.out_json.specs.Lines.{is_bare}
use Rattle.out_json.proofs.Bare.{IsBare, bare_more, bare_append, bare_digits, bare_zeros, bare_join, bare_pair, bare_hex, bare_name}

bare_ether : (address : List ℕ) → IsBare (ether_shown address)
unfolding ether_shown escape_byte
bare_ether address = bare_join hex_pair (codes ":") address bare_pair refl

bare_ip4 : (address : ℕ) → IsBare (ip4_shown address)
unfolding ip4_shown escape_byte
bare_ip4 address = bare_join decimal (codes ".") (to_be_bytes w32 address) (bare_digits 10) refl

bare_groups : (groups : List ℕ) → IsBare (groups_shown groups)
unfolding escape_byte
bare_groups groups = bare_join (digits 16 false) (codes ":") groups (bare_digits 16) refl

either_bare : (b : Bool) (x y : List ℕ) → IsBare x → IsBare y → IsBare (cond b x y)
either_bare true x y first second = first
either_bare false x y first second = second

bare_written : (groups : List ℕ) (run : ℕ × ℕ) → IsBare (groups_written groups run)
unfolding escape_byte
bare_written groups run =
    either_bare (ltb run.1 2) _ _ (bare_groups groups)
    (bare_append _ _ (bare_groups _) (bare_append (codes "::") _ refl (bare_groups _)))

bare_ip6 : (address : ℕ) → IsBare (ip6_shown address)
unfolding ip6_shown
bare_ip6 address = bare_written (groups_of address) (best_run_from 0 (0, 0) (groups_of address))

bare_sign : (negative : Bool) → IsBare (sign_text negative)
unfolding escape_byte
bare_sign true = refl
bare_sign false = refl

bare_time : (time : ℤ) → IsBare (time_shown time)
unfolding time_shown escape_byte
bare_time time =
    bare_append _ _ (bare_sign (is_negative time))
    (bare_append _ _ (bare_digits 10 (whole_seconds time))
    (bare_more 46 _ refl (bare_append _ _ (bare_zeros _) (bare_digits 10 (nanoseconds_over time)))))

-- a value that is no text has neither a quote nor a backslash in its text
pub shown_bare : (field : ℕ) (value : Value) → is_bare value ≡ true → IsBare (shown_value field value)
unfolding shown_value escape_byte
shown_bare field (values.Uint n) is = bare_digits 10 n
shown_bare field (values.Bool true) is = refl
shown_bare field (values.Bool false) is = refl
shown_bare field (values.Bytes bytes) is = bare_hex bytes
shown_bare field (values.Text bytes) is = absurd cc
shown_bare field (values.Ether address) is = bare_ether address
shown_bare field (values.Ip4 address) is = bare_ip4 address
shown_bare field (values.Ip6 address) is = bare_ip6 address
shown_bare field (values.Time time) is = bare_time time
shown_bare field (values.Proto bytes) is = bare_name field

-- ---- no control characters

abbrev IsHigh : List ℕ → Type 0
IsHigh text = Each (λ byte. 32 ≤ byte) text

glyph_high : (low : Bool) (d : ℕ) → 32 ≤ cond low (48 + d) (87 + d)
glyph_high true d = omega arith
glyph_high false d = omega arith

escaped_high : (low high backslash : Bool) (byte : ℕ) →
    (low && high ≡ true → 32 ≤ byte) → IsHigh (cond backslash (92 ∷ 92 ∷ []) (cond (low && high) (byte ∷ []) (92 ∷ 120 ∷ hex_pair byte)))
escaped_high low high true byte is = (lit≤ tt, (lit≤ tt, tt))
escaped_high true true false byte is = (is refl, tt)
escaped_high true false false byte is = (lit≤ tt, (lit≤ tt, (glyph_high _ _, (glyph_high _ _, tt))))
escaped_high false high false byte is = (lit≤ tt, (lit≤ tt, (glyph_high _ _, (glyph_high _ _, tt))))

byte_high : (byte : ℕ) → IsHigh (escape_text_byte byte)
byte_high byte =
    escaped_high (leb 32 byte) (leb byte 126) (byte == 92) byte
    (λ both. leb-true 32 byte (and_parts (leb 32 byte) (leb byte 126) both).0)

all_high : (bytes : List ℕ) → IsHigh (flat_map escape_text_byte bytes)
all_high [] = tt
all_high (byte ∷ bytes) = Each-append (λ (b : ℕ). 32 ≤ b) (escape_text_byte byte) _ (byte_high byte) (all_high bytes)

-- a text has no control character
pub shown_without_controls : (field : ℕ) (value : Value) → is_bare value ≡ false → All (λ byte. 32 ≤ byte) (shown_value field value)
unfolding shown_value escaped
shown_without_controls field (values.Text bytes) is = All-from_recursion (λ (b : ℕ). 32 ≤ b) _ (all_high bytes)
shown_without_controls field (values.Uint n) is = absurd cc
shown_without_controls field (values.Bool truth) is = absurd cc
shown_without_controls field (values.Bytes bytes) is = absurd cc
shown_without_controls field (values.Ether address) is = absurd cc
shown_without_controls field (values.Ip4 address) is = absurd cc
shown_without_controls field (values.Ip6 address) is = absurd cc
shown_without_controls field (values.Time time) is = absurd cc
shown_without_controls field (values.Proto bytes) is = absurd cc
