-- A literal tells its prefix length.
use Rattle.std.proofs.Common.{◌≡◌, ℕ, ◌+◌, ◌-◌, ◌==◌, Bool as Truth, true, false, if◌then◌else◌, List, [], ◌∷◌, ◌++◌, append_assoc, codes, decimal, drop, length, nat_lt, take, Option, None, Some, ap, sym, refl, subst, ◌∙◌, arith}
use Rattle.std.proofs.lemmas.Fmt.{decimal_injective}
use Rattle.std.proofs.lemmas.List.{append_cancel_left}
use Rattle.std.specs.Fmt.{digits, sign_text}
use Rattle.std.specs.Int.{is_negative, to_be_bytes, w32}
use Rattle.std.specs.List.{AllByRecursion as Each, flat_map, join_by}
use Rattle.std.specs.Prelude.{replicate, ℤ}
use Rattle.flt_program.proofs.PartLemmas.{differs, same_quoted}
use Rattle.flt_program.proofs.RangeLemmas.{Stops, each_both, run_told}
use Rattle.flt_program.proofs.ToldLemmas.{Over, digits_over, pair_over, replicate_over}
use Rattle.flt_program.specs.Literals.{bytes_shown, prefix_shown, quoted_byte, string_shown, value_shown}
use Rattle.flt_program.specs.Parts.{AreBytes, IsOfKind, IsPrefixShort, PrefixesAreTold}
use Rattle.flt_typed.specs.Kinds.{kind_of_value}
use Rattle.pk_base.specs.declared.value.Value.{Value}
use Rattle.pk_base.specs.declared.value.Value.TheVariants as values
use Rattle.pk_fields.specs.declared.value_kind.ValueKind.{ValueKind}
use Rattle.pk_fields.specs.declared.value_kind.ValueKind.TheVariants as kinds
use Rattle.pk_text.specs.Digits.{hex_pair, hex_shown}
use Rattle.pk_text.specs.Ether.{ether_shown}
use Rattle.pk_text.specs.Ip4.{ip4_shown}
use Rattle.pk_text.specs.Ip6.{best_run_from, groups_of, groups_shown, groups_written, ip6_shown}
use Rattle.pk_text.specs.Time.{decimal_in, nanoseconds_over, time_shown, whole_seconds}

-- ---- texts without a slash, 47

NoSlash : ℕ → Type 0
NoSlash c = c ≡ 47 → ⊥

from_over : (bytes : List ℕ) → Over 48 bytes → Each NoSlash bytes
unfolding NoSlash
from_over [] over = tt
from_over (c ∷ bytes) over = (λ is. omega (arith, over.0, is), from_over bytes over.1)

each_flat : {A : Type 0} (f : A → List ℕ) (xs : List A) → ((x : A) → Each NoSlash (f x)) → Each NoSlash (flat_map f xs)
each_flat f [] all = tt
each_flat f (x ∷ xs) all = each_both NoSlash (f x) (flat_map f xs) (all x) (each_flat f xs all)

each_join : {A : Type 0} (f : A → List ℕ) (sep : List ℕ) (xs : List A) → Each NoSlash sep → ((x : A) → Each NoSlash (f x)) → Each NoSlash (join_by f sep xs)
each_join f sep [] is all = tt
each_join f sep (x ∷ xs) is all = each_both NoSlash (f x) (flat_map (λ y. sep ++ f y) xs) (all x) (each_flat (λ y. sep ++ f y) xs (λ y. each_both NoSlash sep (f y) is (all y)))

each_if : (test : Truth) (a b : List ℕ) → Each NoSlash a → Each NoSlash b → Each NoSlash (if test then a else b)
each_if true a b one other = one
each_if false a b one other = other

one_byte : (c : ℕ) → (c == 47) ≡ false → Each NoSlash (c ∷ [])
unfolding NoSlash
one_byte c apart = (differs c 47 apart, tt)

number : (n : ℕ) → Each NoSlash (decimal n)
number n = from_over (decimal n) (digits_over 10 n)

pair : (byte : ℕ) → Each NoSlash (hex_pair byte)
pair byte = from_over (hex_pair byte) (pair_over byte)

groups : (gs : List ℕ) → Each NoSlash (groups_shown gs)
groups gs = each_join (digits 16 false) (codes ":") gs (one_byte 58 refl) (λ g. from_over (digits 16 false g) (digits_over 16 g))

hex_plain : (bytes : List ℕ) → Each NoSlash (hex_shown bytes)
unfolding hex_shown
hex_plain bytes = each_flat hex_pair bytes pair

ether_plain : (address : List ℕ) → Each NoSlash (ether_shown address)
unfolding ether_shown
ether_plain address = each_join hex_pair (codes ":") address (one_byte 58 refl) pair

ip4_plain : (address : ℕ) → Each NoSlash (ip4_shown address)
unfolding ip4_shown
ip4_plain address = each_join decimal (codes ".") (to_be_bytes w32 address) (one_byte 46 refl) number

written_plain : (gs : List ℕ) (run : ℕ × ℕ) → Each NoSlash (groups_written gs run)
written_plain gs run =
    let back : List ℕ = groups_shown (drop (run.0 + run.1) gs) in
    each_if (nat_lt run.1 2) (groups_shown gs) (groups_shown (take run.0 gs) ++ (codes "::" ++ back)) (groups gs)
    (each_both NoSlash (groups_shown (take run.0 gs)) (codes "::" ++ back) (groups (take run.0 gs))
    (each_both NoSlash (codes "::") back (each_both NoSlash (58 ∷ []) (58 ∷ []) (one_byte 58 refl) (one_byte 58 refl)) (groups (drop (run.0 + run.1) gs))))

ip6_plain : (address : ℕ) → Each NoSlash (ip6_shown address)
unfolding ip6_shown
ip6_plain address = written_plain (groups_of address) (best_run_from 0 (0, 0) (groups_of address))

time_plain : (time : ℤ) → Each NoSlash (time_shown time)
unfolding time_shown
time_plain time =
    each_both NoSlash (sign_text (is_negative time)) (decimal (whole_seconds time) ++ (46 ∷ decimal_in 9 (nanoseconds_over time))) (each_if (is_negative time) (45 ∷ []) [] (one_byte 45 refl) tt)
    (each_both NoSlash (decimal (whole_seconds time)) (46 ∷ decimal_in 9 (nanoseconds_over time)) (number (whole_seconds time))
    (each_both NoSlash (46 ∷ []) (decimal_in 9 (nanoseconds_over time)) (one_byte 46 refl)
    (each_both NoSlash (replicate (9 - length (decimal (nanoseconds_over time))) 48) (decimal (nanoseconds_over time))
    (from_over (replicate (9 - length (decimal (nanoseconds_over time))) 48) (replicate_over (9 - length (decimal (nanoseconds_over time))))) (number (nanoseconds_over time)))))

-- ---- strings, and other texts

abbrev is_string : Truth → ValueKind → Truth
is_string quoted kinds.Text = true
is_string quoted kinds.Bytes = quoted
is_string quoted kinds.Proto = quoted
is_string quoted kind = false

Way : Truth → Truth → Value → Type 0
Way true quoted value = (bytes : List ℕ) × AreBytes bytes × (value_shown quoted value ≡ string_shown bytes)
Way false quoted value = Each NoSlash (value_shown quoted value)

bytes_way : (quoted : Truth) (value : Value) (bytes : List ℕ) → AreBytes bytes → value_shown quoted value ≡ bytes_shown quoted bytes → Way quoted quoted value
unfolding Way
bytes_way true value bytes are shown = (bytes, are, shown)
bytes_way false value bytes are shown = subst (Each NoSlash) (sym shown) (hex_plain bytes)

way : (quoted : Truth) (value : Value) → IsOfKind value → Way (is_string quoted (kind_of_value value)) quoted value
unfolding Way value_shown
way quoted (values.Uint n) is = number n
way quoted (values.Bool truth) is = each_if truth (codes "1") (codes "0") (one_byte 49 refl) (one_byte 48 refl)
way quoted (values.Bytes bytes) is = bytes_way quoted (values.Bytes bytes) bytes is refl
way quoted (values.Text bytes) is = (bytes, is, refl)
way quoted (values.Ether address) is = ether_plain address
way quoted (values.Ip4 address) is = ip4_plain address
way quoted (values.Ip6 address) is = ip6_plain address
way quoted (values.Time time) is = time_plain time
way quoted (values.Proto bytes) is = bytes_way quoted (values.Proto bytes) bytes is refl

no_slash : (prefix : Option ℕ) → Stops NoSlash (prefix_shown prefix)
unfolding Stops NoSlash
no_slash None = tt
no_slash (Some n) = λ none. none refl

string_behind : (bytes rest : List ℕ) → string_shown bytes ++ rest ≡ 34 ∷ (flat_map quoted_byte bytes ++ (34 ∷ rest))
unfolding string_shown
string_behind bytes rest = ap (λ (t : List ℕ). 34 ∷ t) (append_assoc (flat_map quoted_byte bytes) (34 ∷ []) rest)

behind_strings : (xs ys r s : List ℕ) → AreBytes xs → AreBytes ys → string_shown xs ++ r ≡ string_shown ys ++ s → r ≡ s
behind_strings xs ys r s one two same =
    let whole : flat_map quoted_byte xs ++ (34 ∷ r) ≡ flat_map quoted_byte ys ++ (34 ∷ s) = ap (λ (t : List ℕ). drop 1 t) (sym (string_behind xs r) ∙ same ∙ string_behind ys s) in
    let bytes : xs ≡ ys = same_quoted xs ys r s one two whole in
    ap (λ (t : List ℕ). drop 1 t) (append_cancel_left (flat_map quoted_byte xs) (34 ∷ r) (34 ∷ s) (whole ∙ ap (λ (zs : List ℕ). flat_map quoted_byte zs ++ (34 ∷ s)) (sym bytes)))

behind : (string quoted : Truth) (v w : Value) (p q : Option ℕ) → Way string quoted v → Way string quoted w → value_shown quoted v ++ prefix_shown p ≡ value_shown quoted w ++ prefix_shown q → prefix_shown p ≡ prefix_shown q
unfolding Way
behind true quoted v w p q (xs, is_x, x) (ys, is_y, y) same =
    behind_strings xs ys (prefix_shown p) (prefix_shown q) is_x is_y (ap (λ (t : List ℕ). t ++ prefix_shown p) (sym x) ∙ same ∙ ap (λ (t : List ℕ). t ++ prefix_shown q) y)
behind false quoted v w p q one two same = (run_told NoSlash (value_shown quoted v) (value_shown quoted w) (prefix_shown p) (prefix_shown q) one two (no_slash p) (no_slash q) same).1

prefix_told : (p q : Option ℕ) → IsPrefixShort p → IsPrefixShort q → prefix_shown p ≡ prefix_shown q → p ≡ q
prefix_told None None one two same = refl
prefix_told None (Some m) one two same = cc
prefix_told (Some n) None one two same = cc
prefix_told (Some n) (Some m) one two same = ap Some (decimal_injective n m one two (ap (λ (t : List ℕ). drop 1 t) same))

pub prefixes_told : PrefixesAreTold
prefixes_told c d one two kind quoted first second same =
    prefix_told c.prefix d.prefix first second
    (behind (is_string d.quoted (kind_of_value d.value)) d.quoted c.value d.value c.prefix d.prefix
    (subst (λ (k : ValueKind). Way (is_string d.quoted k) d.quoted c.value) kind (way d.quoted c.value one)) (way d.quoted d.value two)
    (ap (λ (q : Truth). value_shown q c.value ++ prefix_shown c.prefix) (sym quoted) ∙ same))
