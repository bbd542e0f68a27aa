-- A listing is read back, word by word.
use Rattle.std.proofs.Common.{◌≡◌, ◌≤◌, ◌<◌, ◌^◌, ℕ, zero, suc, ◌+◌, ◌-◌, ◌/◌, ◌%◌, ◌==◌, ◌&&◌, Bool as Truth, true, false, nat_le, nat_lt, if◌then◌else◌, List, [], ◌∷◌, ◌++◌, append_assoc, codes, decimal, Option, Some, None, ap, sym, refl, ◌∙◌, subst, arith, take, drop, length}
use Rattle.std.proofs.lemmas.Bool.{and_parts, leb-true}
use Rattle.std.proofs.lemmas.Fmt.{decimal_injective}
use Rattle.std.specs.Fmt.{digit_glyph, digits, digits_onto}
use Rattle.std.specs.List.{find, flat_map, join_by, list_all, slice_get, slice_index_or}
use Rattle.std.specs.Str.{bytes_eq}
use Rattle.std.specs.Int.{is_negative, to_be_bytes, w32}
use Rattle.std.specs.Fmt.{sign_text}
use Rattle.std.specs.Prelude.{replicate, ℤ}
use Rattle.flt_program.specs.Listing.{choice_shown, extreme_shown, function_shown, instr_shown, lines_from, listing_of, operation_shown, pattern_at, register_shown, relation_shown, spaced}
use Rattle.flt_program.specs.Literals.{bytes_shown, constant_shown, field_shown, last_shown, layer_range_shown, layers_shown, member_shown, members_shown, place_shown, prefix_shown, quoted_byte, range_shown, ranges_shown, string_shown, value_shown}
use Rattle.flt_program.specs.Programs.{Code, Fits, IsProgram, patterns_of}
use Rattle.flt_program.specs.Told.{AllAlike, AreAlike, IsMaskShort, IsShort, ListingsTell}
use Rattle.flt_program.specs.declared.instr.Instr.{Instr}
use Rattle.flt_program.specs.declared.instr.Instr.TheVariants as instr
use Rattle.flt_syntax.specs.declared.ast.Arithmetic.{Arithmetic}
use Rattle.flt_syntax.specs.declared.ast.Arithmetic.TheVariants.{Sum, Difference, Product}
use Rattle.flt_syntax.specs.declared.ast.Choice.{Choice}
use Rattle.flt_syntax.specs.declared.ast.Choice.TheVariants as choices
use Rattle.flt_syntax.specs.declared.ast.Function.{Function}
use Rattle.flt_syntax.specs.declared.ast.Function.TheVariants as functions
use Rattle.flt_syntax.specs.declared.ast.Place.{Place}
use Rattle.flt_syntax.specs.declared.ast.RangePart.{RangePart}
use Rattle.flt_syntax.specs.declared.ast.RangePart.TheVariants as parts
use Rattle.flt_typed.specs.declared.arithmetic.Extreme.{Extreme}
use Rattle.flt_typed.specs.declared.arithmetic.Extreme.TheVariants.{Least, Greatest}
use Rattle.flt_typed.specs.declared.constant.Constant.{Constant}
use Rattle.flt_typed.specs.declared.relation.Relation.{Relation}
use Rattle.flt_typed.specs.declared.relation.Relation.TheVariants as relations
use Rattle.flt_typed.specs.declared.typed.Member.{Member}
use Rattle.flt_typed.specs.declared.typed.Member.TheVariants as members
use Rattle.pk_base.specs.declared.chosen.LayerRange.{LayerRange}
use Rattle.pk_base.specs.declared.chosen.Layers.{Layers}
use Rattle.pk_base.specs.declared.chosen.Layers.TheVariants.{All, These}
use Rattle.pk_base.specs.declared.value.Value.{Value}
use Rattle.pk_base.specs.declared.value.Value.TheVariants as values
use Rattle.pk_fields.specs.Fields.{row_of}
use Rattle.pk_fields.specs.Rows.{FieldRow, whole}
use Rattle.pk_fields.specs.Table.{rows}
use Rattle.pk_fields.specs.declared.value_kind.ValueKind.TheVariants.{Proto}
use Rattle.pk_text.specs.Digits.{hex_pair, hex_shown}
use Rattle.pk_text.specs.Escape.{escape_byte}
use Rattle.pk_text.specs.Ether.{ether_shown}
use Rattle.pk_text.specs.Ip4.{ip4_shown}
use Rattle.pk_text.specs.Ip6.{best_run_from, groups_of, groups_shown, groups_written, ip6_shown}
use Rattle.pk_text.specs.Time.{decimal_in, nanoseconds_over, time_shown, whole_seconds}

-- each byte is at least so much
abbrev pub Over : ℕ → List ℕ → Type 0
Over k [] = Unit {0}
Over k (b ∷ bytes) = (k ≤ b) × Over k bytes

-- by a test
pub over_by : (k : ℕ) (bytes : List ℕ) → list_all (nat_le k) bytes ≡ true → Over k bytes
over_by k [] is = tt
over_by k (b ∷ bytes) is = let both = and_parts (nat_le k b) (list_all (nat_le k) bytes) is in (leb-true k b both.0, over_by k bytes both.1)

over_less : (k n : ℕ) (bytes : List ℕ) → k ≤ n → Over n bytes → Over k bytes
over_less k n [] less over = tt
over_less k n (b ∷ bytes) less over = (omega (arith, less, over.0), over_less k n bytes less over.1)

over_both : (k : ℕ) (a b : List ℕ) → Over k a → Over k b → Over k (a ++ b)
over_both k [] b one two = two
over_both k (x ∷ a) b one two = (one.0, over_both k a b one.1 two)

over_flat : {A : Type 0} (k : ℕ) (f : A → List ℕ) (xs : List A) → ((x : A) → Over k (f x)) → Over k (flat_map f xs)
over_flat k f [] each = tt
over_flat k f (x ∷ xs) each = over_both k (f x) (flat_map f xs) (each x) (over_flat k f xs each)

over_join : {A : Type 0} (k : ℕ) (f : A → List ℕ) (sep : List ℕ) (xs : List A) → Over k sep → ((x : A) → Over k (f x)) → Over k (join_by f sep xs)
over_join k f sep [] is each = tt
over_join k f sep (x ∷ xs) is each = over_both k (f x) (flat_map (λ y. sep ++ f y) xs) (each x) (over_flat k (λ y. sep ++ f y) xs (λ y. over_both k sep (f y) is (each y)))

over_if : (k : ℕ) (test : Truth) (a b : List ℕ) → Over k a → Over k b → Over k (if test then a else b)
over_if k true a b one two = one
over_if k false a b one two = two

-- digits
glyph_by : (d : ℕ) (less : Truth) → 48 ≤ (if less then 48 + d else 87 + d)
glyph_by d true = omega arith
glyph_by d false = omega arith

glyph_over : (d : ℕ) → 48 ≤ digit_glyph false d
glyph_over d = glyph_by d (nat_lt d 10)

onto_step : (k base n : ℕ) (last : Truth) (acc : List ℕ) → Over 48 acc → ((m : ℕ) (acc : List ℕ) → Over 48 acc → Over 48 (digits_onto k base false m acc)) →
    Over 48 (if last then digit_glyph false (n % base) ∷ acc else digits_onto k base false (n / base) (digit_glyph false (n % base) ∷ acc))
onto_step k base n true acc over rest = (glyph_over (n % base), over)
onto_step k base n false acc over rest = rest (n / base) (digit_glyph false (n % base) ∷ acc) (glyph_over (n % base), over)

onto_over : (k base n : ℕ) (acc : List ℕ) → Over 48 acc → Over 48 (digits_onto k base false n acc)
onto_over zero base n acc over = over
onto_over (suc k) base n acc over = onto_step k base n (n / base == 0) acc over (λ m more is. onto_over k base m more is)

pub digits_over : (base n : ℕ) → Over 48 (digits base false n)
unfolding digits
digits_over base n = onto_over 64 base n [] tt

pub pair_over : (byte : ℕ) → Over 48 (hex_pair byte)
pair_over byte = (glyph_over (byte / 16), (glyph_over (byte % 16), tt))

decimal_over : (k n : ℕ) → k ≤ 48 → Over k (decimal n)
decimal_over k n less = over_less k 48 (decimal n) less (digits_over 10 n)

pub replicate_over : (n : ℕ) → Over 48 (replicate n 48)
replicate_over zero = tt
replicate_over (suc n) = (omega arith, replicate_over n)

-- fields' names
is_name : FieldRow → Truth
is_name row = list_all (nat_le 33) row.name

names_over : list_all is_name rows ≡ true
unfolding rows is_name
names_over = refl

row_at : (table : List FieldRow) (f : ℕ) (d : FieldRow) → list_all is_name table ≡ true → is_name d ≡ true → is_name (slice_index_or table f d) ≡ true
row_at [] f d all other = other
row_at (row ∷ table) zero d all other = (and_parts (is_name row) (list_all is_name table) all).0
row_at (row ∷ table) (suc f) d all other = row_at table f d (and_parts (is_name row) (list_all is_name table) all).1 other

no_name : is_name (whole [] Proto 0) ≡ true
unfolding is_name
no_name = refl

name_over : (f : ℕ) → Over 33 (row_of f).name
unfolding row_of is_name
name_over f = over_by 33 (row_of f).name (row_at rows f (whole [] Proto 0) names_over no_name)

-- layers, ranges
last_over : (last : Option ℕ) → Over 33 (last_shown last)
last_over None = tt
last_over (Some n) = over_both 33 (codes "-") (decimal n) (over_by 33 (codes "-") refl) (decimal_over 33 n (omega arith))

layer_over : (range : LayerRange) → Over 33 (layer_range_shown range)
layer_over range = over_both 33 (decimal range.first) (last_shown range.last) (decimal_over 33 range.first (omega arith)) (last_over range.last)

layers_over : (layers : Layers) → Over 33 (layers_shown layers)
layers_over All = tt
layers_over (These ranges) = over_both 33 (codes "#[") (join_by layer_range_shown (codes ",") ranges ++ codes "]") (over_by 33 (codes "#[") refl)
    (over_both 33 (join_by layer_range_shown (codes ",") ranges) (codes "]") (over_join 33 layer_range_shown (codes ",") ranges (over_by 33 (codes ",") refl) layer_over) (over_by 33 (codes "]") refl))

field_over : (field : ℕ) (layers : Layers) → Over 33 (field_shown field layers)
field_over field layers = over_both 33 (row_of field).name (layers_shown layers) (name_over field) (layers_over layers)

place_over : (place : Place) → Over 33 (place_shown place)
place_over place = over_both 33 (if place.from_end then codes "-" else []) (decimal place.offset) (over_if 33 place.from_end (codes "-") [] (over_by 33 (codes "-") refl) tt) (decimal_over 33 place.offset (omega arith))

range_over : (range : RangePart) → Over 33 (range_shown range)
range_over (parts.One at) = place_over at
range_over (parts.Counted at count) = over_both 33 (place_shown at) (codes ":" ++ decimal count) (place_over at) (over_both 33 (codes ":") (decimal count) (over_by 33 (codes ":") refl) (decimal_over 33 count (omega arith)))
range_over (parts.Between first last) = over_both 33 (place_shown first) (codes "-" ++ place_shown last) (place_over first) (over_both 33 (codes "-") (place_shown last) (over_by 33 (codes "-") refl) (place_over last))
range_over (parts.Front count) = over_both 33 (codes ":") (decimal count) (over_by 33 (codes ":") refl) (decimal_over 33 count (omega arith))
range_over (parts.ToEnd at) = over_both 33 (place_shown at) (codes ":") (place_over at) (over_by 33 (codes ":") refl)

ranges_over : (ranges : List RangePart) → Over 33 (ranges_shown ranges)
ranges_over ranges = over_both 33 (codes "[") (join_by range_shown (codes ",") ranges ++ codes "]") (over_by 33 (codes "[") refl)
    (over_both 33 (join_by range_shown (codes ",") ranges) (codes "]") (over_join 33 range_shown (codes ",") ranges (over_by 33 (codes ",") refl) range_over) (over_by 33 (codes "]") refl))

-- strings and values
printable_by : (byte : ℕ) (test : Truth) → (nat_le 0x20 byte && nat_le byte 0x7E) ≡ test → Over 32 (if test then byte ∷ [] else 92 ∷ 120 ∷ hex_pair byte)
printable_by byte true is = (leb-true 32 byte (and_parts (nat_le 0x20 byte) (nat_le byte 0x7E) is).0, tt)
printable_by byte false is = (omega arith, (omega arith, over_less 32 48 (hex_pair byte) (omega arith) (pair_over byte)))

escape_over : (byte : ℕ) → Over 32 (escape_byte byte)
escape_over byte = over_if 32 (byte == 92) (92 ∷ 92 ∷ []) _ (omega arith, (omega arith, tt)) (printable_by byte (nat_le 0x20 byte && nat_le byte 0x7E) refl)

quoted_over : (byte : ℕ) → Over 32 (quoted_byte byte)
quoted_over byte = over_if 32 (byte == 34) (92 ∷ 34 ∷ []) (escape_byte byte) (omega arith, (omega arith, tt)) (escape_over byte)

string_over : (bytes : List ℕ) → Over 32 (string_shown bytes)
unfolding string_shown
string_over bytes = (omega arith, over_both 32 (flat_map quoted_byte bytes) (34 ∷ []) (over_flat 32 quoted_byte bytes quoted_over) (omega arith, tt))

hex_over : (bytes : List ℕ) → Over 32 (hex_shown bytes)
unfolding hex_shown
hex_over bytes = over_flat 32 hex_pair bytes (λ byte. over_less 32 48 (hex_pair byte) (omega arith) (pair_over byte))

bytes_over : (quoted : Truth) (bytes : List ℕ) → Over 32 (bytes_shown quoted bytes)
bytes_over quoted bytes = over_if 32 quoted (string_shown bytes) (hex_shown bytes) (string_over bytes) (hex_over bytes)

ether_over : (address : List ℕ) → Over 32 (ether_shown address)
unfolding ether_shown
ether_over address = over_join 32 hex_pair (codes ":") address (over_by 32 (codes ":") refl) (λ byte. over_less 32 48 (hex_pair byte) (omega arith) (pair_over byte))

ip4_over : (address : ℕ) → Over 32 (ip4_shown address)
unfolding ip4_shown
ip4_over address = over_join 32 decimal (codes ".") (to_be_bytes w32 address) (over_by 32 (codes ".") refl) (λ n. decimal_over 32 n (omega arith))

groups_over : (groups : List ℕ) → Over 32 (groups_shown groups)
groups_over groups = over_join 32 (digits 16 false) (codes ":") groups (over_by 32 (codes ":") refl) (λ n. over_less 32 48 (digits 16 false n) (omega arith) (digits_over 16 n))

written_over : (groups : List ℕ) (run : ℕ × ℕ) → Over 32 (groups_written groups run)
written_over groups run = over_if 32 (nat_lt run.1 2) (groups_shown groups) (groups_shown (take run.0 groups) ++ (codes "::" ++ groups_shown (drop (run.0 + run.1) groups))) (groups_over groups)
    (over_both 32 (groups_shown (take run.0 groups)) (codes "::" ++ groups_shown (drop (run.0 + run.1) groups)) (groups_over (take run.0 groups))
    (over_both 32 (codes "::") (groups_shown (drop (run.0 + run.1) groups)) (over_by 32 (codes "::") refl) (groups_over (drop (run.0 + run.1) groups))))

ip6_over : (address : ℕ) → Over 32 (ip6_shown address)
unfolding ip6_shown
ip6_over address = written_over (groups_of address) (best_run_from 0 (0, 0) (groups_of address))

padded_over : (n number : ℕ) → Over 32 (decimal_in n number)
padded_over n number = over_both 32 (replicate (n - length (decimal number)) 48) (decimal number) (over_less 32 48 (replicate (n - length (decimal number)) 48) (omega arith) (replicate_over (n - length (decimal number)))) (decimal_over 32 number (omega arith))

time_over : (time : ℤ) → Over 32 (time_shown time)
unfolding time_shown
time_over time = over_both 32 (sign_text (is_negative time)) (decimal (whole_seconds time) ++ (46 ∷ decimal_in 9 (nanoseconds_over time))) (over_if 32 (is_negative time) (45 ∷ []) [] (omega arith, tt) tt)
    (over_both 32 (decimal (whole_seconds time)) (46 ∷ decimal_in 9 (nanoseconds_over time)) (decimal_over 32 (whole_seconds time) (omega arith)) (omega arith, padded_over 9 (nanoseconds_over time)))

value_over : (quoted : Truth) (value : Value) → Over 32 (value_shown quoted value)
unfolding value_shown
value_over quoted (values.Uint number) = decimal_over 32 number (omega arith)
value_over quoted (values.Bool truth) = over_if 32 truth (codes "1") (codes "0") (over_by 32 (codes "1") refl) (over_by 32 (codes "0") refl)
value_over quoted (values.Bytes bytes) = bytes_over quoted bytes
value_over quoted (values.Text bytes) = string_over bytes
value_over quoted (values.Ether address) = ether_over address
value_over quoted (values.Ip4 address) = ip4_over address
value_over quoted (values.Ip6 address) = ip6_over address
value_over quoted (values.Time time) = time_over time
value_over quoted (values.Proto bytes) = bytes_over quoted bytes

prefix_over : (prefix : Option ℕ) → Over 32 (prefix_shown prefix)
prefix_over None = tt
prefix_over (Some n) = over_both 32 (codes "/") (decimal n) (over_by 32 (codes "/") refl) (decimal_over 32 n (omega arith))

constant_over : (c : Constant) → Over 32 (constant_shown c)
constant_over c = over_both 32 (value_shown c.quoted c.value) (prefix_shown c.prefix) (value_over c.quoted c.value) (prefix_over c.prefix)

member_over : (m : Member) → Over 32 (member_shown m)
member_over (members.One c) = constant_over c
member_over (members.Between low high) = over_both 32 (constant_shown low) (codes ".." ++ constant_shown high) (constant_over low) (over_both 32 (codes "..") (constant_shown high) (over_by 32 (codes "..") refl) (constant_over high))

members_over : (ms : List Member) → Over 32 (members_shown ms)
members_over ms = over_both 32 (codes "{") (join_by member_shown (codes ", ") ms ++ codes "}") (over_by 32 (codes "{") refl)
    (over_both 32 (join_by member_shown (codes ", ") ms) (codes "}") (over_join 32 member_shown (codes ", ") ms (over_by 32 (codes ", ") refl) member_over) (over_by 32 (codes "}") refl))

-- words
register_over : (r : ℕ) → Over 33 (register_shown r)
register_over r = over_both 33 (codes "r") (decimal r) (over_by 33 (codes "r") refl) (decimal_over 33 r (omega arith))

choice_over : (c : Choice) → Over 33 (choice_shown c)
choice_over choices.Any = over_by 33 (codes "any") refl
choice_over choices.All = over_by 33 (codes "all") refl

relation_over : (r : Relation) → Over 33 (relation_shown r)
relation_over relations.Equal = over_by 33 (codes "==") refl
relation_over relations.Unequal = over_by 33 (codes "!=") refl
relation_over relations.Greater = over_by 33 (codes ">") refl
relation_over relations.Less = over_by 33 (codes "<") refl
relation_over relations.AtLeast = over_by 33 (codes ">=") refl
relation_over relations.AtMost = over_by 33 (codes "<=") refl
relation_over relations.Contains = over_by 33 (codes "contains") refl

function_over : (f : Function) → Over 33 (function_shown f)
function_over functions.Len = over_by 33 (codes "len") refl
function_over functions.Count = over_by 33 (codes "count") refl
function_over functions.Upper = over_by 33 (codes "upper") refl
function_over functions.Lower = over_by 33 (codes "lower") refl
function_over functions.Min = over_by 33 (codes "min") refl
function_over functions.Max = over_by 33 (codes "max") refl

operation_over : (a : Arithmetic) → Over 33 (operation_shown a)
operation_over Sum = over_by 33 (codes "ADD") refl
operation_over Difference = over_by 33 (codes "SUB") refl
operation_over Product = over_by 33 (codes "MUL") refl

extreme_over : (e : Extreme) → Over 33 (extreme_shown e)
extreme_over Least = over_by 33 (codes "MIN") refl
extreme_over Greatest = over_by 33 (codes "MAX") refl

same_by : {A : Type 0} (shown : A → List ℕ) (all : List A) → ((a : A) → find (λ o. bytes_eq (shown o) (shown a)) all ≡ Some a) → (a b : A) → shown a ≡ shown b → a ≡ b
same_by shown all each a b same =
    let both : Some a ≡ Some b = sym (each a) ∙ ap (λ (t : List ℕ). find (λ o. bytes_eq (shown o) t) all) same ∙ each b in
    cc

abbrev each_choice : List Choice
each_choice = choices.Any ∷ choices.All ∷ []

choice_found : (a : Choice) → find (λ o. bytes_eq (choice_shown o) (choice_shown a)) each_choice ≡ Some a
choice_found choices.Any = refl
choice_found choices.All = refl

same_choice : (a b : Choice) → choice_shown a ≡ choice_shown b → a ≡ b
same_choice a b same = same_by choice_shown each_choice choice_found a b same

abbrev each_relation : List Relation
each_relation = relations.Equal ∷ relations.Unequal ∷ relations.Greater ∷ relations.Less ∷ relations.AtLeast ∷ relations.AtMost ∷ relations.Contains ∷ []

relation_found : (a : Relation) → find (λ o. bytes_eq (relation_shown o) (relation_shown a)) each_relation ≡ Some a
relation_found relations.Equal = refl
relation_found relations.Unequal = refl
relation_found relations.Greater = refl
relation_found relations.Less = refl
relation_found relations.AtLeast = refl
relation_found relations.AtMost = refl
relation_found relations.Contains = refl

same_relation : (a b : Relation) → relation_shown a ≡ relation_shown b → a ≡ b
same_relation a b same = same_by relation_shown each_relation relation_found a b same

abbrev each_function : List Function
each_function = functions.Len ∷ functions.Count ∷ functions.Upper ∷ functions.Lower ∷ functions.Min ∷ functions.Max ∷ []

function_found : (a : Function) → find (λ o. bytes_eq (function_shown o) (function_shown a)) each_function ≡ Some a
function_found functions.Len = refl
function_found functions.Count = refl
function_found functions.Upper = refl
function_found functions.Lower = refl
function_found functions.Min = refl
function_found functions.Max = refl

same_function : (a b : Function) → function_shown a ≡ function_shown b → a ≡ b
same_function a b same = same_by function_shown each_function function_found a b same

abbrev each_operation : List Arithmetic
each_operation = Sum ∷ Difference ∷ Product ∷ []

operation_found : (a : Arithmetic) → find (λ o. bytes_eq (operation_shown o) (operation_shown a)) each_operation ≡ Some a
operation_found Sum = refl
operation_found Difference = refl
operation_found Product = refl

same_operation : (a b : Arithmetic) → operation_shown a ≡ operation_shown b → a ≡ b
same_operation a b same = same_by operation_shown each_operation operation_found a b same

abbrev each_extreme : List Extreme
each_extreme = Least ∷ Greatest ∷ []

extreme_found : (a : Extreme) → find (λ o. bytes_eq (extreme_shown o) (extreme_shown a)) each_extreme ≡ Some a
extreme_found Least = refl
extreme_found Greatest = refl

same_extreme : (a b : Extreme) → extreme_shown a ≡ extreme_shown b → a ≡ b
same_extreme a b same = same_by extreme_shown each_extreme extreme_found a b same

-- the byte that ends a word stands at its end
pub split_at : (sep k : ℕ) (a b x y : List ℕ) → sep < k → Over k a → Over k b → a ++ (sep ∷ x) ≡ b ++ (sep ∷ y) → (a ≡ b) × (x ≡ y)
split_at sep k [] [] x y less one two same = (refl, cc)
split_at sep k [] (d ∷ b) x y less one two same = let here : sep ≡ d = cc in let none : ⊥ = omega (arith, here, less, two.0) in absurd none
split_at sep k (c ∷ a) [] x y less one two same = let here : c ≡ sep = cc in let none : ⊥ = omega (arith, here, less, one.0) in absurd none
split_at sep k (c ∷ a) (d ∷ b) x y less one two same =
    let first : c ≡ d = cc in
    let rest : a ++ (sep ∷ x) ≡ b ++ (sep ∷ y) = cc in
    let more = split_at sep k a b x y less one.1 two.1 rest in
    (ap (λ n. n ∷ a) first ∙ ap (λ (t : List ℕ). d ∷ t) more.0, more.1)

words : (w u a b : List ℕ) → Over 33 w → Over 33 u → w ++ (codes " " ++ a) ≡ u ++ (codes " " ++ b) → (w ≡ u) × (a ≡ b)
words w u a b one two same = split_at 32 33 w u a b (omega arith) one two same

then_over : (w rest : List ℕ) → Over 33 w → Over 32 rest → Over 32 (w ++ (codes " " ++ rest))
then_over w rest one two = over_both 32 w (codes " " ++ rest) (over_less 32 33 w (omega arith) one) (over_both 32 (codes " ") rest (over_by 32 (codes " ") refl) two)

solid : (w : List ℕ) → Over 33 w → Over 32 w
solid w over = over_less 32 33 w (omega arith) over

text_over : (ps : List (List ℕ)) (at : ℕ) (i : Instr) → Over 32 (instr_shown ps at i)
unfolding instr_shown
text_over ps at (instr.Read r field layers) = then_over (codes "READ") (register_shown r ++ (codes " " ++ (field_shown field layers))) (over_by 33 (codes "READ") refl) (then_over (register_shown r) (field_shown field layers) (register_over r) (solid (field_shown field layers) (field_over field layers)))
text_over ps at (instr.Const r c) = then_over (codes "CONST") (register_shown r ++ (codes " " ++ (constant_shown c))) (over_by 33 (codes "CONST") refl) (then_over (register_shown r) (constant_shown c) (register_over r) (constant_over c))
text_over ps at (instr.Slice r q ranges) = then_over (codes "SLICE") (register_shown r ++ (codes " " ++ (register_shown q ++ (codes " " ++ (ranges_shown ranges))))) (over_by 33 (codes "SLICE") refl) (then_over (register_shown r) (register_shown q ++ (codes " " ++ (ranges_shown ranges))) (register_over r) (then_over (register_shown q) (ranges_shown ranges) (register_over q) (solid (ranges_shown ranges) (ranges_over ranges))))
text_over ps at (instr.Mask r q mask) = then_over (codes "MASK") (register_shown r ++ (codes " " ++ (register_shown q ++ (codes " " ++ (decimal mask))))) (over_by 33 (codes "MASK") refl) (then_over (register_shown r) (register_shown q ++ (codes " " ++ (decimal mask))) (register_over r) (then_over (register_shown q) (decimal mask) (register_over q) (decimal_over 32 mask (omega arith))))
text_over ps at (instr.Call r function q) = then_over (codes "CALL") (register_shown r ++ (codes " " ++ (function_shown function ++ (codes " " ++ (register_shown q))))) (over_by 33 (codes "CALL") refl) (then_over (register_shown r) (function_shown function ++ (codes " " ++ (register_shown q))) (register_over r) (then_over (function_shown function) (register_shown q) (function_over function) (solid (register_shown q) (register_over q))))
text_over ps at (instr.Count r field layers) = then_over (codes "COUNT") (register_shown r ++ (codes " " ++ (field_shown field layers))) (over_by 33 (codes "COUNT") refl) (then_over (register_shown r) (field_shown field layers) (register_over r) (solid (field_shown field layers) (field_over field layers)))
text_over ps at (instr.Compute r operation p q) = then_over (operation_shown operation) (register_shown r ++ (codes " " ++ (register_shown p ++ (codes " " ++ (register_shown q))))) (operation_over operation) (then_over (register_shown r) (register_shown p ++ (codes " " ++ (register_shown q))) (register_over r) (then_over (register_shown p) (register_shown q) (register_over p) (solid (register_shown q) (register_over q))))
text_over ps at (instr.Choose r extreme p q) = then_over (extreme_shown extreme) (register_shown r ++ (codes " " ++ (register_shown p ++ (codes " " ++ (register_shown q))))) (extreme_over extreme) (then_over (register_shown r) (register_shown p ++ (codes " " ++ (register_shown q))) (register_over r) (then_over (register_shown p) (register_shown q) (register_over p) (solid (register_shown q) (register_over q))))
text_over ps at (instr.Save r) = then_over (codes "SAVE") (register_shown r) (over_by 33 (codes "SAVE") refl) (solid (register_shown r) (register_over r))
text_over ps at (instr.Test choice relation p q) = then_over (codes "TEST") (choice_shown choice ++ (codes " " ++ (relation_shown relation ++ (codes " " ++ (register_shown p ++ (codes " " ++ (register_shown q))))))) (over_by 33 (codes "TEST") refl) (then_over (choice_shown choice) (relation_shown relation ++ (codes " " ++ (register_shown p ++ (codes " " ++ (register_shown q))))) (choice_over choice) (then_over (relation_shown relation) (register_shown p ++ (codes " " ++ (register_shown q))) (relation_over relation) (then_over (register_shown p) (register_shown q) (register_over p) (solid (register_shown q) (register_over q)))))
text_over ps at (instr.In choice r ms) = then_over (codes "IN") (choice_shown choice ++ (codes " " ++ (register_shown r ++ (codes " " ++ (members_shown ms))))) (over_by 33 (codes "IN") refl) (then_over (choice_shown choice) (register_shown r ++ (codes " " ++ (members_shown ms))) (choice_over choice) (then_over (register_shown r) (members_shown ms) (register_over r) (members_over ms)))
text_over ps at (instr.Match choice r n) = then_over (codes "MATCH") (choice_shown choice ++ (codes " " ++ (register_shown r ++ (codes " " ++ (string_shown (pattern_at ps n)))))) (over_by 33 (codes "MATCH") refl) (then_over (choice_shown choice) (register_shown r ++ (codes " " ++ (string_shown (pattern_at ps n)))) (choice_over choice) (then_over (register_shown r) (string_shown (pattern_at ps n)) (register_over r) (string_over (pattern_at ps n))))
text_over ps at (instr.NonZero r) = then_over (codes "NONZERO") (register_shown r) (over_by 33 (codes "NONZERO") refl) (solid (register_shown r) (register_over r))
text_over ps at instr.Not = solid (codes "NOT") (over_by 33 (codes "NOT") refl)
text_over ps at (instr.Differ r) = then_over (codes "XOR") (register_shown r) (over_by 33 (codes "XOR") refl) (solid (register_shown r) (register_over r))
text_over ps at (instr.JumpFalse n) = then_over (codes "JF") (decimal (at + 1 + n)) (over_by 33 (codes "JF") refl) (decimal_over 32 (at + 1 + n) (omega arith))
text_over ps at (instr.JumpTrue n) = then_over (codes "JT") (decimal (at + 1 + n)) (over_by 33 (codes "JT") refl) (decimal_over 32 (at + 1 + n) (omega arith))
text_over ps at instr.Return = solid (codes "RETURN") (over_by 33 (codes "RETURN") refl)

-- the word in front
first_word : List ℕ → List ℕ
first_word [] = []
first_word (b ∷ bytes) = if b == 32 then [] else b ∷ first_word bytes

number_in : List (List ℕ × ℕ) → List ℕ → ℕ
number_in [] word = 99
number_in (one ∷ more) word = if bytes_eq one.0 word then one.1 else number_in more word

heads : List (List ℕ × ℕ)
heads = (codes "READ", 0) ∷ (codes "CONST", 1) ∷ (codes "SLICE", 2) ∷ (codes "MASK", 3) ∷ (codes "CALL", 4) ∷ (codes "COUNT", 5) ∷ (codes "ADD", 6) ∷ (codes "SUB", 6) ∷ (codes "MUL", 6) ∷ (codes "MIN", 7) ∷ (codes "MAX", 7) ∷ (codes "SAVE", 8) ∷ (codes "TEST", 9) ∷ (codes "IN", 10) ∷ (codes "MATCH", 11) ∷ (codes "NONZERO", 12) ∷ (codes "NOT", 13) ∷ (codes "XOR", 14) ∷ (codes "JF", 15) ∷ (codes "JT", 16) ∷ (codes "RETURN", 17) ∷ []

abbrev tag : Instr → ℕ
tag (instr.Read r field layers) = 0
tag (instr.Const r c) = 1
tag (instr.Slice r q ranges) = 2
tag (instr.Mask r q mask) = 3
tag (instr.Call r function q) = 4
tag (instr.Count r field layers) = 5
tag (instr.Compute r operation p q) = 6
tag (instr.Choose r extreme p q) = 7
tag (instr.Save r) = 8
tag (instr.Test choice relation p q) = 9
tag (instr.In choice r ms) = 10
tag (instr.Match choice r n) = 11
tag (instr.NonZero r) = 12
tag instr.Not = 13
tag (instr.Differ r) = 14
tag (instr.JumpFalse n) = 15
tag (instr.JumpTrue n) = 16
tag instr.Return = 17

tagged : (ps : List (List ℕ)) (at : ℕ) (i : Instr) → number_in heads (first_word (instr_shown ps at i)) ≡ tag i
unfolding instr_shown first_word number_in heads
tagged ps at (instr.Read r field layers) = refl
tagged ps at (instr.Const r c) = refl
tagged ps at (instr.Slice r q ranges) = refl
tagged ps at (instr.Mask r q mask) = refl
tagged ps at (instr.Call r function q) = refl
tagged ps at (instr.Count r field layers) = refl
tagged ps at (instr.Compute r Sum p q) = refl
tagged ps at (instr.Compute r Difference p q) = refl
tagged ps at (instr.Compute r Product p q) = refl
tagged ps at (instr.Choose r Least p q) = refl
tagged ps at (instr.Choose r Greatest p q) = refl
tagged ps at (instr.Save r) = refl
tagged ps at (instr.Test choice relation p q) = refl
tagged ps at (instr.In choice r ms) = refl
tagged ps at (instr.Match choice r n) = refl
tagged ps at (instr.NonZero r) = refl
tagged ps at instr.Not = refl
tagged ps at (instr.Differ r) = refl
tagged ps at (instr.JumpFalse n) = refl
tagged ps at (instr.JumpTrue n) = refl
tagged ps at instr.Return = refl

same_tag : (ps qs : List (List ℕ)) (at : ℕ) (i j : Instr) → instr_shown ps at i ≡ instr_shown qs at j → tag i ≡ tag j
same_tag ps qs at i j same = sym (tagged ps at i) ∙ ap (λ (t : List ℕ). number_in heads (first_word t)) same ∙ tagged qs at j

same_register : (r s : ℕ) → r < 2 ^ 64 → s < 2 ^ 64 → register_shown r ≡ register_shown s → r ≡ s
same_register r s one two same = let rest : decimal r ≡ decimal s = cc in decimal_injective r s one two rest

-- numbers that fit 64 bits
abbrev Small : ℕ → Instr → Type 0
Small at (instr.Read r field layers) = (r < 2 ^ 64)
Small at (instr.Const r c) = (r < 2 ^ 64)
Small at (instr.Slice r q ranges) = (r < 2 ^ 64) × (q < 2 ^ 64)
Small at (instr.Mask r q mask) = (r < 2 ^ 64) × (q < 2 ^ 64) × (mask < 2 ^ 64)
Small at (instr.Call r function q) = (r < 2 ^ 64) × (q < 2 ^ 64)
Small at (instr.Count r field layers) = (r < 2 ^ 64)
Small at (instr.Compute r operation p q) = (r < 2 ^ 64) × (p < 2 ^ 64) × (q < 2 ^ 64)
Small at (instr.Choose r extreme p q) = (r < 2 ^ 64) × (p < 2 ^ 64) × (q < 2 ^ 64)
Small at (instr.Save r) = (r < 2 ^ 64)
Small at (instr.Test choice relation p q) = (p < 2 ^ 64) × (q < 2 ^ 64)
Small at (instr.In choice r ms) = (r < 2 ^ 64)
Small at (instr.Match choice r n) = (r < 2 ^ 64)
Small at (instr.NonZero r) = (r < 2 ^ 64)
Small at instr.Not = Unit {0}
Small at (instr.Differ r) = (r < 2 ^ 64)
Small at (instr.JumpFalse n) = (at + 1 + n < 2 ^ 64)
Small at (instr.JumpTrue n) = (at + 1 + n < 2 ^ 64)
Small at instr.Return = Unit {0}

small_in : (count size at : ℕ) (i : Instr) → count ≤ 2 ^ 64 → size < 2 ^ 32 → Fits count size at i → IsMaskShort i → Small at i
small_in count size at (instr.Read r field layers) few short fits mask_ = omega (arith, few, fits.0)
small_in count size at (instr.Const r c) few short fits mask_ = omega (arith, few, fits.0)
small_in count size at (instr.Slice r q ranges) few short fits mask_ = (omega (arith, few, fits.0), omega (arith, few, fits.1))
small_in count size at (instr.Mask r q mask) few short fits mask_ = (omega (arith, few, fits.0), omega (arith, few, fits.1), mask_)
small_in count size at (instr.Call r function q) few short fits mask_ = (omega (arith, few, fits.0), omega (arith, few, fits.1))
small_in count size at (instr.Count r field layers) few short fits mask_ = omega (arith, few, fits.0)
small_in count size at (instr.Compute r operation p q) few short fits mask_ = (omega (arith, few, fits.0), omega (arith, few, fits.1), omega (arith, few, fits.2))
small_in count size at (instr.Choose r extreme p q) few short fits mask_ = (omega (arith, few, fits.0), omega (arith, few, fits.1), omega (arith, few, fits.2))
small_in count size at (instr.Save r) few short fits mask_ = omega (arith, few, fits.0)
small_in count size at (instr.Test choice relation p q) few short fits mask_ = (omega (arith, few, fits.0), omega (arith, few, fits.1))
small_in count size at (instr.In choice r ms) few short fits mask_ = omega (arith, few, fits.0)
small_in count size at (instr.Match choice r n) few short fits mask_ = omega (arith, few, fits.0)
small_in count size at (instr.NonZero r) few short fits mask_ = omega (arith, few, fits.0)
small_in count size at instr.Not few short fits mask_ = tt
small_in count size at (instr.Differ r) few short fits mask_ = omega (arith, few, fits.0)
small_in count size at (instr.JumpFalse n) few short fits mask_ = omega (arith, short, fits)
small_in count size at (instr.JumpTrue n) few short fits mask_ = omega (arith, short, fits)
small_in count size at instr.Return few short fits mask_ = tt

alike : (ps qs : List (List ℕ)) (at : ℕ) (i j : Instr) → Small at i → Small at j → instr_shown ps at i ≡ instr_shown qs at j → tag i ≡ tag j → AreAlike ps qs i j
unfolding instr_shown
alike ps qs at (instr.Read r field layers) (instr.Read r' field' layers') one two same tags =
    let w0 = words (codes "READ") (codes "READ") (register_shown r ++ (codes " " ++ (field_shown field layers))) (register_shown r' ++ (codes " " ++ (field_shown field' layers'))) (over_by 33 (codes "READ") refl) (over_by 33 (codes "READ") refl) same in
    let w1 = words (register_shown r) (register_shown r') (field_shown field layers) (field_shown field' layers') (register_over r) (register_over r') w0.1 in
    (same_register r r' one two w1.0, w1.1)
alike ps qs at (instr.Read r field layers) j one two same tags = let none : ⊥ = omega (arith, tags) in absurd none
alike ps qs at (instr.Const r c) (instr.Const r' c') one two same tags =
    let w0 = words (codes "CONST") (codes "CONST") (register_shown r ++ (codes " " ++ (constant_shown c))) (register_shown r' ++ (codes " " ++ (constant_shown c'))) (over_by 33 (codes "CONST") refl) (over_by 33 (codes "CONST") refl) same in
    let w1 = words (register_shown r) (register_shown r') (constant_shown c) (constant_shown c') (register_over r) (register_over r') w0.1 in
    (same_register r r' one two w1.0, w1.1)
alike ps qs at (instr.Const r c) j one two same tags = let none : ⊥ = omega (arith, tags) in absurd none
alike ps qs at (instr.Slice r q ranges) (instr.Slice r' q' ranges') one two same tags =
    let w0 = words (codes "SLICE") (codes "SLICE") (register_shown r ++ (codes " " ++ (register_shown q ++ (codes " " ++ (ranges_shown ranges))))) (register_shown r' ++ (codes " " ++ (register_shown q' ++ (codes " " ++ (ranges_shown ranges'))))) (over_by 33 (codes "SLICE") refl) (over_by 33 (codes "SLICE") refl) same in
    let w1 = words (register_shown r) (register_shown r') (register_shown q ++ (codes " " ++ (ranges_shown ranges))) (register_shown q' ++ (codes " " ++ (ranges_shown ranges'))) (register_over r) (register_over r') w0.1 in
    let w2 = words (register_shown q) (register_shown q') (ranges_shown ranges) (ranges_shown ranges') (register_over q) (register_over q') w1.1 in
    (same_register r r' one.0 two.0 w1.0, same_register q q' one.1 two.1 w2.0, w2.1)
alike ps qs at (instr.Slice r q ranges) j one two same tags = let none : ⊥ = omega (arith, tags) in absurd none
alike ps qs at (instr.Mask r q mask) (instr.Mask r' q' mask') one two same tags =
    let w0 = words (codes "MASK") (codes "MASK") (register_shown r ++ (codes " " ++ (register_shown q ++ (codes " " ++ (decimal mask))))) (register_shown r' ++ (codes " " ++ (register_shown q' ++ (codes " " ++ (decimal mask'))))) (over_by 33 (codes "MASK") refl) (over_by 33 (codes "MASK") refl) same in
    let w1 = words (register_shown r) (register_shown r') (register_shown q ++ (codes " " ++ (decimal mask))) (register_shown q' ++ (codes " " ++ (decimal mask'))) (register_over r) (register_over r') w0.1 in
    let w2 = words (register_shown q) (register_shown q') (decimal mask) (decimal mask') (register_over q) (register_over q') w1.1 in
    (same_register r r' one.0 two.0 w1.0, same_register q q' one.1 two.1 w2.0, decimal_injective mask mask' one.2 two.2 w2.1)
alike ps qs at (instr.Mask r q mask) j one two same tags = let none : ⊥ = omega (arith, tags) in absurd none
alike ps qs at (instr.Call r function q) (instr.Call r' function' q') one two same tags =
    let w0 = words (codes "CALL") (codes "CALL") (register_shown r ++ (codes " " ++ (function_shown function ++ (codes " " ++ (register_shown q))))) (register_shown r' ++ (codes " " ++ (function_shown function' ++ (codes " " ++ (register_shown q'))))) (over_by 33 (codes "CALL") refl) (over_by 33 (codes "CALL") refl) same in
    let w1 = words (register_shown r) (register_shown r') (function_shown function ++ (codes " " ++ (register_shown q))) (function_shown function' ++ (codes " " ++ (register_shown q'))) (register_over r) (register_over r') w0.1 in
    let w2 = words (function_shown function) (function_shown function') (register_shown q) (register_shown q') (function_over function) (function_over function') w1.1 in
    (same_register r r' one.0 two.0 w1.0, same_function function function' w2.0, same_register q q' one.1 two.1 w2.1)
alike ps qs at (instr.Call r function q) j one two same tags = let none : ⊥ = omega (arith, tags) in absurd none
alike ps qs at (instr.Count r field layers) (instr.Count r' field' layers') one two same tags =
    let w0 = words (codes "COUNT") (codes "COUNT") (register_shown r ++ (codes " " ++ (field_shown field layers))) (register_shown r' ++ (codes " " ++ (field_shown field' layers'))) (over_by 33 (codes "COUNT") refl) (over_by 33 (codes "COUNT") refl) same in
    let w1 = words (register_shown r) (register_shown r') (field_shown field layers) (field_shown field' layers') (register_over r) (register_over r') w0.1 in
    (same_register r r' one two w1.0, w1.1)
alike ps qs at (instr.Count r field layers) j one two same tags = let none : ⊥ = omega (arith, tags) in absurd none
alike ps qs at (instr.Compute r operation p q) (instr.Compute r' operation' p' q') one two same tags =
    let w0 = words (operation_shown operation) (operation_shown operation') (register_shown r ++ (codes " " ++ (register_shown p ++ (codes " " ++ (register_shown q))))) (register_shown r' ++ (codes " " ++ (register_shown p' ++ (codes " " ++ (register_shown q'))))) (operation_over operation) (operation_over operation') same in
    let w1 = words (register_shown r) (register_shown r') (register_shown p ++ (codes " " ++ (register_shown q))) (register_shown p' ++ (codes " " ++ (register_shown q'))) (register_over r) (register_over r') w0.1 in
    let w2 = words (register_shown p) (register_shown p') (register_shown q) (register_shown q') (register_over p) (register_over p') w1.1 in
    (same_operation operation operation' w0.0, same_register r r' one.0 two.0 w1.0, same_register p p' one.1 two.1 w2.0, same_register q q' one.2 two.2 w2.1)
alike ps qs at (instr.Compute r operation p q) j one two same tags = let none : ⊥ = omega (arith, tags) in absurd none
alike ps qs at (instr.Choose r extreme p q) (instr.Choose r' extreme' p' q') one two same tags =
    let w0 = words (extreme_shown extreme) (extreme_shown extreme') (register_shown r ++ (codes " " ++ (register_shown p ++ (codes " " ++ (register_shown q))))) (register_shown r' ++ (codes " " ++ (register_shown p' ++ (codes " " ++ (register_shown q'))))) (extreme_over extreme) (extreme_over extreme') same in
    let w1 = words (register_shown r) (register_shown r') (register_shown p ++ (codes " " ++ (register_shown q))) (register_shown p' ++ (codes " " ++ (register_shown q'))) (register_over r) (register_over r') w0.1 in
    let w2 = words (register_shown p) (register_shown p') (register_shown q) (register_shown q') (register_over p) (register_over p') w1.1 in
    (same_extreme extreme extreme' w0.0, same_register r r' one.0 two.0 w1.0, same_register p p' one.1 two.1 w2.0, same_register q q' one.2 two.2 w2.1)
alike ps qs at (instr.Choose r extreme p q) j one two same tags = let none : ⊥ = omega (arith, tags) in absurd none
alike ps qs at (instr.Save r) (instr.Save r') one two same tags =
    let w0 = words (codes "SAVE") (codes "SAVE") (register_shown r) (register_shown r') (over_by 33 (codes "SAVE") refl) (over_by 33 (codes "SAVE") refl) same in
    same_register r r' one two w0.1
alike ps qs at (instr.Save r) j one two same tags = let none : ⊥ = omega (arith, tags) in absurd none
alike ps qs at (instr.Test choice relation p q) (instr.Test choice' relation' p' q') one two same tags =
    let w0 = words (codes "TEST") (codes "TEST") (choice_shown choice ++ (codes " " ++ (relation_shown relation ++ (codes " " ++ (register_shown p ++ (codes " " ++ (register_shown q))))))) (choice_shown choice' ++ (codes " " ++ (relation_shown relation' ++ (codes " " ++ (register_shown p' ++ (codes " " ++ (register_shown q'))))))) (over_by 33 (codes "TEST") refl) (over_by 33 (codes "TEST") refl) same in
    let w1 = words (choice_shown choice) (choice_shown choice') (relation_shown relation ++ (codes " " ++ (register_shown p ++ (codes " " ++ (register_shown q))))) (relation_shown relation' ++ (codes " " ++ (register_shown p' ++ (codes " " ++ (register_shown q'))))) (choice_over choice) (choice_over choice') w0.1 in
    let w2 = words (relation_shown relation) (relation_shown relation') (register_shown p ++ (codes " " ++ (register_shown q))) (register_shown p' ++ (codes " " ++ (register_shown q'))) (relation_over relation) (relation_over relation') w1.1 in
    let w3 = words (register_shown p) (register_shown p') (register_shown q) (register_shown q') (register_over p) (register_over p') w2.1 in
    (same_choice choice choice' w1.0, same_relation relation relation' w2.0, same_register p p' one.0 two.0 w3.0, same_register q q' one.1 two.1 w3.1)
alike ps qs at (instr.Test choice relation p q) j one two same tags = let none : ⊥ = omega (arith, tags) in absurd none
alike ps qs at (instr.In choice r ms) (instr.In choice' r' ms') one two same tags =
    let w0 = words (codes "IN") (codes "IN") (choice_shown choice ++ (codes " " ++ (register_shown r ++ (codes " " ++ (members_shown ms))))) (choice_shown choice' ++ (codes " " ++ (register_shown r' ++ (codes " " ++ (members_shown ms'))))) (over_by 33 (codes "IN") refl) (over_by 33 (codes "IN") refl) same in
    let w1 = words (choice_shown choice) (choice_shown choice') (register_shown r ++ (codes " " ++ (members_shown ms))) (register_shown r' ++ (codes " " ++ (members_shown ms'))) (choice_over choice) (choice_over choice') w0.1 in
    let w2 = words (register_shown r) (register_shown r') (members_shown ms) (members_shown ms') (register_over r) (register_over r') w1.1 in
    (same_choice choice choice' w1.0, same_register r r' one two w2.0, w2.1)
alike ps qs at (instr.In choice r ms) j one two same tags = let none : ⊥ = omega (arith, tags) in absurd none
alike ps qs at (instr.Match choice r n) (instr.Match choice' r' n') one two same tags =
    let w0 = words (codes "MATCH") (codes "MATCH") (choice_shown choice ++ (codes " " ++ (register_shown r ++ (codes " " ++ (string_shown (pattern_at ps n)))))) (choice_shown choice' ++ (codes " " ++ (register_shown r' ++ (codes " " ++ (string_shown (pattern_at qs n')))))) (over_by 33 (codes "MATCH") refl) (over_by 33 (codes "MATCH") refl) same in
    let w1 = words (choice_shown choice) (choice_shown choice') (register_shown r ++ (codes " " ++ (string_shown (pattern_at ps n)))) (register_shown r' ++ (codes " " ++ (string_shown (pattern_at qs n')))) (choice_over choice) (choice_over choice') w0.1 in
    let w2 = words (register_shown r) (register_shown r') (string_shown (pattern_at ps n)) (string_shown (pattern_at qs n')) (register_over r) (register_over r') w1.1 in
    (same_choice choice choice' w1.0, same_register r r' one two w2.0, w2.1)
alike ps qs at (instr.Match choice r n) j one two same tags = let none : ⊥ = omega (arith, tags) in absurd none
alike ps qs at (instr.NonZero r) (instr.NonZero r') one two same tags =
    let w0 = words (codes "NONZERO") (codes "NONZERO") (register_shown r) (register_shown r') (over_by 33 (codes "NONZERO") refl) (over_by 33 (codes "NONZERO") refl) same in
    same_register r r' one two w0.1
alike ps qs at (instr.NonZero r) j one two same tags = let none : ⊥ = omega (arith, tags) in absurd none
alike ps qs at instr.Not instr.Not one two same tags =
    tt
alike ps qs at instr.Not j one two same tags = let none : ⊥ = omega (arith, tags) in absurd none
alike ps qs at (instr.Differ r) (instr.Differ r') one two same tags =
    let w0 = words (codes "XOR") (codes "XOR") (register_shown r) (register_shown r') (over_by 33 (codes "XOR") refl) (over_by 33 (codes "XOR") refl) same in
    same_register r r' one two w0.1
alike ps qs at (instr.Differ r) j one two same tags = let none : ⊥ = omega (arith, tags) in absurd none
alike ps qs at (instr.JumpFalse n) (instr.JumpFalse n') one two same tags =
    let w0 = words (codes "JF") (codes "JF") (decimal (at + 1 + n)) (decimal (at + 1 + n')) (over_by 33 (codes "JF") refl) (over_by 33 (codes "JF") refl) same in
    let place = decimal_injective (at + 1 + n) (at + 1 + n') one two w0.1 in
    omega (arith, place)
alike ps qs at (instr.JumpFalse n) j one two same tags = let none : ⊥ = omega (arith, tags) in absurd none
alike ps qs at (instr.JumpTrue n) (instr.JumpTrue n') one two same tags =
    let w0 = words (codes "JT") (codes "JT") (decimal (at + 1 + n)) (decimal (at + 1 + n')) (over_by 33 (codes "JT") refl) (over_by 33 (codes "JT") refl) same in
    let place = decimal_injective (at + 1 + n) (at + 1 + n') one two w0.1 in
    omega (arith, place)
alike ps qs at (instr.JumpTrue n) j one two same tags = let none : ⊥ = omega (arith, tags) in absurd none
alike ps qs at instr.Return instr.Return one two same tags =
    tt
alike ps qs at instr.Return j one two same tags = let none : ⊥ = omega (arith, tags) in absurd none

-- line by line
not_empty : (x z : List ℕ) → [] ≡ (x ++ codes "\n") ++ z → ⊥
not_empty [] z same = cc
not_empty (b ∷ x) z same = cc

lines_alike : (ps qs : List (List ℕ)) (at : ℕ) (is js : List Instr) → ((n : ℕ) (i : Instr) → slice_get is n ≡ Some i → Small (at + n) i) → ((n : ℕ) (j : Instr) → slice_get js n ≡ Some j → Small (at + n) j) →
    lines_from ps at is ≡ lines_from qs at js → AllAlike ps qs is js
lines_alike ps qs at [] [] one two same = tt
lines_alike ps qs at [] (j ∷ js) one two same = absurd (not_empty (spaced (decimal at ∷ instr_shown qs at j ∷ [])) (lines_from qs (at + 1) js) same)
lines_alike ps qs at (i ∷ is) [] one two same = absurd (not_empty (spaced (decimal at ∷ instr_shown ps at i ∷ [])) (lines_from ps (at + 1) is) (sym same))
lines_alike ps qs at (i ∷ is) (j ∷ js) one two same =
    let x = spaced (decimal at ∷ instr_shown ps at i ∷ []) in
    let y = spaced (decimal at ∷ instr_shown qs at j ∷ []) in
    let over = decimal_over 33 at (omega arith) in
    let lines : x ++ (10 ∷ lines_from ps (at + 1) is) ≡ y ++ (10 ∷ lines_from qs (at + 1) js) = sym (append_assoc x (codes "\n") (lines_from ps (at + 1) is)) ∙ same ∙ append_assoc y (codes "\n") (lines_from qs (at + 1) js) in
    let cut = split_at 10 32 x y (lines_from ps (at + 1) is) (lines_from qs (at + 1) js) (omega arith)
    (then_over (decimal at) (instr_shown ps at i) over (text_over ps at i)) (then_over (decimal at) (instr_shown qs at j) over (text_over qs at j)) lines in
    let shown = words (decimal at) (decimal at) (instr_shown ps at i) (instr_shown qs at j) over over cut.0 in
    let here : at + 0 ≡ at = omega arith in
    let small_i = subst (λ n. Small n i) here (one 0 i refl) in
    let small_j = subst (λ n. Small n j) here (two 0 j refl) in (
      alike ps qs at i j small_i small_j shown.1 (same_tag ps qs at i j shown.1),
      lines_alike ps qs (at + 1) is js (λ n k there. subst (λ m. Small m k) (behind at n) (one (suc n) k there)) (λ n k there. subst (λ m. Small m k) (behind at n) (two (suc n) k there)) cut.1,
    )
  where
    behind : (at n : ℕ) → at + suc n ≡ at + 1 + n
    behind at n = omega arith

all_small : (code : Code) → IsProgram code → IsShort code → (n : ℕ) (i : Instr) → slice_get code.items n ≡ Some i → Small (0 + n) i
all_small code is short n i there =
    let zero_more : n ≡ 0 + n = omega arith in
    subst (λ m. Small m i) zero_more (small_in code.registers (length code.items) n i short.registers is.few (is.fits n i there) (short.masks n i there))

pub listings_tell : ListingsTell
unfolding listing_of
listings_tell code other filter by is other_is short other_short same =
    lines_alike (patterns_of filter) (patterns_of by) 0 code.items other.items (all_small code is short) (all_small other other_is other_short) same
