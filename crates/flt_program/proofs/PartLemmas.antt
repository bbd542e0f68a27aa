-- Parts that are written alike are the same.
use Rattle.std.proofs.Common.{◌≡◌, ◌<◌, ⊎_elim, ℕ, zero, suc, ◌+◌, ◌/◌, ◌%◌, ◌==◌, ◌&&◌, Bool as Truth, true, false, nat_le, nat_lt, if◌then◌else◌, List, [], ◌∷◌, ◌++◌, append_assoc, codes, Option, Some, ap, sym, refl, ◌∙◌, arith, get_or, drop}
use Rattle.std.proofs.lemmas.Bool.{and_parts, ltb-false, ltb-true}
use Rattle.std.proofs.lemmas.Bool.Decides.{eqb_tells}
use Rattle.std.proofs.lemmas.Fmt.{decimal_injective}
use Rattle.std.proofs.lemmas.List.{append_cancel_right}
use Rattle.std.specs.Fmt.{digit_glyph}
use Rattle.std.specs.List.{flat_map, join_by, list_all, slice_index_or}
use Rattle.flt_program.proofs.ToldLemmas.{Over, over_by, split_at}
use Rattle.flt_program.specs.Literals.{bytes_shown, layer_range_shown, layers_shown, prefix_shown, quoted_byte, string_shown, value_shown}
use Rattle.flt_program.specs.Parts.{AreBytes, FieldsAreTold, IsByte, IsOfKind, LiteralsAreTold, StringsAreTold}
use Rattle.flt_typed.specs.Kinds.{kind_of_value}
use Rattle.pk_base.specs.declared.chosen.Layers.{Layers}
use Rattle.pk_base.specs.declared.chosen.Layers.TheVariants.{All, These}
use Rattle.pk_base.specs.declared.value.Value.{Value}
use Rattle.pk_base.specs.declared.value.Value.TheVariants as values
use Rattle.pk_fields.proofs.Names.{name_place}
use Rattle.pk_fields.specs.Fields.{field_named, row_of}
use Rattle.pk_fields.specs.Rows.{FieldRow, whole}
use Rattle.pk_fields.specs.Table.{rows}
use Rattle.pk_fields.specs.declared.value_kind.ValueKind.TheVariants.{Proto}
use Rattle.pk_text.proofs.EtherLemmas.{ether_from_shown}
use Rattle.pk_text.proofs.Ip4Lemmas.{ip4_from_shown}
use Rattle.pk_text.proofs.Ip6ShownLemmas.{ip6_from_shown}
use Rattle.pk_text.proofs.TimeLemmas.{time_from_shown}
use Rattle.pk_text.specs.Digits.{hex_pair, hex_shown}
use Rattle.pk_text.specs.Ether.{ether_of, ether_shown}
use Rattle.pk_text.specs.Ip4.{ip4_of, ip4_shown}
use Rattle.pk_text.specs.Ip6.{ip6_of, ip6_shown}
use Rattle.pk_text.specs.Time.{time_of, time_shown}

-- fields' names have no `#`, 35
is_plain : FieldRow → Truth
is_plain row = list_all (nat_le 36) row.name

plain_names : list_all is_plain rows ≡ true
unfolding rows is_plain
plain_names = refl

plain_row : (table : List FieldRow) (f : ℕ) (d : FieldRow) → list_all is_plain table ≡ true → is_plain d ≡ true → is_plain (slice_index_or table f d) ≡ true
plain_row [] f d all other = other
plain_row (row ∷ table) zero d all other = (and_parts (is_plain row) (list_all is_plain table) all).0
plain_row (row ∷ table) (suc f) d all other = plain_row table f d (and_parts (is_plain row) (list_all is_plain table) all).1 other

no_name : is_plain (whole [] Proto 0) ≡ true
unfolding is_plain
no_name = refl

plain_name : (f : ℕ) → Over 36 (row_of f).name
unfolding row_of is_plain
plain_name f = over_by 36 (row_of f).name (plain_row rows f (whole [] Proto 0) plain_names no_name)

-- what stands behind a name, with a `#` behind it
abbrev behind_hash : Layers → List ℕ
behind_hash All = []
behind_hash (These ranges) = 91 ∷ ((join_by layer_range_shown (codes ",") ranges ++ codes "]") ++ 35 ∷ [])

hash_first : (layers : Layers) → layers_shown layers ++ 35 ∷ [] ≡ 35 ∷ behind_hash layers
hash_first All = refl
hash_first (These ranges) = refl

pub fields_told : FieldsAreTold
fields_told f g layers others is_f is_g same =
    let whole_ : (row_of f).name ++ (35 ∷ behind_hash layers) ≡ (row_of g).name ++ (35 ∷ behind_hash others) =
    ap (λ (t : List ℕ). (row_of f).name ++ t) (sym (hash_first layers)) ∙ sym (append_assoc (row_of f).name (layers_shown layers) (35 ∷ []))
    ∙ ap (λ (t : List ℕ). t ++ 35 ∷ []) same
    ∙ append_assoc (row_of g).name (layers_shown others) (35 ∷ []) ∙ ap (λ (t : List ℕ). (row_of g).name ++ t) (hash_first others) in
    let cut = split_at 35 36 (row_of f).name (row_of g).name (behind_hash layers) (behind_hash others) (omega arith) (plain_name f) (plain_name g) whole_ in
    let both : Some f ≡ Some g = sym (name_place f is_f) ∙ ap field_named cut.0 ∙ name_place g is_g in
    let field : f ≡ g = cc in
    (field, append_cancel_right (layers_shown layers) (layers_shown others) (35 ∷ []) (hash_first layers ∙ ap (λ (t : List ℕ). 35 ∷ t) cut.1 ∙ sym (hash_first others)))

-- hexadecimal digits
glyph_by : (a b : ℕ) (x y : Truth) → nat_lt a 10 ≡ x → nat_lt b 10 ≡ y → a < 16 → b < 16 → (if x then 48 + a else 87 + a) ≡ (if y then 48 + b else 87 + b) → a ≡ b
glyph_by a b true true one two less few same = omega (arith, same)
glyph_by a b true false one two less few same = let small = ltb-true a 10 one in let big = ltb-false b 10 two in omega (arith, same, small, big)
glyph_by a b false true one two less few same = let big = ltb-false a 10 one in let small = ltb-true b 10 two in omega (arith, same, small, big)
glyph_by a b false false one two less few same = omega (arith, same)

same_glyph : (a b : ℕ) → a < 16 → b < 16 → digit_glyph false a ≡ digit_glyph false b → a ≡ b
same_glyph a b less few same = glyph_by a b (nat_lt a 10) (nat_lt b 10) refl refl less few same

same_byte : (x y : ℕ) → IsByte x → IsByte y → digit_glyph false (x / 16) ≡ digit_glyph false (y / 16) → digit_glyph false (x % 16) ≡ digit_glyph false (y % 16) → x ≡ y
same_byte x y is_x is_y high low =
    let h = same_glyph (x / 16) (y / 16) (omega (arith, is_x)) (omega (arith, is_y)) high in
    let l = same_glyph (x % 16) (y % 16) (omega arith) (omega arith) low in
    omega (arith, h, l)

same_hex : (xs ys : List ℕ) → AreBytes xs → AreBytes ys → flat_map hex_pair xs ≡ flat_map hex_pair ys → xs ≡ ys
same_hex [] [] one two same = refl
same_hex [] (y ∷ ys) one two same = cc
same_hex (x ∷ xs) [] one two same = cc
same_hex (x ∷ xs) (y ∷ ys) one two same =
    let high : digit_glyph false (x / 16) ≡ digit_glyph false (y / 16) = ap (λ (t : List ℕ). get_or t 0 0) same in
    let low : digit_glyph false (x % 16) ≡ digit_glyph false (y % 16) = ap (λ (t : List ℕ). get_or t 1 0) same in
    let rest : flat_map hex_pair xs ≡ flat_map hex_pair ys = ap (λ (t : List ℕ). drop 2 t) same in
    ap (λ b. b ∷ xs) (same_byte x y one.0 two.0 high low) ∙ ap (λ (t : List ℕ). y ∷ t) (same_hex xs ys one.1 two.1 rest)

pub differs : (a b : ℕ) → (a == b) ≡ false → a ≡ b → ⊥
differs a b is same = ⊎_elim (λ tells. let no : true ≡ false = sym tells.0 ∙ is in cc) (λ tells. tells.1 same) (eqb_tells a b)

equals : (a b : ℕ) → (a == b) ≡ true → a ≡ b
equals a b is = ⊎_elim (λ tells. tells.1) (λ tells. let no : false ≡ true = sym tells.0 ∙ is in cc) (eqb_tells a b)

-- lists that differ at a byte, or at the next one
unlike : (x y : ℕ) {a b : List ℕ} → (x == y) ≡ false → x ∷ a ≡ y ∷ b → ⊥
unlike x y other same = differs x y other (ap (λ (t : List ℕ). get_or t 0 0) same)

apart : (x y : ℕ) {z : ℕ} {a b : List ℕ} → (x == y) ≡ false → z ∷ x ∷ a ≡ z ∷ y ∷ b → ⊥
apart x y other same = differs x y other (ap (λ (t : List ℕ). get_or t 1 0) same)

-- how a byte stands in a string
data Quoted (b : ℕ) : Type 0 where
  AsMark : b ≡ 34 → quoted_byte b ≡ 92 ∷ 34 ∷ [] → Quoted b
  AsSlash : b ≡ 92 → quoted_byte b ≡ 92 ∷ 92 ∷ [] → Quoted b
  AsItself : (b ≡ 34 → ⊥) → (b ≡ 92 → ⊥) → quoted_byte b ≡ b ∷ [] → Quoted b
  AsDigits : quoted_byte b ≡ 92 ∷ 120 ∷ hex_pair b → Quoted b

abbrev by_tests : ℕ → Truth → Truth → Truth → List ℕ
by_tests b mark slash plain = if mark then 92 ∷ 34 ∷ [] else (if slash then 92 ∷ 92 ∷ [] else (if plain then b ∷ [] else 92 ∷ 120 ∷ hex_pair b))

quoted_by : (b : ℕ) (mark slash plain : Truth) → (mark ≡ true → b ≡ 34) → (mark ≡ false → b ≡ 34 → ⊥) → (slash ≡ true → b ≡ 92) → (slash ≡ false → b ≡ 92 → ⊥) → quoted_byte b ≡ by_tests b mark slash plain → Quoted b
quoted_by b true slash plain is not is_slash not_slash shown = AsMark (is refl) shown
quoted_by b false true plain is not is_slash not_slash shown = AsSlash (is_slash refl) shown
quoted_by b false false true is not is_slash not_slash shown = AsItself (not refl) (not_slash refl) shown
quoted_by b false false false is not is_slash not_slash shown = AsDigits shown

quoted_as : (b : ℕ) → Quoted b
quoted_as b = quoted_by b (b == 34) (b == 92) (nat_le 0x20 b && nat_le b 0x7E) (equals b 34) (differs b 34) (equals b 92) (differs b 92) refl

-- two bytes in front of others
abbrev Heads : ℕ → ℕ → List ℕ → List ℕ → Type 0
Heads x y a b = (x ≡ y) × (a ≡ b)

heads_by : (x y : ℕ) (a b : List ℕ) → Quoted x → Quoted y → IsByte x → IsByte y → quoted_byte x ++ a ≡ quoted_byte y ++ b → Heads x y a b
heads_by x y a b (AsMark is there) (AsMark on here) bx by_ same = let w : 92 ∷ 34 ∷ a ≡ 92 ∷ 34 ∷ b = ap (λ (t : List ℕ). t ++ a) (sym there) ∙ same ∙ ap (λ (t : List ℕ). t ++ b) here in (is ∙ sym on, cc)
heads_by x y a b (AsMark is there) (AsSlash on here) bx by_ same = let w : 92 ∷ 34 ∷ a ≡ 92 ∷ 92 ∷ b = ap (λ (t : List ℕ). t ++ a) (sym there) ∙ same ∙ ap (λ (t : List ℕ). t ++ b) here in absurd (apart 34 92 refl w)
heads_by x y a b (AsMark is there) (AsItself on off here) bx by_ same = let w : 92 ∷ 34 ∷ a ≡ y ∷ b = ap (λ (t : List ℕ). t ++ a) (sym there) ∙ same ∙ ap (λ (t : List ℕ). t ++ b) here in absurd (off (sym (ap (λ (t : List ℕ). get_or t 0 0) w)))
heads_by x y a b (AsMark is there) (AsDigits here) bx by_ same = let w : 92 ∷ 34 ∷ a ≡ 92 ∷ 120 ∷ (hex_pair y ++ b) = ap (λ (t : List ℕ). t ++ a) (sym there) ∙ same ∙ ap (λ (t : List ℕ). t ++ b) here in absurd (apart 34 120 refl w)
heads_by x y a b (AsSlash is there) (AsMark on here) bx by_ same = let w : 92 ∷ 92 ∷ a ≡ 92 ∷ 34 ∷ b = ap (λ (t : List ℕ). t ++ a) (sym there) ∙ same ∙ ap (λ (t : List ℕ). t ++ b) here in absurd (apart 92 34 refl w)
heads_by x y a b (AsSlash is there) (AsSlash on here) bx by_ same = let w : 92 ∷ 92 ∷ a ≡ 92 ∷ 92 ∷ b = ap (λ (t : List ℕ). t ++ a) (sym there) ∙ same ∙ ap (λ (t : List ℕ). t ++ b) here in (is ∙ sym on, cc)
heads_by x y a b (AsSlash is there) (AsItself on off here) bx by_ same = let w : 92 ∷ 92 ∷ a ≡ y ∷ b = ap (λ (t : List ℕ). t ++ a) (sym there) ∙ same ∙ ap (λ (t : List ℕ). t ++ b) here in absurd (off (sym (ap (λ (t : List ℕ). get_or t 0 0) w)))
heads_by x y a b (AsSlash is there) (AsDigits here) bx by_ same = let w : 92 ∷ 92 ∷ a ≡ 92 ∷ 120 ∷ (hex_pair y ++ b) = ap (λ (t : List ℕ). t ++ a) (sym there) ∙ same ∙ ap (λ (t : List ℕ). t ++ b) here in absurd (apart 92 120 refl w)
heads_by x y a b (AsItself never non there) (AsMark on here) bx by_ same = let w : x ∷ a ≡ 92 ∷ 34 ∷ b = ap (λ (t : List ℕ). t ++ a) (sym there) ∙ same ∙ ap (λ (t : List ℕ). t ++ b) here in absurd (non (ap (λ (t : List ℕ). get_or t 0 0) w))
heads_by x y a b (AsItself never non there) (AsSlash on here) bx by_ same = let w : x ∷ a ≡ 92 ∷ 92 ∷ b = ap (λ (t : List ℕ). t ++ a) (sym there) ∙ same ∙ ap (λ (t : List ℕ). t ++ b) here in absurd (non (ap (λ (t : List ℕ). get_or t 0 0) w))
heads_by x y a b (AsItself never non there) (AsItself on off here) bx by_ same = let w : x ∷ a ≡ y ∷ b = ap (λ (t : List ℕ). t ++ a) (sym there) ∙ same ∙ ap (λ (t : List ℕ). t ++ b) here in (cc, cc)
heads_by x y a b (AsItself never non there) (AsDigits here) bx by_ same = let w : x ∷ a ≡ 92 ∷ 120 ∷ (hex_pair y ++ b) = ap (λ (t : List ℕ). t ++ a) (sym there) ∙ same ∙ ap (λ (t : List ℕ). t ++ b) here in absurd (non (ap (λ (t : List ℕ). get_or t 0 0) w))
heads_by x y a b (AsDigits there) (AsMark on here) bx by_ same = let w : 92 ∷ 120 ∷ (hex_pair x ++ a) ≡ 92 ∷ 34 ∷ b = ap (λ (t : List ℕ). t ++ a) (sym there) ∙ same ∙ ap (λ (t : List ℕ). t ++ b) here in absurd (apart 120 34 refl w)
heads_by x y a b (AsDigits there) (AsSlash on here) bx by_ same = let w : 92 ∷ 120 ∷ (hex_pair x ++ a) ≡ 92 ∷ 92 ∷ b = ap (λ (t : List ℕ). t ++ a) (sym there) ∙ same ∙ ap (λ (t : List ℕ). t ++ b) here in absurd (apart 120 92 refl w)
heads_by x y a b (AsDigits there) (AsItself on off here) bx by_ same = let w : 92 ∷ 120 ∷ (hex_pair x ++ a) ≡ y ∷ b = ap (λ (t : List ℕ). t ++ a) (sym there) ∙ same ∙ ap (λ (t : List ℕ). t ++ b) here in absurd (off (sym (ap (λ (t : List ℕ). get_or t 0 0) w)))
heads_by x y a b (AsDigits there) (AsDigits here) bx by_ same =
    let w : 92 ∷ 120 ∷ (hex_pair x ++ a) ≡ 92 ∷ 120 ∷ (hex_pair y ++ b) = ap (λ (t : List ℕ). t ++ a) (sym there) ∙ same ∙ ap (λ (t : List ℕ). t ++ b) here in
    (same_byte x y bx by_ (ap (λ (t : List ℕ). get_or t 2 0) w) (ap (λ (t : List ℕ). get_or t 3 0) w), ap (λ (t : List ℕ). drop 4 t) w)

ends_by : (y : ℕ) (b r : List ℕ) → Quoted y → 34 ∷ r ≡ quoted_byte y ++ b → ⊥
ends_by y b r (AsMark on here) same = let w : 34 ∷ r ≡ 92 ∷ 34 ∷ b = same ∙ ap (λ (t : List ℕ). t ++ b) here in unlike 34 92 refl w
ends_by y b r (AsSlash on here) same = let w : 34 ∷ r ≡ 92 ∷ 92 ∷ b = same ∙ ap (λ (t : List ℕ). t ++ b) here in unlike 34 92 refl w
ends_by y b r (AsItself on off here) same = let w : 34 ∷ r ≡ y ∷ b = same ∙ ap (λ (t : List ℕ). t ++ b) here in on (sym (ap (λ (t : List ℕ). get_or t 0 0) w))
ends_by y b r (AsDigits here) same = let w : 34 ∷ r ≡ 92 ∷ 120 ∷ (hex_pair y ++ b) = same ∙ ap (λ (t : List ℕ). t ++ b) here in unlike 34 92 refl w

pub same_quoted : (xs ys r s : List ℕ) → AreBytes xs → AreBytes ys → flat_map quoted_byte xs ++ (34 ∷ r) ≡ flat_map quoted_byte ys ++ (34 ∷ s) → xs ≡ ys
same_quoted [] [] r s one two same = refl
same_quoted [] (y ∷ ys) r s one two same = absurd (ends_by y (flat_map quoted_byte ys ++ (34 ∷ s)) r (quoted_as y) (same ∙ append_assoc (quoted_byte y) (flat_map quoted_byte ys) (34 ∷ s)))
same_quoted (x ∷ xs) [] r s one two same = absurd (ends_by x (flat_map quoted_byte xs ++ (34 ∷ r)) s (quoted_as x) (sym same ∙ append_assoc (quoted_byte x) (flat_map quoted_byte xs) (34 ∷ r)))
same_quoted (x ∷ xs) (y ∷ ys) r s one two same =
    let heads = heads_by x y (flat_map quoted_byte xs ++ (34 ∷ r)) (flat_map quoted_byte ys ++ (34 ∷ s)) (quoted_as x) (quoted_as y) one.0 two.0
    (sym (append_assoc (quoted_byte x) (flat_map quoted_byte xs) (34 ∷ r)) ∙ same ∙ append_assoc (quoted_byte y) (flat_map quoted_byte ys) (34 ∷ s)) in
    ap (λ b. b ∷ xs) heads.0 ∙ ap (λ (t : List ℕ). y ∷ t) (same_quoted xs ys r s one.1 two.1 heads.1)

pub strings_told : StringsAreTold
unfolding string_shown
strings_told xs ys one two same = same_quoted xs ys [] [] one two (ap (λ (t : List ℕ). drop 1 t) same)

-- literals
same_bytes : (quoted : Truth) (xs ys : List ℕ) → AreBytes xs → AreBytes ys → bytes_shown quoted xs ≡ bytes_shown quoted ys → xs ≡ ys
unfolding hex_shown
same_bytes true xs ys one two same = strings_told xs ys one two same
same_bytes false xs ys one two same = same_hex xs ys one two same

by_reading : {A : Type 0} (read : List ℕ → Option A) (s t : List ℕ) (a b : A) → read s ≡ Some a → read t ≡ Some b → s ≡ t → a ≡ b
by_reading read s t a b one two same = let both : Some a ≡ Some b = sym one ∙ ap read same ∙ two in cc

byte_at : (bytes : List ℕ) → AreBytes bytes → (i : ℕ) → get_or bytes i 0 < 256
byte_at [] are i = omega arith
byte_at (b ∷ bytes) are zero = are.0
byte_at (b ∷ bytes) are (suc i) = byte_at bytes are.1 i

same_truth : (a b : Truth) → (if a then codes "1" else codes "0") ≡ (if b then codes "1" else codes "0") → a ≡ b
same_truth true true same = refl
same_truth true false same = absurd (unlike 49 48 refl same)
same_truth false true same = absurd (unlike 48 49 refl same)
same_truth false false same = refl

value_told : (quoted : Truth) (v w : Value) → IsOfKind v → IsOfKind w → kind_of_value v ≡ kind_of_value w → value_shown quoted v ≡ value_shown quoted w → v ≡ w
unfolding value_shown
value_told quoted (values.Uint n) (values.Uint m) one two kind same = ap values.Uint (decimal_injective n m one two same)
value_told quoted (values.Bool a) (values.Bool b) one two kind same = ap values.Bool (same_truth a b same)
value_told quoted (values.Bytes xs) (values.Bytes ys) one two kind same = ap values.Bytes (same_bytes quoted xs ys one two same)
value_told quoted (values.Text xs) (values.Text ys) one two kind same = ap values.Text (strings_told xs ys one two same)
value_told quoted (values.Ether a) (values.Ether b) one two kind same =
    ap values.Ether (by_reading ether_of (ether_shown a) (ether_shown b) a b (ether_from_shown a one.0 (byte_at a one.1)) (ether_from_shown b two.0 (byte_at b two.1)) same)
value_told quoted (values.Ip4 a) (values.Ip4 b) one two kind same = ap values.Ip4 (by_reading ip4_of (ip4_shown a) (ip4_shown b) a b (ip4_from_shown a one) (ip4_from_shown b two) same)
value_told quoted (values.Ip6 a) (values.Ip6 b) one two kind same = ap values.Ip6 (by_reading ip6_of (ip6_shown a) (ip6_shown b) a b (ip6_from_shown a one) (ip6_from_shown b two) same)
value_told quoted (values.Time a) (values.Time b) one two kind same = ap values.Time (by_reading time_of (time_shown a) (time_shown b) a b (time_from_shown a one) (time_from_shown b two) same)
value_told quoted (values.Proto xs) (values.Proto ys) one two kind same = ap values.Proto (same_bytes quoted xs ys one two same)
value_told quoted (values.Ip6 n) w one two kind same = cc
value_told quoted (values.Uint n) w one two kind same = cc
value_told quoted (values.Bool n) w one two kind same = cc
value_told quoted (values.Bytes n) w one two kind same = cc
value_told quoted (values.Text n) w one two kind same = cc
value_told quoted (values.Ether n) w one two kind same = cc
value_told quoted (values.Ip4 n) w one two kind same = cc
value_told quoted (values.Time n) w one two kind same = cc
value_told quoted (values.Proto n) w one two kind same = cc

pub literals_told : LiteralsAreTold
literals_told c d one two kind quoted prefix same =
    let values_ : value_shown c.quoted c.value ++ prefix_shown d.prefix ≡ value_shown d.quoted d.value ++ prefix_shown d.prefix = ap (λ p. value_shown c.quoted c.value ++ prefix_shown p) (sym prefix) ∙ same in
    let shown = append_cancel_right (value_shown c.quoted c.value) (value_shown d.quoted d.value) (prefix_shown d.prefix) values_ in
    value_told d.quoted c.value d.value one two kind (ap (λ q. value_shown q c.value) (sym quoted) ∙ shown)
