-- Texts that stand in a string as they are: they have no quote, no backslash and no control character.
use Rattle.std.proofs.Common.{◌≡◌, ◌≢◌, ℕ, zero, suc, ◌+◌, ◌/◌, ◌%◌, ◌≤◌, Bool, true, false, not, cond, ltb, leb, length, ◌&&◌, ◌==◌, List, [], ◌∷◌, ◌++◌, replicate, refl, sym, ap, ap₂, ◌∙◌, arith}
use Rattle.std.proofs.lemmas.Bool.{ne_eqb, le-ltb, leb-true, ltb-true, ltb-false, and_parts}
use Rattle.std.proofs.lemmas.Grind.{flat_map-append}
use Rattle.std.specs.Fmt.{digits, digits_onto, digit_glyph}
use Rattle.std.specs.List.{flat_map, join_by, list_all}
use Rattle.json.specs.Print.{escape, escape_byte}
use Rattle.pk_fields.specs.Rows.{FieldRow, whole}
use Rattle.pk_fields.specs.Table.{rows}
use Rattle.pk_fields.specs.Fields.{row_of}
use Rattle.pk_fields.specs.declared.value_kind.ValueKind.TheVariants.{Proto}
use Rattle.pk_fields.proofs.Passes.{passes_at}
use Rattle.pk_text.specs.Digits.{hex_pair}
use Rattle.pk_text.specs.Digits.{hex_shown}

abbrev pub IsBare : List ℕ → Type 0
IsBare text = escape text ≡ text

stays : (byte : ℕ) → 32 ≤ byte → byte ≢ 34 → byte ≢ 92 → escape_byte byte ≡ byte ∷ []
unfolding escape_byte
stays byte low quote backslash =
    rw (ne_eqb byte 34 quote, ne_eqb byte 92 backslash, ne_eqb byte 8 (λ e. absurd (omega (arith, e))), ne_eqb byte 12 (λ e. absurd (omega (arith, e))), ne_eqb byte 10 (λ e. absurd (omega (arith, e))), ne_eqb byte 13 (λ e. absurd (omega (arith, e))), ne_eqb byte 9 (λ e. absurd (omega (arith, e))), le-ltb byte 32 low) refl

glyph_stays : (d : ℕ) (low : Bool) → ltb d 10 ≡ low → escape_byte (cond low (48 + d) (87 + d)) ≡ cond low (48 + d) (87 + d) ∷ []
glyph_stays d true is =
    let below = ltb-true d 10 is in
    stays (48 + d) (omega arith) (λ e. absurd (omega (arith, e))) (λ e. absurd (omega (arith, e, below)))
glyph_stays d false is =
    let above = ltb-false d 10 is in
    stays (87 + d) (omega arith) (λ e. absurd (omega (arith, e))) (λ e. absurd (omega (arith, e, above)))

digit_stays : (d : ℕ) → escape_byte (digit_glyph false d) ≡ digit_glyph false d ∷ []
digit_stays d = glyph_stays d (ltb d 10) refl

pub bare_more : (byte : ℕ) (text : List ℕ) → escape_byte byte ≡ byte ∷ [] → IsBare text → IsBare (byte ∷ text)
bare_more byte text first others = ap₂ (λ (x y : List ℕ). x ++ y) first others

pub bare_append : (front back : List ℕ) → IsBare front → IsBare back → IsBare (front ++ back)
bare_append front back first second = flat_map-append escape_byte front back ∙ ap₂ (λ (x y : List ℕ). x ++ y) first second

either_bare : (b : Bool) (x y : List ℕ) → IsBare x → IsBare y → IsBare (cond b x y)
either_bare true x y first second = first
either_bare false x y first second = second

digits_onto_bare : (k base n : ℕ) (acc : List ℕ) → IsBare acc → IsBare (digits_onto k base false n acc)
digits_onto_bare zero base n acc bare = bare
digits_onto_bare (suc k) base n acc bare =
    let more = bare_more (digit_glyph false (n % base)) acc (digit_stays (n % base)) bare in
    either_bare (n / base == 0) _ _ more (digits_onto_bare k base (n / base) _ more)

pub bare_digits : (base n : ℕ) → IsBare (digits base false n)
unfolding digits
bare_digits base n = digits_onto_bare 64 base n [] refl

pub bare_zeros : (n : ℕ) → IsBare (replicate n 48)
unfolding escape_byte
bare_zeros zero = refl
bare_zeros (suc n) = bare_more 48 (replicate n 48) refl (bare_zeros n)

pub bare_flat_map : {X : Type 0} (f : X → List ℕ) (xs : List X) → ((x : X) → IsBare (f x)) → IsBare (flat_map f xs)
bare_flat_map f [] each = refl
bare_flat_map f (x ∷ xs) each = bare_append (f x) (flat_map f xs) (each x) (bare_flat_map f xs each)

pub bare_join : {X : Type 0} (f : X → List ℕ) (separator : List ℕ) (xs : List X) → ((x : X) → IsBare (f x)) → IsBare separator → IsBare (join_by f separator xs)
bare_join f separator [] each between = refl
bare_join f separator (x ∷ xs) each between =
    bare_append (f x) _ (each x) (bare_flat_map (λ y. separator ++ f y) xs (λ y. bare_append separator (f y) between (each y)))

pub bare_pair : (byte : ℕ) → IsBare (hex_pair byte)
bare_pair byte = bare_more _ _ (digit_stays (byte / 16)) (bare_more _ _ (digit_stays (byte % 16)) refl)

pub bare_hex : (bytes : List ℕ) → IsBare (hex_shown bytes)
unfolding hex_shown
bare_hex bytes = bare_flat_map hex_pair bytes bare_pair

-- the names of fields and protocols
is_plain : ℕ → Bool
is_plain byte = ltb 34 byte && not (byte == 92)

plain_stays : (byte : ℕ) → is_plain byte ≡ true → escape_byte byte ≡ byte ∷ []
unfolding is_plain
plain_stays byte plain =
    let parts = and_parts (ltb 34 byte) (not (byte == 92)) plain in
    let above = ltb-true 34 byte parts.0 in
    stays byte (omega (arith, above)) (λ e. absurd (omega (arith, above, e))) (λ e. let wrong : not (92 == 92) ≡ true = ap (λ b. not (b == 92)) (sym e) ∙ parts.1 in absurd cc)

all_plain : (text : List ℕ) → list_all is_plain text ≡ true → IsBare text
all_plain [] plain = refl
all_plain (byte ∷ text) plain =
    let parts = and_parts (is_plain byte) (list_all is_plain text) plain in
    bare_more byte text (plain_stays byte parts.0) (all_plain text parts.1)

names_plain : list_all (λ (row : FieldRow). list_all is_plain row.name) rows ≡ true
unfolding rows is_plain
names_plain = refl

pub bare_name : (field : ℕ) → IsBare (row_of field).name
unfolding row_of is_plain
bare_name field =
    all_plain (row_of field).name (passes_at (λ (row : FieldRow). list_all is_plain row.name) rows field (whole [] Proto 0) names_plain refl)

-- no name is long
names_short : list_all (λ (row : FieldRow). leb (length row.name) 64) rows ≡ true
unfolding rows
names_short = refl

pub short_name : (field : ℕ) → length (row_of field).name ≤ 64
unfolding row_of
short_name field =
    leb-true (length (row_of field).name) 64 (passes_at (λ (row : FieldRow). leb (length row.name) 64) rows field (whole [] Proto 0) names_short refl)
