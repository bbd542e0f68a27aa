-- `ip6_of` reads the texts of an IPv6 address's forms, and no other.
use Rattle.std.proofs.Common.{◌≡◌, ◌≢◌, ℕ, zero, suc, ◌+◌, ◌-◌, ◌*◌, ◌^◌, ◌≤◌, false, cond, ◌&&◌, eqb, ltb, leb, List, [], ◌∷◌, ◌++◌, codes, length, replicate, Option, Some, None, IfSome, refl, sym, ap, ap₂, ◌∙◌, arith, lit<, lit≤, append_assoc, length-append}
use Rattle.std.specs.Option.{option_map, option_and_then}
use Rattle.std.specs.List.{All, AllByRecursion, flat_map, join_with_byte}
use Rattle.std.specs.Int.Digits.{number_from_digits, number_from_digits_after}
use Rattle.std.specs.Str.Parse.{digits_value}
use Rattle.std.proofs.lemmas.Bool.{cond-true, cond-false, cond_both, lt-ltb, le-leb, leb-true, eq-eqb, eqb-true, ne_eqb, and_left, and_right}
use Rattle.std.proofs.lemmas.Option.{none-some, same_Some, cond_some, option_and_then_some}
use Rattle.std.proofs.lemmas.Iterator.Adapters.{option_map_id}
use Rattle.std.proofs.lemmas.List.{append-nil, length-map}
use Rattle.std.proofs.lemmas.List.Elements.{All-cons}
use Rattle.std.proofs.lemmas.List.Splits.{slice_split_at, slice_split_none, join_with_byte-slice_split}
use Rattle.std.proofs.lemmas.Int.Digits.{number_after_append}
use Rattle.std.proofs.lemmas.Nat.{pow-add}
use Rattle.std.proofs.Math.Nat.{pow-zero, pow-succ', mul_assoc}
use Rattle.pk_text.specs.Digits.{short_read}
use Rattle.pk_text.specs.Ip6.{Ip6Form, Whole, Shortened, IsWord, IsIp6Form, joined, ip6_form_text, ip6_form_value, words_values, gap_in, side_more, side_after, words_in, side_of, shortened_of, whole_of, ip6_from, ip6_of}
use Rattle.pk_text.proofs.CutLemmas.{Lacks, Lacks-from_AllDigits}
use Rattle.pk_text.proofs.DigitsLemmas.{short_read-IsNumeral, IsNumeral-short_read}
use Rattle.pk_text.proofs.OptionLemmas.{option_map_some, option_map-map}
use Rattle.pk_text.proofs.Ip6Lemmas.{colons, side_of-some}

abbrev AreWords : List (List ℕ) → Type 0
AreWords words = AllByRecursion IsWord words

-- words, each behind a colon
abbrev led : List (List ℕ) → List ℕ
led words = flat_map (λ word. codes ":" ++ word) words

word_lacks : (word : List ℕ) → IsWord word → Lacks 58 word
word_lacks word h = Lacks-from_AllDigits 58 16 word (lit≤ tt) h.0.1

gap_cons : (c : ℕ) (t : List ℕ) → c ≢ 58 → gap_in (c ∷ t) ≡ option_map (λ p. (c ∷ p.0, p.1)) (gap_in t)
unfolding gap_in
gap_cons c [] h = refl
gap_cons c (d ∷ t) h = cond-false (eqb c 58 && eqb d 58) _ _ (and_left (eqb c 58) _ (ne_eqb c 58 h))

gap_colon : (d : ℕ) (t : List ℕ) → d ≢ 58 → gap_in (58 ∷ d ∷ t) ≡ option_map (λ p. (58 ∷ p.0, p.1)) (gap_in (d ∷ t))
unfolding gap_in
gap_colon d t h = cond-false (eqb 58 58 && eqb d 58) _ _ (and_right (eqb 58 58) (eqb d 58) (ne_eqb d 58 h))

gap_word : (word t : List ℕ) → Lacks 58 word → gap_in (word ++ t) ≡ option_map (λ p. (word ++ p.0, p.1)) (gap_in t)
gap_word [] t h = sym (option_map_id (gap_in t))
gap_word (c ∷ word) t h =
    gap_cons c (word ++ t) h.0 ∙ ap (option_map (λ p. (c ∷ p.0, p.1))) (gap_word word t h.1) ∙ option_map-map _ _ (gap_in t)

gap_led : (words : List (List ℕ)) (t : List ℕ) → AreWords words → gap_in (led words ++ (58 ∷ 58 ∷ t)) ≡ Some (led words, t)
unfolding gap_in
gap_led [] t h = refl
gap_led ([] ∷ words) t h = absurd (omega (arith, h.0.0.0))
gap_led ((c ∷ cs) ∷ words) t h =
    let lacks = word_lacks (c ∷ cs) h.0 in
    ap gap_in (append_assoc (58 ∷ c ∷ cs) (led words) (58 ∷ 58 ∷ t))
    ∙ gap_colon c (cs ++ (led words ++ (58 ∷ 58 ∷ t))) lacks.0
    ∙ ap (option_map (λ p. (58 ∷ p.0, p.1)))
    (gap_word (c ∷ cs) (led words ++ (58 ∷ 58 ∷ t)) lacks ∙ ap (option_map (λ p. ((c ∷ cs) ++ p.0, p.1))) (gap_led words t h.1))

gap_joined : (words : List (List ℕ)) (t : List ℕ) → AreWords words → gap_in (joined words ++ (58 ∷ 58 ∷ t)) ≡ Some (joined words, t)
unfolding gap_in
gap_joined [] t h = refl
gap_joined (word ∷ words) t h =
    ap gap_in (append_assoc word (led words) (58 ∷ 58 ∷ t))
    ∙ gap_word word (led words ++ (58 ∷ 58 ∷ t)) (word_lacks word h.0)
    ∙ ap (option_map (λ p. (word ++ p.0, p.1))) (gap_led words t h.1)

no_gap_led : (words : List (List ℕ)) → AreWords words → gap_in (led words) ≡ None
unfolding gap_in
no_gap_led [] h = refl
no_gap_led ([] ∷ words) h = absurd (omega (arith, h.0.0.0))
no_gap_led ((c ∷ cs) ∷ words) h =
    let lacks = word_lacks (c ∷ cs) h.0 in
    gap_colon c (cs ++ led words) lacks.0
    ∙ ap (option_map (λ p. (58 ∷ p.0, p.1)))
    (gap_word (c ∷ cs) (led words) lacks ∙ ap (option_map (λ p. ((c ∷ cs) ++ p.0, p.1))) (no_gap_led words h.1))

no_gap_joined : (words : List (List ℕ)) → AreWords words → gap_in (joined words) ≡ None
unfolding gap_in
no_gap_joined [] h = refl
no_gap_joined (word ∷ words) h =
    gap_word word (led words) (word_lacks word h.0) ∙ ap (option_map (λ p. (word ++ p.0, p.1))) (no_gap_led words h.1)

gap_parts : (t : List ℕ) (p : List ℕ × List ℕ) → gap_in t ≡ Some p → t ≡ p.0 ++ (58 ∷ 58 ∷ p.1)
unfolding gap_in
gap_parts [] p h = absurd (none-some p h)
gap_parts (c ∷ []) p h = absurd (none-some p h)
gap_parts (c ∷ d ∷ rest) p h =
    let later : (q : List ℕ × List ℕ) → gap_in (d ∷ rest) ≡ Some q → d ∷ rest ≡ q.0 ++ (58 ∷ 58 ∷ q.1) = gap_parts (d ∷ rest) in
    cond_both (eqb c 58 && eqb d 58) (Some ([], rest)) (option_map (λ q. (c ∷ q.0, q.1)) (gap_in (d ∷ rest))) (λ r. r ≡ Some p → c ∷ d ∷ rest ≡ p.0 ++ (58 ∷ 58 ∷ p.1))
    (λ gap r. colons c d rest gap ∙ ap (λ q. q.0 ++ (58 ∷ 58 ∷ q.1)) (same_Some _ p r))
    (λ _ r.
    let (q, found, same) = option_map_some (λ q. (c ∷ q.0, q.1)) (gap_in (d ∷ rest)) p r in
    ap (λ (bs : List ℕ). c ∷ bs) (later q found) ∙ ap (λ q'. q'.0 ++ (58 ∷ 58 ∷ q'.1)) (sym same)) h

-- the words of a text
all_lack : (word : List ℕ) → Lacks 58 word → All (λ c. eqb c 58 ≡ false) word
all_lack [] h = λ k d inside. absurd (omega arith)
all_lack (c ∷ cs) h = All-cons (λ x. eqb x 58 ≡ false) c cs (ne_eqb c 58 h.0) (all_lack cs h.1)

words_in-joined : (word : List ℕ) (words : List (List ℕ)) → IsWord word → AreWords words → words_in (joined (word ∷ words)) ≡ word ∷ words
words_in-joined word [] h all =
    ap words_in (append-nil word) ∙ slice_split_none (λ c. eqb c 58) word (all_lack word (word_lacks word h))
words_in-joined word (next ∷ words) h all =
    slice_split_at (λ c. eqb c 58) word 58 (next ++ led words) (all_lack word (word_lacks word h)) refl
    ∙ ap (λ later. word ∷ later) (words_in-joined next words all.0 all.1)

joined-bytes : (words : List (List ℕ)) → joined words ≡ join_with_byte 58 words
joined-bytes [] = refl
joined-bytes (word ∷ []) = append-nil word
joined-bytes (word ∷ next ∷ words) = ap (λ later. word ++ (58 ∷ later)) (joined-bytes (next ∷ words))

joined-words_in : (t : List ℕ) → joined (words_in t) ≡ t
joined-words_in t = joined-bytes (words_in t) ∙ join_with_byte-slice_split 58 t

-- the groups of a side
abbrev side_with : ℕ → ℕ → ℕ × ℕ
side_with count number = (count, number)

side_after-words : (count number : ℕ) (words : List (List ℕ)) → AreWords words → count + length words ≤ 8 → side_after (side_with count number) words ≡ Some (side_with (count + length words) (number_from_digits_after (2 ^ 16) number (words_values words)))
side_after-words count number [] all most =
    let same : count ≡ count + 0 = omega arith in ap (λ n. Some (side_with n number)) same
side_after-words count number (word ∷ words) all most =
    let group = digits_value 16 word in
    let last = number_from_digits_after (2 ^ 16) (number * 2 ^ 16 + group) (words_values words) in
    let same : count + 1 + length words ≡ count + suc (length words) = omega arith in
    ap (λ o. option_and_then (λ more. side_after more words) (option_and_then (side_more (side_with count number)) o))
    (short_read-IsNumeral 16 4 word (lit< tt) (lit≤ tt) all.0.0 all.0.1)
    ∙ ap (option_and_then (λ more. side_after more words)) (cond-true (ltb count 8) _ _ (lt-ltb count 8 (omega arith)))
    ∙ side_after-words (count + 1) (number * 2 ^ 16 + group) words all.1 (omega arith)
    ∙ ap (λ n. Some (side_with n last)) same

side_after-reading : (side r : ℕ × ℕ) (words : List (List ℕ)) → side_after side words ≡ Some r → AreWords words × (r.0 ≡ side.0 + length words) × (r.1 ≡ number_from_digits_after (2 ^ 16) side.1 (words_values words))
side_after-reading side r [] h =
    let same = ap (λ s. s.0) (same_Some side r h) in
    (tt, omega (arith, same), ap (λ s. s.1) (sym (same_Some side r h)))
side_after-reading side r (word ∷ words) h =
    let later : (more : ℕ × ℕ) → side_after more words ≡ Some r → AreWords words × (r.0 ≡ more.0 + length words) × (r.1 ≡ number_from_digits_after (2 ^ 16) more.1 (words_values words)) = λ more. side_after-reading more r words in
    option_and_then_some (λ more. side_after more words) (option_and_then (side_more side) (short_read 16 4 word)) r h (λ more found rest.
    option_and_then_some (side_more side) (short_read 16 4 word) more found (λ group read added.
    let digits = IsNumeral-short_read 16 4 word group read in
    let (room, same) = cond_some (ltb side.0 8) (side_with (side.0 + 1) (side.1 * 2 ^ 16 + group)) more added in
    let (all, count, number) = later more rest in
    let counted = ap (λ s. s.0) same in (
      ((digits.0, digits.1), all),
      omega (arith, count, counted),
      number ∙ ap (λ n. number_from_digits_after (2 ^ 16) n (words_values words))
          (sym (ap (λ s. s.1) same) ∙ ap (λ g. side.1 * 2 ^ 16 + g) digits.2),
    )))

side_of-joined : (words : List (List ℕ)) → AreWords words → length words ≤ 8 → side_of (joined words) ≡ Some (side_with (length words) (number_from_digits (2 ^ 16) (words_values words)))
unfolding side_of
side_of-joined [] all most = refl
side_of-joined (word ∷ words) all most =
    let total = number_from_digits (2 ^ 16) (words_values (word ∷ words)) in
    let same : 0 + length (word ∷ words) ≡ length (word ∷ words) = omega arith in
    side_of-some (joined (word ∷ words)) (λ none. absurd (omega (arith, none, length-append word (led words), all.0.0.0)))
    ∙ ap (side_after (side_with 0 0)) (words_in-joined word words all.0 all.1)
    ∙ side_after-words 0 0 (word ∷ words) all (omega arith)
    ∙ ap (λ n. Some (side_with n total)) same

abbrev IsSide : List ℕ → ℕ × ℕ → Type 0
IsSide t side = (words : List (List ℕ)) × AreWords words × (t ≡ joined words) × (side.0 ≡ length words) × (side.1 ≡ number_from_digits (2 ^ 16) (words_values words))

side_reading : (t : List ℕ) (side : ℕ × ℕ) → side_of t ≡ Some side → IsSide t side
unfolding side_of
side_reading [] side h =
    let same = sym (same_Some _ side h) in ([], tt, refl, ap (λ s. s.0) same, ap (λ s. s.1) same)
side_reading (c ∷ cs) side h =
    let read = sym (side_of-some (c ∷ cs) (λ none. absurd (omega (arith, none)))) ∙ h in
    let (all, count, number) = side_after-reading (side_with 0 0) side (words_in (c ∷ cs)) read in
    (words_in (c ∷ cs), all, sym (joined-words_in (c ∷ cs)), omega (arith, count), number)

-- the groups of both sides, with zeros between them
number_after-zeros : (b n k : ℕ) → number_from_digits_after b n (replicate k 0) ≡ n * b ^ k
number_after-zeros b n zero = omega (arith, ap (λ p. n * p) (pow-zero b))
number_after-zeros b n (suc k) =
    let same : n * b + 0 ≡ n * b = omega arith in
    number_after-zeros b (n * b + 0) k
    ∙ ap (λ m. m * b ^ k) same ∙ mul_assoc n b (b ^ k) ∙ ap (λ p. n * p) (sym (pow-succ' b k))

number_after-plus : (b n : ℕ) (ds : List ℕ) → number_from_digits_after b n ds ≡ n * b ^ length ds + number_from_digits b ds
number_after-plus b n [] = omega (arith, ap (λ p. n * p) (pow-zero b))
number_after-plus b n (d ∷ ds) =
    let more = ap (λ p. n * p) (pow-succ' b (length ds)) in
    let here = number_after-plus b (n * b + d) ds in
    let first = number_after-plus b (0 * b + d) ds in
    omega (arith, more, here, first)

sides_value : (front back : List ℕ) (m n : ℕ) → length front ≡ m → length back ≡ n → m + n ≤ 7 → number_from_digits (2 ^ 16) front * (2 ^ 16) ^ (8 - m) + number_from_digits (2 ^ 16) back ≡ number_from_digits (2 ^ 16) (front ++ (replicate (8 - (m + n)) 0 ++ back))
sides_value front back m n em en few =
    let first = number_from_digits (2 ^ 16) front in
    let zeros = 8 - (m + n) in
    let behind : zeros + length back ≡ 8 - m = omega arith in
    sym (
    number_after_append (2 ^ 16) 0 front (replicate zeros 0 ++ back)
    ∙ number_after_append (2 ^ 16) first (replicate zeros 0) back
    ∙ ap (λ k. number_from_digits_after (2 ^ 16) k back) (number_after-zeros (2 ^ 16) first zeros)
    ∙ number_after-plus (2 ^ 16) (first * (2 ^ 16) ^ zeros) back
    ∙ ap (λ k. k + number_from_digits (2 ^ 16) back)
    (mul_assoc first ((2 ^ 16) ^ zeros) ((2 ^ 16) ^ length back)
    ∙ ap (λ p. first * p) (sym (pow-add (2 ^ 16) zeros (length back)) ∙ ap (λ k. (2 ^ 16) ^ k) behind)))

ip6_of-form : (f : Ip6Form) → IsIp6Form f → ip6_of (ip6_form_text f) ≡ Some (ip6_form_value f)
unfolding ip6_of whole_of shortened_of
ip6_of-form (Whole words) h =
    ap (ip6_from (joined words)) (no_gap_joined words h.0)
    ∙ ap (option_and_then (λ (side : ℕ × ℕ). cond (eqb side.0 8) (Some side.1) None)) (side_of-joined words h.0 (omega (arith, h.1)))
    ∙ cond-true (eqb (length words) 8) _ _ (eq-eqb (length words) 8 h.1)
ip6_of-form (Shortened front back) h =
    let few = h.2 in
    let first = side_of-joined front h.0 (omega arith) in
    let second = side_of-joined back h.1 (omega arith) in
    ap (ip6_from (joined front ++ (58 ∷ 58 ∷ joined back))) (gap_joined front (joined back) h.0)
    ∙ rw (first, second) (cond-true (leb (length front + length back) 7) _ _ (le-leb _ 7 few))
    ∙ ap Some (sides_value (words_values front) (words_values back) (length front) (length back) (length-map front (digits_value 16)) (length-map back (digits_value 16)) few)

-- a text of a form is read as the form's address
pub ip6_found : (t : List ℕ) (f : Ip6Form) → IsIp6Form f → t ≡ ip6_form_text f → ip6_of t ≡ Some (ip6_form_value f)
ip6_found t f h e = ap ip6_of e ∙ ip6_of-form f h

abbrev pub IsReading : List ℕ → ℕ → Type 0
IsReading t v = (f : Ip6Form) × IsIp6Form f × (t ≡ ip6_form_text f) × (v ≡ ip6_form_value f)

ip6_reading : (t : List ℕ) (v : ℕ) → ip6_of t ≡ Some v → IsReading t v
unfolding ip6_of whole_of shortened_of
ip6_reading t v h = from (gap_in t) refl h
  where
    from : (o : Option (List ℕ × List ℕ)) → gap_in t ≡ o → ip6_from t o ≡ Some v → IsReading t v
    from None e r =
        option_and_then_some _ (side_of t) v r (λ side read eight.
        let (words, all, text, count, number) = side_reading t side read in
        let (known, same) = cond_some (eqb side.0 8) side.1 v eight in
        (Whole words, (all, sym count ∙ eqb-true side.0 8 known), text, sym same ∙ number))
    from (Some p) e r =
        option_and_then_some _ (side_of p.0) v r (λ front read1 r1.
        option_and_then_some _ (side_of p.1) v r1 (λ back read2 r2.
        let (fw, fall, ftext, fcount, fnumber) = side_reading p.0 front read1 in
        let (bw, ball, btext, bcount, bnumber) = side_reading p.1 back read2 in
        let (few, same) = cond_some (leb (front.0 + back.0) 7) _ v r2 in
        let seven = leb-true (front.0 + back.0) 7 few in
        let most : length fw + length bw ≤ 7 = omega (arith, seven, fcount, bcount) in (
          Shortened fw bw,
          (fall, ball, most),
          gap_parts t p e ∙ ap₂ (λ (a b : List ℕ). a ++ (58 ∷ 58 ∷ b)) ftext btext,
          sym same
              ∙ ap (λ n. n * (2 ^ 16) ^ (8 - front.0) + back.1) fnumber
              ∙ ap₂ (λ c n. number_from_digits (2 ^ 16) (words_values fw) * (2 ^ 16) ^ (8 - c) + n) fcount bnumber
              ∙ sides_value (words_values fw) (words_values bw) (length fw) (length bw) (length-map fw (digits_value 16)) (length-map bw (digits_value 16)) most,
        )))

pub ip6_only : (t : List ℕ) (r : Option ℕ) → r ≡ ip6_of t → IfSome r (IsReading t)
ip6_only t None e = tt
ip6_only t (Some v) e = ip6_reading t v (sym e)
