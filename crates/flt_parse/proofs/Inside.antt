-- A string read piece by piece.
use Rattle.std.proofs.Common.{◌≡◌, ℕ, zero, suc, ◌+◌, ◌-◌, ◌*◌, ◌<◌, ◌≤◌, ◌==◌, ◌&&◌, if◌then◌else◌, Bool, true, false, List, [], ◌∷◌, ◌++◌, length, drop, get_or, Option, Some, None, refl, sym, ap, subst, ◌∙◌, arith, add-zero, append_assoc}
use Rattle.std.specs.Char.{digit_value, is_digit}
use Rattle.std.specs.Prelude.{IfSome}
use Rattle.std.proofs.lemmas.List.{drop-drop, get_or-drop}
use Rattle.std.specs.Option.{option_map}
use Rattle.std.proofs.lemmas.Bool.{cond-false}
use Rattle.flt_syntax.specs.Strings.{escape, hex_byte, string_inside, piece, with_piece}
use Rattle.flt_parse.specs.declared.strings.Piece.{Piece}

-- what is read behind some bytes, which so many bytes spell
abbrev pub behind : List ℕ → ℕ → Option (List ℕ × ℕ) → Option (List ℕ × ℕ)
behind bytes n None = None
behind bytes n (Some s) = Some (bytes ++ s.0, n + s.1)

abbrev longer : ℕ → List ℕ × ℕ → List ℕ × ℕ
longer n s = (s.0, s.1 + n)

abbrev put : ℕ → List ℕ × ℕ → List ℕ × ℕ
put v s = (v ∷ s.0, s.1 + 1)

no_longer : (o : Option (List ℕ × ℕ)) → o ≡ option_map (longer 0) o
no_longer None = refl
no_longer (Some s) = ap (λ n. Some (s.0, n)) (sym (add-zero s.1))

once_longer : (n : ℕ) (o : Option (List ℕ × ℕ)) → option_map (longer 1) (option_map (longer n) o) ≡ option_map (longer (suc n)) o
once_longer n None = refl
once_longer n (Some s) = let same : s.1 + n + 1 ≡ s.1 + suc n = omega arith in ap (λ m. Some (s.0, m)) same

-- the bytes that belong to what was read before are passed over
passed : (n : ℕ) (bytes : List ℕ) → string_inside n bytes ≡ option_map (longer n) (string_inside zero (drop n bytes))
passed zero bytes = no_longer (string_inside zero bytes)
passed (suc n) [] = refl
passed (suc n) (b ∷ bytes) = ap (option_map (longer 1)) (passed n bytes) ∙ once_longer n (string_inside zero (drop n bytes))

put_first : (v w : ℕ) (o : Option (List ℕ × ℕ)) → option_map (put v) (option_map (longer w) o) ≡ behind (v ∷ []) (suc w) o
put_first v w None = refl
put_first v w (Some s) = let same : s.1 + w + 1 ≡ suc w + s.1 = omega arith in ap (λ m. Some (v ∷ s.0, m)) same

behind_more : (us bs : List ℕ) (m n : ℕ) (o : Option (List ℕ × ℕ)) → behind us m (behind bs n o) ≡ behind (us ++ bs) (m + n) o
behind_more us bs m n None = refl
behind_more us bs m n (Some s) =
    let same : m + (n + s.1) ≡ m + n + s.1 = omega arith in
    ap (λ k. Some (us ++ (bs ++ s.0), k)) same ∙ ap (λ l. Some (l, m + n + s.1)) (sym (append_assoc us bs s.0))

-- one piece in front
one_piece : (bytes : List ℕ) (v w : ℕ) → (get_or bytes 0 0 == 34) ≡ false → piece bytes ≡ Some (v, suc w) → string_inside 0 bytes ≡ behind (v ∷ []) (suc w) (string_inside 0 (drop (suc w) bytes))
one_piece [] v w other read = cc
one_piece (b ∷ bytes) v w other read =
    cond-false (b == 34) _ _ other ∙ ap (λ p. with_piece p (λ skip. string_inside skip bytes)) read
    ∙ ap (option_map (put v)) (ap (λ n. string_inside n bytes) less ∙ passed w bytes) ∙ put_first v w (string_inside zero (drop w bytes))
  where
    less : suc w - 1 ≡ w
    less = omega arith

pub read_on : (text bytes : List ℕ) (at v w : ℕ) → at < length text → (get_or text at 0 == 34) ≡ false → piece (drop at text) ≡ Some (v, w) → 0 < w
    → string_inside 0 text ≡ behind bytes at (string_inside 0 (drop at text))
    → string_inside 0 text ≡ behind (bytes ++ v ∷ []) (at + w) (string_inside 0 (drop (at + w) text))
read_on text bytes at v zero inside other read some before = absurd (omega arith)
read_on text bytes at v (suc w) inside other read some before =
    let here : (get_or (drop at text) 0 0 == 34) ≡ false = rw get_or-drop (simp add-zero other) in
    before ∙ ap (behind bytes at) (one_piece (drop at text) v w here read)
    ∙ behind_more bytes (v ∷ []) at (suc w) (string_inside 0 (drop (suc w) (drop at text)))
    ∙ ap (λ rest. behind (bytes ++ v ∷ []) (at + suc w) (string_inside 0 rest)) (drop-drop (suc w) at text)

-- an escape has room: with its backslash it is no longer than what stands there
abbrev Fits : ℕ → ℕ × ℕ → Type 0
Fits n s = (0 < s.1) × (s.1 ≤ n + 1)

two_fit : (n v : ℕ) (s : ℕ × ℕ) → Some (v, 2) ≡ Some s → Fits (suc n) s
two_fit n v s is = let same : (v, 2) ≡ s = cc in subst (Fits (suc n)) same (omega arith, omega arith)

four_fit : (n v : ℕ) (s : ℕ × ℕ) (test : Bool) → (if test then Some (v, 4) else None) ≡ Some s → Fits (suc (suc (suc n))) s
four_fit n v s true is = let same : (v, 4) ≡ s = cc in subst (Fits (suc (suc (suc n)))) same (omega arith, omega arith)
four_fit n v s false is = cc

hex_fits : (text : List ℕ) (s : ℕ × ℕ) → hex_byte text ≡ Some s → Fits (suc (length text)) s
hex_fits [] s is = cc
hex_fits (high ∷ []) s is = cc
hex_fits (high ∷ low ∷ rest) s is =
    four_fit (length rest) (digit_value high * 16 + digit_value low) s (is_digit high 16 && is_digit low 16) is

one_fits : (rest : List ℕ) (s : ℕ × ℕ) (backslash quote n r t x : Bool)
    → (if backslash then Some (92, 2) else if quote then Some (34, 2) else if n then Some (10, 2) else if r then Some (13, 2)
    else if t then Some (9, 2) else if x then hex_byte rest else None) ≡ Some s → Fits (suc (length rest)) s
one_fits rest s true quote n r t x is = two_fit (length rest) 92 s is
one_fits rest s false true n r t x is = two_fit (length rest) 34 s is
one_fits rest s false false true r t x is = two_fit (length rest) 10 s is
one_fits rest s false false false true t x is = two_fit (length rest) 13 s is
one_fits rest s false false false false true x is = two_fit (length rest) 9 s is
one_fits rest s false false false false false true is = hex_fits rest s is
one_fits rest s false false false false false false is = cc

spelled_fits : (text : List ℕ) (s : ℕ × ℕ) → escape text ≡ Some s → Fits (length text) s
spelled_fits [] s is = cc
spelled_fits (c ∷ rest) s is = one_fits rest s (c == 92) (c == 34) (c == 110) (c == 114) (c == 116) (c == 120) is

pub escape_fits : (p : Option Piece) (text : List ℕ) (n : ℕ) → option_map (λ p. (p.value, p.width)) p ≡ escape text → n ≡ length text + 1
    → IfSome p (λ p. (0 < p.width) × (p.width ≤ n))
escape_fits None text n is room = tt
escape_fits (Some p) text n is room = let fits = spelled_fits text (p.value, p.width) (sym is) in (fits.0, rw room (fits.1))
