-- Lines of which more bytes come.
use Rattle.std.proofs.Common.{◌≡◌, ℕ, zero, suc, ◌+◌, ◌-◌, ◌<◌, ◌≤◌, Bool, true, false, ◌||◌, List, [], ◌∷◌, ◌++◌, length, drop, refl, sym, ap, ◌∙◌, subst, arith, length-drop, drop-drop, zero-add}
use Rattle.std.specs.Prelude.{◌==◌, nat_le}
use Rattle.std.specs.List.{prefix_len}
use Rattle.std.proofs.lemmas.Bool.{cond-true, cond-false}
use Rattle.httparse.specs.Ascii.{line_feed, carriage_return}
use Rattle.stream_messages.specs.declared.lines.Line.{Line}
use Rattle.stream_messages.specs.declared.lines.Line.TheVariants.{Whole, Short, Wrong}
use Rattle.stream_messages.specs.Lines.{is_text, feed_at, crlf_at, text_from, line_by, line_of}

pub drop_append : (n : ℕ) (xs ys : List ℕ) → drop n (xs ++ ys) ≡ drop n xs ++ drop (n - length xs) ys
drop_append zero xs ys = let none : 0 ≡ 0 - length xs = omega arith in ap (λ (k : ℕ). xs ++ drop k ys) none
drop_append (suc n) [] ys = let all : suc n ≡ suc n - 0 = omega arith in ap (λ (k : ℕ). drop k ys) all
drop_append (suc n) (x ∷ xs) ys =
    let same : n - length xs ≡ suc n - suc (length xs) = omega arith in
    drop_append n xs ys ∙ ap (λ (k : ℕ). drop n xs ++ drop k ys) same

-- ---- bytes at the front that pass a test

module _ (test : ℕ → Bool) where
  pub prefix_on : (xs ys : List ℕ) → prefix_len test xs < length xs → prefix_len test (xs ++ ys) ≡ prefix_len test xs
  prefix_on [] ys less = absurd (omega arith)
  prefix_on (x ∷ xs) ys less = by (prefix_on xs ys) (test x) refl
    where
      by : (prefix_len test xs < length xs → prefix_len test (xs ++ ys) ≡ prefix_len test xs) → (t : Bool) → test x ≡ t
          → prefix_len test (x ∷ (xs ++ ys)) ≡ prefix_len test (x ∷ xs)
      by go true e =
          let inside : prefix_len test xs < length xs = omega (arith, less, cond-true (test x) (1 + prefix_len test xs) 0 e) in
          cond-true _ _ _ e ∙ ap (λ (n : ℕ). 1 + n) (go inside) ∙ sym (cond-true _ _ _ e)
      by go false e = cond-false _ _ _ e ∙ sym (cond-false _ _ _ e)

  prefix_grows : (xs ys : List ℕ) → prefix_len test xs ≤ prefix_len test (xs ++ ys)
  prefix_grows [] ys = omega arith
  prefix_grows (x ∷ xs) ys = by (prefix_grows xs ys) (test x) refl
    where
      by : prefix_len test xs ≤ prefix_len test (xs ++ ys) → (t : Bool) → test x ≡ t → prefix_len test (x ∷ xs) ≤ prefix_len test (x ∷ (xs ++ ys))
      by go true e = omega (arith, go, cond-true (test x) (1 + prefix_len test xs) 0 e, cond-true (test x) (1 + prefix_len test (xs ++ ys)) 0 e)
      by go false e = omega (arith, cond-false (test x) (1 + prefix_len test xs) 0 e)

  prefix_back : (xs ys : List ℕ) → prefix_len test (xs ++ ys) < length xs → prefix_len test xs ≡ prefix_len test (xs ++ ys)
  prefix_back [] ys less = absurd (omega arith)
  prefix_back (x ∷ xs) ys less = by (prefix_back xs ys) (test x) refl
    where
      by : (prefix_len test (xs ++ ys) < length xs → prefix_len test xs ≡ prefix_len test (xs ++ ys)) → (t : Bool) → test x ≡ t
          → prefix_len test (x ∷ xs) ≡ prefix_len test (x ∷ (xs ++ ys))
      by go true e =
          let inside : prefix_len test (xs ++ ys) < length xs = omega (arith, less, cond-true (test x) (1 + prefix_len test (xs ++ ys)) 0 e) in
          cond-true _ _ _ e ∙ ap (λ (n : ℕ). 1 + n) (go inside) ∙ sym (cond-true _ _ _ e)
      by go false e = cond-false _ _ _ e ∙ sym (cond-false _ _ _ e)

  prefix_skip : (xs : List ℕ) (k : ℕ) → k ≤ prefix_len test xs → k + prefix_len test (drop k xs) ≡ prefix_len test xs
  prefix_skip xs zero few = zero-add (prefix_len test xs)
  prefix_skip [] (suc k) few = absurd (omega arith)
  prefix_skip (x ∷ xs) (suc k) few = by (prefix_skip xs k) (test x) refl
    where
      by : (k ≤ prefix_len test xs → k + prefix_len test (drop k xs) ≡ prefix_len test xs) → (t : Bool) → test x ≡ t
          → suc k + prefix_len test (drop k xs) ≡ prefix_len test (x ∷ xs)
      by go true e =
          let less : k ≤ prefix_len test xs = omega (arith, few, cond-true (test x) (1 + prefix_len test xs) 0 e) in
          omega (arith, go less, cond-true (test x) (1 + prefix_len test xs) 0 e)
      by go false e = absurd (omega (arith, few, cond-false (test x) (1 + prefix_len test xs) 0 e))

-- ---- the bytes of a line

pub text_on : (text : ℕ) (xs ys : List ℕ) → text_from text xs < length xs → text_from text (xs ++ ys) ≡ text_from text xs
text_on text xs ys inside =
    let room : prefix_len is_text (drop text xs) < length (drop text xs) = omega (arith, inside, length-drop text xs) in
    ap (λ (t : List ℕ). text + prefix_len is_text t) (drop_append text xs ys)
    ∙ ap (λ (n : ℕ). text + n) (prefix_on is_text (drop text xs) (drop (text - length xs) ys) room)

pub text_grows : (text : ℕ) (xs ys : List ℕ) → text_from text xs ≤ text_from text (xs ++ ys)
text_grows text xs ys =
    omega (arith, prefix_grows is_text (drop text xs) (drop (text - length xs) ys), ap (λ (t : List ℕ). prefix_len is_text t) (drop_append text xs ys))

pub text_back : (text : ℕ) (xs ys : List ℕ) → text_from text (xs ++ ys) < length xs → text_from text xs ≡ text_from text (xs ++ ys)
text_back text xs ys inside =
    let same : prefix_len is_text (drop text (xs ++ ys)) ≡ prefix_len is_text (drop text xs ++ drop (text - length xs) ys) = ap (λ (t : List ℕ). prefix_len is_text t) (drop_append text xs ys) in
    let room : prefix_len is_text (drop text xs ++ drop (text - length xs) ys) < length (drop text xs) = omega (arith, inside, same, length-drop text xs) in
    ap (λ (n : ℕ). text + n) (prefix_back is_text (drop text xs) (drop (text - length xs) ys) room ∙ sym same)

-- a line that is looked at from where an earlier look stopped is the same
pub text_same : (text : ℕ) (xs ys : List ℕ) → text_from (text_from text xs) (xs ++ ys) ≡ text_from text (xs ++ ys)
text_same text xs ys =
    let k : ℕ = prefix_len is_text (drop text xs) in
    let less : k ≤ prefix_len is_text (drop text (xs ++ ys)) = omega (arith, text_grows text xs ys) in
    let skip = prefix_skip is_text (drop text (xs ++ ys)) k less in
    let at : prefix_len is_text (drop k (drop text (xs ++ ys))) ≡ prefix_len is_text (drop (text + k) (xs ++ ys)) = ap (λ (t : List ℕ). prefix_len is_text t) (drop-drop k text (xs ++ ys)) in
    omega (arith, skip, at)

-- ---- CR LF

abbrev pub IsKnown : Line → Type 0
IsKnown (Whole n) = Unit {0}
IsKnown Short = ⊥
IsKnown Wrong = Unit {0}

pub crlf_on : (n : ℕ) (xs ys : List ℕ) (t : Line) → IsKnown t → crlf_at n xs ≡ t → crlf_at n (xs ++ ys) ≡ t
crlf_on n [] ys t known e = absurd (subst IsKnown (sym e) known)
crlf_on n (b ∷ []) ys t known e = by (b == carriage_return) refl
  where
    by : (c : Bool) → (b == carriage_return) ≡ c → crlf_at n (b ∷ ys) ≡ t
    by true same = absurd (subst IsKnown (sym e ∙ cond-true _ _ _ same) known)
    by false other = cond-false _ _ _ other ∙ sym (cond-false _ _ _ other) ∙ e
crlf_on n (b ∷ c ∷ rest) ys t known e = e

pub crlf_back : (n : ℕ) (xs ys : List ℕ) → 2 ≤ length xs → crlf_at n (xs ++ ys) ≡ crlf_at n xs
crlf_back n [] ys two = absurd (omega arith)
crlf_back n (b ∷ []) ys two = absurd (omega arith)
crlf_back n (b ∷ c ∷ rest) ys two = refl

pub crlf_some : (n : ℕ) (xs : List ℕ) → IsKnown (crlf_at n xs) → 0 < length xs
crlf_some n [] known = absurd known
crlf_some n (b ∷ rest) known = omega arith

pub crlf_whole : (n m : ℕ) (xs : List ℕ) → crlf_at n xs ≡ Whole m → (m ≡ n) × (2 ≤ length xs)
crlf_whole n m [] e = absurd (cc)
crlf_whole n m (b ∷ []) e = by (b == carriage_return) refl
  where
    by : (c : Bool) → (b == carriage_return) ≡ c → (m ≡ n) × (2 ≤ 1)
    by true same = let none : Short ≡ Whole m = sym (cond-true _ _ _ same) ∙ e in absurd (cc)
    by false other = let none : Wrong ≡ Whole m = sym (cond-false _ _ _ other) ∙ e in absurd (cc)
crlf_whole n m (b ∷ c ∷ rest) e = by (b == carriage_return) refl
  where
    feed : (t : Bool) → (c == line_feed) ≡ t → feed_at n (c ∷ rest) ≡ Whole m → m ≡ n
    feed true same e = let both : Whole n ≡ Whole m = sym (cond-true _ _ _ same) ∙ e in cc
    feed false other e = let none : Wrong ≡ Whole m = sym (cond-false _ _ _ other) ∙ e in absurd (cc)

    by : (t : Bool) → (b == carriage_return) ≡ t → (m ≡ n) × (2 ≤ length (b ∷ c ∷ rest))
    by true same = (feed (c == line_feed) refl (sym (cond-true _ _ _ same) ∙ e), omega arith)
    by false other = let none : Wrong ≡ Whole m = sym (cond-false _ _ _ other) ∙ e in absurd (cc)

-- ---- lines

known_of : (a b : Line) → a ≡ b → IsKnown b → IsKnown a
known_of a b e known = subst IsKnown (sym e) known

pub line_by-on : (most n : ℕ) (xs ys : List ℕ) (t : Line) → IsKnown t → n < length xs → line_by most n xs ≡ t → line_by most n (xs ++ ys) ≡ t
line_by-on most n xs ys t known inside e = by (n == 0 || nat_le (n + 2) most) refl
  where
    by : (c : Bool) → (n == 0 || nat_le (n + 2) most) ≡ c → line_by most n (xs ++ ys) ≡ t
    by true short =
        cond-true _ _ _ short ∙ ap (crlf_at n) (drop_append n xs ys)
        ∙ crlf_on n (drop n xs) (drop (n - length xs) ys) t known (sym (cond-true _ _ _ short) ∙ e)
    by false long = cond-false _ _ _ long ∙ sym (cond-false _ _ _ long) ∙ e

longer : (most n m : ℕ) → n ≤ m → (n == 0 || nat_le (n + 2) most) ≡ false → (m == 0 || nat_le (m + 2) most) ≡ false
longer most n m less e = grind arith

pub line_on : (most text : ℕ) (xs ys : List ℕ) (t : Line) → IsKnown t → line_of most text xs ≡ t → line_of most text (xs ++ ys) ≡ t
line_on most text xs ys t known e = by (text_from text xs == 0 || nat_le (text_from text xs + 2) most) refl
  where
    by : (c : Bool) → (text_from text xs == 0 || nat_le (text_from text xs + 2) most) ≡ c → line_of most text (xs ++ ys) ≡ t
    by true short =
        let some = crlf_some (text_from text xs) (drop (text_from text xs) xs) (known_of _ t (sym (cond-true _ _ _ short) ∙ e) known) in
        let inside : text_from text xs < length xs = omega (arith, some, length-drop (text_from text xs) xs) in
        ap (λ (n : ℕ). line_by most n (xs ++ ys)) (text_on text xs ys inside)
        ∙ line_by-on most (text_from text xs) xs ys t known inside e
    by false long =
        cond-false _ _ _ (longer most (text_from text xs) (text_from text (xs ++ ys)) (text_grows text xs ys) long)
        ∙ sym (cond-false _ _ _ long) ∙ e

pub record WholeLine (most text : ℕ) (bytes : List ℕ) (n : ℕ) : Type 0 where
  pub len : n ≡ text_from text bytes
  pub inside : n + 2 ≤ length bytes
  pub short : (n == 0 || nat_le (n + 2) most) ≡ true
  pub feed : crlf_at n (drop n bytes) ≡ Whole n

pub line_whole : (most text : ℕ) (bytes : List ℕ) (n : ℕ) → line_of most text bytes ≡ Whole n → WholeLine most text bytes n
line_whole most text bytes n e = by (text_from text bytes) refl e
  where
    tested : (m : ℕ) → m ≡ text_from text bytes → (c : Bool) → (m == 0 || nat_le (m + 2) most) ≡ c → line_by most m bytes ≡ Whole n → WholeLine most text bytes n
    tested m len true short e =
        let at : crlf_at m (drop m bytes) ≡ Whole n = sym (cond-true _ _ _ short) ∙ e in
        let whole = crlf_whole m n (drop m bytes) at in
        record {
          len = whole.0 ∙ len;
          inside = omega (arith, whole.0, whole.1, length-drop m bytes);
          short = ap (λ (k : ℕ). k == 0 || nat_le (k + 2) most) whole.0 ∙ short;
          feed = ap (λ (k : ℕ). crlf_at k (drop k bytes)) whole.0 ∙ at;
        }
    tested m len false long e = let none : Wrong ≡ Whole n = sym (cond-false _ _ _ long) ∙ e in absurd (cc)

    by : (m : ℕ) → m ≡ text_from text bytes → line_by most m bytes ≡ Whole n → WholeLine most text bytes n
    by m len e = tested m len (m == 0 || nat_le (m + 2) most) refl e

pub line_back : (most text : ℕ) (xs ys : List ℕ) (n : ℕ) → line_of most text (xs ++ ys) ≡ Whole n → n + 2 ≤ length xs → line_of most text xs ≡ Whole n
line_back most text xs ys n e room =
    let whole = line_whole most text (xs ++ ys) n e in
    let inside : text_from text (xs ++ ys) < length xs = omega (arith, whole.len) in
    let same : text_from text xs ≡ n = text_back text xs ys inside ∙ sym whole.len in
    let two : 2 ≤ length (drop n xs) = omega (arith, length-drop n xs) in
    ap (λ (k : ℕ). line_by most k xs) same
    ∙ cond-true _ _ _ whole.short
    ∙ sym (crlf_back n (drop n xs) (drop (n - length xs) ys) two)
    ∙ sym (ap (crlf_at n) (drop_append n xs ys))
    ∙ whole.feed
