-- The lines of a body in chunks: what is read of bytes is the lines that stand there.
use Rattle.std.proofs.Common.{◌≡◌, ℕ, suc, ◌+◌, ◌≤◌, Bool, true, false, ◌||◌, ◌&&◌, List, [], ◌∷◌, ◌++◌, length, take, drop, refl, sym, ap, ap₂, ◌∙◌, subst, arith, one-add, zero-add, append_assoc, length-append, length-take-le, take-append-drop, drop-drop, ⊎_elim, inl, inr, ◌⊎◌, Option, Some, None}
use Rattle.std.specs.Prelude.{◌==◌, nat_le, nat_lt}
use Rattle.std.specs.List.{prefix_len}
use Rattle.std.specs.Char.{is_ascii_hexdigit}
use Rattle.std.specs.Str.Parse.{digits_value}
use Rattle.std.proofs.lemmas.Bool.{cond-true, cond-false, and_parts}
use Rattle.std.proofs.lemmas.List.Elements.{All-nil, All-cons, All-head, All-tail, All-append}
use Rattle.httparse.specs.Ascii.{tab, line_feed, carriage_return, space, semicolon, crlf_bytes}
use Rattle.httparse.specs.Grammar.{AllPass, is_ows}
use Rattle.stream_messages.specs.declared.lines.Line.TheVariants.{Whole, Wrong}
use Rattle.stream_messages.specs.Heads.{begins}
use Rattle.stream_messages.specs.Limits.{line_limit}
use Rattle.stream_messages.specs.Lines.{is_text, is_tail, feed_at, crlf_at, text_from, line_by, line_of, size_by, size_in}
use Rattle.stream_messages.specs.Chunks.{sized, size_turn}
use Rattle.stream_messages.specs.ChunkedBodies.{IsText, print_line, SizeLine, print_size, chunk_size, IsTail, IsSizeLine, StandsAt}
use Rattle.stream_messages.proofs.HeadLemmas.{take-front, drop-front}
use Rattle.stream_messages.proofs.TextLemmas.{crlf_whole, line_whole}

-- ---- bytes at the front that pass a test

pub prefix_is : (test : ℕ → Bool) (a r : List ℕ) → AllPass test a → begins test r ≡ false → prefix_len test (a ++ r) ≡ length a
prefix_is test [] [] pass stop = refl
prefix_is test [] (b ∷ r) pass stop = cond-false _ _ _ stop
prefix_is test (x ∷ a) r pass stop =
    cond-true _ _ _ (All-head (λ v. test v ≡ true) x a pass)
    ∙ one-add _ ∙ ap (λ (n : ℕ). suc n) (prefix_is test a r (All-tail (λ v. test v ≡ true) x a pass) stop)

prefix_pass : (test : ℕ → Bool) (xs : List ℕ) → AllPass test (take (prefix_len test xs) xs)
prefix_pass test [] = All-nil (λ v. test v ≡ true)
prefix_pass test (x ∷ xs) = by (prefix_pass test xs) (test x) refl
  where
    by : AllPass test (take (prefix_len test xs) xs) → (t : Bool) → test x ≡ t → AllPass test (take (prefix_len test (x ∷ xs)) (x ∷ xs))
    by go true e =
        subst (λ (n : ℕ). AllPass test (take n (x ∷ xs))) (sym (cond-true _ _ _ e ∙ one-add _))
        (All-cons (λ v. test v ≡ true) x (take (prefix_len test xs) xs) e go)
    by go false e = subst (λ (n : ℕ). AllPass test (take n (x ∷ xs))) (sym (cond-false _ _ _ e)) (All-nil (λ v. test v ≡ true))

-- ---- texts at the front of bytes

abbrev pub IsFront : List ℕ → List ℕ → Type 0
IsFront text bytes = take (length text) bytes ≡ text

pub front_by : (text rest bytes : List ℕ) → bytes ≡ text ++ rest → IsFront text bytes
front_by text rest bytes e = ap (take (length text)) e ∙ take-front text rest

pub front_rest : (text bytes : List ℕ) → IsFront text bytes → bytes ≡ text ++ drop (length text) bytes
front_rest text bytes front = sym (take-append-drop (length text) bytes) ∙ ap (λ (t : List ℕ). t ++ drop (length text) bytes) front

front_first : (a b bytes : List ℕ) → IsFront (a ++ b) bytes → IsFront a bytes
front_first a b bytes front =
    front_by a (b ++ drop (length (a ++ b)) bytes) bytes (front_rest (a ++ b) bytes front ∙ append_assoc a b (drop (length (a ++ b)) bytes))

front_second : (a b bytes : List ℕ) → IsFront (a ++ b) bytes → IsFront b (drop (length a) bytes)
front_second a b bytes front =
    let rest : List ℕ = drop (length (a ++ b)) bytes in
    front_by b rest (drop (length a) bytes)
    (ap (drop (length a)) (front_rest (a ++ b) bytes front ∙ append_assoc a b rest) ∙ drop-front a (b ++ rest))

front_both : (a b bytes : List ℕ) → IsFront a bytes → IsFront b (drop (length a) bytes) → IsFront (a ++ b) bytes
front_both a b bytes first second =
    let rest : List ℕ = drop (length b) (drop (length a) bytes) in
    front_by (a ++ b) rest bytes
    (front_rest a bytes first ∙ ap (λ (t : List ℕ). a ++ t) (front_rest b (drop (length a) bytes) second) ∙ sym (append_assoc a b rest))

pub stands_first : (at : ℕ) (a b bytes : List ℕ) → StandsAt at (a ++ b) bytes → StandsAt at a bytes
stands_first at a b bytes stands = front_first a b (drop at bytes) stands

pub stands_second : (at : ℕ) (a b bytes : List ℕ) → StandsAt at (a ++ b) bytes → StandsAt (at + length a) b bytes
stands_second at a b bytes stands = subst (IsFront b) (drop-drop (length a) at bytes) (front_second a b (drop at bytes) stands)

pub stands_both : (at : ℕ) (a b bytes : List ℕ) → StandsAt at a bytes → StandsAt (at + length a) b bytes → StandsAt at (a ++ b) bytes
stands_both at a b bytes first second = front_both a b (drop at bytes) first (subst (IsFront b) (sym (drop-drop (length a) at bytes)) second)

-- ---- lines

line_front : (text bytes : List ℕ) → IsFront (print_line text) bytes → bytes ≡ text ++ 13 ∷ 10 ∷ drop (length (print_line text)) bytes
line_front text bytes front =
    front_rest (print_line text) bytes front ∙ append_assoc text crlf_bytes (drop (length (print_line text)) bytes)

pub line_len : (text : List ℕ) → length (print_line text) ≡ length text + 2
line_len text = length-append text crlf_bytes

pub line_read : (most : ℕ) (text bytes : List ℕ) → IsText text → IsFront (print_line text) bytes → (length text == 0 || nat_le (length text + 2) most) ≡ true
    → line_of most 0 bytes ≡ Whole (length text)
line_read most text bytes pass front short =
    let rest : List ℕ = drop (length (print_line text)) bytes in
    let whole : bytes ≡ text ++ 13 ∷ 10 ∷ rest = line_front text bytes front in
    let len : text_from 0 bytes ≡ length text = zero-add (prefix_len is_text bytes) ∙ ap (prefix_len is_text) whole ∙ prefix_is is_text text (13 ∷ 10 ∷ rest) pass refl in
    ap (λ (n : ℕ). line_by most n bytes) len
    ∙ cond-true _ _ _ short
    ∙ ap (λ (t : List ℕ). crlf_at (length text) (drop (length text) t)) whole
    ∙ ap (crlf_at (length text)) (drop-front text (13 ∷ 10 ∷ rest))

same_number : (a b : ℕ) → (a == b) ≡ true → a ≡ b
same_number a b e = grind arith

pub crlf_says : (n m : ℕ) (xs : List ℕ) → crlf_at n xs ≡ Whole m → xs ≡ 13 ∷ 10 ∷ drop 2 xs
crlf_says n m [] e = absurd (cc)
crlf_says n m (b ∷ []) e = let two : 2 ≤ 1 = (crlf_whole n m (b ∷ []) e).1 in absurd (omega (arith, two))
crlf_says n m (b ∷ c ∷ rest) e = by (b == carriage_return) refl
  where
    feed : (t : Bool) → (c == line_feed) ≡ t → feed_at n (c ∷ rest) ≡ Whole m → c ≡ 10
    feed true same e = same_number c line_feed same
    feed false other e = let none : Wrong ≡ Whole m = sym (cond-false _ _ _ other) ∙ e in absurd (cc)

    by : (t : Bool) → (b == carriage_return) ≡ t → b ∷ c ∷ rest ≡ 13 ∷ 10 ∷ rest
    by true same =
        ap₂ (λ (x y : ℕ). x ∷ y ∷ rest) (same_number b carriage_return same) (feed (c == line_feed) refl (sym (cond-true _ _ _ same) ∙ e))
    by false other = let none : Wrong ≡ Whole m = sym (cond-false _ _ _ other) ∙ e in absurd (cc)

-- a line that is read is a text and CR LF
pub record TextLine (most : ℕ) (bytes : List ℕ) (n : ℕ) : Type 0 where
  pub pass : IsText (take n bytes)
  pub stands : IsFront (print_line (take n bytes)) bytes
  pub len : length (take n bytes) ≡ n
  pub short : (n == 0 || nat_le (n + 2) most) ≡ true

pub line_says : (most : ℕ) (bytes : List ℕ) (n : ℕ) → line_of most 0 bytes ≡ Whole n → TextLine most bytes n
line_says most bytes n e =
    let whole = line_whole most 0 bytes n e in
    let count : n ≡ prefix_len is_text bytes = whole.len ∙ zero-add (prefix_len is_text bytes) in
    let behind : drop n bytes ≡ 13 ∷ 10 ∷ drop 2 (drop n bytes) = crlf_says n n (drop n bytes) whole.feed in
    let parts : bytes ≡ print_line (take n bytes) ++ drop 2 (drop n bytes) =
    sym (take-append-drop n bytes) ∙ ap (λ (t : List ℕ). take n bytes ++ t) behind ∙ sym (append_assoc (take n bytes) crlf_bytes (drop 2 (drop n bytes))) in
    record {
      pass = subst (λ (k : ℕ). AllPass is_text (take k bytes)) (sym count) (prefix_pass is_text bytes);
      stands = front_by (print_line (take n bytes)) (drop 2 (drop n bytes)) bytes parts;
      len = length-take-le n bytes (omega (arith, whole.inside));
      short = whole.short;
    }

-- ---- what a size line tells

in_tail : (b : ℕ) → (b ≡ space) ⊎ ((b ≡ tab) ⊎ (b ≡ semicolon)) → (test : ℕ → Bool) (t : Bool) → test space ≡ t → test tab ≡ t → test semicolon ≡ t → test b ≡ t
in_tail b is test t one two three =
    ⊎_elim (λ e. ap test e ∙ one) (λ other. ⊎_elim (λ e. ap test e ∙ two) (λ e. ap test e ∙ three) other) is

tail_test : (tail : List ℕ) → IsTail tail → is_tail tail ≡ true
tail_test [] is = refl
tail_test (b ∷ rest) is = in_tail b is.0 (λ b. is_ows b || b == semicolon) true refl refl refl

tail_stops : (tail : List ℕ) → IsTail tail → begins is_ascii_hexdigit tail ≡ false
tail_stops [] is = refl
tail_stops (b ∷ rest) is = in_tail b is.0 is_ascii_hexdigit false refl refl refl

tail_text : (tail : List ℕ) → IsTail tail → IsText tail
tail_text [] is = All-nil (λ v. is_text v ≡ true)
tail_text (b ∷ rest) is = All-cons (λ v. is_text v ≡ true) b rest (in_tail b is.0 is_text true refl refl refl) is.1

hex_text : (b : ℕ) → is_ascii_hexdigit b ≡ true → is_text b ≡ true
hex_text b e = grind arith

digits_text : (digits : List ℕ) → AllPass is_ascii_hexdigit digits → IsText digits
digits_text [] pass = All-nil (λ v. is_text v ≡ true)
digits_text (b ∷ digits) pass =
    All-cons (λ v. is_text v ≡ true) b digits (hex_text b (All-head (λ v. is_ascii_hexdigit v ≡ true) b digits pass))
    (digits_text digits (All-tail (λ v. is_ascii_hexdigit v ≡ true) b digits pass))

size_passes : (l : SizeLine) → IsSizeLine l → IsText (l.digits ++ l.tail)
size_passes l is = All-append (λ v. is_text v ≡ true) l.digits l.tail (digits_text l.digits is.digits) (tail_text l.tail is.tail)

size_tests : (n : ℕ) (tail : Bool) → 1 ≤ n → n ≤ 8 → tail ≡ true → ((nat_lt 0 n && nat_le n 8) && tail) ≡ true
size_tests n tail some few e = grind arith

pub size_read : (l : SizeLine) → IsSizeLine l → size_in (l.digits ++ l.tail) ≡ Some (chunk_size l)
unfolding size_in
size_read l is =
    let line : List ℕ = l.digits ++ l.tail in
    let count : prefix_len is_ascii_hexdigit line ≡ length l.digits = prefix_is is_ascii_hexdigit l.digits l.tail is.digits (tail_stops l.tail is.tail) in
    let digits : take (prefix_len is_ascii_hexdigit line) line ≡ l.digits = ap (λ (n : ℕ). take n line) count ∙ take-front l.digits l.tail in
    let tail : drop (prefix_len is_ascii_hexdigit line) line ≡ l.tail = ap (λ (n : ℕ). drop n line) count ∙ drop-front l.digits l.tail in
    ap₂ size_by digits tail
    ∙ cond-true _ _ _ (size_tests (length l.digits) (is_tail l.tail) is.some is.few (tail_test l.tail is.tail))

-- the digits and the tail of a line that tells a size
record SizeParts (line : List ℕ) (size : ℕ) : Type 0 where
  digits : List ℕ
  tail : List ℕ
  whole : digits ++ tail ≡ line
  some : 1 ≤ length digits
  few : length digits ≤ 8
  pass : AllPass is_ascii_hexdigit digits
  behind : is_tail tail ≡ true
  size_is : digits_value 16 digits ≡ size

record SizeTests (n : ℕ) (tail : Bool) : Type 0 where
  some : 1 ≤ n
  few : n ≤ 8
  tail_is : tail ≡ true

positive : (n : ℕ) → nat_lt 0 n ≡ true → 1 ≤ n
positive n e = grind arith

at_most : (n most : ℕ) → nat_le n most ≡ true → n ≤ most
at_most n most e = grind arith

tests_say : (n : ℕ) (tail : Bool) → ((nat_lt 0 n && nat_le n 8) && tail) ≡ true → SizeTests n tail
tests_say n tail e =
    let outer = and_parts (nat_lt 0 n && nat_le n 8) tail e in
    let inner = and_parts (nat_lt 0 n) (nat_le n 8) outer.0 in
    record { some = positive n inner.0; few = at_most n 8 inner.1; tail_is = outer.1 }

size_parts : (line : List ℕ) (size : ℕ) → size_in line ≡ Some size → SizeParts line size
unfolding size_in
size_parts line size e =
    by (take (prefix_len is_ascii_hexdigit line) line) (drop (prefix_len is_ascii_hexdigit line) line) (take-append-drop (prefix_len is_ascii_hexdigit line) line)
    (prefix_pass is_ascii_hexdigit line) e
  where
    tested : (digits tail : List ℕ) → digits ++ tail ≡ line → AllPass is_ascii_hexdigit digits → (c : Bool)
        → ((nat_lt 0 (length digits) && nat_le (length digits) 8) && is_tail tail) ≡ c → size_by digits tail ≡ Some size → SizeParts line size
    tested digits tail whole pass true e said =
        let tests = tests_say (length digits) (is_tail tail) e in
        let same : Some (digits_value 16 digits) ≡ Some size = sym (cond-true _ _ _ e) ∙ said in
        record { digits = digits; tail = tail; whole = whole; some = tests.some; few = tests.few; pass = pass; behind = tests.tail_is; size_is = cc }
    tested digits tail whole pass false e said = let none : None ≡ Some size = sym (cond-false _ _ _ e) ∙ said in absurd (cc)

    by : (digits tail : List ℕ) → digits ++ tail ≡ line → AllPass is_ascii_hexdigit digits → size_by digits tail ≡ Some size → SizeParts line size
    by digits tail whole pass said = tested digits tail whole pass ((nat_lt 0 (length digits) && nat_le (length digits) 8) && is_tail tail) refl said

or_says : (a b c : Bool) → ((a || b) || c) ≡ true → (a ≡ true) ⊎ ((b ≡ true) ⊎ (c ≡ true))
or_says true b c e = inl refl
or_says false true c e = inr (inl refl)
or_says false false c e = inr (inr e)

tail_by : (tail : List ℕ) → is_tail tail ≡ true → IsText tail → IsTail tail
tail_by [] is pass = tt
tail_by (b ∷ rest) is pass = (
  ⊎_elim (λ e. inl (same_number b space e)) (λ other. ⊎_elim (λ e. inr (inl (same_number b tab e))) (λ e. inr (inr (same_number b semicolon e))) other)
      (or_says (b == space) (b == tab) (b == semicolon) is),
  All-tail (λ v. is_text v ≡ true) b rest pass,
)

text_behind : (a b : List ℕ) → IsText (a ++ b) → IsText b
text_behind [] b pass = pass
text_behind (x ∷ a) b pass = text_behind a b (All-tail (λ v. is_text v ≡ true) x (a ++ b) pass)

-- ---- size lines at the front

line_short : (n : ℕ) → n + 2 ≤ 4096 → (n == 0 || nat_le (n + 2) line_limit) ≡ true
unfolding line_limit
line_short n less = grind arith

line_within : (n : ℕ) → 1 ≤ n → (n == 0 || nat_le (n + 2) line_limit) ≡ true → n + 2 ≤ 4096
unfolding line_limit
line_within n some e = grind arith

pub size_line_read : (sum : ℕ) (l : SizeLine) (bytes : List ℕ) → IsSizeLine l → IsFront (print_size l) bytes
    → size_turn sum bytes (line_of line_limit 0 bytes) ≡ sized sum (length (print_size l)) bytes (Some (chunk_size l))
size_line_read sum l bytes is front =
    let text : List ℕ = l.digits ++ l.tail in
    let len : length (print_size l) ≡ length text + 2 = line_len text in
    let less : length text + 2 ≤ 4096 = omega (arith, len, is.short) in
    let line : line_of line_limit 0 bytes ≡ Whole (length text) = line_read line_limit text bytes (size_passes l is) front (line_short (length text) less) in
    ap (size_turn sum bytes) line
    ∙ ap₂ (λ (n : ℕ) (o : Option ℕ). sized sum n bytes o) (sym len) (ap size_in (front_first text crlf_bytes bytes front) ∙ size_read l is)

-- a size line of so many bytes that tells this size
pub record BeginsSized (bytes : List ℕ) (n size : ℕ) : Type 0 where
  pub line : SizeLine
  pub valid : IsSizeLine line
  pub stands : IsFront (print_size line) bytes
  pub len : length (print_size line) ≡ n
  pub size_is : chunk_size line ≡ size

pub size_line_says : (bytes : List ℕ) (n size : ℕ) → TextLine line_limit bytes n → size_in (take n bytes) ≡ Some size → BeginsSized bytes (n + 2) size
size_line_says bytes n size text e =
    let parts = size_parts (take n bytes) size e in
    let same : print_line (parts.digits ++ parts.tail) ≡ print_line (take n bytes) = ap print_line parts.whole in
    let len : length (print_line (parts.digits ++ parts.tail)) ≡ n + 2 = ap length same ∙ line_len (take n bytes) ∙ ap (λ (k : ℕ). k + 2) text.len in
    let some : 1 ≤ n = omega (arith, parts.some, ap length parts.whole, length-append parts.digits parts.tail, text.len) in
    let pass : IsText (parts.digits ++ parts.tail) = subst IsText (sym parts.whole) text.pass in
    record {
      line = record { digits = parts.digits; tail = parts.tail };
      valid = record {
        some = parts.some;
        few = parts.few;
        digits = parts.pass;
        tail = tail_by parts.tail parts.behind (text_behind parts.digits parts.tail pass);
        short = omega (arith, len, line_within n some text.short);
      };
      stands = subst (λ (t : List ℕ). IsFront t bytes) (sym same) text.stands;
      len = len;
      size_is = parts.size_is;
    }
