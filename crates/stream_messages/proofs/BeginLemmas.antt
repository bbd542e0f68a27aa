-- To go on from before the first byte is to look for the first message: a head ends at its first empty line.
use Rattle.std.proofs.Common.{◌≡◌, ℕ, ◌+◌, ◌-◌, ◌<◌, ◌≤◌, Bool, true, false, List, [], ◌∷◌, ◌++◌, length, take, drop, refl, sym, ap, ◌∙◌, arith, length-append, length-drop, take-append-drop, Option, Some, None}
use Rattle.std.specs.Prelude.{◌==◌, All, nat_le}
use Rattle.std.proofs.lemmas.Bool.{cond-true, cond-false}
use Rattle.std.proofs.lemmas.List.{length-take-le}
use Rattle.std.proofs.lemmas.List.Elements.{All-head, All-tail}
use Rattle.std.specs.Char.{is_ascii_digit}
use Rattle.httparse.specs.Ascii.{line_feed, carriage_return}
use Rattle.httparse.specs.Pieces.{is_newline}
use Rattle.httparse.specs.Grammar.{AllPass, LineEnd, crlf, lf, print_end, print_blank, print_version, print_field, print_section, print_reason, reason_phrase, Field, IsField, IsRequestHead, IsResponseHead, RequestHead, ResponseHead, print_request, print_response, is_token_byte, is_uri_byte, is_value_byte}
use Rattle.httparse.proofs.PieceLemmas.{token_is_no_newline, print_field-append}
use Rattle.httparse.proofs.GrammarLemmas.{print_request-append, print_response-append}
use Rattle.stream_messages.specs.declared.ends.Seek.{Seek}
use Rattle.stream_messages.specs.declared.ends.Seek.TheVariants.{Before, Inside, Feed}
use Rattle.stream_messages.specs.Limits.{head_limit}
use Rattle.stream_messages.specs.Heads.{Head, Request, Response, print_head, head_of, StartsWith}
use Rattle.stream_messages.specs.Ends.{on_seek, behind_from}
use Rattle.stream_messages.specs.HttpMessages.{by_head, head_within, by_end, first_message, resumed, BeginLaw}
use Rattle.stream_messages.proofs.SplitLemmas.{section-cons}
use Rattle.stream_messages.proofs.HeadLemmas.{none_of}
use Rattle.stream_messages.proofs.HeadLawProofs.{head_of-says, head_of-stays, head_of-shrinks}

-- ---- pieces of a head

seek_byte : (b : ℕ) (r : List ℕ) → (b == line_feed) ≡ false → behind_from Inside (b ∷ r) ≡ behind_from Inside r
seek_byte b r e = ap (λ (o : Option Seek). on_seek (λ n. behind_from n r) r o) (cond-false _ _ _ e)

seek_inside : (test : ℕ → Bool) → ((b : ℕ) → test b ≡ true → (b == line_feed) ≡ false) → (xs r : List ℕ) → AllPass test xs
    → behind_from Inside (xs ++ r) ≡ behind_from Inside r
seek_inside test other [] r pass = refl
seek_inside test other (x ∷ xs) r pass =
    seek_byte x (xs ++ r) (other x (All-head (λ v. test v ≡ true) x xs pass)) ∙ seek_inside test other xs r (All-tail (λ v. test v ≡ true) x xs pass)

no_feed : (b : ℕ) → is_newline b ≡ false → (b == line_feed) ≡ false
no_feed b e = grind arith

no_return : (b : ℕ) → is_newline b ≡ false → (b == carriage_return) ≡ false
no_return b e = grind arith

token_feed : (b : ℕ) → is_token_byte b ≡ true → (b == line_feed) ≡ false
token_feed b e = no_feed b (token_is_no_newline b e)

uri_feed : (b : ℕ) → is_uri_byte b ≡ true → (b == line_feed) ≡ false
uri_feed b e = grind arith

value_feed : (b : ℕ) → is_value_byte b ≡ true → (b == line_feed) ≡ false
value_feed b e = grind arith

digit_feed : (b : ℕ) → is_ascii_digit b ≡ true → (b == line_feed) ≡ false
digit_feed b e = grind arith

seek_blank : (ends : List LineEnd) (r : List ℕ) → behind_from Before (print_blank ends ++ r) ≡ behind_from Before r
seek_blank [] r = refl
seek_blank (crlf ∷ ends) r = seek_blank ends r
seek_blank (lf ∷ ends) r = seek_blank ends r

seek_start : (word r : List ℕ) → 0 < length word → AllPass is_token_byte word → behind_from Before (word ++ r) ≡ behind_from Inside r
seek_start [] r some pass = absurd (omega arith)
seek_start (x ∷ xs) r some pass =
    let token = All-head (λ v. is_token_byte v ≡ true) x xs pass in
    ap (λ (o : Option Seek). on_seek (λ n. behind_from n (xs ++ r)) (xs ++ r) o) (cond-false _ _ _ (token_is_no_newline x token))
    ∙ seek_inside is_token_byte token_feed xs r (All-tail (λ v. is_token_byte v ≡ true) x xs pass)

seek_name : (word r : List ℕ) → 0 < length word → AllPass is_token_byte word → behind_from Feed (word ++ r) ≡ behind_from Inside r
seek_name [] r some pass = absurd (omega arith)
seek_name (x ∷ xs) r some pass =
    let token = All-head (λ v. is_token_byte v ≡ true) x xs pass in
    let other = token_is_no_newline x token in
    ap (λ (o : Option Seek). on_seek (λ n. behind_from n (xs ++ r)) (xs ++ r) o) (cond-false _ _ _ (no_feed x other) ∙ cond-false _ _ _ (no_return x other))
    ∙ seek_inside is_token_byte token_feed xs r (All-tail (λ v. is_token_byte v ≡ true) x xs pass)

seek_version : (minor : ℕ) (r : List ℕ) → behind_from Inside (print_version minor ++ r) ≡ behind_from Inside r
seek_version minor r = seek_byte (48 + minor) r (other minor)
  where
    other : (n : ℕ) → (48 + n == line_feed) ≡ false
    other n = grind arith

seek_first_version : (minor : ℕ) (r : List ℕ) → behind_from Before (print_version minor ++ r) ≡ behind_from Inside r
seek_first_version minor r = seek_version minor r

seek_end : (e : LineEnd) (r : List ℕ) → behind_from Inside (print_end e ++ r) ≡ behind_from Feed r
seek_end crlf r = refl
seek_end lf r = refl

seek_last : (e : LineEnd) (r : List ℕ) → behind_from Feed (print_end e ++ r) ≡ Some r
seek_last crlf r = refl
seek_last lf r = refl

seek_field : (f : Field) (r : List ℕ) → IsField f → behind_from Feed (print_field f ++ r) ≡ behind_from Feed r
seek_field f r is =
    ap (behind_from Feed) (print_field-append f r)
    ∙ seek_name f.name (58 ∷ (f.raw ++ (print_end f.end ++ r))) is.name.0 is.name.1
    ∙ seek_inside is_value_byte value_feed f.raw (print_end f.end ++ r) is.raw
    ∙ seek_end f.end r

seek_section : (fs : List Field) (last : LineEnd) (r : List ℕ) → All IsField fs → behind_from Feed (print_section fs last ++ r) ≡ Some r
seek_section [] last r all = seek_last last r
seek_section (f ∷ fs) last r all =
    ap (behind_from Feed) (section-cons f fs last r)
    ∙ seek_field f (print_section fs last ++ r) (All-head IsField f fs all)
    ∙ seek_section fs last r (All-tail IsField f fs all)

-- ---- a whole head

seek_request : (h : RequestHead) (rest : List ℕ) → IsRequestHead h → behind_from Before (print_request h ++ rest) ≡ Some rest
seek_request h rest is =
    let section : List ℕ = print_section h.fields h.last ++ rest in
    let line : List ℕ = print_version h.minor ++ (print_end h.line_end ++ section) in
    ap (behind_from Before) (print_request-append h rest)
    ∙ seek_blank h.blank (h.method ++ 32 ∷ (h.target ++ 32 ∷ line))
    ∙ seek_start h.method (32 ∷ (h.target ++ 32 ∷ line)) is.method.0 is.method.1
    ∙ seek_inside is_uri_byte uri_feed h.target (32 ∷ line) is.target.1
    ∙ seek_version h.minor (print_end h.line_end ++ section)
    ∙ seek_end h.line_end section
    ∙ seek_section h.fields h.last rest is.fields

seek_reason : (reason : Option (List ℕ)) (r : List ℕ) → AllPass is_value_byte (reason_phrase reason) → behind_from Inside (print_reason reason ++ r) ≡ behind_from Inside r
seek_reason None r all = refl
seek_reason (Some phrase) r all = seek_inside is_value_byte value_feed phrase r all

seek_response : (h : ResponseHead) (rest : List ℕ) → IsResponseHead h → behind_from Before (print_response h ++ rest) ≡ Some rest
seek_response h rest is =
    let section : List ℕ = print_section h.fields h.last ++ rest in
    let reason : List ℕ = print_reason h.reason ++ (print_end h.line_end ++ section) in
    ap (behind_from Before) (print_response-append h rest)
    ∙ seek_blank h.blank (print_version h.minor ++ 32 ∷ (h.digits ++ reason))
    ∙ seek_first_version h.minor (32 ∷ (h.digits ++ reason))
    ∙ seek_inside is_ascii_digit digit_feed h.digits reason is.digits.1
    ∙ seek_reason h.reason (print_end h.line_end ++ section) is.reason
    ∙ seek_end h.line_end section
    ∙ seek_section h.fields h.last rest is.fields

seek_starts : (bytes : List ℕ) (h : Head) (rest : List ℕ) → StartsWith bytes h rest → behind_from Before bytes ≡ Some rest
seek_starts bytes (Request h) rest s = ap (behind_from Before) s.reads.1.1 ∙ seek_request h rest s.reads.1.0
seek_starts bytes (Response h) rest s = ap (behind_from Before) s.reads.1.1 ∙ seek_response h rest s.reads.1.0

starts_front : (bytes : List ℕ) (h : Head) (rest : List ℕ) → StartsWith bytes h rest → bytes ≡ print_head h ++ rest
starts_front bytes (Request h) rest s = s.reads.1.1
starts_front bytes (Response h) rest s = s.reads.1.1

-- where a head ends
pub head_ends_at : (bytes : List ℕ) (h : Head) → head_of bytes ≡ Some h → behind_from Before bytes ≡ Some (drop (length (print_head h)) bytes)
head_ends_at bytes h e = seek_starts bytes h _ (head_of-says bytes h e)

-- ---- from the first byte on

head_fits : (front : List ℕ) (h : Head) → head_of front ≡ Some h → length front ≤ head_limit → head_within front ≡ Some h
head_fits front h e short = cond-true _ _ _ (le_test (length front) head_limit short) ∙ e
  where
    le_test : (a b : ℕ) → a ≤ b → nat_le a b ≡ true
    le_test a b less = grind arith

within_none : (front : List ℕ) → head_of front ≡ None → head_within front ≡ None
within_none front e = by (nat_le (length front) head_limit) refl
  where
    by : (c : Bool) → nat_le (length front) head_limit ≡ c → head_within front ≡ None
    by true short = cond-true _ _ _ short ∙ e
    by false long = cond-false _ _ _ long

front_whole : (bytes rest : List ℕ) (h : Head) → head_of bytes ≡ Some h → drop (length (print_head h)) bytes ≡ rest → head_within (take (length bytes - length rest) bytes) ≡ Some h
front_whole bytes rest h e is =
    let says = head_of-says bytes h e in
    let n : ℕ = length (print_head h) in
    let whole : bytes ≡ print_head h ++ drop n bytes = starts_front bytes h _ says in
    let inside : n ≤ length bytes = omega (arith, ap length whole, length-append (print_head h) (drop n bytes)) in
    let count : length bytes - length rest ≡ n = omega (arith, ap length is, length-drop n bytes) in
    let front : List ℕ = take n bytes in
    let len : length front ≡ n = length-take-le n bytes inside in
    let longer : head_of (front ++ drop n bytes) ≡ Some h = ap head_of (take-append-drop n bytes) ∙ e in
    let found : head_of front ≡ Some h = head_of-shrinks front (drop n bytes) h longer (omega (arith, len)) in
    ap (λ (k : ℕ). head_within (take k bytes)) count ∙ head_fits front h found (omega (arith, len, says.short))

front_none : (bytes : List ℕ) (k : ℕ) → head_of bytes ≡ None → head_within (take k bytes) ≡ None
front_none bytes k e = within_none (take k bytes) (none_of (head_of (take k bytes)) λ h found. refuted h (head_of-stays (take k bytes) (drop k bytes) h found))
  where
    refuted : (h : Head) → head_of (take k bytes ++ drop k bytes) ≡ Some h → ⊥
    refuted h found = let same : Some h ≡ None = sym found ∙ ap head_of (take-append-drop k bytes) ∙ e in absurd (cc)

pub begins : BeginLaw
unfolding resumed first_message
begins asked bytes = by (behind_from Before bytes) refl (head_of bytes) refl
  where
    by : (o : Option (List ℕ)) → behind_from Before bytes ≡ o → (h : Option Head) → head_of bytes ≡ h
        → by_end asked bytes (behind_from Before bytes) ≡ by_head asked (head_of bytes) bytes
    by None is None none = ap (by_end asked bytes) is ∙ sym (ap (λ (o : Option Head). by_head asked o bytes) none)
    by None is (Some h) some = let other : None ≡ Some (drop (length (print_head h)) bytes) = sym is ∙ head_ends_at bytes h some in absurd (cc)
    by (Some rest) is None none =
        ap (by_end asked bytes) is ∙ ap (λ (o : Option Head). by_head asked o bytes) (front_none bytes (length bytes - length rest) none ∙ sym none)
    by (Some rest) is (Some h) some =
        let both : Some (drop (length (print_head h)) bytes) ≡ Some rest = sym (head_ends_at bytes h some) ∙ is in
        let same : drop (length (print_head h)) bytes ≡ rest = cc in
        ap (by_end asked bytes) is ∙ ap (λ (o : Option Head). by_head asked o bytes) (front_whole bytes rest h some same ∙ sym some)
