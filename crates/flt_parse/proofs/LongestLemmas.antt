-- The longest sign is taken.
use Rattle.std.proofs.Common.{◌≡◌, ◌≤◌, ℕ, zero, suc, ◌+◌, ◌-◌, Bool, true, false, not, ◌&&◌, ◌||◌, nat_eq, List, [], ◌∷◌, ◌++◌, length, drop, take-append-drop, cond, Option, Some, None, Result, Ok, Err, ap, sym, refl, ◌∙◌, subst, arith}
use Rattle.std.proofs.Math.Dec.{leb}
use Rattle.std.proofs.Math.Seq.{take-append_seam}
use Rattle.std.proofs.lemmas.Bool.{leb-true, leb-false}
use Rattle.std.proofs.lemmas.Slice.Eq.{bytes_eq-Decides}
use Rattle.std.specs.List.{find, list_all, slice_get, starts_with}
use Rattle.std.specs.Str.{bytes_eq}
use Rattle.flt_parse.specs.Longest.{BeginWith, BeginWithLongest, FirstIsLongest, TokensAreLongest, is_operator}
use Rattle.flt_syntax.specs.Letters.{is_blank}
use Rattle.flt_syntax.specs.Tokens.{all_signs, before, bracket_token, first_sign, mode_behind, next_place, plain_token, sign_kind, sign_lexeme, sign_text, then_read, token_at, tokens_from, tokens_of}
use Rattle.flt_syntax.specs.declared.fault.FilterFault.{FilterFault}
use Rattle.flt_syntax.specs.declared.fault.FilterReason.{FilterReason}
use Rattle.flt_syntax.specs.declared.fault.FilterReason.TheVariants.{BadChar}
use Rattle.flt_syntax.specs.declared.token.Lexeme.{Lexeme}
use Rattle.flt_syntax.specs.declared.token.Mode.{Mode}
use Rattle.flt_syntax.specs.declared.token.Mode.TheVariants.{Plain, BehindHash, InBrackets}
use Rattle.flt_syntax.specs.declared.token.Sign.{Sign}
use Rattle.flt_syntax.specs.declared.token.Sign.TheVariants as signs
use Rattle.flt_syntax.specs.declared.token.Token.{Token}

abbrev begins : List ℕ → Sign → Bool
begins bytes s = starts_with nat_eq bytes (sign_text s)

begins_by : (bytes : List ℕ) (s : Sign) → begins bytes s ≡ true → BeginWith bytes s
begins_by bytes s is =
    let front = (bytes_eq-Decides (sign_text s) _).0 is in
    (drop (length (sign_text s)) bytes, sym (take-append-drop (length (sign_text s)) bytes) ∙ ap (λ (f : List ℕ). f ++ drop (length (sign_text s)) bytes) (sym front))

text_begins : (needle rest : List ℕ) → starts_with nat_eq (needle ++ rest) needle ≡ true
text_begins needle rest = (bytes_eq-Decides needle _).1 (sym (take-append_seam needle rest))

by_begins : (bytes : List ℕ) (s : Sign) → BeginWith bytes s → begins bytes s ≡ true
by_begins bytes s with_ = subst (λ (bs : List ℕ). begins bs s ≡ true) (sym with_.1) (text_begins (sign_text s) with_.0)

-- of two fronts of the same bytes the longer one begins with the other
front_of : (a b x y : List ℕ) → a ++ x ≡ b ++ y → length a ≤ length b → (w : List ℕ) × (b ≡ a ++ w)
front_of [] b x y same short = (b, refl)
front_of (c ∷ a) [] x y same short = let none : ⊥ = omega (arith, short) in absurd none
front_of (c ∷ a) (d ∷ b) x y same short =
    let first : d ≡ c = cc in
    let rest : a ++ x ≡ b ++ y = cc in
    let f = front_of a b x y rest (omega (arith, short)) in
    (f.0, ap (λ n. n ∷ b) first ∙ ap (λ (xs : List ℕ). c ∷ xs) f.1)

-- a sign that another begins with is not longer than that
abbrev is_longer_first : Sign → Sign → Bool
is_longer_first s t = not (starts_with nat_eq (sign_text t) (sign_text s)) || leb (length (sign_text t)) (length (sign_text s))

abbrev are_ordered : List Sign → Bool
are_ordered [] = true
are_ordered (s ∷ ss) = list_all (is_longer_first s) ss && are_ordered ss

both_parts : (a b : Bool) → (a && b) ≡ true → (a ≡ true) × (b ≡ true)
both_parts true b is = (refl, is)
both_parts false b is = cc

at_passes : (p : Sign → Bool) (ss : List Sign) (n : ℕ) (t : Sign) → list_all p ss ≡ true → slice_get ss n ≡ Some t → p t ≡ true
at_passes p [] n t all there = cc
at_passes p (s ∷ ss) zero t all there = let same : s ≡ t = cc in subst (λ u. p u ≡ true) same (both_parts (p s) (list_all p ss) all).0
at_passes p (s ∷ ss) (suc n) t all there = at_passes p ss n t (both_parts (p s) (list_all p ss) all).1 there

or_not : (a b : Bool) → a ≡ true → (not a || b) ≡ true → b ≡ true
or_not true b holds is = is
or_not false b holds is = cc

not_longer : (bytes : List ℕ) (s t : Sign) (short : Bool) → leb (length (sign_text t)) (length (sign_text s)) ≡ short → begins bytes s ≡ true → begins bytes t ≡ true → is_longer_first s t ≡ true →
    length (sign_text t) ≤ length (sign_text s)
not_longer bytes s t true is one two first = leb-true (length (sign_text t)) (length (sign_text s)) is
not_longer bytes s t false is one two first =
    let a = begins_by bytes s one in
    let b = begins_by bytes t two in
    let less = leb-false (length (sign_text t)) (length (sign_text s)) is in
    let front = front_of (sign_text s) (sign_text t) a.0 b.0 (sym a.1 ∙ b.1) (omega (arith, less)) in
    let starts : starts_with nat_eq (sign_text t) (sign_text s) ≡ true = subst (λ (bs : List ℕ). starts_with nat_eq bs (sign_text s) ≡ true) (sym front.1) (text_begins (sign_text s) front.0) in
    let short = or_not (starts_with nat_eq (sign_text t) (sign_text s)) (leb (length (sign_text t)) (length (sign_text s))) starts first in
    leb-true (length (sign_text t)) (length (sign_text s)) short

abbrev found : List ℕ → List Sign → Option Sign
found bytes ss = find (λ s. begins bytes s) ss

longest_step : (bytes : List ℕ) (x : Sign) (xs : List Sign) (s t : Sign) (n : ℕ) (test : Bool) → begins bytes x ≡ test → cond test (Some x) (found bytes xs) ≡ Some s →
    list_all (is_longer_first x) xs ≡ true → slice_get (x ∷ xs) n ≡ Some t → begins bytes t ≡ true →
    ((m : ℕ) → found bytes xs ≡ Some s → slice_get xs m ≡ Some t → length (sign_text t) ≤ length (sign_text s)) → length (sign_text t) ≤ length (sign_text s)
longest_step bytes x xs s t zero true is there all at begin rest =
    let one : x ≡ s = cc in
    let two : x ≡ t = cc in
    let same = ap (λ (u : Sign). length (sign_text u)) (sym two ∙ one) in
    omega (arith, same)
longest_step bytes x xs s t (suc n) true is there all at begin rest =
    let one : x ≡ s = cc in
    let less = not_longer bytes x t (leb (length (sign_text t)) (length (sign_text x))) refl is begin (at_passes (is_longer_first x) xs n t all at) in
    subst (λ u. length (sign_text t) ≤ length (sign_text u)) one less
longest_step bytes x xs s t zero false is there all at begin rest = let same : x ≡ t = cc in let passes = subst (λ u. begins bytes u ≡ true) (sym same) begin in cc
longest_step bytes x xs s t (suc n) false is there all at begin rest = rest n there at

longest_in : (bytes : List ℕ) (ss : List Sign) (s t : Sign) (n : ℕ) → found bytes ss ≡ Some s → are_ordered ss ≡ true → slice_get ss n ≡ Some t → begins bytes t ≡ true → length (sign_text t) ≤ length (sign_text s)
longest_in bytes [] s t n there ordered at begin = cc
longest_in bytes (x ∷ xs) s t n there ordered at begin =
    let parts = both_parts (list_all (is_longer_first x) xs) (are_ordered xs) ordered in
    longest_step bytes x xs s t n (begins bytes x) refl there parts.0 at begin (λ m rest at_m. longest_in bytes xs s t m rest parts.1 at_m begin)

find_step : (bytes : List ℕ) (x : Sign) (rest : Option Sign) (s : Sign) (test : Bool) → begins bytes x ≡ test → (rest ≡ Some s → begins bytes s ≡ true) → cond test (Some x) rest ≡ Some s → begins bytes s ≡ true
find_step bytes x rest s true is more there = let same : x ≡ s = cc in subst (λ u. begins bytes u ≡ true) same is
find_step bytes x rest s false is more there = more there

found_begins : (bytes : List ℕ) (ss : List Sign) (s : Sign) → found bytes ss ≡ Some s → begins bytes s ≡ true
found_begins bytes [] s there = cc
found_begins bytes (x ∷ xs) s there = find_step bytes x (found bytes xs) s (begins bytes x) refl (found_begins bytes xs s) there

some_step : (bytes : List ℕ) (x : Sign) (xs : List Sign) (t : Sign) (n : ℕ) (test : Bool) → begins bytes x ≡ test → slice_get (x ∷ xs) n ≡ Some t → begins bytes t ≡ true →
    ((m : ℕ) → slice_get xs m ≡ Some t → (s : Sign) × (found bytes xs ≡ Some s)) → (s : Sign) × (cond test (Some x) (found bytes xs) ≡ Some s)
some_step bytes x xs t n true is at begin rest = (x, refl)
some_step bytes x xs t zero false is at begin rest = let same : x ≡ t = cc in let passes = subst (λ u. begins bytes u ≡ true) (sym same) begin in cc
some_step bytes x xs t (suc n) false is at begin rest = rest n at

some_found : (bytes : List ℕ) (ss : List Sign) (t : Sign) (n : ℕ) → slice_get ss n ≡ Some t → begins bytes t ≡ true → (s : Sign) × (found bytes ss ≡ Some s)
some_found bytes [] t n at begin = cc
some_found bytes (x ∷ xs) t n at begin = some_step bytes x xs t n (begins bytes x) refl at begin (λ m at_m. some_found bytes xs t m at_m begin)

-- where each sign stands in the table
abbrev number : Sign → ℕ
number signs.AllEqual = 0
number signs.AnyUnequal = 1
number signs.Equal = 2
number signs.Unequal = 3
number signs.AtLeast = 4
number signs.AtMost = 5
number signs.And = 6
number signs.Or = 7
number signs.Xor = 8
number signs.DotDot = 9
number signs.Open = 10
number signs.Close = 11
number signs.OpenBrace = 12
number signs.CloseBrace = 13
number signs.OpenBracket = 14
number signs.CloseBracket = 15
number signs.Comma = 16
number signs.Hash = 17
number signs.Greater = 18
number signs.Less = 19
number signs.Tilde = 20
number signs.Mask = 21
number signs.Not = 22
number signs.Plus = 23
number signs.Minus = 24
number signs.Star = 25

numbered : (s : Sign) → slice_get all_signs (number s) ≡ Some s
numbered signs.AllEqual = refl
numbered signs.AnyUnequal = refl
numbered signs.Equal = refl
numbered signs.Unequal = refl
numbered signs.AtLeast = refl
numbered signs.AtMost = refl
numbered signs.And = refl
numbered signs.Or = refl
numbered signs.Xor = refl
numbered signs.DotDot = refl
numbered signs.Open = refl
numbered signs.Close = refl
numbered signs.OpenBrace = refl
numbered signs.CloseBrace = refl
numbered signs.OpenBracket = refl
numbered signs.CloseBracket = refl
numbered signs.Comma = refl
numbered signs.Hash = refl
numbered signs.Greater = refl
numbered signs.Less = refl
numbered signs.Tilde = refl
numbered signs.Mask = refl
numbered signs.Not = refl
numbered signs.Plus = refl
numbered signs.Minus = refl
numbered signs.Star = refl

by_text : (s : Sign) → find (λ t. bytes_eq (sign_text t) (sign_text s)) all_signs ≡ Some s
by_text signs.AllEqual = refl
by_text signs.AnyUnequal = refl
by_text signs.Equal = refl
by_text signs.Unequal = refl
by_text signs.AtLeast = refl
by_text signs.AtMost = refl
by_text signs.And = refl
by_text signs.Or = refl
by_text signs.Xor = refl
by_text signs.DotDot = refl
by_text signs.Open = refl
by_text signs.Close = refl
by_text signs.OpenBrace = refl
by_text signs.CloseBrace = refl
by_text signs.OpenBracket = refl
by_text signs.CloseBracket = refl
by_text signs.Comma = refl
by_text signs.Hash = refl
by_text signs.Greater = refl
by_text signs.Less = refl
by_text signs.Tilde = refl
by_text signs.Mask = refl
by_text signs.Not = refl
by_text signs.Plus = refl
by_text signs.Minus = refl
by_text signs.Star = refl

same_sign : (s t : Sign) → sign_text s ≡ sign_text t → s ≡ t
same_sign s t same =
    let both : Some s ≡ Some t = sym (by_text s) ∙ ap (λ (bs : List ℕ). find (λ u. bytes_eq (sign_text u) bs) all_signs) same ∙ by_text t in
    cc

ordered : are_ordered all_signs ≡ true
ordered = refl

longest_by : (bytes : List ℕ) (s : Sign) → first_sign bytes ≡ Some s → BeginWithLongest bytes s
longest_by bytes s is =
    (begins_by bytes s (found_begins bytes all_signs s is), λ other begin. longest_in bytes all_signs s other (number other) is ordered (numbered other) (by_begins bytes other begin))

same_front : (a b x y : List ℕ) → a ++ x ≡ b ++ y → length a ≡ length b → a ≡ b
same_front [] [] x y same size = refl
same_front [] (d ∷ b) x y same size = let none : ⊥ = omega (arith, size) in absurd none
same_front (c ∷ a) [] x y same size = let none : ⊥ = omega (arith, size) in absurd none
same_front (c ∷ a) (d ∷ b) x y same size =
    let first : c ≡ d = cc in
    let rest : a ++ x ≡ b ++ y = cc in
    ap (λ n. n ∷ a) first ∙ ap (λ (xs : List ℕ). d ∷ xs) (same_front a b x y rest (omega (arith, size)))

by_longest : (bytes : List ℕ) (s : Sign) → BeginWithLongest bytes s → first_sign bytes ≡ Some s
by_longest bytes s is =
    let some = some_found bytes all_signs s (number s) (numbered s) (by_begins bytes s is.0) in
    let other = longest_by bytes some.0 some.1 in
    let most = other.1 s is.0 in
    let least = is.1 some.0 other.0 in
    let text = same_front (sign_text some.0) (sign_text s) other.0.0 is.0.0 (sym other.0.1 ∙ is.0.1) (omega (arith, most, least)) in
    some.1 ∙ ap Some (same_sign some.0 s text)

pub first_longest : FirstIsLongest
first_longest bytes s = (longest_by bytes s, by_longest bytes s)

-- what stands at a place where such a sign does
plain_is : (m : Mode) (at : ℕ) (s : Sign) (rest : List ℕ) → is_operator s ≡ true →
    plain_token m at (sign_text s ++ rest) ≡ sign_lexeme m at (sign_text s ++ rest) (first_sign (sign_text s ++ rest))
plain_is m at signs.AllEqual rest is = refl
plain_is m at signs.AnyUnequal rest is = refl
plain_is m at signs.Equal rest is = refl
plain_is m at signs.Unequal rest is = refl
plain_is m at signs.AtLeast rest is = refl
plain_is m at signs.AtMost rest is = refl
plain_is m at signs.And rest is = refl
plain_is m at signs.Or rest is = refl
plain_is m at signs.Xor rest is = refl
plain_is m at signs.DotDot rest is = refl
plain_is m at signs.Open rest is = refl
plain_is m at signs.Close rest is = refl
plain_is m at signs.OpenBrace rest is = refl
plain_is m at signs.CloseBrace rest is = refl
plain_is m at signs.OpenBracket rest is = refl
plain_is m at signs.CloseBracket rest is = cc
plain_is m at signs.Comma rest is = cc
plain_is m at signs.Hash rest is = refl
plain_is m at signs.Greater rest is = refl
plain_is m at signs.Less rest is = refl
plain_is m at signs.Tilde rest is = refl
plain_is m at signs.Mask rest is = refl
plain_is m at signs.Not rest is = refl
plain_is m at signs.Plus rest is = refl
plain_is m at signs.Minus rest is = cc
plain_is m at signs.Star rest is = refl

bracket_is : (at : ℕ) (s : Sign) (rest : List ℕ) → is_operator s ≡ true → bracket_token at (sign_text s ++ rest) ≡ Err BadChar
bracket_is at signs.AllEqual rest is = refl
bracket_is at signs.AnyUnequal rest is = refl
bracket_is at signs.Equal rest is = refl
bracket_is at signs.Unequal rest is = refl
bracket_is at signs.AtLeast rest is = refl
bracket_is at signs.AtMost rest is = refl
bracket_is at signs.And rest is = refl
bracket_is at signs.Or rest is = refl
bracket_is at signs.Xor rest is = refl
bracket_is at signs.DotDot rest is = refl
bracket_is at signs.Open rest is = refl
bracket_is at signs.Close rest is = refl
bracket_is at signs.OpenBrace rest is = refl
bracket_is at signs.CloseBrace rest is = refl
bracket_is at signs.OpenBracket rest is = refl
bracket_is at signs.CloseBracket rest is = cc
bracket_is at signs.Comma rest is = cc
bracket_is at signs.Hash rest is = refl
bracket_is at signs.Greater rest is = refl
bracket_is at signs.Less rest is = refl
bracket_is at signs.Tilde rest is = refl
bracket_is at signs.Mask rest is = refl
bracket_is at signs.Not rest is = refl
bracket_is at signs.Plus rest is = refl
bracket_is at signs.Minus rest is = cc
bracket_is at signs.Star rest is = refl

-- the token is the longest sign
abbrev IsSignOf : Mode → ℕ → List ℕ → Lexeme → Type 0
IsSignOf m at bytes l = (longest : Sign) × (first_sign bytes ≡ Some longest) × ((next : ℕ) × (l.kind ≡ sign_kind m at next longest)) × (l.width ≡ length (sign_text longest))

lexeme_of : (m : Mode) (at : ℕ) (bytes : List ℕ) (l : Lexeme) (sign : Option Sign) → first_sign bytes ≡ sign → sign_lexeme m at bytes sign ≡ Ok l → IsSignOf m at bytes l
lexeme_of m at bytes l None is token = cc
lexeme_of m at bytes l (Some s) is token =
    let same : record { kind = sign_kind m at (next_place at bytes) s; width = length (sign_text s) } ≡ l = cc in
    (s, is, (next_place at bytes, sym (ap (λ (x : Lexeme). x.kind) same)), sym (ap (λ (x : Lexeme). x.width) same))

abbrev IsTokenOf : Mode → ℕ → List ℕ → Lexeme → Type 0
IsTokenOf m at bytes l = (mode : Mode) × IsSignOf mode at bytes l

token_of : (m : Mode) (at : ℕ) (s : Sign) (rest : List ℕ) (l : Lexeme) → is_operator s ≡ true → token_at m at (sign_text s ++ rest) ≡ Ok l → IsTokenOf m at (sign_text s ++ rest) l
token_of Plain at s rest l is token = (Plain, lexeme_of Plain at (sign_text s ++ rest) l (first_sign (sign_text s ++ rest)) refl (sym (plain_is Plain at s rest is) ∙ token))
token_of BehindHash at s rest l is token = (BehindHash, lexeme_of BehindHash at (sign_text s ++ rest) l (first_sign (sign_text s ++ rest)) refl (sym (plain_is BehindHash at s rest is) ∙ token))
token_of InBrackets at s rest l is token = let no : Err BadChar ≡ Ok l = sym (bracket_is at s rest is) ∙ token in cc

-- where a token of a text stands, and the one behind it
abbrev Tokens : Type 0
Tokens = Result (List Token) FilterFault

record Located (at skip : ℕ) (bytes : List ℕ) (ts : List Token) (n : ℕ) (t : Token) : Type 0 where
  k : ℕ
  mode : Mode
  l : Lexeme
  place : t.at ≡ at + k
  token : token_at mode t.at (drop k bytes) ≡ Ok l
  kind : t.kind ≡ l.kind
  far : skip ≤ k
  behind : (u : Token) → slice_get ts (suc n) ≡ Some u → t.at + l.width ≤ u.at

before_ok : (t : Token) (r : Tokens) (ts : List Token) → before t r ≡ Ok ts → (us : List Token) × (r ≡ Ok us) × (ts ≡ t ∷ us)
before_ok t (Ok us) ts is = let same : t ∷ us ≡ ts = cc in (us, refl, sym same)
before_ok t (Err fault) ts is = cc

one_on : (b at skip : ℕ) (rest : List ℕ) (ts : List Token) (n : ℕ) (t : Token) (passed : ℕ) → passed ≤ suc skip → Located (at + 1) skip rest ts n t → Located at passed (b ∷ rest) ts n t
one_on b at skip rest ts n t passed few is =
    record { k = suc is.k; mode = is.mode; l = is.l; place = omega (arith, is.place); token = is.token; kind = is.kind; far = omega (arith, is.far, few); behind = is.behind }

shifted : (at skip : ℕ) (bytes : List ℕ) (ts us : List Token) (n : ℕ) (first t : Token) → ts ≡ first ∷ us → Located at skip bytes us n t → Located at skip bytes ts (suc n) t
shifted at skip bytes ts us n first t same is =
    record { k = is.k; mode = is.mode; l = is.l; place = is.place; token = is.token; kind = is.kind; far = is.far; behind = λ u there. is.behind u (subst (λ (xs : List Token). slice_get xs (suc (suc n)) ≡ Some u) same there) }

abbrev On : ℕ → List ℕ → Type 0
On at rest = (mode : Mode) (skip n : ℕ) (us : List Token) (t : Token) → tokens_from mode skip (at + 1) rest ≡ Ok us → slice_get us n ≡ Some t → Located (at + 1) skip rest us n t

front_at : (at width : ℕ) (mode : Mode) (l : Lexeme) (b : ℕ) (rest : List ℕ) (ts us : List Token) (t : Token) → t ≡ record { at = at; kind = l.kind } → token_at mode at (b ∷ rest) ≡ Ok l → ts ≡ t ∷ us →
    ((u : Token) → slice_get us 0 ≡ Some u → at + l.width ≤ u.at) → Located at 0 (b ∷ rest) ts 0 t
front_at at width mode l b rest ts us t is token same behind =
    let place : t.at ≡ at = ap (λ (x : Token). x.at) is in
    record {
      k = 0;
      mode = mode;
      l = l;
      place = omega (arith, place);
      token = ap (λ p. token_at mode p (b ∷ rest)) place ∙ token;
      kind = ap (λ (x : Token). x.kind) is;
      far = omega arith;
      behind = λ u there. let far = behind u (subst (λ (xs : List Token). slice_get xs 1 ≡ Some u) same there) in omega (arith, place, far);
    }

located_in : (mode : Mode) (at b : ℕ) (rest : List ℕ) (l : Lexeme) (ts us : List Token) (n : ℕ) (t : Token) → On at rest → token_at mode at (b ∷ rest) ≡ Ok l →
    tokens_from (mode_behind l.kind) (l.width - 1) (at + 1) rest ≡ Ok us → ts ≡ record { at = at; kind = l.kind } ∷ us → slice_get ts n ≡ Some t → Located at 0 (b ∷ rest) ts n t
located_in mode at b rest l ts us zero t on token read same there =
    let first : Token = record { at = at; kind = l.kind } in
    let it : Some first ≡ Some t = subst (λ (xs : List Token). slice_get xs 0 ≡ Some t) same there in
    let is : t ≡ first = cc in
    front_at at l.width mode l b rest ts us t is token (same ∙ ap (λ x. x ∷ us) (sym is))
    (λ u at_u. let far = on (mode_behind l.kind) (l.width - 1) 0 us u read at_u in omega (arith, far.place, far.far))
located_in mode at b rest l ts us (suc n) t on token read same there =
    let it : slice_get us n ≡ Some t = subst (λ (xs : List Token). slice_get xs (suc n) ≡ Some t) same there in
    shifted at 0 (b ∷ rest) ts us n (record { at = at; kind = l.kind }) t same
    (one_on b at (l.width - 1) rest us n t 0 (omega arith) (on (mode_behind l.kind) (l.width - 1) n us t read it))

located_then : (blank : Bool) (mode : Mode) (at b : ℕ) (rest : List ℕ) (token : Result Lexeme FilterReason) (ts : List Token) (n : ℕ) (t : Token) → On at rest → token_at mode at (b ∷ rest) ≡ token →
    then_read blank mode at token (λ next skip. tokens_from next skip (at + 1) rest) ≡ Ok ts → slice_get ts n ≡ Some t → Located at 0 (b ∷ rest) ts n t
located_then true mode at b rest token ts n t on is read there = one_on b at 0 rest ts n t 0 (omega arith) (on mode 0 n ts t read there)
located_then false mode at b rest (Err reason) ts n t on is read there = cc
located_then false mode at b rest (Ok l) ts n t on is read there =
    let o = before_ok (record { at = at; kind = l.kind }) (tokens_from (mode_behind l.kind) (l.width - 1) (at + 1) rest) ts read in
    located_in mode at b rest l ts o.0 n t on is o.1 o.2 there

located : (bytes : List ℕ) (mode : Mode) (skip at n : ℕ) (ts : List Token) (t : Token) → tokens_from mode skip at bytes ≡ Ok ts → slice_get ts n ≡ Some t → Located at skip bytes ts n t
located [] mode skip at n ts t read there =
    let none : [] ≡ ts = cc in
    let no = subst (λ (xs : List Token). slice_get xs n ≡ Some t) (sym none) there in
    cc
located (b ∷ rest) mode (suc skip) at n ts t read there = one_on b at skip rest ts n t (suc skip) (omega arith) (located rest mode skip (at + 1) n ts t read there)
located (b ∷ rest) mode zero at n ts t read there =
    located_then (is_blank b) mode at b rest (token_at mode at (b ∷ rest)) ts n t (λ next skip m us u read_u there_u. located rest next skip (at + 1) m us u read_u there_u) refl read there

pub tokens_longest : TokensAreLongest
unfolding tokens_of
tokens_longest text tokens n t s read there is begin =
    let at = located text Plain 0 0 n tokens t read there in
    let place : t.at ≡ at.k = omega (arith, at.place) in
    let bytes : drop at.k text ≡ sign_text s ++ begin.0 = ap (λ k. drop k text) (sym place) ∙ begin.1 in
    let token : token_at at.mode t.at (sign_text s ++ begin.0) ≡ Ok at.l = ap (token_at at.mode t.at) (sym bytes) ∙ at.token in
    let of = token_of at.mode t.at s begin.0 at.l is token in
    let first : first_sign (drop t.at text) ≡ Some of.1.0 = ap first_sign begin.1 ∙ of.1.1 in
    (of.1.0, longest_by (drop t.at text) of.1.0 first, (of.0, of.1.2.0, at.kind ∙ of.1.2.1), λ u there_u. let far = at.behind u there_u in omega (arith, far, of.1.3))
