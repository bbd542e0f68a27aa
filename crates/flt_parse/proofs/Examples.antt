-- Texts whose tokens are computed.
use Rattle.std.proofs.Common.{◌≡◌, ℕ, List, [], ◌∷◌, codes, Some, None, true, false, Ok, Err, Result, refl}
use Rattle.flt_syntax.specs.Filters.{kinds_of}
use Rattle.flt_syntax.specs.Grammar.{spelled}
use Rattle.flt_syntax.specs.Tokens.{tokens_of}
use Rattle.flt_syntax.specs.Written.{NamedOf, OnLayersOf, SlicedOf, MaskedOf, CalledOf, ComputedOf, ArgumentsOf, CompareOf, InOf, MatchesOf, JoinedOf, NotOf, GroupOf, AloneOf, TestOf}
use Rattle.flt_syntax.specs.declared.ast.Arithmetic.TheVariants as arithmetic
use Rattle.flt_syntax.specs.declared.ast.Choice.TheVariants as choices
use Rattle.flt_syntax.specs.declared.ast.Element.TheVariants as elements
use Rattle.flt_syntax.specs.declared.ast.Function.TheVariants.{Len, Max}
use Rattle.flt_syntax.specs.declared.ast.Literal.TheVariants as literals
use Rattle.flt_syntax.specs.declared.ast.Negation.TheVariants as negations
use Rattle.flt_syntax.specs.declared.ast.Operator.TheVariants as operators
use Rattle.flt_syntax.specs.declared.ast.RangePart.TheVariants as parts
use Rattle.flt_syntax.specs.declared.fault.FilterFault.{FilterFault}
use Rattle.flt_syntax.specs.declared.fault.FilterReason.{FilterReason}
use Rattle.flt_syntax.specs.declared.fault.FilterReason.TheVariants.{BadChar, BadString}
use Rattle.flt_syntax.specs.declared.token.Join.TheVariants as joins
use Rattle.flt_syntax.specs.declared.token.Kind.{Kind}
use Rattle.flt_syntax.specs.declared.token.Token.{Token}
use Rattle.flt_syntax.specs.declared.word.Word.{Word}

abbrev kinds_read : Result (List Token) FilterFault → List Kind
kinds_read (Ok ts) = kinds_of ts
kinds_read (Err f) = []

abbrev the : ℕ → List ℕ → Word
the at text = record { at = at; text = text }

abbrev fault : ℕ → FilterReason → Result (List Token) FilterFault
fault at reason = Err (record { at = at; reason = reason })

-- a slice, layers, an operator, a set with a range
slice_and_set : kinds_read (tokens_of (codes "ip.src#[1-2,4][0:2, -1] not in {a..b, \"c\"}"))
    ≡ spelled (TestOf None
    (SlicedOf (OnLayersOf (the 0 (codes "ip.src")) (record { at = 8; first = 1; last = Some 2 } ∷ record { at = 12; first = 4; last = None } ∷ [])) 14
    (record { at = 15; part = parts.Counted (record { from_end = false; offset = 0 }) 2 } ∷ record { at = 20; part = parts.One (record { from_end = true; offset = 1 }) } ∷ []))
    (InOf true (elements.Between (literals.Bare (the 32 (codes "a"))) (literals.Bare (the 35 (codes "b"))) ∷ elements.One (literals.Text (record { at = 38; bytes = codes "c" })) ∷ [])))
unfolding tokens_of
slice_and_set = refl

-- signs and words, a call, a mask, a raw string with a quote's end, an escape
joined : kinds_read (tokens_of (codes "!any len(a) >= 1 || (b & 0x2 and c matches r\"\\d\") or d ~ \"\\x41\\n\""))
    ≡ spelled (JoinedOf joins.Or (JoinedOf joins.Or
    (NotOf negations.Sign (TestOf (Some choices.Any) (CalledOf Len 5 (NamedOf (the 9 (codes "a")))) (CompareOf operators.AtLeast 12 (NamedOf (the 15 (codes "1"))))))
    (GroupOf (JoinedOf joins.And (AloneOf (MaskedOf (NamedOf (the 21 (codes "b"))) 23 (the 25 (codes "0x2"))))
    (TestOf None (NamedOf (the 33 (codes "c"))) (MatchesOf 35 (record { at = 43; bytes = codes "\\d" }))))))
    (TestOf None (NamedOf (the 53 (codes "d"))) (MatchesOf 55 (record { at = 57; bytes = 65 ∷ 10 ∷ [] }))))
unfolding tokens_of
joined = refl

-- sums and products, a call with two arguments, `-` within words and alone
computed : kinds_read (tokens_of (codes "a+b * max(c-d, 1) - e > -2"))
    ≡ spelled (TestOf None
    (ComputedOf arithmetic.Difference 18
    (ComputedOf arithmetic.Sum 1 (NamedOf (the 0 (codes "a")))
    (ComputedOf arithmetic.Product 4 (NamedOf (the 2 (codes "b")))
    (CalledOf Max 6 (ArgumentsOf (NamedOf (the 10 (codes "c-d"))) (NamedOf (the 15 (codes "1")))))))
    (NamedOf (the 20 (codes "e"))))
    (CompareOf operators.Greater 22 (NamedOf (the 24 (codes "-2")))))
unfolding tokens_of
computed = refl

-- a byte that begins no token; a string without an end; another escape; a raw string without an end
no_token : tokens_of (codes "a == 1 @") ≡ fault 7 BadChar
unfolding tokens_of
no_token = refl

no_end : tokens_of (codes "a == \"b") ≡ fault 5 BadString
unfolding tokens_of
no_end = refl

other_escape : tokens_of (codes "a == \"\\q\"") ≡ fault 5 BadString
unfolding tokens_of
other_escape = refl

no_raw_end : tokens_of (codes "a == r\"b") ≡ fault 5 BadString
unfolding tokens_of
no_raw_end = refl
