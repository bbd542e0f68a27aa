-- The laws of the first message, by its length and of HTTP.
use Rattle.std.proofs.Common.{◌≡◌, ◌==◌, ◌||◌, ℕ, zero, suc, ◌+◌, ◌<◌, ◌≤◌, Bool, true, false, if◌then◌else◌, List, [], ◌++◌, length, take, drop, refl, sym, ap, subst, ◌∙◌, arith, length-append, Option, Some, None}
use Rattle.std.specs.Prelude.{nat_le, nat_lt}
use Rattle.std.specs.Option.{option_map}
use Rattle.std.proofs.lemmas.Bool.{cond-true, cond-false, leb-true, le-leb, le-ltb, ltb-false, eqb-false, ne_eqb, true≢false}
use Rattle.std.proofs.lemmas.List.{take-append-le}
use Rattle.std.proofs.lemmas.Option.{cond_some}
use Rattle.stream_messages.specs.Framers.{fit, first_sized, number_of}
use Rattle.stream_messages.specs.HttpMessages.{first_message}
use Rattle.stream_messages.proofs.HttpMessageLemmas.{laws_of_messages}
use Rattle.stream_messages.specs.declared.framer.Framer.{Framer}
use Rattle.stream_messages.specs.declared.framer.Framer.TheVariants as framers
use Rattle.stream_messages.specs.declared.told.Told.{Told}
use Rattle.stream_messages.specs.declared.told.Told.TheVariants.{Sized, Http}
use Rattle.stream_messages.specs.Tellings.{first_of, end_of, ToldLaws}

else_says : (b : Bool) (o : Option ℕ) (n : ℕ) → (if b then None else o) ≡ Some n → (b ≡ false) × (o ≡ Some n)
else_says true o n e = absurd (cc)
else_says false o n e = (refl, e)

or_none : (a b : Bool) → (a || b) ≡ false → (a ≡ false) × (b ≡ false)
or_none true b e = absurd (true≢false e)
or_none false b e = (refl, e)

none_or : (a b : Bool) → a ≡ false → b ≡ false → (a || b) ≡ false
none_or true b e f = absurd (true≢false e)
none_or false b e f = f

some_of : (n : ℕ) → (n == 0) ≡ false → 0 < n
some_of zero e = absurd (eqb-false 0 0 e refl)
some_of (suc n) e = omega arith

-- the head is there, and tells this end
record IsSized (head at width : ℕ) (bytes : List ℕ) (n : ℕ) : Type 0 where
  some : 0 < head
  there : head ≤ length bytes
  is : head + number_of (take width (drop at (take head bytes))) ≡ n
  within : n ≤ length bytes

sized_says : (head at width : ℕ) (bytes : List ℕ) (n : ℕ) → first_sized head at width bytes ≡ Some n → IsSized head at width bytes n
sized_says head at width bytes n e =
    let end : ℕ = head + number_of (take width (drop at (take head bytes))) in
    let says = else_says (head == 0 || nat_lt (length bytes) head) (fit end bytes) n e in
    let there = or_none (head == 0) (nat_lt (length bytes) head) says.0 in
    let fits = cond_some (nat_le end (length bytes)) end n says.1 in
    record { some = some_of head there.0; there = ltb-false (length bytes) head there.1; is = fits.1; within = omega (arith, fits.1, leb-true end (length bytes) fits.0) }

sized_is : (head at width : ℕ) (bytes : List ℕ) (n : ℕ) → IsSized head at width bytes n → first_sized head at width bytes ≡ Some n
sized_is head at width bytes n is =
    let end : ℕ = head + number_of (take width (drop at (take head bytes))) in
    let some : (head == 0) ≡ false = ne_eqb head 0 (λ none. omega (arith, none, is.some)) in
    let there : (head == 0 || nat_lt (length bytes) head) ≡ false =
    none_or (head == 0) (nat_lt (length bytes) head) some (le-ltb (length bytes) head is.there) in
    let fits : nat_le end (length bytes) ≡ true = le-leb end (length bytes) (omega (arith, is.is, is.within)) in
    cond-false (head == 0 || nat_lt (length bytes) head) None (fit end bytes) there ∙ cond-true (nat_le end (length bytes)) (Some end) None fits ∙ ap Some is.is

sized_stays : (head at width : ℕ) (bytes more : List ℕ) (n : ℕ) → first_sized head at width bytes ≡ Some n → first_sized head at width (bytes ++ more) ≡ Some n
sized_stays head at width bytes more n e =
    let says : IsSized head at width bytes n = sized_says head at width bytes n e in
    sized_is head at width (bytes ++ more) n (record {
      some = says.some;
      there = omega (arith, says.there, length-append bytes more);
      is = ap (λ (front : List ℕ). head + number_of (take width (drop at front))) (take-append-le head bytes more says.there) ∙ says.is;
      within = omega (arith, says.within, length-append bytes more);
    })

sized_shrinks : (head at width : ℕ) (bytes more : List ℕ) (n : ℕ) → first_sized head at width (bytes ++ more) ≡ Some n → n ≤ length bytes → first_sized head at width bytes ≡ Some n
sized_shrinks head at width bytes more n e room =
    let says : IsSized head at width (bytes ++ more) n = sized_says head at width (bytes ++ more) n e in
    let there : head ≤ length bytes = omega (arith, says.is, room) in
    sized_is head at width bytes n (record {
      some = says.some;
      there = there;
      is = ap (λ (front : List ℕ). head + number_of (take width (drop at front))) (sym (take-append-le head bytes more there)) ∙ says.is;
      within = room;
    })

-- a message of a framing is one of what is found
mapped : {A : Type 0} (f : A → Told) (o : Option A) (told : Told) → option_map f o ≡ Some told → (x : A) × (o ≡ Some x) × (f x ≡ told)
mapped f None told e = absurd (cc)
mapped f (Some x) told e = (x, refl, cc)

pub first_some : (framer : Framer) (asked : Bool) (bytes : List ℕ) (told : Told) → first_of framer asked bytes ≡ Some told → 0 < end_of told
first_some (framers.LengthPrefix head at width) asked bytes told e =
    let m = mapped Sized (first_sized head at width bytes) told e in subst (λ (t : Told). 0 < end_of t) m.2 (let says = sized_says head at width bytes m.0 m.1 in omega (arith, says.some, says.is))
first_some framers.Http asked bytes told e =
    let m = mapped Http (first_message asked bytes) told e in subst (λ (t : Told). 0 < end_of t) m.2 (laws_of_messages.some asked bytes m.0 m.1)

pub first_within : (framer : Framer) (asked : Bool) (bytes : List ℕ) (told : Told) → first_of framer asked bytes ≡ Some told → end_of told ≤ length bytes
first_within (framers.LengthPrefix head at width) asked bytes told e =
    let m = mapped Sized (first_sized head at width bytes) told e in subst (λ (t : Told). end_of t ≤ length bytes) m.2 (sized_says head at width bytes m.0 m.1).within
first_within framers.Http asked bytes told e =
    let m = mapped Http (first_message asked bytes) told e in
    subst (λ (t : Told). end_of t ≤ length bytes) m.2 (laws_of_messages.within asked bytes m.0 m.1)

pub first_stays : (framer : Framer) (asked : Bool) (bytes more : List ℕ) (told : Told) → first_of framer asked bytes ≡ Some told → first_of framer asked (bytes ++ more) ≡ Some told
first_stays (framers.LengthPrefix head at width) asked bytes more told e =
    let m = mapped Sized (first_sized head at width bytes) told e in ap (option_map Sized) (sized_stays head at width bytes more m.0 m.1) ∙ ap Some m.2
first_stays framers.Http asked bytes more told e =
    let m = mapped Http (first_message asked bytes) told e in ap (option_map Http) (laws_of_messages.stays asked bytes more m.0 m.1) ∙ ap Some m.2

pub first_shrinks : (framer : Framer) (asked : Bool) (bytes more : List ℕ) (told : Told) → first_of framer asked (bytes ++ more) ≡ Some told → end_of told ≤ length bytes
    → first_of framer asked bytes ≡ Some told
first_shrinks (framers.LengthPrefix head at width) asked bytes more told e room =
    let m = mapped Sized (first_sized head at width (bytes ++ more)) told e in
    ap (option_map Sized) (sized_shrinks head at width bytes more m.0 m.1 (subst (λ (t : Told). end_of t ≤ length bytes) (sym m.2) room)) ∙ ap Some m.2
first_shrinks framers.Http asked bytes more told e room =
    let m = mapped Http (first_message asked (bytes ++ more)) told e in
    ap (option_map Http) (laws_of_messages.shrinks asked bytes more m.0 m.1 (subst (λ (t : Told). end_of t ≤ length bytes) (sym m.2) room)) ∙ ap Some m.2

-- no bytes have no message
pub first_nothing : (framer : Framer) (asked : Bool) → first_of framer asked [] ≡ None
first_nothing framer asked = by (first_of framer asked []) refl
  where
    by : (o : Option Told) → first_of framer asked [] ≡ o → o ≡ None
    by None e = refl
    by (Some told) e = absurd (omega (arith, first_some framer asked [] told e, first_within framer asked [] told e))

pub laws_of_firsts : ToldLaws
laws_of_firsts = record { some = first_some; within = first_within; stays = first_stays; shrinks = first_shrinks }
