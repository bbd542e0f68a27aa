-- Keys tie exactly where two fragments are of one datagram.
use Rattle.std.proofs.Common.{◌≡◌, ◌==◌, ℕ, Bool, true, false, ◌&&◌, ◌||◌, refl, sym, ap, ◌∙◌}
use Rattle.std.specs.Bool.{beq}
use Rattle.std.specs.Ordering.{bool_cmp, ordering_then, is_eq}
use Rattle.std.specs.Cmp.{unsigned_tied}
use Rattle.std.specs.declared.cmp.Ordering.{Ordering}
use Rattle.std.specs.declared.cmp.Ordering.TheVariants.{Less, Equal, Greater}
use Rattle.std.proofs.lemmas.Bool.{false≢true, and_parts, eqb-true}
use Rattle.pk_base.specs.declared.heads.Address.{Address}
use Rattle.pk_base.specs.declared.heads.Address.TheVariants.{Four, Six}
use Rattle.pk_base.specs.declared.heads.FragmentHead.{FragmentHead}
use Rattle.ip_join.specs.declared.key.FourKey.{FourKey}
use Rattle.ip_join.specs.declared.key.WideKey.{WideKey}
use Rattle.ip_join.specs.Keys.{same_address, same_key}
use Rattle.ip_join.specs.KeyOrder.{number_of, is_six, key, key_of, wide, four_cmp, wide_cmp, ties}

tied_then : (x y : Ordering) → is_eq (ordering_then x y) ≡ (is_eq x && is_eq y)
tied_then Less y = refl
tied_then Equal y = refl
tied_then Greater y = refl

then_is : (x y : Ordering) (b c : Bool) → is_eq x ≡ b → is_eq y ≡ c → is_eq (ordering_then x y) ≡ (b && c)
then_is x y b c one other = tied_then x y ∙ rw (one, other) refl

tied_bool : (a b : Bool) → is_eq (bool_cmp a b) ≡ beq a b
tied_bool true true = refl
tied_bool true false = refl
tied_bool false true = refl
tied_bool false false = refl

and_true : (b : Bool) → b ≡ (b && true)
and_true true = refl
and_true false = refl

and_false : (b : Bool) → false ≡ (b && false)
and_false true = refl
and_false false = refl

ends_dead : (a b c d e : Bool) → (a && (b && (c && (d && (e && false))))) ≡ false
ends_dead false b c d e = refl
ends_dead true false c d e = refl
ends_dead true true false d e = refl
ends_dead true true true false e = refl
ends_dead true true true true false = refl
ends_dead true true true true true = refl

-- by another order of the fields
fields_turned : (ident protocol six source_six target_six source target : Bool) → (ident && (protocol && (six && (source_six && (target_six && (source && target))))))
    ≡ (source && (target && (ident && (protocol && (six && (source_six && target_six))))))
fields_turned ident protocol six source_six target_six true true =
    ap (λ (b : Bool). ident && (protocol && (six && (source_six && b)))) (sym (and_true target_six))
fields_turned ident protocol six source_six target_six true false = ends_dead ident protocol six source_six target_six
fields_turned ident protocol six source_six target_six false target = ends_dead ident protocol six source_six target_six

-- two keys tie where all their fields are the same
key_is : (a b : WideKey) → is_eq (wide_cmp a b)
    ≡ (a.source == b.source && (a.target == b.target && (a.ident == b.ident && (a.protocol == b.protocol
    && (beq a.six b.six && (beq a.source_six b.source_six && beq a.target_six b.target_six))))))
key_is a b =
    then_is _ _ _ _ (unsigned_tied a.ident b.ident)
    (then_is _ _ _ _ (unsigned_tied a.protocol b.protocol)
    (then_is _ _ _ _ (tied_bool a.six b.six)
    (then_is _ _ _ _ (tied_bool a.source_six b.source_six)
    (then_is _ _ _ _ (tied_bool a.target_six b.target_six)
    (then_is _ _ _ _ (unsigned_tied a.source b.source) (unsigned_tied a.target b.target))))))
    ∙ fields_turned (a.ident == b.ident) (a.protocol == b.protocol) (beq a.six b.six) (beq a.source_six b.source_six) (beq a.target_six b.target_six) (a.source == b.source) (a.target == b.target)

address_is : (a b : Address) → same_address a b ≡ (number_of a == number_of b && beq (is_six a) (is_six b))
address_is (Four a) (Four b) = and_true (a == b)
address_is (Four a) (Six b) = and_false (a == b)
address_is (Six a) (Four b) = and_false (a == b)
address_is (Six a) (Six b) = and_true (a == b)

dead : (a b c d : Bool) → (a && (b && (c && (d && false)))) ≡ false
dead false b c d = refl
dead true false c d = refl
dead true true false d = refl
dead true true true false = refl
dead true true true true = refl

turned : (source target ident protocol one other : Bool) → (source && (target && (ident && (protocol && (one && other))))) ≡ ((source && one) && ((target && other) && (protocol && ident)))
turned false target ident protocol one other = refl
turned true target ident protocol false other = dead true target ident protocol
turned true false ident protocol true other = refl
turned true true ident protocol true false = dead true true ident protocol
turned true true true true true true = refl
turned true true true false true true = refl
turned true true false true true true = refl
turned true true false false true true = refl

tied_wide : (s t : Bool) (a b c d : Address) (p q i j : ℕ) → is_eq (wide_cmp (wide s a c p i) (wide t b d q j)) ≡ (beq s t && (same_address a b && (same_address c d && ((s || p == q) && i == j))))
tied_wide true false a b c d p q i j =
    key_is (wide true a c p i) (wide false b d q j) ∙ dead (number_of a == number_of b) (number_of c == number_of d) (i == j) (0 == q)
tied_wide false true a b c d p q i j =
    key_is (wide false a c p i) (wide true b d q j) ∙ dead (number_of a == number_of b) (number_of c == number_of d) (i == j) (p == 0)
tied_wide true true a b c d p q i j =
    key_is (wide true a c p i) (wide true b d q j)
    ∙ rw (address_is a b, address_is c d)
    (turned (number_of a == number_of b) (number_of c == number_of d) (i == j) true (beq (is_six a) (is_six b)) (beq (is_six c) (is_six d)))
tied_wide false false a b c d p q i j =
    key_is (wide false a c p i) (wide false b d q j)
    ∙ rw (address_is a b, address_is c d)
    (turned (number_of a == number_of b) (number_of c == number_of d) (i == j) (p == q) (beq (is_six a) (is_six b)) (beq (is_six c) (is_six d)))

four_is : (a b : FourKey) → is_eq (four_cmp a b)
    ≡ (a.ident == b.ident && (a.source == b.source && (a.target == b.target && a.protocol == b.protocol)))
four_is a b =
    then_is _ _ _ _ (unsigned_tied a.ident b.ident)
    (then_is _ _ _ _ (unsigned_tied a.source b.source)
    (then_is _ _ _ _ (unsigned_tied a.target b.target) (unsigned_tied a.protocol b.protocol)))

four_turned : (ident source target protocol : Bool) → (ident && (source && (target && protocol))) ≡ (source && (target && (protocol && ident)))
four_turned true true true true = refl
four_turned true true true false = refl
four_turned true true false protocol = refl
four_turned true false target protocol = refl
four_turned false true true true = refl
four_turned false true true false = refl
four_turned false true false protocol = refl
four_turned false false target protocol = refl

-- whatever the addresses, keys tie where all that they say is the same
tied_parts : (s t : Bool) (a b c d : Address) (p q i j : ℕ) → ties (key s a c p i) (key t b d q j) ≡ (beq s t && (same_address a b && (same_address c d && ((s || p == q) && i == j))))
tied_parts true true a b c d p q i j = tied_wide true true a b c d p q i j
tied_parts true false a (Four b) c (Four d) p q i j = refl
tied_parts true false a (Four b) c (Six d) p q i j = tied_wide true false a (Four b) c (Six d) p q i j
tied_parts true false a (Six b) c d p q i j = tied_wide true false a (Six b) c d p q i j
tied_parts false true (Four a) b (Four c) d p q i j = refl
tied_parts false true (Four a) b (Six c) d p q i j = tied_wide false true (Four a) b (Six c) d p q i j
tied_parts false true (Six a) b c d p q i j = tied_wide false true (Six a) b c d p q i j
tied_parts false false (Four a) (Four b) (Four c) (Four d) p q i j =
    four_is (record { ident = i; source = a; target = c; protocol = p }) (record { ident = j; source = b; target = d; protocol = q })
    ∙ four_turned (i == j) (a == b) (c == d) (p == q)
tied_parts false false (Four a) (Four b) (Four c) (Six d) p q i j = and_false (a == b)
tied_parts false false (Four a) (Four b) (Six c) (Four d) p q i j = and_false (a == b)
tied_parts false false (Four a) (Four b) (Six c) (Six d) p q i j = tied_wide false false (Four a) (Four b) (Six c) (Six d) p q i j
tied_parts false false (Four a) (Six b) (Four c) d p q i j = refl
tied_parts false false (Four a) (Six b) (Six c) d p q i j = tied_wide false false (Four a) (Six b) (Six c) d p q i j
tied_parts false false (Six a) (Four b) c (Four d) p q i j = refl
tied_parts false false (Six a) (Four b) c (Six d) p q i j = tied_wide false false (Six a) (Four b) c (Six d) p q i j
tied_parts false false (Six a) (Six b) c d p q i j = tied_wide false false (Six a) (Six b) c d p q i j

pub tied_key : (f g : FragmentHead) → ties (key_of f) (key_of g) ≡ same_key f g
tied_key f g = tied_parts f.six g.six f.source g.source f.target g.target f.next g.next f.ident g.ident

same_address-is : (a b : Address) → same_address a b ≡ true → a ≡ b
same_address-is (Four a) (Four b) same = ap Four (eqb-true a b same)
same_address-is (Four a) (Six b) same = absurd (false≢true same)
same_address-is (Six a) (Four b) same = absurd (false≢true same)
same_address-is (Six a) (Six b) same = ap Six (eqb-true a b same)

same_parts : (s t : Bool) (a b c d : Address) (p q i j : ℕ) → (beq s t && (same_address a b && (same_address c d && ((s || p == q) && i == j)))) ≡ true → key s a c p i ≡ key t b d q j
same_parts true false a b c d p q i j same = absurd (false≢true same)
same_parts false true a b c d p q i j same = absurd (false≢true same)
same_parts true true a b c d p q i j same =
    let first = and_parts (same_address a b) (same_address c d && (i == j)) same in
    let second = and_parts (same_address c d) (i == j) first.1 in
    rw (same_address-is a b first.0, same_address-is c d second.0, eqb-true i j second.1) refl
same_parts false false a b c d p q i j same =
    let first = and_parts (same_address a b) (same_address c d && ((p == q) && (i == j))) same in
    let second = and_parts (same_address c d) ((p == q) && (i == j)) first.1 in
    let third = and_parts (p == q) (i == j) second.1 in
    rw (same_address-is a b first.0, same_address-is c d second.0, eqb-true p q third.0, eqb-true i j third.1) refl

-- fragments of one datagram have one key
pub same_key-key : (f g : FragmentHead) → same_key f g ≡ true → key_of f ≡ key_of g
same_key-key f g same = same_parts f.six g.six f.source g.source f.target g.target f.next g.next f.ident g.ident same

-- all that a key says of a head
pub record IsSameDatagram (f g : FragmentHead) : Type 0 where
  pub six : f.six ≡ g.six
  pub source : f.source ≡ g.source
  pub target : f.target ≡ g.target
  pub ident : f.ident ≡ g.ident

beq-is : (a b : Bool) → beq a b ≡ true → a ≡ b
beq-is true true same = refl
beq-is true false same = absurd (false≢true same)
beq-is false true same = absurd (false≢true same)
beq-is false false same = refl

pub same_datagram : (f g : FragmentHead) → same_key f g ≡ true → IsSameDatagram f g
same_datagram f g same =
    let first = and_parts (beq f.six g.six) (same_address f.source g.source && (same_address f.target g.target && ((f.six || (f.next == g.next)) && (f.ident == g.ident)))) same in
    let second = and_parts (same_address f.source g.source) (same_address f.target g.target && ((f.six || (f.next == g.next)) && (f.ident == g.ident))) first.1 in
    let third = and_parts (same_address f.target g.target) ((f.six || (f.next == g.next)) && (f.ident == g.ident)) second.1 in
    let fourth = and_parts (f.six || (f.next == g.next)) (f.ident == g.ident) third.1 in
    record {
      six = beq-is f.six g.six first.0;
      source = same_address-is f.source g.source second.0;
      target = same_address-is f.target g.target third.0;
      ident = eqb-true f.ident g.ident fourth.1;
    }
