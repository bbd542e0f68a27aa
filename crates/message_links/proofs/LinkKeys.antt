-- The derived equalities of keys are those of the definitions.
use Rattle.std.proofs.Common.{◌≡◌, ◌==◌, ℕ, Bool, true, false, ◌&&◌, eqb, refl, ap, ◌∙◌}
use Rattle.std.proofs.Math.Bool.{beq}
use Rattle.std.specs.Cmp.{unsigned_tied}
use Rattle.std.specs.Ordering.{nat_cmp, bool_cmp, ordering_then, is_eq}
use Rattle.std.specs.declared.cmp.Ordering.{Ordering}
use Rattle.std.specs.declared.cmp.Ordering.TheVariants.{Less, Equal, Greater}
use Rattle.std.proofs.lemmas.Bool.{and_parts, eqb-true}
use Rattle.message_links.specs.declared.notes.Direction.{Direction}
use Rattle.message_links.specs.declared.notes.QueryKey.{QueryKey}
use Rattle.tcp_streams.specs.Conversations.{same_bool}
use Rattle.message_links.specs.Links.{same_direction, same_query}
use Rattle.message_links.specs.LinkTables.{query_cmp}

bool_is : (a b : Bool) → beq a b ≡ same_bool a b
bool_is true true = refl
bool_is true false = refl
bool_is false true = refl
bool_is false false = refl

abbrev pub derived_direction : Direction → Direction → Bool
derived_direction a b = beq a.tcp b.tcp && (eqb a.stream b.stream && beq a.side b.side)

pub direction_eq_is : derived_direction ≡ same_direction
direction_eq_is = λ i a b. bool_is a.tcp b.tcp i && (eqb a.stream b.stream && bool_is a.side b.side i)

tied_then : (x y : Ordering) → is_eq (ordering_then x y) ≡ (is_eq x && is_eq y)
tied_then Less y = refl
tied_then Equal y = refl
tied_then Greater y = refl

tied_bool : (a b : Bool) → is_eq (bool_cmp a b) ≡ same_bool a b
tied_bool true true = refl
tied_bool true false = refl
tied_bool false true = refl
tied_bool false false = refl

turned : (stream id tcp : Bool) → (stream && (id && tcp)) ≡ (tcp && (stream && id))
turned true true true = refl
turned true true false = refl
turned true false true = refl
turned true false false = refl
turned false id true = refl
turned false id false = refl

-- two keys tie where they are the same
pub query_tied : (a b : QueryKey) → is_eq (query_cmp a b) ≡ same_query a b
query_tied a b =
    tied_then (nat_cmp a.stream b.stream) (ordering_then (nat_cmp a.id b.id) (bool_cmp a.tcp b.tcp))
    ∙ ap (λ (o : Bool). is_eq (nat_cmp a.stream b.stream) && o) (tied_then (nat_cmp a.id b.id) (bool_cmp a.tcp b.tcp))
    ∙ rw (unsigned_tied a.stream b.stream, unsigned_tied a.id b.id, tied_bool a.tcp b.tcp) (turned (a.stream == b.stream) (a.id == b.id) (same_bool a.tcp b.tcp))

-- such directions are one
pub same_is : (a b : Bool) → same_bool a b ≡ true → a ≡ b
same_is true true same = refl
same_is true false same = absurd (cc)
same_is false true same = absurd (cc)
same_is false false same = refl

pub direction_is : (one other : Direction) → same_direction one other ≡ true → one ≡ other
direction_is one other same =
    let outer = and_parts (same_bool one.tcp other.tcp) (eqb one.stream other.stream && same_bool one.side other.side) same in
    let inner = and_parts (eqb one.stream other.stream) (same_bool one.side other.side) outer.1 in
    ap (λ (tcp : Bool). record { tcp = tcp; stream = one.stream; side = one.side }) (same_is one.tcp other.tcp outer.0)
    ∙ ap (λ (stream : ℕ). record { tcp = other.tcp; stream = stream; side = one.side }) (eqb-true one.stream other.stream inner.0)
    ∙ ap (λ (side : Bool). record { tcp = other.tcp; stream = other.stream; side = side }) (same_is one.side other.side inner.1)
