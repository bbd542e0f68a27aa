-- The laws of the first message.
use Rattle.std.proofs.Common.{zero, suc, ◌≡◌, ℕ, ◌<◌, ◌≤◌, Bool, true, List, [], ◌++◌, length, refl, sym, ap, ◌∙◌, subst, arith, length-append, Option, Some, None, ◌+◌}
use Rattle.std.specs.Prelude.{nat_le}
use Rattle.stream_messages.specs.declared.plans.Plan.{Plan}
use Rattle.stream_messages.specs.declared.plans.Plan.TheVariants.{Bare, Chunks, Fixed, Pass, Unknown}
use Rattle.stream_messages.specs.declared.plans.Start.{Start}
use Rattle.stream_messages.specs.declared.shape.Body.{Body}
use Rattle.stream_messages.specs.declared.shape.Body.TheVariants.{None as Bodiless, Plain, Chunked, NotShown}
use Rattle.stream_messages.specs.declared.shape.Piece.{Piece}
use Rattle.stream_messages.specs.declared.shape.Then.TheVariants.{Follows, Opaque}
use Rattle.stream_messages.specs.declared.shape.Shape.{Shape}
use Rattle.stream_messages.specs.Heads.{Head, Request, Response, print_head, is_request_at, head_of}
use Rattle.stream_messages.specs.Plans.{start_of, plan_of}
use Rattle.stream_messages.specs.Chunks.{first_place, shape_of}
use Rattle.stream_messages.specs.Limits.{body_limit, turn_limit}
use Rattle.stream_messages.specs.Sizes.{size_of_pieces}
use Rattle.stream_messages.specs.HttpMessages.{if_there, shape_by, by_shape, by_head, first_message, FirstLaws}
use Rattle.stream_messages.proofs.HeadLemmas.{chosen}
use Rattle.stream_messages.proofs.HeadLawProofs.{head_of-stays, head_of-shrinks}
use Rattle.stream_messages.proofs.GoingLemmas.{there_is}
use Rattle.stream_messages.proofs.ChunkLemmas.{chunks_within, chunks_stay, chunks_shrink, chunks_short, IsStarted, started, hidden_started, chunks_started}

le_says : (a b : ℕ) → nat_le a b ≡ true → a ≤ b
le_says a b e = grind arith

there_says : (shape s : Shape) (bytes : List ℕ) → if_there shape bytes ≡ Some s → (shape ≡ s) × (shape.end ≤ length bytes)
there_says shape s bytes e =
    let c = chosen (nat_le shape.end (length bytes)) shape s e in
    (c.1, le_says shape.end (length bytes) c.0)

record LiesIn (head : ℕ) (bytes : List ℕ) (s : Shape) : Type 0 where
  pub behind : head ≤ s.end
  pub within : s.end ≤ length bytes

there_lies : (head : ℕ) (shape s : Shape) (bytes : List ℕ) → head ≤ shape.end → if_there shape bytes ≡ Some s → LiesIn head bytes s
there_lies head shape s bytes behind e =
    let says = there_says shape s bytes e in
    subst (LiesIn head bytes) says.0 (record { behind = behind; within = says.1 })

planned_lies : (start : Start) (plan : Plan) (bytes : List ℕ) (s : Shape) → by_shape start (shape_by start plan) bytes ≡ Some s → LiesIn start.head bytes s
planned_lies start Bare bytes s e = there_lies start.head _ s bytes (omega arith) e
planned_lies start (Fixed n) bytes s e = there_lies start.head _ s bytes (omega arith) e
planned_lies start (Pass n) bytes s e = there_lies start.head _ s bytes (omega arith) e
planned_lies start Unknown bytes s e = there_lies start.head _ s bytes (omega arith) e
planned_lies start Chunks bytes s e =
    let ends = chunks_within turn_limit start bytes (first_place start.head) [] s e in
    record { behind = omega (arith, ends.behind); within = ends.within }

planned_stays : (start : Start) (o : Option Shape) (bytes more : List ℕ) (s : Shape) → by_shape start o bytes ≡ Some s → by_shape start o (bytes ++ more) ≡ Some s
planned_stays start None bytes more s e = chunks_stay turn_limit start bytes more (first_place start.head) [] s e
planned_stays start (Some shape) bytes more s e =
    let says = there_says shape s bytes e in
    there_is shape (bytes ++ more) (omega (arith, says.1, length-append bytes more)) ∙ ap Some says.0

planned_shrinks : (start : Start) (o : Option Shape) (bytes more : List ℕ) (s : Shape) → by_shape start o (bytes ++ more) ≡ Some s → s.end ≤ length bytes
    → by_shape start o bytes ≡ Some s
planned_shrinks start None bytes more s e room = chunks_shrink turn_limit start bytes more (first_place start.head) [] s e room
planned_shrinks start (Some shape) bytes more s e room =
    let says = there_says shape s (bytes ++ more) e in
    there_is shape bytes (subst (λ (t : Shape). t.end ≤ length bytes) (sym says.0) room) ∙ ap Some says.0

pub head_start : (h : Head) → (start_of h).head ≡ length (print_head h)
head_start (Request h) = refl
head_start (Response h) = refl

none_of_nothing : (h : Head) → head_of [] ≡ Some h → ⊥
unfolding head_of is_request_at
none_of_nothing h e = absurd (cc)

head_some : (bytes : List ℕ) (h : Head) → head_of bytes ≡ Some h → 0 < length (print_head h)
head_some bytes h e = by (length (print_head h)) refl
  where
    by : (n : ℕ) → length (print_head h) ≡ n → 0 < length (print_head h)
    by zero is = absurd (none_of_nothing h (head_of-shrinks [] bytes h e (omega (arith, is))))
    by (suc n) is = omega (arith, is)

lies : (asked : Bool) (bytes : List ℕ) (h : Head) (s : Shape) → by_head asked (Some h) bytes ≡ Some s → LiesIn (length (print_head h)) bytes s
lies asked bytes h s e = subst (λ (n : ℕ). LiesIn n bytes s) (head_start h) (planned_lies (start_of h) (plan_of asked h) bytes s e)

pub first_some : (asked : Bool) (bytes : List ℕ) (s : Shape) → first_message asked bytes ≡ Some s → 0 < s.end
unfolding first_message
first_some asked bytes s e = by (head_of bytes) refl e
  where
    by : (o : Option Head) → head_of bytes ≡ o → by_head asked o bytes ≡ Some s → 0 < s.end
    by None is e = absurd (cc)
    by (Some h) is e = omega (arith, head_some bytes h is, (lies asked bytes h s e).behind)

pub first_within : (asked : Bool) (bytes : List ℕ) (s : Shape) → first_message asked bytes ≡ Some s → s.end ≤ length bytes
unfolding first_message
first_within asked bytes s e = by (head_of bytes) e
  where
    by : (o : Option Head) → by_head asked o bytes ≡ Some s → s.end ≤ length bytes
    by None e = absurd (cc)
    by (Some h) e = (lies asked bytes h s e).within

pub first_stays : (asked : Bool) (bytes more : List ℕ) (s : Shape) → first_message asked bytes ≡ Some s → first_message asked (bytes ++ more) ≡ Some s
unfolding first_message
first_stays asked bytes more s e = by (head_of bytes) refl e
  where
    by : (o : Option Head) → head_of bytes ≡ o → by_head asked o bytes ≡ Some s → by_head asked (head_of (bytes ++ more)) (bytes ++ more) ≡ Some s
    by None is e = absurd (cc)
    by (Some h) is e =
        ap (λ (o : Option Head). by_head asked o (bytes ++ more)) (head_of-stays bytes more h is)
        ∙ planned_stays (start_of h) (shape_by (start_of h) (plan_of asked h)) bytes more s e

pub first_shrinks : (asked : Bool) (bytes more : List ℕ) (s : Shape) → first_message asked (bytes ++ more) ≡ Some s → s.end ≤ length bytes → first_message asked bytes ≡ Some s
unfolding first_message
first_shrinks asked bytes more s e room = by (head_of (bytes ++ more)) refl e
  where
    by : (o : Option Head) → head_of (bytes ++ more) ≡ o → by_head asked o (bytes ++ more) ≡ Some s → by_head asked (head_of bytes) bytes ≡ Some s
    by None is e = absurd (cc)
    by (Some h) is e =
        let behind = (lies asked (bytes ++ more) h s e).behind in
        ap (λ (o : Option Head). by_head asked o bytes) (head_of-shrinks bytes more h is (omega (arith, behind, room)))
        ∙ planned_shrinks (start_of h) (shape_by (start_of h) (plan_of asked h)) bytes more s e room

pub there_body : (shape s : Shape) (bytes : List ℕ) (body : Body) → if_there shape bytes ≡ Some s → s.body ≡ body → shape.body ≡ body
there_body shape s bytes body e is = ap (λ (s : Shape). s.body) (there_says shape s bytes e).0 ∙ is

planned_short : (start : Start) (plan : Plan) (bytes : List ℕ) (s : Shape) (pieces : List Piece) → by_shape start (shape_by start plan) bytes ≡ Some s
    → s.body ≡ Chunked pieces → size_of_pieces pieces ≤ body_limit
planned_short start Bare bytes s pieces e body = let other : Bodiless ≡ Chunked pieces = there_body (shape_of start Bodiless start.head (Follows 0)) s bytes (Chunked pieces) e body in absurd (cc)
planned_short start (Fixed n) bytes s pieces e body =
    let other : Plain n ≡ Chunked pieces = there_body (shape_of start (Plain n) (start.head + n) (Follows 0)) s bytes (Chunked pieces) e body in absurd (cc)
planned_short start (Pass n) bytes s pieces e body =
    let other : NotShown ≡ Chunked pieces = there_body (shape_of start NotShown start.head (Follows n)) s bytes (Chunked pieces) e body in absurd (cc)
planned_short start Unknown bytes s pieces e body =
    let other : NotShown ≡ Chunked pieces = there_body (shape_of start NotShown start.head Opaque) s bytes (Chunked pieces) e body in absurd (cc)
planned_short start Chunks bytes s pieces e body = chunks_short turn_limit start bytes (first_place start.head) [] pieces s refl (omega arith) e body

pub first_short : (asked : Bool) (bytes : List ℕ) (s : Shape) (pieces : List Piece) → first_message asked bytes ≡ Some s → s.body ≡ Chunked pieces
    → size_of_pieces pieces ≤ body_limit
unfolding first_message
first_short asked bytes s pieces e body = by (head_of bytes) e
  where
    by : (o : Option Head) → by_head asked o bytes ≡ Some s → size_of_pieces pieces ≤ body_limit
    by None e = absurd (cc)
    by (Some h) e = planned_short (start_of h) (plan_of asked h) bytes s pieces e body

-- ---- what a message keeps of its head

there_started : (start : Start) (shape s : Shape) (bytes : List ℕ) → IsStarted start shape → if_there shape bytes ≡ Some s → IsStarted start s
there_started start shape s bytes is e = started start shape s is (there_says shape s bytes e).0

bare_started : (start : Start) → IsStarted start (shape_of start Bodiless start.head (Follows 0))
bare_started start = record { request = refl; head = refl; plain = λ n e. other n e }
  where
    other : (n : ℕ) → Bodiless ≡ Plain n → start.head ≡ start.head + n
    other n e = absurd (cc)

plain_started : (start : Start) (len : ℕ) → IsStarted start (shape_of start (Plain len) (start.head + len) (Follows 0))
plain_started start len = record { request = refl; head = refl; plain = λ n e. same n e }
  where
    same : (n : ℕ) → Plain len ≡ Plain n → start.head + len ≡ start.head + n
    same n e = let number : len ≡ n = cc in ap (λ (k : ℕ). start.head + k) number

planned_started : (start : Start) (plan : Plan) (bytes : List ℕ) (s : Shape) → by_shape start (shape_by start plan) bytes ≡ Some s → IsStarted start s
planned_started start Bare bytes s e = there_started start (shape_of start Bodiless start.head (Follows 0)) s bytes (bare_started start) e
planned_started start (Fixed n) bytes s e = there_started start (shape_of start (Plain n) (start.head + n) (Follows 0)) s bytes (plain_started start n) e
planned_started start (Pass n) bytes s e = there_started start (shape_of start NotShown start.head (Follows n)) s bytes (hidden_started start start.head (Follows n)) e
planned_started start Unknown bytes s e = there_started start (shape_of start NotShown start.head Opaque) s bytes (hidden_started start start.head Opaque) e
planned_started start Chunks bytes s e = chunks_started turn_limit start bytes (first_place start.head) [] s e

pub record FirstHead (bytes : List ℕ) (s : Shape) : Type 0 where
  pub head : Head
  pub found : head_of bytes ≡ Some head
  pub is : IsStarted (start_of head) s

pub first_head : (asked : Bool) (bytes : List ℕ) (s : Shape) → first_message asked bytes ≡ Some s → FirstHead bytes s
unfolding first_message
first_head asked bytes s e = by (head_of bytes) refl e
  where
    by : (o : Option Head) → head_of bytes ≡ o → by_head asked o bytes ≡ Some s → FirstHead bytes s
    by None is e = absurd (cc)
    by (Some h) is e = record { head = h; found = is; is = planned_started (start_of h) (plan_of asked h) bytes s e }

pub laws_of_messages : FirstLaws
laws_of_messages = record { some = first_some; within = first_within; stays = first_stays; shrinks = first_shrinks; short = first_short }
