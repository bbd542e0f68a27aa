-- What a segment and the links of messages read of earlier frames.
use Rattle.std.proofs.Common.{◌≡◌, ◌==◌, ℕ, ◌+◌, Bool, true, false, cond, ◌&&◌, List, [], ◌∷◌, map, Option, Some, refl, sym, ap, ◌∙◌, subst, inl, inr}
use Rattle.std.specs.Prelude.{slice_get}
use Rattle.std.proofs.lemmas.Bool.{cases_Bool, false≢true}
use Rattle.tcp_streams.specs.declared.segment.Segment.{Segment}
use Rattle.tcp_streams.specs.Conversations.{same_bool}
use Rattle.tcp_streams.specs.Isolation.{AreSameSegments, IsSameButFrame, between}
use Rattle.tcp_streams.specs.Labels.{taken_after}
use Rattle.tcp_streams.proofs.Isolating.{is_isolated}
use Rattle.stream_messages.specs.declared.framer.Framer.{Framer}
use Rattle.tcp_messages.specs.declared.met.ShownMessage.{ShownMessage}
use Rattle.tcp_messages.specs.declared.met.Source.{Source}
use Rattle.tcp_messages.specs.declared.met.Source.TheVariants as sources
use Rattle.tcp_messages.specs.Renumbered.{renumbered, shown_renumbered, source_renumbered}
use Rattle.tcp_messages.specs.Shown.{shown_after}
use Rattle.tcp_messages.proofs.Alone.{stands_alone}
use Rattle.message_links.specs.declared.notes.Direction.{Direction}
use Rattle.message_links.specs.declared.notes.Note.{Note}
use Rattle.message_links.specs.declared.notes.Note.TheVariants.{Query, Response, Request, Answer, Other}
use Rattle.message_links.specs.Links.{answers_in, asks_by, is_answer, is_request, key_of, link_of, links_from, links_of, other_side, query_before, requests_in, same_direction}
use Rattle.message_links.specs.Notes.{Noted}
use Rattle.dissect.specs.Isolation.{HaveSameSegments, in_stream, same_stream}

-- ---- a segment, by the segments of its conversation

same_one : (s : Segment) → IsSameButFrame s s
same_one s = record { from = refl; to = refl; seq = refl; ack = refl; syn = refl; acked = refl; payload = refl }

same_all : (ss : List Segment) → AreSameSegments ss ss
same_all [] = tt
same_all (s ∷ ss) = (same_one s, same_all ss)

pub taken_same : (past others : List Segment) (s : Segment) → HaveSameSegments s past others → taken_after past s ≡ taken_after others s
taken_same past others s same =
    let told = (is_isolated s past others (subst (AreSameSegments (between s past)) same.segments (same_all (between s past)))).told s (same_one s) in
    λ i. record {
      stream = same.number i;
      side = told.side i;
      seq = told.seq i;
      ack = told.ack i;
      position = told.position i;
      front_before = told.front_before i;
      front_after = told.front_after i;
      lost = told.lost i;
    }

numbers_stay : (ns : List ℕ) → map (λ (n : ℕ). n) ns ≡ ns
numbers_stay [] = refl
numbers_stay (n ∷ ns) = ap (λ (ms : List ℕ). n ∷ ms) (numbers_stay ns)

source_stays : (source : Source) → source_renumbered (λ n. n) source ≡ source
source_stays (sources.Segment place) = refl
source_stays (sources.Gathered g) = ap (λ (frames : List ℕ). sources.Gathered (record { bytes = g.bytes; frames = frames })) (numbers_stay g.frames)

shown_stay : (ms : List ShownMessage) → map (shown_renumbered (λ n. n)) ms ≡ ms
shown_stay [] = refl
shown_stay (m ∷ ms) = λ i. record { message = m.message; source = source_stays m.source i } ∷ shown_stay ms i

segments_stay : (ss : List Segment) → map (renumbered (λ n. n)) ss ≡ ss
segments_stay [] = refl
segments_stay (s ∷ ss) = ap (λ (ts : List Segment). s ∷ ts) (segments_stay ss)

pub shown_same : (framer : Option Framer) (past others : List Segment) (s : Segment) → between s past ≡ between s others → shown_after framer past s ≡ shown_after framer others s
shown_same framer past others s same =
    sym ((stands_alone (λ n. n) framer past others s (λ low high a b less. less) (sym same ∙ sym (segments_stay (between s past)))).messages ∙ shown_stay (shown_after framer past s))

-- ---- links, by the messages of the stream

apart_more : (a b c : Bool) → a && b ≡ false → a && (b && c) ≡ false
apart_more true false c apart = refl
apart_more true true c apart = absurd (false≢true (sym apart))
apart_more false b c apart = refl

asks_apart : (note : Note) (other at : Direction) (id : ℕ) → same_stream other at ≡ false → asks_by note other (key_of at id) ≡ false
asks_apart (Query asked) other at id apart = apart_more (same_bool other.tcp at.tcp) (other.stream == at.stream) (asked == id) apart
asks_apart (Response asked) other at id apart = refl
asks_apart Request other at id apart = refl
asks_apart Answer other at id apart = refl
asks_apart Other other at id apart = refl

queries_of : (at : Direction) (id : ℕ) (ns : List Noted) → query_before (in_stream at ns) (key_of at id) ≡ query_before ns (key_of at id)
queries_of at id [] = refl
queries_of at id (n ∷ ns) = elim (cases_Bool (same_stream n.at at)) [
  | inl here ↦ rw here (ap (λ (o : Option ℕ). cond (asks_by n.note n.at (key_of at id)) (Some n.frame) o) (queries_of at id ns))
  | inr apart ↦ rw (apart, asks_apart n.note n.at at id apart) (queries_of at id ns)
]

and_none : (b : Bool) → b && false ≡ false
and_none true = refl
and_none false = refl

-- a direction of the same stream
counts_none : (b : Bool) (other at : Direction) (side : Bool) → same_stream other at ≡ false → b && same_direction other (record at { side = side }) ≡ false
counts_none b other at side apart =
    ap (λ (c : Bool). b && c) (apart_more (same_bool other.tcp at.tcp) (other.stream == at.stream) (same_bool other.side side) apart) ∙ and_none b

requests_of : (at : Direction) (side : Bool) (ns : List Noted) → requests_in (in_stream at ns) (record at { side = side }) ≡ requests_in ns (record at { side = side })
requests_of at side [] = refl
requests_of at side (n ∷ ns) = elim (cases_Bool (same_stream n.at at)) [
  | inl here ↦ rw here (rw (requests_of at side ns) refl)
  | inr apart ↦ rw (apart, counts_none (is_request n.note) n.at at side apart) (requests_of at side ns)
]

answers_of : (at : Direction) (side : Bool) (ns : List Noted) → answers_in (in_stream at ns) (record at { side = side }) ≡ answers_in ns (record at { side = side })
answers_of at side [] = refl
answers_of at side (n ∷ ns) = elim (cases_Bool (same_stream n.at at)) [
  | inl here ↦ rw here (rw (answers_of at side ns) refl)
  | inr apart ↦ rw (apart, counts_none (is_answer n.note) n.at at side apart) (answers_of at side ns)
]

link_stays : (at : Direction) (ns : List Noted) (number : ℕ) (note : Note) → link_of (in_stream at ns) at number note ≡ link_of ns at number note
link_stays at ns number (Query id) = refl
link_stays at ns number (Response id) = queries_of at id ns
link_stays at ns number Request = refl
link_stays at ns number Answer = ap (λ (frames : List ℕ). slice_get frames number) (requests_of at (other_side at).side ns)
link_stays at ns number Other = refl

links_stay : (at : Direction) (ns : List Noted) (number : ℕ) (notes : List Note) → links_from (in_stream at ns) at number notes ≡ links_from ns at number notes
links_stay at ns number [] = refl
links_stay at ns number (note ∷ notes) = λ i. link_stays at ns number note i ∷ links_stay at ns (cond (is_answer note) (number + 1) number) notes i

links_alone : (at : Direction) (ns : List Noted) (notes : List Note) → links_of (in_stream at ns) at notes ≡ links_of ns at notes
links_alone at ns notes =
    ap (λ (n : ℕ). links_from (in_stream at ns) at n notes) (answers_of at at.side ns) ∙ links_stay at ns (answers_in ns at) notes

pub links_same : (at : Direction) (ns others : List Noted) (notes : List Note) → in_stream at ns ≡ in_stream at others → links_of ns at notes ≡ links_of others at notes
links_same at ns others notes same =
    sym (links_alone at ns notes) ∙ ap (λ (ms : List Noted). links_of ms at notes) same ∙ links_alone at others notes
