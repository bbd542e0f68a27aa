-- Links from messages to those of earlier frames. Lists of noted messages have the newest first.
use Rattle.std.specs.Prelude.{◌==◌, ℕ, ◌+◌, Bool, true, false, not, ◌&&◌, if◌then◌else◌, List, [], ◌∷◌, ◌++◌, Option, Some, None, slice_get}
use Rattle.message_links.specs.declared.notes.Direction.{Direction}
use Rattle.message_links.specs.declared.notes.Note.{Note}
use Rattle.message_links.specs.declared.notes.Note.TheVariants.{Query, Response, Request, Answer, Other}
use Rattle.message_links.specs.declared.notes.QueryKey.{QueryKey}
use Rattle.tcp_streams.specs.Conversations.{same_bool}
use Rattle.message_links.specs.Notes.{Noted}

abbrev pub same_direction : Direction → Direction → Bool
same_direction one other = same_bool one.tcp other.tcp && (one.stream == other.stream && same_bool one.side other.side)

abbrev pub same_query : QueryKey → QueryKey → Bool
same_query one other = same_bool one.tcp other.tcp && (one.stream == other.stream && one.id == other.id)

-- what a query is found by: its stream, and its id
abbrev pub key_of : Direction → ℕ → QueryKey
key_of at id = record { tcp = at.tcp; stream = at.stream; id = id }

abbrev pub asks_by : Note → Direction → QueryKey → Bool
asks_by (Query id) at key = same_query (key_of at id) key
asks_by (Response id) at key = false
asks_by Request at key = false
asks_by Answer at key = false
asks_by Other at key = false

-- the latest frame with a query of an id in a stream
abbrev pub query_before : List Noted → QueryKey → Option ℕ
query_before [] key = None
query_before (n ∷ ns) key = if asks_by n.note n.at key then Some n.frame else query_before ns key

abbrev pub is_request : Note → Bool
is_request (Query id) = false
is_request (Response id) = false
is_request Request = true
is_request Answer = false
is_request Other = false

abbrev pub is_answer : Note → Bool
is_answer (Query id) = false
is_answer (Response id) = false
is_answer Request = false
is_answer Answer = true
is_answer Other = false

-- the frames of a direction's requests, the first request's first
abbrev pub requests_in : List Noted → Direction → List ℕ
requests_in [] at = []
requests_in (n ∷ ns) at = if is_request n.note && same_direction n.at at then requests_in ns at ++ n.frame ∷ [] else requests_in ns at

-- how many answers a direction had
abbrev pub answers_in : List Noted → Direction → ℕ
answers_in [] at = 0
answers_in (n ∷ ns) at = if is_answer n.note && same_direction n.at at then answers_in ns at + 1 else answers_in ns at

abbrev pub other_side : Direction → Direction
other_side at = record at { side = not at.side }

-- the earlier frame that a message belongs to, by the messages of earlier frames, and how many answers of its direction stand before
-- it: a response of DNS to the latest query of its id in its stream; the n-th answer of a direction of HTTP to the n-th request of the
-- other (RFC 9112, 9.3.2), of which there is none where both ends of a stream are the same
abbrev pub link_of : List Noted → Direction → ℕ → Note → Option ℕ
link_of ns at number (Query id) = None
link_of ns at number (Response id) = query_before ns (key_of at id)
link_of ns at number Request = None
link_of ns at number Answer = slice_get (requests_in ns (other_side at)) number
link_of ns at number Other = None

abbrev pub links_from : List Noted → Direction → ℕ → List Note → List (Option ℕ)
links_from ns at number [] = []
links_from ns at number (note ∷ notes) =
    link_of ns at number note ∷ links_from ns at (if is_answer note then number + 1 else number) notes

-- a frame's messages, in their order
abbrev pub links_of : List Noted → Direction → List Note → List (Option ℕ)
links_of ns at notes = links_from ns at (answers_in ns at) notes
