-- Which noted frames links stand for; these are listed with the newest first.
use Rattle.std.specs.Prelude.{◌≡◌, ◌≤◌, ◌-◌, ◌^◌, ℕ, Bool, false, List, length, min, Option, None, Some, option_and_then}
use Rattle.std.specs.BTreeMap as tree
use Rattle.std.specs.List.{slice_get}
use Rattle.std.specs.Option.{option_map, unwrap_or}
use Rattle.std.specs.Ordering.{nat_cmp}
use Rattle.indexmap.specs.IndexMap as index
use Rattle.pk_fields.specs.Ids.{IP_FRAGMENT, IPV6_FRAGMENT, TCP_SEGMENT}
use Rattle.second_pass.specs.declared.answers.Answers.{Answers}
use Rattle.second_pass.specs.declared.counts.Counts.{Counts}
use Rattle.second_pass.specs.declared.exchanges.Exchanges.{Exchanges}
use Rattle.second_pass.specs.declared.firsts.Firsts.{Firsts}
use Rattle.second_pass.specs.declared.links.Links.{Links}
use Rattle.second_pass.specs.declared.messages.Direction.{Direction}
use Rattle.second_pass.specs.declared.messages.Message.{Message}
use Rattle.second_pass.specs.declared.requests.Asked.{Asked}
use Rattle.second_pass.specs.declared.requests.Requests.{Requests}
use Rattle.second_pass.specs.Messages.{messages, same_direction, requests_sent, responses_sent}
use Rattle.second_pass.specs.Replies.{request_of, reply_to}
use Rattle.second_pass.specs.Named.{Noted, oldest, names, has_answer, same_query}

-- the first frame that names one, as it is kept
abbrev pub first_in : Firsts → ℕ → Option ℕ
first_in firsts frame = tree.get nat_cmp firsts.all frame

-- the first frame that answers a query, as it is kept
abbrev pub answer_in : Answers → ℕ × ℕ → Option ℕ
answer_in answers query = index.get same_query answers.all query

-- a number as it is counted: at its last value a count stands still
abbrev pub counted : ℕ → ℕ
counted number = min number (2 ^ 64 - 1)

-- how many messages a direction had, as they are counted
abbrev pub count_in : Counts → Direction → ℕ
count_in counts at = unwrap_or (index.get same_direction counts.all at) 0

-- the direction at a place, in the order in which they were first counted
abbrev pub direction_at : Counts → ℕ → Option Direction
direction_at counts place = option_map (λ entry. entry.0) (slice_get counts.all.entries place)

-- the place of the request of a frame and number, and the request, as they are kept
abbrev pub place_in : Requests → ℕ × ℕ → Option ℕ
place_in requests key = index.get same_query requests.places key

abbrev pub asked_in : Requests → ℕ × ℕ → Option Asked
asked_in requests key = option_and_then (slice_get requests.asked.items) (place_in requests key)

-- a request as it is kept: by the place of its direction
pub record IsKeptAs (counts : Counts) (asked : List Asked) (place : ℕ) (request : Direction × ℕ) : Type 0 where
  pub one : Asked
  pub there : slice_get asked place ≡ Some one
  pub at : direction_at counts one.place ≡ Some request.0
  pub nth : one.nth ≡ request.1

abbrev pub IsFound : Counts → List Asked → Option ℕ → Option (Direction × ℕ) → Type 0
IsFound counts asked None None = Unit
IsFound counts asked None (Some request) = ⊥
IsFound counts asked (Some place) None = ⊥
IsFound counts asked (Some place) (Some request) = IsKeptAs counts asked place request

-- the same as it is looked up
abbrev pub request_in : Exchanges → ℕ × ℕ → Option (Direction × ℕ)
request_in exchanges key =
    option_and_then (λ asked. option_map (λ at. (at, asked.nth)) (direction_at exchanges.requests_sent asked.place))
    (asked_in exchanges.requests key)

-- the messages of HTTP, with the newest first; no direction had more requests than there are
pub record HasMessages (ms : List Message) (exchanges : Exchanges) : Type 0 where
  pub most : (at : Direction) → requests_sent ms at ≤ length exchanges.requests.asked.items
  pub requests_sent : (at : Direction) → count_in exchanges.requests_sent at ≡ counted (requests_sent ms at)
  pub responses_sent : (at : Direction) → count_in exchanges.responses_sent at ≡ counted (responses_sent ms at)
  pub requests : (key : ℕ × ℕ)
      → IsFound exchanges.requests_sent exchanges.requests.asked.items (place_in exchanges.requests key) (request_of ms key)
  pub replies : (request : ℕ × ℕ) → answer_in exchanges.replies request ≡ reply_to ms request

pub record HasLinks (past : List Noted) (links : Links) : Type 0 where
  pub fragments : (frame : ℕ) → first_in links.fragments frame ≡ oldest (names IP_FRAGMENT frame) past
  pub fragments6 : (frame : ℕ) → first_in links.fragments6 frame ≡ oldest (names IPV6_FRAGMENT frame) past
  pub segments : (frame : ℕ) → first_in links.segments frame ≡ oldest (names TCP_SEGMENT frame) past
  pub queries : (query : ℕ × ℕ) → answer_in links.answers query ≡ oldest (has_answer query) past
  pub messages : HasMessages (messages past) links.exchanges

-- whether the links were given up
abbrev pub is_spent : Links → Bool
is_spent links = links.spent

unfoldable pub Stands : List Noted → Links → Type 0
Stands past links = (is_spent links ≡ false) × HasLinks past links
