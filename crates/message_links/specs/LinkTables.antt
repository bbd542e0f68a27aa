-- What is kept of the messages that frames showed, and the list of them that it stands for.
use Rattle.std.specs.Prelude.{◌≡◌, ◌-◌, ◌^◌, ℕ, min, List, [], Option, unwrap_or}
use Rattle.std.specs.Option.{option_map}
use Rattle.std.specs.BTreeMap as tree
use Rattle.std.specs.Ordering.{nat_cmp, bool_cmp, ordering_then}
use Rattle.std.specs.declared.cmp.Ordering.{Ordering}
use Rattle.indexmap.specs.IndexMap.{get}
use Rattle.message_links.specs.declared.link_tables.Counts.{Counts}
use Rattle.message_links.specs.declared.link_tables.Queries.{Queries}
use Rattle.message_links.specs.declared.link_tables.Requests.{Requests}
use Rattle.message_links.specs.declared.links.Links.{Links}
use Rattle.message_links.specs.declared.notes.Direction.{Direction}
use Rattle.message_links.specs.declared.notes.QueryKey.{QueryKey}
use Rattle.message_links.specs.Links.{answers_in, query_before, requests_in, same_direction}
use Rattle.message_links.specs.Notes.{Noted}

-- the order of queries' keys
abbrev pub query_cmp : QueryKey → QueryKey → Ordering
query_cmp one other = ordering_then (nat_cmp one.stream other.stream)
    (ordering_then (nat_cmp one.id other.id) (bool_cmp one.tcp other.tcp))

abbrev pub query_in : Queries → QueryKey → Option ℕ
query_in queries key = tree.get query_cmp queries.all key

-- the frames of a direction's requests
abbrev pub requests_at : Requests → Direction → List ℕ
requests_at requests at =
    unwrap_or (option_map (λ frames. frames.items) (get same_direction requests.all at)) []

abbrev pub count_in : Counts → Direction → ℕ
count_in counts at = unwrap_or (get same_direction counts.all at) 0

-- a number as it is counted: at its last value a count stands still
abbrev pub counted : ℕ → ℕ
counted number = min number (2 ^ 64 - 1)

-- the latest frame with each query, the frames of the requests and how many answers each direction had
pub record LinksStandFor (ns : List Noted) (links : Links) : Type 0 where
  pub queries : (key : QueryKey) → query_in links.queries key ≡ query_before ns key
  pub requests : (at : Direction) → requests_at links.requests at ≡ requests_in ns at
  pub answers : (at : Direction) → count_in links.answers at ≡ counted (answers_in ns at)
