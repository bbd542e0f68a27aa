-- Which trees statistics stand for; these are listed with the newest first.
use Rattle.std.specs.Prelude.{◌≡◌, ◌<◌, ◌++◌, ℕ, suc, Bool, false, List, length, map, take, Option, Some, IfSome, option_and_then}
use Rattle.std.specs.List.{slice_get}
use Rattle.std.specs.BTreeMap as tree
use Rattle.std.specs.Option.{option_or}
use Rattle.std.specs.Ordering.{nat_cmp}
use Rattle.std.specs.Str.{bytes_eq}
use Rattle.std.specs.String.{string_bytes}
use Rattle.pk_tree.specs.Trees.{TreeShown}
use Rattle.cap_stats.specs.declared.counts.Talk.{Talk}
use Rattle.cap_stats.specs.declared.counts.Tally.{Tally}
use Rattle.cap_stats.specs.declared.kind.StatKind.{StatKind}
use Rattle.cap_stats.specs.declared.kind.StatKind.TheVariants.{ConvTcp, ConvIp, Phs}
use Rattle.cap_stats.specs.declared.pairs.Pairs.{Pairs}
use Rattle.cap_stats.specs.declared.party.Flight.{Flight}
use Rattle.cap_stats.specs.declared.paths.Paths.{Paths}
use Rattle.cap_stats.specs.declared.paths.Step.{Step}
use Rattle.cap_stats.specs.declared.stats.Stats.{Stats}
use Rattle.cap_stats.specs.declared.streams.Streams.{Streams}
use Rattle.cap_stats.specs.Counts.{of_key, sizes_tally, talk_of}
use Rattle.cap_stats.specs.Keys.{below, same_number, numbers_in, texts_in, same_pair, pair_cmp, pairs_in}
use Rattle.cap_stats.specs.Tables.{segments_of, packets_of, paths_of}
use Rattle.cap_stats.specs.Told.{path_of}

-- what was sent in the stream of a number, among those that came in turn or among the others
abbrev pub talk_at : Streams → ℕ → Option Talk
talk_at streams number =
    option_or (slice_get streams.first.items number) (tree.get nat_cmp streams.rest number)

-- the numbers of all streams, in their order
abbrev pub numbers_of : Streams → List ℕ
numbers_of streams = below (length streams.first.items) ++ tree.keys streams.rest

-- the streams of segments
pub record HasStreams (notes : List (ℕ × Flight)) (streams : Streams) : Type 0 where
  pub keys_are : numbers_of streams ≡ numbers_in notes
  pub talks : (number : ℕ) → talk_at streams number ≡ talk_of (of_key same_number number notes)

-- what was sent between two addresses
abbrev pub pair_talk : Pairs → ℕ × ℕ → Option Talk
pair_talk pairs pair =
    option_and_then (slice_get pairs.talks.items) (tree.get pair_cmp pairs.all pair)

-- each pair has its place in the order
pub record AreInOrder (pairs : Pairs) : Type 0 where
  pub found : (pair : ℕ × ℕ) (place : ℕ) → tree.get pair_cmp pairs.all pair ≡ Some place
      → slice_get pairs.order.items place ≡ Some pair
  pub known : (pair : ℕ × ℕ) (place : ℕ) → slice_get pairs.order.items place ≡ Some pair
      → tree.get pair_cmp pairs.all pair ≡ Some place
  pub count : length pairs.talks.items ≡ length pairs.order.items

-- the pairs of packets
pub record HasPairs (notes : List ((ℕ × ℕ) × Flight)) (pairs : Pairs) : Type 0 where
  pub keys_are : pairs.order.items ≡ pairs_in notes
  pub talks : (pair : ℕ × ℕ) → pair_talk pairs pair ≡ talk_of (of_key same_pair pair notes)
  pub places : AreInOrder pairs

-- what is counted of a path
abbrev pub tally_at : Paths → List ℕ → Option Tally
tally_at paths path = option_and_then (slice_get paths.tallies.items) (tree.get_by_text paths.all path)

-- the protocols of the layers that are remembered
abbrev pub recent_of : Paths → List ℕ
recent_of paths = map (λ (step : Step). step.proto) paths.recent.items

-- each path has a place of its own among the tallies
pub record AreApart (paths : Paths) : Type 0 where
  pub within : (path : List ℕ) → IfSome (tree.get_by_text paths.all path) (λ place. place < length paths.tallies.items)
  pub apart : (one other : List ℕ) (place : ℕ) → tree.get_by_text paths.all one ≡ Some place
      → tree.get_by_text paths.all other ≡ Some place → one ≡ other

-- each layer that is remembered has the place of the path that ends with it
abbrev pub AreRecent : Paths → Type 0
AreRecent paths = (at : ℕ) (step : Step) → slice_get paths.recent.items at ≡ Some step
    → tree.get_by_text paths.all (path_of (take (suc at) (recent_of paths))) ≡ Some step.place

-- the paths of frames
pub record HasPaths (notes : List (List ℕ × ℕ)) (paths : Paths) : Type 0 where
  pub keys_are : map string_bytes (tree.keys paths.all) ≡ texts_in notes
  pub tallies : (path : List ℕ) → tally_at paths path ≡ sizes_tally (of_key bytes_eq path notes)
  pub places : AreApart paths
  pub recent : AreRecent paths

-- what is kept for the table of a kind
abbrev pub HasNotes : StatKind → List TreeShown → Stats → Type 0
HasNotes ConvTcp past stats = HasStreams (segments_of past) stats.streams
HasNotes ConvIp past stats = HasPairs (packets_of past) stats.pairs
HasNotes Phs past stats = HasPaths (paths_of past) stats.paths

-- whether the statistics were given up
abbrev pub is_spent : Stats → Bool
is_spent stats = stats.spent

-- what they count
abbrev pub kind_of : Stats → StatKind
kind_of stats = stats.kind

unfoldable pub Stands : List TreeShown → Stats → Type 0
Stands past stats = (is_spent stats ≡ false) × HasNotes (kind_of stats) past stats
