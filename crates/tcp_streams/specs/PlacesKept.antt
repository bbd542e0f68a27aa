-- The numbers of streams, over the labels of a list of segments.
use Rattle.std.specs.Prelude.{◌≡◌, ℕ, ◌+◌, ◌*◌, ◌^◌, ◌<◌, ◌≤◌, Bool, true, false, not, if◌then◌else◌, List, length, Option, None, Some, slice_get, option_map}
use Rattle.std.specs.Global.{Box}
use Rattle.tcp_streams.specs.declared.ends.Ends.{Ends}
use Rattle.tcp_streams.specs.declared.followed.Followed.{Followed}
use Rattle.tcp_streams.specs.declared.ways.Ways.{Ways}
use Rattle.tcp_streams.specs.declared.newest.Newest.{Newest}
use Rattle.tcp_streams.specs.declared.segment.Segment.{Segment}
use Rattle.tcp_streams.specs.declared.segment.Taken.{Taken}
use Rattle.tcp_streams.specs.Ways.{WayState, nothing, own_step, other_step, way_step, same_side, IsWay}
use Rattle.tcp_streams.specs.Conversations.{comes_first, end_of_endpoint, ends_of, number_of}
use Rattle.tcp_streams.specs.Labels.{Label, latest, opened, opener, way_of, restarts, told}
use Rattle.tcp_streams.specs.Reaches.{ReachState, numbers_of, begun, IsReachOf, IsNear}
use Rattle.tcp_streams.specs.Stands.{AllBelow}

-- the numbers of both directions of a stream
pub record WaysState : Type 0 where
  pub zero : ReachState
  pub one : ReachState

abbrev pub ways_kept : Ways → WaysState
ways_kept ways = record { zero = numbers_of ways.zero; one = numbers_of ways.one }

-- as they are kept, or as they were when the stream was opened
abbrev pub ways_at : ℕ → Option (Box Ways) → WaysState
ways_at origin None = record { zero = begun (Some origin); one = begun None }
ways_at origin (Some ways) = ways_kept ways.value

abbrev pub ways_of : Followed → WaysState
ways_of stream = ways_at stream.origin stream.ways

-- whether a segment comes from the greater of its two ends
abbrev pub is_turned : Segment → Bool
is_turned s = not (comes_first (end_of_endpoint s.from) (end_of_endpoint s.to))

-- whether a segment of the same conversation comes from the end that did not open the stream
abbrev pub side_followed : Followed → Segment → Bool
side_followed stream s = if stream.turned then not (is_turned s) else is_turned s

-- the segment that opened a stream, whose conversation is that of all its segments
pub record IsOpenedBy (ls : List Label) (newest : Newest) (number : ℕ) (stream : Followed) : Type 0 where
  pub opening : Segment
  pub first : opener number ls ≡ Some opening.from
  pub turned : stream.turned ≡ is_turned opening
  pub ends : (s : Segment) → number_of newest (ends_of s) ≡ Some number → ends_of s ≡ ends_of opening

pub record IsFollowedAs (ls : List Label) (newest : Newest) (number : ℕ) (stream : Followed) : Type 0 where
  pub opened : IsOpenedBy ls newest number stream
  pub zero : IsReachOf (way_of number false ls) (ways_of stream).zero
  pub one : IsReachOf (way_of number true ls) (ways_of stream).one

pub record AgreesInPlaces (ls : List Label) (newest : Newest) (streams : List Followed) : Type 0 where
  pub count : length streams ≡ opened ls
  pub below : AllBelow (opened ls) ls
  pub known : (s : Segment) → number_of newest (ends_of s) ≡ option_map (λ l. l.stream) (latest s ls)
  pub each : (number : ℕ) (stream : Followed) → slice_get streams number ≡ Some stream → IsFollowedAs ls newest number stream

-- what is kept, whatever was taken: neither direction has gone far
pub record AreSoundWays (taken : ℕ) (ways : WaysState) : Type 0 where
  pub zero : IsNear ways.zero
  pub one : IsNear ways.one
  pub zero_room : ways.zero.end ≤ 2 ^ 25 * taken
  pub one_room : ways.one.end ≤ 2 ^ 25 * taken

abbrev pub IsSoundFollowed : ℕ → Followed → Type 0
IsSoundFollowed taken stream = AreSoundWays taken (ways_of stream)

pub record ArePlacesSound (newest : Newest) (streams : List Followed) (taken : ℕ) : Type 0 where
  pub count : length streams ≤ taken
  pub within : (ends : Ends) (number : ℕ) → number_of newest ends ≡ Some number → number < length streams
  pub each : (number : ℕ) (stream : Followed) → slice_get streams number ≡ Some stream → IsSoundFollowed taken stream

-- the stream that a segment goes on with, as its numbers have it
abbrev pub origin_followed : Followed → Segment → Option ℕ
origin_followed stream s = if side_followed stream s then (ways_of stream).one.origin else (ways_of stream).zero.origin

abbrev pub place_on : Option Followed → ℕ → Segment → Option ℕ
place_on None number s = None
place_on (Some stream) number s = if restarts (origin_followed stream s) s then None else Some number

abbrev pub place_at : Option ℕ → List Followed → Segment → Option ℕ
place_at None streams s = None
place_at (Some number) streams s = place_on (slice_get streams number) number s

abbrev pub place_in : Newest → List Followed → Segment → Option ℕ
place_in newest streams s = place_at (number_of newest (ends_of s)) streams s

-- a direction's numbers before and after a segment of its stream
pub record ReachSteps (own : Bool) (s : Segment) (old new : ReachState) : Type 0 where
  pub step : (w : WayState) → IsWay w → IsReachOf w old → IsReachOf (way_step own w s) new
  pub near : IsNear new
  pub far : new.end ≤ old.end + 2 ^ 25

-- both directions of a stream before and after one of its segments
pub record AreSteppedOn (number : ℕ) (side : Bool) (s : Segment) (old new : WaysState) (taken : Taken) : Type 0 where
  pub zero : ReachSteps (same_side false side) s old.zero new.zero
  pub one : ReachSteps (same_side true side) s old.one new.one
  pub told_is : (zero one : WayState) → IsWay zero → IsWay one → IsReachOf zero old.zero → IsReachOf one old.one
      → taken ≡ (if side then told number true one zero s else told number false zero one s)

pub record IsFollowedOn (number : ℕ) (side : Bool) (s : Segment) (old new : Followed) (taken : Taken) : Type 0 where
  pub turned : new.turned ≡ old.turned
  pub ways : AreSteppedOn number side s (ways_of old) (ways_of new) taken

-- a stream's numbers after the segment that opens it
pub record IsFollowedFrom (number : ℕ) (s : Segment) (new : Followed) (taken : Taken) : Type 0 where
  pub turned : new.turned ≡ is_turned s
  pub zero : IsReachOf (own_step nothing s) (ways_of new).zero
  pub one : IsReachOf (other_step nothing s) (ways_of new).one
  pub told_is : taken ≡ told number false nothing nothing s
  pub sound : IsSoundFollowed 1 new
