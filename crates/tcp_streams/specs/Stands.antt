-- The streams that stand for a list of segments, the newest first.
use Rattle.std.specs.Prelude.{◌≡◌, ℕ, ◌*◌, ◌^◌, ◌<◌, ◌≤◌, Bool, true, false, if◌then◌else◌, List, [], ◌∷◌, length, Option, None, Some, slice_get, option_map}
use Rattle.tcp_streams.specs.declared.segment.Segment.{Segment}
use Rattle.tcp_streams.specs.declared.segment.Taken.{Taken}
use Rattle.tcp_streams.specs.declared.stream.Stream.{Stream}
use Rattle.tcp_streams.specs.declared.ends.Ends.{Ends}
use Rattle.tcp_streams.specs.declared.newest.Newest.{Newest}
use Rattle.tcp_streams.specs.Ways.{nothing, end_of, own_step, other_step, way_step, same_side, IsWay, HoldsAtMost}
use Rattle.tcp_streams.specs.States.{state_of}
use Rattle.tcp_streams.specs.Conversations.{ends_of, number_of}
use Rattle.tcp_streams.specs.Labels.{Label, latest, opened, opener, way_of, restarts, side_from, told}

abbrev pub AllBelow : ℕ → List Label → Type 0
AllBelow n [] = Unit {0}
AllBelow n (l ∷ ls) = (l.stream < n) × AllBelow n ls

pub record IsStreamOf (ls : List Label) (number : ℕ) (stream : Stream) : Type 0 where
  pub first : opener number ls ≡ Some stream.first
  pub zero : state_of stream.zero ≡ way_of number false ls
  pub one : state_of stream.one ≡ way_of number true ls

pub record Agrees (ls : List Label) (newest : Newest) (streams : List Stream) : Type 0 where
  pub count : length streams ≡ opened ls
  pub below : AllBelow (opened ls) ls
  pub known : (s : Segment) → number_of newest (ends_of s) ≡ option_map (λ l. l.stream) (latest s ls)
  pub each : (number : ℕ) (stream : Stream) → slice_get streams number ≡ Some stream → IsStreamOf ls number stream

-- what the streams keep, whatever was taken: neither direction has gone far
pub record IsSoundStream (taken : ℕ) (stream : Stream) : Type 0 where
  pub zero : IsWay (state_of stream.zero)
  pub one : IsWay (state_of stream.one)
  pub zero_room : end_of (state_of stream.zero) ≤ 2 ^ 25 * taken
  pub one_room : end_of (state_of stream.one) ≤ 2 ^ 25 * taken

pub record IsSound (newest : Newest) (streams : List Stream) (taken : ℕ) : Type 0 where
  pub count : length streams ≤ taken
  pub within : (ends : Ends) (number : ℕ) → number_of newest ends ≡ Some number → number < length streams
  pub each : (number : ℕ) (stream : Stream) → slice_get streams number ≡ Some stream → IsSoundStream taken stream

-- and neither holds more bytes than all segments had
pub record IsFilled (bytes : ℕ) (stream : Stream) : Type 0 where
  pub zero : HoldsAtMost bytes (state_of stream.zero)
  pub one : HoldsAtMost bytes (state_of stream.one)

abbrev pub AreFilled : ℕ → List Stream → Type 0
AreFilled bytes streams = (number : ℕ) (stream : Stream) → slice_get streams number ≡ Some stream → IsFilled bytes stream

-- the stream that a segment goes on with, as the objects have it
abbrev pub origin_in : Stream → Segment → Option ℕ
origin_in stream s = if side_from stream.first s then stream.one.origin else stream.zero.origin

-- a stream before and after one of its segments
pub record IsStepped (number : ℕ) (side : Bool) (s : Segment) (old new : Stream) (taken : Taken) : Type 0 where
  pub first : new.first ≡ old.first
  pub zero : state_of new.zero ≡ way_step (same_side false side) (state_of old.zero) s
  pub one : state_of new.one ≡ way_step (same_side true side) (state_of old.one) s
  pub told_is : taken ≡ (if side then told number true (state_of old.one) (state_of old.zero) s else told number false (state_of old.zero) (state_of old.one) s)

-- a stream after the segment that opens it
pub record IsOpened (number : ℕ) (s : Segment) (new : Stream) (taken : Taken) : Type 0 where
  pub first : new.first ≡ s.from
  pub zero : state_of new.zero ≡ own_step nothing s
  pub one : state_of new.one ≡ other_step nothing s
  pub told_is : taken ≡ told number false nothing nothing s

abbrev pub current_on : Option Stream → ℕ → Segment → Option ℕ
current_on None number s = None
current_on (Some stream) number s = if restarts (origin_in stream s) s then None else Some number

abbrev pub current_at : Option ℕ → List Stream → Segment → Option ℕ
current_at None streams s = None
current_at (Some number) streams s = current_on (slice_get streams number) number s

abbrev pub current_in : Newest → List Stream → Segment → Option ℕ
current_in newest streams s = current_at (number_of newest (ends_of s)) streams s
