-- The first message in bytes of a stream: how many bytes it takes, and what follows it.
use Rattle.std.specs.Prelude.{◌≡◌, ◌<◌, ◌≤◌, ℕ, if◌then◌else◌, Bool, ◌||◌, List, ◌++◌, length, Option, Some}
use Rattle.std.specs.Option.{option_map}
use Rattle.stream_messages.specs.declared.shape.Then.{Then}
use Rattle.stream_messages.specs.declared.shape.Then.TheVariants.{Follows, Opaque}
use Rattle.stream_messages.specs.HttpMessages.{first_message}
use Rattle.stream_messages.specs.Framers.{first_sized}
use Rattle.stream_messages.specs.declared.framer.Framer.{Framer}
use Rattle.stream_messages.specs.declared.framer.Framer.TheVariants as framers
use Rattle.stream_messages.specs.declared.told.Told.{Told}
use Rattle.stream_messages.specs.declared.told.Told.TheVariants.{Sized, Http}

-- the first message; an HTTP response that begins here is to HEAD where it is asked (RFC 9112, 6.3)
abbrev pub first_of : Framer → Bool → List ℕ → Option Told
first_of (framers.LengthPrefix head at width) asked bytes = option_map Sized (first_sized head at width bytes)
first_of framers.Http asked bytes = option_map Http (first_message asked bytes)

-- the bytes of a message
abbrev pub end_of : Told → ℕ
end_of (Sized end) = end
end_of (Http shape) = shape.end

-- what follows it
abbrev pub then_of : Told → Then
then_of (Sized end) = Follows 0
then_of (Http shape) = shape.then

-- the bytes that are passed over
abbrev pub passed : Then → ℕ
passed (Follows count) = count
passed Opaque = 0

-- how many requests it answers: an interim response answers none (RFC 9110, 15.2)
abbrev pub answers : Told → ℕ
answers (Sized end) = 0
answers (Http shape) = if shape.request || shape.interim then 0 else 1

-- a first message has a byte, lies in the bytes, and depends on nothing behind it
pub record ToldLaws : Type 0 where
  pub some : (framer : Framer) (asked : Bool) (bytes : List ℕ) (told : Told)
      → first_of framer asked bytes ≡ Some told → 0 < end_of told
  pub within : (framer : Framer) (asked : Bool) (bytes : List ℕ) (told : Told)
      → first_of framer asked bytes ≡ Some told → end_of told ≤ length bytes
  pub stays : (framer : Framer) (asked : Bool) (bytes more : List ℕ) (told : Told)
      → first_of framer asked bytes ≡ Some told
      → first_of framer asked (bytes ++ more) ≡ Some told
  pub shrinks : (framer : Framer) (asked : Bool) (bytes more : List ℕ) (told : Told)
      → first_of framer asked (bytes ++ more) ≡ Some told
      → end_of told ≤ length bytes → first_of framer asked bytes ≡ Some told
