-- Where a head ends (RFC 9112, 2.1): behind the first empty line after its start line has begun, whether it is valid or not.
use Rattle.std.specs.Prelude.{ℕ, if◌then◌else◌, ◌==◌, List, [], ◌∷◌, Option, Some, None}
use Rattle.httparse.specs.Ascii.{line_feed, carriage_return}
use Rattle.httparse.specs.Pieces.{is_newline}
use Rattle.stream_messages.specs.declared.ends.Seek.{Seek}
use Rattle.stream_messages.specs.declared.ends.Seek.TheVariants.{Before, Inside, Feed, Return}

-- what one more byte makes of it; none where the head ends with this byte
abbrev pub seek_on : Seek → ℕ → Option Seek
seek_on Before b = if is_newline b then Some Before else Some Inside
seek_on Inside b = if b == line_feed then Some Feed else Some Inside
seek_on Feed b =
    if b == line_feed then None else (if b == carriage_return then Some Return else Some Inside)
seek_on Return b = if b == line_feed then None else Some Inside

abbrev pub on_seek : (Seek → Option (List ℕ)) → List ℕ → Option Seek → Option (List ℕ)
on_seek go bytes (Some next) = go next
on_seek go bytes None = Some bytes

-- the bytes behind the head's end
abbrev pub behind_from : Seek → List ℕ → Option (List ℕ)
behind_from seek [] = None
behind_from seek (b ∷ bytes) = on_seek (λ next. behind_from next bytes) bytes (seek_on seek b)

-- what bytes in which no head ends make of it
abbrev pub seek_or : Seek → Option Seek → Seek
seek_or seek None = seek
seek_or seek (Some next) = next

abbrev pub seek_after : Seek → List ℕ → Seek
seek_after seek [] = seek
seek_after seek (b ∷ bytes) = seek_after (seek_or seek (seek_on seek b)) bytes
