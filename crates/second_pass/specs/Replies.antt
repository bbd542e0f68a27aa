-- Which requests of HTTP the final responses answer: the n-th of a direction answers the n-th request of the other (RFC 9112,
-- 9.3.2), if that is in an earlier frame, which its backward link names.
use Rattle.std.specs.Prelude.{ℕ, ◌&&◌, nat_lt, if◌then◌else◌, List, [], ◌∷◌, Option, Some, None, option_and_then}
use Rattle.std.specs.Option.{option_or}
use Rattle.second_pass.specs.declared.messages.Direction.{Direction}
use Rattle.second_pass.specs.declared.messages.Kind.{Kind}
use Rattle.second_pass.specs.declared.messages.Kind.TheVariants.{Request, Response}
use Rattle.second_pass.specs.declared.messages.Message.{Message}
use Rattle.second_pass.specs.Messages.{is_other, is_request, requests_sent, responses_sent}
use Rattle.second_pass.specs.Named.{is_query, same_query}

-- the request in a frame that is a direction's n-th, from 0: so many requests of its direction stand before it. It is told by
-- its direction, and its number among the frame's layers of HTTP
abbrev pub request_of : List Message → ℕ × ℕ → Option (Direction × ℕ)
request_of [] key = None
request_of (m ∷ ms) key =
    option_or (request_of ms key)
    (if is_request m.kind && same_query (m.frame, requests_sent ms m.at) key
    then Some (m.at, m.nth) else None)

abbrev pub by_other : ℕ → Direction → Direction × ℕ → Option (ℕ × ℕ)
by_other frame at request = if is_other request.0 at then Some (frame, request.1) else None

-- the request that a response answers, by its frame and its number among the frame's layers of HTTP
abbrev pub answered : List Message → Direction → Option ℕ → Option (ℕ × ℕ)
answered ms at None = None
answered ms at (Some frame) =
    option_and_then (by_other frame at) (request_of ms (frame, responses_sent ms at))

abbrev pub answered_of : List Message → Direction → Kind → Option (ℕ × ℕ)
answered_of ms at Request = None
answered_of ms at (Response link) = answered ms at link

-- the first later frame with a response to a request
abbrev pub reply_to : List Message → ℕ × ℕ → Option ℕ
reply_to [] request = None
reply_to (m ∷ ms) request =
    option_or (reply_to ms request)
    (if nat_lt request.0 m.frame && is_query request (answered_of ms m.at m.kind)
    then Some m.frame else None)
