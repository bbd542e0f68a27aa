-- What a message's head says of its body (RFC 9112, 6.3), and what of it is known then.
use Rattle.std.specs.Prelude.{ℕ, if◌then◌else◌, Bool, true, false, ◌&&◌, ◌||◌, ◌==◌, List, map, length, nat_le, nat_lt, codes, Option, Some, None}
use Rattle.std.specs.Str.{bytes_eq}
use Rattle.httparse.specs.Grammar.{status_code}
use Rattle.httparse.specs.Spans.{name_and_value}
use Rattle.stream_messages.specs.declared.lengths.Lengths.{Lengths}
use Rattle.stream_messages.specs.declared.lengths.Lengths.TheVariants.{Absent, Same, Bad}
use Rattle.stream_messages.specs.declared.plans.Plan.{Plan}
use Rattle.stream_messages.specs.declared.plans.Plan.TheVariants.{Bare, Chunks, Fixed, Pass, Unknown}
use Rattle.stream_messages.specs.declared.plans.Start.{Start}
use Rattle.stream_messages.specs.declared.plans.Planned.{Planned}
use Rattle.stream_messages.specs.Limits.{body_limit}
use Rattle.stream_messages.specs.Heads.{Head, Request, Response, print_head}
use Rattle.stream_messages.specs.Fields.{is_chunked, last_of_name, lengths_of}

-- an interim response (RFC 9110, 15.2)
abbrev pub is_interim : ℕ → Bool
is_interim code = nat_le 100 code && nat_lt code 200

-- a response that has no body whatever its fields say: one to HEAD, an interim one, 204 and 304
abbrev pub is_bare : Bool → ℕ → Bool
is_bare asked code = asked || (is_interim code || (code == 204 || code == 304))

-- without a transfer coding: by the content's length, and with none a request has no body, a response one up to the close
abbrev pub by_lengths : Bool → Lengths → Plan
by_lengths request Absent = if request then Bare else Unknown
by_lengths request (Same n) = if nat_le n body_limit then Fixed n else Pass n
by_lengths request Bad = Unknown

abbrev pub by_coding : Bool → List (List ℕ × List ℕ) → Option (List ℕ) → Plan
by_coding request fields (Some value) = if is_chunked value then Chunks else Unknown
by_coding request fields None = by_lengths request (lengths_of fields)

unfoldable pub by_fields : Bool → List (List ℕ × List ℕ) → Plan
by_fields request fields =
    by_coding request fields (last_of_name (codes "transfer-encoding") fields)

abbrev pub by_code : Bool → ℕ → List (List ℕ × List ℕ) → Plan
by_code asked code fields = if is_bare asked code then Bare else by_fields false fields

-- the body that a head tells of; a response is to HEAD where it is asked
abbrev pub plan_of : Bool → Head → Plan
plan_of asked (Request h) = by_fields true (map name_and_value h.fields)
plan_of asked (Response h) = by_code asked (status_code h) (map name_and_value h.fields)

-- what else the layers above ask of a head: methods are case-sensitive (RFC 9110, 9.1)
abbrev pub start_of : Head → Start
start_of (Request h) = record {
  request = true;
  asks_head = bytes_eq h.method (codes "HEAD");
  interim = false;
  head = length (print_head (Request h));
}
start_of (Response h) = record {
  request = false;
  asks_head = false;
  interim = is_interim (status_code h);
  head = length (print_head (Response h));
}

abbrev pub planned : Bool → Head → Planned
planned asked h = record { start = start_of h; plan = plan_of asked h }
