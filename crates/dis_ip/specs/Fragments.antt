-- Parts of a datagram (RFC 791, 3.2; RFC 8200, 4.5).
use Rattle.std.specs.Prelude.{◌≡◌, ◌==◌, ℕ, ◌-◌, Bool, ◌||◌, nat_lt, if◌then◌else◌, List}
use Rattle.pk_base.specs.declared.span.Span.{Span}
use Rattle.pk_fields.specs.Ids.{IP, IPV6_FRAGHDR}
use Rattle.pk_base.specs.declared.heads.After.{After}
use Rattle.pk_base.specs.declared.heads.After.TheVariants as afters
use Rattle.pk_base.specs.declared.heads.FragmentHead.{FragmentHead}
use Rattle.pk_base.specs.declared.heads.Mode.{Mode}
use Rattle.pk_base.specs.declared.heads.Mode.TheVariants.{Plain, Embedded}
use Rattle.pk_base.specs.declared.heads.Next.TheVariants.{Rest}
use Rattle.pk_tree.specs.declared.layer.Layer.{Layer}
use Rattle.pk_tree.specs.Following.{carried}
use Rattle.pk_tree.specs.Layouts.{within}
use Rattle.pk_tree.specs.Trees.{last_proto}
use Rattle.dis_ip.specs.Protocols.{carried_by}

-- more fragments follow it, or it isn't the first
abbrev pub is_fragment : FragmentHead → Bool
is_fragment head = head.more || nat_lt 0 head.offset

-- what follows a header of so many bytes with this place in a datagram. A fragment comes also without bytes. An embedded
-- packet's fragments aren't joined: the first is read on, and the others carry data
unfoldable pub part_after : Mode → FragmentHead → Span → ℕ → After
part_after Plain head span header =
    if is_fragment head then afters.Fragment head (within span header (span.len - header))
    else carried_by head.six head.next span header
part_after Embedded head span header =
    if head.offset == 0 then carried_by head.six head.next span header else carried Rest span header

-- the protocol of the header that says a fragment's place
abbrev pub part_proto : Bool → ℕ
part_proto six = if six then IPV6_FRAGHDR else IP

-- behind a fragment's header its layer is the last
abbrev pub LastIsPart : List Layer → After → Type 0
LastIsPart layers (afters.Fragment head span) = last_proto layers ≡ part_proto head.six
LastIsPart layers after = Unit {0}
