-- What follows a header in its layer.
use Rattle.std.specs.Prelude.{ℕ, ◌-◌, ◌<◌, min, List, nat_lt, if◌then◌else◌}
use Rattle.pk_base.specs.declared.span.Span.{Span}
use Rattle.pk_tree.specs.Buffers.{IsInside}
use Rattle.pk_base.specs.declared.heads.After.{After}
use Rattle.pk_base.specs.declared.heads.After.TheVariants as afters
use Rattle.pk_base.specs.declared.heads.Next.{Next}
use Rattle.pk_tree.specs.Layouts.{within}

-- the bytes behind a header of so many bytes
abbrev pub behind : Span → ℕ → Span
behind span header = within span header (span.len - header)

-- the bytes behind a header of so many bytes are of this protocol; where there are none, as where the header itself isn't
-- whole, nothing follows
abbrev pub carried : Next → Span → ℕ → After
carried next span header =
    if nat_lt header span.len then afters.Next next (behind span header) else afters.End

-- a span's first bytes, as many as that or as there are
abbrev pub first_of : Span → ℕ → Span
first_of span most = record { buffer = span.buffer; start = span.start; len = min span.len most }

-- what follows lies in its buffer; a protocol and what an IP header carries have at least one byte
abbrev pub LeadsInside : List (List ℕ) → After → Type 0
LeadsInside buffers (afters.Next next span) = IsInside buffers span × (0 < span.len)
LeadsInside buffers (afters.Packet next span packet) = IsInside buffers span × (0 < span.len)
LeadsInside buffers (afters.Fragment head span) = IsInside buffers span
LeadsInside buffers (afters.Datagram head span) = IsInside buffers span
LeadsInside buffers (afters.Segment head span) = IsInside buffers span
LeadsInside buffers afters.End = Unit {0}
