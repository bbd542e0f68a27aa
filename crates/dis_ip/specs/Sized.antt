-- Extension headers with a length in their second byte (RFC 8200, 4.3, 4.4 and 4.6).
use Rattle.std.specs.Prelude.{ℕ}
use Rattle.pk_base.specs.declared.heads.Next.{Next}
use Rattle.pk_base.specs.declared.heads.Next.TheVariants as next
use Rattle.dis_ip.specs.declared.sized.Sized.{Sized}
use Rattle.dis_ip.specs.declared.sized.Sized.TheVariants.{HopOptions, Routing, TargetOptions}

-- as the header before names it
abbrev pub next_of : Sized → Next
next_of HopOptions = next.HopOpts
next_of Routing = next.Routing
next_of TargetOptions = next.DstOpts

-- the bytes before the last field, which takes what is left
abbrev pub fixed_size : Sized → ℕ
fixed_size HopOptions = 2
fixed_size Routing = 4
fixed_size TargetOptions = 2
