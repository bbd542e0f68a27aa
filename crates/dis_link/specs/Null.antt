-- The BSD loopback header (LINKTYPE_NULL of tcpdump.org's registry): the protocol's family, in the byte order of the
-- machine that captured, which is taken to be that of the file or section.
--
--    byte 0          4
--         +----------+----------------
--         |  family  | what follows ..
--         +----------+----------------
use Rattle.std.specs.Prelude.{◌==◌, ℕ, Bool, ◌||◌, List, [], ◌∷◌, length, nat_le, if◌then◌else◌}
use Rattle.pk_base.specs.declared.span.Span.{Span}
use Rattle.pk_base.specs.Endian.{number_in}
use Rattle.pk_fields.specs.Ids.{NULL_FAMILY}
use Rattle.pk_base.specs.declared.heads.After.{After}
use Rattle.pk_base.specs.declared.heads.Next.{Next}
use Rattle.pk_base.specs.declared.heads.Next.TheVariants.{Ip4, Ip6, Rest}
use Rattle.pk_tree.specs.declared.layout.Step.{Step}
use Rattle.pk_tree.specs.declared.layout.Step.TheVariants.{Derived}
use Rattle.pk_base.specs.declared.value.Value.TheVariants as values
use Rattle.pk_tree.specs.Following.{carried}

-- the family, or 0 where its four bytes aren't there
abbrev pub family : Bool → List ℕ → ℕ
family little bytes = if nat_le 4 (length bytes) then number_in little 4 bytes else 0

-- what AF_INET6 is on NetBSD and OpenBSD, FreeBSD, and macOS
abbrev pub is_inet6 : ℕ → Bool
is_inet6 number = number == 24 || number == 28 || number == 30

-- AF_INET is 2 everywhere
abbrev pub next_of_family : ℕ → Next
next_of_family number = if number == 2 then Ip4 else (if is_inet6 number then Ip6 else Rest)

unfoldable pub null_layout : Bool → List ℕ → List Step
null_layout little bytes = Derived NULL_FAMILY (values.Uint (family little bytes)) 0 4 ∷ []

unfoldable pub null_after : Bool → Span → List ℕ → After
null_after little span bytes = carried (next_of_family (family little bytes)) span 4
