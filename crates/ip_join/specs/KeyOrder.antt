-- The keys by which the joins keep datagrams that aren't whole yet, and their order.
use Rattle.std.specs.Prelude.{ℕ, Bool, true, false, if◌then◌else◌}
use Rattle.std.specs.Ordering.{nat_cmp, bool_cmp, ordering_then, eq_by_cmp}
use Rattle.std.specs.declared.cmp.Ordering.{Ordering}
use Rattle.pk_base.specs.declared.heads.Address.{Address}
use Rattle.pk_base.specs.declared.heads.Address.TheVariants.{Four as FourAddress, Six as SixAddress}
use Rattle.pk_base.specs.declared.heads.FragmentHead.{FragmentHead}
use Rattle.ip_join.specs.declared.key.FourKey.{FourKey}
use Rattle.ip_join.specs.declared.key.Key.{Key}
use Rattle.ip_join.specs.declared.key.Key.TheVariants.{Four, Wide}
use Rattle.ip_join.specs.declared.key.WideKey.{WideKey}

abbrev pub number_of : Address → ℕ
number_of (FourAddress number) = number
number_of (SixAddress number) = number

abbrev pub is_six : Address → Bool
is_six (FourAddress number) = false
is_six (SixAddress number) = true

-- the parts of a key: the kind of datagram, its source, destination, protocol and identification; IPv6 keys have no
-- protocol
abbrev pub wide : Bool → Address → Address → ℕ → ℕ → WideKey
wide six source target next ident = record {
  source = number_of source;
  target = number_of target;
  ident = ident;
  protocol = if six then 0 else next;
  six = six;
  source_six = is_six source;
  target_six = is_six target;
}

abbrev pub wide_of : FragmentHead → WideKey
wide_of head = wide head.six head.source head.target head.next head.ident

abbrev pub key : Bool → Address → Address → ℕ → ℕ → Key
key true source target next ident = Wide (wide true source target next ident)
key false (FourAddress source) (FourAddress target) next ident =
    Four (record { ident = ident; source = source; target = target; protocol = next })
key false (FourAddress source) (SixAddress target) next ident =
    Wide (wide false (FourAddress source) (SixAddress target) next ident)
key false (SixAddress source) target next ident =
    Wide (wide false (SixAddress source) target next ident)

abbrev pub key_of : FragmentHead → Key
key_of head = key head.six head.source head.target head.next head.ident

abbrev pub four_cmp : FourKey → FourKey → Ordering
four_cmp a b = ordering_then (nat_cmp a.ident b.ident)
    (ordering_then (nat_cmp a.source b.source)
    (ordering_then (nat_cmp a.target b.target) (nat_cmp a.protocol b.protocol)))

abbrev pub wide_cmp : WideKey → WideKey → Ordering
wide_cmp a b = ordering_then (nat_cmp a.ident b.ident)
    (ordering_then (nat_cmp a.protocol b.protocol)
    (ordering_then (bool_cmp a.six b.six)
    (ordering_then (bool_cmp a.source_six b.source_six)
    (ordering_then (bool_cmp a.target_six b.target_six)
    (ordering_then (nat_cmp a.source b.source) (nat_cmp a.target b.target))))))

-- whether two keys are the same
abbrev pub ties : Key → Key → Bool
ties (Four a) (Four b) = eq_by_cmp four_cmp a b
ties (Four a) (Wide b) = false
ties (Wide a) (Four b) = false
ties (Wide a) (Wide b) = eq_by_cmp wide_cmp a b
