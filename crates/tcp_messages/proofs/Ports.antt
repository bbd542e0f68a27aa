-- The segments of a conversation have the same two ports.
use Rattle.std.proofs.Common.{◌≡◌, ℕ, Option, refl, sym, ap, ◌∙◌, inl, inr}
use Rattle.std.specs.Prelude.{◌⊎◌}
use Rattle.std.proofs.lemmas.Bool.{cases_Bool}
use Rattle.pk_base.specs.declared.heads.Address.{Address}
use Rattle.pk_base.specs.declared.heads.Address.TheVariants.{Four, Six}
use Rattle.tcp_streams.specs.declared.ends.End.{End}
use Rattle.tcp_streams.specs.declared.ends.Ends.{Ends}
use Rattle.tcp_streams.specs.declared.segment.Segment.{Segment}
use Rattle.tcp_streams.specs.Conversations.{comes_first, end_at, end_of_endpoint, ends_between, ends_of}
use Rattle.tcp_streams.proofs.StandsLemmas.{same_ends_is}
use Rattle.stream_messages.specs.declared.framer.Framer.{Framer}
use Rattle.tcp_messages.specs.Readers.{IsOfEnds}

port_at : (a : Address) (port : ℕ) → (end_at a port).port ≡ port
port_at (Four a) port = refl
port_at (Six a) port = refl

abbrev HasBoth : Ends → ℕ → ℕ → Type 0
HasBoth e a b = ((e.lesser.port ≡ a) × (e.greater.port ≡ b)) ⊎ ((e.lesser.port ≡ b) × (e.greater.port ≡ a))

has_both : (a b : End) → HasBoth (ends_between a b) a.port b.port
unfolding ends_between
has_both a b = elim (cases_Bool (comes_first a b)) [
  | inl first ↦ rw first (inl (refl, refl))
  | inr second ↦ rw second (inr (refl, refl))
]

ports_in : (s : Segment) → HasBoth (ends_of s) s.from.port s.to.port
ports_in s = by (has_both (end_of_endpoint s.from) (end_of_endpoint s.to))
  where
    by : HasBoth (ends_of s) (end_of_endpoint s.from).port (end_of_endpoint s.to).port → HasBoth (ends_of s) s.from.port s.to.port
    by (inl is) = inl (is.0 ∙ port_at s.from.address s.from.port, is.1 ∙ port_at s.to.address s.to.port)
    by (inr is) = inr (is.0 ∙ port_at s.to.address s.to.port, is.1 ∙ port_at s.from.address s.from.port)

-- where messages end, by two ports, whichever of them sends
pub of_ports : (known : ℕ → ℕ → Option Framer) → ((a b : ℕ) → known a b ≡ known b a) → IsOfEnds (λ s. known s.from.port s.to.port)
of_ports known either s t same = by (ports_in s) (ports_in t)
  where
    is : ends_of s ≡ ends_of t
    is = same_ends_is (ends_of s) (ends_of t) same

    lesser : (ends_of s).lesser.port ≡ (ends_of t).lesser.port
    lesser = ap (λ (e : Ends). e.lesser.port) is

    greater : (ends_of s).greater.port ≡ (ends_of t).greater.port
    greater = ap (λ (e : Ends). e.greater.port) is

    by : HasBoth (ends_of s) s.from.port s.to.port → HasBoth (ends_of t) t.from.port t.to.port → known s.from.port s.to.port ≡ known t.from.port t.to.port
    by (inl x) (inl y) = λ i. known ((sym x.0 ∙ lesser ∙ y.0) i) ((sym x.1 ∙ greater ∙ y.1) i)
    by (inr x) (inr y) = λ i. known ((sym x.1 ∙ greater ∙ y.1) i) ((sym x.0 ∙ lesser ∙ y.0) i)
    by (inl x) (inr y) = either s.from.port s.to.port ∙ (λ i. known ((sym x.1 ∙ greater ∙ y.1) i) ((sym x.0 ∙ lesser ∙ y.0) i))
    by (inr x) (inl y) = either s.from.port s.to.port ∙ (λ i. known ((sym x.0 ∙ lesser ∙ y.0) i) ((sym x.1 ∙ greater ∙ y.1) i))
