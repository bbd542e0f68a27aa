-- Both directions of a conversation have the same application.
use Rattle.std.proofs.Common.{◌≡◌, ℕ, Bool, true, false, ◌&&◌, List, refl, sym, ap, ◌∙◌, Option, Some, None, option_map, inl, inr, arith}
use Rattle.std.specs.Prelude.{◌==◌}
use Rattle.std.proofs.lemmas.Bool.{cases_order, le-leb, lt-leb, eqb-true, cond-true, cond-false, cond_both}
use Rattle.pk_base.specs.declared.heads.Address.{Address}
use Rattle.pk_base.specs.declared.heads.Address.TheVariants.{Four, Six}
use Rattle.tcp_streams.specs.declared.ends.End.{End}
use Rattle.tcp_streams.specs.declared.ends.Ends.{Ends}
use Rattle.tcp_streams.specs.declared.segment.Segment.{Segment}
use Rattle.tcp_streams.specs.Conversations.{comes_first, end_at, end_of_endpoint, ends_between, ends_of, same_bool, same_end, same_ends}
use Rattle.stream_messages.specs.declared.framer.Framer.{Framer}
use Rattle.app_layers.specs.declared.streamed.StreamApp.{StreamApp}
use Rattle.tcp_messages.specs.Readers.{IsOfEnds}
use Rattle.pk_fields.specs.declared.apps.App.{App}
use Rattle.pk_fields.specs.declared.rules.PortRule.{PortRule}
use Rattle.pk_fields.specs.Applications.{app_between, app_known, tcp_app}
use Rattle.pk_fields.specs.Apps.{usual_tcp}
use Rattle.app_layers.specs.MessageLayers.{app_of_segment, framed, framer_of_segment, framing, in_streams, stream_app}
use Rattle.app_layers.specs.Rows.{framer_of}

both : (a b : Bool) → (a && b) ≡ true → (a ≡ true) × (b ≡ true)
both true b e = (refl, e)
both false b e = absurd (cc)

same_port : (one other : End) → same_end one other ≡ true → one.port ≡ other.port
same_port one other same =
    let rest = both (same_bool one.six other.six) (one.address == other.address && one.port == other.port) same in
    eqb-true one.port other.port (both (one.address == other.address) (one.port == other.port) rest.1).1

port_at : (address : Address) (port : ℕ) → (end_at address port).port ≡ port
port_at (Four address) port = refl
port_at (Six address) port = refl

-- whichever port is named first
swapped : (known : ℕ → Option App) (source target : ℕ) → app_between known source target ≡ app_between known target source
swapped known source target = elim (cases_order source target) [
  | inl same ↦
      ap (λ (n : ℕ). app_between known n target) same ∙ sym (ap (λ (n : ℕ). app_between known target n) same)
  | inr (inl low) ↦
      cond-true _ _ _ (le-leb source target (omega arith)) ∙ sym (cond-false _ _ _ (lt-leb target source low))
  | inr (inr high) ↦
      cond-false _ _ _ (lt-leb source target high) ∙ sym (cond-true _ _ _ (le-leb target source (omega arith)))
]

pub app_swapped : (rules : List PortRule) (source target : ℕ) → stream_app rules source target ≡ stream_app rules target source
unfolding stream_app tcp_app
app_swapped rules source target = ap in_streams (swapped (app_known true usual_tcp rules) source target)

by_ends : List PortRule → Ends → Option StreamApp
by_ends rules ends = stream_app rules ends.lesser.port ends.greater.port

between : (rules : List PortRule) (source target : End) → by_ends rules (ends_between source target) ≡ stream_app rules source.port target.port
unfolding by_ends ends_between
between rules source target =
    cond_both (comes_first source target) (record { lesser = source; greater = target }) (record { lesser = target; greater = source })
    (λ (ends : Ends). stream_app rules ends.lesser.port ends.greater.port ≡ stream_app rules source.port target.port)
    (λ _. refl) (λ _. app_swapped rules target.port source.port)

of_ends : (rules : List PortRule) (s : Segment) → by_ends rules (ends_of s) ≡ app_of_segment rules s
of_ends rules s =
    between rules (end_of_endpoint s.from) (end_of_endpoint s.to)
    ∙ ap (λ (port : ℕ). stream_app rules port (end_of_endpoint s.to).port) (port_at s.from.address s.from.port)
    ∙ ap (stream_app rules s.from.port) (port_at s.to.address s.to.port)

same_app : (rules : List PortRule) (one other : Ends) → same_ends one other ≡ true → by_ends rules one ≡ by_ends rules other
unfolding by_ends
same_app rules one other same =
    let halves = both (same_end one.lesser other.lesser) (same_end one.greater other.greater) same in
    ap (λ (port : ℕ). stream_app rules port one.greater.port) (same_port one.lesser other.lesser halves.0)
    ∙ ap (stream_app rules other.lesser.port) (same_port one.greater other.greater halves.1)

pub apps_of_ends : (rules : List PortRule) (s t : Segment) → same_ends (ends_of s) (ends_of t) ≡ true → app_of_segment rules s ≡ app_of_segment rules t
apps_of_ends rules s t same = sym (of_ends rules s) ∙ same_app rules (ends_of s) (ends_of t) same ∙ of_ends rules t

-- so it has the same framing
pub framers_of_ends : (rules : List PortRule) → IsOfEnds (framer_of_segment rules)
framers_of_ends rules s t same = ap framing (apps_of_ends rules s t same)

-- ---- an application of streams is framed as its messages are

abbrev pub IsFramed : Option StreamApp → Type 0
IsFramed None = Unit {0}
IsFramed (Some app) = framer_of app.app ≡ Some app.framer

framed_by : (app : App) (o : Option Framer) → framer_of app ≡ o → IsFramed (option_map (framed app) o)
framed_by app None is = tt
framed_by app (Some framer) is = is

streams_framed : (o : Option App) → IsFramed (in_streams o)
streams_framed None = tt
streams_framed (Some app) = framed_by app (framer_of app) refl

pub is_framed : (rules : List PortRule) (source target : ℕ) → IsFramed (stream_app rules source target)
unfolding stream_app
is_framed rules source target = streams_framed (tcp_app rules source target)
