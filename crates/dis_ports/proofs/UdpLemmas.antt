-- UDP's layout is of the protocol's own fields.
use Rattle.std.proofs.Common.{◌≡◌, ℕ, true, List, refl, rules}
use Rattle.pk_base.specs.declared.span.Span.{Span}
use Rattle.pk_base.specs.declared.heads.After.TheVariants.{Datagram}
use Rattle.pk_base.specs.declared.heads.Mode.TheVariants.{Plain}
use Rattle.pk_fields.specs.Fields.{row_of}
use Rattle.pk_fields.specs.Ids.{UDP}
use Rattle.pk_fields.specs.Table.{rows}
use Rattle.pk_tree.specs.declared.layout.Reach.{Reach}
use Rattle.pk_tree.specs.declared.layout.Reach.TheVariants.{All, Short, Failed}
use Rattle.pk_tree.specs.Following.{behind}
use Rattle.pk_tree.specs.Layouts.{StepsFit, is_all, reach}
use Rattle.dis_ports.specs.Udp.{udp_after, udp_layout, udp_ports, udp_span}

pub layout_fits : (bytes : List ℕ) → StepsFit UDP (udp_layout bytes)
unfolding udp_layout StepsFit row_of rows
layout_fits bytes = search rules

-- behind a header whose rows are read comes its datagram
pub datagram_behind : (span layer : Span) (bytes : List ℕ) (r : Reach) → layer ≡ udp_span span bytes → is_all r ≡ true → r ≡ reach layer.len (udp_layout bytes) → udp_after Plain span bytes ≡ Datagram (udp_ports bytes) (behind layer 8)
unfolding udp_after
datagram_behind span layer bytes All is on rows = rw (← is, ← rows) refl
datagram_behind span layer bytes Short is on rows = absurd (cc)
datagram_behind span layer bytes Failed is on rows = absurd (cc)
