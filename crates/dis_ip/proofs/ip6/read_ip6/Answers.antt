use Rattle.std.proofs.Common.{◌≡◌, ◌==◌, ℕ, true, IsTrue, List, [], ◌∷◌, ◌++◌, ap, sym, ◌∙◌, refl, rules, append-nil}
use Rattle.pk_base.specs.declared.span.Span.{Span}
use Rattle.pk_tree.specs.declared.layout.Reach.{Reach}
use Rattle.pk_tree.specs.declared.layout.Reach.TheVariants.{All}
use Rattle.pk_tree.specs.declared.table.Slot.{Slot}
use Rattle.pk_tree.specs.Layouts.{reach}
use Rattle.pk_tree.specs.Tables.{steps_of}
use Rattle.dis_ip.specs.Packets.{packet_span}
use Rattle.dis_ip.specs.Ip6.{ip6_layout, ip6_version, ip6_is_read, ip6_size, ip6_span}
use Rattle.dis_ip.proofs.ip6.read_ip6.Goals as goal

-- where the header is read, its layer ends by the packet's size, and the header is read there too
read_in_layer : (span layer : Span) (bytes : List ℕ) → ip6_is_read span bytes ≡ true → layer ≡ packet_span span (ip6_size bytes) →
    reach (ip6_span span bytes).len (ip6_layout bytes) ≡ All → reach layer.len (ip6_layout bytes) ≡ All
unfolding ip6_span
read_in_layer span layer bytes read is all = rw is (rw read at all)

-- the table's rows are the layout's
read_by_table : (r : Reach) (end version : ℕ) (slots : List Slot) (bytes : List ℕ) →
    r ≡ reach end (steps_of ((version == 6) ∷ []) [] slots ++ []) → version ≡ ip6_version bytes →
    steps_of ((ip6_version bytes == 6) ∷ []) [] slots ≡ ip6_layout bytes → reach end (ip6_layout bytes) ≡ All → r ≡ All
read_by_table r end version slots bytes why is layout all = rw (why, append-nil, is, layout, all) refl

pub returns-clause-whole : goal.returns-clause-whole
returns-clause-whole c =
    let bytes = c.bytes-bytes.result.now in
    let layer = c.packet_span-layer.result in
    let read : IsTrue c.is_read.result = search rules in
    let true_read : c.is_read.result ≡ true = search rules in
    let is : layer ≡ packet_span c.args.span (ip6_size bytes) = c.packet_span-layer.ensures.span ∙ ap (packet_span c.args.span) c.size-size.ensures in
    let all : reach layer.len (ip6_layout bytes) ≡ All = read_in_layer c.args.span layer bytes (sym c.is_read.ensures.read ∙ true_read) is (c.is_read.ensures.whole read) in
    λ _. c.in_ok-read_table-2.ensures.last (read_by_table c.in_ok-read_table-2.field-0 layer.len c.peek.result c.ip6_slots-slots.result.now bytes c.in_ok-read_table-2.ensures.why c.peek.ensures.value (c.ip6_slots-slots.ensures.layout [] bytes) all)
