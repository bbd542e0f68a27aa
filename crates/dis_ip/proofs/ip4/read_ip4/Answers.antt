use Rattle.std.proofs.Common.{◌≡◌, ◌-◌, ℕ, Bool, true, IsTrue, List, [], ◌∷◌, ◌++◌, ap, sym, ◌∙◌, refl, rules, append-nil}
use Rattle.pk_base.specs.declared.span.Span.{Span}
use Rattle.pk_fields.specs.Ids.{IP}
use Rattle.pk_tree.specs.declared.layout.Reach.{Reach}
use Rattle.pk_tree.specs.declared.layout.Reach.TheVariants.{All}
use Rattle.pk_tree.specs.declared.table.Slot.{Slot}
use Rattle.pk_tree.specs.Layouts.{reach}
use Rattle.pk_tree.specs.Tables.{steps_of}
use Rattle.pk_tree.specs.Trees.{last_proto}
use Rattle.dis_ip.specs.Packets.{packet_span}
use Rattle.dis_ip.specs.Ip4.{ip4_layout, ip4_header, ip4_conditions, ip4_is_read, ip4_size, ip4_span}
use Rattle.dis_ip.proofs.ip4.read_ip4.Goals as goal

-- where the header is read, its layer ends by the packet's size, and the header is read there too
read_in_layer : (span layer : Span) (bytes : List ℕ) → ip4_is_read span bytes ≡ true → layer ≡ packet_span span (ip4_size bytes) →
    reach (ip4_span span bytes).len (ip4_layout bytes) ≡ All → reach layer.len (ip4_layout bytes) ≡ All
unfolding ip4_span
read_in_layer span layer bytes read is all = rw is (rw read at all)

-- the table's rows are the layout's
read_by_table : (r : Reach) (end : ℕ) (holds : List Bool) (options : ℕ) (slots : List Slot) (bytes : List ℕ) →
    r ≡ reach end (steps_of holds (options ∷ []) slots ++ []) → holds ≡ ip4_conditions bytes → options ≡ ip4_header bytes - 20 →
    steps_of (ip4_conditions bytes) ((ip4_header bytes - 20) ∷ []) slots ≡ ip4_layout bytes → reach end (ip4_layout bytes) ≡ All → r ≡ All
read_by_table r end holds options slots bytes why conditions size layout all = rw (why, append-nil, conditions, size, layout, all) refl

-- the layer's protocol stands last where the table was read
behind_table : (c : goal.In_ok-read_table-2) → last_proto c.read_table-2.new.tree.layers ≡ IP
behind_table c =
    let bytes = c.bytes-bytes.result.now in
    let layer = c.packet_span-layer.result in
    let read : IsTrue c.is_read.result = search rules in
    let true_read : c.is_read.result ≡ true = search rules in
    let is : layer ≡ packet_span c.args.span (ip4_size bytes) = c.packet_span-layer.ensures.span ∙ ap (packet_span c.args.span) (c.size-size.ensures bytes c.total-total.ensures.total) in
    let all : reach layer.len (ip4_layout bytes) ≡ All = read_in_layer c.args.span layer bytes (sym c.is_read.ensures.read ∙ true_read) is (c.is_read.ensures.whole read) in
    let size : c.saturating_sub.result ≡ ip4_header bytes - 20 = search rules in
    c.in_ok-read_table-2.ensures.last (read_by_table c.in_ok-read_table-2.field-0 layer.len c.conditions-holds.result c.saturating_sub.result c.ip4_slots-slots.result.now bytes c.in_ok-read_table-2.ensures.why c.conditions-holds.ensures size (c.ip4_slots-slots.ensures.layout bytes) all)

pub returns-clause-whole : goal.returns-clause-whole
returns-clause-whole c = λ _. behind_table c

pub returns-clause-part : goal.returns-clause-part
returns-clause-part c = c.carried-after.ensures.part c.read_table-2.new.tree.layers (behind_table c)
