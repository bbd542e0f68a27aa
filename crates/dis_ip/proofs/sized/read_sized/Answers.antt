use Rattle.std.proofs.Common.{◌≡◌, ◌≤◌, ◌∙◌, ◌-◌, ℕ, List, [], ◌∷◌, ap, subst, sym}
use Rattle.pk_tree.specs.Buffers.{bytes_of}
use Rattle.pk_tree.specs.Layouts.{layer_read, StepsFit}
use Rattle.pk_tree.specs.Tables.{steps_of}
use Rattle.dis_ip.specs.Extensions.{extension_layout}
use Rattle.dis_ip.specs.Options.{header_size}
use Rattle.dis_ip.specs.Sized.{next_of}
use Rattle.dis_ip.proofs.Whole.{sized_fits, sized_whole}
use Rattle.dis_ip.proofs.sized.read_sized.Goals as goal

pub returns-then-header-span-clause-layer : goal.returns-then-header-span-clause-layer
returns-then-header-span-clause-layer c =
    let bytes = bytes_of c.args.b.now.buffers c.args.span in
    let layout = extension_layout (next_of c.args.which) bytes in
    let size : c.header_size-header.result ≡ header_size bytes =
    c.header_size-header.ensures.size ∙ ap (λ (bs : List ℕ). header_size bs) c.bytes-bytes.ensures.bytes in
    let all : header_size bytes ≤ c.args.span.len = subst (λ (n : ℕ). n ≤ c.args.span.len) size c.if-header-span.true in
    subst (λ (proto : ℕ). c.pass_layer.new.tree ≡ layer_read c.args.b.now proto c.args.span layout c.args.mode c.args.cut) c.proto_of-proto.ensures.proto
    (c.in_ok-pass_layer.ensures.layer layout
    (subst (λ (proto : ℕ). StepsFit proto layout) (sym c.proto_of-proto.ensures.proto) (sized_fits c.args.which bytes))
    (sym (sized_whole c.args.which bytes c.args.span.len all)))

pub read_table-requires-clause-fits : goal.read_table-requires-clause-fits
read_table-requires-clause-fits c =
    let sizes = (c.header_size-header.result - c.fixed_size.result) ∷ [] in
    subst (λ (proto : ℕ). StepsFit proto (steps_of [] sizes c.slots_of-slots.result.now)) (sym c.proto_of-proto.ensures.proto)
    (c.slots_of-slots.ensures.fits sizes)
