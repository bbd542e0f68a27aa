use Rattle.std.proofs.Common.{◌≡◌, ℕ, ◌-◌, ◌≤◌, ◌∷◌, [], true, List, length, ap, ◌∙◌, arith}
use Rattle.std.proofs.lemmas.Result.{on_ok_weaker}
use Rattle.pk_base.specs.declared.heads.Mode.TheVariants.{Plain}
use Rattle.pk_fields.specs.Ids.{TCP}
use Rattle.pk_tree.specs.declared.layout.Reach.TheVariants.{All}
use Rattle.pk_tree.specs.declared.layout.Step.{Step}
use Rattle.pk_tree.specs.Buffers.{bytes_of}
use Rattle.pk_tree.specs.Layouts.{layer_read, reach}
use Rattle.pk_tree.specs.Tables.{steps_of}
use Rattle.pk_tree.proofs.Spans.{length-bytes_of}
use Rattle.dis_ports.specs.Tcp.{header_len, tcp_layout, tcp_rows}
use Rattle.dis_ports.proofs.TcpLemmas.{layout_all, layout_fits, rows_alone, rows_by}
use Rattle.dis_ports.proofs.tcp.open_tcp.Goals as goal

pub returns-then-not-asks-clause-layer : goal.returns-then-not-asks-clause-layer
returns-then-not-asks-clause-layer c =
    let bytes : List ℕ = bytes_of c.args.b.now.buffers c.args.span in
    let all : reach c.args.span.len (tcp_layout bytes) ≡ All =
    layout_all bytes c.args.span.len (omega (arith, length-bytes_of c.args.b.now.buffers c.args.span c.requires.inside)) (omega (arith, c.requires.header, c.requires.least)) (omega (arith, c.requires.header, c.requires.whole)) in
    on_ok_weaker c.pass_known.result (λ layer. layer (tcp_layout bytes) Plain c.args.cut (layout_fits bytes) all) c.pass_known.ensures.layer

pub returns-then-asks_options-clause-last : goal.returns-then-asks_options-clause-last
returns-then-asks_options-clause-last c =
    let bytes : List ℕ = bytes_of c.args.b.now.buffers c.args.span in
    let all : reach c.args.span.len (tcp_layout bytes) ≡ All =
    layout_all bytes c.args.span.len (omega (arith, length-bytes_of c.args.b.now.buffers c.args.span c.requires.inside)) (omega (arith, c.requires.header, c.requires.least)) (omega (arith, c.requires.header, c.requires.whole)) in
    c.in_ok-read_header.ensures.last (c.in_ok-read_header.ensures.why ∙ all)

pub returns-clause-layer : goal.returns-clause-layer
returns-clause-layer c =
    let t = c.args.b.now in
    let bytes : List ℕ = bytes_of t.buffers c.args.span in
    let inside : length bytes ≤ c.args.span.len = omega (arith, length-bytes_of t.buffers c.args.span c.requires.inside) in
    let least : 20 ≤ header_len bytes = omega (arith, c.requires.header, c.requires.least) in
    let steps : steps_of (true ∷ []) ((c.args.header - 20) ∷ []) c.tcp_slots.result.now ≡ tcp_rows bytes =
    rows_by c.tcp_slots.result.now (c.args.header - 20) bytes least (ap (λ n. n - 20) c.requires.header) (c.tcp_slots.ensures.rows bytes) in
    on_ok_weaker c.read_known.result
    (λ layer. rows_alone t c.read_known.new.tree c.args.span bytes c.args.cut inside (c.asks_options.ensures c.if-asks_options.false)
    (layer Plain c.args.cut ∙ ap (λ (s : List Step). layer_read t TCP c.args.span s Plain c.args.cut) steps))
    c.read_known.ensures.layer
