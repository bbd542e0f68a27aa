use Rattle.std.proofs.Common.{refl, ◌≡◌, ℕ, ◌≤◌, List, [], ◌++◌, length, take, sym, ◌∙◌, arith, append-nil}
use Rattle.pk_base.specs.declared.span.Span.{Span}
use Rattle.pk_tree.specs.Buffers.{IsInside, bytes_of}
use Rattle.pk_tree.proofs.Spans.{length-bytes_of}
use Rattle.pk_tree.specs.declared.layout.Reach.{Reach}
use Rattle.pk_tree.specs.declared.layout.Step.{Step}
use Rattle.pk_tree.specs.Layouts.{reach}
use Rattle.dis_ports.specs.Tcp.{header_len, tcp_layout, tcp_rows}
use Rattle.dis_ports.specs.TcpOptions.{tcp_options}
use Rattle.dis_ports.proofs.TcpLemmas.{layout_fits, layout_reach, layout_alone}
use Rattle.dis_ports.proofs.tcp.read_header.Goals as goal

-- all bytes of the layer lie in it
inside_span : (buffers : List (List ℕ)) (span : Span) → IsInside buffers span → length (bytes_of buffers span) ≤ span.len
inside_span buffers span inside = omega (arith, length-bytes_of buffers span inside)

reaches : (buffers : List (List ℕ)) (span : Span) (r : Reach) → IsInside buffers span → r ≡ reach span.len (tcp_rows (bytes_of buffers span)) → r ≡ reach span.len (tcp_layout (bytes_of buffers span))
reaches buffers span r inside rows = rows ∙ sym (layout_reach (bytes_of buffers span) span.len (inside_span buffers span inside))

-- the rows alone, which more steps that are none follow
alone : (bytes : List ℕ) → tcp_rows bytes ++ [] ≡ tcp_rows bytes
alone bytes = append-nil (tcp_rows bytes)

-- the rows and the options
together : (bytes whole header : List ℕ) (len : ℕ) (more : List Step) → len ≡ header_len whole → bytes ≡ whole → header ≡ take len bytes → more ≡ (tcp_options header).steps → tcp_rows whole ++ more ≡ tcp_layout whole
unfolding tcp_layout
together bytes whole header len more size same is steps = rw (steps, is, same, size) refl

pub returns-then-not-asks-clause-layer : goal.returns-then-not-asks-clause-layer
returns-then-not-asks-clause-layer c =
    c.in_ok-pass_layer.ensures.layer (tcp_layout (bytes_of c.args.b.now.buffers c.args.span)) (layout_fits (bytes_of c.args.b.now.buffers c.args.span))
    (reaches c.args.b.now.buffers c.args.span c.rows_reach-reach.result c.requires.inside (c.rows_reach-reach.ensures.reach (bytes_of c.args.b.now.buffers c.args.span) c.requires.header))

pub returns-then-not-asks-clause-why : goal.returns-then-not-asks-clause-why
returns-then-not-asks-clause-why c =
    reaches c.args.b.now.buffers c.args.span c.rows_reach-reach.result c.requires.inside (c.rows_reach-reach.ensures.reach (bytes_of c.args.b.now.buffers c.args.span) c.requires.header)

pub returns-then-not-asks_options-clause-layer : goal.returns-then-not-asks_options-clause-layer
returns-then-not-asks_options-clause-layer c =
    let bytes : List ℕ = bytes_of c.args.b.now.buffers c.args.span in
    (rw (alone bytes) at (c.in_ok-read_rows.ensures.layer bytes c.requires.header))
    ∙ sym (layout_alone c.args.b.now c.args.span bytes c.args.mode c.args.cut (inside_span c.args.b.now.buffers c.args.span c.requires.inside) (c.asks_options.ensures c.if-not-asks_options.true))

pub returns-then-not-asks_options-clause-why : goal.returns-then-not-asks_options-clause-why
returns-then-not-asks_options-clause-why c =
    reaches c.args.b.now.buffers c.args.span c.rows_reach-reach.result c.requires.inside (c.rows_reach-reach.ensures.reach (bytes_of c.args.b.now.buffers c.args.span) c.requires.header)

pub returns-clause-layer : goal.returns-clause-layer
returns-clause-layer c =
    let bytes : List ℕ = bytes_of c.args.b.now.buffers c.args.span in
    let steps : tcp_rows bytes ++ c.deref.result.now ≡ tcp_layout bytes = together c.bytes.result.now bytes c.front.result.now c.args.header c.deref.result.now c.requires.header c.bytes.ensures.bytes c.front.ensures (c.deref.ensures.value ∙ c.in_ok-options.ensures.steps) in
    rw steps at (c.in_ok-read_rows-2.ensures.layer bytes c.requires.header)

pub returns-clause-why : goal.returns-clause-why
returns-clause-why c =
    reaches c.args.b.now.buffers c.args.span c.rows_reach-reach.result c.requires.inside (c.rows_reach-reach.ensures.reach (bytes_of c.args.b.now.buffers c.args.span) c.requires.header)

pub returns-clause-last : goal.returns-clause-last
returns-clause-last c all =
    let bytes : List ℕ = bytes_of c.args.b.now.buffers c.args.span in
    let steps : tcp_rows bytes ++ c.deref.result.now ≡ tcp_layout bytes = together c.bytes.result.now bytes c.front.result.now c.args.header c.deref.result.now c.requires.header c.bytes.ensures.bytes c.front.ensures (c.deref.ensures.value ∙ c.in_ok-options.ensures.steps) in
    let why : c.rows_reach-reach.result ≡ reach c.args.span.len (tcp_layout bytes) = reaches c.args.b.now.buffers c.args.span c.rows_reach-reach.result c.requires.inside (c.rows_reach-reach.ensures.reach bytes c.requires.header) in
    c.in_ok-read_rows-2.ensures.last bytes c.requires.header (rw steps (sym why ∙ all))
