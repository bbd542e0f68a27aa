use Rattle.std.proofs.Common.{◌≡◌, ℕ, List, ◌++◌, if◌then◌else◌, ap, ◌∙◌}
use Rattle.pk_tree.specs.Buffers.{bytes_of}
use Rattle.pk_base.specs.declared.heads.Mode.TheVariants.{Plain}
use Rattle.pk_tree.specs.declared.layout.Reach.TheVariants.{All, Short}
use Rattle.pk_tree.specs.declared.layout.Step.{Step}
use Rattle.pk_tree.specs.Layouts.{reach}
use Rattle.dis_hosts.specs.Dhcp.{dhcp_layout, dhcp_rows}
use Rattle.dis_hosts.specs.DhcpOptions.{dhcp_options}
use Rattle.dis_hosts.proofs.DhcpLemmas.{layout_fits, layout_alike}
use Rattle.dis_hosts.proofs.dhcp.read_dhcp.Goals as goal

-- the rows and the options
together : (bytes : List ℕ) (more : List Step) → more ≡ (dhcp_options bytes).steps → dhcp_rows bytes ++ more ≡ dhcp_layout bytes
unfolding dhcp_layout
together bytes more steps = ap (λ (steps : List Step). dhcp_rows bytes ++ steps) steps

pub returns-then-not-asks-clause-layer : goal.returns-then-not-asks-clause-layer
returns-then-not-asks-clause-layer c =
    let bytes : List ℕ = bytes_of c.args.b.now.buffers c.args.span in
    let why : c.message_reach-reach.result ≡ reach c.args.span.len (dhcp_layout bytes) = rw (c.bytes.ensures.len, c.bytes.ensures.bytes) at c.message_reach-reach.ensures in
    c.in_ok-pass_layer.ensures.layer (dhcp_layout bytes) (layout_fits bytes) why

pub returns-then-not-asks_options-clause-layer : goal.returns-then-not-asks_options-clause-layer
returns-then-not-asks_options-clause-layer c =
    let bytes : List ℕ = bytes_of c.args.b.now.buffers c.args.span in
    let whole : reach c.args.span.len (dhcp_options bytes).steps ≡ (if c.options_fit-whole.result then All else Short) =
    rw (c.bytes-then-not-asks_options.ensures.len, c.bytes-then-not-asks_options.ensures.bytes) at c.options_fit-whole.ensures in
    c.in_ok-read_rows.ensures.layer ∙ layout_alike c.args.b.now c.args.span bytes c.options_fit-whole.result Plain c.args.cut whole (c.asks_options.ensures c.if-not-asks_options.true)

pub returns-clause-layer : goal.returns-clause-layer
returns-clause-layer c =
    let bytes : List ℕ = bytes_of c.args.b.now.buffers c.args.span in
    let more : c.deref.result.now ≡ (dhcp_options bytes).steps = rw c.bytes-2.ensures.bytes at (c.deref.ensures.value ∙ c.in_ok-options.ensures.steps) in
    rw (together bytes c.deref.result.now more) at c.in_ok-read_rows-2.ensures.layer
