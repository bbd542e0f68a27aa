use Rattle.std.proofs.Common.{◌≡◌, ◌-◌, refl, sym, ◌∙◌, length, arith}
use Rattle.dis_hosts.specs.DhcpOptions.{dhcp_options, option_at}
use Rattle.dis_hosts.proofs.WholeOptions.{option_leads, walk_on, walk_past, walk_end, walk_done}
use Rattle.dis_hosts.proofs.dhcp_options.options_fit.Goals as goal

pub loop-option-init : goal.loop-option-init
unfolding dhcp_options
loop-option-init c =
    let all : length c.args.bytes.now - 0 ≡ length c.args.bytes.now = omega arith in
    rw all refl

pub loop-option-preserved : goal.loop-option-preserved
loop-option-preserved c =
    c.loop-option.invariant
    ∙ walk_on (length c.args.bytes.now) (length c.args.bytes.now) c.loop-option._option c.loop-option.at (option_at c.args.bytes.now) c.loop-option-test.true (option_leads c.args.bytes.now c.loop-option.at) c.in-Some.next
    (sym c.next_option.ensures ∙ c.in-Some.is) c.if-next-bytes.true

pub returns-in-Some-2 : goal.returns-in-Some-2
returns-in-Some-2 c =
    c.loop-option.invariant
    ∙ walk_past (length c.args.bytes.now) (length c.args.bytes.now) c.loop-option._option c.loop-option.at (option_at c.args.bytes.now) c.loop-option-test.true (option_leads c.args.bytes.now c.loop-option.at) c.in-Some.next
    (sym c.next_option.ensures ∙ c.in-Some.is) c.if-next-bytes.false

pub returns-in-None : goal.returns-in-None
returns-in-None c =
    c.loop-option.invariant
    ∙ walk_end (length c.args.bytes.now) (length c.args.bytes.now) c.loop-option._option c.loop-option.at (option_at c.args.bytes.now) c.loop-option-test.true (option_leads c.args.bytes.now c.loop-option.at)
    (sym c.next_option.ensures ∙ c.in-None.is)

pub returns : goal.returns
returns c =
    c.loop-option.invariant
    ∙ walk_done (length c.args.bytes.now) (length c.args.bytes.now) c.loop-option._option c.loop-option.at (option_at c.args.bytes.now) c.loop-option-test.false
