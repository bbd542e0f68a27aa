use Rattle.std.proofs.Common.{Ok, Some, sym, subst, ap, ◌∙◌, arith}
use Rattle.capture_read.specs.Offsets.{IsStepTimely}
use Rattle.capture_read.specs.Reader.{step_of_item}
use Rattle.capture_read.specs.declared.kind.Kind.TheVariants.{Pcap, Pcapng}
use Rattle.capture_read.proofs.SmallTimes.{step-timely}
use Rattle.capture_read.proofs.ReaderBounds.{found_timely, kept_offsets}
use Rattle.capture_read.proofs.look.look.Goals as goal

pub returns-in_ok-look_first-in-None-clause-timely : goal.returns-in_ok-look_first-in-None-clause-timely
returns-in_ok-look_first-in-None-clause-timely c =
    found_timely c.args.kind.now c.args.sections.now c.args.bytes.now (Ok c.in_ok-look_first-in-None.field-0) (λ k. omega (arith, c.type_inv.bytes k)) c.in_ok-look_first-in-None.ensures.step

pub returns-in_ok-look_first-in-None-clause-offsets : goal.returns-in_ok-look_first-in-None-clause-offsets
returns-in_ok-look_first-in-None-clause-offsets c =
    kept_offsets c.args.kind.now c.args.sections.now c.look_first.new.sections c.args.bytes.now (Ok c.in_ok-look_first-in-None.field-0) (λ k. omega (arith, c.type_inv.bytes k))
    c.in_ok-look_first-in-None.ensures.scope tt

pub returns-in-Some-Pcap-clause-timely : goal.returns-in-Some-Pcap-clause-timely
returns-in-Some-Pcap-clause-timely c = λ known.
    subst IsStepTimely (sym (c.step_of_item.ensures ∙ ap step_of_item c.next_item.ensures.value))
    (step-timely (Some (Pcap c.in-Some-Pcap.head)) c.args.sections.now c.args.bytes.now (λ k. omega (arith, c.type_inv.bytes k)) known)

pub returns-in_ok-next_block-in-Some-Pcapng-clause-timely : goal.returns-in_ok-next_block-in-Some-Pcapng-clause-timely
returns-in_ok-next_block-in-Some-Pcapng-clause-timely c =
    found_timely (Some Pcapng) c.args.sections.now c.args.bytes.now (Ok c.in_ok-next_block-in-Some-Pcapng.field-0) (λ k. omega (arith, c.type_inv.bytes k)) c.in_ok-next_block-in-Some-Pcapng.ensures.scope_step

pub returns-in_ok-next_block-in-Some-Pcapng-clause-offsets : goal.returns-in_ok-next_block-in-Some-Pcapng-clause-offsets
returns-in_ok-next_block-in-Some-Pcapng-clause-offsets c =
    kept_offsets (Some Pcapng) c.args.sections.now c.next_block.new.self c.args.bytes.now (Ok c.in_ok-next_block-in-Some-Pcapng.field-0) (λ k. omega (arith, c.type_inv.bytes k))
    c.in_ok-next_block-in-Some-Pcapng.ensures.scope tt
