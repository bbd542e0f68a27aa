use Rattle.std.proofs.Common.{◌≡◌, ◌∙◌, ap, inl, refl, string_bytes}
use Rattle.pk_outside.specs.Outside.{Rose}
use Rattle.merge_caps.specs.declared.status.MergeStatus.{MergeStatus}
use Rattle.merge_caps.specs.declared.status.MergeStatus.TheVariants as status
use Rattle.merge_caps.specs.Reading.{so_far}
use Rattle.merge_caps.specs.Stages.{IsWrittenFrom}
use Rattle.merge_caps.specs.Statuses.{WhenUnread, WhenWritten, are_damaged}
use Rattle.merge_caps.specs.Words.{wanted}
use Rattle.merge_caps.proofs.StageSteps.{all_read, by_status, write_failed, wrote_from}
use Rattle.merge_caps.proofs.TopSteps.{calm_write, starved, starved_whole, text_told_by, told, told_whole}
use Rattle.merge_caps.proofs.top.write_readings.Goals as goal

pub returns-in-Err : goal.returns-in-Err
returns-in-Err g c = record {
  all_read = tt;
  written = tt;
  part = inl (refl {a = c.args.out.now});
  write_fault = λ is. absurd (cc is);
  starved = λ is. refl {a = g.O.Sink.faults c.args.out.now};
  told = λ tell asked is. starved (wanted c.args.wanted.now) tell asked (g.E.Sink.written c.args.err.now);
  told_whole = λ tell asked is calm fed. starved_whole (wanted c.args.wanted.now) tell asked (g.E.Sink.written c.args.err.now);
}

pub returns-in-Ok : goal.returns-in-Ok
returns-in-Ok g c =
    let t = c.tell_written.ensures.told in
    let one : c.are_damaged-damaged.result ≡ are_damaged c.args.readings.now.endings.items = c.are_damaged-damaged.ensures ∙ ap are_damaged c.as_slice-endings.ensures.value in
    record {
      all_read = by_status (λ (a : MergeStatus). WhenUnread a ⊥) _ _ _ _ _ t.1 (all_read c.write_merged-written.result c.are_damaged-damaged.result) tt;
      written = by_status (λ (a : MergeStatus). WhenWritten a (IsWrittenFrom c.args.wanted.now.format (so_far c.args.readings.now) a (g.O.Sink.written c.args.out.now) (g.O.Sink.written c.write_merged-written.new.out)))
          _ _ _ _ _ t.1 (wrote_from c.args.wanted.now.format (so_far c.args.readings.now) c.write_merged-written.result c.are_damaged-damaged.result _ _ one c.write_merged-written.ensures.written) tt;
      part = c.write_merged-written.ensures.part;
      write_fault = by_status (λ (a : MergeStatus). a ≡ status.WriteFault → Rose (g.O.Sink.faults c.args.out.now) (g.O.Sink.faults c.write_merged-written.new.out)) _ _ _ _ _ t.1 (write_failed c.write_merged-written.result c.are_damaged-damaged.result _ c.write_merged-written.ensures.fault) (λ is. absurd (cc is));
      starved = calm_write c.write_merged-written.result c.tell_written.result _ _ c.tell_written.ensures.fault c.write_merged-written.ensures.no_fault c.write_merged-written.ensures.starved;
      told = λ tell asked is.
          told (wanted c.args.wanted.now) tell asked c.tell_written.result t.0 (g.E.Sink.written c.args.err.now) (g.E.Sink.written c.tell_written.new.err)
          (text_told_by (wanted c.args.wanted.now) tell asked (so_far c.args.readings.now) c.write_merged-written.result
          (g.O.Sink.written c.args.out.now) (g.O.Sink.written c.write_merged-written.new.out) c.tell_written.result t.0 c.as_slice-names.result.now c.as_slice-endings.result.now
          (string_bytes c.in-Ok.lines) c.are_damaged-damaged.result c.as_slice-names.ensures.value c.as_slice-endings.ensures.value
          c.in-Ok.ensures c.are_damaged-damaged.ensures is c.requires c.write_merged-written.ensures.written t.1) t.2;
      told_whole = λ tell asked is calm fed.
          let w = c.tell_written.ensures.told_whole calm fed in
          told_whole (wanted c.args.wanted.now) tell asked c.tell_written.result w.0 (g.E.Sink.written c.args.err.now) (g.E.Sink.written c.tell_written.new.err)
          (text_told_by (wanted c.args.wanted.now) tell asked (so_far c.args.readings.now) c.write_merged-written.result
          (g.O.Sink.written c.args.out.now) (g.O.Sink.written c.write_merged-written.new.out) c.tell_written.result w.0 c.as_slice-names.result.now c.as_slice-endings.result.now
          (string_bytes c.in-Ok.lines) c.are_damaged-damaged.result c.as_slice-names.ensures.value c.as_slice-endings.ensures.value
          c.in-Ok.ensures c.are_damaged-damaged.ensures is c.requires c.write_merged-written.ensures.written w.1) w.2;
    }
