use Rattle.std.proofs.Common.{◌∙◌, inl, refl}
use Rattle.merge_caps.specs.Reading.{files_of, so_far}
use Rattle.merge_caps.specs.Told.{cause_text}
use Rattle.merge_caps.specs.Words.{wanted}
use Rattle.merge_caps.proofs.StageSteps.{by_time_of_files, is_read, part_of_files, read_always, read_never, stop_facts, unread_always, unread_when, written_of_files, written_when}
use Rattle.merge_caps.proofs.TopSteps.{starved, starved_whole, stop_told, told, told_whole}
use Rattle.merge_caps.proofs.top.merge_files.Goals as goal

pub returns-in-Err : goal.returns-in-Err
returns-in-Err g c = record {
  not_refused = λ is. absurd (cc is);
  written = tt;
  read_back = tt;
  part = inl (refl {a = c.args.out.now});
  nothing = tt;
  unopened = λ is. absurd (cc is);
  unread = λ is. absurd (cc is);
  large = λ is. absurd (cc is);
  small = tt;
  took = inl (refl {a = g.C.Capture.left c.args.capture.now});
  write_fault = λ is. absurd (cc is);
  starved = λ is. (refl {a = g.C.Capture.missed c.args.capture.now}, refl {a = g.C.Capture.faults c.args.capture.now}, refl {a = g.O.Sink.faults c.args.out.now});
  told = starved (wanted c.args.wanted.now) (g.C.Capture.file c.args.capture.now) (g.C.Capture.asked c.args.capture.now) (g.E.Sink.written c.args.err.now);
  told_whole = λ calm fed. starved_whole (wanted c.args.wanted.now) (g.C.Capture.file c.args.capture.now) (g.C.Capture.asked c.args.capture.now) (g.E.Sink.written c.args.err.now);
}

pub returns-in-Err-read_files : goal.returns-in-Err-read_files
returns-in-Err-read_files g c =
    let facts = stop_facts _ c.in-Err-read_files.stopped c.tell_stopped-status.result _ _ (rw c.as_slice-names.ensures.value at c.in-Err-read_files.ensures.stopped) c.tell_stopped-status.ensures.status in
    let text = stop_told (wanted c.args.wanted.now) c.as_slice-names.result.now c.as_slice-unopened.result.now c.in-Err-read_files.stopped c.index-unopened-stopped.result _ _ c.tell_stopped-status.result
    c.as_slice-names.ensures.value (c.as_slice-unopened.ensures.value ∙ c.in-Ok.ensures) c.in-Err-read_files.ensures.stopped c.index-unopened-stopped.is c.tell_stopped-status.ensures.status in
    record {
      not_refused = facts.not_refused;
      written = written_when c.tell_stopped-status.result _ _ (λ bad. absurd bad) facts.not_written;
      read_back = written_when c.tell_stopped-status.result _ _ (λ bad. absurd bad) facts.not_written;
      part = inl (refl {a = c.args.out.now});
      nothing = unread_always c.tell_stopped-status.result _ (refl {a = c.args.out.now});
      unopened = facts.unopened;
      unread = facts.unread;
      large = facts.large;
      small = read_never c.tell_stopped-status.result _ facts.not_read;
      took = rw c.as_slice-names.ensures.value at c.read_files.ensures.took;
      write_fault = λ is. absurd (facts.no_write is);
      starved = λ is. ((facts.starved is).0, (facts.starved is).1, refl {a = g.O.Sink.faults c.args.out.now});
      told = told (wanted c.args.wanted.now) (g.C.Capture.file c.args.capture.now) (g.C.Capture.asked c.read_files.new.capture) c.tell_stopped-status.result
          (cause_text c.in-Err-read_files.stopped.cause c.index-unopened-stopped.result)
          (g.E.Sink.written c.args.err.now) (g.E.Sink.written c.tell_stopped-status.new.err) text c.tell_stopped-status.ensures.told;
      told_whole = λ calm fed.
          told_whole (wanted c.args.wanted.now) (g.C.Capture.file c.args.capture.now) (g.C.Capture.asked c.read_files.new.capture) c.tell_stopped-status.result
          (cause_text c.in-Err-read_files.stopped.cause c.index-unopened-stopped.result)
          (g.E.Sink.written c.args.err.now) (g.E.Sink.written c.tell_stopped-status.new.err) text (c.tell_stopped-status.ensures.told_whole calm fed);
    }

pub returns-in-Ok-read_files : goal.returns-in-Ok-read_files
returns-in-Ok-read_files g c =
    let is = rw c.as_slice-names.ensures.value at c.in-Ok-read_files.ensures.read in
    let w = c.write_readings-status.ensures in
    let calm = c.in-Ok-read_files.ensures.no_fault in
    record {
      not_refused = λ same. is_read c.write_readings-status.result _ w.all_read same;
      written = written_of_files c.args.wanted.now.format (files_of (g.C.Capture.file c.args.capture.now) c.args.wanted.now.names.items) (so_far c.in-Ok-read_files.readings) c.write_readings-status.result _ _ is w.written;
      read_back = by_time_of_files c.args.wanted.now.format (files_of (g.C.Capture.file c.args.capture.now) c.args.wanted.now.names.items) (so_far c.in-Ok-read_files.readings) c.write_readings-status.result _ _ is w.written;
      part = part_of_files _ c.args.wanted.now.format (files_of (g.C.Capture.file c.args.capture.now) c.args.wanted.now.names.items) (so_far c.in-Ok-read_files.readings) _ _ is w.part;
      nothing = unread_when c.write_readings-status.result _ _ (λ bad. absurd bad) w.all_read;
      unopened = λ same. absurd (is_read c.write_readings-status.result _ w.all_read same);
      unread = λ same. absurd (is_read c.write_readings-status.result _ w.all_read same);
      large = λ same. absurd (is_read c.write_readings-status.result _ w.all_read same);
      small = read_always c.write_readings-status.result _ (rw c.as_slice-names.ensures.value at c.in-Ok-read_files.ensures.small);
      took = rw c.as_slice-names.ensures.value at c.read_files.ensures.took;
      write_fault = w.write_fault;
      starved = λ same. (calm.0, calm.1, w.starved same);
      told = w.told (g.C.Capture.file c.args.capture.now) (g.C.Capture.asked c.read_files.new.capture) is;
      told_whole = w.told_whole (g.C.Capture.file c.args.capture.now) (g.C.Capture.asked c.read_files.new.capture) is;
    }
