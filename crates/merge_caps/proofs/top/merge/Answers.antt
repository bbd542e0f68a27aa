use Rattle.std.proofs.Common.{◌≡◌, Err, inl, inr, refl}
use Rattle.shark_words.specs.Words.{texts}
use Rattle.merge_caps.specs.Words.{wanted_of}
use Rattle.merge_caps.proofs.StageSteps.{all_asked, all_refused, no_fault_by, read_always, refused_no_fault, refused_not, unread_always}
use Rattle.merge_caps.proofs.TopSteps.{none_refused, none_refused_whole, none_told, none_told_whole}
use Rattle.merge_caps.proofs.top.merge.Goals as goal

pub returns-in-Ok : goal.returns-in-Ok
returns-in-Ok g c =
    let is = c.in-Ok.ensures in
    let m = c.merge_files.ensures in
    record {
      refused = rw is tt;
      not_refused = rw is m.not_refused;
      written = rw is m.written;
      read_back = rw is m.read_back;
      part = rw is m.part;
      nothing = m.nothing;
      unopened = λ same. rw is (m.unopened same);
      unread = λ same. rw is (m.unread same);
      large = λ same. rw is (m.large same);
      small = rw is m.small;
      write_fault = m.write_fault;
      starved = m.starved;
      took = rw is m.took;
      complete = no_fault_by c.merge_files.result _ _ _ (λ same. (m.unopened same).2.rose) (λ same. (m.unread same).2.rose) m.write_fault;
      told = rw is m.told;
      told_whole = λ calm fed. rw is (m.told_whole calm fed);
      told_refusal = rw is tt;
      told_refusal_whole = λ calm fed. rw is tt;
    }

pub returns-in-Err-Fault : goal.returns-in-Err-Fault
returns-in-Err-Fault g c =
    let is : wanted_of (texts c.args.words.now) ≡ Err c.in-Err-Fault.fault = rw c.in-Err-Fault.field-0-is at c.in-Err-Fault.ensures in
    let refused = c.tell_refusal.ensures.refused in
    record {
      refused = rw is (refused, refl {a = c.args.capture.now}, refl {a = c.args.out.now});
      not_refused = rw is tt;
      written = rw is tt;
      read_back = rw is tt;
      part = rw is tt;
      nothing = unread_always c.tell_refusal.result _ (refl {a = c.args.out.now});
      unopened = λ same. rw is tt;
      unread = λ same. rw is tt;
      large = λ same. rw is tt;
      small = read_always c.tell_refusal.result _ (rw is tt);
      write_fault = refused_not c.tell_refusal.result _ _ (λ bad. absurd (cc bad)) (λ bad. absurd (cc bad)) refused;
      starved = λ same. (refl {a = g.C.Capture.missed c.args.capture.now}, refl {a = g.C.Capture.faults c.args.capture.now}, refl {a = g.O.Sink.faults c.args.out.now});
      took = rw is tt;
      complete = λ a b d. refused_no_fault c.tell_refusal.result refused;
      told = rw is tt;
      told_whole = λ calm fed. rw is tt;
      told_refusal = rw is c.tell_refusal.ensures.told;
      told_refusal_whole = λ calm fed. rw is (c.tell_refusal.ensures.told_whole calm fed);
    }

pub returns-in-Err-NoMemory : goal.returns-in-Err-NoMemory
returns-in-Err-NoMemory g c = record {
  refused = all_refused (wanted_of (texts c.args.words.now)) _ (λ fault. (inr refl, refl {a = c.args.capture.now}, refl {a = c.args.out.now}));
  not_refused = all_asked (wanted_of (texts c.args.words.now)) _ (λ wanted. λ same. absurd (cc same));
  written = all_asked (wanted_of (texts c.args.words.now)) _ (λ wanted. tt);
  read_back = all_asked (wanted_of (texts c.args.words.now)) _ (λ wanted. tt);
  part = all_asked (wanted_of (texts c.args.words.now)) _ (λ wanted. inl (refl {a = c.args.out.now}));
  nothing = tt;
  unopened = λ same. absurd (cc same);
  unread = λ same. absurd (cc same);
  large = λ same. absurd (cc same);
  small = tt;
  write_fault = λ same. absurd (cc same);
  starved = λ same. (refl {a = g.C.Capture.missed c.args.capture.now}, refl {a = g.C.Capture.faults c.args.capture.now}, refl {a = g.O.Sink.faults c.args.out.now});
  took = all_asked (wanted_of (texts c.args.words.now)) _ (λ wanted. inl (refl {a = g.C.Capture.left c.args.capture.now}));
  complete = λ a b d. tt;
  told = none_told (wanted_of (texts c.args.words.now)) _ _ _;
  told_whole = λ calm fed. none_told_whole (wanted_of (texts c.args.words.now)) _ _ _;
  told_refusal = none_refused (wanted_of (texts c.args.words.now)) _;
  told_refusal_whole = λ calm fed. none_refused_whole (wanted_of (texts c.args.words.now)) _;
}
