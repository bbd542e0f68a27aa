use Rattle.std.proofs.Common.{refl, ◌∷◌}
use Rattle.tcp_streams.specs.Standing.{streams_of}
use Rattle.tcp_messages.specs.Standing.{ReadsFor, ReadsFrom}
use Rattle.tcp_messages.proofs.Bridging.{reads_whole}
use Rattle.tcp_messages.proofs.Keeping.{step_by}
use Rattle.tcp_messages.proofs.Whole.{before, kept_whole, ready_before, shown_is}
use Rattle.tcp_messages.proofs.message_streams.MessageStreams.take.Goals as goal

pub read_next-requires-clause-sound : goal.read_next-requires-clause-sound
read_next-requires-clause-sound c =
    let sound = c.args.self.now.kept.sound c.if-kept.false in (
      c.args.self.now.kept.streams,
      c.args.s.now,
      ready_before c.args.self.now c.args.s.now sound c.requires.taken c.requires.bytes,
      sound,
      c.in_ok-taken.ensures.stepped,
    )

pub locate_all-requires-clause-side : goal.locate_all-requires-clause-side
locate_all-requires-clause-side c =
    (step_by c.args.s.now c.in_ok-taken.taken (streams_of c.args.self.now.kept.streams) (streams_of c.take.new.self) c.in_ok-taken.ensures.stepped).low

pub returns-clause-place : goal.returns-clause-place
returns-clause-place c =
    let step = step_by c.args.s.now c.in_ok-taken.taken (streams_of c.args.self.now.kept.streams) (streams_of c.take.new.self) c.in_ok-taken.ensures.stepped in
    (step.within, step.low)

pub returns-clause-shown_from : goal.returns-clause-shown_from
returns-clause-shown_from c = λ framer_of past of_ends same reads.
    let sound = c.args.self.now.kept.sound c.if-kept.false in
    let known = before framer_of c.args.framer past c.args.s.now c.in_ok-taken.taken c.args.self.now c.take.new.self sound c.requires.taken c.requires.bytes c.in_ok-taken.ensures.stepped c.in_ok-taken.ensures.taken_from of_ends same reads in
    shown_is c.args.framer past c.args.s.now c.in_ok-taken.taken c.in_ok-read.read c.in_ok-messages.messages known.taken_is
    (c.in_ok-read.ensures.read framer_of past c.args.s.now c.args.self.now.kept.streams known) (c.in_ok-messages.ensures.located (_ ∷ past) (c.in_ok-taken.ensures.stands_from past known.stands))

pub returns-clause-shown : goal.returns-clause-shown
returns-clause-shown c = λ framer_of past of_ends same reads.
    returns-clause-shown_from c framer_of past of_ends same (kept_whole framer_of past c.args.self.now (c.args.self.now.kept.sound c.if-kept.false) reads)

pub returns-clause-stands_from : goal.returns-clause-stands_from
unfolding ReadsFrom
returns-clause-stands_from c = λ framer_of past of_ends same reads.
    let sound = c.args.self.now.kept.sound c.if-kept.false in
    let known = before framer_of c.args.framer past c.args.s.now c.in_ok-taken.taken c.args.self.now c.take.new.self sound c.requires.taken c.requires.bytes c.in_ok-taken.ensures.stepped c.in_ok-taken.ensures.taken_from of_ends same reads in
    record {
      streams = c.in_ok-taken.ensures.stands_from past known.stands;
      fresh = refl;
      readers = c.in_ok-read.ensures.stands framer_of past c.args.s.now c.args.self.now.kept.streams known;
    }

pub returns-clause-stands : goal.returns-clause-stands
unfolding ReadsFor
returns-clause-stands c = λ framer_of past of_ends same reads.
    let sound = c.args.self.now.kept.sound c.if-kept.false in
    let stands = c.in_ok-taken.ensures.stands past reads.streams in
    let known = before framer_of c.args.framer past c.args.s.now c.in_ok-taken.taken c.args.self.now c.take.new.self sound c.requires.taken c.requires.bytes c.in_ok-taken.ensures.stepped c.in_ok-taken.ensures.taken_from of_ends same
    (kept_whole framer_of past c.args.self.now sound reads) in
    record {
      streams = stands;
      fresh = refl;
      readers = reads_whole framer_of (c.args.s.now ∷ past) c.take.new.self _ stands c.in_ok-read.ensures.sound.count (c.in_ok-read.ensures.stands framer_of past c.args.s.now c.args.self.now.kept.streams known);
    }

pub returns-clause-framed_from : goal.returns-clause-framed_from
returns-clause-framed_from c = λ framer_of past of_ends same reads.
    let sound = c.args.self.now.kept.sound c.if-kept.false in
    let known = before framer_of c.args.framer past c.args.s.now c.in_ok-taken.taken c.args.self.now c.take.new.self sound c.requires.taken c.requires.bytes c.in_ok-taken.ensures.stepped c.in_ok-taken.ensures.taken_from of_ends same reads in
    c.in_ok-messages.ensures.framed c.args.framer (c.in_ok-read.ensures.framed framer_of past c.args.s.now c.args.self.now.kept.streams known)

pub returns-clause-framed : goal.returns-clause-framed
returns-clause-framed c = λ framer_of past of_ends same reads.
    returns-clause-framed_from c framer_of past of_ends same (kept_whole framer_of past c.args.self.now (c.args.self.now.kept.sound c.if-kept.false) reads)
