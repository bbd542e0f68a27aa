use Rattle.std.proofs.Common.{◌≡◌, suc, ◌+◌, [], ◌∷◌, ◌++◌, length, length-append, Option, map, sym, ap, subst, ◌∙◌, arith}
use Rattle.std.specs.Prelude.{All}
use Rattle.std.specs.Option.{option_to_list}
use Rattle.std.proofs.lemmas.List.Elements.{All-nil, All-drop, All-push}
use Rattle.tcp_streams.specs.Standing.{way_for, way_in}
use Rattle.tcp_streams.specs.Ways.{stretches}
use Rattle.stream_messages.specs.declared.placed.Placed.{Placed}
use Rattle.stream_messages.specs.Cursors.{IsWholeInOne}
use Rattle.tcp_messages.specs.Reading.{IsSomeWhole}
use Rattle.tcp_messages.specs.Shown.{IsFramedIn, IsWholeIn, located}
use Rattle.tcp_messages.proofs.Sources.{framed_all, locate_more, none_of}
use Rattle.tcp_messages.proofs.locating.locate_all.Goals as goal

pub loop-message-init : goal.loop-message-init
loop-message-init c =
    let all : c.from-rest.result.items ≡ c.args.messages = c.from-rest.ensures.0 ∙ c.into_vec.ensures in
    record {
      located_so = λ past stands. λ i. c.new-shown.ensures.items i ++ map (located (way_for past c.args.taken.now.stream c.args.taken.now.side).held c.args.s.now c.args.taken.now.position) (all i);
      whole = subst (All (IsWholeIn c.args.s.now.payload)) (sym c.new-shown.ensures.items) (All-nil (IsWholeIn c.args.s.now.payload));
      framed = λ framer given. (
        subst (All (IsFramedIn framer c.args.s.now.payload)) (sym c.new-shown.ensures.items) (All-nil (IsFramedIn framer c.args.s.now.payload)),
        subst (All (IsWholeInOne framer (stretches (way_in c.args.streams.now c.args.taken.now.stream c.args.taken.now.side)))) (sym all) given,
      );
      count =
          let none : length c.new-shown.result.items ≡ 0 = ap length c.new-shown.ensures.items in
          let same : length c.from-rest.result.items ≡ length c.args.messages = ap length all in
          omega (arith, none, same);
      run = tt;
      left = subst (All (IsSomeWhole (stretches (way_in c.args.streams.now c.args.taken.now.stream c.args.taken.now.side)))) (sym all) c.requires.whole;
    }

pub locate-requires-clause-whole : goal.locate-requires-clause-whole
locate-requires-clause-whole c =
    let items : c.loop-message.rest.items ≡ c.in-Some.message ∷ c.pop_front.new.self.items = c.pop_front.ensures.items ∙ ap (λ (o : Option Placed). option_to_list o ++ c.pop_front.new.self.items) c.in-Some.is in
    subst (All (IsSomeWhole (stretches (way_in c.args.streams.now c.args.taken.now.stream c.args.taken.now.side)))) items c.loop-message.invariant.left 0 c.in-Some.message (omega arith)

pub loop-message-preserved : goal.loop-message-preserved
loop-message-preserved c =
    let items : c.loop-message.rest.items ≡ c.in-Some.message ∷ c.pop_front.new.self.items = c.pop_front.ensures.items ∙ ap (λ (o : Option Placed). option_to_list o ++ c.pop_front.new.self.items) c.in-Some.is in
    record {
      located_so = λ past stands.
          ap (λ xs. xs ++ map (located (way_for past c.args.taken.now.stream c.args.taken.now.side).held c.args.s.now c.args.taken.now.position) c.pop_front.new.self.items) c.in_ok-push.ensures.items
          ∙ locate_more (way_for past c.args.taken.now.stream c.args.taken.now.side).held c.args.s.now c.args.taken.now.position c.loop-message.shown.items c.in-Some.message c.in_ok-source.source
          c.loop-message.rest.items c.pop_front.new.self.items _ items (c.in_ok-source.ensures.located past stands) (c.loop-message.invariant.located_so past stands);
      whole = subst (All (IsWholeIn c.args.s.now.payload)) (sym c.in_ok-push.ensures.items)
          (All-push (IsWholeIn c.args.s.now.payload) c.loop-message.shown.items _ c.loop-message.invariant.whole c.in_ok-source.ensures.whole);
      framed = λ framer given.
          let was = c.loop-message.invariant.framed framer given in
          let left = subst (All (IsWholeInOne framer (stretches (way_in c.args.streams.now c.args.taken.now.stream c.args.taken.now.side)))) items was.1 in (
            subst (All (IsFramedIn framer c.args.s.now.payload)) (sym c.in_ok-push.ensures.items)
                (All-push (IsFramedIn framer c.args.s.now.payload) c.loop-message.shown.items _ was.0 (c.in_ok-source.ensures.framed framer (left 0 c.in-Some.message (omega arith)))),
            All-drop (IsWholeInOne framer (stretches (way_in c.args.streams.now c.args.taken.now.stream c.args.taken.now.side))) 1 (c.in-Some.message ∷ c.pop_front.new.self.items) left,
          );
      count =
          let more : length c.push.new.self.items ≡ length c.loop-message.shown.items + 1 = ap length c.in_ok-push.ensures.items ∙ length-append c.loop-message.shown.items (_ ∷ []) in
          let less : length c.loop-message.rest.items ≡ suc (length c.pop_front.new.self.items) = ap length items in
          omega (arith, more, less, c.loop-message.invariant.count);
      run = c.run_at-run.ensures.run;
      left = All-drop (IsSomeWhole (stretches (way_in c.args.streams.now c.args.taken.now.stream c.args.taken.now.side))) 1 (c.in-Some.message ∷ c.pop_front.new.self.items)
          (subst (All (IsSomeWhole (stretches (way_in c.args.streams.now c.args.taken.now.stream c.args.taken.now.side)))) items c.loop-message.invariant.left);
    }

pub returns-clause-whole : goal.returns-clause-whole
returns-clause-whole c = subst (All (IsWholeIn c.args.s.now.payload)) (sym c.from_vec.ensures) c.loop-message.invariant.whole

pub returns-clause-framed : goal.returns-clause-framed
returns-clause-framed c = λ framer.
    framed_all framer c.args.s.now.payload (stretches (way_in c.args.streams.now c.args.taken.now.stream c.args.taken.now.side)) c.args.messages c.from_vec.result
    (λ known given. subst (All (IsFramedIn known c.args.s.now.payload)) (sym c.from_vec.ensures) (c.loop-message.invariant.framed known given).0)
    (λ none. none_of c.from_vec.result (omega (arith, ap length none, ap length c.from_vec.ensures, c.loop-message.invariant.count)))
