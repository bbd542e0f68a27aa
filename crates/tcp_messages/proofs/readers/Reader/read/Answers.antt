use Rattle.std.proofs.Common.{◌++◌, List, ap, ◌∙◌, subst, sym}
use Rattle.stream_messages.specs.declared.cursor.Cursor.{Cursor}
use Rattle.stream_messages.specs.declared.placed.Placed.{Placed}
use Rattle.stream_messages.specs.Cursors.{IsQuiet}
use Rattle.stream_messages.specs.Sides.{heads_in}
use Rattle.tcp_messages.specs.Readers.{IsBehindWayFrom}
use Rattle.tcp_messages.proofs.readers.Reader.read.Goals as goal

pub returns : goal.returns
returns c =
    let same = c.replace-cursor.ensures.value in
    record {
      right = c.in_ok-shown.ensures.right;
      whole = c.in_ok-shown.ensures.whole;
      few = λ w s way step lost quiet. c.in_ok-shown.ensures.few w s way step lost (subst (λ (x : Cursor). IsQuiet c.args.framer x w.front) (sym same) quiet);
      heads_are = c.in_ok-push_heads.ensures ∙ ap (λ (messages : List Placed). c.args.self.now.heads.items ++ heads_in messages) c.slice.ensures;
      cut = λ asked w u s way way_u kept step lost asks behind.
          c.in_ok-shown.ensures.cut asked w u s way way_u kept step lost asks (subst (λ (x : Cursor). IsBehindWayFrom c.args.framer asked w u.start x) (sym same) behind);
    }
