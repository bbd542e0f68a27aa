use Rattle.std.proofs.Common.{◌∷◌, length, refl, subst, arith}
use Rattle.std.proofs.lemmas.Result.{IfOk-weaker}
use Rattle.ip_join.specs.declared.joined.Joined.{Joined}
use Rattle.ip_join.specs.Waiting.{bytes_joined}
use Rattle.dissect.specs.Events.{Piece}
use Rattle.dissect.specs.Fragments.{fragments_of}
use Rattle.dissect.specs.Stands.{IsWalked}
use Rattle.dissect.specs.Walks.{joined_met}
use Rattle.dissect.proofs.Joining.{stands-piece}
use Rattle.dissect.proofs.Opens.{adds-joined}
use Rattle.dissect.proofs.state.State.piece.Goals as goal

pub returns-clause-walked : goal.returns-clause-walked
returns-clause-walked c =
    IfOk-weaker c.behind_piece.result _ _
    (λ todo walked rules es stands.
    let frame = c.args.frame.now.number in
    let head = c.args.head in
    let bytes = c.args.bytes.now in
    let kept = c.in_ok-joined.ensures.stands (fragments_of es) stands.joins in
    subst (λ (j : Joined). IsWalked rules (joined_met j c.args.tree.now (Piece frame head bytes ∷ es) head c.args.span) c.behind_piece.new.self c.behind_piece.new.tree todo)
    (c.in_ok-joined.ensures.joined (fragments_of es) stands.joins)
    (walked rules (Piece frame head bytes ∷ es) (stands-piece rules es frame head bytes c.args.self.now _ stands refl refl refl refl refl refl kept)))
    c.behind_piece.ensures.walked

pub returns-clause-adds : goal.returns-clause-adds
returns-clause-adds c =
    adds-joined (bytes_joined c.in_ok-joined.joined) c.args.span.len (length c.args.bytes.now) c.args.self.now c.take.new.self c.behind_piece.new.self c.behind_piece.result
    c.in_ok-joined.ensures.brought c.requires.bytes c.behind_piece.ensures.adds

pub behind_piece-requires-clause-ready : goal.behind_piece-requires-clause-ready
behind_piece-requires-clause-ready c = record {
  state = record {
    udp = c.requires.ready.state.udp;
    tcp = c.requires.ready.state.tcp;
    bytes = omega (arith, c.requires.ready.state.bytes, c.in_ok-joined.ensures.brought, c.requires.bytes);
  };
  layers = c.requires.ready.layers;
  buffers = c.requires.ready.buffers;
}
