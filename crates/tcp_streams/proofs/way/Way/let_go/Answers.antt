use Rattle.std.proofs.Common.{List, OnOk, sym, subst, arith}
use Rattle.pk_base.specs.declared.stretch.Stretch.{Stretch}
use Rattle.tcp_streams.specs.LetGo.{IsLetGoTo}
use Rattle.tcp_streams.specs.States.{state_of}
use Rattle.tcp_streams.proofs.LetGoLemmas.{joined_way, way_let_go_on}
use Rattle.tcp_streams.proofs.way.Way.let_go.Goals as goal

pub returns : goal.returns
returns c =
    let way = c.args.self.now in
    subst (λ (xs : List Stretch). OnOk c.let_go.result (IsLetGoTo c.args.to (state_of way) (joined_way way.origin c.let_go.new.self xs way.acked))) (sym c.new.ensures.items)
    (way_let_go_on way.origin way.earlier.items way.acked c.args.to c.min.result way.held c.let_go.new.self c.let_go.result c.requires
    (omega (arith, c.min.ensures)) (omega (arith, c.min.ensures, c.saturating_sub-last.ensures, c.end.ensures)) c.let_go.ensures)
