use Rattle.dis_http.proofs.HttpLemmas.{layout_is, message_head}
use Rattle.dis_http.proofs.RowLemmas.{on_ok}
use Rattle.dis_http.proofs.http.push_layout.Goals as goal

pub push_head-requires : goal.push_head-requires
push_head-requires c = rw c.front.ensures (message_head c.args.shape.now c.args.bytes.now c.requires).short

pub returns : goal.returns
returns c =
    on_ok c.push_body.result (λ body. layout_is c.args.shape.now c.args.bytes.now _ _ _ c.requires (rw c.front.ensures at c.in_ok-push_head.ensures) body) c.push_body.ensures
