use Rattle.std.proofs.Common.{◌∙◌, Bool, Some, cond, ap}
use Rattle.std.specs.BTreeMap as tree
use Rattle.message_links.specs.LinkTables.{query_cmp}
use Rattle.message_links.proofs.LinkKeys.{query_tied}
use Rattle.message_links.proofs.link_tables.Queries.set.Goals as goal

pub returns : goal.returns
returns c = λ other.
    c.in_ok-insert.ensures.updates.0 other
    ∙ ap (λ (b : Bool). cond b (Some c.args.frame) (tree.get query_cmp c.args.self.now.all other)) (query_tied c.args.key other)
