use Rattle.std.proofs.Common.{◌++◌, ℕ, List, ap, ◌∙◌}
use Rattle.std.specs.List.{flat_map}
use Rattle.std.specs.BTreeMap.{keys}
use Rattle.std.specs.String.{string_bytes}
use Rattle.cap_stats.specs.Stands.{tally_at}
use Rattle.cap_stats.specs.Tables.{path_line}
use Rattle.cap_stats.proofs.TableLemmas.{paths_made}
use Rattle.cap_stats.proofs.paths.Paths.table.Goals as goal

pub returns : goal.returns
returns c = λ notes has.
    paths_made c.args.self.now notes c.len.result c.put_paths.new.text.items c.len.ensures.len
    (c.in_ok-put_paths.ensures ∙ ap (λ (text : List ℕ). text ++ flat_map (λ k. path_line (string_bytes k) (tally_at c.args.self.now (string_bytes k))) (keys c.args.self.now.all)) c.in_ok-text.ensures) has
