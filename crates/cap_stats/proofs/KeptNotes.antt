-- A tree that shows what the whole tree shows for the table of a kind is noted as the whole tree, and one that keeps what the table reads
-- shows the same.
use Rattle.std.proofs.Common.{◌≡◌, ℕ, List, ◌∷◌, ◌++◌, Option, ap, ◌∙◌, sym, subst}
use Rattle.pk_tree.specs.Trees.{TreeShown}
use Rattle.cap_stats.specs.declared.kind.StatKind.{StatKind}
use Rattle.cap_stats.specs.declared.kind.StatKind.TheVariants.{ConvTcp, ConvIp, Phs}
use Rattle.cap_stats.specs.declared.party.Flight.{Flight}
use Rattle.cap_stats.specs.declared.stats.Stats.{Stats}
use Rattle.cap_stats.specs.Laws.{AreNotedAlike, IsKeptFor}
use Rattle.cap_stats.specs.Stands.{HasNotes, HasPairs, HasPaths, HasStreams, Stands, kind_of}
use Rattle.cap_stats.specs.Tables.{packets_of, paths_of, segments_of, with_note}
use Rattle.cap_stats.specs.Told.{packet_in, paths_in, stream_in}
use Rattle.cap_stats.proofs.KeptTables.{packet_same, paths_same, stream_same}

pub kept_alike : (kind : StatKind) (whole tree : TreeShown) → IsKeptFor kind whole tree → AreNotedAlike kind whole tree
kept_alike ConvTcp whole tree kept = ap (λ (t : TreeShown). stream_in t.layers) kept.kept.same ∙ stream_same kept.wanted kept.fields whole.layers
kept_alike ConvIp whole tree kept = ap (λ (t : TreeShown). packet_in t.layers) kept.kept.same ∙ packet_same kept.wanted kept.fields whole.layers
kept_alike Phs whole tree kept = ap (λ (t : TreeShown). paths_in t.layers) kept.kept.same ∙ paths_same kept.wanted kept.fields whole.layers

notes_alike : (kind : StatKind) (whole tree : TreeShown) (trees : List TreeShown) (stats : Stats)
    → AreNotedAlike kind whole tree → HasNotes kind (tree ∷ trees) stats → HasNotes kind (whole ∷ trees) stats
notes_alike ConvTcp whole tree trees stats alike has =
    subst (λ (note : Option (ℕ × Flight)). HasStreams (with_note note (segments_of trees)) stats.streams) alike has
notes_alike ConvIp whole tree trees stats alike has =
    subst (λ (note : Option ((ℕ × ℕ) × Flight)). HasPairs (with_note note (packets_of trees)) stats.pairs) alike has
notes_alike Phs whole tree trees stats alike has =
    subst (λ (notes : List (List ℕ × ℕ)). HasPaths (notes ++ paths_of trees) stats.paths) alike has

pub stands_alike : (kind : StatKind) (whole tree : TreeShown) (trees : List TreeShown) (stats : Stats) → kind_of stats ≡ kind → AreNotedAlike kind whole tree
    → Stands (tree ∷ trees) stats → Stands (whole ∷ trees) stats
unfolding Stands
stands_alike kind whole tree trees stats is alike stands = (
  stands.0,
  subst (λ (k : StatKind). HasNotes k (whole ∷ trees) stats) (sym is)
      (notes_alike kind whole tree trees stats alike (subst (λ (k : StatKind). HasNotes k (tree ∷ trees) stats) is stands.1)),
)
