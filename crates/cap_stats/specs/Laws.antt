-- What holds of the tables of all trees.
use Rattle.std.specs.Prelude.{◌≡◌, ℕ, true, List, [], ◌∷◌, ◌++◌, map}
use Rattle.std.specs.List.{AllByRecursion as Each}
use Rattle.pk_fields.specs.FieldSets.{is_in}
use Rattle.pk_fields.specs.Ids.{FRAME_LEN, IP_SRC, IP_DST, IPV6_SRC, IPV6_DST, TCP_STREAM, TCP_SRCPORT, TCP_DSTPORT}
use Rattle.pk_tree.specs.declared.layer.Layer.{Layer}
use Rattle.pk_tree.specs.Trees.{TreeShown, IsKept, kept_tree}
use Rattle.cap_stats.specs.declared.kind.StatKind.{StatKind}
use Rattle.cap_stats.specs.declared.kind.StatKind.TheVariants.{ConvTcp, ConvIp, Phs}
use Rattle.cap_stats.specs.Tables.{table_of}
use Rattle.cap_stats.specs.Told.{stream_in, packet_in, paths_in}

-- the fields that the table of a kind reads, beside the layers' protocols
abbrev pub fields_of : StatKind → List ℕ
fields_of ConvTcp =
    FRAME_LEN ∷ TCP_STREAM ∷ TCP_SRCPORT ∷ TCP_DSTPORT
    ∷ IP_SRC ∷ IP_DST ∷ IPV6_SRC ∷ IPV6_DST ∷ []
fields_of ConvIp = FRAME_LEN ∷ IP_SRC ∷ IP_DST ∷ []
fields_of Phs = FRAME_LEN ∷ []

-- a tree that keeps the items of some fields, those that the table of a kind reads among them
pub record IsKeptFor (kind : StatKind) (whole tree : TreeShown) : Type 0 where
  pub wanted : List ℕ
  pub fields : Each (λ field. is_in wanted field ≡ true) (fields_of kind)
  pub kept : IsKept wanted whole tree

-- trees that keep the items of some fields, these among them, have the same table as the whole trees
abbrev pub KeptTable : Type 0
KeptTable = (wanted : List ℕ) (kind : StatKind) (trees : List TreeShown)
    → Each (λ field. is_in wanted field ≡ true) (fields_of kind)
    → table_of kind (map (kept_tree wanted) trees) ≡ table_of kind trees

-- two trees are noted alike for the table of a kind: they show the same segment, the same packet or the same paths
abbrev pub AreNotedAlike : StatKind → TreeShown → TreeShown → Type 0
AreNotedAlike ConvTcp whole tree = stream_in tree.layers ≡ stream_in whole.layers
AreNotedAlike ConvIp whole tree = packet_in tree.layers ≡ packet_in whole.layers
AreNotedAlike Phs whole tree = paths_in tree.layers ≡ paths_in whole.layers

abbrev pub AllNotedAlike : StatKind → List TreeShown → List TreeShown → Type 0
AllNotedAlike kind [] [] = Unit {0}
AllNotedAlike kind [] (tree ∷ trees) = ⊥
AllNotedAlike kind (whole ∷ wholes) [] = ⊥
AllNotedAlike kind (whole ∷ wholes) (tree ∷ trees) =
    AreNotedAlike kind whole tree × AllNotedAlike kind wholes trees

-- trees that are noted alike have the same table
abbrev pub AlikeTable : Type 0
AlikeTable = (kind : StatKind) (wholes trees : List TreeShown) → AllNotedAlike kind wholes trees
    → table_of kind trees ≡ table_of kind wholes

-- all that a tree lacks of the whole tree's layers are layers without items, behind its own
pub record LacksBare (whole tree : TreeShown) : Type 0 where
  pub layers : List Layer
  pub whole_layers : whole.layers ≡ tree.layers ++ layers
  pub bare : Each (λ layer. layer.items ≡ []) layers

-- for the tables of conversations it is noted as the whole tree
abbrev pub BareUnread : Type 0
BareUnread = (whole tree : TreeShown) → LacksBare whole tree
    → AreNotedAlike ConvTcp whole tree × AreNotedAlike ConvIp whole tree
