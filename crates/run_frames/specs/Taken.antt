-- A frame that is taken for its headers, which answer for it.
use Rattle.std.specs.Prelude.{◌≡◌, ◌+◌, ℕ, Bool, true, false, List, ◌∷◌, length}
use Rattle.capture_read.specs.declared.frame.Frame.{Frame}
use Rattle.dissect.specs.Followed.{asks_streams}
use Rattle.dissect.specs.Heads.{HeadsShown}
use Rattle.dissect.specs.Stands.{DissectorShown, StandsWithin}
use Rattle.dissect.specs.Trees.{tree_at}
use Rattle.pk_source.specs.Outlines.{IsOutline, outlined}
use Rattle.pk_source.specs.declared.source.Lender.{Lender}
use Rattle.pk_source.specs.declared.source.Lender.TheVariants as lenders
use Rattle.pk_tree.specs.Trees.{IsKept, TreeShown}
use Rattle.run_frames.specs.Job.{Passes, with_links}
use Rattle.run_frames.specs.Later.{Serves}
use Rattle.run_frames.specs.Wanted.{IsSpared}
use Rattle.run_frames.specs.declared.later.Later.{Later}
use Rattle.run_frames.specs.declared.taken.Taken.{Taken}
use Rattle.run_frames.specs.declared.taken.Taken.TheVariants as takens

-- there is a tree
abbrev pub IsTreeLent : Lender → Type 0
IsTreeLent (lenders.Tree tree) = Unit {0}
IsTreeLent (lenders.Outline outline) = ⊥

-- the tree that headers in these bytes make, with the items of the wanted fields
abbrev pub heads_tree : List ℕ → List ℕ → HeadsShown → TreeShown
heads_tree bytes wanted heads = outlined bytes wanted heads.headers heads.notes

-- a dissector took a frame whose headers tell what a tree of it would
pub record IsTakenPlain (old new : DissectorShown) (frame : Frame) (heads : HeadsShown) : Type 0 where
  pub outline : IsOutline frame.bytes new.wanted heads.headers heads.notes
  pub spared : (past : List Frame) → StandsWithin past old
      → IsSpared old.wanted (tree_at old.decode.rules past frame) (heads_tree frame.bytes old.wanted heads)
  pub kept : asks_streams old.wanted ≡ true → old.sparing ≡ false → (past : List Frame) → StandsWithin past old
      → IsKept old.wanted (tree_at old.decode.rules past frame) (heads_tree frame.bytes old.wanted heads)
  pub stands : (past : List Frame) → StandsWithin past old → StandsWithin (frame ∷ past) new
  pub taken : new.taken ≡ old.taken + 1
  pub captured : new.captured ≡ old.captured + length frame.bytes

-- what a dissector took of a frame, as a tree
abbrev pub taken_tree : Frame → DissectorShown → Taken → TreeShown
taken_tree frame d (takens.Heads heads) = heads_tree frame.bytes d.wanted heads.value
taken_tree frame d (takens.Tree tree) = tree

-- headers are an outline
abbrev pub HasOutline : Frame → DissectorShown → Taken → Type 0
HasOutline frame d (takens.Heads heads) = IsOutline frame.bytes d.wanted heads.value.headers heads.value.notes
HasOutline frame d (takens.Tree tree) = Unit {0}

-- a dissector took a frame for its headers, or for a tree, that tell what any tree of it would, with its links to later frames
pub record IsTakenBy (old new : DissectorShown) (later : Later) (frame : Frame) (taken : Taken) : Type 0 where
  pub outline : HasOutline frame new taken
  pub bare : TreeShown
  pub spared : (past : List Frame) → StandsWithin past old → IsSpared old.wanted (tree_at old.decode.rules past frame) bare
  pub kept : asks_streams old.wanted ≡ true → old.sparing ≡ false → (past : List Frame) → StandsWithin past old
      → IsKept old.wanted (tree_at old.decode.rules past frame) bare
  pub linked : (two : Bool) (passes : Passes) → Serves two passes later → taken_tree frame old taken ≡ with_links passes frame.number bare
  pub stands : (past : List Frame) → StandsWithin past old → StandsWithin (frame ∷ past) new
  pub counted : new.taken ≡ old.taken + 1
  pub captured : new.captured ≡ old.captured + length frame.bytes
