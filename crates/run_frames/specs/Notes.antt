-- What is noted of frames beside their lines, for what stands behind these.
use Rattle.std.specs.Prelude.{◌≡◌, ℕ, suc, List}
use Rattle.capture_read.specs.declared.frame.Frame.{Frame}
use Rattle.pk_tree.specs.Trees.{TreeShown}
use Rattle.run_frames.specs.declared.notes.Notes.{Notes}
use Rattle.run_frames.specs.declared.plan.Plan.{Plan}
use Rattle.run_frames.specs.Job.{Job}
use Rattle.run_frames.specs.Tables.{AreFewTables, AreTables, trees_let, trees_with}
use Rattle.run_frames.specs.Totals.{AreFew, counts_of, counts_with}

-- the notes of frames, the newest first
pub record AreNotes (job : Job) (past : List Frame) (notes : Notes) : Type 0 where
  pub totals : notes.totals ≡ counts_of job past
  pub tables : AreTables job.plan (trees_let job past) notes.tables

-- so many frames were noted at most
pub record AreFewNotes (most : ℕ) (notes : Notes) : Type 0 where
  pub totals : AreFew most notes.totals
  pub tables : AreFewTables most notes.tables

-- one frame more at most
pub record AreOneMore (old new : Notes) : Type 0 where
  pub few : (most : ℕ) → AreFewNotes most old → AreFewNotes (suc most) new

-- the notes of one tree more, as far as the filter lets it through
pub record HasNoted (plan : Plan) (tree : TreeShown) (old new : Notes) : Type 0 where
  pub totals : new.totals ≡ counts_with plan tree old.totals
  pub tables : (trees : List TreeShown) → AreTables plan trees old.tables → AreTables plan (trees_with plan tree trees) new.tables
