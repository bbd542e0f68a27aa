-- What is noted of one frame more.
use Rattle.std.proofs.Common.{◌≡◌, ◌≤◌, ◌+◌, ℕ, suc, Bool, true, false, List, ◌∷◌, arith, sym, ap, ◌∙◌, subst, if◌then◌else◌, [], Option, None, Some}
use Rattle.cap_stats.proofs.FewLemmas.{few_more as stats_few}
use Rattle.cap_stats.proofs.KeptNotes.{stands_alike}
use Rattle.cap_stats.specs.Few.{HasFew}
use Rattle.cap_stats.specs.Stands.{Stands, kind_of}
use Rattle.cap_stats.specs.declared.kind.StatKind.{StatKind}
use Rattle.cap_stats.specs.declared.kind.StatKind.TheVariants.{ConvTcp, ConvIp, Phs}
use Rattle.cap_stats.specs.declared.stats.Stats.{Stats}
use Rattle.capture_read.specs.declared.frame.Frame.{Frame}
use Rattle.flt_vm.specs.declared.run.Verdict.{Verdict}
use Rattle.pk_tree.specs.Trees.{TreeShown}
use Rattle.run_frames.specs.declared.notes.Notes.{Notes}
use Rattle.run_frames.specs.declared.plan.Plan.{Plan}
use Rattle.run_frames.specs.declared.tables.Table.{Table}
use Rattle.run_frames.specs.declared.tables.Tables.{Tables}
use Rattle.run_frames.specs.declared.totals.Totals.{Totals}
use Rattle.run_frames.specs.Accessors.{compiled_of, is_generated, stats_of}
use Rattle.run_frames.specs.Totals.{steps_told, counts_by, counts_with, nothing_counted, with_tree}
use Rattle.run_frames.specs.Job.{Job}
use Rattle.run_frames.specs.Notes.{AreFewNotes, AreNotes, AreOneMore, HasNoted}
use Rattle.run_frames.specs.Satisfied.{judged}
use Rattle.run_frames.specs.Tables.{AreFewTables, AreTables, IsTable, asks_table, asks_tables, trees_let, trees_with}
use Rattle.run_frames.specs.Trees.{lets, tree_of}
use Rattle.run_frames.specs.Wanted.{IsNotedAs, IsToldAs}
use Rattle.run_frames.proofs.TotalsLemmas.{few_begun, few_more}
use Rattle.run_frames.proofs.WantedLemmas.{no_table}
use Rattle.std.specs.Prelude.{Result, Ok, Err, OnOk}
use Rattle.std.specs.Option.{unwrap_or}
use Rattle.capture_write.specs.Kept.{Kept, Stands as Written, nothing_kept}
use Rattle.capture_write.specs.declared.format.Format.{Format}
use Rattle.capture_write.specs.declared.format.Format.TheVariants.{Pcapng}
use Rattle.run_frames.specs.Steps.{KeepsUp}

-- where nothing is counted
with_no_steps : (totals : Totals) → record totals { steps = totals.steps + 0 } ≡ totals
with_no_steps totals =
    let same : totals.steps + 0 ≡ totals.steps = omega arith in ap (λ (n : ℕ). record totals { steps = n }) same

not_counted : (plan : Plan) (tree : TreeShown) (totals : Totals) → is_generated plan ≡ false → stats_of plan ≡ false → totals ≡ counts_with plan tree totals
not_counted plan tree totals is untold =
    let verdict = judged (compiled_of plan) tree in
    sym (ap (λ (b : Bool). record (if b then with_tree tree verdict.holds totals else totals) { steps = totals.steps + steps_told plan verdict }) is
    ∙ ap (λ (b : Bool). record totals { steps = totals.steps + (if b then verdict.steps else 0) }) untold
    ∙ with_no_steps totals)

-- where no table is asked for
unasked : (plan : Plan) (kind : StatKind) (trees others : List TreeShown) (table : Table) → asks_tables plan ≡ false → IsTable plan kind trees table → IsTable plan kind others table
unasked plan kind trees others table untabled is = record {
  asked = is.asked;
  stands = λ asked. no_table plan kind untabled asked;
  counts = is.counts;
}

not_tabled : (plan : Plan) (tree : TreeShown) (trees : List TreeShown) (tables : Tables) → asks_tables plan ≡ false → AreTables plan trees tables
    → AreTables plan (trees_with plan tree trees) tables
not_tabled plan tree trees tables untabled are = record {
  conv_tcp = unasked plan ConvTcp trees (trees_with plan tree trees) tables.conv_tcp untabled are.conv_tcp;
  conv_ip = unasked plan ConvIp trees (trees_with plan tree trees) tables.conv_ip untabled are.conv_ip;
  phs = unasked plan Phs trees (trees_with plan tree trees) tables.phs untabled are.phs;
}

-- where neither is asked for
pub noted_nothing : (plan : Plan) (tree : TreeShown) (notes : Notes) → is_generated plan ≡ false → stats_of plan ≡ false → asks_tables plan ≡ false
    → HasNoted plan tree notes notes
noted_nothing plan tree notes is untold untabled = record {
  totals = not_counted plan tree notes.totals is untold;
  tables = λ trees are. not_tabled plan tree trees notes.tables untabled are;
}

-- so many, where there were fewer
pub stats_few_suc : (most : ℕ) (stats : Stats) → HasFew most stats → HasFew (suc most) stats
stats_few_suc most stats few = stats_few most (suc most) stats (omega arith) few

pub tables_few : (most more : ℕ) (tables : Tables) → most ≤ more → AreFewTables most tables → AreFewTables more tables
tables_few most more tables larger few = record {
  conv_tcp = stats_few most more tables.conv_tcp.stats larger few.conv_tcp;
  conv_ip = stats_few most more tables.conv_ip.stats larger few.conv_ip;
  phs = stats_few most more tables.phs.stats larger few.phs;
}

pub notes_few : (most more : ℕ) (notes : Notes) → most ≤ more → AreFewNotes most notes → AreFewNotes more notes
notes_few most more notes larger few = record {
  totals = few_more most more notes.totals larger few.totals;
  tables = tables_few most more notes.tables larger few.tables;
}

pub notes_few_after : (before after : ℕ) (notes : Notes) → after ≡ before + 1 → AreFewNotes (suc before) notes → AreFewNotes after notes
notes_few_after before after notes is few = notes_few (suc before) after notes (omega (arith, is)) few

pub notes_few_begun : (totals : Totals) (tables : Tables) → totals ≡ nothing_counted → AreFewTables 0 tables → AreFewNotes 0 (record { totals = totals; tables = tables })
notes_few_begun totals tables is few = record { totals = few_begun 0 totals is; tables = few }

pub one_more_same : (notes : Notes) → AreOneMore notes notes
one_more_same notes = record { few = λ most few. notes_few most (suc most) notes (omega arith) few }

-- a tree that the filter doesn't let through, and one that it does
tables_left : (plan : Plan) (tree : TreeShown) (trees : List TreeShown) (tables : Tables) (verdict : Verdict) → verdict.holds ≡ false
    → verdict ≡ judged (compiled_of plan) tree → AreTables plan trees tables → AreTables plan (trees_with plan tree trees) tables
tables_left plan tree trees tables verdict is answers are =
    subst (λ (b : Bool). AreTables plan (if b then tree ∷ trees else trees) tables) (sym is ∙ ap (λ (v : Verdict). v.holds) answers) are

tables_more : (plan : Plan) (tree : TreeShown) (trees : List TreeShown) (tables : Tables) (verdict : Verdict) → verdict.holds ≡ true
    → verdict ≡ judged (compiled_of plan) tree → AreTables plan (tree ∷ trees) tables → AreTables plan (trees_with plan tree trees) tables
tables_more plan tree trees tables verdict is answers are =
    subst (λ (b : Bool). AreTables plan (if b then tree ∷ trees else trees) tables) (sym is ∙ ap (λ (v : Verdict). v.holds) answers) are

pub noted_left : (plan : Plan) (tree : TreeShown) (verdict : Verdict) (old : Notes) (totals : Totals) → verdict.holds ≡ false
    → verdict ≡ judged (compiled_of plan) tree → totals ≡ counts_by plan verdict tree old.totals
    → HasNoted plan tree old (record { totals = totals; tables = old.tables })
noted_left plan tree verdict old totals is answers counted = record {
  totals = counted ∙ ap (λ (v : Verdict). counts_by plan v tree old.totals) answers;
  tables = λ trees are. tables_left plan tree trees old.tables verdict is answers are;
}

pub noted_more : {A E : Type 0} (result : Result A E) (plan : Plan) (tree : TreeShown) (verdict : Verdict) (old : Notes) (totals : Totals) (tables : Tables)
    → verdict.holds ≡ true → verdict ≡ judged (compiled_of plan) tree → totals ≡ counts_by plan verdict tree old.totals
    → OnOk result ((p : Plan) (trees : List TreeShown) → AreTables p trees old.tables → AreTables p (tree ∷ trees) tables)
    → OnOk result (HasNoted plan tree old (record { totals = totals; tables = tables }))
noted_more (Err error) plan tree verdict old totals tables is answers counted tabled = tt
noted_more (Ok done) plan tree verdict old totals tables is answers counted tabled = record {
  totals = counted ∙ ap (λ (v : Verdict). counts_by plan v tree old.totals) answers;
  tables = λ trees are. tables_more plan tree trees tables verdict is answers (tabled plan trees are);
}

-- by the whole tree, where it is noted
stands_whole : (plan : Plan) (kind : StatKind) (tree whole : TreeShown) (trees : List TreeShown) (stats : Stats) → kind_of stats ≡ kind → IsNotedAs plan kind whole tree
    → Stands (trees_with plan tree trees) stats → Stands (trees_with plan whole trees) stats
stands_whole plan kind tree whole trees stats is noted stands =
    subst (λ (shown : Bool). Stands (if shown then whole ∷ trees else trees) stats) noted.truth (by (lets plan tree) stands)
  where
    by : (shown : Bool) → Stands (if shown then tree ∷ trees else trees) stats → Stands (if shown then whole ∷ trees else trees) stats
    by true stands = stands_alike kind whole tree trees stats is noted.alike stands
    by false stands = stands

table_same : (plan : Plan) (kind : StatKind) (tree whole : TreeShown) (trees : List TreeShown) (table : Table) → (asks_table plan kind ≡ true → IsNotedAs plan kind whole tree)
    → IsTable plan kind (trees_with plan tree trees) table → IsTable plan kind (trees_with plan whole trees) table
table_same plan kind tree whole trees table same is = record {
  asked = is.asked;
  stands = λ asked. stands_whole plan kind tree whole trees table.stats is.counts (same asked) (is.stands asked);
  counts = is.counts;
}

pub notes_after : (job : Job) (past : List Frame) (frame : Frame) (tree : TreeShown) (old new : Notes) → HasNoted job.plan tree old new
    → IsToldAs job.plan (tree_of job past frame) tree → AreNotes job past old → AreNotes job (frame ∷ past) new
notes_after job past frame tree old new noted told notes =
    let tables : AreTables job.plan (trees_with job.plan tree (trees_let job past)) new.tables = noted.tables (trees_let job past) notes.tables in
    record {
      totals = noted.totals ∙ told.counted old.totals ∙ ap (counts_with job.plan (tree_of job past frame)) notes.totals;
      tables = record {
        conv_tcp = table_same job.plan ConvTcp tree (tree_of job past frame) (trees_let job past) new.tables.conv_tcp (told.noted ConvTcp) tables.conv_tcp;
        conv_ip = table_same job.plan ConvIp tree (tree_of job past frame) (trees_let job past) new.tables.conv_ip (told.noted ConvIp) tables.conv_ip;
        phs = table_same job.plan Phs tree (tree_of job past frame) (trees_let job past) new.tables.phs (told.noted Phs) tables.phs;
      };
    }

-- nothing was written yet
pub keeps_nothing : (written : Option Format) (job : Job) (t : Notes) (k : Kept) → AreNotes job [] t → k ≡ nothing_kept (unwrap_or written Pcapng) → Written k []
    → KeepsUp written job [] t k
keeps_nothing None job t k counted is stands = counted
keeps_nothing (Some format) job t k counted is stands = (ap (λ (kept : Kept). kept.format) is, stands)
