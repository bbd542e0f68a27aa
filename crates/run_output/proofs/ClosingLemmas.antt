-- What is written behind the frames' lines.
use Rattle.std.proofs.Common.{◌≡◌, ◌+◌, ℕ, Bool, true, false, List, [], ◌∷◌, ◌++◌, length, Option, None, Some, refl, sym, ap, ◌∙◌, subst}
use Rattle.std.specs.Prelude.{if◌then◌else◌}
use Rattle.std.specs.Io.KnownBytes.{Appends}
use Rattle.std.proofs.KnownBytes.{Appends-trans}
use Rattle.pk_outside.specs.Outside.{AppendsPart}
use Rattle.pk_outside.proofs.Parts.{part_after, part_more}
use Rattle.capture_write.specs.Kept.{Kept, end_at, kept_of}
use Rattle.capture_write.specs.declared.format.Format.{Format}
use Rattle.capture_read.specs.declared.frame.Frame.{Frame}
use Rattle.dissect.specs.Stands.{DissectorShown, StandsWithin}
use Rattle.run_frames.specs.Job.{Job}
use Rattle.run_frames.specs.declared.notes.Notes.{Notes}
use Rattle.run_frames.specs.declared.totals.Totals.{Totals}
use Rattle.run_frames.specs.Accessors.{compiled_of, is_generated, reports_of, stats_of, written_of}
use Rattle.run_frames.specs.Chosen.{IsWriting, chosen_of}
use Rattle.run_frames.specs.Ended.{CanClose}
use Rattle.run_output.specs.FilterStats.{stats_lines, steps_over}
use Rattle.run_frames.specs.Totals.{steps_told, counts_of, counts_with, nothing_counted, with_tree}
use Rattle.run_frames.specs.Satisfied.{judged}
use Rattle.run_output.specs.Lines.{closing, closing_by, counted_line}
use Rattle.run_output.specs.Reports.{reports_text}
use Rattle.pk_fields.specs.Ids.{DNS, HTTP}
use Rattle.run_output.specs.SelfRun.{counts_text, layer_count, self_run_line, shown_count, tcp_count, udp_count, totals_of}
use Rattle.run_frames.specs.Notes.{AreNotes}
use Rattle.run_frames.specs.Trees.{lets_frame, tree_of, trees_of}
use Rattle.run_frames.proofs.PacketLemmas.{kept_is}

-- the line over frames tells their totals
pub line_counted : (job : Job) (past : List Frame) (totals : Totals) (tcp udp : ℕ) (line : List ℕ)
    → line ≡ counts_text totals.frames totals.shown tcp udp totals.dns totals.http → totals ≡ totals_of job past → tcp ≡ tcp_count past → udp ≡ udp_count past
    → line ≡ self_run_line job past
unfolding self_run_line
line_counted job past totals tcp udp line is same streams conversations =
    is
    ∙ ap (λ (t : Totals). counts_text t.frames t.shown tcp udp t.dns t.http) same
    ∙ ap (λ (n : ℕ). counts_text (length past) (shown_count job.plan (trees_of job past)) n udp (layer_count DNS (trees_of job past)) (layer_count HTTP (trees_of job past))) streams
    ∙ ap (λ (n : ℕ). counts_text (length past) (shown_count job.plan (trees_of job past)) (tcp_count past) n (layer_count DNS (trees_of job past)) (layer_count HTTP (trees_of job past))) conversations

-- the totals of frames are those that the line tells
steps_with : (told : Bool) (m n : ℕ) → (if told then m else 0) + (if told then n else 0) ≡ (if told then m + n else 0)
steps_with true m n = refl
steps_with false m n = refl

totals_with : (job : Job) (past : List Frame) (frame : Frame) →
    record (with_tree (tree_of job past frame) (lets_frame job past frame) (totals_of job past)) {
      steps = (totals_of job past).steps + steps_told job.plan (judged (compiled_of job.plan) (tree_of job past frame));
    } ≡ totals_of job (frame ∷ past)
totals_with job past frame =
    ap (λ (n : ℕ). record (totals_of job (frame ∷ past)) { steps = n })
    (steps_with (stats_of job.plan) (steps_over (compiled_of job.plan) (trees_of job past)) (judged (compiled_of job.plan) (tree_of job past frame)).steps)

either_way : (told : Bool) (n : ℕ) → n ≡ (if told then n else n)
either_way true n = refl
either_way false n = refl

totals_so_far : (job : Job) (past : List Frame) → is_generated job.plan ≡ true → counts_of job past ≡ totals_of job past
totals_so_far job [] is = ap (λ (n : ℕ). record nothing_counted { steps = n }) (either_way (stats_of job.plan) 0)
totals_so_far job (frame ∷ past) is =
    ap (counts_with job.plan (tree_of job past frame)) (totals_so_far job past is)
    ∙ ap (λ (b : Bool). record (if b then with_tree (tree_of job past frame) (lets_frame job past frame) (totals_of job past) else totals_of job past) {
      steps = (totals_of job past).steps + steps_told job.plan (judged (compiled_of job.plan) (tree_of job past frame));
    }) is
    ∙ totals_with job past frame

pub line_of_counts : (job : Job) (line : List ℕ) (totals : Totals) (past : List Frame) → is_generated job.plan ≡ true → totals ≡ counts_of job past
    → (totals ≡ totals_of job past → line ≡ self_run_line job past) → line ≡ counted_line job past
line_of_counts job line totals past is counted tells =
    tells (counted ∙ totals_so_far job past is) ∙ sym (ap (λ (b : Bool). if b then self_run_line job past else []) is)

pub no_counts : (job : Job) (past : List Frame) → is_generated job.plan ≡ false → counted_line job past ≡ []
no_counts job past is = ap (λ (b : Bool). if b then self_run_line job past else []) is

-- where lines are written, the reports, what is told of the program and the line of what was counted stand behind them
closing_is : (job : Job) (past : List Frame) → written_of job.plan ≡ None
    → closing job past ≡ reports_text job past (reports_of job.plan) ++ (stats_lines job past ++ counted_line job past)
unfolding closing
closing_is job past lines = ap (λ (w : Option Format). closing_by w job past) lines

pub behind_lines : (job : Job) (past : List Frame) (old now told new : Option (List ℕ)) → written_of job.plan ≡ None
    → Appends old now (reports_text job past (reports_of job.plan)) → Appends now told (stats_lines job past) → Appends told new (counted_line job past)
    → Appends old new (closing job past)
behind_lines job past old now told new lines reported stated counted =
    subst (λ (bytes : List ℕ). Appends old new bytes) (sym (closing_is job past lines))
    (Appends-trans old now new (reports_text job past (reports_of job.plan)) (stats_lines job past ++ counted_line job past) reported
    (Appends-trans now told new (stats_lines job past) (counted_line job past) stated counted))

pub behind_stats : (job : Job) (past : List Frame) (old now told new : Option (List ℕ)) → written_of job.plan ≡ None
    → Appends old now (reports_text job past (reports_of job.plan)) → Appends now told (stats_lines job past) → AppendsPart told new (counted_line job past)
    → AppendsPart old new (closing job past)
behind_stats job past old now told new lines reported stated part =
    subst (AppendsPart old new) (sym (closing_is job past lines))
    (part_after old now new (reports_text job past (reports_of job.plan)) (stats_lines job past ++ counted_line job past) reported
    (part_after now told new (stats_lines job past) (counted_line job past) stated part))

pub behind_reports : (job : Job) (past : List Frame) (old now new : Option (List ℕ)) → written_of job.plan ≡ None
    → Appends old now (reports_text job past (reports_of job.plan)) → AppendsPart now new (stats_lines job past) → AppendsPart old new (closing job past)
behind_reports job past old now new lines reported part =
    subst (AppendsPart old new) (sym (closing_is job past lines))
    (part_after old now new (reports_text job past (reports_of job.plan)) (stats_lines job past ++ counted_line job past) reported
    (part_more now new (stats_lines job past) (counted_line job past) part))

pub among_reports : (job : Job) (past : List Frame) (old new : Option (List ℕ)) → written_of job.plan ≡ None
    → AppendsPart old new (reports_text job past (reports_of job.plan)) → AppendsPart old new (closing job past)
among_reports job past old new lines part =
    subst (AppendsPart old new) (sym (closing_is job past lines)) (part_more old new (reports_text job past (reports_of job.plan)) (stats_lines job past ++ counted_line job past) part)

-- what stands at the end is written
pub closed_line : (job : Job) (d : DissectorShown) (t : Notes) (k : Kept) (now new : Option (List ℕ)) → written_of job.plan ≡ None
    → ((past : List Frame) → StandsWithin past d → AreNotes job past t → Appends now new (closing job past))
    → (past : List Frame) → CanClose (written_of job.plan) job past d t k → Appends now new (closing job past)
closed_line job d t k now new is wrote past can =
    let both : CanClose None job past d t k = subst (λ (w : Option Format). CanClose w job past d t k) is can in wrote past both.0 both.1

pub closed_line_part : (job : Job) (d : DissectorShown) (t : Notes) (k : Kept) (now new : Option (List ℕ)) → written_of job.plan ≡ None
    → ((past : List Frame) → StandsWithin past d → AreNotes job past t → AppendsPart now new (closing job past))
    → (past : List Frame) → CanClose (written_of job.plan) job past d t k → AppendsPart now new (closing job past)
closed_line_part job d t k now new is part past can =
    let both : CanClose None job past d t k = subst (λ (w : Option Format). CanClose w job past d t k) is can in part past both.0 both.1

end_is : (format : Format) (job : Job) (past : List Frame) (d : DissectorShown) (t : Notes) (k : Kept) → written_of job.plan ≡ Some format
    → CanClose (written_of job.plan) job past d t k → end_at k ≡ closing job past
unfolding closing
end_is format job past d t k is can =
    let writing : IsWriting (Some format) job k past = subst (λ (w : Option Format). CanClose w job past d t k) is can in
    ap end_at (kept_is k (chosen_of job past) writing.1 ∙ ap (λ (f : Format). kept_of f (chosen_of job past)) writing.0)
    ∙ sym (ap (λ (w : Option Format). closing_by w job past) is)

pub closed_capture : (format : Format) (job : Job) (d : DissectorShown) (t : Notes) (k : Kept) (now new : Option (List ℕ)) → written_of job.plan ≡ Some format
    → Appends now new (end_at k) → (past : List Frame) → CanClose (written_of job.plan) job past d t k → Appends now new (closing job past)
closed_capture format job d t k now new is wrote past can = subst (λ (bytes : List ℕ). Appends now new bytes) (end_is format job past d t k is can) wrote

pub closed_capture_part : (format : Format) (job : Job) (d : DissectorShown) (t : Notes) (k : Kept) (now new : Option (List ℕ)) → written_of job.plan ≡ Some format
    → AppendsPart now new (end_at k) → (past : List Frame) → CanClose (written_of job.plan) job past d t k → AppendsPart now new (closing job past)
closed_capture_part format job d t k now new is part past can = subst (AppendsPart now new) (end_is format job past d t k is can) part
