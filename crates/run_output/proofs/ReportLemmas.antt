-- Texts that are written piece by piece.
use Rattle.std.proofs.Common.{◌≡◌, ◌<◌, ℕ, ◌+◌, true, List, ◌∷◌, ◌++◌, length, take, drop, get_or, Option, refl, sym, ap, ◌∙◌, subst, append_assoc, add-one, drop-cons}
use Rattle.std.specs.Io.KnownBytes.{Appends}
use Rattle.std.proofs.KnownBytes.{Appends-trans}
use Rattle.std.proofs.lemmas.List.{take-append-drop}
use Rattle.pk_outside.specs.Outside.{AppendsPart}
use Rattle.pk_outside.proofs.Parts.{part_after_front, part_more}
use Rattle.capture_read.specs.declared.frame.Frame.{Frame}
use Rattle.shark_words.specs.declared.options.Report.{Report}
use Rattle.shark_words.specs.declared.options.Report.TheVariants.{Follow, Table}
use Rattle.std.specs.List.{list_any}
use Rattle.std.proofs.lemmas.List.Folds.{list_any_at}
use Rattle.cap_stats.specs.declared.kind.StatKind.{StatKind}
use Rattle.cap_stats.specs.declared.kind.StatKind.TheVariants.{ConvTcp, ConvIp, Phs}
use Rattle.run_frames.specs.declared.plan.Plan.{Plan}
use Rattle.run_frames.specs.Job.{Job}
use Rattle.run_frames.specs.Accessors.{reports_of}
use Rattle.run_output.specs.Reports.{IsAsked, report_text, reports_text}
use Rattle.run_frames.specs.Tables.{is_table_of, same_kind}

-- a line more, and a part of it
pub line_part : (n : ℕ) (rest text done line : List ℕ) (old now new : Option (List ℕ)) → line ≡ take n rest → done ++ rest ≡ text
    → Appends old now done → AppendsPart now new line → AppendsPart old new text
line_part n rest text done line old now new is joined appended part =
    part_after_front old now new done rest text appended
    (subst (AppendsPart now new) (ap (λ (front : List ℕ). front ++ drop n rest) is ∙ take-append-drop n rest) (part_more now new line (drop n rest) part)) joined

pub line_whole : (n : ℕ) (rest text done line behind : List ℕ) (old now new : Option (List ℕ)) → line ≡ take n rest → behind ≡ drop n rest
    → done ++ rest ≡ text → Appends old now done → Appends now new line → (more : List ℕ) × (more ++ behind ≡ text) × Appends old new more
line_whole n rest text done line behind old now new is behind_is joined appended wrote = (
  done ++ line,
  append_assoc done line behind
      ∙ ap (λ (all : List ℕ). done ++ all) (ap (λ (front : List ℕ). front ++ behind) is ∙ ap (λ (back : List ℕ). take n rest ++ back) behind_is ∙ take-append-drop n rest)
      ∙ joined,
  Appends-trans old now new done line appended wrote,
)

-- a report more, and a part of it
next_report : (job : Job) (past : List Frame) (reports : List Report) (i : ℕ) (d : Report) → i < length reports
    → reports_text job past (drop i reports) ≡ report_text job past (get_or reports i d) ++ reports_text job past (drop (i + 1) reports)
next_report job past reports i d inside =
    let next : drop i reports ≡ get_or reports i d ∷ drop (i + 1) reports = rw (add-one i) (drop-cons reports i d inside) in
    ap (reports_text job past) next

pub report_part : (job : Job) (past : List Frame) (reports : List Report) (i : ℕ) (d : Report) (done : List ℕ) (old now new : Option (List ℕ)) → i < length reports
    → done ++ reports_text job past (drop i reports) ≡ reports_text job past reports → Appends old now done
    → AppendsPart now new (report_text job past (get_or reports i d)) → AppendsPart old new (reports_text job past reports)
report_part job past reports i d done old now new inside joined appended part =
    part_after_front old now new done (reports_text job past (drop i reports)) (reports_text job past reports) appended
    (subst (AppendsPart now new) (sym (next_report job past reports i d inside))
    (part_more now new (report_text job past (get_or reports i d)) (reports_text job past (drop (i + 1) reports)) part)) joined

pub report_whole : (job : Job) (past : List Frame) (reports : List Report) (i : ℕ) (d : Report) (done : List ℕ) (old now new : Option (List ℕ)) → i < length reports
    → done ++ reports_text job past (drop i reports) ≡ reports_text job past reports → Appends old now done
    → Appends now new (report_text job past (get_or reports i d))
    → (more : List ℕ) × (more ++ reports_text job past (drop (i + 1) reports) ≡ reports_text job past reports) × Appends old new more
report_whole job past reports i d done old now new inside joined appended wrote = (
  done ++ report_text job past (get_or reports i d),
  append_assoc done (report_text job past (get_or reports i d)) (reports_text job past (drop (i + 1) reports))
      ∙ ap (λ (all : List ℕ). done ++ all) (sym (next_report job past reports i d inside)) ∙ joined,
  Appends-trans old now new done (report_text job past (get_or reports i d)) appended wrote,
)

-- a table among the reports is asked for
same_self : (kind : StatKind) → same_kind kind kind ≡ true
same_self ConvTcp = refl
same_self ConvIp = refl
same_self Phs = refl

asked_so : (plan : Plan) (reports : List Report) (i : ℕ) (d report : Report) → reports ≡ reports_of plan → i < length reports → get_or reports i d ≡ report
    → IsAsked plan report
asked_so plan reports i d (Follow stream) is inside at = tt
asked_so plan reports i d (Table kind) is inside at =
    subst (λ (all : List Report). list_any (is_table_of kind) all ≡ true) is
    (list_any_at (is_table_of kind) reports i d inside (ap (is_table_of kind) at ∙ same_self kind))

pub is_asked : (plan : Plan) (reports : List Report) (i : ℕ) (d : Report) → reports ≡ reports_of plan → i < length reports → IsAsked plan (get_or reports i d)
is_asked plan reports i d is inside = asked_so plan reports i d (get_or reports i d) is inside refl
