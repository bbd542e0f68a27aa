-- Two plans of the same words.
use Rattle.std.proofs.Common.{◌≡◌, ◌⊎◌, ℕ, suc, Bool, false, not, ◌&&◌, ◌||◌, reverse, List, [], ◌∷◌, ◌++◌, Option, None, Some, Ok, if◌then◌else◌, refl, sym, ◌∙◌, ap, subst}
use Rattle.std.specs.Prelude.{IfSome}
use Rattle.capture_read.specs.Capture.{Reading, capture_of}
use Rattle.capture_read.specs.declared.ending.Ending.{Ending}
use Rattle.capture_write.specs.Kept.{end_at, fits, in_order, kept_of, piece_at, written}
use Rattle.capture_write.specs.declared.format.Format.{Format}
use Rattle.capture_read.specs.declared.frame.Frame.{Frame}
use Rattle.pk_tree.specs.Trees.{TreeShown}
use Rattle.out_lines.specs.Lines.{field_line_of, header_of}
use Rattle.out_lines.specs.declared.style.Style.{Style}
use Rattle.shark_words.specs.declared.options.LineKind.{LineKind}
use Rattle.shark_words.specs.declared.options.LineKind.TheVariants.{Text, Fields, Json}
use Rattle.shark_words.specs.declared.options.Report.{Report}
use Rattle.shark_words.specs.declared.options.Report.TheVariants.{Follow, Table}
use Rattle.pk_fields.specs.declared.rules.PortRule.{PortRule}
use Rattle.dissect.specs.Trees.{tree_at}
use Rattle.shark_words.specs.declared.options.Options.{Options}
use Rattle.run_frames.specs.declared.plan.Plan.{Plan}
use Rattle.run_frames.specs.declared.run_ending.RunEnding.TheVariants.{Unfit}
use Rattle.run_words.specs.declared.status.Status.{Status}
use Rattle.run_words.specs.declared.status.Status.TheVariants as status
use Rattle.shark_run.specs.Answers.{IsAnswered}
use Rattle.run_frames.specs.Chosen.{chosen, chosen_of, if_shown, is_unfit_in, packet_in}
use Rattle.run_frames.specs.Fitting.{FramesRead, before, fitting, is_unfit, is_unfit_by, over}
use Rattle.run_words.specs.Statuses.{status_of}
use Rattle.shark_run.specs.Laws.{AreAlike, PlansAreAlike}
use Rattle.run_frames.specs.declared.source.PlanSource.{PlanSource}
use Rattle.run_frames.specs.Accessors.{is_quiet}
use Rattle.run_frames.specs.Job.{Passes, job_in, passes_by, with_links}
use Rattle.run_frames.specs.Pieces.{shown, piece, piece_by, pieces, line_by, line_of}
use Rattle.run_output.specs.Lines.{is_headed, opening, opening_by, closing, closing_by, counted_line, output_by, output_of}
use Rattle.run_output.specs.Reports.{report_text, reports_text}
use Rattle.run_frames.specs.Tables.{trees_let, trees_with}
use Rattle.cap_stats.specs.Tables.{table_of}
use Rattle.run_output.specs.SelfRun.{line_with, self_run_line, shown_count}
use Rattle.run_frames.specs.Trees.{lets, lets_frame, tree_of, trees_of}
use Rattle.run_frames.specs.Source.{is_generated_by}
use Rattle.run_words.specs.Plan.{IsPlan, IsPlanFor}
use Rattle.run_passes.specs.Reading.{file_by, file_of, fitting_of, limited, frames_read, read_of}
use Rattle.run_output.specs.FilterStats.{stats_lines}
use Rattle.run_output.proofs.StatsLemmas.{stats_untold}
use Rattle.run_words.proofs.PlanLemmas.{same_options}
use Rattle.run_words.proofs.TruthLemmas.{same_truth}
use Rattle.shark_run.proofs.AnswerLemmas.{answered, each_file}

-- the same source, as many passes, the same rules for ports, the same kind of line, of the same fields, in the same style, and the same reports, or
-- the same capture
pub record AreWrittenAlike (one other : Plan) : Type 0 where
  source : one.source ≡ other.source
  two : one.two ≡ other.two
  decode : one.decode ≡ other.decode
  reports : one.reports ≡ other.reports
  kind : one.kind ≡ other.kind
  fields : one.fields ≡ other.fields
  style : one.style ≡ other.style
  quiet : one.quiet ≡ other.quiet
  written : one.written ≡ other.written
  stats : one.stats ≡ other.stats

-- filters that let the same trees through
abbrev LetAlike : Plan → Plan → Type 0
LetAlike one other = (tree : TreeShown) → lets one tree ≡ lets other tree

same_tree : (p : Passes) (one other : Plan) (past : List Frame) (frame : Frame) → AreWrittenAlike one other → tree_of (job_in one p) past frame ≡ tree_of (job_in other p) past frame
same_tree p one other past frame alike = ap (λ (rules : List PortRule). with_links p frame.number (tree_at rules past frame)) alike.decode

same_trees : (p : Passes) (one other : Plan) (past : List Frame) → AreWrittenAlike one other → trees_of (job_in one p) past ≡ trees_of (job_in other p) past
same_trees p one other [] alike = refl
same_trees p one other (frame ∷ past) alike =
    ap (λ (tree : TreeShown). tree ∷ trees_of (job_in one p) past) (same_tree p one other past frame alike)
    ∙ ap (λ (trees : List TreeShown). tree_of (job_in other p) past frame ∷ trees) (same_trees p one other past alike)

same_frame : (p : Passes) (one other : Plan) (past : List Frame) (frame : Frame) → AreWrittenAlike one other → LetAlike one other
    → lets_frame (job_in one p) past frame ≡ lets_frame (job_in other p) past frame
same_frame p one other past frame alike same = ap (lets one) (same_tree p one other past frame alike) ∙ same (tree_of (job_in other p) past frame)

same_quiet : (one other : Plan) → AreWrittenAlike one other → is_quiet one ≡ is_quiet other
same_quiet one other alike =
    ap (λ (source : PlanSource). is_generated_by source || one.quiet) alike.source
    ∙ ap (λ (quiet : Bool). is_generated_by other.source || quiet) alike.quiet

same_line : (kind : LineKind) (one other : Plan) (tree : TreeShown) → one.fields ≡ other.fields → one.style ≡ other.style → line_by kind one tree ≡ line_by kind other tree
same_line Text one other tree fields style = refl
same_line Json one other tree fields style = refl
same_line Fields one other tree fields style =
    ap (λ (f : List ℕ). field_line_of f tree one.style) fields ∙ ap (λ (s : Style). field_line_of other.fields tree s) style

same_shown : (one other : Plan) (tree : TreeShown) → AreWrittenAlike one other → lets one tree ≡ lets other tree
    → shown one tree ≡ shown other tree
same_shown one other tree alike truth =
    ap (λ (q : Bool). if q then [] else if lets one tree then line_of one tree else []) (same_quiet one other alike)
    ∙ ap (λ (b : Bool). if is_quiet other then [] else if b then line_of one tree else []) truth
    ∙ ap (λ (line : List ℕ). if is_quiet other then [] else if lets other tree then line else [])
    (ap (λ (k : LineKind). line_by k one tree) alike.kind ∙ same_line other.kind one other tree alike.fields alike.style)

-- such plans choose the same frames
same_past : (p : Passes) (one other : Plan) (past : List Frame) → AreWrittenAlike one other → LetAlike one other → chosen_of (job_in one p) past ≡ chosen_of (job_in other p) past
same_past p one other [] alike same = refl
same_past p one other (frame ∷ past) alike same =
    ap (λ (shown : Bool). if_shown shown frame (chosen_of (job_in one p) past)) (same_frame p one other past frame alike same)
    ∙ ap (if_shown (lets_frame (job_in other p) past frame) frame) (same_past p one other past alike same)

same_chosen : (p : Passes) (one other : Plan) (past frames : List Frame) → AreWrittenAlike one other → LetAlike one other → chosen (job_in one p) past frames ≡ chosen (job_in other p) past frames
same_chosen p one other past [] alike same = refl
same_chosen p one other past (frame ∷ frames) alike same =
    ap (λ (shown : Bool). if_shown shown frame (chosen (job_in one p) (frame ∷ past) frames)) (same_frame p one other past frame alike same)
    ∙ ap (if_shown (lets_frame (job_in other p) past frame) frame) (same_chosen p one other (frame ∷ past) frames alike same)

same_unfit_in : (p : Passes) (format : Format) (one other : Plan) (past : List Frame) (frame : Frame) → AreWrittenAlike one other → LetAlike one other
    → is_unfit_in format (job_in one p) past frame ≡ is_unfit_in format (job_in other p) past frame
same_unfit_in p format one other past frame alike same =
    ap (λ (shown : Bool). shown && not (fits format (in_order (chosen_of (job_in one p) past) (frame ∷ [])))) (same_frame p one other past frame alike same)
    ∙ ap (λ (frames : List Frame). lets_frame (job_in other p) past frame && not (fits format (in_order frames (frame ∷ [])))) (same_past p one other past alike same)

same_unfit_by : (p : Passes) (written : Option Format) (one other : Plan) (past : List Frame) (frame : Frame) → AreWrittenAlike one other → LetAlike one other
    → is_unfit_by written (job_in one p) past frame ≡ is_unfit_by written (job_in other p) past frame
same_unfit_by p None one other past frame alike same = refl
same_unfit_by p (Some format) one other past frame alike same = same_unfit_in p format one other past frame alike same

same_unfit : (p : Passes) (one other : Plan) (past : List Frame) (frame : Frame) → AreWrittenAlike one other → LetAlike one other
    → is_unfit (job_in one p) past frame ≡ is_unfit (job_in other p) past frame
same_unfit p one other past frame alike same =
    ap (λ (w : Option Format). is_unfit_by w (job_in one p) past frame) alike.written ∙ same_unfit_by p other.written one other past frame alike same

same_fitting : (p : Passes) (one other : Plan) (past frames : List Frame) (ending : Ending) → AreWrittenAlike one other → LetAlike one other
    → fitting (job_in one p) past frames ending ≡ fitting (job_in other p) past frames ending
same_fitting p one other past [] ending alike same = refl
same_fitting p one other past (frame ∷ frames) ending alike same =
    ap (λ (unfit : Bool). if unfit then over (job_in one p) (Unfit frame.number) else before frame (fitting (job_in one p) (frame ∷ past) frames ending)) (same_unfit p one other past frame alike same)
    ∙ ap (λ (rest : FramesRead). if is_unfit (job_in other p) past frame then over (job_in one p) (Unfit frame.number) else before frame rest) (same_fitting p one other (frame ∷ past) frames ending alike same)

same_packet : (p : Passes) (format : Format) (one other : Plan) (past : List Frame) (frame : Frame) → AreWrittenAlike one other → LetAlike one other
    → packet_in format (job_in one p) past frame ≡ packet_in format (job_in other p) past frame
same_packet p format one other past frame alike same =
    ap (λ (shown : Bool). if shown then piece_at (kept_of format (chosen_of (job_in one p) past)) frame else []) (same_frame p one other past frame alike same)
    ∙ ap (λ (frames : List Frame). if lets_frame (job_in other p) past frame then piece_at (kept_of format frames) frame else []) (same_past p one other past alike same)

same_piece_by : (p : Passes) (written : Option Format) (one other : Plan) (past : List Frame) (frame : Frame) → AreWrittenAlike one other → LetAlike one other
    → piece_by written (job_in one p) past frame ≡ piece_by written (job_in other p) past frame
same_piece_by p None one other past frame alike same =
    ap (shown one) (same_tree p one other past frame alike) ∙ same_shown one other (tree_of (job_in other p) past frame) alike (same (tree_of (job_in other p) past frame))
same_piece_by p (Some format) one other past frame alike same = same_packet p format one other past frame alike same

same_piece : (p : Passes) (one other : Plan) (past : List Frame) (frame : Frame) → AreWrittenAlike one other → LetAlike one other
    → piece (job_in one p) past frame ≡ piece (job_in other p) past frame
same_piece p one other past frame alike same =
    ap (λ (w : Option Format). piece_by w (job_in one p) past frame) alike.written ∙ same_piece_by p other.written one other past frame alike same

same_pieces : (p : Passes) (one other : Plan) (past frames : List Frame) → AreWrittenAlike one other → LetAlike one other
    → pieces (job_in one p) past frames ≡ pieces (job_in other p) past frames
same_pieces p one other past [] alike same = refl
same_pieces p one other past (frame ∷ frames) alike same =
    ap (λ (line : List ℕ). line ++ pieces (job_in one p) (frame ∷ past) frames) (same_piece p one other past frame alike same)
    ∙ ap (λ (lines : List ℕ). piece (job_in other p) past frame ++ lines) (same_pieces p one other (frame ∷ past) frames alike same)

headed : LineKind → Style → Bool → Bool
headed Text style quiet = false
headed Json style quiet = false
headed Fields style quiet = style.header && not quiet

is_headed_so : (kind : LineKind) (plan : Plan) → is_headed kind plan ≡ headed kind plan.style (is_quiet plan)
unfolding headed
is_headed_so Text plan = refl
is_headed_so Json plan = refl
is_headed_so Fields plan = refl

same_header : (one other : Plan) → AreWrittenAlike one other → opening_by None one ≡ opening_by None other
same_header one other alike =
    ap (λ (b : Bool). if b then header_of one.fields one.style else [])
    (is_headed_so one.kind one
    ∙ ap (λ (k : LineKind). headed k one.style (is_quiet one)) alike.kind
    ∙ ap (λ (s : Style). headed other.kind s (is_quiet one)) alike.style
    ∙ ap (λ (q : Bool). headed other.kind other.style q) (same_quiet one other alike)
    ∙ sym (is_headed_so other.kind other))
    ∙ ap (λ (f : List ℕ). if is_headed other.kind other then header_of f one.style else []) alike.fields
    ∙ ap (λ (s : Style). if is_headed other.kind other then header_of other.fields s else []) alike.style

same_opening_by : (written : Option Format) (one other : Plan) → AreWrittenAlike one other → opening_by written one ≡ opening_by written other
same_opening_by None one other alike = same_header one other alike
same_opening_by (Some format) one other alike = refl

same_opening : (one other : Plan) → AreWrittenAlike one other → opening one ≡ opening other
unfolding opening
same_opening one other alike = ap (λ (w : Option Format). opening_by w one) alike.written ∙ same_opening_by other.written one other alike

same_count : (one other : Plan) (trees : List TreeShown) → LetAlike one other → shown_count one trees ≡ shown_count other trees
same_count one other [] same = refl
same_count one other (tree ∷ trees) same =
    ap (λ (b : Bool). if b then suc (shown_count one trees) else shown_count one trees) (same tree)
    ∙ ap (λ (n : ℕ). if lets other tree then suc n else n) (same_count one other trees same)

same_self_run : (p : Passes) (one other : Plan) (past : List Frame) → AreWrittenAlike one other → LetAlike one other → self_run_line (job_in one p) past ≡ self_run_line (job_in other p) past
unfolding self_run_line
same_self_run p one other past alike same =
    ap (λ (trees : List TreeShown). line_with past trees (shown_count one trees)) (same_trees p one other past alike)
    ∙ ap (line_with past (trees_of (job_in other p) past)) (same_count one other (trees_of (job_in other p) past) same)

same_counted : (p : Passes) (one other : Plan) (past : List Frame) → AreWrittenAlike one other → LetAlike one other → counted_line (job_in one p) past ≡ counted_line (job_in other p) past
same_counted p one other past alike truth =
    ap (λ (source : PlanSource). if is_generated_by source then self_run_line (job_in one p) past else []) alike.source
    ∙ ap (λ (line : List ℕ). if is_generated_by other.source then line else []) (same_self_run p one other past alike truth)

same_let : (p : Passes) (one other : Plan) (past : List Frame) → AreWrittenAlike one other → LetAlike one other → trees_let (job_in one p) past ≡ trees_let (job_in other p) past
same_let p one other [] alike same = refl
same_let p one other (frame ∷ past) alike same =
    ap (λ (tree : TreeShown). trees_with one tree (trees_let (job_in one p) past)) (same_tree p one other past frame alike)
    ∙ ap (λ (shown : Bool). if shown then tree_of (job_in other p) past frame ∷ trees_let (job_in one p) past else trees_let (job_in one p) past) (same (tree_of (job_in other p) past frame))
    ∙ ap (trees_with other (tree_of (job_in other p) past frame)) (same_let p one other past alike same)

same_report : (p : Passes) (one other : Plan) (past : List Frame) (report : Report) → AreWrittenAlike one other → LetAlike one other
    → report_text (job_in one p) past report ≡ report_text (job_in other p) past report
same_report p one other past (Follow stream) alike same = refl
same_report p one other past (Table kind) alike same = ap (table_of kind) (same_let p one other past alike same)

same_reports : (p : Passes) (one other : Plan) (past : List Frame) (reports : List Report) → AreWrittenAlike one other → LetAlike one other
    → reports_text (job_in one p) past reports ≡ reports_text (job_in other p) past reports
same_reports p one other past [] alike same = refl
same_reports p one other past (report ∷ reports) alike same =
    ap (λ (text : List ℕ). text ++ reports_text (job_in one p) past reports) (same_report p one other past report alike same)
    ∙ ap (λ (text : List ℕ). report_text (job_in other p) past report ++ text) (same_reports p one other past reports alike same)

-- where nothing is told of the programs
same_stats : (p : Passes) (one other : Plan) (past : List Frame) → AreWrittenAlike one other → one.stats ≡ false
    → stats_lines (job_in one p) past ≡ stats_lines (job_in other p) past
same_stats p one other past alike untold =
    sym (stats_untold (job_in one p) past untold) ∙ stats_untold (job_in other p) past (sym alike.stats ∙ untold)

same_closing_by : (p : Passes) (written : Option Format) (one other : Plan) (past : List Frame) → AreWrittenAlike one other → LetAlike one other
    → one.stats ≡ false → closing_by written (job_in one p) past ≡ closing_by written (job_in other p) past
same_closing_by p None one other past alike truth untold =
    ap (λ (reports : List Report). reports_text (job_in one p) past reports ++ (stats_lines (job_in one p) past ++ counted_line (job_in one p) past)) alike.reports
    ∙ ap (λ (text : List ℕ). text ++ (stats_lines (job_in one p) past ++ counted_line (job_in one p) past)) (same_reports p one other past other.reports alike truth)
    ∙ ap (λ (text : List ℕ). reports_text (job_in other p) past other.reports ++ (text ++ counted_line (job_in one p) past)) (same_stats p one other past alike untold)
    ∙ ap (λ (line : List ℕ). reports_text (job_in other p) past other.reports ++ (stats_lines (job_in other p) past ++ line)) (same_counted p one other past alike truth)
same_closing_by p (Some format) one other past alike truth untold =
    ap (λ (frames : List Frame). end_at (kept_of format frames)) (same_past p one other past alike truth)

same_closing : (p : Passes) (one other : Plan) (past : List Frame) → AreWrittenAlike one other → LetAlike one other → one.stats ≡ false
    → closing (job_in one p) past ≡ closing (job_in other p) past
unfolding closing
same_closing p one other past alike truth untold =
    ap (λ (w : Option Format). closing_by w (job_in one p) past) alike.written ∙ same_closing_by p other.written one other past alike truth untold

same_output_by : (p : Passes) (w : Option Format) (one other : Plan) (frames : List Frame) → AreWrittenAlike one other → LetAlike one other
    → one.stats ≡ false → output_by w (job_in one p) frames ≡ output_by w (job_in other p) frames
same_output_by p None one other frames alike truth untold =
    ap (λ (start : List ℕ). start ++ (pieces (job_in one p) [] frames ++ closing (job_in one p) (reverse frames))) (same_opening one other alike)
    ∙ ap (λ (lines : List ℕ). opening other ++ (lines ++ closing (job_in one p) (reverse frames))) (same_pieces p one other [] frames alike truth)
    ∙ ap (λ (end : List ℕ). opening other ++ (pieces (job_in other p) [] frames ++ end)) (same_closing p one other (reverse frames) alike truth untold)
same_output_by p (Some format) one other frames alike truth untold = ap (written format) (same_chosen p one other [] frames alike truth)

same_output : (p : Passes) (one other : Plan) (frames : List Frame) → AreWrittenAlike one other → LetAlike one other → one.stats ≡ false
    → output_of (job_in one p) frames ≡ output_of (job_in other p) frames
unfolding output_of
same_output p one other frames alike truth untold =
    ap (λ (w : Option Format). output_by w (job_in one p) frames) alike.written ∙ same_output_by p other.written one other frames alike truth untold

same_read_of : (one other : Plan) (reading : Reading) → AreWrittenAlike one other → LetAlike one other → read_of one reading ≡ read_of other reading
same_read_of one other reading alike same =
    ap (λ (two : Bool). fitting_of (job_in one (passes_by two one.decode reading.frames)) reading) alike.two
    ∙ ap (λ (rules : List PortRule). fitting_of (job_in one (passes_by other.two rules reading.frames)) reading) alike.decode
    ∙ same_fitting (passes_by other.two other.decode reading.frames) one other [] reading.frames reading.ending alike same

same_read : (one other : Plan) (file : List ℕ) → one.most ≡ other.most → AreWrittenAlike one other → LetAlike one other
    → frames_read one file ≡ frames_read other file
unfolding frames_read
same_read one other file most alike same =
    ap (λ (m : Option ℕ). read_of one (limited m (capture_of file))) most
    ∙ same_read_of one other (limited other.most (capture_of file)) alike same

alike_for : (options : Options) (one other : Plan) → IsPlanFor options one → IsPlanFor options other → AreAlike one other
alike_for options one other is also =
    let both : Ok one.fields ≡ Ok other.fields = sym is.fields ∙ also.fields in
    let fields : one.fields ≡ other.fields = cc both in
    let alike : AreWrittenAlike one other
    = record { source = is.source ∙ sym also.source; two = is.two ∙ sym also.two; decode = is.decode ∙ sym also.decode; reports = is.reports ∙ sym also.reports; kind = is.kind ∙ sym also.kind; fields = fields; style = is.style ∙ sym also.style; quiet = is.quiet ∙ sym also.quiet; written = is.written ∙ sym also.written; stats = is.stats ∙ sym also.stats } in
    let truth = λ (tree : TreeShown). same_truth options.filter one.chosen other.chosen tree is.chosen also.chosen in
    record {
      source = is.source ∙ sym also.source;
      read = λ file. same_read one other file (is.most ∙ sym also.most) alike truth;
      lets = truth;
      written = λ untold passes frames. same_output passes one other frames alike truth untold;
    }

pub plans_alike : PlansAreAlike
unfolding IsPlan
plans_alike words one other is also =
    alike_for also.0 one other (subst (λ (o : Options). IsPlanFor o one) (same_options words is.0 also.0 is.1 also.1) is.2) also.2

-- a run whose words ask for a plan ends as every plan of theirs says, where nothing outside fails
pub complete_planned : (words : List (List ℕ)) (asked plan : Plan) (files : List ℕ → Option (List ℕ)) (answer : Status) (A B C : Type 0) →
    IsPlan words asked → IsPlan words plan →
    IfSome (file_of asked files) (λ file. A → B → C → (answer ≡ status_of (frames_read asked file).ending) ⊎ (answer ≡ status.NoMemory)) →
    IfSome (file_of plan files) (λ file. A → B → C → IsAnswered words (status_of (frames_read plan file).ending) answer)
complete_planned words asked plan files answer A B C is also complete =
    let alike : AreAlike asked plan = plans_alike words asked plan is also in
    subst (λ (source : PlanSource). IfSome (file_by source files) (λ file. A → B → C → IsAnswered words (status_of (frames_read plan file).ending) answer)) alike.source
    (each_file (file_of asked files)
    (λ file. A → B → C → (answer ≡ status_of (frames_read asked file).ending) ⊎ (answer ≡ status.NoMemory))
    (λ file. A → B → C → IsAnswered words (status_of (frames_read plan file).ending) answer)
    (λ file run a b c. subst (λ (read : FramesRead). IsAnswered words (status_of read.ending) answer) (alike.read file)
    (answered words (status_of (frames_read asked file).ending) answer (run a b c))) complete)
