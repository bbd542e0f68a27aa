-- Which fields are enough.
use Rattle.std.proofs.Common.{◌≡◌, ◌==◌, ◌||◌, not, ◌<◌, ◌+◌, ℕ, suc, Bool, true, false, List, [], ◌∷◌, ◌++◌, length, map, get_or, Option, Some, None, refl, sym, ap, ◌∙◌, subst, append-nil, arith, if◌then◌else◌, true≢false}
use Rattle.std.specs.List.{AllByRecursion as Each, fold, list_any}
use Rattle.std.proofs.lemmas.Bool.{eq-eqb, eqb-true, ne_eqb}
use Rattle.std.specs.Prelude.{cond, IsSome}
use Rattle.pk_fields.specs.Fields.{row_of}
use Rattle.pk_fields.specs.FieldSets.{is_in, every_field}
use Rattle.pk_fields.specs.Ids.{DNS, HTTP, TCP_STREAM, TCP_SEQ, TCP_ACK, TCP_LOST}
use Rattle.pk_tree.specs.Trees.{TreeShown, IsKept, kept_layer, kept_tree, layers_of}
use Rattle.pk_tree.specs.declared.layer.Layer.{Layer}
use Rattle.pk_tree.proofs.KeptTrees.{all_kept}
use Rattle.app_layers.specs.Aside.{IsAside}
use Rattle.cap_stats.specs.Laws.{AreNotedAlike, LacksBare, fields_of as table_fields}
use Rattle.cap_stats.proofs.BareLayers.{bare_unread}
use Rattle.cap_stats.proofs.KeptNotes.{kept_alike}
use Rattle.cap_stats.proofs.KeptTables.{packet_same, paths_same, stream_same}
use Rattle.cap_stats.specs.Told.{paths_in}
use Rattle.cap_stats.specs.declared.kind.StatKind.{StatKind}
use Rattle.cap_stats.specs.declared.kind.StatKind.TheVariants.{ConvTcp, ConvIp, Phs}
use Rattle.dissect.specs.Followed.{asks_messages, asks_streams, HasSameValues}
use Rattle.capture_write.specs.declared.format.Format.{Format}
use Rattle.shark_words.specs.declared.options.LineKind.{LineKind}
use Rattle.shark_words.specs.declared.options.LineKind.TheVariants.{Text, Fields, Json}
use Rattle.shark_words.specs.declared.options.Report.{Report}
use Rattle.out_lines.proofs.KeptLines.{line_alike}
use Rattle.flt_mean.proofs.KeptMeaning.{meaning_alike}
use Rattle.flt_mean.specs.Meaning.{meaning}
use Rattle.flt_vm.proofs.VerdictLemmas.{verdicts_alike}
use Rattle.flt_program.specs.Programs.{Code}
use Rattle.flt_program.specs.Asked.{HasCode, HasField}
use Rattle.flt_vm.specs.Verdicts.{verdict_of}
use Rattle.flt_program.specs.declared.instr.Instr.{Instr}
use Rattle.flt_program.specs.declared.instr.Instr.TheVariants as instr
use Rattle.flt_vm.specs.declared.run.Verdict.{Verdict}
use Rattle.run_frames.specs.declared.plan.Plan.{Plan}
use Rattle.run_frames.specs.declared.totals.Totals.{Totals}
use Rattle.run_frames.specs.Accessors.{is_generated, is_of_streams, is_quiet, needs_streams, reports_of, stats_of, two_of, written_of}
use Rattle.run_frames.specs.Totals.{steps_told, counts_by, counts_with, with_tree}
use Rattle.run_frames.specs.Pieces.{line_by, line_of, shown}
use Rattle.run_frames.specs.Compiled.{CompiledShown}
use Rattle.run_frames.specs.Satisfied.{decided, judged, satisfies}
use Rattle.run_frames.specs.Tables.{asks_table, is_table_of}
use Rattle.run_frames.specs.Trees.{lets}
use Rattle.dissect.specs.Protocols.{AreOnes}
use Rattle.run_output.specs.Wanted.{HasProtocols}
use Rattle.run_output.proofs.ProtocolLemmas.{kept_ones, whole_ones}
use Rattle.run_output.proofs.SummaryLemmas.{summary_alike}
use Rattle.run_frames.proofs.WantedLemmas.{first_false, second_false}
use Rattle.dissect.specs.Stands.{DissectorShown}
use Rattle.run_frames.specs.Wanted.{AreToldByValues, ServesPlan, asks_protocols, asks_trees, HasAsked, HasFields, HasPlan, HasTables, IsMadeFor, IsEnough, IsNotedAs, IsSpared, IsWhole, shows_whole, shows_whole_by, summary_fields, sums_up, sums_up_by}
use Rattle.second_pass.specs.Laws.{link_fields}

-- a set that grows still has what an instruction and what a program asks for
still_field : (old new : List ℕ) (i : Instr) → HasField old i → ((f : ℕ) → is_in old f ≡ true → is_in new f ≡ true) → HasField new i
still_field old new (instr.Read r field layers) has grown = grown field has
still_field old new (instr.Count r field layers) has grown = grown field has
still_field old new i has grown = tt

still_code : (old new : List ℕ) (code : Code) → HasCode old code → ((f : ℕ) → is_in old f ≡ true → is_in new f ≡ true) → HasCode new code
unfolding HasCode
still_code old new code has grown = λ at i there. still_field old new i (has at i there) grown

-- a set that grows still has what a filter and its program ask for
pub still_asked : (old new : List ℕ) (chosen : Option CompiledShown) → HasAsked old chosen → ((f : ℕ) → is_in old f ≡ true → is_in new f ≡ true) →
    HasAsked new chosen
still_asked old new None has grown = tt
still_asked old new (Some compiled) has grown =
    (λ f asked. grown f (has.0 f asked), still_code old new compiled.program has.1 grown)

-- a field that was there before, and one that was added
either_true : (a b : Bool) → (a || (b || true)) ≡ true
either_true true b = refl
either_true false true = refl
either_true false false = refl

pub added_before : (field home f : ℕ) (before after : Bool) → after ≡ (f == field || (f == home || before)) → before ≡ true → after ≡ true
added_before field home f before after is there =
    is ∙ ap (λ (b : Bool). f == field || (f == home || b)) there ∙ either_true (f == field) (f == home)

pub added_now : (f field home : ℕ) (before after : Bool) → f ≡ field → after ≡ (f == field || (f == home || before)) → after ≡ true
added_now f field home before after same is = is ∙ ap (λ (b : Bool). b || (f == home || before)) (eq-eqb f field same)

pub each_at : (P : ℕ → Type 0) (xs : List ℕ) → ((k : ℕ) → k < length xs → P (get_or xs k 0)) → Each P xs
each_at P [] at = tt
each_at P (x ∷ xs) at = (at 0 (omega arith), each_at P xs (λ k below. at (suc k) (omega arith)))

pub grown_columns : (old new fields : List ℕ) → HasFields old fields → ((f : ℕ) → is_in old f ≡ true → is_in new f ≡ true) → HasFields new fields
grown_columns old new [] has grown = tt
grown_columns old new (field ∷ fields) has grown = (grown field has.0, grown_columns old new fields has.1 grown)

-- a set that grows still has what a plan asks for
pub grown_plan : (old new : List ℕ) (plan : Plan) → HasPlan old plan → ((f : ℕ) → is_in old f ≡ true → is_in new f ≡ true) → HasPlan new plan
grown_plan old new plan has grown = record {
  filter = still_asked old new plan.chosen has.filter grown;
  columns = grown_columns old new plan.fields has.columns grown;
  summary = λ summed. grown_columns old new summary_fields (has.summary summed) grown;
}

pub grown_tables : (old new : List ℕ) (plan : Plan) → HasTables old plan → ((f : ℕ) → is_in old f ≡ true → is_in new f ≡ true) → HasTables new plan
grown_tables old new plan has grown = λ kind asked. grown_columns old new (table_fields kind) (has kind asked) grown

pub stream_grown : (old new : List ℕ) → ((f : ℕ) → is_in new f ≡ (f == TCP_STREAM || (f == (row_of TCP_STREAM).proto || is_in old f)))
    → (f : ℕ) → is_in old f ≡ true → is_in new f ≡ true
stream_grown old new added f is = added_before TCP_STREAM (row_of TCP_STREAM).proto f (is_in old f) (is_in new f) (added f) is

-- the fields of the tables of all kinds, added one after the other
pub each_table : (one two new : List ℕ) (plan : Plan) → (asks_table plan ConvTcp ≡ true → HasFields one (table_fields ConvTcp))
    → ((f : ℕ) → is_in one f ≡ true → is_in two f ≡ true) → (asks_table plan ConvIp ≡ true → HasFields two (table_fields ConvIp))
    → ((f : ℕ) → is_in two f ≡ true → is_in new f ≡ true) → (asks_table plan Phs ≡ true → HasFields new (table_fields Phs)) → HasTables new plan
each_table one two new plan tcp grown ip grown_on phs ConvTcp asked =
    grown_columns one new (table_fields ConvTcp) (tcp asked) (λ f is. grown_on f (grown f is))
each_table one two new plan tcp grown ip grown_on phs ConvIp asked = grown_columns two new (table_fields ConvIp) (ip asked) grown_on
each_table one two new plan tcp grown ip grown_on phs Phs asked = phs asked

-- where the number of a stream is asked, so are streams
pub stream_asked : (old new : List ℕ) → ((f : ℕ) → is_in new f ≡ (f == TCP_STREAM || (f == (row_of TCP_STREAM).proto || is_in old f))) → asks_streams new ≡ true
unfolding asks_streams
stream_asked old new added =
    ap (λ (b : Bool). b || is_in new TCP_SEQ || is_in new TCP_ACK || is_in new TCP_LOST || asks_messages new) (added_now TCP_STREAM TCP_STREAM (row_of TCP_STREAM).proto (is_in old TCP_STREAM) (is_in new TCP_STREAM) refl (added TCP_STREAM))

judged_same : (wanted : List ℕ) (chosen : Option CompiledShown) (t u : TreeShown) → HasSameValues wanted t u → HasAsked wanted chosen
    → judged chosen u ≡ judged chosen t
unfolding judged
judged_same wanted None t u same has = refl
judged_same wanted (Some compiled) t u same has =
    ap (λ (verdict : Option Verdict). decided verdict (meaning compiled.filter u)) (verdicts_alike wanted compiled.program compiled.filter t u same has.1)
    ∙ ap (decided (verdict_of compiled.program compiled.filter t)) (meaning_alike wanted compiled.filter t u same has.0)

satisfies_same : (wanted : List ℕ) (chosen : Option CompiledShown) (t u : TreeShown) → HasSameValues wanted t u → HasAsked wanted chosen
    → satisfies chosen u ≡ satisfies chosen t
satisfies_same wanted chosen t u same has = ap (λ (v : Verdict). v.holds) (judged_same wanted chosen t u same has)

line_same : (wanted : List ℕ) (plan : Plan) (kind : LineKind) (t u : TreeShown) → HasSameValues wanted t u → kind ≡ Fields → HasPlan wanted plan
    → line_by kind plan u ≡ line_by kind plan t
line_same wanted plan Text t u same is has = absurd (cc is)
line_same wanted plan Json t u same is has = absurd (cc is)
line_same wanted plan Fields t u same is has = line_alike wanted plan.fields t u plan.style same has.columns

pub shown_same : (wanted : List ℕ) (plan : Plan) (t u : TreeShown) → HasSameValues wanted t u → plan.kind ≡ Fields → HasPlan wanted plan → shown plan u ≡ shown plan t
shown_same wanted plan t u same is has =
    ap (λ (truth : Bool). if is_quiet plan then [] else if truth then line_of plan u else []) (satisfies_same wanted plan.chosen t u same has.filter)
    ∙ ap (λ (line : List ℕ). if is_quiet plan then [] else if lets plan t then line else []) (line_same wanted plan plan.kind t u same is has)

-- all fields are the whole tree
pub streams_every : asks_streams every_field ≡ true
unfolding asks_streams is_in
streams_every = refl

tree_all : (wanted : List ℕ) (whole tree : TreeShown) → wanted ≡ every_field → IsMadeFor wanted whole tree → tree ≡ whole
tree_all wanted whole tree all made =
    all_kept whole tree (subst (λ (fields : List ℕ). IsKept fields whole tree) all (made.kept (ap asks_streams all ∙ streams_every)))

-- where no lines of frames are written, every tree is shown alike
shown_quiet : (plan : Plan) (one other : TreeShown) → is_quiet plan ≡ true → shown plan one ≡ shown plan other
shown_quiet plan one other is =
    ap (λ (quiet : Bool). if quiet then [] else if lets plan one then line_of plan one else []) is
    ∙ sym (ap (λ (quiet : Bool). if quiet then [] else if lets plan other then line_of plan other else []) is)

quiet_asked : (plan : Plan) → plan.quiet ≡ true → is_quiet plan ≡ true
quiet_asked plan is = ap (λ (quiet : Bool). is_generated plan || quiet) is ∙ or_true (is_generated plan)
  where
    or_true : (b : Bool) → (b || true) ≡ true
    or_true true = refl
    or_true false = refl

-- where no whole trees are shown: no lines, columns, or lines that sum up frames
data WhichLines (plan : Plan) : Type 0 where
  NoLines : is_quiet plan ≡ true → WhichLines plan
  Columns : plan.kind ≡ Fields → WhichLines plan
  Summaries : is_quiet plan ≡ false → plan.kind ≡ Text → WhichLines plan

not_whole : (plan : Plan) (quiet : Bool) (kind : LineKind) → is_quiet plan ≡ quiet → plan.kind ≡ kind → shows_whole_by None quiet kind ≡ false → WhichLines plan
not_whole plan true kind is_quiet_so is_kind is = NoLines is_quiet_so
not_whole plan false Fields is_quiet_so is_kind is = Columns is_kind
not_whole plan false Text is_quiet_so is_kind is = Summaries is_quiet_so is_kind
not_whole plan false Json is_quiet_so is_kind is = absurd (cc is)

which_lines : (plan : Plan) → written_of plan ≡ None → shows_whole plan ≡ false → WhichLines plan
which_lines plan lines is =
    not_whole plan (is_quiet plan) plan.kind refl refl
    (sym (ap (λ (w : Option Format). shows_whole_by w (is_quiet plan) plan.kind) lines) ∙ is)

-- where lines sum up frames
summed_up : (plan : Plan) → written_of plan ≡ None → is_quiet plan ≡ false → plan.kind ≡ Text → sums_up plan ≡ true
summed_up plan lines loud text =
    ap (λ (w : Option Format). sums_up_by w (is_quiet plan) plan.kind) lines
    ∙ ap (λ (quiet : Bool). sums_up_by None quiet plan.kind) loud ∙ ap (λ (kind : LineKind). sums_up_by None false kind) text

summary_shown : (wanted : List ℕ) (plan : Plan) (t u : TreeShown) → HasSameValues wanted t u → u.layers ≡ map (kept_layer wanted) t.layers → HasPlan wanted plan
    → plan.kind ≡ Text → HasFields wanted summary_fields → shown plan u ≡ shown plan t
summary_shown wanted plan t u same layers has text summed =
    ap (λ (truth : Bool). if is_quiet plan then [] else if truth then line_of plan u else []) (satisfies_same wanted plan.chosen t u same has.filter)
    ∙ ap (λ (kind : LineKind). if is_quiet plan then [] else if lets plan t then line_by kind plan u else []) text
    ∙ ap (λ (line : List ℕ). if is_quiet plan then [] else if lets plan t then line else []) (summary_alike wanted t u same layers summed)
    ∙ sym (ap (λ (kind : LineKind). if is_quiet plan then [] else if lets plan t then line_by kind plan t else []) text)

shown_alike : (wanted : List ℕ) (plan : Plan) (t u : TreeShown) → HasSameValues wanted t u → (sums_up plan ≡ true → u.layers ≡ map (kept_layer wanted) t.layers)
    → HasPlan wanted plan → written_of plan ≡ None → WhichLines plan → shown plan u ≡ shown plan t
shown_alike wanted plan t u same layers has lines (NoLines quiet) = shown_quiet plan u t quiet
shown_alike wanted plan t u same layers has lines (Columns fields) = shown_same wanted plan t u same fields has
shown_alike wanted plan t u same layers has lines (Summaries loud text) =
    let summed : sums_up plan ≡ true = summed_up plan lines loud text in
    summary_shown wanted plan t u same (layers summed) has text (has.summary summed)

-- a tree that has only the wanted items is counted as the whole tree
same_proto : (wanted : List ℕ) (proto count : ℕ) (layers : List Layer)
    → fold (λ (a : ℕ) (layer : Layer). a + cond (layer.proto == proto) 1 0) count (map (kept_layer wanted) layers)
    ≡ fold (λ (a : ℕ) (layer : Layer). a + cond (layer.proto == proto) 1 0) count layers
same_proto wanted proto count [] = refl
same_proto wanted proto count (layer ∷ layers) = same_proto wanted proto (count + cond (layer.proto == proto) 1 0) layers

layers_same : (wanted : List ℕ) (proto : ℕ) (t : TreeShown) → layers_of proto (kept_tree wanted t).layers ≡ layers_of proto t.layers
layers_same wanted proto t = same_proto wanted proto 0 t.layers

tree_same : (wanted : List ℕ) (t : TreeShown) (one other : Bool) (totals : Totals) → one ≡ other → with_tree (kept_tree wanted t) one totals ≡ with_tree t other totals
tree_same wanted t one other totals same =
    ap (λ (shown : Bool). with_tree (kept_tree wanted t) shown totals) same
    ∙ ap (λ (dns : ℕ). record {
      frames = suc totals.frames;
      shown = if other then suc totals.shown else totals.shown;
      dns = totals.dns + dns;
      http = totals.http + layers_of HTTP (kept_tree wanted t).layers;
      steps = totals.steps;
    }) (layers_same wanted DNS t)
    ∙ ap (λ (http : ℕ). record {
      frames = suc totals.frames;
      shown = if other then suc totals.shown else totals.shown;
      dns = totals.dns + layers_of DNS t.layers;
      http = totals.http + http;
      steps = totals.steps;
    }) (layers_same wanted HTTP t)

counted_kept : (wanted : List ℕ) (plan : Plan) (whole tree : TreeShown) → HasPlan wanted plan → HasSameValues wanted whole tree → IsKept wanted whole tree
    → (totals : Totals) → counts_with plan tree totals ≡ counts_with plan whole totals
counted_kept wanted plan whole tree has same kept totals =
    ap (λ (verdict : Verdict). counts_by plan verdict tree totals) (judged_same wanted plan.chosen whole tree same has.filter)
    ∙ ap (λ (t : TreeShown). counts_by plan (judged plan.chosen whole) t totals) kept.same
    ∙ ap (λ (with : Totals). record (if is_generated plan then with else totals) { steps = totals.steps + steps_told plan (judged plan.chosen whole) })
    (tree_same wanted whole (lets plan whole) (lets plan whole) totals refl)

-- over a file nothing is counted but steps
counted_file : (plan : Plan) (one other : TreeShown) → is_generated plan ≡ false
    → steps_told plan (judged plan.chosen one) ≡ steps_told plan (judged plan.chosen other)
    → (totals : Totals) → counts_with plan one totals ≡ counts_with plan other totals
counted_file plan one other is steps totals =
    ap (λ (generated : Bool). record (if generated then with_tree one (lets plan one) totals else totals) { steps = totals.steps + steps_told plan (judged plan.chosen one) }) is
    ∙ ap (λ (n : ℕ). record totals { steps = totals.steps + n }) steps
    ∙ sym (ap (λ (generated : Bool). record (if generated then with_tree other (lets plan other) totals else totals) { steps = totals.steps + steps_told plan (judged plan.chosen other) }) is)

-- where steps aren't counted either
no_steps : (plan : Plan) (one other : Verdict) → stats_of plan ≡ false → steps_told plan one ≡ steps_told plan other
no_steps plan one other untold =
    ap (λ (b : Bool). if b then one.steps else 0) untold ∙ sym (ap (λ (b : Bool). if b then other.steps else 0) untold)

not_written : {A : Type 0} (plan : Plan) → written_of plan ≡ None → IsSome (written_of plan) → A
not_written plan lines some = let bad : false ≡ true = subst IsSome lines some in absurd (cc bad)

not_generated : (plan : Plan) → needs_streams plan ≡ false → is_generated plan ≡ false
not_generated plan is = first_false (is_generated plan) (list_any is_of_streams plan.reports) is

not_needed : {A : Type 0} (plan : Plan) → needs_streams plan ≡ false → needs_streams plan ≡ true → A
not_needed plan not_so is = let bad : false ≡ true = sym not_so ∙ is in absurd (cc bad)

not_empty : {A : Type 0} (reports : List Report) (test : Report → Bool) → not (length reports == 0) ≡ false → list_any test reports ≡ true → A
not_empty [] test none is = let bad : false ≡ true = is in absurd (cc bad)
not_empty (report ∷ reports) test none is =
    let some : not (length (report ∷ reports) == 0) ≡ true = ap not (ne_eqb (length (report ∷ reports)) 0 (λ zero. absurd (omega (arith, zero)))) in
    let bad : true ≡ false = sym some ∙ none in absurd (cc bad)

-- where there are no reports, there is no table
no_report : {A : Type 0} (plan : Plan) (kind : StatKind) → not (length (reports_of plan) == 0) ≡ false → asks_table plan kind ≡ true → A
no_report plan kind none asked = not_empty (reports_of plan) (is_table_of kind) none asked

-- all fields are those of every table
tables_all : (kind : StatKind) → HasFields every_field (table_fields kind)
unfolding is_in
tables_all ConvTcp = (refl, (refl, (refl, (refl, (refl, (refl, (refl, (refl, tt))))))))
tables_all ConvIp = (refl, (refl, (refl, tt)))
tables_all Phs = (refl, tt)

all_bare : (wanted : List ℕ) (layers : List Layer) → Each (IsAside wanted) layers → Each (λ (layer : Layer). layer.items ≡ []) layers
all_bare wanted [] aside = tt
all_bare wanted (layer ∷ layers) aside = (aside.0.1, all_bare wanted layers aside.1)

-- what a tree lacks that is made for values is nothing to the tables of conversations
lacks_bare : (wanted : List ℕ) (whole tree : TreeShown) → IsSpared wanted whole tree → LacksBare (kept_tree wanted whole) tree
lacks_bare wanted whole tree spared = record {
  layers = spared.lacks.layers;
  whole_layers = spared.lacks.whole_layers;
  bare = all_bare wanted spared.lacks.layers spared.lacks.aside;
}

-- where all protocols are wanted, it lacks no layer
lacks_none : (wanted : List ℕ) (own more : List Layer) → HasProtocols wanted → AreOnes (own ++ more) → Each (IsAside wanted) more → more ≡ []
lacks_none wanted [] [] has ones aside = refl
lacks_none wanted [] (layer ∷ more) has ones aside = absurd (true≢false (sym (has layer.proto ones.0) ∙ aside.0.0))
lacks_none wanted (layer ∷ own) more has ones aside = lacks_none wanted own more has ones.1 aside

all_layers : (wanted : List ℕ) (whole tree : TreeShown) → HasProtocols wanted → IsWhole whole → IsSpared wanted whole tree
    → tree.layers ≡ map (kept_layer wanted) whole.layers
all_layers wanted whole tree has is spared =
    let ones : AreOnes (tree.layers ++ spared.lacks.layers) =
    subst (λ (layers : List Layer). AreOnes layers) spared.lacks.whole_layers (kept_ones wanted whole.layers (whole_ones whole is)) in
    let none : spared.lacks.layers ≡ [] = lacks_none wanted tree.layers spared.lacks.layers has ones spared.lacks.aside in
    sym (spared.lacks.whole_layers ∙ ap (λ (more : List Layer). tree.layers ++ more) none ∙ append-nil tree.layers)

tables_alike : (wanted : List ℕ) (plan : Plan) (whole tree : TreeShown) (kind : StatKind) → HasTables wanted plan
    → (asks_table plan Phs ≡ true → tree.layers ≡ map (kept_layer wanted) whole.layers) → IsSpared wanted whole tree → asks_table plan kind ≡ true
    → AreNotedAlike kind whole tree
tables_alike wanted plan whole tree ConvTcp tables layers spared asked =
    (bare_unread (kept_tree wanted whole) tree (lacks_bare wanted whole tree spared)).0 ∙ stream_same wanted (tables ConvTcp asked) whole.layers
tables_alike wanted plan whole tree ConvIp tables layers spared asked =
    (bare_unread (kept_tree wanted whole) tree (lacks_bare wanted whole tree spared)).1 ∙ packet_same wanted (tables ConvIp asked) whole.layers
tables_alike wanted plan whole tree Phs tables layers spared asked = ap paths_in (layers asked) ∙ paths_same wanted (tables Phs asked) whole.layers

noted_all : (wanted : List ℕ) (plan : Plan) (kind : StatKind) (whole tree : TreeShown) → wanted ≡ every_field → IsMadeFor wanted whole tree → IsNotedAs plan kind whole tree
noted_all wanted plan kind whole tree all made = record {
  truth = ap (lets plan) (tree_all wanted whole tree all made);
  alike = kept_alike kind whole tree (record {
    wanted = every_field;
    fields = tables_all kind;
    kept = subst (λ (fields : List ℕ). IsKept fields whole tree) all (made.kept (ap asks_streams all ∙ streams_every));
  });
}

not_twice : {A : Type 0} (plan : Plan) → two_of plan ≡ false → two_of plan ≡ true → A
not_twice plan alone is = let bad : false ≡ true = sym alone ∙ is in absurd (cc bad)

-- all fields are those of links
links_all : HasFields every_field link_fields
unfolding is_in
links_all =
    (refl, (refl, (refl, (refl, (refl, (refl, (refl, (refl, (refl, (refl, (refl, (refl, (refl, (refl, (refl, (refl, (refl, (refl, (refl, tt)))))))))))))))))))

-- which fields are enough
pub enough_all : (wanted : List ℕ) (plan : Plan) → wanted ≡ every_field → IsEnough wanted plan
enough_all wanted plan all = record {
  told = λ whole tree made. record {
    shown = λ none. ap (shown plan) (tree_all wanted whole tree all made);
    counted = λ totals. ap (λ (t : TreeShown). counts_with plan t totals) (tree_all wanted whole tree all made);
    truth = λ written. ap (lets plan) (tree_all wanted whole tree all made);
    noted = λ kind asked. noted_all wanted plan kind whole tree all made;
  };
  streams = λ needed. ap asks_streams all ∙ streams_every;
  twice = λ two. subst (λ (fields : List ℕ). HasFields fields link_fields) (sym all) links_all;
}

pub enough_followed : (wanted : List ℕ) (plan : Plan) → shows_whole plan ≡ false → HasPlan wanted plan → HasTables wanted plan → asks_streams wanted ≡ true
    → (two_of plan ≡ true → HasFields wanted link_fields) → IsEnough wanted plan
enough_followed wanted plan is has tables asks links = record {
  told = λ whole tree made. record {
    shown = λ lines. shown_alike wanted plan whole tree made.spared.values (λ summed. ap (λ (t : TreeShown). t.layers) (made.kept asks).same) has lines
        (which_lines plan lines is);
    counted = λ totals. counted_kept wanted plan whole tree has made.spared.values (made.kept asks) totals;
    truth = λ written. satisfies_same wanted plan.chosen whole tree made.spared.values has.filter;
    noted = λ kind asked. record {
      truth = satisfies_same wanted plan.chosen whole tree made.spared.values has.filter;
      alike = kept_alike kind whole tree (record { wanted = wanted; fields = tables kind asked; kept = made.kept asks });
    };
  };
  streams = λ needed. asks;
  twice = links;
}

-- where values of fields tell the trees
any_true : (a b : Bool) → b ≡ true → (a || b) ≡ true
any_true true b is = refl
any_true false b is = is

pub values_none : (wanted : List ℕ) (plan : Plan) → asks_trees plan ≡ false → plan.quiet ≡ true → stats_of plan ≡ false → written_of plan ≡ None
    → not (length (reports_of plan) == 0) ≡ false → AreToldByValues wanted plan
values_none wanted plan none_so is untold lines unreported =
    let not_so : needs_streams plan ≡ false = second_false (two_of plan) (needs_streams plan) none_so in
    λ whole tree of_frame spared. record {
      shown = λ none. shown_quiet plan tree whole (quiet_asked plan is);
      counted = λ totals. counted_file plan tree whole (not_generated plan not_so) (no_steps plan (judged plan.chosen tree) (judged plan.chosen whole) untold) totals;
      truth = λ written. not_written plan lines written;
      noted = λ kind asked. no_report plan kind unreported asked;
    }

pub values_plain : (wanted : List ℕ) (plan : Plan) → shows_whole plan ≡ false → asks_trees plan ≡ false → HasPlan wanted plan → HasTables wanted plan
    → (asks_protocols plan ≡ true → HasProtocols wanted) → AreToldByValues wanted plan
values_plain wanted plan is none_so has tables protos =
    let not_so : needs_streams plan ≡ false = second_false (two_of plan) (needs_streams plan) none_so in
    λ whole tree of_frame spared.
    let layers : asks_protocols plan ≡ true → tree.layers ≡ map (kept_layer wanted) whole.layers = λ asks. all_layers wanted whole tree (protos asks) of_frame spared in
    record {
      shown = λ lines. shown_alike wanted plan whole tree spared.values (λ summed. layers (ap (λ (b : Bool). b || asks_table plan Phs) summed)) has lines
          (which_lines plan lines is);
      counted = λ totals. counted_file plan tree whole (not_generated plan not_so)
          (ap (steps_told plan) (judged_same wanted plan.chosen whole tree spared.values has.filter)) totals;
      truth = λ written. satisfies_same wanted plan.chosen whole tree spared.values has.filter;
      noted = λ kind asked. record {
        truth = satisfies_same wanted plan.chosen whole tree spared.values has.filter;
        alike = tables_alike wanted plan whole tree kind tables (λ phs. layers (any_true (sums_up plan) (asks_table plan Phs) phs)) spared asked;
      };
    }

-- these are enough
pub values_enough : (wanted : List ℕ) (plan : Plan) → asks_trees plan ≡ false → AreToldByValues wanted plan → IsEnough wanted plan
values_enough wanted plan none_so told = record {
  told = λ whole tree made. told whole tree made.of_frame made.spared;
  streams = not_needed plan (second_false (two_of plan) (needs_streams plan) none_so);
  twice = not_twice plan (first_false (two_of plan) (needs_streams plan) none_so);
}

-- what they are enough for
pub reports_need : (wanted : List ℕ) (plan : Plan) → IsEnough wanted plan → list_any is_of_streams plan.reports ≡ true → asks_streams wanted ≡ true
reports_need wanted plan enough some = enough.streams (any_true (is_generated plan) (list_any is_of_streams plan.reports) some)

pub reports_whole : (d : DissectorShown) (plan : Plan) → ServesPlan d plan → list_any is_of_streams plan.reports ≡ true → d.sparing ≡ false
reports_whole d plan serves some =
    serves.whole (ap (λ (b : Bool). b || two_of plan) (any_true (is_generated plan) (list_any is_of_streams plan.reports) some))

pub generated_streams : (d : DissectorShown) (plan : Plan) → ServesPlan d plan → is_generated plan ≡ true → asks_streams d.wanted ≡ true
generated_streams d plan serves is = serves.enough.streams (ap (λ (b : Bool). b || list_any is_of_streams plan.reports) is)

pub generated_whole : (d : DissectorShown) (plan : Plan) → ServesPlan d plan → is_generated plan ≡ true → d.sparing ≡ false
generated_whole d plan serves is = serves.whole (ap (λ (b : Bool). b || list_any is_of_streams plan.reports || two_of plan) is)
