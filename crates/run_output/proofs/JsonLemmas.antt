-- Lines of JSON without a filter: one for each frame.
use Rattle.std.proofs.Common.{◌≡◌, Bool, List, [], ◌∷◌, ◌++◌, ℕ, zero, suc, length, Option, option_map, None, Some, refl, ap, ◌∙◌, if◌then◌else◌}
use Rattle.std.specs.List.{list_any}
use Rattle.capture_read.specs.declared.frame.Frame.{Frame}
use Rattle.capture_write.specs.declared.format.Format.{Format}
use Rattle.out_json.specs.Lines.{json_line_of}
use Rattle.dissect.proofs.FramesJoined.{same_trees}
use Rattle.dissect.proofs.TreeMessages.{IsSameBare, bare, bares, same_self, tree_same}
use Rattle.dissect.specs.MessageLaws.{MessagesInTrees, trees_show}
use Rattle.dissect.specs.Trees.{tree_at}
use Rattle.pk_tree.specs.Trees.{TreeShown}
use Rattle.pk_tree.specs.declared.layer.Layer.{Layer}
use Rattle.second_pass.specs.Forward.{forwarded, forwarded_to, is_part, link_of, linked, with_link}
use Rattle.second_pass.specs.Named.{Noted}
use Rattle.shark_words.specs.declared.options.LineKind.{LineKind}
use Rattle.tcp_messages.specs.Brought.{MessagesOnce}
use Rattle.run_frames.specs.Accessors.{rules_of}
use Rattle.run_frames.specs.Compiled.{CompiledShown}
use Rattle.run_frames.specs.Job.{Job, Passes, One, Two, with_links}
use Rattle.run_output.specs.JsonLaws.{MessagesToldOnce, ShowsAll, json_lines}
use Rattle.run_frames.specs.Pieces.{line_by, line_of, piece, piece_by, pieces_of}
use Rattle.run_output.specs.Reports.{tcp_segments}
use Rattle.run_frames.specs.Satisfied.{judged, satisfies}
use Rattle.run_frames.specs.Trees.{lets, tree_of}

nothing_chosen : (chosen : Option CompiledShown) → option_map (λ (compiled : CompiledShown). compiled.filter) chosen ≡ None → chosen ≡ None
nothing_chosen None is = refl
nothing_chosen (Some compiled) is = absurd (cc is)

json_piece : (job : Job) (past : List Frame) (frame : Frame) → ShowsAll job.plan → piece job past frame ≡ json_line_of (tree_of job past frame)
unfolding judged
json_piece job past frame shows =
    ap (λ (written : Option Format). piece_by written job past frame) shows.lines
    ∙ ap (λ (quiet : Bool). if quiet then [] else if lets job.plan (tree_of job past frame) then line_of job.plan (tree_of job past frame) else []) shows.loud
    ∙ ap (λ (chosen : Option CompiledShown). if satisfies chosen (tree_of job past frame) then line_of job.plan (tree_of job past frame) else []) (nothing_chosen job.plan.chosen shows.all)
    ∙ ap (λ (kind : LineKind). line_by kind job.plan (tree_of job past frame)) shows.json

json_pieces : (job : Job) (past : List Frame) → ShowsAll job.plan → pieces_of job past ≡ json_lines job past
json_pieces job [] shows = refl
json_pieces job (frame ∷ past) shows =
    ap (λ (lines : List ℕ). lines ++ piece job past frame) (json_pieces job past shows)
    ∙ ap (λ (line : List ℕ). json_lines job past ++ line) (json_piece job past frame shows)

-- ---- the links to later frames change items alone

link_bare : (layer : Layer) (link : Option (ℕ × ℕ)) → bare (with_link layer link) ≡ bare layer
link_bare layer None = refl
link_bare layer (Some link) = refl

linked_bares : (noted : List Noted) (frame count : ℕ) (layers : List Layer) → bares (linked noted frame count layers) ≡ bares layers
linked_bares noted frame zero layers = refl
linked_bares noted frame (suc count) [] = refl
linked_bares noted frame (suc count) (layer ∷ layers) =
    ap (λ (first : Layer). first ∷ bares (linked noted frame count layers)) (link_bare layer (link_of noted frame (list_any is_part layers) layer))
    ∙ ap (λ (rest : List Layer). bare layer ∷ rest) (linked_bares noted frame count layers)

forwarded_same : (noted : List Noted) (frame : ℕ) (t : TreeShown) → IsSameBare t (forwarded noted frame t)
unfolding forwarded_to
forwarded_same noted frame t = record { layers = linked_bares noted frame (length t.layers) t.layers; buffers = refl }

passes_same : (passes : Passes) (frame : ℕ) (t : TreeShown) → IsSameBare t (with_links passes frame t)
passes_same One frame t = same_self t
passes_same (Two noted) frame t = forwarded_same noted frame t

line_trees : (job : Job) (stream : ℕ) (side : Bool) (past : List Frame) → trees_show (tree_of job) stream side past ≡ trees_show (tree_at (rules_of job.plan)) stream side past
line_trees job stream side past =
    same_trees (tree_of job) (tree_at (rules_of job.plan)) stream side past
    (λ earlier frame. tree_same (tree_at (rules_of job.plan) earlier frame) (tree_of job earlier frame) (passes_same job.passes frame.number (tree_at (rules_of job.plan) earlier frame)))

pub told_once : MessagesOnce → MessagesInTrees → MessagesToldOnce
told_once messages_once in_trees job past shows = record {
  lines = json_pieces job past shows;
  once = λ framer stream side. messages_once framer (tcp_segments past) stream side;
  trees = λ stream side. line_trees job stream side past ∙ in_trees (rules_of job.plan) past stream side;
}
