-- The line over a generated capture: how many frames, streams and layers there are.
use Rattle.std.specs.Prelude.{ℕ, suc, ◌+◌, List, [], ◌∷◌, ◌++◌, codes, decimal, length, if◌then◌else◌}
use Rattle.capture_read.specs.declared.frame.Frame.{Frame}
use Rattle.dissect.specs.Conversations.{udp_opened}
use Rattle.dissect.specs.Segments.{segments_of}
use Rattle.dissect.specs.Trees.{events_of}
use Rattle.pk_fields.specs.Ids.{DNS, HTTP}
use Rattle.pk_tree.specs.Trees.{TreeShown, layers_of}
use Rattle.tcp_streams.specs.Labels.{labels, opened}
use Rattle.run_frames.specs.declared.plan.Plan.{Plan}
use Rattle.run_frames.specs.Job.{Job}
use Rattle.run_frames.specs.Trees.{lets, trees_of}
use Rattle.run_frames.specs.declared.totals.Totals.{Totals}
use Rattle.run_frames.specs.Accessors.{compiled_of, stats_of}
use Rattle.run_output.specs.FilterStats.{steps_over}

-- how many trees the filter lets through
abbrev pub shown_count : Plan → List TreeShown → ℕ
shown_count plan [] = 0
shown_count plan (tree ∷ trees) = if lets plan tree then suc (shown_count plan trees) else shown_count plan trees

-- how many layers of a protocol trees have
abbrev pub layer_count : ℕ → List TreeShown → ℕ
layer_count proto [] = 0
layer_count proto (tree ∷ trees) = layer_count proto trees + layers_of proto tree.layers

-- how many streams of TCP and of UDP frames have
abbrev pub tcp_count : List Frame → ℕ
tcp_count past = opened (labels (segments_of (events_of past)))

abbrev pub udp_count : List Frame → ℕ
udp_count past = length (udp_opened (events_of past))

-- the line of such counts
abbrev pub counts_text : ℕ → ℕ → ℕ → ℕ → ℕ → ℕ → List ℕ
counts_text frames shown tcp udp dns http =
    codes "self-run frames " ++ (decimal frames
    ++ (codes " shown " ++ (decimal shown
    ++ (codes " tcp " ++ (decimal tcp
    ++ (codes " udp " ++ (decimal udp
    ++ (codes " dns " ++ (decimal dns
    ++ (codes " http " ++ (decimal http
    ++ codes "\n")))))))))))

-- the line over frames with these trees, the newest first, of which the filter lets so many through
abbrev pub line_with : List Frame → List TreeShown → ℕ → List ℕ
line_with past trees shown =
    counts_text (length past) shown (tcp_count past) (udp_count past) (layer_count DNS trees) (layer_count HTTP trees)

unfoldable pub self_run_line : Job → List Frame → List ℕ
self_run_line job past = line_with past (trees_of job past) (shown_count job.plan (trees_of job past))

-- what is counted of frames, the newest first
abbrev pub totals_of : Job → List Frame → Totals
totals_of job past = record {
  frames = length past;
  shown = shown_count job.plan (trees_of job past);
  dns = layer_count DNS (trees_of job past);
  http = layer_count HTTP (trees_of job past);
  steps = if stats_of job.plan then steps_over (compiled_of job.plan) (trees_of job past) else 0;
}
