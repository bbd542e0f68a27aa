-- Reading the payload of a datagram with some fields is reading all of it and keeping those.
use Rattle.std.proofs.Common.{◌==◌, ℕ, Bool, false, List, Option, None, Some}
use Rattle.pk_base.specs.declared.span.Span.{Span}
use Rattle.pk_base.specs.declared.heads.Mode.TheVariants.{Plain as PlainMode}
use Rattle.pk_tree.specs.Trees.{TreeShown, IsKept as IsKeptTree, kept_tree}
use Rattle.pk_tree.proofs.KeptTrees.{layer_kept}
use Rattle.app_layers.specs.DataLayer.{data_over}
use Rattle.app_layers.proofs.KeptHeads.{tree_as, kept_if}
use Rattle.pk_base.specs.declared.heads.After.{After}
use Rattle.pk_base.specs.declared.heads.After.TheVariants as afters
use Rattle.pk_fields.specs.declared.apps.App.{App}
use Rattle.app_layers.specs.Applications.{data_behind, message_over}
use Rattle.app_layers.specs.Rows.{in_datagrams}

-- bytes that no protocol reads
pub data_kept : (wanted : List ℕ) (t u : TreeShown) (span : Span) → IsKeptTree wanted t u → IsKeptTree wanted (data_over t span) (data_over u span)
unfolding data_over
data_kept wanted t u span k = kept_if wanted (span.len == 0) t u _ _ k (layer_kept wanted t u _ span _ _ false k)

behind_kept : (wanted : List ℕ) (after : After) (t u : TreeShown) → IsKeptTree wanted t u → IsKeptTree wanted (data_behind t after) (data_behind u after)
behind_kept wanted (afters.Next which span) t u k = data_kept wanted t u span k
behind_kept wanted (afters.Packet which span packet) t u k = k
behind_kept wanted (afters.Fragment head span) t u k = k
behind_kept wanted (afters.Datagram head span) t u k = k
behind_kept wanted (afters.Segment head span) t u k = k
behind_kept wanted afters.End t u k = k

pub message_kept : (wanted : List ℕ) (app : Option App) (cut : Bool) (span : Span) (t u : TreeShown) → IsKeptTree wanted t u → IsKeptTree wanted (message_over app t cut span) (message_over app u cut span)
message_kept wanted (Some app) cut span t u k =
    tree_as wanted (λ v. message_over (Some app) v cut span) t u k
    (λ one. kept_if wanted (in_datagrams app) _ _ _ _
    (behind_kept wanted _ _ _ (layer_kept wanted t (kept_tree wanted t) _ span _ PlainMode cut one)) (data_kept wanted t (kept_tree wanted t) span one))
message_kept wanted None cut span t u k = data_kept wanted t u span k
