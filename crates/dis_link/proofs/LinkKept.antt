-- The first header's layer, in a tree of some fields and in the whole tree.
use Rattle.std.proofs.Common.{ℕ, Bool, List}
use Rattle.pk_base.specs.declared.span.Span.{Span}
use Rattle.pk_tree.specs.Trees.{TreeShown, IsKept, kept_tree}
use Rattle.pk_tree.proofs.KeptTrees.{layer_kept}
use Rattle.dis_link.specs.declared.link.Link.{Link}
use Rattle.dis_link.specs.declared.link.Link.TheVariants.{Null, Ethernet, Raw, LinuxCooked, LinuxCooked2, Unknown}
use Rattle.dis_link.specs.Link.{link_read}

pub link_kept : (wanted : List ℕ) (link : Link) (little : Bool) (t : TreeShown) (span : Span) (cut : Bool) → IsKept wanted t (kept_tree wanted t) →
    IsKept wanted (link_read link little t span cut) (link_read link little (kept_tree wanted t) span cut)
unfolding link_read
link_kept wanted Null little t span cut k = layer_kept wanted t (kept_tree wanted t) _ _ _ _ cut k
link_kept wanted Ethernet little t span cut k = layer_kept wanted t (kept_tree wanted t) _ _ _ _ cut k
link_kept wanted Raw little t span cut k = k
link_kept wanted LinuxCooked little t span cut k = layer_kept wanted t (kept_tree wanted t) _ _ _ _ cut k
link_kept wanted LinuxCooked2 little t span cut k = layer_kept wanted t (kept_tree wanted t) _ _ _ _ cut k
link_kept wanted Unknown little t span cut k = k
