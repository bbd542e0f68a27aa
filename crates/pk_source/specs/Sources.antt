-- What a frame's tree is, by whatever answers for it.
use Rattle.pk_source.specs.declared.source.Lender.{Lender}
use Rattle.pk_source.specs.declared.source.Lender.TheVariants as lenders
use Rattle.pk_tree.specs.Trees.{TreeShown}

abbrev pub shown_by : Lender → TreeShown
shown_by (lenders.Tree tree) = tree.now
shown_by (lenders.Outline outline) = outline.now
