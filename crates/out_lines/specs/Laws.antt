-- What holds of the lines of every tree.
use Rattle.std.specs.Prelude.{◌≡◌, ℕ, true, List}
use Rattle.std.specs.List.{AllByRecursion as Each}
use Rattle.pk_fields.specs.FieldSets.{is_in}
use Rattle.pk_tree.specs.Trees.{TreeShown, kept_tree}
use Rattle.out_lines.specs.declared.style.Style.{Style}
use Rattle.out_lines.specs.Lines.{field_line_of}

-- a tree that keeps the items of some fields alone has the same line of these fields as the whole tree
abbrev pub KeptLine : Type 0
KeptLine = (wanted fields : List ℕ) (t : TreeShown) (style : Style)
    → Each (λ field. is_in wanted field ≡ true) fields
    → field_line_of fields (kept_tree wanted t) style ≡ field_line_of fields t style
