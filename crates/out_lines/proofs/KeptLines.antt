-- The line of some fields is the same over a tree that has only the items of these.
use Rattle.std.proofs.Common.{◌≡◌, ℕ, true, List, [], ◌∷◌, ◌++◌, refl, ap, ◌∙◌}
use Rattle.std.specs.List.{AllByRecursion as Each, flat_map}
use Rattle.pk_fields.specs.FieldSets.{is_in}
use Rattle.pk_base.specs.declared.chosen.Layers.{Layers}
use Rattle.pk_base.specs.declared.chosen.Layers.TheVariants.{All as AllLayers}
use Rattle.pk_base.specs.declared.value.Value.{Value}
use Rattle.pk_tree.specs.FieldValues.{values_of}
use Rattle.pk_tree.specs.Trees.{TreeShown, kept_tree}
use Rattle.pk_tree.proofs.KeptValues.{values_same}
use Rattle.out_lines.specs.declared.style.Style.{Style}
use Rattle.out_lines.specs.Laws.{KeptLine}
use Rattle.out_lines.specs.Lines.{chosen, column_of, column_text, field_line_of}

-- two trees that have the same values of these fields
abbrev pub HaveSame : List ℕ → TreeShown → TreeShown → Type 0
HaveSame wanted t u = (field : ℕ) (layers : Layers) → is_in wanted field ≡ true → values_of u field layers ≡ values_of t field layers

column_alike : (wanted : List ℕ) (t u : TreeShown) (style : Style) (field : ℕ) → HaveSame wanted t u → is_in wanted field ≡ true →
    column_text u style field ≡ column_text t style field
unfolding column_text
column_alike wanted t u style field same is =
    ap (λ (values : List Value). column_of style field (chosen style.occurrence values)) (same field AllLayers is)

-- a separator and a column
abbrev further : TreeShown → Style → ℕ → List ℕ
further t style field = style.separator ∷ column_text t style field

further_alike : (wanted : List ℕ) (t u : TreeShown) (style : Style) (fields : List ℕ) → HaveSame wanted t u → Each (λ field. is_in wanted field ≡ true) fields →
    flat_map (further u style) fields ≡ flat_map (further t style) fields
further_alike wanted t u style [] same are = refl
further_alike wanted t u style (field ∷ fields) same are =
    ap (λ (column : List ℕ). style.separator ∷ (column ++ flat_map (further u style) fields)) (column_alike wanted t u style field same are.0)
    ∙ ap (λ (others : List ℕ). further t style field ++ others) (further_alike wanted t u style fields same are.1)

pub line_alike : (wanted fields : List ℕ) (t u : TreeShown) (style : Style) → HaveSame wanted t u → Each (λ field. is_in wanted field ≡ true) fields →
    field_line_of fields u style ≡ field_line_of fields t style
unfolding field_line_of
line_alike wanted [] t u style same are = refl
line_alike wanted (field ∷ fields) t u style same are =
    ap (λ (column : List ℕ). (column ++ flat_map (further u style) fields) ++ 10 ∷ []) (column_alike wanted t u style field same are.0)
    ∙ ap (λ (others : List ℕ). (column_text t style field ++ others) ++ 10 ∷ []) (further_alike wanted t u style fields same are.1)

pub line_same : KeptLine
line_same wanted fields t style are = line_alike wanted fields t (kept_tree wanted t) style (λ field layers is. values_same wanted t field layers is) are
