-- The texts of objects, with their keys spelled out, and of strings that need no escape.
use Rattle.std.proofs.Common.{◌≡◌, ℕ, ◌+◌, ◌<◌, true, false, List, [], ◌∷◌, ◌++◌, append_assoc, codes, decimal, map, length, drop, get_or, refl, ap, ◌∙◌, arith}
use Rattle.std.proofs.lemmas.List.{drop_more}
use Rattle.json.specs.Print.{escape_byte}
use Rattle.pk_base.specs.declared.span.Span.{Span}
use Rattle.pk_fields.specs.Fields.{row_of}
use Rattle.pk_tree.specs.declared.item.Item.{Item}
use Rattle.pk_tree.specs.declared.layer.Layer.{Layer}
use Rattle.pk_base.specs.declared.value.Value.{Value}
use Rattle.pk_tree.specs.Trees.{TreeShown}
use Rattle.pk_text.specs.Digits.{hex_shown}
use Rattle.out_lines.specs.ValueText.{shown_value}
use Rattle.serde_json.specs.View.{items_of}
use Rattle.serde_json.specs.Written.{compact_text, items_text}
use Rattle.out_json.specs.Heads.{layer_head, layer_tail, made_head, placed_head}
use Rattle.out_json.specs.Lines.{buffer_json, is_bare, item_json, json_line_of, layer_json, made_json, placed_json, string_text, tree_json, value_json}
use Rattle.out_json.proofs.Bare.{IsBare, bare_hex, bare_name}
use Rattle.out_json.proofs.Shown.{shown_bare}

in_quotes : (text : List ℕ) → IsBare text → string_text text ≡ 34 ∷ (text ++ 34 ∷ [])
unfolding string_text
in_quotes text bare = ap (λ (s : List ℕ). 34 ∷ (s ++ 34 ∷ [])) bare

pub hex_string : (bytes : List ℕ) → string_text (hex_shown bytes) ≡ 34 ∷ (hex_shown bytes ++ 34 ∷ [])
hex_string bytes = in_quotes (hex_shown bytes) (bare_hex bytes)

pub name_string : (field : ℕ) → string_text (row_of field).name ≡ 34 ∷ ((row_of field).name ++ 34 ∷ [])
name_string field = in_quotes (row_of field).name (bare_name field)

pub bare_string : (field : ℕ) (value : Value) → is_bare value ≡ true → string_text (shown_value field value) ≡ 34 ∷ (shown_value field value ++ 34 ∷ [])
bare_string field value is = in_quotes (shown_value field value) (shown_bare field value is)

-- the parts of an item and of a layer, put together as they are stored
placed_parts : (key1 count1 key2 name key3 count3 key4 count4 key5 value end : List ℕ)
    → key1 ++ (count1 ++ (key2 ++ (name ++ (key3 ++ (count3 ++ (key4 ++ (count4 ++ (key5 ++ (value ++ end)))))))))
    ≡ ((key1 ++ count1) ++ ((key2 ++ name) ++ ((key3 ++ count3) ++ ((key4 ++ count4) ++ key5)))) ++ (value ++ end)
placed_parts key1 count1 key2 name key3 count3 key4 count4 key5 value end = simp append_assoc

made_parts : (key1 name key2 value end : List ℕ) → key1 ++ (name ++ (key2 ++ (value ++ end))) ≡ ((key1 ++ name) ++ key2) ++ (value ++ end)
made_parts key1 name key2 value end = simp append_assoc

layer_parts : (key1 count1 key2 items key3 count3 key4 count4 key5 name key6 count6 end : List ℕ)
    → key1 ++ (count1 ++ (key2 ++ (items ++ (key3 ++ (count3 ++ (key4 ++ (count4 ++ (key5 ++ (name ++ (key6 ++ (count6 ++ end)))))))))))
    ≡ ((key1 ++ count1) ++ key2) ++ (items ++ ((key3 ++ count3) ++ ((key4 ++ count4) ++ ((key5 ++ name) ++ ((key6 ++ count6) ++ end)))))
layer_parts key1 count1 key2 items key3 count3 key4 count4 key5 name key6 count6 end = simp append_assoc

pub placed_text : (item : Item) (span : Span) → compact_text (placed_json item span)
    ≡ placed_head item.field span ++ (compact_text (value_json item.field item.value) ++ codes "}")
unfolding placed_json string_text escape_byte placed_head
placed_text item span =
    ap (λ (name : List ℕ). codes "{\"buf\":" ++ (decimal span.buffer ++ (codes ",\"name\":" ++ (name ++ (codes ",\"pos\":" ++ (decimal span.start ++ (codes ",\"size\":" ++ (decimal span.len ++ (codes ",\"value\":" ++ (compact_text (value_json item.field item.value) ++ codes "}")))))))))) (name_string item.field)
    ∙ placed_parts (codes "{\"buf\":") (decimal span.buffer) (codes ",\"name\":\"") ((row_of item.field).name ++ codes "\"") (codes ",\"pos\":") (decimal span.start)
    (codes ",\"size\":") (decimal span.len) (codes ",\"value\":") (compact_text (value_json item.field item.value)) (codes "}")

pub made_text : (item : Item) → compact_text (made_json item) ≡ made_head item.field ++ (compact_text (value_json item.field item.value) ++ codes "}")
unfolding made_json string_text escape_byte made_head
made_text item =
    ap (λ (name : List ℕ). codes "{\"name\":" ++ (name ++ (codes ",\"value\":" ++ (compact_text (value_json item.field item.value) ++ codes "}")))) (name_string item.field)
    ∙ made_parts (codes "{\"name\":\"") ((row_of item.field).name ++ codes "\"") (codes ",\"value\":") (compact_text (value_json item.field item.value)) (codes "}")

pub layer_text : (layer : Layer) → compact_text (layer_json layer)
    ≡ layer_head layer.span.buffer ++ (items_text false (items_of (map item_json layer.items)) ++ layer_tail layer.nth layer.span layer.proto)
unfolding layer_json string_text escape_byte layer_head layer_tail
layer_text layer =
    ap (λ (name : List ℕ). codes "{\"buf\":" ++ (decimal layer.span.buffer ++ (codes ",\"items\":[" ++ (items_text false (items_of (map item_json layer.items)) ++ (codes ",\"nth\":" ++ (decimal layer.nth ++ (codes ",\"pos\":" ++ (decimal layer.span.start ++ (codes ",\"proto\":" ++ (name ++ (codes ",\"size\":" ++ (decimal layer.span.len ++ codes "}")))))))))))) (name_string layer.proto)
    ∙ layer_parts (codes "{\"buf\":") (decimal layer.span.buffer) (codes ",\"items\":[") (items_text false (items_of (map item_json layer.items))) (codes ",\"nth\":") (decimal layer.nth)
    (codes ",\"pos\":") (decimal layer.span.start) (codes ",\"proto\":\"") ((row_of layer.proto).name ++ codes "\"") (codes ",\"size\":") (decimal layer.span.len) (codes "}")

-- the line of a tree
closed : (front one middle other : List ℕ) → (front ++ (one ++ (middle ++ (other ++ codes "}")))) ++ 10 ∷ [] ≡ front ++ (one ++ (middle ++ (other ++ codes "}\n")))
closed front one middle other =
    append_assoc front _ _
    ∙ ap (λ (s : List ℕ). front ++ s) (append_assoc one _ _
    ∙ ap (λ (s : List ℕ). one ++ s) (append_assoc middle _ _
    ∙ ap (λ (s : List ℕ). middle ++ s) (append_assoc other (codes "}") (10 ∷ []))))

pub line_text : (t : TreeShown) → json_line_of t
    ≡ codes "{\"buffers\":[" ++ (items_text false (items_of (map buffer_json t.buffers))
    ++ (codes ",\"layers\":[" ++ (items_text false (items_of (map layer_json t.layers)) ++ codes "}\n")))
unfolding json_line_of tree_json escape_byte
line_text t =
    closed (codes "{\"buffers\":[") (items_text false (items_of (map buffer_json t.buffers))) (codes ",\"layers\":[") (items_text false (items_of (map layer_json t.layers)))

-- a list of buffers: the first, the others, and the bracket
pub first_buffer : (buffers : List (List ℕ)) → 0 < length buffers → items_text false (items_of (map buffer_json buffers))
    ≡ compact_text (buffer_json (get_or buffers 0 [])) ++ items_text true (items_of (map buffer_json (drop 1 buffers)))
first_buffer [] some = absurd (omega arith)
first_buffer (buffer ∷ buffers) some = refl

pub further_buffer : (buffers : List (List ℕ)) (number : ℕ) → number < length buffers → items_text true (items_of (map buffer_json (drop number buffers)))
    ≡ 44 ∷ (compact_text (buffer_json (get_or buffers number [])) ++ items_text true (items_of (map buffer_json (drop (number + 1) buffers))))
further_buffer buffers number inside =
    ap (λ (rest : List (List ℕ)). items_text true (items_of (map buffer_json rest))) (drop_more buffers number [] inside)

pub last_buffer : (buffers : List (List ℕ)) → items_text true (items_of (map buffer_json (drop (length buffers) buffers))) ≡ codes "]"
last_buffer [] = refl
last_buffer (buffer ∷ buffers) = last_buffer buffers

-- what was appended part by part
pub line_parts : {l1 l2 l3 l4 : List ℕ} {one two : List (List ℕ)} {three four : List Layer} (old front middle end : List ℕ)
    → l1 ≡ old ++ front → one ≡ two → l2 ≡ l1 ++ items_text false (items_of (map buffer_json one)) → l3 ≡ l2 ++ middle
    → three ≡ four → l4 ≡ l3 ++ items_text false (items_of (map layer_json three))
    → l4 ++ end ≡ old ++ (front ++ (items_text false (items_of (map buffer_json two)) ++ (middle ++ (items_text false (items_of (map layer_json four)) ++ end))))
line_parts old front middle end e1 same e2 e3 alike e4 = rw (e4, e3, e2, e1, same, alike) (simp append_assoc)
