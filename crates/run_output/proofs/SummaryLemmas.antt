-- The line that sums up a frame is the same over a tree with the same values of its fields, and with the layers of a tree that has only
-- the items of these.
use Rattle.std.proofs.Common.{◌≡◌, ◌==◌, ℕ, Bool, true, false, List, [], ◌∷◌, ◌++◌, map, Option, Some, None, refl, sym, ap, ◌∙◌}
use Rattle.std.specs.Prelude.{reverse}
use Rattle.std.specs.List.{AllByRecursion as Each, find}
use Rattle.std.specs.Option.{option_map, option_or}
use Rattle.std.proofs.lemmas.List.{append-nil, map-append, reverse-append}
use Rattle.pk_fields.specs.Fields.{row_of}
use Rattle.pk_fields.specs.Table.{rows}
use Rattle.pk_fields.specs.FieldSets.{is_in}
use Rattle.pk_fields.specs.Ids.{FRAME_NUMBER, FRAME_TIME_RELATIVE, FRAME_LEN, ETH_SRC, ETH_DST, IP, IP_SRC, IP_DST, IPV6_SRC, IPV6_DST}
use Rattle.pk_base.specs.declared.chosen.Layers.TheVariants.{All as AllLayers}
use Rattle.pk_tree.specs.declared.layer.Layer.{Layer}
use Rattle.pk_tree.specs.FieldValues.{chosen_values, item_values, layer_values, values_of}
use Rattle.pk_tree.specs.Trees.{TreeShown, kept_layer}
use Rattle.pk_tree.specs.Values.{is_proto}
use Rattle.pk_tree.proofs.KeptValues.{values_same}
use Rattle.dissect.specs.Followed.{HasSameValues}
use Rattle.out_lines.specs.Summary.{first_in_tree, first_ip, first_shown, is_ip, ip_address, address_in, last_told, is_told, or_dash, protocol_of, summary_of}
use Rattle.run_frames.specs.Wanted.{summary_fields}

abbrev Has : List ℕ → ℕ → Type 0
Has wanted field = is_in wanted field ≡ true

-- the first layer of a kind that no item tells
find_kept : (wanted : List ℕ) (is : Layer → Bool) → ((layer : Layer) → is (kept_layer wanted layer) ≡ is layer) → (layers : List Layer)
    → find is (map (kept_layer wanted) layers) ≡ option_map (kept_layer wanted) (find is layers)
find_kept wanted is same [] = refl
find_kept wanted is same (layer ∷ layers) = by_test (find_kept wanted is same layers) (is layer) refl
  where
    by_test : find is (map (kept_layer wanted) layers) ≡ option_map (kept_layer wanted) (find is layers) → (test : Bool) → is layer ≡ test
        → find is (map (kept_layer wanted) (layer ∷ layers)) ≡ option_map (kept_layer wanted) (find is (layer ∷ layers))
    by_test rest true so = rw (same layer, so) refl
    by_test rest false so = rw (same layer, so) rest

reverse_kept : (wanted : List ℕ) (layers : List Layer) → reverse (map (kept_layer wanted) layers) ≡ map (kept_layer wanted) (reverse layers)
reverse_kept wanted [] = refl
reverse_kept wanted (layer ∷ layers) =
    rw (reverse-append (kept_layer wanted layer ∷ []) (map (kept_layer wanted) layers), reverse-append (layer ∷ []) layers, map-append (kept_layer wanted) (reverse layers) (layer ∷ []), reverse_kept wanted layers) refl

first_alike : (wanted : List ℕ) (t u : TreeShown) (field : ℕ) → HasSameValues wanted t u → Has wanted field → first_in_tree u field ≡ first_in_tree t field
unfolding first_in_tree
first_alike wanted t u field same has = ap (first_shown field) (same field AllLayers has)

-- an address of an IP header
header_kept : (wanted : List ℕ) (buffers : List (List ℕ)) (layer : Layer) (field : ℕ) → Has wanted field
    → chosen_values buffers field AllLayers (kept_layer wanted layer) ++ [] ≡ chosen_values buffers field AllLayers layer ++ []
unfolding values_of
header_kept wanted buffers layer field has =
    values_same wanted (record { layers = layer ∷ []; buffers = buffers; wanted = wanted }) field AllLayers has

address_kept : (wanted : List ℕ) (layer : Layer) (four six : ℕ) → ((l : Layer) → item_values four (kept_layer wanted l).items ≡ item_values four l.items)
    → ((l : Layer) → item_values six (kept_layer wanted l).items ≡ item_values six l.items)
    → ip_address four six (Some (kept_layer wanted layer)) ≡ ip_address four six (Some layer)
address_kept wanted layer four six fours sixes = by_test (layer.proto == IP) refl
  where
    by_test : (test : Bool) → (layer.proto == IP) ≡ test → ip_address four six (Some (kept_layer wanted layer)) ≡ ip_address four six (Some layer)
    by_test true so = rw so (ap (first_shown four) (fours layer))
    by_test false so = rw so (ap (first_shown six) (sixes layer))

-- layers of which the items of some fields are kept
abbrev KeepsLayers : List ℕ → TreeShown → TreeShown → Type 0
KeepsLayers wanted t u = u.layers ≡ map (kept_layer wanted) t.layers

first_ip_kept : (wanted : List ℕ) (t u : TreeShown) → KeepsLayers wanted t u → first_ip u ≡ option_map (kept_layer wanted) (first_ip t)
first_ip_kept wanted t u layers = ap (find is_ip) layers ∙ find_kept wanted is_ip (λ layer. refl) t.layers

told_kept : (wanted : List ℕ) (t u : TreeShown) → KeepsLayers wanted t u → last_told u.layers ≡ option_map (kept_layer wanted) (last_told t.layers)
told_kept wanted t u layers =
    ap (λ (ls : List Layer). last_told ls) layers ∙ ap (find is_told) (reverse_kept wanted t.layers) ∙ find_kept wanted is_told (λ layer. refl) (reverse t.layers)

abbrev name_of : Option Layer → List ℕ
name_of told = or_dash (option_map (λ (layer : Layer). (row_of layer.proto).name) told)

name_kept : (wanted : List ℕ) (told : Option Layer) → name_of (option_map (kept_layer wanted) told) ≡ name_of told
name_kept wanted None = refl
name_kept wanted (Some layer) = refl

protocol_kept : (wanted : List ℕ) (t u : TreeShown) → KeepsLayers wanted t u → protocol_of u ≡ protocol_of t
unfolding protocol_of
protocol_kept wanted t u layers = ap name_of (told_kept wanted t u layers) ∙ name_kept wanted (last_told t.layers)

-- the items of a field that is no protocol
items_in : (layer : Layer) (field : ℕ) → is_proto (row_of field).kind ≡ false → item_values field layer.items ≡ chosen_values [] field AllLayers layer ++ []
unfolding layer_values
items_in layer field is = rw is (sym (append-nil (item_values field layer.items)))

items_kept : (wanted : List ℕ) (layer : Layer) (field : ℕ) → is_proto (row_of field).kind ≡ false → Has wanted field
    → item_values field (kept_layer wanted layer).items ≡ item_values field layer.items
items_kept wanted layer field is has =
    items_in (kept_layer wanted layer) field is ∙ header_kept wanted [] layer field has ∙ sym (items_in layer field is)

is_read : is_proto (row_of IP_SRC).kind ≡ false
unfolding row_of rows
is_read = refl

target_is_read : is_proto (row_of IP_DST).kind ≡ false
unfolding row_of rows
target_is_read = refl

six_is_read : is_proto (row_of IPV6_SRC).kind ≡ false
unfolding row_of rows
six_is_read = refl

six_target_is_read : is_proto (row_of IPV6_DST).kind ≡ false
unfolding row_of rows
six_target_is_read = refl

-- an address of the first IP header, or of the link
ip_kept : (wanted : List ℕ) (four six : ℕ) (header : Option Layer) → ((l : Layer) → item_values four (kept_layer wanted l).items ≡ item_values four l.items)
    → ((l : Layer) → item_values six (kept_layer wanted l).items ≡ item_values six l.items)
    → ip_address four six (option_map (kept_layer wanted) header) ≡ ip_address four six header
ip_kept wanted four six None fours sixes = refl
ip_kept wanted four six (Some layer) fours sixes = address_kept wanted layer four six fours sixes

either_kept : (wanted : List ℕ) (t u : TreeShown) (four six link : ℕ) → HasSameValues wanted t u → KeepsLayers wanted t u
    → ((l : Layer) → item_values four (kept_layer wanted l).items ≡ item_values four l.items)
    → ((l : Layer) → item_values six (kept_layer wanted l).items ≡ item_values six l.items) → Has wanted link
    → address_in u four six link ≡ address_in t four six link
unfolding address_in
either_kept wanted t u four six link same layers fours sixes has =
    ap (λ (header : Option Layer). or_dash (option_or (ip_address four six header) (first_in_tree u link))) (first_ip_kept wanted t u layers)
    ∙ ap (λ (address : Option (List ℕ)). or_dash (option_or address (first_in_tree u link))) (ip_kept wanted four six (first_ip t) fours sixes)
    ∙ ap (λ (address : Option (List ℕ)). or_dash (option_or (ip_address four six (first_ip t)) address)) (first_alike wanted t u link same has)

pub summary_alike : (wanted : List ℕ) (t u : TreeShown) → HasSameValues wanted t u → u.layers ≡ map (kept_layer wanted) t.layers → Each (Has wanted) summary_fields
    → summary_of u ≡ summary_of t
unfolding summary_of
summary_alike wanted t u same layers (number, (time, (len, (eth_src, (eth_dst, (ip_src, (ip_dst, (six_src, (six_dst, none))))))))) =
    rw (
      first_alike wanted t u FRAME_NUMBER same number,
      first_alike wanted t u FRAME_TIME_RELATIVE same time,
      first_alike wanted t u FRAME_LEN same len,
      either_kept wanted t u IP_SRC IPV6_SRC ETH_SRC same layers (λ l. items_kept wanted l IP_SRC is_read ip_src) (λ l. items_kept wanted l IPV6_SRC six_is_read six_src) eth_src,
      either_kept wanted t u IP_DST IPV6_DST ETH_DST same layers (λ l. items_kept wanted l IP_DST target_is_read ip_dst) (λ l. items_kept wanted l IPV6_DST six_target_is_read six_dst) eth_dst,
      protocol_kept wanted t u layers,
    ) refl
