-- A tree that keeps what the tables read tells them the same as the whole tree.
use Rattle.std.proofs.Common.{◌≡◌, ◌==◌, ◌&&◌, ℕ, Bool, true, false, not, cond, nat_lt, List, [], ◌∷◌, ◌++◌, length, map, take, reverse, position, Option, Some, None, option_map, option_and_then, is_some, unwrap_or, refl, sym, ap, ◌∙◌, ◌+◌}
use mathlib.Core.List.{reverse-cons}
use Rattle.std.proofs.lemmas.Bool.{eqb-true}
use Rattle.std.proofs.lemmas.List.{length-map, map-append, take-map}
use Rattle.std.proofs.lemmas.Option.{slice_get-map}
use Rattle.std.specs.List.{AllByRecursion as Each, find, prefix_len, slice_get}
use Rattle.pk_fields.specs.FieldSets.{is_in}
use Rattle.pk_fields.specs.Ids.{FRAME_LEN, IP, IP_SRC, IP_DST, IPV6_SRC, IPV6_DST, TCP_STREAM, TCP_SRCPORT, TCP_DSTPORT}
use Rattle.pk_base.specs.declared.heads.Address.{Address}
use Rattle.pk_base.specs.declared.heads.Address.TheVariants.{Four, Six}
use Rattle.pk_tree.specs.declared.item.Item.{Item}
use Rattle.pk_tree.specs.declared.layer.Layer.{Layer}
use Rattle.pk_base.specs.declared.value.Value.{Value}
use Rattle.pk_tree.specs.FieldValues.{item_values}
use Rattle.pk_tree.specs.Trees.{TreeShown, kept, kept_layer, kept_tree}
use Rattle.cap_stats.specs.declared.kind.StatKind.TheVariants.{ConvTcp, ConvIp, Phs}
use Rattle.cap_stats.specs.declared.party.Flight.{Flight}
use Rattle.cap_stats.specs.Laws.{KeptTable, fields_of}
use Rattle.cap_stats.specs.Tables.{with_note, segments_of, packets_of, paths_of, table_of, streams_table, pairs_table, paths_table}
use Rattle.cap_stats.specs.Told.{number_of, four_of, six_of, first_value, first_in, number_in, four_in, six_in, address_in, length_of, is_ip, has_stream, party_at, segment_of, segment_at, stream_in, has_addresses, pair_of, host, packet_of, packet_in, protocols_in, paths_to, paths_in}

-- among a layer's items
items_same : (wanted : List ℕ) (field : ℕ) (items : List Item) → is_in wanted field ≡ true → item_values field (kept wanted items) ≡ item_values field items
unfolding kept
items_same wanted field [] is = refl
items_same wanted field (item ∷ items) is = by_test (items_same wanted field items is) (is_in wanted item.field) refl
  where
    grow : List Value → List Value
    grow rest = cond (item.field == field) (item.value ∷ rest) rest

    grows : (rest : List Item) (test : Bool) → (item.field == field) ≡ test → item_values field (item ∷ rest) ≡ grow (item_values field rest)
    grows rest true same = rw same refl
    grows rest false same = rw same refl

    other : item_values field (kept wanted items) ≡ item_values field items → is_in wanted item.field ≡ false → (test : Bool) → (item.field == field) ≡ test → item_values field (kept wanted items) ≡ grow (item_values field items)
    other rest none true same =
        let both : is_in wanted item.field ≡ true = ap (λ f. is_in wanted f) (eqb-true item.field field same) ∙ is in
        absurd (cc)
    other rest none false same = rw same rest

    by_test : item_values field (kept wanted items) ≡ item_values field items → (test : Bool) → is_in wanted item.field ≡ test → item_values field (cond (is_in wanted item.field) (item ∷ kept wanted items) (kept wanted items)) ≡ item_values field (item ∷ items)
    by_test rest true has =
        rw has (grows (kept wanted items) (item.field == field) refl ∙ ap grow rest ∙ sym (grows items (item.field == field) refl))
    by_test rest false none =
        rw none (other rest none (item.field == field) refl ∙ sym (grows items (item.field == field) refl))

-- lists of layers that are changed one by one, where a test doesn't see it
length_before : {X : Type 0} (f : X → X) (test : X → Bool) → ((x : X) → test (f x) ≡ test x) → (xs : List X) → prefix_len test (map f xs) ≡ prefix_len test xs
length_before f test same [] = refl
length_before f test same (x ∷ xs) = λ i. cond (same x i) (1 + length_before f test same xs i) 0

place_same : {X : Type 0} (f : X → X) (test : X → Bool) → ((x : X) → test (f x) ≡ test x) → (xs : List X) → position test (map f xs) ≡ position test xs
place_same f test same xs =
    let before = length_before f (λ x. not (test x)) (λ x. ap not (same x)) xs in
    λ i. cond (nat_lt (before i) (length-map xs f i)) (Some (before i)) None

found_same : {X : Type 0} (f : X → X) (test : X → Bool) → ((x : X) → test (f x) ≡ test x) → (xs : List X) → find test (map f xs) ≡ option_map f (find test xs)
found_same f test same [] = refl
found_same f test same (x ∷ xs) = (λ i. cond (same x i) (Some (f x)) (found_same f test same xs i)) ∙ by (test x)
  where
    by : (b : Bool) → cond b (Some (f x)) (option_map f (find test xs)) ≡ option_map f (cond b (Some x) (find test xs))
    by true = refl
    by false = refl

reverse_same : {X : Type 0} (f : X → X) (xs : List X) → reverse (map f xs) ≡ map f (reverse xs)
reverse_same f [] = refl
reverse_same {X} f (x ∷ xs) =
    reverse-cons (f x) (map f xs)
    ∙ ap (λ (ys : List X). ys ++ f x ∷ []) (reverse_same f xs)
    ∙ sym (map-append f (reverse xs) (x ∷ []))
    ∙ ap (λ (ys : List X). map f ys) (sym (reverse-cons x xs))

module _ (wanted : List ℕ) where
  first_same : (field : ℕ) → is_in wanted field ≡ true → (layer : Layer) → first_in field (kept_layer wanted layer) ≡ first_in field layer
  first_same field is layer = ap first_value (items_same wanted field layer.items is)

  number_same : (field : ℕ) → is_in wanted field ≡ true → (layer : Layer) → number_in field (kept_layer wanted layer) ≡ number_in field layer
  number_same field is layer = ap (λ (v : Option Value). option_and_then number_of v) (first_same field is layer)

  four_same : (field : ℕ) → is_in wanted field ≡ true → (layer : Layer) → four_in field (kept_layer wanted layer) ≡ four_in field layer
  four_same field is layer = ap (λ (v : Option Value). option_and_then four_of v) (first_same field is layer)

  six_same : (field : ℕ) → is_in wanted field ≡ true → (layer : Layer) → six_in field (kept_layer wanted layer) ≡ six_in field layer
  six_same field is layer = ap (λ (v : Option Value). option_and_then six_of v) (first_same field is layer)

  address_same : (four six : ℕ) → is_in wanted four ≡ true → is_in wanted six ≡ true → (layer : Layer) →
      address_in four six (kept_layer wanted layer) ≡ address_in four six layer
  address_same four six is_four is_six layer = λ i.
      cond (layer.proto == IP) (option_map Four (four_same four is_four layer i)) (option_map Six (six_same six is_six layer i))

  length_same : is_in wanted FRAME_LEN ≡ true → (layers : List Layer) → length_of (map (kept_layer wanted) layers) ≡ length_of layers
  unfolding length_of
  length_same is [] = refl
  length_same is (layer ∷ layers) = ap (λ (n : Option ℕ). unwrap_or n 0) (number_same FRAME_LEN is layer)

  -- what is told of a segment, by what was read for it
  abbrev told : Option ℕ → Option Address → Option Address → Option ℕ → Option ℕ → ℕ → Option (ℕ × Flight)
  told stream source target from to bytes =
      option_and_then (λ n. option_and_then (λ s. option_and_then (λ t. option_and_then (λ f. option_and_then (λ p.
      Some (n, record { from = party_at s f; to = party_at t p; bytes = bytes })) to) from) target) source) stream

  segment_same : Each (λ field. is_in wanted field ≡ true) (fields_of ConvTcp) → (layers : List Layer) (header layer : Layer) →
      segment_of (map (kept_layer wanted) layers) (kept_layer wanted header) (kept_layer wanted layer) ≡ segment_of layers header layer
  segment_same are layers header layer = λ i.
      told (number_same TCP_STREAM are.1.0 layer i)
      (address_same IP_SRC IPV6_SRC are.1.1.1.1.0 are.1.1.1.1.1.1.0 header i)
      (address_same IP_DST IPV6_DST are.1.1.1.1.1.0 are.1.1.1.1.1.1.1.0 header i)
      (number_same TCP_SRCPORT are.1.1.0 layer i) (number_same TCP_DSTPORT are.1.1.1.0 layer i) (length_same are.0 layers i)

  headers_same : (layers : List Layer) (at : ℕ) → find is_ip (reverse (take at (map (kept_layer wanted) layers))) ≡ option_map (kept_layer wanted) (find is_ip (reverse (take at layers)))
  headers_same layers at =
      ap (λ (ls : List Layer). find is_ip (reverse ls)) (take-map (kept_layer wanted) at layers)
      ∙ ap (λ (ls : List Layer). find is_ip ls) (reverse_same (kept_layer wanted) (take at layers))
      ∙ found_same (kept_layer wanted) is_ip (λ layer. refl) (reverse (take at layers))

  at_same : Each (λ field. is_in wanted field ≡ true) (fields_of ConvTcp) → (layers : List Layer) (at : ℕ) →
      segment_at (map (kept_layer wanted) layers) at ≡ segment_at layers at
  at_same are layers at =
      (λ i. option_and_then (λ layer. option_and_then (λ header. segment_of (map (kept_layer wanted) layers) header layer) (headers_same layers at i)) (slice_get-map (kept_layer wanted) layers at i))
      ∙ by (slice_get layers at) (find is_ip (reverse (take at layers)))
    where
      by : (layer header : Option Layer)
          → option_and_then (λ l. option_and_then (λ h. segment_of (map (kept_layer wanted) layers) h l) (option_map (kept_layer wanted) header)) (option_map (kept_layer wanted) layer)
          ≡ option_and_then (λ l. option_and_then (λ h. segment_of layers h l) header) layer
      by None header = refl
      by (Some layer) None = refl
      by (Some layer) (Some header) = segment_same are layers header layer

  pub stream_same : Each (λ field. is_in wanted field ≡ true) (fields_of ConvTcp) → (layers : List Layer) → stream_in (map (kept_layer wanted) layers) ≡ stream_in layers
  unfolding stream_in
  stream_same are layers =
      ap (λ (place : Option ℕ). option_and_then (λ at. segment_at (map (kept_layer wanted) layers) at) place)
      (place_same (kept_layer wanted) has_stream (λ layer. ap (λ (n : Option ℕ). is_some n) (number_same TCP_STREAM are.1.0 layer)) layers)
      ∙ by (position has_stream layers)
    where
      by : (place : Option ℕ) → option_and_then (λ at. segment_at (map (kept_layer wanted) layers) at) place ≡ option_and_then (λ at. segment_at layers at) place
      by None = refl
      by (Some at) = at_same are layers at

  abbrev way : Option ℕ → Option ℕ → ℕ → Option ((ℕ × ℕ) × Flight)
  way source target bytes =
      option_and_then (λ s. option_and_then (λ t. Some (pair_of s t, record { from = host s; to = host t; bytes = bytes })) target) source

  pub packet_same : Each (λ field. is_in wanted field ≡ true) (fields_of ConvIp) → (layers : List Layer) → packet_in (map (kept_layer wanted) layers) ≡ packet_in layers
  unfolding packet_in
  packet_same are layers =
      ap (λ (layer : Option Layer). option_and_then (λ l. packet_of (map (kept_layer wanted) layers) l) layer)
      (found_same (kept_layer wanted) has_addresses (λ layer i. layer.proto == IP && (is_some (four_same IP_SRC are.1.0 layer i) && is_some (four_same IP_DST are.1.1.0 layer i))) layers)
      ∙ by (find has_addresses layers)
    where
      by : (layer : Option Layer) → option_and_then (λ l. packet_of (map (kept_layer wanted) layers) l) (option_map (kept_layer wanted) layer) ≡ option_and_then (λ l. packet_of layers l) layer
      by None = refl
      by (Some layer) = λ i. way (four_same IP_SRC are.1.0 layer i) (four_same IP_DST are.1.1.0 layer i) (length_same are.0 layers i)

  protos_same : (layers : List Layer) → map (λ (layer : Layer). layer.proto) (map (kept_layer wanted) layers) ≡ map (λ (layer : Layer). layer.proto) layers
  protos_same [] = refl
  protos_same (layer ∷ layers) = ap (λ (protos : List ℕ). layer.proto ∷ protos) (protos_same layers)

  pub paths_same : Each (λ field. is_in wanted field ≡ true) (fields_of Phs) → (layers : List Layer) → paths_in (map (kept_layer wanted) layers) ≡ paths_in layers
  unfolding paths_in protocols_in
  paths_same are layers =
      let protos = ap (λ (ls : List Layer). map (λ (layer : Layer). layer.proto) ls) (take-map (kept_layer wanted) 32 layers) ∙ protos_same (take 32 layers) in
      λ i. paths_to (length_same are.0 layers i) (protos i) (length (protos i))

  segments_same : Each (λ field. is_in wanted field ≡ true) (fields_of ConvTcp) → (trees : List TreeShown) → segments_of (map (kept_tree wanted) trees) ≡ segments_of trees
  segments_same are [] = refl
  segments_same are (t ∷ trees) = λ i. with_note (stream_same are t.layers i) (segments_same are trees i)

  packets_same : Each (λ field. is_in wanted field ≡ true) (fields_of ConvIp) → (trees : List TreeShown) → packets_of (map (kept_tree wanted) trees) ≡ packets_of trees
  packets_same are [] = refl
  packets_same are (t ∷ trees) = λ i. with_note (packet_same are t.layers i) (packets_same are trees i)

  all_paths_same : Each (λ field. is_in wanted field ≡ true) (fields_of Phs) → (trees : List TreeShown) → paths_of (map (kept_tree wanted) trees) ≡ paths_of trees
  all_paths_same are [] = refl
  all_paths_same are (t ∷ trees) = λ i. paths_same are t.layers i ++ all_paths_same are trees i

pub table_same : KeptTable
unfolding table_of
table_same wanted ConvTcp trees are = ap streams_table (segments_same wanted are trees)
table_same wanted ConvIp trees are = ap pairs_table (packets_same wanted are trees)
table_same wanted Phs trees are = ap paths_table (all_paths_same wanted are trees)
