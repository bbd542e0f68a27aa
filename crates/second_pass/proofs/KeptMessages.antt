-- Trees that keep what messages of HTTP are read from show the same ones.
use Rattle.std.proofs.Common.{◌≡◌, ◌==◌, ◌||◌, ◌+◌, ℕ, Bool, true, false, not, cond, nat_lt, List, [], ◌∷◌, ◌++◌, map, take, reverse, position, Option, Some, None, option_map, option_and_then, is_some, unwrap_or, refl, sym, ap, ◌∙◌}
use mathlib.Core.List.{reverse-cons}
use Rattle.std.proofs.lemmas.List.{length-map, map-append, take-map}
use Rattle.std.proofs.lemmas.Option.{slice_get-map}
use Rattle.std.specs.List.{AllByRecursion as Each, find, prefix_len, slice_get}
use Rattle.pk_fields.specs.FieldSets.{is_in}
use Rattle.pk_fields.specs.Ids.{HTTP, HTTP_REQUEST, HTTP_REQUEST_IN, HTTP_RESPONSE, HTTP_RESPONSE_CODE, IP, IP_SRC, IPV6_SRC, TCP_SRCPORT, TCP_STREAM}
use Rattle.pk_tree.specs.declared.layer.Layer.{Layer}
use Rattle.pk_tree.specs.Trees.{kept_layer}
use Rattle.second_pass.specs.declared.messages.Direction.{Direction}
use Rattle.second_pass.specs.declared.messages.Kind.TheVariants.{Request, Response}
use Rattle.second_pass.specs.declared.messages.Message.{Message}
use Rattle.second_pass.specs.Laws.{kept_noted, link_fields}
use Rattle.second_pass.specs.Messages.{address_in, direction_at, direction_in, direction_of, frame_on, has_stream, in_100s, is_ip, kind_of, layers_on, message_of, messages, with_message}
use Rattle.second_pass.specs.Named.{Noted}
use Rattle.second_pass.proofs.KeptLayers.{number_same, truth_same, address4_same, address6_same}

-- lists of layers that are changed one by one, where a test doesn't see it
length_before : {X : Type 0} (f : X → X) (test : X → Bool) → ((x : X) → test (f x) ≡ test x) → (xs : List X) → prefix_len test (map f xs) ≡ prefix_len test xs
length_before f test same [] = refl
length_before f test same (x ∷ xs) = λ i. cond (same x i) (1 + length_before f test same xs i) 0

place_same : {X : Type 0} (f : X → X) (test : X → Bool) → ((x : X) → test (f x) ≡ test x) → (xs : List X) → position test (map f xs) ≡ position test xs
place_same f test same xs =
    let before = length_before f (λ x. not (test x)) (λ x. ap not (same x)) xs in
    λ i. cond (nat_lt (before i) (length-map xs f i)) (Some (before i)) None

found_same : {X : Type 0} (f : X → X) (test : X → Bool) → ((x : X) → test (f x) ≡ test x) → (xs : List X) → find test (map f xs) ≡ option_map f (find test xs)
found_same f test same [] = refl
found_same f test same (x ∷ xs) = (λ i. cond (same x i) (Some (f x)) (found_same f test same xs i)) ∙ by (test x)
  where
    by : (b : Bool) → cond b (Some (f x)) (option_map f (find test xs)) ≡ option_map f (cond b (Some x) (find test xs))
    by true = refl
    by false = refl

reverse_same : {X : Type 0} (f : X → X) (xs : List X) → reverse (map f xs) ≡ map f (reverse xs)
reverse_same f [] = refl
reverse_same {X} f (x ∷ xs) =
    reverse-cons (f x) (map f xs)
    ∙ ap (λ (ys : List X). ys ++ f x ∷ []) (reverse_same f xs)
    ∙ sym (map-append f (reverse xs) (x ∷ []))
    ∙ ap (λ (ys : List X). map f ys) (sym (reverse-cons x xs))

module _ (wanted : List ℕ) where
  abbrev HasFields : Type 0
  HasFields = Each (λ field. is_in wanted field ≡ true) link_fields

  pub kind_same : HasFields → (layer : Layer) → kind_of (kept_layer wanted layer) ≡ kind_of layer
  kind_same are layer =
      let http = are.1.1.1.1.1.1.1.1.1.1 in
      λ i. cond (not (layer.proto == HTTP)) None
      (cond (unwrap_or (truth_same wanted HTTP_REQUEST http.0 layer i) false) (Some Request)
      (cond (not (unwrap_or (truth_same wanted HTTP_RESPONSE http.1.0 layer i) false) || in_100s (number_same wanted HTTP_RESPONSE_CODE http.1.1.0 layer i)) None
      (Some (Response (number_same wanted HTTP_REQUEST_IN http.1.1.1.0 layer i)))))

  message_same : HasFields → (frame : ℕ) (at : Direction) (layer : Layer) → message_of frame at (kept_layer wanted layer) ≡ message_of frame at layer
  message_same are frame at layer = λ i.
      option_and_then (λ kind. Some (record { frame = frame; nth = layer.nth; at = at; kind = kind })) (kind_same are layer i)

  address_same : HasFields → (header : Layer) → address_in (kept_layer wanted header) ≡ address_in header
  address_same are header =
      let ends = are.1.1.1.1.1.1.1.1.1.1.1.1.1.1.1 in
      λ i. cond (header.proto == IP) (option_map (λ address. (4, address)) (address4_same wanted IP_SRC ends.1.1.0 header i))
      (option_map (λ address. (6, address)) (address6_same wanted IPV6_SRC ends.1.1.1.0 header i))

  -- a direction, by what was read for it
  abbrev told : Option ℕ → Option (ℕ × ℕ) → Option ℕ → Option Direction
  told stream source port =
      option_and_then (λ n. option_and_then (λ s. option_and_then (λ p.
      Some (record { stream = n; version = s.0; address = s.1; port = p })) port) source) stream

  of_same : HasFields → (header layer : Layer) → direction_of (kept_layer wanted header) (kept_layer wanted layer) ≡ direction_of header layer
  of_same are header layer =
      let ends = are.1.1.1.1.1.1.1.1.1.1.1.1.1.1.1 in
      λ i. told (number_same wanted TCP_STREAM ends.0 layer i) (address_same are header i) (number_same wanted TCP_SRCPORT ends.1.0 layer i)

  headers_same : (layers : List Layer) (at : ℕ) → find is_ip (reverse (take at (map (kept_layer wanted) layers))) ≡ option_map (kept_layer wanted) (find is_ip (reverse (take at layers)))
  headers_same layers at =
      ap (λ (ls : List Layer). find is_ip (reverse ls)) (take-map (kept_layer wanted) at layers)
      ∙ ap (λ (ls : List Layer). find is_ip ls) (reverse_same (kept_layer wanted) (take at layers))
      ∙ found_same (kept_layer wanted) is_ip (λ layer. refl) (reverse (take at layers))

  at_same : HasFields → (layers : List Layer) (at : ℕ) → direction_at (map (kept_layer wanted) layers) at ≡ direction_at layers at
  at_same are layers at =
      (λ i. option_and_then (λ layer. option_and_then (λ header. direction_of header layer) (headers_same layers at i)) (slice_get-map (kept_layer wanted) layers at i))
      ∙ by (slice_get layers at) (find is_ip (reverse (take at layers)))
    where
      by : (layer header : Option Layer)
          → option_and_then (λ l. option_and_then (λ h. direction_of h l) (option_map (kept_layer wanted) header)) (option_map (kept_layer wanted) layer)
          ≡ option_and_then (λ l. option_and_then (λ h. direction_of h l) header) layer
      by None header = refl
      by (Some layer) None = refl
      by (Some layer) (Some header) = of_same are header layer

  direction_same : HasFields → (layers : List Layer) → direction_in (map (kept_layer wanted) layers) ≡ direction_in layers
  unfolding direction_in
  direction_same are layers =
      ap (λ (place : Option ℕ). option_and_then (λ at. direction_at (map (kept_layer wanted) layers) at) place)
      (place_same (kept_layer wanted) has_stream (λ layer. ap (λ (n : Option ℕ). is_some n) (number_same wanted TCP_STREAM are.1.1.1.1.1.1.1.1.1.1.1.1.1.1.1.0 layer)) layers)
      ∙ by (position has_stream layers)
    where
      by : (place : Option ℕ) → option_and_then (λ at. direction_at (map (kept_layer wanted) layers) at) place ≡ option_and_then (λ at. direction_at layers at) place
      by None = refl
      by (Some at) = at_same are layers at

  layers_same : HasFields → (frame : ℕ) (at : Direction) (layers : List Layer) (ms : List Message) → layers_on frame at (map (kept_layer wanted) layers) ms ≡ layers_on frame at layers ms
  layers_same are frame at [] ms = refl
  layers_same are frame at (layer ∷ layers) ms =
      layers_same are frame at layers (with_message (message_of frame at (kept_layer wanted layer)) ms)
      ∙ ap (λ (m : Option Message). layers_on frame at layers (with_message m ms)) (message_same are frame at layer)

  frame_same : HasFields → (frame : ℕ) (at : Option Direction) (layers : List Layer) (ms : List Message) → frame_on frame at (map (kept_layer wanted) layers) ms ≡ frame_on frame at layers ms
  frame_same are frame None layers ms = refl
  frame_same are frame (Some at) layers ms = layers_same are frame at layers ms

  pub messages_same : HasFields → (past : List Noted) → messages (map (kept_noted wanted) past) ≡ messages past
  messages_same are [] = refl
  messages_same are (noted ∷ past) =
      (λ i. frame_on noted.frame (direction_same are noted.layers i) (map (kept_layer wanted) noted.layers) (messages_same are past i))
      ∙ frame_same are noted.frame (direction_in noted.layers) noted.layers (messages past)
