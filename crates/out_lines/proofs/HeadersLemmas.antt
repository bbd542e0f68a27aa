-- What a line that sums up a frame takes from headers is what it takes from the tree that they make.
use Rattle.std.proofs.Common.{◌≡◌, ◌<◌, ◌≤◌, ℕ, Bool, true, false, cond, not, ◌+◌, suc, List, [], ◌∷◌, ◌++◌, length, map, reverse, drop, drop-cons, add-one, get_or, slice_get, Option, Some, None, refl, sym, ap, ◌∙◌, append-nil, arith}
use Rattle.std.specs.List.{find, position_or_len}
use Rattle.std.specs.Option.{is_some, option_map, option_or, unwrap_or}
use Rattle.std.proofs.lemmas.List.{drop_all, length-map, map-append, reverse-append}
use Rattle.std.proofs.lemmas.Option.{get_or_from_slice_get, slice_get-get_or, slice_get-map, slice_get_past}
use Rattle.pk_fields.specs.Fields.{row_of}
use Rattle.pk_source.specs.Found.{first_in}
use Rattle.pk_source.specs.Outlines.{protocols, protocols_of}
use Rattle.pk_source.specs.declared.header.Header.{Header}
use Rattle.pk_tree.specs.Trees.{TreeShown}
use Rattle.pk_tree.specs.declared.layer.Layer.{Layer}
use Rattle.out_lines.specs.Joined.{IsTextPut}
use Rattle.out_lines.specs.Summary.{first_ip, ip_address, is_ip_proto, is_told_proto, last_name, last_told, or_dash, protocol_of, version_field}
use Rattle.out_lines.specs.ValueText.{shown_value}

skip : {A : Type 0} (x : A) (xs : List A) (n : ℕ) → slice_get (x ∷ xs) (1 + n) ≡ slice_get xs n
skip x xs n = let next : 1 + n ≡ suc n = omega arith in rw next refl

-- the first whose protocol passes a test, by the protocols alone
module _ {A : Type 0} (proto : A → ℕ) (test : ℕ → Bool) where
  find_by : (xs : List A) → option_map proto (find (λ (x : A). test (proto x)) xs) ≡ find test (map proto xs)
  find_by [] = refl
  find_by (x ∷ xs) = by_test (test (proto x)) (find_by xs)
    where
      by_test : (is : Bool) → option_map proto (find (λ (y : A). test (proto y)) xs) ≡ find test (map proto xs) → option_map proto (cond is (Some x) (find (λ (y : A). test (proto y)) xs)) ≡ cond is (Some (proto x)) (find test (map proto xs))
      by_test true rest = refl
      by_test false rest = rest

  find_at : (xs : List A) → find (λ (x : A). test (proto x)) xs ≡ slice_get xs (position_or_len test (map proto xs))
  find_at [] = refl
  find_at (x ∷ xs) = by_test (test (proto x)) (find_at xs)
    where
      by_test : (is : Bool) → find (λ (y : A). test (proto y)) xs ≡ slice_get xs (position_or_len test (map proto xs)) → cond is (Some x) (find (λ (y : A). test (proto y)) xs) ≡ slice_get (x ∷ xs) (cond (not is) (1 + position_or_len test (map proto xs)) 0)
      by_test true rest = refl
      by_test false rest = rest ∙ sym (skip x xs (position_or_len test (map proto xs)))

  map-reverse : (xs : List A) → map proto (reverse xs) ≡ reverse (map proto xs)
  map-reverse [] = refl
  map-reverse (x ∷ xs) =
      ap (map proto) (reverse-append (x ∷ []) xs)
      ∙ map-append proto (reverse xs) (x ∷ [])
      ∙ ap (λ (protos : List ℕ). protos ++ proto x ∷ []) (map-reverse xs)
      ∙ sym (reverse-append (proto x ∷ []) (map proto xs))

  pub last_by : (xs : List A) → option_map proto (find (λ (x : A). test (proto x)) (reverse xs)) ≡ find test (reverse (map proto xs))
  last_by xs = find_by (reverse xs) ∙ ap (find test) (map-reverse xs)

-- the name of the last protocol
named : (layer : Option Layer) → option_map (λ (l : Layer). (row_of l.proto).name) layer ≡ option_map (λ proto. (row_of proto).name) (option_map (λ (l : Layer). l.proto) layer)
named None = refl
named (Some layer) = refl

pub protocol_is : (t : TreeShown) (protos : List ℕ) → protos ≡ protocols t.layers → last_name protos ≡ protocol_of t
unfolding protocol_of
protocol_is t protos same =
    ap last_name same
    ∙ ap (λ (proto : Option ℕ). or_dash (option_map (λ p. (row_of p).name) proto)) (sym (last_by (λ (l : Layer). l.proto) is_told_proto t.layers))
    ∙ ap or_dash (sym (named (last_told t.layers)))

pub some_named : (headers : List Header) (h : Header) → Some h ≡ find (λ (other : Header). is_told_proto other.proto) (reverse headers) → (row_of h.proto).name ≡ last_name (protocols_of headers)
some_named headers h is =
    ap (λ (proto : Option ℕ). or_dash (option_map (λ p. (row_of p).name) proto)) (ap (option_map (λ (other : Header). other.proto)) is ∙ last_by (λ (other : Header). other.proto) is_told_proto headers)

pub none_named : (headers : List Header) → None ≡ find (λ (other : Header). is_told_proto other.proto) (reverse headers) → or_dash None ≡ last_name (protocols_of headers)
none_named headers is =
    ap (λ (proto : Option ℕ). or_dash (option_map (λ p. (row_of p).name) proto)) (ap (option_map (λ (other : Header). other.proto)) is ∙ last_by (λ (other : Header). other.proto) is_told_proto headers)

-- the address in the first IP header
pub ip_at : (t : TreeShown) (protos : List ℕ) → protos ≡ protocols t.layers → first_ip t ≡ slice_get t.layers (position_or_len is_ip_proto protos)
ip_at t protos same = find_at (λ (l : Layer). l.proto) is_ip_proto t.layers ∙ ap (λ (ps : List ℕ). slice_get t.layers (position_or_len is_ip_proto ps)) (sym same)

pub address_is : (four six place : ℕ) (t : TreeShown) (protos : List ℕ) → protos ≡ protocols t.layers → place ≡ position_or_len is_ip_proto protos →
    option_map (shown_value (version_field four six (get_or protos place 0))) (first_in (version_field four six (get_or protos place 0)) (slice_get t.layers place)) ≡ ip_address four six (first_ip t)
address_is four six place t protos same here =
    by_layer (slice_get t.layers place) refl ∙ ap (ip_address four six) (ap (slice_get t.layers) here ∙ sym (ip_at t protos same))
  where
    by_layer : (layer : Option Layer) → slice_get t.layers place ≡ layer →
        option_map (shown_value (version_field four six (get_or protos place 0))) (first_in (version_field four six (get_or protos place 0)) layer) ≡ ip_address four six layer
    by_layer None at = refl
    by_layer (Some layer) at =
        let proto : get_or protos place 0 ≡ layer.proto = get_or_from_slice_get protos place layer.proto 0 (ap (λ (ps : List ℕ). slice_get ps place) same ∙ slice_get-map (λ (l : Layer). l.proto) t.layers place ∙ ap (option_map (λ (l : Layer). l.proto)) at) in
        rw proto refl

pub no_address : (four six place : ℕ) (t : TreeShown) (protos : List ℕ) → protos ≡ protocols t.layers → place ≡ position_or_len is_ip_proto protos → length protos ≤ place →
    ip_address four six (first_ip t) ≡ None
no_address four six place t protos same here past =
    ap (ip_address four six) (ip_at t protos same ∙ ap (slice_get t.layers) (sym here) ∙ slice_get_past t.layers place (rw (same, length-map) at past))

proto_at : (headers : List Header) (place : ℕ) (d : Header) → place < length headers → get_or (protocols_of headers) place 0 ≡ (get_or headers place d).proto
proto_at headers place d inside =
    get_or_from_slice_get (protocols_of headers) place (get_or headers place d).proto 0
    (slice_get-map (λ (h : Header). h.proto) headers place ∙ ap (option_map (λ (h : Header). h.proto)) (slice_get-get_or headers place d inside))

pub address_at : (four six place field : ℕ) (t : TreeShown) (headers : List Header) (d : Header) → protocols_of headers ≡ protocols t.layers → place ≡ position_or_len is_ip_proto (protocols_of headers) →
    place < length headers → field ≡ version_field four six (get_or headers place d).proto → option_map (shown_value field) (first_in field (slice_get t.layers place)) ≡ ip_address four six (first_ip t)
address_at four six place field t headers d same here inside is =
    ap (λ (f : ℕ). option_map (shown_value f) (first_in f (slice_get t.layers place))) (is ∙ ap (version_field four six) (sym (proto_at headers place d inside)))
    ∙ address_is four six place t (protocols_of headers) same here

pub nothing_put : (four six place : ℕ) (t : TreeShown) (headers : List Header) (line : List ℕ) → protocols_of headers ≡ protocols t.layers → place ≡ position_or_len is_ip_proto (protocols_of headers) →
    length headers ≤ place → IsTextPut (ip_address four six (first_ip t)) false line line
nothing_put four six place t headers line same here past =
    rw (no_address four six place t (protocols_of headers) same here (rw length-map past)) (record { told = refl; line = sym (append-nil line) })

-- the place of the first one, as far as a walk has come
pub ip_here : (headers : List Header) (i : ℕ) (h : Header) → i < length headers → h ≡ get_or headers i h → is_ip_proto h.proto ≡ true → position_or_len is_ip_proto (protocols_of (drop i headers)) ≡ 0
ip_here headers i h inside at is = rw (drop-cons headers i h inside, ← at, is) refl

pub ip_behind : (headers : List Header) (i : ℕ) (h : Header) → i < length headers → h ≡ get_or headers i h → is_ip_proto h.proto ≡ false →
    position_or_len is_ip_proto (protocols_of (drop i headers)) ≡ 1 + position_or_len is_ip_proto (protocols_of (drop (i + 1) headers))
ip_behind headers i h inside at is = rw (add-one i, drop-cons headers i h inside, ← at, is) refl

pub no_ip : (headers : List Header) (i : ℕ) → length headers ≤ i → position_or_len is_ip_proto (protocols_of (drop i headers)) ≡ 0
no_ip headers i past = rw (drop_all i headers past) refl

-- it, or else another
pub address_put : (first other : Option (List ℕ)) → true ≡ is_some first → unwrap_or first [] ≡ or_dash (option_or first other)
address_put None other there = absurd (cc)
address_put (Some text) other there = refl

pub other_put : (line : List ℕ) (first other : Option (List ℕ)) → false ≡ is_some first → (line ++ unwrap_or first []) ++ or_dash other ≡ line ++ or_dash (option_or first other)
other_put line None other none = rw (append-nil line) refl
other_put line (Some text) other none = absurd (cc)
