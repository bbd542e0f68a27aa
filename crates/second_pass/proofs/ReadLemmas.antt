-- What links are read from: values of layers, and the direction of a segment by its headers.
use Rattle.std.proofs.Common.{◌≡◌, ◌≢◌, ◌==◌, ◌||◌, ◌+◌, ◌<◌, ℕ, suc, Bool, true, false, not, cond, nat_lt, List, [], ◌∷◌, ◌++◌, length, take, reverse, position, find, Option, Some, None, is_some, option_and_then, option_map, refl, sym, ap, ◌∙◌, subst, append_assoc, length-append, take_at, inl, inr, arith}
use mathlib.Core.List.{reverse-append, reverse-cons}
use Rattle.std.proofs.lemmas.Bool.{eq-eqb, lt-ltb, ne_eqb}
use Rattle.std.specs.List.{AllByRecursion as Each, prefix_len, slice_get}
use Rattle.pk_fields.specs.Ids.{IP, IP_SRC, IPV6, IPV6_SRC, TCP_STREAM}
use Rattle.pk_tree.specs.declared.layer.Layer.{Layer}
use Rattle.pk_base.specs.declared.value.Value.{Value}
use Rattle.second_pass.specs.declared.messages.Direction.{Direction}
use Rattle.second_pass.specs.Back.{DirectionsRead, IsSentFrom, LayersNoted, ValuesRead}
use Rattle.second_pass.specs.Messages.{address_in, direction_at, direction_in, direction_of, has_stream, is_ip}
use Rattle.second_pass.specs.Named.{address4_in, address4_of, address6_in, address6_of, number_in, number_of, truth_of}
use Rattle.second_pass.proofs.FirstLemmas.{each_same}

pub values_read : ValuesRead
values_read = record {
  number = λ field number layer is. ap (λ (value : Option Value). option_and_then number_of value) is;
  truth = λ field truth layer is. ap (λ (value : Option Value). option_and_then truth_of value) is;
  address4 = λ field address layer is. ap (λ (value : Option Value). option_and_then address4_of value) is;
  address6 = λ field address layer is. ap (λ (value : Option Value). option_and_then address6_of value) is;
}

pub layers_noted : LayersNoted
layers_noted frame t = refl

each_append : {A : Type 0} (P : A → Type 0) (xs ys : List A) → Each P xs → Each P ys → Each P (xs ++ ys)
each_append P [] ys each more = more
each_append P (x ∷ xs) ys each more = (each.0, each_append P xs ys each.1 more)

each_reverse : {A : Type 0} (P : A → Type 0) (xs : List A) → Each P xs → Each P (reverse xs)
each_reverse P [] each = tt
each_reverse {A} P (x ∷ xs) each =
    subst (λ (l : List A). Each P l) (sym (reverse-cons x xs)) (each_append P (reverse xs) (x ∷ []) (each_reverse P xs each.1) (each.0, tt))

found_behind : {A : Type 0} (test : A → Bool) (xs : List A) (x : A) (ys : List A) → Each (λ (y : A). test y ≡ false) xs → test x ≡ true → find test (xs ++ x ∷ ys) ≡ Some x
found_behind test [] x ys none is = ap (λ (b : Bool). cond b (Some x) (find test ys)) is
found_behind test (y ∷ xs) x ys none is =
    ap (λ (b : Bool). cond b (Some y) (find test (xs ++ x ∷ ys))) none.0 ∙ found_behind test xs x ys none.1 is

-- the last that passes
last_found : {A : Type 0} (test : A → Bool) (before : List A) (x : A) (between : List A) → Each (λ (y : A). test y ≡ false) between → test x ≡ true
    → find test (reverse (before ++ x ∷ between)) ≡ Some x
last_found {A} test before x between none is =
    let parts : reverse (before ++ x ∷ between) ≡ reverse between ++ x ∷ reverse before
    = reverse-append before (x ∷ between)
    ∙ ap (λ (l : List A). l ++ reverse before) (reverse-cons x between)
    ∙ append_assoc (reverse between) (x ∷ []) (reverse before) in
    ap (λ (l : List A). find test l) parts
    ∙ found_behind test (reverse between) x (reverse before) (each_reverse (λ (y : A). test y ≡ false) between none) is

length_at : {A : Type 0} (test : A → Bool) (xs : List A) (x : A) (ys : List A) → Each (λ (y : A). test y ≡ true) xs → test x ≡ false → prefix_len test (xs ++ x ∷ ys) ≡ length xs
length_at test [] x ys each is = ap (λ (b : Bool). cond b (1 + prefix_len test ys) 0) is
length_at test (y ∷ xs) x ys each is =
    let more : 1 + length xs ≡ suc (length xs) = omega arith in
    ap (λ (b : Bool). cond b (1 + prefix_len test (xs ++ x ∷ ys)) 0) each.0 ∙ ap (λ (n : ℕ). 1 + n) (length_at test xs x ys each.1 is) ∙ more

get_at : {A : Type 0} (xs : List A) (x : A) (ys : List A) → slice_get (xs ++ x ∷ ys) (length xs) ≡ Some x
get_at [] x ys = refl
get_at (y ∷ xs) x ys = get_at xs x ys

place_at : {A : Type 0} (test : A → Bool) (xs : List A) (x : A) (ys : List A) → Each (λ (y : A). not (test y) ≡ true) xs → not (test x) ≡ false
    → position test (xs ++ x ∷ ys) ≡ Some (length xs)
place_at {A} test xs x ys each is =
    let all : length (xs ++ x ∷ ys) ≡ length xs + suc (length ys) = length-append xs (x ∷ ys) in
    let inside : length xs < length (xs ++ x ∷ ys) = omega (arith, all) in
    ap (λ (n : ℕ). cond (nat_lt n (length (xs ++ x ∷ ys))) (Some n) None) (length_at (λ (y : A). not (test y)) xs x ys each is)
    ∙ ap (λ (b : Bool). cond b (Some (length xs)) None) (lt-ltb (length xs) (length (xs ++ x ∷ ys)) inside)

ip_is : (ip tcp : Layer) (at : Direction) → IsSentFrom ip tcp at → is_ip ip ≡ true
ip_is ip tcp at from = elim (from.source) [
  | inl four ↦ λ i. eq-eqb ip.proto IP four.0 i || ip.proto == IPV6
  | inr six ↦ ap (λ (p : ℕ). p == IP || p == IPV6) six.0
]

address_is : (ip tcp : Layer) (at : Direction) → IsSentFrom ip tcp at → address_in ip ≡ Some (at.version, at.address)
address_is ip tcp at from = elim (from.source) [
  | inl four ↦
      (λ i. cond (eq-eqb ip.proto IP four.0 i) (option_map (λ address. (4, address)) (four.2 i)) (option_map (λ address. (6, address)) (address6_in IPV6_SRC ip)))
      ∙ ap (λ (version : ℕ). Some (version, at.address)) (sym four.1)
  | inr six ↦
      (λ i. cond (six.0 i == IP) (option_map (λ address. (4, address)) (address4_in IP_SRC ip)) (option_map (λ address. (6, address)) (six.2 i)))
      ∙ ap (λ (version : ℕ). Some (version, at.address)) (sym six.1)
]

pub directions_read : DirectionsRead
unfolding direction_in
directions_read layers ip tcp at s from =
    ap (λ (ls : List Layer). option_and_then (λ place. direction_at ls place) (position has_stream ls)) s.all
    ∙ ap (λ (place : Option ℕ). option_and_then (λ n. direction_at (front ++ tcp ∷ s.behind) n) place) (place_at has_stream front tcp s.behind no_stream (ap (λ (n : Option ℕ). not (is_some n)) from.stream))
    ∙ (λ i. option_and_then (λ layer. option_and_then (λ header. direction_of header layer) (header_is i)) (get_at front tcp s.behind i))
    ∙ (λ i. option_and_then (λ stream. option_and_then (λ source. option_and_then (λ port.
    Some (record { stream = stream; version = source.0; address = source.1; port = port })) (from.port i)) (address_is ip tcp at from i)) (from.stream i))
  where
    front : List Layer
    front = s.before ++ ip ∷ s.between

    no_stream : Each (λ (layer : Layer). not (has_stream layer) ≡ true) front
    no_stream = each_same (λ (layer : Layer). number_in TCP_STREAM layer ≡ None) (λ (layer : Layer). not (has_stream layer) ≡ true)
        (λ layer none. ap (λ (n : Option ℕ). not (is_some n)) none) front s.first

    no_ip : Each (λ (layer : Layer). is_ip layer ≡ false) s.between
    no_ip = each_same (λ (layer : Layer). (layer.proto ≢ IP) × (layer.proto ≢ IPV6)) (λ (layer : Layer). is_ip layer ≡ false)
        (λ layer none i. ne_eqb layer.proto IP none.0 i || ne_eqb layer.proto IPV6 none.1 i) s.between s.last

    header_is : find is_ip (reverse (take (length front) (front ++ tcp ∷ s.behind))) ≡ Some ip
    header_is =
        ap (λ (ls : List Layer). find is_ip (reverse ls)) (take_at front (tcp ∷ s.behind) (length front) refl)
        ∙ last_found is_ip s.before ip s.between no_ip (ip_is ip tcp at from)
