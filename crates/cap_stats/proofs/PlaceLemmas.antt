-- What stands in the layer of a place, and the places where something stands first or last.
use Rattle.std.proofs.Common.{◌≡◌, ◌==◌, ◌||◌, ◌&&◌, ◌+◌, ◌<◌, ◌≤◌, ℕ, zero, suc, Bool, true, false, not, cond, List, [], ◌∷◌, length, take, reverse, get_or, slice_get, position, Option, Some, None, is_some, option_and_then, IfSome, refl, sym, ap, ◌∙◌, true≢false, arith}
use Rattle.std.specs.Option.{option_map, option_map_or}
use Rattle.std.specs.List.{find, position_or_len}
use Rattle.std.specs.Prelude.{Err, IfOk, Ok, Result, nat_lt}
use Rattle.std.proofs.lemmas.Bool.{le-ltb, lt-ltb}
use Rattle.std.proofs.lemmas.List.{reverse-append, take_more}
use Rattle.std.proofs.lemmas.List.Folds.{find_at}
use Rattle.std.proofs.lemmas.Option.{slice_get_past, slice_get-get_or}
use Rattle.pk_base.specs.declared.heads.Address.TheVariants.{Four, Six}
use Rattle.pk_base.specs.declared.value.Value.{Value}
use Rattle.pk_fields.specs.Ids.{IP, IPV6, IP_DST, IP_SRC, IPV6_DST, IPV6_SRC, TCP_DSTPORT, TCP_SRCPORT, TCP_STREAM}
use Rattle.pk_source.proofs.LayerLaws.{proto_there}
use Rattle.pk_source.specs.Found.{first_in}
use Rattle.pk_tree.specs.Trees.{proto_at}
use Rattle.pk_tree.specs.declared.layer.Layer.{Layer}
use Rattle.cap_stats.specs.declared.party.Flight.{Flight}
use Rattle.cap_stats.specs.Places.{address_there, both_in, both_told, four_there, has_there, number_there, segment_there, segment_told, six_there}
use Rattle.cap_stats.specs.Steps.{packet_note}
use Rattle.cap_stats.specs.Told.{address_in, four_in, four_of, has_addresses, has_stream, is_ip, host, length_of, number_in, number_of, packet_in, packet_of, pair_of, segment_of, six_in, six_of}

-- a field's first value as a number or an address
pub number_is : (layers : List Layer) (place field : ℕ) (value : Option Value) → value ≡ first_in field (slice_get layers place) → option_and_then number_of value ≡ number_there layers place field
number_is layers place field value is = ap (λ (v : Option Value). option_and_then number_of v) is ∙ by (slice_get layers place)
  where
    by : (o : Option Layer) → option_and_then number_of (first_in field o) ≡ option_and_then (number_in field) o
    by None = refl
    by (Some layer) = refl

pub four_is : (layers : List Layer) (place field : ℕ) (value : Option Value) → value ≡ first_in field (slice_get layers place) → option_and_then four_of value ≡ four_there layers place field
four_is layers place field value is = ap (λ (v : Option Value). option_and_then four_of v) is ∙ by (slice_get layers place)
  where
    by : (o : Option Layer) → option_and_then four_of (first_in field o) ≡ option_and_then (four_in field) o
    by None = refl
    by (Some layer) = refl

pub six_is : (layers : List Layer) (place field : ℕ) (value : Option Value) → value ≡ first_in field (slice_get layers place) → option_and_then six_of value ≡ six_there layers place field
six_is layers place field value is = ap (λ (v : Option Value). option_and_then six_of v) is ∙ by (slice_get layers place)
  where
    by : (o : Option Layer) → option_and_then six_of (first_in field o) ≡ option_and_then (six_in field) o
    by None = refl
    by (Some layer) = refl

pub stream_has : (layers : List Layer) (place : ℕ) → is_some (number_there layers place TCP_STREAM) ≡ has_there has_stream layers place
stream_has layers place = by (slice_get layers place)
  where
    by : (o : Option Layer) → is_some (option_and_then (number_in TCP_STREAM) o) ≡ option_map_or has_stream o false
    by None = refl
    by (Some layer) = refl

-- by the protocol of the layer there
pub addresses_are : (layers : List Layer) (place : ℕ) (is : Bool) → place < length layers → (proto_at layers place == IP) ≡ is
    → (is && (is_some (four_there layers place IP_SRC) && is_some (four_there layers place IP_DST))) ≡ has_there has_addresses layers place
addresses_are [] place is inside e = absurd (omega (arith, inside))
addresses_are (layer ∷ layers) zero is inside e = ap (λ (b : Bool). b && (is_some (four_in IP_SRC layer) && is_some (four_in IP_DST layer))) (sym e)
addresses_are (layer ∷ layers) (suc place) is inside e = addresses_are layers place is (omega (arith, inside)) e

pub address_is : (layers : List Layer) (place four six : ℕ) (is : Bool) → place < length layers → (proto_at layers place == IP) ≡ is
    → cond is (option_map Four (four_there layers place four)) (option_map Six (six_there layers place six)) ≡ address_there layers place four six
address_is [] place four six is inside e = absurd (omega (arith, inside))
address_is (layer ∷ layers) zero four six is inside e = ap (λ (b : Bool). cond b (option_map Four (four_in four layer)) (option_map Six (six_in six layer))) (sym e)
address_is (layer ∷ layers) (suc place) four six is inside e = address_is layers place four six is (omega (arith, inside)) e

-- the first place where something holds
pub further : {A : Type 0} (test : A → Bool) (xs : List A) (place : ℕ) → place < length xs → option_map_or test (slice_get xs place) false ≡ false → place ≤ position_or_len test xs
    → place + 1 ≤ position_or_len test xs
further test [] place inside none before = absurd (omega (arith, inside))
further test (x ∷ xs) zero inside none before = rw none (omega arith)
further test (x ∷ xs) (suc place) inside none before = by (test x) (λ behind. further test xs place (omega (arith, inside)) none behind) before
  where
    by : (b : Bool) → (place ≤ position_or_len test xs → place + 1 ≤ position_or_len test xs) → suc place ≤ cond (not b) (1 + position_or_len test xs) 0
        → suc place + 1 ≤ cond (not b) (1 + position_or_len test xs) 0
    by true more before = absurd (omega (arith, before))
    by false more before = omega (arith, more (omega (arith, before)))

found : {A : Type 0} (test : A → Bool) (xs : List A) (place : ℕ) → place < length xs → option_map_or test (slice_get xs place) false ≡ true → place ≤ position_or_len test xs
    → position_or_len test xs ≡ place
found test [] place inside is before = absurd (omega (arith, inside))
found test (x ∷ xs) zero inside is before = rw is refl
found test (x ∷ xs) (suc place) inside is before = by (test x) (λ behind. found test xs place (omega (arith, inside)) is behind) before
  where
    by : (b : Bool) → (place ≤ position_or_len test xs → position_or_len test xs ≡ place) → suc place ≤ cond (not b) (1 + position_or_len test xs) 0
        → cond (not b) (1 + position_or_len test xs) 0 ≡ suc place
    by true more before = absurd (omega (arith, before))
    by false more before = omega (arith, more (omega (arith, before)))

pub position_found : {A : Type 0} (test : A → Bool) (xs : List A) (place : ℕ) → place < length xs → option_map_or test (slice_get xs place) false ≡ true → place ≤ position_or_len test xs
    → Some place ≡ position test xs
position_found test xs place inside is before =
    sym (ap (λ (n : ℕ). cond (nat_lt n (length xs)) (Some n) None) (found test xs place inside is before)
    ∙ ap (λ (b : Bool). cond b (Some place) None) (lt-ltb place (length xs) inside))

pub position_none : {A : Type 0} (test : A → Bool) (xs : List A) (place : ℕ) → length xs ≤ place → place ≤ position_or_len test xs → None ≡ position test xs
position_none test xs place over before =
    sym (ap (λ (b : Bool). cond b (Some (position_or_len test xs)) None) (le-ltb (position_or_len test xs) (length xs) (omega (arith, over, before))))

pub find_found : {A : Type 0} (test : A → Bool) (xs : List A) (place : ℕ) → place < length xs → option_map_or test (slice_get xs place) false ≡ true → place ≤ position_or_len test xs
    → slice_get xs place ≡ find test xs
find_found test xs place inside is before = sym (find_at test xs ∙ ap (λ (n : ℕ). slice_get xs n) (found test xs place inside is before))

pub find_none : {A : Type 0} (test : A → Bool) (xs : List A) (place : ℕ) → length xs ≤ place → place ≤ position_or_len test xs → None ≡ find test xs
find_none test xs place over before = sym (find_at test xs ∙ slice_get_past xs (position_or_len test xs) (omega (arith, over, before)))

-- the last IP header before a place
pub one_back : (layers : List Layer) (place : ℕ) (is : Bool) → place < length layers → (proto_at layers place == IP || proto_at layers place == IPV6) ≡ is
    → find is_ip (reverse (take (place + 1) layers)) ≡ cond is (slice_get layers place) (find is_ip (reverse (take place layers)))
one_back [] place is inside e = absurd (omega (arith, inside))
one_back (first ∷ others) place is inside e =
    let layers = first ∷ others in
    let layer = get_or layers place first in
    let rest = find is_ip (reverse (take place layers)) in
    ap (λ (front : List Layer). find is_ip (reverse front)) (take_more layers place first inside)
    ∙ ap (λ (back : List Layer). find is_ip back) (reverse-append (take place layers) (layer ∷ []))
    ∙ ap (λ (proto : ℕ). cond (proto == IP || proto == IPV6) (Some layer) rest) (proto_there layers place first inside)
    ∙ ap (λ (b : Bool). cond b (Some layer) rest) e
    ∙ ap (λ (o : Option Layer). cond is o rest) (sym (slice_get-get_or layers place first inside))

-- what the layers at two places tell
pub no_header : (layers : List Layer) (at : Option Layer) → None ≡ option_and_then (λ layer. option_and_then (λ header. segment_of layers header layer) None) at
no_header layers None = refl
no_header layers (Some layer) = refl

pub segment_is : (layers : List Layer) (header at : ℕ)
    → segment_told (number_there layers at TCP_STREAM) (address_there layers header IP_SRC IPV6_SRC) (address_there layers header IP_DST IPV6_DST)
    (number_there layers at TCP_SRCPORT) (number_there layers at TCP_DSTPORT) (length_of layers) ≡ segment_there layers header at
segment_is layers header at = by (slice_get layers at) (slice_get layers header)
  where
    unaddressed : (stream from to : Option ℕ) → segment_told stream None None from to (length_of layers) ≡ None
    unaddressed None from to = refl
    unaddressed (Some stream) from to = refl

    by : (a b : Option Layer)
        → segment_told (option_and_then (number_in TCP_STREAM) a) (option_and_then (address_in IP_SRC IPV6_SRC) b) (option_and_then (address_in IP_DST IPV6_DST) b)
        (option_and_then (number_in TCP_SRCPORT) a) (option_and_then (number_in TCP_DSTPORT) a) (length_of layers)
        ≡ option_and_then (λ layer. option_and_then (λ ip. segment_of layers ip layer) b) a
    by None b = refl
    by (Some layer) None = unaddressed (number_in TCP_STREAM layer) (number_in TCP_SRCPORT layer) (number_in TCP_DSTPORT layer)
    by (Some layer) (Some ip) = refl

-- two addresses
pub both_has : (a b : Option ℕ) → is_some (both_told a b) ≡ (is_some a && is_some b)
both_has None b = refl
both_has (Some source) None = refl
both_has (Some source) (Some target) = refl

pub both_is : (layers : List Layer) (place : ℕ) → both_told (four_there layers place IP_SRC) (four_there layers place IP_DST) ≡ option_and_then both_in (slice_get layers place)
both_is layers place = by (slice_get layers place)
  where
    by : (o : Option Layer) → both_told (option_and_then (four_in IP_SRC) o) (option_and_then (four_in IP_DST) o) ≡ option_and_then both_in o
    by None = refl
    by (Some layer) = refl

pub ok_has : {E : Type 0} (r : Result (Option (ℕ × ℕ)) E) (is : Option (ℕ × ℕ)) (has : Bool) → is_some is ≡ has → IfOk r (λ pair. pair ≡ is) → IfOk r (λ pair. is_some pair ≡ has)
ok_has (Ok pair) is has e ok = ap is_some ok ∙ e
ok_has (Err error) is has e ok = tt

pub some_both : (pair is : Option (ℕ × ℕ)) → pair ≡ is → IfSome pair (λ both. Some both ≡ is)
some_both None is e = tt
some_both (Some both) is e = e

abbrev packet_by : ℕ → ℕ × ℕ → (ℕ × ℕ) × Flight
packet_by bytes pair = packet_note (record { source = pair.0; target = pair.1; bytes = bytes })

abbrev way_between : Option ℕ → Option ℕ → ℕ → Option ((ℕ × ℕ) × Flight)
way_between source target bytes =
    option_and_then (λ s. option_and_then (λ t. Some (pair_of s t, record { from = host s; to = host t; bytes = bytes })) target) source

pub packet_is : (layers : List Layer) (pair : ℕ × ℕ) (bytes : ℕ) → Some pair ≡ option_and_then both_in (find has_addresses layers) → bytes ≡ length_of layers
    → Some (packet_by bytes pair) ≡ packet_in layers
unfolding packet_in
packet_is layers pair bytes e is = ap (λ (o : Option (ℕ × ℕ)). option_map (packet_by bytes) o) e ∙ by (find has_addresses layers)
  where
    told : (a b : Option ℕ) → option_map (packet_by bytes) (both_told a b) ≡ way_between a b (length_of layers)
    told None b = refl
    told (Some s) None = refl
    told (Some s) (Some t) = ap (λ (n : ℕ). Some (packet_by n (s, t))) is

    by : (o : Option Layer) → option_map (packet_by bytes) (option_and_then both_in o) ≡ option_and_then (packet_of layers) o
    by None = refl
    by (Some layer) = told (four_in IP_SRC layer) (four_in IP_DST layer)

pub no_packet : (layers : List Layer) → None ≡ option_and_then both_in (find has_addresses layers) → None ≡ packet_in layers
unfolding packet_in
no_packet layers e = by (find has_addresses layers) e
  where
    none : (a b : Option ℕ) → None ≡ both_told a b → None ≡ way_between a b (length_of layers)
    none None b e = refl
    none (Some s) None e = refl
    none (Some s) (Some t) e = absurd (true≢false (sym (ap (λ (o : Option (ℕ × ℕ)). is_some o) e)))

    by : (o : Option Layer) → None ≡ option_and_then both_in o → None ≡ option_and_then (packet_of layers) o
    by None e = refl
    by (Some layer) e = none (four_in IP_SRC layer) (four_in IP_DST layer) e
