-- Layers without items behind all others tell the tables of conversations nothing.
use Rattle.std.proofs.Common.{◌≡◌, ◌==◌, ◌&&◌, ◌<◌, ℕ, zero, suc, Bool, true, false, cond, List, [], ◌∷◌, ◌++◌, length, reverse, position, Option, Some, None, option_and_then, is_some, unwrap_or, refl, sym, ap, ◌∙◌, arith}
use Rattle.std.proofs.lemmas.Bool.{ltb-true}
use Rattle.std.proofs.lemmas.List.{take-append-le}
use Rattle.std.proofs.lemmas.List.Folds.{find-append}
use Rattle.std.specs.Prelude.{nat_lt}
use Rattle.std.specs.List.{AllByRecursion as Each, find, position_or_len, slice_get}
use Rattle.std.specs.Option.{option_or}
use Rattle.pk_fields.proofs.HalfLemmas.{position-append}
use Rattle.pk_fields.specs.Halves.{joined}
use Rattle.pk_fields.specs.Ids.{FRAME_LEN, IP, IP_SRC, IP_DST, IPV6_SRC, IPV6_DST, TCP_STREAM, TCP_SRCPORT, TCP_DSTPORT}
use Rattle.pk_tree.specs.declared.item.Item.{Item}
use Rattle.pk_tree.specs.declared.layer.Layer.{Layer}
use Rattle.pk_tree.specs.FieldValues.{item_values}
use Rattle.pk_tree.specs.Trees.{TreeShown}
use Rattle.cap_stats.specs.declared.kind.StatKind.TheVariants.{ConvTcp, ConvIp, Phs}
use Rattle.cap_stats.specs.declared.party.Flight.{Flight}
use Rattle.cap_stats.specs.Laws.{AlikeTable, AllNotedAlike, BareUnread}
use Rattle.cap_stats.specs.Tables.{with_note, segments_of, packets_of, paths_of, table_of, streams_table, pairs_table, paths_table}
use Rattle.cap_stats.specs.Told.{number_of, four_of, first_value, number_in, four_in, address_in, length_of, is_ip, has_stream, party_at, segment_at, stream_in, has_addresses, pair_of, host, packet_in}

-- a layer without items
number_bare : (field : ℕ) (layer : Layer) → layer.items ≡ [] → number_in field layer ≡ None
number_bare field layer bare = ap (λ (items : List Item). option_and_then number_of (first_value (item_values field items))) bare

four_bare : (field : ℕ) (layer : Layer) → layer.items ≡ [] → four_in field layer ≡ None
four_bare field layer bare = ap (λ (items : List Item). option_and_then four_of (first_value (item_values field items))) bare

no_stream : (layer : Layer) → layer.items ≡ [] → has_stream layer ≡ false
no_stream layer bare = ap (λ (n : Option ℕ). is_some n) (number_bare TCP_STREAM layer bare)

no_addresses : (layer : Layer) → layer.items ≡ [] → has_addresses layer ≡ false
no_addresses layer bare =
    ap (λ (source : Option ℕ). layer.proto == IP && (is_some source && is_some (four_in IP_DST layer))) (four_bare IP_SRC layer bare) ∙ neither (layer.proto == IP)
  where
    neither : (b : Bool) → (b && false) ≡ false
    neither true = refl
    neither false = refl

-- what is found among the layers before them
place_none : {X : Type 0} (test : X → Bool) (bare : X → Type 0) → ((x : X) → bare x → test x ≡ false) → (xs : List X) → Each bare xs → position_or_len test xs ≡ length xs
place_none test bare none [] all = refl
place_none test bare none (x ∷ xs) all = rw (none x all.0) (omega (arith, place_none test bare none xs all.1))

found_none : {X : Type 0} (test : X → Bool) (bare : X → Type 0) → ((x : X) → bare x → test x ≡ false) → (xs : List X) → Each bare xs → find test xs ≡ None
found_none test bare none [] all = refl
found_none test bare none (x ∷ xs) all = rw (none x all.0) (found_none test bare none xs all.1)

nowhere : {X : Type 0} (test : X → Bool) (xs : List X) → position_or_len test xs ≡ length xs → position test xs ≡ None
nowhere test xs end = by_test (nat_lt (position_or_len test xs) (length xs)) refl
  where
    by_test : (b : Bool) → nat_lt (position_or_len test xs) (length xs) ≡ b → cond b (Some (position_or_len test xs)) None ≡ None
    by_test true is = absurd (omega (arith, ltb-true (position_or_len test xs) (length xs) is, end))
    by_test false is = refl

place_before : {X : Type 0} (test : X → Bool) (bare : X → Type 0) → ((x : X) → bare x → test x ≡ false) → (own more : List X) → Each bare more → position test (own ++ more) ≡ position test own
place_before test bare none own more all =
    position-append test own more
    ∙ ap (λ (other : Option ℕ). joined (length own) (position test own) other) (nowhere test more (place_none test bare none more all))
    ∙ by (position test own)
  where
    by : (place : Option ℕ) → joined (length own) place None ≡ place
    by None = refl
    by (Some at) = refl

found_before : {X : Type 0} (test : X → Bool) (bare : X → Type 0) → ((x : X) → bare x → test x ≡ false) → (own more : List X) → Each bare more → find test (own ++ more) ≡ find test own
found_before {X} test bare none own more all =
    find-append test own more
    ∙ ap (λ (other : Option X). option_or (find test own) other) (found_none test bare none more all)
    ∙ by (find test own)
  where
    by : (found : Option X) → option_or found None ≡ found
    by None = refl
    by (Some x) = refl

place_within : {X : Type 0} (test : X → Bool) (xs : List X) (at : ℕ) → position test xs ≡ Some at → at < length xs
place_within test xs at is = by_test (nat_lt (position_or_len test xs) (length xs)) refl is
  where
    by_test : (b : Bool) → nat_lt (position_or_len test xs) (length xs) ≡ b → cond b (Some (position_or_len test xs)) None ≡ Some at → at < length xs
    by_test true below is = let same : position_or_len test xs ≡ at = cc is in omega (arith, ltb-true (position_or_len test xs) (length xs) below, same)
    by_test false below is = absurd (cc is)

layer_before : (own more : List Layer) (at : ℕ) → at < length own → slice_get (own ++ more) at ≡ slice_get own at
layer_before [] more at below = absurd (omega (arith, below))
layer_before (layer ∷ own) more zero below = refl
layer_before (layer ∷ own) more (suc at) below = layer_before own more at (omega (arith, below))

length_before : (own more : List Layer) → Each (λ layer. layer.items ≡ []) more → length_of (own ++ more) ≡ length_of own
unfolding length_of
length_before (layer ∷ own) more bare = refl
length_before [] [] bare = refl
length_before [] (layer ∷ more) bare = ap (λ (n : Option ℕ). unwrap_or n 0) (number_bare FRAME_LEN layer bare.0)

-- what is told of a segment and of a packet, by the frame's length
abbrev flight_of : Layer → Layer → ℕ → Option (ℕ × Flight)
flight_of header layer bytes =
    option_and_then (λ stream. option_and_then (λ s. option_and_then (λ t. option_and_then (λ f. option_and_then (λ p.
    Some (stream, record { from = party_at s f; to = party_at t p; bytes = bytes })) (number_in TCP_DSTPORT layer)) (number_in TCP_SRCPORT layer))
    (address_in IP_DST IPV6_DST header)) (address_in IP_SRC IPV6_SRC header)) (number_in TCP_STREAM layer)

abbrev way_of : Layer → ℕ → Option ((ℕ × ℕ) × Flight)
way_of layer bytes =
    option_and_then (λ s. option_and_then (λ t. Some (pair_of s t, record { from = host s; to = host t; bytes = bytes })) (four_in IP_DST layer)) (four_in IP_SRC layer)

segment_before : (own more : List Layer) (at : ℕ) → Each (λ layer. layer.items ≡ []) more → at < length own → segment_at (own ++ more) at ≡ segment_at own at
segment_before own more at bare below =
    (λ i. option_and_then (λ layer. option_and_then (λ header. flight_of header layer (length_before own more bare i)) (find is_ip (reverse (take-append-le at own more (omega (arith, below)) i)))) (layer_before own more at below i))

stream_before : (own more : List Layer) → Each (λ layer. layer.items ≡ []) more → stream_in (own ++ more) ≡ stream_in own
unfolding stream_in
stream_before own more bare =
    ap (λ (place : Option ℕ). option_and_then (λ at. segment_at (own ++ more) at) place)
    (place_before has_stream (λ (layer : Layer). layer.items ≡ []) no_stream own more bare)
    ∙ by (position has_stream own) refl
  where
    by : (place : Option ℕ) → position has_stream own ≡ place → option_and_then (λ at. segment_at (own ++ more) at) place ≡ option_and_then (λ at. segment_at own at) place
    by None is = refl
    by (Some at) is = segment_before own more at bare (place_within has_stream own at is)

packet_before : (own more : List Layer) → Each (λ layer. layer.items ≡ []) more → packet_in (own ++ more) ≡ packet_in own
unfolding packet_in
packet_before own more bare = λ i.
    option_and_then (λ layer. way_of layer (length_before own more bare i))
    (found_before has_addresses (λ (layer : Layer). layer.items ≡ []) no_addresses own more bare i)

pub bare_unread : BareUnread
bare_unread whole tree lacks = (
  sym (ap stream_in lacks.whole_layers ∙ stream_before tree.layers lacks.layers lacks.bare),
  sym (ap packet_in lacks.whole_layers ∙ packet_before tree.layers lacks.layers lacks.bare),
)

-- the tables of trees that are noted alike
segments_alike : (wholes trees : List TreeShown) → AllNotedAlike ConvTcp wholes trees → segments_of trees ≡ segments_of wholes
segments_alike [] [] alike = refl
segments_alike [] (tree ∷ trees) alike = absurd alike
segments_alike (whole ∷ wholes) [] alike = absurd alike
segments_alike (whole ∷ wholes) (tree ∷ trees) alike = λ i. with_note (alike.0 i) (segments_alike wholes trees alike.1 i)

packets_alike : (wholes trees : List TreeShown) → AllNotedAlike ConvIp wholes trees → packets_of trees ≡ packets_of wholes
packets_alike [] [] alike = refl
packets_alike [] (tree ∷ trees) alike = absurd alike
packets_alike (whole ∷ wholes) [] alike = absurd alike
packets_alike (whole ∷ wholes) (tree ∷ trees) alike = λ i. with_note (alike.0 i) (packets_alike wholes trees alike.1 i)

paths_alike : (wholes trees : List TreeShown) → AllNotedAlike Phs wholes trees → paths_of trees ≡ paths_of wholes
paths_alike [] [] alike = refl
paths_alike [] (tree ∷ trees) alike = absurd alike
paths_alike (whole ∷ wholes) [] alike = absurd alike
paths_alike (whole ∷ wholes) (tree ∷ trees) alike = λ i. alike.0 i ++ paths_alike wholes trees alike.1 i

pub table_alike : AlikeTable
unfolding table_of
table_alike ConvTcp wholes trees alike = ap streams_table (segments_alike wholes trees alike)
table_alike ConvIp wholes trees alike = ap pairs_table (packets_alike wholes trees alike)
table_alike Phs wholes trees alike = ap paths_table (paths_alike wholes trees alike)
