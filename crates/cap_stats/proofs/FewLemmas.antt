-- The sums over few trees fit 64 bits.
use Rattle.std.proofs.Common.{◌≡◌, ◌==◌, ◌+◌, ◌-◌, ◌*◌, ◌^◌, ◌<◌, ◌≤◌, ℕ, zero, suc, Bool, true, false, not, cond, List, [], ◌∷◌, ◌++◌, length, filter, sum, take, reverse, position, codes, get_or, Option, Some, None, IfSome, option_and_then, unwrap_or, is_err, refl, sym, ap, subst, ◌∙◌, arith}
use Rattle.std.proofs.lemmas.Bool.{both_ways, eqb-true}
use Rattle.std.proofs.lemmas.List.{length-append}
use Rattle.std.proofs.lemmas.List.Sums.{sum_by-cons}
use Rattle.std.proofs.lemmas.Slice.Eq.{bytes_eq-Decides}
use Rattle.std.specs.List.{AllByRecursion as Each, find, slice_get}
use Rattle.std.specs.Prelude.{Result, Ok, Err, OnOk}
use Rattle.std.specs.Str.{bytes_eq}
use Rattle.pk_fields.specs.Fields.{row_of}
use Rattle.pk_fields.specs.Ids.{FRAME_LEN, IP_SRC, IP_DST, IPV6_SRC, IPV6_DST, TCP_STREAM, TCP_SRCPORT, TCP_DSTPORT}
use Rattle.pk_fields.specs.Table.{rows}
use Rattle.pk_base.specs.declared.heads.Address.{Address}
use Rattle.pk_tree.specs.declared.item.Item.{Item}
use Rattle.pk_tree.specs.declared.layer.Layer.{Layer}
use Rattle.pk_base.specs.declared.value.Value.{Value}
use Rattle.pk_base.specs.declared.value.Value.TheVariants as values
use Rattle.pk_tree.specs.FieldValues.{item_values}
use Rattle.pk_tree.specs.Trees.{IsTree, ItemFits, LayersFit, TreeShown}
use Rattle.pk_tree.specs.Values.{IsOfKind}
use Rattle.cap_stats.specs.declared.counts.Talk.{Talk}
use Rattle.cap_stats.specs.declared.counts.Tally.{Tally}
use Rattle.cap_stats.specs.declared.kind.StatKind.{StatKind}
use Rattle.cap_stats.specs.declared.kind.StatKind.TheVariants.{ConvTcp, ConvIp, Phs}
use Rattle.cap_stats.specs.declared.pairs.Pairs.{Pairs}
use Rattle.cap_stats.specs.declared.party.Flight.{Flight}
use Rattle.cap_stats.specs.declared.paths.Paths.{Paths}
use Rattle.cap_stats.specs.declared.stats.Stats.{Stats}
use Rattle.cap_stats.specs.declared.streams.Streams.{Streams}
use Rattle.cap_stats.specs.Counts.{first_of, leaves, lengths_of, of_key, sizes_tally, tally_of, talk_of}
use Rattle.cap_stats.specs.Few.{AreFew, HasFew, HasRoom, HasTalkRoom, HaveRoom}
use Rattle.cap_stats.specs.Keys.{same_number, same_pair}
use Rattle.cap_stats.specs.Stands.{HasNotes, HasPairs, HasPaths, HasStreams, Stands, is_spent, kind_of, pair_talk, talk_at, tally_at}
use Rattle.cap_stats.specs.Tables.{packets_of, paths_of, segments_of, with_note}
use Rattle.cap_stats.specs.Told.{◌>>=◌, address_in, first_value, four_in, has_addresses, has_stream, host, is_ip, length_of, number_in, number_of, packet_in, packet_of, pair_of, party_at, path_of, paths_in, paths_to, protocols_in, segment_at, segment_of, stream_in}
use Rattle.cap_stats.proofs.PathLemmas.{path_more}

-- the length of a tree's frame
value_short : (value : Value) → IsOfKind (row_of FRAME_LEN).kind value → unwrap_or (number_of value) 0 < 2 ^ 32
unfolding row_of rows
value_short (values.Uint number) is = is
value_short (values.Bool truth) is = absurd is
value_short (values.Bytes bytes) is = absurd is
value_short (values.Text bytes) is = absurd is
value_short (values.Ether address) is = absurd is
value_short (values.Ip4 address) is = absurd is
value_short (values.Ip6 address) is = absurd is
value_short (values.Time time) is = absurd is
value_short (values.Proto bytes) is = absurd is

items_short : (buffers : List (List ℕ)) (proto : ℕ) (items : List Item) → Each (ItemFits buffers proto) items
    → unwrap_or (option_and_then number_of (first_value (item_values FRAME_LEN items))) 0 < 2 ^ 32
items_short buffers proto [] fits = omega arith
items_short buffers proto (item ∷ items) fits = by (items_short buffers proto items fits.1) (item.field == FRAME_LEN) refl
  where
    by : unwrap_or (option_and_then number_of (first_value (item_values FRAME_LEN items))) 0 < 2 ^ 32
        → (test : Bool) → (item.field == FRAME_LEN) ≡ test
        → unwrap_or (option_and_then number_of (first_value (item_values FRAME_LEN (item ∷ items)))) 0 < 2 ^ 32
    by rest true same =
        rw same (value_short item.value (subst (λ (field : ℕ). IsOfKind (row_of field).kind item.value) (eqb-true item.field FRAME_LEN same) fits.0.kind))
    by rest false same = rw same rest

layers_short : (buffers : List (List ℕ)) (layers : List Layer) → LayersFit buffers [] layers
    → unwrap_or (option_and_then (number_in FRAME_LEN) (slice_get layers 0)) 0 < 2 ^ 32
layers_short buffers [] fits = omega arith
layers_short buffers (layer ∷ layers) fits = items_short buffers layer.proto layer.items fits.0.items

pub short_length : (t : TreeShown) → IsTree t → length_of t.layers < 2 ^ 32
unfolding length_of
short_length t is = layers_short t.buffers t.layers is.layers

-- the sum of few lengths
record AreShort (most : ℕ) (sizes : List ℕ) : Type 0 where
  count : length sizes ≤ most
  short : Each (λ (size : ℕ). size < 2 ^ 32) sizes

sum_short : (sizes : List ℕ) → Each (λ (size : ℕ). size < 2 ^ 32) sizes → sum sizes ≤ length sizes * 4294967295
sum_short [] short = omega arith
sum_short (size ∷ sizes) short =
    let more : sum (size ∷ sizes) ≡ size + sum sizes = sum_by-cons (λ (x : ℕ). x) size sizes in
    let rest : sum sizes ≤ length sizes * 4294967295 = sum_short sizes short.1 in
    let first : size < 2 ^ 32 = short.0 in omega (arith, more, rest, first)

tally_room : (sizes : List ℕ) → AreShort (2 ^ 32 - 1) sizes → HasRoom (tally_of sizes)
tally_room sizes are =
    let bytes : sum sizes ≤ length sizes * 4294967295 = sum_short sizes are.short in
    record { frames = omega (arith, are.count); bytes = omega (arith, are.count, bytes) }

sizes_room : (sizes : List ℕ) → AreShort (2 ^ 32 - 1) sizes → IfSome (sizes_tally sizes) HasRoom
unfolding sizes_tally
sizes_room [] are = tt
sizes_room (size ∷ sizes) are = tally_room (size ∷ sizes) are

-- flights by their lengths
record AreShortFlights (most : ℕ) (flights : List Flight) : Type 0 where
  count : length flights ≤ most
  short : Each (λ (flight : Flight). flight.bytes < 2 ^ 32) flights

some_short : (test : Flight → Bool) (flights : List Flight) → Each (λ (flight : Flight). flight.bytes < 2 ^ 32) flights
    → AreShort (length flights) (lengths_of (filter test flights))
some_short test [] short = record { count = omega arith; short = tt }
some_short test (flight ∷ flights) short = by (some_short test flights short.1) (test flight) refl
  where
    by : AreShort (length flights) (lengths_of (filter test flights)) → (b : Bool) → test flight ≡ b
        → AreShort (length (flight ∷ flights)) (lengths_of (filter test (flight ∷ flights)))
    by rest true is = rw is (record { count = omega (arith, rest.count); short = (short.0, rest.short) })
    by rest false is = rw is (record { count = omega (arith, rest.count); short = rest.short })

shorter : (few most : ℕ) (sizes : List ℕ) → few ≤ most → AreShort few sizes → AreShort most sizes
shorter few most sizes within are = record { count = omega (arith, within, are.count); short = are.short }

talk_room : (flights : List Flight) → AreShortFlights (2 ^ 32 - 1) flights → IfSome (talk_of flights) HasTalkRoom
unfolding talk_of
talk_room [] are = tt
talk_room (flight ∷ flights) are =
    let all = flight ∷ flights in
    let first = first_of flight flights in
    let room = λ (test : Flight → Bool). tally_room (lengths_of (filter test all)) (shorter (length all) (2 ^ 32 - 1) (lengths_of (filter test all)) are.count (some_short test all are.short)) in
    record { there = room (leaves first.from); back = room (λ (f : Flight). not (leaves first.from f)) }

-- what is told of a tree has its frame's length
abbrev HasBytes : {K : Type 0} → List Layer → Option (K × Flight) → Type 0
HasBytes layers told = IfSome told (λ note. note.1.bytes ≡ length_of layers)

segment_bytes : (layers : List Layer) (header layer : Layer) → HasBytes layers (segment_of layers header layer)
segment_bytes layers header layer =
    by (number_in TCP_STREAM layer) (address_in IP_SRC IPV6_SRC header) (address_in IP_DST IPV6_DST header) (number_in TCP_SRCPORT layer) (number_in TCP_DSTPORT layer)
  where
    told : Option ℕ → Option Address → Option Address → Option ℕ → Option ℕ → Option (ℕ × Flight)
    told a b c d e = do
      stream ← a
      source ← b
      target ← c
      from ← d
      to ← e
      Some (stream, record { from = party_at source from; to = party_at target to; bytes = length_of layers })

    by : (a : Option ℕ) (b c : Option Address) (d e : Option ℕ) → HasBytes layers (told a b c d e)
    by None b c d e = tt
    by (Some stream) None c d e = tt
    by (Some stream) (Some source) None d e = tt
    by (Some stream) (Some source) (Some target) None e = tt
    by (Some stream) (Some source) (Some target) (Some from) None = tt
    by (Some stream) (Some source) (Some target) (Some from) (Some to) = refl

segment_at_bytes : (layers : List Layer) (at : ℕ) → HasBytes layers (segment_at layers at)
segment_at_bytes layers at = by (slice_get layers at) (find is_ip (reverse (take at layers)))
  where
    by : (a b : Option Layer) → HasBytes layers (option_and_then (λ layer. option_and_then (λ header. segment_of layers header layer) b) a)
    by None b = tt
    by (Some layer) None = tt
    by (Some layer) (Some header) = segment_bytes layers header layer

stream_bytes : (layers : List Layer) → HasBytes layers (stream_in layers)
unfolding stream_in
stream_bytes layers = by (position has_stream layers)
  where
    by : (at : Option ℕ) → HasBytes layers (option_and_then (λ (n : ℕ). segment_at layers n) at)
    by None = tt
    by (Some at) = segment_at_bytes layers at

packet_of_bytes : (layers : List Layer) (layer : Layer) → HasBytes layers (packet_of layers layer)
packet_of_bytes layers layer = by (four_in IP_SRC layer) (four_in IP_DST layer)
  where
    by : (a b : Option ℕ)
        → HasBytes layers (option_and_then (λ source. option_and_then (λ target. Some (pair_of source target, record { from = host source; to = host target; bytes = length_of layers })) b) a)
    by None b = tt
    by (Some source) None = tt
    by (Some source) (Some target) = refl

packet_bytes : (layers : List Layer) → HasBytes layers (packet_in layers)
unfolding packet_in
packet_bytes layers = by (find has_addresses layers)
  where
    by : (o : Option Layer) → HasBytes layers (option_and_then (packet_of layers) o)
    by None = tt
    by (Some layer) = packet_of_bytes layers layer

pub stream_short : (layers : List Layer) (note : ℕ × Flight) → Some note ≡ stream_in layers → length_of layers < 2 ^ 32 → note.1.bytes < 2 ^ 32
stream_short layers note is short =
    let same : note.1.bytes ≡ length_of layers = subst (λ (o : Option (ℕ × Flight)). IfSome o (λ n. n.1.bytes ≡ length_of layers)) (sym is) (stream_bytes layers) in
    omega (arith, same, short)

pub packet_short : (layers : List Layer) (note : (ℕ × ℕ) × Flight) → Some note ≡ packet_in layers → length_of layers < 2 ^ 32 → note.1.bytes < 2 ^ 32
packet_short layers note is short =
    let same : note.1.bytes ≡ length_of layers = subst (λ (o : Option ((ℕ × ℕ) × Flight)). IfSome o (λ n. n.1.bytes ≡ length_of layers)) (sym is) (packet_bytes layers) in
    omega (arith, same, short)

-- one note more among those of a key
module _ {K : Type 0} (same : K → K → Bool) (key : K) where
  noted_short : (note : Option (K × Flight)) (size most : ℕ) (notes : List (K × Flight)) → IfSome note (λ n. n.1.bytes ≡ size) → size < 2 ^ 32
      → AreShortFlights most (of_key same key notes) → AreShortFlights (suc most) (of_key same key (with_note note notes))
  noted_short None size most notes is short are = record { count = omega (arith, are.count); short = are.short }
  noted_short (Some note) size most notes is short are = by (same note.0 key) refl
    where
      by : (test : Bool) → same note.0 key ≡ test → AreShortFlights (suc most) (of_key same key (note ∷ notes))
      by true e = rw e (record { count = omega (arith, are.count); short = (omega (arith, is, short), are.short) })
      by false e = rw e (record { count = omega (arith, are.count); short = are.short })

segments_short : (past : List TreeShown) (number : ℕ) → Each (λ (t : TreeShown). length_of t.layers < 2 ^ 32) past
    → AreShortFlights (length past) (of_key same_number number (segments_of past))
segments_short [] number short = record { count = omega arith; short = tt }
segments_short (t ∷ past) number short =
    noted_short same_number number (stream_in t.layers) (length_of t.layers) (length past) (segments_of past) (stream_bytes t.layers) short.0 (segments_short past number short.1)

packets_short : (past : List TreeShown) (pair : ℕ × ℕ) → Each (λ (t : TreeShown). length_of t.layers < 2 ^ 32) past
    → AreShortFlights (length past) (of_key same_pair pair (packets_of past))
packets_short [] pair short = record { count = omega arith; short = tt }
packets_short (t ∷ past) pair short =
    noted_short same_pair pair (packet_in t.layers) (length_of t.layers) (length past) (packets_of past) (packet_bytes t.layers) short.0 (packets_short past pair short.1)

fewer_flights : (few most : ℕ) (flights : List Flight) → few ≤ most → AreShortFlights few flights → AreShortFlights most flights
fewer_flights few most flights within are = record { count = omega (arith, within, are.count); short = are.short }

pub stream_room : (streams : Streams) (number : ℕ) (past : List TreeShown) → HasStreams (segments_of past) streams → AreFew (2 ^ 32 - 1) past
    → IfSome (talk_at streams number) HasTalkRoom
stream_room streams number past has are =
    subst (λ (o : Option Talk). IfSome o HasTalkRoom) (sym (has.talks number))
    (talk_room (of_key same_number number (segments_of past))
    (fewer_flights (length past) (2 ^ 32 - 1) (of_key same_number number (segments_of past)) are.count (segments_short past number are.lengths)))

pub pair_room : (pairs : Pairs) (pair : ℕ × ℕ) (past : List TreeShown) → HasPairs (packets_of past) pairs → AreFew (2 ^ 32 - 1) past
    → IfSome (pair_talk pairs pair) HasTalkRoom
pair_room pairs pair past has are =
    subst (λ (o : Option Talk). IfSome o HasTalkRoom) (sym (has.talks pair))
    (talk_room (of_key same_pair pair (packets_of past))
    (fewer_flights (length past) (2 ^ 32 - 1) (of_key same_pair pair (packets_of past)) are.count (packets_short past pair are.lengths)))

-- each path of a tree is longer than those before it, so that none is noted twice
same_element : (xs : List ℕ) (at one other : ℕ) → at < length xs → get_or xs at one ≡ get_or xs at other
same_element [] at one other within = absurd (omega (arith, within))
same_element (x ∷ xs) zero one other within = refl
same_element (x ∷ xs) (suc at) one other within = same_element xs at one other (omega (arith, within))

longer : (text name : List ℕ) (place : ℕ) → 0 < place → length text < length (text ++ (cond (place == 0) [] (codes ":") ++ name))
longer text name place some = by (place == 0) refl
  where
    by : (test : Bool) → (place == 0) ≡ test → length text < length (text ++ (cond (place == 0) [] (codes ":") ++ name))
    by true none = absurd (omega (arith, some, eqb-true place 0 none))
    by false e =
        let whole : length (text ++ (codes ":" ++ name)) ≡ length text + length (codes ":" ++ name) = length-append text (codes ":" ++ name) in
        rw e (omega (arith, whole))

path_rises : (protocols : List ℕ) (place : ℕ) → 0 < place → place < length protocols
    → length (path_of (take place protocols)) < length (path_of (take (place + 1) protocols))
path_rises protocols place some within =
    let proto = get_or protocols place 0 in
    subst (λ (text : List ℕ). length (path_of (take place protocols)) < length text)
    (path_more protocols place proto within (same_element protocols place 0 proto within))
    (longer (path_of (take place protocols)) (row_of proto).name place some)

paths_rise : (protocols : List ℕ) (place more : ℕ) → 0 < place → place + more < length protocols
    → length (path_of (take place protocols)) < length (path_of (take (place + more + 1) protocols))
paths_rise protocols place zero some within =
    let next : place + 1 ≡ place + 0 + 1 = omega arith in
    subst (λ (n : ℕ). length (path_of (take place protocols)) < length (path_of (take n protocols))) next (path_rises protocols place some (omega (arith, within)))
paths_rise protocols place (suc more) some within =
    let before : length (path_of (take place protocols)) < length (path_of (take (place + more + 1) protocols)) = paths_rise protocols place more some (omega (arith, within)) in
    let next : length (path_of (take (place + more + 1) protocols)) < length (path_of (take (place + more + 1 + 1) protocols)) = path_rises protocols (place + more + 1) (omega arith) (omega (arith, within)) in
    let same : place + more + 1 + 1 ≡ place + suc more + 1 = omega arith in
    subst (λ (n : ℕ). length (path_of (take place protocols)) < length (path_of (take n protocols))) same (omega (arith, before, next))

bytes_apart : (k q : List ℕ) → length k < length q → bytes_eq k q ≡ false
bytes_apart k q less = by (bytes_eq k q) refl
  where
    by : (test : Bool) → bytes_eq k q ≡ test → test ≡ false
    by false e = refl
    by true e = let same : k ≡ q = (bytes_eq-Decides k q).0 e in absurd (omega (arith, less, ap (λ (xs : List ℕ). length xs) same))

new_path : (bytes : ℕ) (protocols : List ℕ) (count place : ℕ) (notes : List (List ℕ × ℕ)) → count ≤ place → place < length protocols
    → of_key bytes_eq (path_of (take (place + 1) protocols)) (paths_to bytes protocols count ++ notes) ≡ of_key bytes_eq (path_of (take (place + 1) protocols)) notes
new_path bytes protocols zero place notes before within = refl
new_path bytes protocols (suc count) place notes before within =
    let path = path_of (take (place + 1) protocols) in
    let rest = of_key bytes_eq path (paths_to bytes protocols count ++ notes) in
    let behind : suc count + (place - suc count) + 1 ≡ place + 1 = omega (arith, before) in
    let less = subst (λ (n : ℕ). length (path_of (take (suc count) protocols)) < length (path_of (take n protocols))) behind
    (paths_rise protocols (suc count) (place - suc count) (omega arith) (omega (arith, before, within))) in
    ap (λ (test : Bool). cond test (bytes ∷ rest) rest) (bytes_apart (path_of (take (suc count) protocols)) path less)
    ∙ new_path bytes protocols count place notes (omega (arith, before)) within

pub room_kept : (paths : Paths) (bytes place : ℕ) (protocols path : List ℕ) (notes : List (List ℕ × ℕ)) → place < length protocols
    → path ≡ path_of (take (place + 1) protocols) → HasPaths (paths_to bytes protocols place ++ notes) paths → HaveRoom notes
    → IfSome (tally_at paths path) HasRoom
room_kept paths bytes place protocols path notes within is has room =
    let all = paths_to bytes protocols place ++ notes in
    subst (λ (o : Option Tally). IfSome o HasRoom)
    (sym (has.tallies path
    ∙ ap (λ (p : List ℕ). sizes_tally (of_key bytes_eq p all)) is
    ∙ ap (λ (sizes : List ℕ). sizes_tally sizes) (new_path bytes protocols place place notes (omega arith) within)))
    (room (path_of (take (place + 1) protocols)))

once_more : (path : List ℕ) (bytes most : ℕ) (protocols : List ℕ) (count : ℕ) (notes : List (List ℕ × ℕ)) → count ≤ length protocols → bytes < 2 ^ 32
    → AreShort most (of_key bytes_eq path notes) → AreShort (suc most) (of_key bytes_eq path (paths_to bytes protocols count ++ notes))
once_more path bytes most protocols zero notes within short are = record { count = omega (arith, are.count); short = are.short }
once_more path bytes most protocols (suc count) notes within short are =
    by (once_more path bytes most protocols count notes (omega (arith, within)) short are) (bytes_eq (path_of (take (suc count) protocols)) path) refl
  where
    head : List ℕ
    head = path_of (take (suc count) protocols)

    by : AreShort (suc most) (of_key bytes_eq path (paths_to bytes protocols count ++ notes)) → (test : Bool) → bytes_eq head path ≡ test
        → AreShort (suc most) (of_key bytes_eq path (paths_to bytes protocols (suc count) ++ notes))
    by rest false e = rw e rest
    by rest true e =
        let next : count + 1 ≡ suc count = omega arith in
        let same : path_of (take (count + 1) protocols) ≡ path = ap (λ (n : ℕ). path_of (take n protocols)) next ∙ (bytes_eq-Decides head path).0 e in
        let none : of_key bytes_eq path (paths_to bytes protocols count ++ notes) ≡ of_key bytes_eq path notes
        = subst (λ (p : List ℕ). of_key bytes_eq p (paths_to bytes protocols count ++ notes) ≡ of_key bytes_eq p notes) same
        (new_path bytes protocols count count notes (omega arith) (omega (arith, within))) in
        rw e (subst (λ (sizes : List ℕ). AreShort (suc most) (bytes ∷ sizes)) (sym none) (record { count = omega (arith, are.count); short = (short, are.short) }))

paths_short : (past : List TreeShown) (path : List ℕ) → Each (λ (t : TreeShown). length_of t.layers < 2 ^ 32) past
    → AreShort (length past) (of_key bytes_eq path (paths_of past))
unfolding paths_in
paths_short [] path short = record { count = omega arith; short = tt }
paths_short (t ∷ past) path short =
    once_more path (length_of t.layers) (length past) (protocols_in t.layers) (length (protocols_in t.layers)) (paths_of past) (omega arith) short.0 (paths_short past path short.1)

pub paths_room : (past : List TreeShown) → AreFew (2 ^ 32 - 1) past → HaveRoom (paths_of past)
paths_room past are path =
    sizes_room (of_key bytes_eq path (paths_of past))
    (shorter (length past) (2 ^ 32 - 1) (of_key bytes_eq path (paths_of past)) are.count (paths_short past path are.lengths))

-- statistics of few trees, and of one more
pub few_more : (most more : ℕ) (stats : Stats) → most ≤ more → HasFew most stats → HasFew more stats
few_more most more stats larger has = record {
  few = λ unspent.
      let all = has.few unspent in (
        all.0,
        all.1,
        record { count = omega (arith, larger, all.2.count); lengths = all.2.lengths },
      );
}

pub few_none : (stats : Stats) → Stands [] stats → HasFew 0 stats
few_none stats stands = record { few = λ unspent. ([], stands, record { count = omega arith; lengths = tt }) }

notes_same : (kind : StatKind) (past : List TreeShown) (stats : Stats) (spent : Bool) → HasNotes kind past stats → HasNotes kind past (record stats { spent = spent })
notes_same ConvTcp past stats spent has = has
notes_same ConvIp past stats spent has = has
notes_same Phs past stats spent has = has

pub few_noted : {E : Type 0} (result : Result (Unit {0}) E) (most : ℕ) (spent : Bool) (old added : Stats) (t : TreeShown) → spent ≡ is_err result
    → is_spent old ≡ false → length_of t.layers < 2 ^ 32 → kind_of added ≡ kind_of old
    → OnOk result ((past : List TreeShown) → HasNotes (kind_of old) past old → HasNotes (kind_of old) (t ∷ past) added)
    → HasFew most old → HasFew (suc most) (record added { spent = spent })
unfolding Stands
few_noted (Err error) most spent old added t is unspent short kind noted has = record { few = λ e. absurd (both_ways spent e is) }
few_noted (Ok done) most spent old added t is unspent short kind noted has = record {
  few = λ e.
      let all = has.few unspent in (
        t ∷ all.0,
        (e, notes_same (kind_of added) (t ∷ all.0) added spent (subst (λ (k : StatKind). HasNotes k (t ∷ all.0) added) (sym kind) (noted all.0 all.1.1))),
        record { count = omega (arith, all.2.count); lengths = (short, all.2.lengths) },
      );
}
