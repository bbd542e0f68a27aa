-- A pcap file is read back.
use Rattle.std.proofs.Common.{◌≡◌, ◌<◌, ◌≤◌, ◌+◌, ◌*◌, ◌/◌, ◌%◌, ◌^◌, ℕ, suc, ℤ, Bool, true, false, List, [], ◌∷◌, ◌++◌, length, take, drop, Option, Some, refl, sym, ap, ◌∙◌, arith, length-append}
use Rattle.pk_base.specs.Limits.{captured_limit}
use Rattle.pk_base.specs.Endian.{number_at}
use Rattle.std.specs.Prelude.{pos, nat_lt}
use Rattle.std.proofs.Math.Nat.{mod-eq_of_lt}
use Rattle.std.proofs.lemmas.Bool.Decides.{nat_tests}
use Rattle.std.proofs.lemmas.List.{drop-drop, drop_at, take_at}
use Rattle.pk_base.specs.declared.found.Found.{Found}
use Rattle.capture_formats.specs.Pcap.{pcap_head, pcap_item, nanoseconds}
use Rattle.capture_formats.specs.declared.header.PcapHead.{PcapHead}
use Rattle.capture_formats.specs.declared.header.HeadStep.TheVariants as head
use Rattle.capture_formats.specs.declared.packet.ItemStep.TheVariants as item
use Rattle.pk_base.specs.Limits.{file_limit}
use Rattle.capture_read.specs.Capture.{capture_of, reading_of, after_head, pieces, with_frame}
use Rattle.capture_read.specs.Pieces.{record_at, head_behind, of_record}
use Rattle.capture_read.specs.declared.ending.Ending.TheVariants.{Whole}
use Rattle.capture_read.specs.declared.frame.Frame.{Frame}
use Rattle.capture_read.proofs.PieceSteps.{pieces-end}
use Rattle.capture_write.specs.Frames.{nanoseconds_of, AreFrames, IsFrame, read_back, all_read_back, order_of, link_of}
use Rattle.capture_write.specs.Numbers.{bytes_in}
use Rattle.capture_write.specs.Pcap.{pcap_header, pcap_record, pcap_records, fits_pcap, all_fit_pcap, pcap_bytes, fits_in_pcap}
use Rattle.capture_write.proofs.FitLaws.{and_parts, FitsPcap, fitting_pcap}
use Rattle.capture_write.proofs.NumberLaws.{number_back}
use Rattle.capture_write.proofs.Steps.{pieces-packet, capture-whole}

-- four numbers of four bytes, and what stands behind them
abbrev pub words : Bool → ℕ → ℕ → ℕ → ℕ → List ℕ → List ℕ
words little a b c d rest = bytes_in little 4 a ++ (bytes_in little 4 b ++ (bytes_in little 4 c ++ (bytes_in little 4 d ++ rest)))

word_0 : (little : Bool) (a b c d : ℕ) (rest : List ℕ) → a < 2 ^ 32 → number_at little 4 0 (words little a b c d rest) ≡ a
word_0 little a b c d rest h = number_back little 4 a (bytes_in little 4 b ++ (bytes_in little 4 c ++ (bytes_in little 4 d ++ rest))) h

word_1 : (little : Bool) (a b c d : ℕ) (rest : List ℕ) → b < 2 ^ 32 → number_at little 4 4 (words little a b c d rest) ≡ b
word_1 true a b c d rest h = number_back true 4 b (bytes_in true 4 c ++ (bytes_in true 4 d ++ rest)) h
word_1 false a b c d rest h = number_back false 4 b (bytes_in false 4 c ++ (bytes_in false 4 d ++ rest)) h

word_2 : (little : Bool) (a b c d : ℕ) (rest : List ℕ) → c < 2 ^ 32 → number_at little 4 8 (words little a b c d rest) ≡ c
word_2 true a b c d rest h = number_back true 4 c (bytes_in true 4 d ++ rest) h
word_2 false a b c d rest h = number_back false 4 c (bytes_in false 4 d ++ rest) h

word_3 : (little : Bool) (a b c d : ℕ) (rest : List ℕ) → d < 2 ^ 32 → number_at little 4 12 (words little a b c d rest) ≡ d
word_3 true a b c d rest h = number_back true 4 d rest h
word_3 false a b c d rest h = number_back false 4 d rest h

words-behind : (little : Bool) (a b c d : ℕ) (rest : List ℕ) → drop 16 (words little a b c d rest) ≡ rest
words-behind true a b c d rest = refl
words-behind false a b c d rest = refl

length-words : (little : Bool) (a b c d : ℕ) (rest : List ℕ) → length (words little a b c d rest) ≡ 16 + length rest
length-words true a b c d rest = omega arith
length-words false a b c d rest = omega arith

-- a record by its numbers
item_by : (h : PcapHead) (bytes : List ℕ) (s f c o : ℕ)
    → number_at h.little 4 0 bytes ≡ s → number_at h.little 4 4 bytes ≡ f → number_at h.little 4 8 bytes ≡ c → number_at h.little 4 12 bytes ≡ o
    → c ≤ captured_limit → 16 + c ≤ length bytes
    → pcap_item h bytes ≡ item.Item (record { time = Some (nanoseconds h.nano s f); link = h.link; little = h.little; original = o; start = 16; len = c; end = 16 + c })
unfolding pcap_item
item_by h bytes s f c o es ef ec eo short long =
    let a : nat_lt (length bytes) 16 ≡ false = grind (arith, nat_tests) in
    let b : nat_lt captured_limit c ≡ false = grind (arith, nat_tests) in
    let d : nat_lt (length bytes) (16 + c) ≡ false = grind (arith, nat_tests) in
    rw (a, es, ef, ec, eo, b, d) refl

-- the header of a written file
abbrev pub head_of : Bool → ℕ → PcapHead
head_of little link = record { little = little; nano = true; link = link }

-- where a frame stands in its record
abbrev pub found_in : Bool → Frame → Found
found_in little frame = record {
  time = frame.time;
  link = frame.link;
  little = little;
  original = frame.original;
  start = 16;
  len = length frame.bytes;
  end = 16 + length frame.bytes;
}

record_words : (little : Bool) (frame : Frame) (rest : List ℕ) → pcap_record little frame ++ rest
    ≡ words little (nanoseconds_of frame.time / 10 ^ 9) (nanoseconds_of frame.time % 10 ^ 9) (length frame.bytes) frame.original (frame.bytes ++ rest)
record_words true frame rest = refl
record_words false frame rest = refl

record_length : (little : Bool) (frame : Frame) (rest : List ℕ) → 16 + length frame.bytes ≤ length (pcap_record little frame ++ rest)
record_length little frame rest =
    let whole : length (pcap_record little frame ++ rest) ≡ 16 + length (frame.bytes ++ rest) =
    ap (λ (bytes : List ℕ). length bytes) (record_words little frame rest) ∙ length-words little _ _ _ _ (frame.bytes ++ rest) in
    omega (arith, length-append frame.bytes rest)

-- a record is read
item-back : (little : Bool) (link : ℕ) (frame : Frame) (rest : List ℕ) → IsFrame frame → FitsPcap little link frame
    → pcap_item (head_of little link) (pcap_record little frame ++ rest) ≡ item.Item (found_in little frame)
item-back little link frame rest is fits =
    let n : ℕ = nanoseconds_of frame.time in
    let bound : n < 2 ^ 32 * 10 ^ 9 = fits.bound in
    let seconds : n / 10 ^ 9 < 2 ^ 32 = omega arith in
    let fraction : n % 10 ^ 9 < 2 ^ 32 = omega arith in
    let captured : length frame.bytes < 2 ^ 32 = omega (arith, fits.short) in
    let more : List ℕ = frame.bytes ++ rest in
    let long : 16 + length frame.bytes ≤ length (words little (n / 10 ^ 9) (n % 10 ^ 9) (length frame.bytes) frame.original more) =
    omega (arith, length-words little (n / 10 ^ 9) (n % 10 ^ 9) (length frame.bytes) frame.original more, length-append frame.bytes rest) in
    let time : Some (pos (n / 10 ^ 9 * 10 ^ 9 + n % 10 ^ 9)) ≡ frame.time = ap (λ (k : ℕ). Some (pos k)) (omega arith) ∙ sym fits.time in
    ap (pcap_item (head_of little link)) (record_words little frame rest)
    ∙ item_by (head_of little link) (words little (n / 10 ^ 9) (n % 10 ^ 9) (length frame.bytes) frame.original more)
    (n / 10 ^ 9) (n % 10 ^ 9) (length frame.bytes) frame.original
    (word_0 little (n / 10 ^ 9) (n % 10 ^ 9) (length frame.bytes) frame.original more seconds)
    (word_1 little (n / 10 ^ 9) (n % 10 ^ 9) (length frame.bytes) frame.original more fraction)
    (word_2 little (n / 10 ^ 9) (n % 10 ^ 9) (length frame.bytes) frame.original more captured)
    (word_3 little (n / 10 ^ 9) (n % 10 ^ 9) (length frame.bytes) frame.original more is.original)
    fits.short long
    ∙ ap (λ (t : Option ℤ). item.Item (record { time = t; link = link; little = little; original = frame.original; start = 16; len = length frame.bytes; end = 16 + length frame.bytes })) time
    ∙ ap (λ (l : ℕ). item.Item (record { time = frame.time; link = l; little = little; original = frame.original; start = 16; len = length frame.bytes; end = 16 + length frame.bytes })) (sym fits.same)

frame_bytes : (little : Bool) (frame : Frame) (rest : List ℕ) → take (length frame.bytes) (drop 16 (pcap_record little frame ++ rest)) ≡ frame.bytes
frame_bytes true frame rest = take_at frame.bytes rest (length frame.bytes) refl
frame_bytes false frame rest = take_at frame.bytes rest (length frame.bytes) refl

record_behind : (little : Bool) (frame : Frame) (rest : List ℕ) → drop (16 + length frame.bytes) (pcap_record little frame ++ rest) ≡ rest
record_behind true frame rest = sym (drop-drop (length frame.bytes) 16 (pcap_record true frame ++ rest)) ∙ drop_at frame.bytes rest (length frame.bytes) refl
record_behind false frame rest = sym (drop-drop (length frame.bytes) 16 (pcap_record false frame ++ rest)) ∙ drop_at frame.bytes rest (length frame.bytes) refl

-- all records are read
pub records-back : (little : Bool) (link : ℕ) (frames : List Frame) (number at : ℕ) → AreFrames frames → all_fit_pcap little link frames ≡ true
    → pieces (record_at false) head_behind false (head_of little link) number at 0 (pcap_records little frames)
    ≡ record { frames = all_read_back little number frames; ending = Whole }
records-back little link [] number at are fit = pieces-end (record_at false) head_behind false (head_of little link) number at [] refl
records-back little link (frame ∷ frames) number at are fit =
    let both = and_parts (fits_pcap little link frame) (all_fit_pcap little link frames) fit in
    let fits = fitting_pcap little link frame both.0 in
    let rest : List ℕ = pcap_records little frames in
    pieces-packet (record_at false) head_behind false (head_of little link) number at (pcap_record little frame ++ rest) (found_in little frame)
    (ap (of_record false at) (item-back little link frame rest are.0 fits)) (omega arith) (record_length little frame rest) (omega arith)
    ∙ ap (λ (bytes : List ℕ). with_frame (record { number = number; time = frame.time; link = frame.link; little = little; bytes = bytes; original = frame.original })
    (pieces (record_at false) head_behind false (head_of little link) (suc number) (at + (16 + length frame.bytes)) 0
    (drop (16 + length frame.bytes) (pcap_record little frame ++ rest)))) (frame_bytes little frame rest)
    ∙ ap (λ (left : List ℕ). with_frame (read_back little number frame)
    (pieces (record_at false) head_behind false (head_of little link) (suc number) (at + (16 + length frame.bytes)) 0 left)) (record_behind little frame rest)
    ∙ ap (with_frame (read_back little number frame)) (records-back little link frames (suc number) (at + (16 + length frame.bytes)) are.1 both.1)

-- the header is read
header-back : (little : Bool) (link : ℕ) (rest : List ℕ) → link < 2 ^ 16
    → pcap_head (pcap_header little link ++ rest) ≡ head.Head (head_of little link)
unfolding pcap_head
header-back true link rest small =
    let back : number_at true 4 20 (pcap_header true link ++ rest) ≡ link = number_back true 4 link rest (omega arith) in
    let low : link % 2 ^ 16 ≡ link = mod-eq_of_lt small in
    let a : nat_lt (length (pcap_header true link ++ rest)) 4 ≡ false = grind (arith, nat_tests) in
    let b : nat_lt (length (pcap_header true link ++ rest)) 24 ≡ false = grind (arith, nat_tests) in
    rw (a, b, back, low) refl
header-back false link rest small =
    let back : number_at false 4 20 (pcap_header false link ++ rest) ≡ link = number_back false 4 link rest (omega arith) in
    let low : link % 2 ^ 16 ≡ link = mod-eq_of_lt small in
    let a : nat_lt (length (pcap_header false link ++ rest)) 4 ≡ false = grind (arith, nat_tests) in
    let b : nat_lt (length (pcap_header false link ++ rest)) 24 ≡ false = grind (arith, nat_tests) in
    rw (a, b, back, low) refl

file-begins : (little : Bool) (link : ℕ) (rest : List ℕ) → link < 2 ^ 16
    → reading_of false (pcap_header little link ++ rest) ≡ pieces (record_at false) head_behind false (head_of little link) 1 24 0 rest
file-begins true link rest small = ap (after_head false (pcap_header true link ++ rest)) (header-back true link rest small)
file-begins false link rest small = ap (after_head false (pcap_header false link ++ rest)) (header-back false link rest small)

link_small : (frames : List Frame) → AreFrames frames → link_of frames < 2 ^ 16
link_small [] are = omega arith
link_small (frame ∷ frames) are = are.0.link

-- the whole file
pub pcap-back : (frames : List Frame) → AreFrames frames → fits_in_pcap frames ≡ true → length (pcap_bytes frames) ≤ file_limit
    → capture_of (pcap_bytes frames) ≡ record { frames = all_read_back (order_of frames) 1 frames; ending = Whole }
unfolding pcap_bytes fits_in_pcap
pcap-back frames are fit small =
    capture-whole (pcap_header (order_of frames) (link_of frames) ++ pcap_records (order_of frames) frames) small
    ∙ file-begins (order_of frames) (link_of frames) (pcap_records (order_of frames) frames) (link_small frames are)
    ∙ records-back (order_of frames) (link_of frames) frames 1 24 are fit
