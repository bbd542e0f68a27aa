-- Frames fit where their format holds each of them, and what is read of their file.
use Rattle.std.proofs.Common.{◌≡◌, ◌<◌, ◌≤◌, ◌*◌, ◌^◌, ◌↔◌, ℕ, suc, ℤ, Bool, true, false, true≢false, List, [], ◌∷◌, ◌++◌, length, Option, Some, None, refl, sym, ap, ◌∙◌, subst, arith}
use Rattle.std.specs.Prelude.{◌&&◌, not, nat_lt, ◌==◌, if◌then◌else◌}
use Rattle.std.specs.List.{AllByRecursion as Each}
use Rattle.std.proofs.lemmas.Bool.Decides.{nat_tests}
use Rattle.pk_base.specs.Limits.{captured_limit, file_limit}
use Rattle.capture_read.specs.Capture.{Reading, capture_of}
use Rattle.capture_read.specs.declared.frame.Frame.{Frame}
use Rattle.capture_write.specs.declared.format.Format.{Format}
use Rattle.capture_write.specs.declared.format.Format.TheVariants.{Pcap, Pcapng}
use Rattle.capture_write.specs.Frames.{is_time_below, nanoseconds_of, is_order_kept, order_of, AreFrames, all_read_back, AreOrdersKept}
use Rattle.capture_write.specs.Held.{IsTimeBelow, IsHeldInPcap, IsTimeInPcapng, IsHeldInPcapng, AreHeldIn}
use Rattle.capture_write.specs.Kept.{written, fits}
use Rattle.capture_write.specs.Pcap.{fits_pcap, all_fit_pcap, fits_in_pcap}
use Rattle.capture_write.specs.Pcapng.{place_of, is_new, links_with, fits_by_time, fits_pcapng, all_fit_pcapng, fits_in_pcapng}
use Rattle.capture_write.specs.ReadBack.{AreReadAs, IsReadingOf}
use Rattle.capture_write.proofs.FitLaws.{and_parts, same_by, time_bound, time_is, fitting_pcap, fitting_pcapng}
use Rattle.capture_write.proofs.KeptLaws.{order-kept, orders, file-back}

both_true : (a b : Bool) → a ≡ true → b ≡ true → (a && b) ≡ true
both_true true b e h = h
both_true false b e h = e

short_fits : (limit n : ℕ) → n ≤ limit → not (nat_lt limit n) ≡ true
short_fits limit n h = grind (arith, nat_tests)

same_fits : (a b : ℕ) → a ≡ b → (a == b) ≡ true
same_fits a b h = grind (arith, nat_tests)

below_fits : (n limit : ℕ) → n < limit → nat_lt n limit ≡ true
below_fits n limit h = grind (arith, nat_tests)

-- a byte order that is kept
same_order : (little flag : Bool) → flag ≡ little → (if little then flag else not flag) ≡ true
same_order true flag is = is
same_order false flag is = ap not is

order_fits : (little flag : Bool) (link : ℕ) → (link ≡ 0 → flag ≡ little) → (if link == 0 then (if little then flag else not flag) else true) ≡ true
order_fits little flag link kept = by (link == 0) refl
  where
    by : (b : Bool) → (link == 0) ≡ b → (if b then (if little then flag else not flag) else true) ≡ true
    by true is = same_order little flag (kept (same_by link 0 is))
    by false is = refl

-- a time below a limit
time_fits : (limit : ℕ) (time : Option ℤ) → IsTimeBelow limit time → is_time_below limit time ≡ true
time_fits limit time held = ap (is_time_below limit) held.1 ∙ below_fits held.0 limit held.2

time_held : (limit : ℕ) (time : Option ℤ) → is_time_below limit time ≡ true → IsTimeBelow limit time
time_held limit time fit = (nanoseconds_of time, time_is limit time fit, time_bound limit time fit)

-- a record's frame
pcap_held : (first frame : Frame) → fits_pcap first.little first.link frame ≡ true → IsHeldInPcap first frame
pcap_held first frame fit =
    let facts = fitting_pcap first.little first.link frame fit in
    record {
      short = facts.short;
      order = order-kept first.little frame.little frame.link facts.order;
      link = facts.same;
      time = (nanoseconds_of frame.time, facts.time, facts.bound);
    }

pcap_fits : (first frame : Frame) → IsHeldInPcap first frame → fits_pcap first.little first.link frame ≡ true
pcap_fits first frame held =
    both_true (is_order_kept first.little frame) (not (nat_lt captured_limit (length frame.bytes)) && (frame.link == first.link && is_time_below (2 ^ 32 * 10 ^ 9) frame.time))
    (order_fits first.little frame.little frame.link held.order)
    (both_true (not (nat_lt captured_limit (length frame.bytes))) (frame.link == first.link && is_time_below (2 ^ 32 * 10 ^ 9) frame.time)
    (short_fits captured_limit (length frame.bytes) held.short)
    (both_true (frame.link == first.link) (is_time_below (2 ^ 32 * 10 ^ 9) frame.time)
    (same_fits frame.link first.link held.link) (time_fits (2 ^ 32 * 10 ^ 9) frame.time held.time)))

records_held : (first : Frame) (frames : List Frame) → all_fit_pcap first.little first.link frames ≡ true → Each (IsHeldInPcap first) frames
records_held first [] fit = tt
records_held first (frame ∷ frames) fit =
    let both = and_parts (fits_pcap first.little first.link frame) (all_fit_pcap first.little first.link frames) fit in
    (pcap_held first frame both.0, records_held first frames both.1)

held_records : (first : Frame) (frames : List Frame) → Each (IsHeldInPcap first) frames → all_fit_pcap first.little first.link frames ≡ true
held_records first [] held = refl
held_records first (frame ∷ frames) held =
    both_true (fits_pcap first.little first.link frame) (all_fit_pcap first.little first.link frames)
    (pcap_fits first frame held.0) (held_records first frames held.1)

-- the first interface is that of the first frame's link type
place_first : (link first : ℕ) (more : List ℕ) → (place_of link (first ∷ more) == 0) ≡ true → link ≡ first
place_first link first more h = by (link == first) refl h
  where
    by : (b : Bool) → (link == first) ≡ b → ((if b then 0 else suc (place_of link more)) == 0) ≡ true → link ≡ first
    by true is h = same_by link first is
    by false is h = absurd (omega (arith, same_by (suc (place_of link more)) 0 h))

first_place : (link first : ℕ) (more : List ℕ) → link ≡ first → (place_of link (first ∷ more) == 0) ≡ true
first_place link first more same = by (link == first) refl
  where
    by : (b : Bool) → (link == first) ≡ b → ((if b then 0 else suc (place_of link more)) == 0) ≡ true
    by true is = same_fits 0 0 refl
    by false is = absurd (true≢false (sym (same_fits link first same) ∙ is))

-- the time of a packet behind the first
packet_time : (first : Frame) (more : List ℕ) (frame : Frame) (time : Option ℤ) → fits_by_time (first.link ∷ more) frame time ≡ true → IsTimeInPcapng first frame time
packet_time first more frame None fit =
    let both = and_parts (place_of frame.link (first.link ∷ more) == 0) (frame.original == length frame.bytes) fit in
    (place_first frame.link first.link more both.0, same_by frame.original (length frame.bytes) both.1)
packet_time first more frame (Some time) fit = time_held (2 ^ 64) (Some time) fit

time_packet : (first : Frame) (more : List ℕ) (frame : Frame) (time : Option ℤ) → IsTimeInPcapng first frame time → fits_by_time (first.link ∷ more) frame time ≡ true
time_packet first more frame None held =
    both_true (place_of frame.link (first.link ∷ more) == 0) (frame.original == length frame.bytes)
    (first_place frame.link first.link more held.0) (same_fits frame.original (length frame.bytes) held.1)
time_packet first more frame (Some time) held = time_fits (2 ^ 64) (Some time) held

-- and that of the first
first_time : (first : Frame) (time : Option ℤ) → fits_by_time [] first time ≡ true → IsTimeInPcapng first first time
first_time first None fit =
    let both = and_parts (place_of first.link [] == 0) (first.original == length first.bytes) fit in
    (refl, same_by first.original (length first.bytes) both.1)
first_time first (Some time) fit = time_held (2 ^ 64) (Some time) fit

time_first : (first : Frame) (time : Option ℤ) → IsTimeInPcapng first first time → fits_by_time [] first time ≡ true
time_first first None held =
    both_true (place_of first.link [] == 0) (first.original == length first.bytes)
    (same_fits 0 0 refl) (same_fits first.original (length first.bytes) held.1)
time_first first (Some time) held = time_fits (2 ^ 64) (Some time) held

-- a packet, given what its time says
packet_held : (first : Frame) (links : List ℕ) (frame : Frame) → (fits_by_time links frame frame.time ≡ true → IsTimeInPcapng first frame frame.time)
    → fits_pcapng first.little links frame ≡ true → IsHeldInPcapng first frame
packet_held first links frame timely fit =
    let facts = fitting_pcapng first.little links frame fit in
    record {
      short = facts.short;
      order = order-kept first.little frame.little frame.link facts.order;
      time = timely facts.time;
    }

packet_fits : (first : Frame) (links : List ℕ) (frame : Frame) → fits_by_time links frame frame.time ≡ true → IsHeldInPcapng first frame
    → fits_pcapng first.little links frame ≡ true
packet_fits first links frame timely held =
    both_true (is_order_kept first.little frame) (not (nat_lt captured_limit (length frame.bytes)) && fits_by_time links frame frame.time)
    (order_fits first.little frame.little frame.link held.order)
    (both_true (not (nat_lt captured_limit (length frame.bytes))) (fits_by_time links frame frame.time)
    (short_fits captured_limit (length frame.bytes) held.short) timely)

packets_held : (first : Frame) (more : List ℕ) (frames : List Frame) → all_fit_pcapng first.little (first.link ∷ more) frames ≡ true → Each (IsHeldInPcapng first) frames
packets_held first more [] fit = tt
packets_held first more (frame ∷ frames) fit =
    let both = and_parts (fits_pcapng first.little (first.link ∷ more) frame) (all_fit_pcapng first.little (links_with frame.link (first.link ∷ more)) frames) fit in (
      packet_held first (first.link ∷ more) frame (packet_time first more frame frame.time) both.0,
      by (is_new frame.link (first.link ∷ more)) (λ (later : List ℕ). packets_held first later frames) both.1,
    )
  where
    by : (b : Bool) → ((later : List ℕ) → all_fit_pcapng first.little (first.link ∷ later) frames ≡ true → Each (IsHeldInPcapng first) frames)
        → all_fit_pcapng first.little (if b then (first.link ∷ more) ++ frame.link ∷ [] else first.link ∷ more) frames ≡ true → Each (IsHeldInPcapng first) frames
    by true later fit = later (more ++ frame.link ∷ []) fit
    by false later fit = later more fit

held_packets : (first : Frame) (more : List ℕ) (frames : List Frame) → Each (IsHeldInPcapng first) frames → all_fit_pcapng first.little (first.link ∷ more) frames ≡ true
held_packets first more [] held = refl
held_packets first more (frame ∷ frames) held =
    both_true (fits_pcapng first.little (first.link ∷ more) frame) (all_fit_pcapng first.little (links_with frame.link (first.link ∷ more)) frames)
    (packet_fits first (first.link ∷ more) frame (time_packet first more frame frame.time held.0.time) held.0)
    (by (is_new frame.link (first.link ∷ more)) (λ (later : List ℕ). held_packets first later frames held.1))
  where
    by : (b : Bool) → ((later : List ℕ) → all_fit_pcapng first.little (first.link ∷ later) frames ≡ true)
        → all_fit_pcapng first.little (if b then (first.link ∷ more) ++ frame.link ∷ [] else first.link ∷ more) frames ≡ true
    by true later = later (more ++ frame.link ∷ [])
    by false later = later more

fits_held : (format : Format) (frames : List Frame) → fits format frames ≡ true → AreHeldIn format frames
unfolding fits_in_pcap fits_in_pcapng
fits_held Pcap [] fit = tt
fits_held Pcap (first ∷ frames) fit = records_held first (first ∷ frames) fit
fits_held Pcapng [] fit = tt
fits_held Pcapng (first ∷ frames) fit =
    let both = and_parts (fits_pcapng first.little [] first) (all_fit_pcapng first.little (first.link ∷ []) frames) fit in
    (packet_held first [] first (first_time first first.time) both.0, packets_held first [] frames both.1)

held_fits : (format : Format) (frames : List Frame) → AreHeldIn format frames → fits format frames ≡ true
unfolding fits_in_pcap fits_in_pcapng
held_fits Pcap [] held = refl
held_fits Pcap (first ∷ frames) held = held_records first (first ∷ frames) held
held_fits Pcapng [] held = refl
held_fits Pcapng (first ∷ frames) held =
    both_true (fits_pcapng first.little [] first) (all_fit_pcapng first.little (first.link ∷ []) frames)
    (packet_fits first [] first (time_first first first.time held.0.time) held.0) (held_packets first [] frames held.1)

pub fit_where_held : (format : Format) (frames : List Frame) → (fits format frames ≡ true) ↔ AreHeldIn format frames
fit_where_held format frames = (fits_held format frames, held_fits format frames)

-- what is read of each frame
each_read : (little : Bool) (place : ℕ) (frames : List Frame) → AreOrdersKept little frames → AreReadAs little place frames (all_read_back little place frames)
each_read little place [] are = tt
each_read little place (frame ∷ frames) are = (
  record { bytes = refl; time = refl; original = refl; link = refl; number = refl; order = refl; kept = λ is. sym (are.0 is) },
  each_read little (suc place) frames are.1,
)

-- the file of frames that fit is read as these
pub fitting_read_back : (format : Format) (frames : List Frame) → AreFrames frames → fits format frames ≡ true → length (written format frames) ≤ file_limit
    → IsReadingOf frames (capture_of (written format frames))
fitting_read_back format frames are fit small =
    subst (λ (reading : Reading). IsReadingOf frames reading) (sym (file-back format frames are fit small))
    (record { each = each_read (order_of frames) 1 frames (orders format frames fit); whole = refl })

pub written_read_back : (format : Format) (frames : List Frame) → AreFrames frames → AreHeldIn format frames → length (written format frames) ≤ file_limit
    → IsReadingOf frames (capture_of (written format frames))
written_read_back format frames are held small = fitting_read_back format frames are (held_fits format frames held) small
