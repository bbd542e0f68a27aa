-- A packet of a written pcapng file is read back.
use Rattle.std.proofs.Common.{◌≡◌, ◌<◌, ◌≤◌, ◌+◌, ◌-◌, ◌*◌, ◌/◌, ◌%◌, ◌^◌, lit<, ℕ, ℤ, Bool, true, false, List, ◌++◌, length, take, drop, Option, Some, None, refl, sym, ap, ◌∙◌, append_assoc, arith, length-append}
use Rattle.pk_base.specs.Limits.{captured_limit}
use Rattle.pk_base.specs.Endian.{number_at}
use Rattle.std.specs.Prelude.{pos, ◌+ℤ◌, ◌*ℤ◌, ◌==◌, nat_lt, replicate, slice_get}
use Rattle.std.proofs.lemmas.Bool.Decides.{nat_tests}
use Rattle.std.proofs.lemmas.List.{take_at, length-replicate}
use Rattle.pk_base.specs.declared.found.Found.{Found}
use Rattle.capture_formats.specs.Blocks.{block_at, packet_of, fitting, timed_packet, simple_packet, kept_length, enhanced_packet_type, simple_packet_type}
use Rattle.capture_formats.specs.Interface.{nanoseconds}
use Rattle.capture_formats.specs.Options.{padded}
use Rattle.capture_formats.specs.declared.block.Block.TheVariants as block
use Rattle.capture_formats.specs.declared.block.BlockRead.TheVariants.{Whole}
use Rattle.capture_formats.specs.declared.interface.Interface.{Interface}
use Rattle.capture_read.specs.Capture.{frame_of}
use Rattle.capture_read.specs.declared.frame.Frame.{Frame}
use Rattle.capture_write.specs.Frames.{is_time_below, nanoseconds_of, IsFrame, read_back}
use Rattle.capture_write.specs.Numbers.{bytes_in}
use Rattle.capture_write.specs.Pcapng.{block_bytes, padded_bytes, enhanced_body, simple_body, packet_by, place_of, fits_by_time}
use Rattle.capture_write.proofs.BlockBack.{IsPlain, block-back, interface_for}
use Rattle.capture_write.proofs.FitLaws.{FitsPcapng, and_parts, same_by, time_is}
use Rattle.capture_write.proofs.NumberLaws.{number_back}

-- the packet's block is read, and its frame is the one that was written
pub record IsPacketBack (little : Bool) (interfaces : List Interface) (frame : Frame) (packet more : List ℕ) : Type 0 where
  pub found : Found
  pub read : block_at (Some little) interfaces (packet ++ more) ≡ Whole (block.Packet found) found.end
  pub ends : length packet ≡ found.end
  pub some : 0 < found.end
  pub within : found.start + found.len ≤ found.end
  pub same : (number : ℕ) → frame_of number found (packet ++ more) ≡ read_back little number frame

-- a length with what pads it
padded_bounds : (n : ℕ) → (n ≤ padded n) × (padded n ≤ n + 3) × (padded n % 4 ≡ 0)
padded_bounds n = (omega arith, omega arith, omega arith)

padded_length : (bytes : List ℕ) → length (padded_bytes bytes) ≡ padded (length bytes)
padded_length bytes =
    let bounds = padded_bounds (length bytes) in
    omega (arith, length-append bytes (replicate {A = ℕ} (padded (length bytes) - length bytes) 0), length-replicate {A = ℕ} (padded (length bytes) - length bytes) 0, bounds.0)

-- a packet that isn't too long, with room for it
fitting_whole : (found : Found) → found.len ≤ captured_limit → found.start + found.len + 4 ≤ found.end → fitting found ≡ Whole (block.Packet found) found.end
fitting_whole found short room =
    let a : nat_lt captured_limit found.len ≡ false = grind (arith, nat_tests) in
    let b : nat_lt found.end (found.start + found.len + 4) ≡ false = grind (arith, nat_tests) in
    rw (a, b) refl

-- seven numbers of four bytes, and what stands behind them
abbrev seven : Bool → ℕ → ℕ → ℕ → ℕ → ℕ → ℕ → ℕ → List ℕ → List ℕ
seven little a b c d e f g rest =
    bytes_in little 4 a ++ (bytes_in little 4 b ++ (bytes_in little 4 c ++ (bytes_in little 4 d
    ++ (bytes_in little 4 e ++ (bytes_in little 4 f ++ (bytes_in little 4 g ++ rest))))))

seven_1 : (little : Bool) (a b c d e f g : ℕ) (rest : List ℕ) → b < 2 ^ 32 → number_at little 4 4 (seven little a b c d e f g rest) ≡ b
seven_1 true a b c d e f g rest h = number_back true 4 b (bytes_in true 4 c ++ (bytes_in true 4 d ++ (bytes_in true 4 e ++ (bytes_in true 4 f ++ (bytes_in true 4 g ++ (rest)))))) h
seven_1 false a b c d e f g rest h = number_back false 4 b (bytes_in false 4 c ++ (bytes_in false 4 d ++ (bytes_in false 4 e ++ (bytes_in false 4 f ++ (bytes_in false 4 g ++ (rest)))))) h

seven_2 : (little : Bool) (a b c d e f g : ℕ) (rest : List ℕ) → c < 2 ^ 32 → number_at little 4 8 (seven little a b c d e f g rest) ≡ c
seven_2 true a b c d e f g rest h = number_back true 4 c (bytes_in true 4 d ++ (bytes_in true 4 e ++ (bytes_in true 4 f ++ (bytes_in true 4 g ++ (rest))))) h
seven_2 false a b c d e f g rest h = number_back false 4 c (bytes_in false 4 d ++ (bytes_in false 4 e ++ (bytes_in false 4 f ++ (bytes_in false 4 g ++ (rest))))) h

seven_3 : (little : Bool) (a b c d e f g : ℕ) (rest : List ℕ) → d < 2 ^ 32 → number_at little 4 12 (seven little a b c d e f g rest) ≡ d
seven_3 true a b c d e f g rest h = number_back true 4 d (bytes_in true 4 e ++ (bytes_in true 4 f ++ (bytes_in true 4 g ++ (rest)))) h
seven_3 false a b c d e f g rest h = number_back false 4 d (bytes_in false 4 e ++ (bytes_in false 4 f ++ (bytes_in false 4 g ++ (rest)))) h

seven_4 : (little : Bool) (a b c d e f g : ℕ) (rest : List ℕ) → e < 2 ^ 32 → number_at little 4 16 (seven little a b c d e f g rest) ≡ e
seven_4 true a b c d e f g rest h = number_back true 4 e (bytes_in true 4 f ++ (bytes_in true 4 g ++ (rest))) h
seven_4 false a b c d e f g rest h = number_back false 4 e (bytes_in false 4 f ++ (bytes_in false 4 g ++ (rest))) h

seven_5 : (little : Bool) (a b c d e f g : ℕ) (rest : List ℕ) → f < 2 ^ 32 → number_at little 4 20 (seven little a b c d e f g rest) ≡ f
seven_5 true a b c d e f g rest h = number_back true 4 f (bytes_in true 4 g ++ (rest)) h
seven_5 false a b c d e f g rest h = number_back false 4 f (bytes_in false 4 g ++ (rest)) h

seven_6 : (little : Bool) (a b c d e f g : ℕ) (rest : List ℕ) → g < 2 ^ 32 → number_at little 4 24 (seven little a b c d e f g rest) ≡ g
seven_6 true a b c d e f g rest h = number_back true 4 g (rest) h
seven_6 false a b c d e f g rest h = number_back false 4 g (rest) h

seven-behind : (little : Bool) (a b c d e f g : ℕ) (rest : List ℕ) → drop 28 (seven little a b c d e f g rest) ≡ rest
seven-behind true a b c d e f g rest = refl
seven-behind false a b c d e f g rest = refl

-- the packet of an enhanced packet block, by its numbers
timed_by : (little : Bool) (bytes : List ℕ) (interface : Interface) (total high low captured original : ℕ)
    → number_at little 4 4 bytes ≡ total → number_at little 4 12 bytes ≡ high → number_at little 4 16 bytes ≡ low
    → number_at little 4 20 bytes ≡ captured → number_at little 4 24 bytes ≡ original
    → timed_packet little bytes interface ≡ record {
      time = Some (nanoseconds interface high low);
      link = interface.link;
      little = little;
      original = original;
      start = 28;
      len = captured;
      end = total;
    }
timed_by little bytes interface total high low captured original e4 e12 e16 e20 e24 = rw (e12, e16, e24, e20, e4) refl

-- a packet of an interface that is known
packet_whole : (found : Interface → Found) (interfaces : List Interface) (place : ℕ) (interface : Interface) (it : Found)
    → slice_get interfaces place ≡ Some interface → found interface ≡ it
    → it.len ≤ captured_limit → it.start + it.len + 4 ≤ it.end
    → packet_of found (slice_get interfaces place) ≡ Whole (block.Packet it) it.end
packet_whole found interfaces place interface it known is short room =
    ap (packet_of found) known ∙ ap fitting is ∙ fitting_whole it short room

enhanced_plain : (little : Bool) → IsPlain little enhanced_packet_type
enhanced_plain true more = refl
enhanced_plain false more = refl

simple_plain : (little : Bool) → IsPlain little simple_packet_type
simple_plain true more = refl
simple_plain false more = refl

-- the size of an enhanced packet's block
abbrev enhanced_size : Frame → ℕ
enhanced_size frame = 32 + padded (length frame.bytes)

enhanced_length : (little : Bool) (place : ℕ) (frame : Frame) → 12 + length (enhanced_body little place frame) ≡ enhanced_size frame
enhanced_length true place frame = omega (arith, padded_length frame.bytes)
enhanced_length false place frame = omega (arith, padded_length frame.bytes)

-- what stands behind the captured bytes
abbrev behind_captured : Bool → ℕ → Frame → List ℕ → List ℕ
behind_captured little total frame more =
    replicate {A = ℕ} (padded (length frame.bytes) - length frame.bytes) 0 ++ (bytes_in little 4 total ++ more)

enhanced_parts : (little : Bool) (place : ℕ) (frame : Frame) (more : List ℕ)
    → block_bytes little enhanced_packet_type (enhanced_body little place frame) ++ more
    ≡ seven little enhanced_packet_type (12 + length (enhanced_body little place frame)) place (nanoseconds_of frame.time / 2 ^ 32) (nanoseconds_of frame.time % 2 ^ 32)
    (length frame.bytes) frame.original (frame.bytes ++ behind_captured little (12 + length (enhanced_body little place frame)) frame more)
enhanced_parts little place frame more = simp append_assoc

block_length : (little : Bool) (kind : ℕ) (body : List ℕ) → length (block_bytes little kind body) ≡ 12 + length body
block_length true kind body = omega (arith, length-append body (bytes_in true 4 (12 + length body)))
block_length false kind body = omega (arith, length-append body (bytes_in false 4 (12 + length body)))

-- where a frame with a time stands in its block
abbrev enhanced_found : Bool → Frame → Found
enhanced_found little frame = record {
  time = frame.time;
  link = frame.link;
  little = little;
  original = frame.original;
  start = 28;
  len = length frame.bytes;
  end = enhanced_size frame;
}

abbrev simple_found : Bool → Frame → Found
simple_found little frame = record {
  time = None;
  link = frame.link;
  little = little;
  original = frame.original;
  start = 12;
  len = length frame.bytes;
  end = 16 + padded (length frame.bytes);
}

time_back : (n : ℕ) → pos ((n / 2 ^ 32 * 2 ^ 32 + n % 2 ^ 32) * 10 ^ 9 / 10 ^ 9) +ℤ pos 0 *ℤ pos (10 ^ 9) ≡ pos n
time_back n = ap pos (omega arith)

enhanced_timed : (little : Bool) (place : ℕ) (frame : Frame) (more : List ℕ) → IsFrame frame → length frame.bytes ≤ captured_limit
    → nanoseconds_of frame.time < 2 ^ 64 → frame.time ≡ Some (pos (nanoseconds_of frame.time))
    → timed_packet little (block_bytes little enhanced_packet_type (enhanced_body little place frame) ++ more) (interface_for frame.link)
    ≡ enhanced_found little frame
enhanced_timed little place frame more is short bound time =
    let n : ℕ = nanoseconds_of frame.time in
    let total : ℕ = 12 + length (enhanced_body little place frame) in
    let size : 12 + length (enhanced_body little place frame) ≡ enhanced_size frame = enhanced_length little place frame in
    let bounds = padded_bounds (length frame.bytes) in
    let fits : 12 + length (enhanced_body little place frame) < 2 ^ 32 = omega (arith, size, bounds.1) in
    let captured : length frame.bytes < 2 ^ 32 = omega arith in
    let high : n / 2 ^ 32 < 2 ^ 32 = omega arith in
    let low : n % 2 ^ 32 < 2 ^ 32 = omega arith in
    let rest : List ℕ = frame.bytes ++ behind_captured little (12 + length (enhanced_body little place frame)) frame more in
    ap (λ (bytes : List ℕ). timed_packet little bytes (interface_for frame.link)) (enhanced_parts little place frame more)
    ∙ timed_by little (seven little enhanced_packet_type total place (n / 2 ^ 32) (n % 2 ^ 32) (length frame.bytes) frame.original rest) (interface_for frame.link)
    total (n / 2 ^ 32) (n % 2 ^ 32) (length frame.bytes) frame.original
    (seven_1 little enhanced_packet_type total place (n / 2 ^ 32) (n % 2 ^ 32) (length frame.bytes) frame.original rest fits)
    (seven_3 little enhanced_packet_type total place (n / 2 ^ 32) (n % 2 ^ 32) (length frame.bytes) frame.original rest high)
    (seven_4 little enhanced_packet_type total place (n / 2 ^ 32) (n % 2 ^ 32) (length frame.bytes) frame.original rest low)
    (seven_5 little enhanced_packet_type total place (n / 2 ^ 32) (n % 2 ^ 32) (length frame.bytes) frame.original rest captured)
    (seven_6 little enhanced_packet_type total place (n / 2 ^ 32) (n % 2 ^ 32) (length frame.bytes) frame.original rest is.original)
    ∙ ap (λ (t : Option ℤ). record { time = t; link = frame.link; little = little; original = frame.original; start = 28; len = length frame.bytes; end = 12 + length (enhanced_body little place frame) })
    (ap (λ (z : ℤ). Some z) (time_back n) ∙ sym time)
    ∙ ap (λ (end : ℕ). record { time = frame.time; link = frame.link; little = little; original = frame.original; start = 28; len = length frame.bytes; end = end }) size

enhanced_place : (little : Bool) (place : ℕ) (frame : Frame) (more : List ℕ) → place < 2 ^ 32
    → number_at little 4 8 (block_bytes little enhanced_packet_type (enhanced_body little place frame) ++ more) ≡ place
enhanced_place little place frame more small =
    ap (number_at little 4 8) (enhanced_parts little place frame more)
    ∙ seven_2 little enhanced_packet_type (12 + length (enhanced_body little place frame)) place (nanoseconds_of frame.time / 2 ^ 32) (nanoseconds_of frame.time % 2 ^ 32)
    (length frame.bytes) frame.original (frame.bytes ++ behind_captured little (12 + length (enhanced_body little place frame)) frame more) small

enhanced_captured : (little : Bool) (place : ℕ) (frame : Frame) (more : List ℕ)
    → take (length frame.bytes) (drop 28 (block_bytes little enhanced_packet_type (enhanced_body little place frame) ++ more)) ≡ frame.bytes
enhanced_captured little place frame more =
    ap (λ (bytes : List ℕ). take (length frame.bytes) (drop 28 bytes)) (enhanced_parts little place frame more)
    ∙ ap (take (length frame.bytes)) (seven-behind little enhanced_packet_type (12 + length (enhanced_body little place frame)) place
    (nanoseconds_of frame.time / 2 ^ 32) (nanoseconds_of frame.time % 2 ^ 32) (length frame.bytes) frame.original
    (frame.bytes ++ behind_captured little (12 + length (enhanced_body little place frame)) frame more))
    ∙ take_at frame.bytes (behind_captured little (12 + length (enhanced_body little place frame)) frame more) (length frame.bytes) refl

-- a frame with a time
pub enhanced-back : (little : Bool) (interfaces : List Interface) (place : ℕ) (frame : Frame) (more : List ℕ) → IsFrame frame
    → length frame.bytes ≤ captured_limit → nanoseconds_of frame.time < 2 ^ 64 → frame.time ≡ Some (pos (nanoseconds_of frame.time))
    → place < 2 ^ 32 → slice_get interfaces place ≡ Some (interface_for frame.link)
    → IsPacketBack little interfaces frame (block_bytes little enhanced_packet_type (enhanced_body little place frame)) more
enhanced-back little interfaces place frame more is short bound time small known =
    let body : List ℕ = enhanced_body little place frame in
    let size : 12 + length (enhanced_body little place frame) ≡ enhanced_size frame = enhanced_length little place frame in
    let bounds = padded_bounds (length frame.bytes) in
    let fits : 12 + length (enhanced_body little place frame) < 2 ^ 32 = omega (arith, size, bounds.1) in
    let least : 32 ≤ 12 + length (enhanced_body little place frame) = omega (arith, size) in
    let whole : (12 + length (enhanced_body little place frame)) % 4 ≡ 0 = ap (λ (n : ℕ). n % 4) size ∙ omega (arith, bounds.2) in
    let room : 28 + length frame.bytes + 4 ≤ enhanced_size frame = omega (arith, bounds.0) in
    record {
      found = enhanced_found little frame;
      read = block-back interfaces little enhanced_packet_type (enhanced_body little place frame) more (lit< tt) fits least whole (enhanced_plain little)
          ∙ ap (λ (n : ℕ). packet_of (timed_packet little (block_bytes little enhanced_packet_type (enhanced_body little place frame) ++ more)) (slice_get interfaces n))
          (enhanced_place little place frame more small)
          ∙ packet_whole (timed_packet little (block_bytes little enhanced_packet_type (enhanced_body little place frame) ++ more)) interfaces place (interface_for frame.link)
          (enhanced_found little frame) known (enhanced_timed little place frame more is short bound time) short room;
      ends = block_length little enhanced_packet_type (enhanced_body little place frame) ∙ size;
      some = omega arith;
      within = omega arith;
      same = λ number. ap (λ (bytes : List ℕ). record { number = number; time = frame.time; link = frame.link; little = little; bytes = bytes; original = frame.original })
          (enhanced_captured little place frame more);
    }

-- the same for a frame without a time
simple_length : (little : Bool) (frame : Frame) → 12 + length (simple_body little frame) ≡ 16 + padded (length frame.bytes)
simple_length true frame = omega (arith, padded_length frame.bytes)
simple_length false frame = omega (arith, padded_length frame.bytes)

abbrev three : Bool → ℕ → ℕ → ℕ → List ℕ → List ℕ
three little a b c rest = bytes_in little 4 a ++ (bytes_in little 4 b ++ (bytes_in little 4 c ++ rest))

three_1 : (little : Bool) (a b c : ℕ) (rest : List ℕ) → b < 2 ^ 32 → number_at little 4 4 (three little a b c rest) ≡ b
three_1 true a b c rest h = number_back true 4 b (bytes_in true 4 c ++ rest) h
three_1 false a b c rest h = number_back false 4 b (bytes_in false 4 c ++ rest) h

three_2 : (little : Bool) (a b c : ℕ) (rest : List ℕ) → c < 2 ^ 32 → number_at little 4 8 (three little a b c rest) ≡ c
three_2 true a b c rest h = number_back true 4 c rest h
three_2 false a b c rest h = number_back false 4 c rest h

three-behind : (little : Bool) (a b c : ℕ) (rest : List ℕ) → drop 12 (three little a b c rest) ≡ rest
three-behind true a b c rest = refl
three-behind false a b c rest = refl

simple_parts : (little : Bool) (frame : Frame) (more : List ℕ)
    → block_bytes little simple_packet_type (simple_body little frame) ++ more
    ≡ three little simple_packet_type (12 + length (simple_body little frame)) frame.original
    (frame.bytes ++ behind_captured little (12 + length (simple_body little frame)) frame more)
simple_parts little frame more = simp append_assoc

simple_by : (little : Bool) (bytes : List ℕ) (interface : Interface) (total original : ℕ)
    → number_at little 4 4 bytes ≡ total → number_at little 4 8 bytes ≡ original
    → simple_packet little bytes interface ≡ record {
      time = None;
      link = interface.link;
      little = little;
      original = original;
      start = 12;
      len = kept_length interface.snap original;
      end = total;
    }
simple_by little bytes interface total original e4 e8 = rw (e8, e4) refl

simple_is : (little : Bool) (frame : Frame) (more : List ℕ) → IsFrame frame → length frame.bytes ≤ captured_limit → frame.original ≡ length frame.bytes
    → simple_packet little (block_bytes little simple_packet_type (simple_body little frame) ++ more) (interface_for frame.link) ≡ simple_found little frame
simple_is little frame more is short whole =
    let total : ℕ = 12 + length (simple_body little frame) in
    let size : 12 + length (simple_body little frame) ≡ 16 + padded (length frame.bytes) = simple_length little frame in
    let bounds = padded_bounds (length frame.bytes) in
    let fits : 12 + length (simple_body little frame) < 2 ^ 32 = omega (arith, size, bounds.1) in
    let rest : List ℕ = frame.bytes ++ behind_captured little (12 + length (simple_body little frame)) frame more in
    ap (λ (bytes : List ℕ). simple_packet little bytes (interface_for frame.link)) (simple_parts little frame more)
    ∙ simple_by little (three little simple_packet_type total frame.original rest) (interface_for frame.link) total frame.original
    (three_1 little simple_packet_type total frame.original rest fits)
    (three_2 little simple_packet_type total frame.original rest is.original)
    ∙ ap (λ (len : ℕ). record { time = None; link = frame.link; little = little; original = frame.original; start = 12; len = len; end = 12 + length (simple_body little frame) }) whole
    ∙ ap (λ (end : ℕ). record { time = None; link = frame.link; little = little; original = frame.original; start = 12; len = length frame.bytes; end = end }) size

simple_captured : (little : Bool) (frame : Frame) (more : List ℕ)
    → take (length frame.bytes) (drop 12 (block_bytes little simple_packet_type (simple_body little frame) ++ more)) ≡ frame.bytes
simple_captured little frame more =
    ap (λ (bytes : List ℕ). take (length frame.bytes) (drop 12 bytes)) (simple_parts little frame more)
    ∙ ap (take (length frame.bytes)) (three-behind little simple_packet_type (12 + length (simple_body little frame)) frame.original
    (frame.bytes ++ behind_captured little (12 + length (simple_body little frame)) frame more))
    ∙ take_at frame.bytes (behind_captured little (12 + length (simple_body little frame)) frame more) (length frame.bytes) refl

pub simple-back : (little : Bool) (interfaces : List Interface) (frame : Frame) (more : List ℕ) → IsFrame frame
    → length frame.bytes ≤ captured_limit → frame.time ≡ None → frame.original ≡ length frame.bytes
    → slice_get interfaces 0 ≡ Some (interface_for frame.link)
    → IsPacketBack little interfaces frame (block_bytes little simple_packet_type (simple_body little frame)) more
simple-back little interfaces frame more is short time original known =
    let size : 12 + length (simple_body little frame) ≡ 16 + padded (length frame.bytes) = simple_length little frame in
    let bounds = padded_bounds (length frame.bytes) in
    let fits : 12 + length (simple_body little frame) < 2 ^ 32 = omega (arith, size, bounds.1) in
    let least : 16 ≤ 12 + length (simple_body little frame) = omega (arith, size) in
    let whole : (12 + length (simple_body little frame)) % 4 ≡ 0 = ap (λ (n : ℕ). n % 4) size ∙ omega (arith, bounds.2) in
    let room : 12 + length frame.bytes + 4 ≤ 16 + padded (length frame.bytes) = omega (arith, bounds.0) in
    record {
      found = simple_found little frame;
      read = block-back interfaces little simple_packet_type (simple_body little frame) more (lit< tt) fits least whole (simple_plain little)
          ∙ packet_whole (simple_packet little (block_bytes little simple_packet_type (simple_body little frame) ++ more)) interfaces 0 (interface_for frame.link)
          (simple_found little frame) known (simple_is little frame more is short original) short room;
      ends = block_length little simple_packet_type (simple_body little frame) ∙ size;
      some = omega arith;
      within = omega arith;
      same = λ number. ap (λ (bytes : List ℕ). record { number = number; time = None; link = frame.link; little = little; bytes = bytes; original = frame.original })
          (simple_captured little frame more)
          ∙ ap (λ (t : Option ℤ). record { number = number; time = t; link = frame.link; little = little; bytes = frame.bytes; original = frame.original }) (sym time);
    }

-- a frame that fits, by its time
packet-by : (little : Bool) (links : List ℕ) (interfaces : List Interface) (frame : Frame) (more : List ℕ) (time : Option ℤ) → IsFrame frame
    → length frame.bytes ≤ captured_limit → nanoseconds_of frame.time < 2 ^ 64 → fits_by_time links frame time ≡ true → frame.time ≡ time
    → place_of frame.link links < 2 ^ 32 → slice_get interfaces (place_of frame.link links) ≡ Some (interface_for frame.link)
    → IsPacketBack little interfaces frame (packet_by little (place_of frame.link links) frame time) more
packet-by little links interfaces frame more None is short bound fit same small known =
    let both = and_parts (place_of frame.link links == 0) (frame.original == length frame.bytes) fit in
    let zero : place_of frame.link links ≡ 0 = same_by (place_of frame.link links) 0 both.0 in
    simple-back little interfaces frame more is short same (same_by frame.original (length frame.bytes) both.1) (ap (slice_get interfaces) (sym zero) ∙ known)
packet-by little links interfaces frame more (Some t) is short bound fit same small known =
    enhanced-back little interfaces (place_of frame.link links) frame more is short bound
    (time_is (2 ^ 64) frame.time (ap (is_time_below (2 ^ 64)) same ∙ fit)) small known

pub packet-back : (little : Bool) (links : List ℕ) (interfaces : List Interface) (frame : Frame) (more : List ℕ) → IsFrame frame → FitsPcapng little links frame
    → place_of frame.link links < 2 ^ 32 → slice_get interfaces (place_of frame.link links) ≡ Some (interface_for frame.link)
    → IsPacketBack little interfaces frame (packet_by little (place_of frame.link links) frame frame.time) more
packet-back little links interfaces frame more is fits small known =
    packet-by little links interfaces frame more frame.time is fits.short fits.bound fits.time refl small known
