-- What a frame is that fits.
use Rattle.std.proofs.Common.{◌≡◌, ◌<◌, ◌≤◌, ◌*◌, ◌^◌, lit<, ℕ, ℤ, Bool, true, false, List, length, Option, Some, None, refl, arith}
use Rattle.pk_base.specs.Limits.{captured_limit}
use Rattle.std.specs.Prelude.{pos, negsuc, ◌&&◌, not, nat_lt, ◌==◌}
use Rattle.std.proofs.lemmas.Bool.Decides.{nat_tests}
use Rattle.capture_read.specs.declared.frame.Frame.{Frame}
use Rattle.capture_write.specs.Frames.{is_time_below, nanoseconds_of, is_order_kept}
use Rattle.capture_write.specs.Pcap.{fits_pcap}
use Rattle.capture_write.specs.Pcapng.{fits_pcapng, fits_by_time}

pub and_parts : (a b : Bool) → (a && b) ≡ true → (a ≡ true) × (b ≡ true)
and_parts true true h = (refl, refl)
and_parts true false h = (refl, h)
and_parts false b h = cc

pub short_by : (limit n : ℕ) → not (nat_lt limit n) ≡ true → n ≤ limit
short_by limit n h = grind (arith, nat_tests)

pub same_by : (a b : ℕ) → (a == b) ≡ true → a ≡ b
same_by a b h = grind (arith, nat_tests)

-- a time below a limit
pub time_bound : (limit : ℕ) (time : Option ℤ) → is_time_below limit time ≡ true → nanoseconds_of time < limit
time_bound limit None h = cc
time_bound limit (Some (pos n)) h = grind (arith, nat_tests)
time_bound limit (Some (negsuc n)) h = cc

pub time_is : (limit : ℕ) (time : Option ℤ) → is_time_below limit time ≡ true → time ≡ Some (pos (nanoseconds_of time))
time_is limit None h = cc
time_is limit (Some (pos n)) h = refl
time_is limit (Some (negsuc n)) h = cc

-- a frame that fits into a pcap file
pub record FitsPcap (little : Bool) (link : ℕ) (frame : Frame) : Type 0 where
  pub order : is_order_kept little frame ≡ true
  pub short : length frame.bytes ≤ captured_limit
  pub same : frame.link ≡ link
  pub time : frame.time ≡ Some (pos (nanoseconds_of frame.time))
  pub bound : nanoseconds_of frame.time < 2 ^ 32 * 10 ^ 9

pub fitting_pcap : (little : Bool) (link : ℕ) (frame : Frame) → fits_pcap little link frame ≡ true → FitsPcap little link frame
fitting_pcap little link frame h =
    let first = and_parts (is_order_kept little frame) _ h in
    let second = and_parts (not (nat_lt captured_limit (length frame.bytes))) _ first.1 in
    let third = and_parts (frame.link == link) (is_time_below (2 ^ 32 * 10 ^ 9) frame.time) second.1 in
    record {
      order = first.0;
      short = short_by captured_limit (length frame.bytes) second.0;
      same = same_by frame.link link third.0;
      time = time_is (2 ^ 32 * 10 ^ 9) frame.time third.1;
      bound = time_bound (2 ^ 32 * 10 ^ 9) frame.time third.1;
    }

-- a frame that fits into a pcapng file
pub record FitsPcapng (little : Bool) (links : List ℕ) (frame : Frame) : Type 0 where
  pub order : is_order_kept little frame ≡ true
  pub short : length frame.bytes ≤ captured_limit
  pub time : fits_by_time links frame frame.time ≡ true
  pub bound : nanoseconds_of frame.time < 2 ^ 64

bound_by_time : (links : List ℕ) (frame : Frame) (time : Option ℤ) → fits_by_time links frame time ≡ true → nanoseconds_of time < 2 ^ 64
bound_by_time links frame None h = lit< tt
bound_by_time links frame (Some time) h = time_bound (2 ^ 64) (Some time) h

pub fitting_pcapng : (little : Bool) (links : List ℕ) (frame : Frame) → fits_pcapng little links frame ≡ true → FitsPcapng little links frame
fitting_pcapng little links frame h =
    let first = and_parts (is_order_kept little frame) _ h in
    let second = and_parts (not (nat_lt captured_limit (length frame.bytes))) (fits_by_time links frame frame.time) first.1 in
    record {
      order = first.0;
      short = short_by captured_limit (length frame.bytes) second.0;
      time = second.1;
      bound = bound_by_time links frame frame.time second.1;
    }
