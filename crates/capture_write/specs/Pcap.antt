-- The frames of a list as a pcap file whose times count nanoseconds: the manual page pcap-savefile(5) of libpcap, and
-- draft-ietf-opsawg-pcap.
--
--   header   0       4       6       8          12        16        20          24
--            | magic | major | minor | thiszone | sigfigs | snaplen | link type |
--
--   record   0        4             8          12         16
--            | ts_sec | nanoseconds | incl_len | orig_len | the incl_len captured bytes |
use Rattle.std.specs.Prelude.{◌*◌, ◌/◌, ◌%◌, ◌^◌, ℕ, Bool, true, not, ◌&&◌, ◌==◌, nat_lt, List, [], ◌∷◌, ◌++◌, length}
use Rattle.pk_base.specs.Limits.{captured_limit}
use Rattle.capture_formats.specs.Pcap.{nanosecond_magic, major_version}
use Rattle.capture_read.specs.declared.frame.Frame.{Frame}
use Rattle.capture_write.specs.Frames.{is_time_below, nanoseconds_of, is_order_kept, order_of, link_of}
use Rattle.capture_write.specs.Numbers.{bytes_in}

-- version 2.4, no time zone, and the most bytes of a record as snaplen
abbrev pub pcap_header : Bool → ℕ → List ℕ
pcap_header little link =
    bytes_in little 4 nanosecond_magic
    ++ (bytes_in little 2 major_version ++ (bytes_in little 2 4 ++ (bytes_in little 4 0
    ++ (bytes_in little 4 0 ++ (bytes_in little 4 captured_limit ++ bytes_in little 4 link)))))

abbrev pub pcap_record : Bool → Frame → List ℕ
pcap_record little frame =
    bytes_in little 4 (nanoseconds_of frame.time / 10 ^ 9)
    ++ (bytes_in little 4 (nanoseconds_of frame.time % 10 ^ 9)
    ++ (bytes_in little 4 (length frame.bytes)
    ++ (bytes_in little 4 frame.original ++ frame.bytes)))

abbrev pub pcap_records : Bool → List Frame → List ℕ
pcap_records little [] = []
pcap_records little (frame ∷ frames) = pcap_record little frame ++ pcap_records little frames

-- a frame fits into a file of one link type that has a time in 32 bits of seconds
abbrev pub fits_pcap : Bool → ℕ → Frame → Bool
fits_pcap little link frame =
    is_order_kept little frame && (not (nat_lt captured_limit (length frame.bytes))
    && (frame.link == link && is_time_below (2 ^ 32 * 10 ^ 9) frame.time))

abbrev pub all_fit_pcap : Bool → ℕ → List Frame → Bool
all_fit_pcap little link [] = true
all_fit_pcap little link (frame ∷ frames) =
    fits_pcap little link frame && all_fit_pcap little link frames

-- the whole file
unfoldable pub pcap_bytes : List Frame → List ℕ
pcap_bytes frames =
    pcap_header (order_of frames) (link_of frames) ++ pcap_records (order_of frames) frames

-- whether all frames fit into it
unfoldable pub fits_in_pcap : List Frame → Bool
fits_in_pcap frames = all_fit_pcap (order_of frames) (link_of frames) frames
