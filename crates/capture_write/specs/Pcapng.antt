-- The frames of a list as a pcapng file of one section: draft-ietf-opsawg-pcapng, sections 3 and 4.
--
--   block             0      4              8                                total - 4
--                     | type | total length | body, padded to 4 bytes        | total length again |
--
--   section           0                  4       6       8
--   its body, 4.1     | byte-order magic | major | minor | section length, 2^64 - 1 where it isn't known
--
--   interface         0           2          4         8
--   its body, 4.2     | link type | reserved | snaplen | options: if_tsresol, opt_endofopt
--
--   enhanced packet   0           4           8          12         16         20
--   its body, 4.3     | interface | time high | time low | captured | original | the captured bytes
--
--   simple packet     0          4
--   its body, 4.4     | original | the captured bytes
use Rattle.std.specs.Prelude.{◌≡◌, ◌<◌, ℕ, suc, ◌+◌, ◌-◌, ◌/◌, ◌%◌, ◌^◌, ℤ, Bool, true, false, not, ◌&&◌, ◌==◌, nat_lt, if◌then◌else◌, List, [], ◌∷◌, ◌++◌, length, replicate, Option, Some, None}
use Rattle.pk_base.specs.Limits.{captured_limit}
use Rattle.capture_formats.specs.Blocks.{section_type, interface_type, simple_packet_type, enhanced_packet_type, byte_order_magic}
use Rattle.capture_formats.specs.Options.{resolution_code, end_code, padded}
use Rattle.capture_read.specs.declared.frame.Frame.{Frame}
use Rattle.capture_write.specs.Frames.{is_time_below, nanoseconds_of, is_order_kept, order_of}
use Rattle.capture_write.specs.Numbers.{bytes_in}

-- a block by its type and its body
abbrev pub block_bytes : Bool → ℕ → List ℕ → List ℕ
block_bytes little kind body =
    bytes_in little 4 kind ++ (bytes_in little 4 (12 + length body)
    ++ (body ++ bytes_in little 4 (12 + length body)))

-- version 1.0, of unknown length
abbrev pub section_body : Bool → List ℕ
section_body little =
    bytes_in little 4 byte_order_magic
    ++ (bytes_in little 2 1 ++ (bytes_in little 2 0 ++ bytes_in little 8 (2 ^ 64 - 1)))

-- no limit to the bytes kept of a packet, and a clock that counts units of 10^-9 seconds
abbrev pub interface_body : Bool → ℕ → List ℕ
interface_body little link =
    bytes_in little 2 link ++ (bytes_in little 2 0 ++ (bytes_in little 4 0
    ++ (bytes_in little 2 resolution_code ++ (bytes_in little 2 1 ++ (9 ∷ 0 ∷ 0 ∷ 0 ∷ []
    ++ (bytes_in little 2 end_code ++ bytes_in little 2 0))))))

-- bytes, and as many zeros as make them a multiple of 4
abbrev pub padded_bytes : List ℕ → List ℕ
padded_bytes bytes = bytes ++ replicate (padded (length bytes) - length bytes) 0

abbrev pub enhanced_body : Bool → ℕ → Frame → List ℕ
enhanced_body little place frame =
    bytes_in little 4 place ++ (bytes_in little 4 (nanoseconds_of frame.time / 2 ^ 32)
    ++ (bytes_in little 4 (nanoseconds_of frame.time % 2 ^ 32)
    ++ (bytes_in little 4 (length frame.bytes)
    ++ (bytes_in little 4 frame.original ++ padded_bytes frame.bytes))))

abbrev pub simple_body : Bool → Frame → List ℕ
simple_body little frame = bytes_in little 4 frame.original ++ padded_bytes frame.bytes

abbrev pub section_block : Bool → List ℕ
section_block little = block_bytes little section_type (section_body little)

abbrev pub interface_block : Bool → ℕ → List ℕ
interface_block little link = block_bytes little interface_type (interface_body little link)

-- the block of a frame of the interface with this number, by the frame's time
abbrev pub packet_by : Bool → ℕ → Frame → Option ℤ → List ℕ
packet_by little place frame None = block_bytes little simple_packet_type (simple_body little frame)
packet_by little place frame (Some time) =
    block_bytes little enhanced_packet_type (enhanced_body little place frame)

-- the number of a link type's interface, given the link types so far in the order of their first frames: interfaces are
-- numbered from 0, and a new link type's comes next
abbrev pub place_of : ℕ → List ℕ → ℕ
place_of link [] = 0
place_of link (l ∷ links) = if link == l then 0 else suc (place_of link links)

-- no frame so far has this link type
abbrev pub is_new : ℕ → List ℕ → Bool
is_new link [] = true
is_new link (l ∷ links) = if link == l then false else is_new link links

-- all of them are numbers of 16 bits
abbrev pub AreLinkTypes : List ℕ → Type 0
AreLinkTypes links = (link : ℕ) → is_new link links ≡ false → link < 2 ^ 16

-- the link types with that of one frame more
abbrev pub links_with : ℕ → List ℕ → List ℕ
links_with link links = if is_new link links then links ++ link ∷ [] else links

-- a new link type's interface
abbrev pub new_interface : Bool → ℕ → List ℕ → List ℕ
new_interface little link links = if is_new link links then interface_block little link else []

-- what is written of a frame: its interface, if it is new, and its packet
abbrev pub pcapng_piece : Bool → List ℕ → Frame → List ℕ
pcapng_piece little links frame =
    new_interface little frame.link links
    ++ packet_by little (place_of frame.link links) frame frame.time

abbrev pub pcapng_pieces : Bool → List ℕ → List Frame → List ℕ
pcapng_pieces little links [] = []
pcapng_pieces little links (frame ∷ frames) =
    pcapng_piece little links frame ++ pcapng_pieces little (links_with frame.link links) frames

-- a frame without a time is a simple packet, which is of interface 0 and tells its original length alone; a time is one of
-- 64 bits of nanoseconds
abbrev pub fits_by_time : List ℕ → Frame → Option ℤ → Bool
fits_by_time links frame None =
    (place_of frame.link links == 0) && (frame.original == length frame.bytes)
fits_by_time links frame (Some time) = is_time_below (2 ^ 64) (Some time)

abbrev pub fits_pcapng : Bool → List ℕ → Frame → Bool
fits_pcapng little links frame =
    is_order_kept little frame
    && (not (nat_lt captured_limit (length frame.bytes)) && fits_by_time links frame frame.time)

abbrev pub all_fit_pcapng : Bool → List ℕ → List Frame → Bool
all_fit_pcapng little links [] = true
all_fit_pcapng little links (frame ∷ frames) =
    fits_pcapng little links frame && all_fit_pcapng little (links_with frame.link links) frames

-- the whole file
unfoldable pub pcapng_bytes : List Frame → List ℕ
pcapng_bytes frames = section_block (order_of frames) ++ pcapng_pieces (order_of frames) [] frames

-- whether all frames fit into it
unfoldable pub fits_in_pcapng : List Frame → Bool
fits_in_pcapng frames = all_fit_pcapng (order_of frames) [] frames
