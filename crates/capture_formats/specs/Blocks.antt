-- The blocks of a pcapng file: draft-ietf-opsawg-pcapng, sections 3 and 4. Each begins behind the one before it.
--
--   block            0      4              8                                total - 4
--                    | type | total length | body, padded to 4 bytes        | total length again |
--
--   section, 4.1                           8                  12      14      16               24
--                                          | byte-order magic | major | minor | section length | options
--   interface, 4.2                         8           10         12        16
--                                          | link type | reserved | snaplen | options
--   enhanced packet, 4.3                   8           12          16         20         24         28
--                                          | interface | time high | time low | captured | original | the captured bytes, options
--   obsolete packet, appendix A            8           10      12     the rest as in an enhanced packet
--                                          | interface | drops |
--   simple packet, 4.4                     8          12
--                                          | original | the captured bytes
use Rattle.std.specs.Prelude.{◌≡◌, ◌<◌, ◌≤◌, ℕ, ◌+◌, ◌-◌, ◌%◌, min, Bool, true, false, not, ◌||◌, nat_lt, ◌==◌, if◌then◌else◌, List, length, slice_range, slice_get, Option, Some, None}
use Rattle.pk_base.specs.Endian.{number_at}
use Rattle.pk_base.specs.Limits.{captured_limit}
use Rattle.pk_base.specs.declared.found.Found.{Found}
use Rattle.pk_base.specs.declared.found.Reason.TheVariants.{UnknownMagic, BadVersion, TooLong, BlockLength, BadInterface, BadOption, BadResolution}
use Rattle.capture_formats.specs.Interface.{nanoseconds}
use Rattle.capture_formats.specs.Options.{settings_of}
use Rattle.capture_formats.specs.Ticks.{ticks_per_second}
use Rattle.capture_formats.specs.declared.block.Block.{Block}
use Rattle.capture_formats.specs.declared.block.Block.TheVariants as block
use Rattle.capture_formats.specs.declared.block.BlockRead.{BlockRead}
use Rattle.capture_formats.specs.declared.block.BlockRead.TheVariants.{Need, Whole, Bad}
use Rattle.capture_formats.specs.declared.interface.Interface.{Interface}
use Rattle.capture_formats.specs.declared.options.Settings.{Settings}

-- the types of the blocks that are read. A section's reads the same in both byte orders
abbrev pub section_type : ℕ
section_type = 0x0A0D_0D0A

abbrev pub interface_type : ℕ
interface_type = 1

abbrev pub obsolete_packet_type : ℕ
obsolete_packet_type = 2

abbrev pub simple_packet_type : ℕ
simple_packet_type = 3

abbrev pub enhanced_packet_type : ℕ
enhanced_packet_type = 6

-- the number with which a section's body begins, in the section's byte order
abbrev pub byte_order_magic : ℕ
byte_order_magic = 0x1A2B_3C4D

-- the least total length of a block of a type
abbrev pub least_length : ℕ → ℕ
least_length kind =
    if kind == section_type then 28
    else if kind == interface_type then 20
    else if kind == obsolete_packet_type then 32
    else if kind == simple_packet_type then 16
    else if kind == enhanced_packet_type then 32
    else 12

-- the total length that a block's second word tells
abbrev pub total_length : Bool → List ℕ → ℕ
total_length little bytes = number_at little 4 4 bytes

-- a section of the only major version
abbrev pub section_of : Bool → List ℕ → BlockRead
section_of little bytes =
    if number_at little 2 12 bytes == 1
    then Whole (block.Section little) (total_length little bytes) else Bad BadVersion

-- an interface whose options are read, by its clock's rate
abbrev pub interface_with : Bool → List ℕ → Settings → Option ℕ → BlockRead
interface_with little bytes settings None = Bad BadResolution
interface_with little bytes settings (Some rate) =
    Whole (block.Interface (record {
      link = number_at little 2 8 bytes;
      snap = number_at little 4 12 bytes;
      rate = rate;
      offset = settings.offset;
    }))
    (total_length little bytes)

-- an interface, by what its options say
abbrev pub interface_by : Bool → List ℕ → Option Settings → BlockRead
interface_by little bytes None = Bad BadOption
interface_by little bytes (Some settings) =
    interface_with little bytes settings (ticks_per_second settings.resolution)

-- an interface, whose options stand behind its snaplen
abbrev pub interface_of : Bool → List ℕ → BlockRead
interface_of little bytes =
    interface_by little bytes
    (settings_of little (slice_range bytes 16 (total_length little bytes - 4)))

-- the packet of an enhanced or obsolete packet block of an interface
abbrev pub timed_packet : Bool → List ℕ → Interface → Found
timed_packet little bytes interface = record {
  time = Some (nanoseconds interface (number_at little 4 12 bytes) (number_at little 4 16 bytes));
  link = interface.link;
  little = little;
  original = number_at little 4 24 bytes;
  start = 28;
  len = number_at little 4 20 bytes;
  end = total_length little bytes;
}

-- how many bytes of a packet an interface keeps: at most its snaplen, where that isn't 0
abbrev pub kept_length : ℕ → ℕ → ℕ
kept_length snap original = if snap == 0 then original else min original snap

-- the packet of a simple packet block of an interface
abbrev pub simple_packet : Bool → List ℕ → Interface → Found
simple_packet little bytes interface = record {
  time = None;
  link = interface.link;
  little = little;
  original = number_at little 4 8 bytes;
  start = 12;
  len = kept_length interface.snap (number_at little 4 8 bytes);
  end = total_length little bytes;
}

-- a packet that isn't too long, and whose block has room for it and for the total length behind it
abbrev pub fitting : Found → BlockRead
fitting found =
    if nat_lt captured_limit found.len then Bad TooLong
    else if nat_lt found.end (found.start + found.len + 4) then Bad BlockLength
    else Whole (block.Packet found) found.end

-- a packet of an interface that the section describes
abbrev pub packet_of : (Interface → Found) → Option Interface → BlockRead
packet_of found None = Bad BadInterface
packet_of found (Some interface) = fitting (found interface)

-- a block whose length is right, by its type's own cases. Interfaces are numbered from 0
abbrev pub whole_block : List Interface → Bool → ℕ → List ℕ → BlockRead
whole_block interfaces little kind bytes =
    if kind == section_type then section_of little bytes
    else if kind == interface_type then interface_of little bytes
    else if kind == obsolete_packet_type
    then packet_of (timed_packet little bytes)
    (slice_get interfaces (number_at little 2 8 bytes))
    else if kind == simple_packet_type
    then packet_of (simple_packet little bytes) (slice_get interfaces 0)
    else if kind == enhanced_packet_type
    then packet_of (timed_packet little bytes)
    (slice_get interfaces (number_at little 4 8 bytes))
    else Whole block.Other (total_length little bytes)

-- a block in a known byte order, by its length's cases and then its type's
abbrev pub measured_block : List Interface → Bool → List ℕ → BlockRead
measured_block interfaces little bytes =
    if nat_lt total (least_length kind) || not (total % 4 == 0) then Bad BlockLength
    else if nat_lt (length bytes) total then Need total
    else if number_at little 4 (total - 4) bytes == total
    then whole_block interfaces little kind bytes
    else Bad BlockLength
  where
    kind : ℕ
    kind = number_at little 4 0 bytes

    total : ℕ
    total = total_length little bytes

-- the byte order that a section tells: the one in which its magic number reads right
abbrev pub told_order : List ℕ → Option Bool
told_order bytes =
    if number_at true 4 8 bytes == byte_order_magic then Some true
    else if number_at false 4 8 bytes == byte_order_magic then Some false
    else None

-- a block in its byte order, where there is one
abbrev pub ordered_block : List Interface → List ℕ → Option Bool → BlockRead
ordered_block interfaces bytes None = Bad UnknownMagic
ordered_block interfaces bytes (Some little) = measured_block interfaces little bytes

-- what the bytes are from a block's first on, where the section before has this byte order and these interfaces
unfoldable pub block_at : Option Bool → List Interface → List ℕ → BlockRead
block_at order interfaces bytes =
    if nat_lt (length bytes) 12 then Need 12
    else ordered_block interfaces bytes (if number_at true 4 0 bytes == section_type
    then told_order bytes else order)

-- a block ends within so many bytes and its packet within the block, and more are needed only where there are fewer
abbrev pub IsPacketWithin : Block → ℕ → Type 0
IsPacketWithin (block.Section little) end = Unit {0}
IsPacketWithin (block.Interface interface) end = Unit {0}
IsPacketWithin (block.Packet found) end = (found.end ≡ end) × (found.start + found.len ≤ found.end)
IsPacketWithin block.Other end = Unit {0}

abbrev pub IsReadWithin : BlockRead → ℕ → Type 0
IsReadWithin (Need n) held = held < n
IsReadWithin (Whole b end) held = (0 < end) × (end ≤ held) × IsPacketWithin b end
IsReadWithin (Bad reason) held = Unit {0}
