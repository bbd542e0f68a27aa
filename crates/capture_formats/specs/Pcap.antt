-- The pcap capture file format: the manual page pcap-savefile(5) of libpcap, and draft-ietf-opsawg-pcap.
-- A file is a header and records, each behind the one before it. All numbers are unsigned, and in the file's byte order.
--
--   header   0       4       6       8          12        16        20          24
--            | magic | major | minor | thiszone | sigfigs | snaplen | link type |
--
--   record   0        4          8          12         16
--            | ts_sec | fraction | incl_len | orig_len | the incl_len captured bytes |
use Rattle.std.specs.Prelude.{◌<◌, ◌≤◌, ℕ, ◌+◌, ◌*◌, ◌%◌, ◌^◌, ℤ, pos, Bool, true, false, nat_lt, ◌==◌, if◌then◌else◌, List, length, Some}
use Rattle.pk_base.specs.Endian.{number_at}
use Rattle.pk_base.specs.Limits.{captured_limit}
use Rattle.pk_base.specs.declared.found.Reason.TheVariants.{UnknownMagic, BadVersion, TooLong}
use Rattle.capture_formats.specs.declared.header.PcapHead.{PcapHead}
use Rattle.capture_formats.specs.declared.header.HeadStep.{HeadStep}
use Rattle.capture_formats.specs.declared.header.HeadStep.TheVariants as head
use Rattle.capture_formats.specs.declared.packet.ItemStep.{ItemStep}
use Rattle.capture_formats.specs.declared.packet.ItemStep.TheVariants as item

-- a magic number whose file has times in seconds and microseconds
abbrev pub microsecond_magic : ℕ
microsecond_magic = 0xA1B2_C3D4

-- a magic number whose file has times in seconds and nanoseconds
abbrev pub nanosecond_magic : ℕ
nanosecond_magic = 0xA1B2_3C4D

-- the only major version
abbrev pub major_version : ℕ
major_version = 2

-- the header, where the magic number has told the byte order and what times count
abbrev pub header_after_magic : Bool → Bool → List ℕ → HeadStep
header_after_magic little nano bytes =
    if nat_lt (length bytes) 24 then head.Need 24
    else if number_at little 2 4 bytes == major_version
    then head.Head (record {
      little = little;
      nano = nano;
      link = number_at little 4 20 bytes % 2 ^ 16;
    })
    else head.Bad BadVersion

-- what the first bytes of a file are. Its byte order is the one in which the magic number reads right
unfoldable pub pcap_head : List ℕ → HeadStep
pcap_head bytes =
    if nat_lt (length bytes) 4 then head.Need 4
    else if number_at true 4 0 bytes == microsecond_magic then header_after_magic true false bytes
    else if number_at true 4 0 bytes == nanosecond_magic then header_after_magic true true bytes
    else if number_at false 4 0 bytes == microsecond_magic then header_after_magic false false bytes
    else if number_at false 4 0 bytes == nanosecond_magic then header_after_magic false true bytes
    else head.Bad UnknownMagic

-- nanoseconds since 1970
abbrev pub nanoseconds : Bool → ℕ → ℕ → ℤ
nanoseconds nano seconds fraction =
    pos (seconds * 10 ^ 9 + (if nano then fraction else fraction * 10 ^ 3))

-- what the bytes are from a record's first on
unfoldable pub pcap_item : PcapHead → List ℕ → ItemStep
pcap_item h bytes =
    if nat_lt (length bytes) 16 then item.Need 16
    else if nat_lt captured_limit (field 8) then item.Bad TooLong
    else if nat_lt (length bytes) (16 + field 8) then item.Need (16 + field 8)
    else item.Item (record {
      time = Some (nanoseconds h.nano (field 0) (field 4));
      link = h.link;
      little = h.little;
      original = field 12;
      start = 16;
      len = field 8;
      end = 16 + field 8;
    })
  where
    field : ℕ → ℕ
    field place = number_at h.little 4 place bytes

-- a header ends within so many bytes, and more are needed only where there are fewer
abbrev pub IsHeadWithin : HeadStep → ℕ → Type 0
IsHeadWithin (head.Need n) held = (held < n) × (n ≤ 24)
IsHeadWithin (head.Head h) held = 24 ≤ held
IsHeadWithin (head.Bad reason) held = Unit {0}

-- a record ends within so many bytes and its frame within the record, and more are needed only where there are fewer
abbrev pub IsItemWithin : ItemStep → ℕ → Type 0
IsItemWithin (item.Need n) held = (held < n) × (n ≤ 16 + captured_limit)
IsItemWithin (item.Item found) held =
    (0 < found.end) × (found.end ≤ held) × (found.start + found.len ≤ found.end)
IsItemWithin (item.Bad reason) held = Unit {0}
