-- The times of a capture file's frames are small.
use Rattle.std.proofs.Common.{◌<◌, ◌≤◌, ℕ, zero, suc, ◌+◌, ◌-◌, ◌*◌, ◌/◌, ◌^◌, ◌%◌, ℤ, pos, ◌+ℤ◌, ◌*ℤ◌, Bool, true, false, not, ◌||◌, List, [], ◌∷◌, ◌++◌, length, take, drop, slice_index, Option, Some, None, arith}
use Rattle.std.specs.Prelude.{nat_lt, ◌==◌, if◌then◌else◌, slice_get, slice_range, IfSome}
use Rattle.std.specs.Option.{option_map}
use Rattle.std.specs.Int.{w64, cast_signed}
use Rattle.std.proofs.lemmas.Int.{ints}
use Rattle.pk_base.specs.declared.found.Found.{Found}
use Rattle.pk_base.specs.Endian.{number_at}
use Rattle.pk_base.specs.Limits.{captured_limit}
use Rattle.capture_formats.specs.declared.header.HeadStep.{HeadStep}
use Rattle.capture_formats.specs.declared.header.HeadStep.TheVariants as head
use Rattle.capture_formats.specs.Pcap.{pcap_head, pcap_item, nanoseconds as record_nanoseconds}
use Rattle.capture_formats.specs.declared.header.PcapHead.{PcapHead}
use Rattle.capture_formats.specs.declared.packet.ItemStep.{ItemStep}
use Rattle.capture_formats.specs.declared.packet.ItemStep.TheVariants as item
use Rattle.capture_formats.specs.Blocks.{block_at as block_read, ordered_block, measured_block, whole_block, interface_by, interface_with, packet_of, fitting, timed_packet, simple_packet, total_length, least_length, told_order, section_type, interface_type, obsolete_packet_type, simple_packet_type, enhanced_packet_type}
use Rattle.capture_formats.specs.Interface.{nanoseconds}
use Rattle.capture_formats.specs.Options.{option_of, options_of, after_option, settings_of, last_offset, after_all, default, padded, end_code, resolution_code, offset_code}
use Rattle.capture_formats.specs.Sections.{Scope, block_in, block_of, blocks_after, order_of, interfaces_of, scope_after, step_of}
use Rattle.capture_formats.specs.Ticks.{ticks_per_second}
use Rattle.capture_formats.specs.declared.block.Block.{Block}
use Rattle.capture_formats.specs.declared.block.Block.TheVariants as block
use Rattle.capture_formats.specs.declared.block.BlockRead.{BlockRead}
use Rattle.capture_formats.specs.declared.block.BlockRead.TheVariants as read
use Rattle.capture_formats.specs.declared.interface.Interface.{Interface}
use Rattle.capture_formats.specs.declared.options.OptionStep.{OptionStep}
use Rattle.capture_formats.specs.declared.options.OptionStep.TheVariants as option
use Rattle.capture_formats.specs.declared.options.Setting.{Setting}
use Rattle.capture_formats.specs.declared.options.Setting.TheVariants.{Resolution, Offset, Other}
use Rattle.capture_formats.specs.declared.options.Settings.{Settings}
use Rattle.capture_formats.proofs.Numbers.{number_at-small}
use Rattle.pk_base.proofs.Choices.{by_case}
use Rattle.capture_read.specs.FrameList.{IsTime}
use Rattle.capture_read.specs.Offsets.{IsOffset, AreInterfaces, IsStepTimely}
use Rattle.capture_read.specs.Capture.{is_pcapng}
use Rattle.capture_read.specs.Reader.{step_here, step_of_head, step_of_item, scope_then}
use Rattle.capture_read.specs.declared.kind.Kind.{Kind}
use Rattle.capture_read.specs.declared.kind.Kind.TheVariants.{Pcap, Pcapng}
use Rattle.capture_read.specs.Pieces.{of_record, of_block, record_at, block_at, blocks_behind}
use Rattle.capture_read.specs.declared.piece.Piece.{Piece}
use Rattle.capture_read.specs.declared.piece.Piece.TheVariants.{End, Packet, Passed}

-- the numbers are bytes
abbrev pub AreBytes : List ℕ → Type 0
AreBytes bytes = (k : ℕ) → slice_index bytes k < 2 ^ 8

small-pos : (n : ℕ) → n < 2 ^ 96 → IsTime (pos n)
small-pos n few = few

cast-offset : (n : ℕ) → n < 2 ^ 64 → IsOffset (cast_signed w64 n)
cast-offset n few = (omega (arith, ints), omega (arith, ints))

small-sum : (n : ℕ) (seconds : ℤ) → n < 2 ^ 94 → IsOffset seconds → IsTime (pos n +ℤ seconds *ℤ pos (10 ^ 9))
small-sum n seconds few is = omega (arith, ints, is.0, is.1)

small-nanoseconds : (interface : Interface) (high low : ℕ) → high < 2 ^ 32 → low < 2 ^ 32 → IsOffset interface.offset
    → IsTime (nanoseconds interface high low)
small-nanoseconds interface high low top bottom is =
    let ticks : ℕ = (high * 2 ^ 32 + low) * 10 ^ 9 in
    let few : ticks < 2 ^ 94 = omega arith in
    let less : ticks / interface.rate ≤ ticks = omega arith in
    small-sum (ticks / interface.rate) interface.offset (omega (arith, few, less)) is

-- bytes that are left, and the first of them, are bytes
pub bytes-drop : (n : ℕ) (bytes : List ℕ) → AreBytes bytes → AreBytes (drop n bytes)
bytes-drop zero bytes are = are
bytes-drop (suc n) [] are = are
bytes-drop (suc n) (b ∷ rest) are = bytes-drop n rest (λ k. are (suc k))

pub bytes-take : (n : ℕ) (bytes : List ℕ) → AreBytes bytes → (k : ℕ) → slice_index (take n bytes) k < 2 ^ 8
bytes-take zero bytes are k = omega arith
bytes-take (suc n) [] are k = omega arith
bytes-take (suc n) (b ∷ rest) are zero = are 0
bytes-take (suc n) (b ∷ rest) are (suc k) = bytes-take n rest (λ i. are (suc i)) k

-- a frame's time is small, if there is a frame
abbrev pub IsTimely : Piece → Type 0
IsTimely (End ending) = Unit {0}
IsTimely (Packet found) = IfSome found.time IsTime
IsTimely (Passed size) = Unit {0}

-- records of a pcap file
abbrev IsItemTimely : ItemStep → Type 0
IsItemTimely (item.Need n) = Unit {0}
IsItemTimely (item.Item found) = IfSome found.time IsTime
IsItemTimely (item.Bad reason) = Unit {0}

small-record_time : (nano : Bool) (seconds fraction : ℕ) → seconds < 2 ^ 32 → fraction < 2 ^ 32 → IsTime (record_nanoseconds nano seconds fraction)
small-record_time true seconds fraction few less = small-pos (seconds * 10 ^ 9 + fraction) (omega arith)
small-record_time false seconds fraction few less = small-pos (seconds * 10 ^ 9 + fraction * 10 ^ 3) (omega arith)

item-timely : (head : PcapHead) (bytes : List ℕ) → AreBytes bytes → IsItemTimely (pcap_item head bytes)
unfolding pcap_item
item-timely head bytes are =
    let seconds : number_at head.little 4 0 bytes < 2 ^ 32 = omega (arith, number_at-small head.little 4 0 bytes are) in
    let fraction : number_at head.little 4 4 bytes < 2 ^ 32 = omega (arith, number_at-small head.little 4 4 bytes are) in
    by_case IsItemTimely (nat_lt (length bytes) 16) _ _ (λ h. tt)
    (λ h. by_case IsItemTimely (nat_lt captured_limit (number_at head.little 4 8 bytes)) _ _ (λ h. tt)
    (λ h. by_case IsItemTimely (nat_lt (length bytes) (16 + number_at head.little 4 8 bytes)) _ _ (λ h. tt)
    (λ h. small-record_time head.nano (number_at head.little 4 0 bytes) (number_at head.little 4 4 bytes) seconds fraction)))

of_record-timely : (large : Bool) (at : ℕ) (step : ItemStep) → IsItemTimely step → IsTimely (of_record large at step)
of_record-timely large at (item.Need n) is = tt
of_record-timely large at (item.Bad reason) is = tt
of_record-timely large at (item.Item found) is = is

pub record-timely : (large : Bool) (head : PcapHead) (at : ℕ) (bytes : List ℕ) → AreBytes bytes → IsTimely (record_at large head at bytes)
record-timely large head at bytes are = of_record-timely large at (pcap_item head bytes) (item-timely head bytes are)

-- options of an interface
abbrev IsSetting : Setting → Type 0
IsSetting (Resolution r) = Unit {0}
IsSetting (Offset seconds) = IsOffset seconds
IsSetting Other = Unit {0}

abbrev AreSettings : List Setting → Type 0
AreSettings [] = Unit {0}
AreSettings (setting ∷ later) = IsSetting setting × AreSettings later

abbrev AreMaybe : Option (List Setting) → Type 0
AreMaybe None = Unit {0}
AreMaybe (Some all) = AreSettings all

abbrev IsOption : OptionStep → Type 0
IsOption option.End = Unit {0}
IsOption option.Bad = Unit {0}
IsOption (option.Sets setting size) = IsSetting setting

is_option : (little : Bool) (bytes : List ℕ) → AreBytes bytes → IsOption (option_of little bytes)
unfolding option_of
is_option little bytes are =
    let code : ℕ = number_at little 2 0 bytes in
    let value_length : ℕ = number_at little 2 2 bytes in
    let few : number_at little 8 4 bytes < 2 ^ 64 = omega (arith, number_at-small little 8 4 bytes are) in
    by_case IsOption (nat_lt (length bytes) 4) _ _ (λ h. tt)
    (λ h. by_case IsOption (code == end_code) _ _ (λ h. tt)
    (λ h. by_case IsOption (nat_lt (length bytes) (4 + padded value_length)) _ _ (λ h. tt)
    (λ h. by_case IsOption (code == resolution_code) _ _
    (λ h. by_case IsOption (value_length == 1) _ _ (λ h. tt) (λ h. tt))
    (λ h. by_case IsOption (code == offset_code) _ _
    (λ h. by_case IsOption (value_length == 8) _ _ (λ h. cast-offset (number_at little 8 4 bytes) few) (λ h. tt))
    (λ h. tt)))))

more-settings : (setting : Setting) (later : Option (List Setting)) → IsSetting setting → AreMaybe later → AreMaybe (option_map (λ all. setting ∷ all) later)
more-settings setting None is are = tt
more-settings setting (Some all) is are = (is, are)

are_settings : (little : Bool) (skip : ℕ) (bytes : List ℕ) → AreBytes bytes → AreMaybe (options_of little skip bytes)
unfolding options_of
are_settings little (suc skip) [] are = tt
are_settings little (suc skip) (b ∷ rest) are = are_settings little skip rest (λ k. are (suc k))
are_settings little zero [] are = tt
are_settings little zero (b ∷ rest) are =
    elim (option_of little (b ∷ rest)) as (λ step. IsOption step → AreMaybe (after_option (λ size. options_of little (size - 1) rest) step)) [
      | option.End ↦ λ is. tt
      | option.Bad ↦ λ is. tt
      | option.Sets setting size ↦ λ is. more-settings setting (options_of little (size - 1) rest) is (are_settings little (size - 1) rest (λ k. are (suc k)))
    ] (is_option little (b ∷ rest) are)

last-offset : (given : ℤ) (all : List Setting) → IsOffset given → AreSettings all → IsOffset (last_offset given all)
last-offset given [] is are = is
last-offset given (Resolution r ∷ later) is are = last-offset given later is are.1
last-offset given (Offset seconds ∷ later) is are = last-offset seconds later are.0 are.1
last-offset given (Other ∷ later) is are = last-offset given later is are.1

abbrev AreOptions : Option Settings → Type 0
AreOptions None = Unit {0}
AreOptions (Some settings) = IsOffset settings.offset

are_options : (little : Bool) (bytes : List ℕ) → AreBytes bytes → AreOptions (settings_of little bytes)
are_options little bytes are =
    elim (options_of little 0 bytes) as (λ all. AreMaybe all → AreOptions (option_map (after_all default) all)) [
      | None ↦ λ h. tt
      | Some all ↦ λ h. last-offset default.offset all (omega (arith, ints), omega (arith, ints)) h
    ] (are_settings little 0 bytes are)

abbrev IsInterface : Option Interface → Type 0
IsInterface None = Unit {0}
IsInterface (Some interface) = IsOffset interface.offset

one-more : (all : List Interface) (interface : Interface) → AreInterfaces all → IsOffset interface.offset → AreInterfaces (all ++ interface ∷ [])
one-more [] interface are is = (is, tt)
one-more (first ∷ later) interface are is = (are.0, one-more later interface are.1 is)

one-of : (all : List Interface) (number : ℕ) → AreInterfaces all → IsInterface (slice_get all number)
one-of [] number are = tt
one-of (first ∷ later) zero are = are.0
one-of (first ∷ later) (suc number) are = one-of later number are.1

-- blocks of a pcapng file
abbrev IsBlock : BlockRead → Type 0
IsBlock (read.Need n) = Unit {0}
IsBlock (read.Whole (block.Section little) end) = Unit {0}
IsBlock (read.Whole (block.Interface interface) end) = IsOffset interface.offset
IsBlock (read.Whole (block.Packet found) end) = IfSome found.time IsTime
IsBlock (read.Whole block.Other end) = Unit {0}
IsBlock (read.Bad reason) = Unit {0}

is_fitting : (found : Found) → IfSome found.time IsTime → IsBlock (fitting found)
is_fitting found is =
    by_case IsBlock (nat_lt captured_limit found.len) _ _ (λ h. tt)
    (λ h. by_case IsBlock (nat_lt found.end (found.start + found.len + 4)) _ _ (λ h. tt) (λ h. is))

is_timed : (little : Bool) (bytes : List ℕ) (interface : Option Interface) → AreBytes bytes → IsInterface interface
    → IsBlock (packet_of (timed_packet little bytes) interface)
is_timed little bytes None are is = tt
is_timed little bytes (Some interface) are is =
    let high : number_at little 4 12 bytes < 2 ^ 32 = omega (arith, number_at-small little 4 12 bytes are) in
    let low : number_at little 4 16 bytes < 2 ^ 32 = omega (arith, number_at-small little 4 16 bytes are) in
    is_fitting (timed_packet little bytes interface)
    (small-nanoseconds interface (number_at little 4 12 bytes) (number_at little 4 16 bytes) high low is)

is_simple : (little : Bool) (bytes : List ℕ) (interface : Option Interface) → IsBlock (packet_of (simple_packet little bytes) interface)
is_simple little bytes None = tt
is_simple little bytes (Some interface) = is_fitting (simple_packet little bytes interface) tt

is_interface : (little : Bool) (bytes : List ℕ) (settings : Option Settings) → AreOptions settings → IsBlock (interface_by little bytes settings)
is_interface little bytes None is = tt
is_interface little bytes (Some settings) is =
    elim (ticks_per_second settings.resolution) as (λ rate. IsBlock (interface_with little bytes settings rate)) [
      | None ↦ tt
      | Some rate ↦ is
    ]

is_whole : (interfaces : List Interface) (little : Bool) (kind : ℕ) (bytes : List ℕ) → AreBytes bytes → AreInterfaces interfaces
    → IsBlock (whole_block interfaces little kind bytes)
is_whole interfaces little kind bytes are known =
    by_case IsBlock (kind == section_type) _ _
    (λ h. by_case IsBlock (number_at little 2 12 bytes == 1) _ _ (λ h. tt) (λ h. tt))
    (λ h. by_case IsBlock (kind == interface_type) _ _
    (λ h. is_interface little bytes (settings_of little (slice_range bytes 16 (total_length little bytes - 4)))
    (are_options little (slice_range bytes 16 (total_length little bytes - 4))
    (bytes-take (total_length little bytes - 4 - 16) (drop 16 bytes) (bytes-drop 16 bytes are))))
    (λ h. by_case IsBlock (kind == obsolete_packet_type) _ _
    (λ h. is_timed little bytes (slice_get interfaces (number_at little 2 8 bytes)) are (one-of interfaces (number_at little 2 8 bytes) known))
    (λ h. by_case IsBlock (kind == simple_packet_type) _ _
    (λ h. is_simple little bytes (slice_get interfaces 0))
    (λ h. by_case IsBlock (kind == enhanced_packet_type) _ _
    (λ h. is_timed little bytes (slice_get interfaces (number_at little 4 8 bytes)) are (one-of interfaces (number_at little 4 8 bytes) known))
    (λ h. tt)))))

is_measured : (interfaces : List Interface) (little : Bool) (bytes : List ℕ) → AreBytes bytes → AreInterfaces interfaces
    → IsBlock (measured_block interfaces little bytes)
is_measured interfaces little bytes are known =
    let kind : ℕ = number_at little 4 0 bytes in
    let total : ℕ = total_length little bytes in
    by_case IsBlock (nat_lt total (least_length kind) || not (total % 4 == 0)) _ _ (λ h. tt)
    (λ h. by_case IsBlock (nat_lt (length bytes) total) _ _ (λ h. tt)
    (λ h. by_case IsBlock (number_at little 4 (total - 4) bytes == total) _ _ (λ h. is_whole interfaces little kind bytes are known) (λ h. tt)))

is_read : (order : Option Bool) (interfaces : List Interface) (bytes : List ℕ) → AreBytes bytes → AreInterfaces interfaces
    → IsBlock (block_read order interfaces bytes)
unfolding block_read
is_read order interfaces bytes are known =
    by_case IsBlock (nat_lt (length bytes) 12) _ _ (λ h. tt)
    (λ h. elim (if number_at true 4 0 bytes == section_type then told_order bytes else order)
    as (λ told. IsBlock (ordered_block interfaces bytes told)) [
      | None ↦ tt
      | Some little ↦ is_measured interfaces little bytes are known
    ])

-- the blocks before, of which the interfaces have offsets of 64 bits
abbrev pub AreBlocks : List Block → Type 0
AreBlocks before = AreInterfaces (interfaces_of before)

are_blocks : (r : BlockRead) (before : List Block) → IsBlock r → AreBlocks before → AreBlocks (blocks_after r before)
are_blocks (read.Need n) before is are = are
are_blocks (read.Bad reason) before is are = are
are_blocks (read.Whole (block.Section little) end) before is are = tt
are_blocks (read.Whole (block.Interface interface) end) before is are = one-more (interfaces_of before) interface are is
are_blocks (read.Whole (block.Packet found) end) before is are = are
are_blocks (read.Whole block.Other end) before is are = are

of_block-timely : (large : Bool) (at : ℕ) (r : BlockRead) → IsBlock r → IsTimely (of_block large at (step_of r))
of_block-timely large at (read.Need n) is = tt
of_block-timely large at (read.Bad reason) is = tt
of_block-timely large at (read.Whole (block.Section little) end) is = tt
of_block-timely large at (read.Whole (block.Interface interface) end) is = tt
of_block-timely large at (read.Whole (block.Packet found) end) is = is
of_block-timely large at (read.Whole block.Other end) is = tt

pub block-timely : (large : Bool) (before : List Block) (at : ℕ) (bytes : List ℕ) → AreBytes bytes → AreBlocks before
    → IsTimely (block_at large before at bytes) × AreBlocks (blocks_behind before bytes)
block-timely large before at bytes are known =
    let is : IsBlock (block_of before bytes) = is_read (order_of before) (interfaces_of before) bytes are known in
    (of_block-timely large at (block_of before bytes) is, are_blocks (block_of before bytes) before is known)

-- the interfaces of the section behind a block
are_interfaces : (r : BlockRead) (scope : Scope) → IsBlock r → AreInterfaces scope.interfaces → AreInterfaces (scope_after r scope).interfaces
are_interfaces (read.Need n) scope is are = are
are_interfaces (read.Bad reason) scope is are = are
are_interfaces (read.Whole (block.Section little) end) scope is are = tt
are_interfaces (read.Whole (block.Interface interface) end) scope is are = one-more scope.interfaces interface are is
are_interfaces (read.Whole (block.Packet found) end) scope is are = are
are_interfaces (read.Whole block.Other end) scope is are = are

step_of-timely : (r : BlockRead) → IsBlock r → IsStepTimely (step_of r)
step_of-timely (read.Need n) is = tt
step_of-timely (read.Bad reason) is = tt
step_of-timely (read.Whole (block.Section little) end) is = tt
step_of-timely (read.Whole (block.Interface interface) end) is = tt
step_of-timely (read.Whole (block.Packet found) end) is = is
step_of-timely (read.Whole block.Other end) is = tt

step_of_item-timely : (r : ItemStep) → IsItemTimely r → IsStepTimely (step_of_item r)
step_of_item-timely (item.Need n) is = tt
step_of_item-timely (item.Bad reason) is = tt
step_of_item-timely (item.Item found) is = is

step_of_head-timely : (r : HeadStep) → IsStepTimely (step_of_head r)
step_of_head-timely (head.Need n) = tt
step_of_head-timely (head.Head h) = tt
step_of_head-timely (head.Bad reason) = tt

pub step-timely : (kind : Option Kind) (scope : Scope) (bytes : List ℕ) → AreBytes bytes → AreInterfaces scope.interfaces → IsStepTimely (step_here kind scope bytes)
step-timely None scope bytes are known =
    by_case IsStepTimely (is_pcapng bytes) _ _ (λ h. step_of-timely (block_in scope bytes) (is_read scope.order scope.interfaces bytes are known))
    (λ h. step_of_head-timely (pcap_head bytes))
step-timely (Some (Pcap h)) scope bytes are known = step_of_item-timely (pcap_item h bytes) (item-timely h bytes are)
step-timely (Some Pcapng) scope bytes are known = step_of-timely (block_in scope bytes) (is_read scope.order scope.interfaces bytes are known)

pub scope_then-offsets : (kind : Option Kind) (scope : Scope) (bytes : List ℕ) → AreBytes bytes → AreInterfaces scope.interfaces
    → AreInterfaces (scope_then kind scope bytes).interfaces
scope_then-offsets None scope bytes are known =
    by_case (λ (s : Scope). AreInterfaces s.interfaces) (is_pcapng bytes) _ _
    (λ h. are_interfaces (block_in scope bytes) scope (is_read scope.order scope.interfaces bytes are known) known) (λ h. known)
scope_then-offsets (Some (Pcap h)) scope bytes are known = known
scope_then-offsets (Some Pcapng) scope bytes are known = are_interfaces (block_in scope bytes) scope (is_read scope.order scope.interfaces bytes are known) known
