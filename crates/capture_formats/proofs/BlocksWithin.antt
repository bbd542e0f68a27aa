-- Where a block ends.
use Rattle.std.proofs.Common.{◌≡◌, ◌<◌, ◌≤◌, ℕ, ◌+◌, ◌-◌, ◌%◌, Bool, true, false, not, ◌||◌, List, length, Option, Some, None, refl, arith}
use Rattle.std.specs.Prelude.{nat_lt, ◌==◌, if◌then◌else◌, slice_get, slice_range}
use Rattle.pk_base.specs.declared.found.Found.{Found}
use Rattle.pk_base.proofs.Choices.{by_case, is_less, isn't_less}
use Rattle.pk_base.specs.Endian.{number_at}
use Rattle.pk_base.specs.Limits.{captured_limit}
use Rattle.capture_formats.specs.Blocks.{block_at, ordered_block, measured_block, whole_block, interface_by, interface_with, packet_of, fitting, timed_packet, simple_packet, total_length, least_length, told_order, section_type, interface_type, obsolete_packet_type, simple_packet_type, enhanced_packet_type, IsReadWithin}
use Rattle.capture_formats.specs.Options.{settings_of}
use Rattle.capture_formats.specs.Ticks.{ticks_per_second}
use Rattle.capture_formats.specs.declared.interface.Interface.{Interface}
use Rattle.capture_formats.specs.declared.options.Settings.{Settings}

-- the least total length of any block
pub some_length : (kind : ℕ) → 12 ≤ least_length kind
some_length kind =
    by_case (λ n. 12 ≤ n) (kind == section_type) 28 _ (λ h. omega arith)
    (λ h. by_case (λ n. 12 ≤ n) (kind == interface_type) 20 _ (λ h. omega arith)
    (λ h. by_case (λ n. 12 ≤ n) (kind == obsolete_packet_type) 32 _ (λ h. omega arith)
    (λ h. by_case (λ n. 12 ≤ n) (kind == simple_packet_type) 16 _ (λ h. omega arith)
    (λ h. by_case (λ n. 12 ≤ n) (kind == enhanced_packet_type) 32 12 (λ h. omega arith) (λ h. omega arith)))))

pub first_false : (a b : Bool) → (a || b) ≡ false → a ≡ false
first_false true b h = h
first_false false b h = refl

fitting-within : (found : Found) (held : ℕ) → 0 < found.end → found.end ≤ held → IsReadWithin (fitting found) held
fitting-within found held some within =
    by_case (λ read. IsReadWithin read held) (nat_lt captured_limit found.len) _ _ (λ h. tt)
    (λ h. by_case (λ read. IsReadWithin read held) (nat_lt found.end (found.start + found.len + 4)) _ _ (λ h. tt)
    (λ h. let fits = isn't_less found.end (found.start + found.len + 4) h in (some, within, (refl, omega arith))))

packet-within : (found : Interface → Found) (interface : Option Interface) (total held : ℕ)
    → ((i : Interface) → (found i).end ≡ total) → 0 < total → total ≤ held → IsReadWithin (packet_of found interface) held
packet-within found None total held is some within = tt
packet-within found (Some i) total held is some within =
    let ends : 0 < (found i).end = rw (is i) some in
    let inside : (found i).end ≤ held = rw (is i) within in
    fitting-within (found i) held ends inside

interface-within : (little : Bool) (bytes : List ℕ) (settings : Option Settings) (held : ℕ)
    → 0 < total_length little bytes → total_length little bytes ≤ held → IsReadWithin (interface_by little bytes settings) held
interface-within little bytes None held some within = tt
interface-within little bytes (Some settings) held some within =
    elim (ticks_per_second settings.resolution) as (λ rate. IsReadWithin (interface_with little bytes settings rate) held) [
      | None ↦ tt
      | Some rate ↦ (some, within, tt)
    ]

whole-within : (interfaces : List Interface) (little : Bool) (kind : ℕ) (bytes : List ℕ) (held : ℕ)
    → 0 < total_length little bytes → total_length little bytes ≤ held → IsReadWithin (whole_block interfaces little kind bytes) held
whole-within interfaces little kind bytes held some within =
    by_case (λ read. IsReadWithin read held) (kind == section_type) _ _
    (λ h. by_case (λ read. IsReadWithin read held) (number_at little 2 12 bytes == 1) _ _ (λ h. (some, within, tt)) (λ h. tt))
    (λ h. by_case (λ read. IsReadWithin read held) (kind == interface_type) _ _
    (λ h. interface-within little bytes (settings_of little (slice_range bytes 16 (total_length little bytes - 4))) held some within)
    (λ h. by_case (λ read. IsReadWithin read held) (kind == obsolete_packet_type) _ _
    (λ h. packet-within (timed_packet little bytes) (slice_get interfaces (number_at little 2 8 bytes)) (total_length little bytes) held (λ i. refl) some within)
    (λ h. by_case (λ read. IsReadWithin read held) (kind == simple_packet_type) _ _
    (λ h. packet-within (simple_packet little bytes) (slice_get interfaces 0) (total_length little bytes) held (λ i. refl) some within)
    (λ h. by_case (λ read. IsReadWithin read held) (kind == enhanced_packet_type) _ _
    (λ h. packet-within (timed_packet little bytes) (slice_get interfaces (number_at little 4 8 bytes)) (total_length little bytes) held (λ i. refl) some within)
    (λ h. (some, within, tt))))))

measured-within : (interfaces : List Interface) (little : Bool) (bytes : List ℕ)
    → IsReadWithin (measured_block interfaces little bytes) (length bytes)
measured-within interfaces little bytes =
    let kind : ℕ = number_at little 4 0 bytes in
    let total : ℕ = total_length little bytes in
    by_case (λ read. IsReadWithin read (length bytes)) (nat_lt total (least_length kind) || not (total % 4 == 0)) _ _ (λ h. tt)
    (λ right. by_case (λ read. IsReadWithin read (length bytes)) (nat_lt (length bytes) total) _ _ (λ h. is_less (length bytes) total h)
    (λ h. by_case (λ read. IsReadWithin read (length bytes)) (number_at little 4 (total - 4) bytes == total) _ _
    (λ same. let least = isn't_less total (least_length kind) (first_false _ _ right) in
    whole-within interfaces little kind bytes (length bytes) (omega (arith, some_length kind)) (isn't_less (length bytes) total h))
    (λ differs. tt)))

-- a block that is whole ends within the bytes, and its packet within the block
pub block_at-within : (order : Option Bool) (interfaces : List Interface) (bytes : List ℕ)
    → IsReadWithin (block_at order interfaces bytes) (length bytes)
unfolding block_at
block_at-within order interfaces bytes =
    by_case (λ read. IsReadWithin read (length bytes)) (nat_lt (length bytes) 12) _ _ (λ h. is_less (length bytes) 12 h)
    (λ h. elim (if number_at true 4 0 bytes == section_type then told_order bytes else order)
    as (λ told. IsReadWithin (ordered_block interfaces bytes told) (length bytes)) [
      | None ↦ tt
      | Some little ↦ measured-within interfaces little bytes
    ])
