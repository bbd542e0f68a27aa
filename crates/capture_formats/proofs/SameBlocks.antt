-- A block is the same in bytes that begin alike.
use Rattle.std.proofs.Common.{◌≡◌, ◌<◌, ◌≤◌, ℕ, ◌+◌, ◌-◌, ◌%◌, Bool, true, false, not, ◌||◌, List, length, Option, Some, None, refl, sym, ap, ◌∙◌, arith}
use Rattle.std.specs.Prelude.{nat_lt, ◌==◌, if◌then◌else◌, slice_get, slice_range}
use Rattle.pk_base.specs.Endian.{number_at}
use Rattle.pk_base.specs.Limits.{captured_limit}
use Rattle.pk_base.specs.declared.found.Found.{Found}
use Rattle.pk_base.specs.declared.found.Reason.TheVariants.{BlockLength}
use Rattle.pk_base.proofs.Choices.{by_case, choice_same, both_same, isn't_less, less, not_less}
use Rattle.pk_base.proofs.SameFront.{IsSameFront, number_same, range_same}
use Rattle.capture_formats.specs.Blocks.{block_at, ordered_block, measured_block, whole_block, section_of, interface_of, interface_by, interface_with, packet_of, fitting, timed_packet, simple_packet, total_length, least_length, told_order, byte_order_magic, section_type, interface_type, obsolete_packet_type, simple_packet_type, enhanced_packet_type}
use Rattle.capture_formats.specs.Options.{settings_of}
use Rattle.capture_formats.specs.Ticks.{ticks_per_second}
use Rattle.capture_formats.specs.declared.block.Block.TheVariants as block
use Rattle.capture_formats.specs.declared.block.BlockRead.{BlockRead}
use Rattle.capture_formats.specs.declared.block.BlockRead.TheVariants.{Need, Whole, Bad}
use Rattle.capture_formats.specs.declared.interface.Interface.{Interface}
use Rattle.capture_formats.specs.declared.options.Settings.{Settings}
use Rattle.capture_formats.proofs.BlocksWithin.{some_length, first_false}

-- what a block is in bytes held is told by the first n of them, also for other bytes with these first ones
abbrev pub IsReadDecided : BlockRead → ℕ → ℕ → ℕ → Type 0
IsReadDecided (Need m) n held other = (held ≤ n) × (other < m)
IsReadDecided (Whole b end) n held other = end ≤ n
IsReadDecided (Bad reason) n held other = held ≤ n

-- the cases of a block whose length is right

section_same : (little : Bool) (n : ℕ) (xs ys : List ℕ) → IsSameFront n xs ys → 28 ≤ n → section_of little ys ≡ section_of little xs
section_same little n xs ys front long =
    let major : number_at little 2 12 ys ≡ number_at little 2 12 xs = sym (number_same little 2 12 n xs ys front (omega (arith, long))) in
    let total : total_length little ys ≡ total_length little xs = sym (number_same little 4 4 n xs ys front (omega (arith, long))) in
    rw (major, total) refl

interface_with-same : (little : Bool) (n : ℕ) (xs ys : List ℕ) → IsSameFront n xs ys → 20 ≤ n → (settings : Settings) (rate : Option ℕ)
    → interface_with little ys settings rate ≡ interface_with little xs settings rate
interface_with-same little n xs ys front long settings None = refl
interface_with-same little n xs ys front long settings (Some rate) =
    let link : number_at little 2 8 ys ≡ number_at little 2 8 xs = sym (number_same little 2 8 n xs ys front (omega (arith, long))) in
    let snap : number_at little 4 12 ys ≡ number_at little 4 12 xs = sym (number_same little 4 12 n xs ys front (omega (arith, long))) in
    let total : total_length little ys ≡ total_length little xs = sym (number_same little 4 4 n xs ys front (omega (arith, long))) in
    rw (link, snap, total) refl

interface_by-same : (little : Bool) (n : ℕ) (xs ys : List ℕ) → IsSameFront n xs ys → 20 ≤ n → (settings : Option Settings)
    → interface_by little ys settings ≡ interface_by little xs settings
interface_by-same little n xs ys front long None = refl
interface_by-same little n xs ys front long (Some settings) = interface_with-same little n xs ys front long settings (ticks_per_second settings.resolution)

interface_same : (little : Bool) (n : ℕ) (xs ys : List ℕ) → IsSameFront n xs ys → 20 ≤ total_length little xs → total_length little xs ≤ n
    → interface_of little ys ≡ interface_of little xs
interface_same little n xs ys front long within =
    let total : total_length little ys ≡ total_length little xs = sym (number_same little 4 4 n xs ys front (omega (arith, long, within))) in
    let options : slice_range ys 16 (total_length little xs - 4) ≡ slice_range xs 16 (total_length little xs - 4) =
    sym (range_same 16 (total_length little xs - 4) n xs ys front (omega (arith, long)) (omega (arith, within))) in
    ap (λ (end : ℕ). interface_by little ys (settings_of little (slice_range ys 16 (end - 4)))) total
    ∙ ap (λ (bytes : List ℕ). interface_by little ys (settings_of little bytes)) options
    ∙ interface_by-same little n xs ys front (omega (arith, long, within)) (settings_of little (slice_range xs 16 (total_length little xs - 4)))

packet_same : (f g : Interface → Found) → ((i : Interface) → g i ≡ f i) → (interface : Option Interface) → packet_of g interface ≡ packet_of f interface
packet_same f g same None = refl
packet_same f g same (Some i) = ap fitting (same i)

timed_same : (little : Bool) (n : ℕ) (xs ys : List ℕ) → IsSameFront n xs ys → 32 ≤ n → (i : Interface) → timed_packet little ys i ≡ timed_packet little xs i
timed_same little n xs ys front long i =
    let high : number_at little 4 12 ys ≡ number_at little 4 12 xs = sym (number_same little 4 12 n xs ys front (omega (arith, long))) in
    let low : number_at little 4 16 ys ≡ number_at little 4 16 xs = sym (number_same little 4 16 n xs ys front (omega (arith, long))) in
    let captured : number_at little 4 20 ys ≡ number_at little 4 20 xs = sym (number_same little 4 20 n xs ys front (omega (arith, long))) in
    let original : number_at little 4 24 ys ≡ number_at little 4 24 xs = sym (number_same little 4 24 n xs ys front (omega (arith, long))) in
    let total : total_length little ys ≡ total_length little xs = sym (number_same little 4 4 n xs ys front (omega (arith, long))) in
    rw (high, low, captured, original, total) refl

simple_same : (little : Bool) (n : ℕ) (xs ys : List ℕ) → IsSameFront n xs ys → 16 ≤ n → (i : Interface) → simple_packet little ys i ≡ simple_packet little xs i
simple_same little n xs ys front long i =
    let original : number_at little 4 8 ys ≡ number_at little 4 8 xs = sym (number_same little 4 8 n xs ys front (omega (arith, long))) in
    let total : total_length little ys ≡ total_length little xs = sym (number_same little 4 4 n xs ys front (omega (arith, long))) in
    rw (original, total) refl

whole_same : (interfaces : List Interface) (little : Bool) (kind n : ℕ) (xs ys : List ℕ) → IsSameFront n xs ys
    → least_length kind ≤ total_length little xs → total_length little xs ≤ n → whole_block interfaces little kind ys ≡ whole_block interfaces little kind xs
whole_same interfaces little kind n xs ys front least within =
    both_same (kind == section_type) _ _ _ _
    (λ a. let some : 28 ≤ total_length little xs = rw a at least in section_same little n xs ys front (omega (arith, some, within)))
    (λ a. both_same (kind == interface_type) _ _ _ _
    (λ b. let some : 20 ≤ total_length little xs = rw (a, b) at least in interface_same little n xs ys front some within)
    (λ b. both_same (kind == obsolete_packet_type) _ _ _ _
    (λ c. let some : 32 ≤ total_length little xs = rw (a, b, c) at least in
    let number : number_at little 2 8 ys ≡ number_at little 2 8 xs = sym (number_same little 2 8 n xs ys front (omega (arith, some, within))) in
    ap (λ (k : ℕ). packet_of (timed_packet little ys) (slice_get interfaces k)) number
    ∙ packet_same (timed_packet little xs) (timed_packet little ys) (timed_same little n xs ys front (omega (arith, some, within))) (slice_get interfaces (number_at little 2 8 xs)))
    (λ c. both_same (kind == simple_packet_type) _ _ _ _
    (λ d. let some : 16 ≤ total_length little xs = rw (a, b, c, d) at least in
    packet_same (simple_packet little xs) (simple_packet little ys) (simple_same little n xs ys front (omega (arith, some, within))) (slice_get interfaces 0))
    (λ d. both_same (kind == enhanced_packet_type) _ _ _ _
    (λ e. let some : 32 ≤ total_length little xs = rw (a, b, c, d, e) at least in
    let number : number_at little 4 8 ys ≡ number_at little 4 8 xs = sym (number_same little 4 8 n xs ys front (omega (arith, some, within))) in
    ap (λ (k : ℕ). packet_of (timed_packet little ys) (slice_get interfaces k)) number
    ∙ packet_same (timed_packet little xs) (timed_packet little ys) (timed_same little n xs ys front (omega (arith, some, within))) (slice_get interfaces (number_at little 4 8 xs)))
    (λ e. let some : 12 ≤ total_length little xs = rw (a, b, c, d, e) at least in
    ap (λ (total : ℕ). Whole block.Other total) (sym (number_same little 4 4 n xs ys front (omega (arith, some, within)))))))))

-- a block that is whole has its total length
abbrev EndsAt : ℕ → BlockRead → Type 0
EndsAt total (Need m) = ⊥
EndsAt total (Whole b end) = end ≡ total
EndsAt total (Bad reason) = Unit {0}

fitting-ends : (total : ℕ) (found : Found) → found.end ≡ total → EndsAt total (fitting found)
fitting-ends total found is =
    by_case (EndsAt total) (nat_lt captured_limit found.len) _ _ (λ h. tt)
    (λ h. by_case (EndsAt total) (nat_lt found.end (found.start + found.len + 4)) _ _ (λ h. tt) (λ h. is))

packet-ends : (total : ℕ) (found : Interface → Found) (interface : Option Interface) → ((i : Interface) → (found i).end ≡ total)
    → EndsAt total (packet_of found interface)
packet-ends total found None is = tt
packet-ends total found (Some i) is = fitting-ends total (found i) (is i)

interface-ends : (little : Bool) (bytes : List ℕ) (settings : Option Settings) → EndsAt (total_length little bytes) (interface_by little bytes settings)
interface-ends little bytes None = tt
interface-ends little bytes (Some settings) =
    elim (ticks_per_second settings.resolution) as (λ rate. EndsAt (total_length little bytes) (interface_with little bytes settings rate)) [
      | None ↦ tt
      | Some rate ↦ refl
    ]

whole-ends : (interfaces : List Interface) (little : Bool) (kind : ℕ) (bytes : List ℕ) → EndsAt (total_length little bytes) (whole_block interfaces little kind bytes)
whole-ends interfaces little kind bytes =
    by_case (EndsAt (total_length little bytes)) (kind == section_type) _ _
    (λ h. by_case (EndsAt (total_length little bytes)) (number_at little 2 12 bytes == 1) _ _ (λ h. refl) (λ h. tt))
    (λ h. by_case (EndsAt (total_length little bytes)) (kind == interface_type) _ _
    (λ h. interface-ends little bytes (settings_of little (slice_range bytes 16 (total_length little bytes - 4))))
    (λ h. by_case (EndsAt (total_length little bytes)) (kind == obsolete_packet_type) _ _
    (λ h. packet-ends (total_length little bytes) (timed_packet little bytes) (slice_get interfaces (number_at little 2 8 bytes)) (λ i. refl))
    (λ h. by_case (EndsAt (total_length little bytes)) (kind == simple_packet_type) _ _
    (λ h. packet-ends (total_length little bytes) (simple_packet little bytes) (slice_get interfaces 0) (λ i. refl))
    (λ h. by_case (EndsAt (total_length little bytes)) (kind == enhanced_packet_type) _ _
    (λ h. packet-ends (total_length little bytes) (timed_packet little bytes) (slice_get interfaces (number_at little 4 8 bytes)) (λ i. refl))
    (λ h. refl)))))

-- so it is within the bytes that tell it
ends_within : (total n held other : ℕ) (read : BlockRead) → EndsAt total read → total ≤ held → IsReadDecided read n held other → total ≤ n
ends_within total n held other (Need m) ends within decided = absurd ends
ends_within total n held other (Whole b end) ends within decided = omega (arith, ends, decided)
ends_within total n held other (Bad reason) ends within decided = omega (arith, within, decided)

-- a block by its length's cases
abbrev by_length : Bool → ℕ → ℕ → ℕ → BlockRead → BlockRead
by_length wrong total held repeated whole =
    if wrong then Bad BlockLength
    else if nat_lt held total then Need total
    else if repeated == total then whole
    else Bad BlockLength

-- as the bytes have them, where the block has this type and total length
abbrev measured_with : List Interface → Bool → List ℕ → ℕ → ℕ → BlockRead
measured_with interfaces little bytes kind total =
    by_length (nat_lt total (least_length kind) || not (total % 4 == 0)) total (length bytes) (number_at little 4 (total - 4) bytes) (whole_block interfaces little kind bytes)

repeated-ends : (interfaces : List Interface) (little : Bool) (kind : ℕ) (bytes : List ℕ) (right : Bool)
    → EndsAt (total_length little bytes) (if right then whole_block interfaces little kind bytes else Bad BlockLength)
repeated-ends interfaces little kind bytes right =
    by_case (EndsAt (total_length little bytes)) right _ _ (λ h. whole-ends interfaces little kind bytes) (λ h. tt)

measured_with-same : (interfaces : List Interface) (little : Bool) (kind n : ℕ) (xs ys : List ℕ) → IsSameFront n xs ys
    → IsReadDecided (measured_with interfaces little xs kind (total_length little xs)) n (length xs) (length ys)
    → measured_with interfaces little ys kind (total_length little xs) ≡ measured_with interfaces little xs kind (total_length little xs)
measured_with-same interfaces little kind n xs ys front decided =
    let total : ℕ = total_length little xs in
    let repeated : List ℕ → Bool = λ bytes. number_at little 4 (total_length little xs - 4) bytes == total_length little xs in
    let Decided : BlockRead → Type 0 = λ read. IsReadDecided read n (length xs) (length ys) in
    by_case (λ (read : BlockRead). IsReadDecided read n (length xs) (length ys) → measured_with interfaces little ys kind (total_length little xs) ≡ read)
    (nat_lt (total_length little xs) (least_length kind) || not (total_length little xs % 4 == 0)) (Bad BlockLength) _
    (λ wrong d. rw wrong refl)
    (λ right d.
    let least : least_length kind ≤ total_length little xs = isn't_less (total_length little xs) (least_length kind) (first_false _ _ right) in
    rw right (by_case (λ (read : BlockRead). IsReadDecided read n (length xs) (length ys)
    → (if nat_lt (length ys) (total_length little xs) then Need (total_length little xs) else if repeated ys then whole_block interfaces little kind ys else Bad BlockLength) ≡ read)
    (nat_lt (length xs) (total_length little xs)) (Need (total_length little xs)) (if repeated xs then whole_block interfaces little kind xs else Bad BlockLength)
    (λ h d. rw (less (length ys) (total_length little xs) d.1) refl)
    (λ h d.
    let within : total_length little xs ≤ n = ends_within (total_length little xs) n (length xs) (length ys)
    (if repeated xs then whole_block interfaces little kind xs else Bad BlockLength)
    (repeated-ends interfaces little kind xs (repeated xs)) (isn't_less (length xs) (total_length little xs) h) d in
    let long : 12 ≤ total_length little xs = omega (arith, least, some_length kind) in
    let same : number_at little 4 (total_length little xs - 4) ys ≡ number_at little 4 (total_length little xs - 4) xs =
    sym (number_same little 4 (total_length little xs - 4) n xs ys front (omega (arith, within, long))) in
    rw (not_less (length ys) (total_length little xs) (omega (arith, within, front.other)))
    (ap (λ (number : ℕ). if number == total_length little xs then whole_block interfaces little kind ys else Bad BlockLength) same
    ∙ choice_same Decided (repeated xs) (whole_block interfaces little kind xs) (whole_block interfaces little kind ys) (Bad BlockLength) (Bad BlockLength)
    (λ e. whole_same interfaces little kind n xs ys front least within) (λ e. refl) d)) d)) decided

measured_same : (interfaces : List Interface) (little : Bool) (n : ℕ) (xs ys : List ℕ) → IsSameFront n xs ys → 12 ≤ n
    → IsReadDecided (measured_block interfaces little xs) n (length xs) (length ys) → measured_block interfaces little ys ≡ measured_block interfaces little xs
measured_same interfaces little n xs ys front long decided =
    let kind : number_at little 4 0 ys ≡ number_at little 4 0 xs = sym (number_same little 4 0 n xs ys front (omega (arith, long))) in
    let total : total_length little ys ≡ total_length little xs = sym (number_same little 4 4 n xs ys front (omega (arith, long))) in
    ap (λ (k : ℕ). measured_with interfaces little ys k (total_length little ys)) kind
    ∙ ap (λ (t : ℕ). measured_with interfaces little ys (number_at little 4 0 xs) t) total
    ∙ measured_with-same interfaces little (number_at little 4 0 xs) n xs ys front decided

ordered_same : (interfaces : List Interface) (order : Option Bool) (n : ℕ) (xs ys : List ℕ) → IsSameFront n xs ys → 12 ≤ n
    → IsReadDecided (ordered_block interfaces xs order) n (length xs) (length ys) → ordered_block interfaces ys order ≡ ordered_block interfaces xs order
ordered_same interfaces None n xs ys front long decided = refl
ordered_same interfaces (Some little) n xs ys front long decided = measured_same interfaces little n xs ys front long decided

-- a block that is whole has twelve bytes
abbrev IsLong : BlockRead → Type 0
IsLong (Need m) = Unit {0}
IsLong (Whole b end) = 12 ≤ end
IsLong (Bad reason) = Unit {0}

ends_long : (total : ℕ) (read : BlockRead) → EndsAt total read → 12 ≤ total → IsLong read
ends_long total (Need m) ends long = tt
ends_long total (Whole b end) ends long = omega (arith, ends, long)
ends_long total (Bad reason) ends long = tt

measured-long : (interfaces : List Interface) (little : Bool) (bytes : List ℕ) → IsLong (measured_block interfaces little bytes)
measured-long interfaces little bytes =
    let kind : ℕ = number_at little 4 0 bytes in
    let total : ℕ = total_length little bytes in
    by_case IsLong (nat_lt (total_length little bytes) (least_length (number_at little 4 0 bytes)) || not (total_length little bytes % 4 == 0)) _ _ (λ h. tt)
    (λ right. by_case IsLong (nat_lt (length bytes) (total_length little bytes)) _ _ (λ h. tt)
    (λ h.
    let least : least_length (number_at little 4 0 bytes) ≤ total_length little bytes = isn't_less (total_length little bytes) (least_length (number_at little 4 0 bytes)) (first_false _ _ right) in
    ends_long (total_length little bytes) _ (repeated-ends interfaces little (number_at little 4 0 bytes) bytes (number_at little 4 (total_length little bytes - 4) bytes == total_length little bytes))
    (omega (arith, least, some_length (number_at little 4 0 bytes)))))

ordered-long : (interfaces : List Interface) (bytes : List ℕ) (order : Option Bool) → IsLong (ordered_block interfaces bytes order)
ordered-long interfaces bytes None = tt
ordered-long interfaces bytes (Some little) = measured-long interfaces little bytes

decided_twelve : (read : BlockRead) (n held other : ℕ) → IsLong read → IsReadDecided read n held other → 12 ≤ held → 12 ≤ n
decided_twelve (Need m) n held other long decided held_long = omega (arith, decided.0)
decided_twelve (Whole b end) n held other long decided held_long = omega (arith, decided)
decided_twelve (Bad reason) n held other long decided held_long = omega (arith, decided)

told_same : (n : ℕ) (xs ys : List ℕ) → IsSameFront n xs ys → 12 ≤ n → told_order ys ≡ told_order xs
told_same n xs ys front long =
    let low : number_at true 4 8 ys ≡ number_at true 4 8 xs = sym (number_same true 4 8 n xs ys front long) in
    let high : number_at false 4 8 ys ≡ number_at false 4 8 xs = sym (number_same false 4 8 n xs ys front long) in
    ap (λ (number : ℕ). if number == byte_order_magic then Some true else if number_at false 4 8 ys == byte_order_magic then Some false else None) low
    ∙ ap (λ (number : ℕ). if number_at true 4 8 xs == byte_order_magic then Some true else if number == byte_order_magic then Some false else None) high

-- the byte order of a block behind a section of this one
abbrev order_at : Option Bool → List ℕ → Option Bool
order_at order bytes = if number_at true 4 0 bytes == section_type then told_order bytes else order

order_same : (order : Option Bool) (n : ℕ) (xs ys : List ℕ) → IsSameFront n xs ys → 12 ≤ n → order_at order ys ≡ order_at order xs
order_same order n xs ys front long =
    let kind : number_at true 4 0 ys ≡ number_at true 4 0 xs = sym (number_same true 4 0 n xs ys front (omega (arith, long))) in
    ap (λ (number : ℕ). if number == section_type then told_order ys else order) kind
    ∙ ap (λ (told : Option Bool). if number_at true 4 0 xs == section_type then told else order) (told_same n xs ys front long)

block-few : (order : Option Bool) (interfaces : List Interface) (bytes : List ℕ) → length bytes < 12 → block_at order interfaces bytes ≡ Need 12
unfolding block_at
block-few order interfaces bytes few = rw (less (length bytes) 12 few) refl

block-long : (order : Option Bool) (interfaces : List Interface) (bytes : List ℕ) → 12 ≤ length bytes
    → block_at order interfaces bytes ≡ ordered_block interfaces bytes (order_at order bytes)
unfolding block_at
block-long order interfaces bytes long = rw (not_less (length bytes) 12 long) refl

block_at-long : (order : Option Bool) (interfaces : List Interface) (bytes : List ℕ) → IsLong (block_at order interfaces bytes)
unfolding block_at
block_at-long order interfaces bytes = by_case IsLong (nat_lt (length bytes) 12) _ _ (λ h. tt) (λ h. ordered-long interfaces bytes (order_at order bytes))

-- some bytes are needed where some are held
pub decided_some : (order : Option Bool) (interfaces : List Interface) (bytes : List ℕ) (least n other : ℕ)
    → IsReadDecided (block_at order interfaces bytes) n (length bytes) other → least ≤ length bytes → least ≤ 12 → least ≤ n
decided_some order interfaces bytes least n other decided held small =
    by_long (block_at order interfaces bytes) (block_at-long order interfaces bytes) decided
  where
    by_long : (read : BlockRead) → IsLong read → IsReadDecided read n (length bytes) other → least ≤ n
    by_long (Need m) long decided = omega (arith, decided.0, held)
    by_long (Whole b end) long decided = omega (arith, long, decided, small)
    by_long (Bad reason) long decided = omega (arith, decided, held)

pub block_same : (order : Option Bool) (interfaces : List Interface) (n : ℕ) (xs ys : List ℕ) → IsSameFront n xs ys
    → IsReadDecided (block_at order interfaces xs) n (length xs) (length ys) → block_at order interfaces ys ≡ block_at order interfaces xs
unfolding block_at
block_same order interfaces n xs ys front decided =
    by_case (λ (read : BlockRead). IsReadDecided read n (length xs) (length ys) → block_at order interfaces ys ≡ read)
    (nat_lt (length xs) 12) (Need 12) (ordered_block interfaces xs (order_at order xs))
    (λ h d. block-few order interfaces ys d.1)
    (λ h d.
    let long : 12 ≤ n = decided_twelve (ordered_block interfaces xs (order_at order xs)) n (length xs) (length ys) (ordered-long interfaces xs (order_at order xs)) d (isn't_less (length xs) 12 h) in
    block-long order interfaces ys (omega (arith, long, front.other))
    ∙ ap (λ (told : Option Bool). ordered_block interfaces ys told) (order_same order n xs ys front long)
    ∙ ordered_same interfaces (order_at order xs) n xs ys front long d) decided
