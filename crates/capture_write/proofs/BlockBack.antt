-- A block of a written pcapng file is read back, by its type's own cases.
use Rattle.std.proofs.Common.{◌≡◌, ◌<◌, ◌≤◌, ◌+◌, ◌-◌, ◌%◌, ◌^◌, lit<, lit≤, ℕ, Bool, true, false, List, [], ◌++◌, length, drop, Some, None, refl, sym, ap, ◌∙◌, subst, append_assoc, arith, length-append}
use Rattle.pk_base.specs.Endian.{number_at}
use Rattle.std.specs.Prelude.{pos, ◌==◌, nat_lt}
use Rattle.std.proofs.lemmas.Bool.Decides.{nat_tests}
use Rattle.std.proofs.lemmas.List.{drop-drop, drop_at}
use Rattle.pk_base.specs.Endian.{number_in}
use Rattle.capture_formats.specs.Blocks.{block_at, measured_block, whole_block, least_length, section_type, interface_type}
use Rattle.capture_formats.specs.Options.{options_of, option_of}
use Rattle.capture_formats.specs.declared.block.Block.TheVariants as block
use Rattle.capture_formats.specs.declared.block.BlockRead.TheVariants.{Whole}
use Rattle.capture_formats.specs.declared.interface.Interface.{Interface}
use Rattle.capture_write.specs.Numbers.{bytes_in}
use Rattle.capture_write.specs.Pcapng.{block_bytes, section_block, interface_block, interface_body}
use Rattle.capture_write.proofs.NumberLaws.{number_back}

-- a block before other bytes, by its parts
abbrev parts : Bool → ℕ → ℕ → List ℕ → List ℕ → List ℕ
parts little kind total body rest = bytes_in little 4 kind ++ (bytes_in little 4 total ++ (body ++ (bytes_in little 4 total ++ rest)))

block_parts : (little : Bool) (kind : ℕ) (body rest : List ℕ)
    → block_bytes little kind body ++ rest ≡ parts little kind (12 + length body) body rest
block_parts little kind body rest = simp append_assoc

kind_back : (little : Bool) (kind total : ℕ) (body rest : List ℕ) → kind < 2 ^ 32 → number_at little 4 0 (parts little kind total body rest) ≡ kind
kind_back little kind total body rest h = number_back little 4 kind (bytes_in little 4 total ++ (body ++ (bytes_in little 4 total ++ rest))) h

total_back : (little : Bool) (kind total : ℕ) (body rest : List ℕ) → total < 2 ^ 32 → number_at little 4 4 (parts little kind total body rest) ≡ total
total_back true kind total body rest h = number_back true 4 total (body ++ (bytes_in true 4 total ++ rest)) h
total_back false kind total body rest h = number_back false 4 total (body ++ (bytes_in false 4 total ++ rest)) h

behind_body : (little : Bool) (kind total : ℕ) (body rest : List ℕ)
    → drop (8 + length body) (parts little kind total body rest) ≡ bytes_in little 4 total ++ rest
behind_body true kind total body rest =
    sym (drop-drop (length body) 8 (parts true kind total body rest)) ∙ drop_at body (bytes_in true 4 total ++ rest) (length body) refl
behind_body false kind total body rest =
    sym (drop-drop (length body) 8 (parts false kind total body rest)) ∙ drop_at body (bytes_in false 4 total ++ rest) (length body) refl

again_back : (little : Bool) (kind total : ℕ) (body rest : List ℕ) → total < 2 ^ 32 → total - 4 ≡ 8 + length body
    → number_at little 4 (total - 4) (parts little kind total body rest) ≡ total
again_back little kind total body rest h place =
    ap (λ (n : ℕ). number_at little 4 n (parts little kind total body rest)) place
    ∙ ap (number_in little 4) (behind_body little kind total body rest) ∙ number_back little 4 total rest h

parts_length : (little : Bool) (kind total : ℕ) (body rest : List ℕ) → length (parts little kind total body rest) ≡ 12 + length body + length rest
parts_length true kind total body rest = omega (arith, length-append body (bytes_in true 4 total ++ rest))
parts_length false kind total body rest = omega (arith, length-append body (bytes_in false 4 total ++ rest))

-- a block by its type and total length
measured_by : (interfaces : List Interface) (little : Bool) (bytes : List ℕ) (kind total : ℕ)
    → number_at little 4 0 bytes ≡ kind → number_at little 4 4 bytes ≡ total → number_at little 4 (total - 4) bytes ≡ total
    → least_length kind ≤ total → total % 4 ≡ 0 → total ≤ length bytes
    → measured_block interfaces little bytes ≡ whole_block interfaces little kind bytes
measured_by interfaces little bytes kind total is_kind is_total again least whole long =
    let a : nat_lt total (least_length kind) ≡ false = grind (arith, nat_tests) in
    let b : (total % 4 == 0) ≡ true = grind (arith, nat_tests) in
    let c : nat_lt (length bytes) total ≡ false = grind (arith, nat_tests) in
    let d : (number_at little 4 (total - 4) bytes == total) ≡ true = grind (arith, nat_tests) in
    rw (is_kind, is_total, a, b, c, d) refl

-- a block that no section's type begins in the other byte order
abbrev pub IsPlain : Bool → ℕ → Type 0
IsPlain little kind = (more : List ℕ) → (number_at true 4 0 (bytes_in little 4 kind ++ more) == section_type) ≡ false

parts-back : (interfaces : List Interface) (little : Bool) (kind : ℕ) (body rest : List ℕ)
    → kind < 2 ^ 32 → 12 + length body < 2 ^ 32 → least_length kind ≤ 12 + length body → (12 + length body) % 4 ≡ 0 → IsPlain little kind
    → block_at (Some little) interfaces (parts little kind (12 + length body) body rest)
    ≡ whole_block interfaces little kind (parts little kind (12 + length body) body rest)
unfolding block_at
parts-back interfaces little kind body rest small fits least whole plain =
    let total : ℕ = 12 + length body in
    let bytes : List ℕ = parts little kind (12 + length body) body rest in
    let size = parts_length little kind (12 + length body) body rest in
    let a : nat_lt (length bytes) 12 ≡ false = grind (arith, nat_tests) in
    let b : (number_at true 4 0 bytes == section_type) ≡ false =
    plain (bytes_in little 4 (12 + length body) ++ (body ++ (bytes_in little 4 (12 + length body) ++ rest))) in
    rw (a, b) (measured_by interfaces little bytes kind (12 + length body)
    (kind_back little kind (12 + length body) body rest small)
    (total_back little kind (12 + length body) body rest fits)
    (again_back little kind (12 + length body) body rest fits (omega arith)) least whole (omega arith))

-- a block with a body of whole words
pub block-back : (interfaces : List Interface) (little : Bool) (kind : ℕ) (body rest : List ℕ)
    → kind < 2 ^ 32 → 12 + length body < 2 ^ 32 → least_length kind ≤ 12 + length body → (12 + length body) % 4 ≡ 0 → IsPlain little kind
    → block_at (Some little) interfaces (block_bytes little kind body ++ rest) ≡ whole_block interfaces little kind (block_bytes little kind body ++ rest)
block-back interfaces little kind body rest small fits least whole plain =
    subst (λ (bytes : List ℕ). block_at (Some little) interfaces bytes ≡ whole_block interfaces little kind bytes)
    (sym (block_parts little kind body rest)) (parts-back interfaces little kind body rest small fits least whole plain)

-- the section
pub section-back : (little : Bool) (rest : List ℕ) → block_at None [] (section_block little ++ rest) ≡ Whole (block.Section little) 28
unfolding block_at
section-back true rest =
    let a : nat_lt (length (section_block true ++ rest)) 12 ≡ false = grind (arith, nat_tests) in
    let b : nat_lt (length (section_block true ++ rest)) 28 ≡ false = grind (arith, nat_tests) in
    rw (a, b) refl
section-back false rest =
    let a : nat_lt (length (section_block false ++ rest)) 12 ≡ false = grind (arith, nat_tests) in
    let b : nat_lt (length (section_block false ++ rest)) 28 ≡ false = grind (arith, nat_tests) in
    rw (a, b) refl

-- what an interface's block says
abbrev pub interface_for : ℕ → Interface
interface_for link = record { link = link; snap = 0; rate = 10 ^ 9; offset = pos 0 }

interface_plain : (little : Bool) → IsPlain little interface_type
interface_plain true more = refl
interface_plain false more = refl

-- an interface
interface-read : (interfaces : List Interface) (little : Bool) (link : ℕ) (rest : List ℕ) → link < 2 ^ 16
    → whole_block interfaces little interface_type (interface_block little link ++ rest) ≡ Whole (block.Interface (interface_for link)) 32
unfolding options_of option_of
interface-read interfaces true link rest small =
    ap (λ (l : ℕ). Whole (block.Interface (interface_for l)) 32)
    (number_back true 2 link (drop 10 (interface_block true link ++ rest)) small)
interface-read interfaces false link rest small =
    ap (λ (l : ℕ). Whole (block.Interface (interface_for l)) 32)
    (number_back false 2 link (drop 10 (interface_block false link ++ rest)) small)

interface-whole : (interfaces : List Interface) (little : Bool) (link : ℕ) (rest : List ℕ)
    → block_at (Some little) interfaces (interface_block little link ++ rest)
    ≡ whole_block interfaces little interface_type (interface_block little link ++ rest)
interface-whole interfaces true link rest =
    block-back interfaces true interface_type (interface_body true link) rest (lit< tt) (lit< tt) (lit≤ tt) refl (interface_plain true)
interface-whole interfaces false link rest =
    block-back interfaces false interface_type (interface_body false link) rest (lit< tt) (lit< tt) (lit≤ tt) refl (interface_plain false)

pub interface-back : (interfaces : List Interface) (little : Bool) (link : ℕ) (rest : List ℕ) → link < 2 ^ 16
    → block_at (Some little) interfaces (interface_block little link ++ rest) ≡ Whole (block.Interface (interface_for link)) 32
interface-back interfaces little link rest small = interface-whole interfaces little link rest ∙ interface-read interfaces little link rest small
