-- The first block of a file is a section, so that a block behind it has a byte order.
use Rattle.std.proofs.Common.{take-append-drop, drop, ◌++◌, ◌≡◌, ◌≢◌, ℕ, Bool, true, false, Option, Some, None, List, [], ◌∷◌, take, refl, sym, ap, ◌∙◌, subst}
use Rattle.std.specs.Prelude.{if◌then◌else◌, not, ◌||◌, ◌==◌, nat_lt, length, ◌-◌, ◌%◌}
use Rattle.std.proofs.lemmas.Option.{none-some}
use Rattle.pk_base.specs.declared.found.Reason.{Reason}
use Rattle.pk_base.specs.declared.found.Reason.TheVariants.{BadVersion, BlockLength}
use Rattle.capture_formats.specs.Blocks.{block_at, ordered_block, told_order, section_of, total_length}
use Rattle.pk_base.specs.Endian.{number_at}
use Rattle.capture_formats.specs.Sections.{Scope, scope_with, WhenTaken}
use Rattle.capture_formats.specs.declared.step.BlockStep.{BlockStep}
use Rattle.capture_formats.specs.declared.step.BlockStep.TheVariants as step
use Rattle.capture_formats.specs.declared.block.Block.TheVariants as block
use Rattle.capture_formats.specs.declared.block.BlockRead.{BlockRead}
use Rattle.capture_formats.specs.declared.block.BlockRead.TheVariants.{Need, Whole, Bad}
use Rattle.capture_formats.specs.declared.interface.Interface.{Interface}

-- a byte order is known behind the block, if one was taken
abbrev pub Begun : Scope → BlockRead → Type 0
Begun scope (Need n) = Unit {0}
Begun scope (Whole b end) = (scope_with scope b).order ≢ None
Begun scope (Bad reason) = Unit {0}

some-none : {A : Type 0} (x : A) → Some x ≢ None
some-none x same = none-some x (sym same)

-- behind a section anything may stand
begun-some : (little : Bool) (interfaces : List Interface) (read : BlockRead)
    → Begun (record { order = Some little; interfaces = interfaces }) read
begun-some little interfaces (Need n) = tt
begun-some little interfaces (Bad reason) = tt
begun-some little interfaces (Whole (block.Section l) end) = some-none l
begun-some little interfaces (Whole (block.Interface interface) end) = some-none little
begun-some little interfaces (Whole (block.Packet found) end) = some-none little
begun-some little interfaces (Whole block.Other end) = some-none little

-- a section's cases, in order
begun-section : (scope : Scope) (little a b c d : Bool) (n total : ℕ) (length_wrong repeated_wrong version : Reason)
    → Begun scope (if a then Bad length_wrong else if b then Need n else if c
    then (if d then Whole (block.Section little) total else Bad version) else Bad repeated_wrong)
begun-section scope little true b c d n total p q r = tt
begun-section scope little false true c d n total p q r = tt
begun-section scope little false false true true n total p q r = some-none little
begun-section scope little false false true false n total p q r = tt
begun-section scope little false false false d n total p q r = tt

-- a section block in its byte order
abbrev section_read : Bool → List ℕ → BlockRead
section_read little bytes =
    if nat_lt (total_length little bytes) 28 || not (total_length little bytes % 4 == 0) then Bad BlockLength
    else if nat_lt (length bytes) (total_length little bytes) then Need (total_length little bytes)
    else if number_at little 4 (total_length little bytes - 4) bytes == total_length little bytes then section_of little bytes
    else Bad BlockLength

begun-measured : (scope : Scope) (little : Bool) (bytes : List ℕ) → Begun scope (section_read little bytes)
begun-measured scope little bytes =
    begun-section scope little
    (nat_lt (total_length little bytes) 28 || not (total_length little bytes % 4 == 0))
    (nat_lt (length bytes) (total_length little bytes))
    (number_at little 4 (total_length little bytes - 4) bytes == total_length little bytes)
    (number_at little 2 12 bytes == 1)
    (total_length little bytes) (total_length little bytes)
    BlockLength BlockLength BadVersion

begun-ordered : (scope : Scope) (interfaces : List Interface) (rest : List ℕ) (order : Option Bool)
    → Begun scope (ordered_block interfaces (0x0A ∷ 0x0D ∷ 0x0D ∷ 0x0A ∷ rest) order)
begun-ordered scope interfaces rest None = tt
begun-ordered scope interfaces rest (Some true) = begun-measured scope true (0x0A ∷ 0x0D ∷ 0x0D ∷ 0x0A ∷ rest)
begun-ordered scope interfaces rest (Some false) = begun-measured scope false (0x0A ∷ 0x0D ∷ 0x0D ∷ 0x0A ∷ rest)

begun-held : (scope : Scope) (short : Bool) (n : ℕ) (read : BlockRead) → Begun scope read → Begun scope (if short then Need n else read)
begun-held scope true n read h = tt
begun-held scope false n read h = h

begun-first : (scope : Scope) (interfaces : List Interface) (rest : List ℕ)
    → Begun scope (block_at None interfaces (0x0A ∷ 0x0D ∷ 0x0D ∷ 0x0A ∷ rest))
unfolding block_at
begun-first scope interfaces rest =
    begun-held scope (nat_lt (length (0x0A ∷ 0x0D ∷ 0x0D ∷ 0x0A ∷ rest)) 12) 12
    (ordered_block interfaces (0x0A ∷ 0x0D ∷ 0x0D ∷ 0x0A ∷ rest) (told_order (0x0A ∷ 0x0D ∷ 0x0D ∷ 0x0A ∷ rest)))
    (begun-ordered scope interfaces rest (told_order (0x0A ∷ 0x0D ∷ 0x0D ∷ 0x0A ∷ rest)))

begun-by : (order : Option Bool) (interfaces : List Interface) (bytes : List ℕ)
    → (order ≡ None → take 4 bytes ≡ 0x0A ∷ 0x0D ∷ 0x0D ∷ 0x0A ∷ [])
    → Begun (record { order = order; interfaces = interfaces }) (block_at order interfaces bytes)
begun-by None interfaces bytes ready =
    let whole : (0x0A ∷ 0x0D ∷ 0x0D ∷ 0x0A ∷ []) ++ drop 4 bytes ≡ bytes = ap (λ (front : List ℕ). front ++ drop 4 bytes) (sym (ready refl)) ∙ take-append-drop 4 bytes in
    subst (λ (all : List ℕ). Begun (record { order = None; interfaces = interfaces }) (block_at None interfaces all)) whole
    (begun-first (record { order = None; interfaces = interfaces }) interfaces (drop 4 bytes))
begun-by (Some little) interfaces bytes ready = begun-some little interfaces _

pub begun : (scope : Scope) (bytes : List ℕ) → (scope.order ≡ None → take 4 bytes ≡ 0x0A ∷ 0x0D ∷ 0x0D ∷ 0x0A ∷ [])
    → Begun scope (block_at scope.order scope.interfaces bytes)
begun scope bytes ready = begun-by scope.order scope.interfaces bytes ready

pub when_taken : (step : BlockStep) (P : Type 0) → P → WhenTaken step P
when_taken (step.Need n) P p = tt
when_taken (step.Item found) P p = p
when_taken (step.Skipped n) P p = p
when_taken (step.Bad reason) P p = tt
