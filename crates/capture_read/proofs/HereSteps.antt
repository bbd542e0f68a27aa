-- What bytes stand for from a place of a file on is the first header, record or block, and what follows it.
use Rattle.std.proofs.Common.{◌≡◌, ℕ, suc, ◌+◌, Bool, true, false, List, [], ◌∷◌, length, drop, Option, Some, None, refl, sym, ap, ◌∙◌, arith, if◌then◌else◌}
use Rattle.pk_base.specs.declared.found.Found.{Found}
use Rattle.pk_base.specs.declared.found.Reason.TheVariants.{ShortHeader, RecordCut, BlockCut}
use Rattle.capture_formats.specs.Pcap.{pcap_head, pcap_item}
use Rattle.capture_formats.specs.declared.header.PcapHead.{PcapHead}
use Rattle.capture_formats.specs.declared.header.HeadStep.TheVariants as head
use Rattle.capture_formats.specs.declared.packet.ItemStep.TheVariants as item
use Rattle.capture_formats.specs.Blocks.{block_at as read_block_at}
use Rattle.capture_formats.specs.Sections.{Scope, block_in, scope_after, scope_of, step_of}
use Rattle.capture_formats.specs.declared.step.BlockStep.{BlockStep}
use Rattle.capture_formats.specs.declared.step.BlockStep.TheVariants as step
use Rattle.capture_formats.proofs.BlocksWithin.{block_at-within}
use Rattle.capture_read.specs.Capture.{Reading, after_head, after_piece, ended, frame_of, is_pcapng, pieces, with_frame}
use Rattle.capture_read.specs.Ending.{damage_at, end_of_bytes, unfinished}
use Rattle.capture_read.specs.Pieces.{block_at, blocks_behind, record_at, head_behind, of_record, of_block}
use Rattle.capture_read.specs.Reader.{IsPlaced, cut_here, kind_of_head, kind_then, reading_here, scope_then, step_here, step_of_head, step_of_item, told_kind}
use Rattle.capture_read.specs.State.{scoped_block, scope_behind}
use Rattle.capture_read.specs.declared.ending.Ending.{Ending}
use Rattle.capture_read.specs.declared.kind.Kind.{Kind}
use Rattle.capture_read.specs.declared.kind.Kind.TheVariants.{Pcap, Pcapng}
use Rattle.capture_read.proofs.KnownBlocks.{scoped-pieces}
use Rattle.capture_read.proofs.PieceBounds.{record-within, of_block-within}
use Rattle.capture_read.proofs.PieceSteps.{pieces-some}

-- what bytes stand for by the first header, record or block of them, and what follows it
abbrev pub after_step : ℕ → ℕ → List ℕ → (ℕ → ℕ → Reading) → Ending → BlockStep → Reading
after_step number at bytes follows cut (step.Need n) = ended cut
after_step number at bytes follows cut (step.Item found) = with_frame (frame_of number found bytes) (follows (suc number) found.end)
after_step number at bytes follows cut (step.Skipped size) = follows number size
after_step number at bytes follows cut (step.Bad reason) = ended (damage_at at reason)

-- what follows a step, by what is known then
abbrev pub follows_here : Bool → Option Kind → Scope → ℕ → List ℕ → ℕ → ℕ → Reading
follows_here large kind scope at bytes next size = reading_here large kind scope next (at + size) (drop size bytes)

-- a record
here_record : (large : Bool) (h : PcapHead) (scope : Scope) (number at b : ℕ) (rest : List ℕ)
    → reading_here large (Some (Pcap h)) scope number at (b ∷ rest)
    ≡ after_step number at (b ∷ rest) (follows_here large (kind_then (step_of_item (pcap_item h (b ∷ rest))) (Some (Pcap h)) (b ∷ rest)) scope at (b ∷ rest))
    (unfinished large at RecordCut) (step_of_item (pcap_item h (b ∷ rest)))
here_record large h scope number at b rest =
    pieces-some (record_at large) head_behind large h number at b rest (record-within large h at (b ∷ rest))
    ∙ elim (pcap_item h (b ∷ rest)) as (λ s.
    after_piece number (b ∷ rest) (λ next size. pieces (record_at large) head_behind large h next (at + size) 0 (drop size (b ∷ rest))) (of_record large at s)
    ≡ after_step number at (b ∷ rest) (follows_here large (kind_then (step_of_item s) (Some (Pcap h)) (b ∷ rest)) scope at (b ∷ rest))
    (unfinished large at RecordCut) (step_of_item s)) [
      | item.Need n ↦ refl
      | item.Item found ↦ refl
      | item.Bad reason ↦ refl
    ]

-- a block, behind which the file is known to be a pcapng file
here_block : (large : Bool) (scope : Scope) (number at b : ℕ) (rest : List ℕ) (kind : BlockStep → Option Kind)
    → ((found : Found) → kind (step.Item found) ≡ Some Pcapng) → ((size : ℕ) → kind (step.Skipped size) ≡ Some Pcapng)
    → pieces (scoped_block large) scope_behind large scope number at 0 (b ∷ rest)
    ≡ after_step number at (b ∷ rest) (follows_here large (kind (step_of (block_in scope (b ∷ rest)))) (scope_after (block_in scope (b ∷ rest)) scope) at (b ∷ rest))
    (unfinished large at BlockCut) (step_of (block_in scope (b ∷ rest)))
here_block large scope number at b rest kind item skipped =
    let behind : Scope = scope_after (block_in scope (b ∷ rest)) scope in
    pieces-some (scoped_block large) scope_behind large scope number at b rest
    (of_block-within large at (block_in scope (b ∷ rest)) (length (b ∷ rest)) (block_at-within scope.order scope.interfaces (b ∷ rest)))
    ∙ elim (step_of (block_in scope (b ∷ rest))) as (λ s.
    after_piece number (b ∷ rest) (λ next size. pieces (scoped_block large) scope_behind large (scope_after (block_in scope (b ∷ rest)) scope) next (at + size) 0 (drop size (b ∷ rest))) (of_block large at s)
    ≡ after_step number at (b ∷ rest) (follows_here large (kind s) (scope_after (block_in scope (b ∷ rest)) scope) at (b ∷ rest))
    (unfinished large at BlockCut) s) [
      | step.Need n ↦ refl
      | step.Bad reason ↦ refl
      | step.Item found ↦ rw (item found) refl
      | step.Skipped size ↦ rw (skipped size) refl
    ]

-- a file's start, by whether it has the mark of a pcapng file
abbrev reading_by : Bool → Bool → List ℕ → Reading
reading_by mark large bytes = if mark then pieces (block_at large) blocks_behind large [] 1 0 0 bytes else after_head large bytes (pcap_head bytes)

abbrev step_by : Bool → List ℕ → BlockStep
step_by mark bytes = if mark then step_of (block_in (scope_of []) bytes) else step_of_head (pcap_head bytes)

abbrev scope_by : Bool → List ℕ → Scope
scope_by mark bytes = if mark then scope_after (block_in (scope_of []) bytes) (scope_of []) else scope_of []

here_mark : (mark large : Bool) (bytes : List ℕ) → is_pcapng bytes ≡ mark
    → reading_by mark large bytes
    ≡ after_step 1 0 bytes (follows_here large (kind_then (step_by mark bytes) None bytes) (scope_by mark bytes) 0 bytes)
    (unfinished large 0 (if mark then BlockCut else ShortHeader)) (step_by mark bytes)
here_mark true large [] is = absurd (none_marked is)
  where
    none_marked : false ≡ true → ⊥
    none_marked h = grind arith
here_mark true large (b ∷ rest) is =
    sym (scoped-pieces large [] 1 0 0 (b ∷ rest))
    ∙ here_block large (scope_of []) 1 0 b rest (λ s. kind_then s None (b ∷ rest)) (λ found. told is) (λ size. told is)
  where
    told : is_pcapng (b ∷ rest) ≡ true → told_kind None (b ∷ rest) ≡ Some Pcapng
    told is = ap (λ (m : Bool). if m then Some Pcapng else kind_of_head (pcap_head (b ∷ rest))) is
here_mark false large bytes is =
    elim (pcap_head bytes) as (λ s. pcap_head bytes ≡ s → after_head large bytes s
    ≡ after_step 1 0 bytes (follows_here large (kind_then (step_of_head s) None bytes) (scope_of []) 0 bytes) (unfinished large 0 ShortHeader) (step_of_head s)) [
      | head.Need n ↦ λ e. refl
      | head.Bad reason ↦ λ e. refl
      | head.Head h ↦ λ e. ap (λ (k : Option Kind). reading_here large k (scope_of []) 1 24 (drop 24 bytes)) (sym (told h e))
    ] refl
  where
    told : (h : PcapHead) → pcap_head bytes ≡ head.Head h → told_kind None bytes ≡ Some (Pcap h)
    told h e = ap (λ (m : Bool). if m then Some Pcapng else kind_of_head (pcap_head bytes)) is ∙ ap kind_of_head e

-- no byte is left
no_record : (large : Bool) (h : PcapHead) (scope : Scope) (number at : ℕ) → reading_here large (Some (Pcap h)) scope number at []
    ≡ after_step number at [] (follows_here large (kind_then (step_here (Some (Pcap h)) scope []) (Some (Pcap h)) []) scope at [])
    (end_of_bytes large) (step_here (Some (Pcap h)) scope [])
unfolding pieces pcap_item
no_record large h scope number at = refl

no_block : (large : Bool) (scope : Scope) (number at : ℕ) → reading_here large (Some Pcapng) scope number at []
    ≡ after_step number at [] (follows_here large (kind_then (step_here (Some Pcapng) scope []) (Some Pcapng) []) (scope_then (Some Pcapng) scope []) at [])
    (end_of_bytes large) (step_here (Some Pcapng) scope [])
unfolding pieces read_block_at
no_block large scope number at = refl

-- the same of each kind
pub here_steps : (large : Bool) (kind : Option Kind) (scope : Scope) (number at : ℕ) (bytes : List ℕ) → IsPlaced kind scope number at
    → reading_here large kind scope number at bytes
    ≡ after_step number at bytes
    (follows_here large (kind_then (step_here kind scope bytes) kind bytes) (scope_then kind scope bytes) at bytes)
    (cut_here kind large at bytes) (step_here kind scope bytes)
here_steps large None scope number at bytes placed = rw (placed.0, placed.1, placed.2) (here_mark (is_pcapng bytes) large bytes refl)
here_steps large (Some (Pcap h)) scope number at [] placed = no_record large h scope number at
here_steps large (Some (Pcap h)) scope number at (b ∷ rest) placed = here_record large h scope number at b rest
here_steps large (Some Pcapng) scope number at [] placed = no_block large scope number at
here_steps large (Some Pcapng) scope number at (b ∷ rest) placed =
    here_block large scope number at b rest (λ s. kind_then s (Some Pcapng) (b ∷ rest)) (λ found. refl) (λ size. refl)
