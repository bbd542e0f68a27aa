-- The frames of a capture file are few, and numbered in order.
use Rattle.std.proofs.Common.{◌≡◌, ◌≤◌, ℕ, zero, suc, ◌-◌, ◌^◌, Bool, List, [], ◌∷◌, length, drop, refl, arith, length-take, length-drop}
use Rattle.pk_base.specs.Limits.{file_limit}
use Rattle.capture_formats.specs.Pcap.{pcap_head}
use Rattle.capture_formats.specs.declared.header.PcapHead.{PcapHead}
use Rattle.capture_formats.specs.declared.header.HeadStep.TheVariants as head
use Rattle.capture_read.specs.declared.ending.Ending.{Ending}
use Rattle.capture_read.specs.declared.frame.Frame.{Frame}
use Rattle.pk_base.proofs.Choices.{by_case}
use Rattle.capture_read.specs.Capture.{Reading, ended, capture_of, pieces, held_part, is_large, is_pcapng, after_head, after_piece}
use Rattle.capture_read.specs.FrameList.{AreTimesSmall, captured_bytes}
use Rattle.capture_read.specs.Pieces.{record_at, head_behind, block_at, blocks_behind, IsPieceWithin}
use Rattle.capture_read.specs.declared.piece.Piece.{Piece}
use Rattle.capture_read.specs.declared.piece.Piece.TheVariants.{End, Packet, Passed}
use Rattle.capture_read.proofs.Limit.{length-held_part}
use Rattle.capture_read.proofs.PieceBounds.{record-within, block-within}
use Rattle.capture_read.proofs.SmallTimes.{AreBytes, IsTimely, AreBlocks, record-timely, block-timely, bytes-take, bytes-drop}

-- what holds of each reading of records or blocks, and of a file that ends at its header, holds of the file
pub by_format : (P : Reading → Type 0) (file : List ℕ)
    → ((ending : Ending) → P (ended ending))
    → ((h : PcapHead) → P (pieces (record_at (is_large file)) head_behind (is_large file) h 1 24 0 (drop 24 (held_part file))))
    → P (pieces (block_at (is_large file)) blocks_behind (is_large file) [] 1 0 0 (held_part file))
    → P (capture_of file)
unfolding capture_of
by_format P file none records blocks =
    by_case P (is_pcapng (held_part file)) _ _ (λ is. blocks)
    (λ isn't. elim (pcap_head (held_part file)) as (λ step. P (after_head (is_large file) (held_part file) step)) [
      | head.Need n ↦ none _
      | head.Head h ↦ records h
      | head.Bad reason ↦ none _
    ])

-- the frames have numbers one after the other, from this one on
abbrev pub AreNumbered : ℕ → List Frame → Type 0
AreNumbered number [] = Unit {0}
AreNumbered number (frame ∷ frames) = (frame.number ≡ number) × AreNumbered (suc number) frames

-- frames are numbered from the given number on
pieces-numbered : {S : Type 0} (read : S → ℕ → List ℕ → Piece) (behind : S → List ℕ → S) (large : Bool) (known : S) (number at skip : ℕ) (bytes : List ℕ)
    → AreNumbered number (pieces read behind large known number at skip bytes).frames
unfolding pieces
pieces-numbered read behind large known number at (suc skip) [] = tt
pieces-numbered read behind large known number at (suc skip) (b ∷ rest) = pieces-numbered read behind large known number (suc at) skip rest
pieces-numbered read behind large known number at zero [] = tt
pieces-numbered read behind large known number at zero (b ∷ rest) =
    let follows : ℕ → ℕ → Reading = λ next size. pieces read behind large (behind known (b ∷ rest)) next (suc at) (size - 1) rest in
    elim (read known at (b ∷ rest)) as (λ piece. AreNumbered number (after_piece number (b ∷ rest) follows piece).frames) [
      | End ending ↦ tt
      | Packet found ↦ (refl, pieces-numbered read behind large (behind known (b ∷ rest)) (suc number) (suc at) (found.end - 1) rest)
      | Passed size ↦ pieces-numbered read behind large (behind known (b ∷ rest)) number (suc at) (size - 1) rest
    ]

-- each record or block has at least a byte
length-pieces : {S : Type 0} (read : S → ℕ → List ℕ → Piece) (behind : S → List ℕ → S)
    → ((known : S) (at : ℕ) (bytes : List ℕ) → IsPieceWithin (read known at bytes) (length bytes))
    → (large : Bool) (known : S) (number at skip : ℕ) (bytes : List ℕ)
    → length (pieces read behind large known number at skip bytes).frames ≤ length bytes - skip
unfolding pieces
length-pieces read behind within large known number at (suc skip) [] = omega arith
length-pieces read behind within large known number at (suc skip) (b ∷ rest) = omega (arith, length-pieces read behind within large known number (suc at) skip rest)
length-pieces read behind within large known number at zero [] = omega arith
length-pieces read behind within large known number at zero (b ∷ rest) =
    let follows : ℕ → ℕ → Reading = λ next size. pieces read behind large (behind known (b ∷ rest)) next (suc at) (size - 1) rest in
    elim (read known at (b ∷ rest))
    as (λ piece. IsPieceWithin piece (suc (length rest)) → length (after_piece number (b ∷ rest) follows piece).frames ≤ suc (length rest) - 0) [
      | End ending ↦ λ h. omega arith
      | Packet found ↦ λ h. omega (arith, length-pieces read behind within large (behind known (b ∷ rest)) (suc number) (suc at) (found.end - 1) rest)
      | Passed size ↦ λ h. omega (arith, length-pieces read behind within large (behind known (b ∷ rest)) number (suc at) (size - 1) rest)
    ] (within known at (b ∷ rest))

-- the captured bytes are among those of the records and blocks
captured_bytes-pieces : {S : Type 0} (read : S → ℕ → List ℕ → Piece) (behind : S → List ℕ → S)
    → ((known : S) (at : ℕ) (bytes : List ℕ) → IsPieceWithin (read known at bytes) (length bytes))
    → (large : Bool) (known : S) (number at skip : ℕ) (bytes : List ℕ)
    → captured_bytes (pieces read behind large known number at skip bytes).frames ≤ length bytes - skip
unfolding pieces
captured_bytes-pieces read behind within large known number at (suc skip) [] = omega arith
captured_bytes-pieces read behind within large known number at (suc skip) (b ∷ rest) =
    omega (arith, captured_bytes-pieces read behind within large known number (suc at) skip rest)
captured_bytes-pieces read behind within large known number at zero [] = omega arith
captured_bytes-pieces read behind within large known number at zero (b ∷ rest) =
    let follows : ℕ → ℕ → Reading = λ next size. pieces read behind large (behind known (b ∷ rest)) next (suc at) (size - 1) rest in
    elim (read known at (b ∷ rest))
    as (λ piece. IsPieceWithin piece (suc (length rest)) → captured_bytes (after_piece number (b ∷ rest) follows piece).frames ≤ suc (length rest) - 0) [
      | End ending ↦ λ h. omega arith
      | Packet found ↦ λ h. omega (arith, captured_bytes-pieces read behind within large (behind known (b ∷ rest)) (suc number) (suc at) (found.end - 1) rest, length-take found.len (drop found.start (b ∷ rest)))
      | Passed size ↦ λ h. omega (arith, captured_bytes-pieces read behind within large (behind known (b ∷ rest)) number (suc at) (size - 1) rest)
    ] (within known at (b ∷ rest))

-- times are small where each record's or block's is, given what is known before it
times-pieces : {S : Type 0} (read : S → ℕ → List ℕ → Piece) (behind : S → List ℕ → S) (Known : S → Type 0)
    → ((known : S) (at : ℕ) (bytes : List ℕ) → AreBytes bytes → Known known → IsTimely (read known at bytes) × Known (behind known bytes))
    → (large : Bool) (known : S) (number at skip : ℕ) (bytes : List ℕ) → AreBytes bytes → Known known
    → AreTimesSmall (pieces read behind large known number at skip bytes).frames
unfolding pieces
times-pieces read behind Known timely large known number at (suc skip) [] are is = tt
times-pieces read behind Known timely large known number at (suc skip) (b ∷ rest) are is =
    times-pieces read behind Known timely large known number (suc at) skip rest (λ k. are (suc k)) is
times-pieces read behind Known timely large known number at zero [] are is = tt
times-pieces read behind Known timely large known number at zero (b ∷ rest) are is =
    let follows : ℕ → ℕ → Reading = λ next size. pieces read behind large (behind known (b ∷ rest)) next (suc at) (size - 1) rest in
    let here = timely known at (b ∷ rest) are is in
    let later : (next size : ℕ) → AreTimesSmall (follows next size).frames =
    λ next size. times-pieces read behind Known timely large (behind known (b ∷ rest)) next (suc at) (size - 1) rest (λ k. are (suc k)) here.1 in
    elim (read known at (b ∷ rest)) as (λ piece. IsTimely piece → AreTimesSmall (after_piece number (b ∷ rest) follows piece).frames) [
      | End ending ↦ λ h. tt
      | Packet found ↦ λ h. (h, later (suc number) found.end)
      | Passed size ↦ λ h. later number size
    ] here.0

-- the frames of a file are numbered from 1
pub frames_are_numbered : (file : List ℕ) → AreNumbered 1 (capture_of file).frames
frames_are_numbered file =
    by_format (λ reading. AreNumbered 1 reading.frames) file (λ ending. tt)
    (λ h. pieces-numbered (record_at (is_large file)) head_behind (is_large file) h 1 24 0 (drop 24 (held_part file)))
    (pieces-numbered (block_at (is_large file)) blocks_behind (is_large file) [] 1 0 0 (held_part file))

-- there are fewer than numbers of 32 bits
pub frames_are_few : (file : List ℕ) → length (capture_of file).frames ≤ 2 ^ 28
frames_are_few file =
    let held = held_part file in
    by_format (λ reading. length reading.frames ≤ 2 ^ 28) file (λ ending. omega arith)
    (λ h. omega (arith, length-pieces (record_at (is_large file)) head_behind (record-within (is_large file)) (is_large file) h 1 24 0 (drop 24 held), length-drop 24 held, length-held_part file))
    (omega (arith, length-pieces (block_at (is_large file)) blocks_behind (block-within (is_large file)) (is_large file) [] 1 0 0 held, length-held_part file))

-- they hold no more bytes than are looked at
pub captured_bytes_are_few : (file : List ℕ) → captured_bytes (capture_of file).frames ≤ 2 ^ 28
captured_bytes_are_few file =
    let held = held_part file in
    by_format (λ reading. captured_bytes reading.frames ≤ 2 ^ 28) file (λ ending. omega arith)
    (λ h. omega (arith, captured_bytes-pieces (record_at (is_large file)) head_behind (record-within (is_large file)) (is_large file) h 1 24 0 (drop 24 held), length-drop 24 held, length-held_part file))
    (omega (arith, captured_bytes-pieces (block_at (is_large file)) blocks_behind (block-within (is_large file)) (is_large file) [] 1 0 0 held, length-held_part file))

-- their times lie strictly between -2^96 and 2^96 nanoseconds
pub times_are_small : (file : List ℕ) → AreBytes file → AreTimesSmall (capture_of file).frames
times_are_small file are =
    let held = held_part file in
    let held_bytes : AreBytes held = bytes-take file_limit file are in
    by_format (λ reading. AreTimesSmall reading.frames) file (λ ending. tt)
    (λ h. times-pieces (record_at (is_large file)) head_behind (λ head. Unit {0})
    (λ head at bytes bytes_are is. (record-timely (is_large file) head at bytes bytes_are, tt))
    (is_large file) h 1 24 0 (drop 24 held) (bytes-drop 24 held held_bytes) tt)
    (times-pieces (block_at (is_large file)) blocks_behind AreBlocks (block-timely (is_large file)) (is_large file) [] 1 0 0 held held_bytes tt)
