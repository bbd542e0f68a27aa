-- A pcapng file is read back.
use Rattle.std.proofs.Common.{◌≡◌, ◌<◌, ◌≤◌, ◌+◌, ◌^◌, lit<, ℕ, suc, Bool, true, false, eqb, List, [], ◌∷◌, ◌++◌, length, drop, Option, Some, refl, sym, ap, ◌∙◌, append_assoc, arith, length-append}
use Rattle.std.specs.Prelude.{slice_get, if◌then◌else◌}
use Rattle.std.proofs.lemmas.Bool.Decides.{nat_tests}
use Rattle.std.proofs.lemmas.List.{drop_at}
use Rattle.pk_base.specs.Limits.{file_limit}
use Rattle.capture_formats.specs.Blocks.{block_at}
use Rattle.capture_formats.specs.Sections.{Scope, scope_of, block_in, scope_after, step_of}
use Rattle.capture_formats.specs.declared.block.Block.TheVariants as block
use Rattle.capture_formats.specs.declared.block.BlockRead.{BlockRead}
use Rattle.capture_formats.specs.declared.block.BlockRead.TheVariants as read
use Rattle.capture_formats.specs.declared.interface.Interface.{Interface}
use Rattle.capture_read.specs.Capture.{capture_of, reading_of, pieces, with_frame}
use Rattle.capture_read.specs.Pieces.{of_block}
use Rattle.capture_read.specs.State.{scoped_block, scope_behind}
use Rattle.capture_read.specs.declared.ending.Ending.TheVariants.{Whole}
use Rattle.capture_read.specs.declared.frame.Frame.{Frame}
use Rattle.capture_read.proofs.KnownBlocks.{scoped-pieces}
use Rattle.capture_read.proofs.PieceSteps.{pieces-end}
use Rattle.capture_write.specs.Frames.{AreFrames, order_of, read_back, all_read_back}
use Rattle.capture_write.specs.Pcapng.{section_block, interface_block, new_interface, packet_by, place_of, is_new, links_with, pcapng_pieces, all_fit_pcapng, fits_pcapng, pcapng_bytes, fits_in_pcapng}
use Rattle.capture_write.proofs.BlockBack.{interface_for, interface-back, section-back}
use Rattle.capture_write.proofs.FitLaws.{and_parts, fitting_pcapng}
use Rattle.capture_write.proofs.LinkLaws.{place_most}
use Rattle.capture_write.proofs.PacketBack.{IsPacketBack, packet-back}
use Rattle.capture_write.proofs.Steps.{pieces-packet, pieces-passed, capture-whole}

-- the interfaces of these link types
abbrev interfaces_for : List ℕ → List Interface
interfaces_for [] = []
interfaces_for (link ∷ links) = interface_for link ∷ interfaces_for links

interfaces-push : (links : List ℕ) (link : ℕ) → interfaces_for (links ++ link ∷ []) ≡ interfaces_for links ++ interface_for link ∷ []
interfaces-push [] link = refl
interfaces-push (l ∷ links) link = ap (λ (all : List Interface). interface_for l ∷ all) (interfaces-push links link)

-- what is known behind the interfaces of these link types
abbrev scope : Bool → List ℕ → Scope
scope little links = record { order = Some little; interfaces = interfaces_for links }

same_number : (a b : ℕ) → eqb a b ≡ true → b ≡ a
same_number a b h = grind (arith, nat_tests)

-- a link type's interface has its number
place-pushed : (link : ℕ) (links : List ℕ) → slice_get (interfaces_for (links ++ link ∷ [])) (place_of link links) ≡ Some (interface_for link)
place-pushed link [] = refl
place-pushed link (l ∷ links) = by (eqb link l) refl (place-pushed link links)
  where
    by : (b : Bool) → eqb link l ≡ b → slice_get (interfaces_for (links ++ link ∷ [])) (place_of link links) ≡ Some (interface_for link)
        → slice_get (interface_for l ∷ interfaces_for (links ++ link ∷ [])) (if b then 0 else suc (place_of link links)) ≡ Some (interface_for link)
    by true is before = ap (λ (k : ℕ). Some (interface_for k)) (same_number link l is)
    by false is before = before

place-known : (link : ℕ) (links : List ℕ) → is_new link links ≡ false → slice_get (interfaces_for links) (place_of link links) ≡ Some (interface_for link)
place-known link [] old = cc
place-known link (l ∷ links) old = by (eqb link l) refl old (place-known link links)
  where
    by : (b : Bool) → eqb link l ≡ b → (if b then false else is_new link links) ≡ false
        → (is_new link links ≡ false → slice_get (interfaces_for links) (place_of link links) ≡ Some (interface_for link))
        → slice_get (interface_for l ∷ interfaces_for links) (if b then 0 else suc (place_of link links)) ≡ Some (interface_for link)
    by true is old before = ap (λ (k : ℕ). Some (interface_for k)) (same_number link l is)
    by false is old before = before old

place-links : (link : ℕ) (links : List ℕ) → slice_get (interfaces_for (links_with link links)) (place_of link links) ≡ Some (interface_for link)
place-links link links = by (is_new link links) refl
  where
    by : (b : Bool) → is_new link links ≡ b
        → slice_get (interfaces_for (if b then links ++ link ∷ [] else links)) (place_of link links) ≡ Some (interface_for link)
    by true is = place-pushed link links
    by false is = place-known link links is

-- an interface in front, where the link type is new
interface-walk : (little : Bool) (links : List ℕ) (link number at : ℕ) (rest : List ℕ) → link < 2 ^ 16
    → (next : ℕ) × (pieces (scoped_block false) scope_behind false (scope little links) number at 0 (interface_block little link ++ rest)
    ≡ pieces (scoped_block false) scope_behind false (scope little (links ++ link ∷ [])) number next 0 rest)
interface-walk little links link number at rest small =
    let bytes : List ℕ = interface_block little link ++ rest in
    let seen = interface-back (interfaces_for links) little link rest small in
    let size : length (interface_block little link) ≡ 32 = interface_length little link in
    let behind : scope_behind (scope little links) (interface_block little link ++ rest) ≡ scope little (links ++ link ∷ []) =
    ap (λ (r : BlockRead). scope_after r (scope little links)) seen
    ∙ ap (λ (all : List Interface). record { order = Some little; interfaces = all }) (sym (interfaces-push links link)) in (
      at + 32,
      pieces-passed (scoped_block false) scope_behind false (scope little links) number at (interface_block little link ++ rest) 32
          (ap (λ (r : BlockRead). of_block false at (step_of r)) seen) (lit< tt) (omega (arith, size, length-append (interface_block little link) rest))
          ∙ ap (λ (known : Scope). pieces (scoped_block false) scope_behind false known number (at + 32) 0 (drop 32 (interface_block little link ++ rest))) behind
          ∙ ap (λ (left : List ℕ). pieces (scoped_block false) scope_behind false (scope little (links ++ link ∷ [])) number (at + 32) 0 left)
          (drop_at (interface_block little link) rest 32 size),
    )
  where
    interface_length : (little : Bool) (link : ℕ) → length (interface_block little link) ≡ 32
    interface_length true link = refl
    interface_length false link = refl

new-walk : (little : Bool) (links : List ℕ) (link number at : ℕ) (rest : List ℕ) → link < 2 ^ 16
    → (next : ℕ) × (pieces (scoped_block false) scope_behind false (scope little links) number at 0 (new_interface little link links ++ rest)
    ≡ pieces (scoped_block false) scope_behind false (scope little (links_with link links)) number next 0 rest)
new-walk little links link number at rest small = by (is_new link links)
  where
    by : (b : Bool)
        → (next : ℕ) × (pieces (scoped_block false) scope_behind false (scope little links) number at 0 ((if b then interface_block little link else []) ++ rest)
        ≡ pieces (scoped_block false) scope_behind false (scope little (if b then links ++ link ∷ [] else links)) number next 0 rest)
    by true = interface-walk little links link number at rest small
    by false = (at, refl)

-- a packet in front
packet-walk : (little : Bool) (known : Scope) (frame : Frame) (packet more : List ℕ) (number at : ℕ) → known.order ≡ Some little
    → IsPacketBack little known.interfaces frame packet more
    → (next : ℕ) × (pieces (scoped_block false) scope_behind false known number at 0 (packet ++ more)
    ≡ with_frame (read_back little number frame) (pieces (scoped_block false) scope_behind false known (suc number) next 0 more))
packet-walk little known frame packet more number at order back =
    let is_read : block_in known (packet ++ more) ≡ read.Whole (block.Packet back.found) back.found.end =
    ap (λ (o : Option Bool). block_at o known.interfaces (packet ++ more)) order ∙ back.read in
    let behind : scope_behind known (packet ++ more) ≡ known = ap (λ (r : BlockRead). scope_after r known) is_read in
    let ends : length packet ≡ back.found.end = back.ends in (
      at + back.found.end,
      pieces-packet (scoped_block false) scope_behind false known number at (packet ++ more) back.found
          (ap (λ (r : BlockRead). of_block false at (step_of r)) is_read) back.some (omega (arith, length-append packet more)) back.within
          ∙ ap (λ (f : Frame). with_frame f (pieces (scoped_block false) scope_behind false (scope_behind known (packet ++ more)) (suc number) (at + back.found.end) 0
          (drop back.found.end (packet ++ more)))) (back.same number)
          ∙ ap (λ (s : Scope). with_frame (read_back little number frame) (pieces (scoped_block false) scope_behind false s (suc number) (at + back.found.end) 0
          (drop back.found.end (packet ++ more)))) behind
          ∙ ap (λ (left : List ℕ). with_frame (read_back little number frame) (pieces (scoped_block false) scope_behind false known (suc number) (at + back.found.end) 0 left))
          (drop_at packet more back.found.end ends),
    )

links-few : (link : ℕ) (links : List ℕ) → length (links_with link links) ≤ suc (length links)
links-few link links = by (is_new link links)
  where
    by : (b : Bool) → length (if b then links ++ link ∷ [] else links) ≤ suc (length links)
    by true = omega (arith, length-append links (link ∷ []))
    by false = omega arith

-- all packets are read. There are fewer interfaces than bytes
packets-back : (little : Bool) (frames : List Frame) (links : List ℕ) (number at : ℕ) → AreFrames frames → all_fit_pcapng little links frames ≡ true
    → length links + length (pcapng_pieces little links frames) ≤ 2 ^ 28
    → pieces (scoped_block false) scope_behind false (scope little links) number at 0 (pcapng_pieces little links frames)
    ≡ record { frames = all_read_back little number frames; ending = Whole }
packets-back little [] links number at are fit few = pieces-end (scoped_block false) scope_behind false (scope little links) number at [] refl
packets-back little (frame ∷ frames) links number at are fit few =
    let both = and_parts (fits_pcapng little links frame) (all_fit_pcapng little (links_with frame.link links) frames) fit in
    let later : List ℕ = links_with frame.link links in
    let place : ℕ = place_of frame.link links in
    let front : List ℕ = new_interface little frame.link links in
    let packet : List ℕ = packet_by little (place_of frame.link links) frame frame.time in
    let more : List ℕ = pcapng_pieces little (links_with frame.link links) frames in
    let small : place_of frame.link links < 2 ^ 32 = omega (arith, place_most frame.link links) in
    let back = packet-back little links (interfaces_for (links_with frame.link links)) frame more are.0 (fitting_pcapng little links frame both.0) small (place-links frame.link links) in
    let ends : length packet ≡ back.found.end = back.ends in
    let some : 0 < back.found.end = back.some in
    let rest-few : length later + length more ≤ 2 ^ 28 = omega (arith, links-few frame.link links, length-append front packet, length-append (front ++ packet) more) in
    let new = new-walk little links frame.link number at (packet ++ more) are.0.link in
    let walk = packet-walk little (scope little (links_with frame.link links)) frame packet more number new.0 refl back in
    ap (pieces (scoped_block false) scope_behind false (scope little links) number at 0) (append_assoc front packet more)
    ∙ new.1 ∙ walk.1
    ∙ ap (with_frame (read_back little number frame)) (packets-back little frames (links_with frame.link links) (suc number) walk.0 are.1 both.1 rest-few)

below_limit : (n : ℕ) → n ≤ file_limit → n ≤ 2 ^ 28
unfolding file_limit
below_limit n h = h

section-walk : (little : Bool) (rest : List ℕ)
    → pieces (scoped_block false) scope_behind false (scope_of []) 1 0 0 (section_block little ++ rest)
    ≡ pieces (scoped_block false) scope_behind false (scope little []) 1 28 0 rest
section-walk little rest =
    pieces-passed (scoped_block false) scope_behind false (scope_of []) 1 0 (section_block little ++ rest) 28
    (ap (λ (r : BlockRead). of_block false 0 (step_of r)) (section-back little rest)) (lit< tt) (omega (arith, section_length little, length-append (section_block little) rest))
    ∙ ap (λ (known : Scope). pieces (scoped_block false) scope_behind false known 1 28 0 (drop 28 (section_block little ++ rest)))
    (ap (λ (r : BlockRead). scope_after r (scope_of [])) (section-back little rest))
    ∙ ap (λ (left : List ℕ). pieces (scoped_block false) scope_behind false (scope little []) 1 28 0 left)
    (drop_at (section_block little) rest 28 (section_length little))
  where
    section_length : (little : Bool) → length (section_block little) ≡ 28
    section_length true = refl
    section_length false = refl

file-begins : (little : Bool) (rest : List ℕ)
    → reading_of false (section_block little ++ rest) ≡ pieces (scoped_block false) scope_behind false (scope_of []) 1 0 0 (section_block little ++ rest)
file-begins true rest = sym (scoped-pieces false [] 1 0 0 (section_block true ++ rest))
file-begins false rest = sym (scoped-pieces false [] 1 0 0 (section_block false ++ rest))

-- the whole file
pub pcapng-back : (frames : List Frame) → AreFrames frames → fits_in_pcapng frames ≡ true → length (pcapng_bytes frames) ≤ file_limit
    → capture_of (pcapng_bytes frames) ≡ record { frames = all_read_back (order_of frames) 1 frames; ending = Whole }
unfolding pcapng_bytes fits_in_pcapng
pcapng-back frames are fit small =
    let little : Bool = order_of frames in
    let rest : List ℕ = pcapng_pieces (order_of frames) [] frames in
    let few : length (section_block (order_of frames) ++ rest) ≤ 2 ^ 28 = below_limit (length (section_block (order_of frames) ++ rest)) small in
    capture-whole (section_block (order_of frames) ++ rest) small
    ∙ file-begins (order_of frames) rest
    ∙ section-walk (order_of frames) rest
    ∙ packets-back (order_of frames) frames [] 1 28 are fit (omega (arith, length-append (section_block (order_of frames)) rest))
