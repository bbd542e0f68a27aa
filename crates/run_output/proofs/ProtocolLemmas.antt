-- Each layer of a frame's whole tree is of one of the protocols, also where it has links to later frames.
use Rattle.std.proofs.Common.{◌≡◌, ℕ, zero, suc, List, [], ◌∷◌, map, length, Option, None, Some, sym, subst}
use Rattle.std.specs.List.{list_any}
use Rattle.pk_tree.specs.declared.layer.Layer.{Layer}
use Rattle.pk_tree.specs.Trees.{TreeShown, kept_layer}
use Rattle.dissect.specs.Protocols.{AreOnes, IsOne}
use Rattle.dissect.specs.Trees.{tree_at}
use Rattle.dissect.proofs.LayerProtocols.{tree_has}
use Rattle.second_pass.specs.Forward.{forwarded, forwarded_to, is_part, link_of, linked, with_link}
use Rattle.second_pass.specs.Named.{Noted}
use Rattle.run_frames.specs.Job.{Passes, One, Two, with_links}
use Rattle.run_frames.specs.Wanted.{IsWhole}

link_is : (layer : Layer) (link : Option (ℕ × ℕ)) → IsOne layer.proto → IsOne (with_link layer link).proto
link_is layer None is = is
link_is layer (Some link) is = is

links_are : (noted : List Noted) (frame count : ℕ) (layers : List Layer) → AreOnes layers → AreOnes (linked noted frame count layers)
links_are noted frame zero layers has = has
links_are noted frame (suc count) [] has = tt
links_are noted frame (suc count) (layer ∷ layers) has =
    (link_is layer (link_of noted frame (list_any is_part layers) layer) has.0, links_are noted frame count layers has.1)

forward_are : (noted : List Noted) (frame : ℕ) (t : TreeShown) → AreOnes t.layers → AreOnes (forwarded noted frame t).layers
unfolding forwarded_to
forward_are noted frame t has = links_are noted frame (length t.layers) t.layers has

passes_are : (passes : Passes) (frame : ℕ) (t : TreeShown) → AreOnes t.layers → AreOnes (with_links passes frame t).layers
passes_are One frame t has = has
passes_are (Two noted) frame t has = forward_are noted frame t has

pub whole_ones : (whole : TreeShown) → IsWhole whole → AreOnes whole.layers
whole_ones whole (rules, past, frame, passes, same) =
    subst (λ (t : TreeShown). AreOnes t.layers) (sym same) (passes_are passes frame.number (tree_at rules past frame) (tree_has rules past frame))

-- so are those of which the items of some fields are kept
pub kept_ones : (wanted : List ℕ) (layers : List Layer) → AreOnes layers → AreOnes (map (kept_layer wanted) layers)
kept_ones wanted [] has = tt
kept_ones wanted (layer ∷ layers) has = (has.0, kept_ones wanted layers has.1)
