-- The protocols of the layers at places.
use Rattle.std.proofs.Common.{◌≡◌, ◌<◌, ℕ, zero, suc, List, [], ◌∷◌, length, get_or, refl, sym, arith}
use Rattle.std.proofs.lemmas.List.{length-map}
use Rattle.pk_source.specs.Outlines.{header_layer, outlined}
use Rattle.pk_source.specs.declared.header.Header.{Header}
use Rattle.pk_source.specs.declared.header.Note.{Note}
use Rattle.pk_tree.specs.Trees.{proto_at}
use Rattle.pk_tree.specs.declared.layer.Layer.{Layer}

-- the protocol of the layer at a place
pub proto_there : (layers : List Layer) (place : ℕ) (other : Layer) → place < length layers → (get_or layers place other).proto ≡ proto_at layers place
proto_there [] place other inside = absurd (omega (arith, inside))
proto_there (layer ∷ layers) zero other inside = refl
proto_there (layer ∷ layers) (suc place) other inside = proto_there layers place other (omega (arith, inside))

pub proto_shown : (bytes wanted : List ℕ) (headers : List Header) (notes : List Note) (place : ℕ) (other : Header) → place < length headers →
    (get_or headers place other).proto ≡ proto_at (outlined bytes wanted headers notes).layers place
unfolding outlined
proto_shown bytes wanted [] notes place other inside = absurd (omega (arith, inside))
proto_shown bytes wanted (h ∷ headers) notes zero other inside = refl
proto_shown bytes wanted (h ∷ headers) notes (suc place) other inside = proto_shown bytes wanted headers notes place other (omega (arith, inside))

pub layers_shown : (bytes wanted : List ℕ) (headers : List Header) (notes : List Note) → length headers ≡ length (outlined bytes wanted headers notes).layers
unfolding outlined
layers_shown bytes wanted headers notes = sym (length-map headers (header_layer (bytes ∷ []) wanted notes))
