use Rattle.std.proofs.Common.{◌≡◌, ◌∷◌, [], ℕ, List, map, ap, refl}
use Rattle.pk_source.specs.Outlines.{header_layer, outlined, protocols, protocols_of}
use Rattle.pk_source.specs.declared.header.Header.{Header}
use Rattle.pk_source.specs.declared.header.Note.{Note}
use Rattle.pk_source.proofs.outline.Outline.headers.Goals as goal

same_protocols : (buffers : List (List ℕ)) (wanted : List ℕ) (notes : List Note) (headers : List Header) → protocols_of headers ≡ protocols (map (header_layer buffers wanted notes) headers)
same_protocols buffers wanted notes [] = refl
same_protocols buffers wanted notes (h ∷ headers) = ap (λ (protos : List ℕ). h.proto ∷ protos) (same_protocols buffers wanted notes headers)

pub returns : goal.returns
unfolding outlined
returns c =
    let o = c.self.inside in
    rw (← c.self.view_is) (same_protocols (o.bytes.now ∷ []) o.wanted.now o.notes.now o.headers.now)
