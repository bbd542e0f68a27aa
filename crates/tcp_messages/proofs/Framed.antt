-- What is told of a message says how it is framed.
use Rattle.std.proofs.Common.{◌≡◌, ℕ, Bool, true, false, List, Option, Some, None, unwrap_or, refl, sym, ap, true≢false, ◌∙◌}
use Rattle.std.specs.Option.{option_map}
use Rattle.std.proofs.lemmas.Option.{none-some}
use Rattle.stream_messages.specs.declared.framer.Framer.{Framer}
use Rattle.stream_messages.specs.declared.framer.Framer.TheVariants as framers
use Rattle.stream_messages.specs.declared.shape.Shape.{Shape}
use Rattle.stream_messages.specs.declared.told.Told.{Told}
use Rattle.stream_messages.specs.declared.told.Told.TheVariants.{Sized, Http}
use Rattle.stream_messages.specs.Framers.{first_sized}
use Rattle.stream_messages.specs.HttpMessages.{first_message}
use Rattle.stream_messages.specs.Tellings.{first_of}
use Rattle.tcp_messages.specs.Laws.{ToldLaw}

abbrev is_sized : Option Told → Bool
is_sized None = true
is_sized (Some (Sized end)) = true
is_sized (Some (Http shape)) = false

sizes : (o : Option ℕ) → is_sized (option_map Sized o) ≡ true
sizes None = refl
sizes (Some end) = refl

abbrev is_shape : Option Told → Bool
is_shape None = true
is_shape (Some (Sized end)) = false
is_shape (Some (Http shape)) = true

shapes : (o : Option Shape) → is_shape (option_map Http o) ≡ true
shapes None = refl
shapes (Some shape) = refl

abbrev end_in : ℕ → Told → ℕ
end_in other (Sized end) = end
end_in other (Http shape) = other

abbrev shape_in : Shape → Told → Shape
shape_in other (Sized end) = other
shape_in other (Http shape) = shape

sized_some : (o : Option ℕ) (end : ℕ) → option_map Sized o ≡ Some (Sized end) → o ≡ Some end
sized_some None end is = absurd (none-some (Sized end) is)
sized_some (Some n) end is = ap (λ (o : Option Told). Some (end_in n (unwrap_or o (Sized n)))) is

http_some : (o : Option Shape) (shape : Shape) → option_map Http o ≡ Some (Http shape) → o ≡ Some shape
http_some None shape is = absurd (none-some (Http shape) is)
http_some (Some s) shape is = ap (λ (o : Option Told). Some (shape_in s (unwrap_or o (Http s)))) is

http_by : (framer : Framer) (asked : Bool) (shape : Shape) (bytes : List ℕ) → first_of framer asked bytes ≡ Some (Http shape) → first_message asked bytes ≡ Some shape
http_by (framers.LengthPrefix head at width) asked shape bytes is = absurd (true≢false (sym (sizes (first_sized head at width bytes)) ∙ ap is_sized is))
http_by framers.Http asked shape bytes is = http_some (first_message asked bytes) shape is

sized_by : (framer : Framer) (asked : Bool) (end : ℕ) (bytes : List ℕ) → first_of framer asked bytes ≡ Some (Sized end)
    → (head : ℕ) × (at : ℕ) × (width : ℕ) × (first_sized head at width bytes ≡ Some end)
sized_by (framers.LengthPrefix head at width) asked end bytes is = (head, at, width, sized_some (first_sized head at width bytes) end is)
sized_by framers.Http asked end bytes is = absurd (true≢false (sym (shapes (first_message asked bytes)) ∙ ap is_shape is))

pub told_so : ToldLaw
told_so = record {
  http = λ shape bytes is. (is.1, http_by is.0 is.1 shape bytes is.2, is.3);
  sized = λ end bytes is. let by = sized_by is.0 is.1 end bytes is.2 in (by.0, by.1, by.2, by.3, is.3);
}
