-- Where no field of HTTP is wanted, no item of a message is kept: all its steps are of HTTP's own fields.
use Rattle.std.proofs.Common.{◌≡◌, ◌==◌, ℕ, true, false, List, [], ◌∷◌, arith}
use Rattle.std.specs.List.{AllByRecursion as Each}
use Rattle.std.proofs.lemmas.Bool.{and_parts}
use Rattle.pk_fields.specs.Fields.{row_of}
use Rattle.pk_fields.specs.FieldSets.{is_in}
use Rattle.pk_fields.specs.Ids.{HTTP}
use Rattle.pk_tree.specs.declared.layout.Step.{Step}
use Rattle.pk_tree.specs.declared.layout.Step.TheVariants.{Row, Part, Whole, Derived, Made, Check, Room}
use Rattle.pk_tree.specs.Layouts.{StepFits, StepsFit, belongs}
use Rattle.pk_tree.proofs.KeptLemmas.{Unasked}
use Rattle.stream_messages.specs.declared.shape.Shape.{Shape}
use Rattle.dis_http.specs.Http.{http_layout}
use Rattle.dis_http.proofs.HttpLemmas.{layout_fits}

same_number : (a b : ℕ) → (a == b) ≡ true → a ≡ b
same_number a b e = grind arith

module _ (wanted : List ℕ) (none : (f : ℕ) → (row_of f).proto ≡ HTTP → is_in wanted f ≡ false) where
  own_unasked : (field : ℕ) → belongs HTTP field ≡ true → is_in wanted field ≡ false
  own_unasked field own = none field (same_number _ _ own)

  step_unasked : (step : Step) → StepFits HTTP step → Unasked wanted step
  step_unasked (Row field at) fits = own_unasked field (and_parts _ _ fits).0
  step_unasked (Part field at len) fits = own_unasked field (and_parts _ _ (and_parts _ _ fits).0).0
  step_unasked (Whole field at len) fits = own_unasked field (and_parts _ _ (and_parts _ _ fits).0).0
  step_unasked (Derived field value at len) fits = own_unasked field fits.0
  step_unasked (Made field value) fits = own_unasked field fits.0
  step_unasked (Check holds) fits = tt
  step_unasked (Room room) fits = tt

  steps_unasked : (steps : List Step) → StepsFit HTTP steps → Each (Unasked wanted) steps
  unfolding StepsFit
  steps_unasked [] fits = tt
  steps_unasked (step ∷ steps) fits = (step_unasked step fits.0, steps_unasked steps fits.1)

  pub http_unasked : (shape : Shape) (bytes : List ℕ) → Each (Unasked wanted) (http_layout shape bytes)
  http_unasked shape bytes = steps_unasked (http_layout shape bytes) (layout_fits shape bytes)
