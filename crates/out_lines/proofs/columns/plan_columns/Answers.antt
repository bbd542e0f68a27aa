use Rattle.std.proofs.Common.{◌≡◌, ◌<◌, ◌+◌, ℕ, List, take, length, subst, get_or}
use Rattle.std.specs.Prelude.{IsSome}
use Rattle.std.specs.List.{All}
use Rattle.std.proofs.lemmas.List.Elements.{All-from_get_or, All-get_or, All-more}
use Rattle.out_lines.specs.Places.{place_in}
use Rattle.out_lines.proofs.columns.plan_columns.Goals as goal

-- what held of some fields holds of them still, and of one more
one_more : (P Q : ℕ → Type 0) (fields : List ℕ) (i field : ℕ) → i < length fields → field ≡ get_or fields i field → All P (take i fields) → ((f : ℕ) → P f → Q f) → Q field
    → All Q (take (i + 1) fields)
one_more P Q fields i field within is all kept there =
    All-more Q fields i field within
    (All-from_get_or Q (take i fields) field (λ j inside. kept (get_or (take i fields) j field) (All-get_or P (take i fields) j field inside all)))
    (subst Q is there)

pub loop-field-preserved : goal.loop-field-preserved
loop-field-preserved c = record {
  places_fit = c.in_ok-add_column.ensures.places;
  all = one_more (λ f. IsSome (place_in c.loop-field.places.items f)) (λ f. IsSome (place_in c.add_column.new.places.items f)) c.args.fields.now c.loop-field.field-index c.field-item.result
      c.loop-field-test.true c.field-item.is c.loop-field.invariant.all c.in_ok-add_column.ensures.kept c.in_ok-add_column.ensures.there;
}
