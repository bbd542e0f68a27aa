-- The first of the values of several layers.
use Rattle.std.proofs.Common.{◌≡◌, ◌<◌, ◌+◌, ℕ, suc, List, [], ◌∷◌, ◌++◌, length, drop, get_or, add-one, drop-cons, Some, None, refl}
use Rattle.std.specs.List.{flat_map}
use Rattle.pk_tree.specs.declared.layer.Layer.{Layer}
use Rattle.pk_base.specs.declared.value.Value.{Value}
use Rattle.out_lines.specs.Summary.{first_value}

first_front : (front back : List Value) (value : Value) → Some value ≡ first_value front → Some value ≡ first_value (front ++ back)
first_front [] back value is = absurd (cc)
first_front (first ∷ front) back value is = is

first_behind : (front back : List Value) → None ≡ first_value front → first_value (front ++ back) ≡ first_value back
first_behind [] back is = refl
first_behind (first ∷ front) back is = absurd (cc)

pub first_here : (f : Layer → List Value) (layers : List Layer) (layer : Layer) (i : ℕ) (value : Value) → i < length layers → layer ≡ get_or layers i layer →
    Some value ≡ first_value (f layer) → Some value ≡ first_value (flat_map f (drop i layers))
first_here f layers layer i value inside at is =
    rw (drop-cons layers i layer inside, ← at) (first_front (f layer) (flat_map f (drop (suc i) layers)) value is)

pub first_on : (f : Layer → List Value) (layers : List Layer) (layer : Layer) (i : ℕ) → i < length layers → layer ≡ get_or layers i layer →
    None ≡ first_value (f layer) → first_value (flat_map f (drop i layers)) ≡ first_value (flat_map f (drop (i + 1) layers))
first_on f layers layer i inside at is =
    rw (add-one i, drop-cons layers i layer inside, ← at) (first_behind (f layer) (flat_map f (drop (suc i) layers)) is)
