-- The pairs of two lists, by how many values they have.
use Rattle.std.proofs.Common.{◌≡◌, ◌≢◌, ◌⊎◌, inl, inr, List, [], ◌∷◌, length, get_or, refl, arith}
use Rattle.std.specs.List.{filter_map, zip}
use Rattle.flt_typed.specs.Arithmetic.{calculated}
use Rattle.flt_lists.specs.Pairs.{values_calculated}
use Rattle.flt_syntax.specs.declared.ast.Arithmetic.{Arithmetic}
use Rattle.pk_base.specs.declared.value.Value.{Value}

pub single_left : (a : Arithmetic) (vs ws : List Value) (d : Value) → length vs ≡ 1 → values_calculated a vs ws ≡ filter_map (λ w. calculated a (get_or vs 0 d) w) ws
single_left a [] ws d one = absurd (omega (arith, one))
single_left a (v ∷ []) ws d one = refl
single_left a (v ∷ w ∷ vs) ws d one = absurd (omega (arith, one))

pub single_right : (a : Arithmetic) (vs ws : List Value) (d : Value) → length vs ≢ 1 → length ws ≡ 1 → values_calculated a vs ws ≡ filter_map (λ v. calculated a v (get_or ws 0 d)) vs
single_right a vs [] d more one = absurd (omega (arith, one))
single_right a vs (w ∷ x ∷ ws) d more one = absurd (omega (arith, one))
single_right a (v ∷ []) (w ∷ []) d more one = absurd (more refl)
single_right a [] (w ∷ []) d more one = refl
single_right a (v ∷ u ∷ vs) (w ∷ []) d more one = refl

pub no_single : (a : Arithmetic) (vs ws : List Value) → length vs ≢ 1 → length ws ≢ 1 → values_calculated a vs ws ≡ filter_map (λ pair. calculated a pair.0 pair.1) (zip vs ws)
no_single a (v ∷ []) ws more also = absurd (more refl)
no_single a [] (w ∷ []) more also = absurd (also refl)
no_single a (v ∷ u ∷ vs) (w ∷ []) more also = absurd (also refl)
no_single a [] [] more also = refl
no_single a [] (w ∷ x ∷ ws) more also = refl
no_single a (v ∷ u ∷ vs) [] more also = refl
no_single a (v ∷ u ∷ vs) (w ∷ x ∷ ws) more also = refl

-- no pair is left where one of the lists has ended
pub zip_ends : {A B : Type 0} (xs : List A) (ys : List B) → (xs ≡ []) ⊎ (ys ≡ []) → zip xs ys ≡ []
zip_ends [] ys end = refl
zip_ends (x ∷ xs) [] end = refl
zip_ends (x ∷ xs) (y ∷ ys) (inl end) = absurd (cc end)
zip_ends (x ∷ xs) (y ∷ ys) (inr end) = absurd (cc end)
