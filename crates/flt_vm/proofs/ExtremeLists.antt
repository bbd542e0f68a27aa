-- The least or the greatest number of two lists.
use Rattle.std.proofs.Common.{◌≡◌, ℕ, List, [], ◌∷◌, ◌++◌, Option, Some, None, option_map, option_to_list, ap, sym, refl, ◌∙◌, arith}
use Rattle.flt_typed.specs.Arithmetic.{extreme_number, extreme_of, nearer, nearer_of, number_in}
use Rattle.flt_typed.specs.declared.arithmetic.Extreme.{Extreme}
use Rattle.flt_typed.specs.declared.arithmetic.Extreme.TheVariants.{Least, Greatest}
use Rattle.pk_base.specs.declared.value.Value.{Value}
use Rattle.pk_base.specs.declared.value.Value.TheVariants.{Uint}

regroup_numbers : (e : Extreme) (a b c : ℕ) → nearer e a (nearer e b c) ≡ nearer e (nearer e a b) c
regroup_numbers Least a b c = omega arith
regroup_numbers Greatest a b c = omega arith

regroup : (e : Extreme) (a b c : Option ℕ) → nearer_of e a (nearer_of e b c) ≡ nearer_of e (nearer_of e a b) c
regroup e None b c = refl
regroup e (Some a) None c = refl
regroup e (Some a) (Some b) None = refl
regroup e (Some a) (Some b) (Some c) = ap Some (regroup_numbers e a b c)

twice_number : (e : Extreme) (a : ℕ) → nearer e a a ≡ a
twice_number Least a = omega arith
twice_number Greatest a = omega arith

twice : (e : Extreme) (a : Option ℕ) → nearer_of e a a ≡ a
twice e None = refl
twice e (Some a) = ap Some (twice_number e a)

number_both : (e : Extreme) (vs ws : List Value) → extreme_number e (vs ++ ws) ≡ nearer_of e (extreme_number e vs) (extreme_number e ws)
number_both e [] ws = refl
number_both e (v ∷ vs) ws = ap (nearer_of e (number_in v)) (number_both e vs ws) ∙ regroup e (number_in v) (extreme_number e vs) (extreme_number e ws)

-- a number alone is its own extreme
number_listed : (e : Extreme) (n : Option ℕ) → extreme_number e (option_to_list (option_map Uint n)) ≡ n
number_listed e None = refl
number_listed e (Some n) = refl

-- the extreme of a list's extreme and others
pub extreme_front : (e : Extreme) (vs ws : List Value) → extreme_of e (option_to_list (extreme_of e vs) ++ ws) ≡ extreme_of e (vs ++ ws)
extreme_front e vs ws = ap (option_map Uint)
    (number_both e (option_to_list (extreme_of e vs)) ws ∙ ap (λ n. nearer_of e n (extreme_number e ws)) (number_listed e (extreme_number e vs)) ∙ sym (number_both e vs ws))

pub extreme_both : (e : Extreme) (vs ws : List Value) → extreme_of e (option_to_list (extreme_of e vs) ++ option_to_list (extreme_of e ws)) ≡ extreme_of e (vs ++ ws)
extreme_both e vs ws = extreme_front e vs (option_to_list (extreme_of e ws)) ∙ ap (option_map Uint)
    (number_both e vs (option_to_list (extreme_of e ws)) ∙ ap (nearer_of e (extreme_number e vs)) (number_listed e (extreme_number e ws)) ∙ sym (number_both e vs ws))

pub extreme_twice : (e : Extreme) (vs : List Value) → extreme_of e (vs ++ vs) ≡ extreme_of e vs
extreme_twice e vs = ap (option_map Uint) (number_both e vs vs ∙ twice e (extreme_number e vs))
