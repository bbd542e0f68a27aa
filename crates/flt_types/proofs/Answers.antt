-- The first of two lists of faults, one behind the other.
use Rattle.std.proofs.Common.{◌≡◌, inl, inr, ℕ, Bool, true, List, [], ◌∷◌, ◌++◌, Option, Some}
use Rattle.flt_syntax.specs.declared.fault.FilterError.{FilterError}
use Rattle.flt_syntax.specs.declared.fault.FilterError.TheVariants.{Fault, NoMemory}
use Rattle.flt_syntax.specs.declared.fault.FilterReason.{FilterReason}
use Rattle.flt_types.specs.Faults.{Found, At, PatternAt, IsAnswer, IsClear, IsFirst, given, unless}
use Rattle.pk_fields.specs.declared.value_kind.ValueKind.{ValueKind}

first_left : (a b : List Found) (n : ℕ) (r : FilterReason) → IsFirst a n r → IsFirst (a ++ b) n r
first_left [] b n r h = absurd h
first_left (At p w ∷ a) b n r h = h
first_left (PatternAt p t ∷ a) b n r (inl h) = inl h
first_left (PatternAt p t ∷ a) b n r (inr h) = inr (h.0, first_left a b n r h.1)

first_right : (a b : List Found) (n : ℕ) (r : FilterReason) → IsClear a → IsFirst b n r → IsFirst (a ++ b) n r
first_right [] b n r c h = h
first_right (At p w ∷ a) b n r c h = absurd c
first_right (PatternAt p t ∷ a) b n r c h = inr (c.0, first_right a b n r c.1 h)

pub answer_left : (a b : List Found) (e : FilterError) → IsAnswer a e → IsAnswer (a ++ b) e
answer_left a b (Fault f) h = first_left a b f.at f.reason h
answer_left a b NoMemory h = tt

pub answer_right : (a b : List Found) (e : FilterError) → IsClear a → IsAnswer b e → IsAnswer (a ++ b) e
answer_right a b (Fault f) c h = first_right a b f.at f.reason c h
answer_right a b NoMemory c h = tt

pub clear_both : (a b : List Found) → IsClear a → IsClear b → IsClear (a ++ b)
clear_both [] b c d = d
clear_both (At p w ∷ a) b c d = absurd c
clear_both (PatternAt p t ∷ a) b c d = (c.0, clear_both a b c.1 d)

pub clear_unless : (test : Bool) (at : ℕ) (reason : FilterReason) → test ≡ true → IsClear (unless test at reason)
clear_unless test at reason h = rw h tt

pub given_answer : (k : Option ValueKind) (kind : ValueKind) (f : ValueKind → List Found) (e : FilterError) → k ≡ Some kind → IsAnswer (f kind) e → IsAnswer (given k f) e
given_answer k kind f e is h = rw is h

pub given_clear : (k : Option ValueKind) (kind : ValueKind) (f : ValueKind → List Found) → k ≡ Some kind → IsClear (f kind) → IsClear (given k f)
given_clear k kind f is h = rw is h
