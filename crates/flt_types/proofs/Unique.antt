-- A text's filter and its first fault exclude each other, and the first fault is one, but for patterns that may be too large.
use Rattle.std.proofs.Common.{◌≡◌, ◌⊎◌, inl, inr, ℕ, List, [], ◌∷◌, sym, refl, ◌∙◌, subst}
use Rattle.flt_syntax.specs.Written.{Written}
use Rattle.flt_syntax.specs.declared.fault.FilterFault.{FilterFault}
use Rattle.flt_syntax.specs.declared.fault.FilterReason.{FilterReason}
use Rattle.flt_syntax.specs.declared.fault.FilterReason.TheVariants.{BadPattern, PatternSize}
use Rattle.flt_parse.proofs.Faults.{never_both, one_fault, one_filter}
use Rattle.flt_typed.specs.Patterns.{IsPattern}
use Rattle.flt_typed.proofs.Never.{never_pattern}
use Rattle.flt_types.specs.Faults.{Found, At, PatternAt, IsClear, IsFirst, IsPatternFault, faults}
use Rattle.flt_types.specs.TextLaws.{OneFault, TypedOrFault}
use Rattle.flt_types.proofs.Clear.{type_clear}

-- a pattern is refused for its size alone
size_of_pattern : (pattern : List ℕ) (reason : FilterReason) → IsPattern pattern → IsPatternFault pattern reason → reason ≡ PatternSize
size_of_pattern pattern BadPattern is fault = absurd (never_pattern pattern is fault)
size_of_pattern pattern PatternSize is fault = refl
size_of_pattern pattern reason is fault = absurd fault

clear_or_size : (found : List Found) (at : ℕ) (reason : FilterReason) → IsClear found → IsFirst found at reason → reason ≡ PatternSize
clear_or_size [] at reason clear is = absurd is
clear_or_size (At place why ∷ found) at reason clear is = absurd clear
clear_or_size (PatternAt place pattern ∷ found) at reason clear (inl is) = size_of_pattern pattern reason clear.0 is.1
clear_or_size (PatternAt place pattern ∷ found) at reason clear (inr is) = clear_or_size found at reason clear.1 is.1

pub typed_or_fault : TypedOrFault
typed_or_fault text filter fault typed (inl first) = absurd (never_both text typed.0 fault typed.1 first)
typed_or_fault text filter fault typed (inr types) =
    let same = one_filter text typed.0 types.0 typed.1 types.1 in
    clear_or_size (faults types.0) fault.at fault.reason
    (subst (λ (t : Written). IsClear (faults t)) same (type_clear typed.0 filter typed.2)) types.2

-- two reasons at one pattern
same_reason : (pattern : List ℕ) (a b : FilterReason) → IsPatternFault pattern a → IsPatternFault pattern b
    → (a ≡ b) ⊎ ((a ≡ PatternSize) ⊎ (b ≡ PatternSize))
same_reason pattern BadPattern BadPattern f g = inl refl
same_reason pattern BadPattern PatternSize f g = inr (inr refl)
same_reason pattern PatternSize b f g = inr (inl refl)
same_reason pattern BadPattern b f g = absurd g
same_reason pattern a b f g = absurd f

abbrev AreSame : ℕ → FilterReason → ℕ → FilterReason → Type 0
AreSame m a n b = ((m ≡ n) × (a ≡ b)) ⊎ ((a ≡ PatternSize) ⊎ (b ≡ PatternSize))

same_place : (m n : ℕ) (a b : FilterReason) → m ≡ n → (a ≡ b) ⊎ ((a ≡ PatternSize) ⊎ (b ≡ PatternSize)) → AreSame m a n b
same_place m n a b at (inl is) = inl (at, is)
same_place m n a b at (inr size) = inr size

one_first : (found : List Found) (m n : ℕ) (a b : FilterReason) → IsFirst found m a → IsFirst found n b → AreSame m a n b
one_first [] m n a b f g = absurd f
one_first (At place why ∷ found) m n a b f g = inl (sym f.0 ∙ g.0, sym f.1 ∙ g.1)
one_first (PatternAt place pattern ∷ found) m n a b (inl f) (inl g) = same_place m n a b (sym f.0 ∙ g.0) (same_reason pattern a b f.1 g.1)
one_first (PatternAt place pattern ∷ found) m n a b (inl f) (inr g) = inr (inl (size_of_pattern pattern a g.0 f.1))
one_first (PatternAt place pattern ∷ found) m n a b (inr f) (inl g) = inr (inr (size_of_pattern pattern b f.0 g.1))
one_first (PatternAt place pattern ∷ found) m n a b (inr f) (inr g) = one_first found m n a b f.1 g.1

same_fault : (m n : ℕ) (a b : FilterReason) (f g : FilterFault) → f ≡ record { at = m; reason = a } → g ≡ record { at = n; reason = b } → m ≡ n → a ≡ b → f ≡ g
same_fault m n a b f g p q at why = p ∙ rw (at, why) (sym q)

fault_of_same : (f g : FilterFault) → AreSame f.at f.reason g.at g.reason → (f ≡ g) ⊎ ((f.reason ≡ PatternSize) ⊎ (g.reason ≡ PatternSize))
fault_of_same f g (inl is) = inl (same_fault f.at g.at f.reason g.reason f g refl refl is.0 is.1)
fault_of_same f g (inr size) = inr size

pub one_fault_but_size : OneFault
one_fault_but_size text f g (inl p) (inl q) = inl (one_fault text f g p q)
one_fault_but_size text f g (inl p) (inr q) = absurd (never_both text q.0 f q.1 p)
one_fault_but_size text f g (inr p) (inl q) = absurd (never_both text p.0 g p.1 q)
one_fault_but_size text f g (inr p) (inr q) =
    let same = one_filter text p.0 q.0 p.1 q.1 in
    fault_of_same f g (one_first (faults q.0) f.at g.at f.reason g.reason (subst (λ (t : Written). IsFirst (faults t) f.at f.reason) same p.2) q.2)
