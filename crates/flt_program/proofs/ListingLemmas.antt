-- Of listings: jumps lead near, and patterns are found by their number.
use Rattle.std.proofs.Common.{◌≡◌, ℕ, ◌+◌, ◌<◌, ◌^◌, Bor, List, [], ◌∷◌, ◌++◌, None, Some, append_assoc, ap, arith, drop, get_or, length, sym, unwrap_or, ◌∙◌}
use Rattle.std.proofs.lemmas.Option.{slice_get-map}
use Rattle.std.specs.Option.{option_map}
use Rattle.std.specs.List.{flat_map, slice_get}
use Rattle.std.proofs.lemmas.List.{at_drop_more}
use Rattle.std.proofs.lemmas.List.Concat.{flat_map-cons}
use Rattle.flt_program.specs.Listing.{IsNear, pattern_at}
use Rattle.flt_typed.specs.declared.pattern.Pattern.{Pattern}
use Rattle.flt_program.specs.Programs.{Code, Fits, IsProgram}
use Rattle.flt_program.specs.Sources.{sources_of}
use Rattle.flt_program.specs.declared.instr.Instr.{Instr}
use Rattle.flt_program.specs.declared.instr.Instr.TheVariants as instr

near : (count size at : ℕ) (i : Instr) → size < 2 ^ 32 → Fits count size at i → IsNear at i
near count size at (instr.Read r field layers) small fits = tt
near count size at (instr.Const r c) small fits = tt
near count size at (instr.Slice r q ranges) small fits = tt
near count size at (instr.Mask r q mask) small fits = tt
near count size at (instr.Call r function q) small fits = tt
near count size at (instr.Count r field layers) small fits = tt
near count size at (instr.Compute r operation p q) small fits = tt
near count size at (instr.Choose r extreme p q) small fits = tt
near count size at (instr.Save r) small fits = tt
near count size at (instr.Test choice relation p q) small fits = tt
near count size at (instr.In choice r ms) small fits = tt
near count size at (instr.Match choice r n) small fits = tt
near count size at (instr.NonZero r) small fits = tt
near count size at instr.Not small fits = tt
near count size at (instr.Differ r) small fits = tt
near count size at (instr.JumpFalse n) small fits = omega (arith, small, fits)
near count size at (instr.JumpTrue n) small fits = omega (arith, small, fits)
near count size at instr.Return small fits = tt

pub near_in_program : (code : Code) (at : ℕ) (i : Instr) → IsProgram code → slice_get code.items at ≡ Some i → IsNear at i
near_in_program code at i is there = near code.registers (length code.items) at i is.few (is.fits at i there)

pub source_found : (patterns : List (Bor Pattern)) (n : ℕ) (p : Bor Pattern) → slice_get patterns n ≡ Some p → pattern_at (sources_of patterns) n ≡ p.now
source_found patterns n p is = ap (λ o. unwrap_or o []) (slice_get-map (λ (q : Bor Pattern). q.now) patterns n ∙ ap (option_map (λ (q : Bor Pattern). q.now)) is)

pub source_missing : (patterns : List (Bor Pattern)) (n : ℕ) → slice_get patterns n ≡ None → pattern_at (sources_of patterns) n ≡ []
source_missing patterns n is = ap (λ o. unwrap_or o []) (slice_get-map (λ (q : Bor Pattern). q.now) patterns n ∙ ap (option_map (λ (q : Bor Pattern). q.now)) is)

-- one more element shown
pub shown_next : {A : Type 0} (f : A → List ℕ) (xs : List A) (i : ℕ) (d x : A) (line new whole : List ℕ) → i < length xs → get_or xs i d ≡ x → line ++ flat_map f (drop i xs) ≡ whole → new ≡ line ++ f x →
    new ++ flat_map f (drop (i + 1) xs) ≡ whole
shown_next f xs i d x line new whole less is before put =
    ap (λ ys. ys ++ flat_map f (drop (i + 1) xs)) put ∙ append_assoc line (f x) (flat_map f (drop (i + 1) xs)) ∙ ap (λ ys. line ++ ys) (sym (flat_map-cons f x (drop (i + 1) xs)))
    ∙ ap (λ y. line ++ flat_map f (y ∷ drop (i + 1) xs)) (sym is) ∙ sym (at_drop_more (λ ys. line ++ flat_map f ys) xs i d less) ∙ before

-- one behind a sign
pub further_next : {A : Type 0} (sign : List ℕ) (f : A → List ℕ) (xs : List A) (i : ℕ) (d x : A) (line mid new whole : List ℕ) → i < length xs → get_or xs i d ≡ x →
    line ++ flat_map (λ y. sign ++ f y) (drop i xs) ≡ whole → mid ≡ line ++ sign → new ≡ mid ++ f x → new ++ flat_map (λ y. sign ++ f y) (drop (i + 1) xs) ≡ whole
further_next sign f xs i d x line mid new whole less is before first second =
    shown_next (λ y. sign ++ f y) xs i d x line new whole less is before (second ∙ ap (λ ys. ys ++ f x) first ∙ append_assoc line sign (f x))
