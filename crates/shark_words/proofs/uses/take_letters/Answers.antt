use Rattle.std.proofs.Common.{◌≡◌, ◌<◌, ◌+◌, ◌++◌, ℕ, true, false, List, [], ◌∷◌, length, Option, None, Some, Result, Ok, Err, get_or, drop, refl, sym, ◌∙◌, ap, add-one, append_assoc, drop-cons, length-drop, arith}
use Rattle.std.specs.Prelude.{IfOk}
use Rattle.std.proofs.lemmas.List.{drop_all, take_all}
use Rattle.shark_words.specs.declared.letter.Letter.{Letter}
use Rattle.shark_words.specs.declared.uses.Use.{Use}
use Rattle.shark_words.specs.Letters.{letter_of, has_value}
use Rattle.shark_words.specs.Uses.{cluster_uses, value_uses, without_value}
use Rattle.shark_words.proofs.uses.take_letters.Goals as goal

value_at : (number b : ℕ) (rest : List ℕ) (letter : Letter) (behind : Option Letter → List Use) → Some letter ≡ letter_of b → true ≡ has_value letter
    → cluster_uses number (b ∷ rest) behind ≡ value_uses number letter rest behind
value_at number b rest letter behind is some = rw (← is) (rw (← some) refl)

then_value : {E : Type 0} (answer : Result (Option Letter) E) (number : ℕ) (letters : List ℕ) (at : ℕ) (letter : Letter) (old now new : List Use) (rest : List ℕ) → at < length letters
    → Some letter ≡ letter_of (get_or letters at 0) → true ≡ has_value letter
    → ((behind : Option Letter → List Use) → old ++ cluster_uses number letters behind ≡ now ++ cluster_uses number (drop at letters) behind)
    → IfOk answer (λ waiting. (behind : Option Letter → List Use) → now ++ value_uses number letter rest behind ≡ new ++ behind waiting)
    → rest ≡ drop (at + 1) letters
    → IfOk answer (λ waiting. (behind : Option Letter → List Use) → old ++ cluster_uses number letters behind ≡ new ++ behind waiting)
then_value (Err e) number letters at letter old now new rest inside is some so value left = tt
then_value (Ok waiting) number letters at letter old now new rest inside is some so value left = λ behind.
    let front : drop at letters ≡ get_or letters at 0 ∷ drop (at + 1) letters = rw (add-one at) (drop-cons letters at 0 inside) in
    so behind
    ∙ ap (λ (left : List ℕ). now ++ cluster_uses number left behind) front
    ∙ ap (λ (uses : List Use). now ++ uses) (value_at number (get_or letters at 0) (drop (at + 1) letters) letter behind is some)
    ∙ ap (λ (bytes : List ℕ). now ++ value_uses number letter bytes behind) (sym left)
    ∙ value behind

plain_at : (number b : ℕ) (rest : List ℕ) (letter : Letter) (behind : Option Letter → List Use) → Some letter ≡ letter_of b → false ≡ has_value letter
    → cluster_uses number (b ∷ rest) behind ≡ without_value number letter ∷ cluster_uses number rest behind
plain_at number b rest letter behind is none = rw (← is) (rw (← none) refl)

-- one letter more that has no value
next_letter : (number : ℕ) (letters : List ℕ) (at : ℕ) (letter : Letter) (used : Use) (old now new : List Use) → at < length letters
    → Some letter ≡ letter_of (get_or letters at 0) → false ≡ has_value letter → used ≡ without_value number letter → new ≡ now ++ used ∷ []
    → ((behind : Option Letter → List Use) → old ++ cluster_uses number letters behind ≡ now ++ cluster_uses number (drop at letters) behind)
    → (behind : Option Letter → List Use) → old ++ cluster_uses number letters behind ≡ new ++ cluster_uses number (drop (at + 1) letters) behind
next_letter number letters at letter used old now new inside is none plain pushed so = λ behind.
    let rest : List Use = cluster_uses number (drop (at + 1) letters) behind in
    let front : drop at letters ≡ get_or letters at 0 ∷ drop (at + 1) letters = rw (add-one at) (drop-cons letters at 0 inside) in
    so behind
    ∙ ap (λ (left : List ℕ). now ++ cluster_uses number left behind) front
    ∙ ap (λ (uses : List Use). now ++ uses) (plain_at number (get_or letters at 0) (drop (at + 1) letters) letter behind is none)
    ∙ ap (λ (one : Use). now ++ one ∷ rest) (sym plain)
    ∙ sym (append_assoc now (used ∷ []) rest)
    ∙ ap (λ (uses : List Use). uses ++ rest) (sym pushed)

-- one byte more that is no letter
no_letter : (number b : ℕ) (rest : List ℕ) (behind : Option Letter → List Use) → None ≡ letter_of b → cluster_uses number (b ∷ rest) behind ≡ cluster_uses number rest behind
no_letter number b rest behind is = rw (← is) refl

pass_over : (number : ℕ) (letters : List ℕ) (at : ℕ) (old now : List Use) → at < length letters → None ≡ letter_of (get_or letters at 0)
    → ((behind : Option Letter → List Use) → old ++ cluster_uses number letters behind ≡ now ++ cluster_uses number (drop at letters) behind)
    → (behind : Option Letter → List Use) → old ++ cluster_uses number letters behind ≡ now ++ cluster_uses number (drop (at + 1) letters) behind
pass_over number letters at old now inside none so = λ behind.
    let front : drop at letters ≡ get_or letters at 0 ∷ drop (at + 1) letters = rw (add-one at) (drop-cons letters at 0 inside) in
    so behind
    ∙ ap (λ (left : List ℕ). now ++ cluster_uses number left behind) front
    ∙ ap (λ (uses : List Use). now ++ uses) (no_letter number (get_or letters at 0) (drop (at + 1) letters) behind none)

pub loop-at-preserved : goal.loop-at-preserved
loop-at-preserved c =
    next_letter c.args.number c.args.letters.now c.loop-at.at c.in-Some.letter c.without_value.result c.args.uses.now.items c.loop-at.uses.items c.push.new.self.items
    c.loop-at-test.true (sym c.in-Some.is ∙ c.of_byte.ensures) (sym c.if-has_value.false ∙ c.has_value.ensures) c.without_value.ensures c.in_ok-push.ensures.items c.loop-at.invariant

pub loop-at-preserved-in_default : goal.loop-at-preserved-in_default
loop-at-preserved-in_default c =
    pass_over c.args.number c.args.letters.now c.loop-at.at c.args.uses.now.items c.loop-at.uses.items c.loop-at-test.true
    (sym c.in_default.is ∙ c.of_byte.ensures) c.loop-at.invariant

pub returns-then-has_value : goal.returns-then-has_value
returns-then-has_value c =
    then_value c.take_value.result c.args.number c.args.letters.now c.loop-at.at c.in-Some.letter c.args.uses.now.items c.loop-at.uses.items c.take_value.new.uses.items _
    c.loop-at-test.true (sym c.in-Some.is ∙ c.of_byte.ensures) (sym c.if-has_value.true ∙ c.has_value.ensures) c.loop-at.invariant c.take_value.ensures
    (take_all _ _ (omega (arith, length-drop (c.loop-at.at + 1) c.args.letters.now)))

pub returns : goal.returns
returns c = λ behind.
    c.loop-at.invariant behind
    ∙ ap (λ (left : List ℕ). c.loop-at.uses.items ++ cluster_uses c.args.number left behind) (drop_all c.loop-at.at c.args.letters.now c.loop-at-test.false)
