use Rattle.std.proofs.Common.{◌≡◌, ◌++◌, ℕ, true, false, List, [], ◌∷◌, Option, None, Result, Ok, Err, refl, sym, append_assoc, ◌∙◌, ap}
use Rattle.std.specs.Prelude.{IfOk, OnOk}
use Rattle.std.specs.Str.{bytes_eq}
use Rattle.shark_words.specs.declared.letter.Letter.{Letter}
use Rattle.shark_words.specs.declared.letter.Letter.TheVariants.{FilterStats}
use Rattle.shark_words.specs.declared.uses.Use.{Use}
use Rattle.shark_words.specs.declared.uses.Use.TheVariants as use_
use Rattle.shark_words.specs.Uses.{filter_stats_name, is_cluster, letters_at, without_value}
use Rattle.shark_words.proofs.uses.take_dashed.Goals as goal

-- one use more, behind which no option waits
one_used : {E : Type 0} (answer : Result (Option Letter) E) (uses : (Option Letter → List Use) → List Use) (used : Use) (old new : List Use)
    → ((behind : Option Letter → List Use) → uses behind ≡ used ∷ behind None) → IfOk answer (λ waiting. waiting ≡ None) → OnOk answer (new ≡ old ++ used ∷ [])
    → IfOk answer (λ waiting. (behind : Option Letter → List Use) → old ++ uses behind ≡ new ++ behind waiting)
one_used (Err e) uses used old new is none pushed = tt
one_used (Ok waiting) uses used old new is none pushed = λ behind.
    ap (λ (all : List Use). old ++ all) (is behind)
    ∙ sym (append_assoc old (used ∷ []) (behind None))
    ∙ ap (λ (all : List Use). all ++ behind None) (sym pushed)
    ∙ ap (λ (next : Option Letter). new ++ behind next) (sym none)

stats_used : (number : ℕ) (letters : List ℕ) (used : Use) (behind : Option Letter → List Use) → true ≡ bytes_eq letters filter_stats_name
    → used ≡ without_value number FilterStats → letters_at number letters behind ≡ used ∷ behind None
unfolding letters_at
stats_used number letters used behind named is = rw (sym named) (ap (λ (one : Use). one ∷ behind None) (sym is))

unknown_used : (number : ℕ) (letters : List ℕ) (behind : Option Letter → List Use) → false ≡ bytes_eq letters filter_stats_name
    → is_cluster letters ≡ false → letters_at number letters behind ≡ use_.Unknown number ∷ behind None
unfolding letters_at
unknown_used number letters behind named known = rw (sym named) (rw known refl)

pub returns-then-eq : goal.returns-then-eq
returns-then-eq c =
    one_used c.take_use.result (letters_at c.args.number c.args.letters.now) c.without_value.result c.args.uses.now.items c.take_use.new.uses.items
    (λ behind. stats_used c.args.number c.args.letters.now c.without_value.result behind c.if-eq.ensures c.without_value.ensures)
    c.take_use.ensures.none c.take_use.ensures.used

pub returns : goal.returns
returns c =
    one_used c.take_use-2.result (letters_at c.args.number c.args.letters.now) (use_.Unknown c.args.number) c.args.uses.now.items c.take_use-2.new.uses.items
    (λ behind. unknown_used c.args.number c.args.letters.now behind c.if-eq.ensures (sym c.is_cluster.ensures ∙ c.if-is_cluster.false))
    c.take_use-2.ensures.none c.take_use-2.ensures.used
