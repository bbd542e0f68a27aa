-- The code of a filter, by that of its parts.
use Rattle.std.proofs.Common.{◌≡◌, ◌<◌, ◌≤◌, ℕ, ◌+◌, ◌-◌, Bool as Truth, true, false, Bor, Some, List, [], ◌∷◌, ◌++◌, append_assoc, ap, arith, insert, length, length-append, refl, slice_get, subst, sym, ◌∙◌}
use Rattle.std.proofs.lemmas.Option.{slice_get-map}
use Rattle.std.specs.Option.{option_map}
use Rattle.std.specs.Prelude.{OnOk, Result, Ok, Err}
use Rattle.std.specs.Global.{Box}
use Rattle.flt_code.specs.Code.{Adds, CodeRight, IsAmong, IsCode, IsMatch, IsPatternAt, Joins, LoadsTerm, Then, turned}
use Rattle.flt_code.specs.Owners.{Grows, IsOwned, Owner, OfPart}
use Rattle.flt_chains.specs.Parts.{left_of_filter}
use Rattle.flt_code.proofs.Growth.{code_grows}
use Rattle.flt_code.proofs.LoadLemmas.{adds_on, loads_on, owned_on, some_same}
use Rattle.flt_code.proofs.OwnerLemmas.{get_last}
use Rattle.flt_typed.specs.declared.pattern.Pattern.{Pattern}
use Rattle.flt_syntax.specs.declared.ast.Choice.{Choice}
use Rattle.flt_typed.specs.declared.typed.Member.{Member}
use Rattle.flt_typed.specs.declared.typed.Term.{Term}
use Rattle.flt_typed.specs.declared.typed.Typed.{Typed}
use Rattle.flt_typed.specs.declared.typed.Typed.TheVariants.{Either', Differ', Both', Not', Exists, AnyBit, Compare, Among, Matches}
use Rattle.flt_typed.specs.declared.arithmetic.Extreme.TheVariants.{Least}
use Rattle.flt_program.specs.Programs.{patterns_of}
use Rattle.flt_program.specs.Sources.{patterns_right, sources_of}
use Rattle.flt_program.specs.declared.instr.Instr.{Instr}
use Rattle.flt_program.specs.declared.instr.Instr.TheVariants as instr

pub code_on : (os new : List Owner) (ps qs more : List (List ℕ)) (filter : Typed) (code : List Instr) → Grows os new → qs ≡ ps ++ more → IsCode os ps filter code → IsCode new qs filter code
code_on os new ps qs more filter code g is c =
    subst (λ xs. IsCode xs qs filter code) (sym g.1) (subst (λ ys. IsCode (os ++ g.0) ys filter code) (sym is) (code_grows os g.0 ps more filter code c))

-- the code of a whole filter: that of its left side, and what stands behind it
right_code : (os new : List Owner) (ps qs : List (List ℕ)) (filter part : Typed) (front back : List Instr) → left_of_filter filter ≡ Some part → Grows os new → qs ≡ ps ++ patterns_right filter → IsCode os ps part front →
    CodeRight new qs filter back → IsCode new qs filter (front ++ back)
right_code os new ps qs (Either' p left q right) part front back is g more first second =
    let one = code_on os new ps qs (patterns_of right) left front g more (subst (λ t. IsCode os ps t front) (sym (some_same left part is)) first) in
    (front, second.0, one, second.1, ap (λ xs. front ++ xs) second.2)
right_code os new ps qs (Both' p left q right) part front back is g more first second =
    let one = code_on os new ps qs (patterns_of right) left front g more (subst (λ t. IsCode os ps t front) (sym (some_same left part is)) first) in
    (front, second.0, one, second.1, ap (λ xs. front ++ xs) second.2)
right_code os new ps qs (Differ' p left q right) part front back is g more first second =
    let one = code_on os new ps qs (patterns_of right) left front g more (subst (λ t. IsCode os ps t front) (sym (some_same left part is)) first) in
    (second.0, front, second.1, second.2, one, second.3, ap (λ xs. front ++ xs) second.4)
right_code os new ps qs filter part front back is g more first second = cc

pub code_right : (os new : List Owner) (ps qs : List (List ℕ)) (filter part : Typed) (before middle after : List Instr) → left_of_filter filter ≡ Some part → Grows os new → qs ≡ ps ++ patterns_right filter →
    Adds (IsCode os ps part) before middle → Adds (CodeRight new qs filter) middle after → Adds (IsCode new qs filter) before after
code_right os new ps qs filter part before middle after is g more first second =
    (first.0 ++ second.0, right_code os new ps qs filter part first.0 second.0 is g more first.1 second.1, adds_on before middle after first.0 second.0 first.2 second.2)

-- what follows where a call succeeds
on_ok : {A E : Type 0} (P Q : Type 0) (r : Result A E) → (P → Q) → OnOk r P → OnOk r Q
on_ok P Q (Ok x) f p = f p
on_ok P Q (Err e) f p = tt

-- an instruction before a piece
insert_front : {A : Type 0} (xs ys : List A) (x : A) → insert (xs ++ ys) (length xs) x ≡ xs ++ x ∷ ys
insert_front [] ys x = refl
insert_front (y ∷ xs) ys x = ap (λ zs. y ∷ zs) (insert_front xs ys x)

pub inserted : (before piece middle after : List Instr) (start : ℕ) (i : Instr) → start ≡ length before → middle ≡ before ++ piece → after ≡ insert middle start i → after ≡ before ++ i ∷ piece
inserted before piece middle after start i at is put = put ∙ ap (λ n. insert middle n i) at ∙ ap (λ xs. insert xs (length before) i) is ∙ insert_front before piece i

-- how many instructions a piece has
pub piece_length : (before piece after : List Instr) → after ≡ before ++ piece → length after ≡ length before + length piece
piece_length before piece after is = ap length is ∙ length-append before piece

either_right : (os : List Owner) (ps : List (List ℕ)) (filter other : Typed) (p q : Box (Unit {0})) (left right : Typed) (before middle after : List Instr) (start all : ℕ) →
    filter ≡ Either' p left q right → other ≡ right → start ≡ length before → all ≡ length middle → (added : Adds (IsCode os ps other) before middle) →
    after ≡ insert middle start (instr.JumpTrue (all - start)) → Adds (CodeRight os ps filter) before after
either_right os ps filter other p q left right before middle after start all is same at size added put =
    let longer = piece_length before added.0 middle added.2 in
    let passed : all - start ≡ length added.0 = omega (arith, at, size, longer) in
    subst (λ t. Adds (CodeRight os ps t) before after) (sym is) (
      instr.JumpTrue (all - start) ∷ added.0,
      (added.0, subst (λ t. IsCode os ps t added.0) same added.1, ap (λ n. instr.JumpTrue n ∷ added.0) passed),
      inserted before added.0 middle after start (instr.JumpTrue (all - start)) at added.2 put,
    )

pub either_put : {A E : Type 0} (result : Result A E) (os : List Owner) (ps : List (List ℕ)) (filter other : Typed) (p q : Box (Unit {0})) (left right : Typed) (before middle after : List Instr) (start all : ℕ) →
    filter ≡ Either' p left q right → other ≡ right → start ≡ length before → all ≡ length middle → Adds (IsCode os ps other) before middle →
    OnOk result (after ≡ insert middle start (instr.JumpTrue (all - start))) → OnOk result (Adds (CodeRight os ps filter) before after)
either_put result os ps filter other p q left right before middle after start all is same at size added put =
    on_ok (after ≡ insert middle start (instr.JumpTrue (all - start))) (Adds (CodeRight os ps filter) before after) result
    (either_right os ps filter other p q left right before middle after start all is same at size added) put

both_right : (os : List Owner) (ps : List (List ℕ)) (filter other : Typed) (p q : Box (Unit {0})) (left right : Typed) (before middle after : List Instr) (start all : ℕ) →
    filter ≡ Both' p left q right → other ≡ right → start ≡ length before → all ≡ length middle → (added : Adds (IsCode os ps other) before middle) →
    after ≡ insert middle start (instr.JumpFalse (all - start)) → Adds (CodeRight os ps filter) before after
both_right os ps filter other p q left right before middle after start all is same at size added put =
    let longer = piece_length before added.0 middle added.2 in
    let passed : all - start ≡ length added.0 = omega (arith, at, size, longer) in
    subst (λ t. Adds (CodeRight os ps t) before after) (sym is) (
      instr.JumpFalse (all - start) ∷ added.0,
      (added.0, subst (λ t. IsCode os ps t added.0) same added.1, ap (λ n. instr.JumpFalse n ∷ added.0) passed),
      inserted before added.0 middle after start (instr.JumpFalse (all - start)) at added.2 put,
    )

pub both_put : {A E : Type 0} (result : Result A E) (os : List Owner) (ps : List (List ℕ)) (filter other : Typed) (p q : Box (Unit {0})) (left right : Typed) (before middle after : List Instr) (start all : ℕ) →
    filter ≡ Both' p left q right → other ≡ right → start ≡ length before → all ≡ length middle → Adds (IsCode os ps other) before middle →
    OnOk result (after ≡ insert middle start (instr.JumpFalse (all - start))) → OnOk result (Adds (CodeRight os ps filter) before after)
both_put result os ps filter other p q left right before middle after start all is same at size added put =
    on_ok (after ≡ insert middle start (instr.JumpFalse (all - start))) (Adds (CodeRight os ps filter) before after) result
    (both_right os ps filter other p q left right before middle after start all is same at size added) put

differ_right : (os new : List Owner) (ps : List (List ℕ)) (filter kept other : Typed) (p q : Box (Unit {0})) (left right : Typed) (r : ℕ) (before saved middle after : List Instr) →
    filter ≡ Differ' p left q right → kept ≡ left → IsOwned os r (OfPart kept) → Grows os new → other ≡ right → saved ≡ before ++ instr.Save r ∷ [] → (added : Adds (IsCode new ps other) saved middle) →
    after ≡ middle ++ instr.Differ r ∷ [] → Adds (CodeRight new ps filter) before after
differ_right os new ps filter kept other p q left right r before saved middle after is keeps own g same save added put =
    let behind = adds_on saved middle after added.0 (instr.Differ r ∷ []) added.2 put in
    subst (λ t. Adds (CodeRight new ps t) before after) (sym is) (
      instr.Save r ∷ (added.0 ++ instr.Differ r ∷ []),
      (r, added.0, owned_on os new r (OfPart left) g (subst (λ t. IsOwned os r (OfPart t)) keeps own), subst (λ t. IsCode new ps t added.0) same added.1, refl),
      adds_on before saved after (instr.Save r ∷ []) (added.0 ++ instr.Differ r ∷ []) save behind,
    )

pub differ_put : {A E : Type 0} (result : Result A E) (os new : List Owner) (ps : List (List ℕ)) (filter kept other : Typed) (p q : Box (Unit {0})) (left right : Typed) (r : ℕ) (before saved middle after : List Instr) →
    filter ≡ Differ' p left q right → kept ≡ left → IsOwned os r (OfPart kept) → Grows os new → other ≡ right → saved ≡ before ++ instr.Save r ∷ [] → Adds (IsCode new ps other) saved middle →
    OnOk result (after ≡ middle ++ instr.Differ r ∷ []) → OnOk result (Adds (CodeRight new ps filter) before after)
differ_put result os new ps filter kept other p q left right r before saved middle after is keeps own g same save added put =
    on_ok (after ≡ middle ++ instr.Differ r ∷ []) (Adds (CodeRight new ps filter) before after) result
    (differ_right os new ps filter kept other p q left right r before saved middle after is keeps own g same save added) put

pub code_as : (os : List Owner) (ps : List (List ℕ)) (filter same : Typed) (code : List Instr) → filter ≡ same → IsCode os ps same code → IsCode os ps filter code
code_as os ps filter same code is c = subst (λ t. IsCode os ps t code) (sym is) c

-- the code of a filter that is no chain
not_code : (os : List Owner) (ps : List (List ℕ)) (filter inner other : Typed) (p : Box (Unit {0})) (before middle after : List Instr) → filter ≡ Not' p inner → other ≡ inner →
    Adds (IsCode os ps other) before middle → after ≡ middle ++ instr.Not ∷ [] → Adds (IsCode os ps filter) before after
not_code os ps filter inner other p before middle after is same added put =
    subst (λ t. Adds (IsCode os ps t) before after) (sym is)
    (added.0 ++ instr.Not ∷ [], (added.0, subst (λ t. IsCode os ps t added.0) same added.1, refl), adds_on before middle after added.0 (instr.Not ∷ []) added.2 put)

pub not_put : {A E : Type 0} (result : Result A E) (os : List Owner) (ps : List (List ℕ)) (filter inner other : Typed) (p : Box (Unit {0})) (before middle after : List Instr) → filter ≡ Not' p inner → other ≡ inner →
    Adds (IsCode os ps other) before middle → OnOk result (after ≡ middle ++ instr.Not ∷ []) → OnOk result (Adds (IsCode os ps filter) before after)
not_put result os ps filter inner other p before middle after is same added put =
    on_ok (after ≡ middle ++ instr.Not ∷ []) (Adds (IsCode os ps filter) before after) result (not_code os ps filter inner other p before middle after is same added) put

pub exists_code : (os : List Owner) (ps : List (List ℕ)) (filter : Typed) (term : Term) (r : ℕ) (before after : List Instr) → filter ≡ Exists term → Adds (LoadsTerm os term r) before after →
    Adds (IsCode os ps filter) before after
exists_code os ps filter term r before after is added = subst (λ t. Adds (IsCode os ps t) before after) (sym is) (added.0, (r, added.1), added.2)

-- a term's code, and an instruction behind it that asks of its register
then_added : (os : List Owner) (term : Term) (next : ℕ → Instr) (r : ℕ) (before middle after : List Instr) → Adds (LoadsTerm os term r) before middle → after ≡ middle ++ next r ∷ [] →
    Adds (Then (LoadsTerm os term) next) before after
then_added os term next r before middle after added put =
    (added.0 ++ next r ∷ [], (r, added.0, added.1, refl), adds_on before middle after added.0 (next r ∷ []) added.2 put)

pub bits_put : {A E : Type 0} (result : Result A E) (os : List Owner) (ps : List (List ℕ)) (filter : Typed) (term : Term) (r : ℕ) (before middle after : List Instr) → filter ≡ AnyBit term →
    Adds (LoadsTerm os term r) before middle → OnOk result (after ≡ middle ++ instr.NonZero r ∷ []) → OnOk result (Adds (IsCode os ps filter) before after)
bits_put result os ps filter term r before middle after is added put =
    on_ok (after ≡ middle ++ instr.NonZero r ∷ []) (Adds (IsCode os ps filter) before after) result
    (λ pushed. subst (λ t. Adds (IsCode os ps t) before after) (sym is) (then_added os term (λ x. instr.NonZero x) r before middle after added pushed)) put

joins_added : (os new : List Owner) (left right : Term) (next : ℕ → ℕ → Instr) (l r : ℕ) (before middle further after : List Instr) → Adds (LoadsTerm os left l) before middle → Grows os new →
    Adds (LoadsTerm new right r) middle further → after ≡ further ++ next l r ∷ [] → Adds (Joins (LoadsTerm new left) (LoadsTerm new right) next) before after
joins_added os new left right next l r before middle further after first g second put = (
  first.0 ++ (second.0 ++ next l r ∷ []),
  (l, r, first.0, second.0, loads_on os new Least left l first.0 g first.1, second.1, refl),
  adds_on before middle after first.0 (second.0 ++ next l r ∷ []) first.2 (adds_on middle further after second.0 (next l r ∷ []) second.2 put),
)

pub code_put : {A E : Type 0} (result : Result A E) (os : List Owner) (ps : List (List ℕ)) (filter same : Typed) (before after : List Instr) → filter ≡ same → OnOk result (Adds (IsCode os ps same) before after) →
    OnOk result (Adds (IsCode os ps filter) before after)
code_put result os ps filter same before after is put = subst (λ t. OnOk result (Adds (IsCode os ps t) before after)) (sym is) put

-- a test of a set, where a NOT may stand behind it
among_added : (os : List Owner) (term : Term) (choice : Choice) (r : ℕ) (members : List Member) (negated : Truth) (before middle after : List Instr) → Adds (LoadsTerm os term r) before middle →
    after ≡ middle ++ instr.In choice r members ∷ turned negated → Adds (IsAmong os term choice members negated) before after
among_added os term choice r members negated before middle after added put =
    (added.0 ++ instr.In choice r members ∷ turned negated, (r, added.0, added.1, refl), adds_on before middle after added.0 (instr.In choice r members ∷ turned negated) added.2 put)

pub among_plain : (os : List Owner) (term : Term) (choice : Choice) (r : ℕ) (members copied : List Member) (negated : Truth) (before middle after : List Instr) → negated ≡ false → copied ≡ members →
    Adds (LoadsTerm os term r) before middle → after ≡ middle ++ instr.In choice r copied ∷ [] → Adds (IsAmong os term choice members negated) before after
among_plain os term choice r members copied negated before middle after plain same added put =
    among_added os term choice r members negated before middle after added
    (put ∙ ap (λ ms. middle ++ instr.In choice r ms ∷ []) same ∙ ap (λ b. middle ++ instr.In choice r members ∷ turned b) (sym plain))

pub among_turned : {A E : Type 0} (result : Result A E) (os : List Owner) (term : Term) (choice : Choice) (r : ℕ) (members copied : List Member) (negated : Truth) (before middle tested after : List Instr) → negated ≡ true →
    copied ≡ members → Adds (LoadsTerm os term r) before middle → tested ≡ middle ++ instr.In choice r copied ∷ [] → OnOk result (after ≡ tested ++ instr.Not ∷ []) →
    OnOk result (Adds (IsAmong os term choice members negated) before after)
among_turned result os term choice r members copied negated before middle tested after turns same added test put =
    on_ok (after ≡ tested ++ instr.Not ∷ []) (Adds (IsAmong os term choice members negated) before after) result
    (λ pushed. among_added os term choice r members negated before middle after added
    (adds_on middle tested after (instr.In choice r members ∷ []) (instr.Not ∷ []) (test ∙ ap (λ ms. middle ++ instr.In choice r ms ∷ []) same) pushed
    ∙ ap (λ b. middle ++ instr.In choice r members ∷ turned b) (sym turns))) put

matches_added : (os : List Owner) (ps : List (List ℕ)) (term : Term) (pattern : List ℕ) (choice : Choice) (n r : ℕ) (before middle after : List Instr) → IsPatternAt ps n pattern →
    Adds (LoadsTerm os term r) before middle → after ≡ middle ++ instr.Match choice r n ∷ [] → Adds (IsMatch os ps term choice pattern) before after
matches_added os ps term pattern choice n r before middle after at added put =
    let made = then_added os term (λ x. instr.Match choice x n) r before middle after added put in
    (made.0, (n, at, made.1), made.2)

pub matches_put : {A E : Type 0} (result : Result A E) (os : List Owner) (ps : List (List ℕ)) (term : Term) (pattern : List ℕ) (choice : Choice) (n r : ℕ) (before middle after : List Instr) → IsPatternAt ps n pattern →
    Adds (LoadsTerm os term r) before middle → OnOk result (after ≡ middle ++ instr.Match choice r n ∷ []) → OnOk result (Adds (IsMatch os ps term choice pattern) before after)
matches_put result os ps term pattern choice n r before middle after at added put =
    on_ok (after ≡ middle ++ instr.Match choice r n ∷ []) (Adds (IsMatch os ps term choice pattern) before after) result (matches_added os ps term pattern choice n r before middle after at added) put

pub joins_put : {A E : Type 0} (result : Result A E) (os new : List Owner) (left right : Term) (next : ℕ → ℕ → Instr) (l r : ℕ) (before middle further after : List Instr) → Adds (LoadsTerm os left l) before middle → Grows os new →
    Adds (LoadsTerm new right r) middle further → OnOk result (after ≡ further ++ next l r ∷ []) → OnOk result (Adds (Joins (LoadsTerm new left) (LoadsTerm new right) next) before after)
joins_put result os new left right next l r before middle further after first g second put =
    on_ok (after ≡ further ++ next l r ∷ []) (Adds (Joins (LoadsTerm new left) (LoadsTerm new right) next) before after) result (joins_added os new left right next l r before middle further after first g second) put

-- the number of a pattern that is the last
pub pattern_last : (old new : List (Bor Pattern)) (p : Bor Pattern) (n : ℕ) → new ≡ old ++ p ∷ [] → n ≡ length old → IsPatternAt (sources_of new) n p.now
pattern_last old new p n more last =
    ap (λ xs. slice_get (sources_of xs) n) more ∙ ap (slice_get (sources_of (old ++ p ∷ []))) last ∙ slice_get-map (λ (q : Bor Pattern). q.now) (old ++ p ∷ []) (length old)
    ∙ ap (option_map (λ (q : Bor Pattern). q.now)) (get_last old p)
