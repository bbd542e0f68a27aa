-- The program of a filter.
use Rattle.std.proofs.Common.{◌≡◌, ◌≤◌, ◌<◌, ◌^◌, ℕ, List, [], ◌∷◌, ◌++◌, arith, length, subst, sym, ◌∙◌}
use Rattle.std.proofs.lemmas.List.{length-map}
use Rattle.flt_code.specs.Code.{IsCode}
use Rattle.flt_code.specs.Decides.{Agrees, Decides}
use Rattle.flt_code.specs.Laws.{FiltersHavePrograms, TextsHavePrograms}
use Rattle.flt_code.specs.Owners.{Owner, owner_of, owners_of}
use Rattle.flt_code.specs.declared.owners.Owner.{Owner as OwnerRef}
use Rattle.flt_code.proofs.Allowed.{May, IfThere, filter_may}
use Rattle.flt_code.proofs.Inside.{whole_fits}
use Rattle.flt_code.proofs.Made.{filter_code}
use Rattle.flt_code.proofs.Runs.{whole_agrees, whole_runs}
use Rattle.flt_code.proofs.TypesAllow.{types_allow}
use Rattle.flt_mean.specs.Meaning.{meaning}
use Rattle.flt_syntax.specs.Grammar.{IsGrouped}
use Rattle.flt_syntax.specs.Written.{Written}
use Rattle.flt_typing.specs.Texts.{IsFilter}
use Rattle.flt_typing.specs.Typing.{HasType}
use Rattle.flt_typed.specs.declared.typed.Typed.{Typed}
use Rattle.flt_vm.specs.Machine.{Runs, start}
use Rattle.flt_program.specs.Programs.{Code, IsProgram, patterns_of}
use Rattle.flt_vm.specs.Programs.{FitsFilter}
use Rattle.flt_program.specs.declared.instr.Instr.{Instr}
use Rattle.flt_program.specs.declared.instr.Instr.TheVariants as instr
use Rattle.pk_tree.specs.Trees.{IsTree, TreeShown}

-- that a run of a filter's program ends with its truth, within so many steps
abbrev EndsWell : List Instr → ℕ → List (List ℕ) → Typed → TreeShown → Type 0
EndsWell items registers patterns filter tree = (steps : ℕ) × (steps ≤ length items)
    × Runs (record { code = items; patterns = patterns; tree = tree }) steps (start registers) (meaning filter tree)

pub compiled : (refs : List OwnerRef) (ps : List (List ℕ)) (filter : Typed) (front items : List Instr) (registers : ℕ) → IsFilter filter → IsCode (owners_of refs) ps filter front →
    ps ≡ patterns_of filter → items ≡ front ++ instr.Return ∷ [] → registers ≡ length refs → Decides (record { registers = registers; items = items }) filter
unfolding Decides
compiled refs ps filter front items registers is code by joined size tree good =
    let allowed = types_allow tree good is.1.0 filter is.1.2 is.1.1.parsed.grouped in
    let run : EndsWell (front ++ instr.Return ∷ []) (length (owners_of refs)) ps filter tree = whole_runs (owners_of refs) ps filter front tree code allowed in
    let one : EndsWell items (length (owners_of refs)) ps filter tree = subst (λ xs. EndsWell xs (length (owners_of refs)) ps filter tree) (sym joined) run in
    let two : EndsWell items registers ps filter tree = subst (λ n. EndsWell items n ps filter tree) (length-map refs owner_of ∙ sym size) one in
    subst (λ qs. EndsWell items registers qs filter tree) by two

-- a tree with nothing in it
abbrev empty_tree : TreeShown
empty_tree = record { layers = []; buffers = [] ∷ []; wanted = [] }

empty_good : IsTree empty_tree
empty_good = record { frame = omega arith; count = omega arith; layers = tt }

-- the form of a filter, which its types give
formed : (w : Written) (filter : Typed) (tree : TreeShown) → HasType w filter → IsGrouped w → May IfThere tree filter
formed w filter tree is grouped = filter_may empty_tree tree filter (types_allow empty_tree empty_good w filter is grouped)

pub compiled_agrees : (refs : List OwnerRef) (ps : List (List ℕ)) (filter : Typed) (front items : List Instr) (registers : ℕ) → IsFilter filter → IsCode (owners_of refs) ps filter front →
    ps ≡ patterns_of filter → items ≡ front ++ instr.Return ∷ [] → registers ≡ length refs → Agrees (record { registers = registers; items = items }) filter
unfolding Agrees
compiled_agrees refs ps filter front items registers is code by joined size tree steps flag run =
    let one = subst (λ qs. Runs (record { code = items; patterns = qs; tree = tree }) steps (start registers) flag) (sym by) run in
    let two = subst (λ n. Runs (record { code = items; patterns = ps; tree = tree }) steps (start n) flag) (sym (length-map refs owner_of ∙ sym size)) one in
    let three = subst (λ xs. Runs (record { code = xs; patterns = ps; tree = tree }) steps (start (length (owners_of refs))) flag) joined two in
    whole_agrees (owners_of refs) ps filter front tree code (formed is.1.0 filter tree is.1.2 is.1.1.parsed.grouped) steps flag three

-- the program of a filter's code
abbrev program_of : List Owner → List Instr → Code
program_of owners front = record { registers = length owners; items = front ++ instr.Return ∷ [] }

code_decides : (owners : List Owner) (w : Written) (filter : Typed) (front : List Instr) → HasType w filter → IsGrouped w → IsCode owners (patterns_of filter) filter front → Decides (program_of owners front) filter
unfolding Decides
code_decides owners w filter front is grouped code tree good = whole_runs owners (patterns_of filter) filter front tree code (types_allow tree good w filter is grouped)

code_agrees : (owners : List Owner) (w : Written) (filter : Typed) (front : List Instr) → HasType w filter → IsGrouped w → IsCode owners (patterns_of filter) filter front → Agrees (program_of owners front) filter
unfolding Agrees
code_agrees owners w filter front is grouped code tree steps flag run = whole_agrees owners (patterns_of filter) filter front tree code (formed w filter tree is grouped) steps flag run

pub filters_programmed : FiltersHavePrograms
filters_programmed w filter is grouped =
    let c = filter_code [] [] filter in
    (program_of c.owners c.code, code_decides c.owners w filter c.code is grouped c.is, code_agrees c.owners w filter c.code is grouped c.is)

pub texts_programmed : TextsHavePrograms
texts_programmed text filter is = filters_programmed is.0 filter is.2 is.1.parsed.grouped

pub decided_fits : (program : Code) (filter : Typed) → Decides program filter → FitsFilter program filter
unfolding Decides FitsFilter
decided_fits program filter decides tree good =
    let run = decides tree good in
    (run.0, meaning filter tree, run.2)

pub compiled_fits : (refs : List OwnerRef) (ps : List (List ℕ)) (filter : Typed) (front items : List Instr) (registers : ℕ) → IsCode (owners_of refs) ps filter front →
    items ≡ front ++ instr.Return ∷ [] → registers ≡ length refs → length items < 2 ^ 32 → IsProgram (record { registers = registers; items = items })
compiled_fits refs ps filter front items registers code joined size few =
    let whole = whole_fits (owners_of refs) ps filter front code (subst (λ xs. length xs < 2 ^ 32) joined few) in
    let one = subst (λ xs. IsProgram (record { registers = length (owners_of refs); items = xs })) (sym joined) whole in
    subst (λ n. IsProgram (record { registers = n; items = items })) (length-map refs owner_of ∙ sym size) one
