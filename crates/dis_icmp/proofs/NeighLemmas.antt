-- The steps of neighbour discovery are of the protocol's own fields.
use Rattle.std.proofs.Common.{ℕ, ◌+◌, ◌-◌, ◌*◌, Bool, true, false, if◌then◌else◌, List, [], ◌∷◌, length, rules}
use Rattle.std.specs.Prelude.{◌==◌, IsTrue, is_none, ◌&&◌, slice_index}
use Rattle.pk_fields.specs.Fields.{row_of}
use Rattle.pk_fields.specs.Ids.{ND, ND_RESERVED, ND_TARGET, ND_OPT_TYPE, ND_OPT_LEN, ND_OPT_VALUE, ND_OPT_LLADDR, ND_OPT_MTU}
use Rattle.pk_fields.specs.Table.{rows}
use Rattle.pk_tree.specs.declared.layout.Step.{Step}
use Rattle.pk_tree.specs.declared.layout.Step.TheVariants.{Row, Part, Check}
use Rattle.pk_tree.specs.Entries.{Entry, ends}
use Rattle.pk_tree.specs.Layouts.{StepsFit, belongs}
use Rattle.pk_tree.specs.Values.{is_read}
use Rattle.pk_tree.proofs.EntryLemmas.{fit_append, fit_repeated}
use Rattle.dis_icmp.specs.Neigh.{advertised_neighbour, advertised_router, neigh_layout, neigh_rows, options_start, redirected}
use Rattle.dis_icmp.specs.NeighOptions.{neigh_options, option_at, option_data, option_with_length, prefix_rows}

record EntryFits (entry : Entry) : Type 0 where
  pub fits : StepsFit ND entry.steps

entry_if : (b : Bool) (x y : Entry) → EntryFits x → EntryFits y → EntryFits (if b then x else y)
entry_if true x y one other = one
entry_if false x y one other = other

steps_if : (b : Bool) (xs ys : List Step) → StepsFit ND xs → StepsFit ND ys → StepsFit ND (if b then xs else ys)
steps_if true xs ys one other = one
steps_if false xs ys one other = other

none_fit : StepsFit ND []
unfolding StepsFit
none_fit = tt

check_fits : StepsFit ND (Check false ∷ [])
unfolding StepsFit
check_fits = (tt, tt)

row_fits : (field at : ℕ) (steps : List Step) → IsTrue (belongs ND field && is_read (row_of field)) → StepsFit ND steps → StepsFit ND (Row field at ∷ steps)
unfolding StepsFit
row_fits field at steps own rest = (own, rest)

part_fits : (field at len : ℕ) (steps : List Step) → IsTrue (belongs ND field && is_read (row_of field) && is_none (row_of field).bits) → StepsFit ND steps → StepsFit ND (Part field at len ∷ steps)
unfolding StepsFit
part_fits field at len steps own rest = (own, rest)

prefix_fits : (at : ℕ) → StepsFit ND (prefix_rows at)
unfolding StepsFit row_of rows
prefix_fits at = search rules

reserved_fits : StepsFit ND (Part ND_RESERVED 0 4 ∷ [])
unfolding StepsFit row_of rows
reserved_fits = search rules

solicited_fits : StepsFit ND (Part ND_RESERVED 0 4 ∷ Row ND_TARGET 4 ∷ [])
unfolding StepsFit row_of rows
solicited_fits = search rules

router_fits : StepsFit ND advertised_router
unfolding StepsFit row_of rows
router_fits = search rules

neighbour_fits : StepsFit ND advertised_neighbour
unfolding StepsFit row_of rows
neighbour_fits = search rules

redirect_fits : StepsFit ND redirected
unfolding StepsFit row_of rows
redirect_fits = search rules

rows_fit : (kind : ℕ) → StepsFit ND (neigh_rows kind)
unfolding neigh_rows
rows_fit kind =
    steps_if _ _ _ reserved_fits (steps_if _ _ _ router_fits (steps_if _ _ _ solicited_fits (steps_if _ _ _ neighbour_fits redirect_fits)))

data_fits : (kind len at : ℕ) → StepsFit ND (option_data kind len at)
unfolding option_data row_of rows
data_fits kind len at =
    steps_if _ _ _ (row_fits ND_OPT_LLADDR (at + 2) [] (search rules) none_fit)
    (steps_if _ _ _ (prefix_fits at)
    (steps_if _ _ _ (row_fits ND_OPT_MTU (at + 4) [] (search rules) none_fit)
    none_fit))

option_with_length_fits : (kind len at : ℕ) → EntryFits (option_with_length kind len at)
unfolding option_with_length row_of rows
option_with_length_fits kind len at =
    entry_if (len == 0) (ends (Row ND_OPT_TYPE at ∷ Row ND_OPT_LEN (at + 1) ∷ Check false ∷ [])) _
    (record { fits = row_fits ND_OPT_TYPE at _ (search rules) (row_fits ND_OPT_LEN (at + 1) _ (search rules) check_fits) })
    (record { fits = row_fits ND_OPT_TYPE at _ (search rules) (row_fits ND_OPT_LEN (at + 1) _ (search rules) (part_fits ND_OPT_VALUE (at + 2) (8 * len - 2) (option_data kind len at) (search rules) (data_fits kind len at))) })

option_fits : (bytes : List ℕ) (at : ℕ) → EntryFits (option_at bytes at)
unfolding option_at
option_fits bytes at =
    entry_if _ (ends []) _ (record { fits = none_fit })
    (option_with_length_fits (slice_index bytes at) (slice_index bytes (at + 1)) at)

options_fit : (bytes : List ℕ) (start : ℕ) → StepsFit ND (neigh_options bytes start).steps
unfolding neigh_options
options_fit bytes start = fit_repeated ND (length bytes) (option_at bytes) (λ at. (option_fits bytes at).fits) start

pub layout_fits : (kind : ℕ) (bytes : List ℕ) → StepsFit ND (neigh_layout kind bytes)
unfolding neigh_layout
layout_fits kind bytes = fit_append ND (neigh_rows kind) _ (rows_fit kind) (options_fit bytes (options_start kind))
