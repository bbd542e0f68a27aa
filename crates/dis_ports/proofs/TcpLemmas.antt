-- TCP's layout: its steps are of the protocol's own fields, and its options, which lie in the header, are always read whole.
use Rattle.std.proofs.Common.{◌≡◌, ℕ, zero, suc, ◌+◌, ◌*◌, ◌<◌, ◌≤◌, Bool, true, false, if◌then◌else◌, List, [], ◌∷◌, length, take, refl, sym, ◌∙◌, arith, rules}
use Rattle.std.proofs.lemmas.Bool.Decides.{nat_tests}
use Rattle.std.proofs.lemmas.List.{length-take}
use Rattle.std.specs.Prelude.{◌==◌, nat_le, ◌&&◌, ◌-◌, ◌/◌, ◌%◌, slice_index}
use Rattle.std.specs.List.{AllByRecursion as Each}
use Rattle.pk_base.specs.declared.span.Span.{Span}
use Rattle.pk_fields.specs.FieldSets.{is_in}
use Rattle.pk_fields.specs.Fields.{row_of}
use Rattle.pk_fields.specs.Ids.{TCP, TCP_OPTION_KIND, TCP_OPTION_LEN, TCP_OPTIONS_MSS_VAL, TCP_OPTIONS_WSCALE_SHIFT, TCP_OPTIONS_SACK_PERM, TCP_OPTIONS_SACK_LE, TCP_OPTIONS_SACK_RE, TCP_OPTIONS_TIMESTAMP_TSVAL, TCP_OPTIONS_TIMESTAMP_TSECR, TCP_OPTIONS_BAD}
use Rattle.pk_fields.specs.Table.{rows}
use Rattle.pk_base.specs.declared.heads.After.TheVariants.{Segment}
use Rattle.pk_base.specs.declared.heads.Mode.{Mode}
use Rattle.pk_base.specs.declared.heads.Mode.TheVariants.{Plain}
use Rattle.pk_tree.specs.declared.layout.Reach.{Reach}
use Rattle.pk_tree.specs.declared.layout.Reach.TheVariants.{All, Short, Failed}
use Rattle.pk_tree.specs.declared.layout.Step.{Step}
use Rattle.pk_tree.specs.declared.layout.Step.TheVariants.{Row, Part}
use Rattle.pk_tree.specs.Entries.{Entry, goes_on, ends, repeated}
use Rattle.pk_tree.specs.Following.{behind}
use Rattle.pk_tree.specs.Layouts.{is_all, StepFits, StepsFit, items_read, layer_read, reach, step_reach}
use Rattle.pk_tree.specs.declared.table.Slot.{Slot}
use Rattle.pk_tree.specs.Tables.{steps_of}
use Rattle.pk_tree.specs.Trees.{TreeShown, kept}
use Rattle.pk_tree.specs.Values.{size_of}
use Rattle.pk_tree.proofs.EntryLemmas.{all_repeated, each_repeated, fit_append}
use Rattle.pk_tree.proofs.KeptLemmas.{Unasked, none_asked}
use Rattle.pk_tree.proofs.UnaskedLemmas.{front_alone, front_reaches}
use Rattle.dis_ports.specs.Tcp.{header_len, tcp_after, tcp_head, tcp_layout, tcp_rows}
use Rattle.dis_ports.specs.TcpOptions.{option_at, option_data, option_fields, option_with_length, sack_block, tcp_options}

-- what holds of each step that an option may have holds of all steps of the options
record EachStep (P : Step → Type 0) (steps : List Step) : Type 0 where
  pub each : Each P steps

steps_if : (P : Step → Type 0) (b : Bool) (xs ys : List Step) → EachStep P xs → EachStep P ys → EachStep P (if b then xs else ys)
steps_if P true xs ys one other = one
steps_if P false xs ys one other = other

record EachOf (P : Step → Type 0) (entry : Entry) : Type 0 where
  pub steps : EachStep P entry.steps

entry_if : (P : Step → Type 0) (b : Bool) (x y : Entry) → EachOf P x → EachOf P y → EachOf P (if b then x else y)
entry_if P true x y one other = one
entry_if P false x y one other = other

record OfOptions (P : Step → Type 0) : Type 0 where
  pub kind : (at : ℕ) → P (Row TCP_OPTION_KIND at)
  pub len : (at : ℕ) → P (Row TCP_OPTION_LEN at)
  pub segment : (at : ℕ) → P (Row TCP_OPTIONS_MSS_VAL at)
  pub shift : (at : ℕ) → P (Row TCP_OPTIONS_WSCALE_SHIFT at)
  pub permitted : (at : ℕ) → P (Part TCP_OPTIONS_SACK_PERM at 2)
  pub left : (at : ℕ) → P (Row TCP_OPTIONS_SACK_LE at)
  pub right : (at : ℕ) → P (Row TCP_OPTIONS_SACK_RE at)
  pub stamp : (at : ℕ) → P (Row TCP_OPTIONS_TIMESTAMP_TSVAL at)
  pub echo : (at : ℕ) → P (Row TCP_OPTIONS_TIMESTAMP_TSECR at)
  pub bad : (at len : ℕ) → P (Part TCP_OPTIONS_BAD at len)

module _ (P : Step → Type 0) (of : OfOptions P) where
  none : EachStep P []
  none = record { each = tt }

  more : (step : Step) (steps : List Step) → P step → EachStep P steps → EachStep P (step ∷ steps)
  more step steps holds rest = record { each = (holds, rest.each) }

  block_each : (at : ℕ) → EachStep P (sack_block at).steps
  block_each at = more _ _ (of.left at) (more _ _ (of.right (at + 4)) none)

  blocks_each : (count at : ℕ) → EachStep P (repeated count sack_block at).steps
  blocks_each count at = record { each = each_repeated P count sack_block (λ place. (block_each place).each) at }

  data_each : (kind len at : ℕ) → EachStep P (option_data kind len at)
  unfolding option_data
  data_each kind len at =
      steps_if P _ _ _ (more _ _ (of.segment (at + 2)) none)
      (steps_if P _ _ _ (more _ _ (of.shift (at + 2)) none)
      (steps_if P _ _ _ (more _ _ (of.permitted at) none)
      (steps_if P _ _ _ (blocks_each (len / 8) (at + 2))
      (steps_if P _ _ _ (more _ _ (of.stamp (at + 2)) (more _ _ (of.echo (at + 6)) none))
      none))))

  with_length_each : (kind len at end : ℕ) → EachOf P (option_with_length kind len at end)
  unfolding option_with_length
  with_length_each kind len at end =
      entry_if P _ _ _
      (record { steps = more _ _ (of.kind at) (more _ _ (of.len (at + 1)) (data_each kind len at)) })
      (record { steps = more _ _ (of.bad at (end - at)) none })

  option_each : (header : List ℕ) (at : ℕ) → EachOf P (option_at header at)
  unfolding option_at
  option_each header at =
      let kind : EachStep P (Row TCP_OPTION_KIND at ∷ []) = more _ _ (of.kind at) none in
      entry_if P _ (ends []) _ (record { steps = none })
      (entry_if P (slice_index header at == 0) (ends (Row TCP_OPTION_KIND at ∷ [])) _ (record { steps = kind })
      (entry_if P (slice_index header at == 1) (goes_on (Row TCP_OPTION_KIND at ∷ []) (at + 1)) _ (record { steps = kind })
      (with_length_each (slice_index header at) (slice_index header (at + 1)) at (length header))))

  options_each : (header : List ℕ) → Each P (tcp_options header).steps
  unfolding tcp_options
  options_each header = each_repeated P 40 (option_at header) (λ at. (option_each header at).steps.each) 20

-- the options' fields are the protocol's own
fields_fit : OfOptions (StepFits TCP)
unfolding row_of rows
fields_fit = record {
  kind = λ at. search rules;
  len = λ at. search rules;
  segment = λ at. search rules;
  shift = λ at. search rules;
  permitted = λ at. search rules;
  left = λ at. search rules;
  right = λ at. search rules;
  stamp = λ at. search rules;
  echo = λ at. search rules;
  bad = λ at len. search rules;
}

pub options_fit : (header : List ℕ) → StepsFit TCP (tcp_options header).steps
unfolding StepsFit
options_fit header = options_each (StepFits TCP) fields_fit header

rows_fit : (bytes : List ℕ) → StepsFit TCP (tcp_rows bytes)
unfolding tcp_rows StepsFit row_of rows
rows_fit bytes = search rules

pub layout_fits : (bytes : List ℕ) → StepsFit TCP (tcp_layout bytes)
unfolding tcp_layout
layout_fits bytes = fit_append TCP (tcp_rows bytes) _ (rows_fit bytes) (options_fit (take (header_len bytes) bytes))

-- where none of them is wanted, no item of the options is kept
fields_unasked : (wanted : List ℕ) → Each (λ field. is_in wanted field ≡ false) option_fields → OfOptions (Unasked wanted)
fields_unasked wanted none = record {
  kind = λ at. none.0;
  len = λ at. none.1.0;
  segment = λ at. none.1.1.0;
  shift = λ at. none.1.1.1.0;
  permitted = λ at. none.1.1.1.1.0;
  left = λ at. none.1.1.1.1.1.0;
  right = λ at. none.1.1.1.1.1.1.0;
  stamp = λ at. none.1.1.1.1.1.1.1.0;
  echo = λ at. none.1.1.1.1.1.1.1.1.0;
  bad = λ at len. none.1.1.1.1.1.1.1.1.1.0;
}

options_unasked : (wanted : List ℕ) (buffers : List (List ℕ)) (span : Span) (header : List ℕ) → Each (λ field. is_in wanted field ≡ false) option_fields →
    kept wanted (items_read buffers span (tcp_options header).steps) ≡ []
options_unasked wanted buffers span header none =
    none_asked wanted buffers span (tcp_options header).steps (options_each (Unasked wanted) (fields_unasked wanted none) header)

-- each option is read whole, since it lies in the header
record IsWhole (end : ℕ) (entry : Entry) : Type 0 where
  pub all : reach end entry.steps ≡ All

whole_if : (end : ℕ) (b : Bool) (x y : Entry) → (b ≡ true → IsWhole end x) → (b ≡ false → IsWhole end y) → IsWhole end (if b then x else y)
whole_if end true x y one other = one refl
whole_if end false x y one other = other refl

all_if : (end : ℕ) (b : Bool) (xs ys : List Step) → (b ≡ true → reach end xs ≡ All) → reach end ys ≡ All → reach end (if b then xs else ys) ≡ All
all_if end true xs ys one other = one refl
all_if end false xs ys one other = other

none_all : (end : ℕ) → reach end [] ≡ All
unfolding reach
none_all end = refl

row_all : (end field at : ℕ) (steps : List Step) → at + size_of field ≤ end → reach end steps ≡ All → reach end (Row field at ∷ steps) ≡ All
unfolding reach step_reach
row_all end field at steps fits rest =
    let inside : nat_le (at + size_of field) end ≡ true = grind (arith, nat_tests) in
    rw (inside, rest) refl

part_if : (test fits : Bool) → fits ≡ true → (if test then All else (if fits then All else Short)) ≡ All
part_if true fits inside = refl
part_if false fits inside = rw inside refl

part_all : (end field at len : ℕ) → at + len ≤ end → reach end (Part field at len ∷ []) ≡ All
unfolding reach step_reach
part_all end field at len fits =
    let inside : nat_le (at + len) end ≡ true = grind (arith, nat_tests) in
    rw (part_if (len == 0) (nat_le (at + len) end) inside) refl

blocks_all : (end count at : ℕ) → at + 8 * count ≤ end → reach end (repeated count sack_block at).steps ≡ All
unfolding repeated row_of rows
blocks_all end zero at inside = none_all end
blocks_all end (suc count) at inside =
    row_all end TCP_OPTIONS_SACK_LE at _ (omega arith)
    (row_all end TCP_OPTIONS_SACK_RE (at + 4) (repeated count sack_block (at + 8)).steps (omega arith) (blocks_all end count (at + 8) (omega arith)))

data_all : (end kind len at : ℕ) → at + len ≤ end → reach end (option_data kind len at) ≡ All
unfolding option_data row_of rows
data_all end kind len at inside =
    all_if end (kind == 2 && len == 4) _ _ (λ is. row_all end TCP_OPTIONS_MSS_VAL (at + 2) [] (grind (arith, nat_tests)) (none_all end))
    (all_if end (kind == 3 && len == 3) _ _ (λ is. row_all end TCP_OPTIONS_WSCALE_SHIFT (at + 2) [] (grind (arith, nat_tests)) (none_all end))
    (all_if end (kind == 4 && len == 2) _ _ (λ is. part_all end TCP_OPTIONS_SACK_PERM at 2 (grind (arith, nat_tests)))
    (all_if end (kind == 5 && len % 8 == 2) _ _ (λ is. blocks_all end (len / 8) (at + 2) (grind (arith, nat_tests)))
    (all_if end (kind == 8 && len == 10) _ [] (λ is. row_all end TCP_OPTIONS_TIMESTAMP_TSVAL (at + 2) _ (grind (arith, nat_tests)) (row_all end TCP_OPTIONS_TIMESTAMP_TSECR (at + 6) [] (grind (arith, nat_tests)) (none_all end)))
    (none_all end)))))

with_length_whole : (kind len at last end : ℕ) → at < last → last ≤ end → IsWhole end (option_with_length kind len at last)
unfolding option_with_length row_of rows
with_length_whole kind len at last end inside most =
    whole_if end (nat_le 2 len && nat_le len (last - at)) _ _
    (λ sound. record { all = row_all end TCP_OPTION_KIND at _ (omega arith) (row_all end TCP_OPTION_LEN (at + 1) _ (grind (arith, nat_tests)) (data_all end kind len at (grind (arith, nat_tests)))) })
    (λ _. record { all = part_all end TCP_OPTIONS_BAD at (last - at) (omega arith) })

option_whole : (header : List ℕ) (end at : ℕ) → length header ≤ end → IsWhole end (option_at header at)
unfolding option_at row_of rows
option_whole header end at most =
    whole_if end (nat_le (length header) at) (ends []) _ (λ _. record { all = none_all end })
    (λ more. let inside : at < length header = grind (arith, nat_tests) in
    let kind : reach end (Row TCP_OPTION_KIND at ∷ []) ≡ All = row_all end TCP_OPTION_KIND at [] (omega arith) (none_all end) in
    whole_if end (slice_index header at == 0) (ends (Row TCP_OPTION_KIND at ∷ [])) _ (λ _. record { all = kind })
    (λ _. whole_if end (slice_index header at == 1) (goes_on (Row TCP_OPTION_KIND at ∷ []) (at + 1)) _ (λ _. record { all = kind })
    (λ _. with_length_whole (slice_index header at) (slice_index header (at + 1)) at (length header) end inside most)))

options_whole : (header : List ℕ) (end : ℕ) → length header ≤ end → reach end (tcp_options header).steps ≡ All
unfolding tcp_options
options_whole header end most = all_repeated end 40 (option_at header) (λ at. (option_whole header end at most).all) 20

-- so that the rows tell how far the layout is read
pub layout_reach : (bytes : List ℕ) (end : ℕ) → length bytes ≤ end → reach end (tcp_layout bytes) ≡ reach end (tcp_rows bytes)
unfolding tcp_layout
layout_reach bytes end most =
    front_reaches end (tcp_rows bytes) (tcp_options (take (header_len bytes) bytes)).steps (options_whole (take (header_len bytes) bytes) end (omega (arith, most, length-take (header_len bytes) bytes)))

-- and where no field of the options is wanted, their steps add nothing
pub layout_alone : (t : TreeShown) (span : Span) (bytes : List ℕ) (mode : Mode) (cut : Bool) → length bytes ≤ span.len → Each (λ field. is_in t.wanted field ≡ false) option_fields →
    layer_read t TCP span (tcp_layout bytes) mode cut ≡ layer_read t TCP span (tcp_rows bytes) mode cut
unfolding tcp_layout
layout_alone t span bytes mode cut most none =
    let header = take (header_len bytes) bytes in
    front_alone t TCP span (tcp_rows bytes) (tcp_options header).steps mode cut
    (options_whole header span.len (omega (arith, most, length-take (header_len bytes) bytes))) (options_unasked t.wanted t.buffers span header none)

-- behind a header whose rows are read comes its segment
pub segment_behind : (span : Span) (bytes : List ℕ) (r : Reach) → length bytes ≡ span.len → is_all r ≡ true → r ≡ reach span.len (tcp_rows bytes) → tcp_after Plain span bytes ≡ Segment (tcp_head bytes) (behind span (header_len bytes))
unfolding tcp_after
segment_behind span bytes All same on rows = rw (layout_reach bytes span.len (omega arith), ← rows) refl
segment_behind span bytes Short same on rows = absurd (cc)
segment_behind span bytes Failed same on rows = absurd (cc)

-- a layer of the rows alone where no field of the options is wanted
pub rows_alone : (t new : TreeShown) (span : Span) (bytes : List ℕ) (cut : Bool) → length bytes ≤ span.len → Each (λ field. is_in t.wanted field ≡ false) option_fields → new ≡ layer_read t TCP span (tcp_rows bytes) Plain cut
    → new ≡ layer_read t TCP span (tcp_layout bytes) Plain cut
rows_alone t new span bytes cut most none is = is ∙ sym (layout_alone t span bytes Plain cut most none)

-- the rows of a whole header, by its table
pub rows_by : (slots : List Slot) (options : ℕ) (bytes : List ℕ) → 20 ≤ header_len bytes → options ≡ header_len bytes - 20 → steps_of (nat_le 20 (header_len bytes) ∷ []) ((header_len bytes - 20) ∷ []) slots ≡ tcp_rows bytes
    → steps_of (true ∷ []) (options ∷ []) slots ≡ tcp_rows bytes
rows_by slots options bytes least size rows =
    let holds : nat_le 20 (header_len bytes) ≡ true = grind (arith, nat_tests) in
    rw size (rw holds at rows)

rows_all : (bytes : List ℕ) (end : ℕ) → 20 ≤ header_len bytes → header_len bytes ≤ end → reach end (tcp_rows bytes) ≡ All
unfolding tcp_rows reach step_reach row_of rows
rows_all bytes end least most = search rules

pub layout_all : (bytes : List ℕ) (end : ℕ) → length bytes ≤ end → 20 ≤ header_len bytes → header_len bytes ≤ end → reach end (tcp_layout bytes) ≡ All
layout_all bytes end inside least most = rw (layout_reach bytes end inside) (rows_all bytes end least most)
