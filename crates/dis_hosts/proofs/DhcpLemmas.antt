-- DHCP's layout: its steps are of the protocol's own fields, and where none of the options' fields is wanted, one condition
-- stands for all options.
use Rattle.std.proofs.Common.{◌≡◌, ◌==◌, ℕ, ◌+◌, Bool, true, false, if◌then◌else◌, List, [], ◌∷◌, ◌++◌, length, refl, sym, ◌∙◌, append-nil, rules}
use Rattle.std.specs.Prelude.{◌/◌, slice_index}
use Rattle.std.specs.List.{AllByRecursion as Each}
use Rattle.pk_base.specs.declared.span.Span.{Span}
use Rattle.pk_fields.specs.FieldSets.{is_in}
use Rattle.pk_fields.specs.Fields.{row_of}
use Rattle.pk_fields.specs.Ids.{DHCP, DHCP_OPTION_TYPE, DHCP_OPTION_LENGTH, DHCP_OPTION_VALUE, DHCP_OPTION_SUBNET_MASK, DHCP_OPTION_ROUTER, DHCP_OPTION_DOMAIN_NAME_SERVER, DHCP_OPTION_HOSTNAME, DHCP_OPTION_REQUESTED_IP_ADDRESS, DHCP_OPTION_IP_ADDRESS_LEASE_TIME, DHCP_OPTION_DHCP, DHCP_OPTION_DHCP_SERVER_ID}
use Rattle.pk_fields.specs.Table.{rows}
use Rattle.pk_base.specs.declared.heads.Mode.{Mode}
use Rattle.pk_tree.specs.declared.layout.Reach.TheVariants.{All, Short}
use Rattle.pk_tree.specs.declared.layout.Step.{Step}
use Rattle.pk_tree.specs.declared.layout.Step.TheVariants.{Row, Part, Room}
use Rattle.pk_tree.specs.Entries.{Entry, goes_on, ends, repeated}
use Rattle.pk_tree.specs.Layouts.{StepFits, StepsFit, items_after, items_read, layer_read, reach, reach_after, step_reach}
use Rattle.pk_tree.specs.Trees.{TreeShown, kept, with_layer}
use Rattle.pk_tree.proofs.EntryLemmas.{each_repeated, fit_append}
use Rattle.pk_tree.proofs.KeptLemmas.{Unasked, after, kept-append, none_asked}
use Rattle.pk_tree.proofs.TableLemmas.{items_read-append, reach-append}
use Rattle.dis_hosts.specs.Dhcp.{dhcp_layout, dhcp_rows}
use Rattle.dis_hosts.specs.DhcpOptions.{address, dhcp_options, option_at, option_data, option_fields, option_with_length}

-- what holds of each step that an option may have holds of all steps of the options
record EachStep (P : Step → Type 0) (steps : List Step) : Type 0 where
  pub each : Each P steps

steps_if : (P : Step → Type 0) (b : Bool) (xs ys : List Step) → EachStep P xs → EachStep P ys → EachStep P (if b then xs else ys)
steps_if P true xs ys one other = one
steps_if P false xs ys one other = other

record EachOf (P : Step → Type 0) (entry : Entry) : Type 0 where
  pub steps : EachStep P entry.steps

entry_if : (P : Step → Type 0) (b : Bool) (x y : Entry) → EachOf P x → EachOf P y → EachOf P (if b then x else y)
entry_if P true x y one other = one
entry_if P false x y one other = other

record OfOptions (P : Step → Type 0) : Type 0 where
  pub code : (at : ℕ) → P (Row DHCP_OPTION_TYPE at)
  pub len : (at : ℕ) → P (Row DHCP_OPTION_LENGTH at)
  pub value : (at len : ℕ) → P (Part DHCP_OPTION_VALUE at len)
  pub mask : (at : ℕ) → P (Row DHCP_OPTION_SUBNET_MASK at)
  pub router : (at : ℕ) → P (Row DHCP_OPTION_ROUTER at)
  pub name_server : (at : ℕ) → P (Row DHCP_OPTION_DOMAIN_NAME_SERVER at)
  pub host_name : (at len : ℕ) → P (Part DHCP_OPTION_HOSTNAME at len)
  pub requested : (at : ℕ) → P (Row DHCP_OPTION_REQUESTED_IP_ADDRESS at)
  pub lease : (at : ℕ) → P (Row DHCP_OPTION_IP_ADDRESS_LEASE_TIME at)
  pub message : (at : ℕ) → P (Row DHCP_OPTION_DHCP at)
  pub server : (at : ℕ) → P (Row DHCP_OPTION_DHCP_SERVER_ID at)

module _ (P : Step → Type 0) (of : OfOptions P) where
  none : EachStep P []
  none = record { each = tt }

  more : (step : Step) (steps : List Step) → P step → EachStep P steps → EachStep P (step ∷ steps)
  more step steps holds rest = record { each = (holds, rest.each) }

  one : (step : Step) → P step → EachStep P (step ∷ [])
  one step holds = more step [] holds none

  addresses_each : (field count at : ℕ) → ((place : ℕ) → P (Row field place)) → EachStep P (repeated count (address field) at).steps
  addresses_each field count at holds = record { each = each_repeated P count (address field) (λ place. (one _ (holds place)).each) at }

  data_each : (code len at : ℕ) → EachStep P (option_data code len at)
  unfolding option_data
  data_each code len at =
      steps_if P _ _ _ (one _ (of.mask at))
      (steps_if P _ _ _ (addresses_each DHCP_OPTION_ROUTER (len / 4) at of.router)
      (steps_if P _ _ _ (addresses_each DHCP_OPTION_DOMAIN_NAME_SERVER (len / 4) at of.name_server)
      (steps_if P _ _ _ (one _ (of.host_name at len))
      (steps_if P _ _ _ (one _ (of.requested at))
      (steps_if P _ _ _ (one _ (of.lease at))
      (steps_if P _ _ _ (one _ (of.message at))
      (steps_if P _ _ _ (one _ (of.server at))
      none)))))))

  with_length_each : (code len at : ℕ) → EachOf P (option_with_length code len at)
  unfolding option_with_length
  with_length_each code len at =
      record { steps = more _ _ (of.code at) (more _ _ (of.len (at + 1)) (more _ _ (of.value (at + 2) len) (data_each code len (at + 2)))) }

  option_each : (bytes : List ℕ) (at : ℕ) → EachOf P (option_at bytes at)
  unfolding option_at
  option_each bytes at =
      let code : EachStep P (Row DHCP_OPTION_TYPE at ∷ []) = one _ (of.code at) in
      entry_if P _ (ends []) _ (record { steps = none })
      (entry_if P (slice_index bytes at == 0) (goes_on (Row DHCP_OPTION_TYPE at ∷ []) (at + 1)) _ (record { steps = code })
      (entry_if P (slice_index bytes at == 255) (ends (Row DHCP_OPTION_TYPE at ∷ [])) _ (record { steps = code })
      (with_length_each (slice_index bytes at) (slice_index bytes (at + 1)) at)))

  options_each : (bytes : List ℕ) → Each P (dhcp_options bytes).steps
  unfolding dhcp_options
  options_each bytes = each_repeated P (length bytes) (option_at bytes) (λ at. (option_each bytes at).steps.each) 240

-- the options' fields are the protocol's own
fields_fit : OfOptions (StepFits DHCP)
unfolding row_of rows
fields_fit = record {
  code = λ at. search rules;
  len = λ at. search rules;
  value = λ at len. search rules;
  mask = λ at. search rules;
  router = λ at. search rules;
  name_server = λ at. search rules;
  host_name = λ at len. search rules;
  requested = λ at. search rules;
  lease = λ at. search rules;
  message = λ at. search rules;
  server = λ at. search rules;
}

pub options_fit : (bytes : List ℕ) → StepsFit DHCP (dhcp_options bytes).steps
unfolding StepsFit
options_fit bytes = options_each (StepFits DHCP) fields_fit bytes

rows_fit : (bytes : List ℕ) → StepsFit DHCP (dhcp_rows bytes)
unfolding dhcp_rows StepsFit row_of rows
rows_fit bytes = search rules

pub layout_fits : (bytes : List ℕ) → StepsFit DHCP (dhcp_layout bytes)
unfolding dhcp_layout
layout_fits bytes = fit_append DHCP (dhcp_rows bytes) _ (rows_fit bytes) (options_fit bytes)

-- where none of them is wanted, no item of the options is kept
fields_unasked : (wanted : List ℕ) → Each (λ field. is_in wanted field ≡ false) option_fields → OfOptions (Unasked wanted)
fields_unasked wanted none = record {
  code = λ at. none.0;
  len = λ at. none.1.0;
  value = λ at len. none.1.1.0;
  mask = λ at. none.1.1.1.0;
  router = λ at. none.1.1.1.1.0;
  name_server = λ at. none.1.1.1.1.1.0;
  host_name = λ at len. none.1.1.1.1.1.1.0;
  requested = λ at. none.1.1.1.1.1.1.1.0;
  lease = λ at. none.1.1.1.1.1.1.1.1.0;
  message = λ at. none.1.1.1.1.1.1.1.1.1.0;
  server = λ at. none.1.1.1.1.1.1.1.1.1.1.0;
}

options_unasked : (wanted : List ℕ) (buffers : List (List ℕ)) (span : Span) (bytes : List ℕ) → Each (λ field. is_in wanted field ≡ false) option_fields →
    kept wanted (items_read buffers span (dhcp_options bytes).steps) ≡ []
options_unasked wanted buffers span bytes none =
    none_asked wanted buffers span (dhcp_options bytes).steps (options_each (Unasked wanted) (fields_unasked wanted none) bytes)

-- steps of which no item is kept, behind others: how far they are read is all that counts
front_kept : (wanted : List ℕ) (buffers : List (List ℕ)) (span : Span) (xs ys : List Step) → kept wanted (items_read buffers span ys) ≡ [] → kept wanted (items_read buffers span (xs ++ ys)) ≡ kept wanted (items_read buffers span xs)
front_kept wanted buffers span xs ys none =
    let back : kept wanted (items_after (reach span.len xs) (items_read buffers span ys)) ≡ [] = after wanted buffers span (reach span.len xs) (items_read buffers span ys) none in
    rw (items_read-append buffers span xs ys, kept-append wanted (items_read buffers span xs) (items_after (reach span.len xs) (items_read buffers span ys)), back)
    (append-nil (kept wanted (items_read buffers span xs)))

behind_alike : (t : TreeShown) (proto : ℕ) (span : Span) (xs ys zs : List Step) (mode : Mode) (cut : Bool) → reach span.len ys ≡ reach span.len zs →
    kept t.wanted (items_read t.buffers span ys) ≡ [] → kept t.wanted (items_read t.buffers span zs) ≡ [] → layer_read t proto span (xs ++ ys) mode cut ≡ layer_read t proto span (xs ++ zs) mode cut
unfolding layer_read with_layer
behind_alike t proto span xs ys zs mode cut same none other =
    rw (reach-append span.len xs ys, reach-append span.len xs zs, same, front_kept t.wanted t.buffers span xs ys none, front_kept t.wanted t.buffers span xs zs other) refl

room_reach : (end : ℕ) (whole : Bool) → reach end (Room whole ∷ []) ≡ (if whole then All else Short)
unfolding reach step_reach
room_reach end true = refl
room_reach end false = refl

room_kept : (wanted : List ℕ) (buffers : List (List ℕ)) (span : Span) (whole : Bool) → kept wanted (items_read buffers span (Room whole ∷ [])) ≡ []
room_kept wanted buffers span whole = none_asked wanted buffers span (Room whole ∷ []) (tt, tt)

pub layout_alike : (t : TreeShown) (span : Span) (bytes : List ℕ) (whole : Bool) (mode : Mode) (cut : Bool) → reach span.len (dhcp_options bytes).steps ≡ (if whole then All else Short) →
    Each (λ field. is_in t.wanted field ≡ false) option_fields → layer_read t DHCP span (dhcp_rows bytes ++ Room whole ∷ []) mode cut ≡ layer_read t DHCP span (dhcp_layout bytes) mode cut
unfolding dhcp_layout
layout_alike t span bytes whole mode cut is none =
    behind_alike t DHCP span (dhcp_rows bytes) (Room whole ∷ []) (dhcp_options bytes).steps mode cut (room_reach span.len whole ∙ sym is)
    (room_kept t.wanted t.buffers span whole) (options_unasked t.wanted t.buffers span bytes none)

-- how far the rows are read, then the options
pub layout_reach : (bytes : List ℕ) (end : ℕ) → reach end (dhcp_layout bytes) ≡ reach_after (reach end (dhcp_rows bytes)) (reach end (dhcp_options bytes).steps)
unfolding dhcp_layout
layout_reach bytes end = reach-append end (dhcp_rows bytes) (dhcp_options bytes).steps
