-- The trees of frames but for numbers.
use Rattle.std.proofs.Common.{◌≡◌, ◌<◌, ◌≤◌, ◌*◌, ◌/◌, ◌%◌, ◌^◌, ◌==◌, ◌||◌, ℕ, Bool, true, false, List, [], ◌∷◌, map, get_or, set, bit_or, refl, sym, ◌∙◌, ap, subst, inl, inr, arith, eq-eqb}
use Rattle.std.proofs.Math.ListN.{get_or-eq_default}
use Rattle.std.proofs.lemmas.Bool.{cases_lt}
use Rattle.std.proofs.lemmas.Nat.Bits.{bit_at_ones}
use Rattle.std.specs.Int.{bit_at}
use Rattle.std.specs.List.{AllByRecursion as Each}
use Rattle.pk_base.specs.declared.chosen.Layers.{Layers}
use Rattle.pk_fields.proofs.FieldSetLemmas.{in_added}
use Rattle.pk_fields.specs.FieldSets.{every_word, is_in}
use Rattle.pk_fields.specs.declared.rules.PortRule.{PortRule}
use Rattle.pk_tree.specs.FieldValues.{values_of}
use Rattle.pk_tree.specs.Trees.{TreeShown, IsKept, kept_tree}
use Rattle.pk_tree.proofs.KeptValues.{values_same}
use Rattle.message_links.proofs.LinkedLemmas.{links_kept, unasked_links}
use Rattle.capture_read.specs.declared.frame.Frame.{Frame}
use Rattle.dissect.specs.Events.{Event}
use Rattle.dissect.specs.Isolation.{brought, newest_events}
use Rattle.dissect.specs.Links.{newest_links}
use Rattle.dissect.specs.Numbering.{BringsTheSame, HasNoNumbering, HaveSameConversations, HaveSameFragments, IsNoNumbering, TreesButNumbers, event_renumbered, frame_renumbered, numbering}
use Rattle.dissect.specs.Trees.{bare_tree, events_of, kept_walk, times_of, tree_at}
use Rattle.dissect.specs.Walks.{Walk}
use Rattle.dissect.proofs.Kept.{walk_kept}
use Rattle.dissect.proofs.NumbersAside.{IsSame, walk_same}
use Rattle.dissect.proofs.RuleEvents.{rules_change_no_events}

abbrev kept_at : List PortRule → List ℕ → List Frame → Frame → Walk
kept_at rules wanted past frame = kept_walk rules wanted (times_of past) (events_of past) frame

-- what the way brings, whatever is kept of its tree
own_kept : (rules : List PortRule) (wanted : List ℕ) (past : List Frame) (frame : Frame) → newest_events (kept_at rules wanted past frame).events ≡ brought past frame
unfolding events_of
own_kept rules wanted past frame =
    ap newest_events ((walk_kept rules wanted (times_of past) (events_of past) frame).events ∙ rules_change_no_events rules (times_of past) (events_of past) frame)

frame_walked : (rules : List PortRule) (wanted : List ℕ) (r : ℕ → ℕ) (past others : List Frame) (frame : Frame) → HasNoNumbering wanted
    → HaveSameFragments r (brought past frame) (events_of past) (events_of others)
    → IsSame r wanted (events_of past) (events_of others) (kept_at rules wanted past frame) (kept_at rules wanted others (frame_renumbered r frame))
frame_walked rules wanted r past others frame none same =
    walk_same r wanted rules (times_of past) (times_of others) (events_of past) (events_of others) frame none
    (subst (λ (own : List Event). HaveSameFragments r own (events_of past) (events_of others)) (sym (own_kept rules wanted past frame)) same)

-- no field at all
abbrev no_fields : List ℕ
no_fields = 0 ∷ 0 ∷ 0 ∷ 0 ∷ 0 ∷ 0 ∷ []

none_number : HasNoNumbering no_fields
unfolding is_in
none_number = (refl, (refl, (refl, (refl, (refl, (refl, (refl, (refl, (refl, (refl, (refl, (refl, (refl, (refl, (refl, tt)))))))))))))))

pub brings_the_same : BringsTheSame
brings_the_same r past others frame same =
    sym (own_kept [] no_fields others (frame_renumbered r frame))
    ∙ (frame_walked [] no_fields r past others frame none_number same).own
    ∙ ap (map (event_renumbered r)) (own_kept [] no_fields past frame)

kept_bare : (rules : List PortRule) (wanted : List ℕ) (past : List Frame) (frame : Frame) → IsKept wanted (bare_tree rules past frame) (kept_at rules wanted past frame).tree
unfolding bare_tree
kept_bare rules wanted past frame = (walk_kept rules wanted (times_of past) (events_of past) frame).tree

bare_same : (rules : List PortRule) (r : ℕ → ℕ) (past others : List Frame) (frame : Frame)
    → HaveSameFragments r (brought past frame) (events_of past) (events_of others) → HaveSameConversations r (brought past frame) (events_of past) (events_of others)
    → (wanted : List ℕ) → HasNoNumbering wanted → kept_tree wanted (bare_tree rules others (frame_renumbered r frame)) ≡ kept_tree wanted (bare_tree rules past frame)
bare_same rules r past others frame fragments conversations wanted none =
    sym (kept_bare rules wanted others (frame_renumbered r frame)).same
    ∙ sym ((frame_walked rules wanted r past others frame none fragments).tree
    (subst (λ (own : List Event). HaveSameConversations r own (events_of past) (events_of others)) (sym (own_kept rules wanted past frame)) conversations))
    ∙ (kept_bare rules wanted past frame).same

-- links are numbers of frames
unlinked : (rules : List PortRule) (past : List Frame) (frame : Frame) (wanted : List ℕ) → HasNoNumbering wanted → kept_tree wanted (tree_at rules past frame) ≡ kept_tree wanted (bare_tree rules past frame)
unfolding tree_at
unlinked rules past frame wanted none =
    let links = newest_links rules (events_of (frame ∷ past)) in
    let t : TreeShown = bare_tree rules past frame in
    sym (links_kept wanted links t (kept_tree wanted t) (record { same = refl; all = (kept_bare rules wanted past frame).all })).same
    ∙ unasked_links wanted links (kept_tree wanted t) none.1.1.1.1.1.1.1.1.1.1.1.0 none.1.1.1.1.1.1.1.1.1.1.1.1.1.0

-- ---- the values of a field that doesn't number

alone : ℕ → List ℕ
alone field = set no_fields (field / 64) (bit_or (get_or no_fields (field / 64) 0) (1 * 2 ^ (field % 64) % 2 ^ 64))

none_other : (field : ℕ) (fields : List ℕ) → field / 64 < 6 → Each (λ other. (other == field) ≡ false) fields → Each (λ other. is_in no_fields other ≡ false) fields → Each (λ other. is_in (alone field) other ≡ false) fields
unfolding alone
none_other field [] inside apart none = tt
none_other field (other ∷ fields) inside apart none =
    (in_added no_fields field other inside ∙ (λ i. apart.0 i || none.0 i), none_other field fields inside apart.1 none.1)

-- a set that has this field, and none that numbers
record HasField (field : ℕ) (wanted : List ℕ) : Type 0 where
  has : is_in wanted field ≡ true
  none : HasNoNumbering wanted

with_field : (field : ℕ) → field / 64 < 6 → IsNoNumbering field → HasField field (alone field)
unfolding alone
with_field field inside apart = record {
  has = in_added no_fields field field inside ∙ ap (λ (test : Bool). test || is_in no_fields field) (eq-eqb field field refl);
  none = none_other field numbering inside apart none_number;
}

beyond : (field : ℕ) → 6 ≤ field / 64 → HasField field no_fields
unfolding is_in
beyond field far = record {
  has = ap (λ (word : ℕ). bit_at word (field % 64) == 1) (get_or-eq_default no_fields every_word {n = field / 64} far) ∙ ap (λ (bit : ℕ). bit == 1) (bit_at_ones 64 (field % 64) (omega arith));
  none = none_number;
}

by_set : (rules : List PortRule) (r : ℕ → ℕ) (past others : List Frame) (frame : Frame) (field : ℕ) (layers : Layers) (wanted : List ℕ) → HasField field wanted
    → ((wanted : List ℕ) → HasNoNumbering wanted → kept_tree wanted (tree_at rules others (frame_renumbered r frame)) ≡ kept_tree wanted (tree_at rules past frame))
    → values_of (tree_at rules others (frame_renumbered r frame)) field layers ≡ values_of (tree_at rules past frame) field layers
by_set rules r past others frame field layers wanted fit same =
    sym (values_same wanted (tree_at rules others (frame_renumbered r frame)) field layers fit.has)
    ∙ ap (λ (t : TreeShown). values_of t field layers) (same wanted fit.none)
    ∙ values_same wanted (tree_at rules past frame) field layers fit.has

tree_same : (rules : List PortRule) (r : ℕ → ℕ) (past others : List Frame) (frame : Frame)
    → HaveSameFragments r (brought past frame) (events_of past) (events_of others) → HaveSameConversations r (brought past frame) (events_of past) (events_of others)
    → (wanted : List ℕ) → HasNoNumbering wanted → kept_tree wanted (tree_at rules others (frame_renumbered r frame)) ≡ kept_tree wanted (tree_at rules past frame)
tree_same rules r past others frame fragments conversations wanted none =
    unlinked rules others (frame_renumbered r frame) wanted none
    ∙ bare_same rules r past others frame fragments conversations wanted none
    ∙ sym (unlinked rules past frame wanted none)

pub trees_but_numbers : TreesButNumbers
trees_but_numbers rules r past others frame fragments conversations = record {
  bare = bare_same rules r past others frame fragments conversations;
  tree = tree_same rules r past others frame fragments conversations;
  values = λ field layers apart. elim (cases_lt (field / 64) 6) [
    | inl inside ↦ by_set rules r past others frame field layers (alone field) (with_field field inside apart) (tree_same rules r past others frame fragments conversations)
    | inr far ↦ by_set rules r past others frame field layers no_fields (beyond field far) (tree_same rules r past others frame fragments conversations)
  ];
}
