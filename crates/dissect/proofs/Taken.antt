-- A frame more, taken by a dissector.
use Rattle.std.proofs.Common.{◌≡◌, ℕ, ◌+◌, Bool, true, false, refl, List, ◌∷◌, Option, length, sym, ◌∙◌, ap, subst, arith}
use Rattle.pk_fields.specs.FieldSets.{is_in, every_field}
use Rattle.pk_tree.specs.FieldValues.{values_of}
use Rattle.pk_tree.specs.Trees.{TreeShown, IsKept as IsKeptTree, kept_tree}
use Rattle.pk_tree.proofs.KeptTrees.{all_kept}
use Rattle.pk_tree.proofs.KeptValues.{values_same}
use Rattle.pk_fields.specs.declared.rules.DecodeAs.{DecodeAs}
use Rattle.pk_fields.specs.declared.rules.PortRule.{PortRule}
use Rattle.capture_read.specs.declared.frame.Frame.{Frame}
use Rattle.dissect.specs.declared.state.State.{State}
use Rattle.app_layers.specs.declared.times.Times.{Times}
use Rattle.app_layers.specs.Aside.{LacksOnly}
use Rattle.app_layers.proofs.MessagesAside.{lacks_none}
use Rattle.dissect.specs.Events.{Event}
use Rattle.dissect.specs.declared.keeping.Keeping.{Keeping}
use Rattle.dissect.specs.Followed.{HasSameValues}
use Rattle.dissect.specs.Keeping.{AsksNoLinks, KeepsFor, keeps_all}
use Rattle.dissect.specs.Stands.{DissectorShown, StandsAt, IsRead, IsAfter}
use Rattle.message_links.specs.Linked.{linked}
use Rattle.dissect.specs.Links.{newest_links}
use Rattle.app_layers.specs.Times.{with_time}
use Rattle.dissect.specs.Trees.{bare_tree, events_of, kept_walk, times_of, tree_at}
use Rattle.dissect.proofs.Kept.{walk_kept}
use Rattle.message_links.proofs.LinkedLemmas.{links_kept, unasked_links}
use Rattle.dissect.proofs.SameValues.{same_values}
use Rattle.dissect.proofs.RuleEvents.{rules_change_no_events}

-- the frame is read, whatever events are kept
abbrev pub ReadsBy : List PortRule → List ℕ → Frame → Times → State → State → TreeShown → Type 0
ReadsBy rules asked frame times old new t =
    (es : List Event) → StandsAt rules es old → IsRead rules asked (kept_walk rules asked times es frame) new t

abbrev pub Reads : List ℕ → Frame → DissectorShown → State → TreeShown → Type 0
Reads asked frame d state t = ReadsBy d.decode.rules asked frame d.times d.state state t

-- by the times and events of the frames that were taken
read : (asked : List ℕ) (past : List Frame) (frame : Frame) (d : DissectorShown) (state : State) (t : TreeShown) → IsAfter past d → Reads asked frame d state t
    → IsRead d.decode.rules asked (kept_walk d.decode.rules asked (times_of past) (events_of past) frame) state t
read asked past frame d state t after reads =
    subst (λ (times : Times). IsRead d.decode.rules asked (kept_walk d.decode.rules asked times (events_of past) frame) state t) after.times (reads (events_of past) after.state)

events_are : (rules : List PortRule) (asked : List ℕ) (past : List Frame) (frame : Frame) → (kept_walk rules asked (times_of past) (events_of past) frame).events ≡ events_of (frame ∷ past)
unfolding events_of
events_are rules asked past frame =
    (walk_kept rules asked (times_of past) (events_of past) frame).events ∙ rules_change_no_events rules (times_of past) (events_of past) frame

-- the links of a tree of some fields
with_links : (rules : List PortRule) (asked : List ℕ) (past : List Frame) (frame : Frame)
    → IsKeptTree asked (tree_at rules past frame) (linked asked (newest_links rules (events_of (frame ∷ past))) (kept_walk rules asked (times_of past) (events_of past) frame).tree)
unfolding tree_at bare_tree
with_links rules asked past frame =
    links_kept asked (newest_links rules (events_of (frame ∷ past))) _ _ (walk_kept rules asked (times_of past) (events_of past) frame).tree

-- where everything is kept, the tree has the wanted items of the whole tree
pub tree-taken : (asked : List ℕ) (past : List Frame) (frame : Frame) (d : DissectorShown) (state : State) (t : TreeShown) → state.keeps ≡ d.state.keeps
    → IsAfter past d → Reads asked frame d state t → keeps_all d.state.keeps ≡ true → IsKeptTree asked (tree_at d.decode.rules past frame) t
tree-taken asked past frame d state t same after reads had_all =
    let all : keeps_all state.keeps ≡ true = ap keeps_all same ∙ had_all in
    let rules = d.decode.rules in
    let way = kept_walk rules asked (times_of past) (events_of past) frame in
    let one = read asked past frame d state t after reads in
    let bare : one.bare ≡ way.tree = one.walked.tree.same (λ _. all) in
    let found : state.found.items ≡ newest_links rules (events_of (frame ∷ past)) = one.walked.stands.found all ∙ ap (newest_links rules) (events_are rules asked past frame) in
    subst (λ (u : TreeShown). IsKeptTree asked (tree_at rules past frame) u)
    (sym (one.with_links ∙ ap (linked asked state.found.items) bare ∙ ap (λ (links : List (Option ℕ)). linked asked links way.tree) found))
    (with_links rules asked past frame)

-- else, where no link is asked, the whole tree's way has its wanted items, and the tree is that of the way that was read
way-kept : (rules : List PortRule) (asked : List ℕ) (past : List Frame) (frame : Frame) → AsksNoLinks asked
    → IsKeptTree asked (tree_at rules past frame) (kept_walk rules asked (times_of past) (events_of past) frame).tree
way-kept rules asked past frame none =
    let way = kept_walk rules asked (times_of past) (events_of past) frame in
    subst (IsKeptTree asked (tree_at rules past frame)) (unasked_links asked (newest_links rules (events_of (frame ∷ past))) way.tree none.dns none.http) (with_links rules asked past frame)

bare-read : (asked : List ℕ) (past : List Frame) (frame : Frame) (d : DissectorShown) (state : State) (t : TreeShown) (after : IsAfter past d) (reads : Reads asked frame d state t)
    → AsksNoLinks asked → t ≡ (read asked past frame d state t after reads).bare
bare-read asked past frame d state t after reads none =
    let one = read asked past frame d state t after reads in
    one.with_links ∙ unasked_links asked state.found.items one.bare none.dns none.http

-- it lacks only what has nothing to show, where what is kept is enough
bare-lacks : (asked : List ℕ) (past : List Frame) (frame : Frame) (d : DissectorShown) (state : State) (t : TreeShown)
    → state.keeps ≡ d.state.keeps → (after : IsAfter past d) (reads : Reads asked frame d state t) → KeepsFor d.state.keeps asked → AsksNoLinks asked
    → LacksOnly (kept_walk d.decode.rules asked (times_of past) (events_of past) frame).tree (read asked past frame d state t after reads).bare
bare-lacks asked past frame d state t same after reads enough none =
    let wanted = ap (λ (u : TreeShown). u.wanted) (way-kept d.decode.rules asked past frame none).same in
    (read asked past frame d state t after reads).walked.tree.lacks
    (subst (KeepsFor state.keeps) (sym wanted) (subst (λ (keeps : Keeping). KeepsFor keeps asked) (sym same) enough))

pub lacks-taken : (asked : List ℕ) (past : List Frame) (frame : Frame) (d : DissectorShown) (state : State) (t : TreeShown)
    → state.keeps ≡ d.state.keeps → IsAfter past d → Reads asked frame d state t → KeepsFor d.state.keeps asked → AsksNoLinks asked → LacksOnly (kept_tree asked (tree_at d.decode.rules past frame)) t
lacks-taken asked past frame d state t same after reads enough none =
    let whole : TreeShown = kept_tree asked (tree_at d.decode.rules past frame) in
    let one = read asked past frame d state t after reads in
    subst (LacksOnly whole) (sym (bare-read asked past frame d state t after reads none))
    (subst (λ (u : TreeShown). LacksOnly u one.bare) (way-kept d.decode.rules asked past frame none).same (bare-lacks asked past frame d state t same after reads enough none))

-- so it has the same values
pub values-taken : (asked : List ℕ) (past : List Frame) (frame : Frame) (d : DissectorShown) (state : State) (t : TreeShown)
    → state.keeps ≡ d.state.keeps → IsAfter past d → Reads asked frame d state t → KeepsFor d.state.keeps asked → AsksNoLinks asked → HasSameValues asked (tree_at d.decode.rules past frame) t
values-taken asked past frame d state t same after reads enough none =
    let whole = way-kept d.decode.rules asked past frame none in
    let one = read asked past frame d state t after reads in
    λ field layers is.
    ap (λ (u : TreeShown). values_of u field layers) (bare-read asked past frame d state t after reads none)
    ∙ same_values _ one.bare one.fits (bare-lacks asked past frame d state t same after reads enough none) field layers (ap (λ (u : TreeShown). is_in u.wanted field) whole.same ∙ is)
    ∙ ap (λ (u : TreeShown). values_of u field layers) whole.same
    ∙ values_same asked (tree_at d.decode.rules past frame) field layers is

pub kept-values : (asked : List ℕ) (whole t : TreeShown) → IsKeptTree asked whole t → HasSameValues asked whole t
kept-values asked whole t kept = λ field layers is. ap (λ (u : TreeShown). values_of u field layers) kept.same ∙ values_same asked whole field layers is

lacks-kept : (asked : List ℕ) (whole t : TreeShown) → IsKeptTree asked whole t → LacksOnly (kept_tree asked whole) t
lacks-kept asked whole t kept = subst (LacksOnly (kept_tree asked whole)) (sym kept.same) (lacks_none (kept_tree asked whole))

-- by whether everything is kept
pub values-read : (all : Bool) (asked : List ℕ) (whole t : TreeShown) → (all ≡ true → IsKeptTree asked whole t) → (all ≡ false → HasSameValues asked whole t)
    → HasSameValues asked whole t
values-read true asked whole t kept values = kept-values asked whole t (kept refl)
values-read false asked whole t kept values = values refl

pub lacks-read : (all : Bool) (asked : List ℕ) (whole t : TreeShown) → (all ≡ true → IsKeptTree asked whole t) → (all ≡ false → LacksOnly (kept_tree asked whole) t)
    → LacksOnly (kept_tree asked whole) t
lacks-read true asked whole t kept lacks = lacks-kept asked whole t (kept refl)
lacks-read false asked whole t kept lacks = lacks refl

-- the tree of all fields is the whole tree
pub whole-taken : (rules : List PortRule) (past : List Frame) (frame : Frame) (t : TreeShown) → IsKeptTree every_field (tree_at rules past frame) t → t ≡ tree_at rules past frame
whole-taken rules past frame t kept = all_kept (tree_at rules past frame) t kept

pub after-taken : (asked : List ℕ) (past : List Frame) (frame : Frame) (d new : DissectorShown) (t : TreeShown)
    → new.spent ≡ false → new.taken ≡ d.taken + 1 → new.captured ≡ d.captured + length frame.bytes → new.times ≡ with_time frame.time d.times → new.decode ≡ d.decode
    → IsAfter past d → Reads asked frame d new.state t → IsAfter (frame ∷ past) new
unfolding times_of
after-taken asked past frame d new t not_spent taken captured times same after reads = record {
  not_spent = not_spent;
  taken = taken ∙ omega (arith, after.taken);
  captured = captured ∙ omega (arith, after.captured);
  times = times ∙ ap (with_time frame.time) after.times;
  state = subst (λ (decode : DecodeAs). StandsAt decode.rules (events_of (frame ∷ past)) new.state) (sym same)
      (subst (λ (es : List Event). StandsAt d.decode.rules es new.state) (events_are d.decode.rules asked past frame)
      (read asked past frame d new.state t after reads).walked.stands);
}
