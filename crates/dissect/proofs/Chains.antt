-- The chain of headers, met one by one.
use Rattle.std.proofs.Common.{◌≡◌, ℕ, zero, suc, ◌-◌, ◌<◌, List, refl, sym, ◌∙◌, ap, subst, arith}
use Rattle.pk_tree.specs.Trees.{TreeShown}
use Rattle.pk_fields.specs.declared.rules.PortRule.{PortRule}
use Rattle.capture_read.specs.declared.frame.Frame.{Frame}
use Rattle.dissect.specs.declared.state.State.{State}
use Rattle.dissect.specs.declared.todo.Head.{Head}
use Rattle.dissect.specs.declared.todo.Todo.{Todo}
use Rattle.dissect.specs.declared.todo.Todo.TheVariants as todos
use Rattle.dissect.specs.Events.{Event}
use Rattle.dissect.specs.Stands.{StandsAt, IsToldAs, IsWalked}
use Rattle.dissect.specs.Walks.{Walk, going, stop, rest_met, head_met, chain, all_met, layers_left}
use Rattle.dissect.proofs.Told.{told_same, told_head, told_on}

-- after some headers the chain of those that are left is that of all of them
abbrev pub Goes : List PortRule → Frame → ℕ → State → TreeShown → Todo → ℕ → State → TreeShown → Todo → Type 0
Goes rules frame most before t0 first left state t todo =
    (es : List Event) → StandsAt rules es before → (w : Walk) × IsWalked rules w state t todo × (chain rules left frame w ≡ chain rules most frame (going t0 es first))

pub goes-first : (rules : List PortRule) (frame : Frame) (most : ℕ) (state : State) (t : TreeShown) (first : Todo) → Goes rules frame most state t first most state t first
goes-first rules frame most state t first =
    λ es stands. (going t es first, record { stands = stands; tree = told_same state first t t refl; todo = refl }, refl)

-- a walk is told by its parts
is_walk : (w : Walk) (t : TreeShown) (todo : Todo) → t ≡ w.tree → todo ≡ w.todo → w ≡ going t w.events todo
is_walk w t todo tree is =
    ap (λ (u : TreeShown). going u w.events w.todo) (sym tree) ∙ ap (λ (x : Todo). going t w.events x) (sym is)

pub chain-head : (rules : List PortRule) (frame : Frame) (left : ℕ) (t : TreeShown) (es : List Event) (head : Head) → 0 < left
    → chain rules left frame (going t es (todos.Head head)) ≡ chain rules (left - 1) frame (head_met rules frame head t es)
unfolding chain
chain-head rules frame zero t es head some = search arith
chain-head rules frame (suc left) t es head some =
    let one : left ≡ suc left - 1 = omega arith in
    ap (λ (n : ℕ). chain rules n frame (head_met rules frame head t es)) one

pub goes-on : (rules : List PortRule) (frame : Frame) (most : ℕ) (before : State) (t0 : TreeShown) (first : Todo) (left : ℕ) (state : State) (t : TreeShown) (now : Todo) (head : Head) (after : State) (t1 : TreeShown) (todo : Todo)
    → 0 < left → now ≡ todos.Head head → Goes rules frame most before t0 first left state t now
    → ((es : List Event) → StandsAt rules es state → IsWalked rules (head_met rules frame head t es) after t1 todo)
    → Goes rules frame most before t0 first (left - 1) after t1 todo
goes-on rules frame most before t0 first left state t now head after t1 todo some is_head goes met = λ es stands.
    let (w, walked, is) = goes es stands in
    let one : going t w.events (todos.Head head) ≡ w =
    ap (λ (x : Todo). going t w.events x) (sym is_head) ∙ sym (is_walk w t now (told_head state now head w.tree t is_head walked.tree) walked.todo) in (
      head_met rules frame head t w.events,
      met w.events walked.stands,
      sym (chain-head rules frame left t w.events head some) ∙ ap (chain rules left frame) one ∙ is,
    )

pub chain-stop : (rules : List PortRule) (n : ℕ) (frame : Frame) (t : TreeShown) (es : List Event) → chain rules n frame (stop t es) ≡ stop t es
unfolding chain
chain-stop rules zero frame t es = refl
chain-stop rules (suc n) frame t es = chain-stop rules n frame t es

pub goes-done : (rules : List PortRule) (frame : Frame) (most : ℕ) (before : State) (t0 : TreeShown) (first : Todo) (left : ℕ) (state : State) (t : TreeShown) (now : Todo)
    → now ≡ todos.Done → Goes rules frame most before t0 first left state t now
    → (es : List Event) → StandsAt rules es before → IsWalked rules (chain rules most frame (going t0 es first)) state t todos.Done
goes-done rules frame most before t0 first left state t now done goes = λ es stands.
    let (w, walked, is) = goes es stands in
    let ended : w ≡ stop w.tree w.events = is_walk w w.tree todos.Done refl (sym done ∙ walked.todo) in
    let end : w ≡ chain rules most frame (going t0 es first) =
    ended ∙ sym (chain-stop rules left frame w.tree w.events) ∙ ap (chain rules left frame) (sym ended) ∙ is in
    subst (λ (v : Walk). IsWalked rules v state t todos.Done) end
    (record { stands = walked.stands; tree = subst (λ (x : Todo). IsToldAs state x w.tree t) done walked.tree; todo = sym done ∙ walked.todo })

pub goes-rest : (rules : List PortRule) (frame : Frame) (most : ℕ) (before : State) (t0 : TreeShown) (first : Todo) (left : ℕ) (state : State) (t : TreeShown) (now : Todo) (head : Head) (after : State) (t1 : TreeShown) (todo : Todo)
    → left ≡ 0 → now ≡ todos.Head head → Goes rules frame most before t0 first left state t now
    → ((es : List Event) → StandsAt rules es state → IsWalked rules (rest_met t es head.span) after t1 todo)
    → (es : List Event) → StandsAt rules es before → IsWalked rules (chain rules most frame (going t0 es first)) after t1 todos.Done
unfolding chain
goes-rest rules frame most before t0 first left state t now head after t1 todo none is_head goes met = λ es stands.
    let (w, walked, is) = goes es stands in
    let rest : IsWalked rules (rest_met t w.events head.span) after t1 todo = met w.events walked.stands in
    let one : going t w.events (todos.Head head) ≡ w =
    ap (λ (x : Todo). going t w.events x) (sym is_head) ∙ sym (is_walk w t now (told_head state now head w.tree t is_head walked.tree) walked.todo) in
    let end : rest_met t w.events head.span ≡ chain rules most frame (going t0 es first) =
    ap (chain rules zero frame) one ∙ ap (λ (n : ℕ). chain rules n frame w) (sym none) ∙ is in
    subst (λ (v : Walk). IsWalked rules v after t1 todos.Done) end (record { stands = rest.stands; tree = subst (λ (x : Todo). IsToldAs after x (rest_met t w.events head.span).tree t1) rest.todo rest.tree; todo = refl })

-- the first header, and then the others
pub all-met : (rules : List PortRule) (frame : Frame) (w : Walk) (state : State) (t : TreeShown) (todo : Todo) (after : State) (t1 : TreeShown)
    → after.keeps ≡ state.keeps → IsWalked rules w state t todo
    → IsWalked rules (chain rules (layers_left t) frame (going t w.events todo)) after t1 todos.Done
    → IsWalked rules (all_met rules frame w) after t1 todos.Done
unfolding all_met
all-met rules frame w state t todos.Done after t1 same walked rest =
    let ended : w ≡ stop w.tree w.events = is_walk w w.tree todos.Done refl walked.todo in
    let all : w ≡ chain rules (layers_left w.tree) frame w =
    ended ∙ sym (chain-stop rules (layers_left w.tree) frame w.tree w.events) ∙ ap (chain rules (layers_left w.tree) frame) (sym ended) in
    let none : IsWalked rules (stop t w.events) after t1 todos.Done =
    subst (λ (v : Walk). IsWalked rules v after t1 todos.Done) (chain-stop rules (layers_left t) frame t w.events) rest in
    subst (λ (v : Walk). IsWalked rules v after t1 todos.Done) all
    (record { stands = none.stands; tree = told_on state after w.tree t t1 same walked.tree none.tree; todo = walked.todo })
all-met rules frame w state t (todos.Head head) after t1 same walked rest =
    subst (λ (v : Walk). IsWalked rules (chain rules (layers_left v.tree) frame v) after t1 todos.Done)
    (sym (is_walk w t (todos.Head head) (told_head state (todos.Head head) head w.tree t refl walked.tree) walked.todo)) rest
