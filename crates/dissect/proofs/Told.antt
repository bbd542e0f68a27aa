-- How a tree is told of a way.
use Rattle.std.proofs.lemmas.Bool.{cond-true}
use Rattle.std.specs.Prelude.{IfOk, Result, Ok, Err}
use Rattle.std.proofs.Common.{◌≡◌, List, length, eq-eqb, sym, ap, subst, ◌∙◌}
use Rattle.pk_base.specs.declared.memory.NoMemory.{NoMemory}
use Rattle.pk_base.specs.declared.span.Span.{Span}
use Rattle.pk_base.specs.declared.heads.After.{After}
use Rattle.pk_base.specs.declared.heads.FragmentHead.{FragmentHead}
use Rattle.pk_base.specs.declared.heads.Mode.{Mode}
use Rattle.pk_base.specs.declared.heads.PacketHead.{PacketHead}
use Rattle.pk_tree.specs.Trees.{TreeShown}
use Rattle.ip_join.specs.declared.joined.Datagram.{Datagram}
use Rattle.ip_join.specs.declared.joined.Joined.{Joined}
use Rattle.ip_join.specs.declared.joined.Joined.TheVariants.{Whole}
use Rattle.pk_fields.specs.declared.rules.PortRule.{PortRule}
use Rattle.capture_read.specs.declared.frame.Frame.{Frame}
use Rattle.dissect.specs.declared.state.State.{State}
use Rattle.dissect.specs.declared.todo.Head.{Head}
use Rattle.dissect.specs.declared.todo.Todo.{Todo}
use Rattle.dissect.specs.declared.todo.Todo.TheVariants as todos
use Rattle.dissect.specs.declared.keeping.Keeping.{Keeping}
use Rattle.dissect.specs.Keeping.{KeepsFor, keeps_all}
use Rattle.app_layers.specs.Aside.{LacksOnly}
use Rattle.dissect.specs.Events.{Event}
use Rattle.app_layers.specs.Fragments.{joined_told}
use Rattle.dissect.specs.Fragments.{joined_todo}
use Rattle.dissect.specs.Stands.{StandsAt, IsToldAs, IsWalked}
use Rattle.dissect.specs.Walks.{Walk, followed, going, joined_met, link_met, stop}
use Rattle.app_layers.proofs.MessagesAside.{lacks_none, lacks_on}

-- the very tree
pub told_same : (state : State) (next : Todo) (whole t : TreeShown) → t ≡ whole → IsToldAs state next whole t
told_same state next whole t is = record {
  wanted = ap (λ (u : TreeShown). u.wanted) is;
  same = λ _. is;
  lacks = λ _. subst (λ (u : TreeShown). LacksOnly whole u) (sym is) (lacks_none whole);
}

-- before a header it is
pub told_head : (state : State) (next : Todo) (head : Head) (whole t : TreeShown) → next ≡ todos.Head head → IsToldAs state next whole t → t ≡ whole
told_head state next head whole t is_head told =
    told.same (λ done. let bad : todos.Head head ≡ todos.Done = sym is_head ∙ done in absurd (cc bad))

-- one tree after the other
pub told_on : (state after : State) (whole t t1 : TreeShown) → after.keeps ≡ state.keeps → IsToldAs state todos.Done whole t → IsToldAs after todos.Done t t1
    → IsToldAs after todos.Done whole t1
told_on state after whole t t1 same first second = record {
  wanted = second.wanted ∙ first.wanted;
  same = λ all. second.same all ∙ first.same (λ done. ap keeps_all (sym same) ∙ all done);
  lacks = λ enough. lacks_on whole t t1 first.wanted (first.lacks (subst (λ (keeps : Keeping). KeepsFor keeps whole.wanted) same enough))
      (second.lacks (subst (KeepsFor after.keeps) (sym first.wanted) enough));
}

-- a way on which nothing is left out
pub walked_same : (rules : List PortRule) (w : Walk) (state : State) (t : TreeShown) (next : Todo) → StandsAt rules w.events state → t ≡ w.tree → next ≡ w.todo → IsWalked rules w state t next
walked_same rules w state t next stands tree todo = record { stands = stands; tree = told_same state next w.tree t tree; todo = todo }

-- the same way, said otherwise
pub walked_alike : (rules : List PortRule) (before after : State) (w other : List Event → Walk) (t : TreeShown) (r : Result Todo NoMemory) → ((es : List Event) → other es ≡ w es)
    → IfOk r (λ next. (es : List Event) → StandsAt rules es before → IsWalked rules (other es) after t next)
    → IfOk r (λ next. (es : List Event) → StandsAt rules es before → IsWalked rules (w es) after t next)
walked_alike rules before after w other t (Ok next) same walked = λ es stands. subst (λ (x : Walk). IsWalked rules x after t next) (same es) (walked es stands)
walked_alike rules before after w other t (Err fault) same walked = tt

-- a datagram that is whole
pub walked_joined : (state : State) (joined : Joined) (datagram : Datagram) (head : FragmentHead) (span : Span) (t new : TreeShown) (r : Result Todo NoMemory) → joined ≡ Whole datagram
    → IfOk r (λ _. new ≡ joined_told t head.six datagram) → IfOk r (λ next. next ≡ joined_todo t head datagram)
    → IfOk r (λ next. (rules : List PortRule) (es : List Event) → StandsAt rules es state → IsWalked rules (joined_met joined t es head span) state new next)
unfolding joined_met
walked_joined state joined datagram head span t new (Ok next) whole tree todo = λ rules es stands.
    subst (λ (j : Joined). IsWalked rules (joined_met j t es head span) state new next) (sym whole)
    (walked_same rules (going (joined_told t head.six datagram) es (joined_todo t head datagram)) state new next stands tree todo)
walked_joined state joined datagram head span t new (Err fault) whole tree todo = tt

-- a frame of no bytes has no header
pub link_none : (rules : List PortRule) (frame : Frame) (t : TreeShown) (es : List Event) → length frame.bytes ≡ 0 → link_met rules frame t es ≡ stop t es
unfolding link_met
link_none rules frame t es none = cond-true _ _ _ (eq-eqb (length frame.bytes) 0 none)

-- what is read behind a header, by what is known of it
pub followed_alike : (rules : List PortRule) (frame : Frame) (packet : PacketHead) (used mode : Mode) (t read : TreeShown) (after next : After) (es : List Event) → used ≡ mode → t ≡ read → after ≡ next
    → followed rules frame packet used t es after ≡ followed rules frame packet mode read es next
followed_alike rules frame packet used mode t read after next es by_mode by_tree by_after =
    ap (λ m. followed rules frame packet m t es after) by_mode ∙ ap (λ x. followed rules frame packet mode x es after) by_tree ∙ ap (λ a. followed rules frame packet mode read es a) by_after
