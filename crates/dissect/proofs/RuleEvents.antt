-- Rules for ports change no events: a way ends at the datagram or segment that they are asked for.
use Rattle.std.proofs.Common.{◌≡◌, ℕ, zero, suc, Bool, true, false, if◌then◌else◌, List, [], ◌∷◌, length, refl, sym, ◌∙◌, ap, inl, inr}
use Rattle.std.specs.Prelude.{◌⊎◌, ◌==◌}
use Rattle.pk_base.specs.declared.heads.After.{After}
use Rattle.pk_base.specs.declared.heads.After.TheVariants as afters
use Rattle.pk_base.specs.declared.heads.Mode.{Mode}
use Rattle.pk_base.specs.declared.heads.Mode.TheVariants.{Plain as PlainMode}
use Rattle.pk_base.specs.declared.heads.Next.{Next}
use Rattle.pk_base.specs.declared.heads.Next.TheVariants as nexts
use Rattle.pk_base.specs.declared.heads.PacketHead.{PacketHead}
use Rattle.pk_tree.specs.Trees.{TreeShown}
use Rattle.pk_fields.specs.declared.rules.PortRule.{PortRule}
use Rattle.capture_read.specs.declared.frame.Frame.{Frame}
use Rattle.app_layers.specs.declared.times.Times.{Times}
use Rattle.dissect.specs.declared.todo.Head.{Head}
use Rattle.dissect.specs.declared.todo.Todo.{Todo}
use Rattle.dissect.specs.declared.todo.Todo.TheVariants as todos
use Rattle.dissect.specs.Events.{Event, NewFrame}
use Rattle.app_layers.specs.FrameLayer.{frame_tree}
use Rattle.dissect.specs.Trees.{walk_of}
use Rattle.dissect.specs.Walks.{Walk, all_met, chain, datagram_met, followed, head_by, layers_left, link_met, rest_on, segment_met, step, step_on, stop}

-- the same way, or ways that have ended with the same events
pub record HaveEnded (v x : Walk) : Type 0 where
  pub one : v.todo ≡ todos.Done
  pub other : x.todo ≡ todos.Done
  pub events : v.events ≡ x.events

abbrev AreAlike : Walk → Walk → Type 0
AreAlike v x = (v ≡ x) ⊎ HaveEnded v x

followed_alike : (rules : List PortRule) (frame : Frame) (packet : PacketHead) (mode : Mode) (t : TreeShown) (es : List Event) (after : After)
    → AreAlike (followed rules frame packet mode t es after) (followed [] frame packet mode t es after)
unfolding followed datagram_met segment_met
followed_alike rules frame packet mode t es (afters.Next which span) = inl refl
followed_alike rules frame packet mode t es (afters.Packet which span inner) = inl refl
followed_alike rules frame packet mode t es (afters.Fragment head span) = inl refl
followed_alike rules frame packet mode t es (afters.Datagram head span) = inr (record { one = refl; other = refl; events = refl })
followed_alike rules frame packet mode t es (afters.Segment head span) = inr (record { one = refl; other = refl; events = refl })
followed_alike rules frame packet mode t es afters.End = inl refl

head_alike : (rules : List PortRule) (which : Next) (frame : Frame) (head : Head) (t : TreeShown) (es : List Event)
    → AreAlike (head_by rules which frame head t es) (head_by [] which frame head t es)
unfolding head_by
head_alike rules nexts.Ip4 frame head t es = followed_alike rules frame _ _ _ es _
head_alike rules nexts.Ip6 frame head t es = followed_alike rules frame _ _ _ es _
head_alike rules nexts.Arp frame head t es = followed_alike rules frame _ _ _ es _
head_alike rules nexts.Vlan frame head t es = followed_alike rules frame _ _ _ es _
head_alike rules nexts.Icmp frame head t es = followed_alike rules frame _ _ _ es _
head_alike rules nexts.Icmp6 frame head t es = followed_alike rules frame _ _ _ es _
head_alike rules nexts.Udp frame head t es = followed_alike rules frame _ _ _ es _
head_alike rules nexts.Tcp frame head t es = followed_alike rules frame _ _ _ es _
head_alike rules nexts.HopOpts frame head t es = followed_alike rules frame _ _ _ es _
head_alike rules nexts.Routing frame head t es = followed_alike rules frame _ _ _ es _
head_alike rules nexts.DstOpts frame head t es = followed_alike rules frame _ _ _ es _
head_alike rules nexts.FragHdr frame head t es = followed_alike rules frame _ _ _ es _
head_alike rules (nexts.Neigh kind) frame head t es = followed_alike rules frame _ _ _ es _
head_alike rules nexts.Igmp frame head t es = followed_alike rules frame _ _ _ es _
head_alike rules nexts.Rest frame head t es = inl refl

step_alike : (rules : List PortRule) (frame : Frame) (t : TreeShown) (es : List Event) (todo : Todo)
    → AreAlike (step_on rules frame t es todo) (step_on [] frame t es todo)
step_alike rules frame t es todos.Done = inl refl
step_alike rules frame t es (todos.Head head) = head_alike rules head.which frame head t es

-- a way that has ended stays as it is
ended_step : (rules : List PortRule) (frame : Frame) (v : Walk) → v.todo ≡ todos.Done → step rules frame v ≡ stop v.tree v.events
ended_step rules frame v done = ap (step_on rules frame v.tree v.events) done

ended_chain : (rules : List PortRule) (n : ℕ) (frame : Frame) (v : Walk) → v.todo ≡ todos.Done → (chain rules n frame v).events ≡ v.events
unfolding chain
ended_chain rules zero frame v done = ap (λ (todo : Todo). (rest_on v.tree v.events todo).events) done
ended_chain rules (suc n) frame v done =
    ap (λ (w : Walk). (chain rules n frame w).events) (ended_step rules frame v done) ∙ ended_chain rules n frame (stop v.tree v.events) refl

ended_events : (rules : List PortRule) (m n : ℕ) (frame : Frame) (v x : Walk) → HaveEnded v x → (chain rules m frame v).events ≡ (chain [] n frame x).events
ended_events rules m n frame v x ended =
    ended_chain rules m frame v ended.one ∙ ended.events ∙ sym (ended_chain [] n frame x ended.other)

chain_events : (rules : List PortRule) (n : ℕ) (frame : Frame) (w : Walk) → (chain rules n frame w).events ≡ (chain [] n frame w).events
unfolding chain
chain_events rules zero frame w = refl
chain_events rules (suc n) frame w = elim (step_alike rules frame w.tree w.events w.todo) [
  | inl same ↦ ap (λ (v : Walk). (chain rules n frame v).events) same ∙ chain_events rules n frame (step [] frame w)
  | inr ended ↦ ended_events rules n n frame (step rules frame w) (step [] frame w) ended
]

all_events : (rules : List PortRule) (frame : Frame) (v x : Walk) → AreAlike v x → (all_met rules frame v).events ≡ (all_met [] frame x).events
unfolding all_met
all_events rules frame v x (inl same) = ap (λ (w : Walk). (all_met rules frame w).events) same ∙ chain_events rules (layers_left x.tree) frame x
all_events rules frame v x (inr ended) = ended_events rules (layers_left v.tree) (layers_left x.tree) frame v x ended

if_alike : (test : Bool) (w v x : Walk) → AreAlike v x → AreAlike (if test then w else v) (if test then w else x)
if_alike true w v x alike = inl refl
if_alike false w v x alike = alike

pub rules_change_no_events : (rules : List PortRule) (before : Times) (es : List Event) (frame : Frame) → (walk_of rules before es frame).events ≡ (walk_of [] before es frame).events
unfolding walk_of link_met
rules_change_no_events rules before es frame =
    let first = NewFrame ∷ es in
    all_events rules frame (link_met rules frame (frame_tree before frame) first) (link_met [] frame (frame_tree before frame) first)
    (if_alike (length frame.bytes == 0) (stop (frame_tree before frame) first) _ _ (followed_alike rules frame _ PlainMode _ first _))
