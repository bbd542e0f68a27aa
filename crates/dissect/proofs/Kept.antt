-- Reading a frame with some fields is reading all of it and keeping those.
use Rattle.std.proofs.Common.{◌≡◌, ◌==◌, ℕ, zero, suc, ◌-◌, Bool, true, false, if◌then◌else◌, List, ◌∷◌, length, refl, sym, subst}
use Rattle.pk_base.specs.declared.span.Span.{Span}
use Rattle.pk_fields.specs.Ids.{UDP_STREAM, UDP_PAYLOAD}
use Rattle.pk_base.specs.declared.heads.After.{After}
use Rattle.pk_base.specs.declared.heads.After.TheVariants as afters
use Rattle.pk_base.specs.declared.heads.FragmentHead.{FragmentHead}
use Rattle.pk_base.specs.declared.heads.Mode.{Mode}
use Rattle.pk_base.specs.declared.heads.Mode.TheVariants.{Plain as PlainMode}
use Rattle.pk_base.specs.declared.heads.Next.{Next}
use Rattle.pk_base.specs.declared.heads.Next.TheVariants as nexts
use Rattle.pk_base.specs.declared.heads.PacketHead.{PacketHead}
use Rattle.pk_base.specs.declared.heads.PortsHead.{PortsHead}
use Rattle.pk_base.specs.declared.heads.TcpHead.{TcpHead}
use Rattle.pk_tree.specs.declared.layout.Step.{Step}
use Rattle.pk_tree.specs.Trees.{TreeShown, IsKept as IsKeptTree, kept_tree, made_of}
use Rattle.pk_tree.proofs.KeptTrees.{item_kept, count_kept, layer_kept}
use Rattle.dis_link.specs.Link.{link_of}
use Rattle.dis_link.proofs.LinkKept.{link_kept}
use Rattle.ip_join.specs.declared.joined.Joined.{Joined}
use Rattle.ip_join.specs.declared.joined.Joined.TheVariants.{Pending, Whole, Conflict}
use Rattle.pk_fields.specs.declared.rules.PortRule.{PortRule}
use Rattle.capture_read.specs.declared.frame.Frame.{Frame}
use Rattle.app_layers.specs.declared.times.Times.{Times}
use Rattle.dissect.specs.declared.todo.Head.{Head}
use Rattle.dissect.specs.declared.todo.Todo.{Todo}
use Rattle.dissect.specs.declared.todo.Todo.TheVariants as todos
use Rattle.app_layers.specs.Applications.{payload_over}
use Rattle.dissect.specs.Events.{Event, NewFrame}
use Rattle.app_layers.specs.Fragments.{conflict_told, error_field, joined_told}
use Rattle.dissect.specs.Fragments.{joined_todo}
use Rattle.app_layers.specs.FrameLayer.{frame_span, is_cut}
use Rattle.app_layers.specs.Payloads.{datagram_told}
use Rattle.dissect.specs.Trees.{kept_walk, walk_of}
use Rattle.app_layers.proofs.KeptHeads.{kept_if, frame_kept, joined_kept, payload_kept, segment_kept}
use Rattle.app_layers.proofs.KeptMessages.{carried_kept}
use Rattle.app_layers.proofs.KeptPayloads.{data_kept, message_kept}
use Rattle.dissect.specs.Walks.{Walk, going, stop, rest_met, joined_met, fragment_by, fragment_met, datagram_met, segment_met, followed, layer_met, message_met, mode_behind, head_by, head_met, step_on, step, rest_on, chain, layers_left, link_met, all_met, no_packet}

-- two ways that differ in the items that are kept alone
pub record IsSameWay (wanted : List ℕ) (v x : Walk) : Type 0 where
  pub tree : IsKeptTree wanted v.tree x.tree
  pub events : x.events ≡ v.events
  pub todo : x.todo ≡ v.todo

-- it is enough to look at the very tree of those that are kept, whose buffers are the whole tree's
way_as : (wanted : List ℕ) (X : TreeShown → Walk) (t u : TreeShown) → IsKeptTree wanted t u → (IsKeptTree wanted t (kept_tree wanted t) → IsSameWay wanted (X t) (X (kept_tree wanted t))) → IsSameWay wanted (X t) (X u)
way_as wanted X t u k one = subst (λ (v : TreeShown). IsSameWay wanted (X t) (X v)) (sym k.same) (one (record { same = refl; all = k.all }))

same_going : (wanted : List ℕ) (t u : TreeShown) (es : List Event) (todo : Todo) → IsKeptTree wanted t u → IsSameWay wanted (going t es todo) (going u es todo)
same_going wanted t u es todo k = record { tree = k; events = refl; todo = refl }

same_if : (wanted : List ℕ) (test : Bool) (v x v1 x1 : Walk) → IsSameWay wanted v x → IsSameWay wanted v1 x1 → IsSameWay wanted (if test then v else v1) (if test then x else x1)
same_if wanted true v x v1 x1 k k1 = k
same_if wanted false v x v1 x1 k k1 = k1

rest_same : (wanted : List ℕ) (t u : TreeShown) (es : List Event) (span : Span) → IsKeptTree wanted t u → IsSameWay wanted (rest_met t es span) (rest_met u es span)
rest_same wanted t u es span k = same_going wanted _ _ es todos.Done (data_kept wanted t u span k)

joined_same : (wanted : List ℕ) (joined : Joined) (es : List Event) (head : FragmentHead) (span : Span) (t u : TreeShown) → IsKeptTree wanted t u → IsSameWay wanted (joined_met joined t es head span) (joined_met joined u es head span)
unfolding joined_met conflict_told
joined_same wanted Pending es head span t u k = rest_same wanted t u es span k
joined_same wanted (Conflict kind) es head span t u k =
    rest_same wanted _ _ es span (item_kept wanted t u (made_of (error_field head.six) _) k)
joined_same wanted (Whole datagram) es head span t u k =
    way_as wanted (λ v. going (joined_told v head.six datagram) es (joined_todo v head datagram)) t u k
    (λ one. same_going wanted _ _ es (joined_todo t head datagram) (joined_kept wanted head.six datagram t (kept_tree wanted t) one))

fragment_by_same : (wanted : List ℕ) (whole : Bool) (es : List Event) (frame : ℕ) (head : FragmentHead) (span : Span) (t u : TreeShown) → IsKeptTree wanted t u → IsSameWay wanted (fragment_by whole t es frame head span) (fragment_by whole u es frame head span)
fragment_by_same wanted true es frame head span t u k =
    way_as wanted (λ v. fragment_by true v es frame head span) t u k (λ one. joined_same wanted _ _ head span t (kept_tree wanted t) one)
fragment_by_same wanted false es frame head span t u k = rest_same wanted t u es span k

datagram_same : (rules : List PortRule) (wanted : List ℕ) (frame : Frame) (packet : PacketHead) (es : List Event) (head : PortsHead) (span : Span) (t u : TreeShown) → IsKeptTree wanted t u →
    IsSameWay wanted (datagram_met rules frame packet t es head span) (datagram_met rules frame packet u es head span)
unfolding datagram_met datagram_told payload_over
datagram_same rules wanted frame packet es head span t u k =
    way_as wanted (λ v. datagram_met rules frame packet v es head span) t u k
    (λ one.
    let told = payload_kept wanted UDP_PAYLOAD span _ _ (item_kept wanted t (kept_tree wanted t) (made_of UDP_STREAM _) one) in
    same_going wanted _ _ _ todos.Done (kept_if wanted (span.len == 0) _ _ _ _ told (message_kept wanted _ (is_cut frame) span _ _ told)))

segment_same : (rules : List PortRule) (wanted : List ℕ) (frame : Frame) (packet : PacketHead) (es : List Event) (head : TcpHead) (span : Span) (t u : TreeShown) → IsKeptTree wanted t u →
    IsSameWay wanted (segment_met rules frame packet t es head span) (segment_met rules frame packet u es head span)
unfolding segment_met
segment_same rules wanted frame packet es head span t u k =
    way_as wanted (λ v. segment_met rules frame packet v es head span) t u k
    (λ one.
    let told = segment_kept wanted _ span t (kept_tree wanted t) one in
    same_going wanted _ _ _ todos.Done (carried_kept wanted _ (is_cut frame) span _ _ _ (data_kept wanted _ _ span told) told))

-- what follows a header
followed_same : (rules : List PortRule) (wanted : List ℕ) (frame : Frame) (packet : PacketHead) (mode : Mode) (es : List Event) (after : After) (t u : TreeShown) → IsKeptTree wanted t u →
    IsSameWay wanted (followed rules frame packet mode t es after) (followed rules frame packet mode u es after)
unfolding followed fragment_met
followed_same rules wanted frame packet mode es (afters.Next which span) t u k = same_going wanted t u es _ k
followed_same rules wanted frame packet mode es (afters.Packet which span inner) t u k = same_going wanted t u es _ k
followed_same rules wanted frame packet mode es (afters.Fragment head span) t u k = fragment_by_same wanted head.whole es frame.number head span t u k
followed_same rules wanted frame packet mode es (afters.Datagram head span) t u k = datagram_same rules wanted frame packet es head span t u k
followed_same rules wanted frame packet mode es (afters.Segment head span) t u k = segment_same rules wanted frame packet es head span t u k
followed_same rules wanted frame packet mode es afters.End t u k = same_going wanted t u es todos.Done k

-- a header
layer_same : (rules : List PortRule) (wanted : List ℕ) (frame : Frame) (head : Head) (es : List Event) (proto : ℕ) (span : Span) (steps : List Step) (after : After) (t u : TreeShown) → IsKeptTree wanted t u →
    IsSameWay wanted (layer_met rules frame head t es proto span steps after) (layer_met rules frame head u es proto span steps after)
layer_same rules wanted frame head es proto span steps after t u k =
    followed_same rules wanted frame head.packet head.mode es after _ _ (layer_kept wanted t u proto span steps head.mode (is_cut frame) k)

message_same : (rules : List PortRule) (wanted : List ℕ) (frame : Frame) (head : Head) (es : List Event) (proto : ℕ) (steps : List Step) (after : After) (t u : TreeShown) → IsKeptTree wanted t u →
    IsSameWay wanted (message_met rules frame head t es proto steps after) (message_met rules frame head u es proto steps after)
message_same rules wanted frame head es proto steps after t u k =
    followed_same rules wanted frame head.packet (mode_behind head.mode after) es after _ _ (layer_kept wanted t u proto head.span steps head.mode (is_cut frame) k)

head_in : (rules : List PortRule) (wanted : List ℕ) (which : Next) (frame : Frame) (head : Head) (es : List Event) (t : TreeShown) → IsKeptTree wanted t (kept_tree wanted t) → IsSameWay wanted (head_by rules which frame head t es) (head_by rules which frame head (kept_tree wanted t) es)
unfolding head_by
head_in rules wanted nexts.Ip4 frame head es t k = layer_same rules wanted frame head es _ _ _ _ t (kept_tree wanted t) k
head_in rules wanted nexts.Ip6 frame head es t k = layer_same rules wanted frame head es _ _ _ _ t (kept_tree wanted t) k
head_in rules wanted nexts.Arp frame head es t k = layer_same rules wanted frame head es _ _ _ _ t (kept_tree wanted t) k
head_in rules wanted nexts.Vlan frame head es t k = layer_same rules wanted frame head es _ _ _ _ t (kept_tree wanted t) k
head_in rules wanted nexts.Icmp frame head es t k = message_same rules wanted frame head es _ _ _ t (kept_tree wanted t) k
head_in rules wanted nexts.Icmp6 frame head es t k = message_same rules wanted frame head es _ _ _ t (kept_tree wanted t) k
head_in rules wanted nexts.Udp frame head es t k = layer_same rules wanted frame head es _ _ _ _ t (kept_tree wanted t) k
head_in rules wanted nexts.Tcp frame head es t k = layer_same rules wanted frame head es _ _ _ _ t (kept_tree wanted t) k
head_in rules wanted nexts.HopOpts frame head es t k = layer_same rules wanted frame head es _ _ _ _ t (kept_tree wanted t) k
head_in rules wanted nexts.Routing frame head es t k = layer_same rules wanted frame head es _ _ _ _ t (kept_tree wanted t) k
head_in rules wanted nexts.DstOpts frame head es t k = layer_same rules wanted frame head es _ _ _ _ t (kept_tree wanted t) k
head_in rules wanted nexts.FragHdr frame head es t k = layer_same rules wanted frame head es _ _ _ _ t (kept_tree wanted t) k
head_in rules wanted (nexts.Neigh kind) frame head es t k = layer_same rules wanted frame head es _ _ _ _ t (kept_tree wanted t) k
head_in rules wanted nexts.Igmp frame head es t k = layer_same rules wanted frame head es _ _ _ _ t (kept_tree wanted t) k
head_in rules wanted nexts.Rest frame head es t k = rest_same wanted t (kept_tree wanted t) es head.span k

pub step_same : (rules : List PortRule) (wanted : List ℕ) (frame : Frame) (es : List Event) (todo : Todo) (t u : TreeShown) → IsKeptTree wanted t u → IsSameWay wanted (step_on rules frame t es todo) (step_on rules frame u es todo)
step_same rules wanted frame es todos.Done t u k = same_going wanted t u es todos.Done k
step_same rules wanted frame es (todos.Head head) t u k = way_as wanted (λ v. head_met rules frame head v es) t u k (head_in rules wanted head.which frame head es t)

end_same : (wanted : List ℕ) (es : List Event) (todo : Todo) (t u : TreeShown) → IsKeptTree wanted t u → IsSameWay wanted (rest_on t es todo) (rest_on u es todo)
end_same wanted es todos.Done t u k = same_going wanted t u es todos.Done k
end_same wanted es (todos.Head head) t u k = rest_same wanted t u es head.span k

-- by the parts of two ways
by_parts : (wanted : List ℕ) (v x : Walk) (X : TreeShown → List Event → Todo → Walk) → ((es : List Event) (todo : Todo) (t u : TreeShown) → IsKeptTree wanted t u → IsSameWay wanted (X t es todo) (X u es todo)) →
    IsSameWay wanted v x → IsSameWay wanted (X v.tree v.events v.todo) (X x.tree x.events x.todo)
by_parts wanted v x X one same =
    subst (λ (es : List Event). IsSameWay wanted (X v.tree v.events v.todo) (X x.tree es x.todo)) (sym same.events)
    (subst (λ (todo : Todo). IsSameWay wanted (X v.tree v.events v.todo) (X x.tree v.events todo)) (sym same.todo) (one v.events v.todo v.tree x.tree same.tree))

-- the chain of headers
chain_same : (rules : List PortRule) (wanted : List ℕ) (frame : Frame) (n : ℕ) (v x : Walk) → IsSameWay wanted v x → IsSameWay wanted (chain rules n frame v) (chain rules n frame x)
unfolding chain
chain_same rules wanted frame zero v x same = by_parts wanted v x rest_on (end_same wanted) same
chain_same rules wanted frame (suc n) v x same =
    chain_same rules wanted frame n (step rules frame v) (step rules frame x) (by_parts wanted v x (step_on rules frame) (step_same rules wanted frame) same)

all_same : (rules : List PortRule) (wanted : List ℕ) (frame : Frame) (v x : Walk) → IsSameWay wanted v x → IsSameWay wanted (all_met rules frame v) (all_met rules frame x)
unfolding all_met
all_same rules wanted frame v x same =
    subst (λ (n : ℕ). IsSameWay wanted (chain rules (layers_left v.tree) frame v) (chain rules (32 - n) frame x)) (sym (count_kept wanted v.tree x.tree same.tree)) (chain_same rules wanted frame (layers_left v.tree) v x same)

-- the first header
pub link_same : (rules : List PortRule) (wanted : List ℕ) (frame : Frame) (es : List Event) (t u : TreeShown) → IsKeptTree wanted t u → IsSameWay wanted (link_met rules frame t es) (link_met rules frame u es)
unfolding link_met
link_same rules wanted frame es t u k =
    way_as wanted (λ v. link_met rules frame v es) t u k
    (λ one. same_if wanted (length frame.bytes == 0) (stop t es) (stop (kept_tree wanted t) es) _ _ (same_going wanted t (kept_tree wanted t) es todos.Done one)
    (followed_same rules wanted frame no_packet PlainMode es _ _ _ (link_kept wanted (link_of frame.link) frame.little t (frame_span frame) (is_cut frame) one)))

pub walk_kept : (rules : List PortRule) (wanted : List ℕ) (before : Times) (es : List Event) (frame : Frame) → IsSameWay wanted (walk_of rules before es frame) (kept_walk rules wanted before es frame)
unfolding walk_of kept_walk
walk_kept rules wanted before es frame = all_same rules wanted frame _ _ (link_same rules wanted frame (NewFrame ∷ es) _ _ (frame_kept wanted before frame))
