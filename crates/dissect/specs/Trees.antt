-- The trees of a list of frames. Each frame is read by those before it; lists of frames have the newest first.
use Rattle.std.specs.Prelude.{ℕ, List, [], ◌∷◌}
use Rattle.pk_fields.specs.FieldSets.{every_field}
use Rattle.pk_tree.specs.Trees.{TreeShown}
use Rattle.pk_fields.specs.declared.rules.PortRule.{PortRule}
use Rattle.capture_read.specs.declared.frame.Frame.{Frame}
use Rattle.app_layers.specs.declared.times.Times.{Times}
use Rattle.dissect.specs.Events.{Event, NewFrame}
use Rattle.app_layers.specs.FrameLayer.{frame_tree, kept_frame}
use Rattle.dissect.specs.Links.{newest_links}
use Rattle.message_links.specs.Linked.{linked}
use Rattle.app_layers.specs.Times.{no_times, with_time}
use Rattle.dissect.specs.Walks.{Walk, link_met, all_met}

-- how far a frame is read behind its first header, given the rules for ports, and the times and events before it
abbrev pub start : List PortRule → Times → List Event → Frame → Walk
start rules before es frame = link_met rules frame (frame_tree before frame) (NewFrame ∷ es)

-- the whole way through a frame's headers
unfoldable pub walk_of : List PortRule → Times → List Event → Frame → Walk
walk_of rules before es frame = all_met rules frame (start rules before es frame)

-- the same way, with the items of some fields
unfoldable pub kept_walk : List PortRule → List ℕ → Times → List Event → Frame → Walk
kept_walk rules wanted before es frame = all_met rules frame (link_met rules frame (kept_frame wanted before frame) (NewFrame ∷ es))

-- the times of frames
unfoldable pub times_of : List Frame → Times
times_of [] = no_times
times_of (frame ∷ past) = with_time frame.time (times_of past)

-- all events of frames, the newest first; no rule for a port changes them
unfoldable pub events_of : List Frame → List Event
events_of [] = []
events_of (frame ∷ past) = (walk_of [] (times_of past) (events_of past) frame).events

-- what a frame's bytes tell, given the rules for ports and the frames before it
unfoldable pub bare_tree : List PortRule → List Frame → Frame → TreeShown
bare_tree rules past frame = (walk_of rules (times_of past) (events_of past) frame).tree

-- the tree of a frame: the same, with the links of its messages to those of earlier frames
unfoldable pub tree_at : List PortRule → List Frame → Frame → TreeShown
tree_at rules past frame = linked every_field (newest_links rules (events_of (frame ∷ past))) (bare_tree rules past frame)
