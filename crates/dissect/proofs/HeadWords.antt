-- What is met at a header, by the words for its layer and for what follows it.
use Rattle.std.proofs.Common.{◌≡◌, List, refl, ap, sym, ◌∙◌, true, false, true≢false}
use Rattle.pk_tree.specs.Buffers.{bytes_of}
use Rattle.pk_base.specs.declared.heads.After.{After}
use Rattle.pk_base.specs.declared.heads.Mode.{Mode}
use Rattle.pk_base.specs.declared.heads.Next.{Next}
use Rattle.pk_base.specs.declared.heads.Next.TheVariants as nexts
use Rattle.pk_tree.specs.Trees.{TreeShown}
use Rattle.pk_fields.specs.declared.rules.PortRule.{PortRule}
use Rattle.capture_read.specs.declared.frame.Frame.{Frame}
use Rattle.app_layers.specs.FrameLayer.{is_cut}
use Rattle.app_layers.specs.Heads.{head_after, head_read, is_rest}
use Rattle.dissect.specs.declared.todo.Head.{Head}
use Rattle.dissect.specs.Events.{Event}
use Rattle.dissect.specs.Walks.{Walk, followed, head_by, mode_after, rest_met}
use Rattle.dissect.proofs.Told.{followed_alike}

after_head : Frame → Head → TreeShown → Next → After
after_head frame head t which = head_after which head.packet head.mode (is_cut frame) head.span (bytes_of t.buffers head.span)

by_words : List PortRule → Frame → Head → TreeShown → List Event → Next → Walk
by_words rules frame head t es which =
    followed rules frame head.packet (mode_after which head.mode (after_head frame head t which)) (head_read which head.mode (is_cut frame) head.span t) es (after_head frame head t which)

head_words : (rules : List PortRule) (frame : Frame) (head : Head) (t : TreeShown) (es : List Event) (which : Next) → is_rest which ≡ false → by_words rules frame head t es which ≡ head_by rules which frame head t es
unfolding by_words after_head head_by head_read head_after
head_words rules frame head t es nexts.Ip4 some = refl
head_words rules frame head t es nexts.Ip6 some = refl
head_words rules frame head t es nexts.Arp some = refl
head_words rules frame head t es nexts.Vlan some = refl
head_words rules frame head t es nexts.Icmp some = refl
head_words rules frame head t es nexts.Icmp6 some = refl
head_words rules frame head t es nexts.Udp some = refl
head_words rules frame head t es nexts.Tcp some = refl
head_words rules frame head t es nexts.HopOpts some = refl
head_words rules frame head t es nexts.Routing some = refl
head_words rules frame head t es nexts.DstOpts some = refl
head_words rules frame head t es nexts.FragHdr some = refl
head_words rules frame head t es (nexts.Neigh kind) some = refl
head_words rules frame head t es nexts.Igmp some = refl
head_words rules frame head t es nexts.Rest some = absurd (true≢false some)

-- a header that was read, with what follows it
pub head_followed : (rules : List PortRule) (frame : Frame) (head : Head) (mode : Mode) (t read : TreeShown) (after : After) → is_rest head.which ≡ false → mode ≡ mode_after head.which head.mode after
    → read ≡ head_read head.which head.mode (is_cut frame) head.span t → after ≡ head_after head.which head.packet head.mode (is_cut frame) head.span (bytes_of t.buffers head.span)
    → (es : List Event) → followed rules frame head.packet mode read es after ≡ head_by rules head.which frame head t es
unfolding by_words after_head
head_followed rules frame head mode t read after some mode_is read_is after_is es =
    followed_alike rules frame head.packet mode (mode_after head.which head.mode (after_head frame head t head.which)) read _ after _ es
    (mode_is ∙ ap (λ a. mode_after head.which head.mode a) after_is) read_is after_is
    ∙ head_words rules frame head t es head.which some

-- and the rest
pub rest_words : (rules : List PortRule) (frame : Frame) (head : Head) (t : TreeShown) (es : List Event) (which : Next) → is_rest which ≡ true → rest_met t es head.span ≡ head_by rules which frame head t es
unfolding head_by
rest_words rules frame head t es nexts.Rest rest = refl
rest_words rules frame head t es nexts.Ip4 rest = absurd (true≢false (sym rest))
rest_words rules frame head t es nexts.Ip6 rest = absurd (true≢false (sym rest))
rest_words rules frame head t es nexts.Arp rest = absurd (true≢false (sym rest))
rest_words rules frame head t es nexts.Vlan rest = absurd (true≢false (sym rest))
rest_words rules frame head t es nexts.Icmp rest = absurd (true≢false (sym rest))
rest_words rules frame head t es nexts.Icmp6 rest = absurd (true≢false (sym rest))
rest_words rules frame head t es nexts.Udp rest = absurd (true≢false (sym rest))
rest_words rules frame head t es nexts.Tcp rest = absurd (true≢false (sym rest))
rest_words rules frame head t es nexts.HopOpts rest = absurd (true≢false (sym rest))
rest_words rules frame head t es nexts.Routing rest = absurd (true≢false (sym rest))
rest_words rules frame head t es nexts.DstOpts rest = absurd (true≢false (sym rest))
rest_words rules frame head t es nexts.FragHdr rest = absurd (true≢false (sym rest))
rest_words rules frame head t es nexts.Igmp rest = absurd (true≢false (sym rest))
rest_words rules frame head t es (nexts.Neigh kind) rest = absurd (true≢false (sym rest))
