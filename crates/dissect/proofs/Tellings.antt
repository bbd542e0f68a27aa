-- The messages of an application's streams are of this application.
use Rattle.std.proofs.Common.{◌≡◌, ◌+◌, ◌-◌, ℕ, zero, suc, Bool, true, false, List, [], ◌∷◌, ◌++◌, map, Option, Some, None, if◌then◌else◌, refl, sym, ap, subst}
use Rattle.std.proofs.lemmas.Option.{none-some}
use Rattle.std.specs.Prelude.{unwrap_or, nat_lt}
use Rattle.std.specs.Option.{option_map}
use Rattle.std.specs.List.{AllByRecursion as Each}
use Rattle.pk_base.specs.declared.stretch.Stretch.{Stretch}
use Rattle.pk_fields.specs.Ids.{HTTP}
use Rattle.tcp_streams.specs.declared.segment.Segment.{Segment}
use Rattle.tcp_streams.specs.Labels.{label_of, labels}
use Rattle.stream_messages.specs.declared.placed.Placed.{Placed}
use Rattle.pk_fields.specs.declared.apps.App.{App}
use Rattle.stream_messages.specs.declared.framer.Framer.{Framer}
use Rattle.stream_messages.specs.declared.framer.Framer.TheVariants as framers
use Rattle.stream_messages.specs.declared.told.Told.{Told}
use Rattle.stream_messages.specs.declared.told.Told.TheVariants.{Sized, Http}
use Rattle.stream_messages.specs.declared.shape.Shape.{Shape}
use Rattle.stream_messages.specs.declared.shape.Then.{Then}
use Rattle.stream_messages.specs.declared.shape.Then.TheVariants.{Follows, Opaque}
use Rattle.stream_messages.specs.Framers.{first_sized}
use Rattle.stream_messages.specs.HttpMessages.{first_message}
use Rattle.stream_messages.specs.Messages.{Asked, above, answered, end_at, follow, messages, of_front, of_stretches, with_first}
use Rattle.stream_messages.specs.Sides.{Brought, Noted, asked_in, front_end, note_next, noted}
use Rattle.stream_messages.specs.Tellings.{answers, end_of, first_of, passed, then_of}
use Rattle.tcp_messages.specs.declared.met.ShownMessage.{ShownMessage}
use Rattle.tcp_messages.specs.Brought.{brought, brought_by}
use Rattle.tcp_messages.specs.Shown.{messages_after, shown_after}
use Rattle.app_layers.specs.MessageLayers.{tells_length}
use Rattle.app_layers.specs.Rows.{framer_of, proto_of}
use Rattle.app_layers.proofs.RowLemmas.{http_row}
use Rattle.app_layers.specs.declared.streamed.StreamApp.{StreamApp}
use Rattle.app_layers.proofs.MessagesAside.{AsksNoneOf, AsksNotShown, AsksNotSized, AsksNotTold}

-- ---- what tells it

abbrev IsSizedOf : App → Type 0
IsSizedOf app = tells_length (framer_of app) ≡ true

abbrev IsHttpOf : App → Type 0
IsHttpOf app = framer_of app ≡ Some framers.Http

-- a message is one of an application
abbrev pub IsOf : App → Told → Type 0
IsOf app (Sized end) = IsSizedOf app
IsOf app (Http shape) = IsHttpOf app

abbrev pub AreOf : App → List Placed → Type 0
AreOf app ms = Each (λ (m : Placed). IsOf app m.told) ms

sized_of : (app : App) (head at width : ℕ) → framer_of app ≡ Some (framers.LengthPrefix head at width) → IsSizedOf app
sized_of app head at width framed = ap tells_length framed

http_of : (app : App) → framer_of app ≡ Some framers.Http → IsHttpOf app
http_of app framed = framed

mapped_sized : (app : App) (o : Option ℕ) (told : Told) → IsSizedOf app → option_map Sized o ≡ Some told → IsOf app told
mapped_sized app None told of is = absurd (none-some told is)
mapped_sized app (Some end) told of is = subst (IsOf app) (ap (λ (o : Option Told). unwrap_or o told) is) of

mapped_http : (app : App) (o : Option Shape) (told : Told) → IsHttpOf app → option_map Http o ≡ Some told → IsOf app told
mapped_http app None told of is = absurd (none-some told is)
mapped_http app (Some shape) told of is = subst (IsOf app) (ap (λ (o : Option Told). unwrap_or o told) is) of

first_is : (app : App) (framer : Framer) (asked : Bool) (bytes : List ℕ) (told : Told) → framer_of app ≡ Some framer → first_of framer asked bytes ≡ Some told → IsOf app told
first_is app (framers.LengthPrefix head at width) asked bytes told framed is = mapped_sized app (first_sized head at width bytes) told (sized_of app head at width framed) is
first_is app framers.Http asked bytes told framed is = mapped_http app (first_message asked bytes) told (http_of app framed) is

followed_are : (app : App) (next : Then) (ms : List Placed) → AreOf app ms → AreOf app (follow next ms)
followed_are app (Follows count) ms are = are
followed_are app Opaque ms are = tt

with_first_are : (app : App) (at : ℕ) (o : Option Told) (more : Told → List Placed) → ((told : Told) → o ≡ Some told → IsOf app told) → ((told : Told) → AreOf app (more told))
    → AreOf app (with_first at o more)
with_first_are app at None more is are = tt
with_first_are app at (Some told) more is are = (is told refl, followed_are app (then_of told) (more told) (are told))

cut_are : (app : App) (framer : Framer) (asked : Asked) (count at skip : ℕ) (bytes : List ℕ) → framer_of app ≡ Some framer → AreOf app (messages framer asked count at skip bytes)
unfolding messages
cut_are app framer asked count at skip [] framed = tt
cut_are app framer asked count at (suc skip) (b ∷ rest) framed = cut_are app framer asked count (suc at) skip rest framed
cut_are app framer asked count at zero (b ∷ rest) framed =
    with_first_are app at (first_of framer (asked at count) (b ∷ rest))
    (λ told. messages framer asked (count + answers told) (suc at) (end_of told - 1 + passed (then_of told)) rest)
    (λ told is. first_is app framer (asked at count) (b ∷ rest) told framed is) (λ told. cut_are app framer asked (count + answers told) (suc at) (end_of told - 1 + passed (then_of told)) rest framed)

both_are : (app : App) (xs ys : List Placed) → AreOf app xs → AreOf app ys → AreOf app (xs ++ ys)
both_are app [] ys front back = back
both_are app (x ∷ xs) ys front back = (front.0, both_are app xs ys front.1 back)

stretches_are : (app : App) (framer : Framer) (asked : Asked) (count : ℕ) (ss : List Stretch) → framer_of app ≡ Some framer → AreOf app (of_stretches framer asked count ss)
stretches_are app framer asked count [] framed = tt
stretches_are app framer asked count (s ∷ ss) framed =
    both_are app (of_front framer asked count s.start s.bytes) _ (cut_are app framer asked count s.start 0 s.bytes framed)
    (stretches_are app framer asked (answered count (of_front framer asked count s.start s.bytes)) ss framed)

one_above : (app : App) (test : Bool) (m : Placed) (ms : List Placed) → IsOf app m.told → AreOf app ms → AreOf app (if test then m ∷ ms else ms)
one_above app true m ms is are = (is, are)
one_above app false m ms is are = are

above_are : (app : App) (before : ℕ) (ms : List Placed) → AreOf app ms → AreOf app (above before ms)
above_are app before [] are = tt
above_are app before (m ∷ ms) are = one_above app (nat_lt before (end_at m)) m (above before ms) are.0 (above_are app before ms are.1)

brought_are : (app : App) (framer : Framer) (ns : List Noted) (b : Brought) → framer_of app ≡ Some framer → AreOf app (note_next framer ns b).shown
brought_are app framer ns b framed =
    above_are app (front_end b.side ns) (of_stretches framer (asked_in b.side ns) 0 b.stretches) (stretches_are app framer (asked_in b.side ns) 0 b.stretches framed)

new_are : (app : StreamApp) (past : List Segment) (s : Segment) → framer_of app.app ≡ Some app.framer → AreOf app.app (messages_after (Some app.framer) past s)
new_are app past s framed =
    let l = label_of s (labels past) in
    brought_are app.app app.framer (noted app.framer (brought l.stream (labels past))) (brought_by l (labels past)) framed

-- so are those that are shown
abbrev pub AreShownOf : App → List ShownMessage → Type 0
AreShownOf app ms = Each (λ (m : ShownMessage). IsOf app m.message.told) ms

placed_of : (app : App) (show : Placed → ShownMessage) (ms : List Placed) → ((m : Placed) → (show m).message ≡ m) → AreOf app ms → AreShownOf app (map show ms)
placed_of app show [] same are = tt
placed_of app show (m ∷ ms) same are = (subst (λ (p : Placed). IsOf app p.told) (sym (same m)) are.0, placed_of app show ms same are.1)

pub shown_are : (app : StreamApp) (past : List Segment) (s : Segment) → framer_of app.app ≡ Some app.framer → AreShownOf app.app (shown_after (Some app.framer) past s)
unfolding shown_after
shown_are app past s framed = placed_of app.app _ (messages_after (Some app.framer) past s) (λ m. refl) (new_are app past s framed)

-- ---- nothing of it is asked

not_sized : (app : App) (wanted : List ℕ) → AsksNoneOf (proto_of app) wanted → AsksNotSized app wanted
not_sized app wanted none sized = none

not_http : (app : App) (wanted : List ℕ) → AsksNoneOf (proto_of app) wanted → IsHttpOf app → AsksNoneOf HTTP wanted
not_http app wanted none is = http_row (λ (one : App). AsksNoneOf (proto_of one) wanted → AsksNoneOf HTTP wanted) (λ none. none) app is none

not_told : (app : App) (wanted : List ℕ) (told : Told) → AsksNoneOf (proto_of app) wanted → IsOf app told → AsksNotTold app wanted told
not_told app wanted (Sized end) none is = not_sized app wanted none
not_told app wanted (Http shape) none is = not_http app wanted none is

none_of : (app : App) (wanted : List ℕ) (ms : List ShownMessage) → AsksNoneOf (proto_of app) wanted → AreShownOf app ms → AsksNotShown app wanted ms
none_of app wanted [] none are = tt
none_of app wanted (m ∷ ms) none are = (not_told app wanted m.message.told none are.0, none_of app wanted ms none are.1)

pub not_shown : (app : StreamApp) (wanted : List ℕ) (past : List Segment) (s : Segment) → framer_of app.app ≡ Some app.framer → AsksNoneOf (proto_of app.app) wanted
    → AsksNotShown app.app wanted (shown_after (Some app.framer) past s)
not_shown app wanted past s framed none = none_of app.app wanted (shown_after (Some app.framer) past s) none (shown_are app past s framed)
