-- How much the headers of a frame add to what is kept, one header after the other.
use Rattle.std.proofs.Common.{◌≡◌, ◌∙◌, ℕ, ◌+◌, ◌≤◌, length, refl, subst, ap, arith}
use Rattle.std.proofs.lemmas.Result.{IfOk-weaker}
use Rattle.std.specs.Prelude.{IfOk, Result}
use Rattle.pk_base.specs.declared.memory.NoMemory.{NoMemory}
use Rattle.pk_base.specs.declared.heads.After.{After}
use Rattle.pk_tree.specs.Trees.{TreeShown}
use Rattle.ip_join.specs.declared.joins.Joins.{Joins}
use Rattle.ip_join.specs.Waiting.{bytes_waiting}
use Rattle.tcp_streams.specs.PlacesStanding.{places_taken}
use Rattle.tcp_streams.specs.Standing.{bytes_so_far, taken_so_far}
use Rattle.tcp_messages.specs.declared.message_streams.MessageStreams.{MessageStreams}
use Rattle.tcp_messages.specs.Standing.{streams_in}
use Rattle.dissect.specs.declared.state.State.{State}
use Rattle.dissect.specs.declared.todo.Head.{Head}
use Rattle.dissect.specs.declared.todo.Todo.{Todo}
use Rattle.dissect.specs.declared.todo.Todo.TheVariants as todos
use Rattle.dissect.specs.Stands.{HasRoom, HasRoomForOne, IsReady, IsSameButLinks, AddsAtMost, AddsOneThenEnds, bytes_behind, bytes_kept}

-- before a header nothing was added, and its bytes are among those that are still to be read
pub adds-none : (bytes : ℕ) (first state : State) (now : Todo) (head : Head) → now ≡ todos.Head head → AddsOneThenEnds bytes first state now
    → AddsAtMost 0 first state × (bytes_kept state + head.span.len ≤ bytes_kept first + bytes)
adds-none bytes first state now head is_head adds = subst (AddsOneThenEnds bytes first state) is_head adds

pub room-now : (state : State) (now : Todo) (head : Head) → now ≡ todos.Head head → HasRoom state now → HasRoomForOne head.span.len state
room-now state now head is_head room = subst (HasRoom state) is_head room

pub adds-both : (first before state : State) → AddsAtMost 0 first before → AddsAtMost 1 before state → AddsAtMost 1 first state
adds-both first before state none adds = record { udp = omega (arith, none.udp, adds.udp); tcp = omega (arith, none.tcp, adds.tcp); keeps = adds.keeps ∙ none.keeps }

-- of more bytes
pub adds-more : (less bytes : ℕ) (old new : State) (todo : Todo) → less ≤ bytes → AddsOneThenEnds less old new todo → AddsOneThenEnds bytes old new todo
adds-more less bytes old new todos.Done within adds = (adds.0, omega (arith, within, adds.1))
adds-more less bytes old new (todos.Head head) within adds = (adds.0, omega (arith, within, adds.1))

pub adds-ok : (less bytes : ℕ) (old new : State) (r : Result Todo NoMemory) → less ≤ bytes → IfOk r (λ todo. AddsOneThenEnds less old new todo)
    → IfOk r (λ todo. AddsOneThenEnds bytes old new todo)
adds-ok less bytes old new r within adds =
    IfOk-weaker r (λ (todo : Todo). AddsOneThenEnds less old new todo) (λ (todo : Todo). AddsOneThenEnds bytes old new todo) (λ todo had. adds-more less bytes old new todo within had) adds

-- what a datagram was joined of is kept no more
adds-behind : (left bytes : ℕ) (first before state : State) (todo : Todo) → AddsAtMost 0 first before → bytes_kept before + left ≤ bytes_kept first + bytes
    → AddsOneThenEnds left before state todo → AddsOneThenEnds bytes first state todo
adds-behind left bytes first before state todos.Done none kept adds = (adds-both first before state none adds.0, omega (arith, kept, adds.1))
adds-behind left bytes first before state (todos.Head head) none kept adds = (
  record { udp = omega (arith, none.udp, adds.0.udp); tcp = omega (arith, none.tcp, adds.0.tcp); keeps = adds.0.keeps ∙ none.keeps },
  omega (arith, kept, adds.1),
)

abbrev pub with_joins : State → Joins → State
with_joins state joins = record { joins = joins; keeps = state.keeps; udp = state.udp; places = state.places; streams = state.streams; links = state.links; found = state.found }

pub adds-joined : (joined bytes size : ℕ) (old : State) (joins : Joins) (new : State) (r : Result Todo NoMemory) → joined + bytes_waiting joins ≤ bytes_waiting old.joins + size → size ≤ bytes
    → IfOk r (λ todo. AddsOneThenEnds joined (with_joins old joins) new todo) → IfOk r (λ todo. AddsOneThenEnds bytes old new todo)
adds-joined joined bytes size old joins new r brought short adds =
    let none : AddsAtMost 0 old (with_joins old joins) = record { udp = omega arith; tcp = omega arith; keeps = refl } in
    let kept : bytes_kept (with_joins old joins) + joined ≤ bytes_kept old + bytes = omega (arith, brought, short) in
    IfOk-weaker r (λ (todo : Todo). AddsOneThenEnds joined (with_joins old joins) new todo) (λ (todo : Todo). AddsOneThenEnds bytes old new todo)
    (λ todo had. adds-behind joined bytes old (with_joins old joins) new todo none kept had) adds

-- a header more
pub adds-on : (bytes : ℕ) (first before state : State) (now todo : Todo) (head : Head) → now ≡ todos.Head head → AddsOneThenEnds bytes first before now
    → AddsOneThenEnds head.span.len before state todo → AddsOneThenEnds bytes first state todo
adds-on bytes first before state now todo head is_head had adds =
    let none = adds-none bytes first before now head is_head had in
    adds-behind head.span.len bytes first before state todo none.0 none.1 adds

-- there is room for a header more
pub room-on : (bytes : ℕ) (before state : State) (todo : Todo) → HasRoomForOne bytes before → AddsOneThenEnds bytes before state todo → HasRoom state todo
room-on bytes before state todos.Done room adds = tt
room-on bytes before state (todos.Head head) room adds = record {
  udp = omega (arith, room.udp, adds.0.udp);
  tcp = omega (arith, room.tcp, adds.0.tcp);
  bytes = omega (arith, room.bytes, adds.1);
}

-- in the end at most one, and no more bytes
pub adds-most : (bytes : ℕ) (first state : State) (todo : Todo) → AddsOneThenEnds bytes first state todo → AddsAtMost 1 first state
adds-most bytes first state todos.Done adds = adds.0
adds-most bytes first state (todos.Head head) adds = record { udp = omega (arith, adds.0.udp); tcp = omega (arith, adds.0.tcp); keeps = adds.0.keeps }

pub kept-most : (bytes : ℕ) (first state : State) (todo : Todo) → AddsOneThenEnds bytes first state todo → bytes_kept state ≤ bytes_kept first + bytes
kept-most bytes first state todos.Done adds = adds.1
kept-most bytes first state (todos.Head head) adds = omega (arith, adds.1)

-- and still before the first header
pub room-before : (bytes : ℕ) (first before : State) → HasRoomForOne bytes first → AddsAtMost 0 first before → bytes_kept before ≡ bytes_kept first → HasRoomForOne bytes before
room-before bytes first before room none kept = record {
  udp = omega (arith, room.udp, none.udp);
  tcp = omega (arith, room.tcp, none.tcp);
  bytes = omega (arith, room.bytes, kept);
}

-- room for a header serves what follows it, where that has no more bytes
room-less : (less bytes : ℕ) (state : State) → less ≤ bytes → HasRoomForOne bytes state → HasRoomForOne less state
room-less less bytes state within room = record { udp = room.udp; tcp = room.tcp; bytes = omega (arith, room.bytes, within) }

pub ready-behind : (few most less bytes : ℕ) (state : State) (t u : TreeShown) → few + 2 ≤ most → less ≤ bytes → length u.layers ≤ length t.layers + 2 → u.buffers ≡ t.buffers → IsReady most bytes state t
    → IsReady few less state u
ready-behind few most less bytes state t u fewer within layers buffers ready = record {
  state = room-less less bytes state within ready.state;
  layers = omega (arith, ready.layers, fewer, layers);
  buffers = omega (arith, ready.buffers, ap length buffers);
}

pub ready-first : (few less bytes : ℕ) (state : State) (t u : TreeShown) → few ≤ 100 → less ≤ bytes → length t.layers ≤ 2 → length t.buffers ≡ 1 → length u.layers ≤ length t.layers + 2 → u.buffers ≡ t.buffers
    → HasRoomForOne bytes state → IsReady few less state u
ready-first few less bytes state t u fewer within few_layers one layers buffers room = record {
  state = room-less less bytes state within room;
  layers = omega (arith, fewer, few_layers, layers);
  buffers = omega (arith, one, ap length buffers);
}

pub ready-at : (few most : ℕ) (state : State) (t : TreeShown) (after next : After) → few ≤ most → after ≡ next → IsReady most (bytes_behind after) state t → IsReady few (bytes_behind next) state t
ready-at few most state t after next fewer is ready = record {
  state = subst (λ (a : After). HasRoomForOne (bytes_behind a) state) is ready.state;
  layers = omega (arith, ready.layers, fewer);
  buffers = ready.buffers;
}

-- a segment more in its stream, and the messages that it shows in the links
abbrev pub with_streams : State → MessageStreams → State
with_streams state streams = record { joins = state.joins; keeps = state.keeps; udp = state.udp; places = state.places; streams = streams; links = state.links; found = state.found }

pub adds-segment : (bytes size : ℕ) (old : State) (streams : MessageStreams) (new : State) → taken_so_far (streams_in streams) ≤ taken_so_far (streams_in old.streams) + 1
    → bytes_so_far (streams_in streams) ≤ bytes_so_far (streams_in old.streams) + size → size ≤ bytes → IsSameButLinks (with_streams old streams) new
    → AddsOneThenEnds bytes old new todos.Done
adds-segment bytes size old streams new taken sent short same = (
  record {
    udp = omega (arith, ap length same.udp);
    tcp = omega (arith, ap (λ (x : MessageStreams). taken_so_far (streams_in x)) same.streams, ap places_taken same.places, taken);
    keeps = same.keeps;
  },
  omega (arith, ap (λ (x : MessageStreams). bytes_so_far (streams_in x)) same.streams, ap bytes_waiting same.joins, sent, short),
)
