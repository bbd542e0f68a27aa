-- What is known of what is kept.
use Rattle.std.proofs.Common.{◌≡◌, Bool, true, false, ◌&&◌, List, [], ◌∷◌, ℕ, Option, ◌⊎◌, inl, inr, refl, sym, ◌∙◌, ap, subst, true≢false}
use Rattle.std.specs.List.{AllByRecursion as Each}
use Rattle.std.proofs.lemmas.Bool.{cases_Bool}
use Rattle.pk_fields.specs.FieldSets.{is_in}
use Rattle.pk_fields.specs.Fields.{row_of}
use Rattle.pk_fields.specs.Table.{rows}
use Rattle.pk_fields.specs.Ids.{DNS_RESPONSE_TO, HTTP_REQUEST_IN, UDP_STREAM}
use Rattle.pk_fields.specs.declared.apps.App.TheVariants as apps
use Rattle.pk_fields.specs.declared.rules.PortRule.{PortRule}
use Rattle.tcp_streams.specs.declared.segment.Segment.{Segment}
use Rattle.tcp_streams.specs.Conversations.{ends_of, same_ends}
use Rattle.tcp_streams.specs.Isolation.{between}
use Rattle.app_layers.specs.declared.streamed.StreamApp.{StreamApp}
use Rattle.app_layers.specs.MessageLayers.{app_of_segment, framer_of_segment}
use Rattle.app_layers.specs.Rows.{framed_apps}
use Rattle.app_layers.proofs.RowLemmas.{framed_each}
use Rattle.app_layers.proofs.StreamApps.{apps_of_ends}
use Rattle.dissect.specs.declared.keeping.Follows.{Follows}
use Rattle.dissect.specs.declared.keeping.Follows.TheVariants.{Nothing, Places, One, Applications, Everything}
use Rattle.dissect.specs.declared.keeping.Keeping.{Keeping}
use Rattle.dissect.specs.Followed.{asks_messages, asks_streams}
use Rattle.dissect.specs.Keeping.{AsksNoLinks, AsksNoOthers, FollowsEnough, IsOwnOrUnasked, KeepsFor, KeepsWhole, followed_of, is_everything, is_followed, keeps_all, tells_places}
use Rattle.capture_read.specs.declared.frame.Frame.{Frame}
use Rattle.tcp_messages.specs.Standing.{ReadsFor}
use Rattle.dissect.specs.Segments.{segments_of}
use Rattle.dissect.specs.Trees.{events_of}
use Rattle.dissect.specs.Stands.{DissectorShown, IsAfter, IsKept}
use Rattle.dissect.proofs.Asked.{no_messages, unasked_fields}

first_of : (a b : Bool) → a && b ≡ true → a ≡ true
first_of true b both = refl
first_of false b both = absurd (true≢false (sym both))

second_of : (a b : Bool) → a && b ≡ true → b ≡ true
second_of true b both = both
second_of false b both = absurd (true≢false (sym both))

pub all_everything : (keeps : Keeping) → keeps_all keeps ≡ true → is_everything keeps.follows ≡ true
all_everything keeps all = first_of (is_everything keeps.follows) keeps.numbers all

pub all_numbers : (keeps : Keeping) → keeps_all keeps ≡ true → keeps.numbers ≡ true
all_numbers keeps all = second_of (is_everything keeps.follows) keeps.numbers all

-- ---- everything

pub everything_takes : (follows : Follows) (app : Option StreamApp) → is_everything follows ≡ true → is_followed follows app ≡ true
everything_takes Nothing app all = absurd (true≢false (sym all))
everything_takes Places app all = absurd (true≢false (sym all))
everything_takes (One only) app all = absurd (true≢false (sym all))
everything_takes Applications app all = absurd (true≢false (sym all))
everything_takes Everything app all = refl

pub everything_enough : (follows : Follows) (wanted : List ℕ) → is_everything follows ≡ true → FollowsEnough follows wanted
everything_enough Nothing wanted all = absurd (true≢false (sym all))
everything_enough Places wanted all = absurd (true≢false (sym all))
everything_enough (One only) wanted all = absurd (true≢false (sym all))
everything_enough Applications wanted all = absurd (true≢false (sym all))
everything_enough Everything wanted all = tt

all_of : (rules : List PortRule) (segments : List Segment) → followed_of rules Everything segments ≡ segments
unfolding followed_of
all_of rules [] = refl
all_of rules (s ∷ segments) = ap (λ (ss : List Segment). s ∷ ss) (all_of rules segments)

pub everything_of : (rules : List PortRule) (follows : Follows) (segments : List Segment) → is_everything follows ≡ true → followed_of rules follows segments ≡ segments
everything_of rules Nothing segments all = absurd (true≢false (sym all))
everything_of rules Places segments all = absurd (true≢false (sym all))
everything_of rules (One only) segments all = absurd (true≢false (sym all))
everything_of rules Applications segments all = absurd (true≢false (sym all))
everything_of rules Everything segments all = all_of rules segments

-- is enough for any fields
pub all_for : (keeps : Keeping) (wanted : List ℕ) → keeps_all keeps ≡ true → KeepsFor keeps wanted
all_for keeps wanted all = record {
  streams = everything_enough keeps.follows wanted (all_everything keeps all);
  numbers = λ none. absurd (true≢false (sym (all_numbers keeps all) ∙ none));
  links = λ none. absurd (true≢false (sym all ∙ none));
}

pub all_whole : (keeps : Keeping) (wanted : List ℕ) → keeps_all keeps ≡ true → keeps.lets_go ≡ false → KeepsWhole keeps wanted
all_whole keeps wanted all bytes = record { numbers = all_numbers keeps all; all = λ _. all; bytes = bytes }

-- ---- one segment more

pub more_followed : (rules : List PortRule) (follows : Follows) (s : Segment) (segments : List Segment) → is_followed follows (app_of_segment rules s) ≡ true
    → followed_of rules follows (s ∷ segments) ≡ s ∷ followed_of rules follows segments
unfolding followed_of
more_followed rules follows s segments is = rw is refl

pub passed_over : (rules : List PortRule) (follows : Follows) (s : Segment) (segments : List Segment) → is_followed follows (app_of_segment rules s) ≡ false
    → followed_of rules follows (s ∷ segments) ≡ followed_of rules follows segments
unfolding followed_of
passed_over rules follows s segments none = rw none refl

-- all segments of a conversation are taken where one is
pub between_followed : (rules : List PortRule) (follows : Follows) (s : Segment) (segments : List Segment) → is_followed follows (app_of_segment rules s) ≡ true
    → between s (followed_of rules follows segments) ≡ between s segments
unfolding followed_of
between_followed rules follows s [] is = refl
between_followed rules follows s (t ∷ segments) is = elim (cases_Bool (same_ends (ends_of t) (ends_of s))) [
  | inl mine ↦
      let taken : is_followed follows (app_of_segment rules t) ≡ true = ap (is_followed follows) (apps_of_ends rules t s mine) ∙ is in
      rw (taken, mine) (ap (λ (ts : List Segment). t ∷ ts) (between_followed rules follows s segments is))
  | inr other ↦ elim (cases_Bool (is_followed follows (app_of_segment rules t))) [
    | inl taken ↦ rw (taken, other) (between_followed rules follows s segments is)
    | inr passed ↦ rw (passed, other) (between_followed rules follows s segments is)
  ]
]

-- where places are told, no byte is kept
pub placed_passed : (follows : Follows) (app : Option StreamApp) → tells_places follows ≡ true → is_followed follows app ≡ false
placed_passed Nothing app places = refl
placed_passed Places app places = refl
placed_passed (One only) app places = absurd (true≢false (sym places))
placed_passed Applications app places = absurd (true≢false (sym places))
placed_passed Everything app places = absurd (true≢false (sym places))

pub taken_unplaced : (follows : Follows) (app : Option StreamApp) → is_followed follows app ≡ true → tells_places follows ≡ false
taken_unplaced Nothing app taken = refl
taken_unplaced Places app taken = absurd (true≢false (sym taken))
taken_unplaced (One only) app taken = refl
taken_unplaced Applications app taken = refl
taken_unplaced Everything app taken = refl

pub placed_enough : (follows : Follows) (wanted : List ℕ) → tells_places follows ≡ true → FollowsEnough follows wanted → asks_messages wanted ≡ false
placed_enough Nothing wanted places enough = absurd (true≢false (sym places))
placed_enough Places wanted places enough = enough
placed_enough (One only) wanted places enough = absurd (true≢false (sym places))
placed_enough Applications wanted places enough = absurd (true≢false (sym places))
placed_enough Everything wanted places enough = absurd (true≢false (sym places))

-- ---- one protocol

pub no_others : (proto : ℕ) (wanted : List ℕ) → Each (IsOwnOrUnasked proto wanted) framed_apps → AsksNoOthers proto wanted
no_others proto wanted each app framed = framed_each (IsOwnOrUnasked proto wanted) each app framed

-- ---- what is asked

-- links go by the numbers of conversations, and by streams
either_none : (a b : Bool) → a && b ≡ false → (a ≡ false) ⊎ (b ≡ false)
either_none true b none = inr none
either_none false b none = inl refl

pub no_links : (wanted : List ℕ) → asks_streams wanted ≡ false → AsksNoLinks wanted
no_links wanted unasked =
    let none = unasked_fields wanted unasked in
    record { dns = none.0; http = none.1 }

pub no_message_links : (wanted : List ℕ) → asks_messages wanted ≡ false → AsksNoLinks wanted
unfolding row_of rows
no_message_links wanted unasked =
    let none = no_messages wanted unasked in
    record { dns = none.fields apps.Dns refl DNS_RESPONSE_TO refl; http = none.fields apps.Http refl HTTP_REQUEST_IN refl }

pub keeps_for : (keeps : Keeping) (wanted : List ℕ) → FollowsEnough keeps.follows wanted → (keeps.numbers ≡ false → is_in wanted UDP_STREAM ≡ false)
    → (is_everything keeps.follows ≡ false → AsksNoLinks wanted) → (keeps.numbers ≡ false → AsksNoLinks wanted) → KeepsFor keeps wanted
keeps_for keeps wanted streams numbers unfollowed unnumbered = record {
  streams = streams;
  numbers = numbers;
  links = λ some. elim (either_none (is_everything keeps.follows) keeps.numbers some) [
    | inl none ↦ unfollowed none
    | inr none ↦ unnumbered none
  ];
}

-- where all conversations over UDP are numbered, everything is kept where something of streams is asked, and no byte is let go
pub for_trees : (keeps : Keeping) (wanted : List ℕ) → FollowsEnough keeps.follows wanted → (asks_streams wanted ≡ true → is_everything keeps.follows ≡ true)
    → (is_everything keeps.follows ≡ false → AsksNoLinks wanted) → keeps.numbers ≡ true → keeps.lets_go ≡ false → KeepsFor keeps wanted × KeepsWhole keeps wanted
for_trees keeps wanted streams all links numbers bytes = (
  keeps_for keeps wanted streams (λ none. absurd (true≢false (sym numbers ∙ none))) links (λ none. absurd (true≢false (sym numbers ∙ none))),
  record { numbers = numbers; all = λ asked. both_are (is_everything keeps.follows) keeps.numbers (all asked) numbers; bytes = bytes },
)
  where
    both_are : (a b : Bool) → a ≡ true → b ≡ true → a && b ≡ true
    both_are true b one other = other
    both_are false b one other = one

-- trees are asked, and something of streams
pub all_asked : (d : DissectorShown) → IsKept d → asks_streams d.wanted ≡ true → d.sparing ≡ false → keeps_all d.state.keeps ≡ true
all_asked d kept asked unsparing = (kept.whole unsparing).all asked

-- where everything is kept and no byte is let go, the streams stand for all segments
pub streams_of_all : (d : DissectorShown) (past : List Frame) → IsAfter past d → keeps_all d.state.keeps ≡ true → d.state.keeps.lets_go ≡ false
    → ReadsFor (framer_of_segment d.decode.rules) (segments_of (events_of past)) d.state.streams
streams_of_all d past after all bytes =
    subst (λ (ss : List Segment). ReadsFor (framer_of_segment d.decode.rules) ss d.state.streams)
    (everything_of d.decode.rules d.state.keeps.follows (segments_of (events_of past)) (all_everything d.state.keeps all)) (after.state.streams.whole bytes)
