-- A tree that has only the wanted items is shown as the whole tree.
use Rattle.std.proofs.Common.{◌≡◌, ◌||◌, ℕ, Bool, true, false, List, [], ◌∷◌, map, refl, sym, ap, ◌∙◌, subst, true≢false}
use Rattle.std.specs.List.{AllByRecursion as Each}
use Rattle.pk_fields.specs.FieldSets.{is_in}
use Rattle.pk_fields.specs.Ids.{TCP_SEQ, TCP_ACK, TCP_LOST}
use Rattle.pk_tree.specs.Trees.{TreeShown, IsKept, kept_tree}
use Rattle.pk_tree.specs.declared.item.Item.{Item}
use Rattle.pk_tree.specs.declared.layer.Layer.{Layer}
use Rattle.pk_tree.proofs.KeptValues.{values_same}
use Rattle.pk_tree.specs.FieldValues.{values_of}
use Rattle.app_layers.specs.Aside.{LacksOnly}
use Rattle.app_layers.proofs.MessagesAside.{lacks_none}
use Rattle.cap_stats.specs.declared.kind.StatKind.{StatKind}
use Rattle.cap_stats.specs.declared.kind.StatKind.TheVariants.{ConvTcp, ConvIp, Phs}
use Rattle.capture_read.specs.declared.frame.Frame.{Frame}
use Rattle.dissect.specs.Followed.{asks_messages, asks_streams}
use Rattle.dissect.specs.Trees.{tree_at}
use Rattle.pk_fields.specs.declared.rules.PortRule.{PortRule}
use Rattle.run_frames.specs.declared.plan.Plan.{Plan}
use Rattle.run_frames.specs.Accessors.{needs_streams, rules_of, two_of}
use Rattle.run_frames.specs.Tables.{asks_table, asks_tables}
use Rattle.run_frames.specs.Trees.{tree_of}
use Rattle.dissect.specs.Heads.{HeadsShown, IsHeaderLayer, NamesNoFrame}
use Rattle.dissect.specs.Stands.{DissectorShown, StandsWithin}
use Rattle.run_frames.specs.Taken.{IsTakenBy, IsTakenPlain, heads_tree, taken_tree}
use Rattle.run_frames.specs.declared.taken.Taken.{Taken}
use Rattle.run_frames.specs.declared.taken.Taken.TheVariants as takens
use Rattle.run_frames.specs.Wanted.{AreToldByValues, asks_trees, HasFields, IsMadeFor, IsEnough, IsSpared, IsToldAs, IsWhole, ServesPlan}
use Rattle.second_pass.specs.Forward.{forwarded, forwarded_to}
use Rattle.second_pass.specs.Laws.{kept_noted, link_fields}
use Rattle.second_pass.proofs.KeptLinks.{links_same}
use Rattle.second_pass.specs.Named.{Noted}
use Rattle.second_pass.specs.Others.{IsOther, NamesNone}
use Rattle.second_pass.proofs.OtherLemmas.{others_stay}
use Rattle.run_frames.specs.declared.later.Later.{Later}
use Rattle.run_frames.specs.declared.later.Later.TheVariants.{Unread, Known}
use Rattle.run_frames.specs.Job.{One, Passes, Two, job_in, once, with_links}
use Rattle.run_frames.specs.Later.{IsUnnamed, Serves, ServesKept, kept_passes}

pub first_false : (a b : Bool) → (a || b) ≡ false → a ≡ false
first_false true b is = absurd (cc is)
first_false false b is = refl

pub second_false : (a b : Bool) → (a || b) ≡ false → b ≡ false
second_false true b is = absurd (cc is)
second_false false b is = is

pub no_table : {A : Type 0} (plan : Plan) (kind : StatKind) → asks_tables plan ≡ false → asks_table plan kind ≡ true → A
no_table plan ConvTcp not_so is =
    let bad : false ≡ true = sym (first_false (asks_table plan ConvTcp) (asks_table plan ConvIp) (first_false (asks_table plan ConvTcp || asks_table plan ConvIp) (asks_table plan Phs) not_so)) ∙ is in absurd (cc bad)
no_table plan ConvIp not_so is =
    let bad : false ≡ true = sym (second_false (asks_table plan ConvTcp) (asks_table plan ConvIp) (first_false (asks_table plan ConvTcp || asks_table plan ConvIp) (asks_table plan Phs) not_so)) ∙ is in absurd (cc bad)
no_table plan Phs not_so is = let bad : false ≡ true = sym (second_false (asks_table plan ConvTcp || asks_table plan ConvIp) (asks_table plan Phs) not_so) ∙ is in absurd (cc bad)

-- where the fields of links are asked, so are streams
pub links_streams : (wanted : List ℕ) → HasFields wanted link_fields → asks_streams wanted ≡ true
unfolding asks_streams
links_streams wanted has =
    ap (λ (b : Bool). b || is_in wanted TCP_SEQ || is_in wanted TCP_ACK || is_in wanted TCP_LOST || asks_messages wanted) has.1.1.1.1.1.1.1.1.1.1.1.1.1.1.1.0

-- by the rules that the dissector was made with, and with links to later frames
told_once : (plan : Plan) (rules : List PortRule) (past : List Frame) (frame : Frame) (tree after : TreeShown) → rules ≡ rules_of plan
    → IsToldAs plan (tree_at rules past frame) tree → after ≡ tree → IsToldAs plan (tree_of (once plan) past frame) after
told_once plan rules past frame tree after is told same =
    subst (λ (r : List PortRule). IsToldAs plan (tree_at r past frame) after) is
    (subst (λ (t : TreeShown). IsToldAs plan (tree_at rules past frame) t) (sym same) told)

still_wanted : (noted : List Noted) (frame : ℕ) (tree : TreeShown) → (forwarded noted frame tree).wanted ≡ tree.wanted
unfolding forwarded_to
still_wanted noted frame tree = refl

-- a tree of some fields gets the links that the whole tree gets
kept_forwarded : (wanted : List ℕ) (noted : List Noted) (frame : ℕ) (whole tree after : TreeShown) → HasFields wanted link_fields → IsKept wanted whole tree
    → after ≡ forwarded (map (kept_noted wanted) noted) frame tree → IsKept wanted (forwarded noted frame whole) after
kept_forwarded wanted noted frame whole tree after links kept same = record {
  same = same ∙ ap (forwarded (map (kept_noted wanted) noted) frame) kept.same ∙ links_same wanted noted frame whole links;
  all = still_wanted noted frame whole ∙ kept.all;
}

made_kept : (wanted : List ℕ) (whole tree : TreeShown) → IsWhole whole → IsKept wanted whole tree → IsMadeFor wanted whole tree
made_kept wanted whole tree is kept = record {
  of_frame = is;
  spared = record {
    values = λ field layers is. ap (λ (t : TreeShown). values_of t field layers) kept.same ∙ values_same wanted whole field layers is;
    lacks = subst (LacksOnly (kept_tree wanted whole)) (sym kept.same) (lacks_none (kept_tree wanted whole));
  };
  kept = λ asks. kept;
}

told_again : (plan : Plan) (rules : List PortRule) (past : List Frame) (frame : Frame) (noted : List Noted) (wanted : List ℕ) (tree after : TreeShown) → rules ≡ rules_of plan
    → IsEnough wanted plan → HasFields wanted link_fields → IsKept wanted (tree_at rules past frame) tree
    → after ≡ forwarded (map (kept_noted wanted) noted) frame.number tree → IsToldAs plan (tree_of (job_in plan (Two noted)) past frame) after
told_again plan rules past frame noted wanted tree after is enough links kept same =
    let whole : TreeShown = forwarded noted frame.number (tree_at rules past frame) in
    subst (λ (r : List PortRule). IsToldAs plan (forwarded noted frame.number (tree_at r past frame)) after) is
    (enough.told whole after (made_kept wanted whole after (rules, past, frame, Two noted, refl) (kept_forwarded wanted noted frame.number (tree_at rules past frame) tree after links kept same)))

told_by : (two : Bool) (passes : Passes) (later : Later) (wanted : List ℕ) (plan : Plan) (rules : List PortRule) (past : List Frame) (frame : Frame) (tree after : TreeShown)
    → two_of plan ≡ two → ServesKept wanted two passes later → IsEnough wanted plan → rules ≡ rules_of plan → IsMadeFor wanted (tree_at rules past frame) tree
    → after ≡ with_links (kept_passes wanted passes) frame.number tree → IsToldAs plan (tree_of (job_in plan passes) past frame) after
told_by false One later wanted plan rules past frame tree after two serves enough is made same =
    told_once plan rules past frame tree after is (enough.told (tree_at rules past frame) tree made) same
told_by true (Two noted) later wanted plan rules past frame tree after two serves enough is made same =
    let links : HasFields wanted link_fields = enough.twice two in
    told_again plan rules past frame noted wanted tree after is enough links (made.kept (links_streams wanted links)) same
told_by false (Two noted) Unread wanted plan rules past frame tree after two serves enough is made same = absurd serves
told_by false (Two noted) (Known links) wanted plan rules past frame tree after two serves enough is made same = absurd serves
told_by true One Unread wanted plan rules past frame tree after two serves enough is made same = absurd serves
told_by true One (Known links) wanted plan rules past frame tree after two serves enough is made same = absurd serves

-- by a tree that is made for values alone, where the frames are read once
told_values : (passes : Passes) (later : Later) (wanted : List ℕ) (plan : Plan) (rules : List PortRule) (past : List Frame) (frame : Frame) (tree after : TreeShown)
    → ServesKept wanted false passes later → AreToldByValues wanted plan → rules ≡ rules_of plan → IsSpared wanted (tree_at rules past frame) tree
    → after ≡ with_links (kept_passes wanted passes) frame.number tree → IsToldAs plan (tree_of (job_in plan passes) past frame) after
told_values One later wanted plan rules past frame tree after serves told is spared same =
    told_once plan rules past frame tree after is (told (tree_at rules past frame) tree (rules, past, frame, One, refl) spared) same
told_values (Two noted) Unread wanted plan rules past frame tree after serves told is spared same = absurd serves
told_values (Two noted) (Known links) wanted plan rules past frame tree after serves told is spared same = absurd serves

not_both : (a : Bool) (b : Bool) → (a ≡ true → b ≡ false) → b ≡ true → a ≡ false
not_both true b none is = absurd (true≢false (sym is ∙ none refl))
not_both false b none is = refl

pub frame_told : (passes : Passes) (later : Later) (d : DissectorShown) (plan : Plan) (rules : List PortRule) (past : List Frame) (frame : Frame) (tree after : TreeShown)
    → ServesKept d.wanted (two_of plan) passes later → ServesPlan d plan → rules ≡ rules_of plan → IsSpared d.wanted (tree_at rules past frame) tree
    → (asks_streams d.wanted ≡ true → d.sparing ≡ false → IsKept d.wanted (tree_at rules past frame) tree)
    → ((two : Bool) (p : Passes) → Serves two p later → after ≡ with_links p frame.number tree) → IsToldAs plan (tree_of (job_in plan passes) past frame) after
frame_told passes later d plan rules past frame tree after serves for_plan is spared kept linked = by_kind d.sparing refl
  where
    by_kind : (sparing : Bool) → d.sparing ≡ sparing → IsToldAs plan (tree_of (job_in plan passes) past frame) after
    by_kind false whole =
        told_by (two_of plan) passes later d.wanted plan rules past frame tree after refl serves for_plan.enough is
        (record { of_frame = (rules, past, frame, One, refl); spared = spared; kept = λ asks. kept asks whole })
        (linked (two_of plan) (kept_passes d.wanted passes) serves)
    by_kind true is_sparing =
        let none : (needs_streams plan || two_of plan) ≡ false = not_both (needs_streams plan || two_of plan) d.sparing for_plan.whole is_sparing in
        let once : two_of plan ≡ false = second_false (needs_streams plan) (two_of plan) none in
        told_values passes later d.wanted plan rules past frame tree after (subst (λ (two : Bool). ServesKept d.wanted two passes later) once serves) (for_plan.values is_sparing) is spared
        (linked (two_of plan) (kept_passes d.wanted passes) serves)

-- where nothing is known of later frames, a tree gets no links
unread_links : (tree : TreeShown) (frame : ℕ) (two : Bool) (passes : Passes) → Serves two passes Unread → tree ≡ with_links passes frame tree
unread_links tree frame false One serves = refl
unread_links tree frame false (Two noted) serves = absurd serves
unread_links tree frame true One serves = absurd serves
unread_links tree frame true (Two noted) serves = absurd serves

-- where frames are read once, the tree that was taken of a frame tells it
pub taken_told : (passes : Passes) (later : Later) (old : DissectorShown) (plan : Plan) (past : List Frame) (frame : Frame) (tree : TreeShown) → later ≡ Unread
    → ServesKept old.wanted (two_of plan) passes later → ServesPlan old plan → old.decode.rules ≡ rules_of plan
    → IsSpared old.wanted (tree_at old.decode.rules past frame) tree → (asks_streams old.wanted ≡ true → old.sparing ≡ false → IsKept old.wanted (tree_at old.decode.rules past frame) tree)
    → IsToldAs plan (tree_of (job_in plan passes) past frame) tree
taken_told passes later old plan past frame tree unread serves for_plan is spared kept =
    frame_told passes Unread old plan old.decode.rules past frame tree tree (subst (λ (l : Later). ServesKept old.wanted (two_of plan) passes l) unread serves) for_plan is
    spared kept (unread_links tree frame.number)

-- a frame whose headers answer for it
pub plain_told : (passes : Passes) (later : Later) (old new : DissectorShown) (plan : Plan) (past : List Frame) (frame : Frame) (heads : HeadsShown) → later ≡ Unread
    → ServesKept old.wanted (two_of plan) passes later → ServesPlan old plan → old.decode.rules ≡ rules_of plan → new.wanted ≡ old.wanted → IsTakenPlain old new frame heads
    → StandsWithin past old → IsToldAs plan (tree_of (job_in plan passes) past frame) (heads_tree frame.bytes new.wanted heads)
plain_told passes later old new plan past frame heads unread serves for_plan is kept taken stands =
    subst (λ (wanted : List ℕ). IsToldAs plan (tree_of (job_in plan passes) past frame) (heads_tree frame.bytes wanted heads)) (sym kept)
    (taken_told passes later old plan past frame (heads_tree frame.bytes old.wanted heads) unread serves for_plan is (taken.spared past stands) (λ asks whole. taken.kept asks whole past stands))

-- headers alone get no links, where no later frame names theirs
pub header_others : (layers : List Layer) → Each IsHeaderLayer layers → Each IsOther layers
header_others [] each = tt
header_others (layer ∷ layers) each = (
  record { dns = each.0.dns; http = each.0.http; items = name_none layer.items each.0.items },
  header_others layers each.1,
)
  where
    name_none : (items : List Item) → Each (λ (item : Item). NamesNoFrame item.field) items → Each (λ (item : Item). NamesNone item.field) items
    name_none [] all = tt
    name_none (item ∷ items) all = (record { part = all.0.part; part6 = all.0.part6; segment = all.0.segment }, name_none items all.1)

pub headers_stay : (later : Later) (frame : ℕ) (t : TreeShown) → IsUnnamed later frame → Each IsHeaderLayer t.layers → (two : Bool) (passes : Passes) → Serves two passes later → t ≡ with_links passes frame t
headers_stay Unread frame t unnamed each two passes serves = unread_links t frame two passes serves
headers_stay (Known links) frame t unnamed each true (Two noted) serves = sym (others_stay noted frame t (header_others t.layers each) (unnamed noted serves))
headers_stay (Known links) frame t unnamed each true One serves = absurd serves
headers_stay (Known links) frame t unnamed each false passes serves = absurd (known_once passes serves)
  where
    known_once : (passes : Passes) → Serves false passes (Known links) → ⊥
    known_once One serves = serves
    known_once (Two noted) serves = serves

-- whether its headers answer for it, or it was taken into a tree
pub fed_told : (passes : Passes) (later : Later) (old new : DissectorShown) (plan : Plan) (past : List Frame) (frame : Frame) (by : Taken)
    → ServesKept old.wanted (two_of plan) passes later → ServesPlan old plan → old.decode.rules ≡ rules_of plan → new.wanted ≡ old.wanted → IsTakenBy old new later frame by
    → StandsWithin past old → IsToldAs plan (tree_of (job_in plan passes) past frame) (taken_tree frame new by)
fed_told passes later old new plan past frame (takens.Heads heads) serves for_plan is kept taken stands =
    subst (λ (wanted : List ℕ). IsToldAs plan (tree_of (job_in plan passes) past frame) (heads_tree frame.bytes wanted heads.value)) (sym kept)
    (frame_told passes later old plan old.decode.rules past frame taken.bare (heads_tree frame.bytes old.wanted heads.value) serves for_plan is (taken.spared past stands) (λ asks whole. taken.kept asks whole past stands) taken.linked)
fed_told passes later old new plan past frame (takens.Tree tree) serves for_plan is kept taken stands =
    frame_told passes later old plan old.decode.rules past frame taken.bare tree serves for_plan is (taken.spared past stands) (λ asks whole. taken.kept asks whole past stands) taken.linked

-- a dissector that takes frames goes on to serve
pub serves_on : (old new : DissectorShown) (plan : Plan) → new.wanted ≡ old.wanted → new.sparing ≡ old.sparing → ServesPlan old plan → ServesPlan new plan
serves_on old new plan wanted sparing serves = record {
  enough = subst (λ (fields : List ℕ). IsEnough fields plan) (sym wanted) serves.enough;
  values = λ is. subst (λ (fields : List ℕ). AreToldByValues fields plan) (sym wanted) (serves.values (sym sparing ∙ is));
  whole = λ needs. sparing ∙ serves.whole needs;
}

-- a dissector for trees serves a plan for which its fields are enough
pub serves_trees : (d : DissectorShown) (wanted : List ℕ) (plan : Plan) → IsEnough wanted plan → d.wanted ≡ wanted → d.sparing ≡ false → ServesPlan d plan
serves_trees d wanted plan enough is whole = record {
  enough = subst (λ (fields : List ℕ). IsEnough fields plan) (sym is) enough;
  values = λ sparing. absurd (true≢false (sym sparing ∙ whole));
  whole = λ needs. whole;
}

-- and one for values, where these tell the trees
pub serves_values : (d : DissectorShown) (wanted : List ℕ) (plan : Plan) → IsEnough wanted plan → AreToldByValues wanted plan → asks_trees plan ≡ false → d.wanted ≡ wanted
    → ServesPlan d plan
serves_values d wanted plan enough told none_so is = record {
  enough = subst (λ (fields : List ℕ). IsEnough fields plan) (sym is) enough;
  values = λ sparing. subst (λ (fields : List ℕ). AreToldByValues fields plan) (sym is) told;
  whole = λ needs. absurd (true≢false (sym needs ∙ swapped (two_of plan) (needs_streams plan) none_so));
}
  where
    swapped : (two needs : Bool) → (two || needs) ≡ false → (needs || two) ≡ false
    swapped false false none = refl
    swapped true needs none = absurd (true≢false none)
    swapped false true none = absurd (true≢false none)
