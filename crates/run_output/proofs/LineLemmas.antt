-- Lines that ask for no numbers rest on a frame's own datagrams and conversation.
use Rattle.std.proofs.Common.{◌≡◌, ◌==◌, ℕ, zero, suc, Bool, true, false, cond, List, [], ◌∷◌, ◌++◌, append-nil, length, map, Option, None, Some, refl, sym, ap, ◌∙◌, inl, inr, if◌then◌else◌}
use Rattle.std.proofs.lemmas.Bool.{cases_Bool}
use Rattle.std.specs.List.{list_any}
use Rattle.capture_read.specs.declared.frame.Frame.{Frame}
use Rattle.capture_write.specs.declared.format.Format.{Format}
use Rattle.dissect.specs.Followed.{HasSameValues}
use Rattle.dissect.specs.Numbering.{DatagramsStay, HasNoNumbering, IsSameButNumbers, OthersTakenOut, frame_renumbered, staying}
use Rattle.dissect.specs.Trees.{tree_at}
use Rattle.pk_base.specs.declared.value.Value.TheVariants as values
use Rattle.pk_fields.specs.FieldSets.{is_in}
use Rattle.pk_fields.specs.Ids.{DNS, DNS_RESPONSE_IN, HTTP, HTTP_RESPONSE_IN, IP, IP_REASSEMBLED_IN, IPV6_FRAGHDR, IPV6_REASSEMBLED_IN, TCP, TCP_REASSEMBLED_IN}
use Rattle.pk_tree.specs.FieldValues.{values_of}
use Rattle.pk_tree.specs.declared.item.Item.{Item}
use Rattle.pk_tree.specs.declared.layer.Layer.{Layer}
use Rattle.pk_tree.specs.Trees.{TreeShown, kept, kept_layer, kept_tree, made_of}
use Rattle.pk_tree.proofs.KeptLemmas.{kept-push}
use Rattle.pk_tree.proofs.KeptValues.{values_same}
use Rattle.second_pass.specs.Forward.{forwarded_to, is_asking, is_part, link_in, link_of, linked, with_link}
use Rattle.second_pass.specs.Named.{Noted}
use Rattle.run_frames.specs.declared.plan.Plan.{Plan}
use Rattle.run_frames.specs.Accessors.{rules_of, written_of}
use Rattle.run_frames.specs.Job.{Job, Passes, One, Two, with_links}
use Rattle.run_frames.specs.Pieces.{piece, piece_by, pieces_of, shown}
use Rattle.run_frames.specs.Trees.{tree_of}
use Rattle.run_output.specs.LineLaws.{LinesButNumbers, OthersLinesTakenOut, TheirOwnStay, lines_staying}
use Rattle.run_output.proofs.EnoughLemmas.{shown_same}

-- ---- links to later frames are numbers of frames

IsNoneOf : List ℕ → Option (ℕ × ℕ) → Type 0
IsNoneOf wanted None = Unit {0}
IsNoneOf wanted (Some link) = is_in wanted link.0 ≡ false

none_if : (wanted : List ℕ) (test : Bool) (one other : Option (ℕ × ℕ)) → IsNoneOf wanted one → IsNoneOf wanted other → IsNoneOf wanted (if test then one else other)
unfolding IsNoneOf
none_if wanted true one other first second = first
none_if wanted false one other first second = second

none_in : (wanted : List ℕ) (field : ℕ) (frame : Option ℕ) → is_in wanted field ≡ false → IsNoneOf wanted (link_in field frame)
unfolding IsNoneOf
none_in wanted field None out = tt
none_in wanted field (Some frame) out = out

no_link : (wanted : List ℕ) → IsNoneOf wanted None
unfolding IsNoneOf
no_link wanted = tt

none_of_layer : (wanted : List ℕ) (past : List Noted) (frame : ℕ) (followed : Bool) (layer : Layer) → HasNoNumbering wanted → IsNoneOf wanted (link_of past frame followed layer)
none_of_layer wanted past frame followed layer none =
    none_if wanted (layer.proto == DNS) _ _ (none_in wanted DNS_RESPONSE_IN _ none.1.1.1.1.1.1.1.1.1.1.1.1.0)
    (none_if wanted (layer.proto == HTTP) _ _
    (none_if wanted (is_asking _) _ None (none_in wanted HTTP_RESPONSE_IN _ none.1.1.1.1.1.1.1.1.1.1.1.1.1.1.0) (no_link wanted))
    (none_if wanted (layer.proto == TCP) _ _
    (none_if wanted (layer.nth == 1) _ None (none_in wanted TCP_REASSEMBLED_IN _ none.1.1.1.1.1.1.1.1.1.1.0) (no_link wanted))
    (none_if wanted followed None _ (no_link wanted)
    (none_if wanted (layer.proto == IP) _ _ (none_in wanted IP_REASSEMBLED_IN _ none.1.1.1.1.0)
    (none_if wanted (layer.proto == IPV6_FRAGHDR) _ None (none_in wanted IPV6_REASSEMBLED_IN _ none.1.1.1.1.1.1.0) (no_link wanted))))))

unlinked : (wanted : List ℕ) (layer : Layer) (link : Option (ℕ × ℕ)) → IsNoneOf wanted link → kept_layer wanted (with_link layer link) ≡ kept_layer wanted layer
unfolding IsNoneOf
unlinked wanted layer None out = refl
unlinked wanted layer (Some link) out =
    let item : Item = made_of link.0 (values.Uint link.1) in
    ap (λ (items : List Item). record layer { items = items })
    (kept-push wanted layer.items item ∙ ap (λ (test : Bool). cond test (kept wanted layer.items ++ item ∷ []) (kept wanted layer.items)) out)

all_unlinked : (wanted : List ℕ) (past : List Noted) (frame count : ℕ) (layers : List Layer) → HasNoNumbering wanted → map (kept_layer wanted) (linked past frame count layers) ≡ map (kept_layer wanted) layers
all_unlinked wanted past frame zero layers none = refl
all_unlinked wanted past frame (suc count) [] none = refl
all_unlinked wanted past frame (suc count) (layer ∷ layers) none =
    ap (λ (first : Layer). first ∷ map (kept_layer wanted) (linked past frame count layers))
    (unlinked wanted layer (link_of past frame (list_any is_part layers) layer) (none_of_layer wanted past frame (list_any is_part layers) layer none))
    ∙ ap (λ (rest : List Layer). kept_layer wanted layer ∷ rest) (all_unlinked wanted past frame count layers none)

passes_aside : (wanted : List ℕ) (passes : Passes) (frame : ℕ) (t : TreeShown) → HasNoNumbering wanted → kept_tree wanted (with_links passes frame t) ≡ kept_tree wanted t
unfolding forwarded_to
passes_aside wanted One frame t none = refl
passes_aside wanted (Two noted) frame t none =
    ap (λ (layers : List Layer). record { layers = layers; buffers = t.buffers; wanted = wanted }) (all_unlinked wanted noted frame (length t.layers) t.layers none)

-- ---- a line

tree_kept : (wanted : List ℕ) (job other : Job) (r : ℕ → ℕ) (past others : List Frame) (frame : Frame) → HasNoNumbering wanted → other.plan ≡ job.plan
    → IsSameButNumbers (rules_of job.plan) r past others frame
    → kept_tree wanted (tree_of other others (frame_renumbered r frame)) ≡ kept_tree wanted (tree_of job past frame)
tree_kept wanted job other r past others frame none same but =
    passes_aside wanted other.passes (r frame.number) (tree_at (rules_of other.plan) others (frame_renumbered r frame)) none
    ∙ ap (λ (plan : Plan). kept_tree wanted (tree_at (rules_of plan) others (frame_renumbered r frame))) same
    ∙ but.tree wanted none
    ∙ sym (passes_aside wanted job.passes frame.number (tree_at (rules_of job.plan) past frame) none)

values_alike : (wanted : List ℕ) (t u : TreeShown) → kept_tree wanted u ≡ kept_tree wanted t → HasSameValues wanted t u
values_alike wanted t u same = λ field layers is.
    sym (values_same wanted u field layers is) ∙ ap (λ (v : TreeShown). values_of v field layers) same ∙ values_same wanted t field layers is

pub lines_but_numbers : OthersTakenOut → LinesButNumbers
lines_but_numbers taken_out wanted job other r stays past frame asks same datagrams own =
    let t : TreeShown = tree_of job past frame in
    let u : TreeShown = tree_of other (staying stays r past) (frame_renumbered r frame) in
    let kept_alike : kept_tree wanted u ≡ kept_tree wanted t =
    tree_kept wanted job other r past (staying stays r past) frame asks.none same (taken_out (rules_of job.plan) r stays past frame datagrams own.fragments own.segments) in
    ap (λ (plan : Plan). piece_by (written_of plan) other (staying stays r past) (frame_renumbered r frame)) same
    ∙ ap (λ (written : Option Format). piece_by written other (staying stays r past) (frame_renumbered r frame)) asks.lines
    ∙ ap (λ (plan : Plan). shown plan u) same
    ∙ shown_same wanted job.plan t u (values_alike wanted t u kept_alike) asks.columns asks.asked
    ∙ sym (ap (λ (written : Option Format). piece_by written job past frame) asks.lines)

-- ---- all lines

datagrams_stay : (r : ℕ → ℕ) (stays : Frame → Bool) (past : List Frame) → TheirOwnStay r stays past → DatagramsStay stays past
datagrams_stay r stays [] own = tt
datagrams_stay r stays (frame ∷ past) own = (λ here. (own.0 here).fragments, datagrams_stay r stays past own.1)

pub lines_taken_out : OthersTakenOut → OthersLinesTakenOut
lines_taken_out taken_out wanted job other r stays [] asks same own = refl
lines_taken_out taken_out wanted job other r stays (frame ∷ past) asks same own =
    let before : pieces_of other (staying stays r past) ≡ lines_staying job stays past = lines_taken_out taken_out wanted job other r stays past asks same own.1 in
    elim (cases_Bool (stays frame)) [
      | inl here ↦
          rw here
          (ap (λ (lines : List ℕ). lines ++ piece other (staying stays r past) (frame_renumbered r frame)) before
          ∙ ap (λ (line : List ℕ). lines_staying job stays past ++ line)
          (lines_but_numbers taken_out wanted job other r stays past frame asks same (datagrams_stay r stays past own.1) (own.0 here)))
      | inr gone ↦ rw gone (before ∙ sym (append-nil (lines_staying job stays past)))
    ]
