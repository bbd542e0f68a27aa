-- With other numbers of the frames an answer is the same, but for the numbers of the frames that it names.
use Rattle.std.proofs.Common.{◌≡◌, ◌==◌, ℕ, zero, suc, ◌+◌, Bool, true, false, cond, ◌&&◌, ◌||◌, not, List, [], ◌∷◌, ◌++◌, map, find, Option, None, Some, is_some, unwrap_or, refl, sym, ap, ◌∙◌, inl, inr}
use Rattle.std.specs.Option.{option_or, option_map}
use Rattle.std.specs.List.{list_any}
use Rattle.std.specs.FinMap.{get, empty}
use Rattle.std.proofs.lemmas.Bool.{cases_Bool}
use Rattle.std.proofs.lemmas.List.{map-append}
use Rattle.pk_base.specs.declared.heads.FragmentHead.{FragmentHead}
use Rattle.range_bytes.specs.Held.{Cell, Held, put_run, run_cell, byte_of, bytes_at}
use Rattle.range_bytes.proofs.Runs.{get-put_run}
use Rattle.ip_join.specs.declared.joined.ConflictKind.{ConflictKind}
use Rattle.ip_join.specs.declared.joined.ConflictKind.TheVariants.{TooLong, MultipleTails, Overlap6}
use Rattle.ip_join.specs.declared.joined.Joined.{Joined}
use Rattle.ip_join.specs.declared.joined.Joined.TheVariants.{Pending, Whole, Conflict}
use Rattle.ip_join.specs.declared.fragment.Fragment.{Fragment}
use Rattle.ip_join.specs.Keys.{same_key}
use Rattle.ip_join.specs.Fragments.{end_of, overlaps, repeats, reaches_past, put_fragments, map_of, end_after, known_end, holds_below}
use Rattle.ip_join.specs.Datagrams.{is_too_long, misses_end, conflict_of, end_if_held, whole_end, next_of, datagram_of, datagram_if_whole, completed, joined_unless, joined_of}
use Rattle.ip_join.specs.Stands.{left_after, counted_for, joined_by, of_key}
use Rattle.ip_join.specs.Renumbered.{renumbered, answer_renumbered}
use Rattle.ip_join.proofs.StandsLemmas.{counted_for-of_key}

-- the byte of a held position
abbrev byte_there : Option Cell → Option ℕ
byte_there None = None
byte_there (Some cell) = Some cell.0

abbrev HaveSameBytes : Held → Held → Type 0
HaveSameBytes a b = (q : ℕ) → byte_there (get a q) ≡ byte_there (get b q)

byte_or : (o p : Option Cell) → byte_there (option_or o p) ≡ option_or (byte_there o) (byte_there p)
byte_or None p = refl
byte_or (Some cell) p = refl

byte_if : (b : Bool) (byte f g : ℕ) → byte_there (cond b (Some (byte, f)) None) ≡ byte_there (cond b (Some (byte, g)) None)
byte_if true byte f g = refl
byte_if false byte f g = refl

some_there : (o : Option Cell) → is_some o ≡ is_some (byte_there o)
some_there None = refl
some_there (Some cell) = refl

byte_is : (o : Option Cell) → byte_of o ≡ unwrap_or (byte_there o) 0
byte_is None = refl
byte_is (Some cell) = refl

same_run : (a b : Held) (start : ℕ) (bytes : List ℕ) (f g : ℕ) → HaveSameBytes a b → HaveSameBytes (put_run a start bytes f) (put_run b start bytes g)
same_run a b start bytes f g same = λ q.
    ap byte_there (get-put_run a start bytes f q)
    ∙ byte_or (get a q) (run_cell start bytes f q)
    ∙ ap (λ (o : Option ℕ). option_or o (byte_there (run_cell start bytes f q))) (same q)
    ∙ ap (option_or (byte_there (get b q))) (byte_if _ _ f g)
    ∙ sym (byte_or (get b q) (run_cell start bytes g q))
    ∙ sym (ap byte_there (get-put_run b start bytes g q))

same_fragments : (r : ℕ → ℕ) (a b : Held) (gs : List Fragment) → HaveSameBytes a b → HaveSameBytes (put_fragments a gs) (put_fragments b (map (renumbered r) gs))
same_fragments r a b [] same = same
same_fragments r a b (g ∷ gs) same =
    same_fragments r (put_run a g.head.offset g.bytes g.frame) (put_run b g.head.offset g.bytes (r g.frame)) gs (same_run a b g.head.offset g.bytes g.frame (r g.frame) same)

same_maps : (r : ℕ → ℕ) (gs : List Fragment) → HaveSameBytes (map_of gs) (map_of (map (renumbered r) gs))
same_maps r gs = same_fragments r empty empty gs (λ q. refl)

same_below : (a b : Held) → HaveSameBytes a b → (end : ℕ) → holds_below a end ≡ holds_below b end
same_below a b same zero = refl
same_below a b same (suc n) =
    ap (λ (c : Bool). c && holds_below a n) (some_there (get a n) ∙ ap is_some (same n) ∙ sym (some_there (get b n)))
    ∙ ap (λ (c : Bool). is_some (get b n) && c) (same_below a b same n)

same_bytes : (a b : Held) → HaveSameBytes a b → (from n : ℕ) → bytes_at a from n ≡ bytes_at b from n
same_bytes a b same from zero = refl
same_bytes a b same from (suc n) =
    ap (λ (x : ℕ). x ∷ bytes_at a (from + 1) n) (byte_is (get a from) ∙ ap (λ (o : Option ℕ). unwrap_or o 0) (same from) ∙ sym (byte_is (get b from)))
    ∙ ap (λ (xs : List ℕ). byte_of (get b from) ∷ xs) (same_bytes a b same (from + 1) n)

same_end : (r : ℕ → ℕ) (end : Option ℕ) (gs : List Fragment) → end_after end gs ≡ end_after end (map (renumbered r) gs)
same_end r end [] = refl
same_end r end (g ∷ gs) = same_end r (cond g.head.more end (Some (end_of g))) gs

any_same : (r : ℕ → ℕ) (p q : Fragment → Bool) → ((g : Fragment) → p g ≡ q (renumbered r g)) → (gs : List Fragment) → list_any p gs ≡ list_any q (map (renumbered r) gs)
any_same r p q same [] = refl
any_same r p q same (g ∷ gs) = ap (λ (b : Bool). b || list_any p gs) (same g) ∙ ap (λ (b : Bool). q (renumbered r g) || b) (any_same r p q same gs)

misses_same : (r : ℕ → ℕ) (end : Option ℕ) (f : Fragment) → misses_end end f ≡ misses_end end (renumbered r f)
misses_same r None f = refl
misses_same r (Some end) f = refl

-- a conflict by what is known of the fragments before
abbrev conflict_by : Fragment → Bool → Bool → Bool → Bool → Option ConflictKind
conflict_by new missed reached overlapped repeated = cond (is_too_long new) (Some TooLong)
    (cond (missed || (not new.head.more && reached)) (Some MultipleTails)
    (cond (new.head.six && (overlapped && not repeated)) (Some Overlap6) None))

same_conflict : (r : ℕ → ℕ) (gs : List Fragment) (f : Fragment) → conflict_of gs f ≡ conflict_of (map (renumbered r) gs) (renumbered r f)
same_conflict r gs f =
    let other = renumbered r f in
    let bare = map (renumbered r) gs in
    let missed : Bool = misses_end (known_end bare) other in
    let reached : Bool = list_any (reaches_past (end_of other)) bare in
    let overlapped : Bool = list_any (overlaps other) bare in
    ap (λ (b : Bool). conflict_by f b (list_any (reaches_past (end_of f)) gs) (list_any (overlaps f) gs) (list_any (repeats f) gs))
    (ap (λ (end : Option ℕ). misses_end end f) (same_end r None gs) ∙ misses_same r (known_end bare) f)
    ∙ ap (λ (b : Bool). conflict_by f missed b (list_any (overlaps f) gs) (list_any (repeats f) gs)) (any_same r (reaches_past (end_of f)) (reaches_past (end_of other)) (λ g. refl) gs)
    ∙ ap (λ (b : Bool). conflict_by f missed reached b (list_any (repeats f) gs)) (any_same r (overlaps f) (overlaps other) (λ g. refl) gs)
    ∙ ap (conflict_by f missed reached overlapped) (any_same r (repeats f) (repeats other) (λ g. refl) gs)

first_same : (r : ℕ → ℕ) (gs : List Fragment) → option_map (λ (g : Fragment). g.head.next) (find (λ (g : Fragment). g.head.offset == 0) gs) ≡ option_map (λ (g : Fragment). g.head.next) (find (λ (g : Fragment). g.head.offset == 0) (map (renumbered r) gs))
first_same r [] = refl
first_same r (g ∷ gs) = elim (cases_Bool (g.head.offset == 0)) [
  | inl found ↦ rw found refl
  | inr other ↦ rw other (first_same r gs)
]

same_next : (r : ℕ → ℕ) (gs : List Fragment) (head : FragmentHead) → next_of gs head ≡ next_of (map (renumbered r) gs) head
same_next r gs head = ap (λ (o : Option ℕ). cond head.six (unwrap_or o head.next) head.next) (first_same r gs)

frames_gone : (r : ℕ → ℕ) (gs : List Fragment) → map r (map (λ (g : Fragment). g.frame) gs) ≡ map (λ (g : Fragment). g.frame) (map (renumbered r) gs)
frames_gone r [] = refl
frames_gone r (g ∷ gs) = ap (λ (ns : List ℕ). r g.frame ∷ ns) (frames_gone r gs)

same_end_held : (r : ℕ → ℕ) (gs : List Fragment) (end : Option ℕ) → end_if_held gs end ≡ end_if_held (map (renumbered r) gs) end
same_end_held r gs None = refl
same_end_held r gs (Some end) = ap (λ (b : Bool). cond b (Some end) None) (same_below (map_of gs) (map_of (map (renumbered r) gs)) (same_maps r gs) end)

abbrev made : ℕ → List ℕ → List ℕ → Joined
made next bytes frames = Whole (record { next = next; bytes = bytes; frames = frames })

same_datagram : (r : ℕ → ℕ) (gs : List Fragment) (head : FragmentHead) (end : Option ℕ)
    → answer_renumbered r (completed (option_map (datagram_of gs head) end)) ≡ completed (option_map (datagram_of (map (renumbered r) gs) head) end)
same_datagram r gs head None = refl
same_datagram r gs head (Some end) =
    let held = map_of gs in
    let other = map_of (map (renumbered r) gs) in
    ap (λ (n : ℕ). made n (bytes_at held 0 end) (map r (map (λ (g : Fragment). g.frame) gs))) (same_next r gs head)
    ∙ ap (λ (xs : List ℕ). made (next_of (map (renumbered r) gs) head) xs (map r (map (λ (g : Fragment). g.frame) gs))) (same_bytes held other (same_maps r gs) 0 end)
    ∙ ap (made (next_of (map (renumbered r) gs) head) (bytes_at other 0 end)) (frames_gone r gs)

same_completed : (r : ℕ → ℕ) (gs : List Fragment) (head : FragmentHead) → answer_renumbered r (completed (datagram_if_whole gs head)) ≡ completed (datagram_if_whole (map (renumbered r) gs) head)
same_completed r gs head =
    same_datagram r gs head (whole_end gs)
    ∙ ap (λ (end : Option ℕ). completed (option_map (datagram_of (map (renumbered r) gs) head) end))
    (ap (end_if_held gs) (same_end r None gs) ∙ same_end_held r gs (known_end (map (renumbered r) gs)))

same_unless : (r : ℕ → ℕ) (o : Option ConflictKind) (gs : List Fragment) (f : Fragment) → answer_renumbered r (joined_unless o gs f) ≡ joined_unless o (map (renumbered r) gs) (renumbered r f)
same_unless r (Some kind) gs f = refl
same_unless r None gs f =
    same_completed r (gs ++ f ∷ []) f.head
    ∙ ap (λ (all : List Fragment). completed (datagram_if_whole all f.head)) (map-append (renumbered r) gs (f ∷ []))

same_joined : (r : ℕ → ℕ) (gs : List Fragment) (f : Fragment) → answer_renumbered r (joined_of gs f) ≡ joined_of (map (renumbered r) gs) (renumbered r f)
unfolding joined_of
same_joined r gs f =
    same_unless r (conflict_of gs f) gs f
    ∙ ap (λ (o : Option ConflictKind). joined_unless o (map (renumbered r) gs) (renumbered r f)) (same_conflict r gs f)

same_left : (r : ℕ → ℕ) (joined : Joined) (gs : List Fragment) → map (renumbered r) (left_after joined gs) ≡ left_after (answer_renumbered r joined) (map (renumbered r) gs)
same_left r Pending gs = refl
same_left r (Whole datagram) gs = refl
same_left r (Conflict kind) gs = refl

same_step : (r : ℕ → ℕ) (b : Bool) (gs others : List Fragment) (g : Fragment) → map (renumbered r) gs ≡ others
    → map (renumbered r) (cond b (left_after (joined_of gs g) (gs ++ g ∷ [])) gs) ≡ cond b (left_after (joined_of others (renumbered r g)) (others ++ renumbered r g ∷ [])) others
same_step r false gs others g same = same
same_step r true gs others g same =
    same_left r (joined_of gs g) (gs ++ g ∷ [])
    ∙ ap (λ (j : Joined). left_after j (map (renumbered r) (gs ++ g ∷ []))) (same_joined r gs g)
    ∙ ap (left_after (joined_of (map (renumbered r) gs) (renumbered r g))) (map-append (renumbered r) gs (g ∷ []))
    ∙ ap (λ (hs : List Fragment). left_after (joined_of hs (renumbered r g)) (hs ++ renumbered r g ∷ [])) same

same_counted : (r : ℕ → ℕ) (f : Fragment) (past : List Fragment) → map (renumbered r) (counted_for f past) ≡ counted_for (renumbered r f) (map (renumbered r) past)
same_counted r f [] = refl
same_counted r f (g ∷ past) = same_step r (same_key g.head f.head) (counted_for f past) (counted_for (renumbered r f) (map (renumbered r) past)) g (same_counted r f past)

renumbered-by : (r : ℕ → ℕ) (past : List Fragment) (f : Fragment) → answer_renumbered r (joined_by past f) ≡ joined_of (counted_for (renumbered r f) (map (renumbered r) (of_key f.head past))) (renumbered r f)
unfolding joined_by
renumbered-by r past f =
    ap (λ (gs : List Fragment). answer_renumbered r (joined_of gs f)) (sym (counted_for-of_key f past))
    ∙ same_joined r (counted_for f (of_key f.head past)) f
    ∙ ap (λ (gs : List Fragment). joined_of gs (renumbered r f)) (same_counted r f (of_key f.head past))

-- whatever else was taken, two answers are the same where their fragments are, once both have other numbers of frames
pub joined_by-renumbered : (one other : ℕ → ℕ) (past others : List Fragment) (f g : Fragment) → renumbered one f ≡ renumbered other g → f.head ≡ g.head
    → map (renumbered one) (of_key f.head past) ≡ map (renumbered other) (of_key f.head others)
    → answer_renumbered one (joined_by past f) ≡ answer_renumbered other (joined_by others g)
joined_by-renumbered one other past others f g same head alike =
    renumbered-by one past f
    ∙ ap (λ (gs : List Fragment). joined_of (counted_for (renumbered one f) gs) (renumbered one f)) alike
    ∙ ap (λ (h : Fragment). joined_of (counted_for h (map (renumbered other) (of_key f.head others))) h) same
    ∙ ap (λ (k : FragmentHead). joined_of (counted_for (renumbered other g) (map (renumbered other) (of_key k others))) (renumbered other g)) head
    ∙ sym (renumbered-by other others g)
