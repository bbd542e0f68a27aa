-- Steps that are taken one by one.
use Rattle.std.proofs.Common.{◌≡◌, ℕ, suc, ◌+◌, ◌-◌, ◌<◌, ◌≤◌, Bool, true, false, if◌then◌else◌, List, [], ◌∷◌, ◌++◌, map, Option, Some, None, refl, sym, ap, ◌∙◌, arith, append_assoc, append-nil, length, drop, get_or, drop-cons, add-one}
use Rattle.pk_base.specs.declared.span.Span.{Span}
use Rattle.pk_fields.specs.Fields.{row_of}
use Rattle.pk_fields.specs.FieldSets.{is_in}
use Rattle.pk_fields.specs.declared.value_kind.ValueKind.{ValueKind}
use Rattle.pk_fields.specs.declared.value_kind.ValueKind.TheVariants as kinds
use Rattle.pk_base.specs.declared.heads.Mode.{Mode}
use Rattle.pk_tree.specs.declared.item.Item.{Item}
use Rattle.pk_tree.specs.declared.layout.Reach.{Reach}
use Rattle.pk_tree.specs.declared.layout.Reach.TheVariants.{All, Short, Failed}
use Rattle.pk_tree.specs.declared.layout.Step.{Step}
use Rattle.pk_tree.specs.declared.layout.Step.TheVariants.{Row, Part, Whole, Derived, Made, Check, Room}
use Rattle.pk_base.specs.declared.value.Value.{Value}
use Rattle.pk_base.specs.declared.value.Value.TheVariants as values
use Rattle.pk_tree.specs.Entries.{Entry, goes_on, ends, then_on, repeated}
use Rattle.pk_tree.specs.Layouts.{StepFits, StepsFit, items_after, items_read, layer_read, reach, reach_after, step_items, step_reach, within}
use Rattle.pk_tree.specs.Trees.{TreeShown, derived_of, kept, with_layer}
use Rattle.pk_tree.specs.Values.{IsOfKind}
use Rattle.pk_tree.proofs.KeptLemmas.{kept-append}
use Rattle.dis_dns.specs.declared.steps.Taken.{Taken}
use Rattle.dis_dns.specs.declared.steps.Taken.TheVariants as takens
use Rattle.dis_dns.specs.Collected.{StepsShown, FitsTaken, HoldsSteps, IsTaken, Takes, Took, TookEntry, is_plain, no_steps, shown_step, shown_value, with_step, with_steps}

pub with_steps_append : (s : StepsShown) (xs ys : List Step) → with_steps s (xs ++ ys) ≡ with_steps (with_steps s xs) ys
unfolding with_steps
with_steps_append s [] ys = refl
with_steps_append s (x ∷ xs) ys = with_steps_append (with_step s x) xs ys

-- where they are kept
pub kept_list : (s : StepsShown) (steps : List Step) → s.keeps ≡ true → with_steps s steps ≡ record s { list = s.list ++ map (shown_step s.wanted) steps }
unfolding with_steps with_step
kept_list s [] keeps = ap (λ (list : List Step). record s { list = list }) (sym (append-nil s.list))
kept_list s (x ∷ xs) keeps =
    let one : with_step s x ≡ record s { list = s.list ++ shown_step s.wanted x ∷ [] } = rw keeps refl in
    rw one (kept_list (record s { list = s.list ++ shown_step s.wanted x ∷ [] }) xs keeps
    ∙ ap (λ (list : List Step). record s { list = list }) (append_assoc s.list (shown_step s.wanted x ∷ []) (map (shown_step s.wanted) xs)))

-- where they aren't
after_twice : (a b c : Reach) → reach_after (reach_after a b) c ≡ reach_after a (reach_after b c)
after_twice All b c = refl
after_twice Short b c = refl
after_twice Failed b c = refl

after_all : (r : Reach) → reach_after r All ≡ r
after_all All = refl
after_all Short = refl
after_all Failed = refl

pub passed_reach : (s : StepsShown) (steps : List Step) → s.keeps ≡ false → with_steps s steps ≡ record s { reach = reach_after s.reach (reach s.end steps) }
unfolding with_steps with_step reach
passed_reach s [] keeps = ap (λ (r : Reach). record s { reach = r }) (sym (after_all s.reach))
passed_reach s (x ∷ xs) keeps =
    let one : with_step s x ≡ record s { reach = reach_after s.reach (step_reach s.end x) } = rw keeps refl in
    rw one (passed_reach (record s { reach = reach_after s.reach (step_reach s.end x) }) xs keeps
    ∙ ap (λ (r : Reach). record s { reach = r }) (after_twice s.reach (step_reach s.end x) (reach s.end xs)))

pub holds_taken : (wanted : List ℕ) (keeps : Bool) (end : ℕ) (steps : List Step) (s : StepsShown) (taken : Taken) → s ≡ with_steps (no_steps wanted keeps end) steps → IsTaken s taken → HoldsSteps wanted end steps taken
holds_taken wanted true end steps s (takens.List list) is taken =
    taken.1 ∙ ap (λ (u : StepsShown). u.list) (is ∙ kept_list (no_steps wanted true end) steps refl)
holds_taken wanted false end steps s (takens.List list) is taken =
    let off : s.keeps ≡ false = ap (λ (u : StepsShown). u.keeps) (is ∙ passed_reach (no_steps wanted false end) steps refl) in
    absurd (cc)
holds_taken wanted true end steps s (takens.Reach r) is taken =
    let on : s.keeps ≡ true = ap (λ (u : StepsShown). u.keeps) (is ∙ kept_list (no_steps wanted true end) steps refl) in
    absurd (cc)
holds_taken wanted false end steps s (takens.Reach r) is taken =
    taken.1 ∙ ap (λ (u : StepsShown). u.reach) (is ∙ passed_reach (no_steps wanted false end) steps refl)

-- a step other than a name is kept as it is
pub plain_shown : (wanted : List ℕ) (step : Step) → is_plain step ≡ true → shown_step wanted step ≡ step
plain_shown wanted (Row field at) plain = refl
plain_shown wanted (Part field at len) plain = refl
plain_shown wanted (Whole field at len) plain = refl
plain_shown wanted (Derived field value at len) plain = absurd (cc)
plain_shown wanted (Made field value) plain = refl
plain_shown wanted (Check holds) plain = refl
plain_shown wanted (Room room) plain = refl

-- an entry that was taken, then what follows it
pub onto : StepsShown → Entry → StepsShown × Option ℕ
onto s entry = (with_steps s entry.steps, entry.next)

takes_on : (old new : StepsShown) (entry : Entry) (at : ℕ) (more : ℕ → Entry) → Takes old new entry (Some at) → onto old (then_on entry more) ≡ onto new (more at)
unfolding onto
takes_on old new entry at more takes =
    rw (← takes.next, takes.steps) (ap (λ (s : StepsShown). (s, (more at).next)) (with_steps_append old entry.steps (more at).steps))

takes_end : (old new : StepsShown) (entry : Entry) (more : ℕ → Entry) → Takes old new entry None → onto old (then_on entry more) ≡ (new, None)
unfolding onto
takes_end old new entry more takes = rw (← takes.next, takes.steps) refl

repeated_suc : (n : ℕ) (one : ℕ → Entry) (at : ℕ) → repeated (suc n) one at ≡ then_on (one at) (repeated n one)
unfolding repeated
repeated_suc n one at = refl

-- a loop that takes entries: one more, after which reading goes on
loop_step : (one : ℕ → Entry) (count done at next : ℕ) (old new : StepsShown) (whole : StepsShown × Option ℕ) → onto old (repeated (count - done) one at) ≡ whole → done < count → Takes old new (one at) (Some next) →
    onto new (repeated (count - (done + 1)) one next) ≡ whole
loop_step one count done at next old new whole goes more takes =
    let left : count - done ≡ suc (count - (done + 1)) = omega arith in
    let step : onto old (repeated (count - done) one at) ≡ onto new (repeated (count - (done + 1)) one next) =
    rw (left, repeated_suc (count - (done + 1)) one at) (takes_on old new (one at) next (repeated (count - (done + 1)) one) takes) in
    sym step ∙ goes

-- one more, after which it ends
loop_stop : (one : ℕ → Entry) (count done at : ℕ) (first old new : StepsShown) (whole : Entry) → onto old (repeated (count - done) one at) ≡ onto first whole → done < count → Takes old new (one at) None →
    Takes first new whole None
unfolding onto
loop_stop one count done at first old new whole goes more takes =
    let left : count - done ≡ suc (count - (done + 1)) = omega arith in
    let stop : onto old (repeated (count - done) one at) ≡ (new, None) =
    rw (left, repeated_suc (count - (done + 1)) one at) (takes_end old new (one at) (repeated (count - (done + 1)) one) takes) in
    let same : (new, None) ≡ onto first whole = sym stop ∙ goes in
    record { steps = ap (λ (p : StepsShown × Option ℕ). p.0) same; next = ap (λ (p : StepsShown × Option ℕ). p.1) same }

-- as many as there may be
loop_done : (one : ℕ → Entry) (count done at : ℕ) (first new : StepsShown) (whole : Entry) → onto new (repeated (count - done) one at) ≡ onto first whole → count ≤ done →
    Takes first new whole (Some at)
unfolding onto repeated with_steps
loop_done one count done at first new whole goes most =
    let none : count - done ≡ 0 = omega arith in
    let same : (new, Some at) ≡ onto first whole = rw none at goes in
    record { steps = ap (λ (p : StepsShown × Option ℕ). p.0) same; next = ap (λ (p : StepsShown × Option ℕ). p.1) same }

-- where memory isn't spent at the end, it wasn't before
spent_if : (b : Bool) (s : StepsShown) (list : List Step) (r : Reach) → (if b then record s { list = list } else record s { reach = r }).spent ≡ s.spent
spent_if true s list r = refl
spent_if false s list r = refl

spent_step : (s : StepsShown) (step : Step) → (with_step s step).spent ≡ s.spent
unfolding with_step
spent_step s step = spent_if s.keeps s (s.list ++ shown_step s.wanted step ∷ []) (reach_after s.reach (step_reach s.end step))

spent_steps : (s : StepsShown) (steps : List Step) → (with_steps s steps).spent ≡ s.spent
unfolding with_steps
spent_steps s [] = refl
spent_steps s (x ∷ xs) = spent_steps (with_step s x) xs ∙ spent_step s x

unspent : (old new : StepsShown) (steps : List Step) → new ≡ with_steps old steps → new.spent ≡ false → old.spent ≡ false
unspent old new steps is kept = sym (spent_steps old steps) ∙ sym (ap (λ (s : StepsShown). s.spent) is) ∙ kept

-- nothing, then more
pub took_none : (s : StepsShown) → Took s s []
unfolding with_steps
took_none s = record { all = λ _. refl }

pub took_then : (old mid new : StepsShown) (xs ys : List Step) → Took old mid xs → Took mid new ys → Took old new (xs ++ ys)
took_then old mid new xs ys first second = record {
  all = λ kept.
      let last : new ≡ with_steps mid ys = second.all kept in
      let before : mid ≡ with_steps old xs = first.all (unspent mid new ys last kept) in
      last ∙ ap (λ (s : StepsShown). with_steps s ys) before ∙ sym (with_steps_append old xs ys);
}

pub spent_took : (old new : StepsShown) (steps : List Step) → new.spent ≡ true → Took old new steps
spent_took old new steps spent = record { all = λ kept. absurd (cc) }

-- a loop over rows: behind some of them, what is left leads where all do
pub rows_left : (old new whole : StepsShown) (taken rest : List Step) → Took old new taken → (old.spent ≡ false → with_steps old (taken ++ rest) ≡ whole) → new.spent ≡ false → with_steps new rest ≡ whole
rows_left old new whole taken rest took goes kept =
    let is : new ≡ with_steps old taken = took.all kept in
    ap (λ (s : StepsShown). with_steps s rest) is ∙ sym (with_steps_append old taken rest) ∙ goes (unspent old new taken is kept)

pub rows_cut : (rows : List (ℕ × ℕ)) (at : ℕ) (row : ℕ × ℕ) → at < length rows → row ≡ get_or rows at row → drop at rows ≡ row ∷ drop (at + 1) rows
rows_cut rows at row more is = rw add-one (drop-cons rows at row more ∙ ap (λ (first : ℕ × ℕ). first ∷ drop (suc at) rows) (sym is))

-- all of them
pub rows_done : (first now : StepsShown) (steps : List Step) → (now.spent ≡ false → with_steps now [] ≡ with_steps first steps) → Took first now steps
unfolding with_steps
rows_done first now steps goes = record { all = goes }

-- entries
pub spent_entry : (old new : StepsShown) (entry : Entry) (answer : Option ℕ) → new.spent ≡ true → TookEntry old new entry answer
spent_entry old new entry answer spent = record { all = λ kept. absurd (cc) }

pub took_on : (old new : StepsShown) (steps : List Step) (at : ℕ) → Took old new steps → TookEntry old new (goes_on steps at) (Some at)
took_on old new steps at took = record { all = λ kept. record { steps = took.all kept; next = refl } }

pub took_last : (old new : StepsShown) (steps : List Step) → Took old new steps → TookEntry old new (ends steps) None
took_last old new steps took = record { all = λ kept. record { steps = took.all kept; next = refl } }

pub steps_of : (old new : StepsShown) (entry : Entry) (answer : Option ℕ) → TookEntry old new entry answer → Took old new entry.steps
steps_of old new entry answer took = record { all = λ kept. (took.all kept).steps }

pub entry_then : (old mid new : StepsShown) (entry : Entry) (more : ℕ → Entry) (at : ℕ) (answer : Option ℕ) → TookEntry old mid entry (Some at) → TookEntry mid new (more at) answer → TookEntry old new (then_on entry more) answer
unfolding onto
entry_then old mid new entry more at answer first second = record {
  all = λ kept.
      let last : Takes mid new (more at) answer = second.all kept in
      let before : Takes old mid entry (Some at) = first.all (unspent mid new (more at).steps last.steps kept) in
      let same : onto old (then_on entry more) ≡ onto mid (more at) = takes_on old mid entry at more before in
      record {
        steps = last.steps ∙ sym (ap (λ (p : StepsShown × Option ℕ). p.0) same);
        next = last.next ∙ sym (ap (λ (p : StepsShown × Option ℕ). p.1) same);
      };
}

pub steps_then : (old mid new : StepsShown) (entry : Entry) (more : ℕ → Entry) (at : ℕ) → TookEntry old mid entry (Some at) → Took mid new (more at).steps → Took old new (then_on entry more).steps
unfolding onto
steps_then old mid new entry more at first second = record {
  all = λ kept.
      let last : new ≡ with_steps mid (more at).steps = second.all kept in
      let before : Takes old mid entry (Some at) = first.all (unspent mid new (more at).steps last kept) in
      let same : onto old (then_on entry more) ≡ onto mid (more at) = takes_on old mid entry at more before in
      last ∙ sym (ap (λ (p : StepsShown × Option ℕ). p.0) same);
}

pub entry_ends : (old new : StepsShown) (entry : Entry) (more : ℕ → Entry) → TookEntry old new entry None → TookEntry old new (then_on entry more) None
unfolding onto
entry_ends old new entry more took = record {
  all = λ kept.
      let same : onto old (then_on entry more) ≡ (new, None) = takes_end old new entry more (took.all kept) in
      record {
        steps = sym (ap (λ (p : StepsShown × Option ℕ). p.0) same);
        next = sym (ap (λ (p : StepsShown × Option ℕ). p.1) same);
      };
}

-- the loop, where memory isn't spent
pub loop_took : (one : ℕ → Entry) (count done at next : ℕ) (old new : StepsShown) (whole : StepsShown × Option ℕ) → (old.spent ≡ false → onto old (repeated (count - done) one at) ≡ whole) → done < count → TookEntry old new (one at) (Some next) →
    new.spent ≡ false → onto new (repeated (count - (done + 1)) one next) ≡ whole
loop_took one count done at next old new whole goes more took kept =
    let takes : Takes old new (one at) (Some next) = took.all kept in
    loop_step one count done at next old new whole (goes (unspent old new (one at).steps takes.steps kept)) more takes

pub loop_ends : (one : ℕ → Entry) (count done at : ℕ) (first old new : StepsShown) (whole : Entry) → (old.spent ≡ false → onto old (repeated (count - done) one at) ≡ onto first whole) → done < count → TookEntry old new (one at) None →
    TookEntry first new whole None
loop_ends one count done at first old new whole goes more took = record {
  all = λ kept.
      let takes : Takes old new (one at) None = took.all kept in
      loop_stop one count done at first old new whole (goes (unspent old new (one at).steps takes.steps kept)) more takes;
}

pub loop_all : (one : ℕ → Entry) (count done at : ℕ) (first new : StepsShown) (whole : Entry) → (new.spent ≡ false → onto new (repeated (count - done) one at) ≡ onto first whole) → count ≤ done →
    TookEntry first new whole (Some at)
loop_all one count done at first new whole goes most = record { all = λ kept. loop_done one count done at first new whole (goes kept) most }

-- a layer reads the same where names that aren't wanted have no text
step_same : (wanted : List ℕ) (end : ℕ) (step : Step) → step_reach end (shown_step wanted step) ≡ step_reach end step
unfolding step_reach
step_same wanted end (Row field at) = refl
step_same wanted end (Part field at len) = refl
step_same wanted end (Whole field at len) = refl
step_same wanted end (Derived field value at len) = refl
step_same wanted end (Made field value) = refl
step_same wanted end (Check holds) = refl
step_same wanted end (Room room) = refl

same_reach : (wanted : List ℕ) (end : ℕ) (steps : List Step) → reach end (map (shown_step wanted) steps) ≡ reach end steps
unfolding reach
same_reach wanted end [] = refl
same_reach wanted end (x ∷ xs) = rw (same_reach wanted end xs, step_same wanted end x) refl

shown_true : (value : Value) → shown_value true value ≡ value
shown_true (values.Uint number) = refl
shown_true (values.Bool truth) = refl
shown_true (values.Bytes bytes) = refl
shown_true (values.Text text) = refl
shown_true (values.Ether address) = refl
shown_true (values.Ip4 address) = refl
shown_true (values.Ip6 address) = refl
shown_true (values.Time time) = refl
shown_true (values.Proto bytes) = refl

module _ (wanted : List ℕ) (buffers : List (List ℕ)) (span : Span) where
  same_derived : (field at len : ℕ) (value : Value) (test : Bool) → is_in wanted field ≡ test →
      kept wanted (derived_of field (shown_value (is_in wanted field) value) (within span at len) ∷ []) ≡ kept wanted (derived_of field value (within span at len) ∷ [])
  unfolding kept
  same_derived field at len value true is = rw (is, shown_true value) refl
  same_derived field at len value false is = rw is refl

  same_step : (step : Step) → kept wanted (step_items buffers span (shown_step wanted step)) ≡ kept wanted (step_items buffers span step)
  unfolding step_items
  same_step (Row field at) = refl
  same_step (Part field at len) = refl
  same_step (Whole field at len) = refl
  same_step (Derived field value at len) = same_derived field at len value (is_in wanted field) refl
  same_step (Made field value) = refl
  same_step (Check holds) = refl
  same_step (Room room) = refl

  same_after : (r : Reach) (xs ys : List Item) → kept wanted xs ≡ kept wanted ys → kept wanted (items_after r xs) ≡ kept wanted (items_after r ys)
  same_after All xs ys same = same
  same_after Short xs ys same = refl
  same_after Failed xs ys same = refl

  same_items : (steps : List Step) → kept wanted (items_read buffers span (map (shown_step wanted) steps)) ≡ kept wanted (items_read buffers span steps)
  unfolding items_read
  same_items [] = refl
  same_items (x ∷ xs) =
      rw (step_same wanted span.len x)
      (same_after (step_reach span.len x) (step_items buffers span (shown_step wanted x) ++ items_read buffers span (map (shown_step wanted) xs)) (step_items buffers span x ++ items_read buffers span xs)
      (rw (kept-append wanted (step_items buffers span (shown_step wanted x)) (items_read buffers span (map (shown_step wanted) xs)), kept-append wanted (step_items buffers span x) (items_read buffers span xs), same_step x, same_items xs) refl))

pub same_layer : (t : TreeShown) (proto : ℕ) (span : Span) (steps : List Step) (mode : Mode) (cut : Bool) → layer_read t proto span (map (shown_step t.wanted) steps) mode cut ≡ layer_read t proto span steps mode cut
unfolding layer_read with_layer
same_layer t proto span steps mode cut =
    rw (same_reach t.wanted span.len steps, same_items t.wanted t.buffers span steps) refl

text_kind : (kind : ValueKind) (text other : List ℕ) → IsOfKind kind (values.Text text) → IsOfKind kind (values.Text other)
text_kind (kinds.Uint width) text other is = is
text_kind kinds.Bool text other is = is
text_kind kinds.Bytes text other is = is
text_kind kinds.Text text other is = tt
text_kind kinds.Ether text other is = is
text_kind kinds.Ip4 text other is = is
text_kind kinds.Ip6 text other is = is
text_kind kinds.Time text other is = is
text_kind kinds.Proto text other is = is

shown_kind : (kind : ValueKind) (shown : Bool) (value : Value) → IsOfKind kind value → IsOfKind kind (shown_value shown value)
shown_kind kind shown (values.Uint number) is = is
shown_kind kind shown (values.Bool truth) is = is
shown_kind kind shown (values.Bytes bytes) is = is
shown_kind kind shown (values.Text text) is = text_kind kind text (if shown then text else []) is
shown_kind kind shown (values.Ether address) is = is
shown_kind kind shown (values.Ip4 address) is = is
shown_kind kind shown (values.Ip6 address) is = is
shown_kind kind shown (values.Time time) is = is
shown_kind kind shown (values.Proto bytes) is = is

shown_fits : (wanted : List ℕ) (proto : ℕ) (step : Step) → StepFits proto step → StepFits proto (shown_step wanted step)
shown_fits wanted proto (Row field at) fits = fits
shown_fits wanted proto (Part field at len) fits = fits
shown_fits wanted proto (Whole field at len) fits = fits
shown_fits wanted proto (Derived field value at len) fits = (fits.0, shown_kind (row_of field).kind (is_in wanted field) value fits.1)
shown_fits wanted proto (Made field value) fits = fits
shown_fits wanted proto (Check holds) fits = fits
shown_fits wanted proto (Room room) fits = fits

pub shown_fit : (wanted : List ℕ) (proto : ℕ) (steps : List Step) → StepsFit proto steps → StepsFit proto (map (shown_step wanted) steps)
unfolding StepsFit
shown_fit wanted proto [] fit = tt
shown_fit wanted proto (x ∷ xs) fit = (shown_fits wanted proto x fit.0, shown_fit wanted proto xs fit.1)

-- so what was taken of steps that may stand in a layout may
pub fits_taken : (wanted : List ℕ) (proto : ℕ) (keeps : Bool) (end : ℕ) (steps : List Step) (s : StepsShown) (taken : Taken) → s ≡ with_steps (no_steps wanted keeps end) steps → IsTaken s taken →
    (keeps ≡ false → (f : ℕ) → (row_of f).proto ≡ proto → is_in wanted f ≡ false) → StepsFit proto steps → FitsTaken wanted proto taken
fits_taken wanted proto keeps end steps s (takens.List list) is taken none fit =
    let listed : list.items ≡ map (shown_step wanted) steps = holds_taken wanted keeps end steps s (takens.List list) is taken in
    rw listed (shown_fit wanted proto steps fit)
fits_taken wanted proto true end steps s (takens.Reach r) is taken none fit =
    let on : s.keeps ≡ true = ap (λ (u : StepsShown). u.keeps) (is ∙ kept_list (no_steps wanted true end) steps refl) in
    absurd (cc)
fits_taken wanted proto false end steps s (takens.Reach r) is taken none fit = none refl
