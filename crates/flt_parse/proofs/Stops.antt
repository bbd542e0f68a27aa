-- What the reading answers, in the words of the grammar: a filter that is read is that filter, and where the reading
-- stops stands the first fault.
use Rattle.std.proofs.Common.{◌≡◌, ℕ, suc, ◌≤◌, ⊎_elim, max, List, [], ◌∷◌, ◌++◌, map, Option, Some, None, append_assoc, arith, sym, ap, ◌∙◌, refl, subst}
use Rattle.std.proofs.lemmas.List.{append-nil}
use Rattle.flt_syntax.specs.Filters.{BeginsFilter, IsFault, IsTokenFault, kinds_of, most_open, place_of}
use Rattle.flt_syntax.specs.Grammar.{IsFilter}
use Rattle.flt_parse.specs.Parser.Reading.{State, Move, Go, Stop, Answer, Whole, Bad, ended, read, start, step, then_go, whole}
use Rattle.flt_syntax.specs.Written.{Written}
use Rattle.flt_syntax.specs.declared.fault.FilterFault.{FilterFault}
use Rattle.flt_syntax.specs.declared.fault.FilterReason.{FilterReason}
use Rattle.flt_syntax.specs.declared.fault.FilterReason.TheVariants.{Unexpected, TooDeep}
use Rattle.flt_syntax.specs.declared.token.Kind.{Kind}
use Rattle.flt_syntax.specs.declared.token.Token.{Token}
use Rattle.flt_parse.proofs.Complete.{complete, deeper, over}
use Rattle.flt_parse.proofs.Printed.{IsGood, printed}
use Rattle.flt_parse.proofs.Steady.{steady, whole_good}
use Rattle.flt_parse.proofs.Ways.{step_grows, step_later, step_only, step_stays, way}

-- the tokens lead from one state to another
abbrev pub goes : ℕ → State → List Kind → State → Type 0
goes limit s [] last = s ≡ last
goes limit s (k ∷ ks) last = (next : State) × (step limit s k ≡ Go next) × goes limit next ks last

goes_good : (limit : ℕ) (ks : List Kind) (s last : State) → IsGood limit s → goes limit s ks last → IsGood limit last × (printed last ≡ printed s ++ ks)
goes_good limit [] s last is e = (subst (IsGood limit) e is, ap printed (sym e) ∙ sym (append-nil (printed s)))
goes_good limit (k ∷ ks) s last is (next, moved, on) =
    let one = steady limit s next k is moved in
    let more = goes_good limit ks next last one.0 on in
    (more.0, more.1 ∙ ap (λ front. front ++ ks) one.1 ∙ append_assoc (printed s) (k ∷ []) ks)

goes_more : (limit more : ℕ) → limit ≤ more → (ks : List Kind) (s last : State) → goes limit s ks last → goes more s ks last
goes_more limit more le [] s last e = e
goes_more limit more le (k ∷ ks) s last (next, moved, on) = (next, step_grows s k limit more le next moved, goes_more limit more le ks next last on)

over_goes : (limit : ℕ) (ks : List Kind) (s last : State) (rest : List Kind) → goes limit s ks last → over limit s (ks ++ rest) ≡ over limit last rest
over_goes limit [] s last rest e = ap (λ x. over limit x rest) e
over_goes limit (k ∷ ks) s last rest (next, moved, on) =
    ap (λ m. then_go m (λ n. over limit n (ks ++ rest)) (λ r. Bad r (k ∷ (ks ++ rest)))) moved ∙ over_goes limit ks next last rest on

-- a whole filter
pub record Ended (limit : ℕ) (s : State) (ks : List Kind) (t : Written) : Type 0 where
  pub last : State
  pub on : goes limit s ks last
  pub there : whole last ≡ Some t

ended_whole : {A : Type 0} (o : Option Written) (t : Written) → ended {A = A} o ≡ Whole t → o ≡ Some t
ended_whole None t e = cc
ended_whole (Some u) t e = cc

whole_move : {A : Type 0} (kind : A → Kind) (limit : ℕ) (s : State) (x : A) (ts : List A) (t : Written) (m : Move) → step limit s (kind x) ≡ m
    → ((next : State) → read kind limit next ts ≡ Whole t → Ended limit next (map kind ts) t)
    → then_go m (λ n. read kind limit n ts) (λ r. Bad r (x ∷ ts)) ≡ Whole t → Ended limit s (kind x ∷ map kind ts) t
whole_move kind limit s x ts t (Go next) moved ih e =
    let more = ih next e in record { last = more.last; on = (next, moved, more.on); there = more.there }
whole_move kind limit s x ts t (Stop r) moved ih e = cc

whole_from : {A : Type 0} (kind : A → Kind) (limit : ℕ) (s : State) (ts : List A) (t : Written) → read kind limit s ts ≡ Whole t → Ended limit s (map kind ts) t
whole_from kind limit s [] t e = record { last = s; on = refl; there = ended_whole (whole s) t e }
whole_from kind limit s (x ∷ ts) t e = whole_move kind limit s x ts t (step limit s (kind x)) refl (λ next. whole_from kind limit next ts t) e

-- a fault
abbrev pub Stops : ℕ → State → List Kind → FilterReason → Type 0
Stops limit last [] r = (whole last ≡ None) × (r ≡ Unexpected)
Stops limit last (k ∷ rest) r = step limit last k ≡ Stop r

pub record Stopped (limit : ℕ) (s : State) (ts : List Token) (r : FilterReason) (rest : List Token) : Type 0 where
  pub front : List Token
  pub last : State
  pub parts : ts ≡ front ++ rest
  pub on : goes limit s (kinds_of front) last
  pub stops : Stops limit last (kinds_of rest) r

abbrev pub read_tokens : ℕ → State → List Token → Answer Token
read_tokens limit s ts = read (λ t. t.kind) limit s ts

ended_bad : (limit : ℕ) (s : State) (o : Option Written) (r : FilterReason) (rest : List Token) → whole s ≡ o → ended o ≡ Bad r rest → Stopped limit s [] r rest
ended_bad limit s None r rest there e =
    let none : [] ≡ rest = cc in
    let reason : r ≡ Unexpected = cc in
    record { front = []; last = s; parts = none; on = refl; stops = subst (λ ts. Stops limit s (kinds_of ts) r) none (there, reason) }
ended_bad limit s (Some t) r rest there e = cc

bad_move : (limit : ℕ) (s : State) (x : Token) (ts : List Token) (r : FilterReason) (rest : List Token) (m : Move) → step limit s x.kind ≡ m
    → ((next : State) → read_tokens limit next ts ≡ Bad r rest → Stopped limit next ts r rest)
    → then_go m (λ n. read_tokens limit n ts) (λ e. Bad e (x ∷ ts)) ≡ Bad r rest → Stopped limit s (x ∷ ts) r rest
bad_move limit s x ts r rest (Go next) moved ih e =
    let more = ih next e in
    record { front = x ∷ more.front; last = more.last; parts = ap (λ us. x ∷ us) more.parts; on = (next, moved, more.on); stops = more.stops }
bad_move limit s x ts r rest (Stop q) moved ih e =
    let all : x ∷ ts ≡ rest = cc in
    let reason : q ≡ r = cc in
    record { front = []; last = s; parts = all; on = refl; stops = subst (λ us. Stops limit s (kinds_of us) r) all (moved ∙ ap Stop reason) }

bad_from : (limit : ℕ) (s : State) (ts : List Token) (r : FilterReason) (rest : List Token) → read_tokens limit s ts ≡ Bad r rest → Stopped limit s ts r rest
bad_from limit s [] r rest e = ended_bad limit s (whole s) r rest refl e
bad_from limit s (x ∷ ts) r rest e = bad_move limit s x ts r rest (step limit s x.kind) refl (λ next. bad_from limit next ts r rest) e

-- each state is on the way to a filter
same_kinds : (ks : List Kind) → map (λ k. k) ks ≡ ks
same_kinds [] = refl
same_kinds (k ∷ ks) = ap (λ rest. k ∷ rest) (same_kinds ks)

begins : (limit : ℕ) (s : State) → IsGood limit s → BeginsFilter limit (printed s)
begins limit s is =
    let w = way limit s in
    let end = whole_from (λ k. k) limit s w.tokens w.filter w.leads in
    let more = goes_good limit w.tokens s end.last is (subst (λ ks. goes limit s ks end.last) (same_kinds w.tokens) end.on) in
    (w.filter, w.tokens, subst (λ ks. IsFilter limit ks w.filter) more.1 (whole_good limit end.last w.filter more.0 end.there))

start_good : (limit : ℕ) → IsGood limit start
start_good limit = record { lefts = tt; around = tt; room = omega arith }

no_end : (limit : ℕ) (front : List Kind) (last : State) → goes limit start front last → whole last ≡ None → (filter : Written) (any : ℕ) → IsFilter any front filter → ⊥
no_end limit front last on none filter any is =
    let m = max any limit in
    let a : over m start front ≡ Whole filter = complete m front filter (deeper any m front filter (omega arith) is) in
    let b : over m start (front ++ []) ≡ over m last [] = over_goes m front start last [] (goes_more limit m (omega arith) front start last on) in
    let c : over m last [] ≡ Bad Unexpected [] = ap ended none in
    let d : over m start (front ++ []) ≡ over m start front = ap (over m start) (append-nil front) in
    cc

no_more : (limit : ℕ) (front : List Kind) (k : Kind) (last : State) (r : FilterReason) → goes limit start front last → step limit last k ≡ Stop r → BeginsFilter limit (front ++ k ∷ []) → ⊥
no_more limit front k last r on stop (filter, more, is) =
    let a : over limit start ((front ++ k ∷ []) ++ more) ≡ Whole filter = complete limit ((front ++ k ∷ []) ++ more) filter is in
    let b : over limit start (front ++ k ∷ more) ≡ over limit last (k ∷ more) = over_goes limit front start last (k ∷ more) on in
    let c : over limit last (k ∷ more) ≡ Bad r (k ∷ more) = ap (λ mv. then_go mv (λ n. over limit n more) (λ e. Bad e (k ∷ more))) stop in
    let d : over limit start ((front ++ k ∷ []) ++ more) ≡ over limit start (front ++ k ∷ more) = ap (over limit start) (append_assoc front (k ∷ []) more) in
    cc

deeper_begins : (limit more : ℕ) (front : List Kind) → limit ≤ more → BeginsFilter limit front → BeginsFilter more front
deeper_begins limit more front le (filter, rest, is) = (filter, rest, deeper limit more (front ++ rest) filter le is)

fault_at : (limit : ℕ) (front rest : List Kind) (last : State) (r : FilterReason) → goes limit start front last → Stops limit last rest r → IsFault limit front rest r
fault_at limit front [] last r on stops =
    let good = goes_good limit front start last (start_good limit) on in
    let begun = subst (BeginsFilter limit) good.1 (begins limit last good.0) in
    subst (IsFault limit front []) (sym stops.1) (begun, no_end limit front last on stops.0)
fault_at limit front (k ∷ rest) last r on stop =
    let good = goes_good limit front start last (start_good limit) on in
    let begun = subst (BeginsFilter limit) good.1 (begins limit last good.0) in
    ⊎_elim (λ e. subst (IsFault limit front (k ∷ rest)) (sym e) (begun, unexpected (stop ∙ ap Stop e)))
    (λ e. subst (IsFault limit front (k ∷ rest)) (sym e) (begun, no_more limit front k last r on stop, (suc limit, deep good (stop ∙ ap Stop e))))
    (step_only last k limit r stop)
  where
    unexpected : step limit last k ≡ Stop Unexpected → (any : ℕ) → BeginsFilter any (front ++ k ∷ []) → ⊥
    unexpected stop any begun =
        let m = max any limit in
        no_more m front k last Unexpected (goes_more limit m (omega arith) front start last on) (step_stays last k limit m stop)
        (deeper_begins any m (front ++ k ∷ []) (omega arith) begun)

    deep : IsGood limit last × (printed last ≡ front) → step limit last k ≡ Stop TooDeep → BeginsFilter (suc limit) (front ++ k ∷ [])
    deep good stop =
        let later = step_later last k limit good.0 stop in
        let more = goes_good (suc limit) front start last (start_good (suc limit)) (goes_more limit (suc limit) (omega arith) front start last on) in
        let moved = steady (suc limit) last later.0 k more.0 later.1 in
        subst (BeginsFilter (suc limit)) (moved.1 ∙ ap (λ ks. ks ++ k ∷ []) good.1) (begins (suc limit) later.0 moved.0)

pub read_filter : (ts : List Token) (t : Written) → read_tokens most_open start ts ≡ Whole t → IsFilter most_open (kinds_of ts) t
read_filter ts t e =
    let end = whole_from (λ x. x.kind) most_open start ts t e in
    let more = goes_good most_open (kinds_of ts) start end.last (start_good most_open) end.on in
    subst (λ ks. IsFilter most_open ks t) more.1 (whole_good most_open end.last t more.0 end.there)

pub read_fault : (end : ℕ) (ts rest : List Token) (fault : FilterFault) → read_tokens most_open start ts ≡ Bad fault.reason rest → fault.at ≡ place_of rest end → IsTokenFault end ts fault
read_fault end ts rest fault e there =
    let stopped = bad_from most_open start ts fault.reason rest e in
    record {
      front = stopped.front;
      rest = rest;
      parts = stopped.parts;
      place = there;
      first = fault_at most_open (kinds_of stopped.front) (kinds_of rest) stopped.last fault.reason stopped.on stopped.stops;
    }
