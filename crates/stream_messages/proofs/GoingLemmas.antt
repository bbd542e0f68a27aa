-- Going on where an earlier look stopped.
use Rattle.std.proofs.Common.{◌≡◌, ℕ, zero, suc, ◌+◌, ◌-◌, ◌<◌, ◌≤◌, Bool, true, false, List, [], ◌∷◌, ◌++◌, length, take, drop, refl, sym, ap, ◌∙◌, subst, arith, length-drop, length-append, append-nil, append_assoc, take-append-drop, Option, Some, None}
use Rattle.std.specs.Prelude.{nat_le}
use Rattle.std.specs.Option.{option_map}
use Rattle.std.proofs.lemmas.Bool.{cond-true, cond-false}
use Rattle.std.proofs.lemmas.List.{take-append-le, drop-append-le, drop_all, length-take-le, take_all}
use Rattle.stream_messages.specs.declared.ends.Seek.{Seek}
use Rattle.stream_messages.specs.declared.ends.Search.TheVariants.{Ends, Goes}
use Rattle.stream_messages.specs.declared.plans.Planned.{Planned}
use Rattle.stream_messages.specs.declared.plans.Start.{Start}
use Rattle.stream_messages.specs.declared.shape.Body.TheVariants.{Chunked, NotShown}
use Rattle.stream_messages.specs.declared.shape.Piece.{Piece}
use Rattle.stream_messages.specs.declared.shape.Shape.{Shape}
use Rattle.stream_messages.specs.declared.shape.Then.TheVariants.{Follows, Opaque}
use Rattle.stream_messages.specs.declared.chunks.Place.{Place}
use Rattle.stream_messages.specs.declared.chunks.Turn.TheVariants.{Long, End, Waits, Fails}
use Rattle.stream_messages.specs.declared.progress.Progress.TheVariants.{InHead, InBody, InChunks, Never}
use Rattle.stream_messages.specs.declared.progress.HeadProgress.{HeadProgress}
use Rattle.stream_messages.specs.declared.progress.ChunkProgress.{ChunkProgress}
use Rattle.stream_messages.specs.declared.progress.Framing.{Framing}
use Rattle.stream_messages.specs.declared.progress.Framing.TheVariants.{Unfinished, Message}
use Rattle.std.specs.Prelude.{IfSome, IfOk, Result, Ok, Err}
use Rattle.stream_messages.specs.PlanFacts.{PlanFits}
use Rattle.stream_messages.specs.Limits.{head_limit}
use Rattle.stream_messages.specs.Heads.{Head, head_of}
use Rattle.stream_messages.specs.Ends.{seek_on, on_seek, behind_from, seek_after}
use Rattle.stream_messages.specs.Searches.{IsSearch}
use Rattle.stream_messages.specs.Plans.{planned}
use Rattle.stream_messages.specs.Chunks.{shape_of, turn_at, looked_at, chunks}
use Rattle.stream_messages.specs.HttpMessages.{if_there, by_planned, by_head, head_within, by_end, resumed, resumed_head, resumed_chunks, GoesOn}
use Rattle.stream_messages.proofs.TextLemmas.{drop_append}
use Rattle.stream_messages.proofs.EndLemmas.{behind_from-after, behind_from-append}
use Rattle.stream_messages.proofs.ChunkLemmas.{chunks_step, chunks_waits, chunks_none}

pub goes_as : (f g : List ℕ → Option Shape) (bytes : List ℕ) (r : Framing) → ((more : List ℕ) → f (bytes ++ more) ≡ g (bytes ++ more)) → GoesOn g bytes r → GoesOn f bytes r
goes_as f g bytes r same go = record {
  answer = go.answer ∙ sym (subst (λ (bs : List ℕ). f bs ≡ g bs) (append-nil bytes) (same []));
  later = λ more. same more ∙ go.later more;
}

pub goes_message : (f : List ℕ → Option Shape) (bytes : List ℕ) (s : Shape) → ((more : List ℕ) → f (bytes ++ more) ≡ Some s) → GoesOn f bytes (Message s)
goes_message f bytes s is = record {
  answer = sym (subst (λ (bs : List ℕ). f bs ≡ Some s) (append-nil bytes) (is []));
  later = is;
}

pub goes_never : (f : List ℕ → Option Shape) (bytes : List ℕ) → ((more : List ℕ) → f (bytes ++ more) ≡ None) → GoesOn f bytes (Unfinished Never)
unfolding resumed
goes_never f bytes is = record {
  answer = sym (subst (λ (bs : List ℕ). f bs ≡ None) (append-nil bytes) (is []));
  later = is;
}

-- ---- a message whose head is read

le_test : (a b : ℕ) → a ≤ b → nat_le a b ≡ true
le_test a b e = grind arith

lt_test : (a b : ℕ) → b < a → nat_le a b ≡ false
lt_test a b e = grind arith

pub there_is : (shape : Shape) (bytes : List ℕ) → shape.end ≤ length bytes → if_there shape bytes ≡ Some shape
there_is shape bytes room = cond-true _ _ _ (le_test shape.end (length bytes) room)

pub goes_there : (shape : Shape) (bytes : List ℕ) → shape.end ≤ length bytes → GoesOn (if_there shape) bytes (Message shape)
goes_there shape bytes room = goes_message (if_there shape) bytes shape λ more.
    there_is shape (bytes ++ more) (omega (arith, room, length-append bytes more))

pub goes_body : (shape : Shape) (bytes : List ℕ) → length bytes < shape.end → GoesOn (if_there shape) bytes (Unfinished (InBody shape))
unfolding resumed
goes_body shape bytes room = record {
  answer = sym (cond-false _ _ _ (lt_test shape.end (length bytes) room));
  later = λ more. refl;
}

-- ---- chunks

module _ (list : ChunkProgress) (turns i : ℕ) (start : Start) (bytes : List ℕ) (place : Place) (pieces : List Piece) where
  pub goes_long : (line : ℕ) (s : Shape) → ((more : List ℕ) → resumed_chunks list (bytes ++ more) ≡ chunks (turns - i) start (bytes ++ more) place pieces)
      → i < turns → Long line ≡ turn_at place (drop place.at bytes) → s ≡ shape_of start NotShown (place.at + line) Opaque → GoesOn (resumed_chunks list) bytes (Message s)
  goes_long line s on left e is = goes_message (resumed_chunks list) bytes s λ more.
      on more ∙ chunks_step turns i start bytes more place pieces (Long line) left tt e ∙ ap Some (sym is)

  pub goes_end : (s : Shape) → ((more : List ℕ) → resumed_chunks list (bytes ++ more) ≡ chunks (turns - i) start (bytes ++ more) place pieces)
      → i < turns → End ≡ turn_at place (drop place.at bytes) → s ≡ shape_of start (Chunked pieces) (place.at + 2) (Follows 0) → GoesOn (resumed_chunks list) bytes (Message s)
  goes_end s on left e is = goes_message (resumed_chunks list) bytes s λ more.
      on more ∙ chunks_step turns i start bytes more place pieces End left tt e ∙ ap Some (sym is)

  pub goes_fails : ((more : List ℕ) → resumed_chunks list (bytes ++ more) ≡ chunks (turns - i) start (bytes ++ more) place pieces)
      → i < turns → Fails ≡ turn_at place (drop place.at bytes) → GoesOn (resumed_chunks list) bytes (Unfinished Never)
  goes_fails on left e = goes_never (resumed_chunks list) bytes λ more.
      on more ∙ chunks_step turns i start bytes more place pieces Fails left tt e

  pub goes_out : ((more : List ℕ) → resumed_chunks list (bytes ++ more) ≡ chunks (turns - i) start (bytes ++ more) place pieces)
      → turns ≤ i → GoesOn (resumed_chunks list) bytes (Unfinished Never)
  unfolding chunks
  goes_out on done =
      let none : turns - i ≡ 0 = omega arith in
      goes_never (resumed_chunks list) bytes λ more. on more ∙ ap (λ (n : ℕ). chunks n start (bytes ++ more) place pieces) none

  pub goes_waits : (next : Place) → ((more : List ℕ) → resumed_chunks list (bytes ++ more) ≡ chunks (turns - i) start (bytes ++ more) place pieces)
      → Waits ≡ turn_at place (drop place.at bytes) → next ≡ looked_at place bytes
      → GoesOn (resumed_chunks list) bytes (Unfinished (InChunks (record { turns = turns - i; start = start; place = next; pieces = pieces })))
  unfolding resumed
  goes_waits next on e is = record {
    answer = sym (subst (λ (bs : List ℕ). resumed_chunks list bs ≡ chunks (turns - i) start bs place pieces) (append-nil bytes) (on [])
        ∙ chunks_none turns i start bytes place pieces e);
    later = λ more. on more ∙ chunks_waits (turns - i) start bytes more place pieces
        ∙ ap (λ (p : Place). chunks (turns - i) start (bytes ++ more) p pieces) (sym is);
  }

-- ---- heads

behind_of : (a : Bool) (bytes : List ℕ) (end : ℕ) → end ≤ length bytes → end ≤ head_limit
    → by_end a bytes (Some (drop end bytes)) ≡ by_head a (head_of (take end bytes)) bytes
behind_of a bytes end inside short =
    let count : length bytes - length (drop end bytes) ≡ end = omega (arith, length-drop end bytes) in
    let fits : length (take end bytes) ≤ head_limit = omega (arith, length-take-le end bytes inside) in
    ap (λ (n : ℕ). by_head a (head_within (take n bytes)) bytes) count
    ∙ ap (λ (h : Option Head). by_head a h bytes) (cond-true _ _ _ (le_test (length (take end bytes)) head_limit fits))

length_take : (n : ℕ) (xs : List ℕ) → (length (take n xs) ≤ n) × (length (take n xs) ≤ length xs)
length_take zero xs = (omega arith, omega arith)
length_take (suc n) [] = (omega arith, omega arith)
length_take (suc n) (x ∷ xs) = let p = length_take n xs in (omega (arith, p.0), omega (arith, p.1))

-- where the head's end is found
pub head_ends : (head : HeadProgress) (bytes : List ℕ) (end : ℕ) → IsSearch head.seek head.looked (take head_limit bytes) (Ends end) → (more : List ℕ)
    → resumed_head head (bytes ++ more) ≡ by_planned (option_map (planned head.asked) (head_of (take end bytes))) (bytes ++ more)
head_ends head bytes end is more =
    let window : List ℕ = take head_limit bytes in
    let rest : List ℕ = drop head_limit bytes ++ more in
    let whole : bytes ++ more ≡ window ++ rest = ap (λ (bs : List ℕ). bs ++ more) (sym (take-append-drop head_limit bytes)) ∙ append_assoc window (drop head_limit bytes) more in
    let short : length window ≤ head_limit = omega (arith, (length_take head_limit bytes).0) in
    let inside : length window ≤ length bytes = omega (arith, (length_take head_limit bytes).1) in
    let looked : head.looked ≤ length window = omega (arith, is.1, is.2) in
    let behind : behind_from head.seek (drop head.looked (bytes ++ more)) ≡ Some (drop end (bytes ++ more)) =
    ap (λ (bs : List ℕ). behind_from head.seek (drop head.looked bs)) whole
    ∙ ap (behind_from head.seek) (drop-append-le head.looked window rest looked)
    ∙ behind_from-append head.seek (drop head.looked window) rest (drop end window) is.0
    ∙ ap Some (sym (drop-append-le end window rest is.2))
    ∙ ap (λ (bs : List ℕ). Some (drop end bs)) (sym whole) in
    let fits : end ≤ length bytes = omega (arith, is.2) in
    ap (by_end head.asked (bytes ++ more)) behind
    ∙ behind_of head.asked (bytes ++ more) end (omega (arith, fits, length-append bytes more)) (omega (arith, is.2))
    ∙ ap (λ (front : List ℕ). by_head head.asked (head_of front) (bytes ++ more)) (take-append-le end bytes more fits)

behind_shorter : (seek : Seek) (bytes rest : List ℕ) → behind_from seek bytes ≡ Some rest → length rest < length bytes
behind_shorter seek [] rest e = absurd (cc)
behind_shorter seek (b ∷ bytes) rest e = by (λ next. behind_shorter next bytes rest) (seek_on seek b) e
  where
    by : ((next : Seek) → behind_from next bytes ≡ Some rest → length rest < length bytes) → (o : Option Seek)
        → on_seek (λ n. behind_from n bytes) bytes o ≡ Some rest → length rest < suc (length bytes)
    by go None e = let same : bytes ≡ rest = cc in omega (arith, ap length same)
    by go (Some next) e = omega (arith, go next e)

-- where so many bytes went by without an end, no head comes
pub head_never : (head : HeadProgress) (bytes : List ℕ) (next : Seek) → IsSearch head.seek head.looked (take head_limit bytes) (Goes next) → head_limit ≤ length bytes
    → (more : List ℕ) → resumed_head head (bytes ++ more) ≡ None
head_never head bytes next is many more =
    let window : List ℕ = take head_limit bytes in
    let rest : List ℕ = drop head_limit bytes ++ more in
    let whole : bytes ++ more ≡ window ++ rest = ap (λ (bs : List ℕ). bs ++ more) (sym (take-append-drop head_limit bytes)) ∙ append_assoc window (drop head_limit bytes) more in
    let behind : behind_from head.seek (drop head.looked (bytes ++ more)) ≡ behind_from (seek_after head.seek (drop head.looked window)) (drop (head.looked - length window) rest) =
    ap (λ (bs : List ℕ). behind_from head.seek (drop head.looked bs)) whole
    ∙ ap (behind_from head.seek) (drop_append head.looked window rest)
    ∙ behind_from-after head.seek (drop head.looked window) (drop (head.looked - length window) rest) is.0 in
    let count : length (bytes ++ more) ≡ head_limit + length rest = ap length whole ∙ length-append window rest ∙ ap (λ (n : ℕ). n + length rest) (length-take-le head_limit bytes many) in
    by (behind_from head.seek (drop head.looked (bytes ++ more))) refl (sym behind) count
  where
    by : (o : Option (List ℕ)) → behind_from head.seek (drop head.looked (bytes ++ more)) ≡ o
        → behind_from (seek_after head.seek (drop head.looked (take head_limit bytes))) (drop (head.looked - length (take head_limit bytes)) (drop head_limit bytes ++ more)) ≡ behind_from head.seek (drop head.looked (bytes ++ more))
        → length (bytes ++ more) ≡ head_limit + length (drop head_limit bytes ++ more) → resumed_head head (bytes ++ more) ≡ None
    by None is same count = ap (by_end head.asked (bytes ++ more)) is
    by (Some last) is same count =
        let less = behind_shorter (seek_after head.seek (drop head.looked (take head_limit bytes))) (drop (head.looked - length (take head_limit bytes)) (drop head_limit bytes ++ more)) last (same ∙ is) in
        let few : length last < length (drop head_limit bytes ++ more) = omega (arith, less, length-drop (head.looked - length (take head_limit bytes)) (drop head_limit bytes ++ more)) in
        let inside : length (bytes ++ more) - length last ≤ length (bytes ++ more) = omega arith in
        let long : head_limit < length (take (length (bytes ++ more) - length last) (bytes ++ more)) = omega (arith, few, count, length-take-le (length (bytes ++ more) - length last) (bytes ++ more) inside) in
        ap (by_end head.asked (bytes ++ more)) is
        ∙ ap (λ (h : Option Head). by_head head.asked h (bytes ++ more)) (cond-false _ _ _ (lt_test _ head_limit long))

-- where no end is found yet
pub head_goes : (head : HeadProgress) (bytes : List ℕ) (next : Seek) (to : ℕ) → IsSearch head.seek head.looked (take head_limit bytes) (Goes next) → length bytes < head_limit
    → length bytes ≤ to → to - length bytes ≡ head.looked - length bytes
    → GoesOn (resumed_head head) bytes (Unfinished (InHead (record { asked = head.asked; looked = to; seek = next })))
unfolding resumed
head_goes head bytes next to is few behind same =
    let all : take head_limit bytes ≡ bytes = take_all head_limit bytes (omega arith) in
    let search : IsSearch head.seek head.looked bytes (Goes next) = subst (λ (bs : List ℕ). IsSearch head.seek head.looked bs (Goes next)) all is in
    record {
      answer = sym (ap (by_end head.asked bytes) search.0);
      later = λ more.
          let here : behind_from head.seek (drop head.looked (bytes ++ more)) ≡ behind_from next (drop (head.looked - length bytes) more) =
          ap (behind_from head.seek) (drop_append head.looked bytes more)
          ∙ behind_from-after head.seek (drop head.looked bytes) (drop (head.looked - length bytes) more) search.0
          ∙ ap (λ (s : Seek). behind_from s (drop (head.looked - length bytes) more)) search.1 in
          let there : drop to (bytes ++ more) ≡ drop (head.looked - length bytes) more =
          drop_append to bytes more ∙ ap (λ (bs : List ℕ). bs ++ drop (to - length bytes) more) (drop_all to bytes behind)
          ∙ ap (λ (n : ℕ). drop n more) same in
          ap (by_end head.asked (bytes ++ more)) (here ∙ sym (ap (behind_from next) there));
    }

-- ---- the answers of a head's reading

-- the message whose head ends in front of a place is the one that was begun there
pub head_begins : (head : HeadProgress) (bytes window : List ℕ) (end : ℕ) (p : Option Planned) (r : Framing) → window ≡ take head_limit bytes
    → IsSearch head.seek head.looked window (Ends end) → p ≡ option_map (planned head.asked) (head_of (take end bytes))
    → GoesOn (by_planned p) bytes r → GoesOn (resumed_head head) bytes r
head_begins head bytes window end p r is search found go =
    let at : IsSearch head.seek head.looked (take head_limit bytes) (Ends end) = subst (λ (w : List ℕ). IsSearch head.seek head.looked w (Ends end)) is search in
    goes_as (resumed_head head) (by_planned p) bytes r
    (λ more. head_ends head bytes end at more ∙ ap (λ (o : Option Planned). by_planned o (bytes ++ more)) (sym found)) go

pub head_stops : (head : HeadProgress) (bytes window : List ℕ) (next : Seek) → window ≡ take head_limit bytes
    → IsSearch head.seek head.looked window (Goes next) → head_limit ≤ length bytes → GoesOn (resumed_head head) bytes (Unfinished Never)
head_stops head bytes window next is search many =
    let at : IsSearch head.seek head.looked (take head_limit bytes) (Goes next) = subst (λ (w : List ℕ). IsSearch head.seek head.looked w (Goes next)) is search in
    goes_never (resumed_head head) bytes (head_never head bytes next at many)

pub head_waits : (head : HeadProgress) (bytes window : List ℕ) (next : Seek) (to : ℕ) → window ≡ take head_limit bytes
    → IsSearch head.seek head.looked window (Goes next) → length bytes < head_limit → length bytes ≤ to → to - length bytes ≡ head.looked - length bytes
    → GoesOn (resumed_head head) bytes (Unfinished (InHead (record { asked = head.asked; looked = to; seek = next })))
head_waits head bytes window next to is search few behind same =
    let at : IsSearch head.seek head.looked (take head_limit bytes) (Goes next) = subst (λ (w : List ℕ). IsSearch head.seek head.looked w (Goes next)) is search in
    head_goes head bytes next to at few behind same

pub fits_in : (most n : ℕ) (p : Option Planned) → n ≤ most → IfSome p (PlanFits n) → IfSome p (PlanFits most)
fits_in most n None less fits = fits
fits_in most n (Some p) less fits = record { head = omega (arith, fits.head, less); body = fits.body }

pub ok_goes : {E : Type 0} (f g : List ℕ → Option Shape) (bytes : List ℕ) (r : Result Framing E) → ((framing : Framing) → GoesOn g bytes framing → GoesOn f bytes framing)
    → IfOk r (GoesOn g bytes) → IfOk r (GoesOn f bytes)
ok_goes f g bytes (Ok framing) on go = on framing go
ok_goes f g bytes (Err e) on go = tt
