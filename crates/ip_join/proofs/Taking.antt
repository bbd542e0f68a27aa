-- A fragment's answer, and what the joins stand for afterwards.
use Rattle.std.proofs.Common.{◌≡◌, ◌<◌, ℕ, zero, suc, Bool, true, false, ◌&&◌, ◌||◌, not, cond, List, [], ◌∷◌, ◌++◌, Option, None, Some, is_some, ltb, leb, refl, sym, ap, ◌∙◌, nat_cmp, arith}
use Rattle.std.specs.Option.{option_or, option_map}
use Rattle.std.specs.FinMap.{get, empty, get-empty}
use Rattle.std.proofs.lemmas.Bool.{false≢true, and_parts, and_right, ltb-true, leb-true, le-ltb}
use Rattle.range_bytes.specs.Held.{Cell, Held, run_cell}
use Rattle.range_bytes.proofs.Runs.{get-put_run, run_cell-before}
use Rattle.ip_join.specs.declared.joined.ConflictKind.{ConflictKind}
use Rattle.ip_join.specs.declared.joined.ConflictKind.TheVariants.{TooLong, MultipleTails, Overlap6}
use Rattle.ip_join.specs.declared.joined.Datagram.{Datagram}
use Rattle.ip_join.specs.declared.joined.Joined.TheVariants.{Pending, Conflict}
use Rattle.ip_join.specs.declared.fragment.Fragment.{Fragment}
use Rattle.ip_join.specs.Fragments.{end_of, map_of, holds_below}
use Rattle.ip_join.specs.Datagrams.{conflict_of, datagram_if_whole, datagram_of, end_if_held, completed, joined_unless, joined_of}
use Rattle.ip_join.specs.Stands.{counted_for, joined_by}
use Rattle.ip_join.specs.Waiting.{waits_alone}

pub conflict_is : (past : List Fragment) (f : Fragment) (parts : List Fragment) (r : Option ConflictKind) (kind : ConflictKind) → parts ≡ counted_for f past
    → r ≡ conflict_of parts f → r ≡ Some kind → Conflict kind ≡ joined_by past f
unfolding joined_by joined_of
conflict_is past f parts r kind counted is some =
    let found : conflict_of (counted_for f past) f ≡ Some kind = ap (λ (c : List Fragment). conflict_of c f) (sym counted) ∙ sym is ∙ some in
    sym (ap (λ (o : Option ConflictKind). joined_unless o (counted_for f past) f) found)

pub completed_is : (past : List Fragment) (f : Fragment) (parts more : List Fragment) (r : Option ConflictKind) (whole : Option Datagram) → parts ≡ counted_for f past
    → r ≡ conflict_of parts f → r ≡ None → more ≡ parts ++ f ∷ [] → whole ≡ datagram_if_whole more f.head → completed whole ≡ joined_by past f
unfolding joined_by joined_of
completed_is past f parts more r whole counted is none more_is whole_is =
    let found : conflict_of (counted_for f past) f ≡ None = ap (λ (c : List Fragment). conflict_of c f) (sym counted) ∙ sym is ∙ none in
    let same : more ≡ counted_for f past ++ f ∷ [] = more_is ∙ ap (λ (c : List Fragment). c ++ f ∷ []) counted in
    let last : whole ≡ datagram_if_whole (counted_for f past ++ f ∷ []) f.head = whole_is ∙ ap (λ (c : List Fragment). datagram_if_whole c f.head) same in
    ap completed last ∙ sym (ap (λ (o : Option ConflictKind). joined_unless o (counted_for f past) f) found)

-- ---- the first fragment of a datagram

not_below : (held : Held) (n : ℕ) → get held 0 ≡ None → holds_below held (suc n) ≡ false
not_below held zero none = rw none refl
not_below held (suc n) none = and_right (is_some (get held (suc n))) (holds_below held (suc n)) (not_below held n none)

not_held : (held : Held) (n : ℕ) → get held 0 ≡ None → 0 < n → holds_below held n ≡ false
not_held held zero none some = absurd (omega (arith, some))
not_held held (suc n) none some = not_below held n none

none_at : (f : Fragment) → 0 < f.head.offset → get (map_of (f ∷ [])) 0 ≡ None
none_at f some =
    get-put_run empty f.head.offset f.bytes f.frame 0
    ∙ ap (λ (o : Option Cell). option_or o (run_cell f.head.offset f.bytes f.frame 0)) (get-empty nat_cmp 0)
    ∙ run_cell-before f.head.offset f.bytes f.frame 0 some

none_goes_against : (long six more : Bool) → long ≡ false → cond long (Some TooLong) (cond (not more && false) (Some MultipleTails) (cond (six && false) (Some Overlap6) None)) ≡ None
none_goes_against true six more short = absurd (false≢true (sym short))
none_goes_against false true true short = refl
none_goes_against false true false short = refl
none_goes_against false false true short = refl
none_goes_against false false false short = refl

not_whole : (f : Fragment) (more : Bool) → (more || ltb 0 f.head.offset) ≡ true → option_map (datagram_of (f ∷ []) f.head) (end_if_held (f ∷ []) (cond more None (Some (end_of f)))) ≡ None
not_whole f true waits = refl
not_whole f false waits =
    let behind : 0 < f.head.offset = ltb-true 0 f.head.offset waits in
    ap (λ (b : Bool). option_map (datagram_of (f ∷ []) f.head) (cond b (Some (end_of f)) None)) (not_held (map_of (f ∷ [])) (end_of f) (none_at f behind) (omega (arith, behind)))

pub waits_pending : (f : Fragment) → waits_alone f ≡ true → joined_of [] f ≡ Pending
unfolding joined_of
waits_pending f waits =
    let parts = and_parts (leb (end_of f) 65535) (f.head.more || ltb 0 f.head.offset) waits in
    let none : conflict_of [] f ≡ None = none_goes_against (ltb 65535 (end_of f)) f.head.six f.head.more (le-ltb 65535 (end_of f) (leb-true (end_of f) 65535 parts.0)) in
    ap (λ (o : Option ConflictKind). joined_unless o [] f) none ∙ ap completed (not_whole f f.head.more parts.1)

pub pending_is : (past : List Fragment) (f : Fragment) → waits_alone f ≡ true → counted_for f past ≡ [] → Pending ≡ joined_by past f
unfolding joined_by
pending_is past f waits none = sym (ap (λ (c : List Fragment). joined_of c f) none ∙ waits_pending f waits)
