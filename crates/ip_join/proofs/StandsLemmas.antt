-- What becomes of what the joins stand for as one fragment more is taken; and that only its own datagram's bear on it.
use Rattle.std.proofs.Common.{◌≡◌, Bool, true, false, cond, List, [], ◌∷◌, ◌++◌, Option, None, refl, sym, ap, ◌∙◌, inl, inr}
use Rattle.std.proofs.lemmas.Bool.{cases_Bool}
use Rattle.pk_base.specs.declared.heads.FragmentHead.{FragmentHead}
use Rattle.ip_join.specs.declared.joins.Joins.{Joins}
use Rattle.ip_join.specs.declared.fragment.Fragment.{Fragment}
use Rattle.ip_join.specs.declared.kept.Kept.{Kept}
use Rattle.ip_join.specs.declared.key.Key.{Key}
use Rattle.ip_join.specs.Keys.{same_key}
use Rattle.ip_join.specs.KeyOrder.{key_of, ties}
use Rattle.ip_join.specs.Datagrams.{joined_of}
use Rattle.ip_join.specs.Forms.{place_of, lone_fragment, fragments_in}
use Rattle.ip_join.specs.Stands.{left_after, counted_for, joined_by, kept_at, of_key, Stands, StandsWithout}
use Rattle.ip_join.proofs.KeyLemmas.{tied_key, same_key-key, same_datagram}

-- what is kept by one key changes
abbrev pub ChangesAt : Joins → Joins → Key → Option Kept → Type 0
ChangesAt old new key left = (q : Key) → kept_at new q ≡ cond (ties key q) left (kept_at old q)

pub changed_by : (old new : Joins) (key other : Key) (left : Option Kept) → key ≡ other → ChangesAt old new key left → ChangesAt old new other left
changed_by old new key other left same change = λ q. change q ∙ ap (λ (k : Key). cond (ties k q) left (kept_at old q)) same

-- a fragment is kept alone, and comes back by any head of its datagram
pub lone_again : (f g : Fragment) → same_key f.head g.head ≡ true → lone_fragment g.head (place_of f.head f.frame, f.bytes) ≡ f
lone_again f g same =
    let is = same_datagram f.head g.head same in
    λ i. record {
      head = record {
        six = sym is.six i;
        source = sym is.source i;
        target = sym is.target i;
        next = f.head.next;
        ident = sym is.ident i;
        offset = f.head.offset;
        more = f.head.more;
        whole = f.head.whole;
      };
      frame = f.frame;
      bytes = f.bytes;
    }

-- fragments of one datagram have the same that count
pub counted_same : (f g : Fragment) → same_key f.head g.head ≡ true → (past : List Fragment) → counted_for g past ≡ counted_for f past
counted_same f g same [] = refl
counted_same f g same (h ∷ past) =
    let alike : same_key h.head g.head ≡ same_key h.head f.head =
    sym (tied_key h.head g.head) ∙ ap (ties (key_of h.head)) (sym (same_key-key f.head g.head same)) ∙ tied_key h.head f.head in
    rw (alike, counted_same f g same past) refl

-- what is kept by the fragment's key
pub counted_is : (past : List Fragment) (joins : Joins) (f : Fragment) → Stands past joins → fragments_in f.head (kept_at joins (key_of f.head)) ≡ counted_for f past
unfolding Stands
counted_is past joins f stands = stands f

changed_at : (old new : Joins) (head : FragmentHead) (left : Option Kept) → ChangesAt old new (key_of head) left → (g : Fragment) (b : Bool) → same_key head g.head ≡ b
    → kept_at new (key_of g.head) ≡ cond b left (kept_at old (key_of g.head))
changed_at old new head left change g b is =
    change (key_of g.head) ∙ ap (λ (c : Bool). cond c left (kept_at old (key_of g.head))) (tied_key head g.head ∙ is)

pub stands_without : (past : List Fragment) (old new : Joins) (head : FragmentHead) → Stands past old → ChangesAt old new (key_of head) None → StandsWithout past head new
unfolding Stands StandsWithout
stands_without past old new head stands change = λ g.
    elim (cases_Bool (same_key head g.head)) [
      | inl same ↦ rw same (ap (fragments_in g.head) (changed_at old new head None change g true same))
      | inr apart ↦ rw apart (ap (fragments_in g.head) (changed_at old new head None change g false apart) ∙ stands g)
    ]

-- one more, of which something is left
pub stands_more : (past : List Fragment) (old new : Joins) (f : Fragment) (left : Option Kept) → StandsWithout past f.head old → ChangesAt old new (key_of f.head) left
    → ((g : Fragment) → same_key f.head g.head ≡ true → fragments_in g.head left ≡ left_after (joined_by past f) (counted_for f past ++ f ∷ []))
    → Stands (f ∷ past) new
unfolding Stands StandsWithout joined_by
stands_more past old new f left stands change kept = λ g.
    elim (cases_Bool (same_key f.head g.head)) [
      | inl same ↦
          rw (same, counted_same f g same past) (ap (fragments_in g.head) (changed_at old new f.head left change g true same) ∙ kept g same)
      | inr apart ↦
          rw apart (ap (fragments_in g.head) (changed_at old new f.head left change g false apart)
          ∙ stands g ∙ ap (λ (b : Bool). cond b [] (counted_for g past)) apart)
    ]

-- and one of which nothing is left
pub stands_gone : (past : List Fragment) (joins : Joins) (f : Fragment) → StandsWithout past f.head joins → left_after (joined_by past f) (counted_for f past ++ f ∷ []) ≡ [] → Stands (f ∷ past) joins
unfolding Stands StandsWithout joined_by
stands_gone past joins f stands nothing = λ g.
    elim (cases_Bool (same_key f.head g.head)) [
      | inl same ↦
          rw (same, counted_same f g same past) (stands g ∙ ap (λ (b : Bool). cond b [] (counted_for g past)) same ∙ sym nothing)
      | inr apart ↦
          rw apart (stands g ∙ ap (λ (b : Bool). cond b [] (counted_for g past)) apart)
    ]

-- the fragments that count are of the same datagram
pub counted_for-of_key : (f : Fragment) (past : List Fragment) → counted_for f (of_key f.head past) ≡ counted_for f past
counted_for-of_key f [] = refl
counted_for-of_key f (g ∷ past) =
    elim (cases_Bool (same_key g.head f.head)) [
      | inl same ↦ rw (same, same, counted_for-of_key f past) refl
      | inr apart ↦ rw apart (counted_for-of_key f past)
    ]

-- whatever else was taken, and in between
pub joined_by-of_key : (past others : List Fragment) (f : Fragment) → of_key f.head past ≡ of_key f.head others → joined_by past f ≡ joined_by others f
unfolding joined_by
joined_by-of_key past others f same =
    ap (λ (counted : List Fragment). joined_of counted f)
    (sym (counted_for-of_key f past) ∙ ap (counted_for f) same ∙ counted_for-of_key f others)
