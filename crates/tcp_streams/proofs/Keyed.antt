-- Streams of different conversations have different numbers.
use Rattle.std.proofs.Common.{◌≡◌, ℕ, ◌+◌, ◌<◌, ◌≤◌, Bool, true, false, cond, ◌&&◌, List, [], ◌∷◌, Option, None, Some, unwrap_or, is_some, option_map, eqb, refl, sym, ap, ◌∙◌, subst, ◌⊎◌, inl, inr, arith}
use Rattle.std.proofs.lemmas.Bool.{false≢true, cases_Bool, eq-eqb}
use Rattle.std.proofs.lemmas.Bool.Decides.{eqb_tells}
use Rattle.tcp_streams.specs.declared.segment.Segment.{Segment}
use Rattle.tcp_streams.specs.declared.ends.Ends.{Ends}
use Rattle.tcp_streams.specs.Conversations.{same_ends, ends_of}
use Rattle.tcp_streams.specs.Labels.{Label, latest, opened, way_of, side_in, restarts, opening, following, goes_on, label_on, label_of, labels}
use Rattle.tcp_streams.specs.Stands.{AllBelow}
use Rattle.tcp_streams.specs.Isolation.{streams_of}
use Rattle.tcp_streams.proofs.StandsLemmas.{same_ends_is, below_more}

abbrev pub if_opens : Bool → Ends → Option Ends → Option Ends
if_opens true ends rest = Some ends
if_opens false ends rest = rest

-- the conversation of the label that opened a stream
abbrev pub key_of : ℕ → List Label → Option Ends
key_of n [] = None
key_of n (l ∷ ls) = if_opens (l.opens && eqb l.stream n) (ends_of l.segment) (key_of n ls)

abbrev pub Keyed : List Label → List Label → Type 0
Keyed all [] = Unit {0}
Keyed all (l ∷ ls) = (key_of l.stream all ≡ Some (ends_of l.segment)) × Keyed all ls

abbrev pub AllLow : ℕ → List ℕ → Type 0
AllLow n [] = Unit {0}
AllLow n (j ∷ js) = (j < n) × AllLow n js

abbrev pub Falling : List ℕ → Type 0
Falling [] = Unit {0}
Falling (j ∷ js) = AllLow j js × Falling js

abbrev pub AllMine : Ends → List Label → List ℕ → Type 0
AllMine ends ls [] = Unit {0}
AllMine ends ls (j ∷ js) = (key_of j ls ≡ Some ends) × AllMine ends ls js

abbrev pub first_of : List ℕ → Option ℕ
first_of [] = None
first_of (j ∷ js) = Some j

pub record Known (s : Segment) (ls : List Label) : Type 0 where
  pub below : AllBelow (opened ls) ls
  pub keyed : Keyed ls ls
  pub head : option_map (λ (l : Label). l.stream) (latest s ls) ≡ first_of (streams_of s ls)
  pub low : AllLow (opened ls) (streams_of s ls)
  pub mine : AllMine (ends_of s) ls (streams_of s ls)
  pub falling : Falling (streams_of s ls)

-- how a label comes to be
pub record Follows (s : Segment) (ls : List Label) : Type 0 where
  pub last : Label
  pub is_last : latest s ls ≡ Some last
  pub goes : label_of s ls ≡ following last.stream s ls

goes_cases : (s : Segment) (ls : List Label) (o : Option Label) → latest s ls ≡ o → (label_on (goes_on o s ls) s ls ≡ opening s ls) ⊎ ((l : Label) × (latest s ls ≡ Some l) × (label_on (goes_on o s ls) s ls ≡ following l.stream s ls))
goes_cases s ls None is = inl refl
goes_cases s ls (Some l) is = elim (cases_Bool (restarts (way_of l.stream (side_in l.stream s ls) ls).origin s)) [
  | inl t ↦ rw t (inl refl)
  | inr f ↦ rw f (inr (l, is, refl))
]

pub label_cases : (s : Segment) (ls : List Label) → (label_of s ls ≡ opening s ls) ⊎ Follows s ls
label_cases s ls = elim (goes_cases s ls (latest s ls) refl) [
  | inl opens ↦ inl opens
  | inr goes ↦ inr (record { last = goes.0; is_last = goes.1; goes = goes.2 })
]

some_label : (l m : Label) → Some l ≡ Some m → l ≡ m
some_label l m e = ap (λ (o : Option Label). unwrap_or o l) e

pub latest_keyed : (s : Segment) (all ls : List Label) (l : Label) → Keyed all ls → latest s ls ≡ Some l → key_of l.stream all ≡ Some (ends_of s)
latest_keyed s all [] l keyed = λ e. absurd (false≢true (ap is_some e))
latest_keyed s all (m ∷ ls) l keyed = elim (cases_Bool (same_ends (ends_of m.segment) (ends_of s))) [
  | inl same ↦ rw same (λ e. subst (λ (k : Label). key_of k.stream all ≡ Some (ends_of s)) (some_label m l e) (keyed.0 ∙ ap Some (same_ends_is (ends_of m.segment) (ends_of s) same)))
  | inr apart ↦ rw apart (λ e. latest_keyed s all ls l keyed.1 e)
]

pub latest_low : (n : ℕ) (s : Segment) (ls : List Label) (l : Label) → AllBelow n ls → latest s ls ≡ Some l → l.stream < n
latest_low n s [] l below = λ e. absurd (false≢true (ap is_some e))
latest_low n s (m ∷ ls) l below = elim (cases_Bool (same_ends (ends_of m.segment) (ends_of s))) [
  | inl same ↦ rw same (λ e. subst (λ (k : Label). k.stream < n) (some_label m l e) below.0)
  | inr apart ↦ rw apart (λ e. latest_low n s ls l below.1 e)
]

apart_low : (n j : ℕ) → j < n → eqb n j ≡ false
apart_low n j low = elim (eqb_tells n j) [ inl w ↦ absurd (omega (arith, low, w.1)) | inr w ↦ w.0 ]

pub same_number : (n : ℕ) → eqb n n ≡ true
same_number n = eq-eqb n n refl

-- a label more: one that opens
keyed_opens : (s : Segment) (ls us : List Label) → AllBelow (opened ls) us → Keyed ls us → Keyed (opening s ls ∷ ls) us
keyed_opens s ls [] below keyed = tt
keyed_opens s ls (u ∷ us) below keyed = (rw (apart_low (opened ls) u.stream below.0) keyed.0, keyed_opens s ls us below.1 keyed.1)

low_more : (n m : ℕ) (js : List ℕ) → n ≤ m → AllLow n js → AllLow m js
low_more n m [] less low = tt
low_more n m (j ∷ js) less low = (omega (arith, low.0, less), low_more n m js less low.1)

mine_opens : (ends : Ends) (s : Segment) (ls : List Label) (js : List ℕ) → AllLow (opened ls) js → AllMine ends ls js → AllMine ends (opening s ls ∷ ls) js
mine_opens ends s ls [] low mine = tt
mine_opens ends s ls (j ∷ js) low mine = (rw (apart_low (opened ls) j low.0) mine.0, mine_opens ends s ls js low.1 mine.1)

-- and one that follows
keyed_follows : (n : ℕ) (s : Segment) (ls us : List Label) → Keyed ls us → Keyed (following n s ls ∷ ls) us
keyed_follows n s ls [] keyed = tt
keyed_follows n s ls (u ∷ us) keyed = (keyed.0, keyed_follows n s ls us keyed.1)

mine_follows : (ends : Ends) (n : ℕ) (s : Segment) (ls : List Label) (js : List ℕ) → AllMine ends ls js → AllMine ends (following n s ls ∷ ls) js
mine_follows ends n s ls [] mine = tt
mine_follows ends n s ls (j ∷ js) mine = (mine.0, mine_follows ends n s ls js mine.1)

-- the same for each conversation s
known_opens : (s t : Segment) (ls : List Label) → Known s ls → Known s (opening t ls ∷ ls)
known_opens s t ls known = elim (cases_Bool (same_ends (ends_of t) (ends_of s))) [
  | inl same ↦
      record {
        below = (omega arith, below_more (opened ls) (opened ls + 1) ls (omega arith) known.below);
        keyed = (rw (same_number (opened ls)) refl, keyed_opens t ls ls known.below known.keyed);
        head = rw same refl;
        low = rw same (omega arith, low_more (opened ls) (opened ls + 1) (streams_of s ls) (omega arith) known.low);
        mine = rw same (rw (same_number (opened ls)) (ap Some (same_ends_is (ends_of t) (ends_of s) same)), mine_opens (ends_of s) t ls (streams_of s ls) known.low known.mine);
        falling = rw same (known.low, known.falling);
      }
  | inr apart ↦
      record {
        below = (omega arith, below_more (opened ls) (opened ls + 1) ls (omega arith) known.below);
        keyed = (rw (same_number (opened ls)) refl, keyed_opens t ls ls known.below known.keyed);
        head = rw apart known.head;
        low = rw apart (low_more (opened ls) (opened ls + 1) (streams_of s ls) (omega arith) known.low);
        mine = rw apart (mine_opens (ends_of s) t ls (streams_of s ls) known.low known.mine);
        falling = rw apart known.falling;
      }
]

pub latest_key : (s t : Segment) (ls : List Label) → ends_of t ≡ ends_of s → latest t ls ≡ latest s ls
latest_key s t [] same = refl
latest_key s t (l ∷ ls) same = λ i. cond (same_ends (ends_of l.segment) (same i)) (Some l) (latest_key s t ls same i)

known_follows : (s t : Segment) (ls : List Label) (last : Label) → Known s ls → latest t ls ≡ Some last → Known s (following last.stream t ls ∷ ls)
known_follows s t ls last known is = elim (cases_Bool (same_ends (ends_of t) (ends_of s))) [
  | inl same ↦
      let here : latest s ls ≡ Some last = sym (latest_key s t ls (same_ends_is (ends_of t) (ends_of s) same)) ∙ is in
      record {
        below = (latest_low (opened ls) t ls last known.below is, known.below);
        keyed = (latest_keyed t ls ls last known.keyed is, keyed_follows last.stream t ls ls known.keyed);
        head = rw same (ap (option_map (λ (l : Label). l.stream)) (sym here) ∙ known.head);
        low = known.low;
        mine = mine_follows (ends_of s) last.stream t ls (streams_of s ls) known.mine;
        falling = known.falling;
      }
  | inr apart ↦
      record {
        below = (latest_low (opened ls) t ls last known.below is, known.below);
        keyed = (latest_keyed t ls ls last known.keyed is, keyed_follows last.stream t ls ls known.keyed);
        head = rw apart known.head;
        low = known.low;
        mine = mine_follows (ends_of s) last.stream t ls (streams_of s ls) known.mine;
        falling = known.falling;
      }
]

pub known : (s : Segment) (past : List Segment) → Known s (labels past)
known s [] = record { below = tt; keyed = tt; head = refl; low = tt; mine = tt; falling = tt }
known s (t ∷ past) =
    let ls = labels past in
    let before = known s past in
    elim (label_cases t ls) [
      | inl opens ↦ subst (λ (l : Label). Known s (l ∷ ls)) (sym opens) (known_opens s t ls before)
      | inr follows ↦ subst (λ (l : Label). Known s (l ∷ ls)) (sym follows.goes) (known_follows s t ls follows.last before follows.is_last)
    ]

-- what other conversations' labels leave as it is
abbrev pub Apart : ℕ → List ℕ → Type 0
Apart n [] = Unit {0}
Apart n (j ∷ js) = (eqb n j ≡ false) × Apart n js

pub low_apart : (n : ℕ) (js : List ℕ) → AllLow n js → Apart n js
low_apart n [] low = tt
low_apart n (j ∷ js) low = (apart_low n j low.0, low_apart n js low.1)

some_ends : (a b : Ends) → Some a ≡ Some b → a ≡ b
some_ends a b e = ap (λ (o : Option Ends). unwrap_or o a) e

same_self : (a b : Ends) → a ≡ b → same_ends a a ≡ true → same_ends a b ≡ true
same_self a b e self = subst (λ (x : Ends). same_ends a x ≡ true) e self

pub mine_apart : (s t : Segment) (ls : List Label) (n : ℕ) (js : List ℕ) → key_of n ls ≡ Some (ends_of t) → same_ends (ends_of t) (ends_of s) ≡ false → same_ends (ends_of t) (ends_of t) ≡ true
    → AllMine (ends_of s) ls js → Apart n js
mine_apart s t ls n [] key apart self mine = tt
mine_apart s t ls n (j ∷ js) key apart self mine = (
  elim (eqb_tells n j) [
    | inl w ↦
        let keys : ends_of t ≡ ends_of s = some_ends (ends_of t) (ends_of s) (sym key ∙ ap (λ (k : ℕ). key_of k ls) w.1 ∙ mine.0) in
        absurd (false≢true (sym apart ∙ same_self (ends_of t) (ends_of s) keys self))
    | inr w ↦ w.0
  ],
  mine_apart s t ls n js key apart self mine.1,
)
