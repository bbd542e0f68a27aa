-- The numbers of conversations, by their places in the list of them.
use Rattle.std.proofs.Common.{◌≡◌, ℕ, ◌+◌, Bool, true, false, not, cond, ◌||◌, List, [], ◌∷◌, ◌++◌, length, Option, None, Some, is_some, unwrap_or, Result, Ok, Err, OnOk, OnErr, subst, refl, sym, ap, ◌∙◌, inl, inr, arith}
use Rattle.std.proofs.lemmas.Bool.{true≢false, false≢true, cases_Bool}
use Rattle.std.proofs.lemmas.List.Folds.{list_any-append}
use Rattle.std.specs.List.{list_any, position_or_len}
use Rattle.tcp_streams.specs.declared.ends.Ends.{Ends}
use Rattle.tcp_streams.specs.declared.newest.Newest.{Newest}
use Rattle.tcp_streams.specs.Conversations.{number_of, same_ends}
use Rattle.tcp_streams.proofs.StandsLemmas.{same_ends_is}
use Rattle.tcp_streams.proofs.SideLemmas.{same_ends_itself}
use Rattle.message_links.specs.Conversations.{AreNumbered, number_in, with_ends}

module _ {X : Type 0} (test : X → Bool) where
  none_past : (xs : List X) → list_any test xs ≡ false → position_or_len test xs ≡ length xs
  none_past [] none = refl
  none_past (x ∷ xs) none = by (test x) none (none_past xs)
    where
      by : (b : Bool) → (b || list_any test xs) ≡ false → (list_any test xs ≡ false → position_or_len test xs ≡ length xs)
          → cond (not b) (1 + position_or_len test xs) 0 ≡ length (x ∷ xs)
      by true none rest = absurd (true≢false none)
      by false none rest = omega (arith, rest none)

  found_last : (xs : List X) (y : X) → list_any test xs ≡ false → test y ≡ true → position_or_len test (xs ++ y ∷ []) ≡ length xs
  found_last [] y none is = ap (λ (b : Bool). cond (not b) (1 + 0) 0) is
  found_last (x ∷ xs) y none is = by (test x) none (λ rest. found_last xs y rest is)
    where
      by : (b : Bool) → (b || list_any test xs) ≡ false → (list_any test xs ≡ false → position_or_len test (xs ++ y ∷ []) ≡ length xs)
          → cond (not b) (1 + position_or_len test (xs ++ y ∷ [])) 0 ≡ length (x ∷ xs)
      by true none rest = absurd (true≢false none)
      by false none rest = omega (arith, rest none)

  found_before : (xs : List X) (y : X) → list_any test xs ≡ true → position_or_len test (xs ++ y ∷ []) ≡ position_or_len test xs
  found_before [] y some = absurd (false≢true some)
  found_before (x ∷ xs) y some = by (test x) some (λ rest. found_before xs y rest)
    where
      by : (b : Bool) → (b || list_any test xs) ≡ true → (list_any test xs ≡ true → position_or_len test (xs ++ y ∷ []) ≡ position_or_len test xs)
          → cond (not b) (1 + position_or_len test (xs ++ y ∷ [])) 0 ≡ cond (not b) (1 + position_or_len test xs) 0
      by true some rest = refl
      by false some rest = ap (λ (n : ℕ). 1 + n) (rest some)

told : (known : List Ends) (numbers : Newest) (ends : Ends) (found : Option ℕ) (any : Bool) → AreNumbered known numbers → found ≡ number_of numbers ends → list_any (same_ends ends) known ≡ any
    → found ≡ cond any (Some (number_in known ends)) None
unfolding AreNumbered
told known numbers ends found any numbered is tells = is ∙ numbered ends ∙ ap (λ (b : Bool). cond b (Some (number_in known ends)) None) tells

-- a conversation that has a number is one of them
there : (known : List Ends) (numbers : Newest) (ends : Ends) (number : ℕ) → AreNumbered known numbers → Some number ≡ number_of numbers ends → list_any (same_ends ends) known ≡ true
there known numbers ends number numbered is = elim (cases_Bool (list_any (same_ends ends) known)) [
  | inl some ↦ some
  | inr none ↦ absurd (true≢false (ap is_some (told known numbers ends (Some number) false numbered is none)))
]

pub number_there : (known : List Ends) (numbers : Newest) (ends : Ends) (number : ℕ) → AreNumbered known numbers → Some number ≡ number_of numbers ends → number ≡ number_in known ends
number_there known numbers ends number numbered is =
    ap (λ (o : Option ℕ). unwrap_or o 0) (told known numbers ends (Some number) true numbered is (there known numbers ends number numbered is))

pub known_there : (known : List Ends) (numbers : Newest) (ends : Ends) (number : ℕ) → AreNumbered known numbers → Some number ≡ number_of numbers ends → known ≡ with_ends known ends
unfolding with_ends
known_there known numbers ends number numbered is = ap (λ (b : Bool). cond b known (known ++ ends ∷ [])) (sym (there known numbers ends number numbered is))

absent : (known : List Ends) (numbers : Newest) (ends : Ends) → AreNumbered known numbers → None ≡ number_of numbers ends → list_any (same_ends ends) known ≡ false
absent known numbers ends numbered is = elim (cases_Bool (list_any (same_ends ends) known)) [
  | inl some ↦ absurd (false≢true (ap is_some (told known numbers ends None true numbered is some)))
  | inr none ↦ none
]

pub number_new : (known : List Ends) (numbers : Newest) (ends : Ends) → AreNumbered known numbers → None ≡ number_of numbers ends → length known ≡ number_in known ends
unfolding number_in
number_new known numbers ends numbered is = sym (none_past (same_ends ends) known (absent known numbers ends numbered is))

pub known_new : (known : List Ends) (numbers : Newest) (ends : Ends) → AreNumbered known numbers → None ≡ number_of numbers ends → known ++ ends ∷ [] ≡ with_ends known ends
unfolding with_ends
known_new known numbers ends numbered is = ap (λ (b : Bool). cond b known (known ++ ends ∷ [])) (sym (absent known numbers ends numbered is))

pub numbered_new : (known : List Ends) (old new : Newest) (ends : Ends) → AreNumbered known old → None ≡ number_of old ends
    → ((other : Ends) → number_of new other ≡ cond (same_ends ends other) (Some (length known)) (number_of old other))
    → AreNumbered (known ++ ends ∷ []) new
unfolding AreNumbered number_in
numbered_new known old new ends numbered is updates other = elim (cases_Bool (same_ends ends other)) [
  | inl same ↦
      let one : ends ≡ other = same_ends_is ends other same in
      let none : list_any (same_ends other) known ≡ false = ap (λ (e : Ends). list_any (same_ends e) known) (sym one) ∙ absent known old ends numbered is in
      let itself : same_ends other ends ≡ true = ap (λ (e : Ends). same_ends e ends) (sym one) ∙ same_ends_itself ends in
      let any : list_any (same_ends other) (known ++ ends ∷ []) ≡ true = list_any-append (same_ends other) known (ends ∷ []) ∙ rw (none, itself) refl in
      updates other ∙ rw (same, any) (ap (λ (n : ℕ). Some n) (sym (found_last (same_ends other) known ends none itself)))
  | inr apart ↦
      let turned : same_ends other ends ≡ false = elim (cases_Bool (same_ends other ends)) [
        | inl same ↦ absurd (true≢false (sym (same_ends_itself ends) ∙ ap (same_ends ends) (sym (same_ends_is other ends same)) ∙ apart))
        | inr w ↦ w
      ] in
      let any : list_any (same_ends other) (known ++ ends ∷ []) ≡ (list_any (same_ends other) known || false) = list_any-append (same_ends other) known (ends ∷ []) ∙ rw turned refl in
      updates other ∙ rw apart (numbered other ∙ elim (cases_Bool (list_any (same_ends other) known)) [
        | inl some ↦ rw (any, some) (ap (λ (n : ℕ). Some n) (sym (found_before (same_ends other) known ends some)))
        | inr none ↦ rw (any, none) refl
      ])
]

pub numbered_still : (known : List Ends) (old new : Newest) → AreNumbered known old → ((other : Ends) → number_of new other ≡ number_of old other) → AreNumbered known new
unfolding AreNumbered
numbered_still known old new numbered same other = same other ∙ numbered other

pub numbered_after : {E : Type 0} (r : Result ℕ E) (known after : List Ends) (old new : Newest) (ends : Ends) → AreNumbered known old → None ≡ number_of old ends
    → OnOk r (after ≡ known ++ ends ∷ [])
    → OnOk r ((other : Ends) → number_of new other ≡ cond (same_ends ends other) (Some (length known)) (number_of old other))
    → OnErr r (after ≡ known)
    → OnErr r ((other : Ends) → number_of new other ≡ number_of old other)
    → AreNumbered after new
numbered_after (Ok number) known after old new ends numbered is added set same kept =
    subst (λ (ks : List Ends). AreNumbered ks new) (sym added) (numbered_new known old new ends numbered is set)
numbered_after (Err error) known after old new ends numbered is added set same kept =
    subst (λ (ks : List Ends). AreNumbered ks new) (sym same) (numbered_still known old new numbered kept)

pub numbered_none : (known : List Ends) (numbers : Newest) → known ≡ [] → ((ends : Ends) → number_of numbers ends ≡ None) → AreNumbered known numbers
unfolding AreNumbered
numbered_none known numbers empty none ends =
    none ends ∙ ap (λ (ks : List Ends). cond (list_any (same_ends ends) ks) (Some (number_in ks ends)) None) (sym empty)
