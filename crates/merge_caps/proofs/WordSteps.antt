-- Words one after the other.
use Rattle.std.proofs.Common.{◌≡◌, ◌<◌, ℕ, suc, ◌+◌, List, ◌∷◌, length, drop, get_or, String, string_bytes, Result, Ok, Err, sym, ap, ◌∙◌, arith}
use Rattle.std.proofs.lemmas.List.{at_drop_more}
use Rattle.shark_words.specs.declared.fault.WordFault.{WordFault}
use Rattle.shark_words.specs.declared.fault.WordsError.{WordsError}
use Rattle.shark_words.specs.declared.fault.WordsError.TheVariants as error
use Rattle.shark_words.specs.Words.{texts}
use Rattle.merge_caps.specs.Words.{Heard, Hears, Wants, ended_words, heard_from, nothing_heard, then_words, wanted_of, with_word}

-- what the rest of the words comes to, by the next
next_word : {A : Type 0} (words : List (String A)) (i : ℕ) (word : String A) (so_far : Heard) → i < length words → word ≡ get_or words i word
    → heard_from i so_far (texts (drop i words)) ≡ then_words (λ next. heard_from (i + 1) next (texts (drop (i + 1) words))) (with_word (i + 1) so_far (string_bytes word))
unfolding heard_from
next_word words i word so_far within is =
    let count : suc i ≡ i + 1 = omega arith in
    at_drop_more (λ (ws : List (String _)). heard_from i so_far (texts ws)) words i word within
    ∙ ap (λ (w : String _). heard_from i so_far (string_bytes w ∷ texts (drop (i + 1) words))) (sym is)
    ∙ ap (λ (n : ℕ). then_words (λ next. heard_from n next (texts (drop (i + 1) words))) (with_word n so_far (string_bytes word))) count

pub words_further : {A : Type 0} (words : List (String A)) (i : ℕ) (word : String A) (so_far next : Heard) (all : Result Heard WordFault) (text : List ℕ)
    → i < length words → word ≡ get_or words i word → text ≡ string_bytes word
    → heard_from i so_far (texts (drop i words)) ≡ all → with_word (i + 1) so_far text ≡ Ok next → heard_from (i + 1) next (texts (drop (i + 1) words)) ≡ all
words_further words i word so_far next all text within is bytes heard step =
    sym (next_word words i word so_far within is
    ∙ ap (then_words (λ (n : Heard). heard_from (i + 1) n (texts (drop (i + 1) words)))) (ap (with_word (i + 1) so_far) (sym bytes) ∙ step)) ∙ heard

-- a word is refused
pub words_refused : {A : Type 0} (words : List (String A)) (i : ℕ) (word : String A) (so_far now : Heard) (e : WordsError) (text : List ℕ)
    → i < length words → word ≡ get_or words i word → text ≡ string_bytes word
    → heard_from i so_far (texts (drop i words)) ≡ heard_from 0 nothing_heard (texts words)
    → Hears {A = Unit {0}} (Err e) now (with_word (i + 1) so_far text) → Wants (Err e) (wanted_of (texts words))
unfolding wanted_of
words_refused words i word so_far now (error.Fault fault) text within is bytes heard step =
    ap (ended_words (length (texts words))) (sym heard ∙ next_word words i word so_far within is
    ∙ ap (then_words (λ (n : Heard). heard_from (i + 1) n (texts (drop (i + 1) words)))) (ap (with_word (i + 1) so_far) (sym bytes) ∙ step))
words_refused words i word so_far now error.NoMemory text within is bytes heard step = tt
