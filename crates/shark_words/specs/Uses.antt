-- What the words are used for: options with their values, and words that are neither.
-- A word that begins with `-` and has more is `--self-run`, whose value is the next word, `--filter-stats`, which has none, or
-- a cluster of letters.
-- The value of a letter that has one is what is left of the word behind it, or the next word where nothing is left.
use Rattle.std.specs.Prelude.{ℕ, suc, ◌==◌, Bool, true, false, ◌||◌, List, [], ◌∷◌, codes, Option, Some, None, if◌then◌else◌}
use Rattle.std.specs.Str.{bytes_eq}
use Rattle.shark_words.specs.declared.letter.Letter.{Letter}
use Rattle.shark_words.specs.declared.letter.Letter.TheVariants.{SelfRun, FilterStats}
use Rattle.shark_words.specs.declared.uses.Use.{Use}
use Rattle.shark_words.specs.declared.uses.Use.TheVariants as use_
use Rattle.shark_words.specs.Letters.{letter_of, has_value}

-- an option in a word, with its value in another word or the same
abbrev pub with_value : ℕ → Letter → ℕ → List ℕ → Use
with_value word letter place text =
    use_.Given (record {
      word = word;
      letter = letter;
      value = Some (record { word = place; text = text });
    })

abbrev pub without_value : ℕ → Letter → Use
without_value word letter = use_.Given (record { word = word; letter = letter; value = None })

-- whether each letter is known, up to the first with a value
abbrev pub is_known_before : Option Letter → Bool → Bool
is_known_before None more = false
is_known_before (Some letter) more = has_value letter || more

abbrev pub is_cluster : List ℕ → Bool
is_cluster [] = true
is_cluster (b ∷ rest) = is_known_before (letter_of b) (is_cluster rest)

-- the use of a letter with a value, of which so much of the word is left;
-- `behind` are those of the words behind, of which the first may be the value of an option
abbrev pub value_uses : ℕ → Letter → List ℕ → (Option Letter → List Use) → List Use
value_uses word letter [] behind = behind (Some letter)
value_uses word letter (b ∷ rest) behind = with_value word letter word (b ∷ rest) ∷ behind None

-- the uses of a letter, and of the letters behind it
abbrev pub letter_uses : ℕ → Option Letter → List ℕ → (Option Letter → List Use) → List Use
    → List Use
letter_uses word None rest behind more = more
letter_uses word (Some letter) rest behind more =
    if has_value letter then value_uses word letter rest behind
    else without_value word letter ∷ more

-- the uses of a cluster
abbrev pub cluster_uses : ℕ → List ℕ → (Option Letter → List Use) → List Use
cluster_uses word [] behind = behind None
cluster_uses word (b ∷ rest) behind =
    letter_uses word (letter_of b) rest behind (cluster_uses word rest behind)

-- what stands behind the first `-` of `--self-run`
abbrev pub self_run_name : List ℕ
self_run_name = codes "-self-run"

-- what stands behind the first `-` of `--filter-stats`
abbrev pub filter_stats_name : List ℕ
filter_stats_name = codes "-filter-stats"

-- the uses from an option on that isn't `--self-run`, by what stands behind its `-`
unfoldable pub letters_at : ℕ → List ℕ → (Option Letter → List Use) → List Use
letters_at word letters behind =
    if bytes_eq letters filter_stats_name then without_value word FilterStats ∷ behind None
    else if is_cluster letters then cluster_uses word letters behind
    else use_.Unknown word ∷ behind None

-- the uses from an option on
abbrev pub option_at : ℕ → List ℕ → (Option Letter → List Use) → List Use
option_at word letters behind =
    if bytes_eq letters self_run_name then behind (Some SelfRun)
    else letters_at word letters behind

-- the uses from a word on that is no option's value; 45 is `-`
abbrev pub uses_at : ℕ → List ℕ → (Option Letter → List Use) → List Use
uses_at word (first ∷ second ∷ rest) behind =
    if first == 45 then option_at word (second ∷ rest) behind else use_.Stray word ∷ behind None
uses_at word text behind = use_.Stray word ∷ behind None

-- the uses of the words that follow so many others, of which the last may be an option whose value is still to come
unfoldable pub uses_from : ℕ → Option Letter → List (List ℕ) → List Use
uses_from before None [] = []
uses_from before (Some letter) [] = without_value before letter ∷ []
uses_from before (Some letter) (word ∷ words) =
    with_value before letter (suc before) word ∷ uses_from (suc before) None words
uses_from before None (word ∷ words) =
    uses_at (suc before) word (λ waiting. uses_from (suc before) waiting words)

-- the uses of all words
abbrev pub uses_of : List (List ℕ) → List Use
uses_of words = uses_from 0 None words
