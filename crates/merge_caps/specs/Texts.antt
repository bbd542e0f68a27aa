-- What standard error is told: a line for each damaged file, and then one that names the fault.
use Rattle.std.specs.Prelude.{◌≡◌, ◌⊎◌, ℕ, decimal, List, [], ◌∷◌, ◌++◌, length, codes, Option, Some, IfSome}
use Rattle.std.specs.Io.KnownBytes.{Appends}
use Rattle.pk_outside.specs.Outside.{AppendsPart}
use Rattle.pk_text.specs.Escape.{escaped}
use Rattle.capture_read.specs.declared.ending.Damage.{Damage}
use Rattle.capture_read.specs.declared.ending.Ending.{Ending}
use Rattle.capture_read.specs.declared.ending.Ending.TheVariants as ending
use Rattle.capture_read.specs.declared.frame.Frame.{Frame}
use Rattle.capture_write.specs.declared.format.Format.{Format}
use Rattle.shark_words.specs.declared.fault.WordFault.{WordFault}
use Rattle.run_texts.specs.FaultTexts.{reason_text, word_fault_text, cannot_open_text, cannot_write_text, read_fault_text, too_large_text}
use Rattle.merge_caps.specs.declared.status.MergeStatus.{MergeStatus}
use Rattle.merge_caps.specs.declared.status.MergeStatus.TheVariants.{Done, BadWords, CannotOpen, ReadFault, Damaged, TooLarge, WriteFault, NoMemory, CannotWrite}
use Rattle.merge_caps.specs.Merged.{IsMerged}
use Rattle.merge_caps.specs.Reading.{files_of, endings_of}
use Rattle.merge_caps.specs.Words.{Wanted}
use Rattle.merge_caps.specs.Written.{first_unfit}

-- the line of a damaged file: its name, as it is told, and where and why it is damaged
unfoldable pub damage_front : List ℕ → List ℕ
damage_front name = codes "shark: " ++ (name ++ codes " damaged at byte ")

unfoldable pub damage_back : Damage → List ℕ
damage_back damage = decimal damage.at ++ (codes ": " ++ (reason_text damage.reason ++ codes "\n"))

-- the line of a file that ends so
unfoldable pub damage_line : List ℕ → Ending → List ℕ
damage_line name ending.Whole = []
damage_line name (ending.Damaged damage) = damage_front (escaped name) ++ damage_back damage
damage_line name ending.TooLarge = []

abbrev pub damage_lines : List (List ℕ) → List Ending → List ℕ
damage_lines [] endings = []
damage_lines (name ∷ names) [] = []
damage_lines (name ∷ names) (ending ∷ endings) =
    damage_line name ending ++ damage_lines names endings

-- how the files of these names end
pub record AreEndings (tell : List ℕ → Option (List ℕ)) (names : List (List ℕ))
    (endings : List Ending) : Type 0 where
  pub count : length endings ≡ length names
  pub told : IfSome (files_of tell names) (λ files. endings ≡ endings_of files)

-- the lines of the damaged ones among these files
abbrev pub IsDamageText : Wanted → (List ℕ → Option (List ℕ)) → List ℕ → Type 0
IsDamageText wanted tell text =
    (endings : List Ending) × AreEndings tell wanted.names endings
    × (text ≡ damage_lines wanted.names endings)

-- the first of the merged frames that doesn't fit has this number
abbrev pub IsUnfitAt : Format → List (List ℕ) → ℕ → Type 0
IsUnfitAt format files number =
    (merged : List Frame) × IsMerged files merged × (first_unfit format merged ≡ Some number)

abbrev pub IsUnfitText : Wanted → (List ℕ → Option (List ℕ)) → List ℕ → Type 0
IsUnfitText wanted tell text =
    (number : ℕ) × IfSome (files_of tell wanted.names) (λ files.
    IsUnfitAt wanted.format files number)
    × ((lines : List ℕ) × IsDamageText wanted tell lines
    × (text ≡ lines ++ cannot_write_text number))

-- the text of a status, where the name asked for last is given
abbrev pub IsStatusText : Wanted → (List ℕ → Option (List ℕ)) → List ℕ → MergeStatus → List ℕ
    → Type 0
IsStatusText wanted tell asked Done text = text ≡ []
IsStatusText wanted tell asked BadWords text = ⊥
IsStatusText wanted tell asked CannotOpen text = text ≡ cannot_open_text asked
IsStatusText wanted tell asked ReadFault text = text ≡ read_fault_text
IsStatusText wanted tell asked Damaged text = IsDamageText wanted tell text
IsStatusText wanted tell asked TooLarge text = text ≡ too_large_text
IsStatusText wanted tell asked WriteFault text = IsDamageText wanted tell text
IsStatusText wanted tell asked NoMemory text = (text ≡ []) ⊎ IsDamageText wanted tell text
IsStatusText wanted tell asked CannotWrite text = IsUnfitText wanted tell text

-- the text of a refusal
abbrev pub IsRefusalText : WordFault → MergeStatus → List ℕ → Type 0
IsRefusalText fault BadWords text = text ≡ word_fault_text fault
IsRefusalText fault NoMemory text = text ≡ []
IsRefusalText fault answer text = ⊥

-- standard error got a front of the text, and nothing else
unfoldable pub Told : Wanted → (List ℕ → Option (List ℕ)) → List ℕ → MergeStatus → Option (List ℕ)
    → Option (List ℕ) → Type 0
Told wanted tell asked answer old new =
    (text : List ℕ) × IsStatusText wanted tell asked answer text × AppendsPart old new text

unfoldable pub ToldRefusal : WordFault → MergeStatus → Option (List ℕ) → Option (List ℕ) → Type 0
ToldRefusal fault answer old new =
    (text : List ℕ) × IsRefusalText fault answer text × AppendsPart old new text

-- standard error got the text, and nothing else
unfoldable pub ToldWhole : Wanted → (List ℕ → Option (List ℕ)) → List ℕ → MergeStatus
    → Option (List ℕ) → Option (List ℕ) → Type 0
ToldWhole wanted tell asked answer old new =
    (text : List ℕ) × IsStatusText wanted tell asked answer text × Appends old new text

unfoldable pub ToldRefusalWhole : WordFault → MergeStatus → Option (List ℕ) → Option (List ℕ)
    → Type 0
ToldRefusalWhole fault answer old new =
    (text : List ℕ) × IsRefusalText fault answer text × Appends old new text
