-- What standard error is told of a fault: one line that names it.
use Rattle.std.specs.Prelude.{ℕ, decimal, List, ◌++◌, codes}
use Rattle.pk_base.specs.declared.found.Reason.{Reason}
use Rattle.pk_base.specs.declared.found.Reason.TheVariants.{ShortHeader, UnknownMagic, BadVersion, RecordCut, TooLong, BlockLength, BlockCut, BadInterface, BadOption, BadResolution}
use Rattle.pk_text.specs.Escape.{escaped}
use Rattle.shark_words.specs.declared.fault.WordFault.{WordFault}
use Rattle.shark_words.specs.declared.fault.WordReason.{WordReason}
use Rattle.shark_words.specs.declared.fault.WordReason.TheVariants.{UnknownOption, MissingValue, StrayWord, NoFile, Repeated, BadValue, NoFields, Unused, Clash}

-- the code and name of a reason why a file is damaged
abbrev pub reason_text : Reason → List ℕ
reason_text ShortHeader = codes "B1 ShortHeader"
reason_text UnknownMagic = codes "B2 UnknownMagic"
reason_text BadVersion = codes "B3 BadVersion"
reason_text RecordCut = codes "B4 RecordCut"
reason_text TooLong = codes "B5 TooLong"
reason_text BlockLength = codes "B6 BlockLength"
reason_text BlockCut = codes "B7 BlockCut"
reason_text BadInterface = codes "B8 BadInterface"
reason_text BadOption = codes "B9 BadOption"
reason_text BadResolution = codes "B10 BadResolution"

-- the code and name of a reason to refuse words
abbrev pub word_reason_text : WordReason → List ℕ
word_reason_text UnknownOption = codes "A1 UnknownOption"
word_reason_text MissingValue = codes "A2 MissingValue"
word_reason_text StrayWord = codes "A3 StrayWord"
word_reason_text NoFile = codes "A4 NoFile"
word_reason_text Repeated = codes "A5 Repeated"
word_reason_text BadValue = codes "A6 BadValue"
word_reason_text NoFields = codes "A7 NoFields"
word_reason_text Unused = codes "A8 Unused"
word_reason_text Clash = codes "A9 Clash"

-- what is told of a fault of the words
unfoldable pub word_fault_text : WordFault → List ℕ
word_fault_text fault =
    codes "shark: word " ++ (decimal fault.word
    ++ (codes ": " ++ (word_reason_text fault.reason ++ codes "\n")))

-- what is told of a file that can't be opened, and of a frame that doesn't fit into the file that is written
unfoldable pub cannot_open_text : List ℕ → List ℕ
cannot_open_text name = codes "shark: cannot open " ++ (escaped name ++ codes "\n")

unfoldable pub cannot_write_text : ℕ → List ℕ
cannot_write_text number = codes "shark: cannot write frame " ++ (decimal number ++ codes "\n")

-- what is told of a read that failed, and of a file that is larger than is read
abbrev pub read_fault_text : List ℕ
read_fault_text = codes "shark: read fault\n"

abbrev pub too_large_text : List ℕ
too_large_text = codes "shark: capture too large\n"
