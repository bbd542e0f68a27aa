-- That the strings of a text are all read.
use Rattle.std.specs.Prelude.{ℕ, ◌+◌, List}
use Rattle.pk_tree.specs.Entries.{ReadsTo, repeated}
use Rattle.dis_dns.specs.Records.{text_string}

-- of the strings in the data of a text, in so many bytes from a place on, none is left out
abbrev pub AllStrings : Type 0
AllStrings =
    (base : ℕ) (bytes : List ℕ) (field at len : ℕ)
    → ReadsTo (at + len) (repeated len (text_string base bytes field (at + len)) at)
