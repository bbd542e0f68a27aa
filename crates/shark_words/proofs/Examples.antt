-- Command lines, and what the definition makes of them.
use Rattle.std.proofs.Common.{◌≡◌, refl}
use Rattle.std.specs.Prelude.{ℕ, true, false, List, [], ◌∷◌, codes, Option, Some, None, Result, Ok, Err}
use Rattle.shark_words.specs.declared.fault.WordFault.{WordFault}
use Rattle.shark_words.specs.declared.fault.WordReason.TheVariants.{UnknownOption, MissingValue, StrayWord, NoFile, Repeated, BadValue, NoFields, Unused, Clash}
use Rattle.shark_words.specs.declared.options.LineKind.TheVariants.{Text, Fields}
use Rattle.shark_words.specs.declared.options.Source.TheVariants.{Named, Generated}
use Rattle.shark_words.specs.declared.options.Options.{Options}
use Rattle.capture_write.specs.declared.format.Format.TheVariants.{Pcap, Pcapng}
use Rattle.out_lines.specs.Lines.{default_style}
use Rattle.shark_words.specs.Keys.{begins, key_of}
use Rattle.shark_words.specs.Uses.{letters_at, uses_from}
use Rattle.shark_words.specs.Numbers.{decimal_of}
use Rattle.shark_words.specs.Values.{count_of, generated_by}
use Rattle.pk_text.specs.Digits.{digits_read}
use Rattle.shark_words.specs.Faults.{fault, first_fault}
use Rattle.shark_words.specs.Options.{options_of, source_of, together_fault}

-- the options of one capture, with a filter, names and a count
abbrev asked_for : List ℕ → Option (List ℕ) → List (List ℕ) → Option ℕ → Result Options WordFault
asked_for name filter names most =
    Ok (record { source = Named name; filter = filter; two = false; kind = Fields; names = names; style = default_style; most = most; quiet = false; decode = record { rules = [] }; reports = []; stats = false; written = None })

pub no_words : options_of [] ≡ Err (fault 1 NoFile)
unfolding options_of source_of together_fault uses_from first_fault letters_at
no_words = refl

-- `-r`
pub name_missing : options_of (codes "-r" ∷ []) ≡ Err (fault 1 MissingValue)
unfolding options_of source_of together_fault uses_from first_fault letters_at
name_missing = refl

-- `-r f -x`
pub unknown_letter : options_of (codes "-r" ∷ codes "f" ∷ codes "-x" ∷ []) ≡ Err (fault 3 UnknownOption)
unfolding options_of source_of together_fault uses_from first_fault letters_at
unknown_letter = refl

-- `-r f g`
pub stray_word : options_of (codes "-r" ∷ codes "f" ∷ codes "g" ∷ []) ≡ Err (fault 3 StrayWord)
unfolding options_of source_of together_fault uses_from first_fault letters_at
stray_word = refl

-- `-r f -r g`
pub named_twice : options_of (codes "-r" ∷ codes "f" ∷ codes "-r" ∷ codes "g" ∷ []) ≡ Err (fault 3 Repeated)
unfolding options_of source_of together_fault uses_from first_fault letters_at
named_twice = refl

-- `-r f -c 0`
pub count_of_zero : options_of (codes "-r" ∷ codes "f" ∷ codes "-c" ∷ codes "0" ∷ []) ≡ Err (fault 4 BadValue)
unfolding options_of source_of together_fault uses_from first_fault letters_at count_of decimal_of digits_read
count_of_zero = refl

-- `-r f -T fields`
pub no_fields : options_of (codes "-r" ∷ codes "f" ∷ codes "-T" ∷ codes "fields" ∷ []) ≡ Err (fault 5 NoFields)
unfolding options_of source_of together_fault uses_from first_fault letters_at
no_fields = refl

-- `-r f -e ip.src`
pub no_kind : options_of (codes "-r" ∷ codes "f" ∷ codes "-e" ∷ codes "ip.src" ∷ []) ≡ Err (fault 3 Unused)
unfolding options_of source_of together_fault uses_from first_fault letters_at
no_kind = refl

-- `-qrf`: a cluster, and the kind of line where none is asked for
pub cluster : options_of (codes "-qrf" ∷ [])
    ≡ Ok (record { source = Named (codes "f"); filter = None; two = false; kind = Text; names = []; style = default_style; most = None; quiet = true; decode = record { rules = [] }; reports = []; stats = false; written = None })
unfolding options_of source_of together_fault uses_from first_fault letters_at
cluster = refl

-- `-qqx`: an unknown letter comes before what comes again in its word
pub unknown_before_repeated : options_of (codes "-qqx" ∷ []) ≡ Err (fault 1 UnknownOption)
unfolding options_of source_of together_fault uses_from first_fault letters_at
unknown_before_repeated = refl

-- `-E quote=d -E quote=x`: a key comes again, and its value is bad
pub key_again : options_of (codes "-E" ∷ codes "quote=d" ∷ codes "-E" ∷ codes "quote=x" ∷ []) ≡ Err (fault 3 Repeated)
unfolding options_of source_of together_fault uses_from first_fault letters_at begins key_of
key_again = refl

-- `-2qrf`
pub two_passes : options_of (codes "-2qrf" ∷ [])
    ≡ Ok (record { source = Named (codes "f"); filter = None; two = true; kind = Text; names = []; style = default_style; most = None; quiet = true; decode = record { rules = [] }; reports = []; stats = false; written = None })
unfolding options_of source_of together_fault uses_from first_fault letters_at
two_passes = refl

-- `-22rf`
pub two_passes_twice : options_of (codes "-22rf" ∷ []) ≡ Err (fault 1 Repeated)
unfolding options_of source_of together_fault uses_from first_fault letters_at
two_passes_twice = refl

-- `-Tfields -e no.such -rf`, the file last
pub all_in_one_word_each : options_of (codes "-Tfields" ∷ codes "-e" ∷ codes "no.such" ∷ codes "-rf" ∷ [])
    ≡ asked_for (codes "f") None (codes "no.such" ∷ []) None
unfolding options_of source_of together_fault uses_from first_fault letters_at
all_in_one_word_each = refl

-- `-r f -Y x -T fields -e a -c2 -e b`
pub all_options : options_of (codes "-r" ∷ codes "f" ∷ codes "-Y" ∷ codes "x" ∷ codes "-T" ∷ codes "fields" ∷ codes "-e" ∷ codes "a" ∷ codes "-c2" ∷ codes "-e" ∷ codes "b" ∷ [])
    ≡ asked_for (codes "f") (Some (codes "x")) (codes "a" ∷ codes "b" ∷ []) (Some 2)
unfolding options_of source_of together_fault uses_from first_fault letters_at count_of decimal_of digits_read
all_options = refl

-- `-r -r -e -e -T fields -Y " "`: what follows an option is its value, whatever it looks like, and a blank filter is none
pub values_that_look_like_options : options_of (codes "-r" ∷ codes "-r" ∷ codes "-e" ∷ codes "-e" ∷ codes "-T" ∷ codes "fields" ∷ codes "-Y" ∷ codes " " ∷ [])
    ≡ asked_for (codes "-r") None (codes "-e" ∷ []) None
unfolding options_of source_of together_fault uses_from first_fault letters_at
values_that_look_like_options = refl

-- `-r f -c 4294967295 -Tfields -e ""`
pub greatest_count : options_of (codes "-r" ∷ codes "f" ∷ codes "-c" ∷ codes "4294967295" ∷ codes "-Tfields" ∷ codes "-e" ∷ [] ∷ [])
    ≡ asked_for (codes "f") None ([] ∷ []) (Some 4294967295)
unfolding options_of source_of together_fault uses_from first_fault letters_at count_of decimal_of digits_read
greatest_count = refl

-- `-r f -c4294967296`
pub count_beyond : options_of (codes "-r" ∷ codes "f" ∷ codes "-c4294967296" ∷ []) ≡ Err (fault 3 BadValue)
unfolding options_of source_of together_fault uses_from first_fault letters_at count_of decimal_of digits_read
count_beyond = refl

-- `-r f -c 01`
pub leading_zero : options_of (codes "-r" ∷ codes "f" ∷ codes "-c" ∷ codes "01" ∷ []) ≡ Err (fault 4 BadValue)
unfolding options_of source_of together_fault uses_from first_fault letters_at count_of decimal_of digits_read
leading_zero = refl

-- `-r "" -x`: the first fault is told
pub empty_name : options_of (codes "-r" ∷ [] ∷ codes "-x" ∷ []) ≡ Err (fault 2 BadValue)
unfolding options_of source_of together_fault uses_from first_fault letters_at
empty_name = refl

-- `-`
pub lone_dash : options_of (codes "-" ∷ []) ≡ Err (fault 1 StrayWord)
unfolding options_of source_of together_fault uses_from first_fault letters_at
lone_dash = refl

-- `-r f -c 1 -c`: a second one comes before a missing value
pub repeated_before_missing : options_of (codes "-r" ∷ codes "f" ∷ codes "-c" ∷ codes "1" ∷ codes "-c" ∷ []) ≡ Err (fault 5 Repeated)
unfolding options_of source_of together_fault uses_from first_fault letters_at count_of decimal_of digits_read
repeated_before_missing = refl

-- `-x --long`
pub unknown_before_no_file : options_of (codes "-e" ∷ codes "a" ∷ codes "--long" ∷ []) ≡ Err (fault 3 UnknownOption)
unfolding options_of source_of together_fault uses_from first_fault letters_at
unknown_before_no_file = refl

-- `-r f -w - -F pcap`
pub written_as_pcap : options_of (codes "-r" ∷ codes "f" ∷ codes "-w" ∷ codes "-" ∷ codes "-F" ∷ codes "pcap" ∷ [])
    ≡ Ok (record { source = Named (codes "f"); filter = None; two = false; kind = Text; names = []; style = default_style; most = None; quiet = false; decode = record { rules = [] }; reports = []; stats = false; written = Some Pcap })
unfolding options_of source_of together_fault uses_from first_fault letters_at
written_as_pcap = refl

-- `-w- -rf`
pub written_as_pcapng : options_of (codes "-w-" ∷ codes "-rf" ∷ [])
    ≡ Ok (record { source = Named (codes "f"); filter = None; two = false; kind = Text; names = []; style = default_style; most = None; quiet = false; decode = record { rules = [] }; reports = []; stats = false; written = Some Pcapng })
unfolding options_of source_of together_fault uses_from first_fault letters_at
written_as_pcapng = refl

-- `-r f -F pcap`: a format is of use for a capture that is written
pub format_alone : options_of (codes "-r" ∷ codes "f" ∷ codes "-F" ∷ codes "pcap" ∷ []) ≡ Err (fault 3 Unused)
unfolding options_of source_of together_fault uses_from first_fault letters_at
format_alone = refl

-- `-q -r f -w -`: the word up to which both stand
pub written_quietly : options_of (codes "-q" ∷ codes "-r" ∷ codes "f" ∷ codes "-w" ∷ codes "-" ∷ []) ≡ Err (fault 4 Clash)
unfolding options_of source_of together_fault uses_from first_fault letters_at
written_quietly = refl

-- `-w - -T text -r f`
pub written_with_kind : options_of (codes "-w" ∷ codes "-" ∷ codes "-T" ∷ codes "text" ∷ codes "-r" ∷ codes "f" ∷ []) ≡ Err (fault 3 Clash)
unfolding options_of source_of together_fault uses_from first_fault letters_at
written_with_kind = refl

-- `--self-run 42,200000`
pub generated_capture : options_of (codes "--self-run" ∷ codes "42,200000" ∷ [])
    ≡ Ok (record { source = Generated 42 200000; filter = None; two = false; kind = Text; names = []; style = default_style; most = None; quiet = false; decode = record { rules = [] }; reports = []; stats = false; written = None })
unfolding options_of source_of together_fault uses_from first_fault letters_at generated_by decimal_of digits_read
generated_capture = refl

-- `--self-run 0,200001`
pub too_many_generated : options_of (codes "--self-run" ∷ codes "0,200001" ∷ []) ≡ Err (fault 2 BadValue)
unfolding options_of source_of together_fault uses_from first_fault letters_at generated_by decimal_of digits_read
too_many_generated = refl

-- `--self-run 1,1 -r f`: a second capture
pub second_capture : options_of (codes "--self-run" ∷ codes "1,1" ∷ codes "-r" ∷ codes "f" ∷ []) ≡ Err (fault 3 Repeated)
unfolding options_of source_of together_fault uses_from first_fault letters_at generated_by decimal_of digits_read
second_capture = refl

-- `-r f -Y arp --filter-stats`
pub steps_asked : options_of (codes "-r" ∷ codes "f" ∷ codes "-Y" ∷ codes "arp" ∷ codes "--filter-stats" ∷ [])
    ≡ Ok (record { source = Named (codes "f"); filter = Some (codes "arp"); two = false; kind = Text; names = []; style = default_style; most = None; quiet = false; decode = record { rules = [] }; reports = []; stats = true; written = None })
unfolding options_of source_of together_fault uses_from first_fault letters_at
steps_asked = refl

-- `-r f --filter-stats -Y " "`: a blank filter is none
pub steps_of_none : options_of (codes "-r" ∷ codes "f" ∷ codes "--filter-stats" ∷ codes "-Y" ∷ codes " " ∷ []) ≡ Err (fault 3 Unused)
unfolding options_of source_of together_fault uses_from first_fault letters_at
steps_of_none = refl
