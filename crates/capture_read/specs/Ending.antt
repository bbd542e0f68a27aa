-- How the reading of a capture file ends.
use Rattle.std.specs.Prelude.{ℕ, Bool, if◌then◌else◌}
use Rattle.pk_base.specs.declared.found.Reason.{Reason}
use Rattle.capture_read.specs.declared.ending.Ending.{Ending}
use Rattle.capture_read.specs.declared.ending.Ending.TheVariants.{Whole, Damaged, TooLarge}

-- where no byte is left of those that are looked at; `large` where the file has more
abbrev pub end_of_bytes : Bool → Ending
end_of_bytes large = if large then TooLarge else Whole

-- damage, with the place of the first byte of the header or record at fault
abbrev pub damage_at : ℕ → Reason → Ending
damage_at at reason = Damaged (record { at = at; reason = reason })

-- a header or record that needs more bytes than those: cut by the file's end, or too large
abbrev pub unfinished : Bool → ℕ → Reason → Ending
unfinished large at reason = if large then TooLarge else damage_at at reason
