-- How a program ends behind its run: the number that it ends with, and what is told.
use Rattle.std.specs.Prelude.{◌≡◌, ◌==◌, if◌then◌else◌, ℕ, List, Option}
use Rattle.pk_outside.specs.Outside.{AppendsPart, HandsOn, Rose}

-- the number of a program whose output couldn't be written, and of one that found no memory for its answer
abbrev pub write_fault_number : ℕ
write_fault_number = 8

abbrev pub no_memory_number : ℕ
no_memory_number = 9

-- the run's own number, where the text that it tells found memory
abbrev pub told_number : ℕ → ℕ → ℕ
told_number number starved = if starved == 0 then number else no_memory_number

-- the output was handed on whole, and then the text was told, as far as it was taken
pub record EndsWhole (number result starved : ℕ) (text : List ℕ) (waiting_old handed_old waiting_new handed_new : Option (List ℕ))
    (told_old told_new : Option (List ℕ)) : Type 0 where
  pub ends : result ≡ told_number number starved
  pub hands_on : HandsOn waiting_old handed_old waiting_new handed_new
  pub tells : AppendsPart told_old told_new text

-- the output couldn't be handed on, which was counted, and nothing was told
pub record EndsBroken (result failures_old failures_new : ℕ) {E : Type 0} (err_old err_new : E) : Type 0 where
  pub ends : result ≡ write_fault_number
  pub fails : Rose failures_old failures_new
  pub untold : err_new ≡ err_old
