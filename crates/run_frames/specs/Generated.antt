-- A capture that a number stands for.
use Rattle.std.specs.Prelude.{◌≤◌, ℕ}

-- the number, and how many frames the capture has
pub record GeneratedShown : Type 0 where
  pub start : ℕ
  pub frames : ℕ

-- from 1 to 200,000 of them
pub record IsGenerated (capture : GeneratedShown) : Type 0 where
  pub some : 1 ≤ capture.frames
  pub most : capture.frames ≤ 200000
