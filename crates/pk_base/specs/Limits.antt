-- Limits that contracts name. Those that stand beside lists are unfoldable, since a proof that computes with them takes minutes.
use Rattle.std.specs.Prelude.{ℕ, ◌^◌}

-- the bytes of a capture file that are read at most
unfoldable pub file_limit : ℕ
file_limit = 2 ^ 28

-- the most bytes that are read of a record's or block's frame
abbrev pub captured_limit : ℕ
captured_limit = 262_144
