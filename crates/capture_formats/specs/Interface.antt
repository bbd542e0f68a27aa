-- The time of a packet: draft-ietf-opsawg-pcapng, section 4.2 (if_tsoffset) and section 4.3 (timestamps).
use Rattle.std.specs.Prelude.{ℕ, ◌+◌, ◌*◌, ◌/◌, ◌^◌, ℤ, pos, ◌+ℤ◌, ◌*ℤ◌}
use Rattle.capture_formats.specs.declared.interface.Interface.{Interface}

-- the nanoseconds since 1970 of a time in ticks, whose high and low 32 bits are given: rounded down, and then the
-- interface's offset in seconds added
abbrev pub nanoseconds : Interface → ℕ → ℕ → ℤ
nanoseconds interface high low =
    pos ((high * 2 ^ 32 + low) * 10 ^ 9 / interface.rate) +ℤ interface.offset *ℤ pos (10 ^ 9)
