-- The options of a TCP header, which fill it from byte 20 to its end (RFC 9293, 3.2).
--
--    end of the list      no operation      any other: the length counts all bytes of the option
--    +---------+          +---------+       +---------+---------+---- - -
--    |    0    |          |    1    |       |  kind   | length  |  data ..
--    +---------+          +---------+       +---------+---------+---- - -
--
--    maximum segment size (RFC 9293, 3.7.1)             window scale (RFC 7323, 2.2)
--    +---------+---------+---------+---------+          +---------+---------+---------+
--    |    2    |    4    |        MSS        |          |    3    |    3    |  shift  |
--    +---------+---------+---------+---------+          +---------+---------+---------+
--
--    SACK permitted (RFC 2018, 2)
--    +---------+---------+
--    |    4    |    2    |
--    +---------+---------+
--
--    SACK (RFC 2018, 3): n blocks
--    +---------+---------+-----------------------------+-----------------------------+---- - -
--    |    5    | 2 + 8 n |   left edge of 1st block    |   right edge of 1st block   |  ..
--    +---------+---------+-----------------------------+-----------------------------+---- - -
--
--    timestamps (RFC 7323, 3.2)
--    +---------+---------+-----------------------------+-----------------------------+
--    |    8    |   10    |     timestamp's value       |         echo reply          |
--    +---------+---------+-----------------------------+-----------------------------+
use Rattle.std.specs.Prelude.{◌==◌, ◌≤◌, ℕ, ◌+◌, ◌-◌, ◌/◌, ◌%◌, ◌&&◌, if◌then◌else◌, List, [], ◌∷◌, length, nat_le, slice_index}
use Rattle.pk_fields.specs.Ids.{TCP_OPTION_KIND, TCP_OPTION_LEN, TCP_OPTIONS_MSS_VAL, TCP_OPTIONS_WSCALE_SHIFT, TCP_OPTIONS_SACK_PERM, TCP_OPTIONS_SACK_LE, TCP_OPTIONS_SACK_RE, TCP_OPTIONS_TIMESTAMP_TSVAL, TCP_OPTIONS_TIMESTAMP_TSECR, TCP_OPTIONS_BAD}
use Rattle.pk_tree.specs.declared.layout.Step.{Step}
use Rattle.pk_tree.specs.declared.layout.Step.TheVariants.{Row, Part}
use Rattle.pk_tree.specs.Entries.{Entry, ReadsTo, goes_on, ends, repeated}

-- a block of a SACK option
abbrev pub sack_block : ℕ → Entry
sack_block at =
    goes_on (Row TCP_OPTIONS_SACK_LE at ∷ Row TCP_OPTIONS_SACK_RE (at + 4) ∷ []) (at + 8)

-- the rows of an option's data by its kind and its length, at its first byte; of other kinds, and of another length than
-- the kind's, there are none
unfoldable pub option_data : ℕ → ℕ → ℕ → List Step
option_data kind len at =
    if kind == 2 && len == 4 then Row TCP_OPTIONS_MSS_VAL (at + 2) ∷ []
    else (if kind == 3 && len == 3 then Row TCP_OPTIONS_WSCALE_SHIFT (at + 2) ∷ []
    else (if kind == 4 && len == 2 then Part TCP_OPTIONS_SACK_PERM at 2 ∷ []
    else (if kind == 5 && len % 8 == 2 then (repeated (len / 8) sack_block (at + 2)).steps
    else (if kind == 8 && len == 10
    then Row TCP_OPTIONS_TIMESTAMP_TSVAL (at + 2) ∷ Row TCP_OPTIONS_TIMESTAMP_TSECR (at + 6)
    ∷ []
    else []))))

-- an option that has a length; one that is too short for its two first bytes, or longer than what is left of the header,
-- ends the list
unfoldable pub option_with_length : ℕ → ℕ → ℕ → ℕ → Entry
option_with_length kind len at end =
    if nat_le 2 len && nat_le len (end - at)
    then goes_on (Row TCP_OPTION_KIND at ∷ Row TCP_OPTION_LEN (at + 1) ∷ option_data kind len at)
    (at + len)
    else ends (Part TCP_OPTIONS_BAD at (end - at) ∷ [])

-- the option at a place in a header; a length byte that isn't there counts as 0
unfoldable pub option_at : List ℕ → ℕ → Entry
option_at header at =
    if nat_le (length header) at then ends []
    else (if slice_index header at == 0 then ends (Row TCP_OPTION_KIND at ∷ [])
    else (if slice_index header at == 1 then goes_on (Row TCP_OPTION_KIND at ∷ []) (at + 1)
    else option_with_length (slice_index header at) (slice_index header (at + 1)) at
    (length header)))

-- a header has at most 60 bytes, and so at most 40 options: these are all of them (AllOptions)
unfoldable pub tcp_options : List ℕ → Entry
tcp_options header = repeated 40 (option_at header) 20

-- of a header's options none is left out
abbrev pub AllOptions : Type 0
AllOptions = (header : List ℕ) → length header ≤ 60 → ReadsTo (length header) (tcp_options header)

-- the fields of the options
abbrev pub option_fields : List ℕ
option_fields =
    TCP_OPTION_KIND ∷
    TCP_OPTION_LEN ∷
    TCP_OPTIONS_MSS_VAL ∷
    TCP_OPTIONS_WSCALE_SHIFT ∷
    TCP_OPTIONS_SACK_PERM ∷
    TCP_OPTIONS_SACK_LE ∷
    TCP_OPTIONS_SACK_RE ∷
    TCP_OPTIONS_TIMESTAMP_TSVAL ∷
    TCP_OPTIONS_TIMESTAMP_TSECR ∷
    TCP_OPTIONS_BAD ∷
    []
