-- The options of a message of neighbour discovery, which stand behind its rows up to its end (RFC 4861, 4.6). The length
-- counts all bytes of the option, in units of 8, and is not 0.
--
--    +---------+---------+---- - -
--    |  type   | length  |  value ..
--    +---------+---------+---- - -
--
--    source and target link-layer address, of an Ethernet (4.6.1; RFC 2464, 6)
--    +---------+---------+---------+---------+---------+---------+---------+---------+
--    |   1 2   |    1    |                          address                          |
--    +---------+---------+---------+---------+---------+---------+---------+---------+
--
--    prefix information (4.6.2)
--    +---------+---------+---------+-+-+-----+---------------------------------------+
--    |    3    |    4    | length  |L|A|     |            valid lifetime             |
--    +---------+---------+---------+-+-+-----+---------------------------------------+
--    |          preferred lifetime           |               reserved                |
--    +---------------------------------------+---------------------------------------+
--    |                              prefix (16 bytes)                                |
--    +-------------------------------------------------------------------------------+
--
--    MTU (4.6.4)
--    +---------+---------+-------------------+---------------------------------------+
--    |    5    |    1    |     reserved      |                  MTU                  |
--    +---------+---------+-------------------+---------------------------------------+
use Rattle.std.specs.Prelude.{◌==◌, ℕ, ◌+◌, ◌-◌, ◌*◌, false, ◌&&◌, ◌||◌, if◌then◌else◌, List, [], ◌∷◌, length, nat_le, slice_index}
use Rattle.pk_fields.specs.Ids.{ND_OPT_TYPE, ND_OPT_LEN, ND_OPT_VALUE, ND_OPT_LLADDR, ND_OPT_PREFIX_LEN, ND_OPT_PREFIX_ONLINK, ND_OPT_PREFIX_AUTO, ND_OPT_PREFIX_VALID, ND_OPT_PREFIX_PREFERRED, ND_OPT_PREFIX, ND_OPT_MTU}
use Rattle.pk_tree.specs.declared.layout.Step.{Step}
use Rattle.pk_tree.specs.declared.layout.Step.TheVariants.{Row, Part, Check}
use Rattle.pk_tree.specs.Entries.{Entry, ReadsTo, goes_on, ends, repeated}

-- the rows of a prefix, from the option's first byte on
abbrev pub prefix_rows : ℕ → List Step
prefix_rows at =
    Row ND_OPT_PREFIX_LEN (at + 2) ∷
    Row ND_OPT_PREFIX_ONLINK (at + 3) ∷
    Row ND_OPT_PREFIX_AUTO (at + 3) ∷
    Row ND_OPT_PREFIX_VALID (at + 4) ∷
    Row ND_OPT_PREFIX_PREFERRED (at + 8) ∷
    Row ND_OPT_PREFIX (at + 16) ∷
    []

-- the rows of an option's value by its type and its length, from the option's first byte on; of other types, and of
-- another length than the type's, there are none
unfoldable pub option_data : ℕ → ℕ → ℕ → List Step
option_data kind len at =
    if (kind == 1 || kind == 2) && len == 1 then Row ND_OPT_LLADDR (at + 2) ∷ []
    else (if kind == 3 && len == 4 then prefix_rows at
    else (if kind == 5 && len == 1 then Row ND_OPT_MTU (at + 4) ∷ []
    else []))

-- an option of a type and a length; the length 0 is no option's, and ends the reading
unfoldable pub option_with_length : ℕ → ℕ → ℕ → Entry
option_with_length kind len at =
    if len == 0 then ends (Row ND_OPT_TYPE at ∷ Row ND_OPT_LEN (at + 1) ∷ Check false ∷ [])
    else goes_on (Row ND_OPT_TYPE at ∷ Row ND_OPT_LEN (at + 1)
    ∷ Part ND_OPT_VALUE (at + 2) (8 * len - 2) ∷ option_data kind len at) (at + 8 * len)

-- the option at a place in a message; a length byte that isn't there is a row that doesn't fit, and counts as 0
unfoldable pub option_at : List ℕ → ℕ → Entry
option_at bytes at =
    if nat_le (length bytes) at then ends []
    else option_with_length (slice_index bytes at) (slice_index bytes (at + 1)) at

-- the options from a place on; a message has fewer options than bytes: these are all of them (AllOptions)
unfoldable pub neigh_options : List ℕ → ℕ → Entry
neigh_options bytes start = repeated (length bytes) (option_at bytes) start

-- of a message's options none is left out
abbrev pub AllOptions : Type 0
AllOptions = (bytes : List ℕ) (start : ℕ) → ReadsTo (length bytes) (neigh_options bytes start)
