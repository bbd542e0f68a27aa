-- Network Time Protocol (RFC 5905, 7.3).
--
--     0                   1                   2                   3
--     0 1 2 3 4 5 6 7 8 9 0 1 2 3 4 5 6 7 8 9 0 1 2 3 4 5 6 7 8 9 0 1
--    +---+-----+-----+---------------+---------------+---------------+
--    |LI | VN  |mode |    stratum    |     poll      |   precision   |
--    +---+-----+-----+---------------+---------------+---------------+
--    |                          root delay                           |
--    +---------------------------------------------------------------+
--    |                        root dispersion                        |
--    +---------------------------------------------------------------+
--    |                     reference identifier                      |
--    +---------------------------------------------------------------+
--    |  timestamps of 8 bytes: reference, origin, receive, transmit  |
--    +---------------------------------------------------------------+
--    |  what follows ..                                              |
--
-- Messages for control and for private use (modes 6 and 7) have another form behind their first byte.
use Rattle.std.specs.Prelude.{◌==◌, ℕ, Bool, true, false, not, ◌||◌, List, [], ◌∷◌}
use Rattle.pk_base.specs.declared.span.Span.{Span}
use Rattle.pk_fields.specs.Ids.{NTP_FLAGS_LI, NTP_FLAGS_VN, NTP_FLAGS_MODE, NTP_STRATUM, NTP_PPOLL, NTP_PRECISION, NTP_ROOTDELAY, NTP_ROOTDISPERSION, NTP_REFID, NTP_REFTIME, NTP_ORG, NTP_REC, NTP_XMT}
use Rattle.pk_base.specs.declared.heads.After.{After}
use Rattle.pk_base.specs.declared.heads.Next.TheVariants.{Rest}
use Rattle.pk_tree.specs.declared.layout.Step.{Step}
use Rattle.pk_tree.specs.declared.layout.Step.TheVariants.{Row, Part}
use Rattle.pk_tree.specs.Following.{carried}
use Rattle.pk_tree.specs.Layouts.{peeked}

abbrev pub ntp_mode : List ℕ → ℕ
ntp_mode bytes = peeked bytes 5 3

-- whether messages of a mode tell the time
abbrev pub is_time : ℕ → Bool
is_time mode = not (mode == 6 || mode == 7)

-- the rows of a message that tells the time, or of one of another form
unfoldable pub ntp_rows : Bool → List Step
ntp_rows true =
    Row NTP_FLAGS_LI 0 ∷
    Row NTP_FLAGS_VN 0 ∷
    Row NTP_FLAGS_MODE 0 ∷
    Row NTP_STRATUM 1 ∷
    Row NTP_PPOLL 2 ∷
    Row NTP_PRECISION 3 ∷
    Row NTP_ROOTDELAY 4 ∷
    Row NTP_ROOTDISPERSION 8 ∷
    Part NTP_REFID 12 4 ∷
    Part NTP_REFTIME 16 8 ∷
    Part NTP_ORG 24 8 ∷
    Part NTP_REC 32 8 ∷
    Part NTP_XMT 40 8 ∷
    []
ntp_rows false =
    Row NTP_FLAGS_LI 0 ∷
    Row NTP_FLAGS_VN 0 ∷
    Row NTP_FLAGS_MODE 0 ∷
    []

-- the bytes that these rows are read from
abbrev pub header_size : Bool → ℕ
header_size true = 48
header_size false = 1

abbrev pub ntp_layout : List ℕ → List Step
ntp_layout bytes = ntp_rows (is_time (ntp_mode bytes))

unfoldable pub ntp_after : Span → List ℕ → After
ntp_after span bytes = carried Rest span (header_size (is_time (ntp_mode bytes)))
