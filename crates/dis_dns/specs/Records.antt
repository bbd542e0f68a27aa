-- The questions and records of a message (RFC 1035, 4.1.2 and 4.1.3), and a record's data by its type, shown as these fields.
--
--    a question                                  a record
--    +---------- - - ------------------+         +---------- - - ------------------+
--    |              name               |         |              name               |
--    +----------------+----------------+         +----------------+----------------+
--    |      type      |     class      |         |      type      |     class      |
--    +----------------+----------------+         +----------------+----------------+
--                                                |          time to live           |
--                                                +----------------+------- - - ----+
--                                                | data's length  |     data ..    |
--                                                +----------------+------- - - ----+
--
-- Places count from the message's first byte; the layer begins `base` bytes before it.
use Rattle.std.specs.Prelude.{◌==◌, ℕ, ◌+◌, ◌-◌, ◌*◌, min, ◌&&◌, false, if◌then◌else◌, List, [], ◌∷◌, ◌++◌, length, nat_le, slice_index, Option, Some, None}
use Rattle.pk_tree.specs.declared.layout.Step.{Step}
use Rattle.pk_tree.specs.declared.layout.Step.TheVariants.{Row, Part, Whole, Derived, Check, Room}
use Rattle.pk_base.specs.declared.value.Value.TheVariants as values
use Rattle.pk_tree.specs.Entries.{Entry, goes_on, ends, then_on, repeated}
use Rattle.pk_tree.specs.Layouts.{peeked}
use Rattle.dis_dns.specs.declared.fields.ClassFields.{ClassFields}
use Rattle.dis_dns.specs.declared.fields.ClassFields.TheVariants.{Full, Split}
use Rattle.dis_dns.specs.declared.fields.DataFields.{DataFields}
use Rattle.dis_dns.specs.declared.fields.DnsFields.{DnsFields}
use Rattle.dis_dns.specs.declared.fields.QuestionFields.{QuestionFields}
use Rattle.dis_dns.specs.declared.fields.RecordFields.{RecordFields}
use Rattle.dis_dns.specs.declared.fields.ServiceFields.{ServiceFields}
use Rattle.dis_dns.specs.declared.fields.ZoneFields.{ZoneFields}
use Rattle.dis_dns.specs.declared.names.NameEnd.{NameEnd}
use Rattle.dis_dns.specs.declared.names.NameEnd.TheVariants.{Name, Leaves, Fails}
use Rattle.dis_dns.specs.Names.{name_at}

-- the number in two bytes from a place on, or 0 where they aren't there
abbrev pub word_at : List ℕ → ℕ → ℕ
word_at bytes at = peeked bytes (8 * at) 16

-- the root's name has no labels: `<Root>`
abbrev pub shown_name : List ℕ → List ℕ
shown_name [] = 60 ∷ 82 ∷ 111 ∷ 111 ∷ 116 ∷ 62 ∷ []
shown_name (letter ∷ text) = letter ∷ text

-- a name that ends so, with the text of its labels: its item spans its first run; a run that goes past its end is a row
-- that doesn't fit, and what else is no name a condition that fails
abbrev pub name_of : ℕ → ℕ → ℕ → NameEnd → List ℕ → Entry
name_of base field place (Name after) text =
    goes_on (Derived field (values.Text (shown_name text)) (base + place) (after - place) ∷ [])
    after
name_of base field place Leaves text = ends (Room false ∷ [])
name_of base field place Fails text = ends (Check false ∷ [])

-- the name at a place, whose first run may not go past an end
unfoldable pub name_entry : ℕ → List ℕ → ℕ → ℕ → ℕ → Entry
name_entry base bytes field end place =
    name_of base field place (name_at bytes end place).0 (name_at bytes end place).1

-- a class: all of its bits, or the top bit and then the others
abbrev pub class_rows : ClassFields → ℕ → List Step
class_rows (Full class) at = Row class at ∷ []
class_rows (Split top class) at = Row top at ∷ Row class at ∷ []

abbrev pub question_tail : QuestionFields → ℕ → ℕ → Entry
question_tail fields base at =
    goes_on (Row fields.kind (base + at) ∷ class_rows fields.class (base + at + 2)) (at + 4)

unfoldable pub question : QuestionFields → ℕ → List ℕ → ℕ → Entry
question fields base bytes at =
    then_on (name_entry base bytes fields.name (length bytes) at) (question_tail fields base)

-- a row of a record's data, which ends at a place: so many bytes of it must fit there
abbrev pub data_row : ℕ → ℕ → ℕ → ℕ → ℕ → List Step
data_row base end field at len = Room (nat_le (at + len) end) ∷ Row field (base + at) ∷ []

-- a mail exchange (RFC 1035, 3.3.9)
unfoldable pub mail_data : DataFields → ℕ → List ℕ → ℕ → ℕ → List Step
mail_data fields base bytes at end =
    data_row base end fields.preference at 2
    ++ (name_entry base bytes fields.mail_exchange (min end (length bytes)) (at + 2)).steps

-- a service (RFC 2782)
unfoldable pub service_data : ServiceFields → ℕ → List ℕ → ℕ → ℕ → List Step
service_data fields base bytes at end =
    data_row base end fields.priority at 2 ++
    data_row base end fields.weight (at + 2) 2 ++
    data_row base end fields.port (at + 4) 2 ++
    (name_entry base bytes fields.target (min end (length bytes)) (at + 6)).steps

-- where it has no fields it is as data of another type
abbrev pub service_or_data : Option ServiceFields → ℕ → ℕ → List ℕ → ℕ → ℕ → List Step
service_or_data (Some service) other base bytes at len =
    service_data service base bytes at (at + len)
service_or_data None other base bytes at len = Part other (base + at) len ∷ []

-- the numbers of a zone's start of authority
unfoldable pub zone_numbers : ZoneFields → ℕ → ℕ → ℕ → Entry
zone_numbers fields base end at = goes_on
    (data_row base end fields.serial at 4 ++
    data_row base end fields.refresh (at + 4) 4 ++
    data_row base end fields.retry (at + 8) 4 ++
    data_row base end fields.expire (at + 12) 4 ++
    data_row base end fields.minimum (at + 16) 4)
    (at + 20)

-- a zone's start of authority (RFC 1035, 3.3.13)
unfoldable pub zone_data : ZoneFields → ℕ → List ℕ → ℕ → ℕ → Entry
zone_data fields base bytes at end =
    then_on (name_entry base bytes fields.server (min end (length bytes)) at)
    (λ at. then_on (name_entry base bytes fields.mailbox (min end (length bytes)) at)
    (zone_numbers fields base end))

-- a string of a text: a length and so many bytes (RFC 1035, 3.3); none begins at the data's end, and one whose length
-- isn't there doesn't fit
unfoldable pub text_string : ℕ → List ℕ → ℕ → ℕ → ℕ → Entry
text_string base bytes field end at =
    if nat_le end at then ends []
    else (if nat_le (length bytes) at then ends (Room false ∷ [])
    else goes_on
    (Room (nat_le (at + 1 + slice_index bytes at) end)
    ∷ Whole field (base + at + 1) (slice_index bytes at) ∷ [])
    (at + 1 + slice_index bytes at))

-- the data of a type, of so many bytes from a place on: addresses (RFC 1035, 3.4.1; RFC 3596, 2.2), names (RFC 1035,
-- 3.3.1, 3.3.11 and 3.3.12), and texts (3.3.14); what is left of the data behind these rows is passed over
unfoldable pub data_steps : DataFields → ℕ → List ℕ → ℕ → ℕ → ℕ → List Step
data_steps fields base bytes kind at len =
    if kind == 1 && len == 4 then Row fields.address (base + at) ∷ []
    else (if kind == 28 && len == 16 then Row fields.address_6 (base + at) ∷ []
    else (if kind == 2 then (name_entry base bytes fields.name_server
    (min (at + len) (length bytes)) at).steps
    else (if kind == 5 then (name_entry base bytes fields.canonical_name
    (min (at + len) (length bytes)) at).steps
    else (if kind == 12 then (name_entry base bytes fields.pointer
    (min (at + len) (length bytes)) at).steps
    else (if kind == 15 then mail_data fields base bytes at (at + len)
    else (if kind == 6 then (zone_data fields.zone base bytes at (at + len)).steps
    else (if kind == 16 then (repeated len (text_string base bytes fields.text (at + len)) at).steps
    else (if kind == 33 then service_or_data fields.service fields.other base bytes at len
    else Part fields.other (base + at) len ∷ []))))))))

-- the numbers of a record, at a place of the layer
abbrev pub record_head : RecordFields → ℕ → List Step
record_head fields at =
    Row fields.kind at ∷ class_rows fields.class (at + 2)
    ++ Row fields.time_to_live (at + 4) ∷ Row fields.len (at + 8) ∷ []

-- what follows a record's name; the next record begins behind its data, whose length tells where that is
unfoldable pub record_tail : DnsFields → ℕ → List ℕ → ℕ → Entry
record_tail fields base bytes at = goes_on
    (record_head fields.record_head (base + at)
    ++ data_steps fields.record_data base bytes (word_at bytes at) (at + 10)
    (word_at bytes (at + 8)))
    (at + 10 + word_at bytes (at + 8))

unfoldable pub resource : DnsFields → ℕ → List ℕ → ℕ → Entry
resource fields base bytes at =
    then_on (name_entry base bytes fields.record_head.name (length bytes) at)
    (record_tail fields base bytes)
