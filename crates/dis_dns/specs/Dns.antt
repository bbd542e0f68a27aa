-- Domain Name System messages (RFC 1035, 4.1.1; RFC 4035, 3.2 for the two bits behind the zero).
--
--     0                   1                   2                   3
--     0 1 2 3 4 5 6 7 8 9 0 1 2 3 4 5 6 7 8 9 0 1 2 3 4 5 6 7 8 9 0 1
--    +-------------------------------+-+-------+-+-+-+-+-+-+-+-------+
--    |              id               |Q|opcode |A|T|R|R|Z|A|C| rcode |
--    |                               |R|       |A|C|D|A| |D|D|       |
--    +-------------------------------+-+-------+-+-+-+-+-+-+-+-------+
--    |      number of questions      |       number of answers       |
--    +-------------------------------+-------------------------------+
--    |    number of name servers     |  number of further records    |
--    +-------------------------------+-------------------------------+
--    |  questions, answers, name servers, further records ..
use Rattle.std.specs.Prelude.{ℕ, ◌+◌, Bool, if◌then◌else◌, List, [], ◌∷◌, ◌++◌, drop}
use Rattle.pk_fields.specs.Ids.{DNS_LENGTH}
use Rattle.pk_tree.specs.declared.layout.Step.{Step}
use Rattle.pk_tree.specs.declared.layout.Step.TheVariants.{Row}
use Rattle.pk_tree.specs.Entries.{Entry, then_on, repeated}
use Rattle.dis_dns.specs.declared.fields.DnsFields.{DnsFields}
use Rattle.dis_dns.specs.declared.fields.HeaderFields.{HeaderFields}
use Rattle.dis_dns.specs.Fields.{dns_fields, mdns_fields}
use Rattle.dis_dns.specs.Records.{word_at, question, resource}

unfoldable pub header_rows : HeaderFields → ℕ → List Step
header_rows fields base =
    Row fields.id base ∷
    Row fields.flags (base + 2) ∷
    Row fields.response (base + 2) ∷
    Row fields.opcode (base + 2) ∷
    Row fields.authoritative (base + 2) ∷
    Row fields.truncated (base + 2) ∷
    Row fields.recursion_desired (base + 2) ∷
    Row fields.recursion_available (base + 3) ∷
    Row fields.reserved (base + 3) ∷
    Row fields.authenticated (base + 3) ∷
    Row fields.checking_disabled (base + 3) ∷
    Row fields.response_code (base + 3) ∷
    Row fields.questions (base + 4) ∷
    Row fields.answers (base + 6) ∷
    Row fields.name_servers (base + 8) ∷
    Row fields.further_records (base + 10) ∷
    []

-- the records of the three sections behind the questions
abbrev pub record_count : List ℕ → ℕ
record_count bytes = word_at bytes 6 + word_at bytes 8 + word_at bytes 10

-- the questions, then the records, as many as the header's counts say
unfoldable pub sections : DnsFields → ℕ → List ℕ → Entry
sections fields base bytes =
    then_on (repeated (word_at bytes 4) (question fields.question base bytes) 12)
    (repeated (record_count bytes) (resource fields base bytes))

-- a message before which its layer has so many bytes
unfoldable pub message_steps : DnsFields → ℕ → List ℕ → List Step
message_steps fields base bytes =
    header_rows fields.header base ++ (sections fields base bytes).steps

-- in a stream the message's length stands before it (RFC 1035, 4.2.2)
unfoldable pub dns_layout : Bool → List ℕ → List Step
dns_layout prefixed bytes =
    if prefixed then Row DNS_LENGTH 0 ∷ message_steps dns_fields 2 (drop 2 bytes)
    else message_steps dns_fields 0 bytes

-- a message of multicast DNS, which has no length before it (RFC 6762, 18)
unfoldable pub mdns_layout : List ℕ → List Step
mdns_layout bytes = message_steps mdns_fields 0 bytes
