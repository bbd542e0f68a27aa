-- Each step of a message may stand in the layout of its layer: what that asks of the fields, for any, and that it is so of
-- those of DNS and of multicast DNS.
use Rattle.std.proofs.Common.{◌≡◌, ℕ, ◌+◌, ◌-◌, Bool, true, false, ◌&&◌, if◌then◌else◌, List, [], ◌∷◌, length, drop, refl, rules}
use Rattle.std.specs.Prelude.{nat_le, min, slice_index, IsTrue, is_none}
use Rattle.pk_fields.specs.Fields.{row_of}
use Rattle.pk_fields.specs.Table.{rows}
use Rattle.pk_fields.specs.Ids.{DNS, DNS_LENGTH, MDNS}
use Rattle.pk_fields.specs.declared.value_kind.ValueKind.TheVariants as kinds
use Rattle.pk_tree.specs.declared.layout.Step.{Step}
use Rattle.pk_tree.specs.declared.layout.Step.TheVariants.{Row, Part, Whole, Derived, Check, Room}
use Rattle.pk_base.specs.declared.value.Value.TheVariants as values
use Rattle.pk_tree.specs.Entries.{Entry, ends, repeated}
use Rattle.pk_tree.specs.Layouts.{StepsFit, belongs}
use Rattle.pk_tree.specs.Values.{is_read}
use Rattle.pk_tree.proofs.EntryLemmas.{fit_append, fit_then, fit_repeated}
use Rattle.dis_dns.specs.declared.names.NameEnd.{NameEnd}
use Rattle.dis_dns.specs.declared.names.NameEnd.TheVariants.{Name, Leaves, Fails}
use Rattle.dis_dns.specs.Names.{name_at}
use Rattle.dis_dns.specs.declared.fields.DataFields.{DataFields}
use Rattle.dis_dns.specs.declared.fields.DnsFields.{DnsFields}
use Rattle.dis_dns.specs.declared.fields.ServiceFields.{ServiceFields}
use Rattle.dis_dns.specs.declared.fields.ZoneFields.{ZoneFields}
use Rattle.dis_dns.specs.Fields.{dns_data, dns_fields, dns_header, dns_question, dns_record, dns_zone, mdns_data, mdns_fields, mdns_header, mdns_question, mdns_record, mdns_service, mdns_zone}
use Rattle.dis_dns.specs.Records.{word_at, shown_name, name_of, name_entry, question_tail, question, data_row, mail_data, service_data, service_or_data, zone_numbers, zone_data, text_string, data_steps, record_head, record_tail, resource}
use Rattle.dis_dns.specs.Dns.{header_rows, record_count, sections, message_steps, dns_layout, mdns_layout}

-- a field that is read by its bits, one that is read as bytes, and one that has a text
abbrev IsRow : ℕ → ℕ → Type 0
IsRow proto field = IsTrue (belongs proto field && is_read (row_of field))

abbrev IsPart : ℕ → ℕ → Type 0
IsPart proto field = IsTrue (belongs proto field && is_read (row_of field) && is_none (row_of field).bits)

record IsText (proto field : ℕ) : Type 0 where
  pub own : IsTrue (belongs proto field)
  pub kind : (row_of field).kind ≡ kinds.Text

record ZoneFit (proto : ℕ) (fields : ZoneFields) : Type 0 where
  pub server : IsText proto fields.server
  pub mailbox : IsText proto fields.mailbox
  pub serial : IsRow proto fields.serial
  pub refresh : IsRow proto fields.refresh
  pub retry : IsRow proto fields.retry
  pub expire : IsRow proto fields.expire
  pub minimum : IsRow proto fields.minimum

record DataFit (proto : ℕ) (fields : DataFields) : Type 0 where
  pub address : IsRow proto fields.address
  pub address_6 : IsRow proto fields.address_6
  pub name_server : IsText proto fields.name_server
  pub canonical_name : IsText proto fields.canonical_name
  pub pointer : IsText proto fields.pointer
  pub preference : IsRow proto fields.preference
  pub mail_exchange : IsText proto fields.mail_exchange
  pub zone : ZoneFit proto fields.zone
  pub text : IsPart proto fields.text
  pub service : (base : ℕ) (bytes : List ℕ) (at len : ℕ) → StepsFit proto (service_or_data fields.service fields.other base bytes at len)
  pub other : IsPart proto fields.other

record FieldsFit (fields : DnsFields) : Type 0 where
  pub header : (base : ℕ) → StepsFit fields.protocol (header_rows fields.header base)
  pub question : IsText fields.protocol fields.question.name
  pub question_tail : (base at : ℕ) → StepsFit fields.protocol (question_tail fields.question base at).steps
  pub owner : IsText fields.protocol fields.record_head.name
  pub head : (at : ℕ) → StepsFit fields.protocol (record_head fields.record_head at)
  pub record_data : DataFit fields.protocol fields.record_data

record EntryFits (proto : ℕ) (entry : Entry) : Type 0 where
  pub fits : StepsFit proto entry.steps

entry_if : (proto : ℕ) (b : Bool) (x y : Entry) → EntryFits proto x → EntryFits proto y → EntryFits proto (if b then x else y)
entry_if proto true x y one other = one
entry_if proto false x y one other = other

steps_if : (proto : ℕ) (b : Bool) (xs ys : List Step) → StepsFit proto xs → StepsFit proto ys → StepsFit proto (if b then xs else ys)
steps_if proto true xs ys one other = one
steps_if proto false xs ys one other = other

none_fit : (proto : ℕ) → StepsFit proto []
unfolding StepsFit
none_fit proto = tt

row_fits : (proto field at : ℕ) (steps : List Step) → IsRow proto field → StepsFit proto steps → StepsFit proto (Row field at ∷ steps)
unfolding StepsFit
row_fits proto field at steps own rest = (own, rest)

whole_fits : (proto field at len : ℕ) → IsPart proto field → StepsFit proto (Whole field at len ∷ [])
unfolding StepsFit
whole_fits proto field at len own = (own, tt)

part_fits : (proto field at len : ℕ) → IsPart proto field → StepsFit proto (Part field at len ∷ [])
unfolding StepsFit
part_fits proto field at len own = (own, tt)

room_fits : (proto : ℕ) (room : Bool) (steps : List Step) → StepsFit proto steps → StepsFit proto (Room room ∷ steps)
unfolding StepsFit
room_fits proto room steps rest = (tt, rest)

check_fits : (proto : ℕ) → StepsFit proto (Check false ∷ [])
unfolding StepsFit
check_fits proto = (tt, tt)

text_fits : (proto field at len : ℕ) (text : List ℕ) → IsText proto field → StepsFit proto (Derived field (values.Text text) at len ∷ [])
unfolding StepsFit
text_fits proto field at len text is = ((is.own, rw is.kind tt), tt)

name_of_fits : (proto base field place : ℕ) (end : NameEnd) (text : List ℕ) → IsText proto field → StepsFit proto (name_of base field place end text).steps
name_of_fits proto base field place (Name after) text is = text_fits proto field (base + place) (after - place) (shown_name text) is
name_of_fits proto base field place Leaves text is = room_fits proto false [] (none_fit proto)
name_of_fits proto base field place Fails text is = check_fits proto

name_fits : (proto base : ℕ) (bytes : List ℕ) (field end place : ℕ) → IsText proto field → StepsFit proto (name_entry base bytes field end place).steps
unfolding name_entry
name_fits proto base bytes field end place is = name_of_fits proto base field place (name_at bytes end place).0 (name_at bytes end place).1 is

data_row_fits : (proto base end field at len : ℕ) → IsRow proto field → StepsFit proto (data_row base end field at len)
data_row_fits proto base end field at len own = room_fits proto (nat_le (at + len) end) _ (row_fits proto field (base + at) [] own (none_fit proto))

string_fits : (proto base : ℕ) (bytes : List ℕ) (field end at : ℕ) → IsPart proto field → EntryFits proto (text_string base bytes field end at)
unfolding text_string
string_fits proto base bytes field end at own =
    entry_if proto _ (ends []) _ (record { fits = none_fit proto })
    (entry_if proto _ (ends (Room false ∷ [])) _ (record { fits = room_fits proto false [] (none_fit proto) })
    (record { fits = room_fits proto (nat_le (at + 1 + slice_index bytes at) end) _ (whole_fits proto field (base + at + 1) (slice_index bytes at) own) }))

mail_fits : (proto : ℕ) (fields : DataFields) → DataFit proto fields → (base : ℕ) (bytes : List ℕ) (at end : ℕ) → StepsFit proto (mail_data fields base bytes at end)
unfolding mail_data
mail_fits proto fields fit base bytes at end =
    fit_append proto (data_row base end fields.preference at 2) _ (data_row_fits proto base end fields.preference at 2 fit.preference)
    (name_fits proto base bytes fields.mail_exchange (min end (length bytes)) (at + 2) fit.mail_exchange)

service_fits : (proto : ℕ) (fields : ServiceFields) → IsRow proto fields.priority → IsRow proto fields.weight → IsRow proto fields.port → IsText proto fields.target →
    (base : ℕ) (bytes : List ℕ) (at end : ℕ) → StepsFit proto (service_data fields base bytes at end)
unfolding service_data
service_fits proto fields priority weight port target base bytes at end =
    fit_append proto (data_row base end fields.priority at 2) _ (data_row_fits proto base end fields.priority at 2 priority)
    (fit_append proto (data_row base end fields.weight (at + 2) 2) _ (data_row_fits proto base end fields.weight (at + 2) 2 weight)
    (fit_append proto (data_row base end fields.port (at + 4) 2) _ (data_row_fits proto base end fields.port (at + 4) 2 port)
    (name_fits proto base bytes fields.target (min end (length bytes)) (at + 6) target)))

numbers_fit : (proto : ℕ) (fields : ZoneFields) → ZoneFit proto fields → (base end at : ℕ) → StepsFit proto (zone_numbers fields base end at).steps
unfolding zone_numbers
numbers_fit proto fields fit base end at =
    fit_append proto (data_row base end fields.serial at 4) _ (data_row_fits proto base end fields.serial at 4 fit.serial)
    (fit_append proto (data_row base end fields.refresh (at + 4) 4) _ (data_row_fits proto base end fields.refresh (at + 4) 4 fit.refresh)
    (fit_append proto (data_row base end fields.retry (at + 8) 4) _ (data_row_fits proto base end fields.retry (at + 8) 4 fit.retry)
    (fit_append proto (data_row base end fields.expire (at + 12) 4) _ (data_row_fits proto base end fields.expire (at + 12) 4 fit.expire)
    (data_row_fits proto base end fields.minimum (at + 16) 4 fit.minimum))))

zone_fits : (proto : ℕ) (fields : ZoneFields) → ZoneFit proto fields → (base : ℕ) (bytes : List ℕ) (at end : ℕ) → StepsFit proto (zone_data fields base bytes at end).steps
unfolding zone_data
zone_fits proto fields fit base bytes at end =
    fit_then proto (name_entry base bytes fields.server (min end (length bytes)) at) _ (name_fits proto base bytes fields.server (min end (length bytes)) at fit.server)
    (λ at. fit_then proto (name_entry base bytes fields.mailbox (min end (length bytes)) at) (zone_numbers fields base end) (name_fits proto base bytes fields.mailbox (min end (length bytes)) at fit.mailbox)
    (numbers_fit proto fields fit base end))

data_fits : (proto : ℕ) (fields : DataFields) → DataFit proto fields → (base : ℕ) (bytes : List ℕ) (kind at len : ℕ) → StepsFit proto (data_steps fields base bytes kind at len)
unfolding data_steps
data_fits proto fields fit base bytes kind at len =
    steps_if proto _ _ _ (row_fits proto fields.address (base + at) [] fit.address (none_fit proto))
    (steps_if proto _ _ _ (row_fits proto fields.address_6 (base + at) [] fit.address_6 (none_fit proto))
    (steps_if proto _ _ _ (name_fits proto base bytes fields.name_server (min (at + len) (length bytes)) at fit.name_server)
    (steps_if proto _ _ _ (name_fits proto base bytes fields.canonical_name (min (at + len) (length bytes)) at fit.canonical_name)
    (steps_if proto _ _ _ (name_fits proto base bytes fields.pointer (min (at + len) (length bytes)) at fit.pointer)
    (steps_if proto _ _ _ (mail_fits proto fields fit base bytes at (at + len))
    (steps_if proto _ _ _ (zone_fits proto fields.zone fit.zone base bytes at (at + len))
    (steps_if proto _ _ _ (fit_repeated proto len (text_string base bytes fields.text (at + len)) (λ place. (string_fits proto base bytes fields.text (at + len) place fit.text).fits) at)
    (steps_if proto _ _ _ (fit.service base bytes at len)
    (part_fits proto fields.other (base + at) len fit.other)))))))))

module _ (fields : DnsFields) (fit : FieldsFit fields) where
  question_fits : (base : ℕ) (bytes : List ℕ) (at : ℕ) → StepsFit fields.protocol (question fields.question base bytes at).steps
  unfolding question
  question_fits base bytes at =
      fit_then fields.protocol (name_entry base bytes fields.question.name (length bytes) at) (question_tail fields.question base) (name_fits fields.protocol base bytes fields.question.name (length bytes) at fit.question)
      (fit.question_tail base)

  tail_fits : (base : ℕ) (bytes : List ℕ) (at : ℕ) → StepsFit fields.protocol (record_tail fields base bytes at).steps
  unfolding record_tail
  tail_fits base bytes at =
      fit_append fields.protocol (record_head fields.record_head (base + at)) _ (fit.head (base + at)) (data_fits fields.protocol fields.record_data fit.record_data base bytes (word_at bytes at) (at + 10) (word_at bytes (at + 8)))

  resource_fits : (base : ℕ) (bytes : List ℕ) (at : ℕ) → StepsFit fields.protocol (resource fields base bytes at).steps
  unfolding resource
  resource_fits base bytes at =
      fit_then fields.protocol (name_entry base bytes fields.record_head.name (length bytes) at) (record_tail fields base bytes) (name_fits fields.protocol base bytes fields.record_head.name (length bytes) at fit.owner)
      (tail_fits base bytes)

  sections_fit : (base : ℕ) (bytes : List ℕ) → StepsFit fields.protocol (sections fields base bytes).steps
  unfolding sections
  sections_fit base bytes =
      fit_then fields.protocol (repeated (word_at bytes 4) (question fields.question base bytes) 12) _ (fit_repeated fields.protocol (word_at bytes 4) (question fields.question base bytes) (question_fits base bytes) 12)
      (λ at. fit_repeated fields.protocol (record_count bytes) (resource fields base bytes) (resource_fits base bytes) at)

  message_fits : (base : ℕ) (bytes : List ℕ) → StepsFit fields.protocol (message_steps fields base bytes)
  unfolding message_steps
  message_fits base bytes = fit_append fields.protocol (header_rows fields.header base) _ (fit.header base) (sections_fit base bytes)

dns_zone_fits : ZoneFit DNS dns_zone
unfolding dns_zone row_of rows
dns_zone_fits = record {
  server = record { own = search rules; kind = refl };
  mailbox = record { own = search rules; kind = refl };
  serial = search rules;
  refresh = search rules;
  retry = search rules;
  expire = search rules;
  minimum = search rules;
}

dns_other : IsPart DNS dns_data.other
unfolding dns_data row_of rows
dns_other = search rules

dns_service_fits : (base : ℕ) (bytes : List ℕ) (at len : ℕ) → StepsFit DNS (service_or_data dns_data.service dns_data.other base bytes at len)
unfolding dns_data
dns_service_fits base bytes at len = part_fits DNS dns_data.other (base + at) len dns_other

dns_data_fits : DataFit DNS dns_data
unfolding dns_data row_of rows
dns_data_fits = record {
  address = search rules;
  address_6 = search rules;
  name_server = record { own = search rules; kind = refl };
  canonical_name = record { own = search rules; kind = refl };
  pointer = record { own = search rules; kind = refl };
  preference = search rules;
  mail_exchange = record { own = search rules; kind = refl };
  zone = dns_zone_fits;
  text = search rules;
  service = dns_service_fits;
  other = dns_other;
}

dns_header_fits : (base : ℕ) → StepsFit DNS (header_rows dns_header base)
unfolding header_rows dns_header StepsFit row_of rows
dns_header_fits base = search rules

dns_question_fits : IsText DNS dns_question.name
unfolding dns_question row_of rows
dns_question_fits = record { own = search rules; kind = refl }

dns_tail_fits : (base at : ℕ) → StepsFit DNS (question_tail dns_question base at).steps
unfolding dns_question StepsFit row_of rows
dns_tail_fits base at = search rules

dns_owner_fits : IsText DNS dns_record.name
unfolding dns_record row_of rows
dns_owner_fits = record { own = search rules; kind = refl }

dns_head_fits : (at : ℕ) → StepsFit DNS (record_head dns_record at)
unfolding dns_record StepsFit row_of rows
dns_head_fits at = search rules

dns_fit : FieldsFit dns_fields
unfolding dns_fields
dns_fit = record {
  header = dns_header_fits;
  question = dns_question_fits;
  question_tail = dns_tail_fits;
  owner = dns_owner_fits;
  head = dns_head_fits;
  record_data = dns_data_fits;
}

mdns_zone_fits : ZoneFit MDNS mdns_zone
unfolding mdns_zone row_of rows
mdns_zone_fits = record {
  server = record { own = search rules; kind = refl };
  mailbox = record { own = search rules; kind = refl };
  serial = search rules;
  refresh = search rules;
  retry = search rules;
  expire = search rules;
  minimum = search rules;
}

mdns_target_fits : IsText MDNS mdns_service.target
unfolding mdns_service row_of rows
mdns_target_fits = record { own = search rules; kind = refl }

mdns_priority_fits : IsRow MDNS mdns_service.priority
unfolding mdns_service row_of rows
mdns_priority_fits = search rules

mdns_weight_fits : IsRow MDNS mdns_service.weight
unfolding mdns_service row_of rows
mdns_weight_fits = search rules

mdns_port_fits : IsRow MDNS mdns_service.port
unfolding mdns_service row_of rows
mdns_port_fits = search rules

mdns_service_fits : (base : ℕ) (bytes : List ℕ) (at len : ℕ) → StepsFit MDNS (service_or_data mdns_data.service mdns_data.other base bytes at len)
unfolding mdns_data
mdns_service_fits base bytes at len =
    service_fits MDNS mdns_service mdns_priority_fits mdns_weight_fits mdns_port_fits mdns_target_fits base bytes at (at + len)

mdns_data_fits : DataFit MDNS mdns_data
unfolding mdns_data row_of rows
mdns_data_fits = record {
  address = search rules;
  address_6 = search rules;
  name_server = record { own = search rules; kind = refl };
  canonical_name = record { own = search rules; kind = refl };
  pointer = record { own = search rules; kind = refl };
  preference = search rules;
  mail_exchange = record { own = search rules; kind = refl };
  zone = mdns_zone_fits;
  text = search rules;
  service = mdns_service_fits;
  other = search rules;
}

mdns_header_fits : (base : ℕ) → StepsFit MDNS (header_rows mdns_header base)
unfolding header_rows mdns_header StepsFit row_of rows
mdns_header_fits base = search rules

mdns_question_fits : IsText MDNS mdns_question.name
unfolding mdns_question row_of rows
mdns_question_fits = record { own = search rules; kind = refl }

mdns_tail_fits : (base at : ℕ) → StepsFit MDNS (question_tail mdns_question base at).steps
unfolding mdns_question StepsFit row_of rows
mdns_tail_fits base at = search rules

mdns_owner_fits : IsText MDNS mdns_record.name
unfolding mdns_record row_of rows
mdns_owner_fits = record { own = search rules; kind = refl }

mdns_head_fits : (at : ℕ) → StepsFit MDNS (record_head mdns_record at)
unfolding mdns_record StepsFit row_of rows
mdns_head_fits at = search rules

mdns_fit : FieldsFit mdns_fields
unfolding mdns_fields
mdns_fit = record {
  header = mdns_header_fits;
  question = mdns_question_fits;
  question_tail = mdns_tail_fits;
  owner = mdns_owner_fits;
  head = mdns_head_fits;
  record_data = mdns_data_fits;
}

length_fits : (steps : List Step) → StepsFit DNS steps → StepsFit DNS (Row DNS_LENGTH 0 ∷ steps)
unfolding row_of rows
length_fits steps rest = row_fits DNS DNS_LENGTH 0 steps (search rules) rest

own_message_fits : (base : ℕ) (bytes : List ℕ) → StepsFit DNS (message_steps dns_fields base bytes)
unfolding dns_fields
own_message_fits base bytes = message_fits dns_fields dns_fit base bytes

pub layout_fits : (prefixed : Bool) (bytes : List ℕ) → StepsFit DNS (dns_layout prefixed bytes)
unfolding dns_layout
layout_fits prefixed bytes =
    steps_if DNS prefixed _ _ (length_fits (message_steps dns_fields 2 (drop 2 bytes)) (own_message_fits 2 (drop 2 bytes))) (own_message_fits 0 bytes)

pub mdns_layout_fits : (bytes : List ℕ) → StepsFit MDNS (mdns_layout bytes)
unfolding mdns_layout mdns_fields
mdns_layout_fits bytes = message_fits mdns_fields mdns_fit 0 bytes
