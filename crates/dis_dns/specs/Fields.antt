-- The fields that a message's rows are shown as: those of the Domain Name System, and those of multicast DNS, which has the
-- same messages (RFC 6762, 18) but for the top bit of a class, and whose services are read (RFC 2782).
use Rattle.std.specs.Prelude.{Some, None}
use Rattle.pk_fields.specs.Ids.{DNS, DNS_ID, DNS_FLAGS, DNS_FLAGS_RESPONSE, DNS_FLAGS_OPCODE, DNS_FLAGS_AUTHORITATIVE, DNS_FLAGS_TRUNCATED, DNS_FLAGS_RECDESIRED, DNS_FLAGS_RECAVAIL, DNS_FLAGS_Z, DNS_FLAGS_AUTHENTICATED, DNS_FLAGS_CHECKDISABLE, DNS_FLAGS_RCODE, DNS_COUNT_QUERIES, DNS_COUNT_ANSWERS, DNS_COUNT_AUTH_RR, DNS_COUNT_ADD_RR, DNS_QRY_NAME, DNS_QRY_TYPE, DNS_QRY_CLASS, DNS_RESP_NAME, DNS_RESP_TYPE, DNS_RESP_CLASS, DNS_RESP_TTL, DNS_RESP_LEN, DNS_A, DNS_AAAA, DNS_NS, DNS_CNAME, DNS_PTR_DOMAIN_NAME, DNS_MX_PREFERENCE, DNS_MX_MAIL_EXCHANGE, DNS_SOA_MNAME, DNS_SOA_RNAME, DNS_SOA_SERIAL_NUMBER, DNS_SOA_REFRESH_INTERVAL, DNS_SOA_RETRY_INTERVAL, DNS_SOA_EXPIRE_LIMIT, DNS_SOA_MINIMUM_TTL, DNS_TXT, DNS_DATA}
use Rattle.pk_fields.specs.Ids.{MDNS, MDNS_ID, MDNS_FLAGS, MDNS_FLAGS_RESPONSE, MDNS_FLAGS_OPCODE, MDNS_FLAGS_AUTHORITATIVE, MDNS_FLAGS_TRUNCATED, MDNS_FLAGS_RECDESIRED, MDNS_FLAGS_RECAVAIL, MDNS_FLAGS_Z, MDNS_FLAGS_AUTHENTICATED, MDNS_FLAGS_CHECKDISABLE, MDNS_FLAGS_RCODE, MDNS_COUNT_QUERIES, MDNS_COUNT_ANSWERS, MDNS_COUNT_AUTH_RR, MDNS_COUNT_ADD_RR, MDNS_QRY_NAME, MDNS_QRY_TYPE, MDNS_QRY_QU, MDNS_QRY_CLASS, MDNS_RESP_NAME, MDNS_RESP_TYPE, MDNS_RESP_CACHE_FLUSH, MDNS_RESP_CLASS, MDNS_RESP_TTL, MDNS_RESP_LEN, MDNS_A, MDNS_AAAA, MDNS_NS, MDNS_CNAME, MDNS_PTR_DOMAIN_NAME, MDNS_MX_PREFERENCE, MDNS_MX_MAIL_EXCHANGE, MDNS_SOA_MNAME, MDNS_SOA_RNAME, MDNS_SOA_SERIAL_NUMBER, MDNS_SOA_REFRESH_INTERVAL, MDNS_SOA_RETRY_INTERVAL, MDNS_SOA_EXPIRE_LIMIT, MDNS_SOA_MINIMUM_TTL, MDNS_SRV_PRIORITY, MDNS_SRV_WEIGHT, MDNS_SRV_PORT, MDNS_SRV_TARGET, MDNS_TXT, MDNS_DATA}
use Rattle.dis_dns.specs.declared.fields.ClassFields.TheVariants.{Full, Split}
use Rattle.dis_dns.specs.declared.fields.DataFields.{DataFields}
use Rattle.dis_dns.specs.declared.fields.DnsFields.{DnsFields}
use Rattle.dis_dns.specs.declared.fields.HeaderFields.{HeaderFields}
use Rattle.dis_dns.specs.declared.fields.QuestionFields.{QuestionFields}
use Rattle.dis_dns.specs.declared.fields.RecordFields.{RecordFields}
use Rattle.dis_dns.specs.declared.fields.ServiceFields.{ServiceFields}
use Rattle.dis_dns.specs.declared.fields.ZoneFields.{ZoneFields}

unfoldable pub dns_header : HeaderFields
dns_header = record {
  id = DNS_ID;
  flags = DNS_FLAGS;
  response = DNS_FLAGS_RESPONSE;
  opcode = DNS_FLAGS_OPCODE;
  authoritative = DNS_FLAGS_AUTHORITATIVE;
  truncated = DNS_FLAGS_TRUNCATED;
  recursion_desired = DNS_FLAGS_RECDESIRED;
  recursion_available = DNS_FLAGS_RECAVAIL;
  reserved = DNS_FLAGS_Z;
  authenticated = DNS_FLAGS_AUTHENTICATED;
  checking_disabled = DNS_FLAGS_CHECKDISABLE;
  response_code = DNS_FLAGS_RCODE;
  questions = DNS_COUNT_QUERIES;
  answers = DNS_COUNT_ANSWERS;
  name_servers = DNS_COUNT_AUTH_RR;
  further_records = DNS_COUNT_ADD_RR;
}

unfoldable pub dns_question : QuestionFields
dns_question = record { name = DNS_QRY_NAME; kind = DNS_QRY_TYPE; class = Full DNS_QRY_CLASS }

unfoldable pub dns_record : RecordFields
dns_record = record {
  name = DNS_RESP_NAME;
  kind = DNS_RESP_TYPE;
  class = Full DNS_RESP_CLASS;
  time_to_live = DNS_RESP_TTL;
  len = DNS_RESP_LEN;
}

unfoldable pub dns_zone : ZoneFields
dns_zone = record {
  server = DNS_SOA_MNAME;
  mailbox = DNS_SOA_RNAME;
  serial = DNS_SOA_SERIAL_NUMBER;
  refresh = DNS_SOA_REFRESH_INTERVAL;
  retry = DNS_SOA_RETRY_INTERVAL;
  expire = DNS_SOA_EXPIRE_LIMIT;
  minimum = DNS_SOA_MINIMUM_TTL;
}

unfoldable pub dns_data : DataFields
dns_data = record {
  address = DNS_A;
  address_6 = DNS_AAAA;
  name_server = DNS_NS;
  canonical_name = DNS_CNAME;
  pointer = DNS_PTR_DOMAIN_NAME;
  preference = DNS_MX_PREFERENCE;
  mail_exchange = DNS_MX_MAIL_EXCHANGE;
  zone = dns_zone;
  text = DNS_TXT;
  service = None;
  other = DNS_DATA;
}

unfoldable pub dns_fields : DnsFields
dns_fields = record {
  protocol = DNS;
  header = dns_header;
  question = dns_question;
  record_head = dns_record;
  record_data = dns_data;
}

unfoldable pub mdns_header : HeaderFields
mdns_header = record {
  id = MDNS_ID;
  flags = MDNS_FLAGS;
  response = MDNS_FLAGS_RESPONSE;
  opcode = MDNS_FLAGS_OPCODE;
  authoritative = MDNS_FLAGS_AUTHORITATIVE;
  truncated = MDNS_FLAGS_TRUNCATED;
  recursion_desired = MDNS_FLAGS_RECDESIRED;
  recursion_available = MDNS_FLAGS_RECAVAIL;
  reserved = MDNS_FLAGS_Z;
  authenticated = MDNS_FLAGS_AUTHENTICATED;
  checking_disabled = MDNS_FLAGS_CHECKDISABLE;
  response_code = MDNS_FLAGS_RCODE;
  questions = MDNS_COUNT_QUERIES;
  answers = MDNS_COUNT_ANSWERS;
  name_servers = MDNS_COUNT_AUTH_RR;
  further_records = MDNS_COUNT_ADD_RR;
}

-- the top bit of a question's class asks for an answer to the asker alone (RFC 6762, 18.12)
unfoldable pub mdns_question : QuestionFields
mdns_question =
    record { name = MDNS_QRY_NAME; kind = MDNS_QRY_TYPE; class = Split MDNS_QRY_QU MDNS_QRY_CLASS }

-- that of a record's class says that the record replaces those kept before (RFC 6762, 18.13)
unfoldable pub mdns_record : RecordFields
mdns_record = record {
  name = MDNS_RESP_NAME;
  kind = MDNS_RESP_TYPE;
  class = Split MDNS_RESP_CACHE_FLUSH MDNS_RESP_CLASS;
  time_to_live = MDNS_RESP_TTL;
  len = MDNS_RESP_LEN;
}

unfoldable pub mdns_zone : ZoneFields
mdns_zone = record {
  server = MDNS_SOA_MNAME;
  mailbox = MDNS_SOA_RNAME;
  serial = MDNS_SOA_SERIAL_NUMBER;
  refresh = MDNS_SOA_REFRESH_INTERVAL;
  retry = MDNS_SOA_RETRY_INTERVAL;
  expire = MDNS_SOA_EXPIRE_LIMIT;
  minimum = MDNS_SOA_MINIMUM_TTL;
}

unfoldable pub mdns_service : ServiceFields
mdns_service = record {
  priority = MDNS_SRV_PRIORITY;
  weight = MDNS_SRV_WEIGHT;
  port = MDNS_SRV_PORT;
  target = MDNS_SRV_TARGET;
}

unfoldable pub mdns_data : DataFields
mdns_data = record {
  address = MDNS_A;
  address_6 = MDNS_AAAA;
  name_server = MDNS_NS;
  canonical_name = MDNS_CNAME;
  pointer = MDNS_PTR_DOMAIN_NAME;
  preference = MDNS_MX_PREFERENCE;
  mail_exchange = MDNS_MX_MAIL_EXCHANGE;
  zone = mdns_zone;
  text = MDNS_TXT;
  service = Some mdns_service;
  other = MDNS_DATA;
}

unfoldable pub mdns_fields : DnsFields
mdns_fields = record {
  protocol = MDNS;
  header = mdns_header;
  question = mdns_question;
  record_head = mdns_record;
  record_data = mdns_data;
}
