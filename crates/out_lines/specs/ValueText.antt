-- The text of a value.
use Rattle.std.specs.Prelude.{ℕ, List, codes, decimal, if◌then◌else◌}
use Rattle.pk_fields.specs.Fields.{row_of}
use Rattle.pk_text.specs.Digits.{hex_shown}
use Rattle.pk_text.specs.Escape.{escaped}
use Rattle.pk_text.specs.Ether.{ether_shown}
use Rattle.pk_text.specs.Ip4.{ip4_shown}
use Rattle.pk_text.specs.Ip6.{ip6_shown}
use Rattle.pk_text.specs.Time.{time_shown}
use Rattle.pk_base.specs.declared.value.Value.{Value}
use Rattle.pk_base.specs.declared.value.Value.TheVariants as values

-- the text of a field's value; that of a protocol's is the protocol's name
unfoldable pub shown_value : ℕ → Value → List ℕ
shown_value field (values.Uint number) = decimal number
shown_value field (values.Bool truth) = if truth then codes "1" else codes "0"
shown_value field (values.Bytes bytes) = hex_shown bytes
shown_value field (values.Text bytes) = escaped bytes
shown_value field (values.Ether address) = ether_shown address
shown_value field (values.Ip4 address) = ip4_shown address
shown_value field (values.Ip6 address) = ip6_shown address
shown_value field (values.Time time) = time_shown time
shown_value field (values.Proto bytes) = (row_of field).name
