-- How two single values are compared.
use Rattle.std.specs.Prelude.{ℕ, ◌-◌, ◌/◌, ◌^◌, ◌&&◌, Bool as Truth, true, false, if◌then◌else◌, List, Option, Some, None, ℤ, option_and_then}
use Rattle.std.specs.Cmp.Lexicographic.{slice_cmp}
use Rattle.std.specs.Option.{option_map, option_or, option_map_or}
use Rattle.std.specs.declared.cmp.Ordering.{Ordering}
use Rattle.std.specs.Ordering.{nat_cmp, int_cmp, is_eq, is_ne, is_lt, is_gt, is_le, is_ge}
use Rattle.flt_typed.specs.Contains.{contains}
use Rattle.flt_typed.specs.Kinds.{kind_of_value, same_class}
use Rattle.flt_typed.specs.declared.relation.Relation.{Relation}
use Rattle.flt_typed.specs.declared.relation.Relation.TheVariants.{Equal, Unequal, Greater, Less, AtLeast, AtMost, Contains}
use Rattle.pk_base.specs.declared.value.Value.{Value}
use Rattle.pk_base.specs.declared.value.Value.TheVariants as values

-- the bytes of a value of their class
abbrev pub octets_of : Value → Option (List ℕ)
octets_of (values.Bytes bytes) = Some bytes
octets_of (values.Text bytes) = Some bytes
octets_of (values.Ether address) = Some address
octets_of (values.Proto bytes) = Some bytes
octets_of value = None

-- the number of a value that is one, or a truth (0 is false), or an address
abbrev pub number_of_truth : Truth → ℕ
number_of_truth true = 1
number_of_truth false = 0

abbrev pub amount_of : Value → Option ℕ
amount_of (values.Uint number) = Some number
amount_of (values.Bool truth) = Some (number_of_truth truth)
amount_of (values.Ip4 address) = Some address
amount_of (values.Ip6 address) = Some address
amount_of value = None

abbrev pub moment_of : Value → Option ℤ
moment_of (values.Time time) = Some time
moment_of value = None

abbrev pub both : {A B : Type 0} → (A → A → B) → Option A → Option A → Option B
both f a b = option_and_then (λ x. option_map (f x) b) a

-- the amount that is compared: of an address, the leading bits alone where there is a prefix length
abbrev pub leading_amount : Option ℕ → Value → Option ℕ
leading_amount (Some prefix) (values.Ip4 address) = Some (address / 2 ^ (32 - prefix))
leading_amount (Some prefix) (values.Ip6 address) = Some (address / 2 ^ (128 - prefix))
leading_amount prefix value = amount_of value

-- the order of two values of one class; others have none. Numbers, truths, addresses and times are ordered as numbers,
-- bytes by the first that differs.
abbrev pub order_within : Option ℕ → Value → Value → Option Ordering
order_within prefix v w =
    option_or (both nat_cmp (leading_amount prefix v) (leading_amount prefix w))
    (option_or (both (slice_cmp nat_cmp) (octets_of v) (octets_of w))
    (both int_cmp (moment_of v) (moment_of w)))

unfoldable pub order_by_leading : Option ℕ → Value → Value → Option Ordering
order_by_leading prefix v w =
    if same_class (kind_of_value v) (kind_of_value w) then order_within prefix v w else None

abbrev pub order_of : Value → Value → Option Ordering
order_of v w = order_by_leading None v w

-- two addresses have the same leading bits
abbrev pub same_leading : ℕ → Value → Value → Truth
same_leading prefix v w = option_map_or is_eq (order_by_leading (Some prefix) v w) false

-- whether a relation holds in an order; none holds where there is no order
abbrev pub holds_in : Relation → Ordering → Truth
holds_in Equal order = is_eq order
holds_in Unequal order = is_ne order
holds_in Greater order = is_gt order
holds_in Less order = is_lt order
holds_in AtLeast order = is_ge order
holds_in AtMost order = is_le order
holds_in Contains order = false

abbrev pub by_order : Relation → Option Ordering → Truth
by_order relation order = option_map_or (holds_in relation) order false

-- whether the bytes of one value have those of another in them
abbrev pub has_inside : Value → Value → Truth
has_inside v w = option_map_or (λ truth. truth) (both contains (octets_of v) (octets_of w)) false

-- whether a left and a right value stand in a relation, where the right one may have a prefix length
unfoldable pub related : Relation → Value → Value → Option ℕ → Truth
related Contains left right prefix = has_inside left right
related relation left right prefix = by_order relation (order_by_leading prefix left right)

-- whether a value lies in a range, from the low end up to and with the high one
unfoldable pub lies_between : Value → Value → Value → Truth
lies_between low high value =
    by_order AtLeast (order_of value low) && by_order AtMost (order_of value high)
