use Rattle.std.proofs.Common.{List, ℕ, Option, IfOk, subst}
use Rattle.out_lines.specs.Joined.{IsTextPut}
use Rattle.out_lines.proofs.HeadersLemmas.{address_at, nothing_put}
use Rattle.out_lines.proofs.headers_summary.put_ip_address.Goals as goal

pub returns-then-place-headers : goal.returns-then-place-headers
returns-then-place-headers c =
    subst (λ (text : Option (List ℕ)). IfOk c.put_value_in.result (λ there. IsTextPut text there c.args.line.now c.put_value_in.new.line))
    (address_at c.args.four c.args.six c.first_ip-place.result c.address_field-field.result c.args.outline.now c.headers-headers.result.now c.index-headers-place.result c.headers-headers.ensures
    c.first_ip-place.ensures c.if-place-headers.true c.address_field-field.ensures) c.put_value_in.ensures

pub returns-else-place-headers : goal.returns-else-place-headers
returns-else-place-headers c =
    nothing_put c.args.four c.args.six c.first_ip-place.result c.args.outline.now c.headers-headers.result.now c.args.line.now c.headers-headers.ensures c.first_ip-place.ensures c.if-place-headers.false
