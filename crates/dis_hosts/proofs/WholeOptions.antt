-- How far a message is read, by where its options end.
use Rattle.std.proofs.Common.{◌≡◌, ℕ, zero, suc, ◌+◌, ◌*◌, ◌<◌, ◌≤◌, ◌-◌, Bool, true, false, if◌then◌else◌, List, [], ◌∷◌, length, take, drop, Option, Some, None, refl, ◌∙◌, arith}
use Rattle.std.proofs.lemmas.Bool.Decides.{nat_tests}
use Rattle.std.proofs.lemmas.List.{length-take}
use Rattle.std.proofs.lemmas.List.Sums.{prefix_len-le-length}
use Rattle.std.specs.Prelude.{◌==◌, nat_le, not, ◌&&◌, ◌/◌, ◌%◌, slice_index}
use Rattle.pk_fields.specs.Fields.{row_of}
use Rattle.pk_fields.specs.Ids.{DHCP_TYPE, DHCP_HW_TYPE, DHCP_HW_LEN, DHCP_HOPS, DHCP_ID, DHCP_SECS, DHCP_FLAGS, DHCP_FLAGS_BC, DHCP_IP_CLIENT, DHCP_IP_YOUR, DHCP_IP_SERVER, DHCP_IP_RELAY, DHCP_HW_MAC_ADDR, DHCP_HW_ADDR, DHCP_SERVER, DHCP_FILE, DHCP_COOKIE, DHCP_OPTION_TYPE, DHCP_OPTION_LENGTH, DHCP_OPTION_VALUE, DHCP_OPTION_SUBNET_MASK, DHCP_OPTION_ROUTER, DHCP_OPTION_DOMAIN_NAME_SERVER, DHCP_OPTION_HOSTNAME, DHCP_OPTION_REQUESTED_IP_ADDRESS, DHCP_OPTION_IP_ADDRESS_LEASE_TIME, DHCP_OPTION_DHCP, DHCP_OPTION_DHCP_SERVER_ID}
use Rattle.pk_fields.specs.Table.{rows}
use Rattle.pk_tree.specs.declared.layout.Reach.{Reach}
use Rattle.pk_tree.specs.declared.layout.Reach.TheVariants.{All, Short, Failed}
use Rattle.pk_tree.specs.declared.layout.Step.{Step}
use Rattle.pk_tree.specs.declared.layout.Step.TheVariants.{Row, Part, Check}
use Rattle.pk_tree.specs.Entries.{Entry, goes_on, ends, then_at, repeated}
use Rattle.pk_tree.specs.Layouts.{peeked, reach, step_reach}
use Rattle.pk_tree.specs.Values.{size_of}
use Rattle.pk_tree.proofs.TableLemmas.{reach-append}
use Rattle.dis_hosts.specs.Dhcp.{dhcp_rows, magic_cookie, name_len, room_for}
use Rattle.dis_hosts.specs.DhcpOptions.{address, option_at, option_data, option_with_length}

-- a name lies in its field
name_fits : (bytes : List ℕ) (at size : ℕ) → name_len bytes at size ≤ size
unfolding name_len
name_fits bytes at size =
    omega (arith, prefix_len-le-length (λ byte. not (byte == 0)) (take size (drop at bytes)), length-take size (drop at bytes))

none_all : (end : ℕ) → reach end [] ≡ All
unfolding reach
none_all end = refl

-- steps that are read, before others
row_on : (end field at : ℕ) (steps : List Step) → at + size_of field ≤ end → reach end (Row field at ∷ steps) ≡ reach end steps
unfolding reach step_reach
row_on end field at steps fits =
    let inside : nat_le (at + size_of field) end ≡ true = grind (arith, nat_tests) in
    rw inside refl

part_if : (test fits : Bool) → fits ≡ true → (if test then All else (if fits then All else Short)) ≡ All
part_if true fits inside = refl
part_if false fits inside = rw inside refl

part_on : (end field at len : ℕ) (steps : List Step) → at + len ≤ end → reach end (Part field at len ∷ steps) ≡ reach end steps
unfolding reach step_reach
part_on end field at len steps fits =
    let inside : nat_le (at + len) end ≡ true = grind (arith, nat_tests) in
    rw (part_if (len == 0) (nat_le (at + len) end) inside) refl

row_all : (end field at : ℕ) (steps : List Step) → at + size_of field ≤ end → reach end steps ≡ All → reach end (Row field at ∷ steps) ≡ All
row_all end field at steps fits rest = row_on end field at steps fits ∙ rest

part_all : (end field at len : ℕ) (steps : List Step) → at + len ≤ end → reach end steps ≡ All → reach end (Part field at len ∷ steps) ≡ All
part_all end field at len steps fits rest = part_on end field at len steps fits ∙ rest

-- the rows of a message that has the bytes before the options
room_on : (bytes : List ℕ) (end at size : ℕ) (steps : List Step) → at + size ≤ length bytes → reach end (room_for bytes at size ∷ steps) ≡ reach end steps
unfolding reach step_reach
room_on bytes end at size steps fits =
    let inside : nat_le (at + size) (length bytes) ≡ true = grind (arith, nat_tests) in
    rw inside refl

hardware_on : (end : ℕ) (ethernet : Bool) (steps : List Step) → 240 ≤ end → reach end ((if ethernet then Row DHCP_HW_MAC_ADDR 28 else Part DHCP_HW_ADDR 28 16) ∷ steps) ≡ reach end steps
unfolding row_of rows
hardware_on end true steps long = row_on end DHCP_HW_MAC_ADDR 28 steps (omega arith)
hardware_on end false steps long = part_on end DHCP_HW_ADDR 28 16 steps (omega arith)

name_on : (bytes : List ℕ) (field at size : ℕ) (steps : List Step) → at + size ≤ length bytes → reach (length bytes) (Part field at (name_len bytes at size) ∷ steps) ≡ reach (length bytes) steps
name_on bytes field at size steps fits = part_on (length bytes) field at (name_len bytes at size) steps (omega (arith, name_fits bytes at size))

check_ends : (end : ℕ) (holds : Bool) → reach end (Check holds ∷ []) ≡ (if holds then All else Failed)
unfolding reach step_reach
check_ends end true = refl
check_ends end false = refl

pub rows_by_cookie : (bytes : List ℕ) → 240 ≤ length bytes → reach (length bytes) (dhcp_rows bytes) ≡ (if peeked bytes 1888 32 == magic_cookie then All else Failed)
unfolding dhcp_rows row_of rows
rows_by_cookie bytes long =
    row_on (length bytes) DHCP_TYPE 0 _ (omega arith)
    ∙ row_on (length bytes) DHCP_HW_TYPE 1 _ (omega arith)
    ∙ row_on (length bytes) DHCP_HW_LEN 2 _ (omega arith)
    ∙ row_on (length bytes) DHCP_HOPS 3 _ (omega arith)
    ∙ row_on (length bytes) DHCP_ID 4 _ (omega arith)
    ∙ row_on (length bytes) DHCP_SECS 8 _ (omega arith)
    ∙ row_on (length bytes) DHCP_FLAGS 10 _ (omega arith)
    ∙ row_on (length bytes) DHCP_FLAGS_BC 10 _ (omega arith)
    ∙ row_on (length bytes) DHCP_IP_CLIENT 12 _ (omega arith)
    ∙ row_on (length bytes) DHCP_IP_YOUR 16 _ (omega arith)
    ∙ row_on (length bytes) DHCP_IP_SERVER 20 _ (omega arith)
    ∙ row_on (length bytes) DHCP_IP_RELAY 24 _ (omega arith)
    ∙ hardware_on (length bytes) (peeked bytes 16 8 == 6) _ long
    ∙ room_on bytes (length bytes) 44 64 _ (omega arith)
    ∙ name_on bytes DHCP_SERVER 44 64 _ (omega arith)
    ∙ room_on bytes (length bytes) 108 128 _ (omega arith)
    ∙ name_on bytes DHCP_FILE 108 128 _ (omega arith)
    ∙ row_on (length bytes) DHCP_COOKIE 236 _ (omega arith)
    ∙ check_ends (length bytes) (peeked bytes 1888 32 == magic_cookie)

all_if : (end : ℕ) (b : Bool) (xs ys : List Step) → (b ≡ true → reach end xs ≡ All) → reach end ys ≡ All → reach end (if b then xs else ys) ≡ All
all_if end true xs ys one other = one refl
all_if end false xs ys one other = other

-- the rows of an option's data lie in it
addresses_all : (end field count at : ℕ) → size_of field ≡ 4 → at + 4 * count ≤ end → reach end (repeated count (address field) at).steps ≡ All
unfolding repeated
addresses_all end field zero at four inside = none_all end
addresses_all end field (suc count) at four inside =
    row_all end field at _ (rw four (omega arith)) (addresses_all end field count (at + 4) four (omega arith))

data_all : (end code len at : ℕ) → at + len ≤ end → reach end (option_data code len at) ≡ All
unfolding option_data row_of rows
data_all end code len at inside =
    all_if end (code == 1 && len == 4) _ _ (λ is. row_all end DHCP_OPTION_SUBNET_MASK at [] (grind (arith, nat_tests)) (none_all end))
    (all_if end (code == 3 && len % 4 == 0) _ _ (λ is. addresses_all end DHCP_OPTION_ROUTER (len / 4) at refl (grind (arith, nat_tests)))
    (all_if end (code == 6 && len % 4 == 0) _ _ (λ is. addresses_all end DHCP_OPTION_DOMAIN_NAME_SERVER (len / 4) at refl (grind (arith, nat_tests)))
    (all_if end (code == 12) _ _ (λ is. part_all end DHCP_OPTION_HOSTNAME at len [] inside (none_all end))
    (all_if end (code == 50 && len == 4) _ _ (λ is. row_all end DHCP_OPTION_REQUESTED_IP_ADDRESS at [] (grind (arith, nat_tests)) (none_all end))
    (all_if end (code == 51 && len == 4) _ _ (λ is. row_all end DHCP_OPTION_IP_ADDRESS_LEASE_TIME at [] (grind (arith, nat_tests)) (none_all end))
    (all_if end (code == 53 && len == 1) _ _ (λ is. row_all end DHCP_OPTION_DHCP at [] (grind (arith, nat_tests)) (none_all end))
    (all_if end (code == 54 && len == 4) _ [] (λ is. row_all end DHCP_OPTION_DHCP_SERVER_ID at [] (grind (arith, nat_tests)) (none_all end))
    (none_all end))))))))

-- an entry is read whole where the next one begins inside, or at the end
abbrev pub led : ℕ → Option ℕ → Reach
led end None = All
led end (Some next) = if nat_le next end then All else Short

pub record Leads (end : ℕ) (entry : Entry) : Type 0 where
  pub reach : reach end entry.steps ≡ led end entry.next

leads_if : (end : ℕ) (b : Bool) (x y : Entry) → (b ≡ true → Leads end x) → (b ≡ false → Leads end y) → Leads end (if b then x else y)
leads_if end true x y one other = one refl
leads_if end false x y one other = other refl

leads_in : (end next : ℕ) (steps : List Step) → next ≤ end → reach end steps ≡ All → Leads end (goes_on steps next)
leads_in end next steps inside all =
    let is : nat_le next end ≡ true = grind (arith, nat_tests) in
    record { reach = rw (is, all) refl }

-- a value behind its head that goes past the end
value_short : (end at len : ℕ) (rest : List Step) → at < end → end < at + 2 + len →
    reach end (Row DHCP_OPTION_TYPE at ∷ Row DHCP_OPTION_LENGTH (at + 1) ∷ Part DHCP_OPTION_VALUE (at + 2) len ∷ rest) ≡ Short
unfolding reach step_reach row_of rows
value_short end at len rest inside past =
    let first : nat_le (at + 1) end ≡ true = grind (arith, nat_tests) in
    rw first (by_length (nat_le (at + 1 + 1) end) refl)
  where
    by_length : (test : Bool) → nat_le (at + 1 + 1) end ≡ test → reach end (Row DHCP_OPTION_LENGTH (at + 1) ∷ Part DHCP_OPTION_VALUE (at + 2) len ∷ rest) ≡ Short
    by_length false is = rw is refl
    by_length true is =
        let some : (len == 0) ≡ false = grind (arith, nat_tests) in
        let out : nat_le (at + 2 + len) end ≡ false = grind (arith, nat_tests) in
        rw (is, some, out) refl

with_length_leads : (end code len at : ℕ) → at < end → Leads end (option_with_length code len at)
unfolding option_with_length row_of rows
with_length_leads end code len at inside = by_test (nat_le (at + 2 + len) end) refl
  where
    by_test : (test : Bool) → nat_le (at + 2 + len) end ≡ test → Leads end (option_with_length code len at)
    by_test true is =
        let fits : at + 2 + len ≤ end = grind (arith, nat_tests) in
        leads_in end (at + 2 + len) _ fits
        (row_all end DHCP_OPTION_TYPE at _ (omega arith) (row_all end DHCP_OPTION_LENGTH (at + 1) _ (omega arith) (part_all end DHCP_OPTION_VALUE (at + 2) len _ fits (data_all end code len (at + 2) fits))))
    by_test false is = record { reach = rw is (value_short end at len (option_data code len (at + 2)) inside (grind (arith, nat_tests))) }

pub option_leads : (bytes : List ℕ) (at : ℕ) → Leads (length bytes) (option_at bytes at)
unfolding option_at row_of rows
option_leads bytes at =
    leads_if (length bytes) (nat_le (length bytes) at) (ends []) _ (λ _. record { reach = none_all (length bytes) })
    (λ more. let inside : at < length bytes = grind (arith, nat_tests) in
    let code : reach (length bytes) (Row DHCP_OPTION_TYPE at ∷ []) ≡ All = row_all (length bytes) DHCP_OPTION_TYPE at [] (omega arith) (none_all (length bytes)) in
    leads_if (length bytes) (slice_index bytes at == 0) (goes_on (Row DHCP_OPTION_TYPE at ∷ []) (at + 1)) _ (λ _. leads_in (length bytes) (at + 1) _ (omega arith) code)
    (λ _. leads_if (length bytes) (slice_index bytes at == 255) (ends (Row DHCP_OPTION_TYPE at ∷ [])) _ (λ _. record { reach = code })
    (λ _. with_length_leads (length bytes) (slice_index bytes at) (slice_index bytes (at + 1)) at inside)))

-- a walk over entries: one that goes on, one that ends, and one that isn't read whole
module _ (end count done at : ℕ) (one : ℕ → Entry) (more : done < count) (leads : Leads end (one at)) where
  entry_steps : (next : Option ℕ) → (one at).next ≡ next → (repeated (count - done) one at).steps ≡ (then_at (one at).steps next (repeated (count - (done + 1)) one)).steps
  unfolding repeated
  entry_steps next is =
      let left : count - done ≡ suc (count - (done + 1)) = omega arith in
      rw (left, is) refl

  pub walk_on : (next : ℕ) → (one at).next ≡ Some next → next ≤ end → reach end (repeated (count - done) one at).steps ≡ reach end (repeated (count - (done + 1)) one next).steps
  walk_on next is inside =
      let fits : nat_le next end ≡ true = grind (arith, nat_tests) in
      let whole : reach end (one at).steps ≡ All = rw (is, fits) at leads.reach in
      rw (entry_steps (Some next) is, reach-append end (one at).steps (repeated (count - (done + 1)) one next).steps, whole) refl

  pub walk_past : (next : ℕ) → (one at).next ≡ Some next → end < next → reach end (repeated (count - done) one at).steps ≡ Short
  walk_past next is past =
      let out : nat_le next end ≡ false = grind (arith, nat_tests) in
      let short : reach end (one at).steps ≡ Short = rw (is, out) at leads.reach in
      rw (entry_steps (Some next) is, reach-append end (one at).steps (repeated (count - (done + 1)) one next).steps, short) refl

  pub walk_end : (one at).next ≡ None → reach end (repeated (count - done) one at).steps ≡ All
  walk_end is =
      let whole : reach end (one at).steps ≡ All = rw is at leads.reach in
      rw (entry_steps None is, whole) refl

pub walk_done : (end count done at : ℕ) (one : ℕ → Entry) → count ≤ done → reach end (repeated (count - done) one at).steps ≡ All
unfolding repeated
walk_done end count done at one most =
    let left : count - done ≡ 0 = omega arith in
    rw left (none_all end)
