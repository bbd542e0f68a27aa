-- What is known where nothing of streams' messages is asked.
use Rattle.std.proofs.Common.{◌≡◌, ◌==◌, ℕ, zero, suc, ◌<◌, ◌≤◌, Bool, true, false, ◌&&◌, ◌||◌, List, [], ◌∷◌, refl, sym, ◌∙◌, ap, subst, arith, inl, inr, true≢false, eq-eqb}
use Rattle.std.proofs.lemmas.Bool.{cases_eq, eqb-true}
use Rattle.std.specs.List.{AllByRecursion as Each}
use Rattle.std.proofs.lemmas.List.{get_or_past}
use Rattle.std.proofs.lemmas.Bool.{cases_lt}
use Rattle.pk_fields.specs.declared.value_kind.ValueKind.TheVariants.{Proto}
use Rattle.pk_fields.specs.Fields.{row_of}
use Rattle.pk_fields.specs.FieldSets.{is_in}
use Rattle.pk_fields.specs.Ids.{DNS_RESPONSE_TO, HTTP_REQUEST_IN, TCP_ACK, TCP_LOST, TCP_SEGMENT, TCP_SEQ, TCP_STREAM, WS_MALFORMED, WS_SHORT, field_count}
use Rattle.pk_fields.specs.Rows.{FieldRow, whole}
use Rattle.pk_fields.specs.Table.{rows}
use Rattle.pk_fields.proofs.Names.{rows_len}
use Rattle.pk_fields.specs.declared.apps.App.{App}
use Rattle.pk_fields.specs.declared.apps.App.TheVariants as apps
use Rattle.app_layers.specs.Rows.{framed_apps, is_passed, passed_apps, proto_of}
use Rattle.app_layers.proofs.MessagesAside.{AsksNoMessages}
use Rattle.app_layers.proofs.RowLemmas.{framed_each, passed_each, proto_some}
use Rattle.dissect.specs.Followed.{asks_any, asks_apps, asks_messages, asks_streams}
use Rattle.dissect.specs.Tells.{AsksNoDatagrams}

or_none : (a b : Bool) → (a || b) ≡ false → (a ≡ false) × (b ≡ false)
or_none true b none = absurd (true≢false none)
or_none false b none = (refl, none)

none_of_four : (a b c d : Bool) → (a || b || c || d) ≡ false → (a ≡ false) × (b ≡ false) × (c ≡ false) × (d ≡ false)
none_of_four a b c d none =
    let r = or_none (a || b || c) d none in
    let q = or_none (a || b) c r.0 in
    let p = or_none a b q.0 in
    (p.0, p.1, q.1, r.1)

pub none_of : (a b c d e : Bool) → (a || b || c || d || e) ≡ false → (a ≡ false) × (b ≡ false) × (c ≡ false) × (d ≡ false) × (e ≡ false)
none_of a b c d e none =
    let s = or_none (a || b || c || d) e none in
    let r = or_none (a || b || c) d s.0 in
    let q = or_none (a || b) c r.0 in
    let p = or_none a b q.0 in
    (p.0, p.1, q.1, r.1, s.1)

and_none : (a b : Bool) → a ≡ true → (a && b) ≡ false → b ≡ false
and_none true b is none = none
and_none false b is none = absurd (true≢false (sym is))

none_below : (n proto : ℕ) (wanted : List ℕ) → asks_any n proto wanted ≡ false → (f : ℕ) → f < n → (row_of f).proto ≡ proto → is_in wanted f ≡ false
unfolding asks_any
none_below zero proto wanted none f inside is = absurd (omega arith)
none_below (suc n) proto wanted none f inside is =
    let parts = or_none ((row_of n).proto == proto && is_in wanted n) (asks_any n proto wanted) none in
    elim (cases_eq f n) [
      | inl same ↦
          let here : ((row_of n).proto == proto) ≡ true = eq-eqb (row_of n).proto proto (ap (λ (k : ℕ). (row_of k).proto) (sym same) ∙ is) in
          ap (λ (k : ℕ). is_in wanted k) same ∙ and_none ((row_of n).proto == proto) (is_in wanted n) here parts.0
      | inr apart ↦ none_below n proto wanted parts.1 f (omega (arith, apart)) is
    ]

past_rows : (f : ℕ) → field_count ≤ f → (row_of f).proto ≡ 0
unfolding row_of
past_rows f past = ap (λ (row : FieldRow). row.proto) (get_or_past rows f (whole [] Proto 0) (subst (λ (n : ℕ). n ≤ f) (sym rows_len) past))

pub none_in : (proto : ℕ) (wanted : List ℕ) → 0 < proto → asks_any field_count proto wanted ≡ false → (f : ℕ) → (row_of f).proto ≡ proto → is_in wanted f ≡ false
none_in proto wanted some none f is = elim (cases_lt f field_count) [
  | inl inside ↦ none_below field_count proto wanted none f inside is
  | inr past ↦ let zero_is : 0 ≡ proto = sym (past_rows f past) ∙ is in absurd (omega (arith, zero_is, some))
]

-- nothing of an application is asked
abbrev pub IsUnasked : List ℕ → App → Type 0
IsUnasked wanted app = asks_any field_count (proto_of app) wanted ≡ false

all_unasked : (apps : List App) (wanted : List ℕ) → asks_apps apps wanted ≡ false → Each (IsUnasked wanted) apps
all_unasked [] wanted none = tt
all_unasked (app ∷ apps) wanted none =
    let parts = or_none (asks_any field_count (proto_of app) wanted) (asks_apps apps wanted) none in
    (parts.0, all_unasked apps wanted parts.1)

pub none_asked : (apps : List App) (wanted : List ℕ) → Each (IsUnasked wanted) apps → asks_apps apps wanted ≡ false
none_asked [] wanted each = refl
none_asked (app ∷ apps) wanted each = rw each.0 (none_asked apps wanted each.1)

pub no_messages : (wanted : List ℕ) → asks_messages wanted ≡ false → AsksNoMessages wanted
unfolding asks_messages
no_messages wanted none =
    let parts = none_of_four (is_in wanted TCP_SEGMENT) (is_in wanted WS_SHORT) (is_in wanted WS_MALFORMED) (asks_apps framed_apps wanted) none in
    let each = all_unasked framed_apps wanted parts.3 in
    record {
      segment = parts.0;
      short = parts.1;
      malformed = parts.2;
      fields = λ app framed. none_in (proto_of app) wanted (proto_some app) (framed_each (IsUnasked wanted) each app framed);
    }

-- nor of datagrams' messages that are passed over
pub no_datagrams : (wanted : List ℕ) → is_in wanted WS_SHORT ≡ false → is_in wanted WS_MALFORMED ≡ false → asks_apps passed_apps wanted ≡ false → AsksNoDatagrams wanted
no_datagrams wanted short malformed none = record {
  short = short;
  malformed = malformed;
  fields = λ app over. none_in (proto_of app) wanted (proto_some app) (passed_each (IsUnasked wanted) (all_unasked passed_apps wanted none) app over);
}

by_test : (n proto : ℕ) (wanted : List ℕ) → ((f : ℕ) → (row_of f).proto ≡ proto → is_in wanted f ≡ false) → asks_any n proto wanted ≡ false
    → (test : Bool) → ((row_of n).proto == proto) ≡ test → (((row_of n).proto == proto && is_in wanted n) || asks_any n proto wanted) ≡ false
by_test n proto wanted none rest true is = rw (is, none n (eqb-true (row_of n).proto proto is), rest) refl
by_test n proto wanted none rest false is = rw (is, rest) refl

-- and where no field of a protocol is in a set, none is asked
pub any_none : (n proto : ℕ) (wanted : List ℕ) → ((f : ℕ) → (row_of f).proto ≡ proto → is_in wanted f ≡ false) → asks_any n proto wanted ≡ false
unfolding asks_any
any_none zero proto wanted none = refl
any_none (suc n) proto wanted none = by_test n proto wanted none (any_none n proto wanted none) ((row_of n).proto == proto) refl

pub messages_unasked : (wanted : List ℕ) → asks_streams wanted ≡ false → AsksNoMessages wanted
unfolding asks_streams
messages_unasked wanted unasked =
    no_messages wanted (none_of (is_in wanted TCP_STREAM) (is_in wanted TCP_SEQ) (is_in wanted TCP_ACK) (is_in wanted TCP_LOST) (asks_messages wanted) unasked).4

-- nor of the links of messages
pub unasked_fields : (wanted : List ℕ) → asks_streams wanted ≡ false → (is_in wanted DNS_RESPONSE_TO ≡ false) × (is_in wanted HTTP_REQUEST_IN ≡ false)
unfolding row_of rows
unasked_fields wanted unasked =
    let none = messages_unasked wanted unasked in
    (none.fields apps.Dns refl DNS_RESPONSE_TO refl, none.fields apps.Http refl HTTP_REQUEST_IN refl)
