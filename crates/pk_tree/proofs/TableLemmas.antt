-- Layouts in tables, and steps behind others.
use Rattle.std.proofs.Common.{◌≡◌, ℕ, Bool, true, false, ◌&&◌, List, [], ◌∷◌, ◌++◌, refl, sym, ap, ◌∙◌, append_assoc, append-nil}
use Rattle.std.proofs.Math.Dec.{leb}
use Rattle.std.proofs.Math.ListN.{get_or-eq_default}
use Rattle.std.specs.Option.{is_none}
use Rattle.std.proofs.lemmas.Bool.{leb-true, leb-false, and_parts}
use Rattle.pk_base.specs.declared.span.Span.{Span}
use Rattle.pk_fields.specs.declared.value_kind.ValueKind.TheVariants.{Proto}
use Rattle.pk_fields.specs.Fields.{IsField, row_of}
use Rattle.pk_fields.specs.Ids.{field_count}
use Rattle.pk_fields.specs.Rows.{whole}
use Rattle.pk_fields.specs.Table.{rows}
use Rattle.pk_fields.proofs.Names.{rows_len}
use Rattle.pk_tree.specs.declared.item.Item.{Item}
use Rattle.pk_tree.specs.declared.layout.Reach.{Reach}
use Rattle.pk_tree.specs.declared.layout.Reach.TheVariants.{All, Short, Failed}
use Rattle.pk_tree.specs.declared.layout.Step.{Step}
use Rattle.pk_tree.specs.Layouts.{belongs, is_all, step_reach, step_items, items_after, items_read, reach, reach_after, with_items}
use Rattle.pk_tree.specs.Trees.{TreeShown}
use Rattle.pk_tree.specs.Values.{is_read}
use Rattle.pk_tree.proofs.LayoutLemmas.{with_items-append}

-- what is read is a field: the row of other numbers is a protocol's
pub read_field : (f : ℕ) → is_read (row_of f) ≡ true → IsField f
unfolding row_of
read_field f read = by_table (leb field_count f) refl
  where
    by_table : (test : Bool) → leb field_count f ≡ test → IsField f
    by_table true is =
        let none : row_of f ≡ whole [] Proto 0 = get_or-eq_default rows (whole [] Proto 0) {n = f} (rw rows_len (leb-true field_count f is)) in
        absurd (not_read (rw none at read))
      where
        not_read : is_read (whole [] Proto 0) ≡ true → ⊥
        not_read same = cc
    by_table false is = leb-false field_count f is

-- how far steps and those behind them are read
pub reach-append : (end : ℕ) (xs ys : List Step) → reach end (xs ++ ys) ≡ reach_after (reach end xs) (reach end ys)
unfolding reach
reach-append end [] ys = refl
reach-append end (x ∷ xs) ys = rw (reach-append end xs ys) (after_twice (step_reach end x) (reach end xs) (reach end ys))
  where
    after_twice : (a b c : Reach) → reach_after a (reach_after b c) ≡ reach_after (reach_after a b) c
    after_twice All b c = refl
    after_twice Short b c = refl
    after_twice Failed b c = refl

-- the items of steps that are all read, then of those behind them
pub items_read-append : (buffers : List (List ℕ)) (span : Span) (xs ys : List Step) → items_read buffers span (xs ++ ys) ≡ items_read buffers span xs ++ items_after (reach span.len xs) (items_read buffers span ys)
unfolding items_read reach
items_read-append buffers span [] ys = refl
items_read-append buffers span (x ∷ xs) ys =
    rw (items_read-append buffers span xs ys) (by_reach (step_reach span.len x) (step_items buffers span x) (items_read buffers span xs) (reach span.len xs) (items_read buffers span ys))
  where
    by_reach : (r : Reach) (first front : List Item) (s : Reach) (back : List Item) → items_after r (first ++ (front ++ items_after s back)) ≡ items_after r (first ++ front) ++ items_after (reach_after r s) back
    by_reach All first front s back = sym (append_assoc first front (items_after s back))
    by_reach Short first front s back = refl
    by_reach Failed first front s back = refl

-- a table that isn't read to its end
pub front_only : (buffers : List (List ℕ)) (span : Span) (xs ys : List Step) (r : Reach) → r ≡ reach span.len xs → is_all r ≡ false → items_read buffers span (xs ++ ys) ≡ items_read buffers span xs
front_only buffers span xs ys r is off = items_read-append buffers span xs ys ∙ rw (← is) (by_reach r off)
  where
    by_reach : (r : Reach) → is_all r ≡ false → items_read buffers span xs ++ items_after r (items_read buffers span ys) ≡ items_read buffers span xs
    by_reach All off = absurd (cc)
    by_reach Short off = append-nil (items_read buffers span xs)
    by_reach Failed off = append-nil (items_read buffers span xs)

pub front_reach : (end : ℕ) (xs ys : List Step) (r : Reach) → r ≡ reach end xs → is_all r ≡ false → r ≡ reach end (xs ++ ys)
front_reach end xs ys r is off = by_reach r off ∙ rw is (sym (reach-append end xs ys))
  where
    by_reach : (r : Reach) → is_all r ≡ false → r ≡ reach_after r (reach end ys)
    by_reach All off = absurd (cc)
    by_reach Short off = refl
    by_reach Failed off = refl

-- a table that is, and the steps behind it
pub both_read : (t front back : TreeShown) (span : Span) (xs ys : List Step) (r : Reach) → r ≡ reach span.len xs → is_all r ≡ true → front ≡ with_items t (items_read t.buffers span xs) →
    front.buffers ≡ t.buffers → back ≡ with_items front (items_read front.buffers span ys) → back ≡ with_items t (items_read t.buffers span (xs ++ ys))
both_read t front back span xs ys r is on first same second =
    let items : items_read t.buffers span (xs ++ ys) ≡ items_read t.buffers span xs ++ items_read t.buffers span ys = items_read-append t.buffers span xs ys ∙ rw (← is) (by_reach r on) in
    rw (items, with_items-append t (items_read t.buffers span xs) (items_read t.buffers span ys), ← first) (second ∙ ap (λ buffers. with_items front (items_read buffers span ys)) same)
  where
    by_reach : (r : Reach) → is_all r ≡ true → items_read t.buffers span xs ++ items_after r (items_read t.buffers span ys) ≡ items_read t.buffers span xs ++ items_read t.buffers span ys
    by_reach All on = refl
    by_reach Short on = absurd (cc)
    by_reach Failed on = absurd (cc)

pub both_reach : (end : ℕ) (xs ys : List Step) (r s : Reach) → r ≡ reach end xs → is_all r ≡ true → s ≡ reach end ys → s ≡ reach end (xs ++ ys)
both_reach end xs ys r s is on rest = rest ∙ by_reach r on ∙ rw is (sym (reach-append end xs ys))
  where
    by_reach : (r : Reach) → is_all r ≡ true → reach end ys ≡ reach_after r (reach end ys)
    by_reach All on = refl
    by_reach Short on = absurd (cc)
    by_reach Failed on = absurd (cc)

pub read_part_field : (proto f : ℕ) → (belongs proto f && is_read (row_of f) && is_none (row_of f).bits) ≡ true → IsField f
read_part_field proto f fits =
    read_field f (and_parts (belongs proto f) (is_read (row_of f)) (and_parts (belongs proto f && is_read (row_of f)) (is_none (row_of f).bits) fits).0).1
