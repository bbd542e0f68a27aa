-- A datagram has no more bytes than its fragments brought, and what waits is what was taken and not joined.
use Rattle.std.proofs.Common.{◌≡◌, ℕ, Bool, ◌+◌, ◌≤◌, List, [], ◌∷◌, ◌++◌, Option, None, Some, unwrap_or, option_map, sum_by, length, refl, ap, ◌∙◌, arith}
use Rattle.std.specs.BTreeMap as tree
use Rattle.std.specs.BTreeMap.{insert_entry}
use Rattle.std.specs.FinMap.{empty}
use Rattle.std.specs.Map.{values_of, lookup, remove_entry}
use Rattle.std.specs.Ordering.{match_ordering}
use Rattle.std.specs.declared.cmp.Ordering.{Ordering}
use Rattle.std.specs.declared.cmp.Ordering.TheVariants.{Less, Equal, Greater}
use Rattle.std.proofs.lemmas.List.Sums.{sum_by-cons}
use Rattle.std.proofs.lemmas.Map.Entries.{sum_by-remove_entry}
use Rattle.range_bytes.specs.Held.{Held, HoldsAll, held_below, put_run}
use Rattle.range_bytes.proofs.Counting.{none_below, put_few, run_fits}
use Rattle.ip_join.specs.declared.fragment.Fragment.{Fragment}
use Rattle.pk_base.specs.declared.heads.FragmentHead.{FragmentHead}
use Rattle.ip_join.specs.declared.kept.Kept.{Kept}
use Rattle.ip_join.specs.declared.kept.Kept.TheVariants.{One, Many}
use Rattle.ip_join.specs.Forms.{bytes_kept, bytes_kept_in, fragments_of}
use Rattle.ip_join.specs.Fragments.{bytes_in, put_fragments, map_of}

-- ---- the bytes of one datagram's fragments

pub bytes_in-push : (gs : List Fragment) (f : Fragment) → bytes_in (gs ++ f ∷ []) ≡ bytes_in gs + length f.bytes
bytes_in-push [] f = omega arith
bytes_in-push (g ∷ gs) f = omega (arith, bytes_in-push gs f)

put_most : (n : ℕ) (held : Held) (gs : List Fragment) → held_below n (put_fragments held gs) ≤ held_below n held + bytes_in gs
put_most n held [] = omega arith
put_most n held (g ∷ gs) =
    omega (arith, put_most n (put_run held g.head.offset g.bytes g.frame) gs, (put_few n held g.head.offset g.bytes g.frame).few)

-- all positions below the end are held, each by a byte that a fragment brought
pub whole_brought : (gs : List Fragment) (end : ℕ) → HoldsAll (map_of gs) 0 end → end ≤ bytes_in gs
whole_brought gs end all = omega (arith, run_fits (map_of gs) 0 end all, put_most end empty gs, none_below end)

-- ---- the bytes of all of them

kept_in : (found : Option Kept) → bytes_kept_in found ≡ unwrap_or (option_map bytes_kept found) 0
kept_in None = refl
kept_in (Some kept) = refl

-- by whatever head of their datagram they are read
pub bytes_of : (head : FragmentHead) (kept : Kept) → bytes_in (fragments_of head kept) ≡ bytes_kept kept
bytes_of head (One lone) = omega arith
bytes_of head (Many parts) = refl

module _ {K : Type 0} where
  abbrev pub total : List (K × Kept) → ℕ
  total es = sum_by bytes_kept (values_of es)

  put_in : (cmp : K → K → Ordering) (es : List (K × Kept)) (key : K) (kept : Kept) → total (insert_entry cmp es key kept) ≤ total es + bytes_kept kept
  put_in cmp [] key kept = omega (arith, sum_by-cons bytes_kept kept [])
  put_in cmp (e ∷ es) key kept = by (cmp key e.0) (put_in cmp es key kept)
    where
      by : (r : Ordering) → total (insert_entry cmp es key kept) ≤ total es + bytes_kept kept
          → total (match_ordering r ((key, kept) ∷ e ∷ es) ((e.0, kept) ∷ es) (e ∷ insert_entry cmp es key kept)) ≤ total (e ∷ es) + bytes_kept kept
      by Less rest = omega (arith, sum_by-cons bytes_kept kept (values_of (e ∷ es)))
      by Equal rest = omega (arith, sum_by-cons bytes_kept kept (values_of es), sum_by-cons bytes_kept e.1 (values_of es))
      by Greater rest = omega (arith, rest, sum_by-cons bytes_kept e.1 (values_of es), sum_by-cons bytes_kept e.1 (values_of (insert_entry cmp es key kept)))

  pub waiting_more : (cmp : K → K → Ordering) (old new : tree.BTreeMap K Kept) (key : K) (kept : Kept) → new.entries ≡ insert_entry cmp old.entries key kept
      → sum_by bytes_kept (tree.values new) ≤ sum_by bytes_kept (tree.values old) + bytes_kept kept
  waiting_more cmp old new key kept entries = omega (arith, ap total entries, put_in cmp old.entries key kept)

  pub waiting_less : (test : K → Bool) (old new : tree.BTreeMap K Kept) (found : Option Kept) → new.entries ≡ remove_entry test old.entries → found ≡ lookup test old.entries
      → bytes_kept_in found + sum_by bytes_kept (tree.values new) ≡ sum_by bytes_kept (tree.values old)
  waiting_less test old new found entries is =
      let gone : bytes_kept_in found ≡ unwrap_or (option_map bytes_kept (lookup test old.entries)) 0 = ap bytes_kept_in is ∙ kept_in (lookup test old.entries) in
      omega (arith, ap total entries, gone, sum_by-remove_entry bytes_kept test old.entries)
