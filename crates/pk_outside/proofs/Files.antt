-- The first file of a name, by its index and by its bytes.
use Rattle.std.proofs.Common.{◌≡◌, ℕ, Bool, List, [], Option, Some, None, cond, nat_lt, length, option_map, position, slice_get, bytes_eq, arith, ap, sym, ◌∙◌}
use Rattle.std.specs.List.{position_or_len}
use Rattle.std.proofs.lemmas.List.Folds.{find_at}
use Rattle.std.proofs.lemmas.Option.{slice_get-get_or, slice_get_past}
use Rattle.pk_outside.specs.InMemory.{file_named}
use Rattle.pk_outside.specs.Place.{bytes_of}

-- the bytes of the file at an index, if there is one
bytes_at : (files : List (List ℕ × List ℕ)) (k : ℕ)
    → option_map (bytes_of files) (cond (nat_lt k (length files)) (Some k) None) ≡ option_map (λ file. file.1) (slice_get files k)
bytes_at files k = grind (arith, slice_get-get_or files k ([], []), slice_get_past files k)

-- the bytes of the first file of a name are those of the file at its index
pub file_at_index : (files : List (List ℕ × List ℕ)) (name : List ℕ) (index : Option ℕ) → index ≡ position (λ file. bytes_eq file.0 name) files
    → file_named files name ≡ option_map (bytes_of files) index
file_at_index files name index at =
    let named : List ℕ × List ℕ → Bool = λ file. bytes_eq file.0 name in
    ap (option_map (λ file. file.1)) (find_at named files) ∙ sym (bytes_at files (position_or_len named files)) ∙ ap (option_map (bytes_of files)) (sym at)
