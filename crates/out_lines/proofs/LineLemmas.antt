-- Texts without a quote.
use Rattle.std.proofs.Common.{◌≡◌, ℕ, false, eqb, List, [], ◌∷◌, refl, ap}
use Rattle.std.specs.List.{flat_map, list_any}
use Rattle.std.proofs.lemmas.Bool.{or_parts}
use Rattle.out_lines.specs.Lines.{doubled}

pub none_doubled : (quote : ℕ) (text : List ℕ) → list_any (λ byte. eqb byte quote) text ≡ false → flat_map (doubled quote) text ≡ text
none_doubled quote [] none = refl
none_doubled quote (byte ∷ text) none =
    let (here, behind) = or_parts (eqb byte quote) (list_any (λ other. eqb other quote) text) none in
    rw here (ap (λ (bytes : List ℕ). byte ∷ bytes) (none_doubled quote text behind))
