-- Bytes that are held stay as they are.
use Rattle.std.proofs.Common.{◌≡◌, ℕ, zero, suc, ◌+◌, List, ◌∷◌, refl, ap, ◌∙◌, arith}
use Rattle.std.specs.Prelude.{IsSome}
use Rattle.std.specs.FinMap.{get}
use Rattle.range_bytes.specs.Held.{Held, HoldsAll, byte_of, bytes_at, put_run, run_cell}
use Rattle.range_bytes.proofs.Runs.{get-put_run, some_or}

byte_stays : (held : Held) (p : ℕ) (bytes : List ℕ) (frame q : ℕ) → IsSome (get held q) → byte_of (get (put_run held p bytes frame) q) ≡ byte_of (get held q)
byte_stays held p bytes frame q there = ap byte_of (get-put_run held p bytes frame q ∙ some_or (get held q) (run_cell p bytes frame q) there)

pub bytes_stay : (held : Held) (p : ℕ) (bytes : List ℕ) (frame at n : ℕ) → HoldsAll held at (at + n) → bytes_at (put_run held p bytes frame) at n ≡ bytes_at held at n
bytes_stay held p bytes frame at zero all = refl
bytes_stay held p bytes frame at (suc n) all =
    ap (λ (b : ℕ). b ∷ bytes_at (put_run held p bytes frame) (at + 1) n) (byte_stays held p bytes frame at (all at (omega arith) (omega arith)))
    ∙ ap (λ (rest : List ℕ). byte_of (get held at) ∷ rest) (bytes_stay held p bytes frame (at + 1) n (λ q low high. all q (omega (arith, low)) (omega (arith, high))))
