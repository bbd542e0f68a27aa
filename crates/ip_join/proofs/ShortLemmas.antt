-- A datagram that is whole has at most 65,535 bytes.
use Rattle.std.proofs.Common.{◌≡◌, ℕ, zero, suc, ◌+◌, ◌≤◌, Bool, true, false, if◌then◌else◌, List, [], ◌∷◌, length, Option, None, Some, IfSome, refl, sym, subst, ap}
use Rattle.range_bytes.specs.Held.{Held, bytes_at}
use Rattle.ip_join.specs.declared.fragment.Fragment.{Fragment}
use Rattle.ip_join.specs.Fragments.{end_of, end_after, holds_below, known_end}
use Rattle.ip_join.specs.Kept.{AreShort}

abbrev IsShortEnd : Option ℕ → Type 0
IsShortEnd end = IfSome end (λ n. n ≤ 65535)

end_with : (b : Bool) (end : Option ℕ) (n : ℕ) → IsShortEnd end → n ≤ 65535 → IsShortEnd (if b then end else Some n)
end_with true end n is short = is
end_with false end n is short = short

end_short : (end : Option ℕ) (gs : List Fragment) → IsShortEnd end → AreShort gs → IsShortEnd (end_after end gs)
end_short end [] is each = is
end_short end (g ∷ gs) is each = end_short (if g.head.more then end else Some (end_of g)) gs (end_with g.head.more end (end_of g) is each.0) each.1

end_if : (b : Bool) (n : ℕ) → n ≤ 65535 → IsShortEnd (if b then Some n else None)
end_if true n short = short
end_if false n short = tt

pub length-bytes_at : (held : Held) (from n : ℕ) → length (bytes_at held from n) ≡ n
length-bytes_at held from zero = refl
length-bytes_at held from (suc n) = ap suc (length-bytes_at held (from + 1) n)

-- the end that is known, where all below it is held
pub ends_short : (gs : List Fragment) (held : Held) (n : ℕ) (found : Option ℕ) → Some n ≡ known_end gs → AreShort gs → found ≡ (if holds_below held n then Some n else None) → IfSome found (λ e. e ≤ 65535)
ends_short gs held n found is each same =
    let end : IsShortEnd (Some n) = subst (λ (o : Option ℕ). IsShortEnd o) (sym is) (end_short None gs tt each) in
    subst (λ (o : Option ℕ). IsShortEnd o) (sym same) (end_if (holds_below held n) n end)
