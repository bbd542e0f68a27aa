-- Bytes that stand as they are.
use Rattle.std.proofs.Common.{◌≡◌, ℕ, ◌<◌, true, ◌&&◌, not, eqb, leb, List, [], ◌∷◌, refl, ap, arith}
use Rattle.std.specs.List.{All, AllByRecursion as Each, list_all}
use Rattle.std.proofs.lemmas.Bool.{and_parts, leb-true, not-true}
use Rattle.std.proofs.lemmas.List.Elements.{All-from_recursion}
use Rattle.pk_text.specs.Escape.{escaped, is_plain}

pub plain_escaped : (bytes : List ℕ) → list_all is_plain bytes ≡ true → escaped bytes ≡ bytes
unfolding escaped
plain_escaped [] plain = refl
plain_escaped (byte ∷ bytes) plain =
    let (here, behind) = and_parts (is_plain byte) (list_all is_plain bytes) plain in
    let (shown, other) = and_parts (leb 0x20 byte && leb byte 0x7E) (not (eqb byte 92)) here in
    rw (not-true (eqb byte 92) other, shown) (ap (λ (text : List ℕ). byte ∷ text) (plain_escaped bytes behind))

pub plain_ascii : (bytes : List ℕ) → list_all is_plain bytes ≡ true → All (λ byte. byte < 128) bytes
plain_ascii bytes plain = All-from_recursion (λ (byte : ℕ). byte < 128) bytes (each bytes plain)
  where
    each : (bytes : List ℕ) → list_all is_plain bytes ≡ true → Each (λ byte. byte < 128) bytes
    each [] plain = tt
    each (byte ∷ bytes) plain =
        let (here, behind) = and_parts (is_plain byte) (list_all is_plain bytes) plain in
        let (shown, other) = and_parts (leb 0x20 byte && leb byte 0x7E) (not (eqb byte 92)) here in
        let (least, most) = and_parts (leb 0x20 byte) (leb byte 0x7E) shown in
        (omega (arith, leb-true byte 0x7E most), each bytes behind)
