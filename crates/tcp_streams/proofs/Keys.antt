-- The order of keys ties two of them exactly where they are the same.
use Rattle.std.proofs.Common.{◌≡◌, Bool, true, false, ◌&&◌, eqb, refl, ◌∙◌}
use Rattle.std.specs.Cmp.{unsigned_tied}
use Rattle.std.specs.Ordering.{bool_cmp, ordering_then, is_eq}
use Rattle.std.specs.declared.cmp.Ordering.{Ordering}
use Rattle.std.specs.declared.cmp.Ordering.TheVariants.{Less, Equal, Greater}
use Rattle.tcp_streams.specs.declared.ends.End.{End}
use Rattle.tcp_streams.specs.declared.ends.Ends.{Ends}
use Rattle.tcp_streams.specs.declared.ends.FourEnds.{FourEnds}
use Rattle.tcp_streams.specs.Conversations.{same_bool, same_end, same_ends}
use Rattle.tcp_streams.specs.KeyOrder.{end_cmp, ends_cmp, four_cmp}

tied_then : (x y : Ordering) → is_eq (ordering_then x y) ≡ (is_eq x && is_eq y)
tied_then Less y = refl
tied_then Equal y = refl
tied_then Greater y = refl

then_is : (x y : Ordering) (b c : Bool) → is_eq x ≡ b → is_eq y ≡ c → is_eq (ordering_then x y) ≡ (b && c)
then_is x y b c one other = tied_then x y ∙ rw (one, other) refl

tied_bool : (a b : Bool) → is_eq (bool_cmp a b) ≡ same_bool a b
tied_bool true true = refl
tied_bool true false = refl
tied_bool false true = refl
tied_bool false false = refl

end_tied : (a b : End) → is_eq (end_cmp a b) ≡ same_end a b
end_tied a b = then_is _ _ _ _ (tied_bool a.six b.six) (then_is _ _ _ _ (unsigned_tied a.address b.address) (unsigned_tied a.port b.port))

pub ends_tied : (a b : Ends) → is_eq (ends_cmp a b) ≡ same_ends a b
ends_tied a b = then_is _ _ _ _ (end_tied a.lesser b.lesser) (end_tied a.greater b.greater)

abbrev pub same_four : FourEnds → FourEnds → Bool
same_four a b = eqb a.lesser_port b.lesser_port && (eqb a.greater_port b.greater_port && (eqb a.lesser b.lesser && eqb a.greater b.greater))

pub four_tied : (a b : FourEnds) → is_eq (four_cmp a b) ≡ same_four a b
four_tied a b =
    then_is _ _ _ _ (unsigned_tied a.lesser_port b.lesser_port)
    (then_is _ _ _ _ (unsigned_tied a.greater_port b.greater_port)
    (then_is _ _ _ _ (unsigned_tied a.lesser b.lesser) (unsigned_tied a.greater b.greater)))
