-- A layer of data is read whole, however many bytes it has.
use Rattle.std.proofs.Common.{◌≡◌, ℕ, true, refl, arith}
use Rattle.std.proofs.lemmas.Bool.Decides.{nat_tests}
use Rattle.std.specs.Prelude.{◌+◌, nat_le}
use Rattle.pk_tree.specs.declared.layout.Reach.TheVariants.{All}
use Rattle.pk_tree.specs.Layouts.{reach, step_reach}
use Rattle.app_layers.specs.DataLayer.{data_layout}

pub data_read : (len : ℕ) → reach len (data_layout len) ≡ All
unfolding reach step_reach
data_read len =
    let inside : nat_le (0 + len) len ≡ true = grind (arith, nat_tests) in
    rw inside refl
