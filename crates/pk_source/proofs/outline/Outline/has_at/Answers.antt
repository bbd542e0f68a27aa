use Rattle.std.proofs.Common.{◌≡◌, ◌∷◌, [], ℕ, zero, suc, List, map, slice_get, ap, refl, sym, ◌∙◌}
use Rattle.std.specs.Option.{is_some}
use Rattle.pk_base.specs.declared.value.Value.{Value}
use Rattle.pk_source.specs.Found.{all_told, value_at}
use Rattle.pk_source.specs.declared.header.Told.{Told}
use Rattle.pk_source.proofs.OutlineLaws.{outline_values}
use Rattle.pk_source.proofs.outline.Outline.has_at.Goals as goal

there_too : (f : Told → Value) (all : List Told) (k : ℕ) → is_some (slice_get all k) ≡ is_some (slice_get (map f all) k)
there_too f [] k = refl
there_too f (told ∷ more) zero = refl
there_too f (told ∷ more) (suc k) = there_too f more k

pub returns : goal.returns
returns c =
    let o = c.self.inside in
    let all = all_told o.wanted.now o.headers.now o.notes.now c.args.field c.args.layers.now in
    let found = rw c.asked.ensures.field at c.find.ensures in
    rw (← c.self.view_is, outline_values o.bytes.now o.wanted.now o.headers.now o.notes.now c.args.field c.args.layers.now c.self.invariant.0)
    (c.is_found.ensures ∙ ap is_some found ∙ there_too (value_at (o.bytes.now ∷ []) c.args.field) all c.args.k)

pub find-requires-clause-picked : goal.find-requires-clause-picked
find-requires-clause-picked c = λ k d inside same.
    let home = sym c.asked.ensures.home ∙ sym same in
    rw (c.asked.ensures.field, c.asked.ensures.picks) (c.self.invariant.1 k d inside c.args.field home)
