use Rattle.std.proofs.Common.{◌≡◌, ℕ, List, Some, None, sym, subst, ap, ◌∙◌}
use Rattle.std.specs.List.{list_any}
use Rattle.std.specs.Str.{bytes_eq}
use Rattle.ip_join.specs.declared.fragment.Fragment.{Fragment}
use Rattle.ip_join.specs.Fragments.{repeats}
use Rattle.ip_join.specs.Kept.{AreFirst, first_copy}
use Rattle.ip_join.proofs.KeptLemmas.{repeats_first, repeats_none}
use Rattle.ip_join.proofs.parts.Parts.repeats.Goals as goal

pub returns-in-Some : goal.returns-in-Some
returns-in-Some c = λ first some.
    let new = c.args.new.now in
    let counted = c.self.inside.counted.items in
    let is : first_copy new.head.offset counted ≡ Some c.in-Some.bytes.now = sym (c.self.invariant.firsts_are new.head.offset) ∙ sym c.in-Some.ensures.value in
    c.eq.ensures
    ∙ ap (λ (bytes : List ℕ). bytes_eq bytes c.bytes-in-Some.result.now) c.bytes.ensures
    ∙ ap (λ (bytes : List ℕ). bytes_eq c.in-Some.bytes.now bytes) c.bytes-in-Some.ensures
    ∙ sym (repeats_first counted new c.in-Some.bytes.now (subst (λ (gs : List Fragment). AreFirst gs) (sym c.self.view_is) first) some is)
    ∙ ap (list_any (repeats new)) c.self.view_is

pub returns-in-None : goal.returns-in-None
returns-in-None c = λ first some.
    let new = c.args.new.now in
    let counted = c.self.inside.counted.items in
    let none : first_copy new.head.offset counted ≡ None = sym (c.self.invariant.firsts_are new.head.offset) ∙ sym c.in-None.ensures.value in
    sym (repeats_none counted new (subst (λ (gs : List Fragment). AreFirst gs) (sym c.self.view_is) first) some none)
    ∙ ap (list_any (repeats new)) c.self.view_is
