use Rattle.std.proofs.Common.{◌≡◌, ◌∷◌, [], List, ℕ, Option, None, sym, ap, ◌∙◌, subst, arith}
use Rattle.std.specs.Option.{option_or}
use Rattle.range_bytes.specs.Held.{Held, put_run}
use Rattle.ip_join.specs.declared.fragment.Fragment.{Fragment}
use Rattle.ip_join.specs.Fragments.{map_of, known_end, end_after}
use Rattle.ip_join.specs.Kept.{AreShort, last_end, first_copy}
use Rattle.ip_join.proofs.FragmentLemmas.{map_of-push, end_after-push}
use Rattle.ip_join.proofs.KeptLemmas.{last_end-push, first_copy-append, short_push}
use Rattle.ip_join.proofs.parts.Parts.with.Goals as goal

pub invariant_of-result : goal.invariant_of-result
invariant_of-result c =
    let counted = c.self.inside.counted.items in
    let new = c.args.new in
    let all = c.in_ok-push.ensures in
    let at : c.from.result ≡ new.head.offset = omega (arith, c.from.ensures) in
    record {
      held_is = c.in_ok-insert.ensures.ok ∙ ap (λ (p : ℕ). put_run c.self.inside.held p new.bytes new.frame) at
          ∙ ap (λ (held : Held). put_run held new.head.offset new.bytes new.frame) c.self.invariant.held_is
          ∙ sym (ap map_of all ∙ map_of-push counted new);
      end_is = c.end_with-end.ensures ∙ ap (λ (end : Option ℕ). end_after end (new ∷ [])) c.self.invariant.end_is
          ∙ sym (ap known_end all ∙ end_after-push None counted new);
      last_is = c.last_with-last.ensures ∙ ap (λ (last : ℕ). last_end last (new ∷ [])) c.self.invariant.last_is
          ∙ sym (ap (last_end 0) all ∙ last_end-push 0 counted new);
      firsts_are = λ offset. c.in_ok-keep_first.ensures offset ∙ ap (λ (o : Option (List ℕ)). option_or o (first_copy offset (new ∷ []))) (c.self.invariant.firsts_are offset)
          ∙ sym (ap (first_copy offset) all ∙ first_copy-append offset counted (new ∷ []));
      short = subst (λ (gs : List Fragment). AreShort gs) (sym all) (short_push counted new c.self.invariant.short c.requires);
    }
