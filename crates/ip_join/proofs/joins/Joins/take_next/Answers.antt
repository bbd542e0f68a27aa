use Rattle.std.proofs.Common.{◌≡◌, ◌∙◌, List, Option, None, sym, ap}
use Rattle.std.proofs.lemmas.Result.{IfOk-weaker, on_ok_weaker}
use Rattle.ip_join.specs.declared.fragment.Fragment.{Fragment}
use Rattle.ip_join.specs.declared.joins.Joins.{Joins}
use Rattle.ip_join.specs.declared.kept.Kept.{Kept}
use Rattle.ip_join.specs.declared.key.Key.{Key}
use Rattle.ip_join.specs.KeyOrder.{key_of}
use Rattle.ip_join.specs.Forms.{fragments_in}
use Rattle.ip_join.specs.Stands.{counted_for, kept_at, Stands, StandsWithout}
use Rattle.ip_join.proofs.StandsLemmas.{ChangesAt, changed_by, counted_is, stands_without}
use Rattle.ip_join.proofs.joins.Joins.take_next.Goals as goal

-- what was taken out is what counts
counted : (past : List Fragment) (old : Joins) (new : Fragment) (key : Key) (taken kept : Option Kept) → key ≡ key_of new.head → taken ≡ kept_at old key → taken ≡ kept
    → Stands past old → fragments_in new.head kept ≡ counted_for new past
counted past old new key taken kept same is found stands =
    ap (fragments_in new.head) (sym found ∙ is ∙ ap (kept_at old) same) ∙ counted_is past old new stands

without : (past : List Fragment) (old rest : Joins) (new : Fragment) (key : Key) → key ≡ key_of new.head → ChangesAt old rest key None → Stands past old → StandsWithout past new.head rest
without past old rest new key same change stands = stands_without past old rest new.head stands (changed_by old rest key (key_of new.head) None same change)

pub returns-in_ok-before-in-Some-clause-joined : goal.returns-in_ok-before-in-Some-clause-joined
returns-in_ok-before-in-Some-clause-joined c =
    let new : Fragment = record { head = c.args.head.now; frame = c.args.frame; bytes = c.args.payload.now } in
    IfOk-weaker c.go_on.result _ _ (λ j is past stands.
    is past (c.in_ok-before-in-Some.ensures ∙ counted past c.args.self.now new c.key_of-key.result c.remove.result _ c.key_of-key.ensures c.remove.ensures.kept c.in-Some.is stands)) c.go_on.ensures.joined

pub returns-in_ok-before-in-Some-clause-stands : goal.returns-in_ok-before-in-Some-clause-stands
returns-in_ok-before-in-Some-clause-stands c =
    let new : Fragment = record { head = c.args.head.now; frame = c.args.frame; bytes = c.args.payload.now } in
    on_ok_weaker c.go_on.result (λ is past stands.
    is past (c.in_ok-before-in-Some.ensures ∙ counted past c.args.self.now new c.key_of-key.result c.remove.result _ c.key_of-key.ensures c.remove.ensures.kept c.in-Some.is stands)
    (without past c.args.self.now c.remove.new.self new c.key_of-key.result c.key_of-key.ensures c.remove.ensures.rest stands)) c.go_on.ensures.stands

pub returns-in-None-clause-joined : goal.returns-in-None-clause-joined
returns-in-None-clause-joined c =
    let new : Fragment = record { head = c.args.head.now; frame = c.args.frame; bytes = c.args.payload.now } in
    IfOk-weaker c.begin.result _ _ (λ j is past stands.
    is past (sym (counted past c.args.self.now new c.key_of-key.result c.remove.result None c.key_of-key.ensures c.remove.ensures.kept c.in-None.is stands))) c.begin.ensures.joined

pub returns-in-None-clause-stands : goal.returns-in-None-clause-stands
returns-in-None-clause-stands c =
    let new : Fragment = record { head = c.args.head.now; frame = c.args.frame; bytes = c.args.payload.now } in
    on_ok_weaker c.begin.result (λ is past stands.
    is past (sym (counted past c.args.self.now new c.key_of-key.result c.remove.result None c.key_of-key.ensures c.remove.ensures.kept c.in-None.is stands))
    (without past c.args.self.now c.remove.new.self new c.key_of-key.result c.key_of-key.ensures c.remove.ensures.rest stands)) c.begin.ensures.stands
