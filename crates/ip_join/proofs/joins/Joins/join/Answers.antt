use Rattle.std.proofs.Common.{◌≡◌, ◌+◌, ◌≤◌, ◌∙◌, ◌∷◌, ◌++◌, [], true, List, Option, Some, IfSome, length, sym, subst, ap, arith}
use Rattle.ip_join.specs.declared.fragment.Fragment.{Fragment}
use Rattle.ip_join.specs.declared.joined.Datagram.{Datagram}
use Rattle.ip_join.specs.declared.joined.Joined.{Joined}
use Rattle.ip_join.specs.declared.joined.Joined.TheVariants.{Pending, Whole}
use Rattle.ip_join.specs.KeyOrder.{key_of}
use Rattle.ip_join.specs.Kept.{AreFirst}
use Rattle.ip_join.specs.Datagrams.{completed}
use Rattle.ip_join.specs.Fragments.{bytes_in}
use Rattle.ip_join.specs.Stands.{counted_for, joined_by, left_after}
use Rattle.ip_join.proofs.FirstLemmas.{counted_first}
use Rattle.ip_join.proofs.StandsLemmas.{changed_by, stands_more, stands_gone}
use Rattle.ip_join.proofs.Taking.{conflict_is, completed_is}
use Rattle.ip_join.proofs.WaitingLemmas.{bytes_in-push}
use Rattle.ip_join.proofs.joins.Joins.join.Goals as goal

first : (past : List Fragment) (new : Fragment) (before : List Fragment) → before ≡ counted_for new past → new.head.six ≡ true → AreFirst before
first past new before counted six = subst (λ (parts : List Fragment). AreFirst parts) (sym counted) (counted_first new past six)

pub returns-in-Some-clause-joined : goal.returns-in-Some-clause-joined
returns-in-Some-clause-joined c = λ past counted.
    conflict_is past c.args.new c.args.before c.conflict.result c.in-Some.kind counted (c.conflict.ensures.kind (first past c.args.new c.args.before counted)) c.in-Some.is

pub returns-in-Some-clause-stands : goal.returns-in-Some-clause-stands
returns-in-Some-clause-stands c = λ past counted stands.
    let is = conflict_is past c.args.new c.args.before c.conflict.result c.in-Some.kind counted (c.conflict.ensures.kind (first past c.args.new c.args.before counted)) c.in-Some.is in
    stands_gone past c.args.self.now c.args.new stands (ap (λ (j : Joined). left_after j (counted_for c.args.new past ++ c.args.new ∷ [])) (sym is))

pub returns-in-Some-2-clause-joined : goal.returns-in-Some-2-clause-joined
returns-in-Some-2-clause-joined c = λ past counted.
    ap completed (sym c.in-Some-2.is)
    ∙ completed_is past c.args.new c.args.before c.in_ok-parts.parts c.conflict.result c.in_ok-datagram.field-0 counted (c.conflict.ensures.kind (first past c.args.new c.args.before counted)) c.in_default.is c.in_ok-parts.ensures c.in_ok-datagram.ensures.whole

pub returns-in-Some-2-clause-stands : goal.returns-in-Some-2-clause-stands
returns-in-Some-2-clause-stands c = λ past counted stands.
    let is : Whole c.in-Some-2.datagram ≡ joined_by past c.args.new = ap completed (sym c.in-Some-2.is)
    ∙ completed_is past c.args.new c.args.before c.in_ok-parts.parts c.conflict.result c.in_ok-datagram.field-0 counted (c.conflict.ensures.kind (first past c.args.new c.args.before counted)) c.in_default.is c.in_ok-parts.ensures c.in_ok-datagram.ensures.whole in
    stands_gone past c.args.self.now c.args.new stands (ap (λ (j : Joined). left_after j (counted_for c.args.new past ++ c.args.new ∷ [])) (sym is))

pub returns-in-Some-2-clause-brought : goal.returns-in-Some-2-clause-brought
returns-in-Some-2-clause-brought c =
    let size : bytes_in c.in_ok-parts.parts ≡ bytes_in c.args.before + length c.args.new.bytes = ap bytes_in c.in_ok-parts.ensures ∙ bytes_in-push c.args.before c.args.new in
    let brought = subst (λ (o : Option Datagram). IfSome o (λ d. length d.bytes ≤ bytes_in c.in_ok-parts.parts)) c.in-Some-2.is c.in_ok-datagram.ensures.brought in
    omega (arith, brought, size)

pub returns-in_ok-keep-in-None-clause-joined : goal.returns-in_ok-keep-in-None-clause-joined
returns-in_ok-keep-in-None-clause-joined c = λ past counted.
    ap completed (sym c.in-None.is)
    ∙ completed_is past c.args.new c.args.before c.in_ok-parts.parts c.conflict.result c.in_ok-datagram.field-0 counted (c.conflict.ensures.kind (first past c.args.new c.args.before counted)) c.in_default.is c.in_ok-parts.ensures c.in_ok-datagram.ensures.whole

pub returns-in_ok-keep-in-None-clause-stands : goal.returns-in_ok-keep-in-None-clause-stands
returns-in_ok-keep-in-None-clause-stands c = λ past counted stands.
    let new = c.args.new in
    let is : Pending ≡ joined_by past new = ap completed (sym c.in-None.is)
    ∙ completed_is past new c.args.before c.in_ok-parts.parts c.conflict.result c.in_ok-datagram.field-0 counted (c.conflict.ensures.kind (first past new c.args.before counted)) c.in_default.is c.in_ok-parts.ensures c.in_ok-datagram.ensures.whole in
    let kept = c.in_ok-keep-in-None.ensures.kept in
    stands_more past c.args.self.now c.keep.new.self new (Some kept.0) stands
    (changed_by c.args.self.now c.keep.new.self c.args.key (key_of new.head) (Some kept.0) c.requires kept.2)
    (λ g same.
    kept.1 g.head ∙ c.in_ok-parts.ensures ∙ ap (λ (c : List Fragment). c ++ new ∷ []) counted
    ∙ ap (λ (j : Joined). left_after j (counted_for new past ++ new ∷ [])) is)

pub returns-in_ok-keep-in-None-clause-brought : goal.returns-in_ok-keep-in-None-clause-brought
returns-in_ok-keep-in-None-clause-brought c =
    let size : bytes_in c.in_ok-parts.parts ≡ bytes_in c.args.before + length c.args.new.bytes = ap bytes_in c.in_ok-parts.ensures ∙ bytes_in-push c.args.before c.args.new in
    omega (arith, c.in_ok-keep-in-None.ensures.waiting, size)
