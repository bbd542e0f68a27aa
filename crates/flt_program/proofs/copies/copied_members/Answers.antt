use Rattle.std.proofs.Common.{◌≡◌, ◌+◌, ◌<◌, ℕ, List, [], ◌∷◌, ◌++◌, append_assoc, ap, drop, get_or, length, sym, ◌∙◌}
use Rattle.std.proofs.lemmas.List.{drop_more}
use Rattle.flt_typed.specs.declared.typed.Member.{Member}
use Rattle.flt_program.proofs.copies.copied_members.Goals as goal

one_more : (members : List Member) (i : ℕ) (member : Member) (old new : List Member) → i < length members → member ≡ get_or members i member → new ≡ old ++ member ∷ []
    → old ++ drop i members ≡ members → new ++ drop (i + 1) members ≡ members
one_more members i member old new inside is more so_far =
    let rest = drop (i + 1) members in
    ap (λ ms. ms ++ rest) more ∙ append_assoc old (member ∷ []) rest ∙ ap (λ m. old ++ m ∷ rest) is ∙ ap (λ ms. old ++ ms) (sym (drop_more members i member inside)) ∙ so_far

pub loop-member-preserved : goal.loop-member-preserved
loop-member-preserved c =
    one_more c.args.members.now c.loop-member.member-index c.member-item.result c.loop-member.all.items c.push_copy.new.all.items
    c.loop-member-test.true c.member-item.is c.in_ok-push_copy.ensures c.loop-member.invariant
