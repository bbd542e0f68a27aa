use Rattle.std.proofs.Common.{ℕ, Option, List, sym, subst}
use Rattle.pk_source.specs.Outlines.{outlined}
use Rattle.pk_source.specs.declared.header.Header.{Header}
use Rattle.dissect.specs.Carried.{frame_notes}
use Rattle.dissect.specs.Feeding.{HasFed, IsBrought, IsToldBy, IsTreeOf, brought_over}
use Rattle.dissect.specs.Heads.{HeadsShown}
use Rattle.dissect.specs.declared.feeding.Fed.{Fed}
use Rattle.dissect.proofs.FedLemmas.{IsReadAs, tree_read}
use Rattle.dissect.proofs.heads.Heads.take_fed.Goals.{in-Left, in-Told, in-Brought+in_ok-by-in-Brought}
use Rattle.dissect.proofs.heads.Heads.take_fed.Goals as goal

pub take_brought-requires-clause-brought : goal.take_brought-requires-clause-brought
take_brought-requires-clause-brought c =
    let asked = c.args.asked.now in
    let frame = c.args.frame.now in
    let old = c.args.state.now in
    let new = c.feed.new.state in
    let brought = c.in-Brought.brought in
    let is : IsBrought asked.rules.now frame old new c.feed.new.self.headers brought =
    subst (λ (fed : Fed). HasFed asked.rules.now asked.wanted.now asked.before.now frame old new c.feed.new.self fed) c.in-Brought.is c.in_ok-feed.ensures.fed in (
      asked.rules.now,
      old,
      new,
      subst (λ (headers : List Header). IsBrought asked.rules.now frame old new headers brought) (sym c.deref.ensures.value)
          (subst (λ (heads : HeadsShown). IsBrought asked.rules.now frame old new heads.headers brought) (sym c.self.view_is) is),
    )

pub returns-clause-read : goal.returns-clause-read
returns-clause-read c =
    let asked = c.args.asked.now in
    let rules = asked.rules.now in
    let wanted = asked.wanted.now in
    let before = asked.before.now in
    let frame = c.args.frame.now in
    let old = c.args.state.now in
    let new = c.feed.new.state in
    let heads = c.feed.new.self in
    elim c.match-branch-2.branch [
      | in-Left w ↦ rw w.result-is tt
      | in-Told w ↦
          let told : IsToldBy rules wanted before frame old new heads =
          subst (λ (fed : Fed). HasFed rules wanted before frame old new heads fed) w.in-Told.is c.in_ok-feed.ensures.fed in
          rw w.result-is told.read
      | in-Brought+in_ok-by-in-Brought w ↦
          let brought = w.in-Brought.brought in
          let by = w.in_ok-by-in-Brought.by in
          let is : IsBrought rules frame old new heads.headers brought =
          subst (λ (fed : Fed). HasFed rules wanted before frame old new heads fed) w.in-Brought.is c.in_ok-feed.ensures.fed in
          let tree : IsTreeOf wanted new.found.items (brought_over frame brought (outlined frame.bytes wanted heads.headers (frame_notes before frame))) by =
          subst (λ (found : List (Option ℕ)). IsTreeOf wanted found (brought_over frame brought (outlined frame.bytes wanted heads.headers (frame_notes before frame))) by) w.deref-in-Brought.ensures.value
          (subst (λ (h : HeadsShown). IsTreeOf wanted w.deref-in-Brought.result.now (brought_over frame brought (outlined frame.bytes wanted h.headers (frame_notes before frame))) by) c.self.view_is
          (subst (λ (headers : List Header). IsTreeOf wanted w.deref-in-Brought.result.now (brought_over frame brought (outlined frame.bytes wanted headers (frame_notes before frame))) by) w.deref.ensures.value w.in_ok-by-in-Brought.ensures)) in
          let read : IsReadAs rules wanted before frame old new heads by = (tree_read rules wanted before frame brought old new heads by c.requires.goes is tree).0 in
          rw w.result-is read
    ]
