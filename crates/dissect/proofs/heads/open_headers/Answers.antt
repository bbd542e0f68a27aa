use Rattle.std.proofs.Common.{◌≡◌, [], List, ◌∷◌, ◌++◌, ap, sym, subst, ◌∙◌}
use Rattle.std.specs.List.{AllByRecursion as Each}
use Rattle.std.proofs.lemmas.Result.{on_ok_weaker}
use Rattle.pk_source.specs.declared.header.Header.{Header}
use Rattle.dissect.specs.Carried.{frame_header}
use Rattle.dissect.specs.Tables.{IsTabled}
use Rattle.dissect.specs.Ways.{IsBegun}
use Rattle.dissect.proofs.PlainHeads.{frame_begun, frame_opens, frame_tabled}
use Rattle.dissect.proofs.heads.open_headers.Goals as goal

pub read_way-requires-clause-begun : goal.read_way-requires-clause-begun
read_way-requires-clause-begun c =
    let first : c.push_all.new.headers.items ≡ frame_header c.args.tables.now c.args.frame.now ∷ [] =
    c.in_ok-push_all.ensures ∙ ap (λ (hs : List Header). hs ++ c.frame_header.result ∷ []) c.requires.none ∙ ap (λ (h : Header). h ∷ []) c.frame_header.ensures in
    subst (IsBegun c.args.frame.now) (sym first) (frame_begun c.args.tables.now c.args.frame.now c.requires.tables)

pub read_way-requires-clause-tabled : goal.read_way-requires-clause-tabled
read_way-requires-clause-tabled c =
    let first : c.push_all.new.headers.items ≡ frame_header c.args.tables.now c.args.frame.now ∷ [] =
    c.in_ok-push_all.ensures ∙ ap (λ (hs : List Header). hs ++ c.frame_header.result ∷ []) c.requires.none ∙ ap (λ (h : Header). h ∷ []) c.frame_header.ensures in
    subst (Each (IsTabled c.args.tables.now)) (sym first) (frame_tabled c.args.tables.now c.args.frame.now, tt)

pub returns-clause-opens : goal.returns-clause-opens
returns-clause-opens c =
    let first : c.push_all.new.headers.items ≡ frame_header c.args.tables.now c.args.frame.now ∷ [] =
    c.in_ok-push_all.ensures ∙ ap (λ (hs : List Header). hs ++ c.frame_header.result ∷ []) c.requires.none ∙ ap (λ (h : Header). h ∷ []) c.frame_header.ensures in
    on_ok_weaker c.read_way.result (λ start. frame_opens c.args.tables.now c.args.frame.now c.read_way.new.headers.items c.requires.tables (start ∙ first)) c.read_way.ensures.start
