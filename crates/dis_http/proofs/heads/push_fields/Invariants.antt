use Rattle.std.proofs.Common.{◌≤◌, ◌++◌, List, length, map, drop}
use Rattle.httparse.specs.Grammar.{Field}
use Rattle.stream_messages.specs.Places.{AreLinesAt}
use Rattle.dis_http.specs.Heads.{fields_told, told_step}
use Rattle.dis_http.proofs.RowLemmas.{Going}
use Rattle.dis_http.proofs.heads.push_fields.Given as goal

-- what is left of the lines leads where all of them do
abbrev pub invariant-loop-header : goal.invariant-loop-header
invariant-loop-header l =
    (l.place ≤ length l.head)
    × ((fields : List Field) → AreLinesAt l.head l.at l.headers fields → Going l.head l.place (drop l.header-index l.headers) l.steps.items (l.initial.steps.items ++ map told_step (fields_told l.at fields)))
