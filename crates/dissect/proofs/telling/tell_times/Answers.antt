use Rattle.std.proofs.Common.{◌≡◌, Option, [], ◌∷◌, ◌++◌, ap, sym, ◌∙◌, rules}
use Rattle.std.proofs.lemmas.Result.{on_ok_weaker}
use Rattle.std.specs.Prelude.{ℤ}
use Rattle.pk_fields.specs.Ids.{FRAME_TIME_DELTA, FRAME_TIME_EPOCH, FRAME_TIME_RELATIVE}
use Rattle.pk_source.specs.Outlines.{wanted_notes}
use Rattle.app_layers.specs.Times.{since}
use Rattle.dissect.specs.Carried.{moment_note, time_notes}
use Rattle.dissect.proofs.PlainNotes.{none_told, three_told}
use Rattle.dissect.proofs.telling.tell_times.Goals as goal

pub returns-in_default : goal.returns-in_default
returns-in_default c = record { notes = none_told c.args.wanted.now c.args.notes.now.items (time_notes c.args.before.now c.args.time) (ap (time_notes c.args.before.now) c.in_default.is) }

pub returns : goal.returns
returns c =
    let wanted = c.args.wanted.now in
    let before = c.args.before.now in
    let old = c.args.notes.now.items in
    let time = c.in-Some.time in
    let second = c.tell_moment.new.notes.items in
    let third = c.tell_moment-2.new.notes.items in
    let relative : c.since.result ≡ since before.first time = search rules in
    let delta : c.since-2.result ≡ since before.latest time = search rules in
    record {
      notes = on_ok_weaker c.tell_moment-3.result
          (λ last. three_told wanted old second third c.tell_moment-3.new.notes.items
          (moment_note FRAME_TIME_EPOCH time ∷ []) (moment_note FRAME_TIME_RELATIVE (since before.first time) ∷ []) (moment_note FRAME_TIME_DELTA (since before.latest time) ∷ [])
          (c.in_ok-tell_moment.ensures ∙ ap (λ (n : ℤ). old ++ wanted_notes wanted (moment_note FRAME_TIME_EPOCH n ∷ [])) (search rules))
          (c.in_ok-tell_moment-2.ensures ∙ ap (λ (n : ℤ). second ++ wanted_notes wanted (moment_note FRAME_TIME_RELATIVE n ∷ [])) (search rules ∙ relative))
          (last ∙ ap (λ (n : ℤ). third ++ wanted_notes wanted (moment_note FRAME_TIME_DELTA n ∷ [])) (search rules ∙ delta))
          ∙ ap (λ (t : Option ℤ). old ++ wanted_notes wanted (time_notes before t)) (sym c.in-Some.is))
          c.tell_moment-3.ensures;
    }
