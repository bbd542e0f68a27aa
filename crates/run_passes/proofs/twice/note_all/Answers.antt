use Rattle.std.proofs.Common.{◌∙◌, ◌-◌, ap, refl, sym, ℕ, List, subst, [], ◌∷◌, drop, length, map, take}
use Rattle.pk_fields.specs.declared.rules.DecodeAs.{DecodeAs}
use Rattle.dissect.specs.Followed.{asks_streams}
use Rattle.second_pass.specs.Stands.{Stands}
use Rattle.second_pass.specs.Laws.{kept_noted}
use Rattle.run_frames.specs.Job.{noted_of}
use Rattle.capture_read.specs.declared.frame.Frame.{Frame}
use Rattle.run_passes.proofs.TwiceLemmas.{first_takeable, left_more, takeable_after, takeable_begun}
use Rattle.run_passes.proofs.twice.note_all.Goals as goal

pub loop-left-init : goal.loop-left-init
loop-left-init c = record {
  past = [];
  joined = refl;
  stands = c.requires.stands;
  noted = c.requires.noted;
  rules = refl;
  wanted = refl;
  whole = c.requires.whole;
  takeable = takeable_begun c.args.dissector.now.taken c.args.dissector.now.captured c.args.frames.now c.requires.taken c.requires.captured c.requires.takeable;
}

pub note_frame-requires-clause-number : goal.note_frame-requires-clause-number
note_frame-requires-clause-number c =
    (first_takeable c.loop-left.dissector.taken c.loop-left.dissector.captured c.loop-left.left.now c.frame-item.result c.frame-item.is c.in-len1-up.len_at_least c.loop-left.invariant.takeable).0.number

pub note_frame-requires-clause-time : goal.note_frame-requires-clause-time
note_frame-requires-clause-time c =
    (first_takeable c.loop-left.dissector.taken c.loop-left.dissector.captured c.loop-left.left.now c.frame-item.result c.frame-item.is c.in-len1-up.len_at_least c.loop-left.invariant.takeable).0.time

pub note_frame-requires-clause-captured : goal.note_frame-requires-clause-captured
note_frame-requires-clause-captured c =
    (first_takeable c.loop-left.dissector.taken c.loop-left.dissector.captured c.loop-left.left.now c.frame-item.result c.frame-item.is c.in-len1-up.len_at_least c.loop-left.invariant.takeable).0.bytes

pub note_frame-requires-clause-streams : goal.note_frame-requires-clause-streams
note_frame-requires-clause-streams c = ap asks_streams c.loop-left.invariant.wanted ∙ c.requires.streams

pub loop-left-preserved : goal.loop-left-preserved
loop-left-preserved c =
    let one = c.in_ok-note_frame.ensures in
    let past = c.loop-left.invariant.past in
    let frame = c.frame-item.result in
    let left : List Frame = take (length c.loop-left.left.now - 1) (drop 1 c.loop-left.left.now) in
    let wanted = c.loop-left.invariant.wanted in
    let rules = c.loop-left.invariant.rules in
    record {
      past = frame ∷ past;
      joined = left_more past c.loop-left.left.now c.args.frames.now frame c.frame-item.is c.in-len1-up.len_at_least c.loop-left.invariant.joined;
      stands = one.stands past c.loop-left.invariant.stands;
      noted = subst (λ (decode : DecodeAs). Stands (map (kept_noted c.args.dissector.now.wanted) (noted_of decode.rules (frame ∷ past))) c.note_frame.new.links) rules
          (subst (λ (fields : List ℕ). Stands (map (kept_noted fields) (noted_of c.loop-left.dissector.decode.rules (frame ∷ past))) c.note_frame.new.links) wanted
          (one.noted past c.loop-left.invariant.stands
          (subst (λ (fields : List ℕ). Stands (map (kept_noted fields) (noted_of c.loop-left.dissector.decode.rules past)) c.loop-left.links) (sym wanted)
          (subst (λ (decode : DecodeAs). Stands (map (kept_noted c.args.dissector.now.wanted) (noted_of decode.rules past)) c.loop-left.links) (sym rules) c.loop-left.invariant.noted))));
      rules = one.rules ∙ rules;
      wanted = one.wanted ∙ wanted;
      whole = one.sparing ∙ c.loop-left.invariant.whole;
      takeable = takeable_after c.loop-left.dissector.taken c.loop-left.dissector.captured c.note_frame.new.dissector.taken c.note_frame.new.dissector.captured frame left
          (first_takeable c.loop-left.dissector.taken c.loop-left.dissector.captured c.loop-left.left.now frame c.frame-item.is c.in-len1-up.len_at_least c.loop-left.invariant.takeable)
          one.taken one.captured;
    }
