use Rattle.std.proofs.Common.{map}
use Rattle.pk_outside.proofs.Parts.{part_whole}
use Rattle.merge_caps.specs.Merged.{frame_of, frames_of}
use Rattle.merge_caps.specs.Written.{file_of}
use Rattle.merge_caps.proofs.WriteSteps.{file_broken, file_part, file_small, file_unfit_by, file_whole}
use Rattle.merge_caps.proofs.write.write_file.Goals as goal

pub returns-in-Err-clause-part : goal.returns-in-Err-clause-part
returns-in-Err-clause-part g c =
    file_part c.args.format c.new-writer.result (map frame_of c.args.entries.now) (g.O.Sink.written c.args.out.now) (g.O.Sink.written c.write_each.new.out)
    c.new-writer.ensures.nothing c.write_each.ensures.part

pub returns-in-Ok-write_end-clause-whole : goal.returns-in-Ok-write_end-clause-whole
returns-in-Ok-write_end-clause-whole g c =
    file_whole c.args.format c.new-writer.result c.write_each.new.writer (map frame_of c.args.entries.now)
    (g.O.Sink.written c.args.out.now) (g.O.Sink.written c.write_each.new.out) (g.O.Sink.written c.write_end.new.out)
    c.new-writer.ensures.nothing c.in-Ok.ensures.whole c.in-Ok-write_end.ensures.whole

pub returns-in-Ok-write_end-clause-unfit : goal.returns-in-Ok-write_end-clause-unfit
returns-in-Ok-write_end-clause-unfit g c =
    file_unfit_by c.args.format c.new-writer.result (map frame_of c.args.entries.now) c.in-Ok.unfit c.new-writer.ensures.nothing c.in-Ok.ensures.unfit

pub returns-in-Ok-write_end-clause-part : goal.returns-in-Ok-write_end-clause-part
returns-in-Ok-write_end-clause-part g c =
    part_whole (g.O.Sink.written c.args.out.now) (g.O.Sink.written c.write_end.new.out) (file_of c.args.format (frames_of c.args.entries.now))
    (file_whole c.args.format c.new-writer.result c.write_each.new.writer (map frame_of c.args.entries.now)
    (g.O.Sink.written c.args.out.now) (g.O.Sink.written c.write_each.new.out) (g.O.Sink.written c.write_end.new.out)
    c.new-writer.ensures.nothing c.in-Ok.ensures.whole c.in-Ok-write_end.ensures.whole)

pub returns-in-Err-write_end-clause-part : goal.returns-in-Err-write_end-clause-part
returns-in-Err-write_end-clause-part g c =
    file_broken c.args.format c.new-writer.result c.write_each.new.writer (map frame_of c.args.entries.now)
    (g.O.Sink.written c.args.out.now) (g.O.Sink.written c.write_each.new.out) (g.O.Sink.written c.write_end.new.out)
    c.new-writer.ensures.nothing c.in-Ok.ensures.whole c.write_end.ensures.part

pub returns-in-Ok-write_end-clause-small : goal.returns-in-Ok-write_end-clause-small
returns-in-Ok-write_end-clause-small g c =
    file_small c.args.format c.new-writer.result (map frame_of c.args.entries.now) c.new-writer.ensures.nothing c.in-Ok.ensures.small
