use Rattle.std.proofs.Common.{◌≡◌, ◌<◌, ◌∙◌, length, rules}
use Rattle.flt_parse.proofs.Stacks.{frame_first}
use Rattle.flt_parse.proofs.joins.+has_room_around.Goals as goal

pub returns-else-len-room : goal.returns-else-len-room
returns-else-len-room t c =
    let count : c.len-in-len1-up.result ≡ length c.frame-item.result.nots.items = search rules in
    let less : c.len-in-len1-up.result < c.args.room = search rules in
    c.has_room_around.ensures
    ∙ frame_first c.args.around.now c.frame-item.result c.args.room c.len-in-len1-up.result c.in-len1-up.len_at_least c.frame-item.is count less
