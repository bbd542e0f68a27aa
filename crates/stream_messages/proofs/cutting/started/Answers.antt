use Rattle.std.proofs.Common.{◌∙◌, ◌≡◌, ◌<◌, length, sym, subst, get_or, false, drop}
use Rattle.stream_messages.specs.declared.part.Part.{Part}
use Rattle.stream_messages.specs.declared.cursor.Next.{Next}
use Rattle.stream_messages.specs.Cursors.{IsAskedOf, IsKnown}
use Rattle.stream_messages.proofs.CursorLemmas.{begun_known}
use Rattle.stream_messages.proofs.cutting.started.Goals as goal

pub returns-in-Awaited-clause-asked : goal.returns-in-Awaited-clause-asked
returns-in-Awaited-clause-asked c asked number bytes some counts is =
    let head : 0 < length bytes → asked ≡ get_or c.args.heads.now number false =
    subst (λ (next : Next). IsAskedOf c.args.framer asked c.args.heads.now number next bytes) c.in-Awaited.is is in
    c.is_head-asked.ensures number counts ∙ sym (head some)

pub returns-in-Awaited-clause-known : goal.returns-in-Awaited-clause-known
returns-in-Awaited-clause-known c at front sound =
    subst (λ (part : Part). IsKnown c.args.framer c.is_head-asked.result part (drop at front)) (sym c.begun-part.ensures) (begun_known c.args.framer c.is_head-asked.result (drop at front))
