use Rattle.std.proofs.Common.{Bool, true, ◌∷◌, [], refl, ap, sym, ◌∙◌}
use Rattle.pk_fields.specs.Fields.{row_of}
use Rattle.pk_fields.specs.Ids.{IPV6}
use Rattle.pk_fields.specs.Table.{rows}
use Rattle.pk_tree.specs.Layouts.{reach}
use Rattle.pk_tree.specs.Tables.{steps_of}
use Rattle.dissect.proofs.ways.ip6_header.Goals as goal

pub returns-clause-stands : goal.returns-clause-stands
returns-clause-stands c = λ bytes six.
    let table = ap (λ (b : Bool). steps_of (b ∷ []) (0 ∷ []) c.args.tables.now.ip6.now) (sym six) ∙ c.requires.tables.ip6_layout_is (0 ∷ []) bytes in
    record {
      own = refl;
      place = refl;
      table = table;
      ends = ap (reach c.args.layer.len) (sym table) ∙ c.requires.tables.ip6_whole (0 ∷ []) c.args.layer.len c.requires.long;
    }

pub returns-clause-whole : goal.returns-clause-whole
unfolding row_of rows
returns-clause-whole c = λ buffers inside. record {
  proto = refl;
  inside = inside;
  fits = c.requires.tables.ip6_fits (true ∷ []) (0 ∷ []);
  whole = c.requires.tables.ip6_whole (0 ∷ []) c.args.layer.len c.requires.long;
  quiet = c.requires.tables.ip6_quiet;
}

pub returns-clause-tabled : goal.returns-clause-tabled
returns-clause-tabled c = λ places are field home. are field (record { proto = IPV6; slots = c.args.tables.now.ip6 }) (rw home refl)
