use Rattle.std.proofs.Common.{◌-◌, ℕ, Bool, true, List, ◌∷◌, [], refl, ap, sym, ◌∙◌, arith}
use Rattle.pk_fields.specs.Fields.{row_of}
use Rattle.pk_fields.specs.Ids.{IP}
use Rattle.pk_fields.specs.Table.{rows}
use Rattle.pk_tree.specs.Layouts.{reach}
use Rattle.pk_tree.specs.Tables.{steps_of}
use Rattle.dis_ip.specs.Ip4.{ip4_conditions}
use Rattle.dissect.proofs.ways.ip4_header.Goals as goal

pub returns-clause-stands : goal.returns-clause-stands
returns-clause-stands c = λ bytes header conditions.
    let table =
    ap (λ (bs : List Bool). steps_of bs ((c.args.header - 20) ∷ []) c.args.tables.now.ip.now) (sym conditions)
    ∙ ap (λ (n : ℕ). steps_of (ip4_conditions bytes) ((n - 20) ∷ []) c.args.tables.now.ip.now) header
    ∙ c.requires.tables.ip_layout_is bytes in
    record {
      own = refl;
      place = refl;
      table = table;
      ends = ap (reach c.args.layer.len) (sym table)
          ∙ c.requires.tables.ip_whole c.args.layer.len (c.args.header - 20) (omega (arith, c.requires.least, c.requires.whole)) (omega (arith, c.requires.least, c.requires.whole));
    }

pub returns-clause-whole : goal.returns-clause-whole
unfolding row_of rows
returns-clause-whole c = λ buffers inside. record {
  proto = refl;
  inside = inside;
  fits = c.requires.tables.ip_fits (true ∷ true ∷ true ∷ []) ((c.args.header - 20) ∷ []);
  whole = c.requires.tables.ip_whole c.args.layer.len (c.args.header - 20) (omega (arith, c.requires.least, c.requires.whole)) (omega (arith, c.requires.least, c.requires.whole));
  quiet = c.requires.tables.ip_quiet;
}

pub returns-clause-tabled : goal.returns-clause-tabled
returns-clause-tabled c = λ places are field home. are field (record { proto = IP; slots = c.args.tables.now.ip }) (rw home refl)
