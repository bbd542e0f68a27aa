use Rattle.std.proofs.Common.{true, ◌∷◌, [], refl, ap, sym, ◌∙◌}
use Rattle.pk_fields.specs.Fields.{row_of}
use Rattle.pk_fields.specs.Ids.{ETH}
use Rattle.pk_fields.specs.Table.{rows}
use Rattle.pk_tree.specs.Layouts.{reach}
use Rattle.dissect.proofs.ways.ethernet_header.Goals as goal

pub returns-clause-stands : goal.returns-clause-stands
returns-clause-stands c = λ bytes typed.
    let table = c.requires.tables.eth_layout_is [] (0 ∷ []) bytes (sym typed) in
    record {
      own = refl;
      place = refl;
      table = table;
      ends = ap (reach c.args.span.len) (sym table) ∙ c.requires.tables.eth_whole [] (0 ∷ []) c.args.span.len c.requires.long;
    }

pub returns-clause-whole : goal.returns-clause-whole
unfolding row_of rows
returns-clause-whole c = λ buffers inside. record {
  proto = refl;
  inside = inside;
  fits = c.requires.tables.eth_fits (true ∷ []) (0 ∷ []);
  whole = c.requires.tables.eth_whole (true ∷ []) (0 ∷ []) c.args.span.len c.requires.long;
  quiet = c.requires.tables.eth_quiet;
}

pub returns-clause-tabled : goal.returns-clause-tabled
returns-clause-tabled c = λ places are field home. are field (record { proto = ETH; slots = c.args.tables.now.eth }) (rw home refl)
