use Rattle.std.proofs.Common.{◌-◌, ℕ, true, ◌∷◌, [], refl, ap, sym, ◌∙◌, arith}
use Rattle.pk_fields.specs.Fields.{row_of}
use Rattle.pk_fields.specs.Ids.{TCP}
use Rattle.pk_fields.specs.Table.{rows}
use Rattle.pk_tree.specs.Layouts.{reach}
use Rattle.dis_ports.proofs.TcpLemmas.{rows_by}
use Rattle.dissect.proofs.ways.tcp_header.Goals as goal

pub returns-clause-stands : goal.returns-clause-stands
returns-clause-stands c = λ bytes header.
    let table = rows_by c.args.tables.now.tcp.now (c.args.header - 20) bytes (omega (arith, header, c.requires.least)) (ap (λ (n : ℕ). n - 20) header) (c.requires.tables.tcp_rows_are bytes) in
    record {
      own = refl;
      place = refl;
      table = table;
      ends = ap (reach c.args.span.len) (sym table) ∙ c.requires.tables.tcp_whole c.args.span.len (c.args.header - 20) (omega (arith, c.requires.least, c.requires.whole));
    }

pub returns-clause-whole : goal.returns-clause-whole
unfolding row_of rows
returns-clause-whole c = λ buffers inside. record {
  proto = refl;
  inside = inside;
  fits = c.requires.tables.tcp_fits (true ∷ []) ((c.args.header - 20) ∷ []);
  whole = c.requires.tables.tcp_whole c.args.span.len (c.args.header - 20) (omega (arith, c.requires.least, c.requires.whole));
  quiet = c.requires.tables.tcp_quiet;
}

pub returns-clause-tabled : goal.returns-clause-tabled
returns-clause-tabled c = λ places are field home. are field (record { proto = TCP; slots = c.args.tables.now.tcp }) (rw home refl)
