use Rattle.std.proofs.Common.{◌∷◌, [], refl, arith}
use Rattle.std.proofs.lemmas.List.Elements.{All-from_recursion}
use Rattle.pk_source.specs.Outlines.{IsReadWhole, outlined}
use Rattle.pk_source.specs.Picks.{Knows}
use Rattle.pk_source.specs.declared.header.Header.{Header}
use Rattle.pk_source.specs.declared.picks.Table.{Table}
use Rattle.pk_tree.specs.Buffers.{IsInside}
use Rattle.source_rows.proofs.frame.make_given.Goals as goal

table : Header → Table
table h = record { proto = h.proto; slots = h.slots }

pub returns-clause-headers : goal.returns-clause-headers
unfolding outlined
returns-clause-headers c =
    let eth = c.eth_header-eth.ensures.given in
    let ip = c.ip_header-ip.ensures.given in
    let tcp = c.tcp_header-tcp.ensures.given in
    record {
      whole = λ bytes count.
          let first : IsInside (bytes ∷ []) c.part.result = rw c.part.ensures (omega arith, omega (arith, count)) in
          let second : IsInside (bytes ∷ []) c.part-2.result = rw c.part-2.ensures (omega arith, omega (arith, count)) in
          let third : IsInside (bytes ∷ []) c.part-3.result = rw c.part-3.ensures (omega arith, omega (arith, count)) in
          All-from_recursion (IsReadWhole (bytes ∷ [])) (c.eth_header-eth.result ∷ c.ip_header-ip.result ∷ c.tcp_header-tcp.result ∷ []) (
            c.eth_header-eth.ensures.whole (bytes ∷ []) first,
            (c.ip_header-ip.ensures.whole (bytes ∷ []) second, (c.tcp_header-tcp.ensures.whole (bytes ∷ []) third, tt)),
          );
      numbered = λ bytes wanted notes. (
        eth.1,
        (rw (eth.0, ip.0) ip.1, (rw (eth.0, ip.0, tcp.0) tcp.1, tt)),
      );
      few = refl;
    }

pub returns-clause-known : goal.returns-clause-known
unfolding table
returns-clause-known c =
    let eth = c.eth_header-eth.ensures.given in
    let ip = c.ip_header-ip.ensures.given in
    let tcp = c.tcp_header-tcp.ensures.given in
    λ places are. All-from_recursion (Knows places) (c.eth_header-eth.result ∷ c.ip_header-ip.result ∷ c.tcp_header-tcp.result ∷ []) (
      λ field own. are field (table c.eth_header-eth.result) (rw (c.table_of.ensures, c.table_of-2.ensures, c.table_of-3.ensures, own, eth.0) refl),
      (
        λ field own. are field (table c.ip_header-ip.result) (rw (c.table_of.ensures, c.table_of-2.ensures, c.table_of-3.ensures, own, eth.0, ip.0) refl),
        (λ field own. are field (table c.tcp_header-tcp.result) (rw (c.table_of.ensures, c.table_of-2.ensures, c.table_of-3.ensures, own, eth.0, ip.0, tcp.0) refl), tt),
      ),
    )
