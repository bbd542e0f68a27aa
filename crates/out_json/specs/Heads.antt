-- What stands before the value of an item, and around the items of a layer, with the keys spelled out.
use Rattle.std.specs.Prelude.{ℕ, List, ◌++◌, codes, decimal}
use Rattle.pk_base.specs.declared.span.Span.{Span}
use Rattle.pk_fields.specs.Fields.{row_of}

-- a key, and a number
abbrev pub counted : List ℕ → ℕ → List ℕ
counted key number = key ++ decimal number

-- a key with a quote behind it, and the name of a field or a protocol with its second quote
abbrev pub named : List ℕ → ℕ → List ℕ
named key field = key ++ ((row_of field).name ++ codes "\"")

unfoldable pub placed_head : ℕ → Span → List ℕ
placed_head field span =
    counted (codes "{\"buf\":") span.buffer
    ++ (named (codes ",\"name\":\"") field
    ++ (counted (codes ",\"pos\":") span.start
    ++ (counted (codes ",\"size\":") span.len
    ++ codes ",\"value\":")))

unfoldable pub made_head : ℕ → List ℕ
made_head field = named (codes "{\"name\":\"") field ++ codes ",\"value\":"

unfoldable pub layer_head : ℕ → List ℕ
layer_head buffer = counted (codes "{\"buf\":") buffer ++ codes ",\"items\":["

unfoldable pub layer_tail : ℕ → Span → ℕ → List ℕ
layer_tail nth span proto =
    counted (codes ",\"nth\":") nth
    ++ (counted (codes ",\"pos\":") span.start
    ++ (named (codes ",\"proto\":\"") proto
    ++ (counted (codes ",\"size\":") span.len
    ++ codes "}")))
