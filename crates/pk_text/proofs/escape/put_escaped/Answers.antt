use Rattle.std.proofs.Common.{List, ℕ, ◌++◌, ap, sym, ◌∙◌}
use Rattle.std.proofs.lemmas.Result.{on_ok_weaker}
use Rattle.pk_text.proofs.EscapeLemmas.{plain_ascii, plain_escaped}
use Rattle.pk_text.proofs.escape.put_escaped.Goals as goal

pub put_digits-requires : goal.put_digits-requires
put_digits-requires g c = plain_ascii c.args.bytes.now (sym c.are_plain.ensures ∙ c.if-are_plain.true)

pub returns-then-are_plain : goal.returns-then-are_plain
returns-then-are_plain g c =
    on_ok_weaker c.put_digits.result (λ put. put ∙ ap (λ (text : List ℕ). g.S.TextSink.taken c.args.sink.now ++ text)
    (sym (plain_escaped c.args.bytes.now (sym c.are_plain.ensures ∙ c.if-are_plain.true)))) c.put_digits.ensures
