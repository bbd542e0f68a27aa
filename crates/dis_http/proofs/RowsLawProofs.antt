-- A message's layer has the rows of its head by the grammar.
use Rattle.std.proofs.Common.{◌≡◌, ℕ, ◌+◌, Option, List, ◌++◌, length, sym, ap, ◌∙◌, subst}
use Rattle.stream_messages.specs.declared.shape.Body.TheVariants.{Plain}
use Rattle.stream_messages.specs.Heads.{Head}
use Rattle.stream_messages.proofs.ChunkLawProofs.{first_chunks}
use Rattle.stream_messages.proofs.HttpMessageLemmas.{first_head}
use Rattle.pk_tree.specs.Buffers.{bytes_of}
use Rattle.pk_tree.proofs.Spans.{length-bytes_of}
use Rattle.pk_tree.specs.declared.layout.Step.{Step}
use Rattle.pk_tree.specs.declared.layout.Reach.TheVariants.{All as Whole}
use Rattle.pk_tree.specs.Layouts.{reach}
use Rattle.pk_tree.proofs.EntryLemmas.{reach_all}
use Rattle.dis_http.specs.Heads.{head_rows, head_steps}
use Rattle.dis_http.specs.Http.{body_steps, body_read, http_layout, http_read}
use Rattle.dis_http.specs.Rows.{row_items, before_layer, HasLayer, RowsLaw}
use Rattle.dis_http.proofs.HttpLemmas.{head_is}
use Rattle.dis_http.proofs.LayerLemmas.{content_of, body_has, content_is, body_fits_in}
use Rattle.dis_http.proofs.RowLemmas.{head_in, head_fits}

pub law_of_rows : RowsLaw
unfolding http_read http_layout
law_of_rows t span shape inside is =
    let bytes : List ℕ = bytes_of t.buffers span in
    let first = first_head is.0 bytes shape is.1 in
    let told = head_in bytes first.head first.found in
    let steps : List Step = head_steps first.head in
    let rows : http_layout shape bytes ≡ steps ++ body_steps shape.head shape.body = ap (λ (o : Option Head). head_rows o ++ body_steps shape.head shape.body) first.found in
    let len : length bytes ≡ span.len = length-bytes_of t.buffers span inside in
    let front : reach span.len steps ≡ Whole = subst (λ (n : ℕ). reach n steps ≡ Whole) len (head_fits bytes first.head told) in
    let content : List ℕ = content_of bytes shape.head shape.body in
    let ends : (n : ℕ) → shape.body ≡ Plain n → span.len ≡ shape.head + n = λ n plain. sym (is.2 ∙ len) ∙ first.is.plain n plain in
    let back : reach span.len (body_steps shape.head shape.body) ≡ Whole = body_fits_in span.len shape.head shape.body ends in
    record {
      head = first.head;
      reads = first.found;
      behind = head_is shape first.head first.is;
      told = told;
      content = content;
      is_content = content_is bytes shape shape.body (λ pieces body. first_chunks is.0 bytes shape pieces is.1 body);
      layer = subst (λ (all : List Step). HasLayer (before_layer t content shape.body) span (row_items (before_layer t content shape.body) span steps) content (body_read t span all bytes shape.body))
          (sym rows) (body_has t span shape.head shape.body steps inside ends (reach_all span.len steps (body_steps shape.head shape.body) front back));
    }
