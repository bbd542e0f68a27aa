-- How many frames and layers were counted.
use Rattle.std.proofs.Common.{◌≡◌, ◌==◌, ◌≤◌, ◌<◌, ◌+◌, ◌*◌, ◌^◌, ℕ, suc, Bool, true, false, cond, List, [], ◌∷◌, length, count_by, get_or, drop, refl, ap, sym, subst, ◌∙◌, if◌then◌else◌, arith}
use Rattle.std.proofs.lemmas.List.{length-map}
use Rattle.std.proofs.lemmas.List.Sums.{sum_by-cons}
use Rattle.pk_source.specs.Outlines.{protocols, protocols_of}
use Rattle.pk_source.specs.declared.header.Header.{Header}
use Rattle.pk_tree.specs.declared.layer.Layer.{Layer}
use Rattle.pk_fields.specs.Ids.{DNS, HTTP}
use Rattle.pk_tree.specs.Trees.{TreeShown, layers_of}
use Rattle.run_frames.specs.declared.totals.Totals.{Totals}
use Rattle.run_frames.specs.Totals.{AreFew, nothing_counted, with_tree}

pub few_more : (most more : ℕ) (t : Totals) → most ≤ more → AreFew most t → AreFew more t
few_more most more t larger few = record {
  frames = omega (arith, larger, few.frames);
  shown = omega (arith, larger, few.shown);
  dns = omega (arith, larger, few.dns);
  http = omega (arith, larger, few.http);
  steps = omega (arith, larger, few.steps);
}

pub few_begun : (most : ℕ) (t : Totals) → t ≡ nothing_counted → AreFew most t
few_begun most t is = subst (λ (totals : Totals). AreFew most totals) (sym is) (record { frames = omega arith; shown = omega arith; dns = omega arith; http = omega arith; steps = omega arith })

pub few_after : (before after : ℕ) (t : Totals) → after ≡ before + 1 → AreFew (suc before) t → AreFew after t
few_after before after t is few = few_more (suc before) after t (omega (arith, is)) few

pub few_suc : (most : ℕ) (t : Totals) → AreFew most t → AreFew (suc most) t
few_suc most t few = few_more most (suc most) t (omega arith) few

shown_few : (most n : ℕ) (shown : Bool) → n ≤ most → (if shown then suc n else n) ≤ suc most
shown_few most n true few = omega (arith, few)
shown_few most n false few = omega (arith, few)

pub few_with : (most : ℕ) (t : Totals) (tree : TreeShown) (shown : Bool) → layers_of DNS tree.layers < 2 ^ 32 → layers_of HTTP tree.layers < 2 ^ 32
    → AreFew most t → AreFew (suc most) (with_tree tree shown t)
few_with most t tree shown dns http few = record {
  frames = omega (arith, few.frames);
  shown = shown_few most t.shown shown few.shown;
  dns = omega (arith, few.dns, dns);
  http = omega (arith, few.http, http);
  steps = omega (arith, few.steps);
}

-- with those steps
pub few_steps : (most steps : ℕ) (t : Totals) → AreFew most t → steps ≤ most * 2 ^ 32 → AreFew most (record t { steps = steps })
few_steps most steps t few within = record {
  frames = few.frames;
  shown = few.shown;
  dns = few.dns;
  http = few.http;
  steps = within;
}

-- by headers of the layers' protocols
heads : {first second : ℕ} {firsts seconds : List ℕ} → first ∷ firsts ≡ second ∷ seconds → first ≡ second
heads same = ap (λ (ps : List ℕ). get_or ps 0 0) same

tails : {first second : ℕ} {firsts seconds : List ℕ} → first ∷ firsts ≡ second ∷ seconds → firsts ≡ seconds
tails same = ap (λ (ps : List ℕ). drop 1 ps) same

pub counted : (proto : ℕ) (headers : List Header) (layers : List Layer) → protocols_of headers ≡ protocols layers
    → count_by (λ (h : Header). h.proto == proto) headers ≡ layers_of proto layers
counted proto [] [] same = refl
counted proto [] (layer ∷ layers) same = absurd (cc same)
counted proto (h ∷ headers) [] same = absurd (cc same)
counted proto (h ∷ headers) (layer ∷ layers) same =
    let rest = counted proto headers layers (tails same) in
    sum_by-cons (λ (one : Header). cond (one.proto == proto) 1 0) h headers
    ∙ ap (λ (p : ℕ). cond (p == proto) 1 0 + count_by (λ (one : Header). one.proto == proto) headers) (heads same)
    ∙ ap (λ (n : ℕ). cond (layer.proto == proto) 1 0 + n) rest
    ∙ sym (sum_by-cons (λ (one : Layer). cond (one.proto == proto) 1 0) layer layers)

pub same_length : (headers : List Header) (layers : List Layer) → protocols_of headers ≡ protocols layers → length headers ≡ length layers
same_length headers layers same =
    sym (length-map headers (λ (h : Header). h.proto)) ∙ ap (λ (ps : List ℕ). length ps) same ∙ length-map layers (λ (layer : Layer). layer.proto)
