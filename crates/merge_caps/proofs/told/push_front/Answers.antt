use Rattle.std.proofs.Common.{◌≡◌, ◌++◌, ◌∙◌, ℕ, List, ap, append_assoc}
use Rattle.std.proofs.lemmas.Result.{on_ok_weaker}
use Rattle.pk_text.specs.Escape.{escaped}
use Rattle.merge_caps.specs.Texts.{damage_front}
use Rattle.merge_caps.proofs.told.push_front.Goals as goal

three : (text front name back is one two three : List ℕ) → one ≡ text ++ front → two ≡ one ++ escaped name → name ≡ is → three ≡ two ++ back
    → three ≡ text ++ (front ++ (escaped is ++ back))
three text front name back is one two all first second same third =
    third ∙ ap (λ (l : List ℕ). l ++ back) (second ∙ ap (λ (l : List ℕ). l ++ escaped name) first)
    ∙ append_assoc (text ++ front) (escaped name) back ∙ append_assoc text front (escaped name ++ back)
    ∙ ap (λ (l : List ℕ). text ++ (front ++ (escaped l ++ back))) same

pub returns : goal.returns
unfolding damage_front
returns c =
    on_ok_weaker c.put_text-2.result
    (λ last. three _ _ _ _ _ _ _ _ c.in_ok-put_text.ensures c.in_ok-put_escaped.ensures (c.as_bytes.ensures.value ∙ c.as_str.ensures) last) c.put_text-2.ensures
