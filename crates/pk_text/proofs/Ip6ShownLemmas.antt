-- The text that RFC 5952 recommends for an address is one text, and `ip6_shown` computes it.
use Rattle.std.proofs.Common.{◌≡◌, ℕ, ◌+◌, ◌^◌, ◌<◌, ◌≤◌, eqb, ltb, cond, Some, List, [], ◌∷◌, ◌++◌, codes, length, length-drop, take, drop, refl, sym, ap, ap₂, subst, ◌∙◌, arith, ⊎_elim}
use Rattle.std.specs.List.{prefix_len}
use Rattle.std.proofs.lemmas.Bool.{cond_both, ltb-true, ltb-false}
use Rattle.std.proofs.lemmas.List.{drop-drop}
use Rattle.pk_text.specs.Ip6.{IsRun, IsBestRun, IsIp6Text, groups_of, groups_shown, best_run_from, groups_written, ip6_of, ip6_shown}
use Rattle.pk_text.proofs.Ip6TextLemmas.{ip6_from_text}
use Rattle.pk_text.proofs.Ip6RunLemmas.{zeros_from, IsBestBefore, best_none, best_taken, best_kept, best_done, plain_text, shortened_text}

best_from : (groups rest : List ℕ) (at : ℕ) (best : ℕ × ℕ) → drop at groups ≡ rest → IsBestBefore groups at best.0 best.1 → IsBestRun groups (best_run_from at best rest).0 (best_run_from at best rest).1
best_from groups [] at best e so_far =
    best_done groups at best.0 best.1 (omega (arith, ap length e, length-drop at groups)) so_far
best_from groups (group ∷ rest) at best e so_far =
    let count = prefix_len (λ g. eqb g 0) (group ∷ rest) in
    let counted : zeros_from at groups ≡ count = ap (prefix_len (λ g. eqb g 0)) e in
    let inside : at < length groups = omega (arith, ap length e, length-drop at groups) in
    let next : drop (at + 1) groups ≡ rest = sym (drop-drop 1 at groups) ∙ ap (drop 1) e in
    let IsBest : ℕ × ℕ → Type 0 = λ run. IsBestBefore groups (at + 1) run.0 run.1 in
    best_from groups rest (at + 1) (cond (ltb best.1 count) (at, count) best) next
    (cond_both (ltb best.1 count) (at, count) best IsBest
    (λ longer. subst (IsBestBefore groups (at + 1) at) counted
    (best_taken groups at best.0 best.1 inside so_far (omega (arith, ltb-true best.1 count longer, counted))))
    (λ no_longer. best_kept groups at best.0 best.1 so_far (omega (arith, ltb-false best.1 count no_longer, counted))))

pub written_text : (groups : List ℕ) (run : ℕ × ℕ) → IsBestRun groups run.0 run.1 → IsIp6Text groups (groups_written groups run)
written_text groups run best =
    cond_both (ltb run.1 2) _ _ (IsIp6Text groups)
    (λ few. plain_text groups _ run.0 run.1 best (ltb-true run.1 2 few) refl)
    (λ many. shortened_text groups _ run.0 run.1 best (ltb-false run.1 2 many) refl)

pub shown_text : (address : ℕ) → IsIp6Text (groups_of address) (ip6_shown address)
unfolding ip6_shown
shown_text address =
    let groups = groups_of address in
    written_text groups (best_run_from 0 (0, 0) groups) (best_from groups groups 0 (0, 0) refl (best_none groups))

-- groups have one such text
one_text : (groups s t : List ℕ) → IsIp6Text groups s → IsIp6Text groups t → s ≡ t
one_text groups s t hs ht = ⊎_elim shortened plain hs
  where
    Shortened : List ℕ → Type 0
    Shortened text = (at : ℕ) × (count : ℕ) × IsBestRun groups at count × (2 ≤ count) × (text ≡ groups_shown (take at groups) ++ (codes "::" ++ groups_shown (drop (at + count) groups)))

    Plain : List ℕ → Type 0
    Plain text = ((at count : ℕ) → IsRun groups at count → count < 2) × (text ≡ groups_shown groups)

    shortened : Shortened s → s ≡ t
    shortened (a, m, best, many, same) = ⊎_elim both one ht
      where
        both : Shortened t → s ≡ t
        both (b, n, best', many', same') =
            let counts : m ≡ n = omega (arith, best.longest b n best'.run, best'.longest a m best.run) in
            let places : a ≡ b = omega (arith, best.first b (subst (IsRun groups b) (sym counts) best'.run) (omega arith), best'.first a (subst (IsRun groups a) counts best.run) (omega arith)) in
            same ∙ ap₂ (λ at count. groups_shown (take at groups) ++ (codes "::" ++ groups_shown (drop (at + count) groups))) places counts ∙ sym same'

        one : Plain t → s ≡ t
        one (few, same') = absurd (omega (arith, few a m best.run, many))

    plain : Plain s → s ≡ t
    plain (few, same) = ⊎_elim other both ht
      where
        other : Shortened t → s ≡ t
        other (b, n, best, many, same') = absurd (omega (arith, few b n best.run, many))

        both : Plain t → s ≡ t
        both (few', same') = same ∙ sym same'

-- a text that RFC 5952 recommends is the one that is computed
pub text_shown : (address : ℕ) (text : List ℕ) → IsIp6Text (groups_of address) text → text ≡ ip6_shown address
text_shown address text h = one_text (groups_of address) text (ip6_shown address) h (shown_text address)

-- the text of an address is read as the address
pub ip6_from_shown : (address : ℕ) → address < 2 ^ 128 → ip6_of (ip6_shown address) ≡ Some address
ip6_from_shown address small = ip6_from_text address (ip6_shown address) small (shown_text address)

-- what is written by the best run
pub run_shown : (address : ℕ) (groups : List ℕ) (at count : ℕ) → groups ≡ groups_of address → IsBestRun groups at count → groups_written groups (at, count) ≡ ip6_shown address
run_shown address groups at count is best =
    text_shown address (groups_written groups (at, count)) (subst (λ (gs : List ℕ). IsIp6Text gs (groups_written groups (at, count))) is (written_text groups (at, count) best))
