-- A header or record is the same in bytes that begin alike.
use Rattle.std.proofs.Common.{◌≡◌, ◌<◌, ◌≤◌, ℕ, Bool, true, false, List, length, refl, sym, ap, ◌∙◌, arith, nat_lt, if◌then◌else◌, ◌==◌}
use Rattle.std.proofs.lemmas.Grind.{common_steps}
use Rattle.pk_base.specs.Endian.{number_at}
use Rattle.pk_base.specs.declared.found.Reason.TheVariants.{UnknownMagic}
use Rattle.pk_base.proofs.Choices.{by_case, choice_same, is_less, isn't_less, less, not_less}
use Rattle.pk_base.proofs.SameFront.{IsSameFront, number_same}
use Rattle.capture_formats.specs.Pcap.{IsHeadWithin, pcap_head, pcap_item, header_after_magic, microsecond_magic, nanosecond_magic}
use Rattle.capture_formats.specs.declared.header.PcapHead.{PcapHead}
use Rattle.capture_formats.specs.declared.header.HeadStep.{HeadStep}
use Rattle.capture_formats.specs.declared.header.HeadStep.TheVariants as head
use Rattle.capture_formats.specs.declared.packet.ItemStep.{ItemStep}
use Rattle.capture_formats.specs.declared.packet.ItemStep.TheVariants as item

-- what a record is in bytes held is told by the first n of them, also for other bytes with these first ones
abbrev pub IsItemDecided : ItemStep → ℕ → ℕ → ℕ → Type 0
IsItemDecided (item.Need m) n held other = (held ≤ n) × (other < m)
IsItemDecided (item.Item found) n held other = found.end ≤ n
IsItemDecided (item.Bad reason) n held other = held ≤ n

-- so is what a header is
abbrev pub IsHeadDecided : HeadStep → ℕ → ℕ → ℕ → Type 0
IsHeadDecided (head.Need m) n held other = (held ≤ n) × (other < m)
IsHeadDecided (head.Head h) n held other = 24 ≤ n
IsHeadDecided (head.Bad reason) n held other = held ≤ n

pub item_same : (h : PcapHead) (n : ℕ) (xs ys : List ℕ) → IsSameFront n xs ys → IsItemDecided (pcap_item h xs) n (length xs) (length ys)
    → pcap_item h ys ≡ pcap_item h xs
unfolding pcap_item
item_same h n xs ys front decided =
    grind (
      arith,
      common_steps,
      number_same h.little 4 0 n xs ys front,
      number_same h.little 4 4 n xs ys front,
      number_same h.little 4 8 n xs ys front,
      number_same h.little 4 12 n xs ys front,
    )

-- what follows the magic number
after_magic_same : (little nano : Bool) (n : ℕ) (xs ys : List ℕ) → IsSameFront n xs ys
    → IsHeadDecided (header_after_magic little nano xs) n (length xs) (length ys) → header_after_magic little nano ys ≡ header_after_magic little nano xs
after_magic_same little nano n xs ys front decided =
    grind (arith, common_steps, number_same little 2 4 n xs ys front, number_same little 4 20 n xs ys front)

-- a header of at least four bytes
abbrev by_magic : ℕ → ℕ → (Bool → Bool → HeadStep) → HeadStep
by_magic low high follows =
    if low == microsecond_magic then follows true false
    else if low == nanosecond_magic then follows true true
    else if high == microsecond_magic then follows false false
    else if high == nanosecond_magic then follows false true
    else head.Bad UnknownMagic

abbrev long_head : List ℕ → HeadStep
long_head bytes = by_magic (number_at true 4 0 bytes) (number_at false 4 0 bytes) (λ little nano. header_after_magic little nano bytes)

by_magic-same : (Decided : HeadStep → Type 0) (low high : ℕ) (f g : Bool → Bool → HeadStep)
    → ((little nano : Bool) → Decided (f little nano) → g little nano ≡ f little nano) → Decided (by_magic low high f)
    → by_magic low high g ≡ by_magic low high f
by_magic-same Decided low high f g same decided =
    choice_same Decided (low == microsecond_magic) _ _ _ _ (same true false)
    (choice_same Decided (low == nanosecond_magic) _ _ _ _ (same true true)
    (choice_same Decided (high == microsecond_magic) _ _ _ _ (same false false)
    (choice_same Decided (high == nanosecond_magic) _ _ _ _ (same false true) (λ d. refl)))) decided

pub pcap_head-long : (bytes : List ℕ) → 4 ≤ length bytes → pcap_head bytes ≡ long_head bytes
unfolding pcap_head
pcap_head-long bytes long = rw (not_less (length bytes) 4 long) refl

pub pcap_head-few : (bytes : List ℕ) → length bytes < 4 → pcap_head bytes ≡ head.Need 4
unfolding pcap_head
pcap_head-few bytes few = rw (less (length bytes) 4 few) refl

-- four bytes at least are needed where four are held
pub decided_four : (step : HeadStep) (n held other : ℕ) → IsHeadDecided step n held other → 4 ≤ held → 4 ≤ n
decided_four (head.Need m) n held other decided long = omega (arith, decided.0)
decided_four (head.Head h) n held other decided long = omega (arith, decided)
decided_four (head.Bad reason) n held other decided long = omega (arith, decided)

pub head_same : (n : ℕ) (xs ys : List ℕ) → IsSameFront n xs ys → IsHeadDecided (pcap_head xs) n (length xs) (length ys)
    → pcap_head ys ≡ pcap_head xs
unfolding pcap_head
head_same n xs ys front decided =
    by_case (λ step. IsHeadDecided step n (length xs) (length ys) → pcap_head ys ≡ step) (nat_lt (length xs) 4) (head.Need 4) (long_head xs)
    (λ h d. pcap_head-few ys (omega (arith, d.1)))
    (λ h d.
    let four : 4 ≤ n = decided_four (long_head xs) n (length xs) (length ys) d (isn't_less (length xs) 4 h) in
    let low : number_at true 4 0 ys ≡ number_at true 4 0 xs = sym (number_same true 4 0 n xs ys front four) in
    let high : number_at false 4 0 ys ≡ number_at false 4 0 xs = sym (number_same false 4 0 n xs ys front four) in
    let follows : Bool → Bool → HeadStep = λ little nano. header_after_magic little nano ys in
    pcap_head-long ys (omega (arith, four, front.other))
    ∙ ap (λ (number : ℕ). by_magic number (number_at false 4 0 ys) follows) low
    ∙ ap (λ (number : ℕ). by_magic (number_at true 4 0 xs) number follows) high
    ∙ by_magic-same (λ step. IsHeadDecided step n (length xs) (length ys)) (number_at true 4 0 xs) (number_at false 4 0 xs)
    (λ little nano. header_after_magic little nano xs) follows (λ little nano. after_magic_same little nano n xs ys front) d) decided

-- a header ends within the bytes, and more are needed only where there are fewer
after_magic-within : (little nano : Bool) (bytes : List ℕ) → IsHeadWithin (header_after_magic little nano bytes) (length bytes)
after_magic-within little nano bytes = grind (arith, common_steps)

pub pcap_head-within : (bytes : List ℕ) → IsHeadWithin (pcap_head bytes) (length bytes)
unfolding pcap_head
pcap_head-within bytes =
    by_case (λ step. IsHeadWithin step (length bytes)) (nat_lt (length bytes) 4) _ _ (λ h. (is_less (length bytes) 4 h, omega arith))
    (λ h. by_case (λ step. IsHeadWithin step (length bytes)) (number_at true 4 0 bytes == microsecond_magic) _ _ (λ h. after_magic-within true false bytes)
    (λ h. by_case (λ step. IsHeadWithin step (length bytes)) (number_at true 4 0 bytes == nanosecond_magic) _ _ (λ h. after_magic-within true true bytes)
    (λ h. by_case (λ step. IsHeadWithin step (length bytes)) (number_at false 4 0 bytes == microsecond_magic) _ _ (λ h. after_magic-within false false bytes)
    (λ h. by_case (λ step. IsHeadWithin step (length bytes)) (number_at false 4 0 bytes == nanosecond_magic) _ _ (λ h. after_magic-within false true bytes)
    (λ h. tt)))))
