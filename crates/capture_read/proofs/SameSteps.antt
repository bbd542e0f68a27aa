-- A header, record or block is the same in bytes that begin alike, and ends within the bytes.
use Rattle.std.proofs.Common.{◌≡◌, ◌<◌, ◌≤◌, ℕ, Bool, true, false, eqb, List, [], ◌∷◌, length, Option, Some, None, refl, sym, ap, ◌∙◌, arith, nat_lt, if◌then◌else◌}
use lib.Pointwise.{pointwise}
use Rattle.pk_base.proofs.Choices.{by_case, both_same, isn't_less, is_less}
use Rattle.pk_base.proofs.SameFront.{IsSameFront, front_same}
use Rattle.capture_formats.specs.Pcap.{pcap_head, pcap_item, IsHeadWithin, IsItemWithin}
use Rattle.capture_formats.specs.declared.header.HeadStep.{HeadStep}
use Rattle.capture_formats.specs.declared.header.HeadStep.TheVariants as head
use Rattle.capture_formats.specs.declared.packet.ItemStep.{ItemStep}
use Rattle.capture_formats.specs.declared.packet.ItemStep.TheVariants as item
use Rattle.capture_formats.proofs.SameRecords.{IsItemDecided, IsHeadDecided, item_same, head_same, decided_four, pcap_head-few, pcap_head-within}
use Rattle.capture_formats.proofs.RecordsWithin.{pcap_item-within}
use Rattle.capture_formats.specs.Blocks.{IsReadWithin}
use Rattle.capture_formats.specs.Sections.{Scope, block_in, scope_after, step_of, IsStepWithin}
use Rattle.capture_formats.specs.declared.block.Block.TheVariants as block
use Rattle.capture_formats.specs.declared.block.BlockRead.{BlockRead}
use Rattle.capture_formats.specs.declared.block.BlockRead.TheVariants as read
use Rattle.capture_formats.specs.declared.step.BlockStep.{BlockStep}
use Rattle.capture_formats.specs.declared.step.BlockStep.TheVariants as step
use Rattle.capture_formats.proofs.SameBlocks.{IsReadDecided, block_same, decided_some}
use Rattle.capture_formats.proofs.BlocksWithin.{block_at-within}
use Rattle.capture_read.specs.Capture.{is_pcapng}
use Rattle.capture_read.specs.Reader.{step_here, step_of_head, step_of_item, kind_of_head, kind_then, scope_then, told_kind}
use Rattle.capture_read.specs.declared.kind.Kind.{Kind}
use Rattle.capture_read.specs.declared.kind.Kind.TheVariants.{Pcap, Pcapng}

-- what a header, record or block is in bytes held is told by the first n of them, also for other bytes with these first ones
abbrev pub IsStepDecided : BlockStep → ℕ → ℕ → ℕ → Type 0
IsStepDecided (step.Need m) n held other = (held ≤ n) × (other < m)
IsStepDecided (step.Item found) n held other = found.end ≤ n
IsStepDecided (step.Skipped size) n held other = size ≤ n
IsStepDecided (step.Bad reason) n held other = held ≤ n

read_decided : (r : BlockRead) (n held other within : ℕ) → IsReadWithin r within → IsStepDecided (step_of r) n held other → IsReadDecided r n held other
read_decided (read.Need m) n held other within is decided = decided
read_decided (read.Bad reason) n held other within is decided = decided
read_decided (read.Whole (block.Section little) end) n held other within is decided = decided
read_decided (read.Whole (block.Interface interface) end) n held other within is decided = decided
read_decided (read.Whole (block.Packet found) end) n held other within is decided = omega (arith, is.2.0, decided)
read_decided (read.Whole block.Other end) n held other within is decided = decided

item_decided : (r : ItemStep) (n held other : ℕ) → IsStepDecided (step_of_item r) n held other → IsItemDecided r n held other
item_decided (item.Need m) n held other decided = decided
item_decided (item.Item found) n held other decided = decided
item_decided (item.Bad reason) n held other decided = decided

head_decided : (r : HeadStep) (n held other : ℕ) → IsStepDecided (step_of_head r) n held other → IsHeadDecided r n held other
head_decided (head.Need m) n held other decided = decided
head_decided (head.Head h) n held other decided = decided
head_decided (head.Bad reason) n held other decided = decided

-- the mark of a pcapng file
mark_same : (n : ℕ) (xs ys : List ℕ) → IsSameFront n xs ys → 4 ≤ n → is_pcapng ys ≡ is_pcapng xs
mark_same n xs ys front some =
    ap (λ (bytes : List ℕ). pointwise eqb (0x0A ∷ 0x0D ∷ 0x0D ∷ 0x0A ∷ []) bytes) (sym (front_same n 4 xs ys front some).same)

no_more : (a : Bool) → (if a then false else false) ≡ false
no_more true = refl
no_more false = refl

short_mark : (bytes : List ℕ) → length bytes < 4 → is_pcapng bytes ≡ false
short_mark [] few = refl
short_mark (a ∷ []) few = grind arith
short_mark (a ∷ b ∷ []) few = grind arith
short_mark (a ∷ b ∷ c ∷ []) few = grind arith
short_mark (a ∷ b ∷ c ∷ d ∷ rest) few = absurd (omega arith)

long_mark : (bytes : List ℕ) → is_pcapng bytes ≡ true → 4 ≤ length bytes
long_mark [] is = absurd (false_true is)
  where
    false_true : false ≡ true → ⊥
    false_true h = grind arith
long_mark (a ∷ []) is = grind arith
long_mark (a ∷ b ∷ []) is = grind arith
long_mark (a ∷ b ∷ c ∷ []) is = grind arith
long_mark (a ∷ b ∷ c ∷ d ∷ rest) is = omega arith

-- two files' starts are the same as far as they are read
record IsStartSame (scope : Scope) (xs ys : List ℕ) : Type 0 where
  mark : is_pcapng ys ≡ is_pcapng xs
  block : is_pcapng xs ≡ true → block_in scope ys ≡ block_in scope xs
  head : is_pcapng xs ≡ false → pcap_head ys ≡ pcap_head xs

block_in-same : (scope : Scope) (n : ℕ) (xs ys : List ℕ) → IsSameFront n xs ys → IsStepDecided (step_of (block_in scope xs)) n (length xs) (length ys)
    → block_in scope ys ≡ block_in scope xs
block_in-same scope n xs ys front decided =
    block_same scope.order scope.interfaces n xs ys front
    (read_decided (block_in scope xs) n (length xs) (length ys) (length xs) (block_at-within scope.order scope.interfaces xs) decided)

true_false : {P : Type 0} (a : Bool) → a ≡ true → a ≡ false → P
true_false true h g = grind arith
true_false false h g = grind arith

start_same : (scope : Scope) (n : ℕ) (xs ys : List ℕ) → IsSameFront n xs ys → IsStepDecided (step_here None scope xs) n (length xs) (length ys)
    → IsStartSame scope xs ys
start_same scope n xs ys front decided =
    by_case (λ (s : BlockStep). IsStepDecided s n (length xs) (length ys) → IsStartSame scope xs ys) (is_pcapng xs)
    (step_of (block_in scope xs)) (step_of_head (pcap_head xs))
    (λ is d.
    let read : IsReadDecided (block_in scope xs) n (length xs) (length ys) =
    read_decided (block_in scope xs) n (length xs) (length ys) (length xs) (block_at-within scope.order scope.interfaces xs) d in
    let some : 4 ≤ n = decided_some scope.order scope.interfaces xs 4 n (length ys) read (long_mark xs is) (omega arith) in
    record {
      mark = mark_same n xs ys front some;
      block = λ h. block_in-same scope n xs ys front d;
      head = λ h. true_false (is_pcapng xs) is h;
    })
    (λ isn't d.
    let told : IsHeadDecided (pcap_head xs) n (length xs) (length ys) = head_decided (pcap_head xs) n (length xs) (length ys) d in
    let head : pcap_head ys ≡ pcap_head xs = head_same n xs ys front told in
    record {
      mark = by_four (nat_lt (length xs) 4) isn't told refl;
      block = λ h. true_false (is_pcapng xs) h isn't;
      head = λ h. head;
    }) decided
  where
    by_four : (few : Bool) → is_pcapng xs ≡ false → IsHeadDecided (pcap_head xs) n (length xs) (length ys) → nat_lt (length xs) 4 ≡ few → is_pcapng ys ≡ is_pcapng xs
    by_four true isn't told is =
        let needs : pcap_head xs ≡ head.Need 4 = pcap_head-few xs (is_less (length xs) 4 is) in
        let less : IsHeadDecided (head.Need 4) n (length xs) (length ys) = rw needs at told in
        short_mark ys (omega (arith, less.1)) ∙ sym isn't
    by_four false isn't told is = mark_same n xs ys front (decided_four (pcap_head xs) n (length xs) (length ys) told (isn't_less (length xs) 4 is))

-- the header, record or block, and what is known behind it
pub step_same : (kind : Option Kind) (scope : Scope) (n : ℕ) (xs ys : List ℕ) → IsSameFront n xs ys
    → IsStepDecided (step_here kind scope xs) n (length xs) (length ys) → step_here kind scope ys ≡ step_here kind scope xs
step_same None scope n xs ys front decided =
    let start = start_same scope n xs ys front decided in
    ap (λ (mark : Bool). if mark then step_of (block_in scope ys) else step_of_head (pcap_head ys)) start.mark
    ∙ both_same (is_pcapng xs) _ _ _ _ (λ h. ap step_of (start.block h)) (λ h. ap step_of_head (start.head h))
step_same (Some (Pcap h)) scope n xs ys front decided =
    ap step_of_item (item_same h n xs ys front (item_decided (pcap_item h xs) n (length xs) (length ys) decided))
step_same (Some Pcapng) scope n xs ys front decided = ap step_of (block_in-same scope n xs ys front decided)

pub scope_same : (kind : Option Kind) (scope : Scope) (n : ℕ) (xs ys : List ℕ) → IsSameFront n xs ys
    → IsStepDecided (step_here kind scope xs) n (length xs) (length ys) → scope_then kind scope ys ≡ scope_then kind scope xs
scope_same None scope n xs ys front decided =
    let start = start_same scope n xs ys front decided in
    ap (λ (mark : Bool). if mark then scope_after (block_in scope ys) scope else scope) start.mark
    ∙ both_same (is_pcapng xs) _ _ _ _ (λ h. ap (λ (r : BlockRead). scope_after r scope) (start.block h)) (λ h. refl)
scope_same (Some (Pcap h)) scope n xs ys front decided = refl
scope_same (Some Pcapng) scope n xs ys front decided = ap (λ (r : BlockRead). scope_after r scope) (block_in-same scope n xs ys front decided)

told_same : (kind : Option Kind) (scope : Scope) (n : ℕ) (xs ys : List ℕ) → IsSameFront n xs ys
    → IsStepDecided (step_here kind scope xs) n (length xs) (length ys) → told_kind kind ys ≡ told_kind kind xs
told_same None scope n xs ys front decided =
    let start = start_same scope n xs ys front decided in
    ap (λ (mark : Bool). if mark then Some Pcapng else kind_of_head (pcap_head ys)) start.mark
    ∙ both_same (is_pcapng xs) _ _ _ _ (λ h. refl) (λ h. ap kind_of_head (start.head h))
told_same (Some kind) scope n xs ys front decided = refl

kind_then-same : (s : BlockStep) (kind : Option Kind) (xs ys : List ℕ) → told_kind kind ys ≡ told_kind kind xs → kind_then s kind ys ≡ kind_then s kind xs
kind_then-same (step.Need n) kind xs ys same = refl
kind_then-same (step.Item found) kind xs ys same = same
kind_then-same (step.Skipped size) kind xs ys same = same
kind_then-same (step.Bad reason) kind xs ys same = refl

pub kind_same : (kind : Option Kind) (scope : Scope) (n : ℕ) (xs ys : List ℕ) → IsSameFront n xs ys
    → IsStepDecided (step_here kind scope xs) n (length xs) (length ys)
    → kind_then (step_here kind scope ys) kind ys ≡ kind_then (step_here kind scope xs) kind xs
kind_same kind scope n xs ys front decided =
    ap (λ (s : BlockStep). kind_then s kind ys) (step_same kind scope n xs ys front decided)
    ∙ kind_then-same (step_here kind scope xs) kind xs ys (told_same kind scope n xs ys front decided)

-- a header, record or block ends within the bytes
read_within : (r : BlockRead) (held : ℕ) → IsReadWithin r held → IsStepWithin (step_of r) held
read_within (read.Need n) held within = within
read_within (read.Bad reason) held within = tt
read_within (read.Whole (block.Section little) end) held within = (within.0, within.1)
read_within (read.Whole (block.Interface interface) end) held within = (within.0, within.1)
read_within (read.Whole (block.Packet found) end) held within =
    (omega (arith, within.0, within.2.0), omega (arith, within.1, within.2.0), within.2.1)
read_within (read.Whole block.Other end) held within = (within.0, within.1)

item_within : (r : ItemStep) (held : ℕ) → IsItemWithin r held → IsStepWithin (step_of_item r) held
item_within (item.Need n) held within = within.0
item_within (item.Item found) held within = within
item_within (item.Bad reason) held within = tt

head_within : (r : HeadStep) (held : ℕ) → IsHeadWithin r held → IsStepWithin (step_of_head r) held
head_within (head.Need n) held within = within.0
head_within (head.Head h) held within = (omega arith, within)
head_within (head.Bad reason) held within = tt

pub step_within : (kind : Option Kind) (scope : Scope) (bytes : List ℕ) → IsStepWithin (step_here kind scope bytes) (length bytes)
step_within None scope bytes =
    by_case (λ (s : BlockStep). IsStepWithin s (length bytes)) (is_pcapng bytes) _ _
    (λ h. read_within (block_in scope bytes) (length bytes) (block_at-within scope.order scope.interfaces bytes))
    (λ h. head_within (pcap_head bytes) (length bytes) (pcap_head-within bytes))
step_within (Some (Pcap h)) scope bytes = item_within (pcap_item h bytes) (length bytes) (pcap_item-within h bytes)
step_within (Some Pcapng) scope bytes = read_within (block_in scope bytes) (length bytes) (block_at-within scope.order scope.interfaces bytes)
