-- Where messages of DNS end in a stream.
use Rattle.std.proofs.Common.{◌≡◌, ℕ, ◌+◌, ◌*◌, Bool, false, if◌then◌else◌, List, [], ◌∷◌, length, Option, Some, None, unwrap_or, inl, inr, refl, sym, ap, subst, ◌∙◌, arith}
use Rattle.std.specs.Prelude.{nat_le, nat_lt}
use Rattle.std.specs.Option.{option_map}
use Rattle.std.proofs.lemmas.Bool.{cases_Bool, cond-true, cond-false, leb-true, leb-false, le-leb, le-ltb, lt-leb}
use Rattle.stream_messages.specs.declared.framer.Framer.{Framer}
use Rattle.stream_messages.specs.declared.framer.Framer.TheVariants as framers
use Rattle.stream_messages.specs.declared.told.Told.{Told}
use Rattle.stream_messages.specs.declared.told.Told.TheVariants.{Sized}
use Rattle.stream_messages.specs.Framers.{first_sized, fit, number_of}
use Rattle.stream_messages.specs.Tellings.{first_of}
use Rattle.app_layers.specs.Framing.{DnsFramed, first_dns}

fits : (n end : ℕ) (bytes rest : List ℕ) → length bytes ≡ length rest + 2 → end ≡ n + 2 → fit end bytes ≡ (if nat_le n (length rest) then Some (n + 2) else None)
fits n end bytes rest long is = elim (cases_Bool (nat_le n (length rest))) [
  | inl within ↦
      cond-true (nat_le end (length bytes)) (Some end) None (le-leb end (length bytes) (omega (arith, is, long, leb-true n (length rest) within)))
      ∙ ap Some is ∙ sym (cond-true (nat_le n (length rest)) (Some (n + 2)) None within)
  | inr past ↦
      cond-false (nat_le end (length bytes)) (Some end) None (lt-leb end (length bytes) (omega (arith, is, long, leb-false n (length rest) past)))
      ∙ sym (cond-false (nat_le n (length rest)) (Some (n + 2)) None past)
]

by_two : (bytes : List ℕ) → first_sized 2 0 2 bytes ≡ first_dns bytes
by_two [] = refl
by_two (high ∷ []) = refl
by_two (high ∷ low ∷ rest) =
    let there : nat_lt (length (high ∷ low ∷ rest)) 2 ≡ false = le-ltb (length (high ∷ low ∷ rest)) 2 (omega arith) in
    cond-false (nat_lt (length (high ∷ low ∷ rest)) 2) None (fit (2 + number_of (high ∷ low ∷ [])) (high ∷ low ∷ rest)) there
    ∙ fits (high * 256 + low) (2 + number_of (high ∷ low ∷ [])) (high ∷ low ∷ rest) rest (omega arith) (omega arith)

pub dns_framed : DnsFramed
dns_framed framer asked bytes is =
    subst (λ (one : Framer). first_of one asked bytes ≡ option_map Sized (first_dns bytes))
    (ap (λ (o : Option Framer). unwrap_or o framer) is) (ap (option_map Sized) (by_two bytes))
