-- What one more frame adds to a sum over all.
use Rattle.std.proofs.Common.{◌≡◌, ◌+◌, ℕ, Bool, true, false, not, cond, List, [], ◌∷◌, length, filter, sum, Option, Some, None, refl, ap, ◌∙◌, arith}
use Rattle.std.proofs.lemmas.Bool.{eq-eqb}
use Rattle.std.proofs.lemmas.List.Sums.{sum_by-cons}
use Rattle.pk_base.specs.declared.heads.Address.{Address}
use Rattle.pk_base.specs.declared.heads.Address.TheVariants.{Four, Six}
use Rattle.cap_stats.specs.declared.counts.Tally.{Tally}
use Rattle.cap_stats.specs.declared.counts.Talk.{Talk}
use Rattle.cap_stats.specs.declared.party.Flight.{Flight}
use Rattle.cap_stats.specs.declared.party.Party.{Party}
use Rattle.cap_stats.specs.Counts.{tally_of, sizes_tally, is_same_address, is_same_port, is_same, first_of, leaves, lengths_of, talk_between, talk_of}
use Rattle.cap_stats.specs.Steps.{tally_with, tally_after, first_talk, talk_after}

tally_more : (size : ℕ) (sizes : List ℕ) → tally_of (size ∷ sizes) ≡ tally_with (tally_of sizes) size
tally_more size sizes =
    let frames : length (size ∷ sizes) ≡ length sizes + 1 = omega arith in
    let bytes : sum (size ∷ sizes) ≡ sum sizes + size = omega (arith, sum_by-cons (λ (x : ℕ). x) size sizes) in
    λ i. record { frames = frames i; bytes = bytes i }

tally_one : (size : ℕ) → tally_of (size ∷ []) ≡ record { frames = 1; bytes = size }
tally_one size =
    let bytes : sum (size ∷ []) ≡ size = omega (arith, sum_by-cons (λ (x : ℕ). x) size []) in
    λ i. record { frames = 1; bytes = bytes i }

pub sizes_more : (size : ℕ) (sizes : List ℕ) → sizes_tally (size ∷ sizes) ≡ Some (tally_after (sizes_tally sizes) size)
unfolding sizes_tally
sizes_more size [] = ap (λ (tally : Tally). Some tally) (tally_one size)
sizes_more size (next ∷ sizes) = ap (λ (tally : Tally). Some tally) (tally_more size (next ∷ sizes))

address_same : (address : Address) → is_same_address address address ≡ true
address_same (Four address) = eq-eqb address address refl
address_same (Six address) = eq-eqb address address refl

port_same : (port : Option ℕ) → is_same_port port port ≡ true
port_same None = refl
port_same (Some port) = eq-eqb port port refl

party_same : (party : Party) → is_same party party ≡ true
party_same party = rw (address_same party.address, port_same party.port) refl

-- flights split by whether they leave the first end
abbrev split : Flight → Flight → List Flight → Bool → Talk
split first flight flights test = record {
  from = first.from;
  to = first.to;
  there = tally_of (lengths_of (cond test (flight ∷ filter (leaves first.from) flights) (filter (leaves first.from) flights)));
  back = tally_of (lengths_of (cond (not test) (flight ∷ filter (λ f. not (leaves first.from f)) flights) (filter (λ f. not (leaves first.from f)) flights)));
}

abbrev added : Flight → Flight → List Flight → Bool → Talk
added first flight flights test =
    let talk = talk_between first flights in
    cond test (record talk { there = tally_with talk.there flight.bytes }) (record talk { back = tally_with talk.back flight.bytes })

split_more : (first flight : Flight) (flights : List Flight) (test : Bool) → split first flight flights test ≡ added first flight flights test
split_more first flight flights true =
    ap (λ (tally : Tally). record (talk_between first flights) { there = tally }) (tally_more flight.bytes (lengths_of (filter (leaves first.from) flights)))
split_more first flight flights false =
    ap (λ (tally : Tally). record (talk_between first flights) { back = tally }) (tally_more flight.bytes (lengths_of (filter (λ f. not (leaves first.from f)) flights)))

split_one : (flight : Flight) → split flight flight [] true ≡ first_talk flight
split_one flight = ap (λ (tally : Tally). record (first_talk flight) { there = tally }) (tally_one flight.bytes)

pub talk_more : (flight : Flight) (flights : List Flight) → talk_of (flight ∷ flights) ≡ Some (talk_after (talk_of flights) flight)
unfolding talk_of
talk_more flight [] =
    ap (λ (test : Bool). Some (split flight flight [] test)) (party_same flight.from) ∙ ap (λ (talk : Talk). Some talk) (split_one flight)
talk_more flight (next ∷ flights) =
    let first = first_of next flights in
    ap (λ (talk : Talk). Some talk) (split_more first flight (next ∷ flights) (is_same flight.from first.from))
