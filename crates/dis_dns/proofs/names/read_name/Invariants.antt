use Rattle.std.proofs.Common.{◌≡◌, ℕ, true, List}
use Rattle.dis_dns.specs.Names.{name_at}
use Rattle.dis_dns.proofs.ChainLemmas.{ReadsOn}
use Rattle.dis_dns.proofs.names.read_name.Given as goal

-- the labels so far make a text, which is the one that is shown
abbrev pub invariant-loop-turn : goal.invariant-loop-turn
invariant-loop-turn l =
    (text : List ℕ) × ReadsOn l.bytes l.place l._turn l.walk text (name_at l.bytes l.end l.place) × (l.shown ≡ true → l.text.items ≡ text)
