-- Fragments and answers whose frames get other numbers.
use Rattle.std.specs.Prelude.{ℕ, map}
use Rattle.ip_join.specs.declared.joined.Joined.{Joined}
use Rattle.ip_join.specs.declared.joined.Joined.TheVariants.{Pending, Whole, Conflict}
use Rattle.ip_join.specs.declared.fragment.Fragment.{Fragment}

abbrev pub renumbered : (ℕ → ℕ) → Fragment → Fragment
renumbered renumber fragment =
    record { head = fragment.head; frame = renumber fragment.frame; bytes = fragment.bytes }

abbrev pub answer_renumbered : (ℕ → ℕ) → Joined → Joined
answer_renumbered renumber Pending = Pending
answer_renumbered renumber (Whole datagram) =
    Whole (record {
      next = datagram.next;
      bytes = datagram.bytes;
      frames = map renumber datagram.frames;
    })
answer_renumbered renumber (Conflict kind) = Conflict kind
