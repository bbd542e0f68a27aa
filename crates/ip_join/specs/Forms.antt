-- How the fragments of one datagram are kept: one alone, without what its key says, or several with what answers for all of
-- them.
use Rattle.std.specs.Prelude.{ℕ, List, [], ◌∷◌, length, Option, None, Some}
use Rattle.pk_base.specs.declared.heads.FragmentHead.{FragmentHead}
use Rattle.ip_join.specs.declared.fragment.Fragment.{Fragment}
use Rattle.ip_join.specs.declared.kept.Kept.{Kept}
use Rattle.ip_join.specs.declared.kept.Kept.TheVariants.{One, Many}
use Rattle.ip_join.specs.declared.kept.Place.{Place}
use Rattle.ip_join.specs.Fragments.{bytes_in}

-- what a fragment's head says beside its key
abbrev pub place_of : FragmentHead → ℕ → Place
place_of head frame = record {
  offset = head.offset;
  frame = frame;
  next = head.next;
  more = head.more;
  whole = head.whole;
}

-- the fragment at a place with some bytes, by any head of the same datagram
abbrev pub lone_fragment : FragmentHead → Place × List ℕ → Fragment
lone_fragment head lone = record {
  head = record {
    six = head.six;
    source = head.source;
    target = head.target;
    next = lone.0.next;
    ident = head.ident;
    offset = lone.0.offset;
    more = lone.0.more;
    whole = lone.0.whole;
  };
  frame = lone.0.frame;
  bytes = lone.1;
}

abbrev pub fragments_of : FragmentHead → Kept → List Fragment
fragments_of head (One lone) = lone_fragment head lone.value ∷ []
fragments_of head (Many parts) = parts.value

-- those that are kept, if any are
abbrev pub fragments_in : FragmentHead → Option Kept → List Fragment
fragments_in head None = []
fragments_in head (Some kept) = fragments_of head kept

abbrev pub bytes_kept : Kept → ℕ
bytes_kept (One lone) = length lone.value.1
bytes_kept (Many parts) = bytes_in parts.value

abbrev pub bytes_kept_in : Option Kept → ℕ
bytes_kept_in None = 0
bytes_kept_in (Some kept) = bytes_kept kept
