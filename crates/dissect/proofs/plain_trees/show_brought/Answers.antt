use Rattle.std.proofs.Common.{All, ℕ, List, [], ◌∷◌, length, subst, sym, ap, ◌∙◌, arith}
use Rattle.std.specs.List.{AllByRecursion as Each}
use Rattle.std.proofs.lemmas.List.{length-drop}
use Rattle.pk_fields.specs.Ids.{TCP}
use Rattle.pk_source.specs.declared.header.Header.{Header}
use Rattle.pk_tree.specs.Buffers.{IsInside, bytes_of}
use Rattle.pk_tree.specs.Trees.{TreeShown}
use Rattle.tcp_messages.specs.Shown.{IsWholeIn}
use Rattle.app_layers.specs.Payloads.{LastIs}
use Rattle.dissect.specs.Feeding.{grown_by}
use Rattle.dissect.specs.Ways.{IsReadBy}
use Rattle.dissect.proofs.plain_trees.show_brought.Goals as goal

pub open_all-requires-clause-read : goal.open_all-requires-clause-read
open_all-requires-clause-read c =
    subst (λ (buffers : List (List ℕ)). Each (IsReadBy buffers) c.behind_first.result.now) (sym c.requires.frame)
    (subst (Each (IsReadBy (c.args.frame.now.bytes ∷ []))) (sym c.behind_first.ensures) c.requires.read)

pub open_all-requires-clause-room : goal.open_all-requires-clause-room
open_all-requires-clause-room c =
    omega (arith, c.requires.layers, c.requires.few, ap length c.behind_first.ensures, length-drop 1 c.args.headers.now)

pub tell_segment-requires-clause-inside : goal.tell_segment-requires-clause-inside
tell_segment-requires-clause-inside c =
    subst (λ (buffers : List (List ℕ)). IsInside buffers c.args.brought.now.payload) (sym (c.open_all.ensures.buffers ∙ c.requires.frame)) c.requires.inside

pub tell_segment-requires-clause-last : goal.tell_segment-requires-clause-last
tell_segment-requires-clause-last c =
    subst (λ (t : TreeShown). LastIs TCP t.layers) (sym c.in_ok-open_all.ensures.tree)
    (subst (λ (headers : List Header). LastIs TCP (grown_by c.args.tree.now headers).layers) (sym c.behind_first.ensures) c.requires.last)

pub add_carried-requires-clause-inside : goal.add_carried-requires-clause-inside
add_carried-requires-clause-inside c =
    subst (λ (buffers : List (List ℕ)). IsInside buffers c.args.brought.now.payload) (sym (c.tell_segment.ensures.buffers ∙ c.open_all.ensures.buffers ∙ c.requires.frame)) c.requires.inside

pub add_carried-requires-clause-whole : goal.add_carried-requires-clause-whole
add_carried-requires-clause-whole c =
    subst (λ (buffers : List (List ℕ)). All (IsWholeIn (bytes_of buffers c.args.brought.now.payload)) c.args.brought.now.met.messages)
    (sym (c.tell_segment.ensures.buffers ∙ c.open_all.ensures.buffers ∙ c.requires.frame)) c.requires.showable.whole
