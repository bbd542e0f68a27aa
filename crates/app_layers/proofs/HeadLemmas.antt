-- What a reader answers comes while its own layer is the last; extension headers are read alike.
use Rattle.std.proofs.Common.{◌≡◌, ◌≢◌, ◌⊎◌, ⊎_elim, ℕ, ◌<◌, Bool, List, length, refl, subst, sym}
use Rattle.std.specs.Prelude.{IfOk, OnOk, Result, Ok, Err}
use Rattle.pk_base.specs.declared.memory.NoMemory.{NoMemory}
use Rattle.pk_base.specs.declared.span.Span.{Span}
use Rattle.pk_base.specs.declared.heads.After.{After}
use Rattle.pk_base.specs.declared.heads.After.TheVariants as afters
use Rattle.pk_base.specs.declared.heads.Mode.{Mode}
use Rattle.pk_base.specs.declared.heads.Next.{Next}
use Rattle.pk_base.specs.declared.heads.Next.TheVariants as nexts
use Rattle.pk_base.specs.declared.heads.PacketHead.{PacketHead}
use Rattle.pk_tree.specs.declared.layer.Layer.{Layer}
use Rattle.pk_tree.specs.Trees.{TreeShown, last_proto}
use Rattle.dis_ip.specs.Extensions.{extension_after}
use Rattle.dis_ip.specs.Fragments.{LastIsPart}
use Rattle.app_layers.specs.Heads.{extension_read, head_after, head_read}
use Rattle.app_layers.specs.Payloads.{ComesBehind}

pub plain_ok : (layers : List Layer) (next : After) (r : Result After NoMemory) → ComesBehind next layers
    → IfOk r (λ after. after ≡ next) → IfOk r (λ after. ComesBehind after layers)
plain_ok layers next (Ok after) behind is = subst (λ (a : After). ComesBehind a layers) (sym is) behind
plain_ok layers next (Err fault) behind is = tt

pub part_ok : (layers : List Layer) (next : After) (r : Result After NoMemory) → (0 < length layers → LastIsPart layers next → ComesBehind next layers)
    → IfOk r (λ after. after ≡ next) → OnOk r (0 < length layers) → IfOk r (LastIsPart layers) → IfOk r (λ after. ComesBehind after layers)
part_ok layers next (Ok after) behind is some part =
    subst (λ (a : After). ComesBehind a layers) (sym is) (behind some (subst (λ (a : After). LastIsPart layers a) is part))
part_ok layers next (Err fault) behind is some part = tt

pub whole_ok : (layers : List Layer) (proto : ℕ) (next : After) (r : Result After NoMemory) → (0 < length layers → (next ≢ afters.End → last_proto layers ≡ proto) → ComesBehind next layers)
    → IfOk r (λ after. after ≡ next) → OnOk r (0 < length layers) → IfOk r (λ after. after ≢ afters.End → last_proto layers ≡ proto) → IfOk r (λ after. ComesBehind after layers)
whole_ok layers proto next (Ok after) behind is some whole =
    subst (λ (a : After). ComesBehind a layers) (sym is) (behind some (subst (λ (a : After). a ≢ afters.End → last_proto layers ≡ proto) is whole))
whole_ok layers proto next (Err fault) behind is some whole = tt

-- an extension header of IPv6
abbrev pub IsExtension : Next → Type 0
IsExtension which = (which ≡ nexts.HopOpts) ⊎ ((which ≡ nexts.Routing) ⊎ ((which ≡ nexts.DstOpts) ⊎ (which ≡ nexts.FragHdr)))

each_extension : (A : Next → Type 0) (which : Next) → A nexts.HopOpts → A nexts.Routing → A nexts.DstOpts → A nexts.FragHdr → IsExtension which → A which
each_extension A which hop routing target part is =
    ⊎_elim (λ e. subst A (sym e) hop) (λ more. ⊎_elim (λ e. subst A (sym e) routing) (λ last. ⊎_elim (λ e. subst A (sym e) target) (λ e. subst A (sym e) part) last) more) is

pub extension_layer : (which : Next) (mode : Mode) (cut : Bool) (span : Span) (t : TreeShown) → IsExtension which → extension_read which mode cut span t ≡ head_read which mode cut span t
unfolding head_read
extension_layer which mode cut span t is = each_extension (λ x. extension_read x mode cut span t ≡ head_read x mode cut span t) which refl refl refl refl is

pub extension_next : (which : Next) (packet : PacketHead) (mode : Mode) (cut : Bool) (span : Span) (bytes : List ℕ) → IsExtension which
    → extension_after which packet mode span bytes ≡ head_after which packet mode cut span bytes
unfolding head_after
extension_next which packet mode cut span bytes is =
    each_extension (λ x. extension_after x packet mode span bytes ≡ head_after x packet mode cut span bytes) which refl refl refl refl is
