-- Frames that show no message with links and name no other: later frames ask nothing of them. Lists have the newest first.
use Rattle.std.specs.Prelude.{◌≡◌, ◌==◌, ◌||◌, ℕ, Bool, false, List, ◌∷◌, is_some}
use Rattle.std.specs.List.{AllByRecursion as Each}
use Rattle.pk_fields.specs.Ids.{DNS, HTTP, IP_FRAGMENT, IPV6_FRAGMENT, TCP_SEGMENT}
use Rattle.pk_tree.specs.declared.item.Item.{Item}
use Rattle.pk_tree.specs.declared.layer.Layer.{Layer}
use Rattle.pk_tree.specs.Trees.{TreeShown}
use Rattle.second_pass.specs.declared.links.Links.{Links}
use Rattle.second_pass.specs.Forward.{forwarded}
use Rattle.second_pass.specs.Named.{Noted, names, oldest}
use Rattle.second_pass.specs.Stands.{Stands}

-- a field that doesn't tell a frame that brought a part of a datagram or of a message
pub record NamesNone (field : ℕ) : Type 0 where
  pub part : (field == IP_FRAGMENT) ≡ false
  pub part6 : (field == IPV6_FRAGMENT) ≡ false
  pub segment : (field == TCP_SEGMENT) ≡ false

-- a layer that is no message of DNS or HTTP, and names no frame
pub record IsOther (layer : Layer) : Type 0 where
  pub dns : (layer.proto == DNS) ≡ false
  pub http : (layer.proto == HTTP) ≡ false
  pub items : Each (λ (item : Item). NamesNone item.field) layer.items

-- whether a later frame names this one among those that brought its bytes
abbrev pub is_named : List Noted → ℕ → Bool
is_named past frame =
    is_some (oldest (names IP_FRAGMENT frame) past)
    || is_some (oldest (names IPV6_FRAGMENT frame) past)
    || is_some (oldest (names TCP_SEGMENT frame) past)

-- noting such a frame leaves links as they are
abbrev pub OthersPass : Type 0
OthersPass = (past : List Noted) (noted : Noted) (links : Links) → Each IsOther noted.layers → Stands past links → Stands (noted ∷ past) links

-- and it gets none, where no later frame names it
abbrev pub OthersStay : Type 0
OthersStay = (past : List Noted) (frame : ℕ) (t : TreeShown) → Each IsOther t.layers → is_named past frame ≡ false → forwarded past frame t ≡ t
