-- What is shown behind the last layer of TCP, as a tree grows.
use Rattle.std.proofs.Common.{◌≡◌, ◌==◌, ℕ, zero, suc, ◌+◌, ◌-◌, ◌<◌, Bool, true, false, ◌&&◌, ◌||◌, if◌then◌else◌, List, [], ◌∷◌, ◌++◌, length, map, take, drop, Option, Some, None, refl, sym, ap, ◌∙◌, subst, arith, append_assoc, append-nil}
use Rattle.std.proofs.lemmas.Bool.{true≢false, cond-true, cond-false}
use Rattle.pk_base.specs.declared.span.Span.{Span}
use Rattle.pk_tree.specs.Buffers.{buffer_of, bytes_of}
use Rattle.pk_fields.specs.FieldSets.{is_in}
use Rattle.pk_fields.specs.Ids.{TCP, WS_MALFORMED, WS_SHORT}
use Rattle.pk_base.specs.declared.heads.Mode.{Mode}
use Rattle.pk_base.specs.declared.heads.Mode.TheVariants.{Plain as PlainMode, Embedded}
use Rattle.pk_tree.specs.declared.item.Item.{Item}
use Rattle.pk_tree.specs.declared.layer.Layer.{Layer}
use Rattle.pk_tree.specs.declared.layout.Reach.{Reach}
use Rattle.pk_tree.specs.declared.layout.Reach.TheVariants.{All, Short, Failed}
use Rattle.pk_tree.specs.declared.layout.Step.{Step}
use Rattle.pk_tree.specs.Layouts.{end_of, fault_of, items_read, layer_read, reach, reaches_end, with_fault}
use Rattle.pk_tree.specs.Trees.{TreeShown, layer_gets, layers_of, kept, with_buffer, with_item, with_item_at, with_last, with_layer}
use Rattle.message_links.specs.Linked.{layer_link, layer_linked, linked, with_link}
use Rattle.pk_fields.specs.declared.apps.App.{App}
use Rattle.app_layers.specs.MessageLayers.{app_among}
use Rattle.app_layers.specs.Rows.{framed_apps}
use Rattle.dissect.specs.MessageLaws.{MessageShown, behind_tcp, has_tcp, layer_message, layer_messages, message_of, tree_messages}

-- ---- layers without their items

abbrev pub bare : Layer → Layer
bare layer = record layer { items = [] }

abbrev pub bares : List Layer → List Layer
bares [] = []
bares (layer ∷ layers) = bare layer ∷ bares layers

pub bares_append : (xs ys : List Layer) → bares (xs ++ ys) ≡ bares xs ++ bares ys
bares_append [] ys = refl
bares_append (x ∷ xs) ys = ap (λ (rest : List Layer). bare x ∷ rest) (bares_append xs ys)

pub gets_bares : (layers : List Layer) (at : ℕ) (item : Item) → bares (layer_gets layers at item) ≡ bares layers
gets_bares [] at item = refl
gets_bares (layer ∷ layers) zero item = refl
gets_bares (layer ∷ layers) (suc at) item = ap (λ (rest : List Layer). bare layer ∷ rest) (gets_bares layers at item)

link_bare : (wanted : List ℕ) (links : List (Option ℕ)) (layer : Layer) → bare (layer_linked wanted links layer) ≡ bare layer
link_bare wanted links layer = elim (layer_link wanted links layer) as (λ o. bare (with_link layer o) ≡ bare layer) [
  | None ↦ refl
  | Some link ↦ refl
]

linked_bares : (wanted : List ℕ) (links : List (Option ℕ)) (layers : List Layer) → bares (map (layer_linked wanted links) layers) ≡ bares layers
linked_bares wanted links [] = refl
linked_bares wanted links (layer ∷ layers) =
    ap (λ (first : Layer). first ∷ bares (map (layer_linked wanted links) layers)) (link_bare wanted links layer)
    ∙ ap (λ (rest : List Layer). bare layer ∷ rest) (linked_bares wanted links layers)

pub has_bares : (layers : List Layer) → has_tcp (bares layers) ≡ has_tcp layers
has_bares [] = refl
has_bares (layer ∷ layers) = ap (λ (b : Bool). layer.proto == TCP || b) (has_bares layers)

if_bares : (b : Bool) (xs ys : List Layer) → (if b then bares xs else bares ys) ≡ bares (if b then xs else ys)
if_bares true xs ys = refl
if_bares false xs ys = refl

behind_bares : (layers : List Layer) → behind_tcp (bares layers) ≡ bares (behind_tcp layers)
behind_bares [] = refl
behind_bares (layer ∷ layers) =
    let first : List Layer = if layer.proto == TCP then layers else [] in
    ap (λ (b : Bool). if b then behind_tcp (bares layers) else (if layer.proto == TCP then bares layers else [])) (has_bares layers)
    ∙ ap (λ (xs : List Layer). if has_tcp layers then xs else (if layer.proto == TCP then bares layers else [])) (behind_bares layers)
    ∙ ap (λ (xs : List Layer). if has_tcp layers then bares (behind_tcp layers) else xs) (if_bares (layer.proto == TCP) layers [])
    ∙ if_bares (has_tcp layers) (behind_tcp layers) first

messages_bares : (buffers : List (List ℕ)) (layers : List Layer) → layer_messages buffers (bares layers) ≡ layer_messages buffers layers
messages_bares buffers [] = refl
messages_bares buffers (layer ∷ layers) = ap (λ (ms : List MessageShown). layer_message buffers layer ++ ms) (messages_bares buffers layers)

tree_bares : (t : TreeShown) → tree_messages t ≡ layer_messages t.buffers (behind_tcp (bares t.layers))
tree_bares t =
    sym (messages_bares t.buffers (behind_tcp t.layers)) ∙ ap (layer_messages t.buffers) (sym (behind_bares t.layers))

-- ---- trees that differ in their items alone

pub record IsSameBare (t u : TreeShown) : Type 0 where
  pub layers : bares u.layers ≡ bares t.layers
  pub buffers : u.buffers ≡ t.buffers

pub same_self : (t : TreeShown) → IsSameBare t t
same_self t = record { layers = refl; buffers = refl }

pub same_on : (t u v : TreeShown) → IsSameBare t u → IsSameBare u v → IsSameBare t v
same_on t u v one two = record { layers = two.layers ∙ one.layers; buffers = two.buffers ∙ one.buffers }

pub same_if : (b : Bool) (t u v : TreeShown) → IsSameBare t u → IsSameBare t v → IsSameBare t (if b then u else v)
same_if true t u v one two = one
same_if false t u v one two = two

pub item_bare : (t : TreeShown) (item : Item) → IsSameBare t (with_item t item)
unfolding with_item with_last with_item_at
item_bare t item =
    same_if (is_in t.wanted item.field) t (with_last t item) t (record { layers = gets_bares t.layers (length t.layers - 1) item; buffers = refl }) (same_self t)

pub linked_bare : (wanted : List ℕ) (links : List (Option ℕ)) (t : TreeShown) → IsSameBare t (linked wanted links t)
unfolding linked
linked_bare wanted links t = record { layers = linked_bares wanted links t.layers; buffers = refl }

pub tree_same : (t u : TreeShown) → IsSameBare t u → tree_messages u ≡ tree_messages t
tree_same t u same =
    tree_bares u
    ∙ ap (λ (buffers : List (List ℕ)). layer_messages buffers (behind_tcp (bares u.layers))) same.buffers
    ∙ ap (λ (layers : List Layer). layer_messages t.buffers (behind_tcp layers)) same.layers
    ∙ sym (tree_bares t)

-- ---- no layer of TCP

abbrev pub HasNone : TreeShown → Type 0
HasNone t = has_tcp (bares t.layers) ≡ false

abbrev pub IsOther : ℕ → Type 0
IsOther proto = (proto == TCP) ≡ false

none_first : (b old new : Bool) → (b || old) ≡ false → (old ≡ false → new ≡ false) → (b || new) ≡ false
none_first true old new none more = absurd (true≢false none)
none_first false old new none more = more none

pub none_append : (xs ys : List Layer) → has_tcp xs ≡ false → has_tcp ys ≡ false → has_tcp (xs ++ ys) ≡ false
none_append [] ys before after = after
none_append (x ∷ xs) ys before after = none_first (x.proto == TCP) (has_tcp xs) (has_tcp (xs ++ ys)) before (λ none. none_append xs ys none after)

pub none_same : (t u : TreeShown) → IsSameBare t u → HasNone t → HasNone u
none_same t u same none = ap has_tcp same.layers ∙ none

pub none_buffer : (t : TreeShown) (bytes : List ℕ) → HasNone t → HasNone (with_buffer t bytes)
unfolding with_buffer
none_buffer t bytes none = none

one_other : (layer : Layer) → IsOther layer.proto → has_tcp (layer ∷ []) ≡ false
one_other layer other = ap (λ (b : Bool). b || false) other

none_layer : (t : TreeShown) (proto : ℕ) (span : Span) (items : List Item) → IsOther proto → HasNone t → HasNone (with_layer t proto span items)
unfolding with_layer
none_layer t proto span items other none =
    ap has_tcp (bares_append t.layers _) ∙ none_append (bares t.layers) _ none (one_other (record { proto = proto; nth = layers_of proto t.layers + 1; span = span; items = [] }) other)

-- a fault layer is none of TCP's, and no message
pub each_fault : (P : Option ℕ → Type 0) (mode : Mode) (torn : Bool) (r : Reach) → P None → P (Some WS_SHORT) → P (Some WS_MALFORMED) → P (fault_of mode torn r)
each_fault P PlainMode torn All none short malformed = none
each_fault P Embedded torn All none short malformed = none
each_fault P PlainMode true Short none short malformed = short
each_fault P PlainMode false Short none short malformed = malformed
each_fault P Embedded torn Short none short malformed = none
each_fault P PlainMode torn Failed none short malformed = malformed
each_fault P Embedded torn Failed none short malformed = malformed

pub none_read : (t : TreeShown) (proto : ℕ) (span : Span) (steps : List Step) (mode : Mode) (cut : Bool) → IsOther proto → HasNone t → HasNone (layer_read t proto span steps mode cut)
unfolding layer_read
none_read t proto span steps mode cut other none =
    let u : TreeShown = with_layer t proto span (items_read t.buffers span steps) in
    let one : HasNone u = none_layer t proto span (items_read t.buffers span steps) other none in
    each_fault (λ (fault : Option ℕ). HasNone (with_fault u span fault)) mode (cut && reaches_end t.buffers span) (reach span.len steps) one
    (none_layer u WS_SHORT (end_of span) [] refl one) (none_layer u WS_MALFORMED (end_of span) [] refl one)

behind_none : (layers : List Layer) → has_tcp layers ≡ false → behind_tcp layers ≡ []
behind_none [] none = refl
behind_none (layer ∷ layers) none = by (layer.proto == TCP) none
  where
    by : (b : Bool) → (b || has_tcp layers) ≡ false → (if has_tcp layers then behind_tcp layers else (if b then layers else [])) ≡ []
    by true none = absurd (true≢false none)
    by false none = ap (λ (h : Bool). if h then behind_tcp layers else []) none

pub none_shown : (t : TreeShown) → HasNone t → tree_messages t ≡ []
none_shown t none = tree_bares t ∙ ap (layer_messages t.buffers) (behind_none (bares t.layers) none)

-- ---- messages behind a layer of TCP

pub record Shows (t : TreeShown) (ms : List MessageShown) : Type 0 where
  pub before : List Layer
  pub tcp : Layer
  pub behind : List Layer
  pub layers : bares t.layers ≡ before ++ tcp ∷ behind
  pub is : (tcp.proto == TCP) ≡ true
  pub none : has_tcp behind ≡ false
  pub are : layer_messages t.buffers behind ≡ ms

or_true : (a b : Bool) → b ≡ true → (a || b) ≡ true
or_true true b is = refl
or_true false b is = is

has_behind : (before : List Layer) (tcp : Layer) (behind : List Layer) → (tcp.proto == TCP) ≡ true → has_tcp (before ++ tcp ∷ behind) ≡ true
has_behind [] tcp behind is = ap (λ (b : Bool). b || has_tcp behind) is
has_behind (x ∷ before) tcp behind is = or_true (x.proto == TCP) (has_tcp (before ++ tcp ∷ behind)) (has_behind before tcp behind is)

behind_is : (before : List Layer) (tcp : Layer) (behind : List Layer) → (tcp.proto == TCP) ≡ true → has_tcp behind ≡ false → behind_tcp (before ++ tcp ∷ behind) ≡ behind
behind_is [] tcp behind is none = cond-false _ _ _ none ∙ cond-true _ _ _ is
behind_is (x ∷ before) tcp behind is none = cond-true _ _ _ (has_behind before tcp behind is) ∙ behind_is before tcp behind is none

pub shows_all : (t : TreeShown) (ms : List MessageShown) → Shows t ms → tree_messages t ≡ ms
shows_all t ms shows =
    tree_bares t
    ∙ ap (λ (xs : List Layer). layer_messages t.buffers (behind_tcp xs)) shows.layers
    ∙ ap (layer_messages t.buffers) (behind_is shows.before shows.tcp shows.behind shows.is shows.none)
    ∙ shows.are

pub shows_same : (t u : TreeShown) (ms : List MessageShown) → IsSameBare t u → Shows t ms → Shows u ms
shows_same t u ms same shows = record {
  before = shows.before;
  tcp = shows.tcp;
  behind = shows.behind;
  layers = same.layers ∙ shows.layers;
  is = shows.is;
  none = shows.none;
  are = ap (λ (buffers : List (List ℕ)). layer_messages buffers shows.behind) same.buffers ∙ shows.are;
}

pub shows_as : (t : TreeShown) (ms ns : List MessageShown) → ms ≡ ns → Shows t ms → Shows t ns
shows_as t ms ns same shows = subst (Shows t) same shows

messages_append : (buffers : List (List ℕ)) (xs ys : List Layer) → layer_messages buffers (xs ++ ys) ≡ layer_messages buffers xs ++ layer_messages buffers ys
messages_append buffers [] ys = refl
messages_append buffers (x ∷ xs) ys =
    ap (λ (ms : List MessageShown). layer_message buffers x ++ ms) (messages_append buffers xs ys)
    ∙ sym (append_assoc (layer_message buffers x) (layer_messages buffers xs) (layer_messages buffers ys))

-- one layer more
shows_layer : (t : TreeShown) (ms ns : List MessageShown) (proto : ℕ) (span : Span) (items : List Item) → IsOther proto
    → ((nth : ℕ) → layer_message t.buffers (record { proto = proto; nth = nth; span = span; items = [] }) ≡ ns) → Shows t ms → Shows (with_layer t proto span items) (ms ++ ns)
unfolding with_layer
shows_layer t ms ns proto span items other is shows =
    let nth : ℕ = layers_of proto t.layers + 1 in
    let new : Layer = record { proto = proto; nth = nth; span = span; items = [] } in
    record {
      before = shows.before;
      tcp = shows.tcp;
      behind = shows.behind ++ new ∷ [];
      layers =
          bares_append t.layers (record { proto = proto; nth = nth; span = span; items = kept t.wanted items } ∷ [])
          ∙ ap (λ (xs : List Layer). xs ++ new ∷ []) shows.layers
          ∙ append_assoc shows.before (shows.tcp ∷ shows.behind) (new ∷ []);
      is = shows.is;
      none = none_append shows.behind (new ∷ []) shows.none (one_other new other);
      are =
          messages_append t.buffers shows.behind (new ∷ [])
          ∙ ap (λ (xs : List MessageShown). xs ++ layer_messages t.buffers (new ∷ [])) shows.are
          ∙ ap (λ (xs : List MessageShown). ms ++ xs) (append-nil (layer_message t.buffers new) ∙ is nth);
    }

pub shows_read : (t : TreeShown) (ms ns : List MessageShown) (proto : ℕ) (span : Span) (steps : List Step) (mode : Mode) (cut : Bool) → IsOther proto
    → ((nth : ℕ) → layer_message t.buffers (record { proto = proto; nth = nth; span = span; items = [] }) ≡ ns) → Shows t ms → Shows (layer_read t proto span steps mode cut) (ms ++ ns)
unfolding layer_read
shows_read t ms ns proto span steps mode cut other is shows =
    let u : TreeShown = with_layer t proto span (items_read t.buffers span steps) in
    let one : Shows u (ms ++ ns) = shows_layer t ms ns proto span (items_read t.buffers span steps) other is shows in
    each_fault (λ (fault : Option ℕ). Shows (with_fault u span fault) (ms ++ ns)) mode (cut && reaches_end t.buffers span) (reach span.len steps) one
    (shows_as _ _ _ (append-nil (ms ++ ns)) (shows_layer u (ms ++ ns) [] WS_SHORT (end_of span) [] refl (λ nth. refl) one))
    (shows_as _ _ _ (append-nil (ms ++ ns)) (shows_layer u (ms ++ ns) [] WS_MALFORMED (end_of span) [] refl (λ nth. refl) one))

-- the layer of TCP itself
first_tcp : (t : TreeShown) (span : Span) (items : List Item) → Shows (with_layer t TCP span items) []
unfolding with_layer
first_tcp t span items =
    let nth : ℕ = layers_of TCP t.layers + 1 in
    record {
      before = bares t.layers;
      tcp = record { proto = TCP; nth = nth; span = span; items = [] };
      behind = [];
      layers = bares_append t.layers (record { proto = TCP; nth = nth; span = span; items = kept t.wanted items } ∷ []);
      is = refl;
      none = refl;
      are = refl;
    }

pub tcp_read : (t : TreeShown) (span : Span) (steps : List Step) (mode : Mode) (cut : Bool) → Shows (layer_read t TCP span steps mode cut) []
unfolding layer_read
tcp_read t span steps mode cut =
    let u : TreeShown = with_layer t TCP span (items_read t.buffers span steps) in
    let one : Shows u [] = first_tcp t span (items_read t.buffers span steps) in
    each_fault (λ (fault : Option ℕ). Shows (with_fault u span fault) []) mode (cut && reaches_end t.buffers span) (reach span.len steps) one
    (shows_layer u [] [] WS_SHORT (end_of span) [] refl (λ nth. refl) one) (shows_layer u [] [] WS_MALFORMED (end_of span) [] refl (λ nth. refl) one)

-- ---- one buffer more

take_none : (n : ℕ) → take {A = ℕ} n [] ≡ []
take_none zero = refl
take_none (suc n) = refl

drop_none : (n : ℕ) → drop {A = ℕ} n [] ≡ []
drop_none zero = refl
drop_none (suc n) = refl

part_some : (a b : ℕ) (xs : List ℕ) → 0 < length (take a (drop b xs)) → 0 < length xs
part_some a b [] some = absurd (omega (arith, some, ap length (ap (take a) (drop_none b) ∙ take_none a)))
part_some a b (x ∷ xs) some = omega arith

buffer_stays : (buffers more : List (List ℕ)) (n : ℕ) → 0 < length (buffer_of buffers n) → buffer_of (buffers ++ more) n ≡ buffer_of buffers n
buffer_stays [] more zero some = absurd (omega (arith, some))
buffer_stays [] more (suc n) some = absurd (omega (arith, some))
buffer_stays (b ∷ buffers) more zero some = refl
buffer_stays (b ∷ buffers) more (suc n) some = buffer_stays buffers more n some

pub bytes_stay : (buffers more : List (List ℕ)) (span : Span) → 0 < length (bytes_of buffers span) → bytes_of (buffers ++ more) span ≡ bytes_of buffers span
unfolding bytes_of
bytes_stay buffers more span some =
    ap (λ (bytes : List ℕ). take span.len (drop span.start bytes))
    (buffer_stays buffers more span.buffer (part_some span.len span.start (buffer_of buffers span.buffer) some))

abbrev pub AreSome : List MessageShown → Type 0
AreSome [] = Unit {0}
AreSome (m ∷ ms) = (0 < length m.bytes) × AreSome ms

pub some_append : (ms ns : List MessageShown) → AreSome ms → AreSome ns → AreSome (ms ++ ns)
some_append [] ns before after = after
some_append (m ∷ ms) ns before after = (before.0, some_append ms ns before.1 after)

-- a layer by its application
abbrev message_at : App → List (List ℕ) → Span → MessageShown
message_at app buffers span = record { app = app; bytes = bytes_of buffers span }

first_stays : (app : App) (buffers more : List (List ℕ)) (span : Span) (ms ns : List MessageShown) → 0 < length (bytes_of buffers span) → ns ≡ ms
    → message_at app (buffers ++ more) span ∷ ns ≡ message_at app buffers span ∷ ms
first_stays app buffers more span ms ns some same =
    ap (λ (bytes : List ℕ). record { app = app; bytes = bytes } ∷ ns) (bytes_stay buffers more span some)
    ∙ ap (λ (rest : List MessageShown). message_at app buffers span ∷ rest) same

one_stays : (app : Option App) (buffers more : List (List ℕ)) (span : Span) (ms ns : List MessageShown) → AreSome (message_of app (bytes_of buffers span) ++ ms) → (AreSome ms → ns ≡ ms)
    → message_of app (bytes_of (buffers ++ more) span) ++ ns ≡ message_of app (bytes_of buffers span) ++ ms
one_stays (Some app) buffers more span ms ns some same = first_stays app buffers more span ms ns some.0 (same some.1)
one_stays None buffers more span ms ns some same = same some

layers_stay : (buffers more : List (List ℕ)) (layers : List Layer) → AreSome (layer_messages buffers layers) → layer_messages (buffers ++ more) layers ≡ layer_messages buffers layers
layers_stay buffers more [] some = refl
layers_stay buffers more (layer ∷ layers) some =
    one_stays (app_among framed_apps layer.proto) buffers more layer.span (layer_messages buffers layers) (layer_messages (buffers ++ more) layers) some (layers_stay buffers more layers)

pub shows_buffer : (t : TreeShown) (ms : List MessageShown) (bytes : List ℕ) → AreSome ms → Shows t ms → Shows (with_buffer t bytes) ms
unfolding with_buffer
shows_buffer t ms bytes some shows = record {
  before = shows.before;
  tcp = shows.tcp;
  behind = shows.behind;
  layers = shows.layers;
  is = shows.is;
  none = shows.none;
  are = layers_stay t.buffers (bytes ∷ []) shows.behind (subst AreSome (sym shows.are) some) ∙ shows.are;
}
