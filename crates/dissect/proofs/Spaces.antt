-- Room for layers and buffers, header by header.
use Rattle.std.proofs.Common.{◌≡◌, ℕ, ◌+◌, ◌-◌, ◌*◌, ◌<◌, ◌≤◌, length, subst, ap, arith}
use Rattle.std.specs.Prelude.{IfOk, OnOk, Result, Ok, Err}
use Rattle.pk_base.specs.declared.memory.NoMemory.{NoMemory}
use Rattle.pk_tree.specs.Trees.{TreeShown}
use Rattle.dissect.specs.declared.todo.Head.{Head}
use Rattle.dissect.specs.declared.todo.Todo.{Todo}
use Rattle.dissect.specs.declared.todo.Todo.TheVariants as todos
use Rattle.dissect.specs.Stands.{AddsFew, HasSpace}

-- few were added, whatever follows
few_at : (most : ℕ) (old new : TreeShown) (todo : Todo) → length new.layers ≤ length old.layers + most → length new.buffers ≤ length old.buffers + 1 → AddsFew most old new todo
few_at most old new todos.Done layers buffers = tt
few_at most old new (todos.Head head) layers buffers = (layers, buffers)

pub few_all : (most less : ℕ) (old new : TreeShown) (r : Result Todo NoMemory) → less ≤ most → OnOk r (length new.buffers ≤ length old.buffers + 1) → OnOk r (length new.layers ≤ length old.layers + less)
    → IfOk r (λ todo. AddsFew most old new todo)
few_all most less old new (Ok todo) within buffers layers = few_at most old new todo (omega (arith, layers)) buffers
few_all most less old new (Err fault) within buffers layers = tt

pub few_same : (most less : ℕ) (old new : TreeShown) (r : Result Todo NoMemory) → less ≤ most → new.buffers ≡ old.buffers → OnOk r (length new.layers ≤ length old.layers + less)
    → IfOk r (λ todo. AddsFew most old new todo)
few_same most less old new (Ok todo) within same layers = few_at most old new todo (omega (arith, layers)) (omega (arith, ap length same))
few_same most less old new (Err fault) within same layers = tt

-- behind a layer more
behind_at : (old mid new : TreeShown) (todo : Todo) → length mid.layers ≤ length old.layers + 2 → mid.buffers ≡ old.buffers → AddsFew 4 mid new todo → AddsFew 6 old new todo
behind_at old mid new todos.Done layers same few = tt
behind_at old mid new (todos.Head head) layers same few = (omega (arith, few.0), subst (λ bs. length new.buffers ≤ length bs + 1) same few.1)

pub few_behind : (old mid new : TreeShown) (r : Result Todo NoMemory) → length mid.layers ≤ length old.layers + 2 → mid.buffers ≡ old.buffers → IfOk r (λ todo. AddsFew 4 mid new todo)
    → IfOk r (λ todo. AddsFew 6 old new todo)
few_behind old mid new (Ok todo) layers same few = behind_at old mid new todo layers same few
few_behind old mid new (Err fault) layers same few = tt

-- so there is room at first
first_at : (old mid new : TreeShown) (todo : Todo) → length old.layers ≤ 2 → length old.buffers ≡ 1 → length mid.layers ≤ length old.layers + 2 → mid.buffers ≡ old.buffers
    → AddsFew 4 mid new todo → HasSpace 32 new todo
first_at old mid new todos.Done few one layers same adds = tt
first_at old mid new (todos.Head head) few one layers same adds =
    let buffers : length new.buffers ≤ length old.buffers + 1 = subst (λ bs. length new.buffers ≤ length bs + 1) same adds.1 in
    (omega (arith, adds.0), omega (arith, buffers))

pub first_space : (old mid new : TreeShown) (r : Result Todo NoMemory) → length old.layers ≤ 2 → length old.buffers ≡ 1 → length mid.layers ≤ length old.layers + 2 → mid.buffers ≡ old.buffers
    → IfOk r (λ todo. AddsFew 4 mid new todo) → IfOk r (λ todo. HasSpace 32 new todo)
first_space old mid new (Ok todo) few one layers same adds = first_at old mid new todo few one layers same adds
first_space old mid new (Err fault) few one layers same adds = tt

-- and for fewer headers too
pub space_less : (left : ℕ) (t : TreeShown) (todo : Todo) → left ≤ 32 → HasSpace 32 t todo → HasSpace left t todo
space_less left t todos.Done few space = tt
space_less left t (todos.Head head) few space = (omega (arith, space.0), omega (arith, space.1))

-- where a header is to be read there is room for it
pub space_now : (left : ℕ) (t : TreeShown) (todo : Todo) (head : Head) → todo ≡ todos.Head head → HasSpace left t todo → (length t.layers + 6 * left ≤ 224) × (length t.buffers + left ≤ 34)
space_now left t todo head is_head space = subst (HasSpace left t) is_head space

-- and behind it for one less
pub space_on : (left : ℕ) (t new : TreeShown) (todo : Todo) → 0 < left → length t.layers + 6 * left ≤ 224 → length t.buffers + left ≤ 34 → AddsFew 6 t new todo → HasSpace (left - 1) new todo
space_on left t new todos.Done some layers buffers few = tt
space_on left t new (todos.Head head) some layers buffers few = (omega (arith, few.0), omega (arith, few.1))
