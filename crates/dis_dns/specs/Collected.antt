-- What is kept of the steps of a layer while they are collected: their list, or how far they are read alone.
use Rattle.std.specs.Prelude.{◌≡◌, ℕ, Bool, true, false, ◌&&◌, if◌then◌else◌, List, [], ◌∷◌, ◌++◌, map, Option}
use Rattle.pk_fields.specs.Fields.{row_of}
use Rattle.pk_fields.specs.FieldSets.{is_in}
use Rattle.pk_tree.specs.declared.layout.Reach.{Reach}
use Rattle.pk_tree.specs.declared.layout.Reach.TheVariants.{All}
use Rattle.pk_tree.specs.declared.layout.Step.{Step}
use Rattle.pk_tree.specs.declared.layout.Step.TheVariants.{Row, Part, Whole, Derived, Made, Check, Room}
use Rattle.pk_base.specs.declared.value.Value.{Value}
use Rattle.pk_base.specs.declared.value.Value.TheVariants as values
use Rattle.pk_tree.specs.Entries.{Entry}
use Rattle.pk_tree.specs.Layouts.{StepsFit, reach, reach_after, step_reach}
use Rattle.dis_dns.specs.declared.steps.Taken.{Taken}
use Rattle.dis_dns.specs.declared.steps.Taken.TheVariants as takens

-- the fields that are wanted, whether steps are kept, and the layer's bytes; the steps so far, or how far they are read; and
-- whether there was no memory for a step
pub record StepsShown : Type 0 where
  pub wanted : List ℕ
  pub keeps : Bool
  pub end : ℕ
  pub list : List Step
  pub reach : Reach
  pub spent : Bool

abbrev pub no_steps : List ℕ → Bool → ℕ → StepsShown
no_steps wanted keeps end =
    record { wanted = wanted; keeps = keeps; end = end; list = []; reach = All; spent = false }

-- whether the text of a field's name is kept
abbrev pub shows : StepsShown → ℕ → Bool
shows s field = s.keeps && is_in s.wanted field

-- a step other than a name
abbrev pub is_plain : Step → Bool
is_plain (Row field at) = true
is_plain (Part field at len) = true
is_plain (Whole field at len) = true
is_plain (Derived field value at len) = false
is_plain (Made field value) = true
is_plain (Check holds) = true
is_plain (Room room) = true

-- a value, of which a text is left out unless it is wanted
abbrev pub shown_value : Bool → Value → Value
shown_value shown (values.Text text) = values.Text (if shown then text else [])
shown_value shown value = value

-- a step, whose text is left out where its field isn't wanted
abbrev pub shown_step : List ℕ → Step → Step
shown_step wanted (Row field at) = Row field at
shown_step wanted (Part field at len) = Part field at len
shown_step wanted (Whole field at len) = Whole field at len
shown_step wanted (Derived field value at len) =
    Derived field (shown_value (is_in wanted field) value) at len
shown_step wanted (Made field value) = Made field value
shown_step wanted (Check holds) = Check holds
shown_step wanted (Room room) = Room room

-- one more step
unfoldable pub with_step : StepsShown → Step → StepsShown
with_step s step =
    if s.keeps then record s { list = s.list ++ shown_step s.wanted step ∷ [] }
    else record s { reach = reach_after s.reach (step_reach s.end step) }

-- more steps
unfoldable pub with_steps : StepsShown → List Step → StepsShown
with_steps s [] = s
with_steps s (step ∷ steps) = with_steps (with_step s step) steps

-- what taking an entry leaves, and answers: where reading goes on
pub record Takes (old new : StepsShown) (entry : Entry) (answer : Option ℕ) : Type 0 where
  pub steps : new ≡ with_steps old entry.steps
  pub next : answer ≡ entry.next

-- the same, unless there was no memory for a step
pub record Took (old new : StepsShown) (steps : List Step) : Type 0 where
  pub all : new.spent ≡ false → new ≡ with_steps old steps

pub record TookEntry (old new : StepsShown) (entry : Entry) (answer : Option ℕ) : Type 0 where
  pub all : new.spent ≡ false → Takes old new entry answer

-- what was taken in all
abbrev pub IsTaken : StepsShown → Taken → Type 0
IsTaken s (takens.List list) = (s.keeps ≡ true) × (list.items ≡ s.list)
IsTaken s (takens.Reach reach) = (s.keeps ≡ false) × (reach ≡ s.reach)

-- what was taken of steps in a layer of so many bytes: the steps, or how far they are read
abbrev pub HoldsSteps : List ℕ → ℕ → List Step → Taken → Type 0
HoldsSteps wanted end steps (takens.List list) = list.items ≡ map (shown_step wanted) steps
HoldsSteps wanted end steps (takens.Reach r) = r ≡ reach end steps

-- steps that were taken may stand in the protocol's layout; where none are, no field of the protocol is wanted
abbrev pub FitsTaken : List ℕ → ℕ → Taken → Type 0
FitsTaken wanted proto (takens.List list) = StepsFit proto list.items
FitsTaken wanted proto (takens.Reach r) = (f : ℕ) → (row_of f).proto ≡ proto
    → is_in wanted f ≡ false
