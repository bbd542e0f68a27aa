-- The fields that the output asks for.
use Rattle.std.specs.Prelude.{◌≡◌, ℕ, Bool, true, false, ◌||◌, List, [], ◌∷◌, Option, Some, None, IsSome}
use Rattle.std.specs.List.{AllByRecursion as Each}
use Rattle.pk_fields.specs.FieldSets.{is_in}
use Rattle.pk_fields.specs.Ids.{FRAME_NUMBER, FRAME_TIME_RELATIVE, FRAME_LEN, ETH_SRC, ETH_DST, IP_SRC, IP_DST, IPV6_SRC, IPV6_DST}
use Rattle.pk_fields.specs.declared.rules.PortRule.{PortRule}
use Rattle.pk_tree.specs.Trees.{TreeShown, IsKept, kept_tree}
use Rattle.app_layers.specs.Aside.{LacksOnly}
use Rattle.capture_read.specs.declared.frame.Frame.{Frame}
use Rattle.dissect.specs.Followed.{asks_streams, HasSameValues}
use Rattle.dissect.specs.Stands.{DissectorShown}
use Rattle.dissect.specs.Trees.{tree_at}
use Rattle.cap_stats.specs.Laws.{AreNotedAlike, fields_of as table_fields}
use Rattle.cap_stats.specs.declared.kind.StatKind.{StatKind}
use Rattle.cap_stats.specs.declared.kind.StatKind.TheVariants.{Phs}
use Rattle.capture_write.specs.declared.format.Format.{Format}
use Rattle.flt_typed.specs.Asked.{HasFilter}
use Rattle.flt_program.specs.Asked.{HasCode}
use Rattle.second_pass.specs.Laws.{link_fields}
use Rattle.shark_words.specs.declared.options.LineKind.{LineKind}
use Rattle.shark_words.specs.declared.options.LineKind.TheVariants.{Text, Fields, Json}
use Rattle.run_frames.specs.declared.plan.Plan.{Plan}
use Rattle.run_frames.specs.declared.totals.Totals.{Totals}
use Rattle.run_frames.specs.Accessors.{compiled_of, fields_of, is_quiet, kind_of, needs_streams, two_of, written_of}
use Rattle.run_frames.specs.Compiled.{CompiledShown}
use Rattle.run_frames.specs.Job.{Passes, with_links}
use Rattle.run_frames.specs.Pieces.{shown}
use Rattle.run_frames.specs.Tables.{asks_table}
use Rattle.run_frames.specs.Totals.{counts_with}
use Rattle.run_frames.specs.Trees.{lets}

-- a set has the fields that a filter and its program ask for; no filter asks for none
abbrev pub HasAsked : List ℕ → Option CompiledShown → Type 0
HasAsked wanted None = Unit {0}
HasAsked wanted (Some compiled) = HasFilter wanted compiled.filter × HasCode wanted compiled.program

-- a set has these fields
abbrev pub HasFields : List ℕ → List ℕ → Type 0
HasFields wanted fields = Each (λ field. is_in wanted field ≡ true) fields

-- the fields that the line shows which sums up a frame, beside the names of protocols
abbrev pub summary_fields : List ℕ
summary_fields =
    FRAME_NUMBER ∷ FRAME_TIME_RELATIVE ∷ FRAME_LEN ∷ ETH_SRC ∷ ETH_DST ∷ IP_SRC ∷ IP_DST ∷ IPV6_SRC ∷ IPV6_DST ∷ []

-- whether lines sum up frames
abbrev pub sums_up_by : Option Format → Bool → LineKind → Bool
sums_up_by (Some format) quiet kind = false
sums_up_by None true kind = false
sums_up_by None false Text = true
sums_up_by None false Json = false
sums_up_by None false Fields = false

abbrev pub sums_up : Plan → Bool
sums_up plan = sums_up_by (written_of plan) (is_quiet plan) (kind_of plan)

-- a set has the fields of a plan's filter, of its columns, and of the lines that sum up frames where these are written
pub record HasPlan (wanted : List ℕ) (plan : Plan) : Type 0 where
  pub filter : HasAsked wanted (compiled_of plan)
  pub columns : HasFields wanted (fields_of plan)
  pub summary : sums_up plan ≡ true → HasFields wanted summary_fields

-- a set has the fields that the tables read which a plan asks for
abbrev pub HasTables : List ℕ → Plan → Type 0
HasTables wanted plan = (kind : StatKind) → asks_table plan kind ≡ true → HasFields wanted (table_fields kind)

-- whether the protocols of layers are told: the last one's by lines that sum up frames, all by the table of protocols
abbrev pub asks_protocols : Plan → Bool
asks_protocols plan = sums_up plan || asks_table plan Phs

-- whether lines show whole trees
abbrev pub shows_whole_by : Option Format → Bool → LineKind → Bool
shows_whole_by (Some format) quiet kind = false
shows_whole_by None true kind = false
shows_whole_by None false Text = false
shows_whole_by None false Json = true
shows_whole_by None false Fields = false

abbrev pub shows_whole : Plan → Bool
shows_whole plan = shows_whole_by (written_of plan) (is_quiet plan) (kind_of plan)

-- a frame's whole tree, with its links to later frames as far as these are known
abbrev pub IsWhole : TreeShown → Type 0
IsWhole whole =
    (rules : List PortRule) × (past : List Frame) × (frame : Frame) × (passes : Passes)
    × (whole ≡ with_links passes frame.number (tree_at rules past frame))

-- a tree that a dissector makes for the values of these fields, beside the whole tree: it has them, and of the whole tree with their
-- items it lacks only layers behind its own that have nothing to show of them
pub record IsSpared (wanted : List ℕ) (whole tree : TreeShown) : Type 0 where
  pub values : HasSameValues wanted whole tree
  pub lacks : LacksOnly (kept_tree wanted whole) tree

-- a tree that a dissector makes for these fields, beside a frame's whole tree
pub record IsMadeFor (wanted : List ℕ) (whole tree : TreeShown) : Type 0 where
  pub of_frame : IsWhole whole
  pub spared : IsSpared wanted whole tree
  pub kept : asks_streams wanted ≡ true → IsKept wanted whole tree

-- a tree is noted for the table of a kind as the whole tree: the filter lets both through or neither, and the table reads the same in both
pub record IsNotedAs (plan : Plan) (kind : StatKind) (whole tree : TreeShown) : Type 0 where
  pub truth : lets plan tree ≡ lets plan whole
  pub alike : AreNotedAlike kind whole tree

-- a tree is shown and counted as the whole tree, or chosen as the whole tree where frames are written, and noted as the whole tree
-- where a table is asked for
pub record IsToldAs (plan : Plan) (whole tree : TreeShown) : Type 0 where
  pub shown : written_of plan ≡ None → shown plan tree ≡ shown plan whole
  pub counted : (totals : Totals) → counts_with plan tree totals ≡ counts_with plan whole totals
  pub truth : IsSome (written_of plan) → lets plan tree ≡ lets plan whole
  pub noted : (kind : StatKind) → asks_table plan kind ≡ true → IsNotedAs plan kind whole tree

-- whether something is told by more than such trees tell, where whole trees aren't shown
abbrev pub asks_trees : Plan → Bool
asks_trees plan = two_of plan || needs_streams plan

-- trees that are made for the values of these fields are told as the whole trees
abbrev pub AreToldByValues : List ℕ → Plan → Type 0
AreToldByValues wanted plan = (whole tree : TreeShown) → IsWhole whole → IsSpared wanted whole tree → IsToldAs plan whole tree

-- trees of these fields are told as the whole trees; streams are asked where something is told by them, and the fields of links
-- where the frames are read twice
pub record IsEnough (wanted : List ℕ) (plan : Plan) : Type 0 where
  pub told : (whole tree : TreeShown) → IsMadeFor wanted whole tree → IsToldAs plan whole tree
  pub streams : needs_streams plan ≡ true → asks_streams wanted ≡ true
  pub twice : two_of plan ≡ true → HasFields wanted link_fields

-- a dissector is made for fields that are enough; one for values alone, where these are, nothing is told by streams behind the lines, and
-- the frames are read once
pub record ServesPlan (d : DissectorShown) (plan : Plan) : Type 0 where
  pub enough : IsEnough d.wanted plan
  pub values : d.sparing ≡ true → AreToldByValues d.wanted plan
  pub whole : (needs_streams plan || two_of plan) ≡ true → d.sparing ≡ false
