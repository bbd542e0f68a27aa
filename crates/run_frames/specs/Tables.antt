-- The tables of statistics, over the trees that the filter lets through. Lists of frames and of trees have the newest first.
use Rattle.std.specs.Prelude.{◌≡◌, ℕ, Bool, true, false, ◌||◌, if◌then◌else◌, List, [], ◌∷◌}
use Rattle.std.specs.List.{list_any}
use Rattle.cap_stats.specs.Few.{HasFew}
use Rattle.cap_stats.specs.Stands.{Stands, kind_of}
use Rattle.cap_stats.specs.declared.kind.StatKind.{StatKind}
use Rattle.cap_stats.specs.declared.kind.StatKind.TheVariants.{ConvTcp, ConvIp, Phs}
use Rattle.capture_read.specs.declared.frame.Frame.{Frame}
use Rattle.pk_tree.specs.Trees.{TreeShown}
use Rattle.shark_words.specs.declared.options.Report.{Report}
use Rattle.shark_words.specs.declared.options.Report.TheVariants as reports
use Rattle.run_frames.specs.declared.plan.Plan.{Plan}
use Rattle.run_frames.specs.declared.tables.Table.{Table}
use Rattle.run_frames.specs.declared.tables.Tables.{Tables}
use Rattle.run_frames.specs.Accessors.{reports_of}
use Rattle.run_frames.specs.Job.{Job}
use Rattle.run_frames.specs.Trees.{lets, tree_of}

abbrev pub same_kind : StatKind → StatKind → Bool
same_kind ConvTcp ConvTcp = true
same_kind ConvIp ConvIp = true
same_kind Phs Phs = true
same_kind one other = false

-- whether a report is a table of a kind
abbrev pub is_table_of : StatKind → Report → Bool
is_table_of kind (reports.Follow stream) = false
is_table_of kind (reports.Table asked) = same_kind asked kind

-- whether such a table is asked for, and whether any is
abbrev pub asks_table : Plan → StatKind → Bool
asks_table plan kind = list_any (is_table_of kind) (reports_of plan)

abbrev pub asks_tables : Plan → Bool
asks_tables plan = asks_table plan ConvTcp || asks_table plan ConvIp || asks_table plan Phs

-- a tree before others, where the filter lets it through
abbrev pub trees_with : Plan → TreeShown → List TreeShown → List TreeShown
trees_with plan tree trees = if lets plan tree then tree ∷ trees else trees

-- the trees of frames that the filter lets through
abbrev pub trees_let : Job → List Frame → List TreeShown
trees_let job [] = []
trees_let job (frame ∷ past) = trees_with job.plan (tree_of job past frame) (trees_let job past)

-- what is noted for the tables of a kind, where one is asked for, stands for these trees
pub record IsTable (plan : Plan) (kind : StatKind) (trees : List TreeShown) (table : Table) : Type 0 where
  pub asked : table.asked ≡ asks_table plan kind
  pub stands : asks_table plan kind ≡ true → Stands trees table.stats
  pub counts : kind_of table.stats ≡ kind

pub record AreTables (plan : Plan) (trees : List TreeShown) (tables : Tables) : Type 0 where
  pub conv_tcp : IsTable plan ConvTcp trees tables.conv_tcp
  pub conv_ip : IsTable plan ConvIp trees tables.conv_ip
  pub phs : IsTable plan Phs trees tables.phs

-- for each kind so many trees were noted at most
pub record AreFewTables (most : ℕ) (tables : Tables) : Type 0 where
  pub conv_tcp : HasFew most tables.conv_tcp.stats
  pub conv_ip : HasFew most tables.conv_ip.stats
  pub phs : HasFew most tables.phs.stats
