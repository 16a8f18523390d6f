-- What a policy is, as its type keeps it: the rules on names, labels, flow, arguments, limits and files over the policy itself.
use Rattle.std.specs.Prelude.{◌≡◌, ◌≢◌, ℕ, ◌*◌, ◌<◌, ◌≤◌, false, List, ◌++◌, map, length, sum_by, All, AllPairs, IsTrue, Some, option_map, slice_get}
use Rattle.lio_clauses.specs.FormulaPrint as formula
use Rattle.lio_clauses.specs.Names.{AreNames}
use Rattle.lio_labels.specs.Flow.{flows}
use Rattle.lio_labels.specs.LabelPrint.{AreNamed}
use Rattle.lio_values.specs.declared.value.Plain.{Plain}
use Rattle.lio_values.specs.declared.value.Plain.TheVariants.{Unit as unit, Flag, Whole, Bytes, Lab, Power, RefOf, VarOf, ResultOf, ChanOf, Items as listed}
use Rattle.lio_policy_draft.specs.Limits.{limits_of}
use Rattle.lio_policy_draft.specs.declared.limits.Limits.{Limits}
use Rattle.lio_policy.specs.declared.lists.ArgExtent.{ArgExtent}
use Rattle.lio_policy.specs.Rules.{is_version, no_name, no_file}
use Rattle.lio_policy.specs.declared.policy.FileEntry.{FileEntry}
use Rattle.lio_policy.specs.declared.policy.TaskEntry.{TaskEntry}
use Rattle.lio_policy.specs.declared.policy.Arg.{Arg}
use Rattle.lio_policy.specs.declared.policy.Arg.TheVariants.{Input, Fixed, Items'}
use Rattle.lio_policy.specs.Lists.{singles, extent}

-- the version, the longest text, the principals, the channels and inputs, and the tasks
pub record PolicyParts : Type 0 where
  pub version : ℕ
  pub longest : ℕ
  pub names : List (List ℕ)
  pub channels : List FileEntry
  pub inputs : List FileEntry
  pub tasks : List TaskEntry

-- texts that each pass a test, and differ
pub record AreKeys (IsKey : List ℕ → Type 0) (keys : List (List ℕ)) : Type 0 where
  pub each : All IsKey keys
  pub distinct : AllPairs (λ key other. key ≢ other) keys

-- the principals have names, and the channels, the inputs and the tasks, each distinct in its list
abbrev pub IsName : List ℕ → Type 0
IsName name = no_name name ≡ false

pub record HasNames (p : PolicyParts) : Type 0 where
  pub principals : AreNames p.names
  pub channels : AreKeys IsName (map (λ f. f.name) p.channels)
  pub inputs : AreKeys IsName (map (λ f. f.name) p.inputs)
  pub tasks : AreKeys IsName (map (λ t. t.name) p.tasks)

-- each principal of a label is one of the policy's
pub record HasLabels (p : PolicyParts) : Type 0 where
  pub channels : All (λ f. AreNamed p.names f.label) p.channels
  pub inputs : All (λ f. AreNamed p.names f.label) p.inputs
  pub labels : All (λ t. AreNamed p.names t.label) p.tasks
  pub clearances : All (λ t. AreNamed p.names t.clearance) p.tasks

-- each task's label flows to its clearance (LIO, ICFP 2012)
abbrev pub HasFlow : PolicyParts → Type 0
HasFlow p = All (λ t. IsTrue (flows t.label t.clearance)) p.tasks

-- a value that an argument may have by itself: labels and privileges are over the policy's principals, and texts are not too long
abbrev pub IsOwnValue : ℕ → List (List ℕ) → Plain → Type 0
IsOwnValue longest names unit = Unit {0}
IsOwnValue longest names (Flag b) = Unit {0}
IsOwnValue longest names (Whole n) = Unit {0}
IsOwnValue longest names (Bytes text) = length text ≤ longest
IsOwnValue longest names (Lab l) = AreNamed names l
IsOwnValue longest names (Power a) = formula.AreNamed names a.power
IsOwnValue longest names (RefOf h) = ⊥
IsOwnValue longest names (VarOf h) = ⊥
IsOwnValue longest names (ResultOf h) = ⊥
IsOwnValue longest names (ChanOf h) = ⊥
IsOwnValue longest names (listed items) = ⊥

-- a value of an argument, which may be a channel too: the number and the label are those of a channel of the policy
abbrev pub IsFixed : PolicyParts → Plain → Type 0
IsFixed p (ChanOf h) = option_map (λ channel. channel.label) (slice_get p.channels h.number) ≡ Some h.label
IsFixed p value = IsOwnValue p.longest p.names value

-- an argument that is no list: an input of the policy, or a value
abbrev pub IsSingle : PolicyParts → Arg → Type 0
IsSingle p (Input place) = place < length p.inputs
IsSingle p (Fixed value) = IsFixed p value
IsSingle p (Items' shape args) = ⊥

-- an argument: one that is no list, or a list of arguments
abbrev pub IsArgument : PolicyParts → Arg → Type 0
IsArgument p a = All (IsSingle p) (singles a)

abbrev pub HasArguments : PolicyParts → Type 0
HasArguments p = All (λ t. All (IsArgument p) t.args) p.tasks

-- a list is not too deep, and has at most four inputs; its value is no larger than a text may be
pub record IsSmall (limits : Limits) (longest : ℕ) (e : ArgExtent) : Type 0 where
  pub depth : e.depth ≤ limits.depth
  pub inputs : e.inputs ≤ 4
  pub size : 0 < e.depth → e.size ≤ longest

abbrev pub IsSmallArgument : PolicyParts → Arg → Type 0
IsSmallArgument p a = IsSmall (limits_of p.version) p.longest (extent p.inputs a)

-- the limits on a policy, by its version
pub record KeepsLimits (p : PolicyParts) : Type 0 where
  pub some : 1 ≤ p.longest
  pub longest : p.longest ≤ (limits_of p.version).longest
  pub work : sum_by (λ t. t.turns) p.tasks * p.longest ≤ 1073741824
  pub turns : sum_by (λ t. t.turns) p.tasks ≤ (limits_of p.version).turns
  pub cells : sum_by (λ t. t.cells) p.tasks ≤ (limits_of p.version).cells
  pub channels : length p.channels ≤ (limits_of p.version).entries
  pub inputs : length p.inputs ≤ (limits_of p.version).entries
  pub tasks : length p.tasks ≤ (limits_of p.version).entries
  pub args : All (λ t. length t.args ≤ 8) p.tasks
  pub lists : All (λ (t : TaskEntry). All (IsSmallArgument p) t.args) p.tasks

-- the files of channels and inputs may be so named, and differ
abbrev pub IsFile : List ℕ → Type 0
IsFile file = no_file file ≡ false

abbrev pub HasFiles : PolicyParts → Type 0
HasFiles p = AreKeys IsFile (map (λ f. f.file) p.channels ++ map (λ f. f.file) p.inputs)

-- there are two versions
abbrev pub HasVersion : PolicyParts → Type 0
HasVersion p = IsTrue (is_version (Some p.version))

pub record IsPolicy (p : PolicyParts) : Type 0 where
  pub version : HasVersion p
  pub names : HasNames p
  pub labels : HasLabels p
  pub flow : HasFlow p
  pub arguments : HasArguments p
  pub limits : KeepsLimits p
  pub files : HasFiles p
