-- What is left to do for a tree: to decide by what is known, and to make the tree of a test of the trees of its branches,
-- which then stand on top of what is made, that of the first branch on top.
use Rattle.std.specs.Prelude.{◌≡◌, ℕ, List, [], ◌∷◌, ◌++◌, length, reverse, take}
use Rattle.logic_term.specs.declared.declaration.AdtDecl.{AdtDecl}
use Rattle.logic_term.specs.declared.pattern.PatStep.{PatStep}
use Rattle.logic_term.specs.declared.pattern.Binding.{Binding}
use Rattle.logic_term.specs.Matches.{bindings}
use Rattle.logic_term.specs.Pattern.{Pat}
use Rattle.pat_check.specs.declared.test.Test.{Test}
use Rattle.pat_check.specs.declared.task.Task.{Task}
use Rattle.pat_check.specs.declared.task.Task.TheVariants as task
use Rattle.pat_check.specs.Branches.{AreBranches}
use Rattle.pat_check.specs.Decision.{Decision, leaf}
use Rattle.pat_check.specs.Known.{Known}
use Rattle.pat_check.specs.Rows.{Next, no_row, row, test, next, AllFail}
use Rattle.pat_check.specs.Tree.{IsNode}

-- to decide by each of these, the rows before this number failing
abbrev pub decides : ℕ → List Known → List Task
decides n [] = []
decides n (k ∷ ks) = task.Decide (record { from = n; known = k }) ∷ decides n ks

-- the rows before where it begins fail
abbrev pub IsReady : List Pat → Task → Type 0
IsReady ps (task.Decide s) = AllFail (take s.from ps) s.known
IsReady ps (task.Join q w n) = Unit {0}

-- what is to be done and what is made after a decision
abbrev pub DecidesBy : List AdtDecl → List Pat → Known → Next → List Task → List Decision → List Task → List Decision → Type 0
DecidesBy ds ps k no_row ts ms us ns = ⊥
DecidesBy ds ps k (row n p) ts ms us ns = (us ≡ ts) × (ns ≡ ms ++ leaf n (bindings p) ∷ [])
DecidesBy ds ps k (test q w) ts ms us ns = (at : ℕ) × (ks : List Known) × AllFail (take at ps) k × AreBranches ds k q w ks × (us ≡ (ts ++ task.Join q w (length ks) ∷ []) ++ decides at ks) × (ns ≡ ms)

-- the trees Ds are taken off, and the tree of the test is put on
abbrev pub Joins : List AdtDecl → List PatStep → Test → ℕ → List Decision → List Decision → Type 0
Joins ds q w n ms ns = (Ds : List Decision) × (rest : List Decision) × (E : Decision) × (length Ds ≡ n) × (ms ≡ rest ++ reverse Ds) × IsNode ds q w Ds E × (ns ≡ rest ++ E ∷ [])

abbrev pub IsDone : List AdtDecl → List Pat → Task → List Task → List Decision → List Task → List Decision → Type 0
IsDone ds ps (task.Decide s) ts ms us ns = DecidesBy ds ps s.known (next 0 ps s.known) ts ms us ns
IsDone ds ps (task.Join q w n) ts ms us ns = (us ≡ ts) × Joins ds q w n ms ns

-- ---- bindings

-- the bindings of what stands at this place
abbrev pub under : List PatStep → List Binding → List Binding
under q [] = []
under q (b ∷ bs) = record { name = b.name; path = q ++ b.path } ∷ under q bs
