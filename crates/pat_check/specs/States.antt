-- What is left to look into.
use Rattle.std.specs.Prelude.{◌≡◌, ℕ, Bool, true, false, List, [], ◌∷◌, ◌++◌, take}
use Rattle.logic_term.specs.declared.declaration.AdtDecl.{AdtDecl}
use Rattle.logic_term.specs.Pattern.{Pat}
use Rattle.pat_check.specs.declared.state.State.{State}
use Rattle.pat_check.specs.Branches.{AreBranches}
use Rattle.pat_check.specs.Known.{Known}
use Rattle.pat_check.specs.Rows.{Next, no_row, row, test, next, AllFail}

-- what is known by each, the rows before this number failing
abbrev pub states_of : ℕ → List Known → List State
states_of n [] = []
states_of n (k ∷ ks) = record { from = n; known = k } ∷ states_of n ks

-- free: no row is left; else what is left stands behind what stood there
abbrev pub LeavesBy : List AdtDecl → List Pat → Known → Next → List State → List State → Bool → Type 0
LeavesBy ds ps k no_row ss zs free = free ≡ true
LeavesBy ds ps k (row n p) ss zs free = (free ≡ false) × (zs ≡ ss)
LeavesBy ds ps k (test q w) ss zs free = (free ≡ false) × (at : ℕ) × (ks : List Known) × AllFail (take at ps) k × AreBranches ds k q w ks × (zs ≡ ss ++ states_of at ks)

abbrev pub IsLookedInto : List AdtDecl → List Pat → Known → List State → List State → Bool → Type 0
IsLookedInto ds ps k ss zs free = LeavesBy ds ps k (next 0 ps k) ss zs free
