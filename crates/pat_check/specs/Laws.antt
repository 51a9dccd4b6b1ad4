-- What holds of every tree of tests, and of every pattern value.
use Rattle.std.specs.Prelude.{◌≡◌, true, ◌↔◌, Some, List}
use Rattle.logic_term.specs.declared.declaration.AdtDecl.{AdtDecl}
use Rattle.logic_term.specs.Pattern.{Pat}
use Rattle.logic_term.specs.Sort.{HasSort, instance}
use Rattle.logic_term.specs.Ty.{Ty, Tys}
use Rattle.logic_term.specs.Value.{Value}
use Rattle.pat_check.specs.Decision.{Decision, run, first_match}
use Rattle.pat_check.specs.Flat.{all_flat, flat_tree}
use Rattle.pat_check.specs.PatValue.{PatValue, stands_for, IsPatValue, Fillable}
use Rattle.pat_check.specs.Tree.{IsTreeOf}
use Rattle.pat_check.specs.Typed.{fields_in, AllPats}

-- the tree of the arms, run on a value of their type, answers the first arm that matches, with its bindings
abbrev pub TreesDecide : Type 0
TreesDecide = (ds : List AdtDecl) (ps : List Pat) (t : Ty) (D : Decision) → AllPats (fields_in ds) ps t → IsTreeOf ds ps D → (θ : Tys) (v : Value) → HasSort (fields_in ds) v (instance θ t) → run D v ≡ first_match 0 ps v

-- arms have one tree
abbrev pub ATreeIsOne : Type 0
ATreeIsOne = (ds : List AdtDecl) (ps : List Pat) (D E : Decision) → IsTreeOf ds ps D → IsTreeOf ds ps E → D ≡ E

-- a pattern value of a type stands for a value of it, where the types of its open parts have values
abbrev pub PatternValuesStandForValues : Type 0
PatternValuesStandForValues = (ds : List AdtDecl) (t : Ty) (w : PatValue) → IsPatValue (fields_in ds) w t → (θ : Tys) → Fillable (fields_in ds) θ w t → (v : Value) × HasSort (fields_in ds) v (instance θ t) × (stands_for w v ≡ true)

-- the tree of flat patterns is the one that their rows give
abbrev pub FlatTreesAreOfRows : Type 0
FlatTreesAreOfRows = (ds : List AdtDecl) (t : Ty) (ps : List Pat) (D : Decision) → all_flat t ps ≡ true → IsTreeOf ds ps D ↔ (flat_tree t ps ≡ Some D)
