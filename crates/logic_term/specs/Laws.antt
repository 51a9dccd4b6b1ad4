-- Laws of the meaning of terms.
use Rattle.std.specs.Prelude.{◌≡◌, ℕ, ◌≤◌, int_le, int_lt, Bool, true, false, List, IsTrue, ◌↔◌}
use Rattle.text_core.specs.declared.name.Name.{Name}
use Rattle.logic_term.specs.Ty.{Ty}
use Rattle.logic_term.specs.declared.kinds.Ctor.{Ctor}
use Rattle.logic_term.specs.declared.kinds.Ctor.TheVariants.{Tuple}
use Rattle.logic_term.specs.Value.{Value, Values, Made, no_values, and_value, integer_of, nth_part}
use Rattle.logic_term.specs.Term.{made, Term, Terms, truth, apply, no_terms, and_term, unit, not, is_less, is_at_most, is_equal, and, or, implies, forall, exists, part, if_else}
use Rattle.logic_term.specs.Meaning.{Sure, Structure, Env, with_value, Means, Holds}
use Rattle.logic_term.specs.Erased.{erased}
use Rattle.logic_term.specs.Sort.{Declarations, HasSort, instance}
use Rattle.logic_term.specs.Theory.{declared}
use Rattle.logic_term.specs.Free.{free}
use Rattle.logic_term.specs.declared.subst.Replacement.{Replacement}
use Rattle.logic_term.specs.Placed.{placed}
use Rattle.logic_term.specs.Subst.{above, look, placing, with_terms, replaced}
use Rattle.logic_term.specs.Canonical.{canonical, SameUpToNames}
use Rattle.logic_term.specs.Normal.{reduced}

-- t has at ρ the values that u has at τ
abbrev pub SameValues : Structure → Term → Env → Term → Env → Type 0
SameValues S t ρ u τ = (v : Value) → Sure (Means S t ρ v) ↔ Sure (Means S u τ v)

-- the terms have the same values, whatever the values of names
abbrev pub HasValuesOf : Term → Term → Type 0
HasValuesOf t u = (S : Structure) (ρ : Env) → SameValues S t ρ u ρ

-- the term has this value and no other
abbrev pub HasExactly : Structure → Term → Env → Value → Type 0
HasExactly S t ρ w = (v : Value) → Sure (Means S t ρ v) ↔ Sure (v ≡ w)

-- terms put for names, all at once, count as their values: σ's terms have, at ρ, the values that τ gives the names for which they stand
abbrev pub PutTermsCountAsValues : Type 0
PutTermsCountAsValues = (S : Structure) (ρ τ : Env) (σ : List Replacement) (t : Term)
    → ((x : Name) → IsTrue (free x t) → HasExactly S (look σ x) ρ (τ x)) → SameValues S (with_terms σ t) ρ t τ

-- the same of one name
abbrev pub APutTermCountsAsValue : Type 0
APutTermCountsAsValue = (S : Structure) (ρ : Env) (x : Name) (u t : Term) (w : Value)
    → HasExactly S u ρ w → SameValues S (replaced x u t) ρ t (with_value ρ x w)

-- terms put for the free names, all at once, and reduced where that is asked: no name from n on is in them
abbrev pub PlacedTermsCountAsValues : Type 0
PlacedTermsCountAsValues = (S : Structure) (reduces : Bool) (n : ℕ) (ρ τ : Env) (σ : List Replacement) (t : Term)
    → ((x : Name) → IsTrue (free x t) → (above (look σ x) ≤ n) × HasExactly S (look σ x) ρ (τ x)) → SameValues S (placed reduces n (placing σ) t) ρ t τ

-- terms that are equal up to the names that they bind have the same values
abbrev pub BoundNamesDoNotCount : Type 0
BoundNamesDoNotCount = (t u : Term) → SameUpToNames t u → HasValuesOf t u

abbrev pub CanonicalFormsKeepValues : Type 0
CanonicalFormsKeepValues = (t : Term) → HasValuesOf (canonical t) t

-- environments with the same values at the free names give the same values
abbrev pub FreeNamesAloneCount : Type 0
FreeNamesAloneCount = (S : Structure) (ρ τ : Env) (t : Term)
    → ((x : Name) → IsTrue (free x t) → ρ x ≡ τ x) → SameValues S t ρ t τ

-- a name that is not free may have any value
abbrev pub OtherNamesDoNotCount : Type 0
OtherNamesDoNotCount = (S : Structure) (ρ : Env) (x : Name) (t : Term) (w : Value)
    → free x t ≡ false → SameValues S t ρ t (with_value ρ x w)

abbrev pub ValuesAreSingle : Type 0
ValuesAreSingle = (S : Structure) (ρ : Env) (t : Term) (v w : Value) → Means S t ρ v → Means S t ρ w → v ≡ w

-- no term can fail to have a value
abbrev pub ValuesAreSure : Type 0
ValuesAreSure = (S : Structure) (ρ : Env) (t : Term) → Sure ((v : Value) × Means S t ρ v)

abbrev pub NormalFormsKeepValues : Type 0
NormalFormsKeepValues = (t : Term) → HasValuesOf (reduced t) t

-- the terms have exactly these values, one for each
abbrev pub HaveExactly : Structure → Terms → Env → Values → Type 0
HaveExactly S no_terms ρ no_values = Unit {0}
HaveExactly S no_terms ρ (and_value v vs) = ⊥
HaveExactly S (and_term t ts) ρ no_values = ⊥
HaveExactly S (and_term t ts) ρ (and_value v vs) = HasExactly S t ρ v × HaveExactly S ts ρ vs

-- what is made of parts is the value made of their values
abbrev pub ValuesOfMade : Type 0
ValuesOfMade = (S : Structure) (ρ : Env) (c : Ctor) (ts : Terms) (vs : Values)
    → HaveExactly S ts ρ vs → HasExactly S (apply (made c) ts) ρ (Made c vs)

-- a part of a value
abbrev pub ValuesOfParts : Type 0
ValuesOfParts = (S : Structure) (ρ : Env) (n : ℕ) (t : Term) (v : Value) → HasExactly S t ρ v → HasExactly S (part n t) ρ (nth_part n v)

-- an `if` has the values of a side, by the truth of its condition
abbrev pub ValuesOfChoices : Type 0
ValuesOfChoices = (S : Structure) (ρ : Env) (c t u : Term)
    → (Holds S c ρ → SameValues S (if_else c t u) ρ t ρ) × (¬ Holds S c ρ → SameValues S (if_else c t u) ρ u ρ)

abbrev pub ValueOfUnit : Type 0
ValueOfUnit = (S : Structure) (ρ : Env) → HasExactly S unit ρ (Made Tuple no_values)

-- a type and its sort have the same values
abbrev pub SortsKeepValues : Type 0
SortsKeepValues = (Δ : Declarations) (v : Value) (t : Ty) → HasSort Δ v t ↔ HasSort Δ v (erased t)

-- ---- when formulas are true

abbrev pub TruthOfConstants : Type 0
TruthOfConstants = (S : Structure) (ρ : Env) → Holds S (truth true) ρ × ¬ Holds S (truth false) ρ

abbrev pub TruthOfNot : Type 0
TruthOfNot = (S : Structure) (ρ : Env) (t : Term) → Holds S (not t) ρ ↔ (¬ Holds S t ρ)

abbrev pub TruthOfAnd : Type 0
TruthOfAnd = (S : Structure) (ρ : Env) (t u : Term) → Holds S (and t u) ρ ↔ (Holds S t ρ × Holds S u ρ)

-- not both are false
abbrev pub TruthOfOr : Type 0
TruthOfOr = (S : Structure) (ρ : Env) (t u : Term) → Holds S (or t u) ρ ↔ (¬ (¬ Holds S t ρ × ¬ Holds S u ρ))

abbrev pub TruthOfImplies : Type 0
TruthOfImplies = (S : Structure) (ρ : Env) (t u : Term) → Holds S (implies t u) ρ ↔ (Holds S t ρ → Holds S u ρ)

-- the quantifier goes over all values of the sort
abbrev pub TruthOfForall : Type 0
TruthOfForall = (S : Structure) (ρ : Env) (x : Name) (s : Ty) (t : Term) → Holds S (forall x s t) ρ
    ↔ ((w : Value) → HasSort (declared S.theory) w (instance S.types s) → Holds S t (with_value ρ x w))

-- not at every value of the sort the body is false
abbrev pub TruthOfExists : Type 0
TruthOfExists = (S : Structure) (ρ : Env) (x : Name) (s : Ty) (t : Term) → Holds S (exists x s t) ρ
    ↔ (¬ ((w : Value) → HasSort (declared S.theory) w (instance S.types s) → ¬ Holds S t (with_value ρ x w)))

abbrev pub TruthOfLess : Type 0
TruthOfLess = (S : Structure) (ρ : Env) (t u : Term) (v w : Value) → HasExactly S t ρ v → HasExactly S u ρ w
    → Holds S (is_less t u) ρ ↔ IsTrue (int_lt (integer_of v) (integer_of w))

abbrev pub TruthOfAtMost : Type 0
TruthOfAtMost = (S : Structure) (ρ : Env) (t u : Term) (v w : Value) → HasExactly S t ρ v → HasExactly S u ρ w
    → Holds S (is_at_most t u) ρ ↔ IsTrue (int_le (integer_of v) (integer_of w))

abbrev pub TruthOfEqual : Type 0
TruthOfEqual = (S : Structure) (ρ : Env) (t u : Term) (v w : Value) → HasExactly S t ρ v → HasExactly S u ρ w
    → Holds S (is_equal t u) ρ ↔ Sure (v ≡ w)
