-- Laws of what terms become: they have their sorts, and speak of what their scope gives alone.
use Rattle.std.specs.Prelude.{◌≡◌, ◌⊎◌, true, Some, Ok}
use Rattle.text_core.specs.declared.name.Name.{Name}
use Rattle.logic_term.specs.Free.{free}
use Rattle.logic_term.specs.Sorted.{Sorted}
use Rattle.logic_term.specs.Sorted as sorts
use Rattle.logic_term.specs.Theory.{Theory}
use Rattle.source_trees.specs.Pterm.{Pterm}
use Rattle.logic_elab.specs.declared.scope.Symbol.{Symbol}
use Rattle.logic_elab.specs.declared.sorted.SortedTerm.{SortedTerm}
use Rattle.logic_elab.specs.Elaborated.{elaborated}
use Rattle.logic_elab.specs.Scope.{Scope}

-- some name of sources, or the word for the answer, means the variable of this name
abbrev pub IsSpokenOf : Scope → Name → Type 0
IsSpokenOf Γ x = ((y : Name) × (a : Symbol) × (Γ.variable y ≡ Some a) × (x ≡ a.name)) ⊎ ((a : Symbol) × (Γ.answer ≡ Some a) × (x ≡ a.name))

-- each free name is that of a variable of the scope
abbrev pub ElaboratedTermsSpeakOfTheirScope : Type 0
ElaboratedTermsSpeakOfTheirScope = (Γ : Scope) (t : Pterm) (a : SortedTerm) → elaborated Γ t ≡ Ok a → (x : Name) → free x a.term ≡ true → IsSpokenOf Γ x

-- the scope gives variables of these sorts, where what it declares is what the theory does
pub record GivesSorts (Θ : Theory) (Δ : sorts.Scope) (Γ : Scope) : Type 0 where
  pub types : Θ.adts ≡ Γ.types
  pub variables : (x : Name) (a : Symbol) → Γ.variable x ≡ Some a → Δ a.name ≡ Some a.sort
  pub answer : (a : Symbol) → Γ.answer ≡ Some a → Δ a.name ≡ Some a.sort

-- where the variables have their sorts, the term has its sort
abbrev pub ElaboratedTermsAreSorted : Type 0
ElaboratedTermsAreSorted = (Θ : Theory) (Δ : sorts.Scope) (Γ : Scope) → GivesSorts Θ Δ Γ → (t : Pterm) (a : SortedTerm) → elaborated Γ t ≡ Ok a → Sorted Θ Δ a.term a.sort
