-- The names that are free in formulas: variables in scope, and the answer.
use Rattle.std.proofs.Common.{◌≡◌, ◌∙◌, ℕ, ◌<◌, true, List, length, Option, Some, None, Result, Ok, Err, ◌⊎◌, inl, inr, refl, sym, ap}
use Rattle.std.specs.Option.{option_map}
use Rattle.text_core.specs.declared.name.Name.{Name}
use Rattle.text_core.specs.declared.refusal.SourceError.{SourceError}
use Rattle.text_core.specs.declared.span.Span.{Span}
use Rattle.logic_term.specs.declared.declaration.AdtDecl.{AdtDecl}
use Rattle.logic_term.specs.Free.{free}
use Rattle.logic_term.specs.Term.{Term}
use Rattle.logic_term.specs.Ty.{Ty}
use Rattle.source_trees.specs.Pterm.{Pterm}
use Rattle.source_trees.specs.PtermView.{span_of}
use Rattle.logic_elab.specs.declared.scope.Symbol.{Symbol}
use Rattle.logic_elab.specs.declared.sorted.SortedTerm.{SortedTerm}
use Rattle.logic_elab.specs.Elaborated.{elaborated, asserted, formula}
use Rattle.logic_elab.specs.Laws.{IsSpokenOf}
use Rattle.logic_elab.specs.Sorts.{is_bool}
use Rattle.logic_elab.proofs.SortLaw.{terms_speak_of_their_scope}
use Rattle.type_check.specs.declared.scope.Found.{Found}
use Rattle.type_check.specs.declared.scope.Variable.{Variable}
use Rattle.type_check.specs.Answers.{mismatch}
use Rattle.type_check.specs.Scope.{found}
use Rattle.type_check.specs.Terms.{symbol_of, answer_symbol, spoken, assertion, kept}
use Rattle.type_check.specs.VariableNames.{variable_name, answer_name}
use Rattle.type_check.specs.WellTyped.{IsVariable, SpeaksOf, SpeaksOfAnswer}
use Rattle.type_check.proofs.Bound.{bound, held, same_ok}
use Rattle.type_check.proofs.Lookups.{found_within}

-- each free name is one of Q's
abbrev pub Only : (Name → Type 0) → Term → Type 0
Only Q t = (x : Name) → free x t ≡ true → Q x

-- the name means one of these where A is the type of the answer
abbrev pub Heard : Option Ty → ℕ → Name → Type 0
Heard None n x = IsVariable n x
Heard (Some t) n x = IsVariable n x ⊎ (x ≡ answer_name)

heard_variable : (A : Option Ty) (n k : ℕ) (x : Name) → k < n → x ≡ variable_name k → Heard A n x
heard_variable None n k x h e = (k, h, e)
heard_variable (Some t) n k x h e = inl (k, h, e)

variable_heard : (A : Option Ty) (Γ : List Variable) (x : Name) (a : Symbol) (o : Option Found) → ((w : Found) → o ≡ Some w → w.place < length Γ) → option_map symbol_of o ≡ Some a → x ≡ a.name → Heard A (length Γ) x
variable_heard A Γ x a None h e q = absurd (cc)
variable_heard A Γ x a (Some w) h e q =
    let same : symbol_of w ≡ a = cc in
    heard_variable A (length Γ) w.place x (h w refl) (q ∙ sym (ap (λ (b : Symbol). b.name) same))

answer_heard : (A : Option Ty) (n : ℕ) (x : Name) (a : Symbol) → option_map answer_symbol A ≡ Some a → x ≡ a.name → Heard A n x
answer_heard None n x a e q = absurd (cc)
answer_heard (Some t) n x a e q = let same : answer_symbol t ≡ a = cc in inr (q ∙ sym (ap (λ (b : Symbol). b.name) same))

spoken_heard : (ds : List AdtDecl) (A : Option Ty) (Γ : List Variable) (x : Name) → IsSpokenOf (spoken ds A Γ) x → Heard A (length Γ) x
spoken_heard ds A Γ x h = elim h as (λ _. Heard A (length Γ) x) [
  | inl p ↦ variable_heard A Γ x p.1 (found p.0 Γ) (found_within Γ p.0) p.2 p.3
  | inr p ↦ answer_heard A (length Γ) x p.0 p.1 p.2
]

formula_is : (s : Span) (a : SortedTerm) (t : Term) → formula s a ≡ Ok t → a.term ≡ t
unfolding formula
formula_is s a t p = same_ok _ _ (held (is_bool a.sort) (Ok a.term) (mismatch s) t p).1

asserted_only : (ds : List AdtDecl) (A : Option Ty) (Γ : List Variable) (t : Pterm) (u : Term) → asserted (spoken ds A Γ) t ≡ Ok u → Only (Heard A (length Γ)) u
asserted_only ds A Γ t u p x f =
    let a = bound (elaborated (spoken ds A Γ) t) (formula (span_of t)) u p in
    let there : free x a.0.term ≡ true = ap (free x) (formula_is (span_of t) a.0 u a.2) ∙ f in
    spoken_heard ds A Γ x (terms_speak_of_their_scope (spoken ds A Γ) t a.0 a.1 x there)

kept_speaks : (n : ℕ) (s : Span) (m : Result Term SourceError) → ((u : Term) → m ≡ Ok u → Only (IsVariable n) u) → SpeaksOf n (kept s m)
kept_speaks n s (Ok u) h = h u refl
kept_speaks n s (Err e) h = tt

kept_speaks_of_answer : (n : ℕ) (s : Span) (m : Result Term SourceError) → ((u : Term) → m ≡ Ok u → Only (λ x. IsVariable n x ⊎ (x ≡ answer_name)) u) → SpeaksOfAnswer n (kept s m)
kept_speaks_of_answer n s (Ok u) h = h u refl
kept_speaks_of_answer n s (Err e) h = tt

-- an invariant or a `requires` speaks of the variables in scope alone
pub assertion_speaks : (ds : List AdtDecl) (Γ : List Variable) (t : Pterm) → SpeaksOf (length Γ) (assertion ds None Γ t)
assertion_speaks ds Γ t = kept_speaks (length Γ) (span_of t) (asserted (spoken ds None Γ) t) (asserted_only ds None Γ t)

pub assertion_speaks_of_answer : (ds : List AdtDecl) (u : Ty) (Γ : List Variable) (t : Pterm) → SpeaksOfAnswer (length Γ) (assertion ds (Some u) Γ t)
assertion_speaks_of_answer ds u Γ t = kept_speaks_of_answer (length Γ) (span_of t) (asserted (spoken ds (Some u) Γ) t) (asserted_only ds (Some u) Γ t)
