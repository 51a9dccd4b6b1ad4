-- Down the left operands of chains in terms, and up again.
use Rattle.std.proofs.Common.{◌≡◌, ◌∙◌, ℕ, suc, ◌≤◌, max, List, [], ◌∷◌, ◌++◌, refl, ap, sym, Result, Ok, Err, arith}
use Rattle.text_core.specs.declared.fault.PassError.{PassError}
use Rattle.text_core.specs.declared.refusal.SourceError.{SourceError}
use Rattle.text_core.specs.declared.span.Span.{Span}
use Rattle.logic_term.specs.Term.{Term}
use Rattle.logic_term.specs.Ty.{bool}
use Rattle.source_trees.specs.Pterm.{Pterm}
use Rattle.source_trees.specs.PtermView.{pterm_size, span_of}
use Rattle.logic_elab.specs.declared.sorted.SortedTerm.{SortedTerm}
use Rattle.logic_elab.specs.declared.chain.Connective.TheVariants as connective
use Rattle.logic_elab.specs.declared.chain.TermOperation.{TermOperation}
use Rattle.logic_elab.specs.declared.chain.TermOperation.TheVariants as operation
use Rattle.logic_elab.specs.Answers.{◌>>=◌, Refuses, pair}
use Rattle.logic_elab.specs.Chains.{behind, climbed, connection, left_of, operation_size, operations_size, written}
use Rattle.logic_elab.specs.Scope.{Scope}
use Rattle.logic_elab.specs.declared.scope.Symbol.{Symbol}
use Rattle.logic_elab.specs.Elaborated.{asserted_under, connected, elaborated_under, formula, sorted}
use Rattle.logic_elab.proofs.Stops.{along, refuses_then}

-- ---- an operation, its left operand first

abbrev Elaborated : Type 0
Elaborated = Result SortedTerm SourceError

second : (op : Term → Term → Term) (x : Term) (n : Result Term SourceError) → (pair (Ok x) n >>= connected op) ≡ (n >>= λ y. Ok (sorted bool (op x y)))
second op x (Ok y) = refl
second op x (Err e) = refl

first : (op : Term → Term → Term) (m n : Result Term SourceError) → (pair m n >>= connected op) ≡ (m >>= λ x. n >>= λ y. Ok (sorted bool (op x y)))
first op (Ok x) n = second op x n
first op (Err e) n = refl

left_first : (op : Term → Term → Term) (s : Span) (m : Elaborated) (n : Result Term SourceError)
    → (pair (m >>= formula s) n >>= connected op) ≡ (m >>= λ a. formula s a >>= λ x. n >>= λ y. Ok (sorted bool (op x y)))
left_first op s (Ok a) n = first op (formula s a) n
left_first op s (Err e) n = refl

module _ (Γ : Scope) (bs : List Symbol) where
  left_operand : (s : Span) (o : TermOperation) → elaborated_under Γ bs (written s o) ≡ (elaborated_under Γ bs (left_of o) >>= behind Γ bs o)
  left_operand s (operation.View t) = refl
  left_operand s (operation.Part r t k) = refl
  left_operand s (operation.Field r t x) = refl
  left_operand s (operation.Calculate op t u) = refl
  left_operand s (operation.Compare op t u) = refl
  left_operand s (operation.Connect connective.And t u) = left_first (connection connective.And) (span_of t.now) (elaborated_under Γ bs t.now) (asserted_under Γ bs u.now)
  left_operand s (operation.Connect connective.Or t u) = left_first (connection connective.Or) (span_of t.now) (elaborated_under Γ bs t.now) (asserted_under Γ bs u.now)
  left_operand s (operation.Connect connective.Implies t u) = left_first (connection connective.Implies) (span_of t.now) (elaborated_under Γ bs t.now) (asserted_under Γ bs u.now)

  -- ---- operations on a stack

  climbed_last : (os : List TermOperation) (o : TermOperation) (m : Elaborated) → climbed Γ bs (os ++ o ∷ []) m ≡ climbed Γ bs os (m >>= behind Γ bs o)
  climbed_last [] o m = refl
  climbed_last (p ∷ os) o m = ap (λ n. n >>= behind Γ bs p) (climbed_last os o m)

  -- a step down
  pub down : (os ps : List TermOperation) (o : TermOperation) (s : Span) (t : Pterm) → ps ≡ os ++ o ∷ [] → written s o ≡ t
      → climbed Γ bs os (elaborated_under Γ bs t) ≡ climbed Γ bs ps (elaborated_under Γ bs (left_of o))
  down os ps o s t pushed is =
      ap (climbed Γ bs os) (ap (elaborated_under Γ bs) (sym is) ∙ left_operand s o)
      ∙ sym (climbed_last os o (elaborated_under Γ bs (left_of o)))
      ∙ ap (λ qs. climbed Γ bs qs (elaborated_under Γ bs (left_of o))) (sym pushed)

  -- a step up
  pub up : (os ps : List TermOperation) (o : TermOperation) (a b : SortedTerm) → ps ≡ os ++ o ∷ [] → behind Γ bs o a ≡ Ok b → climbed Γ bs ps (Ok a) ≡ climbed Γ bs os (Ok b)
  up os ps o a b popped is = ap (λ qs. climbed Γ bs qs (Ok a)) popped ∙ climbed_last os o (Ok a) ∙ ap (climbed Γ bs os) is

  pub climbed_refuses : (stop : PassError) (os : List TermOperation) (m : Elaborated) → Refuses stop m → Refuses stop (climbed Γ bs os m)
  climbed_refuses stop [] m h = h
  climbed_refuses stop (o ∷ os) m h = refuses_then stop (climbed Γ bs os m) (behind Γ bs o) (climbed_refuses stop os m h)

  pub up_refuses : (stop : PassError) (os ps : List TermOperation) (o : TermOperation) (a : SortedTerm) → ps ≡ os ++ o ∷ [] → Refuses stop (behind Γ bs o a) → Refuses stop (climbed Γ bs ps (Ok a))
  up_refuses stop os ps o a popped h =
      along stop _ _ (ap (λ qs. climbed Γ bs qs (Ok a)) popped ∙ climbed_last os o (Ok a)) (climbed_refuses stop os (behind Γ bs o a) h)

-- ---- sizes

pub written_size : (s : Span) (o : TermOperation) → max (suc (pterm_size (left_of o))) (operation_size o) ≡ pterm_size (written s o)
written_size s (operation.View t) = omega arith
written_size s (operation.Part r t k) = omega arith
written_size s (operation.Field r t x) = omega arith
written_size s (operation.Calculate op t u) = omega arith
written_size s (operation.Compare op t u) = omega arith
written_size s (operation.Connect op t u) = omega arith

pub operations_last : (os : List TermOperation) (o : TermOperation) → operations_size (os ++ o ∷ []) ≡ max (operations_size os) (operation_size o)
operations_last [] o = omega arith
operations_last (p ∷ os) o = omega (arith, operations_last os o)

-- a step down
pub sizes_down : (os ps : List TermOperation) (o : TermOperation) (s : Span) (t u : Pterm) (n : ℕ) → ps ≡ os ++ o ∷ [] → written s o ≡ t → u ≡ left_of o → pterm_size t ≤ n → operations_size os ≤ n
    → (pterm_size u ≤ n) × (operations_size ps ≤ n)
sizes_down os ps o s t u n pushed is left small few =
    let whole = sym (ap pterm_size is) ∙ sym (written_size s o) in
    (omega (arith, ap pterm_size left, whole, small), omega (arith, ap operations_size pushed, operations_last os o, whole, small, few))

-- a step up
pub sizes_up : (os ps : List TermOperation) (o : TermOperation) (n : ℕ) → ps ≡ os ++ o ∷ [] → operations_size ps ≤ n → (operations_size os ≤ n) × (operation_size o ≤ n)
sizes_up os ps o n popped few = (omega (arith, ap operations_size popped, operations_last os o, few), omega (arith, ap operations_size popped, operations_last os o, few))
