-- What stands before a formula, the last entry first.
use Rattle.std.specs.Prelude.{◌≡◌, ℕ, suc, List, [], ◌∷◌}
use Rattle.logic_term.specs.Canonical.{above_free}
use Rattle.logic_term.specs.Subst.{put_reduced}
use Rattle.logic_term.specs.Term.{Term, var, implies, forall}
use Rattle.logic_term.specs.declared.subst.Replacement.{Replacement}
use Rattle.logic_term.specs.declared.context.Entry.{Entry}
use Rattle.logic_term.specs.declared.context.Entry.TheVariants.{Variable, Known}

-- the formula behind these entries
abbrev pub closed : List Entry → Term → Term
closed [] φ = φ
closed (Variable x s ∷ es) φ = closed es (forall x s φ)
closed (Known a ∷ es) φ = closed es (implies a φ)

-- ---- variables by numbers

abbrev pub count_variables : List Entry → ℕ
count_variables [] = 0
count_variables (Variable x s ∷ es) = suc (count_variables es)
count_variables (Known a ∷ es) = count_variables es

-- each variable's number, from 0 on in the order of the variables, in place of its name
abbrev pub numbers : List Entry → List Replacement
numbers [] = []
numbers (Variable x s ∷ es) = record { name = x; by = var (record { 0 = count_variables es }) } ∷ numbers es
numbers (Known a ∷ es) = numbers es

-- the term behind the entries in normal form, with numbers for their variables, and its bound names numbered from there on
abbrev pub numbered_term : List Entry → Term → Term
numbered_term es t = put_reduced (count_variables es) (numbers es) t

abbrev pub numbered : List Entry → List Entry
numbered [] = []
numbered (Variable x s ∷ es) = Variable (record { 0 = count_variables es }) s ∷ numbered es
numbered (Known a ∷ es) = Known (numbered_term es a) ∷ numbered es

-- the term has no free names, and the numbered entries stand before the formula in it
pub record IsOpened (t : Term) (es : List Entry) (φ : Term) : Type 0 where
  pub is : t ≡ closed (numbered es) φ
  pub no_free : above_free [] t ≡ 0
