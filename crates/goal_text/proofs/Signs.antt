-- What is printed of the operators that stand between two terms.
use Rattle.std.specs.Prelude.{◌≡◌, ℕ, List, [], ◌∷◌, ◌++◌, codes}
use Rattle.std.proofs.lemmas.List.{append_assoc, append-nil}
use Rattle.logic_term.specs.TermOperator.{binary_operator}
use Rattle.logic_term.specs.declared.kinds.TermBinary.{TermBinary}
use Rattle.logic_term.specs.declared.kinds.TermBinary.TheVariants as binary
use Rattle.goal_text.specs.Spelling.{Spelling}
use Rattle.goal_text.specs.GoalText.{applied_text, arithmetic_sign, between, binary_sign}

between_two : (sign x y : List ℕ) → between sign (x ∷ y ∷ []) ≡ codes "(" ++ x ++ sign ++ y ++ codes ")"
between_two sign x y = simp (append_assoc, append-nil)

pub binary_text : (w : Spelling) (op : TermBinary) (x y : List ℕ) → applied_text w (binary_operator op) (x ∷ y ∷ []) ≡ codes "(" ++ x ++ binary_sign op ++ y ++ codes ")"
binary_text w (binary.Arith op) x y = between_two (arithmetic_sign op) x y
binary_text w binary.Less x y = between_two (codes " < ") x y
binary_text w binary.AtMost x y = between_two (codes " <= ") x y
binary_text w binary.Equal x y = between_two (codes " == ") x y
binary_text w binary.And x y = between_two (codes " && ") x y
binary_text w binary.Or x y = between_two (codes " || ") x y
binary_text w binary.Implies x y = between_two (codes " ==> ") x y
