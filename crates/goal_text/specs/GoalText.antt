-- How a goal is printed.
use Rattle.std.specs.Prelude.{ℕ, ℤ, pos, negsuc, suc, ◌==◌, Bool, List, [], ◌∷◌, ◌++◌, codes, length, if◌then◌else◌}
use Rattle.std.specs.Fmt.{decimal}
use Rattle.std.specs.List.{join_by}
use Rattle.text_core.specs.declared.name.Name.{Name}
use Rattle.source_kinds.specs.declared.kinds.ArithOp.{ArithOp}
use Rattle.source_kinds.specs.declared.kinds.ArithOp.TheVariants.{Add, Sub, Mul, Div, Rem}
use Rattle.logic_term.specs.declared.kinds.TermBinary.{TermBinary}
use Rattle.logic_term.specs.declared.kinds.TermBinary.TheVariants as binary
use Rattle.logic_term.specs.declared.kinds.Ctor.{Ctor}
use Rattle.logic_term.specs.declared.kinds.Ctor.TheVariants.{Tuple, Variant, Closure}
use Rattle.logic_term.specs.declared.declaration.FieldDecl.{FieldDecl}
use Rattle.logic_term.specs.Ty.{Ty}
use Rattle.logic_term.specs.Term.{Operator, modeled, negated, denied, field, arith, less, at_most, equal, both, either, implied, choice, made, Quantifier, every, some, Term, Terms, var, lit, truth, apply, bind, no_terms, and_term}
use Rattle.goal_text.specs.Spelling.{Spelling, path_text, fields_at, is_numbered, labelled, opening_text, closing_text}
use Rattle.goal_text.specs.SortText.{commas, numbered, sort_text, suffix, tuple_text}

-- 5i32, or (-5i32) where it is negative
abbrev pub literal_text : ℤ → Ty → List ℕ
literal_text (pos n) sort = decimal n ++ suffix sort
literal_text (negsuc n) sort = codes "(-" ++ decimal (suc n) ++ suffix sort ++ codes ")"

abbrev pub truth_text : Bool → List ℕ
truth_text holds = if holds then codes "true" else codes "false"

-- the operator with its spaces
abbrev pub arithmetic_sign : ArithOp → List ℕ
arithmetic_sign Add = codes " + "
arithmetic_sign Sub = codes " - "
arithmetic_sign Mul = codes " * "
arithmetic_sign Div = codes " / "
arithmetic_sign Rem = codes " % "

-- the same of any operator of two terms
abbrev pub binary_sign : TermBinary → List ℕ
binary_sign (binary.Arith op) = arithmetic_sign op
binary_sign binary.Less = codes " < "
binary_sign binary.AtMost = codes " <= "
binary_sign binary.Equal = codes " == "
binary_sign binary.And = codes " && "
binary_sign binary.Or = codes " || "
binary_sign binary.Implies = codes " ==> "

-- (A op B)
abbrev pub between : List ℕ → List (List ℕ) → List ℕ
between operator parts = codes "(" ++ join_by (λ part. part) operator parts ++ codes ")"

-- the values of a variant's fields: (A, B) where the fields are numbered, and else { f: A, g: B } with a space before it
abbrev pub fields_text : Spelling → List FieldDecl → List (List ℕ) → List ℕ
fields_text w fields [] = []
fields_text w fields (p ∷ ps) = opening_text (is_numbered w fields) ++ commas (labelled w (is_numbered w fields) fields (p ∷ ps)) ++ closing_text (is_numbered w fields)

-- a tuple, Path, Path(A, B), Path { f: A, g: B } or closure(A, B)
abbrev pub made_text : Spelling → Ctor → List (List ℕ) → List ℕ
made_text w Tuple parts = tuple_text parts
made_text w (Variant declared variant) parts = path_text w declared.0 variant ++ fields_text w (fields_at w declared.0 variant) parts
made_text w (Closure number) parts = codes "closure(" ++ commas parts ++ codes ")"

-- (if A { B } else { C })
abbrev pub choice_text : List (List ℕ) → List ℕ
choice_text (a ∷ b ∷ c ∷ []) = codes "(if " ++ a ++ codes " { " ++ b ++ codes " } else { " ++ c ++ codes " })"
choice_text _ = []

-- an operator at the texts of its parts: of one part for the first four, and of two for those that stand between
abbrev pub applied_text : Spelling → Operator → List (List ℕ) → List ℕ
applied_text w modeled parts = commas parts ++ codes "@"
applied_text w negated parts = codes "(-" ++ commas parts ++ codes ")"
applied_text w denied parts = codes "(!" ++ commas parts ++ codes ")"
applied_text w (field n) parts = commas parts ++ numbered (codes ".") n
applied_text w (arith op) parts = between (arithmetic_sign op) parts
applied_text w less parts = between (codes " < ") parts
applied_text w at_most parts = between (codes " <= ") parts
applied_text w equal parts = between (codes " == ") parts
applied_text w both parts = between (codes " && ") parts
applied_text w either parts = between (codes " || ") parts
applied_text w implied parts = between (codes " ==> ") parts
applied_text w choice parts = choice_text parts
applied_text w (made ctor) parts = made_text w ctor parts

-- the number of the innermost binder of the name, the outermost being 1; 0 where none binds it
abbrev pub number_in : List (Name × Ty) → Name → ℕ
number_in [] name = 0
number_in (inner ∷ outer) name = if name.0 == inner.0.0 then suc (length outer) else number_in outer name

-- the quantifier up to the number of its variable
abbrev pub quantifier_word : Quantifier → List ℕ
quantifier_word every = codes "forall<v"
quantifier_word some = codes "exists<v"

-- forall<v1: S> with a space after it
abbrev pub binder_text : Spelling → Quantifier → ℕ → Ty → List ℕ
binder_text w quantifier number sort = numbered (quantifier_word quantifier) number ++ codes ": " ++ sort_text w sort ++ codes "> "

-- the term, the names that are bound around it being these with their sorts, the innermost first
abbrev mutual
  pub text_in : Spelling → List (Name × Ty) → Term → List ℕ
  text_in w bound (var name) = numbered (codes "v") (number_in bound name)
  text_in w bound (lit number sort) = literal_text number sort
  text_in w bound (truth holds) = truth_text holds
  text_in w bound (apply operator parts) = applied_text w operator (texts_in w bound parts)
  text_in w bound (bind quantifier name sort body) =
      codes "(" ++ binder_text w quantifier (suc (length bound)) sort ++ text_in w ((name, sort) ∷ bound) body ++ codes ")"

  pub texts_in : Spelling → List (Name × Ty) → Terms → List (List ℕ)
  texts_in w bound no_terms = []
  texts_in w bound (and_term t ts) = text_in w bound t ∷ texts_in w bound ts

-- the goal as text: no binder is around it
abbrev pub text_of_goal : Spelling → Term → List ℕ
text_of_goal w goal = text_in w [] goal
