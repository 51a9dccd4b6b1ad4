-- Terms and formulas, as contracts see them: a small core into which the variants of `TermNode` are viewed.
use Rattle.std.specs.Prelude.{ℕ, suc, ℤ, Bool, true, false}
use Rattle.text_core.specs.declared.name.Name.{Name}
use Rattle.source_kinds.specs.declared.kinds.ArithOp.{ArithOp}
use Rattle.logic_term.specs.declared.kinds.Ctor.{Ctor}
use Rattle.logic_term.specs.declared.kinds.Ctor.TheVariants.{Tuple}
use Rattle.logic_term.specs.Ty.{Ty}

-- the operators, each with its number of arguments
pub data Operator : Type 0 where
  -- one
  modeled : Operator
  negated : Operator
  denied : Operator
  -- part n of a tuple or a struct
  field : ℕ → Operator
  -- two
  arith : ArithOp → Operator
  less at_most equal : Operator
  both either implied : Operator
  -- three: a condition, and what is meant where it is true and where it is not
  choice : Operator
  -- any number
  made : Ctor → Operator

pub data Quantifier : Type 0 where
  every some : Quantifier

mutual
  pub data Term : Type 0 where
    var : Name → Term
    lit : ℤ → Ty → Term
    truth : Bool → Term
    apply : Operator → Terms → Term
    bind : Quantifier → Name → Ty → Term → Term

  pub data Terms : Type 0 where
    no_terms : Terms
    and_term : Term → Terms → Terms

-- how many terms
abbrev pub count : Terms → ℕ
count no_terms = 0
count (and_term t ts) = suc (count ts)

-- the terms by their usual names
abbrev pub one : Operator → Term → Term
one op a = apply op (and_term a no_terms)

abbrev pub two : Operator → Term → Term → Term
two op a b = apply op (and_term a (and_term b no_terms))

abbrev pub model : Term → Term
model = one modeled

abbrev pub negative : Term → Term
negative = one negated

abbrev pub not : Term → Term
not = one denied

abbrev pub calculate : ArithOp → Term → Term → Term
calculate op = two (arith op)

abbrev pub is_less : Term → Term → Term
is_less = two less

abbrev pub is_at_most : Term → Term → Term
is_at_most = two at_most

abbrev pub is_equal : Term → Term → Term
is_equal = two equal

abbrev pub and : Term → Term → Term
and = two both

abbrev pub or : Term → Term → Term
or = two either

abbrev pub implies : Term → Term → Term
implies = two implied

abbrev pub forall : Name → Ty → Term → Term
forall = bind every

abbrev pub exists : Name → Ty → Term → Term
exists = bind some

abbrev pub part : ℕ → Term → Term
part n = one (field n)

abbrev pub if_else : (condition first second : Term) → Term
if_else c a b = apply choice (and_term c (and_term a (and_term b no_terms)))

abbrev pub is_implication : Term → Bool
is_implication (apply implied ts) = true
is_implication t = false

abbrev pub is_conjunction : Term → Bool
is_conjunction (apply both ts) = true
is_conjunction t = false

abbrev pub is_quantified : Term → Bool
is_quantified (bind every x s t) = true
is_quantified t = false

-- `()`, the tuple of no parts
abbrev pub unit : Term
unit = apply (made Tuple) no_terms
