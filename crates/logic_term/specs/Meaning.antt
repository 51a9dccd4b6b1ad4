-- What a term means. There is no excluded middle in the logic, so the truth of a formula is that of its negative
-- translation: it cannot fail to have the value true. Each term has at most one value, and cannot fail to have one.
use Rattle.std.specs.Prelude.{◌≡◌, ℕ, zero, suc, ℤ, pos, neg_ℤ, ◌+ℤ◌, ◌-ℤ◌, ◌*ℤ◌, int_div, int_rem, int_le, int_lt, Bool, true, false, cond, ◌==◌}
use Rattle.std.specs.Ordering.{int_eq}
use Rattle.text_core.specs.declared.name.Name.{Name}
use Rattle.source_kinds.specs.declared.kinds.ArithOp.{ArithOp}
use Rattle.source_kinds.specs.declared.kinds.ArithOp.TheVariants.{Add, Sub, Mul, Div, Rem}
use Rattle.logic_term.specs.Ty.{Tys}
use Rattle.logic_term.specs.Term.{Operator, modeled, negated, denied, field, arith, less, at_most, equal, both, either, implied, choice, made, Quantifier, every, some, Term, Terms, var, lit, truth, apply, bind, no_terms, and_term, count}
use Rattle.logic_term.specs.declared.kinds.Ctor.{Ctor}
use Rattle.logic_term.specs.declared.kinds.LogicFn.{LogicFn}
use Rattle.logic_term.specs.Value.{Value, Values, Number, Flag, Made, no_values, and_value, nothing, integer_of, nth_part}
use Rattle.logic_term.specs.Sort.{HasSort, instance}
use Rattle.logic_term.specs.Theory.{Theory, declared}

-- P cannot fail
abbrev pub Sure : Type 0 → Type 0
Sure P = (P → ⊥) → ⊥

-- which values a term has
abbrev pub Has : Type 1
Has = Value → Type 0

-- what terms are read at: what is declared, and the types for the type parameters
pub record Structure : Type 0 where
  pub theory : Theory
  pub types : Tys

abbrev pub structure_of : Theory → Tys → Structure
structure_of Θ θ = record { theory = Θ; types = θ }

-- the values of variables
abbrev pub Env : Type 0
Env = Name → Value

-- the environment with another value at one name
abbrev pub with_value : Env → Name → Value → Env
with_value ρ x v y = cond (y.0 == x.0) v (ρ y)

-- ---- what calls of logic functions mean

-- the values of a call of a logic function, at types for its type parameters, by the values of its arguments
abbrev pub Calls : Type 1
Calls = LogicFn → Tys → Values → Has

-- of a theory. So far none declares a logic function: a call has the value that stands for a part that is missing
abbrev pub calls : Theory → Calls
calls Θ f ts vs v = v ≡ nothing

-- ---- the values of operators, by the values of their arguments

abbrev pub Of : (Value → Value) → Has → Has
Of f A v = (x : Value) × A x × (v ≡ f x)

abbrev pub OfTwo : (Value → Value → Value) → Has → Has → Has
OfTwo f A B v = (x : Value) × (y : Value) × A x × B y × (v ≡ f x y)

abbrev pub Decided : Bool → Type 0 → Type 0
Decided true P = P
Decided false P = P → ⊥

-- v is the truth value of P
abbrev pub Says : Type 0 → Has
Says P v = (b : Bool) × (v ≡ Flag b) × Decided b P

-- the formula is true
abbrev pub Yes : Has → Type 0
Yes A = Sure (A (Flag true))

abbrev pub Picked : Bool → Has → Has → Has
Picked true A B = A
Picked false A B = B

-- A where C is true, else B
abbrev pub Chosen : Has → Has → Has → Has
Chosen C A B v = (b : Bool) × Decided b (Yes C) × Picked b A B v

-- division truncates toward zero; in terms a / 0 is 0 and a % 0 is a
abbrev pub calculated : ArithOp → ℤ → ℤ → ℤ
calculated Add a b = a +ℤ b
calculated Sub a b = a -ℤ b
calculated Mul a b = a *ℤ b
calculated Div a b = cond (int_eq b (pos 0)) (pos 0) (int_div a b)
calculated Rem a b = cond (int_eq b (pos 0)) a (int_rem a b)

abbrev pub on_integer : (ℤ → ℤ) → Value → Value
on_integer f x = Number (f (integer_of x))

abbrev pub on_integers : (ℤ → ℤ → ℤ) → Value → Value → Value
on_integers f x y = Number (f (integer_of x) (integer_of y))

abbrev pub compared : (ℤ → ℤ → Bool) → Value → Value → Value
compared f x y = Flag (f (integer_of x) (integer_of y))

-- values of the first n, one for each
abbrev pub Each : ℕ → (ℕ → Has) → Values → Type 0
Each zero A vs = vs ≡ no_values
Each (suc n) A vs = (x : Value) × (xs : Values) × A 0 x × Each n (λ k. A (suc k)) xs × (vs ≡ and_value x xs)

abbrev pub MadeOf : Ctor → (Values → Type 0) → Has
MadeOf c P v = (vs : Values) × P vs × (v ≡ Made c vs)

-- C: what calls mean; θ: the types for the type parameters; n: how many arguments there are; A: their values, by number from 0. So far no
-- operator calls
abbrev pub AppliedBy : Calls → Tys → Operator → ℕ → (ℕ → Has) → Has
AppliedBy C θ modeled n A = Of (on_integer (λ z. z)) (A 0)
AppliedBy C θ negated n A = Of (on_integer neg_ℤ) (A 0)
AppliedBy C θ denied n A = Says (Yes (A 0) → ⊥)
AppliedBy C θ (field i) n A = Of (nth_part i) (A 0)
AppliedBy C θ (arith op) n A = OfTwo (on_integers (calculated op)) (A 0) (A 1)
AppliedBy C θ less n A = OfTwo (compared int_lt) (A 0) (A 1)
AppliedBy C θ at_most n A = OfTwo (compared int_le) (A 0) (A 1)
AppliedBy C θ equal n A = Says ((x y : Value) → A 0 x → A 1 y → Sure (x ≡ y))
AppliedBy C θ both n A = Says (Yes (A 0) × Yes (A 1))
AppliedBy C θ either n A = Says ((Yes (A 0) → ⊥) × (Yes (A 1) → ⊥) → ⊥)
AppliedBy C θ implied n A = Says (Yes (A 0) → Yes (A 1))
AppliedBy C θ choice n A = Chosen (A 0) (A 1) (A 2)
AppliedBy C θ (made c) n A = MadeOf c (Each n A)

-- S: the values of the variable's sort; A: the values of the body, by the variable's
abbrev pub Quantified : Quantifier → (Value → Type 0) → (Value → Has) → Has
Quantified every S A = Says ((w : Value) → S w → Yes (A w))
Quantified some S A = Says (((w : Value) → S w → Yes (A w) → ⊥) → ⊥)

abbrev pub Nothing : Has
Nothing v = v ≡ nothing

-- ---- the values of terms, where calls mean C

abbrev mutual
  pub MeansBy : Calls → Structure → Term → Env → Has
  MeansBy C S (var x) ρ v = v ≡ ρ x
  MeansBy C S (lit z t) ρ v = v ≡ Number z
  MeansBy C S (truth b) ρ v = v ≡ Flag b
  MeansBy C S (apply op ts) ρ v = AppliedBy C S.types op (count ts) (λ n. ArgumentBy C S ts ρ n) v
  MeansBy C S (bind q x t u) ρ v = Quantified q (λ w. HasSort (declared S.theory) w (instance S.types t)) (λ w. MeansBy C S u (with_value ρ x w)) v

  pub ArgumentBy : Calls → Structure → Terms → Env → ℕ → Has
  ArgumentBy C S no_terms ρ n = Nothing
  ArgumentBy C S (and_term t ts) ρ zero = MeansBy C S t ρ
  ArgumentBy C S (and_term t ts) ρ (suc n) = ArgumentBy C S ts ρ n

-- calls mean what the theory says
abbrev pub Means : Structure → Term → Env → Has
Means S = MeansBy (calls S.theory) S

abbrev pub Argument : Structure → Terms → Env → ℕ → Has
Argument S = ArgumentBy (calls S.theory) S

-- the formula is true
abbrev pub Holds : Structure → Term → Env → Type 0
Holds S t ρ = Yes (Means S t ρ)
