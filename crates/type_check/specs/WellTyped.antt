-- Typed expressions whose parts fit (Rust Reference, "Operator expressions", "Call expressions", "Tuple expressions", "Tuple indexing expressions", "Field access expressions", "Struct expressions", "Block expressions", "if expressions", "match expressions",
-- "Predicate loops", "Infinite loops", "return expressions"). The variables in scope are a list of their types, the outermost first.
use Rattle.std.specs.Option.{option_map}
use Rattle.std.specs.Prelude.{◌≡◌, ◌⊎◌, ℕ, ◌<◌, Bool, true, false, List, [], ◌∷◌, ◌++◌, length, map, Option, Some, None, slice_get, if◌then◌else◌}
use Rattle.text_core.specs.declared.name.Name.{Name}
use Rattle.source_kinds.specs.declared.kinds.BinaryOp.{BinaryOp}
use Rattle.source_kinds.specs.declared.kinds.BinaryOp.TheVariants.{Add, Sub, Mul, Div, Rem, Eq, Ne}
use Rattle.source_kinds.specs.declared.kinds.IntKind.{IntKind}
use Rattle.source_kinds.specs.declared.kinds.IntKind.TheVariants.{I8, I16, I32, I64, Isize}
use Rattle.logic_term.specs.Free.{free}
use Rattle.source_kinds.specs.Range.{fits, widens}
use Rattle.logic_term.specs.declared.kinds.Ctor.{Ctor}
use Rattle.logic_term.specs.declared.declaration.AdtDecl.{AdtDecl}
use Rattle.logic_term.specs.declared.kinds.AdtId.{AdtId}
use Rattle.logic_term.specs.declared.kinds.Ctor.TheVariants.{Tuple, Variant, Closure}
use Rattle.logic_term.specs.Pattern.{Pat}
use Rattle.logic_term.specs.Sort.{instances}
use Rattle.logic_term.specs.Sorted.{sort_at}
use Rattle.logic_term.specs.Theory.{declared}
use Rattle.logic_term.specs.Ty.{Ty, Tys, int, bool, tuple, adt, boxed, no_tys, and_ty, unit_ty}
use Rattle.pat_check.specs.Typed.{IsPat, fields_in}
use Rattle.pat_types.specs.declared.names.BoundName.{BoundName}
use Rattle.pat_types.specs.Laws.{AreDistinct, BindsAmong, BindsAlone}
pub use Rattle.type_parts.specs.Parts.{field_at, struct_fields}
use Rattle.type_check.specs.declared.program.ClauseKind.{ClauseKind}
use Rattle.type_check.specs.declared.program.ClauseKind.TheVariants.{Requires, Ensures}
use Rattle.type_check.specs.declared.assertion.Assertion.{Assertion}
use Rattle.type_check.specs.declared.assertion.Assertion.TheVariants.{Good, Bad}
use Rattle.type_check.specs.declared.program.Signature.{Signature}
use Rattle.type_check.specs.declared.program.TypedClause.{TypedClause}
use Rattle.type_check.specs.declared.program.TypedFunction.{TypedFunction}
use Rattle.type_check.specs.declared.program.TypedProgram.{TypedProgram}
use Rattle.type_check.specs.TypedExpr.{TypedExpr, TypedStmts, TypedExprs, integer, truth, variable, negative, denied, cast, binary, lazy, assign, update, call, make, part, block, branch, choice, matched, repeat, panics, returned, endless, until_break, break_off, go_on, done, last, leaving, bind, run, none, more, TypedArms, no_arms, with_arm}
use Rattle.type_check.specs.Breaks.{breaks}
use Rattle.type_check.specs.Leaves.{leaves}
use Rattle.type_check.specs.TypedExprView.{ty_of}
use Rattle.type_check.specs.VariableNames.{variable_name, answer_name}

abbrev pub unit : Ty
unit = unit_ty

-- the types that are built: the machine integers, the truth values, tuples, boxes and declared types without lifetimes
abbrev mutual
  pub IsBuilt : Ty → Type 0
  IsBuilt (int k) = Unit {0}
  IsBuilt bool = Unit {0}
  IsBuilt (tuple ts) = PartsAreBuilt ts
  IsBuilt (boxed t) = IsBuilt t
  IsBuilt (adt d [] ts) = PartsAreBuilt ts
  IsBuilt _ = ⊥

  pub PartsAreBuilt : Tys → Type 0
  PartsAreBuilt no_tys = Unit {0}
  PartsAreBuilt (and_ty t ts) = IsBuilt t × PartsAreBuilt ts

-- ---- tuples

-- the types of expressions
abbrev pub tys_of_exprs : TypedExprs → Tys
tys_of_exprs none = no_tys
tys_of_exprs (more e es) = and_ty (ty_of e) (tys_of_exprs es)

-- what a declared type has for its fields, at these types for its parameters
pub record MakesDeclared (ds : List AdtDecl) (d : AdtId) (k : ℕ) (ts : Tys) (t : Ty) : Type 0 where
  pub arguments : Tys
  pub fields : Tys
  pub is : t ≡ adt d [] arguments
  pub declares : declared (record { adts = ds }) d k ≡ Some fields
  pub parts : ts ≡ instances arguments fields

-- parts of these types make a value of the type
abbrev pub MakesOf : List AdtDecl → Ctor → Tys → Ty → Type 0
MakesOf ds Tuple ts t = t ≡ tuple ts
MakesOf ds (Variant d k) ts t = MakesDeclared ds d k ts t
MakesOf ds (Closure n) ts t = ⊥

-- the type of part n of a value of the type, a tuple or a struct (Rust Reference, "Tuple indexing expressions", "Field access expressions")
abbrev pub part_ty : List AdtDecl → Ty → ℕ → Option Ty
part_ty ds (tuple ts) n = sort_at ts n
part_ty ds (adt d rs ts) n = option_map (field_at ts) (slice_get (struct_fields (slice_get ds d.0)) n)
part_ty ds _ n = None

-- ---- patterns

-- the pattern is one of values of the type, and these are the names that it binds, each with the type of its variable
pub record PatternFits (ds : List AdtDecl) (t : Ty) (p : Pat) (xs : List BoundName) : Type 0 where
  pub matches : IsPat (fields_in ds) p t
  pub binds : BindsAmong xs p
  pub distinct : AreDistinct xs
  -- without parts it binds no other name
  pub alone : BindsAlone t p xs

abbrev pub tys_bound : List BoundName → List Ty
tys_bound xs = map (λ (x : BoundName). x.ty) xs

-- ---- operators

abbrev pub is_arithmetic : BinaryOp → Bool
is_arithmetic Add = true
is_arithmetic Sub = true
is_arithmetic Mul = true
is_arithmetic Div = true
is_arithmetic Rem = true
is_arithmetic _ = false

abbrev pub is_equality : BinaryOp → Bool
is_equality Eq = true
is_equality Ne = true
is_equality _ = false

-- the type of an operation on two operands of the type, where the operator takes them
abbrev pub operation_ty : BinaryOp → Ty → Option Ty
operation_ty op (int k) = Some (if is_arithmetic op then int k else bool)
operation_ty op bool = if is_equality op then Some bool else None
operation_ty op _ = None

abbrev pub is_signed : IntKind → Bool
is_signed I8 = true
is_signed I16 = true
is_signed I32 = true
is_signed I64 = true
is_signed Isize = true
is_signed _ = false

-- ---- formulas

-- one of the first n variables
abbrev pub IsVariable : ℕ → Name → Type 0
IsVariable n x = (k : ℕ) × (k < n) × (x ≡ variable_name k)

-- the formula speaks of the first n variables alone
abbrev pub SpeaksOf : ℕ → Assertion → Type 0
SpeaksOf n (Good s t) = (x : Name) → free x t ≡ true → IsVariable n x
SpeaksOf n (Bad e) = Unit {0}

-- or of the answer as well
abbrev pub SpeaksOfAnswer : ℕ → Assertion → Type 0
SpeaksOfAnswer n (Good s t) = (x : Name) → free x t ≡ true → IsVariable n x ⊎ (x ≡ answer_name)
SpeaksOfAnswer n (Bad e) = Unit {0}

abbrev pub ClauseSpeaksOf : ℕ → ClauseKind → Assertion → Type 0
ClauseSpeaksOf n Requires a = SpeaksOf n a
ClauseSpeaksOf n Ensures a = SpeaksOfAnswer n a

abbrev pub EachSpeaks : ℕ → List Assertion → Type 0
EachSpeaks n [] = Unit {0}
EachSpeaks n (a ∷ as') = SpeaksOf n a × EachSpeaks n as'

-- ---- expressions

-- what stands around an expression: the declared types, the signatures of the functions that it may call, the type of the function's answer, and whether a
-- loop is around
pub record Surroundings : Type 0 where
  pub types : List AdtDecl
  pub signatures : List Signature
  pub answer : Ty
  pub in_loop : Bool

abbrev pub within_loop : Bool → Surroundings → Surroundings
within_loop b σ = record { types = σ.types; signatures = σ.signatures; answer = σ.answer; in_loop = b }

-- in the body of a loop, and in the condition of a `while`, which is in no loop
abbrev pub looping : Surroundings → Surroundings
looping = within_loop true

abbrev pub outside : Surroundings → Surroundings
outside = within_loop false

abbrev pub IsOf : Ty → TypedExpr → Type 0
IsOf t e = ty_of e ≡ t

-- it has the type, or never a value, whichever built type is asked
abbrev pub IsOfOrLeaves : Ty → TypedExpr → Type 0
IsOfOrLeaves t e = IsOf t e ⊎ ((leaves e ≡ true) × IsBuilt t)

abbrev mutual
  pub IsWellTyped : Surroundings → List Ty → TypedExpr → Type 0
  IsWellTyped σ Γ (integer t s z k) = (t ≡ int k) × (fits k z ≡ true)
  IsWellTyped σ Γ (truth t s b) = t ≡ bool
  IsWellTyped σ Γ (variable t s x) = slice_get Γ x ≡ Some t
  IsWellTyped σ Γ (negative t s e) = (k : IntKind) × (is_signed k ≡ true) × (t ≡ int k) × IsOf (int k) e × IsWellTyped σ Γ e
  IsWellTyped σ Γ (denied t s e) = (t ≡ bool) × IsOf bool e × IsWellTyped σ Γ e
  IsWellTyped σ Γ (cast t s e) = (j : IntKind) × (k : IntKind) × (widens j k ≡ true) × (t ≡ int k) × IsOf (int j) e × IsWellTyped σ Γ e
  IsWellTyped σ Γ (binary t s op a b) = (operation_ty op (ty_of a) ≡ Some t) × IsOf (ty_of a) b × IsWellTyped σ Γ a × IsWellTyped σ Γ b
  IsWellTyped σ Γ (lazy t s op a b) = (t ≡ bool) × IsOf bool a × IsOf bool b × IsWellTyped σ Γ a × IsWellTyped σ Γ b
  IsWellTyped σ Γ (assign t s a e) = (t ≡ unit) × IsOf (ty_of a) e × IsWellTyped σ Γ a × IsWellTyped σ Γ e
  IsWellTyped σ Γ (update t s op a e) = (t ≡ unit) × IsOf (ty_of a) e × (operation_ty op (ty_of e) ≡ Some (ty_of e)) × IsWellTyped σ Γ a × IsWellTyped σ Γ e
  IsWellTyped σ Γ (call t s f es) = (g : Signature) × (slice_get σ.signatures f ≡ Some g) × (t ≡ g.answer) × ArgumentsFit σ Γ es g.params
  IsWellTyped σ Γ (make t s c es) = MakesOf σ.types c (tys_of_exprs es) t × PartsFit σ Γ es
  IsWellTyped σ Γ (part t s e n) = (part_ty σ.types (ty_of e) n ≡ Some t) × IsWellTyped σ Γ e
  IsWellTyped σ Γ (block t s ss) = StatementsFit σ Γ t ss
  IsWellTyped σ Γ (branch t s c a) = (t ≡ unit) × IsOf bool c × IsOf unit a × IsWellTyped σ Γ c × IsWellTyped σ Γ a
  -- a side that leaves fits any type
  IsWellTyped σ Γ (choice t s c a b) = IsOf bool c × IsOfOrLeaves t a × IsOfOrLeaves t b × IsWellTyped σ Γ c × IsWellTyped σ Γ a × IsWellTyped σ Γ b
  IsWellTyped σ Γ (matched t s e as') = IsWellTyped σ Γ e × ArmsFit σ Γ (ty_of e) t as'
  IsWellTyped σ Γ (repeat t s is c b) = (t ≡ unit) × EachSpeaks (length Γ) is × IsOf bool c × IsOf unit b × IsWellTyped (outside σ) Γ c × IsWellTyped (looping σ) Γ b
  -- what leaves is of any built type
  IsWellTyped σ Γ (panics t s k) = IsBuilt t
  IsWellTyped σ Γ (returned t s e) = IsBuilt t × IsOf σ.answer e × IsWellTyped σ Γ e
  IsWellTyped σ Γ (endless t s is b) = IsBuilt t × (breaks b ≡ false) × EachSpeaks (length Γ) is × IsOf unit b × IsWellTyped (looping σ) Γ b
  IsWellTyped σ Γ (until_break t s is b) = (t ≡ unit) × (breaks b ≡ true) × EachSpeaks (length Γ) is × IsOf unit b × IsWellTyped (looping σ) Γ b
  IsWellTyped σ Γ (break_off t s) = IsBuilt t × (σ.in_loop ≡ true)
  IsWellTyped σ Γ (go_on t s) = IsBuilt t × (σ.in_loop ≡ true)

  -- the statements of a block of the type, and its last expression
  pub StatementsFit : Surroundings → List Ty → Ty → TypedStmts → Type 0
  StatementsFit σ Γ t done = t ≡ unit
  StatementsFit σ Γ t (last e) = IsOf t e × IsWellTyped σ Γ e
  StatementsFit σ Γ t (leaving e) = IsBuilt t × (leaves e ≡ true) × IsWellTyped σ Γ e
  StatementsFit σ Γ t (bind e ss) = IsWellTyped σ Γ e × StatementsFit σ (Γ ++ ty_of e ∷ []) t ss
  StatementsFit σ Γ t (run e ss) = IsWellTyped σ Γ e × StatementsFit σ Γ t ss

  -- one argument for each parameter
  pub ArgumentsFit : Surroundings → List Ty → TypedExprs → List Ty → Type 0
  ArgumentsFit σ Γ none [] = Unit {0}
  ArgumentsFit σ Γ (more e es) (t ∷ ts) = IsOf t e × IsWellTyped σ Γ e × ArgumentsFit σ Γ es ts
  ArgumentsFit σ Γ _ _ = ⊥

  pub PartsFit : Surroundings → List Ty → TypedExprs → Type 0
  PartsFit σ Γ none = Unit {0}
  PartsFit σ Γ (more e es) = IsWellTyped σ Γ e × PartsFit σ Γ es

  -- the arms of a match of type t at a value of type u: each is of the type, or leaves
  pub ArmsFit : Surroundings → List Ty → (u t : Ty) → TypedArms → Type 0
  ArmsFit σ Γ u t no_arms = IsBuilt t
  ArmsFit σ Γ u t (with_arm p xs e as') = PatternFits σ.types u p xs × IsOfOrLeaves t e × IsWellTyped σ (Γ ++ tys_bound xs) e × ArmsFit σ Γ u t as'

-- ---- functions

abbrev pub AllBuilt : List Ty → Type 0
AllBuilt [] = Unit {0}
AllBuilt (t ∷ ts) = IsBuilt t × AllBuilt ts

abbrev pub ClausesSpeak : ℕ → List TypedClause → Type 0
ClausesSpeak n [] = Unit {0}
ClausesSpeak n (c ∷ cs) = ClauseSpeaksOf n c.kind c.formula × ClausesSpeak n cs

-- around the body of a function of this signature
abbrev pub surroundings_of : List AdtDecl → List Signature → Signature → Surroundings
surroundings_of ds σ g = record { types = ds; signatures = σ; answer = g.answer; in_loop = false }

pub record FunctionFits (ds : List AdtDecl) (σ : List Signature) (f : TypedFunction) : Type 0 where
  pub params : AllBuilt f.signature.params
  pub answer : IsBuilt f.signature.answer
  pub clauses : ClausesSpeak (length f.signature.params) f.clauses
  pub body : IsWellTyped (surroundings_of ds σ f.signature) f.signature.params f.body
  pub of_answer : IsOf f.signature.answer f.body

abbrev pub signatures : List TypedFunction → List Signature
signatures fs = map (λ (f : TypedFunction). f.signature) fs

abbrev pub EachFits : List AdtDecl → List Signature → List TypedFunction → Type 0
EachFits ds σ [] = Unit {0}
EachFits ds σ (f ∷ fs) = FunctionFits ds σ f × EachFits ds σ fs

abbrev pub ProgramFits : List AdtDecl → TypedProgram → Type 0
ProgramFits ds p = EachFits ds (signatures p.functions) p.functions
