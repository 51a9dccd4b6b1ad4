-- Which bodies are typed, and in which each local that is read is initialised. The rules are those of the Rust Reference:
-- "Variables" and "Move and copy types" (what is initialised), "Tuple indexing expressions" and "Field access expressions" (what is copied out of a value), "Operator expressions" (which operands an operator takes), "Tuple
-- expressions", "Struct expressions", "Type cast expressions" (of these the lossless ones), "if expressions" (the condition is a bool), "Match expressions" (all variants are covered) and "Call expressions" (the callee's parameters and answer).
use Rattle.std.specs.Prelude.{◌≡◌, ℕ, ◌+◌, ◌≤◌, ◌==◌, nat_lt, Bool, true, false, ◌&&◌, cond, List, [], ◌∷◌, ◌++◌, length, take, drop, Some, slice_get}
use Rattle.logic_term.specs.declared.declaration.AdtDecl.{AdtDecl}
use Rattle.logic_term.specs.declared.kinds.AdtId.{AdtId}
use Rattle.logic_term.specs.declared.kinds.Label.{Label}
use Rattle.logic_term.specs.declared.kinds.Region.{Region}
use Rattle.source_kinds.specs.declared.kinds.IntKind.{IntKind}
use Rattle.source_kinds.specs.declared.kinds.IntKind.TheVariants.{I8, I16, I32, I64, Isize}
use Rattle.source_kinds.specs.declared.kinds.BinaryOp.{BinaryOp}
use Rattle.source_kinds.specs.declared.kinds.BinaryOp.TheVariants.{Add, Sub, Mul, Div, Rem, Eq, Ne, Lt, Le, Gt, Ge}
use Rattle.source_kinds.specs.Range.{fits, widens}
use Rattle.logic_term.specs.Sorted.{MadeSort}
use Rattle.logic_term.specs.Theory.{Theory}
use Rattle.logic_term.specs.Ty.{Ty, Tys, int, bool, adt, boxed}
use Rattle.logic_term.specs.TyView.{tys_of}
use Rattle.mir_ir.specs.declared.place.Place.{Place}
use Rattle.mir_ir.specs.declared.place.Lit.{Lit}
use Rattle.mir_ir.specs.declared.place.Lit.TheVariants as lit
use Rattle.mir_ir.specs.declared.place.Operand.{Operand}
use Rattle.mir_ir.specs.declared.place.Operand.TheVariants.{Copy, Move, Const}
use Rattle.mir_ir.specs.declared.statement.Rvalue.{Rvalue}
use Rattle.mir_ir.specs.declared.statement.Rvalue.TheVariants.{Use, Binary, Neg, Not, Widen, Make, BoxNew}
use Rattle.mir_ir.specs.declared.statement.StatementKind.{StatementKind}
use Rattle.mir_ir.specs.declared.statement.StatementKind.TheVariants.{Assign, Dead}
use Rattle.mir_ir.specs.declared.statement.Statement.{Statement}
use Rattle.mir_ir.specs.declared.terminator.Callee.{Callee}
use Rattle.mir_ir.specs.declared.terminator.TerminatorKind.{TerminatorKind}
use Rattle.mir_ir.specs.declared.terminator.TerminatorKind.TheVariants.{Goto, If, Switch, Call, Return, Panic}
use Rattle.mir_ir.specs.declared.body.Block.{Block}
use Rattle.mir_ir.specs.declared.body.Body.{Body}
use Rattle.mir_ir.specs.declared.body.Bodies.{Bodies}
use Rattle.mir_ir.specs.Body.{block_in}
use Rattle.mir_ir.specs.Callees.{callee_body}
use Rattle.mir_ir.specs.Declares.{theory_in}
use Rattle.mir_ir.specs.Layout.{among, targets}
use Rattle.mir_ir.specs.Paths.{LeadsTo}
use Rattle.mir_ir.specs.Acts.{Act, reads, takes, writes, dies, acts_of, acts_of_end, acts_along}

-- ---- types

-- a whole local of the type. So far what is written, moved or compared is one
abbrev pub PlaceHas : Body → Place → Ty → Type 0
PlaceHas b p t = (p.path ≡ []) × (slice_get b.locals p.local ≡ Some t)

-- a part of a local, or the whole of it: the path leads from the local's type to the type
abbrev pub PartHas : Theory → Body → Place → Ty → Type 0
PartHas Θ b p t = (u : Ty) × (slice_get b.locals p.local ≡ Some u) × LeadsTo Θ u p.path t

abbrev pub LitHas : Lit → Ty → Type 0
LitHas (lit.Int z k) t = (t ≡ int k) × (fits k z ≡ true)
LitHas (lit.Bool x) t = t ≡ bool

abbrev pub OperandHas : Body → Operand → Ty → Type 0
OperandHas b (Copy p) t = PlaceHas b p t
OperandHas b (Move p) t = PlaceHas b p t
OperandHas b (Const l) t = LitHas l t

-- what is used as it is: a part may be copied, and what is moved is a whole local
abbrev pub UsedHas : Theory → Body → Operand → Ty → Type 0
UsedHas Θ b (Copy p) t = PartHas Θ b p t
UsedHas Θ b (Move p) t = PlaceHas b p t
UsedHas Θ b (Const l) t = LitHas l t

-- one operand for each type
abbrev pub OperandsHave : Body → List Operand → List Ty → Type 0
OperandsHave b [] [] = Unit {0}
OperandsHave b (o ∷ os) (t ∷ ts) = OperandHas b o t × OperandsHave b os ts
OperandsHave b _ _ = ⊥

-- the type of an operation on two integers of the kind
abbrev pub operation_ty : BinaryOp → IntKind → Ty
operation_ty Add k = int k
operation_ty Sub k = int k
operation_ty Mul k = int k
operation_ty Div k = int k
operation_ty Rem k = int k
operation_ty Eq k = bool
operation_ty Ne k = bool
operation_ty Lt k = bool
operation_ty Le k = bool
operation_ty Gt k = bool
operation_ty Ge k = bool

abbrev pub IsEquality : BinaryOp → Type 0
IsEquality Eq = Unit {0}
IsEquality Ne = Unit {0}
IsEquality _ = ⊥

-- on two operands of the first type the operator gives the second: each takes two integers of one kind, and `==` and `!=` two
-- truth values as well
abbrev pub OperationHas : BinaryOp → Ty → Ty → Type 0
OperationHas op (int k) t = t ≡ operation_ty op k
OperationHas op bool t = IsEquality op × (t ≡ bool)
OperationHas op _ t = ⊥

abbrev pub IsSigned : IntKind → Type 0
IsSigned I8 = Unit {0}
IsSigned I16 = Unit {0}
IsSigned I32 = Unit {0}
IsSigned I64 = Unit {0}
IsSigned Isize = Unit {0}
IsSigned _ = ⊥

abbrev pub RvalueHas : Bodies → Body → Rvalue → Ty → Type 0
RvalueHas bodies b (Use o) t = UsedHas (theory_in bodies) b o t
RvalueHas bodies b (Binary op x y) t = (s : Ty) × OperandHas b x s × OperandHas b y s × OperationHas op s t
RvalueHas bodies b (Neg o) t = (k : IntKind) × IsSigned k × OperandHas b o (int k) × (t ≡ int k)
RvalueHas bodies b (Not o) t = OperandHas b o bool × (t ≡ bool)
-- of any integer type whose values are all of the type
RvalueHas bodies b (Widen o k) t = (j : IntKind) × (widens j k ≡ true) × OperandHas b o (int j) × (t ≡ int k)
-- a tuple of the operands' types, or a variant of a declared type whose fields have them
RvalueHas bodies b (Make c os) t = (ts : List Ty) × OperandsHave b os ts × MadeSort (theory_in bodies) c (tys_of ts) t
RvalueHas bodies b (BoxNew o) t = (u : Ty) × OperandHas b o u × (t ≡ boxed u)

abbrev pub StatementIsTyped : Bodies → Body → StatementKind → Type 0
StatementIsTyped bodies b (Assign p r) = (t : Ty) × PlaceHas b p t × RvalueHas bodies b r t
StatementIsTyped bodies b (Dead x) = (t : Ty) × (slice_get b.locals x ≡ Some t)

abbrev pub HasBlock : Body → Label → Type 0
HasBlock b l = (k : Block) × (block_in b.blocks l ≡ Some k)

-- the callee has a body, there is one type for each of its type parameters and one operand for each parameter, and the place has the
-- type of its answer
abbrev pub CallIsTyped : Bodies → Body → Place → Callee → List Ty → List Operand → Type 0
CallIsTyped bodies b p callee types os =
    (c : Body) × (t : Ty) × (callee_body bodies callee ≡ Some c) × OperandsHave b os (take c.params (drop 1 c.locals)) × (slice_get c.locals 0 ≡ Some t) × PlaceHas b p t
    × (length types ≡ length c.types)

-- the place has a declared type, of whose variants each has its label, and each label a block
pub record SwitchIsTyped (bodies : Bodies) (b : Body) (p : Place) (ls : List Label) : Type 0 where
  pub number : AdtId
  pub regions : List Region
  pub types : Tys
  pub place : PlaceHas b p (adt number regions types)
  pub declaration : AdtDecl
  pub is_declared : slice_get bodies.decls number.0 ≡ Some declaration
  pub count : length ls ≡ length declaration.variants
  pub blocks : (k : ℕ) (l : Label) → slice_get ls k ≡ Some l → HasBlock b l

-- each label that is named has a block
abbrev pub EndIsTyped : Bodies → Body → TerminatorKind → Type 0
EndIsTyped bodies b (Goto l) = HasBlock b l
EndIsTyped bodies b (If o on_true on_false) = OperandHas b o bool × HasBlock b on_true × HasBlock b on_false
EndIsTyped bodies b (Switch p ls) = SwitchIsTyped bodies b p ls
EndIsTyped bodies b (Call p callee types os l) = CallIsTyped bodies b p callee types os × HasBlock b l
EndIsTyped bodies b Return = Unit {0}
EndIsTyped bodies b (Panic cause) = Unit {0}

-- b is typed among these bodies
pub record IsTyped (bodies : Bodies) (b : Body) : Type 0 where
  -- so far bodies have no type parameters
  pub ground : b.types ≡ []
  pub named : length b.names ≡ length b.locals
  -- the answer and the parameters are locals
  pub answers : b.params + 1 ≤ length b.locals
  pub begins : HasBlock b b.entry
  pub statements : (l : Label) (k : Block) (i : ℕ) (st : Statement) → block_in b.blocks l ≡ Some k → slice_get k.statements i ≡ Some st → StatementIsTyped bodies b st.kind
  pub ends : (l : Label) (k : Block) → block_in b.blocks l ≡ Some k → EndIsTyped bodies b k.end.kind

-- ---- initialised locals

-- a set of locals
abbrev pub Locals : Type 0
Locals = ℕ → Bool

abbrev pub without : ℕ → Locals → Locals
without x set y = cond (y == x) false (set y)

abbrev pub with : ℕ → Locals → Locals
with x set y = cond (y == x) true (set y)

-- what is copied or moved has a value
abbrev pub CanDo : Locals → Act → Type 0
CanDo there (reads p) = there p.local ≡ true
CanDo there (takes p) = there p.local ≡ true
CanDo there (writes p) = Unit {0}
CanDo there (dies x) = Unit {0}

abbrev pub done : Act → Locals → Locals
done (reads p) there = there
done (takes p) there = without p.local there
done (writes p) there = with p.local there
done (dies x) there = without x there

-- one after another
abbrev pub CanDoAll : Locals → List Act → Type 0
CanDoAll there [] = Unit {0}
CanDoAll there (a ∷ rest) = CanDo there a × CanDoAll (done a there) rest

abbrev pub all_done : List Act → Locals → Locals
all_done [] there = there
all_done (a ∷ rest) there = all_done rest (done a there)

abbrev pub Within : Locals → Locals → Type 0
Within small large = (x : ℕ) → small x ≡ true → large x ≡ true

-- at entry exactly the parameters are initialised
abbrev pub parameters : Body → Locals
parameters b x = nat_lt 0 x && nat_lt x (b.params + 1)

-- a set of locals before each statement and each block's end, by the block's label and the statement's number
abbrev pub Labelling : Type 0
Labelling = Label → ℕ → Locals

-- the sets have only locals that are surely initialised there: what a statement, an end or an edge uses is in the set before it, and what
-- is in the set behind it is so by what it does
pub record MeetsMoveRows (b : Body) (at : Labelling) : Type 0 where
  pub entry : Within (at b.entry 0) (parameters b)
  pub statements : (l : Label) (k : Block) (i : ℕ) (st : Statement) → block_in b.blocks l ≡ Some k → slice_get k.statements i ≡ Some st
      → CanDoAll (at l i) (acts_of st.kind) × Within (at l (i + 1)) (all_done (acts_of st.kind) (at l i))
  pub ends : (l : Label) (k : Block) → block_in b.blocks l ≡ Some k → CanDoAll (at l (length k.statements)) (acts_of_end k.end.kind)
  pub edges : (l m : Label) (k : Block) → block_in b.blocks l ≡ Some k → among m (targets k.end.kind) ≡ true
      → Within (at m 0) (all_done (acts_of_end k.end.kind ++ acts_along k.end.kind) (at l (length k.statements)))

-- some labelling does so
abbrev pub IsInitialised : Body → Type 0
IsInitialised b = (at : Labelling) × MeetsMoveRows b at

-- each body has its place as its number, and is both
abbrev pub AreSound : Bodies → Type 0
AreSound bodies = (f : ℕ) (b : Body) → slice_get bodies.bodies f ≡ Some b → IsTyped bodies b × IsInitialised b × (b.id ≡ f)
