-- The bodies that tests run.
use Rattle.std.specs.Prelude.{◌≡◌, ℕ, ℤ, pos, true, false, List, [], ◌∷◌, Some, None, codes, slice_get}
use Rattle.text_core.specs.declared.name.Name.{Name}
use Rattle.text_core.specs.declared.refusal.Cause.{Cause}
use Rattle.text_core.specs.declared.span.Span.{Span}
use Rattle.source_kinds.specs.declared.kinds.BinaryOp.TheVariants.{Lt}
use Rattle.source_kinds.specs.declared.kinds.IntKind.TheVariants.{I32}
use Rattle.logic_term.specs.declared.declaration.AdtDecl.{AdtDecl}
use Rattle.logic_term.specs.declared.declaration.FieldDecl.{FieldDecl}
use Rattle.logic_term.specs.declared.declaration.VariantDecl.{VariantDecl}
use Rattle.logic_term.specs.declared.declaration.VariantKind.TheVariants.{Numbered}
use Rattle.logic_term.specs.declared.kinds.AdtId.{AdtId}
use Rattle.logic_term.specs.declared.kinds.Ctor.TheVariants.{Tuple, Variant}
use Rattle.logic_term.specs.declared.kinds.Label.{Label}
use Rattle.source_kinds.specs.Range.{fits}
use Rattle.logic_term.specs.Ty.{Ty, int, bool, tuple, adt, param, no_tys, and_ty}
use Rattle.mir_ir.specs.declared.place.Lit.TheVariants as lit
use Rattle.mir_ir.specs.declared.place.Operand.{Operand}
use Rattle.mir_ir.specs.declared.place.Proj.TheVariants.{Field}
use Rattle.mir_ir.specs.declared.place.Operand.TheVariants.{Copy, Move, Const}
use Rattle.mir_ir.specs.declared.statement.Rvalue.{Rvalue}
use Rattle.mir_ir.specs.declared.statement.Rvalue.TheVariants.{Use, Binary, Neg, Make}
use Rattle.mir_ir.specs.declared.statement.StatementKind.TheVariants.{Assign, Dead}
use Rattle.mir_ir.specs.declared.statement.Statement.{Statement}
use Rattle.mir_ir.specs.declared.terminator.FnId.TheVariants as fn_id
use Rattle.mir_ir.specs.declared.terminator.Callee.TheVariants.{Function}
use Rattle.mir_ir.specs.declared.terminator.TerminatorKind.{TerminatorKind}
use Rattle.mir_ir.specs.declared.terminator.TerminatorKind.TheVariants.{Goto, If, Call, Return, Panic, Switch}
use Rattle.mir_ir.specs.declared.body.Block.{Block}
use Rattle.mir_ir.specs.declared.body.Body.{Body}
use Rattle.mir_ir.specs.Body.{param_tys}
use Rattle.mir_machine.specs.Tree.{Tree, Int, Truth}
use Rattle.mir_machine.specs.Step.{whole}
use Rattle.mir_ir.specs.declared.body.Bodies.{Bodies}

-- the one span of all samples
abbrev pub sample_span : Span
sample_span = record { start = 24; end = 29 }

abbrev pub assigned : ℕ → Rvalue → Statement
assigned x r = record { span = sample_span; kind = Assign (whole x) r }

abbrev pub block_of : List Statement → TerminatorKind → Block
block_of sts end = record { head = None; nest = []; statements = sts; end = record { span = sample_span; kind = end } }

abbrev pub label : ℕ → Label
label n = record { 0 = n }

-- body n of one parameter, whose first block has label 0
abbrev pub body_of : ℕ → List Ty → List Name → List (Label × Block) → Body
body_of id tys names blocks =
    record { id = id; owner = codes "f"; types = []; params = 1; locals = tys; names = names; outlives = []; calls = []; entry = label 0; blocks = blocks; span = sample_span; types_at = [] }

abbrev pub name : ℕ → Name
name n = record { 0 = n }

-- one block
abbrev pub of_block : Ty → Ty → Block → Body
of_block answer takes k = body_of 0 (answer ∷ takes ∷ []) (name 100 ∷ name 101 ∷ []) ((label 0, k) ∷ [])

-- the right side is the answer
abbrev pub sample : Ty → Ty → Rvalue → Body
sample answer takes r = of_block answer takes (block_of (assigned 0 r ∷ []) Return)

-- of an i32, -x where it is negative, and else x
abbrev pub tests : Block
tests = block_of (assigned 2 (Binary Lt (Copy (whole 1)) (Const (lit.Int (pos 0) I32))) ∷ []) (If (Move (whole 2)) (label 1) (label 2))

abbrev pub negates : Block
negates = block_of (assigned 0 (Neg (Copy (whole 1))) ∷ record { span = sample_span; kind = Dead 1 } ∷ []) (Goto (label 3))

abbrev pub keeps : Block
keeps = block_of (assigned 0 (Use (Move (whole 1))) ∷ []) (Goto (label 3))

abbrev pub absolute_blocks : List (Label × Block)
absolute_blocks = (label 0, tests) ∷ (label 1, negates) ∷ (label 2, keeps) ∷ (label 3, block_of [] Return) ∷ []

abbrev pub absolute : Body
absolute = body_of 0 (int I32 ∷ int I32 ∷ bool ∷ []) (name 100 ∷ name 101 ∷ name 102 ∷ []) absolute_blocks

-- what body 0 answers of the argument
abbrev pub calling_blocks : List (Label × Block)
calling_blocks = (label 0, block_of [] (Call (whole 0) (Function (fn_id.Body 0)) [] (Copy (whole 1) ∷ []) (label 1))) ∷ (label 1, block_of [] Return) ∷ []

abbrev pub calling : Body
calling = body_of 1 (int I32 ∷ int I32 ∷ []) (name 100 ∷ name 101 ∷ []) calling_blocks

-- one block, which panics
abbrev pub panicking : Cause → Body
panicking cause = of_block (int I32) (int I32) (block_of [] (Panic cause))

-- these bodies, and nothing that is declared beside them
abbrev pub of_bodies : List Body → Bodies
of_bodies bs = record { bodies = bs; decls = []; impls = []; closures = [] }

abbrev pub alone : Body → Bodies
alone b = of_bodies (b ∷ [])

abbrev pub program : Bodies
program = of_bodies (absolute ∷ calling ∷ [])

-- ---- a switch

abbrev pub variant : ℕ → List FieldDecl → VariantDecl
variant n fields = record { name = name n; kind = Numbered; fields = fields }

-- enum Option<T> { None(), Some(T) }
abbrev pub option_decl : AdtDecl
option_decl = record {
  name = name 200;
  regions = 0;
  params = 1;
  variants = variant 201 [] ∷ variant 202 (record { name = name 203; ty = param 0; span = sample_span } ∷ []) ∷ [];
  is_struct = false;
  copy = false;
  span = sample_span;
}

abbrev pub option_id : AdtId
option_id = record { 0 = 0 }

-- Option<i32>
abbrev pub option_ty : Ty
option_ty = adt option_id [] (and_ty (int I32) no_tys)

-- a variant of it, made of these operands
abbrev pub option_of : ℕ → List Operand → Rvalue
option_of k os = Make (Variant option_id k) os

abbrev pub answers : ℤ → Block
answers z = block_of (assigned 0 (Use (Const (lit.Int z I32))) ∷ []) Return

-- 10 where the option is `None`, and else 11
abbrev pub choosing_blocks : Rvalue → List (Label × Block)
choosing_blocks r = (label 0, block_of (assigned 2 r ∷ []) (Switch (whole 2) (label 1 ∷ label 2 ∷ []))) ∷ (label 1, answers (pos 10)) ∷ (label 2, answers (pos 11)) ∷ []

abbrev pub choosing_body : Rvalue → Body
choosing_body r = body_of 0 (int I32 ∷ int I32 ∷ option_ty ∷ []) (name 100 ∷ name 101 ∷ name 102 ∷ []) (choosing_blocks r)

abbrev pub choosing : Rvalue → Bodies
choosing r = record { bodies = choosing_body r ∷ []; decls = option_decl ∷ []; impls = []; closures = [] }

-- ---- a part of a pair

-- (i32, i32)
abbrev pub pair_ty : Ty
pair_ty = tuple (and_ty (int I32) (and_ty (int I32) no_tys))

-- of 3 and the parameter
abbrev pub pair : Rvalue
pair = Make Tuple (Const (lit.Int (pos 3) I32) ∷ Copy (whole 1) ∷ [])

-- the second part of the local
abbrev pub second_of : ℕ → Operand
second_of x = Copy (record { local = x; path = Field 1 ∷ [] })

-- the second part of the pair is the answer
abbrev pub parting_body : Body
parting_body = body_of 0 (int I32 ∷ int I32 ∷ pair_ty ∷ []) (name 100 ∷ name 101 ∷ name 102 ∷ []) ((label 0, block_of (assigned 2 pair ∷ assigned 0 (Use (second_of 2)) ∷ []) Return) ∷ [])

-- ---- calls of them

-- the integer or the truth value is one of the type
abbrev pub IsScalarOf : Ty → Tree (Unit {0}) → Type 0
IsScalarOf (int k) (Int z) = fits k z ≡ true
IsScalarOf bool (Truth b) = Unit {0}
IsScalarOf _ _ = ⊥

-- the body has one parameter, and the tree is one of its type
abbrev pub TakesOne : Bodies → ℕ → Tree (Unit {0}) → Type 0
TakesOne bodies f t = (b : Body) × (ty : Ty) × (slice_get bodies.bodies f ≡ Some b) × (param_tys b no_tys ≡ and_ty ty no_tys) × IsScalarOf ty t
