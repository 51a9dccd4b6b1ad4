-- A program of two functions, one with a loop and a branch and one that calls it, whose contracts are that the answer is false, and
-- the conditions of the law at it.
use Rattle.std.specs.Prelude.{ℕ, false, List, [], ◌∷◌, Option, Some, None, slice_get, ◌≡◌, codes}
use Rattle.text_core.specs.declared.name.Name.{Name}
use Rattle.text_core.specs.declared.span.Span.{Span}
use Rattle.logic_term.specs.declared.kinds.Label.{Label}
use Rattle.logic_term.specs.declared.obligation.Contract.{Contract}
use Rattle.logic_term.specs.Theory.{Theory}
use Rattle.logic_term.specs.Term.{var, not, implies}
use Rattle.logic_term.specs.Ty.{bool}
use Rattle.mir_ir.specs.declared.place.Lit.TheVariants as lit
use Rattle.mir_ir.specs.declared.place.Operand.{Operand}
use Rattle.mir_ir.specs.declared.place.Place.{Place}
use Rattle.mir_ir.specs.declared.place.Operand.TheVariants.{Copy, Const}
use Rattle.mir_ir.specs.declared.statement.Rvalue.TheVariants.{Use}
use Rattle.mir_ir.specs.declared.statement.StatementKind.TheVariants.{Assign}
use Rattle.mir_ir.specs.declared.statement.Statement.{Statement}
use Rattle.mir_ir.specs.declared.terminator.FnId.TheVariants.{Body as OfBody}
use Rattle.mir_ir.specs.declared.terminator.Callee.TheVariants.{Function}
use Rattle.mir_ir.specs.declared.terminator.TerminatorKind.{TerminatorKind}
use Rattle.mir_ir.specs.declared.terminator.TerminatorKind.TheVariants.{Goto, If, Call, Return}
use Rattle.mir_ir.specs.declared.body.Block.{Block}
use Rattle.mir_ir.specs.declared.body.Body.{Body}
use Rattle.mir_ir.specs.declared.body.Head.{Head}
use Rattle.mir_ir.specs.WellFormed.{Labelling}
use Rattle.mir_machine.specs.Good.{Good}
use Rattle.prophecy_sim.specs.Programs.{Program, setting, AreFunctions, HasTrueObligations}

abbrev pub label : ℕ → Label
label n = record { 0 = n }

-- where each statement and each block's end stand
abbrev pub end_span : Span
end_span = record { start = 90; end = 91 }

abbrev pub block_of : Option Head → List Label → List Statement → TerminatorKind → Block
block_of head nest sts end = record { head = head; nest = nest; statements = sts; end = record { span = end_span; kind = end } }

abbrev pub whole : ℕ → Place
whole x = record { local = x; path = [] }

abbrev pub name : ℕ → Name
name n = record { 0 = n }

-- the local gets what the operand is
abbrev pub assigned : ℕ → Operand → Statement
assigned x o = record { span = end_span; kind = Assign (whole x) (Use o) }

-- where the answer's local is true, so is the parameter
abbrev pub head : Head
head = record { invariants = implies (var (name 100)) (var (name 10)) ∷ []; spans = end_span ∷ [] }

-- the answer is the parameter, and while it is true it gets false
abbrev pub cleared : Body
cleared = record {
  id = 0;
  owner = codes "f";
  types = [];
  params = 1;
  locals = bool ∷ bool ∷ [];
  names = name 100 ∷ name 101 ∷ [];
  outlives = [];
  calls = [];
  entry = label 0;
  blocks = (label 0, block_of None [] (assigned 0 (Copy (whole 1)) ∷ []) (Goto (label 1)))
      ∷ (label 1, block_of (Some head) (label 1 ∷ []) [] (If (Copy (whole 0)) (label 2) (label 3)))
      ∷ (label 2, block_of None (label 1 ∷ []) (assigned 0 (Const (lit.Bool false)) ∷ []) (Goto (label 1)))
      ∷ (label 3, block_of None [] [] Return)
      ∷ [];
  span = end_span;
  types_at = [];
}

-- the answer is that of the first function at the parameter
abbrev pub caller : Body
caller = record {
  id = 1;
  owner = codes "g";
  types = [];
  params = 1;
  locals = bool ∷ bool ∷ [];
  names = name 100 ∷ name 101 ∷ [];
  outlives = [];
  calls = [];
  entry = label 0;
  blocks = (label 0, block_of None [] [] (Call (whole 0) (Function (OfBody 0)) [] (Copy (whole 1) ∷ []) (label 1)))
      ∷ (label 1, block_of None [] [] Return)
      ∷ [];
  span = end_span;
  types_at = [];
}

-- the answer is false
abbrev pub is_false : Contract
is_false = record { params = name 10 ∷ []; answer = name 11; pre = []; post = not (var (name 11)) ∷ []; variants = []; spans = end_span ∷ [] }

-- the two functions with one contract for both; where their bodies begin the answer holds nothing
abbrev pub program : Program
program = record {
  bodies = record { bodies = cleared ∷ caller ∷ []; decls = []; impls = []; closures = [] };
  contracts = record { of = is_false ∷ is_false ∷ []; traits = []; closures = []; intrinsics = [] };
  gone = λ n. record { gone = (record { label = label 0; statement = 0 }, whole 0 ∷ []) ∷ [] };
}

-- both are typed and initialised, and they meet the conditions on functions
abbrev pub SampleIsSound : Type 0
SampleIsSound = (labelling : ℕ → Labelling) × AreFunctions program labelling

-- the walk of each function comes to an end, and all of its obligations are true, whatever the declared types are
abbrev pub SampleIsTrue : Type 0
SampleIsTrue = (Θ : Theory) (n : ℕ) (b : Body) (c : Contract) → slice_get program.bodies.bodies n ≡ Some b → slice_get program.contracts.of n ≡ Some c → HasTrueObligations Θ (setting program n b c)

-- so both functions are good, by the law
abbrev pub SampleIsGood : Type 0
SampleIsGood = (Θ : Theory) → Good Θ program.bodies 0 is_false × Good Θ program.bodies 1 is_false
