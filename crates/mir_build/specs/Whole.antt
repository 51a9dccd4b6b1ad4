-- What is built of a whole function, and how a pass over a program fails.
use Rattle.std.specs.Prelude.{◌≡◌, ℕ, ◌+◌, ◌≤◌, List, [], ◌∷◌, ◌++◌, length, map}
use Rattle.std.specs.List.{All}
use Rattle.text_core.specs.declared.refusal.Limit.{Limit}
use Rattle.text_core.specs.declared.refusal.LimitKind.TheVariants.{Blocks}
use Rattle.text_core.specs.declared.fault.PassError.{PassError}
use Rattle.text_core.specs.declared.fault.PassError.TheVariants as errors
use Rattle.logic_term.specs.declared.declaration.AdtDecl.{AdtDecl}
use Rattle.logic_term.specs.declared.obligation.Contract.{Contract}
use Rattle.mir_ir.specs.declared.body.Body.{Body}
use Rattle.mir_ir.specs.declared.terminator.TerminatorKind.TheVariants.{Return}
use Rattle.type_check.specs.declared.program.ClauseKind.TheVariants.{Requires, Ensures}
use Rattle.type_check.specs.declared.program.Signature.{Signature}
use Rattle.type_check.specs.declared.program.TypedFunction.{TypedFunction}
use Rattle.type_check.specs.TypedExprView.{span_of}
use Rattle.mir_build.specs.declared.builder.BodyText.{BodyText}
use Rattle.mir_build.specs.Text.{Line}
use Rattle.mir_build.specs.Lowering.{around_body, entry_title, calls_of, counted, local_name, ends, formulas_of, contract_over}
use Rattle.mir_build.specs.Numbered.{body_text, label, formula_of}
use Rattle.mir_build.specs.Built.{written, started, ended}
use Rattle.mir_ir.specs.declared.body.Bodies.{Bodies}

-- the text of a function's body, where these types are declared
abbrev pub text_of_body : List AdtDecl → TypedFunction → List Line
text_of_body ds f = body_text f.body (around_body ds f) 1 (1 + length f.signature.params)

abbrev pub built : List AdtDecl → TypedFunction → BodyText
built ds f = written (text_of_body ds f) (started (entry_title (label 0)) (f.signature.answer ∷ f.signature.params))

-- the body of what is built
abbrev pub body_of : List Signature → ℕ → List ℕ → TypedFunction → BodyText → Body
body_of σ id owner f x = record {
  id = id;
  owner = owner;
  types = [];
  params = length f.signature.params;
  locals = x.locals;
  names = map local_name (counted 0 x.locals);
  outlives = [];
  calls = calls_of σ (x.blocks ++ ended x.front (ends (span_of f.body) Return));
  entry = label 0;
  blocks = x.blocks ++ ended x.front (ends (span_of f.body) Return);
  span = f.span;
  types_at = f.types_at;
}

abbrev pub contract_of : TypedFunction → Contract
contract_of f = contract_over f (map formula_of (formulas_of Requires f.clauses)) (map formula_of (formulas_of Ensures f.clauses))

abbrev pub HaveFewBlocks : Bodies → Type 0
HaveFewBlocks bs = All (λ (b : Body). length b.blocks ≤ 4096) bs.bodies

abbrev pub too_many_blocks : Limit
too_many_blocks = record { kind = Blocks; counted = 4097; bound = 4096 }

-- memory is wanting, or there are too many blocks, for this reason; the source is not refused
abbrev pub FailsFor : Type 0 → PassError → Type 0
FailsFor reason errors.NoMemory = Unit {0}
FailsFor reason (errors.Limit l) = (l ≡ too_many_blocks) × reason
FailsFor reason (errors.Source e) = ⊥
