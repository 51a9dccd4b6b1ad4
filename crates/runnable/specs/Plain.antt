-- Programs over types that run, which are those that run so far: what is proved of their bodies speaks of them. What is assigned to or matched is no part of a
-- value: so far the machine's bodies write and compare whole locals. Matches are flat, since no other is accepted.
use Rattle.std.specs.Prelude.{◌≡◌, false, List, [], ◌∷◌}
use Rattle.logic_term.specs.declared.declaration.AdtDecl.{AdtDecl}
use Rattle.type_check.specs.declared.program.TypedFunction.{TypedFunction}
use Rattle.type_check.specs.declared.program.TypedProgram.{TypedProgram}
use Rattle.type_check.specs.TypedExpr.{TypedExpr, TypedStmts, TypedExprs, integer, truth, variable, negative, denied, cast, binary, lazy, assign, update, call, make, part, block, branch, choice}
use Rattle.type_check.specs.TypedExpr.{matched, repeat, panics, returned, endless, until_break, break_off, go_on, done, last, leaving, bind, run, none, more, TypedArms, no_arms, with_arm}
use Rattle.runnable.specs.Runs.{Runs, AllRun, is_part}

-- each part is of a type that runs
abbrev mutual
  pub IsPlain : List AdtDecl → TypedExpr → Type 0
  IsPlain ds (integer t s z k) = Runs ds t
  IsPlain ds (truth t s b) = Runs ds t
  IsPlain ds (variable t s x) = Runs ds t
  IsPlain ds (negative t s e) = Runs ds t × IsPlain ds e
  IsPlain ds (denied t s e) = Runs ds t × IsPlain ds e
  IsPlain ds (cast t s e) = Runs ds t × IsPlain ds e
  IsPlain ds (binary t s op a b) = Runs ds t × IsPlain ds a × IsPlain ds b
  IsPlain ds (lazy t s op a b) = Runs ds t × IsPlain ds a × IsPlain ds b
  IsPlain ds (assign t s a e) = Runs ds t × IsPlain ds a × IsPlain ds e × (is_part a ≡ false)
  IsPlain ds (update t s op a e) = Runs ds t × IsPlain ds a × IsPlain ds e × (is_part a ≡ false)
  IsPlain ds (call t s f es) = Runs ds t × ArePlain ds es
  IsPlain ds (make t s c es) = Runs ds t × ArePlain ds es
  IsPlain ds (part t s e n) = Runs ds t × IsPlain ds e
  IsPlain ds (block t s ss) = Runs ds t × StatementsArePlain ds ss
  IsPlain ds (branch t s c a) = Runs ds t × IsPlain ds c × IsPlain ds a
  IsPlain ds (choice t s c a b) = Runs ds t × IsPlain ds c × IsPlain ds a × IsPlain ds b
  IsPlain ds (matched t s e as') = Runs ds t × IsPlain ds e × ArmsArePlain ds as' × (is_part e ≡ false)
  IsPlain ds (repeat t s is c b) = Runs ds t × IsPlain ds c × IsPlain ds b
  IsPlain ds (panics t s k) = Runs ds t
  IsPlain ds (returned t s e) = Runs ds t × IsPlain ds e
  IsPlain ds (endless t s is b) = Runs ds t × IsPlain ds b
  IsPlain ds (until_break t s is b) = Runs ds t × IsPlain ds b
  IsPlain ds (break_off t s) = Runs ds t
  IsPlain ds (go_on t s) = Runs ds t

  pub StatementsArePlain : List AdtDecl → TypedStmts → Type 0
  StatementsArePlain ds done = Unit {0}
  StatementsArePlain ds (last e) = IsPlain ds e
  StatementsArePlain ds (leaving e) = IsPlain ds e
  StatementsArePlain ds (bind e ss) = IsPlain ds e × StatementsArePlain ds ss
  StatementsArePlain ds (run e ss) = IsPlain ds e × StatementsArePlain ds ss

  pub ArePlain : List AdtDecl → TypedExprs → Type 0
  ArePlain ds none = Unit {0}
  ArePlain ds (more e es) = IsPlain ds e × ArePlain ds es

  pub ArmsArePlain : List AdtDecl → TypedArms → Type 0
  ArmsArePlain ds no_arms = Unit {0}
  ArmsArePlain ds (with_arm p xs e as') = IsPlain ds e × ArmsArePlain ds as'

pub record FunctionIsPlain (ds : List AdtDecl) (f : TypedFunction) : Type 0 where
  pub params : AllRun ds f.signature.params
  pub answer : Runs ds f.signature.answer
  pub body : IsPlain ds f.body

abbrev pub EachIsPlain : List AdtDecl → List TypedFunction → Type 0
EachIsPlain ds [] = Unit {0}
EachIsPlain ds (f ∷ fs) = FunctionIsPlain ds f × EachIsPlain ds fs

abbrev pub ProgramIsPlain : List AdtDecl → TypedProgram → Type 0
ProgramIsPlain ds p = EachIsPlain ds p.functions
