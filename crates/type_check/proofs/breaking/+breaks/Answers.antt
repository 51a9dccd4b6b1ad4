use Rattle.std.proofs.Common.{◌≡◌, ◌∙◌, ap, sym, true}
use Rattle.type_check.specs.declared.typed.TypedStmt.{TypedStmt}
use Rattle.type_check.specs.Breaks.{breaks}
use Rattle.type_check.proofs.BreakParts.{break_at}
use Rattle.type_check.proofs.breaking.+breaks.Goals as goal

pub some_statement_breaks-returns-then-breaks : goal.some_statement_breaks-returns-then-breaks
some_statement_breaks-returns-then-breaks t c =
    let found : breaks c.index-stmts-i.result.value ≡ true = ap (λ (s : TypedStmt). breaks s.value) c.index-stmts-i.is ∙ sym c.breaks.ensures ∙ c.if-breaks.true in
    break_at c.args.stmts.now c.loop-i.i c.index-stmts-i.result c.index-stmts-i.is c.loop-i-test.true found c.loop-i.invariant
