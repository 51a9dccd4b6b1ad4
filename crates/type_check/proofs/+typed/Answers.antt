use Rattle.std.proofs.Common.{rules, ◌≡◌, ◌*◌, ◌+◌, arith}
use Rattle.type_check.specs.TypedExprView.{typed_size}
use Rattle.type_check.proofs.Dropped.{args_fall, arms_fall, parts_fall, stmts_fall, stmts_leaving_fall, stmts_with_fall}
use Rattle.type_check.proofs.+typed.Goals as goal

pub typed::TypedExpr::into_left-drop-args-requires : goal.typed::TypedExpr::into_left-drop-args-requires
typed::TypedExpr::into_left-drop-args-requires t c κs =
    let fact = args_fall c.args.self c.self.inside.ty c.self.inside.span c.self.inside.node.value c.into_inner.result c.in-Call.field-0 c.in-Call._args c.self.view_is c.into_inner.ensures c.in-Call.is in
    let measure : 2 * (3 * (typed_size c.args.self + 1) + 0) + 0 ≡ t = c.decreases in
    (((omega (arith, fact, measure), tt), tt), search rules)

pub typed::TypedExpr::into_left-drop-parts-requires : goal.typed::TypedExpr::into_left-drop-parts-requires
typed::TypedExpr::into_left-drop-parts-requires t c κs =
    let fact = parts_fall c.args.self c.self.inside.ty c.self.inside.span c.self.inside.node.value c.into_inner.result c.in-Make.field-0 c.in-Make._parts c.self.view_is c.into_inner.ensures c.in-Make.is in
    let measure : 2 * (3 * (typed_size c.args.self + 1) + 0) + 0 ≡ t = c.decreases in
    (((omega (arith, fact, measure), tt), tt), search rules)

pub typed::TypedExpr::into_left-drop-stmts-requires : goal.typed::TypedExpr::into_left-drop-stmts-requires
typed::TypedExpr::into_left-drop-stmts-requires t c κs =
    let fact = stmts_fall c.args.self c.self.inside.ty c.self.inside.span c.self.inside.node.value c.into_inner.result c.in-Block._stmts c.self.view_is c.into_inner.ensures c.in-Block.is in
    let measure : 2 * (3 * (typed_size c.args.self + 1) + 0) + 0 ≡ t = c.decreases in
    (((omega (arith, fact, measure), tt), tt), search rules)

pub typed::TypedExpr::into_left-drop-stmts-requires-in-BlockWith : goal.typed::TypedExpr::into_left-drop-stmts-requires-in-BlockWith
typed::TypedExpr::into_left-drop-stmts-requires-in-BlockWith t c κs =
    let fact = stmts_with_fall c.args.self c.self.inside.ty c.self.inside.span c.self.inside.node.value c.into_inner.result c.in-BlockWith._stmts c.in-BlockWith._last c.self.view_is c.into_inner.ensures c.in-BlockWith.is in
    let measure : 2 * (3 * (typed_size c.args.self + 1) + 0) + 0 ≡ t = c.decreases in
    (((omega (arith, fact, measure), tt), tt), search rules)

pub typed::TypedExpr::into_left-drop-stmts-requires-in-BlockLeaving : goal.typed::TypedExpr::into_left-drop-stmts-requires-in-BlockLeaving
typed::TypedExpr::into_left-drop-stmts-requires-in-BlockLeaving t c κs =
    let fact = stmts_leaving_fall c.args.self c.self.inside.ty c.self.inside.span c.self.inside.node.value c.into_inner.result c.in-BlockLeaving._stmts c.in-BlockLeaving._last c.self.view_is c.into_inner.ensures c.in-BlockLeaving.is in
    let measure : 2 * (3 * (typed_size c.args.self + 1) + 0) + 0 ≡ t = c.decreases in
    (((omega (arith, fact, measure), tt), tt), search rules)

pub typed::TypedExpr::into_left-drop-arms-requires : goal.typed::TypedExpr::into_left-drop-arms-requires
typed::TypedExpr::into_left-drop-arms-requires t c κs =
    let fact = arms_fall c.args.self c.self.inside.ty c.self.inside.span c.self.inside.node.value c.into_inner.result c.in-Match._value c.in-Match._arms c.self.view_is c.into_inner.ensures c.in-Match.is in
    let measure : 2 * (3 * (typed_size c.args.self + 1) + 0) + 0 ≡ t = c.decreases in
    (((omega (arith, fact, measure), tt), tt), search rules)
