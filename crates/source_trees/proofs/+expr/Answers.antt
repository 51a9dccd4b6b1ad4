use Rattle.std.proofs.Common.{rules, ◌≡◌, ◌*◌, ◌+◌, arith}
use Rattle.source_trees.specs.ExprView.{expr_size}
use Rattle.source_trees.proofs.ExprDrops.{block_falls, block_with_falls, call_falls, literal_falls, match_falls, method_falls, tuple_falls}
use Rattle.source_trees.proofs.+expr.Goals as goal

pub expr::Expr::into_left-drop-arguments-requires : goal.expr::Expr::into_left-drop-arguments-requires
expr::Expr::into_left-drop-arguments-requires t c κs =
    let fact = method_falls c.args.self c.self.inside.span c.self.inside.node.value c.into_inner.result c.in-Method.left c.in-Method.field-1 c.in-Method._types c.in-Method._arguments c.self.view_is c.into_inner.ensures c.in-Method.is in
    let measure : 2 * (3 * (expr_size c.args.self + 1) + 0) + 0 ≡ t = c.decreases in
    (((omega (arith, fact, measure), tt), tt), search rules)

pub expr::Expr::into_left-drop-arguments-requires-in-Call : goal.expr::Expr::into_left-drop-arguments-requires-in-Call
expr::Expr::into_left-drop-arguments-requires-in-Call t c κs =
    let fact = call_falls c.args.self c.self.inside.span c.self.inside.node.value c.into_inner.result c.in-Call.left c.in-Call._arguments c.self.view_is c.into_inner.ensures c.in-Call.is in
    let measure : 2 * (3 * (expr_size c.args.self + 1) + 0) + 0 ≡ t = c.decreases in
    (((omega (arith, fact, measure), tt), tt), search rules)

pub expr::Expr::into_left-drop-fields-requires : goal.expr::Expr::into_left-drop-fields-requires
expr::Expr::into_left-drop-fields-requires t c κs =
    let fact = literal_falls c.args.self c.self.inside.span c.self.inside.node.value c.into_inner.result c.in-Literal._path c.in-Literal._fields c.self.view_is c.into_inner.ensures c.in-Literal.is in
    let measure : 2 * (3 * (expr_size c.args.self + 1) + 0) + 0 ≡ t = c.decreases in
    (((omega (arith, fact, measure), tt), tt), search rules)

pub expr::Expr::into_left-drop-parts-requires : goal.expr::Expr::into_left-drop-parts-requires
expr::Expr::into_left-drop-parts-requires t c κs =
    let fact = tuple_falls c.args.self c.self.inside.span c.self.inside.node.value c.into_inner.result c.in-Tuple._parts c.self.view_is c.into_inner.ensures c.in-Tuple.is in
    let measure : 2 * (3 * (expr_size c.args.self + 1) + 0) + 0 ≡ t = c.decreases in
    (((omega (arith, fact, measure), tt), tt), search rules)

pub expr::Expr::into_left-drop-statements-requires : goal.expr::Expr::into_left-drop-statements-requires
expr::Expr::into_left-drop-statements-requires t c κs =
    let fact = block_falls c.args.self c.self.inside.span c.self.inside.node.value c.into_inner.result c.in-Block._statements c.self.view_is c.into_inner.ensures c.in-Block.is in
    let measure : 2 * (3 * (expr_size c.args.self + 1) + 0) + 0 ≡ t = c.decreases in
    (((omega (arith, fact, measure), tt), tt), search rules)

pub expr::Expr::into_left-drop-statements-requires-in-BlockWith : goal.expr::Expr::into_left-drop-statements-requires-in-BlockWith
expr::Expr::into_left-drop-statements-requires-in-BlockWith t c κs =
    let fact = block_with_falls c.args.self c.self.inside.span c.self.inside.node.value c.into_inner.result c.in-BlockWith._statements c.in-BlockWith._last c.self.view_is c.into_inner.ensures c.in-BlockWith.is in
    let measure : 2 * (3 * (expr_size c.args.self + 1) + 0) + 0 ≡ t = c.decreases in
    (((omega (arith, fact, measure), tt), tt), search rules)

pub expr::Expr::into_left-drop-arms-requires : goal.expr::Expr::into_left-drop-arms-requires
expr::Expr::into_left-drop-arms-requires t c κs =
    let fact = match_falls c.args.self c.self.inside.span c.self.inside.node.value c.into_inner.result c.in-Match._value c.in-Match._arms c.self.view_is c.into_inner.ensures c.in-Match.is in
    let measure : 2 * (3 * (expr_size c.args.self + 1) + 0) + 0 ≡ t = c.decreases in
    (((omega (arith, fact, measure), tt), tt), search rules)
