use Rattle.std.proofs.Common.{rules, ◌≡◌, ◌*◌, ◌+◌, arith}
use Rattle.source_trees.specs.PtermView.{pterm_size}
use Rattle.source_trees.proofs.TermDrops.{call_falls, literal_falls, match_falls, method_falls, predicate_falls, tuple_falls}
use Rattle.source_trees.proofs.+pterm.Goals as goal

pub pterm::Pterm::into_left-drop-arguments-requires : goal.pterm::Pterm::into_left-drop-arguments-requires
pterm::Pterm::into_left-drop-arguments-requires t c κs =
    let fact = method_falls c.args.self c.self.inside.span c.self.inside.node.value c.into_inner.result c.in-Method.left c.in-Method.field-1 c.in-Method._arguments c.self.view_is c.into_inner.ensures c.in-Method.is in
    let measure : 2 * (3 * (pterm_size c.args.self + 1) + 0) + 0 ≡ t = c.decreases in
    (((omega (arith, fact, measure), tt), tt), search rules)

pub pterm::Pterm::into_left-drop-arguments-requires-in-Call : goal.pterm::Pterm::into_left-drop-arguments-requires-in-Call
pterm::Pterm::into_left-drop-arguments-requires-in-Call t c κs =
    let fact = call_falls c.args.self c.self.inside.span c.self.inside.node.value c.into_inner.result c.in-Call._path c.in-Call._arguments c.self.view_is c.into_inner.ensures c.in-Call.is in
    let measure : 2 * (3 * (pterm_size c.args.self + 1) + 0) + 0 ≡ t = c.decreases in
    (((omega (arith, fact, measure), tt), tt), search rules)

pub pterm::Pterm::into_left-drop-fields-requires : goal.pterm::Pterm::into_left-drop-fields-requires
pterm::Pterm::into_left-drop-fields-requires t c κs =
    let fact = literal_falls c.args.self c.self.inside.span c.self.inside.node.value c.into_inner.result c.in-Literal._path c.in-Literal._fields c.self.view_is c.into_inner.ensures c.in-Literal.is in
    let measure : 2 * (3 * (pterm_size c.args.self + 1) + 0) + 0 ≡ t = c.decreases in
    (((omega (arith, fact, measure), tt), tt), search rules)

pub pterm::Pterm::into_left-drop-parts-requires : goal.pterm::Pterm::into_left-drop-parts-requires
pterm::Pterm::into_left-drop-parts-requires t c κs =
    let fact = tuple_falls c.args.self c.self.inside.span c.self.inside.node.value c.into_inner.result c.in-Tuple._parts c.self.view_is c.into_inner.ensures c.in-Tuple.is in
    let measure : 2 * (3 * (pterm_size c.args.self + 1) + 0) + 0 ≡ t = c.decreases in
    (((omega (arith, fact, measure), tt), tt), search rules)

pub pterm::Pterm::into_left-drop-arms-requires : goal.pterm::Pterm::into_left-drop-arms-requires
pterm::Pterm::into_left-drop-arms-requires t c κs =
    let fact = match_falls c.args.self c.self.inside.span c.self.inside.node.value c.into_inner.result c.in-Match._value c.in-Match._arms c.self.view_is c.into_inner.ensures c.in-Match.is in
    let measure : 2 * (3 * (pterm_size c.args.self + 1) + 0) + 0 ≡ t = c.decreases in
    (((omega (arith, fact, measure), tt), tt), search rules)

pub pterm::Pterm::into_left-drop-arguments-requires-in-Predicate : goal.pterm::Pterm::into_left-drop-arguments-requires-in-Predicate
pterm::Pterm::into_left-drop-arguments-requires-in-Predicate t c κs =
    let fact = predicate_falls c.args.self c.self.inside.span c.self.inside.node.value c.into_inner.result c.in-Predicate.field-0 c.in-Predicate._arguments c.self.view_is c.into_inner.ensures c.in-Predicate.is in
    let measure : 2 * (3 * (pterm_size c.args.self + 1) + 0) + 0 ≡ t = c.decreases in
    (((omega (arith, fact, measure), tt), tt), search rules)
