use Rattle.std.proofs.Common.{◌∙◌, sym, ◌≡◌, ◌++◌, arith, codes, flat_map}
use Rattle.std.proofs.lemmas.Grind.{common_steps}
use Rattle.std.proofs.lemmas.Result.{on_ok_weaker}
use Rattle.goal_text.specs.SortText.{sort_text}
use Rattle.goal_text.specs.SpellingView.{spelling_of}
use Rattle.goal_text.proofs.Listed.{arguments_from, joined_sorts, sort_texts_count}
use Rattle.goal_text.proofs.sort.+push_sort.Goals as goal

pub push_listed_sorts-returns : goal.push_listed_sorts-returns
push_listed_sorts-returns t c =
    on_ok_weaker {P = c.push_other_sorts.new.out.items ≡ c.push_sort.new.out.items ++ flat_map (λ t. codes ", " ++ sort_text (spelling_of c.args.spelling.now) t) c.in-Some.others.now}
    c.push_other_sorts.result
    (joined_sorts (spelling_of c.args.spelling.now) c.args.out.now.items c.push_sort.new.out.items c.in-Some.first.now c.in-Some.others.now c.args.sorts.now
    c.in-Some.ensures.cases.0 c.in_ok-push_sort.ensures c.push_other_sorts.new.out.items)
    c.push_other_sorts.ensures

pub push_sort-returns-in-Tuple : goal.push_sort-returns-in-Tuple
push_sort-returns-in-Tuple t c = grind (arith, common_steps, sort_texts_count (spelling_of c.args.spelling.now) c.in-Tuple.parts.items)

pub push_arguments-returns : goal.push_arguments-returns
push_arguments-returns t c =
    arguments_from (spelling_of c.args.spelling.now) c.args.types.now c.args.out.now.items c.push_sorts.new.out.items c.push_sorts.result (sym c.is_empty.ensures ∙ c.if-is_empty.false) c.push_sorts.ensures
