use Rattle.std.proofs.Common.{◌≡◌, ◌+◌, ◌*◌, ◌++◌, codes, flat_map, take}
use Rattle.logic_term.specs.TyView.{compound_of, ty_size, tys_size, tys_of}
use Rattle.goal_text.specs.SortText.{sort_text}
use Rattle.goal_text.specs.SpellingView.{spelling_of}
use Rattle.goal_text.proofs.sort.+push_sort.Given as goal

abbrev pub decreases-push_sort : goal.decreases-push_sort
decreases-push_sort l = 7 * ty_size l.sort.now + 5

abbrev pub decreases-push_compound : goal.decreases-push_compound
decreases-push_compound l = 7 * ty_size (compound_of l.sort.now) + 4

abbrev pub decreases-push_unary : goal.decreases-push_unary
decreases-push_unary l = 7 * ty_size l.sort.now + 7

abbrev pub decreases-push_argument : goal.decreases-push_argument
decreases-push_argument l = 7 * ty_size l.argument.now + 6

abbrev pub decreases-push_sorts : goal.decreases-push_sorts
decreases-push_sorts l = 7 * tys_size (tys_of l.sorts.now) + 2

abbrev pub decreases-push_arguments : goal.decreases-push_arguments
decreases-push_arguments l = 7 * tys_size (tys_of l.types.now) + 3

abbrev pub decreases-push_listed_sorts : goal.decreases-push_listed_sorts
decreases-push_listed_sorts l = 7 * tys_size (tys_of l.sorts.now) + 1

abbrev pub decreases-push_other_sorts : goal.decreases-push_other_sorts
decreases-push_other_sorts l = 7 * tys_size (tys_of l.others.now)

abbrev pub invariant-push_other_sorts-loop-i : goal.invariant-push_other_sorts-loop-i
invariant-push_other_sorts-loop-i l = l.out.items ≡ l.initial.out.items ++ flat_map (λ t. codes ", " ++ sort_text (spelling_of l.spelling) t) (take l.i l.others)
