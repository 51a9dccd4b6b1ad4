-- The grammar passes the tests, by computation.
use Rattle.std.specs.Prelude.{◌≡◌, ℕ, true, get_or}
use Rattle.std.proofs.Common.{refl}
use Rattle.grammar_tables.specs.declared.symbol.Mark.TheVariants.{Plain}
use Rattle.grammar_tables.specs.Ebnf.{expanded, marked}
use Rattle.grammar_tables.specs.LL1.{IsLL1, IsPlanned, HasPlan}
use Rattle.grammar_tables.specs.First.{first_step, first_sets, depth_of, grammar_with, each_from, is_ll1}
use Rattle.grammar_tables.specs.PlanTest.{plan_of, is_planned}
use Rattle.grammar_tables.proofs.LL1Test.{is_ll1_grammar}
use Rattle.grammar_tables.proofs.PlanTest.{plans}
use Rattle.source_grammar.specs.Classes.{classes}
use Rattle.source_grammar.specs.SourceGrammar.{lines, steps, source_grammar, source_marks, source_goal, term_goal}
use Rattle.source_grammar.proofs.Listed.{class_lists, marks, listed}
use Rattle.source_grammar.proofs.Firsts.{firsts, depths}
use Rattle.source_grammar.proofs.Plans.{plan}

pub are_classes : classes ≡ class_lists
unfolding classes class_lists
are_classes = refl

is_listed : expanded lines ≡ listed
unfolding lines listed
is_listed = refl

are_marks : marked lines ≡ marks
unfolding lines marks
are_marks = refl

are_first : first_sets class_lists steps listed ≡ firsts
unfolding class_lists listed firsts
are_first = refl

pub is_fixed : first_step class_lists listed firsts ≡ firsts
unfolding class_lists listed firsts
is_fixed = refl

pub passes_ll1 : each_from (is_ll1 firsts depths listed) 0 listed ≡ true
unfolding listed firsts depths
passes_ll1 = refl

passes_plan : each_from (is_planned firsts listed plan) 0 listed ≡ true
unfolding listed firsts plan class_lists
passes_plan = refl

pub is_source : source_grammar ≡ grammar_with class_lists firsts listed
unfolding source_grammar
is_source = rw (is_listed, are_classes, are_first) refl

pub source_marks_at : (n : ℕ) → source_marks n ≡ get_or marks n Plain
unfolding source_marks
source_marks_at n = rw are_marks refl

pub source_is_ll1 : IsLL1 source_grammar (depth_of depths)
source_is_ll1 = rw is_source (is_ll1_grammar class_lists firsts listed depths is_fixed passes_ll1)

pub source_is_planned : IsPlanned source_grammar (plan_of plan)
unfolding plan
source_is_planned = rw is_source (plans firsts listed depths plan is_fixed passes_ll1 passes_plan)

pub source_has_plan : HasPlan source_grammar (plan_of plan) source_goal
unfolding grammar_with listed plan
source_has_plan = rw is_source there
  where
    there : HasPlan (grammar_with class_lists firsts listed) (plan_of plan) source_goal
    there = refl

pub term_has_plan : HasPlan source_grammar (plan_of plan) term_goal
unfolding grammar_with listed plan
term_has_plan = rw is_source there
  where
    there : HasPlan (grammar_with class_lists firsts listed) (plan_of plan) term_goal
    there = refl
