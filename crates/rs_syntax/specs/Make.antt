-- What a token and each line of the grammar are made into. A line with an action is made of its parts, which are its tokens and what the lines in it are made into; all other lines are kept: their parts stand among those of the line around them.
use Rattle.std.specs.Prelude.{ℕ, suc, Bool, true, ◌&&◌, nat_lt, List, Some}
use Rattle.grammar_tables.specs.Trees.{SemanticActions}
use Rattle.source_grammar.specs.Actions.{action_of, is_for_several}
use Rattle.source_grammar.specs.declared.action.Action.{Action}
use Rattle.source_grammar.specs.declared.action.Action.TheVariants as actions
use Rattle.source_grammar.specs.declared.action.CodeAction.{CodeAction}
use Rattle.source_grammar.specs.declared.action.CodeAction.TheVariants as codes
use Rattle.source_words.specs.declared.word.Word.{Word}
use Rattle.pearlite.specs.declared.part.Value.TheVariants as S
use Rattle.pearlite.specs.Shapes.{shape_made}
use Rattle.source_trees.specs.declared.item.ItemNode.TheVariants as I
use Rattle.rs_syntax.specs.declared.part.Part.{Part}
use Rattle.rs_syntax.specs.declared.part.Value.{Value}
use Rattle.rs_syntax.specs.declared.part.Value.TheVariants as V
use Rattle.rs_syntax.specs.MakeAttributes.{clause_made, derive_made}
use Rattle.rs_syntax.specs.MakeExpressions as expressions
use Rattle.rs_syntax.specs.MakeExpressions.{arguments_made, attributed_made, break_made, closure_made, continue_made, ghost_made, integer_made, member_made, panic_made, parens_made, path_made, prefix_made, return_made, self_made, truth_made}
use Rattle.rs_syntax.specs.MakeFields.{field_made, tuple_field_made, variant_made, struct_made, enum_made}
use Rattle.rs_syntax.specs.MakeFunctions.{function_made, trait_made, impl_made, impl_head_made, view_type_made, shape_parts}
use Rattle.rs_syntax.specs.MakeGenerics.{generics_made, lifetime_param_made, type_param_made, where_made, type_condition_made, lifetime_condition_made, trait_bound_made, call_bound_made}
use Rattle.rs_syntax.specs.MakeGenerics.{named_param_made, mut_named_param_made, mut_receiver_made, receiver_param_made, borrowed_param_made}
use Rattle.rs_syntax.specs.MakeItems.{item_made, method_made}
use Rattle.rs_syntax.specs.MakeOperators.{assignment_made, operation_made}
use Rattle.rs_syntax.specs.MakeStatements.{block_made, blocklike_made, forever_made, if_made, let_condition_made, let_made, match_made, while_made}

-- expressions and statements
unfoldable pub expr_made : CodeAction → List Word → ℕ → ℕ → List Part → Value
expr_made codes.Block words from to parts = block_made words from to parts
expr_made codes.Blocklike words from to parts = blocklike_made words to parts
expr_made codes.Let words from to parts = let_made words from to parts
expr_made codes.If words from to parts = if_made words from to parts
expr_made codes.Match words from to parts = match_made words from to parts
expr_made codes.While words from to parts = while_made words from to parts
expr_made codes.Forever words from to parts = forever_made words from to parts
expr_made codes.LetCondition words from to parts = let_condition_made parts
expr_made codes.Assignment words from to parts = assignment_made words to parts
expr_made codes.Operation words from to parts = operation_made words from parts
expr_made codes.Prefix words from to parts = prefix_made words from to parts
expr_made codes.Member words from to parts = member_made words from parts
expr_made codes.Arguments words from to parts = arguments_made parts
expr_made codes.Attributed words from to parts = attributed_made words parts
expr_made codes.Return words from to parts = return_made words from to parts
expr_made codes.IntegerExpr words from to parts = integer_made words from to
expr_made codes.TruthExpr words from to parts = truth_made words from to
expr_made codes.SelfExpr words from to parts = self_made words from to
expr_made codes.ParenExpr words from to parts = parens_made words from to parts
expr_made codes.Break words from to parts = break_made words from to
expr_made codes.Continue words from to parts = continue_made words from to
expr_made codes.PanicCall words from to parts = panic_made words from to
expr_made codes.GhostCall words from to parts = ghost_made words from to parts
expr_made codes.PathExpr words from to parts = path_made words from to parts
expr_made codes.FieldExpr words from to parts = expressions.field_made words from to parts
expr_made codes.Closure words from to parts = closure_made words from to parts
expr_made _ words from to parts = V.Shape S.Passed

-- items and their parts, and those
unfoldable pub code_made : CodeAction → List Word → ℕ → ℕ → List Part → Value
code_made codes.Passed words from to parts = V.Shape S.Passed
code_made codes.Item words from to parts = item_made words from to parts
code_made codes.Clause words from to parts = clause_made words from parts
code_made codes.Derive words from to parts = derive_made words parts
code_made codes.Use words from to parts = V.ItemNode I.Use
code_made codes.ExternCrate words from to parts = V.ItemNode I.ExternCrate
code_made codes.Function words from to parts = function_made words from parts
code_made codes.Generics words from to parts = generics_made parts
code_made codes.LifetimeParam words from to parts = lifetime_param_made words from to
code_made codes.TypeParam words from to parts = type_param_made words from to parts
code_made codes.Where words from to parts = where_made parts
code_made codes.TypeCondition words from to parts = type_condition_made words from to parts
code_made codes.LifetimeCondition words from to parts = lifetime_condition_made words from to
code_made codes.TraitBound words from to parts = trait_bound_made words from to
code_made codes.CallBound words from to parts = call_bound_made words from to parts
code_made codes.NamedParam words from to parts = named_param_made words from to parts
code_made codes.MutNamedParam words from to parts = mut_named_param_made words from to parts
code_made codes.MutReceiver words from to parts = mut_receiver_made words from to
code_made codes.ReceiverParam words from to parts = receiver_param_made words from to
code_made codes.BorrowedParam words from to parts = borrowed_param_made words from to
code_made codes.Struct words from to parts = struct_made words from to parts
code_made codes.Field words from to parts = field_made words from to parts
code_made codes.TupleField words from to parts = tuple_field_made words from to parts
code_made codes.Enum words from to parts = enum_made words from parts
code_made codes.Variant words from to parts = variant_made words from to parts
code_made codes.Trait words from to parts = trait_made words from parts
code_made codes.Method words from to parts = method_made words from to parts
code_made codes.Impl words from to parts = impl_made words parts
code_made codes.ImplHead words from to parts = impl_head_made words from to parts
code_made codes.ViewType words from to parts = view_type_made words from to parts
code_made action words from to parts = expr_made action words from to parts

abbrev pub value_made : Action → List Word → ℕ → ℕ → List Part → Value
value_made actions.Keep words from to parts = V.Shape S.Passed
value_made (actions.Shape action) words from to parts = V.Shape (shape_made action words from to (shape_parts parts))
value_made (actions.Code action) words from to parts = code_made action words from to parts

-- some lines are kept only where they have one part
abbrev pub is_kept : Action → Bool → ℕ → Bool
is_kept actions.Keep several count = true
is_kept (actions.Shape action) several count = several && nat_lt count 2
is_kept (actions.Code action) several count = several && nat_lt count 2

-- what is made of a source of these words; each token is a part
abbrev pub trees : List Word → SemanticActions Part
trees words = record {
  leaf = λ terminal position. Some (record { value = V.Shape S.Token; from = position; to = suc position });
  keeps = λ nonterminal alternative count. is_kept (action_of nonterminal) (is_for_several nonterminal) count;
  action = λ nonterminal alternative from to parts. record { value = value_made (action_of nonterminal) words from to parts; from = from; to = to };
}
