-- What an action makes of the parts of its line, whose tokens are those from `from` to before `to`.
use Rattle.std.specs.Prelude.{ℕ, List}
use Rattle.source_grammar.specs.declared.action.ShapeAction.{ShapeAction}
use Rattle.source_grammar.specs.declared.action.ShapeAction.TheVariants as shapes
use Rattle.source_words.specs.declared.word.Word.{Word}
use Rattle.pearlite.specs.declared.part.Part.{Part}
use Rattle.pearlite.specs.declared.part.Value.{Value}
use Rattle.pearlite.specs.MakeTypes.{named_type_made, reference_type_made, tuple_type_made, self_type_made, named_path_made, qualified_path_made}
use Rattle.pearlite.specs.MakePatterns.{wildcard_made, mut_pattern_made, integer_pattern_made, truth_pattern_made, tuple_pattern_made, path_pattern_made, field_pattern_made}
use Rattle.pearlite.specs.MakeTerms.{term_operation_made, prefix_term_made, view_made, term_member_made, integer_term_made, truth_term_made, answer_term_made, self_term_made, paren_term_made, path_term_made, field_term_made}
use Rattle.pearlite.specs.MakeTerms.{if_term_made, match_term_made, term_arm_made, mut_ref_term_made, predicate_term_made, quantified_made, binder_made}

unfoldable pub shape_made : ShapeAction → List Word → ℕ → ℕ → List Part → Value
shape_made shapes.NamedType words from to parts = named_type_made words from to parts
shape_made shapes.ReferenceType words from to parts = reference_type_made words from to parts
shape_made shapes.TupleType words from to parts = tuple_type_made words from to parts
shape_made shapes.SelfType words from to parts = self_type_made words from to
shape_made shapes.Wildcard words from to parts = wildcard_made words from to
shape_made shapes.MutPattern words from to parts = mut_pattern_made words from to
shape_made shapes.IntegerPattern words from to parts = integer_pattern_made words from to
shape_made shapes.TruthPattern words from to parts = truth_pattern_made words from to
shape_made shapes.TuplePattern words from to parts = tuple_pattern_made words from to parts
shape_made shapes.PathPattern words from to parts = path_pattern_made words from to parts
shape_made shapes.FieldPattern words from to parts = field_pattern_made words from to parts
shape_made shapes.NamedPath words from to parts = named_path_made words from to parts
shape_made shapes.QualifiedPath words from to parts = qualified_path_made words from to parts
shape_made shapes.TermOperation words from to parts = term_operation_made words from parts
shape_made shapes.PrefixTerm words from to parts = prefix_term_made words from to parts
shape_made shapes.View words from to parts = view_made
shape_made shapes.TermMember words from to parts = term_member_made words to parts
shape_made shapes.Quantified words from to parts = quantified_made words from to parts
shape_made shapes.Binder words from to parts = binder_made words from to parts
shape_made shapes.PathTerm words from to parts = path_term_made words from to parts
shape_made shapes.FieldTerm words from to parts = field_term_made words from to parts
shape_made shapes.IntegerTerm words from to parts = integer_term_made words from to
shape_made shapes.TruthTerm words from to parts = truth_term_made words from to
shape_made shapes.AnswerTerm words from to parts = answer_term_made words from to
shape_made shapes.SelfTerm words from to parts = self_term_made words from to
shape_made shapes.ParenTerm words from to parts = paren_term_made words from to parts
shape_made shapes.IfTerm words from to parts = if_term_made words from to parts
shape_made shapes.MatchTerm words from to parts = match_term_made words from to parts
shape_made shapes.TermArm words from to parts = term_arm_made words from to parts
shape_made shapes.MutRefTerm words from to parts = mut_ref_term_made words from to parts
shape_made shapes.PredicateTerm words from to parts = predicate_term_made words from to parts
