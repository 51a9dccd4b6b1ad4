-- Each line of a term has what it asks of its parts: the grammar passes the test, by computation.
use Rattle.std.proofs.Common.{◌≡◌, ℕ, Bool, true, false, List, [], ◌∷◌, map, nat_eq, Some, ◌⊎◌, inl, inr, refl, sym, ◌∙◌, true≢false}
use Rattle.std.specs.Prelude.{unwrap_or}
use Rattle.grammar_tables.specs.First.{is_in, all_of, each_from}
use Rattle.grammar_tables.specs.Trees.{Tree, values}
use Rattle.grammar_tables.specs.declared.symbol.Symbol.TheVariants.{Nonterminal}
use Rattle.grammar_tables.proofs.LL1Test.{or_cases, nat_eq_same}
use Rattle.source_grammar.specs.Actions.{actions, several as severals, action_of, is_for_several}
use Rattle.source_grammar.specs.SourceGrammar.{source_grammar, term_goal}
use Rattle.source_grammar.specs.declared.action.Action.{Action}
use Rattle.source_grammar.specs.declared.action.Action.TheVariants.{Keep, Shape, Code}
use Rattle.source_grammar.specs.declared.action.ShapeAction.{ShapeAction}
use Rattle.source_grammar.specs.declared.action.ShapeAction.TheVariants as shapes
use Rattle.source_grammar.proofs.Listed.{listed}
use Rattle.source_words.specs.declared.word.Word.{Word}
use Rattle.pearlite.specs.declared.part.Part.{Part}
use Rattle.pearlite.specs.declared.part.Value.{Value}
use Rattle.pearlite.specs.MakePatterns.{wildcard_made, mut_pattern_made, integer_pattern_made, truth_pattern_made, tuple_pattern_made, path_pattern_made, field_pattern_made}
use Rattle.pearlite.specs.MakeTerms.{term_operation_made, prefix_term_made, term_member_made, integer_term_made, truth_term_made, answer_term_made, self_term_made, paren_term_made, path_term_made, field_term_made}
use Rattle.pearlite.specs.MakeTerms.{if_term_made, match_term_made, term_arm_made, mut_ref_term_made, predicate_term_made, quantified_made, binder_made}
use Rattle.pearlite.specs.MakeTypes.{named_type_made, reference_type_made, tuple_type_made, self_type_made, named_path_made, qualified_path_made}
use Rattle.pearlite.specs.Meaning.{is_kept, value_made, shape_actions}
use Rattle.pearlite.specs.Parts.{alone}
use Rattle.pearlite.specs.Shapes.{shape_made}
use Rattle.pearlite.specs.Served.{AreThere, IsServed}
use Rattle.pearlite.specs.Asked.{a_type, a_pattern, a_term, family_of, family_in, family_made, asks_of, asks_by, asks_at, IsTermTree, EachPartIsThere, ATermIsThere}
use Rattle.pearlite.proofs.Leaves.{leaves}
use Rattle.pearlite.proofs.Serving.{Kind, kept, made, several, made_by, IsLeft, is_kept_by, is_kept_few, same_made, never_made, is_among_left, leaves_of, is_fit, tree_has_all, tree_served}
use Rattle.pearlite.proofs.SourceLines.{lines_fit}

-- ---- what actions make

-- in parentheses stands one of the family alone, and else it is made
in_parens_made : (parts : List Part) (other : Value) (f : ℕ) → family_of other ≡ f → ((x y z : ℕ) → map family_in parts ≡ x ∷ y ∷ z ∷ [] → is_in (Some y) (f ∷ []) ≡ true) → family_of (unwrap_or (alone parts) other) ≡ f
unfolding alone
in_parens_made [] other f e h = e
in_parens_made (a ∷ []) other f e h = e
in_parens_made (a ∷ b ∷ []) other f e h = e
in_parens_made (a ∷ b ∷ c ∷ []) other f e h = same (or_cases (nat_eq (family_in b) f) false (h (family_in a) (family_in b) (family_in c) refl))
  where
    same : (nat_eq (family_in b) f ≡ true) ⊎ (false ≡ true) → family_in b ≡ f
    same (inl s) = nat_eq_same (family_in b) f s
    same (inr s) = absurd (true≢false (sym s))
in_parens_made (a ∷ b ∷ c ∷ d ∷ parts) other f e h = e

pub made_of_family : (action : ShapeAction) (words : List Word) (from to : ℕ) (parts : List Part) → AreThere (asks_of action) (map family_in parts) → family_of (shape_made action words from to parts) ≡ family_made action
unfolding shape_made wildcard_made mut_pattern_made integer_pattern_made truth_pattern_made tuple_pattern_made path_pattern_made field_pattern_made term_operation_made
    prefix_term_made term_member_made integer_term_made truth_term_made answer_term_made self_term_made paren_term_made path_term_made field_term_made if_term_made match_term_made
    term_arm_made mut_ref_term_made predicate_term_made quantified_made binder_made named_type_made reference_type_made tuple_type_made self_type_made named_path_made
    qualified_path_made
made_of_family shapes.NamedType words from to parts h = refl
made_of_family shapes.ReferenceType words from to parts h = refl
made_of_family shapes.TupleType words from to parts h = in_parens_made parts _ a_type refl h.alone
made_of_family shapes.SelfType words from to parts h = refl
made_of_family shapes.Wildcard words from to parts h = refl
made_of_family shapes.MutPattern words from to parts h = refl
made_of_family shapes.IntegerPattern words from to parts h = refl
made_of_family shapes.TruthPattern words from to parts h = refl
made_of_family shapes.TuplePattern words from to parts h = in_parens_made parts _ a_pattern refl h.alone
made_of_family shapes.PathPattern words from to parts h = refl
made_of_family shapes.FieldPattern words from to parts h = refl
made_of_family shapes.NamedPath words from to parts h = refl
made_of_family shapes.QualifiedPath words from to parts h = refl
made_of_family shapes.TermOperation words from to parts h = refl
made_of_family shapes.PrefixTerm words from to parts h = refl
made_of_family shapes.View words from to parts h = refl
made_of_family shapes.TermMember words from to parts h = refl
made_of_family shapes.Quantified words from to parts h = refl
made_of_family shapes.Binder words from to parts h = refl
made_of_family shapes.PathTerm words from to parts h = refl
made_of_family shapes.FieldTerm words from to parts h = refl
made_of_family shapes.IntegerTerm words from to parts h = refl
made_of_family shapes.TruthTerm words from to parts h = refl
made_of_family shapes.AnswerTerm words from to parts h = refl
made_of_family shapes.SelfTerm words from to parts h = refl
made_of_family shapes.ParenTerm words from to parts h = in_parens_made parts _ a_term refl h.alone
made_of_family shapes.IfTerm words from to parts h = refl
made_of_family shapes.MatchTerm words from to parts h = refl
made_of_family shapes.TermArm words from to parts h = refl
made_of_family shapes.MutRefTerm words from to parts h = refl
made_of_family shapes.PredicateTerm words from to parts h = refl

-- ---- lines

abbrev kind_by : Action → Bool → Kind
kind_by (Shape action) many = made_by (family_made action) many
kind_by Keep many = kept
kind_by (Code action) many = kept

abbrev kind_at : ℕ → Kind
kind_at n = kind_by (action_of n) (is_for_several n)

keeps : (action : Action) (many : Bool) (count : ℕ) → is_kept action many count ≡ is_kept_by (kind_by action many) count
keeps (Shape action) many count = is_kept_few (family_made action) many count
keeps Keep many count = refl
keeps (Code action) many count = refl

makes : (action : Action) (many : Bool) (words : List Word) (from to f : ℕ) (parts : List Part) → (kind_by action many ≡ made f) ⊎ (kind_by action many ≡ several f) → AreThere (asks_by action) (map family_in parts)
    → family_of (value_made action words from to parts) ≡ f
makes (Shape action) many words from to f parts k h = made_of_family action words from to parts h ∙ same_made many f (family_made action) k
makes Keep many words from to f parts k h = absurd (never_made _ f refl k)
makes (Code action) many words from to f parts k h = absurd (never_made _ f refl k)

passes : each_from (λ n alts. all_of (is_fit asks_at kind_at leaves n) alts) 0 listed ≡ true
unfolding listed actions severals leaves
passes = refl

fits : (n r : ℕ) → source_grammar.has n r ≡ true → is_fit asks_at kind_at leaves n (source_grammar.body n r) ≡ true
fits = lines_fit asks_at kind_at leaves passes

-- ---- the laws

term_served : (words : List Word) (tree : Tree) → IsTermTree tree → IsServed (shape_actions words) family_in asks_at 0 tree × IsLeft (leaves_of asks_at kind_at leaves (Nonterminal term_goal)) (map family_in (values (shape_actions words) 0 tree))
term_served words tree is =
    tree_served source_grammar (shape_actions words) family_in asks_at kind_at leaves (λ k at. refl) (λ n r count. keeps (action_of n) (is_for_several n) count)
    (λ n r from to f parts k h. makes (action_of n) (is_for_several n) words from to f parts k h) fits (Nonterminal term_goal) tree 0 is.is_tree (tree_has_all source_grammar term_goal tree is.kinds is.is_tree is.derives)

pub each_part_is_there : EachPartIsThere
each_part_is_there words tree is = (term_served words tree is).0

pub a_term_is_there : ATermIsThere
unfolding leaves actions severals
a_term_is_there words tree is = is_among_left ((a_term ∷ []) ∷ []) refl (term_served words tree is).1
