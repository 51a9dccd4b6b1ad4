-- Each line of a source has what it asks of its parts: the grammar passes the test, by computation.
use Rattle.std.proofs.Common.{◌≡◌, ℕ, Bool, true, List, [], ◌∷◌, map, ◌⊎◌, refl, ◌∙◌}
use Rattle.grammar_tables.specs.First.{all_of, each_from}
use Rattle.grammar_tables.specs.Trees.{Tree, values}
use Rattle.grammar_tables.specs.declared.symbol.Symbol.TheVariants.{Nonterminal}
use Rattle.source_grammar.specs.Actions.{actions, several as severals, action_of, is_for_several}
use Rattle.source_grammar.specs.SourceGrammar.{source_grammar, source_goal}
use Rattle.source_grammar.specs.declared.action.Action.{Action}
use Rattle.source_grammar.specs.declared.action.Action.TheVariants.{Keep, Shape, Code}
use Rattle.source_grammar.proofs.Listed.{listed}
use Rattle.source_words.specs.declared.word.Word.{Word}
use Rattle.pearlite.specs.Asked.{a_token, passed_over}
use Rattle.pearlite.specs.Served.{AreThere, IsServed}
use Rattle.pearlite.proofs.Serving.{Kind, kept, made, several, made_by, IsLeft, is_kept_by, is_kept_few, same_made, never_made, all_within, leaves_of, is_fit, tree_has_all, tree_served}
use Rattle.pearlite.proofs.SourceLines.{lines_fit}
use Rattle.rs_syntax.specs.declared.part.Part.{Part}
use Rattle.rs_syntax.specs.Asked.{an_item, family_of, family_in, asks_by, asks_at, family_by, IsSourceTree, EachPartIsThere, ItemsAreThere}
use Rattle.rs_syntax.specs.Make.{is_kept, value_made, trees}
use Rattle.rs_syntax.proofs.Leaves.{leaves}
use Rattle.rs_syntax.proofs.Making.{each_line_is_made}

-- ---- lines

abbrev kind_by : Action → Bool → Kind
kind_by Keep many = kept
kind_by (Shape action) many = made_by (family_by (Shape action)) many
kind_by (Code action) many = made_by (family_by (Code action)) many

abbrev kind_at : ℕ → Kind
kind_at n = kind_by (action_of n) (is_for_several n)

keeps : (action : Action) (many : Bool) (count : ℕ) → is_kept action many count ≡ is_kept_by (kind_by action many) count
keeps Keep many count = refl
keeps (Shape action) many count = is_kept_few (family_by (Shape action)) many count
keeps (Code action) many count = is_kept_few (family_by (Code action)) many count

makes : (action : Action) (many : Bool) (words : List Word) (from to f : ℕ) (parts : List Part) → (kind_by action many ≡ made f) ⊎ (kind_by action many ≡ several f) → AreThere (asks_by action) (map family_in parts)
    → family_of (value_made action words from to parts) ≡ f
makes Keep many words from to f parts k h = absurd (never_made _ f refl k)
makes (Shape action) many words from to f parts k h = each_line_is_made (Shape action) words from to parts h ∙ same_made many f (family_by (Shape action)) k
makes (Code action) many words from to f parts k h = each_line_is_made (Code action) words from to parts h ∙ same_made many f (family_by (Code action)) k

passes : each_from (λ n alts. all_of (is_fit asks_at kind_at leaves n) alts) 0 listed ≡ true
unfolding listed actions severals leaves
passes = refl

fits : (n r : ℕ) → source_grammar.has n r ≡ true → is_fit asks_at kind_at leaves n (source_grammar.body n r) ≡ true
fits = lines_fit asks_at kind_at leaves passes

-- ---- the laws

source_served : (words : List Word) (tree : Tree) → IsSourceTree tree → IsServed (trees words) family_in asks_at 0 tree × IsLeft (leaves_of asks_at kind_at leaves (Nonterminal source_goal)) (map family_in (values (trees words) 0 tree))
source_served words tree is =
    tree_served source_grammar (trees words) family_in asks_at kind_at leaves (λ k at. refl) (λ n r count. keeps (action_of n) (is_for_several n) count)
    (λ n r from to f parts k h. makes (action_of n) (is_for_several n) words from to f parts k h) fits (Nonterminal source_goal) tree 0 is.is_tree (tree_has_all source_grammar source_goal tree is.kinds is.is_tree is.derives)

pub each_part_is_there : EachPartIsThere
each_part_is_there words tree is = (source_served words tree is).0

pub items_are_there : ItemsAreThere
unfolding leaves actions severals
items_are_there words tree is =
    all_within (leaves_of asks_at kind_at leaves (Nonterminal source_goal)).only (a_token ∷ passed_over ∷ an_item ∷ []) (map family_in (values (trees words) 0 tree)) refl (source_served words tree is).1.only
