-- The semantic actions of terms that stand alone, with the words of the source at hand.
use Rattle.std.specs.Prelude.{ℕ, ◌+◌, ◌&&◌, Bool, true, nat_lt, List, Some}
use Rattle.grammar_tables.specs.Trees.{SemanticActions}
use Rattle.source_grammar.specs.Actions.{action_of, is_for_several}
use Rattle.source_grammar.specs.declared.action.Action.{Action}
use Rattle.source_grammar.specs.declared.action.Action.TheVariants.{Keep, Shape, Code}
use Rattle.source_words.specs.declared.word.Word.{Word}
use Rattle.pearlite.specs.declared.part.Part.{Part}
use Rattle.pearlite.specs.declared.part.Value.{Value}
use Rattle.pearlite.specs.declared.part.Value.TheVariants as V
use Rattle.pearlite.specs.Shapes.{shape_made}

-- a line is made into nothing where it names no action of shapes, or one for several parts and has fewer
abbrev pub is_kept : Action → Bool → ℕ → Bool
is_kept (Shape action) several count = several && nat_lt count 2
is_kept Keep several count = true
is_kept (Code action) several count = true

abbrev pub value_made : Action → List Word → ℕ → ℕ → List Part → Value
value_made (Shape action) words from to parts = shape_made action words from to parts
value_made Keep words from to parts = V.Passed
value_made (Code action) words from to parts = V.Passed

-- each token is a part, and so is what an action makes
abbrev pub shape_actions : List Word → SemanticActions Part
shape_actions words = record {
  leaf = λ terminal place. Some (record { value = V.Token; from = place; to = place + 1 });
  keeps = λ line alternative count. is_kept (action_of line) (is_for_several line) count;
  action = λ line alternative from to parts. record { value = value_made (action_of line) words from to parts; from = from; to = to };
}
