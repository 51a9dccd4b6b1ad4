-- What is made of the parts of each line, by the numbers of the lines. Made by `python3 tools/grammar.py` of tools/source.ebnf.
use Rattle.std.specs.Prelude.{ℕ, Bool, true, false, List, [], ◌∷◌, get_or}
use Rattle.source_grammar.specs.declared.action.Action.{Action}
use Rattle.source_grammar.specs.declared.action.Action.TheVariants.{Keep, Shape, Code}
use Rattle.source_grammar.specs.declared.action.ShapeAction.TheVariants as shapes
use Rattle.source_grammar.specs.declared.action.CodeAction.TheVariants as codes

unfoldable pub actions : List Action
actions =
    Keep ∷ Keep ∷ Keep ∷ Code codes.Passed ∷ Code codes.Item ∷ Code codes.Item ∷ Code codes.Item ∷ Keep ∷ Keep ∷ Keep ∷ Keep ∷ Keep ∷ Keep ∷ Keep ∷ Keep ∷ Keep ∷ Keep ∷ Keep ∷ Keep ∷ Code codes.Clause
    ∷ Code codes.Derive ∷ Keep ∷ Code codes.Use ∷ Code codes.ExternCrate ∷ Code codes.Function ∷ Keep ∷ Keep ∷ Code codes.Generics ∷ Keep ∷ Code codes.LifetimeParam ∷ Code codes.TypeParam ∷ Code
    codes.Where ∷ Keep ∷ Keep ∷ Code codes.TypeCondition ∷ Code codes.LifetimeCondition ∷ Keep ∷ Keep ∷ Code codes.TraitBound ∷ Code codes.CallBound ∷ Keep ∷ Keep ∷ Code codes.NamedParam ∷ Keep ∷ Code
    codes.MutNamedParam ∷ Code codes.MutReceiver ∷ Code codes.ReceiverParam ∷ Code codes.BorrowedParam ∷ Code codes.Struct ∷ Keep ∷ Keep ∷ Code codes.Field ∷ Code codes.TupleField ∷ Code codes.Enum ∷
    Code codes.Variant ∷ Keep ∷ Code codes.Field ∷ Code codes.Trait ∷ Code codes.Method ∷ Keep ∷ Code codes.Impl ∷ Code codes.ImplHead ∷ Keep ∷ Keep ∷ Keep ∷ Code codes.ViewType ∷ Code codes.Method ∷
    Keep ∷ Keep ∷ Keep ∷ Keep ∷ Keep ∷ Keep ∷ Shape shapes.NamedType ∷ Keep ∷ Keep ∷ Keep ∷ Shape shapes.ReferenceType ∷ Keep ∷ Shape shapes.NamedType ∷ Shape shapes.ReferenceType ∷ Keep ∷ Shape
    shapes.TupleType ∷ Shape shapes.SelfType ∷ Keep ∷ Keep ∷ Shape shapes.Wildcard ∷ Shape shapes.MutPattern ∷ Shape shapes.IntegerPattern ∷ Shape shapes.TruthPattern ∷ Shape shapes.TuplePattern ∷
    Shape shapes.PathPattern ∷ Keep ∷ Keep ∷ Keep ∷ Shape shapes.FieldPattern ∷ Keep ∷ Shape shapes.NamedPath ∷ Keep ∷ Keep ∷ Shape shapes.QualifiedPath ∷ Code codes.Block ∷ Keep ∷ Keep ∷ Keep ∷ Code
    codes.Blocklike ∷ Code codes.Blocklike ∷ Code codes.Let ∷ Keep ∷ Keep ∷ Keep ∷ Code codes.If ∷ Code codes.Match ∷ Keep ∷ Keep ∷ Keep ∷ Code codes.While ∷ Code codes.Forever ∷ Keep ∷ Code
    codes.LetCondition ∷ Code codes.Assignment ∷ Code codes.Assignment ∷ Code codes.Assignment ∷ Code codes.Operation ∷ Code codes.Operation ∷ Code codes.Operation ∷ Code codes.Operation ∷ Code
    codes.Operation ∷ Code codes.Operation ∷ Code codes.Operation ∷ Code codes.Operation ∷ Code codes.Operation ∷ Code codes.Operation ∷ Code codes.Operation ∷ Code codes.Operation ∷ Code
    codes.Operation ∷ Code codes.Operation ∷ Code codes.Operation ∷ Code codes.Operation ∷ Code codes.Operation ∷ Code codes.Operation ∷ Keep ∷ Keep ∷ Keep ∷ Code codes.Prefix ∷ Code codes.Prefix ∷
    Code codes.Operation ∷ Code codes.Operation ∷ Code codes.Operation ∷ Keep ∷ Code codes.Member ∷ Code codes.Arguments ∷ Code codes.Assignment ∷ Code codes.Operation ∷ Keep ∷ Keep ∷ Keep ∷ Code
    codes.Attributed ∷ Keep ∷ Code codes.Attributed ∷ Keep ∷ Code codes.Return ∷ Code codes.Return ∷ Keep ∷ Keep ∷ Code codes.IntegerExpr ∷ Code codes.TruthExpr ∷ Code codes.SelfExpr ∷ Code
    codes.ParenExpr ∷ Code codes.Break ∷ Code codes.Continue ∷ Code codes.PanicCall ∷ Code codes.GhostCall ∷ Code codes.PathExpr ∷ Code codes.PathExpr ∷ Keep ∷ Shape shapes.NamedPath ∷ Keep ∷ Code
    codes.FieldExpr ∷ Code codes.Closure ∷ Code codes.Closure ∷ Code codes.NamedParam ∷ Keep ∷ Keep ∷ Keep ∷ Shape shapes.TermOperation ∷ Shape shapes.TermOperation ∷ Shape shapes.TermOperation ∷
    Shape shapes.TermOperation ∷ Shape shapes.TermOperation ∷ Shape shapes.TermOperation ∷ Shape shapes.TermOperation ∷ Shape shapes.TermOperation ∷ Shape shapes.TermOperation ∷ Shape
    shapes.TermOperation ∷ Shape shapes.TermOperation ∷ Shape shapes.TermOperation ∷ Shape shapes.TermOperation ∷ Shape shapes.TermOperation ∷ Shape shapes.TermOperation ∷ Shape shapes.TermOperation ∷
    Shape shapes.TermOperation ∷ Shape shapes.TermOperation ∷ Keep ∷ Keep ∷ Keep ∷ Shape shapes.PrefixTerm ∷ Shape shapes.PrefixTerm ∷ Shape shapes.TermOperation ∷ Shape shapes.TermOperation ∷ Shape
    shapes.TermOperation ∷ Shape shapes.View ∷ Shape shapes.TermMember ∷ Keep ∷ Keep ∷ Keep ∷ Keep ∷ Shape shapes.Quantified ∷ Shape shapes.Quantified ∷ Shape shapes.Binder ∷ Shape shapes.PathTerm ∷
    Shape shapes.PathTerm ∷ Shape shapes.PathTerm ∷ Keep ∷ Keep ∷ Shape shapes.NamedPath ∷ Keep ∷ Shape shapes.NamedPath ∷ Keep ∷ Shape shapes.FieldTerm ∷ Keep ∷ Shape shapes.IntegerTerm ∷ Shape
    shapes.TruthTerm ∷ Shape shapes.AnswerTerm ∷ Shape shapes.SelfTerm ∷ Shape shapes.ParenTerm ∷ Shape shapes.IfTerm ∷ Shape shapes.MatchTerm ∷ Shape shapes.TermArm ∷ Shape shapes.MutRefTerm ∷ Shape
    shapes.PredicateTerm ∷ Keep ∷ Keep ∷ Keep ∷ []

-- whether a line is kept where it has one part
unfoldable pub several : List Bool
several =
    false ∷ false ∷ false ∷ false ∷ false ∷ false ∷ false ∷ false ∷ false ∷ false ∷ false ∷ false ∷ false ∷ false ∷ false ∷ false ∷ false ∷ false ∷ false ∷ false ∷ false ∷ false ∷ false ∷ false ∷
    false ∷ false ∷ false ∷ false ∷ false ∷ false ∷ false ∷ false ∷ false ∷ false ∷ false ∷ false ∷ false ∷ false ∷ false ∷ false ∷ false ∷ false ∷ false ∷ false ∷ false ∷ false ∷ false ∷ false ∷
    false ∷ false ∷ false ∷ false ∷ false ∷ false ∷ false ∷ false ∷ false ∷ false ∷ false ∷ false ∷ false ∷ false ∷ false ∷ false ∷ false ∷ false ∷ false ∷ false ∷ false ∷ false ∷ false ∷ false ∷
    false ∷ false ∷ false ∷ false ∷ false ∷ false ∷ false ∷ false ∷ false ∷ false ∷ false ∷ false ∷ false ∷ false ∷ false ∷ false ∷ false ∷ false ∷ false ∷ false ∷ false ∷ false ∷ false ∷ false ∷
    false ∷ false ∷ false ∷ false ∷ false ∷ false ∷ false ∷ false ∷ false ∷ false ∷ false ∷ false ∷ false ∷ false ∷ false ∷ false ∷ false ∷ false ∷ false ∷ false ∷ false ∷ false ∷ false ∷ false ∷ true
    ∷ true ∷ true ∷ true ∷ true ∷ true ∷ true ∷ true ∷ true ∷ true ∷ true ∷ true ∷ true ∷ true ∷ true ∷ true ∷ true ∷ true ∷ true ∷ true ∷ true ∷ false ∷ false ∷ false ∷ false ∷ false ∷ true ∷ true ∷
    true ∷ false ∷ false ∷ false ∷ true ∷ true ∷ false ∷ false ∷ false ∷ false ∷ false ∷ false ∷ false ∷ false ∷ false ∷ false ∷ false ∷ false ∷ false ∷ false ∷ false ∷ false ∷ false ∷ false ∷ false ∷
    false ∷ false ∷ false ∷ false ∷ false ∷ false ∷ false ∷ false ∷ false ∷ false ∷ false ∷ false ∷ true ∷ true ∷ true ∷ true ∷ true ∷ true ∷ true ∷ true ∷ true ∷ true ∷ true ∷ true ∷ true ∷ true ∷
    true ∷ true ∷ true ∷ true ∷ false ∷ false ∷ false ∷ false ∷ false ∷ true ∷ true ∷ true ∷ false ∷ false ∷ false ∷ false ∷ false ∷ false ∷ false ∷ false ∷ false ∷ false ∷ false ∷ false ∷ false ∷
    false ∷ false ∷ false ∷ false ∷ false ∷ false ∷ false ∷ false ∷ false ∷ false ∷ false ∷ false ∷ false ∷ false ∷ false ∷ false ∷ false ∷ false ∷ false ∷ false ∷ []

abbrev pub action_of : ℕ → Action
action_of n = get_or actions n Keep

abbrev pub is_for_several : ℕ → Bool
is_for_several n = get_or several n false
