-- What the lines of parameters, bounds and conditions make (Rust Reference, "Generic parameters", "Trait and lifetime bounds", "Functions").
use Rattle.std.specs.Prelude.{ℕ, ◌+◌, ◌-◌, Bool, true, false, nat_lt, if◌then◌else◌, List, [], ◌∷◌, ◌++◌, Option, None, Some, fold}
use Rattle.source_grammar.specs.Terminals.{Arrow, KwMut, WordFn, WordFnMut}
use Rattle.source_words.specs.declared.word.Word.{Word}
use Rattle.source_trees.specs.declared.operator.CallTrait.{CallTrait}
use Rattle.source_trees.specs.declared.operator.CallTrait.TheVariants.{Fn, FnMut, FnOnce}
use Rattle.source_trees.specs.declared.path.Segment.{Segment}
use Rattle.pearlite.specs.MakeTypes.{lifetime_at}
use Rattle.pearlite.specs.Parts.{is_at, segment_at, span_from}
use Rattle.source_trees.specs.TypeTree.{TypeTree}
use Rattle.source_trees.specs.declared.generics.BoundNode.TheVariants as B
use Rattle.source_trees.specs.declared.generics.ConditionNode.TheVariants as C
use Rattle.source_trees.specs.declared.generics.GenericNode.TheVariants as G
use Rattle.rs_syntax.specs.declared.make_generics.CallTypes.{CallTypes}
use Rattle.source_trees.specs.declared.param.ParamNode.{ParamNode}
use Rattle.source_trees.specs.declared.param.ParamNode.TheVariants as P
use Rattle.rs_syntax.specs.declared.part.Part.{Part}
use Rattle.rs_syntax.specs.declared.part.Value.{Value}
use Rattle.rs_syntax.specs.declared.part.Value.TheVariants as V
use Rattle.rs_syntax.specs.Gathered.{all_of, first_of, made_of, type_of, generic_of, bound_of, condition_of}

-- ---- parameters of declarations

-- the bound of a lifetime, where it is written
abbrev pub outlived : List Word → ℕ → ℕ → Option Segment
outlived words from to = if nat_lt 1 (to - from) then Some (segment_at words (from + 2)) else None

-- `lifetime [ ":" lifetime ]`
unfoldable pub lifetime_param_made : List Word → ℕ → ℕ → Value
lifetime_param_made words from to = V.GenericParam (record { span = span_from words from to; node = G.Lifetime (segment_at words from) (outlived words from to) })

-- `Name [ ":" Bounds ]`
unfoldable pub type_param_made : List Word → ℕ → ℕ → List Part → Value
type_param_made words from to parts = V.GenericParam (record { span = span_from words from to; node = G.Type (segment_at words from) (all_of bound_of parts) })

-- `"<" list(GenericParam) ">"`
unfoldable pub generics_made : List Part → Value
generics_made parts = V.Generics (all_of generic_of parts)

-- ---- conditions

-- `Name ":" Bounds`
unfoldable pub type_condition_made : List Word → ℕ → ℕ → List Part → Value
type_condition_made words from to parts = V.WhereCondition (record { span = span_from words from to; node = C.Type (segment_at words from) (all_of bound_of parts) })

-- `lifetime ":" lifetime`
unfoldable pub lifetime_condition_made : List Word → ℕ → ℕ → Value
lifetime_condition_made words from to = V.WhereCondition (record { span = span_from words from to; node = C.Lifetime (segment_at words from) (segment_at words (from + 2)) })

-- `"where" WhereBounds`
unfoldable pub where_made : List Part → Value
where_made parts = V.Where (all_of condition_of parts)

-- ---- bounds

-- `BoundName`
unfoldable pub trait_bound_made : List Word → ℕ → ℕ → Value
trait_bound_made words from to = V.Bound (record { span = span_from words from to; node = B.Trait (segment_at words from) })

abbrev pub call_trait_of : List Word → ℕ → CallTrait
call_trait_of words place = if is_at WordFn words place then Fn else (if is_at WordFnMut words place then FnMut else FnOnce)

-- a type behind `->` is that of the answer, and the others stand in the parentheses
abbrev pub with_call_type : Bool → CallTypes → Option TypeTree → CallTypes
with_call_type is_answer call None = call
with_call_type true call (Some ty) = record call { answer = Some ty }
with_call_type false call (Some ty) = record call { taken = call.taken ++ ty ∷ [] }

abbrev pub call_with : List Word → CallTypes → Part → CallTypes
call_with words call part = with_call_type (is_at Arrow words (part.from - 1)) call (type_of part.value)

abbrev pub call_bound : List Word → ℕ → ℕ → CallTypes → Value
call_bound words from to call = V.Bound (record { span = span_from words from to; node = B.Call (call_trait_of words from) call.taken call.answer })

-- `ClosureTrait TypesInParens [ "->" AnyType ]`
unfoldable pub call_bound_made : List Word → ℕ → ℕ → List Part → Value
call_bound_made words from to parts = call_bound words from to (fold (call_with words) (record { taken = []; answer = None }) parts)

-- ---- parameters of functions and closures

unfoldable pub param_made : List Word → ℕ → ℕ → ParamNode → Value
param_made words from to node = V.Param (record { span = span_from words from to; node = node })

-- `Name ":" AnyType`
unfoldable pub named_param_made : List Word → ℕ → ℕ → List Part → Value
named_param_made words from to parts = made_of (first_of type_of parts) (λ ty. param_made words from to (P.Named false (segment_at words from) ty))

-- the same, behind its `mut`
unfoldable pub mut_named_param_made : List Word → ℕ → ℕ → List Part → Value
mut_named_param_made words from to parts = made_of (first_of type_of parts) (λ ty. param_made words (from - 1) to (P.Named true (segment_at words from) ty))

-- `"self"`
unfoldable pub receiver_param_made : List Word → ℕ → ℕ → Value
receiver_param_made words from to = param_made words from to (P.Receiver false)

-- the same, behind its `mut`
unfoldable pub mut_receiver_made : List Word → ℕ → ℕ → Value
mut_receiver_made words from to = param_made words (from - 1) to (P.Receiver true)

-- `"&" [ lifetime ] [ "mut" ] "self"`
unfoldable pub borrowed_param_made : List Word → ℕ → ℕ → Value
borrowed_param_made words from to = param_made words from to (P.Borrowed (lifetime_at words (from + 1)) (is_at KwMut words (to - 2)))
