-- Types and paths (Rust Reference, "Types", "Paths"): where the first form begins that is not in the set.
use Rattle.std.specs.Prelude.{◌==◌, ℕ, Bool, true, false, [], Option, None, nat_le, if◌then◌else◌}
use Rattle.text_core.specs.declared.name.Name.{Name}
use Rattle.text_core.specs.declared.name.TheConstants.{BOOL, INT}
use Rattle.source_trees.specs.declared.path.PathNode.{PathNode}
use Rattle.source_trees.specs.declared.path.PathNode.TheVariants.{Names, Member, Qualified}
use Rattle.source_trees.specs.declared.types.TypeArgument.{TypeArgument}
use Rattle.source_trees.specs.declared.types.TypeArgument.TheVariants as argument
use Rattle.source_trees.specs.TypeTree as W
use Rattle.source_trees.specs.TypeTree.{TypeTree}
use Rattle.source_forms.specs.declared.form.Form.{Form}
use Rattle.source_forms.specs.declared.form.Form.TheVariants as form
use Rattle.source_forms.specs.Forms.{◌or_else◌, here, in_each}

-- the words of the types of machine integers and `bool` are the first of each table of names, and `Int` is behind them
abbrev pub word_form : Name → Form
word_form name = if nat_le name.0 BOOL.0 then form.MachineType else (if name.0 == INT.0 then form.MathIntType else form.NamedType)

abbrev pub named_form : Name → W.TypeArguments → Form
named_form name W.no_arguments = word_form name
named_form name (W.with_lifetime lifetime others) = form.NamedType
named_form name (W.with_type ty others) = form.NamedType

abbrev pub reference_form : Bool → Form
reference_form false = form.SharedReferenceType
reference_form true = form.MutableReferenceType

abbrev mutual
  pub unbuilt_type : (Form → Bool) → TypeTree → Option ℕ
  unbuilt_type F (W.named span name arguments) = here F (named_form name.name arguments) span or_else unbuilt_arguments F arguments
  unbuilt_type F (W.tuple span types) = here F form.TupleType span or_else unbuilt_types F types
  unbuilt_type F (W.reference span lifetime mutable ty) = here F (reference_form mutable) span or_else unbuilt_type F ty
  unbuilt_type F (W.self_type span) = here F form.SelfType span
  unbuilt_type F (W.self_view span) = here F form.SelfViewType span

  pub unbuilt_types : (Form → Bool) → W.Types → Option ℕ
  unbuilt_types F W.none = None
  unbuilt_types F (W.more ty types) = unbuilt_type F ty or_else unbuilt_types F types

  pub unbuilt_arguments : (Form → Bool) → W.TypeArguments → Option ℕ
  unbuilt_arguments F W.no_arguments = None
  unbuilt_arguments F (W.with_lifetime lifetime arguments) = unbuilt_arguments F arguments
  unbuilt_arguments F (W.with_type ty arguments) = unbuilt_type F ty or_else unbuilt_arguments F arguments

abbrev pub unbuilt_argument : (Form → Bool) → TypeArgument → Option ℕ
unbuilt_argument F (argument.Lifetime lifetime) = None
unbuilt_argument F (argument.Type ty) = unbuilt_type F ty

-- ---- paths

-- one form for a name alone, and one for any other path
unfoldable pub path_form : Form → Form → PathNode → Form
path_form alone other (Names first [] []) = alone
path_form alone other _ = other

-- the types in a path
unfoldable pub unbuilt_path : (Form → Bool) → PathNode → Option ℕ
unbuilt_path F (Names first others types) = in_each (unbuilt_type F) types
unbuilt_path F (Member first types last) = in_each (unbuilt_type F) types
unbuilt_path F (Qualified ty of last) = unbuilt_type F ty
