-- The loop over arguments, of which lifetimes have no place.
use Rattle.std.proofs.Common.{◌∙◌, sym, List}
use Rattle.source_trees.specs.declared.types.TypeArgument.{TypeArgument}
use Rattle.source_trees.specs.TypeTreeView.{type_arguments_of}
use Rattle.source_forms.specs.Forms.{is_among}
use Rattle.source_forms.specs.TypeForms.{unbuilt_arguments, unbuilt_argument}
use Rattle.source_forms.proofs.Left.{stops, goes_on}
use Rattle.source_forms.proofs.Sizes.{arguments_more}
use Rattle.source_forms.proofs.types.+unbuilt_type.Goals as goal

pub unbuilt_arguments-returns-in-Some : goal.unbuilt_arguments-returns-in-Some
unbuilt_arguments-returns-in-Some t c =
    sym (c.loop-argument.invariant
    ∙ stops (λ (xs : List TypeArgument). unbuilt_arguments (is_among c.args.built.now) (type_arguments_of xs)) (unbuilt_argument (is_among c.args.built.now)) (arguments_more (is_among c.args.built.now)) c.args.arguments.now
    c.loop-argument.argument-index c.argument-item.result c.argument-item.is c.loop-argument-test.true c.unbuilt_argument.result c.in-Some.start (sym c.unbuilt_argument.ensures) c.in-Some.is)

pub unbuilt_arguments-loop-argument-preserved : goal.unbuilt_arguments-loop-argument-preserved
unbuilt_arguments-loop-argument-preserved t c =
    c.loop-argument.invariant
    ∙ goes_on (λ (xs : List TypeArgument). unbuilt_arguments (is_among c.args.built.now) (type_arguments_of xs)) (unbuilt_argument (is_among c.args.built.now)) (arguments_more (is_among c.args.built.now)) c.args.arguments.now
    c.loop-argument.argument-index c.argument-item.result c.argument-item.is c.loop-argument-test.true (sym c.unbuilt_argument.ensures ∙ c.in-None.is)
