-- What the terms of contracts speak of where they stand, and what they become.
use Rattle.std.specs.Prelude.{List, Option, Result, Ok, Err}
use Rattle.std.specs.Option.{option_map}
use Rattle.text_core.specs.declared.refusal.SourceError.{SourceError}
use Rattle.text_core.specs.declared.span.Span.{Span}
use Rattle.source_trees.specs.Pterm.{Pterm}
use Rattle.source_trees.specs.PtermView.{span_of}
use Rattle.logic_term.specs.declared.declaration.AdtDecl.{AdtDecl}
use Rattle.logic_term.specs.Term.{Term}
use Rattle.logic_term.specs.Ty.{Ty}
use Rattle.logic_elab.specs.declared.scope.Symbol.{Symbol}
use Rattle.logic_elab.specs.Elaborated.{asserted}
use Rattle.logic_elab.specs.Scope.{Scope}
use Rattle.type_check.specs.declared.assertion.Assertion.{Assertion}
use Rattle.type_check.specs.declared.assertion.Assertion.TheVariants.{Good, Bad}
use Rattle.type_check.specs.declared.scope.Found.{Found}
use Rattle.type_check.specs.declared.scope.Variable.{Variable}
use Rattle.type_check.specs.Scope.{found}
use Rattle.type_check.specs.VariableNames.{variable_name, answer_name}

abbrev pub symbol_of : Found → Symbol
symbol_of v = record { name = variable_name v.place; sort = v.ty }

abbrev pub answer_symbol : Ty → Symbol
answer_symbol t = record { name = answer_name; sort = t }

-- the variables, the answer of type A where it may be spoken of, and the declared types
abbrev pub spoken : List AdtDecl → Option Ty → List Variable → Scope
spoken ds A Γ = record { variable = λ x. option_map symbol_of (found x Γ); answer = option_map answer_symbol A; types = ds }

abbrev pub kept : Span → Result Term SourceError → Assertion
kept s (Ok t) = Good s t
kept s (Err e) = Bad e

-- a clause or an invariant
abbrev pub assertion : List AdtDecl → Option Ty → List Variable → Pterm → Assertion
assertion ds A Γ t = kept (span_of t) (asserted (spoken ds A Γ) t)
