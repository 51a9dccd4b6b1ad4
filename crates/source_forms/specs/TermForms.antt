-- Terms of contracts (Creusot, "Pearlite"): where the first form begins that is not in the set.
use Rattle.std.specs.Prelude.{ℕ, Bool, Option, None}
use Rattle.source_trees.specs.declared.binder.Binder.{Binder}
use Rattle.source_trees.specs.declared.operator.Quantifier.{Quantifier}
use Rattle.source_trees.specs.declared.operator.Quantifier.TheVariants.{Forall, Exists}
use Rattle.source_trees.specs.declared.operator.UnaryTerm.{UnaryTerm}
use Rattle.source_trees.specs.declared.operator.UnaryTerm.TheVariants.{Neg, Not, Current, Final, View}
use Rattle.source_trees.specs.Pterm as T
use Rattle.source_trees.specs.Pterm.{Pterm}
use Rattle.source_forms.specs.declared.form.TheConstants.{ELSEWHERE}
use Rattle.source_forms.specs.declared.form.Form.{Form}
use Rattle.source_forms.specs.declared.form.Form.TheVariants as form
use Rattle.source_forms.specs.Forms.{◌or_else◌, here, in_each}
use Rattle.source_forms.specs.TypeForms.{unbuilt_type, path_form, unbuilt_path}
use Rattle.source_forms.specs.PatternForms.{unbuilt_pattern}

abbrev pub unary_term_form : UnaryTerm → Form
unary_term_form Neg = form.NegativeTerm
unary_term_form Not = form.NotTerm
unary_term_form Current = form.CurrentTerm
unary_term_form Final = form.FinalTerm
unary_term_form View = form.ViewTerm

abbrev pub quantifier_form : Quantifier → Form
quantifier_form Forall = form.Forall
quantifier_form Exists = form.Exists

-- the type of what a quantifier binds
abbrev pub unbuilt_binder : (Form → Bool) → Binder → Option ℕ
unbuilt_binder F binder = unbuilt_type F binder.ty

abbrev mutual
  pub unbuilt_term : (Form → Bool) → Pterm → Option ℕ
  unbuilt_term F (T.integer span value suffix) = here F form.IntegerTerm span
  unbuilt_term F (T.truth span holds) = here F form.TruthTerm span
  unbuilt_term F (T.answer span name) = here F form.Answer span
  unbuilt_term F (T.receiver span) = here F form.SelfTerm span
  unbuilt_term F (T.path span path) = here F (path_form form.NameTerm form.PathTerm path.node) span or_else unbuilt_path F path.node
  unbuilt_term F (T.unary span op t) = here F (unary_term_form op) span or_else unbuilt_term F t
  unbuilt_term F (T.binary span op t u) = here F form.BinaryTerm span or_else unbuilt_term F t or_else unbuilt_term F u
  unbuilt_term F (T.mut_ref span t u) = here F form.MutRefTerm span or_else unbuilt_term F t or_else unbuilt_term F u
  unbuilt_term F (T.field span t name) = here F form.FieldTerm span or_else unbuilt_term F t
  unbuilt_term F (T.part span t number) = here F form.PartTerm span or_else unbuilt_term F t
  unbuilt_term F (T.method span t name arguments) = here F form.MethodTerm span or_else unbuilt_term F t or_else unbuilt_terms F arguments
  unbuilt_term F (T.call span path arguments) = here F form.CallTerm span or_else unbuilt_path F path.node or_else unbuilt_terms F arguments
  unbuilt_term F (T.literal span path fields) = here F form.LiteralTerm span or_else unbuilt_path F path.node or_else unbuilt_field_terms F fields
  unbuilt_term F (T.tuple span parts) = here F form.TupleTerm span or_else unbuilt_terms F parts
  unbuilt_term F (T.choice span condition one other) = here F form.IfTerm span or_else unbuilt_term F condition or_else unbuilt_term F one or_else unbuilt_term F other
  unbuilt_term F (T.matching span t arms) = here F form.MatchTerm span or_else unbuilt_term F t or_else unbuilt_term_arms F arms
  unbuilt_term F (T.quantified span quantifier binders body) = here F (quantifier_form quantifier) span or_else in_each (unbuilt_binder F) binders or_else unbuilt_term F body
  unbuilt_term F (T.predicate span predicate arguments) = here F form.PredicateTerm span or_else unbuilt_terms F arguments

  pub unbuilt_terms : (Form → Bool) → T.Terms → Option ℕ
  unbuilt_terms F T.none = None
  unbuilt_terms F (T.more t terms) = unbuilt_term F t or_else unbuilt_terms F terms

  pub unbuilt_field_terms : (Form → Bool) → T.FieldTerms → Option ℕ
  unbuilt_field_terms F T.no_fields = None
  unbuilt_field_terms F (T.with_field span name t fields) = unbuilt_term F t or_else unbuilt_field_terms F fields

  pub unbuilt_term_arms : (Form → Bool) → T.Arms → Option ℕ
  unbuilt_term_arms F T.no_arms = None
  unbuilt_term_arms F (T.with_arm span pattern body arms) = unbuilt_pattern F ELSEWHERE pattern or_else unbuilt_term F body or_else unbuilt_term_arms F arms
