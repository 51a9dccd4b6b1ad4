use Rattle.type_check.proofs.ByRules.{typed_by_rules, typing_is_one}
use Rattle.type_check.proofs.laws.expressions_are_typed_by_rules.Goals as goal

pub returns-clause-typed : goal.returns-clause-typed
returns-clause-typed c = λ σ Γ e t. typed_by_rules σ Γ e t

pub returns-clause-one : goal.returns-clause-one
returns-clause-one c = λ σ Γ e t r other one two. typing_is_one σ Γ e t r other one two
