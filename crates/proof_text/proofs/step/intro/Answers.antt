use Rattle.std.proofs.Common.{◌∙◌, refl, sym, ap, map, Some}
use Rattle.std.specs.List.{list_all}
use Rattle.rs_tokens.specs.Tokens.{is_identifier}
use Rattle.proof_text.proofs.StageLemmas.{now}
use Rattle.proof_text.proofs.StepLemmas.{all_at}
use Rattle.proof_text.proofs.step.intro.Goals as goal

pub returns-clause-said : goal.returns-clause-said
returns-clause-said c =
    let tried = ap (map now) c.deref.ensures.value ∙ c.in_ok-words.ensures.words in
    let given = ap (map now) c.deref-2.ensures.value ∙ c.in_ok-words.ensures.words in (
      refl,
      (
        ap (list_all is_identifier) (sym tried) ∙ (sym c.are_identifiers.ensures ∙ c.if-not-are_identifiers.false),
        all_at c.named.new.names c.in_ok-named.field-0 (map now c.deref-2.result.now) c.in_ok-named.ensures.named ∙ ap (map Some) given,
      ),
    )
