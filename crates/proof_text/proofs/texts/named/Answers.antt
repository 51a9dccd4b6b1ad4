use Rattle.std.proofs.Common.{◌≡◌, ℕ, ◌+◌, ◌≤◌, List, [], ◌∷◌, ◌++◌, ◌⊎◌, inl, inr, length, map, ◌∙◌, ap, arith, length-append}
use Rattle.text_core.specs.Names.{text_of}
use Rattle.name_tables.proofs.Tables.{interned}
use Rattle.proof_text.proofs.NameOrder.{one_more_named}
use Rattle.proof_text.proofs.StepLemmas.{one_more}
use Rattle.proof_text.proofs.texts.named.Goals as goal

grew : (old new : List (List ℕ)) (t : List ℕ) → (new ≡ old) ⊎ (new ≡ old ++ t ∷ []) → length new ≤ length old + 1
grew old new t (inl e) = omega (arith, ap length e)
grew old new t (inr e) = omega (arith, ap length e, length-append old (t ∷ []))

pub returns-in_err-intern-clause-kept : goal.returns-in_err-intern-clause-kept
returns-in_err-intern-clause-kept c = λ name text h. c.intern.ensures.kept name text (c.loop-text.invariant.kept name text h)

pub returns-in_err-push-clause-kept : goal.returns-in_err-push-clause-kept
returns-in_err-push-clause-kept c = λ name text h. c.intern.ensures.kept name text (c.loop-text.invariant.kept name text h)

pub loop-text-preserved : goal.loop-text-preserved
loop-text-preserved c = record {
  named = ap (map (text_of c.intern.new.self)) c.in_ok-push.ensures.items ∙ one_more c.loop-text.names _ c.loop-text.given.items c.args.texts.now c.loop-text.text-index _ _ c.loop-text-test.true c.intern.ensures.kept c.loop-text.invariant.named c.in_ok-intern.ensures.named;
  table = one_more_named _ _ _ c.args.texts.now c.loop-text.text-index _ c.loop-text-test.true c.loop-text.invariant.table
      (interned _ _ _ _ c.in_ok-intern.ensures.named c.in_ok-intern.ensures.one c.in_ok-intern.ensures.grown (omega (arith, c.loop-text.invariant.grown, c.requires, c.loop-text-test.true)));
  kept = λ name text h. c.intern.ensures.kept name text (c.loop-text.invariant.kept name text h);
  grown = omega (arith, grew _ _ _ c.in_ok-intern.ensures.grown);
}
