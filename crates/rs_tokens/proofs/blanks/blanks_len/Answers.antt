use Rattle.std.proofs.Common.{ℕ, List, length, drop, sym, ap, subst, refl, arith}
use Rattle.rs_tokens.specs.Blanks.{BlankEnds, none, more}
use Rattle.rs_tokens.proofs.ListLaws.{rest_of}
use Rattle.rs_tokens.proofs.BlankLaws.{blank_at}
use Rattle.std.proofs.lemmas.List.{length-drop}
use Rattle.rs_tokens.proofs.blanks.blanks_len.Goals as goal

pub loop-len-preserved : goal.loop-len-preserved
loop-len-preserved c =
    let text = c.args.text.now in
    let at = c.loop-len.at in
    record {
      within = omega (arith, c.in-Some.ensures.within, ap length (rest_of at text), length-drop at text);
      so_far = λ rest skips. c.loop-len.invariant.so_far rest (more (blank_at text at c.in-Some.len c.in-Some.ensures.ends) skips);
    }

pub returns-clause-settles : goal.returns-clause-settles
returns-clause-settles c =
    let text = c.args.text.now in
    let at = c.loop-len.at in
    record {
      skips = c.loop-len.invariant.so_far (drop at text) (none refl);
      stops = λ after blank. c.in_default.ensures.ends after (subst (λ (t : List ℕ). BlankEnds t after) (sym (rest_of at text)) blank);
    }
