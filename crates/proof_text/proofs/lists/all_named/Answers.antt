use Rattle.std.proofs.Common.{◌∙◌, ap, map}
use Rattle.text_core.specs.Names.{text_of}
use Rattle.proof_text.proofs.ListLemmas.{list_more, list_named, list_room}
use Rattle.proof_text.proofs.lists.all_named.Goals as goal

pub returns-in_err-named-clause-kept : goal.returns-in_err-named-clause-kept
returns-in_err-named-clause-kept c = λ name text h. c.named.ensures.kept name text (c.loop-texts.invariant.kept name text h)

pub returns-in_err-push-clause-kept : goal.returns-in_err-push-clause-kept
returns-in_err-push-clause-kept c = λ name text h. c.named.ensures.kept name text (c.loop-texts.invariant.kept name text h)

pub loop-texts-preserved : goal.loop-texts-preserved
loop-texts-preserved c = record {
  named = ap (map (map (text_of c.named.new.names))) c.in_ok-push.ensures.items
      ∙ list_more c.loop-texts.names _ c.loop-texts.given.items c.args.lists.now c.loop-texts.texts-index _ _ c.loop-texts-test.true c.named.ensures.kept c.loop-texts.invariant.named c.in_ok-named.ensures.named;
  table = list_named _ c.loop-texts.names _ c.args.lists.now c.loop-texts.texts-index _ c.loop-texts-test.true c.loop-texts.invariant.table c.in_ok-named.ensures.table;
  kept = λ name text h. c.named.ensures.kept name text (c.loop-texts.invariant.kept name text h);
  room = list_room c.args.lists.now c.loop-texts.texts-index _ _ _ _ c.loop-texts-test.true c.named.ensures.grown c.loop-texts.invariant.room;
}
