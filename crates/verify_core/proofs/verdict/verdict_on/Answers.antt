use Rattle.std.proofs.Common.{◌∙◌, Bool, List, ap, length, sym, subst}
use Rattle.mir_ir.specs.declared.body.Body.{Body}
use Rattle.proof_text.specs.declared.proof.Proof.{Proof}
use Rattle.report_out.specs.declared.verdict.LeftItem.{LeftItem}
use Rattle.verify_core.specs.declared.owed.Owed.{Owed}
use Rattle.verify_core.specs.Judging.{AreLinesOf, HasJudged}
use Rattle.verify_core.specs.Owed.{obligations_in}
use Rattle.verify_core.specs.Verdict.{Judges}
use Rattle.verify_core.proofs.VerdictLaws.{lines_tell}
use Rattle.verify_core.proofs.verdict.verdict_on.Goals as goal

pub lines_of-requires : goal.lines_of-requires
lines_of-requires c = ap length c.as_slice.ensures.value ∙ c.settled_flags-flags.ensures.justified.as_many ∙ c.in_ok-judged.ensures.flags.as_many

pub returns : goal.returns
returns c =
    let p = c.args.program.now in
    let ps = c.args.proofs.now in
    let j = c.in_ok-judged.judged in
    let of_proofs = subst (λ (qs : List Proof). HasJudged p.tables qs c.as_slice-owed.result.now (length c.as_slice-bodies.result.now) j) c.in_ok-table.ensures c.in_ok-judged.ensures in
    let of_owed = subst (λ (os : List Owed). HasJudged p.tables ps os (length c.as_slice-bodies.result.now) j) c.as_slice-owed.ensures of_proofs in
    let h = subst (λ (bodies : List Body). HasJudged p.tables ps p.obligations (length bodies) j) c.as_slice-bodies.ensures of_owed in
    let of_flags = subst (λ (flags : List Bool). AreLinesOf c.as_slice-bodies.result.now flags c.in_ok-functions.functions) c.as_slice.ensures.value c.in_ok-functions.ensures in
    record {
      judged = subst (λ (left : List LeftItem). Judges p.tables ps (obligations_in p.obligations) left j.proved) (sym c.from_vec.ensures) h.judges;
      counted = c.in_ok-count.ensures ∙ ap length c.as_slice-owed.ensures;
      lines = lines_tell ps p c.requires j.flags.items c.settled_flags-flags.result.items h.flags
          c.settled_flags-flags.ensures.justified c.settled_flags-flags.ensures.settled c.in_ok-functions.functions
          (subst (λ (bodies : List Body). AreLinesOf bodies c.settled_flags-flags.result.items c.in_ok-functions.functions) c.as_slice-bodies.ensures of_flags);
    }
