use Rattle.std.proofs.Common.{◌∙◌, ap, map, length, arith}
use Rattle.proof_text.specs.ProofTextReads.{total_length}
use Rattle.proof_text.proofs.StageLemmas.{now}
use Rattle.proof_text.proofs.EndLemmas.{few_pieces, short_pieces, ok_from, bad_from}
use Rattle.proof_text.proofs.FormBytes.{bad_read}
use Rattle.proof_text.proofs.FormLaw.{ok_form, none_form, file_due, line_due}
use Rattle.proof_text.proofs.NameOrder.{named_from}
use Rattle.proof_text.proofs.reader.read_proofs.Goals as goal

pub read_pieces-requires-clause-count : goal.read_pieces-requires-clause-count
read_pieces-requires-clause-count c = omega (arith, few_pieces c.in_ok-pieces.pieces.items c.args.bytes.now c.in_ok-pieces.ensures, ap length c.deref.ensures.value)

pub read_pieces-requires-clause-room : goal.read_pieces-requires-clause-room
read_pieces-requires-clause-room c = omega (arith, short_pieces c.in_ok-pieces.pieces.items c.args.bytes.now c.in_ok-pieces.ensures, ap (λ ps. total_length (map now ps)) c.deref.ensures.value, c.requires.room)

pub returns-clause-ok : goal.returns-clause-ok
returns-clause-ok c =
    let are = ap (map now) c.deref.ensures.value ∙ c.in_ok-pieces.ensures in
    ok_form c.args.names.now c.read_pieces.new.names c.args.bytes.now c.read_pieces.result
    (ok_from c.read_pieces.new.names c.args.bytes.now (map now c.deref.result.now) c.read_pieces.result are c.read_pieces.ensures.read)
    (named_from c.args.names.now c.read_pieces.new.names c.args.bytes.now (map now c.deref.result.now) c.read_pieces.result are c.read_pieces.ensures.table)

pub returns-clause-named : goal.returns-clause-named
returns-clause-named c =
    let are = ap (map now) c.deref.ensures.value ∙ c.in_ok-pieces.ensures in
    named_from c.args.names.now c.read_pieces.new.names c.args.bytes.now (map now c.deref.result.now) c.read_pieces.result are c.read_pieces.ensures.table

pub returns-clause-bad : goal.returns-clause-bad
returns-clause-bad c = λ n is.
    bad_read c.args.bytes.now n (bad_from c.read_pieces.new.names c.args.bytes.now (map now c.deref.result.now) c.read_pieces.result n (ap (map now) c.deref.ensures.value ∙ c.in_ok-pieces.ensures) c.read_pieces.ensures.read is)

pub returns-clause-none : goal.returns-clause-none
returns-clause-none c = λ n is table proofs.
    none_form table c.args.bytes.now n proofs (bad_from c.read_pieces.new.names c.args.bytes.now (map now c.deref.result.now) c.read_pieces.result n (ap (map now) c.deref.ensures.value ∙ c.in_ok-pieces.ensures) c.read_pieces.ensures.read is)

pub returns-clause-file_where_due : goal.returns-clause-file_where_due
returns-clause-file_where_due c = λ table proofs file.
    file_due c.args.bytes.now c.read_pieces.result table proofs
    (λ n is. bad_read c.args.bytes.now n (bad_from c.read_pieces.new.names c.args.bytes.now (map now c.deref.result.now) c.read_pieces.result n (ap (map now) c.deref.ensures.value ∙ c.in_ok-pieces.ensures) c.read_pieces.ensures.read is))
    file

pub returns-clause-line_where_due : goal.returns-clause-line_where_due
returns-clause-line_where_due c = λ n line.
    line_due c.read_pieces.new.names c.args.bytes.now c.read_pieces.result n
    (ok_from c.read_pieces.new.names c.args.bytes.now (map now c.deref.result.now) c.read_pieces.result (ap (map now) c.deref.ensures.value ∙ c.in_ok-pieces.ensures) c.read_pieces.ensures.read)
    (λ m is. bad_read c.args.bytes.now m (bad_from c.read_pieces.new.names c.args.bytes.now (map now c.deref.result.now) c.read_pieces.result m (ap (map now) c.deref.ensures.value ∙ c.in_ok-pieces.ensures) c.read_pieces.ensures.read is))
    line
