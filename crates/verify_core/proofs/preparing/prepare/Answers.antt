use Rattle.std.proofs.Common.{arith}
use Rattle.std.proofs.lemmas.Result.{err_from_is_err_and}
use Rattle.verify_core.specs.Prepared.{IsPastLimit}
use Rattle.verify_core.proofs.NameCounts.{names_of_bytes}
use Rattle.verify_core.proofs.PassLaws.{lowered_as, lowered_with, lowering_refused, obligations_refused, paths_refused, plain_of, tables_are, walkable, laid_out}
use Rattle.verify_core.proofs.preparing.prepare.Goals as goal

pub returns-then-source-gt-SOURCE_BYTES-clause-refused : goal.returns-then-source-gt-SOURCE_BYTES-clause-refused
returns-then-source-gt-SOURCE_BYTES-clause-refused c = IsPastLimit.bytes (omega (arith, c.if-source-gt-SOURCE_BYTES.true))

pub returns-in_err-lowered-clause-refused : goal.returns-in_err-lowered-clause-refused
returns-in_err-lowered-clause-refused c =
    let p = err_from_is_err_and c.from_residual-in_err-lowered.result c.from_residual-in_err-lowered.ensures.1 in
    rw (p.1, p.2) (lowering_refused c.args.source.now c.typed_source.new.names c.in_ok-typed.typed c.in_err-lowered.field-0.0 c.in_ok-typed.ensures.ok.typed_as c.in_err-lowered.ensures.limit)

pub check_all_paths-requires : goal.check_all_paths-requires
check_all_paths-requires c =
    laid_out c.typed_source.new.names c.in_ok-typed.table c.in_ok-typed.typed c.in_ok-lowered.lowered
    (lowered_with c.typed_source.new.names c.into_decls.result c.in_ok-typed.table c.in_ok-typed.typed c.in_ok-lowered.lowered c.into_decls.ensures c.in_ok-lowered.ensures.lowered)
    c.in_ok-typed.ensures.fits
    (plain_of c.args.source.now c.typed_source.new.names c.in_ok-typed.typed c.in_ok-typed.table c.in_ok-typed.ensures.ok)

pub returns-in_err-check_all_paths-clause-refused : goal.returns-in_err-check_all_paths-clause-refused
returns-in_err-check_all_paths-clause-refused c =
    let p = err_from_is_err_and c.from_residual-in_err-check_all_paths.result c.from_residual-in_err-check_all_paths.ensures.1 in
    rw (p.1, p.2) (paths_refused c.args.source.now c.typed_source.new.names c.in_ok-typed.typed c.in_ok-typed.table c.in_ok-lowered.lowered _ c.in_ok-typed.ensures.ok
    (lowered_with c.typed_source.new.names c.into_decls.result c.in_ok-typed.table c.in_ok-typed.typed c.in_ok-lowered.lowered c.into_decls.ensures c.in_ok-lowered.ensures.lowered)
    c.in_ok-lowered.ensures.few c.in_err-check_all_paths.ensures.err)

pub check_obligations-requires : goal.check_obligations-requires
check_obligations-requires c =
    walkable c.typed_source.new.names c.in_ok-typed.table c.in_ok-typed.typed c.in_ok-lowered.lowered
    (lowered_with c.typed_source.new.names c.into_decls.result c.in_ok-typed.table c.in_ok-typed.typed c.in_ok-lowered.lowered c.into_decls.ensures c.in_ok-lowered.ensures.lowered)
    c.in_ok-typed.ensures.fits
    (plain_of c.args.source.now c.typed_source.new.names c.in_ok-typed.typed c.in_ok-typed.table c.in_ok-typed.ensures.ok)

pub returns-in_err-check_obligations-clause-refused : goal.returns-in_err-check_obligations-clause-refused
returns-in_err-check_obligations-clause-refused c =
    let p = err_from_is_err_and c.from_residual-in_err-check_obligations.result c.from_residual-in_err-check_obligations.ensures.1 in
    rw (p.1, p.2) (obligations_refused c.args.source.now c.typed_source.new.names c.in_ok-typed.typed c.in_ok-typed.table c.in_ok-lowered.lowered _ c.in_ok-typed.ensures.ok
    (lowered_with c.typed_source.new.names c.into_decls.result c.in_ok-typed.table c.in_ok-typed.typed c.in_ok-lowered.lowered c.into_decls.ensures c.in_ok-lowered.ensures.lowered)
    c.in_ok-lowered.ensures.few c.in_ok-check_all_paths.ensures.ok c.in_err-check_obligations.ensures.err)

pub all_owed-requires : goal.all_owed-requires
all_owed-requires c =
    walkable c.typed_source.new.names c.in_ok-typed.table c.in_ok-typed.typed c.in_ok-lowered.lowered
    (lowered_with c.typed_source.new.names c.into_decls.result c.in_ok-typed.table c.in_ok-typed.typed c.in_ok-lowered.lowered c.into_decls.ensures c.in_ok-lowered.ensures.lowered)
    c.in_ok-typed.ensures.fits
    (plain_of c.args.source.now c.typed_source.new.names c.in_ok-typed.typed c.in_ok-typed.table c.in_ok-typed.ensures.ok)

pub returns-clause-ok : goal.returns-clause-ok
returns-clause-ok c =
    let lowered = lowered_with c.typed_source.new.names c.into_decls.result c.in_ok-typed.table c.in_ok-typed.typed c.in_ok-lowered.lowered c.into_decls.ensures c.in_ok-lowered.ensures.lowered in
    record {
      typed = c.in_ok-typed.typed;
      is_typed = c.in_ok-typed.ensures.ok.typed_as;
      gones = c.in_ok-lowered.lowered.gone;
      lowers = lowered_as c.args.source.now c.typed_source.new.names c.in_ok-typed.typed c.in_ok-typed.table c.in_ok-lowered.lowered c.in_ok-typed.ensures.ok lowered;
      blocks = c.in_ok-lowered.ensures.few;
      paths = c.in_ok-check_all_paths.ensures.ok;
      tables = tables_are c.typed_source.new.names c.in_ok-typed.table c.in_ok-typed.typed c.in_ok-lowered.lowered c.in_ok-adts.adts lowered c.in_ok-adts.ensures;
      owed = c.in_ok-obligations.ensures;
      few = c.in_ok-check_obligations.ensures.ok c.in_ok-obligations.obligations c.in_ok-obligations.ensures;
    }

pub returns-clause-few_names : goal.returns-clause-few_names
returns-clause-few_names c =
    omega (arith, c.if-source-gt-SOURCE_BYTES.false, names_of_bytes c.args.source.now c.typed_source.new.names c.in_ok-typed.ensures.ok.typed_as.has.gives)
