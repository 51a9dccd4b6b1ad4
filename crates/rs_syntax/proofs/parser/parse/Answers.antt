use Rattle.std.proofs.lemmas.Result.{err_from_is_err_and}
use Rattle.rs_syntax.specs.Parsed.{AreWordsOfSource, SpellsItems}
use Rattle.rs_syntax.proofs.Whole.{error_of_words, error_of_items, none_spelled, items_alone, bounded_alone}
use Rattle.rs_syntax.proofs.parser.parse.Goals as goal

pub returns-in_err-words-clause-refused : goal.returns-in_err-words-clause-refused
returns-in_err-words-clause-refused c =
    let p = err_from_is_err_and c.from_residual.result c.from_residual.ensures.1 in
    rw (p.1, p.2) (error_of_words c.args.names.now c.args.bytes.now c.in_err-words.field-0.0 c.in_err-words.ensures.refused)

pub returns-in_err-words-clause-rightly : goal.returns-in_err-words-clause-rightly
returns-in_err-words-clause-rightly c =
    let p = err_from_is_err_and c.from_residual.result c.from_residual.ensures.1 in
    rw (p.1, p.2) (none_spelled c.args.names.now c.args.bytes.now c.in_err-words.field-0.0 (error_of_words c.args.names.now c.args.bytes.now c.in_err-words.field-0.0 c.in_err-words.ensures.refused))

pub returns-in_err-items-clause-rightly : goal.returns-in_err-items-clause-rightly
returns-in_err-items-clause-rightly c =
    let p = err_from_is_err_and c.from_residual-in_err-items.result c.from_residual-in_err-items.ensures.1 in
    let words : AreWordsOfSource c.args.names.now c.args.bytes.now c.in_ok-words.words = record { table = c.words_of.new.names; gives = c.in_ok-words.ensures.names; are_words = c.in_ok-words.ensures.ok } in
    let error = error_of_items c.args.names.now c.args.bytes.now c.in_ok-words.words c.in_err-items.field-0.0 words c.in_err-items.ensures.refused in
    rw (p.1, p.2) (none_spelled c.args.names.now c.args.bytes.now c.in_err-items.field-0.0 error)

pub returns-clause-alone : goal.returns-clause-alone
returns-clause-alone c =
    let words : AreWordsOfSource c.args.names.now c.args.bytes.now c.in_ok-words.words = record { table = c.words_of.new.names; gives = c.in_ok-words.ensures.names; are_words = c.in_ok-words.ensures.ok } in
    let spelled : SpellsItems c.args.names.now c.args.bytes.now c.in_ok-items.items = record { words = c.in_ok-words.words; are_words = words; are_items = c.in_ok-items.ensures.ok } in
    let alone = items_alone c.args.names.now c.words_of.new.names c.args.bytes.now c.in_ok-words.words c.in_ok-items.items c.in_ok-words.ensures.names c.in_ok-words.ensures.only c.in_ok-items.ensures.ok in
    bounded_alone c.args.names.now c.args.bytes.now c.in_ok-items.items spelled alone c.within_bound.result c.within_bound.ensures.ok
