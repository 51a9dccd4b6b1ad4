use Rattle.std.proofs.Common.{◌≡◌, length, subst, arith}
use Rattle.std.proofs.lemmas.Bool.Decides.{nat_tests}
use Rattle.source_words.specs.Words.{GivesNames}
use Rattle.pearlite.specs.Cursor.{Standing}
use Rattle.pearlite.specs.Parsed.{SpellsTerm, IsTermError}
use Rattle.term_texts.specs.declared.reading.TermFault.TheVariants.{NoTerm}
use Rattle.term_texts.proofs.TermLaw.{read_whole, read_part, read_none}
use Rattle.term_texts.proofs.reading.term_in.Goals as goal

pub returns-then-place-tokens-clause-refused : goal.returns-then-place-tokens-clause-refused
returns-then-place-tokens-clause-refused c = λ e is.
    let after = c.parse_term.new.cursor.place in
    let spelled = subst (λ (s : Standing). SpellsTerm c.args.names.now s c.in-Ok.term after) c.new-cursor.ensures c.in-Ok.ensures.ok in
    let value = c.place.ensures.value in
    let test = c.if-place-tokens.true in
    read_part c.args.names.now c.args.text.now c.args.tokens.now c.in-Ok.term after c.requires.whole spelled (λ same. grind (arith, nat_tests, same, value, test)) is

pub returns-else-place-tokens-clause-ok : goal.returns-else-place-tokens-clause-ok
returns-else-place-tokens-clause-ok c =
    let after = c.parse_term.new.cursor.place in
    let spelled = subst (λ (s : Standing). SpellsTerm c.args.names.now s c.in-Ok.term after) c.new-cursor.ensures c.in-Ok.ensures.ok in
    let value = c.place.ensures.value in
    let test = c.if-place-tokens.false in
    let whole : after ≡ length c.args.tokens.now = grind (arith, nat_tests, value, test) in
    let names = subst (λ (s : Standing). GivesNames c.args.names.now s.bytes c.parse_term.new.names) c.new-cursor.ensures c.in-Ok.ensures.names in
    read_whole c.args.names.now c.parse_term.new.names c.args.text.now c.args.tokens.now c.in-Ok.term after c.requires.short c.requires.whole c.requires.filled names spelled whole

pub returns-in-Err-clause-refused : goal.returns-in-Err-clause-refused
returns-in-Err-clause-refused c = λ e is.
    let same : c.fault_of.result ≡ NoTerm = cc in
    let after = c.parse_term.new.cursor.place in
    let refused = subst (λ (s : Standing). IsTermError s c.in-Err.error after) c.new-cursor.ensures c.in-Err.ensures.refused in
    read_none c.args.text.now c.args.tokens.now c.in-Err.error after refused (c.fault_of.ensures same) is
