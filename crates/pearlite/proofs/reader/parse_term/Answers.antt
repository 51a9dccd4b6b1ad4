use Rattle.std.proofs.Common.{arith, sym, ap, ◌∙◌}
use Rattle.pearlite.specs.Cursor.{Standing}
use Rattle.pearlite.proofs.Terms.{front_inside, fault_inside, reaches, one_term, no_term}
use Rattle.source_words.proofs.TokenCounts.{few_tokens, as_many_words}
use Rattle.pearlite.proofs.reader.parse_term.Goals as goal

pub words_behind-requires : goal.words_behind-requires
words_behind-requires c =
    let many = as_many_words c.words_of_tokens.new.names c.args.cursor.now.bytes c.args.cursor.now.tokens c.in_ok-words.words c.requires.whole (rw c.bytes.ensures.value at c.in_ok-words.ensures.ok) in
    rw c.as_slice.ensures (omega (arith, many, c.place.ensures.within))

pub go_on-requires-clause-within : goal.go_on-requires-clause-within
go_on-requires-clause-within c =
    let behind = rw c.as_slice.ensures at c.in_ok-behind.ensures in
    let inside = rw behind at (front_inside c.levels.result c.in_ok-behind.behind c.in-Ok.term c.in-Ok.taken c.in-Ok.ensures.ok) in
    reaches c.words_of_tokens.new.names c.args.cursor.now.bytes c.args.cursor.now.tokens c.in_ok-words.words c.args.cursor.now.place c.in-Ok.taken c.requires.whole (rw c.bytes.ensures.value at c.in_ok-words.ensures.ok)
    (rw c.place.ensures.value at c.place.ensures.within) (rw c.place.ensures.value at inside)

pub go_on-requires-clause-few : goal.go_on-requires-clause-few
go_on-requires-clause-few c = omega (arith, few_tokens c.args.cursor.now.bytes c.args.cursor.now.tokens c.requires.whole, rw c.bytes.ensures.value at c.bytes.ensures.few)

pub go_on-requires-in-Err-clause-within : goal.go_on-requires-in-Err-clause-within
go_on-requires-in-Err-clause-within c =
    let behind = rw c.as_slice.ensures at c.in_ok-behind.ensures in
    let inside = rw behind at (fault_inside c.levels.result c.in_ok-behind.behind c.in-Err.fault c.in-Err.ensures.refused) in
    rw c.position_of.ensures (reaches c.words_of_tokens.new.names c.args.cursor.now.bytes c.args.cursor.now.tokens c.in_ok-words.words c.args.cursor.now.place _ c.requires.whole (rw c.bytes.ensures.value at c.in_ok-words.ensures.ok)
    (rw c.place.ensures.value at c.place.ensures.within) (rw c.place.ensures.value at inside))

pub go_on-requires-in-Err-clause-few : goal.go_on-requires-in-Err-clause-few
go_on-requires-in-Err-clause-few c = omega (arith, few_tokens c.args.cursor.now.bytes c.args.cursor.now.tokens c.requires.whole, rw c.bytes.ensures.value at c.bytes.ensures.few)

pub returns-in-Ok-clause-alone : goal.returns-in-Ok-clause-alone
returns-in-Ok-clause-alone c other after s =
    let behind = rw (c.as_slice.ensures, c.place.ensures.value) at c.in_ok-behind.ensures in
    let read = rw (behind, c.levels.ensures.value) at c.in-Ok.ensures.ok in
    let e = one_term c.args.names.now c.words_of_tokens.new.names c.args.cursor.now c.in_ok-words.words (rw c.bytes.ensures.value at c.in_ok-words.ensures.names) (rw c.bytes.ensures.value at c.in_ok-words.ensures.only)
    c.in-Ok.term c.in-Ok.taken read other after s in
    (e.0, e.1 ∙ sym (ap (λ (x : Standing). x.place) c.go_on.ensures))

pub returns-clause-rightly : goal.returns-clause-rightly
returns-clause-rightly c =
    let behind = rw (c.as_slice.ensures, c.place.ensures.value) at c.in_ok-behind.ensures in
    let refused = rw (behind, c.levels.ensures.value) at c.in-Err.ensures.refused in
    rw (c.error_of.ensures, c.as_slice-in-Err.ensures, behind) (no_term c.args.names.now c.words_of_tokens.new.names c.args.cursor.now c.in_ok-words.words (rw c.bytes.ensures.value at c.in_ok-words.ensures.names)
    (rw c.bytes.ensures.value at c.in_ok-words.ensures.only) _ c.in-Err.fault refused)
