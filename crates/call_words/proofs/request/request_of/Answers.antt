use Rattle.std.proofs.Common.{◌≡◌, ◌∙◌, [], true, inl, inr, subst, sym}
use Rattle.std.specs.Prelude.{map, string_bytes}
use Rattle.std.proofs.lemmas.List.Folds.{list_all-map}
use Rattle.clap.specs.Words.{App, HasKind, HasMatchesOf, fault_of, found_of, is_simple_and_free, rows_of}
use Rattle.call_words.specs.Asked.{is_word}
use Rattle.call_words.proofs.AskedLemmas.{asked_of-refused, asked_of-taken, asked_of-too_long, command_is_simple, command_is_simple_and_free}
use Rattle.call_words.proofs.request.request_of.Goals as goal

pub returns-then-not-are_words : goal.returns-then-not-are_words
returns-then-not-are_words c = asked_of-too_long (map string_bytes c.args.words.now)
    (list_all-map is_word string_bytes c.args.words.now ∙ (sym c.are_words.ensures ∙ c.if-not-are_words.true))

pub returns-in-Ok : goal.returns-in-Ok
returns-in-Ok c =
    let words = map string_bytes c.args.words.now in
    let short = list_all-map is_word string_bytes c.args.words.now ∙ (sym c.are_words.ensures ∙ c.if-not-are_words.false) in
    let clean = subst (λ (a : App). is_simple_and_free a ≡ true → fault_of a words ≡ []) c.in_ok-command.ensures c.in-Ok.ensures.kinds
    command_is_simple_and_free in
    let found = subst (λ (a : App). HasMatchesOf a words c.in-Ok.matches) c.in_ok-command.ensures c.in-Ok.ensures.matches
    command_is_simple in
    c.request_in.ensures ∙ asked_of-taken words short clean (rows_of (found_of c.in-Ok.matches)) found.0

pub returns : goal.returns
returns c =
    let words = map string_bytes c.args.words.now in
    let kind = subst (λ (a : App). is_simple_and_free a ≡ true → HasKind (fault_of a words) c.in-Err.error) c.in_ok-command.ensures
    c.in-Err.ensures.kinds command_is_simple_and_free in
    elim kind [
      | inl memory ↦ absurd (c.in_default.not-OutOfMemory (c.kind.ensures ∙ memory))
      | inr among ↦ asked_of-refused words _ among
    ]
