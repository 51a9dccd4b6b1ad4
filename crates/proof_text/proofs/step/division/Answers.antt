use Rattle.std.proofs.Common.{◌≡◌, Some, sym, ◌∙◌, ap, arith}
use Rattle.std.specs.Option.{option_map}
use Rattle.proof_text.specs.ProofTextWords.{two_texts}
use Rattle.proof_text.proofs.NameOrder.{gives_both}
use Rattle.proof_text.proofs.TwoTerms.{two_shorter, two_spelled}
use Rattle.proof_text.proofs.step.division.Goals as goal

pub returns-in_err-divided-clause-grown : goal.returns-in_err-divided-clause-grown
returns-in_err-divided-clause-grown c =
    let found : two_texts c.args.rest.now ≡ Some (c.in_ok-first.first.now, c.in_ok-first.second.now) = sym c.two_texts.ensures ∙ ap (option_map (λ parts. (parts.0.now, parts.1.now))) c.in_ok-first.ensures.ok_part in
    let shorter = two_shorter c.args.rest.now (c.in_ok-first.first.now, c.in_ok-first.second.now) found in
    let grown = c.whole_term.ensures.grown in
    omega (arith, shorter, grown)

pub returns-in_err-divisor-clause-kept : goal.returns-in_err-divisor-clause-kept
returns-in_err-divisor-clause-kept c = λ name text e. c.whole_term-2.ensures.kept name text (c.whole_term.ensures.kept name text e)

pub returns-in_err-divisor-clause-grown : goal.returns-in_err-divisor-clause-grown
returns-in_err-divisor-clause-grown c =
    let found : two_texts c.args.rest.now ≡ Some (c.in_ok-first.first.now, c.in_ok-first.second.now) = sym c.two_texts.ensures ∙ ap (option_map (λ parts. (parts.0.now, parts.1.now))) c.in_ok-first.ensures.ok_part in
    let shorter = two_shorter c.args.rest.now (c.in_ok-first.first.now, c.in_ok-first.second.now) found in
    let first = c.whole_term.ensures.grown in
    let second = c.whole_term-2.ensures.grown in
    omega (arith, shorter, first, second)

pub returns-clause-said : goal.returns-clause-said
returns-clause-said c =
    let found : two_texts c.args.rest.now ≡ Some (c.in_ok-first.first.now, c.in_ok-first.second.now) = sym c.two_texts.ensures ∙ ap (option_map (λ parts. (parts.0.now, parts.1.now))) c.in_ok-first.ensures.ok_part in
    two_spelled c.whole_term.new.names c.whole_term-2.new.names c.args.rest.now (c.in_ok-first.first.now, c.in_ok-first.second.now) c.in_ok-divided.divided c.in_ok-divisor.divisor found
    c.in_ok-divided.ensures.said c.in_ok-divisor.ensures.table c.in_ok-divisor.ensures.said

pub returns-clause-table : goal.returns-clause-table
returns-clause-table c =
    let found : two_texts c.args.rest.now ≡ Some (c.in_ok-first.first.now, c.in_ok-first.second.now) = sym c.two_texts.ensures ∙ ap (option_map (λ parts. (parts.0.now, parts.1.now))) c.in_ok-first.ensures.ok_part in
    gives_both c.args.names.now c.whole_term.new.names c.whole_term-2.new.names c.args.rest.now (c.in_ok-first.first.now, c.in_ok-first.second.now) found c.in_ok-divided.ensures.table c.in_ok-divisor.ensures.table

pub returns-clause-kept : goal.returns-clause-kept
returns-clause-kept c = λ name text e. c.whole_term-2.ensures.kept name text (c.whole_term.ensures.kept name text e)

pub returns-clause-grown : goal.returns-clause-grown
returns-clause-grown c =
    let found : two_texts c.args.rest.now ≡ Some (c.in_ok-first.first.now, c.in_ok-first.second.now) = sym c.two_texts.ensures ∙ ap (option_map (λ parts. (parts.0.now, parts.1.now))) c.in_ok-first.ensures.ok_part in
    let shorter = two_shorter c.args.rest.now (c.in_ok-first.first.now, c.in_ok-first.second.now) found in
    let first = c.whole_term.ensures.grown in
    let second = c.whole_term-2.ensures.grown in
    omega (arith, shorter, first, second)
