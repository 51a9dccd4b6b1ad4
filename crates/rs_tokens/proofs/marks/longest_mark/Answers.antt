use Rattle.std.proofs.Common.{ℕ, sym, ◌∙◌, ap, take}
use Rattle.rs_tokens.specs.Tables.{marks, kind_in}
use Rattle.rs_tokens.proofs.MarkLaws.{three_longest, two_longest, one_longest, none_longest}
use Rattle.rs_tokens.proofs.marks.longest_mark.Goals as goal

pub returns-in-Some-clause-longest : goal.returns-in-Some-clause-longest
returns-in-Some-clause-longest c = three_longest c.args.text.now c.in-Some.kind c.min-three.result c.min-three.ensures (sym c.kind_of.ensures ∙ c.in-Some.is)

pub returns-in-Some-kind_of-clause-longest : goal.returns-in-Some-kind_of-clause-longest
returns-in-Some-kind_of-clause-longest c =
    let text = c.args.text.now in
    two_longest text c.in-Some-kind_of.kind c.min-two.result c.min-two.ensures
    (ap (λ (n : ℕ). kind_in marks (take n text)) (sym c.min-three.ensures) ∙ sym c.kind_of.ensures ∙ c.in_default.is) (sym c.kind_of-2.ensures ∙ c.in-Some-kind_of.is)

pub returns-in_err-kind-clause-longest : goal.returns-in_err-kind-clause-longest
returns-in_err-kind-clause-longest c =
    let text = c.args.text.now in
    rw c.from_residual.ensures
    (none_longest text
    (ap (λ (n : ℕ). kind_in marks (take n text)) (sym c.min-three.ensures) ∙ sym c.kind_of.ensures ∙ c.in_default.is)
    (ap (λ (n : ℕ). kind_in marks (take n text)) (sym c.min-two.ensures) ∙ sym c.kind_of-2.ensures ∙ c.in_default-kind_of.is)
    (ap (λ (n : ℕ). kind_in marks (take n text)) (sym c.min-one.ensures) ∙ sym c.kind_of-3.ensures ∙ c.in_err-kind.was))

pub returns-clause-longest : goal.returns-clause-longest
returns-clause-longest c =
    let text = c.args.text.now in
    one_longest text c.in_ok-kind.kind c.min-one.result c.min-one.ensures
    (ap (λ (n : ℕ). kind_in marks (take n text)) (sym c.min-three.ensures) ∙ sym c.kind_of.ensures ∙ c.in_default.is)
    (ap (λ (n : ℕ). kind_in marks (take n text)) (sym c.min-two.ensures) ∙ sym c.kind_of-2.ensures ∙ c.in_default-kind_of.is)
    (sym c.kind_of-3.ensures ∙ c.in_ok-kind.was)
