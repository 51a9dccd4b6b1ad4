use Rattle.std.proofs.Common.{◌≡◌, ◌∙◌, [], map, All, refl, ap}
use Rattle.std.proofs.lemmas.List.{length-map}
use Rattle.proof_kernel.specs.Linear.{IsNarrowDifference}
use Rattle.proof_kernel.specs.LinearRows.{difference, form_of, with_all_monomials, row_over}
use Rattle.proof_kernel.proofs.Found.{none_says, some_says}
use Rattle.proof_kernel.proofs.LinearOutcome.{Made, made_rise, outcome_no_forms, outcome_good, outcome_wide, outcome_fails}
use Rattle.proof_kernel.proofs.linear.outcome.Goals as goal

pub check_certificate-requires-clause-atoms_rise : goal.check_certificate-requires-clause-atoms_rise
check_certificate-requires-clause-atoms_rise c =
    made_rise c.as_slice-2.result.now c.as_slice-3.result.now c.as_slice-4.result.now (c.as_slice-4.ensures ∙ c.in_ok-rows.ensures {u = tt})

pub returns-in_default : goal.returns-in_default
returns-in_default c =
    outcome_no_forms (map difference c.args.all.now) c.args.multiples.now
    (none_says c.in_ok-forms.field-0 _ _ c.in_default.is (c.in_ok-forms.ensures {u = tt}))

pub returns-in-Good : goal.returns-in-Good
returns-in-Good c =
    let ds = map difference c.args.all.now in
    let ms = c.args.multiples.now in
    let fs = c.in-Some.forms in
    let table = c.as_slice-2.result.now in
    let rows = c.as_slice-4.result.now in
    let by = c.as_slice-5.result.now in
    let said : All IsNarrowDifference ds × (fs ≡ map form_of ds) = some_says c.in_ok-forms.field-0 _ _ fs c.in-Some.is (c.in_ok-forms.ensures {u = tt}) in
    let made : Made ds ms fs table rows by = record {
      same = length-map c.args.all.now difference ∙ c.requires.same_length;
      are_forms = said.1;
      is_table = c.as_slice-2.ensures ∙ c.in_ok-table.ensures {u = tt} ∙ ap (with_all_monomials []) c.as_slice.ensures;
      are_rows = c.as_slice-4.ensures ∙ c.in_ok-rows.ensures {u = tt} ∙ ap (map (row_over table)) c.as_slice-3.ensures;
      are_by = c.as_slice-5.ensures.value ∙ c.in_ok-by.ensures {u = tt};
    } in
    outcome_good ds ms fs table rows by made said.0 (c.in-Good.ensures.good.0 refl)

pub returns-in-TooWide : goal.returns-in-TooWide
returns-in-TooWide c =
    let ds = map difference c.args.all.now in
    let ms = c.args.multiples.now in
    let fs = c.in-Some.forms in
    let table = c.as_slice-2.result.now in
    let rows = c.as_slice-4.result.now in
    let by = c.as_slice-5.result.now in
    let said : All IsNarrowDifference ds × (fs ≡ map form_of ds) = some_says c.in_ok-forms.field-0 _ _ fs c.in-Some.is (c.in_ok-forms.ensures {u = tt}) in
    let made : Made ds ms fs table rows by = record {
      same = length-map c.args.all.now difference ∙ c.requires.same_length;
      are_forms = said.1;
      is_table = c.as_slice-2.ensures ∙ c.in_ok-table.ensures {u = tt} ∙ ap (with_all_monomials []) c.as_slice.ensures;
      are_rows = c.as_slice-4.ensures ∙ c.in_ok-rows.ensures {u = tt} ∙ ap (map (row_over table)) c.as_slice-3.ensures;
      are_by = c.as_slice-5.ensures.value ∙ c.in_ok-by.ensures {u = tt};
    } in
    outcome_wide ds ms fs table rows by c.in-TooWide.field-0 made ((c.in-TooWide.ensures.wide c.in-TooWide.field-0).0 refl)

pub returns : goal.returns
returns c =
    let ds = map difference c.args.all.now in
    let ms = c.args.multiples.now in
    let fs = c.in-Some.forms in
    let table = c.as_slice-2.result.now in
    let rows = c.as_slice-4.result.now in
    let by = c.as_slice-5.result.now in
    let said : All IsNarrowDifference ds × (fs ≡ map form_of ds) = some_says c.in_ok-forms.field-0 _ _ fs c.in-Some.is (c.in_ok-forms.ensures {u = tt}) in
    let made : Made ds ms fs table rows by = record {
      same = length-map c.args.all.now difference ∙ c.requires.same_length;
      are_forms = said.1;
      is_table = c.as_slice-2.ensures ∙ c.in_ok-table.ensures {u = tt} ∙ ap (with_all_monomials []) c.as_slice.ensures;
      are_rows = c.as_slice-4.ensures ∙ c.in_ok-rows.ensures {u = tt} ∙ ap (map (row_over table)) c.as_slice-3.ensures;
      are_by = c.as_slice-5.ensures.value ∙ c.in_ok-by.ensures {u = tt};
    } in
    let fails = (c.in-Fails.ensures.fails c.in-Fails.field-0).0 refl in
    outcome_fails ds ms fs table rows by made said.0 fails.1 (λ p. let e = c.in-Fails.ensures.good.1 p in cc)
