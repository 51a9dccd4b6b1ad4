use Rattle.std.proofs.Common.{◌∙◌, refl, arith, ap, length, map, Some}
use Rattle.std.proofs.lemmas.List.{length-map}
use Rattle.proof_text.specs.ProofTextWords.{name_and_names, lists_of, joined}
use Rattle.proof_text.proofs.KeptNames.{keeps_by}
use Rattle.proof_text.proofs.ListLemmas.{read_names, named_shorter, lists_at}
use Rattle.proof_text.proofs.StageLemmas.{now}
use Rattle.proof_text.proofs.step.induct.Goals as goal

pub one_name-requires : goal.one_name-requires
one_name-requires c =
    let short = named_shorter c.args.rest.now _ (read_names (name_and_names c.args.rest.now) c.in_ok-text.text c.in_ok-text.words c.in_ok-text.ensures) in
    let room = c.requires in
    omega (arith, short, room)

pub returns-in_err-name-clause-grown : goal.returns-in_err-name-clause-grown
returns-in_err-name-clause-grown c =
    let short = named_shorter c.args.rest.now _ (read_names (name_and_names c.args.rest.now) c.in_ok-text.text c.in_ok-text.words c.in_ok-text.ensures) in
    let grown = c.one_name.ensures.grown in
    omega (arith, short, grown)

pub name_lists-requires : goal.name_lists-requires
name_lists-requires c =
    let short = named_shorter c.args.rest.now _ (read_names (name_and_names c.args.rest.now) c.in_ok-text.text c.in_ok-text.words c.in_ok-text.ensures) in
    let same = ap length c.deref.ensures.value in
    let grown = c.one_name.ensures.grown in
    let room = c.requires in
    omega (arith, short, same, length-map c.in_ok-text.words.items now, grown, room)

pub returns-in_err-lists-clause-kept : goal.returns-in_err-lists-clause-kept
returns-in_err-lists-clause-kept c = λ name text h. c.name_lists.ensures.kept name text (c.one_name.ensures.kept name text h)

pub returns-in_err-lists-clause-grown : goal.returns-in_err-lists-clause-grown
returns-in_err-lists-clause-grown c =
    let short = named_shorter c.args.rest.now _ (read_names (name_and_names c.args.rest.now) c.in_ok-text.text c.in_ok-text.words c.in_ok-text.ensures) in
    let same = ap length c.deref.ensures.value in
    let first = c.one_name.ensures.grown in
    let others = c.name_lists.ensures.grown in
    omega (arith, short, same, length-map c.in_ok-text.words.items now, first, others)

pub returns-clause-said : goal.returns-clause-said
returns-clause-said c =
    let parts = read_names (name_and_names c.args.rest.now) c.in_ok-text.text c.in_ok-text.words c.in_ok-text.ensures in
    let lists = lists_of (map now c.deref.result.now) in
    let keeps = keeps_by c.one_name.new.names c.name_lists.new.names (joined lists) c.in_ok-lists.ensures.table in
    let named = lists_at c.name_lists.new.names c.in_ok-lists.lists lists c.in_ok-lists.ensures.named in
    (refl, (_, parts, keeps c.in_ok-name.name.0 c.in_ok-text.text.now c.in_ok-name.ensures.named, named ∙ ap (λ words. map (map Some) (lists_of (map now words))) c.deref.ensures.value))

pub returns-clause-kept : goal.returns-clause-kept
returns-clause-kept c = λ name text h. c.name_lists.ensures.kept name text (c.one_name.ensures.kept name text h)

pub returns-clause-grown : goal.returns-clause-grown
returns-clause-grown c =
    let short = named_shorter c.args.rest.now _ (read_names (name_and_names c.args.rest.now) c.in_ok-text.text c.in_ok-text.words c.in_ok-text.ensures) in
    let same = ap length c.deref.ensures.value in
    let first = c.one_name.ensures.grown in
    let others = c.name_lists.ensures.grown in
    omega (arith, short, same, length-map c.in_ok-text.words.items now, first, others)
