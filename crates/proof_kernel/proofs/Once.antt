-- What a step gives is one list of premises.
use Rattle.std.proofs.Common.{◌≡◌, ℕ, ◌+◌, true, false, List, [], ◌∷◌, ◌++◌, map, Option, Some, refl, sym, ◌∙◌, ap, subst}
use Rattle.text_core.specs.declared.name.Name.{Name}
use Rattle.logic_term.specs.Term.{Term, is_conjunction}
use Rattle.logic_term.specs.Canonical.{SameUpToNames}
use Rattle.proof_kernel.specs.Sequent.{Sequent}
use Rattle.proof_kernel.specs.declared.step.Step.{Step}
use Rattle.proof_kernel.specs.declared.step.Step.TheVariants.{Intro, Hyp, Split, Lin, OnGoal, OnHypothesis, OnTwo, Rewrite, Decide, OnTerm, Divide, Instantiate, Unpack, ByVariants, Induct}
use Rattle.proof_kernel.specs.declared.step.Multiple.{Multiple}
use Rattle.proof_kernel.specs.Linear.{Difference, referred, AreRows, AreNarrow, Certifies, PassesWidth}
use Rattle.proof_kernel.specs.GoalRules.{goal_rule}
use Rattle.proof_kernel.specs.HypothesisRules.{hypothesis_rule}
use Rattle.proof_kernel.specs.PairRules.{pair_rule}
use Rattle.proof_kernel.specs.RewriteRules.{rewrite_rule}
use Rattle.proof_kernel.specs.DecideRule.{decide_rule}
use Rattle.proof_kernel.specs.UnpackRule.{unpack_rule}
use Rattle.proof_kernel.specs.TermRules.{term_rule, division_rule}
use Rattle.proof_kernel.specs.Instances.{instance_rule}
use Rattle.proof_kernel.specs.VariantRules.{AllNew, variants_rule, induction_rule}
use Rattle.proof_kernel.specs.Rules.{hypothesis, free_in_hyps, with_goal, conjuncts, IsNew, Intros, TakesSome}
use Rattle.proof_kernel.specs.Setting.{Setting}
use Rattle.proof_kernel.specs.Progress.{Progress}
use Rattle.proof_kernel.specs.Derivation.{Gives, by_intro, by_hyp, by_split, by_lin, by_goal, by_hypothesis, by_two, by_rewriting, by_deciding, by_term, by_division, by_instance, by_unpacking, by_variants, by_induction}
use Rattle.proof_kernel.specs.Kernel.{Applies, IsWide}
use Rattle.proof_kernel.proofs.Taken.{takes_off_once}

-- what a step gives, by the kind of the step
abbrev pub Given : Setting → ℕ → Sequent → Step → List Sequent → Type 0
Given w s q (Intro names) ps = TakesSome names q × ((r : Sequent) × Intros s names q r × (ps ≡ r ∷ []))
Given w s q (Hyp l) ps = (ps ≡ []) × ((h : Term) × (hypothesis l q.hyps ≡ Some h) × SameUpToNames h q.goal)
Given w s q Split ps = (is_conjunction q.goal ≡ true) × (ps ≡ map (with_goal q) (conjuncts q.goal))
Given w s q (Lin ms) ps = (ps ≡ []) × Certifies q ms
Given w s q (OnGoal r) ps = goal_rule r s q ≡ Some ps
Given w s q (OnHypothesis r l) ps = hypothesis_rule r s l q ≡ Some ps
Given w s q (OnTwo r l m) ps = pair_rule r s l m q ≡ Some ps
Given w s q (Rewrite r) ps = rewrite_rule r s q ≡ Some ps
Given w s q (Decide l to) ps = decide_rule s q l to ≡ Some ps
Given w s q (OnTerm r t) ps = term_rule w.tables.adts r s q t ≡ Some ps
Given w s q (Divide t u) ps = division_rule w.tables.adts s q t u ≡ Some ps
Given w s q (Instantiate l ts) ps = instance_rule w.tables.adts s q l ts ≡ Some ps
Given w s q (Unpack l x) ps = IsNew x q × (unpack_rule s q l x ≡ Some ps)
Given w s q (ByVariants t names) ps = AllNew names q × (variants_rule w.tables.adts s q t names ≡ Some ps)
Given w s q (Induct x names) ps = AllNew names q × (free_in_hyps x q.hyps ≡ false) × (induction_rule w.tables.adts s q x names ≡ Some ps)

pub given : (w : Setting) (s : ℕ) (q : Sequent) (step : Step) (ps : List Sequent) → Gives w s q step ps → Given w s q step ps
given w s q step ps (by_intro {r = r} some i) = (some, (r, i, refl))
given w s q step ps (by_hyp {h = h} e same) = (refl, (h, e, same))
given w s q step ps (by_split e) = (e, refl)
given w s q step ps (by_lin c) = (refl, c)
given w s q step ps (by_goal e) = e
given w s q step ps (by_hypothesis e) = e
given w s q step ps (by_two e) = e
given w s q step ps (by_rewriting e) = e
given w s q step ps (by_deciding e) = e
given w s q step ps (by_term e) = e
given w s q step ps (by_division e) = e
given w s q step ps (by_instance e) = e
given w s q step ps (by_unpacking new e) = (new, e)
given w s q step ps (by_variants new e) = (new, e)
given w s q step ps (by_induction new free e) = (new, free, e)

-- ---- each is one

intros_once : (s : ℕ) (names : List Name) (q r p : Sequent) → Intros s names q r → Intros s names q p → p ≡ r
intros_once s names q r p i j = takes_off_once s names q r p i.takes j.takes

same_premises : (o : Option (List Sequent)) (ps rs : List Sequent) → o ≡ Some ps → o ≡ Some rs → ps ≡ rs
same_premises o ps rs e f = cc

once : (w : Setting) (s : ℕ) (q : Sequent) (step : Step) (ps rs : List Sequent) → Given w s q step ps → Given w s q step rs → ps ≡ rs
once w s q (Intro names) ps rs g h = g.1.2 ∙ (ap (λ r. r ∷ []) (intros_once s names q h.1.0 g.1.0 h.1.1 g.1.1) ∙ sym h.1.2)
once w s q (Hyp l) ps rs g h = g.0 ∙ sym h.0
once w s q Split ps rs g h = g.1 ∙ sym h.1
once w s q (Lin ms) ps rs g h = g.0 ∙ sym h.0
once w s q (OnGoal r) ps rs g h = same_premises (goal_rule r s q) ps rs g h
once w s q (OnHypothesis r l) ps rs g h = same_premises (hypothesis_rule r s l q) ps rs g h
once w s q (OnTwo r l m) ps rs g h = same_premises (pair_rule r s l m q) ps rs g h
once w s q (Rewrite r) ps rs g h = same_premises (rewrite_rule r s q) ps rs g h
once w s q (Decide l to) ps rs g h = same_premises (decide_rule s q l to) ps rs g h
once w s q (OnTerm r t) ps rs g h = same_premises (term_rule w.tables.adts r s q t) ps rs g h
once w s q (Divide t u) ps rs g h = same_premises (division_rule w.tables.adts s q t u) ps rs g h
once w s q (Instantiate l ts) ps rs g h = same_premises (instance_rule w.tables.adts s q l ts) ps rs g h
once w s q (Unpack l x) ps rs g h = same_premises (unpack_rule s q l x) ps rs g.1 h.1
once w s q (ByVariants t names) ps rs g h = same_premises (variants_rule w.tables.adts s q t names) ps rs g.1 h.1
once w s q (Induct x names) ps rs g h = same_premises (induction_rule w.tables.adts s q x names) ps rs g.2 h.2

pub gives_once : (w : Setting) (s : ℕ) (q : Sequent) (step : Step) (ps rs : List Sequent) → Gives w s q step ps → Gives w s q step rs → ps ≡ rs
gives_once w s q step ps rs g h = once w s q step ps rs (given w s q step ps g) (given w s q step rs h)

same_first : (q r : Sequent) (qs rs : List Sequent) → q ∷ qs ≡ r ∷ rs → (q ≡ r) × (qs ≡ rs)
same_first q r qs rs e = (cc, cc)

pub applies_once : (before after other : Progress) (step : Step) → Applies before step after → Applies before step other → after ≡ other
applies_once before after other step a b =
    let parts = same_first a.first b.first a.others b.others (sym a.was ∙ b.was) in
    let gives : Gives before.setting before.step b.first step a.premises = subst (λ q. Gives before.setting before.step q step a.premises) parts.0 a.gives in
    let premises : a.premises ≡ b.premises = gives_once before.setting before.step b.first step a.premises b.premises gives b.gives in
    let left : a.premises ++ a.others ≡ b.premises ++ b.others = cc in
    let whole : List Sequent → Progress = λ qs. record before { step = before.step + 1; left = qs } in
    a.is ∙ (ap whole left ∙ sym b.is)

-- ---- a certificate that closes is not too wide

same_row : (o : Option Difference) (d e : Difference) → o ≡ Some d → o ≡ Some e → e ≡ d
same_row o d e p q = cc

rows_once : (q : Sequent) (ms : List Multiple) (ds es : List Difference) → AreRows q ms ds → AreRows q ms es → es ≡ ds
rows_once q [] [] [] a b = refl
rows_once q [] [] (e ∷ es) a b = absurd b
rows_once q [] (d ∷ ds) es a b = absurd a
rows_once q (m ∷ ms) [] es a b = absurd a
rows_once q (m ∷ ms) (d ∷ ds) [] a b = absurd b
rows_once q (m ∷ ms) (d ∷ ds) (e ∷ es) a b =
    let here : e ≡ d = same_row (referred q m.of) d e a.0 b.0 in
    let rest : es ≡ ds = rows_once q ms ds es a.1 b.1 in
    cc

closed_is_narrow : (q : Sequent) (ms : List Multiple) → Certifies q ms → PassesWidth q ms → ⊥
closed_is_narrow q ms c p = p.wide (subst (λ ds. AreNarrow ds ms) (sym (rows_once q ms c.rows p.rows c.are_rows p.are_rows)) c.narrow)

given_is_narrow : (w : Setting) (s : ℕ) (q : Sequent) (step : Step) (ps : List Sequent) (ms : List Multiple) → step ≡ Lin ms → Given w s q step ps → PassesWidth q ms → ⊥
given_is_narrow w s q (Intro names) ps ms e g p = absurd (cc)
given_is_narrow w s q (Hyp l) ps ms e g p = absurd (cc)
given_is_narrow w s q Split ps ms e g p = absurd (cc)
given_is_narrow w s q (OnGoal r) ps ms e g p = absurd (cc)
given_is_narrow w s q (OnHypothesis r l) ps ms e g p = absurd (cc)
given_is_narrow w s q (OnTwo r l m) ps ms e g p = absurd (cc)
given_is_narrow w s q (Rewrite r) ps ms e g p = absurd (cc)
given_is_narrow w s q (Decide l to) ps ms e g p = absurd (cc)
given_is_narrow w s q (OnTerm r t) ps ms e g p = absurd (cc)
given_is_narrow w s q (Divide t u) ps ms e g p = absurd (cc)
given_is_narrow w s q (Instantiate l ts) ps ms e g p = absurd (cc)
given_is_narrow w s q (Unpack l x) ps ms e g p = absurd (cc)
given_is_narrow w s q (ByVariants t names) ps ms e g p = absurd (cc)
given_is_narrow w s q (Induct x names) ps ms e g p = absurd (cc)
given_is_narrow w s q (Lin ns) ps ms e g p = let same : ns ≡ ms = cc in closed_is_narrow q ms (subst (λ l. Certifies q l) same g.1) p

pub wide_is_not_done : (before after : Progress) (step : Step) → IsWide before step → Applies before step after → ⊥
wide_is_not_done before after step w a =
    let parts = same_first a.first w.first a.others w.others (sym a.was ∙ w.was) in
    let gives : Gives before.setting before.step w.first step a.premises = subst (λ q. Gives before.setting before.step q step a.premises) parts.0 a.gives in
    given_is_narrow before.setting before.step w.first step a.premises w.multiples w.is_lin (given before.setting before.step w.first step a.premises gives) w.passes
