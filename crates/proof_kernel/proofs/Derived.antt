-- What is derived is true.
use Rattle.std.proofs.Common.{ℕ, suc, List, [], ◌∷◌, ◌++◌, refl}
use Rattle.logic_term.specs.declared.obligation.Obligation.{Obligation}
use Rattle.logic_term.specs.Term.{Term}
use Rattle.logic_term.specs.Meaning.{Structure, Env, Holds, structure_of}
use Rattle.logic_term.specs.Obligations.{IsTrueObligation}
use Rattle.logic_term.specs.Canonical.{SameUpToNames}
use Rattle.logic_term.proofs.Alike.{yes_alike}
use Rattle.logic_term.proofs.CanonicalLaw.{same_up_to_names_means}
use Rattle.proof_kernel.specs.Sequent.{Sequent}
use Rattle.proof_kernel.specs.declared.setting.Tables.{Tables}
use Rattle.proof_kernel.specs.declared.step.Step.{Step}
use Rattle.proof_kernel.specs.declared.step.Step.TheVariants.{Intro, Hyp, Split, Lin, OnGoal, OnHypothesis, OnTwo, Rewrite, Decide, OnTerm, Divide, Instantiate, Unpack, ByVariants, Induct}
use Rattle.proof_kernel.specs.Sequent.{IsTrueAt, AllTrueAt}
use Rattle.proof_kernel.specs.Setting.{Setting, IsStructureOf, setting_of, theory_of}
use Rattle.proof_kernel.specs.Derivation.{Gives, by_intro, by_hyp, by_split, by_lin, by_goal, by_hypothesis, by_two, by_rewriting, by_deciding, by_term, by_division, by_instance, by_unpacking, by_variants, by_induction, CitedAreTrue, Derives, no_step, one_step, IsProof}
use Rattle.proof_kernel.proofs.Sound.{held, conjuncts_sound}
use Rattle.proof_kernel.proofs.GoalSound.{goal_sound}
use Rattle.proof_kernel.proofs.HypothesisSound.{hypothesis_sound}
use Rattle.proof_kernel.proofs.PairSound.{pair_sound}
use Rattle.proof_kernel.proofs.RewriteSound.{rewrite_sound}
use Rattle.proof_kernel.proofs.DecideSound.{decide_sound}
use Rattle.proof_kernel.proofs.UnpackSound.{unpack_sound}
use Rattle.proof_kernel.proofs.TermSound.{term_sound, division_sound}
use Rattle.proof_kernel.proofs.InstanceSound.{instance_sound}
use Rattle.proof_kernel.proofs.IntroSound.{intros_sound}
use Rattle.proof_kernel.proofs.VariantSound.{variants_sound, induction_sound}
use Rattle.proof_kernel.proofs.LinearSound.{certifies_sound}

-- terms that differ in bound names alone are true together
same_holds : (S : Structure) (t u : Term) (ρ : Env) → SameUpToNames t u → Holds S t ρ → Holds S u ρ
same_holds S t u ρ e h = (yes_alike _ _ (same_up_to_names_means S t u ρ e)).0 h

-- no step cites anything but hypotheses
nothing_cited : (w : Setting) (S : Structure) (step : Step) → CitedAreTrue w S step
nothing_cited w S (Intro names) = tt
nothing_cited w S (Hyp l) = tt
nothing_cited w S Split = tt
nothing_cited w S (Lin ms) = tt
nothing_cited w S (OnGoal r) = tt
nothing_cited w S (OnHypothesis r l) = tt
nothing_cited w S (OnTwo r l m) = tt
nothing_cited w S (Rewrite r) = tt
nothing_cited w S (Decide l to) = tt
nothing_cited w S (OnTerm r t) = tt
nothing_cited w S (Divide t u) = tt
nothing_cited w S (Instantiate l ts) = tt
nothing_cited w S (Unpack l x) = tt
nothing_cited w S (ByVariants t names) = tt
nothing_cited w S (Induct x names) = tt

module _ (w : Setting) (S : Structure) (is : IsStructureOf w S) where
  pub gives_sound : (s : ℕ) (q : Sequent) (step : Step) (ps : List Sequent) → Gives w s q step ps → CitedAreTrue w S step → AllTrueAt S ps → IsTrueAt S q
  gives_sound s q step ps (by_intro {names = names} {r = r} some i) cited h = intros_sound S s names q r i h.0
  gives_sound s q step ps (by_hyp {l = l} {h = t} e same) cited h = λ ρ sorts hyps. same_holds S t q.goal ρ same (held S l q.hyps t ρ e hyps)
  gives_sound s q step ps (by_split e) cited h = conjuncts_sound S q q.goal h
  gives_sound s q step ps (by_lin {ms = ms} c) cited h = certifies_sound S q ms c
  gives_sound s q step ps (by_goal {r = r} e) cited h = goal_sound S s q ps h r e
  gives_sound s q step ps (by_hypothesis {r = r} {l = l} e) cited h = hypothesis_sound S s q ps h r l e
  gives_sound s q step ps (by_two {r = r} {l = l} {m = m} e) cited h = pair_sound S s q ps h r l m e
  gives_sound s q step ps (by_rewriting {r = r} e) cited h = rewrite_sound S s q ps h r e
  gives_sound s q step ps (by_deciding {l = l} {to = to} e) cited h = decide_sound S s q ps h l to e
  gives_sound s q step ps (by_term {r = r} {t = t} e) cited h = term_sound S s q ps h w.tables.adts (is.0) r t e
  gives_sound s q step ps (by_division {t = t} {u = u} e) cited h = division_sound S s q ps h w.tables.adts (is.0) t u e
  gives_sound s q step ps (by_instance {l = l} {ts = ts} e) cited h = instance_sound S w.tables.adts (is.0) s q ps h l ts e
  gives_sound s q step ps (by_unpacking {l = l} {x = x} new e) cited h = unpack_sound S s q ps h l x new e
  gives_sound s q step ps (by_variants {t = t} {names = names} new e) cited h = variants_sound S w.tables.adts (is.0) s q t names ps new e h
  gives_sound s q step ps (by_induction {x = x} {names = names} new free e) cited h = induction_sound S w.tables.adts (is.0) s q x names ps new free e h

  both_true : (ps qs : List Sequent) → AllTrueAt S (ps ++ qs) → AllTrueAt S ps × AllTrueAt S qs
  both_true [] qs h = (tt, h)
  both_true (p ∷ ps) qs h = let r = both_true ps qs h.1 in ((h.0, r.0), r.1)

  derives_sound : (s : ℕ) (qs : List Sequent) (steps : List Step) (rs : List Sequent) → Derives w s qs steps rs → AllTrueAt S rs → AllTrueAt S qs
  derives_sound s qs steps rs no_step h = h
  derives_sound s qs steps rs (one_step {q = q} {ps = ps} {qs = others} {step = step} {steps = rest} g d) h =
      let r = both_true ps others (derives_sound (suc s) (ps ++ others) rest rs d h) in
      (gives_sound s q step ps g (nothing_cited w S step) r.0, r.1)

pub proof_is_sound : (T : Tables) (o : Obligation) (steps : List Step) → IsProof T o steps → IsTrueObligation (theory_of T) o
proof_is_sound T o steps d θ i ρ = (derives_sound (setting_of T o) (structure_of (theory_of T) θ) (refl, i) 1 _ steps [] d tt).0 ρ tt tt
