-- What a step cites is there, and what it adds to a sequent is its own.
use Rattle.std.proofs.Common.{◌≡◌, ℕ, suc, ◌==◌, Bool, true, false, cond, List, [], ◌∷◌, ◌++◌, map, flat_map, Option, Some, None, ◌⊎◌, inl, inr, refl, subst, arith}
use Rattle.std.specs.List.{Contains}
use Rattle.std.proofs.lemmas.Bool.Decides.{nat_tests}
use Rattle.text_core.specs.declared.name.Name.{Name}
use Rattle.logic_term.specs.declared.kinds.Label2.{Label2}
use Rattle.logic_term.specs.Ty.{Ty}
use Rattle.logic_term.specs.declared.subst.Renaming.{Renaming}
use Rattle.logic_term.specs.Term.{implied, every, Term, apply, bind, no_terms, and_term}
use Rattle.logic_term.specs.Subst.{renamed}
use Rattle.proof_kernel.specs.Sequent.{Sequent}
use Rattle.proof_kernel.specs.declared.step.Multiple.{Multiple}
use Rattle.proof_kernel.specs.declared.step.Reference.{Reference}
use Rattle.proof_kernel.specs.declared.step.Reference.TheVariants.{Goal, Hyp as Of, Back}
use Rattle.proof_kernel.specs.declared.step.Step.{Step}
use Rattle.proof_kernel.specs.Intro.{assuming, declaring, taken}
use Rattle.proof_kernel.specs.Rules.{label, same_label, hypothesis, sort_of, with_goal}
use Rattle.proof_kernel.specs.Linear.{Difference, row_of, row_back, row_if_found, referred, AreRows}
use Rattle.proof_kernel.specs.Setting.{Setting}
use Rattle.proof_kernel.specs.Steps.{labels_in, labels_of, new_names, IsLabelOf, IsVariableOf, AddsItsOwn}
use Rattle.proof_kernel.specs.Derivation.{Gives, by_intro, by_hyp, by_split, by_lin, by_goal, by_hypothesis, by_two, by_rewriting, by_deciding, by_term, by_division, by_instance, by_unpacking, by_variants, by_induction}
use Rattle.proof_kernel.proofs.Each.{Each, Has, each_and, each_of, each_map, contains_itself}
use Rattle.proof_kernel.proofs.FormsAdd.{goal_has, hypothesis_has, pair_has, rewriting_has, decide_has, term_has, division_has, instance_has, unpack_has, instance_there, decide_there, unpack_there, hypothesis_there, pair_there, rewriting_there}
use Rattle.proof_kernel.proofs.Taken.{takes_off_computed}
use Rattle.proof_kernel.proofs.VariantsAdd.{variants_have, induction_has}

row_found : (row : Term → Option Difference) (o : Option Term) (d : Difference) → row_if_found row o ≡ Some d → (t : Term) × (o ≡ Some t)
row_found row None d e = absurd (cc)
row_found row (Some t) d e = (t, refl)

reference_there : (q : Sequent) (of : Reference) (d : Difference) → referred q of ≡ Some d → Each (IsLabelOf q) (labels_in of)
reference_there q Goal d e = tt
reference_there q (Of l) d e = (row_found (row_of q.vars) (hypothesis l q.hyps) d e, tt)
reference_there q (Back l) d e = (row_found (row_back q.vars) (hypothesis l q.hyps) d e, tt)

rows_there : (q : Sequent) (ms : List Multiple) (ds : List Difference) → AreRows q ms ds → Each (IsLabelOf q) (flat_map (λ m. labels_in m.of) ms)
rows_there q [] ds r = tt
rows_there q (m ∷ ms) [] r = absurd r
rows_there q (m ∷ ms) (d ∷ ds) r = each_and (IsLabelOf q) (labels_in m.of) (flat_map (λ m. labels_in m.of) ms) (reference_there q m.of d r.0) (rows_there q ms ds r.1)

module _ (P : Label2 → Type 0) (N : Name → Type 0) (s : ℕ) (own : (k : ℕ) → P (label s k)) where
  more_hyps : (hs gs : List (Label2 × Term)) → Each (λ (h : Label2 × Term). P h.0) hs → Each (λ (h : Label2 × Term). P h.0) gs → Each (λ (h : Label2 × Term). P h.0) (hs ++ gs)
  more_hyps hs gs a b = each_and (λ (h : Label2 × Term). P h.0) hs gs a b

  ended_adds : (g : Term) (q r : Sequent) → Some (with_goal q g) ≡ Some r → Has P N q → Has P N r
  ended_adds g q r e has = let is : with_goal q g ≡ r = cc in subst (Has P N) is has

  taken_adds : (k : ℕ) (names : List Name) (bound : List Renaming) (t : Term) (q r : Sequent) → taken s k names bound t q ≡ Some r → Each N names → Has P N q → Has P N r
  taken_adds k names bound (apply implied (and_term a (and_term b no_terms))) q r e new has =
      taken_adds (suc k) names bound b (assuming q (label s k) (renamed bound a)) r e new (more_hyps q.hyps ((label s k, renamed bound a) ∷ []) has.0 (own k, tt), has.1)
  taken_adds k names bound (apply implied ts) q r e new has = absurd (cc)
  taken_adds k [] bound (bind every y u b) q r e new has = ended_adds (renamed bound (bind every y u b)) q r e has
  taken_adds k (x ∷ xs) bound (bind every y u b) q r e new has =
      taken_adds k xs (bound ++ record { from = y; to = x } ∷ []) b (declaring q x u) r e new.1 (has.0, each_and (λ (v : Name × Ty). N v.0) q.vars ((x, u) ∷ []) has.1 (new.0, tt))
  taken_adds k [] bound t q r e new has = ended_adds (renamed bound t) q r e has
  taken_adds k (x ∷ xs) bound t q r e new has = absurd (cc)

  goals_keep : (q : Sequent) (goals : List Term) → Has P N q → Each (Has P N) (map (with_goal q) goals)
  goals_keep q [] has = tt
  goals_keep q (t ∷ ts) has = (has, goals_keep q ts has)

  -- what the step cites is there; and where P is so of the sequent's labels, and N of its names and of the new ones, they are so of those of the premises
  pub given_adds : (w : Setting) (q : Sequent) (step : Step) (ps : List Sequent) → Gives w s q step ps → Each N (new_names step) → Has P N q → Each (IsLabelOf q) (labels_of step) × Each (Has P N) ps
  given_adds w q step ps (by_intro {names = names} {r = r} some i) new has = (tt, (taken_adds 1 names [] q.goal q r (takes_off_computed s names q r i.takes) new has, tt))
  given_adds w q step ps (by_hyp {h = h} e same) new has = (((h, e), tt), tt)
  given_adds w q step ps (by_split e) new has = (tt, goals_keep q _ has)
  given_adds w q step ps (by_lin {ms = ms} c) new has = (rows_there q ms c.rows c.are_rows, tt)
  given_adds w q step ps (by_goal {r = r} e) new has = (tt, goal_has P N s own q has ps r e)
  given_adds w q step ps (by_hypothesis {r = r} {l = l} e) new has = ((hypothesis_there s q ps r l e, tt), hypothesis_has P N s own q has ps r l e)
  given_adds w q step ps (by_two {r = r} {l = l} {m = m} e) new has = let there = pair_there s q ps r l m e in ((there.0, (there.1, tt)), pair_has P N s own q has ps r l m e)
  given_adds w q step ps (by_rewriting {r = r} e) new has = (rewriting_there s q ps r e, rewriting_has P N s own q has ps r e)
  given_adds w q step ps (by_deciding {l = l} {to = to} e) new has = (decide_there s q ps l to e, decide_has P N s own q has ps l to e)
  given_adds w q step ps (by_term {r = r} {t = t} e) new has = (tt, term_has P N s own q has ps w.tables.adts r t e)
  given_adds w q step ps (by_division {t = t} {u = u} e) new has = (tt, division_has P N s own q has ps w.tables.adts t u e)
  given_adds w q step ps (by_instance {l = l} {ts = ts} e) new has = ((instance_there w.tables.adts s q ps l ts e, tt), instance_has P N s own q has ps w.tables.adts l ts e)
  given_adds w q step ps (by_unpacking {l = l} {x = x} fresh e) new has = ((unpack_there s q ps l x e, tt), unpack_has P N s own q has ps l x new.0 e)
  given_adds w q step ps (by_variants {t = t} {names = names} fresh e) new has = (tt, variants_have P N s own q has ps names new w.tables.adts t e)
  given_adds w q step ps (by_induction {x = x} {names = names} fresh free e) new has = (tt, induction_has P N s own q has ps names new w.tables.adts x e)

-- ---- so what is added is the step's own

found_or : {A : Type 0} (b : Bool) (x : A) (o : Option A) → ((t : A) × (o ≡ Some t)) ⊎ (b ≡ true) → (t : A) × (cond b (Some x) o ≡ Some t)
found_or true x o f = (x, refl)
found_or false x o (inl f) = f
found_or false x o (inr e) = absurd (cc)

same_label_itself : (l : Label2) → same_label l l ≡ true
same_label_itself l = grind (arith, nat_tests)

same_name_itself : (x : Name) → (x.0 == x.0) ≡ true
same_name_itself x = grind (arith, nat_tests)

labels_there : (hs : List (Label2 × Term)) → Each (λ (h : Label2 × Term). (t : Term) × (hypothesis h.0 hs ≡ Some t)) hs
labels_there [] = tt
labels_there (g ∷ hs) = (
  found_or (same_label g.0 g.0) g.1 (hypothesis g.0 hs) (inr (same_label_itself g.0)),
  each_map (λ (h : Label2 × Term). (t : Term) × (hypothesis h.0 hs ≡ Some t)) (λ (h : Label2 × Term). (t : Term) × (hypothesis h.0 (g ∷ hs) ≡ Some t)) hs
      (λ h f. found_or (same_label h.0 g.0) g.1 (hypothesis h.0 hs) (inl f)) (labels_there hs),
)

names_there : (vs : List (Name × Ty)) → Each (λ (v : Name × Ty). (t : Ty) × (sort_of v.0 vs ≡ Some t)) vs
names_there [] = tt
names_there (u ∷ vs) = (
  found_or (u.0.0 == u.0.0) u.1 (sort_of u.0 vs) (inr (same_name_itself u.0)),
  each_map (λ (v : Name × Ty). (t : Ty) × (sort_of v.0 vs ≡ Some t)) (λ (v : Name × Ty). (t : Ty) × (sort_of v.0 (u ∷ vs) ≡ Some t)) vs
      (λ v f. found_or (v.0.0 == u.0.0) u.1 (sort_of v.0 vs) (inl f)) (names_there vs),
)

module _ (w : Setting) (s : ℕ) (q : Sequent) (step : Step) (premises : List Sequent) (g : Gives w s q step premises) where
  abbrev OwnLabel : Label2 → Type 0
  OwnLabel l = IsLabelOf q l ⊎ (l.step ≡ s)

  abbrev OwnName : Name → Type 0
  OwnName x = IsVariableOf q x ⊎ Contains (new_names step) x

  all_own : Each (IsLabelOf q) (labels_of step) × Each (Has OwnLabel OwnName) premises
  all_own = given_adds OwnLabel OwnName s (λ k. inr refl) w q step premises g
      (each_map (Contains (new_names step)) OwnName (new_names step) (λ x c. inr c) (contains_itself (new_names step))) (
        each_map (λ (h : Label2 × Term). (t : Term) × (hypothesis h.0 q.hyps ≡ Some t)) (λ (h : Label2 × Term). OwnLabel h.0) q.hyps (λ h f. inl f) (labels_there q.hyps),
        each_map (λ (v : Name × Ty). (t : Ty) × (sort_of v.0 q.vars ≡ Some t)) (λ (v : Name × Ty). OwnName v.0) q.vars (λ v f. inl f) (names_there q.vars),
      )

  pub cited_there : (l : Label2) → Contains (labels_of step) l → IsLabelOf q l
  cited_there l c = each_of (IsLabelOf q) (labels_of step) l all_own.0 c

  pub adds_its_own : (p : Sequent) → Contains premises p → AddsItsOwn s q step p
  adds_its_own p c =
      let has = each_of (Has OwnLabel OwnName) premises p all_own.1 c in
      record {
        labels = λ h k. each_of (λ (h : Label2 × Term). OwnLabel h.0) p.hyps h has.0 k;
        names = λ v k. each_of (λ (v : Name × Ty). OwnName v.0) p.vars v has.1 k;
      }
