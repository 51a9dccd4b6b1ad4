-- What leads a goal, taken off one lead after the other; this gives exactly what the relation says.
use Rattle.std.proofs.Common.{◌≡◌, ℕ, suc, ◌+◌, false, List, [], ◌∷◌, ◌++◌, map, length, Some, None, refl, sym, ◌∙◌, ap, ap₂, add-one, append_assoc, append-nil, true≢false}
use Rattle.std.specs.List.{enumerate_from}
use Rattle.text_core.specs.declared.name.Name.{Name}
use Rattle.logic_term.specs.declared.kinds.Label2.{Label2}
use Rattle.logic_term.specs.declared.subst.Renaming.{Renaming}
use Rattle.logic_term.specs.Subst.{renamed}
use Rattle.logic_term.specs.Term.{implied, every, Term, apply, bind, no_terms, and_term, implies, forall, is_implication, is_quantified}
use Rattle.logic_term.specs.Ty.{Ty}
use Rattle.proof_kernel.specs.Sequent.{Sequent}
use Rattle.proof_kernel.specs.Intro.{assuming, declaring, by_names, taken}
use Rattle.proof_kernel.specs.Rules.{label, with_goal, Lead, premise, quantifier, led_by, variables, premises, renamings, under_names, TakesOff}

-- no implication and no quantifier leads the term
pub other_ends : (s k : ℕ) (names : List Name) (bound : List Renaming) (t : Term) (q : Sequent) → is_implication t ≡ false → is_quantified t ≡ false
    → taken s k names bound t q ≡ by_names names (Some (with_goal q (renamed bound t))) (λ x others. None)
other_ends s k names bound (apply implied ts) q e f = absurd (true≢false e)
other_ends s k names bound (bind every y u b) q e f = absurd (true≢false f)
other_ends s k names bound t q e f = refl

-- no name is left
pub none_left : (s k : ℕ) (bound : List Renaming) (t : Term) (q : Sequent) → is_implication t ≡ false → taken s k [] bound t q ≡ Some (with_goal q (renamed bound t))
none_left s k bound (apply implied ts) q e = absurd (true≢false e)
none_left s k bound (bind every y u b) q e = refl
none_left s k bound t q e = refl

-- ---- what the relation says, where some is taken off already

abbrev pub sequent : List (Name × Ty) → List (Label2 × Term) → Term → Sequent
sequent vs hs t = record { vars = vs; hyps = hs; goal = t }

same_sequent : {us vs : List (Name × Ty)} {gs hs : List (Label2 × Term)} {a b : Term} → us ≡ vs → gs ≡ hs → a ≡ b → Some (sequent us gs a) ≡ Some (sequent vs hs b)
same_sequent e f g = λ i. Some (sequent (e i) (f i) (g i))

abbrev assumed_from : ℕ → ℕ → List Renaming → List Name → List (List (Name × Ty) × Term) → List (Label2 × Term)
assumed_from s k bound names ps = map (λ p. (label s p.0, renamed (bound ++ renamings p.1.0 names) p.1.1)) (enumerate_from k ps)

abbrev taken_off : ℕ → ℕ → List Name → List Renaming → List Lead → Term → Sequent → Sequent
taken_off s k names bound leads end q = sequent
    (q.vars ++ under_names (variables leads) names)
    (q.hyps ++ assumed_from s k bound names (premises leads))
    (renamed (bound ++ renamings (variables leads) names) end)

-- one more quantifier before all premises
behind_quantifier : (s k : ℕ) (bound : List Renaming) (x y : Name) (u : Ty) (xs : List Name) (ps : List (List (Name × Ty) × Term))
    → assumed_from s k (bound ++ record { from = y; to = x } ∷ []) xs ps ≡ assumed_from s k bound (x ∷ xs) (map (λ p. ((y, u) ∷ p.0, p.1)) ps)
behind_quantifier s k bound x y u xs [] = refl
behind_quantifier s k bound x y u xs (p ∷ ps) =
    ap₂ (λ rs hs. (label s k, renamed rs p.1) ∷ hs) (append_assoc bound (record { from = y; to = x } ∷ []) (renamings p.0 xs)) (behind_quantifier s (k + 1) bound x y u xs ps)

-- the relation's result is what is computed
pub computed : (s k : ℕ) (names : List Name) (bound : List Renaming) (leads : List Lead) (end : Term) (q : Sequent) → is_implication end ≡ false → length names ≡ length (variables leads)
    → taken s k names bound (led_by leads end) q ≡ Some (taken_off s k names bound leads end q)
computed s k [] bound [] end q e l = none_left s k bound end q e ∙ same_sequent (sym (append-nil q.vars)) (sym (append-nil q.hyps)) (ap (λ rs. renamed rs end) (sym (append-nil bound)))
computed s k (x ∷ xs) bound [] end q e l = absurd (cc)
computed s k names bound (premise a ∷ leads) end q e l =
    let next = assuming q (label s k) (renamed bound a) in
    let here : (q.hyps ++ (label s k, renamed bound a) ∷ []) ++ assumed_from s (suc k) bound names (premises leads) ≡ q.hyps ++ assumed_from s k bound names (([], a) ∷ premises leads) =
    append_assoc q.hyps ((label s k, renamed bound a) ∷ []) (assumed_from s (suc k) bound names (premises leads))
    ∙ ap₂ (λ rs n. q.hyps ++ (label s k, renamed rs a) ∷ assumed_from s n bound names (premises leads)) (sym (append-nil bound)) (sym (add-one k)) in
    computed s (suc k) names bound leads end next e l ∙ same_sequent refl here refl
computed s k [] bound (quantifier y u ∷ leads) end q e l = absurd (cc)
computed s k (x ∷ xs) bound (quantifier y u ∷ leads) end q e l =
    let more : List Renaming = bound ++ record { from = y; to = x } ∷ [] in
    computed s k xs more leads end (declaring q x u) e (cc) ∙ same_sequent
    (append_assoc q.vars ((x, u) ∷ []) (under_names (variables leads) xs))
    (ap (λ hs. q.hyps ++ hs) (behind_quantifier s k bound x y u xs (premises leads)))
    (ap (λ rs. renamed rs end) (append_assoc bound (record { from = y; to = x } ∷ []) (renamings (variables leads) xs)))

-- ---- what is computed is of leads

record Led (names : List Name) (t : Term) : Type 0 where
  leads : List Lead
  end : Term
  was : t ≡ led_by leads end
  named : length names ≡ length (variables leads)
  whole : is_implication end ≡ false

ended : (t : Term) → is_implication t ≡ false → Led [] t
ended t e = record { leads = []; end = t; was = refl; named = refl; whole = e }

found : (s k : ℕ) (names : List Name) (bound : List Renaming) (t : Term) (q r : Sequent) → taken s k names bound t q ≡ Some r → Led names t
found s k names bound (apply implied (and_term a (and_term b no_terms))) q r e =
    let rest = found s (suc k) names bound b (assuming q (label s k) (renamed bound a)) r e in
    record { leads = premise a ∷ rest.leads; end = rest.end; was = ap (implies a) rest.was; named = rest.named; whole = rest.whole }
found s k names bound (apply implied ts) q r e = absurd (cc)
found s k [] bound (bind every y t b) q r e = ended (bind every y t b) refl
found s k (x ∷ xs) bound (bind every y t b) q r e =
    let rest = found s k xs (bound ++ record { from = y; to = x } ∷ []) b (declaring q x t) r e in
    record { leads = quantifier y t ∷ rest.leads; end = rest.end; was = ap (forall y t) rest.was; named = ap suc rest.named; whole = rest.whole }
found s k [] bound t q r e = ended t refl
found s k (x ∷ xs) bound t q r e = absurd (cc)

-- ---- so both are the same

one_some : {x y : Sequent} → Some x ≡ Some y → x ≡ y
one_some e = cc

pub takes_off_computed : (s : ℕ) (names : List Name) (q r : Sequent) → TakesOff s names q r → taken s 1 names [] q.goal q ≡ Some r
takes_off_computed s names q r t =
    ap (λ g. taken s 1 names [] g q) t.was ∙ computed s 1 names [] t.leads t.end q t.whole t.named ∙ same_sequent (sym t.vars) (sym t.hyps) (sym t.goal)

pub computed_takes_off : (s : ℕ) (names : List Name) (q r : Sequent) → taken s 1 names [] q.goal q ≡ Some r → TakesOff s names q r
computed_takes_off s names q r e =
    let f = found s 1 names [] q.goal q r e in
    let is : taken_off s 1 names [] f.leads f.end q ≡ r = one_some (sym (ap (λ g. taken s 1 names [] g q) f.was ∙ computed s 1 names [] f.leads f.end q f.whole f.named) ∙ e) in
    record {
      leads = f.leads;
      end = f.end;
      was = f.was;
      named = f.named;
      whole = f.whole;
      vars = ap (λ p. p.vars) (sym is);
      hyps = ap (λ p. p.hyps) (sym is);
      goal = ap (λ p. p.goal) (sym is);
    }

pub takes_off_once : (s : ℕ) (names : List Name) (q r p : Sequent) → TakesOff s names q r → TakesOff s names q p → p ≡ r
takes_off_once s names q r p t u = one_some (sym (takes_off_computed s names q p u) ∙ takes_off_computed s names q r t)
