-- What is settled: what it stands for was known before, and is of the type.
use Rattle.std.proofs.Common.{◌≡◌, refl, sym, ap, subst, ℕ, zero, suc, ◌+◌, ◌<◌, Bool, true, false, not, List, [], ◌∷◌, ◌++◌, length, get_or, take, arith}
use Rattle.logic_term.specs.Matches.{seen, is_made}
use Rattle.logic_term.specs.Sort.{Declarations}
use Rattle.logic_term.specs.Ty.{Ty, Tys, no_tys, and_ty}
use Rattle.logic_term.specs.Value.{Value, Values, no_values, and_value, parts_of}
use Rattle.pat_check.proofs.Tests.{both, and_of, number_is}
use Rattle.pat_check.specs.Known.{Known, Knowns, anything, other, number, flag, built, no_knowns, and_known, among, is_other, agrees, agree_all}
use Rattle.pat_check.specs.KnownTypes.{IsKnown, AreKnown}
use Rattle.pat_check.specs.KnownView.{knowns_of}
use Rattle.pat_check.specs.PatValue.{PatValue, PatValues, no_parts, stands_for, stand_for_all, IsPatValue, ArePatValues}
use Rattle.pat_check.specs.PatValueView.{pat_values_of}
use Rattle.pat_check.specs.Settled.{Settles, SettleAll}

not_of : (b : Bool) → b ≡ false → not b ≡ true
not_of true e = absurd (cc)
not_of false e = refl

mutual
  pub settled_agrees : (k : Known) (w : PatValue) (v : Value) → Settles k w → stands_for w v ≡ true → agrees k v ≡ true
  settled_agrees anything w v s a = refl
  settled_agrees (other k zs) w v (z, is, f, n) a = subst (λ u. is_other zs u ≡ true) (sym (number_is z (seen v) (subst (λ x. stands_for x v ≡ true) is a))) (not_of (among z zs) n)
  settled_agrees (number z) w v s a = subst (λ x. stands_for x v ≡ true) s a
  settled_agrees (flag b) w v s a = subst (λ x. stands_for x v ≡ true) s a
  settled_agrees (built c ks) w v (ws, is, s) a =
      let g = both (is_made c (seen v)) (stand_for_all ws (parts_of (seen v))) (subst (λ x. stands_for x v ≡ true) is a) in
      and_of _ _ g.0 (settled_agree ks ws (parts_of (seen v)) s g.1)

  pub settled_agree : (ks : Knowns) (ws : PatValues) (vs : Values) → SettleAll ks ws → stand_for_all ws vs ≡ true → agree_all ks vs ≡ true
  settled_agree no_knowns ws no_values s a = refl
  settled_agree no_knowns ws (and_value v vs) s a = absurd (let f = subst (λ x. stand_for_all x (and_value v vs) ≡ true) s a in cc)
  settled_agree (and_known k ks) ws no_values (x, xs, is, s, ss) a = absurd (let f = subst (λ y. stand_for_all y no_values ≡ true) is a in cc)
  settled_agree (and_known k ks) ws (and_value v vs) (x, xs, is, s, ss) a =
      let g = both (stands_for x v) (stand_for_all xs vs) (subst (λ y. stand_for_all y (and_value v vs) ≡ true) is a) in
      and_of _ _ (settled_agrees k x v s g.0) (settled_agree ks xs vs ss g.1)

mutual
  pub settled_known : (Δ : Declarations) (k : Known) (w : PatValue) (t : Ty) → Settles k w → IsKnown Δ k t → IsPatValue Δ w t
  settled_known Δ anything w t s h = subst (λ x. IsPatValue Δ x t) (sym s) tt
  settled_known Δ (other k zs) w t (z, is, f, n) h = subst (λ x. IsPatValue Δ x t) (sym is) (k, h.0, f)
  settled_known Δ (number z) w t s h = subst (λ x. IsPatValue Δ x t) (sym s) h
  settled_known Δ (flag b) w t s h = subst (λ x. IsPatValue Δ x t) (sym s) h
  settled_known Δ (built c ks) w t (ws, is, s) (fs, po, h) = subst (λ x. IsPatValue Δ x t) (sym is) (fs, po, settled_all_known Δ ks ws fs s h)

  settled_all_known : (Δ : Declarations) (ks : Knowns) (ws : PatValues) (ts : Tys) → SettleAll ks ws → AreKnown Δ ks ts → ArePatValues Δ ws ts
  settled_all_known Δ no_knowns ws no_tys s h = subst (λ x. ArePatValues Δ x no_tys) (sym s) tt
  settled_all_known Δ no_knowns ws (and_ty t ts) s h = absurd h
  settled_all_known Δ (and_known k ks) ws no_tys s h = absurd h
  settled_all_known Δ (and_known k ks) ws (and_ty t ts) (x, xs, is, s, ss) h = subst (λ y. ArePatValues Δ y (and_ty t ts)) (sym is) (settled_known Δ k x t s h.0, settled_all_known Δ ks xs ts ss h.1)

-- one more part is settled
pub settle_more : (ks : List Known) (ws : List PatValue) (k : Known) (w : PatValue) → SettleAll (knowns_of ks) (pat_values_of ws) → Settles k w → SettleAll (knowns_of (ks ++ k ∷ [])) (pat_values_of (ws ++ w ∷ []))
settle_more [] [] k w s h = (w, no_parts, refl, h, refl)
settle_more [] (x ∷ ws) k w s h = absurd (cc)
settle_more (y ∷ ks) [] k w (x, xs, is, a, b) h = absurd (cc)
settle_more (y ∷ ks) (z ∷ ws) k w (x, xs, is, a, b) h =
    let e : x ≡ z = cc in
    let f : xs ≡ pat_values_of ws = cc in
    (z, pat_values_of (ws ++ w ∷ []), refl, subst (λ u. Settles y u) e a, settle_more ks ws k w (subst (λ us. SettleAll (knowns_of ks) us) f b) h)

pub take_one : (ks : List Known) (i : ℕ) (k : Known) → k ≡ get_or ks i k → i < length ks → take (i + 1) ks ≡ take i ks ++ k ∷ []
take_one ks i k e l = subst (λ m. take m ks ≡ take i ks ++ k ∷ []) (let f : suc i ≡ i + 1 = omega arith in f) (front ks i e l)
  where
    front : (ks : List Known) (i : ℕ) → k ≡ get_or ks i k → i < length ks → take (suc i) ks ≡ take i ks ++ k ∷ []
    front [] i e l = absurd (omega arith)
    front (x ∷ ks) zero e l = ap (λ y. y ∷ []) (sym e)
    front (x ∷ ks) (suc i) e l = ap (λ ys. x ∷ ys) (front ks i e (omega arith))
