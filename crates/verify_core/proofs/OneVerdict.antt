-- There is one verdict, and steps are refused at one line.
use Rattle.std.proofs.Common.{◌≡◌, ◌∙◌, ◌⊎◌, inl, inr, refl, sym, ap, subst, ℕ, zero, suc, Bool, true, false, List, [], ◌∷◌, map, Option, None, Some, slice_get}
use Rattle.std.specs.List.{find}
use Rattle.logic_term.specs.declared.obligation.Obligation.{Obligation}
use Rattle.proof_kernel.specs.declared.setting.Tables.{Tables}
use Rattle.proof_kernel.specs.Accepts.{Accepts}
use Rattle.proof_text.specs.declared.proof.Proof.{Proof}
use Rattle.report_out.specs.declared.verdict.FnLine.{FnLine}
use Rattle.report_out.specs.declared.verdict.LeftItem.{LeftItem}
use Rattle.report_out.specs.declared.verdict.Reason.{Reason}
use Rattle.report_out.specs.declared.verdict.Reason.TheVariants.{Missing, Proof as Refused}
use Rattle.verify_core.specs.declared.program.Program.{Program}
use Rattle.verify_core.specs.Laws.{RefusedAtOneLine, RefusedIsNotAccepted, VerdictIsOne}
use Rattle.verify_core.specs.Verdict.{steps_of, IsRefusedAt, is_for, Settles, Judges, left_item, Tells, IsVerified, AreLines}
use Rattle.verify_core.proofs.StepsOnce.{refused_once, refused_is_no_proof}
use Rattle.verify_core.proofs.Basics.{some_same}

-- ---- the line at which steps are refused

pub refused_at_one_line : RefusedAtOneLine
refused_at_one_line = refused_once

pub refused_is_not_accepted : RefusedIsNotAccepted
refused_is_not_accepted T o steps «end» line accepted refused = refused_is_no_proof T o steps «end» line refused accepted

-- ---- one obligation

-- what is made of an obligation that has this proof, or none
abbrev SettledBy : Tables → Obligation → Option Proof → Option Reason → Type 0
SettledBy T o None r = r ≡ Some Missing
SettledBy T o (Some p) r = (Accepts T o (steps_of p.steps) × (r ≡ None)) ⊎ ((line : ℕ) × IsRefusedAt T o p.steps p.«end» line × (r ≡ Some (Refused line)))

settled_by : (T : Tables) (ps : List Proof) (o : Obligation) (r : Option Reason) → Settles T ps o r → SettledBy T o (find (is_for o) ps) r
settled_by T ps o r (Settles.proved {p = p} found accepted) = subst (λ (f : Option Proof). SettledBy T o f None) (sym found) (inl (accepted, refl))
settled_by T ps o r (Settles.missing none) = subst (λ (f : Option Proof). SettledBy T o f (Some Missing)) (sym none) refl
settled_by T ps o r (Settles.refused {p = p} {line = line} found refused) = subst (λ (f : Option Proof). SettledBy T o f (Some (Refused line))) (sym found) (inr (line, refused, refl))

by_one : (T : Tables) (o : Obligation) (f : Option Proof) (r s : Option Reason) → SettledBy T o f r → SettledBy T o f s → r ≡ s
by_one T o None r s a b = a ∙ sym b
by_one T o (Some p) r s (inl a) (inl b) = a.1 ∙ sym b.1
by_one T o (Some p) r s (inl a) (inr b) = absurd (refused_is_no_proof T o p.steps p.«end» b.0 b.1 a.0)
by_one T o (Some p) r s (inr a) (inl b) = absurd (refused_is_no_proof T o p.steps p.«end» a.0 a.1 b.0)
by_one T o (Some p) r s (inr a) (inr b) = a.2 ∙ ap (λ (l : ℕ). Some (Refused l)) (refused_at_one_line T o p.steps p.«end» a.0 b.0 a.1 b.1) ∙ sym b.2

settles_once : (T : Tables) (ps : List Proof) (o : Obligation) (r s : Option Reason) → Settles T ps o r → Settles T ps o s → r ≡ s
settles_once T ps o r s a b = by_one T o (find (is_for o) ps) r s (settled_by T ps o r a) (settled_by T ps o s b)

-- ---- all of them

none_is_not : {A : Type 0} {a : A} → None ≡ Some a → ⊥
none_is_not e = absurd cc

judges_once : {T : Tables} {ps : List Proof} {os : List Obligation} {left others : List LeftItem} {n m : ℕ} → Judges T ps os left n → Judges T ps os others m → (left ≡ others) × (n ≡ m)
judges_once Judges.none Judges.none = (refl, refl)
judges_once (Judges.proved a rest) (Judges.proved b more) =
    let r = judges_once rest more in
    (r.0, ap suc r.1)
judges_once {T} {ps} (Judges.proved {o = o} a rest) (Judges.left {r = s} b more) = absurd (none_is_not (settles_once T ps o None (Some s) a b))
judges_once {T} {ps} (Judges.left {o = o} {r = r} a rest) (Judges.proved b more) = absurd (none_is_not (settles_once T ps o None (Some r) b a))
judges_once {T} {ps} (Judges.left {o = o} {left = left} {r = r} a rest) (Judges.left {left = others} {r = s} b more) =
    let reason : r ≡ s = some_same (settles_once T ps o (Some r) (Some s) a b) in
    let rest_is = judges_once rest more in
    (ap (λ (q : Reason). left_item o q ∷ left) reason ∙ ap (λ (xs : List LeftItem). left_item o s ∷ xs) rest_is.0, rest_is.1)

-- ---- the lines

tells_once : (P : Type 0) (a b : Bool) → Tells a P → Tells b P → a ≡ b
tells_once P true true p q = refl
tells_once P true false p q = absurd (q p)
tells_once P false true p q = absurd (p q)
tells_once P false false p q = refl

same_line : (l k : FnLine) → l.name ≡ k.name → l.verified ≡ k.verified → l ≡ k
same_line l k e f = λ i. record {
  name = e i;
  verified = f i;
}

same_cons : {A : Type 0} (x y : A) (xs ys : List A) → x ∷ xs ≡ y ∷ ys → (x ≡ y) × (xs ≡ ys)
same_cons x y xs ys e = (cc, cc)

-- lists of lines that have the same names, and the same flags at each place
same_lines : (ls ks : List FnLine) → map (λ l. l.name) ls ≡ map (λ l. l.name) ks → ((f : ℕ) (l k : FnLine) → slice_get ls f ≡ Some l → slice_get ks f ≡ Some k → l.verified ≡ k.verified) → ls ≡ ks
same_lines [] [] names flags = refl
same_lines [] (k ∷ ks) names flags = absurd (cc)
same_lines (l ∷ ls) [] names flags = absurd (cc)
same_lines (l ∷ ls) (k ∷ ks) names flags =
    let parts = same_cons l.name k.name (map (λ (x : FnLine). x.name) ls) (map (λ (x : FnLine). x.name) ks) names in
    let here : l ≡ k = same_line l k parts.0 (flags zero l k refl refl) in
    ap (λ (x : FnLine). x ∷ ls) here ∙ ap (λ (xs : List FnLine). k ∷ xs) (same_lines ls ks parts.1 (λ f x y. flags (suc f) x y))

lines_once : (ps : List Proof) (p : Program) (ls ks : List FnLine) → AreLines ps p ls → AreLines ps p ks → ls ≡ ks
lines_once ps p ls ks a b = same_lines ls ks (a.names ∙ sym b.names) (λ f l k is_l is_k. tells_once (IsVerified ps p f) l.verified k.verified (a.told f l is_l) (b.told f k is_k))

-- ---- the verdict

pub verdict_once : VerdictIsOne
verdict_once ps p v other a b =
    let judged = judges_once a.judged b.judged in
    let functions : v.functions ≡ other.functions = lines_once ps p v.functions other.functions a.lines b.lines in
    let obligations : v.obligations ≡ other.obligations = a.counted ∙ sym b.counted in
    λ i. record {
      functions = functions i;
      left = judged.0 i;
      obligations = obligations i;
      proved = judged.1 i;
    }
