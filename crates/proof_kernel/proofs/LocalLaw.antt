-- Looking through a local context, from its last entry back.
use Rattle.std.proofs.Common.{◌≡◌, ℕ, ◌||◌, ◌==◌, Bool, true, false, cond, List, [], ◌∷◌, ◌++◌, Option, Some, None, refl, sym, ◌∙◌, ap, ap₂, true≢false}
use Rattle.std.specs.Option.{option_or}
use Rattle.std.specs.Prelude.{if◌then◌else◌}
use Rattle.text_core.specs.declared.name.Name.{Name}
use Rattle.logic_term.specs.declared.kinds.Label2.{Label2}
use Rattle.logic_term.specs.Free.{free}
use Rattle.logic_term.specs.Term.{Term}
use Rattle.logic_term.specs.Ty.{Ty}
use Rattle.proof_kernel.specs.declared.local_context.LocalEntry.{LocalEntry}
use Rattle.proof_kernel.specs.declared.local_context.LocalEntry.TheVariants.{Variable, Hypothesis, Opened, Dropped, Removed}
use Rattle.logic_term.proofs.FreeLaw.{same_test}
use Rattle.proof_kernel.specs.LocalContext.{variables_in, hypotheses_in, drops, removes}
use Rattle.proof_kernel.specs.Opened.{opened_hypotheses}
use Rattle.proof_kernel.specs.Rules.{hypothesis, sort_of, free_in_hyps, same_label, without, without_variable}
use Rattle.proof_kernel.proofs.Sound.{and_true}

-- the first of both
abbrev pub or_else : {A : Type 0} → Option A → Option A → Option A
or_else (Some x) o = Some x
or_else None o = o

pub or_none : {A : Type 0} (o : Option A) → or_else o None ≡ o
or_none (Some x) = refl
or_none None = refl

or_assoc : {A : Type 0} (o p q : Option A) → or_else (or_else o p) q ≡ or_else o (or_else p q)
or_assoc (Some x) p q = refl
or_assoc None p q = refl

by_head : {A : Type 0} (b : Bool) (x : A) (o p q : Option A) → o ≡ or_else p q → (if b then Some x else o) ≡ or_else (if b then Some x else p) q
by_head true x o p q e = refl
by_head false x o p q e = e

-- ---- sorts

sort_more : (x : Name) (vs ws : List (Name × Ty)) → sort_of x (vs ++ ws) ≡ or_else (sort_of x vs) (sort_of x ws)
sort_more x [] ws = refl
sort_more x (v ∷ vs) ws = by_head (x.0 == v.0.0) v.1 (sort_of x (vs ++ ws)) (sort_of x vs) (sort_of x ws) (sort_more x vs ws)

-- a variable that is taken out is not found
removed_gone : (x : Name) (vs : List (Name × Ty)) → sort_of x (without_variable x vs) ≡ None
removed_gone x [] = refl
removed_gone x (v ∷ vs) = gone (removed_gone x vs) (x.0 == v.0.0) refl
  where
    gone : sort_of x (without_variable x vs) ≡ None → (b : Bool) → (x.0 == v.0.0) ≡ b → sort_of x (cond b (without_variable x vs) (v ∷ without_variable x vs)) ≡ None
    gone rest true e = rest
    gone rest false e = rw e rest

-- another one is
other_variable_kept : (x y : Name) (vs : List (Name × Ty)) → (y.0 == x.0) ≡ false → sort_of x (without_variable y vs) ≡ sort_of x vs
other_variable_kept x y [] d = refl
other_variable_kept x y (v ∷ vs) d = kept (other_variable_kept x y vs d) (y.0 == v.0.0) refl
  where
    passed : (b : Bool) → (x.0 == v.0.0) ≡ b → (y.0 == v.0.0) ≡ true → (if b then Some v.1 else sort_of x vs) ≡ sort_of x vs
    passed true e f = absurd (true≢false (sym f ∙ ap (λ n. y.0 == n) (sym (same_test x.0 v.0.0 e)) ∙ d))
    passed false e f = refl

    kept : sort_of x (without_variable y vs) ≡ sort_of x vs → (b : Bool) → (y.0 == v.0.0) ≡ b → sort_of x (cond b (without_variable y vs) (v ∷ without_variable y vs)) ≡ (if x.0 == v.0.0 then Some v.1 else sort_of x vs)
    kept rest true e = rest ∙ sym (passed (x.0 == v.0.0) refl e)
    kept rest false e = ap (λ o. if x.0 == v.0.0 then Some v.1 else o) rest

pub sort_removed : (x : Name) (e : LocalEntry) (here es : List LocalEntry) (all found : Option Ty) → removes e x ≡ true → here ≡ e ∷ es → all ≡ or_else (sort_of x (variables_in here)) found → all ≡ found
sort_removed x (Removed y) here es all found r is h =
    let same : y ≡ x = ap (λ (n : ℕ). let name : Name = record { 0 = n } in name) (same_test y.0 x.0 r) in
    let none : sort_of x (without_variable y (variables_in es)) ≡ None = ap (λ z. sort_of x (without_variable z (variables_in es))) same ∙ removed_gone x (variables_in es) in
    h ∙ ap (λ hs. or_else (sort_of x (variables_in hs)) found) is ∙ ap (λ o. or_else o found) none
sort_removed x e here es all found r is h = absurd (cc)

pub sort_found : (x : Name) (e : LocalEntry) (es : List LocalEntry) (found : Option Ty) → removes e x ≡ false
    → or_else (sort_of x (variables_in (e ∷ es))) found ≡ or_else (sort_of x (variables_in es)) (or_else (sort_of x (variables_in (e ∷ []))) found)
sort_found x (Variable y s) es found d =
    ap (λ o. or_else o found) (sort_more x (variables_in es) ((y, s) ∷ [])) ∙ or_assoc (sort_of x (variables_in es)) (sort_of x ((y, s) ∷ [])) found
sort_found x (Hypothesis l h) es found d = refl
sort_found x (Opened o) es found d = refl
sort_found x (Dropped l) es found d = refl
sort_found x (Removed y) es found d = ap (λ o. or_else o found) (other_variable_kept x y (variables_in es) d)

pub sort_seen : (x : Name) (e : LocalEntry) (here es : List LocalEntry) (all found at : Option Ty) → removes e x ≡ false → here ≡ e ∷ es → at ≡ sort_of x (variables_in (e ∷ []))
    → all ≡ or_else (sort_of x (variables_in here)) found → all ≡ or_else (sort_of x (variables_in es)) (or_else at found)
sort_seen x e here es all found at d is here_is h =
    h ∙ ap (λ hs. or_else (sort_of x (variables_in hs)) found) is ∙ sort_found x e es found d ∙ ap (λ o. or_else (sort_of x (variables_in es)) (or_else o found)) (sym here_is)

-- ---- hypotheses

pub hypothesis_more : (l : Label2) (hs gs : List (Label2 × Term)) → hypothesis l (hs ++ gs) ≡ or_else (hypothesis l hs) (hypothesis l gs)
hypothesis_more l [] gs = refl
hypothesis_more l (h ∷ hs) gs = by_head (same_label l h.0) h.1 (hypothesis l (hs ++ gs)) (hypothesis l hs) (hypothesis l gs) (hypothesis_more l hs gs)

same_label_is : (l m : Label2) → same_label l m ≡ true → l ≡ m
same_label_is l m e =
    let both = and_true (l.step == m.step) (l.part == m.part) e in
    let step : l.step ≡ m.step = same_test l.step m.step both.0 in
    let part : l.part ≡ m.part = same_test l.part m.part both.1 in
    ap₂ (λ (j k : ℕ). record { step = j; part = k }) step part

-- what is forgotten is not found
dropped_gone : (l : Label2) (hs : List (Label2 × Term)) → hypothesis l (without l hs) ≡ None
dropped_gone l [] = refl
dropped_gone l (h ∷ hs) = gone (dropped_gone l hs) (same_label l h.0) refl
  where
    gone : hypothesis l (without l hs) ≡ None → (b : Bool) → same_label l h.0 ≡ b → hypothesis l (cond b (without l hs) (h ∷ without l hs)) ≡ None
    gone rest true e = rest
    gone rest false e = rw e rest

-- another one is
other_kept : (l m : Label2) (hs : List (Label2 × Term)) → same_label l m ≡ false → hypothesis l (without m hs) ≡ hypothesis l hs
other_kept l m [] d = refl
other_kept l m (h ∷ hs) d = kept (other_kept l m hs d) (same_label m h.0) refl
  where
    passed : (b : Bool) → same_label l h.0 ≡ b → same_label m h.0 ≡ true → (if b then Some h.1 else hypothesis l hs) ≡ hypothesis l hs
    passed true e f = absurd (true≢false (sym e ∙ ap (λ k. same_label l k) (sym (same_label_is m h.0 f)) ∙ d))
    passed false e f = refl

    kept : hypothesis l (without m hs) ≡ hypothesis l hs → (b : Bool) → same_label m h.0 ≡ b → hypothesis l (cond b (without m hs) (h ∷ without m hs)) ≡ (if same_label l h.0 then Some h.1 else hypothesis l hs)
    kept rest true e = rest ∙ sym (passed (same_label l h.0) refl e)
    kept rest false e = ap (λ o. if same_label l h.0 then Some h.1 else o) rest

pub hypothesis_found : (l : Label2) (e : LocalEntry) (es : List LocalEntry) (found : Option Term) → drops e l ≡ false
    → or_else (hypothesis l (hypotheses_in (e ∷ es))) found ≡ or_else (hypothesis l (hypotheses_in es)) (or_else (hypothesis l (hypotheses_in (e ∷ []))) found)
hypothesis_found l (Variable y s) es found d = refl
hypothesis_found l (Removed y) es found d = refl
hypothesis_found l (Dropped m) es found d = ap (λ o. or_else o found) (other_kept l m (hypotheses_in es) d)
hypothesis_found l (Hypothesis m h) es found d =
    ap (λ o. or_else o found) (hypothesis_more l (hypotheses_in es) ((m, h) ∷ [])) ∙ or_assoc (hypothesis l (hypotheses_in es)) (hypothesis l ((m, h) ∷ [])) found
hypothesis_found l (Opened p) es found d =
    let hs = opened_hypotheses p.step p.names p.context in
    ap (λ o. or_else o found) (hypothesis_more l (hypotheses_in es) hs) ∙ or_assoc (hypothesis l (hypotheses_in es)) (hypothesis l hs) found

pub hypothesis_seen : (l : Label2) (e : LocalEntry) (here es : List LocalEntry) (all found at : Option Term) → drops e l ≡ false → here ≡ e ∷ es → at ≡ hypothesis l (hypotheses_in (e ∷ []))
    → all ≡ or_else (hypothesis l (hypotheses_in here)) found → all ≡ or_else (hypothesis l (hypotheses_in es)) (or_else at found)
hypothesis_seen l e here es all found at d is here_is h =
    h ∙ ap (λ hs. or_else (hypothesis l (hypotheses_in hs)) found) is ∙ hypothesis_found l e es found d ∙ ap (λ o. or_else (hypothesis l (hypotheses_in es)) (or_else o found)) (sym here_is)

gone_at : (l : Label2) (e : LocalEntry) (es : List LocalEntry) → drops e l ≡ true → hypothesis l (hypotheses_in (e ∷ es)) ≡ None
gone_at l (Dropped m) es d = ap (λ k. hypothesis l (without k (hypotheses_in es))) (sym (same_label_is l m d)) ∙ dropped_gone l (hypotheses_in es)
gone_at l e es d = absurd (true≢false (sym d))

-- where it is forgotten, what is found behind is all there is
pub hypothesis_dropped : (l : Label2) (e : LocalEntry) (here es : List LocalEntry) (all found : Option Term) → drops e l ≡ true → here ≡ e ∷ es
    → all ≡ or_else (hypothesis l (hypotheses_in here)) found → all ≡ found
hypothesis_dropped l e here es all found d is h = h ∙ ap (λ hs. or_else (hypothesis l (hypotheses_in hs)) found) is ∙ ap (λ o. or_else o found) (gone_at l e es d)

or_is_else : {A : Type 0} (o p : Option A) → option_or o p ≡ or_else o p
or_is_else (Some x) p = refl
or_is_else None p = refl

-- the earlier one of two
pub hypothesis_left : (l : Label2) (es : List LocalEntry) (all found at now : Option Term) → now ≡ option_or at found
    → all ≡ or_else (hypothesis l (hypotheses_in es)) (or_else at found) → all ≡ or_else (hypothesis l (hypotheses_in es)) now
hypothesis_left l es all found at now is h = h ∙ ap (λ o. or_else (hypothesis l (hypotheses_in es)) o) (sym (is ∙ or_is_else at found))

-- ---- free names

pub free_more : (x : Name) (hs gs : List (Label2 × Term)) → free_in_hyps x (hs ++ gs) ≡ (free_in_hyps x hs || free_in_hyps x gs)
free_more x [] gs = refl
free_more x (h ∷ hs) gs = by (free x h.1) (free_more x hs gs)
  where
    by : (b : Bool) → free_in_hyps x (hs ++ gs) ≡ (free_in_hyps x hs || free_in_hyps x gs) → (b || free_in_hyps x (hs ++ gs)) ≡ ((b || free_in_hyps x hs) || free_in_hyps x gs)
    by true e = refl
    by false e = e

pub or_false : (a b : Bool) → b ≡ false → (a || b) ≡ a
or_false true b e = refl
or_false false b e = e

pub or_true : (a b : Bool) → b ≡ true → (a || b) ≡ true
or_true true b e = refl
or_true false b e = e
