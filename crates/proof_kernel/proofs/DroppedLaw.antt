-- Free names of a local context's hypotheses, from its last entry back.
use Rattle.std.proofs.Common.{◌≡◌, ◌||◌, Bool, true, false, cond, List, [], ◌∷◌, ◌++◌, refl, sym, ◌∙◌, ap, true≢false}
use Rattle.std.specs.Prelude.{if◌then◌else◌}
use Rattle.text_core.specs.declared.name.Name.{Name}
use Rattle.logic_term.specs.declared.kinds.Label2.{Label2}
use Rattle.logic_term.specs.Free.{free}
use Rattle.logic_term.specs.Term.{Term}
use Rattle.proof_kernel.specs.declared.local_context.LocalEntry.{LocalEntry}
use Rattle.proof_kernel.specs.declared.local_context.LocalEntry.TheVariants.{Variable, Hypothesis, Opened, Dropped, Removed}
use Rattle.proof_kernel.specs.Dropped.{is_dropped, free_but_in}
use Rattle.proof_kernel.specs.LocalContext.{hypotheses_in, with_dropped}
use Rattle.proof_kernel.specs.Opened.{opened_hypotheses}
use Rattle.proof_kernel.specs.Rules.{same_label, without, free_in_hyps}
use Rattle.proof_kernel.proofs.LocalLaw.{or_false, or_true, free_more}

-- nothing is dropped
pub free_without_drops : (x : Name) (hs : List (Label2 × Term)) → free_in_hyps x hs ≡ free_but_in x [] hs
free_without_drops x [] = refl
free_without_drops x (h ∷ hs) = ap (λ b. free x h.1 || b) (free_without_drops x hs)

or_assoc : (a b c : Bool) → (a || (b || c)) ≡ ((a || b) || c)
or_assoc true b c = refl
or_assoc false b c = refl

pub free_but_more : (x : Name) (dropped : List Label2) (hs gs : List (Label2 × Term)) → free_but_in x dropped (hs ++ gs) ≡ (free_but_in x dropped hs || free_but_in x dropped gs)
free_but_more x dropped [] gs = refl
free_but_more x dropped (h ∷ hs) gs =
    let here : Bool = if is_dropped h.0 dropped then false else free x h.1 in
    ap (λ b. here || b) (free_but_more x dropped hs gs) ∙ or_assoc here (free_but_in x dropped hs) (free_but_in x dropped gs)

-- one more label
is_dropped_more : (l m : Label2) (dropped : List Label2) → is_dropped l (dropped ++ m ∷ []) ≡ (is_dropped l dropped || same_label m l)
is_dropped_more l m [] = or_comm (same_label m l)
  where
    or_comm : (b : Bool) → (b || false) ≡ b
    or_comm true = refl
    or_comm false = refl
is_dropped_more l m (d ∷ dropped) = ap (λ b. same_label d l || b) (is_dropped_more l m dropped) ∙ or_assoc (same_label d l) (is_dropped l dropped) (same_label m l)

pub free_but_one : (x : Name) (m : Label2) (dropped : List Label2) (hs : List (Label2 × Term)) → free_but_in x dropped (without m hs) ≡ free_but_in x (dropped ++ m ∷ []) hs
free_but_one x m dropped [] = refl
free_but_one x m dropped (h ∷ hs) = at (free_but_one x m dropped hs) (same_label m h.0) refl
  where
    rest : Bool
    rest = free_but_in x (dropped ++ m ∷ []) hs

    at : free_but_in x dropped (without m hs) ≡ rest → (b : Bool) → same_label m h.0 ≡ b → free_but_in x dropped (cond b (without m hs) (h ∷ without m hs)) ≡ ((if is_dropped h.0 (dropped ++ m ∷ []) then false else free x h.1) || rest)
    at same true e = same ∙ ap (λ b. (if b then false else free x h.1) || rest) (sym (is_dropped_more h.0 m dropped ∙ or_true (is_dropped h.0 dropped) (same_label m h.0) e))
    at same false e = ap (λ b. (if is_dropped h.0 dropped then false else free x h.1) || b) same
        ∙ ap (λ b. (if b then false else free x h.1) || rest) (sym (is_dropped_more h.0 m dropped ∙ or_false (is_dropped h.0 dropped) (same_label m h.0) e))

-- ---- from an entry on

free_at : (x : Name) (dropped : List Label2) (e : LocalEntry) (es : List LocalEntry)
    → free_but_in x dropped (hypotheses_in (e ∷ es)) ≡ (free_but_in x (with_dropped e dropped) (hypotheses_in es) || free_but_in x dropped (hypotheses_in (e ∷ [])))
free_at x dropped (Variable y s) es = sym (or_false (free_but_in x dropped (hypotheses_in es)) false refl)
free_at x dropped (Removed y) es = sym (or_false (free_but_in x dropped (hypotheses_in es)) false refl)
free_at x dropped (Hypothesis l t) es = free_but_more x dropped (hypotheses_in es) ((l, t) ∷ [])
free_at x dropped (Opened o) es = free_but_more x dropped (hypotheses_in es) (opened_hypotheses o.step o.names o.context)
free_at x dropped (Dropped l) es = free_but_one x l dropped (hypotheses_in es) ∙ sym (or_false (free_but_in x (dropped ++ l ∷ []) (hypotheses_in es)) false refl)

pub none_free_before : (x : Name) (dropped : List Label2) (e : LocalEntry) (here es : List LocalEntry) → here ≡ e ∷ es → free_but_in x dropped (hypotheses_in (e ∷ [])) ≡ false
    → free_but_in x dropped (hypotheses_in here) ≡ free_but_in x (with_dropped e dropped) (hypotheses_in es)
none_free_before x dropped e here es is h = ap (λ hs. free_but_in x dropped (hypotheses_in hs)) is ∙ free_at x dropped e es ∙ or_false (free_but_in x (with_dropped e dropped) (hypotheses_in es)) _ h

pub some_free_here : (x : Name) (dropped : List Label2) (e : LocalEntry) (here es : List LocalEntry) → here ≡ e ∷ es → free_but_in x dropped (hypotheses_in (e ∷ [])) ≡ true → free_but_in x dropped (hypotheses_in here) ≡ true
some_free_here x dropped e here es is h = ap (λ hs. free_but_in x dropped (hypotheses_in hs)) is ∙ free_at x dropped e es ∙ or_true (free_but_in x (with_dropped e dropped) (hypotheses_in es)) _ h

-- ---- a number past all

neither : (a b : Bool) → (a || b) ≡ false → (a ≡ false) × (b ≡ false)
neither true b e = absurd (true≢false e)
neither false b e = (refl, e)

without_not_free : (x : Name) (m : Label2) (hs : List (Label2 × Term)) → free_in_hyps x hs ≡ false → free_in_hyps x (without m hs) ≡ false
without_not_free x m [] h = refl
without_not_free x m (g ∷ hs) h =
    let split = neither (free x g.1) (free_in_hyps x hs) h in
    at split.0 (without_not_free x m hs split.1) (same_label m g.0)
  where
    at : free x g.1 ≡ false → free_in_hyps x (without m hs) ≡ false → (b : Bool) → free_in_hyps x (cond b (without m hs) (g ∷ without m hs)) ≡ false
    at here rest true = rest
    at here rest false = ap (λ b. b || free_in_hyps x (without m hs)) here ∙ rest

not_free_at : (x : Name) (e : LocalEntry) (es : List LocalEntry) → free_in_hyps x (hypotheses_in (e ∷ [])) ≡ false → free_in_hyps x (hypotheses_in es) ≡ false → free_in_hyps x (hypotheses_in (e ∷ es)) ≡ false
not_free_at x (Variable y s) es h g = g
not_free_at x (Removed y) es h g = g
not_free_at x (Hypothesis l t) es h g = free_more x (hypotheses_in es) ((l, t) ∷ []) ∙ or_false (free_in_hyps x (hypotheses_in es)) _ h ∙ g
not_free_at x (Opened o) es h g = free_more x (hypotheses_in es) (opened_hypotheses o.step o.names o.context) ∙ or_false (free_in_hyps x (hypotheses_in es)) _ h ∙ g
not_free_at x (Dropped l) es h g = without_not_free x l (hypotheses_in es) g

pub not_free_before : (x : Name) (e : LocalEntry) (here es : List LocalEntry) → here ≡ e ∷ es → free_in_hyps x (hypotheses_in (e ∷ [])) ≡ false → free_in_hyps x (hypotheses_in es) ≡ false → free_in_hyps x (hypotheses_in here) ≡ false
not_free_before x e here es is h g = ap (λ hs. free_in_hyps x (hypotheses_in hs)) is ∙ not_free_at x e es h g
