-- Along each lowered text the locals in scope are initialised, and where it ends its own local is too.
use Rattle.std.proofs.Common.{◌≡◌, ◌⊎◌, inl, inr, refl, ap, sym, ◌∙◌, subst, ℕ, ◌+◌, ◌≤◌, ◌==◌, Bool, true, false, List, [], ◌∷◌, ◌++◌, map, drop, length, ◌-◌, Option, Some, None, slice_get, arith, length-append, append-nil, true≢false}
use Rattle.std.proofs.lemmas.Bool.{eqb-true}
use Rattle.std.proofs.lemmas.List.{drop_all}
use Rattle.logic_term.specs.declared.kinds.Ctor.{Ctor}
use Rattle.logic_term.specs.declared.kinds.Label.{Label}
use Rattle.logic_term.specs.Ty.{Ty, bool}
use Rattle.text_core.specs.declared.span.Span.{Span}
use Rattle.mir_ir.specs.declared.place.Operand.TheVariants.{Copy}
use Rattle.mir_ir.specs.declared.place.Place.{Place}
use Rattle.mir_ir.specs.declared.statement.Rvalue.{Rvalue}
use Rattle.mir_ir.specs.declared.statement.Rvalue.TheVariants.{Use, Binary, Make}
use Rattle.mir_ir.specs.declared.terminator.Terminator.{Terminator}
use Rattle.mir_ir.specs.WellFormed.{Locals, with, without, Within}
use Rattle.mir_ir.proofs.Taking.{all_taken}
use Rattle.source_kinds.specs.declared.kinds.BinaryOp.{BinaryOp}
use Rattle.type_check.specs.TypedExpr.{TypedExpr}
use Rattle.type_check.specs.WellTyped.{Surroundings, within_loop, EachSpeaks}
use Rattle.mir_ir.specs.declared.terminator.TerminatorKind.TheVariants.{Goto}
use Rattle.mir_build.specs.declared.around.Loop.{Loop}
use Rattle.mir_build.specs.Text.{Title, Line, Makes, Turns, Leaves, made}
use Rattle.mir_build.specs.Lowering.{numbers, Around, Formula, accepted, whole, looping, innermost, binds, moved, ends, head_of, dies, dies_in, puts, puts_at, put_unit, made_by, split, met, calls, turning, spinning, circling, IntoBody}
use Rattle.mir_build.proofs.Numbers.{count}
use Rattle.mir_build.proofs.LawLists.{Has, here, there, has_get, makings-append, count-append, count_self}
use Rattle.mir_build.proofs.LawNames.{HoldsPlaces, head_fits}
use Rattle.mir_build.proofs.LawRuns.{with_self, with_more, with_within, kept, Runs, stops, runs-append, Laid, laid_stops, laid_puts, laid_makes, laid_panics, laid_returns, laid_goes, laid-append}
use Rattle.mir_build.proofs.LawLaid.{weight, Apart, none, before, first, second, left, right, fresh_second, given_up, still, at_most, same_set, forked, divided, parted, Meeting, edge_awaits, met_together, looped, circled, spun, with_all}
use Rattle.mir_build.proofs.LawLaid.{with_all_more, with_all_has, can_take_moves, moves_taken, called, weight_with}
use Rattle.mir_build.proofs.Jumps.{innermost_last, deaths, first_dies_last, has_last, has_drop_last}
use Rattle.mir_build.proofs.TypedShapes.{Takes, of_number, of_bool, of_unit, of_copy, of_minus, of_not, of_widening, of_operation, Asked, truth_asked, number_asked, KeepsTyped, of_typed_body}
use Rattle.mir_build.proofs.PlainTyping.{IsPlainlyTyped}

-- the set has the locals of the places in scope, one place for each variable, and what is initialised around the innermost loop, of which
-- nothing is bound inside
pub record Scoped (c : Around) (Γ : List Ty) (base set : Locals) : Type 0 where
  pub count : length Γ ≡ length c.scope
  pub holds : HoldsPlaces set c.scope
  pub kept : Within base set
  pub apart : (l : Loop) → innermost c ≡ Some l → (p : Place) → Has p (drop l.depth c.scope) → base p.local ≡ false

more_scoped : (c : Around) (Γ : List Ty) (base set : Locals) (t : ℕ) → Scoped c Γ base set → Scoped c Γ base (with t set)
more_scoped c Γ base set t sc = record { count = sc.count; holds = λ p h. with_more t set p.local (sc.holds p h); kept = λ y h. with_more t set y (sc.kept y h); apart = sc.apart }

scoped_within : (c : Around) (Γ : List Ty) (base set now : Locals) → Within set now → Scoped c Γ base set → Scoped c Γ base now
scoped_within c Γ base set now w sc = record { count = sc.count; holds = λ p h. w p.local (sc.holds p h); kept = λ y h. w y (sc.kept y h); apart = sc.apart }

-- what is not in a set is in none within it
not_within : (small large : Locals) (x : ℕ) → Within small large → large x ≡ false → small x ≡ false
not_within small large x w n = by_test (small x) refl
  where
    by_test : (b : Bool) → small x ≡ b → small x ≡ false
    by_test true e = absurd (true≢false (sym (w x e) ∙ n))
    by_test false e = e

bound_scoped : (c : Around) (Γ : List Ty) (T : Ty) (base set : Locals) (t : ℕ) → set t ≡ false → Scoped c Γ base set → Scoped (binds c t) (Γ ++ T ∷ []) base (with t set)
bound_scoped c Γ T base set t n sc = record {
  count = length-append Γ (T ∷ []) ∙ ap (λ n. n + 1) sc.count ∙ sym (length-append c.scope (whole t ∷ []));
  holds = λ p h. by_case p (has_last c.scope (whole t) p h);
  kept = λ y h. with_more t set y (sc.kept y h);
  apart = λ l e p h. by_end l e p (has_drop_last l.depth c.scope (whole t) p h);
}
  where
    by_case : (p : Place) → Has p c.scope ⊎ (p ≡ whole t) → with t set p.local ≡ true
    by_case p (inl g) = with_more t set p.local (sc.holds p g)
    by_case p (inr e) = subst (λ (q : Place). with t set q.local ≡ true) (sym e) (with_self t set)

    by_end : (l : Loop) → innermost c ≡ Some l → (p : Place) → Has p (drop l.depth c.scope) ⊎ (p ≡ whole t) → base p.local ≡ false
    by_end l e p (inl g) = sc.apart l e p g
    by_end l e p (inr q) = subst (λ (x : Place). base x.local ≡ false) (sym q) (not_within base set t sc.kept n)

-- in a loop, around which the set is initialised
in_loop : (c : Around) (Γ : List Ty) (base set : Locals) (head after : Label) → Scoped c Γ base set → Scoped (looping c head after) Γ set set
in_loop c Γ base set head after sc = record {
  count = sc.count;
  holds = sc.holds;
  kept = same_set set;
  apart = λ l e p h.
      let none : drop l.depth c.scope ≡ [] = ap (λ (m : Loop). drop m.depth c.scope) (innermost_last c.loops _ l e) ∙ drop_all (length c.scope) c.scope (omega arith) in
      absurd (nothing p (subst (λ ps. Has p ps) none h));
}
  where
    nothing : (p : Place) → Has p [] → ⊥
    nothing p h = elim h [ ]

-- where the innermost loop is left and where it begins, no more is asked to be initialised
abbrev pub Meets : List Loop → Locals → (Label → Locals) → Type 0
Meets ls base at = (l : Loop) → slice_get ls (length ls - 1) ≡ Some l → Within (at l.after) base × Within (at l.head) base

pub no_loops : (base : Locals) (at : Label → Locals) → Meets [] base at
no_loops base at l e = absurd (cc)

entered : (c : Around) (head after : Label) (set : Locals) (at : Label → Locals) → at head ≡ set → at after ≡ set → Meets (looping c head after).loops set at
entered c head after set at h a l e =
    subst (λ (m : Loop). Within (at m.after) set × Within (at m.head) set) (sym (innermost_last c.loops _ l e)) (at_most after at set set a (same_set set), at_most head at set set h (same_set set))

-- ---- what a row puts at its end

-- a value of t alone, or of t and u
ends_with : (d t : ℕ) (set : Locals) → Within (with d set) (with d (with t set))
ends_with d t set = with_within d set (with t set) (with_more t set)

-- the same, where t is moved on
moved_on : (d t : ℕ) (set : Locals) → set t ≡ false → Within (with d set) (with d (without t (with t set)))
moved_on d t set n = with_within d set (without t (with t set)) (given_up t set n)

-- to a local x, from a temporary that is given up, and then the unit
assigned : (d x t : ℕ) (set now : Locals) → set t ≡ false → Within set now → Within (with d set) (with d (with x (without t now)))
assigned d x t set now n w = with_within d set (with x (without t now)) (λ y h. with_more x (without t now) y (kept t set now n w y h))

two_more : (t u : ℕ) (set : Locals) → Within set (with u (with t set))
two_more t u set y h = with_more u (with t set) y (with_more t set y h)

-- the second of two temporaries where the first is moved on
second_of_two : (t u : ℕ) (set : Locals) → with t set u ≡ false → without t (with u (with t set)) u ≡ true
second_of_two t u set n = still t u (with u (with t set)) (by_test (t == u) refl) (with_self u (with t set))
  where
    by_test : (b : Bool) → (t == u) ≡ b → (t == u) ≡ false
    by_test true e = absurd (true≢false (sym (subst (λ x. with t set x ≡ true) (eqb-true t u e) (with_self t set)) ∙ n))
    by_test false e = e

-- and where both are
two_given_up : (t u : ℕ) (set : Locals) → set t ≡ false → set u ≡ false → Within set (without u (without t (with u (with t set))))
two_given_up t u set n m = kept u set (without t (with u (with t set))) m (kept t set (with u (with t set)) n (two_more t u set))

-- the first of two temporaries
first_of_two : (t u : ℕ) (set : Locals) → with u (with t set) t ≡ true
first_of_two t u set = with_more u (with t set) t (with_self t set)

laid_dies : {B : (Label → Locals) → Type 0} (outer : Bool) (s : Span) (d t : ℕ) (set : Locals) → (with d set) t ≡ false → Laid B (with d (with t set)) (dies_in outer s t) (with d set)
laid_dies true s d t set n = laid_stops _ _ (ends_with d t set)
laid_dies false s d t set n = laid_puts _ _ _ _ tt (laid_stops _ _ (kept t (with d set) (with d (with t set)) n (ends_with d t set)))

-- a binding of the row is in no set around, and is not the row's own local
bound_apart : (d t : ℕ) (set : Locals) (ys : List ℕ) → Apart set (d ∷ t ∷ ys) → (with d set) t ≡ false
bound_apart d t set ys h = none (with d set) (t ∷ ys) (record { once = λ x. omega (arith, weight_with x d set, h.once x) }) t (count_self t ys)

-- the own locals of a loop
own_apart : (d t u : ℕ) (set : Locals) (us vs rest : List Line) (k : Terminator) (b : Title) (U : Ty) → Apart set (d ∷ t ∷ numbers (made (us ++ Turns k b ∷ Makes u U ∷ (vs ++ rest)))) → Apart set (t ∷ (numbers (made us) ++ u ∷ numbers (made vs)))
own_apart d t u set us vs rest k b U h = record {
  once = λ x. omega (arith, makings-append x us (Turns k b ∷ Makes u U ∷ (vs ++ rest)), makings-append x vs rest, count-append x (numbers (made us)) (u ∷ numbers (made vs)), h.once x);
}

-- less is surely initialised
fewer : {B : (Label → Locals) → Type 0} (set mid to : Locals) (xs : List Line) → Laid B set xs mid → Within to mid → Laid B set xs to
fewer set mid to xs p w = record { starts = p.starts; are = p.are; runs = λ at g b. subst (λ ys. Runs at set ys to) (append-nil xs) (runs-append at mid to [] (stops w) set xs (p.runs at g b)) }

-- ---- jumps

-- what is left where bindings that are not in the set around have ended
record Ended (B : (Label → Locals) → Type 0) (s : Span) (ps : List Place) (base set : Locals) : Type 0 where
  left : Locals
  kept : Within base left
  laid : Laid B set (deaths s ps) left

ended : {B : (Label → Locals) → Type 0} (s : Span) (ps : List Place) (base set : Locals) → Within base set → ((p : Place) → Has p ps → base p.local ≡ false) → Ended B s ps base set
ended s [] base set w h = record { left = set; kept = w; laid = laid_stops _ _ (same_set set) }
ended {B} s (p ∷ ps) base set w h =
    let e : Ended B s ps base set = ended s ps base set w (λ q k. h q (there k)) in
    let left = without p.local e.left in
    record {
      left = left;
      kept = kept p.local base e.left (h p here) e.kept;
      laid = subst (λ xs. Laid B set xs left) (sym (first_dies_last s p ps)) (laid-append set e.left left (deaths s ps) (dies s p.local ∷ []) e.laid (laid_puts _ _ _ _ tt (laid_stops _ _ (same_set left))));
    }

laid_jump : {B : (Label → Locals) → Type 0} (s : Span) (ps : List Place) (to : Label) (base set next : Locals) → Within base set → ((p : Place) → Has p ps → base p.local ≡ false) → ((at : Label → Locals) → B at → Within (at to) base)
    → Laid B set (deaths s ps ++ Leaves (ends s (Goto to)) ∷ []) next
laid_jump {B} s ps to base set next w h m =
    let e : Ended B s ps base set = ended s ps base set w h in
    laid-append set e.left next (deaths s ps) _ e.laid (laid_goes s to base e.left next e.kept m)

-- ---- temporaries

-- what is initialised where the temporaries hold values
abbrev pub holding : List (ℕ × Ty) → Locals → Locals
holding [] set = set
holding (x ∷ ts) set = with x.0 (holding ts set)

holding_more : (ts : List (ℕ × Ty)) (set : Locals) → Within set (holding ts set)
holding_more [] set y h = h
holding_more (x ∷ ts) set y h = with_more x.0 (holding ts set) y (holding_more ts set y h)

holding_scoped : (c : Around) (Γ : List Ty) (ts : List (ℕ × Ty)) (base set : Locals) → Scoped c Γ base set → Scoped c Γ base (holding ts set)
holding_scoped c Γ ts base set sc = record { count = sc.count; holds = λ p h. holding_more ts set p.local (sc.holds p h); kept = λ y h. holding_more ts set y (sc.kept y h); apart = sc.apart }

weight_holding : (x : ℕ) (ts : List (ℕ × Ty)) (set : Locals) → weight (holding ts set x) ≤ count x (numbers ts) + weight (set x)
weight_holding x [] set = omega arith
weight_holding x (t ∷ ts) set = omega (arith, weight_with x t.0 (holding ts set), weight_holding x ts set)

first_apart : (d t : ℕ) (ts : List (ℕ × Ty)) (set : Locals) (us ys : List Line) → Apart set (d ∷ (numbers ts ++ t ∷ numbers (made (us ++ ys)))) → Apart (holding ts set) (t ∷ numbers (made us))
first_apart d t ts set us ys h = record { once = λ x. omega (arith, weight_holding x ts set, count-append x (numbers ts) (t ∷ numbers (made (us ++ ys))), makings-append x us ys, h.once x) }

answer_apart : (t : ℕ) (ts : List (ℕ × Ty)) (set : Locals) (us ys : List Line) → Apart set (0 ∷ (numbers ts ++ t ∷ numbers (made (us ++ ys)))) → Apart (holding ts set) (0 ∷ numbers (made us))
answer_apart t ts set us ys h = record { once = λ x. omega (arith, weight_holding x ts set, count-append x (numbers ts) (t ∷ numbers (made (us ++ ys))), makings-append x us ys, h.once x) }

rest_apart : (d t : ℕ) (ts : List (ℕ × Ty)) (set : Locals) (us ys : List Line) → Apart set (d ∷ (numbers ts ++ t ∷ numbers (made (us ++ ys)))) → Apart set (d ∷ t ∷ (numbers ts ++ numbers (made ys)))
rest_apart d t ts set us ys h = record { once = λ x. omega (arith, count-append x (numbers ts) (t ∷ numbers (made (us ++ ys))), count-append x (numbers ts) (numbers (made ys)), makings-append x us ys, h.once x) }

-- without the temporary, or with it in the set
without_second : (d t : ℕ) (set : Locals) (ys : List ℕ) → Apart set (d ∷ t ∷ ys) → Apart set (d ∷ ys)
without_second d t set ys h = record { once = λ x. omega (arith, h.once x) }

second_held : (d t : ℕ) (set : Locals) (ys : List ℕ) → Apart set (d ∷ t ∷ ys) → Apart (with t set) (d ∷ ys)
second_held d t set ys h = record { once = λ x. omega (arith, weight_with x t set, h.once x) }

behind_first : (d : ℕ) (set : Locals) (ys : List ℕ) → Apart set (d ∷ ys) → Apart set ys
behind_first d set ys h = record { once = λ x. omega (arith, h.once x) }

-- the first part of a text
only_made : (set : Locals) (us rest : List Line) → Apart set (numbers (made (us ++ rest))) → Apart set (numbers (made us))
only_made set us rest h = record { once = λ x. omega (arith, makings-append x us rest, h.once x) }

-- ---- the shapes

-- where the temporaries are initialised besides the set, d is too behind the text; the answer, local 0, is written by what returns
abbrev pub WritesSet : Around → List Ty → List (ℕ × Ty) → ℕ → Ty → List Line → Type 0
WritesSet c Γ ts d T xs = (base set : Locals) → Scoped c Γ base set → Apart set (0 ∷ (numbers ts ++ numbers (made xs))) → Apart set (d ∷ (numbers ts ++ numbers (made xs))) → Laid (Meets c.loops base) (holding ts set) xs (with d set)

-- where the place is initialised, d is too behind the text, and at the label
abbrev pub AsksSet : Around → List Ty → Place → Ty → Option Label → ℕ → Ty → List Line → Type 0
AsksSet c Γ p T to d U xs = (base set : Locals) → Scoped c Γ base set → set p.local ≡ true → Apart set (0 ∷ numbers (made xs)) → Apart set (d ∷ numbers (made xs)) → Laid (Meeting (Meets c.loops base) to (with d set)) set xs (with d set)

-- the place is initialised behind the text
pub record NamesIn (c : Around) (Γ : List Ty) (p : Place) (T : Ty) (xs : List Line) : Type 0 where
  pub behind : Locals → Locals
  pub fewest : (set : Locals) (x : ℕ) → weight (behind set x) ≤ weight (set x) + count x (numbers (made xs))
  pub more : (set : Locals) → Within set (behind set)
  pub there : (base set : Locals) → Scoped c Γ base set → behind set p.local ≡ true
  pub laid : (base set : Locals) → Scoped c Γ base set → Apart set (0 ∷ numbers (made xs)) → Laid (Meets c.loops base) set xs (behind set)

-- each argument is initialised behind the text, which makes its temporary
pub record PassesSet (c : Around) (Γ : List Ty) (ts : List ℕ) (Ts : List Ty) (xs : List Line) : Type 0 where
  pub counts : (x : ℕ) → count x ts ≤ count x (numbers (made xs))
  pub laid : (base set : Locals) → Scoped c Γ base set → Apart set (0 ∷ numbers (made xs)) → Laid (Meets c.loops base) set xs (with_all ts set)

laid_put : (c : Around) (Γ : List Ty) (ts : List (ℕ × Ty)) (s : Span) (d : ℕ) (r : Rvalue) (T : Ty) → Takes c Γ ts r T → WritesSet c Γ ts d T (puts s d r ∷ [])
laid_put c Γ ts s d r T (of_number h) base set sc z a = laid_puts _ _ _ _ tt (laid_stops _ _ (same_set (with d set)))
laid_put c Γ ts s d r T (of_bool h) base set sc z a = laid_puts _ _ _ _ tt (laid_stops _ _ (same_set (with d set)))
laid_put c Γ ts s d r T (of_unit h) base set sc z a = laid_puts _ _ _ _ tt (laid_stops _ _ (same_set (with d set)))
laid_put c Γ ts s d r T (of_copy v p q h) base set sc z a = laid_puts _ _ _ _ (sc.holds p (has_get c.scope v p q)) (laid_stops _ _ (same_set (with d set)))
laid_put c Γ ts s d r T (of_minus {t = t} i h e q) base set sc z a = laid_puts _ _ _ _ (with_self t set) (laid_stops _ _ (moved_on d t set (fresh_second d t set _ a)))
laid_put c Γ ts s d r T (of_not {t = t} h q) base set sc z a = laid_puts _ _ _ _ (with_self t set) (laid_stops _ _ (moved_on d t set (fresh_second d t set _ a)))
laid_put c Γ ts s d r T (of_widening {t = t} j k h e q) base set sc z a = laid_puts _ _ _ _ (with_self t set) (laid_stops _ _ (moved_on d t set (fresh_second d t set _ a)))
laid_put c Γ ts s d r T (of_operation {t = t} {u = u} h e) base set sc z a =
    let no_u : set u ≡ false = fresh_second d u set _ a in
    let no_t : set t ≡ false = fresh_second d t set _ (without_second d u set _ a) in
    let u_free : with t set u ≡ false = fresh_second d u (with t set) [] (other_held d t u set a) in
    laid_puts _ _ _ _ (first_of_two t u set, second_of_two t u set u_free) (laid_stops _ _ (with_within d set (without u (without t (with u (with t set)))) (two_given_up t u set no_t no_u)))
  where
    other_held : (d t u : ℕ) (set : Locals) → Apart set (d ∷ u ∷ t ∷ []) → Apart (with t set) (d ∷ u ∷ [])
    other_held d t u set h = record { once = λ x. omega (arith, weight_with x t set, h.once x) }

laid_assigned : (c : Around) (Γ : List Ty) (s : Span) (t : ℕ) (T : Ty) (p : Place) (U : Ty) (d : ℕ) (V : Ty) (xs : List Line) → NamesIn c Γ p U xs → WritesSet c Γ ((t, T) ∷ []) d V (xs ++ puts_at s p (Use (moved t)) ∷ put_unit s d ∷ [])
laid_assigned c Γ s t T p U d V xs q base set sc z a =
    let now = q.behind (with t set) in
    let more : Within (with t set) now = q.more (with t set) in
    laid-append (with t set) now (with d set) xs _ (q.laid base (with t set) (more_scoped c Γ base set t sc) (left 0 (with t set) xs _ (second_held 0 t set _ z)))
    (laid_puts _ _ _ _ (more t (with_self t set)) (laid_puts _ _ _ _ tt (laid_stops _ _ (assigned d p.local t set now (fresh_second d t set _ a) (λ y g. more y (with_more t set y g))))))

laid_updated : (c : Around) (Γ : List Ty) (s : Span) (op : BinaryOp) (t u : ℕ) (T : Ty) (p : Place) (U : Ty) (d : ℕ) (V : Ty) (xs : List Line) → NamesIn c Γ p U xs
    → WritesSet c Γ ((t, T) ∷ []) d V (xs ++ (made_by u T (puts s u (Binary op (Copy p) (moved t)) ∷ []) ++ puts_at s p (Use (moved u)) ∷ put_unit s d ∷ []))
laid_updated c Γ s op t u T p U d V xs q base set sc z a =
    let scoped = more_scoped c Γ base set t sc in
    let held = q.behind (with t set) in
    let more : Within (with t set) held = q.more (with t set) in
    let no_u : set u ≡ false = fresh_second d u set [] (right d set xs _ (without_second d t set _ a)) in
    let now = without t held in
    let w : Within set now = kept t set held (fresh_second d t set _ a) (λ y g. more y (with_more t set y g)) in
    laid-append (with t set) held (with d set) xs _ (q.laid base (with t set) scoped (left 0 (with t set) xs _ (second_held 0 t set _ z)))
    (laid_makes _ _ _ _ _ (laid_puts _ _ _ _ (q.there base (with t set) scoped, more t (with_self t set))
    (laid_puts _ _ _ _ (with_self u now) (laid_puts _ _ _ _ tt (laid_stops _ _ (assigned d p.local u set (with u now) no_u (λ y g. with_more u now y (w y g))))))))

-- ---- tests

-- where more holds of labels
weaker : {B B' : (Label → Locals) → Type 0} (set to : Locals) (xs : List Line) → ((at : Label → Locals) → B' at → B at) → Laid B set xs to → Laid B' set xs to
weaker set to xs f p = record { starts = p.starts; are = p.are; runs = λ at g b. p.runs at g (f at b) }

laid_named : (c : Around) (Γ : List Ty) (s : Span) (p : Place) (T : Ty) (to : Option Label) (x d : ℕ) (U : Ty) (xs : List Line) → WritesSet c Γ ((x, T) ∷ []) d U xs → AsksSet c Γ p T to d U (made_by x T (puts s x (Use (Copy p)) ∷ []) ++ xs)
laid_named c Γ s p T to x d U xs q base set sc h z a = laid_makes _ _ _ _ _ (laid_puts _ _ _ _ h (weaker (with x set) (with d set) xs (λ at b. b.0) (q base set sc z a)))

can_ask : (T : Ty) (p : Place) (r : Rvalue) (set : Locals) → Asked T p r → set p.local ≡ true → (d u : ℕ) (B : (Label → Locals) → Type 0) (s : Span) (to : Locals) (xs : List Line) → Laid B (with u set) xs to → Laid B set (puts s u r ∷ xs) to
can_ask T p r set (truth_asked e) h d u B s to xs q = laid_puts _ _ _ _ h q
can_ask T p r set (number_asked k e f) h d u B s to xs q = laid_puts _ _ _ _ (h, tt) q

laid_asked : (c : Around) (Γ : List Ty) (s : Span) (p : Place) (T : Ty) (to : Option Label) (u : ℕ) (r : Rvalue) (yes' no' : Label) (d : ℕ) (U : Ty) (xs ys : List Line) → Asked T p r → AsksSet c Γ p T to d U xs → AsksSet c Γ p T to d U ys
    → AsksSet c Γ p T to d U (made_by u bool (puts s u r ∷ []) ++ split c s u yes' no' to xs ys)
laid_asked c Γ s p T to u r yes' no' d U xs ys e q q' base set sc h z a =
    let b = without_second d u set _ a in
    let y = without_second 0 u set _ z in
    let v = with_more d set in
    laid_makes _ _ _ _ _ (can_ask T p r set e h d u _ s (with d set) _
    (divided c s u yes' no' to set (with u set) (with d set) xs ys (with_self u set) (given_up u set (fresh_second d u set _ a)) (λ at' f m. edge_awaits to no' set (with d set) v at' f m.1)
    (q base set sc h (left 0 set xs _ y) (left d set xs _ b)) (q' base set sc h (right 0 set xs _ y) (right d set xs _ b))))

makes_none : (c : Around) (s : Span) (to : Option Label) (x : ℕ) → count x (numbers (made (met c s to))) ≡ 0
makes_none c s None x = refl
makes_none c s (Some l) x = refl

laid_matched : (c : Around) (Γ : List Ty) (s : Span) (p : Place) (T : Ty) (to : Option Label) (d : ℕ) (U : Ty) (xs ys : List Line) → NamesIn c Γ p T xs → AsksSet c Γ p T to d U ys → WritesSet c Γ [] d U (xs ++ (ys ++ met c s to))
laid_matched c Γ s p T to d U xs ys n q base set sc z a =
    let now = n.behind set in
    let more : Within set now = n.more set in
    let tests = met_together c s to now (with d now) ys (q base now (scoped_within c Γ base set now more sc) (n.there base set sc) (apart 0 z) (apart d a)) in
    laid-append set now (with d set) xs _ (n.laid base set sc (left 0 set xs _ z)) (fewer now (with d now) (with d set) _ tests (with_within d set now more))
  where
    apart : (e : ℕ) → Apart set (e ∷ numbers (made (xs ++ (ys ++ met c s to)))) → Apart (n.behind set) (e ∷ numbers (made ys))
    apart e h = record { once = λ x. omega (arith, n.fewest set x, makings-append x xs (ys ++ met c s to), makings-append x ys (met c s to), makes_none c s to x, h.once x) }

laid_turning : (c : Around) (Γ : List Ty) (s : Span) (head body after : Label) (fs : List Formula) (t : ℕ) (T : Ty) (xs : List Line) (u : ℕ) (U : Ty) (ys : List Line) (d : ℕ) (V : Ty) → EachSpeaks (length Γ) (map accepted fs)
    → WritesSet (looping c head after) Γ [] t T xs → WritesSet (looping c head after) Γ [] u U ys → WritesSet c Γ [] d V (turning c s head body after fs t T xs u U ys (put_unit s d ∷ []))
laid_turning c Γ s head body after fs t T xs u U ys d V h p q base set sc z a =
    let inside = in_loop c Γ base set head after sc in
    let b = before t set _ (second d t set xs _ a) in
    let y = without_second 0 t set _ z in
    looped c (looping c head after) s d t u _ _ head body after (head_of c fs) _ set xs ys (head_fits set c (length Γ) (map accepted fs) fs refl sc.count sc.holds h) (none set _ (own_apart d t u set xs ys _ _ _ _ a)) (fresh_second d t set _ a) (λ at h e. entered c head after set at h e)
    (p set set inside (left 0 set xs _ y) (first d t set xs _ a)) (q set set inside (left 0 set ys _ (without_second 0 u set _ (right 0 set xs _ y))) (first d u set ys _ b))

laid_circling : (c : Around) (Γ : List Ty) (s : Span) (head : Label) (fs : List Formula) (u : ℕ) (U : Ty) (ys : List Line) (d : ℕ) (T : Ty) → EachSpeaks (length Γ) (map accepted fs) → WritesSet (looping c head head) Γ [] u U ys
    → WritesSet c Γ [] d T (circling c s head fs u U ys)
laid_circling c Γ s head fs u U ys d T h p base set sc z a =
    let own = first d u set ys _ a in
    circled (looping c head head) s u U head (head_of c fs) _ set (with d set) ys (head_fits set c (length Γ) (map accepted fs) fs refl sc.count sc.holds h) (none set _ own) (λ at h. entered c head head set at h h)
    (p set set (in_loop c Γ base set head head sc) (left 0 set ys _ (without_second 0 u set _ z)) own)

laid_spinning : (c : Around) (Γ : List Ty) (s : Span) (head after : Label) (fs : List Formula) (u : ℕ) (U : Ty) (ys : List Line) (d : ℕ) (V : Ty) → EachSpeaks (length Γ) (map accepted fs) → WritesSet (looping c head after) Γ [] u U ys
    → WritesSet c Γ [] d V (spinning c s head after fs u U ys (put_unit s d ∷ []))
laid_spinning c Γ s head after fs u U ys d V h p base set sc z a =
    let own = first d u set ys _ a in
    spun c (looping c head after) s d u U head after (head_of c fs) _ set ys (head_fits set c (length Γ) (map accepted fs) fs refl sc.count sc.holds h) (none set _ own) (λ at h e. entered c head after set at h e)
    (p set set (in_loop c Γ base set head after sc) (left 0 set ys _ (without_second 0 u set _ z)) own)

laid_call : (c : Around) (Γ : List Ty) (s : Span) (f : ℕ) (ts : List ℕ) (after : Label) (d : ℕ) (T : Ty) (Ts : List Ty) (xs : List Line) → PassesSet c Γ ts Ts xs → WritesSet c Γ [] d T (xs ++ calls c s f d ts after ∷ [])
laid_call c Γ s f ts after d T Ts xs p base set sc z a =
    let b : Apart set (numbers (made xs)) = only_made set xs _ (behind_first d set _ a) in
    laid-append set (with_all ts set) (with d set) xs _ (p.laid base set sc (left 0 set xs _ z))
    (called c s f d ts after set (with_all ts set) (record { once = λ x. omega (arith, p.counts x, b.once x) }) (with_all_has ts set) (with_all_more ts set))

-- a value is made of what is in temporaries, which are moved
laid_made : (c : Around) (Γ : List Ty) (s : Span) (k : Ctor) (ts : List ℕ) (Ts : List Ty) (d : ℕ) (T : Ty) (xs : List Line) → PassesSet c Γ ts Ts xs → WritesSet c Γ [] d T (xs ++ puts s d (Make k (map moved ts)) ∷ [])
laid_made c Γ s k ts Ts d T xs p base set sc z a =
    let b : Apart set (numbers (made xs)) = only_made set xs _ (behind_first d set _ a) in
    laid-append set (with_all ts set) (with d set) xs _ (p.laid base set sc (left 0 set xs _ z))
    (laid_puts _ _ _ _ (can_take_moves ts (with_all ts set) (with_all_has ts set) (λ x. omega (arith, p.counts x, b.once x)))
    (laid_stops _ _ (with_within d set (all_taken (map moved ts) (with_all ts set)) (moves_taken ts set (with_all ts set) (none set ts (record { once = λ x. omega (arith, p.counts x, b.once x) })) (with_all_more ts set)))))

-- what is at a place is copied
laid_taken : (c : Around) (Γ : List Ty) (s : Span) (p : Place) (d : ℕ) (T : Ty) (xs : List Line) → NamesIn c Γ p T xs → WritesSet c Γ [] d T (xs ++ puts s d (Use (Copy p)) ∷ [])
laid_taken c Γ s p d T xs q base set sc z a =
    let now = q.behind set in
    laid-append set now (with d set) xs _ (q.laid base set sc (left 0 set xs _ z)) (laid_puts _ _ _ _ (q.there base set sc) (laid_stops _ _ (with_within d set now (q.more set))))

laid_argument : (c : Around) (Γ : List Ty) (t : ℕ) (T U : Ty) (xs : List Line) (ts : List ℕ) (Ts : List Ty) (ys : List Line) → WritesSet c Γ [] t U xs → PassesSet c Γ ts Ts ys → PassesSet c Γ (t ∷ ts) (T ∷ Ts) (made_by t U xs ++ ys)
laid_argument c Γ t T U xs ts Ts ys p q = record {
  counts = λ x. omega (arith, makings-append x xs ys, q.counts x);
  laid = λ base set sc z.
      laid_makes _ _ _ _ _ (laid-append set (with t set) (with_all ts (with t set)) xs ys (p base set sc (left 0 set xs ys (without_second 0 t set _ z)) (first_argument t set xs ys (behind_first 0 set _ z)))
      (q.laid base (with t set) (more_scoped c Γ base set t sc) (right 0 (with t set) xs ys (second_held 0 t set _ z))));
}
  where
    first_argument : (t : ℕ) (set : Locals) (us vs : List Line) → Apart set (t ∷ numbers (made (us ++ vs))) → Apart set (t ∷ numbers (made us))
    first_argument t set us vs h = record { once = λ x. omega (arith, makings-append x us vs, h.once x) }

keeps_sets : (σ : Surroundings) → KeepsTyped σ WritesSet NamesIn NamesIn PassesSet AsksSet
keeps_sets σ = record {
  put = laid_put;
  made = λ c Γ ts t T xs d U ys p q base set sc z a.
      laid_makes _ _ _ _ _ (laid-append (holding ts set) (with t (holding ts set)) (with d set) xs ys (p base (holding ts set) (holding_scoped c Γ ts base set sc) (answer_apart t ts set xs ys z) (first_apart d t ts set xs ys a))
      (q base set sc (rest_apart 0 t ts set xs ys z) (rest_apart d t ts set xs ys a)));
  left = λ c Γ t T d U xs p base set sc z a. fewer (with t set) (with d (with t set)) (with d set) xs (p base (with t set) (more_scoped c Γ base set t sc) (second_held 0 t set _ z) (second_held d t set _ a)) (ends_with d t set);
  leaving = λ c Γ t T d U xs p q base set sc z a. laid_makes _ _ _ _ _ (q base set sc (without_second 0 t set _ z) (without_second d t set _ a));
  panicked = λ c Γ s k d T g base set sc z a. laid_panics s k set (with d set);
  returned = λ c Γ s xs d T g p base set sc z a. let y = left 0 set xs _ z in laid-append set (with 0 set) (with d set) xs _ (p base set sc y y) (laid_returns s (with 0 set) (with d set) (with_self 0 set));
  circled = λ c Γ s head fs u U ys d T g h p. laid_circling c Γ s head fs u U ys d T h p;
  broken = λ c Γ s l d T g e base set sc z a. laid_jump s (drop l.depth c.scope) l.after base set (with d set) sc.kept (sc.apart l e) (λ at b. (b l e).0);
  gone_on = λ c Γ s l d T g e base set sc z a. laid_jump s (drop l.depth c.scope) l.head base set (with d set) sc.kept (sc.apart l e) (λ at b. (b l e).1);
  spun = λ c Γ s head after fs u U ys d V v h p. laid_spinning c Γ s head after fs u U ys d V h p;
  bound = λ outer c Γ s t T d U xs p base set sc z a.
      laid-append (with t set) (with d (with t set)) (with d set) xs _ (p base (with t set) (bound_scoped c Γ T base set t (fresh_second d t set _ a) sc) (left 0 (with t set) xs _ (second_held 0 t set _ z)) (left d (with t set) xs _ (second_held d t set _ a)))
      (laid_dies outer s d t set (bound_apart d t set _ a));
  tested = λ c Γ s t T yes' no' after d U xs ys e p q base set sc z a.
      let b = without_second d t set _ a in
      let y = without_second 0 t set _ z in
      forked c s t yes' no' after set (with t set) (with d set) xs ys (with_self t set) (given_up t set (fresh_second d t set _ a)) (p base set sc (left 0 set xs _ y) (left d set xs _ b))
      (q base set sc (left 0 set ys _ (right 0 set xs _ y)) (left d set ys _ (right d set xs _ b)));
  forked = λ c Γ s t T yes' no' d U xs ys e p q base set sc z a.
      let b = without_second d t set _ a in
      let y = without_second 0 t set _ z in
      parted c s t yes' no' set (with t set) (with d set) xs ys (with_self t set) (given_up t set (fresh_second d t set _ a)) (with_more d set) (p base set sc (left 0 set xs _ y) (left d set xs _ b)) (q base set sc (right 0 set xs _ y) (right d set xs _ b));
  armed = λ c Γ p T to d U xs q base set sc h z a. weaker set (with d set) xs (λ at b. b.0) (q base set sc z a);
  named_there = laid_named;
  asked = laid_asked;
  matched = λ c Γ s p T to d U xs ys g n q. laid_matched c Γ s p T to d U xs ys n q;
  turned = λ c Γ s head body after fs t T xs u U ys d V e v h p q. laid_turning c Γ s head body after fs t T xs u U ys d V h p q;
  named = λ c Γ v p T q h. record { behind = λ set. set; fewest = λ set x. omega arith; more = same_set; there = λ base set sc. sc.holds p (has_get c.scope v p q); laid = λ base set sc a. laid_stops _ _ (same_set set) };
  temporary = λ c Γ t T xs p. record { behind = with t; fewest = λ set x. omega (arith, weight_with x t set); more = with_more t; there = λ base set sc. with_self t set; laid = λ base set sc z. laid_makes _ _ _ _ _ (p base set sc (without_second 0 t set _ z) (behind_first 0 set _ z)) };
  assigned = λ c Γ s t T p U d V xs e v q. laid_assigned c Γ s t T p U d V xs q;
  updated = λ c Γ s op t u T p U d V xs h e v q. laid_updated c Γ s op t u T p U d V xs q;
  rooted = λ c Γ p T xs q. q;
  further = λ c Γ p U n T xs e q. record { behind = q.behind; fewest = q.fewest; more = q.more; there = q.there; laid = q.laid };
  taken = λ c Γ s p d T xs h q. laid_taken c Γ s p d T xs q;
  no_arguments = λ c Γ. record { counts = λ x. omega arith; laid = λ base set sc a. laid_stops _ _ (same_set set) };
  argument = λ c Γ t T U xs ts Ts ys e p q. laid_argument c Γ t T U xs ts Ts ys p q;
  constructed = λ c Γ s k ts Ts d T xs h e p. laid_made c Γ s k ts Ts d T xs p;
  called = λ c Γ s f g ts after d T xs e q p. laid_call c Γ s f ts after d T g.params xs p;
}

pub text_laid : (σ : Surroundings) (i : Bool) (c : Around) → c.types ≡ σ.types → (e : TypedExpr) (xs : List Line) → IntoBody c e xs → (Γ : List Ty) (base set : Locals) → Scoped c Γ base set → IsPlainlyTyped (within_loop i σ) Γ e
    → Apart set (0 ∷ numbers (made xs)) → Laid (Meets c.loops base) set xs (with 0 set)
text_laid σ i c o e xs p Γ base set sc h a = of_typed_body σ WritesSet NamesIn NamesIn PassesSet AsksSet (keeps_sets σ) i c o e xs p Γ h base set sc a a
