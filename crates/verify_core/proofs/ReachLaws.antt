-- Flags that are unset as long as a function calls one whose flag is not set say which functions reach none that is not proved.
use Rattle.std.proofs.Common.{◌≡◌, ◌∙◌, refl, sym, ap, subst, ℕ, zero, suc, ◌<◌, ◌⊎◌, inl, inr, Bool, true, false, ◌||◌, List, [], ◌∷◌, length, Option, Some, None, true≢false, arith}
use Rattle.std.specs.Prelude.{option_and_then, slice_get, slice_set}
use Rattle.std.specs.List.{list_any}
use Rattle.logic_term.specs.declared.kinds.Label.{Label}
use Rattle.mir_ir.specs.declared.body.Block.{Block}
use Rattle.mir_ir.specs.declared.body.Body.{Body}
use Rattle.logic_term.specs.Ty.{Ty}
use Rattle.mir_ir.specs.declared.place.Operand.{Operand}
use Rattle.mir_ir.specs.declared.place.Place.{Place}
use Rattle.mir_ir.specs.declared.terminator.Callee.{Callee}
use Rattle.mir_ir.specs.declared.terminator.TerminatorKind.{TerminatorKind}
use Rattle.mir_ir.specs.declared.terminator.TerminatorKind.TheVariants.{Goto, If, Switch, Call, Return, Panic}
use Rattle.verify_core.specs.Flags.{is_unset, end_calls_unset, calls_unset, ReachesOpen, AreJustified, AreSettled, Unsets, set_count}
use Rattle.prophecy_sim.specs.declared.node.Node.{Node}
use Rattle.prophecy_sim.specs.declared.node.Node.TheVariants.{Function}
use Rattle.prophecy_sim.specs.Programs.{Calls, Uses, by_call, Reaches}
use Rattle.mir_ir.specs.declared.body.Bodies.{Bodies}
use Rattle.mir_ir.specs.Callees.{callee_of}
use Rattle.verify_core.proofs.Basics.{some_same}

-- ---- lists

none_is_not : {A : Type 0} {a : A} → None ≡ Some a → ⊥
none_is_not e = absurd cc

pub same_or_other : (i j : ℕ) → (i ≡ j) ⊎ (i ≡ j → ⊥)
same_or_other zero zero = inl refl
same_or_other zero (suc j) = inr (λ e. absurd (omega arith))
same_or_other (suc i) zero = inr (λ e. absurd (omega arith))
same_or_other (suc i) (suc j) = elim (same_or_other i j) [ inl e ↦ inl (ap suc e) | inr other ↦ inr (λ e. other (omega arith)) ]

pub get_other : (xs : List Bool) (i j : ℕ) (b : Bool) → (i ≡ j → ⊥) → slice_get (slice_set xs i b) j ≡ slice_get xs j
get_other [] i j b other = refl
get_other (x ∷ xs) zero zero b other = absurd (other refl)
get_other (x ∷ xs) zero (suc j) b other = refl
get_other (x ∷ xs) (suc i) zero b other = refl
get_other (x ∷ xs) (suc i) (suc j) b other = get_other xs i j b (λ e. other (ap suc e))

pub get_same : (xs : List Bool) (i : ℕ) (b x : Bool) → slice_get xs i ≡ Some x → slice_get (slice_set xs i b) i ≡ Some b
get_same [] i b x e = absurd (none_is_not e)
get_same (y ∷ xs) zero b x e = refl
get_same (y ∷ xs) (suc i) b x e = get_same xs i b x e

pub length_same : (xs : List Bool) (i : ℕ) (b : Bool) → length (slice_set xs i b) ≡ length xs
length_same [] i b = refl
length_same (x ∷ xs) zero b = refl
length_same (x ∷ xs) (suc i) b = ap suc (length_same xs i b)

pub within : {A : Type 0} (xs : List A) (i : ℕ) (x : A) → slice_get xs i ≡ Some x → i < length xs
within [] i x e = absurd (none_is_not e)
within (y ∷ xs) zero x e = omega arith
within (y ∷ xs) (suc i) x e = omega (arith, within xs i x e)

pub got : {A : Type 0} (xs : List A) (i : ℕ) → i < length xs → (x : A) × (slice_get xs i ≡ Some x)
got [] i h = absurd (omega arith)
got (x ∷ xs) zero h = (x, refl)
got (x ∷ xs) (suc i) h = got xs i (omega arith)

any_at : {A : Type 0} (p : A → Bool) (xs : List A) (i : ℕ) (x : A) → slice_get xs i ≡ Some x → p x ≡ true → list_any p xs ≡ true
any_at p [] i x e h = absurd (none_is_not e)
any_at p (y ∷ xs) zero x e h = rw (some_same e, h) refl
any_at p (y ∷ xs) (suc i) x e h = either (p y) (any_at p xs i x e h)
  where
    either : (b : Bool) {c : Bool} → c ≡ true → (b || c) ≡ true
    either true h = refl
    either false h = h

-- an element that passes the test, where one does
pub any_found : {A : Type 0} (p : A → Bool) (xs : List A) → list_any p xs ≡ true → (i : ℕ) × (x : A) × (slice_get xs i ≡ Some x) × (p x ≡ true)
any_found p [] h = absurd (true≢false (sym h))
any_found {A} p (x ∷ xs) h = here (p x) refl h (λ rest. any_found p xs rest)
  where
    Found : List A → Type 0
    Found ys = (i : ℕ) × (y : A) × (slice_get ys i ≡ Some y) × (p y ≡ true)

    later : Found xs → Found (x ∷ xs)
    later f = (suc f.0, f.1, f.2, f.3)

    here : (b : Bool) → p x ≡ b → (b || list_any p xs) ≡ true → (list_any p xs ≡ true → Found xs) → Found (x ∷ xs)
    here true is h rest = (0, x, refl, is)
    here false is h rest = later (rest h)

-- ---- counts of flags

fewer : (flags : List Bool) (f : ℕ) → slice_get flags f ≡ Some true → set_count (slice_set flags f false) < set_count flags
fewer [] f e = absurd (none_is_not e)
fewer (true ∷ flags) zero e = omega arith
fewer (false ∷ flags) zero e = absurd (true≢false (sym (some_same e)))
fewer (true ∷ flags) (suc f) e = omega (arith, fewer flags f e)
fewer (false ∷ flags) (suc f) e = fewer flags f e

-- ---- calls

unset_is : (o : Option Bool) → is_unset o ≡ true → o ≡ Some false
unset_is None h = absurd (true≢false (sym h))
unset_is (Some true) h = absurd (true≢false (sym h))
unset_is (Some false) h = refl

record CallsUnset (bodies : Bodies) (flags : List Bool) (k : TerminatorKind) : Type 0 where
  number : ℕ
  place : Place
  callee : Callee
  types : List Ty
  args : List Operand
  next : Label
  is : k ≡ Call place callee types args next
  is_callee : callee_of bodies callee ≡ Some number
  unset : slice_get flags number ≡ Some false

call_found : (bodies : Bodies) (flags : List Bool) (k : TerminatorKind) → end_calls_unset bodies flags k ≡ true → CallsUnset bodies flags k
call_found bodies flags (Goto l) h = absurd (true≢false (sym h))
call_found bodies flags (If o l m) h = absurd (true≢false (sym h))
call_found bodies flags Return h = absurd (true≢false (sym h))
call_found bodies flags (Switch p ls) h = absurd (true≢false (sym h))
call_found bodies flags (Panic cause) h = absurd (true≢false (sym h))
call_found bodies flags (Call p callee types args l) h = found (callee_of bodies callee) refl h
  where
    found : (o : Option ℕ) → callee_of bodies callee ≡ o → is_unset (option_and_then (slice_get flags) o) ≡ true → CallsUnset bodies flags (Call p callee types args l)
    found (Some m) is u = record { number = m; place = p; callee = callee; types = types; args = args; next = l; is = refl; is_callee = is; unset = unset_is (slice_get flags m) u }
    found None is u = absurd (true≢false (sym u))

-- what is used first, and then what that reaches
reaches_by : (bodies : Bodies) (f g m : Node) → Uses bodies f g → Reaches bodies g m → Reaches bodies f m
reaches_by bodies f g m uses Reaches.itself = Reaches.by_use Reaches.itself uses
reaches_by bodies f g m uses (Reaches.by_use {n = n} reaches last) = Reaches.by_use (reaches_by bodies f g n uses reaches) last

-- ---- one flag is unset

module _ (bodies : Bodies) (proved flags : List Bool) (justified : AreJustified bodies proved flags) (f : ℕ) (b : Body)
    (is_body : slice_get bodies.bodies f ≡ Some b) (set : slice_get flags f ≡ Some true) (calls : calls_unset bodies flags b ≡ true) where
  opens : ReachesOpen bodies proved f
  opens =
      let found = any_found (λ (e : Label × Block). end_calls_unset bodies flags e.1.end.kind) b.blocks calls in
      let call = call_found bodies flags found.1.1.end.kind found.3 in
      let beyond = justified.unset call.number call.unset in
      let step : Calls bodies f call.number = record {
        body = b;
        is_body = is_body;
        at = found.0;
        label = found.1.0;
        block = found.1.1;
        is_block = found.2;
        place = call.place;
        callee = call.callee;
        types = call.types;
        operands = call.args;
        next = call.next;
        is_call = call.is;
        is_callee = call.is_callee;
      } in
      record { open_one = beyond.open_one; reaches = reaches_by bodies (Function f) (Function call.number) (Function beyond.open_one) (by_call step) beyond.reaches; is_open = beyond.is_open }

  abbrev after : List Bool
  after = slice_set flags f false

  unset_at : (g : ℕ) (flag : Bool) → slice_get after g ≡ Some flag → ((f ≡ g) × (flag ≡ false)) ⊎ (slice_get flags g ≡ Some flag)
  unset_at g flag e = elim (same_or_other f g) [
    | inl same ↦ inl (same, some_same (sym e ∙ subst (λ (i : ℕ). slice_get after i ≡ Some false) same (get_same flags f false true set)))
    | inr other ↦ inr (sym (get_other flags f g false other) ∙ e)
  ]

  pub stays_justified : AreJustified bodies proved after
  stays_justified = record {
    as_many = length_same flags f false ∙ justified.as_many;
    set = λ g e. elim (unset_at g true e) [ inl both ↦ absurd (true≢false both.1) | inr before ↦ justified.set g before ];
    unset = λ g e. elim (unset_at g false e) [ inl both ↦ subst (ReachesOpen bodies proved) both.0 opens | inr before ↦ justified.unset g before ];
  }

pub unsets_justified : (bodies : Bodies) (proved old new : List Bool) (f : ℕ) (b : Body) (changed : Bool) → slice_get bodies.bodies f ≡ Some b → Unsets bodies old new f b changed → AreJustified bodies proved old → AreJustified bodies proved new
unsets_justified bodies proved old new f b true is_body (set, calls, is) justified = subst (AreJustified bodies proved) (sym is) (stays_justified bodies proved old justified f b is_body set calls)
unsets_justified bodies proved old new f b false is_body (same, settled) justified = subst (AreJustified bodies proved) (sym same) justified

pub unsets_fewer : (bodies : Bodies) (old new : List Bool) (f : ℕ) (b : Body) → Unsets bodies old new f b true → set_count new < set_count old
unsets_fewer bodies old new f b (set, calls, is) = rw is (fewer old f set)

pub unsets_as_many : (bodies : Bodies) (old new : List Bool) (f : ℕ) (b : Body) (changed : Bool) → Unsets bodies old new f b changed → length new ≡ length old
unsets_as_many bodies old new f b true (set, calls, is) = ap length is ∙ length_same old f false
unsets_as_many bodies old new f b false (same, settled) = ap length same

-- ---- settled flags

module _ (bodies : Bodies) (flags : List Bool) (as_many : length flags ≡ length bodies.bodies) (settled : AreSettled bodies flags) where
  set_or_not : (n : ℕ) → n < length flags → (slice_get flags n ≡ Some true) ⊎ (slice_get flags n ≡ Some false)
  set_or_not n h = which (got flags n h).0 (got flags n h).1
    where
      which : (b : Bool) → slice_get flags n ≡ Some b → (slice_get flags n ≡ Some true) ⊎ (slice_get flags n ≡ Some false)
      which true e = inl e
      which false e = inr e

  call_settled : (n m : ℕ) → Calls bodies n m → slice_get flags n ≡ Some true → slice_get flags m ≡ Some false → ⊥
  call_settled n m c set unset =
      let at : end_calls_unset bodies flags c.block.end.kind ≡ true = rw (c.is_call, c.is_callee, unset) refl in
      true≢false (sym (any_at (λ (e : Label × Block). end_calls_unset bodies flags e.1.end.kind) c.body.blocks c.at (c.label, c.block) c.is_block at) ∙ settled n c.body c.is_body set)

  -- the flag of the function
  abbrev IsFlag : Bool → Node → Type 0
  IsFlag flag (Function n) = slice_get flags n ≡ Some flag

  use_settled : (n m : Node) → Uses bodies n m → IsFlag true n → IsFlag false m → ⊥
  use_settled _ _ (Uses.by_call {n} {m} c) set unset = call_settled n m c set unset

  -- a node that uses another has a flag
  flag_of_user : (n m : Node) → Uses bodies n m → IsFlag true n ⊎ IsFlag false n
  flag_of_user _ _ (Uses.by_call {n} {m} c) = set_or_not n (subst (λ (k : ℕ). n < k) (sym as_many) (within bodies.bodies n c.body c.is_body))

  not_both : (n : Node) → IsFlag true n → IsFlag false n → ⊥
  not_both (Function n) set unset = true≢false (some_same (sym set ∙ unset))

  none_unset : (f m : Node) → Reaches bodies f m → IsFlag true f → IsFlag false m → ⊥
  none_unset f m Reaches.itself set unset = not_both f set unset
  none_unset f m (Reaches.by_use {n = n} reaches uses) set unset = elim (flag_of_user n m uses) [
    | inl there ↦ use_settled n m uses there unset
    | inr there ↦ none_unset f n reaches set there
  ]

  pub reached_set : (f m : ℕ) → Reaches bodies (Function f) (Function m) → slice_get flags f ≡ Some true → m < length flags → slice_get flags m ≡ Some true
  reached_set f m reaches set h = elim (set_or_not m h) [ inl there ↦ there | inr there ↦ absurd (none_unset (Function f) (Function m) reaches set there) ]
