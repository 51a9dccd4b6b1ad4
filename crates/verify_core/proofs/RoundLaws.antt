-- One round over the functions: what holds after some of them.
use Rattle.std.proofs.Common.{◌≡◌, ◌∙◌, refl, sym, ap, subst, ℕ, zero, suc, ◌+◌, ◌<◌, ◌≤◌, Bool, true, false, List, [], ◌∷◌, length, get_or, Some, slice_get, true≢false, arith}
use Rattle.mir_ir.specs.declared.body.Body.{Body}
use Rattle.verify_core.specs.Flags.{AreJustified, AreSettled, Unsets, calls_unset, set_count}
use Rattle.verify_core.proofs.ReachLaws.{unsets_justified, unsets_fewer, unsets_as_many, within}
use Rattle.mir_ir.specs.declared.body.Bodies.{Bodies}
use Rattle.verify_core.proofs.Basics.{some_same}

-- the first so many functions were looked at, from the flags of the start on; whether a flag was unset
pub record Round (bodies : Bodies) (start : List Bool) (many : ℕ) (flags : List Bool) (changed : Bool) : Type 0 where
  pub as_many : length flags ≡ length start
  pub justified : (proved : List Bool) → AreJustified bodies proved start → AreJustified bodies proved flags
  pub fewer : changed ≡ true → set_count flags < set_count start
  pub at_most : set_count flags ≤ set_count start
  pub settled : changed ≡ false → (f : ℕ) (b : Body) → f < many → slice_get bodies.bodies f ≡ Some b → slice_get flags f ≡ Some true → calls_unset bodies flags b ≡ false

get_of : (bs : List Body) (i : ℕ) (b : Body) → i < length bs → b ≡ get_or bs i b → slice_get bs i ≡ Some b
get_of [] i b h e = absurd (omega arith)
get_of (c ∷ bs) zero b h e = ap Some (sym e)
get_of (c ∷ bs) (suc i) b h e = get_of bs i b (omega arith) e

data Where (f i : ℕ) : Type 0 where
  before : f < i → Where f i
  here : f ≡ i → Where f i

which : (f i : ℕ) → f < i + 1 → Where f i
which zero zero h = here refl
which zero (suc i) h = before (omega arith)
which (suc f) zero h = absurd (omega arith)
which (suc f) (suc i) h = elim (which f i (omega arith)) [ before a ↦ before (omega arith) | here e ↦ here (ap suc e) ]

pub begins : (bodies : Bodies) (flags : List Bool) → Round bodies flags 0 flags false
begins bodies flags = record {
  as_many = refl;
  justified = λ proved j. j;
  fewer = λ e. absurd (true≢false (sym e));
  at_most = omega arith;
  settled = λ e f b h is set. absurd (omega arith);
}

pub one_unset : (bodies : Bodies) (start : List Bool) (i : ℕ) (flags new : List Bool) (changed : Bool) (b : Body) → i < length bodies.bodies → b ≡ get_or bodies.bodies i b
    → Round bodies start i flags changed → Unsets bodies flags new i b true → Round bodies start (i + 1) new true
one_unset bodies start i flags new changed b inside is r u =
    let less : set_count new < set_count flags = unsets_fewer bodies flags new i b u in
    let most = r.at_most in
    record {
      as_many = unsets_as_many bodies flags new i b true u ∙ r.as_many;
      justified = λ proved j. unsets_justified bodies proved flags new i b true (get_of bodies.bodies i b inside is) u (r.justified proved j);
      fewer = λ e. omega arith;
      at_most = omega arith;
      settled = λ e f c h at set. absurd (true≢false e);
    }

pub none_unset_there : (bodies : Bodies) (start : List Bool) (i : ℕ) (flags new : List Bool) (changed : Bool) (b : Body) → i < length bodies.bodies → b ≡ get_or bodies.bodies i b
    → Round bodies start i flags changed → Unsets bodies flags new i b false → Round bodies start (i + 1) new changed
none_unset_there bodies start i flags new changed b inside is r (same, settled) = subst (λ (fs : List Bool). Round bodies start (i + 1) fs changed) (sym same) (record {
  as_many = r.as_many;
  justified = r.justified;
  fewer = r.fewer;
  at_most = r.at_most;
  settled = λ e f c h at set. elim (which f i h) [
    | before a ↦ r.settled e f c a at set
    | here q ↦
        let same_body : b ≡ c = some_same (sym (get_of bodies.bodies i b inside is) ∙ subst (λ (k : ℕ). slice_get bodies.bodies k ≡ Some c) q at) in
        subst (λ (x : Body). calls_unset bodies flags x ≡ false) same_body (settled (subst (λ (k : ℕ). slice_get flags k ≡ Some true) q set))
  ];
})

pub ends_settled : (bodies : Bodies) (start : List Bool) (i : ℕ) (flags : List Bool) (changed : Bool) → length bodies.bodies ≤ i → Round bodies start i flags changed → changed ≡ false → AreSettled bodies flags
ends_settled bodies start i flags changed past r e = λ f b is set. let h = within bodies.bodies f b is in r.settled e f b (omega arith) is set
