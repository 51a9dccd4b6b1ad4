-- The lines of a verdict tell which functions are verified.
use Rattle.std.proofs.Common.{◌≡◌, ◌∙◌, refl, sym, ap, subst, ℕ, zero, suc, ◌+◌, ◌<◌, ◌≤◌, ◌⊎◌, inl, inr, Bool, true, false, List, [], ◌∷◌, ◌++◌, length, map, take, get_or, Some, slice_get}
use Rattle.std.proofs.lemmas.Bool.{cases_lt}
use Rattle.std.proofs.lemmas.List.{take_more}
use Rattle.logic_term.specs.declared.obligation.Obligation.{Obligation}
use Rattle.mir_ir.specs.declared.body.Body.{Body}
use Rattle.mir_ir.specs.declared.body.Bodies.{Bodies}
use Rattle.mir_machine.specs.Good.{Each}
use Rattle.proof_text.specs.declared.proof.Proof.{Proof}
use Rattle.prophecy_sim.specs.declared.node.Node.{Node}
use Rattle.prophecy_sim.specs.declared.node.Node.TheVariants.{Function}
use Rattle.prophecy_sim.specs.Programs.{Reaches, itself}
use Rattle.report_out.specs.declared.verdict.FnLine.{FnLine}
use Rattle.report_out.specs.declared.verdict.Verdict.{Verdict}
use Rattle.verify_core.specs.declared.program.Program.{Program}
use Rattle.verify_core.specs.Flags.{AreJustified, AreSettled}
use Rattle.verify_core.specs.Judging.{FlagsTell, AreLinesOf}
use Rattle.verify_core.specs.Owed.{HaveOwners}
use Rattle.verify_core.specs.Verdict.{HasDerivation, IsProved, Tells, IsVerified, AreLines, IsVerdict}
use Rattle.verify_core.proofs.OwedLaws.{owes_nothing}
use Rattle.verify_core.proofs.ReachLaws.{reached_set}
use Rattle.verify_core.proofs.Basics.{some_same}

-- ---- the loop that makes the lines

map_one_more : {A B : Type 0} (f : A → B) (xs : List A) (x : A) → map f (xs ++ x ∷ []) ≡ map f xs ++ f x ∷ []
map_one_more f [] x = refl
map_one_more f (y ∷ xs) x = ap (λ ys. f y ∷ ys) (map_one_more f xs x)

pub one_more_line : (bodies : List Body) (flags : List Bool) (i : ℕ) (b : Body) (flag : Bool) (lines : List FnLine) (line : FnLine) → i < length bodies → b ≡ get_or bodies i b → i < length flags → flag ≡ get_or flags i flag
    → line.name ≡ b.owner → line.verified ≡ flag → AreLinesOf (take i bodies) (take i flags) lines → AreLinesOf (take (i + 1) bodies) (take (i + 1) flags) (lines ++ line ∷ [])
one_more_line bodies flags i b flag lines line inside is inside_flags is_flag name verified are = record {
  names = map_one_more (λ (l : FnLine). l.name) lines line ∙ ap (λ xs. xs ++ line.name ∷ []) are.names ∙ ap (λ x. map (λ (h : Body). h.owner) (take i bodies) ++ x ∷ []) name
      ∙ sym (ap (map (λ (h : Body). h.owner)) (take_more bodies i b inside ∙ ap (λ (x : Body). take i bodies ++ x ∷ []) (sym is)) ∙ map_one_more (λ (h : Body). h.owner) (take i bodies) b);
  verified = map_one_more (λ (l : FnLine). l.verified) lines line ∙ ap (λ xs. xs ++ line.verified ∷ []) are.verified ∙ ap (λ x. take i flags ++ x ∷ []) verified
      ∙ sym (take_more flags i flag inside_flags ∙ ap (λ (x : Bool). take i flags ++ x ∷ []) (sym is_flag));
}

-- ---- what the flags tell

get_mapped : {A B : Type 0} (f : A → B) (xs : List A) (i : ℕ) (x : A) → slice_get xs i ≡ Some x → slice_get (map f xs) i ≡ Some (f x)
get_mapped f [] i x e = absurd cc
get_mapped f (y ∷ xs) zero x e = ap Some (ap f (some_same e))
get_mapped f (y ∷ xs) (suc i) x e = get_mapped f xs i x e

module _ (ps : List Proof) (p : Program) (owners : HaveOwners p.bodies p.obligations) (proved flags : List Bool) (told : FlagsTell p.tables ps p.obligations (length p.bodies.bodies) proved)
    (justified : AreJustified p.bodies proved flags) (settled : AreSettled p.bodies flags) where
  flags_as_bodies : length flags ≡ length p.bodies.bodies
  flags_as_bodies = justified.as_many ∙ told.as_many

  -- what a function with a set flag reaches is proved: it has a flag, which is set too, or owes nothing
  reached_is_proved : (f : ℕ) → slice_get flags f ≡ Some true → (n : Node) → Reaches p.bodies (Function f) n → IsProved p.tables ps p.obligations n
  reached_is_proved f is (Function m) reaches = which (cases_lt m (length p.bodies.bodies))
    where
      which : (m < length p.bodies.bodies) ⊎ (length p.bodies.bodies ≤ m) → IsProved p.tables ps p.obligations (Function m)
      which (inl inside) = told.tell m true (justified.set m (reached_set p.bodies flags flags_as_bodies settled f m reaches is (subst (λ (k : ℕ). m < k) (sym flags_as_bodies) inside)))
      which (inr past) = subst (λ (os : List Obligation). Each (HasDerivation p.tables ps) os) (sym (owes_nothing p.bodies m past p.obligations owners)) tt

  tells : (f : ℕ) (flag : Bool) → slice_get flags f ≡ Some flag → Tells flag (IsVerified ps p f)
  tells f true is = reached_is_proved f is
  tells f false is = λ verified.
      let o = justified.unset f is in
      told.tell o.open_one false o.is_open (verified (Function o.open_one) o.reaches)

  pub lines_tell : (lines : List FnLine) → AreLinesOf p.bodies.bodies flags lines → AreLines ps p lines
  lines_tell lines are = record {
    names = are.names;
    told = λ f line is. tells f line.verified (subst (λ (xs : List Bool). slice_get xs f ≡ Some line.verified) are.verified (get_mapped (λ (l : FnLine). l.verified) lines f line is));
  }

-- at the start a flag says whether the function itself is proved
pub justified_at_start : (bodies : Bodies) (proved : List Bool) → AreJustified bodies proved proved
justified_at_start bodies proved = record {
  as_many = refl;
  set = λ f e. e;
  unset = λ f e. record { open_one = f; reaches = itself; is_open = e };
}

-- ---- tables of names

-- a verdict is on what a program owes, whatever names stand in its table
pub with_any_names : (ps : List Proof) (p : Program) (table : List (List ℕ)) (v : Verdict) → IsVerdict ps (record p { names = table }) v → IsVerdict ps p v
with_any_names ps p table v is = record {
  judged = is.judged;
  counted = is.counted;
  lines = record { names = is.lines.names; told = is.lines.told };
}
