-- A statement keeps the locals of the running frame and the environment in agreement.
use Rattle.std.proofs.Common.{◌≡◌, ◌∙◌, sym, refl, ℕ, ◌==◌, true, false, List, ◌∷◌, Option, Some, subst, slice_get, eq-eqb, true≢false, arith}
use Rattle.text_core.specs.declared.name.Name.{Name}
use Rattle.text_core.specs.declared.span.Span.{Span}
use Rattle.logic_term.specs.Meaning.{Env}
use Rattle.logic_term.specs.Ty.{Ty, no_tys}
use Rattle.mir_ir.specs.declared.statement.StatementKind.{StatementKind}
use Rattle.mir_ir.specs.declared.statement.StatementKind.TheVariants.{Assign, Dead}
use Rattle.mir_ir.specs.declared.body.Body.{Body}
use Rattle.mir_ir.specs.Declares.{theory_in}
use Rattle.mir_ir.specs.WellFormed.{StatementIsTyped, Locals}
use Rattle.mir_ir.proofs.Taking.{evaluated, CanRun, run}
use Rattle.mir_ir.specs.Body.{kind_in, place_ty}
use Rattle.source_kinds.specs.declared.kinds.IntKind.{IntKind}
use Rattle.logic_term.specs.Sort.{instance}
use Rattle.mir_machine.specs.Try.{◌>>=◌}
use Rattle.mir_machine.specs.Frame.{State}
use Rattle.mir_machine.specs.Memory.{running, write}
use Rattle.mir_machine.specs.Step.{past, statement_step}
use Rattle.mir_machine.specs.Taken.{value_of}
use Rattle.mir_machine.specs.Invariant.{Stop, stops, HasType}
use Rattle.mir_machine.proofs.Tried.{Quiet, quiet_then, quiet_both}
use Rattle.mir_machine.proofs.TypedRows.{evaluated_is, can_take_all, Ran, assign_yields, assigned_ran, dead_yields, held_gone}
use Rattle.mir_machine.proofs.Writes.{at_next, written_elsewhere}
use Rattle.prophecy_logic.specs.Command.{MovesAll, none}
use Rattle.prophecy_logic.specs.Row.{name_of, goals_of, commands_of}
use Rattle.prophecy_logic.specs.Loop.{statement_touches}
use Rattle.prophecy_logic.proofs.Loops.{not_written}
use Rattle.mir_ir.specs.Acts.{acts_of_rvalue}
use Rattle.prophecy_logic.proofs.Commands.{GoalsHold}
use Rattle.prophecy_sim.proofs.Setup.{Setup, FunctionOf, S, bodies, declarations, local_named, apart_from, not_new, IsOutside}
use Rattle.prophecy_sim.proofs.Operands.{rvalue_value, evaluated_before, with_before, without_before, Agree, agree_gone, agree_set, took_all_agree, took_all_show, value_shows}
use Rattle.prophecy_sim.proofs.Stands.{Holding, operand_sort}
use Rattle.prophecy_sim.proofs.Owned.{Shows}
use Rattle.prophecy_sim.proofs.Assigns.{assigned}

pub other_number : (x y : ℕ) → (x == y) ≡ false → (y == x) ≡ false
other_number x y e = grind arith

-- n: the number of the running frame
module _ {K : Type 0} (s : Setup K) (f : FunctionOf s) (n : ℕ) (inside : n ≡ 0 → ⊥) where
  abbrev b : Body
  b = f.body

  -- what stands after a statement
  pub record After (st : State K) (kind : StatementKind) (set : Locals) (ρ : Env) (ks : List Stop) (v : State K) : Type 0 where
    pub ran : Ran (declarations s) b no_tys n inside st set kind ks v
    pub env : Env
    pub agrees : Agree b v n (run kind set) env
    pub moves : MovesAll (S s) (commands_of b kind) ρ env
    pub elsewhere : (x : Name) → IsOutside b x → env x ≡ ρ x
    -- what is not written and is initialised was so before, with the value that it has
    pub others : (x : ℕ) (ty : Ty) → statement_touches x kind ≡ false → run kind set x ≡ true → slice_get b.locals x ≡ Some ty → (set x ≡ true) × (env (name_of b x) ≡ ρ (name_of b x))

  pub statement_quiet : (st : State K) (kind : StatementKind) (set : Locals) (ρ : Env) (span : Span) (g : Stop) (gs : List Stop) → running st ≡ n → stops st ≡ g ∷ gs → StatementIsTyped (bodies s) b kind → CanRun set kind →
      Holding s f st n set → Agree b st n set ρ → GoalsHold (S s) ρ (goals_of b span kind) →
      Quiet (After st kind set ρ (at_next g ∷ gs)) (statement_step b no_tys st span kind)
  statement_quiet st (Assign p r) set ρ span g gs is_n is_stops (ty, has, rhas) can held agrees goals =
      let a = assign_yields (declarations s) b no_tys n inside (bodies s) s.declares st set span p r ty g gs is_n is_stops held has rhas can in
      let u : State K = a.takes.after in
      let l = assigned s.theory b (not_new s f) ρ span p (bodies s) set r ty has rhas can (operand_sort s f st n set ρ held agrees) goals in
      let others : (y : ℕ) (w : Ty) → slice_get b.locals y ≡ Some w → (y ≡ p.local → ⊥) → l.env (name_of b y) ≡ ρ (name_of b y) =
      λ y w is_y d. l.elsewhere (name_of b y) (apart_from s f p.local y ty w has.1 is_y d) (not_new s f y w is_y) in
      let kind : Option IntKind = kind_in (place_ty b no_tys p) in
      let P : State K → Type 0 = After st (Assign p r) set ρ (at_next g ∷ gs) in
      let shows = took_all_show b (theory_in (bodies s)) ρ a.tys a.have (can_take_all r set can) agrees a.takes.took in
      let agreed : Agree b u n (evaluated r set) ρ = subst (λ (q : Locals). Agree b u n q ρ) (evaluated_is r set) (took_all_agree b ρ agrees a.takes.took) in
      subst (Quiet P) (sym a.row)
      (quiet_then (λ t. HasType (declarations s) u (instance no_tys ty) t × Shows t (rvalue_value b ρ r)) P (value_of kind span r a.takes.trees) (λ t. write u p t >>= past)
      (quiet_both (HasType (declarations s) u (instance no_tys ty)) (λ t. Shows t (rvalue_value b ρ r)) (value_of kind span r a.takes.trees) a.value (value_shows b ρ kind span r a.takes.trees shows l.in_range))
      (λ t h. let v = a.puts t in subst (Quiet P) (sym v.1) (record {
        ran = assigned_ran (declarations s) b no_tys n inside a t v.0 has h.0 v.2;
        env = l.env;
        agrees = agree_set b (evaluated r set) ρ l.env p.local v.2 agreed (subst (Shows t) (sym l.here) h.1) others;
        moves = l.moves;
        elsewhere = λ x out. l.elsewhere x (out.0 p.local (name_of b p.local) (local_named s f p.local ty has.1)) out.1;
        others = λ x w e is_in is_x.
            let other : (p.local == x) ≡ false = not_written x (acts_of_rvalue r) p e in
            (evaluated_before r set x (with_before p.local (evaluated r set) x (other_number p.local x other) is_in), others x w is_x (λ q. true≢false (sym (eq-eqb p.local x (sym q)) ∙ other)));
      })))
  statement_quiet st (Dead x) set ρ span g gs is_n is_stops (ty, is_ty) can held agrees goals =
      let (v, is_v, w) = dead_yields (declarations s) b no_tys n inside st set span x ty g gs is_n is_stops held is_ty in
      subst (Quiet (After st (Dead x) set ρ (at_next g ∷ gs))) (sym is_v) (record {
        ran = record { held = held_gone (declarations s) b no_tys n inside x w held; stay = w.stay; elsewhere = written_elsewhere n refl w };
        env = ρ;
        agrees = agree_gone b set ρ x w agrees;
        moves = none;
        elsewhere = λ y out. refl;
        others = λ y u e is_in is_y. (without_before x set y is_in, refl);
      })
