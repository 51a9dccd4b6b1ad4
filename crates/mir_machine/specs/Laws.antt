-- What holds of every proper call, whatever its contract.
use Rattle.std.specs.Prelude.{◌≡◌, ℕ, List}
use Rattle.logic_term.specs.Theory.{Theory, declared}
use Rattle.logic_term.specs.Ty.{Tys}
use Rattle.mir_ir.specs.declared.body.Body.{Body}
use Rattle.mir_ir.specs.WellFormed.{AreSound, Labelling}
use Rattle.mir_machine.specs.Good.{IsProper, called}
use Rattle.mir_machine.specs.Invariant.{AreLabelled, IsTypedRun}
use Rattle.mir_machine.specs.Step.{Stuck, after}
use Rattle.mir_machine.specs.Tree.{Tree}
use Rattle.mir_machine.specs.Typed.{Met}
use Rattle.mir_ir.specs.declared.body.Bodies.{Bodies}
use Rattle.mir_machine.specs.Code.{code_of}

-- each state that a proper call comes to, and its answer, is typed, at any labelling of what is surely initialised
abbrev pub ProperCallsStayTyped : Type 0
ProperCallsStayTyped =
    (Θ : Theory) (bodies : Bodies) (labelling : ℕ → Labelling) → AreLabelled bodies labelling → (f : ℕ) (θ : Tys) (args held : List (Tree (Unit {0}))) (b : Body) (met : List Met)
    → IsProper Θ bodies f θ args held b met → (n : ℕ) → IsTypedRun (declared Θ) bodies labelling f (after (code_of bodies) n (called b f θ args held))

-- after a proper call of a function of bodies that are typed and initialised no state is stuck; no obligation is asked for
abbrev pub ProperCallsAreNeverStuck : Type 0
ProperCallsAreNeverStuck =
    (Θ : Theory) (bodies : Bodies) → AreSound bodies → (f : ℕ) (θ : Tys) (args held : List (Tree (Unit {0}))) (b : Body) (met : List Met) → IsProper Θ bodies f θ args held b met
    → (n : ℕ) → after (code_of bodies) n (called b f θ args held) ≡ Stuck → ⊥
