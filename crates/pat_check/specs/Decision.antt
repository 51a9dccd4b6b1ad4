-- Trees of tests, and what they answer.
use Rattle.std.specs.Prelude.{ℕ, zero, suc, ℤ, true, cond, Option, Some, None, List, [], ◌∷◌}
use Rattle.logic_term.specs.declared.pattern.PatStep.{PatStep}
use Rattle.logic_term.specs.declared.pattern.Binding.{Binding}
use Rattle.logic_term.specs.Pattern.{Pat}
use Rattle.logic_term.specs.Value.{Value, Made}
use Rattle.logic_term.specs.Matches.{seen, is_number, is_flag, matches, value_at, variant_number, bindings}

mutual
  pub data Decision : Type 0 where
    -- an arm, and what it binds
    leaf : ℕ → List Binding → Decision
    -- a branch for each variant
    switch : List PatStep → Decisions → Decision
    if_truth : List PatStep → (on_true on_false : Decision) → Decision
    if_literal : List PatStep → ℤ → (equal others : Decision) → Decision

  pub data Decisions : Type 0 where
    no_more : Decisions
    and_then : Decision → Decisions → Decisions

pub record Answer : Type 0 where
  pub arm : ℕ
  pub binds : List Binding

abbrev pub variant_seen : Value → ℕ
variant_seen (Made c vs) = variant_number c
variant_seen _ = 0

-- what the tree answers for a value; None where a branch is missing
abbrev mutual
  pub run : Decision → Value → Option Answer
  run (leaf n bs) v = Some (record { arm = n; binds = bs })
  run (switch q Ds) v = run_nth Ds (variant_seen (seen (value_at v q))) v
  run (if_truth q D E) v = cond (is_flag true (seen (value_at v q))) (run D v) (run E v)
  run (if_literal q z D E) v = cond (is_number z (seen (value_at v q))) (run D v) (run E v)

  pub run_nth : Decisions → ℕ → Value → Option Answer
  run_nth no_more j v = None
  run_nth (and_then D Ds) zero v = run D v
  run_nth (and_then D Ds) (suc j) v = run_nth Ds j v

-- the first pattern that matches, with its bindings; n: the number of the first of these
abbrev pub first_match : ℕ → List Pat → Value → Option Answer
first_match n [] v = None
first_match n (p ∷ ps) v = cond (matches p v) (Some (record { arm = n; binds = bindings p })) (first_match (suc n) ps v)
