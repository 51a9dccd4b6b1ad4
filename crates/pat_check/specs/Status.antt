-- What is known of a value says that a pattern does not match it, that it does, or what has to be tested first, and where.
use Rattle.std.specs.Prelude.{ℕ, suc, ℤ, Bool, cond, Option, List, [], ◌∷◌}
use Rattle.std.specs.Ordering.{int_eq}
use Rattle.source_kinds.specs.declared.kinds.IntKind.{IntKind}
use Rattle.logic_term.specs.declared.pattern.PatStep.{PatStep}
use Rattle.logic_term.specs.Pattern.{Pat, Pats, wild, bound, literal, truth, shape, no_pats, and_pat}
use Rattle.logic_term.specs.Matches.{same_ctor, same_flag, variant_number}
use Rattle.pat_check.specs.declared.test.Test.{Test}
use Rattle.pat_check.specs.declared.test.Test.TheVariants as by
use Rattle.pat_check.specs.Known.{Known, Knowns, anything, other, number, flag, built, no_knowns, and_known, among}

pub data Status : Type 0 where
  fails sure : Status
  asks : List PatStep → Test → Status

-- a failing part decides, then the first that asks
abbrev pub also : Status → Status → Status
also fails t = fails
also sure t = t
also (asks p w) fails = fails
also (asks p w) sure = asks p w
also (asks p w) (asks q x) = asks p w

-- of the part 0 of a value of variant n
abbrev pub first : ℕ → Status → Status
first n fails = fails
first n sure = sure
first n (asks p w) = asks (record { variant = n; field = 0 } ∷ p) w

abbrev pub next_part : List PatStep → List PatStep
next_part [] = []
next_part (s ∷ p) = record { variant = s.variant; field = suc s.field } ∷ p

-- of the parts from 1 on
abbrev pub later : Status → Status
later fails = fails
later sure = sure
later (asks p w) = asks (next_part p) w

abbrev pub count_pats : Pats → ℕ
count_pats no_pats = 0
count_pats (and_pat p ps) = suc (count_pats ps)

-- of a pattern that is an integer
abbrev pub literal_status : Option IntKind → ℤ → Known → Status
literal_status i z anything = asks [] (by.Number i z)
literal_status i z (other j zs) = cond (among z zs) fails (asks [] (by.Number i z))
literal_status i z (number y) = cond (int_eq z y) sure fails
literal_status i z (flag b) = fails
literal_status i z (built c ks) = fails

-- of a pattern that is a truth value
abbrev pub truth_status : Bool → Known → Status
truth_status b anything = asks [] by.Truth
truth_status b (other j zs) = fails
truth_status b (number y) = fails
truth_status b (flag c) = cond (same_flag b c) sure fails
truth_status b (built c ks) = fails

abbrev mutual
  pub status : Pat → Known → Status
  status (wild s) k = sure
  status (bound s x m) k = sure
  status (literal s i z) k = literal_status i z k
  status (truth s b) k = truth_status b k
  status (shape s c ps) anything = asks [] (by.Made c (count_pats ps))
  status (shape s c ps) (other j zs) = fails
  status (shape s c ps) (number y) = fails
  status (shape s c ps) (flag b) = fails
  status (shape s c ps) (built e ks) = cond (same_ctor c e) (statuses (variant_number c) ps ks) fails

  pub statuses : ℕ → Pats → Knowns → Status
  statuses n no_pats no_knowns = sure
  statuses n no_pats (and_known k ks) = fails
  statuses n (and_pat p ps) no_knowns = fails
  statuses n (and_pat p ps) (and_known k ks) = also (first n (status p k)) (later (statuses n ps ks))
