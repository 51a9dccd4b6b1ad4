use Rattle.std.proofs.Common.{ap, refl, ◌∙◌, Some, ℕ, arith}
use Rattle.rs_tokens.specs.Tables.{reserved}
use Rattle.rs_tokens.proofs.FirstBytes.{reserved_by, none_reserved}
use Rattle.rs_tokens.proofs.words.reserved_kind.Goals as goal

pub returns-in-95 : goal.returns-in-95
unfolding reserved
returns-in-95 c = c.kind_in.ensures ∙ reserved_by 95 _ c.args.word.now (c.requires ∙ ap (λ (b : ℕ). Some b) c.in-95.is) refl

pub returns-in-97 : goal.returns-in-97
unfolding reserved
returns-in-97 c = c.kind_in-in-97.ensures ∙ reserved_by 97 _ c.args.word.now (c.requires ∙ ap (λ (b : ℕ). Some b) c.in-97.is) refl

pub returns-in-98 : goal.returns-in-98
unfolding reserved
returns-in-98 c = c.kind_in-in-98.ensures ∙ reserved_by 98 _ c.args.word.now (c.requires ∙ ap (λ (b : ℕ). Some b) c.in-98.is) refl

pub returns-in-99 : goal.returns-in-99
unfolding reserved
returns-in-99 c = c.kind_in-in-99.ensures ∙ reserved_by 99 _ c.args.word.now (c.requires ∙ ap (λ (b : ℕ). Some b) c.in-99.is) refl

pub returns-in-101 : goal.returns-in-101
unfolding reserved
returns-in-101 c = c.kind_in-in-101.ensures ∙ reserved_by 101 _ c.args.word.now (c.requires ∙ ap (λ (b : ℕ). Some b) c.in-101.is) refl

pub returns-in-102 : goal.returns-in-102
unfolding reserved
returns-in-102 c = c.kind_in-in-102.ensures ∙ reserved_by 102 _ c.args.word.now (c.requires ∙ ap (λ (b : ℕ). Some b) c.in-102.is) refl

pub returns-in-105 : goal.returns-in-105
unfolding reserved
returns-in-105 c = c.kind_in-in-105.ensures ∙ reserved_by 105 _ c.args.word.now (c.requires ∙ ap (λ (b : ℕ). Some b) c.in-105.is) refl

pub returns-in-108 : goal.returns-in-108
unfolding reserved
returns-in-108 c = c.kind_in-in-108.ensures ∙ reserved_by 108 _ c.args.word.now (c.requires ∙ ap (λ (b : ℕ). Some b) c.in-108.is) refl

pub returns-in-109 : goal.returns-in-109
unfolding reserved
returns-in-109 c = c.kind_in-in-109.ensures ∙ reserved_by 109 _ c.args.word.now (c.requires ∙ ap (λ (b : ℕ). Some b) c.in-109.is) refl

pub returns-in-112 : goal.returns-in-112
unfolding reserved
returns-in-112 c = c.kind_in-in-112.ensures ∙ reserved_by 112 _ c.args.word.now (c.requires ∙ ap (λ (b : ℕ). Some b) c.in-112.is) refl

pub returns-in-114 : goal.returns-in-114
unfolding reserved
returns-in-114 c = c.kind_in-in-114.ensures ∙ reserved_by 114 _ c.args.word.now (c.requires ∙ ap (λ (b : ℕ). Some b) c.in-114.is) refl

pub returns-in-115 : goal.returns-in-115
unfolding reserved
returns-in-115 c = c.kind_in-in-115.ensures ∙ reserved_by 115 _ c.args.word.now (c.requires ∙ ap (λ (b : ℕ). Some b) c.in-115.is) refl

pub returns-in-83 : goal.returns-in-83
unfolding reserved
returns-in-83 c = c.kind_in-in-83.ensures ∙ reserved_by 83 _ c.args.word.now (c.requires ∙ ap (λ (b : ℕ). Some b) c.in-83.is) refl

pub returns-in-116 : goal.returns-in-116
unfolding reserved
returns-in-116 c = c.kind_in-in-116.ensures ∙ reserved_by 116 _ c.args.word.now (c.requires ∙ ap (λ (b : ℕ). Some b) c.in-116.is) refl

pub returns-in-117 : goal.returns-in-117
unfolding reserved
returns-in-117 c = c.kind_in-in-117.ensures ∙ reserved_by 117 _ c.args.word.now (c.requires ∙ ap (λ (b : ℕ). Some b) c.in-117.is) refl

pub returns-in-119 : goal.returns-in-119
unfolding reserved
returns-in-119 c = c.kind_in-in-119.ensures ∙ reserved_by 119 _ c.args.word.now (c.requires ∙ ap (λ (b : ℕ). Some b) c.in-119.is) refl

pub returns-in-100 : goal.returns-in-100
unfolding reserved
returns-in-100 c = c.kind_in-in-100.ensures ∙ reserved_by 100 _ c.args.word.now (c.requires ∙ ap (λ (b : ℕ). Some b) c.in-100.is) refl

pub returns-in_default : goal.returns-in_default
returns-in_default c = none_reserved c.args.first c.args.word.now c.requires (
  omega arith,
  (
    omega arith,
    (
      omega arith,
      (
        omega arith,
        (
          omega arith,
          (
            omega arith,
            (omega arith, (omega arith, (omega arith, (omega arith, (omega arith, (omega arith, (omega arith, (omega arith, (omega arith, (omega arith, (omega arith, tt))))))))))),
          ),
        ),
      ),
    ),
  ),
)
