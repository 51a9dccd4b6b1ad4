use Rattle.std.proofs.Common.{◌∙◌, ap, refl, arith, Some, ℕ}
use Rattle.source_words.specs.QuotedWords.{quoted}
use Rattle.source_words.proofs.KindLemmas.{quoted_by, none_quoted}
use Rattle.source_words.proofs.kinds.quoted_from.Goals as goal

pub returns-in-70 : goal.returns-in-70
unfolding quoted
returns-in-70 c = c.found_in.ensures ∙ quoted_by 70 _ c.args.text.now (c.requires ∙ ap (λ (b : ℕ). Some b) c.in-70.is) refl

pub returns-in-77 : goal.returns-in-77
unfolding quoted
returns-in-77 c = c.found_in-in-77.ensures ∙ quoted_by 77 _ c.args.text.now (c.requires ∙ ap (λ (b : ℕ). Some b) c.in-77.is) refl

pub returns-in-86 : goal.returns-in-86
unfolding quoted
returns-in-86 c = c.found_in-in-86.ensures ∙ quoted_by 86 _ c.args.text.now (c.requires ∙ ap (λ (b : ℕ). Some b) c.in-86.is) refl

pub returns-in-97 : goal.returns-in-97
unfolding quoted
returns-in-97 c = c.found_in-in-97.ensures ∙ quoted_by 97 _ c.args.text.now (c.requires ∙ ap (λ (b : ℕ). Some b) c.in-97.is) refl

pub returns-in-98 : goal.returns-in-98
unfolding quoted
returns-in-98 c = c.found_in-in-98.ensures ∙ quoted_by 98 _ c.args.text.now (c.requires ∙ ap (λ (b : ℕ). Some b) c.in-98.is) refl

pub returns-in-99 : goal.returns-in-99
unfolding quoted
returns-in-99 c = c.found_in-in-99.ensures ∙ quoted_by 99 _ c.args.text.now (c.requires ∙ ap (λ (b : ℕ). Some b) c.in-99.is) refl

pub returns-in-100 : goal.returns-in-100
unfolding quoted
returns-in-100 c = c.found_in-in-100.ensures ∙ quoted_by 100 _ c.args.text.now (c.requires ∙ ap (λ (b : ℕ). Some b) c.in-100.is) refl

pub returns-in-101 : goal.returns-in-101
unfolding quoted
returns-in-101 c = c.found_in-in-101.ensures ∙ quoted_by 101 _ c.args.text.now (c.requires ∙ ap (λ (b : ℕ). Some b) c.in-101.is) refl

pub returns-in-102 : goal.returns-in-102
unfolding quoted
returns-in-102 c = c.found_in-in-102.ensures ∙ quoted_by 102 _ c.args.text.now (c.requires ∙ ap (λ (b : ℕ). Some b) c.in-102.is) refl

pub returns-in-105 : goal.returns-in-105
unfolding quoted
returns-in-105 c = c.found_in-in-105.ensures ∙ quoted_by 105 _ c.args.text.now (c.requires ∙ ap (λ (b : ℕ). Some b) c.in-105.is) refl

pub returns-in-108 : goal.returns-in-108
unfolding quoted
returns-in-108 c = c.found_in-in-108.ensures ∙ quoted_by 108 _ c.args.text.now (c.requires ∙ ap (λ (b : ℕ). Some b) c.in-108.is) refl

pub returns-in-109 : goal.returns-in-109
unfolding quoted
returns-in-109 c = c.found_in-in-109.ensures ∙ quoted_by 109 _ c.args.text.now (c.requires ∙ ap (λ (b : ℕ). Some b) c.in-109.is) refl

pub returns-in-112 : goal.returns-in-112
unfolding quoted
returns-in-112 c = c.found_in-in-112.ensures ∙ quoted_by 112 _ c.args.text.now (c.requires ∙ ap (λ (b : ℕ). Some b) c.in-112.is) refl

pub returns-in-114 : goal.returns-in-114
unfolding quoted
returns-in-114 c = c.found_in-in-114.ensures ∙ quoted_by 114 _ c.args.text.now (c.requires ∙ ap (λ (b : ℕ). Some b) c.in-114.is) refl

pub returns-in-115 : goal.returns-in-115
unfolding quoted
returns-in-115 c = c.found_in-in-115.ensures ∙ quoted_by 115 _ c.args.text.now (c.requires ∙ ap (λ (b : ℕ). Some b) c.in-115.is) refl

pub returns-in-117 : goal.returns-in-117
unfolding quoted
returns-in-117 c = c.found_in-in-117.ensures ∙ quoted_by 117 _ c.args.text.now (c.requires ∙ ap (λ (b : ℕ). Some b) c.in-117.is) refl

pub returns-in-118 : goal.returns-in-118
unfolding quoted
returns-in-118 c = c.found_in-in-118.ensures ∙ quoted_by 118 _ c.args.text.now (c.requires ∙ ap (λ (b : ℕ). Some b) c.in-118.is) refl

pub returns-in-121 : goal.returns-in-121
unfolding quoted
returns-in-121 c = c.found_in-in-121.ensures ∙ quoted_by 121 _ c.args.text.now (c.requires ∙ ap (λ (b : ℕ). Some b) c.in-121.is) refl

pub returns-in_default : goal.returns-in_default
returns-in_default c = none_quoted c.args.first c.args.text.now c.requires
    (omega arith, (omega arith, (omega arith, (omega arith, (omega arith, (omega arith, (omega arith, (omega arith, (omega arith, (omega arith, (omega arith, (omega arith, (omega arith, (omega arith, (omega arith, (omega arith, (omega arith, (omega arith, tt))))))))))))))))))
