-- What one more entry in a list of names does to the counts of names.
use Rattle.std.proofs.Common.{◌≡◌, ◌+◌, ◌≤◌, ℕ, List, [], ◌∷◌, ◌++◌, Bool, true, false, String, string_bytes, refl, sym, subst, arith, ◌∙◌}
use Rattle.std.proofs.lemmas.List.Sums.{sum_by-append}
use Rattle.std.proofs.lemmas.Bool.{false_from_ne_true}
use Rattle.std.proofs.lemmas.Slice.Eq.{bytes_eq-Decides}
use Rattle.std.specs.Global.{Global}
use Rattle.std.specs.Str.{bytes_eq}
use Rattle.io_edge.specs.Faults.{NoneFalls, RaisesOnly}
use Rattle.io_edge.specs.MemoryShelf.{times_named}

-- the name at the end counts once
named_last : (name : List ℕ) (text : String Global) → bytes_eq name (string_bytes text) ≡ true → times_named (text ∷ []) name ≡ 1
named_last name text same = rw same

-- another name at the end does not count
not_named_last : (name : List ℕ) (text : String Global) → bytes_eq name (string_bytes text) ≡ false → times_named (text ∷ []) name ≡ 0
not_named_last name text differs = rw differs

times_named-push : (name : List ℕ) (text : String Global) (names : List (String Global)) → times_named (names ++ text ∷ []) name ≡ times_named names name + times_named (text ∷ []) name
times_named-push name text names = sum_by-append _ names (text ∷ [])

pub RaisesOnly-push : (name : List ℕ) (text : String Global) (names : List (String Global)) → string_bytes text ≡ name
    → RaisesOnly name (times_named names) (times_named (names ++ text ∷ []))
RaisesOnly-push name text names is = (
  omega (arith, times_named-push name text names, named_last name text ((bytes_eq-Decides name (string_bytes text)).1 (sym is))),
  λ other differs. omega (
    arith,
    times_named-push other text names,
    not_named_last other text (false_from_ne_true _ (λ same. differs ((bytes_eq-Decides other (string_bytes text)).0 same ∙ is))),
  ),
)

-- counts of which one rises do not fall
pub NoneFalls-raised : (name : List ℕ) (before now : List ℕ → ℕ) → RaisesOnly name before now → NoneFalls before now
NoneFalls-raised name before now raised other =
    let at : (b : Bool) → bytes_eq other name ≡ b → before other ≤ now other =
    elim [
      | true ↦ λ same. subst (λ n. before n ≤ now n) (sym ((bytes_eq-Decides other name).0 same)) (omega (arith, raised.0))
      | false ↦ λ differs. omega (arith, raised.1 other (λ is. cc ((bytes_eq-Decides other name).1 is)))
    ]
    in at (bytes_eq other name) refl
