-- The blocks of a text whose ends lead on are laid out.
use Rattle.std.proofs.Common.{◌≡◌, refl, ap, sym, ◌∙◌, subst, ℕ, suc, ◌<◌, ◌≤◌, ◌==◌, ◌||◌, Bool, true, false, cond, List, [], ◌∷◌, ◌++◌, map, Some, None, append-nil, arith, true≢false}
use Rattle.std.proofs.lemmas.Bool.{eqb-true, eq-eqb}
use Rattle.logic_term.specs.declared.kinds.Label.{Label}
use Rattle.mir_ir.specs.declared.body.Block.{Block}
use Rattle.mir_ir.specs.declared.body.Body.{Body}
use Rattle.mir_ir.specs.declared.body.Head.{Head}
use Rattle.mir_ir.specs.declared.terminator.Terminator.{Terminator}
use Rattle.mir_ir.specs.Body.{block_in}
use Rattle.mir_ir.specs.Layout.{among, targets, place_of, around_of, Enters, Leads, on, back, IsLaidOut}
use Rattle.mir_build.specs.Text.{Title, Line, Puts, Makes, Turns, Leaves, Owns, Front, Stands, Nowhere, fresh, longer, closed, begun}
use Rattle.mir_build.proofs.Numbers.{count}
use Rattle.mir_build.proofs.LawLists.{Has, here, there, differs, fewer, count_self}
use Rattle.mir_build.proofs.LawFlow.{To, onward, back as backward, ToEach, Flows, at_end, puts, makes, turns, leaves, owns}

-- the blocks of the text, behind which the open one ends so
abbrev pub blocks_of : Front → List Line → Terminator → List (Label × Block)
blocks_of o xs t = closed o (xs ++ Leaves t ∷ [])

abbrev pub title_of : Label × Block → Title
title_of e = record { label = e.0; nest = e.1.nest; head = e.1.head }

abbrev pub titles : List (Label × Block) → List Title
titles bs = map title_of bs

abbrev pub labels : List (Label × Block) → List ℕ
labels bs = map (λ (e : Label × Block). e.0.0) bs

-- the title of the open block
abbrev pub in_front : Front → List Title
in_front (Stands o) = o.title ∷ []
in_front Nowhere = []

pub titles_of : (o : Front) (xs : List Line) (t : Terminator) → titles (blocks_of o xs t) ≡ in_front o ++ begun xs
titles_of (Stands o) [] t = refl
titles_of Nowhere [] t = refl
titles_of (Stands o) (Puts s ∷ xs) t = titles_of (longer (Stands o) s) xs t
titles_of Nowhere (Puts s ∷ xs) t = titles_of Nowhere xs t
titles_of o (Makes x u ∷ xs) t = titles_of o xs t
titles_of (Stands o) (Turns u b ∷ xs) t = ap (λ bs. o.title ∷ bs) (titles_of (fresh b) xs t)
titles_of Nowhere (Turns u b ∷ xs) t = titles_of (fresh b) xs t
titles_of (Stands o) (Leaves u ∷ xs) t = ap (λ bs. o.title ∷ bs) (titles_of Nowhere xs t)
titles_of Nowhere (Leaves u ∷ xs) t = titles_of Nowhere xs t
titles_of o (Owns l ys ∷ xs) t = titles_of o xs t

labels_of_titles : (bs : List (Label × Block)) → labels bs ≡ map (λ (b : Title). b.label.0) (titles bs)
labels_of_titles [] = refl
labels_of_titles (e ∷ bs) = ap (λ ls. e.0.0 ∷ ls) (labels_of_titles bs)

pub labels_of : (o : Front) (xs : List Line) (t : Terminator) → labels (blocks_of o xs t) ≡ map (λ (b : Title). b.label.0) (in_front o ++ begun xs)
labels_of o xs t = labels_of_titles (blocks_of o xs t) ∙ ap (λ bs. map (λ (b : Title). b.label.0) bs) (titles_of o xs t)

-- each end leads from its block as `To` says
abbrev pub Flowing : List Title → List (Label × Block) → Type 0
Flowing whole [] = Unit {0}
Flowing whole (e ∷ es) = ToEach whole e.1.nest (titles es) (targets e.1.end.kind) × Flowing whole es

-- the open block is in these loops
abbrev pub IsIn : List Label → Front → Type 0
IsIn ls (Stands o) = ls ≡ o.title.nest
IsIn ls Nowhere = Unit {0}

pub flowing_of : (whole : List Title) (t : Terminator) → targets t.kind ≡ [] → (from to : List Label) (xs : List Line) → Flows whole [] from to xs → (o : Front) → IsIn from o → Flowing whole (blocks_of o xs t)
flowing_of whole t q from to xs at_end (Stands o) s = (subst (λ ls. ToEach whole o.title.nest [] ls) (sym q) tt, tt)
flowing_of whole t q from to xs at_end Nowhere s = tt
flowing_of whole t q from to xs (puts {s = st} p) (Stands o) s = flowing_of whole t q from to _ p (longer (Stands o) st) s
flowing_of whole t q from to xs (puts {s = st} p) Nowhere s = flowing_of whole t q from to _ p Nowhere tt
flowing_of whole t q from to xs (makes p) o s = flowing_of whole t q from to _ p o s
flowing_of whole t q from to xs (turns {t = u} {b = b} {xs = ys} e p) (Stands o) s = (
  subst (λ ns. ToEach whole ns (titles (blocks_of (fresh b) ys t)) (targets u.kind)) s
      (subst (λ bs. ToEach whole from bs (targets u.kind)) (ap (λ bs. b ∷ bs) (append-nil (begun ys)) ∙ sym (titles_of (fresh b) ys t)) e),
  flowing_of whole t q b.nest to ys p (fresh b) refl,
)
flowing_of whole t q from to xs (turns {t = u} {b = b} {xs = ys} e p) Nowhere s = flowing_of whole t q b.nest to ys p (fresh b) refl
flowing_of whole t q from to xs (leaves {t = u} {behind = ls} {xs = ys} e p) (Stands o) s = (
  subst (λ ns. ToEach whole ns (titles (blocks_of Nowhere ys t)) (targets u.kind)) s (subst (λ bs. ToEach whole from bs (targets u.kind)) (append-nil (begun ys) ∙ sym (titles_of Nowhere ys t)) e),
  flowing_of whole t q ls to ys p Nowhere tt,
)
flowing_of whole t q from to xs (leaves {behind = ls} e p) Nowhere s = flowing_of whole t q ls to _ p Nowhere tt
flowing_of whole t q from to xs (owns p) o s = flowing_of whole t q from to _ p o s

-- ---- labels that begin one block each

abbrev pub Once : List ℕ → Type 0
Once ls = (l : ℕ) → count l ls ≤ 1

pub rest_once : (y : ℕ) (ys : List ℕ) → Once (y ∷ ys) → Once ys
rest_once y ys h l = fewer l y ys (h l)

passed : {A : Type 0} (a b : A) {t : Bool} → t ≡ false → cond t a b ≡ b
passed a b e = ap (λ t. cond t a b) e

taken : {A : Type 0} (a b : A) {t : Bool} → t ≡ true → cond t a b ≡ a
taken a b e = ap (λ t. cond t a b) e

titles_count : (b : Title) (bs : List (Label × Block)) → Has b (titles bs) → 1 ≤ count b.label.0 (labels bs)
titles_count b [] h = elim h [ ]
titles_count b (e ∷ bs) here = count_self e.0.0 (labels bs)
titles_count b (e ∷ bs) (there h) = omega (arith, titles_count b bs h)

block_count : (bs : List (Label × Block)) (l : Label) (k : Block) → block_in bs l ≡ Some k → 1 ≤ count l.0 (labels bs)
block_count [] l k e = absurd (cc)
block_count (b ∷ bs) l k e = by_test (block_count bs l k) (b.0.0 == l.0) refl e
  where
    by_test : (block_in bs l ≡ Some k → 1 ≤ count l.0 (labels bs)) → (t : Bool) → (b.0.0 == l.0) ≡ t → cond t (Some b.1) (block_in bs l) ≡ Some k → 1 ≤ count l.0 (b.0.0 ∷ labels bs)
    by_test rest true e q = subst (λ n. 1 ≤ count l.0 (n ∷ labels bs)) (sym (eqb-true b.0.0 l.0 e)) (count_self l.0 (labels bs))
    by_test rest false e q = omega (arith, rest q)

-- the block of a title
pub record BlockOf (bs : List (Label × Block)) (b : Title) : Type 0 where
  pub block : Block
  pub is_block : block_in bs b.label ≡ Some block
  pub head : block.head ≡ b.head
  pub nest : block.nest ≡ b.nest

pub block_of : (b : Title) (bs : List (Label × Block)) → Once (labels bs) → Has b (titles bs) → BlockOf bs b
block_of b [] h g = elim g [ ]
block_of b (e ∷ bs) h here = record { block = e.1; is_block = taken _ _ (eq-eqb e.0.0 e.0.0 refl); head = refl; nest = refl }
block_of b (e ∷ bs) h (there g) =
    let w = block_of b bs (rest_once e.0.0 (labels bs) h) g in
    record { block = w.block; is_block = passed _ _ (differs b.label.0 e.0.0 (labels bs) (h b.label.0) (titles_count b bs g)) ∙ w.is_block; head = w.head; nest = w.nest }

each_found : (whole later : List Title) (from ls : List Label) (m : Label) → ToEach whole from later ls → among m ls ≡ true → To whole from later m
each_found whole later from [] m h e = absurd (true≢false (sym e))
each_found whole later from (l ∷ ls) m h e = by_test (each_found whole later from ls m h.1) (l.0 == m.0) refl e
  where
    by_test : (among m ls ≡ true → To whole from later m) → (t : Bool) → (l.0 == m.0) ≡ t → (t || among m ls) ≡ true → To whole from later m
    by_test rest true e q = subst (To whole from later) (ap (λ n. let r : Label = record { 0 = n } in r) (eqb-true l.0 m.0 e)) h.0
    by_test rest false e q = rest q

-- ---- edges

data LeadsIn (all bs : List (Label × Block)) (l : Label) (k : Block) (m : Label) : Type 0 where
  forth : (to : Block) → block_in bs m ≡ Some to → place_of bs l < place_of bs m → Enters k.nest m to → LeadsIn all bs l k m
  again : (to : Block) (h : Head) → block_in all m ≡ Some to → to.head ≡ Some h → among m k.nest ≡ true → LeadsIn all bs l k m

module _ (all : List (Label × Block)) (all_once : Once (labels all)) where
  -- from the first of the blocks
  from_first : (e : Label × Block) (bs : List (Label × Block)) (l m : Label) → Once (labels (e ∷ bs)) → (e.0.0 == l.0) ≡ true → To (titles all) e.1.nest (titles bs) m → LeadsIn all (e ∷ bs) l e.1 m
  from_first e bs l m h same (onward b q g outer inner a r) =
      let w = block_of b bs (rest_once e.0.0 (labels bs) h) g in
      let other : (e.0.0 == m.0) ≡ false = subst (λ (n : Label). (e.0.0 == n.0) ≡ false) q (differs b.label.0 e.0.0 (labels bs) (h b.label.0) (titles_count b bs g)) in
      let is_to : block_in bs m ≡ Some w.block = subst (λ n. block_in bs n ≡ Some w.block) q w.is_block in
      let at_l : place_of (e ∷ bs) l ≡ 0 = taken _ _ same in
      let at_m : place_of (e ∷ bs) m ≡ suc (place_of bs m) = passed _ _ other in
      forth w.block (passed _ _ other ∙ is_to) (omega (arith, at_l, at_m))
      (record { outer = outer; inner = inner; is_around = subst (λ hd. around_of hd w.block.nest m outer) (sym w.head) (subst (λ ns. around_of b.head ns m outer) (sym w.nest) a); within = r })
  from_first e bs l m h same (backward b hd q g r a) =
      let w = block_of b all all_once g in
      again w.block hd (subst (λ n. block_in all n ≡ Some w.block) q w.is_block) (w.head ∙ r) a

  -- from a later one
  from_later : (e : Label × Block) (bs : List (Label × Block)) (l m : Label) (k : Block) → Once (labels (e ∷ bs)) → (e.0.0 == l.0) ≡ false → LeadsIn all bs l k m → LeadsIn all (e ∷ bs) l k m
  from_later e bs l m k h other (forth to q p n) =
      let not_m : (e.0.0 == m.0) ≡ false = differs m.0 e.0.0 (labels bs) (h m.0) (block_count bs m to q) in
      let at_l : place_of (e ∷ bs) l ≡ suc (place_of bs l) = passed _ _ other in
      let at_m : place_of (e ∷ bs) m ≡ suc (place_of bs m) = passed _ _ not_m in
      forth to (passed _ _ not_m ∙ q) (omega (arith, at_l, at_m)) n
  from_later e bs l m k h other (again to hd q r a) = again to hd q r a

  leads_in : (bs : List (Label × Block)) → Once (labels bs) → Flowing (titles all) bs → (l m : Label) (k : Block) → block_in bs l ≡ Some k → among m (targets k.end.kind) ≡ true → LeadsIn all bs l k m
  leads_in [] h f l m k e a = absurd (cc)
  leads_in (b ∷ bs) h f l m k e a = by_test (λ q. leads_in bs (rest_once b.0.0 (labels bs) h) f.1 l m k q a) (b.0.0 == l.0) refl e
    where
      by_test : (block_in bs l ≡ Some k → LeadsIn all bs l k m) → (t : Bool) → (b.0.0 == l.0) ≡ t → cond t (Some b.1) (block_in bs l) ≡ Some k → LeadsIn all (b ∷ bs) l k m
      by_test rest true same q =
          let is_k : b.1 ≡ k = cc in
          subst (λ (j : Block). LeadsIn all (b ∷ bs) l j m) is_k (from_first b bs l m h same (each_found (titles all) (titles bs) b.1.nest (targets b.1.end.kind) m f.0 (subst (λ (j : Block). among m (targets j.end.kind) ≡ true) (sym is_k) a)))
      by_test rest false other q = from_later b bs l m k h other (rest q)

leads : (b : Body) (l m : Label) (k : Block) → LeadsIn b.blocks b.blocks l k m → Leads b l k m
leads b l m k (forth to q p n) = on to q p n
leads b l m k (again to h q r a) = back to h q r a

-- a body whose first block stands in no loop and whose ends lead on is laid out
pub laid_out : (b : Body) (t : Title) → t.label ≡ b.entry → t.nest ≡ [] → t.head ≡ None → Has t (titles b.blocks) → Once (labels b.blocks) → Flowing (titles b.blocks) b.blocks → IsLaidOut b
laid_out b t q n hd g once f =
    let w = block_of t b.blocks once g in
    record {
      entry = w.block;
      is_entry = subst (λ l. block_in b.blocks l ≡ Some w.block) q w.is_block;
      at_entry = subst (λ h. around_of h w.block.nest b.entry []) (sym (w.head ∙ hd)) (w.nest ∙ n);
      edges = λ l m k e a. leads b l m k (leads_in b.blocks once b.blocks once f l m k e a);
    }
