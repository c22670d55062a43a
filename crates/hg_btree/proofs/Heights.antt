-- How many levels and pages a tree may have.
use Rattle.std.specs.Prelude.{◌≡◌, ℕ, ◌+◌, ◌-◌, ◌*◌, ◌<◌, ◌≤◌, ◌^◌, zero, suc, List, [], ◌∷◌, length, Option, Some}
use Rattle.std.proofs.Common.{◌∙◌, ap, subst, refl, arith, length-append}
use Rattle.hg_base.specs.Space.{Space}
use Rattle.hg_base.specs.LineLaws.{line_few}
use Rattle.hg_base.specs.TakenLaws.{taken_below-le}
use Rattle.hg_base.specs.declared.File.{File}
use Rattle.hg_btree.specs.Entries.{Entry}
use Rattle.hg_btree.specs.Trees.{pages_of, Inners, Chained, root, width_of, lowest, IsTree}

-- each inner page has two children at least
kids_twice : (b : ℕ → Option (List ℕ)) (n : ℕ) (level below : List Entry) → Inners b n level below → length level + length level ≤ length below
kids_twice b n [] below h = let e = ap length h in omega arith
kids_twice b n (x ∷ xs) below (kids, rest, at, e, h) =
    let r = kids_twice b n xs rest h in
    let l = ap length e ∙ length-append kids rest in
    let k = ap length at.are in
    let s = at.some in
    omega arith

twice : ℕ → ℕ → ℕ
twice zero n = n
twice (suc k) n = twice k (n + n)

twice_more : (k n m : ℕ) → n ≤ m → twice k n ≤ twice k m
unfolding twice
twice_more zero n m l = l
twice_more (suc k) n m l = twice_more k (n + n) (m + m) (omega arith)

lowest_twice : (b : ℕ → Option (List ℕ)) (level : List Entry) (levels : List (List Entry)) (es : List Entry) → Chained b level levels es → twice (length levels) (length level) ≤ length (lowest level levels)
unfolding twice
lowest_twice b level [] es h = omega arith
lowest_twice b level (below ∷ levels) es h =
    let k = kids_twice b (length (below ∷ levels)) level below h.0 in
    let m = twice_more (length levels) (length level + length level) (length below) k in
    let r = lowest_twice b below levels es h.1 in
    go (length levels) (length (below ∷ levels)) (length level) (length (lowest below levels)) (omega arith) (omega arith)
  where
    go : (k j n m : ℕ) → j ≡ 1 + k → twice k (n + n) ≤ m → twice j n ≤ m
    go k j n m e h = subst (λ i. twice i n ≤ m) (let q : suc k ≡ j = omega arith in q) h

lowest_few : (level : List Entry) (levels : List (List Entry)) → length (lowest level levels) ≤ length level + width_of levels
lowest_few level [] = omega arith
lowest_few level (below ∷ levels) = let r = lowest_few below levels in omega arith

grows : (k n : ℕ) → n ≤ twice k n
unfolding twice
grows zero n = omega arith
grows (suc k) n = let r = grows k (n + n) in omega arith

twice_plus : (j k n : ℕ) → twice j n ≤ twice (j + k) n
unfolding twice
twice_plus zero k n = subst (λ m. n ≤ twice m n) (let e : k ≡ zero + k = omega arith in e) (grows k n)
twice_plus (suc j) k n = subst (λ m. twice j (n + n) ≤ twice m n) (let e : suc (j + k) ≡ suc j + k = omega arith in e) (twice_plus j k (n + n))

two_to_32 : twice 32 1 ≡ 2 ^ 32
unfolding twice
two_to_32 = refl

pub height_few : (file : File) (s : Space) (top : ℕ) (es : List Entry) (pages : List ℕ) (leaves : ℕ) → (h : IsTree file s top es pages leaves) → length h.levels < 32
height_few file s top es pages leaves h = by_less (length h.levels) few
  where
    few : twice (length h.levels) 1 < 2 ^ 32
    few = let a = lowest_twice (pages_of file s) (root top ∷ []) h.levels es h.chained in
        let b = lowest_few (root top ∷ []) h.levels in
        let c = h.count in
        let d = line_few file s (Some top) pages h.line in
        let e = taken_below-le s.taken file (s.limit file) in
        let f = h.numbers in
        omega arith

    by_less : (k : ℕ) → twice k 1 < 2 ^ 32 → k < 32
    by_less k l =
        let n : 32 ≤ k → ⊥ = λ d. (let q = twice_plus 32 (k - 32) 1 in let e : 32 + (k - 32) ≡ k = omega arith in let r = ap (λ j. twice j 1) e in let z = two_to_32 in omega arith) in
        omega arith

-- ---- the pages of a tree

pages_twice : (b : ℕ → Option (List ℕ)) (level : List Entry) (levels : List (List Entry)) (es : List Entry) → Chained b level levels es
    → length level + width_of levels + length level ≤ length (lowest level levels) + length (lowest level levels)
pages_twice b level [] es h = omega arith
pages_twice b level (below ∷ levels) es h =
    let k = kids_twice b (length (below ∷ levels)) level below h.0 in
    let r = pages_twice b below levels es h.1 in
    omega arith

pub pages_few : (file : File) (s : Space) (top : ℕ) (es : List Entry) (pages : List ℕ) (leaves : ℕ) → IsTree file s top es pages leaves → length pages + 1 ≤ 2 * leaves
pages_few file s top es pages leaves h =
    let r = pages_twice (pages_of file s) (root top ∷ []) h.levels es h.chained in
    let c = h.count in
    let l = h.leaf_count in
    omega arith
