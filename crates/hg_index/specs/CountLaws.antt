-- Laws of how many pages an index takes: an entry costs at most 22, and as many pages more are taken as its
-- line has.
use Rattle.std.specs.Prelude.{◌≡◌, ◌≢◌, ℕ, ◌+◌, ◌-◌, ◌^◌, ◌<◌, ◌≤◌, ◌||◌, zero, suc, Bool, true, false, List, [], ◌∷◌, length, Option, None, Some, if◌then◌else◌}
use Rattle.std.specs.List.{AllByRecursion}
use Rattle.std.proofs.Common.{sym, ◌∙◌, ap, subst, refl, arith, inl, inr, length-append, zero-add}
use Rattle.std.proofs.lemmas.Bool.{cases_eq, eq-eqb, ne_eqb, false≢true}
use Rattle.hg_base.specs.Lines.{IsLine, AreApart, has_page}
use Rattle.hg_base.specs.LineLaws.{line_few, line_one, distinct-apart, distinct-taken, all_has}
use Rattle.hg_base.specs.Space.{Space, key_in, taken_below, taken_in}
use Rattle.hg_base.specs.TakenLaws.{AreDistinctPages, taken_below-le, key_in-one}
use Rattle.hg_base.specs.declared.File.{File}
use Rattle.hg_base.specs.declared.Index.{Index}
use Rattle.hg_base.specs.declared.Place.{Place}
use Rattle.hg_btree.specs.Entries.{Entry, is_below}
use Rattle.hg_btree.specs.Growing.{LineGrows, crowded_one, crowded_from, crowded_at, crowded_on}
use Rattle.hg_btree.specs.Nodes.{crowded_page}
use Rattle.hg_btree.specs.Trees.{pages_of, root, Inners, Chained, lowest, width_of, IsTree}
use Rattle.hg_model.specs.declared.values.Value.{Value}
use Rattle.hg_table.specs.Versions.{Placed}
use Rattle.hg_index.specs.Agreeing.{IsIndexOf}
use Rattle.hg_index.specs.Calls.{IsIndexNow, most_with}
use Rattle.hg_index.specs.Entering.{entry_for}

-- ---- the pages on a way

one_few : (page : Option (List ℕ)) → crowded_one page ≤ 1
one_few None = omega arith
one_few (Some page) = elim (crowded_page page) as (λ b. (if b then 1 else 0) ≤ 1) [ true ↦ omega arith | false ↦ omega arith ]

from_few : (b : ℕ → Option (List ℕ)) (p : ℕ) (xs : List Entry) (t : Entry) → crowded_from b p xs t ≤ 1
from_few b p [] t = one_few (b p)
from_few b p (x ∷ xs) t =
    elim (is_below t x) as (λ c. (if c then crowded_one (b p) else crowded_from b x.child xs t) ≤ 1) [ true ↦ one_few (b p) | false ↦ from_few b x.child xs t ]

at_few : (b : ℕ → Option (List ℕ)) (level : List Entry) (t : Entry) → crowded_at b level t ≤ 1
at_few b [] t = omega arith
at_few b (x ∷ xs) t = from_few b x.child xs t

on_few : (b : ℕ → Option (List ℕ)) (levels : List (List Entry)) (t : Entry) → crowded_on b levels t ≤ length levels
on_few b [] t = omega arith
on_few b (level ∷ levels) t = let a = at_few b level t in let r = on_few b levels t in omega arith

-- ---- the levels of a tree

kids_twice : (b : ℕ → Option (List ℕ)) (n : ℕ) (level below : List Entry) → Inners b n level below → length level + length level ≤ length below
kids_twice b n [] below h = let e = ap length h in omega arith
kids_twice b n (x ∷ xs) below (kids, rest, at, e, h) =
    let r = kids_twice b n xs rest h in
    let l = ap length e ∙ length-append kids rest in
    let k = ap length at.are in
    let s = at.some in
    omega arith

twice : ℕ → ℕ → ℕ
twice zero n = n
twice (suc k) n = twice k (n + n)

twice_more : (k n m : ℕ) → n ≤ m → twice k n ≤ twice k m
unfolding twice
twice_more zero n m l = l
twice_more (suc k) n m l = twice_more k (n + n) (m + m) (omega arith)

lowest_twice : (b : ℕ → Option (List ℕ)) (level : List Entry) (levels : List (List Entry)) (es : List Entry) → Chained b level levels es → twice (length levels) (length level) ≤ length (lowest level levels)
unfolding twice
lowest_twice b level [] es h = omega arith
lowest_twice b level (below ∷ levels) es h =
    let k = kids_twice b (length (below ∷ levels)) level below h.0 in
    let m = twice_more (length levels) (length level + length level) (length below) k in
    let r = lowest_twice b below levels es h.1 in
    go (length levels) (length (below ∷ levels)) (length level) (length (lowest below levels)) (omega arith) (omega arith)
  where
    go : (k j n m : ℕ) → j ≡ 1 + k → twice k (n + n) ≤ m → twice j n ≤ m
    go k j n m e h = subst (λ i. twice i n ≤ m) (let q : suc k ≡ j = omega arith in q) h

lowest_few : (level : List Entry) (levels : List (List Entry)) → length (lowest level levels) ≤ length level + width_of levels
lowest_few level [] = omega arith
lowest_few level (below ∷ levels) = let r = lowest_few below levels in omega arith

grows : (k n : ℕ) → n ≤ twice k n
unfolding twice
grows zero n = omega arith
grows (suc k) n = let r = grows k (n + n) in omega arith

twice_plus : (j k n : ℕ) → twice j n ≤ twice (j + k) n
unfolding twice
twice_plus zero k n = subst (λ m. n ≤ twice m n) (let e : k ≡ zero + k = omega arith in e) (grows k n)
twice_plus (suc j) k n = subst (λ m. twice j (n + n) ≤ twice m n) (let e : suc (j + k) ≡ suc j + k = omega arith in e) (twice_plus j k (n + n))

two_to_21 : twice 21 1 ≡ 2 ^ 21
unfolding twice
two_to_21 = refl

-- a tree in a file of 2^20 pages has at most 20 levels below its top
levels_few : (file : File) (s : Space) (top : ℕ) (es : List Entry) (pages : List ℕ) (leaves : ℕ) → s.limit file ≤ 2 ^ 20 → (h : IsTree file s top es pages leaves) → length h.levels ≤ 20
levels_few file s top es pages leaves small h = by_less (length h.levels) few
  where
    few : twice (length h.levels) 1 < 2 ^ 21
    few = let a = lowest_twice (pages_of file s) (root top ∷ []) h.levels es h.chained in
        let b = lowest_few (root top ∷ []) h.levels in
        let c = h.count in
        let d = line_few file s (Some top) pages h.line in
        let e = taken_below-le s.taken file (s.limit file) in
        omega arith

    by_less : (k : ℕ) → twice k 1 < 2 ^ 21 → k ≤ 20
    by_less k l =
        let n : 21 ≤ k → ⊥ = λ d. (let q = twice_plus 21 (k - 21) 1 in let e : 21 + (k - 21) ≡ k = omega arith in let r = ap (λ j. twice j 1) e in let z = two_to_21 in omega arith) in
        omega arith

-- an entry costs at most 22 pages
pub entry_cost : (s : Space) (i : Index) (pages : List ℕ) (leaves : ℕ) (versions : List Placed) (h : IsIndexOf s i pages leaves versions) (row : List Value) (at : Place)
    → s.limit i.tree.file ≤ 2 ^ 20 → most_with s i pages leaves versions h row at ≤ length pages + 22
entry_cost s i pages leaves versions h row at small =
    let a = levels_few i.tree.file s i.tree.top h.entries pages leaves small h.tree in
    let b = one_few (pages_of i.tree.file s i.tree.top) in
    let c = on_few (pages_of i.tree.file s) ((root i.tree.top ∷ []) ∷ h.tree.levels) (entry_for i.columns.items row at) in
    omega arith

-- ---- how many pages are taken

abbrev one_if : Bool → ℕ
one_if b = if b then 1 else 0

abbrev count_below : (ℕ → Bool) → ℕ → ℕ
count_below p zero = 0
count_below p (suc n) = one_if (p n) + count_below p n

sums_below : (p q r s : ℕ → Bool) (n : ℕ) → ((m : ℕ) → one_if (p m) + one_if (q m) ≤ one_if (r m) + one_if (s m))
    → count_below p n + count_below q n ≤ count_below r n + count_below s n
sums_below p q r s zero h = omega arith
sums_below p q r s (suc n) h = let a = h n in let b = sums_below p q r s n h in omega arith

taken_count : (taken : ℕ → Bool) (file : File) (n : ℕ) → taken_below taken file n ≡ count_below (λ m. taken (key_in file m)) n
taken_count taken file zero = refl
taken_count taken file (suc n) = ap (λ k. one_if (taken (key_in file n)) + k) (taken_count taken file n)

same_below : (p q : ℕ → Bool) (n : ℕ) → ((m : ℕ) → m < n → p m ≡ q m) → count_below p n ≡ count_below q n
same_below p q zero h = refl
same_below p q (suc n) h =
    ap (λ b. one_if b + count_below p n) (h n (omega arith)) ∙ ap (λ k. one_if (q n) + k) (same_below p q n (λ m l. h m (omega arith)))

one_more : (p q : ℕ → Bool) (x n : ℕ) → x < n → q x ≡ false → p x ≡ true → ((m : ℕ) → m ≢ x → p m ≡ q m) → count_below p n ≡ 1 + count_below q n
one_more p q x zero l qx px h = absurd (omega arith)
one_more p q x (suc n) l qx px h = elim (cases_eq n x) [
  | inl e ↦ (let a : one_if (p n) ≡ 1 = ap one_if (ap p e ∙ px) in
      let b : one_if (q n) ≡ 0 = ap one_if (ap q e ∙ qx) in
      let c = same_below p q n (λ m k. h m (λ d. absurd (omega arith))) in
      omega arith)
  | inr d ↦ (let a : one_if (p n) ≡ one_if (q n) = ap one_if (h n d) in
      let c = one_more p q x n (omega arith) qx px h in
      omega arith)
]

none_there : (xs : List ℕ) (x : ℕ) → AllByRecursion (λ y. y ≢ x) xs → has_page xs x ≡ false
none_there [] x h = refl
none_there (y ∷ xs) x h = ap (λ t. t || has_page xs x) (ne_eqb y x h.0) ∙ none_there xs x h.1

count_pages : (xs : List ℕ) (n : ℕ) → AreApart xs → AllByRecursion (λ x. x < n) xs → count_below (has_page xs) n ≡ length xs
count_pages [] n d l = none n
  where
    none : (n : ℕ) → count_below (has_page []) n ≡ 0
    none zero = refl
    none (suc n) = zero-add (count_below (has_page []) n) ∙ none n
count_pages (x ∷ xs) n d l =
    one_more (has_page (x ∷ xs)) (has_page xs) x n l.0 (none_there xs x d.0) (ap (λ t. t || has_page xs x) (eq-eqb x x refl))
    (λ m e. ap (λ t. t || has_page xs m) (ne_eqb x m (λ f. e (sym f))))
    ∙ (let r = count_pages xs n d.1 l.1 in omega arith)

numbers_below : (file : File) (taken : ℕ → Bool) (n : ℕ) (xs : List ℕ) → AreDistinctPages taken file n xs → AllByRecursion (λ x. x < n) xs
numbers_below file taken n [] d = tt
numbers_below file taken n (x ∷ xs) d = (d.0, numbers_below file taken n xs d.3)

one_least : (u : Bool) → one_if u ≤ 1
one_least true = omega arith
one_least false = omega arith

-- what is known of a page by whether it is one of the line now, and was one
in_now : (p t u : Bool) → (p ≡ true → t ≡ true) → one_if u + one_if p ≤ one_if t + one_if true
in_now true t u h = let e = ap one_if (h refl) in let k = one_least u in omega arith
in_now false t u h = let k = one_least u in omega arith

not_in_now : (p t u : Bool) → (p ≡ true → ⊥) → u ≡ t → one_if u + one_if p ≤ one_if t + one_if false
not_in_now true t u h e = absurd (h refl)
not_in_now false t u h e = let i = ap one_if e in omega arith

each_page : (file : File) (a b : Space) (top : ℕ) (pages : List ℕ) → IsLine file a (Some top) pages → (g : LineGrows file a b top pages) → (m : ℕ) (c : Bool) → has_page g.now m ≡ c
    → one_if (b.taken (key_in file m)) + one_if (has_page pages m) ≤ one_if (a.taken (key_in file m)) + one_if c
each_page file a b top pages line g m true e =
    in_now (has_page pages m) (a.taken (key_in file m)) (b.taken (key_in file m))
    (λ h. all_has (λ x. a.taken (key_in file x) ≡ true) pages m (distinct-taken file a.taken (a.limit file) pages line.taken) h)
each_page file a b top pages line g m false e =
    not_in_now (has_page pages m) (a.taken (key_in file m)) (b.taken (key_in file m)) (λ h. false≢true (sym e ∙ g.kept m h))
    (g.steady.taken (key_in file m) (λ (k, q, h). false≢true (sym e ∙ ap (has_page g.now) (key_in-one file m k q) ∙ h)))

-- as many pages more are taken as the line has
pub taken_grows : (file : File) (a b : Space) (top : ℕ) (pages : List ℕ) → IsLine file a (Some top) pages → (g : LineGrows file a b top pages)
    → taken_in b file + length pages ≤ taken_in a file + length g.now
taken_grows file a b top pages line g =
    let limit : b.limit file ≡ a.limit file = ap (λ (f : File → ℕ). f file) g.steady.limit in
    let n : ℕ = a.limit file in
    let tb : taken_in b file ≡ count_below (λ m. b.taken (key_in file m)) n = ap (taken_below b.taken file) limit ∙ taken_count b.taken file n in
    let ta : taken_in a file ≡ count_below (λ m. a.taken (key_in file m)) n = taken_count a.taken file n in
    let cp : count_below (has_page pages) n ≡ length pages = count_pages pages n (distinct-apart file a.taken n pages line.taken) (numbers_below file a.taken n pages line.taken) in
    let cn : count_below (has_page g.now) n ≡ length g.now = ap (count_below (has_page g.now)) (sym limit)
    ∙ count_pages g.now (b.limit file) (distinct-apart file b.taken (b.limit file) g.now g.line.taken) (numbers_below file b.taken (b.limit file) g.now g.line.taken) in
    let s = sums_below (λ m. b.taken (key_in file m)) (has_page pages) (λ m. a.taken (key_in file m)) (has_page g.now) n
    (λ m. each_page file a b top pages line g m (has_page g.now m) refl) in
    omega arith

-- an entry that joins takes at most 22 pages
pub add_takes : (a b : Space) (i : Index) (pages : List ℕ) (leaves : ℕ) (versions now : List Placed) (row : List Value) (at : Place) → (h : IsIndexOf a i pages leaves versions)
    → a.limit i.tree.file ≤ 2 ^ 20 → (g : LineGrows i.tree.file a b i.tree.top pages) → (n : IsIndexNow b i (most_with a i pages leaves versions h row at) leaves now)
    → taken_in b i.tree.file ≤ taken_in a i.tree.file + 22
add_takes a b i pages leaves versions now row at h small g n =
    let c = entry_cost a i pages leaves versions h row at small in
    let f = n.few in
    let same = ap length (line_one i.tree.file b (Some i.tree.top) n.pages g.now n.index.tree.line g.line) in
    let t = taken_grows i.tree.file a b i.tree.top pages h.tree.line g in
    omega arith
