-- Laws of trees: a tree on pages that are not changed stays, and how many entries it can have.
use Rattle.std.specs.Prelude.{◌≡◌, ℕ, ◌+◌, ◌*◌, ◌≤◌, ◌==◌, ◌||◌, true, false, List, [], ◌∷◌, ◌++◌, length, Option, Some, if◌then◌else◌}
use Rattle.std.specs.Int.{w16, w64, to_le_bytes}
use Rattle.std.specs.List.{AllByRecursion}
use Rattle.std.proofs.Common.{◌∙◌, ap, refl, arith, inl, inr, length-append}
use Rattle.std.proofs.lemmas.Bool.{cases_eq, ne_eqb, eq-eqb}
use Rattle.hg_base.specs.Space.{Space, key_in}
use Rattle.hg_base.specs.Steadiness.{Mine, Steady, IsSamePage}
use Rattle.hg_base.specs.Lines.{NoneMine, has_page}
use Rattle.hg_base.specs.LineLaws.{line_steady, same_pages, all_has}
use Rattle.hg_base.specs.declared.File.{File}
use Rattle.hg_btree.specs.Entries.{Entry}
use Rattle.hg_btree.specs.Nodes.{spelled, spelling, child_bytes}
use Rattle.hg_btree.specs.Trees.{pages_of, IsLeafAt, IsInnerAt, Leaves, Inners, Chained, root, uses, uses_in, times, lowest, width_of, IsTree}

inner_same : (b c : ℕ → Option (List ℕ)) (n : ℕ) (x : Entry) (kids : List Entry) → c x.child ≡ b x.child → IsInnerAt b n x kids → IsInnerAt c n x kids
inner_same b c n x kids e h = record { page = h.page; first = h.first; items = h.items; told = e ∙ h.told; node = h.node; some = h.some; are = h.are }

leaf_same : (b c : ℕ → Option (List ℕ)) (x : Entry) (behind own : List Entry) → c x.child ≡ b x.child → IsLeafAt b x behind own → IsLeafAt c x behind own
leaf_same b c x behind own e h = record { page = h.page; told = e ∙ h.told; node = h.node; from = h.from; to = h.to }

-- the pages that are used hold the same
abbrev Agree : (ℕ → Option (List ℕ)) → (ℕ → Option (List ℕ)) → (ℕ → ℕ) → Type 0
Agree b c used = (y : ℕ) → 1 ≤ used y → c y ≡ b y

uses_here : (x : Entry) (xs : List Entry) → 1 ≤ uses (x ∷ xs) x.child
uses_here x xs = let e : (if x.child == x.child then 1 else 0) + uses xs x.child ≡ 1 + uses xs x.child = ap (λ b. (if b then 1 else 0) + uses xs x.child) (eq-eqb x.child x.child refl) in omega arith

inners_same : (b c : ℕ → Option (List ℕ)) (n : ℕ) (level below : List Entry) → Agree b c (uses level) → Inners b n level below → Inners c n level below
inners_same b c n [] below s h = h
inners_same b c n (x ∷ level) below s (kids, rest, at, e, h) = (
  kids,
  rest,
  inner_same b c n x kids (s x.child (uses_here x level)) at,
  e,
  inners_same b c n level rest (λ y u. s y (omega arith)) h,
)

leaves_same : (b c : ℕ → Option (List ℕ)) (level behind es : List Entry) → Agree b c (uses level) → Leaves b level behind es → Leaves c level behind es
leaves_same b c [] behind es s h = h
leaves_same b c (x ∷ level) behind es s (own, rest, at, e, h) = (
  own,
  rest,
  leaf_same b c x (level ++ behind) own (s x.child (uses_here x level)) at,
  e,
  leaves_same b c level behind rest (λ y u. s y (omega arith)) h,
)

chained_same : (b c : ℕ → Option (List ℕ)) (level : List Entry) (levels : List (List Entry)) (es : List Entry) → Agree b c (uses_in (level ∷ levels))
    → Chained b level levels es → Chained c level levels es
chained_same b c level [] es s h = leaves_same b c level [] es (λ y u. s y (omega arith)) h
chained_same b c level (below ∷ levels) es s h =
    (inners_same b c (length (below ∷ levels)) level below (λ y u. s y (omega arith)) h.0, chained_same b c below levels es (λ y u. s y (omega arith)) h.1)

-- a page that is used is one of the line
times_has : (pages : List ℕ) (y : ℕ) → 1 ≤ times pages y → has_page pages y ≡ true
times_has [] y h = absurd (omega arith)
times_has (x ∷ pages) y h = elim (cases_eq x y) [
  | inl e ↦ ap (λ t. t || has_page pages y) (eq-eqb x y e)
  | inr d ↦ ap (λ t. t || has_page pages y) (ne_eqb x y d)
      ∙ times_has pages y (let e : times (x ∷ pages) y ≡ 0 + times pages y = ap (λ b. (if b then 1 else 0) + times pages y) (ne_eqb x y d) in omega arith)
]

-- a tree of pages that are not mine stays,
pub tree_stays : (m : Mine) (file : File) (a b : Space) (top : ℕ) (es : List Entry) (pages : List ℕ) (leaves : ℕ) → Steady m a b → NoneMine file m pages
    → IsTree file a top es pages leaves → IsTree file b top es pages leaves
tree_stays m file a b top es pages leaves steady apart h =
    let same : AllByRecursion (λ x. IsSamePage a b (key_in file x)) pages = same_pages file m a b (Some top) pages steady apart h.line in
    record {
      line = line_steady file m a b (Some top) pages steady apart h.line;
      levels = h.levels;
      chained = chained_same (pages_of file a) (pages_of file b) (root top ∷ []) h.levels es
          (λ y u. (all_has (λ x. IsSamePage a b (key_in file x)) pages y same (times_has pages y (let o = h.owns y in omega arith))).bytes)
          h.chained;
      sorted = h.sorted;
      ascending = h.ascending;
      owns = h.owns;
      count = h.count;
      leaf_count = h.leaf_count;
      known = steady.told ∙ h.known;
      numbers = let e = ap (λ (g : File → ℕ). g file) steady.limit in let n = h.numbers in omega arith;
    }

-- ---- how many entries a tree can have

spelled_ten : (e : Entry) → 10 ≤ length (spelled false e)
unfolding spelled
spelled_ten e =
    let b = length-append (to_le_bytes w64 e.place) (e.key ++ child_bytes false e.child) in
    let d = length-append (to_le_bytes w16 (length e.key)) (to_le_bytes w64 e.place ++ (e.key ++ child_bytes false e.child)) in
    let p : length (to_le_bytes w16 (length e.key)) ≡ 2 = refl in
    let q : length (to_le_bytes w64 e.place) ≡ 8 = refl in
    omega arith

spelling_ten : (es : List Entry) → 10 * length es ≤ length (spelling false es)
unfolding spelling
spelling_ten [] = omega arith
spelling_ten (e ∷ es) =
    let a = length-append (spelled false e) (spelling false es) in
    let b = spelled_ten e in
    let c = spelling_ten es in
    omega arith

leaves_few : (b : ℕ → Option (List ℕ)) (level behind es : List Entry) → Leaves b level behind es → length es ≤ 408 * length level
leaves_few b [] behind es h = let e = ap length h in omega arith
leaves_few b (x ∷ level) behind es (own, rest, at, e, h) =
    let l = ap length e ∙ length-append own rest in
    let f = at.node.fits in
    let s = spelling_ten own in
    let r = leaves_few b level behind rest h in
    omega arith

lowest_few : (level : List Entry) (levels : List (List Entry)) → length (lowest level levels) ≤ length level + width_of levels
lowest_few level [] = omega arith
lowest_few level (below ∷ levels) = let r = lowest_few below levels in omega arith

chained_few : (b : ℕ → Option (List ℕ)) (level : List Entry) (levels : List (List Entry)) (es : List Entry) → Chained b level levels es → length es ≤ 408 * length (lowest level levels)
chained_few b level [] es h = leaves_few b level [] es h
chained_few b level (below ∷ levels) es h = chained_few b below levels es h.1

-- no more than 408 for each of its pages
pub entries_few : (file : File) (s : Space) (top : ℕ) (es : List Entry) (pages : List ℕ) (leaves : ℕ) → IsTree file s top es pages leaves → length es ≤ 408 * length pages
entries_few file s top es pages leaves h =
    let a = chained_few (pages_of file s) (root top ∷ []) h.levels es h.chained in
    let b = lowest_few (root top ∷ []) h.levels in
    let c = h.count in
    omega arith
