-- An ordered tree on the pages of a space: its levels from the top down, the last the leaves. Our own rule.
--
--   level 2                      [ top ]
--   level 1            [ a ]                [ b ]         the children of a, and then those of b
--   level 0     [ c ] -> [ d ] -> [ e ]  ->  [ f ] -> none
--
-- A level is the list of its pages, each with the bound that its entries are not before: an entry whose
-- child is the page. The bound of the first page of a level is the least entry.
use Rattle.std.specs.Prelude.{◌≡◌, ℕ, ◌+◌, ◌^◌, ◌<◌, ◌≤◌, ◌==◌, true, false, List, [], ◌∷◌, ◌++◌, length, Option, Some, ⊤, if◌then◌else◌}
use Rattle.hg_base.specs.Space.{Space, key_in}
use Rattle.hg_base.specs.Lines.{IsLine}
use Rattle.hg_base.specs.declared.File.{File}
use Rattle.hg_btree.specs.Entries.{Entry, AllBy, Ordered, Before, NotBehind}
use Rattle.hg_btree.specs.Nodes.{IsNode, IsBehind}

-- what a space says of the bytes of a file's pages, by their numbers
abbrev pub pages_of : File → Space → ℕ → Option (List ℕ)
pages_of file s n = s.bytes (key_in file n)

-- the first of these pages, as a leaf names the next one
abbrev pub first_page : List Entry → ℕ
first_page [] = 4294967295
first_page (x ∷ xs) = x.child

-- the entries are before the bound of the first of these pages, if there is one
abbrev pub AllBefore : List Entry → List Entry → Type 0
AllBefore es [] = ⊤
AllBefore es (x ∷ xs) = AllBy (λ e. Before e x) es

-- the page of x is a leaf with these entries, which stand between its bound and that of the next leaf
pub record IsLeafAt (b : ℕ → Option (List ℕ)) (x : Entry) (behind own : List Entry) : Type 0 where
  pub page : List ℕ
  pub told : b x.child ≡ Some page
  pub node : IsNode false page 0 (first_page behind) own
  pub from : AllBy (NotBehind x) own
  pub to : AllBefore own behind

-- the same bound with another page
abbrev pub with_page : Entry → ℕ → Entry
with_page x n = record { key = x.key; place = x.place; child = n }

-- the page of x is an inner page with these children
pub record IsInnerAt (b : ℕ → Option (List ℕ)) (level : ℕ) (x : Entry) (kids : List Entry) : Type 0 where
  pub page : List ℕ
  pub first : ℕ
  pub items : List Entry
  pub told : b x.child ≡ Some page
  pub node : IsNode true page level first items
  pub some : 0 < length items
  pub are : kids ≡ with_page x first ∷ items

-- the leaves have these entries together; `behind` are the leaves that come after them
abbrev pub Leaves : (ℕ → Option (List ℕ)) → List Entry → List Entry → List Entry → Type 0
Leaves b [] behind es = es ≡ []
Leaves b (x ∷ xs) behind es = (own : List Entry) × (rest : List Entry) × IsLeafAt b x (xs ++ behind) own × (es ≡ own ++ rest) × Leaves b xs behind rest

-- the inner pages of a level have these children together
abbrev pub Inners : (ℕ → Option (List ℕ)) → ℕ → List Entry → List Entry → Type 0
Inners b level [] below = below ≡ []
Inners b level (x ∷ xs) below = (kids : List Entry) × (rest : List Entry) × IsInnerAt b level x kids × (below ≡ kids ++ rest) × Inners b level xs rest

-- each level has the next one as its children, and the last one has the entries
abbrev pub Chained : (ℕ → Option (List ℕ)) → List Entry → List (List Entry) → List Entry → Type 0
Chained b level [] es = Leaves b level [] es
Chained b level (below ∷ levels) es = Inners b (length (below ∷ levels)) level below × Chained b below levels es

-- the page at the top, whose bound is the least entry
abbrev pub root : ℕ → Entry
root top = record { key = []; place = 0; child = top }

-- how often a page is among those of a level, of all levels, and of a list of pages
abbrev pub uses : List Entry → ℕ → ℕ
uses [] y = 0
uses (x ∷ xs) y = (if x.child == y then 1 else 0) + uses xs y

abbrev pub uses_in : List (List Entry) → ℕ → ℕ
uses_in [] y = 0
uses_in (level ∷ levels) y = uses level y + uses_in levels y

abbrev pub times : List ℕ → ℕ → ℕ
times [] y = 0
times (x ∷ xs) y = (if x == y then 1 else 0) + times xs y

-- how many pages the levels have
abbrev pub width_of : List (List Entry) → ℕ
width_of [] = 0
width_of (level ∷ levels) = length level + width_of levels

-- the last of some levels, or this one
abbrev pub lowest : List Entry → List (List Entry) → List Entry
lowest level [] = level
lowest level (below ∷ levels) = lowest below levels

abbrev pub AllSorted : List (List Entry) → Type 0
AllSorted [] = ⊤
AllSorted (level ∷ levels) = Ordered NotBehind level × AllSorted levels

-- A tree at this page of a file: its entries in order, its pages as a line, and its number of leaves.
pub record IsTree (file : File) (s : Space) (top : ℕ) (es : List Entry) (pages : List ℕ) (leaves : ℕ) : Type 0 where
  pub line : IsLine file s (Some top) pages
  pub levels : List (List Entry)
  pub chained : Chained (pages_of file s) (root top ∷ []) levels es
  pub sorted : AllSorted levels
  pub ascending : Ordered Before es
  pub owns : (y : ℕ) → uses_in ((root top ∷ []) ∷ levels) y ≡ times pages y
  pub count : length pages ≡ 1 + width_of levels
  pub leaf_count : leaves ≡ length (lowest (root top ∷ []) levels)
  pub known : s.told ≡ true
  -- 2^32 - 1 is no page's number
  pub numbers : s.limit file < 2 ^ 32

-- Where the way to t has come to: a page of this level from the bottom. t is not before its bound, and
-- before the bound of the page behind it.
pub record Reached (top : ℕ) (levels : List (List Entry)) (t : Entry) (level no : ℕ) : Type 0 where
  pub above : List (List Entry)
  pub front : List Entry
  pub x : Entry
  pub behind : List Entry
  pub below : List (List Entry)
  pub all : (root top ∷ []) ∷ levels ≡ above ++ (front ++ x ∷ behind) ∷ below
  pub level_is : length below ≡ level
  pub page_is : x.child ≡ no
  pub from : NotBehind x t
  pub to : IsBehind behind t

-- What a call asks where the space tells: this is a tree.
pub record HasTree (file : File) (s : Space) (top : ℕ) : Type 0 where
  pub es : List Entry
  pub pages : List ℕ
  pub leaves : ℕ
  pub tree : IsTree file s top es pages leaves

-- Where the way to t leads on from a page of this level.
pub record LedTo (top : ℕ) (levels : List (List Entry)) (t : Entry) (level child : ℕ) : Type 0 where
  pub at_leaf : level ≡ 0 → Reached top levels t 0 top
  pub onward : (n : ℕ) → level ≡ n + 1 → Reached top levels t n child

-- The leaves from one on, on the way along them to the first entry that is not before t.
pub record Along (b : ℕ → Option (List ℕ)) (es : List Entry) (pages : List ℕ) (t : Entry) (leaf turns : ℕ) : Type 0 where
  pub passed : List Entry
  pub rest : List Entry
  pub x : Entry
  pub behind : List Entry
  pub page_is : x.child ≡ leaf
  pub all : es ≡ passed ++ rest
  pub below : AllBy (λ e. Before e t) passed
  pub leaves : Leaves b (x ∷ behind) [] rest
  pub are_pages : (y : ℕ) → uses (x ∷ behind) y ≤ times pages y
  pub few : turns + length (x ∷ behind) ≤ length pages
