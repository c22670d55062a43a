-- What an insertion into a tree does. Our own rule.
use Rattle.std.specs.Prelude.{◌≡◌, ℕ, ◌+◌, ◌*◌, ◌<◌, ◌≤◌, zero, suc, Bool, true, false, List, [], ◌∷◌, length, Option, Some, None, Result, Ok, Err, if◌then◌else◌, ◌⊎◌}
use Rattle.hg_base.specs.Space.{Space, key_in}
use Rattle.hg_base.specs.Steadiness.{Steady}
use Rattle.hg_base.specs.Lines.{IsLine, has_page}
use Rattle.hg_base.specs.declared.File.{File}
use Rattle.hg_base.specs.declared.pages.PageFault.{PageFault}
use Rattle.hg_btree.specs.Entries.{Entry, is_below}
use Rattle.hg_btree.specs.Nodes.{crowded_page}
use Rattle.hg_btree.specs.Trees.{pages_of, root, IsTree, Reached}
use Rattle.hg_btree.specs.Deleting.{pages_mine}
use Rattle.hg_btree.specs.Putting.{PutIn, Has}

-- 1 where fewer bytes are free on a page than the longest entry takes
abbrev pub crowded_one : Option (List ℕ) → ℕ
crowded_one (Some page) = if crowded_page page then 1 else 0
crowded_one None = 0

-- The page of a level on the way to t is the last one whose bound is not behind t: whether that one is
-- crowded, where it is this page or one of those behind it.
abbrev pub crowded_from : (ℕ → Option (List ℕ)) → ℕ → List Entry → Entry → ℕ
crowded_from b p [] t = crowded_one (b p)
crowded_from b p (x ∷ xs) t = if is_below t x then crowded_one (b p) else crowded_from b x.child xs t

abbrev pub crowded_at : (ℕ → Option (List ℕ)) → List Entry → Entry → ℕ
crowded_at b [] t = 0
crowded_at b (x ∷ xs) t = crowded_from b x.child xs t

-- how many pages on the way to t through these levels are crowded
abbrev pub crowded_on : (ℕ → Option (List ℕ)) → List (List Entry) → Entry → ℕ
crowded_on b [] t = 0
crowded_on b (level ∷ levels) t = crowded_at b level t + crowded_on b levels t

-- How many pages a tree may have behind an insertion of t: one more for each crowded page on the way,
-- and one more where the top is one of them.
abbrev pub most_pages : File → Space → ℕ → List (List Entry) → ℕ → Entry → ℕ
most_pages file s top levels pages t = pages + crowded_one (pages_of file s top) + crowded_on (pages_of file s) ((root top ∷ []) ∷ levels) t

-- The page has room for one more entry of any length.
pub record HasRoom (file : File) (s : Space) (node : ℕ) : Type 0 where
  pub page : List ℕ
  pub told : s.bytes (key_in file node) ≡ Some page
  pub free : crowded_page page ≡ false

-- The way down to t has come to a page of this level, which has room if it is no leaf. With one page
-- more for each crowded one below it the tree has no more than so many.
pub record OnWay (file : File) (s : Space) (top : ℕ) (t : Entry) (es : List Entry) (most leaves level node : ℕ) : Type 0 where
  pub pages : List ℕ
  pub tree : IsTree file s top es pages leaves
  pub way : Reached top tree.levels t level node
  pub room : 0 < level → HasRoom file s node
  pub few : length pages + crowded_on (pages_of file s) way.below t ≤ most

-- and the next page on the way is crowded
pub record AboveCrowded (file : File) (s : Space) (top : ℕ) (t : Entry) (es : List Entry) (most leaves n node : ℕ) : Type 0 where
  pub on : OnWay file s top t es most leaves (n + 1) node
  pub full : (child : ℕ) (page : List ℕ) → Reached top on.tree.levels t n child → s.bytes (key_in file child) ≡ Some page → crowded_page page ≡ true

-- a leaf more where a leaf was split
abbrev pub leaves_after : ℕ → ℕ → ℕ
leaves_after zero leaves = leaves + 1
leaves_after (suc n) leaves = leaves

-- a tree at its top, to be split
pub record CrowdedTop (file : File) (s : Space) (top : ℕ) (es : List Entry) (pages : List ℕ) (leaves : ℕ) : Type 0 where
  pub tree : IsTree file s top es pages leaves
  pub full : (page : List ℕ) → s.bytes (key_in file top) ≡ Some page → crowded_page page ≡ true

-- The tree's line has more pages: those that it had, and others that were not taken.
pub record LineGrows (file : File) (a b : Space) (top : ℕ) (pages : List ℕ) : Type 0 where
  pub now : List ℕ
  pub line : IsLine file b (Some top) now
  pub kept : (n : ℕ) → has_page pages n ≡ true → has_page now n ≡ true
  pub more : (n : ℕ) → has_page now n ≡ true → (has_page pages n ≡ true) ⊎ (a.taken (key_in file n) ≡ false)
  pub steady : Steady (pages_mine file now) a b

-- It is a tree with these entries, at most so many pages, and at most one leaf more.
pub record IsTreeNow (file : File) (b : Space) (top : ℕ) (es : List Entry) (most leaves : ℕ) : Type 0 where
  pub pages : List ℕ
  pub leaves_now : ℕ
  pub tree : IsTree file b top es pages leaves_now
  pub few : length pages ≤ most
  pub two_a_leaf : length pages + 1 ≤ 2 * leaves_now
  pub no_less : leaves ≤ leaves_now
  pub one_more : leaves_now ≤ leaves + 1

-- the entry was not there, and is now
pub record IsTreeNowWith (file : File) (b : Space) (top : ℕ) (es : List Entry) (most leaves : ℕ) (t : Entry) : Type 0 where
  pub now : List Entry
  pub put : PutIn es now t
  pub tree : IsTreeNow file b top now most leaves

-- What an insertion makes of a tree: where it fails the tree has the entries that it had.
abbrev pub Inserts : File → Space → ℕ → List Entry → ℕ → ℕ → Entry → Result Bool PageFault → Type 0
Inserts file b top es most leaves t (Ok true) = IsTreeNowWith file b top es most leaves t
Inserts file b top es most leaves t (Ok false) = Has es t × IsTreeNow file b top es most leaves
Inserts file b top es most leaves t (Err f) = IsTreeNow file b top es most leaves

-- The way down has come to a page of this level, and leads on to this child. A top that is a leaf may be
-- split at the cost of two pages.
pub record AtStep (file : File) (s : Space) (top : ℕ) (t : Entry) (es : List Entry) (most leaves level node child : ℕ) : Type 0 where
  pub on : OnWay file s top t es most leaves level node
  pub next : (n : ℕ) → level ≡ n + 1 → Reached top on.tree.levels t n child
  pub at_top : level ≡ 0 → (node ≡ top) × (on.tree.levels ≡ []) × (length on.pages + crowded_one (pages_of file s top) + crowded_one (pages_of file s top) ≤ most)

-- What a look at a page on the way finds: its level, whether it is crowded, and the next page of the way.
pub record FindsHere (file : File) (s : Space) (top : ℕ) (t : Entry) (levels : List (List Entry)) (level node found_level : ℕ) (crowded : Bool) (child : ℕ) : Type 0 where
  pub level_is : found_level ≡ level
  pub next : (n : ℕ) → level ≡ n + 1 → Reached top levels t n child
  pub crowded_is : (page : List ℕ) → s.bytes (key_in file node) ≡ Some page → crowded ≡ crowded_page page

-- The way down has come to the leaf of t, or to the page above it, and the leaf has no room for t.
pub record AtFullLeaf (file : File) (s : Space) (top : ℕ) (t : Entry) (es : List Entry) (most leaves level node child : ℕ) : Type 0 where
  pub at : AtStep file s top t es most leaves level node child
  pub full : (leaf : ℕ) (page : List ℕ) → Reached top at.on.tree.levels t 0 leaf → s.bytes (key_in file leaf) ≡ Some page → crowded_page page ≡ true
