-- What is known of a split before anything is written. Our own rule.
use Rattle.std.specs.Prelude.{◌≡◌, ◌≢◌, ℕ, ◌<◌, true, false, List, Some}
use Rattle.hg_base.specs.Space.{Space, IsFree, key_in}
use Rattle.hg_base.specs.Lines.{has_page}
use Rattle.hg_base.specs.declared.File.{File}
use Rattle.hg_btree.specs.Entries.{Entry}
use Rattle.hg_btree.specs.Nodes.{IsNode, IsWay}
use Rattle.hg_btree.specs.Halving.{AreInnerHalves, AreLeafHalves}

-- these are the halves of the page that holds these bytes
pub record AreHalves (old lower upper : List ℕ) (t : Entry) (key : List ℕ) (place : ℕ) : Type 0 where
  pub leaf : (link : ℕ) (own : List Entry) → IsNode false old 0 link own → AreLeafHalves link link own lower upper t key place
  pub inner : (level first : ℕ) (items : List Entry) → 0 < level → IsNode true old level first items → AreInnerHalves level first items lower upper t key place

-- the level of a page that holds these bytes, 0 of a leaf
pub record IsLevelOf (page : List ℕ) (level : ℕ) : Type 0 where
  pub leaf : (link : ℕ) (own : List Entry) → IsNode false page 0 link own → level ≡ 0
  pub inner : (n first : ℕ) (items : List Entry) → 0 < n → IsNode true page n first items → level ≡ n

-- A page above a crowded child, whose bytes are `above`, and the halves of the child: the bound between
-- them goes to the place `at` of the page above.
pub record Planned (file : File) (s : Space) (t : Entry) (n node child at level : ℕ) (above lower upper key : List ℕ) (place : ℕ) (pages : List ℕ) : Type 0 where
  pub parent_in : has_page pages node ≡ true
  pub child_in : has_page pages child ≡ true
  pub parent_free : IsFree s (record { file = file; no = node })
  pub told_above : s.bytes (key_in file node) ≡ Some above
  pub way : (level first : ℕ) (items : List Entry) → IsNode true above level first items → IsWay first items t at child
  pub child_free : IsFree s (record { file = file; no = child })
  pub apart : child ≢ node
  pub old : List ℕ
  pub told : s.bytes (key_in file child) ≡ Some old
  pub level_is : level ≡ n
  pub is_level : IsLevelOf old level
  pub halves : AreHalves old lower upper t key place

-- a crowded top, and its halves
pub record TopPlanned (file : File) (s : Space) (t : Entry) (top height level : ℕ) (lower upper key : List ℕ) (place : ℕ) : Type 0 where
  pub free : IsFree s (record { file = file; no = top })
  pub old : List ℕ
  pub told : s.bytes (key_in file top) ≡ Some old
  pub level_is : level ≡ height
  pub is_level : IsLevelOf old level
  pub halves : AreHalves old lower upper t key place
