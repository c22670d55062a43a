-- How a page of a tree is halved: its upper entries go to a new page. Our own rule.
use Rattle.std.specs.Prelude.{◌≡◌, ℕ, ◌+◌, ◌<◌, true, false, List, ◌∷◌, ◌++◌, length}
use Rattle.hg_btree.specs.Entries.{Entry, AllBy, Before, Ordered, NotBehind}
use Rattle.hg_btree.specs.Nodes.{spelled, spelling, IsNode, crowded_page}
use Rattle.hg_btree.specs.declared.split.Halves.{Halves}

-- Where an inner page is halved: its middle entry is the bound of the new page, and that entry's child
-- the new page's first.
pub record HalvesInner (es : List Entry) (h : Halves) (bound : List ℕ) : Type 0 where
  pub lower : List Entry
  pub middle : Entry
  pub upper : List Entry
  pub all : es ≡ lower ++ middle ∷ upper
  pub some_lower : 0 < length lower
  pub some_upper : 0 < length upper
  pub at_is : h.at ≡ 16 + length (spelling true lower)
  pub from_is : h.from ≡ h.at + length (spelled true middle)
  pub count_is : h.count ≡ length lower
  pub more_is : h.more ≡ length upper
  pub key_is : bound ≡ middle.key
  pub place_is : h.place ≡ middle.place
  pub link_is : h.link ≡ middle.child

-- A bound between entries, for t to go beside it: the lower ones are before it, and the upper ones are
-- not; it stands where they and t stand.
pub record IsBoundIn (es lower upper : List Entry) (t b : Entry) : Type 0 where
  pub below : Ordered Before es → AllBy (λ e. Before e b) lower
  pub above : Ordered Before es → AllBy (NotBehind b) upper
  pub from : (x : Entry) → AllBy (NotBehind x) es → NotBehind x t → NotBehind x b
  pub to : (y : Entry) → AllBy (λ e. Before e y) es → Before t y → Before b y

-- Where a leaf is halved for t.
pub record HalvesLeaf (link : ℕ) (es : List Entry) (t : Entry) (h : Halves) (bound : List ℕ) : Type 0 where
  pub lower : List Entry
  pub upper : List Entry
  pub all : es ≡ lower ++ upper
  pub at_is : h.at ≡ 16 + length (spelling false lower)
  pub from_is : h.from ≡ h.at
  pub count_is : h.count ≡ length lower
  pub more_is : h.more ≡ length upper
  pub link_is : h.link ≡ link
  pub is_bound : IsBoundIn es lower upper t (record { key = bound; place = h.place; child = 0 })

-- The half where t goes has room for one more entry of any length.
pub record HaveRoom (lower upper : List ℕ) (t b : Entry) : Type 0 where
  pub low : Before t b → crowded_page lower ≡ false
  pub high : crowded_page upper ≡ false

-- Both halves of an inner page.
pub record AreInnerHalves (level first : ℕ) (es : List Entry) (lower upper : List ℕ) (t : Entry) (key : List ℕ) (place : ℕ) : Type 0 where
  pub low : List Entry
  pub middle : Entry
  pub high : List Entry
  pub all : es ≡ low ++ middle ∷ high
  pub some_low : 0 < length low
  pub some_high : 0 < length high
  pub low_is : IsNode true lower level first low
  pub high_is : IsNode true upper level middle.child high
  pub key_is : key ≡ middle.key
  pub place_is : place ≡ middle.place
  pub room : HaveRoom lower upper t (record { key = key; place = place; child = 0 })

-- Both halves of a leaf. The upper one has the leaf's link, and the lower one this link.
pub record AreLeafHalves (low_link link : ℕ) (es : List Entry) (lower upper : List ℕ) (t : Entry) (key : List ℕ) (place : ℕ) : Type 0 where
  pub low : List Entry
  pub high : List Entry
  pub all : es ≡ low ++ high
  pub low_is : IsNode false lower 0 low_link low
  pub high_is : IsNode false upper 0 link high
  pub is_bound : IsBoundIn es low high t (record { key = key; place = place; child = 0 })
  pub room : HaveRoom lower upper t (record { key = key; place = place; child = 0 })
