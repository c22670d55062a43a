-- What is known of the pages of a split before anything is written.
use Rattle.std.specs.Prelude.{◌≡◌, ◌≢◌, ℕ, ◌+◌, ◌≤◌, zero, suc, true, false, List, [], ◌∷◌, ◌++◌, length, Option, Some}
use Rattle.std.proofs.Common.{sym, ◌∙◌, ap, subst, refl, arith}
use Rattle.hg_base.specs.Space.{Space, NoPins, IsFree, key, key_in}
use Rattle.hg_base.specs.declared.File.{File}
use Rattle.hg_base.specs.declared.PageId.{PageId}
use Rattle.hg_btree.specs.Entries.{Entry}
use Rattle.hg_btree.specs.Nodes.{IsNode, IsWay, crowded_page}
use Rattle.hg_btree.specs.Trees.{pages_of, first_page, times, IsTree, Reached}
use Rattle.hg_btree.specs.Looking.{IsTreePage}
use Rattle.hg_btree.specs.Growing.{AboveCrowded, CrowdedTop}
use Rattle.hg_btree.specs.Planning.{IsLevelOf}
use Rattle.hg_btree.specs.Steps.{Looks}
use Rattle.hg_btree.proofs.Walking.{leaf_here, inner_here, reached_used, reached_top}
use Rattle.hg_btree.proofs.Leaves.{tree_times}
use Rattle.hg_btree.proofs.Seeking.{used_free, bytes_stay}
use Rattle.hg_btree.proofs.Growing.{child_here, parent_elsewhere}
use Rattle.hg_btree.proofs.Stepping.{way_child}

some_one : (x y : List ℕ) → ◌≡◌ {A = Option (List ℕ)} (Some x) (Some y) → x ≡ y
some_one x y e = cc

-- A page where the way has come to, and its level.
pub record PageAt (file : File) (s : Space) (level num : ℕ) : Type 0 where
  pub free : IsFree s (record { file = file; no = num })
  pub page : List ℕ
  pub told : s.bytes (key_in file num) ≡ Some page
  pub is : IsTreePage page
  pub level_is : (l : ℕ) → IsLevelOf page l → l ≡ level

pub page_at : (file : File) (s : Space) (top : ℕ) (es : List Entry) (pages : List ℕ) (leaves level num : ℕ) (t : Entry) → NoPins s
    → (h : IsTree file s top es pages leaves) → Reached top h.levels t level num → PageAt file s level num
page_at file s top es pages leaves zero num t out h r =
    let l = leaf_here (pages_of file s) top h.levels es t num h.chained h.sorted r in
    record {
      free = used_free file s top es pages leaves num out h (let u = reached_used top h.levels t 0 num r in let o = h.owns num in omega arith);
      page = l.at.page;
      told = ap (λ n. s.bytes (key_in file n)) (sym r.page_is) ∙ l.at.told;
      is = record { inner = false; level = 0; link = first_page r.behind; es = l.own; node = l.at.node; leaf = λ _. refl; above = λ e. absurd (cc) };
      level_is = λ k i. i.leaf (first_page r.behind) l.own l.at.node;
    }
page_at file s top es pages leaves (suc n) num t out h r =
    let e : suc n ≡ n + 1 = omega arith in
    let q : Reached top h.levels t (n + 1) num = subst (λ k. Reached top h.levels t k num) e r in
    let i = inner_here (pages_of file s) top h.levels es t n num h.chained q in
    record {
      free = used_free file s top es pages leaves num out h (let u = reached_used top h.levels t (n + 1) num q in let o = h.owns num in omega arith);
      page = i.at.page;
      told = ap (λ k. s.bytes (key_in file k)) (sym q.page_is) ∙ i.at.told;
      is = record { inner = true; level = n + 1; link = i.at.first; es = i.at.items; node = i.at.node; leaf = λ e. absurd (cc); above = λ _. omega arith };
      level_is = λ k j. j.inner (n + 1) i.at.first i.at.items (omega arith) i.at.node ∙ sym e;
    }

-- the page above
pub record ParentPage (file : File) (s : Space) (n node : ℕ) : Type 0 where
  pub free : IsFree s (record { file = file; no = node })
  pub page : List ℕ
  pub told : s.bytes (key_in file node) ≡ Some page
  pub first : ℕ
  pub items : List Entry
  pub is : IsNode true page (n + 1) first items
  pub room : crowded_page page ≡ false
  pub used : (top : ℕ) (t : Entry) (es : List Entry) (most leaves : ℕ) (w : AboveCrowded file s top t es most leaves n node) → 1 ≤ times w.on.pages node

pub parent_page : (file : File) (s : Space) (top : ℕ) (t : Entry) (es : List Entry) (most leaves n node : ℕ) → NoPins s → AboveCrowded file s top t es most leaves n node → ParentPage file s n node
parent_page file s top t es most leaves n node out w =
    let h = w.on.tree in
    let r = w.on.way in
    let i = inner_here (pages_of file s) top h.levels es t n node h.chained r in
    let told = ap (λ k. s.bytes (key_in file k)) (sym r.page_is) ∙ i.at.told in
    let room = w.on.room (omega arith) in
    record {
      free = used_free file s top es w.on.pages leaves node out h (let u = reached_used top h.levels t (n + 1) node r in let o = h.owns node in omega arith);
      page = i.at.page;
      told = told;
      first = i.at.first;
      items = i.at.items;
      is = i.at.node;
      room = ap crowded_page (some_one i.at.page room.page (sym told ∙ room.told)) ∙ room.free;
      used = λ top t es most leaves w. (let u = reached_used top w.on.tree.levels t (n + 1) node w.on.way in let o = w.on.tree.owns node in omega arith);
    }

-- and its child on the way
pub record ChildOf (file : File) (s : Space) (n node kid lv : ℕ) (pages : List ℕ) : Type 0 where
  pub used : 1 ≤ times pages kid
  pub at : PageAt file s n kid
  pub full : crowded_page at.page ≡ true
  pub apart : kid ≢ node
  pub above : lv ≡ n + 1

pub child_of : (file : File) (s : Space) (top : ℕ) (t : Entry) (es : List Entry) (most leaves n node at kid lv : ℕ) (copy : List ℕ) → NoPins s → (w : AboveCrowded file s top t es most leaves n node)
    → s.bytes (key_in file node) ≡ Some copy
    → ((level first : ℕ) (items : List Entry) → IsNode true copy level first items → (lv ≡ level) × IsWay first items t at kid) → ChildOf file s n node kid lv w.on.pages
child_of file s top t es most leaves n node at kid lv copy out w told f =
    let h = w.on.tree in
    let r = w.on.way in
    let b = pages_of file s in
    let i = inner_here b top h.levels es t n node h.chained r in
    let told_p = ap (λ k. s.bytes (key_in file k)) (sym r.page_is) ∙ i.at.told in
    let wy = f (n + 1) i.at.first i.at.items (subst (λ p. IsNode true p (n + 1) i.at.first i.at.items) (some_one i.at.page copy (sym told_p ∙ told)) i.at.node) in
    let k = child_here b top h.levels es t n node at kid r i wy.1 in
    let rc : Reached top h.levels t n kid = record {
      above = r.above ++ (r.front ++ r.x ∷ r.behind) ∷ [];
      front = k.front;
      x = k.x;
      behind = k.behind;
      below = i.rest;
      all = way_child b top h.levels es t n node at kid r i k;
      level_is = i.rest_is;
      page_is = k.page_is;
      from = k.from;
      to = k.to;
    } in
    let p = page_at file s top es w.on.pages leaves n kid t out h rc in
    let once = tree_times file s (Some top) w.on.pages node h.line in
    let owns = h.owns node in
    record {
      used = (let u = reached_used top h.levels t n kid rc in let o = h.owns kid in omega arith);
      at = p;
      full = w.full kid p.page rc p.told;
      apart = (parent_elsewhere b top h.levels es t n node at kid r i k (omega arith)).1;
      above = wy.0;
    }

-- what was copied of a page of the tree
pub told_now : (a b : Space) (page : PageId) (x : List ℕ) → Looks a b → IsFree a page → a.bytes (key page) ≡ Some x → b.bytes (key page) ≡ Some x
told_now a b page x l f t = bytes_stay a b page l f ∙ t

-- a crowded top
pub record TopPage (file : File) (s : Space) (top height : ℕ) : Type 0 where
  pub at : PageAt file s height top
  pub full : crowded_page at.page ≡ true

pub top_page : (file : File) (s : Space) (top : ℕ) (es : List Entry) (pages : List ℕ) (leaves : ℕ) (t : Entry) → NoPins s → (w : CrowdedTop file s top es pages leaves)
    → TopPage file s top (length w.tree.levels)
top_page file s top es pages leaves t out w =
    let p = page_at file s top es pages leaves (length w.tree.levels) top t out w.tree (reached_top top w.tree.levels t) in
    record { at = p; full = w.full p.page p.told }
