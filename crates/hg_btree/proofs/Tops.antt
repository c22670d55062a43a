-- A tree and its line after the top was split.
use Rattle.std.specs.Prelude.{◌≡◌, ◌≢◌, ℕ, ◌+◌, ◌<◌, ◌≤◌, Bool, true, false, List, [], ◌∷◌, length, Option, Some, None}
use Rattle.std.proofs.Common.{sym, ◌∙◌, ap, subst, refl, arith, inl, inr}
use Rattle.std.proofs.lemmas.Bool.Decides.{nat_tests}
use Rattle.std.proofs.lemmas.Bool.{false≢true, cases_eq}
use Rattle.hg_base.specs.Space.{Space, NoPins, key, key_in, at}
use Rattle.hg_base.specs.TakenLaws.{key_in-one}
use Rattle.hg_base.specs.Lines.{IsLine, has_page}
use Rattle.hg_base.specs.declared.File.{File}
use Rattle.hg_base.specs.declared.PageId.{PageId}
use Rattle.hg_btree.specs.Entries.{Entry, Before, NotBehind, is_below}
use Rattle.hg_btree.specs.Nodes.{IsNode}
use Rattle.hg_btree.specs.Trees.{pages_of, root, IsTree, Reached, uses, uses_in, times, lowest}
use Rattle.hg_btree.specs.Deleting.{pages_mine}
use Rattle.hg_btree.specs.Halving.{HaveRoom}
use Rattle.hg_btree.specs.Growing.{crowded_on, HasRoom, OnWay, CrowdedTop, LineGrows, leaves_after}
use Rattle.hg_btree.specs.Planning.{TopPlanned}
use Rattle.hg_btree.specs.Rewriting.{with_linked, WritesTop}
use Rattle.hg_btree.proofs.Orders.{least_first, page_second}
use Rattle.hg_btree.specs.Steps.{Looks}
use Rattle.hg_btree.proofs.Leaves.{tree_times, tree_stays, tree_stays-levels}
use Rattle.hg_btree.proofs.Touching.{at-here}
use Rattle.hg_btree.proofs.Changing.{Agree}
use Rattle.hg_btree.proofs.Growing.{LevelCut, agree_without}
use Rattle.hg_btree.proofs.Stepping.{level_cut, crowded_same}
use Rattle.hg_btree.proofs.Rewriting.{at-other, LinksOne, line_more, rewritten_steady}
use Rattle.hg_btree.proofs.Walking.{uses_here}
use Rattle.hg_btree.proofs.Splits.{times_new, on_levels, child_room}
use Rattle.hg_btree.proofs.Grown.{first_taken, tree_bytes, linked_halves, has_kept, has_more, has_first, has_second, linked_other, linked_new}

-- ---- the line

-- the space once the upper page alone is linked
abbrev half_linked : Space → ℕ → ℕ → ℕ → Space
half_linked a h t high = record a { taken = at a.taken h true; next = with_linked (at a.next h None) h t high }

both_taken : (f : ℕ → Bool) (l h q : ℕ) → q ≢ l → at (at f l true) h true q ≡ at f h true q
both_taken f l h q d = grind (arith, nat_tests)

low_taken : (f : ℕ → Bool) (l h : ℕ) → at (at f l true) h true l ≡ true
low_taken f l h = grind (arith, nat_tests)

-- the successors before the lower page is linked
inner_other : (f : ℕ → Option ℕ) (l h t high q : ℕ) → q ≢ l → t ≢ l → with_linked (at (at f l None) h None) h t high q ≡ with_linked (at f h None) h t high q
inner_other f l h t high q dq dt = elim (cases_eq q t) [
  | inl e ↦ ap (with_linked (at (at f l None) h None) h t high) e ∙ at-here (at (at (at f l None) h None) h (at (at f l None) h None t)) t (Some high)
      ∙ sym (at-here (at (at f h None) h (at f h None t)) t (Some high)) ∙ ap (with_linked (at f h None) h t high) (sym e)
  | inr d ↦ at-other (at (at (at f l None) h None) h (at (at f l None) h None t)) t (Some high) q d ∙ rest q dq ∙ sym (at-other (at (at f h None) h (at f h None t)) t (Some high) q d)
]
  where
    same_none : (k : ℕ) → k ≢ l → at (at f l None) h None k ≡ at f h None k
    same_none k dk = elim (cases_eq k h) [
      | inl e ↦ ap (at (at f l None) h None) e ∙ at-here (at f l None) h None ∙ sym (at-here f h None) ∙ ap (at f h None) (sym e)
      | inr d ↦ at-other (at f l None) h None k d ∙ at-other f l None k dk ∙ sym (at-other f h None k d)
    ]

    rest : (k : ℕ) → k ≢ l → at (at (at f l None) h None) h (at (at f l None) h None t) k ≡ at (at f h None) h (at f h None t) k
    rest k dk = elim (cases_eq k h) [
      | inl e ↦ ap (at (at (at f l None) h None) h (at (at f l None) h None t)) e ∙ at-here (at (at f l None) h None) h (at (at f l None) h None t) ∙ same_none t dt
          ∙ sym (at-here (at f h None) h (at f h None t)) ∙ ap (at (at f h None) h (at f h None t)) (sym e)
      | inr n ↦ at-other (at (at f l None) h None) h (at (at f l None) h None t) k n ∙ same_none k dk ∙ sym (at-other (at f h None) h (at f h None t) k n)
    ]

pub top_high_links : (file : File) (a d : Space) (top low high : ℕ) (pages : List ℕ) (xp xc xn : List ℕ) → WritesTop a d (record { file = file; no = top }) low high xp xc xn → IsLine file a (Some top) pages
    → LinksOne file a (half_linked a (key_in file high) (key_in file top) high) top high
top_high_links file a d top low high pages xp xc xn w l =
    let n : ℕ = key_in file high in
    let t : ℕ = key_in file top in
    let nt : n ≢ t = λ e. false≢true (sym w.high_new.unused.not_taken ∙ ap a.taken e ∙ (first_taken file a top pages l).0) in
    record {
      limit = refl;
      of_heap = refl;
      below = w.high_new.below_limit;
      not_taken = w.high_new.unused.not_taken;
      no_heap = w.high_new.unused.no_heap;
      taken = λ q x. at-other a.taken n true q x;
      taken_new = at-here a.taken n true;
      next = λ q x y. linked_other a.next n t high q x y;
      next_new = linked_new a.next n t high nt;
      next_top = at-here (at (at a.next n None) n (at a.next n None t)) t (Some high);
    }

pub top_low_links : (file : File) (a d : Space) (top low high : ℕ) (pages : List ℕ) (xp xc xn : List ℕ) → WritesTop a d (record { file = file; no = top }) low high xp xc xn → IsLine file a (Some top) pages
    → LinksOne file (half_linked a (key_in file high) (key_in file top) high) d top low
top_low_links file a d top low high pages xp xc xn w l =
    let n : ℕ = key_in file low in
    let h : ℕ = key_in file high in
    let t : ℕ = key_in file top in
    let nt : n ≢ t = λ e. false≢true (sym w.low_new.unused.not_taken ∙ ap a.taken e ∙ (first_taken file a top pages l).0) in
    let nh : n ≢ h = λ e. w.apart (key_in-one file low high e) in
    let r = w.rewrites in
    let f : ℕ → Option ℕ = with_linked (at (at a.next n None) h None) h t high in
    let g : ℕ → Option ℕ = with_linked (at a.next h None) h t high in
    record {
      limit = r.limit;
      of_heap = r.of_heap;
      below = w.low_new.below_limit;
      not_taken = at-other a.taken h true n nh ∙ w.low_new.unused.not_taken;
      no_heap = w.low_new.unused.no_heap;
      taken = λ q x. ap (λ f. f q) r.taken_is ∙ both_taken a.taken n h q x;
      taken_new = ap (λ f. f n) r.taken_is ∙ low_taken a.taken n h;
      next = λ q x y. ap (λ f. f q) r.next_is ∙ at-other (at f n (f t)) t (Some low) q y ∙ at-other f n (f t) q x ∙ inner_other a.next n h t high q x (λ e. nt (sym e));
      next_new = ap (λ f. f n) r.next_is ∙ at-other (at f n (f t)) t (Some low) n nt ∙ at-here f n (f t) ∙ inner_other a.next n h t high t (λ e. nt (sym e)) (λ e. nt (sym e));
      next_top = ap (λ f. f t) r.next_is ∙ at-here (at f n (f t)) t (Some low);
    }

-- both pages stand behind the first
pub record TopLined (file : File) (d : Space) (top low high : ℕ) (pages : List ℕ) : Type 0 where
  pub rest : List ℕ
  pub was : pages ≡ top ∷ rest
  pub line : IsLine file d (Some top) (top ∷ low ∷ high ∷ rest)

same_tail : (x y : ℕ) (xs ys : List ℕ) → x ∷ xs ≡ y ∷ ys → xs ≡ ys
same_tail x y xs ys e = cc

pub top_lined : (file : File) (a d : Space) (top low high : ℕ) (pages : List ℕ) (xp xc xn : List ℕ) → WritesTop a d (record { file = file; no = top }) low high xp xc xn → IsLine file a (Some top) pages
    → TopLined file d top low high pages
top_lined file a d top low high pages xp xc xn w l =
    let v : Space = half_linked a (key_in file high) (key_in file top) high in
    let m1 = line_more file a v top high pages (top_high_links file a d top low high pages xp xc xn w l) l in
    let m2 = line_more file v d top low (top ∷ high ∷ m1.rest) (top_low_links file a d top low high pages xp xc xn w l) m1.line in
    record { rest = m1.rest; was = m1.was; line = subst (λ r. IsLine file d (Some top) (top ∷ low ∷ r)) (sym (same_tail top top (high ∷ m1.rest) m2.rest m2.was)) m2.line }

pub top_line : (file : File) (a d : Space) (top low high : ℕ) (pages : List ℕ) (xp xc xn : List ℕ) → NoPins a → WritesTop a d (record { file = file; no = top }) low high xp xc xn
    → IsLine file a (Some top) pages → LineGrows file a d top pages
top_line file a d top low high pages xp xc xn out w l =
    let m = top_lined file a d top low high pages xp xc xn w l in
    let k1 = top_high_links file a d top low high pages xp xc xn w l in
    let k2 = top_low_links file a d top low high pages xp xc xn w l in
    let now : List ℕ = top ∷ low ∷ high ∷ m.rest in
    let apart : (q y : ℕ) → ((pages_mine file now).pages q → ⊥) → has_page now y ≡ true → q ≢ key_in file y = λ q y n h e. n (y, e, h) in
    let has_high : has_page now high ≡ true = has_kept top low (high ∷ m.rest) high (has_second top high m.rest) in
    let r = w.rewrites in
    record {
      now = now;
      line = m.line;
      kept = λ n e. has_kept top low (high ∷ m.rest) n (has_kept top high m.rest n (ap (λ p. has_page p n) (sym m.was) ∙ e));
      more = λ n e. elim (has_more top low (high ∷ m.rest) n e) [
        | inl h ↦ elim (has_more top high m.rest n h) [
          | inl i ↦ inl (ap (λ p. has_page p n) m.was ∙ i)
          | inr s ↦ inr (ap (λ z. a.taken (key_in file z)) (sym s) ∙ w.high_new.unused.not_taken)
        ]
        | inr s ↦ inr (ap (λ z. a.taken (key_in file z)) (sym s) ∙ w.low_new.unused.not_taken)
      ];
      steady = rewritten_steady a d (key_in file top) (key_in file low) (key_in file high) _ _ xp xc xn (pages_mine file now).pages out r
          (λ q n. ap (λ f. f q) (sym r.taken_is) ∙ k2.taken q (apart q low n (has_second top low (high ∷ m.rest))) ∙ k1.taken q (apart q high n has_high))
          (λ q n. ap (λ f. f q) (sym r.next_is) ∙ k2.next q (apart q low n (has_second top low (high ∷ m.rest))) (apart q top n (has_first top (low ∷ high ∷ m.rest)))
          ∙ k1.next q (apart q high n has_high) (apart q top n (has_first top (low ∷ high ∷ m.rest))))
          (λ t. (top, refl, has_first top (low ∷ high ∷ m.rest))) (λ t. (low, refl, has_second top low (high ∷ m.rest))) (λ t. (high, refl, has_high));
    }

-- ---- the tree

pub top_split : (file : File) (a d : Space) (top : ℕ) (t : Entry) (es : List Entry) (pages : List ℕ) (most leaves low high half level : ℕ) (xp lower xc upper key : List ℕ) (place : ℕ)
    → (h : IsTree file a top es pages leaves) → TopPlanned file a t top (length h.levels) level lower upper key place
    → WritesTop a d (record { file = file; no = top }) low high xp xc upper
    → IsNode true xp (level + 1) low (record { key = key; place = place; child = high } ∷ [])
    → (level ≡ 0 → (n before : ℕ) (es : List Entry) → IsNode false lower n before es → IsNode false xc n high es) → (0 < level → xc ≡ lower)
    → (Before t (record { key = key; place = place; child = high }) → half ≡ low) → (NotBehind (record { key = key; place = place; child = high }) t → half ≡ high)
    → length pages + 2 + crowded_on (pages_of file a) h.levels t ≤ most
    → OnWay file d top t es most (leaves_after (length h.levels) leaves) (length h.levels) half × HasRoom file d half
top_split file a d top t es pages most leaves low high half level xp lower xc upper key place h p w above leaf inner lo hi few =
    let s : Entry = record { key = key; place = place; child = high } in
    let b = pages_of file a in
    let c = pages_of file d in
    let r = w.rewrites in
    let m = top_lined file a d top low high pages xp xc upper w h.line in
    let rt : Reached top h.levels t (length h.levels) top =
    record { above = []; front = []; x = root top; behind = []; below = h.levels; all = refl; level_is = refl; page_is = refl; from = least_first (root top) t refl refl; to = tt } in
    let halves = linked_halves p.old lower xc upper key place level high t p.halves p.is_level leaf inner in
    let other : (y : ℕ) → y ≢ top → y ≢ low → y ≢ high → c y ≡ b y = λ y x1 x2 x3.
    r.others (key_in file y) (λ e. x1 (key_in-one file y top e)) (λ e. x2 (key_in-one file y low e)) (λ e. x3 (key_in-one file y high e)) in
    let top_none : uses_in h.levels top ≡ 0 = (let o = h.owns top in let q = tree_times file a (Some top) pages top h.line in let u = uses_root top in omega arith) in
    let low_none : uses_in h.levels low ≡ 0 = (let o = h.owns low in let q = times_new file a (Some top) pages low h.line w.low_new.unused.not_taken in omega arith) in
    let high_none : uses_in h.levels high ≡ 0 = (let o = h.owns high in let q = times_new file a (Some top) pages high h.line w.high_new.unused.not_taken in omega arith) in
    let agree : Agree b c (uses_in h.levels) = agree_without b c top low high (uses_in h.levels) other top_none low_none high_none in
    let none : Agree b c (uses []) = λ y u. absurd (omega arith) in
    let cut : LevelCut c [] (root low) s [] h.levels es =
    level_cut b c top h.levels es t s (root low) (length h.levels) top p.old xc upper h.chained h.sorted h.ascending rt p.told halves (r.second h.known) (r.third h.known) refl refl (λ o f. f) none none agree in
    let now : List (List Entry) = (root low ∷ s ∷ []) ∷ h.levels in
    let len : level + 1 ≡ length now = (let l = p.level_is in omega arith) in
    let hr = child_room b top h.levels es t s (length h.levels) top p.old xc upper h.chained h.sorted rt p.told halves in
    let same = crowded_same b c h.levels t agree in
    let g : IsTree file d top es (top ∷ low ∷ high ∷ m.rest) (leaves_after (length h.levels) leaves) = record {
      line = m.line;
      levels = now;
      chained = (
        (
          root low ∷ s ∷ [],
          [],
          record { page = xp; first = low; items = s ∷ []; told = r.first h.known; node = subst (λ k. IsNode true xp k low (s ∷ [])) len above; some = omega arith; are = refl },
          refl,
          refl,
        ),
        cut.chained,
      );
      sorted = (((cut.from, tt), (tt, tt)), h.sorted);
      ascending = h.ascending;
      owns = λ y. (let o = h.owns y in let q = ap (λ l. times l y) m.was in omega arith);
      count = let o = h.count in let q = ap length m.was in omega arith;
      leaf_count = leaf_count h.levels h.leaf_count;
      known = r.told ∙ h.known;
      numbers = let e = ap (λ (g : File → ℕ). g file) r.limit in let n = h.numbers in omega arith;
    } in
    let most_ok : length (top ∷ low ∷ high ∷ m.rest) + crowded_on c h.levels t ≤ most = (let q = ap length m.was in omega arith) in
    by_half g refl most_ok hr (is_below t s) refl
  where
    uses_root : (n : ℕ) → uses (root n ∷ []) n ≡ 1
    uses_root n = uses_here (root n) []

    leaf_count : (levels : List (List Entry)) → leaves ≡ length (lowest (root top ∷ []) levels)
        → leaves_after (length levels) leaves ≡ length (lowest (root low ∷ record { key = key; place = place; child = high } ∷ []) levels)
    leaf_count [] e = omega arith
    leaf_count (y ∷ ys) e = e

    by_half : {rest : List ℕ} (g : IsTree file d top es (top ∷ low ∷ high ∷ rest) (leaves_after (length h.levels) leaves))
        → g.levels ≡ (root low ∷ record { key = key; place = place; child = high } ∷ []) ∷ h.levels
        → length (top ∷ low ∷ high ∷ rest) + crowded_on (pages_of file d) h.levels t ≤ most → HaveRoom xc upper t (record { key = key; place = place; child = 0 })
        → (v : Bool) → is_below t (record { key = key; place = place; child = high }) ≡ v
        → OnWay file d top t es most (leaves_after (length h.levels) leaves) (length h.levels) half × HasRoom file d half
    by_half {rest} g ge few hr true e =
        let s : Entry = record { key = key; place = place; child = high } in
        let hk : half ≡ low = lo e in
        let room : HasRoom file d half = record { page = xc; told = ap (pages_of file d) hk ∙ w.rewrites.second h.known; free = hr.low (page_second s t 0 ∙ e) } in
        let rw : Reached top ((root low ∷ s ∷ []) ∷ h.levels) t (length h.levels) half = record {
          above = (root top ∷ []) ∷ [];
          front = [];
          x = root low;
          behind = s ∷ [];
          below = h.levels;
          all = refl;
          level_is = refl;
          page_is = sym hk;
          from = least_first (root low) t refl refl;
          to = e;
        } in
        (on_levels file d top t es most (leaves_after (length h.levels) leaves) (length h.levels) half (top ∷ low ∷ high ∷ rest) g _ ge rw (λ _. room) few, room)
    by_half {rest} g ge few hr false e =
        let s : Entry = record { key = key; place = place; child = high } in
        let hk : half ≡ high = hi e in
        let room : HasRoom file d half = record { page = upper; told = ap (pages_of file d) hk ∙ w.rewrites.third h.known; free = hr.high } in
        let rw : Reached top ((root low ∷ s ∷ []) ∷ h.levels) t (length h.levels) half = record {
          above = (root top ∷ []) ∷ [];
          front = root low ∷ [];
          x = s;
          behind = [];
          below = h.levels;
          all = refl;
          level_is = refl;
          page_is = sym hk;
          from = e;
          to = tt;
        } in
        (on_levels file d top t es most (leaves_after (length h.levels) leaves) (length h.levels) half (top ∷ low ∷ high ∷ rest) g _ ge rw (λ _. room) few, room)

-- the same, where the tree was looked at in between
pub top_split_looked : (file : File) (a m d : Space) (top : ℕ) (t : Entry) (es : List Entry) (pages : List ℕ) (most leaves low high half level : ℕ) (xp lower xc upper key named : List ℕ) (place : ℕ)
    → (l : Looks a m) → key ≡ named → (w : CrowdedTop file a top es pages leaves) → (page : PageId) → page ≡ record { file = file; no = top }
    → ((v : CrowdedTop page.file a page.no es pages leaves) → TopPlanned page.file m t page.no (length v.tree.levels) level lower upper named place)
    → WritesTop m d page low high xp xc upper
    → IsNode true xp (level + 1) low (record { key = key; place = place; child = high } ∷ [])
    → (level ≡ 0 → (n before : ℕ) (es : List Entry) → IsNode false lower n before es → IsNode false xc n high es) → (0 < level → xc ≡ lower)
    → (Before t (record { key = key; place = place; child = high }) → half ≡ low) → (NotBehind (record { key = key; place = place; child = high }) t → half ≡ high)
    → length pages + 2 + crowded_on (pages_of file a) w.tree.levels t ≤ most
    → OnWay file d top t es most (leaves_after (length w.tree.levels) leaves) (length w.tree.levels) half × HasRoom file d half
top_split_looked file a m d top t es pages most leaves low high half level xp lower xc upper key named place l ke w page pe planned writes above leaf inner lo hi few =
    let h = w.tree in
    let p0 : TopPlanned file m t top (length h.levels) level lower upper named place = by_page page pe planned in
    let p1 = subst (λ k. TopPlanned file m t top (length h.levels) level lower upper k place) (sym ke) p0 in
    let ws = subst (λ z. WritesTop m d z low high xp xc upper) pe writes in
    let g = tree_stays file a m top es pages leaves l h in
    let ge = tree_stays-levels file a m top es pages leaves l h in
    let same = crowded_same (pages_of file a) (pages_of file m) h.levels t (λ y u. tree_bytes file a m top es pages leaves l h y (let o = h.owns y in omega arith)) in
    let few2 : length pages + 2 + crowded_on (pages_of file m) g.levels t ≤ most = (let e = ap (λ l. crowded_on (pages_of file m) l t) ge in omega arith) in
    let r = top_split file m d top t es pages most leaves low high half level xp lower xc upper key place g
    (subst (λ k. TopPlanned file m t top (length k) level lower upper key place) (sym ge) p1) ws above leaf inner lo hi few2 in
    subst (λ k. OnWay file d top t es most (leaves_after (length k) leaves) (length k) half × HasRoom file d half) ge r
  where
    by_page : (page : PageId) → page ≡ record { file = file; no = top }
        → ((v : CrowdedTop page.file a page.no es pages leaves) → TopPlanned page.file m t page.no (length v.tree.levels) level lower upper named place)
        → TopPlanned file m t top (length w.tree.levels) level lower upper named place
    by_page page pe f =
        let P : PageId → Type 0 = λ p. (v : CrowdedTop p.file a p.no es pages leaves) → TopPlanned p.file m t p.no (length v.tree.levels) level lower upper named place in
        subst P pe f w
