-- A tree after a page of it was split.
use Rattle.std.specs.Prelude.{◌≡◌, ◌≢◌, ℕ, ◌+◌, ◌<◌, ◌≤◌, ◌==◌, zero, suc, Bool, true, false, List, [], ◌∷◌, ◌++◌, length, Option, Some, if◌then◌else◌}
use Rattle.std.proofs.Common.{sym, ◌∙◌, ap, subst, refl, arith, length-append, append_assoc}
use Rattle.std.proofs.lemmas.Bool.{false≢true, ne_eqb}
use Rattle.std.specs.List.{AllByRecursion}
use Rattle.hg_base.specs.Space.{Space, key_in, at}
use Rattle.hg_base.specs.TakenLaws.{key_in-one}
use Rattle.hg_base.specs.Lines.{IsLine}
use Rattle.hg_base.specs.LineLaws.{distinct-taken}
use Rattle.hg_base.specs.declared.File.{File}
use Rattle.hg_btree.specs.Entries.{Entry, Before, NotBehind, is_below}
use Rattle.hg_btree.specs.Nodes.{IsNode, IsWay, spelling}
use Rattle.hg_btree.specs.Halving.{HaveRoom}
use Rattle.hg_btree.proofs.Orders.{page_second}
use Rattle.hg_btree.specs.Trees.{pages_of, first_page, root, Chained, AllSorted, Reached, IsTree, uses_in, times, width_of, lowest}
use Rattle.hg_btree.specs.Growing.{crowded_one, crowded_at, crowded_on, HasRoom, OnWay, AboveCrowded, leaves_after}
use Rattle.hg_btree.proofs.Walking.{InnerHere, sorted_at, inner_here, leaf_here, uses-append, uses_in-append, width-append}
use Rattle.hg_btree.proofs.Changing.{Agree}
use Rattle.hg_btree.proofs.Leaves.{tree_times}
use Rattle.hg_btree.proofs.Growing.{ChildHere, child_here, parent_elsewhere, child_elsewhere, new_elsewhere, agree_without, lowest_at}
use Rattle.hg_btree.proofs.Stepping.{ChildHalves, SplitLevels, split_levels, way_child, crowded_same, crowded_here}

some_one : (x y : List ℕ) → ◌≡◌ {A = Option (List ℕ)} (Some x) (Some y) → x ≡ y
some_one x y e = cc

-- a page that is not taken is none of a line
pub times_new : (file : File) (s : Space) (from : Option ℕ) (pages : List ℕ) (n : ℕ) → IsLine file s from pages → s.taken (key_in file n) ≡ false → times pages n ≡ 0
times_new file s from pages n l t = go pages (distinct-taken file s.taken (s.limit file) pages l.taken)
  where
    go : (pages : List ℕ) → AllByRecursion (λ x. s.taken (key_in file x) ≡ true) pages → times pages n ≡ 0
    go [] h = refl
    go (x ∷ pages) h =
        ap (λ k. (if k then 1 else 0) + times pages n) (ne_eqb x n (λ e. false≢true (sym t ∙ ap (λ z. s.taken (key_in file z)) (sym e) ∙ h.0)))
        ∙ (let r = go pages h.1 in omega arith)

pub same_use : (n m y : ℕ) → n ≡ m → ◌≡◌ {A = ℕ} (if n == y then 1 else 0) (if m == y then 1 else 0)
same_use n m y e = ap (λ k. if k == y then 1 else 0) e

-- ---- the tree with a page more

-- What the tree was and what became of it: the levels with one page more on one of them.
pub tree_more : (file : File) (a d : Space) (top : ℕ) (es : List Entry) (pages rest : List ℕ) (leaves num n : ℕ) (above : List (List Entry)) (front : List Entry) (x s : Entry) (behind : List Entry) (below now : List (List Entry))
    → (h : IsTree file a top es pages leaves) → (root top ∷ []) ∷ h.levels ≡ above ++ (front ++ x ∷ behind) ∷ below → length below ≡ n → s.child ≡ num
    → pages ≡ top ∷ rest → IsLine file d (Some top) (top ∷ num ∷ rest) → (root top ∷ []) ∷ now ≡ above ++ (front ++ x ∷ s ∷ behind) ∷ below
    → Chained (pages_of file d) (root top ∷ []) now es → AllSorted now → d.told ≡ a.told → d.limit ≡ a.limit
    → (g : IsTree file d top es (top ∷ num ∷ rest) (leaves_after n leaves)) × (g.levels ≡ now)
tree_more file a d top es pages rest leaves num n above front x s behind below now h old ln sn was line all ch so told limit = (
  record {
    line = line;
    levels = now;
    chained = ch;
    sorted = so;
    ascending = h.ascending;
    owns = λ y.
        let o = h.owns y in
        let w = ap (λ p. times p y) was in
        let u1 = ap (λ l. uses_in l y) old ∙ uses_in-append above ((front ++ x ∷ behind) ∷ below) y in
        let u2 = uses-append front (x ∷ behind) y in
        let v1 = ap (λ l. uses_in l y) all ∙ uses_in-append above ((front ++ x ∷ s ∷ behind) ∷ below) y in
        let v2 = uses-append front (x ∷ s ∷ behind) y in
        let e = same_use s.child num y sn in
        omega arith;
    count =
        let o = h.count in
        let w = ap length was in
        let u1 = ap width_of old ∙ width-append above ((front ++ x ∷ behind) ∷ below) in
        let u2 = length-append front (x ∷ behind) in
        let v1 = ap width_of all ∙ width-append above ((front ++ x ∷ s ∷ behind) ∷ below) in
        let v2 = length-append front (x ∷ s ∷ behind) in
        omega arith;
    leaf_count = leaf_count n below ln old all;
    known = told ∙ h.known;
    numbers = let e = ap (λ (g : File → ℕ). g file) limit in let n = h.numbers in omega arith;
  },
  refl,
)
  where
    leaf_count : (n : ℕ) (below : List (List Entry)) → length below ≡ n → (root top ∷ []) ∷ h.levels ≡ above ++ (front ++ x ∷ behind) ∷ below
        → (root top ∷ []) ∷ now ≡ above ++ (front ++ x ∷ s ∷ behind) ∷ below → leaves_after n leaves ≡ length (lowest (root top ∷ []) now)
    leaf_count zero [] ln old all =
        let l = h.leaf_count in
        let u = ap length (lowest_at (root top ∷ []) h.levels above (front ++ x ∷ behind) [] old) in
        let v = ap length (lowest_at (root top ∷ []) now above (front ++ x ∷ s ∷ behind) [] all) in
        let u2 = length-append front (x ∷ behind) in
        let v2 = length-append front (x ∷ s ∷ behind) in
        omega arith
    leaf_count zero (y ∷ below) ln old all = absurd (omega arith)
    leaf_count (suc n) [] ln old all = absurd (omega arith)
    leaf_count (suc n) (y ∷ below) ln old all =
        h.leaf_count ∙ ap length (lowest_at (root top ∷ []) h.levels above (front ++ x ∷ behind) (y ∷ below) old
        ∙ sym (lowest_at (root top ∷ []) now above (front ++ x ∷ s ∷ behind) (y ∷ below) all))

-- ---- the way in it

pub on_levels : (file : File) (d : Space) (top : ℕ) (t : Entry) (es : List Entry) (most leaves n half : ℕ) (pages : List ℕ) (g : IsTree file d top es pages leaves) (now : List (List Entry)) → g.levels ≡ now
    → (r : Reached top now t n half) → (0 < n → HasRoom file d half) → length pages + crowded_on (pages_of file d) r.below t ≤ most → OnWay file d top t es most leaves n half
on_levels file d top t es most leaves n half pages g now e =
    let P : List (List Entry) → Type 0 =
    λ l. (r : Reached top l t n half) → (0 < n → HasRoom file d half) → length pages + crowded_on (pages_of file d) r.below t ≤ most → OnWay file d top t es most leaves n half in
    subst P e (λ r room few. record { pages = pages; tree = g; way = r; room = room; few = few })

-- what is known of both halves of a page on the way
pub child_room : (b : ℕ → Option (List ℕ)) (top : ℕ) (levels : List (List Entry)) (es : List Entry) (t s : Entry) (n num : ℕ) (old lower upper : List ℕ) → Chained b (root top ∷ []) levels es → AllSorted levels
    → (r : Reached top levels t n num) → b num ≡ Some old → ChildHalves old lower upper t s → HaveRoom lower upper t (record { key = s.key; place = s.place; child = 0 })
child_room b top levels es t s zero num old lower upper ch so r told halves =
    let l = leaf_here b top levels es t num ch so r in
    let page_is : l.at.page ≡ old = some_one l.at.page old (sym l.at.told ∙ ap b r.page_is ∙ told) in
    (halves.leaf (first_page r.behind) l.own (subst (λ p. IsNode false p 0 (first_page r.behind) l.own) page_is l.at.node)).room
child_room b top levels es t s (suc n) num old lower upper ch so r told halves =
    let e : suc n ≡ n + 1 = omega arith in
    let q : Reached top levels t (n + 1) num = subst (λ k. Reached top levels t k num) e r in
    let i = inner_here b top levels es t n num ch q in
    let page_is : i.at.page ≡ old = some_one i.at.page old (sym i.at.told ∙ ap b q.page_is ∙ told) in
    (halves.inner (n + 1) i.at.first i.at.items (omega arith) (subst (λ p. IsNode true p (n + 1) i.at.first i.at.items) page_is i.at.node)).room

pub split_on : (file : File) (a d : Space) (top : ℕ) (t s : Entry) (es : List Entry) (most leaves n node kid at half : ℕ) (op oc xp xc xn : List ℕ) (rest : List ℕ)
    → (w : AboveCrowded file a top t es most leaves n node)
    → a.bytes (key_in file node) ≡ Some op
    → ((level first : ℕ) (items : List Entry) → IsNode true op level first items → IsWay first items t at kid)
    → ((level first : ℕ) (done todo : List Entry) → IsNode true op level first (done ++ todo) → at ≡ 16 + length (spelling true done) → IsNode true xp level first (done ++ s ∷ todo))
    → a.bytes (key_in file kid) ≡ Some oc → ChildHalves oc xc xn t s → a.taken (key_in file s.child) ≡ false
    → d.bytes (key_in file node) ≡ Some xp → d.bytes (key_in file kid) ≡ Some xc → d.bytes (key_in file s.child) ≡ Some xn
    → ((q : ℕ) → q ≢ key_in file node → q ≢ key_in file kid → q ≢ key_in file s.child → d.bytes q ≡ a.bytes q)
    → w.on.pages ≡ top ∷ rest → IsLine file d (Some top) (top ∷ s.child ∷ rest) → d.told ≡ a.told → d.limit ≡ a.limit
    → (Before t s → half ≡ kid) → (NotBehind s t → half ≡ s.child)
    → OnWay file d top t es most (leaves_after n leaves) n half × HasRoom file d half
split_on file a d top t s es most leaves n node kid at half op oc xp xc xn rest w told_p way ins told_c halves fresh tp tc tn others was line told limit lower upper =
    let h = w.on.tree in
    let r = w.on.way in
    let b = pages_of file a in
    let c = pages_of file d in
    let i = inner_here b top h.levels es t n node h.chained r in
    let page_is : i.at.page ≡ op = some_one i.at.page op (sym i.at.told ∙ ap b r.page_is ∙ told_p) in
    let node_is = subst (λ p. IsNode true p (n + 1) i.at.first i.at.items) page_is i.at.node in
    let k = child_here b top h.levels es t n node at kid r i (way (n + 1) i.at.first i.at.items node_is) in
    let once : (y : ℕ) → uses_in ((root top ∷ []) ∷ h.levels) y ≤ 1 = λ y. (let o = h.owns y in let m = tree_times file a (Some top) w.on.pages y h.line in omega arith) in
    let none : uses_in ((root top ∷ []) ∷ h.levels) s.child ≡ 0 = (let o = h.owns s.child in let m = times_new file a (Some top) w.on.pages s.child h.line fresh in omega arith) in
    let pe = parent_elsewhere b top h.levels es t n node at kid r i k (once node) in
    let ce = child_elsewhere b top h.levels es t n node at kid r i k (once kid) in
    let ne = new_elsewhere b top h.levels es t n node at kid r i k s.child none in
    let other : (y : ℕ) → y ≢ node → y ≢ kid → y ≢ s.child → c y ≡ b y = λ y x1 x2 x3.
    others (key_in file y) (λ e. x1 (key_in-one file y node e)) (λ e. x2 (key_in-one file y kid e)) (λ e. x3 (key_in-one file y s.child e)) in
    let sp = split_levels b c top h.levels es t s n node at kid oc xc xn xp h.chained h.sorted h.ascending r i k pe.0 ce ne other told_c halves tp tc tn
    (ins (n + 1) i.at.first k.done k.todo (subst (IsNode true op (n + 1) i.at.first) k.items_are node_is) k.place) in
    let wy = way_child b top h.levels es t n node at kid r i k in
    let above : List (List Entry) = r.above ++ (r.front ++ r.x ∷ r.behind) ∷ [] in
    let tm = tree_more file a d top es w.on.pages rest leaves s.child n above k.front k.x s k.behind i.rest sp.now h wy i.rest_is refl was line sp.all sp.chained sp.sorted told limit in
    let rc : Reached top h.levels t n kid = record { above = above; front = k.front; x = k.x; behind = k.behind; below = i.rest; all = wy; level_is = i.rest_is; page_is = k.page_is; from = k.from; to = k.to } in
    let agree_rest : Agree b c (uses_in i.rest) = agree_without b c node kid s.child (uses_in i.rest) other pe.0.below ce.below ne.below in
    let so = sorted_at top h.levels above i.rest (k.front ++ k.x ∷ k.behind) wy h.sorted in
    let one : crowded_at b i.level t ≡ 1 =
    ap (λ l. crowded_at b l t) k.level_is ∙ crowded_here b k.front k.x k.behind t so k.from k.to ∙ ap crowded_one (ap b k.page_is ∙ told_c)
    ∙ ap (λ v. if v then 1 else 0) (w.full kid oc rc told_c) in
    let few : length (top ∷ s.child ∷ rest) + crowded_on c i.rest t ≤ most =
    (let f = w.on.few in let l = ap (λ l. crowded_on b l t) i.below_is in let m = crowded_same b c i.rest t agree_rest in let z = ap length was in omega arith) in
    let hr = child_room b top h.levels es t s n kid oc xc xn h.chained h.sorted rc told_c halves in
    by_half (is_below t s) refl k sp tm.0 tm.1 few hr
  where
    by_half : (v : Bool) → is_below t s ≡ v → {i : InnerHere (pages_of file a) top w.on.tree.levels t n node w.on.way es} (k : ChildHere (pages_of file a) top w.on.tree.levels t n node w.on.way es i at kid)
        → (sp : SplitLevels (pages_of file d) top es w.on.way.above (w.on.way.front ++ w.on.way.x ∷ w.on.way.behind) k.front k.x s k.behind i.rest)
        → (g : IsTree file d top es (top ∷ s.child ∷ rest) (leaves_after n leaves)) → g.levels ≡ sp.now
        → length (top ∷ s.child ∷ rest) + crowded_on (pages_of file d) i.rest t ≤ most → HaveRoom xc xn t (record { key = s.key; place = s.place; child = 0 })
        → OnWay file d top t es most (leaves_after n leaves) n half × HasRoom file d half
    by_half true e {i} k sp g ge few hr =
        let hk : half ≡ kid = lower e in
        let room : HasRoom file d half = record { page = xc; told = ap (pages_of file d) hk ∙ tc; free = hr.low (page_second s t 0 ∙ e) } in
        let rw : Reached top sp.now t n half = record {
          above = w.on.way.above ++ (w.on.way.front ++ w.on.way.x ∷ w.on.way.behind) ∷ [];
          front = k.front;
          x = k.x;
          behind = s ∷ k.behind;
          below = i.rest;
          all = sp.all;
          level_is = i.rest_is;
          page_is = k.page_is ∙ sym hk;
          from = k.from;
          to = e;
        } in
        (on_levels file d top t es most (leaves_after n leaves) n half (top ∷ s.child ∷ rest) g sp.now ge rw (λ _. room) few, room)
    by_half false e {i} k sp g ge few hr =
        let hk : half ≡ s.child = upper e in
        let room : HasRoom file d half = record { page = xn; told = ap (pages_of file d) hk ∙ tn; free = hr.high } in
        let rw : Reached top sp.now t n half = record {
          above = w.on.way.above ++ (w.on.way.front ++ w.on.way.x ∷ w.on.way.behind) ∷ [];
          front = k.front ++ k.x ∷ [];
          x = s;
          behind = k.behind;
          below = i.rest;
          all = sp.all ∙ ap (λ l. (w.on.way.above ++ (w.on.way.front ++ w.on.way.x ∷ w.on.way.behind) ∷ []) ++ l ∷ i.rest) (sym (append_assoc k.front (k.x ∷ []) (s ∷ k.behind)));
          level_is = i.rest_is;
          page_is = sym hk;
          from = e;
          to = k.to;
        } in
        (on_levels file d top t es most (leaves_after n leaves) n half (top ∷ s.child ∷ rest) g sp.now ge rw (λ _. room) few, room)
