-- Three pages of a tree that are written together, and a page more in its line.
use Rattle.std.specs.Prelude.{◌≡◌, ◌≢◌, ℕ, ◌<◌, Bool, true, false, List, [], ◌∷◌, Option, Some, None}
use Rattle.std.specs.List.{AllByRecursion}
use Rattle.std.proofs.Common.{sym, ◌∙◌, ap, subst, refl, arith, inl, inr}
use Rattle.std.proofs.lemmas.Bool.Decides.{nat_tests}
use Rattle.std.proofs.lemmas.Bool.{false≢true, cases_eq}
use Rattle.hg_base.specs.Space.{Space, Counts, NoPins, key, key_in, at, unpinned_bytes, with_next}
use Rattle.hg_base.specs.Causes.{Later}
use Rattle.hg_base.specs.Steadiness.{Steady, these_pages}
use Rattle.hg_base.specs.TakenLaws.{key_in-one}
use Rattle.hg_base.specs.Lines.{IsLine, IsPath}
use Rattle.hg_base.specs.LineLaws.{all_map, all_both, distinct-same, distinct-taken}
use Rattle.hg_base.specs.declared.File.{File}
use Rattle.hg_base.specs.declared.PageId.{PageId}
use Rattle.hg_btree.specs.Rewriting.{written, with_linked, HoldsThree, Rewrites, IsNewPage, PinsWithNew, PinsWithTwo, WritesSplit, WritesTop}
use Rattle.hg_btree.proofs.Touching.{at-here}

pub at-other : {X : Type 0} (f : ℕ → X) (p : ℕ) (x : X) (q : ℕ) → q ≢ p → at f p x q ≡ f q
at-other f p x q h = grind (arith, nat_tests)

-- ---- three pages

-- the bytes told behind a write and the end of its pin
abbrev told_after : Bool → (ℕ → Option (List ℕ)) → ℕ → List ℕ → ℕ → Option (List ℕ)
told_after told f k x = at (at f k (Some x)) k (unpinned_bytes told (at f k (Some x) k))

told_here : (told : Bool) (f : ℕ → Option (List ℕ)) (k : ℕ) (x : List ℕ) → told_after told f k x k ≡ unpinned_bytes told (Some x)
told_here told f k x = at-here (at f k (Some x)) k (unpinned_bytes told (at f k (Some x) k)) ∙ ap (unpinned_bytes told) (at-here f k (Some x))

told_other : (told : Bool) (f : ℕ → Option (List ℕ)) (k : ℕ) (x : List ℕ) (q : ℕ) → q ≢ k → told_after told f k x q ≡ f q
told_other told f k x q d = at-other (at f k (Some x)) k (unpinned_bytes told (at f k (Some x) k)) q d ∙ at-other f k (Some x) q d

shown : (told : Bool) (x : List ℕ) → told ≡ true → unpinned_bytes told (Some x) ≡ Some x
shown true x e = refl
shown false x e = absurd (false≢true e)

unshown : (told : Bool) (x : List ℕ) → told ≡ false → unpinned_bytes told (Some x) ≡ None
unshown true x e = absurd (false≢true (sym e))
unshown false x e = refl

unpinned : (f : ℕ → Bool) (p c n q : ℕ) → f q ≡ false → at (at (at (at (at (at f p true) c true) n true) n false) c false) p false q ≡ false
unpinned f p c n q e = grind (arith, nat_tests)

-- one of three keys, or none
one_of : (q p c n : ℕ) (P : Type 0) → (q ≡ p → P) → (q ≡ c → P) → (q ≡ n → P) → (q ≢ p → q ≢ c → q ≢ n → P) → P
one_of q p c n P a b d o = elim (cases_eq q p) [
  | inl e ↦ a e
  | inr np ↦ elim (cases_eq q c) [
    | inl e ↦ b e
    | inr nc ↦ elim (cases_eq q n) [ inl e ↦ d e | inr nn ↦ o np nc nn ]
  ]
]

pub rewritten : (a b d : Space) (p c n : ℕ) (taken : ℕ → Bool) (next : ℕ → Option ℕ) (xp xc xn : List ℕ) → NoPins a → HoldsThree a b p c n taken next
    → d ≡ written (written (written b n xn) c xc) p xp → Later a.counts b.counts → Rewrites a d p c n xp xc xn taken next
rewritten a b d p c n taken next xp xc xn out h e l =
    let f0 : ℕ → Option (List ℕ) = at (at (at a.bytes p (Some h.hp)) c (Some h.hc)) n (Some h.hn) in
    let f1 : ℕ → Option (List ℕ) = told_after a.told f0 n xn in
    let f2 : ℕ → Option (List ℕ) = told_after a.told f1 c xc in
    let f3 : ℕ → Option (List ℕ) = told_after a.told f2 p xp in
    let at_p : f3 p ≡ unpinned_bytes a.told (Some xp) = told_here a.told f2 p xp in
    let at_c : f3 c ≡ unpinned_bytes a.told (Some xc) = told_other a.told f2 p xp c h.apart ∙ told_here a.told f1 c xc in
    let at_n : f3 n ≡ unpinned_bytes a.told (Some xn) = told_other a.told f2 p xp n h.new_first ∙ told_other a.told f1 c xc n h.new_second ∙ told_here a.told f0 n xn in
    let other : (q : ℕ) → q ≢ p → q ≢ c → q ≢ n → f3 q ≡ a.bytes q = λ q np nc nn.
    told_other a.told f2 p xp q np ∙ told_other a.told f1 c xc q nc ∙ told_other a.told f0 n xn q nn
    ∙ at-other (at (at a.bytes p (Some h.hp)) c (Some h.hc)) n (Some h.hn) q nn ∙ at-other (at a.bytes p (Some h.hp)) c (Some h.hc) q nc ∙ at-other a.bytes p (Some h.hp) q np in
    let lb : Later a.counts h.counts = let Q : Counts → Type 0 = λ k. Later a.counts k in subst Q (ap (λ (s : Space). s.counts) h.after) l in
    let Q : Space → Type 0 = λ s. Rewrites a s p c n xp xc xn taken next in
    subst Q (sym (e ∙ ap (λ (s : Space). written (written (written s n xn) c xc) p xp) h.after)) (record {
      out = record { none_out = let z = out.none_out in omega arith; not_pinned = λ q. unpinned a.pinned p c n q (out.not_pinned q) };
      told = refl;
      limit = refl;
      device_limit = refl;
      of_heap = refl;
      heaps = refl;
      taken_is = refl;
      next_is = refl;
      counts = lb;
      first = λ t. at_p ∙ shown a.told xp t;
      second = λ t. at_c ∙ shown a.told xc t;
      third = λ t. at_n ∙ shown a.told xn t;
      others = other;
      hidden = λ t q. one_of q p c n (f3 q ≡ a.bytes q)
          (λ s. ap f3 s ∙ at_p ∙ unshown a.told xp t ∙ sym (h.hidden_p t) ∙ ap a.bytes (sym s))
          (λ s. ap f3 s ∙ at_c ∙ unshown a.told xc t ∙ sym (h.hidden_c t) ∙ ap a.bytes (sym s))
          (λ s. ap f3 s ∙ at_n ∙ unshown a.told xn t ∙ sym (h.hidden_n t) ∙ ap a.bytes (sym s))
          (other q);
    })

-- a successor more was set
pub rewritten_next : (a d e : Space) (p c n : ℕ) (taken : ℕ → Bool) (next : ℕ → Option ℕ) (xp xc xn : List ℕ) (k : ℕ) (o : Option ℕ) → Rewrites a d p c n xp xc xn taken next
    → e ≡ with_next d k o → Rewrites a e p c n xp xc xn taken (at next k o)
rewritten_next a d e p c n taken next xp xc xn k o h q =
    let Q : Space → Type 0 = λ s. Rewrites a s p c n xp xc xn taken (at next k o) in
    subst Q (sym q) (record {
      out = record { none_out = h.out.none_out; not_pinned = h.out.not_pinned };
      told = h.told;
      limit = h.limit;
      device_limit = h.device_limit;
      of_heap = h.of_heap;
      heaps = h.heaps;
      taken_is = h.taken_is;
      next_is = ap (λ f. at f k o) h.next_is;
      counts = h.counts;
      first = h.first;
      second = h.second;
      third = h.third;
      others = h.others;
      hidden = h.hidden;
    })

-- what else stays, for one who owns these pages
pub rewritten_steady : (a d : Space) (p c n : ℕ) (taken : ℕ → Bool) (next : ℕ → Option ℕ) (xp xc xn : List ℕ) (m : ℕ → Type 0) → NoPins a
    → Rewrites a d p c n xp xc xn taken next → ((q : ℕ) → (m q → ⊥) → taken q ≡ a.taken q) → ((q : ℕ) → (m q → ⊥) → next q ≡ a.next q)
    → (a.told ≡ true → m p) → (a.told ≡ true → m c) → (a.told ≡ true → m n) → Steady (these_pages m) a d
rewritten_steady a d p c n taken next xp xc xn m out h ft fn mp mc mn = record {
  pins_before = out;
  pins_after = h.out;
  told = h.told;
  limit = h.limit;
  device_limit = h.device_limit;
  taken = λ q x. ap (λ f. f q) h.taken_is ∙ ft q x;
  of_heap = λ q x. ap (λ f. f q) h.of_heap;
  pages = λ q x g. record {
    taken = ap (λ f. f q) h.taken_is ∙ ft q x;
    of_heap = ap (λ f. f q) h.of_heap;
    bytes = by_told a.told (λ t. h.others q (λ e. x (subst m (sym e) (mp t))) (λ e. x (subst m (sym e) (mc t))) (λ e. x (subst m (sym e) (mn t)))) (λ t. h.hidden t q);
    next = ap (λ f. f q) h.next_is ∙ fn q x;
  };
  heaps = λ q x. ap (λ s. s.heap q) h.heaps;
  current = ap (λ s. s.current) h.heaps;
  most = ap (λ s. s.most) h.heaps;
  caps = λ r. ap (λ s. s.cap r) h.heaps;
  peaks = λ r x. ap (λ s. s.peak r) h.heaps;
  counts = h.counts;
}
  where
    by_told : {X : Type 0} (b : Bool) → (b ≡ true → X) → (b ≡ false → X) → X
    by_told true f g = f refl
    by_told false f g = g refl

-- ---- the line

some_one : (x y : ℕ) → ◌≡◌ {A = Option ℕ} (Some x) (Some y) → x ≡ y
some_one x y e = cc

path-same : (file : File) (f g : ℕ → Option ℕ) (from : Option ℕ) (xs : List ℕ) → AllByRecursion (λ x. g (key_in file x) ≡ f (key_in file x)) xs
    → IsPath file f from xs → IsPath file g from xs
path-same file f g from [] h p = p
path-same file f g from (x ∷ xs) h p =
    let P : Option ℕ → Type 0 = λ o. IsPath file g o xs in
    (p.0, subst P (sym h.0) (path-same file f g (f (key_in file x)) xs h.1 p.1))

-- How a page more stands behind the first of a line.
pub record LinksOne (file : File) (a e : Space) (top num : ℕ) : Type 0 where
  pub limit : e.limit ≡ a.limit
  pub of_heap : e.of_heap ≡ a.of_heap
  pub below : num < a.limit file
  pub not_taken : a.taken (key_in file num) ≡ false
  pub no_heap : a.of_heap (key_in file num) ≡ false
  pub taken : (q : ℕ) → q ≢ key_in file num → e.taken q ≡ a.taken q
  pub taken_new : e.taken (key_in file num) ≡ true
  pub next : (q : ℕ) → q ≢ key_in file num → q ≢ key_in file top → e.next q ≡ a.next q
  pub next_new : e.next (key_in file num) ≡ a.next (key_in file top)
  pub next_top : e.next (key_in file top) ≡ Some num

pub record Lined (file : File) (e : Space) (top num : ℕ) (pages : List ℕ) : Type 0 where
  pub rest : List ℕ
  pub was : pages ≡ top ∷ rest
  pub apart : num ≢ top
  pub line : IsLine file e (Some top) (top ∷ num ∷ rest)

pub line_more : (file : File) (a e : Space) (top num : ℕ) (pages : List ℕ) → LinksOne file a e top num → IsLine file a (Some top) pages → Lined file e top num pages
line_more file a e top num [] k l = absurd (let n : ◌≡◌ {A = Option ℕ} (Some top) None = l.path in cc)
line_more file a e top num (y ∷ rest) k l =
    let ty : top ≡ y = some_one top y l.path.0 in
    let P : ℕ → Type 0 = λ z. IsLine file a (Some top) (z ∷ rest) in
    go (subst P (sym ty) l) (ap (λ z. z ∷ rest) (sym ty))
  where
    go : IsLine file a (Some top) (top ∷ rest) → y ∷ rest ≡ top ∷ rest → Lined file e top num (y ∷ rest)
    go l was =
        let n_taken : (x : ℕ) → a.taken (key_in file x) ≡ true → x ≢ num = λ x t q. false≢true (sym k.not_taken ∙ ap (λ z. a.taken (key_in file z)) (sym q) ∙ t) in
        let all : AllByRecursion (λ x. a.taken (key_in file x) ≡ true) (top ∷ rest) = distinct-taken file a.taken (a.limit file) (top ∷ rest) l.taken in
        let not_no : AllByRecursion (λ x. x ≢ num) rest = all_map (λ x. a.taken (key_in file x) ≡ true) (λ x. x ≢ num) rest n_taken all.1 in
        let top_no : top ≢ num = n_taken top all.0 in
        let low = ap (λ (g : File → ℕ). g file) k.limit in
        let same : AllByRecursion (λ x. e.taken (key_in file x) ≡ a.taken (key_in file x)) rest =
        all_map (λ x. x ≢ num) (λ x. e.taken (key_in file x) ≡ a.taken (key_in file x)) rest (λ x n. k.taken (key_in file x) (λ q. n (key_in-one file x num q))) not_no in
        let heap : (x : ℕ) → a.of_heap (key_in file x) ≡ false → e.of_heap (key_in file x) ≡ false = λ x h. ap (λ f. f (key_in file x)) k.of_heap ∙ h in
        let nexts : AllByRecursion (λ x. e.next (key_in file x) ≡ a.next (key_in file x)) rest =
        all_both (λ x. x ≢ num) (λ x. x ≢ top) (λ x. e.next (key_in file x) ≡ a.next (key_in file x)) rest
        (λ x n m. k.next (key_in file x) (λ q. n (key_in-one file x num q)) (λ q. m (key_in-one file x top q))) not_no l.taken.2 in
        let P : Option ℕ → Type 0 = λ o. IsPath file e.next o rest in
        let Q : Option ℕ → Type 0 = λ o. IsPath file e.next o (num ∷ rest) in
        record {
          rest = rest;
          was = was;
          apart = λ q. top_no (sym q);
          line = record {
            taken = (
              let z = l.taken.0 in omega arith,
              k.taken (key_in file top) (λ q. top_no (key_in-one file top num q)) ∙ all.0,
              (λ q. top_no (sym q), l.taken.2),
              (
                let z = k.below in omega arith,
                k.taken_new,
                not_no,
                distinct-same file a.taken e.taken (a.limit file) (e.limit file) rest (sym low) same l.taken.3,
              ),
            );
            no_heap = (heap top l.no_heap.0, (heap num k.no_heap, all_map (λ x. a.of_heap (key_in file x) ≡ false) (λ x. e.of_heap (key_in file x) ≡ false) rest heap l.no_heap.1));
            path = (refl, subst Q (sym k.next_top) (refl, subst P (sym k.next_new) (path-same file a.next e.next (a.next (key_in file top)) rest nexts l.path.1)));
          };
        }

-- ---- what the calls that write three pages do

key_is : (a b : PageId) → a ≡ b → key a ≡ key b
key_is a b e = ap key e

-- written by the pins' own pages, which are these
named : (b d : Space) (p0 p1 q0 q1 n : PageId) (x0 x1 x2 : List ℕ) → q0 ≡ p0 → q1 ≡ p1 → d ≡ written (written (written b (key n) x2) (key q1) x1) (key q0) x0
    → d ≡ written (written (written b (key n) x2) (key p1) x1) (key p0) x0
named b d p0 p1 q0 q1 n x0 x1 x2 e0 e1 h =
    h ∙ ap (λ k. written (written (written b (key n) x2) k x1) (key q0) x0) (ap key e1)
    ∙ ap (λ k. written (written (written b (key n) x2) (key p1) x1) k x0) (ap key e0)

linked_twice : (d e : Space) (n t : ℕ) (num : ℕ) (f : ℕ → Option ℕ) → d.next ≡ f → e ≡ with_next (with_next d n (d.next t)) t (Some num) → e ≡ with_next (with_next d n (f t)) t (Some num)
linked_twice d e n t num f h q = q ∙ ap (λ o. with_next (with_next d n o) t (Some num)) (ap (λ g. g t) h)

-- a page was linked
pub rewritten_linked : (a d e : Space) (p c n : ℕ) (taken : ℕ → Bool) (next : ℕ → Option ℕ) (xp xc xn : List ℕ) (k t num : ℕ) → Rewrites a d p c n xp xc xn taken next
    → e ≡ with_next (with_next d k (d.next t)) t (Some num) → Rewrites a e p c n xp xc xn taken (with_linked next k t num)
rewritten_linked a d e p c n taken next xp xc xn k t num h q =
    rewritten_next a (with_next d k (next t)) e p c n taken (at next k (next t)) xp xc xn t (Some num)
    (rewritten_next a d (with_next d k (next t)) p c n taken next xp xc xn k (next t) h refl) (linked_twice d e k t num next h.next_is q)

pub writes_split : (a b d e : Space) (top parent child p0 p1 new : PageId) (num : ℕ) (xp xc xn : List ℕ) → NoPins a → PinsWithNew a b parent child new → p0 ≡ parent → p1 ≡ child → new.no ≡ num
    → d ≡ written (written (written b (key new) xn) (key p1) xc) (key p0) xp → Later a.counts b.counts
    → e ≡ with_next (with_next d (key new) (d.next (key top))) (key top) (Some new.no) → WritesSplit a e top parent child num xp xc xn
writes_split a b d e top parent child p0 p1 new num xp xc xn out h e0 e1 en w l q =
    let r = rewritten a b d (key parent) (key child) (key new) (at a.taken (key new) true) (at a.next (key new) None) xp xc xn out h.holds (named b d parent child p0 p1 new xp xc xn e0 e1 w) l in
    let s = rewritten_linked a d e (key parent) (key child) (key new) (at a.taken (key new) true) (at a.next (key new) None) xp xc xn (key new) (key top) new.no r q in
    let same : new ≡ record { file = parent.file; no = num } = λ i. record { file = h.is_new.in_file i; no = en i } in
    let W : PageId → Type 0 =
    λ z. IsNewPage parent.file a z
    × Rewrites a e (key parent) (key child) (key z) xp xc xn (at a.taken (key z) true) (with_linked (at a.next (key z) None) (key z) (key top) z.no) in
    let m : W (record { file = parent.file; no = num }) = subst W same (h.is_new, s) in
    record { is_new = m.0; rewrites = m.1 }

pub writes_top : (a b d e f : Space) (top p0 low high : PageId) (lo hi : ℕ) (xp xc xn : List ℕ) → NoPins a → PinsWithTwo a b top low high → p0 ≡ top → low.no ≡ lo → high.no ≡ hi
    → d ≡ written (written (written b (key high) xn) (key low) xc) (key p0) xp → Later a.counts b.counts
    → e ≡ with_next (with_next d (key high) (d.next (key top))) (key top) (Some high.no)
    → f ≡ with_next (with_next e (key low) (e.next (key top))) (key top) (Some low.no) → WritesTop a f top lo hi xp xc xn
writes_top a b d e f top p0 low high lo hi xp xc xn out h e0 el eh w l q q2 =
    let taken : ℕ → Bool = at (at a.taken (key low) true) (key high) true in
    let next : ℕ → Option ℕ = at (at a.next (key low) None) (key high) None in
    let r = rewritten a b d (key top) (key low) (key high) taken next xp xc xn out h.holds (named b d top low p0 low high xp xc xn e0 refl w) l in
    let s = rewritten_linked a d e (key top) (key low) (key high) taken next xp xc xn (key high) (key top) high.no r q in
    let u = rewritten_linked a e f (key top) (key low) (key high) taken (with_linked next (key high) (key top) high.no) xp xc xn (key low) (key top) low.no s q2 in
    let same_l : low ≡ record { file = top.file; no = lo } = λ i. record { file = h.low_new.in_file i; no = el i } in
    let same_h : high ≡ record { file = top.file; no = hi } = λ i. record { file = h.high_new.in_file i; no = eh i } in
    let W : PageId → PageId → Type 0 =
    λ y z. IsNewPage top.file a y × IsNewPage top.file a z × (key z ≢ key y)
    × Rewrites a f (key top) (key y) (key z) xp xc xn (at (at a.taken (key y) true) (key z) true)
    (with_linked (with_linked (at (at a.next (key y) None) (key z) None) (key z) (key top) z.no) (key y) (key top) y.no) in
    let m : W (record { file = top.file; no = lo }) (record { file = top.file; no = hi }) =
    subst (λ z. W (record { file = top.file; no = lo }) z) same_h (subst (λ y. W y high) same_l (h.low_new, h.high_new, h.holds.new_second, u)) in
    record { low_new = m.0; high_new = m.1; apart = λ z. m.2 (ap (λ k. key_in top.file k) (sym z)); rewrites = m.3 }

-- a link by another name of the page
pub same_page : (d e : Space) (top p q : PageId) → p ≡ q → e ≡ with_next (with_next d (key p) (d.next (key top))) (key top) (Some p.no)
    → e ≡ with_next (with_next d (key q) (d.next (key top))) (key top) (Some q.no)
same_page d e top p q h w = w ∙ ap (λ (z : PageId). with_next (with_next d (key z) (d.next (key top))) (key top) (Some z.no)) h
