-- A tree that begins, and one whose pages are given back.
use Rattle.std.specs.Prelude.{◌≡◌, ◌≢◌, ℕ, ◌+◌, ◌^◌, ◌<◌, ◌≤◌, ◌==◌, Bool, true, false, List, [], ◌∷◌, ◌++◌, ◌||◌, length, Option, Some, None}
use Rattle.std.specs.List.{AllByRecursion}
use Rattle.std.proofs.Common.{sym, ◌∙◌, ap, subst, refl, arith, append_assoc}
use Rattle.std.proofs.lemmas.Bool.Decides.{nat_tests}
use Rattle.hg_base.specs.Space.{Space, NoPins, key, key_in, at, without_page, taken_in}
use Rattle.hg_base.specs.Steadiness.{Steady}
use Rattle.hg_base.specs.SteadyLaws.{Steady_same, Steady_then, Steady_wider, Later_same}
use Rattle.hg_base.specs.TakenLaws.{key_in-one}
use Rattle.hg_base.specs.Lines.{IsLine, has_page}
use Rattle.hg_base.specs.LineLaws.{IsSameLink, line_stays, line_few, all_map, all_more}
use Rattle.hg_base.specs.declared.File.{File}
use Rattle.hg_base.specs.declared.PageId.{PageId}
use Rattle.hg_btree.specs.Steps.{page_mine}
use Rattle.hg_btree.specs.Life.{MakesLeaf, Makes, Ends, Releases}
use Rattle.hg_btree.specs.Deleting.{pages_mine}

at-other : {X : Type 0} (f : ℕ → X) (p : ℕ) (x : X) (q : ℕ) → q ≢ p → at f p x q ≡ f q
at-other f p x q h = grind (arith, nat_tests)

at-here : {X : Type 0} (f : ℕ → X) (p : ℕ) (x : X) → at f p x p ≡ x
at-here f p x = grind (arith, nat_tests)

one_page : (file : File) (top : ℕ) (q : ℕ) → q ≡ key_in file top → (n : ℕ) × (q ≡ key_in file n) × (has_page (top ∷ []) n ≡ true)
one_page file top q e = (top, e, grind (arith, nat_tests))

pub makes : (file : File) (a b : Space) (page : PageId) → a.limit file < 2 ^ 32 → MakesLeaf file a b page → Makes file a b (record { file = file; top = page.no })
makes file a b page small m =
    let P : File → Type 0 = λ f. key_in f page.no ≡ key_in file page.no in
    let k : key page ≡ key_in file page.no = subst P (sym m.in_file) refl in
    let low = m.below_limit in
    let limit = ap (λ (g : File → ℕ). g file) m.steady.limit in
    let line : IsLine file b (Some page.no) (page.no ∷ []) = record {
      taken = (omega arith, ap b.taken (sym k) ∙ ap (λ f. f (key page)) m.taken ∙ at-here a.taken (key page) true, tt, tt);
      no_heap = (ap b.of_heap (sym k) ∙ m.no_heap, tt);
      path = (refl, ap b.next (sym k) ∙ m.no_next);
    } in
    record {
      in_file = refl;
      not_taken = ap a.taken (sym k) ∙ m.not_taken;
      taken = m.taken ∙ ap (λ q. at a.taken q true) k;
      steady = Steady_wider (page_mine page) (pages_mine file (page.no ∷ [])) a b (λ q e. one_page file page.no q (e ∙ k)) (λ q x. absurd x) (λ q x. absurd x) m.steady;
      line = line;
      is_tree = λ told.
          let h = m.bytes told in
          record {
            line = line;
            levels = [];
            chained = ([], [], record { page = h.bytes; told = ap b.bytes (sym k) ∙ h.told; node = h.are; from = tt; to = tt }, refl, refl);
            sorted = tt;
            ascending = tt;
            owns = λ y. omega arith;
            count = refl;
            leaf_count = refl;
            known = m.steady.told ∙ told;
            numbers = omega arith;
          };
    }

-- ---- pages that are given back

pub releases_none : (file : File) (a : Space) (top : ℕ) (pages : List ℕ) → NoPins a → IsLine file a (Some top) pages → Releases file a a pages (Some top) 0
releases_none file a top pages out l = record {
  done = [];
  rest = pages;
  all = refl;
  line = l;
  gone = tt;
  steady = Steady_same (pages_mine file pages) a out;
  counts = refl;
  few = omega arith;
}

has_behind : (done rest : List ℕ) (x : ℕ) → has_page (done ++ x ∷ rest) x ≡ true
has_behind [] rest x = grind (arith, nat_tests)
has_behind (y ∷ done) rest x = or_true (y == x) (has_page (done ++ x ∷ rest) x) (has_behind done rest x)
  where
    or_true : (p q : Bool) → q ≡ true → (p || q) ≡ true
    or_true true q e = refl
    or_true false q e = e

-- the page named next is the first of the rest
pub record FirstOf (file : File) (b : Space) (rest : List ℕ) (x : ℕ) : Type 0 where
  pub more : List ℕ
  pub is : rest ≡ x ∷ more
  pub taken : b.taken (key_in file x) ≡ true
  pub no_heap : b.of_heap (key_in file x) ≡ false
  pub line : IsLine file b (b.next (key_in file x)) more
  pub apart : AllByRecursion (λ y. y ≢ x) more

some_same : (x y : ℕ) → ◌≡◌ {A = Option ℕ} (Some x) (Some y) → y ≡ x
some_same x y e = cc

pub first_of : (file : File) (b : Space) (rest : List ℕ) (x : ℕ) → IsLine file b (Some x) rest → FirstOf file b rest x
first_of file b [] x l = absurd (let e : ◌≡◌ {A = Option ℕ} (Some x) None = l.path in cc)
first_of file b (y ∷ more) x l =
    let e : y ≡ x = some_same x y l.path.0 in
    let P : ℕ → Type 0 = λ z. FirstOf file b (y ∷ more) z in
    subst P e (record {
      more = more;
      is = refl;
      taken = l.taken.1;
      no_heap = l.no_heap.0;
      line = record { taken = l.taken.3; no_heap = l.no_heap.1; path = l.path.1 };
      apart = l.taken.2;
    })

released_steady : (file : File) (b : Space) (pages : List ℕ) (x : ℕ) → NoPins b → has_page pages x ≡ true → Steady (pages_mine file pages) b (without_page b (key_in file x))
released_steady file b pages x out h =
    let k : ℕ = key_in file x in
    let apart : (q : ℕ) → ((pages_mine file pages).pages q → ⊥) → q ≢ k = λ q n e. n (x, e, h) in
    record {
      pins_before = out;
      pins_after = record { none_out = out.none_out; not_pinned = out.not_pinned };
      told = refl;
      limit = refl;
      device_limit = refl;
      taken = λ q n. at-other b.taken k false q (apart q n);
      of_heap = λ q n. refl;
      pages = λ q n p. record {
        taken = at-other b.taken k false q (apart q n);
        of_heap = refl;
        bytes = at-other b.bytes k None q (apart q n);
        next = at-other b.next k None q (apart q n);
      };
      heaps = λ q n. refl;
      current = refl;
      most = refl;
      caps = λ r. refl;
      peaks = λ r n. refl;
      counts = Later_same b.counts;
    }

pub releases_more : (file : File) (a b : Space) (pages : List ℕ) (x turns : ℕ) → Releases file a b pages (Some x) turns
    → Releases file a (without_page b (key_in file x)) pages (b.next (key_in file x)) (turns + 1)
releases_more file a b pages x turns r =
    let f = first_of file b r.rest x r.line in
    let k : ℕ = key_in file x in
    let all : pages ≡ r.done ++ x ∷ f.more = r.all ∙ ap (λ l. r.done ++ l) f.is in
    let same : AllByRecursion (λ y. IsSameLink b (without_page b k) (key_in file y)) f.more =
    all_map (λ y. y ≢ x) (λ y. IsSameLink b (without_page b k) (key_in file y)) f.more
    (λ y n. record {
      taken = at-other b.taken k false (key_in file y) (λ e. n (key_in-one file y x e));
      of_heap = refl;
      next = at-other b.next k None (key_in file y) (λ e. n (key_in-one file y x e));
    }) f.apart in
    record {
      done = r.done ++ x ∷ [];
      rest = f.more;
      all = all ∙ sym (append_assoc r.done (x ∷ []) f.more);
      line = line_stays file b (without_page b k) (b.next k) f.more refl same f.line;
      gone = all_more (λ y. (without_page b k).taken (key_in file y) ≡ false) r.done x
          (all_map (λ y. b.taken (key_in file y) ≡ false) (λ y. (without_page b k).taken (key_in file y) ≡ false) r.done (λ y e. gone_still b.taken k (key_in file y) e) r.gone)
          (at-here b.taken k false);
      steady = Steady_then (pages_mine file pages) a b (without_page b k) r.steady
          (released_steady file b pages x r.steady.pins_after (subst (λ l. has_page l x ≡ true) (sym all) (has_behind r.done f.more x)));
      counts = r.counts;
      few = let n = ap length f.is in let w = r.few in omega arith;
    }
  where
    gone_still : (f : ℕ → Bool) (p q : ℕ) → f q ≡ false → at f p false q ≡ false
    gone_still f p q e = grind (arith, nat_tests)

append-none : (x : List ℕ) → x ++ [] ≡ x
append-none [] = refl
append-none (y ∷ x) = ap (λ r. y ∷ r) (append-none x)

ends_with : (file : File) (a b : Space) (pages : List ℕ) (next : Option ℕ) (turns : ℕ) → (r : Releases file a b pages next turns) → r.rest ≡ [] → Ends file a b pages
ends_with file a b pages next turns r e = record {
  gone = subst (AllByRecursion (λ x. b.taken (key_in file x) ≡ false)) (sym (r.all ∙ ap (λ l. r.done ++ l) e ∙ append-none r.done)) r.gone;
  steady = r.steady;
  counts = r.counts;
}

pub ends_none : (file : File) (a b : Space) (pages : List ℕ) (turns : ℕ) → Releases file a b pages None turns → Ends file a b pages
ends_none file a b pages turns r = ends_with file a b pages None turns r (empty r.rest r.line)
  where
    empty : (rest : List ℕ) → IsLine file b None rest → rest ≡ []
    empty [] l = refl
    empty (y ∷ rest) l = absurd (let e : ◌≡◌ {A = Option ℕ} None (Some y) = l.path.0 in cc)

pub ends_few : (file : File) (a b : Space) (top : ℕ) (pages : List ℕ) (next : Option ℕ) (turns : ℕ) → IsLine file a (Some top) pages → taken_in a file ≤ turns
    → Releases file a b pages next turns → Ends file a b pages
ends_few file a b top pages next turns l h r =
    ends_with file a b pages next turns r (empty r.rest (let f = line_few file a (Some top) pages l in let w = r.few in omega arith))
  where
    empty : (rest : List ℕ) → length rest ≤ 0 → rest ≡ []
    empty [] l = refl
    empty (y ∷ rest) l = absurd (omega arith)
