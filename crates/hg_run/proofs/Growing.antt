-- A page that was put behind the last one of a run.
use Rattle.std.specs.Prelude.{◌≡◌, ◌≢◌, ℕ, ◌==◌, ◌||◌, Bool, true, false, List, [], ◌∷◌, ◌++◌, Option, Some, None, is_some, if◌then◌else◌}
use Rattle.std.specs.List.{AllByRecursion}
use Rattle.std.proofs.Common.{sym, ◌∙◌, ap, subst, refl, arith, inl, inr}
use Rattle.std.proofs.lemmas.Bool.{false≢true, eq-eqb, cases_eq}
use Rattle.std.proofs.lemmas.Bool.Decides.{nat_tests}
use Rattle.hg_base.specs.Space.{Space, NoPins, at, key_in, with_next}
use Rattle.hg_base.specs.LineLaws.{all_both, all_has, all_map, all_more, distinct-apart, distinct-same, distinct_more, last_more, last_none, line-plain, path_more}
use Rattle.hg_base.specs.Lines.{IsPath, has_page, last_of}
use Rattle.hg_base.specs.TakenLaws.{key_in-one}
use Rattle.hg_base.specs.Steadiness.{IsPlain, IsSamePage, Steady}
use Rattle.hg_base.specs.SteadyLaws.{Steady_then, Steady_wider, Later_same}
use Rattle.hg_base.specs.declared.File.TheVariants.{Temp}
use Rattle.hg_run.specs.declared.Run.{Run}
use Rattle.hg_run.specs.Format.{IsClean, IsRunPage}
use Rattle.hg_run.specs.Runs.{IsChain}
use Rattle.hg_run.specs.Calls.{append_mine, IsNamed, AddsPage}
use Rattle.hg_run.specs.Steps.{page_mine, IsHeld, MakesPage, AddsRecord, LeadsTo, first_with}

at_other : {X : Type 0} (f : ℕ → X) (p q : ℕ) (x : X) → q ≢ p → at f p x q ≡ f q
at_other f p q x h = grind (arith, nat_tests)

at_here : {X : Type 0} (f : ℕ → X) (p : ℕ) (x : X) → at f p x p ≡ x
at_here f p x = grind (arith, nat_tests)

-- the last page is one of the pages
pub last_has : (xs : List ℕ) (x : ℕ) → last_of xs ≡ Some x → has_page xs x ≡ true
last_has [] x e = absurd (let n : ◌≡◌ {A = Option ℕ} None (Some x) = e in cc)
last_has (y ∷ []) x e = let i : y ≡ x = (let n : ◌≡◌ {A = Option ℕ} (Some y) (Some x) = e in cc) in ap (λ t. t || false) (eq-eqb y x i)
last_has (y ∷ z ∷ xs) x e = or_yes (y == x) (has_page (z ∷ xs) x) (last_has (z ∷ xs) x e)
  where
    or_yes : (p q : Bool) → q ≡ true → (p || q) ≡ true
    or_yes true q e = refl
    or_yes false q e = e

pub chain_last : (a : Space) (run : Run) (pages : List ℕ) (l : ℕ) → IsChain a run pages → run.last ≡ Some l → IsPlain a (key_in Temp l)
chain_last a run pages l chain last =
    all_has (λ y. IsPlain a (key_in Temp y)) pages l (line-plain Temp a run.first pages chain.line) (last_has pages l (sym chain.last ∙ last))

-- a successor that was set
link_steady : (s : Space) (l : ℕ) (to : Option ℕ) → NoPins s → Steady (page_mine l) s (with_next s (key_in Temp l) to)
link_steady s l to out = record {
  pins_before = out;
  pins_after = record { none_out = out.none_out; not_pinned = out.not_pinned };
  told = refl;
  limit = refl;
  device_limit = refl;
  pages = λ q n p. record { taken = refl; of_heap = refl; bytes = refl; next = at_other s.next (key_in Temp l) q to n };
  taken = λ q n. refl;
  of_heap = λ q n. refl;
  heaps = λ h n. refl;
  current = refl;
  most = refl;
  caps = λ r. refl;
  peaks = λ r n. refl;
  counts = Later_same s.counts;
}

-- a page that is taken is none that was not
apart_taken : (a : Space) (x y : ℕ) → a.taken (key_in Temp x) ≡ false → a.taken (key_in Temp y) ≡ true → y ≢ x
apart_taken a x y free full e = false≢true (sym free ∙ ap (λ z. a.taken (key_in Temp z)) (sym e) ∙ full)

made_beside : (a b : Space) (r : List ℕ) (x l : ℕ) → MakesPage a b r x → IsPlain a (key_in Temp l) → IsSamePage a b (key_in Temp l)
made_beside a b r x l m p =
    m.steady.pages (key_in Temp l) (λ q. apart_taken a x l m.not_taken p.taken (key_in-one Temp l x q)) p

pub last_taken : (a b : Space) (r : List ℕ) (x l : ℕ) → MakesPage a b r x → IsPlain a (key_in Temp l) → b.taken (key_in Temp l) ≡ true
last_taken a b r x l m p = (made_beside a b r x l m p).taken ∙ p.taken

pub last_no_heap : (a b : Space) (r : List ℕ) (x l : ℕ) → MakesPage a b r x → IsPlain a (key_in Temp l) → b.of_heap (key_in Temp l) ≡ false
last_no_heap a b r x l m p = (made_beside a b r x l m p).of_heap ∙ p.no_heap

append_page : (old new : Run) (x : ℕ) (a b : Space) → new.last ≡ Some x → Steady (page_mine x) a b → Steady (append_mine old new) a b
append_page old new x a b e s =
    Steady_wider (page_mine x) (append_mine old new) a b (λ q h. inr (subst (λ o. IsNamed o q) (sym e) h)) (λ h e. e) (λ q e. e) s

pub adds_first : (a b : Space) (old new : Run) (r : List ℕ) (x : ℕ) → MakesPage a b r x → old.last ≡ None
    → new.first ≡ Some x → new.last ≡ Some x → AddsRecord a b old new r x
adds_first a b old new r x m none first last = record {
  steady = append_page old new x a b last m.steady;
  not_taken = m.not_taken;
  taken = m.taken;
  below_limit = m.below_limit;
  no_heap = m.no_heap;
  no_next = m.no_next;
  bytes = m.bytes;
  first = first ∙ sym (ap (λ (o : Option ℕ). if is_some o then old.first else Some x) none);
  last = last;
  linked = subst (λ o. LeadsTo a b o x) (sym none) tt;
}

pub adds_next : (a m b : Space) (old new : Run) (r : List ℕ) (x l : ℕ) → MakesPage a m r x → IsPlain a (key_in Temp l) → old.last ≡ Some l
    → b ≡ with_next m (key_in Temp l) (Some x) → new.first ≡ old.first → new.last ≡ Some x → AddsRecord a b old new r x
adds_next a m b old new r x l k p is_last after first last =
    let apart : l ≢ x = apart_taken a x l k.not_taken p.taken in
    let same : IsSamePage a m (key_in Temp l) = made_beside a m r x l k p in
    let named : (q : ℕ) → q ≡ key_in Temp l → IsNamed old.last q = λ q e. subst (λ o. IsNamed o q) (sym is_last) e in
    let linked : Steady (append_mine old new) m b =
    subst (Steady (append_mine old new) m) (sym after)
    (Steady_wider (page_mine l) (append_mine old new) m (with_next m (key_in Temp l) (Some x)) (λ q e. inl (named q e)) (λ h e. e) (λ q e. e)
    (link_steady m l (Some x) k.steady.pins_after)) in
    let far : key_in Temp x ≢ key_in Temp l = λ q. apart (key_in-one Temp l x (sym q)) in
    record {
      steady = Steady_then (append_mine old new) a m b (append_page old new x a m last k.steady) linked;
      not_taken = k.not_taken;
      taken = ap (λ s. s.taken) after ∙ k.taken;
      below_limit = k.below_limit;
      no_heap = ap (λ s. s.of_heap (key_in Temp x)) after ∙ k.no_heap;
      no_next = ap (λ s. s.next (key_in Temp x)) after ∙ at_other m.next (key_in Temp l) (key_in Temp x) (Some x) far ∙ k.no_next;
      bytes = λ told. let h : IsHeld m x (λ page. IsRunPage page (r ∷ []) × IsClean page) = k.bytes told in record {
        bytes = h.bytes;
        told = ap (λ s. s.bytes (key_in Temp x)) after ∙ h.told;
        are = h.are;
      };
      first = first ∙ sym (ap (λ (o : Option ℕ). if is_some o then old.first else Some x) is_last);
      last = last;
      linked = subst (λ o. LeadsTo a b o x) (sym is_last) (record {
        of_heap = ap (λ s. s.of_heap (key_in Temp l)) after ∙ same.of_heap;
        bytes = ap (λ s. s.bytes (key_in Temp l)) after ∙ same.bytes;
        next = ap (λ s. s.next (key_in Temp l)) after ∙ at_here m.next (key_in Temp l) (Some x);
      });
    }

-- What is known of a page of the run once one was put behind the last.
pub record IsKept (a b : Space) (last : Option ℕ) (x y : ℕ) : Type 0 where
  pub apart : y ≢ x
  pub taken : b.taken (key_in Temp y) ≡ a.taken (key_in Temp y)
  pub of_heap : b.of_heap (key_in Temp y) ≡ a.of_heap (key_in Temp y)
  pub bytes : b.bytes (key_in Temp y) ≡ a.bytes (key_in Temp y)
  pub next : (last ≡ Some y → ⊥) → b.next (key_in Temp y) ≡ a.next (key_in Temp y)

taken_still : (a b : Space) (x y : ℕ) → b.taken ≡ at a.taken (key_in Temp x) true → y ≢ x → b.taken (key_in Temp y) ≡ a.taken (key_in Temp y)
taken_still a b x y e n = ap (λ f. f (key_in Temp y)) e ∙ at_other a.taken (key_in Temp x) (key_in Temp y) true (λ q. n (key_in-one Temp y x q))

named_is : (o : Option ℕ) (y : ℕ) → IsNamed o (key_in Temp y) → o ≡ Some y
named_is None y h = absurd h
named_is (Some x) y h = ap (λ z. Some z) (sym (key_in-one Temp y x h))

some_one : (i j : ℕ) → ◌≡◌ {A = Option ℕ} (Some i) (Some j) → i ≡ j
some_one i j e = cc

beside : (a b : Space) (old new : Run) (r : List ℕ) (x y : ℕ) → AddsRecord a b old new r x → (old.last ≡ Some y → ⊥) → y ≢ x
    → IsPlain a (key_in Temp y) → IsSamePage a b (key_in Temp y)
beside a b old new r x y h n m p =
    h.steady.pages (key_in Temp y) (λ c. elim c [
      | inl e ↦ n (named_is old.last y e)
      | inr e ↦ m (sym (some_one x y (sym h.last ∙ named_is new.last y e)))
    ]) p

kept_at : (a b : Space) (old new : Run) (r : List ℕ) (x y : ℕ) (o : Option ℕ) → old.last ≡ o → AddsRecord a b old new r x → LeadsTo a b o x → IsPlain a (key_in Temp y)
    → IsKept a b o x y
kept_at a b old new r x y None e h l p =
    let m : y ≢ x = apart_taken a x y h.not_taken p.taken in
    let same : IsSamePage a b (key_in Temp y) = beside a b old new r x y h (λ q. absurd (let z : ◌≡◌ {A = Option ℕ} None (Some y) = sym e ∙ q in cc)) m p in
    record { apart = m; taken = taken_still a b x y h.taken m; of_heap = same.of_heap; bytes = same.bytes; next = λ n. same.next }
kept_at a b old new r x y (Some k) e h l p = elim (cases_eq k y) [
  | inl i ↦
      let m : y ≢ x = apart_taken a x y h.not_taken p.taken in
      record {
        apart = m;
        taken = taken_still a b x y h.taken m;
        of_heap = subst (λ z. b.of_heap (key_in Temp z) ≡ a.of_heap (key_in Temp z)) i l.of_heap;
        bytes = subst (λ z. b.bytes (key_in Temp z) ≡ a.bytes (key_in Temp z)) i l.bytes;
        next = λ n. absurd (n (ap (λ z. Some z) i));
      }
  | inr d ↦
      let m : y ≢ x = apart_taken a x y h.not_taken p.taken in
      let same : IsSamePage a b (key_in Temp y) = beside a b old new r x y h (λ q. d (some_one k y (sym e ∙ q))) m p in
      record { apart = m; taken = taken_still a b x y h.taken m; of_heap = same.of_heap; bytes = same.bytes; next = λ n. same.next }
]

-- the pages of the run and the new one
pub kept_pages : (a b : Space) (old new : Run) (r : List ℕ) (x : ℕ) (pages : List ℕ) → AddsRecord a b old new r x → IsChain a old pages
    → AllByRecursion (IsKept a b old.last x) pages
kept_pages a b old new r x pages h chain =
    all_map (λ y. IsPlain a (key_in Temp y)) (IsKept a b old.last x) pages
    (λ y p. kept_at a b old new r x y old.last refl h h.linked p) (line-plain Temp a old.first pages chain.line)

from_here : (g : ℕ → Option ℕ) (first : Option ℕ) (xs : List ℕ) (x : ℕ) → xs ≡ [] → first ≡ Some x → g (key_in Temp x) ≡ None → IsPath Temp g first (xs ++ x ∷ [])
from_here g first xs x e f n = subst (λ ys. IsPath Temp g first (ys ++ x ∷ [])) (sym e) (f, n)

path_with : (a b : Space) (old new : Run) (pages : List ℕ) (x : ℕ) (last : Option ℕ) → old.last ≡ last → IsChain a old pages → AllByRecursion (IsKept a b last x) pages
    → LeadsTo a b last x → new.first ≡ first_with old x → b.next (key_in Temp x) ≡ None → IsPath Temp b.next new.first (pages ++ x ∷ [])
path_with a b old new pages x None e chain kept l first none =
    from_here b.next new.first pages x (last_none pages (sym chain.last ∙ e)) (first ∙ ap (λ (o : Option ℕ). if is_some o then old.first else Some x) e) none
path_with a b old new pages x (Some k) e chain kept l first none =
    subst (λ o. IsPath Temp b.next o (pages ++ x ∷ [])) (sym (first ∙ ap (λ (o : Option ℕ). if is_some o then old.first else Some x) e))
    (path_more Temp a.next b.next old.first pages x k chain.line.path (sym chain.last ∙ e) (distinct-apart Temp a.taken (a.limit Temp) pages chain.line.taken)
    (all_map (IsKept a b (Some k) x) (λ y. y ≢ k → b.next (key_in Temp y) ≡ a.next (key_in Temp y)) pages (λ y q n. q.next (λ i. n (sym (some_one k y i)))) kept) l.next none)

pub chain_with : (a b : Space) (old new : Run) (r : List ℕ) (x : ℕ) (pages : List ℕ) → AddsRecord a b old new r x → IsChain a old pages
    → IsChain b new (pages ++ x ∷ [])
chain_with a b old new r x pages h chain =
    let kept : AllByRecursion (IsKept a b old.last x) pages = kept_pages a b old new r x pages h chain in
    let limit : a.limit Temp ≡ b.limit Temp = sym (ap (λ f. f Temp) h.steady.limit) in
    record {
      line = record {
        taken = distinct_more Temp b.taken (b.limit Temp) pages x
            (distinct-same Temp a.taken b.taken (a.limit Temp) (b.limit Temp) pages limit
            (all_map (IsKept a b old.last x) (λ y. b.taken (key_in Temp y) ≡ a.taken (key_in Temp y)) pages (λ y k. k.taken) kept) chain.line.taken)
            (all_map (IsKept a b old.last x) (λ y. y ≢ x) pages (λ y k. k.apart) kept)
            (let l = h.below_limit in omega arith)
            (ap (λ f. f (key_in Temp x)) h.taken ∙ at_here a.taken (key_in Temp x) true);
        no_heap = all_more (λ y. b.of_heap (key_in Temp y) ≡ false) pages x
            (all_both (IsKept a b old.last x) (λ y. a.of_heap (key_in Temp y) ≡ false) (λ y. b.of_heap (key_in Temp y) ≡ false) pages
            (λ y k q. k.of_heap ∙ q) kept chain.line.no_heap) h.no_heap;
        path = path_with a b old new pages x old.last refl chain kept h.linked h.first h.no_next;
      };
      last = h.last ∙ sym (last_more pages x);
    }

pub adds_page : (a b : Space) (old new : Run) (r : List ℕ) (x : ℕ) (pages : List ℕ) → AddsRecord a b old new r x → AddsPage a b pages (pages ++ x ∷ [])
adds_page a b old new r x pages h = record { x = x; more = refl; not_taken = h.not_taken; taken = h.taken }
