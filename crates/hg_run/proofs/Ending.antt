-- The pages of a run, given back one after the other.
use Rattle.std.specs.Prelude.{◌≡◌, ◌≢◌, ℕ, ◌+◌, ◌≤◌, ◌==◌, ◌||◌, Bool, true, false, List, [], ◌∷◌, ◌++◌, length, Option, Some, None}
use Rattle.std.specs.List.{AllByRecursion}
use Rattle.std.proofs.Common.{sym, ◌∙◌, ap, subst, refl, arith, append_assoc}
use Rattle.std.proofs.lemmas.Bool.Decides.{nat_tests}
use Rattle.hg_base.specs.Space.{Space, NoPins, key_in, at, without_page, taken_in}
use Rattle.hg_base.specs.Steadiness.{Steady}
use Rattle.hg_base.specs.SteadyLaws.{Steady_same, Steady_then, Later_same}
use Rattle.hg_base.specs.TakenLaws.{key_in-one}
use Rattle.hg_base.specs.Lines.{IsLine, has_page}
use Rattle.hg_base.specs.LineLaws.{IsSameLink, line_stays, line_few, all_map, all_more}
use Rattle.hg_base.specs.declared.File.TheVariants.{Temp}
use Rattle.hg_run.specs.declared.Run.{Run}
use Rattle.hg_run.specs.Runs.{IsChain}
use Rattle.hg_run.specs.Calls.{Ends, pages_mine}
use Rattle.hg_run.specs.Steps.{Releases}

at-other : {X : Type 0} (f : ℕ → X) (p : ℕ) (x : X) (q : ℕ) → q ≢ p → at f p x q ≡ f q
at-other f p x q h = grind (arith, nat_tests)

at-here : {X : Type 0} (f : ℕ → X) (p : ℕ) (x : X) → at f p x p ≡ x
at-here f p x = grind (arith, nat_tests)

pub releases_none : (a : Space) (run : Run) (pages : List ℕ) → NoPins a → IsChain a run pages → Releases a a pages run.first 0
releases_none a run pages out c = record {
  done = [];
  rest = pages;
  all = refl;
  line = c.line;
  gone = tt;
  steady = Steady_same (pages_mine pages) a out;
  counts = refl;
  of_heap = refl;
  few = omega arith;
}

has_behind : (done rest : List ℕ) (x : ℕ) → has_page (done ++ x ∷ rest) x ≡ true
has_behind [] rest x = grind (arith, nat_tests)
has_behind (y ∷ done) rest x = or_true (y == x) (has_page (done ++ x ∷ rest) x) (has_behind done rest x)
  where
    or_true : (p q : Bool) → q ≡ true → (p || q) ≡ true
    or_true true q e = refl
    or_true false q e = e

-- the page named next is the first of the rest
pub record FirstOf (b : Space) (rest : List ℕ) (x : ℕ) : Type 0 where
  pub more : List ℕ
  pub is : rest ≡ x ∷ more
  pub taken : b.taken (key_in Temp x) ≡ true
  pub no_heap : b.of_heap (key_in Temp x) ≡ false
  pub line : IsLine Temp b (b.next (key_in Temp x)) more
  pub apart : AllByRecursion (λ y. y ≢ x) more

some_same : (x y : ℕ) → ◌≡◌ {A = Option ℕ} (Some x) (Some y) → y ≡ x
some_same x y e = cc

pub first_of : (b : Space) (rest : List ℕ) (x : ℕ) → IsLine Temp b (Some x) rest → FirstOf b rest x
first_of b [] x l = absurd (let e : ◌≡◌ {A = Option ℕ} (Some x) None = l.path in cc)
first_of b (y ∷ more) x l =
    let e : y ≡ x = some_same x y l.path.0 in
    let P : ℕ → Type 0 = λ z. FirstOf b (y ∷ more) z in
    subst P e (record {
      more = more;
      is = refl;
      taken = l.taken.1;
      no_heap = l.no_heap.0;
      line = record { taken = l.taken.3; no_heap = l.no_heap.1; path = l.path.1 };
      apart = l.taken.2;
    })

released_steady : (b : Space) (pages : List ℕ) (x : ℕ) → NoPins b → has_page pages x ≡ true → Steady (pages_mine pages) b (without_page b (key_in Temp x))
released_steady b pages x out h =
    let k : ℕ = key_in Temp x in
    let apart : (q : ℕ) → ((pages_mine pages).pages q → ⊥) → q ≢ k = λ q n e. n (x, e, h) in
    record {
      pins_before = out;
      pins_after = record { none_out = out.none_out; not_pinned = out.not_pinned };
      told = refl;
      limit = refl;
      device_limit = refl;
      taken = λ q n. at-other b.taken k false q (apart q n);
      of_heap = λ q n. refl;
      pages = λ q n p. record {
        taken = at-other b.taken k false q (apart q n);
        of_heap = refl;
        bytes = at-other b.bytes k None q (apart q n);
        next = at-other b.next k None q (apart q n);
      };
      heaps = λ q n. refl;
      current = refl;
      most = refl;
      caps = λ r. refl;
      peaks = λ r n. refl;
      counts = Later_same b.counts;
    }

pub releases_more : (a b : Space) (pages : List ℕ) (x turns : ℕ) → Releases a b pages (Some x) turns
    → Releases a (without_page b (key_in Temp x)) pages (b.next (key_in Temp x)) (turns + 1)
releases_more a b pages x turns r =
    let f = first_of b r.rest x r.line in
    let k : ℕ = key_in Temp x in
    let all : pages ≡ r.done ++ x ∷ f.more = r.all ∙ ap (λ l. r.done ++ l) f.is in
    let same : AllByRecursion (λ y. IsSameLink b (without_page b k) (key_in Temp y)) f.more =
    all_map (λ y. y ≢ x) (λ y. IsSameLink b (without_page b k) (key_in Temp y)) f.more
    (λ y n. record {
      taken = at-other b.taken k false (key_in Temp y) (λ e. n (key_in-one Temp y x e));
      of_heap = refl;
      next = at-other b.next k None (key_in Temp y) (λ e. n (key_in-one Temp y x e));
    }) f.apart in
    record {
      done = r.done ++ x ∷ [];
      rest = f.more;
      all = all ∙ sym (append_assoc r.done (x ∷ []) f.more);
      line = line_stays Temp b (without_page b k) (b.next k) f.more refl same f.line;
      gone = all_more (λ y. (without_page b k).taken (key_in Temp y) ≡ false) r.done x
          (all_map (λ y. b.taken (key_in Temp y) ≡ false) (λ y. (without_page b k).taken (key_in Temp y) ≡ false) r.done (λ y e. gone_still b.taken k (key_in Temp y) e) r.gone)
          (at-here b.taken k false);
      steady = Steady_then (pages_mine pages) a b (without_page b k) r.steady
          (released_steady b pages x r.steady.pins_after (subst (λ l. has_page l x ≡ true) (sym all) (has_behind r.done f.more x)));
      counts = r.counts;
      of_heap = r.of_heap;
      few = let n = ap length f.is in let w = r.few in omega arith;
    }
  where
    gone_still : (f : ℕ → Bool) (p q : ℕ) → f q ≡ false → at f p false q ≡ false
    gone_still f p q e = grind (arith, nat_tests)

append-none : (x : List ℕ) → x ++ [] ≡ x
append-none [] = refl
append-none (y ∷ x) = ap (λ r. y ∷ r) (append-none x)

ends_with : (a b : Space) (pages : List ℕ) (next : Option ℕ) (turns : ℕ) → (r : Releases a b pages next turns) → r.rest ≡ [] → Ends a b pages
ends_with a b pages next turns r e = record {
  gone = subst (AllByRecursion (λ x. b.taken (key_in Temp x) ≡ false)) (sym (r.all ∙ ap (λ l. r.done ++ l) e ∙ append-none r.done)) r.gone;
  steady = r.steady;
  counts = r.counts;
  of_heap = r.of_heap;
}

pub ends_none : (a b : Space) (pages : List ℕ) (turns : ℕ) → Releases a b pages None turns → Ends a b pages
ends_none a b pages turns r = ends_with a b pages None turns r (empty r.rest r.line)
  where
    empty : (rest : List ℕ) → IsLine Temp b None rest → rest ≡ []
    empty [] l = refl
    empty (y ∷ rest) l = absurd (let e : ◌≡◌ {A = Option ℕ} None (Some y) = l.path.0 in cc)

pub ends_few : (a b : Space) (run : Run) (pages : List ℕ) (next : Option ℕ) (turns : ℕ) → IsChain a run pages → taken_in a Temp ≤ turns
    → Releases a b pages next turns → Ends a b pages
ends_few a b run pages next turns c h r =
    ends_with a b pages next turns r (empty r.rest (let f = line_few Temp a run.first pages c.line in let w = r.few in omega arith))
  where
    empty : (rest : List ℕ) → length rest ≤ 0 → rest ≡ []
    empty [] l = refl
    empty (y ∷ rest) l = absurd (omega arith)
