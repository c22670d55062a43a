-- The first page.
use Rattle.std.specs.Prelude.{◌≡◌, ℕ, zero, suc, ◌<◌, ◌≤◌, ◌+◌, ◌-◌, ◌^◌, ◌==◌, Bool, true, false, [], None, if◌then◌else◌}
use Rattle.std.proofs.Common.{sym, ◌∙◌, ap, subst, refl, arith, inl, inr}
use Rattle.std.proofs.lemmas.Bool.Decides.{nat_tests, eqb_tells}
use Rattle.hg_base.specs.Space.{Space, NoPins, IsMade, key, at, key_in, without_pin, taken_in, taken_below}
use Rattle.hg_base.specs.Causes.{FreshFault, full_fault}
use Rattle.hg_base.specs.TakenLaws.{taken_in-made, taken_below-other, key_in-apart}
use Rattle.hg_base.specs.Content.{Heaps}
use Rattle.hg_base.specs.declared.File.{File}
use Rattle.hg_base.specs.declared.File.TheVariants.{Main, Temp}
use Rattle.hg_base.specs.declared.PageId.{PageId}
use Rattle.hg_base.specs.declared.pages.PageFault.{PageFault}
use Rattle.hg_pool.specs.Disks.{Disks}
use Rattle.hg_pool.specs.Opening.{new_space}
use Rattle.hg_pool.specs.Work.{IsUnused}
use Rattle.hg_pool.specs.declared.Config.{Config}
use Rattle.std.proofs.lemmas.Bool.{false≢true}
use Rattle.std.proofs.lemmas.Option.{none-some}
use Rattle.hg_machine.specs.Plain.State.{first_state}
use Rattle.hg_engine.specs.Opened.{TakesFirst, sizes_of}
use Rattle.hg_engine.specs.Standing.{nothing_left}
use Rattle.hg_engine.specs.Stepping.{TablesAre}
use Rattle.hg_engine.specs.declared.tables.Tables.{Tables}
use Rattle.hg_engine.proofs.CreateLaws.{kept, no-work}

at-twice : (f : ℕ → Bool) (p q : ℕ) → f q ≡ false → at (at f p true) p false q ≡ false
at-twice f p q h = elim (eqb_tells q p) [
  | inl e ↦ ap (λ b. if b then false else at f p true q) e.0
  | inr n ↦ ap (λ b. if b then false else at f p true q) n.0 ∙ ap (λ b. if b then true else f q) n.0 ∙ h
]

pub takes-first : (a b c : Space) (page : PageId) → NoPins a → IsMade Main a b page → c ≡ without_pin b (key page) → TakesFirst a c
takes-first a b c page pins made after =
    subst (TakesFirst a) (sym after) (record {
      told = ap (λ (s : Space). s.told) made.after;
      limit = ap (λ (s : Space). s.limit) made.after;
      heaps = ap (λ (s : Space). s.heaps) made.after;
      pins = record {
        none_out = ap (λ (s : Space). s.pins - 1) made.after ∙ (let none = pins.none_out in omega arith);
        not_pinned = λ q. ap (λ (s : Space). at s.pinned (key page) false q) made.after ∙ at-twice a.pinned (key page) q (pins.not_pinned q);
      };
      none_lent = λ none q. ap (λ (s : Space). s.of_heap q) made.after ∙ none q;
      used = taken_in-made Main a b page made;
      over = ap (λ (s : Space). taken_below s.taken Temp (s.limit Temp)) made.after
          ∙ taken_below-other a.taken Temp (a.limit Temp) (key page) true
          (λ k h e. key_in-apart page.no k (ap (λ f. key_in f page.no) (sym made.in_file) ∙ sym e));
    })

-- a space of some pages of which none is taken is not full
pub not-full : (a : Space) (f : PageFault) → IsUnused a → 0 < a.limit Main → f ≡ full_fault Main → FreshFault Main a f → ⊥
not-full a f unused some is h =
    let full = subst (FreshFault Main a) is h in absurd (false≢true (sym (unused (key_in Main 0)) ∙ full.1 0 some))

-- the page that was made is pinned
pub made-pinned : (a b : Space) (page : PageId) → IsMade Main a b page → b.pinned (key page) ≡ true
made-pinned a b page made =
    let here : (key page == key page) ≡ true = grind (arith, nat_tests) in
    ap (λ (s : Space). s.pinned (key page)) made.after ∙ ap (λ b. if b then true else a.pinned (key page)) here

none-taken : (taken : ℕ → Bool) (file : File) (n : ℕ) → ((q : ℕ) → taken q ≡ false) → taken_below taken file n ≡ 0
none-taken taken file zero none = refl
none-taken taken file (suc n) none =
    ap (λ b. (if b then 1 else 0) + taken_below taken file n) (none (key_in file n)) ∙ ap (λ k. 0 + k) (none-taken taken file n none)

-- an engine of no table stands for the first state
pub opened : (a b : Space) (x : Tables) (c : Config) (d : Disks) → TakesFirst a b → a ≡ new_space c d → 1 ≤ c.mpl → 0 < c.main_pages → c.temp_pages ≤ 2 ^ 32
    → x.catalog ≡ record { tables = []; indexes = [] } → x.stamps ≡ [] → x.is_open ≡ false → x.max ≡ c.max → x.mpl ≡ c.mpl → TablesAre b x (first_state (sizes_of c))
opened a b x c d first new mpl some few catalog stamps idle max_is mpl_is =
    let none : (q : ℕ) → a.taken q ≡ false = λ q. ap (λ (s : Space). s.taken q) new in
    let none_main : taken_in a Main ≡ 0 = none-taken a.taken Main (a.limit Main) none in
    let none_temp : taken_in a Temp ≡ 0 = none-taken a.taken Temp (a.limit Temp) none in
    let used : taken_in b Main ≡ 1 = let one = first.used in omega (arith, one, none_main) in
    let over : taken_in b Temp ≡ 0 = first.over ∙ none_temp in
    kept b x None (first_state (sizes_of c)) c.max c.mpl (record { tables = []; indexes = [] }) [] catalog stamps (no-work x.is_open x.open idle) max_is mpl_is (record {
      pins = first.pins;
      none_lent = first.none_lent (λ q. ap (λ (s : Space). s.of_heap q) new);
      most = ap (λ (h : Heaps). h.most) first.heaps ∙ ap (λ (s : Space). s.heaps.most) new;
      some_may = mpl;
      few_temp = subst (λ n. n ≤ 2 ^ 32) (sym (ap (λ l. l Temp) first.limit ∙ ap (λ (s : Space). s.limit Temp) new)) few;
      no_indexes = refl;
      tables = [];
      pages = λ k. [];
      stand = record {
        shape = refl;
        each = λ k e t he ht. absurd (none-some e he);
        apart = λ j k x hj hk differ mj mk. absurd (false≢true mj);
      };
      left = nothing_left;
      stands = tt;
      is = λ i. record (first_state (sizes_of c)) {
        current = sym (ap (λ (h : Heaps). h.current) first.heaps ∙ ap (λ (s : Space). s.heaps.current) new) i;
        used = sym used i;
        over = sym over i;
        main_limit = sym (ap (λ l. l Main) first.limit ∙ ap (λ (s : Space). s.limit Main) new) i;
        temp_limit = sym (ap (λ l. l Temp) first.limit ∙ ap (λ (s : Space). s.limit Temp) new) i;
      };
    })
