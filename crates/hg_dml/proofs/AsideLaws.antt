-- Temporary pages beside a table: the run of an UPDATE.
use Rattle.std.specs.Prelude.{◌≡◌, ℕ, zero, suc, ◌+◌, ◌<◌, ◌≤◌, ◌⊎◌, ◌==◌, Bool, true, false, List, [], ◌∷◌, ◌++◌, length, map, Option, Some, None, if◌then◌else◌}
use Rattle.std.specs.List.{AllByRecursion}
use Rattle.std.proofs.Common.{sym, ◌∙◌, ap, subst, refl, arith, inl, inr, length-append}
use Rattle.std.proofs.lemmas.Bool.{false≢true, cases_Bool}
use Rattle.std.proofs.lemmas.Bool.Decides.{nat_tests}
use Rattle.std.proofs.lemmas.List.{map-append}
use Rattle.hg_base.specs.Causes.{HasCause}
use Rattle.hg_base.specs.LineLaws.{all_more, all_has, line_free}
use Rattle.hg_base.specs.Lines.{NoneMine, has_page, last_of}
use Rattle.hg_base.specs.Space.{Space, NoPins, at, key_in, taken_in, taken_below}
use Rattle.hg_base.specs.Steadiness.{Mine, Steady}
use Rattle.hg_base.specs.SteadyLaws.{Steady_same, Steady_then, Steady_wider}
use Rattle.hg_base.specs.TakenLaws.{key_in-one, key_in-apart, taken_below-new}
use Rattle.hg_base.specs.declared.File.{File}
use Rattle.hg_base.specs.declared.File.TheVariants.{Main, Temp}
use Rattle.hg_base.specs.declared.Place.{Place}
use Rattle.hg_base.specs.declared.Table.{Table}
use Rattle.hg_model.specs.Tables.{fits_integer}
use Rattle.hg_model.specs.declared.values.Value.{Value}
use Rattle.hg_model.specs.declared.values.Value.TheVariants.{Null, Int, Text}
use Rattle.hg_run.specs.Calls.{append_mine, Appends, HasRun, IsNamed}
use Rattle.hg_run.specs.RunLaws as runs
use Rattle.hg_run.specs.Runs.{IsChain as IsRunChain, IsRun, no_run}
use Rattle.hg_run.specs.declared.Run.{Run}
use Rattle.hg_table.specs.Calls.{none_mine, page_mine, HasVersion}
use Rattle.hg_table.specs.Chains.{IsChain}
use Rattle.hg_table.specs.TableLaws.{chain_stays, table_stays}
use Rattle.hg_value.specs.Coding.{coding, coded, narrow, wide, IsStorable}
use Rattle.hg_dml.specs.Putting.{IsOneOf, table_mine}
use Rattle.hg_dml.specs.UpdateSteps.{PutsAside, Kills, HoldsAside, GrowsBeside}
use Rattle.hg_dml.proofs.PutLaws.{among-no-heap, has_page-before, last-among, none-lent-after, none-mine}

-- ---- how many pages are taken

pub taken_below-same : (f g : ℕ → Bool) (file : File) (n : ℕ) → ((k : ℕ) → f (key_in file k) ≡ g (key_in file k)) → taken_below f file n ≡ taken_below g file n
taken_below-same f g file zero e = refl
taken_below-same f g file (suc n) e =
    ap (λ b. (if b then 1 else 0) + taken_below f file n) (e n) ∙ ap (λ k. (if g (key_in file n) then 1 else 0) + k) (taken_below-same f g file n e)

pub taken_in-same : (a b : Space) (file : File) → b.limit ≡ a.limit → ((k : ℕ) → b.taken (key_in file k) ≡ a.taken (key_in file k)) → taken_in b file ≡ taken_in a file
taken_in-same a b file limit e = taken_below-same b.taken a.taken file (b.limit file) e ∙ ap (λ l. taken_below a.taken file (l file)) limit

pub full-count : (taken : ℕ → Bool) (file : File) (n : ℕ) → ((m : ℕ) → m < n → taken (key_in file m) ≡ true) → taken_below taken file n ≡ n
full-count taken file zero all = refl
full-count taken file (suc n) all =
    ap (λ b. (if b then 1 else 0) + taken_below taken file n) (all n (omega arith)) ∙ ap (λ k. 1 + k) (full-count taken file n (λ m h. all m (omega arith))) ∙ omega arith

-- ---- pages of the two files

pub none-temp : (old new : Run) (pages : List ℕ) → NoneMine Main (append_mine old new) pages
none-temp old new [] = tt
none-temp old new (x ∷ xs) = (λ h. elim h [ inl named ↦ not-main old.last x named | inr named ↦ not-main new.last x named ], none-temp old new xs)
  where
    not-main : (o : Option ℕ) (x : ℕ) → IsNamed o (key_in Main x) → ⊥
    not-main None x named = named
    not-main (Some y) x named = key_in-apart x y named

pub none-main : (n : ℕ) (temp : List ℕ) → NoneMine Temp (page_mine n) temp
none-main n [] = tt
none-main n (x ∷ xs) = (λ e. key_in-apart n x (sym e), none-main n xs)

pub none-none : (temp : List ℕ) → NoneMine Temp none_mine temp
none-none [] = tt
none-none (x ∷ xs) = (λ no. no, none-none xs)

-- ---- a version stays where it is

pub version-stays : (m : Mine) (b d : Space) (t : Table) (columns : ℕ) (place : Place) → Steady m b d → ((pages : List ℕ) → NoneMine Main m pages) → HasVersion b t columns place → HasVersion d t columns place
version-stays m b d t columns place steady apart h = record {
  pages = h.pages;
  versions = h.versions;
  table = table_stays m b d t columns h.pages h.versions steady (apart h.pages) h.table;
  there = h.there;
}

-- ---- a row has bytes

pub coded-some : (row : List Value) → 1 ≤ length row → 1 ≤ length (coded row)
coded-some [] h = absurd (omega (arith, h))
coded-some (v ∷ row) h = let some = coding-some v in omega (arith, length-append (coding v) (coded row))
  where
    coding-some : (v : Value) → 1 ≤ length (coding v)
    coding-some Null = omega arith
    coding-some (Int x) = elim (fits_integer x) as (λ b. 1 ≤ length (if b then 1 ∷ narrow x else 3 ∷ wide x)) [ true ↦ omega arith | false ↦ omega arith ]
    coding-some (Text t) = omega arith

-- ---- what is beside a table

pub beside-none : (a : Space) (t : Table) (pages : List ℕ) → NoPins a → IsChain a t pages → GrowsBeside a a t pages pages 0 []
beside-none a t pages pins chain = record {
  chain = chain;
  from = λ x h. inl h;
  steady = Steady_same (table_mine a pages) a pins;
  stays = λ q h. h;
  none_lent = λ none. none;
  more = omega arith;
  few = omega arith;
  owned = λ x h. inl h;
  fresh = tt;
  others = λ x h. refl;
}

-- a step that takes no page of the main file
pub beside-step : (m : Mine) (a b d : Space) (t : Table) (pages temp more : List ℕ) → GrowsBeside a b t pages pages 0 temp → IsChain d t pages → Steady m b d
    → ((q : ℕ) → m.pages q → IsOneOf pages q ⊎ (a.taken q ≡ false)) → ((h : ℕ) → m.heaps h → ⊥) → ((r : ℕ) → m.requests r → ⊥)
    → ((q : ℕ) → m.pages q → d.of_heap q ≡ false) → ((x : ℕ) → d.taken (key_in Main x) ≡ b.taken (key_in Main x)) → ((q : ℕ) → b.taken q ≡ true → d.taken q ≡ true)
    → AllByRecursion (λ x. a.taken (key_in Temp x) ≡ false) more → ((x : ℕ) → has_page more x ≡ false → has_page temp x ≡ false)
    → ((x : ℕ) → has_page more x ≡ false → d.taken (key_in Temp x) ≡ b.taken (key_in Temp x)) → GrowsBeside a d t pages pages 0 more
beside-step m a b d t pages temp more g chain steady mine heaps requests lent main stays fresh less others = record {
  chain = chain;
  from = λ x h. inl h;
  steady = Steady_then (table_mine a pages) a b d g.steady
      (Steady_wider m (table_mine a pages) b d mine (λ h own. heaps h own) (λ r own. requests r own) steady);
  stays = λ q h. stays q (g.stays q h);
  none_lent = λ none. none-lent-after m b d steady lent (g.none_lent none);
  more = let up = g.more in let same = taken_in-same b d Main steady.limit main in omega arith;
  few = let up = g.few in let same = taken_in-same b d Main steady.limit main in omega arith;
  owned = λ x h. g.owned x (sym (main x) ∙ h);
  fresh = fresh;
  others = λ x h. others x h ∙ g.others x (less x h);
}

pub beside-looked : (a b d : Space) (t : Table) (pages temp : List ℕ) → GrowsBeside a b t pages pages 0 temp → Steady none_mine b d → d.taken ≡ b.taken → GrowsBeside a d t pages pages 0 temp
beside-looked a b d t pages temp g steady taken =
    beside-step none_mine a b d t pages temp temp g (chain_stays none_mine b d t pages steady (none-mine pages) g.chain) steady
    (λ q no. absurd no) (λ h no. no) (λ r no. no) (λ q no. absurd no) (λ x. ap (λ f. f (key_in Main x)) taken) (λ q h. ap (λ f. f q) taken ∙ h) g.fresh (λ x h. h)
    (λ x h. ap (λ f. f (key_in Temp x)) taken)

pub beside-killed : (a b d : Space) (t : Table) (place : Place) (stamp : ℕ) (pages temp : List ℕ) → GrowsBeside a b t pages pages 0 temp → has_page pages place.page ≡ true
    → Kills b d t place stamp → GrowsBeside a d t pages pages 0 temp
beside-killed a b d t place stamp pages temp g on k =
    let chain : IsChain d t pages = k.chain pages g.chain in
    beside-step (page_mine place.page) a b d t pages temp temp g chain k.steady
    (λ q here. inl (record { no = place.page; among = on; same = here })) (λ h no. no) (λ r no. no)
    (λ q here. ap d.of_heap here ∙ among-no-heap d pages place.page chain.line.no_heap on)
    (λ x. ap (λ f. f (key_in Main x)) k.taken) (λ q h. ap (λ f. f q) k.taken ∙ h) g.fresh (λ x h. h) (λ x h. ap (λ f. f (key_in Temp x)) k.taken)

-- ---- a row more in the run

at-there : (f : ℕ → Bool) (p q : ℕ) → (q ≡ p → ⊥) → at f p true q ≡ f q
at-there f p q apart = grind (arith, nat_tests)

at-more : (f : ℕ → Bool) (p q : ℕ) → f q ≡ true → at f p true q ≡ true
at-more f p q h = parts (q == p)
  where
    parts : (b : Bool) → (if b then true else f q) ≡ true
    parts true = refl
    parts false = h

absent-more : (xs : List ℕ) (y x : ℕ) → has_page (xs ++ y ∷ []) x ≡ false → (has_page xs x ≡ false) × (x ≡ y → ⊥)
absent-more xs y x h = (
  elim (cases_Bool (has_page xs x)) [ inl on ↦ absurd (false≢true (sym h ∙ has_page-before xs (y ∷ []) x on)) | inr off ↦ off ],
  λ e. false≢true (sym h ∙ subst (λ z. has_page (xs ++ y ∷ []) z ≡ true) (sym e) (last-among (xs ++ y ∷ []) y (last_is xs y))),
)
  where
    last_is : (xs : List ℕ) (y : ℕ) → last_of (xs ++ y ∷ []) ≡ Some y
    last_is [] y = refl
    last_is (z ∷ []) y = refl
    last_is (z ∷ w ∷ xs) y = last_is (w ∷ xs) y

module _ (b d : Space) (old new : Run) (rows : List (List Value)) (row : List Value) (temp : List ℕ) (h : HoldsAside b old temp rows) (p : PutsAside b d old new row) where
  pub put : Appends b d old new temp (coded row)
  put = p.appends temp h.chain

  pub aside-more : HoldsAside d new put.now (rows ++ row ∷ [])
  aside-more = record {
    chain = put.chain;
    run_is = λ told. subst (λ rs. IsRun d new rs put.now) (sym (map-append coded rows (row ∷ []))) (put.run_is (map coded rows) (h.run_is (sym p.steady.told ∙ told)));
  }

  -- the pages that an append owns are of the run, before it or after it
  named-among : (run : Run) (s : Space) (pages : List ℕ) (q : ℕ) → IsRunChain s run pages → IsNamed run.last q → (x : ℕ) × (q ≡ key_in Temp x) × (has_page pages x ≡ true)
  named-among run s pages q chain named = by run.last refl named
    where
      by : (o : Option ℕ) → run.last ≡ o → IsNamed o q → (x : ℕ) × (q ≡ key_in Temp x) × (has_page pages x ≡ true)
      by None e named = absurd named
      by (Some x) e named = (x, named, last-among pages x (sym chain.last ∙ e))

  old-in-new : (x : ℕ) → has_page temp x ≡ true → has_page put.now x ≡ true
  old-in-new x on = elim put.grown [
    | inl k ↦ subst (λ l. has_page l x ≡ true) (sym k.same) on
    | inr k ↦ subst (λ l. has_page l x ≡ true) (sym k.more) (has_page-before temp (k.x ∷ []) x on)
  ]

  own-among : (q : ℕ) → IsNamed old.last q ⊎ IsNamed new.last q → (x : ℕ) × (q ≡ key_in Temp x) × (has_page put.now x ≡ true)
  own-among q own = elim own [
    | inl named ↦ let n = named-among old b temp q h.chain named in (n.0, n.1, old-in-new n.0 n.2)
    | inr named ↦ named-among new d put.now q put.chain named
  ]

  fresh-more : (a : Space) → ((q : ℕ) → a.taken q ≡ true → b.taken q ≡ true) → AllByRecursion (λ x. a.taken (key_in Temp x) ≡ false) temp
      → AllByRecursion (λ x. a.taken (key_in Temp x) ≡ false) put.now
  fresh-more a stays fresh = elim put.grown [
    | inl k ↦ subst (AllByRecursion (λ x. a.taken (key_in Temp x) ≡ false)) (sym k.same) fresh
    | inr k ↦ subst (AllByRecursion (λ x. a.taken (key_in Temp x) ≡ false)) (sym k.more)
        (all_more (λ x. a.taken (key_in Temp x) ≡ false) temp k.x fresh (free-before a stays k.x k.not_taken))
  ]
    where
      free-before : (a : Space) → ((q : ℕ) → a.taken q ≡ true → b.taken q ≡ true) → (x : ℕ) → b.taken (key_in Temp x) ≡ false → a.taken (key_in Temp x) ≡ false
      free-before a stays x none = elim (cases_Bool (a.taken (key_in Temp x))) [ inl on ↦ absurd (false≢true (sym none ∙ stays (key_in Temp x) on)) | inr off ↦ off ]

  pub beside-more : (a : Space) (t : Table) (pages : List ℕ) → GrowsBeside a b t pages pages 0 temp → GrowsBeside a d t pages pages 0 put.now
  beside-more a t pages g =
      let fresh = fresh-more a g.stays g.fresh in
      beside-step (append_mine old new) a b d t pages temp put.now g (chain_stays (append_mine old new) b d t pages p.steady (none-temp old new pages) g.chain) p.steady
      (λ q own. let n = own-among q own in inr (ap a.taken n.1 ∙ all_has (λ x. a.taken (key_in Temp x) ≡ false) put.now n.0 fresh n.2)) (λ h no. no) (λ r no. no)
      (λ q own. let n = own-among q own in ap d.of_heap n.1 ∙ all_has (λ x. d.of_heap (key_in Temp x) ≡ false) put.now n.0 put.chain.line.no_heap n.2)
      (λ x. elim put.grown [
        | inl k ↦ ap (λ f. f (key_in Main x)) k.taken
        | inr k ↦ ap (λ f. f (key_in Main x)) k.taken ∙ at-there b.taken (key_in Temp k.x) (key_in Main x) (key_in-apart x k.x)
      ])
      (λ q on. elim put.grown [
        | inl k ↦ ap (λ f. f q) k.taken ∙ on
        | inr k ↦ ap (λ f. f q) k.taken ∙ at-more b.taken (key_in Temp k.x) q on
      ])
      fresh
      (λ x none. elim put.grown [
        | inl k ↦ subst (λ l. has_page l x ≡ false) k.same none
        | inr k ↦ (absent-more temp k.x x (subst (λ l. has_page l x ≡ false) k.more none)).0
      ])
      (λ x none. elim put.grown [
        | inl k ↦ ap (λ f. f (key_in Temp x)) k.taken
        | inr k ↦ ap (λ f. f (key_in Temp x)) k.taken
            ∙ at-there b.taken (key_in Temp k.x) (key_in Temp x) (λ e. (absent-more temp k.x x (subst (λ l. has_page l x ≡ false) k.more none)).1 (key_in-one Temp x k.x e))
      ])

  -- one temporary page more at most
  pub temp-more : taken_in d Temp ≤ taken_in b Temp + 1
  temp-more = elim put.grown [
    | inl k ↦
        let same : taken_in d Temp ≡ taken_in b Temp = taken_in-same b d Temp p.steady.limit (λ x. ap (λ f. f (key_in Temp x)) k.taken) in
        omega arith
    | inr k ↦
        let among : has_page put.now k.x ≡ true = subst (λ l. has_page l k.x ≡ true) (sym k.more) (last-among (temp ++ k.x ∷ []) k.x (last_is temp k.x)) in
        let below : k.x < d.limit Temp = (line_free Temp d new.first put.now k.x p.steady.pins_after put.chain.line among).below_limit in
        let one : taken_in d Temp ≡ taken_in b Temp + 1 =
        ap (λ f. taken_below f Temp (d.limit Temp)) k.taken ∙ ap (λ l. taken_below (at b.taken (key_in Temp k.x) true) Temp (l Temp)) p.steady.limit
        ∙ taken_below-new b.taken Temp (b.limit Temp) k.x (subst (λ l. k.x < l Temp) p.steady.limit below) k.not_taken in
        omega arith
  ]
    where
      last_is : (xs : List ℕ) (y : ℕ) → last_of (xs ++ y ∷ []) ≡ Some y
      last_is [] y = refl
      last_is (z ∷ []) y = refl
      last_is (z ∷ w ∷ xs) y = last_is (w ∷ xs) y

pub aside-none : (s : Space) → HoldsAside s no_run [] []
aside-none s = record { chain = runs.empty_chain s; run_is = λ told. runs.empty_run s told }

-- a call that owns none of the run's pages
pub aside-stays : (m : Mine) (b d : Space) (run : Run) (temp : List ℕ) (rows : List (List Value)) → Steady m b d → NoneMine Temp m temp → HoldsAside b run temp rows → HoldsAside d run temp rows
aside-stays m b d run temp rows steady apart h = record {
  chain = runs.chain_stays m b d run temp steady apart h.chain;
  run_is = λ told. runs.run_stays m b d run (map coded rows) temp steady apart (h.run_is (sym steady.told ∙ told));
}

-- what a call on the run asks
pub has-run : (s : Space) (run : Run) (temp : List ℕ) (rows : List (List Value)) → HoldsAside s run temp rows → s.told ≡ true → HasRun s run
has-run s run temp rows h told = record { rs = map coded rows; pages = temp; run_is = h.run_is told }

-- what an append of a row's bytes does
pub puts-aside : (b d : Space) (old new : Run) (row : List Value) (bytes : List ℕ) → bytes ≡ coded row → ((temp : List ℕ) → IsRunChain b old temp → Appends b d old new temp bytes)
    → IsStorable row → Steady (append_mine old new) b d → HasCause b d None → PutsAside b d old new row
puts-aside b d old new row bytes is appends storable steady cause = record {
  storable = storable;
  appends = λ temp chain. subst (Appends b d old new temp) is (appends temp chain);
  steady = steady;
  cause = cause;
}
