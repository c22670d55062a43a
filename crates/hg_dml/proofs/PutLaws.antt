-- Laws of rows that are put into a table one by one.
use Rattle.std.specs.Prelude.{◌≡◌, ℕ, zero, suc, ◌+◌, ◌<◌, ◌≤◌, ◌⊎◌, ◌==◌, ◌||◌, Bool, true, false, List, [], ◌∷◌, ◌++◌, length, Option, Some, None, unwrap_or, if◌then◌else◌, take}
use Rattle.std.specs.List.{AllByRecursion}
use Rattle.std.proofs.Common.{sym, ◌∙◌, ap, subst, refl, arith, inl, inr, length-append, length-take}
use Rattle.std.proofs.lemmas.Bool.{false≢true, false_from_ne_true}
use Rattle.std.proofs.lemmas.Bool.Decides.{nat_tests, eqb_tells}
use Rattle.std.proofs.lemmas.Option.{none-some}
use Rattle.hg_base.specs.Space.{Space, Counts, NoPins, at, key_in, taken_in, taken_below}
use Rattle.hg_base.specs.Lines.{NoneMine, has_page, last_of}
use Rattle.hg_base.specs.Steadiness.{Mine, Steady}
use Rattle.hg_base.specs.SteadyLaws.{Later_same, Steady_same, Steady_then, Steady_wider, HasCause_behind, main_failed, temp_failed}
use Rattle.hg_base.specs.TakenLaws.{AreDistinctPages, taken_below-new, taken_below-other, key_in-one, key_in-apart}
use Rattle.hg_base.specs.declared.File.TheVariants.{Main, Temp}
use Rattle.hg_base.specs.declared.Place.{Place}
use Rattle.hg_base.specs.declared.Table.{Table}
use Rattle.hg_model.specs.declared.values.Value.{Value}
use Rattle.hg_table.specs.Chains.{IsChain}
use Rattle.hg_base.specs.Count.{raised}
use Rattle.hg_base.specs.Causes.{Later, HasCause}
use Rattle.hg_base.specs.declared.pages.PageFault.{PageFault}
use Rattle.hg_base.specs.declared.pages.PageFault.TheVariants as fault
use Rattle.hg_model.specs.Tables.{fits_columns}
use Rattle.hg_model.specs.declared.trees.Column.{Column}
use Rattle.hg_table.specs.Agreement.{over_inserted, over_stays}
use Rattle.hg_table.specs.Calls.{HasTable, InsertFault, NamesGiven, IsNamed, Inserts, newborn, insert_mine, none_mine}
use Rattle.hg_table.specs.TableLaws.{chain_stays}
use Rattle.hg_dml.specs.Lent.{NoneLent}
use Rattle.hg_dml.specs.Putting.{Grows, Puts, PutsSome, PutFault, FindsLast, IsOneOf, table_mine}
use Rattle.hg_dml.specs.Steps.{OneMore, CanPut, FitRows}
use Rattle.hg_dml.specs.JoinedLaws.{joined-none, joined-one, joined-then}

-- a page that is named is among the pages
pub has_page-cons : (y x : ℕ) (xs : List ℕ) → has_page xs x ≡ true → has_page (y ∷ xs) x ≡ true
has_page-cons y x xs h = elim (y == x) as (λ b. (b || has_page xs x) ≡ true) [
  | true ↦ refl
  | false ↦ h
]

pub has_page-first : (x : ℕ) (xs : List ℕ) → has_page (x ∷ xs) x ≡ true
has_page-first x xs = let e : (x == x) ≡ true = grind (arith, nat_tests) in ap (λ b. b || has_page xs x) e

pub last-among : (xs : List ℕ) (x : ℕ) → last_of xs ≡ Some x → has_page xs x ≡ true
last-among [] x e = absurd (none-some x e)
last-among (y ∷ []) x e =
    let same : y ≡ x = some-one y x e in
    let here : (y == x) ≡ true = grind (arith, nat_tests) in
    ap (λ b. b || false) here
  where
    some-one : (a b : ℕ) → Some a ≡ Some b → a ≡ b
    some-one a b e = ap (λ (o : Option ℕ). unwrap_or o a) e
last-among (y ∷ z ∷ xs) x e = has_page-cons y x (z ∷ xs) (last-among (z ∷ xs) x e)

-- of a list with one page more: it is that page, or among the others
pub has_page-more : (xs : List ℕ) (y x : ℕ) → has_page (xs ++ y ∷ []) x ≡ true → (has_page xs x ≡ true) ⊎ (x ≡ y)
has_page-more [] y x h = elim (eqb_tells y x) [ inl e ↦ inr (sym e.1) | inr n ↦ absurd (let no : (y == x) ≡ false = n.0 in grind (arith, nat_tests)) ]
has_page-more (z ∷ zs) y x h = elim (eqb_tells z x) [
  | inl e ↦ inl (ap (λ b. b || has_page zs x) e.0)
  | inr n ↦
      let rest : has_page (zs ++ y ∷ []) x ≡ true = ap (λ b. b || has_page (zs ++ y ∷ []) x) (sym n.0) ∙ h in
      elim (has_page-more zs y x rest) [ inl m ↦ inl (has_page-cons z x zs m) | inr e ↦ inr e ]
]

-- the pages of a line are taken and below the limit
pub among-taken : (taken : ℕ → Bool) (n : ℕ) (xs : List ℕ) (x : ℕ) → AreDistinctPages taken Main n xs → has_page xs x ≡ true
    → (x < n) × (taken (key_in Main x) ≡ true)
among-taken taken n [] x d h = absurd (false≢true h)
among-taken taken n (y ∷ ys) x d h = elim (eqb_tells y x) [
  | inl e ↦ subst (λ z. (z < n) × (taken (key_in Main z) ≡ true)) e.1 (d.0, d.1)
  | inr apart ↦ among-taken taken n ys x d.3 (ap (λ b. b || has_page ys x) (sym apart.0) ∙ h)
]

-- a page that is not taken now was not taken before
pub not-before : (a b : Space) (q : ℕ) → ((p : ℕ) → a.taken p ≡ true → b.taken p ≡ true) → b.taken q ≡ false → a.taken q ≡ false
not-before a b q stays none = false_from_ne_true (a.taken q) (λ yes. false≢true (sym none ∙ stays q yes))

-- a page that is among the first ones is among all
pub has_page-before : (xs ys : List ℕ) (x : ℕ) → has_page xs x ≡ true → has_page (xs ++ ys) x ≡ true
has_page-before [] ys x h = absurd (false≢true h)
has_page-before (z ∷ zs) ys x h = elim (eqb_tells z x) [
  | inl e ↦ ap (λ b. b || has_page (zs ++ ys) x) e.0
  | inr n ↦ has_page-cons z x (zs ++ ys) (has_page-before zs ys x (ap (λ b. b || has_page zs x) (sym n.0) ∙ h))
]

-- the pages of a line are of no heap
pub among-no-heap : (s : Space) (xs : List ℕ) (x : ℕ) → AllByRecursion (λ y. s.of_heap (key_in Main y) ≡ false) xs → has_page xs x ≡ true
    → s.of_heap (key_in Main x) ≡ false
among-no-heap s [] x all h = absurd (false≢true h)
among-no-heap s (y ∷ ys) x all h = elim (eqb_tells y x) [
  | inl e ↦ subst (λ z. s.of_heap (key_in Main z) ≡ false) e.1 all.0
  | inr apart ↦ among-no-heap s ys x all.1 (ap (λ b. b || has_page ys x) (sym apart.0) ∙ h)
]

-- no page is lent by a call that lends none of those that it owns
pub none-lent-after : (mine : Mine) (a b : Space) → Steady mine a b → ((q : ℕ) → mine.pages q → b.of_heap q ≡ false) → NoneLent a → NoneLent b
none-lent-after mine a b steady own none q =
    false_from_ne_true (b.of_heap q) (λ yes.
    let still : b.of_heap q ≡ a.of_heap q = steady.of_heap q (λ here. false≢true (sym (own q here) ∙ yes)) in
    false≢true (sym (none q) ∙ sym still ∙ yes))

module _ (a b c : Space) (mid new : Table) (pages now : List ℕ) (m n stamp : ℕ) (row : List Value) (place : Place)
    (g : Grows a b mid pages now m) (o : OneMore b c mid new place stamp n row) where
  put : Inserts b c mid new now (newborn row stamp place)
  put = o.inserts now g.chain

  abbrev key : ℕ
  key = key_in Main place.page

  -- a page of the table as it stands was one of its pages before, or not taken
  among-mine : (x : ℕ) → has_page now x ≡ true → IsOneOf pages (key_in Main x) ⊎ (a.taken (key_in Main x) ≡ false)
  among-mine x h = elim (g.from x h) [ inl among ↦ inl (record { no = x; among = among; same = refl }) | inr free ↦ inr free ]

  -- the page of the new version is one of the table, or was not taken
  place-mine : IsOneOf pages key ⊎ (a.taken key ≡ false)
  place-mine = elim o.pages [
    | inl k ↦ among-mine place.page (last-among now place.page (sym g.chain.last ∙ k.last))
    | inr k ↦ inr (not-before a b key g.stays k.not_taken)
  ]

  last-mine : (l : Option ℕ) (q : ℕ) → mid.last ≡ l → IsNamed l q → IsOneOf pages q ⊎ (a.taken q ≡ false)
  last-mine None q e named = absurd named
  last-mine (Some x) q e named =
      subst (λ p. IsOneOf pages p ⊎ (a.taken p ≡ false)) (sym named) (among-mine x (last-among now x (sym g.chain.last ∙ e)))

  step-stays : (q : ℕ) → a.taken q ≡ true → c.taken q ≡ true
  step-stays q h = elim o.pages [
    | inl k ↦ subst (λ f. f q ≡ true) (sym k.taken) (g.stays q h)
    | inr k ↦ subst (λ f. f q ≡ true) (sym k.taken) (elim (eqb_tells q key) [
      | inl e ↦ ap (λ t. if t then true else b.taken q) e.0
      | inr apart ↦ ap (λ t. if t then true else b.taken q) apart.0 ∙ g.stays q h
    ])
  ]

  -- where the page is among those before, it was among the first ones or not taken
  step-from : (x : ℕ) → has_page put.now x ≡ true → (has_page pages x ≡ true) ⊎ (a.taken (key_in Main x) ≡ false)
  step-from x h = elim put.grown [
    | inl e ↦ g.from x (subst (λ l. has_page l x ≡ true) e h)
    | inr e ↦ elim (has_page-more now place.page x (subst (λ l. has_page l x ≡ true) e h)) [
      | inl among ↦ g.from x among
      | inr same ↦ elim o.pages [
        | inl k ↦ g.from x (last-among now x (sym g.chain.last ∙ k.last ∙ ap Some (sym same)))
        | inr k ↦ inr (subst (λ z. a.taken (key_in Main z) ≡ false) (sym same) (not-before a b key g.stays k.not_taken))
      ]
    ]
  ]

  step-steady : Steady (table_mine a pages) a c
  step-steady = Steady_then (table_mine a pages) a b c g.steady
      (Steady_wider (insert_mine mid place) (table_mine a pages) b c
      (λ q mine. elim mine [ inl named ↦ last-mine mid.last q refl named | inr here ↦ subst (λ p. IsOneOf pages p ⊎ (a.taken p ≡ false)) (sym here) place-mine ])
      (λ h mine. mine) (λ r mine. mine) o.steady)

  same-limit : c.limit Main ≡ b.limit Main
  same-limit = ap (λ l. l Main) o.steady.limit

  -- one page more is taken at most
  one-more : (taken_in b Main ≤ taken_in c Main) × (taken_in c Main ≤ taken_in b Main + 1)
  one-more = elim o.pages [
    | inl k ↦
        let same : taken_in c Main ≡ taken_in b Main = ap (λ t. taken_below t Main (c.limit Main)) k.taken ∙ ap (taken_below b.taken Main) same-limit in
        (omega arith, omega arith)
    | inr k ↦
        let among : has_page put.now place.page ≡ true = last-among put.now place.page (sym put.chain.last ∙ k.last) in
        let below : place.page < c.limit Main = (among-taken c.taken (c.limit Main) put.now place.page put.chain.line.taken among).0 in
        let more : taken_in c Main ≡ taken_in b Main + 1 =
        ap (λ t. taken_below t Main (c.limit Main)) k.taken
        ∙ ap (taken_below (at b.taken key true) Main) same-limit
        ∙ taken_below-new b.taken Main (b.limit Main) place.page (subst (λ l. place.page < l) same-limit below) k.not_taken in
        (omega arith, omega arith)
  ]

  place-among : has_page put.now place.page ≡ true
  place-among = elim o.pages [
    | inl k ↦ last-among put.now place.page (sym put.chain.last ∙ ap (λ (t : Table). t.last) k.same ∙ k.last)
    | inr k ↦ last-among put.now place.page (sym put.chain.last ∙ k.last)
  ]

  -- the pages of the table as it stands stay its pages
  stays-among : (x : ℕ) → has_page now x ≡ true → has_page put.now x ≡ true
  stays-among x among = elim put.grown [
    | inl same ↦ subst (λ l. has_page l x ≡ true) (sym same) among
    | inr more ↦ subst (λ l. has_page l x ≡ true) (sym more) (has_page-before now (place.page ∷ []) x among)
  ]

  last-among-now : (x : ℕ) → mid.last ≡ Some x → has_page put.now x ≡ true
  last-among-now x e = stays-among x (last-among now x (sym g.chain.last ∙ e))

  owned-before : (x : ℕ) → b.taken (key_in Main x) ≡ true → (a.taken (key_in Main x) ≡ true) ⊎ (has_page put.now x ≡ true)
  owned-before x h = elim (g.owned x h) [ inl was ↦ inl was | inr on ↦ inr (stays-among x on) ]

  -- a page that is taken newly is one of the table
  step-owned : (x : ℕ) → c.taken (key_in Main x) ≡ true → (a.taken (key_in Main x) ≡ true) ⊎ (has_page put.now x ≡ true)
  step-owned x h = elim o.pages [
    | inl k ↦ owned-before x (subst (λ f. f (key_in Main x) ≡ true) k.taken h)
    | inr k ↦ elim (eqb_tells (key_in Main x) key) [
      | inl e ↦ inr (subst (λ p. has_page put.now p ≡ true) (sym (key_in-one Main x place.page e.1)) place-among)
      | inr apart ↦ owned-before x (sym (ap (λ t. if t then true else b.taken (key_in Main x)) apart.0) ∙ subst (λ f. f (key_in Main x) ≡ true) k.taken h)
    ]
  ]

  -- the last page of the table is of no heap
  last-no-heap : (l : Option ℕ) (q : ℕ) → mid.last ≡ l → IsNamed l q → c.of_heap q ≡ false
  last-no-heap None q e named = absurd named
  last-no-heap (Some x) q e named = ap c.of_heap named ∙ among-no-heap c put.now x put.chain.line.no_heap (last-among-now x e)

  step-none-lent : NoneLent a → NoneLent c
  step-none-lent none =
      none-lent-after (insert_mine mid place) b c o.steady
      (λ q mine. elim mine [
        | inl named ↦ last-no-heap mid.last q refl named
        | inr here ↦ ap c.of_heap here ∙ among-no-heap c put.now place.page put.chain.line.no_heap place-among
      ]) (g.none_lent none)

  -- no temporary page was taken
  step-temp : taken_in c Temp ≡ taken_in b Temp
  step-temp = elim o.pages [
    | inl k ↦ (λ i. taken_below (k.taken i) Temp (c.limit Temp)) ∙ ap (λ l. taken_below b.taken Temp (l Temp)) o.steady.limit
    | inr k ↦ (λ i. taken_below (k.taken i) Temp (c.limit Temp))
        ∙ taken_below-other b.taken Temp (c.limit Temp) (key_in Main place.page) true (λ j h e. key_in-apart place.page j (sym e))
        ∙ ap (λ l. taken_below b.taken Temp (l Temp)) o.steady.limit
  ]

  step-grows : Grows a c new pages put.now (m + 1)
  step-grows = record {
    chain = put.chain;
    from = step-from;
    steady = step-steady;
    stays = step-stays;
    none_lent = step-none-lent;
    more = let up = g.more in let more = one-more.0 in omega arith;
    few = let up = g.few in let more = one-more.1 in omega arith;
    owned = step-owned;
    temp = step-temp ∙ g.temp;
  }

-- no row was put
pub puts-none : (a : Space) (t : Table) (pages : List ℕ) (stamp : ℕ) (columns : List Column) → NoPins a → IsChain a t pages → Puts a a t t pages stamp columns []
puts-none a t pages stamp columns pins chain = record {
  now = pages;
  grows = record {
    chain = chain;
    from = λ x h. inl h;
    steady = Steady_same (table_mine a pages) a pins;
    stays = λ q h. h;
    none_lent = λ none. none;
    more = omega arith;
    few = omega arith;
    owned = λ x h. inl h;
    temp = refl;
  };
  joined = λ versions table. (versions, table, joined-none stamp versions);
}

-- one row more
pub puts-then : (a b c : Space) (old mid new : Table) (pages : List ℕ) (stamp : ℕ) (columns : List Column) (n : ℕ) (rows : List (List Value)) (row : List Value) (place : Place)
    → fits_columns columns row ≡ true → Puts a b old mid pages stamp columns rows → OneMore b c mid new place stamp n row
    → Puts a c old new pages stamp columns (rows ++ row ∷ [])
puts-then a b c old mid new pages stamp columns n rows row place fits p o = record {
  now = (put a b c mid new pages p.now (length rows) n stamp row place p.grows o).now;
  grows = subst (λ k. Grows a c new pages (put a b c mid new pages p.now (length rows) n stamp row place p.grows o).now k)
      (sym (length-append rows (row ∷ []))) (step-grows a b c mid new pages p.now (length rows) n stamp row place p.grows o);
  joined = λ versions table.
      let before = p.joined versions table in
      let after = over_inserted b c mid new columns p.now before.0 (newborn row stamp place) fits (put a b c mid new pages p.now (length rows) n stamp row place p.grows o) before.1 in
      (after.0, after.2, joined-then stamp versions before.0 after.0 rows (row ∷ []) before.2 (joined-one stamp row place before.0 after.0 after.1));
}

pub none-mine : (pages : List ℕ) → NoneMine Main none_mine pages
none-mine [] = tt
none-mine (x ∷ xs) = (λ no. no, none-mine xs)

-- a call that owns no page and took none leaves what was put
pub puts-still : (a b c : Space) (old new : Table) (pages : List ℕ) (stamp : ℕ) (columns : List Column) (rows : List (List Value))
    → Puts a b old new pages stamp columns rows → Steady none_mine b c → c.taken ≡ b.taken → Puts a c old new pages stamp columns rows
puts-still a b c old new pages stamp columns rows p steady taken =
    let g = p.grows in
    let same : taken_in c Main ≡ taken_in b Main = ap (λ t. taken_below t Main (c.limit Main)) taken ∙ ap (λ l. taken_below b.taken Main (l Main)) steady.limit in
    record {
      now = p.now;
      grows = record {
        chain = chain_stays none_mine b c new p.now steady (none-mine p.now) g.chain;
        from = g.from;
        steady = Steady_then (table_mine a pages) a b c g.steady (Steady_wider none_mine (table_mine a pages) b c (λ q no. absurd no) (λ h no. no) (λ r no. no) steady);
        stays = λ q h. subst (λ f. f q ≡ true) (sym taken) (g.stays q h);
        none_lent = λ none. none-lent-after none_mine b c steady (λ q no. absurd no) (g.none_lent none);
        more = let up = g.more in omega arith;
        few = let up = g.few in omega arith;
        owned = λ x h. g.owned x (sym (ap (λ f. f (key_in Main x)) taken) ∙ h);
        temp = (λ i. taken_below (taken i) Temp (c.limit Temp)) ∙ ap (λ l. taken_below b.taken Temp (l Temp)) steady.limit ∙ g.temp;
      };
      joined = λ versions table.
          let before = p.joined versions table in
          (before.0, over_stays none_mine b c new columns p.now before.0 steady (none-mine p.now) before.1, before.2);
    }

-- all pages of a file are taken: as many as it may have
full-count : (taken : ℕ → Bool) (n : ℕ) → ((m : ℕ) → m < n → taken (key_in Main m) ≡ true) → taken_below taken Main n ≡ n
full-count taken zero all = refl
full-count taken (suc n) all =
    ap (λ b. (if b then 1 else 0) + taken_below taken Main n) (all n (omega arith)) ∙ ap (λ k. 1 + k) (full-count taken n (λ m h. all m (omega arith))) ∙ omega arith

put-fault : (a b c : Space) (n m : ℕ) (f : PageFault) → b.told ≡ a.told → b.limit Main ≡ a.limit Main → Later a.counts b.counts
    → taken_in b Main ≤ taken_in a Main + m → m < n → InsertFault b f → HasCause b c (Some f) → PutFault a c n f
put-fault a b c n m fault.MainFault told limit later few less h k =
    let failed = main_failed b c k in (let seen = failed.0 in let was = later.main in omega arith, let own = failed.1 in let was = later.main_device in omega arith)
put-fault a b c n m fault.TempFault told limit later few less h k =
    let failed = temp_failed b c k in (let seen = failed.0 in let was = later.temp in omega arith, let own = failed.1 in let was = later.temp_device in omega arith)
put-fault a b c n m fault.MainFull told limit later few less h k =
    let all : taken_in b Main ≡ b.limit Main = full-count b.taken (b.limit Main) h in
    let rose : c.counts.main_full ≡ raised b.counts.main_full 1 = ap (λ (w : Counts). w.main_full) k.counts in
    (omega arith, let was = later.main_full in omega arith)
put-fault a b c n m fault.TempFull told limit later few less h k = h
put-fault a b c n m (fault.Damaged page check) told limit later few less h k = sym told ∙ k.damage

-- which damage an insertion finds
pub finds-last : (b : Space) (last : Option ℕ) (f : PageFault) → InsertFault b f → NamesGiven last f → FindsLast last f
finds-last b last fault.MainFault h n = tt
finds-last b last fault.TempFault h n = tt
finds-last b last fault.MainFull h n = tt
finds-last b last fault.TempFull h n = tt
finds-last b last (fault.Damaged page check) h n = (n, h)

-- an insertion that failed leaves what was put before it
pub puts-failed : (a b c : Space) (old mid : Table) (pages : List ℕ) (stamp : ℕ) (columns : List Column) (done rows : List (List Value)) (f : PageFault)
    → Puts a b old mid pages stamp columns done → length done < length rows → Steady none_mine b c → c.taken ≡ b.taken → InsertFault b f
    → NamesGiven mid.last f → HasCause b c (Some f) → PutsSome a c old mid pages stamp columns rows f
puts-failed a b c old mid pages stamp columns done rows f p less steady taken h named k =
    let g = p.grows in
    record {
      done = done;
      puts = puts-still a b c old mid pages stamp columns done p steady taken;
      few = omega arith;
      cause = put-fault a b c (length rows) (length done) f g.steady.told (ap (λ l. l Main) g.steady.limit) g.steady.counts g.few less h k;
      found = finds-last b mid.last f h named;
    }

-- Where a loop over rows stands: the first of them were put.
pub record PutSoFar (a b : Space) (old now : Table) (stamp : ℕ) (rows done : List (List Value)) : Type 0 where
  pub pins : NoPins b
  pub cause : HasCause a b None
  pub chain : (pages : List ℕ) × IsChain b now pages
  pub whole : b.told ≡ true → HasTable b now
  pub puts : (pages : List ℕ) (columns : List Column) → IsChain a old pages → FitRows columns rows → Puts a b old now pages stamp columns done

pub put-begins : (a : Space) (t : Table) (stamp : ℕ) (rows : List (List Value)) → NoPins a → CanPut a t rows → PutSoFar a a t t stamp rows []
put-begins a t stamp rows pins can = record {
  pins = pins;
  cause = record { later = Later_same a.counts; counts = refl; damage = tt };
  chain = (can.pages, can.chain);
  whole = λ told. let w = can.whole told in record { columns = length can.columns; pages = can.pages; versions = w.0; table = w.1.table };
  puts = λ pages columns chain fit. puts-none a t pages stamp columns pins chain;
}

pub put-told : (a b : Space) (old now : Table) (stamp : ℕ) (rows done : List (List Value)) → CanPut a old rows → PutSoFar a b old now stamp rows done → b.told ≡ a.told
put-told a b old now stamp rows done can s = (s.puts can.pages can.columns can.chain can.fit).grows.steady.told

-- one row more was put
pub put-next : (a b c : Space) (old mid new : Table) (stamp n : ℕ) (rows done : List (List Value)) (row : List Value) (place : Place)
    → CanPut a old rows → ((columns : List Column) → FitRows columns rows → fits_columns columns row ≡ true)
    → PutSoFar a b old mid stamp rows done → OneMore b c mid new place stamp n row → HasCause b c None → PutSoFar a c old new stamp rows (done ++ row ∷ [])
put-next a b c old mid new stamp n rows done row place can fits s o cause = record {
  pins = o.steady.pins_after;
  cause = HasCause_behind a b c None (put-told a b old mid stamp rows done can s) s.cause cause;
  chain = (next.now, next.grows.chain);
  whole = λ told.
      let w = can.whole (sym next.grows.steady.told ∙ told) in
      let joined = next.joined w.0 w.1 in
      record { columns = length can.columns; pages = next.now; versions = joined.0; table = joined.1.table };
  puts = λ pages columns chain fit. puts-then a b c old mid new pages stamp columns n done row place (fits columns fit) (s.puts pages columns chain fit) o;
}
  where
    next : Puts a c old new can.pages stamp can.columns (done ++ row ∷ [])
    next = puts-then a b c old mid new can.pages stamp can.columns n done row place (fits can.columns can.fit) (s.puts can.pages can.columns can.chain can.fit) o

pub length-first : (rows : List (List Value)) (i : ℕ) → i < length rows → length (take i rows) < length rows
length-first rows i h = omega (arith, length-take i rows)
