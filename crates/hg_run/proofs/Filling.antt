-- A record more on the pages of a run.
use Rattle.std.specs.Prelude.{◌≡◌, ◌≢◌, ℕ, ◌+◌, ◌*◌, ◌-◌, ◌^◌, ◌≤◌, min, Bool, true, false, List, [], ◌∷◌, ◌++◌, length, Option, Some, None, ⊤, if◌then◌else◌}
use Rattle.std.specs.List.{AllByRecursion}
use Rattle.std.proofs.Common.{sym, ◌∙◌, ap, subst, refl, arith, length-append, inl, inr}
use Rattle.hg_base.specs.Space.{Space, at, key_in}
use Rattle.hg_base.specs.LineLaws.{all_map, distinct-apart, last_known, line-plain, line_few, line_stays, IsSameLink}
use Rattle.hg_base.specs.Lines.{IsLine, AreApart, last_of}
use Rattle.hg_base.specs.TakenLaws.{key_in-one, taken_below-le}
use Rattle.hg_base.specs.Steadiness.{IsPlain, Steady}
use Rattle.hg_base.specs.SteadyLaws.{Steady_then, Steady_wider}
use Rattle.hg_base.specs.declared.File.TheVariants.{Temp}
use Rattle.hg_run.specs.declared.Run.{Run}
use Rattle.hg_run.specs.Format.{IsClean, IsProper, IsRunPage}
use Rattle.hg_run.specs.Layout.{used, fits, with_record, layout}
use Rattle.hg_run.specs.LayoutLaws.{layout-one, layout-count, layout-records}
use Rattle.hg_run.specs.Runs.{IsChain, IsRun, Holds, AllHold, records_of}
use Rattle.hg_run.specs.RunLaws.{chain_stays, run_stays, none_of, hold_same}
use Rattle.hg_run.specs.Calls.{none_mine, append_mine, HasRun, Appends, NeedsPage, IsNamed}
use Rattle.hg_run.specs.Steps.{page_mine, Looks, IsHeld, ChangesPage, PutsBehind, HasNoRoom, PutsLast, AddsRecord}
use Rattle.hg_run.proofs.Pages.{length-spelling}
use Rattle.hg_run.proofs.Growing.{IsKept, kept_pages, chain_with}

-- ---- the records of the last page

abbrev pub last_held : List (List (List ℕ)) → List (List ℕ)
last_held [] = []
last_held (page ∷ []) = page
last_held (page ∷ next ∷ held) = last_held (next ∷ held)

-- one more does not fit there, or there is no page
abbrev pub IsFullFor : List (List (List ℕ)) → List ℕ → Type 0
IsFullFor [] r = ⊤
IsFullFor (page ∷ []) r = fits page r ≡ false
IsFullFor (page ∷ next ∷ held) r = IsFullFor (next ∷ held) r

pub full_more : (held : List (List (List ℕ))) (r : List ℕ) → IsFullFor held r → with_record held r ≡ held ++ (r ∷ []) ∷ []
full_more [] r h = refl
full_more (page ∷ []) r h = ap (λ b. if b then (page ++ r ∷ []) ∷ [] else page ∷ (r ∷ []) ∷ []) h
full_more (page ∷ next ∷ held) r h = ap (λ l. page ∷ l) (full_more (next ∷ held) r h)

pub hold_length : (f : ℕ → Option (List ℕ)) (pages : List ℕ) (held : List (List (List ℕ))) → AllHold f pages held → length pages ≡ length held
hold_length f [] [] h = refl
hold_length f [] (rs ∷ held) h = absurd h
hold_length f (x ∷ pages) [] h = absurd h
hold_length f (x ∷ pages) (rs ∷ held) h = let e = hold_length f pages held h.1 in omega arith

pub hold_last : (f : ℕ → Option (List ℕ)) (pages : List ℕ) (held : List (List (List ℕ))) (l : ℕ) → AllHold f pages held → last_of pages ≡ Some l → Holds f l (last_held held)
hold_last f [] held l h e = absurd (let n : ◌≡◌ {A = Option ℕ} None (Some l) = e in cc)
hold_last f (x ∷ []) [] l h e = absurd h
hold_last f (x ∷ []) (rs ∷ []) l h e =
    let i : x ≡ l = (let n : ◌≡◌ {A = Option ℕ} (Some x) (Some l) = e in cc) in
    let P : ℕ → Type 0 = λ z. Holds f z rs in subst P i h.0
hold_last f (x ∷ []) (rs ∷ qs ∷ held) l h e = absurd h.1
hold_last f (x ∷ y ∷ pages) [] l h e = absurd h
hold_last f (x ∷ y ∷ pages) (rs ∷ []) l h e = absurd h.1
hold_last f (x ∷ y ∷ pages) (rs ∷ qs ∷ held) l h e = hold_last f (y ∷ pages) (qs ∷ held) l h.1 e

pub hold_more : (f : ℕ → Option (List ℕ)) (pages : List ℕ) (held : List (List (List ℕ))) (x : ℕ) (rs : List (List ℕ)) → AllHold f pages held → Holds f x rs
    → AllHold f (pages ++ x ∷ []) (held ++ rs ∷ [])
hold_more f [] [] x rs h k = (k, tt)
hold_more f [] (qs ∷ held) x rs h k = absurd h
hold_more f (y ∷ pages) [] x rs h k = absurd h
hold_more f (y ∷ pages) (qs ∷ held) x rs h k = (h.0, hold_more f pages held x rs h.1 k)

-- a record more on the last page
pub hold_put : (f g : ℕ → Option (List ℕ)) (pages : List ℕ) (held : List (List (List ℕ))) (l : ℕ) (r : List ℕ) → AllHold f pages held → last_of pages ≡ Some l → AreApart pages
    → AllByRecursion (λ x. x ≢ l → g (key_in Temp x) ≡ f (key_in Temp x)) pages → fits (last_held held) r ≡ true → Holds g l (last_held held ++ r ∷ [])
    → AllHold g pages (with_record held r)
hold_put f g [] held l r h e d same room now = absurd (let n : ◌≡◌ {A = Option ℕ} None (Some l) = e in cc)
hold_put f g (x ∷ []) [] l r h e d same room now = absurd h
hold_put f g (x ∷ []) (rs ∷ []) l r h e d same room now =
    let i : l ≡ x = (let n : ◌≡◌ {A = Option ℕ} (Some x) (Some l) = e in cc) in
    let P : ℕ → Type 0 = λ z. Holds g z (rs ++ r ∷ []) in
    let Q : Bool → Type 0 = λ b. AllHold g (x ∷ []) (if b then (rs ++ r ∷ []) ∷ [] else rs ∷ (r ∷ []) ∷ []) in
    subst Q (sym room) (subst P i now, tt)
hold_put f g (x ∷ []) (rs ∷ qs ∷ held) l r h e d same room now = absurd h.1
hold_put f g (x ∷ y ∷ pages) [] l r h e d same room now = absurd h
hold_put f g (x ∷ y ∷ pages) (rs ∷ []) l r h e d same room now = absurd h.1
hold_put f g (x ∷ y ∷ pages) (rs ∷ qs ∷ held) l r h e d same room now =
    let n : l ≢ x = last_known (λ w. w ≢ x) (y ∷ pages) l d.0 e in
    let k : Holds f x rs = h.0 in
    (record { page = k.page; told = same.0 (λ q. n (sym q)) ∙ k.told; records = k.records; clean = k.clean }, hold_put f g (y ∷ pages) (qs ∷ held) l r h.1 e d.1 same.1 room now)

-- where one more does not fit the last page
pub full_for : (f : ℕ → Option (List ℕ)) (pages : List ℕ) (held : List (List (List ℕ))) (l : ℕ) (r : List ℕ) → AllHold f pages held → last_of pages ≡ Some l
    → ((page : List ℕ) → f (key_in Temp l) ≡ Some page → HasNoRoom page r) → IsFullFor held r
full_for f [] held l r h e nothing = absurd (let n : ◌≡◌ {A = Option ℕ} None (Some l) = e in cc)
full_for f (x ∷ []) [] l r h e nothing = absurd h
full_for f (x ∷ []) (rs ∷ []) l r h e nothing =
    let i : x ≡ l = (let n : ◌≡◌ {A = Option ℕ} (Some x) (Some l) = e in cc) in
    let k : Holds f x rs = h.0 in
    (nothing k.page (ap (λ z. f (key_in Temp z)) (sym i) ∙ k.told)).full rs k.records
full_for f (x ∷ []) (rs ∷ qs ∷ held) l r h e nothing = absurd h.1
full_for f (x ∷ y ∷ pages) [] l r h e nothing = absurd h
full_for f (x ∷ y ∷ pages) (rs ∷ []) l r h e nothing = absurd h.1
full_for f (x ∷ y ∷ pages) (rs ∷ qs ∷ held) l r h e nothing = full_for f (y ∷ pages) (qs ∷ held) l r h.1 e nothing

none_held : (f : ℕ → Option (List ℕ)) (pages : List ℕ) (held : List (List (List ℕ))) (r : List ℕ) → AllHold f pages held → last_of pages ≡ None → IsFullFor held r
none_held f [] [] r h e = tt
none_held f [] (rs ∷ held) r h e = absurd h
none_held f (x ∷ []) held r h e = absurd (let n : ◌≡◌ {A = Option ℕ} (Some x) None = e in cc)
none_held f (x ∷ y ∷ pages) held r h e = absurd (last_some x y pages e)
  where
    last_some : (x y : ℕ) (xs : List ℕ) → last_of (x ∷ y ∷ xs) ≡ None → ⊥
    last_some x y [] e = let n : ◌≡◌ {A = Option ℕ} (Some y) None = e in cc
    last_some x y (z ∷ xs) e = last_some y z xs e

-- ---- no record is lost in the count

many_used : (rs : List (List ℕ)) → AllByRecursion IsProper rs → 3 * length rs ≤ used rs
many_used [] h = omega arith
many_used (r ∷ rs) h = let s = h.0.some in let m = many_used rs h.1 in omega arith

page_few : (page : List ℕ) (rs : List (List ℕ)) → IsRunPage page rs → length rs ≤ 1360
page_few page rs h = let m = many_used rs h.proper in let u = length-spelling rs in let f = h.fits in omega arith

pub records_few : (f : ℕ → Option (List ℕ)) (pages : List ℕ) (held : List (List (List ℕ))) → AllHold f pages held → length (records_of held) ≤ 1360 * length pages
records_few f [] [] h = omega arith
records_few f [] (rs ∷ held) h = absurd h
records_few f (x ∷ pages) [] h = absurd h
records_few f (x ∷ pages) (rs ∷ held) h =
    let k : Holds f x rs = h.0 in
    let p = page_few k.page rs k.records in
    let q = records_few f pages held h.1 in
    let l = length-append rs (records_of held) in
    omega arith

pub count_few : (a : Space) (run : Run) (rs : List (List ℕ)) (pages : List ℕ) → a.limit Temp ≤ 2 ^ 32 → IsRun a run rs pages → length rs + 1 ≤ 2 ^ 64 - 1
count_few a run rs pages n h =
    let f = line_few Temp a run.first pages h.chain.line in
    let t = taken_below-le a.taken Temp (a.limit Temp) in
    let r = records_few a.bytes pages (layout rs) h.held in
    let e = ap length (layout-records rs) in
    omega arith

-- ---- the whole run

length-one : (rs : List (List ℕ)) (r : List ℕ) → length (rs ++ r ∷ []) ≡ length rs + 1
length-one rs r = length-append rs (r ∷ [])

-- the pages of what was laid out
laid_out : (s : Space) (run : Run) (rs : List (List ℕ)) (r : List ℕ) (pages : List ℕ) → s.told ≡ true → IsChain s run pages → run.records ≡ length rs + 1
    → AllHold s.bytes pages (with_record (layout rs) r) → IsRun s run (rs ++ r ∷ []) pages
laid_out s run rs r pages told chain count held =
    let e : layout (rs ++ r ∷ []) ≡ with_record (layout rs) r = layout-one rs r in
    let P : List (List (List ℕ)) → Type 0 = λ h. AllHold s.bytes pages h in
    let all : AllHold s.bytes pages (layout (rs ++ r ∷ [])) = subst P (sym e) held in
    record {
      told = told;
      chain = chain;
      count = count ∙ sym (length-one rs r);
      page_count = hold_length s.bytes pages (layout (rs ++ r ∷ [])) all ∙ layout-count (rs ++ r ∷ []);
      held = all;
    }

-- on the last page
changed_links : (a b : Space) (l : ℕ) (P : List ℕ → List ℕ → Type 0) (from : Option ℕ) (pages : List ℕ) → ChangesPage a b l P → IsLine Temp a from pages → IsLine Temp b from pages
changed_links a b l P from pages c line =
    line_stays Temp a b from pages c.steady.limit
    (all_map (λ y. IsPlain a (key_in Temp y)) (λ y. IsSameLink a b (key_in Temp y)) pages
    (λ y p. record { taken = ap (λ f. f (key_in Temp y)) c.taken; of_heap = ap (λ f. f (key_in Temp y)) c.of_heap; next = ap (λ f. f (key_in Temp y)) c.links })
    (line-plain Temp a from pages line)) line

pub changed_chain : (a b : Space) (old new : Run) (l : ℕ) (P : List ℕ → List ℕ → Type 0) (pages : List ℕ) → ChangesPage a b l P → new.first ≡ old.first → new.last ≡ old.last
    → IsChain a old pages → IsChain b new pages
changed_chain a b old new l P pages c first last chain =
    record {
      line = subst (λ o. IsLine Temp b o pages) (sym first) (changed_links a b l P old.first pages c chain.line);
      last = last ∙ chain.last;
    }

pub put_run : (a b : Space) (old new : Run) (l : ℕ) (r : List ℕ) (rs : List (List ℕ)) (pages : List ℕ) → ChangesPage a b l (λ p q. PutsBehind p q r) → old.last ≡ Some l
    → IsChain b new pages → new.records ≡ length rs + 1 → IsRun a old rs pages → IsRun b new (rs ++ r ∷ []) pages
put_run a b old new l r rs pages c last chain count h =
    let last_is : last_of pages ≡ Some l = sym h.chain.last ∙ last in
    let k : Holds a.bytes l (last_held (layout rs)) = hold_last a.bytes pages (layout rs) l h.held last_is in
    let d : IsHeld b l (λ q. PutsBehind k.page q r) = c.bytes k.page k.told in
    laid_out b new rs r pages (c.steady.told ∙ h.told) chain count
    (hold_put a.bytes b.bytes pages (layout rs) l r h.held last_is (distinct-apart Temp a.taken (a.limit Temp) pages h.chain.line.taken)
    (all_map (λ y. IsPlain a (key_in Temp y)) (λ y. y ≢ l → b.bytes (key_in Temp y) ≡ a.bytes (key_in Temp y)) pages
    (λ y p n. (c.steady.pages (key_in Temp y) (λ q. n (key_in-one Temp y l q)) p).bytes) (line-plain Temp a old.first pages h.chain.line))
    (d.are.room (last_held (layout rs)) k.records)
    (record { page = d.bytes; told = d.told; records = d.are.page (last_held (layout rs)) k.records; clean = d.are.clean (last_held (layout rs)) k.records k.clean }))

pub puts_appends : (a b : Space) (old new : Run) (l : ℕ) (r : List ℕ) (pages : List ℕ) → ChangesPage a b l (λ p q. PutsBehind p q r) → old.last ≡ Some l
    → new.first ≡ old.first → new.last ≡ old.last → a.limit Temp ≤ 2 ^ 32 → new.records ≡ min (old.records + 1) (2 ^ 64 - 1)
    → IsChain a old pages → Appends a b old new pages r
puts_appends a b old new l r pages c is_last first last n count chain =
    let now = changed_chain a b old new l (λ p q. PutsBehind p q r) pages c first last chain in
    record {
      now = pages;
      chain = now;
      grown = inl (record { same = refl; taken = c.taken });
      run_is = λ rs h. put_run a b old new l r rs pages c is_last now
          (let f = count_few a old rs pages n h in let e = h.count in omega arith) h;
    }

-- on a new page
pub add_run : (a b : Space) (old add new : Run) (x : ℕ) (r : List ℕ) (rs : List (List ℕ)) (pages : List ℕ) → AddsRecord a b old add r x → IsFullFor (layout rs) r
    → IsChain b new (pages ++ x ∷ []) → new.records ≡ length rs + 1 → IsRun a old rs pages → IsRun b new (rs ++ r ∷ []) (pages ++ x ∷ [])
add_run a b old add new x r rs pages h full chain count was =
    let d : IsHeld b x (λ q. IsRunPage q (r ∷ []) × IsClean q) = h.bytes was.told in
    let P : List (List (List ℕ)) → Type 0 = λ l. AllHold b.bytes (pages ++ x ∷ []) l in
    laid_out b new rs r (pages ++ x ∷ []) (h.steady.told ∙ was.told) chain count
    (subst P (sym (full_more (layout rs) r full))
    (hold_more b.bytes pages (layout rs) x (r ∷ [])
    (hold_same a.bytes b.bytes pages (layout rs)
    (all_map (IsKept a b old.last x) (λ y. b.bytes (key_in Temp y) ≡ a.bytes (key_in Temp y)) pages (λ y k. k.bytes) (kept_pages a b old add r x pages h was.chain))
    was.held)
    (record { page = d.bytes; told = d.told; records = d.are.0; clean = d.are.1 })))

-- nothing was put on the last page
pub looks_last : (a m : Space) (o : Option ℕ) (r : List ℕ) → PutsLast a m o r false → Looks a m
looks_last a m None r h = h
looks_last a m (Some l) r h = h.looks

pub full_of : (a m : Space) (o : Option ℕ) (r : List ℕ) (pages : List ℕ) (held : List (List (List ℕ))) → o ≡ last_of pages → PutsLast a m o r false → AllHold a.bytes pages held
    → IsFullFor held r
full_of a m None r pages held e h k = none_held a.bytes pages held r k (sym e)
full_of a m (Some l) r pages held e h k = full_for a.bytes pages held l r k (sym e) (λ page t. h.is page t)

pub needs_page : (a m : Space) (run : Run) (r : List ℕ) (rs : List (List ℕ)) (pages : List ℕ) → PutsLast a m run.last r false → IsRun a run rs pages → NeedsPage rs r pages
needs_page a m run r rs pages h was =
    let full = full_of a m run.last r pages (layout rs) was.chain.last h was.held in
    record {
      more = sym (layout-count (rs ++ r ∷ [])) ∙ ap length (layout-one rs r ∙ full_more (layout rs) r full)
          ∙ length-append (layout rs) ((r ∷ []) ∷ [])
          ∙ ap (λ n. n + 1) (sym (hold_length a.bytes pages (layout rs) was.held));
    }

pub looked_chain : (a m : Space) (run : Run) (pages : List ℕ) → Looks a m → IsChain a run pages → IsChain m run pages
looked_chain a m run pages k chain = chain_stays none_mine a m run pages k.steady (none_of pages) chain

pub looked_run : (a m : Space) (run : Run) (rs : List (List ℕ)) (pages : List ℕ) → Looks a m → IsRun a run rs pages → IsRun m run rs pages
looked_run a m run rs pages k h = run_stays none_mine a m run rs pages k.steady (none_of pages) h

pub adds_appends : (a m b : Space) (old add new : Run) (x : ℕ) (r : List ℕ) (pages : List ℕ) → PutsLast a m old.last r false → AddsRecord m b old add r x
    → new.first ≡ add.first → new.last ≡ add.last → a.limit Temp ≤ 2 ^ 32 → new.records ≡ min (old.records + 1) (2 ^ 64 - 1)
    → IsChain a old pages → Appends a b old new pages r
adds_appends a m b old add new x r pages put h first last n count chain =
    let k : Looks a m = looks_last a m old.last r put in
    let added : IsChain b add (pages ++ x ∷ []) = chain_with m b old add r x pages h (looked_chain a m old pages k chain) in
    let now : IsChain b new (pages ++ x ∷ []) = record {
      line = subst (λ o. IsLine Temp b o (pages ++ x ∷ [])) (sym first) added.line;
      last = last ∙ added.last;
    } in
    record {
      now = pages ++ x ∷ [];
      chain = now;
      grown = inr (record {
        x = x;
        more = refl;
        not_taken = sym (ap (λ f. f (key_in Temp x)) k.taken) ∙ h.not_taken;
        taken = subst (λ t. b.taken ≡ at t (key_in Temp x) true) k.taken h.taken;
      });
      run_is = λ rs was. add_run m b old add new x r rs pages h
          (full_of a m old.last r pages (layout rs) was.chain.last put was.held) now
          (let f = count_few a old rs pages n was in let e = was.count in omega arith) (looked_run a m old rs pages k was);
    }

pub adds_steady : (a m b : Space) (old add new : Run) (x : ℕ) (r : List ℕ) → PutsLast a m old.last r false → AddsRecord m b old add r x → new.last ≡ add.last
    → Steady (append_mine old new) a b
adds_steady a m b old add new x r put h e =
    Steady_then (append_mine old new) a m b
    (Steady_wider none_mine (append_mine old new) a m (λ q z. absurd z) (λ q z. z) (λ q z. z) (looks_last a m old.last r put).steady)
    (Steady_wider (append_mine old add) (append_mine old new) m b
    (λ q z. elim z [ inl y ↦ inl y | inr y ↦ inr (subst (λ o. IsNamed o q) (sym e) y) ]) (λ q z. z) (λ q z. z) h.steady)

pub puts_steady : (a b : Space) (old new : Run) (l : ℕ) (P : List ℕ → List ℕ → Type 0) → ChangesPage a b l P → old.last ≡ Some l → Steady (append_mine old new) a b
puts_steady a b old new l P c e =
    Steady_wider (page_mine l) (append_mine old new) a b (λ q h. inl (subst (λ o. IsNamed o q) (sym e) h)) (λ h z. z) (λ q z. z) c.steady

-- ---- what is asked of the last page

pub last_page : (a : Space) (run : Run) (l : ℕ) → HasRun a run → run.last ≡ Some l → (page : List ℕ) × (rs : List (List ℕ)) × (a.bytes (key_in Temp l) ≡ Some page) × IsRunPage page rs
last_page a run l h last =
    let k = hold_last a.bytes h.pages (layout h.rs) l h.run_is.held (sym h.run_is.chain.last ∙ last) in
    (k.page, last_held (layout h.rs), k.told, k.records)

pub last_appends : (a b : Space) (old new : Run) (o : Option ℕ) (r : List ℕ) (pages : List ℕ) → old.last ≡ o → PutsLast a b o r true
    → new.first ≡ old.first → new.last ≡ old.last → a.limit Temp ≤ 2 ^ 32 → new.records ≡ min (old.records + 1) (2 ^ 64 - 1)
    → IsChain a old pages → Appends a b old new pages r
last_appends a b old new None r pages e h first last n count chain = absurd h
last_appends a b old new (Some l) r pages e h first last n count chain = puts_appends a b old new l r pages h e first last n count chain
