-- The way along a line of pages.
use Rattle.std.specs.Prelude.{◌≡◌, ℕ, suc, ◌+◌, ◌<◌, ◌≤◌, ◌==◌, ◌||◌, Bool, true, false, List, [], ◌∷◌, ◌++◌, length, Option, Some, None, option_and_then}
use Rattle.std.specs.List.{AllByRecursion}
use Rattle.std.proofs.Common.{sym, ◌∙◌, ap, subst, refl, arith, append_assoc, append-nil, length-append}
use Rattle.std.proofs.lemmas.Bool.{eq-eqb}
use Rattle.hg_base.specs.Space.{Space, NoPins, IsFree, key_in, taken_in, taken_below}
use Rattle.hg_base.specs.declared.File.{File}
use Rattle.hg_base.specs.LineLaws.{all_has, line-plain, line_free}
use Rattle.hg_base.specs.Lines.{IsLine, IsPath, has_page}
use Rattle.hg_base.specs.TakenLaws.{AreDistinctPages-few}
use Rattle.hg_base.specs.Steadiness.{IsPlain, IsSamePage}
use Rattle.hg_base.specs.SteadyLaws.{Steady_then, Steady_same}
use Rattle.hg_base.specs.declared.File.TheVariants.{Main}
use Rattle.hg_slot.specs.Slotted.{record_at}
use Rattle.hg_table.specs.Versions.{Placed, RowVersion, HoldsVersions, Shows, in_slots, in_pages, most_slots}
use Rattle.hg_table.specs.Places.{first_place}
use Rattle.hg_base.specs.declared.Check.{Check}
use Rattle.hg_base.specs.declared.Check.TheVariants as check
use Rattle.hg_base.specs.declared.pages.PageFault.{PageFault}
use Rattle.hg_base.specs.declared.pages.PageFault.TheVariants as fault
use Rattle.hg_slot.specs.Changing.{IsWrong}
use Rattle.hg_table.specs.Calls.{none_mine, main_page, LookFault, NamesPage, IsPageCheck, WalksOn, reached}
use Rattle.hg_table.specs.Steps.{Looks, HoldsLine, IsSound, IsFirstFull, IsThis, IsNotFree, IsNotTooLong}
use Rattle.hg_table.specs.Listing.{first_slot, slots_none, has_own}
use Rattle.hg_table.proofs.Seeing.{slot_small}

-- Pages of a line were passed that hold no version, and the rest is still to come.
pub record Passed (a : Space) (start : Option ℕ) (h : HoldsLine a start) (next : Option ℕ) (turn : ℕ) : Type 0 where
  pub done : List ℕ
  pub rest : List ℕ
  pub is : h.pages ≡ done ++ rest
  pub count : length done ≡ turn
  pub path : IsPath Main a.next next rest
  pub none : in_pages h.held done ≡ []

pub passed_none : (a : Space) (start : Option ℕ) (h : HoldsLine a start) → Passed a start h start 0
passed_none a start h = record { done = []; rest = h.pages; is = refl; count = refl; path = h.line.path; none = refl }

-- From here on the way goes along some of these pages, whatever they hold.
pub record IsOnWay (a : Space) (pages : List ℕ) (next : Option ℕ) : Type 0 where
  pub rest : List ℕ
  pub path : IsPath Main a.next next rest
  pub plain : AllByRecursion (λ x. IsPlain a (key_in Main x)) rest
  pub among : AllByRecursion (λ x. has_page pages x ≡ true) rest

pub way_starts : (a : Space) (start : Option ℕ) (pages : List ℕ) → IsLine Main a start pages → IsOnWay a pages start
way_starts a start pages l = record { rest = pages; path = l.path; plain = line-plain Main a start pages l; among = has_own pages }

-- looking twice
pub looks_then : (a b c : Space) → Looks a b → Looks b c → Looks a c
looks_then a b c p r = record {
  steady = Steady_then none_mine a b c p.steady r.steady;
  takes_none = record { taken = r.takes_none.taken ∙ p.takes_none.taken };
}

pub looks_same : (a : Space) → NoPins a → Looks a a
looks_same a out = record { steady = Steady_same none_mine a out; takes_none = record { taken = refl } }

-- a page that can be pinned is there as before
pub looks_page : (a b : Space) (x : ℕ) → Looks a b → IsPlain a (key_in Main x) → IsSamePage a b (key_in Main x)
looks_page a b x l p = l.steady.pages (key_in Main x) (λ n. n) p

pub free_now : (a b : Space) (x : ℕ) → Looks a b → IsFree a (main_page x) → IsFree b (main_page x)
free_now a b x l f =
    let s : IsSamePage a b (key_in Main x) = looks_page a b x l (record { taken = f.taken; no_heap = f.no_heap }) in
    record {
      below_limit = let e : b.limit Main ≡ a.limit Main = ap (λ k. k Main) l.steady.limit in let h = f.below_limit in omega arith;
      taken = s.taken ∙ f.taken;
      not_pinned = l.steady.pins_after.not_pinned (key_in Main x);
      no_heap = s.of_heap ∙ f.no_heap;
    }

pub sound_now : (a b : Space) (x : ℕ) → Looks a b → IsSound a x → IsSound b x
sound_now a b x l h = record {
  free = free_now a b x l h.free;
  page = h.page;
  told = (looks_page a b x l (record { taken = h.free.taken; no_heap = h.free.no_heap })).bytes ∙ h.told;
  slotted = h.slotted;
}

-- the page that the way is at
pub record IsOnPage (a : Space) (pages : List ℕ) (x : ℕ) : Type 0 where
  pub among : has_page pages x ≡ true
  pub plain : IsPlain a (key_in Main x)
  pub behind : IsOnWay a pages (a.next (key_in Main x))

pub way_page : (a : Space) (pages : List ℕ) (x : ℕ) → IsOnWay a pages (Some x) → IsOnPage a pages x
way_page a pages x w = go w.rest w.path w.plain w.among
  where
    go : (rest : List ℕ) → IsPath Main a.next (Some x) rest → AllByRecursion (λ y. IsPlain a (key_in Main y)) rest → AllByRecursion (λ y. has_page pages y ≡ true) rest → IsOnPage a pages x
    go [] p k m = absurd (let z : ◌≡◌ {A = Option ℕ} (Some x) None = p in cc)
    go (y ∷ rest) p k m =
        let i : y ≡ x = (let z : ◌≡◌ {A = Option ℕ} (Some x) (Some y) = p.0 in cc) in
        subst (IsOnPage a pages) i (record { among = m.0; plain = k.0; behind = record { rest = rest; path = p.1; plain = k.1; among = m.1 } })

-- and the way behind it
pub way_passed : (a b : Space) (pages : List ℕ) (x : ℕ) → Looks a b → IsOnWay a pages (Some x) → IsOnWay a pages (b.next (key_in Main x))
way_passed a b pages x l w =
    let h : IsOnPage a pages x = way_page a pages x w in
    subst (IsOnWay a pages) (sym (looks_page a b x l h.plain).next) h.behind

-- the next page of a line
pub has_next : (done : List ℕ) (x : ℕ) (rest : List ℕ) → has_page (done ++ x ∷ rest) x ≡ true
has_next [] x rest = ap (λ t. t || has_page rest x) (eq-eqb x x refl)
has_next (y ∷ done) x rest = or_yes (y == x) (has_page (done ++ x ∷ rest) x) (has_next done x rest)
  where
    or_yes : (p q : Bool) → q ≡ true → (p || q) ≡ true
    or_yes true q e = refl
    or_yes false q e = e

pub record IsNextPage (a : Space) (start : Option ℕ) (h : HoldsLine a start) (x turn : ℕ) : Type 0 where
  pub done : List ℕ
  pub rest : List ℕ
  pub is : h.pages ≡ done ++ x ∷ rest
  pub count : length done ≡ turn
  pub path : IsPath Main a.next (a.next (key_in Main x)) rest
  pub none : in_pages h.held done ≡ []
  pub among : has_page h.pages x ≡ true
  pub holds : HoldsVersions a h.columns x (h.held x)

pub some_same : (x y : ℕ) → ◌≡◌ {A = Option ℕ} (Some x) (Some y) → x ≡ y
some_same x y e = cc

pub next_page : (a : Space) (start : Option ℕ) (h : HoldsLine a start) (x turn : ℕ) → Passed a start h (Some x) turn → IsNextPage a start h x turn
next_page a start h x turn p = go p.done p.rest p.is p.count p.path p.none
  where
    go : (done rest : List ℕ) → h.pages ≡ done ++ rest → length done ≡ turn → IsPath Main a.next (Some x) rest → in_pages h.held done ≡ [] → IsNextPage a start h x turn
    go done [] e c p n = absurd (let z : ◌≡◌ {A = Option ℕ} (Some x) None = p in cc)
    go done (y ∷ rest) e c p n =
        let i : y ≡ x = some_same y x (sym p.0) in
        let is : h.pages ≡ done ++ x ∷ rest = e ∙ ap (λ z. done ++ z ∷ rest) i in
        let among : has_page h.pages x ≡ true = ap (λ zs. has_page zs x) is ∙ has_next done x rest in
        record {
          done = done;
          rest = rest;
          is = is;
          count = c;
          path = subst (λ z. IsPath Main a.next (a.next (key_in Main z)) rest) i p.1;
          none = n;
          among = among;
          holds = all_has (λ z. HoldsVersions a h.columns z (h.held z)) h.pages x h.holds among;
        }

-- it may be looked at
pub next_sound : (a b : Space) (start : Option ℕ) (h : HoldsLine a start) (x turn : ℕ) → Looks a b → IsNextPage a start h x turn → IsSound b x
next_sound a b start h x turn l n = sound_now a b x l (record {
  free = line_free Main a start h.pages x l.steady.pins_before h.line n.among;
  page = n.holds.page;
  told = n.holds.told;
  slotted = n.holds.slotted;
})

-- what a slot shows is what the page holds there
pub shown_some : (columns : ℕ) (r : Option (List ℕ)) (v : Option RowVersion) (s : List ℕ) → r ≡ Some s → Shows columns r v → (w : RowVersion) × (v ≡ Some w)
shown_some columns None v s e h = absurd (let n : ◌≡◌ {A = Option (List ℕ)} None (Some s) = e in cc)
shown_some columns (Some r) None s e h = absurd h
shown_some columns (Some r) (Some w) s e h = (w, refl)

pub shown_none : (columns : ℕ) (r : Option (List ℕ)) (v : Option RowVersion) → r ≡ None → Shows columns r v → v ≡ None
shown_none columns None None e h = refl
shown_none columns None (Some v) e h = absurd h
shown_none columns (Some r) v e h = absurd (let n : ◌≡◌ {A = Option (List ℕ)} (Some r) None = e in cc)

-- the first version on a page from a slot on
pub first_held : (s : Space) (columns x from j n : ℕ) (held : ℕ → Option RowVersion) (rest : List Placed) → (h : HoldsVersions s columns x held)
    → IsFirstFull h.page from j → from + n ≡ most_slots → first_place (in_slots x held from n ++ rest) ≡ Some (record { page = x; slot = j })
first_held s columns x from j n held rest h f e =
    let full : (w : RowVersion) × (held j ≡ Some w) = shown_some columns (record_at h.page j) (held j) f.shown f.full (h.each j) in
    let small : j < most_slots = slot_small h.page f.shown j h.slotted f.full in
    first_slot x held from n j full.0 rest f.behind (omega arith) full.1
    (λ i l m. shown_none columns (record_at h.page i) (held i) (f.none i l m) (h.each i))

pub none_held : (s : Space) (columns x from n : ℕ) (held : ℕ → Option RowVersion) → (h : HoldsVersions s columns x held)
    → ((k : ℕ) → from ≤ k → record_at h.page k ≡ None) → in_slots x held from n ≡ []
none_held s columns x from n held h none =
    slots_none x held from n (λ i l. shown_none columns (record_at h.page i) (held i) (none i l) (h.each i))

pub pages-both : (held : ℕ → ℕ → Option RowVersion) (xs ys : List ℕ) → in_pages held (xs ++ ys) ≡ in_pages held xs ++ in_pages held ys
pages-both held [] ys = refl
pages-both held (x ∷ xs) ys = ap (λ r. in_slots x (held x) 0 most_slots ++ r) (pages-both held xs ys)
    ∙ sym (append_assoc (in_slots x (held x) 0 most_slots) (in_pages held xs) (in_pages held ys))

-- the bytes of the page are those that were looked at
now_told : (a b : Space) (start : Option ℕ) (h : HoldsLine a start) (x turn : ℕ) → Looks a b → (n : IsNextPage a start h x turn) → b.bytes (key_in Main x) ≡ Some n.holds.page
now_told a b start h x turn l n =
    let f : IsFree a (main_page x) = line_free Main a start h.pages x l.steady.pins_before h.line n.among in
    (looks_page a b x l (record { taken = f.taken; no_heap = f.no_heap })).bytes ∙ n.holds.told

pub line_found : (a b : Space) (start : Option ℕ) (h : HoldsLine a start) (x j turn : ℕ) → Looks a b → Passed a start h (Some x) turn
    → ((page : List ℕ) → b.bytes (key_in Main x) ≡ Some page → IsFirstFull page 0 j) → Some (record { page = x; slot = j }) ≡ first_place (in_pages h.held h.pages)
line_found a b start h x j turn l p known =
    let n : IsNextPage a start h x turn = next_page a start h x turn p in
    sym (ap (λ zs. first_place (in_pages h.held zs)) n.is
    ∙ ap first_place (pages-both h.held n.done (x ∷ n.rest))
    ∙ ap (λ vs. first_place (vs ++ in_pages h.held (x ∷ n.rest))) n.none
    ∙ first_held a h.columns x 0 j most_slots (h.held x) (in_pages h.held n.rest) n.holds (known n.holds.page (now_told a b start h x turn l n)) (omega arith))

pub line_passed : (a b c : Space) (start : Option ℕ) (h : HoldsLine a start) (x turn : ℕ) → Looks a b → Looks b c → Passed a start h (Some x) turn
    → ((page : List ℕ) → b.bytes (key_in Main x) ≡ Some page → (k : ℕ) → 0 ≤ k → record_at page k ≡ None)
    → Passed a start h (c.next (key_in Main x)) (turn + 1)
line_passed a b c start h x turn l m p known =
    let n : IsNextPage a start h x turn = next_page a start h x turn p in
    let f : IsFree a (main_page x) = line_free Main a start h.pages x l.steady.pins_before h.line n.among in
    let same : c.next (key_in Main x) ≡ a.next (key_in Main x) =
    (looks_page a c x (looks_then a b c l m) (record { taken = f.taken; no_heap = f.no_heap })).next in
    record {
      done = n.done ++ x ∷ [];
      rest = n.rest;
      is = n.is ∙ sym (append_assoc n.done (x ∷ []) n.rest);
      count = let k = n.count in omega (arith, length-append n.done (x ∷ []));
      path = subst (λ o. IsPath Main a.next o n.rest) (sym same) n.path;
      none = pages-both h.held n.done (x ∷ [])
          ∙ ap (λ vs. vs ++ in_pages h.held (x ∷ [])) n.none
          ∙ append-nil (in_slots x (h.held x) 0 most_slots)
          ∙ none_held a h.columns x 0 most_slots (h.held x) n.holds (known n.holds.page (now_told a b start h x turn l n));
    }

-- the end of the line
pub line_ended : (a : Space) (start : Option ℕ) (h : HoldsLine a start) (turn : ℕ) → Passed a start h None turn → None ≡ first_place (in_pages h.held h.pages)
line_ended a start h turn p = go p.rest p.is p.path
  where
    go : (rest : List ℕ) → h.pages ≡ p.done ++ rest → IsPath Main a.next None rest → None ≡ first_place (in_pages h.held h.pages)
    go [] e q = sym (ap (λ zs. first_place (in_pages h.held zs)) (e ∙ append-nil p.done) ∙ ap first_place p.none)
    go (y ∷ rest) e q = absurd (let z : ◌≡◌ {A = Option ℕ} None (Some y) = q.0 in cc)

-- no line has more pages than are taken
pub line_short : (a : Space) (start : Option ℕ) (h : HoldsLine a start) (x turn : ℕ) → turn ≡ taken_in a Main → Passed a start h (Some x) turn → ⊥
line_short a start h x turn e p =
    let n : IsNextPage a start h x turn = next_page a start h x turn p in
    let few : length h.pages ≤ taken_in a Main = AreDistinctPages-few a.taken Main (a.limit Main) h.pages h.line.taken in
    let long : length h.pages ≡ length (n.done ++ x ∷ n.rest) = ap length n.is in
    let k : length n.done ≡ turn = n.count in
    absurd (omega (arith, length-append n.done (x ∷ n.rest)))

pub not_told : (b : Bool) → (b ≡ true → ⊥) → b ≡ false
not_told true h = absurd (h refl)
not_told false h = refl

-- ---- where the pages are known, also over a space that does not tell

-- as many turns are left as there are pages on the way
pub record HasTurns (a : Space) (next : Option ℕ) (turn : ℕ) : Type 0 where
  pub rest : List ℕ
  pub path : IsPath Main a.next next rest
  pub few : turn + length rest ≤ taken_in a Main

pub turns_start : (a : Space) (start : Option ℕ) (pages : List ℕ) → IsLine Main a start pages → HasTurns a start 0
turns_start a start pages l = record { rest = pages; path = l.path; few = let few = AreDistinctPages-few a.taken Main (a.limit Main) pages l.taken in omega arith }

pub turns_passed : (a b : Space) (x turn : ℕ) → Looks a b → IsPlain a (key_in Main x) → HasTurns a (Some x) turn → HasTurns a (b.next (key_in Main x)) (turn + 1)
turns_passed a b x turn l plain h = subst (λ o. HasTurns a o (turn + 1)) (sym (looks_page a b x l plain).next) (go h.rest h.path h.few)
  where
    go : (rest : List ℕ) → IsPath Main a.next (Some x) rest → turn + length rest ≤ taken_in a Main → HasTurns a (a.next (key_in Main x)) (turn + 1)
    go [] p f = absurd (let z : ◌≡◌ {A = Option ℕ} (Some x) None = p in cc)
    go (y ∷ rest) p f = record { rest = rest; path = subst (λ z. IsPath Main a.next (a.next (key_in Main z)) rest) (some_same y x (sym p.0)) p.1; few = omega arith }

pub turns_over : (a : Space) (x turn : ℕ) → taken_in a Main ≤ turn → HasTurns a (Some x) turn → ⊥
turns_over a x turn l h = go h.rest h.path h.few
  where
    go : (rest : List ℕ) → IsPath Main a.next (Some x) rest → turn + length rest ≤ taken_in a Main → ⊥
    go [] p f = let z : ◌≡◌ {A = Option ℕ} (Some x) None = p in absurd (cc)
    go (y ∷ rest) p f = absurd (omega arith)

pub way_free : (a b : Space) (start : Option ℕ) (pages : List ℕ) (x : ℕ) → Looks a b → IsLine Main a start pages → IsOnWay a pages (Some x) → IsFree b (main_page x)
way_free a b start pages x l line w = free_now a b x l (line_free Main a start pages x l.steady.pins_before line (way_page a pages x w).among)

-- of a page that can be pinned
pub known_open : (s : Space) (x : ℕ) (c : Check) (f : PageFault) → LookFault (IsThis c) f → NamesPage x f → IsNotFree s f → IsFree s (main_page x) → LookFault IsPageCheck f
known_open s x c fault.MainFault h n b free = tt
known_open s x c fault.TempFault h n b free = tt
known_open s x c fault.MainFull h n b free = h
known_open s x c fault.TempFull h n b free = h
known_open s x c (fault.Damaged page check) h n b free = absurd (b (subst (IsFree s) (sym n) free))

pub page_check : (page : List ℕ) (e : Check) → IsWrong page e → IsPageCheck e
page_check page check.Kind h = tt
page_check page check.Size h = tt
page_check page check.Frame h = h
page_check page check.Link h = h
page_check page check.Level h = h
page_check page check.Order h = h
page_check page check.RowBytes h = h

-- a walk by steps
pub reached_more : (next : ℕ → Option ℕ) (from : Option ℕ) (n x : ℕ) → Some x ≡ reached next from n → next (key_in Main x) ≡ reached next from (n + 1)
reached_more next from n x e =
    let one : suc n ≡ n + 1 = omega arith in
    ap (option_and_then (λ y. next (key_in Main y))) e ∙ ap (reached next from) one

pub not_too_long : (s : Space) (from : Option ℕ) (f : PageFault) → IsNotTooLong f → WalksOn s from f
not_too_long s from fault.MainFault h = tt
not_too_long s from fault.TempFault h = tt
not_too_long s from fault.MainFull h = tt
not_too_long s from fault.TempFull h = tt
not_too_long s from (fault.Damaged page check.Kind) h = tt
not_too_long s from (fault.Damaged page check.Size) h = tt
not_too_long s from (fault.Damaged page check.Frame) h = tt
not_too_long s from (fault.Damaged page check.Link) h = tt
not_too_long s from (fault.Damaged page check.Level) h = tt
not_too_long s from (fault.Damaged page check.Order) h = absurd h
not_too_long s from (fault.Damaged page check.RowBytes) h = tt

-- the same steps after a look at a page
pub walks_same : (a b : Space) (from to : Option ℕ) (f : PageFault) → b.next ≡ a.next → Looks a b → from ≡ to → WalksOn b from f → WalksOn a to f
walks_same a b from to fault.MainFault n l e h = tt
walks_same a b from to fault.TempFault n l e h = tt
walks_same a b from to fault.MainFull n l e h = tt
walks_same a b from to fault.TempFull n l e h = tt
walks_same a b from to (fault.Damaged page check.Kind) n l e h = tt
walks_same a b from to (fault.Damaged page check.Size) n l e h = tt
walks_same a b from to (fault.Damaged page check.Frame) n l e h = tt
walks_same a b from to (fault.Damaged page check.Link) n l e h = tt
walks_same a b from to (fault.Damaged page check.Level) n l e h = tt
walks_same a b from to (fault.Damaged page check.Order) n l e h =
    let count : taken_in a Main ≡ taken_in b Main =
    ap (λ t. taken_below t Main (a.limit Main)) (sym l.takes_none.taken) ∙ ap (λ (k : File → ℕ). taken_below b.taken Main (k Main)) (sym l.steady.limit) in
    ap (reached a.next to) count ∙ ap (λ o. reached a.next o (taken_in b Main)) (sym e) ∙ ap (λ f. reached f from (taken_in b Main)) (sym n) ∙ h
walks_same a b from to (fault.Damaged page check.RowBytes) n l e h = tt
