-- The way along the versions that a snapshot sees.
use Rattle.std.specs.Prelude.{◌≡◌, ◌≢◌, ℕ, ◌+◌, ◌-◌, ◌<◌, ◌≤◌, zero, suc, Bool, true, false, List, [], ◌∷◌, ◌++◌, length, Option, Some, None, IfSome, IsTrue, if◌then◌else◌}
use Rattle.std.specs.List.{AllByRecursion}
use Rattle.std.proofs.Common.{sym, ◌∙◌, ap, subst, refl, arith, inl, inr, append_assoc, append-nil, length-append}
use Rattle.std.proofs.lemmas.Bool.{cases_eq, cases_lt, false≢true}
use Rattle.hg_base.specs.Space.{Space, NoPins, IsFree, key_in, taken_in}
use Rattle.hg_base.specs.declared.pages.PageFault.{PageFault}
use Rattle.hg_base.specs.declared.pages.PageFault.TheVariants as fault
use Rattle.hg_base.specs.LineLaws.{all_has, behind_all, distinct-apart, line-plain, line_behind, line_few, line_free, line_one}
use Rattle.hg_base.specs.Lines.{IsLine, IsPath, has_page, pages_behind}
use Rattle.hg_base.specs.Steadiness.{IsPlain, IsSamePage}
use Rattle.hg_base.specs.declared.File.TheVariants.{Main}
use Rattle.hg_base.specs.declared.Place.{Place}
use Rattle.hg_base.specs.declared.Table.{Table}
use Rattle.hg_model.specs.Visible.{is_visible}
use Rattle.hg_model.specs.declared.values.Value.{Value}
use Rattle.hg_slot.specs.Slotted.{record_at}
use Rattle.hg_table.specs.Chains.{IsChain}
use Rattle.hg_table.specs.Versions.{Placed, RowVersion, HoldsVersions, IsTable, Shows, in_slot, in_slots, in_pages, most_slots}
use Rattle.hg_table.specs.Places.{behind, first_seen, Finds, sees}
use Rattle.hg_table.specs.Calls.{HasWay, StandsOn, NamesPage, NamesOneOf, main_page}
use Rattle.hg_table.specs.Steps.{Looks, HoldsRowsOf, IsFirstSeen, IsNextSeen}
use Rattle.hg_table.specs.Listing.{put, has_own, slots_after, slots_after-is, slots_after-none}
use Rattle.hg_table.specs.TableLaws.{holds-same, holds_stay, one_chain}
use Rattle.hg_table.proofs.Following.{behind_is, rest_line}
use Rattle.hg_table.proofs.Seeing.{slot_small}
use Rattle.hg_table.proofs.Walking.{IsOnWay, IsOnPage, way_page, looks_page, looks_then, has_next, pages-both, some_same}

-- ---- lists of versions

pub seen-behind : (c : ℕ → Bool) (s : ℕ) (xs ys : List Placed) → first_seen c s xs ≡ None → first_seen c s (xs ++ ys) ≡ first_seen c s ys
seen-behind c s [] ys e = refl
seen-behind c s (v ∷ xs) ys e =
    (elim (is_visible c s v.version) as (λ b. ◌≡◌ {A = Option Placed} (if b then Some v else first_seen c s xs) None → (if b then Some v else first_seen c s (xs ++ ys)) ≡ first_seen c s ys) [
      | true ↦ λ n. absurd (let z : ◌≡◌ {A = Option Placed} (Some v) None = n in cc)
      | false ↦ λ n. seen-behind c s xs ys n
    ]) e

one-unseen : (c : ℕ → Bool) (s x k : ℕ) (o : Option RowVersion) → sees c s o ≡ false → first_seen c s (in_slot x k o) ≡ None
one-unseen c s x k None h = refl
one-unseen c s x k (Some v) h = ap (λ b. if b then Some (put x k v) else None) h

pub slots-unseen : (c : ℕ → Bool) (s x : ℕ) (f : ℕ → Option RowVersion) (k n : ℕ) → ((i : ℕ) → k ≤ i → sees c s (f i) ≡ false) → first_seen c s (in_slots x f k n) ≡ None
slots-unseen c s x f k zero h = refl
slots-unseen c s x f k (suc n) h =
    seen-behind c s (in_slot x k (f k)) (in_slots x f (suc k) n) (one-unseen c s x k (f k) (h k (omega arith)))
    ∙ slots-unseen c s x f (suc k) n (λ i l. h i (omega arith))

pub slots-seen : (c : ℕ → Bool) (s x : ℕ) (f : ℕ → Option RowVersion) (k n j : ℕ) (v : RowVersion) (rest : List Placed) → k ≤ j → j < k + n → f j ≡ Some v → is_visible c s v ≡ true
    → ((i : ℕ) → k ≤ i → i < j → sees c s (f i) ≡ false) → first_seen c s (in_slots x f k n ++ rest) ≡ Some (put x j v)
slots-seen c s x f k zero j v rest l h e seen none = absurd (omega arith)
slots-seen c s x f k (suc n) j v rest l h e seen none = elim (cases_eq k j) [
  | inl i ↦ ap (λ o. first_seen c s ((in_slot x k o ++ in_slots x f (suc k) n) ++ rest)) (ap f i ∙ e)
      ∙ ap (λ b. if b then Some (put x k v) else first_seen c s (in_slots x f (suc k) n ++ rest)) seen
      ∙ ap (λ y. Some (put x y v)) i
  | inr d ↦ ap (first_seen c s) (append_assoc (in_slot x k (f k)) (in_slots x f (suc k) n) rest)
      ∙ seen-behind c s (in_slot x k (f k)) (in_slots x f (suc k) n ++ rest) (one-unseen c s x k (f k) (none k (omega arith) (omega arith)))
      ∙ slots-seen c s x f (suc k) n j v rest (omega arith) (omega arith) e seen (λ i p q. none i (omega arith) q)
]

-- a version stands in one of the slots
pub held-small : (a : Space) (columns x j : ℕ) (held : ℕ → Option RowVersion) (v : RowVersion) → HoldsVersions a columns x held → held j ≡ Some v → j < most_slots
held-small a columns x j held v h e = go (record_at h.page j) refl (subst (Shows columns (record_at h.page j)) e (h.each j))
  where
    go : (o : Option (List ℕ)) → record_at h.page j ≡ o → Shows columns o (Some v) → j < most_slots
    go None is s = absurd s
    go (Some r) is s = slot_small h.page r j h.slotted is

-- what was found is what is said of it
pub finds_by : (o p : Option Placed) (found : Option Place) (old new : List Value) → o ≡ p → Finds p found old new → Finds o found old new
finds_by o p found old new e f = subst (λ z. Finds z found old new) (sym e) f

-- a slot of which the version is seen
pub seen_slot : (c : ℕ → Bool) (s : ℕ) (page : List ℕ) (columns : ℕ) (held : ℕ → Option RowVersion) (from j : ℕ) (row : List Value) → from ≤ j → Shows columns (record_at page j) (held j)
    → ((k : ℕ) → from ≤ k → k < j → sees c s (held k) ≡ false)
    → ((v : Option RowVersion) → Shows columns (record_at page j) v → true ≡ sees c s v)
    → ((v : Option RowVersion) → Shows columns (record_at page j) v → IfSome v (λ w. row ≡ w.row)) → IsFirstSeen c s held from j row
seen_slot c s page columns held from j row l shows none seen read = go (held j) refl shows
  where
    go : (o : Option RowVersion) → held j ≡ o → Shows columns (record_at page j) o → IsFirstSeen c s held from j row
    go None e h = absurd (false≢true (sym (seen None h)))
    go (Some v) e h = record { behind = l; version = v; stands = e; seen = sym (seen (Some v) h); row_is = read (Some v) h; none = none }

-- the first seen version of a page from a slot on, and what follows
pub page_seen : (a : Space) (columns x from n j : ℕ) (held : ℕ → Option RowVersion) (c : ℕ → Bool) (s : ℕ) (rest : List Placed) (old new : List Value)
    → HoldsVersions a columns x held → from + n ≡ most_slots → IsFirstSeen c s held from j new
    → Finds (first_seen c s (in_slots x held from n ++ rest)) (Some (record { page = x; slot = j })) old new
page_seen a columns x from n j held c s rest old new h e f =
    let small = held-small a columns x j held f.version h f.stands in
    finds_by (first_seen c s (in_slots x held from n ++ rest)) (Some (put x j f.version)) (Some (record { page = x; slot = j })) old new
    (slots-seen c s x held from n j f.version rest f.behind (omega arith) f.stands f.seen f.none)
    (refl, f.row_is)

-- ---- the way along the pages

-- Pages of a line were passed on which nothing is seen, and the rest is still to come.
pub record Sought (a : Space) (start : Option ℕ) (columns : ℕ) (r : HoldsRowsOf a start columns) (c : ℕ → Bool) (s : ℕ) (next : Option ℕ) (turn : ℕ) : Type 0 where
  pub done : List ℕ
  pub rest : List ℕ
  pub is : r.pages ≡ done ++ rest
  pub count : length done ≡ turn
  pub path : IsPath Main a.next next rest
  pub none : first_seen c s (in_pages r.held done) ≡ None

pub sought_none : (a : Space) (start : Option ℕ) (columns : ℕ) (r : HoldsRowsOf a start columns) (c : ℕ → Bool) (s : ℕ) → Sought a start columns r c s start 0
sought_none a start columns r c s = record { done = []; rest = r.pages; is = refl; count = refl; path = r.line.path; none = refl }

-- the page that comes next
pub record IsSought (a : Space) (start : Option ℕ) (columns : ℕ) (r : HoldsRowsOf a start columns) (c : ℕ → Bool) (s : ℕ) (x turn : ℕ) : Type 0 where
  pub done : List ℕ
  pub rest : List ℕ
  pub is : r.pages ≡ done ++ x ∷ rest
  pub count : length done ≡ turn
  pub path : IsPath Main a.next (a.next (key_in Main x)) rest
  pub none : first_seen c s (in_pages r.held done) ≡ None
  pub among : has_page r.pages x ≡ true
  pub holds : HoldsVersions a columns x (r.held x)

pub sought_page : (a : Space) (start : Option ℕ) (columns : ℕ) (r : HoldsRowsOf a start columns) (c : ℕ → Bool) (s : ℕ) (x turn : ℕ) → Sought a start columns r c s (Some x) turn
    → IsSought a start columns r c s x turn
sought_page a start columns r c s x turn p = go p.done p.rest p.is p.count p.path p.none
  where
    go : (done rest : List ℕ) → r.pages ≡ done ++ rest → length done ≡ turn → IsPath Main a.next (Some x) rest → first_seen c s (in_pages r.held done) ≡ None → IsSought a start columns r c s x turn
    go done [] e k p n = absurd (let z : ◌≡◌ {A = Option ℕ} (Some x) None = p in cc)
    go done (y ∷ rest) e k p n =
        let i : y ≡ x = some_same y x (sym p.0) in
        let is : r.pages ≡ done ++ x ∷ rest = e ∙ ap (λ z. done ++ z ∷ rest) i in
        let among : has_page r.pages x ≡ true = ap (λ zs. has_page zs x) is ∙ has_next done x rest in
        record {
          done = done;
          rest = rest;
          is = is;
          count = k;
          path = subst (λ z. IsPath Main a.next (a.next (key_in Main z)) rest) i p.1;
          none = n;
          among = among;
          holds = all_has (λ z. HoldsVersions a columns z (r.held z)) r.pages x r.holds among;
        }

-- it holds the same behind looks
pub plain_now : (a b : Space) (x : ℕ) → Looks a b → IsPlain a (key_in Main x) → IsPlain b (key_in Main x)
plain_now a b x l p = let same : IsSamePage a b (key_in Main x) = looks_page a b x l p in
    record { taken = same.taken ∙ p.taken; no_heap = same.of_heap ∙ p.no_heap }

pub holds_now : (a b : Space) (columns x : ℕ) (held : ℕ → Option RowVersion) → Looks a b → IsPlain a (key_in Main x) → HoldsVersions a columns x held → HoldsVersions b columns x held
holds_now a b columns x held l p h = holds-same a b columns x held (looks_page a b x l p).bytes h

pub sought_holds : (a b : Space) (start : Option ℕ) (columns : ℕ) (r : HoldsRowsOf a start columns) (c : ℕ → Bool) (s : ℕ) (x turn : ℕ) → Looks a b → IsSought a start columns r c s x turn
    → HoldsVersions b columns x (r.held x)
sought_holds a b start columns r c s x turn l p =
    holds_now a b columns x (r.held x) l (all_has (λ y. IsPlain a (key_in Main y)) r.pages x (line-plain Main a start r.pages r.line) p.among) p.holds

pub sought_found : (a b : Space) (start : Option ℕ) (columns : ℕ) (r : HoldsRowsOf a start columns) (c : ℕ → Bool) (s : ℕ) (x j turn : ℕ) (old mid new : List Value) → Looks a b
    → Sought a start columns r c s (Some x) turn
    → ((held : ℕ → Option RowVersion) → HoldsVersions b columns x held → IsNextSeen c s held 0 (Some j) mid new)
    → Finds (first_seen c s (in_pages r.held r.pages)) (Some (record { page = x; slot = j })) old new
sought_found a b start columns r c s x j turn old mid new l p known =
    let n : IsSought a start columns r c s x turn = sought_page a start columns r c s x turn p in
    finds_by (first_seen c s (in_pages r.held r.pages)) (first_seen c s (in_slots x (r.held x) 0 most_slots ++ in_pages r.held n.rest)) (Some (record { page = x; slot = j })) old new
    (ap (λ zs. first_seen c s (in_pages r.held zs)) n.is
    ∙ ap (first_seen c s) (pages-both r.held n.done (x ∷ n.rest))
    ∙ seen-behind c s (in_pages r.held n.done) (in_pages r.held (x ∷ n.rest)) n.none)
    (page_seen a columns x 0 most_slots j (r.held x) c s (in_pages r.held n.rest) old new n.holds (omega arith) (known (r.held x) (sought_holds a b start columns r c s x turn l n)))

pub sought_passed : (a b d : Space) (start : Option ℕ) (columns : ℕ) (r : HoldsRowsOf a start columns) (c : ℕ → Bool) (s : ℕ) (x turn : ℕ) (old new : List Value) → Looks a b → Looks b d
    → Sought a start columns r c s (Some x) turn
    → ((held : ℕ → Option RowVersion) → HoldsVersions b columns x held → IsNextSeen c s held 0 None old new)
    → Sought a start columns r c s (d.next (key_in Main x)) (turn + 1)
sought_passed a b d start columns r c s x turn old new l m p known =
    let n : IsSought a start columns r c s x turn = sought_page a start columns r c s x turn p in
    let plain : IsPlain a (key_in Main x) = all_has (λ y. IsPlain a (key_in Main y)) r.pages x (line-plain Main a start r.pages r.line) n.among in
    let same : d.next (key_in Main x) ≡ a.next (key_in Main x) = (looks_page a d x (looks_then a b d l m) plain).next in
    let unseen = (known (r.held x) (sought_holds a b start columns r c s x turn l n)).0 in
    record {
      done = n.done ++ x ∷ [];
      rest = n.rest;
      is = n.is ∙ sym (append_assoc n.done (x ∷ []) n.rest);
      count = let k = n.count in omega (arith, length-append n.done (x ∷ []));
      path = subst (λ o. IsPath Main a.next o n.rest) (sym same) n.path;
      none = ap (first_seen c s) (pages-both r.held n.done (x ∷ []))
          ∙ seen-behind c s (in_pages r.held n.done) (in_pages r.held (x ∷ [])) n.none
          ∙ ap (first_seen c s) (append-nil (in_slots x (r.held x) 0 most_slots))
          ∙ slots-unseen c s x (r.held x) 0 most_slots unseen;
    }

pub sought_ended : (a : Space) (start : Option ℕ) (columns : ℕ) (r : HoldsRowsOf a start columns) (c : ℕ → Bool) (s turn : ℕ) (old new : List Value) → new ≡ old
    → Sought a start columns r c s None turn → Finds (first_seen c s (in_pages r.held r.pages)) None old new
sought_ended a start columns r c s turn old new same p =
    finds_by (first_seen c s (in_pages r.held r.pages)) None None old new (go p.rest p.is p.path) (refl, same)
  where
    go : (rest : List ℕ) → r.pages ≡ p.done ++ rest → IsPath Main a.next None rest → first_seen c s (in_pages r.held r.pages) ≡ None
    go [] e q = ap (λ zs. first_seen c s (in_pages r.held zs)) (e ∙ append-nil p.done) ∙ p.none
    go (y ∷ rest) e q = absurd (let z : ◌≡◌ {A = Option ℕ} None (Some y) = q.0 in cc)

-- after as many turns as pages are taken the line has ended
pub sought_all : (a : Space) (start : Option ℕ) (columns : ℕ) (r : HoldsRowsOf a start columns) (c : ℕ → Bool) (s turn : ℕ) (next : Option ℕ) (old new : List Value) → taken_in a Main ≤ turn → new ≡ old
    → Sought a start columns r c s next turn → Finds (first_seen c s (in_pages r.held r.pages)) None old new
sought_all a start columns r c s turn None old new l same p = sought_ended a start columns r c s turn old new same p
sought_all a start columns r c s turn (Some x) old new l same p =
    let n : IsSought a start columns r c s x turn = sought_page a start columns r c s x turn p in
    let few : length r.pages ≤ taken_in a Main = line_few Main a start r.pages r.line in
    let long : length r.pages ≡ length (n.done ++ x ∷ n.rest) = ap length n.is in
    let k : length n.done ≡ turn = n.count in
    absurd (omega (arith, length-append n.done (x ∷ n.rest)))

-- ---- from a place on

pub way_plain : (a : Space) (t : Table) (pages : List ℕ) (x : ℕ) → IsChain a t pages → has_page pages x ≡ true → IsPlain a (key_in Main x)
way_plain a t pages x chain on = all_has (λ y. IsPlain a (key_in Main y)) pages x (line-plain Main a t.first pages chain.line) on

pub place_rows : (a : Space) (t : Table) (columns : ℕ) (pages : List ℕ) (versions : List Placed) (x : ℕ) → (table : IsTable a t columns pages versions) → has_page pages x ≡ true
    → HoldsVersions a columns x (table.held x)
place_rows a t columns pages versions x table on = all_has (λ y. HoldsVersions a columns y (table.held y)) pages x table.holds on

pub on_other : (a : Space) (t : Table) (ps qs : List ℕ) (x : ℕ) → IsChain a t ps → IsChain a t qs → has_page ps x ≡ true → has_page qs x ≡ true
on_other a t ps qs x p q on = subst (λ zs. has_page zs x ≡ true) (one_chain a t ps qs p q) on

-- the rows of a whole table, and of the pages behind one
abbrev pub table_rows : (a : Space) (t : Table) (columns : ℕ) (pages : List ℕ) (versions : List Placed) → IsTable a t columns pages versions → HoldsRowsOf a t.first columns
table_rows a t columns pages versions table = record { pages = pages; held = table.held; line = table.chain.line; holds = table.holds }

-- the next version is on the page itself
pub seen_here : (a : Space) (t : Table) (columns : ℕ) (pages : List ℕ) (versions : List Placed) (p : Place) (j : ℕ) (c : ℕ → Bool) (s : ℕ) (old new : List Value)
    → IsTable a t columns pages versions → has_page pages p.page ≡ true
    → ((held : ℕ → Option RowVersion) → HoldsVersions a columns p.page held → IsNextSeen c s held (p.slot + 1) (Some j) old new)
    → Finds (first_seen c s (behind pages (Some p) versions)) (Some (record { page = p.page; slot = j })) old new
seen_here a t columns pages versions p j c s old new table on known =
    let h : HoldsVersions a columns p.page (table.held p.page) = place_rows a t columns pages versions p.page table on in
    let f : IsFirstSeen c s (table.held p.page) (p.slot + 1) j new = known (table.held p.page) h in
    let next : p.slot + 1 ≡ suc p.slot = omega arith in
    let g : IsFirstSeen c s (table.held p.page) (suc p.slot) j new = subst (λ k. IsFirstSeen c s (table.held p.page) k j new) next f in
    let small = held-small a columns p.page j (table.held p.page) f.version h f.stands in
    let le = g.behind in
    let e : suc p.slot + (most_slots - suc p.slot) ≡ most_slots = omega arith in
    finds_by (first_seen c s (behind pages (Some p) versions)) (first_seen c s (in_slots p.page (table.held p.page) (suc p.slot) (most_slots - suc p.slot) ++ in_pages table.held (pages_behind pages p.page)))
    (Some (record { page = p.page; slot = j })) old new
    (ap (first_seen c s) (behind_is a t columns pages versions p table on)
    ∙ ap (λ vs. first_seen c s (vs ++ in_pages table.held (pages_behind pages p.page))) (slots_after-is table.held p (most_slots - suc p.slot) e))
    (page_seen a columns p.page (suc p.slot) (most_slots - suc p.slot) j (table.held p.page) c s (in_pages table.held (pages_behind pages p.page)) old new h e g)

-- none is left on it, and the search goes on behind it
pub seen_later : (a : Space) (t : Table) (columns : ℕ) (pages : List ℕ) (versions : List Placed) (p : Place) (next : Option Place) (c : ℕ → Bool) (s : ℕ) (old mid new : List Value)
    → (table : IsTable a t columns pages versions) → has_page pages p.page ≡ true
    → ((held : ℕ → Option RowVersion) → HoldsVersions a columns p.page held → IsNextSeen c s held (p.slot + 1) None old mid)
    → Finds (first_seen c s (in_pages table.held (pages_behind pages p.page))) next mid new
    → Finds (first_seen c s (behind pages (Some p) versions)) next old new
seen_later a t columns pages versions p next c s old mid new table on known f =
    let h : HoldsVersions a columns p.page (table.held p.page) = place_rows a t columns pages versions p.page table on in
    let k = known (table.held p.page) h in
    let none : first_seen c s (slots_after table.held p) ≡ None = elim (cases_lt p.slot most_slots) [
      | inl l ↦ ap (first_seen c s) (slots_after-is table.held p (most_slots - suc p.slot) (omega arith))
          ∙ slots-unseen c s p.page (table.held p.page) (suc p.slot) (most_slots - suc p.slot) (λ i m. k.0 i (omega arith))
      | inr l ↦ ap (first_seen c s) (slots_after-none table.held p (omega arith))
    ] in
    finds_by (first_seen c s (behind pages (Some p) versions)) (first_seen c s (in_pages table.held (pages_behind pages p.page))) next old new
    (ap (first_seen c s) (behind_is a t columns pages versions p table on)
    ∙ seen-behind c s (slots_after table.held p) (in_pages table.held (pages_behind pages p.page)) none)
    (subst (λ z. Finds (first_seen c s (in_pages table.held (pages_behind pages p.page))) next z new) k.1 f)

-- the rows of the pages behind one
abbrev pub rest_rows : (a b : Space) (t : Table) (columns : ℕ) (pages : List ℕ) (versions : List Placed) (x : ℕ) (next : Option ℕ) → Looks a b
    → IsTable a t columns pages versions → has_page pages x ≡ true → next ≡ b.next (key_in Main x) → HoldsRowsOf b next columns
rest_rows a b t columns pages versions x next k table on e =
    let h = rest_line a b t columns pages versions x next k table on e in
    record { pages = h.pages; held = h.held; line = h.line; holds = h.holds }

-- the page that is named is one of them
pub names_on : (pages : List ℕ) (x : ℕ) (f : PageFault) → has_page pages x ≡ true → NamesPage x f → NamesOneOf pages f
names_on pages x fault.MainFault on h = tt
names_on pages x fault.TempFault on h = tt
names_on pages x fault.MainFull on h = tt
names_on pages x fault.TempFull on h = tt
names_on pages x (fault.Damaged page check) on h = subst (λ p. (p ≡ main_page p.no) × IsTrue (has_page pages p.no)) (sym h) (refl, on)

pub names_behind : (pages : List ℕ) (x : ℕ) (f : PageFault) → NamesOneOf (pages_behind pages x) f → NamesOneOf pages f
names_behind pages x fault.MainFault h = tt
names_behind pages x fault.TempFault h = tt
names_behind pages x fault.MainFull h = tt
names_behind pages x fault.TempFull h = tt
names_behind pages x (fault.Damaged page check) h =
    (h.0, all_has (λ y. has_page pages y ≡ true) (pages_behind pages x) page.no (behind_all (λ y. has_page pages y ≡ true) pages x (has_own pages)) h.1)
