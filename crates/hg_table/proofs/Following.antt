-- The versions behind a place of a table.
use Rattle.std.specs.Prelude.{◌≡◌, ℕ, ◌+◌, ◌-◌, ◌<◌, ◌≤◌, suc, true, List, [], ◌++◌, Option, Some, None}
use Rattle.std.specs.List.{AllByRecursion, filter}
use Rattle.std.proofs.Common.{sym, ◌∙◌, ap, subst, arith, inl, inr}
use Rattle.std.proofs.lemmas.Bool.{cases_lt}
use Rattle.hg_base.specs.Space.{Space, NoPins, key_in}
use Rattle.hg_base.specs.LineLaws.{IsSameLink, all_has, all_map, behind_all, distinct-apart, line-plain, line_behind, line_free, line_stays}
use Rattle.hg_base.specs.Lines.{IsLine, has_page, pages_behind}
use Rattle.hg_base.specs.Steadiness.{IsPlain, IsSamePage}
use Rattle.hg_base.specs.declared.File.TheVariants.{Main}
use Rattle.hg_base.specs.declared.Place.{Place}
use Rattle.hg_base.specs.declared.Table.{Table}
use Rattle.hg_slot.specs.Slotted.{record_at}
use Rattle.hg_table.specs.Chains.{IsChain}
use Rattle.hg_table.specs.Versions.{Placed, HoldsVersions, IsTable, in_pages, most_slots}
use Rattle.hg_table.specs.Places.{behind, comes_behind, first_place}
use Rattle.hg_table.specs.Calls.{HasStart, StandsOn}
use Rattle.hg_table.specs.Steps.{Looks, HoldsLine, IsSound, IsFirstFull}
use Rattle.hg_table.specs.Listing.{has_own, pages_after, slots_after, slots_after-is, slots_after-none}
use Rattle.hg_table.specs.TableLaws.{holds_stay, one_chain}
use Rattle.hg_table.proofs.Seeing.{slot_small}
use Rattle.hg_table.proofs.Walking.{looks_page, first_held, none_held}

-- the pages of a table as a line
abbrev pub table_line : (s : Space) (t : Table) (columns : ℕ) (pages : List ℕ) (versions : List Placed) → IsTable s t columns pages versions → HoldsLine s t.first
table_line s t columns pages versions table = record {
  columns = columns;
  pages = pages;
  held = table.held;
  told = table.told;
  line = table.chain.line;
  holds = table.holds;
}

pub start_line : (s : Space) (t : Table) (start : Option Place) → HasStart s t start → HoldsLine s t.first
start_line s t start h = table_line s t h.columns h.pages h.versions h.table

pub looks_all : (a b : Space) (from : Option ℕ) (xs : List ℕ) → Looks a b → IsLine Main a from xs → AllByRecursion (λ x. IsSamePage a b (key_in Main x)) xs
looks_all a b from xs k l = all_map (λ x. IsPlain a (key_in Main x)) (λ x. IsSamePage a b (key_in Main x)) xs (λ x p. looks_page a b x k p) (line-plain Main a from xs l)

-- what was a line is one behind a look
pub line_now : (a b : Space) (from : Option ℕ) (xs : List ℕ) → Looks a b → IsLine Main a from xs → IsLine Main b from xs
line_now a b from xs k l =
    line_stays Main a b from xs k.steady.limit
    (all_map (λ x. IsSamePage a b (key_in Main x)) (λ x. IsSameLink a b (key_in Main x)) xs (λ x s. record { taken = s.taken; of_heap = s.of_heap; next = s.next }) (looks_all a b from xs k l)) l

-- the rest of a table behind one of its pages
abbrev pub rest_line : (a b : Space) (t : Table) (columns : ℕ) (pages : List ℕ) (versions : List Placed) (x : ℕ) (next : Option ℕ) → Looks a b
    → IsTable a t columns pages versions → has_page pages x ≡ true → next ≡ b.next (key_in Main x) → HoldsLine b next
rest_line a b t columns pages versions x next k table on e =
    let plain : IsPlain a (key_in Main x) = all_has (λ y. IsPlain a (key_in Main y)) pages x (line-plain Main a t.first pages table.chain.line) on in
    let l : IsLine Main a (a.next (key_in Main x)) (pages_behind pages x) = line_behind Main a t.first pages x on table.chain.line in
    let same : a.next (key_in Main x) ≡ next = sym (e ∙ (looks_page a b x k plain).next) in
    record {
      columns = columns;
      pages = pages_behind pages x;
      held = table.held;
      told = k.steady.told ∙ table.told;
      line = subst (λ o. IsLine Main b o (pages_behind pages x)) same (line_now a b (a.next (key_in Main x)) (pages_behind pages x) k l);
      holds = holds_stay a b columns table.held (pages_behind pages x) (looks_all a b (a.next (key_in Main x)) (pages_behind pages x) k l)
          (behind_all (λ y. HoldsVersions a columns y (table.held y)) pages x table.holds);
    }

-- the pages behind one of a table's, whatever they hold
pub line_rest : (a b : Space) (t : Table) (pages : List ℕ) (x : ℕ) (next : Option ℕ) → Looks a b → IsChain a t pages → has_page pages x ≡ true
    → next ≡ b.next (key_in Main x) → IsLine Main b next (pages_behind pages x)
line_rest a b t pages x next k chain on e =
    let plain : IsPlain a (key_in Main x) = all_has (λ y. IsPlain a (key_in Main y)) pages x (line-plain Main a t.first pages chain.line) on in
    let same : a.next (key_in Main x) ≡ next = sym (e ∙ (looks_page a b x k plain).next) in
    subst (λ o. IsLine Main b o (pages_behind pages x)) same
    (line_now a b (a.next (key_in Main x)) (pages_behind pages x) k (line_behind Main a t.first pages x on chain.line))

-- what is on a page behind one is on one of all
pub stands_behind : (pages : List ℕ) (x : ℕ) (o : Option Place) → StandsOn (pages_behind pages x) o → StandsOn pages o
stands_behind pages x None h = tt
stands_behind pages x (Some p) h = all_has (λ y. has_page pages y ≡ true) (pages_behind pages x) p.page (behind_all (λ y. has_page pages y ≡ true) pages x (has_own pages)) h

-- the page of the place may be looked at
pub place_sound : (a : Space) (t : Table) (p : Place) → NoPins a → HasStart a t (Some p) → IsSound a p.page
place_sound a t p out h =
    let holds : HoldsVersions a h.columns p.page (h.table.held p.page) = all_has (λ y. HoldsVersions a h.columns y (h.table.held y)) h.pages p.page h.table.holds h.page in
    record { free = line_free Main a t.first h.pages p.page out h.table.chain.line h.page; page = holds.page; told = holds.told; slotted = holds.slotted }

pub start_on : (a : Space) (t : Table) (columns : ℕ) (pages : List ℕ) (versions : List Placed) (p : Place) → IsTable a t columns pages versions → HasStart a t (Some p)
    → has_page pages p.page ≡ true
start_on a t columns pages versions p table h =
    let page : has_page h.pages p.page ≡ true = h.page in
    subst (λ ps. has_page ps p.page ≡ true) (one_chain a t h.pages pages h.table.chain table.chain) page

-- all versions are behind no place
pub first_of_table : (a : Space) (t : Table) (columns : ℕ) (pages : List ℕ) (versions : List Placed) (next : Option Place) → (table : IsTable a t columns pages versions)
    → next ≡ first_place (in_pages table.held pages) → next ≡ first_place (behind pages None versions)
first_of_table a t columns pages versions next table e = e ∙ ap first_place (sym table.listed)

pub behind_is : (a : Space) (t : Table) (columns : ℕ) (pages : List ℕ) (versions : List Placed) (p : Place) → (table : IsTable a t columns pages versions) → has_page pages p.page ≡ true
    → behind pages (Some p) versions ≡ slots_after table.held p ++ in_pages table.held (pages_behind pages p.page)
behind_is a t columns pages versions p table on =
    ap (filter (comes_behind (pages_behind pages p.page) p)) table.listed
    ∙ pages_after table.held pages p (distinct-apart Main a.taken (a.limit Main) pages table.chain.line.taken) on

full_from : (page : List ℕ) (m n j : ℕ) → m ≡ n → IsFirstFull page m j → IsFirstFull page n j
full_from page m n j e f = subst (λ k. IsFirstFull page k j) e f

-- the next version stands on the same page
pub next_here : (a : Space) (t : Table) (columns : ℕ) (pages : List ℕ) (versions : List Placed) (p : Place) (j : ℕ) → IsTable a t columns pages versions → has_page pages p.page ≡ true
    → ((page : List ℕ) → a.bytes (key_in Main p.page) ≡ Some page → IsFirstFull page (p.slot + 1) j)
    → Some (record { page = p.page; slot = j }) ≡ first_place (behind pages (Some p) versions)
next_here a t columns pages versions p j table on known =
    let h : HoldsVersions a columns p.page (table.held p.page) = all_has (λ y. HoldsVersions a columns y (table.held y)) pages p.page table.holds on in
    let f : IsFirstFull h.page (suc p.slot) j = full_from h.page (p.slot + 1) (suc p.slot) j (omega arith) (known h.page h.told) in
    let small : j < most_slots = slot_small h.page f.shown j h.slotted f.full in
    let behind_it : suc p.slot ≤ j = f.behind in
    let e : suc p.slot + (most_slots - suc p.slot) ≡ most_slots = omega arith in
    sym (ap first_place (behind_is a t columns pages versions p table on)
    ∙ ap (λ vs. first_place (vs ++ in_pages table.held (pages_behind pages p.page))) (slots_after-is table.held p (most_slots - suc p.slot) e)
    ∙ first_held a columns p.page (suc p.slot) j (most_slots - suc p.slot) (table.held p.page) (in_pages table.held (pages_behind pages p.page)) h f e)

-- no version is left on the page, and the next one stands behind it
pub next_behind : (a : Space) (t : Table) (columns : ℕ) (pages : List ℕ) (versions : List Placed) (p : Place) (next : Option Place) → (table : IsTable a t columns pages versions)
    → has_page pages p.page ≡ true
    → ((page : List ℕ) → a.bytes (key_in Main p.page) ≡ Some page → (k : ℕ) → p.slot + 1 ≤ k → record_at page k ≡ None)
    → next ≡ first_place (in_pages table.held (pages_behind pages p.page)) → next ≡ first_place (behind pages (Some p) versions)
next_behind a t columns pages versions p next table on known e =
    let h : HoldsVersions a columns p.page (table.held p.page) = all_has (λ y. HoldsVersions a columns y (table.held y)) pages p.page table.holds on in
    let none : slots_after table.held p ≡ [] = elim (cases_lt p.slot most_slots) [
      | inl l ↦ slots_after-is table.held p (most_slots - suc p.slot) (omega arith)
          ∙ none_held a columns p.page (suc p.slot) (most_slots - suc p.slot) (table.held p.page) h (λ k m. known h.page h.told k (omega arith))
      | inr l ↦ slots_after-none table.held p (omega arith)
    ] in
    e ∙ sym (ap first_place (behind_is a t columns pages versions p table on) ∙ ap (λ vs. first_place (vs ++ in_pages table.held (pages_behind pages p.page))) none)
