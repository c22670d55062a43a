-- A version that was put into a table: on its last page, or on a new page behind it.
use Rattle.std.specs.Prelude.{◌≡◌, ◌≢◌, ℕ, ◌^◌, ◌<◌, ◌==◌, ◌||◌, Bool, true, false, List, [], ◌∷◌, ◌++◌, length, Option, Some, None, is_some, if◌then◌else◌}
use Rattle.std.specs.List.{AllByRecursion}
use Rattle.std.proofs.Common.{sym, ◌∙◌, ap, subst, refl, arith, inl, inr}
use Rattle.std.proofs.lemmas.Bool.{false≢true, eq-eqb}
use Rattle.hg_base.specs.Space.{Space, NoPins, at, key_in, with_next}
use Rattle.hg_base.specs.LineLaws.{all_has, distinct-apart, line-plain}
use Rattle.hg_base.specs.Lines.{has_page, last_of}
use Rattle.hg_base.specs.TakenLaws.{key_in-one}
use Rattle.hg_base.specs.Steadiness.{IsPlain, IsSamePage, Steady}
use Rattle.hg_base.specs.SteadyLaws.{Steady_then, Steady_wider, Later_same}
use Rattle.hg_base.specs.declared.File.TheVariants.{Main}
use Rattle.hg_base.specs.declared.Place.{Place}
use Rattle.hg_base.specs.declared.Table.{Table}
use Rattle.std.specs.Int.{w32, to_le_bytes}
use Rattle.hg_model.specs.declared.values.Value.{Value}
use Rattle.hg_value.specs.Coding.{coded, IsStorable, IsRowOf}
use Rattle.hg_slot.specs.Slotted.{IsSlotted, record_at}
use Rattle.hg_table.specs.Chains.{IsChain}
use Rattle.hg_table.specs.Versions.{Placed, RowVersion, HoldsVersions, IsStored, IsTable, Shows, in_pages, most_slots}
use Rattle.hg_table.specs.Calls.{HasTable, none_mine, page_mine, insert_mine, IsNamed, Inserts, IsTableWith, PutsIn, KeepsPages, AddsPage, HasNoRoom, newborn}
use Rattle.hg_table.specs.Steps.{ChangesPage, Changes, Puts, HoldsRecord, MakesPage, AddsRecord, LeadsTo, Looks}
use Rattle.hg_table.specs.Listing.{put}
use Rattle.hg_table.specs.Altering.{with_slot, at_here, at_other, pages_put}
use Rattle.hg_table.specs.TableLaws.{chain_stays}
use Rattle.hg_table.proofs.Seeing.{slot_small}
use Rattle.hg_table.proofs.Walking.{shown_none, looks_page}
use Rattle.hg_table.proofs.Changed.{ChangesSlot, changed_table, changed_chain}

-- the last page is one of the pages
pub last_has : (xs : List ℕ) (x : ℕ) → last_of xs ≡ Some x → has_page xs x ≡ true
last_has [] x e = absurd (let n : ◌≡◌ {A = Option ℕ} None (Some x) = e in cc)
last_has (y ∷ []) x e = let i : y ≡ x = (let n : ◌≡◌ {A = Option ℕ} (Some y) (Some x) = e in cc) in ap (λ t. t || false) (eq-eqb y x i)
last_has (y ∷ z ∷ xs) x e = or_yes (y == x) (has_page (z ∷ xs) x) (last_has (z ∷ xs) x e)
  where
    or_yes : (p q : Bool) → q ≡ true → (p || q) ≡ true
    or_yes true q e = refl
    or_yes false q e = e

puts_slot : (columns j : ℕ) (r : List ℕ) (v : RowVersion) (old new : List ℕ) → IsStored columns r v → IsSlotted old → Puts old new r j → ChangesSlot columns j (Some v) old new
puts_slot columns j r v old new s was p = let i = p.inserted was in record {
  slotted = i.slotted;
  clean = i.clean;
  here = subst (λ o. Shows columns o (Some v)) (sym i.here) s;
  others = i.others;
}

length-stamp : (n : ℕ) → length (to_le_bytes w32 n) ≡ 4
length-stamp n = refl

-- a stored version is its two stamps and its row
pub stored_parts : (front bytes : List ℕ) (row : List Value) (born : ℕ) → front ≡ to_le_bytes w32 born ++ to_le_bytes w32 0 → born < 2 ^ 32 → bytes ≡ coded row → IsStorable row
    → IsStored (length row) (front ++ bytes) (record { born = born; died = None; row = row })
stored_parts front bytes row born e small b storable =
    subst (λ f. IsStored (length row) (f ++ bytes) (record { born = born; died = None; row = row })) (sym e)
    (subst (λ c. IsStored (length row) ((to_le_bytes w32 born ++ to_le_bytes w32 0) ++ c) (record { born = born; died = None; row = row })) (sym b)
    (record { stamp = small; end = tt; born = refl; died = refl; row = record { storable = storable; count = refl; spelled = refl } }))

pub front-long : (front : List ℕ) (born : ℕ) → front ≡ to_le_bytes w32 born ++ to_le_bytes w32 0 → length front ≡ 8
front-long front born e = ap length e

-- a version on a page that is there
pub put_table : (a b : Space) (t : Table) (columns : ℕ) (pages : List ℕ) (versions : List Placed) (x j : ℕ) (r : List ℕ) (v : RowVersion)
    → has_page pages x ≡ true → ChangesPage a b x (λ old new. Puts old new r j) → IsStored columns r v
    → IsTable a t columns pages versions → IsTableWith b t columns pages versions (put x j v)
put_table a b t columns pages versions x j r v on c s table =
    let h : HoldsVersions a columns x (table.held x) = all_has (λ y. HoldsVersions a columns y (table.held y)) pages x table.holds on in
    let k : Changes b x (λ new. Puts h.page new r j) = c.bytes h.page h.told in
    let none : table.held x j ≡ None = shown_none columns (record_at h.page j) (table.held x j) (k.holds.inserted h.slotted).was_empty (h.each j) in
    let i = k.holds.inserted h.slotted in
    let small : j < most_slots = slot_small k.page r j i.slotted i.here in
    record {
      versions = in_pages (with_slot table.held x j (Some v)) pages;
      puts = subst (λ vs. PutsIn vs (in_pages (with_slot table.held x j (Some v)) pages) (put x j v)) (sym table.listed)
          (pages_put table.held pages x j v (distinct-apart Main a.taken (a.limit Main) pages table.chain.line.taken) on small none);
      table = changed_table a b t columns x j (Some v) pages versions (in_pages (with_slot table.held x j (Some v)) pages) (λ old new. Puts old new r j)
          c (λ old new was p. puts_slot columns j r v old new s was p) table refl;
    }

pub inserts_last : (a b : Space) (t : Table) (x j : ℕ) (r : List ℕ) (row : List Value) (born : ℕ) → t.last ≡ Some x
    → ChangesPage a b x (λ old new. Puts old new r j) → IsStored (length row) r (record { born = born; died = None; row = row })
    → (pages : List ℕ) → IsChain a t pages → Inserts a b t t pages (newborn row born (record { page = x; slot = j }))
inserts_last a b t x j r row born last c s pages chain = record {
  now = pages;
  chain = changed_chain a b t pages x (λ old new. Puts old new r j) c chain;
  grown = inl refl;
  table = λ columns versions e table.
      put_table a b t columns pages versions x j r (record { born = born; died = None; row = row }) (last_has pages x (sym chain.last ∙ last)) c
      (subst (λ n. IsStored n r (record { born = born; died = None; row = row })) e s) table;
}

pub keeps_pages : (a b : Space) (t : Table) (x : ℕ) (P : List ℕ → List ℕ → Type 0) → t.last ≡ Some x → ChangesPage a b x P → KeepsPages a b t t x
keeps_pages a b t x P last c = record { last = last; same = refl; taken = c.takes_none.taken }

insert_page : (t : Table) (place : Place) (a b : Space) → Steady (page_mine place.page) a b → Steady (insert_mine t place) a b
insert_page t place a b s = Steady_wider (page_mine place.page) (insert_mine t place) a b (λ q e. inr e) (λ h e. e) (λ q e. e) s

pub last_steady : (a b : Space) (t : Table) (x j : ℕ) (P : List ℕ → List ℕ → Type 0) → ChangesPage a b x P → Steady (insert_mine t (record { page = x; slot = j })) a b
last_steady a b t x j P c = insert_page t (record { page = x; slot = j }) a b c.steady

-- A page behind the last one.

-- a successor that was set
link_steady : (s : Space) (l : ℕ) (to : Option ℕ) → NoPins s → Steady (page_mine l) s (with_next s (key_in Main l) to)
link_steady s l to out = record {
  pins_before = out;
  pins_after = record { none_out = out.none_out; not_pinned = out.not_pinned };
  told = refl;
  limit = refl;
  device_limit = refl;
  pages = λ q n p. record { taken = refl; of_heap = refl; bytes = refl; next = at_other s.next (key_in Main l) q to n };
  taken = λ q n. refl;
  of_heap = λ q n. refl;
  heaps = λ h n. refl;
  current = refl;
  most = refl;
  caps = λ r. refl;
  peaks = λ r n. refl;
  counts = Later_same s.counts;
}

-- a page that is taken is none that was not
apart_taken : (a : Space) (x y : ℕ) → a.taken (key_in Main x) ≡ false → a.taken (key_in Main y) ≡ true → y ≢ x
apart_taken a x y free full e = false≢true (sym free ∙ ap (λ z. a.taken (key_in Main z)) (sym e) ∙ full)

made_beside : (a b : Space) (r : List ℕ) (place : Place) (l : ℕ) → MakesPage a b r place → IsPlain a (key_in Main l) → IsSamePage a b (key_in Main l)
made_beside a b r place l m p =
    m.steady.pages (key_in Main l) (λ q. apart_taken a place.page l m.not_taken p.taken (key_in-one Main l place.page q)) p

pub last_taken : (a b : Space) (r : List ℕ) (place : Place) (l : ℕ) → MakesPage a b r place → IsPlain a (key_in Main l) → b.taken (key_in Main l) ≡ true
last_taken a b r place l m p = (made_beside a b r place l m p).taken ∙ p.taken

pub last_no_heap : (a b : Space) (r : List ℕ) (place : Place) (l : ℕ) → MakesPage a b r place → IsPlain a (key_in Main l) → b.of_heap (key_in Main l) ≡ false
last_no_heap a b r place l m p = (made_beside a b r place l m p).of_heap ∙ p.no_heap

pub chain_last : (a : Space) (t : Table) (pages : List ℕ) (l : ℕ) → IsChain a t pages → t.last ≡ Some l → IsPlain a (key_in Main l)
chain_last a t pages l chain last = all_has (λ y. IsPlain a (key_in Main y)) pages l (line-plain Main a t.first pages chain.line) (last_has pages l (sym chain.last ∙ last))

pub adds_first : (a b : Space) (old new : Table) (r : List ℕ) (place : Place) → MakesPage a b r place → old.last ≡ None
    → new.first ≡ Some place.page → new.last ≡ Some place.page → AddsRecord a b old new r place
adds_first a b old new r place m none first last = record {
  steady = insert_page old place a b m.steady;
  not_taken = m.not_taken;
  taken = m.taken;
  below_limit = m.below_limit;
  no_heap = m.no_heap;
  no_next = m.no_next;
  bytes = m.bytes;
  first = first ∙ sym (ap (λ (o : Option ℕ). if is_some o then old.first else Some place.page) none);
  last = last;
  linked = subst (λ o. LeadsTo a b o place.page) (sym none) tt;
}

pub adds_next : (a m b : Space) (old new : Table) (r : List ℕ) (place : Place) (l : ℕ) → MakesPage a m r place → IsPlain a (key_in Main l) → old.last ≡ Some l
    → b ≡ with_next m (key_in Main l) (Some place.page) → new.first ≡ old.first → new.last ≡ Some place.page → AddsRecord a b old new r place
adds_next a m b old new r place l k p is_last after first last =
    let x : ℕ = place.page in
    let apart : l ≢ x = apart_taken a x l k.not_taken p.taken in
    let same : IsSamePage a m (key_in Main l) = made_beside a m r place l k p in
    let named : (q : ℕ) → q ≡ key_in Main l → IsNamed old.last q = λ q e. subst (λ o. IsNamed o q) (sym is_last) e in
    let linked : Steady (insert_mine old place) m b =
    subst (Steady (insert_mine old place) m) (sym after)
    (Steady_wider (page_mine l) (insert_mine old place) m (with_next m (key_in Main l) (Some x)) (λ q e. inl (named q e)) (λ h e. e) (λ q e. e)
    (link_steady m l (Some x) k.steady.pins_after)) in
    let far : key_in Main x ≢ key_in Main l = λ q. apart (key_in-one Main l x (sym q)) in
    record {
      steady = Steady_then (insert_mine old place) a m b (insert_page old place a m k.steady) linked;
      not_taken = k.not_taken;
      taken = ap (λ s. s.taken) after ∙ k.taken;
      below_limit = k.below_limit;
      no_heap = ap (λ s. s.of_heap (key_in Main x)) after ∙ k.no_heap;
      no_next = ap (λ s. s.next (key_in Main x)) after ∙ at_other m.next (key_in Main l) (key_in Main x) (Some x) far ∙ k.no_next;
      bytes = λ told. let h : Changes m x (λ page. HoldsRecord page place.slot r) = k.bytes told in record {
        page = h.page;
        told = ap (λ s. s.bytes (key_in Main x)) after ∙ h.told;
        holds = h.holds;
      };
      first = first ∙ sym (ap (λ (o : Option ℕ). if is_some o then old.first else Some x) is_last);
      last = last;
      linked = subst (λ o. LeadsTo a b o x) (sym is_last) (record {
        of_heap = ap (λ s. s.of_heap (key_in Main l)) after ∙ same.of_heap;
        bytes = ap (λ s. s.bytes (key_in Main l)) after ∙ same.bytes;
        next = ap (λ s. s.next (key_in Main l)) after ∙ at_here m.next (key_in Main l) (key_in Main l) (Some x) refl;
      });
    }

-- the same behind a look at pages
linked_behind : (a m b : Space) (o : Option ℕ) (x : ℕ) → Looks a m → ((l : ℕ) → o ≡ Some l → IsPlain a (key_in Main l)) → LeadsTo m b o x → LeadsTo a b o x
linked_behind a m b None x k plain h = tt
linked_behind a m b (Some l) x k plain h =
    let same : IsSamePage a m (key_in Main l) = looks_page a m l k (plain l refl) in
    record { of_heap = h.of_heap ∙ same.of_heap; bytes = h.bytes ∙ same.bytes; next = h.next }

pub adds_behind : (a m b : Space) (old new : Table) (r : List ℕ) (place : Place) → Looks a m → ((l : ℕ) → old.last ≡ Some l → IsPlain a (key_in Main l))
    → AddsRecord m b old new r place → AddsRecord a b old new r place
adds_behind a m b old new r place k plain h = record {
  steady = Steady_then (insert_mine old place) a m b
      (Steady_wider none_mine (insert_mine old place) a m (λ q e. absurd e) (λ q e. e) (λ q e. e) k.steady) h.steady;
  not_taken = sym (ap (λ f. f (key_in Main place.page)) k.takes_none.taken) ∙ h.not_taken;
  taken = h.taken ∙ ap (λ f. at f (key_in Main place.page) true) k.takes_none.taken;
  below_limit = let e : m.limit Main ≡ a.limit Main = ap (λ f. f Main) k.steady.limit in let l = h.below_limit in omega arith;
  no_heap = h.no_heap;
  no_next = h.no_next;
  bytes = λ told. h.bytes (k.steady.told ∙ told);
  first = h.first;
  last = h.last;
  linked = linked_behind a m b old.last place.page k plain h.linked;
}

pub adds_page : (a b : Space) (old new : Table) (r : List ℕ) (place : Place) (n : ℕ) → AddsRecord a b old new r place → HasNoRoom a old.last n → AddsPage a b old new place.page n
adds_page a b old new r place n h full = record { last = h.last; not_taken = h.not_taken; taken = h.taken; full = full }

-- the last page of a table is a slotted page
pub last_page : (a : Space) (t : Table) (l : ℕ) → HasTable a t → t.last ≡ Some l → (page : List ℕ) × (a.bytes (key_in Main l) ≡ Some page) × IsSlotted page
last_page a t l h last =
    let on : HoldsVersions a h.columns l (h.table.held l) =
    all_has (λ y. HoldsVersions a h.columns y (h.table.held y)) h.pages l h.table.holds (last_has h.pages l (sym h.table.chain.last ∙ last)) in
    (on.page, on.told, on.slotted)

none_all : (pages : List ℕ) → AllByRecursion (λ x. ⊥ → ⊥) pages
none_all [] = tt
none_all (x ∷ xs) = (λ n. n, none_all xs)

pub looked_chain : (a m : Space) (t : Table) (pages : List ℕ) → Looks a m → IsChain a t pages → IsChain m t pages
looked_chain a m t pages k chain = chain_stays none_mine a m t pages k.steady (none_all pages) chain
