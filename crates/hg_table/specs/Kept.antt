-- A table that a caller holds between its calls. Our own rule.
use Rattle.std.specs.Prelude.{◌≡◌, ℕ, Bool, true, List, [], ◌∷◌, length, Option, Some, None, IsTrue, MatchOption, ⊤, if◌then◌else◌}
use Rattle.std.specs.List.{AllByRecursion, filter}
use Rattle.std.proofs.Common.{sym, ◌∙◌, ap, subst, inl, inr}
use Rattle.std.proofs.lemmas.Bool.{cases_Bool}
use Rattle.hg_base.specs.Space.{Space, NoPins}
use Rattle.hg_base.specs.Lines.{has_page, pages_behind}
use Rattle.hg_base.specs.Steadiness.{Mine, Steady}
use Rattle.hg_base.specs.declared.Place.{Place}
use Rattle.hg_base.specs.declared.Table.{Table}
use Rattle.hg_table.specs.Chains.{IsChain}
use Rattle.hg_table.specs.Versions.{Placed, IsTable}
use Rattle.hg_table.specs.Places.{behind, comes_behind, first_place}
use Rattle.hg_table.specs.Calls.{none_mine, HasTable, HasPage, HasStart, HasWay, StandsOn, Inserts, IsTableWith}
use Rattle.hg_table.specs.TableLaws.{no_pages, empty_chain, empty_table, chain_stays, table_stays, on_pages}

pub record HoldsRows (s : Space) (t : Table) (columns : ℕ) (pages : List ℕ) : Type 0 where
  pub versions : List Placed
  pub table : IsTable s t columns pages versions

-- No pin is out, and this is a table, whose rows have so many values where the space tells.
pub record IsReady (s : Space) (t : Table) (columns : ℕ) : Type 0 where
  pub no_pins : NoPins s
  pub pages : List ℕ
  pub chain : IsChain s t pages
  pub rows : s.told ≡ true → HoldsRows s t columns pages

-- The same, and a place that is named is on one of its pages, over every space.
pub record IsReadyAt (s : Space) (t : Table) (columns : ℕ) (place : Option Place) : Type 0 where
  pub ready : IsReady s t columns
  pub page : StandsOn ready.pages place

-- a table of no page
pub ready_empty : (s : Space) (columns : ℕ) → NoPins s → IsReady s no_pages columns
ready_empty s columns out = record {
  no_pins = out;
  pages = [];
  chain = empty_chain s;
  rows = λ told. record { versions = []; table = empty_table s columns told };
}

pub none_of : (pages : List ℕ) → AllByRecursion (λ x. ⊥ → ⊥) pages
none_of [] = tt
none_of (x ∷ xs) = (λ n. n, none_of xs)

-- a look changes nothing of it
abbrev pub ready_looked : (a b : Space) (t : Table) (columns : ℕ) → Steady none_mine a b → IsReady a t columns → IsReady b t columns
ready_looked a b t columns steady r = record {
  no_pins = steady.pins_after;
  pages = r.pages;
  chain = chain_stays none_mine a b t r.pages steady (none_of r.pages) r.chain;
  rows = λ told. let h : HoldsRows a t columns r.pages = r.rows (sym steady.told ∙ told) in
      record { versions = h.versions; table = table_stays none_mine a b t columns r.pages h.versions steady (none_of r.pages) h.table };
}

-- a version more
pub ready_inserted : (a b : Space) (old new : Table) (columns : ℕ) (v : Placed) (m : Mine) → Steady m a b → length v.version.row ≡ columns
    → ((pages : List ℕ) → IsChain a old pages → Inserts a b old new pages v) → IsReady a old columns → IsReady b new columns
ready_inserted a b old new columns v m steady e known r =
    let i : Inserts a b old new r.pages v = known r.pages r.chain in
    record {
      no_pins = steady.pins_after;
      pages = i.now;
      chain = i.chain;
      rows = λ told.
          let h : HoldsRows a old columns r.pages = r.rows (sym steady.told ∙ told) in
          let w : IsTableWith b new columns i.now h.versions v = i.table columns h.versions e h.table in
          record { versions = w.versions; table = w.table };
    }

-- what the calls ask
pub ready_table : (s : Space) (t : Table) (columns : ℕ) → IsReady s t columns → s.told ≡ true → HasTable s t
ready_table s t columns r told = let h : HoldsRows s t columns r.pages = r.rows told in
    record { columns = columns; pages = r.pages; versions = h.versions; table = h.table }

start_page : (pages : List ℕ) (place : Option Place) → StandsOn pages place → MatchOption place ⊤ (λ p. IsTrue (has_page pages p.page))
start_page pages None h = tt
start_page pages (Some p) h = h

pub ready_start : (s : Space) (t : Table) (columns : ℕ) (place : Option Place) → IsReadyAt s t columns place → s.told ≡ true → HasStart s t place
ready_start s t columns place r told = let h : HoldsRows s t columns r.ready.pages = r.ready.rows told in
    record { columns = columns; pages = r.ready.pages; versions = h.versions; table = h.table; page = start_page r.ready.pages place r.page }

pub ready_page : (s : Space) (t : Table) (columns : ℕ) (place : Place) → IsReadyAt s t columns (Some place) → s.told ≡ true → HasPage s t columns place
ready_page s t columns place r told = let h : HoldsRows s t columns r.ready.pages = r.ready.rows told in
    record { pages = r.ready.pages; versions = h.versions; table = h.table; page = r.page }

pub ready_way : (s : Space) (t : Table) (columns : ℕ) (place : Option Place) → IsReadyAt s t columns place → HasWay s t columns place
ready_way s t columns place r = record {
  pages = r.ready.pages;
  chain = r.ready.chain;
  on = r.page;
  rows = λ told. let h : HoldsRows s t columns r.ready.pages = r.ready.rows told in (h.versions, h.table);
}

-- the next version is on a page of the table
pub ready_next : (a b : Space) (t : Table) (columns : ℕ) (place : Option Place) (p : Place) → Steady none_mine a b → IsReadyAt a t columns place
    → ((pages : List ℕ) → IsChain a t pages → StandsOn pages place → StandsOn pages (Some p)) → IsReadyAt b t columns (Some p)
ready_next a b t columns place p steady r known = record {
  ready = ready_looked a b t columns steady r.ready;
  page = known r.ready.pages r.ready.chain r.page;
}

pub ready_again : (a b : Space) (t : Table) (columns : ℕ) (place : Option Place) → Steady none_mine a b → IsReadyAt a t columns place → IsReadyAt b t columns place
ready_again a b t columns place steady r = record { ready = ready_looked a b t columns steady r.ready; page = r.page }

pub ready_first : (s : Space) (t : Table) (columns : ℕ) → IsReady s t columns → IsReadyAt s t columns None
ready_first s t columns r = record { ready = r; page = tt }
