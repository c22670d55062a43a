use Rattle.std.specs.Prelude.{◌≡◌, ℕ, true, List, [], IfOk, IfSome, MatchOption}
use Rattle.std.proofs.Common.{sym, ◌∙◌, subst}
use Rattle.hg_base.specs.declared.Table.{Table}
use Rattle.hg_model.specs.Tables.{fits_columns}
use Rattle.hg_model.specs.declared.trees.Column.{Column}
use Rattle.hg_table.specs.Calls.{StandsOn}
use Rattle.hg_table.specs.Chains.{IsChain}
use Rattle.hg_table.specs.Marks.{committed}
use Rattle.hg_exec.specs.Standing.{entry, HasLeft}
use Rattle.hg_exec.specs.Turning.{Finds}
use Rattle.hg_exec.proofs.Lookups.{entry-pages, entry-columns, map-ok}
use Rattle.hg_exec.proofs.loops.Loops.look_apart.Goals as goal

pub next_row-requires-clause-way : goal.next_row-requires-clause-way
next_row-requires-clause-way g c =
    let a = g.S.Pages.state c.args.space.now in
    let e1 = entry-pages c.args.catalog.now.tables c.args.table c.table_data-data.result c.table_data-data.ensures in
    let e2 = entry-columns c.args.catalog.now.tables c.args.table _ c.columns.ensures.value ∙ sym c.as_slice-columns.ensures.value in
    let w = c.requires.way in (
      w.0 c.args.table,
      subst (λ (t : Table). IsChain a t (w.0 c.args.table)) e1 w.1.chain,
      w.1.on,
      λ told.
          let l = w.1.left told in (
            l.0,
            subst (λ (cs : List Column). HasLeft a (committed c.args.stamps.now) c.args.self.now.snapshot.0 c.table_data-data.result cs (w.0 c.args.table) c.args.from.at c.args.from.budget l.0) e2
                (subst (λ (t : Table). HasLeft a (committed c.args.stamps.now) c.args.self.now.snapshot.0 t (entry c.args.catalog.now.tables c.args.table).columns (w.0 c.args.table) c.args.from.at c.args.from.budget l.0) e1 l.1),
          ),
    )

pub returns-clause-finds : goal.returns-clause-finds
returns-clause-finds g c =
    let a = g.S.Pages.state c.args.space.now in
    let b = g.S.Pages.state c.next_row.new.space in
    let e1 = entry-pages c.args.catalog.now.tables c.args.table c.table_data-data.result c.table_data-data.ensures in
    let e2 = entry-columns c.args.catalog.now.tables c.args.table _ c.columns.ensures.value ∙ sym c.as_slice-columns.ensures.value in
    let n = c.args.self.now.snapshot.0 in
    map-ok _ _ c.next_row.result (λ found h pages left has.
    let G : Table → List Column → Type 0 = λ t cs. HasLeft a (committed c.args.stamps.now) n t cs (pages c.args.table) c.args.from.at c.args.from.budget left
    → MatchOption found (left ≡ []) (Finds b (committed c.args.stamps.now) n t cs (pages c.args.table) left c.next_row.new.row) in
    subst (λ (t : Table). G t (entry c.args.catalog.now.tables c.args.table).columns) (sym e1)
    (subst (λ (cs : List Column). G c.table_data-data.result cs) (sym e2) (h (pages c.args.table) left)) has) c.next_row.ensures.finds

pub returns-clause-fits : goal.returns-clause-fits
returns-clause-fits g c =
    let e2 = entry-columns c.args.catalog.now.tables c.args.table _ c.columns.ensures.value ∙ sym c.as_slice-columns.ensures.value in
    subst (λ (cs : List Column). IfOk c.next_row.result (λ found. IfSome found (λ o. fits_columns cs c.next_row.new.row ≡ true))) (sym e2) c.next_row.ensures.fits

pub returns-clause-on : goal.returns-clause-on
returns-clause-on g c =
    let a = g.S.Pages.state c.args.space.now in
    let e1 = entry-pages c.args.catalog.now.tables c.args.table c.table_data-data.result c.table_data-data.ensures in
    subst (λ (t : Table). IfOk c.next_row.result (λ found. IfSome found (λ o. (pages : List ℕ) → IsChain a t pages → StandsOn pages o.at))) (sym e1) c.next_row.ensures.on

pub returns-clause-page : goal.returns-clause-page
returns-clause-page g c pages chain =
    let e1 = entry-pages c.args.catalog.now.tables c.args.table c.table_data-data.result c.table_data-data.ensures in
    c.next_row.ensures.page pages (subst (λ (t : Table). IsChain (g.S.Pages.state c.args.space.now) t pages) e1 chain)
