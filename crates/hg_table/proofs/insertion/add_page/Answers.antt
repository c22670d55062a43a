use Rattle.std.specs.Prelude.{Some, ◌++◌}
use Rattle.std.proofs.Common.{sym, ◌∙◌, ap, subst, refl}
use Rattle.hg_base.specs.Space.{Space, key, with_next}
use Rattle.hg_base.specs.declared.Place.{Place}
use Rattle.hg_base.specs.declared.Table.{Table}
use Rattle.hg_table.specs.Steps.{AddsRecord}
use Rattle.hg_table.proofs.Inserting.{last_taken, last_no_heap, chain_last, adds_first, adds_next}
use Rattle.hg_table.proofs.insertion.add_page.Goals as goal
use Rattle.hg_table.proofs.insertion.add_page.Goals.{in-Some, in-None}

pub set_next-requires-clause-taken : goal.set_next-requires-clause-taken
set_next-requires-clause-taken g c =
    let a : Space = g.S.Pages.state c.args.space.now in
    let b : Space = g.S.Pages.state c.new_page.new.space in
    ap (λ p. b.taken (key p)) c.main_page.ensures
    ∙ last_taken a b (c.args.front.now ++ c.args.row.now) c.in_ok-place.place c.in-Some.last c.in_ok-place.ensures.made
    (chain_last a c.args.table.now c.requires.chain.0 c.in-Some.last c.requires.chain.1 c.in-Some.is)

pub set_next-requires-clause-no_heap : goal.set_next-requires-clause-no_heap
set_next-requires-clause-no_heap g c =
    let a : Space = g.S.Pages.state c.args.space.now in
    let b : Space = g.S.Pages.state c.new_page.new.space in
    ap (λ p. b.of_heap (key p)) c.main_page.ensures
    ∙ last_no_heap a b (c.args.front.now ++ c.args.row.now) c.in_ok-place.place c.in-Some.last c.in_ok-place.ensures.made
    (chain_last a c.args.table.now c.requires.chain.0 c.in-Some.last c.requires.chain.1 c.in-Some.is)

pub returns-clause-made : goal.returns-clause-made
returns-clause-made g c =
    elim c.match-table.branch [
      | in-Some w ↦
          let a : Space = g.S.Pages.state c.args.space.now in
          let m : Space = g.S.Pages.state c.new_page.new.space in
          let t : Table = c.args.table.now in
          let place : Place = c.in_ok-place.place in
          adds_next a m (g.S.Pages.state c.match-table.space) t (record { first = c.match-table.table.first; last = Some place.page }) (c.args.front.now ++ c.args.row.now) place w.in-Some.last
          c.in_ok-place.ensures.made
          (chain_last a t c.requires.chain.0 w.in-Some.last c.requires.chain.1 w.in-Some.is) w.in-Some.is
          (ap (λ s. g.S.Pages.state s) w.space-is ∙ w.set_next.ensures ∙ ap (λ p. with_next m (key p) (Some place.page)) w.main_page.ensures)
          (ap (λ (u : Table). u.first) w.table-is) refl
      | in-None w ↦
          let a : Space = g.S.Pages.state c.args.space.now in
          let t : Table = c.args.table.now in
          let place : Place = c.in_ok-place.place in
          subst (λ s. AddsRecord a s t (record { first = c.match-table.table.first; last = Some place.page }) (c.args.front.now ++ c.args.row.now) place)
          (sym (ap (λ s. g.S.Pages.state s) w.space-is))
          (adds_first a (g.S.Pages.state c.new_page.new.space) t (record { first = c.match-table.table.first; last = Some place.page }) (c.args.front.now ++ c.args.row.now) place
          c.in_ok-place.ensures.made w.in-None.is (ap (λ (u : Table). u.first) w.table-is) refl)
    ]
