use Rattle.std.specs.Prelude.{◌≡◌, ◌-◌, true, false, length, Option, None, Some}
use Rattle.std.proofs.Common.{sym, ◌∙◌, subst}
use Rattle.std.proofs.lemmas.Bool.{false≢true}
use Rattle.hg_base.specs.declared.Place.{Place}
use Rattle.hg_table.specs.Marks.{committed}
use Rattle.hg_exec.proofs.Looking.{Searched, search-finds, search-ends, found-fits, found-more, untold, damaged-cause}
use Rattle.hg_exec.proofs.next.next_row.Goals as goal

pub returns-in_default-clause-finds : goal.returns-in_default-clause-finds
returns-in_default-clause-finds g c pages left h =
    let a = g.S.Pages.state c.args.space.now in
    let t = g.D.TableCalls.ends c.args.table.now in
    search-ends a t c.args.columns.now c.args.from.at (committed c.args.stamps.now) c.args.snapshot.0 c.args.row.now c.next_visible.new.out c.args.from.budget
    (subst (λ (next : Option Place). Searched a t (length c.args.columns.now) c.args.from.at (committed c.args.stamps.now) c.args.snapshot.0 next c.args.row.now c.next_visible.new.out)
    c.in_default.is (c.in_ok-place.ensures {u = tt}).seen) pages left h

pub returns-then-not-fits_columns-clause-cause : goal.returns-then-not-fits_columns-clause-cause
returns-then-not-fits_columns-clause-cause g c =
    let a = g.S.Pages.state c.args.space.now in
    let t = g.D.TableCalls.ends c.args.table.now in
    let w = c.requires.way in
    damaged-cause a (g.S.Pages.state c.next_visible.new.space) c.damaged.result _ _ c.damaged.ensures (c.in_ok-place.ensures {u = tt}).cause
    (untold a (λ told.
    let l = w.3 told in
    let fits = found-fits a t c.args.columns.now c.args.from.at (committed c.args.stamps.now) c.args.snapshot.0 c.in-Some.place c.args.row.now c.next_visible.new.out c.args.from.budget
    (subst (λ (next : Option Place). Searched a t (length c.args.columns.now) c.args.from.at (committed c.args.stamps.now) c.args.snapshot.0 next c.args.row.now c.next_visible.new.out)
    c.in-Some.is (c.in_ok-place.ensures {u = tt}).seen) w.0 l.0 l.1 in
    false≢true (sym (sym c.fits_columns.ensures ∙ c.if-not-fits_columns.true) ∙ fits)))

pub returns-then-from-eq1-clause-cause : goal.returns-then-from-eq1-clause-cause
returns-then-from-eq1-clause-cause g c =
    let a = g.S.Pages.state c.args.space.now in
    let t = g.D.TableCalls.ends c.args.table.now in
    let w = c.requires.way in
    damaged-cause a (g.S.Pages.state c.next_visible.new.space) c.damaged-then-from-eq1.result _ _ c.damaged-then-from-eq1.ensures (c.in_ok-place.ensures {u = tt}).cause
    (untold a (λ told.
    let l = w.3 told in
    found-more a t c.args.columns.now c.args.from.at (committed c.args.stamps.now) c.args.snapshot.0 c.in-Some.place c.args.row.now c.next_visible.new.out c.args.from.budget
    (subst (λ (next : Option Place). Searched a t (length c.args.columns.now) c.args.from.at (committed c.args.stamps.now) c.args.snapshot.0 next c.args.row.now c.next_visible.new.out)
    c.in-Some.is (c.in_ok-place.ensures {u = tt}).seen) w.0 l.0 l.1 c.if-from-eq1.true))

pub returns-clause-finds : goal.returns-clause-finds
returns-clause-finds g c pages left h =
    let a = g.S.Pages.state c.args.space.now in
    let t = g.D.TableCalls.ends c.args.table.now in
    search-finds a (g.S.Pages.state c.next_visible.new.space) t c.args.columns.now c.args.from.at (committed c.args.stamps.now) c.args.snapshot.0 c.in-Some.place c.args.row.now
    c.next_visible.new.out c.args.from.budget c.args.from.start
    (subst (λ (next : Option Place). Searched a t (length c.args.columns.now) c.args.from.at (committed c.args.stamps.now) c.args.snapshot.0 next c.args.row.now c.next_visible.new.out)
    c.in-Some.is (c.in_ok-place.ensures {u = tt}).seen)
    c.next_visible.ensures.steady pages left h
