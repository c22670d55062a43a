use Rattle.std.specs.Prelude.{◌≡◌, ℕ, ◌+◌, true, Bool, List, Option, Some, None, IfErr}
use Rattle.std.proofs.Common.{sym, ◌∙◌, ap, subst, refl}
use Rattle.std.proofs.lemmas.Result.{IfOk-weaker, IfErr-weaker, err_from_is_err_and}
use Rattle.hg_base.specs.Space.{Space, key, key_in}
use Rattle.hg_base.specs.Lines.{has_page, pages_behind}
use Rattle.hg_base.specs.declared.Place.{Place}
use Rattle.hg_base.specs.declared.Table.{Table}
use Rattle.hg_table.specs.Calls.{NamesOneOf, StandsOn}
use Rattle.hg_table.specs.Marks.{committed}
use Rattle.hg_table.specs.Places.{behind, first_seen}
use Rattle.hg_table.specs.Steps.{IsNextSeen}
use Rattle.hg_table.specs.Versions.{in_pages}
use Rattle.hg_table.proofs.Following.{line_rest, stands_behind}
use Rattle.hg_table.proofs.Searching.{finds_by, table_rows, rest_rows, way_plain, place_rows, on_other, names_on, names_behind, plain_now, seen_here, seen_later}
use Rattle.hg_table.proofs.seeking.next_visible.Goals as goal

pub returns-in_default-clause-seen : goal.returns-in_default-clause-seen
returns-in_default-clause-seen g c =
    let a : Space = g.S.Pages.state c.args.space.now in
    let t : Table = c.args.table.now in
    let p : ℕ → Bool = committed c.args.stamps.now in
    let s : ℕ = c.args.snapshot.0 in
    IfOk-weaker c.seen_along.result _ _
    (λ next known pages versions table.
    finds_by (first_seen p s (behind pages c.args.at versions)) (first_seen p s (in_pages table.held pages)) next c.args.out.now c.seen_along.new.out
    (ap (λ o. first_seen p s (behind pages o versions)) c.in_default.is ∙ ap (first_seen p s) table.listed)
    (known (table_rows a t c.args.columns pages versions table)))
    c.seen_along.ensures.seen

pub seen_on-requires-clause-plain : goal.seen_on-requires-clause-plain
seen_on-requires-clause-plain g c =
    let way = c.requires.way in
    way_plain (g.S.Pages.state c.args.space.now) c.args.table.now way.pages c.in-Some.place.page way.chain (subst (StandsOn way.pages) c.in-Some.is way.on)

pub seen_on-requires-clause-sound : goal.seen_on-requires-clause-sound
seen_on-requires-clause-sound g c = λ told.
    let way = c.requires.way in
    let rows = way.rows told in (
      rows.1.held c.in-Some.place.page,
      place_rows (g.S.Pages.state c.args.space.now) c.args.table.now c.args.columns way.pages rows.0 c.in-Some.place.page rows.1
          (subst (StandsOn way.pages) c.in-Some.is way.on),
    )

pub returns-in_err-slot-clause-page : goal.returns-in_err-slot-clause-page
returns-in_err-slot-clause-page g c = λ pages chain.
    let a : Space = g.S.Pages.state c.args.space.now in
    let way = c.requires.way in
    let on : has_page pages c.in-Some.place.page ≡ true =
    on_other a c.args.table.now way.pages pages c.in-Some.place.page way.chain chain (subst (StandsOn way.pages) c.in-Some.is way.on) in
    let p = err_from_is_err_and c.from_residual.result c.from_residual.ensures.1 in
    subst (λ r. IfErr r (NamesOneOf pages)) (sym p.1)
    (subst (NamesOneOf pages) (sym p.2) (names_on pages c.in-Some.place.page _ on c.in_err-slot.ensures.page))

pub returns-in-Some-2-clause-seen : goal.returns-in-Some-2-clause-seen
returns-in-Some-2-clause-seen g c = λ pages versions table.
    let a : Space = g.S.Pages.state c.args.space.now in
    let t : Table = c.args.table.now in
    let p : ℕ → Bool = committed c.args.stamps.now in
    let s : ℕ = c.args.snapshot.0 in
    let way = c.requires.way in
    let place : Place = c.in-Some.place in
    let on : has_page pages place.page ≡ true = on_other a t way.pages pages place.page way.chain table.chain (subst (StandsOn way.pages) c.in-Some.is way.on) in
    finds_by (first_seen p s (behind pages c.args.at versions)) (first_seen p s (behind pages (Some place) versions)) (Some (record { page = place.page; slot = c.in-Some-2.slot }))
    c.args.out.now c.seen_on.new.out
    (ap (λ (o : Option Place). first_seen p s (behind pages o versions)) c.in-Some.is)
    (seen_here a t c.args.columns pages versions place c.in-Some-2.slot p s c.args.out.now c.seen_on.new.out table on
    (λ held h. subst (λ o. IsNextSeen p s held (place.slot + 1) o c.args.out.now c.seen_on.new.out) c.in-Some-2.is (c.in_ok-slot.ensures.seen held h)))

pub returns-in-Some-2-clause-on_pages : goal.returns-in-Some-2-clause-on_pages
returns-in-Some-2-clause-on_pages g c = λ pages chain.
    let way = c.requires.way in
    on_other (g.S.Pages.state c.args.space.now) c.args.table.now way.pages pages c.in-Some.place.page way.chain chain (subst (StandsOn way.pages) c.in-Some.is way.on)

pub next-next-requires : goal.next-next-requires
next-next-requires g c =
    let a : Space = g.S.Pages.state c.args.space.now in
    let b : Space = g.S.Pages.state c.seen_on.new.space in
    let way = c.requires.way in
    ap (λ p. b.taken (key p)) c.main_page.ensures
    ∙ (plain_now a b c.in-Some.place.page c.in_ok-slot.ensures.looks
    (way_plain a c.args.table.now way.pages c.in-Some.place.page way.chain (subst (StandsOn way.pages) c.in-Some.is way.on))).taken

pub seen_along-requires-in-None-clause-line : goal.seen_along-requires-in-None-clause-line
seen_along-requires-in-None-clause-line g c =
    let a : Space = g.S.Pages.state c.args.space.now in
    let b : Space = g.S.Pages.state c.seen_on.new.space in
    let way = c.requires.way in (
      pages_behind way.pages c.in-Some.place.page,
      line_rest a b c.args.table.now way.pages c.in-Some.place.page c.next-next.result c.in_ok-slot.ensures.looks way.chain (subst (StandsOn way.pages) c.in-Some.is way.on)
          (c.next-next.ensures ∙ ap (λ p. b.next (key p)) c.main_page.ensures),
    )

pub seen_along-requires-in-None-clause-rows : goal.seen_along-requires-in-None-clause-rows
seen_along-requires-in-None-clause-rows g c = λ told.
    let a : Space = g.S.Pages.state c.args.space.now in
    let b : Space = g.S.Pages.state c.seen_on.new.space in
    let way = c.requires.way in
    let rows = way.rows (sym c.in_ok-slot.ensures.looks.steady.told ∙ told) in
    rest_rows a b c.args.table.now c.args.columns way.pages rows.0 c.in-Some.place.page c.next-next.result c.in_ok-slot.ensures.looks rows.1
    (subst (StandsOn way.pages) c.in-Some.is way.on) (c.next-next.ensures ∙ ap (λ p. b.next (key p)) c.main_page.ensures)

pub returns-in-None-clause-seen : goal.returns-in-None-clause-seen
returns-in-None-clause-seen g c =
    let a : Space = g.S.Pages.state c.args.space.now in
    let b : Space = g.S.Pages.state c.seen_on.new.space in
    let t : Table = c.args.table.now in
    let p : ℕ → Bool = committed c.args.stamps.now in
    let s : ℕ = c.args.snapshot.0 in
    let way = c.requires.way in
    let place : Place = c.in-Some.place in
    IfOk-weaker c.seen_along-in-None.result _ _
    (λ next known pages versions table.
    let on : has_page pages place.page ≡ true = on_other a t way.pages pages place.page way.chain table.chain (subst (StandsOn way.pages) c.in-Some.is way.on) in
    finds_by (first_seen p s (behind pages c.args.at versions)) (first_seen p s (behind pages (Some place) versions)) next c.args.out.now c.seen_along-in-None.new.out
    (ap (λ (o : Option Place). first_seen p s (behind pages o versions)) c.in-Some.is)
    (seen_later a t c.args.columns pages versions place next p s c.args.out.now c.seen_on.new.out c.seen_along-in-None.new.out table on
    (λ held h. subst (λ o. IsNextSeen p s held (place.slot + 1) o c.args.out.now c.seen_on.new.out) c.in-None.is (c.in_ok-slot.ensures.seen held h))
    (known (rest_rows a b t c.args.columns pages versions place.page c.next-next.result c.in_ok-slot.ensures.looks table on
    (c.next-next.ensures ∙ ap (λ q. b.next (key q)) c.main_page.ensures)))))
    c.seen_along-in-None.ensures.seen

pub returns-in-None-clause-on_pages : goal.returns-in-None-clause-on_pages
returns-in-None-clause-on_pages g c =
    let a : Space = g.S.Pages.state c.args.space.now in
    let b : Space = g.S.Pages.state c.seen_on.new.space in
    let t : Table = c.args.table.now in
    let way = c.requires.way in
    let x : ℕ = c.in-Some.place.page in
    IfOk-weaker c.seen_along-in-None.result _ _
    (λ next known pages chain.
    stands_behind pages x next (known (pages_behind pages x)
    (line_rest a b t pages x c.next-next.result c.in_ok-slot.ensures.looks chain (on_other a t way.pages pages x way.chain chain (subst (StandsOn way.pages) c.in-Some.is way.on))
    (c.next-next.ensures ∙ ap (λ q. b.next (key q)) c.main_page.ensures))))
    c.seen_along-in-None.ensures.on_line

pub returns-in-None-clause-page : goal.returns-in-None-clause-page
returns-in-None-clause-page g c = λ pages chain.
    let a : Space = g.S.Pages.state c.args.space.now in
    let b : Space = g.S.Pages.state c.seen_on.new.space in
    let t : Table = c.args.table.now in
    let way = c.requires.way in
    let x : ℕ = c.in-Some.place.page in
    IfErr-weaker c.seen_along-in-None.result _ _ (λ f named. names_behind pages x f named)
    (c.seen_along-in-None.ensures.page (pages_behind pages x)
    (line_rest a b t pages x c.next-next.result c.in_ok-slot.ensures.looks chain (on_other a t way.pages pages x way.chain chain (subst (StandsOn way.pages) c.in-Some.is way.on))
    (c.next-next.ensures ∙ ap (λ q. b.next (key q)) c.main_page.ensures)))
