use Rattle.std.specs.Prelude.{◌≡◌, ℕ, ◌+◌, true, Option, Some, IfErr}
use Rattle.std.proofs.Common.{refl, sym, ◌∙◌, ap, subst}
use Rattle.std.proofs.lemmas.Result.{IfOk-weaker, IfErr-weaker, err_from_is_err_and}
use Rattle.hg_base.specs.Space.{Space, key, key_in}
use Rattle.hg_base.specs.LineLaws.{line_free}
use Rattle.hg_base.specs.Lines.{has_page, pages_behind}
use Rattle.hg_base.specs.declared.File.TheVariants.{Main}
use Rattle.hg_base.specs.declared.Place.{Place}
use Rattle.hg_base.specs.declared.Table.{Table}
use Rattle.hg_table.specs.Places.{behind, first_place}
use Rattle.hg_table.specs.Calls.{HasStart, IsBarred, LookFault, IsPageCheck, StandsOn, WalksOn, walk_start}
use Rattle.hg_table.specs.Steps.{IsNextSlot}
use Rattle.hg_table.proofs.Following.{line_rest, stands_behind, table_line, rest_line, place_sound, start_on, first_of_table, next_here, next_behind}
use Rattle.hg_table.proofs.Walking.{not_too_long, walks_same}
use Rattle.hg_table.proofs.walk.after.Goals as goal

pub look-requires-clause-sound : goal.look-requires-clause-sound
look-requires-clause-sound g c = λ told.
    place_sound (g.S.Pages.state c.args.space.now) c.args.table.now c.in-Some.place c.requires.out
    (subst (HasStart (g.S.Pages.state c.args.space.now) c.args.table.now) c.in-Some.is (c.requires.start told))

pub returns-in-Some-2-clause-next : goal.returns-in-Some-2-clause-next
returns-in-Some-2-clause-next g c = λ columns pages versions table.
    let a : Space = g.S.Pages.state c.args.space.now in
    let t : Table = c.args.table.now in
    let h : HasStart a t (Some c.in-Some.place) = subst (HasStart a t) c.in-Some.is (c.requires.start table.told) in
    next_here a t columns pages versions c.in-Some.place c.in-Some-2.slot table (start_on a t columns pages versions c.in-Some.place table h)
    (λ page told. subst (IsNextSlot page (c.in-Some.place.slot + 1)) c.in-Some-2.is (c.in_ok-slot-in-Some.ensures.next page told))
    ∙ ap (λ (p : Option Place). first_place (behind pages p versions)) (sym c.in-Some.is)

pub returns-in_err-slot-in-Some-clause-level : goal.returns-in_err-slot-in-Some-clause-level
returns-in_err-slot-in-Some-clause-level g c =
    let a : Space = g.S.Pages.state c.args.space.now in
    let p = err_from_is_err_and c.from_residual.result c.from_residual.ensures.1 in
    subst (λ o. IfErr c.from_residual.result (IsBarred a o)) (sym c.in-Some.is)
    (subst (λ r. IfErr r (IsBarred a (Some c.in-Some.place))) (sym p.1)
    (subst (IsBarred a (Some c.in-Some.place)) (sym p.2) (c.in_err-slot-in-Some.ensures.row refl c.in-Some.place.slot)))

pub first_along-requires-in-Some-clause-line : goal.first_along-requires-in-Some-clause-line
first_along-requires-in-Some-clause-line g c = λ told.
    let a : Space = g.S.Pages.state c.args.space.now in
    let b : Space = g.S.Pages.state c.look.new.space in
    let t : Table = c.args.table.now in
    let h : HasStart a t (Some c.in-Some.place) =
    subst (HasStart a t) c.in-Some.is (c.requires.start (sym c.in_ok-slot-in-Some.ensures.looks.steady.told ∙ told)) in
    rest_line a b t h.columns h.pages h.versions c.in-Some.place.page c.next.result c.in_ok-slot-in-Some.ensures.looks h.table h.page
    (c.next.ensures ∙ ap (λ p. b.next (key p)) c.main_page.ensures)

pub returns-in-None-clause-next : goal.returns-in-None-clause-next
returns-in-None-clause-next g c =
    let a : Space = g.S.Pages.state c.args.space.now in
    let t : Table = c.args.table.now in
    IfOk-weaker c.first_along.result _ _
    (λ next known columns pages versions table.
    first_of_table a t columns pages versions next table (known (table_line a t columns pages versions table))
    ∙ ap (λ (p : Option Place). first_place (behind pages p versions)) (sym c.in-None.is))
    c.first_along.ensures.first

pub returns-in_default-clause-on_pages : goal.returns-in_default-clause-on_pages
returns-in_default-clause-on_pages g c =
    let a : Space = g.S.Pages.state c.args.space.now in
    let b : Space = g.S.Pages.state c.look.new.space in
    let x : ℕ = c.in-Some.place.page in
    IfOk-weaker c.first_along-in-Some.result _ _
    (λ next known pages chain stands.
    let on : has_page pages x ≡ true = subst (StandsOn pages) c.in-Some.is stands in
    stands_behind pages x next
    (known (pages_behind pages x) (line_rest a b c.args.table.now pages x c.next.result c.in_ok-slot-in-Some.ensures.looks chain on
    (c.next.ensures ∙ ap (λ p. b.next (key p)) c.main_page.ensures))))
    c.first_along-in-Some.ensures.on_line

pub returns-in_default-clause-next : goal.returns-in_default-clause-next
returns-in_default-clause-next g c =
    let a : Space = g.S.Pages.state c.args.space.now in
    let b : Space = g.S.Pages.state c.look.new.space in
    let t : Table = c.args.table.now in
    IfOk-weaker c.first_along-in-Some.result _ _
    (λ next known columns pages versions table.
    let h : HasStart a t (Some c.in-Some.place) = subst (HasStart a t) c.in-Some.is (c.requires.start table.told) in
    next_behind a t columns pages versions c.in-Some.place next table (start_on a t columns pages versions c.in-Some.place table h)
    (λ page told. subst (IsNextSlot page (c.in-Some.place.slot + 1)) c.in_default.is (c.in_ok-slot-in-Some.ensures.next page told))
    (known (rest_line a b t columns pages versions c.in-Some.place.page c.next.result c.in_ok-slot-in-Some.ensures.looks table
    (start_on a t columns pages versions c.in-Some.place table h) (c.next.ensures ∙ ap (λ p. b.next (key p)) c.main_page.ensures)))
    ∙ ap (λ (p : Option Place). first_place (behind pages p versions)) (sym c.in-Some.is))
    c.first_along-in-Some.ensures.first

pub returns-in_err-slot-in-Some-clause-known : goal.returns-in_err-slot-in-Some-clause-known
returns-in_err-slot-in-Some-clause-known g c = λ pages chain stands.
    let a : Space = g.S.Pages.state c.args.space.now in
    let on : has_page pages c.in-Some.place.page ≡ true = subst (StandsOn pages) c.in-Some.is stands in
    let p = err_from_is_err_and c.from_residual.result c.from_residual.ensures.1 in
    subst (λ r. IfErr r (LookFault IsPageCheck)) (sym p.1)
    (subst (LookFault IsPageCheck) (sym p.2)
    (c.in_err-slot-in-Some.ensures.known (line_free Main a c.args.table.now.first pages c.in-Some.place.page c.requires.out chain.line on)))

pub returns-in_default-clause-known : goal.returns-in_default-clause-known
returns-in_default-clause-known g c = λ pages chain stands.
    let a : Space = g.S.Pages.state c.args.space.now in
    let b : Space = g.S.Pages.state c.look.new.space in
    let x : ℕ = c.in-Some.place.page in
    let on : has_page pages x ≡ true = subst (StandsOn pages) c.in-Some.is stands in
    c.first_along-in-Some.ensures.known (pages_behind pages x) (line_rest a b c.args.table.now pages x c.next.result c.in_ok-slot-in-Some.ensures.looks chain on
    (c.next.ensures ∙ ap (λ p. b.next (key p)) c.main_page.ensures))

pub returns-in_err-slot-in-Some-clause-order : goal.returns-in_err-slot-in-Some-clause-order
returns-in_err-slot-in-Some-clause-order g c =
    let a : Space = g.S.Pages.state c.args.space.now in
    let from : Option ℕ = walk_start a c.args.table.now c.args.at in
    let p = err_from_is_err_and c.from_residual.result c.from_residual.ensures.1 in
    subst (λ r. IfErr r (WalksOn a from)) (sym p.1)
    (subst (WalksOn a from) (sym p.2) (not_too_long a from _ c.in_err-slot-in-Some.ensures.step))

pub returns-in-None-clause-order : goal.returns-in-None-clause-order
returns-in-None-clause-order g c =
    let a : Space = g.S.Pages.state c.args.space.now in
    subst (λ o. IfErr c.first_along.result (WalksOn a (walk_start a c.args.table.now o))) (sym c.in-None.is) c.first_along.ensures.order

pub returns-in_default-clause-order : goal.returns-in_default-clause-order
returns-in_default-clause-order g c =
    let a : Space = g.S.Pages.state c.args.space.now in
    let b : Space = g.S.Pages.state c.look.new.space in
    subst (λ o. IfErr c.first_along-in-Some.result (WalksOn a (walk_start a c.args.table.now o))) (sym c.in-Some.is)
    (IfErr-weaker c.first_along-in-Some.result _ _
    (λ f known. walks_same a b c.next.result (a.next (key_in Main c.in-Some.place.page)) f c.in_ok-slot-in-Some.ensures.links c.in_ok-slot-in-Some.ensures.looks
    (c.next.ensures ∙ ap (λ p. b.next (key p)) c.main_page.ensures ∙ ap (λ (f : ℕ → Option ℕ). f (key_in Main c.in-Some.place.page)) c.in_ok-slot-in-Some.ensures.links)
    known)
    c.first_along-in-Some.ensures.order)
