use Rattle.std.specs.Prelude.{Some, None, IfErr}
use Rattle.std.proofs.Common.{sym, ◌∙◌, ap, subst, refl}
use Rattle.std.proofs.lemmas.Result.{err_from_is_err_and}
use Rattle.hg_base.specs.Space.{Space, key, key_in}
use Rattle.hg_base.specs.declared.File.TheVariants.{Temp}
use Rattle.hg_base.specs.SteadyLaws.{HasCause_behind}
use Rattle.hg_run.specs.Calls.{temp_page, NamesOneOf}
use Rattle.hg_base.specs.Causes.{HasCause}
use Rattle.hg_base.specs.declared.Check.TheVariants as check
use Rattle.hg_base.specs.declared.pages.PageFault.TheVariants as fault
use Rattle.hg_run.proofs.Filling.{looked_chain}
use Rattle.hg_run.proofs.Places.{on_plain, start_none, on_these, first_page, second_page, first_asked, second_asked, first_reads, second_reads, reads_none, second_some, behind_on, names_one, damage_cause}
use Rattle.hg_run.proofs.Run.read.Goals as goal

pub returns-in_default-clause-read : goal.returns-in_default-clause-read
returns-in_default-clause-read g c = λ rs pages done rest h place.
    start_none (g.S.Pages.state c.args.space.now) c.args.self.now rs pages c.args.at.now c.from-start.result done rest h place c.from-start.ensures c.in_default.is

pub take_from-requires-clause-plain : goal.take_from-requires-clause-plain
take_from-requires-clause-plain g c =
    let a : Space = g.S.Pages.state c.args.space.now in
    let w = c.requires.way in
    on_plain a c.args.self.now w.pages c.in-Some.no w.chain
    (first_page a c.args.self.now c.args.at.now c.from-start.result c.in-Some.no w.pages w w.chain c.from-start.ensures c.in-Some.is)

pub take_from-requires-clause-sound : goal.take_from-requires-clause-sound
take_from-requires-clause-sound g c = λ told.
    first_asked (g.S.Pages.state c.args.space.now) c.args.self.now c.args.at.now c.from-start.result c.in-Some.no c.requires.way c.from-start.ensures c.in-Some.is told

pub returns-in_err-found-clause-on_pages : goal.returns-in_err-found-clause-on_pages
returns-in_err-found-clause-on_pages g c = λ pages chain. on_these (g.S.Pages.state c.args.space.now) c.args.self.now c.args.at.now pages c.requires.way chain

pub returns-in_err-found-clause-page : goal.returns-in_err-found-clause-page
returns-in_err-found-clause-page g c = λ pages chain.
    let on = first_page (g.S.Pages.state c.args.space.now) c.args.self.now c.args.at.now c.from-start.result c.in-Some.no pages c.requires.way chain c.from-start.ensures c.in-Some.is in
    let p = err_from_is_err_and c.from_residual.result c.from_residual.ensures.1 in
    subst (λ r. IfErr r (NamesOneOf pages)) (sym p.1) (subst (NamesOneOf pages) (sym p.2) (names_one pages c.in-Some.no c.in_err-found.field-0.0 on c.in_err-found.ensures.page))

pub behind-requires : goal.behind-requires
behind-requires g c =
    let a : Space = g.S.Pages.state c.args.space.now in
    let w = c.requires.way in
    ap (λ f. f (key_in Temp c.in-Some.no)) c.in_ok-found.ensures.looks.taken
    ∙ (on_plain a c.args.self.now w.pages c.in-Some.no w.chain
    (first_page a c.args.self.now c.args.at.now c.from-start.result c.in-Some.no w.pages w w.chain c.from-start.ensures c.in-Some.is)).taken

pub returns-in-Some-2-clause-read : goal.returns-in-Some-2-clause-read
returns-in-Some-2-clause-read g c = λ rs pages done rest h place.
    first_reads (g.S.Pages.state c.args.space.now) (g.S.Pages.state c.take_from.new.space) c.args.self.now rs pages c.args.at.now c.from-start.result c.behind.result c.in-Some.no
    done rest c.in_ok-found.field-0 c.in-Some-2.found c.take_from.new.out.items h place c.from-start.ensures c.in-Some.is c.in-Some-2.is c.in_ok-found.ensures.next
    c.in_ok-found.ensures.looks c.behind.ensures

pub returns-in-Some-2-clause-on_pages : goal.returns-in-Some-2-clause-on_pages
returns-in-Some-2-clause-on_pages g c = λ pages chain.
    let a : Space = g.S.Pages.state c.args.space.now in
    let m : Space = g.S.Pages.state c.take_from.new.space in
    behind_on m c.args.self.now pages c.in-Some.no c.in-Some-2.found c.behind.result (looked_chain a m c.args.self.now pages c.in_ok-found.ensures.looks chain)
    (first_page a c.args.self.now c.args.at.now c.from-start.result c.in-Some.no pages c.requires.way chain c.from-start.ensures c.in-Some.is) c.behind.ensures

pub next-requires : goal.next-requires
next-requires g c =
    let a : Space = g.S.Pages.state c.args.space.now in
    let m : Space = g.S.Pages.state c.take_from.new.space in
    let w = c.requires.way in
    ap (λ p. m.taken (key p)) c.temp_page.ensures
    ∙ ap (λ f. f (key_in Temp c.in-Some.no)) c.in_ok-found.ensures.looks.taken
    ∙ (on_plain a c.args.self.now w.pages c.in-Some.no w.chain
    (first_page a c.args.self.now c.args.at.now c.from-start.result c.in-Some.no w.pages w w.chain c.from-start.ensures c.in-Some.is)).taken

pub returns-in_default-next-clause-read : goal.returns-in_default-next-clause-read
returns-in_default-next-clause-read g c = λ rs pages done rest h place.
    let m : Space = g.S.Pages.state c.take_from.new.space in
    reads_none (g.S.Pages.state c.args.space.now) m c.args.self.now rs pages c.args.at.now c.from-start.result c.in-Some.no
    done rest c.in_ok-found.field-0 c.take_from.new.out.items h place c.from-start.ensures c.in-Some.is c.in_default-2.is c.in_ok-found.ensures.next
    c.in_ok-found.ensures.looks (sym (c.next.ensures ∙ ap (λ p. m.next (key p)) c.temp_page.ensures) ∙ c.in_default-next.is)

pub returns-in_default-next-clause-on_pages : goal.returns-in_default-next-clause-on_pages
returns-in_default-next-clause-on_pages g c = λ pages chain. on_these (g.S.Pages.state c.args.space.now) c.args.self.now c.args.at.now pages c.requires.way chain

pub take_from-requires-2-clause-plain : goal.take_from-requires-2-clause-plain
take_from-requires-2-clause-plain g c =
    let a : Space = g.S.Pages.state c.args.space.now in
    let m : Space = g.S.Pages.state c.take_from.new.space in
    let w = c.requires.way in
    let k = c.in_ok-found.ensures.looks in
    let f = sym (c.next.ensures ∙ ap (λ p. m.next (key p)) c.temp_page.ensures) ∙ c.in-Some-next.is in
    on_plain m c.args.self.now w.pages c.in-Some-next.next (looked_chain a m c.args.self.now w.pages k w.chain)
    (second_page a m c.args.self.now c.args.at.now c.from-start.result c.in-Some.no c.in-Some-next.next w.pages w w.chain c.from-start.ensures c.in-Some.is k f)

pub take_from-requires-2-clause-sound : goal.take_from-requires-2-clause-sound
take_from-requires-2-clause-sound g c = λ told.
    let m : Space = g.S.Pages.state c.take_from.new.space in
    second_asked (g.S.Pages.state c.args.space.now) m c.args.self.now c.args.at.now c.from-start.result c.in-Some.no c.in-Some-next.next c.in_ok-found.field-0 c.take_from.new.out.items
    c.requires.way c.from-start.ensures c.in-Some.is c.in_default-2.is c.in_ok-found.ensures.next c.in_ok-found.ensures.looks
    (sym (c.next.ensures ∙ ap (λ p. m.next (key p)) c.temp_page.ensures) ∙ c.in-Some-next.is) told

pub returns-in_err-found-2-clause-on_pages : goal.returns-in_err-found-2-clause-on_pages
returns-in_err-found-2-clause-on_pages g c = λ pages chain. on_these (g.S.Pages.state c.args.space.now) c.args.self.now c.args.at.now pages c.requires.way chain

pub returns-in_err-found-2-clause-page : goal.returns-in_err-found-2-clause-page
returns-in_err-found-2-clause-page g c = λ pages chain.
    let m : Space = g.S.Pages.state c.take_from.new.space in
    let on = second_page (g.S.Pages.state c.args.space.now) m c.args.self.now c.args.at.now c.from-start.result c.in-Some.no c.in-Some-next.next pages c.requires.way chain
    c.from-start.ensures c.in-Some.is c.in_ok-found.ensures.looks (sym (c.next.ensures ∙ ap (λ p. m.next (key p)) c.temp_page.ensures) ∙ c.in-Some-next.is) in
    let p = err_from_is_err_and c.from_residual-in_err-found-2.result c.from_residual-in_err-found-2.ensures.1 in
    subst (λ r. IfErr r (NamesOneOf pages)) (sym p.1) (subst (NamesOneOf pages) (sym p.2) (names_one pages c.in-Some-next.next c.in_err-found-2.field-0.0 on c.in_err-found-2.ensures.page))

pub behind-requires-in-Some-3 : goal.behind-requires-in-Some-3
behind-requires-in-Some-3 g c =
    let a : Space = g.S.Pages.state c.args.space.now in
    let m : Space = g.S.Pages.state c.take_from.new.space in
    let w = c.requires.way in
    let k = c.in_ok-found.ensures.looks in
    let f = sym (c.next.ensures ∙ ap (λ p. m.next (key p)) c.temp_page.ensures) ∙ c.in-Some-next.is in
    ap (λ f. f (key_in Temp c.in-Some-next.next)) c.in_ok-found-2.ensures.looks.taken
    ∙ (on_plain m c.args.self.now w.pages c.in-Some-next.next (looked_chain a m c.args.self.now w.pages k w.chain)
    (second_page a m c.args.self.now c.args.at.now c.from-start.result c.in-Some.no c.in-Some-next.next w.pages w w.chain c.from-start.ensures c.in-Some.is k f)).taken

pub returns-in-Some-3-clause-read : goal.returns-in-Some-3-clause-read
returns-in-Some-3-clause-read g c = λ rs pages done rest h place.
    let m : Space = g.S.Pages.state c.take_from.new.space in
    second_reads (g.S.Pages.state c.args.space.now) m (g.S.Pages.state c.take_from-2.new.space) c.args.self.now rs pages c.args.at.now c.from-start.result c.behind-in-Some-3.result c.in-Some.no
    c.in-Some-next.next done rest c.in_ok-found.field-0 c.in_ok-found-2.field-0 c.in-Some-3.found c.take_from-2.new.out.items c.take_from.new.out.items h place c.from-start.ensures c.in-Some.is
    c.in_default-2.is c.in_ok-found.ensures.next c.in_ok-found.ensures.looks (sym (c.next.ensures ∙ ap (λ p. m.next (key p)) c.temp_page.ensures) ∙ c.in-Some-next.is)
    c.in-Some-3.is c.in_ok-found-2.ensures.next c.in_ok-found-2.ensures.looks c.behind-in-Some-3.ensures

pub returns-in-Some-3-clause-on_pages : goal.returns-in-Some-3-clause-on_pages
returns-in-Some-3-clause-on_pages g c = λ pages chain.
    let a : Space = g.S.Pages.state c.args.space.now in
    let m : Space = g.S.Pages.state c.take_from.new.space in
    let d : Space = g.S.Pages.state c.take_from-2.new.space in
    let f = sym (c.next.ensures ∙ ap (λ p. m.next (key p)) c.temp_page.ensures) ∙ c.in-Some-next.is in
    behind_on d c.args.self.now pages c.in-Some-next.next c.in-Some-3.found c.behind-in-Some-3.result
    (looked_chain m d c.args.self.now pages c.in_ok-found-2.ensures.looks (looked_chain a m c.args.self.now pages c.in_ok-found.ensures.looks chain))
    (second_page a m c.args.self.now c.args.at.now c.from-start.result c.in-Some.no c.in-Some-next.next pages c.requires.way chain c.from-start.ensures c.in-Some.is c.in_ok-found.ensures.looks f)
    c.behind-in-Some-3.ensures

pub returns-in-None-clause-on_pages : goal.returns-in-None-clause-on_pages
returns-in-None-clause-on_pages g c = λ pages chain. on_these (g.S.Pages.state c.args.space.now) c.args.self.now c.args.at.now pages c.requires.way chain

pub returns-in-None-clause-cause : goal.returns-in-None-clause-cause
returns-in-None-clause-cause g c =
    let a : Space = g.S.Pages.state c.args.space.now in
    let m : Space = g.S.Pages.state c.take_from.new.space in
    let d : Space = g.S.Pages.state c.take_from-2.new.space in
    let f = sym (c.next.ensures ∙ ap (λ p. m.next (key p)) c.temp_page.ensures) ∙ c.in-Some-next.is in
    subst (λ z. HasCause a d (Some z)) (sym c.damaged.ensures)
    (damage_cause a d (temp_page c.in-Some-next.next) check.Size
    (HasCause_behind a m d None c.in_ok-found.ensures.looks.steady.told c.in_ok-found.ensures.cause c.in_ok-found-2.ensures.cause)
    (λ told. second_some a m c.args.self.now c.args.at.now c.from-start.result c.in-Some.no c.in-Some-next.next c.in_ok-found.field-0 c.in_ok-found-2.field-0
    c.take_from-2.new.out.items c.take_from.new.out.items c.requires.way c.from-start.ensures c.in-Some.is c.in_default-2.is c.in_ok-found.ensures.next c.in_ok-found.ensures.looks f
    c.in-None.is c.in_ok-found-2.ensures.next told))

pub returns-in-None-clause-page : goal.returns-in-None-clause-page
returns-in-None-clause-page g c = λ pages chain.
    let m : Space = g.S.Pages.state c.take_from.new.space in
    let on = second_page (g.S.Pages.state c.args.space.now) m c.args.self.now c.args.at.now c.from-start.result c.in-Some.no c.in-Some-next.next pages c.requires.way chain
    c.from-start.ensures c.in-Some.is c.in_ok-found.ensures.looks (sym (c.next.ensures ∙ ap (λ p. m.next (key p)) c.temp_page.ensures) ∙ c.in-Some-next.is) in
    subst (λ z. NamesOneOf pages z) (sym c.damaged.ensures) (names_one pages c.in-Some-next.next (fault.Damaged (temp_page c.in-Some-next.next) check.Size) on refl)
