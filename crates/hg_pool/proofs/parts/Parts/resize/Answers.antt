use Rattle.std.proofs.Common.{ℕ, ◌∙◌, ap, refl, arith}
use Rattle.hg_base.specs.Space.{Space}
use Rattle.hg_pool.specs.declared.parts.Parts.{Parts}
use Rattle.hg_pool.specs.Shown.{disks_of, current_of}
use Rattle.hg_pool.specs.Resizing.{with_current}
use Rattle.hg_pool.proofs.Resized.{ready, ready-now, ready-sound, ready-shown, keeps-below, cleaned-none, writes-none, passes-same, none-out}
use Rattle.hg_pool.proofs.parts.Parts.resize.Goals as goal

pub returns-in_ok-clean_from-clause-whole : goal.returns-in_ok-clean_from-clause-whole
returns-in_ok-clean_from-clause-whole g c =
    let a : Parts g.row.M.Denot g.row.T.Denot = c.args.self.now in
    let b : Parts g.row.M.Denot g.row.T.Denot = c.clean_from.new.self in
    let n : ℕ = c.args.count in
    ready-sound g.M.PageDevice g.T.PageDevice b n c.shrink.new.self (ready g.M.PageDevice g.T.PageDevice a b n c.requires.whole c.requires.none_out c.requires.reserved c.in_ok-clean_from.ensures.cleaned) c.requires.at_least c.shrink.ensures

pub returns-in_ok-clean_from-clause-ok : goal.returns-in_ok-clean_from-clause-ok
returns-in_ok-clean_from-clause-ok g c =
    let a : Parts g.row.M.Denot g.row.T.Denot = c.args.self.now in
    let b : Parts g.row.M.Denot g.row.T.Denot = c.clean_from.new.self in
    let n : ℕ = c.args.count in
    ready-shown g.M.PageDevice g.T.PageDevice b n c.shrink.new.self (ready g.M.PageDevice g.T.PageDevice a b n c.requires.whole c.requires.none_out c.requires.reserved c.in_ok-clean_from.ensures.cleaned) c.shrink.ensures
    ∙ ap (λ (k : Space). with_current k n) (passes-same (disks_of g.M.PageDevice g.T.PageDevice a) (disks_of g.M.PageDevice g.T.PageDevice b) a.store b.store tt c.in_ok-clean_from.ensures.cleaned.passes)

pub returns-in_ok-clean_from-clause-keeps : goal.returns-in_ok-clean_from-clause-keeps
returns-in_ok-clean_from-clause-keeps g c =
    let a : Parts g.row.M.Denot g.row.T.Denot = c.args.self.now in
    let b : Parts g.row.M.Denot g.row.T.Denot = c.clean_from.new.self in
    keeps-below g.M.PageDevice g.T.PageDevice a b c.args.count (current_of a) c.shrink.new.self c.in_ok-clean_from.ensures.cleaned c.shrink.ensures

pub returns-else-count-clause-whole : goal.returns-else-count-clause-whole
returns-else-count-clause-whole g c =
    let a : Parts g.row.M.Denot g.row.T.Denot = c.args.self.now in
    let n : ℕ = c.args.count in
    ready-sound g.M.PageDevice g.T.PageDevice a n c.grow.new.self (ready-now g.M.PageDevice g.T.PageDevice a n c.requires.whole c.requires.none_out c.requires.reserved (let l = c.if-count.false in omega (arith, l))) c.requires.at_least c.grow.ensures

pub returns-else-count-clause-ok : goal.returns-else-count-clause-ok
returns-else-count-clause-ok g c =
    let a : Parts g.row.M.Denot g.row.T.Denot = c.args.self.now in
    let n : ℕ = c.args.count in
    ready-shown g.M.PageDevice g.T.PageDevice a n c.grow.new.self (ready-now g.M.PageDevice g.T.PageDevice a n c.requires.whole c.requires.none_out c.requires.reserved (let l = c.if-count.false in omega (arith, l))) c.grow.ensures

pub returns-else-count-clause-written : goal.returns-else-count-clause-written
returns-else-count-clause-written g c =
    let a : Parts g.row.M.Denot g.row.T.Denot = c.args.self.now in
    let b : Parts g.row.M.Denot g.row.T.Denot = record a { store = record a.store { frames = c.grow.new.self } } in
    writes-none g.M.PageDevice g.T.PageDevice a b c.args.count (current_of a) refl refl (let l = c.if-count.false in omega (arith, l))

pub returns-else-count-clause-keeps : goal.returns-else-count-clause-keeps
returns-else-count-clause-keeps g c =
    let a : Parts g.row.M.Denot g.row.T.Denot = c.args.self.now in
    keeps-below g.M.PageDevice g.T.PageDevice a a c.args.count c.args.count c.grow.new.self (cleaned-none g.M.PageDevice g.T.PageDevice a c.args.count c.requires.whole) c.grow.ensures

pub clean_from-requires-clause-free : goal.clean_from-requires-clause-free
clean_from-requires-clause-free g c =
    none-out (disks_of g.M.PageDevice g.T.PageDevice c.args.self.now) c.args.self.now.store c.requires.whole c.requires.none_out

pub shrink-requires-clause-free : goal.shrink-requires-clause-free
shrink-requires-clause-free g c =
    let a : Parts g.row.M.Denot g.row.T.Denot = c.args.self.now in
    let b : Parts g.row.M.Denot g.row.T.Denot = c.clean_from.new.self in
    λ f _. (ready g.M.PageDevice g.T.PageDevice a b c.args.count c.requires.whole c.requires.none_out c.requires.reserved c.in_ok-clean_from.ensures.cleaned).free f
