use Rattle.std.specs.Prelude.{◌≡◌, ℕ, List, false, Some, Ok}
use Rattle.std.proofs.Common.{sym, ◌∙◌, ap, subst}
use Rattle.hg_base.specs.Space.{Space, key, with_bytes, without_pin}
use Rattle.hg_btree.specs.Entries.{Entry}
use Rattle.hg_btree.specs.Nodes.{IsNode}
use Rattle.hg_btree.specs.Putting.{Adds, Has, IsFullFor}
use Rattle.hg_btree.proofs.Inserting.{into}
use Rattle.hg_btree.proofs.Seeking.{damage_cause}
use Rattle.hg_btree.proofs.Touching.{changed, looked, cause_behind, told_is, pinned_here}
use Rattle.hg_btree.proofs.change.put_into.Goals as goal

pub returns-in-Ok-clause-puts : goal.returns-in-Ok-clause-puts
returns-in-Ok-clause-puts g c =
    let a : Space = g.S.Pages.state c.args.space.now in
    let m : Space = g.S.Pages.state c.open.new.space in
    let d : Space = g.S.Pages.state c.unpin.new.self in
    let k : ℕ = key (g.S.Pages.pin_page c.in_ok-pin.pin) in
    let ke : k ≡ key c.args.page = ap key c.in_ok-pin.ensures.names in
    let old : List ℕ = c.bytes_mut.result.now in
    let new : List ℕ = c.put_in-answer.new.page in
    let i = c.in_ok-pin.ensures.ok in
    let value : m.bytes (key c.args.page) ≡ Some old = ap m.bytes (sym ke) ∙ c.bytes_mut.ensures.value in
    let law : g.S.Pages.state (g.S.Pages.after_write c.open.new.space k new) ≡ with_bytes m k new =
    g.met.S.Pages.writes c.open.new.space k old new c.bytes_mut.ensures.value (ap m.pinned ke ∙ pinned_here a m (key c.args.page) i) c.put_in-answer.auto.page in
    let e : d ≡ without_pin (with_bytes m (key c.args.page) new) (key c.args.page) =
    c.unpin.ensures ∙ ap (λ s. without_pin s k) law ∙ ap (λ q. without_pin (with_bytes m q new) q) ke in
    let t : Entry = record { key = c.args.key.now; place = c.args.place; child = 0 } in
    into a d c.args.page t c.in-Ok.how
    (λ q. changed a m d c.args.page old new (λ b n. (link : ℕ) (es : List Entry) → IsNode false b 0 link es → Adds n link es t) c.requires.no_pins i value e c.in_ok-pin.ensures.cause.later
    (λ link es h. c.in-Ok.ensures.new (ap Ok q) link es h))
    (λ q. looked a m d c.args.page old new (λ b. (link : ℕ) (es : List Entry) → IsNode false b 0 link es → Has es t) c.requires.no_pins i value e c.in_ok-pin.ensures.cause.later
    (c.in-Ok.ensures.old (ap Ok q)) (λ link es h. c.in-Ok.ensures.had (ap Ok q) link es h))
    (λ q. looked a m d c.args.page old new (λ b. IsFullFor b t) c.requires.no_pins i value e c.in_ok-pin.ensures.cause.later
    ((c.in-Ok.ensures.no_room (ap Ok q)).0) ((c.in-Ok.ensures.no_room (ap Ok q)).1))

pub returns-in-Err-clause-cause : goal.returns-in-Err-clause-cause
returns-in-Err-clause-cause g c =
    let a : Space = g.S.Pages.state c.args.space.now in
    let m : Space = g.S.Pages.state c.open.new.space in
    let d : Space = g.S.Pages.state c.unpin.new.self in
    let k : ℕ = key (g.S.Pages.pin_page c.in_ok-pin.pin) in
    let ke : k ≡ key c.args.page = ap key c.in_ok-pin.ensures.names in
    let old : List ℕ = c.bytes_mut.result.now in
    let new : List ℕ = c.put_in-answer.new.page in
    let i = c.in_ok-pin.ensures.ok in
    let value : m.bytes (key c.args.page) ≡ Some old = ap m.bytes (sym ke) ∙ c.bytes_mut.ensures.value in
    let law : g.S.Pages.state (g.S.Pages.after_write c.open.new.space k new) ≡ with_bytes m k new =
    g.met.S.Pages.writes c.open.new.space k old new c.bytes_mut.ensures.value (ap m.pinned ke ∙ pinned_here a m (key c.args.page) i) c.put_in-answer.auto.page in
    let e : d ≡ without_pin (with_bytes m (key c.args.page) new) (key c.args.page) =
    c.unpin.ensures ∙ ap (λ s. without_pin s k) law ∙ ap (λ q. without_pin (with_bytes m q new) q) ke in
    damage_cause a d c.args.page c.in-Err.check (cause_behind a m d (key c.args.page) new e c.in_ok-pin.ensures.cause)
    (λ told.
    let s = c.requires.sound told in
    c.in-Err.ensures.damaged s.1 s.2 (subst (λ b. IsNode false b 0 s.1 s.2) (told_is a m (key c.args.page) old s.0 i value s.3) s.4))
