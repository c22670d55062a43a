use Rattle.std.specs.Prelude.{◌≡◌, ℕ, List, false, Some, Ok}
use Rattle.std.proofs.Common.{sym, ◌∙◌, ap, subst}
use Rattle.hg_base.specs.Space.{Space, key, with_bytes, without_pin}
use Rattle.hg_btree.specs.Nodes.{IsNode}
use Rattle.hg_btree.proofs.Seeking.{damage_cause}
use Rattle.hg_btree.proofs.Touching.{changed, looked, cause_behind, told_is, pinned_here}
use Rattle.hg_btree.proofs.change.take_from.Goals as goal

pub returns-in-Ok-true-clause-takes : goal.returns-in-Ok-true-clause-takes
returns-in-Ok-true-clause-takes g c =
    let a : Space = g.S.Pages.state c.args.space.now in
    let m : Space = g.S.Pages.state c.open.new.space in
    let d : Space = g.S.Pages.state c.unpin.new.self in
    let k : ℕ = key (g.S.Pages.pin_page c.in_ok-pin.pin) in
    let ke : k ≡ key c.args.page = ap key c.in_ok-pin.ensures.names in
    let old : List ℕ = c.bytes_mut.result.now in
    let new : List ℕ = c.take_out-answer.new.page in
    let i = c.in_ok-pin.ensures.ok in
    let value : m.bytes (key c.args.page) ≡ Some old = ap m.bytes (sym ke) ∙ c.bytes_mut.ensures.value in
    let law : g.S.Pages.state (g.S.Pages.after_write c.open.new.space k new) ≡ with_bytes m k new =
    g.met.S.Pages.writes c.open.new.space k old new c.bytes_mut.ensures.value (ap m.pinned ke ∙ pinned_here a m (key c.args.page) i) c.take_out-answer.auto.page in
    let e : d ≡ without_pin (with_bytes m (key c.args.page) new) (key c.args.page) =
    c.unpin.ensures ∙ ap (λ s. without_pin s k) law ∙ ap (λ q. without_pin (with_bytes m q new) q) ke in
    changed a m d c.args.page old new _ c.requires.no_pins i value e c.in_ok-pin.ensures.cause.later
    (λ link es h. c.in-Ok-true.ensures.taken (ap Ok c.in-Ok-true.field-0-test) link es h)

pub returns-in-Ok-false-clause-takes : goal.returns-in-Ok-false-clause-takes
returns-in-Ok-false-clause-takes g c =
    let a : Space = g.S.Pages.state c.args.space.now in
    let m : Space = g.S.Pages.state c.open.new.space in
    let d : Space = g.S.Pages.state c.unpin.new.self in
    let k : ℕ = key (g.S.Pages.pin_page c.in_ok-pin.pin) in
    let ke : k ≡ key c.args.page = ap key c.in_ok-pin.ensures.names in
    let old : List ℕ = c.bytes_mut.result.now in
    let new : List ℕ = c.take_out-answer.new.page in
    let i = c.in_ok-pin.ensures.ok in
    let value : m.bytes (key c.args.page) ≡ Some old = ap m.bytes (sym ke) ∙ c.bytes_mut.ensures.value in
    let law : g.S.Pages.state (g.S.Pages.after_write c.open.new.space k new) ≡ with_bytes m k new =
    g.met.S.Pages.writes c.open.new.space k old new c.bytes_mut.ensures.value (ap m.pinned ke ∙ pinned_here a m (key c.args.page) i) c.take_out-answer.auto.page in
    let e : d ≡ without_pin (with_bytes m (key c.args.page) new) (key c.args.page) =
    c.unpin.ensures ∙ ap (λ s. without_pin s k) law ∙ ap (λ q. without_pin (with_bytes m q new) q) ke in
    looked a m d c.args.page old new _ c.requires.no_pins i value e c.in_ok-pin.ensures.cause.later
    (c.in-Ok-false.ensures.kept (ap Ok c.in-Ok-false.field-0-test)) (λ link es h. c.in-Ok-false.ensures.missed (ap Ok c.in-Ok-false.field-0-test) link es h)

pub returns-in-Err-clause-cause : goal.returns-in-Err-clause-cause
returns-in-Err-clause-cause g c =
    let a : Space = g.S.Pages.state c.args.space.now in
    let m : Space = g.S.Pages.state c.open.new.space in
    let d : Space = g.S.Pages.state c.unpin.new.self in
    let k : ℕ = key (g.S.Pages.pin_page c.in_ok-pin.pin) in
    let ke : k ≡ key c.args.page = ap key c.in_ok-pin.ensures.names in
    let old : List ℕ = c.bytes_mut.result.now in
    let new : List ℕ = c.take_out-answer.new.page in
    let i = c.in_ok-pin.ensures.ok in
    let value : m.bytes (key c.args.page) ≡ Some old = ap m.bytes (sym ke) ∙ c.bytes_mut.ensures.value in
    let law : g.S.Pages.state (g.S.Pages.after_write c.open.new.space k new) ≡ with_bytes m k new =
    g.met.S.Pages.writes c.open.new.space k old new c.bytes_mut.ensures.value (ap m.pinned ke ∙ pinned_here a m (key c.args.page) i) c.take_out-answer.auto.page in
    let e : d ≡ without_pin (with_bytes m (key c.args.page) new) (key c.args.page) =
    c.unpin.ensures ∙ ap (λ s. without_pin s k) law ∙ ap (λ q. without_pin (with_bytes m q new) q) ke in
    damage_cause a d c.args.page c.in-Err.check (cause_behind a m d (key c.args.page) new e c.in_ok-pin.ensures.cause)
    (λ told.
    let s = c.requires.sound told in
    c.in-Err.ensures.damaged s.1 s.2 (subst (λ b. IsNode false b 0 s.1 s.2) (told_is a m (key c.args.page) old s.0 i value s.3) s.4))
