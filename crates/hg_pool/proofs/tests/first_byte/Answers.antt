use Rattle.std.proofs.Common.{◌∙◌, ap}
use Rattle.hg_io.specs.contracts.device.MemDevicePageDevice.TheImpl as mem
use Rattle.hg_base.specs.Space.{Space, key, without_pin}
use Rattle.hg_base.specs.declared.PageId.{PageId}
use Rattle.hg_pool.specs.Shown.{state_of}
use Rattle.hg_pool.proofs.Leaving.{none-same, none-pinned, pin-there}
use Rattle.hg_pool.proofs.tests.first_byte.Goals as goal

pub returns-in_err-pin-clause-none_out : goal.returns-in_err-pin-clause-none_out
returns-in_err-pin-clause-none_out c = none-same _ _ c.requires.none_out c.in_err-pin.ensures.err

pub bytes-requires : goal.bytes-requires
bytes-requires c =
    let b : Space = state_of mem.ghosts mem.ghosts c.pin.new.self in
    ap (λ (p : PageId). b.pinned (key p)) c.in_ok-pin.ensures.names ∙ pin-there _ b _ c.in_ok-pin.ensures.ok

pub unpin-requires : goal.unpin-requires
unpin-requires c =
    let b : Space = state_of mem.ghosts mem.ghosts c.pin.new.self in
    ap (λ (p : PageId). b.pinned (key p)) c.in_ok-pin.ensures.names ∙ pin-there _ b _ c.in_ok-pin.ensures.ok

pub returns-clause-none_out : goal.returns-clause-none_out
returns-clause-none_out c =
    let b : Space = state_of mem.ghosts mem.ghosts c.pin.new.self in
    none-pinned _ b _ _ c.requires.none_out c.in_ok-pin.ensures.ok (c.unpin.ensures.after ∙ ap (λ (p : PageId). without_pin b (key p)) c.in_ok-pin.ensures.names)
