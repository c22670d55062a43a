use Rattle.std.proofs.Common.{◌+◌, ◌%◌, ℕ, List, ◌∙◌, sym, length-set, slice_set}
use Rattle.hg_io.specs.contracts.device.MemDevicePageDevice.TheImpl as mem
use Rattle.hg_base.specs.Space.{key, zero_page, length-zero_page}
use Rattle.hg_pool.specs.Loans.{after_write_of, writes_of}
use Rattle.hg_pool.specs.Shown.{state_of}
use Rattle.hg_pool.proofs.Leaving.{none-same, none-made-written, made-pinned, made-bytes, written-pinned}
use Rattle.hg_pool.proofs.tests.make.Goals as goal

pub returns-in_err-pin-clause-none_out : goal.returns-in_err-pin-clause-none_out
returns-in_err-pin-clause-none_out c = none-same _ _ c.requires.none_out c.in_err-pin.ensures.err

pub bytes_mut-bytes-requires : goal.bytes_mut-bytes-requires
bytes_mut-bytes-requires c = made-pinned _ _ _ c.in_ok-pin.pin.page c.in_ok-pin.ensures.ok

pub unpin-requires : goal.unpin-requires
unpin-requires c =
    let s = c.fresh.new.self in
    let p : ℕ = key c.in_ok-pin.pin.page in
    let w : List ℕ = slice_set c.bytes_mut-bytes.result.now 0 (c.page_of-no.result.no % 255 + 1) in
    let out = made-pinned _ _ _ c.in_ok-pin.pin.page c.in_ok-pin.ensures.ok in
    let long = length-set c.bytes_mut-bytes.result.now 0 (c.page_of-no.result.no % 255 + 1) ∙ c.bytes_mut-bytes.ensures.len ∙ sym length-zero_page in
    written-pinned (state_of mem.ghosts mem.ghosts s) (state_of mem.ghosts mem.ghosts (after_write_of s p w)) p w
    (writes_of mem.ghosts mem.ghosts s p zero_page w (made-bytes _ _ _ c.in_ok-pin.pin.page c.in_ok-pin.ensures.ok) out long) out

pub returns-clause-none_out : goal.returns-clause-none_out
returns-clause-none_out c =
    let s = c.fresh.new.self in
    let p : ℕ = key c.in_ok-pin.pin.page in
    let w : List ℕ = slice_set c.bytes_mut-bytes.result.now 0 (c.page_of-no.result.no % 255 + 1) in
    let out = made-pinned _ _ _ c.in_ok-pin.pin.page c.in_ok-pin.ensures.ok in
    let long = length-set c.bytes_mut-bytes.result.now 0 (c.page_of-no.result.no % 255 + 1) ∙ c.bytes_mut-bytes.ensures.len ∙ sym length-zero_page in
    none-made-written _ (state_of mem.ghosts mem.ghosts s) (state_of mem.ghosts mem.ghosts (after_write_of s p w)) _ _ c.in_ok-pin.pin.page w c.requires.none_out c.in_ok-pin.ensures.ok
    (writes_of mem.ghosts mem.ghosts s p zero_page w (made-bytes _ _ _ c.in_ok-pin.pin.page c.in_ok-pin.ensures.ok) out long) c.unpin.ensures.after
