use Rattle.std.specs.Prelude.{ℕ, ◌≡◌, ◌+◌, ◌-◌, length}
use borrow.Rule.Slice.PartMut.{put_mid}
use Rattle.std.proofs.Common.{ap, refl, arith}
use Rattle.hg_run.proofs.Pages.{put_behind, put_clean, fits_yes, fits_no}
use Rattle.hg_run.proofs.page.put_in.Goals as goal

pub returns-then-after-gt-PAGE-clause-put : goal.returns-then-after-gt-PAGE-clause-put
returns-then-after-gt-PAGE-clause-put c = (
  record {
    full = λ rs h. fits_no c.args.page.now rs c.args.bytes.now c.in_ok-end.end h (c.in_ok-end.ensures.end.0) (let l = c.if-after-gt-PAGE.true in omega arith);
  },
  refl,
)

pub returns-clause-put : goal.returns-clause-put
returns-clause-put c =
    let l = c.if-after-gt-PAGE.false in
    let some = c.requires.some in
    let few = c.requires.few in
    let end : ℕ = c.in_ok-end.end in
    let n : ℕ = end + 2 + length c.args.bytes.now - (end + 2) in
    let en : n ≡ length c.args.bytes.now = omega arith in
    record {
      room = λ rs h. fits_yes c.args.page.now rs c.args.bytes.now end h (c.in_ok-end.ensures.end.0) (omega arith);
      page = λ rs h. put_behind c.args.page.now c.put_u16.new.b (put_mid (end + 2) n c.put_u16.new.b c.copy_from_slice.new.self) c.put_u16-2.new.b c.args.bytes.now rs
          end (end + 2 + length c.args.bytes.now) n
          h (record { some = some; few = few }) (c.in_ok-end.ensures.end.0) refl (omega arith) en c.put_u16.ensures (ap (put_mid (end + 2) n c.put_u16.new.b) c.copy_from_slice.ensures.after) c.put_u16-2.ensures;
      clean = λ rs h k. put_clean c.args.page.now c.put_u16.new.b (put_mid (end + 2) n c.put_u16.new.b c.copy_from_slice.new.self) c.put_u16-2.new.b c.args.bytes.now
          end (end + 2 + length c.args.bytes.now) n h.whole k (c.in_ok-end.ensures.end.0) (c.in_ok-end.ensures.end.1) refl (omega arith) en
          c.put_u16.ensures (ap (put_mid (end + 2) n c.put_u16.new.b) c.copy_from_slice.ensures.after) c.put_u16-2.ensures;
    }
