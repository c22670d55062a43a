-- What the steps of a call ask of the devices together.
use Rattle.std.specs.Prelude.{◌≡◌, Bool, true, false, Option, None, Some, if◌then◌else◌}
use Rattle.std.proofs.Common.{◌∙◌, ap, refl}
use Rattle.hg_base.specs.declared.File.{File}
use Rattle.hg_base.specs.declared.PageId.{PageId}
use Rattle.hg_pool.specs.Disks.{Disks}
use Rattle.hg_pool.specs.Passing.{IsClean}
use Rattle.hg_pool.specs.Work.{Asks, with_read, with_call, owed_by, owed_of}
use Rattle.hg_pool.specs.Seen.{Frame}
use Rattle.hg_pool.specs.declared.PoolCounts.{PoolCounts}

pub owed-some : (x : Frame) (p : PageId) → x.page ≡ Some p → x.dirty ≡ true → owed_of x ≡ Some p.file
owed-some x p e d = ap (owed_by x.dirty) e ∙ ap (λ b. if b then Some p.file else None) d

none-owed : (dirty : Bool) (o : Option PageId) → ((p : PageId) → o ≡ Some p → dirty ≡ false) → owed_by dirty o ≡ None
none-owed dirty None h = refl
none-owed dirty (Some p) h = ap (λ b. if b then Some p.file else None) (h p refl)

pub owed-none : (x : Frame) → IsClean x → owed_of x ≡ None
owed-none x h = none-owed x.dirty x.page h

-- nothing is asked where no device is called and nothing is counted
pub asks-none : (d e : Disks) (n m : PoolCounts) → e ≡ d → m.reads ≡ n.reads → m.writes ≡ n.writes → Asks d n e m None None
asks-none d e n m same reads writes = record {
  calls = λ i. record {
    main_reads = (same i).main.reads;
    main_writes = (same i).main.writes;
    temp_reads = (same i).temp.reads;
    temp_writes = (same i).temp.writes;
  };
  reads = reads;
  writes = writes;
}

-- a write, and then a read
pub asks-then : (d e g : Disks) (n m k : PoolCounts) (written read : Option File) → Asks d n e m written None → Asks e m g k None read → Asks d n g k written read
asks-then d e g n m k written read p r = record {
  calls = r.calls ∙ ap (λ c. with_read c read) p.calls;
  reads = r.reads ∙ ap (λ c. with_call c read) p.reads;
  writes = r.writes ∙ p.writes;
}
