-- What a call of a pool asks of its devices, and what the pool counts of it. Our own rule: a count stops at 2^64 - 1.
use Rattle.std.specs.Prelude.{◌≡◌, ℕ, ◌<◌, Bool, true, false, Option, None, Some, Result, IfErr, if◌then◌else◌}
use Rattle.hg_base.specs.Count.{raised}
use Rattle.hg_base.specs.Causes.{device_fault}
use Rattle.hg_base.specs.Space.{Space, key_in}
use Rattle.hg_base.specs.declared.File.{File}
use Rattle.hg_base.specs.declared.File.TheVariants.{Main, Temp}
use Rattle.hg_base.specs.declared.PageId.{PageId}
use Rattle.hg_base.specs.declared.pages.PageFault.{PageFault}
use Rattle.hg_pool.specs.Disks.{Disks}
use Rattle.hg_pool.specs.Seen.{Frame}
use Rattle.hg_pool.specs.declared.PoolCounts.{PoolCounts}

-- how often each device was asked, by its own counts
pub record Calls : Type 0 where
  pub main_reads : ℕ
  pub main_writes : ℕ
  pub temp_reads : ℕ
  pub temp_writes : ℕ

abbrev pub calls_in : Disks → Calls
calls_in d = record { main_reads = d.main.reads; main_writes = d.main.writes; temp_reads = d.temp.reads; temp_writes = d.temp.writes }

-- after a page of this file was read, or none was
abbrev pub with_read : Calls → Option File → Calls
with_read n None = n
with_read n (Some Main) = record n { main_reads = raised n.main_reads 1 }
with_read n (Some Temp) = record n { temp_reads = raised n.temp_reads 1 }

-- after a page of this file was written, or none was
abbrev pub with_write : Calls → Option File → Calls
with_write n None = n
with_write n (Some Main) = record n { main_writes = raised n.main_writes 1 }
with_write n (Some Temp) = record n { temp_writes = raised n.temp_writes 1 }

-- a count of such calls of either device
abbrev pub with_call : ℕ → Option File → ℕ
with_call n None = n
with_call n (Some file) = raised n 1

-- At most one page was written, of this file, and at most one was read, of that file: each device was asked just so
-- often, and the pool counted just that.
pub record Asks (d : Disks) (n : PoolCounts) (e : Disks) (m : PoolCounts) (written read : Option File) : Type 0 where
  pub calls : calls_in e ≡ with_read (with_write (calls_in d) written) read
  pub reads : m.reads ≡ with_call n.reads read
  pub writes : m.writes ≡ with_call n.writes written

-- the file of the page of a frame, where its bytes are newer than those on its device: the page is then written
-- before it leaves the frame
abbrev pub owed_by : Bool → Option PageId → Option File
owed_by dirty None = None
owed_by dirty (Some page) = if dirty then Some page.file else None

abbrev pub owed_of : Frame → Option File
owed_of x = owed_by x.dirty x.page

-- the device of this file failed
abbrev pub IsFaultOf : Option File → PageFault → Type 0
IsFaultOf None fault = ⊥
IsFaultOf (Some file) fault = fault ≡ device_fault file

-- each page of its file below it is taken
abbrev pub IsLowest : Space → PageId → Type 0
IsLowest s page = (n : ℕ) → n < page.no → s.taken (key_in page.file n) ≡ true

-- no page is taken
abbrev pub IsUnused : Space → Type 0
IsUnused s = (q : ℕ) → s.taken q ≡ false

-- a call on a space in which no page was taken calls no device, so that no device fails in it
pub record CallsNone {M T X E : Type 0} (main now_main : M) (temp now_temp : T) (r : Result X E) (full : E) : Type 0 where
  pub main_same : now_main ≡ main
  pub temp_same : now_temp ≡ temp
  pub only_full : IfErr r (λ e. e ≡ full)

-- the count of evictions after the page of a frame left it, if the frame had one
abbrev pub evicted : Option PageId → ℕ → ℕ
evicted None n = n
evicted (Some page) n = raised n 1
