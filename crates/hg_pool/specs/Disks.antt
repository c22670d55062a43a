-- The two devices of a pool, as far as its contracts speak of them. Our own rule.
use Rattle.std.specs.Prelude.{◌≡◌, ◌≢◌, ℕ, ◌≤◌, ◌&&◌, Bool, true, List, Option, None, Some, Result, IfErr}
use Rattle.hg_io.specs.declared.device.PageDevice.{Ghosts}
use Rattle.hg_base.specs.Causes.{PinFault, fault_of}
use Rattle.hg_base.specs.Changes.{functions_agree}
use Rattle.hg_base.specs.Count.{raised}
use Rattle.hg_base.specs.declared.File.{File}
use Rattle.hg_base.specs.declared.File.TheVariants.{Main, Temp}
use Rattle.hg_base.specs.declared.pages.PageFault.{PageFault}
use Rattle.hg_base.specs.declared.pages.PageFault.TheVariants as fault
use Rattle.hg_pool.specs.Files.{by_key}
use Rattle.hg_pool.specs.declared.devices.Devices.{Devices}

-- a device: how many pages it has, whether it tells them, what stands in them, and how often it was read, was
-- written and failed
pub record Disk : Type 0 where
  pub pages : ℕ
  pub told : Bool
  pub page : ℕ → List ℕ
  pub reads : ℕ
  pub writes : ℕ
  pub faults : ℕ

abbrev pub disk_of : {D : Type 0} → Ghosts D → D → Disk
disk_of g d = record { pages = g.pages d; told = g.told d; page = g.page d; reads = g.reads d; writes = g.writes d; faults = g.faults d }

-- the device of the main file, and that of the temporary file
pub record Disks : Type 0 where
  pub main : Disk
  pub temp : Disk

-- a pool tells its bytes where both devices tell theirs
abbrev pub all_told : Disks → Bool
all_told d = d.main.told && d.temp.told

-- what stands on its device in the page with that key
abbrev pub page_on : Disks → ℕ → List ℕ
page_on d = by_key d.main.page d.temp.page

-- how many pages the device of a file has
abbrev pub pages_in : Disks → File → ℕ
pages_in d Main = d.main.pages
pages_in d Temp = d.temp.pages

abbrev pub disks_in : {M T : Type 0} → Ghosts M → Ghosts T → Devices M T → Disks
disks_in m t d = record { main = disk_of m d.main; temp = disk_of t d.temp }

-- the devices as they were, but for their pages and counts
pub record SameShape (a b : Disks) : Type 0 where
  pub told : all_told b ≡ all_told a
  pub main : b.main.pages ≡ a.main.pages
  pub temp : b.temp.pages ≡ a.temp.pages

-- and with them how many pages they have
pub same_pages_in : (a b : Disks) → SameShape a b → pages_in b ≡ pages_in a
same_pages_in a b s = functions_agree (pages_in b) (pages_in a) each
  where
    each : (file : File) → pages_in b file ≡ pages_in a file
    each Main = s.main
    each Temp = s.temp

-- no page of them changed, as far as they tell
pub record SamePages (a b : Disks) : Type 0 where
  pub shape : SameShape a b
  pub pages : all_told a ≡ true → (q : ℕ) → page_on b q ≡ page_on a q

-- no page of them changed but that with the key p, as far as they tell
pub record SameButOne (a b : Disks) (p : ℕ) : Type 0 where
  pub shape : SameShape a b
  pub others : all_told a ≡ true → (q : ℕ) → q ≢ p → page_on b q ≡ page_on a q

-- how often each device failed
pub record Faults : Type 0 where
  pub main : ℕ
  pub temp : ℕ

abbrev pub faults_in : Disks → Faults
faults_in d = record { main = d.main.faults; temp = d.temp.faults }

-- behind a call that found this fault, or none: the count of that device is one more
abbrev pub faults_after : Faults → Option PageFault → Faults
faults_after n None = n
faults_after n (Some fault.MainFault) = record n { main = raised n.main 1 }
faults_after n (Some fault.TempFault) = record n { temp = raised n.temp 1 }
faults_after n (Some fault.MainFull) = n
faults_after n (Some fault.TempFull) = n
faults_after n (Some (fault.Damaged page check)) = n

-- a call of one device fails by a fault of a device, which counts it; the other one's count stays
pub record DeviceCause {X : Type 0} (a b : Disks) (r : Result X PageFault) : Type 0 where
  pub main : a.main.faults ≤ b.main.faults
  pub temp : a.temp.faults ≤ b.temp.faults
  pub device : IfErr r PinFault
  pub counts : faults_in b ≡ faults_after (faults_in a) (fault_of r)
