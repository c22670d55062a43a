-- When a call over a space may fail, and what it counts. Our own rule.
use Rattle.std.specs.Prelude.{◌≡◌, ◌≤◌, false, Result, Ok, Err, Option, None, Some, IfSome, ⊤}
use Rattle.hg_base.specs.Count.{raised, Rose}
use Rattle.hg_base.specs.Space.{Space, Counts, IsFull}
use Rattle.hg_base.specs.declared.File.{File}
use Rattle.hg_base.specs.declared.File.TheVariants as file
use Rattle.hg_base.specs.declared.pages.PageFault.{PageFault}
use Rattle.hg_base.specs.declared.pages.PageFault.TheVariants as fault

-- The counts behind a call that found this fault, or none: the fault's own count is one more, the
-- device's and that of the space, and no other is; damage is not counted.
abbrev pub counts_after : Counts → Option PageFault → Counts
counts_after n None = n
counts_after n (Some fault.MainFault) = record n { main_device = raised n.main_device 1; main = raised n.main 1 }
counts_after n (Some fault.TempFault) = record n { temp_device = raised n.temp_device 1; temp = raised n.temp 1 }
counts_after n (Some fault.MainFull) = record n { main_full = raised n.main_full 1 }
counts_after n (Some fault.TempFull) = record n { temp_full = raised n.temp_full 1 }
counts_after n (Some (fault.Damaged page check)) = n

-- the fault that an answer tells, if any; other types of answers have a function like it
abbrev pub fault_of : {T : Type 0} → Result T PageFault → Option PageFault
fault_of (Ok x) = None
fault_of (Err f) = Some f

-- No count fell.
pub record Later (a b : Counts) : Type 0 where
  pub main_device : a.main_device ≤ b.main_device
  pub temp_device : a.temp_device ≤ b.temp_device
  pub main : a.main ≤ b.main
  pub temp : a.temp ≤ b.temp
  pub main_full : a.main_full ≤ b.main_full
  pub temp_full : a.temp_full ≤ b.temp_full

-- Damage is never found where the space tells its bytes.
abbrev pub MayBeFound : Space → PageFault → Type 0
MayBeFound a fault.MainFault = ⊤
MayBeFound a fault.TempFault = ⊤
MayBeFound a fault.MainFull = ⊤
MayBeFound a fault.TempFull = ⊤
MayBeFound a (fault.Damaged page check) = a.told ≡ false

-- The fault of a call over a space, if it found one, has its cause in that call: each count is as
-- it was but the fault's own, which is one more. Without a fault each count is as it was.
pub record HasCause (a b : Space) (found : Option PageFault) : Type 0 where
  pub later : Later a.counts b.counts
  pub counts : b.counts ≡ counts_after a.counts found
  pub damage : IfSome found (λ f. MayBeFound a f)

-- the fault of a file's device
abbrev pub device_fault : File → PageFault
device_fault file.Main = fault.MainFault
device_fault file.Temp = fault.TempFault

-- the fault of a file that is full
abbrev pub full_fault : File → PageFault
full_fault file.Main = fault.MainFull
full_fault file.Temp = fault.TempFull

-- A pin fails by a device alone.
abbrev pub PinFault : PageFault → Type 0
PinFault fault.MainFault = ⊤
PinFault fault.TempFault = ⊤
PinFault fault.MainFull = ⊥
PinFault fault.TempFull = ⊥
PinFault (fault.Damaged page check) = ⊥

-- A new page fails by a device, or where all pages of its own file are taken.
abbrev pub FreshFault : File → Space → PageFault → Type 0
FreshFault f a fault.MainFault = ⊤
FreshFault f a fault.TempFault = ⊤
FreshFault f a fault.MainFull = (f ≡ file.Main) × IsFull a f
FreshFault f a fault.TempFull = (f ≡ file.Temp) × IsFull a f
FreshFault f a (fault.Damaged page check) = ⊥

-- What such a cause says of the counts alone, for those above who count faults.

-- The device of the main file failed: its own count rose, and so did that of the space.
abbrev pub MainFailed : Counts → Counts → Type 0
MainFailed a b = Rose a.main b.main × Rose a.main_device b.main_device

abbrev pub TempFailed : Counts → Counts → Type 0
TempFailed a b = Rose a.temp b.temp × Rose a.temp_device b.temp_device

-- The files were not found full meanwhile.
pub record NoneFull (a b : Counts) : Type 0 where
  pub main_full : b.main_full ≡ a.main_full
  pub temp_full : b.temp_full ≡ a.temp_full
