-- A heap that is locked, and what locking does to its pages. Our own rule.
use Rattle.std.specs.Prelude.{◌≡◌, ℕ, ◌<◌, ◌⊎◌, List, map}
use Rattle.std.specs.List.{AllByRecursion}
use Rattle.hg_io.specs.declared.device.PageDevice.{Ghosts}
use Rattle.hg_base.specs.Content.{Objects}
use Rattle.hg_base.specs.HeapPage.{Stands}
use Rattle.hg_base.specs.HeapStates.{NamesHeapPage}
use Rattle.hg_base.specs.declared.pages.PageFault.{PageFault}
use Rattle.hg_base.specs.Lines.{AreApart}
use Rattle.hg_base.specs.Space.{Space}
use Rattle.hg_raw.specs.Frames.{ChainSeen, numbers}
use Rattle.hg_pool.specs.Lending.{region_of}
use Rattle.hg_pool.specs.Shown.{max_of}
use Rattle.hg_pool.specs.declared.parts.Parts.{Parts}
use Rattle.hg_reloc.specs.Blocks.{frame}
use Rattle.hg_reloc.specs.Moves.{Moves}
use Rattle.hg_reloc.specs.StandingLaws.{LeadsTo, AreRelocated}
use Rattle.hg_heap.specs.Resting.{AreTold, Keeps, temp_key}
use Rattle.hg_heap.specs.Handing.{AreOut, contents}

module _ {M T : Type 0} where
  -- The pages of a heap that is locked: they were handed out, each is in the frame beside it, and no two
  -- are in one frame.
  pub record IsLockedIn (m : Ghosts M) (t : Ghosts T) (p : Parts M T) (pages : List ℕ) (c : ChainSeen) : Type 0 where
    pub each : AreOut m t p pages c.frames
    pub apart : AreApart (numbers c.frames)
    pub below : AllByRecursion (λ f. f < max_of p) (numbers c.frames)
    pub of_region : c.region ≡ region_of p

-- the objects of the heap, whatever they are, stand in the frames in which its pages stand now
abbrev pub KeepsObjects : Space → ℕ → List ℕ → ChainSeen → Type 0
KeepsObjects s max pages c = (o : Objects) → Keeps s max pages o → Stands o (numbers c.frames) (contents c.frames)

-- Where the space told the bytes of the pages: each address of them was moved, once, under a map that
-- leads the frames that the pages named to those in which they stand now, and each page names the frame
-- in which it stands. Every other byte is as it was.
pub record MovesWords (m : Moves) (frames : List ℕ) (olds news : List (List ℕ)) : Type 0 where
  pub leads : LeadsTo m (map frame olds) frames
  pub moved : AreRelocated m frames olds news

abbrev pub MovesAddresses : Space → List ℕ → Moves → ChainSeen → Type 0
MovesAddresses s pages m c = (bytes : List (List ℕ)) → AreTold s pages bytes → (contents c.frames ≡ bytes) ⊎ MovesWords m (numbers c.frames) bytes (contents c.frames)

-- a heap whose pages all came back into the frames that they name keeps its bytes
abbrev pub KeepsBytes : Space → List ℕ → ChainSeen → Type 0
KeepsBytes s pages c = (bytes : List (List ℕ)) → AreTold s pages bytes → map frame bytes ≡ numbers c.frames → contents c.frames ≡ bytes

-- damage that is found is said of a page of the heap
abbrev pub NamesPageOf : List ℕ → PageFault → Type 0
NamesPageOf pages fault = NamesHeapPage (map temp_key pages) fault
