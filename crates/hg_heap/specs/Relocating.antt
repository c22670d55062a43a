-- What is found in the pages of a heap that were handed out, and where their frames lead. Our own rule.
use Rattle.std.specs.Prelude.{◌≡◌, ◌≢◌, ℕ, ◌<◌, ◌==◌, ◌&&◌, ◌⊎◌, ◌++◌, not, Bool, true, false, List, [], ◌∷◌, Option, None, Some, if◌then◌else◌, ⊤}
use Rattle.std.specs.List.{AllByRecursion, list_any}
use Rattle.hg_base.specs.Content.{Object, Objects}
use Rattle.hg_base.specs.HeapFacts.{AreWellPlaced}
use Rattle.hg_base.specs.HeapPage.{Stands}
use Rattle.hg_base.specs.HeapStates.{IsHeapCheck}
use Rattle.hg_base.specs.Lines.{has_page}
use Rattle.hg_base.specs.declared.Check.TheVariants as check
use Rattle.hg_base.specs.declared.pages.PageFault.{PageFault}
use Rattle.hg_base.specs.declared.pages.PageFault.TheVariants as fault
use Rattle.hg_io.specs.declared.device.PageDevice.{Ghosts}
use Rattle.hg_raw.specs.Frames.{Frame, ChainSeen, numbers, is_in}
use Rattle.hg_pool.specs.Shown.{state_of, max_of}
use Rattle.hg_pool.specs.declared.parts.Parts.{Parts}
use Rattle.hg_reloc.specs.Blocks.{frame}
use Rattle.hg_reloc.specs.Checks.{IsRight, IsWrong}
use Rattle.hg_reloc.specs.Moves.{Moves, entry, leads_to}
use Rattle.hg_reloc.specs.Standing.{FitsPage}
use Rattle.hg_reloc.specs.StandingLaws.{AreRewritten, AreRelocated}
use Rattle.hg_heap.specs.Resting.{temp_page, pages_from}
use Rattle.hg_heap.specs.Handing.{AreOut, contents}

-- one of these pages names this frame
abbrev pub has_named : List Frame → ℕ → Bool
has_named fs f = list_any (λ (x : Frame). frame x.1 == f) fs

-- the map leads the frame that each page names to the one in which it stands, and each page is right
abbrev pub AreMapped : Moves → List Frame → Type 0
AreMapped m [] = ⊤
AreMapped m (x ∷ xs) = (entry m.entries (frame x.1) ≡ Some x.0) × IsRight x.1 m.max × AreMapped m xs

-- each page stands in the frame that it names
abbrev pub all_stay : List Frame → Bool
all_stay [] = true
all_stay (x ∷ xs) = (frame x.1 == x.0) && all_stay xs

-- a page is right, no page before it names its frame, and that frame leads to the one in which it stands
pub record ReadsPage (a b : Moves) (page : List ℕ) (f : ℕ) : Type 0 where
  pub right : IsRight page a.max
  pub new_one : entry a.entries (frame page) ≡ None
  pub entries : (g : ℕ) → entry b.entries g ≡ (if frame page == g then Some f else entry a.entries g)
  pub leads : (g : ℕ) → leads_to b.entries g ≡ (if f == g then true else leads_to a.entries g)
  pub max : b.max ≡ a.max

-- whatever the objects of a heap, this is no page of them
abbrev pub NoObjectsFit : ℕ → List ℕ → Type 0
NoObjectsFit max page = (a : ℕ → ℕ) (roots : List (Option ℕ)) (objects : List Object) (f : ℕ) → FitsPage max a roots objects f page → ⊥

-- A page is damaged: its bytes are wrong by that check, or a page before it names the same frame.
abbrev pub FindsIn : Moves → List ℕ → ℕ → PageFault → Type 0
FindsIn m page n (fault.Damaged p c) =
    (p ≡ temp_page n) × ((IsWrong page m.max c × NoObjectsFit m.max page) ⊎ ((c ≡ check.Frame) × (entry m.entries (frame page) ≢ None)))
FindsIn m page n fault.MainFault = ⊥
FindsIn m page n fault.TempFault = ⊥
FindsIn m page n fault.MainFull = ⊥
FindsIn m page n fault.TempFull = ⊥

-- one of these pages of the temporary file is damaged
abbrev pub IsDamageOf : List ℕ → PageFault → Type 0
IsDamageOf pages (fault.Damaged p c) = ((n : ℕ) × (p ≡ temp_page n) × (has_page pages n ≡ true)) × IsHeapCheck c
IsDamageOf pages fault.MainFault = ⊥
IsDamageOf pages fault.TempFault = ⊥
IsDamageOf pages fault.MainFull = ⊥
IsDamageOf pages fault.TempFull = ⊥

-- in these bytes no objects stand, in whatever frames below max
abbrev pub NothingStands : ℕ → List (List ℕ) → Type 0
NothingStands max bytes = (o : Objects) (frames : List ℕ) → Stands o frames bytes → AllByRecursion (λ f. f < max) frames → AreWellPlaced o → ⊥

module _ {M T : Type 0} where
  -- While the pages of a heap are read: those in front are in the map.
  pub record Reading (m : Ghosts M) (t : Ghosts T) (p : Parts M T) (pages : List ℕ) (c : ChainSeen) (moves : Moves) (top no left : ℕ) (flag : Bool) : Type 0 where
    pub front : List Frame
    pub back : List Frame
    pub split : c.frames ≡ front ++ back
    pub out : AreOut m t p (pages_from (state_of m t p).next no left) back
    pub among : (n : ℕ) → has_page (pages_from (state_of m t p).next no left) n ≡ true → has_page pages n ≡ true
    pub mapped : AreMapped moves front
    pub named : (g : ℕ) → has_named front g ≡ false → entry moves.entries g ≡ None
    pub leads : (g : ℕ) → leads_to moves.entries g ≡ is_in g (numbers front)
    pub moved : flag ≡ not (all_stay front)
    pub below : AllByRecursion (λ f. f < max_of p) (numbers front)
    pub small : AllByRecursion (λ f. f < 65536) (numbers front)
    pub max : moves.max ≡ top

  -- While they are rewritten: those in front are.
  pub record Moving (m : Ghosts M) (t : Ghosts T) (p : Parts M T) (c now : ChainSeen) (moves : Moves) (no left : ℕ) : Type 0 where
    pub front : List Frame
    pub done : List Frame
    pub back : List Frame
    pub was : c.frames ≡ front ++ back
    pub is : now.frames ≡ done ++ back
    pub same : numbers done ≡ numbers front
    pub out : AreOut m t p (pages_from (state_of m t p).next no left) back
    pub mapped : AreMapped moves back
    pub rewritten : AreRewritten moves (numbers front) (contents front) (contents done)
    pub relocated : AreRelocated moves (numbers front) (contents front) (contents done)
    pub region : now.region ≡ c.region
