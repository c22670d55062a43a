-- The pages of a heap handed out by the pool, and put back. Our own rule.
use Rattle.std.specs.Prelude.{◌≡◌, ℕ, ◌+◌, ◌==◌, ◌<◌, Bool, true, false, List, [], ◌∷◌, Some, None, length, if◌then◌else◌, ⊤}
use Rattle.std.specs.List.{list_any}
use Rattle.hg_io.specs.declared.device.PageDevice.{Ghosts}
use Rattle.hg_base.specs.Space.{Space, unpinned_bytes}
use Rattle.hg_base.specs.declared.File.TheVariants.{Temp}
use Rattle.hg_raw.specs.Frames.{Frame, ChainSeen, numbers, distinct}
use Rattle.hg_pool.specs.Lending.{handed_out, put_back, region_of, lent_of, OneMoreOut, KeepsOut}
use Rattle.hg_pool.specs.Shown.{state_of, in_frame, frame_of, max_of, counts_of_pool, owed, Asked, CalledNone, SameFrames}
use Rattle.hg_pool.specs.declared.parts.Parts.{Parts}
use Rattle.hg_base.specs.Lines.{AreApart}
use Rattle.hg_heap.specs.Resting.{temp_page, temp_key, page_behind, pages_from, walk}

-- the bytes of the frames of a chain
abbrev pub contents : List Frame → List (List ℕ)
contents [] = []
contents (f ∷ fs) = f.1 ∷ contents fs

-- one of these pages has this key
abbrev pub has_key : List ℕ → ℕ → Bool
has_key pages q = list_any (λ n. temp_key n == q) pages

-- the space with these pages handed out
abbrev pub out_of : Space → List ℕ → Space
out_of s pages = record s {
  bytes = λ q. if has_key pages q then None else s.bytes q;
  of_heap = λ q. if has_key pages q then true else s.of_heap q;
}

-- the space after these pages were put back with these bytes
abbrev pub all_back : Space → List ℕ → List (List ℕ) → Space
all_back s [] bytes = s
all_back s (n ∷ pages) [] = s
all_back s (n ∷ pages) (b ∷ bytes) = all_back (put_back s (temp_key n) b) pages bytes

-- what these pages held before they were handed out with these bytes
abbrev pub HadBytes : Space → List ℕ → List (List ℕ) → Type 0
HadBytes s [] [] = ⊤
HadBytes s (n ∷ ns) (b ∷ bs) = (s.bytes (temp_key n) ≡ unpinned_bytes s.told (Some b)) × HadBytes s ns bs
HadBytes s ns bs = ⊥

module _ {M T : Type 0} where
  -- a page was handed out, and is in this frame
  pub record IsOut (m : Ghosts M) (t : Ghosts T) (p : Parts M T) (n f : ℕ) : Type 0 where
    pub taken : (state_of m t p).taken (temp_key n) ≡ true
    pub out : (state_of m t p).of_heap (temp_key n) ≡ true
    pub inside : in_frame p (temp_page n) ≡ true
    pub frame : frame_of p (temp_page n) ≡ f

  -- each of these pages is in the frame beside it
  abbrev pub AreOut : Ghosts M → Ghosts T → Parts M T → List ℕ → List Frame → Type 0
  AreOut m t p [] [] = ⊤
  AreOut m t p (n ∷ ns) (f ∷ fs) = IsOut m t p n f.0 × AreOut m t p ns fs
  AreOut m t p ns fs = ⊥

  -- A page came: where it was in a frame no device was called, and where it was in none it was read, once,
  -- after the page that had the frame was written, where that was owed.
  pub record Comes (m : Ghosts M) (t : Ghosts T) (a b : Parts M T) (n : ℕ) : Type 0 where
    pub stays : in_frame a (temp_page n) ≡ true → CalledNone a b × (counts_of_pool b ≡ counts_of_pool a)
    pub read : in_frame a (temp_page n) ≡ false → Asked m t a b (owed a (frame_of b (temp_page n))) (Some Temp)

  -- these pages came, one after the other
  abbrev pub Come : Ghosts M → Ghosts T → Parts M T → List ℕ → Parts M T → Type 0
  Come m t a [] b = b ≡ a
  Come m t a (n ∷ ns) b = (mid : Parts M T) × Comes m t a mid n × Come m t mid ns b

  -- one page is handed out
  pub record TakesPage (m : Ghosts M) (t : Ghosts T) (a b : Parts M T) (n : ℕ) (c : ChainSeen) : Type 0 where
    pub bytes : List ℕ
    pub chain : c ≡ record { region = region_of b; frames = (frame_of b (temp_page n), bytes) ∷ [] }
    pub was : (state_of m t a).bytes (temp_key n) ≡ unpinned_bytes (state_of m t a).told (Some bytes)
    pub state : state_of m t b ≡ handed_out (state_of m t a) (temp_key n)
    pub inside : in_frame b (temp_page n) ≡ true
    pub keeps : KeepsOut m t a b
    pub stock : OneMoreOut a b
    pub comes : Comes m t a b n

  -- pages are put back with these bytes: no device is called, each page is in the frame that it was in
  pub record PutsBack (m : Ghosts M) (t : Ghosts T) (a b : Parts M T) (pages : List ℕ) (bytes : List (List ℕ)) : Type 0 where
    pub state : state_of m t b ≡ all_back (state_of m t a) pages bytes
    pub frames : SameFrames a b
    pub called : CalledNone a b
    pub counts : counts_of_pool b ≡ counts_of_pool a
    pub region : region_of b ≡ region_of a
    pub max : max_of b ≡ max_of a

  -- these pages are handed out, in one chain, each in the frame that it came into
  pub record HandsOut (m : Ghosts M) (t : Ghosts T) (a b : Parts M T) (pages : List ℕ) (c : ChainSeen) : Type 0 where
    pub had : HadBytes (state_of m t a) pages (contents c.frames)
    pub state : state_of m t b ≡ out_of (state_of m t a) pages
    pub each : AreOut m t b pages c.frames
    pub apart : distinct (numbers c.frames) ≡ true
    pub of_region : c.region ≡ region_of b
    pub region : region_of b ≡ region_of a
    pub max : max_of b ≡ max_of a
    pub lent : lent_of b ≡ lent_of a + length pages
    pub come : Come m t a pages b

  -- While pages are put back: what is left to be put back is all that is missing.
  pub record Putting (m : Ghosts M) (t : Ghosts T) (a b : Parts M T) (pages : List ℕ) (bytes : List (List ℕ)) (no left : ℕ) (c : ChainSeen) : Type 0 where
    pub apart : AreApart (pages_from (state_of m t a).next no left)
    pub each : AreOut m t b (pages_from (state_of m t a).next no left) c.frames
    pub of_region : c.region ≡ region_of b
    pub next : (state_of m t b).next ≡ (state_of m t a).next
    pub state : all_back (state_of m t b) (pages_from (state_of m t a).next no left) (contents c.frames) ≡ all_back (state_of m t a) pages bytes
    pub frames : SameFrames a b
    pub called : CalledNone a b
    pub counts : counts_of_pool b ≡ counts_of_pool a
    pub region : region_of b ≡ region_of a
    pub max : max_of b ≡ max_of a

  -- While pages are handed out: so many were, and this one was the last of them.
  pub record Taking (m : Ghosts M) (t : Ghosts T) (a b : Parts M T) (first no count : ℕ) (c : ChainSeen) : Type 0 where
    pub some : 0 < count
    pub last : page_behind (state_of m t a).next no ≡ walk (state_of m t a).next first count
    pub taken : (state_of m t a).taken (temp_key no) ≡ true
    pub hands : HandsOut m t a b (pages_from (state_of m t a).next first count) c
