-- The pages at home: their fields, as contracts see them, and what is true of them.
use Rattle.std.specs.Prelude.{◌≡◌, ℕ, ◌++◌, List, length, true}
use denote.RawPtr.{Ptr}
use Rattle.hg_raw.specs.Frames.{Frame, distinct}
use Rattle.hg_raw.specs.Links.{blanks, flags, Sized}
use Rattle.hg_raw.specs.declared.pages.Pages.TheInside.{Inside}

-- the pages at home: where the first frame's begins, for how many frames they are, and the pages with their bytes
pub record PagesSeen : Type 0 where
  pub base : Ptr
  pub frames : ℕ
  pub held : List Frame

-- one that was never taken is seen as zeros
abbrev pub pages_seen : Inside → PagesSeen
pages_seen p = record { base = p.written.base; frames = length p.blank.items; held = blanks 4096 p.blanks.left ++ p.written.held }

pub record IsPages (p : Inside) : Type 0 where
  pub size : p.written.size ≡ 4096
  pub sized : Sized 4096 p.written.held
  pub base : p.blanks.base ≡ p.written.base
  pub distinct : distinct p.blanks.left ≡ true
  pub blank : p.blank.items ≡ flags p.blanks.left (length p.blank.items)
