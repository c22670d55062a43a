-- A region's fields, as contracts see them, and what is true of them.
use Rattle.std.specs.Prelude.{◌≡◌, ◌*◌, ◌<◌, ◌^◌, true}
use denote.RawPtr.{◌+ₚ◌}
use Rattle.hg_raw.specs.Frames.{RegionSeen, numbers, distinct}
use Rattle.hg_raw.specs.Links.{Sized, Below, at_home, flags}
use Rattle.hg_raw.specs.declared.region.Region.TheInside.{Inside}

abbrev pub region_seen : Inside → RegionSeen
region_seen r = record { region = record { words = r.words.base; pages = r.pages.base; frames = r.frames }; home = at_home r.pages.held r.frames }

pub record IsRegion (r : Inside) : Type 0 where
  pub word_size : r.words.size ≡ 8
  pub page_count : r.pages.frames ≡ r.frames
  pub words : numbers r.words.held ≡ numbers r.pages.held
  pub words_sized : Sized 8 r.words.held
  pub sized : Sized 4096 r.pages.held
  pub below : Below r.frames (numbers r.pages.held)
  pub few : r.frames < 2 ^ 32
  pub distinct : distinct (numbers r.pages.held) ≡ true
  pub home : r.home.items ≡ flags (numbers r.pages.held) r.frames
  pub shell : r.shell ≡ record { base = r.words.base; frames = r.frames }
  pub pages : r.pages.base ≡ r.words.base +ₚ (8 * r.frames)
