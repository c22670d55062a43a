-- A pool that is opened. Our own rule.
use Rattle.std.specs.Prelude.{◌≡◌, ℕ, ◌≤◌, false, None, replicate, vec_capacity}
use Rattle.hg_base.specs.Space.{Space}
use Rattle.hg_base.specs.declared.File.{File}
use Rattle.hg_base.specs.declared.File.TheVariants.{Main, Temp}
use Rattle.hg_pool.specs.Disks.{Disks, all_told, pages_in}
use Rattle.hg_pool.specs.Picture.{no_heaps}
use Rattle.hg_space.specs.Shown.{pages_of}
use Rattle.hg_space.specs.PageMap as map
use Rattle.hg_pool.specs.declared.store.Store.{Store}
use Rattle.hg_clock.specs.Clock.{ClockState}
use Rattle.hg_pool.specs.Keeping.{AreEmpty}
use Rattle.hg_pool.specs.declared.Config.{Config}
use Rattle.hg_pool.specs.declared.PoolCounts.{PoolCounts}

-- what an engine may be opened with, over devices of so many pages
pub record IsPossible (c : Config) (main temp : ℕ) : Type 0 where
  pub at_least : 16 ≤ c.pool
  pub reserved : c.pool ≤ c.max
  pub at_most : c.max ≤ 65536
  pub some_request : 1 ≤ c.mpl
  pub few_requests : c.mpl ≤ 16
  pub main_least : 64 ≤ c.main_pages
  pub main_most : c.main_pages ≤ 65536
  pub main_fits : c.main_pages ≤ main
  pub temp_least : 64 ≤ c.temp_pages
  pub temp_most : c.temp_pages ≤ 1048576
  pub temp_fits : c.temp_pages ≤ temp

abbrev pub limit_in : Config → File → ℕ
limit_in c Main = c.main_pages
limit_in c Temp = c.temp_pages

-- the space of a new pool over these devices: no page is taken, no pin is out, and no call was made
abbrev pub new_space : Config → Disks → Space
new_space c d = record {
  told = all_told d;
  limit = limit_in c;
  device_limit = pages_in d;
  taken = λ _. false;
  bytes = λ _. None;
  pinned = λ _. false;
  pins = 0;
  next = λ _. None;
  of_heap = λ _. false;
  heaps = no_heaps c.pool c.max;
  counts = record { main_device = d.main.faults; temp_device = d.temp.faults; main = 0; temp = 0; main_full = 0; temp_full = 0 };
}

-- nothing was done yet
abbrev pub no_counts : PoolCounts
no_counts = record { reads = 0; writes = 0; evictions = 0 }

-- no frame is out or was used, and the hand stands at the first one
abbrev pub first_clock : ℕ → ClockState
first_clock max = record { scores = replicate max 0; out = replicate max false; hand = 0 }

-- what a new pool keeps
pub record IsNewStore (c : Config) (s : Store) : Type 0 where
  pub frames : AreEmpty s.frames.items c.pool
  pub max : s.frames.max ≡ c.max
  pub clock : s.clock ≡ first_clock c.max
  pub main_room : c.main_pages ≤ vec_capacity s.places.main
  pub temp_room : c.temp_pages ≤ vec_capacity s.places.temp
  pub main_map : pages_of s.maps.main ≡ map.unused_pages c.main_pages
  pub temp_map : pages_of s.maps.temp ≡ map.unused_pages c.temp_pages
  pub main_sound : map.IsSound (pages_of s.maps.main)
  pub temp_sound : map.IsSound (pages_of s.maps.temp)
  pub pins : s.pins ≡ 0
  pub lent : s.lent ≡ 0
  pub answers : s.answers ≡ record { main = 0; temp = 0; main_full = 0; temp_full = 0 }
  pub counts : s.counts ≡ no_counts
