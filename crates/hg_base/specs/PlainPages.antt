-- A page of a plain space's heap: what holds of its parts.
use Rattle.std.specs.Prelude.{◌≡◌, ◌+◌, ◌≤◌, List, sum_by}
use Rattle.std.specs.Vec.{vec_capacity}
use Rattle.hg_base.specs.Content.{Object}
use Rattle.hg_base.specs.PlainEntries.{entry_size, objects_of, Fits}
use Rattle.hg_base.specs.declared.plain_page.HeapPage.TheInside.{Inside}

abbrev pub objects_on : Inside → List Object
objects_on p = objects_of p.entries.items p.bytes.items p.links.items

-- its parts fit to one another, and there is room for what the page can still take
pub record IsPage (p : Inside) : Type 0 where
  pub fits : Fits p.entries.items p.bytes.items p.links.items
  pub end : p.end ≡ 64 + sum_by entry_size p.entries.items
  pub below : p.end ≤ 4096
  pub entry_room : 252 ≤ vec_capacity p.entries
  pub byte_room : 4032 ≤ vec_capacity p.bytes
  pub link_room : 504 ≤ vec_capacity p.links
