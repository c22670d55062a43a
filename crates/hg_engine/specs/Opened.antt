-- What the first page of an engine does to its space, and with which sizes an engine is opened.
use Rattle.std.specs.Prelude.{◌≡◌, ◌+◌}
use Rattle.hg_base.specs.Space.{Space, NoPins, taken_in}
use Rattle.hg_base.specs.declared.File.TheVariants.{Main, Temp}
use Rattle.hg_dml.specs.Lent.{NoneLent}
use Rattle.hg_machine.specs.Plain.State.{Sizes}
use Rattle.hg_pool.specs.declared.Config.{Config}

-- one page of the main file more is taken, no pin is out, and no page was lent
pub record TakesFirst (a b : Space) : Type 0 where
  pub told : b.told ≡ a.told
  pub limit : b.limit ≡ a.limit
  pub heaps : b.heaps ≡ a.heaps
  pub pins : NoPins b
  pub none_lent : NoneLent a → NoneLent b
  pub used : taken_in b Main ≡ taken_in a Main + 1
  pub over : taken_in b Temp ≡ taken_in a Temp

abbrev pub sizes_of : Config → Sizes
sizes_of c = record { max = c.max; pool = c.pool; mpl = c.mpl; main_pages = c.main_pages; temp_pages = c.temp_pages }
