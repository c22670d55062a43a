-- How the pages of a table are linked: pages of the main file, each the successor of the one before.
-- Our own rule. It is known over every space, also one that does not tell its bytes.
use Rattle.std.specs.Prelude.{◌≡◌, ℕ, List}
use Rattle.hg_base.specs.Space.{Space}
use Rattle.hg_base.specs.Lines.{IsLine, last_of}
use Rattle.hg_base.specs.declared.File.TheVariants.{Main}
use Rattle.hg_base.specs.declared.Table.{Table}

-- The pages of a table, in order.
pub record IsChain (s : Space) (t : Table) (pages : List ℕ) : Type 0 where
  pub line : IsLine Main s t.first pages
  pub last : t.last ≡ last_of pages
