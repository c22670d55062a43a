-- Worked lines with a number that is out of range, for each command that has one; each by hand.
use Rattle.std.specs.Prelude.{ℕ, codes}
use Rattle.hg_model.specs.Reading.{Reads, BadNumber}

-- whatever the most frames of the pool may be
pub record LineNumbersHold (max : ℕ) : Type 0 where
  pub no_letters : Reads max (codes "CREATE TABLE t (a VARCHAR(0))") BadNumber
  pub letters_256 : Reads max (codes "CREATE TABLE t (a VARCHAR(256))") BadNumber
  -- 39 digits
  pub inserted : Reads max (codes "INSERT INTO t VALUES (-100000000000000000000000000000000000000)") BadNumber
  pub updated : Reads max (codes "UPDATE t SET a = 100000000000000000000000000000000000000") BadNumber
  pub deleted : Reads max (codes "DELETE FROM t WHERE a = 100000000000000000000000000000000000000") BadNumber
  pub selected : Reads max (codes "SELECT 100000000000000000000000000000000000000 FROM t") BadNumber
  pub opened : Reads max (codes "OPEN c FOR SELECT 100000000000000000000000000000000000000 FROM t") BadNumber
  -- 2^32
  pub position : Reads max (codes "SELECT * FROM t ORDER BY 4294967296") BadNumber
  pub start : Reads max (codes "START c 0") BadNumber
  pub work : Reads max (codes "WORK 1000000001") BadNumber
  pub fetch : Reads max (codes "FETCH c 1000000001") BadNumber
  pub small_pool : Reads max (codes "POOL 15") BadNumber
  pub no_mpl : Reads max (codes "MPL 0") BadNumber
  pub mpl_17 : Reads max (codes "MPL 17") BadNumber

-- where the pool may have 256 frames at most
pub record PoolNumbersHold : Type 0 where
  pub large_pool : Reads 256 (codes "POOL 257") BadNumber
