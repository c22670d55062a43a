-- The pages of a run: 4,096 bytes, and the records that they stand for. Our own rule.
--   byte 0       82, the letter R
--   bytes 2..4   the offset of the first free byte
--   from 16 on   the records one behind the other: two bytes length, then the bytes
-- The other bytes are zero. All numbers have their least byte first. A record has 1 to 4,000 bytes.
use Rattle.std.specs.Prelude.{◌≡◌, ◌≢◌, ℕ, ◌+◌, ◌-◌, ◌≤◌, List, [], ◌∷◌, ◌++◌, length, take, drop, replicate, slice_index}
use Rattle.std.specs.List.{AllByRecursion}
use Rattle.std.specs.Int.{w16, from_le_bytes, to_le_bytes}
use Rattle.hg_base.specs.declared.Check.{Check}
use Rattle.hg_base.specs.declared.Check.TheVariants as check

-- the number that the two bytes from the place `at` on spell
unfoldable pub number : List ℕ → ℕ → ℕ
number page at = from_le_bytes w16 (take 2 (drop at page))

-- the bytes of a record, and of records one behind the other
unfoldable pub spelled : List ℕ → List ℕ
spelled r = to_le_bytes w16 (length r) ++ r

unfoldable pub spelling : List (List ℕ) → List ℕ
spelling [] = []
spelling (r ∷ rs) = spelled r ++ spelling rs

-- a record that a run can hold
pub record IsProper (r : List ℕ) : Type 0 where
  pub some : 1 ≤ length r
  pub few : length r ≤ 4000

-- Which bytes are a page with these records.
pub record IsRunPage (page : List ℕ) (rs : List (List ℕ)) : Type 0 where
  pub whole : length page ≡ 4096
  pub kind : slice_index page 0 ≡ 82
  pub free : number page 2 ≡ 16 + length (spelling rs)
  pub fits : 16 + length (spelling rs) ≤ 4096
  pub text : take (length (spelling rs)) (drop 16 page) ≡ spelling rs
  pub proper : AllByRecursion IsProper rs

-- the bytes of a page that have no meaning are zero: byte 1, those before the records, and those behind them
pub record IsClean (page : List ℕ) : Type 0 where
  pub second : take 1 (drop 1 page) ≡ 0 ∷ []
  pub head : take 12 (drop 4 page) ≡ replicate 12 0
  pub behind : drop (number page 2) page ≡ replicate (4096 - number page 2) 0

-- What is wrong with bytes that are no page of a run: by Kind, byte 0 is another one; by Size, it is 82,
-- and yet no records are spelled like this.
abbrev pub IsWrong : List ℕ → Check → Type 0
IsWrong page check.Kind = slice_index page 0 ≢ 82
IsWrong page check.Size = (slice_index page 0 ≡ 82) × ((rs : List (List ℕ)) → IsRunPage page rs → ⊥)
IsWrong page check.Frame = ⊥
IsWrong page check.Link = ⊥
IsWrong page check.Level = ⊥
IsWrong page check.Order = ⊥
IsWrong page check.RowBytes = ⊥

-- the bytes are a page with these records, and the place `at` is behind those of `done`
pub record IsPageAt (page : List ℕ) (at : ℕ) (done todo : List (List ℕ)) : Type 0 where
  pub page_is : IsRunPage page (done ++ todo)
  pub place : at ≡ 16 + length (spelling done)

-- The same of a place where a record is read: no record of a page begins or ends there.
abbrev pub IsWrongAt : List ℕ → ℕ → Check → Type 0
IsWrongAt page at check.Kind = slice_index page 0 ≢ 82
IsWrongAt page at check.Size = (slice_index page 0 ≡ 82) × ((done todo : List (List ℕ)) → IsPageAt page at done todo → ⊥)
IsWrongAt page at check.Frame = ⊥
IsWrongAt page at check.Link = ⊥
IsWrongAt page at check.Level = ⊥
IsWrongAt page at check.Order = ⊥
IsWrongAt page at check.RowBytes = ⊥
