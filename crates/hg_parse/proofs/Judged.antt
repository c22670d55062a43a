-- What was kept of a line judges it as its tree does.
use Rattle.std.proofs.Common.{◌≡◌, ℕ, ◌<◌, min, lit<, Bool, List, [], ◌∷◌, length, refl, arith}
use Rattle.std.specs.Prelude.{nat_lt}
use Rattle.std.specs.List.{list_any}
use Rattle.std.proofs.lemmas.Bool.Decides.{nat_tests}
use Rattle.hg_model.specs.Reading.{has_bad_number, too_many_of, first_count, is_long_name, is_long_text}
use Rattle.hg_model.specs.Tokens.{Token}
use Rattle.hg_model.specs.declared.trees.Count.TheVariants as count
use Rattle.hg_parse.specs.Building.{Draft}
use Rattle.hg_parse.specs.Judging.{bad_kept, too_many_kept}
use Rattle.hg_parse.specs.Keeping.{kept_of}
use Rattle.hg_parse.specs.Laws.{JudgesAlike}
use Rattle.hg_parse.specs.Rules.{Form, TableForm, IndexForm, InsertForm, UpdateForm, DeleteForm, VacuumForm, SelectForm, OpenForm, StartForm, WorkForm, FetchForm, CloseForm, PoolForm, MplForm, MemoryForm, tree_of}

bad_alike : (max : ℕ) (f : Form) (g : Draft) → bad_kept max f (kept_of g) ≡ has_bad_number max (tree_of f g)
bad_alike max (TableForm t) g = refl
bad_alike max (IndexForm u i t) g = refl
bad_alike max (InsertForm t) g = refl
bad_alike max (UpdateForm t f) g = refl
bad_alike max (DeleteForm t f) g = refl
bad_alike max (VacuumForm t) g = refl
bad_alike max (SelectForm h) g = refl
bad_alike max (OpenForm c h) g = refl
bad_alike max (StartForm c n) g = refl
bad_alike max (WorkForm n) g = refl
bad_alike max (FetchForm c n) g = refl
bad_alike max (CloseForm c) g = refl
bad_alike max (PoolForm n) g = refl
bad_alike max (MplForm n) g = refl
bad_alike max MemoryForm g = refl

above_cap : (n l : ℕ) → n < 255 → nat_lt n (min l 255) ≡ nat_lt n l
above_cap n l h = grind (arith, nat_tests)

above_wide : (n l : ℕ) → n < 65535 → nat_lt n (min l 65535) ≡ nat_lt n l
above_wide n l h = grind (arith, nat_tests)

module _ (a b : Bool) where
  alike : {c1 c2 r1 r2 v1 v2 t1 t2 o1 o2 g1 g2 k1 k2 n1 n2 : Bool} → c1 ≡ c2 → r1 ≡ r2 → v1 ≡ v2 → t1 ≡ t2 → o1 ≡ o2 → g1 ≡ g2 → k1 ≡ k2 → n1 ≡ n2
      → first_count ((a, count.NameLetters) ∷ (b, count.TextLetters) ∷ (c1, count.Columns) ∷ (r1, count.Rows) ∷ (v1, count.Values) ∷ (t1, count.TablesInFrom) ∷ (o1, count.Outputs) ∷ (g1, count.GroupColumns) ∷ (k1, count.OrderKeys) ∷ (n1, count.Nodes) ∷ [])
      ≡ first_count ((a, count.NameLetters) ∷ (b, count.TextLetters) ∷ (c2, count.Columns) ∷ (r2, count.Rows) ∷ (v2, count.Values) ∷ (t2, count.TablesInFrom) ∷ (o2, count.Outputs) ∷ (g2, count.GroupColumns) ∷ (k2, count.OrderKeys) ∷ (n2, count.Nodes) ∷ [])
  alike c r v t o g k n = λ i. first_count ((a, count.NameLetters) ∷ (b, count.TextLetters) ∷ (c i, count.Columns) ∷ (r i, count.Rows) ∷ (v i, count.Values) ∷ (t i, count.TablesInFrom) ∷ (o i, count.Outputs) ∷ (g i, count.GroupColumns) ∷ (k i, count.OrderKeys) ∷ (n i, count.Nodes) ∷ [])

-- a list that the form does not have
none : (n : ℕ) → nat_lt n 0 ≡ nat_lt n 0
none n = refl

module _ (ts : List Token) (g : Draft) where
  counts_alike : (f : Form) → too_many_kept (list_any is_long_name ts) (list_any is_long_text ts) f (kept_of g) ≡ too_many_of ts (tree_of f g)
  counts_alike (TableForm t) = alike _ _ (above_cap 16 (length g.columns) (lit< tt)) (none 64) (none 1024) (none 4) (none 16) (none 16) (none 8) (none 96)
  counts_alike (IndexForm u i t) = alike _ _ (above_cap 16 (length g.names) (lit< tt)) (none 64) (none 1024) (none 4) (none 16) (none 16) (none 8) (none 96)
  counts_alike (InsertForm t) =
      alike _ _ (above_cap 16 (length g.names) (lit< tt)) (above_cap 64 (length g.ends) (lit< tt)) (above_wide 1024 (length g.values) (lit< tt)) (none 4) (none 16) (none 16) (none 8) (none 96)
  counts_alike (UpdateForm t f) =
      alike _ _ (above_cap 16 (length g.sets) (lit< tt)) (none 64) (none 1024) (none 4) (none 16) (none 16) (none 8) (above_cap 96 (length g.read.nodes) (lit< tt))
  counts_alike (DeleteForm t f) = alike _ _ (none 16) (none 64) (none 1024) (none 4) (none 16) (none 16) (none 8) (above_cap 96 (length g.read.nodes) (lit< tt))
  counts_alike (VacuumForm t) = refl
  counts_alike (SelectForm h) =
      alike _ _ (none 16) (none 64) (none 1024) (above_cap 4 (length g.tables) (lit< tt)) (above_cap 16 (length g.outputs) (lit< tt)) (above_cap 16 (length g.group) (lit< tt))
      (above_cap 8 (length g.order) (lit< tt)) (above_cap 96 (length g.read.nodes) (lit< tt))
  counts_alike (OpenForm c h) =
      alike _ _ (none 16) (none 64) (none 1024) (above_cap 4 (length g.tables) (lit< tt)) (above_cap 16 (length g.outputs) (lit< tt)) (above_cap 16 (length g.group) (lit< tt))
      (above_cap 8 (length g.order) (lit< tt)) (above_cap 96 (length g.read.nodes) (lit< tt))
  counts_alike (StartForm c n) = refl
  counts_alike (WorkForm n) = refl
  counts_alike (FetchForm c n) = refl
  counts_alike (CloseForm c) = refl
  counts_alike (PoolForm n) = refl
  counts_alike (MplForm n) = refl
  counts_alike MemoryForm = refl

pub judges_alike : JudgesAlike
judges_alike max ts f g = (bad_alike max f g, counts_alike ts g f)
