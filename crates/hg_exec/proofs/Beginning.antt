-- The first loop is opened.
use Rattle.std.specs.Prelude.{◌≡◌, ℕ, zero, suc, ◌+◌, ◌*◌, ◌<◌, ◌≤◌, Bool, true, false, List, [], ◌∷◌, ◌++◌, length, take, Option, Some, None, if◌then◌else◌}
use Rattle.std.specs.List.{AllByRecursion}
use Rattle.std.proofs.Common.{sym, ◌∙◌, ap, subst, refl, arith, length-append}
use Rattle.hg_base.specs.Space.{Space, taken_in}
use Rattle.hg_base.specs.TakenLaws.{AreDistinctPages-few}
use Rattle.hg_base.specs.declared.File.TheVariants.{Main}
use Rattle.hg_base.specs.declared.Table.{Table}
use Rattle.hg_catalog.specs.Contents.{CatalogTable}
use Rattle.hg_table.specs.Seen.{is_seen, row_of, seen_rows}
use Rattle.hg_table.specs.SeenLaws.{seen_rows-cons}
use Rattle.hg_model.specs.declared.values.Value.{Value}
use Rattle.hg_table.specs.Marks.{committed}
use Rattle.hg_table.specs.Versions.{Placed, RowVersion, IsTable, in_slot, in_slots, in_pages, most_slots}
use Rattle.hg_exec.specs.Beginning.{IsShown}
use Rattle.hg_exec.specs.Entering.{begun}
use Rattle.hg_exec.specs.Joins.{Form, TableRows, rows_from}
use Rattle.hg_exec.specs.Standing.{entry, IsAtWork, IsForm, LoopHasLeft, LoopStands, Owes}
use Rattle.hg_exec.specs.declared.loops.Loops.{Loops}
use Rattle.hg_plan.specs.declared.plan.TableLoop.{TableLoop}

-- ---- how many versions a table may have

slots-few : (x : ℕ) (held : ℕ → Option RowVersion) (k n : ℕ) → length (in_slots x held k n) ≤ n
slots-few x held k zero = omega arith
slots-few x held k (suc n) = here (held k) (slots-few x held (suc k) n)
  where
    here : (v : Option RowVersion) → length (in_slots x held (suc k) n) ≤ n → length (in_slot x k v ++ in_slots x held (suc k) n) ≤ suc n
    here None h = omega arith
    here (Some v) h = omega arith

most-is : most_slots ≤ 128
unfolding most_slots
most-is = omega arith

pages-few : (held : ℕ → ℕ → Option RowVersion) (pages : List ℕ) → length (in_pages held pages) ≤ 128 * length pages
pages-few held [] = omega arith
pages-few held (x ∷ xs) =
    let rest : length (in_pages held xs) ≤ 128 * length xs = pages-few held xs in
    let one : length (in_slots x (held x) 0 most_slots) ≤ most_slots = slots-few x (held x) 0 most_slots in
    let m = most-is in
    omega (arith, length-append (in_slots x (held x) 0 most_slots) (in_pages held xs))

versions-few : (s : Space) (t : Table) (columns : ℕ) (pages : List ℕ) (versions : List Placed) → IsTable s t columns pages versions
    → length versions ≤ 128 * taken_in s Main
versions-few s t columns pages versions table =
    let all : length (in_pages table.held pages) ≤ 128 * length pages = pages-few table.held pages in
    let few : length pages ≤ taken_in s Main = AreDistinctPages-few s.taken Main (s.limit Main) pages table.chain.line.taken in
    let same : length versions ≡ length (in_pages table.held pages) = ap length table.listed in
    omega arith

seen-few : (c : ℕ → Bool) (n : ℕ) (vs : List Placed) → length (seen_rows c n vs) ≤ length vs
seen-few c n [] = omega arith
seen-few c n (v ∷ vs) = here (is_seen c n v) (ap length (seen_rows-cons c n v vs)) (seen-few c n vs)
  where
    here : (b : Bool) → length (seen_rows c n (v ∷ vs)) ≡ length (if b then row_of v ∷ seen_rows c n vs else seen_rows c n vs)
        → length (seen_rows c n vs) ≤ length vs → length (seen_rows c n (v ∷ vs)) ≤ suc (length vs)
    here true e h = omega arith
    here false e h = omega arith

-- all rows of a table are left
shown-left : (s : Space) (c : ℕ → Bool) (n : ℕ) (tables : List CatalogTable) (pages : ℕ → List ℕ) (t most : ℕ) (rows : List (List Value)) → most ≡ 128 * taken_in s Main + 1
    → IsShown s c n tables pages t rows → LoopHasLeft s c n tables pages t None most rows
shown-left s c n tables pages t most rows e h =
    let few = versions-few s (entry tables t).pages (length (entry tables t).columns) (pages t) h.versions h.table.table in
    let seen = seen-few c n h.versions in
    let same = ap length h.seen in
    record { done = []; rest = h.versions; table = h.table; behind = refl; few = omega arith; seen = h.seen }

all-left : (s : Space) (c : ℕ → Bool) (n : ℕ) (tables : List CatalogTable) (pages : ℕ → List ℕ) (most : ℕ) (rows : TableRows) (ls : List TableLoop) → most ≡ 128 * taken_in s Main + 1
    → AllByRecursion (λ (l : TableLoop). IsShown s c n tables pages l.table (rows l.table)) ls
    → AllByRecursion (λ (l : TableLoop). LoopHasLeft s c n tables pages l.table None most (rows l.table)) ls
all-left s c n tables pages most rows [] e h = tt
all-left s c n tables pages most rows (l ∷ ls) e h =
    (shown-left s c n tables pages l.table most (rows l.table) e h.0, all-left s c n tables pages most rows ls e h.1)

module _ (s : Space) (marks : List Bool) (tables : List CatalogTable) (pages : ℕ → List ℕ) (f : Form) (x : Loops)
    (first : x.opened.items ≡ begun x.most 0 ∷ []) (most : x.most ≡ 128 * taken_in s Main + 1) where
  pub begins-owed : (loops : List TableLoop) (rows : TableRows) → 0 < length loops
      → AllByRecursion (λ (l : TableLoop). IsShown s (committed marks) x.snapshot.0 tables pages l.table (rows l.table)) loops
      → Owes s marks tables pages f loops x (rows_from f rows loops [])
  begins-owed [] rows some shown = absurd (omega arith)
  begins-owed (l ∷ ls) rows some shown =
      let left = all-left s (committed marks) x.snapshot.0 tables pages x.most rows (l ∷ ls) most shown in
      record {
        rows = rows;
        shown = left;
        owed = rw first (rows l.table, [], left.0, refl, refl);
      }

  pub begins-work : (loops : List TableLoop) → IsForm tables f loops → AllByRecursion (LoopStands s tables pages) loops → 0 < length loops
      → (s.told ≡ true → (rows : TableRows) × AllByRecursion (λ (l : TableLoop). IsShown s (committed marks) x.snapshot.0 tables pages l.table (rows l.table)) loops)
      → IsAtWork s marks tables pages f loops x
  begins-work [] form stand some shown = absurd (omega arith)
  begins-work (l ∷ ls) form stand some shown = record {
    form = form;
    stand = stand;
    each_open = rw first (
      record {
        on = tt;
        more = rw most (omega arith);
        within = omega arith;
        joined_before = record { rows = []; count = refl; fit = tt; is = refl };
      },
      tt,
    );
    ascend = rw first (tt, tt);
    most = rw most (omega arith);
    owes = λ told. let r = shown told in (rows_from f r.0 (l ∷ ls) [], begins-owed (l ∷ ls) r.0 some r.1);
  }

pub most-of : (n taken : ℕ) → n ≡ taken → 128 * n + 1 ≡ 128 * taken + 1
most-of n taken e = ap (λ k. 128 * k + 1) e
