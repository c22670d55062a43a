-- What the indexes of a table will agree with: a table over columns, each version of which has one
-- value for each column, which fits it and is allowed there. Every change keeps it.
use Rattle.std.specs.Prelude.{◌≡◌, ℕ, suc, ◌&&◌, Bool, true, false, List, [], ◌∷◌, ◌++◌, length, Some, if◌then◌else◌}
use Rattle.std.specs.List.{AllByRecursion}
use Rattle.std.proofs.Common.{sym, ap, subst, refl}
use Rattle.std.proofs.lemmas.Bool.{false≢true}
use Rattle.hg_base.specs.Space.{Space}
use Rattle.hg_base.specs.Lines.{NoneMine}
use Rattle.hg_base.specs.Steadiness.{Mine, Steady}
use Rattle.hg_base.specs.declared.File.TheVariants.{Main}
use Rattle.hg_base.specs.declared.Place.{Place}
use Rattle.hg_base.specs.declared.Table.{Table}
use Rattle.hg_model.specs.Tables.{fits_columns, fits_type, is_allowed}
use Rattle.hg_model.specs.declared.trees.Column.{Column}
use Rattle.hg_model.specs.declared.values.Value.{Value}
use Rattle.hg_table.specs.Calls.{Inserts, IsTableWith, PutsIn}
use Rattle.hg_table.specs.Places.{killed, killed_at, is_at}
use Rattle.hg_table.specs.TableLaws.{table_stays}
use Rattle.hg_table.specs.Versions.{Placed, IsTable}

abbrev pub FitsColumns : List Column → Placed → Type 0
FitsColumns columns v = fits_columns columns v.version.row ≡ true

pub record IsTableOver (s : Space) (t : Table) (columns : List Column) (pages : List ℕ) (versions : List Placed) : Type 0 where
  pub table : IsTable s t (length columns) pages versions
  pub fit : AllByRecursion (FitsColumns columns) versions

-- a table of pages that are not mine stays
pub over_stays : (m : Mine) (a b : Space) (t : Table) (columns : List Column) (pages : List ℕ) (versions : List Placed) → Steady m a b → NoneMine Main m pages
    → IsTableOver a t columns pages versions → IsTableOver b t columns pages versions
over_stays m a b t columns pages versions steady apart h = record { table = table_stays m a b t (length columns) pages versions steady apart h.table; fit = h.fit }

all_put : (P : Placed → Type 0) (xs ys : List Placed) (v : Placed) → P v → AllByRecursion P (xs ++ ys) → AllByRecursion P (xs ++ v ∷ ys)
all_put P [] ys v p h = (p, h)
all_put P (x ∷ xs) ys v p h = (h.0, all_put P xs ys v p h.1)

and_right : (a b : Bool) → (a && b) ≡ true → b ≡ true
and_right true b h = h
and_right false b h = absurd (false≢true h)

-- a row that fits has as many values
fits_length : (columns : List Column) (v : Placed) → FitsColumns columns v → length v.version.row ≡ length columns
fits_length columns v h = same columns v.version.row h
  where
    same : (columns : List Column) (row : List Value) → fits_columns columns row ≡ true → length row ≡ length columns
    same [] [] h = refl
    same [] (x ∷ row) h = absurd (false≢true h)
    same (c ∷ columns) [] h = absurd (false≢true h)
    same (c ∷ columns) (x ∷ row) h = ap suc (same columns row (and_right (is_allowed c x) (fits_columns columns row) (and_right (fits_type c.ty x) (is_allowed c x && fits_columns columns row) h)))

-- a version more, whose row fits
pub over_inserted : (a b : Space) (old new : Table) (columns : List Column) (pages : List ℕ) (versions : List Placed) (v : Placed) → FitsColumns columns v
    → (i : Inserts a b old new pages v) → IsTableOver a old columns pages versions → (now : List Placed) × PutsIn versions now v × IsTableOver b new columns i.now now
over_inserted a b old new columns pages versions v fits i h =
    let w : IsTableWith b new (length columns) i.now versions v = i.table (length columns) versions (fits_length columns v fits) h.table in (
      w.versions,
      w.puts,
      record {
        table = w.table;
        fit = subst (AllByRecursion (FitsColumns columns)) (sym w.puts.now)
            (all_put (FitsColumns columns) w.puts.before w.puts.after v fits (subst (AllByRecursion (FitsColumns columns)) w.puts.was h.fit));
      },
    )

killed_fits : (columns : List Column) (p : Place) (d : ℕ) (v : Placed) → FitsColumns columns v → FitsColumns columns (killed_at p d v)
killed_fits columns p d v h = elim (is_at p v) as (λ b. FitsColumns columns (if b then record v { version = record v.version { died = Some d } } else v)) [ true ↦ h | false ↦ h ]

all_killed : (columns : List Column) (p : Place) (d : ℕ) (vs : List Placed) → AllByRecursion (FitsColumns columns) vs → AllByRecursion (FitsColumns columns) (killed p d vs)
all_killed columns p d [] h = tt
all_killed columns p d (v ∷ vs) h = (killed_fits columns p d v h.0, all_killed columns p d vs h.1)

-- a death more
pub over_killed : (b : Space) (t : Table) (columns : List Column) (pages : List ℕ) (versions : List Placed) (p : Place) (d : ℕ) → AllByRecursion (FitsColumns columns) versions
    → IsTable b t (length columns) pages (killed p d versions) → IsTableOver b t columns pages (killed p d versions)
over_killed b t columns pages versions p d fit table = record { table = table; fit = all_killed columns p d versions fit }
