-- What was read of a page, as what was read of a table.
use Rattle.std.specs.Prelude.{◌≡◌, ℕ, Bool, true, false, List, Option, Some, None, IsSome}
use Rattle.std.proofs.lemmas.Bool.{false≢true}
use Rattle.hg_base.specs.Space.{Space, NoPins}
use Rattle.hg_base.specs.declared.Place.{Place}
use Rattle.hg_base.specs.declared.Table.{Table}
use Rattle.hg_table.specs.Versions.{Placed, RowVersion, IsTable}
use Rattle.hg_table.specs.Places.{version_at}
use Rattle.hg_table.specs.Calls.{HasPage, HasVersion}
use Rattle.hg_table.specs.Steps.{IsSoundAt}
use Rattle.hg_table.proofs.Places.{sound_of, same_page, same_there, there_page}

-- the conditions of a reading, of the page
pub page_sound : (s : Space) (t : Table) (columns : ℕ) (p : Place) → NoPins s → HasPage s t columns p → (v : Option RowVersion) × IsSoundAt s columns p.page p.slot v
page_sound s t columns p out h = (version_at h.versions p, sound_of s t columns h.pages h.versions p out h.table h.page)

some_sound : (s : Space) (columns x k : ℕ) (o : Option RowVersion) → IsSome o → IsSoundAt s columns x k o → (v : RowVersion) × IsSoundAt s columns x k (Some v)
some_sound s columns x k None there h = absurd (let e : ◌≡◌ {A = Bool} false true = there in false≢true e)
some_sound s columns x k (Some v) there h = (v, h)

pub version_sound : (s : Space) (t : Table) (columns : ℕ) (p : Place) → NoPins s → HasVersion s t columns p → (v : RowVersion) × IsSoundAt s columns p.page p.slot (Some v)
version_sound s t columns p out h =
    some_sound s columns p.page p.slot (version_at h.versions p) h.there
    (sound_of s t columns h.pages h.versions p out h.table (there_page s t columns h.pages h.versions p h.table h.there))

-- What is known of the page holds of the table: where the space tells, as it does where there is one.
pub of_table : (s : Space) (t : Table) (columns : ℕ) (p : Place) (P : Option RowVersion → Type 0) → NoPins s → (s.told ≡ true → HasPage s t columns p)
    → ((v : Option RowVersion) → IsSoundAt s columns p.page p.slot v → P v)
    → (pages : List ℕ) (versions : List Placed) → IsTable s t columns pages versions → P (version_at versions p)
of_table s t columns p P out asked known pages versions table =
    known (version_at versions p) (sound_of s t columns pages versions p out table (same_page s t columns columns pages versions p table (asked table.told)))

pub of_version : (s : Space) (t : Table) (columns : ℕ) (p : Place) (P : Option RowVersion → Type 0) → NoPins s → (s.told ≡ true → HasVersion s t columns p)
    → ((v : Option RowVersion) → IsSoundAt s columns p.page p.slot v → P v)
    → (pages : List ℕ) (versions : List Placed) → IsTable s t columns pages versions → P (version_at versions p)
of_version s t columns p P out asked known pages versions table =
    known (version_at versions p) (sound_of s t columns pages versions p out table (same_there s t columns columns pages versions p table (asked table.told)))
