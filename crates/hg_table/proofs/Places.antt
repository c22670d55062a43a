-- From a page that is read at a slot to a table that is read at a place.
use Rattle.std.specs.Prelude.{◌≡◌, ◌≢◌, ℕ, ◌<◌, ◌≤◌, ◌==◌, ◌||◌, Bool, true, false, List, [], ◌∷◌, Option, Some, None, IsSome}
use Rattle.std.specs.List.{AllByRecursion}
use Rattle.std.proofs.Common.{sym, ◌∙◌, ap, subst, refl, arith, inl, inr}
use Rattle.std.proofs.lemmas.Bool.{cases_lt, cases_Bool, false≢true, eq-eqb}
use Rattle.hg_base.specs.Space.{Space, NoPins, IsFree}
use Rattle.hg_base.specs.LineLaws.{all_has, distinct-apart, line_free}
use Rattle.hg_base.specs.Lines.{has_page}
use Rattle.hg_base.specs.TakenLaws.{AreDistinctPages}
use Rattle.hg_base.specs.declared.File.TheVariants.{Main}
use Rattle.hg_base.specs.declared.Place.{Place}
use Rattle.hg_base.specs.declared.Table.{Table}
use Rattle.hg_slot.specs.Slotted.{record_at}
use Rattle.hg_table.specs.Versions.{Placed, RowVersion, HoldsVersions, IsTable, Shows, in_slots, in_pages, most_slots}
use Rattle.hg_table.specs.Places.{version_at}
use Rattle.hg_table.specs.Calls.{HasPage, HasVersion, main_page}
use Rattle.hg_table.specs.Steps.{IsSoundAt}
use Rattle.hg_table.specs.Listing.{or_else, version_at-append, slots_below, pages_here, pages_other}
use Rattle.hg_table.specs.TableLaws.{one_chain}
use Rattle.hg_table.proofs.Seeing.{none_past, most_slots-is}

-- numbers of pages of a line are below the limit
pub distinct-below : (taken : ℕ → Bool) (n : ℕ) (xs : List ℕ) → AreDistinctPages taken Main n xs → AllByRecursion (λ x. x < n) xs
distinct-below taken n [] d = tt
distinct-below taken n (x ∷ xs) d = (d.0, distinct-below taken n xs d.3)

-- a page of versions at a slot
pub holds_at : (s : Space) (columns x k : ℕ) (held : ℕ → Option RowVersion) → IsFree s (main_page x) → HoldsVersions s columns x held
    → IsSoundAt s columns x k (held k)
holds_at s columns x k held free h = record { free = free; page = h.page; told = h.told; slotted = h.slotted; shows = h.each k }

-- a slot behind all others is empty
shows_none : (columns : ℕ) (r : Option (List ℕ)) (v : Option RowVersion) → r ≡ None → Shows columns r v → v ≡ None
shows_none columns None None e h = refl
shows_none columns None (Some v) e h = absurd h
shows_none columns (Some r) v e h = absurd (let n : ◌≡◌ {A = Option (List ℕ)} (Some r) None = e in cc)

pub held_past : (s : Space) (columns x k : ℕ) (held : ℕ → Option RowVersion) → HoldsVersions s columns x held → most_slots ≤ k → held k ≡ None
held_past s columns x k held h l = shows_none columns (record_at h.page k) (held k) (none_past h.page k h.slotted (omega (arith, most_slots-is))) (h.each k)

-- no version beyond the slots of a page
pub past_slots : (held : ℕ → ℕ → Option RowVersion) (xs : List ℕ) (p : Place) → most_slots ≤ p.slot → version_at (in_pages held xs) p ≡ None
past_slots held [] p l = refl
past_slots held (x ∷ xs) p l =
    version_at-append (in_slots x (held x) 0 most_slots) (in_pages held xs) p
    ∙ ap (λ o. or_else o (version_at (in_pages held xs) p)) (slots_below x (held x) 0 most_slots p (omega arith))
    ∙ past_slots held xs p l

-- the version at a place of a table
pub version_of : (s : Space) (t : Table) (columns : ℕ) (pages : List ℕ) (versions : List Placed) (p : Place)
    → (table : IsTable s t columns pages versions) → has_page pages p.page ≡ true → version_at versions p ≡ table.held p.page p.slot
version_of s t columns pages versions p table h = elim (cases_lt p.slot most_slots) [
  | inl l ↦ ap (λ vs. version_at vs p) table.listed
      ∙ pages_here table.held pages p (distinct-apart Main s.taken (s.limit Main) pages table.chain.line.taken) h l
  | inr l ↦ ap (λ vs. version_at vs p) table.listed ∙ past_slots table.held pages p l
      ∙ sym (held_past s columns p.page p.slot (table.held p.page) (all_has (λ x. HoldsVersions s columns x (table.held x)) pages p.page table.holds h) l)
]

pub sound_of : (s : Space) (t : Table) (columns : ℕ) (pages : List ℕ) (versions : List Placed) (p : Place) → NoPins s
    → IsTable s t columns pages versions → has_page pages p.page ≡ true → IsSoundAt s columns p.page p.slot (version_at versions p)
sound_of s t columns pages versions p out table h =
    subst (IsSoundAt s columns p.page p.slot) (sym (version_of s t columns pages versions p table h))
    (holds_at s columns p.page p.slot (table.held p.page) (line_free Main s t.first pages p.page out table.chain.line h)
    (all_has (λ x. HoldsVersions s columns x (table.held x)) pages p.page table.holds h))

or_right : (a b : Bool) → (a || b) ≡ false → b ≡ false
or_right true b e = absurd (false≢true (sym e))
or_right false b e = e

none_apart : (pages : List ℕ) (x : ℕ) → has_page pages x ≡ false → AllByRecursion (λ y. y ≢ x) pages
none_apart [] x h = tt
none_apart (y ∷ ys) x h = (
  λ e. false≢true (sym h ∙ ap (λ b. b || has_page ys x) (eq-eqb y x e)),
  none_apart ys x (or_right (y == x) (has_page ys x) h),
)

-- a version stands on a page of its table
pub there_page : (s : Space) (t : Table) (columns : ℕ) (pages : List ℕ) (versions : List Placed) (p : Place)
    → IsTable s t columns pages versions → IsSome (version_at versions p) → has_page pages p.page ≡ true
there_page s t columns pages versions p table there = elim (cases_Bool (has_page pages p.page)) [
  | inl e ↦ e
  | inr e ↦ absurd (let n : version_at versions p ≡ None =
      ap (λ vs. version_at vs p) table.listed ∙ pages_other table.held pages p (none_apart pages p.page e) in false≢true (subst IsSome n there))
]

-- the place that a call was given is on a page of the table, with whatever lists it is described
pub same_page : (s : Space) (t : Table) (columns c : ℕ) (pages : List ℕ) (versions : List Placed) (p : Place)
    → IsTable s t columns pages versions → HasPage s t c p → has_page pages p.page ≡ true
same_page s t columns c pages versions p table h =
    subst (λ ps. has_page ps p.page ≡ true) (one_chain s t h.pages pages h.table.chain table.chain) h.page

pub same_there : (s : Space) (t : Table) (columns c : ℕ) (pages : List ℕ) (versions : List Placed) (p : Place)
    → IsTable s t columns pages versions → HasVersion s t c p → has_page pages p.page ≡ true
same_there s t columns c pages versions p table h =
    subst (λ ps. has_page ps p.page ≡ true) (one_chain s t h.pages pages h.table.chain table.chain)
    (there_page s t c h.pages h.versions p h.table h.there)
