-- A version that stands at its place, before a call and after it.
use Rattle.std.specs.Prelude.{◌≡◌, ℕ, ◌∷◌, [], true, length, List, Some, IsSome, Result, Ok, Err, OnOk, if◌then◌else◌}
use Rattle.std.proofs.Common.{sym, ◌∙◌, ap, subst, refl, inl, inr}
use Rattle.std.proofs.lemmas.Bool.{cases_Bool}
use Rattle.hg_base.specs.Space.{Space}
use Rattle.hg_base.specs.Steadiness.{Steady}
use Rattle.hg_base.specs.declared.Place.{Place}
use Rattle.hg_base.specs.declared.Table.{Table}
use Rattle.hg_table.specs.Chains.{IsChain}
use Rattle.hg_table.specs.Versions.{Placed, IsTable}
use Rattle.hg_table.specs.Places.{is_at, version_at, killed}
use Rattle.hg_table.specs.Calls.{none_mine, HasPage, HasVersion, Inserts, IsTableWith}
use Rattle.hg_table.specs.TableLaws.{table_stays, version_at-here}
use Rattle.hg_table.specs.Kept.{IsReady, HoldsRows, none_of}
use Rattle.hg_table.proofs.Places.{there_page}

-- what is known of an answer that is Ok
pub on_ok_both : {T E P Q R : Type 0} (r : Result T E) → (P → Q → R) → OnOk r P → OnOk r Q → OnOk r R
on_ok_both (Ok v) f p q = f p q
on_ok_both (Err e) f p q = tt

pub on_ok_any : {T E P : Type 0} (r : Result T E) → P → OnOk r P
on_ok_any (Ok v) p = p
on_ok_any (Err e) p = tt

-- it is on a page of the table
pub stands_page : (s : Space) (t : Table) (columns : ℕ) (p : Place) → (s.told ≡ true → HasVersion s t columns p) → s.told ≡ true → HasPage s t columns p
stands_page s t columns p asked told =
    let h : HasVersion s t columns p = asked told in
    record { pages = h.pages; versions = h.versions; table = h.table; page = there_page s t columns h.pages h.versions p h.table h.there }

-- after a look
pub stands_looked : (a b : Space) (t : Table) (columns : ℕ) (p : Place) → Steady none_mine a b → (a.told ≡ true → HasVersion a t columns p)
    → b.told ≡ true → HasVersion b t columns p
stands_looked a b t columns p steady asked told =
    let h : HasVersion a t columns p = asked (sym steady.told ∙ told) in
    record {
      pages = h.pages;
      versions = h.versions;
      table = table_stays none_mine a b t columns h.pages h.versions steady (none_of h.pages) h.table;
      there = h.there;
    }

-- a version that died is still there
killed_some : (p : Place) (d : ℕ) (vs : List Placed) → IsSome (version_at vs p) → IsSome (version_at (killed p d vs) p)
killed_some p d [] h = h
killed_some p d (v ∷ vs) h =
    let x : Placed = record v { version = record v.version { died = Some d } } in
    elim (cases_Bool (is_at p v)) [
      | inl e ↦ subst IsSome
          (sym (ap (λ b. version_at ((if b then x else v) ∷ killed p d vs) p) e ∙ ap (λ b. if b then Some x.version else version_at (killed p d vs) p) e)) refl
      | inr e ↦ subst IsSome
          (sym (ap (λ b. version_at ((if b then x else v) ∷ killed p d vs) p) e ∙ ap (λ b. if b then Some v.version else version_at (killed p d vs) p) e))
          (killed_some p d vs (subst IsSome (ap (λ b. if b then Some v.version else version_at vs p) e) h))
    ]

pub stands_killed : (a b : Space) (old new : Table) (columns : ℕ) (p : Place) (d : ℕ) → b.told ≡ a.told
    → ((k : ℕ) (pages : List ℕ) (versions : List Placed) → IsTable a old k pages versions → IsTable b new k pages (killed p d versions))
    → (a.told ≡ true → HasVersion a old columns p) → b.told ≡ true → HasVersion b new columns p
stands_killed a b old new columns p d same known asked told =
    let h : HasVersion a old columns p = asked (sym same ∙ told) in
    record {
      pages = h.pages;
      versions = killed p d h.versions;
      table = known columns h.pages h.versions h.table;
      there = killed_some p d h.versions h.there;
    }

-- a version that was put there
pub stands_inserted : (a b : Space) (old new : Table) (columns : ℕ) (v : Placed) → b.told ≡ a.told → length v.version.row ≡ columns
    → ((pages : List ℕ) → IsChain a old pages → Inserts a b old new pages v) → IsReady a old columns → b.told ≡ true → HasVersion b new columns v.place
stands_inserted a b old new columns v same e known r told =
    let i : Inserts a b old new r.pages v = known r.pages r.chain in
    let h : HoldsRows a old columns r.pages = r.rows (sym same ∙ told) in
    let w : IsTableWith b new columns i.now h.versions v = i.table columns h.versions e h.table in
    record {
      pages = i.now;
      versions = w.versions;
      table = w.table;
      there = subst (λ o. IsSome o)
          (sym (ap (λ vs. version_at vs v.place) w.puts.now
          ∙ version_at-here b new columns i.now w.puts.before v w.puts.after (subst (IsTable b new columns i.now) w.puts.now w.table))) refl;
    }
