-- The death of a version of a table.
use Rattle.std.specs.Prelude.{◌≡◌, ◌≢◌, ℕ, ◌^◌, ◌<◌, ◌≤◌, true, List, [], ◌∷◌, length, Option, Some, Result, Ok, Err, OnOk, OnErr}
use Rattle.std.specs.Int.{w32, to_le_bytes}
use Rattle.std.specs.List.{AllByRecursion}
use Rattle.std.proofs.Common.{sym, ◌∙◌, ap, subst, refl, arith}
use Rattle.std.proofs.lemmas.Slice.{drop-put_mid}
use borrow.Rule.Slice.PartMut.{put_mid}
use Rattle.hg_base.specs.Parts.{below, within}
use Rattle.hg_base.specs.LineLaws.{all_has}
use Rattle.hg_base.specs.Lines.{has_page}
use Rattle.hg_base.specs.Space.{Space}
use Rattle.hg_base.specs.declared.Place.{Place}
use Rattle.hg_base.specs.declared.Table.{Table}
use Rattle.hg_base.specs.declared.pages.PageFault.{PageFault}
use Rattle.hg_slot.specs.Slotted.{record_at, IsSlotted}
use Rattle.hg_value.specs.Coding.{IsRowOf}
use Rattle.hg_table.specs.Chains.{IsChain}
use Rattle.hg_table.specs.Versions.{Placed, RowVersion, HoldsVersions, IsStored, IsTable, Shows}
use Rattle.hg_table.specs.Places.{killed}
use Rattle.hg_table.specs.Calls.{HasVersion, none_mine}
use Rattle.hg_table.specs.Steps.{ChangesPage, Changes, Kills, Looks}
use Rattle.hg_table.specs.Altering.{dead, pages_killed}
use Rattle.hg_table.specs.TableLaws.{chain_stays}
use Rattle.hg_table.proofs.Places.{same_there}
use Rattle.hg_table.proofs.Walking.{shown_some}
use Rattle.hg_table.proofs.Changed.{ChangesSlot, changed_table, changed_chain}

length-stamp : (n : ℕ) → length (to_le_bytes w32 n) ≡ 4
length-stamp n = refl

-- the record of a version that died
pub stored_dead : (columns d : ℕ) (r : List ℕ) (v : RowVersion) → d ≢ 0 → d < 2 ^ 32 → 8 ≤ length r → IsStored columns r v
    → IsStored columns (put_mid 4 (length (to_le_bytes w32 d)) r (to_le_bytes w32 d)) (dead v d)
stored_dead columns d r v n small long h =
    let z : length (to_le_bytes w32 d) ≡ 4 = length-stamp d in
    subst (λ k. IsStored columns (put_mid 4 k r (to_le_bytes w32 d)) (dead v d)) (sym z) (record {
      stamp = h.stamp;
      end = (omega arith, small);
      born = below r (to_le_bytes w32 d) 4 4 0 4 (omega arith) (omega arith) ∙ h.born;
      died = within r (to_le_bytes w32 d) 4 4 (omega arith) z;
      row = subst (λ bs. IsRowOf v.row columns bs) (sym (drop-put_mid 4 4 r (to_le_bytes w32 d) 8 (omega arith) (omega arith) z)) h.row;
    })

same_bytes : (r s : List ℕ) → ◌≡◌ {A = Option (List ℕ)} (Some r) (Some s) → r ≡ s
same_bytes r s e = cc

-- what a page holds after a death
kills_slot : (columns j d : ℕ) (v : RowVersion) (old new : List ℕ) → d ≢ 0 → Shows columns (record_at old j) (Some v) → IsSlotted old → Kills old new j d
    → ChangesSlot columns j (Some (dead v d)) old new
kills_slot columns j d v old new n shows s k = let w = k.written s in record {
  slotted = w.slotted;
  clean = w.clean;
  here = subst (λ o. Shows columns o (Some (dead v d))) (sym (w.here k.record_bytes k.was))
      (stored_dead columns d k.record_bytes v n k.small k.long (subst (λ o. Shows columns o (Some v)) k.was shows));
  others = w.others;
}

-- the page that was changed held this version
pub record KillsVersion (columns j d : ℕ) (v : RowVersion) (old new : List ℕ) : Type 0 where
  pub kills : Kills old new j d
  pub shows : Shows columns (record_at old j) (Some v)

pub killed_table : (a b : Space) (t : Table) (columns : ℕ) (pages : List ℕ) (versions : List Placed) (p : Place) (d : ℕ) → d ≢ 0
    → (a.told ≡ true → (c : ℕ) × HasVersion a t c p) → ChangesPage a b p.page (λ old new. Kills old new p.slot d)
    → IsTable a t columns pages versions → IsTable b t columns pages (killed p d versions)
killed_table a b t columns pages versions p d n asked c table =
    let asks : (k : ℕ) × HasVersion a t k p = asked table.told in
    let on : has_page pages p.page ≡ true = same_there a t columns asks.0 pages versions p table asks.1 in
    let h : HoldsVersions a columns p.page (table.held p.page) = all_has (λ x. HoldsVersions a columns x (table.held x)) pages p.page table.holds on in
    let k : Changes b p.page (λ new. Kills h.page new p.slot d) = c.bytes h.page h.told in
    let there : (v : RowVersion) × (table.held p.page p.slot ≡ Some v) =
    shown_some columns (record_at h.page p.slot) (table.held p.page p.slot) k.holds.record_bytes k.holds.was (h.each p.slot) in
    let shows : Shows columns (record_at h.page p.slot) (Some there.0) = subst (Shows columns (record_at h.page p.slot)) there.1 (h.each p.slot) in
    changed_table a b t columns p.page p.slot (Some (dead there.0 d)) pages versions (killed p d versions) (KillsVersion columns p.slot d there.0)
    (record {
      steady = c.steady;
      takes_none = c.takes_none;
      of_heap = c.of_heap;
      next = c.next;
      bytes = λ page told.
          let same : h.page ≡ page = same_bytes h.page page (sym h.told ∙ told) in
          let e : Changes b p.page (λ new. Kills page new p.slot d) = c.bytes page told in
          record { page = e.page; told = e.told; holds = record { kills = e.holds; shows = subst (λ z. Shows columns (record_at z p.slot) (Some there.0)) same shows } };
    })
    (λ old new s kv. kills_slot columns p.slot d there.0 old new n kv.shows s kv.kills) table
    (ap (killed p d) table.listed ∙ pages_killed table.held pages p d there.0 there.1)

-- the pages of a table stay its pages, whatever the answer
pub kept_chain : (a b : Space) (t : Table) (pages : List ℕ) (x : ℕ) (P : List ℕ → List ℕ → Type 0) (r : Result (Unit {0}) PageFault)
    → OnOk r (ChangesPage a b x P) → OnErr r (Looks a b) → IsChain a t pages → IsChain b t pages
kept_chain a b t pages x P (Ok u) ok err chain = changed_chain a b t pages x P ok chain
kept_chain a b t pages x P (Err f) ok err chain = chain_stays none_mine a b t pages err.steady (none_of_all pages) chain
  where
    none_of_all : (xs : List ℕ) → AllByRecursion (λ y. ⊥ → ⊥) xs
    none_of_all [] = tt
    none_of_all (y ∷ ys) = (λ n. n, none_of_all ys)
