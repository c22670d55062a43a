-- A table of which one page was changed.
use Rattle.std.specs.Prelude.{◌≡◌, ◌≢◌, ℕ, List, Option}
use Rattle.std.proofs.Common.{sym, ◌∙◌, ap, subst, refl, inl, inr}
use Rattle.std.proofs.lemmas.Bool.{cases_eq}
use Rattle.hg_base.specs.Space.{Space, at, key_in}
use Rattle.hg_base.specs.LineLaws.{IsSameLink, all_both, all_map, line-plain, line_stays}
use Rattle.hg_base.specs.Lines.{IsLine}
use Rattle.hg_base.specs.TakenLaws.{key_in-one}
use Rattle.hg_base.specs.Steadiness.{IsPlain, IsSamePage}
use Rattle.hg_base.specs.declared.File.TheVariants.{Main}
use Rattle.hg_base.specs.declared.Table.{Table}
use Rattle.hg_slot.specs.Slotted.{record_at, IsSlotted, IsClean}
use Rattle.hg_table.specs.Chains.{IsChain}
use Rattle.hg_table.specs.Versions.{Placed, RowVersion, HoldsVersions, IsTable, Shows, in_pages}
use Rattle.hg_table.specs.Steps.{ChangesPage, Changes}
use Rattle.hg_table.specs.Altering.{with_slot, at_other, slot_here, slot_beside}

-- every page is linked as before
pub changed_link : (a b : Space) (x y : ℕ) (P : List ℕ → List ℕ → Type 0) → ChangesPage a b x P → IsPlain a (key_in Main y) → IsSameLink a b (key_in Main y)
changed_link a b x y P c plain = elim (cases_eq y x) [
  | inl e ↦ subst (λ z. IsSameLink a b (key_in Main z)) (sym e) (record {
    taken = ap (λ f. f (key_in Main x)) c.takes_none.taken;
    of_heap = c.of_heap;
    next = c.next;
  })
  | inr n ↦
      let s : IsSamePage a b (key_in Main y) = c.steady.pages (key_in Main y) (λ q. n (key_in-one Main y x q)) plain in
      record { taken = s.taken; of_heap = s.of_heap; next = s.next }
]

pub changed_line : (a b : Space) (from : Option ℕ) (xs : List ℕ) (x : ℕ) (P : List ℕ → List ℕ → Type 0) → ChangesPage a b x P → IsLine Main a from xs → IsLine Main b from xs
changed_line a b from xs x P c l =
    line_stays Main a b from xs c.steady.limit
    (all_map (λ y. IsPlain a (key_in Main y)) (λ y. IsSameLink a b (key_in Main y)) xs (λ y p. changed_link a b x y P c p) (line-plain Main a from xs l)) l

pub changed_chain : (a b : Space) (t : Table) (pages : List ℕ) (x : ℕ) (P : List ℕ → List ℕ → Type 0) → ChangesPage a b x P → IsChain a t pages → IsChain b t pages
changed_chain a b t pages x P c h = record { line = changed_line a b t.first pages x P c h.line; last = h.last }

-- What a page holds where its slot j holds something else.
pub record ChangesSlot (columns j : ℕ) (o : Option RowVersion) (old new : List ℕ) : Type 0 where
  pub slotted : IsSlotted new
  pub clean : IsClean old → IsClean new
  pub here : Shows columns (record_at new j) o
  pub others : (k : ℕ) → k ≢ j → record_at new k ≡ record_at old k

changed_at : (columns k : ℕ) (r s : Option (List ℕ)) (v : Option RowVersion) → s ≡ r → Shows columns r v → Shows columns s v
changed_at columns k r s v e h = subst (λ z. Shows columns z v) (sym e) h

shows_as : (columns : ℕ) (r : Option (List ℕ)) (v w : Option RowVersion) → w ≡ v → Shows columns r v → Shows columns r w
shows_as columns r v w e h = subst (Shows columns r) (sym e) h

pub changed_here : (a b : Space) (columns x j : ℕ) (o : Option RowVersion) (held : ℕ → ℕ → Option RowVersion) (P : List ℕ → List ℕ → Type 0)
    → ChangesPage a b x P → ((old new : List ℕ) → IsSlotted old → P old new → ChangesSlot columns j o old new)
    → HoldsVersions a columns x (held x) → HoldsVersions b columns x (with_slot held x j o x)
changed_here a b columns x j o held P c f h =
    let d : Changes b x (P h.page) = c.bytes h.page h.told in
    let s : ChangesSlot columns j o h.page d.page = f h.page d.page h.slotted d.holds in
    record {
      page = d.page;
      told = d.told;
      slotted = s.slotted;
      clean = s.clean h.clean;
      each = λ k. elim (cases_eq k j) [
        | inl e ↦ shows_as columns (record_at d.page k) o (with_slot held x j o x k) (slot_here held x j o x k refl e)
            (changed_at columns k (record_at d.page j) (record_at d.page k) o (ap (record_at d.page) e) s.here)
        | inr n ↦ shows_as columns (record_at d.page k) (held x k) (with_slot held x j o x k) (slot_beside held x j o x k refl n)
            (changed_at columns k (record_at h.page k) (record_at d.page k) (held x k) (s.others k n) (h.each k))
      ];
    }

pub changed_holds : (a b : Space) (columns x y j : ℕ) (o : Option RowVersion) (held : ℕ → ℕ → Option RowVersion) (P : List ℕ → List ℕ → Type 0)
    → ChangesPage a b x P → ((old new : List ℕ) → IsSlotted old → P old new → ChangesSlot columns j o old new)
    → IsPlain a (key_in Main y) → HoldsVersions a columns y (held y) → HoldsVersions b columns y (with_slot held x j o y)
changed_holds a b columns x y j o held P c f plain h = elim (cases_eq y x) [
  | inl e ↦ subst (λ z. HoldsVersions b columns z (with_slot held x j o z)) (sym e)
      (changed_here a b columns x j o held P c f (subst (λ z. HoldsVersions a columns z (held z)) e h))
  | inr n ↦
      let s : IsSamePage a b (key_in Main y) = c.steady.pages (key_in Main y) (λ q. n (key_in-one Main y x q)) plain in
      subst (HoldsVersions b columns y) (sym (at_other held x y (at (held x) j o) n))
      (record { page = h.page; told = s.bytes ∙ h.told; slotted = h.slotted; clean = h.clean; each = h.each })
]

-- the table with one slot changed
pub changed_table : (a b : Space) (t : Table) (columns x j : ℕ) (o : Option RowVersion) (pages : List ℕ) (versions new : List Placed) (P : List ℕ → List ℕ → Type 0)
    → ChangesPage a b x P → ((old now : List ℕ) → IsSlotted old → P old now → ChangesSlot columns j o old now)
    → (table : IsTable a t columns pages versions) → new ≡ in_pages (with_slot table.held x j o) pages → IsTable b t columns pages new
changed_table a b t columns x j o pages versions new P c f table e = record {
  told = c.steady.told ∙ table.told;
  chain = changed_chain a b t pages x P c table.chain;
  held = with_slot table.held x j o;
  holds = all_both (λ y. IsPlain a (key_in Main y)) (λ y. HoldsVersions a columns y (table.held y)) (λ y. HoldsVersions b columns y (with_slot table.held x j o y)) pages
      (λ y p h. changed_holds a b columns x y j o table.held P c f p h) (line-plain Main a t.first pages table.chain.line) table.holds;
  listed = e;
}
