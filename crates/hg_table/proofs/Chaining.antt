-- A table behind whose last page a page was put.
use Rattle.std.specs.Prelude.{◌≡◌, ◌≢◌, ℕ, ◌<◌, true, false, List, [], ◌∷◌, ◌++◌, length, Option, Some, None, is_some, if◌then◌else◌}
use Rattle.std.specs.List.{AllByRecursion}
use Rattle.std.proofs.Common.{sym, ◌∙◌, ap, subst, refl, arith, inl, inr}
use Rattle.std.proofs.lemmas.Bool.{cases_eq, false≢true}
use Rattle.hg_base.specs.Space.{Space, at, key_in}
use Rattle.hg_base.specs.LineLaws.{all_both, all_map, all_more, distinct-apart, distinct-same, distinct_more, last_more, last_none, line-plain, path_more}
use Rattle.hg_base.specs.Lines.{IsPath}
use Rattle.hg_base.specs.TakenLaws.{key_in-one}
use Rattle.hg_base.specs.Steadiness.{IsPlain, IsSamePage, Steady}
use Rattle.hg_base.specs.declared.File.TheVariants.{Main}
use Rattle.hg_base.specs.declared.Place.{Place}
use Rattle.hg_base.specs.declared.Table.{Table}
use Rattle.hg_model.specs.declared.values.Value.{Value}
use Rattle.hg_slot.specs.Slotted.{record_at}
use Rattle.hg_table.specs.Chains.{IsChain}
use Rattle.hg_table.specs.Versions.{Placed, RowVersion, HoldsVersions, IsStored, IsTable, Shows, in_pages, most_slots}
use Rattle.hg_table.specs.Calls.{insert_mine, Inserts, IsTableWith, newborn, PutsIn}
use Rattle.hg_table.specs.Steps.{Changes, HoldsRecord, AddsRecord, LeadsTo, first_with}
use Rattle.hg_table.specs.Listing.{put}
use Rattle.hg_table.specs.Altering.{with_new, none_held, at_here, at_other, pages_new}
use Rattle.hg_table.proofs.Seeing.{slot_small}

-- What is known of a page of the table once one was put behind the last.
pub record IsKept (a b : Space) (last : Option ℕ) (x y : ℕ) : Type 0 where
  pub apart : y ≢ x
  pub taken : b.taken (key_in Main y) ≡ a.taken (key_in Main y)
  pub of_heap : b.of_heap (key_in Main y) ≡ a.of_heap (key_in Main y)
  pub bytes : b.bytes (key_in Main y) ≡ a.bytes (key_in Main y)
  pub next : (last ≡ Some y → ⊥) → b.next (key_in Main y) ≡ a.next (key_in Main y)

apart_new : (a : Space) (x y : ℕ) → a.taken (key_in Main x) ≡ false → a.taken (key_in Main y) ≡ true → y ≢ x
apart_new a x y free full e = false≢true (sym free ∙ ap (λ z. a.taken (key_in Main z)) (sym e) ∙ full)

taken_still : (a b : Space) (x y : ℕ) → b.taken ≡ at a.taken (key_in Main x) true → y ≢ x → b.taken (key_in Main y) ≡ a.taken (key_in Main y)
taken_still a b x y e n = ap (λ f. f (key_in Main y)) e ∙ at_other a.taken (key_in Main x) (key_in Main y) true (λ q. n (key_in-one Main y x q))

beside : (a b : Space) (last : Option ℕ) (x y : ℕ) → Steady (insert_mine (record { first = None; last = last }) (record { page = x; slot = 0 })) a b → (last ≡ Some y → ⊥) → y ≢ x
    → IsPlain a (key_in Main y) → IsSamePage a b (key_in Main y)
beside a b None x y s n m p = s.pages (key_in Main y) (λ c. elim c [ inl e ↦ e | inr e ↦ m (key_in-one Main y x e) ]) p
beside a b (Some l) x y s n m p =
    s.pages (key_in Main y) (λ c. elim c [ inl e ↦ n (ap (λ z. Some z) (sym (key_in-one Main y l e))) | inr e ↦ m (key_in-one Main y x e) ]) p

pub kept_page : (a b : Space) (last : Option ℕ) (x y : ℕ) → Steady (insert_mine (record { first = None; last = last }) (record { page = x; slot = 0 })) a b
    → a.taken (key_in Main x) ≡ false → b.taken ≡ at a.taken (key_in Main x) true → LeadsTo a b last x → IsPlain a (key_in Main y) → IsKept a b last x y
kept_page a b None x y s free e l p =
    let m : y ≢ x = apart_new a x y free p.taken in
    let same : IsSamePage a b (key_in Main y) = beside a b None x y s (λ q. absurd (let z : ◌≡◌ {A = Option ℕ} None (Some y) = q in cc)) m p in
    record { apart = m; taken = taken_still a b x y e m; of_heap = same.of_heap; bytes = same.bytes; next = λ n. same.next }
kept_page a b (Some k) x y s free e l p = elim (cases_eq k y) [
  | inl i ↦
      let m : y ≢ x = apart_new a x y free p.taken in
      record {
        apart = m;
        taken = taken_still a b x y e m;
        of_heap = subst (λ z. b.of_heap (key_in Main z) ≡ a.of_heap (key_in Main z)) i l.of_heap;
        bytes = subst (λ z. b.bytes (key_in Main z) ≡ a.bytes (key_in Main z)) i l.bytes;
        next = λ n. absurd (n (ap (λ z. Some z) i));
      }
  | inr d ↦
      let m : y ≢ x = apart_new a x y free p.taken in
      let same : IsSamePage a b (key_in Main y) = beside a b (Some k) x y s (λ q. d (some_same k y q)) m p in
      record { apart = m; taken = taken_still a b x y e m; of_heap = same.of_heap; bytes = same.bytes; next = λ n. same.next }
]
  where
    some_same : (i j : ℕ) → ◌≡◌ {A = Option ℕ} (Some i) (Some j) → i ≡ j
    some_same i j e = cc

-- the pages of the table and the new one
abbrev pub KeptPages : Space → Space → Option ℕ → ℕ → List ℕ → Type 0
KeptPages a b last x pages = AllByRecursion (IsKept a b last x) pages

pub kept_pages : (a b : Space) (old new : Table) (r : List ℕ) (place : Place) (pages : List ℕ) → AddsRecord a b old new r place → IsChain a old pages
    → KeptPages a b old.last place.page pages
kept_pages a b old new r place pages h chain =
    all_map (λ y. IsPlain a (key_in Main y)) (IsKept a b old.last place.page) pages
    (λ y p. kept_page a b old.last place.page y h.steady h.not_taken h.taken h.linked p) (line-plain Main a old.first pages chain.line)

-- where the path goes on
from_here : (g : ℕ → Option ℕ) (first : Option ℕ) (xs : List ℕ) (x : ℕ) → xs ≡ [] → first ≡ Some x → g (key_in Main x) ≡ None → IsPath Main g first (xs ++ x ∷ [])
from_here g first xs x e f n = subst (λ ys. IsPath Main g first (ys ++ x ∷ [])) (sym e) (f, n)

path_with : (a b : Space) (old new : Table) (pages : List ℕ) (x : ℕ) (last : Option ℕ) → old.last ≡ last → IsChain a old pages → KeptPages a b last x pages
    → LeadsTo a b last x → new.first ≡ first_with old x → b.next (key_in Main x) ≡ None → IsPath Main b.next new.first (pages ++ x ∷ [])
path_with a b old new pages x None e chain kept l first none =
    from_here b.next new.first pages x (last_none pages (sym chain.last ∙ e)) (first ∙ ap (λ (o : Option ℕ). if is_some o then old.first else Some x) e) none
path_with a b old new pages x (Some k) e chain kept l first none =
    subst (λ o. IsPath Main b.next o (pages ++ x ∷ [])) (sym (first ∙ ap (λ (o : Option ℕ). if is_some o then old.first else Some x) e))
    (path_more Main a.next b.next old.first pages x k chain.line.path (sym chain.last ∙ e) (distinct-apart Main a.taken (a.limit Main) pages chain.line.taken)
    (all_map (IsKept a b (Some k) x) (λ y. y ≢ k → b.next (key_in Main y) ≡ a.next (key_in Main y)) pages (λ y q n. q.next (λ i. n (sym (some_one k y i)))) kept) l.next none)
  where
    some_one : (i j : ℕ) → ◌≡◌ {A = Option ℕ} (Some i) (Some j) → i ≡ j
    some_one i j e = cc

pub chain_with : (a b : Space) (old new : Table) (r : List ℕ) (place : Place) (pages : List ℕ) → AddsRecord a b old new r place → IsChain a old pages
    → IsChain b new (pages ++ place.page ∷ [])
chain_with a b old new r place pages h chain =
    let x : ℕ = place.page in
    let kept : KeptPages a b old.last x pages = kept_pages a b old new r place pages h chain in
    let limit : a.limit Main ≡ b.limit Main = sym (ap (λ f. f Main) h.steady.limit) in
    record {
      line = record {
        taken = distinct_more Main b.taken (b.limit Main) pages x
            (distinct-same Main a.taken b.taken (a.limit Main) (b.limit Main) pages limit
            (all_map (IsKept a b old.last x) (λ y. b.taken (key_in Main y) ≡ a.taken (key_in Main y)) pages (λ y k. k.taken) kept) chain.line.taken)
            (all_map (IsKept a b old.last x) (λ y. y ≢ x) pages (λ y k. k.apart) kept)
            (let l = h.below_limit in omega arith)
            (ap (λ f. f (key_in Main x)) h.taken ∙ at_here a.taken (key_in Main x) (key_in Main x) true refl);
        no_heap = all_more (λ y. b.of_heap (key_in Main y) ≡ false) pages x
            (all_both (IsKept a b old.last x) (λ y. a.of_heap (key_in Main y) ≡ false) (λ y. b.of_heap (key_in Main y) ≡ false) pages
            (λ y k q. k.of_heap ∙ q) kept chain.line.no_heap) h.no_heap;
        path = path_with a b old new pages x old.last refl chain kept h.linked h.first h.no_next;
      };
      last = h.last ∙ sym (last_more pages x);
    }

-- the new page holds the one version
new_holds : (b : Space) (columns x j : ℕ) (r : List ℕ) (v : RowVersion) (held : ℕ → ℕ → Option RowVersion) → IsStored columns r v
    → Changes b x (λ page. HoldsRecord page j r) → HoldsVersions b columns x (with_new held x j v x)
new_holds b columns x j r v held s c =
    subst (HoldsVersions b columns x) (sym (at_here held x x (at none_held j (Some v)) refl)) (record {
      page = c.page;
      told = c.told;
      slotted = c.holds.slotted;
      clean = c.holds.clean;
      each = λ k. elim (cases_eq k j) [
        | inl e ↦ subst (Shows columns (record_at c.page k)) (sym (at_here none_held j k (Some v) e))
            (subst (λ o. Shows columns o (Some v)) (sym (ap (record_at c.page) e ∙ c.holds.here)) s)
        | inr n ↦ subst (Shows columns (record_at c.page k)) (sym (at_other none_held j k (Some v) n))
            (subst (λ o. Shows columns o None) (sym (c.holds.others k n)) tt)
      ];
    })

old_holds : (a b : Space) (columns x y j : ℕ) (v : RowVersion) (last : Option ℕ) (held : ℕ → ℕ → Option RowVersion) → IsKept a b last x y
    → HoldsVersions a columns y (held y) → HoldsVersions b columns y (with_new held x j v y)
old_holds a b columns x y j v last held k h =
    subst (HoldsVersions b columns y) (sym (at_other held x y (at none_held j (Some v)) k.apart))
    (record { page = h.page; told = k.bytes ∙ h.told; slotted = h.slotted; clean = h.clean; each = h.each })

pub table_with : (a b : Space) (old new : Table) (r : List ℕ) (place : Place) (columns : ℕ) (pages : List ℕ) (versions : List Placed) (v : RowVersion)
    → AddsRecord a b old new r place → IsStored columns r v → IsTable a old columns pages versions
    → IsTableWith b new columns (pages ++ place.page ∷ []) versions (put place.page place.slot v)
table_with a b old new r place columns pages versions v h s table =
    let x : ℕ = place.page in
    let kept : KeptPages a b old.last x pages = kept_pages a b old new r place pages h table.chain in
    let c : Changes b x (λ page. HoldsRecord page place.slot r) = h.bytes table.told in
    let small : place.slot < most_slots = slot_small c.page r place.slot c.holds.slotted c.holds.here in
    record {
      versions = in_pages (with_new table.held x place.slot v) (pages ++ x ∷ []);
      puts = subst (λ vs. PutsIn vs (in_pages (with_new table.held x place.slot v) (pages ++ x ∷ [])) (put x place.slot v)) (sym table.listed)
          (pages_new table.held pages x place.slot v (all_map (IsKept a b old.last x) (λ y. y ≢ x) pages (λ y k. k.apart) kept) small);
      table = record {
        told = h.steady.told ∙ table.told;
        chain = chain_with a b old new r place pages h table.chain;
        held = with_new table.held x place.slot v;
        holds = all_more (λ y. HoldsVersions b columns y (with_new table.held x place.slot v y)) pages x
            (all_both (IsKept a b old.last x) (λ y. HoldsVersions a columns y (table.held y)) (λ y. HoldsVersions b columns y (with_new table.held x place.slot v y)) pages
            (λ y k q. old_holds a b columns x y place.slot v old.last table.held k q) kept table.holds)
            (new_holds b columns x place.slot r v table.held s c);
        listed = refl;
      };
    }

pub inserts_new : (a b : Space) (old new : Table) (r : List ℕ) (place : Place) (row : List Value) (born : ℕ) → AddsRecord a b old new r place
    → IsStored (length row) r (record { born = born; died = None; row = row }) → (pages : List ℕ) → IsChain a old pages
    → Inserts a b old new pages (newborn row born place)
inserts_new a b old new r place row born h s pages chain = record {
  now = pages ++ place.page ∷ [];
  chain = chain_with a b old new r place pages h chain;
  grown = inr refl;
  table = λ columns versions e table.
      table_with a b old new r place columns pages versions (record { born = born; died = None; row = row }) h
      (subst (λ n. IsStored n r (record { born = born; died = None; row = row })) e s) table;
}
