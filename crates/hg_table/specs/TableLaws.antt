-- Laws of tables, for the layers above.
use Rattle.std.specs.Prelude.{◌≡◌, ℕ, true, false, List, [], ◌∷◌, ◌++◌, Option, Some, None, IsTrue, if◌then◌else◌}
use Rattle.std.specs.List.{AllByRecursion}
use Rattle.std.proofs.Common.{sym, ◌∙◌, ap, subst, refl}
use Rattle.hg_base.specs.Space.{Space, key_in}
use Rattle.hg_base.specs.LineLaws.{all_both, path-one, same_pages, line_steady}
use Rattle.hg_base.specs.Lines.{NoneMine, has_page}
use Rattle.hg_base.specs.Steadiness.{Mine, Steady, IsSamePage}
use Rattle.hg_base.specs.declared.File.TheVariants.{Main}
use Rattle.hg_base.specs.declared.Place.{Place}
use Rattle.hg_base.specs.declared.Table.{Table}
use Rattle.hg_table.specs.Chains.{IsChain}
use Rattle.hg_table.specs.Versions.{Placed, RowVersion, HoldsVersions, IsTable}
use Rattle.hg_table.specs.Places.{is_at, version_at, behind, killed, killed_at}
use Rattle.hg_table.specs.InOrder.{AreInOrder, IsOn, in_pages-on, in_pages-ordered, differ-in-order, version-in-order, behind-in-order}

abbrev pub no_pages : Table
no_pages = record { first = None; last = None }

-- a table of no page
pub empty_chain : (s : Space) → IsChain s no_pages []
empty_chain s = record { line = record { taken = tt; no_heap = tt; path = refl }; last = refl }

pub empty_table : (s : Space) (columns : ℕ) → s.told ≡ true → IsTable s no_pages columns [] []
empty_table s columns told = record { told = told; chain = empty_chain s; held = λ x. λ k. None; holds = tt; listed = refl }

pub chain_stays : (m : Mine) (a b : Space) (t : Table) (pages : List ℕ) → Steady m a b → NoneMine Main m pages → IsChain a t pages → IsChain b t pages
chain_stays m a b t pages steady apart chain = record {
  line = line_steady Main m a b t.first pages steady apart chain.line;
  last = chain.last;
}

pub holds-same : (a b : Space) (columns x : ℕ) (held : ℕ → Option RowVersion) → b.bytes (key_in Main x) ≡ a.bytes (key_in Main x)
    → HoldsVersions a columns x held → HoldsVersions b columns x held
holds-same a b columns x held e h = record { page = h.page; told = e ∙ h.told; slotted = h.slotted; clean = h.clean; each = h.each }

pub holds_stay : (a b : Space) (columns : ℕ) (held : ℕ → ℕ → Option RowVersion) (xs : List ℕ) → AllByRecursion (λ x. IsSamePage a b (key_in Main x)) xs
    → AllByRecursion (λ x. HoldsVersions a columns x (held x)) xs → AllByRecursion (λ x. HoldsVersions b columns x (held x)) xs
holds_stay a b columns held xs same holds =
    all_both (λ x. IsSamePage a b (key_in Main x)) (λ x. HoldsVersions a columns x (held x)) (λ x. HoldsVersions b columns x (held x)) xs
    (λ x s h. holds-same a b columns x (held x) s.bytes h) same holds

pub table_stays : (m : Mine) (a b : Space) (t : Table) (columns : ℕ) (pages : List ℕ) (versions : List Placed)
    → Steady m a b → NoneMine Main m pages → IsTable a t columns pages versions → IsTable b t columns pages versions
table_stays m a b t columns pages versions steady apart table = record {
  told = steady.told ∙ table.told;
  chain = chain_stays m a b t pages steady apart table.chain;
  held = table.held;
  holds = holds_stay a b columns table.held pages (same_pages Main m a b t.first pages steady apart table.chain.line) table.holds;
  listed = table.listed;
}

-- a table has one list of pages
some_one : (x y : ℕ) → ◌≡◌ {A = Option ℕ} (Some x) (Some y) → x ≡ y
some_one x y e = cc

pub one_chain : (s : Space) (t : Table) (ps qs : List ℕ) → IsChain s t ps → IsChain s t qs → ps ≡ qs
one_chain s t ps qs p q = path-one Main s.next t.first ps qs p.line.path q.line.path

-- each version stands on a page of its table
pub on_pages : (s : Space) (t : Table) (columns : ℕ) (pages : List ℕ) (versions : List Placed) → IsTable s t columns pages versions
    → AllByRecursion (λ v. IsTrue (has_page pages v.place.page)) versions
on_pages s t columns pages versions table = subst (AllByRecursion (IsOn pages)) (sym table.listed) (in_pages-on table.held pages)

in-order : (s : Space) (t : Table) (columns : ℕ) (pages : List ℕ) (versions : List Placed) → IsTable s t columns pages versions → AreInOrder pages versions
in-order s t columns pages versions table =
    subst (AreInOrder pages) (sym table.listed) (in_pages-ordered s.taken (s.limit Main) table.held pages table.chain.line.taken)

-- no two versions stand at one place
pub places_differ : (s : Space) (t : Table) (columns : ℕ) (pages : List ℕ) (before : List Placed) (v : Placed) (after : List Placed)
    → IsTable s t columns pages (before ++ v ∷ after) → AllByRecursion (λ w. is_at v.place w ≡ false) (before ++ after)
places_differ s t columns pages before v after table = differ-in-order pages before v after (in-order s t columns pages (before ++ v ∷ after) table)

-- the version at its place
pub version_at-here : (s : Space) (t : Table) (columns : ℕ) (pages : List ℕ) (before : List Placed) (v : Placed) (after : List Placed)
    → IsTable s t columns pages (before ++ v ∷ after) → version_at (before ++ v ∷ after) v.place ≡ Some v.version
version_at-here s t columns pages before v after table = version-in-order before v after (places_differ s t columns pages before v after table)

-- the versions behind the place of a version
pub behind-here : (s : Space) (t : Table) (columns : ℕ) (pages : List ℕ) (before : List Placed) (v : Placed) (after : List Placed)
    → IsTable s t columns pages (before ++ v ∷ after) → behind pages (Some v.place) (before ++ v ∷ after) ≡ after
behind-here s t columns pages before v after table = behind-in-order pages before v after (in-order s t columns pages (before ++ v ∷ after) table)

killed-beside : (p : Place) (d : ℕ) (vs : List Placed) → AllByRecursion (λ w. is_at p w ≡ false) vs → killed p d vs ≡ vs
killed-beside p d [] h = refl
killed-beside p d (w ∷ vs) h =
    ap (λ b. (if b then record w { version = record w.version { died = Some d } } else w) ∷ killed p d vs) h.0 ∙ ap (λ r. w ∷ r) (killed-beside p d vs h.1)

killed-one : (p : Place) (d : ℕ) (xs : List Placed) (v : Placed) (ys : List Placed) → AllByRecursion (λ w. is_at p w ≡ false) (xs ++ ys)
    → killed p d (xs ++ v ∷ ys) ≡ xs ++ killed_at p d v ∷ ys
killed-one p d [] v ys h = ap (λ r. killed_at p d v ∷ r) (killed-beside p d ys h)
killed-one p d (w ∷ xs) v ys h =
    ap (λ b. (if b then record w { version = record w.version { died = Some d } } else w) ∷ killed p d (xs ++ v ∷ ys)) h.0 ∙ ap (λ r. w ∷ r) (killed-one p d xs v ys h.1)

-- a death changes one version
pub killed-here : (s : Space) (t : Table) (columns : ℕ) (pages : List ℕ) (d : ℕ) (before : List Placed) (v : Placed) (after : List Placed)
    → IsTable s t columns pages (before ++ v ∷ after) → killed v.place d (before ++ v ∷ after) ≡ before ++ killed_at v.place d v ∷ after
killed-here s t columns pages d before v after table = killed-one v.place d before v after (places_differ s t columns pages before v after table)
