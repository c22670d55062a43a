-- How an index changes with an entry of its tree.
use Rattle.std.specs.Prelude.{◌≡◌, ℕ, ◌==◌, ◌&&◌, Bool, true, false, List, [], ◌∷◌, ◌++◌, length, map, None, Some, Result, Ok, Err}
use Rattle.std.specs.List.{AllByRecursion}
use Rattle.std.specs.List.Sorted.{IsPermutation}
use Rattle.std.proofs.Common.{sym, ◌∙◌, ap, subst, refl}
use Rattle.std.proofs.lemmas.Bool.{false≢true, eq-eqb}
use Rattle.std.proofs.lemmas.List.Sorted.{IsPermutation-refl, IsPermutation-sym, IsPermutation-cons, IsPermutation-trans, IsPermutation-middle, IsPermutation-map}
use Rattle.hg_base.specs.Space.{Space}
use Rattle.hg_base.specs.Lines.{IsLine}
use Rattle.hg_base.specs.Steadiness.{Steady}
use Rattle.hg_base.specs.declared.Index.{Index}
use Rattle.hg_base.specs.declared.Place.{Place}
use Rattle.hg_base.specs.declared.File.TheVariants.{Main}
use Rattle.hg_base.specs.declared.pages.PageFault.{PageFault}
use Rattle.hg_btree.specs.Deleting.{TakenOut, Lacks, Deletes, pages_mine}
use Rattle.hg_btree.specs.Entries.{Entry, IsSame}
use Rattle.hg_btree.specs.Growing.{Inserts, IsTreeNow, LineGrows, most_pages}
use Rattle.hg_btree.specs.Life.{Makes}
use Rattle.hg_btree.specs.Putting.{PutIn}
use Rattle.hg_btree.specs.Steps.{Looks}
use Rattle.hg_btree.specs.Trees.{IsTree}
use Rattle.hg_model.specs.declared.values.Value.{Value}
use Rattle.hg_table.specs.Places.{is_at}
use Rattle.hg_table.specs.Versions.{Placed}
use Rattle.hg_index.specs.Agreeing.{IsIndexOf}
use Rattle.hg_index.specs.Bags.{among, all_permuted, image, without_middle}
use Rattle.hg_index.specs.Calls.{HasIndex, HasNoneAt, IsIndexNow, IsReady, most_with}
use Rattle.hg_index.specs.Entering.{place_number, row_key, entry_for, entry_of, IsPlace, IsEnterable, MayBeEntered}
use Rattle.hg_index.proofs.Looking.{tree_looked, line_looked}
use Rattle.hg_index.proofs.Telling.{all_at, all_front, all_back, all_join, each_version, place_one}

-- a version whose entry this is
pub record IsEntryOf (columns : List ℕ) (versions : List Placed) (x : Entry) : Type 0 where
  pub front : List Placed
  pub v : Placed
  pub back : List Placed
  pub are : versions ≡ front ++ v ∷ back
  pub is : entry_of columns v ≡ x

pub entry_is : (columns : List ℕ) (versions : List Placed) (es before : List Entry) (x : Entry) (after : List Entry) → IsPermutation es (map (entry_of columns) versions)
    → es ≡ before ++ x ∷ after → IsEntryOf columns versions x
entry_is columns versions es before x after are e =
    let m = among x (before ++ after) (map (entry_of columns) versions)
    (IsPermutation-trans (x ∷ (before ++ after)) (before ++ x ∷ after) (map (entry_of columns) versions)
    (IsPermutation-sym (before ++ x ∷ after) (x ∷ (before ++ after)) (IsPermutation-middle before x after))
    (subst (λ l. IsPermutation l (map (entry_of columns) versions)) e are)) in
    let i = image (entry_of columns) versions m.before x m.after m.are in
    record { front = i.front; v = i.x; back = i.back; are = i.are; is = i.is }

-- no version at a place has an entry of it
not_at : (at : Place) (v : Placed) → is_at at v ≡ false → v.place ≡ at → ⊥
not_at at v h e =
    false≢true (sym h ∙ ap (λ (p : Place). p.page == at.page && p.slot == at.slot) e ∙ both (at.page == at.page) (at.slot == at.slot) (eq-eqb at.page at.page refl) (eq-eqb at.slot at.slot refl))
  where
    both : (a b : Bool) → a ≡ true → b ≡ true → (a && b) ≡ true
    both a b p q = ap (λ t. t && b) p ∙ q

pub none_has : (s : Space) (i : Index) (pages : List ℕ) (leaves : ℕ) (versions : List Placed) (h : IsIndexOf s i pages leaves versions) (at : Place) (before : List Entry) (x : Entry) (after : List Entry)
    → IsPlace at → HasNoneAt at versions → h.entries ≡ before ++ x ∷ after → x.place ≡ place_number at → ⊥
none_has s i pages leaves versions h at before x after proper none e p =
    let w = entry_is i.columns.items versions h.entries before x after h.are e in
    let m : IsEnterable i.columns.items w.v = all_at (IsEnterable i.columns.items) w.front w.v w.back (subst (AllByRecursion (IsEnterable i.columns.items)) w.are h.may) in
    not_at at w.v (all_at (λ v. is_at at v ≡ false) w.front w.v w.back (subst (HasNoneAt at) w.are none))
    (place_one w.v.place at m.place proper (ap (λ (n : Entry). n.place) w.is ∙ p))

-- ---- an entry more

enterable : (columns : List ℕ) (row : List Value) (at : Place) (v : Placed) → MayBeEntered columns row → IsPlace at → v.version.row ≡ row → v.place ≡ at → IsEnterable columns v
enterable columns row at v m p r e = record { row = subst (MayBeEntered columns) (sym r) m; place = subst IsPlace (sym e) p }

entry_same : (columns : List ℕ) (row : List Value) (at : Place) (v : Placed) → v.version.row ≡ row → v.place ≡ at → entry_of columns v ≡ entry_for columns row at
entry_same columns row at v r e = ap (λ k. entry_for columns k v.place) r ∙ ap (λ p. entry_for columns row p) e

put_more : (f : Placed → Entry) (es now : List Entry) (t : Entry) (versions : List Placed) (v : Placed) → IsPermutation es (map f versions) → PutIn es now t → f v ≡ t
    → IsPermutation now (map f (v ∷ versions))
put_more f es now t versions v are p e =
    subst (λ l. IsPermutation l (f v ∷ map f versions)) (sym p.now)
    (IsPermutation-trans (p.before ++ t ∷ p.after) (t ∷ (p.before ++ p.after)) (f v ∷ map f versions) (IsPermutation-middle p.before t p.after)
    (subst (λ x. IsPermutation (t ∷ (p.before ++ p.after)) (x ∷ map f versions)) (sym e)
    (IsPermutation-cons t (p.before ++ p.after) (map f versions) (subst (λ l. IsPermutation l (map f versions)) p.was are))))

same_now : (s b : Space) (i : Index) (pages : List ℕ) (leaves most : ℕ) (versions : List Placed) → (h : IsIndexOf s i pages leaves versions)
    → IsTreeNow i.tree.file b i.tree.top h.entries most leaves → IsIndexNow b i most leaves versions
same_now s b i pages leaves most versions h t = record {
  pages = t.pages;
  leaves_now = t.leaves_now;
  index = record { entries = h.entries; tree = t.tree; are = h.are; may = h.may };
  few = t.few;
  two_a_leaf = t.two_a_leaf;
  no_less = t.no_less;
  one_more = t.one_more;
}

-- what an insertion makes of the tree of an index
abbrev pub PutsEntry : Space → Space → Index → List Value → Place → Result Bool PageFault → Type 0
PutsEntry a b i row at result = (pages : List ℕ) (leaves : ℕ) (versions : List Placed) (h : IsIndexOf a i pages leaves versions)
    → Inserts i.tree.file b i.tree.top h.entries (most_with a i pages leaves versions h row at) leaves (entry_for i.columns.items row at) result

pub index_added : (a b : Space) (i : Index) (row : List Value) (at : Place) (new : Bool) → IsPlace at → MayBeEntered i.columns.items row → PutsEntry a b i row at (Ok new)
    → (pages : List ℕ) (leaves : ℕ) (versions : List Placed) (h : IsIndexOf a i pages leaves versions) (v : Placed) → v.version.row ≡ row → v.place ≡ at → HasNoneAt at versions
    → IsIndexNow b i (most_with a i pages leaves versions h row at) leaves (v ∷ versions)
index_added a b i row at true proper may puts pages leaves versions h v r e none =
    let w = puts pages leaves versions h in
    let t = w.tree in
    record {
      pages = t.pages;
      leaves_now = t.leaves_now;
      index = record {
        entries = w.now;
        tree = t.tree;
        are = put_more (entry_of i.columns.items) h.entries w.now (entry_for i.columns.items row at) versions v h.are w.put (entry_same i.columns.items row at v r e);
        may = (enterable i.columns.items row at v may proper r e, h.may);
      };
      few = t.few;
      two_a_leaf = t.two_a_leaf;
      no_less = t.no_less;
      one_more = t.one_more;
    }
index_added a b i row at false proper may puts pages leaves versions h v r e none =
    let w = (puts pages leaves versions h).0 in
    absurd (none_has a i pages leaves versions h at w.before w.x w.after proper none w.all w.same.place)

pub index_refused : (a b : Space) (i : Index) (row : List Value) (at : Place) (f : PageFault) → PutsEntry a b i row at (Err f)
    → (pages : List ℕ) (leaves : ℕ) (versions : List Placed) (h : IsIndexOf a i pages leaves versions) → IsIndexNow b i (most_with a i pages leaves versions h row at) leaves versions
index_refused a b i row at f puts pages leaves versions h =
    same_now a b i pages leaves (most_with a i pages leaves versions h row at) versions h (puts pages leaves versions h)

abbrev newborn_at : List Value → Place → Placed
newborn_at row at = record { place = at; version = record { born = 0; died = None; row = row } }

has_added : (a b : Space) (i : Index) (row : List Value) (at : Place) (result : Result Bool PageFault) → IsPlace at → MayBeEntered i.columns.items row → PutsEntry a b i row at result
    → HasIndex a i → HasIndex b i
has_added a b i row at (Ok true) proper may puts h =
    let w = puts h.pages h.leaves h.versions h.index in
    record {
      pages = w.tree.pages;
      leaves = w.tree.leaves_now;
      versions = newborn_at row at ∷ h.versions;
      index = record {
        entries = w.now;
        tree = w.tree.tree;
        are = put_more (entry_of i.columns.items) h.index.entries w.now (entry_for i.columns.items row at) h.versions (newborn_at row at) h.index.are w.put refl;
        may = (record { row = may; place = proper }, h.index.may);
      };
    }
has_added a b i row at (Ok false) proper may puts h =
    let w = (puts h.pages h.leaves h.versions h.index).1 in
    record { pages = w.pages; leaves = w.leaves_now; versions = h.versions; index = record { entries = h.index.entries; tree = w.tree; are = h.index.are; may = h.index.may } }
has_added a b i row at (Err f) proper may puts h =
    let w = puts h.pages h.leaves h.versions h.index in
    record { pages = w.pages; leaves = w.leaves_now; versions = h.versions; index = record { entries = h.index.entries; tree = w.tree; are = h.index.are; may = h.index.may } }

pub ready_added : (a b : Space) (i : Index) (row : List Value) (at : Place) (result : Result Bool PageFault) → IsPlace at → MayBeEntered i.columns.items row → PutsEntry a b i row at result
    → ((pages : List ℕ) → IsLine i.tree.file a (Some i.tree.top) pages → LineGrows i.tree.file a b i.tree.top pages) → IsReady a i → IsReady b i
ready_added a b i row at result proper may puts grows r =
    let g : LineGrows i.tree.file a b i.tree.top r.pages = grows r.pages r.line in
    record {
      no_pins = g.steady.pins_after;
      pages = g.now;
      line = g.line;
      there = λ told. has_added a b i row at result proper may puts (r.there (sym g.steady.told ∙ told));
    }

-- ---- an entry less

abbrev pub TakesEntry : Space → Space → Index → List Value → Place → Bool → Type 0
TakesEntry a b i row at gone = (pages : List ℕ) (leaves : ℕ) (versions : List Placed) (h : IsIndexOf a i pages leaves versions)
    → Deletes i.tree.file b i.tree.top h.entries pages leaves (entry_for i.columns.items row at) gone

-- an entry of a leaf with the key and the place is the entry
same_entry : (columns : List ℕ) (versions : List Placed) (row : List Value) (at : Place) (x : Entry) → IsEntryOf columns versions x → IsSame x (entry_for columns row at) → x ≡ entry_for columns row at
same_entry columns versions row at x w s =
    ap (λ k. record { key = k; place = x.place; child = x.child }) s.key
    ∙ ap (λ p. record { key = (entry_for columns row at).key; place = p; child = x.child }) s.place
    ∙ ap (λ c. record { key = (entry_for columns row at).key; place = place_number at; child = c }) (sym (ap (λ (e : Entry). e.child) w.is))

pub index_gone : (a b : Space) (i : Index) (row : List Value) (at : Place) (gone : Bool) → TakesEntry a b i row at gone
    → (pages : List ℕ) (leaves : ℕ) (versions rest : List Placed) (v : Placed) → IsIndexOf a i pages leaves versions → IsPermutation versions (v ∷ rest) → v.version.row ≡ row → v.place ≡ at
    → IsIndexOf b i pages leaves rest
index_gone a b i row at true takes pages leaves versions rest v h p r e =
    let columns : List ℕ = i.columns.items in
    let t = entry_for columns row at in
    let w = takes pages leaves versions h in
    let o : TakenOut h.entries w.now t = w.out in
    let x : o.x ≡ t = same_entry columns versions row at o.x (entry_is columns versions h.entries o.before o.x o.after h.are o.was) o.same in
    let all : IsPermutation (o.before ++ t ∷ o.after) (t ∷ map (entry_of columns) rest) =
    subst (λ y. IsPermutation (o.before ++ t ∷ o.after) (y ∷ map (entry_of columns) rest)) (entry_same columns row at v r e)
    (subst (λ y. IsPermutation (o.before ++ y ∷ o.after) (map (entry_of columns) (v ∷ rest))) x
    (subst (λ l. IsPermutation l (map (entry_of columns) (v ∷ rest))) o.was
    (IsPermutation-trans h.entries (map (entry_of columns) versions) (map (entry_of columns) (v ∷ rest)) h.are (IsPermutation-map (entry_of columns) versions (v ∷ rest) p)))) in
    record {
      entries = w.now;
      tree = w.tree;
      are = subst (λ l. IsPermutation l (map (entry_of columns) rest)) (sym o.now) (without_middle o.before t o.after (map (entry_of columns) rest) all);
      may = (all_permuted (IsEnterable columns) versions (v ∷ rest) p h.may).1;
    }
index_gone a b i row at false takes pages leaves versions rest v h p r e =
    let columns : List ℕ = i.columns.items in
    let t = entry_for columns row at in
    let lacks : Lacks h.entries t = (takes pages leaves versions h).0 in
    let none : IsSame (entry_of columns v) t → ⊥ =
    (all_permuted (λ w. IsSame (entry_of columns w) t → ⊥) versions (v ∷ rest) p (each_version (λ x. IsSame x t → ⊥) columns h.entries versions h.are lacks)).0 in
    let same : entry_of columns v ≡ t = entry_same columns row at v r e in
    absurd (none (record { key = ap (λ (x : Entry). x.key) same; place = ap (λ (x : Entry). x.place) same }))

pub index_absent : (a b : Space) (i : Index) (row : List Value) (at : Place) (gone : Bool) → IsPlace at → TakesEntry a b i row at gone
    → (pages : List ℕ) (leaves : ℕ) (versions : List Placed) → IsIndexOf a i pages leaves versions → HasNoneAt at versions → IsIndexOf b i pages leaves versions
index_absent a b i row at true proper takes pages leaves versions h none =
    let o = (takes pages leaves versions h).out in
    absurd (none_has a i pages leaves versions h at o.before o.x o.after proper none o.was o.same.place)
index_absent a b i row at false proper takes pages leaves versions h none = record { entries = h.entries; tree = (takes pages leaves versions h).1; are = h.are; may = h.may }

has_gone : (a b : Space) (i : Index) (row : List Value) (at : Place) (gone : Bool) → TakesEntry a b i row at gone → HasIndex a i → HasIndex b i
has_gone a b i row at true takes h =
    let columns : List ℕ = i.columns.items in
    let f = entry_of columns in
    let w = takes h.pages h.leaves h.versions h.index in
    let o = w.out in
    let v = entry_is columns h.versions h.index.entries o.before o.x o.after h.index.are o.was in
    let may = subst (AllByRecursion (IsEnterable columns)) v.are h.index.may in
    let all : IsPermutation (o.before ++ o.x ∷ o.after) (o.x ∷ map f (v.front ++ v.back)) =
    subst (λ y. IsPermutation (o.before ++ o.x ∷ o.after) (y ∷ map f (v.front ++ v.back))) v.is
    (subst (λ l. IsPermutation l (map f (v.v ∷ (v.front ++ v.back)))) o.was
    (IsPermutation-trans h.index.entries (map f h.versions) (map f (v.v ∷ (v.front ++ v.back))) h.index.are
    (IsPermutation-map f h.versions (v.v ∷ (v.front ++ v.back))
    (subst (λ l. IsPermutation l (v.v ∷ (v.front ++ v.back))) (sym v.are) (IsPermutation-middle v.front v.v v.back))))) in
    record {
      pages = h.pages;
      leaves = h.leaves;
      versions = v.front ++ v.back;
      index = record {
        entries = w.now;
        tree = w.tree;
        are = subst (λ l. IsPermutation l (map f (v.front ++ v.back))) (sym o.now) (without_middle o.before o.x o.after (map f (v.front ++ v.back)) all);
        may = all_join (IsEnterable columns) v.front v.back (all_front (IsEnterable columns) v.front (v.v ∷ v.back) may) (all_back (IsEnterable columns) v.front (v.v ∷ v.back) may).1;
      };
    }
has_gone a b i row at false takes h = record {
  pages = h.pages;
  leaves = h.leaves;
  versions = h.versions;
  index = record { entries = h.index.entries; tree = (takes h.pages h.leaves h.versions h.index).1; are = h.index.are; may = h.index.may };
}

pub index_looked : (a b : Space) (i : Index) (pages : List ℕ) (leaves : ℕ) (versions : List Placed) → Looks a b → IsIndexOf a i pages leaves versions → IsIndexOf b i pages leaves versions
index_looked a b i pages leaves versions l h =
    record { entries = h.entries; tree = tree_looked i.tree.file a b i.tree.top h.entries pages leaves l h.tree; are = h.are; may = h.may }

pub ready_looked : (a b : Space) (i : Index) → Looks a b → IsReady a i → IsReady b i
ready_looked a b i l r = record {
  no_pins = l.steady.pins_after;
  pages = r.pages;
  line = line_looked i.tree.file a b i.tree.top r.pages l r.line;
  there = λ told. let h : HasIndex a i = r.there (sym l.steady.told ∙ told) in
      record { pages = h.pages; leaves = h.leaves; versions = h.versions; index = index_looked a b i h.pages h.leaves h.versions l h.index };
}

pub ready_gone : (a b : Space) (i : Index) (row : List Value) (at : Place) (gone : Bool) → TakesEntry a b i row at gone
    → ((pages : List ℕ) → IsLine i.tree.file a (Some i.tree.top) pages → Steady (pages_mine i.tree.file pages) a b)
    → ((pages : List ℕ) → IsLine i.tree.file a (Some i.tree.top) pages → IsLine i.tree.file b (Some i.tree.top) pages) → IsReady a i → IsReady b i
ready_gone a b i row at gone takes steady line r =
    let s : Steady (pages_mine i.tree.file r.pages) a b = steady r.pages r.line in
    record {
      no_pins = s.pins_after;
      pages = r.pages;
      line = line r.pages r.line;
      there = λ told. has_gone a b i row at gone takes (r.there (sym s.told ∙ told));
    }

-- ---- what the calls on the tree say

entry_made : (columns : List ℕ) (row : List Value) (at : Place) (key : List ℕ) (place : ℕ) → key ≡ row_key columns row → place ≡ place_number at
    → record { key = key; place = place; child = 0 } ≡ entry_for columns row at
entry_made columns row at key place k p = ap (λ l. record { key = l; place = place; child = 0 }) k ∙ ap (λ n. record { key = row_key columns row; place = n; child = 0 }) p

pub puts_entry : (a b : Space) (i : Index) (row : List Value) (at : Place) (result : Result Bool PageFault) (key : List ℕ) (place : ℕ)
    → key ≡ row_key i.columns.items row → place ≡ place_number at
    → ((es : List Entry) (pages : List ℕ) (leaves : ℕ) (h : IsTree i.tree.file a i.tree.top es pages leaves)
    → Inserts i.tree.file b i.tree.top es (most_pages i.tree.file a i.tree.top h.levels (length pages) (record { key = key; place = place; child = 0 })) leaves
    (record { key = key; place = place; child = 0 }) result)
    → PutsEntry a b i row at result
puts_entry a b i row at result key place k p f pages leaves versions h =
    let P : Entry → Type 0 = λ t. Inserts i.tree.file b i.tree.top h.entries (most_pages i.tree.file a i.tree.top h.tree.levels (length pages) t) leaves t result in
    subst P (entry_made i.columns.items row at key place k p) (f h.entries pages leaves h.tree)

pub takes_entry : (a b : Space) (i : Index) (row : List Value) (at : Place) (gone : Bool) (key : List ℕ) (place : ℕ)
    → key ≡ row_key i.columns.items row → place ≡ place_number at
    → ((es : List Entry) (pages : List ℕ) (leaves : ℕ) → IsTree i.tree.file a i.tree.top es pages leaves
    → Deletes i.tree.file b i.tree.top es pages leaves (record { key = key; place = place; child = 0 }) gone)
    → TakesEntry a b i row at gone
takes_entry a b i row at gone key place k p f pages leaves versions h =
    let P : Entry → Type 0 = λ t. Deletes i.tree.file b i.tree.top h.entries pages leaves t gone in
    subst P (entry_made i.columns.items row at key place k p) (f h.entries pages leaves h.tree)

-- ---- an index that begins

pub ready_made : (a b : Space) (i : Index) → Makes Main a b i.tree → IsReady b i
ready_made a b i m = record {
  no_pins = m.steady.pins_after;
  pages = i.tree.top ∷ [];
  line = subst (λ f. IsLine f b (Some i.tree.top) (i.tree.top ∷ [])) (sym m.in_file) m.line;
  there = λ told. record {
    pages = i.tree.top ∷ [];
    leaves = 1;
    versions = [];
    index = record {
      entries = [];
      tree = subst (λ f. IsTree f b i.tree.top [] (i.tree.top ∷ []) 1) (sym m.in_file) (m.is_tree (sym m.steady.told ∙ told));
      are = IsPermutation-refl [];
      may = tt;
    };
  };
}
