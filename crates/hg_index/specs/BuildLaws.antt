-- Laws of a table that begins, and of an index that is made beside the others of its table.
use Rattle.std.specs.Prelude.{◌≡◌, ℕ, true, false, List, [], ◌∷◌, ◌++◌, map, length, Some}
use Rattle.std.specs.List.{AllByRecursion}
use Rattle.std.specs.List.Sorted.{IsPermutation}
use Rattle.std.proofs.Common.{sym, ◌∙◌, ap, subst, refl}
use Rattle.std.proofs.lemmas.Bool.{false≢true}
use Rattle.hg_base.specs.LineLaws.{line_one, distinct-taken, all_has}
use Rattle.hg_base.specs.Space.{Space, key_in}
use Rattle.hg_base.specs.Steadiness.{Mine}
use Rattle.hg_base.specs.declared.File.{File}
use Rattle.hg_base.specs.declared.File.TheVariants.{Main}
use Rattle.hg_base.specs.declared.Index.{Index}
use Rattle.hg_base.specs.declared.Place.{Place}
use Rattle.hg_base.specs.declared.Table.{Table}
use Rattle.hg_btree.specs.Deleting.{pages_mine}
use Rattle.hg_btree.specs.Growing.{LineGrows}
use Rattle.hg_btree.specs.Life.{Makes, Ends}
use Rattle.hg_model.specs.declared.trees.Column.{Column}
use Rattle.hg_model.specs.declared.values.Value.{Value}
use Rattle.hg_table.specs.Agreement.{over_stays}
use Rattle.hg_table.specs.TableLaws.{no_pages, empty_chain, empty_table}
use Rattle.hg_table.specs.Versions.{Placed}
use Rattle.hg_index.specs.Agreeing.{IsIndexOf, IndexOn, index_pages, HasLine, StandsOver, AreDisjoint, AreAllDisjoint, HavePages, Agrees, AgreesBeside}
use Rattle.hg_index.specs.AgreeLaws.{map_both, turned, disjoint_front, has_one, mine_apart, lines_apart, taken_pages, pages_apart, pages_grown, over_apart, with_pages, Others, others}
use Rattle.hg_index.specs.Calls.{HasNoneAt, IsIndexNow, most_with}
use Rattle.hg_index.specs.IndexLaws.{all_to, back_of, both_of, mapped, unmapped, index_permuted, over_whole}

-- ---- a table that begins

pub pages_none : (s : Space) → HavePages s no_pages [] []
pages_none s = record { chain = empty_chain s; lines = tt; disjoint = (tt, tt) }

pub agrees_none : (s : Space) (asked : Placed → Type 0) (columns : List Column) → s.told ≡ true → Agrees s asked no_pages columns [] [] []
agrees_none s asked columns told = record { own = pages_none s; table = record { table = empty_table s (length columns) told; fit = tt }; over = tt }

-- ---- an index that begins

-- a page that was not taken is none of these
new_disjoint : (a : Space) (top : ℕ) (other : List ℕ) → a.taken (key_in Main top) ≡ false → AllByRecursion (λ y. a.taken (key_in Main y) ≡ true) other → AreDisjoint (top ∷ []) other
new_disjoint a top other new taken y h g =
    false≢true (sym new ∙ ap (λ n. a.taken (key_in Main n)) (has_one top y h) ∙ all_has (λ n. a.taken (key_in Main n) ≡ true) other y taken g)

disjoint_more : (ps : List (List ℕ)) (q : List ℕ) → AreAllDisjoint ps → AllByRecursion (AreDisjoint q) ps → AreAllDisjoint (ps ++ q ∷ [])
disjoint_more [] q h d = (tt, tt)
disjoint_more (p ∷ ps) q h d = (both_of (AreDisjoint p) ps (q ∷ []) h.0 (turned q p d.0, tt), disjoint_more ps q h.1 d.1)

abbrev pub begun : Index → IndexOn
begun i = record { index = i; pages = i.tree.top ∷ [] }

new_apart : (a : Space) (top : ℕ) (indexes : List IndexOn) → a.taken (key_in Main top) ≡ false → AllByRecursion (HasLine a) indexes
    → AllByRecursion (λ y. AreDisjoint (top ∷ []) (index_pages y)) indexes
new_apart a top indexes new lines =
    all_to (HasLine a) (λ y. AreDisjoint (top ∷ []) (index_pages y)) indexes (λ y l. new_disjoint a top y.pages new (taken_pages a y l)) lines

table_apart : (a : Space) (t : Table) (top : ℕ) (pages : List ℕ) (indexes : List IndexOn) → a.taken (key_in Main top) ≡ false → HavePages a t pages indexes → AreDisjoint (top ∷ []) pages
table_apart a t top pages indexes new h = new_disjoint a top pages new (distinct-taken Main a.taken (a.limit Main) pages h.chain.line.taken)

made_old : (a b : Space) (t : Table) (pages : List ℕ) (indexes : List IndexOn) (i : Index) → Makes Main a b i.tree → HavePages a t pages indexes → HavePages b t pages indexes
made_old a b t pages indexes i m h =
    pages_apart (pages_mine Main (i.tree.top ∷ [])) a b t pages indexes m.steady
    (mine_apart Main (i.tree.top ∷ []) pages refl (table_apart a t i.tree.top pages indexes m.not_taken h))
    (lines_apart Main a b (i.tree.top ∷ []) indexes refl (new_apart a i.tree.top indexes m.not_taken h.lines)) h

pub pages_made : (a b : Space) (t : Table) (pages : List ℕ) (indexes : List IndexOn) (i : Index) → Makes Main a b i.tree → HavePages a t pages indexes
    → HavePages b t pages (indexes ++ begun i ∷ [])
pages_made a b t pages indexes i m h =
    let old : HavePages b t pages indexes = made_old a b t pages indexes i m h in
    let top : List ℕ = i.tree.top ∷ [] in
    record {
      chain = old.chain;
      lines = both_of (HasLine b) indexes (begun i ∷ []) old.lines (record { in_main = m.in_file; line = m.line }, tt);
      disjoint = subst AreAllDisjoint (ap (λ l. pages ∷ l) (sym (map_both indexes (begun i ∷ []))))
          (disjoint_more (pages ∷ map index_pages indexes) top h.disjoint
          (table_apart a t i.tree.top pages indexes m.not_taken h, mapped (AreDisjoint top) index_pages indexes (new_apart a i.tree.top indexes m.not_taken h.lines)));
    }

pub beside_made : (a b : Space) (asked : Placed → Type 0) (t : Table) (columns : List Column) (pages : List ℕ) (indexes : List IndexOn) (i : Index) (versions : List Placed) → Makes Main a b i.tree
    → IsIndexOf b i (i.tree.top ∷ []) 1 [] → Agrees a asked t columns pages indexes versions → AgreesBeside b asked t columns pages indexes (begun i) [] versions
beside_made a b asked t columns pages indexes i versions m empty h = record {
  agrees = record {
    own = made_old a b t pages indexes i m h.own;
    table = over_stays (pages_mine Main (i.tree.top ∷ [])) a b t columns pages versions m.steady
        (mine_apart Main (i.tree.top ∷ []) pages refl (table_apart a t i.tree.top pages indexes m.not_taken h.own)) h.table;
    over = over_apart (pages_mine Main (i.tree.top ∷ [])) a b asked versions indexes m.steady
        (lines_apart Main a b (i.tree.top ∷ []) indexes refl (new_apart a i.tree.top indexes m.not_taken h.own.lines)) h.own.lines h.over;
  };
  own = pages_made a b t pages indexes i m h.own;
  leaves = 1;
  beside = empty;
}

-- ---- the others of a table while its last index changes

beside_others : (a b : Space) (asked : Placed → Type 0) (t : Table) (columns : List Column) (pages : List ℕ) (indexes : List IndexOn) (x : IndexOn) (versions : List Placed)
    → (g : LineGrows x.index.tree.file a b x.index.tree.top x.pages) → HavePages a t pages (indexes ++ x ∷ []) → Agrees a asked t columns pages indexes versions
    → Agrees b asked t columns pages indexes versions
beside_others a b asked t columns pages indexes x versions g own h =
    let o : Others a b t pages indexes x [] g.now = others a b t pages indexes x [] g own in
    let file : File = x.index.tree.file in
    let m : Mine = pages_mine file g.now in
    record {
      own = pages_apart m a b t pages indexes g.steady (mine_apart file g.now pages o.line.in_main o.table) (lines_apart file a b g.now indexes o.line.in_main o.front) h.own;
      table = over_stays m a b t columns pages versions g.steady (mine_apart file g.now pages o.line.in_main o.table) h.table;
      over = over_apart m a b asked versions indexes g.steady (lines_apart file a b g.now indexes o.line.in_main o.front) o.front_lines h.over;
    }

-- the entry of one more version
pub beside_added : (a b : Space) (asked : Placed → Type 0) (t : Table) (columns : List Column) (pages : List ℕ) (indexes : List IndexOn) (x : IndexOn) (entered versions : List Placed) (v : Placed)
    (row : List Value) (at : Place) → v.version.row ≡ row → v.place ≡ at → HasNoneAt at entered → (g : LineGrows x.index.tree.file a b x.index.tree.top x.pages)
    → ((pages : List ℕ) (leaves : ℕ) (versions : List Placed) (h : IsIndexOf a x.index pages leaves versions) (v : Placed) → v.version.row ≡ row → v.place ≡ at → HasNoneAt at versions
    → IsIndexNow b x.index (most_with a x.index pages leaves versions h row at) leaves (v ∷ versions))
    → AgreesBeside a asked t columns pages indexes x entered versions → AgreesBeside b asked t columns pages indexes (with_pages x g.now) (v ∷ entered) versions
beside_added a b asked t columns pages indexes x entered versions v row at r e none g added h =
    let n = added x.pages h.leaves entered h.beside v r e none in
    let same : n.pages ≡ g.now = line_one x.index.tree.file b (Some x.index.tree.top) n.pages g.now n.index.tree.line g.line in
    record {
      agrees = beside_others a b asked t columns pages indexes x versions g h.own h.agrees;
      own = pages_grown a b t pages indexes x [] g h.own;
      leaves = n.leaves_now;
      beside = subst (λ p. IsIndexOf b x.index p n.leaves_now (v ∷ entered)) same n.index;
    }

-- it was refused: as before, on more pages
pub beside_not_added : (a b : Space) (asked : Placed → Type 0) (t : Table) (columns : List Column) (pages : List ℕ) (indexes : List IndexOn) (x : IndexOn) (entered versions : List Placed)
    (row : List Value) (at : Place) → (g : LineGrows x.index.tree.file a b x.index.tree.top x.pages)
    → ((pages : List ℕ) (leaves : ℕ) (versions : List Placed) (h : IsIndexOf a x.index pages leaves versions)
    → IsIndexNow b x.index (most_with a x.index pages leaves versions h row at) leaves versions)
    → AgreesBeside a asked t columns pages indexes x entered versions → AgreesBeside b asked t columns pages indexes (with_pages x g.now) entered versions
beside_not_added a b asked t columns pages indexes x entered versions row at g refused h =
    let n = refused x.pages h.leaves entered h.beside in
    let same : n.pages ≡ g.now = line_one x.index.tree.file b (Some x.index.tree.top) n.pages g.now n.index.tree.line g.line in
    record {
      agrees = beside_others a b asked t columns pages indexes x versions g h.own h.agrees;
      own = pages_grown a b t pages indexes x [] g h.own;
      leaves = n.leaves_now;
      beside = subst (λ p. IsIndexOf b x.index p n.leaves_now entered) same n.index;
    }

-- all versions have their entry: it is one of the table's indexes
pub beside_whole : (s : Space) (asked : Placed → Type 0) (t : Table) (columns : List Column) (pages : List ℕ) (indexes : List IndexOn) (x : IndexOn) (entered versions : List Placed)
    → IsPermutation entered versions → AgreesBeside s asked t columns pages indexes x entered versions → Agrees s asked t columns pages (indexes ++ x ∷ []) versions
beside_whole s asked t columns pages indexes x entered versions p h = record {
  own = h.own;
  table = h.agrees.table;
  over = both_of (StandsOver s asked versions) indexes (x ∷ []) h.agrees.over
      (over_whole s asked x.index x.pages h.leaves versions (index_permuted s x.index x.pages h.leaves entered versions p h.beside), tt);
}

-- ---- an index that ends

-- its pages are given back, and the table and the other indexes stay
pub pages_ended : (a b : Space) (t : Table) (pages : List ℕ) (indexes : List IndexOn) (x : IndexOn) → Ends x.index.tree.file a b x.pages → HavePages a t pages (indexes ++ x ∷ [])
    → HavePages a t pages indexes → HavePages b t pages indexes
pages_ended a b t pages indexes x e own h =
    let line : HasLine a x = (back_of (HasLine a) indexes (x ∷ []) own.lines).0 in
    let d = unmapped (AreDisjoint pages) index_pages (indexes ++ x ∷ []) own.disjoint.0 in
    pages_apart (pages_mine x.index.tree.file x.pages) a b t pages indexes e.steady
    (mine_apart x.index.tree.file x.pages pages line.in_main (turned pages x.pages (back_of (λ y. AreDisjoint pages (index_pages y)) indexes (x ∷ []) d).0))
    (lines_apart x.index.tree.file a b x.pages indexes line.in_main (ended_apart t a pages indexes x own)) h
  where
    ended_apart : (t : Table) (a : Space) (pages : List ℕ) (indexes : List IndexOn) (x : IndexOn) → HavePages a t pages (indexes ++ x ∷ [])
        → AllByRecursion (λ y. AreDisjoint x.pages (index_pages y)) indexes
    ended_apart t a pages indexes x own =
        unmapped (AreDisjoint x.pages) index_pages indexes
        (disjoint_front (map index_pages indexes) x.pages [] (subst AreAllDisjoint (map_both indexes (x ∷ [])) own.disjoint.1))

pub agrees_ended : (a b : Space) (asked : Placed → Type 0) (t : Table) (columns : List Column) (pages : List ℕ) (indexes : List IndexOn) (x : IndexOn) (versions : List Placed)
    → Ends x.index.tree.file a b x.pages → HavePages a t pages (indexes ++ x ∷ []) → Agrees a asked t columns pages indexes versions → Agrees b asked t columns pages indexes versions
agrees_ended a b asked t columns pages indexes x versions e own h =
    let line : HasLine a x = (back_of (HasLine a) indexes (x ∷ []) own.lines).0 in
    let d = unmapped (AreDisjoint pages) index_pages (indexes ++ x ∷ []) own.disjoint.0 in
    let m : Mine = pages_mine x.index.tree.file x.pages in
    record {
      own = pages_ended a b t pages indexes x e own h.own;
      table = over_stays m a b t columns pages versions e.steady
          (mine_apart x.index.tree.file x.pages pages line.in_main (turned pages x.pages (back_of (λ y. AreDisjoint pages (index_pages y)) indexes (x ∷ []) d).0)) h.table;
      over = over_apart m a b asked versions indexes e.steady
          (lines_apart x.index.tree.file a b x.pages indexes line.in_main
          (unmapped (AreDisjoint x.pages) index_pages indexes
          (disjoint_front (map index_pages indexes) x.pages [] (subst AreAllDisjoint (map_both indexes (x ∷ [])) own.disjoint.1))))
          h.own.lines h.over;
    }
