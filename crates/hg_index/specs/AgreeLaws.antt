-- Laws of a table and its indexes, for the layers above: what keeps their agreement.
use Rattle.std.specs.Prelude.{◌≡◌, ℕ, ◌==◌, ◌||◌, Bool, true, false, List, [], ◌∷◌, ◌++◌, map, flat_map, length, Option, Some, None, ◌⊎◌}
use Rattle.std.specs.List.{AllByRecursion}
use Rattle.std.specs.List.Sorted.{IsPermutation}
use Rattle.std.proofs.Common.{sym, ◌∙◌, ap, subst, refl, inl, inr, append_assoc, append-nil}
use Rattle.std.proofs.lemmas.Bool.{cases_eq, eq-eqb, ne_eqb, false≢true}
use Rattle.std.proofs.lemmas.List.Sorted.{IsPermutation-middle}
use Rattle.hg_base.specs.Lines.{IsLine, NoneMine, has_page, last_of}
use Rattle.hg_base.specs.LineLaws.{line_steady, line_one, last_known, distinct-taken, all_has}
use Rattle.hg_base.specs.Space.{Space, key_in}
use Rattle.hg_base.specs.Steadiness.{Mine, Steady}
use Rattle.hg_base.specs.TakenLaws.{key_in-one}
use Rattle.hg_base.specs.declared.File.{File}
use Rattle.hg_base.specs.declared.File.TheVariants.{Main}
use Rattle.hg_base.specs.declared.Place.{Place}
use Rattle.hg_base.specs.declared.Table.{Table}
use Rattle.hg_btree.specs.Deleting.{pages_mine}
use Rattle.hg_btree.specs.Growing.{LineGrows}
use Rattle.hg_model.specs.declared.trees.Column.{Column}
use Rattle.hg_model.specs.declared.values.Value.{Value}
use Rattle.hg_table.specs.Agreement.{FitsColumns, over_stays, over_inserted, over_killed}
use Rattle.hg_table.specs.Calls.{page_mine, insert_mine, Inserts, PutsIn, KeepsPages, AddsPage, IsNamed}
use Rattle.hg_table.specs.Chains.{IsChain}
use Rattle.hg_table.specs.Places.{is_at, killed, killed_at}
use Rattle.hg_table.specs.TableLaws.{chain_stays, places_differ}
use Rattle.hg_table.specs.Versions.{Placed, IsTable}
use Rattle.hg_index.specs.Agreeing.{IsIndexOf, IsIndexOver, IndexOn, index_pages, HasLine, StandsOver, AreDisjoint, AreAllDisjoint, owned, HavePages, Agrees, AgreesUpTo}
use Rattle.hg_index.specs.Bags.{all_permuted}
use Rattle.hg_index.specs.Calls.{HasNoneAt, IsIndexNow, most_with}
use Rattle.hg_index.specs.IndexLaws.{all_to, all_of, front_of, back_of, both_of, mapped, unmapped, over_steady, over_dead, over_fewer, over_more, over_left, over_removed}

-- ---- lists of pages

each_has : (P : ℕ → Type 0) (xs : List ℕ) → ((x : ℕ) → has_page xs x ≡ true → P x) → AllByRecursion P xs
each_has P [] f = tt
each_has P (x ∷ xs) f =
    (f x (ap (λ t. t || has_page xs x) (eq-eqb x x refl)), each_has P xs (λ y h. f y (or_right (x == y) (has_page xs y) h)))
  where
    or_right : (a b : Bool) → b ≡ true → (a || b) ≡ true
    or_right true b h = refl
    or_right false b h = h

flat_each : {X : Type 0} (P : ℕ → Type 0) (f : X → List ℕ) (xs : List X) → AllByRecursion P (flat_map f xs) → AllByRecursion (λ x. AllByRecursion P (f x)) xs
flat_each P f [] h = tt
flat_each P f (x ∷ xs) h = (front_of P (f x) (flat_map f xs) h, flat_each P f xs (back_of P (f x) (flat_map f xs) h))

has_both : (p q : List ℕ) (x : ℕ) → has_page (p ++ q) x ≡ true → (has_page p x ≡ true) ⊎ (has_page q x ≡ true)
has_both [] q x h = inr h
has_both (y ∷ p) q x h = elim (cases_eq y x) [
  | inl e ↦ inl (ap (λ t. t || has_page p x) (eq-eqb y x e))
  | inr d ↦ elim (has_both p q x (sym (ap (λ t. t || has_page (p ++ q) x) (ne_eqb y x d)) ∙ h)) [
    | inl l ↦ inl (ap (λ t. t || has_page p x) (ne_eqb y x d) ∙ l)
    | inr r ↦ inr r
  ]
]

pub has_one : (y x : ℕ) → has_page (y ∷ []) x ≡ true → y ≡ x
has_one y x h = elim (cases_eq y x) [
  | inl e ↦ e
  | inr d ↦ absurd (false≢true (sym (ap (λ t. t || false) (ne_eqb y x d)) ∙ h))
]

last_has : (xs : List ℕ) (l : ℕ) → last_of xs ≡ Some l → has_page xs l ≡ true
last_has xs l e = last_known (λ y. has_page xs y ≡ true) xs l (each_has (λ y. has_page xs y ≡ true) xs (λ y h. h)) e

pub turned : (p q : List ℕ) → AreDisjoint p q → AreDisjoint q p
turned p q d x h g = d x g h

-- one list of several changed, and is disjoint from the others
pub disjoint_front : (ps : List (List ℕ)) (p : List ℕ) (qs : List (List ℕ)) → AreAllDisjoint (ps ++ p ∷ qs) → AllByRecursion (AreDisjoint p) ps
disjoint_front [] p qs h = tt
disjoint_front (r ∷ ps) p qs h = (turned r p (back_of (AreDisjoint r) ps (p ∷ qs) h.0).0, disjoint_front ps p qs h.1)

disjoint_back : (ps : List (List ℕ)) (p : List ℕ) (qs : List (List ℕ)) → AreAllDisjoint (ps ++ p ∷ qs) → AllByRecursion (AreDisjoint p) qs
disjoint_back [] p qs h = h.0
disjoint_back (r ∷ ps) p qs h = disjoint_back ps p qs h.1

disjoint_swap : (ps : List (List ℕ)) (p q : List ℕ) (qs : List (List ℕ)) → AreAllDisjoint (ps ++ p ∷ qs) → AllByRecursion (AreDisjoint q) ps → AllByRecursion (AreDisjoint q) qs
    → AreAllDisjoint (ps ++ q ∷ qs)
disjoint_swap [] p q qs h f b = (b, h.1)
disjoint_swap (r ∷ ps) p q qs h f b = (
  both_of (AreDisjoint r) ps (q ∷ qs) (front_of (AreDisjoint r) ps (p ∷ qs) h.0) (turned q r f.0, (back_of (AreDisjoint r) ps (p ∷ qs) h.0).1),
  disjoint_swap ps p q qs h.1 f.1 b,
)

pub map_both : (xs ys : List IndexOn) → map index_pages (xs ++ ys) ≡ map index_pages xs ++ map index_pages ys
map_both [] ys = refl
map_both (x ∷ xs) ys = ap (λ r. index_pages x ∷ r) (map_both xs ys)

-- ---- a change of pages that are not theirs

mine_in : (m : Mine) (file : File) (pages : List ℕ) → file ≡ Main → NoneMine Main m pages → NoneMine file m pages
mine_in m file pages e h = subst (λ f. NoneMine f m pages) (sym e) h

line_on : (m : Mine) (a b : Space) (x : IndexOn) → Steady m a b → NoneMine Main m x.pages → HasLine a x → HasLine b x
line_on m a b x steady apart h = record { in_main = h.in_main; line = line_steady Main m a b (Some x.index.tree.top) x.pages steady apart h.line }

-- each of them by itself
pub pages_apart : (m : Mine) (a b : Space) (t : Table) (pages : List ℕ) (indexes : List IndexOn) → Steady m a b → NoneMine Main m pages
    → AllByRecursion (λ x. NoneMine Main m (index_pages x)) indexes → HavePages a t pages indexes → HavePages b t pages indexes
pages_apart m a b t pages indexes steady none each h = record {
  chain = chain_stays m a b t pages steady none h.chain;
  lines = all_of (λ x. NoneMine Main m (index_pages x)) (HasLine a) (HasLine b) indexes (λ x n l. line_on m a b x steady n l) each h.lines;
  disjoint = h.disjoint;
}

pub over_apart : (m : Mine) (a b : Space) (asked : Placed → Type 0) (versions : List Placed) (indexes : List IndexOn) → Steady m a b
    → AllByRecursion (λ x. NoneMine Main m (index_pages x)) indexes → AllByRecursion (HasLine a) indexes → AllByRecursion (StandsOver a asked versions) indexes
    → AllByRecursion (StandsOver b asked versions) indexes
over_apart m a b asked versions [] steady each lines over = tt
over_apart m a b asked versions (x ∷ indexes) steady each lines over = (
  over_steady m a b asked x.index x.pages versions steady (mine_in m x.index.tree.file x.pages lines.0.in_main each.0) over.0,
  over_apart m a b asked versions indexes steady each.1 lines.1 over.1,
)

pub pages_stay : (m : Mine) (a b : Space) (t : Table) (pages : List ℕ) (indexes : List IndexOn) → Steady m a b → NoneMine Main m (owned pages indexes) → HavePages a t pages indexes
    → HavePages b t pages indexes
pages_stay m a b t pages indexes steady none h =
    let P : ℕ → Type 0 = λ x. m.pages (key_in Main x) → ⊥ in
    pages_apart m a b t pages indexes steady (front_of P pages (flat_map index_pages indexes) none)
    (flat_each P index_pages indexes (back_of P pages (flat_map index_pages indexes) none)) h

pub agrees_stays : (m : Mine) (a b : Space) (asked : Placed → Type 0) (t : Table) (columns : List Column) (pages : List ℕ) (indexes : List IndexOn) (versions : List Placed)
    → Steady m a b → NoneMine Main m (owned pages indexes) → Agrees a asked t columns pages indexes versions → Agrees b asked t columns pages indexes versions
agrees_stays m a b asked t columns pages indexes versions steady none h =
    let P : ℕ → Type 0 = λ x. m.pages (key_in Main x) → ⊥ in
    record {
      own = pages_stay m a b t pages indexes steady none h.own;
      table = over_stays m a b t columns pages versions steady (front_of P pages (flat_map index_pages indexes) none) h.table;
      over = over_apart m a b asked versions indexes steady (flat_each P index_pages indexes (back_of P pages (flat_map index_pages indexes) none)) h.own.lines h.over;
    }

-- ---- who is asked for

pub agrees_fewer : (s : Space) (asked now : Placed → Type 0) (t : Table) (columns : List Column) (pages : List ℕ) (indexes : List IndexOn) (versions : List Placed)
    → AllByRecursion (λ v. now v → asked v) versions → Agrees s asked t columns pages indexes versions → Agrees s now t columns pages indexes versions
agrees_fewer s asked now t columns pages indexes versions less h = record {
  own = h.own;
  table = h.table;
  over = all_to (StandsOver s asked versions) (StandsOver s now versions) indexes (λ x o. over_fewer s asked now x.index x.pages versions less o) h.over;
}

-- ---- a death

-- a page of the table is of none of its indexes
own_page : (t : Table) (s : Space) (pages : List ℕ) (indexes : List IndexOn) (m : Mine) → ((x : ℕ) → m.pages (key_in Main x) → has_page pages x ≡ true) → HavePages s t pages indexes
    → AllByRecursion (λ x. NoneMine Main m (index_pages x)) indexes
own_page t s pages indexes m mine h =
    all_to (λ x. AreDisjoint pages (index_pages x)) (λ x. NoneMine Main m (index_pages x)) indexes
    (λ x d. each_has (λ y. m.pages (key_in Main y) → ⊥) x.pages (λ y g n. d y (mine y n) g))
    (unmapped (AreDisjoint pages) index_pages indexes h.disjoint.0)

killed_page : (pages : List ℕ) (p x : ℕ) → has_page pages p ≡ true → key_in Main x ≡ key_in Main p → has_page pages x ≡ true
killed_page pages p x h e = ap (has_page pages) (key_in-one Main x p e) ∙ h

pub pages_killed : (a b : Space) (t : Table) (pages : List ℕ) (indexes : List IndexOn) (p : Place) → Steady (page_mine p.page) a b → has_page pages p.page ≡ true → IsChain b t pages
    → HavePages a t pages indexes → HavePages b t pages indexes
pages_killed a b t pages indexes p steady on chain h =
    let m : Mine = page_mine p.page in
    record {
      chain = chain;
      lines = all_of (λ x. NoneMine Main m (index_pages x)) (HasLine a) (HasLine b) indexes (λ x n l. line_on m a b x steady n l)
          (own_page t a pages indexes m (λ x e. killed_page pages p.page x on e) h) h.lines;
      disjoint = h.disjoint;
    }

-- entries do not say stamps; who is dead is asked for no more than before
pub agrees_killed : (a b : Space) (asked now : Placed → Type 0) (t : Table) (columns : List Column) (pages : List ℕ) (indexes : List IndexOn) (versions : List Placed) (p : Place) (d : ℕ)
    → Steady (page_mine p.page) a b → has_page pages p.page ≡ true → IsTable b t (length columns) pages (killed p d versions) → ((v : Placed) → now (killed_at p d v) → asked v)
    → Agrees a asked t columns pages indexes versions → Agrees b now t columns pages indexes (killed p d versions)
agrees_killed a b asked now t columns pages indexes versions p d steady on table less h =
    let m : Mine = page_mine p.page in
    record {
      own = pages_killed a b t pages indexes p steady on table.chain h.own;
      table = over_killed b t columns pages versions p d h.table.fit table;
      over = all_to (StandsOver b asked versions) (StandsOver b now (killed p d versions)) indexes (λ x o. over_dead b asked now x.index x.pages versions p d less o)
          (over_apart m a b asked versions indexes steady (own_page t a pages indexes m (λ x e. killed_page pages p.page x on e) h.own) h.own.lines h.over);
    }

-- ---- a version more

-- the page of a new version is one of the table, or was not taken
abbrev pub IsOwnOrNew : Space → List ℕ → ℕ → Type 0
IsOwnOrNew a pages x = (has_page pages x ≡ true) ⊎ (a.taken (key_in Main x) ≡ false)

pub inserted_page : (a b : Space) (old new : Table) (pages : List ℕ) (x n : ℕ) → IsChain a old pages → KeepsPages a b old new x ⊎ AddsPage a b old new x n → IsOwnOrNew a pages x
inserted_page a b old new pages x n chain c = elim c [
  | inl k ↦ inl (last_has pages x (sym chain.last ∙ k.last))
  | inr k ↦ inr k.not_taken
]

-- a page that is taken
line_taken : (a : Space) (x : IndexOn) (y : ℕ) → HasLine a x → has_page x.pages y ≡ true → a.taken (key_in Main y) ≡ true
line_taken a x y h g = all_has (λ z. a.taken (key_in Main z) ≡ true) x.pages y (distinct-taken Main a.taken (a.limit Main) x.pages h.line.taken) g

-- no page of an index is the table's, or one that was not taken
not_own : (a : Space) (pages : List ℕ) (x : IndexOn) (y : ℕ) → HasLine a x → AreDisjoint pages x.pages → has_page x.pages y ≡ true → IsOwnOrNew a pages y → ⊥
not_own a pages x y line d g o = elim o [
  | inl h ↦ d y h g
  | inr n ↦ false≢true (sym n ∙ line_taken a x y line g)
]

insert_own : (a : Space) (old : Table) (pages : List ℕ) (place : Place) (y : ℕ) → IsChain a old pages → IsOwnOrNew a pages place.page
    → IsNamed old.last (key_in Main y) ⊎ (key_in Main y ≡ key_in Main place.page) → IsOwnOrNew a pages y
insert_own a old pages place y chain new c = elim c [
  | inl n ↦ inl (named old.last refl n)
  | inr e ↦ subst (IsOwnOrNew a pages) (sym (key_in-one Main y place.page e)) new
]
  where
    named : (l : Option ℕ) → old.last ≡ l → IsNamed l (key_in Main y) → has_page pages y ≡ true
    named None e n = absurd n
    named (Some x) e n = ap (has_page pages) (key_in-one Main y x n) ∙ last_has pages x (sym chain.last ∙ e)

insert_apart : (a : Space) (old : Table) (pages : List ℕ) (indexes : List IndexOn) (place : Place) → IsOwnOrNew a pages place.page → HavePages a old pages indexes
    → AllByRecursion (λ x. NoneMine Main (insert_mine old place) (index_pages x)) indexes
insert_apart a old pages indexes place new h =
    all_of (HasLine a) (λ x. AreDisjoint pages (index_pages x)) (λ x. NoneMine Main (insert_mine old place) (index_pages x)) indexes
    (λ x l d. each_has (λ y. IsNamed old.last (key_in Main y) ⊎ (key_in Main y ≡ key_in Main place.page) → ⊥) x.pages
    (λ y g c. not_own a pages x y l d g (insert_own a old pages place y h.chain new c)))
    h.lines (unmapped (AreDisjoint pages) index_pages indexes h.disjoint.0)

grown_disjoint : (a : Space) (pages now : List ℕ) (indexes : List IndexOn) (page : ℕ) → (now ≡ pages) ⊎ (now ≡ pages ++ page ∷ []) → IsOwnOrNew a pages page
    → AllByRecursion (HasLine a) indexes → AllByRecursion (λ x. AreDisjoint pages (index_pages x)) indexes → AllByRecursion (λ x. AreDisjoint now (index_pages x)) indexes
grown_disjoint a pages now indexes page c new lines d =
    all_of (HasLine a) (λ x. AreDisjoint pages (index_pages x)) (λ x. AreDisjoint now (index_pages x)) indexes
    (λ x l e y h g. not_own a pages x y l e g (own y h)) lines d
  where
    own : (y : ℕ) → has_page now y ≡ true → IsOwnOrNew a pages y
    own y h = elim c [
      | inl e ↦ inl (ap (λ l. has_page l y) (sym e) ∙ h)
      | inr e ↦ elim (has_both pages (page ∷ []) y (ap (λ l. has_page l y) (sym e) ∙ h)) [
        | inl k ↦ inl k
        | inr k ↦ subst (IsOwnOrNew a pages) (has_one page y k) new
      ]
    ]

pub pages_inserted : (a b : Space) (old new : Table) (pages : List ℕ) (indexes : List IndexOn) (v : Placed) → Steady (insert_mine old v.place) a b → (i : Inserts a b old new pages v)
    → IsOwnOrNew a pages v.place.page → HavePages a old pages indexes → HavePages b new i.now indexes
pages_inserted a b old new pages indexes v steady i own h =
    let m : Mine = insert_mine old v.place in
    record {
      chain = i.chain;
      lines = all_of (λ x. NoneMine Main m (index_pages x)) (HasLine a) (HasLine b) indexes (λ x n l. line_on m a b x steady n l) (insert_apart a old pages indexes v.place own h) h.lines;
      disjoint = (
        mapped (AreDisjoint i.now) index_pages indexes
            (grown_disjoint a pages i.now indexes v.place.page i.grown own h.lines (unmapped (AreDisjoint pages) index_pages indexes h.disjoint.0)),
        h.disjoint.1,
      );
    }

-- the table has the version, and no index has its entry yet
pub agrees_inserted : (a b : Space) (asked : Placed → Type 0) (old new : Table) (columns : List Column) (pages : List ℕ) (indexes : List IndexOn) (was : List Placed) (v : Placed)
    → FitsColumns columns v → Steady (insert_mine old v.place) a b → (i : Inserts a b old new pages v) → IsOwnOrNew a pages v.place.page
    → Agrees a asked old columns pages indexes was → (now : List Placed) × PutsIn was now v × AgreesUpTo b asked new columns i.now [] indexes was now
agrees_inserted a b asked old new columns pages indexes was v fits steady i own h =
    let m : Mine = insert_mine old v.place in
    let (now, puts, table) = over_inserted a b old new columns pages was v fits i h.table in (
      now,
      puts,
      record {
        own = pages_inserted a b old new pages indexes v steady i own h.own;
        table = table;
        over_now = tt;
        over_was = over_apart m a b asked was indexes steady (insert_apart a old pages indexes v.place own h.own) h.own.lines h.over;
      },
    )

-- ---- an index whose line grew

abbrev pub with_pages : IndexOn → List ℕ → IndexOn
with_pages x pages = record { index = x.index; pages = pages }

-- the other pages are not its
grown_apart : (file : File) (a b : Space) (top : ℕ) (pages other : List ℕ) → file ≡ Main → (g : LineGrows file a b top pages) → AllByRecursion (λ y. a.taken (key_in Main y) ≡ true) other
    → AreDisjoint pages other → AreDisjoint g.now other
grown_apart file a b top pages other e g taken d y h k = elim (g.more y h) [
  | inl m ↦ d y m k
  | inr n ↦ false≢true (sym n ∙ ap (λ f. a.taken (key_in f y)) e ∙ all_has (λ z. a.taken (key_in Main z) ≡ true) other y taken k)
]

pub mine_apart : (file : File) (now other : List ℕ) → file ≡ Main → AreDisjoint now other → NoneMine Main (pages_mine file now) other
mine_apart file now other e d =
    subst (λ f. NoneMine Main (pages_mine f now) other) (sym e)
    (each_has (λ y. (pages_mine Main now).pages (key_in Main y) → ⊥) other (λ y h (n, k, g). d y (ap (has_page now) (key_in-one Main y n k) ∙ g) h))

pub taken_pages : (a : Space) (x : IndexOn) → HasLine a x → AllByRecursion (λ y. a.taken (key_in Main y) ≡ true) x.pages
taken_pages a x h = distinct-taken Main a.taken (a.limit Main) x.pages h.line.taken

-- What is known of the others where one of several indexes is named.
pub record Others (a b : Space) (t : Table) (pages : List ℕ) (done : List IndexOn) (x : IndexOn) (rest : List IndexOn) (now : List ℕ) : Type 0 where
  pub line : HasLine a x
  pub table : AreDisjoint now pages
  pub front : AllByRecursion (λ y. AreDisjoint now (index_pages y)) done
  pub back : AllByRecursion (λ y. AreDisjoint now (index_pages y)) rest
  pub front_lines : AllByRecursion (HasLine a) done
  pub back_lines : AllByRecursion (HasLine a) rest

pub others : (a b : Space) (t : Table) (pages : List ℕ) (done : List IndexOn) (x : IndexOn) (rest : List IndexOn) → (g : LineGrows x.index.tree.file a b x.index.tree.top x.pages)
    → HavePages a t pages (done ++ x ∷ rest) → Others a b t pages done x rest g.now
others a b t pages done x rest g h =
    let front_lines = front_of (HasLine a) done (x ∷ rest) h.lines in
    let back_lines = back_of (HasLine a) done (x ∷ rest) h.lines in
    let line : HasLine a x = back_lines.0 in
    let split : AreAllDisjoint (map index_pages done ++ x.pages ∷ map index_pages rest) = subst AreAllDisjoint (map_both done (x ∷ rest)) h.disjoint.1 in
    let each : (ys : List IndexOn) → AllByRecursion (HasLine a) ys → AllByRecursion (λ y. AreDisjoint x.pages (index_pages y)) ys → AllByRecursion (λ y. AreDisjoint g.now (index_pages y)) ys =
    λ ys lines d. all_of (HasLine a) (λ y. AreDisjoint x.pages (index_pages y)) (λ y. AreDisjoint g.now (index_pages y)) ys
    (λ y l e. grown_apart x.index.tree.file a b x.index.tree.top x.pages y.pages line.in_main g (taken_pages a y l) e) lines d in
    record {
      line = line;
      table = grown_apart x.index.tree.file a b x.index.tree.top x.pages pages line.in_main g (distinct-taken Main a.taken (a.limit Main) pages h.chain.line.taken)
          (turned pages x.pages (back_of (λ y. AreDisjoint pages (index_pages y)) done (x ∷ rest) (unmapped (AreDisjoint pages) index_pages (done ++ x ∷ rest) h.disjoint.0)).0);
      front = each done front_lines (unmapped (AreDisjoint x.pages) index_pages done (disjoint_front (map index_pages done) x.pages (map index_pages rest) split));
      back = each rest back_lines.1 (unmapped (AreDisjoint x.pages) index_pages rest (disjoint_back (map index_pages done) x.pages (map index_pages rest) split));
      front_lines = front_lines;
      back_lines = back_lines.1;
    }

pub lines_apart : (file : File) (a b : Space) (now : List ℕ) (ys : List IndexOn) → file ≡ Main → AllByRecursion (λ y. AreDisjoint now (index_pages y)) ys
    → AllByRecursion (λ y. NoneMine Main (pages_mine file now) (index_pages y)) ys
lines_apart file a b now ys e d = all_to (λ y. AreDisjoint now (index_pages y)) (λ y. NoneMine Main (pages_mine file now) (index_pages y)) ys (λ y f. mine_apart file now y.pages e f) d

pub lines_stay : (m : Mine) (a b : Space) (ys : List IndexOn) → Steady m a b → AllByRecursion (λ y. NoneMine Main m (index_pages y)) ys → AllByRecursion (HasLine a) ys → AllByRecursion (HasLine b) ys
lines_stay m a b ys steady n l = all_of (λ y. NoneMine Main m (index_pages y)) (HasLine a) (HasLine b) ys (λ y k h. line_on m a b y steady k h) n l

pub pages_grown : (a b : Space) (t : Table) (pages : List ℕ) (done : List IndexOn) (x : IndexOn) (rest : List IndexOn) → (g : LineGrows x.index.tree.file a b x.index.tree.top x.pages)
    → HavePages a t pages (done ++ x ∷ rest) → HavePages b t pages (done ++ with_pages x g.now ∷ rest)
pages_grown a b t pages done x rest g h =
    let o : Others a b t pages done x rest g.now = others a b t pages done x rest g h in
    let file : File = x.index.tree.file in
    let m : Mine = pages_mine file g.now in
    let split : AreAllDisjoint (map index_pages done ++ x.pages ∷ map index_pages rest) = subst AreAllDisjoint (map_both done (x ∷ rest)) h.disjoint.1 in
    let was = unmapped (AreDisjoint pages) index_pages (done ++ x ∷ rest) h.disjoint.0 in
    let front = front_of (λ y. AreDisjoint pages (index_pages y)) done (x ∷ rest) was in
    let back = back_of (λ y. AreDisjoint pages (index_pages y)) done (x ∷ rest) was in
    record {
      chain = chain_stays m a b t pages g.steady (mine_apart file g.now pages o.line.in_main o.table) h.chain;
      lines = both_of (HasLine b) done (with_pages x g.now ∷ rest)
          (lines_stay m a b done g.steady (lines_apart file a b g.now done o.line.in_main o.front) o.front_lines) (
            record { in_main = o.line.in_main; line = subst (λ f. IsLine f b (Some x.index.tree.top) g.now) o.line.in_main g.line },
            lines_stay m a b rest g.steady (lines_apart file a b g.now rest o.line.in_main o.back) o.back_lines,
          );
      disjoint = (
        mapped (AreDisjoint pages) index_pages (done ++ with_pages x g.now ∷ rest)
            (both_of (λ y. AreDisjoint pages (index_pages y)) done (with_pages x g.now ∷ rest) front (turned g.now pages o.table, back.1)),
        subst AreAllDisjoint (sym (map_both done (with_pages x g.now ∷ rest)))
            (disjoint_swap (map index_pages done) x.pages g.now (map index_pages rest) split
            (mapped (AreDisjoint g.now) index_pages done o.front) (mapped (AreDisjoint g.now) index_pages rest o.back)),
      );
    }

-- the entry of a version that was put into the table joins an index
pub agrees_added : (a b : Space) (asked : Placed → Type 0) (t : Table) (columns : List Column) (pages : List ℕ) (done : List IndexOn) (x : IndexOn) (rest : List IndexOn) (was now : List Placed)
    (v : Placed) (row : List Value) (at : Place) → PutsIn was now v → v.version.row ≡ row → v.place ≡ at
    → (g : LineGrows x.index.tree.file a b x.index.tree.top x.pages)
    → ((pages : List ℕ) (leaves : ℕ) (versions : List Placed) (h : IsIndexOf a x.index pages leaves versions) (v : Placed) → v.version.row ≡ row → v.place ≡ at → HasNoneAt at versions
    → IsIndexNow b x.index (most_with a x.index pages leaves versions h row at) leaves (v ∷ versions))
    → AgreesUpTo a asked t columns pages done (x ∷ rest) was now → AgreesUpTo b asked t columns pages (done ++ with_pages x g.now ∷ []) rest was now
agrees_added a b asked t columns pages done x rest was now v row at puts r e g added h =
    let o : Others a b t pages done x rest g.now = others a b t pages done x rest g h.own in
    let file : File = x.index.tree.file in
    let m : Mine = pages_mine file g.now in
    let over : IsIndexOver a asked x.index x.pages was = h.over_was.0 in
    let alone : AllByRecursion (λ w. is_at v.place w ≡ false) was =
    subst (AllByRecursion (λ w. is_at v.place w ≡ false)) (sym puts.was)
    (places_differ a t (length columns) pages puts.before v puts.after (subst (IsTable a t (length columns) pages) puts.now h.table.table)) in
    let none : HasNoneAt v.place over.entered =
    front_of (λ w. is_at v.place w ≡ false) over.entered over.left (all_permuted (λ w. is_at v.place w ≡ false) was (over.entered ++ over.left) over.all alone) in
    let n = added x.pages over.leaves over.entered over.index v r e (subst (λ p. HasNoneAt p over.entered) e none) in
    let same : n.pages ≡ g.now = line_one file b (Some x.index.tree.top) n.pages g.now n.index.tree.line g.line in
    record {
      own = subst (HavePages b t pages) (sym (append_assoc done (with_pages x g.now ∷ []) rest)) (pages_grown a b t pages done x rest g h.own);
      table = over_stays m a b t columns pages now g.steady (mine_apart file g.now pages o.line.in_main o.table) h.table;
      over_now = both_of (StandsOver b asked now) done (with_pages x g.now ∷ [])
          (over_apart m a b asked now done g.steady (lines_apart file a b g.now done o.line.in_main o.front) o.front_lines h.over_now)
          (over_more a b asked x.index x.pages g.now n.leaves_now was now v puts over (subst (λ p. IsIndexOf b x.index p n.leaves_now (v ∷ over.entered)) same n.index), tt);
      over_was = over_apart m a b asked was rest g.steady (lines_apart file a b g.now rest o.line.in_main o.back) o.back_lines h.over_was.1;
    }

-- it was refused: the index stays one of those versions, of more pages
pub agrees_not_added : (a b : Space) (asked : Placed → Type 0) (t : Table) (columns : List Column) (pages : List ℕ) (done : List IndexOn) (x : IndexOn) (rest : List IndexOn) (was now : List Placed)
    (row : List Value) (at : Place) → (g : LineGrows x.index.tree.file a b x.index.tree.top x.pages)
    → ((pages : List ℕ) (leaves : ℕ) (versions : List Placed) (h : IsIndexOf a x.index pages leaves versions)
    → IsIndexNow b x.index (most_with a x.index pages leaves versions h row at) leaves versions)
    → AgreesUpTo a asked t columns pages done (x ∷ rest) was now → AgreesUpTo b asked t columns pages done (with_pages x g.now ∷ rest) was now
agrees_not_added a b asked t columns pages done x rest was now row at g refused h =
    let o : Others a b t pages done x rest g.now = others a b t pages done x rest g h.own in
    let file : File = x.index.tree.file in
    let m : Mine = pages_mine file g.now in
    let over : IsIndexOver a asked x.index x.pages was = h.over_was.0 in
    let n = refused x.pages over.leaves over.entered over.index in
    let same : n.pages ≡ g.now = line_one file b (Some x.index.tree.top) n.pages g.now n.index.tree.line g.line in
    record {
      own = pages_grown a b t pages done x rest g h.own;
      table = over_stays m a b t columns pages now g.steady (mine_apart file g.now pages o.line.in_main o.table) h.table;
      over_now = over_apart m a b asked now done g.steady (lines_apart file a b g.now done o.line.in_main o.front) o.front_lines h.over_now;
      over_was = (
        record {
          leaves = n.leaves_now;
          entered = over.entered;
          left = over.left;
          index = subst (λ p. IsIndexOf b x.index p n.leaves_now over.entered) same n.index;
          all = over.all;
          not_asked = over.not_asked;
        },
        over_apart m a b asked was rest g.steady (lines_apart file a b g.now rest o.line.in_main o.back) o.back_lines h.over_was.1,
      );
    }

-- all indexes have the entry
pub agrees_again : (s : Space) (asked : Placed → Type 0) (t : Table) (columns : List Column) (pages : List ℕ) (done : List IndexOn) (was now : List Placed)
    → AgreesUpTo s asked t columns pages done [] was now → Agrees s asked t columns pages done now
agrees_again s asked t columns pages done was now h = record { own = subst (HavePages s t pages) (append-nil done) h.own; table = h.table; over = h.over_now }

-- or the version is not asked for: the change that put it in was refused
pub agrees_given_up : (s : Space) (asked : Placed → Type 0) (t : Table) (columns : List Column) (pages : List ℕ) (done rest : List IndexOn) (was now : List Placed) (v : Placed)
    → PutsIn was now v → (asked v → ⊥) → AgreesUpTo s asked t columns pages done rest was now → Agrees s asked t columns pages (done ++ rest) now
agrees_given_up s asked t columns pages done rest was now v puts n h = record {
  own = h.own;
  table = h.table;
  over = both_of (StandsOver s asked now) done rest h.over_now
      (all_to (StandsOver s asked was) (StandsOver s asked now) rest (λ x o. over_left s asked x.index x.pages was now v puts n o) h.over_was);
}

-- ---- an entry less

-- a removal keeps the line
abbrev pub line_kept : (file : File) (a b : Space) (top : ℕ) (pages : List ℕ) → Steady (pages_mine file pages) a b → IsLine file b (Some top) pages → LineGrows file a b top pages
line_kept file a b top pages steady line = record { now = pages; line = line; kept = λ n h. h; more = λ n h. inl h; steady = steady }

-- A version that is not asked for loses its entry in one index, if it has one there. It stays in the table.
pub agrees_removed : (a b : Space) (asked : Placed → Type 0) (t : Table) (columns : List Column) (pages : List ℕ) (done : List IndexOn) (x : IndexOn) (rest : List IndexOn)
    (before : List Placed) (v : Placed) (after : List Placed) (row : List Value) (at : Place) → (asked v → ⊥) → v.version.row ≡ row → v.place ≡ at
    → Steady (pages_mine x.index.tree.file x.pages) a b → IsLine x.index.tree.file b (Some x.index.tree.top) x.pages
    → ((pages : List ℕ) (leaves : ℕ) (versions rest : List Placed) (v : Placed) → IsIndexOf a x.index pages leaves versions → IsPermutation versions (v ∷ rest) → v.version.row ≡ row
    → v.place ≡ at → IsIndexOf b x.index pages leaves rest)
    → ((pages : List ℕ) (leaves : ℕ) (versions : List Placed) → IsIndexOf a x.index pages leaves versions → HasNoneAt at versions → IsIndexOf b x.index pages leaves versions)
    → Agrees a asked t columns pages (done ++ x ∷ rest) (before ++ v ∷ after) → Agrees b asked t columns pages (done ++ x ∷ rest) (before ++ v ∷ after)
agrees_removed a b asked t columns pages done x rest before v after row at n r e steady line gone absent h =
    let versions : List Placed = before ++ v ∷ after in
    let g : LineGrows x.index.tree.file a b x.index.tree.top x.pages = line_kept x.index.tree.file a b x.index.tree.top x.pages steady line in
    let o : Others a b t pages done x rest x.pages = others a b t pages done x rest g h.own in
    let file : File = x.index.tree.file in
    let was = back_of (StandsOver a asked versions) done (x ∷ rest) h.over in
    let alone : HasNoneAt v.place (before ++ after) = places_differ a t (length columns) pages before v after h.table.table in
    let over : IsIndexOver b asked x.index x.pages versions =
    over_removed a b asked x.index x.pages versions (before ++ after) v n (IsPermutation-middle before v after) alone
    (λ leaves entered less i p. gone x.pages leaves entered less v i p r e)
    (λ leaves entered i k. absent x.pages leaves entered i (subst (λ p. HasNoneAt p entered) e k)) was.0 in
    record {
      own = pages_grown a b t pages done x rest g h.own;
      table = over_stays (pages_mine file x.pages) a b t columns pages versions steady (mine_apart file x.pages pages o.line.in_main o.table) h.table;
      over = both_of (StandsOver b asked versions) done (x ∷ rest)
          (over_apart (pages_mine file x.pages) a b asked versions done steady (lines_apart file a b x.pages done o.line.in_main o.front) o.front_lines
          (front_of (StandsOver a asked versions) done (x ∷ rest) h.over))
          (over, over_apart (pages_mine file x.pages) a b asked versions rest steady (lines_apart file a b x.pages rest o.line.in_main o.back) o.back_lines was.1);
    }
