-- What the entries of an index tell of its versions.
use Rattle.std.specs.Prelude.{◌≡◌, ℕ, ◌^◌, ◌<◌, ◌≤◌, List, [], ◌∷◌, ◌++◌, length, map, Option, None, Some, IfSome}
use Rattle.std.specs.List.{AllByRecursion}
use Rattle.std.specs.List.Sorted.{IsPermutation}
use Rattle.std.proofs.Common.{sym, ◌∙◌, ap, subst, arith, append_assoc, append-nil}
use Rattle.std.proofs.lemmas.List.Sorted.{IsPermutation-sym, IsPermutation-trans, IsPermutation-middle}
use Rattle.hg_base.specs.Space.{Space}
use Rattle.hg_base.specs.declared.Index.{Index}
use Rattle.hg_base.specs.declared.Place.{Place}
use Rattle.hg_btree.specs.Entries.{Entry, AllBy}
use Rattle.hg_btree.specs.Trees.{IsTree}
use Rattle.hg_model.specs.Evaluation.{value_at}
use Rattle.hg_model.specs.declared.values.Value.{Value}
use Rattle.hg_model.specs.declared.values.Value.TheVariants.{Null, Int, Text}
use Rattle.hg_table.specs.Versions.{Placed}
use Rattle.hg_value.specs.Comparing.{AreOfOneType}
use Rattle.hg_value.specs.Keys.{index_key, key_of_columns}
use Rattle.hg_value.specs.Laws.{IsIndexed, IndexKeysTell}
use Rattle.hg_value.specs.Looks.{chosen}
use Rattle.hg_index.specs.Agreeing.{IsIndexOf}
use Rattle.hg_index.specs.Bags.{among, all_permuted, image}
use Rattle.hg_index.specs.Calls.{HasIndex}
use Rattle.hg_index.specs.Entering.{place_number, row_key, entry_of, IsPlace, IsEnterable}
use Rattle.hg_index.specs.Finding.{IsBehind, HasFirst, HasKeyOf, FirstCompares, KeyCompares, FindsLeast, number_behind}
use Rattle.hg_index.specs.Walks.{HasPrefix, HasPlace, HasPlaces, FindsPlace}

-- ---- each of a list

pub all_weaker : {X : Type 0} (P Q : X → Type 0) (xs : List X) → ((x : X) → P x → Q x) → AllByRecursion P xs → AllByRecursion Q xs
all_weaker P Q [] f h = tt
all_weaker P Q (x ∷ xs) f h = (f x h.0, all_weaker P Q xs f h.1)

pub all_with : {X : Type 0} (P Q R : X → Type 0) (xs : List X) → ((x : X) → P x → Q x → R x) → AllByRecursion P xs → AllByRecursion Q xs → AllByRecursion R xs
all_with P Q R [] f h g = tt
all_with P Q R (x ∷ xs) f h g = (f x h.0 g.0, all_with P Q R xs f h.1 g.1)

all_images : {X Y : Type 0} (P : Y → Type 0) (f : X → Y) (xs : List X) → AllByRecursion (λ x. P (f x)) xs → AllByRecursion P (map f xs)
all_images P f [] h = tt
all_images P f (x ∷ xs) h = (h.0, all_images P f xs h.1)

all_before : {X Y : Type 0} (P : Y → Type 0) (f : X → Y) (xs : List X) → AllByRecursion P (map f xs) → AllByRecursion (λ x. P (f x)) xs
all_before P f [] h = tt
all_before P f (x ∷ xs) h = (h.0, all_before P f xs h.1)

pub all_at : {X : Type 0} (P : X → Type 0) (xs : List X) (x : X) (ys : List X) → AllByRecursion P (xs ++ x ∷ ys) → P x
all_at P [] x ys h = h.0
all_at P (y ∷ xs) x ys h = all_at P xs x ys h.1

by_entries : (P : Entry → Type 0) (es : List Entry) → AllByRecursion P es → AllBy P es
by_entries P [] h = tt
by_entries P (e ∷ es) h = (h.0, by_entries P es h.1)

of_entries : (P : Entry → Type 0) (es : List Entry) → AllBy P es → AllByRecursion P es
of_entries P [] h = tt
of_entries P (e ∷ es) h = (h.0, of_entries P es h.1)

-- what is known of each entry is known of that of each version
pub each_version : (P : Entry → Type 0) (columns : List ℕ) (es : List Entry) (versions : List Placed) → IsPermutation es (map (entry_of columns) versions) → AllBy P es
    → AllByRecursion (λ v. P (entry_of columns v)) versions
each_version P columns es versions are h =
    all_before P (entry_of columns) versions (all_permuted P es (map (entry_of columns) versions) are (of_entries P es h))

each_entry : (P : Entry → Type 0) (columns : List ℕ) (es : List Entry) (versions : List Placed) → IsPermutation es (map (entry_of columns) versions)
    → AllByRecursion (λ v. P (entry_of columns v)) versions → AllBy P es
each_entry P columns es versions are h =
    by_entries P es (all_permuted P (map (entry_of columns) versions) es (IsPermutation-sym es (map (entry_of columns) versions) are) (all_images P (entry_of columns) versions h))

-- ---- places

small_place : (p : Place) → IsPlace p → place_number p < 2 ^ 48
small_place p h = let a = h.page in let b = h.slot in omega arith

pub place_one : (p q : Place) → IsPlace p → IsPlace q → place_number p ≡ place_number q → p ≡ q
place_one p q h g e =
    let a = h.slot in
    let b = g.slot in
    let page : p.page ≡ q.page = omega arith in
    let slot : p.slot ≡ q.slot = omega arith in
    ap (λ n. record { page = n; slot = p.slot }) page ∙ ap (λ n. record { page = q.page; slot = n }) slot

pub has_places : (s : Space) (i : Index) (pages : List ℕ) (leaves : ℕ) (versions : List Placed) → (h : IsIndexOf s i pages leaves versions) → AllBy HasPlace h.entries
has_places s i pages leaves versions h =
    each_entry HasPlace i.columns.items h.entries versions h.are
    (all_weaker (IsEnterable i.columns.items) (λ v. HasPlace (entry_of i.columns.items v)) versions (λ v m. small_place v.place m.place) h.may)

pub asked_places : (s : Space) (i : Index) → HasIndex s i → HasPlaces i.tree.file s i.tree.top
asked_places s i h = record {
  es = h.index.entries;
  pages = h.pages;
  leaves = h.leaves;
  tree = h.index.tree;
  places = has_places s i h.pages h.leaves h.versions h.index;
}

behind_from : (after : Option Place) (p : Place) → IsBehind after p → number_behind after ≤ place_number p
behind_from None p h = omega arith
behind_from (Some a) p h = omega arith

pub from_behind : (after : Option Place) (p : Place) → number_behind after ≤ place_number p → IsBehind after p
from_behind None p h = tt
from_behind (Some a) p h = omega arith

pub found_behind : (after found : Option Place) → IfSome found (λ p. number_behind after ≤ place_number p) → IfSome found (IsBehind after)
found_behind after None h = tt
found_behind after (Some p) h = from_behind after p h

-- ---- the place that is found

-- the entry of a version has such a key exactly where the version is sought
pub record Tells (columns : List ℕ) (P : List ℕ → Type 0) (Sought : Placed → Type 0) (v : Placed) : Type 0 where
  pub told : P (row_key columns v.version.row) → Sought v
  pub tells : Sought v → P (row_key columns v.version.row)
  pub place : IsPlace v.place

pub least_found : (columns : List ℕ) (P : List ℕ → Type 0) (Sought : Placed → Type 0) (after : Option Place) (es : List Entry) (versions : List Placed) (found : Option Place)
    → IsPermutation es (map (entry_of columns) versions) → AllByRecursion (Tells columns P Sought) versions → IfSome found IsPlace
    → FindsPlace P (number_behind after) es found → FindsLeast Sought after versions found
least_found columns P Sought after es versions None are tells proper f =
    all_with (Tells columns P Sought) (λ v. P (row_key columns v.version.row) → number_behind after ≤ place_number v.place → ⊥) (λ v. Sought v → IsBehind after v.place → ⊥) versions
    (λ v t g a b. g (t.tells a) (behind_from after v.place b)) tells
    (each_version (λ e. P e.key → number_behind after ≤ e.place → ⊥) columns es versions are f)
least_found columns P Sought after es versions (Some p) are tells proper f =
    let m = among f.x (f.before ++ f.after) (map (entry_of columns) versions)
    (IsPermutation-trans (f.x ∷ (f.before ++ f.after)) (f.before ++ f.x ∷ f.after) (map (entry_of columns) versions)
    (IsPermutation-sym (f.before ++ f.x ∷ f.after) (f.x ∷ (f.before ++ f.after)) (IsPermutation-middle f.before f.x f.after))
    (subst (λ l. IsPermutation l (map (entry_of columns) versions)) f.all are)) in
    let i = image (entry_of columns) versions m.before f.x m.after m.are in
    let t : Tells columns P Sought i.x = all_at (Tells columns P Sought) i.front i.x i.back (subst (AllByRecursion (Tells columns P Sought)) i.are tells) in
    record {
      front = i.front;
      v = i.x;
      back = i.back;
      among = i.are;
      sought = t.told (subst P (sym (ap (λ (e : Entry). e.key) i.is)) f.key);
      place_is = place_one i.x.place p t.place proper (ap (λ (e : Entry). e.place) i.is ∙ f.place_is);
      behind = from_behind after p f.from;
      least = all_with (Tells columns P Sought) (λ v. P (row_key columns v.version.row) → number_behind after ≤ place_number v.place → place_number p ≤ place_number v.place)
          (λ v. Sought v → IsBehind after v.place → place_number p ≤ place_number v.place) versions
          (λ v t g a b. g (t.tells a) (behind_from after v.place b)) tells
          (each_version (λ e. P e.key → number_behind after ≤ e.place → place_number p ≤ e.place) columns es versions are f.least);
    }

-- ---- which keys tell what

index_key-some : (v : Value) (rest : List ℕ) → [] ≡ index_key v ++ rest → ⊥
index_key-some Null rest e = cc
index_key-some (Int x) rest e = cc
index_key-some (Text t) rest e = cc

one_key : (v : Value) (rest : List ℕ) → (index_key v ++ []) ++ rest ≡ index_key v ++ rest
one_key v rest = append_assoc (index_key v) [] rest

-- of one value
first_told : IndexKeysTell → (first w : Value) (xs ys : List ℕ) → IsIndexed first → IsIndexed w → AreOfOneType first w → index_key w ++ ys ≡ index_key first ++ xs → w ≡ first
first_told law first w xs ys f g t e =
    let p = law (first ∷ []) (w ∷ []) xs ys (f, tt) (g, tt) (t, tt) (one_key first xs ∙ sym e ∙ sym (one_key w ys)) in
    sym (head first w [] [] p.0)
  where
    head : (x y : Value) (xs ys : List Value) → x ∷ xs ≡ y ∷ ys → x ≡ y
    head x y xs ys e = cc

prefix_tells : IndexKeysTell → (columns : List ℕ) (first : Value) (v : Placed) → IsIndexed first → IsEnterable columns v → FirstCompares columns first v
    → Tells columns (HasPrefix (index_key first)) (HasFirst columns first) v
prefix_tells law [] first v f m t = record { told = λ h. index_key-some first h.0 h.1; tells = λ a. absurd a; place = m.place }
prefix_tells law (k ∷ columns) first v f m t = record {
  told = λ h. first_told law first (value_at v.version.row k) h.0 (row_key columns v.version.row) f m.row.indexed.0 t h.1;
  tells = λ a. (row_key columns v.version.row, ap (λ w. index_key w ++ row_key columns v.version.row) a);
  place = m.place;
}

single_tells : IndexKeysTell → (columns : List ℕ) (first : Value) (v : Placed) → length columns ≡ 1 → IsIndexed first → IsEnterable columns v → FirstCompares columns first v
    → Tells columns (λ k. k ≡ index_key first) (HasFirst columns first) v
single_tells law [] first v l f m t = absurd (omega arith)
single_tells law (k ∷ []) first v l f m t = record {
  told = λ h. first_told law first (value_at v.version.row k) [] [] f m.row.indexed.0 t (h ∙ sym (append-nil (index_key first)));
  tells = λ a. append-nil (index_key (value_at v.version.row k)) ∙ ap index_key a;
  place = m.place;
}
single_tells law (k ∷ j ∷ columns) first v l f m t = absurd (omega arith)

key_tells : IndexKeysTell → (columns : List ℕ) (row : List Value) (v : Placed) → AllByRecursion IsIndexed (chosen row columns) → IsEnterable columns v → KeyCompares columns row v
    → Tells columns (λ k. k ≡ row_key columns row) (HasKeyOf columns row) v
key_tells law columns row v f m t = record {
  told = λ h. sym (law (chosen row columns) (chosen v.version.row columns) [] [] f m.row.indexed t
      (append-nil (row_key columns row) ∙ sym h ∙ sym (append-nil (row_key columns v.version.row)))).0;
  tells = λ a. ap (λ vs. key_of_columns index_key vs) a;
  place = m.place;
}

-- ---- the calls

pub first_found : IndexKeysTell → (s : Space) (i : Index) (pages : List ℕ) (leaves : ℕ) (versions : List Placed) (first : Value) (after found : Option Place)
    → (h : IsIndexOf s i pages leaves versions) → IsIndexed first → AllByRecursion (FirstCompares i.columns.items first) versions → IfSome found IsPlace
    → FindsPlace (HasPrefix (index_key first)) (number_behind after) h.entries found → FindsLeast (HasFirst i.columns.items first) after versions found
first_found law s i pages leaves versions first after found h f c proper g =
    let columns : List ℕ = i.columns.items in
    least_found columns (HasPrefix (index_key first)) (HasFirst columns first) after h.entries versions found h.are
    (all_with (IsEnterable columns) (FirstCompares columns first) (Tells columns (HasPrefix (index_key first)) (HasFirst columns first)) versions
    (λ v m t. prefix_tells law columns first v f m t) h.may c) proper g

pub single_found : IndexKeysTell → (s : Space) (i : Index) (pages : List ℕ) (leaves : ℕ) (versions : List Placed) (first : Value) (after found : Option Place)
    → (h : IsIndexOf s i pages leaves versions) → length i.columns.items ≡ 1 → IsIndexed first → AllByRecursion (FirstCompares i.columns.items first) versions → IfSome found IsPlace
    → FindsPlace (λ k. k ≡ index_key first) (number_behind after) h.entries found → FindsLeast (HasFirst i.columns.items first) after versions found
single_found law s i pages leaves versions first after found h l f c proper g =
    let columns : List ℕ = i.columns.items in
    least_found columns (λ k. k ≡ index_key first) (HasFirst columns first) after h.entries versions found h.are
    (all_with (IsEnterable columns) (FirstCompares columns first) (Tells columns (λ k. k ≡ index_key first) (HasFirst columns first)) versions
    (λ v m t. single_tells law columns first v l f m t) h.may c) proper g

pub same_found : IndexKeysTell → (s : Space) (i : Index) (pages : List ℕ) (leaves : ℕ) (versions : List Placed) (row : List Value) (after found : Option Place)
    → (h : IsIndexOf s i pages leaves versions) → AllByRecursion IsIndexed (chosen row i.columns.items) → AllByRecursion (KeyCompares i.columns.items row) versions → IfSome found IsPlace
    → FindsPlace (λ k. k ≡ row_key i.columns.items row) (number_behind after) h.entries found → FindsLeast (HasKeyOf i.columns.items row) after versions found
same_found law s i pages leaves versions row after found h f c proper g =
    let columns : List ℕ = i.columns.items in
    least_found columns (λ k. k ≡ row_key columns row) (HasKeyOf columns row) after h.entries versions found h.are
    (all_with (IsEnterable columns) (KeyCompares columns row) (Tells columns (λ k. k ≡ row_key columns row) (HasKeyOf columns row)) versions
    (λ v m t. key_tells law columns row v f m t) h.may c) proper g

-- where the value is of no key, no version has it
first_none : (columns : List ℕ) (first : Value) (v : Placed) → (IsIndexed first → ⊥) → IsEnterable columns v → HasFirst columns first v → ⊥
first_none [] first v n m a = a
first_none (k ∷ columns) first v n m a = n (subst IsIndexed a m.row.indexed.0)

pub none_found : (columns : List ℕ) (first : Value) (after : Option Place) (versions : List Placed) → (IsIndexed first → ⊥) → AllByRecursion (IsEnterable columns) versions
    → FindsLeast (HasFirst columns first) after versions None
none_found columns first after versions n may =
    all_weaker (IsEnterable columns) (λ v. HasFirst columns first v → IsBehind after v.place → ⊥) versions (λ v m a b. first_none columns first v n m a) may

-- ---- what a search of the tree answers

abbrev pub Answers : Space → Index → (List ℕ → Type 0) → ℕ → Option Place → Type 0
Answers s i P low found = (es : List Entry) (pages : List ℕ) (leaves : ℕ) → IsTree i.tree.file s i.tree.top es pages leaves → AllBy HasPlace es → FindsPlace P low es found

pub first_answer : IndexKeysTell → (s : Space) (i : Index) (first : Value) (after : Option Place) (low : ℕ) (key : List ℕ) (found : Option Place)
    → IsIndexed first → key ≡ index_key first → low ≡ number_behind after → Answers s i (HasPrefix key) low found → IfSome found IsPlace
    → (pages : List ℕ) (leaves : ℕ) (versions : List Placed) → IsIndexOf s i pages leaves versions → AllByRecursion (FirstCompares i.columns.items first) versions
    → FindsLeast (HasFirst i.columns.items first) after versions found
first_answer law s i first after low key found f k l a proper pages leaves versions h c =
    first_found law s i pages leaves versions first after found h f c proper
    (subst (λ q. FindsPlace (HasPrefix q) (number_behind after) h.entries found) k
    (subst (λ n. FindsPlace (HasPrefix key) n h.entries found) l (a h.entries pages leaves h.tree (has_places s i pages leaves versions h))))

pub single_answer : IndexKeysTell → (s : Space) (i : Index) (first : Value) (after : Option Place) (low : ℕ) (key : List ℕ) (found : Option Place)
    → length i.columns.items ≡ 1 → IsIndexed first → key ≡ index_key first → low ≡ number_behind after → Answers s i (λ k. k ≡ key) low found → IfSome found IsPlace
    → (pages : List ℕ) (leaves : ℕ) (versions : List Placed) → IsIndexOf s i pages leaves versions → AllByRecursion (FirstCompares i.columns.items first) versions
    → FindsLeast (HasFirst i.columns.items first) after versions found
single_answer law s i first after low key found one f k l a proper pages leaves versions h c =
    single_found law s i pages leaves versions first after found h one f c proper
    (subst (λ q. FindsPlace (λ j. j ≡ q) (number_behind after) h.entries found) k
    (subst (λ n. FindsPlace (λ j. j ≡ key) n h.entries found) l (a h.entries pages leaves h.tree (has_places s i pages leaves versions h))))

pub same_answer : IndexKeysTell → (s : Space) (i : Index) (row : List Value) (after : Option Place) (low : ℕ) (key : List ℕ) (found : Option Place)
    → AllByRecursion IsIndexed (chosen row i.columns.items) → key ≡ row_key i.columns.items row → low ≡ number_behind after → Answers s i (λ k. k ≡ key) low found → IfSome found IsPlace
    → (pages : List ℕ) (leaves : ℕ) (versions : List Placed) → IsIndexOf s i pages leaves versions → AllByRecursion (KeyCompares i.columns.items row) versions
    → FindsLeast (HasKeyOf i.columns.items row) after versions found
same_answer law s i row after low key found f k l a proper pages leaves versions h c =
    same_found law s i pages leaves versions row after found h f c proper
    (subst (λ q. FindsPlace (λ j. j ≡ q) (number_behind after) h.entries found) k
    (subst (λ n. FindsPlace (λ j. j ≡ key) n h.entries found) l (a h.entries pages leaves h.tree (has_places s i pages leaves versions h))))

pub all_front : {X : Type 0} (P : X → Type 0) (xs ys : List X) → AllByRecursion P (xs ++ ys) → AllByRecursion P xs
all_front P [] ys h = tt
all_front P (x ∷ xs) ys h = (h.0, all_front P xs ys h.1)

pub all_back : {X : Type 0} (P : X → Type 0) (xs ys : List X) → AllByRecursion P (xs ++ ys) → AllByRecursion P ys
all_back P [] ys h = h
all_back P (x ∷ xs) ys h = all_back P xs ys h.1

pub all_join : {X : Type 0} (P : X → Type 0) (xs ys : List X) → AllByRecursion P xs → AllByRecursion P ys → AllByRecursion P (xs ++ ys)
all_join P [] ys h g = g
all_join P (x ∷ xs) ys h g = (h.0, all_join P xs ys h.1 g)
