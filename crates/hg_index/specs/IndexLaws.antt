-- Laws of indexes of versions, for the layers above.
use Rattle.std.specs.Prelude.{◌≡◌, ℕ, ◌≤◌, true, false, List, [], ◌∷◌, ◌++◌, map, Option, Some, None, if◌then◌else◌}
use Rattle.std.specs.List.{AllByRecursion}
use Rattle.std.specs.List.Sorted.{IsPermutation}
use Rattle.std.proofs.Common.{sym, ◌∙◌, ap, subst, refl, append_assoc, append-nil}
use Rattle.std.proofs.lemmas.List.Sorted.{IsPermutation-refl, IsPermutation-sym, IsPermutation-cons, IsPermutation-trans, IsPermutation-middle, IsPermutation-map, IsPermutation-append_left}
use Rattle.hg_base.specs.Lines.{NoneMine}
use Rattle.hg_base.specs.Space.{Space}
use Rattle.hg_base.specs.Steadiness.{Mine, Steady}
use Rattle.hg_base.specs.declared.Index.{Index}
use Rattle.hg_base.specs.declared.Place.{Place}
use Rattle.hg_table.specs.Calls.{PutsIn}
use Rattle.hg_table.specs.Places.{is_at, killed, killed_at}
use Rattle.hg_table.specs.Versions.{Placed}
use Rattle.hg_index.specs.Agreeing.{IsIndexOf, IsIndexOver}
use Rattle.hg_index.specs.Bags.{all_permuted, among}
use Rattle.hg_index.specs.Calls.{HasNoneAt}
use Rattle.hg_index.specs.Entering.{place_number, entry_of, IsEnterable}
use Rattle.hg_index.specs.Finding.{IsBehind, FindsLeast, FindsAsked}
use Rattle.hg_index.specs.TreeLaws.{tree_stays}

-- ---- lists

pub all_to : {X : Type 0} (P Q : X → Type 0) (xs : List X) → ((x : X) → P x → Q x) → AllByRecursion P xs → AllByRecursion Q xs
all_to P Q [] f h = tt
all_to P Q (x ∷ xs) f h = (f x h.0, all_to P Q xs f h.1)

pub all_of : {X : Type 0} (P Q R : X → Type 0) (xs : List X) → ((x : X) → P x → Q x → R x) → AllByRecursion P xs → AllByRecursion Q xs → AllByRecursion R xs
all_of P Q R [] f h g = tt
all_of P Q R (x ∷ xs) f h g = (f x h.0 g.0, all_of P Q R xs f h.1 g.1)

pub front_of : {X : Type 0} (P : X → Type 0) (xs ys : List X) → AllByRecursion P (xs ++ ys) → AllByRecursion P xs
front_of P [] ys h = tt
front_of P (x ∷ xs) ys h = (h.0, front_of P xs ys h.1)

pub back_of : {X : Type 0} (P : X → Type 0) (xs ys : List X) → AllByRecursion P (xs ++ ys) → AllByRecursion P ys
back_of P [] ys h = h
back_of P (x ∷ xs) ys h = back_of P xs ys h.1

pub both_of : {X : Type 0} (P : X → Type 0) (xs ys : List X) → AllByRecursion P xs → AllByRecursion P ys → AllByRecursion P (xs ++ ys)
both_of P [] ys h g = g
both_of P (x ∷ xs) ys h g = (h.0, both_of P xs ys h.1 g)

pub mapped : {X Y : Type 0} (P : Y → Type 0) (f : X → Y) (xs : List X) → AllByRecursion (λ x. P (f x)) xs → AllByRecursion P (map f xs)
mapped P f [] h = tt
mapped P f (x ∷ xs) h = (h.0, mapped P f xs h.1)

pub unmapped : {X Y : Type 0} (P : Y → Type 0) (f : X → Y) (xs : List X) → AllByRecursion P (map f xs) → AllByRecursion (λ x. P (f x)) xs
unmapped P f [] h = tt
unmapped P f (x ∷ xs) h = (h.0, unmapped P f xs h.1)

-- ---- an index

-- it is one of the same versions in any order
pub index_permuted : (s : Space) (i : Index) (pages : List ℕ) (leaves : ℕ) (versions now : List Placed) → IsPermutation versions now → IsIndexOf s i pages leaves versions
    → IsIndexOf s i pages leaves now
index_permuted s i pages leaves versions now p h = record {
  entries = h.entries;
  tree = h.tree;
  are = IsPermutation-trans h.entries (map (entry_of i.columns.items) versions) (map (entry_of i.columns.items) now) h.are (IsPermutation-map (entry_of i.columns.items) versions now p);
  may = all_permuted (IsEnterable i.columns.items) versions now p h.may;
}

-- a change of other pages leaves it
pub index_stays : (m : Mine) (a b : Space) (i : Index) (pages : List ℕ) (leaves : ℕ) (versions : List Placed) → Steady m a b → NoneMine i.tree.file m pages
    → IsIndexOf a i pages leaves versions → IsIndexOf b i pages leaves versions
index_stays m a b i pages leaves versions steady apart h = record {
  entries = h.entries;
  tree = tree_stays m i.tree.file a b i.tree.top h.entries pages leaves steady apart h.tree;
  are = h.are;
  may = h.may;
}

pub over_steady : (m : Mine) (a b : Space) (asked : Placed → Type 0) (i : Index) (pages : List ℕ) (versions : List Placed) → Steady m a b → NoneMine i.tree.file m pages
    → IsIndexOver a asked i pages versions → IsIndexOver b asked i pages versions
over_steady m a b asked i pages versions steady apart h = record {
  leaves = h.leaves;
  entered = h.entered;
  left = h.left;
  index = index_stays m a b i pages h.leaves h.entered steady apart h.index;
  all = h.all;
  not_asked = h.not_asked;
}

-- a death changes no entry
entry_killed : (columns : List ℕ) (p : Place) (d : ℕ) (v : Placed) → entry_of columns (killed_at p d v) ≡ entry_of columns v
entry_killed columns p d v = elim (is_at p v) as (λ b. entry_of columns (if b then record v { version = record v.version { died = Some d } } else v) ≡ entry_of columns v) [ true ↦ refl | false ↦ refl ]

enterable_killed : (columns : List ℕ) (p : Place) (d : ℕ) (v : Placed) → IsEnterable columns v → IsEnterable columns (killed_at p d v)
enterable_killed columns p d v h = elim (is_at p v) as (λ b. IsEnterable columns (if b then record v { version = record v.version { died = Some d } } else v)) [
  | true ↦ record { row = h.row; place = h.place }
  | false ↦ h
]

entries_killed : (columns : List ℕ) (p : Place) (d : ℕ) (vs : List Placed) → map (entry_of columns) (killed p d vs) ≡ map (entry_of columns) vs
entries_killed columns p d [] = refl
entries_killed columns p d (v ∷ vs) = ap (λ e. e ∷ map (entry_of columns) (killed p d vs)) (entry_killed columns p d v) ∙ ap (λ r. entry_of columns v ∷ r) (entries_killed columns p d vs)

pub index_killed : (s : Space) (i : Index) (pages : List ℕ) (leaves : ℕ) (versions : List Placed) (p : Place) (d : ℕ) → IsIndexOf s i pages leaves versions
    → IsIndexOf s i pages leaves (killed p d versions)
index_killed s i pages leaves versions p d h = record {
  entries = h.entries;
  tree = h.tree;
  are = subst (IsPermutation h.entries) (sym (entries_killed i.columns.items p d versions)) h.are;
  may = mapped (IsEnterable i.columns.items) (killed_at p d) versions
      (all_to (IsEnterable i.columns.items) (λ v. IsEnterable i.columns.items (killed_at p d v)) versions (λ v e. enterable_killed i.columns.items p d v e) h.may);
}

killed_both : (p : Place) (d : ℕ) (xs ys : List Placed) → killed p d (xs ++ ys) ≡ killed p d xs ++ killed p d ys
killed_both p d [] ys = refl
killed_both p d (x ∷ xs) ys = ap (λ r. killed_at p d x ∷ r) (killed_both p d xs ys)

-- Who is dead is asked for no more than before.
pub over_dead : (s : Space) (asked now : Placed → Type 0) (i : Index) (pages : List ℕ) (versions : List Placed) (p : Place) (d : ℕ) → ((v : Placed) → now (killed_at p d v) → asked v)
    → IsIndexOver s asked i pages versions → IsIndexOver s now i pages (killed p d versions)
over_dead s asked now i pages versions p d less h = record {
  leaves = h.leaves;
  entered = killed p d h.entered;
  left = killed p d h.left;
  index = index_killed s i pages h.leaves h.entered p d h.index;
  all = subst (IsPermutation (killed p d versions)) (killed_both p d h.entered h.left) (IsPermutation-map (killed_at p d) versions (h.entered ++ h.left) h.all);
  not_asked = mapped (λ v. now v → ⊥) (killed_at p d) h.left (all_to (λ v. asked v → ⊥) (λ v. now (killed_at p d v) → ⊥) h.left (λ v n k. n (less v k)) h.not_asked);
}

-- fewer are asked for
pub over_fewer : (s : Space) (asked now : Placed → Type 0) (i : Index) (pages : List ℕ) (versions : List Placed) → AllByRecursion (λ v. now v → asked v) versions
    → IsIndexOver s asked i pages versions → IsIndexOver s now i pages versions
over_fewer s asked now i pages versions less h = record {
  leaves = h.leaves;
  entered = h.entered;
  left = h.left;
  index = h.index;
  all = h.all;
  not_asked = all_of (λ v. asked v → ⊥) (λ v. now v → asked v) (λ v. now v → ⊥) h.left (λ v n l k. n (l k)) h.not_asked
      (back_of (λ v. now v → asked v) h.entered h.left (all_permuted (λ v. now v → asked v) versions (h.entered ++ h.left) h.all less));
}

-- one version more, which has its entry
puts_first : (was now : List Placed) (v : Placed) → PutsIn was now v → IsPermutation now (v ∷ was)
puts_first was now v p =
    subst (λ l. IsPermutation now (v ∷ l)) (sym p.was) (subst (λ l. IsPermutation l (v ∷ (p.before ++ p.after))) (sym p.now) (IsPermutation-middle p.before v p.after))

pub over_more : (s b : Space) (asked : Placed → Type 0) (i : Index) (pages more : List ℕ) (leaves : ℕ) (was now : List Placed) (v : Placed) → PutsIn was now v
    → (h : IsIndexOver s asked i pages was) → IsIndexOf b i more leaves (v ∷ h.entered) → IsIndexOver b asked i more now
over_more s b asked i pages more leaves was now v p h index = record {
  leaves = leaves;
  entered = v ∷ h.entered;
  left = h.left;
  index = index;
  all = IsPermutation-trans now (v ∷ was) (v ∷ (h.entered ++ h.left)) (puts_first was now v p) (IsPermutation-cons v was (h.entered ++ h.left) h.all);
  not_asked = h.not_asked;
}

-- one version more, which is not asked for and has no entry
pub over_left : (s : Space) (asked : Placed → Type 0) (i : Index) (pages : List ℕ) (was now : List Placed) (v : Placed) → PutsIn was now v → (asked v → ⊥)
    → IsIndexOver s asked i pages was → IsIndexOver s asked i pages now
over_left s asked i pages was now v p n h = record {
  leaves = h.leaves;
  entered = h.entered;
  left = v ∷ h.left;
  index = h.index;
  all = IsPermutation-trans now (v ∷ was) (h.entered ++ v ∷ h.left) (puts_first was now v p)
      (IsPermutation-trans (v ∷ was) (v ∷ (h.entered ++ h.left)) (h.entered ++ v ∷ h.left) (IsPermutation-cons v was (h.entered ++ h.left) h.all)
      (IsPermutation-sym (h.entered ++ v ∷ h.left) (v ∷ (h.entered ++ h.left)) (IsPermutation-middle h.entered v h.left)));
  not_asked = (n, h.not_asked);
}

-- an entry less, of a version that is not asked for and stays
pub over_less : (s b : Space) (asked : Placed → Type 0) (i : Index) (pages : List ℕ) (leaves : ℕ) (versions rest : List Placed) (v : Placed) → (asked v → ⊥)
    → (h : IsIndexOver s asked i pages versions) → IsPermutation h.entered (v ∷ rest) → IsIndexOf b i pages leaves rest → IsIndexOver b asked i pages versions
over_less s b asked i pages leaves versions rest v n h p index = record {
  leaves = leaves;
  entered = rest;
  left = v ∷ h.left;
  index = index;
  all = IsPermutation-trans versions (h.entered ++ h.left) (rest ++ v ∷ h.left) h.all
      (IsPermutation-trans (h.entered ++ h.left) (v ∷ (rest ++ h.left)) (rest ++ v ∷ h.left) (IsPermutation-append_left h.left h.entered (v ∷ rest) p)
      (IsPermutation-sym (rest ++ v ∷ h.left) (v ∷ (rest ++ h.left)) (IsPermutation-middle rest v h.left)));
  not_asked = (n, h.not_asked);
}

-- where all are asked for, each version has its entry
pub over_all : (s : Space) (asked : Placed → Type 0) (i : Index) (pages : List ℕ) (versions : List Placed) → ((v : Placed) → asked v) → (h : IsIndexOver s asked i pages versions)
    → IsIndexOf s i pages h.leaves versions
over_all s asked i pages versions each h =
    let none : h.left ≡ [] = no_left h.left h.not_asked in
    let p : IsPermutation versions h.entered = subst (IsPermutation versions) (ap (λ l. h.entered ++ l) none ∙ append-nil h.entered) h.all in
    index_permuted s i pages h.leaves h.entered versions (IsPermutation-sym versions h.entered p) h.index
  where
    no_left : (left : List Placed) → AllByRecursion (λ v. asked v → ⊥) left → left ≡ []
    no_left [] h = refl
    no_left (v ∷ left) h = absurd (h.0 (each v))

pub over_whole : (s : Space) (asked : Placed → Type 0) (i : Index) (pages : List ℕ) (leaves : ℕ) (versions : List Placed) → IsIndexOf s i pages leaves versions → IsIndexOver s asked i pages versions
over_whole s asked i pages leaves versions h = record {
  leaves = leaves;
  entered = versions;
  left = [];
  index = h;
  all = subst (IsPermutation versions) (sym (append-nil versions)) (IsPermutation-refl versions);
  not_asked = tt;
}

-- ---- what is found

-- every entry found is that of a version of the table, and no version that is asked for is passed over
pub over_finds : (s : Space) (asked Sought Compares : Placed → Type 0) (i : Index) (pages : List ℕ) (versions : List Placed) (after found : Option Place)
    → ((pages : List ℕ) (leaves : ℕ) (entered : List Placed) → IsIndexOf s i pages leaves entered → AllByRecursion Compares entered → FindsLeast Sought after entered found)
    → AllByRecursion Compares versions → IsIndexOver s asked i pages versions → FindsAsked Sought asked after versions found
over_finds s asked Sought Compares i pages versions after found finds compare h =
    by_found found (finds pages h.leaves h.entered h.index (front_of Compares h.entered h.left (all_permuted Compares versions (h.entered ++ h.left) h.all compare)))
  where
    back : IsPermutation (h.entered ++ h.left) versions
    back = IsPermutation-sym versions (h.entered ++ h.left) h.all

    by_found : (found : Option Place) → FindsLeast Sought after h.entered found → FindsAsked Sought asked after versions found
    by_found None f =
        let P : Placed → Type 0 = λ w. asked w → Sought w → IsBehind after w.place → ⊥ in
        all_permuted P (h.entered ++ h.left) versions back
        (both_of P h.entered h.left (all_to (λ w. Sought w → IsBehind after w.place → ⊥) P h.entered (λ w n _ k b. n k b) f)
        (all_to (λ w. asked w → ⊥) P h.left (λ w n k _ _. n k) h.not_asked))
    by_found (Some place) f =
        let P : Placed → Type 0 = λ w. asked w → Sought w → IsBehind after w.place → place_number place ≤ place_number w.place in
        let split : h.entered ++ h.left ≡ f.front ++ f.v ∷ (f.back ++ h.left) = ap (λ l. l ++ h.left) f.among ∙ append_assoc f.front (f.v ∷ f.back) h.left in
        let m = among f.v (f.front ++ (f.back ++ h.left)) versions
        (IsPermutation-trans (f.v ∷ (f.front ++ (f.back ++ h.left))) (f.front ++ f.v ∷ (f.back ++ h.left)) versions
        (IsPermutation-sym (f.front ++ f.v ∷ (f.back ++ h.left)) (f.v ∷ (f.front ++ (f.back ++ h.left))) (IsPermutation-middle f.front f.v (f.back ++ h.left)))
        (subst (λ l. IsPermutation l versions) split back)) in
        record {
          front = m.before;
          v = f.v;
          back = m.after;
          among = m.are;
          sought = f.sought;
          place_is = f.place_is;
          behind = f.behind;
          least = all_permuted P (h.entered ++ h.left) versions back
              (both_of P h.entered h.left
              (all_to (λ w. Sought w → IsBehind after w.place → place_number place ≤ place_number w.place) P h.entered (λ w n _ k b. n k b) f.least)
              (all_to (λ w. asked w → ⊥) P h.left (λ w n k _ _. absurd (n k)) h.not_asked));
        }

-- ---- an entry less

-- where a part of two lists stands
data PartOf {X : Type 0} (xs ys before : List X) (v : X) (after : List X) : Type 0 where
  in_first : (more : List X) → xs ≡ before ++ v ∷ more → after ≡ more ++ ys → PartOf xs ys before v after
  in_second : (more : List X) → ys ≡ more ++ v ∷ after → before ≡ xs ++ more → PartOf xs ys before v after

head_same : {X : Type 0} (x y : X) (xs ys : List X) → x ∷ xs ≡ y ∷ ys → x ≡ y
head_same x y xs ys e = cc

tail_same : {X : Type 0} (x y : X) (xs ys : List X) → x ∷ xs ≡ y ∷ ys → xs ≡ ys
tail_same x y xs ys e = cc

part_of : {X : Type 0} (xs ys before : List X) (v : X) (after : List X) → xs ++ ys ≡ before ++ v ∷ after → PartOf xs ys before v after
part_of [] ys before v after e = in_second before e refl
part_of (x ∷ xs) ys [] v after e =
    in_first xs (ap (λ z. z ∷ xs) (head_same x v (xs ++ ys) after e)) (sym (tail_same x v (xs ++ ys) after e))
part_of (x ∷ xs) ys (b ∷ before) v after e = elim (part_of xs ys before v after (tail_same x b (xs ++ ys) (before ++ v ∷ after) e)) [
  | in_first more i j ↦ in_first more (ap (λ z. z ∷ xs) (head_same x b (xs ++ ys) (before ++ v ∷ after) e) ∙ ap (λ r. b ∷ r) i) j
  | in_second more i j ↦ in_second more i (ap (λ z. z ∷ before) (sym (head_same x b (xs ++ ys) (before ++ v ∷ after) e)) ∙ ap (λ r. x ∷ r) j)
]

-- A version that is not asked for loses its entry, if it has one.
pub over_removed : (s b : Space) (asked : Placed → Type 0) (i : Index) (pages : List ℕ) (versions rest : List Placed) (v : Placed) → (asked v → ⊥) → IsPermutation versions (v ∷ rest)
    → HasNoneAt v.place rest
    → ((leaves : ℕ) (entered less : List Placed) → IsIndexOf s i pages leaves entered → IsPermutation entered (v ∷ less) → IsIndexOf b i pages leaves less)
    → ((leaves : ℕ) (entered : List Placed) → IsIndexOf s i pages leaves entered → HasNoneAt v.place entered → IsIndexOf b i pages leaves entered)
    → IsIndexOver s asked i pages versions → IsIndexOver b asked i pages versions
over_removed s b asked i pages versions rest v n p alone gone absent h =
    let m = among v rest (h.entered ++ h.left)
    (IsPermutation-trans (v ∷ rest) versions (h.entered ++ h.left) (IsPermutation-sym versions (v ∷ rest) p) h.all) in
    by_part m.before m.after m.rest (part_of h.entered h.left m.before v m.after m.are)
  where
    Alone : Placed → Type 0
    Alone w = is_at v.place w ≡ false

    by_part : (before after : List Placed) → IsPermutation rest (before ++ after) → PartOf h.entered h.left before v after → IsIndexOver b asked i pages versions
    by_part before after r (in_first more e f) =
        let q : IsPermutation h.entered (v ∷ (before ++ more)) = subst (λ l. IsPermutation l (v ∷ (before ++ more))) (sym e) (IsPermutation-middle before v more) in
        over_less s b asked i pages h.leaves versions (before ++ more) v n h q (gone h.leaves h.entered (before ++ more) h.index q)
    by_part before after r (in_second more e f) =
        let others : AllByRecursion Alone (h.entered ++ (more ++ after)) =
        subst (AllByRecursion Alone) (ap (λ l. l ++ after) f ∙ append_assoc h.entered more after) (all_permuted Alone rest (before ++ after) r alone) in
        record {
          leaves = h.leaves;
          entered = h.entered;
          left = h.left;
          index = absent h.leaves h.entered h.index (front_of Alone h.entered (more ++ after) others);
          all = h.all;
          not_asked = h.not_asked;
        }
