-- Open loops, of which the innermost is looked at.
use Rattle.std.specs.Prelude.{◌≡◌, ℕ, zero, suc, ◌+◌, ◌*◌, ◌<◌, ◌≤◌, Bool, List, [], ◌∷◌, ◌++◌, length, take, drop, get_or, Option, Some, None, unwrap_or, slice_get, ◌⊎◌}
use Rattle.std.specs.List.{AllByRecursion}
use Rattle.std.proofs.Common.{sym, ◌∙◌, ap, subst, refl, append_assoc, append-nil, arith, inl, inr}
use Rattle.std.proofs.lemmas.Option.{none-some, slice_get_read}
use Rattle.std.proofs.lemmas.Bool.{cases_lt}
use Rattle.std.proofs.Math.Nat.{suc-mul}
use Rattle.hg_base.specs.Space.{Space}
use Rattle.hg_base.specs.Steadiness.{Steady}
use Rattle.hg_base.specs.declared.Place.{Place}
use Rattle.hg_base.specs.declared.Table.{Table}
use Rattle.hg_catalog.specs.Contents.{CatalogTable}
use Rattle.hg_model.specs.declared.trees.Column.{Column}
use Rattle.hg_model.specs.declared.values.Value.{Value}
use Rattle.hg_table.specs.Agreement.{over_stays}
use Rattle.hg_table.specs.Calls.{none_mine}
use Rattle.hg_table.specs.Kept.{none_of}
use Rattle.hg_exec.specs.Joins.{Form, TableRows, rows_over}
use Rattle.hg_exec.specs.Standing.{HasLeft, LoopHasLeft, OwesFrom, Each, Ascend}
use Rattle.hg_exec.specs.Turning.{worth, looks_from}
use Rattle.hg_exec.specs.declared.plan.OpenLoop.{OpenLoop}
use Rattle.hg_plan.specs.declared.plan.TableLoop.{TableLoop}

pub same-one : (x y : TableLoop) → ◌≡◌ {A = Option TableLoop} (Some x) (Some y) → x ≡ y
same-one x y e = ap (λ o. unwrap_or o x) e

pub no-loop : (n : ℕ) (l : TableLoop) → ◌≡◌ {A = Option TableLoop} (slice_get [] n) (Some l) → ⊥
no-loop n l e = none-some l e

-- ---- lists

pub all-at : (P : TableLoop → Type 0) (ls : List TableLoop) (n : ℕ) (l : TableLoop) → slice_get ls n ≡ Some l → AllByRecursion P ls → P l
all-at P [] n l e h = absurd (no-loop n l e)
all-at P (m ∷ ls) zero l e h = subst P (same-one m l e) h.0
all-at P (m ∷ ls) (suc n) l e h = all-at P ls n l e h.1

pub drop-at : (ls : List TableLoop) (n : ℕ) (l : TableLoop) → slice_get ls n ≡ Some l → drop n ls ≡ l ∷ drop (suc n) ls
drop-at [] n l e = absurd (no-loop n l e)
drop-at (m ∷ ls) zero l e = ap (λ x. x ∷ ls) (same-one m l e)
drop-at (m ∷ ls) (suc n) l e = drop-at ls n l e

all-front : (P : OpenLoop → Type 0) (xs : List OpenLoop) (o : OpenLoop) → AllByRecursion P (xs ++ o ∷ []) → AllByRecursion P xs × P o
all-front P [] o h = (tt, h.0)
all-front P (x ∷ xs) o h = let r = all-front P xs o h.1 in ((h.0, r.0), r.1)

all-more : (P : OpenLoop → Type 0) (xs : List OpenLoop) (o : OpenLoop) → AllByRecursion P xs → P o → AllByRecursion P (xs ++ o ∷ [])
all-more P [] o h p = (p, tt)
all-more P (x ∷ xs) o h p = (h.0, all-more P xs o h.1 p)

-- those around a loop begin at or before its own values
abbrev pub AreBefore : ℕ → List OpenLoop → Type 0
AreBefore m os = AllByRecursion (λ (p : OpenLoop). p.start ≤ m) os

pub before-later : (m n : ℕ) (os : List OpenLoop) → m ≤ n → AreBefore m os → AreBefore n os
before-later m n [] le h = tt
before-later m n (o ∷ os) le h = (let a = h.0 in omega arith, before-later m n os le h.1)

pub before-more : (m : ℕ) (os : List OpenLoop) (o : OpenLoop) → AreBefore m os → o.start ≤ m → AreBefore m (os ++ o ∷ [])
before-more m os o h le = all-more (λ (p : OpenLoop). p.start ≤ m) os o h le

pub ascend-top : (outer : List OpenLoop) (o : OpenLoop) → Ascend (outer ++ o ∷ []) → AreBefore o.start outer × Ascend outer
ascend-top [] o h = (tt, tt)
ascend-top (p ∷ outer) o h =
    let here = all-front (λ (q : OpenLoop). p.start ≤ q.start) outer o h.0 in
    let rest = ascend-top outer o h.1 in
    ((here.1, rest.0), (here.0, rest.1))

pub ascend-join : (outer : List OpenLoop) (o : OpenLoop) → AreBefore o.start outer → Ascend outer → Ascend (outer ++ o ∷ [])
ascend-join [] o b h = (tt, tt)
ascend-join (p ∷ outer) o b h = (all-more (λ (q : OpenLoop). p.start ≤ q.start) outer o h.0 b.0, ascend-join outer o b.1 h.1)

-- ---- each open loop with its own

module _ (P : ℕ → TableLoop → OpenLoop → Type 0) where
  pub each-inside : (k : ℕ) (ls : List TableLoop) (outer : List OpenLoop) (o : OpenLoop) → Each P k ls (outer ++ o ∷ []) → length outer < length ls
  each-inside k [] [] o h = absurd h
  each-inside k [] (p ∷ outer) o h = absurd h
  each-inside k (m ∷ ls) [] o h = omega arith
  each-inside k (m ∷ ls) (p ∷ outer) o h = let r = each-inside (suc k) ls outer o h.1 in omega arith

  pub each-top : (k : ℕ) (ls : List TableLoop) (outer : List OpenLoop) (o : OpenLoop) (l : TableLoop) → slice_get ls (length outer) ≡ Some l
      → Each P k ls (outer ++ o ∷ []) → P (k + length outer) l o × Each P k ls outer
  each-top k [] outer o l e h = absurd (no-loop (length outer) l e)
  each-top k (m ∷ ls) [] o l e h =
      let same : k ≡ k + 0 = omega arith in
      (subst (λ n. P n l o) same (subst (λ x. P k x o) (same-one m l e) h.0), tt)
  each-top k (m ∷ ls) (p ∷ outer) o l e h =
      let r = each-top (suc k) ls outer o l e h.1 in
      let same : suc k + length outer ≡ k + suc (length outer) = omega arith in
      (subst (λ n. P n l o) same r.0, (h.0, r.1))

  pub each-join : (k : ℕ) (ls : List TableLoop) (outer : List OpenLoop) (o : OpenLoop) (l : TableLoop) → slice_get ls (length outer) ≡ Some l
      → Each P k ls outer → P (k + length outer) l o → Each P k ls (outer ++ o ∷ [])
  each-join k [] outer o l e h p = absurd (no-loop (length outer) l e)
  each-join k (m ∷ ls) [] o l e h p =
      let same : k + 0 ≡ k = omega arith in
      (subst (λ x. P k x o) (sym (same-one m l e)) (subst (λ n. P n l o) same p), tt)
  each-join k (m ∷ ls) (q ∷ outer) o l e h p =
      let same : k + suc (length outer) ≡ suc k + length outer = omega arith in
      (h.0, each-join (suc k) ls outer o l e h.1 (subst (λ n. P n l o) same p))

pub each-map : (P Q : ℕ → TableLoop → OpenLoop → Type 0) (m : ℕ) (k : ℕ) (ls : List TableLoop) (os : List OpenLoop)
    → ((k : ℕ) (l : TableLoop) (o : OpenLoop) → o.start ≤ m → P k l o → Q k l o) → AreBefore m os → Each P k ls os → Each Q k ls os
each-map P Q m k ls [] f b h = tt
each-map P Q m k [] (o ∷ os) f b h = absurd h
each-map P Q m k (l ∷ ls) (o ∷ os) f b h = (f k l o b.0 h.0, each-map P Q m (suc k) ls os f b.1 h.1)

-- ---- what is owed

pub has-stays : (a b : Space) (c : ℕ → Bool) (n : ℕ) (t : Table) (columns : List Column) (pages : List ℕ) (at : Option Place) (budget : ℕ) (left : List (List Value))
    → Steady none_mine a b → HasLeft a c n t columns pages at budget left → HasLeft b c n t columns pages at budget left
has-stays a b c n t columns pages at budget left steady h = record {
  done = h.done;
  rest = h.rest;
  table = over_stays none_mine a b t columns pages (h.done ++ h.rest) steady (none_of pages) h.table;
  behind = h.behind;
  few = h.few;
  seen = h.seen;
}

module _ (s : Space) (c : ℕ → Bool) (n : ℕ) (tables : List CatalogTable) (pages : ℕ → List ℕ) (f : Form) (rows : TableRows) (joined : List Value) where
  -- what the innermost loop owes, and those around it
  pub record Top (ls : List TableLoop) (outer : List OpenLoop) (l : TableLoop) (o : OpenLoop) (left : List (List Value)) : Type 0 where
    pub rest : List (List Value)
    pub around : List (List Value)
    pub has : LoopHasLeft s c n tables pages l.table o.at o.budget rest
    pub owed : OwesFrom s c n tables pages f rows joined ls outer around
    pub is : left ≡ rows_over f rows l (drop (suc (length outer)) ls) (take o.start joined) rest ++ around

  pub owes-top : (ls : List TableLoop) (outer : List OpenLoop) (o : OpenLoop) (l : TableLoop) (left : List (List Value)) → slice_get ls (length outer) ≡ Some l
      → OwesFrom s c n tables pages f rows joined ls (outer ++ o ∷ []) left → Top ls outer l o left
  owes-top [] outer o l left e h = absurd (no-loop (length outer) l e)
  owes-top (m ∷ ls) [] o l left e h =
      subst (λ x. Top (m ∷ ls) [] x o left) (same-one m l e)
      (record {
        rest = h.0;
        around = [];
        has = h.2;
        owed = refl;
        is = h.4 ∙ ap (λ i. i ++ rows_over f rows m ls (take o.start joined) h.0) h.3 ∙ sym (append-nil (rows_over f rows m ls (take o.start joined) h.0));
      })
  owes-top (m ∷ ls) (p ∷ outer) o l left e h =
      let r = owes-top ls outer o l h.1 e h.3 in
      let here = rows_over f rows m ls (take p.start joined) h.0 in
      record {
        rest = r.rest;
        around = r.around ++ here;
        has = r.has;
        owed = (h.0, r.around, h.2, r.owed, refl);
        is = h.4 ∙ ap (λ i. i ++ here) r.is
            ∙ append_assoc (rows_over f rows l (drop (suc (length outer)) ls) (take o.start joined) r.rest) r.around here;
      }

  pub owes-join : (ls : List TableLoop) (outer : List OpenLoop) (o : OpenLoop) (l : TableLoop) (rest around : List (List Value)) → slice_get ls (length outer) ≡ Some l
      → OwesFrom s c n tables pages f rows joined ls outer around → LoopHasLeft s c n tables pages l.table o.at o.budget rest
      → OwesFrom s c n tables pages f rows joined ls (outer ++ o ∷ []) (rows_over f rows l (drop (suc (length outer)) ls) (take o.start joined) rest ++ around)
  owes-join [] outer o l rest around e h has = absurd (no-loop (length outer) l e)
  owes-join (m ∷ ls) [] o l rest around e h has =
      subst (λ (x : TableLoop). OwesFrom s c n tables pages f rows joined (m ∷ ls) (o ∷ []) (rows_over f rows x ls (take o.start joined) rest ++ around)) (same-one m l e) (
        rest,
        [],
        subst (λ (x : TableLoop). LoopHasLeft s c n tables pages x.table o.at o.budget rest) (sym (same-one m l e)) has,
        refl,
        ap (λ i. rows_over f rows m ls (take o.start joined) rest ++ i) h ∙ append-nil (rows_over f rows m ls (take o.start joined) rest),
      )
  owes-join (m ∷ ls) (p ∷ outer) o l rest around e h has =
      let top = rows_over f rows l (drop (suc (length outer)) ls) (take o.start joined) rest in
      let here = rows_over f rows m ls (take p.start joined) h.0 in (
        h.0,
        top ++ h.1,
        h.2,
        owes-join ls outer o l rest h.1 e h.3 has,
        ap (λ i. top ++ i) h.4 ∙ sym (append_assoc top h.1 here),
      )

-- what loops around a look owe stays, where the joined row has the values before them
pub owes-stays : (a b : Space) (c : ℕ → Bool) (n : ℕ) (tables : List CatalogTable) (pages : ℕ → List ℕ) (f : Form) (rows : TableRows) (old new : List Value) (m : ℕ)
    (ls : List TableLoop) (os : List OpenLoop) (left : List (List Value)) → Steady none_mine a b → ((j : ℕ) → j ≤ m → take j new ≡ take j old) → AreBefore m os
    → OwesFrom a c n tables pages f rows old ls os left → OwesFrom b c n tables pages f rows new ls os left
owes-stays a b c n tables pages f rows old new m ls [] left steady same before h = h
owes-stays a b c n tables pages f rows old new m [] (o ∷ os) left steady same before h = absurd h
owes-stays a b c n tables pages f rows old new m (l ∷ ls) (o ∷ os) left steady same before h = (
  h.0,
  h.1,
  has-stays a b c n _ _ _ o.at o.budget h.0 steady h.2,
  owes-stays a b c n tables pages f rows old new m ls os h.1 steady same before.1 h.3,
  h.4 ∙ ap (λ t. h.1 ++ rows_over f rows l ls t h.0) (sym (same o.start before.0)),
)

-- ---- looks that are left

pub worth-some : (most n : ℕ) → 0 < worth most n
worth-some most zero = omega arith
worth-some most (suc n) = let r = worth-some most n in omega (arith, suc-mul most (worth most n))

pub looks-top : (most : ℕ) (ls : List TableLoop) (outer : List OpenLoop) (o : OpenLoop) (l : TableLoop) → slice_get ls (length outer) ≡ Some l
    → looks_from most ls (outer ++ o ∷ []) ≡ o.budget * worth most (length (drop (suc (length outer)) ls)) + looks_from most ls outer
looks-top most [] outer o l e = absurd (no-loop (length outer) l e)
looks-top most (m ∷ ls) [] o l e = refl
looks-top most (m ∷ ls) (p ∷ outer) o l e =
    let r = looks-top most ls outer o l e in
    omega arith

-- ---- the loop at a depth

pub item-at : (loops : List TableLoop) (n depth : ℕ) (item : TableLoop) → depth ≡ n → n < length loops → item ≡ get_or loops depth item → slice_get loops n ≡ Some item
item-at loops n depth item e lt is = slice_get_read loops (length loops) n item refl lt (is ∙ ap (λ k. get_or loops k item) e)

pub next-inside : (n m d : ℕ) → d ≡ n → n < m → (d + 1 ≡ m → ⊥) → suc n < m
next-inside n m d e lt never = here (cases_lt (suc n) m)
  where
    here : (suc n < m) ⊎ (m ≤ suc n) → suc n < m
    here (inl h) = h
    here (inr h) = absurd (never (omega arith))

-- the item that an index reads
pub item-is : (loops : List TableLoop) (n depth : ℕ) (item of : TableLoop) → depth ≡ n → n < length loops → item ≡ get_or loops depth item → slice_get loops n ≡ Some of
    → get_or loops depth item ≡ of
item-is loops n depth item of e lt is at = sym is ∙ same-one item of (sym (item-at loops n depth item e lt is) ∙ at)
