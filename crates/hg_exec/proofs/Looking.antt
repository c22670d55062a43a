-- What a look for the next row of a loop finds.
use Rattle.std.specs.Prelude.{◌≡◌, ℕ, ◌+◌, ◌-◌, ◌<◌, Bool, true, false, List, [], ◌∷◌, ◌++◌, length, Option, Some, None, unwrap_or, IsTrue, if◌then◌else◌}
use Rattle.std.specs.List.{AllByRecursion}
use Rattle.std.proofs.Common.{sym, ◌∙◌, ap, subst, refl, append_assoc, arith, inl, inr}
use Rattle.std.proofs.lemmas.Bool.{cases_Bool}
use Rattle.std.proofs.lemmas.Option.{none-some}
use Rattle.hg_base.specs.Causes.{HasCause}
use Rattle.hg_base.specs.Space.{Space}
use Rattle.hg_base.specs.Steadiness.{Steady}
use Rattle.hg_base.specs.declared.Check.{Check}
use Rattle.hg_base.specs.declared.PageId.{PageId}
use Rattle.hg_base.specs.declared.Place.{Place}
use Rattle.hg_base.specs.declared.Table.{Table}
use Rattle.hg_base.specs.declared.pages.PageFault.{PageFault}
use Rattle.hg_base.specs.declared.pages.PageFault.TheVariants as fault
use Rattle.hg_table.specs.Seen.{is_seen, row_of, seen_rows}
use Rattle.hg_table.specs.SeenLaws.{seen_rows-cons}
use Rattle.hg_model.specs.Tables.{fits_columns}
use Rattle.hg_model.specs.declared.trees.Column.{Column}
use Rattle.hg_model.specs.declared.values.Value.{Value}
use Rattle.hg_table.specs.Agreement.{IsTableOver, FitsColumns, over_stays}
use Rattle.hg_table.specs.Calls.{none_mine}
use Rattle.hg_table.specs.Kept.{none_of}
use Rattle.hg_table.specs.Places.{behind, first_seen, Finds as FindsFirst}
use Rattle.hg_table.specs.TableLaws.{behind-here}
use Rattle.hg_table.specs.Versions.{Placed, IsTable}
use Rattle.hg_exec.specs.Standing.{HasLeft}
use Rattle.hg_exec.specs.Turning.{Finds}

-- what the search says
abbrev pub Searched : Space → Table → ℕ → Option Place → (ℕ → Bool) → ℕ → Option Place → List Value → List Value → Type 0
Searched a t columns at c n next old new = (pages : List ℕ) (versions : List Placed) → IsTable a t columns pages versions
    → FindsFirst (first_seen c n (behind pages at versions)) next old new

-- the versions before the first that is seen show no row
record Splits (c : ℕ → Bool) (n : ℕ) (rest : List Placed) (v : Placed) : Type 0 where
  pub before : List Placed
  pub left : List Placed
  pub whole : rest ≡ before ++ v ∷ left
  pub rows : seen_rows c n rest ≡ row_of v ∷ seen_rows c n left

some-one : (x y : Placed) → ◌≡◌ {A = Option Placed} (Some x) (Some y) → x ≡ y
some-one x y e = cc

splits : (c : ℕ → Bool) (n : ℕ) (rest : List Placed) (v : Placed) → first_seen c n rest ≡ Some v → Splits c n rest v
splits c n [] v e = absurd (none-some v e)
splits c n (w ∷ ws) v e = here (is_seen c n w) refl (splits c n ws v)
  where
    is : (b : Bool) → is_seen c n w ≡ b → (if b then Some w else first_seen c n ws) ≡ Some v
    is b s = sym (ap (λ x. if x then Some w else first_seen c n ws) s) ∙ e

    rows : (b : Bool) → is_seen c n w ≡ b → seen_rows c n (w ∷ ws) ≡ (if b then row_of w ∷ seen_rows c n ws else seen_rows c n ws)
    rows b s = seen_rows-cons c n w ws ∙ ap (λ x. if x then row_of w ∷ seen_rows c n ws else seen_rows c n ws) s

    here : (b : Bool) → is_seen c n w ≡ b → (first_seen c n ws ≡ Some v → Splits c n ws v) → Splits c n (w ∷ ws) v
    here true s later = subst (Splits c n (w ∷ ws)) (some-one w v (is true s)) (record { before = []; left = ws; whole = refl; rows = rows true s })
    here false s later =
        let h : Splits c n ws v = later (is false s) in
        record { before = w ∷ h.before; left = h.left; whole = ap (λ r. w ∷ r) h.whole; rows = rows false s ∙ h.rows }

nothing-seen : (c : ℕ → Bool) (n : ℕ) (rest : List Placed) → first_seen c n rest ≡ None → seen_rows c n rest ≡ []
nothing-seen c n [] e = refl
nothing-seen c n (w ∷ ws) e = here (is_seen c n w) refl (nothing-seen c n ws)
  where
    is : (b : Bool) → is_seen c n w ≡ b → (if b then Some w else first_seen c n ws) ≡ None
    is b s = sym (ap (λ x. if x then Some w else first_seen c n ws) s) ∙ e

    rows : (b : Bool) → is_seen c n w ≡ b → seen_rows c n (w ∷ ws) ≡ (if b then row_of w ∷ seen_rows c n ws else seen_rows c n ws)
    rows b s = seen_rows-cons c n w ws ∙ ap (λ x. if x then row_of w ∷ seen_rows c n ws else seen_rows c n ws) s

    here : (b : Bool) → is_seen c n w ≡ b → (first_seen c n ws ≡ None → seen_rows c n ws ≡ []) → seen_rows c n (w ∷ ws) ≡ []
    here true s later = absurd (none-some w (sym (is true s)))
    here false s later = rows false s ∙ later (is false s)

first-there : (o : Option Placed) (place : Place) (old new : List Value) → FindsFirst o (Some place) old new
    → (v : Placed) × (o ≡ Some v) × (v.place ≡ place) × (new ≡ row_of v)
first-there None place old new h = absurd (none-some place (sym h.0))
first-there (Some v) place old new h = (v, refl, ap (λ o. unwrap_or o v.place) (sym h.0), h.1)

first-none : (o : Option Placed) (old new : List Value) → FindsFirst o None old new → o ≡ None
first-none None old new h = refl
first-none (Some v) old new h = absurd (none-some v.place h.0)

all-middle : {X : Type 0} (P : X → Type 0) (xs : List X) (v : X) (ys : List X) → AllByRecursion P (xs ++ v ∷ ys) → P v
all-middle P [] v ys p = p.0
all-middle P (x ∷ xs) v ys p = all-middle P xs v ys p.1

-- the version that a search found, among those that are left
record Found (a : Space) (c : ℕ → Bool) (n : ℕ) (t : Table) (columns : List Column) (pages : List ℕ) (left : List (List Value)) (place : Place) (row : List Value) : Type 0 where
  pub v : Placed
  pub before : List Placed
  pub after : List Placed
  pub here : v.place ≡ place
  pub row_is : row ≡ row_of v
  pub table : IsTableOver a t columns pages (before ++ v ∷ after)
  pub rows : left ≡ row ∷ seen_rows c n after

found-there : (a : Space) (t : Table) (columns : List Column) (at : Option Place) (c : ℕ → Bool) (n : ℕ) (place : Place) (old row : List Value) (budget : ℕ)
    → Searched a t (length columns) at c n (Some place) old row
    → (pages : List ℕ) (left : List (List Value)) → HasLeft a c n t columns pages at budget left → Found a c n t columns pages left place row
found-there a t columns at c n place old row budget searched pages left h =
    let found = subst (λ r. FindsFirst (first_seen c n r) (Some place) old row) h.behind (searched pages (h.done ++ h.rest) h.table.table) in
    let first = first-there (first_seen c n h.rest) place old row found in
    let s : Splits c n h.rest first.0 = splits c n h.rest first.0 first.1 in
    let whole : h.done ++ h.rest ≡ (h.done ++ s.before) ++ first.0 ∷ s.left = ap (λ r. h.done ++ r) s.whole ∙ sym (append_assoc h.done s.before (first.0 ∷ s.left)) in
    record {
      v = first.0;
      before = h.done ++ s.before;
      after = s.left;
      here = first.2;
      row_is = first.3;
      table = subst (IsTableOver a t columns pages) whole h.table;
      rows = h.seen ∙ s.rows ∙ ap (λ r. r ∷ seen_rows c n s.left) (sym first.3);
    }

-- a search finds a row
pub search-finds : (a b : Space) (t : Table) (columns : List Column) (at : Option Place) (c : ℕ → Bool) (n : ℕ) (place : Place) (old row : List Value) (budget start : ℕ)
    → Searched a t (length columns) at c n (Some place) old row → Steady none_mine a b
    → (pages : List ℕ) (left : List (List Value)) → HasLeft a c n t columns pages at budget left
    → Finds b c n t columns pages left row (record { at = Some place; budget = budget - 1; start = start })
search-finds a b t columns at c n place old row budget start searched steady pages left h =
    let f = found-there a t columns at c n place old row budget searched pages left h in
    let over : IsTableOver b t columns pages (f.before ++ f.v ∷ f.after) = over_stays none_mine a b t columns pages (f.before ++ f.v ∷ f.after) steady (none_of pages) f.table in
    let split : f.before ++ f.v ∷ f.after ≡ (f.before ++ f.v ∷ []) ++ f.after = sym (append_assoc f.before (f.v ∷ []) f.after) in
    let more : length left ≡ length (seen_rows c n f.after) + 1 = ap length f.rows ∙ omega arith in
    let few = h.few in
    record {
      rest = seen_rows c n f.after;
      is = f.rows;
      stands = record {
        done = f.before ++ f.v ∷ [];
        rest = f.after;
        table = subst (IsTableOver b t columns pages) split over;
        behind = ap (behind pages (Some place)) (sym split)
            ∙ subst (λ p. behind pages (Some p) (f.before ++ f.v ∷ f.after) ≡ f.after) f.here (behind-here b t (length columns) pages f.before f.v f.after over.table);
        few = omega arith;
        seen = refl;
      };
    }

-- a search finds nothing
pub search-ends : (a : Space) (t : Table) (columns : List Column) (at : Option Place) (c : ℕ → Bool) (n : ℕ) (old row : List Value) (budget : ℕ)
    → Searched a t (length columns) at c n None old row
    → (pages : List ℕ) (left : List (List Value)) → HasLeft a c n t columns pages at budget left → left ≡ []
search-ends a t columns at c n old row budget searched pages left h =
    h.seen ∙ nothing-seen c n h.rest (first-none (first_seen c n h.rest) old row
    (subst (λ r. FindsFirst (first_seen c n r) None old row) h.behind (searched pages (h.done ++ h.rest) h.table.table)))

-- what was found fits the columns of its table, and the budget was more than one
pub found-fits : (a : Space) (t : Table) (columns : List Column) (at : Option Place) (c : ℕ → Bool) (n : ℕ) (place : Place) (old row : List Value) (budget : ℕ)
    → Searched a t (length columns) at c n (Some place) old row
    → (pages : List ℕ) (left : List (List Value)) → HasLeft a c n t columns pages at budget left → fits_columns columns row ≡ true
found-fits a t columns at c n place old row budget searched pages left h =
    let f = found-there a t columns at c n place old row budget searched pages left h in
    subst (λ r. fits_columns columns r ≡ true) (sym f.row_is) (all-middle (FitsColumns columns) f.before f.v f.after f.table.fit)

pub found-more : (a : Space) (t : Table) (columns : List Column) (at : Option Place) (c : ℕ → Bool) (n : ℕ) (place : Place) (old row : List Value) (budget : ℕ)
    → Searched a t (length columns) at c n (Some place) old row
    → (pages : List ℕ) (left : List (List Value)) → HasLeft a c n t columns pages at budget left → budget ≡ 1 → ⊥
found-more a t columns at c n place old row budget searched pages left h one =
    let f = found-there a t columns at c n place old row budget searched pages left h in
    let more : length left ≡ length (seen_rows c n f.after) + 1 = ap length f.rows ∙ omega arith in
    let few = h.few in
    omega arith

-- what never comes where the space tells is found only where it does not
pub untold : (s : Space) → (s.told ≡ true → ⊥) → s.told ≡ false
untold s never = elim (cases_Bool s.told) [ inl i ↦ absurd (never i) | inr i ↦ i ]

-- damage that is found where the space does not tell has its cause
pub damaged-cause : (a b : Space) (f : PageFault) (page : PageId) (check : Check) → f ≡ fault.Damaged page check → HasCause a b None → a.told ≡ false → HasCause a b (Some f)
damaged-cause a b f page check is h told =
    subst (λ (e : PageFault). HasCause a b (Some e)) (sym is) (record { later = h.later; counts = h.counts; damage = told })
