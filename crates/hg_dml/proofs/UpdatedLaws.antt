-- What snapshots see of versions that were changed: those that go were deleted, and the rows that are made of them
-- joined.
use Rattle.std.specs.Prelude.{◌≡◌, ℕ, ◌≤◌, ◌||◌, not, nat_lt, Bool, true, false, List, [], ◌∷◌, ◌++◌, length, map, if◌then◌else◌}
use Rattle.std.specs.List.{AllByRecursion, filter, count_by, list_any}
use Rattle.std.specs.List.Sorted.{IsPermutation}
use Rattle.std.proofs.Common.{sym, ◌∙◌, ap, subst, refl, arith}
use Rattle.std.proofs.lemmas.Bool.{false≢true}
use Rattle.std.proofs.lemmas.Bool.Decides.{nat_tests}
use Rattle.std.proofs.lemmas.List.{length-map}
use Rattle.std.proofs.lemmas.List.Sums.{length-filter}
use Rattle.std.proofs.lemmas.List.Sorted.{IsPermutation-refl, IsPermutation-trans, IsPermutation-middle, IsPermutation-cons}
use Rattle.hg_model.specs.Changes.{row_length}
use Rattle.hg_model.specs.Tables.{fits_columns}
use Rattle.hg_model.specs.declared.trees.Column.{Column}
use Rattle.hg_model.specs.declared.values.Value.{Value}
use Rattle.hg_table.specs.Versions.{Placed}
use Rattle.hg_value.specs.Coding.{IsStorable}
use Rattle.hg_value.specs.Laws.{RowsAreAsLong}
use Rattle.hg_dml.specs.Deleting.{Concerns, IsHidden, IsDeleted}
use Rattle.hg_dml.specs.Making.{made_by, IsChange, AreCauses, stand}
use Rattle.hg_dml.specs.Putting.{Joined}
use Rattle.hg_table.specs.Seen.{seen_rows}
use Rattle.hg_dml.specs.Steps.{IsShort}
use Rattle.hg_dml.specs.Updating.{IsUpdated, IsHiddenUpTo}
use Rattle.hg_dml.specs.UpdateSteps.{AreStorable}
use Rattle.hg_dml.specs.declared.making.Causes.{Causes}
use Rattle.hg_dml.specs.declared.making.Change.{Change}
use Rattle.hg_dml.proofs.Fits.{fit-rows}
use Rattle.hg_dml.proofs.MakingLaws.{none-stands, no-null, no-misfit, made-length, fits-length}

-- ---- the rows

module _ (goes : List Value → Bool) (f : List Value → List Value) where
  abbrev stay : List (List Value) → List (List Value)
  stay rows = filter (λ row. not (goes row)) rows

  abbrev set : List Value → List Value
  set row = if goes row then f row else row

  -- the rows that stay, with those that are made of the others, are the rows that are made of all
  pub permuted : (xs : List (List Value)) → IsPermutation (stay xs ++ map f (filter goes xs)) (map set xs)
  permuted [] = IsPermutation-refl []
  permuted (x ∷ xs) = by (goes x) (permuted xs)
    where
      by : (b : Bool) → IsPermutation (stay xs ++ map f (filter goes xs)) (map set xs)
          → IsPermutation ((if not b then x ∷ stay xs else stay xs) ++ map f (if b then x ∷ filter goes xs else filter goes xs)) ((if b then f x else x) ∷ map set xs)
      by true p =
          IsPermutation-trans (stay xs ++ f x ∷ map f (filter goes xs)) (f x ∷ (stay xs ++ map f (filter goes xs))) (f x ∷ map set xs)
          (IsPermutation-middle (stay xs) (f x) (map f (filter goes xs))) (IsPermutation-cons (f x) (stay xs ++ map f (filter goes xs)) (map set xs) p)
      by false p = IsPermutation-cons x (stay xs ++ map f (filter goes xs)) (map set xs) p

-- two ways to make rows, which are one on the rows that a change concerns
module _ (columns : List Column) (goes : List Value → Bool) (f g : List Value → List Value) (same : (row : List Value) → fits_columns columns row ≡ true → f row ≡ g row) where
  pub same-made : (gone : List (List Value)) → AllByRecursion (Concerns columns goes) gone → map f gone ≡ map g gone
  same-made [] h = refl
  same-made (x ∷ xs) h = ap (λ r. r ∷ map f xs) (same x h.0.fits) ∙ ap (λ l. g x ∷ l) (same-made xs h.1)

  pub same-set : (xs : List (List Value)) → AllByRecursion (Concerns columns goes) (filter goes xs) → map (λ row. if goes row then f row else row) xs ≡ map (λ row. if goes row then g row else row) xs
  same-set [] h = refl
  same-set (x ∷ xs) h = by (goes x) h (same-set xs)
    where
      by : (b : Bool) → AllByRecursion (Concerns columns goes) (if b then x ∷ filter goes xs else filter goes xs)
          → (AllByRecursion (Concerns columns goes) (filter goes xs) → map (λ row. if goes row then f row else row) xs ≡ map (λ row. if goes row then g row else row) xs)
          → ◌≡◌ {A = List (List Value)} ((if b then f x else x) ∷ map (λ row. if goes row then f row else row) xs) ((if b then g x else x) ∷ map (λ row. if goes row then g row else row) xs)
      by true h rest = ap (λ r. r ∷ map (λ row. if goes row then f row else row) xs) (same x h.0.fits) ∙ ap (λ l. g x ∷ l) (rest h.1)
      by false h rest = ap (λ l. x ∷ l) (rest h)

-- ---- what snapshots see

pub updated : (c : ℕ → Bool) (s stamp : ℕ) (goes : List Value → Bool) (f : List Value → List Value) (old mid new : List Placed) (n : ℕ) (rows : List (List Value))
    → IsDeleted c s stamp goes old mid n → Joined stamp mid new rows → rows ≡ map f (filter goes (seen_rows c s old)) → IsUpdated c s stamp goes f old new
updated c s stamp goes f old mid new n rows d j is = record {
  unseen = λ marks other agree missed past. j.unseen marks other missed ∙ d.hidden.unseen marks other agree missed past;
  seen = λ marks later agree shown behind past.
      let stayed : seen_rows marks later mid ≡ filter (λ row. not (goes row)) (seen_rows c s old) = d.seen marks later agree shown behind past in
      let one : IsPermutation (seen_rows marks later new) (seen_rows marks later mid ++ rows) = j.seen marks later shown behind in
      let two : IsPermutation (seen_rows marks later new) (filter (λ row. not (goes row)) (seen_rows c s old) ++ map f (filter goes (seen_rows c s old))) =
      subst (λ l. IsPermutation (seen_rows marks later new) (l ++ map f (filter goes (seen_rows c s old)))) stayed
      (subst (λ l. IsPermutation (seen_rows marks later new) (seen_rows marks later mid ++ l)) is one) in
      IsPermutation-trans (seen_rows marks later new) (filter (λ row. not (goes row)) (seen_rows c s old) ++ map f (filter goes (seen_rows c s old))) (map (λ row. if goes row then f row else row) (seen_rows c s old))
      two (permuted goes f (seen_rows c s old));
  past = λ last later past. j.past last later (d.hidden.past last later past);
  count =
      let more = j.count in
      let kept = d.hidden.count in
      let many : length rows ≡ count_by goes (seen_rows c s old) = ap length is ∙ length-map (filter goes (seen_rows c s old)) f ∙ length-filter goes (seen_rows c s old) in
      omega arith;
}

-- of another function that makes the same rows
pub updated-as : (c : ℕ → Bool) (s stamp : ℕ) (goes : List Value → Bool) (f g : List Value → List Value) (old new : List Placed)
    → map (λ row. if goes row then f row else row) (seen_rows c s old) ≡ map (λ row. if goes row then g row else row) (seen_rows c s old)
    → IsUpdated c s stamp goes f old new → IsUpdated c s stamp goes g old new
updated-as c s stamp goes f g old new same u = record {
  unseen = u.unseen;
  seen = λ marks later agree shown behind past. subst (IsPermutation (seen_rows marks later new)) same (u.seen marks later agree shown behind past);
  past = u.past;
  count = u.count;
}

-- some were changed
pub hidden-up-to : (c : ℕ → Bool) (s stamp : ℕ) (old mid new : List Placed) (rows : List (List Value)) (most : ℕ) → IsHidden c s stamp old mid → Joined stamp mid new rows → length rows ≤ most
    → IsHiddenUpTo c s stamp most old new
hidden-up-to c s stamp old mid new rows most h j less = record {
  unseen = λ marks other agree missed past. j.unseen marks other missed ∙ h.unseen marks other agree missed past;
  past = λ last later past. j.past last later (h.past last later past);
  not_fewer = let more = j.count in let kept = h.count in omega arith;
  few = let more = j.count in let kept = h.count in omega arith;
}

pub hidden-none : (c : ℕ → Bool) (s stamp : ℕ) (old new : List Placed) (most : ℕ) → IsHidden c s stamp old new → IsHiddenUpTo c s stamp most old new
hidden-none c s stamp old new most h = record {
  unseen = h.unseen;
  past = h.past;
  not_fewer = let kept = h.count in omega arith;
  few = let kept = h.count in omega arith;
}

-- ---- rows against which nothing stands may be put into the table

or-left : (a b : Bool) → (a || b) ≡ false → a ≡ false
or-left true b h = h
or-left false b h = refl

or-right : (a b : Bool) → (a || b) ≡ false → b ≡ false
or-right true b h = absurd (false≢true (sym h))
or-right false b h = h

not-long : (n : ℕ) → nat_lt 1000 n ≡ false → n ≤ 1000
not-long n h = grind (arith, nat_tests)

short-rows : RowsAreAsLong → (rows : List (List Value)) → AllByRecursion IsStorable rows → list_any (λ row. nat_lt 1000 (row_length row)) rows ≡ false → AllByRecursion IsShort rows
short-rows long [] s h = tt
short-rows long (r ∷ rs) s h = (
  record { storable = s.0; short = omega (arith, long r, not-long (row_length r) (or-left (nat_lt 1000 (row_length r)) (list_any (λ row. nat_lt 1000 (row_length row)) rs) h)) },
  short-rows long rs s.1 (or-right (nat_lt 1000 (row_length r)) (list_any (λ row. nat_lt 1000 (row_length row)) rs) h),
)

made-lengths : (change : Change) (gone : List (List Value)) (goes : List Value → Bool) → IsChange change → AllByRecursion (Concerns change.columns.now goes) gone
    → AllByRecursion (λ row. length row ≡ length change.columns.now) (map (made_by change) gone)
made-lengths change [] goes is h = tt
made-lengths change (x ∷ xs) goes is h = (made-length change x is (fits-length change.columns.now x h.0.fits), made-lengths change xs goes is h.1)

pub storable-rows : RowsAreAsLong → (change : Change) (goes : List Value → Bool) (gone rows : List (List Value)) (causes : Causes) → IsChange change → AllByRecursion (Concerns change.columns.now goes) gone
    → AreCauses change.columns.now (map (made_by change) gone) causes → stand causes ≡ false → rows ≡ map (made_by change) gone → AllByRecursion IsStorable rows → AreStorable change.columns.now rows
storable-rows long change goes gone rows causes is each are none same storable =
    let n = none-stands causes none in
    subst (AreStorable change.columns.now) (sym same) (record {
      fit = fit-rows change.columns.now (map (made_by change) gone) (made-lengths change gone goes is each)
          (no-null change.columns.now (map (made_by change) gone) causes are n.0) (no-misfit change.columns.now (map (made_by change) gone) causes are n.1);
      short = short-rows long (map (made_by change) gone) (subst (AllByRecursion IsStorable) same storable) (sym are.long ∙ n.2);
    })
