-- What snapshots see of versions some of which were deleted under one stamp.
use Rattle.std.specs.Prelude.{◌≡◌, ℕ, ◌<◌, ◌≤◌, ◌&&◌, ◌||◌, not, nat_lt, nat_le, Bool, true, false, List, [], ◌∷◌, ◌++◌, length, Option, Some, None, MatchOption, ⊤, if◌then◌else◌}
use Rattle.std.specs.List.{AllByRecursion, filter}
use Rattle.std.specs.Cmp.{first_so, second_so}
use Rattle.std.proofs.Common.{sym, ◌∙◌, ap, refl, arith, inl, inr, length-append}
use Rattle.std.proofs.lemmas.Bool.{false≢true, cases_Bool}
use Rattle.std.proofs.lemmas.List.{append-nil, map-append, length-map}
use Rattle.std.proofs.lemmas.List.Elements.{filter-append}
use Rattle.std.proofs.lemmas.List.Sums.{length-filter}
use Rattle.hg_model.specs.Visible.{is_alive}
use Rattle.hg_model.specs.declared.values.Value.{Value}
use Rattle.hg_table.specs.Sightings.{IsUnseen}
use Rattle.hg_table.specs.Versions.{Placed}
use Rattle.hg_dml.specs.Deleting.{dead, is_going, deleted_at, deleted, AgreeUpTo, IsHidden, IsDeleted}
use Rattle.hg_table.specs.Seen.{is_seen, row_of, seen_rows, IsPast, Misses}
use Rattle.hg_table.specs.SeenLaws.{lt-no, lt-yes, seen-later, seen_rows-cons, seen_rows-append}

either-first : (a b : Bool) → (a || b) ≡ true → b ≡ false → a ≡ true
either-first true b h no_b = refl
either-first false b h no_b = absurd (false≢true (sym no_b ∙ h))

either-last : (a b : Bool) → b ≡ true → (a || b) ≡ true
either-last true b h = refl
either-last false b h = h

not-so : (a : Bool) → not a ≡ true → a ≡ false
not-so true h = absurd (false≢true h)
not-so false h = refl

both-none : (a b c : Bool) → c ≡ false → (a && (b && c)) ≡ false
both-none true true c h = h
both-none true false c h = refl
both-none false b c h = refl

-- a death that is missed, and one that was not seen before
alive-missed : (marks : ℕ → Bool) (other stamp : ℕ) → Misses marks other stamp → is_alive marks other (Some stamp) ≡ true
alive-missed marks other stamp m = elim m [
  | inl hidden ↦ ap (λ b. not b || nat_lt other stamp) hidden
  | inr earlier ↦ either-last (not (marks stamp)) (nat_lt other stamp) (lt-yes other stamp earlier)
]

alive-kept : (marks c : ℕ → Bool) (s other : ℕ) (died : Option ℕ) → AgreeUpTo s marks c → MatchOption died ⊤ (λ d. d ≤ s)
    → is_alive c s died ≡ true → is_alive marks other died ≡ true
alive-kept marks c s other None agree past h = refl
alive-kept marks c s other (Some d) agree past h =
    let unset : c d ≡ false = not-so (c d) (either-first (not (c d)) (nat_lt s d) h (lt-no s d past)) in
    ap (λ b. not b || nat_lt other d) (agree d past ∙ unset)

module _ (c : ℕ → Bool) (s stamp : ℕ) (goes : List Value → Bool) where
  deleted-going : (v : Placed) → is_going c s goes v ≡ true → deleted_at c s stamp goes v ≡ dead stamp v
  deleted-going v h = ap (λ b. if b then dead stamp v else v) h

  pub deleted-stays : (v : Placed) → is_going c s goes v ≡ false → deleted_at c s stamp goes v ≡ v
  deleted-stays v h = ap (λ b. if b then dead stamp v else v) h

  pub deleted-seen : (v : Placed) → is_seen c s v ≡ true → goes (row_of v) ≡ true → deleted_at c s stamp goes v ≡ dead stamp v
  deleted-seen v seen gone = deleted-going v (ap (λ b. b && goes (row_of v)) seen ∙ gone)

  pub deleted-kept : (v : Placed) → is_seen c s v ≡ true → goes (row_of v) ≡ false → deleted_at c s stamp goes v ≡ v
  deleted-kept v seen kept = deleted-stays v (ap (λ b. b && goes (row_of v)) seen ∙ kept)

  deleted-unseen : (v : Placed) → is_seen c s v ≡ false → deleted_at c s stamp goes v ≡ v
  deleted-unseen v unseen = deleted-stays v (ap (λ b. b && goes (row_of v)) unseen)

  pub none-deleted : (vs : List Placed) → AllByRecursion (IsUnseen c s) vs → deleted c s stamp goes vs ≡ vs
  none-deleted [] h = refl
  none-deleted (v ∷ vs) h = ap (λ w. w ∷ deleted c s stamp goes vs) (deleted-unseen v h.0) ∙ ap (λ ws. v ∷ ws) (none-deleted vs h.1)

  pub deleted-append : (xs ys : List Placed) → deleted c s stamp goes (xs ++ ys) ≡ deleted c s stamp goes xs ++ deleted c s stamp goes ys
  deleted-append xs ys = map-append (deleted_at c s stamp goes) xs ys

  row-kept : (v : Placed) → row_of (deleted_at c s stamp goes v) ≡ row_of v
  row-kept v = elim (is_going c s goes v) as (λ b. row_of (if b then dead stamp v else v) ≡ row_of v) [ true ↦ refl | false ↦ refl ]

  -- who misses the stamp sees no change
  module _ (marks : ℕ → Bool) (other : ℕ) (agree : AgreeUpTo s marks c) (missed : Misses marks other stamp) where
    unseen-going : (v : Placed) → IsPast s v → is_going c s goes v ≡ true → is_seen marks other (dead stamp v) ≡ is_seen marks other v
    unseen-going v past going =
        let seen : is_seen c s v ≡ true = first_so (is_seen c s v) (goes (row_of v)) going in
        let alive : is_alive c s v.version.died ≡ true =
        second_so (nat_le v.version.born s) (is_alive c s v.version.died)
        (second_so (c v.version.born) (nat_le v.version.born s && is_alive c s v.version.died) seen) in
        ap (λ b. marks v.version.born && (nat_le v.version.born other && b))
        (alive-missed marks other stamp missed ∙ sym (alive-kept marks c s other v.version.died agree past.died alive))

    unseen-one : (v : Placed) → IsPast s v → is_seen marks other (deleted_at c s stamp goes v) ≡ is_seen marks other v
    unseen-one v past = elim (cases_Bool (is_going c s goes v)) [
      | inl going ↦ ap (is_seen marks other) (deleted-going v going) ∙ unseen-going v past going
      | inr stays ↦ ap (is_seen marks other) (deleted-stays v stays)
    ]

    unseen-all : (vs : List Placed) → AllByRecursion (IsPast s) vs → seen_rows marks other (deleted c s stamp goes vs) ≡ seen_rows marks other vs
    unseen-all [] past = refl
    unseen-all (v ∷ vs) past =
        seen_rows-cons marks other (deleted_at c s stamp goes v) (deleted c s stamp goes vs)
        ∙ ap (λ b. if b then row_of (deleted_at c s stamp goes v) ∷ seen_rows marks other (deleted c s stamp goes vs) else seen_rows marks other (deleted c s stamp goes vs)) (unseen-one v past.0)
        ∙ ap (λ r. if is_seen marks other v then r ∷ seen_rows marks other (deleted c s stamp goes vs) else seen_rows marks other (deleted c s stamp goes vs)) (row-kept v)
        ∙ ap (λ rs. if is_seen marks other v then row_of v ∷ rs else rs) (unseen-all vs past.1)
        ∙ sym (seen_rows-cons marks other v vs)

  -- who sees the stamp sees the rows that stay
  module _ (marks : ℕ → Bool) (later : ℕ) (before : s < stamp) (agree : AgreeUpTo s marks c) (shown : marks stamp ≡ true) (behind : stamp ≤ later) where
    abbrev stay : List (List Value) → List (List Value)
    stay rows = filter (λ row. not (goes row)) rows

    dead-unseen : (v : Placed) → is_seen marks later (dead stamp v) ≡ false
    dead-unseen v =
        both-none (marks v.version.born) (nat_le v.version.born later) (is_alive marks later (Some stamp))
        (ap (λ b. not b || nat_lt later stamp) shown ∙ lt-no later stamp behind)

    seen-still : (v : Placed) → IsPast s v → is_seen marks later v ≡ is_seen c s v
    seen-still v past = seen-later c marks s later v agree (omega (arith, before, behind)) past

    left-over : (v : Placed) (rows : List (List Value)) → goes (row_of v) ≡ false → stay (row_of v ∷ rows) ≡ row_of v ∷ stay rows
    left-over v rows h = ap (λ b. if not b then row_of v ∷ stay rows else stay rows) h

    left-out : (v : Placed) (rows : List (List Value)) → goes (row_of v) ≡ true → stay (row_of v ∷ rows) ≡ stay rows
    left-out v rows h = ap (λ b. if not b then row_of v ∷ stay rows else stay rows) h

    pub seen-all : (vs : List Placed) → AllByRecursion (IsPast s) vs → seen_rows marks later (deleted c s stamp goes vs) ≡ stay (seen_rows c s vs)
    seen-all [] past = refl
    seen-all (v ∷ vs) past = elim (cases_Bool (is_seen c s v)) [
      | inr unseen ↦
          seen_rows-cons marks later (deleted_at c s stamp goes v) (deleted c s stamp goes vs)
          ∙ ap (λ w. if is_seen marks later w then row_of w ∷ seen_rows marks later (deleted c s stamp goes vs) else seen_rows marks later (deleted c s stamp goes vs)) (deleted-unseen v unseen)
          ∙ ap (λ b. if b then row_of v ∷ seen_rows marks later (deleted c s stamp goes vs) else seen_rows marks later (deleted c s stamp goes vs)) (seen-still v past.0 ∙ unseen)
          ∙ seen-all vs past.1
          ∙ ap stay (sym (seen_rows-cons c s v vs ∙ ap (λ b. if b then row_of v ∷ seen_rows c s vs else seen_rows c s vs) unseen))
      | inl seen ↦ elim (cases_Bool (goes (row_of v))) [
        | inl gone ↦
            seen_rows-cons marks later (deleted_at c s stamp goes v) (deleted c s stamp goes vs)
            ∙ ap (λ w. if is_seen marks later w then row_of w ∷ seen_rows marks later (deleted c s stamp goes vs) else seen_rows marks later (deleted c s stamp goes vs)) (deleted-seen v seen gone)
            ∙ ap (λ b. if b then row_of v ∷ seen_rows marks later (deleted c s stamp goes vs) else seen_rows marks later (deleted c s stamp goes vs)) (dead-unseen v)
            ∙ seen-all vs past.1
            ∙ sym (left-out v (seen_rows c s vs) gone)
            ∙ ap stay (sym (seen_rows-cons c s v vs ∙ ap (λ b. if b then row_of v ∷ seen_rows c s vs else seen_rows c s vs) seen))
        | inr kept ↦
            seen_rows-cons marks later (deleted_at c s stamp goes v) (deleted c s stamp goes vs)
            ∙ ap (λ w. if is_seen marks later w then row_of w ∷ seen_rows marks later (deleted c s stamp goes vs) else seen_rows marks later (deleted c s stamp goes vs)) (deleted-kept v seen kept)
            ∙ ap (λ b. if b then row_of v ∷ seen_rows marks later (deleted c s stamp goes vs) else seen_rows marks later (deleted c s stamp goes vs)) (seen-still v past.0 ∙ seen)
            ∙ ap (λ rs. row_of v ∷ rs) (seen-all vs past.1)
            ∙ sym (left-over v (seen_rows c s vs) kept)
            ∙ ap stay (sym (seen_rows-cons c s v vs ∙ ap (λ b. if b then row_of v ∷ seen_rows c s vs else seen_rows c s vs) seen))
      ]
    ]

  past-deleted : (last : ℕ) (vs : List Placed) → stamp ≤ last → AllByRecursion (IsPast last) vs → AllByRecursion (IsPast last) (deleted c s stamp goes vs)
  past-deleted last [] later past = tt
  past-deleted last (v ∷ vs) later past = (
    elim (is_going c s goes v) as (λ b. IsPast last (if b then dead stamp v else v)) [ true ↦ record { born = past.0.born; died = later } | false ↦ past.0 ],
    past-deleted last vs later past.1,
  )

all-first : {X : Type 0} (P : X → Type 0) (xs ys : List X) → AllByRecursion P (xs ++ ys) → AllByRecursion P xs
all-first P [] ys h = tt
all-first P (x ∷ xs) ys h = (h.0, all-first P xs ys h.1)

all-last : {X : Type 0} (P : X → Type 0) (xs ys : List X) → AllByRecursion P (xs ++ ys) → AllByRecursion P ys
all-last P [] ys h = h
all-last P (x ∷ xs) ys h = all-last P xs ys h.1

pub all-append : {X : Type 0} (P : X → Type 0) (xs ys : List X) → AllByRecursion P xs → AllByRecursion P ys → AllByRecursion P (xs ++ ys)
all-append P [] ys p q = q
all-append P (x ∷ xs) ys p q = (p.0, all-append P xs ys p.1 q)

module _ (c : ℕ → Bool) (s stamp : ℕ) (goes : List Value → Bool) where
  abbrev gone : List Placed → List Placed
  gone vs = deleted c s stamp goes vs

  -- of the versions the first ones were deleted
  pub hidden-first : (done left : List Placed) → IsHidden c s stamp (done ++ left) (gone done ++ left)
  hidden-first done left = record {
    unseen = λ marks other agree missed past.
        seen_rows-append marks other (gone done) left
        ∙ ap (λ rs. rs ++ seen_rows marks other left) (unseen-all c s stamp goes marks other agree missed done (all-first (IsPast s) done left past))
        ∙ sym (seen_rows-append marks other done left);
    past = λ last later past.
        all-append (IsPast last) (gone done) left (past-deleted c s stamp goes last done later (all-first (IsPast last) done left past)) (all-last (IsPast last) done left past);
    count = omega (arith, length-append (gone done) left, length-append done left, length-map done (deleted_at c s stamp goes));
  }

  none-seen : (vs : List Placed) → AllByRecursion (IsUnseen c s) vs → seen_rows c s vs ≡ []
  none-seen [] h = refl
  none-seen (v ∷ vs) h = seen_rows-cons c s v vs ∙ ap (λ b. if b then row_of v ∷ seen_rows c s vs else seen_rows c s vs) h.0 ∙ none-seen vs h.1

  -- the rows that go do not grow by versions that are not seen
  pub going-unseen : (done left : List Placed) → AllByRecursion (IsUnseen c s) left
      → filter goes (seen_rows c s (done ++ left)) ≡ filter goes (seen_rows c s done)
  going-unseen done left none =
      ap (filter goes) (seen_rows-append c s done left ∙ ap (λ rs. seen_rows c s done ++ rs) (none-seen left none) ∙ append-nil (seen_rows c s done))

  -- one version more that is seen, behind others that are not
  pub going-next : (done before : List Placed) (v : Placed) → AllByRecursion (IsUnseen c s) before → is_seen c s v ≡ true
      → filter goes (seen_rows c s ((done ++ before) ++ v ∷ [])) ≡ filter goes (seen_rows c s done) ++ (if goes (row_of v) then row_of v ∷ [] else [])
  going-next done before v none seen =
      let one : seen_rows c s (v ∷ []) ≡ row_of v ∷ [] = seen_rows-cons c s v [] ∙ ap (λ b. if b then row_of v ∷ [] else []) seen in
      ap (filter goes) (seen_rows-append c s (done ++ before) (v ∷ []) ∙ ap (λ rs. seen_rows c s (done ++ before) ++ rs) one)
      ∙ filter-append goes (seen_rows c s (done ++ before)) (row_of v ∷ [])
      ∙ ap (λ l. l ++ (if goes (row_of v) then row_of v ∷ [] else [])) (going-unseen done before none)

  -- all were deleted where none of those that are left is seen
  pub deleted-all : (done left : List Placed) (n : ℕ) → s < stamp → AllByRecursion (IsUnseen c s) left → n ≡ length (filter goes (seen_rows c s (done ++ left)))
      → IsDeleted c s stamp goes (done ++ left) (gone done ++ left) n
  deleted-all done left n before none count = record {
    hidden = hidden-first done left;
    seen = λ marks later agree shown behind past.
        let whole : gone (done ++ left) ≡ gone done ++ left = deleted-append c s stamp goes done left ∙ ap (λ l. gone done ++ l) (none-deleted c s stamp goes left none) in
        ap (seen_rows marks later) (sym whole) ∙ seen-all c s stamp goes marks later before agree shown behind (done ++ left) past;
    number = count ∙ length-filter goes (seen_rows c s (done ++ left));
  }
