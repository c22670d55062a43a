-- The places of a bound SELECT's columns.
use Rattle.std.proofs.Common.{◌≡◌, ◌<◌, ◌≤◌, ℕ, ◌+◌, ◌*◌, Bool, true, false, List, [], ◌∷◌, refl, sym, subst, length, ◌||◌, arith}
use Rattle.std.specs.Prelude.{slice_index}
use Rattle.std.proofs.lemmas.Bool.Decides.{nat_tests}
use Rattle.hg_bind.specs.Laws.{HasColumn, HaveColumns}
use Rattle.hg_expr.specs.Laws.{AggregatesNameNone, NamesNone}
use Rattle.hg_expr.specs.Slots.{ArePlaced, HasPlace, OfTable, is_named, key_of, names_key}
use Rattle.hg_model.specs.declared.trees.Node.{Node}
use Rattle.hg_model.specs.declared.trees.Node.TheVariants as node

pub or_elim : (b c : Bool) {P : Type 0} → (b || c) ≡ true → (b ≡ true → P) → (c ≡ true → P) → P
or_elim true c h f g = f refl
or_elim false c h f g = g h

module _ (widths : List ℕ) where
  -- the column of a key that some node names
  pub record IsColumnOf (key : ℕ) : Type 0 where
    pub place : ℕ × ℕ
    pub key_is : key_of place ≡ key
    pub table : place.0 < length widths
    pub column : place.1 < slice_index widths place.0

  names_column : (n : Node) (p : ℕ × ℕ) (key : ℕ) → HasColumn widths n p → names_key key n p ≡ true → IsColumnOf key
  names_column (node.Col c) p key h is = record { place = p; key_is = grind (arith, nat_tests); table = h.0; column = h.1 }
  names_column (node.Lit l) p key h is = absurd cc
  names_column (node.Neg a) p key h is = absurd cc
  names_column (node.Arith o a b) p key h is = absurd cc
  names_column (node.Compare o a b) p key h is = absurd cc
  names_column (node.Both a b) p key h is = absurd cc
  names_column (node.Either a b) p key h is = absurd cc
  names_column (node.Not a) p key h is = absurd cc
  names_column (node.IsNull a) p key h is = absurd cc
  names_column (node.NotNull a) p key h is = absurd cc
  names_column (node.Aggregate f a) p key h is = absurd cc

  named_column : (ns : List Node) (ps : List (ℕ × ℕ)) (key : ℕ) → HaveColumns widths ns ps → is_named ns ps key ≡ true → IsColumnOf key
  named_column [] ps key h is = absurd cc
  named_column (n ∷ ns) [] key h is = absurd h
  named_column (n ∷ ns) (p ∷ ps) key h is =
      or_elim (names_key key n p) (is_named ns ps key) is (names_column n p key h.0) (named_column ns ps key h.1)

  -- where no table has more than 16 columns, a key tells the place
  module _ (few : (t : ℕ) → slice_index widths t ≤ 16) where
    pub place_of_key : (place : ℕ × ℕ) (t i : ℕ) → place.1 < slice_index widths place.0 → i < 16 → key_of place ≡ 16 * t + i → (place.0 ≡ t) × (place.1 ≡ i)
    place_of_key place t i inside below is =
        let narrow = few place.0 in
        (omega (arith, narrow, inside, below, is), omega (arith, narrow, inside, below, is))

    pub named_inside : (ns : List Node) (ps : List (ℕ × ℕ)) → HaveColumns widths ns ps → (t i : ℕ) → i < 16 → is_named ns ps (16 * t + i) ≡ true
        → i < slice_index widths t
    named_inside ns ps h t i below is =
        let r = named_column ns ps (16 * t + i) h is in
        let same = place_of_key r.place t i r.column below r.key_is in
        subst (λ k. i < slice_index widths k) same.0 (subst (λ k. k < slice_index widths r.place.0) same.1 r.column)

    module _ (four : length widths ≤ 4) where
      has_place : (n : Node) (p : ℕ × ℕ) → HasColumn widths n p → HasPlace n p
      has_place (node.Col c) p h = let narrow = few p.0 in let inside = h.1 in let table = h.0 in OfTable (omega (arith, table, four)) (omega (arith, inside, narrow))
      has_place (node.Lit l) p h = tt
      has_place (node.Neg a) p h = tt
      has_place (node.Arith o a b) p h = tt
      has_place (node.Compare o a b) p h = tt
      has_place (node.Both a b) p h = tt
      has_place (node.Either a b) p h = tt
      has_place (node.Not a) p h = tt
      has_place (node.IsNull a) p h = tt
      has_place (node.NotNull a) p h = tt
      has_place (node.Aggregate f a) p h = tt

      pub have_places : (ns : List Node) (ps : List (ℕ × ℕ)) → HaveColumns widths ns ps → ArePlaced ns ps
      have_places [] [] h = tt
      have_places [] (p ∷ ps) h = absurd h
      have_places (n ∷ ns) [] h = absurd h
      have_places (n ∷ ns) (p ∷ ps) h = (has_place n p h.0, have_places ns ps h.1)

  pub names_none : (n : Node) (p : ℕ × ℕ) → HasColumn widths n p → NamesNone n p
  names_none (node.Aggregate f a) p h = λ e. let far : 64 ≤ 255 = omega arith in subst (λ (r : ℕ × ℕ). 64 ≤ r.1) (sym h) far
  names_none (node.Col c) p h = tt
  names_none (node.Lit l) p h = tt
  names_none (node.Neg a) p h = tt
  names_none (node.Arith o a b) p h = tt
  names_none (node.Compare o a b) p h = tt
  names_none (node.Both a b) p h = tt
  names_none (node.Either a b) p h = tt
  names_none (node.Not a) p h = tt
  names_none (node.IsNull a) p h = tt
  names_none (node.NotNull a) p h = tt

  pub name_none : (ns : List Node) (ps : List (ℕ × ℕ)) → HaveColumns widths ns ps → AggregatesNameNone ns ps
  name_none [] ps h = tt
  name_none (n ∷ ns) [] h = tt
  name_none (n ∷ ns) (p ∷ ps) h = (names_none n p h.0, name_none ns ps h.1)
