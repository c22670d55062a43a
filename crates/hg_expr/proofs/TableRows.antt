-- A row of the named columns of small rows is small, and fits.
use Rattle.std.proofs.Common.{◌≡◌, ℕ, zero, suc, ◌+◌, ◌*◌, ◌<◌, ◌≤◌, Bool, true, false, List, [], ◌∷◌, ◌++◌, length, refl, sym, ap, ◌∙◌, subst, arith}
use Rattle.std.specs.Prelude.{◌==◌, ◌&&◌, if◌then◌else◌}
use Rattle.std.specs.Cmp.{first_so, second_so}
use Rattle.std.specs.List.{list_all, list_any}
use Rattle.std.proofs.lemmas.Bool.Decides.{nat_tests}
use Rattle.std.proofs.lemmas.List.Folds.{list_all-append}
use Rattle.hg_model.specs.Evaluation.{value_at}
use Rattle.hg_model.specs.SelectMeaning.{is_aggregate}
use Rattle.hg_model.specs.Width.{is_small, is_small_row}
use Rattle.hg_model.specs.declared.values.Value.{Value}
use Rattle.hg_model.specs.declared.trees.Node.{Node}
use Rattle.hg_model.specs.declared.trees.Node.TheVariants as node
use Rattle.hg_value.specs.Looks.{chosen}
use Rattle.hg_expr.proofs.Fitting.{rows_fit}
use Rattle.hg_expr.proofs.Holding.{held_short}
use Rattle.hg_expr.specs.Laws.{IsBehind, AggregatesAreBehind, NamesNone, AggregatesNameNone, NoAggregatesStand, TableRowsFit, held_from, held}
use Rattle.hg_expr.specs.Over.{RowFits}
use Rattle.hg_expr.specs.Slots.{named_columns, slot_at, slots_from, slots_of, ArePlaced}

small_value : (row : List Value) (c : ℕ) → is_small_row row ≡ true → is_small (value_at row c) ≡ true
small_value [] c h = refl
small_value (v ∷ row) zero h = first_so (is_small v) (is_small_row row) h
small_value (v ∷ row) (suc c) h = small_value row c (second_so (is_small v) (is_small_row row) h)

and_so : (a b : Bool) → a ≡ true → b ≡ true → a && b ≡ true
and_so true b h g = g
and_so false b h g = absurd cc

small_chosen : (row : List Value) (cs : List ℕ) → is_small_row row ≡ true → is_small_row (chosen row cs) ≡ true
small_chosen row [] h = refl
small_chosen row (c ∷ cs) h = and_so (is_small (value_at row c)) (is_small_row (chosen row cs)) (small_value row c h) (small_chosen row cs h)

small_held : (ns : List Node) (ps : List (ℕ × ℕ)) (rows : List (List Value)) (t : ℕ) → list_all is_small_row rows ≡ true → is_small_row (held_from ns ps t rows) ≡ true
small_held ns ps [] t h = refl
small_held ns ps (row ∷ rows) t h =
    let mine : List Value = chosen row (named_columns ns ps t) in
    list_all-append is_small mine (held_from ns ps (suc t) rows)
    ∙ and_so (is_small_row mine) (is_small_row (held_from ns ps (suc t) rows))
    (small_chosen row (named_columns ns ps t) (first_so (is_small_row row) (list_all is_small_row rows) h))
    (small_held ns ps rows (suc t) (second_so (is_small_row row) (list_all is_small_row rows) h))

slots_length : (all : List Node) (places : List (ℕ × ℕ)) (ns : List Node) (ps : List (ℕ × ℕ)) → ArePlaced ns ps → length (slots_from all places ns ps) ≡ length ns
slots_length all places [] ps h = refl
slots_length all places (n ∷ ns) [] h = absurd h
slots_length all places (n ∷ ns) (p ∷ ps) h = ap suc (slots_length all places ns ps h.1)

far : (p : ℕ × ℕ) (b : Bool) → (p.0 == 255) ≡ b → (p.0 ≡ 255 → 64 ≤ p.1) → 64 ≤ (if p.0 == 255 then p.1 else 255)
far p true e h = let is : p.0 ≡ 255 = grind (arith, nat_tests) in subst (λ b. 64 ≤ (if b then p.1 else 255)) (sym e) (h is)
far p false e h = let low : 64 ≤ 255 = omega arith in subst (λ b. 64 ≤ (if b then p.1 else 255)) (sym e) low

module _ (all : List Node) (places : List (ℕ × ℕ)) (width : ℕ) (short : width ≤ 64) where
  behind : (n : Node) (p : ℕ × ℕ) → NamesNone n p → IsBehind width n (slot_at all places n p)
  behind (node.Lit l) p h = tt
  behind (node.Col c) p h = tt
  behind (node.Neg a) p h = tt
  behind (node.Arith o a b) p h = tt
  behind (node.Compare o a b) p h = tt
  behind (node.Both a b) p h = tt
  behind (node.Either a b) p h = tt
  behind (node.Not a) p h = tt
  behind (node.IsNull a) p h = tt
  behind (node.NotNull a) p h = tt
  behind (node.Aggregate f a) p h = omega (arith, far p (p.0 == 255) refl h, short)

  all_behind : (ns : List Node) (ps : List (ℕ × ℕ)) → AggregatesNameNone ns ps → AggregatesAreBehind width ns (slots_from all places ns ps)
  all_behind [] ps h = tt
  all_behind (n ∷ ns) [] h = tt
  all_behind (n ∷ ns) (p ∷ ps) h = (behind n p h.0, all_behind ns ps h.1)

pub table_rows_fit : TableRowsFit
unfolding slots_of
table_rows_fit nodes places rows few small placed none =
    rows_fit nodes (slots_from nodes places nodes places) (held nodes places rows) (slots_length nodes places nodes places placed)
    (small_held nodes places rows 0 small)
    (all_behind nodes places (length (held nodes places rows)) (omega (arith, few, held_short nodes places rows 0)) nodes places none)

none_behind : (ns : List Node) → list_any is_aggregate ns ≡ false → (width : ℕ) (ss : List ℕ) → AggregatesAreBehind width ns ss
none_behind [] h width ss = tt
none_behind (n ∷ ns) h width [] = tt
none_behind (node.Lit l ∷ ns) h width (s ∷ ss) = (tt, none_behind ns h width ss)
none_behind (node.Col c ∷ ns) h width (s ∷ ss) = (tt, none_behind ns h width ss)
none_behind (node.Neg a ∷ ns) h width (s ∷ ss) = (tt, none_behind ns h width ss)
none_behind (node.Arith o a b ∷ ns) h width (s ∷ ss) = (tt, none_behind ns h width ss)
none_behind (node.Compare o a b ∷ ns) h width (s ∷ ss) = (tt, none_behind ns h width ss)
none_behind (node.Both a b ∷ ns) h width (s ∷ ss) = (tt, none_behind ns h width ss)
none_behind (node.Either a b ∷ ns) h width (s ∷ ss) = (tt, none_behind ns h width ss)
none_behind (node.Not a ∷ ns) h width (s ∷ ss) = (tt, none_behind ns h width ss)
none_behind (node.IsNull a ∷ ns) h width (s ∷ ss) = (tt, none_behind ns h width ss)
none_behind (node.NotNull a ∷ ns) h width (s ∷ ss) = (tt, none_behind ns h width ss)
none_behind (node.Aggregate f a ∷ ns) h width (s ∷ ss) = absurd cc

none_names : (ns : List Node) → list_any is_aggregate ns ≡ false → (ps : List (ℕ × ℕ)) → AggregatesNameNone ns ps
none_names [] h ps = tt
none_names (n ∷ ns) h [] = tt
none_names (node.Lit l ∷ ns) h (p ∷ ps) = (tt, none_names ns h ps)
none_names (node.Col c ∷ ns) h (p ∷ ps) = (tt, none_names ns h ps)
none_names (node.Neg a ∷ ns) h (p ∷ ps) = (tt, none_names ns h ps)
none_names (node.Arith o a b ∷ ns) h (p ∷ ps) = (tt, none_names ns h ps)
none_names (node.Compare o a b ∷ ns) h (p ∷ ps) = (tt, none_names ns h ps)
none_names (node.Both a b ∷ ns) h (p ∷ ps) = (tt, none_names ns h ps)
none_names (node.Either a b ∷ ns) h (p ∷ ps) = (tt, none_names ns h ps)
none_names (node.Not a ∷ ns) h (p ∷ ps) = (tt, none_names ns h ps)
none_names (node.IsNull a ∷ ns) h (p ∷ ps) = (tt, none_names ns h ps)
none_names (node.NotNull a ∷ ns) h (p ∷ ps) = (tt, none_names ns h ps)
none_names (node.Aggregate f a ∷ ns) h (p ∷ ps) = absurd cc

pub no_aggregates_stand : NoAggregatesStand
no_aggregates_stand nodes h = (none_behind nodes h, none_names nodes h)

-- a small row fits nodes without aggregates
pub plain_row_fits : (nodes : List Node) (slots : List ℕ) (row : List Value) → length slots ≡ length nodes → is_small_row row ≡ true
    → list_any is_aggregate nodes ≡ false → RowFits nodes slots row
plain_row_fits nodes slots row same small none = rows_fit nodes slots row same small (none_behind nodes none (length row) slots)
