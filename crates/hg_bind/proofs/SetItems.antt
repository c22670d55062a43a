-- SET items, one item after the other.
use Rattle.std.proofs.Common.{◌≡◌, ◌<◌, ℕ, ◌+◌, Bool, List, map, sym, ap, ◌∙◌, length, get_or, drop, ◌&&◌, arith}
use Rattle.std.proofs.lemmas.List.{drop_more, length-map, get_or-map}
use Rattle.hg_model.specs.ChangeBinding.{column_number, kind_of_column, sets_fit}
use Rattle.hg_model.specs.Types.{Kind, agree, kind_at}
use Rattle.hg_model.specs.declared.trees.Column.{Column}
use Rattle.hg_bind.specs.Bound.{names_set}

abbrev pub name_of : List ℕ × ℕ → List ℕ
name_of s = s.0

module _ (sets : List (List ℕ × ℕ)) (i : ℕ) (d : List ℕ × ℕ) (h : i < length sets) where
  abbrev s : List ℕ × ℕ
  s = get_or sets i d

  pub within : i < length (names_set sets)
  within = omega (arith, length-map sets name_of)

  pub name_here : s.0 ≡ get_or (names_set sets) i s.0
  name_here = sym (get_or-map name_of sets i d s.0 h)

  module _ (cs : List Column) (ks : List Kind) (targets : List ℕ) (are : targets ≡ map (column_number cs) (names_set sets)) where
    target_here : get_or targets i 0 ≡ column_number cs s.0
    target_here =
        ap (λ l. get_or l i 0) are ∙ get_or-map (column_number cs) (names_set sets) i s.0 0 within
        ∙ ap (column_number cs) (sym name_here)

    pub set_step : (result : Bool) (a b : Kind) → result ≡ agree a b → a ≡ kind_of_column cs (get_or targets i 0) → b ≡ kind_at ks s.1
        → sets_fit cs ks (drop i sets) ≡ (result && sets_fit cs ks (drop (i + 1) sets))
    set_step result a b made left right =
        ap (sets_fit cs ks) (drop_more sets i d h)
        ∙ ap (λ r. r && sets_fit cs ks (drop (i + 1) sets))
        (sym (made ∙ ap (λ k. agree k b) (left ∙ ap (kind_of_column cs) target_here) ∙ ap (agree (kind_of_column cs (column_number cs s.0))) right))
