-- The causes against the names of a SELECT, one node after the other.
use Rattle.std.proofs.Common.{◌≡◌, ◌<◌, ◌≤◌, ℕ, suc, ◌+◌, List, [], ◌∷◌, Option, Some, None, refl, sym, ap, ◌∙◌, length, get_or, drop, arith}
use Rattle.std.specs.Prelude.{option_map}
use Rattle.std.proofs.lemmas.List.{drop_all, drop_more}
use Rattle.hg_model.specs.Binding.{name_cause, names_from}
use Rattle.hg_model.specs.Query.{Query}
use Rattle.hg_model.specs.Refusal.{Refusal, first_cause}
use Rattle.hg_model.specs.declared.tables.FromColumn.{FromColumn}
use Rattle.hg_model.specs.declared.trees.Node.{Node}
use Rattle.hg_bind.specs.Bound.{error_of}
use Rattle.hg_bind.specs.declared.errors.BindError.{BindError}
use Rattle.hg_bind.proofs.NameCauses.{cause_later, cause_none, handed}

module _ (scope : List FromColumn) (positions : List ℕ) (q : Query) (nodes : List Node) (i : ℕ) where
  pub names_end : length nodes ≤ i → first_cause (names_from scope positions q i (drop i nodes)) ≡ None
  names_end h = ap (λ l. first_cause (names_from scope positions q i l)) (drop_all i nodes h) ∙ cause_none

  module _ (n : Node) (h : i < length nodes) (is : n ≡ get_or nodes i n) where
    whole : names_from scope positions q i (drop i nodes) ≡ name_cause scope positions q i n ∷ names_from scope positions q (i + 1) (drop (i + 1) nodes)
    whole =
        let next : suc i ≡ i + 1 = omega arith in
        ap (names_from scope positions q i) (drop_more nodes i n h ∙ ap (λ m. m ∷ drop (i + 1) nodes) (sym is))
        ∙ ap (λ k. name_cause scope positions q i n ∷ names_from scope positions q k (drop (i + 1) nodes)) next

    pub names_here : (e : BindError) → option_map error_of (name_cause scope positions q i n) ≡ Some e
        → option_map error_of (first_cause (names_from scope positions q i (drop i nodes))) ≡ Some e
    names_here e caused = ap (λ l. option_map error_of (first_cause l)) whole ∙ handed (name_cause scope positions q i n) _ e caused

    pub names_past : name_cause scope positions q i n ≡ None
        → first_cause (names_from scope positions q (i + 1) (drop (i + 1) nodes)) ≡ first_cause (names_from scope positions q i (drop i nodes))
    names_past none = sym (ap first_cause (whole ∙ ap (λ o. o ∷ names_from scope positions q (i + 1) (drop (i + 1) nodes)) none) ∙ cause_later _)
