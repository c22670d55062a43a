-- The first cause over a list of column names, one name after the other.
use Rattle.std.proofs.Common.{◌≡◌, ◌<◌, ℕ, ◌+◌, Bool, true, false, List, [], ◌∷◌, ◌++◌, Option, Some, None, refl, sym, ap, ◌∙◌, length, get_or, drop, take, map, if◌then◌else◌}
use Rattle.std.specs.Prelude.{option_map}
use Rattle.std.specs.List.{list_any}
use Rattle.std.proofs.lemmas.List.{drop_more, take_more, map-append}
use Rattle.hg_model.specs.Binding.{cause_if}
use Rattle.hg_model.specs.ChangeBinding.{columns_cause, column_number}
use Rattle.hg_model.specs.Refusal.{Refusal, UnknownColumn, NameTaken, first_cause}
use Rattle.hg_model.specs.Tables.{same_name}
use Rattle.hg_model.specs.declared.trees.Column.{Column}
use Rattle.hg_bind.specs.Bound.{plain_name, error_of}
use Rattle.hg_bind.specs.declared.errors.BindError.{BindError}

pub cause_first : (r : Refusal) (more : List (Option Refusal)) → first_cause (Some r ∷ more) ≡ Some r
unfolding first_cause
cause_first r more = refl

pub cause_later : (more : List (Option Refusal)) → first_cause (None ∷ more) ≡ first_cause more
unfolding first_cause
cause_later more = refl

pub cause_none : first_cause [] ≡ None
unfolding first_cause
cause_none = refl

-- no error, no cause
pub unanswered : (o : Option Refusal) → option_map error_of o ≡ None → o ≡ None
unanswered None h = refl
unanswered (Some r) h = absurd cc

-- a cause that comes first is answered
pub handed : (o : Option Refusal) (more : List (Option Refusal)) (e : BindError) → option_map error_of o ≡ Some e → option_map error_of (first_cause (o ∷ more)) ≡ Some e
handed None more e h = absurd cc
handed (Some r) more e h = ap (option_map error_of) (cause_first r more) ∙ h

-- `name` is the one at place i, and `i` names stand before it
module _ (cs : List Column) (names : List (List ℕ)) (i : ℕ) (name : List ℕ) (h : i < length names) (is : name ≡ get_or names i name) where
  abbrev has : Column → Bool
  has c = same_name c.name name

  abbrev before : List (List ℕ)
  before = take i names

  abbrev rest : List (Option Refusal)
  rest = columns_cause cs (before ++ name ∷ []) (drop (i + 1) names)

  abbrev first_of : Bool → Option Refusal
  first_of there = if there then cause_if (list_any (same_name name) before) (NameTaken name) else Some (UnknownColumn (plain_name name))

  opened : columns_cause cs before (drop i names) ≡ first_of (list_any has cs) ∷ rest
  opened = ap (columns_cause cs before) (drop_more names i name h ∙ ap (λ n. n ∷ drop (i + 1) names) (sym is))

  pub unknown_here : list_any has cs ≡ false → first_cause (columns_cause cs before (drop i names)) ≡ Some (UnknownColumn (plain_name name))
  unknown_here none = ap first_cause (opened ∙ ap (λ b. first_of b ∷ rest) none) ∙ cause_first _ rest

  known : list_any has cs ≡ true → columns_cause cs before (drop i names) ≡ cause_if (list_any (same_name name) before) (NameTaken name) ∷ rest
  known there = opened ∙ ap (λ b. first_of b ∷ rest) there

  pub taken_here : list_any has cs ≡ true → list_any (same_name name) before ≡ true → first_cause (columns_cause cs before (drop i names)) ≡ Some (NameTaken name)
  taken_here there stood = ap first_cause (known there ∙ ap (λ b. cause_if b (NameTaken name) ∷ rest) stood) ∙ cause_first _ rest

  one_more : take (i + 1) names ≡ before ++ name ∷ []
  one_more = take_more names i name h ∙ ap (λ n. before ++ n ∷ []) (sym is)

  pub none_here : list_any has cs ≡ true → list_any (same_name name) before ≡ false
      → first_cause (columns_cause cs (take (i + 1) names) (drop (i + 1) names)) ≡ first_cause (columns_cause cs before (drop i names))
  none_here there fresh =
      ap (λ l. first_cause (columns_cause cs l (drop (i + 1) names))) one_more
      ∙ sym (ap first_cause (known there ∙ ap (λ b. cause_if b (NameTaken name) ∷ rest) fresh) ∙ cause_later rest)

  pub number_here : (numbers : List ℕ) (k : ℕ) → numbers ≡ map (column_number cs) before → k ≡ column_number cs name
      → numbers ++ k ∷ [] ≡ map (column_number cs) (take (i + 1) names)
  number_here numbers k so_far here =
      ap (λ l. l ++ k ∷ []) so_far ∙ ap (λ n. map (column_number cs) before ++ n ∷ []) here
      ∙ sym (ap (map (column_number cs)) one_more ∙ map-append (column_number cs) before (name ∷ []))

-- the first cause over a list of nodes, one node after the other
module _ {X : Type 0} (f : X → Option Refusal) (xs : List X) (i : ℕ) (x : X) (h : i < length xs) (is : x ≡ get_or xs i x) where
  whole : map f (drop i xs) ≡ f x ∷ map f (drop (i + 1) xs)
  whole = ap (map f) (drop_more xs i x h ∙ ap (λ y. y ∷ drop (i + 1) xs) (sym is))

  pub cause_at : (e : BindError) → option_map error_of (f x) ≡ Some e → option_map error_of (first_cause (map f (drop i xs))) ≡ Some e
  cause_at e caused = ap (λ l. option_map error_of (first_cause l)) whole ∙ handed (f x) _ e caused

  pub no_cause_at : f x ≡ None → first_cause (map f (drop (i + 1) xs)) ≡ first_cause (map f (drop i xs))
  no_cause_at none = sym (ap first_cause (whole ∙ ap (λ o. o ∷ map f (drop (i + 1) xs)) none) ∙ cause_later _)
