-- How the binder looks at the nodes of a SELECT: each once, front to back. Our own rule.
use Rattle.std.specs.Prelude.{◌≡◌, ◌<◌, ℕ, suc, Bool, true, false, List, [], ◌∷◌, ◌++◌, Option, Some, None, ◌&&◌, ◌||◌, not, nat_eq, length, slice_index, slice_index_or, ◌+◌, if◌then◌else◌}
use Rattle.std.specs.List.{list_any, list_all}
use Rattle.hg_model.specs.Binding.{is_place, is_order_key, is_output_target}
use Rattle.hg_model.specs.Query.{Query}
use Rattle.hg_model.specs.Scope.{target_of}
use Rattle.hg_model.specs.declared.tables.FromColumn.{FromColumn}
use Rattle.hg_model.specs.declared.trees.Node.{Node}
use Rattle.hg_model.specs.declared.trees.Node.TheVariants as node
use Rattle.hg_model.specs.Types.{type_length}
use Rattle.hg_model.specs.declared.trees.OrderBy.{OrderBy}
use Rattle.hg_model.specs.declared.trees.OrderBy.TheVariants.{Position, Column as ByColumn}
use Rattle.hg_bind.specs.declared.names.Found.{Found}
use Rattle.hg_bind.specs.declared.names.Found.TheVariants.{Nothing, One, Several}

-- the outputs that a name in ORDER BY finds, one after the other: two are one key where both are the same
-- column alone
abbrev pub is_same_column : Option ℕ → Option ℕ → Bool
is_same_column None o = false
is_same_column (Some p) o = is_place p o

abbrev pub one_or_several : Bool → Option ℕ → Found
one_or_several true place = One place
one_or_several false place = Several

abbrev pub with_output : Found → Option ℕ → Found
with_output Nothing place = One place
with_output (One first) place = one_or_several (is_same_column first place) first
with_output Several place = Several

abbrev pub found_in : Found → List (Option ℕ) → Found
found_in found [] = found
found_in found (o ∷ os) = found_in (with_output found o) os

-- for each node: whether the columns at it and below it, outside aggregates, are grouping columns
abbrev pub covered_at : List Bool → ℕ → Bool
covered_at done n = slice_index_or done n true

abbrev pub is_covered : Bool → Node → List Bool → Bool
is_covered leaf (node.Lit l) done = true
is_covered leaf (node.Col c) done = leaf
is_covered leaf (node.Neg a) done = covered_at done a
is_covered leaf (node.Arith o a b) done = covered_at done a && covered_at done b
is_covered leaf (node.Compare c a b) done = covered_at done a && covered_at done b
is_covered leaf (node.Both a b) done = covered_at done a && covered_at done b
is_covered leaf (node.Either a b) done = covered_at done a && covered_at done b
is_covered leaf (node.Not a) done = covered_at done a
is_covered leaf (node.IsNull a) done = covered_at done a
is_covered leaf (node.NotNull a) done = covered_at done a
is_covered leaf (node.Aggregate f a) done = true

abbrev pub covered_from : List ℕ → List ℕ → List Node → List Bool → List Bool
covered_from allowed leaves [] done = done
covered_from allowed leaves (n ∷ ns) done =
    covered_from allowed leaves ns (done ++ is_covered (list_any (nat_eq (slice_index leaves (length done))) allowed) n done ∷ [])

-- for each node: the place of the column of FROM that it names, if it names one
abbrev pub named_unless : Bool → ℕ → Option ℕ
named_unless true p = None
named_unless false p = Some p

abbrev pub named_place : List FromColumn → List ℕ → Query → ℕ → Node → Option ℕ
named_place scope positions q n (node.Col c) = named_unless (is_order_key q n && is_output_target (target_of scope positions q (ByColumn n))) (slice_index positions n)
named_place scope positions q n _ = None

abbrev pub named_from : List FromColumn → List ℕ → Query → ℕ → List Node → List (Option ℕ)
named_from scope positions q k [] = []
named_from scope positions q k (n ∷ ns) = named_place scope positions q k n ∷ named_from scope positions q (suc k) ns

-- the lengths of the columns of FROM that are named, each once, where `named` has the places of those; a star
-- names all
abbrev pub named_sum : Bool → List (Option ℕ) → ℕ → List FromColumn → ℕ
named_sum star named p [] = 0
named_sum star named p (c ∷ cs) = (if star || list_any (is_place p) named then type_length c.column.ty else 0) + named_sum star named (suc p) cs

-- the columns of FROM by their places: which of them are named; a star names all
pub record AreMarks (star : Bool) (named : List (Option ℕ)) (count : ℕ) (marks : List Bool) : Type 0 where
  pub count_is : length marks ≡ count
  pub each : (p : ℕ) → p < count → slice_index_or marks p false ≡ (star || list_any (is_place p) named)

-- one place more is marked, if it is that of a column
pub record MarksOne (place : Option ℕ) (old new : List Bool) : Type 0 where
  pub count : length new ≡ length old
  pub each : (p : ℕ) → p < length old → slice_index_or new p false ≡ (is_place p place || slice_index_or old p false)

-- the length of a key that is no output
abbrev pub own_key_length : List ℕ → OrderBy → ℕ
own_key_length lengths (Position k) = 0
own_key_length lengths (ByColumn n) = slice_index lengths n
