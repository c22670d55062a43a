-- What a bound SELECT is. Our own rule: the star is written out as outputs, one for each column of FROM, and
-- a key of ORDER BY that is an output is written as its position; so no name is looked at again.
use Rattle.std.specs.Prelude.{◌≡◌, ℕ, zero, suc, Bool, true, false, List, [], ◌∷◌, ◌++◌, Option, Some, None, map, length, ◌+◌, ◌-◌, nat_lt, not, slice_get, ◌&&◌, if◌then◌else◌}
use Rattle.std.specs.List.{list_any}
use Rattle.hg_model.specs.Binding.{cause_if, grouping_fits, is_outside, lengths_fit, names_from, repeated_name, select_kinds, select_refusal, select_types_fit}
use Rattle.hg_model.specs.Refusal.{Refusal, BadNumber, TypeMismatch, NotGrouped, TooWide, RowTooLong, TooMany, first_cause}
use Rattle.hg_model.specs.Types.{all_narrow}
use Rattle.hg_model.specs.declared.trees.Count.TheVariants as count
use Rattle.hg_model.specs.Query.{Query}
use Rattle.hg_model.specs.Scope.{scope_of, positions_of, target_of, columns_of, output_count}
use Rattle.hg_model.specs.Tables.{Table, table_named}
use Rattle.hg_model.specs.declared.tables.FromColumn.{FromColumn}
use Rattle.hg_model.specs.declared.tables.Target.{Target}
use Rattle.hg_model.specs.declared.tables.Target.TheVariants.{ToOutput, ToNode}
use Rattle.hg_model.specs.declared.trees.FromTable.{FromTable}
use Rattle.hg_model.specs.declared.trees.Literal.TheVariants as literal
use Rattle.hg_model.specs.declared.trees.Node.{Node}
use Rattle.hg_model.specs.declared.trees.Node.TheVariants as node
use Rattle.hg_model.specs.declared.trees.OrderKey.{OrderKey}
use Rattle.hg_model.specs.declared.trees.OrderBy.{OrderBy}
use Rattle.hg_model.specs.declared.trees.OrderBy.TheVariants.{Position, Column as ByColumn}
use Rattle.hg_model.specs.declared.trees.Output.{Output}
use Rattle.hg_bind.specs.Selecting.{named_from}

-- the numbers are those of the tables of FROM, one by one
abbrev pub AreTables : List Table → List FromTable → List ℕ → Type 0
AreTables tables froms numbers = map (slice_get tables) numbers ≡ map (λ (f : FromTable). table_named tables f.table) froms

-- a key of ORDER BY that is an output, by its position from 1 on
abbrev pub by_target : Target → OrderBy
by_target (ToOutput k) = Position (k + 1)
by_target (ToNode n) = ByColumn n

abbrev pub bound_key : List FromColumn → List ℕ → Query → OrderKey → OrderKey
bound_key scope positions q k = record { by = by_target (target_of scope positions q k.by); descending = k.descending }

-- the star written out: behind the nodes of the line one for each column of FROM, each an output
abbrev pub column_node : FromColumn → Node
column_node c = node.Col (record { table = Some c.alias; name = c.column.name })

abbrev pub star_outputs : ℕ → List FromColumn → List Output
star_outputs n [] = []
star_outputs n (c ∷ cs) = record { node = n; name = None } ∷ star_outputs (suc n) cs

abbrev pub outputs_written : List FromColumn → Query → List Output
outputs_written scope q = if q.star then star_outputs (length q.nodes) scope else q.outputs

-- a name of ORDER BY that is an output stands for nothing of its own any more
abbrev pub settled_node : Node → Option ℕ → Node
settled_node (node.Col c) None = node.Lit literal.Null
settled_node n o = n

abbrev pub is_output_name : Node → Option ℕ → Bool
is_output_name (node.Col c) None = true
is_output_name n o = false

abbrev pub settled : List Node → List (Option ℕ) → List Node
settled [] os = []
settled (n ∷ ns) [] = n ∷ ns
settled (n ∷ ns) (o ∷ os) = settled_node n o ∷ settled ns os

abbrev pub star_nodes : Bool → List FromColumn → List Node
star_nodes true scope = map column_node scope
star_nodes false scope = []

abbrev pub nodes_written : List FromColumn → List (Option ℕ) → Query → List Node
nodes_written scope named q = settled q.nodes named ++ star_nodes q.star scope

-- `named` has for each node the place of the column that it names, and `keys` are the keys of ORDER BY
abbrev pub written_with : List FromColumn → List (Option ℕ) → List OrderKey → Query → Query
written_with scope named keys q = record q {
  star = false;
  outputs = outputs_written scope q;
  order = keys;
  nodes = nodes_written scope named q;
}

abbrev pub written_out : List FromColumn → List ℕ → Query → Query
written_out scope positions q =
    written_with scope (named_from scope positions q 0 q.nodes) (map (bound_key scope positions q) q.order) q

-- the place of a column of FROM: the number of its table there, and its own number in that table; 255 twice
-- where there is none
abbrev pub place_of_column : FromColumn → ℕ × ℕ
place_of_column c = (c.table, c.place)

abbrev pub place_of_found : Option FromColumn → ℕ × ℕ
place_of_found None = (255, 255)
place_of_found (Some c) = place_of_column c

abbrev pub place_if_named : List FromColumn → Option ℕ → ℕ × ℕ
place_if_named scope None = (255, 255)
place_if_named scope (Some p) = place_of_found (slice_get scope p)

abbrev pub star_places : Bool → List FromColumn → List (ℕ × ℕ)
star_places true scope = map place_of_column scope
star_places false scope = []

abbrev pub places_with : List FromColumn → List (Option ℕ) → Query → List (ℕ × ℕ)
places_with scope named q = map (place_if_named scope) named ++ star_places q.star scope

abbrev pub places_written : List FromColumn → List ℕ → Query → List (ℕ × ℕ)
places_written scope positions q = places_with scope (named_from scope positions q 0 q.nodes) q

-- The causes against a SELECT behind an unknown table, and those behind its names, in their order.
abbrev pub causes_behind_names : List FromColumn → List ℕ → Query → List (Option Refusal)
causes_behind_names scope positions q =
    cause_if (list_any (λ (k : OrderKey). is_outside (output_count scope q) k.by) q.order) BadNumber
    ∷ cause_if (not (select_types_fit q (select_kinds scope positions q))) TypeMismatch
    ∷ cause_if (not (grouping_fits scope positions q)) NotGrouped
    ∷ cause_if (not (all_narrow q.nodes)) TooWide
    ∷ cause_if (not (lengths_fit scope positions q)) RowTooLong
    ∷ []

abbrev pub causes_behind_tables : List FromColumn → List ℕ → Query → List (Option Refusal)
causes_behind_tables scope positions q =
    repeated_name (map (λ (f : FromTable). f.alias) q.tables)
    ∷ cause_if (q.star && nat_lt 16 (length scope)) (TooMany count.Outputs)
    ∷ first_cause (names_from scope positions q 0 q.nodes)
    ∷ causes_behind_names scope positions q

-- A SELECT that nothing stands against, in its bound form, with the numbers of its tables, and for each node
-- the place of its column.
pub record IsBoundSelect (tables : List Table) (q bound : Query) (numbers : List ℕ) (places : List (ℕ × ℕ)) : Type 0 where
  pub unrefused : select_refusal tables q ≡ None
  pub tables_are : AreTables tables q.tables numbers
  pub bound_is : bound ≡ written_out (scope_of tables q) (positions_of (scope_of tables q) q) q
  pub places_are : places ≡ places_written (scope_of tables q) (positions_of (scope_of tables q) q) q

-- what a key of a bound SELECT orders by
abbrev pub bound_target : OrderBy → Target
bound_target (Position k) = ToOutput (k - 1)
bound_target (ByColumn n) = ToNode n

-- the place in a row of the cross product of what has a place in FROM: behind the columns of the tables
-- before its own. `widths` has the number of columns of each table of FROM.
abbrev pub sum_before : List ℕ → ℕ → ℕ
sum_before [] t = 0
sum_before (w ∷ ws) zero = 0
sum_before (w ∷ ws) (suc t) = w + sum_before ws t

abbrev pub position_at : List ℕ → ℕ × ℕ → ℕ
position_at widths p = if nat_lt p.0 (length widths) then sum_before widths p.0 + p.1 else sum_before widths (length widths)

abbrev pub widths_of : List Table → List FromTable → List ℕ
widths_of tables froms = map (λ (f : FromTable). length (columns_of (table_named tables f.table))) froms
