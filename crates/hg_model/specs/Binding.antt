-- Whether a statement may stand over its tables, and the first cause against it. Our own rule, for the
-- order of the causes and the words after them.
use Rattle.std.specs.Prelude.{ℕ, suc, zero, Bool, true, false, List, [], ◌∷◌, ◌++◌, Option, Some, None, is_some, map, length, ◌&&◌, ◌||◌, not, nat_lt, nat_le, nat_eq, slice_index, slice_index_or, ◌+◌, if◌then◌else◌}
use Rattle.std.specs.List.{list_any, list_all, filter, count_by, sum_by}
use Rattle.std.specs.Option.{option_to_list}
use Rattle.hg_model.specs.Query.{Query}
use Rattle.hg_model.specs.Refusal.{Refusal, UnknownTable, UnknownColumn, AmbiguousColumn, TypeMismatch, TooWide, NameTaken, TooMany, NotGrouped, BadNumber, RowTooLong, first_cause}
use Rattle.hg_model.specs.declared.tables.FromColumn.{FromColumn}
use Rattle.hg_model.specs.declared.tables.Target.{Target}
use Rattle.hg_model.specs.declared.tables.Target.TheVariants.{ToOutput, ToNode}
use Rattle.hg_model.specs.Scope.{scope_of, is_named, is_meant, tables_seen, positions_of, finds_output, output_count, column_place, target_of}
use Rattle.hg_model.specs.SelectMeaning.{is_grouped, is_aggregate, conditions}
use Rattle.hg_model.specs.Tables.{Table, table_named, same_name}
use Rattle.hg_model.specs.Types.{Kind, Nothing, kind_of_type, kind_at, kinds_from, all_well_typed, is_condition, is_value, all_narrow, type_length, lengths_from}
use Rattle.hg_model.specs.declared.trees.Count.TheVariants as count
use Rattle.hg_model.specs.declared.trees.FromTable.{FromTable}
use Rattle.hg_model.specs.declared.trees.Column.{Column}
use Rattle.hg_model.specs.declared.trees.ColRef.{ColRef}
use Rattle.hg_model.specs.declared.trees.Output.{Output}
use Rattle.hg_model.specs.declared.trees.OrderKey.{OrderKey}
use Rattle.hg_model.specs.declared.trees.OrderBy.{OrderBy}
use Rattle.hg_model.specs.declared.trees.OrderBy.TheVariants.{Position, Column as ByColumn}
use Rattle.hg_model.specs.declared.trees.Node.{Node}
use Rattle.hg_model.specs.declared.trees.Node.TheVariants as node

-- a cause where a test holds
abbrev pub cause_if : Bool → Refusal → Option Refusal
cause_if true r = Some r
cause_if false r = None

-- an unknown table, over FROM from left to right
abbrev pub unknown_table : List Table → List FromTable → Option Refusal
unknown_table tables [] = None
unknown_table tables (f ∷ fs) =
    if is_some (table_named tables f.table) then unknown_table tables fs else Some (UnknownTable f.table)

-- the first name, from left to right, that has stood before
abbrev pub repeated_from : List (List ℕ) → List (List ℕ) → Option Refusal
repeated_from seen [] = None
repeated_from seen (n ∷ ns) = if list_any (same_name n) seen then Some (NameTaken n) else repeated_from (seen ++ n ∷ []) ns

abbrev pub repeated_name : List (List ℕ) → Option Refusal
repeated_name names = repeated_from [] names

-- how many columns of FROM a name may mean: none is unknown, more than one is ambiguous
abbrev pub cause_of_count : ℕ → ColRef → Option Refusal
cause_of_count zero c = Some (UnknownColumn c)
cause_of_count (suc zero) c = None
cause_of_count (suc (suc n)) c = Some (AmbiguousColumn c)

abbrev pub column_cause : List FromColumn → ℕ → ColRef → Option Refusal
column_cause scope seen c = cause_of_count (count_by (is_meant c seen) scope) c

-- The outputs that a name in ORDER BY finds, each as the place of its column where it is a column alone.
abbrev pub outputs_found : List FromColumn → List ℕ → Query → ColRef → List (Option ℕ)
outputs_found scope positions q c =
    map (λ (o : Output). column_place positions q.nodes o.node) (filter (finds_output scope positions q.nodes c) q.outputs)

abbrev pub is_place : ℕ → Option ℕ → Bool
is_place p None = false
is_place p (Some r) = nat_eq p r

abbrev pub are_one_column : List (Option ℕ) → Bool
are_one_column [] = true
are_one_column (None ∷ []) = true
are_one_column (None ∷ o ∷ os) = false
are_one_column (Some p ∷ os) = list_all (is_place p) os

abbrev pub may_name_columns : Query → Bool
may_name_columns q = not (is_grouped q || q.distinct)

-- A name in ORDER BY: several outputs that are not one column are ambiguous; where none is found, a
-- column of FROM, if there is no grouping, no aggregate and no DISTINCT.
abbrev pub key_cause : List FromColumn → List ℕ → Query → ColRef → Option Refusal
key_cause scope positions q c =
    if q.star
    then cause_of_count (count_by (is_named c) scope) c
    else (if nat_lt 0 (length (outputs_found scope positions q c))
    then cause_if (not (are_one_column (outputs_found scope positions q c))) (AmbiguousColumn c)
    else (if may_name_columns q then column_cause scope (length q.tables) c else Some (UnknownColumn c)))

abbrev pub is_key_of : ℕ → OrderBy → Bool
is_key_of n (Position k) = false
is_key_of n (ByColumn m) = nat_eq n m

abbrev pub is_order_key : Query → ℕ → Bool
is_order_key q n = list_any (λ (k : OrderKey). is_key_of n k.by) q.order

abbrev pub name_cause : List FromColumn → List ℕ → Query → ℕ → Node → Option Refusal
name_cause scope positions q n (node.Col c) =
    if is_order_key q n then key_cause scope positions q c else column_cause scope (tables_seen q n) c
name_cause scope positions q n _ = None

-- over the column names in order of text, which is the order of the nodes
abbrev pub names_from : List FromColumn → List ℕ → Query → ℕ → List Node → List (Option Refusal)
names_from scope positions q k [] = []
names_from scope positions q k (n ∷ ns) = name_cause scope positions q k n ∷ names_from scope positions q (suc k) ns

-- a position in ORDER BY counts the outputs from 1
abbrev pub is_outside : ℕ → OrderBy → Bool
is_outside outputs (Position k) = nat_eq k 0 || nat_lt outputs k
is_outside outputs (ByColumn n) = false

-- the kind and the declared length of each column node, by its index
abbrev pub type_at : {X : Type 0} → (Column → X) → X → List FromColumn → ℕ → X
type_at f d [] p = d
type_at f d (c ∷ cs) zero = f c.column
type_at f d (c ∷ cs) (suc p) = type_at f d cs p

abbrev pub leaf_kinds : List FromColumn → List ℕ → List Kind
leaf_kinds scope positions = map (type_at (λ (c : Column). kind_of_type c.ty) Nothing scope) positions

abbrev pub select_kinds : List FromColumn → List ℕ → Query → List Kind
select_kinds scope positions q = kinds_from (leaf_kinds scope positions) q.nodes []

-- Every node takes its children, each output is a value, and ON, WHERE and HAVING are conditions.
abbrev pub select_types_fit : Query → List Kind → Bool
select_types_fit q kinds =
    all_well_typed q.nodes kinds
    && (list_all (λ (o : Output). is_value (kind_at kinds o.node)) q.outputs
    && list_all (λ n. is_condition (kind_at kinds n)) (conditions q ++ option_to_list q.having))

-- for each node: whether an aggregate stands at it or below it
abbrev pub has_at : List Bool → ℕ → Bool
has_at done n = slice_index_or done n false

abbrev pub below_operand : List Bool → Option ℕ → Bool
below_operand done None = false
below_operand done (Some a) = has_at done a

abbrev pub has_aggregate : Node → List Bool → Bool
has_aggregate (node.Lit l) done = false
has_aggregate (node.Col c) done = false
has_aggregate (node.Neg a) done = has_at done a
has_aggregate (node.Arith o a b) done = has_at done a || has_at done b
has_aggregate (node.Compare c a b) done = has_at done a || has_at done b
has_aggregate (node.Both a b) done = has_at done a || has_at done b
has_aggregate (node.Either a b) done = has_at done a || has_at done b
has_aggregate (node.Not a) done = has_at done a
has_aggregate (node.IsNull a) done = has_at done a
has_aggregate (node.NotNull a) done = has_at done a
has_aggregate (node.Aggregate f a) done = true

abbrev pub aggregates_from : List Node → List Bool → List Bool
aggregates_from [] done = done
aggregates_from (n ∷ ns) done = aggregates_from ns (done ++ has_aggregate n done ∷ [])

abbrev pub nests_aggregate : List Bool → Node → Bool
nests_aggregate has (node.Aggregate f a) = below_operand has a
nests_aggregate has _ = false

-- for each node: the places of the columns at it and below it, outside aggregates
abbrev pub columns_at : List (List ℕ) → ℕ → List ℕ
columns_at done n = slice_index_or done n []

abbrev pub free_columns : ℕ → Node → List (List ℕ) → List ℕ
free_columns leaf (node.Lit l) done = []
free_columns leaf (node.Col c) done = leaf ∷ []
free_columns leaf (node.Neg a) done = columns_at done a
free_columns leaf (node.Arith o a b) done = columns_at done a ++ columns_at done b
free_columns leaf (node.Compare c a b) done = columns_at done a ++ columns_at done b
free_columns leaf (node.Both a b) done = columns_at done a ++ columns_at done b
free_columns leaf (node.Either a b) done = columns_at done a ++ columns_at done b
free_columns leaf (node.Not a) done = columns_at done a
free_columns leaf (node.IsNull a) done = columns_at done a
free_columns leaf (node.NotNull a) done = columns_at done a
free_columns leaf (node.Aggregate f a) done = []

abbrev pub free_from : List ℕ → List Node → List (List ℕ) → List (List ℕ)
free_from leaves [] done = done
free_from leaves (n ∷ ns) done = free_from leaves ns (done ++ free_columns (slice_index leaves (length done)) n done ∷ [])

-- the places of the grouping columns
abbrev pub group_places : List ℕ → Query → List ℕ
group_places positions q = map (slice_index positions) q.group

abbrev pub all_among : List ℕ → List ℕ → Bool
all_among allowed places = list_all (λ p. list_any (nat_eq p) allowed) places

abbrev pub star_places : Query → List FromColumn → ℕ → List ℕ
star_places q [] p = []
star_places q (c ∷ cs) p = p ∷ star_places q cs (suc p)

abbrev pub output_places : Query → List FromColumn → List (List ℕ) → List (List ℕ)
output_places q scope free =
    if q.star then star_places q scope 0 ∷ [] else map (λ (o : Output). columns_at free o.node) q.outputs

-- In a grouped statement the outputs and HAVING name, outside aggregates, only grouping columns.
abbrev pub is_all_grouped : List FromColumn → List ℕ → Query → Bool
is_all_grouped scope positions q =
    let free = free_from positions q.nodes [] in
    list_all (all_among (group_places positions q)) (output_places q scope free ++ map (columns_at free) (option_to_list q.having))

-- no aggregate in ON, WHERE or another aggregate
abbrev pub aggregates_stand_well : Query → Bool
aggregates_stand_well q =
    let has = aggregates_from q.nodes [] in
    not (list_any (has_at has) (conditions q)) && not (list_any (nests_aggregate has) q.nodes)

abbrev pub grouping_fits : List FromColumn → List ℕ → Query → Bool
grouping_fits scope positions q =
    aggregates_stand_well q && (not (is_grouped q) || is_all_grouped scope positions q)

-- whether the statement names the column at a place of FROM: a key of ORDER BY that is an output names none
abbrev pub is_output_target : Target → Bool
is_output_target (ToOutput k) = true
is_output_target (ToNode n) = false

abbrev pub is_named_by : List FromColumn → List ℕ → Query → ℕ → ℕ → Node → Bool
is_named_by scope positions q p n (node.Col c) =
    nat_eq p (slice_index positions n) && not (is_order_key q n && is_output_target (target_of scope positions q (ByColumn n)))
is_named_by scope positions q p n _ = false

abbrev pub some_names : List FromColumn → List ℕ → Query → ℕ → ℕ → List Node → Bool
some_names scope positions q p k [] = false
some_names scope positions q p k (n ∷ ns) = is_named_by scope positions q p k n || some_names scope positions q p (suc k) ns

abbrev pub named_length : List FromColumn → List ℕ → Query → ℕ → List FromColumn → ℕ
named_length scope positions q p [] = 0
named_length scope positions q p (c ∷ cs) =
    (if q.star || some_names scope positions q p 0 q.nodes then type_length c.column.ty else 0) + named_length scope positions q (suc p) cs

abbrev pub column_lengths : List FromColumn → ℕ
column_lengths scope = sum_by (λ (c : FromColumn). type_length c.column.ty) scope

abbrev pub aggregate_lengths : List Node → List ℕ → ℕ
aggregate_lengths [] lengths = 0
aggregate_lengths (n ∷ ns) [] = 0
aggregate_lengths (n ∷ ns) (l ∷ ls) = (if is_aggregate n then l else 0) + aggregate_lengths ns ls

abbrev pub target_length : List ℕ → Target → ℕ
target_length lengths (ToOutput k) = 0
target_length lengths (ToNode n) = slice_index lengths n

-- The three sums of declared lengths: the columns of FROM that the statement names, each once; the
-- grouping columns and the aggregates; the outputs and the order keys that are no outputs.
abbrev pub sums_of_lengths : List FromColumn → List ℕ → Query → List ℕ
sums_of_lengths scope positions q =
    let kinds = select_kinds scope positions q in
    let lengths = lengths_from kinds (map (type_at (λ (c : Column). type_length c.ty) 0 scope) positions) q.nodes [] in
    named_length scope positions q 0 scope
    ∷ (sum_by (slice_index lengths) q.group + aggregate_lengths q.nodes lengths)
    ∷ ((if q.star then column_lengths scope else sum_by (λ (o : Output). slice_index lengths o.node) q.outputs)
    + sum_by (λ (k : OrderKey). target_length lengths (target_of scope positions q k.by)) q.order)
    ∷ []

abbrev pub lengths_fit : List FromColumn → List ℕ → Query → Bool
lengths_fit scope positions q = list_all (λ n. nat_le n 3900) (sums_of_lengths scope positions q)

-- the first cause against a SELECT over these tables, if there is one
unfoldable pub select_refusal : List Table → Query → Option Refusal
select_refusal tables q =
    let scope = scope_of tables q in
    let positions = positions_of scope q in
    first_cause
    (unknown_table tables q.tables
    ∷ repeated_name (map (λ (f : FromTable). f.alias) q.tables)
    ∷ cause_if (q.star && nat_lt 16 (length scope)) (TooMany count.Outputs)
    ∷ first_cause (names_from scope positions q 0 q.nodes)
    ∷ cause_if (list_any (λ (k : OrderKey). is_outside (output_count scope q) k.by) q.order) BadNumber
    ∷ cause_if (not (select_types_fit q (select_kinds scope positions q))) TypeMismatch
    ∷ cause_if (not (grouping_fits scope positions q)) NotGrouped
    ∷ cause_if (not (all_narrow q.nodes)) TooWide
    ∷ cause_if (not (lengths_fit scope positions q)) RowTooLong
    ∷ [])
