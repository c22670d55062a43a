-- How many rows a change that is made says, and what VACUUM keeps.
use Rattle.std.proofs.Common.{◌≡◌, ℕ, suc, Bool, true, false, List, [], ◌∷◌, ◌++◌, Option, Some, None, length, map, not, refl, sym, ap, ◌∙◌, if◌then◌else◌}
use Rattle.std.specs.Prelude.{is_some}
use Rattle.std.specs.List.{count_by, filter}
use Rattle.std.proofs.lemmas.List.{length-map}
use Rattle.std.proofs.lemmas.List.Sums.{length-filter}
use Rattle.hg_model.specs.Binding.{cause_if}
use Rattle.hg_model.specs.ChangeBinding.{table_cause, insert_refusal, update_refusal, delete_refusal, insert_targets, update_targets}
use Rattle.hg_model.specs.ChangeLaws.{InsertsCounted, UpdatesCounted, DeletesCounted, VacuumKeepsTables}
use Rattle.hg_model.specs.ChangeMeaning.{insert_cause, update_cause, delete_cause, change_of, insert_meaning, update_meaning, delete_meaning, vacuum_meaning, update_positions, delete_positions, with_rows, tables_after, insert_count, update_count, delete_count}
use Rattle.hg_model.specs.Changes.{Change, Made, unless, tuples_from, new_row, new_rows, insert_change, changed_row, update_change, update_passes, delete_change, delete_passes, change_cause}
use Rattle.hg_model.specs.Creation.{uniques_of}
use Rattle.hg_model.specs.Refusal.{Refusal, UnknownTable, first_cause}
use Rattle.hg_model.specs.Scope.{rows_of}
use Rattle.hg_model.specs.Statements.{InsertTree, UpdateTree, DeleteTree}
use Rattle.hg_model.specs.Tables.{Table, table_named, same_name}
use Rattle.hg_model.specs.declared.trees.Literal.{Literal}
use Rattle.hg_model.specs.declared.values.Value.{Value}

first_none : (o : Option Refusal) (more : List (Option Refusal)) → first_cause (o ∷ more) ≡ None → o ≡ None
unfolding first_cause
first_none None more h = refl
first_none (Some r) more h = h

unless_made : (o : Option Refusal) (c : Change) (rows : List (List Value)) (n : ℕ) → unless o c ≡ Made rows n → (o ≡ None) × (c ≡ Made rows n)
unless_made None c rows n h = (refl, h)
unless_made (Some r) c rows n h = absurd cc

same_count : (rows after : List (List Value)) (n m : ℕ) → Made rows n ≡ Made after m → m ≡ n
same_count rows after n m h = cc

is_there : (o : Option Table) (name : List ℕ) → cause_if (not (is_some o)) (UnknownTable name) ≡ None → is_some o ≡ true
is_there None name h = absurd cc
is_there (Some t) name h = refl

counted : (o : Option Table) (change : Table → Change) (rows : List (List Value)) (n m : ℕ) → is_some o ≡ true
    → ((t : Table) → o ≡ Some t → change t ≡ Made rows n → n ≡ m) → change_of o change ≡ Made rows n → n ≡ m
counted None change rows n m there each h = absurd cc
counted (Some t) change rows n m there each h = each t refl h

tuples_length : (from : ℕ) (ends : List ℕ) (values : List Literal) → length (tuples_from from ends values) ≡ length ends
tuples_length from [] values = refl
tuples_length from (end ∷ ends) values = ap suc (tuples_length end ends values)

inserted : (texts : List ℕ) (t : Table) (uniques : List (List ℕ)) (targets : List ℕ) (i : InsertTree) (rows : List (List Value)) (n : ℕ)
    → insert_change texts t uniques targets i ≡ Made rows n → n ≡ insert_count i
unfolding insert_change
inserted texts t uniques targets i rows n h =
    let made = new_rows texts (length t.columns) targets i in
    let both = unless_made (change_cause t.columns uniques made (t.rows ++ made)) (Made (t.rows ++ made) (length made)) rows n h in
    same_count (t.rows ++ made) rows (length made) n both.1
    ∙ length-map (tuples_from 0 i.ends i.values) (new_row texts (length t.columns) targets) ∙ tuples_length 0 i.ends i.values

insert_table : (tables : List Table) (i : InsertTree) → insert_refusal tables i ≡ None → table_cause tables i.table ≡ None
unfolding insert_refusal
insert_table tables i h = first_none (table_cause tables i.table) _ h

pub inserts_counted : InsertsCounted
unfolding insert_meaning
inserts_counted given n tables indexes texts i rows h =
    let change : Table → Change = λ t. insert_change texts t (uniques_of indexes i.table) (insert_targets t.columns i.columns) i in
    let both = unless_made (insert_cause given tables i) (change_of (table_named tables i.table) change) rows n h in
    counted (table_named tables i.table) change rows n (insert_count i)
    (is_there (table_named tables i.table) i.table (insert_table tables i (first_none (insert_refusal tables i) _ both.0)))
    (λ t is made. inserted texts t (uniques_of indexes i.table) (insert_targets t.columns i.columns) i rows n made) both.1

updated : (texts : List ℕ) (t : Table) (uniques : List (List ℕ)) (positions targets : List ℕ) (u : UpdateTree) (rows : List (List Value)) (n : ℕ)
    → update_change texts t uniques positions targets u ≡ Made rows n → n ≡ count_by (update_passes texts positions u) t.rows
unfolding update_change
updated texts t uniques positions targets u rows n h =
    let change = changed_row texts positions targets u in
    let keep = update_passes texts positions u in
    let made = map change (filter keep t.rows) in
    let after = map (λ row. if keep row then change row else row) t.rows in
    let both = unless_made (change_cause t.columns uniques made after) (Made after (length made)) rows n h in
    same_count after rows (length made) n both.1 ∙ length-map (filter keep t.rows) change ∙ length-filter keep t.rows

update_table : (tables : List Table) (u : UpdateTree) → update_refusal tables u ≡ None → table_cause tables u.table ≡ None
unfolding update_refusal
update_table tables u h = first_none (table_cause tables u.table) _ h

pub updates_counted : UpdatesCounted
unfolding update_meaning
updates_counted given n tables indexes texts u rows h =
    let positions = update_positions tables u in
    let change : Table → Change = λ t. update_change texts t (uniques_of indexes u.table) positions (update_targets t.columns u) u in
    let both = unless_made (update_cause given tables u) (change_of (table_named tables u.table) change) rows n h in
    counted (table_named tables u.table) change rows n (update_count tables texts u)
    (is_there (table_named tables u.table) u.table (update_table tables u (first_none (update_refusal tables u) _ both.0)))
    (λ t is made. updated texts t (uniques_of indexes u.table) positions (update_targets t.columns u) u rows n made
    ∙ ap (λ o. count_by (update_passes texts positions u) (rows_of o)) (sym is)) both.1

deleted : (texts : List ℕ) (t : Table) (positions : List ℕ) (d : DeleteTree) (rows : List (List Value)) (n : ℕ)
    → delete_change texts t positions d ≡ Made rows n → n ≡ count_by (delete_passes texts positions d) t.rows
unfolding delete_change
deleted texts t positions d rows n h =
    let goes = delete_passes texts positions d in
    same_count (filter (λ row. not (goes row)) t.rows) rows (count_by goes t.rows) n h

delete_table : (tables : List Table) (d : DeleteTree) → delete_refusal tables d ≡ None → table_cause tables d.table ≡ None
unfolding delete_refusal
delete_table tables d h = first_none (table_cause tables d.table) _ h

pub deletes_counted : DeletesCounted
unfolding delete_meaning
deletes_counted given n tables texts d rows h =
    let positions = delete_positions tables d in
    let change : Table → Change = λ t. delete_change texts t positions d in
    let both = unless_made (delete_cause given tables d) (change_of (table_named tables d.table) change) rows n h in
    counted (table_named tables d.table) change rows n (delete_count tables texts d)
    (is_there (table_named tables d.table) d.table (delete_table tables d (first_none (delete_refusal tables d) _ both.0)))
    (λ t is made. deleted texts t positions d rows n made ∙ ap (λ o. count_by (delete_passes texts positions d) (rows_of o)) (sym is)) both.1

rows_kept : (tables : List Table) (name : List ℕ) (t : Table) → table_named tables name ≡ Some t → with_rows tables name t.rows ≡ tables
rows_kept [] name t is = refl
rows_kept (x ∷ xs) name t is =
    let P : Bool → Type 0 = λ b. (if b then Some x else table_named xs name) ≡ Some t → (if b then record x { rows = t.rows } ∷ xs else x ∷ with_rows xs name t.rows) ≡ x ∷ xs in
    elim (same_name x.name name) as P [
      | true ↦ λ e. let same : x ≡ t = cc in ap (λ (y : Table). record x { rows = y.rows } ∷ xs) (sym same)
      | false ↦ λ e. ap (λ l. x ∷ l) (rows_kept xs name t e)
    ]
    is

vacuumed : (tables : List Table) (name : List ℕ) (o : Option Table) → table_named tables name ≡ o
    → tables_after tables name (unless (cause_if (not (is_some o)) (UnknownTable name)) (change_of o (λ t. Made t.rows 0))) ≡ tables
vacuumed tables name None is = refl
vacuumed tables name (Some t) is = rows_kept tables name t is

pub vacuum_keeps_tables : VacuumKeepsTables
unfolding vacuum_meaning
vacuum_keeps_tables tables name = vacuumed tables name (table_named tables name) refl
