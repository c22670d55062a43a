-- A bound SELECT means what the statement means.
use Rattle.std.proofs.Common.{◌≡◌, ◌≤◌, ℕ, zero, suc, ◌^◌, Bool, true, false, List, [], ◌∷◌, ◌++◌, Option, Some, None, map, refl, sym, ap, subst, ◌∙◌, length, cond, not, ◌&&◌, ◌||◌, if◌then◌else◌}
use Rattle.std.specs.Prelude.{nat_lt, option_map, slice_get}
use Rattle.std.specs.List.{AllByRecursion, filter, list_all, list_any}
use Rattle.std.specs.Cmp.{first_so, second_so}
use Rattle.std.proofs.lemmas.Cmp.{nat_list_eq_equiv}
use Rattle.std.proofs.lemmas.Option.{slice_get-map}
use Rattle.hg_catalog.specs.Contents.{are_different_names}
use Rattle.hg_model.specs.Binding.{cause_if, grouping_fits, select_refusal, unknown_table}
use Rattle.hg_model.specs.Order.{Pair}
use Rattle.hg_model.specs.Query.{Query}
use Rattle.hg_model.specs.Refusal.{Refusal, NotGrouped, first_cause}
use Rattle.hg_model.specs.Scope.{columns_from, columns_of, positions_of, rows_of, scope_from, scope_of}
use Rattle.hg_model.specs.SelectMeaning.{Setting, first_pairs_from, first_row, from_rows, group_key, groups_of, is_grouped, keeps_group, keeps_row, kept_rows, meaning, pairs_of, setting_of, too_many}
use Rattle.hg_model.specs.Tables.{Table, cross, same_name, table_fits, table_named}
use Rattle.hg_model.specs.declared.tables.FromColumn.{FromColumn}
use Rattle.hg_model.specs.declared.trees.Column.{Column}
use Rattle.hg_model.specs.declared.trees.FromTable.{FromTable}
use Rattle.hg_model.specs.declared.values.Value.{Value}
use Rattle.hg_bind.specs.BoundMeaning.{AreTablesOf, BoundMeansTheSame, KeysStandApart, MeansTheSame, bare, bound_meaning, bound_rows, bound_setting, bound_too_many, rows_at, rows_beside, width_at}
use Rattle.hg_bind.specs.BoundSelect.{AreTables, IsBoundSelect, place_of_found, places_written, position_at, widths_of, written_out}
use Rattle.hg_bind.proofs.Meanings.{Fits, bound_groups, keeps_alike, pairs_alike, placed_of, plain_of}
use Rattle.hg_bind.proofs.Positions.{place_is}
use Rattle.hg_bind.proofs.Widths.{Wide, all_filter, all_first, all_weaken, from_width, star_alone}

map_map : {X Y Z : Type 0} (f : Y → Z) (g : X → Y) (xs : List X) → map f (map g xs) ≡ map (λ x. f (g x)) xs
map_map f g [] = refl
map_map f g (x ∷ xs) = ap (λ l. f (g x) ∷ l) (map_map f g xs)

-- binding looks at no row
named_step : (b : Bool) (t : Table) (o o' : Option Table) → o' ≡ option_map bare o → cond b (Some (bare t)) o' ≡ option_map bare (cond b (Some t) o)
named_step true t o o' e = refl
named_step false t o o' e = e

named_bare : (ts : List Table) (name : List ℕ) → table_named (map bare ts) name ≡ option_map bare (table_named ts name)
named_bare [] name = refl
named_bare (t ∷ ts) name = named_step (same_name t.name name) t (table_named ts name) (table_named (map bare ts) name) (named_bare ts name)

columns_bare : (o : Option Table) → columns_of (option_map bare o) ≡ columns_of o
columns_bare None = refl
columns_bare (Some t) = refl

scope_bare : (ts : List Table) (k : ℕ) (froms : List FromTable) → scope_from (map bare ts) k froms ≡ scope_from ts k froms
scope_bare ts k [] = refl
scope_bare ts k (f ∷ fs) =
    ap (λ cs. columns_from k f.alias 0 cs ++ scope_from (map bare ts) (suc k) fs) (ap columns_of (named_bare ts f.table) ∙ columns_bare (table_named ts f.table))
    ∙ ap (λ l. columns_from k f.alias 0 (columns_of (table_named ts f.table)) ++ l) (scope_bare ts (suc k) fs)

-- a number is that of the table of a name, whatever rows the tables have
or_first : (b c : Bool) → b ≡ true → (b || c) ≡ true
or_first true c h = refl
or_first false c h = absurd cc

or_second : (b c : Bool) → c ≡ true → (b || c) ≡ true
or_second true c h = refl
or_second false c h = h

name_self : (name : List ℕ) → same_name name name ≡ true
name_self name = nat_list_eq_equiv.refl name

stands_there : (ts : List Table) (k : ℕ) (u : Table) → slice_get (map bare ts) k ≡ Some u → list_any (same_name u.name) (map (λ (t : Table). t.name) ts) ≡ true
stands_there [] k u h = absurd cc
stands_there (t ∷ ts) zero u h =
    let is : bare t ≡ u = cc in
    or_first (same_name u.name t.name) (list_any (same_name u.name) (map (λ (t : Table). t.name) ts))
    (ap (λ (x : Table). same_name x.name t.name) (sym is) ∙ name_self t.name)
stands_there (t ∷ ts) (suc k) u h = or_second (same_name u.name t.name) (list_any (same_name u.name) (map (λ (t : Table). t.name) ts)) (stands_there ts k u h)

found_step : (name : List ℕ) (b : Bool) (t u : Table) (o : Option Table) → same_name t.name name ≡ b → (o ≡ Some u → same_name u.name name ≡ true) → cond b (Some t) o ≡ Some u
    → same_name u.name name ≡ true
found_step name true t u o e more h = let is : t ≡ u = cc in ap (λ (x : Table). same_name x.name name) (sym is) ∙ e
found_step name false t u o e more h = more h

found_named : (ts : List Table) (name : List ℕ) (u : Table) → table_named ts name ≡ Some u → same_name u.name name ≡ true
found_named [] name u h = absurd cc
found_named (t ∷ ts) name u h = found_step name (same_name t.name name) t u (table_named ts name) refl (found_named ts name u) h

not_both : (b : Bool) → not b ≡ true → b ≡ true → ⊥
not_both true h e = absurd cc
not_both false h e = absurd cc

number_step : (t : Table) (ts : List Table) (name : List ℕ) → not (list_any (same_name t.name) (map (λ (t : Table). t.name) ts)) ≡ true
    → ((k : ℕ) → slice_get (map bare ts) k ≡ table_named (map bare ts) name → slice_get ts k ≡ table_named ts name)
    → (b : Bool) → same_name t.name name ≡ b → (k : ℕ) → slice_get (map bare (t ∷ ts)) k ≡ cond b (Some (bare t)) (table_named (map bare ts) name)
    → slice_get (t ∷ ts) k ≡ cond b (Some t) (table_named ts name)
number_step t ts name new more true e zero h = refl
number_step t ts name new more true e (suc k) h = absurd (not_both (list_any (same_name t.name) (map (λ (t : Table). t.name) ts)) new (stands_there ts k (bare t) h))
number_step t ts name new more false e zero h = let is : same_name t.name name ≡ true = found_named (map bare ts) name (bare t) (sym h) in absurd cc
number_step t ts name new more false e (suc k) h = more k h

number_same : (ts : List Table) (k : ℕ) (name : List ℕ) → are_different_names (map (λ (t : Table). t.name) ts) ≡ true → slice_get (map bare ts) k ≡ table_named (map bare ts) name
    → slice_get ts k ≡ table_named ts name
number_same [] k name d h = refl
number_same (t ∷ ts) k name d h =
    number_step t ts name (first_so (not (list_any (same_name t.name) (map (λ (t : Table). t.name) ts))) (are_different_names (map (λ (t : Table). t.name) ts)) d)
    (λ j. number_same ts j name (second_so (not (list_any (same_name t.name) (map (λ (t : Table). t.name) ts))) (are_different_names (map (λ (t : Table). t.name) ts)) d))
    (same_name t.name name) refl k h

module _ (seen tables : List Table) (are : AreTablesOf seen tables) where
  one_number : (k : ℕ) (name : List ℕ) → slice_get seen k ≡ table_named seen name → slice_get tables k ≡ table_named tables name
  one_number k name h =
      number_same tables k name are.different
      (ap (λ ts. slice_get ts k) are.bare_are ∙ slice_get-map bare seen k ∙ ap (option_map bare) h ∙ sym (named_bare seen name) ∙ ap (λ ts. table_named ts name) (sym are.bare_are))

  all_numbers : (numbers : List ℕ) (froms : List FromTable) → map (slice_get seen) numbers ≡ map (λ (f : FromTable). table_named seen f.table) froms
      → map (slice_get tables) numbers ≡ map (λ (f : FromTable). table_named tables f.table) froms
  all_numbers [] [] h = refl
  all_numbers [] (f ∷ fs) h = absurd cc
  all_numbers (n ∷ ns) [] h = absurd cc
  all_numbers (n ∷ ns) (f ∷ fs) h =
      let here : slice_get seen n ≡ table_named seen f.table = cc in
      let others : map (slice_get seen) ns ≡ map (λ (f : FromTable). table_named seen f.table) fs = cc in
      ap (λ o. o ∷ map (slice_get tables) ns) (one_number n f.table here) ∙ ap (λ l. table_named tables f.table ∷ l) (all_numbers ns fs others)

  scope_same : (k : ℕ) (froms : List FromTable) → scope_from seen k froms ≡ scope_from tables k froms
  scope_same k froms = sym (scope_bare seen k froms) ∙ ap (λ ts. scope_from ts k froms) (sym are.bare_are) ∙ scope_bare tables k froms

-- the cause of grouping is the seventh
cause_left : (o : Option Refusal) (more : List (Option Refusal)) → first_cause (o ∷ more) ≡ None → (o ≡ None) × (first_cause more ≡ None)
unfolding first_cause
cause_left None more h = (refl, h)
cause_left (Some r) more h = absurd cc

seventh : (a b c d e f g : Option Refusal) (more : List (Option Refusal)) → first_cause (a ∷ b ∷ c ∷ d ∷ e ∷ f ∷ g ∷ more) ≡ None → g ≡ None
seventh a b c d e f g more none =
    let first = (cause_left a (b ∷ c ∷ d ∷ e ∷ f ∷ g ∷ more) none).1 in
    let second = (cause_left b (c ∷ d ∷ e ∷ f ∷ g ∷ more) first).1 in
    let third = (cause_left c (d ∷ e ∷ f ∷ g ∷ more) second).1 in
    let fourth = (cause_left d (e ∷ f ∷ g ∷ more) third).1 in
    let fifth = (cause_left e (f ∷ g ∷ more) fourth).1 in
    let sixth = (cause_left f (g ∷ more) fifth).1 in
    (cause_left g more sixth).0

no_cause : (b : Bool) (r : Refusal) → cause_if (not b) r ≡ None → b ≡ true
no_cause true r h = refl
no_cause false r h = absurd cc

grouping_so : (ts : List Table) (q : Query) → select_refusal ts q ≡ None → grouping_fits (scope_of ts q) (positions_of (scope_of ts q) q) q ≡ true
unfolding select_refusal
grouping_so ts q h = no_cause (grouping_fits (scope_of ts q) (positions_of (scope_of ts q) q) q) NotGrouped (seventh _ _ _ _ _ _ _ _ h)

module _ (seen tables : List Table) (q bound : Query) (texts numbers : List ℕ) (places : List (ℕ × ℕ)) (is_bound : IsBoundSelect seen q bound numbers places)
    (apart : KeysStandApart q) (few : length q.tables ≤ 4) (are : AreTablesOf seen tables) where
  abbrev scope : List FromColumn
  scope = scope_of tables q

  abbrev positions : List ℕ
  positions = positions_of scope q

  abbrev at : ℕ × ℕ → ℕ
  at p = position_at (map (width_at tables) numbers) p

  abbrev plain : Setting
  plain = plain_of scope q texts

  abbrev placed : Setting
  placed = placed_of scope q texts at

  scope_is : scope_of seen q ≡ scope
  scope_is = scope_same seen tables are 0 q.tables

  tables_are : map (slice_get tables) numbers ≡ map (λ (f : FromTable). table_named tables f.table) q.tables
  tables_are = all_numbers seen tables are numbers q.tables is_bound.tables_are

  widths_are : map (width_at tables) numbers ≡ widths_of tables q.tables
  widths_are =
      sym (map_map (λ (o : Option Table). length (columns_of o)) (slice_get tables) numbers)
      ∙ ap (map (λ (o : Option Table). length (columns_of o))) tables_are
      ∙ map_map (λ (o : Option Table). length (columns_of o)) (λ (f : FromTable). table_named tables f.table) q.tables

  rows_are : rows_beside tables numbers ≡ from_rows q tables
  rows_are = ap cross (
      sym (map_map rows_of (slice_get tables) numbers) ∙ ap (map rows_of) tables_are ∙ map_map rows_of (λ (f : FromTable). table_named tables f.table) q.tables)

  at_is : (p : ℕ) → p ≤ length scope → at (place_of_found (slice_get scope p)) ≡ p
  at_is p h = ap (λ w. position_at w (place_of_found (slice_get scope p))) widths_are ∙ place_is tables q.tables few p h

  bound_is : bound ≡ written_out scope positions q
  bound_is = is_bound.bound_is ∙ ap (λ s. written_out s (positions_of s q) q) scope_is

  places_are : places ≡ places_written scope positions q
  places_are = is_bound.places_are ∙ ap (λ s. places_written s (positions_of s q) q) scope_is

  setting_is : bound_setting tables bound texts numbers places ≡ placed
  setting_is = ap (λ b. bound_setting tables b texts numbers places) bound_is ∙ ap (bound_setting tables (written_out scope positions q) texts numbers) places_are

  rows_same : bound_rows tables bound texts numbers places ≡ kept_rows (setting_of q texts tables) tables
  unfolding bound_rows kept_rows
  rows_same =
      ap (λ s. filter (keeps_row s) (rows_beside tables numbers)) setting_is
      ∙ ap (filter (keeps_row placed)) rows_are
      ∙ ap (λ k. filter k (from_rows q tables)) (keeps_alike scope q texts at at_is apart)

  abbrev rows : List (List Value)
  rows = kept_rows (setting_of q texts tables) tables

  wide : Wide (length scope) rows
  unfolding kept_rows
  wide = all_filter (λ (row : List Value). length row ≡ length scope) (keeps_row plain) (from_rows q tables) (from_width tables 0 q.tables are.fit)

  fits : AllByRecursion (Fits scope q) rows
  fits = all_weaken (λ (row : List Value). length row ≡ length scope) (Fits scope q) (λ row e star. e) rows wide

  none_fits : is_grouped q ≡ true → nat_lt 0 (length q.group) ≡ false → Fits scope q []
  none_fits grouped none star =
      star_alone scope positions q (ap (λ s. grouping_fits s (positions_of s q) q) (sym scope_is) ∙ grouping_so seen q is_bound.unrefused) grouped none star

  groups_fit : is_grouped q ≡ true → AllByRecursion (λ g. Fits scope q (first_row g)) (filter (keeps_group plain) (groups_of plain rows))
  groups_fit grouped =
      all_filter (λ (g : List (List Value)). Fits scope q (first_row g)) (keeps_group plain) (groups_of plain rows)
      (all_first (Fits scope q) (group_key plain) rows (nat_lt 0 (length q.group)) fits (none_fits grouped))

  pairs_same : bound_meaning tables bound texts numbers places ≡ meaning q texts tables
  unfolding bound_meaning meaning
  pairs_same =
      ap (λ (b : Query). if b.distinct then first_pairs_from [] (pairs_of (bound_setting tables bound texts numbers places) (bound_rows tables bound texts numbers places))
      else pairs_of (bound_setting tables bound texts numbers places) (bound_rows tables bound texts numbers places)) bound_is
      ∙ ap (λ s. if q.distinct then first_pairs_from [] (pairs_of s (bound_rows tables bound texts numbers places)) else pairs_of s (bound_rows tables bound texts numbers places)) setting_is
      ∙ ap (λ l. if q.distinct then first_pairs_from [] (pairs_of placed l) else pairs_of placed l) rows_same
      ∙ ap (λ (ps : List Pair). if q.distinct then first_pairs_from [] ps else ps) (pairs_alike scope q texts at at_is apart rows fits groups_fit)

  many_same : bound_too_many tables bound texts numbers places ≡ too_many q texts tables
  unfolding bound_too_many too_many
  many_same =
      ap (λ b. is_grouped b && nat_lt (2 ^ 30) (length (bound_rows tables bound texts numbers places))) bound_is
      ∙ ap (λ g. g && nat_lt (2 ^ 30) (length (bound_rows tables bound texts numbers places))) (bound_groups scope positions q)
      ∙ ap (λ l. is_grouped q && nat_lt (2 ^ 30) (length l)) rows_same

pub bound_means_the_same : BoundMeansTheSame
bound_means_the_same seen tables q bound texts numbers places is_bound apart few are = record {
  rows = rows_same seen tables q bound texts numbers places is_bound apart few are;
  pairs = pairs_same seen tables q bound texts numbers places is_bound apart few are;
  many = many_same seen tables q bound texts numbers places is_bound apart few are;
}
