-- The tables of FROM, one after the other.
use Rattle.std.proofs.Common.{◌≡◌, ◌<◌, ℕ, ◌+◌, Bool, true, List, [], ◌∷◌, ◌++◌, Option, Some, None, map, refl, sym, ap, ◌∙◌, length, get_or, drop, if◌then◌else◌, arith}
use Rattle.std.specs.Prelude.{is_some, slice_get}
use Rattle.std.proofs.lemmas.List.{append_assoc, drop_more, map-append}
use Rattle.hg_model.specs.Binding.{unknown_table}
use Rattle.hg_model.specs.Refusal.{UnknownTable}
use Rattle.hg_model.specs.Tables.{Table, table_named}
use Rattle.hg_model.specs.declared.trees.FromTable.{FromTable}

abbrev pub named_in : List Table → FromTable → Option Table
named_in tables f = table_named tables f.table

module _ (tables : List Table) (froms : List FromTable) (i : ℕ) (f : FromTable) (h : i < length froms) (is : f ≡ get_or froms i f) where
  abbrev rest : List FromTable
  rest = drop (i + 1) froms

  whole : drop i froms ≡ f ∷ rest
  whole = drop_more froms i f h ∙ ap (λ g. g ∷ rest) (sym is)

  pub unknown_here : named_in tables f ≡ None → unknown_table tables (drop i froms) ≡ Some (UnknownTable f.table)
  unknown_here none = ap (unknown_table tables) whole ∙ ap (λ o. if is_some o then unknown_table tables rest else Some (UnknownTable f.table)) none

  pub known_here : is_some (named_in tables f) ≡ true → unknown_table tables rest ≡ unknown_table tables (drop i froms)
  known_here there = sym (ap (unknown_table tables) whole ∙ ap (λ b. if b then unknown_table tables rest else Some (UnknownTable f.table)) there)

  pub numbers_next : (numbers more : List ℕ) (n : ℕ) → more ≡ numbers ++ n ∷ [] → slice_get tables n ≡ named_in tables f
      → map (slice_get tables) more ++ map (named_in tables) rest ≡ map (slice_get tables) numbers ++ map (named_in tables) (drop i froms)
  numbers_next numbers more n pushed same =
      ap (λ l. map (slice_get tables) l ++ map (named_in tables) rest) pushed
      ∙ ap (λ l. l ++ map (named_in tables) rest) (map-append (slice_get tables) numbers (n ∷ []))
      ∙ append_assoc (map (slice_get tables) numbers) (slice_get tables n ∷ []) (map (named_in tables) rest)
      ∙ ap (λ o. map (slice_get tables) numbers ++ o ∷ map (named_in tables) rest) same
      ∙ ap (λ l. map (slice_get tables) numbers ++ map (named_in tables) l) (sym whole)
