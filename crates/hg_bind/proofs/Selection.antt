-- The first cause against a SELECT, and its bound form.
use Rattle.std.proofs.Common.{◌≡◌, ◌≤◌, ◌<◌, ℕ, Bool, true, false, List, [], ◌∷◌, Option, Some, None, map, refl, sym, ap, subst, ◌∙◌, length, not, ◌&&◌, arith}
use Rattle.std.specs.Prelude.{option_map, nat_lt}
use Rattle.std.specs.List.{list_any}
use Rattle.std.proofs.lemmas.Bool.Decides.{nat_tests}
use Rattle.hg_model.specs.Binding.{cause_if, grouping_fits, is_outside, lengths_fit, names_from, repeated_name, select_kinds, select_refusal, select_types_fit, unknown_table}
use Rattle.hg_model.specs.Query.{Query}
use Rattle.hg_model.specs.Refusal.{Refusal, BadNumber, TypeMismatch, NotGrouped, TooWide, RowTooLong, TooMany, first_cause}
use Rattle.hg_model.specs.Scope.{scope_of, positions_of, output_count}
use Rattle.hg_model.specs.Tables.{Table}
use Rattle.hg_model.specs.Types.{all_narrow}
use Rattle.hg_model.specs.declared.tables.FromColumn.{FromColumn}
use Rattle.hg_model.specs.declared.trees.Count.TheVariants as count
use Rattle.hg_model.specs.declared.trees.FromTable.{FromTable}
use Rattle.hg_model.specs.declared.trees.OrderKey.{OrderKey}
use Rattle.hg_bind.specs.Bound.{error_of}
use Rattle.hg_bind.specs.BoundSelect.{AreTables, IsBoundSelect, bound_key, causes_behind_names, causes_behind_tables, places_with, written_with}
use Rattle.hg_bind.specs.Selecting.{named_from}
use Rattle.hg_bind.specs.declared.errors.BindError.{BindError}
use Rattle.hg_bind.proofs.NameCauses.{cause_later, handed, unanswered}

abbrev pub five : Bool → Bool → Bool → Bool → Bool → Option Refusal
five o t g n l =
    first_cause (cause_if o BadNumber ∷ cause_if (not t) TypeMismatch ∷ cause_if (not g) NotGrouped ∷ cause_if (not n) TooWide ∷ cause_if (not l) RowTooLong ∷ [])

pub five_number : (o t g n l : Bool) → o ≡ true → five o t g n l ≡ Some BadNumber
unfolding first_cause
five_number o t g n l a = ap (λ b. five b t g n l) a

pub five_types : (o t g n l : Bool) → o ≡ false → t ≡ false → five o t g n l ≡ Some TypeMismatch
unfolding first_cause
five_types o t g n l a b = ap (λ x. five x t g n l) a ∙ ap (λ x. five false x g n l) b

pub five_groups : (o t g n l : Bool) → o ≡ false → t ≡ true → g ≡ false → five o t g n l ≡ Some NotGrouped
unfolding first_cause
five_groups o t g n l a b c = ap (λ x. five x t g n l) a ∙ ap (λ x. five false x g n l) b ∙ ap (λ x. five false true x n l) c

pub five_wide : (o t g n l : Bool) → o ≡ false → t ≡ true → g ≡ true → n ≡ false → five o t g n l ≡ Some TooWide
unfolding first_cause
five_wide o t g n l a b c d = ap (λ x. five x t g n l) a ∙ ap (λ x. five false x g n l) b ∙ ap (λ x. five false true x n l) c ∙ ap (λ x. five false true true x l) d

pub five_long : (o t g n l : Bool) → o ≡ false → t ≡ true → g ≡ true → n ≡ true → l ≡ false → five o t g n l ≡ Some RowTooLong
unfolding first_cause
five_long o t g n l a b c d e =
    ap (λ x. five x t g n l) a ∙ ap (λ x. five false x g n l) b ∙ ap (λ x. five false true x n l) c ∙ ap (λ x. five false true true x l) d ∙ ap (λ x. five false true true true x) e

pub five_none : (o t g n l : Bool) → o ≡ false → t ≡ true → g ≡ true → n ≡ true → l ≡ true → five o t g n l ≡ None
unfolding first_cause
five_none o t g n l a b c d e =
    ap (λ x. five x t g n l) a ∙ ap (λ x. five false x g n l) b ∙ ap (λ x. five false true x n l) c ∙ ap (λ x. five false true true x l) d ∙ ap (λ x. five false true true true x) e

-- of a SELECT
module _ (S : List FromColumn) (P : List ℕ) (q : Query) where
  abbrev out : Bool
  out = list_any (λ (k : OrderKey). is_outside (output_count S q) k.by) q.order

  abbrev typed : Bool
  typed = select_types_fit q (select_kinds S P q)

  pub last_number : out ≡ true → first_cause (causes_behind_names S P q) ≡ Some BadNumber
  last_number a = five_number out typed (grouping_fits S P q) (all_narrow q.nodes) (lengths_fit S P q) a

  pub last_types : out ≡ false → typed ≡ false → first_cause (causes_behind_names S P q) ≡ Some TypeMismatch
  last_types a b = five_types out typed (grouping_fits S P q) (all_narrow q.nodes) (lengths_fit S P q) a b

  pub last_groups : out ≡ false → typed ≡ true → grouping_fits S P q ≡ false → first_cause (causes_behind_names S P q) ≡ Some NotGrouped
  last_groups a b c = five_groups out typed (grouping_fits S P q) (all_narrow q.nodes) (lengths_fit S P q) a b c

  pub last_wide : out ≡ false → typed ≡ true → grouping_fits S P q ≡ true → all_narrow q.nodes ≡ false → first_cause (causes_behind_names S P q) ≡ Some TooWide
  last_wide a b c d = five_wide out typed (grouping_fits S P q) (all_narrow q.nodes) (lengths_fit S P q) a b c d

  pub last_long : out ≡ false → typed ≡ true → grouping_fits S P q ≡ true → all_narrow q.nodes ≡ true → lengths_fit S P q ≡ false
      → first_cause (causes_behind_names S P q) ≡ Some RowTooLong
  last_long a b c d e = five_long out typed (grouping_fits S P q) (all_narrow q.nodes) (lengths_fit S P q) a b c d e

  pub last_none : out ≡ false → typed ≡ true → grouping_fits S P q ≡ true → all_narrow q.nodes ≡ true → lengths_fit S P q ≡ true
      → first_cause (causes_behind_names S P q) ≡ None
  last_none a b c d e = five_none out typed (grouping_fits S P q) (all_narrow q.nodes) (lengths_fit S P q) a b c d e

-- three causes before those
abbrev pub behind : Option Refusal → Bool → Option Refusal → List (Option Refusal) → Option Refusal
behind a b c more = first_cause (a ∷ cause_if b (TooMany count.Outputs) ∷ c ∷ more)

pub behind_alias : (a : Option Refusal) (b : Bool) (c : Option Refusal) (more : List (Option Refusal)) (e : BindError) → option_map error_of a ≡ Some e → option_map error_of (behind a b c more) ≡ Some e
behind_alias a b c more e is = handed a (cause_if b (TooMany count.Outputs) ∷ c ∷ more) e is

pub behind_outputs : (a : Option Refusal) (b : Bool) (c : Option Refusal) (more : List (Option Refusal)) → a ≡ None → b ≡ true → behind a b c more ≡ Some (TooMany count.Outputs)
unfolding first_cause
behind_outputs a b c more none is = ap (λ x. behind x b c more) none ∙ ap (λ x. behind None x c more) is

pub behind_names : (a : Option Refusal) (b : Bool) (c : Option Refusal) (more : List (Option Refusal)) (e : BindError) → a ≡ None → b ≡ false → option_map error_of c ≡ Some e
    → option_map error_of (behind a b c more) ≡ Some e
unfolding first_cause
behind_names a b c more e none is caused =
    ap (option_map error_of) (ap (λ x. behind x b c more) none ∙ ap (λ x. behind None x c more) is) ∙ handed c more e caused

pub behind_more : (a : Option Refusal) (b : Bool) (c : Option Refusal) (more : List (Option Refusal)) → a ≡ None → b ≡ false → c ≡ None → behind a b c more ≡ first_cause more
unfolding first_cause
behind_more a b c more none is also = ap (λ x. behind x b c more) none ∙ ap (λ x. behind None x c more) is ∙ ap (λ x. behind None false x more) also

module _ (S : List FromColumn) (P : List ℕ) (q : Query) (froms : List FromTable) (froms_are : froms ≡ q.tables) where
  abbrev alias_cause : List FromTable → Option Refusal
  alias_cause l = repeated_name (map (λ (f : FromTable). f.alias) l)

  abbrev long_star : Bool
  long_star = q.star && nat_lt 16 (length S)

  abbrev names : Option Refusal
  names = first_cause (names_from S P q 0 q.nodes)

  abbrev told : Option BindError
  told = option_map error_of (first_cause (causes_behind_tables S P q))

  alias_so : (o : Option BindError) → option_map error_of (alias_cause froms) ≡ o → option_map error_of (alias_cause q.tables) ≡ o
  alias_so o h = ap (λ l. option_map error_of (alias_cause l)) (sym froms_are) ∙ h

  pub refused_alias : (e : BindError) → option_map error_of (alias_cause froms) ≡ Some e → told ≡ Some e
  refused_alias e h = behind_alias (alias_cause q.tables) long_star names (causes_behind_names S P q) e (alias_so (Some e) h)

  module _ (none : option_map error_of (alias_cause froms) ≡ None) where
    no_alias : alias_cause q.tables ≡ None
    no_alias = unanswered _ (alias_so None none)

    pub refused_outputs : long_star ≡ true → told ≡ Some (error_of (TooMany count.Outputs))
    refused_outputs h = ap (option_map error_of) (behind_outputs (alias_cause q.tables) long_star names (causes_behind_names S P q) no_alias h)

    pub refused_names : long_star ≡ false → (e : BindError) → option_map error_of names ≡ Some e → told ≡ Some e
    refused_names h e is = behind_names (alias_cause q.tables) long_star names (causes_behind_names S P q) e no_alias h is

    pub refused_later : long_star ≡ false → option_map error_of names ≡ None → told ≡ option_map error_of (first_cause (causes_behind_names S P q))
    refused_later h is = ap (option_map error_of) (behind_more (alias_cause q.tables) long_star names (causes_behind_names S P q) no_alias h (unanswered _ is))

module _ (tables : List Table) (q : Query) (froms : List FromTable) (S : List FromColumn) (P : List ℕ) (froms_are : froms ≡ q.tables) (scope_is : S ≡ scope_of tables q)
    (positions_are : P ≡ positions_of S q) where
  abbrev S' : List FromColumn
  S' = scope_of tables q

  abbrev P' : List ℕ
  P' = positions_of S' q

  opened : select_refusal tables q ≡ first_cause (unknown_table tables q.tables ∷ causes_behind_tables S' P' q)
  unfolding select_refusal
  opened = refl

  same_positions : P ≡ P'
  same_positions = positions_are ∙ ap (λ s. positions_of s q) scope_is

  same_causes : first_cause (causes_behind_tables S P q) ≡ first_cause (causes_behind_tables S' P' q)
  same_causes = ap (λ s. first_cause (causes_behind_tables s P q)) scope_is ∙ ap (λ p. first_cause (causes_behind_tables S' p q)) same_positions

  pub select_unknown : (e : BindError) → option_map error_of (unknown_table tables froms) ≡ Some e → option_map error_of (select_refusal tables q) ≡ Some e
  select_unknown e is = ap (option_map error_of) opened ∙ handed _ _ e (ap (λ l. option_map error_of (unknown_table tables l)) (sym froms_are) ∙ is)

  module _ (known : unknown_table tables froms ≡ None) where
    behind_tables : select_refusal tables q ≡ first_cause (causes_behind_tables S P q)
    behind_tables =
        opened ∙ ap (λ o. first_cause (o ∷ causes_behind_tables S' P' q)) (ap (unknown_table tables) (sym froms_are) ∙ known) ∙ cause_later _ ∙ sym same_causes

    pub select_refused : (e : BindError) → option_map error_of (first_cause (causes_behind_tables S P q)) ≡ Some e → option_map error_of (select_refusal tables q) ≡ Some e
    select_refused e is = ap (option_map error_of) behind_tables ∙ is

    pub select_bound : (numbers : List ℕ) (named : List (Option ℕ)) (keys : List OrderKey) (bound : Query) (places : List (ℕ × ℕ)) → option_map error_of (first_cause (causes_behind_tables S P q)) ≡ None
        → AreTables tables froms numbers → named ≡ named_from S P q 0 q.nodes → keys ≡ map (bound_key S P q) q.order → bound ≡ written_with S named keys q → places ≡ places_with S named q
        → IsBoundSelect tables q bound numbers places
    select_bound numbers named keys bound places none are named_are keys_are bound_is places_are =
        let named_so : named ≡ named_from S' P' q 0 q.nodes = named_are ∙ ap (λ s. named_from s P q 0 q.nodes) scope_is ∙ ap (λ p. named_from S' p q 0 q.nodes) same_positions in
        let keys_so : keys ≡ map (bound_key S' P' q) q.order = keys_are ∙ ap (λ s. map (bound_key s P q) q.order) scope_is ∙ ap (λ p. map (bound_key S' p q) q.order) same_positions in
        record {
          unrefused = behind_tables ∙ unanswered _ none;
          tables_are = subst (λ l. AreTables tables l numbers) froms_are are;
          bound_is =
              bound_is ∙ ap (λ s. written_with s named keys q) scope_is ∙ ap (λ n. written_with S' n keys q) named_so
              ∙ ap (λ k. written_with S' (named_from S' P' q 0 q.nodes) k q) keys_so;
          places_are = places_are ∙ ap (λ s. places_with s named q) scope_is ∙ ap (λ n. places_with S' n q) named_so;
        }

pub few_star : (star : Bool) (n : ℕ) → (star && nat_lt 16 n) ≡ false → star ≡ true → n ≤ 16
few_star true n h e = grind (arith, nat_tests)
few_star false n h e = absurd cc
