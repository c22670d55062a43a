-- Rules by what comes next.
use Rattle.std.proofs.Common.{◌≡◌, ℕ, Bool, true, false, List, [], ◌∷◌, Option, Some, None, refl, ap, ◌∙◌}
use Rattle.std.specs.Prelude.{not, codes, if◌then◌else◌, ⊤}
use Rattle.hg_model.specs.Grammar.{plus, minus}
use Rattle.hg_model.specs.Tables.{same_name}
use Rattle.hg_model.specs.Tokens.{Token, Word, Digits, Letters, Sign, is_reserved}
use Rattle.hg_model.specs.declared.trees.Literal.TheVariants as literal
use Rattle.hg_model.specs.declared.trees.FromTable.{FromTable}
use Rattle.hg_model.specs.declared.trees.OrderBy.TheVariants.{Position}
use mathlib.Core.Path.{fun_ext}
use Rattle.hg_parse.proofs.Eaten.{same_back}
use Rattle.hg_parse.specs.AtHand.{digits_in, text_in, name_in}
use Rattle.hg_parse.specs.Building.{Builder}
use Rattle.hg_parse.specs.Commands.{soft_steps}
use Rattle.hg_parse.specs.Descent.{key, name, column}
use Rattle.hg_parse.specs.Rules.{constant, number, positive, negative, order_key, key_by, column_key, insert, select, select_form, update, delete, create, open_for, of_name, of_number, of_both, command, Form, StartForm, WorkForm, FetchForm, CloseForm, VacuumForm, PoolForm, MplForm, MemoryForm, alias, aliased, from_table}
use Rattle.hg_parse.specs.Steps.{Answer, got, and_then, eats, behind, after}

module _ {S : Type 0} (b : Builder S) where
  abbrev pub constant_4 : S → List Token → Answer S ⊤
  constant_4 s ts = if eats minus ts then and_then (number s (behind ts)) (negative b) else None

  abbrev pub constant_3 : S → List Token → Answer S ⊤
  constant_3 s ts = if eats plus ts then and_then (number s (behind ts)) (positive b) else constant_4 s ts

  abbrev pub constant_2 : S → List Token → Answer S ⊤
  constant_2 s ts = if eats (key (codes "null")) ts then got (b.value s literal.Null) tt (behind ts) else constant_3 s ts

  abbrev pub constant_1 : S → Option ℕ → List Token → Answer S ⊤
  constant_1 s None ts = constant_2 s ts
  constant_1 s (Some n) ts = positive b s n (behind ts)

  abbrev pub constant_0 : S → Option (List ℕ) → List Token → Answer S ⊤
  constant_0 s None ts = constant_1 s (digits_in ts) ts
  constant_0 s (Some t) ts = got (b.text_value s t) tt (behind ts)

  pub constant_by : (s : S) (ts : List Token) → constant b s ts ≡ constant_0 s (text_in ts) ts
  constant_by s [] = refl
  constant_by s (Word w ∷ ts) = ap (λ x. if x then got (b.value s literal.Null) tt ts else None) (same_back w (codes "null"))
  constant_by s (Digits ds ∷ ts) = refl
  constant_by s (Letters t ∷ ts) = refl
  constant_by s (Sign w ∷ ts) =
      ap (λ x. if x then and_then (number s ts) (positive b) else (if same_name w (45 ∷ []) then and_then (number s ts) (negative b) else None)) (same_back w (43 ∷ []))
      ∙ ap (λ x. if same_name (43 ∷ []) w then and_then (number s ts) (positive b) else (if x then and_then (number s ts) (negative b) else None)) (same_back w (45 ∷ []))

  abbrev pub order_key_0 : S → Option ℕ → List Token → Answer S ⊤
  order_key_0 s None ts = and_then (column s ts) (column_key b)
  order_key_0 s (Some n) ts = key_by b s (Position n) (behind ts)

  pub order_key_by : (s : S) (ts : List Token) → order_key b s ts ≡ order_key_0 s (digits_in ts) ts
  order_key_by s [] = refl
  order_key_by s (Word w ∷ ts) = refl
  order_key_by s (Digits ds ∷ ts) = refl
  order_key_by s (Letters t ∷ ts) = refl
  order_key_by s (Sign w ∷ ts) = refl

  abbrev command_words : (w : List ℕ) (ts : List Token) (s : S) → (List ℕ → Bool) → Answer S Form
  command_words w ts s is =
      if is (codes "insert") then insert b s ts
      else if is (codes "select") then and_then (select b s ts) (select_form b)
      else if is (codes "update") then update b s ts
      else if is (codes "delete") then delete b s ts
      else if is (codes "create") then create b s ts
      else if is (codes "open") then and_then (name s ts) (open_for b)
      else if is (codes "start") then and_then (name s ts) (of_both b StartForm)
      else if is (codes "work") then and_then (number s ts) (of_number b WorkForm)
      else if is (codes "fetch") then and_then (name s ts) (of_both b FetchForm)
      else if is (codes "close") then and_then (name s ts) (of_name b CloseForm)
      else if is (codes "vacuum") then and_then (name s ts) (of_name b VacuumForm)
      else if is (codes "pool") then and_then (number s ts) (of_number b PoolForm)
      else if is (codes "mpl") then and_then (number s ts) (of_number b MplForm)
      else if is (codes "show") then after (key (codes "memory")) ts (λ us. got s MemoryForm us)
      else None

  abbrev pub command_steps : S → List Token → Answer S Form
  command_steps s ts =
      if eats (key (codes "insert")) ts then insert b s (behind ts)
      else if eats (key (codes "select")) ts then and_then (select b s (behind ts)) (select_form b)
      else if eats (key (codes "update")) ts then update b s (behind ts)
      else if eats (key (codes "delete")) ts then delete b s (behind ts)
      else if eats (key (codes "create")) ts then create b s (behind ts)
      else soft_steps b s ts

  pub command_by : (s : S) (ts : List Token) → command b s ts ≡ command_steps s ts
  unfolding command
  command_by s [] = refl
  command_by s (Word w ∷ ts) = ap (command_words w ts s) (fun_ext (λ v. same_back w v))
  command_by s (Digits ds ∷ ts) = refl
  command_by s (Letters t ∷ ts) = refl
  command_by s (Sign w ∷ ts) = refl

module _ {S : Type 0} where
  abbrev pub alias_0 : List ℕ → S → Option (List ℕ) → List Token → Answer S FromTable
  alias_0 t s None ts = got s (from_table t t) ts
  alias_0 t s (Some a) ts = got s (from_table t a) (behind ts)

  abbrev pub alias_1 : List ℕ → S → List Token → Answer S FromTable
  alias_1 t s ts = if eats (key (codes "as")) ts then and_then (name s (behind ts)) (aliased t) else alias_0 t s (name_in ts) ts

  alias_word : (r : Bool) (t w : List ℕ) (s : S) (ts : List Token)
      → (if not r then and_then (if r then None else got s w ts) (aliased t) else got s (from_table t t) (Word w ∷ ts)) ≡ alias_0 t s (if r then None else Some w) (Word w ∷ ts)
  alias_word true t w s ts = refl
  alias_word false t w s ts = refl

  pub alias_by : (s : S) (t : List ℕ) (ts : List Token) → alias s t ts ≡ alias_1 t s ts
  alias_by s t [] = refl
  alias_by s t (Word w ∷ ts) = ap (λ x. if same_name (codes "as") w then and_then (name s ts) (aliased t) else x) (alias_word (is_reserved w) t w s ts)
  alias_by s t (Digits ds ∷ ts) = refl
  alias_by s t (Letters l ∷ ts) = refl
  alias_by s t (Sign w ∷ ts) = refl
