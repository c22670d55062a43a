-- Columns of FROM by their places.
use Rattle.std.proofs.Common.{◌≡◌, ◌<◌, ◌≤◌, ℕ, zero, suc, ◌+◌, ◌-◌, ◌*◌, Bool, true, List, [], ◌∷◌, ◌++◌, refl, sym, ap, ◌∙◌, length, get_or, drop, ◌&&◌, arith}
use Rattle.std.specs.List.{list_all, range_with_len}
use Rattle.std.proofs.lemmas.List.{append_assoc, drop_more, length-append}
use Rattle.hg_model.specs.Binding.{type_at}
use Rattle.hg_model.specs.Scope.{columns_from, columns_of, scope_from}
use Rattle.hg_model.specs.Tables.{Table, table_named}
use Rattle.hg_model.specs.declared.tables.FromColumn.{FromColumn}
use Rattle.hg_model.specs.declared.trees.Column.{Column}
use Rattle.hg_model.specs.declared.trees.FromTable.{FromTable}

module _ {X : Type 0} (f : Column → X) (d : X) where
  pub type_there : (cs : List FromColumn) (p : ℕ) (c : FromColumn) → p < length cs → c ≡ get_or cs p c → type_at f d cs p ≡ f c.column
  type_there [] p c h is = absurd (omega arith)
  type_there (x ∷ xs) zero c h is = ap (λ (y : FromColumn). f y.column) (sym is)
  type_there (x ∷ xs) (suc p) c h is = type_there xs p c (omega arith) is

  pub type_outside : (cs : List FromColumn) (p : ℕ) → length cs ≤ p → type_at f d cs p ≡ d
  type_outside [] p h = refl
  type_outside (x ∷ xs) zero h = absurd (omega arith)
  type_outside (x ∷ xs) (suc p) h = type_outside xs p (omega arith)

pub all_next : (f : ℕ → Bool) (p n : ℕ) → p < n → f p ≡ true → list_all f (range_with_len (p + 1) (n - (p + 1))) ≡ list_all f (range_with_len p (n - p))
all_next f p n h here =
    let more : n - p ≡ suc (n - (p + 1)) = omega arith in
    sym (ap (λ b. b && list_all f (range_with_len (p + 1) (n - (p + 1)))) here) ∙ sym (ap (λ k. list_all f (range_with_len p k)) more)

pub columns_count : (t : ℕ) (alias : List ℕ) (k : ℕ) (cs : List Column) → length (columns_from t alias k cs) ≡ length cs
columns_count t alias k [] = refl
columns_count t alias k (c ∷ cs) = ap suc (columns_count t alias (suc k) cs)

-- the columns of one table of FROM more
module _ (tables : List Table) (froms : List FromTable) (k : ℕ) (f : FromTable) (scope more : List FromColumn) (cs : List Column) (h : k < length froms) (is : f ≡ get_or froms k f)
    (columns : cs ≡ columns_of (table_named tables f.table)) (pushed : more ≡ scope ++ columns_from k f.alias 0 cs) where
  abbrev others : List FromColumn
  others = scope_from tables (k + 1) (drop (k + 1) froms)

  whole : scope_from tables k (drop k froms) ≡ columns_from k f.alias 0 cs ++ others
  whole =
      let next : suc k ≡ k + 1 = omega arith in
      ap (scope_from tables k) (drop_more froms k f h ∙ ap (λ g. g ∷ drop (k + 1) froms) (sym is))
      ∙ ap (λ l. columns_from k f.alias 0 l ++ scope_from tables (suc k) (drop (k + 1) froms)) (sym columns)
      ∙ ap (λ n. columns_from k f.alias 0 cs ++ scope_from tables n (drop (k + 1) froms)) next

  pub scope_next : more ++ others ≡ scope ++ scope_from tables k (drop k froms)
  scope_next = ap (λ l. l ++ others) pushed ∙ append_assoc scope (columns_from k f.alias 0 cs) others ∙ ap (λ l. scope ++ l) (sym whole)

  pub scope_few : length cs ≤ 16 → length scope ≤ 16 * k → length more ≤ 16 * (k + 1)
  scope_few few so_far =
      let count : length more ≡ length scope + length cs =
      ap length pushed ∙ length-append scope (columns_from k f.alias 0 cs) ∙ ap (λ n. length scope + n) (columns_count k f.alias 0 cs) in
      omega (arith, count)
