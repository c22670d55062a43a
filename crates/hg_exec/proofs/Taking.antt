-- Rows that are taken over whole, value by value from the front.
use Rattle.std.specs.Prelude.{◌≡◌, ◌==◌, Bool, true, false, slice_index_or, ℕ, zero, suc, ◌+◌, ◌<◌, ◌≤◌, List, [], ◌∷◌, length, drop, take, map, ◌++◌, if◌then◌else◌, Some, slice_get, unwrap_or}
use Rattle.std.proofs.Common.{sym, ◌∙◌, ap, subst, refl, arith}
use Rattle.std.specs.Bool.{OnTrue}
use Rattle.std.proofs.lemmas.Bool.{eqb-true}
use Rattle.std.proofs.lemmas.Option.{none-some, slice_get-get_or}
use Rattle.hg_expr.specs.Over.{leaf_at, leaves_at, values_over}
use Rattle.hg_model.specs.Evaluation.{as_value, node_value, value_at, value_of}
use Rattle.hg_model.specs.declared.trees.ColRef.{ColRef}
use Rattle.hg_model.specs.declared.trees.Node.{Node}
use Rattle.hg_model.specs.declared.trees.Node.TheVariants as node
use Rattle.hg_model.specs.declared.values.NodeValue.TheVariants.{Plain}
use Rattle.hg_model.specs.declared.values.Value.{Value}
use Rattle.hg_model.specs.declared.values.Value.TheVariants.{Null}
use Rattle.hg_model.specs.Tables.{fits_columns}
use Rattle.hg_model.specs.declared.trees.Column.{Column}
use Rattle.hg_value.specs.Looks.{chosen}
use Rattle.hg_plan.specs.declared.plan.TableLoop.{TableLoop}
use Rattle.hg_exec.specs.Joins.{joined_with}
use Rattle.hg_exec.proofs.Joining.{fits-length}
use Rattle.std.proofs.lemmas.Bool.{false≢true}
use Rattle.hg_exec.proofs.ReadyValues.{built_at, values_built}

drop-past : {X : Type 0} (xs : List X) (k : ℕ) → length xs ≤ k → drop k xs ≡ []
drop-past [] zero h = refl
drop-past [] (suc k) h = refl
drop-past (x ∷ xs) zero h = absurd (omega arith)
drop-past (x ∷ xs) (suc k) h = drop-past xs k (omega arith)

module _ {X : Type 0} (g : X → Value) where
  -- what stands from a place on is all that is left to compare
  abbrev pub IsSameFrom : List X → List Value → ℕ → Type 0
  IsSameFrom xs row k = map g (drop k xs) ≡ drop k row → map g xs ≡ row

  same-back : (xs : List X) (row : List Value) (k : ℕ) (x : X) → slice_get xs k ≡ Some x → k < length row → g x ≡ value_at row k
      → map g (drop (suc k) xs) ≡ drop (suc k) row → map g (drop k xs) ≡ drop k row
  same-back [] row k x e lt same rest = absurd (none-some x e)
  same-back (y ∷ xs) [] k x e lt same rest = absurd (omega arith)
  same-back (y ∷ xs) (v ∷ row) zero x e lt same rest =
      let is : y ≡ x = ap (λ o. unwrap_or o y) e in
      let front : g y ≡ v = ap g is ∙ same in
      λ i. front i ∷ rest i
  same-back (y ∷ xs) (v ∷ row) (suc k) x e lt same rest = same-back xs row k x e (omega arith) same rest

  pub same-next : (xs : List X) (row : List Value) (k : ℕ) (x : X) → slice_get xs k ≡ Some x → k < length row → g x ≡ value_at row k
      → IsSameFrom xs row k → IsSameFrom xs row (k + 1)
  same-next xs row k x e lt same before rest =
      let next : k + 1 ≡ suc k = omega arith in
      before (same-back xs row k x e lt same (subst (λ n. map g (drop n xs) ≡ drop n row) next rest))

  same-end : (xs : List X) (row : List Value) (k : ℕ) → length xs ≤ k → length row ≤ k → map g (drop k xs) ≡ drop k row
  same-end xs row k a b = ap (map g) (drop-past xs k a) ∙ sym (drop-past row k b)

  pub same-whole : (xs : List X) (row : List Value) (k : ℕ) → length xs ≤ k → length row ≤ k → IsSameFrom xs row k → map g xs ≡ row
  same-whole xs row k a b h = h (same-end xs row k a b)

-- ---- a column

leaf-of : (row : List Value) (ns : List Node) (slots : List ℕ) (k s : ℕ) (c : ColRef) → slice_get ns k ≡ Some (node.Col c) → slice_get slots k ≡ Some s
    → value_at (leaves_at row ns slots) k ≡ value_at row s
leaf-of row [] slots k s c e f = absurd (none-some (node.Col c) e)
leaf-of row (n ∷ ns) [] k s c e f = absurd (none-some s f)
leaf-of row (n ∷ ns) (t ∷ slots) zero s c e f =
    let is : n ≡ node.Col c = ap (λ o. unwrap_or o n) e in
    let at : t ≡ s = ap (λ o. unwrap_or o t) f in
    ap (λ m. leaf_at row m t) is ∙ ap (value_at row) at
leaf-of row (n ∷ ns) (t ∷ slots) (suc k) s c e f = leaf-of row ns slots k s c e f

-- a column has the row's value at its slot
pub column-value : (texts slots : List ℕ) (nodes : List Node) (row : List Value) (k s : ℕ) (c : ColRef) → slice_get nodes k ≡ Some (node.Col c) → slice_get slots k ≡ Some s
    → value_of (values_over texts slots nodes row) k ≡ value_at row s
unfolding values_over
column-value texts slots nodes row k s c e f =
    let leaves = leaves_at row nodes slots in
    let b = built_at (λ j n ds. node_value (value_at leaves j) texts n ds) nodes [] (Plain Null) k k (node.Col c) (omega arith) e in
    ap (λ vs. value_of vs k) (values_built leaves texts nodes []) ∙ ap as_value b.is ∙ leaf-of row nodes slots k s c e f

on-true : (b : Bool) (P : Type 0) → (b ≡ true → P) → OnTrue b P
on-true true P h = h refl
on-true false P h = tt

pub column-at : (texts slots : List ℕ) (nodes : List Node) (k place : ℕ) (n : Node) (c : ColRef) → slice_get nodes k ≡ Some n → n ≡ node.Col c
    → length slots ≡ length nodes → k < length nodes
    → OnTrue (slice_index_or slots k 0 == place) ((row : List Value) → value_of (values_over texts slots nodes row) k ≡ value_at row place)
column-at texts slots nodes k place n c g is each lt =
    let s = slice_index_or slots k 0 in
    on-true (s == place) ((row : List Value) → value_of (values_over texts slots nodes row) k ≡ value_at row place) (λ t row.
    column-value texts slots nodes row k s c (g ∙ ap Some is) (slice_get-get_or slots k 0 (omega arith)) ∙ ap (value_at row) (eqb-true s place t))

pub on-then : (b : Bool) (P Q : Type 0) → (P → Q) → OnTrue b P → OnTrue b Q
on-then true P Q f p = f p
on-then false P Q f p = tt

-- ---- a row that was read into the joined row

pub reads-first : (b : Bool) (joined read : List Value) (cs : List Column) (l : TableLoop) (n m : ℕ) → OnTrue b (n ≡ 0)
    → OnTrue b ((row : List Value) → fits_columns cs row ≡ true → chosen row l.columns.items ≡ row)
    → fits_columns cs (if b then joined else read) ≡ true → m ≡ n → OnTrue b ((m ≡ 0) × (chosen joined l.columns.items ≡ joined))
reads-first true joined read cs l n m first all fits e = (e ∙ first, all joined fits)
reads-first false joined read cs l n m first all fits e = tt

pub read-joined : (b : Bool) (joined read : List Value) → b ≡ true → (if b then joined else read) ≡ joined
read-joined b joined read e = ap (λ t. if t then joined else read) e

pub read-apart : (b : Bool) (joined read : List Value) → b ≡ false → (if b then joined else read) ≡ read
read-apart b joined read e = ap (λ t. if t then joined else read) e

pub left-whole : (b : Bool) (joined read : List Value) (l : TableLoop) (start : ℕ) → b ≡ true → OnTrue b ((start ≡ 0) × (chosen joined l.columns.items ≡ joined))
    → joined ≡ joined_with l (take start joined) (if b then joined else read)
left-whole true joined read l start e w = sym w.1 ∙ ap (λ n. take n joined ++ chosen joined l.columns.items) (sym w.0)
left-whole false joined read l start e w = absurd (false≢true e)

pub all-named : (b : Bool) (columns : List ℕ) (cs : List Column) (count : ℕ) → length cs ≡ count → OnTrue b ((row : List Value) → length row ≡ count → chosen row columns ≡ row)
    → OnTrue b ((row : List Value) → fits_columns cs row ≡ true → chosen row columns ≡ row)
all-named b columns cs count e h = on-then b _ _ (λ f row fits. f row (fits-length cs row fits ∙ e)) h
