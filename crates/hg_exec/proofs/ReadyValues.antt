-- Values, declared lengths and kinds of nodes are built front to back; the length of a node bounds that of its value.
use Rattle.std.proofs.Common.{◌≡◌, ◌<◌, ◌≤◌, ℕ, zero, suc, ◌+◌, Bool, true, false, List, [], ◌∷◌, ◌++◌, Some, refl, sym, ap, ◌∙◌, length, drop, get_or, if◌then◌else◌, arith, length-append, length-take}
use Rattle.std.specs.Prelude.{slice_get, slice_index, ⊤}
use Rattle.std.proofs.lemmas.List.{get_or_append_left}
use Rattle.hg_model.specs.Binding.{free_columns, free_from}
use Rattle.hg_model.specs.Changes.{value_length}
use Rattle.hg_model.specs.Evaluation.{arithmetic, as_value, literal_value, negative, node_value, value_at, value_of, values_from}
use Rattle.hg_model.specs.SelectMeaning.{is_aggregate}
use Rattle.hg_model.specs.Tables.{fits_integer}
use Rattle.hg_model.specs.Types.{Kind, is_value, kind_at, kind_of, kinds_from, length_of, lengths_from, literal_length}
use Rattle.hg_model.specs.declared.trees.Literal.{Literal}
use Rattle.hg_model.specs.declared.trees.Literal.TheVariants as literal
use Rattle.hg_model.specs.declared.trees.Node.{Node}
use Rattle.hg_model.specs.declared.trees.Node.TheVariants as node
use Rattle.hg_model.specs.declared.trees.Op.{Op}
use Rattle.hg_model.specs.declared.trees.Op.TheVariants.{Add, Sub, Mul}
use Rattle.hg_model.specs.declared.values.NodeValue.{NodeValue}
use Rattle.hg_model.specs.declared.values.Value.{Value}
use Rattle.hg_model.specs.declared.values.Value.TheVariants.{Null, Int, Text}

-- ---- what is built front to back

module _ {Y : Type 0} (g : ℕ → Node → List Y → Y) where
  abbrev pub built : List Node → List Y → List Y
  built [] done = done
  built (n ∷ ns) done = built ns (done ++ g (length done) n done ∷ [])

  -- what is built for a node
  pub record IsBuiltAt (ys : List Y) (d : Y) (k : ℕ) (n : Node) : Type 0 where
    pub before : List Y
    pub is : get_or ys k d ≡ g k n before

  kept : (ns : List Node) (done : List Y) (k : ℕ) (d : Y) → k < length done → get_or (built ns done) k d ≡ get_or done k d
  kept [] done k d h = refl
  kept (n ∷ ns) done k d h =
      let y : Y = g (length done) n done in
      let pushed = length-append done (y ∷ []) in
      kept ns (done ++ y ∷ []) k d (omega (arith, pushed, h)) ∙ get_or_append_left done (y ∷ []) d k h

  at_end : (ys : List Y) (y d : Y) → get_or (ys ++ y ∷ []) (length ys) d ≡ y
  at_end [] y d = refl
  at_end (x ∷ ys) y d = at_end ys y d

  pub built_at : (ns : List Node) (done : List Y) (d : Y) (i k : ℕ) (n : Node) → k ≡ length done + i → slice_get ns i ≡ Some n → IsBuiltAt (built ns done) d k n
  built_at [] done d i k n e h = absurd cc
  built_at (m ∷ ns) done d zero k n e h =
      let same : m ≡ n = cc in
      let y : Y = g (length done) m done in
      let pushed = length-append done (y ∷ []) in
      let here : k ≡ length done = omega (arith, e) in record {
        before = done;
        is = kept ns (done ++ y ∷ []) k d (omega (arith, pushed, here)) ∙ ap (λ j. get_or (done ++ y ∷ []) j d) here ∙ at_end done y d
            ∙ ap (λ j. g j m done) (sym here) ∙ ap (λ l. g k l done) same;
      }
  built_at (m ∷ ns) done d (suc i) k n e h =
      let y : Y = g (length done) m done in
      let pushed = length-append done (y ∷ []) in
      let next : k ≡ length (done ++ y ∷ []) + i = omega (arith, pushed, e) in
      built_at ns (done ++ y ∷ []) d i k n next h

pub values_built : (leaves : List Value) (texts : List ℕ) (ns : List Node) (done : List NodeValue)
    → values_from leaves texts ns done ≡ built (λ k n ds. node_value (value_at leaves k) texts n ds) ns done
values_built leaves texts [] done = refl
values_built leaves texts (n ∷ ns) done = values_built leaves texts ns (done ++ node_value (value_at leaves (length done)) texts n done ∷ [])

pub lengths_built : (kinds : List Kind) (leaves : List ℕ) (ns : List Node) (done : List ℕ)
    → lengths_from kinds leaves ns done ≡ built (λ k n ds. length_of kinds (slice_index leaves k) n ds) ns done
lengths_built kinds leaves [] done = refl
lengths_built kinds leaves (n ∷ ns) done = lengths_built kinds leaves ns (done ++ length_of kinds (slice_index leaves (length done)) n done ∷ [])

pub kinds_built : (leaves : List Kind) (ns : List Node) (done : List Kind) → kinds_from leaves ns done ≡ built (λ k n ds. kind_of (kind_at leaves k) n ds) ns done
kinds_built leaves [] done = refl
kinds_built leaves (n ∷ ns) done = kinds_built leaves ns (done ++ kind_of (kind_at leaves (length done)) n done ∷ [])

pub free_built : (leaves : List ℕ) (ns : List Node) (done : List (List ℕ)) → free_from leaves ns done ≡ built (λ k n ds. free_columns (slice_index leaves k) n ds) ns done
free_built leaves [] done = refl
free_built leaves (n ∷ ns) done = free_built leaves ns (done ++ free_columns (slice_index leaves (length done)) n done ∷ [])

-- ---- how long a value is

number_short : (b : Bool) → (if b then 5 else 17) ≤ 17
number_short true = omega arith
number_short false = omega arith

literal_short : (texts : List ℕ) (l : Literal) → value_length (literal_value texts l) ≤ literal_length l
literal_short texts literal.Null = omega arith
literal_short texts (literal.Int x) = number_short (fits_integer x)
literal_short texts (literal.Text s) = let part = length-take s.len (drop s.at texts) in omega (arith, part)

negative_short : (v : Value) → value_length (negative v) ≤ 17
negative_short Null = omega arith
negative_short (Int x) = number_short _
negative_short (Text t) = omega arith

arithmetic_short : (o : Op) (v w : Value) → value_length (arithmetic o v w) ≤ 17
arithmetic_short Add (Int x) (Int y) = number_short _
arithmetic_short Sub (Int x) (Int y) = number_short _
arithmetic_short Mul (Int x) (Int y) = number_short _
arithmetic_short o Null w = omega arith
arithmetic_short o (Text s) w = omega arith
arithmetic_short o (Int x) Null = omega arith
arithmetic_short o (Int x) (Text t) = omega arith

-- the value of a column has at most that length
abbrev pub IsShortLeaf : Node → Value → ℕ → Type 0
IsShortLeaf (node.Col c) leaf l = value_length leaf ≤ l
IsShortLeaf _ leaf l = ⊤

pub value_short : (leaf : Value) (texts : List ℕ) (n : Node) (ds : List NodeValue) (leaf_kind : Kind) (before kinds : List Kind) (l : ℕ) (lengths : List ℕ)
    → is_aggregate n ≡ false → is_value (kind_of leaf_kind n before) ≡ true → IsShortLeaf n leaf l
    → value_length (as_value (node_value leaf texts n ds)) ≤ length_of kinds l n lengths
value_short leaf texts (node.Lit x) ds leaf_kind before kinds l lengths plain is short = literal_short texts x
value_short leaf texts (node.Col c) ds leaf_kind before kinds l lengths plain is short = short
value_short leaf texts (node.Neg a) ds leaf_kind before kinds l lengths plain is short = negative_short (value_of ds a)
value_short leaf texts (node.Arith o a b) ds leaf_kind before kinds l lengths plain is short = arithmetic_short o (value_of ds a) (value_of ds b)
value_short leaf texts (node.Compare o a b) ds leaf_kind before kinds l lengths plain is short = absurd cc
value_short leaf texts (node.Both a b) ds leaf_kind before kinds l lengths plain is short = absurd cc
value_short leaf texts (node.Either a b) ds leaf_kind before kinds l lengths plain is short = absurd cc
value_short leaf texts (node.Not a) ds leaf_kind before kinds l lengths plain is short = absurd cc
value_short leaf texts (node.IsNull a) ds leaf_kind before kinds l lengths plain is short = absurd cc
value_short leaf texts (node.NotNull a) ds leaf_kind before kinds l lengths plain is short = absurd cc
value_short leaf texts (node.Aggregate f a) ds leaf_kind before kinds l lengths plain is short = absurd cc
