-- A tree in a space without heaps. Our own rule.
use Rattle.std.specs.Prelude.{◌≡◌, ℕ, Bool, true, false, List, Option}
use Rattle.std.proofs.Common.{sym, ◌∙◌, ap, refl}
use Rattle.std.proofs.lemmas.Bool.{false≢true}
use Rattle.hg_base.specs.Space.{Space, key_in}
use Rattle.hg_base.specs.Lines.{IsLine}
use Rattle.hg_base.specs.LineLaws.{all_has}
use Rattle.hg_base.specs.Steadiness.{Steady}
use Rattle.hg_base.specs.declared.File.{File}
use Rattle.hg_base.specs.declared.Tree.{Tree}
use Rattle.hg_btree.specs.Deleting.{pages_mine}
use Rattle.hg_btree.specs.Kept.{IsReady}

-- the tree is ready for its calls, and no page of the space is of a heap
pub record StandsAlone (s : Space) (tree : Tree) : Type 0 where
  pub ready : IsReady s tree
  pub none_lent : (q : ℕ) → s.of_heap q ≡ false

-- the pages of a line are of no heap, so a call that owns just these leaves none that is of one
pub none_comes : (file : File) (a b : Space) (from : Option ℕ) (pages : List ℕ) → IsLine file b from pages → Steady (pages_mine file pages) a b
    → ((q : ℕ) → a.of_heap q ≡ false) → (q : ℕ) → b.of_heap q ≡ false
none_comes file a b from pages line steady none q = go (b.of_heap q) refl
  where
    go : (t : Bool) → b.of_heap q ≡ t → b.of_heap q ≡ false
    go false e = e
    go true e =
        steady.of_heap q (λ m. false≢true (sym (ap b.of_heap m.1 ∙ all_has (λ x. b.of_heap (key_in file x) ≡ false) pages m.0 line.no_heap m.2) ∙ e))
        ∙ none q
