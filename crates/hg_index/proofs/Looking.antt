-- Looks at a tree, and what is damaged.
use Rattle.std.specs.Prelude.{◌≡◌, ℕ, Bool, true, false, List, [], ◌∷◌, None, Some, Result, Ok, Err, IfOk}
use Rattle.std.proofs.Common.{◌∙◌, ap, refl}
use Rattle.hg_base.specs.Space.{Space, NoPins, taken_in, taken_below}
use Rattle.hg_base.specs.Causes.{HasCause}
use Rattle.hg_base.specs.SteadyLaws.{Steady_then, Steady_same}
use Rattle.hg_base.specs.Lines.{NoneMine, IsLine}
use Rattle.hg_base.specs.LineLaws.{line_steady}
use Rattle.hg_base.specs.declared.Check.{Check}
use Rattle.hg_base.specs.declared.File.{File}
use Rattle.hg_base.specs.declared.PageId.{PageId}
use Rattle.hg_base.specs.declared.pages.PageFault.TheVariants as fault
use Rattle.hg_btree.specs.Entries.{Entry}
use Rattle.hg_btree.specs.Steps.{Looks, none_mine}
use Rattle.hg_btree.specs.Trees.{IsTree}
use Rattle.hg_index.specs.TreeLaws.{tree_stays}
use Rattle.hg_index.specs.Walks.{HasPlaces}

pub looks_then : (a b c : Space) → Looks a b → Looks b c → Looks a c
looks_then a b c p q = record { steady = Steady_then none_mine a b c p.steady q.steady; taken = q.taken ∙ p.taken }

pub none_of : (file : File) (pages : List ℕ) → NoneMine file none_mine pages
none_of file [] = tt
none_of file (x ∷ pages) = (λ n. n, none_of file pages)

-- a look leaves a tree and its line
pub tree_looked : (file : File) (a b : Space) (top : ℕ) (es : List Entry) (pages : List ℕ) (leaves : ℕ) → Looks a b → IsTree file a top es pages leaves → IsTree file b top es pages leaves
tree_looked file a b top es pages leaves l h = tree_stays none_mine file a b top es pages leaves l.steady (none_of file pages) h

pub line_looked : (file : File) (a b : Space) (top : ℕ) (pages : List ℕ) → Looks a b → IsLine file a (Some top) pages → IsLine file b (Some top) pages
line_looked file a b top pages l h = line_steady file none_mine a b (Some top) pages l.steady (none_of file pages) h

-- damage is not found where the space tells
not_told : (b : Bool) → (b ≡ true → ⊥) → b ≡ false
not_told true h = absurd (h refl)
not_told false h = refl

pub damage_cause : (a b : Space) (page : PageId) (check : Check) → HasCause a b None → (a.told ≡ true → ⊥) → HasCause a b (Some (fault.Damaged page check))
damage_cause a b page check h n = record { later = h.later; counts = h.counts; damage = not_told a.told n }

pub taken_same : (a b : Space) (file : File) → Looks a b → taken_in b file ≡ taken_in a file
taken_same a b file l = ap (λ t. taken_below t file (b.limit file)) l.taken ∙ ap (λ (g : File → ℕ). taken_below a.taken file (g file)) l.steady.limit

pub looks_same : (a : Space) → NoPins a → Looks a a
looks_same a out = record { steady = Steady_same none_mine a out; taken = refl }

pub places_looked : (file : File) (a b : Space) (top : ℕ) → Looks a b → HasPlaces file a top → HasPlaces file b top
places_looked file a b top l h = record {
  es = h.es;
  pages = h.pages;
  leaves = h.leaves;
  tree = tree_looked file a b top h.es h.pages h.leaves l h.tree;
  places = h.places;
}

pub ok_both : {T E : Type 0} (r : Result T E) (P Q R : T → Type 0) → IfOk r P → IfOk r Q → ((x : T) → P x → Q x → R x) → IfOk r R
ok_both (Ok x) P Q R p q f = f x p q
ok_both (Err e) P Q R p q f = tt
