-- How a tree stays one when leaves change.
use Rattle.std.specs.Prelude.{◌≡◌, ℕ, ◌≤◌, List, [], ◌∷◌, ◌++◌, length, Option}
use Rattle.std.proofs.Common.{◌∙◌, subst, arith, length-append}
use Rattle.hg_btree.specs.Entries.{Entry, AllBy, Before, Ordered, NotBehind}
use Rattle.hg_btree.specs.Nodes.{IsBehind}
use Rattle.hg_btree.specs.Trees.{AllBefore, IsLeafAt, IsInnerAt, Leaves, Inners, Chained, uses, uses_in}
use Rattle.hg_btree.proofs.Orders.{before_then, before_not_behind}
use Rattle.hg_btree.proofs.Reading.{all_append, all_front, all_behind}
use Rattle.hg_btree.proofs.Walking.{all_weaker, uses_here}

-- pages that are used are the same
pub inner_same : (b c : ℕ → Option (List ℕ)) (n : ℕ) (x : Entry) (kids : List Entry) → c x.child ≡ b x.child → IsInnerAt b n x kids → IsInnerAt c n x kids
inner_same b c n x kids e h = record { page = h.page; first = h.first; items = h.items; told = e ∙ h.told; node = h.node; some = h.some; are = h.are }

pub leaf_same : (b c : ℕ → Option (List ℕ)) (x : Entry) (behind own : List Entry) → c x.child ≡ b x.child → IsLeafAt b x behind own → IsLeafAt c x behind own
leaf_same b c x behind own e h = record { page = h.page; told = e ∙ h.told; node = h.node; from = h.from; to = h.to }

-- the pages of a level hold the same
abbrev pub Agree : (ℕ → Option (List ℕ)) → (ℕ → Option (List ℕ)) → (ℕ → ℕ) → Type 0
Agree b c used = (y : ℕ) → 1 ≤ used y → c y ≡ b y

pub inners_same : (b c : ℕ → Option (List ℕ)) (n : ℕ) (level below : List Entry) → Agree b c (uses level) → Inners b n level below → Inners c n level below
inners_same b c n [] below s h = h
inners_same b c n (x ∷ level) below s (kids, rest, at, e, h) = (
  kids,
  rest,
  inner_same b c n x kids (s x.child (let u = uses_here x level in omega arith)) at,
  e,
  inners_same b c n level rest (λ y u. s y (omega arith)) h,
)

pub leaves_same : (b c : ℕ → Option (List ℕ)) (level behind es : List Entry) → Agree b c (uses level) → Leaves b level behind es → Leaves c level behind es
leaves_same b c [] behind es s h = h
leaves_same b c (x ∷ level) behind es s (own, rest, at, e, h) = (
  own,
  rest,
  leaf_same b c x (level ++ behind) own (s x.child (let u = uses_here x level in omega arith)) at,
  e,
  leaves_same b c level behind rest (λ y u. s y (omega arith)) h,
)

pub chained_same : (b c : ℕ → Option (List ℕ)) (level : List Entry) (levels : List (List Entry)) (es : List Entry) → Agree b c (uses_in (level ∷ levels))
    → Chained b level levels es → Chained c level levels es
chained_same b c level [] es s h = leaves_same b c level [] es (λ y u. s y (omega arith)) h
chained_same b c level (below ∷ levels) es s h =
    (inners_same b c (length (below ∷ levels)) level below (λ y u. s y (omega arith)) h.0, chained_same b c below levels es (λ y u. s y (omega arith)) h.1)

-- levels as one list
abbrev pub AreChained : (ℕ → Option (List ℕ)) → List (List Entry) → List Entry → Type 0
AreChained b [] es = ⊥
AreChained b (level ∷ levels) es = Chained b level levels es

-- the lower levels changed
pub chained_swap : (b c : ℕ → Option (List ℕ)) (above below now : List (List Entry)) (level es es' : List Entry) → AreChained b (above ++ level ∷ below) es
    → Agree b c (uses_in above) → Chained c level now es' → length now ≡ length below → AreChained c (above ++ level ∷ now) es'
chained_swap b c [] below now level es es' h s g e = g
chained_swap b c (a ∷ []) below now level es es' h s g e = (
  inners_same b c (length (level ∷ now)) a level (λ y u. s y (omega arith))
      (subst (λ n. Inners b n a level) (let k : length (level ∷ below) ≡ length (level ∷ now) = omega arith in k) h.0),
  g,
)
chained_swap b c (a ∷ a2 ∷ above) below now level es es' h s g e =
    let l1 = length-append above (level ∷ below) in
    let l2 = length-append above (level ∷ now) in
    let k : length (a2 ∷ (above ++ level ∷ below)) ≡ length (a2 ∷ (above ++ level ∷ now)) = omega arith in (
      inners_same b c (length (a2 ∷ (above ++ level ∷ now))) a a2 (λ y u. s y (omega arith)) (subst (λ n. Inners b n a a2) k h.0),
      chained_swap b c (a2 ∷ above) below now level es es' h.1 (λ y u. s y (omega arith)) g e,
    )

-- ---- lists in order

pub ordered_without : (R : Entry → Entry → Type 0) (p : List Entry) (x : Entry) (q : List Entry) → Ordered R (p ++ x ∷ q) → Ordered R (p ++ q)
ordered_without R [] x q h = h.1
ordered_without R (y ∷ p) x q h =
    (all_append (R y) p q (all_front (R y) p (x ∷ q) h.0) ((all_behind (R y) p (x ∷ q) h.0).1), ordered_without R p x q h.1)

pub ordered_with : (p : List Entry) (t : Entry) (q : List Entry) → Ordered Before (p ++ q) → AllBy (λ e. Before e t) p → AllBy (λ e. Before t e) q
    → Ordered Before (p ++ t ∷ q)
ordered_with [] t q h a b = (b, h)
ordered_with (y ∷ p) t q h a b =
    (all_append (Before y) p (t ∷ q) (all_front (Before y) p q h.0) (a.0, all_behind (Before y) p q h.0), ordered_with p t q h.1 a.1 b)

-- all are behind t where the first is
pub all_from : (xs : List Entry) (t : Entry) → Ordered Before xs → IsBehind xs t → AllBy (λ e. Before t e) xs
all_from [] t o h = tt
all_from (x ∷ xs) t o h = (h, all_weaker (Before x) (λ e. Before t e) xs (λ e l. before_then t x e h (before_not_behind x e l)) o.0)

-- ---- a leaf that changed

-- entries between the bounds of a leaf, without one
pub before_without : (p : List Entry) (x : Entry) (q behind : List Entry) → AllBefore (p ++ x ∷ q) behind → AllBefore (p ++ q) behind
before_without p x q [] h = tt
before_without p x q (y ∷ behind) h =
    all_append (λ e. Before e y) p q (all_front (λ e. Before e y) p (x ∷ q) h) ((all_behind (λ e. Before e y) p (x ∷ q) h).1)

pub from_without : (b x : Entry) (p q : List Entry) → AllBy (NotBehind b) (p ++ x ∷ q) → AllBy (NotBehind b) (p ++ q)
from_without b x p q h = all_append (NotBehind b) p q (all_front (NotBehind b) p (x ∷ q) h) ((all_behind (NotBehind b) p (x ∷ q) h).1)

-- and with one more
pub before_with : (p : List Entry) (t : Entry) (q behind : List Entry) → IsBehind behind t → AllBefore (p ++ q) behind → AllBefore (p ++ t ∷ q) behind
before_with p t q [] i h = tt
before_with p t q (y ∷ behind) i h =
    all_append (λ e. Before e y) p (t ∷ q) (all_front (λ e. Before e y) p q h) (i, all_behind (λ e. Before e y) p q h)

pub from_with : (b t : Entry) (p q : List Entry) → NotBehind b t → AllBy (NotBehind b) (p ++ q) → AllBy (NotBehind b) (p ++ t ∷ q)
from_with b t p q f h = all_append (NotBehind b) p (t ∷ q) (all_front (NotBehind b) p q h) (f, all_behind (NotBehind b) p q h)
