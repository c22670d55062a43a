-- The nodes that an expression adds are a tree, and each text literal among them names a part of the texts.
use Rattle.std.proofs.Common.{◌≡◌, ℕ, suc, ◌+◌, ◌-◌, ◌<◌, ◌≤◌, refl, sym, ap, subst, ◌∙◌, arith, pos, Bool, true, false, ◌&&◌, List, [], ◌∷◌, ◌++◌, length, take, drop, Some, None, length-append, length-drop, lt_of_lt_of_le, le_trans}
use Rattle.std.specs.Prelude.{nat_lt, nat_le, ⊤, codes}
use Rattle.std.specs.List.{list_all}
use Rattle.std.specs.Cmp.{first_so, second_so}
use Rattle.std.proofs.lemmas.List.Folds.{list_all-append}
use Rattle.std.proofs.lemmas.List.{take-append-le, drop-append-le, take_all, drop_all}
use borrow.Author.Tests.{lt-ltb, le-leb, leb-true}
use Rattle.hg_model.specs.Evaluation.{part_of}
use Rattle.hg_model.specs.Grammar as grammar
use Rattle.hg_model.specs.Grammar.{Read, with_node, next, Rule, Items, Expression}
use Rattle.hg_model.specs.Tokens.{Token, Word, Digits, Letters, Sign, number_of}
use Rattle.hg_model.specs.Value.{is_chars}
use Rattle.hg_model.specs.Width.{is_tree, is_tree_from, has_children_before, text_fits, literal_fits}
use Rattle.hg_model.specs.declared.trees.Cmp.{Cmp}
use Rattle.hg_model.specs.declared.trees.Cmp.TheVariants as cmp
use Rattle.hg_model.specs.declared.trees.Fold.TheVariants as of
use Rattle.hg_model.specs.declared.trees.Op.TheVariants.{Add, Sub, Mul}
use Rattle.hg_model.specs.declared.trees.Literal.{Literal}
use Rattle.hg_model.specs.declared.trees.Literal.TheVariants as literal
use Rattle.hg_model.specs.declared.trees.Node.{Node}
use Rattle.hg_model.specs.declared.trees.Node.TheVariants as node

pub both_so : (s t : Bool) → s ≡ true → t ≡ true → (s && t) ≡ true
both_so true t p q = q
both_so false t p q = p

-- a text token is a text
abbrev pub is_text_token : Token → Bool
is_text_token (Letters t) = is_chars t
is_text_token (Word w) = true
is_text_token (Digits ds) = true
is_text_token (Sign s) = true

pub record AllTexts (ts : List Token) : Type 0 where
  pub so : list_all is_text_token ts ≡ true

pub front : (ts us : List Token) → AllTexts (ts ++ us) → AllTexts ts
front ts us h = record { so = first_so (list_all is_text_token ts) (list_all is_text_token us) (sym (list_all-append is_text_token ts us) ∙ h.so) }

pub back : (ts us : List Token) → AllTexts (ts ++ us) → AllTexts us
back ts us h = record { so = second_so (list_all is_text_token ts) (list_all is_text_token us) (sym (list_all-append is_text_token ts us) ∙ h.so) }

pub rest : (t : Token) (ts : List Token) → AllTexts (t ∷ ts) → AllTexts ts
rest t ts h = record { so = second_so (is_text_token t) (list_all is_text_token ts) h.so }

-- what was read so far is a tree whose texts fit
pub record Sound (r : Read) : Type 0 where
  pub tree : is_tree r.nodes ≡ true
  pub fit : list_all (text_fits r.texts) r.nodes ≡ true

tree_more : (k : ℕ) (ns : List Node) (n : Node) → is_tree_from k ns ≡ true → has_children_before (k + length ns) n ≡ true → is_tree_from k (ns ++ n ∷ []) ≡ true
tree_more k [] n h p =
    let at : k + 0 ≡ k = omega arith in
    both_so (has_children_before k n) true (subst (λ m. has_children_before m n ≡ true) at p) refl
tree_more k (m ∷ ms) n h p =
    let at : k + suc (length ms) ≡ suc k + length ms = omega arith in
    both_so (has_children_before k m) (is_tree_from (suc k) (ms ++ n ∷ [])) (first_so (has_children_before k m) (is_tree_from (suc k) ms) h)
    (tree_more (suc k) ms n (second_so (has_children_before k m) (is_tree_from (suc k) ms) h) (subst (λ i. has_children_before i n ≡ true) at p))

pub sound_more : (r : Read) (n : Node) → has_children_before (next r) n ≡ true → text_fits r.texts n ≡ true → Sound r → Sound (with_node r n)
sound_more r n before fits s = record {
  tree = tree_more 0 r.nodes n s.tree (let at : 0 + length r.nodes ≡ length r.nodes = omega arith in subst (λ i. has_children_before i n ≡ true) (sym at) before);
  fit = list_all-append (text_fits r.texts) r.nodes (n ∷ []) ∙ both_so (list_all (text_fits r.texts) r.nodes) (text_fits r.texts n && true) s.fit (both_so (text_fits r.texts n) true fits refl);
}

-- a part of the texts stays where more are put behind
literal_stays : (x y : List ℕ) (l : Literal) → literal_fits x l ≡ true → literal_fits (x ++ y) l ≡ true
literal_stays x y literal.Null h = refl
literal_stays x y (literal.Int n) h = refl
literal_stays x y (literal.Text s) h =
    let within : s.at + s.len ≤ length x = leb-true (s.at + s.len) (length x) (first_so (nat_le (s.at + s.len) (length x)) (is_chars (part_of x s)) h) in
    let rest_length : length (drop s.at x) ≡ length x - s.at = length-drop s.at x in
    let same : part_of (x ++ y) s ≡ part_of x s
    = ap (take s.len) (drop-append-le s.at x y (omega arith)) ∙ take-append-le s.len (drop s.at x) y (omega arith) in
    both_so (nat_le (s.at + s.len) (length (x ++ y))) (is_chars (part_of (x ++ y) s)) (le-leb (s.at + s.len) (length (x ++ y)) (omega (arith, length-append x y)))
    (ap is_chars same ∙ second_so (nat_le (s.at + s.len) (length x)) (is_chars (part_of x s)) h)

text_stays : (x y : List ℕ) (n : Node) → text_fits x n ≡ true → text_fits (x ++ y) n ≡ true
text_stays x y (node.Lit l) h = literal_stays x y l h
text_stays x y (node.Col c) h = refl
text_stays x y (node.Neg a) h = refl
text_stays x y (node.Arith o a b) h = refl
text_stays x y (node.Compare c a b) h = refl
text_stays x y (node.Both a b) h = refl
text_stays x y (node.Either a b) h = refl
text_stays x y (node.Not a) h = refl
text_stays x y (node.IsNull a) h = refl
text_stays x y (node.NotNull a) h = refl
text_stays x y (node.Aggregate f a) h = refl

texts_stay : (x y : List ℕ) (ns : List Node) → list_all (text_fits x) ns ≡ true → list_all (text_fits (x ++ y)) ns ≡ true
texts_stay x y [] h = refl
texts_stay x y (n ∷ ns) h =
    both_so (text_fits (x ++ y) n) (list_all (text_fits (x ++ y)) ns) (text_stays x y n (first_so (text_fits x n) (list_all (text_fits x) ns) h))
    (texts_stay x y ns (second_so (text_fits x n) (list_all (text_fits x) ns) h))

-- the text that was put behind is itself
part_behind : (x t : List ℕ) → part_of (x ++ t) (record { at = length x; len = length t }) ≡ t
part_behind x t = ap (take (length t)) (drop-append-le (length x) x t (omega arith) ∙ ap (λ l. l ++ t) (drop_all (length x) x (omega arith))) ∙ take_all (length t) t (omega arith)

abbrev text_node : Read → List ℕ → Node
text_node r t = node.Lit (literal.Text (record { at = length r.texts; len = length t }))

abbrev with_text : Read → List ℕ → Read
with_text r t = record { nodes = r.nodes ++ text_node r t ∷ []; texts = r.texts ++ t }

sound_text : (r : Read) (t : List ℕ) → is_chars t ≡ true → Sound r → Sound (with_text r t)
sound_text r t chars s = record {
  tree = tree_more 0 r.nodes (text_node r t) s.tree refl;
  fit = list_all-append (text_fits (r.texts ++ t)) r.nodes (text_node r t ∷ [])
      ∙ both_so (list_all (text_fits (r.texts ++ t)) r.nodes) (text_fits (r.texts ++ t) (text_node r t) && true) (texts_stay r.texts t r.nodes s.fit)
      (both_so (text_fits (r.texts ++ t) (text_node r t)) true
      (both_so (nat_le (length r.texts + length t) (length (r.texts ++ t))) (is_chars (part_of (r.texts ++ t) (record { at = length r.texts; len = length t })))
      (le-leb (length r.texts + length t) (length (r.texts ++ t)) (omega (arith, length-append r.texts t))) (ap is_chars (part_behind r.texts t) ∙ chars)) refl);
}

-- n is a node of s, which goes on from r
pub record Good (r s : Read) (n : ℕ) : Type 0 where
  pub longer : next r ≤ next s
  pub inside : n < next s
  pub sound : Sound r → Sound s

one_longer : (r : Read) (k : Node) → next (with_node r k) ≡ next r + 1
one_longer r k = length-append r.nodes (k ∷ [])

-- one more node behind what was read
more : (r s : Read) (k : Node) → next r ≤ next s → (Sound r → Sound s) → has_children_before (next s) k ≡ true → text_fits s.texts k ≡ true
    → Good r (with_node s k) (next s)
more r s k up sound before fits = record {
  longer = omega (arith, one_longer s k);
  inside = omega (arith, one_longer s k);
  sound = λ h. sound_more s k before fits (sound h);
}

before_so : (m n b : ℕ) → m < b → n < b → (nat_lt m b && nat_lt n b) ≡ true
before_so m n b p q = both_so (nat_lt m b) (nat_lt n b) (lt-ltb m b p) (lt-ltb n b q)

-- the left operand of the items of IN has been read
abbrev pub Left : Rule → Read → Type 0
Left (Items m) r = m < next r
Left grammar.Or r = ⊤
Left grammar.And r = ⊤
Left grammar.Not r = ⊤
Left grammar.Pred r = ⊤
Left grammar.Sum r = ⊤
Left grammar.Term r = ⊤
Left grammar.Factor r = ⊤
Left grammar.Prim r = ⊤

-- a node over two that were read one after the other, and over one
over_two : (r s t : Read) (m n : ℕ) (k : Node) → Good r s m → Good s t n → (m < next t → n < next t → has_children_before (next t) k ≡ true) → text_fits t.texts k ≡ true
    → Good r (with_node t k) (next t)
over_two r s t m n k g h before fits =
    more r t k (le_trans g.longer h.longer) (λ u. h.sound (g.sound u)) (before (lt_of_lt_of_le g.inside h.longer) h.inside) fits

over_one : (r s : Read) (n : ℕ) (k : Node) → Good r s n → (n < next s → has_children_before (next s) k ≡ true) → text_fits s.texts k ≡ true → Good r (with_node s k) (next s)
over_one r s n k g before fits = more r s k g.longer g.sound (before g.inside) fits

leaf : (r : Read) (k : Node) → has_children_before (next r) k ≡ true → text_fits r.texts k ≡ true → Good r (with_node r k) (next r)
leaf r k before fits = more r r k (omega arith) (λ u. u) before fits

-- a comparison of m with what was read last, and one more after it
compared : (r s t : Read) (m n : ℕ) (o : Cmp) → Good r s m → Good s t n → Good r (with_node t (node.Compare o m n)) (next t)
compared r s t m n o g h = over_two r s t m n (node.Compare o m n) g h (λ p q. before_so m n (next t) p q) refl

-- a BETWEEN: m and a, and m and b, joined by AND
between : (r s t u : Read) (m a b : ℕ) (c : Cmp) (d : Cmp) → Good r s m → Good s t a → Good (with_node t (node.Compare c m a)) u b
    → Good r (with_node (with_node u (node.Compare d m b)) (node.Both (next t) (next u))) (next u + 1)
between r s t u m a b c d g h k =
    let first = compared r s t m a c g h in
    let up : next t + 1 ≤ next u = omega (arith, one_longer t (node.Compare c m a), k.longer) in
    let left : m < next u = omega (arith, g.inside, h.longer) in
    let second = more r u (node.Compare d m b) (le_trans first.longer k.longer) (λ x. k.sound (first.sound x)) (before_so m b (next u) left k.inside) refl in
    let grown = one_longer u (node.Compare d m b) in
    let both = more r (with_node u (node.Compare d m b)) (node.Both (next t) (next u)) second.longer second.sound
    (before_so (next t) (next u) (next (with_node u (node.Compare d m b))) (omega arith) (omega arith)) refl in
    subst (λ x. Good r (with_node (with_node u (node.Compare d m b)) (node.Both (next t) (next u))) x) grown both

-- and its opposite
not_between : (r s t u : Read) (m a b : ℕ) (c d : Cmp) → Good r (with_node (with_node u (node.Compare d m b)) (node.Both (next t) (next u))) (next u + 1)
    → Good r (with_node (with_node (with_node u (node.Compare d m b)) (node.Both (next t) (next u))) (node.Not (next u + 1))) (next u + 2)
not_between r s t u m a b c d g =
    let whole = with_node (with_node u (node.Compare d m b)) (node.Both (next t) (next u)) in
    let size : next whole ≡ next u + 2 = omega (arith, one_longer u (node.Compare d m b), one_longer (with_node u (node.Compare d m b)) (node.Both (next t) (next u))) in
    subst (λ x. Good r (with_node whole (node.Not (next u + 1))) x) size (over_one r whole (next u + 1) (node.Not (next u + 1)) g (λ p. lt-ltb (next u + 1) (next whole) p) refl)

-- what is read behind an expression
after : (r s t : Read) (m n : ℕ) → Good r s m → Good s t n → Good r t n
after r s t m n g h = record { longer = le_trans g.longer h.longer; inside = h.inside; sound = λ u. h.sound (g.sound u) }

-- one more item of IN
one_item : (r s t : Read) (m k n : ℕ) → m < next r → Good r s k → Good s t n
    → Good r (with_node (with_node t (node.Compare cmp.Eq m n)) (node.Either k (next t))) (next t + 1)
one_item r s t m k n left g h =
    let equal = more r t (node.Compare cmp.Eq m n) (le_trans g.longer h.longer) (λ u. h.sound (g.sound u)) (before_so m n (next t) (omega (arith, g.longer, h.longer)) h.inside) refl in
    let grown = one_longer t (node.Compare cmp.Eq m n) in
    let joined = more r (with_node t (node.Compare cmp.Eq m n)) (node.Either k (next t)) equal.longer equal.sound
    (before_so k (next t) (next (with_node t (node.Compare cmp.Eq m n))) (omega (arith, g.inside, h.longer)) (omega arith)) refl in
    subst (λ x. Good r (with_node (with_node t (node.Compare cmp.Eq m n)) (node.Either k (next t))) x) grown joined

pub good : {rule : Rule} {d : ℕ} {r s : Read} {ts : List Token} {n : ℕ} → Expression rule d r ts s n → Left rule r → AllTexts ts → Good r s n
good (grammar.or_one e) l p = good e tt p
good (grammar.or_more {r = r} {s = s} {t = t} {ts = ts} {us = us} {m = m} {n = n} e f) l p =
    over_two r s t m n (node.Either m n) (good e tt (front ts (Word (codes "or") ∷ us) p)) (good f tt (rest _ us (back ts (Word (codes "or") ∷ us) p))) (λ a b. before_so m n (next t) a b) refl
good (grammar.and_one e) l p = good e tt p
good (grammar.and_more {r = r} {s = s} {t = t} {ts = ts} {us = us} {m = m} {n = n} e f) l p =
    over_two r s t m n (node.Both m n) (good e tt (front ts (Word (codes "and") ∷ us) p)) (good f tt (rest _ us (back ts (Word (codes "and") ∷ us) p))) (λ a b. before_so m n (next t) a b) refl
good (grammar.not_none e) l p = good e tt p
good (grammar.not_one {r = r} {s = s} {ts = ts} {n = n} e) l p = over_one r s n (node.Not n) (good e tt (rest _ ts p)) (λ a. lt-ltb n (next s) a) refl
good (grammar.pred_sum e) l p = good e tt p
good (grammar.pred_cmp {r = r} {s = s} {t = t} {ts = ts} {us = us} {m = m} {n = n} {c = c} {o = o} e is f) l p =
    compared r s t m n o (good e tt (front ts (c ∷ us) p)) (good f tt (rest c us (back ts (c ∷ us) p)))
good (grammar.pred_null {r = r} {s = s} {ts = ts} {n = n} e) l p =
    over_one r s n (node.IsNull n) (good e tt (front ts _ p)) (λ a. lt-ltb n (next s) a) refl
good (grammar.pred_not_null {r = r} {s = s} {ts = ts} {n = n} e) l p =
    over_one r s n (node.NotNull n) (good e tt (front ts _ p)) (λ a. lt-ltb n (next s) a) refl
good (grammar.pred_between {r = r} {s = s} {t = t} {u = u} {ts = ts} {us = us} {vs = vs} {m = m} {a = a} {b = b} e f g) l p =
    let behind = rest (Word (codes "between")) (us ++ Word (codes "and") ∷ vs) (back ts _ p) in
    between r s t u m a b cmp.Ge cmp.Le (good e tt (front ts _ p)) (good f tt (front us _ behind)) (good g tt (rest (Word (codes "and")) vs (back us _ behind)))
good (grammar.pred_not_between {r = r} {s = s} {t = t} {u = u} {ts = ts} {us = us} {vs = vs} {m = m} {a = a} {b = b} e f g) l p =
    let behind = rest (Word (codes "between")) (us ++ Word (codes "and") ∷ vs) (rest (Word (codes "not")) _ (back ts _ p)) in
    not_between r s t u m a b cmp.Ge cmp.Le
    (between r s t u m a b cmp.Ge cmp.Le (good e tt (front ts _ p)) (good f tt (front us _ behind)) (good g tt (rest (Word (codes "and")) vs (back us _ behind))))
good (grammar.pred_in {r = r} {s = s} {t = t} {ts = ts} {us = us} {m = m} {n = n} e f) l p =
    let g = good e tt (front ts _ p) in
    let behind = rest grammar.open_sign (us ++ grammar.close_sign ∷ []) (rest (Word (codes "in")) _ (back ts _ p)) in
    after r s t m n g (good f g.inside (front us _ behind))
good (grammar.pred_not_in {r = r} {s = s} {t = t} {ts = ts} {us = us} {m = m} {n = n} e f) l p =
    let g = good e tt (front ts _ p) in
    let behind = rest grammar.open_sign (us ++ grammar.close_sign ∷ []) (rest (Word (codes "in")) _ (rest (Word (codes "not")) _ (back ts _ p))) in
    over_one r t n (node.Not n) (after r s t m n g (good f g.inside (front us _ behind))) (λ a. lt-ltb n (next t) a) refl
good (grammar.sum_one e) l p = good e tt p
good (grammar.sum_plus {r = r} {s = s} {t = t} {ts = ts} {us = us} {m = m} {n = n} e f) l p =
    over_two r s t m n (node.Arith Add m n) (good e tt (front ts (grammar.plus ∷ us) p)) (good f tt (rest _ us (back ts (grammar.plus ∷ us) p))) (λ a b. before_so m n (next t) a b) refl
good (grammar.sum_minus {r = r} {s = s} {t = t} {ts = ts} {us = us} {m = m} {n = n} e f) l p =
    over_two r s t m n (node.Arith Sub m n) (good e tt (front ts (grammar.minus ∷ us) p)) (good f tt (rest _ us (back ts (grammar.minus ∷ us) p))) (λ a b. before_so m n (next t) a b) refl
good (grammar.term_one e) l p = good e tt p
good (grammar.term_times {r = r} {s = s} {t = t} {ts = ts} {us = us} {m = m} {n = n} e f) l p =
    over_two r s t m n (node.Arith Mul m n) (good e tt (front ts (grammar.star ∷ us) p)) (good f tt (rest _ us (back ts (grammar.star ∷ us) p))) (λ a b. before_so m n (next t) a b) refl
good (grammar.factor_prim e) l p = good e tt p
good (grammar.factor_plus {ts = ts} e) l p = good e tt (rest grammar.plus ts p)
good (grammar.factor_minus {r = r} {s = s} {ts = ts} {n = n} e) l p = over_one r s n (node.Neg n) (good e tt (rest grammar.minus ts p)) (λ a. lt-ltb n (next s) a) refl
good (grammar.prim_number {r = r} ds) l p = leaf r (node.Lit (literal.Int (pos (number_of ds)))) refl refl
good (grammar.prim_text {r = r} t) l p = record {
  longer = omega (arith, length-append r.nodes (text_node r t ∷ []));
  inside = omega (arith, length-append r.nodes (text_node r t ∷ []));
  sound = sound_text r t (first_so (is_chars t) true p.so);
}
good (grammar.prim_null {r = r}) l p = leaf r (node.Lit literal.Null) refl refl
good (grammar.prim_column {r = r} {c = c} is) l p = leaf r (node.Col c) refl refl
good (grammar.prim_nested {ts = ts} e) l p = good e tt (front ts _ (rest grammar.open_sign _ p))
good (grammar.agg_rows {r = r}) l p = leaf r (node.Aggregate of.CountRows None) refl refl
good (grammar.agg_one {r = r} {s = s} {ts = ts} {n = n} {w = w} {f = f} is e) l p =
    over_one r s n (node.Aggregate f (Some n)) (good e tt (front ts _ (rest grammar.open_sign _ (rest w _ p)))) (λ a. lt-ltb n (next s) a) refl
good (grammar.items_one {r = r} {s = s} {m = m} {n = n} e) l p =
    let g = good e tt p in
    more r s (node.Compare cmp.Eq m n) g.longer g.sound (before_so m n (next s) (lt_of_lt_of_le l g.longer) g.inside) refl
good (grammar.items_more {r = r} {s = s} {t = t} {ts = ts} {us = us} {m = m} {k = k} {n = n} e f) l p =
    one_item r s t m k n l (good e l (front ts _ p)) (good f tt (rest grammar.comma us (back ts _ p)))
