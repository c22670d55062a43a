-- Each call of the keeping builder keeps what the plain one makes.
use Rattle.std.proofs.Common.{◌≡◌, ℕ, zero, suc, lit≤, ◌+◌, ◌≤◌, Bool, cond, true, false, ◌||◌, List, [], ◌∷◌, ◌++◌, length, take, map, min, refl, sym, ap, ◌∙◌, arith, length-append}
use Rattle.std.specs.Prelude.{nat_lt}
use Rattle.std.specs.List.{list_any}
use Rattle.std.proofs.lemmas.Bool.Decides.{nat_tests}
use Rattle.hg_model.specs.declared.trees.Node.{Node}
use Rattle.hg_model.specs.declared.trees.Node.TheVariants as node
use Rattle.hg_model.specs.Reading.{has_long_number}
use Rattle.hg_parse.specs.Building.{Draft, plain, text_at}
use Rattle.hg_parse.specs.Keeping.{cap, cap_wide, front, pushed, wide_front, wide_pushed, short_node, kept_of, keeping}

pub count_more : {X : Type 0} (xs : List X) (x : X) → cap (cap (length xs) + 1) ≡ cap (length (xs ++ x ∷ []))
count_more xs x = omega (arith, length-append xs (x ∷ []))

count_wide : {X : Type 0} (xs : List X) (x : X) → cap_wide (cap_wide (length xs) + 1) ≡ cap_wide (length (xs ++ x ∷ []))
count_wide xs x = omega (arith, length-append xs (x ∷ []))

take_none : {X : Type 0} (n : ℕ) → [] ≡ take {A = X} n []
take_none zero = refl
take_none (suc n) = refl

take_zero : {X : Type 0} (xs : List X) → [] ≡ take 0 xs
take_zero [] = refl
take_zero (x ∷ xs) = refl

cond_same : {X : Type 0} (b : Bool) (x : X) → cond b x x ≡ x
cond_same true x = refl
cond_same false x = refl

under : {Y : Type 0} (b : Bool) (l : List Y) (z w : Y) → cond b (w ∷ (l ++ z ∷ [])) (w ∷ l) ≡ w ∷ cond b (l ++ z ∷ []) l
under true l z w = refl
under false l z w = refl

below_zero : (l : ℕ) → nat_lt l 0 ≡ false
below_zero l = grind (arith, nat_tests)

above_zero : (n : ℕ) → nat_lt 0 (suc n) ≡ true
above_zero n = grind (arith, nat_tests)

below_suc : (l n : ℕ) → nat_lt (suc l) (suc n) ≡ nat_lt l n
below_suc l n = grind (arith, nat_tests)

-- a front of a list with one more item
take_more : {X Y : Type 0} (f : X → Y) (n : ℕ) (xs : List X) (x : X)
    → cond (nat_lt (length xs) n) (take n (map f xs) ++ f x ∷ []) (take n (map f xs)) ≡ take n (map f (xs ++ x ∷ []))
take_more f zero xs x =
    ap (λ b. cond b (take 0 (map f xs) ++ f x ∷ []) (take 0 (map f xs))) (below_zero (length xs)) ∙ sym (take_zero (map f xs)) ∙ take_zero (map f (xs ++ x ∷ []))
take_more f (suc n) [] x = ap (λ b. cond b (f x ∷ []) []) (above_zero n) ∙ ap (λ l. f x ∷ l) (take_none n)
take_more f (suc n) (y ∷ xs) x =
    ap (λ b. cond b (f y ∷ (take n (map f xs) ++ f x ∷ [])) (f y ∷ take n (map f xs))) (below_suc (length xs) n)
    ∙ under (nat_lt (length xs) n) (take n (map f xs)) (f x) (f y) ∙ ap (λ l. f y ∷ l) (take_more f n xs x)

below_cap : (l n : ℕ) → n ≤ 255 → nat_lt (min l 255) n ≡ nat_lt l n
below_cap l n h = grind (arith, nat_tests)

below_wide : (l n : ℕ) → n ≤ 65535 → nat_lt (min l 65535) n ≡ nat_lt l n
below_wide l n h = grind (arith, nat_tests)

push_items : {X Y : Type 0} (f : X → Y) (n c : ℕ) (xs : List X) (x : X) → nat_lt c n ≡ nat_lt (length xs) n
    → cond (nat_lt c n) (take n (map f xs) ++ f x ∷ []) (take n (map f xs)) ≡ take n (map f (xs ++ x ∷ []))
push_items f n c xs x e = ap (λ b. cond b (take n (map f xs) ++ f x ∷ []) (take n (map f xs))) e ∙ take_more f n xs x

pub push_front : {X Y : Type 0} (f : X → Y) (n : ℕ) (xs : List X) (x : X) → n ≤ 255 → pushed n (front n f xs) (f x) ≡ front n f (xs ++ x ∷ [])
push_front f n xs x h = λ i. record { items = push_items f n (cap (length xs)) xs x (below_cap (length xs) n h) i; count = count_more xs x i }

pub push_wide : {X Y : Type 0} (f : X → Y) (n : ℕ) (xs : List X) (x : X) → n ≤ 65535 → wide_pushed n (wide_front n f xs) (f x) ≡ wide_front n f (xs ++ x ∷ [])
push_wide f n xs x h = λ i. record { items = push_items f n (cap_wide (length xs)) xs x (below_wide (length xs) n h) i; count = count_wide xs x i }

pub or_false : (b : Bool) → b ≡ (b || false)
or_false true = refl
or_false false = refl

pub any_more : {X : Type 0} (p : X → Bool) (xs : List X) (x : X) → (list_any p xs || p x) ≡ list_any p (xs ++ x ∷ [])
any_more p [] x = no_more (p x)
  where
    no_more : (b : Bool) → b ≡ (b || false)
    no_more true = refl
    no_more false = refl
any_more p (y ∷ xs) x = or_assoc (p y) (list_any p xs) (p x) ∙ ap (λ b. p y || b) (any_more p xs x)
  where
    or_assoc : (a b c : Bool) → ((a || b) || c) ≡ (a || (b || c))
    or_assoc true b c = refl
    or_assoc false b c = refl

pub next_kept : (g : Draft) → keeping.next (kept_of g) ≡ cap (plain.next g)
next_kept g = refl

-- a node that is kept as another
pub node_kept : (g : Draft) (n m : Node) → short_node m ≡ short_node n → has_long_number m ≡ has_long_number n → keeping.node (kept_of g) m ≡ kept_of (plain.node g n)
node_kept g n m e l =
    ap (λ x. record (kept_of g) { nodes = pushed 96 (front 96 short_node g.read.nodes) x; bad_node = list_any has_long_number g.read.nodes || has_long_number m }) e
    ∙ ap (λ b. record (kept_of g) { nodes = pushed 96 (front 96 short_node g.read.nodes) (short_node n); bad_node = list_any has_long_number g.read.nodes || b }) l
    ∙ ap (λ f. record (kept_of g) { nodes = f; bad_node = list_any has_long_number g.read.nodes || has_long_number n }) (push_front short_node 96 g.read.nodes n (lit≤ tt))
    ∙ ap (λ b. record (kept_of g) { nodes = front 96 short_node (g.read.nodes ++ n ∷ []); bad_node = b }) (any_more has_long_number g.read.nodes n)

pub text_kept_so : (g : Draft) (t : List ℕ) → keeping.text (kept_of g) t ≡ kept_of (plain.text g t)
text_kept_so g t =
    ap (λ f. record (kept_of g) { nodes = f; texts = g.read.texts ++ t }) (push_front short_node 96 g.read.nodes (node.Lit (text_at g.read t)) (lit≤ tt))
    ∙ ap (λ b. record (kept_of g) { nodes = front 96 short_node (g.read.nodes ++ node.Lit (text_at g.read t) ∷ []); texts = g.read.texts ++ t; bad_node = b })
    (or_false (list_any has_long_number g.read.nodes) ∙ any_more has_long_number g.read.nodes (node.Lit (text_at g.read t)))
