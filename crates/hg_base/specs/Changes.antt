-- Laws of functions that were changed at one key, and of spaces as records of such functions.
use Rattle.std.specs.Prelude.{◌≡◌, ℕ, ◌<◌, List, [], ◌∷◌, ◌++◌, length, slice_set, slice_index_or}
use Rattle.std.proofs.Common.{arith}
use Rattle.std.proofs.lemmas.Bool.Decides.{nat_tests}
use Rattle.std.proofs.lemmas.Grind.{common_steps}
use Rattle.hg_base.specs.Space.{at}

-- two functions that agree everywhere are one
pub functions_agree : {X Y : Type 0} (f g : X → Y) → ((q : X) → f q ≡ g q) → f ≡ g
functions_agree f g e = λ i. λ q. e q i

at-same_at : {X : Type 0} (f : ℕ → X) (p : ℕ) (x : X) (q : ℕ) → f p ≡ x → at f p x q ≡ f q
at-same_at f p x q e = grind (arith, nat_tests)

-- a change to what stands there is none
pub at-same : {X : Type 0} (f : ℕ → X) (p : ℕ) (x : X) → f p ≡ x → at f p x ≡ f
at-same f p x e = functions_agree (at f p x) f (λ q. at-same_at f p x q e)

at-at_at : {X : Type 0} (f : ℕ → X) (p : ℕ) (x y : X) (q : ℕ) → at (at f p x) p y q ≡ at f p y q
at-at_at f p x y q = grind (arith, nat_tests)

-- of two changes at one key the second is left
pub at-at : {X : Type 0} (f : ℕ → X) (p : ℕ) (x y : X) → at (at f p x) p y ≡ at f p y
at-at f p x y = functions_agree (at (at f p x) p y) (at f p y) (at-at_at f p x y)

after-at_at : {X Y : Type 0} (g : ℕ → X → Y) (f : ℕ → X) (p : ℕ) (x : X) (q : ℕ) → g q (at f p x q) ≡ at (λ k. g k (f k)) p (g p x) q
after-at_at g f p x q = grind (arith, nat_tests)

-- what is read of a changed function is changed at the same key
pub after-at : {X Y : Type 0} (g : ℕ → X → Y) (f : ℕ → X) (p : ℕ) (x : X) → (λ q. g q (at f p x q)) ≡ at (λ q. g q (f q)) p (g p x)
after-at g f p x = functions_agree (λ q. g q (at f p x q)) (at (λ q. g q (f q)) p (g p x)) (after-at_at g f p x)

items-set_at : {X : Type 0} (xs : List X) (p : ℕ) (x d : X) (q : ℕ) → p < length xs → slice_index_or (slice_set xs p x) q d ≡ at (λ k. slice_index_or xs k d) p x q
items-set_at xs p x d q h = grind (arith, nat_tests, common_steps)

-- an item that is set in a list is a change of the items by place
pub items-set : {X : Type 0} (xs : List X) (p : ℕ) (x d : X) → p < length xs → (λ q. slice_index_or (slice_set xs p x) q d) ≡ at (λ q. slice_index_or xs q d) p x
items-set xs p x d h = functions_agree (λ q. slice_index_or (slice_set xs p x) q d) (at (λ q. slice_index_or xs q d) p x) (λ q. items-set_at xs p x d q h)

items-push_at : {X : Type 0} (xs : List X) (d : X) (q : ℕ) → slice_index_or (xs ++ d ∷ []) q d ≡ slice_index_or xs q d
items-push_at xs d q = grind (arith, nat_tests, common_steps)

-- the default behind a list changes nothing
pub items-push : {X : Type 0} (xs : List X) (d : X) → ◌≡◌ {A = ℕ → X} (λ q. slice_index_or (xs ++ d ∷ []) q d) (λ q. slice_index_or xs q d)
items-push xs d = functions_agree (λ q. slice_index_or (xs ++ d ∷ []) q d) (λ q. slice_index_or xs q d) (items-push_at xs d)
