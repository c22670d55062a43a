-- Pages handed out one after the other, and put back.
use Rattle.std.specs.Prelude.{◌≡◌, ◌≢◌, ℕ, ◌==◌, ◌||◌, Bool, false, true, List, [], ◌∷◌, ◌++◌, Option, None, Some, if◌then◌else◌}
use Rattle.std.specs.List.{AllByRecursion}
use Rattle.std.proofs.Common.{◌∙◌, sym, ap, refl, subst, inl, inr, arith}
use Rattle.std.proofs.lemmas.Bool.{false≢true}
use Rattle.std.proofs.lemmas.Bool.Decides.{nat_tests, eqb_tells}
use Rattle.hg_io.specs.declared.device.PageDevice.{Ghosts}
use Rattle.hg_base.specs.Changes.{functions_agree}
use Rattle.hg_base.specs.Lines.{AreApart}
use Rattle.hg_base.specs.Space.{Space, at, unpinned_bytes}
use Rattle.hg_raw.specs.Frames.{Frame}
use Rattle.hg_pool.specs.Lending.{handed_out, put_back, KeepsOut}
use Rattle.hg_pool.specs.Shown.{state_of}
use Rattle.hg_pool.specs.declared.parts.Parts.{Parts}
use Rattle.hg_heap.specs.Resting.{temp_page, temp_key, Rests, AreTold}
use Rattle.hg_heap.specs.Handing.{contents, has_key, out_of, all_back, HadBytes, IsOut, AreOut, Comes, Come}

-- States.

any-last : (pages : List ℕ) (n q : ℕ) → has_key (pages ++ n ∷ []) q ≡ (has_key pages q || (temp_key n == q))
any-last [] n q = or-false (temp_key n == q)
  where
    or-false : (b : Bool) → (b || false) ≡ b
    or-false true = refl
    or-false false = refl
any-last (m ∷ pages) n q = ap (λ b. (temp_key m == q) || b) (any-last pages n q) ∙ or-assoc (temp_key m == q) (has_key pages q) (temp_key n == q)
  where
    or-assoc : (a b c : Bool) → (a || (b || c)) ≡ ((a || b) || c)
    or-assoc true b c = refl
    or-assoc false b c = refl

out-one : {X : Type 0} (h : ℕ → Bool) (f : ℕ → X) (k q : ℕ) (x : X) → at (λ r. if h r then x else f r) k x q ≡ (if h q || (k == q) then x else f q)
out-one h f k q x = grind (arith, nat_tests)

pub out-more : (s : Space) (pages : List ℕ) (n : ℕ) → handed_out (out_of s pages) (temp_key n) ≡ out_of s (pages ++ n ∷ [])
out-more s pages n = λ i. record s {
  bytes = functions_agree (at (out_of s pages).bytes (temp_key n) None) (out_of s (pages ++ n ∷ [])).bytes
      (λ q. out-one (has_key pages) s.bytes (temp_key n) q None ∙ ap (λ b. if b then None else s.bytes q) (sym (any-last pages n q))) i;
  of_heap = functions_agree (at (out_of s pages).of_heap (temp_key n) true) (out_of s (pages ++ n ∷ [])).of_heap
      (λ q. out-one (has_key pages) s.of_heap (temp_key n) q true ∙ ap (λ b. if b then true else s.of_heap q) (sym (any-last pages n q))) i;
}

back-one : {X : Type 0} (h : ℕ → Bool) (f : ℕ → X) (k q : ℕ) (x y : X) → h k ≡ false → f k ≡ y → at (λ r. if (k == r) || h r then x else f r) k y q ≡ (if h q then x else f q)
back-one h f k q x y e d = grind (arith, nat_tests)

pub back-less : (s : Space) (pages : List ℕ) (n : ℕ) (b : List ℕ) → has_key pages (temp_key n) ≡ false → s.bytes (temp_key n) ≡ unpinned_bytes s.told (Some b)
    → s.of_heap (temp_key n) ≡ false → put_back (out_of s (n ∷ pages)) (temp_key n) b ≡ out_of s pages
back-less s pages n b e d o = λ i. record s {
  bytes = functions_agree (at (out_of s (n ∷ pages)).bytes (temp_key n) (unpinned_bytes s.told (Some b))) (out_of s pages).bytes
      (λ q. back-one (has_key pages) s.bytes (temp_key n) q None (unpinned_bytes s.told (Some b)) e d) i;
  of_heap = functions_agree (at (out_of s (n ∷ pages)).of_heap (temp_key n) false) (out_of s pages).of_heap
      (λ q. back-one (has_key pages) s.of_heap (temp_key n) q true false e o) i;
}

pub key-apart : (n : ℕ) (pages : List ℕ) → AllByRecursion (λ y. y ≢ n) pages → has_key pages (temp_key n) ≡ false
key-apart n [] h = refl
key-apart n (m ∷ pages) h = let d : m ≢ n = h.0 in grind (arith, nat_tests, key-apart n pages h.1)

-- all are put back with the bytes that they had: the space is as before
pub all-restored : (s : Space) (pages : List ℕ) (bytes : List (List ℕ)) → Rests s pages → HadBytes s pages bytes → all_back (out_of s pages) pages bytes ≡ s
all-restored s [] [] r h = refl
all-restored s [] (b ∷ bytes) r h = absurd h
all-restored s (n ∷ pages) [] r h = absurd h
all-restored s (n ∷ pages) (b ∷ bytes) r h =
    ap (λ z. all_back z pages bytes) (back-less s pages n b (key-apart n pages r.apart.0) h.0 r.each.0.home)
    ∙ all-restored s pages bytes (record { apart = r.apart.1; each = r.each.1 }) h.1

-- Chains.

pub contents-join : (xs ys : List Frame) → contents (xs ++ ys) ≡ contents xs ++ contents ys
contents-join [] ys = refl
contents-join (x ∷ xs) ys = ap (λ l. x.1 ∷ l) (contents-join xs ys)

pub had-more : (s : Space) (pages : List ℕ) (bytes : List (List ℕ)) (n : ℕ) (b : List ℕ) → HadBytes s pages bytes → s.bytes (temp_key n) ≡ unpinned_bytes s.told (Some b)
    → HadBytes s (pages ++ n ∷ []) (bytes ++ b ∷ [])
had-more s [] [] n b h e = (e, tt)
had-more s [] (x ∷ bytes) n b h e = absurd h
had-more s (m ∷ pages) [] n b h e = absurd h
had-more s (m ∷ pages) (x ∷ bytes) n b h e = (h.0, had-more s pages bytes n b h.1 e)

module _ {M T : Type 0} where
  pub out-kept : (m : Ghosts M) (t : Ghosts T) (a b : Parts M T) (pages : List ℕ) (fs : List Frame) → AreOut m t a pages fs
      → ((q : ℕ) → (state_of m t a).taken q ≡ true → (state_of m t b).taken q ≡ true) → ((q : ℕ) → (state_of m t a).of_heap q ≡ true → (state_of m t b).of_heap q ≡ true)
      → KeepsOut m t a b → AreOut m t b pages fs
  out-kept m t a b [] [] h taken out keeps = tt
  out-kept m t a b [] (f ∷ fs) h taken out keeps = absurd h
  out-kept m t a b (n ∷ pages) [] h taken out keeps = absurd h
  out-kept m t a b (n ∷ pages) (f ∷ fs) h taken out keeps =
      let k = keeps (temp_page n) h.0.out in (
        record { taken = taken (temp_key n) h.0.taken; out = out (temp_key n) h.0.out; inside = k.0; frame = k.1 ∙ h.0.frame },
        out-kept m t a b pages fs h.1 taken out keeps,
      )

  pub out-join : (m : Ghosts M) (t : Ghosts T) (p : Parts M T) (pages : List ℕ) (fs : List Frame) (n : ℕ) (f : Frame) → AreOut m t p pages fs → IsOut m t p n f.0
      → AreOut m t p (pages ++ n ∷ []) (fs ++ f ∷ [])
  out-join m t p [] [] n f h o = (o, tt)
  out-join m t p [] (x ∷ fs) n f h o = absurd h
  out-join m t p (k ∷ pages) [] n f h o = absurd h
  out-join m t p (k ∷ pages) (x ∷ fs) n f h o = (h.0, out-join m t p pages fs n f h.1 o)

  pub come-more : (m : Ghosts M) (t : Ghosts T) (a b c : Parts M T) (pages : List ℕ) (n : ℕ) → Come m t a pages b → Comes m t b c n → Come m t a (pages ++ n ∷ []) c
  come-more m t a b c [] n h k = (c, subst (λ x. Comes m t x c n) h k, refl)
  come-more m t a b c (x ∷ pages) n h k = (h.0, h.1, come-more m t h.0 b c pages n h.2 k)

-- What is told of pages that were put back.

back-keeps : (s : Space) (pages : List ℕ) (bytes : List (List ℕ)) (k : ℕ) → has_key pages k ≡ false → (all_back s pages bytes).bytes k ≡ s.bytes k
back-keeps s [] bytes k h = refl
back-keeps s (n ∷ pages) [] k h = refl
back-keeps s (n ∷ pages) (b ∷ bytes) k h = elim (eqb_tells (temp_key n) k) [
  | inl e ↦ absurd (false≢true (sym h ∙ ap (λ q. q || has_key pages k) e.0))
  | inr d ↦
      back-keeps (put_back s (temp_key n) b) pages bytes k (sym (ap (λ q. q || has_key pages k) d.0) ∙ h)
      ∙ other s.bytes (temp_key n) k (unpinned_bytes s.told (Some b)) d.1
]
  where
    other : (f : ℕ → Option (List ℕ)) (p q : ℕ) (x : Option (List ℕ)) → p ≢ q → at f p x q ≡ f q
    other f p q x d = grind (arith, nat_tests)

some-told : (t : Bool) (b : List ℕ) → t ≡ true → unpinned_bytes t (Some b) ≡ Some b
some-told true b h = refl
some-told false b h = absurd (false≢true h)

module _ {M T : Type 0} where
  pub back-told : (m : Ghosts M) (t : Ghosts T) (p : Parts M T) (s : Space) (pages : List ℕ) (fs : List Frame) → AreOut m t p pages fs → s.told ≡ true → AreApart pages
      → AreTold (all_back s pages (contents fs)) pages (contents fs)
  back-told m t p s [] [] h told apart = tt
  back-told m t p s [] (f ∷ fs) h told apart = absurd h
  back-told m t p s (n ∷ pages) [] h told apart = absurd h
  back-told m t p s (n ∷ pages) (f ∷ fs) h told apart = (
    back-keeps (put_back s (temp_key n) f.1) pages (contents fs) (temp_key n) (key-apart n pages apart.0)
        ∙ here s.bytes (temp_key n) (unpinned_bytes s.told (Some f.1)) ∙ some-told s.told f.1 told,
    back-told m t p (put_back s (temp_key n) f.1) pages fs h.1 told apart.1,
  )
    where
      here : (f : ℕ → Option (List ℕ)) (k : ℕ) (x : Option (List ℕ)) → at f k x k ≡ x
      here f k x = grind (arith, nat_tests)
