-- Parts of a list of bytes in which one part was written over. A page format is a list of parts,
-- each from a place on with a length; these laws say what a write does to each of them.
-- `take n (drop m b)` are the n bytes from m on, and `put_mid at k b x` is b with x in the place of
-- the k bytes from `at` on.
use Rattle.std.specs.Prelude.{◌≡◌, ℕ, ◌+◌, ◌<◌, ◌≤◌, zero, suc, List, [], ◌∷◌, ◌++◌, length, take, drop, slice_set}
use Rattle.std.proofs.Common.{sym, ◌∙◌, ap, refl, arith, length-take, length-drop}
use Rattle.std.proofs.lemmas.Slice.{take-put_mid_below, take-put_mid, drop-put_mid}
use Rattle.std.proofs.lemmas.List.{drop-take, drop-drop}
use Rattle.std.proofs.Math.Seq.{take-add, drop-append_seam}
use borrow.Rule.Slice.PartMut.{put_mid, same_len_mid}

-- a part that ends before the write is as it was
pub below : (b x : List ℕ) (at k m n : ℕ) → m + n ≤ at → at ≤ length b → take n (drop m (put_mid at k b x)) ≡ take n (drop m b)
below b x at k m n h l =
    sym (drop-take m n (put_mid at k b x)) ∙ ap (drop m) (take-put_mid_below at k b x (m + n) h l) ∙ drop-take m n b

-- a part that begins behind the write is as it was
pub above : (b x : List ℕ) (at k m n : ℕ) → at + k ≤ m → at ≤ length b → length x ≡ k → take n (drop m (put_mid at k b x)) ≡ take n (drop m b)
above b x at k m n h l e = ap (take n) (drop-put_mid at k b x m h l e)

-- the written part is what was written
pub within : (b x : List ℕ) (at k : ℕ) → at ≤ length b → length x ≡ k → take k (drop at (put_mid at k b x)) ≡ x
within b x at k l e =
    sym (drop-take at k (put_mid at k b x))
    ∙ ap (drop at) (take-put_mid at k b x (at + k) (omega arith) l)
    ∙ (let f : length (take at b) ≡ at = omega (arith, length-take at b) in ap (λ n. drop n (take at b ++ x)) (sym f) ∙ drop-append_seam (take at b) x)

-- a part is two parts, one behind the other
pub parts : (b : List ℕ) (m n k : ℕ) → take (n + k) (drop m b) ≡ take n (drop m b) ++ take k (drop (m + n) b)
parts b m n k = take-add n k (drop m b) ∙ ap (λ l. take n (drop m b) ++ take k l) (drop-drop n m b)

-- a write keeps the length
pub length-written : (b x : List ℕ) (at k : ℕ) → at + k ≤ length b → length x ≡ k → length (put_mid at k b x) ≡ length b
length-written b x at k l e =
    same_len_mid at k b x (omega (arith, length-take k (drop at b), length-drop at b))

-- one byte that is set is a part of one byte that is written
pub set-written : (b : List ℕ) (at v : ℕ) → at < length b → slice_set b at v ≡ put_mid at 1 b (v ∷ [])
set-written [] at v l = absurd (omega arith)
set-written (x ∷ b) zero v l = refl
set-written (x ∷ b) (suc at) v l = ap (λ r. x ∷ r) (set-written b at v (omega arith))
