-- What a caller of a chain needs of its frames: which there are, and their bytes after a write, a join or a split.
use Rattle.std.proofs.Common.{◌≡◌, ℕ, true, false, not, ◌&&◌, ◌||◌, ◌==◌, if◌then◌else◌, List, [], ◌∷◌, ◌++◌, length, take, drop, refl, sym, ap, subst, ◌∙◌}
use Rattle.std.proofs.Math.Seq.{take-append_seam}
use Rattle.hg_raw.specs.Frames.{Frame, ChainSeen, numbers, is_in, distinct, bytes_of, without, with_bytes, refit, with_page}
use Rattle.hg_raw.proofs.Lists.{case_eq, clash, differ, numbers-with, numbers-without, in-minus}
pub use Rattle.hg_raw.proofs.Lists.{numbers-append, in-append, bytes-append, bytes-without}

-- a slice keeps its length, so what is written to it is what is left behind it
pub refit-same : (xs ws : List ℕ) → length ws ≡ length xs → refit xs ws ≡ ws
refit-same xs ws e = subst (λ (n : ℕ). take n (ws ++ drop (length ws) xs) ≡ ws) e (take-append_seam ws (drop (length ws) xs))

pub numbers-with_page : (c : ChainSeen) (n : ℕ) (w : List ℕ) → numbers (with_page c n w).frames ≡ numbers c.frames
numbers-with_page c n w = numbers-with c.frames n (refit (bytes_of c.frames n) w)

pub bytes-with : (fs : List Frame) (n : ℕ) (w : List ℕ) → is_in n (numbers fs) ≡ true → bytes_of (with_bytes fs n w) n ≡ w
bytes-with [] n w h = clash false h refl
bytes-with (f ∷ fs) n w h =
    elim (f.0 == n) as (λ t. (f.0 == n) ≡ t → (t || is_in n (numbers fs)) ≡ true → bytes_of (if t then (f.0, w) ∷ fs else f ∷ with_bytes fs n w) n ≡ w) [
      | true ↦ λ e _. ap (λ t. if t then w else bytes_of fs n) e
      | false ↦ λ e h. ap (λ t. if t then f.1 else bytes_of (with_bytes fs n w) n) e ∙ bytes-with fs n w h
    ] refl h

bytes-with-other : (fs : List Frame) (k n : ℕ) (w : List ℕ) → (k ≡ n → ⊥) → bytes_of (with_bytes fs n w) k ≡ bytes_of fs k
bytes-with-other [] k n w ne = refl
bytes-with-other (f ∷ fs) k n w ne =
    case_eq f.0 n (λ t. bytes_of (if t then (f.0, w) ∷ fs else f ∷ with_bytes fs n w) k ≡ (if f.0 == k then f.1 else bytes_of fs k))
    (λ e. let far : (f.0 == k) ≡ false = differ f.0 k (λ h. ne (sym h ∙ e)) in ap (λ t. if t then w else bytes_of fs k) far ∙ sym (ap (λ t. if t then f.1 else bytes_of fs k) far))
    (λ _. ap (λ (b : List ℕ). if f.0 == k then f.1 else b) (bytes-with-other fs k n w ne))

-- the page that was written, and any other
pub bytes-with_page : (c : ChainSeen) (n : ℕ) (w : List ℕ) → is_in n (numbers c.frames) ≡ true → length w ≡ length (bytes_of c.frames n) → bytes_of (with_page c n w).frames n ≡ w
bytes-with_page c n w h l = bytes-with c.frames n (refit (bytes_of c.frames n) w) h ∙ refit-same (bytes_of c.frames n) w l

pub bytes-with_page-other : (c : ChainSeen) (k n : ℕ) (w : List ℕ) → (k ≡ n → ⊥) → bytes_of (with_page c n w).frames k ≡ bytes_of c.frames k
bytes-with_page-other c k n w ne = bytes-with-other c.frames k n (refit (bytes_of c.frames n) w) ne

-- a frame is in what is left of a chain where it was in it and is another
pub in-without : (fs : List Frame) (k n : ℕ) → distinct (numbers fs) ≡ true → is_in k (numbers (without fs n)) ≡ (is_in k (numbers fs) && not (k == n))
in-without fs k n d = ap (is_in k) (numbers-without fs n) ∙ in-minus k n (numbers fs) d
