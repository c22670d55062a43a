-- Counts of pages that are taken, and of frames that are pinned.
use Rattle.std.specs.Prelude.{◌≡◌, ◌≢◌, ℕ, zero, suc, ◌+◌, ◌-◌, ◌<◌, ◌≤◌, ◌||◌, Bool, true, false, List, [], ◌∷◌, length, if◌then◌else◌, slice_index_or, slice_set}
use Rattle.std.proofs.Common.{sym, ◌∙◌, ap, refl, arith, inl, inr}
use Rattle.std.proofs.lemmas.Bool.Decides.{nat_tests, eqb_tells}
use Rattle.std.proofs.lemmas.List.Sums.{sum_by-set, sum_by-cons}
use Rattle.std.proofs.lemmas.Grind.{common_steps}
use Rattle.hg_base.specs.Space.{key_in, taken_below}
use Rattle.hg_base.specs.TakenLaws.{taken_below-le}
use Rattle.hg_base.specs.declared.File.{File}
use Rattle.hg_base.specs.declared.File.TheVariants.{Main, Temp}
use Rattle.hg_space.specs.PageMap.{PageMap, count_below}
use Rattle.hg_pool.specs.Files.{by_key}
use Rattle.hg_pool.specs.Keys.{by_key-main, by_key-temp}
use Rattle.hg_pool.specs.Picture.{frame_at, no_frame}
use Rattle.hg_pool.specs.Sound.{pins_of, pinned_in, lent_by, lent_in}
use Rattle.hg_pool.specs.Clocking.{is_busy}
use Rattle.std.proofs.lemmas.Bool.{false≢true}
use Rattle.hg_pool.specs.Seen.{Frame}

-- the count of a map is that of the pages of its file
pub count-main : (m t : PageMap) (n : ℕ) → count_below m n ≡ taken_below (by_key m.used t.used) Main n
count-main m t zero = refl
count-main m t (suc n) =
    ap (λ k. (if m.used n then 1 else 0) + k) (count-main m t n)
    ∙ ap (λ b. (if b then 1 else 0) + taken_below (by_key m.used t.used) Main n) (sym (by_key-main m.used t.used n))

pub count-temp : (m t : PageMap) (n : ℕ) → count_below t n ≡ taken_below (by_key m.used t.used) Temp n
count-temp m t zero = refl
count-temp m t (suc n) =
    ap (λ k. (if t.used n then 1 else 0) + k) (count-temp m t n)
    ∙ ap (λ b. (if b then 1 else 0) + taken_below (by_key m.used t.used) Temp n) (sym (by_key-temp m.used t.used n))

-- as many pages are taken as there are exactly where all are
pub all-counted : (taken : ℕ → Bool) (file : File) (n : ℕ) → ((k : ℕ) → k < n → taken (key_in file k) ≡ true) → taken_below taken file n ≡ n
all-counted taken file zero h = refl
all-counted taken file (suc n) h =
    let here : taken (key_in file n) ≡ true = h n (omega arith) in
    let rest : taken_below taken file n ≡ n = all-counted taken file n (λ k l. h k (omega arith)) in
    ap (λ b. (if b then 1 else 0) + taken_below taken file n) here ∙ (omega arith)

one-of : (b : Bool) (m n : ℕ) → (if b then 1 else 0) + m ≡ suc n → m ≤ n → (b ≡ true) × (m ≡ n)
one-of true m n e l = (refl, omega arith)
one-of false m n e l = absurd (omega arith)

pub counted-all : (taken : ℕ → Bool) (file : File) (n : ℕ) → taken_below taken file n ≡ n → (k : ℕ) → k < n → taken (key_in file k) ≡ true
counted-all taken file zero e k l = absurd (omega arith)
counted-all taken file (suc n) e k l =
    let both = one-of (taken (key_in file n)) (taken_below taken file n) n e (taken_below-le taken file n) in
    elim (eqb_tells k n) [
      | inl s ↦ ap (λ m. taken (key_in file m)) s.1 ∙ both.0
      | inr d ↦ (let apart : k ≢ n = d.1 in counted-all taken file n both.1 k (omega arith))
    ]

-- no more frames are out than pins hold or were handed out
busy-one : (x : Frame) → is_busy x ≡ true → 1 ≤ pins_of x + lent_by x
busy-one x h = each x.pinned x.lent h
  where
    each : (s t : Bool) → (s || t) ≡ true → 1 ≤ (if s then 1 else 0) + (if t then 1 else 0)
    each true t e = omega arith
    each false true e = omega arith
    each false false e = absurd (false≢true e)

all-busy : (frames : List Frame) → ((k : ℕ) → k < length frames → is_busy (frame_at frames k) ≡ true) → length frames ≤ pinned_in frames + lent_in frames
all-busy [] h = omega arith
all-busy (x ∷ xs) h =
    let here = busy-one x (h 0 (omega arith)) in
    let rest = all-busy xs (λ k l. h (suc k) (omega (arith, l))) in
    let a = sum_by-cons pins_of x xs in let b = sum_by-cons lent_by x xs in omega (arith, here, rest, a, b)

-- with few pins and few frames handed out not all frames are out
pub some-free : (frames : List Frame) (pins lent : ℕ) → pinned_in frames ≡ pins → lent_in frames ≡ lent → pins + lent < length frames
    → ((k : ℕ) → k < length frames → is_busy (frame_at frames k) ≡ true) → ⊥
some-free frames pins lent e l few h = let all = all-busy frames h in absurd (omega (arith, all, e, l, few))

-- where no frame is pinned, each is not
pub none-pinned : (frames : List Frame) → pinned_in frames ≡ 0 → (f : ℕ) → (frame_at frames f).pinned ≡ false
none-pinned [] e f = refl
none-pinned (x ∷ xs) e zero = let a = sum_by-cons pins_of x xs in let n : pins_of x ≡ 0 = omega (arith, a, e) in none-of x.pinned n
  where
    none-of : (s : Bool) → ◌≡◌ {A = ℕ} (if s then 1 else 0) 0 → s ≡ false
    none-of true h = absurd (omega (arith, h))
    none-of false h = refl
none-pinned (x ∷ xs) e (suc f) = let a = sum_by-cons pins_of x xs in none-pinned xs (omega (arith, a, e)) f

pub pinned-none : (frames : List Frame) → ((f : ℕ) → (frame_at frames f).pinned ≡ false) → pinned_in frames ≡ 0
pinned-none [] h = refl
pinned-none (x ∷ xs) h =
    let a = sum_by-cons pins_of x xs in let b = pinned-none xs (λ f. h (suc f)) in
    let c : pins_of x ≡ 0 = ap (λ t. if t then 1 else 0) (h zero) in omega (arith, a, b, c)

pub lent-none : (frames : List Frame) → ((f : ℕ) → (frame_at frames f).lent ≡ false) → lent_in frames ≡ 0
lent-none [] h = refl
lent-none (x ∷ xs) h =
    let a = sum_by-cons lent_by x xs in let b = lent-none xs (λ f. h (suc f)) in
    let c : lent_by x ≡ 0 = ap (λ t. if t then 1 else 0) (h zero) in omega (arith, a, b, c)

-- the count after one frame changed
pub pins-set : (frames : List Frame) (f : ℕ) (x : Frame) → f < length frames → pinned_in (slice_set frames f x) + pins_of (frame_at frames f) ≡ pinned_in frames + pins_of x
pins-set frames f x h = sum_by-set pins_of frames f x no_frame h

pub pins-same : (frames : List Frame) (f : ℕ) (x : Frame) → f < length frames → x.pinned ≡ (frame_at frames f).pinned → pinned_in (slice_set frames f x) ≡ pinned_in frames
pins-same frames f x h e =
    let one : pins_of x ≡ pins_of (frame_at frames f) = ap (λ b. if b then 1 else 0) e in omega (arith, pins-set frames f x h)

pub pins-more : (frames : List Frame) (f : ℕ) (x : Frame) → f < length frames → (frame_at frames f).pinned ≡ false → x.pinned ≡ true → pinned_in (slice_set frames f x) ≡ pinned_in frames + 1
pins-more frames f x h was now =
    let one : pins_of x ≡ 1 = ap (λ b. if b then 1 else 0) now in
    let none : pins_of (frame_at frames f) ≡ 0 = ap (λ b. if b then 1 else 0) was in omega (arith, pins-set frames f x h)

pub pins-less : (frames : List Frame) (f : ℕ) (x : Frame) → f < length frames → (frame_at frames f).pinned ≡ true → x.pinned ≡ false → pinned_in (slice_set frames f x) ≡ pinned_in frames - 1
pins-less frames f x h was now =
    let none : pins_of x ≡ 0 = ap (λ b. if b then 1 else 0) now in
    let one : pins_of (frame_at frames f) ≡ 1 = ap (λ b. if b then 1 else 0) was in omega (arith, pins-set frames f x h)

-- a frame that the code looks at is the one at its number
pub frame-here : (frames : List Frame) (f : ℕ) (x : Frame) → f < length frames → x ≡ slice_index_or frames f x → x ≡ frame_at frames f
frame-here frames f x h e = grind (arith, nat_tests, common_steps)

-- the same of the frames that were handed out
lent-set : (frames : List Frame) (f : ℕ) (x : Frame) → f < length frames → lent_in (slice_set frames f x) + lent_by (frame_at frames f) ≡ lent_in frames + lent_by x
lent-set frames f x h = sum_by-set lent_by frames f x no_frame h

pub lent-same : (frames : List Frame) (f : ℕ) (x : Frame) → f < length frames → x.lent ≡ (frame_at frames f).lent → lent_in (slice_set frames f x) ≡ lent_in frames
lent-same frames f x h e =
    let one : lent_by x ≡ lent_by (frame_at frames f) = ap (λ b. if b then 1 else 0) e in omega (arith, lent-set frames f x h)

pub lent-more : (frames : List Frame) (f : ℕ) (x : Frame) → f < length frames → (frame_at frames f).lent ≡ false → x.lent ≡ true → lent_in (slice_set frames f x) ≡ lent_in frames + 1
lent-more frames f x h was now =
    let one : lent_by x ≡ 1 = ap (λ b. if b then 1 else 0) now in
    let none : lent_by (frame_at frames f) ≡ 0 = ap (λ b. if b then 1 else 0) was in omega (arith, lent-set frames f x h)

pub lent-less : (frames : List Frame) (f : ℕ) (x : Frame) → f < length frames → (frame_at frames f).lent ≡ true → x.lent ≡ false → lent_in (slice_set frames f x) ≡ lent_in frames - 1
lent-less frames f x h was now =
    let none : lent_by x ≡ 0 = ap (λ b. if b then 1 else 0) now in
    let one : lent_by (frame_at frames f) ≡ 1 = ap (λ b. if b then 1 else 0) was in omega (arith, lent-set frames f x h)
