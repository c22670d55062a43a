-- Laws of the numbers by which keys are compared.
use Rattle.std.specs.Prelude.{◌≡◌, ℕ, zero, suc, ◌+◌, ◌-◌, ◌*◌, ◌^◌, ◌%◌, ◌<◌, ◌≤◌, min, List, [], ◌∷◌, ◌++◌, length, take, drop, replicate}
use Rattle.std.proofs.lemmas.List.{drop_more, get_or-drop, take-take, take_min, drop-drop, drop-replicate}
use Rattle.std.proofs.Math.Seq.{take-add}
use borrow.Rule.Slice.PartMut.{put_mid}
use Rattle.std.specs.Int.{w8}
use Rattle.std.proofs.Common.{Fits}
use Rattle.std.specs.Ordering.{nat_cmp, ordering_then, MatchOrdering}
use Rattle.std.specs.Cmp.Lexicographic.{slice_cmp}
use Rattle.std.specs.declared.cmp.Ordering.{Ordering}
use Rattle.std.specs.declared.cmp.Ordering.TheVariants.{Less, Equal, Greater}
use Rattle.std.proofs.Common.{sym, ◌∙◌, ap, subst, refl, arith, length-take, length-append, length-drop}
use Rattle.std.proofs.lemmas.Bool.Decides.{nat_tests}
use Rattle.std.proofs.lemmas.Cmp.{ranked}
use Rattle.std.proofs.Math.ListN.{get_or}
use Rattle.hg_btree.specs.Entries.{order}
use Rattle.hg_btree.specs.Keys.{spell, word_of}

abbrev pub Small : List ℕ → Type 0
Small bs = (k : ℕ) → get_or bs k 0 < 256

-- ---- numbers
below : (x y : ℕ) → x < y → nat_cmp x y ≡ Less
below x y l = grind (arith, nat_tests)

above : (x y : ℕ) → y < x → nat_cmp x y ≡ Greater
above x y l = grind (arith, nat_tests)

under : (x y : ℕ) → x ≤ y → (x ≡ y → ⊥) → x < y
under x y l d = by (nat_cmp x y) (ranked x y (nat_cmp x y) refl)
  where
    by : (r : Ordering) → MatchOrdering r (x < y) (x ≡ y) (y < x) → x < y
    by Less h = h
    by Equal h = absurd (d h)
    by Greater h = let g : y < x = h in absurd (omega arith)

-- ---- what is spelled on from a lower number is lower
rises : (k n m : ℕ) (us vs : List ℕ) → Small us → n < m → spell k n us < spell k m vs
rises zero n m us vs s l = l
rises (suc k) n m [] [] s l = rises k (n * 256) (m * 256) [] [] s (omega arith)
rises (suc k) n m [] (v ∷ vs) s l = rises k (n * 256) (m * 256 + v) [] vs s (omega arith)
rises (suc k) n m (u ∷ us) [] s l = let b : u < 256 = s 0 in rises k (n * 256 + u) (m * 256) us [] (λ i. s (suc i)) (omega arith)
rises (suc k) n m (u ∷ us) (v ∷ vs) s l = let b : u < 256 = s 0 in rises k (n * 256 + u) (m * 256 + v) us vs (λ i. s (suc i)) (omega arith)

-- and zeros spell the least
least : (k n m : ℕ) (vs : List ℕ) → n ≤ m → spell k n [] ≤ spell k m vs
least zero n m vs l = l
least (suc k) n m [] l = least k (n * 256) (m * 256) [] (omega arith)
least (suc k) n m (v ∷ vs) l = least k (n * 256) (m * 256 + v) vs (omega arith)

-- ---- keys whose numbers differ stand as these do
pub apart : (k n : ℕ) (us vs : List ℕ) → Small us → Small vs → (spell k n us ≡ spell k n vs → ⊥)
    → slice_cmp nat_cmp us vs ≡ nat_cmp (spell k n us) (spell k n vs)
apart zero n us vs s t d = absurd (d refl)
apart (suc k) n [] [] s t d = absurd (d refl)
apart (suc k) n [] (v ∷ vs) s t d =
    sym (below _ _ (under _ _ (least k (n * 256) (n * 256 + v) vs (omega arith)) d))
apart (suc k) n (u ∷ us) [] s t d =
    sym (above _ _ (under _ _ (least k (n * 256) (n * 256 + u) us (omega arith)) (λ e. d (sym e))))
apart (suc k) n (u ∷ us) (v ∷ vs) s t d =
    by (nat_cmp u v) refl (ranked u v (nat_cmp u v) refl) (apart k (n * 256 + u) us vs (λ i. s (suc i)) (λ i. t (suc i)))
  where
    first : (r : Ordering) → nat_cmp u v ≡ r → slice_cmp nat_cmp (u ∷ us) (v ∷ vs) ≡ ordering_then r (slice_cmp nat_cmp us vs)
    first r e = ap (λ o. ordering_then o (slice_cmp nat_cmp us vs)) e

    by : (r : Ordering) → nat_cmp u v ≡ r → MatchOrdering r (u < v) (u ≡ v) (v < u)
        → ((spell k (n * 256 + u) us ≡ spell k (n * 256 + u) vs → ⊥) → slice_cmp nat_cmp us vs ≡ nat_cmp (spell k (n * 256 + u) us) (spell k (n * 256 + u) vs))
        → slice_cmp nat_cmp (u ∷ us) (v ∷ vs) ≡ nat_cmp (spell k (n * 256 + u) us) (spell k (n * 256 + v) vs)
    by Less e h rest = let l : u < v = h in first Less e ∙ sym (below _ _ (rises k (n * 256 + u) (n * 256 + v) us vs (λ i. s (suc i)) (omega arith)))
    by Equal e h rest =
        let q : u ≡ v = h in
        first Equal e ∙ subst (λ w. slice_cmp nat_cmp us vs ≡ nat_cmp (spell k (n * 256 + u) us) (spell k (n * 256 + w) vs)) q
        (rest (λ f. d (subst (λ w. spell k (n * 256 + u) us ≡ spell k (n * 256 + w) vs) q f)))
    by Greater e h rest = let l : v < u = h in first Greater e ∙ sym (above _ _ (rises k (n * 256 + v) (n * 256 + u) vs us (λ i. t (suc i)) (omega arith)))

-- ---- and keys with the same number have the same first bytes
pub alike : (k n m : ℕ) (us vs : List ℕ) → Small us → Small vs → spell k n us ≡ spell k n vs → m ≤ k → m ≤ length us → m ≤ length vs → take m us ≡ take m vs
alike k n zero us vs s t e a b c = refl
alike zero n (suc m) us vs s t e a b c = absurd (omega arith)
alike (suc k) n (suc m) [] vs s t e a b c = absurd (omega arith)
alike (suc k) n (suc m) (u ∷ us) [] s t e a b c = absurd (omega arith)
alike (suc k) n (suc m) (u ∷ us) (v ∷ vs) s t e a b c =
    by (nat_cmp u v) (ranked u v (nat_cmp u v) refl)
    (λ f. alike k (n * 256 + u) m us vs (λ i. s (suc i)) (λ i. t (suc i)) f (omega arith) (omega arith) (omega arith))
  where
    by : (r : Ordering) → MatchOrdering r (u < v) (u ≡ v) (v < u) → (spell k (n * 256 + u) us ≡ spell k (n * 256 + u) vs → take m us ≡ take m vs)
        → take (suc m) (u ∷ us) ≡ take (suc m) (v ∷ vs)
    by Less h rest =
        let l : u < v = h in
        absurd (let g = rises k (n * 256 + u) (n * 256 + v) us vs (λ i. s (suc i)) (omega arith) in omega arith)
    by Equal h rest =
        let q : u ≡ v = h in
        ap (λ w. w ∷ take m us) q ∙ ap (λ r. v ∷ r) (rest (subst (λ w. spell k (n * 256 + u) us ≡ spell k (n * 256 + w) vs) (sym q) e))
    by Greater h rest =
        let l : v < u = h in
        absurd (let g = rises k (n * 256 + v) (n * 256 + u) vs us (λ i. t (suc i)) (omega arith) in omega arith)

-- ---- what is alike does not count
same_first : (x : ℕ) → nat_cmp x x ≡ Equal
same_first x = grind (arith, nat_tests)

head_same : (x y : ℕ) (xs ys : List ℕ) → x ∷ xs ≡ y ∷ ys → x ≡ y
head_same x y xs ys e = ap (λ l. get_or l 0 0) e

tail_same : (x y : ℕ) (xs ys : List ℕ) → x ∷ xs ≡ y ∷ ys → xs ≡ ys
tail_same x y xs ys e = ap (drop 1) e

pub past : (m : ℕ) (us vs : List ℕ) → m ≤ length us → m ≤ length vs → take m us ≡ take m vs
    → slice_cmp nat_cmp us vs ≡ slice_cmp nat_cmp (drop m us) (drop m vs)
past zero us vs a b e = refl
past (suc m) [] vs a b e = absurd (omega arith)
past (suc m) (u ∷ us) [] a b e = absurd (omega arith)
past (suc m) (u ∷ us) (v ∷ vs) a b e =
    ap (λ o. ordering_then o (slice_cmp nat_cmp us vs)) (ap (λ w. nat_cmp u w) (sym (head_same u v (take m us) (take m vs) e)) ∙ same_first u)
    ∙ past m us vs (omega arith) (omega arith) (tail_same u v (take m us) (take m vs) e)

-- where one has no more bytes their lengths decide
pub by_lengths : (m : ℕ) (us vs : List ℕ) → m ≡ min (length us) (length vs) → take m us ≡ take m vs
    → slice_cmp nat_cmp us vs ≡ nat_cmp (length us) (length vs)
by_lengths m [] [] h e = refl
by_lengths m [] (v ∷ vs) h e = sym (below 0 (suc (length vs)) (omega arith))
by_lengths m (u ∷ us) [] h e = sym (above (suc (length us)) 0 (omega arith))
by_lengths zero (u ∷ us) (v ∷ vs) h e = absurd (omega arith)
by_lengths (suc m) (u ∷ us) (v ∷ vs) h e =
    ap (λ o. ordering_then o (slice_cmp nat_cmp us vs)) (ap (λ w. nat_cmp u w) (sym (head_same u v (take m us) (take m vs) e)) ∙ same_first u)
    ∙ by_lengths m us vs (omega arith) (tail_same u v (take m us) (take m vs) e)
    ∙ both_more (length us) (length vs)
  where
    both_more : (x y : ℕ) → nat_cmp x y ≡ nat_cmp (suc x) (suc y)
    both_more x y = grind (arith, nat_tests)

-- ---- the numbers as they are read
-- n bytes from i + k on
abbrev reads : List ℕ → ℕ → ℕ → ℕ → List ℕ
reads b i k zero = []
reads b i k (suc n) = get_or b (i + k) 0 ∷ reads b i (suc k) n

opened : (n : ℕ) (b : List ℕ) (i k : ℕ) → i + k + n ≤ length b → drop (i + k) b ≡ reads b i k n ++ drop (i + k + n) b
opened zero b i k l = ap (λ j. drop j b) (omega arith)
opened (suc n) b i k l =
    let next : i + k + 1 ≡ i + suc k = omega arith in
    let last : i + suc k + n ≡ i + k + suc n = omega arith in
    drop_more b (i + k) 0 (omega arith)
    ∙ ap (λ j. get_or b (i + k) 0 ∷ drop j b) next
    ∙ ap (λ r. get_or b (i + k) 0 ∷ r) (opened n b i (suc k) (omega arith))
    ∙ ap (λ j. get_or b (i + k) 0 ∷ (reads b i (suc k) n ++ drop j b)) last

eight : (b : List ℕ) (i : ℕ) → i + 8 ≤ length b → drop i b ≡ reads b i 0 8 ++ drop (i + 8) b
eight b i l =
    let none : i ≡ i + 0 = omega arith in
    let last : i + 0 + 8 ≡ i + 8 = omega arith in
    ap (λ j. drop j b) none ∙ opened 8 b i 0 (omega arith) ∙ ap (λ j. reads b i 0 8 ++ drop j b) last

pub word_is : (b : List ℕ) (i : ℕ) → i + 8 ≤ length b
    → get_or b i 0 * 72057594037927936 + get_or b (i + 1) 0 * 281474976710656 + get_or b (i + 2) 0 * 1099511627776 + get_or b (i + 3) 0 * 4294967296
    + get_or b (i + 4) 0 * 16777216 + get_or b (i + 5) 0 * 65536 + get_or b (i + 6) 0 * 256 + get_or b (i + 7) 0 ≡ word_of (drop i b)
unfolding word_of
word_is b i l =
    let here : get_or b (i + 0) 0 ≡ get_or b i 0 = ap (λ k. get_or b k 0) (omega arith) in
    omega (arith, here) ∙ ap (spell 8 0) (sym (eight b i l))

-- bytes beyond those that are spelled do not count, nor do zeros behind a key
pub spell-take : (k n m : ℕ) (bs : List ℕ) → k ≤ m → spell k n (take m bs) ≡ spell k n bs
spell-take zero n m bs l = refl
spell-take (suc k) n zero bs l = absurd (omega arith)
spell-take (suc k) n (suc m) [] l = refl
spell-take (suc k) n (suc m) (b ∷ bs) l = spell-take k (n * 256 + b) m bs (omega arith)

zeros_only : (k n r : ℕ) → spell k n (replicate r 0) ≡ spell k n []
zeros_only zero n r = refl
zeros_only (suc k) n zero = refl
zeros_only (suc k) n (suc r) = let e : n * 256 + 0 ≡ n * 256 = omega arith in ap (λ m. spell k m (replicate r 0)) e ∙ zeros_only k (n * 256) r

filled_up : (k n r : ℕ) (bs : List ℕ) → spell k n (take k bs ++ replicate r 0) ≡ spell k n bs
filled_up zero n r bs = refl
filled_up (suc k) n r [] = zeros_only (suc k) n r
filled_up (suc k) n r (b ∷ bs) = filled_up k (n * 256 + b) r bs

-- the first bytes of a key, put before zeros
pub first_is : (key : List ℕ) (m : ℕ) → m ≡ min (length key) 8 → word_of (put_mid 0 m (replicate 8 0) (take m key)) ≡ word_of key
unfolding word_of
first_is key m h =
    let turned : m ≡ min 8 (length key) = omega arith in
    let e : take m key ≡ take 8 key = ap (λ j. take j key) turned ∙ take_min 8 key in
    ap (λ z. spell 8 0 (take m key ++ z)) (drop-replicate m 8 0)
    ∙ ap (λ f. spell 8 0 (f ++ replicate (8 - m) 0)) e
    ∙ filled_up 8 0 (8 - m) key

-- ---- a key of fewer bytes, read with what stands before it
shifted : (n p q r s t u v w : ℕ) (bs : List ℕ) → q < 256 → r < 256 → s < 256 → t < 256 → u < 256 → v < 256 → w < 256 → 0 < n → n < 8
    → spell 8 0 (p ∷ q ∷ r ∷ s ∷ t ∷ u ∷ v ∷ w ∷ bs) * 2 ^ (64 - 8 * n) % 18446744073709551616
    ≡ spell 8 0 (take n (drop (8 - n) (p ∷ q ∷ r ∷ s ∷ t ∷ u ∷ v ∷ w ∷ bs)))
shifted zero p q r s t u v w bs bq br bs' bt bu bv bw some few = absurd (omega arith)
shifted (suc zero) p q r s t u v w bs bq br bs' bt bu bv bw some few = omega arith
shifted (suc (suc zero)) p q r s t u v w bs bq br bs' bt bu bv bw some few = omega arith
shifted (suc (suc (suc zero))) p q r s t u v w bs bq br bs' bt bu bv bw some few = omega arith
shifted (suc (suc (suc (suc zero)))) p q r s t u v w bs bq br bs' bt bu bv bw some few = omega arith
shifted (suc (suc (suc (suc (suc zero))))) p q r s t u v w bs bq br bs' bt bu bv bw some few = omega arith
shifted (suc (suc (suc (suc (suc (suc zero)))))) p q r s t u v w bs bq br bs' bt bu bv bw some few = omega arith
shifted (suc (suc (suc (suc (suc (suc (suc zero))))))) p q r s t u v w bs bq br bs' bt bu bv bw some few = omega arith
shifted (suc (suc (suc (suc (suc (suc (suc (suc n)))))))) p q r s t u v w bs bq br bs' bt bu bv bw some few = absurd (omega arith)

pub short_is : (page : List ℕ) (from to n : ℕ) → Small page → n ≡ to - from → 8 ≤ from → from ≤ to → to ≤ length page → 0 < n → n < 8
    → word_of (drop (to - 8) page) * 2 ^ (64 - 8 * n) % 18446744073709551616 ≡ word_of (take n (drop from page))
unfolding word_of
short_is page from to n small h behind order inside some few =
    let i : ℕ = to - 8 in
    let e : drop i page ≡ reads page i 0 8 ++ drop (i + 8) page = eight page i (omega arith) in
    let start : from ≡ i + (8 - n) = omega arith in
    let f : drop from page ≡ drop (8 - n) (reads page i 0 8 ++ drop (i + 8) page) = ap (λ j. drop j page) start ∙ sym (drop-drop (8 - n) i page) ∙ ap (drop (8 - n)) e in
    ap (λ l. spell 8 0 l * 2 ^ (64 - 8 * n) % 18446744073709551616) e
    ∙ shifted n _ _ _ _ _ _ _ _ (drop (i + 8) page) (small (i + 1)) (small (i + 2)) (small (i + 3)) (small (i + 4)) (small (i + 5)) (small (i + 6)) (small (i + 7)) some few
    ∙ ap (λ l. spell 8 0 (take n l)) (sym f)

pub word-take : (m : ℕ) (bs : List ℕ) → 8 ≤ m → word_of (take m bs) ≡ word_of bs
unfolding word_of
word-take m bs l = spell-take 8 0 m bs l

pub word-none : (m : ℕ) (bs : List ℕ) → m ≡ 0 → word_of (take m bs) ≡ 0
unfolding word_of
word-none m bs e = ap (λ j. spell 8 0 (take j bs)) e

pub small_bytes : (bs : List ℕ) → ((k : ℕ) → Fits w8 (get_or bs k 0)) → Small bs
small_bytes bs h k = let f = h k in omega arith

pub eight_long : (key : List ℕ) (m : ℕ) (bs : List ℕ) → m ≡ min (length key) 8 → bs ≡ take m key → 8 ≤ length (put_mid 0 m (replicate 8 0) bs)
eight_long key m bs h e = by (length (put_mid 0 m (replicate 8 0) bs)) (length bs) (length (drop m (replicate 8 0)))
    (length-append bs (drop m (replicate 8 0))) (ap length e ∙ length-take m key) (length-drop m (replicate 8 0))
  where
    by : (all some rest : ℕ) → all ≡ some + rest → some ≡ min m (length key) → rest ≡ 8 - m → 8 ≤ all
    by all some rest p q r = omega arith

-- ---- the loop over eight bytes at a time
pub small-drop : (n : ℕ) (bs : List ℕ) → Small bs → Small (drop n bs)
small-drop n bs s k = subst (λ b. b < 256) (sym (get_or-drop n bs k 0)) (s (n + k))

-- so many bytes are alike, or all that both have
abbrev pub Alike : List ℕ → List ℕ → ℕ → ℕ → Type 0
Alike us vs both n = take (min n both) us ≡ take (min n both) vs

pub alike_first : (us vs : List ℕ) (both : ℕ) → Small us → Small vs → both ≡ min (length us) (length vs) → word_of us ≡ word_of vs → Alike us vs both 8
unfolding word_of
alike_first us vs both s t h e = alike 8 0 (min 8 both) us vs s t e (omega arith) (omega arith) (omega arith)

fewer : (us vs : List ℕ) (m n : ℕ) → m ≤ n → take n us ≡ take n vs → take m us ≡ take m vs
fewer us vs m n l e = sym (take-take m n us l) ∙ ap (take m) e ∙ take-take m n vs l

before : (us vs : List ℕ) (both n next : ℕ) → n < both → next ≡ min (n + 8) both → 8 ≤ n → Alike us vs both n → take (next - 8) us ≡ take (next - 8) vs
before us vs both n next l h f e = fewer us vs (next - 8) (min n both) (omega arith) e

pub word_apart : (us vs : List ℕ) (both n next x y : ℕ) → Small us → Small vs → both ≡ min (length us) (length vs) → n < both → next ≡ min (n + 8) both → 8 ≤ n
    → Alike us vs both n → x ≡ word_of (drop (next - 8) us) → y ≡ word_of (drop (next - 8) vs) → (x ≡ y → ⊥) → slice_cmp nat_cmp us vs ≡ nat_cmp x y
unfolding word_of
word_apart us vs both n next x y s t h l m f e p q d =
    past (next - 8) us vs (omega arith) (omega arith) (before us vs both n next l m f e)
    ∙ apart 8 0 (drop (next - 8) us) (drop (next - 8) vs) (small-drop (next - 8) us s) (small-drop (next - 8) vs t) (λ g. d (p ∙ g ∙ sym q))
    ∙ ap (λ z. nat_cmp z (spell 8 0 (drop (next - 8) vs))) (sym p) ∙ ap (nat_cmp x) (sym q)

pub word_alike : (us vs : List ℕ) (both n next : ℕ) → Small us → Small vs → both ≡ min (length us) (length vs) → n < both → next ≡ min (n + 8) both → 8 ≤ n
    → Alike us vs both n → word_of (drop (next - 8) us) ≡ word_of (drop (next - 8) vs) → Alike us vs both next
unfolding word_of
word_alike us vs both n next s t h l m f e g =
    let k : ℕ = next - 8 in
    let split : min next both ≡ k + 8 = omega arith in
    let lu : length (drop k us) ≡ length us - k = length-drop k us in
    let lv : length (drop k vs) ≡ length vs - k = length-drop k vs in
    let w : take 8 (drop k us) ≡ take 8 (drop k vs) =
    alike 8 0 8 (drop k us) (drop k vs) (small-drop k us s) (small-drop k vs t) g (omega arith) (omega arith) (omega arith) in
    ap (λ j. take j us) split ∙ take-add k 8 us
    ∙ ap (λ a. a ++ take 8 (drop k us)) (before us vs both n next l m f e)
    ∙ ap (λ b. take k vs ++ b) w
    ∙ sym (take-add k 8 vs) ∙ ap (λ j. take j vs) (sym split)

pub all_alike : (us vs : List ℕ) (both n : ℕ) → both ≡ min (length us) (length vs) → both ≤ n → Alike us vs both n → slice_cmp nat_cmp us vs ≡ nat_cmp (length us) (length vs)
all_alike us vs both n h l e = by_lengths (min n both) us vs (omega arith) e

-- ---- the first bytes decide where they differ
first_apart : (us vs : List ℕ) (x y : ℕ) → Small us → Small vs → x ≡ word_of us → y ≡ word_of vs → (x ≡ y → ⊥) → slice_cmp nat_cmp us vs ≡ nat_cmp x y
unfolding word_of
first_apart us vs x y s t p q d =
    apart 8 0 us vs s t (λ g. d (p ∙ g ∙ sym q)) ∙ ap (λ z. nat_cmp z (spell 8 0 vs)) (sym p) ∙ ap (nat_cmp x) (sym q)

pub first_less : (us vs : List ℕ) (x y p q : ℕ) → Small us → Small vs → x ≡ word_of us → y ≡ word_of vs → x < y → Less ≡ order us p vs q
first_less us vs x y p q s t f g l =
    ap (λ o. ordering_then o (nat_cmp p q)) (sym (first_apart us vs x y s t f g (λ e. omega arith) ∙ below x y l))

pub first_greater : (us vs : List ℕ) (x y p q : ℕ) → Small us → Small vs → x ≡ word_of us → y ≡ word_of vs → y < x → Greater ≡ order us p vs q
first_greater us vs x y p q s t f g l =
    ap (λ o. ordering_then o (nat_cmp p q)) (sym (first_apart us vs x y s t f g (λ e. omega arith) ∙ above x y l))

pub small-part : (n from : ℕ) (bs : List ℕ) → Small bs → Small (take n (drop from bs))
small-part n from bs s = front n (drop from bs) (small-drop from bs s)
  where
    front : (n : ℕ) (us : List ℕ) → Small us → Small (take n us)
    front zero us t k = omega arith
    front (suc n) [] t k = omega arith
    front (suc n) (u ∷ us) t zero = t zero
    front (suc n) (u ∷ us) t (suc k) = front n us (λ i. t (suc i)) k
