-- One queue for those who are active and those who wait.
use Rattle.std.specs.Prelude.{◌≡◌, ◌≢◌, ℕ, Some, zero, suc, ◌+◌, ◌-◌, ◌<◌, ◌≤◌, ◌==◌, min, max, true, false, List, [], ◌∷◌, ◌++◌, length, take, drop, slice_index, slice_index_or, if◌then◌else◌, remove}
use Rattle.std.specs.List.{AllByRecursion}
use Rattle.std.proofs.Common.{sym, ◌∙◌, ap, subst, refl, arith, append_assoc, length-append, length-take, length-drop, inl, inr}
use Rattle.std.proofs.lemmas.Bool.{cases_eq, cases_lt, eq-eqb, ne_eqb}
use Rattle.std.proofs.lemmas.List.{take_at, drop_at, drop-drop, drop_more, drop_all, take_all, take-append-drop}
use Rattle.std.proofs.Math.Seq.{take-add}
use Rattle.hg_gov.specs.Rounds.{GovernorState, IsIdle, count_of, without, front_of, turned, joined, stopped}
use Rattle.hg_gov.specs.Shown.{shown, IsKept}

-- ---- how often a request is in a queue

pub count-append : (r : ℕ) (a b : List ℕ) → count_of r (a ++ b) ≡ count_of r a + count_of r b
count-append r [] b = omega arith
count-append r (x ∷ a) b = let e = count-append r a b in omega arith

count-parts : (r n : ℕ) (q : List ℕ) → count_of r (take n q) + count_of r (drop n q) ≡ count_of r q
count-parts r n q = sym (count-append r (take n q) (drop n q)) ∙ ap (count_of r) (take-append-drop n q)

all-append : (P : ℕ → Type 0) (a b : List ℕ) → AllByRecursion P a → AllByRecursion P b → AllByRecursion P (a ++ b)
all-append P [] b h g = g
all-append P (x ∷ a) b h g = (h.0, all-append P a b h.1 g)

all-front : (P : ℕ → Type 0) (a b : List ℕ) → AllByRecursion P (a ++ b) → AllByRecursion P a
all-front P [] b h = tt
all-front P (x ∷ a) b h = (h.0, all-front P a b h.1)

all-back : (P : ℕ → Type 0) (a b : List ℕ) → AllByRecursion P (a ++ b) → AllByRecursion P b
all-back P [] b h = h
all-back P (x ∷ a) b h = all-back P a b h.1

-- ---- no more than 16 requests

abbrev total : ℕ → List ℕ → ℕ
total zero q = 0
total (suc n) q = count_of n q + total n q

count-same : (n : ℕ) (q : List ℕ) → count_of n (n ∷ q) ≡ 1 + count_of n q
count-same n q = ap (λ b. (if b then 1 else 0) + count_of n q) (eq-eqb n n refl)

count-other : (n x : ℕ) (q : List ℕ) → x ≢ n → count_of n (x ∷ q) ≡ count_of n q
count-other n x q d = let e = ap (λ b. (if b then 1 else 0) + count_of n q) (ne_eqb x n d) in omega arith

total-above : (n x : ℕ) (q : List ℕ) → n ≤ x → total n (x ∷ q) ≡ total n q
total-above zero x q h = refl
total-above (suc n) x q h =
    let c = count-other n x q (λ e. absurd (omega arith)) in
    let t = total-above n x q (omega arith) in
    omega arith

total-more : (n x : ℕ) (q : List ℕ) → x < n → total n (x ∷ q) ≡ 1 + total n q
total-more zero x q h = absurd (omega arith)
total-more (suc n) x q h = elim (cases_eq x n) [
  | inl e ↦
      let P : ℕ → Type 0 = λ z. count_of n (z ∷ q) ≡ 1 + count_of n q in
      let c = subst P (sym e) (count-same n q) in
      let t = total-above n x q (omega arith) in
      omega arith
  | inr d ↦
      let c = count-other n x q d in
      let t = total-more n x q (omega arith) in
      omega arith
]

total-length : (n : ℕ) (q : List ℕ) → AllByRecursion (λ r. r < n) q → length q ≡ total n q
total-length n [] h = none n
  where
    none : (n : ℕ) → 0 ≡ total n []
    none zero = refl
    none (suc n) = let t = none n in omega arith
total-length n (x ∷ q) h = let t = total-more n x q h.0 in let l = total-length n q h.1 in omega arith

total-few : (n : ℕ) (q : List ℕ) → ((r : ℕ) → count_of r q ≤ 1) → total n q ≤ n
total-few zero q h = omega arith
total-few (suc n) q h = let c = h n in let t = total-few n q h in omega arith

-- ---- what is true of the queue

pub record Facts (q : List ℕ) (a mpl : ℕ) : Type 0 where
  pub once : (r : ℕ) → count_of r q ≤ 1
  pub small : AllByRecursion (λ r. r < 16) q
  pub few : a ≤ length q
  pub none_waits : a < length q → mpl ≤ a

length-taken : (a : ℕ) (q : List ℕ) → a ≤ length q → length (take a q) ≡ a
length-taken a q h = omega (arith, length-take a q)

pub facts_of : (q : List ℕ) (a : ℕ) (held : List ℕ) (most current mpl : ℕ) → IsKept q a held most current mpl → Facts q a mpl
facts_of q a held most current mpl k =
    let P : List ℕ → Type 0 = λ l. AllByRecursion (λ r. r < 16) l in
    record {
      once = λ r. let o = k.sound.once r in let c = count-parts r a q in omega arith;
      small = subst P (take-append-drop a q) (all-append (λ r. r < 16) (take a q) (drop a q) k.sound.round_small k.sound.waiting_small);
      few = k.few;
      none_waits = λ h.
          let w = k.sound.none_waits (let d = length-drop a q in omega arith) in
          let l = length-taken a q k.few in omega arith;
    }

pub kept_of : (q p : List ℕ) (a b : ℕ) (held : List ℕ) (most current mpl n : ℕ) → IsKept q a held most current mpl → 1 ≤ n → n ≤ 16 → Facts p b n
    → IsKept p b held most current n
kept_of q p a b held most current mpl n k some few f =
    let P : List ℕ → Type 0 = λ l. AllByRecursion (λ r. r < 16) l in
    let all : AllByRecursion (λ r. r < 16) (take b p ++ drop b p) = subst P (sym (take-append-drop b p)) f.small in
    record {
      few = f.few;
      sound = record {
        once = λ r. let o = f.once r in let c = count-parts r b p in omega arith;
        round_small = all-front (λ r. r < 16) (take b p) (drop b p) all;
        waiting_small = all-back (λ r. r < 16) (take b p) (drop b p) all;
        none_waits = λ h.
            let d = length-drop b p in
            let l = length-taken b p f.few in
            let w = f.none_waits (omega arith) in omega arith;
        all_held = k.sound.all_held;
        most_few = k.sound.most_few;
        current_some = k.sound.current_some;
        current_few = k.sound.current_few;
        mpl_some = some;
        mpl_few = few;
      };
    }

-- ---- start

pub idle_whole : (q : List ℕ) (a r : ℕ) → count_of r (take a q) + count_of r (drop a q) ≡ 0 → count_of r q ≡ 0
idle_whole q a r h = let c = count-parts r a q in omega arith

once-more : (q : List ℕ) (r : ℕ) → ((x : ℕ) → count_of x q ≤ 1) → count_of r q ≡ 0 → (x : ℕ) → count_of x (r ∷ q) ≤ 1
once-more q r once idle x = elim (cases_eq r x) [
  | inl e ↦
      let P : ℕ → Type 0 = λ z. count_of x (z ∷ q) ≡ 1 + count_of x q in
      let c = subst P (sym e) (count-same x q) in
      let i = ap (λ z. count_of z q) e in
      omega arith
  | inr d ↦ let c = count-other x r q d in let o = once x in omega arith
]

pub has_room : (q : List ℕ) (r : ℕ) → ((x : ℕ) → count_of x q ≤ 1) → AllByRecursion (λ x. x < 16) q → count_of r q ≡ 0 → r < 16 → length q < 16
has_room q r once small idle low =
    let t = total-few 16 (r ∷ q) (once-more q r once idle) in
    let l = total-length 16 (r ∷ q) (low, small) in
    omega arith

once-behind : (q : List ℕ) (r : ℕ) → ((x : ℕ) → count_of x q ≤ 1) → count_of r q ≡ 0 → (x : ℕ) → count_of x (q ++ r ∷ []) ≤ 1
once-behind q r once idle x = let m = once-more q r once idle x in let c = count-append x q (r ∷ []) in omega arith

pub starts : (q : List ℕ) (a b mpl r : ℕ) → Facts q a mpl → count_of r q ≡ 0 → r < 16 → b ≤ length q + 1 → (b < length q + 1 → mpl ≤ b) → Facts (q ++ r ∷ []) b mpl
starts q a b mpl r f idle low few waits =
    let l = length-append q (r ∷ []) in
    record {
      once = once-behind q r f.once idle;
      small = all-append (λ x. x < 16) q (r ∷ []) f.small (low, tt);
      few = omega arith;
      none_waits = λ h. waits (omega arith);
    }

-- ---- the queue with its front elsewhere

pub at_front : (q : List ℕ) (x : ℕ) → 0 < length q → x ≡ slice_index_or q 0 x → q ≡ x ∷ drop 1 q
at_front [] x h e = absurd (omega arith)
at_front (y ∷ q) x h e = ap (λ z. z ∷ q) (sym e)

-- the front of the active ones goes behind them
abbrev pub moved : List ℕ → ℕ → ℕ → List ℕ
moved q x m = take m q ++ x ∷ drop m q

count-moved : (r x m : ℕ) (q : List ℕ) → count_of r (moved q x m) ≡ count_of r (x ∷ q)
count-moved r x m q = let a = count-append r (take m q) (x ∷ drop m q) in let p = count-parts r m q in omega arith

all-moved : (P : ℕ → Type 0) (x m : ℕ) (q : List ℕ) → AllByRecursion P (x ∷ q) → AllByRecursion P (moved q x m)
all-moved P x m q h =
    let Q : List ℕ → Type 0 = λ l. AllByRecursion P l in
    let all : AllByRecursion P (take m q ++ drop m q) = subst Q (sym (take-append-drop m q)) h.1 in
    all-append P (take m q) (x ∷ drop m q) (all-front P (take m q) (drop m q) all) (h.0, all-back P (take m q) (drop m q) all)

length-moved : (x m : ℕ) (q : List ℕ) → length (moved q x m) ≡ 1 + length q
length-moved x m q = let a = length-append (take m q) (x ∷ drop m q) in let p = ap length (take-append-drop m q) in let b = length-append (take m q) (drop m q) in omega arith

pub turns : (q : List ℕ) (x a m mpl : ℕ) → Facts (x ∷ q) a mpl → Facts (moved q x m) a mpl
turns q x a m mpl f =
    let l = length-moved x m q in
    let few = f.few in
    record {
      once = λ r. let o = f.once r in let c = count-moved r x m q in omega arith;
      small = all-moved (λ r. r < 16) x m q f.small;
      few = omega arith;
      none_waits = λ h. f.none_waits (omega arith);
    }

pub round_turned : (q : List ℕ) (x m : ℕ) → m ≤ length q → take (suc m) (moved q x m) ≡ take m q ++ x ∷ []
round_turned q x m h =
    let l = length-taken m q h in
    let k = length-append (take m q) (x ∷ []) in
    ap (take (suc m)) (sym (append_assoc (take m q) (x ∷ []) (drop m q))) ∙ take_at (take m q ++ x ∷ []) (drop m q) (suc m) (omega arith)

pub waiting_turned : (q : List ℕ) (x m : ℕ) → m ≤ length q → drop (suc m) (moved q x m) ≡ drop m q
waiting_turned q x m h =
    let l = length-taken m q h in
    let k = length-append (take m q) (x ∷ []) in
    ap (drop (suc m)) (sym (append_assoc (take m q) (x ∷ []) (drop m q))) ∙ drop_at (take m q ++ x ∷ []) (drop m q) (suc m) (omega arith)

-- ---- joining

pub joins_round : (q : List ℕ) (a mpl : ℕ) → a ≤ length q → take a q ++ take (mpl - length (take a q)) (drop a q) ≡ take (max a (min mpl (length q))) q
joins_round q a mpl h =
    let l = length-taken a q h in
    ap (λ n. take a q ++ take (mpl - n) (drop a q)) l ∙ sym (take-add a (mpl - a) q) ∙ elim (cases_lt (length q) mpl) [
      | inl b ↦ take_all (a + (mpl - a)) q (omega arith) ∙ sym (take_all (max a (min mpl (length q))) q (omega arith))
      | inr b ↦ ap (λ n. take n q) (let e : a + (mpl - a) ≡ max a (min mpl (length q)) = omega arith in e)
    ]

pub joins_waiting : (q : List ℕ) (a mpl : ℕ) → a ≤ length q → drop (mpl - length (take a q)) (drop a q) ≡ drop (max a (min mpl (length q))) q
joins_waiting q a mpl h =
    let l = length-taken a q h in
    ap (λ n. drop (mpl - n) (drop a q)) l ∙ drop-drop (mpl - a) a q ∙ elim (cases_lt (length q) mpl) [
      | inl b ↦ drop_all (a + (mpl - a)) q (omega arith) ∙ sym (drop_all (max a (min mpl (length q))) q (omega arith))
      | inr b ↦ ap (λ n. drop n q) (let e : a + (mpl - a) ≡ max a (min mpl (length q)) = omega arith in e)
    ]

pub joins : (q : List ℕ) (a : ℕ) (held : List ℕ) (most current mpl b : ℕ) → a ≤ length q → b ≡ max a (min mpl (length q))
    → shown q b held most current mpl ≡ joined (shown q a held most current mpl)
joins q a held most current mpl b h e =
    ap (λ n. shown q n held most current mpl) e
    ∙ (λ i. record {
      round = sym (joins_round q a mpl h) i;
      waiting = sym (joins_waiting q a mpl h) i;
      held = held;
      most = most;
      current = current;
      mpl = mpl;
    })

pub join_facts : (q : List ℕ) (a b mpl : ℕ) → ((r : ℕ) → count_of r q ≤ 1) → AllByRecursion (λ r. r < 16) q → a ≤ length q → b ≡ max a (min mpl (length q)) → Facts q b mpl
join_facts q a b mpl once small few e = record {
  once = once;
  small = small;
  few = omega arith;
  none_waits = λ h. omega arith;
}

-- ---- stopping

without-none : (r : ℕ) (xs : List ℕ) → count_of r xs ≡ 0 → without r xs ≡ xs
without-none r [] h = refl
without-none r (x ∷ xs) h = elim (cases_eq x r) [
  | inl e ↦
      let P : ℕ → Type 0 = λ z. count_of r (z ∷ xs) ≡ 1 + count_of r xs in
      absurd (let c = subst P (sym e) (count-same r xs) in omega arith)
  | inr d ↦
      let c = count-other r x xs d in
      ap (λ b. if b then without r xs else x ∷ without r xs) (ne_eqb x r d) ∙ ap (λ l. x ∷ l) (without-none r xs (omega arith))
]

without-append : (r : ℕ) (a b : List ℕ) → without r (a ++ b) ≡ without r a ++ without r b
without-append r [] b = refl
without-append r (x ∷ a) b =
    elim (x == r) as (λ t. (if t then without r (a ++ b) else x ∷ without r (a ++ b)) ≡ (if t then without r a else x ∷ without r a) ++ without r b) [
      | true ↦ without-append r a b
      | false ↦ ap (λ l. x ∷ l) (without-append r a b)
    ]

without-here : (r : ℕ) (a b : List ℕ) → count_of r a ≡ 0 → count_of r b ≡ 0 → without r (a ++ r ∷ b) ≡ a ++ b
without-here r a b ha hb =
    without-append r a (r ∷ b) ∙ ap (λ l. l ++ without r (r ∷ b)) (without-none r a ha)
    ∙ ap (λ l. a ++ l) (ap (λ t. if t then without r b else r ∷ without r b) (eq-eqb r r refl) ∙ without-none r b hb)

-- the queue at the place of a request
pub record IsSplit (q : List ℕ) (at r : ℕ) : Type 0 where
  pub front : List ℕ
  pub behind : List ℕ
  pub all : q ≡ front ++ r ∷ behind
  pub place : length front ≡ at
  pub rest : remove q at ≡ front ++ behind
  pub none_front : count_of r front ≡ 0
  pub none_behind : count_of r behind ≡ 0

pub split_at : (q : List ℕ) (at r : ℕ) → at < length q → slice_index q at ≡ r → ((x : ℕ) → count_of x q ≤ 1) → IsSplit q at r
split_at q at r h e once =
    let behind : List ℕ = drop (at + 1) q in
    let front : List ℕ = take at q in
    let all : q ≡ front ++ r ∷ behind =
    sym (take-append-drop at q) ∙ ap (λ l. front ++ l) (drop_more q at 0 h ∙ ap (λ z. z ∷ behind) e) in
    let c = ap (count_of r) all ∙ count-append r front (r ∷ behind) in
    let s = count-same r behind in
    let o = once r in
    record {
      front = front;
      behind = behind;
      all = all;
      place = length-taken at q (omega arith);
      rest = ap (λ n. front ++ drop n q) (let z : suc at ≡ at + 1 = omega arith in z);
      none_front = omega arith;
      none_behind = omega arith;
    }

none-taken : (r n : ℕ) (xs : List ℕ) → count_of r xs ≡ 0 → count_of r (take n xs) ≡ 0
none-taken r n xs h = let c = count-parts r n xs in omega arith

none-dropped : (r n : ℕ) (xs : List ℕ) → count_of r xs ≡ 0 → count_of r (drop n xs) ≡ 0
none-dropped r n xs h = let c = count-parts r n xs in omega arith

take-into : (u v : List ℕ) (n k : ℕ) → n ≡ length u + k → take n (u ++ v) ≡ u ++ take k v
take-into [] v n k e = ap (λ m. take m v) (let z : n ≡ k = omega arith in z)
take-into (x ∷ u) v n k e = ap (λ m. take m (x ∷ (u ++ v))) (let z : n ≡ suc (length u + k) = omega arith in z) ∙ ap (λ l. x ∷ l) (take-into u v (length u + k) k refl)

drop-into : (u v : List ℕ) (n k : ℕ) → n ≡ length u + k → drop n (u ++ v) ≡ drop k v
drop-into [] v n k e = ap (λ m. drop m v) (let z : n ≡ k = omega arith in z)
drop-into (x ∷ u) v n k e = ap (λ m. drop m (x ∷ (u ++ v))) (let z : n ≡ suc (length u + k) = omega arith in z) ∙ drop-into u v (length u + k) k refl

take-within : (u v : List ℕ) (n : ℕ) → n ≤ length u → take n (u ++ v) ≡ take n u
take-within u v zero h = refl
take-within [] v (suc n) h = absurd (omega arith)
take-within (x ∷ u) v (suc n) h = ap (λ l. x ∷ l) (take-within u v n (omega arith))

drop-within : (u v : List ℕ) (n : ℕ) → n ≤ length u → drop n (u ++ v) ≡ drop n u ++ v
drop-within u v zero h = refl
drop-within [] v (suc n) h = absurd (omega arith)
drop-within (x ∷ u) v (suc n) h = drop-within u v n (omega arith)

-- of an active request: the round is one shorter
pub stops_active : (q : List ℕ) (at r a : ℕ) → (s : IsSplit q at r) → at < a → a ≤ length q
    → (take (a - 1) (remove q at) ≡ without r (take a q)) × (drop (a - 1) (remove q at) ≡ without r (drop a q))
stops_active q at r a s h few =
    let k : ℕ = a - 1 - at in
    let p = s.place in
    let front = s.front in
    let behind = s.behind in
    let round : take a q ≡ front ++ r ∷ take k behind =
    ap (take a) s.all ∙ take-into front (r ∷ behind) a (suc k) (omega arith) in
    let waiting : drop a q ≡ drop k behind = ap (drop a) s.all ∙ drop-into front (r ∷ behind) a (suc k) (omega arith) in (
      ap (take (a - 1)) s.rest ∙ take-into front behind (a - 1) k (omega arith)
          ∙ sym (ap (without r) round ∙ without-here r front (take k behind) s.none_front (none-taken r k behind s.none_behind)),
      ap (drop (a - 1)) s.rest ∙ drop-into front behind (a - 1) k (omega arith)
          ∙ sym (ap (without r) waiting ∙ without-none r (drop k behind) (none-dropped r k behind s.none_behind)),
    )

-- of a waiting one: the round stays
pub stops_waiting : (q : List ℕ) (at r a : ℕ) → (s : IsSplit q at r) → a ≤ at
    → (take a (remove q at) ≡ without r (take a q)) × (drop a (remove q at) ≡ without r (drop a q))
stops_waiting q at r a s h =
    let p = s.place in
    let front = s.front in
    let behind = s.behind in
    let round : take a q ≡ take a front = ap (take a) s.all ∙ take-within front (r ∷ behind) a (omega arith) in
    let waiting : drop a q ≡ drop a front ++ r ∷ behind = ap (drop a) s.all ∙ drop-within front (r ∷ behind) a (omega arith) in (
      ap (take a) s.rest ∙ take-within front behind a (omega arith)
          ∙ sym (ap (without r) round ∙ without-none r (take a front) (none-taken r a front s.none_front)),
      ap (drop a) s.rest ∙ drop-within front behind a (omega arith)
          ∙ sym (ap (without r) waiting ∙ without-here r (drop a front) behind (none-dropped r a front s.none_front) s.none_behind),
    )

pub stops : (q p : List ℕ) (r a b d : ℕ) (held : List ℕ) (most current mpl : ℕ) → (take b p ≡ without r (take a q)) × (drop b p ≡ without r (drop a q)) → b ≤ length p
    → d ≡ max b (min mpl (length p)) → shown p d held most current mpl ≡ stopped r (shown q a held most current mpl)
stops q p r a b d held most current mpl parts few e =
    let now : GovernorState = record (shown q a held most current mpl) { round = without r (take a q); waiting = without r (drop a q) } in
    let same : shown p b held most current mpl ≡ now = λ i. record {
      round = parts.0 i;
      waiting = parts.1 i;
      held = held;
      most = most;
      current = current;
      mpl = mpl;
    } in
    joins p b held most current mpl d few e ∙ ap joined same

pub removed_once : (q : List ℕ) (at r : ℕ) → (s : IsSplit q at r) → ((x : ℕ) → count_of x q ≤ 1) → (x : ℕ) → count_of x (remove q at) ≤ 1
removed_once q at r s once x =
    let o = once x in
    let c = ap (count_of x) s.all ∙ count-append x s.front (r ∷ s.behind) in
    let d = ap (count_of x) s.rest ∙ count-append x s.front s.behind in
    let e = count-append x (r ∷ []) s.behind in
    omega arith

pub removed_small : (q : List ℕ) (at r : ℕ) → (s : IsSplit q at r) → AllByRecursion (λ x. x < 16) q → AllByRecursion (λ x. x < 16) (remove q at)
removed_small q at r s h =
    let Q : List ℕ → Type 0 = λ l. AllByRecursion (λ x. x < 16) l in
    let all : AllByRecursion (λ x. x < 16) (s.front ++ r ∷ s.behind) = subst Q s.all h in
    subst Q (sym s.rest) (all-append (λ x. x < 16) s.front s.behind (all-front (λ x. x < 16) s.front (r ∷ s.behind) all)
    (all-back (λ x. x < 16) s.front (r ∷ s.behind) all).1)

pub length_removed : (q : List ℕ) (at r : ℕ) → IsSplit q at r → length (remove q at) + 1 ≡ length q
length_removed q at r s =
    let a = ap length s.all ∙ length-append s.front (r ∷ s.behind) in
    let b = ap length s.rest ∙ length-append s.front s.behind in
    omega arith

-- a request that is in the queue, and not in its front, is in the rest
pub not_gone : (q : List ℕ) (r at : ℕ) → length q ≤ at → 1 ≤ count_of r (drop at q) → ⊥
not_gone q r at h c = let e = ap (count_of r) (drop_all at q h) in omega arith

pub passed : (q : List ℕ) (r at : ℕ) → at < length q → slice_index q at ≢ r → 1 ≤ count_of r (drop at q) → 1 ≤ count_of r (drop (at + 1) q)
passed q r at h d c =
    let e = ap (count_of r) (drop_more q at 0 h) in
    let o = count-other r (slice_index q at) (drop (at + 1) q) d in
    omega arith

pub few_active : (q : List ℕ) (a : ℕ) (held : List ℕ) (most current mpl : ℕ) → IsKept q a held most current mpl → a ≤ 16
few_active q a held most current mpl k =
    let f = facts_of q a held most current mpl k in
    let t = total-few 16 q f.once in
    let l = total-length 16 q f.small in
    let h = f.few in
    omega arith

-- a request that was idle goes behind all
pub kept_start : (q : List ℕ) (a b : ℕ) (held : List ℕ) (most current mpl r : ℕ) → IsKept q a held most current mpl → IsIdle (shown q a held most current mpl) r → r < 16
    → b ≤ length q + 1 → (b < length q + 1 → mpl ≤ b) → IsKept (q ++ r ∷ []) b held most current mpl
kept_start q a b held most current mpl r k idle low few waits =
    kept_of q (q ++ r ∷ []) a b held most current mpl mpl k k.sound.mpl_some k.sound.mpl_few
    (starts q a b mpl r (facts_of q a held most current mpl k) (idle_whole q a r idle) low few waits)

pub room_start : (q : List ℕ) (a : ℕ) (held : List ℕ) (most current mpl r : ℕ) → IsKept q a held most current mpl → IsIdle (shown q a held most current mpl) r → r < 16
    → length q < 16
room_start q a held most current mpl r k idle low =
    let f = facts_of q a held most current mpl k in has_room q r f.once f.small (idle_whole q a r idle) low

-- the round turns
pub turn_kept : (q p : List ℕ) (x a m : ℕ) (held : List ℕ) (most current mpl : ℕ) → q ≡ x ∷ p → IsKept q a held most current mpl → IsKept (moved p x m) a held most current mpl
turn_kept q p x a m held most current mpl e k =
    let f = facts_of q a held most current mpl k in
    kept_of q (moved p x m) a a held most current mpl mpl k k.sound.mpl_some k.sound.mpl_few (turns p x a m mpl (subst (λ z. Facts z a mpl) e f))

turn_state_at : (p : List ℕ) (x m : ℕ) (held : List ℕ) (most current mpl : ℕ) → m ≤ length p
    → shown (moved p x m) (suc m) held most current mpl ≡ record (shown (x ∷ p) (suc m) held most current mpl) { round = turned (take (suc m) (x ∷ p)) }
turn_state_at p x m held most current mpl h = λ i. record {
  round = round_turned p x m h i;
  waiting = waiting_turned p x m h i;
  held = held;
  most = most;
  current = current;
  mpl = mpl;
}

pub turn_state : (q p : List ℕ) (x a m : ℕ) (held : List ℕ) (most current mpl : ℕ) → q ≡ x ∷ p → a ≡ suc m → a ≤ length q
    → shown (moved p x m) a held most current mpl ≡ record (shown q a held most current mpl) { round = turned (take a q) }
turn_state q p x a m held most current mpl e k h =
    let P : List ℕ → ℕ → Type 0 = λ z n. shown (moved p x m) n held most current mpl ≡ record (shown z n held most current mpl) { round = turned (take n z) } in
    subst (λ z. P z a) (sym e) (subst (λ n. P (x ∷ p) n) (sym k) (turn_state_at p x m held most current mpl (let l = ap length e in omega arith)))

pub turn_front : (q p : List ℕ) (x a m : ℕ) → q ≡ x ∷ p → a ≡ suc m → Some x ≡ front_of (take a q)
turn_front q p x a m e k =
    let P : List ℕ → ℕ → Type 0 = λ z n. Some x ≡ front_of (take n z) in
    subst (λ z. P z a) (sym e) (subst (λ n. P (x ∷ p) n) (sym k) refl)

pub front_small : (q p : List ℕ) (x a : ℕ) (held : List ℕ) (most current mpl : ℕ) → q ≡ x ∷ p → IsKept q a held most current mpl → x < 16
front_small q p x a held most current mpl e k =
    let f = facts_of q a held most current mpl k in
    let Q : List ℕ → Type 0 = λ l. AllByRecursion (λ r. r < 16) l in
    (subst Q e f.small).0

-- a request leaves, and waiting ones join
pub stop_kept : (q p : List ℕ) (at r a b d : ℕ) (held : List ℕ) (most current mpl : ℕ) → IsKept q a held most current mpl → (s : IsSplit q at r) → p ≡ remove q at
    → b ≤ length p → d ≡ max b (min mpl (length p)) → IsKept p d held most current mpl
stop_kept q p at r a b d held most current mpl k s e few j =
    let f = facts_of q a held most current mpl k in
    let P : List ℕ → Type 0 = λ l. (x : ℕ) → count_of x l ≤ 1 in
    let Q : List ℕ → Type 0 = λ l. AllByRecursion (λ x. x < 16) l in
    kept_of q p a d held most current mpl mpl k k.sound.mpl_some k.sound.mpl_few
    (join_facts p b d mpl (subst P (sym e) (removed_once q at r s f.once)) (subst Q (sym e) (removed_small q at r s f.small)) few j)

pub split_kept : (q : List ℕ) (at r a : ℕ) (held : List ℕ) (most current mpl : ℕ) → IsKept q a held most current mpl → at < length q → slice_index q at ≡ r → IsSplit q at r
split_kept q at r a held most current mpl k h e = split_at q at r h e (facts_of q a held most current mpl k).once

pub busy_whole : (q : List ℕ) (a r : ℕ) → 1 ≤ count_of r (take a q) + count_of r (drop a q) → 1 ≤ count_of r q
busy_whole q a r h = let c = count-parts r a q in omega arith

pub room_all : (q : List ℕ) (a : ℕ) (held : List ℕ) (most current mpl : ℕ) → IsKept q a held most current mpl → length q ≤ 16
room_all q a held most current mpl k =
    let f = facts_of q a held most current mpl k in
    let t = total-few 16 q f.once in
    let l = total-length 16 q f.small in
    omega arith

-- what is left of both queues once a request is gone, before waiting ones join
pub record IsLeft (q p : List ℕ) (r a b : ℕ) : Type 0 where
  pub parts : (take b p ≡ without r (take a q)) × (drop b p ≡ without r (drop a q))
  pub few : b ≤ length p

pub left_active : (q p : List ℕ) (at r a b : ℕ) → IsSplit q at r → p ≡ remove q at → at < a → a ≤ length q → b ≡ a - 1 → IsLeft q p r a b
left_active q p at r a b s e h few i =
    let P : List ℕ → ℕ → Type 0 = λ z n. IsLeft q z r a n in
    subst (λ z. P z b) (sym e) (subst (λ n. P (remove q at) n) (sym i) (record {
      parts = stops_active q at r a s h few;
      few = let l = length_removed q at r s in omega arith;
    }))

pub left_waiting : (q p : List ℕ) (at r a b : ℕ) → IsSplit q at r → p ≡ remove q at → a ≤ at → at < length q → b ≡ a → IsLeft q p r a b
left_waiting q p at r a b s e h inside i =
    let P : List ℕ → ℕ → Type 0 = λ z n. IsLeft q z r a n in
    subst (λ z. P z b) (sym e) (subst (λ n. P (remove q at) n) (sym i) (record {
      parts = stops_waiting q at r a s h;
      few = let l = length_removed q at r s in omega arith;
    }))
