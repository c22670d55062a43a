-- What a chain's fields say of its frames.
use Rattle.std.proofs.Common.{◌≡◌, ℕ, ◌+◌, ◌-◌, ◌<◌, ◌≤◌, ◌^◌, Bool, true, false, ◌||◌, ◌&&◌, not, ◌==◌, if◌then◌else◌, List, [], ◌∷◌, ◌++◌, length, take, drop, slice_set, refl, sym, ap, subst, ◌∙◌, arith, w32, lit<}
use Rattle.std.specs.Int.{from_le_bytes}
use Rattle.std.proofs.lemmas.Nat.{from_le_bytes-to_le_bytes_4}
use Rattle.core.specs.List.{length_refill}
use borrow.Rule.Slice.PartMut.{put_mid, mid_of, mid_len, same_len_mid}
use denote.RawPtr.{Ptr}
use Rattle.hg_raw.specs.declared.slots.Slots.{Slots}
use Rattle.hg_raw.specs.declared.chain.Chain.TheInside.{Inside}
use Rattle.hg_raw.specs.ChainParts.{IsChain, chain_seen}
use Rattle.hg_raw.specs.Frames.{Frame, RegionId, ChainSeen, numbers, is_in, distinct, apart, bytes_of, without, minus, with_bytes, refit}
use Rattle.hg_raw.specs.Links.{first_of, last_of, nil, half, word, linked, relinked, from, behind, before, marked, Sized, Below}
use Rattle.hg_raw.proofs.Lists.{linked-numbers, linked-sized, sized-at, linked-word, from-next, below-at, no_nil, last-in, linked-join, first-append, last-append, numbers-append, sized-append, below-append, distinct-append, linked-minus, numbers-without, sized-without, below-minus, distinct-minus, first-minus, last-minus, sized-with, numbers-with, from-first, from-behind, or_false, or_right, clash, same, by_bool, with-none, before-in, or_rest, in-append, in-minus, bytes-without, bytes-append}

pub first-small : (N : ℕ) (ns : List ℕ) → N < 2 ^ 32 → Below N ns → first_of ns < 2 ^ 32
first-small N [] small b = lit< tt
first-small N (n ∷ ns) small b = omega (arith, b.0, small)

pub behind-below : (N : ℕ) (ns : List ℕ) (n : ℕ) → Below N ns → Below N (behind n ns)
behind-below N [] n b = tt
behind-below N (m ∷ ms) n b = elim (m == n) as (λ t. Below N (if t then ms else behind n ms)) [ true ↦ b.1 | false ↦ behind-below N ms n b.1 ]

pub before-small : (N p : ℕ) (ns : List ℕ) (f : ℕ) → N < 2 ^ 32 → p < 2 ^ 32 → Below N ns → before p ns f < 2 ^ 32
before-small N p [] f small q b = lit< tt
before-small N p (m ∷ ms) f small q b = elim (m == f) as (λ t. (if t then p else before m ms f) < 2 ^ 32) [ true ↦ q | false ↦ before-small N m ms f small (omega (arith, b.0, small)) b.1 ]

half-is : (m n : ℕ) → m < 2 ^ 32 → n < 2 ^ 32 → half m ≡ half n → m ≡ n
half-is m n a b e = sym (from_le_bytes-to_le_bytes_4 m a) ∙ ap (from_le_bytes w32) e ∙ from_le_bytes-to_le_bytes_4 n b

-- ---- the words of frames
pub record Worded (s : Slots) (ns : List ℕ) : Type 0 where
  pub size : s.size ≡ 8
  pub sized : Sized 8 s.held
  pub all : numbers s.held ≡ ns

pub same-length : (at to : ℕ) (b : List ℕ) → at + 4 ≤ length b → length (put_mid at 4 b (half to)) ≡ length b
same-length at to b h =
    let e : at + 4 - at ≡ 4 = omega arith in
    same_len_mid at 4 b (half to) (sym (subst (λ (k : ℕ). length (mid_of at k b) ≡ k) e (mid_len at (at + 4) b h)))

pub worded-there : (s : Slots) (ns : List ℕ) → Worded s ns → (n : ℕ) → is_in n ns ≡ true → length (bytes_of s.held n) ≡ 8
worded-there s ns w n h = sized-at 8 s.held n w.sized (ap (is_in n) w.all ∙ h)

pub worded-in : (s : Slots) (ns : List ℕ) → Worded s ns → (n : ℕ) (t : Bool) → is_in n ns ≡ t → is_in n (numbers s.held) ≡ t
worded-in s ns w n t h = ap (is_in n) w.all ∙ h

pub worded-link : (s t : Slots) (ns : List ℕ) → Worded s ns → (n at to : ℕ) → at + 4 ≤ 8 → t ≡ record { base = s.base; size = 8; held = relinked s.held n at to } → Worded t ns
worded-link s t ns w n at to inside e =
    let b : List ℕ = bytes_of s.held n in
    let fits : is_in n (numbers s.held) ≡ true → length (put_mid at 4 b (half to)) ≡ 8
    = λ h. let l : length b ≡ 8 = sized-at 8 s.held n w.sized h in same-length at to b (subst (λ (k : ℕ). at + 4 ≤ k) (sym l) inside) ∙ l in
    record {
      size = ap (λ (t : Slots). t.size) e;
      sized = subst (λ (t : Slots). Sized 8 t.held) (sym e) (sized-with 8 s.held n (put_mid at 4 b (half to)) fits w.sized);
      all = ap (λ (t : Slots). numbers t.held) e ∙ numbers-with s.held n (put_mid at 4 b (half to)) ∙ w.all;
    }

module _ (c : Inside) (is : IsChain c) where
  abbrev ns : List ℕ
  ns = numbers c.pages.held

  pub word_numbers : numbers c.words.held ≡ ns
  word_numbers = ap numbers is.words ∙ linked-numbers nil ns

  pub words-sized : Sized 8 c.words.held
  words-sized = subst (Sized 8) (sym is.words) (linked-sized nil ns)

  pub worded : Worded c.words ns
  worded = record { size = is.word_size; sized = words-sized; all = word_numbers }

  pub no-nil : is_in nil ns ≡ false
  no-nil = no_nil c.frames ns is.few is.below

  pub words-no-nil : is_in nil (numbers c.words.held) ≡ false
  words-no-nil = ap (is_in nil) word_numbers ∙ no-nil

  pub word-there : (n : ℕ) → is_in n ns ≡ true → length (bytes_of c.words.held n) ≡ 8
  word-there n h = worded-there c.words ns worded n h

  pub page-there : (n : ℕ) → is_in n ns ≡ true → length (bytes_of c.pages.held n) ≡ 4096
  page-there n h = sized-at 4096 c.pages.held n is.sized h

  pub next-is : (n r : ℕ) → is_in n ns ≡ true → r < 2 ^ 32 → half r ≡ take 4 (drop 4 (bytes_of c.words.held n)) → r ≡ first_of (behind n ns)
  next-is n r h small e =
      half-is r (first_of (behind n ns)) small (first-small c.frames (behind n ns) is.few (behind-below c.frames ns n is.below))
      (e ∙ ap (λ (fs : List Frame). take 4 (drop 4 (bytes_of fs n))) is.words ∙ ap (λ (b : List ℕ). take 4 (drop 4 b)) (linked-word nil ns n h))

  pub previous-is : (n r : ℕ) → is_in n ns ≡ true → r < 2 ^ 32 → half r ≡ take 4 (drop 0 (bytes_of c.words.held n)) → r ≡ before nil ns n
  previous-is n r h small e =
      half-is r (before nil ns n) small (before-small c.frames nil ns n is.few (lit< tt) is.below)
      (e ∙ ap (λ (fs : List Frame). take 4 (drop 0 (bytes_of fs n))) is.words ∙ ap (λ (b : List ℕ). take 4 (drop 0 b)) (linked-word nil ns n h))

  pub rest-is : (n r : ℕ) → is_in n ns ≡ true → r ≡ first_of (behind n ns) → from r ns ≡ behind n ns
  rest-is n r h e = ap (λ k. from k ns) e ∙ from-next c.frames n ns is.few is.below is.distinct h

  pub is-below : (n : ℕ) → is_in n ns ≡ true → n < c.frames
  is-below n h = below-at c.frames ns n is.below h

-- a page written
pub page-lent : (c : Inside) → IsChain c → (n : ℕ) (w : List ℕ) → is_in n (numbers c.pages.held) ≡ true
    → IsChain (record c { pages = record { base = c.pages.base; size = c.pages.size; held = with_bytes c.pages.held n (refit (bytes_of c.pages.held n) w) } })
page-lent c is n w h =
    let b : List ℕ = bytes_of c.pages.held n in
    let e : numbers (with_bytes c.pages.held n (refit b w)) ≡ numbers c.pages.held = numbers-with c.pages.held n (refit b w) in
    record {
      word_size = is.word_size;
      page_size = is.page_size;
      words = is.words ∙ ap (linked nil) (sym e);
      sized = sized-with 4096 c.pages.held n (refit b w) (λ _. sym (length_refill (length b) b w refl) ∙ page-there c is n h) is.sized;
      below = subst (Below c.frames) (sym e) is.below;
      few = is.few;
      distinct = ap distinct e ∙ is.distinct;
      first = is.first ∙ ap first_of (sym e);
      last = is.last ∙ ap last_of (sym e);
    }

-- two chains joined
pub joined : (c d : Inside) → IsChain c → IsChain d → (chain_seen d).region ≡ (chain_seen c).region → apart (numbers c.pages.held) (numbers d.pages.held) ≡ true
    → (e : Inside) → e.words ≡ record { base = c.words.base; size = 8; held = relinked c.words.held c.last 4 d.first ++ relinked d.words.held d.first 0 c.last }
    → e.pages ≡ record { base = c.pages.base; size = c.pages.size; held = c.pages.held ++ d.pages.held }
    → e.frames ≡ c.frames → e.first ≡ (if c.first == nil then d.first else c.first) → e.last ≡ (if d.last == nil then c.last else d.last) → IsChain e
joined c d is it same_region far e ew ep ef first last =
    let ns : List ℕ = numbers c.pages.held in let ms : List ℕ = numbers d.pages.held in
    let held : e.pages.held ≡ c.pages.held ++ d.pages.held = ap (λ (s : Slots). s.held) ep in
    let all : numbers e.pages.held ≡ ns ++ ms = ap numbers held ∙ numbers-append c.pages.held d.pages.held in
    let few : d.frames ≡ c.frames = ap (λ (r : RegionId). r.frames) same_region in
    record {
      word_size = ap (λ (s : Slots). s.size) ew;
      page_size = ap (λ (s : Slots). s.size) ep ∙ is.page_size;
      words = ap (λ (s : Slots). s.held) ew ∙ (λ i. relinked (is.words i) (is.last i) 4 (it.first i) ++ relinked (it.words i) (it.first i) 0 (is.last i)) ∙ linked-join ns ms is.distinct ∙ ap (linked nil) (sym all);
      sized = subst (Sized 4096) (sym held) (sized-append 4096 c.pages.held d.pages.held is.sized it.sized);
      below = subst (λ n. Below n (numbers e.pages.held)) (sym ef) (subst (Below c.frames) (sym all) (below-append c.frames ns ms is.below (subst (λ n. Below n ms) few it.below)));
      few = subst (λ n. n < 2 ^ 32) (sym ef) is.few;
      distinct = ap distinct all ∙ distinct-append ns ms is.distinct it.distinct far;
      first = first ∙ (λ i. if is.first i == nil then it.first i else is.first i) ∙ sym (first-append ns ms (no-nil c is)) ∙ ap first_of (sym all);
      last = last ∙ (λ i. if it.last i == nil then is.last i else it.last i) ∙ sym (last-append ns ms (no-nil d it)) ∙ ap last_of (sym all);
    }

-- a frame taken out
pub splits : (c : Inside) → IsChain c → (f next prev : ℕ) → is_in f (numbers c.pages.held) ≡ true → next ≡ first_of (behind f (numbers c.pages.held)) → prev ≡ before nil (numbers c.pages.held) f
    → (e : Inside) → e.words ≡ record { base = c.words.base; size = 8; held = without (relinked (relinked c.words.held prev 4 next) next 0 prev) f }
    → e.pages ≡ record { base = c.pages.base; size = c.pages.size; held = without c.pages.held f }
    → e.frames ≡ c.frames → e.first ≡ (if c.first == f then next else c.first) → e.last ≡ (if c.last == f then prev else c.last) → IsChain e
splits c is f next prev h en epr e ew ep ef first last =
    let ns : List ℕ = numbers c.pages.held in
    let held : e.pages.held ≡ without c.pages.held f = ap (λ (s : Slots). s.held) ep in
    let all : numbers e.pages.held ≡ minus ns f = ap numbers held ∙ numbers-without c.pages.held f in
    record {
      word_size = ap (λ (s : Slots). s.size) ew;
      page_size = ap (λ (s : Slots). s.size) ep ∙ is.page_size;
      words = ap (λ (s : Slots). s.held) ew ∙ (λ i. without (relinked (relinked (is.words i) (epr i) 4 (en i)) (en i) 0 (epr i)) f) ∙ linked-minus nil ns f (no-nil c is) (no-nil c is) is.distinct h ∙ ap (linked nil) (sym all);
      sized = subst (Sized 4096) (sym held) (sized-without 4096 c.pages.held f is.sized);
      below = subst (λ n. Below n (numbers e.pages.held)) (sym ef) (subst (Below c.frames) (sym all) (below-minus c.frames ns f is.below));
      few = subst (λ n. n < 2 ^ 32) (sym ef) is.few;
      distinct = ap distinct all ∙ distinct-minus ns f is.distinct;
      first = first ∙ (λ i. if is.first i == f then en i else is.first i) ∙ sym (first-minus ns f h) ∙ ap first_of (sym all);
      last = last ∙ (λ i. if is.last i == f then epr i else is.last i) ∙ sym (last-minus ns f (no-nil c is) is.distinct h) ∙ ap last_of (sym all);
    }

-- one frame
pub alone : (p q : Ptr) (N f : ℕ) (b w : List ℕ) → f < N → N < 2 ^ 32 → length b ≡ 4096
    → IsChain (record { words = record { base = p; size = 8; held = with_bytes ((f, w) ∷ []) f (word nil nil) }; pages = record { base = q; size = 4096; held = (f, b) ∷ [] }; frames = N; first = f; last = f })
alone p q N f b w small few l = record {
  word_size = refl;
  page_size = refl;
  words = ap (λ t. if t then (f, word nil nil) ∷ [] else (f, w) ∷ []) (same f);
  sized = (l, tt);
  below = (small, tt);
  few = few;
  distinct = refl;
  first = refl;
  last = refl;
}

pub rest-smaller : (ns : List ℕ) (n r : ℕ) → is_in n ns ≡ true → from r ns ≡ behind n ns → length (from r ns) < length (from n ns)
rest-smaller ns n r h e = subst (λ (xs : List ℕ). length xs < length (from n ns)) (sym e) (subst (λ (xs : List ℕ). length (behind n ns) < length xs) (sym (from-behind n ns h)) (omega arith))

pub seen-no-nil : (c : Inside) → IsChain c → (v : ChainSeen) → chain_seen c ≡ v → is_in nil (numbers v.frames) ≡ false
seen-no-nil c is v e = subst (λ (v : ChainSeen). is_in nil (numbers v.frames) ≡ false) e (no-nil c is)

pub in-seen : (c : Inside) (v : ChainSeen) → chain_seen c ≡ v → (n : ℕ) → is_in n (numbers v.frames) ≡ true → is_in n (numbers c.pages.held) ≡ true
in-seen c v e n h = subst (λ (v : ChainSeen). is_in n (numbers v.frames) ≡ true) (sym e) h

-- ---- what the calls ask for
pub unlinked : (s : Slots) → s.size ≡ 8 → (n at to : ℕ) → is_in nil (numbers s.held) ≡ false → n ≡ nil → s ≡ record { base = s.base; size = 8; held = relinked s.held n at to }
unlinked s size n at to out e =
    let held : s.held ≡ relinked s.held n at to = sym (with-none s.held n (put_mid at 4 (bytes_of s.held n) (half to)) (ap (λ k. is_in k (numbers s.held)) e ∙ out)) in
    λ i. record { base = s.base; size = size i; held = held i }

last-is-in : (ns : List ℕ) → (last_of ns ≡ nil → ⊥) → is_in (last_of ns) ns ≡ true
last-is-in [] ne = absurd (ne refl)
last-is-in (n ∷ ns) ne = last-in n ns

pub last-there : (c : Inside) → IsChain c → (c.last ≡ nil → ⊥) → length (bytes_of c.words.held c.last) ≡ 8
last-there c is ne =
    word-there c is c.last (subst (λ k. is_in k (numbers c.pages.held) ≡ true) (sym is.last) (last-is-in (numbers c.pages.held) (λ e. ne (is.last ∙ e))))

first-is-in : (ns : List ℕ) → (first_of ns ≡ nil → ⊥) → is_in (first_of ns) ns ≡ true
first-is-in [] ne = absurd (ne refl)
first-is-in (n ∷ ns) ne = ap (λ t. t || is_in n ns) (same n)

pub first-there : (c : Inside) → IsChain c → (c.first ≡ nil → ⊥) → length (bytes_of c.words.held c.first) ≡ 8
first-there c is ne =
    word-there c is c.first (subst (λ k. is_in k (numbers c.pages.held) ≡ true) (sym is.first) (first-is-in (numbers c.pages.held) (λ e. ne (is.first ∙ e))))

next-is-in : (ns : List ℕ) (f : ℕ) → (first_of (behind f ns) ≡ nil → ⊥) → is_in (first_of (behind f ns)) ns ≡ true
next-is-in [] f ne = absurd (ne refl)
next-is-in (m ∷ ms) f ne =
    elim (m == f) as (λ t. (first_of (if t then ms else behind f ms) ≡ nil → ⊥) → is_in (first_of (if t then ms else behind f ms)) (m ∷ ms) ≡ true) [
      | true ↦ λ ne. or_right (m == first_of ms) (is_in (first_of ms) ms) (first-is-in ms ne)
      | false ↦ λ ne. or_right (m == first_of (behind f ms)) (is_in (first_of (behind f ms)) ms) (next-is-in ms f ne)
    ] ne

pub next-in : (c : Inside) (f next : ℕ) → next ≡ first_of (behind f (numbers c.pages.held)) → (next ≡ nil → ⊥) → is_in next (numbers c.pages.held) ≡ true
next-in c f next e ne = subst (λ k. is_in k (numbers c.pages.held) ≡ true) (sym e) (next-is-in (numbers c.pages.held) f (λ k. ne (e ∙ k)))

before-is-in : (ns : List ℕ) (f : ℕ) → is_in f ns ≡ true → (before nil ns f ≡ nil → ⊥) → is_in (before nil ns f) ns ≡ true
before-is-in [] f h ne = clash false h refl
before-is-in (m ∷ ms) f h ne =
    by_bool (m == f)
    (λ t. absurd (ne (ap (λ u. if u then nil else before m ms f) t)))
    (λ t. before-in nil m ms f t (or_rest (m == f) (is_in f ms) h t))

pub before-there : (c : Inside) → IsChain c → (f prev : ℕ) → is_in f (numbers c.pages.held) ≡ true → prev ≡ before nil (numbers c.pages.held) f → (prev ≡ nil → ⊥) → length (bytes_of c.words.held prev) ≡ 8
before-there c is f prev h e ne =
    word-there c is prev (subst (λ k. is_in k (numbers c.pages.held) ≡ true) (sym e) (before-is-in (numbers c.pages.held) f h (λ k. ne (e ∙ k))))

pub cut-there : (s t : Slots) (n f : ℕ) → t ≡ record { base = s.base; size = s.size; held = (f, bytes_of s.held f) ∷ [] } → length (bytes_of s.held f) ≡ n → length (bytes_of t.held f) ≡ n
cut-there s t n f e l = ap (λ (t : Slots). length (bytes_of t.held f)) e ∙ ap (λ u. length (if u then bytes_of s.held f else [])) (same f) ∙ l

pub single : (p q : Ptr) (N f : ℕ) (b w : List ℕ) (ws ps : Slots) → f < N → N < 2 ^ 32 → length b ≡ 4096 → ws ≡ record { base = p; size = 8; held = with_bytes ((f, w) ∷ []) f (word nil nil) } → ps ≡ record { base = q; size = 4096; held = (f, b) ∷ [] }
    → IsChain (record { words = ws; pages = ps; frames = N; first = f; last = f })
single p q N f b w ws ps small few l ew ep =
    subst (λ (u : Slots × Slots). IsChain (record { words = u.0; pages = u.1; frames = N; first = f; last = f })) (λ i. (sym ew i, sym ep i)) (alone p q N f b w small few l)

-- ---- the walk along a chain
pub real-in : (n : ℕ) (ns : List ℕ) → n ≡ first_of (from n ns) → (n ≡ nil → ⊥) → is_in n ns ≡ true
real-in n [] e ne = absurd (ne e)
real-in n (m ∷ ms) e ne = elim (m == n) as (λ t. n ≡ first_of (if t then m ∷ ms else from n ms) → (t || is_in n ms) ≡ true) [ true ↦ λ _. refl | false ↦ λ e. real-in n ms e ne ] e

from-out : (n : ℕ) (ns : List ℕ) → is_in n ns ≡ false → from n ns ≡ []
from-out n [] h = refl
from-out n (m ∷ ms) h = ap (λ t. if t then m ∷ ms else from n ms) (or_false _ _ h).0 ∙ from-out n ms (or_false _ _ h).1

pub seen-from-nil : (c : Inside) → IsChain c → (v : ChainSeen) → chain_seen c ≡ v → (n : ℕ) → n ≡ nil → from n (numbers v.frames) ≡ []
seen-from-nil c is v e n h = ap (λ k. from k (numbers v.frames)) h ∙ from-out nil (numbers v.frames) (seen-no-nil c is v e)

pub seen-from-first : (c : Inside) → IsChain c → (v : ChainSeen) → chain_seen c ≡ v → from c.first (numbers v.frames) ≡ numbers v.frames
seen-from-first c is v e = subst (λ (v : ChainSeen). from c.first (numbers v.frames) ≡ numbers v.frames) e (ap (λ k. from k (numbers c.pages.held)) is.first ∙ from-first (numbers c.pages.held))

pub seen-first : (c : Inside) → IsChain c → (v : ChainSeen) → chain_seen c ≡ v → c.first ≡ first_of (numbers v.frames)
seen-first c is v e = subst (λ (v : ChainSeen). c.first ≡ first_of (numbers v.frames)) e is.first

pub marks-next : (flags : List Bool) (ns : List ℕ) (n r : ℕ) → is_in n ns ≡ true → from r ns ≡ behind n ns → marked (slice_set flags n true) (from r ns) ≡ marked flags (from n ns)
marks-next flags ns n r h rest = ap (marked (slice_set flags n true)) rest ∙ sym (ap (marked flags) (from-behind n ns h))

-- ---- what a caller sees of a join and a split
pub seen-joined : (c d : Inside) (v w : ChainSeen) → chain_seen c ≡ v → chain_seen d ≡ w → (s : Slots) → s ≡ record { base = c.pages.base; size = c.pages.size; held = c.pages.held ++ d.pages.held } → s.held ≡ v.frames ++ w.frames
seen-joined c d v w ev ew s e = ap (λ (s : Slots). s.held) e ∙ (λ i. (ev i).frames ++ (ew i).frames)

pub has-joined : (fs gs hs : List Frame) → hs ≡ fs ++ gs → (k : ℕ) → is_in k (numbers hs) ≡ (is_in k (numbers fs) || is_in k (numbers gs))
has-joined fs gs hs e k = ap (λ (xs : List Frame). is_in k (numbers xs)) e ∙ ap (is_in k) (numbers-append fs gs) ∙ in-append k (numbers fs) (numbers gs)

pub bytes-joined : (fs gs hs : List Frame) → hs ≡ fs ++ gs → (k : ℕ) → bytes_of hs k ≡ (if is_in k (numbers fs) then bytes_of fs k else bytes_of gs k)
bytes-joined fs gs hs e k = ap (λ (xs : List Frame). bytes_of xs k) e ∙ bytes-append fs gs k

pub seen-left : (c : Inside) (v : ChainSeen) → chain_seen c ≡ v → (f : ℕ) (s : Slots) → s ≡ record { base = c.pages.base; size = c.pages.size; held = without c.pages.held f } → s.held ≡ without v.frames f
seen-left c v ev f s e = ap (λ (s : Slots). s.held) e ∙ ap (λ (v : ChainSeen). without v.frames f) ev

pub has-left : (c : Inside) → IsChain c → (v : ChainSeen) → chain_seen c ≡ v → (f : ℕ) (hs : List Frame) → hs ≡ without v.frames f → (k : ℕ) → is_in k (numbers hs) ≡ (is_in k (numbers v.frames) && not (k == f))
has-left c is v ev f hs e k =
    let d : distinct (numbers v.frames) ≡ true = subst (λ (v : ChainSeen). distinct (numbers v.frames) ≡ true) ev is.distinct in
    ap (λ (xs : List Frame). is_in k (numbers xs)) e ∙ ap (is_in k) (numbers-without v.frames f) ∙ in-minus k f (numbers v.frames) d

pub bytes-left : (fs hs : List Frame) (f : ℕ) → hs ≡ without fs f → (k : ℕ) → (k ≡ f → ⊥) → bytes_of hs k ≡ bytes_of fs k
bytes-left fs hs f e k ne = ap (λ (xs : List Frame). bytes_of xs k) e ∙ bytes-without fs k f ne

pub one-has : (s : Slots) (p : Ptr) (n f : ℕ) (b : List ℕ) → s ≡ record { base = p; size = n; held = (f, b) ∷ [] } → (is_in f (numbers s.held) ≡ true) × (bytes_of s.held f ≡ b)
one-has s p n f b e = (ap (λ (s : Slots). is_in f (numbers s.held)) e ∙ ap (λ t. t || false) (same f), ap (λ (s : Slots). bytes_of s.held f) e ∙ ap (λ t. if t then b else []) (same f))
