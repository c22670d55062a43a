-- The pages at home, of which those that were never taken are seen as zeros.
use Rattle.std.proofs.Common.{◌≡◌, ℕ, zero, suc, ◌<◌, Bool, true, false, ◌||◌, ◌==◌, if◌then◌else◌, List, [], ◌∷◌, ◌++◌, length, replicate, get_or, slice_set, refl, sym, ap, subst, ◌∙◌, append_assoc, append-nil}
use Rattle.std.proofs.Math.ListN.{length-set, length-replicate}
use Rattle.hg_raw.specs.declared.slots.Slots.{Slots}
use Rattle.hg_raw.specs.declared.slots.Blanks.{Blanks}
use Rattle.hg_raw.specs.declared.pages.Pages.TheInside.{Inside}
use Rattle.hg_raw.specs.PageParts.{PagesSeen, pages_seen, IsPages}
use Rattle.hg_raw.specs.Frames.{Frame, numbers, is_in, distinct, bytes_of, without, minus}
use Rattle.hg_raw.specs.Links.{Sized, zeros, down, blanks, flags}
use Rattle.hg_raw.proofs.Lists.{clash, or_rest, numbers-append, in-append, bytes-append, sized-without, sized-append, distinct-minus}
use Rattle.hg_raw.proofs.Homes.{flag-at, flags-minus, fresh-flags, zeros-distinct}

pub numbers-blanks : (s : ℕ) (ns : List ℕ) → numbers (blanks s ns) ≡ ns
numbers-blanks s [] = refl
numbers-blanks s (n ∷ ns) = ap (λ (ms : List ℕ). n ∷ ms) (numbers-blanks s ns)

blanks-down : (s n : ℕ) → blanks s (down n) ≡ zeros s n
blanks-down s zero = refl
blanks-down s (suc n) = ap (λ (fs : List Frame). (n, replicate s 0) ∷ fs) (blanks-down s n)

numbers-zeros : (s n : ℕ) → numbers (zeros s n) ≡ down n
numbers-zeros s n = ap numbers (sym (blanks-down s n)) ∙ numbers-blanks s (down n)

bytes-blank : (s : ℕ) (ns : List ℕ) (n : ℕ) → is_in n ns ≡ true → bytes_of (blanks s ns) n ≡ replicate s 0
bytes-blank s [] n h = clash false h refl
bytes-blank s (m ∷ ms) n h =
    elim (m == n) as (λ t. (t || is_in n ms) ≡ true → (if t then replicate s 0 else bytes_of (blanks s ms) n) ≡ replicate s 0) [ true ↦ λ _. refl | false ↦ λ i. bytes-blank s ms n i ] h

without-blanks : (s : ℕ) (ns : List ℕ) (n : ℕ) → without (blanks s ns) n ≡ blanks s (minus ns n)
without-blanks s [] n = refl
without-blanks s (m ∷ ms) n =
    elim (m == n) as (λ t. (if t then blanks s ms else (m, replicate s 0) ∷ without (blanks s ms) n) ≡ blanks s (if t then ms else m ∷ minus ms n)) [
      | true ↦ refl
      | false ↦ ap (λ (fs : List Frame). (m, replicate s 0) ∷ fs) (without-blanks s ms n)
    ]

without-front : (fs gs : List Frame) (n : ℕ) → is_in n (numbers fs) ≡ true → without (fs ++ gs) n ≡ without fs n ++ gs
without-front [] gs n h = clash false h refl
without-front (f ∷ fs) gs n h =
    elim (f.0 == n) as (λ t. (t || is_in n (numbers fs)) ≡ true → (if t then fs ++ gs else f ∷ without (fs ++ gs) n) ≡ (if t then fs else f ∷ without fs n) ++ gs) [
      | true ↦ λ _. refl
      | false ↦ λ i. ap (λ (hs : List Frame). f ∷ hs) (without-front fs gs n i)
    ] h

without-behind : (fs gs : List Frame) (n : ℕ) → is_in n (numbers fs) ≡ false → without (fs ++ gs) n ≡ fs ++ without gs n
without-behind [] gs n h = refl
without-behind (f ∷ fs) gs n h =
    elim (f.0 == n) as (λ t. (t || is_in n (numbers fs)) ≡ false → (if t then fs ++ gs else f ∷ without (fs ++ gs) n) ≡ f ∷ fs ++ without gs n) [
      | true ↦ λ i. clash true refl i
      | false ↦ λ i. ap (λ (hs : List Frame). f ∷ hs) (without-behind fs gs n i)
    ] h

module _ (p : Inside) (is : IsPages p) (v : PagesSeen) (e : pages_seen p ≡ v) (n : ℕ) where
  abbrev left : List ℕ
  left = p.blanks.left

  abbrev held : List Frame
  held = p.written.held

  pub inside-is : n < v.frames → n < length p.blank.items
  inside-is lt = subst (λ (v : PagesSeen). n < v.frames) (sym e) lt

  pub blank-is : (d : Bool) → n < v.frames → get_or p.blank.items n d ≡ is_in n left
  blank-is d lt = ap (λ (hs : List Bool). get_or hs n d) is.blank ∙ flag-at left (length p.blank.items) n d (inside-is lt)

  pub within : n < v.frames → n < p.blank.len
  within lt = subst (λ k. n < k) (sym p.blank.ok.0) (inside-is lt)

  pub told : (t d : Bool) → n < v.frames → d ≡ get_or p.blank.items n d → d ≡ t → is_in n left ≡ t
  told t d lt e h = sym (blank-is d lt) ∙ sym e ∙ h

  in-front : (t : Bool) → is_in n left ≡ t → is_in n (numbers (blanks 4096 left)) ≡ t
  in-front t h = ap (is_in n) (numbers-blanks 4096 left) ∙ h

  pub written-is : is_in n left ≡ false → is_in n (numbers v.held) ≡ true → is_in n (numbers held) ≡ true
  written-is out h =
      or_rest (is_in n (numbers (blanks 4096 left))) (is_in n (numbers held))
      (sym (in-append n (numbers (blanks 4096 left)) (numbers held)) ∙ ap (is_in n) (sym (numbers-append (blanks 4096 left) held)) ∙ ap (λ (v : PagesSeen). is_in n (numbers v.held)) e ∙ h) (in-front false out)

  pub bytes-begun : is_in n left ≡ true → bytes_of v.held n ≡ replicate 4096 0
  bytes-begun h =
      ap (λ (v : PagesSeen). bytes_of v.held n) (sym e) ∙ bytes-append (blanks 4096 left) held n ∙ ap (λ t. if t then bytes_of (blanks 4096 left) n else bytes_of held n) (in-front true h) ∙ bytes-blank 4096 left n h

  pub bytes-written : is_in n left ≡ false → bytes_of v.held n ≡ bytes_of held n
  bytes-written h =
      ap (λ (v : PagesSeen). bytes_of v.held n) (sym e) ∙ bytes-append (blanks 4096 left) held n ∙ ap (λ t. if t then bytes_of (blanks 4096 left) n else bytes_of held n) (in-front false h)

  pub begun-part : is_in n left ≡ true → (s : Slots) → s ≡ record { base = p.blanks.base; size = 4096; held = (n, replicate 4096 0) ∷ [] } → s ≡ record { base = v.base; size = 4096; held = (n, bytes_of v.held n) ∷ [] }
  begun-part h s es = es ∙ (λ i. record { base = (is.base ∙ ap (λ (v : PagesSeen). v.base) e) i; size = 4096; held = (n, sym (bytes-begun h) i) ∷ [] })

  pub cut-part : is_in n left ≡ false → (s : Slots) → s ≡ record { base = p.written.base; size = p.written.size; held = (n, bytes_of held n) ∷ [] } → s ≡ record { base = v.base; size = 4096; held = (n, bytes_of v.held n) ∷ [] }
  cut-part h s es = es ∙ (λ i. record { base = (ap (λ (v : PagesSeen). v.base) e) i; size = is.size i; held = (n, sym (bytes-written h) i) ∷ [] })

  -- a page that was blank is begun
  pub begun-is : n < v.frames → (q : Inside) → q.written ≡ p.written → q.blanks ≡ record { base = p.blanks.base; left = minus left n } → q.blank.items ≡ slice_set p.blank.items n false → IsPages q
  begun-is lt q ew eb eh =
      let N : ℕ = length p.blank.items in
      let count : length q.blank.items ≡ N = ap (λ (hs : List Bool). length hs) eh ∙ length-set p.blank.items n false in
      let rest : q.blanks.left ≡ minus left n = ap (λ (b : Blanks). b.left) eb in
      record {
        size = ap (λ (s : Slots). s.size) ew ∙ is.size;
        sized = subst (λ (s : Slots). Sized 4096 s.held) (sym ew) is.sized;
        base = ap (λ (b : Blanks). b.base) eb ∙ is.base ∙ ap (λ (s : Slots). s.base) (sym ew);
        distinct = ap distinct rest ∙ distinct-minus left n is.distinct;
        blank = eh ∙ ap (λ (hs : List Bool). slice_set hs n false) is.blank ∙ sym (flags-minus left N n (inside-is lt) is.distinct) ∙ (λ i. flags (sym rest i) (sym count i));
      }

  pub begun-seen : is_in n left ≡ true → (bs : Blanks) → bs ≡ record { base = p.blanks.base; left = minus left n }
      → ◌≡◌ {A = PagesSeen} (record { base = p.written.base; frames = length (slice_set p.blank.items n false); held = blanks 4096 bs.left ++ held }) (record { base = v.base; frames = v.frames; held = without v.held n })
  begun-seen h bs eb =
      let now : blanks 4096 (minus left n) ++ held ≡ without (blanks 4096 left ++ held) n = ap (λ (fs : List Frame). fs ++ held) (sym (without-blanks 4096 left n)) ∙ sym (without-front (blanks 4096 left) held n (in-front true h)) in
      (λ i. record { base = p.written.base; frames = length-set p.blank.items n false i; held = blanks 4096 (eb i).left ++ held }) ∙ ap (λ (fs : List Frame). record { base = p.written.base; frames = length p.blank.items; held = fs }) now
      ∙ ap (λ (v : PagesSeen). record { base = v.base; frames = v.frames; held = without v.held n }) e

  -- one that was written is taken out
  pub cut-is : (q : Inside) → q.written ≡ record { base = p.written.base; size = p.written.size; held = without held n } → q.blanks ≡ p.blanks → q.blank ≡ p.blank → IsPages q
  cut-is q ew eb eh = record {
    size = ap (λ (s : Slots). s.size) ew ∙ is.size;
    sized = subst (λ (s : Slots). Sized 4096 s.held) (sym ew) (sized-without 4096 held n is.sized);
    base = ap (λ (b : Blanks). b.base) eb ∙ is.base ∙ ap (λ (s : Slots). s.base) (sym ew);
    distinct = ap (λ (b : Blanks). distinct b.left) eb ∙ is.distinct;
    blank = (λ i. (eh i).items) ∙ is.blank ∙ (λ i. flags (sym eb i).left (length (sym eh i).items));
  }

  pub cut-seen : is_in n left ≡ false → (q : Inside) → q.written ≡ record { base = p.written.base; size = p.written.size; held = without held n } → q.blanks ≡ p.blanks → q.blank ≡ p.blank
      → pages_seen q ≡ record { base = v.base; frames = v.frames; held = without v.held n }
  cut-seen out q ew eb eh =
      (λ i. record { base = (ew i).base; frames = length (eh i).items; held = blanks 4096 (eb i).left ++ (ew i).held })
      ∙ ap (λ (fs : List Frame). record { base = p.written.base; frames = length p.blank.items; held = fs }) (sym (without-behind (blanks 4096 left) held n (in-front false out)))
      ∙ ap (λ (v : PagesSeen). record { base = v.base; frames = v.frames; held = without v.held n }) e

-- pages put behind
pub append-is : (p : Inside) → IsPages p → (fs : List Frame) → Sized 4096 fs → (q : Inside) → q.written ≡ record { base = p.written.base; size = p.written.size; held = p.written.held ++ fs } → q.blanks ≡ p.blanks → q.blank ≡ p.blank → IsPages q
append-is p is fs z q ew eb eh = record {
  size = ap (λ (s : Slots). s.size) ew ∙ is.size;
  sized = subst (λ (s : Slots). Sized 4096 s.held) (sym ew) (sized-append 4096 p.written.held fs is.sized z);
  base = ap (λ (b : Blanks). b.base) eb ∙ is.base ∙ ap (λ (s : Slots). s.base) (sym ew);
  distinct = ap (λ (b : Blanks). distinct b.left) eb ∙ is.distinct;
  blank = (λ i. (eh i).items) ∙ is.blank ∙ (λ i. flags (sym eb i).left (length (sym eh i).items));
}

pub append-seen : (p : Inside) (v : PagesSeen) → pages_seen p ≡ v → (fs : List Frame) (q : Inside) → q.written ≡ record { base = p.written.base; size = p.written.size; held = p.written.held ++ fs } → q.blanks ≡ p.blanks → q.blank ≡ p.blank
    → pages_seen q ≡ record { base = v.base; frames = v.frames; held = v.held ++ fs }
append-seen p v e fs q ew eb eh =
    (λ i. record { base = (ew i).base; frames = length (eh i).items; held = blanks 4096 (eb i).left ++ (ew i).held })
    ∙ ap (λ (gs : List Frame). record { base = p.written.base; frames = length p.blank.items; held = gs }) (sym (append_assoc (blanks 4096 p.blanks.left) p.written.held fs))
    ∙ ap (λ (v : PagesSeen). record { base = v.base; frames = v.frames; held = v.held ++ fs }) e

-- new pages, of which none was written to
pub new-pages-is : (q : Inside) (N : ℕ) → q.written ≡ record { base = q.blanks.base; size = 4096; held = [] } → q.blanks.left ≡ down N → q.blank.items ≡ replicate N true → IsPages q
new-pages-is q N ew eb eh =
    let count : length q.blank.items ≡ N = ap (λ (hs : List Bool). length hs) eh ∙ length-replicate N true in
    record {
      size = ap (λ (s : Slots). s.size) ew;
      sized = subst (λ (s : Slots). Sized 4096 s.held) (sym ew) tt;
      base = ap (λ (s : Slots). s.base) (sym ew);
      distinct = ap distinct (eb ∙ sym (numbers-zeros 4096 N)) ∙ zeros-distinct 4096 N;
      blank = eh ∙ sym (fresh-flags N) ∙ (λ i. flags ((numbers-zeros 4096 N ∙ sym eb) i) (sym count i));
    }

pub new-pages-seen : (q : Inside) (N : ℕ) → q.written ≡ record { base = q.blanks.base; size = 4096; held = [] } → q.blanks.left ≡ down N → q.blank.items ≡ replicate N true
    → pages_seen q ≡ record { base = q.blanks.base; frames = N; held = zeros 4096 N }
new-pages-seen q N ew eb eh =
    (λ i. record { base = (ew i).base; frames = (ap (λ (hs : List Bool). length hs) eh ∙ length-replicate N true) i; held = blanks 4096 (eb i) ++ (ew i).held })
    ∙ ap (λ (fs : List Frame). record { base = q.blanks.base; frames = N; held = fs }) (append-nil (blanks 4096 (down N)) ∙ blanks-down 4096 N)

-- each page is blank or written
pub either : (p : Inside) (v : PagesSeen) → pages_seen p ≡ v → (n : ℕ) → is_in n (numbers v.held) ≡ true → (is_in n p.blanks.left || is_in n (numbers p.written.held)) ≡ true
either p v e n h =
    ap (λ (ns : List ℕ). is_in n ns || is_in n (numbers p.written.held)) (sym (numbers-blanks 4096 p.blanks.left)) ∙ sym (in-append n (numbers (blanks 4096 p.blanks.left)) (numbers p.written.held))
    ∙ ap (is_in n) (sym (numbers-append (blanks 4096 p.blanks.left) p.written.held)) ∙ ap (λ (v : PagesSeen). is_in n (numbers v.held)) e ∙ h
