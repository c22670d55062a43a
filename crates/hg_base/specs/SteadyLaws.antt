-- Laws of what every call over a space keeps: they join call to call.
use Rattle.std.specs.Prelude.{◌≡◌, ℕ, Option, None, Some, IfSome, ⊤}
use Rattle.std.proofs.Common.{sym, ◌∙◌, ap, subst, refl, arith}
use Rattle.hg_base.specs.Space.{Space, Counts, NoPins, IsSame}
use Rattle.hg_base.specs.Causes.{Later, HasCause, MayBeFound, MainFailed, TempFailed, NoneFull, counts_after}
use Rattle.hg_base.specs.Steadiness.{Mine, Steady, IsPlain, IsSamePage}
use Rattle.hg_base.specs.declared.pages.PageFault.{PageFault}
use Rattle.hg_base.specs.declared.pages.PageFault.TheVariants as fault

pub Later_same : (a : Counts) → Later a a
Later_same a = record {
  main_device = omega arith;
  temp_device = omega arith;
  main = omega arith;
  temp = omega arith;
  main_full = omega arith;
  temp_full = omega arith;
}

pub Later_then : (a b c : Counts) → Later a b → Later b c → Later a c
Later_then a b c p q = record {
  main_device = omega arith;
  temp_device = omega arith;
  main = omega arith;
  temp = omega arith;
  main_full = omega arith;
  temp_full = omega arith;
}

pub IsSamePage_then : (a b c : Space) (q : ℕ) → IsSamePage a b q → IsSamePage b c q → IsSamePage a c q
IsSamePage_then a b c q p r = record {
  taken = r.taken ∙ p.taken;
  of_heap = r.of_heap ∙ p.of_heap;
  bytes = r.bytes ∙ p.bytes;
  next = r.next ∙ p.next;
}

-- a plain page stays plain where it stays as it was
pub IsPlain_stays : (a b : Space) (q : ℕ) → IsSamePage a b q → IsPlain a q → IsPlain b q
IsPlain_stays a b q p h = record { taken = p.taken ∙ h.taken; no_heap = p.of_heap ∙ h.no_heap }

-- nothing happened
pub Steady_same : (m : Mine) (a : Space) → NoPins a → Steady m a a
Steady_same m a h = record {
  pins_before = h;
  pins_after = h;
  told = refl;
  limit = refl;
  device_limit = refl;
  pages = λ q _ p. record { taken = refl; of_heap = refl; bytes = refl; next = refl };
  taken = λ q _. refl;
  of_heap = λ q _. refl;
  heaps = λ h _. refl;
  current = refl;
  most = refl;
  caps = λ r. refl;
  peaks = λ r _. refl;
  counts = Later_same a.counts;
}

-- one call behind another
pub Steady_then : (m : Mine) (a b c : Space) → Steady m a b → Steady m b c → Steady m a c
Steady_then m a b c p r = record {
  pins_before = p.pins_before;
  pins_after = r.pins_after;
  told = r.told ∙ p.told;
  limit = r.limit ∙ p.limit;
  device_limit = r.device_limit ∙ p.device_limit;
  pages = λ q n h. IsSamePage_then a b c q (p.pages q n h) (r.pages q n (IsPlain_stays a b q (p.pages q n h) h));
  taken = λ q n. r.taken q n ∙ p.taken q n;
  of_heap = λ q n. r.of_heap q n ∙ p.of_heap q n;
  heaps = λ h n. r.heaps h n ∙ p.heaps h n;
  current = r.current ∙ p.current;
  most = r.most ∙ p.most;
  caps = λ q. r.caps q ∙ p.caps q;
  peaks = λ q n. r.peaks q n ∙ p.peaks q n;
  counts = Later_then a.counts b.counts c.counts p.counts r.counts;
}

-- what owns more leaves less as it was
pub Steady_wider : (m w : Mine) (a b : Space) → ((q : ℕ) → m.pages q → w.pages q) → ((h : ℕ) → m.heaps h → w.heaps h)
    → ((r : ℕ) → m.requests r → w.requests r) → Steady m a b → Steady w a b
Steady_wider m w a b pages heaps requests p = record {
  pins_before = p.pins_before;
  pins_after = p.pins_after;
  told = p.told;
  limit = p.limit;
  device_limit = p.device_limit;
  pages = λ q n h. p.pages q (λ x. n (pages q x)) h;
  taken = λ q n. p.taken q (λ x. n (pages q x));
  of_heap = λ q n. p.of_heap q (λ x. n (pages q x));
  heaps = λ h n. p.heaps h (λ x. n (heaps h x));
  current = p.current;
  most = p.most;
  caps = p.caps;
  peaks = λ r n. p.peaks r (λ x. n (requests r x));
  counts = p.counts;
}

-- a refusal that changed counts alone
pub Steady_refused : (m : Mine) (a b : Space) → NoPins a → IsSame a b → Later a.counts b.counts → Steady m a b
Steady_refused m a b h e l =
    let P : Space → Type 0 = λ c. Later a.counts c.counts → Steady m a c in
    subst P (sym e.after) (λ l. record {
      pins_before = h;
      pins_after = record { none_out = h.none_out; not_pinned = h.not_pinned };
      told = refl;
      limit = refl;
      device_limit = refl;
      pages = λ q _ p. record { taken = refl; of_heap = refl; bytes = refl; next = refl };
      taken = λ q _. refl;
      of_heap = λ q _. refl;
      heaps = λ h _. refl;
      current = refl;
      most = refl;
      caps = λ r. refl;
      peaks = λ r _. refl;
      counts = l;
    }) l

-- a cause in the second of two calls, of which the first found no fault, is one in both
pub HasCause_behind : (a b c : Space) (f : Option PageFault) → b.told ≡ a.told → HasCause a b None → HasCause b c f → HasCause a c f
HasCause_behind a b c f t p h = record {
  later = Later_then a.counts b.counts c.counts p.later h.later;
  counts = h.counts ∙ ap (λ n. counts_after n f) p.counts;
  damage = may_be_found f h.damage;
}
  where
    may_be_one : (f : PageFault) → MayBeFound b f → MayBeFound a f
    may_be_one fault.MainFault h = tt
    may_be_one fault.TempFault h = tt
    may_be_one fault.MainFull h = tt
    may_be_one fault.TempFull h = tt
    may_be_one (fault.Damaged page check) h = sym t ∙ h

    may_be_found : (f : Option PageFault) → IfSome f (MayBeFound b) → IfSome f (MayBeFound a)
    may_be_found None h = tt
    may_be_found (Some f) h = may_be_one f h

-- nothing happened, and nothing failed
pub HasCause_none : (a b : Space) → b.counts ≡ a.counts → HasCause a b None
HasCause_none a b e = record {
  later = let P : Counts → Type 0 = λ n. Later a.counts n in subst P (sym e) (Later_same a.counts);
  counts = e;
  damage = tt;
}

-- the counts of a device that failed rose
pub main_failed : (a b : Space) → HasCause a b (Some fault.MainFault) → MainFailed a.counts b.counts
main_failed a b h =
    let P : Counts → Type 0 = λ n. MainFailed a.counts n in subst P (sym h.counts) (omega arith, omega arith)

pub temp_failed : (a b : Space) → HasCause a b (Some fault.TempFault) → TempFailed a.counts b.counts
temp_failed a b h =
    let P : Counts → Type 0 = λ n. TempFailed a.counts n in subst P (sym h.counts) (omega arith, omega arith)

-- a call that found no file full leaves the counts of full files
abbrev pub FindsNoneFull : PageFault → Type 0
FindsNoneFull fault.MainFault = ⊤
FindsNoneFull fault.TempFault = ⊤
FindsNoneFull fault.MainFull = ⊥
FindsNoneFull fault.TempFull = ⊥
FindsNoneFull (fault.Damaged page check) = ⊤

pub none_full : (a b : Space) (f : Option PageFault) → IfSome f FindsNoneFull → HasCause a b f → NoneFull a.counts b.counts
none_full a b f n h =
    let P : Counts → Type 0 = λ c. NoneFull a.counts c in subst P (sym h.counts) (same f n)
  where
    one : (f : PageFault) → FindsNoneFull f → NoneFull a.counts (counts_after a.counts (Some f))
    one fault.MainFault n = record { main_full = refl; temp_full = refl }
    one fault.TempFault n = record { main_full = refl; temp_full = refl }
    one fault.MainFull n = absurd n
    one fault.TempFull n = absurd n
    one (fault.Damaged page check) n = record { main_full = refl; temp_full = refl }

    same : (f : Option PageFault) → IfSome f FindsNoneFull → NoneFull a.counts (counts_after a.counts f)
    same None n = record { main_full = refl; temp_full = refl }
    same (Some f) n = one f n

-- Two spaces that agree in each part are one. Whoever implements `Pages` over structures of its own
-- proves its equations by this.
pub spaces_agree : (a b : Space) → a.told ≡ b.told → a.limit ≡ b.limit → a.device_limit ≡ b.device_limit → ((q : ℕ) → a.taken q ≡ b.taken q)
    → ((q : ℕ) → a.bytes q ≡ b.bytes q) → ((q : ℕ) → a.pinned q ≡ b.pinned q) → a.pins ≡ b.pins
    → ((q : ℕ) → a.next q ≡ b.next q) → ((q : ℕ) → a.of_heap q ≡ b.of_heap q) → a.heaps ≡ b.heaps → a.counts ≡ b.counts → a ≡ b
spaces_agree a b told limit device_limit taken bytes pinned pins next of_heap heaps counts = λ i. record {
  told = told i;
  limit = limit i;
  device_limit = device_limit i;
  taken = λ q. taken q i;
  bytes = λ q. bytes q i;
  pinned = λ q. pinned q i;
  pins = pins i;
  next = λ q. next q i;
  of_heap = λ q. of_heap q i;
  heaps = heaps i;
  counts = counts i;
}
