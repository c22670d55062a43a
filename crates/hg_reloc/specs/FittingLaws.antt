-- Each page of a heap that stands is taken by the checks of its bytes.
use Rattle.std.specs.Prelude.{◌≡◌, ◌≢◌, ℕ, ◌+◌, ◌-◌, ◌*◌, ◌/◌, ◌%◌, ◌<◌, ◌≤◌, ◌^◌, ◌==◌, ◌||◌, ◌⊎◌, zero, suc, Bool, true, false, List, [], ◌∷◌, ◌++◌, length, map, slice_index_or, Option, None, Some, ⊤}
use Rattle.std.specs.List.{AllByRecursion, flat_map, sum_by}
use Rattle.std.proofs.Common.{inl, inr, sym, ◌∙◌, ap, subst, refl, arith, length-append, append_assoc}
use Rattle.std.proofs.lemmas.Bool.{eq-eqb, cases_lt}
use Rattle.std.proofs.lemmas.List.Sums.{sum_by-cons, sum_by-append}
use Rattle.hg_base.specs.Content.{Object, row_object, directory, Objects, object_size, page_end, offsets_from, addresses_in, address_of}
use Rattle.hg_base.specs.HeapFacts.{LeadsBelow, IsObject, AreObjects, AreWellPlaced}
use Rattle.hg_base.specs.HeapPage.{AreHeapPages, Stands}
use Rattle.hg_base.specs.Lines.{AreApart, has_page}
use Rattle.hg_reloc.specs.Checks.{Fits}
use Rattle.hg_reloc.specs.Standing.{LinkFits, LinksFit, AllLinksFit, FitsPage}
use Rattle.hg_reloc.specs.StandingLaws.{length-addresses, length-mapped, length-offsets, same_many}

-- What is known of the n-th of some addresses from a page on that stands in the frame `own`, with objects at
-- `places`, `base` objects before it: its frame is below max, its offset is one where an object can begin,
-- and in this frame it is that of one of the page's objects, in their order.
pub record IsKnown (own max : ℕ) (os : List Object) (base n w : ℕ) : Type 0 where
  pub frame : ℕ
  pub x : ℕ
  pub is : w ≡ frame * 4096 + x
  pub below : frame < max
  pub low : 64 ≤ x
  pub high : x < 4096
  pub grid : x % 16 ≡ 0
  pub here : frame ≡ own → (has_page (offsets_from 64 os) x ≡ true) × ((k : ℕ) → n < base + k → k < length os → x < slice_index_or (offsets_from 64 os) k 0)

-- an address on a page
pub record IsNth (at : ℕ) (os : List Object) (n x : ℕ) : Type 0 where
  pub low : at ≤ x
  pub high : x < at + sum_by object_size os
  pub grid : at % 16 ≡ 0 → x % 16 ≡ 0
  pub among : has_page (offsets_from at os) x ≡ true
  pub order : (k : ℕ) → n < k → k < length os → x < slice_index_or (offsets_from at os) k 0

nth_low : (at : ℕ) (os : List Object) (k : ℕ) → k < length os → at ≤ slice_index_or (offsets_from at os) k 0
nth_low at [] k h = absurd (omega arith)
nth_low at (o ∷ os) zero h = omega arith
nth_low at (o ∷ os) (suc k) h = let r = nth_low (at + object_size o) os k (omega arith) in omega arith

or-true : (b : Bool) → (b || true) ≡ true
or-true true = refl
or-true false = refl

first_order : (at : ℕ) (o : Object) (os : List Object) (k : ℕ) → 0 < k → k < length (o ∷ os) → at < slice_index_or (offsets_from at (o ∷ os)) k 0
first_order at o os zero h l = absurd (omega arith)
first_order at o os (suc k) h l = let r = nth_low (at + object_size o) os k (omega arith) in omega arith

next_order : (at : ℕ) (o : Object) (os : List Object) (n : ℕ) → IsNth (at + object_size o) os n (slice_index_or (offsets_from (at + object_size o) os) n 0) → (k : ℕ) → suc n < k → k < length (o ∷ os)
    → slice_index_or (offsets_from (at + object_size o) os) n 0 < slice_index_or (offsets_from at (o ∷ os)) k 0
next_order at o os n r zero h l = absurd (omega arith)
next_order at o os n r (suc k) h l = r.order k (omega arith) (omega arith)

is_nth : (at : ℕ) (os : List Object) (n : ℕ) → n < length os → IsNth at os n (slice_index_or (offsets_from at os) n 0)
is_nth at [] n h = absurd (omega arith)
is_nth at (o ∷ os) zero h = record {
  low = omega arith;
  high = omega (arith, sum_by-cons object_size o os);
  grid = λ g. g;
  among = ap (λ b. b || has_page (offsets_from (at + object_size o) os) at) (eq-eqb at at refl);
  order = first_order at o os;
}
is_nth at (o ∷ os) (suc n) h =
    let r : IsNth (at + object_size o) os n (slice_index_or (offsets_from (at + object_size o) os) n 0) = is_nth (at + object_size o) os n (omega arith) in
    record {
      low = omega (arith, r.low);
      high = omega (arith, r.high, sum_by-cons object_size o os);
      grid = λ g. r.grid (omega arith);
      among = ap (λ b. (at == slice_index_or (offsets_from (at + object_size o) os) n 0) || b) r.among ∙ or-true (at == slice_index_or (offsets_from (at + object_size o) os) n 0);
      order = next_order at o os n r;
    }

nth_mapped : (f : ℕ) (xs ys : List ℕ) (n : ℕ) → n < length xs → slice_index_or (map (λ at. f * 4096 + at) xs ++ ys) n 0 ≡ f * 4096 + slice_index_or xs n 0
nth_mapped f [] ys n h = absurd (omega arith)
nth_mapped f (x ∷ xs) ys zero h = refl
nth_mapped f (x ∷ xs) ys (suc n) h = nth_mapped f xs ys n (omega arith)

nth_behind : (f : ℕ) (xs ys : List ℕ) (n : ℕ) → slice_index_or (map (λ at. f * 4096 + at) xs ++ ys) (length xs + n) 0 ≡ slice_index_or ys n 0
nth_behind f [] ys n = ap (λ q. slice_index_or ys q 0) (omega arith)
nth_behind f (x ∷ xs) ys n = ap (λ q. slice_index_or ((f * 4096 + x) ∷ (map (λ at. f * 4096 + at) xs ++ ys)) q 0) (let e : length (x ∷ xs) + n ≡ suc (length xs + n) = omega arith in e) ∙ nth_behind f xs ys n

abbrev AreFit : List (List Object) → Type 0
AreFit layout = AllByRecursion (λ page. page_end page ≤ 4096) layout

-- pages in other frames
elsewhere : (own max : ℕ) (os : List Object) (base : ℕ) (layout : List (List Object)) (fs : List ℕ) → AreFit layout → AllByRecursion (λ f. f < max) fs → AllByRecursion (λ f. f ≢ own) fs
    → length fs ≡ length layout → (n m : ℕ) → n < length (addresses_in layout fs) → IsKnown own max os base m (slice_index_or (addresses_in layout fs) n 0)
elsewhere own max os base [] fs fit small other e n m h = absurd (omega arith)
elsewhere own max os base (p ∷ layout) [] fit small other e n m h = absurd (omega arith)
elsewhere own max os base (p ∷ layout) (f ∷ fs) fit small other e n m h =
    let xs : List ℕ = offsets_from 64 p in
    let ys : List ℕ = addresses_in layout fs in
    let many : length xs ≡ length p = length-offsets 64 p in
    let all : length (map (λ at. f * 4096 + at) xs ++ ys) ≡ length xs + length ys = length-append (map (λ at. f * 4096 + at) xs) ys ∙ omega (arith, length-mapped f xs) in
    elim (cases_lt n (length p)) [
      | inl l ↦
          let q : IsNth 64 p n (slice_index_or xs n 0) = is_nth 64 p n l in
          record {
            frame = f;
            x = slice_index_or xs n 0;
            is = nth_mapped f xs ys n (omega arith);
            below = small.0;
            low = q.low;
            high = let r = fit.0 in omega (arith, q.high);
            grid = q.grid refl;
            here = λ z. absurd (other.0 z);
          }
      | inr l ↦
          let w : slice_index_or (map (λ at. f * 4096 + at) xs ++ ys) n 0 ≡ slice_index_or ys (n - length p) 0 =
          ap (λ k. slice_index_or (map (λ at. f * 4096 + at) xs ++ ys) k 0) (let k : n ≡ length xs + (n - length p) = omega arith in k) ∙ nth_behind f xs ys (n - length p) in
          subst (IsKnown own max os base m) (sym w) (elsewhere own max os base layout fs fit.1 small.1 other.1 (omega arith) (n - length p) m (omega arith))
    ]

-- the page itself among others
known_later : (own max : ℕ) (os : List Object) (a b n m w : ℕ) → n ≡ a + m → IsKnown own max os b m w → IsKnown own max os (a + b) n w
known_later own max os a b n m w e k = record {
  frame = k.frame;
  x = k.x;
  is = k.is;
  below = k.below;
  low = k.low;
  high = k.high;
  grid = k.grid;
  here = λ z. let h = k.here z in (h.0, λ i l s. h.1 i (omega arith) s);
}

other_frame : (g own : ℕ) (fb fa : List ℕ) → AllByRecursion (λ y. y ≢ g) (fb ++ own ∷ fa) → own ≢ g
other_frame g own [] fa h = h.0
other_frame g own (f ∷ fb) fa h = other_frame g own fb fa h.1

among : (own max : ℕ) (os : List Object) (before after : List (List Object)) (fb fa : List ℕ) → AreFit (before ++ os ∷ after) → AllByRecursion (λ f. f < max) (fb ++ own ∷ fa)
    → AreApart (fb ++ own ∷ fa) → length fb ≡ length before → length fa ≡ length after → (n : ℕ) → n < length (addresses_in (before ++ os ∷ after) (fb ++ own ∷ fa))
    → IsKnown own max os (length (flat_map (λ page. page) before)) n (slice_index_or (addresses_in (before ++ os ∷ after) (fb ++ own ∷ fa)) n 0)
among own max os [] after [] fa fit small apart e k n h =
    let xs : List ℕ = offsets_from 64 os in
    let ys : List ℕ = addresses_in after fa in
    let many : length xs ≡ length os = length-offsets 64 os in
    let all : length (map (λ at. own * 4096 + at) xs ++ ys) ≡ length xs + length ys = length-append (map (λ at. own * 4096 + at) xs) ys ∙ omega (arith, length-mapped own xs) in
    elim (cases_lt n (length os)) [
      | inl l ↦
          let q : IsNth 64 os n (slice_index_or xs n 0) = is_nth 64 os n l in
          record {
            frame = own;
            x = slice_index_or xs n 0;
            is = nth_mapped own xs ys n (omega arith);
            below = small.0;
            low = q.low;
            high = let r = fit.0 in omega (arith, q.high);
            grid = q.grid refl;
            here = λ z. (q.among, λ i o s. q.order i (omega arith) s);
          }
      | inr l ↦
          let w : slice_index_or (map (λ at. own * 4096 + at) xs ++ ys) n 0 ≡ slice_index_or ys (n - length os) 0 =
          ap (λ i. slice_index_or (map (λ at. own * 4096 + at) xs ++ ys) i 0) (let i : n ≡ length xs + (n - length os) = omega arith in i) ∙ nth_behind own xs ys (n - length os) in
          subst (IsKnown own max os 0 n) (sym w) (elsewhere own max os 0 after fa fit.1 small.1 apart.0 k (n - length os) n (omega arith))
    ]
among own max os [] after (f ∷ fb) fa fit small apart e k n h = absurd (omega arith)
among own max os (p ∷ before) after [] fa fit small apart e k n h = absurd (omega arith)
among own max os (p ∷ before) after (f ∷ fb) fa fit small apart e k n h =
    let xs : List ℕ = offsets_from 64 p in
    let ys : List ℕ = addresses_in (before ++ os ∷ after) (fb ++ own ∷ fa) in
    let many : length xs ≡ length p = length-offsets 64 p in
    let all : length (map (λ at. f * 4096 + at) xs ++ ys) ≡ length xs + length ys = length-append (map (λ at. f * 4096 + at) xs) ys ∙ omega (arith, length-mapped f xs) in
    let base : length (p ++ flat_map (λ page. page) before) ≡ length p + length (flat_map (λ page. page) before) = length-append p (flat_map (λ page. page) before) in
    elim (cases_lt n (length p)) [
      | inl l ↦
          let q : IsNth 64 p n (slice_index_or xs n 0) = is_nth 64 p n l in
          record {
            frame = f;
            x = slice_index_or xs n 0;
            is = nth_mapped f xs ys n (omega arith);
            below = small.0;
            low = q.low;
            high = let r = fit.0 in omega (arith, q.high);
            grid = q.grid refl;
            here = λ z. absurd (other_frame f own fb fa apart.0 (sym z));
          }
      | inr l ↦
          let w : slice_index_or (map (λ at. f * 4096 + at) xs ++ ys) n 0 ≡ slice_index_or ys (n - length p) 0 =
          ap (λ i. slice_index_or (map (λ at. f * 4096 + at) xs ++ ys) i 0) (let i : n ≡ length xs + (n - length p) = omega arith in i) ∙ nth_behind f xs ys (n - length p) in
          subst (λ i. IsKnown own max os i n (slice_index_or (map (λ at. f * 4096 + at) xs ++ ys) n 0)) (sym base)
          (known_later own max os (length p) (length (flat_map (λ page. page) before)) n (n - length p) (slice_index_or (map (λ at. f * 4096 + at) xs ++ ys) n 0) (omega arith)
          (subst (IsKnown own max os (length (flat_map (λ page. page) before)) (n - length p)) (sym w)
          (among own max os before after fb fa fit.1 small.1 apart.1 (omega arith) k (n - length p) (omega arith))))
    ]

-- An address that is known fits.
known_fits : (own max : ℕ) (os : List Object) (base n w limit : ℕ) → IsKnown own max os base n w → (limit ≡ 4096) ⊎ ((k : ℕ) × (limit ≡ slice_index_or (offsets_from 64 os) k 0) × (n < base + k) × (k < length os))
    → max ≤ 65536 → (w < 2 ^ 64) × Fits own max (offsets_from 64 os) limit w
known_fits own max os base n w limit k l m =
    let d : w / 4096 ≡ k.frame = (let e = k.is in let b = k.high in omega arith) in
    let r : w % 4096 ≡ k.x = (let e = k.is in let b = k.high in omega arith) in (
      let e = k.is in let b = k.high in let f = k.below in omega arith,
      record {
        below = omega (arith, k.below);
        behind = omega (arith, k.low);
        grid = ap (λ q. q % 16) r ∙ k.grid;
        here = λ z.
            let h = k.here (sym d ∙ z) in (
              ap (has_page (offsets_from 64 os)) r ∙ h.0,
              elim l [
                | inl e ↦ omega (arith, k.high)
                | inr o ↦ let s = h.1 o.0 o.2 o.3 in let t = o.1 in omega arith
              ],
            );
      },
    )

-- the links of a page's objects, and of its roots
pub record AllKnown (own max : ℕ) (os : List Object) (base count : ℕ) (a : ℕ → ℕ) : Type 0 where
  pub few : max ≤ 65536
  pub each : (n : ℕ) → n < count → IsKnown own max os base n (a n)

link_any : (own max : ℕ) (os : List Object) (base count : ℕ) (a : ℕ → ℕ) (l : Option ℕ) → AllKnown own max os base count a → LeadsBelow count l → LinkFits own max (offsets_from 64 os) 4096 a l
link_any own max os base count a None k h = tt
link_any own max os base count a (Some n) k h = known_fits own max os base n (a n) 4096 (k.each n h) (inl refl) k.few

links_any : (own max : ℕ) (os : List Object) (base count : ℕ) (a : ℕ → ℕ) (ls : List (Option ℕ)) → AllKnown own max os base count a → AllByRecursion (LeadsBelow count) ls
    → AllByRecursion (LinkFits own max (offsets_from 64 os) 4096 a) ls
links_any own max os base count a [] k h = tt
links_any own max os base count a (l ∷ ls) k h = (link_any own max os base count a l k h.0, links_any own max os base count a ls k h.1)

link_earlier : (own max : ℕ) (os : List Object) (base count i at : ℕ) (a : ℕ → ℕ) (l : Option ℕ) → AllKnown own max os base count a → i < length os → at ≡ slice_index_or (offsets_from 64 os) i 0
    → base + i ≤ count → LeadsBelow (base + i) l → LinkFits own max (offsets_from 64 os) at a l
link_earlier own max os base count i at a None k s e c h = tt
link_earlier own max os base count i at a (Some n) k s e c h = known_fits own max os base n (a n) at (k.each n (omega (arith, h))) (inr (i, e, h, s)) k.few

object_fits : (own max : ℕ) (os : List Object) (base count i at : ℕ) (a : ℕ → ℕ) (o : Object) → AllKnown own max os base count a → i < length os → at ≡ slice_index_or (offsets_from 64 os) i 0
    → base + i ≤ count → IsObject (base + i) count o → LinksFit own max (offsets_from 64 os) at a o
object_fits own max os base count i at a (row_object payload link) k s e c h = (h.0, h.1, link_earlier own max os base count i at a link k s e c h.2)
object_fits own max os base count i at a (directory links) k s e c h = links_any own max os base count a links k h

-- Where an object of a page begins.
nth_begins : (at : ℕ) (front behind : List Object) (o : Object) → at + sum_by object_size front ≡ slice_index_or (offsets_from at (front ++ o ∷ behind)) (length front) 0
nth_begins at [] behind o = omega arith
nth_begins at (x ∷ front) behind o = (let s = sum_by-cons object_size x front in let e : at + sum_by object_size (x ∷ front) ≡ at + object_size x + sum_by object_size front = omega arith in e) ∙ nth_begins (at + object_size x) front behind o

objects_fit : (own max : ℕ) (os : List Object) (base count : ℕ) (a : ℕ → ℕ) (front left : List Object) → os ≡ front ++ left → AllKnown own max os base count a → base + length os ≤ count
    → AreObjects (base + length front) count left → AllLinksFit own max (offsets_from 64 os) a (64 + sum_by object_size front) left
objects_fit own max os base count a front [] e k c h = tt
objects_fit own max os base count a front (o ∷ left) e k c h =
    let many : length os ≡ length front + length (o ∷ left) = ap length e ∙ length-append front (o ∷ left) in
    let at : 64 + sum_by object_size front ≡ slice_index_or (offsets_from 64 os) (length front) 0 =
    nth_begins 64 front left o ∙ ap (λ q. slice_index_or (offsets_from 64 q) (length front) 0) (sym e) in
    let next : os ≡ (front ++ o ∷ []) ++ left = e ∙ sym (append_assoc front (o ∷ []) left) in
    let place : base + length front + 1 ≡ base + length (front ++ o ∷ []) = omega (arith, length-append front (o ∷ [])) in
    let sums : 64 + sum_by object_size (front ++ o ∷ []) ≡ 64 + sum_by object_size front + object_size o = omega (arith, sum_by-append object_size front (o ∷ []), sum_by-cons object_size o []) in (
      object_fits own max os base count (length front) (64 + sum_by object_size front) a o k (omega arith) at (omega arith) h.0,
      subst (λ q. AllLinksFit own max (offsets_from 64 os) a q left) sums
          (objects_fit own max os base count a (front ++ o ∷ []) left next k c (subst (λ q. AreObjects q count left) place h.1)),
    )

split_objects : (n count : ℕ) (xs ys : List Object) → AreObjects n count (xs ++ ys) → AreObjects n count xs × AreObjects (n + length xs) count ys
split_objects n count [] ys h = (tt, subst (λ q. AreObjects q count ys) (let e : n ≡ n + 0 = omega arith in e) h)
split_objects n count (x ∷ xs) ys h =
    let r = split_objects (n + 1) count xs ys h.1 in
    ((h.0, r.0), subst (λ q. AreObjects q count ys) (let e : n + 1 + length xs ≡ n + length (x ∷ xs) = omega arith in e) r.1)

own_small : (own max : ℕ) (fb fa : List ℕ) → AllByRecursion (λ f. f < max) (fb ++ own ∷ fa) → own < max
own_small own max [] fa h = h.0
own_small own max (f ∷ fb) fa h = own_small own max fb fa h.1

-- All pages of a heap fit.
abbrev pub ArePagesFit : ℕ → (ℕ → ℕ) → List (Option ℕ) → List (List Object) → List ℕ → List (List ℕ) → Type 0
ArePagesFit max a roots [] [] [] = ⊤
ArePagesFit max a roots (os ∷ layout) (f ∷ fs) (page ∷ pages) = FitsPage max a roots os f page × ArePagesFit max a [] layout fs pages
ArePagesFit max a roots layout fs pages = ⊥

-- what is known of a whole heap while its pages are looked at one by one
pub record Whole (max : ℕ) (layout : List (List Object)) (fs : List ℕ) : Type 0 where
  pub few : max ≤ 65536
  pub small : AllByRecursion (λ f. f < max) fs
  pub apart : AreApart fs
  pub fit : AreFit layout
  pub many : length fs ≡ length layout

flat_one : (before : List (List Object)) (os : List Object) → length (flat_map (λ page. page) (before ++ os ∷ [])) ≡ length (flat_map (λ page. page) before) + length os
flat_one [] os = length-append os [] ∙ omega arith
flat_one (p ∷ before) os =
    length-append p (flat_map (λ page. page) (before ++ os ∷ [])) ∙ omega (arith, flat_one before os, length-append p (flat_map (λ page. page) before))

flat_all : (before after : List (List Object)) (os : List Object) → length (flat_map (λ page. page) (before ++ os ∷ after)) ≡ length (flat_map (λ page. page) before) + length os + length (flat_map (λ page. page) after)
flat_all [] after os = length-append os (flat_map (λ page. page) after) ∙ omega arith
flat_all (p ∷ before) after os =
    length-append p (flat_map (λ page. page) (before ++ os ∷ after)) ∙ omega (arith, flat_all before after os, length-append p (flat_map (λ page. page) before))

all_known : (max : ℕ) (layout : List (List Object)) (fs : List ℕ) (w : Whole max layout fs) (before after : List (List Object)) (os : List Object) (fb fa : List ℕ) (own : ℕ)
    → layout ≡ before ++ os ∷ after → fs ≡ fb ++ own ∷ fa → length fb ≡ length before
    → AllKnown own max os (length (flat_map (λ page. page) before)) (length (flat_map (λ page. page) layout)) (λ n. slice_index_or (addresses_in layout fs) n 0)
all_known max layout fs w before after os fb fa own e f l = record {
  few = w.few;
  each = λ n h.
      let nf : length fs ≡ length fb + length (own ∷ fa) = ap length f ∙ length-append fb (own ∷ fa) in
      let nl : length layout ≡ length before + length (os ∷ after) = ap length e ∙ length-append before (os ∷ after) in
      let same : addresses_in layout fs ≡ addresses_in (before ++ os ∷ after) (fb ++ own ∷ fa) = ap (λ q. addresses_in q fs) e ∙ ap (λ q. addresses_in (before ++ os ∷ after) q) f in
      let all : length (addresses_in layout fs) ≡ length (flat_map (λ page. page) layout) = length-addresses layout fs w.many in
      let k : length fa ≡ length after = (let m = w.many in omega arith) in
      subst (λ (q : List ℕ). IsKnown own max os (length (flat_map (λ page. page) before)) n (slice_index_or q n 0)) (sym same)
      (among own max os before after fb fa (subst AreFit e w.fit) (subst (AllByRecursion (λ q. q < max)) f w.small) (subst AreApart f w.apart) l k n (omega (arith, ap length same)));
}

pages_fit : (max : ℕ) (layout : List (List Object)) (fs : List ℕ) (w : Whole max layout fs) (before left : List (List Object)) (fb fl : List ℕ) (roots : List (Option ℕ)) (pages : List (List ℕ))
    → layout ≡ before ++ left → fs ≡ fb ++ fl → length fb ≡ length before → (length roots ≡ 4) ⊎ (roots ≡ [])
    → AllByRecursion (LeadsBelow (length (flat_map (λ page. page) layout))) roots
    → AreObjects (length (flat_map (λ page. page) before)) (length (flat_map (λ page. page) layout)) (flat_map (λ page. page) left)
    → AreHeapPages (λ n. slice_index_or (addresses_in layout fs) n 0) roots left fl pages
    → ArePagesFit max (λ n. slice_index_or (addresses_in layout fs) n 0) roots left fl pages
pages_fit max layout fs w before [] fb [] roots [] e f l four r o h = tt
pages_fit max layout fs w before [] fb [] roots (page ∷ pages) e f l four r o h = absurd h
pages_fit max layout fs w before [] fb (own ∷ fl) roots pages e f l four r o h = absurd h
pages_fit max layout fs w before (os ∷ left) fb [] roots pages e f l four r o h = absurd h
pages_fit max layout fs w before (os ∷ left) fb (own ∷ fl) roots [] e f l four r o h = absurd h
pages_fit max layout fs w before (os ∷ left) fb (own ∷ fl) roots (page ∷ pages) e f l four r o h =
    let a : ℕ → ℕ = λ n. slice_index_or (addresses_in layout fs) n 0 in
    let base : ℕ = length (flat_map (λ p. p) before) in
    let count : ℕ = length (flat_map (λ p. p) layout) in
    let k : AllKnown own max os base count a = all_known max layout fs w before left os fb fl own e f l in
    let s = split_objects base count os (flat_map (λ p. p) left) o in
    let total : count ≡ base + length os + length (flat_map (λ p. p) left) = ap (λ q. length (flat_map (λ p. p) q)) e ∙ flat_all before left os in
    let small : own < max = own_small own max fb fl (subst (AllByRecursion (λ q. q < max)) f w.small) in
    let zero_is : base + 0 ≡ base = omega arith in (
      record {
        is = h.0;
        small = let m = w.few in omega arith;
        below = small;
        four = four;
        roots_fit = links_any own max os base count a roots k r;
        objects_fit = objects_fit own max os base count a [] os refl k (omega arith) (subst (λ q. AreObjects q count os) (sym zero_is) s.0);
      },
      pages_fit max layout fs w (before ++ os ∷ []) left (fb ++ own ∷ []) fl [] pages (e ∙ sym (append_assoc before (os ∷ []) left)) (f ∙ sym (append_assoc fb (own ∷ []) fl))
          (omega (arith, length-append fb (own ∷ []), length-append before (os ∷ []))) (inr refl) tt
          (subst (λ q. AreObjects q count (flat_map (λ p. p) left)) (sym (flat_one before os)) s.1) h.1,
    )

-- A heap that stands in frames below max: each of its pages fits, so `verify` takes it.
pub stands_fits : (max : ℕ) (o : Objects) (fs : List ℕ) (pages : List (List ℕ)) → max ≤ 65536 → AllByRecursion (λ f. f < max) fs → AreWellPlaced o → Stands o fs pages
    → ArePagesFit max (address_of o fs) o.roots o.layout fs pages
stands_fits max o fs pages few small w s =
    pages_fit max o.layout fs (record { few = few; small = small; apart = s.apart; fit = w.pages; many = same_many (address_of o fs) o.roots o.layout fs pages s.bytes })
    [] o.layout [] fs o.roots pages refl refl refl (inl w.four) w.roots w.objects s.bytes
