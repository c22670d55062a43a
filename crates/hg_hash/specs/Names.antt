-- Laws of addresses: in a heap whose objects are well placed, in frames that are apart, no address is that
-- of two objects, so that the address of an object names it.
use Rattle.std.specs.Prelude.{◌≡◌, ◌≢◌, ℕ, ◌+◌, ◌-◌, ◌*◌, ◌<◌, ◌≤◌, ◌==◌, zero, suc, false, List, [], ◌∷◌, ◌++◌, length, map, sum_by, slice_index_or, Option, None, Some, option_map, if◌then◌else◌}
use Rattle.std.specs.List.{AllByRecursion}
use Rattle.std.proofs.Common.{sym, ◌∙◌, ap, refl, arith, length-append}
use Rattle.std.proofs.lemmas.Bool.{eq-eqb, cases_lt}
use Rattle.std.proofs.lemmas.Bool.Decides.{nat_tests}
use Rattle.std.proofs.lemmas.List.{get_or_append_left, get_or-append-add}
use Rattle.std.proofs.lemmas.List.Sums.{sum_by-cons}
use Rattle.std.proofs.Common.{inl, inr}
use Rattle.hg_base.specs.Content.{Object, Objects, placed, object_size, page_end, offsets_from, addresses_in, address_of}
use Rattle.hg_base.specs.HeapContent.{place_in, link_of}
use Rattle.hg_base.specs.HeapFacts.{LeadsBelow}
use Rattle.hg_base.specs.HeapPage.{link_word}
use Rattle.hg_base.specs.HeapLaws.{on_page, place_in-front}
use Rattle.hg_base.specs.Lines.{AreApart}

-- an address that is none of the first ones is looked for among the others
pub place_in-skip : (xs ys : List ℕ) (a n : ℕ) → AllByRecursion (λ x. x ≢ a) xs → place_in ys a ≡ Some n → place_in (xs ++ ys) a ≡ Some (length xs + n)
place_in-skip [] ys a n h e = e ∙ ap Some (omega arith)
place_in-skip (x ∷ xs) ys a n h e =
    let other : x ≢ a = h.0 in
    let t : (x == a) ≡ false = grind (arith, nat_tests) in
    ap (λ b. if b then Some 0 else option_map (λ k. k + 1) (place_in (xs ++ ys) a)) t
    ∙ ap (option_map (λ k. k + 1)) (place_in-skip xs ys a n h.1 e)
    ∙ ap Some (omega arith)

-- the addresses of a page: from an offset on, below the first free byte
length-page : (base at : ℕ) (page : List Object) → length (map (λ x. base + x) (offsets_from at page)) ≡ length page
length-page base at [] = refl
length-page base at (o ∷ page) = ap (λ n. suc n) (length-page base (at + object_size o) page)

nth-between : (base at : ℕ) (page : List Object) (n : ℕ) → n < length page
    → (base + at ≤ slice_index_or (map (λ x. base + x) (offsets_from at page)) n 0) × (slice_index_or (map (λ x. base + x) (offsets_from at page)) n 0 < base + (at + sum_by object_size page))
nth-between base at [] n h = absurd (omega arith)
nth-between base at (o ∷ page) zero h = (omega arith, omega (arith, sum_by-cons object_size o page))
nth-between base at (o ∷ page) (suc n) h =
    let r = nth-between base (at + object_size o) page n (omega arith) in
    let low = r.0 in
    let high = r.1 in (omega arith, omega (arith, sum_by-cons object_size o page))

-- each of them names its object
place_in-page : (base at : ℕ) (page : List Object) (n : ℕ) → n < length page
    → place_in (map (λ x. base + x) (offsets_from at page)) (slice_index_or (map (λ x. base + x) (offsets_from at page)) n 0) ≡ Some n
place_in-page base at [] n h = absurd (omega arith)
place_in-page base at (o ∷ page) zero h = ap (λ b. if b then Some 0 else option_map (λ k. k + 1) (place_in (map (λ x. base + x) (offsets_from (at + object_size o) page)) (base + at))) (eq-eqb (base + at) (base + at) refl)
place_in-page base at (o ∷ page) (suc n) h =
    let a : ℕ = slice_index_or (map (λ x. base + x) (offsets_from (at + object_size o) page)) n 0 in
    let r = nth-between base (at + object_size o) page n (omega arith) in
    let low : base + (at + object_size o) ≤ a = r.0 in
    let t : (base + at == a) ≡ false = grind (arith, nat_tests) in
    ap (λ b. if b then Some 0 else option_map (λ k. k + 1) (place_in (map (λ x. base + x) (offsets_from (at + object_size o) page)) a)) t
    ∙ ap (option_map (λ k. k + 1)) (place_in-page base (at + object_size o) page n (omega arith))
    ∙ ap Some (omega arith)

-- a page's addresses lie in its frame
apart-page : (frame at : ℕ) (page : List Object) (a : ℕ) → at + sum_by object_size page ≤ 4096 → ((x : ℕ) → x < 4096 → frame * 4096 + x ≢ a)
    → AllByRecursion (λ x. x ≢ a) (map (λ x. frame * 4096 + x) (offsets_from at page))
apart-page frame at [] a fits other = tt
apart-page frame at (o ∷ page) a fits other =
    let s = sum_by-cons object_size o page in
    (other at (omega arith), apart-page frame (at + object_size o) page a (omega arith) other)

-- an address of pages that stand in other frames: it is in one of them
pub record IsInOther (frame a : ℕ) : Type 0 where
  pub other : ℕ
  pub x : ℕ
  pub is : a ≡ other * 4096 + x
  pub below : x < 4096
  pub low : 64 ≤ x
  pub apart : other ≢ frame

abbrev pub PagesFit : List (List Object) → Type 0
PagesFit layout = AllByRecursion (λ page. page_end page ≤ 4096) layout

-- the number of the objects of some pages
abbrev pub many : List (List Object) → ℕ
many [] = 0
many (page ∷ pages) = length page + many pages

pub length-all : (layout : List (List Object)) (frames : List ℕ) → length layout ≡ length frames → length (addresses_in layout frames) ≡ many layout
length-all [] frames e = refl
length-all (page ∷ pages) [] e = absurd (omega arith)
length-all (page ∷ pages) (f ∷ frames) e =
    length-append (on_page f page) (addresses_in pages frames) ∙ (let p = length-page (f * 4096) 64 page in let r = length-all pages frames (omega arith) in omega arith)

-- the n-th address, of pages in frames none of which is `frame`
nth-other : (layout : List (List Object)) (frames : List ℕ) (frame n : ℕ) → length layout ≡ length frames → PagesFit layout → AllByRecursion (λ f. f ≢ frame) frames → n < many layout
    → IsInOther frame (slice_index_or (addresses_in layout frames) n 0)
nth-other [] frames frame n e fit apart h = absurd (omega arith)
nth-other (page ∷ pages) [] frame n e fit apart h = absurd (omega arith)
nth-other (page ∷ pages) (f ∷ frames) frame n e fit apart h =
    let here : List ℕ = on_page f page in
    let size : length here ≡ length page = length-page (f * 4096) 64 page in
    elim (cases_lt n (length page)) [
      | inl l ↦
          let r = nth-between (f * 4096) 64 page n l in
          let low = r.0 in
          let high = r.1 in
          let fits = fit.0 in
          let is : slice_index_or (here ++ addresses_in pages frames) n 0 ≡ slice_index_or here n 0 = get_or_append_left here (addresses_in pages frames) 0 n (omega arith) in
          record {
            other = f;
            x = slice_index_or here n 0 - f * 4096;
            is = is ∙ omega arith;
            below = omega arith;
            low = omega arith;
            apart = apart.0;
          }
      | inr l ↦
          let m : ℕ = n - length page in
          let k : n ≡ length here + m = omega arith in
          let is : slice_index_or (here ++ addresses_in pages frames) n 0 ≡ slice_index_or (addresses_in pages frames) m 0 =
          ap (λ q. slice_index_or (here ++ addresses_in pages frames) q 0) k ∙ get_or-append-add here (addresses_in pages frames) m 0 in
          let r : IsInOther frame (slice_index_or (addresses_in pages frames) m 0) = nth-other pages frames frame m (omega arith) fit.1 apart.1 (omega arith) in
          record { other = r.other; x = r.x; is = is ∙ r.is; below = r.below; low = r.low; apart = r.apart }
    ]

other_frames : (frame other x y : ℕ) → other ≢ frame → x < 4096 → y < 4096 → frame * 4096 + y ≢ other * 4096 + x
other_frames frame other x y apart hx hy e = absurd (omega arith)

not_there : (frame a : ℕ) → IsInOther frame a → (x : ℕ) → x < 4096 → frame * 4096 + x ≢ a
not_there frame a r x h e = other_frames frame r.other r.x x r.apart r.below h (e ∙ r.is)

-- the n-th address names the n-th object
pub place_in-nth : (layout : List (List Object)) (frames : List ℕ) (n : ℕ) → length layout ≡ length frames → PagesFit layout → AreApart frames → n < many layout
    → place_in (addresses_in layout frames) (slice_index_or (addresses_in layout frames) n 0) ≡ Some n
place_in-nth [] frames n e fit apart h = absurd (omega arith)
place_in-nth (page ∷ pages) [] n e fit apart h = absurd (omega arith)
place_in-nth (page ∷ pages) (f ∷ frames) n e fit apart h =
    let here : List ℕ = on_page f page in
    let rest : List ℕ = addresses_in pages frames in
    let size : length here ≡ length page = length-page (f * 4096) 64 page in
    elim (cases_lt n (length page)) [
      | inl l ↦
          let is : slice_index_or (here ++ rest) n 0 ≡ slice_index_or here n 0 = get_or_append_left here rest 0 n (omega arith) in
          ap (place_in (here ++ rest)) is ∙ place_in-front here rest (slice_index_or here n 0) n (place_in-page (f * 4096) 64 page n l)
      | inr l ↦
          let m : ℕ = n - length page in
          let k : n ≡ length here + m = omega arith in
          let is : slice_index_or (here ++ rest) n 0 ≡ slice_index_or rest m 0 = ap (λ q. slice_index_or (here ++ rest) q 0) k ∙ get_or-append-add here rest m 0 in
          let a : ℕ = slice_index_or rest m 0 in
          let r : IsInOther f a = nth-other pages frames f m (omega arith) fit.1 apart.0 (omega arith) in
          ap (place_in (here ++ rest)) is
          ∙ place_in-skip here rest a m (apart-page f 64 page a fit.0 (not_there f a r)) (place_in-nth pages frames m (omega arith) fit.1 apart.1 (omega arith))
          ∙ ap Some (sym k)
    ]

pub many-placed : (layout : List (List Object)) (roots : List (Option ℕ)) → length (placed (record { layout = layout; roots = roots })) ≡ many layout
many-placed [] roots = refl
many-placed (page ∷ pages) roots = length-append page (placed (record { layout = pages; roots = roots })) ∙ ap (λ n. length page + n) (many-placed pages roots)

-- no address is 0
pub nth-low : (layout : List (List Object)) (frames : List ℕ) (n : ℕ) → length layout ≡ length frames → n < many layout → 64 ≤ slice_index_or (addresses_in layout frames) n 0
nth-low [] frames n e h = absurd (omega arith)
nth-low (page ∷ pages) [] n e h = absurd (omega arith)
nth-low (page ∷ pages) (f ∷ frames) n e h =
    let here : List ℕ = on_page f page in
    let rest : List ℕ = addresses_in pages frames in
    let size : length here ≡ length page = length-page (f * 4096) 64 page in
    elim (cases_lt n (length page)) [
      | inl l ↦
          let r = nth-between (f * 4096) 64 page n l in
          let low = r.0 in
          let is : slice_index_or (here ++ rest) n 0 ≡ slice_index_or here n 0 = get_or_append_left here rest 0 n (omega arith) in omega arith
      | inr l ↦
          let m : ℕ = n - length page in
          let k : n ≡ length here + m = omega arith in
          let is : slice_index_or (here ++ rest) n 0 ≡ slice_index_or rest m 0 = ap (λ q. slice_index_or (here ++ rest) q 0) k ∙ get_or-append-add here rest m 0 in
          let r = nth-low pages frames m (omega arith) (omega arith) in omega arith
    ]

-- What makes addresses names: each page's objects fit on it, and pages stand in as many frames, apart.
pub record AreNames (o : Objects) (frames : List ℕ) : Type 0 where
  pub same : length o.layout ≡ length frames
  pub fit : PagesFit o.layout
  pub apart : AreApart frames

-- the address of an object names it
pub named_by-address : (o : Objects) (frames : List ℕ) (n : ℕ) → AreNames o frames → n < length (placed o)
    → place_in (addresses_in o.layout frames) (address_of o frames n) ≡ Some n
named_by-address o frames n h l = let c = many-placed o.layout o.roots in place_in-nth o.layout frames n h.same h.fit h.apart (omega arith)

-- a link, as a word, stands for that link
pub link_of-word : (o : Objects) (frames : List ℕ) (link : Option ℕ) → AreNames o frames → LeadsBelow (length (placed o)) link
    → link_of o frames (link_word (address_of o frames) link) ≡ link
link_of-word o frames None h l = refl
link_of-word o frames (Some n) h l =
    let c = many-placed o.layout o.roots in
    let low = nth-low o.layout frames n h.same (omega arith) in
    let t : (address_of o frames n == 0) ≡ false = grind (arith, nat_tests) in
    ap (λ b. if b then None else place_in (addresses_in o.layout frames) (address_of o frames n)) t ∙ named_by-address o frames n h l
