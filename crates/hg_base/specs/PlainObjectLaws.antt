-- Laws of the objects of a heap: what a walk over its pages finds.
use Rattle.std.specs.Prelude.{◌≡◌, ℕ, ◌+◌, ◌-◌, ◌*◌, ◌%◌, ◌<◌, ◌≤◌, nat_lt, zero, suc, true, false, List, [], ◌∷◌, ◌++◌, length, take, drop, map, sum_by, flat_map, slice_get, slice_set, slice_index_or, Option, None, Some, IsSome, option_map, option_and_then, if◌then◌else◌}
use Rattle.std.proofs.Common.{sym, ◌∙◌, ap, subst, refl, arith, add-zero, zero-add}
use Rattle.std.proofs.lemmas.Option.{none-some, slice_get_read, get_or_from_slice_get}
use Rattle.std.proofs.lemmas.Bool.Decides.{nat_tests}
use Rattle.std.proofs.lemmas.List.{length-map}
use Rattle.std.proofs.lemmas.List.Sums.{sum_by-cons}
use Rattle.hg_base.specs.Content.{Object, Objects, placed, page_end, room_on, offsets_from, addresses_in}
use Rattle.hg_base.specs.HeapContent.{place_in, named_by, changed_on, changed_in, changed_by, changed_at, room_left, next_address, with_last}
use Rattle.hg_base.specs.HeapStates.{HasWord}
use Rattle.hg_base.specs.HeapLaws.{on_page, place_in-front}
use Rattle.hg_base.specs.PlainPlaces.{map_compose, map_zero, place_in-past, length-on_page, length-offsets, drop-here, get_or-in, get_or-past, get_or-shifted}
use Rattle.hg_base.specs.PlainObjects.{frames_from, found_in, IsPlace, page_of, index_of, loaned, after_loan, Stands, addresses_from, objects_in, frames_in, object_under}
use Rattle.hg_base.specs.PlainEntries.{spilled}
use Rattle.std.specs.Vec.{with_item}
use Rattle.hg_base.specs.declared.plain_objects.HeapObjects.{HeapObjects}

-- the place of the object that a walk over the pages found
pub place-is : (layout : List (List Object)) (page index : ℕ) (p : List Object) → slice_get layout page ≡ Some p → index < length p
    → IsPlace layout page index (sum_by length (take page layout) + index)
place-is [] page index p h l = absurd (none-some p h)
place-is (x ∷ layout) zero index p h l =
    let e : ◌≡◌ {A = Option (List Object)} (Some x) (Some p) = h in
    let same : x ≡ p = cc in
    (sym (zero-add index), let n : length x ≡ length p = ap length same in omega arith)
place-is (x ∷ layout) (suc page) index p h l =
    let s : ℕ = sum_by length (take page layout) in
    let e : sum_by length (x ∷ take page layout) + index ≡ length x + (s + index) = omega (arith, sum_by-cons (λ (y : List Object). length y) x (take page layout)) in (
      omega arith,
      (let d : sum_by length (x ∷ take page layout) + index - length x ≡ s + index = omega arith in
          subst (λ n. IsPlace layout page index n) (sym d) (place-is layout page index p h l)),
    )

pub slice_get-past : {X : Type 0} (xs ys : List X) (n : ℕ) → length xs ≤ n → slice_get (xs ++ ys) n ≡ slice_get ys (n - length xs)
slice_get-past [] ys n h = ap (slice_get ys) (let e : n ≡ n - 0 = omega arith in e)
slice_get-past (x ∷ xs) ys zero h = absurd (omega arith)
slice_get-past (x ∷ xs) ys (suc n) h = slice_get-past xs ys n (omega arith) ∙ ap (slice_get ys) (let e : n - length xs ≡ suc n - suc (length xs) = omega arith in e)

pub slice_get-in : {X : Type 0} (xs ys : List X) (n : ℕ) → n < length xs → slice_get (xs ++ ys) n ≡ slice_get xs n
slice_get-in [] ys n h = absurd (omega arith)
slice_get-in (x ∷ xs) ys zero h = refl
slice_get-in (x ∷ xs) ys (suc n) h = slice_get-in xs ys n (omega arith)

-- the object at that place
pub placed-at : (layout : List (List Object)) (page index n : ℕ) (p : List Object) → IsPlace layout page index n → slice_get layout page ≡ Some p
    → slice_get (flat_map (λ x. x) layout) n ≡ slice_get p index
placed-at [] page index n p h e = absurd (none-some p e)
placed-at (x ∷ layout) zero index n p h e =
    let s : ◌≡◌ {A = Option (List Object)} (Some x) (Some p) = e in
    let same : x ≡ p = cc in
    slice_get-in x (flat_map (λ x. x) layout) n h.1 ∙ ap (λ l. slice_get l n) same ∙ ap (slice_get p) (sym h.0)
placed-at (x ∷ layout) (suc page) index n p h e =
    slice_get-past x (flat_map (λ x. x) layout) n h.0 ∙ placed-at layout page index (n - length x) p h.1 e

-- a change of that object
pub changed-at : (f : Object → Object) (layout : List (List Object)) (page index n : ℕ) (p : List Object) → IsPlace layout page index n → slice_get layout page ≡ Some p
    → changed_in f n layout ≡ slice_set layout page (changed_on f index p)
changed-at f [] page index n p h e = absurd (none-some p e)
changed-at f (x ∷ layout) zero index n p h e =
    let s : ◌≡◌ {A = Option (List Object)} (Some x) (Some p) = e in
    let same : x ≡ p = cc in
    let t : nat_lt n (length x) ≡ true = (let l : n < length x = h.1 in grind (arith, nat_tests)) in
    ap (λ b. if b then changed_on f n x ∷ layout else x ∷ changed_in f (n - length x) layout) t
    ∙ ap (λ k. changed_on f k x ∷ layout) (sym h.0) ∙ ap (λ l. changed_on f index l ∷ layout) same
changed-at f (x ∷ layout) (suc page) index n p h e =
    let t : nat_lt n (length x) ≡ false = (let l : length x ≤ n = h.0 in grind (arith, nat_tests)) in
    ap (λ b. if b then changed_on f n x ∷ layout else x ∷ changed_in f (n - length x) layout) t
    ∙ ap (λ l. x ∷ l) (changed-at f layout page index (n - length x) p h.1 e)

-- A walk over the pages that looks for an address.
pub found-start : (first a : ℕ) (layout : List (List Object)) → found_in first a layout ≡ option_map (λ k. 0 + k) (found_in (first + 0) a layout)
found-start first a layout = sym (map_zero (found_in first a layout)) ∙ ap (λ f. option_map (λ k. 0 + k) (found_in f a layout)) (sym (add-zero first))

pub found-here : (first a before index : ℕ) (page : List Object) (layout : List (List Object)) → Some index ≡ place_in (on_page (first % 65536) page) a
    → option_map (λ k. before + k) (found_in first a (page ∷ layout)) ≡ Some (before + index)
found-here first a before index page layout h =
    ap (option_map (λ k. before + k)) (place_in-front (on_page (first % 65536) page) (addresses_in layout (frames_from (first + 1) (length layout))) a index (sym h))

pub found-next : (first a before : ℕ) (page : List Object) (layout : List (List Object)) → None ≡ place_in (on_page (first % 65536) page) a
    → option_map (λ k. before + k) (found_in first a (page ∷ layout)) ≡ option_map (λ k. (before + length page) + k) (found_in (first + 1) a layout)
found-next first a before page layout h =
    ap (option_map (λ k. before + k))
    (place_in-past (on_page (first % 65536) page) (addresses_in layout (frames_from (first + 1) (length layout))) a (sym h)
    ∙ ap (λ n. option_map (λ k. n + k) (found_in (first + 1) a layout)) (length-on_page (first % 65536) page))
    ∙ map_compose before (length page) (found_in (first + 1) a layout)

-- one page more of the walk
pub find-step : (first a before page : ℕ) (layout : List (List Object)) (p : List Object) → slice_get layout page ≡ Some p
    → found_in first a layout ≡ option_map (λ k. before + k) (found_in (first + page) a (drop page layout))
    → None ≡ place_in (on_page ((first + page) % 65536) p) a
    → found_in first a layout ≡ option_map (λ k. (before + length p) + k) (found_in (first + (page + 1)) a (drop (page + 1) layout))
find-step first a before page layout p there so none =
    so
    ∙ ap (λ l. option_map (λ k. before + k) (found_in (first + page) a l)) (drop-here layout page p there)
    ∙ found-next (first + page) a before p (drop (page + 1) layout) none
    ∙ ap (λ f. option_map (λ k. (before + length p) + k) (found_in f a (drop (page + 1) layout))) (let e : first + page + 1 ≡ first + (page + 1) = omega arith in e)

pub find-end : (first a before page index : ℕ) (layout : List (List Object)) (p : List Object) → slice_get layout page ≡ Some p
    → found_in first a layout ≡ option_map (λ k. before + k) (found_in (first + page) a (drop page layout))
    → Some index ≡ place_in (on_page ((first + page) % 65536) p) a
    → Some (before + index) ≡ found_in first a layout
find-end first a before page index layout p there so here = sym (
    so
    ∙ ap (λ l. option_map (λ k. before + k) (found_in (first + page) a l)) (drop-here layout page p there)
    ∙ found-here (first + page) a before index p (drop (page + 1) layout) here)

pub sum-step : (layout : List (List Object)) (page : ℕ) (p : List Object) → slice_get layout page ≡ Some p
    → sum_by length (take page layout) + length p ≡ sum_by length (take (page + 1) layout)
sum-step [] page p h = absurd (none-some p h)
sum-step (x ∷ layout) zero p h =
    let s : ◌≡◌ {A = Option (List Object)} (Some x) (Some p) = h in
    let same : x ≡ p = cc in
    ap (λ l. 0 + length l) (sym same)
sum-step (x ∷ layout) (suc page) p h =
    let e : suc page + 1 ≡ suc (page + 1) = omega arith in
    let i : sum_by length (take page layout) + length p ≡ sum_by length (take (page + 1) layout) = sum-step layout page p h in
    ap (λ n. n + length p) (sum_by-cons (λ (y : List Object). length y) x (take page layout))
    ∙ (let a : length x + sum_by length (take page layout) + length p ≡ length x + sum_by length (take (page + 1) layout) = omega arith in a)
    ∙ sym (sum_by-cons (λ (y : List Object). length y) x (take (page + 1) layout))
    ∙ ap (λ n. sum_by length (take n (x ∷ layout))) (sym e)

-- a place is on one of the pages, and is one of the objects there
pub place-page : (layout : List (List Object)) (page index n : ℕ) → IsPlace layout page index n → page < length layout
place-page [] page index n h = absurd h
place-page (x ∷ layout) zero index n h = omega arith
place-page (x ∷ layout) (suc page) index n h = let l : page < length layout = place-page layout page index (n - length x) h.1 in omega arith

pub place-index : (layout : List (List Object)) (page index n : ℕ) (p : List Object) → IsPlace layout page index n → slice_get layout page ≡ Some p → index < length p
place-index [] page index n p h e = absurd h
place-index (x ∷ layout) zero index n p h e =
    let s : ◌≡◌ {A = Option (List Object)} (Some x) (Some p) = e in
    let same : x ≡ p = cc in
    let l : n < length x = h.1 in let i : index ≡ n = h.0 in let k : length x ≡ length p = ap length same in omega arith
place-index (x ∷ layout) (suc page) index n p h e = place-index layout page index (n - length x) p h.1 e

-- the object under an address, from where it stands
pub object-under : (s : HeapObjects) (a page index number : ℕ) (p : List Object) → Stands s a page index number → slice_get s.layout.items page ≡ Some p
    → object_under s a ≡ slice_get p index
object-under s a page index number p h e =
    ap (option_and_then (λ n. slice_get (placed (objects_in s)) n)) h.named ∙ placed-at s.layout.items page index number p h.place e

-- no object is under an address that names none
pub none-under : (s : HeapObjects) (a : ℕ) → None ≡ named_by (objects_in s) (frames_in s) a → object_under s a ≡ None
none-under s a e = ap (option_and_then (λ n. slice_get (placed (objects_in s)) n)) (sym e)

-- A walk over the pages that looks for the address of an object.
pub address-here : (first left : ℕ) (p : List Object) (layout : List (List Object)) → left < length p
    → slice_index_or (addresses_from first (p ∷ layout)) left 0 ≡ first % 65536 * 4096 + slice_index_or (offsets_from 64 p) left 0
address-here first left p layout h =
    let l : left < length (on_page (first % 65536) p) = (let e = length-on_page (first % 65536) p in omega arith) in
    let k : left < length (offsets_from 64 p) = (let e = length-offsets 64 p in omega arith) in
    get_or-in (on_page (first % 65536) p) (addresses_in layout (frames_from (first + 1) (length layout))) left l
    ∙ get_or-shifted (first % 65536 * 4096) (offsets_from 64 p) left k

pub address-next : (first left : ℕ) (p : List Object) (layout : List (List Object)) → length p ≤ left
    → slice_index_or (addresses_from first (p ∷ layout)) left 0 ≡ slice_index_or (addresses_from (first + 1) layout) (left - length p) 0
address-next first left p layout h =
    let l : length (on_page (first % 65536) p) ≤ left = (let e = length-on_page (first % 65536) p in omega arith) in
    get_or-past (on_page (first % 65536) p) (addresses_in layout (frames_from (first + 1) (length layout))) left l
    ∙ ap (λ n. slice_index_or (addresses_from (first + 1) layout) (left - n) 0) (length-on_page (first % 65536) p)

pub address-end : (first left page offset : ℕ) (layout : List (List Object)) (p : List Object) → slice_get layout page ≡ Some p → left < length p
    → offset ≡ slice_index_or (offsets_from 64 p) left 0
    → slice_index_or (addresses_from (first + page) (drop page layout)) left 0 ≡ (first + page) % 65536 * 4096 + offset
address-end first left page offset layout p there h o =
    ap (λ l. slice_index_or (addresses_from (first + page) l) left 0) (drop-here layout page p there)
    ∙ address-here (first + page) left p (drop (page + 1) layout) h
    ∙ ap (λ n. (first + page) % 65536 * 4096 + n) (sym o)

pub address-step : (first left page : ℕ) (layout : List (List Object)) (p : List Object) → slice_get layout page ≡ Some p → length p ≤ left
    → slice_index_or (addresses_from (first + page) (drop page layout)) left 0 ≡ slice_index_or (addresses_from (first + (page + 1)) (drop (page + 1) layout)) (left - length p) 0
address-step first left page layout p there h =
    ap (λ l. slice_index_or (addresses_from (first + page) l) left 0) (drop-here layout page p there)
    ∙ address-next (first + page) left p (drop (page + 1) layout) h
    ∙ ap (λ f. slice_index_or (addresses_from f (drop (page + 1) layout)) (left - length p) 0) (let e : first + page + 1 ≡ first + (page + 1) = omega arith in e)

-- the page that is read at a place
pub there-at : (layout : List (List Object)) (page : ℕ) (p : List Object) → page < length layout → p ≡ slice_index_or layout page p → slice_get layout page ≡ Some p
there-at layout page p h e = slice_get_read layout (length layout) page p refl h e

-- The last page.
pub last-free : (layout : List (List Object)) (page : ℕ) (p : List Object) → page + 1 ≡ length layout → slice_get layout page ≡ Some p → room_left layout ≡ room_on p
last-free [] page p h e = absurd (none-some p e)
last-free (x ∷ []) zero p h e = let s : ◌≡◌ {A = Option (List Object)} (Some x) (Some p) = e in let same : x ≡ p = cc in ap (λ l. room_on l) same
last-free (x ∷ []) (suc page) p h e = absurd (none-some p e)
last-free (x ∷ y ∷ layout) zero p h e = absurd (omega arith)
last-free (x ∷ y ∷ layout) (suc page) p h e = last-free (y ∷ layout) page p (omega arith) e

pub last-next : (first : ℕ) (layout : List (List Object)) (page : ℕ) (p : List Object) → page + 1 ≡ length layout → slice_get layout page ≡ Some p
    → next_address layout (frames_from first (length layout)) ≡ (first + page) % 65536 * 4096 + page_end p
last-next first [] page p h e = absurd (none-some p e)
last-next first (x ∷ []) zero p h e =
    let s : ◌≡◌ {A = Option (List Object)} (Some x) (Some p) = e in let same : x ≡ p = cc in
    ap (λ l. first % 65536 * 4096 + page_end l) same ∙ ap (λ f. f % 65536 * 4096 + page_end p) (sym (add-zero first))
last-next first (x ∷ []) (suc page) p h e = absurd (none-some p e)
last-next first (x ∷ y ∷ layout) zero p h e = absurd (omega arith)
last-next first (x ∷ y ∷ layout) (suc page) p h e =
    last-next (first + 1) (y ∷ layout) page p (omega arith) e
    ∙ ap (λ f. f % 65536 * 4096 + page_end p) (let s : first + 1 + page ≡ first + suc page = omega arith in s)

pub last-set : (layout : List (List Object)) (page : ℕ) (p : List Object) (x : Object) → page + 1 ≡ length layout → slice_get layout page ≡ Some p
    → slice_set layout page (p ++ x ∷ []) ≡ with_last layout x
last-set [] page p x h e = absurd (none-some p e)
last-set (q ∷ []) zero p x h e = let s : ◌≡◌ {A = Option (List Object)} (Some q) (Some p) = e in let same : q ≡ p = cc in ap (λ l. (l ++ x ∷ []) ∷ []) (sym same)
last-set (q ∷ []) (suc page) p x h e = absurd (none-some p e)
last-set (q ∷ r ∷ layout) zero p x h e = absurd (omega arith)
last-set (q ∷ r ∷ layout) (suc page) p x h e = ap (λ l. q ∷ l) (last-set (r ∷ layout) page p x (omega arith) e)

-- the place of an object is told by its number
pub place-tells : (layout : List (List Object)) (page index n : ℕ) → IsPlace layout page index n → (page ≡ page_of layout n) × (index ≡ index_of layout n)
place-tells [] page index n h = absurd h
place-tells (x ∷ layout) zero index n h =
    let t : nat_lt n (length x) ≡ true = (let l : n < length x = h.1 in grind (arith, nat_tests)) in
    (sym (ap (λ b. if b then 0 else suc (page_of layout (n - length x))) t), h.0 ∙ sym (ap (λ b. if b then n else index_of layout (n - length x)) t))
place-tells (x ∷ layout) (suc page) index n h =
    let t : nat_lt n (length x) ≡ false = (let l : length x ≤ n = h.0 in grind (arith, nat_tests)) in
    let i : (page ≡ page_of layout (n - length x)) × (index ≡ index_of layout (n - length x)) = place-tells layout page index (n - length x) h.1 in
    (ap (λ k. suc k) i.0 ∙ sym (ap (λ b. if b then 0 else suc (page_of layout (n - length x))) t), i.1 ∙ sym (ap (λ b. if b then n else index_of layout (n - length x)) t))

-- the page that is read at a place, whatever stands for none
pub there-or : (layout : List (List Object)) (page : ℕ) (p d : List Object) → slice_get layout page ≡ Some p → slice_index_or layout page d ≡ p
there-or layout page p d h = get_or_from_slice_get layout page p d h

-- a loan of a row's payload, where the row was found
pub loan-found : (s : HeapObjects) (a page index number : ℕ) (w : List ℕ) (objects : List Object) → Stands s a page index number → slice_get s.layout.items page ≡ Some objects
    → ◌≡◌ {A = HeapObjects} (record s { layout = with_item s.layout page (spilled objects index w) }) (after_loan s a w)
loan-found s a page index number w objects h e =
    let t : (page ≡ page_of s.layout.items number) × (index ≡ index_of s.layout.items number) = place-tells s.layout.items page index number h.place in
    ap (λ l. record s { layout = with_item s.layout page (spilled l index w) }) (sym (there-or s.layout.items page objects [] e))
    ∙ ap (λ k. record s { layout = with_item s.layout page (spilled (slice_index_or s.layout.items page []) k w) }) t.1
    ∙ ap (λ k. record s { layout = with_item s.layout k (spilled (slice_index_or s.layout.items k []) (index_of s.layout.items number) w) }) t.0
    ∙ ap (λ o. loaned s o w) (sym h.named)

-- a link that is there
is_some-at : {X : Type 0} (xs : List X) (k : ℕ) → k < length xs → IsSome (slice_get xs k)
is_some-at [] k h = absurd (omega arith)
is_some-at (x ∷ xs) zero h = refl
is_some-at (x ∷ xs) (suc k) h = is_some-at xs k (omega arith)

pub has-link : (f : Option ℕ → ℕ) (o : Option (List (Option ℕ))) (k : ℕ) → HasWord (option_map (λ ls. map f ls) o) k → IsSome (option_and_then (λ ls. slice_get ls k) o)
has-link f None k h = absurd h
has-link f (Some ls) k h = is_some-at ls k (let e : length (map f ls) ≡ length ls = length-map ls f in let l : k < length (map f ls) = h in omega arith)

-- a change of the object under an address, where it was found
pub change-found : (f : Object → Object) (s : HeapObjects) (a page index number : ℕ) (p new : List Object) → Stands s a page index number → slice_get s.layout.items page ≡ Some p
    → new ≡ changed_on f index p → ◌≡◌ {A = Objects} (record { layout = slice_set s.layout.items page new; roots = s.roots }) (changed_at f (frames_in s) a (objects_in s))
change-found f s a page index number p new h e n =
    ap (λ l. record { layout = slice_set s.layout.items page l; roots = s.roots }) n
    ∙ ap (λ l. record { layout = l; roots = s.roots }) (sym (changed-at f s.layout.items page index number p h.place e))
    ∙ ap (λ o. changed_by f o (objects_in s)) (sym h.named)
