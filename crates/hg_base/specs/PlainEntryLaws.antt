-- Laws of how the objects of a page stand in memory.
use Rattle.std.specs.Prelude.{◌≡◌, ℕ, ◌+◌, ◌-◌, ◌*◌, ◌/◌, ◌<◌, ◌≤◌, zero, suc, List, [], ◌∷◌, ◌++◌, length, take, drop, sum_by, slice_get, slice_set, slice_index_or, Option, Some, None, option_map, if◌then◌else◌}
use Rattle.std.proofs.Common.{sym, ◌∙◌, ap, subst, refl, arith, zero-add, add-zero, append_assoc, eq-eqb, length-take, length-drop, length-append}
use Rattle.std.proofs.lemmas.Grind.{common_steps}
use Rattle.std.proofs.lemmas.List.{drop-drop, drop-set-add, drop-set-lt, take-set-le, take-append-le}
use Rattle.std.proofs.Math.Seq.{take-append-add}
use Rattle.std.proofs.lemmas.List.Sums.{sum_by-cons, sum_by-append}
use Rattle.hg_base.specs.Content.{Object, row_object, directory, object_size, offsets_from}
use Rattle.hg_base.specs.HeapContent.{changed_on, with_link, with_payload}
use Rattle.hg_base.specs.Lending.{refit}
use Rattle.hg_base.specs.PlainEntries.{bytes_used, links_used, entry_size, row_size, object_of, objects_of, entry_offsets, found_from, Fits, spill, spill_at}
use Rattle.hg_base.specs.declared.plain_page.PlainEntry.{PlainEntry}
use Rattle.hg_base.specs.declared.plain_page.PlainEntry.TheVariants.{Row, Directory}

pub fits-rest : (e : PlainEntry) (entries : List PlainEntry) (bytes : List ℕ) (links : List (Option ℕ)) → Fits (e ∷ entries) bytes links
    → Fits entries (drop (bytes_used e) bytes) (drop (links_used e) links)
fits-rest e entries bytes links f = let b = f.bytes_fit in let l = f.links_fit in record {
  bytes_fit = omega (arith, sum_by-cons bytes_used e entries, length-drop (bytes_used e) bytes);
  links_fit = omega (arith, sum_by-cons links_used e entries, length-drop (links_used e) links);
}

size-of : (e : PlainEntry) (entries : List PlainEntry) (bytes : List ℕ) (links : List (Option ℕ)) → Fits (e ∷ entries) bytes links
    → object_size (object_of e bytes links) ≡ entry_size e
size-of (Row count link) entries bytes links f =
    let b = f.bytes_fit in
    let e : length (take count bytes) ≡ count = omega (arith, sum_by-cons bytes_used (Row count link) entries, length-take count bytes) in
    ap (λ n. 16 + 16 * ((n + 15) / 16)) e
size-of (Directory count) entries bytes links f =
    let l = f.links_fit in
    let e : length (take count links) ≡ count = omega (arith, sum_by-cons links_used (Directory count) entries, length-take count links) in
    ap (λ n. 16 + 16 * ((8 * n + 15) / 16)) e

-- where the objects begin follows from the entries
pub offsets-of : (at : ℕ) (entries : List PlainEntry) (bytes : List ℕ) (links : List (Option ℕ)) → Fits entries bytes links
    → offsets_from at (objects_of entries bytes links) ≡ entry_offsets at entries
offsets-of at [] bytes links f = refl
offsets-of at (e ∷ entries) bytes links f =
    ap (λ n. at ∷ offsets_from (at + n) (objects_of entries (drop (bytes_used e) bytes) (drop (links_used e) links))) (size-of e entries bytes links f)
    ∙ ap (λ l. at ∷ l) (offsets-of (at + entry_size e) entries (drop (bytes_used e) bytes) (drop (links_used e) links) (fits-rest e entries bytes links f))

-- and so does the page's end
pub sizes-of : (entries : List PlainEntry) (bytes : List ℕ) (links : List (Option ℕ)) → Fits entries bytes links
    → sum_by object_size (objects_of entries bytes links) ≡ sum_by entry_size entries
sizes-of [] bytes links f = refl
sizes-of (e ∷ entries) bytes links f =
    sum_by-cons object_size (object_of e bytes links) (objects_of entries (drop (bytes_used e) bytes) (drop (links_used e) links))
    ∙ ap (λ n. n + sum_by object_size (objects_of entries (drop (bytes_used e) bytes) (drop (links_used e) links))) (size-of e entries bytes links f)
    ∙ ap (λ n. entry_size e + n) (sizes-of entries (drop (bytes_used e) bytes) (drop (links_used e) links) (fits-rest e entries bytes links f))
    ∙ sym (sum_by-cons entry_size e entries)

pub count-of : (entries : List PlainEntry) (bytes : List ℕ) (links : List (Option ℕ)) → length (objects_of entries bytes links) ≡ length entries
count-of [] bytes links = refl
count-of (e ∷ entries) bytes links = ap (λ n. suc n) (count-of entries (drop (bytes_used e) bytes) (drop (links_used e) links))

one-size : (e : PlainEntry) → bytes_used e + 8 * links_used e + 16 ≤ entry_size e
one-size (Row count link) = omega arith
one-size (Directory count) = omega arith

-- a page that is not full has few entries, bytes and links
pub room-of : (entries : List PlainEntry) → sum_by bytes_used entries + 8 * sum_by links_used entries + 16 * length entries ≤ sum_by entry_size entries
room-of [] = omega arith
room-of (e ∷ entries) =
    omega (arith, one-size e, room-of entries, sum_by-cons bytes_used e entries, sum_by-cons links_used e entries, sum_by-cons entry_size e entries)

-- the object of the entry at a place
pub object-at : (entries : List PlainEntry) (bytes : List ℕ) (links : List (Option ℕ)) (i : ℕ) (e : PlainEntry) → slice_get entries i ≡ Some e
    → slice_get (objects_of entries bytes links) i ≡ Some (object_of e (drop (sum_by bytes_used (take i entries)) bytes) (drop (sum_by links_used (take i entries)) links))
object-at [] bytes links i e h = absurd (let n : ◌≡◌ {A = Option PlainEntry} None (Some e) = h in cc)
object-at (x ∷ entries) bytes links zero e h =
    let n : ◌≡◌ {A = Option PlainEntry} (Some x) (Some e) = h in
    let same : x ≡ e = cc in
    ap (λ y. Some (object_of y bytes links)) same
object-at (x ∷ entries) bytes links (suc i) e h =
    object-at entries (drop (bytes_used x) bytes) (drop (links_used x) links) i e h
    ∙ ap (λ b. Some (object_of e b (drop (sum_by links_used (take i entries)) (drop (links_used x) links))))
    (drop-drop (sum_by bytes_used (take i entries)) (bytes_used x) bytes ∙ ap (λ n. drop n bytes) (sym (sum_by-cons bytes_used x (take i entries))))
    ∙ ap (λ l. Some (object_of e (drop (sum_by bytes_used (x ∷ take i entries)) bytes) l))
    (drop-drop (sum_by links_used (take i entries)) (links_used x) links ∙ ap (λ n. drop n links) (sym (sum_by-cons links_used x (take i entries))))

take-front : {X : Type 0} (xs ys : List X) (n : ℕ) → n ≤ length xs → take n (xs ++ ys) ≡ take n xs
take-front xs ys n h = grind (arith, common_steps)

drop-front : {X : Type 0} (xs ys : List X) (n : ℕ) → n ≤ length xs → drop n (xs ++ ys) ≡ drop n xs ++ ys
drop-front xs ys n h = grind (arith, common_steps)

take-all : {X : Type 0} (xs : List X) (n : ℕ) → n ≡ length xs → take n xs ≡ xs
take-all xs n h = grind (arith, common_steps)

-- A row more, and a directory more.
pub row-more : (entries : List PlainEntry) (bytes : List ℕ) (links : List (Option ℕ)) (payload : List ℕ) (link : Option ℕ) (n : ℕ) → Fits entries bytes links → n ≡ length payload
    → objects_of (entries ++ Row n link ∷ []) (bytes ++ payload) links ≡ objects_of entries bytes links ++ row_object payload link ∷ []
row-more [] [] links payload link n f e = ap (λ p. row_object p link ∷ []) (take-all payload n e)
row-more [] (b ∷ bytes) links payload link n f e = absurd (let h = f.bytes_fit in omega arith)
row-more (Row count l ∷ entries) bytes links payload link n f e =
    let b = f.bytes_fit in
    let fits : count ≤ length bytes = omega (arith, sum_by-cons bytes_used (Row count l) entries) in
    ap (λ p. row_object p l ∷ objects_of (entries ++ Row n link ∷ []) (drop count (bytes ++ payload)) links) (take-front bytes payload count fits)
    ∙ ap (λ p. row_object (take count bytes) l ∷ objects_of (entries ++ Row n link ∷ []) p links) (drop-front bytes payload count fits)
    ∙ ap (λ r. row_object (take count bytes) l ∷ r) (row-more entries (drop count bytes) links payload link n (fits-rest (Row count l) entries bytes links f) e)
row-more (Directory count ∷ entries) bytes links payload link n f e =
    ap (λ r. directory (take count links) ∷ r) (row-more entries bytes (drop count links) payload link n (fits-rest (Directory count) entries bytes links f) e)

pub directory-more : (entries : List PlainEntry) (bytes : List ℕ) (links more : List (Option ℕ)) (n : ℕ) → Fits entries bytes links → n ≡ length more
    → objects_of (entries ++ Directory n ∷ []) bytes (links ++ more) ≡ objects_of entries bytes links ++ directory more ∷ []
directory-more [] bytes [] more n f e = ap (λ p. directory p ∷ []) (take-all more n e)
directory-more [] bytes (l ∷ links) more n f e = absurd (let h = f.links_fit in omega arith)
directory-more (Row count l ∷ entries) bytes links more n f e =
    ap (λ r. row_object (take count bytes) l ∷ r) (directory-more entries (drop count bytes) links more n (fits-rest (Row count l) entries bytes links f) e)
directory-more (Directory count ∷ entries) bytes links more n f e =
    let b = f.links_fit in
    let fits : count ≤ length links = omega (arith, sum_by-cons links_used (Directory count) entries) in
    ap (λ p. directory p ∷ objects_of (entries ++ Directory n ∷ []) bytes (drop count (links ++ more))) (take-front links more count fits)
    ∙ ap (λ p. directory (take count links) ∷ objects_of (entries ++ Directory n ∷ []) bytes p) (drop-front links more count fits)
    ∙ ap (λ r. directory (take count links) ∷ r) (directory-more entries bytes (drop count links) more n (fits-rest (Directory count) entries bytes links f) e)

pub fits-more : (entries : List PlainEntry) (bytes more : List ℕ) (links links_more : List (Option ℕ)) (e : PlainEntry) → Fits entries bytes links
    → bytes_used e ≡ length more → links_used e ≡ length links_more → Fits (entries ++ e ∷ []) (bytes ++ more) (links ++ links_more)
fits-more entries bytes more links links_more e f b l = let x = f.bytes_fit in let y = f.links_fit in record {
  bytes_fit = omega (arith, sum_by-append bytes_used entries (e ∷ []), length-append bytes more);
  links_fit = omega (arith, sum_by-append links_used entries (e ∷ []), length-append links links_more);
}

set-taken : {X : Type 0} (xs : List X) (n k : ℕ) (x : X) → k < n → take n (slice_set xs k x) ≡ slice_set (take n xs) k x
set-taken [] zero k x h = refl
set-taken [] (suc n) k x h = refl
set-taken (y ∷ xs) zero k x h = absurd (omega arith)
set-taken (y ∷ xs) (suc n) zero x h = refl
set-taken (y ∷ xs) (suc n) (suc k) x h = ap (λ l. y ∷ l) (set-taken xs n k x (omega arith))

-- a link of a directory that is set
pub link-set : (entries : List PlainEntry) (bytes : List ℕ) (links : List (Option ℕ)) (i n k : ℕ) (to : Option ℕ) → slice_get entries i ≡ Some (Directory n) → k < n
    → objects_of entries bytes (slice_set links (sum_by links_used (take i entries) + k) to) ≡ changed_on (with_link k to) i (objects_of entries bytes links)
link-set [] bytes links i n k to h l = absurd (let e : ◌≡◌ {A = Option PlainEntry} None (Some (Directory n)) = h in cc)
link-set (e ∷ entries) bytes links zero n k to h l =
    let p : ◌≡◌ {A = Option PlainEntry} (Some e) (Some (Directory n)) = h in
    let same : e ≡ Directory n = cc in
    let P : PlainEntry → Type 0 = λ y. objects_of (y ∷ entries) bytes (slice_set links k to) ≡ changed_on (with_link k to) 0 (objects_of (y ∷ entries) bytes links) in
    ap (λ j. objects_of (e ∷ entries) bytes (slice_set links j to)) (zero-add k)
    ∙ subst P (sym same)
    (ap (λ d. directory d ∷ objects_of entries bytes (drop n (slice_set links k to))) (set-taken links n k to l)
    ∙ ap (λ d. directory (slice_set (take n links) k to) ∷ objects_of entries bytes d) (drop-set-lt n links k to l))
link-set (Row count x ∷ entries) bytes links (suc i) n k to h l =
    ap (λ m. row_object (take count bytes) x ∷ objects_of entries (drop count bytes) (slice_set links (m + k) to)) (sum_by-cons links_used (Row count x) (take i entries) ∙ zero-add (sum_by links_used (take i entries)))
    ∙ ap (λ r. row_object (take count bytes) x ∷ r) (link-set entries (drop count bytes) links i n k to h l)
link-set (Directory count ∷ entries) bytes links (suc i) n k to h l =
    let s : ℕ = sum_by links_used (take i entries) in
    let e : sum_by links_used (Directory count ∷ take i entries) + k ≡ count + (s + k) = omega (arith, sum_by-cons links_used (Directory count) (take i entries)) in
    ap (λ m. directory (take count (slice_set links m to)) ∷ objects_of entries bytes (drop count (slice_set links m to))) e
    ∙ ap (λ d. directory d ∷ objects_of entries bytes (drop count (slice_set links (count + (s + k)) to))) (take-set-le count links (count + (s + k)) to (omega arith))
    ∙ ap (λ d. directory (take count links) ∷ objects_of entries bytes d) (drop-set-add count links (s + k) to)
    ∙ ap (λ r. directory (take count links) ∷ r) (link-set entries bytes (drop count links) i n k to h l)

-- Bytes that are written over others.
pub refit-none : (b : List ℕ) → refit b [] ≡ b
refit-none b = take-all b (length b) refl

pub refit-whole : (b w : List ℕ) → length w ≡ length b → refit b w ≡ w
refit-whole b w e = grind (arith, common_steps)

take-refit : (n : ℕ) (b w : List ℕ) → take n (refit b w) ≡ refit (take n b) w
take-refit zero b w = refl
take-refit (suc n) [] w = refl
take-refit (suc n) (x ∷ b) [] = ap (take (suc n)) (refit-none (x ∷ b)) ∙ sym (refit-none (x ∷ take n b))
take-refit (suc n) (x ∷ b) (y ∷ w) = ap (λ l. y ∷ l) (take-refit n b w)

drop-refit : (n : ℕ) (b w : List ℕ) → drop n (refit b w) ≡ refit (drop n b) (drop n w)
drop-refit zero b w = refl
drop-refit (suc n) [] w = refl
drop-refit (suc n) (x ∷ b) [] = ap (drop (suc n)) (refit-none (x ∷ b)) ∙ sym (refit-none (drop n b))
drop-refit (suc n) (x ∷ b) (y ∷ w) = drop-refit n b w

spill-of : (entries : List PlainEntry) (bytes : List ℕ) (links : List (Option ℕ)) (w : List ℕ) → Fits entries bytes links
    → objects_of entries (refit bytes w) links ≡ spill w (objects_of entries bytes links)
spill-of [] bytes links w f = refl
spill-of (Row count l ∷ entries) bytes links w f =
    let b = f.bytes_fit in
    let long : length (take count bytes) ≡ count = omega (arith, sum_by-cons bytes_used (Row count l) entries, length-take count bytes) in
    ap (λ p. row_object p l ∷ objects_of entries (drop count (refit bytes w)) links) (take-refit count bytes w)
    ∙ ap (λ r. row_object (refit (take count bytes) w) l ∷ objects_of entries r links) (drop-refit count bytes w)
    ∙ ap (λ r. row_object (refit (take count bytes) w) l ∷ r) (spill-of entries (drop count bytes) links (drop count w) (fits-rest (Row count l) entries bytes links f))
    ∙ ap (λ n. row_object (refit (take count bytes) w) l ∷ spill (drop n w) (objects_of entries (drop count bytes) links)) (sym long)
spill-of (Directory count ∷ entries) bytes links w f =
    ap (λ r. directory (take count links) ∷ r) (spill-of entries bytes (drop count links) w (fits-rest (Directory count) entries bytes links f))

take-past : (b r : List ℕ) (n m : ℕ) → n ≤ length b → take n (take (n + m) b ++ r) ≡ take n b
take-past b r n m h = grind (arith, common_steps)

drop-past : (b r : List ℕ) (n m : ℕ) → n ≤ length b → drop n (take (n + m) b ++ r) ≡ take m (drop n b) ++ r
drop-past b r zero m h = ap (λ n. take n b ++ r) (zero-add m)
drop-past [] r (suc n) m h = absurd (omega arith)
drop-past (x ∷ b) r (suc n) m h =
    let e : suc n + m ≡ suc (n + m) = omega arith in
    ap (λ j. drop (suc n) (take j (x ∷ b) ++ r)) e ∙ drop-past b r n m (omega arith)

-- what a loan of a row's bytes leaves
pub spill_at-of : (entries : List PlainEntry) (bytes : List ℕ) (links : List (Option ℕ)) (i : ℕ) (w : List ℕ) → Fits entries bytes links
    → objects_of entries (take (sum_by bytes_used (take i entries)) bytes ++ refit (drop (sum_by bytes_used (take i entries)) bytes) w) links ≡ spill_at w i (objects_of entries bytes links)
spill_at-of [] bytes links i w f = refl
spill_at-of (e ∷ entries) bytes links zero w f = spill-of (e ∷ entries) bytes links w f
spill_at-of (Row count l ∷ entries) bytes links (suc i) w f =
    let s : ℕ = sum_by bytes_used (take i entries) in
    let b = f.bytes_fit in
    let fits : count ≤ length bytes = omega (arith, sum_by-cons bytes_used (Row count l) entries) in
    let r : List ℕ = refit (drop (count + s) bytes) w in
    ap (λ m. objects_of (Row count l ∷ entries) (take m bytes ++ refit (drop m bytes) w) links) (sum_by-cons bytes_used (Row count l) (take i entries))
    ∙ ap (λ p. row_object p l ∷ objects_of entries (drop count (take (count + s) bytes ++ r)) links) (take-past bytes r count s fits)
    ∙ ap (λ p. row_object (take count bytes) l ∷ objects_of entries p links) (drop-past bytes r count s fits)
    ∙ ap (λ d. row_object (take count bytes) l ∷ objects_of entries (take s (drop count bytes) ++ refit d w) links) (sym (drop-drop s count bytes))
    ∙ ap (λ t. row_object (take count bytes) l ∷ t) (spill_at-of entries (drop count bytes) links i w (fits-rest (Row count l) entries bytes links f))
spill_at-of (Directory count ∷ entries) bytes links (suc i) w f =
    ap (λ m. objects_of (Directory count ∷ entries) (take m bytes ++ refit (drop m bytes) w) links) (sum_by-cons bytes_used (Directory count) (take i entries) ∙ zero-add (sum_by bytes_used (take i entries)))
    ∙ ap (λ t. directory (take count links) ∷ t) (spill_at-of entries bytes (drop count links) i w (fits-rest (Directory count) entries bytes links f))

-- as a loan of a part of a list leaves it
pub loan-is : (b w : List ℕ) (n f : ℕ) → n ≡ length b → f ≤ length b
    → take n ((take f b ++ (w ++ drop (length w) (drop f b))) ++ drop (length (take f b ++ (w ++ drop (length w) (drop f b)))) b) ≡ take f b ++ refit (drop f b) w
loan-is b w n f e h =
    let c : List ℕ = drop f b in
    let y : List ℕ = w ++ drop (length w) c in
    let z : List ℕ = drop (length (take f b ++ y)) b in
    let front : length (take f b) ≡ f = omega (arith, length-take f b) in
    let long : length c ≡ length b - f = length-drop f b in
    let sum : n ≡ length (take f b) + length c = omega arith in
    ap (λ m. take m ((take f b ++ y) ++ z)) sum
    ∙ ap (take (length (take f b) + length c)) (append_assoc (take f b) y z)
    ∙ take-append-add (take f b) (y ++ z) (length c)
    ∙ ap (λ r. take f b ++ r) (take-append-le (length c) y z (omega (arith, length-append w (drop (length w) c), length-drop (length w) c)))

drop-none : {X : Type 0} (n : ℕ) → ◌≡◌ {A = List X} (drop n []) []
drop-none zero = refl
drop-none (suc n) = refl

spill-none : (objects : List Object) → spill [] objects ≡ objects
spill-none [] = refl
spill-none (row_object payload link ∷ objects) = ap (λ p. row_object p link ∷ spill (drop (length payload) []) objects) (refit-none payload)
    ∙ ap (λ p. row_object payload link ∷ spill p objects) (drop-none (length payload)) ∙ ap (λ r. row_object payload link ∷ r) (spill-none objects)
spill-none (directory links ∷ objects) = ap (λ r. directory links ∷ r) (spill-none objects)

-- as many bytes as a row has are just its own
pub spill-whole : (objects : List Object) (i : ℕ) (payload w : List ℕ) (link : Option ℕ) → slice_get objects i ≡ Some (row_object payload link) → length w ≡ length payload
    → spill_at w i objects ≡ changed_on (with_payload w) i objects
spill-whole [] i payload w link h e = refl
spill-whole (x ∷ objects) zero payload w link h e =
    let p : ◌≡◌ {A = Option Object} (Some x) (Some (row_object payload link)) = h in
    let same : x ≡ row_object payload link = cc in
    let P : Object → Type 0 = λ y. spill w (y ∷ objects) ≡ with_payload w y ∷ objects in
    let gone : drop (length payload) w ≡ [] = grind (arith, common_steps) in
    subst P (sym same)
    (ap (λ q. row_object q link ∷ spill (drop (length payload) w) objects) (refit-whole payload w e)
    ∙ ap (λ q. row_object w link ∷ spill q objects) gone
    ∙ ap (λ r. row_object w link ∷ r) (spill-none objects))
spill-whole (x ∷ objects) (suc i) payload w link h e = ap (λ r. x ∷ r) (spill-whole objects i payload w link h e)

-- What a walk over the entries looks for.
pub found-here : (base a at i : ℕ) (entries : List PlainEntry) → base + at ≡ a → 0 < length entries → Some i ≡ option_map (λ n. i + n) (found_from base a at entries)
found-here base a at i [] e h = absurd (omega arith)
found-here base a at i (x ∷ entries) e h =
    sym (ap (λ b. option_map (λ n. i + n) (if b then Some 0 else option_map (λ n. n + 1) (found_from base a (at + entry_size x) entries))) (eq-eqb (base + at) a e)
    ∙ ap Some (add-zero i))

pub offset-at : (at : ℕ) (entries : List PlainEntry) (i : ℕ) → i < length entries → slice_index_or (entry_offsets at entries) i 0 ≡ at + sum_by entry_size (take i entries)
offset-at at [] i h = absurd (omega arith)
offset-at at (e ∷ entries) zero h = sym (add-zero at)
offset-at at (e ∷ entries) (suc i) h =
    offset-at (at + entry_size e) entries i (omega arith)
    ∙ omega (arith, sum_by-cons entry_size e (take i entries))

pub offset-low : (entries : List PlainEntry) (i : ℕ) → i < length entries → sum_by entry_size (take i entries) + 16 ≤ sum_by entry_size entries
offset-low [] i h = absurd (omega arith)
offset-low (e ∷ entries) zero h = omega (arith, one-size e, sum_by-cons entry_size e entries)
offset-low (e ∷ entries) (suc i) h = omega (arith, offset-low entries i (omega arith), sum_by-cons entry_size e entries, sum_by-cons entry_size e (take i entries))

row-less : (e : PlainEntry) → row_size e ≤ entry_size e
row-less (Row count link) = omega arith
row-less (Directory count) = omega arith

-- the rows alone take no more
pub rows-less : (entries : List PlainEntry) → sum_by row_size entries ≤ sum_by entry_size entries
rows-less [] = omega arith
rows-less (e ∷ entries) = omega (arith, row-less e, rows-less entries, sum_by-cons row_size e entries, sum_by-cons entry_size e entries)
