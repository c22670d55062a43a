-- What the calls do, from what the calls of the space say.
use Rattle.std.specs.Prelude.{◌≡◌, ℕ, ◌+◌, ◌<◌, ◌==◌, Bool, true, false, List, [], ◌∷◌, ◌++◌, length, map, reverse, slice_get, slice_index_or, Option, None, Some, IsSome, IfSome, option_map, option_and_then, if◌then◌else◌}
use Rattle.std.proofs.Common.{inl, inr, sym, ◌∙◌, ap, subst, refl, arith}
use Rattle.std.proofs.lemmas.Bool.{eq-eqb}
use Rattle.std.proofs.lemmas.List.{length-map, get_or_append_left, get_or-append-add}
use Rattle.std.proofs.lemmas.Bool.Decides.{nat_tests, eqb_tells}
use Rattle.std.proofs.lemmas.Option.{none-some, slice_get_within}
use Rattle.hg_base.specs.Changes.{at-at}
use Rattle.hg_base.specs.Content.{Object, row_object, directory, Objects, placed, address_of, addresses_in, Standing, locked, Heap}
use Rattle.hg_base.specs.HeapContent.{object_at, named_by, place_in, links_of, payload_of, link_of, words_of, with_link, changed_by, changed_at, with_object, next_address}
use Rattle.hg_base.specs.HeapFacts.{LeadsBelow, AreWellPlaced, AreHeaps}
use Rattle.hg_base.specs.HeapLaws.{place_in-front}
use Rattle.hg_base.specs.HeapPage.{link_word}
use Rattle.hg_base.specs.HeapStates.{of_locked, standing_of, standing_with, with_objects, IsTarget, IsWordAt, HasWord, roots_in, words_in, payload_in, object_in, next_in, KeepsObjects, after_row, after_word}
use Rattle.hg_base.specs.Space.{Space, at}
use Rattle.hg_hash.specs.Buckets.{row_of, table, bucket, HasBuckets, bucket_in, chain, chain_in, in_front, OtherBuckets, KeepsPayloads, KeepsChains, OnlyRows, OnlyObjects, leads_to_row, row_first}
use Rattle.hg_hash.specs.Chains.{reached-nothing, chain-placed}
use Rattle.hg_hash.specs.Changing.{some_page, placed-with, addresses-with, tabled-with, placed-changed, row-relinked, addresses-relinked, relinked, row_added, chain-added, many-added, bucket-added, bucket-other}
use Rattle.hg_hash.specs.Following.{IsNewest, newest-chain, place_in-get}
use Rattle.hg_hash.specs.Leading.{first-added, first-other, no_link}
use Rattle.hg_hash.specs.Names.{AreNames, many-placed, length-all, nth-low, named_by-address, link_of-word}
use Rattle.hg_hash.specs.Tables.{Opened, opened, found, is_locked, Tabled, tabled, table_is, dir_below, dir_at, root_is, has_word, word_is, link_at, link_leads, link_is, standing_after}

-- what is known of a heap that is found locked
pub record IsOpen (o : Objects) (frames : List ℕ) : Type 0 where
  pub well : AreWellPlaced o
  pub names : AreNames o frames

pub open_as : (s : Space) (h : ℕ) (o : Objects) (frames : List ℕ) → AreHeaps s → standing_of s h ≡ Some (locked o frames) → IsOpen o frames
open_as s h o frames a e =
    let P : Option Standing → Type 0 = λ x. IsSome (of_locked (λ q f. Some q) x) in
    let w : Opened s h = opened s h a (subst P (sym e) refl) in
    let f : Some (locked w.objects w.frames) ≡ Some (locked o frames) = sym (found s h w) ∙ e in
    let same : w.objects ≡ o = cc in
    let stand : w.frames ≡ frames = cc in
    record {
      well = subst AreWellPlaced same w.well;
      names = subst (λ q. AreNames o q) stand (subst (λ q. AreNames q w.frames) same w.names);
    }

-- The object placed last is named by the next address.
pub address-front : (o : Objects) (frames : List ℕ) (x : Object) (n : ℕ) → AreNames o frames → 0 < length o.layout → n < length (placed o) → address_of (with_object o x) frames n ≡ address_of o frames n
address-front o frames x n names some l =
    let all = length-all o.layout frames names.same in
    let c = many-placed o.layout o.roots in
    ap (λ xs. slice_index_or xs n 0) (addresses-with o.layout frames x some names.same)
    ∙ get_or_append_left (addresses_in o.layout frames) (next_address o.layout frames ∷ []) 0 n (omega arith)

address-last : (o : Objects) (frames : List ℕ) (x : Object) → AreNames o frames → 0 < length o.layout → address_of (with_object o x) frames (length (placed o)) ≡ next_address o.layout frames
address-last o frames x names some =
    let all = length-all o.layout frames names.same in
    let c = many-placed o.layout o.roots in
    let n : length (placed o) ≡ length (addresses_in o.layout frames) + 0 = omega arith in
    ap (λ xs. slice_index_or xs (length (placed o)) 0) (addresses-with o.layout frames x some names.same)
    ∙ ap (λ k. slice_index_or (addresses_in o.layout frames ++ next_address o.layout frames ∷ []) k 0) n
    ∙ get_or-append-add (addresses_in o.layout frames) (next_address o.layout frames ∷ []) 0 0

length-last : (xs : List Object) (x : Object) → length (xs ++ x ∷ []) ≡ length xs + 1
length-last [] x = omega arith
length-last (y ∷ xs) x = let r = length-last xs x in omega arith

pub last_link : (o : Objects) (frames : List ℕ) (x : Object) → AreNames o frames → AreNames (with_object o x) frames → 0 < length o.layout
    → link_of (with_object o x) frames (next_address o.layout frames) ≡ Some (length (placed o))
last_link o frames x names after some =
    let count : length (placed (with_object o x)) ≡ length (placed o) + 1 = ap length (placed-with o x some) ∙ length-last (placed o) x in
    ap (link_of (with_object o x) frames) (sym (address-last o frames x names some))
    ∙ link_of-word (with_object o x) frames (Some (length (placed o))) after (let z : length (placed o) < length (placed (with_object o x)) = omega arith in z)

-- A row is placed, and the word of its bucket is set to it.
pub record Placed (s t : Space) (h k dir newest row : ℕ) (payload : List ℕ) : Type 0 where
  pub heaps : AreHeaps s
  pub buckets : HasBuckets s h
  pub bucket_below : k < 256
  pub dir_word : IsWordAt (roots_in s h) 0 dir
  pub newest_word : IsWordAt (words_in s h dir) k newest
  pub after : t ≡ after_row s h payload newest
  pub heaps_after : AreHeaps t
  pub row_word : next_in s h ≡ Some row
  pub kept : KeepsObjects s t h

abbrev pub row_placed : (w : Objects) → Tabled w.roots (placed w) → ℕ → List ℕ → Objects
row_placed o t k payload = with_object o (row_object payload (link_at t.links k))

dir_is : (s t : Space) (h k dir newest row : ℕ) (payload : List ℕ) (p : Placed s t h k dir newest row payload) (w : Opened s h) (b : Tabled w.objects.roots (placed w.objects)) → dir ≡ address_of w.objects w.frames b.dir
dir_is s t h k dir newest row payload p w b = root_is s h w b dir p.dir_word

-- the heap between the two
standing_between : (s t : Space) (h k dir newest row : ℕ) (payload : List ℕ) (p : Placed s t h k dir newest row payload) (w : Opened s h) (b : Tabled w.objects.roots (placed w.objects))
    → standing_of t h ≡ Some (locked (row_placed w.objects b k payload) w.frames)
standing_between s t h k dir newest row payload p w b =
    let d = dir_is s t h k dir newest row payload p w b in
    let n = word_is s h w b dir k newest d p.bucket_below p.newest_word in
    ap (λ z. standing_of z h) p.after
    ∙ standing_after s h (λ o frames. with_object o (row_object payload (link_of o frames newest))) w.objects w.frames (found s h w)
    ∙ ap (λ l. Some (locked (with_object w.objects (row_object payload l)) w.frames)) (link_is s h w b k newest n)

some_pages : (o : Objects) (b : Tabled o.roots (placed o)) → 0 < length o.layout
some_pages o b = some_page o.layout o.roots b.dir (directory b.links) b.there

open_between : (s t : Space) (h k dir newest row : ℕ) (payload : List ℕ) (p : Placed s t h k dir newest row payload) (w : Opened s h) (b : Tabled w.objects.roots (placed w.objects))
    → IsOpen (row_placed w.objects b k payload) w.frames
open_between s t h k dir newest row payload p w b =
    open_as t h (row_placed w.objects b k payload) w.frames p.heaps_after (standing_between s t h k dir newest row payload p w b)

-- the directory keeps its address
dir_between : (s t : Space) (h k dir newest row : ℕ) (payload : List ℕ) (p : Placed s t h k dir newest row payload) (w : Opened s h) (b : Tabled w.objects.roots (placed w.objects))
    → dir ≡ address_of (row_placed w.objects b k payload) w.frames b.dir
dir_between s t h k dir newest row payload p w b =
    dir_is s t h k dir newest row payload p w b
    ∙ sym (address-front w.objects w.frames (row_object payload (link_at b.links k)) b.dir w.names (some_pages w.objects b) (dir_below w.objects b))

object_between : (s t : Space) (h k dir newest row : ℕ) (payload : List ℕ) (p : Placed s t h k dir newest row payload) (w : Opened s h) (b : Tabled w.objects.roots (placed w.objects))
    → object_at (row_placed w.objects b k payload) w.frames dir ≡ Some (directory b.links)
object_between s t h k dir newest row payload p w b =
    ap (object_at (row_placed w.objects b k payload) w.frames) (dir_between s t h k dir newest row payload p w b)
    ∙ dir_at (row_placed w.objects b k payload) w.frames (tabled-with w.objects b (row_object payload (link_at b.links k))) (open_between s t h k dir newest row payload p w b).names

-- so its word can be set
has_word_between : (s t : Space) (h k dir newest row : ℕ) (payload : List ℕ) (p : Placed s t h k dir newest row payload) (w : Opened s h) (b : Tabled w.objects.roots (placed w.objects)) → HasWord (words_in t h dir) k
has_word_between s t h k dir newest row payload p w b =
    let o : Objects = row_placed w.objects b k payload in
    let e : words_in t h dir ≡ Some (words_of o w.frames b.links) =
    ap (of_locked (λ o frames. option_map (words_of o frames) (option_and_then links_of (object_at o frames dir)))) (standing_between s t h k dir newest row payload p w b)
    ∙ ap (λ x. option_map (words_of o w.frames) (option_and_then links_of x)) (object_between s t h k dir newest row payload p w b) in
    let m : length (words_of o w.frames b.links) ≡ 256 = length-map b.links (link_word (address_of o w.frames)) ∙ b.many in
    let below = p.bucket_below in
    let P : Option (List ℕ) → Type 0 = λ x. HasWord x k in subst P (sym e) (omega arith)

pub has_word_after : (s t : Space) (h k dir newest row : ℕ) (payload : List ℕ) → Placed s t h k dir newest row payload → HasWord (words_in t h dir) k
has_word_after s t h k dir newest row payload p =
    let w : Opened s h = opened s h p.heaps (is_locked s h p.buckets) in
    has_word_between s t h k dir newest row payload p w (tabled s h w p.buckets)

some_of : (x : Option Object) (payload : List ℕ) → option_and_then payload_of x ≡ Some payload → IsSome x
some_of None payload e = absurd (none-some payload e)
some_of (Some x) payload e = refl

pub is_target : (s : Space) (h a : ℕ) (payload : List ℕ) → payload_in s h a ≡ Some payload → IsTarget s h a
is_target s h a payload e = inr (some_of (object_in s h a) payload e)

-- The heap after both.
standing_last : (s t u : Space) (h k dir newest row : ℕ) (payload : List ℕ) (p : Placed s t h k dir newest row payload) (w : Opened s h) (b : Tabled w.objects.roots (placed w.objects)) → u ≡ after_word t h dir k row
    → standing_of u h ≡ Some (locked (row_added w.objects b k payload) w.frames)
standing_last s t u h k dir newest row payload p w b e =
    let o : Objects = row_placed w.objects b k payload in
    let x : Object = row_object payload (link_at b.links k) in
    let both : IsOpen o w.frames = open_between s t h k dir newest row payload p w b in
    let next : ◌≡◌ {A = Option ℕ} (Some (next_address w.objects.layout w.frames)) (Some row) =
    sym (ap (of_locked (λ o frames. Some (next_address o.layout frames))) (found s h w)) ∙ p.row_word in
    let at : next_address w.objects.layout w.frames ≡ row = cc in
    let link : link_of o w.frames row ≡ Some (length (placed w.objects)) =
    ap (link_of o w.frames) (sym at) ∙ last_link w.objects w.frames x w.names both.names (some_pages w.objects b) in
    let named : named_by o w.frames dir ≡ Some b.dir =
    ap (named_by o w.frames) (dir_between s t h k dir newest row payload p w b)
    ∙ named_by-address o w.frames b.dir both.names (dir_below o (tabled-with w.objects b x)) in
    ap (λ z. standing_of z h) e
    ∙ standing_after t h (λ o frames. changed_at (with_link k (link_of o frames row)) frames dir o) o w.frames (standing_between s t h k dir newest row payload p w b)
    ∙ ap (λ l. Some (locked (changed_by (with_link k l) (named_by o w.frames dir) o) w.frames)) link
    ∙ ap (λ n. Some (locked (changed_by (with_link k (Some (length (placed w.objects)))) n o) w.frames)) named

-- What is said of both together.
pub record Adds (s u : Space) (h k : ℕ) (payload : List ℕ) : Type 0 where
  pub front : bucket_in u h k ≡ in_front payload (bucket_in s h k)
  pub others : OtherBuckets s u h k
  pub buckets : HasBuckets u h
  pub rows : KeepsPayloads s u h
  pub chains : KeepsChains s u h
  pub only_rows : OnlyRows s h → OnlyRows u h
  pub only : OnlyObjects s u h

others_last : (s t u : Space) (h k dir newest row : ℕ) (payload : List ℕ) (p : Placed s t h k dir newest row payload) (w : Opened s h) (b : Tabled w.objects.roots (placed w.objects)) → u ≡ after_word t h dir k row
    → OtherBuckets s u h k
others_last s t u h k dir newest row payload p w b e j l other =
    ap (of_locked (λ o frames. bucket o j)) (standing_last s t u h k dir newest row payload p w b e)
    ∙ bucket-other w.objects b k j payload other (link_leads w.objects b j w.well)
    ∙ sym (ap (of_locked (λ o frames. bucket o j)) (found s h w))

front_last : (s t u : Space) (h k dir newest row : ℕ) (payload : List ℕ) (p : Placed s t h k dir newest row payload) (w : Opened s h) (b : Tabled w.objects.roots (placed w.objects)) → u ≡ after_word t h dir k row
    → bucket_in u h k ≡ in_front payload (bucket_in s h k)
front_last s t u h k dir newest row payload p w b e =
    ap (of_locked (λ o frames. bucket o k)) (standing_last s t u h k dir newest row payload p w b e)
    ∙ bucket-added w.objects b k payload p.bucket_below
    ∙ sym (ap (λ x. in_front payload (of_locked (λ o frames. bucket o k) x)) (found s h w))

-- a row that was found is found
row_at : (o : Objects) (frames : List ℕ) (a dir k : ℕ) (to : Option ℕ) (bytes : List ℕ) (link : Option ℕ) (n : Option ℕ) → place_in (addresses_in o.layout frames) a ≡ n
    → option_and_then (slice_get (placed o)) n ≡ Some (row_object bytes link) → object_at (relinked o dir k to) frames a ≡ Some (row_object bytes link)
row_at o frames a dir k to bytes link None e f = absurd (none-some (row_object bytes link) f)
row_at o frames a dir k to bytes link (Some n) e f =
    ap (λ xs. option_and_then (slice_get (placed (relinked o dir k to))) (place_in xs a)) (addresses-relinked k to dir o.layout frames)
    ∙ ap (option_and_then (slice_get (placed (relinked o dir k to)))) e
    ∙ ap (λ xs. slice_get xs n) (placed-changed (with_link k to) dir o)
    ∙ row-relinked k to dir n (placed o) bytes link f

rows_found : (s t u : Space) (h k dir newest row : ℕ) (payload : List ℕ) (p : Placed s t h k dir newest row payload) (w : Opened s h) (b : Tabled w.objects.roots (placed w.objects)) → u ≡ after_word t h dir k row
    → (a : ℕ) (bytes : List ℕ) (x : Option Object) → object_in s h a ≡ x → option_and_then payload_of x ≡ Some bytes → payload_in u h a ≡ Some bytes
rows_found s t u h k dir newest row payload p w b e a bytes None f g = absurd (none-some bytes g)
rows_found s t u h k dir newest row payload p w b e a bytes (Some (directory links)) f g = absurd (none-some bytes g)
rows_found s t u h k dir newest row payload p w b e a bytes (Some (row_object old link)) f g =
    let o : Objects = row_placed w.objects b k payload in
    let there : object_at o w.frames a ≡ Some (row_object old link) =
    sym (ap (of_locked (λ o frames. object_at o frames a)) (standing_between s t h k dir newest row payload p w b)) ∙ p.kept a (row_object old link) f in
    ap (λ x. option_and_then payload_of (of_locked (λ o frames. object_at o frames a) x)) (standing_last s t u h k dir newest row payload p w b e)
    ∙ ap (option_and_then payload_of) (row_at o w.frames a b.dir k (Some (length (placed w.objects))) old link (place_in (addresses_in o.layout w.frames) a) refl there)
    ∙ g

-- The chain from a row that was there is as it was.
chain_same : (o : Objects) (frames : List ℕ) (b : Tabled o.roots (placed o)) (k : ℕ) (payload : List ℕ) (a n : ℕ) → AreNames o frames → named_by o frames a ≡ Some n → n < length (placed o)
    → chain (placed (row_added o b k payload)) (link_of (row_added o b k payload) frames a) ≡ chain (placed o) (link_of o frames a)
chain_same o frames b k payload a n names e l =
    let x : Object = row_object payload (link_at b.links k) in
    let g = place_in-get (addresses_in o.layout frames) a n e in
    let c = many-placed o.layout o.roots in
    let low = nth-low o.layout frames n names.same (omega arith) in
    let at = g.1 in
    let test : (a == 0) ≡ false = grind (arith, nat_tests) in
    let to : Option ℕ = Some (length (placed o)) in
    let named : named_by (row_added o b k payload) frames a ≡ Some n =
    ap (λ xs. place_in xs a) (addresses-relinked k to b.dir (with_object o x).layout frames ∙ addresses-with o.layout frames x (some_pages o b) names.same)
    ∙ place_in-front (addresses_in o.layout frames) (next_address o.layout frames ∷ []) a n e in
    ap (chain (placed (row_added o b k payload))) (ap (λ t. if t then None else named_by (row_added o b k payload) frames a) test ∙ named)
    ∙ chain-added o b k payload (Some n)
    ∙ chain-placed (placed o) x (Some n) l
    ∙ sym (ap (chain (placed o)) (ap (λ t. if t then None else named_by o frames a) test ∙ e))

payload_within : (objects : List Object) (n : ℕ) (x : Option Object) (bytes : List ℕ) → slice_get objects n ≡ x → option_and_then payload_of x ≡ Some bytes → n < length objects
payload_within objects n None bytes e f = absurd (none-some bytes f)
payload_within objects n (Some x) bytes e f = slice_get_within objects n x e

chain_named : (o : Objects) (frames : List ℕ) (b : Tabled o.roots (placed o)) (k : ℕ) (payload : List ℕ) (a : ℕ) (p : Option ℕ) (bytes : List ℕ) → AreNames o frames → named_by o frames a ≡ p
    → option_and_then payload_of (option_and_then (slice_get (placed o)) p) ≡ Some bytes
    → chain (placed (row_added o b k payload)) (link_of (row_added o b k payload) frames a) ≡ chain (placed o) (link_of o frames a)
chain_named o frames b k payload a None bytes names e f = absurd (none-some bytes f)
chain_named o frames b k payload a (Some n) bytes names e f = chain_same o frames b k payload a n names e (payload_within (placed o) n (slice_get (placed o) n) bytes refl f)

chains_last : (s t u : Space) (h k dir newest row : ℕ) (payload : List ℕ) (p : Placed s t h k dir newest row payload) (w : Opened s h) (b : Tabled w.objects.roots (placed w.objects)) → u ≡ after_word t h dir k row
    → KeepsChains s u h
chains_last s t u h k dir newest row payload p w b e a bytes f =
    let o : Objects = w.objects in
    let there : option_and_then payload_of (object_at o w.frames a) ≡ Some bytes =
    sym (ap (λ x. option_and_then payload_of (of_locked (λ o frames. object_at o frames a) x)) (found s h w)) ∙ f in
    ap (of_locked (λ o frames. Some (chain (placed o) (link_of o frames a)))) (standing_last s t u h k dir newest row payload p w b e)
    ∙ ap Some (chain_named o w.frames b k payload a (named_by o w.frames a) bytes w.names refl there)
    ∙ sym (ap (of_locked (λ o frames. Some (chain (placed o) (link_of o frames a)))) (found s h w))

-- Each bucket's link leads to a row.
only_rows_last : (s t u : Space) (h k dir newest row : ℕ) (payload : List ℕ) (p : Placed s t h k dir newest row payload) (w : Opened s h) (b : Tabled w.objects.roots (placed w.objects)) → u ≡ after_word t h dir k row
    → OnlyRows s h → OnlyRows u h
only_rows_last s t u h k dir newest row payload p w b e old j l =
    let was : row_first w.objects j ≡ Some true = sym (ap (of_locked (λ o frames. row_first o j)) (found s h w)) ∙ old j l in
    ap (of_locked (λ o frames. row_first o j)) (standing_last s t u h k dir newest row payload p w b e)
    ∙ elim (eqb_tells j k) [
      | inl m ↦ ap (row_first (row_added w.objects b k payload)) m.1 ∙ first-added w.objects b k payload p.bucket_below
      | inr m ↦ first-other w.objects b k j payload m.1 was
    ]

-- Nothing else changes.

abbrev pub put : Space → ℕ → Heap → Objects → List ℕ → Space
put s h x o frames = record s { heaps = record s.heaps { heap = at s.heaps.heap h (Some (record x { standing = locked o frames })) } }

pub put_objects : (s : Space) (h : ℕ) (f : Objects → List ℕ → Objects) (x : Heap) (o : Objects) (frames : List ℕ) → s.heaps.heap h ≡ Some x → x.standing ≡ locked o frames
    → with_objects s h f ≡ put s h x (f o frames) frames
put_objects s h f x o frames e g =
    ap (λ (q : Option Heap). record s { heaps = record s.heaps { heap = at s.heaps.heap h (option_map (λ (y : Heap). record y { standing = standing_with f y.standing }) q) } }) e
    ∙ ap (λ (q : Standing). record s { heaps = record s.heaps { heap = at s.heaps.heap h (Some (record x { standing = standing_with f q })) } }) g

put_here : (s : Space) (h : ℕ) (x : Heap) (o : Objects) (frames : List ℕ) → (put s h x o frames).heaps.heap h ≡ Some (record x { standing = locked o frames })
put_here s h x o frames = ap (λ b. if b then Some (record x { standing = locked o frames }) else s.heaps.heap h) (eq-eqb h h refl)

put_twice : (s : Space) (h : ℕ) (x : Heap) (o q : Objects) (frames : List ℕ) → put (put s h x o frames) h (record x { standing = locked o frames }) q frames ≡ put s h x q frames
put_twice s h x o q frames =
    ap (λ (f : ℕ → Option Heap). record s { heaps = record s.heaps { heap = f } })
    (at-at s.heaps.heap h (Some (record x { standing = locked o frames })) (Some (record x { standing = locked q frames })))

-- two changes of the objects are one
pub only_objects : (s t u : Space) (h : ℕ) (w : Opened s h) (f g : Objects → List ℕ → Objects) → t ≡ with_objects s h f → u ≡ with_objects t h g → OnlyObjects s u h
only_objects s t u h w f g e k =
    let o : Objects = f w.objects w.frames in
    let q : Objects = g o w.frames in
    let first : t ≡ put s h w.heap o w.frames = e ∙ put_objects s h f w.heap w.objects w.frames w.is w.held in
    record {
      objects = q;
      after =
          k ∙ ap (λ z. with_objects z h g) first
          ∙ put_objects (put s h w.heap o w.frames) h g (record w.heap { standing = locked o w.frames }) o w.frames (put_here s h w.heap o w.frames) refl
          ∙ put_twice s h w.heap o q w.frames
          ∙ sym (put_objects s h (λ _ _. q) w.heap w.objects w.frames w.is w.held);
    }

pub adds : (s t u : Space) (h k dir newest row : ℕ) (payload : List ℕ) → Placed s t h k dir newest row payload → u ≡ after_word t h dir k row → Adds s u h k payload
adds s t u h k dir newest row payload p e =
    let w : Opened s h = opened s h p.heaps (is_locked s h p.buckets) in
    let b : Tabled w.objects.roots (placed w.objects) = tabled s h w p.buckets in
    record {
      front = front_last s t u h k dir newest row payload p w b e;
      others = others_last s t u h k dir newest row payload p w b e;
      buckets = ap (of_locked (λ o frames. option_map length (table o))) (standing_last s t u h k dir newest row payload p w b e) ∙ many-added w.objects b k payload;
      rows = λ a bytes f. rows_found s t u h k dir newest row payload p w b e a bytes (object_in s h a) refl f;
      chains = chains_last s t u h k dir newest row payload p w b e;
      only_rows = λ old. only_rows_last s t u h k dir newest row payload p w b e old;
      only = only_objects s t u h w (λ o frames. with_object o (row_object payload (link_of o frames newest))) (λ o frames. changed_at (with_link k (link_of o frames row)) frames dir o) p.after e;
    }

-- What is asked before.
pub has_word_before : (s : Space) (h dir k : ℕ) → AreHeaps s → HasBuckets s h → IsWordAt (roots_in s h) 0 dir → k < 256 → HasWord (words_in s h dir) k
has_word_before s h dir k a b d l =
    let w : Opened s h = opened s h a (is_locked s h b) in
    let t : Tabled w.objects.roots (placed w.objects) = tabled s h w b in has_word s h w t dir k (root_is s h w t dir d) l

-- What is found first in a bucket.
pub record Found (s : Space) (h k word : ℕ) : Type 0 where
  pub chain_is : chain_in s h word ≡ bucket_in s h k
  pub newest : IfSome (bucket_in s h k) (λ rows. IsNewest (payload_in s h word) rows)
  pub nil : word ≡ 0 → bucket_in s h k ≡ Some []
  pub empty : OnlyRows s h → bucket_in s h k ≡ Some [] → word ≡ 0

newest_at : (o : Objects) (frames : List ℕ) (word : ℕ) (link : Option ℕ) → AreNames o frames → LeadsBelow (length (placed o)) link → word ≡ link_word (address_of o frames) link
    → IsNewest (option_and_then payload_of (object_at o frames word)) (chain (placed o) link)
newest_at o frames word None names l e =
    subst (IsNewest (option_and_then payload_of (object_at o frames word))) (sym (reached-nothing (reverse (map row_of (placed o))))) tt
newest_at o frames word (Some n) names l e =
    let named : named_by o frames word ≡ Some n = ap (named_by o frames) e ∙ named_by-address o frames n names l in
    subst (λ m. IsNewest (option_and_then payload_of (option_and_then (slice_get (placed o)) m)) (chain (placed o) (Some n))) (sym named) (newest-chain (placed o) n)

pub first_found : (s : Space) (h dir k word : ℕ) → AreHeaps s → HasBuckets s h → IsWordAt (roots_in s h) 0 dir → k < 256 → IsWordAt (words_in s h dir) k word → Found s h k word
first_found s h dir k word a b d l i =
    let w : Opened s h = opened s h a (is_locked s h b) in
    let t : Tabled w.objects.roots (placed w.objects) = tabled s h w b in
    let o : Objects = w.objects in
    let e : word ≡ link_word (address_of o w.frames) (link_at t.links k) = word_is s h w t dir k word (root_is s h w t dir d) l i in
    let rows : bucket_in s h k ≡ Some (chain (placed o) (link_at t.links k)) =
    ap (of_locked (λ o frames. bucket o k)) (found s h w) ∙ ap (option_map (λ links. chain (placed o) (slice_index_or links k None))) (table_is o t) in
    let payload : option_and_then payload_of (object_at o w.frames word) ≡ payload_in s h word =
    sym (ap (λ x. option_and_then payload_of (of_locked (λ o frames. object_at o frames word) x)) (found s h w)) in
    let newest : IsNewest (payload_in s h word) (chain (placed o) (link_at t.links k)) =
    subst (λ x. IsNewest x (chain (placed o) (link_at t.links k))) payload (newest_at o w.frames word (link_at t.links k) w.names (link_leads o t k w.well) e) in
    let same : chain_in s h word ≡ bucket_in s h k =
    ap (of_locked (λ o frames. Some (chain (placed o) (link_of o frames word)))) (found s h w)
    ∙ ap (λ link. Some (chain (placed o) link)) (link_is s h w t k word e)
    ∙ sym rows in
    record {
      chain_is = same;
      newest = subst (λ x. IfSome x (λ rows. IsNewest (payload_in s h word) rows)) (sym rows) newest;
      nil = λ z.
          sym same ∙ ap (chain_in s h) z
          ∙ ap (of_locked (λ o frames. Some (chain (placed o) (link_of o frames 0)))) (found s h w)
          ∙ ap Some (reached-nothing (reverse (map row_of (placed o))));
      empty = λ only none.
          let leads : ◌≡◌ {A = Option Bool} (Some (leads_to_row (placed o) (link_at t.links k))) (Some true) =
          sym (ap (of_locked (λ o frames. row_first o k)) (found s h w) ∙ ap (option_map (λ links. leads_to_row (placed o) (slice_index_or links k None))) (table_is o t)) ∙ only k l in
          let to_row : leads_to_row (placed o) (link_at t.links k) ≡ true = cc in
          let some_none : ◌≡◌ {A = Option (List (List ℕ))} (Some (chain (placed o) (link_at t.links k))) (Some []) = sym rows ∙ none in
          let no_rows : chain (placed o) (link_at t.links k) ≡ [] = cc in
          e ∙ ap (link_word (address_of o w.frames)) (no_link o (link_at t.links k) w.well to_row no_rows);
    }
