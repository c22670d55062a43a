-- What is known of a heap that is locked, in a space whose heaps are well formed, and of its buckets.
use Rattle.std.specs.Prelude.{◌≡◌, ℕ, ◌+◌, ◌<◌, zero, suc, List, [], ◌∷◌, length, slice_get, slice_index_or, Option, None, Some, IsSome, option_map, option_and_then, if◌then◌else◌}
use Rattle.std.specs.List.{AllByRecursion}
use Rattle.std.proofs.Common.{sym, ◌∙◌, ap, subst, refl, arith}
use Rattle.std.proofs.lemmas.Bool.{eq-eqb}
use Rattle.std.proofs.lemmas.List.{length-map}
use Rattle.std.proofs.lemmas.Option.{none-some, slice_get_within, slice_get-map, slice_get-get_or}
use Rattle.hg_base.specs.Content.{Object, row_object, directory, Objects, placed, address_of, Standing, locked, unlocked, draining, Heap}
use Rattle.hg_base.specs.HeapContent.{object_at, links_of, link_of, words_of}
use Rattle.hg_base.specs.HeapFacts.{LeadsBelow, IsObject, AreObjects, AreWellPlaced, IsStanding, IsHeap, AreHeaps}
use Rattle.hg_base.specs.HeapPage.{link_word}
use Rattle.hg_base.specs.HeapStates.{of_locked, standing_of, standing_with, with_standing, with_objects, IsLocked, IsWordAt, HasWord, roots_in, words_in}
use Rattle.hg_base.specs.Space.{Space, at}
use Rattle.hg_hash.specs.Buckets.{links_at, table, HasBuckets}
use Rattle.hg_hash.specs.Names.{AreNames, named_by-address, link_of-word}

-- A heap that is locked: what it holds, and its frames.
pub record Opened (s : Space) (h : ℕ) : Type 0 where
  pub heap : Heap
  pub is : s.heaps.heap h ≡ Some heap
  pub objects : Objects
  pub frames : List ℕ
  pub held : heap.standing ≡ locked objects frames
  pub well : AreWellPlaced objects
  pub names : AreNames objects frames

opened_as : (s : Space) (h : ℕ) (x : Heap) → s.heaps.heap h ≡ Some x → IsHeap s h x → (st : Standing) → x.standing ≡ st → IsSome (of_locked (λ o frames. Some o) (Some st)) → Opened s h
opened_as s h x e k (locked o frames) t l =
    let g : IsStanding (length x.pages) (locked o frames) = subst (IsStanding (length x.pages)) t k.standing in
    record {
      heap = x;
      is = e;
      objects = o;
      frames = frames;
      held = t;
      well = g.0;
      names = record { same = g.1 ∙ sym g.2; fit = g.0.pages; apart = g.3 };
    }
opened_as s h x e k (unlocked o) t l = absurd (cc)
opened_as s h x e k (draining o) t l = absurd (cc)

opened_by : (s : Space) (h : ℕ) → AreHeaps s → (x : Option Heap) → s.heaps.heap h ≡ x → IsSome (of_locked (λ o frames. Some o) (option_map (λ (y : Heap). y.standing) x)) → Opened s h
opened_by s h a None e l = absurd (cc)
opened_by s h a (Some x) e l = opened_as s h x e (a.each h x e) x.standing refl l

pub opened : (s : Space) (h : ℕ) → AreHeaps s → IsLocked s h → Opened s h
opened s h a l = opened_by s h a (s.heaps.heap h) refl l

-- what is found in it
pub found : (s : Space) (h : ℕ) (w : Opened s h) → standing_of s h ≡ Some (locked w.objects w.frames)
found s h w = ap (option_map (λ (y : Heap). y.standing)) w.is ∙ ap Some w.held

-- a heap that has buckets is locked
locked_by : (x : Option Standing) → of_locked (λ o frames. option_map length (table o)) x ≡ Some 256 → IsSome (of_locked (λ o frames. Some o) x)
locked_by None e = absurd (none-some 256 e)
locked_by (Some (locked o frames)) e = refl
locked_by (Some (unlocked o)) e = absurd (none-some 256 e)
locked_by (Some (draining o)) e = absurd (none-some 256 e)

pub is_locked : (s : Space) (h : ℕ) → HasBuckets s h → IsLocked s h
is_locked s h b = locked_by (standing_of s h) b

-- The directory to which root 0 leads.
pub record Tabled (roots : List (Option ℕ)) (objects : List Object) : Type 0 where
  pub dir : ℕ
  pub others : List (Option ℕ)
  pub roots_are : roots ≡ Some dir ∷ others
  pub links : List (Option ℕ)
  pub there : slice_get objects dir ≡ Some (directory links)
  pub many : length links ≡ 256

tabled_as : (n : ℕ) (others : List (Option ℕ)) (objects : List Object) (x : Option Object) → slice_get objects n ≡ x → option_map length (option_and_then links_of x) ≡ Some 256 → Tabled (Some n ∷ others) objects
tabled_as n others objects None t e = absurd (none-some 256 e)
tabled_as n others objects (Some (row_object payload link)) t e = absurd (none-some 256 e)
tabled_as n others objects (Some (directory links)) t e = record { dir = n; others = others; roots_are = refl; links = links; there = t; many = cc }

tabled_by : (roots : List (Option ℕ)) (objects : List Object) → option_map length (links_at roots objects) ≡ Some 256 → Tabled roots objects
tabled_by [] objects e = absurd (none-some 256 e)
tabled_by (None ∷ others) objects e = absurd (none-some 256 e)
tabled_by (Some n ∷ others) objects e = tabled_as n others objects (slice_get objects n) refl e

pub tabled : (s : Space) (h : ℕ) (w : Opened s h) → HasBuckets s h → Tabled w.objects.roots (placed w.objects)
tabled s h w b =
    tabled_by w.objects.roots (placed w.objects) (sym (ap (of_locked (λ o frames. option_map length (table o))) (found s h w)) ∙ b)

-- its links are the buckets
pub table_is : (o : Objects) (t : Tabled o.roots (placed o)) → table o ≡ Some t.links
table_is o t = ap (λ r. links_at r (placed o)) t.roots_are ∙ ap (option_and_then links_of) t.there

-- The addresses of these, as the calls of a space tell them.
pub dir_below : (o : Objects) (t : Tabled o.roots (placed o)) → t.dir < length (placed o)
dir_below o t = slice_get_within (placed o) t.dir (directory t.links) t.there

root_word : (o : Objects) (frames : List ℕ) (t : Tabled o.roots (placed o)) (word : ℕ) → slice_get (words_of o frames o.roots) 0 ≡ Some word → word ≡ address_of o frames t.dir
root_word o frames t word e =
    let f : slice_get (words_of o frames (Some t.dir ∷ t.others)) 0 ≡ Some word = sym (ap (λ r. slice_get (words_of o frames r) 0) t.roots_are) ∙ e in cc

pub root_is : (s : Space) (h : ℕ) (w : Opened s h) (t : Tabled w.objects.roots (placed w.objects)) (word : ℕ) → IsWordAt (roots_in s h) 0 word → word ≡ address_of w.objects w.frames t.dir
root_is s h w t word e =
    root_word w.objects w.frames t word
    (subst (λ x. IsWordAt (of_locked (λ o frames. Some (words_of o frames o.roots)) x) 0 word) (found s h w) e)

-- the directory is found at the address of its root
pub dir_at : (o : Objects) (frames : List ℕ) (t : Tabled o.roots (placed o)) → AreNames o frames → object_at o frames (address_of o frames t.dir) ≡ Some (directory t.links)
dir_at o frames t n = ap (option_and_then (slice_get (placed o))) (named_by-address o frames t.dir n (dir_below o t)) ∙ t.there

pub words_are : (s : Space) (h : ℕ) (w : Opened s h) (t : Tabled w.objects.roots (placed w.objects)) (word : ℕ) → word ≡ address_of w.objects w.frames t.dir
    → words_in s h word ≡ Some (words_of w.objects w.frames t.links)
words_are s h w t word e =
    ap (words_in s h) e
    ∙ ap (of_locked (λ o frames. option_map (words_of o frames) (option_and_then links_of (object_at o frames (address_of w.objects w.frames t.dir))))) (found s h w)
    ∙ ap (λ x. option_map (words_of w.objects w.frames) (option_and_then links_of x)) (dir_at w.objects w.frames t w.names)

pub has_word : (s : Space) (h : ℕ) (w : Opened s h) (t : Tabled w.objects.roots (placed w.objects)) (word k : ℕ) → word ≡ address_of w.objects w.frames t.dir → k < 256 → HasWord (words_in s h word) k
has_word s h w t word k e l =
    let m : length (words_of w.objects w.frames t.links) ≡ 256 = length-map t.links (link_word (address_of w.objects w.frames)) ∙ t.many in
    let P : Option (List ℕ) → Type 0 = λ x. HasWord x k in subst P (sym (words_are s h w t word e)) (omega arith)

-- the link of a bucket
abbrev pub link_at : List (Option ℕ) → ℕ → Option ℕ
link_at links k = slice_index_or links k None

nth_word : (o : Objects) (frames : List ℕ) (links : List (Option ℕ)) (k word : ℕ) → k < length links → slice_get (words_of o frames links) k ≡ Some word → word ≡ link_word (address_of o frames) (link_at links k)
nth_word o frames links k word l e =
    let f : Some word ≡ Some (link_word (address_of o frames) (link_at links k)) =
    sym e ∙ slice_get-map (link_word (address_of o frames)) links k ∙ ap (option_map (link_word (address_of o frames))) (slice_get-get_or links k None l) in cc

pub word_is : (s : Space) (h : ℕ) (w : Opened s h) (t : Tabled w.objects.roots (placed w.objects)) (dir k word : ℕ) → dir ≡ address_of w.objects w.frames t.dir → k < 256 → IsWordAt (words_in s h dir) k word
    → word ≡ link_word (address_of w.objects w.frames) (link_at t.links k)
word_is s h w t dir k word e l i =
    let m = t.many in
    let P : Option (List ℕ) → Type 0 = λ x. IsWordAt x k word in
    nth_word w.objects w.frames t.links k word (omega arith) (subst P (words_are s h w t dir e) i)

-- each bucket's link leads to an object that there is
some_links : (count n : ℕ) (objects : List Object) (d : ℕ) (links : List (Option ℕ)) → AreObjects n count objects → slice_get objects d ≡ Some (directory links) → AllByRecursion (LeadsBelow count) links
some_links count n [] d links a e = absurd (none-some (directory links) e)
some_links count n (x ∷ objects) zero links a e = let f : x ≡ directory links = cc in subst (IsObject n count) f a.0
some_links count n (x ∷ objects) (suc d) links a e = some_links count (n + 1) objects d links a.1 e

nth_leads : (count : ℕ) (links : List (Option ℕ)) (k : ℕ) → AllByRecursion (LeadsBelow count) links → LeadsBelow count (link_at links k)
nth_leads count [] k a = tt
nth_leads count (l ∷ links) zero a = a.0
nth_leads count (l ∷ links) (suc k) a = nth_leads count links k a.1

pub link_leads : (o : Objects) (t : Tabled o.roots (placed o)) (k : ℕ) → AreWellPlaced o → LeadsBelow (length (placed o)) (link_at t.links k)
link_leads o t k w = nth_leads (length (placed o)) t.links k (some_links (length (placed o)) 0 (placed o) t.dir t.links w.objects t.there)

-- a bucket's word stands for its link
pub link_is : (s : Space) (h : ℕ) (w : Opened s h) (t : Tabled w.objects.roots (placed w.objects)) (k word : ℕ) → word ≡ link_word (address_of w.objects w.frames) (link_at t.links k)
    → link_of w.objects w.frames word ≡ link_at t.links k
link_is s h w t k word e = ap (link_of w.objects w.frames) e ∙ link_of-word w.objects w.frames (link_at t.links k) w.names (link_leads w.objects t k w.well)

-- The heap after a change of its objects.

at-here : {X : Type 0} (f : ℕ → X) (p : ℕ) (x : X) → at f p x p ≡ x
at-here f p x = ap (λ b. if b then x else f p) (eq-eqb p p refl)

changed_standing : (g : Standing → Standing) (x : Option Heap) → option_map (λ (y : Heap). y.standing) (option_map (λ (y : Heap). record y { standing = g y.standing }) x) ≡ option_map g (option_map (λ (y : Heap). y.standing) x)
changed_standing g None = refl
changed_standing g (Some x) = refl

pub standing_with_any : (s : Space) (h : ℕ) (f : Standing → Standing) (st : Standing) → standing_of s h ≡ Some st → standing_of (with_standing s h f) h ≡ Some (f st)
standing_with_any s h f st e =
    ap (option_map (λ (y : Heap). y.standing)) (at-here s.heaps.heap h (option_map (λ (y : Heap). record y { standing = f y.standing }) (s.heaps.heap h)))
    ∙ changed_standing f (s.heaps.heap h) ∙ ap (option_map f) e

pub standing_after : (s : Space) (h : ℕ) (f : Objects → List ℕ → Objects) (o : Objects) (frames : List ℕ) → standing_of s h ≡ Some (locked o frames)
    → standing_of (with_objects s h f) h ≡ Some (locked (f o frames) frames)
standing_after s h f o frames e = standing_with_any s h (standing_with f) (locked o frames) e
