-- What the parts of a page tell of its objects.
use Rattle.std.specs.Prelude.{◌≡◌, ℕ, zero, suc, ◌+◌, ◌-◌, ◌*◌, ◌<◌, ◌≤◌, List, length, take, drop, sum_by, slice_get, slice_index_or, Option, Some, None, ◌++◌, [], ◌∷◌, replicate, IsSome}
use Rattle.std.proofs.Common.{sym, ◌∙◌, ap, subst, refl, arith, append-nil}
use Rattle.std.proofs.lemmas.Bool.{false≢true}
use Rattle.std.proofs.lemmas.List.Sums.{sum_by-take-le, sum_by_more, sum_by_push}
use Rattle.std.proofs.lemmas.Option.{slice_get_read}
use Rattle.std.proofs.lemmas.List.{take_all}
use Rattle.std.specs.Vec.{vec_capacity}
use Rattle.hg_base.specs.Content.{Object, row_object, directory, page_end}
use Rattle.hg_base.specs.HeapContent.{payload_of, no_links}
use Rattle.hg_base.specs.PlainEntries.{bytes_used, links_used, entry_size, object_of, objects_of, Fits}
use Rattle.hg_base.specs.PlainEntryLaws.{count-of, object-at, room-of, sizes-of, row-more, directory-more, fits-more}
use Rattle.hg_base.specs.PlainPages.{objects_on, IsPage}
use Rattle.hg_base.specs.declared.plain_page.PlainEntry.{PlainEntry}
use Rattle.hg_base.specs.declared.plain_page.PlainEntry.TheVariants.{Row, Directory}
use Rattle.hg_base.specs.declared.plain_page.HeapPage.TheInside.{Inside}

-- as many entries as objects
pub entries-of : (p : Inside) (v : List Object) → objects_on p ≡ v → p.entries.len ≡ length v
entries-of p v e = p.entries.ok.0 ∙ sym (count-of p.entries.items p.bytes.items p.links.items) ∙ ap length e

-- the first free byte
pub end-of : (p : Inside) (v : List Object) → IsPage p → objects_on p ≡ v → p.end ≡ page_end v
end-of p v h e =
    h.end ∙ ap (λ n. 64 + n) (sym (sizes-of p.entries.items p.bytes.items p.links.items h.fits)) ∙ ap page_end e

-- what the entry at a place tells of the object there
pub record Tells (p : Inside) (v : List Object) (i : ℕ) (e : PlainEntry) : Type 0 where
  pub entry : slice_get p.entries.items i ≡ Some e
  pub object : slice_get v i ≡ Some (object_of e (drop (sum_by bytes_used (take i p.entries.items)) p.bytes.items) (drop (sum_by links_used (take i p.entries.items)) p.links.items))
  pub bytes : sum_by bytes_used (take i p.entries.items) + bytes_used e ≤ length p.bytes.items
  pub links : sum_by links_used (take i p.entries.items) + links_used e ≤ length p.links.items

-- entries, bytes and links are few
pub few-of : (p : Inside) → IsPage p → length p.bytes.items + 8 * length p.links.items + 16 * length p.entries.items + 64 ≤ p.end
few-of p h = let b = h.fits.bytes_fit in let l = h.fits.links_fit in let e = h.end in omega (arith, room-of p.entries.items)

pub tells : (p : Inside) (v : List Object) (i : ℕ) (e : PlainEntry) → IsPage p → objects_on p ≡ v → i < length v → e ≡ slice_index_or p.entries.items i e → Tells p v i e
tells p v i e h is inside here =
    let n : p.entries.len ≡ length v = entries-of p v is in
    let there : i < length p.entries.items = (let o = p.entries.ok.0 in omega arith) in
    let entry : slice_get p.entries.items i ≡ Some e = slice_get_read p.entries.items (length p.entries.items) i e refl there here in record {
      entry = entry;
      object = ap (λ l. slice_get l i) (sym is) ∙ object-at p.entries.items p.bytes.items p.links.items i e entry;
      bytes =
          (let f = h.fits.bytes_fit in let same : bytes_used (slice_index_or p.entries.items i e) ≡ bytes_used e = ap bytes_used (sym here) in
          omega (arith, sum_by-take-le bytes_used p.entries.items (i + 1), sum_by_more bytes_used p.entries.items i e there));
      links =
          (let f = h.fits.links_fit in let same : links_used (slice_index_or p.entries.items i e) ≡ links_used e = ap links_used (sym here) in
          omega (arith, sum_by-take-le links_used p.entries.items (i + 1), sum_by_more links_used p.entries.items i e there));
    }

-- q is p with an entry more
pub record GotEntry (p q : Inside) (e : PlainEntry) (bytes : List ℕ) (links : List (Option ℕ)) : Type 0 where
  pub entries : q.entries.items ≡ p.entries.items ++ e ∷ []
  pub bytes_more : q.bytes.items ≡ p.bytes.items ++ bytes
  pub links_more : q.links.items ≡ p.links.items ++ links
  pub end_more : q.end ≡ p.end + entry_size e
  pub entry_room : vec_capacity q.entries ≡ vec_capacity p.entries
  pub byte_room : vec_capacity p.bytes ≤ vec_capacity q.bytes
  pub link_room : vec_capacity p.links ≤ vec_capacity q.links

pub got-kept : (p q : Inside) (e : PlainEntry) (bytes : List ℕ) (links : List (Option ℕ)) → IsPage p → GotEntry p q e bytes links → bytes_used e ≡ length bytes → links_used e ≡ length links
    → q.end ≤ 4096 → IsPage q
got-kept p q e bytes links h g b l below = record {
  fits = let P : List PlainEntry → List ℕ → List (Option ℕ) → Type 0 = Fits in
      subst (λ x. P x q.bytes.items q.links.items) (sym g.entries)
      (subst (λ x. P (p.entries.items ++ e ∷ []) x q.links.items) (sym g.bytes_more)
      (subst (λ x. P (p.entries.items ++ e ∷ []) (p.bytes.items ++ bytes) x) (sym g.links_more)
      (fits-more p.entries.items p.bytes.items bytes p.links.items links e h.fits b l)));
  end = g.end_more ∙ ap (λ n. n + entry_size e) h.end
      ∙ (let s : 64 + sum_by entry_size p.entries.items + entry_size e ≡ 64 + (sum_by entry_size p.entries.items + entry_size e) = omega arith in s)
      ∙ ap (λ n. 64 + n) (sym (sum_by_push entry_size p.entries.items e))
      ∙ ap (λ es. 64 + sum_by entry_size es) (sym g.entries);
  below = below;
  entry_room = let a = h.entry_room in let b = g.entry_room in omega arith;
  byte_room = let a = h.byte_room in let b = g.byte_room in omega arith;
  link_room = let a = h.link_room in let b = g.link_room in omega arith;
}

-- a row more
pub got-row : (p q : Inside) (v : List Object) (payload : List ℕ) (link : Option ℕ) (n : ℕ) → IsPage p → objects_on p ≡ v → GotEntry p q (Row n link) payload [] → n ≡ length payload
    → objects_on q ≡ v ++ row_object payload link ∷ []
got-row p q v payload link n h is g e =
    ap (λ es. objects_of es q.bytes.items q.links.items) g.entries
    ∙ ap (λ b. objects_of (p.entries.items ++ Row n link ∷ []) b q.links.items) g.bytes_more
    ∙ ap (λ l. objects_of (p.entries.items ++ Row n link ∷ []) (p.bytes.items ++ payload) l) (g.links_more ∙ append-nil p.links.items)
    ∙ row-more p.entries.items p.bytes.items p.links.items payload link n h.fits e
    ∙ ap (λ l. l ++ row_object payload link ∷ []) is

-- a directory more
pub got-directory : (p q : Inside) (v : List Object) (more : List (Option ℕ)) (n : ℕ) → IsPage p → objects_on p ≡ v → GotEntry p q (Directory n) [] more → n ≡ length more
    → objects_on q ≡ v ++ directory more ∷ []
got-directory p q v more n h is g e =
    ap (λ es. objects_of es q.bytes.items q.links.items) g.entries
    ∙ ap (λ b. objects_of (p.entries.items ++ Directory n ∷ []) b q.links.items) (g.bytes_more ∙ append-nil p.bytes.items)
    ∙ ap (λ l. objects_of (p.entries.items ++ Directory n ∷ []) p.bytes.items l) g.links_more
    ∙ directory-more p.entries.items p.bytes.items p.links.items more n h.fits e
    ∙ ap (λ l. l ++ directory more ∷ []) is

-- links to nothing
pub length-no_links : (n : ℕ) → length (no_links n) ≡ n
length-no_links zero = refl
length-no_links (suc n) = ap (λ k. suc k) (length-no_links n)

no_links-is : (n : ℕ) → ◌≡◌ {A = List (Option ℕ)} (replicate n None) (no_links n)
no_links-is zero = refl
no_links-is (suc n) = ap (λ l. None ∷ l) (no_links-is n)

-- a list that was lengthened by nothings
pub lengthened : (xs : List (Option ℕ)) (n k : ℕ) → n ≡ length xs → take (n + k) xs ++ replicate (n + k - n) None ≡ xs ++ no_links k
lengthened xs n k e =
    let same : take (n + k) xs ≡ xs = take_all (n + k) xs (omega arith) in
    let more : n + k - n ≡ k = omega arith in
    ap (λ l. l ++ replicate (n + k - n) None) same ∙ ap (λ m. xs ++ replicate m None) more ∙ ap (λ l. xs ++ l) (no_links-is k)

-- a link that is there is one of so many
pub link-in : (xs : List (Option ℕ)) (n k : ℕ) → IsSome (slice_get (take n xs) k) → k < n
link-in xs zero k h = absurd (false≢true h)
link-in [] (suc n) k h = absurd (false≢true h)
link-in (x ∷ xs) (suc n) zero h = omega arith
link-in (x ∷ xs) (suc n) (suc k) h = let l : k < n = link-in xs n k h in omega arith

-- the payload of an entry that is a row's
pub row-bytes : (e : PlainEntry) (bytes : List ℕ) (links : List (Option ℕ)) → IsSome (payload_of (object_of e bytes links)) → payload_of (object_of e bytes links) ≡ Some (take (bytes_used e) bytes)
row-bytes (Row count link) bytes links h = refl
row-bytes (Directory count) bytes links h = absurd (false≢true h)
