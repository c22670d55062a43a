-- What the making of buckets does, from what the calls of the space say.
use Rattle.std.specs.Prelude.{◌≡◌, ℕ, ◌<◌, Bool, true, zero, suc, List, [], ◌∷◌, ◌++◌, length, map, reverse, slice_get, slice_set, slice_index_or, Option, None, Some, option_map, option_and_then}
use Rattle.std.proofs.Common.{sym, ◌∙◌, ap, refl, arith}
use Rattle.std.proofs.lemmas.Option.{none-some}
use Rattle.hg_base.specs.Content.{Object, directory, Objects, placed, locked}
use Rattle.hg_base.specs.HeapContent.{object_at, named_by, links_of, link_of, words_of, with_object, with_last, next_address, no_links}
use Rattle.hg_base.specs.HeapFacts.{AreHeaps}
use Rattle.hg_base.specs.HeapStates.{of_locked, standing_of, IsLocked, words_in, next_in, after_directory, after_root}
use Rattle.hg_base.specs.Space.{Space}
use Rattle.hg_hash.specs.Buckets.{OnlyRows, row_first, leads_to_row, row_of, links_at, table, bucket, OnlyObjects, bucket_in, chain}
use Rattle.hg_hash.specs.Chains.{reached-nothing}
use Rattle.hg_hash.specs.Changing.{placed-with}
use Rattle.hg_hash.specs.Tables.{Opened, opened, found, standing_after}
use Rattle.hg_hash.proofs.Adding.{IsOpen, open_as, last_link, only_objects}

-- a heap in which a directory was found has a page
some_page : (layout : List (List Object)) (roots : List (Option ℕ)) (x : Object) (p : Option ℕ) (f : List (Option ℕ) → List ℕ) (words : List ℕ)
    → option_map f (option_and_then links_of (option_and_then (slice_get (placed (record { layout = with_last layout x; roots = roots }))) p)) ≡ Some words → 0 < length layout
some_page [] roots x None f words e = absurd (none-some words e)
some_page [] roots x (Some n) f words e = absurd (none-some words e)
some_page (page ∷ pages) roots x p f words e = omega arith

many_none : (n : ℕ) → length (no_links n) ≡ n
many_none zero = refl
many_none (suc n) = ap (λ k. suc k) (many_none n)

none_at : (n k : ℕ) → slice_index_or (no_links n) k None ≡ None
none_at zero k = refl
none_at (suc n) zero = refl
none_at (suc n) (suc k) = none_at n k

get-last : (xs : List Object) (x : Object) → slice_get (xs ++ x ∷ []) (length xs) ≡ Some x
get-last [] x = refl
get-last (y ∷ xs) x = get-last xs x

links_set : (roots : List (Option ℕ)) (n : ℕ) (objects : List Object) → 0 < length roots → links_at (slice_set roots 0 (Some n)) objects ≡ option_and_then links_of (slice_get objects n)
links_set [] n objects h = absurd (omega arith)
links_set (r ∷ roots) n objects h = refl

-- A directory is placed, and root 0 is set to it.
pub record Directs (s t : Space) (h n dir : ℕ) (words : List ℕ) : Type 0 where
  pub heaps : AreHeaps s
  pub is_locked : IsLocked s h
  pub after : t ≡ after_directory s h n
  pub heaps_after : AreHeaps t
  pub dir_word : next_in s h ≡ Some dir
  pub there : words_in t h dir ≡ Some words

abbrev pub dir_placed : Objects → ℕ → Objects
dir_placed o n = with_object o (directory (no_links n))

abbrev pub rooted : Objects → ℕ → Objects
rooted o n = record (dir_placed o n) { roots = slice_set o.roots 0 (Some (length (placed o))) }

standing_between : (s t : Space) (h n dir : ℕ) (words : List ℕ) (p : Directs s t h n dir words) (w : Opened s h) → standing_of t h ≡ Some (locked (dir_placed w.objects n) w.frames)
standing_between s t h n dir words p w =
    ap (λ z. standing_of z h) p.after ∙ standing_after s h (λ o frames. with_object o (directory (no_links n))) w.objects w.frames (found s h w)

has_page : (s t : Space) (h n dir : ℕ) (words : List ℕ) (p : Directs s t h n dir words) (w : Opened s h) → 0 < length w.objects.layout
has_page s t h n dir words p w =
    let o : Objects = dir_placed w.objects n in
    some_page w.objects.layout w.objects.roots (directory (no_links n)) (named_by o w.frames dir) (words_of o w.frames) words
    (sym (ap (of_locked (λ o frames. option_map (words_of o frames) (option_and_then links_of (object_at o frames dir)))) (standing_between s t h n dir words p w)) ∙ p.there)

standing_last : (s t u : Space) (h n dir : ℕ) (words : List ℕ) (p : Directs s t h n dir words) (w : Opened s h) → u ≡ after_root t h 0 dir → standing_of u h ≡ Some (locked (rooted w.objects n) w.frames)
standing_last s t u h n dir words p w e =
    let o : Objects = dir_placed w.objects n in
    let between = standing_between s t h n dir words p w in
    let both : IsOpen o w.frames = open_as t h o w.frames p.heaps_after between in
    let next : ◌≡◌ {A = Option ℕ} (Some (next_address w.objects.layout w.frames)) (Some dir) =
    sym (ap (of_locked (λ o frames. Some (next_address o.layout frames))) (found s h w)) ∙ p.dir_word in
    let at : next_address w.objects.layout w.frames ≡ dir = cc in
    let link : link_of o w.frames dir ≡ Some (length (placed w.objects)) =
    ap (link_of o w.frames) (sym at) ∙ last_link w.objects w.frames (directory (no_links n)) w.names both.names (has_page s t h n dir words p w) in
    ap (λ z. standing_of z h) e
    ∙ standing_after t h (λ o frames. record o { roots = slice_set o.roots 0 (link_of o frames dir) }) o w.frames between
    ∙ ap (λ l. Some (locked (record o { roots = slice_set o.roots 0 l }) w.frames)) link

table_last : (s t u : Space) (h n dir : ℕ) (words : List ℕ) (p : Directs s t h n dir words) (w : Opened s h) → table (rooted w.objects n) ≡ Some (no_links n)
table_last s t u h n dir words p w =
    let x : Object = directory (no_links n) in
    let four = w.well.four in
    links_set w.objects.roots (length (placed w.objects)) (placed (dir_placed w.objects n)) (omega arith)
    ∙ ap (λ xs. option_and_then links_of (slice_get xs (length (placed w.objects)))) (placed-with w.objects x (has_page s t h n dir words p w))
    ∙ ap (option_and_then links_of) (get-last (placed w.objects) x)

-- What is said of both together.
pub record Makes (s u : Space) (h n : ℕ) : Type 0 where
  pub buckets : of_locked (λ o frames. option_map length (table o)) (standing_of u h) ≡ Some n
  pub empty : (k : ℕ) → k < 256 → bucket_in u h k ≡ Some []
  pub only_rows : OnlyRows u h
  pub only : OnlyObjects s u h

pub makes : (s t u : Space) (h n dir : ℕ) (words : List ℕ) → Directs s t h n dir words → u ≡ after_root t h 0 dir → Makes s u h n
makes s t u h n dir words p e =
    let w : Opened s h = opened s h p.heaps p.is_locked in
    let last = standing_last s t u h n dir words p w e in
    let links = table_last s t u h n dir words p w in
    record {
      buckets = ap (of_locked (λ o frames. option_map length (table o))) last ∙ ap (option_map length) links ∙ ap Some (many_none n);
      empty = λ k l.
          ap (of_locked (λ o frames. bucket o k)) last
          ∙ ap (option_map (λ ls. chain (placed (rooted w.objects n)) (slice_index_or ls k None))) links
          ∙ ap (λ link. Some (chain (placed (rooted w.objects n)) link)) (none_at n k)
          ∙ ap Some (reached-nothing (reverse (map row_of (placed (rooted w.objects n)))));
      only_rows = λ k l.
          ap (of_locked (λ o frames. row_first o k)) last
          ∙ ap (option_map (λ ls. leads_to_row (placed (rooted w.objects n)) (slice_index_or ls k None))) links
          ∙ ap (λ link. Some (leads_to_row (placed (rooted w.objects n)) link)) (none_at n k);
      only = only_objects s t u h w (λ o frames. with_object o (directory (no_links n))) (λ o frames. record o { roots = slice_set o.roots 0 (link_of o frames dir) }) p.after e;
    }
