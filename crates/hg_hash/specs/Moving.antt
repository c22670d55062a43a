-- The rows of a bucket are the same after other objects were placed, and after the heap was unlocked and
-- locked again, under other addresses.
use Rattle.std.specs.Prelude.{◌≡◌, ℕ, true, List, length, slice_index_or, Option, None, Some, option_map}
use Rattle.std.proofs.Common.{sym, ◌∙◌, ap}
use Rattle.hg_base.specs.Content.{Object, Objects, placed, directory, Standing, locked, unlocked, draining, Heap}
use Rattle.hg_base.specs.HeapContent.{with_object}
use Rattle.hg_base.specs.HeapFacts.{LeadsBelow}
use Rattle.hg_base.specs.HeapStates.{standing_of, of_locked, unlocked_from, told_objects, after_unlock, Locks}
use Rattle.hg_base.specs.Space.{Space}
use Rattle.hg_hash.specs.Buckets.{bucket, bucket_in, chain}
use Rattle.hg_hash.specs.Chains.{chain-placed}
use Rattle.hg_hash.specs.Changing.{some_page, placed-with, tabled-with}
use Rattle.hg_hash.specs.Tables.{Tabled, table_is, link_at, standing_with_any}

-- an object that is placed changes no bucket
pub bucket-placed : (o : Objects) (t : Tabled o.roots (placed o)) (x : Object) (k : ℕ) → LeadsBelow (length (placed o)) (link_at t.links k) → bucket (with_object o x) k ≡ bucket o k
bucket-placed o t x k below =
    ap (option_map (λ links. chain (placed (with_object o x)) (slice_index_or links k None))) (table_is (with_object o x) (tabled-with o t x))
    ∙ ap (λ objects. Some (chain objects (link_at t.links k))) (placed-with o x (some_page o.layout o.roots t.dir (directory t.links) t.there))
    ∙ ap Some (chain-placed (placed o) x (link_at t.links k) below)
    ∙ sym (ap (option_map (λ links. chain (placed o) (slice_index_or links k None))) (table_is o t))

-- the rows of a bucket of a heap that is not locked, where its objects are told
abbrev pub told_bucket : Option Standing → ℕ → Option (List (List ℕ))
told_bucket None k = None
told_bucket (Some (locked o frames)) k = bucket o k
told_bucket (Some (unlocked None)) k = None
told_bucket (Some (unlocked (Some o))) k = bucket o k
told_bucket (Some (draining payloads)) k = None

-- a heap that is locked again has the rows that it had
pub bucket-locked : (a b : Space) (h k : ℕ) → Locks a b h → a.told ≡ true → bucket_in b h k ≡ told_bucket (standing_of a h) k
bucket-locked a b h k l told =
    let was : standing_of a h ≡ Some (unlocked (Some l.objects)) =
    ap (option_map (λ (y : Heap). y.standing)) l.is ∙ ap Some (l.had ∙ ap (λ t. unlocked (told_objects t l.objects)) told) in
    ap (λ z. bucket_in z h k) l.after
    ∙ ap (of_locked (λ o frames. bucket o k)) (standing_with_any a h (λ _. locked l.objects l.frames) (unlocked (Some l.objects)) was)
    ∙ sym (ap (λ x. told_bucket x k) was)

-- and one that is unlocked keeps them
pub bucket-unlocked : (a : Space) (h k : ℕ) (o : Objects) (frames : List ℕ) → standing_of a h ≡ Some (locked o frames) → a.told ≡ true
    → told_bucket (standing_of (after_unlock a h) h) k ≡ bucket_in a h k
bucket-unlocked a h k o frames e told =
    ap (λ x. told_bucket x k) (standing_with_any a h (unlocked_from a.told) (locked o frames) e ∙ ap (λ t. Some (unlocked (told_objects t o))) told)
    ∙ sym (ap (of_locked (λ o frames. bucket o k)) e)
