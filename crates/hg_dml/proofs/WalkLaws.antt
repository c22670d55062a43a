-- Where a walk along a table stands that deletes what it finds.
use Rattle.std.specs.Prelude.{◌≡◌, ℕ, zero, suc, ◌+◌, ◌-◌, ◌*◌, ◌<◌, ◌≤◌, ◌⊎◌, ◌==◌, ◌&&◌, Bool, true, false, List, [], ◌∷◌, ◌++◌, length, Option, Some, None, IsTrue, IsSome, if◌then◌else◌}
use Rattle.std.specs.List.{AllByRecursion, filter, count_by}
use Rattle.std.proofs.Common.{sym, ◌∙◌, ap, subst, refl, arith, inl, inr, append_assoc, length-append}
use Rattle.std.proofs.lemmas.Bool.{false≢true}
use Rattle.std.proofs.lemmas.Bool.Decides.{nat_tests}
use Rattle.std.proofs.lemmas.List.{append-nil}
use Rattle.std.proofs.lemmas.List.Elements.{filter-append}
use Rattle.std.proofs.lemmas.List.Sums.{length-filter}
use Rattle.hg_base.specs.Causes.{HasCause}
use Rattle.hg_base.specs.Lines.{NoneMine, has_page}
use Rattle.hg_base.specs.Space.{Space, NoPins, taken_in}
use Rattle.hg_base.specs.Steadiness.{Mine, Steady}
use Rattle.hg_base.specs.SteadyLaws.{HasCause_behind, HasCause_none}
use Rattle.hg_base.specs.TakenLaws.{AreDistinctPages-few}
use Rattle.hg_base.specs.declared.File.TheVariants.{Main}
use Rattle.hg_base.specs.declared.PageId.{PageId}
use Rattle.hg_base.specs.declared.Place.{Place}
use Rattle.hg_base.specs.declared.Table.{Table}
use Rattle.hg_base.specs.declared.pages.PageFault.{PageFault}
use Rattle.hg_base.specs.declared.pages.PageFault.TheVariants as fault
use Rattle.hg_model.specs.Tables.{fits_columns}
use Rattle.hg_model.specs.declared.trees.Column.{Column}
use Rattle.hg_model.specs.declared.values.Value.{Value}
use Rattle.hg_table.specs.Agreement.{IsTableOver, FitsColumns, over_stays, over_killed}
use Rattle.hg_table.specs.Calls.{none_mine, HasVersion, HasWay, StandsOn, NamesPage, NamesOneOf, main_page}
use Rattle.hg_table.specs.Chains.{IsChain}
use Rattle.hg_table.specs.Places.{behind, first_seen, Finds, is_at, killed, killed_at, version_at}
use Rattle.hg_table.specs.Sightings.{IsUnseen, IsFirstOf, first-of, none-of}
use Rattle.hg_table.specs.TableLaws.{chain_stays, version_at-here, behind-here, killed-here}
use Rattle.hg_table.specs.Versions.{Placed, RowVersion, IsTable, in_slot, in_slots, in_pages, most_slots}
use Rattle.hg_dml.specs.Deleting.{dead, deleted_at, deleted, Concerns, IsHidden, IsDeleted}
use Rattle.hg_dml.specs.Inserting.{StandsOver}
use Rattle.hg_table.specs.Seen.{is_seen, row_of, seen_rows}
use Rattle.hg_table.specs.SeenLaws.{seen_rows-append}
use Rattle.hg_dml.specs.Walks.{HasEnded, HasStopped}
use Rattle.hg_dml.proofs.DeletedLaws.{deleted-seen, deleted-kept, none-deleted, deleted-append, hidden-first, going-unseen, going-next, deleted-all, all-append}
use Rattle.hg_dml.proofs.PutLaws.{none-mine}

pub one-less : (n : ℕ) → 0 < n → n - 1 < n
one-less zero h = absurd (omega arith)
one-less (suc n) h = omega arith

pub counted-few : (n m turn : ℕ) (gone : Bool) → n ≤ turn → m ≡ n + (if gone then 1 else 0) → m ≤ turn + 1
counted-few n m turn true h e = omega arith
counted-few n m turn false h e = omega arith

-- ---- a walk

-- Versions that were looked at, and what they are now: the first ones died where they go, and once a cause
-- was known, the others were left.
pub record IsPartly (c : ℕ → Bool) (s stamp : ℕ) (goes : List Value → Bool) (known : Bool) (done now : List Placed) : Type 0 where
  pub first : List Placed
  pub rest : List Placed
  pub was : done ≡ first ++ rest
  pub is : now ≡ deleted c s stamp goes first ++ rest
  pub all : known ≡ false → rest ≡ []

-- Versions of a table were looked at; the others are left. `gone` are the rows that go so far.
pub record HasWalked (b : Space) (t : Table) (columns : List Column) (c : ℕ → Bool) (s stamp : ℕ) (goes : List Value → Bool) (known : Bool) (pages : List ℕ) (versions : List Placed) (at : Option Place) (turns : ℕ) (gone : List (List Value)) : Type 0 where
  pub done : List Placed
  pub now : List Placed
  pub left : List Placed
  pub split : versions ≡ done ++ left
  pub partly : IsPartly c s stamp goes known done now
  pub table : IsTableOver b t columns pages (now ++ left)
  pub behind : behind pages at (now ++ left) ≡ left
  pub concerned : gone ≡ filter goes (seen_rows c s done)
  pub passed : turns ≤ length done

pub record WalkedSoFar (a b : Space) (t : Table) (columns : List Column) (c : ℕ → Bool) (s stamp : ℕ) (goes : List Value → Bool) (known : Bool) (at : Option Place) (turns : ℕ) (gone : List (List Value)) : Type 0 where
  pub on : (pages : List ℕ) → IsChain a t pages → IsChain b t pages × StandsOn pages at
  pub cause : HasCause a b None
  pub told : b.told ≡ a.told
  pub pins : NoPins b
  pub each : AllByRecursion (Concerns columns goes) gone
  pub walked : (pages : List ℕ) (versions : List Placed) → IsTableOver a t columns pages versions → HasWalked b t columns c s stamp goes known pages versions at turns gone

-- The next version that is seen was found.
pub record HasFound (b : Space) (t : Table) (columns : List Column) (c : ℕ → Bool) (s stamp : ℕ) (goes : List Value → Bool) (known : Bool) (pages : List ℕ) (versions : List Placed) (place : Place) (row : List Value) (turns : ℕ) (gone : List (List Value)) : Type 0 where
  pub done : List Placed
  pub now : List Placed
  pub before : List Placed
  pub v : Placed
  pub left : List Placed
  pub split : versions ≡ done ++ (before ++ v ∷ left)
  pub partly : IsPartly c s stamp goes known done now
  pub table : IsTableOver b t columns pages ((now ++ before) ++ v ∷ left)
  pub unseen : AllByRecursion (IsUnseen c s) before
  pub seen : is_seen c s v ≡ true
  pub same_place : place ≡ v.place
  pub same_row : row ≡ row_of v
  pub concerned : gone ≡ filter goes (seen_rows c s done)
  pub passed : turns ≤ length done

pub record FoundNext (a b : Space) (t : Table) (columns : List Column) (c : ℕ → Bool) (s stamp : ℕ) (goes : List Value → Bool) (known : Bool) (place : Place) (row : List Value) (turns : ℕ) (gone : List (List Value)) : Type 0 where
  pub on : (pages : List ℕ) → IsChain a t pages → IsChain b t pages × IsTrue (has_page pages place.page)
  pub cause : HasCause a b None
  pub told : b.told ≡ a.told
  pub pins : NoPins b
  pub each : AllByRecursion (Concerns columns goes) gone
  pub found : (pages : List ℕ) (versions : List Placed) → IsTableOver a t columns pages versions → HasFound b t columns c s stamp goes known pages versions place row turns gone

module _ (c : ℕ → Bool) (s stamp : ℕ) (goes : List Value → Bool) where
  partly-done : (done now : List Placed) → IsPartly c s stamp goes false done now → now ≡ deleted c s stamp goes done
  partly-done done now p =
      p.is ∙ ap (λ l. deleted c s stamp goes p.first ++ l) (p.all refl) ∙ append-nil (deleted c s stamp goes p.first)
      ∙ ap (deleted c s stamp goes) (sym (p.was ∙ ap (λ l. p.first ++ l) (p.all refl) ∙ append-nil p.first))

  -- more were looked at, and those that go died
  partly-more : (done now xs ys : List Placed) → IsPartly c s stamp goes false done now → deleted c s stamp goes xs ≡ ys
      → IsPartly c s stamp goes false (done ++ xs) (now ++ ys)
  partly-more done now xs ys p is = record {
    first = done ++ xs;
    rest = [];
    was = sym (append-nil (done ++ xs));
    is = ap (λ l. l ++ ys) (partly-done done now p) ∙ ap (λ l. deleted c s stamp goes done ++ l) (sym is) ∙ sym (deleted-append c s stamp goes done xs)
        ∙ sym (append-nil (deleted c s stamp goes (done ++ xs)));
    all = λ e. refl;
  }

  -- more were looked at, and are as they were
  partly-left : (known : Bool) (done now xs : List Placed) → IsPartly c s stamp goes known done now → IsPartly c s stamp goes true (done ++ xs) (now ++ xs)
  partly-left known done now xs p = record {
    first = p.first;
    rest = p.rest ++ xs;
    was = ap (λ l. l ++ xs) p.was ∙ append_assoc p.first p.rest xs;
    is = ap (λ l. l ++ xs) p.is ∙ append_assoc (deleted c s stamp goes p.first) p.rest xs;
    all = λ e. absurd (false≢true (sym e));
  }

  -- the same where none of them goes
  partly-stay : (known : Bool) (done now xs : List Placed) → IsPartly c s stamp goes known done now → deleted c s stamp goes xs ≡ xs
      → IsPartly c s stamp goes known (done ++ xs) (now ++ xs)
  partly-stay false done now xs p is = partly-more done now xs xs p is
  partly-stay true done now xs p is = partly-left true done now xs p

  partly-hidden : (known : Bool) (done now left : List Placed) → IsPartly c s stamp goes known done now → IsHidden c s stamp (done ++ left) (now ++ left)
  partly-hidden known done now left p =
      subst (λ o. IsHidden c s stamp o (now ++ left)) (sym (ap (λ l. l ++ left) p.was ∙ append_assoc p.first p.rest left))
      (subst (IsHidden c s stamp (p.first ++ (p.rest ++ left))) (sym (ap (λ l. l ++ left) p.is ∙ append_assoc (deleted c s stamp goes p.first) p.rest left))
      (hidden-first c s stamp goes p.first (p.rest ++ left)))

  partly-ends : (b : Space) (t : Table) (columns : List Column) (known : Bool) (pages : List ℕ) (versions done now left : List Placed) (gone : List (List Value))
      → s < stamp → versions ≡ done ++ left → IsPartly c s stamp goes known done now → IsTableOver b t columns pages (now ++ left) → AllByRecursion (IsUnseen c s) left
      → gone ≡ filter goes (seen_rows c s done) → HasEnded b t columns c s stamp goes known pages versions gone
  partly-ends b t columns known pages versions done now left gone before split p table none concerned =
      let all : gone ≡ filter goes (seen_rows c s (done ++ left)) = concerned ∙ sym (going-unseen c s stamp goes done left none) in
      record {
        now = now ++ left;
        table = table;
        hidden = subst (λ o. IsHidden c s stamp o (now ++ left)) (sym split) (partly-hidden known done now left p);
        concerned = all ∙ ap (λ vs. filter goes (seen_rows c s vs)) (sym split);
        deleted = λ e.
            subst (λ o. IsDeleted c s stamp goes o (now ++ left) (length gone)) (sym split)
            (subst (λ l. IsDeleted c s stamp goes (done ++ left) (l ++ left) (length gone)) (sym (partly-done done now (subst (λ k. IsPartly c s stamp goes k done now) e p)))
            (deleted-all c s stamp goes done left (length gone) before none (ap length all)));
      }

  -- a part of the rows that go
  few-going : (xs ys : List Placed) (gone : List (List Value)) → gone ≡ filter goes (seen_rows c s xs) → length gone ≤ count_by goes (seen_rows c s (xs ++ ys))
  few-going xs ys gone is =
      let parts : count_by goes (seen_rows c s (xs ++ ys)) ≡ length (filter goes (seen_rows c s xs)) + length (filter goes (seen_rows c s ys)) =
      sym (length-filter goes (seen_rows c s (xs ++ ys)))
      ∙ ap (λ l. length (filter goes l)) (seen_rows-append c s xs ys) ∙ ap length (filter-append goes (seen_rows c s xs) (seen_rows c s ys))
      ∙ length-append (filter goes (seen_rows c s xs)) (filter goes (seen_rows c s ys)) in
      let same : length gone ≡ length (filter goes (seen_rows c s xs)) = ap length is in
      omega arith

module _ (a : Space) (t : Table) (columns : List Column) (c : ℕ → Bool) (s stamp : ℕ) (goes : List Value → Bool) where
  abbrev SoFar : Space → Bool → Option Place → ℕ → List (List Value) → Type 0
  SoFar b known at turns gone = WalkedSoFar a b t columns c s stamp goes known at turns gone

  pub walk-begins : (known : Bool) → NoPins a → SoFar a known None 0 []
  walk-begins known pins = record {
    on = λ pages chain. (chain, tt);
    cause = HasCause_none a a refl;
    told = refl;
    pins = pins;
    each = tt;
    walked = λ pages versions table. record {
      done = [];
      now = [];
      left = versions;
      split = refl;
      partly = record { first = []; rest = []; was = refl; is = refl; all = λ e. refl };
      table = table;
      behind = refl;
      concerned = refl;
      passed = omega arith;
    };
  }

  -- what the search asks
  pub way-on : (b : Space) (known : Bool) (at : Option Place) (turns : ℕ) (gone : List (List Value)) → StandsOver a t columns → SoFar b known at turns gone → HasWay b t (length columns) at
  way-on b known at turns gone whole w =
      let here = w.on whole.pages whole.chain in
      record {
        pages = whole.pages;
        chain = here.0;
        on = here.1;
        rows = λ told.
            let old = whole.whole (sym w.told ∙ told) in
            let h = w.walked whole.pages old.0 old.1 in
            (h.now ++ h.left, h.table.table);
      }

  -- a search went on from the place
  module _ (b d : Space) (known : Bool) (at : Option Place) (turns : ℕ) (gone : List (List Value)) (w : SoFar b known at turns gone) (steady : Steady none_mine b d) where
    pub looked : (pages : List ℕ) → IsChain a t pages → IsChain d t pages
    looked pages chain = chain_stays none_mine b d t pages steady (none-mine pages) (w.on pages chain).0

    still : (pages : List ℕ) (versions : List Placed) → IsTableOver b t columns pages versions → IsTableOver d t columns pages versions
    still pages versions table = over_stays none_mine b d t columns pages versions steady (none-mine pages) table

    -- what the search finds of what is left
    finds : (found : Option Place) (old new : List Value)
        → ((pages : List ℕ) (versions : List Placed) → IsTable b t (length columns) pages versions → Finds (first_seen c s (behind pages at versions)) found old new)
        → (pages : List ℕ) (versions : List Placed) → IsTableOver a t columns pages versions → (h : HasWalked b t columns c s stamp goes known pages versions at turns gone)
        → Finds (first_seen c s h.left) found old new
    finds found old new seen pages versions table h =
        subst (λ l. Finds (first_seen c s l) found old new) h.behind (seen pages (h.now ++ h.left) h.table.table)

    found-some : (f : Option Placed) (vs : List Placed) (place : Place) (old new : List Value) → first_seen c s vs ≡ f → Finds f (Some place) old new
        → (v : Placed) × IsFirstOf c s vs v × (place ≡ v.place) × (new ≡ row_of v)
    found-some None vs place old new is h = absurd (let n : ◌≡◌ {A = Option Place} (Some place) None = h.0 in cc)
    found-some (Some v) vs place old new is h = (v, first-of c s vs v is, (let e : ◌≡◌ {A = Option Place} (Some place) (Some v.place) = h.0 in cc), h.1)

    found-none : (f : Option Placed) (vs : List Placed) (old new : List Value) → first_seen c s vs ≡ f → Finds f None old new → AllByRecursion (IsUnseen c s) vs
    found-none None vs old new is h = none-of c s vs is
    found-none (Some v) vs old new is h = absurd (let n : ◌≡◌ {A = Option Place} None (Some v.place) = h.0 in cc)

    pub walk-found : (found : Option Place) (place : Place) (old new : List Value) → found ≡ Some place
        → ((pages : List ℕ) (versions : List Placed) → IsTable b t (length columns) pages versions → Finds (first_seen c s (behind pages at versions)) found old new)
        → ((pages : List ℕ) → IsChain b t pages → StandsOn pages found) → HasCause b d None
        → FoundNext a d t columns c s stamp goes known place new turns gone
    walk-found found place old new is seen on cause = record {
      on = λ pages chain. (looked pages chain, subst (StandsOn pages) is (on pages (w.on pages chain).0));
      cause = HasCause_behind a b d None w.told w.cause cause;
      told = steady.told ∙ w.told;
      pins = steady.pins_after;
      each = w.each;
      found = λ pages versions table.
          let h = w.walked pages versions table in
          let f = found-some (first_seen c s h.left) h.left place old new refl (subst (λ o. Finds (first_seen c s h.left) o old new) is (finds found old new seen pages versions table h)) in
          record {
            done = h.done;
            now = h.now;
            before = f.1.before;
            v = f.0;
            left = f.1.left;
            split = h.split ∙ ap (λ l. h.done ++ l) f.1.is;
            partly = h.partly;
            table = subst (λ l. IsTableOver d t columns pages l)
                (ap (λ l. h.now ++ l) f.1.is ∙ sym (append_assoc h.now f.1.before (f.0 ∷ f.1.left)))
                (still pages (h.now ++ h.left) h.table);
            unseen = f.1.unseen;
            seen = f.1.seen;
            same_place = f.2;
            same_row = f.3;
            concerned = h.concerned;
            passed = h.passed;
          };
    }

    -- no version that is seen is left
    pub walk-ends : (found : Option Place) (old new : List Value) → found ≡ None → s < stamp
        → ((pages : List ℕ) (versions : List Placed) → IsTable b t (length columns) pages versions → Finds (first_seen c s (behind pages at versions)) found old new)
        → (pages : List ℕ) (versions : List Placed) → IsTableOver a t columns pages versions → HasEnded d t columns c s stamp goes known pages versions gone
    walk-ends found old new is before seen pages versions table =
        let h = w.walked pages versions table in
        let none = found-none (first_seen c s h.left) h.left old new refl (subst (λ o. Finds (first_seen c s h.left) o old new) is (finds found old new seen pages versions table h)) in
        partly-ends c s stamp goes d t columns known pages versions h.done h.now h.left gone before h.split h.partly (still pages (h.now ++ h.left) h.table) none h.concerned

    -- the search failed
    pub walk-stops : (pages : List ℕ) (versions : List Placed) → IsTableOver a t columns pages versions → HasStopped d t columns c s stamp goes pages versions gone
    walk-stops pages versions table =
        let h = w.walked pages versions table in
        record {
          now = h.now ++ h.left;
          table = still pages (h.now ++ h.left) h.table;
          hidden = subst (λ vs. IsHidden c s stamp vs (h.now ++ h.left)) (sym h.split) (partly-hidden c s stamp goes known h.done h.now h.left h.partly);
          few = subst (λ vs. length gone ≤ count_by goes (seen_rows c s vs)) (sym h.split) (few-going c s stamp goes h.done h.left gone h.concerned);
        }

  -- ---- one step

  at-itself : (v : Placed) → is_at v.place v ≡ true
  at-itself v =
      let page : (v.place.page == v.place.page) ≡ true = grind (arith, nat_tests) in
      let slot : (v.place.slot == v.place.slot) ≡ true = grind (arith, nat_tests) in
      ap (λ b. b && (v.place.slot == v.place.slot)) page ∙ slot

  killed-itself : (v : Placed) → killed_at v.place stamp v ≡ dead stamp v
  killed-itself v = ap (λ b. if b then record v { version = record v.version { died = Some stamp } } else v) (at-itself v)

  fits-middle : (xs : List Placed) (v : Placed) (ys : List Placed) → AllByRecursion (FitsColumns columns) (xs ++ v ∷ ys) → FitsColumns columns v
  fits-middle [] v ys h = h.0
  fits-middle (x ∷ xs) v ys h = fits-middle xs v ys h.1

  -- what is before the version and the version itself, when they were looked at
  one-deleted : (before : List Placed) (v w : Placed) → AllByRecursion (IsUnseen c s) before → deleted_at c s stamp goes v ≡ w
      → deleted c s stamp goes (before ++ v ∷ []) ≡ before ++ w ∷ []
  one-deleted before v w none is =
      deleted-append c s stamp goes before (v ∷ []) ∙ ap (λ l. l ++ deleted c s stamp goes (v ∷ [])) (none-deleted c s stamp goes before none) ∙ ap (λ x. before ++ x ∷ []) is

  split-one : (done before : List Placed) (v : Placed) (left : List Placed) → done ++ (before ++ v ∷ left) ≡ (done ++ (before ++ v ∷ [])) ++ left
  split-one done before v left =
      sym (append_assoc done before (v ∷ left)) ∙ sym (append_assoc (done ++ before) (v ∷ []) left) ∙ ap (λ l. l ++ left) (append_assoc done before (v ∷ []))

  same-list : (now before : List Placed) (w : Placed) (left : List Placed) → (now ++ (before ++ w ∷ [])) ++ left ≡ (now ++ before) ++ w ∷ left
  same-list now before w left =
      ap (λ l. l ++ left) (sym (append_assoc now before (w ∷ []))) ∙ append_assoc (now ++ before) (w ∷ []) left

  module _ (b : Space) (known : Bool) (place : Place) (row : List Value) (turns : ℕ) (gone : List (List Value)) where
    abbrev Found : List ℕ → List Placed → Type 0
    Found pages versions = HasFound b t columns c s stamp goes known pages versions place row turns gone

    -- the rows that go, with this one
    more-gone : (pages : List ℕ) (versions : List Placed) (h : Found pages versions) (goes_on : List (List Value)) → (if goes row then row ∷ [] else []) ≡ goes_on
        → gone ++ goes_on ≡ filter goes (seen_rows c s (h.done ++ (h.before ++ h.v ∷ [])))
    more-gone pages versions h more is =
        ap (λ g. g ++ more) h.concerned
        ∙ ap (λ m. filter goes (seen_rows c s h.done) ++ m) (sym is ∙ ap (λ r. if goes r then r ∷ [] else []) h.same_row)
        ∙ sym (going-next c s stamp goes h.done h.before h.v h.unseen h.seen)
        ∙ ap (λ l. filter goes (seen_rows c s l)) (append_assoc h.done h.before (h.v ∷ []))

    step-walked : (d : Space) (after : Bool) (w : Placed) (more : List (List Value)) (pages : List ℕ) (versions : List Placed) (h : Found pages versions)
        → w.place ≡ h.v.place → IsTableOver d t columns pages ((h.now ++ h.before) ++ w ∷ h.left)
        → IsPartly c s stamp goes after (h.done ++ (h.before ++ h.v ∷ [])) (h.now ++ (h.before ++ w ∷ []))
        → (if goes row then row ∷ [] else []) ≡ more
        → HasWalked d t columns c s stamp goes after pages versions (Some place) (turns + 1) (gone ++ more)
    step-walked d after w more pages versions h same table partly is = record {
      done = h.done ++ (h.before ++ h.v ∷ []);
      now = h.now ++ (h.before ++ w ∷ []);
      left = h.left;
      split = h.split ∙ split-one h.done h.before h.v h.left;
      partly = partly;
      table = subst (IsTableOver d t columns pages) (sym (same-list h.now h.before w h.left)) table;
      behind = ap (λ l. behind pages (Some place) l) (same-list h.now h.before w h.left)
          ∙ ap (λ p. behind pages (Some p) ((h.now ++ h.before) ++ w ∷ h.left)) (h.same_place ∙ sym same)
          ∙ behind-here d t (length columns) pages (h.now ++ h.before) w h.left table.table;
      concerned = more-gone pages versions h more is;
      passed = let was = h.passed in omega (arith, length-append h.done (h.before ++ h.v ∷ []), length-append h.before (h.v ∷ []));
    }

    -- the version died
    killed-over : (d : Space) (pages : List ℕ) (versions : List Placed) (h : Found pages versions)
        → ((k : ℕ) (ps : List ℕ) (vs : List Placed) → IsTable b t k ps vs → IsTable d t k ps (killed place stamp vs))
        → IsTableOver d t columns pages ((h.now ++ h.before) ++ dead stamp h.v ∷ h.left)
    killed-over d pages versions h kills =
        let xs : List Placed = h.now ++ h.before in
        let now : killed place stamp (xs ++ h.v ∷ h.left) ≡ xs ++ dead stamp h.v ∷ h.left =
        ap (λ p. killed p stamp (xs ++ h.v ∷ h.left)) h.same_place
        ∙ killed-here b t (length columns) pages stamp xs h.v h.left h.table.table ∙ ap (λ w. xs ++ w ∷ h.left) (killed-itself h.v) in
        subst (IsTableOver d t columns pages) now
        (over_killed d t columns pages (xs ++ h.v ∷ h.left) place stamp h.table.fit (kills (length columns) pages (xs ++ h.v ∷ h.left) h.table.table))

    -- a row that stays
    pub step-stays : (d : Space) (pages : List ℕ) (versions : List Placed) (h : Found pages versions) → goes row ≡ false
        → IsTableOver d t columns pages ((h.now ++ h.before) ++ h.v ∷ h.left) → HasWalked d t columns c s stamp goes known pages versions (Some place) (turns + 1) gone
    step-stays d pages versions h stays table =
        subst (HasWalked d t columns c s stamp goes known pages versions (Some place) (turns + 1)) (append-nil gone)
        (step-walked d known h.v [] pages versions h refl table
        (partly-stay c s stamp goes known h.done h.now (h.before ++ h.v ∷ []) h.partly
        (one-deleted h.before h.v h.v h.unseen (deleted-kept c s stamp goes h.v h.seen (ap goes (sym h.same_row) ∙ stays))))
        (ap (λ b. if b then row ∷ [] else []) stays))

    -- a row that goes, where a cause is known
    pub step-spared : (d : Space) (pages : List ℕ) (versions : List Placed) (h : Found pages versions) → goes row ≡ true
        → IsTableOver d t columns pages ((h.now ++ h.before) ++ h.v ∷ h.left) → HasWalked d t columns c s stamp goes true pages versions (Some place) (turns + 1) (gone ++ row ∷ [])
    step-spared d pages versions h going table =
        step-walked d true h.v (row ∷ []) pages versions h refl table
        (partly-left c s stamp goes known h.done h.now (h.before ++ h.v ∷ []) h.partly) (ap (λ b. if b then row ∷ [] else []) going)

    -- where none is
    pub step-killed : (d : Space) (pages : List ℕ) (versions : List Placed) (h : Found pages versions) → known ≡ false → goes row ≡ true
        → ((k : ℕ) (ps : List ℕ) (vs : List Placed) → IsTable b t k ps vs → IsTable d t k ps (killed place stamp vs))
        → HasWalked d t columns c s stamp goes false pages versions (Some place) (turns + 1) (gone ++ row ∷ [])
    step-killed d pages versions h none going kills =
        step-walked d false (dead stamp h.v) (row ∷ []) pages versions h refl (killed-over d pages versions h kills)
        (partly-more c s stamp goes h.done h.now (h.before ++ h.v ∷ []) (h.before ++ dead stamp h.v ∷ [])
        (subst (λ k. IsPartly c s stamp goes k h.done h.now) none h.partly)
        (one-deleted h.before h.v (dead stamp h.v) h.unseen (deleted-seen c s stamp goes h.v h.seen (ap goes (sym h.same_row) ∙ going))))
        (ap (λ b. if b then row ∷ [] else []) going)

    -- the step failed, and the version is as it was; `more` is its row, or none
    pub step-stops : (d : Space) (pages : List ℕ) (versions : List Placed) (h : Found pages versions) (more : List (List Value)) → (more ≡ []) ⊎ ((if goes row then row ∷ [] else []) ≡ more)
        → IsTableOver d t columns pages ((h.now ++ h.before) ++ h.v ∷ h.left) → HasStopped d t columns c s stamp goes pages versions (gone ++ more)
    step-stops d pages versions h more is table = record {
      now = (h.now ++ h.before) ++ h.v ∷ h.left;
      table = table;
      hidden =
          let whole : IsHidden c s stamp (h.done ++ (h.before ++ h.v ∷ h.left)) (h.now ++ (h.before ++ h.v ∷ h.left)) =
          partly-hidden c s stamp goes known h.done h.now (h.before ++ h.v ∷ h.left) h.partly in
          subst (λ vs. IsHidden c s stamp vs ((h.now ++ h.before) ++ h.v ∷ h.left)) (sym h.split)
          (subst (IsHidden c s stamp (h.done ++ (h.before ++ h.v ∷ h.left))) (sym (append_assoc h.now h.before (h.v ∷ h.left))) whole);
      few = elim is [
        | inl none ↦
            subst (λ vs. length (gone ++ more) ≤ count_by goes (seen_rows c s vs)) (sym h.split)
            (few-going c s stamp goes h.done (h.before ++ h.v ∷ h.left) (gone ++ more) (ap (λ m. gone ++ m) none ∙ append-nil gone ∙ h.concerned))
        | inr one ↦
            subst (λ vs. length (gone ++ more) ≤ count_by goes (seen_rows c s vs)) (sym (h.split ∙ split-one h.done h.before h.v h.left))
            (few-going c s stamp goes (h.done ++ (h.before ++ h.v ∷ [])) h.left (gone ++ more) (more-gone pages versions h more one))
      ];
    }

    module _ (f : FoundNext a b t columns c s stamp goes known place row turns gone) where
      -- what a step asks where the space tells
      module _ (whole : StandsOver a t columns) (told : b.told ≡ true) where
        old : (versions : List Placed) × IsTableOver a t columns whole.pages versions
        old = whole.whole (sym f.told ∙ told)

        there : HasFound b t columns c s stamp goes known whole.pages old.0 place row turns gone
        there = f.found whole.pages old.0 old.1

        pub there-is : HasVersion b t (length columns) place
        there-is = record {
          pages = whole.pages;
          versions = (there.now ++ there.before) ++ there.v ∷ there.left;
          table = there.table.table;
          there = subst (λ (p : Place). IsSome (version_at ((there.now ++ there.before) ++ there.v ∷ there.left) p)) (sym there.same_place)
              (subst IsSome (sym (version_at-here b t (length columns) whole.pages (there.now ++ there.before) there.v there.left there.table.table)) refl);
        }

        pub row-fits : fits_columns columns row ≡ true
        row-fits = ap (fits_columns columns) there.same_row ∙ fits-middle (there.now ++ there.before) there.v there.left there.table.fit

      -- a call that leaves the table's pages as they are
      pub found-stays : (m : Mine) (d : Space) → ((pages : List ℕ) → NoneMine Main m pages) → Steady m b d → HasCause b d None
          → FoundNext a d t columns c s stamp goes known place row turns gone
      found-stays m d apart steady cause = record {
        on = λ pages chain. let o = f.on pages chain in (chain_stays m b d t pages steady (apart pages) o.0, o.1);
        cause = HasCause_behind a b d None f.told f.cause cause;
        told = steady.told ∙ f.told;
        pins = steady.pins_after;
        each = f.each;
        found = λ pages versions table.
            let h = f.found pages versions table in
            record {
              done = h.done;
              now = h.now;
              before = h.before;
              v = h.v;
              left = h.left;
              split = h.split;
              partly = h.partly;
              table = over_stays m b d t columns pages ((h.now ++ h.before) ++ h.v ∷ h.left) steady (apart pages) h.table;
              unseen = h.unseen;
              seen = h.seen;
              same_place = h.same_place;
              same_row = h.same_row;
              concerned = h.concerned;
              passed = h.passed;
            };
      }

      -- the walk is behind the version; `more` is its row, where it goes
      pub walked-on : (d : Space) (after : Bool) (more : List (List Value)) (m : Mine) → ((pages : List ℕ) → IsChain b t pages → IsChain d t pages) → Steady m b d → HasCause b d None
          → AllByRecursion (Concerns columns goes) more
          → ((pages : List ℕ) (versions : List Placed) → Found pages versions → HasWalked d t columns c s stamp goes after pages versions (Some place) (turns + 1) (gone ++ more))
          → SoFar d after (Some place) (turns + 1) (gone ++ more)
      walked-on d after more m chain steady cause here step = record {
        on = λ pages old. let o = f.on pages old in (chain pages o.0, o.1);
        cause = HasCause_behind a b d None f.told f.cause cause;
        told = steady.told ∙ f.told;
        pins = steady.pins_after;
        each = all-append (Concerns columns goes) gone more f.each here;
        walked = λ pages versions table. step pages versions (f.found pages versions table);
      }

  pub one-page : (place : Place) (e : PageFault) (pages : List ℕ) → IsTrue (has_page pages place.page) → NamesPage place.page e → NamesOneOf pages e
  one-page place fault.MainFault pages on named = tt
  one-page place fault.TempFault pages on named = tt
  one-page place fault.MainFull pages on named = tt
  one-page place fault.TempFull pages on named = tt
  one-page place (fault.Damaged page check) pages on named =
      let same : page.no ≡ place.page = ap (λ (p : PageId). p.no) named in
      (named ∙ ap main_page (sym same), subst (λ k. IsTrue (has_page pages k)) (sym same) on)

  -- ---- as many turns as there may be versions

  length-slot : (x k : ℕ) (v : Option RowVersion) → length (in_slot x k v) ≤ 1
  length-slot x k None = omega arith
  length-slot x k (Some v) = omega arith

  length-slots : (x : ℕ) (held : ℕ → Option RowVersion) (k m : ℕ) → length (in_slots x held k m) ≤ m
  length-slots x held k zero = omega arith
  length-slots x held k (suc m) =
      omega (arith, length-append (in_slot x k (held k)) (in_slots x held (suc k) m), length-slot x k (held k), length-slots x held (suc k) m)

  slots-few : (x : ℕ) (held : ℕ → Option RowVersion) → length (in_slots x held 0 most_slots) ≤ 128
  unfolding most_slots
  slots-few x held = length-slots x held 0 128

  length-pages : (held : ℕ → ℕ → Option RowVersion) (pages : List ℕ) → length (in_pages held pages) ≤ length pages * 128
  length-pages held [] = omega arith
  length-pages held (x ∷ xs) =
      omega (arith, length-append (in_slots x (held x) 0 most_slots) (in_pages held xs), slots-few x (held x), length-pages held xs)

  few-versions : (pages : List ℕ) (versions : List Placed) → IsTableOver a t columns pages versions → length versions ≤ taken_in a Main * 128
  few-versions pages versions table =
      let listed : length versions ≤ length pages * 128 = subst (λ vs. length vs ≤ length pages * 128) (sym table.table.listed) (length-pages table.table.held pages) in
      let few : length pages ≤ taken_in a Main = AreDistinctPages-few a.taken Main (a.limit Main) pages table.table.chain.line.taken in
      omega (arith, listed, few)

  nothing : (xs : List Placed) → length xs ≤ 0 → xs ≡ []
  nothing [] h = refl
  nothing (x ∷ xs) h = absurd (omega arith)

  -- then none is left
  pub walk-over : (b : Space) (known : Bool) (at : Option Place) (turns : ℕ) (gone : List (List Value)) → s < stamp → SoFar b known at turns gone → taken_in a Main * 128 ≤ turns
      → (pages : List ℕ) (versions : List Placed) → IsTableOver a t columns pages versions → HasEnded b t columns c s stamp goes known pages versions gone
  walk-over b known at turns gone before w all pages versions table =
      let h = w.walked pages versions table in
      let none : h.left ≡ [] = nothing h.left
      (omega (arith, few-versions pages versions table, ap length h.split, length-append h.done h.left, h.passed, all)) in
      partly-ends c s stamp goes b t columns known pages versions h.done h.now h.left gone before h.split h.partly h.table (subst (AllByRecursion (IsUnseen c s)) (sym none) tt) h.concerned
