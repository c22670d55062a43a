-- Where a DELETE stands: a walk that writes the pages of its table and nothing else.
use Rattle.std.specs.Prelude.{◌≡◌, ℕ, ◌+◌, ◌*◌, ◌<◌, ◌≤◌, Bool, true, false, List, [], ◌∷◌, ◌++◌, length, Option, Some, None, IsTrue, if◌then◌else◌}
use Rattle.std.specs.List.{AllByRecursion}
use Rattle.std.proofs.Common.{sym, ◌∙◌, ap, subst, refl, arith, inl, length-append}
use Rattle.std.proofs.lemmas.Bool.{false≢true, false_from_ne_true}
use Rattle.std.proofs.lemmas.List.{append-nil}
use Rattle.hg_base.specs.Causes.{HasCause}
use Rattle.hg_base.specs.Lines.{has_page}
use Rattle.hg_base.specs.Space.{Space, NoPins, taken_in}
use Rattle.hg_base.specs.Steadiness.{Steady}
use Rattle.hg_base.specs.SteadyLaws.{Later_same, Steady_same, Steady_then, Steady_wider, HasCause_behind, main_failed, temp_failed}
use Rattle.hg_base.specs.declared.Check.{Check}
use Rattle.hg_base.specs.declared.File.TheVariants.{Main}
use Rattle.hg_base.specs.declared.PageId.{PageId}
use Rattle.hg_base.specs.declared.Place.{Place}
use Rattle.hg_base.specs.declared.Table.{Table}
use Rattle.hg_base.specs.declared.pages.PageFault.{PageFault}
use Rattle.hg_base.specs.declared.pages.PageFault.TheVariants as fault
use Rattle.hg_model.specs.Tables.{fits_columns}
use Rattle.hg_model.specs.declared.trees.Column.{Column}
use Rattle.hg_model.specs.declared.values.Value.{Value}
use Rattle.hg_table.specs.Agreement.{IsTableOver, over_stays}
use Rattle.hg_table.specs.Calls.{none_mine, page_mine, StandsOn, TakesNone, LookFault, IsVersionCheck, NamesPage, NamesOneOf}
use Rattle.hg_table.specs.Chains.{IsChain}
use Rattle.hg_table.specs.Places.{behind, first_seen, Finds, killed}
use Rattle.hg_table.specs.TableLaws.{chain_stays}
use Rattle.hg_table.specs.Versions.{Placed, IsTable}
use Rattle.hg_dml.specs.Deleting.{Concerns, pages_mine, IsDeleted, WritesWithin, Deletes, DeletesSome, WalkFault}
use Rattle.hg_dml.specs.DeleteSteps.{Removes}
use Rattle.hg_dml.specs.Walks.{HasEnded, HasStopped}
use Rattle.hg_dml.proofs.PutLaws.{none-mine}
use Rattle.hg_dml.proofs.WalkLaws.{HasWalked, WalkedSoFar, FoundNext, walk-begins, walk-found, walk-ends, walk-stops, walk-over, step-stays, step-killed, step-stops, walked-on, one-page}

-- ---- the space

pub within-none : (a : Space) (t : Table) (pages : List ℕ) → NoPins a → IsChain a t pages → WritesWithin a a t pages
within-none a t pages pins chain = record {
  chain = chain;
  steady = Steady_same (pages_mine pages) a pins;
  taken = refl;
  of_heap = λ q. refl;
}

-- a look more
pub within-looked : (a b c : Space) (t : Table) (pages : List ℕ) → WritesWithin a b t pages → Steady none_mine b c → TakesNone b c → WritesWithin a c t pages
within-looked a b c t pages w steady none = record {
  chain = chain_stays none_mine b c t pages steady (none-mine pages) w.chain;
  steady = Steady_then (pages_mine pages) a b c w.steady (Steady_wider none_mine (pages_mine pages) b c (λ q no. absurd no) (λ h no. no) (λ r no. no) steady);
  taken = none.taken ∙ w.taken;
  of_heap = λ q. steady.of_heap q (λ no. no) ∙ w.of_heap q;
}

-- a version of one of the pages was killed, or none was
pub within-removed : (a b c : Space) (t : Table) (pages : List ℕ) (place : Place) (stamp : ℕ) (gone : Bool) → IsTrue (has_page pages place.page)
    → WritesWithin a b t pages → Removes b c t place stamp gone → TakesNone b c → WritesWithin a c t pages
within-removed a b c t pages place stamp gone on w r none = record {
  chain = r.chain pages w.chain;
  steady = Steady_then (pages_mine pages) a b c w.steady
      (Steady_wider (page_mine place.page) (pages_mine pages) b c (λ q here. record { no = place.page; among = on; same = here }) (λ h no. no) (λ r no. no) r.steady);
  taken = none.taken ∙ w.taken;
  of_heap = λ q. r.of_heap q ∙ w.of_heap q;
}

-- a call that takes no page failed
walk-fault : (a b : Space) (f : PageFault) → LookFault IsVersionCheck f → HasCause a b (Some f) → WalkFault a b f
walk-fault a b fault.MainFault checks h = main_failed a b h
walk-fault a b fault.TempFault checks h = temp_failed a b h
walk-fault a b fault.MainFull checks h = checks
walk-fault a b fault.TempFull checks h = checks
walk-fault a b (fault.Damaged page check) checks h = h.damage

-- what a step does where it kills no version, and where it kills one
pub removes-none : (a : Space) (t : Table) (place : Place) (stamp : ℕ) → NoPins a → Removes a a t place stamp false
removes-none a t place stamp pins = record {
  table = λ columns pages versions table. table;
  chain = λ pages chain. chain;
  steady = Steady_same (page_mine place.page) a pins;
  of_heap = λ q. refl;
}

pub removes-one : (a b : Space) (t : Table) (place : Place) (stamp : ℕ)
    → ((columns : ℕ) (pages : List ℕ) (versions : List Placed) → IsTable a t columns pages versions → IsTable b t columns pages (killed place stamp versions))
    → ((pages : List ℕ) → IsChain a t pages → IsChain b t pages) → b.of_heap ≡ a.of_heap → Steady (page_mine place.page) a b → Removes a b t place stamp true
removes-one a b t place stamp known chain heaps steady = record {
  table = known;
  chain = chain;
  steady = steady;
  of_heap = λ q. ap (λ f. f q) heaps;
}

-- damage is found, and nothing was done
pub damage-found : (a : Space) (page : PageId) (check : Check) → a.told ≡ false → HasCause a a (Some (fault.Damaged page check))
damage-found a page check untold = record { later = Later_same a.counts; counts = refl; damage = untold }

pub untold : (a : Space) (fits : Bool) → fits ≡ false → (a.told ≡ true → fits ≡ true) → a.told ≡ false
untold a fits none known = false_from_ne_true a.told (λ yes. false≢true (sym none ∙ known yes))

-- ---- a walk

pub record DeletedSoFar (a b : Space) (t : Table) (columns : List Column) (c : ℕ → Bool) (s stamp : ℕ) (goes : List Value → Bool) (at : Option Place) (turns n : ℕ) : Type 0 where
  pub gone : List (List Value)
  pub many : n ≡ length gone
  pub walk : WalkedSoFar a b t columns c s stamp goes false at turns gone
  pub within : (pages : List ℕ) → IsChain a t pages → WritesWithin a b t pages

-- The next version that is seen was found.
pub record DeleteFound (a b : Space) (t : Table) (columns : List Column) (c : ℕ → Bool) (s stamp : ℕ) (goes : List Value → Bool) (place : Place) (row : List Value) (turns n : ℕ) : Type 0 where
  pub gone : List (List Value)
  pub many : n ≡ length gone
  pub next : FoundNext a b t columns c s stamp goes false place row turns gone
  pub within : (pages : List ℕ) → IsChain a t pages → WritesWithin a b t pages

module _ (a : Space) (t : Table) (columns : List Column) (c : ℕ → Bool) (s stamp : ℕ) (goes : List Value → Bool) where
  abbrev Deleted : Space → Option Place → ℕ → ℕ → Type 0
  Deleted b at turns n = DeletedSoFar a b t columns c s stamp goes at turns n

  pub delete-begins : NoPins a → Deleted a None 0 0
  delete-begins pins = record {
    gone = [];
    many = refl;
    walk = walk-begins a t columns c s stamp goes false pins;
    within = λ pages chain. within-none a t pages pins chain;
  }

  -- what an ended walk says
  deletes : (d : Space) (pages : List ℕ) (gone : List (List Value)) (n : ℕ) → n ≡ length gone → AllByRecursion (Concerns columns goes) gone → WritesWithin a d t pages → HasCause a d None
      → ((versions : List Placed) → IsTableOver a t columns pages versions → HasEnded d t columns c s stamp goes false pages versions gone)
      → Deletes a d t pages columns c s stamp goes n
  deletes d pages gone n many each within cause ended = record {
    gone = gone;
    concerned = record { each = each; all = λ versions table. (ended versions table).concerned };
    many = many;
    within = within;
    counts = cause.counts;
    deleted = λ versions table.
        let e = ended versions table in
        (e.now, e.table, subst (λ k. IsDeleted c s stamp goes versions e.now k) (sym many) (e.deleted refl));
  }

  deletes-some : (d : Space) (pages : List ℕ) (gone : List (List Value)) (f : PageFault) → WritesWithin a d t pages → LookFault IsVersionCheck f → HasCause a d (Some f) → NamesOneOf pages f
      → ((versions : List Placed) → IsTableOver a t columns pages versions → HasStopped d t columns c s stamp goes pages versions gone)
      → DeletesSome a d t pages columns c s stamp f
  deletes-some d pages gone f within checks cause named stopped = record {
    within = within;
    hidden = λ versions table. let h = stopped versions table in (h.now, h.table, h.hidden);
    cause = walk-fault a d f checks cause;
    counts = cause.counts;
    found = checks;
    page = named;
  }

  -- a search went on from the place
  module _ (b d : Space) (at : Option Place) (turns n : ℕ) (w : Deleted b at turns n) (steady : Steady none_mine b d) (none : TakesNone b d) where
    within-after : (pages : List ℕ) → IsChain a t pages → WritesWithin a d t pages
    within-after pages chain = within-looked a b d t pages (w.within pages chain) steady none

    pub delete-found : (found : Option Place) (place : Place) (old new : List Value) → found ≡ Some place
        → ((pages : List ℕ) (versions : List Placed) → IsTable b t (length columns) pages versions → Finds (first_seen c s (behind pages at versions)) found old new)
        → ((pages : List ℕ) → IsChain b t pages → StandsOn pages found) → HasCause b d None
        → DeleteFound a d t columns c s stamp goes place new turns n
    delete-found found place old new is seen on cause = record {
      gone = w.gone;
      many = w.many;
      next = walk-found a t columns c s stamp goes b d false at turns w.gone w.walk steady found place old new is seen on cause;
      within = within-after;
    }

    -- no version that is seen is left
    pub delete-ends : (found : Option Place) (old new : List Value) → found ≡ None → s < stamp
        → ((pages : List ℕ) (versions : List Placed) → IsTable b t (length columns) pages versions → Finds (first_seen c s (behind pages at versions)) found old new)
        → HasCause b d None → (pages : List ℕ) → IsChain a t pages → Deletes a d t pages columns c s stamp goes n
    delete-ends found old new is before seen cause pages chain =
        deletes d pages w.gone n w.many w.walk.each (within-after pages chain) (HasCause_behind a b d None w.walk.told w.walk.cause cause)
        (walk-ends a t columns c s stamp goes b d false at turns w.gone w.walk steady found old new is before seen pages)

    -- the search failed
    pub delete-failed : (f : PageFault) → LookFault IsVersionCheck f → HasCause b d (Some f)
        → (pages : List ℕ) → IsChain a t pages → NamesOneOf pages f → DeletesSome a d t pages columns c s stamp f
    delete-failed f checks cause pages chain named =
        deletes-some d pages w.gone f (within-after pages chain) checks (HasCause_behind a b d (Some f) w.walk.told w.walk.cause cause) named
        (walk-stops a t columns c s stamp goes b d false at turns w.gone w.walk steady pages)

  module _ (b d : Space) (place : Place) (row : List Value) (turns n : ℕ) (f : DeleteFound a b t columns c s stamp goes place row turns n) where
    -- the version was killed where its row goes
    pub delete-step : (went : Bool) → Removes b d t place stamp went → went ≡ goes row → fits_columns columns row ≡ true → TakesNone b d → HasCause b d None
        → (m : ℕ) → m ≡ n + (if went then 1 else 0) → Deleted d (Some place) (turns + 1) m
    delete-step true r is fits none cause m count = record {
      gone = f.gone ++ row ∷ [];
      many = count ∙ (let was = f.many in omega (arith, length-append f.gone (row ∷ [])));
      walk = walked-on a t columns c s stamp goes b false place row turns f.gone f.next d false (row ∷ []) (page_mine place.page) r.chain r.steady cause
          (record { fits = fits; passes = sym is }, tt)
          (λ pages versions h. step-killed a t columns c s stamp goes b false place row turns f.gone d pages versions h refl (sym is) r.table);
      within = λ pages chain. within-removed a b d t pages place stamp true (f.next.on pages chain).1 (f.within pages chain) r none;
    }
    delete-step false r is fits none cause m count = record {
      gone = f.gone ++ [];
      many = count ∙ (let was = f.many in omega (arith, length-append f.gone []));
      walk = walked-on a t columns c s stamp goes b false place row turns f.gone f.next d false [] (page_mine place.page) r.chain r.steady cause tt
          (λ pages versions h.
          subst (HasWalked d t columns c s stamp goes false pages versions (Some place) (turns + 1)) (sym (append-nil f.gone))
          (step-stays a t columns c s stamp goes b false place row turns f.gone d pages versions h (sym is)
          (record { table = r.table (length columns) pages ((h.now ++ h.before) ++ h.v ∷ h.left) h.table.table; fit = h.table.fit })));
      within = λ pages chain. within-removed a b d t pages place stamp false (f.next.on pages chain).1 (f.within pages chain) r none;
    }

    -- the step failed
    pub delete-stops : (e : PageFault) → Steady none_mine b d → TakesNone b d → LookFault IsVersionCheck e → NamesPage place.page e → HasCause b d (Some e)
        → (pages : List ℕ) → IsChain a t pages → DeletesSome a d t pages columns c s stamp e
    delete-stops e steady none checks named cause pages chain =
        deletes-some d pages (f.gone ++ []) e (within-looked a b d t pages (f.within pages chain) steady none) checks
        (HasCause_behind a b d (Some e) f.next.told f.next.cause cause) (one-page a t columns c s stamp goes place e pages (f.next.on pages chain).1 named)
        (λ versions table.
        let h = f.next.found pages versions table in
        step-stops a t columns c s stamp goes b false place row turns f.gone d pages versions h [] (inl refl)
        (over_stays none_mine b d t columns pages ((h.now ++ h.before) ++ h.v ∷ h.left) steady (none-mine pages) h.table))

  pub delete-over : (b : Space) (at : Option Place) (turns n : ℕ) → s < stamp → Deleted b at turns n → taken_in a Main * 128 ≤ turns
      → (pages : List ℕ) → IsChain a t pages → Deletes a b t pages columns c s stamp goes n
  delete-over b at turns n before w all pages chain =
      deletes b pages w.gone n w.many w.walk.each (w.within pages chain) w.walk.cause
      (walk-over a t columns c s stamp goes b false at turns w.gone before w.walk all pages)
