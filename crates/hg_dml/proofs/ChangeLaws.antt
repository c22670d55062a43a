-- Where the walk of an UPDATE stands: the rows that it made are put aside, and the versions killed.
use Rattle.std.specs.Prelude.{◌≡◌, ℕ, ◌+◌, ◌*◌, ◌^◌, ◌<◌, ◌≤◌, ◌⊎◌, Bool, true, false, List, [], ◌∷◌, ◌++◌, length, map, Option, Some, None, if◌then◌else◌}
use Rattle.std.specs.List.{AllByRecursion}
use Rattle.std.proofs.Common.{sym, ◌∙◌, ap, subst, refl, arith, inl, inr, length-append}
use Rattle.std.proofs.lemmas.Bool.{false≢true}
use Rattle.std.proofs.lemmas.List.{append-nil, map-append}
use Rattle.hg_base.specs.Causes.{HasCause}
use Rattle.hg_base.specs.LineLaws.{all_has}
use Rattle.hg_base.specs.Lines.{NoneMine, has_page}
use Rattle.hg_base.specs.Space.{Space, NoPins, key, key_in, taken_in}
use Rattle.hg_base.specs.Steadiness.{Mine, Steady}
use Rattle.hg_base.specs.SteadyLaws.{Steady_same, HasCause_behind, HasCause_none}
use Rattle.hg_base.specs.declared.Check.{Check}
use Rattle.hg_base.specs.declared.Check.TheVariants.{Kind, Size, Frame, Link, Level, Order, RowBytes}
use Rattle.hg_base.specs.declared.File.TheVariants.{Main, Temp}
use Rattle.hg_base.specs.declared.PageId.{PageId}
use Rattle.hg_base.specs.declared.Place.{Place}
use Rattle.hg_base.specs.declared.Table.{Table}
use Rattle.hg_base.specs.declared.pages.PageFault.{PageFault}
use Rattle.hg_base.specs.declared.pages.PageFault.TheVariants as fault
use Rattle.hg_model.specs.Tables.{fits_columns}
use Rattle.hg_model.specs.declared.trees.Column.{Column}
use Rattle.hg_model.specs.declared.values.Value.{Value}
use Rattle.hg_run.specs.Calls as runs
use Rattle.hg_run.specs.RunLaws.{chain_stays as run_stays}
use Rattle.hg_run.specs.Runs.{IsChain as IsRunChain, no_run}
use Rattle.hg_run.specs.declared.Run.{Run}
use Rattle.hg_table.specs.Agreement.{IsTableOver, over_stays}
use Rattle.hg_table.specs.Calls.{none_mine, page_mine, main_page, StandsOn, TakesNone, LookFault, IsVersionCheck, NamesOneOf}
use Rattle.hg_table.specs.Chains.{IsChain}
use Rattle.hg_table.specs.Places.{behind, first_seen, Finds}
use Rattle.hg_table.specs.Versions.{Placed, IsTable}
use Rattle.hg_value.specs.Coding.{IsStorable}
use Rattle.hg_dml.specs.Deleting.{Concerns}
use Rattle.hg_dml.specs.Making.{goes_by, made_by, IsChange, Notes, AreCauses, stand}
use Rattle.hg_dml.specs.Updating.{FindsUpdating, IsUpdateDamage}
use Rattle.hg_dml.specs.UpdateSteps.{PutsAside, Kills, Moves, FailsAside, FailsKill, StepDone, IsDamagedRow, StepFails, HoldsAside, GrowsBeside, LacksRoom, ChangedAll, ChangedSome}
use Rattle.hg_dml.specs.Walks.{HasStopped}
use Rattle.hg_dml.specs.declared.making.Causes.{Causes}
use Rattle.hg_dml.specs.declared.making.Change.{Change}
use Rattle.hg_dml.proofs.AsideLaws.{taken_in-same, full-count, none-temp, none-main, none-none, beside-none, beside-looked, beside-killed, put, aside-more, beside-more, temp-more, aside-none, aside-stays}
use Rattle.hg_dml.proofs.DeletedLaws.{all-append}
use Rattle.hg_dml.proofs.DeleteLaws.{damage-found}
use Rattle.hg_dml.proofs.MakingLaws.{causes-more, made-length, fits-length, none-stood}
use Rattle.hg_dml.proofs.PutLaws.{last-among, none-mine}
use Rattle.hg_dml.proofs.WalkLaws.{HasWalked, HasFound, WalkedSoFar, FoundNext, walk-begins, walk-found, walk-ends, walk-stops, walk-over, step-stays, step-spared, step-killed, step-stops, found-stays, walked-on, one-page}

-- ---- faults

-- what a search, a read or a kill finds
pub finds-main : (a : Space) (pages : List ℕ) (f : PageFault) → LookFault IsVersionCheck f → NamesOneOf pages f → FindsUpdating a pages f
finds-main a pages fault.MainFault checks named = tt
finds-main a pages fault.TempFault checks named = tt
finds-main a pages fault.MainFull checks named = tt
finds-main a pages fault.TempFull checks named = tt
finds-main a pages (fault.Damaged page check) checks named = record { at = inl (ap (λ (p : PageId). p.file) named.0, named.1); failed = checks }

pub page-check : (check : Check) → runs.IsPageCheck check → IsVersionCheck check
page-check Kind h = tt
page-check Size h = tt
page-check Frame h = h
page-check Link h = h
page-check Level h = h
page-check Order h = h
page-check RowBytes h = absurd h

-- damage of a page of the run
pub damaged-temp : (a : Space) (pages temp : List ℕ) (page : PageId) (x : ℕ) (check : Check) → AllByRecursion (λ x. a.taken (key_in Temp x) ≡ false) temp → page ≡ runs.temp_page x
    → has_page temp x ≡ true → IsVersionCheck check → IsUpdateDamage a pages page check
damaged-temp a pages temp page x check fresh is on checks = record {
  at = inr (ap (λ (p : PageId). p.file) is, ap (λ (p : PageId). a.taken (key p)) is ∙ all_has (λ y. a.taken (key_in Temp y) ≡ false) temp x fresh on);
  failed = checks;
}

finds-last : (a b : Space) (pages temp : List ℕ) (run : Run) (f : PageFault) → AllByRecursion (λ x. a.taken (key_in Temp x) ≡ false) temp → IsRunChain b run temp
    → runs.AppendFault b f → runs.NamesGiven run.last f → FindsUpdating a pages f
finds-last a b pages temp run fault.MainFault fresh chain h named = tt
finds-last a b pages temp run fault.TempFault fresh chain h named = tt
finds-last a b pages temp run fault.MainFull fresh chain h named = tt
finds-last a b pages temp run fault.TempFull fresh chain h named = tt
finds-last a b pages temp run (fault.Damaged page check) fresh chain h named = by run.last refl named
  where
    by : (o : Option ℕ) → run.last ≡ o → runs.NamesGiven o (fault.Damaged page check) → IsUpdateDamage a pages page check
    by None e named = absurd named
    by (Some x) e named = damaged-temp a pages temp page x check fresh named (last-among temp x (sym chain.last ∙ e)) (page-check check h)

pub no-full : (a : Space) (n : ℕ) (f : PageFault) → LookFault IsVersionCheck f → LacksRoom a n f
no-full a n fault.MainFault h = tt
no-full a n fault.TempFault h = tt
no-full a n fault.MainFull h = absurd h
no-full a n fault.TempFull h = absurd h
no-full a n (fault.Damaged page check) h = tt

lacks-temp : (a b : Space) (n m : ℕ) (f : PageFault) → b.limit ≡ a.limit → taken_in b Temp ≤ taken_in a Temp + m → m < n → runs.AppendFault b f → LacksRoom a n f
lacks-temp a b n m fault.MainFault limit few less h = tt
lacks-temp a b n m fault.TempFault limit few less h = tt
lacks-temp a b n m fault.MainFull limit few less h = absurd h
lacks-temp a b n m fault.TempFull limit few less h =
    let all : taken_in b Temp ≡ b.limit Temp = full-count b.taken Temp (b.limit Temp) h in
    let same : b.limit Temp ≡ a.limit Temp = ap (λ l. l Temp) limit in
    omega arith
lacks-temp a b n m (fault.Damaged page check) limit few less h = tt

-- ---- the walk

module _ (a : Space) (t : Table) (change : Change) (c : ℕ → Bool) (s stamp : ℕ) where
  abbrev columns : List Column
  columns = change.columns.now

  abbrev goes : List Value → Bool
  goes = goes_by change

  abbrev made : List Value → List Value
  made = made_by change

  -- what stands beside the walk, whose rows that go are these
  pub record Side (b : Space) (run : Run) (causes : Causes) (gone : List (List Value)) : Type 0 where
    pub are : AreCauses columns (map made gone) causes
    pub rows : List (List Value)
    pub all : stand causes ≡ false → rows ≡ map made gone
    pub less : length rows ≤ length gone
    pub storable : AllByRecursion IsStorable rows
    pub temp : List ℕ
    pub aside : HoldsAside b run temp rows
    pub beside : (pages : List ℕ) → IsChain a t pages → GrowsBeside a b t pages pages 0 temp
    pub more : taken_in b Temp ≤ taken_in a Temp + length rows
    pub limit : b.limit ≡ a.limit

  pub record ChangedSoFar (b : Space) (run : Run) (causes : Causes) (at : Option Place) (turns n : ℕ) : Type 0 where
    pub gone : List (List Value)
    pub many : n ≡ length gone
    pub walk : WalkedSoFar a b t columns c s stamp goes (stand causes) at turns gone
    pub side : Side b run causes gone

  -- The next version that is seen was found.
  pub record ChangeFound (b : Space) (run : Run) (causes : Causes) (place : Place) (row : List Value) (turns n : ℕ) : Type 0 where
    pub gone : List (List Value)
    pub many : n ≡ length gone
    pub next : FoundNext a b t columns c s stamp goes (stand causes) place row turns gone
    pub side : Side b run causes gone

  pub change-begins : (run : Run) (causes : Causes) → NoPins a → run ≡ no_run → AreCauses columns [] causes → ChangedSoFar a run causes None 0 0
  change-begins run causes pins is are = record {
    gone = [];
    many = refl;
    walk = walk-begins a t columns c s stamp goes (stand causes) pins;
    side = record {
      are = are;
      rows = [];
      all = λ e. refl;
      less = omega arith;
      storable = tt;
      temp = [];
      aside = subst (λ r. HoldsAside a r [] []) (sym is) (aside-none a);
      beside = λ pages chain. beside-none a t pages pins chain;
      more = omega arith;
      limit = refl;
    };
  }

  pub side-numbers : (b : Space) (run : Run) (causes : Causes) (gone : List (List Value)) → a.limit Temp ≤ 2 ^ 32 → Side b run causes gone → b.limit Temp ≤ 2 ^ 32
  side-numbers b run causes gone few h = subst (λ l. l Temp ≤ 2 ^ 32) (sym h.limit) few

  -- a call that takes no page and changes none of the run's
  side-stays : (m : Mine) (b d : Space) (run : Run) (causes : Causes) (gone : List (List Value)) (h : Side b run causes gone) → Steady m b d → ((temp : List ℕ) → NoneMine Temp m temp) → d.taken ≡ b.taken
      → ((pages : List ℕ) → IsChain a t pages → GrowsBeside a d t pages pages 0 h.temp) → Side d run causes gone
  side-stays m b d run causes gone h steady apart taken beside = record {
    are = h.are;
    rows = h.rows;
    all = h.all;
    less = h.less;
    storable = h.storable;
    temp = h.temp;
    aside = aside-stays m b d run h.temp h.rows steady (apart h.temp) h.aside;
    beside = beside;
    more = let up = h.more in let same = taken_in-same b d Temp steady.limit (λ x. ap (λ f. f (key_in Temp x)) taken) in omega arith;
    limit = steady.limit ∙ h.limit;
  }

  side-looked : (b d : Space) (run : Run) (causes : Causes) (gone : List (List Value)) → Side b run causes gone → Steady none_mine b d → d.taken ≡ b.taken → Side d run causes gone
  side-looked b d run causes gone h steady taken =
      side-stays none_mine b d run causes gone h steady none-none taken (λ pages chain. beside-looked a b d t pages h.temp (h.beside pages chain) steady taken)

  side-killed : (b d : Space) (run : Run) (causes : Causes) (gone : List (List Value)) (place : Place) → Side b run causes gone → ((pages : List ℕ) → IsChain a t pages → has_page pages place.page ≡ true)
      → Kills b d t place stamp → Side d run causes gone
  side-killed b d run causes gone place h on k =
      side-stays (page_mine place.page) b d run causes gone h k.steady (none-main place.page) k.taken
      (λ pages chain. beside-killed a b d t place stamp pages h.temp (h.beside pages chain) (on pages chain) k)

  more-are : (gone : List (List Value)) (row : List Value) (old new : Causes) → IsChange change → fits_columns columns row ≡ true → AreCauses columns (map made gone) old → Notes columns (made row) old new
      → AreCauses columns (map made (gone ++ row ∷ [])) new
  more-are gone row old new is fits are notes =
      subst (λ rows. AreCauses columns rows new) (sym (map-append made gone (row ∷ [])))
      (causes-more columns (map made gone) (made row) old new (made-length change row is (fits-length columns row fits)) are notes)

  -- a row that goes, where a cause stands
  side-spared : (b : Space) (run : Run) (old new : Causes) (gone : List (List Value)) (row : List Value) → IsChange change → fits_columns columns row ≡ true → Side b run old gone
      → Notes columns (made row) old new → stand new ≡ true → Side b run new (gone ++ row ∷ [])
  side-spared b run old new gone row is fits h notes known = record {
    are = more-are gone row old new is fits h.are notes;
    rows = h.rows;
    all = λ none. absurd (false≢true (sym none ∙ known));
    less = let was = h.less in omega (arith, length-append gone (row ∷ []));
    storable = h.storable;
    temp = h.temp;
    aside = h.aside;
    beside = h.beside;
    more = h.more;
    limit = h.limit;
  }

  -- where none does, its new row was put aside
  side-put : (b d : Space) (old new : Run) (was now : Causes) (gone : List (List Value)) (row : List Value) → IsChange change → fits_columns columns row ≡ true → Side b old was gone
      → Notes columns (made row) was now → stand now ≡ false → PutsAside b d old new (made row) → Side d new now (gone ++ row ∷ [])
  side-put b d old new was now gone row is fits h notes none p =
      let before : stand was ≡ false = none-stood columns (made row) was now notes none in
      let w = put b d old new h.rows (made row) h.temp h.aside p in
      record {
        are = more-are gone row was now is fits h.are notes;
        rows = h.rows ++ made row ∷ [];
        all = λ e. ap (λ l. l ++ made row ∷ []) (h.all before) ∙ sym (map-append made gone (row ∷ []));
        less = let l = h.less in omega (arith, length-append gone (row ∷ []), length-append h.rows (made row ∷ []));
        storable = all-append IsStorable h.rows (made row ∷ []) h.storable (p.storable, tt);
        temp = w.now;
        aside = aside-more b d old new h.rows (made row) h.temp h.aside p;
        beside = λ pages chain. beside-more b d old new h.rows (made row) h.temp h.aside p a t pages (h.beside pages chain);
        more = let up = h.more in let one = temp-more b d old new h.rows (made row) h.temp h.aside p in omega (arith, length-append h.rows (made row ∷ []));
        limit = p.steady.limit ∙ h.limit;
      }

  -- the search went on
  module _ (b d : Space) (run : Run) (causes : Causes) (at : Option Place) (turns n : ℕ) (w : ChangedSoFar b run causes at turns n) (steady : Steady none_mine b d) (none : TakesNone b d) where
    pub change-found : (found : Option Place) (place : Place) (old new : List Value) → found ≡ Some place
        → ((pages : List ℕ) (versions : List Placed) → IsTable b t (length columns) pages versions → Finds (first_seen c s (behind pages at versions)) found old new)
        → ((pages : List ℕ) → IsChain b t pages → StandsOn pages found) → HasCause b d None
        → ChangeFound d run causes place new turns n
    change-found found place old new is seen on cause = record {
      gone = w.gone;
      many = w.many;
      next = walk-found a t columns c s stamp goes b d (stand causes) at turns w.gone w.walk steady found place old new is seen on cause;
      side = side-looked b d run causes w.gone w.side steady none.taken;
    }

    pub change-ends : (found : Option Place) (old new : List Value) → found ≡ None → s < stamp
        → ((pages : List ℕ) (versions : List Placed) → IsTable b t (length columns) pages versions → Finds (first_seen c s (behind pages at versions)) found old new)
        → HasCause b d None → ChangedAll a d t columns c s stamp goes made run causes n
    change-ends found old new is before seen cause =
        let side = side-looked b d run causes w.gone w.side steady none.taken in
        record {
          gone = w.gone;
          many = w.many;
          each = w.walk.each;
          are = side.are;
          rows = side.rows;
          all = side.all;
          storable = side.storable;
          temp = side.temp;
          aside = side.aside;
          beside = side.beside;
          cause = HasCause_behind a b d None w.walk.told w.walk.cause cause;
          ended = walk-ends a t columns c s stamp goes b d (stand causes) at turns w.gone w.walk steady found old new is before seen;
        }

    pub change-failed : (f : PageFault) → LookFault IsVersionCheck f → HasCause b d (Some f) → ((pages : List ℕ) → IsChain b t pages → NamesOneOf pages f) → ChangedSome a d t columns c s stamp goes run f
    change-failed f checks cause named =
        let side = side-looked b d run causes w.gone w.side steady none.taken in
        record {
          gone = w.gone;
          each = w.walk.each;
          temp = side.temp;
          chain = side.aside.chain;
          beside = side.beside;
          cause = HasCause_behind a b d (Some f) w.walk.told w.walk.cause cause;
          room = no-full a (length w.gone) f checks;
          found = λ pages chain. finds-main a pages f checks (named pages (w.walk.on pages chain).0);
          stopped = walk-stops a t columns c s stamp goes b d (stand causes) at turns w.gone w.walk steady;
        }

  pub change-over : (b : Space) (run : Run) (causes : Causes) (at : Option Place) (turns n : ℕ) → s < stamp → ChangedSoFar b run causes at turns n → taken_in a Main * 128 ≤ turns
      → ChangedAll a b t columns c s stamp goes made run causes n
  change-over b run causes at turns n before w all = record {
    gone = w.gone;
    many = w.many;
    each = w.walk.each;
    are = w.side.are;
    rows = w.side.rows;
    all = w.side.all;
    storable = w.side.storable;
    temp = w.side.temp;
    aside = w.side.aside;
    beside = w.side.beside;
    cause = w.walk.cause;
    ended = walk-over a t columns c s stamp goes b (stand causes) at turns w.gone before w.walk all;
  }

  -- one step
  module _ (b d : Space) (old new : Run) (was now : Causes) (place : Place) (row : List Value) (turns n : ℕ) (is : IsChange change) (f : ChangeFound b old was place row turns n) where
    abbrev next : Type 0
    next = FoundNext a b t columns c s stamp goes (stand was) place row turns f.gone

    on-pages : (pages : List ℕ) → IsChain a t pages → has_page pages place.page ≡ true
    on-pages pages chain = (f.next.on pages chain).1

    stays-there : (pages : List ℕ) (versions : List Placed) (h : HasFound b t columns c s stamp goes (stand was) pages versions place row turns f.gone)
        → HasWalked b t columns c s stamp goes (stand was) pages versions (Some place) (turns + 1) f.gone → HasWalked b t columns c s stamp goes (stand was) pages versions (Some place) (turns + 1) (f.gone ++ [])
    stays-there pages versions h w = subst (HasWalked b t columns c s stamp goes (stand was) pages versions (Some place) (turns + 1)) (sym (append-nil f.gone)) w

    -- the row stays
    step-keeps : goes row ≡ false → ChangedSoFar b old was (Some place) (turns + 1) n
    step-keeps stays = record {
      gone = f.gone ++ [];
      many = let m = f.many in omega (arith, length-append f.gone []);
      walk = walked-on a t columns c s stamp goes b (stand was) place row turns f.gone f.next b (stand was) [] none_mine (λ pages chain. chain) (Steady_same none_mine b f.next.pins) (HasCause_none b b refl) tt
          (λ pages versions h. stays-there pages versions h (step-stays a t columns c s stamp goes b (stand was) place row turns f.gone b pages versions h stays h.table));
      side = subst (Side b old was) (sym (append-nil f.gone)) f.side;
    }

    -- it goes, and a cause stands
    step-spares : fits_columns columns row ≡ true → goes row ≡ true → Notes columns (made row) was now → stand now ≡ true → ChangedSoFar b old now (Some place) (turns + 1) (n + 1)
    step-spares fits going notes known = record {
      gone = f.gone ++ row ∷ [];
      many = let m = f.many in omega (arith, length-append f.gone (row ∷ []));
      walk = subst (λ k. WalkedSoFar a b t columns c s stamp goes k (Some place) (turns + 1) (f.gone ++ row ∷ [])) (sym known)
          (walked-on a t columns c s stamp goes b (stand was) place row turns f.gone f.next b true (row ∷ []) none_mine (λ pages chain. chain) (Steady_same none_mine b f.next.pins) (HasCause_none b b refl)
          (record { fits = fits; passes = going }, tt)
          (λ pages versions h. step-spared a t columns c s stamp goes b (stand was) place row turns f.gone b pages versions h going h.table));
      side = side-spared b old was now f.gone row is fits f.side notes known;
    }

    -- it goes, and its new row was put aside and the version killed
    step-moves : fits_columns columns row ≡ true → goes row ≡ true → Notes columns (made row) was now → stand now ≡ false → Moves b d t place stamp old new (made row)
        → ChangedSoFar d new now (Some place) (turns + 1) (n + 1)
    step-moves fits going notes none m =
        let before : stand was ≡ false = none-stood columns (made row) was now notes none in
        let there = found-stays a t columns c s stamp goes b (stand was) place row turns f.gone f.next (runs.append_mine old new) m.mid (none-temp old new) m.aside.steady m.aside.cause in
        record {
          gone = f.gone ++ row ∷ [];
          many = let k = f.many in omega (arith, length-append f.gone (row ∷ []));
          walk = subst (λ k. WalkedSoFar a d t columns c s stamp goes k (Some place) (turns + 1) (f.gone ++ row ∷ [])) (sym none)
              (walked-on a t columns c s stamp goes m.mid (stand was) place row turns f.gone there d false (row ∷ []) (page_mine place.page) m.dies.chain m.dies.steady m.dies.cause
              (record { fits = fits; passes = going }, tt)
              (λ pages versions h. step-killed a t columns c s stamp goes m.mid (stand was) place row turns f.gone d pages versions h before going m.dies.kills));
          side = side-killed m.mid d new now (f.gone ++ row ∷ []) place (side-put b m.mid old new was now f.gone row is fits f.side notes none m.aside) on-pages m.dies;
        }

    pub change-step : (went : Bool) → StepDone b d t change place stamp row old new was now went → fits_columns columns row ≡ true → (m : ℕ) → m ≡ n + (if went then 1 else 0)
        → ChangedSoFar d new now (Some place) (turns + 1) m
    change-step false h fits m count =
        let same : n ≡ m = omega (arith, count) in
        subst (λ k. ChangedSoFar d new now (Some place) (turns + 1) k) same
        (subst (λ k. ChangedSoFar d new k (Some place) (turns + 1) n) (sym h.causes)
        (subst (λ r. ChangedSoFar d r was (Some place) (turns + 1) n) (sym h.same.run)
        (subst (λ x. ChangedSoFar x old was (Some place) (turns + 1) n) (sym h.same.space) (step-keeps h.stays))))
    change-step true h fits m count =
        subst (λ k. ChangedSoFar d new now (Some place) (turns + 1) k) (sym count)
        (elim h.done [
          | inl spared ↦
              subst (λ r. ChangedSoFar d r now (Some place) (turns + 1) (n + 1)) (sym spared.1.run)
              (subst (λ x. ChangedSoFar x old now (Some place) (turns + 1) (n + 1)) (sym spared.1.space) (step-spares fits h.goes h.notes spared.0))
          | inr moved ↦ step-moves fits h.goes h.notes moved.0 moved.1
        ])

    -- the step failed
    stopped-at : (k : Space) (x : List (List Value)) → (x ≡ []) ⊎ ((if goes row then row ∷ [] else []) ≡ x) → FoundNext a k t columns c s stamp goes (stand was) place row turns f.gone
        → Steady none_mine k d → (pages : List ℕ) (versions : List Placed) → IsTableOver a t columns pages versions → HasStopped d t columns c s stamp goes pages versions (f.gone ++ x)
    stopped-at k x how there steady pages versions table =
        let h = there.found pages versions table in
        step-stops a t columns c s stamp goes k (stand was) place row turns f.gone d pages versions h x how
        (over_stays none_mine k d t columns pages ((h.now ++ h.before) ++ h.v ∷ h.left) steady (none-mine pages) h.table)

    one-gone : goes row ≡ true → (if goes row then row ∷ [] else []) ≡ row ∷ []
    one-gone going = ap (λ b. if b then row ∷ [] else []) going

    fails-damaged : (e : PageFault) → IsDamagedRow b d place old new e → ChangedSome a d t columns c s stamp goes new e
    fails-damaged e h =
        let P : PageFault → Type 0 = λ g. ChangedSome a b t columns c s stamp goes old g in
        let steady = Steady_same none_mine b f.next.pins in
        subst (λ r. ChangedSome a d t columns c s stamp goes r e) (sym h.same.run)
        (subst (λ x. ChangedSome a x t columns c s stamp goes old e) (sym h.same.space)
        (subst P (sym h.is) (record {
          gone = f.gone ++ [];
          each = subst (AllByRecursion (Concerns columns goes)) (sym (append-nil f.gone)) f.next.each;
          temp = f.side.temp;
          chain = f.side.aside.chain;
          beside = f.side.beside;
          cause = HasCause_behind a b b (Some (fault.Damaged (main_page place.page) RowBytes)) f.next.told f.next.cause (damage-found b (main_page place.page) RowBytes h.untold);
          room = tt;
          found = λ pages chain. record { at = inl (refl, on-pages pages chain); failed = tt };
          stopped = λ pages versions table.
              let k = f.next.found pages versions table in
              step-stops a t columns c s stamp goes b (stand was) place row turns f.gone b pages versions k [] (inl refl) k.table;
        })))

    fails-aside : (e : PageFault) → Concerns columns goes row → FailsAside b d old new e → ChangedSome a d t columns c s stamp goes new e
    fails-aside e here h =
        let side = side-looked b d old was f.gone f.side h.steady h.taken in
        subst (λ r. ChangedSome a d t columns c s stamp goes r e) (sym h.same) (record {
          gone = f.gone ++ row ∷ [];
          each = all-append (Concerns columns goes) f.gone (row ∷ []) f.next.each (here, tt);
          temp = side.temp;
          chain = side.aside.chain;
          beside = side.beside;
          cause = HasCause_behind a b d (Some e) f.next.told f.next.cause h.cause;
          room = lacks-temp a b (length (f.gone ++ row ∷ [])) (length f.side.rows) e f.side.limit f.side.more (let l = f.side.less in omega (arith, length-append f.gone (row ∷ []))) h.fails;
          found = λ pages chain. finds-last a b pages f.side.temp old e (f.side.beside pages chain).fresh f.side.aside.chain h.fails h.named;
          stopped = stopped-at b (row ∷ []) (inr (one-gone here.passes)) f.next h.steady;
        })

    fails-kill : (e : PageFault) → Concerns columns goes row → FailsKill b d place old new (made row) e → ChangedSome a d t columns c s stamp goes new e
    fails-kill e here h =
        let there = found-stays a t columns c s stamp goes b (stand was) place row turns f.gone f.next (runs.append_mine old new) h.mid (none-temp old new) h.aside.steady h.aside.cause in
        let w = put b h.mid old new f.side.rows (made row) f.side.temp f.side.aside h.aside in
        record {
          gone = f.gone ++ row ∷ [];
          each = all-append (Concerns columns goes) f.gone (row ∷ []) f.next.each (here, tt);
          temp = w.now;
          chain = run_stays none_mine h.mid d new w.now h.steady (none-none w.now) w.chain;
          beside = λ pages chain. beside-looked a h.mid d t pages w.now (beside-more b h.mid old new f.side.rows (made row) f.side.temp f.side.aside h.aside a t pages (f.side.beside pages chain)) h.steady h.taken.taken;
          cause = HasCause_behind a h.mid d (Some e) there.told there.cause h.cause;
          room = no-full a (length (f.gone ++ row ∷ [])) e h.fails;
          found = λ pages chain. finds-main a pages e h.fails (one-page a t columns c s stamp goes place e pages (on-pages pages chain) h.named);
          stopped = stopped-at h.mid (row ∷ []) (inr (one-gone here.passes)) there h.steady;
        }

    pub change-stops : (e : PageFault) → StepFails b d change place row old new e → ChangedSome a d t columns c s stamp goes new e
    change-stops e h = elim h [
      | inl damaged ↦ fails-damaged e damaged
      | inr going ↦ elim going.fails [
        | inl aside ↦ fails-aside e going.concerned aside
        | inr kill ↦ fails-kill e going.concerned kill
      ]
    ]
